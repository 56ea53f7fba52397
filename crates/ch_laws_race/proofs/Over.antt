-- The end of input, as moves.
use Rattle.std.specs.Prelude.{◌≡◌, ◌⊎◌, ℕ, Bool, true, false, cond, List, [], ◌∷◌, find, slice_set, Option, Some, None, Ok, if◌then◌else◌}
use Rattle.std.proofs.Common.{refl, ap, sym, ◌∙◌, subst, inl, inr}
use Rattle.ch_base.specs.declared.address.Address.{Address}
use Rattle.ch_base.specs.declared.event.Event.TheVariants as events
use Rattle.ch_base.specs.declared.event.Why.TheVariants.{Disconnect}
use Rattle.ch_reader.specs.declared.item.Expected.{Expected}
use Rattle.ch_reader.specs.declared.item.Expected.TheVariants as expected
use Rattle.ch_link.specs.Table.{step_of}
use Rattle.ch_link.specs.Sockets.{names}
use Rattle.ch_link.specs.declared.LinkState.{LinkState}
use Rattle.ch_link.specs.declared.LinkState.TheVariants.{Idle, Dialing, Up}
use Rattle.ch_link.specs.declared.LinkIn.TheVariants as inputs
use Rattle.ch_model.specs.declared.name.End.{End}
use Rattle.ch_model.specs.declared.name.End.TheVariants.{O, T}
use Rattle.ch_model.specs.declared.step.Step.{Step}
use Rattle.ch_model.specs.declared.step.Step.TheVariants as steps
use Rattle.ch_model.specs.Stages.{Stage, Open, Ended, is_open}
use Rattle.ch_model.specs.CellSteps.{told_steps}
use Rattle.ch_model.specs.HostState.{Link, Socket, HostState}
use Rattle.ch_model.specs.HostSteps.{Stepped, still, is_socket, link_with, with_link, with_socket}
use Rattle.ch_model.specs.HostWrites.{leaves, end_socket, ended_in, forgotten}
use Rattle.ch_model.specs.HostLinks as links
use Rattle.ch_model.specs.HostItems.{gone_from, is_gone}
use Rattle.ch_model.specs.Host.{host_on}
use Rattle.ch_model.specs.WorldState.{Cell, WorldSocket, World}
use Rattle.ch_model.specs.WorldSockets as world
use Rattle.ch_model.specs.WorldSockets.{end_of, with_end}
use Rattle.ch_model.specs.WorldSteps.{all_told}
use Rattle.ch_race.specs.Pair as pair
use Rattle.ch_race.specs.Pair.{Side, other, is_greater, Sock, Pair, put, point}
use Rattle.ch_race.specs.Moves.{Allowed, IsOpen_o, IsOpen_t, hears, obeys, after}
use Rattle.ch_laws_race.specs.Scene.{Scene, hosts_of, host_of, link_of, after_steps, done_by}
use Rattle.ch_laws_race.specs.View.{Reader, reader_of, reader_at, unread_at, opener_end, target_end, sock_of, place_of, with_places, view}
use Rattle.ch_laws_race.specs.Sound.{first_of, opener_by}
use Rattle.ch_laws_race.specs.Reading.{IsUser, IsSeen}
use Rattle.ch_laws_race.specs.Ends.{InputEnds, end_at, input_ends}
use Rattle.ch_laws_race.proofs.Keys.{link_named, socket_kept}
use Rattle.ch_laws_race.proofs.Sockets.{Alike, alike_self, alike_with, set_same}
use Rattle.ch_laws_race.proofs.Views.{self_number, own_reader, Kept, kept_all, kept_link, kept_socket}
use Rattle.ch_laws_race.proofs.Pairs.{point_same}
use Rattle.ch_laws_race.proofs.Steps.{leaves_there, goes_down_there}
use Rattle.ch_laws_race.proofs.Socks.{sock_by, ended_at, gone_there, end_of_own}
use Rattle.ch_laws_race.proofs.Readings.{other_twice}
use Rattle.ch_laws_race.proofs.One.{by_end, World_of, place_is, sock_is, seen_after}

-- ---- the host

-- a link that has lost its socket, and is told so
abbrev pub told_lost : Link → List Step
told_lost link = steps.Broke link.end link.peer Disconnect ∷ steps.Post link.end (events.ConnectionLost link.peer Disconnect) ∷ []

loses_up : (link : Link) (sock : ℕ) (probed : Bool) (now : HostState) → link.state ≡ Up sock probed → gone_from sock link now
    ≡ Ok (steps.Down sock ∷ told_lost link, with_link (forgotten link Idle) (end_socket sock (with_link (record link { state = Idle }) now)))
unfolding step_of
loses_up link sock probed now up = ap (λ (k : LinkState). gone_from sock (record link { state = k }) now) up
    ∙ ap (λ b. if b then links.hears inputs.Gone (record link { state = Up sock probed }) now else leaves sock now) (self_number sock) ∙ told link where
      told : (l : Link) → links.hears inputs.Gone (record l { state = Up sock probed }) now
          ≡ Ok (steps.Down sock ∷ told_lost l, with_link (forgotten l Idle) (end_socket sock (with_link (record l { state = Idle }) now)))
      told l = refl

loses_dial : (link : Link) (sock : ℕ) (now : HostState) → link.state ≡ Dialing sock → gone_from sock link now
    ≡ Ok (steps.Left sock ∷ told_lost link, with_link (forgotten link Idle) (end_socket sock (with_link (record link { state = Idle }) now)))
unfolding step_of
loses_dial link sock now dials = ap (λ (k : LinkState). gone_from sock (record link { state = k }) now) dials
    ∙ ap (λ b. if b then links.hears inputs.Gone (record link { state = Dialing sock }) now else leaves sock now) (self_number sock) ∙ told link where
      told : (l : Link) → links.hears inputs.Gone (record l { state = Dialing sock }) now
          ≡ Ok (steps.Left sock ∷ told_lost l, with_link (forgotten l Idle) (end_socket sock (with_link (record l { state = Idle }) now)))
      told l = refl

-- ---- the pair

lost_up : (v : Pair) (x : Side) (i : ℕ) (probed : Bool) → v.link x ≡ Up i probed → hears step_of x i inputs.Gone v ≡ point x Idle (put i (pair.end_of x (v.sock i)) v)
unfolding step_of
lost_up v x i probed up = ap (λ (k : LinkState). obeys x k i (step_of k inputs.Gone (is_greater x)) v) up

lost_dial : (v : Pair) (x : Side) (i : ℕ) → v.link x ≡ Dialing i → hears step_of x i inputs.Gone v ≡ point x Idle (put i (pair.end_of x (v.sock i)) v)
unfolding step_of
lost_dial v x i dials = ap (λ (k : LinkState). obeys x k i (step_of k inputs.Gone (is_greater x)) v) dials

gone_at : (v : Pair) (x : Side) (i : ℕ) (e : End) → (v.sock i).opener ≡ opener_by e x → after (end_at e i) v ≡ cond (names (v.link x) i) (hears step_of x i inputs.Gone v) (put i (ended_at e (v.sock i)) v)
gone_at v x i O opener = ap (λ (y : Side). cond (names (v.link y) i) (hears step_of y i inputs.Gone v) (put i (pair.end_o (v.sock i)) v)) opener
gone_at v x i T opener = ap (λ (y : Side). cond (names (v.link y) i) (hears step_of y i inputs.Gone v) (put i (pair.end_t (v.sock i)) v)) (ap other opener ∙ other_twice x)

opens_o : (e : Expected) → IsOpen_o (opener_end Open e)
opens_o expected.Frame = tt
opens_o expected.Request = tt
opens_o expected.Answer = tt

opens_t : (e : Expected) → IsOpen_t (target_end true Open e)
opens_t expected.Frame = tt
opens_t expected.Request = tt
opens_t expected.Answer = tt

-- ---- the laws

module _ (scene : Scene) (x : Side) (cell : Cell × ℕ) (e : End) (i : ℕ) (s : WorldSocket) (known : Socket) (h : InputEnds scene x cell e i s known) where
  abbrev V : Pair
  V = view scene

  abbrev Own : HostState
  Own = host_of scene x

  abbrev H : ℕ → HostState
  H = hosts_of scene.world

  abbrev P : ℕ
  P = (scene.party x).place

  abbrev Number : ℕ
  Number = (scene.party x).address.id

  abbrev Peer : Address
  Peer = (scene.party (other x)).address

  abbrev L : Link
  L = link_of scene x

  abbrev Seen : Sock
  Seen = sock_of scene.party H s

  abbrev Gone : Socket
  Gone = record known { stage = Ended; since = [] }

  abbrev Over : WorldSocket
  Over = with_end e (world.ended (end_of e s)) s

  abbrev Theirs : Reader
  Theirs = reader_at H (first_of (world.other e)) (end_of (world.other e) s)

  mine_is : reader_at H (first_of e) (end_of e s) ≡ (known.expected, known.since)
  mine_is = own_reader H P known.number (first_of e) (end_of e s) h.has.end ∙ ap (reader_of (first_of e)) h.kept

  by_mine : Seen ≡ sock_by scene.party e (known.expected, known.since) Theirs s
  by_mine = by_end e scene.party H s ∙ ap (λ (r : Reader). sock_by scene.party e r Theirs s) mine_is

  sock_at : V.sock i ≡ Seen
  sock_at = sock_is scene x cell e i known.number s h.acts h.has

  over_is : sock_by scene.party e (known.expected, []) Theirs Over ≡ ended_at e (V.sock i)
  over_is = gone_there scene.party e known.expected (known.expected, known.since) Theirs s h.has.target ∙ ap (ended_at e) (sym (sock_at ∙ by_mine))

  allowed_now : Allowed (end_at e i) V
  allowed_now = allowed_at e (sock_at ∙ by_mine) h.standing h.empty h.over where
    allowed_at : (f : End) → V.sock i ≡ sock_by scene.party f (known.expected, known.since) Theirs s → (end_of f s).stage ≡ Open → unread_at (known.expected, known.since) (end_of f s) ≡ []
        → (((end_of f s).is_cut ≡ true) ⊎ ((end_of (world.other f) s).stage ≡ Ended)) → Allowed (end_at f i) V
    allowed_at O same standing empty (inl cut) = (subst IsOpen_o (sym (ap (λ (z : Sock). z.o) same ∙ ap (λ (z : Stage). opener_end z known.expected) standing)) (opens_o known.expected), ap (λ (z : Sock). z.in_o) same ∙ empty, inl (ap (λ (z : Sock). z.cut_o) same ∙ cut))
    allowed_at O same standing empty (inr over) = (
      subst IsOpen_o (sym (ap (λ (z : Sock). z.o) same ∙ ap (λ (z : Stage). opener_end z known.expected) standing)) (opens_o known.expected),
      ap (λ (z : Sock). z.in_o) same ∙ empty,
      inr (ap (λ (z : Sock). z.t) same ∙ ap (λ b. target_end b s.t.stage Theirs.0) h.has.target ∙ ap (λ (z : Stage). target_end true z Theirs.0) over),
    )
    allowed_at T same standing empty (inl cut) = (
      subst IsOpen_t (sym (ap (λ (z : Sock). z.t) same ∙ ap (λ b. target_end b s.t.stage known.expected) h.has.target ∙ ap (λ (z : Stage). target_end true z known.expected) standing)) (opens_t known.expected),
      ap (λ (z : Sock). z.in_t) same ∙ empty,
      inl (ap (λ (z : Sock). z.cut_t) same ∙ cut),
    )
    allowed_at T same standing empty (inr over) = (
      subst IsOpen_t (sym (ap (λ (z : Sock). z.t) same ∙ ap (λ b. target_end b s.t.stage known.expected) h.has.target ∙ ap (λ (z : Stage). target_end true z known.expected) standing)) (opens_t known.expected),
      ap (λ (z : Sock). z.in_t) same ∙ empty,
      inr (ap (λ (z : Sock). z.o) same ∙ ap (λ (z : Stage). opener_end z Theirs.0) over),
    )

  over_alike : Alike s Over
  over_alike = alike_with e s s (world.ended (end_of e s)) (alike_self s) refl refl

  left_told : (host : HostState) (more : List Step) → done_by P cell (steps.Left known.number ∷ more) host scene.world
      ≡ (all_told P (record (cell.0) { host = host }) (told_steps more) (record (World_of scene x cell e i known.number s h.acts h.has host) { sockets = slice_set scene.world.sockets i Over })).1
  left_told host more = ap (λ (z : List WorldSocket). (all_told P (record (cell.0) { host = host }) (told_steps (steps.Left known.number ∷ more)) (record (World_of scene x cell e i known.number s h.acts h.has host) { sockets = z })).1) (sym (set_same scene.world.sockets i s h.has.at))
      ∙ ap (λ (w : World). (all_told P (record (cell.0) { host = host }) (told_steps more) w).1) (leaves_there (World_of scene x cell e i known.number s h.acts h.has host) i s s e P known.number (record (cell.0) { host = host }) h.acts.apart h.has.at (alike_self s) h.has.end)

  down_told : (host : HostState) (more : List Step) → done_by P cell (steps.Down known.number ∷ more) host scene.world
      ≡ (all_told P (record (cell.0) { host = host }) (told_steps more) (record (World_of scene x cell e i known.number s h.acts h.has host) { sockets = slice_set scene.world.sockets i Over })).1
  down_told host more = ap (λ (z : List WorldSocket). (all_told P (record (cell.0) { host = host }) (told_steps (steps.Down known.number ∷ more)) (record (World_of scene x cell e i known.number s h.acts h.has host) { sockets = z })).1) (sym (set_same scene.world.sockets i s h.has.at))
      ∙ ap (λ (w : World). (all_told P (record (cell.0) { host = host }) (told_steps more) w).1) (goes_down_there (World_of scene x cell e i known.number s h.acts h.has host) i s s e P known.number (record (cell.0) { host = host }) h.acts.apart h.has.at (alike_self s) h.has.end)

  -- what is seen where the end is ended, with the link in a state
  seen_over : (done : List Step) (host : HostState) (state : LinkState) → done_by P cell done host scene.world ≡ record (World_of scene x cell e i known.number s h.acts h.has host) { sockets = slice_set scene.world.sockets i Over }
      → Kept known.number Number Peer Own host state → find (is_socket known.number) host.sockets ≡ Some Gone → view (after_steps scene x cell done host) ≡ point x (with_places (place_of P scene.world.sockets) state) (put i (ended_at e (V.sock i)) V)
  seen_over done host state did kept found = seen_after scene x cell e i known.number s h.acts h.has done host state Over Gone scene.world.last did over_alike kept found
      ∙ ap (λ (z : Sock). point x (with_places (place_of P scene.world.sockets) state) (put i z V)) over_is

  -- the host hears it
  hears_end : input_ends scene x known ≡ is_gone known Own
  unfolding host_on
  hears_end = ap (λ (o : Option Socket). elim o as (λ o. Stepped) [ None ↦ still Own | Some socket ↦ (if is_open socket.stage then is_gone socket Own else still Own) ]) h.kept
      ∙ ap (λ (z : Stage). if is_open z then is_gone known Own else still Own) h.stands

  used : IsUser scene x known → is_gone known Own ≡ gone_from known.number L Own
  used user = ap (λ (o : Option (ℕ × Address)). elim o as (λ o. Stepped) [ None ↦ leaves known.number Own | Some u ↦ gone_from known.number (link_with Own u.0 u.1) Own ]) user

  -- a link that fails
  abbrev Ended_idle : HostState
  Ended_idle = with_socket Gone (with_link (record L { state = Idle }) Own)

  abbrev Failed : HostState
  Failed = with_link (forgotten L Idle) Ended_idle

  kept_failed : Kept known.number Number Peer Own Failed Idle
  kept_failed = kept_link known.number Number Peer (forgotten L Idle) Own Ended_idle Idle (link_named Own Number Peer).0 (link_named Own Number Peer).1
      (kept_socket Gone Number Peer Own (with_link (record L { state = Idle }) Own) Idle
      (kept_link known.number Number Peer (record L { state = Idle }) Own Own L.state (link_named Own Number Peer).0 (link_named Own Number Peer).1 (kept_all known.number Number Peer Own)))

  found_failed : find (is_socket known.number) Failed.sockets ≡ Some Gone
  found_failed = socket_kept Gone Own.sockets

  ends_known : (now : HostState) → now.sockets ≡ Own.sockets → end_socket known.number now ≡ with_socket Gone now
  ends_known now same = ap (λ (o : Option Socket). ended_in o now) (ap (find (is_socket known.number)) same ∙ h.kept)

  opener_at : (V.sock i).opener ≡ opener_by e x
  opener_at = ap (λ (z : Sock). z.opener) sock_at ∙ h.has.opener

  -- a link that was up
  pub ends_up : (probed : Bool) → IsUser scene x known → L.state ≡ Up known.number probed → IsSeen scene x cell (input_ends scene x known) (end_at e i ∷ [])
  ends_up probed user up = record {
    steps = steps.Down known.number ∷ told_lost L;
    host = Failed;
    does = hears_end ∙ used user ∙ loses_up L known.number probed Own up
        ∙ ap (λ (z : HostState). Ok (steps.Down known.number ∷ told_lost L, with_link (forgotten L Idle) z)) (ends_known (with_link (record L { state = Idle }) Own) refl);
    allowed = (allowed_now, tt);
    seen = seen_over (steps.Down known.number ∷ told_lost L) Failed Idle (down_told Failed (told_lost L)) kept_failed found_failed
        ∙ ap (λ (z : Sock). point x Idle (put i z V)) (sym (end_of_own e x (V.sock i) opener_at))
        ∙ sym (gone_at V x i e opener_at
        ∙ ap (λ b. cond b (hears step_of x i inputs.Gone V) (put i (ended_at e (V.sock i)) V)) (ap (λ (k : LinkState). names k i) link_up ∙ self_number i)
        ∙ lost_up V x i probed link_up);
  } where
    link_up : V.link x ≡ Up i probed
    link_up = ap (with_places (place_of P scene.world.sockets)) up ∙ ap (λ (z : ℕ). Up z probed) (place_is scene x cell e i known.number s h.acts h.has)

  -- a link that dialed
  pub ends_dialing : IsUser scene x known → L.state ≡ Dialing known.number → IsSeen scene x cell (input_ends scene x known) (end_at e i ∷ [])
  ends_dialing user dials = record {
    steps = steps.Left known.number ∷ told_lost L;
    host = Failed;
    does = hears_end ∙ used user ∙ loses_dial L known.number Own dials
        ∙ ap (λ (z : HostState). Ok (steps.Left known.number ∷ told_lost L, with_link (forgotten L Idle) z)) (ends_known (with_link (record L { state = Idle }) Own) refl);
    allowed = (allowed_now, tt);
    seen = seen_over (steps.Left known.number ∷ told_lost L) Failed Idle (left_told Failed (told_lost L)) kept_failed found_failed
        ∙ ap (λ (z : Sock). point x Idle (put i z V)) (sym (end_of_own e x (V.sock i) opener_at))
        ∙ sym (gone_at V x i e opener_at
        ∙ ap (λ b. cond b (hears step_of x i inputs.Gone V) (put i (ended_at e (V.sock i)) V)) (ap (λ (k : LinkState). names k i) link_dials ∙ self_number i)
        ∙ lost_dial V x i link_dials);
  } where
    link_dials : V.link x ≡ Dialing i
    link_dials = ap (with_places (place_of P scene.world.sockets)) dials ∙ ap (λ (z : ℕ). Dialing z) (place_is scene x cell e i known.number s h.acts h.has)

  -- a link that doesn't name it
  leaves_known : (known.user ≡ None) ⊎ IsUser scene x known → names L.state known.number ≡ false → is_gone known Own ≡ leaves known.number Own
  leaves_known (inl unused) off = ap (λ (o : Option (ℕ × Address)). elim o as (λ o. Stepped) [ None ↦ leaves known.number Own | Some u ↦ gone_from known.number (link_with Own u.0 u.1) Own ]) unused
  leaves_known (inr user) off = used user ∙ ap (λ b. if b then links.hears inputs.Gone L Own else leaves known.number Own) off

  pub ends_unnamed : (known.user ≡ None) ⊎ IsUser scene x known → names L.state known.number ≡ false → names (V.link x) i ≡ false → IsSeen scene x cell (input_ends scene x known) (end_at e i ∷ [])
  ends_unnamed user off unseen = record {
    steps = steps.Left known.number ∷ [];
    host = with_socket Gone Own;
    does = hears_end ∙ leaves_known user off ∙ ap (λ (z : HostState). Ok (steps.Left known.number ∷ [], z)) (ends_known Own refl);
    allowed = (allowed_now, tt);
    seen = seen_over (steps.Left known.number ∷ []) (with_socket Gone Own) L.state (left_told (with_socket Gone Own) []) (kept_socket Gone Number Peer Own Own L.state (kept_all known.number Number Peer Own)) (socket_kept Gone Own.sockets)
        ∙ point_same x (V.link x) (put i (ended_at e (V.sock i)) V) refl
        ∙ sym (gone_at V x i e opener_at ∙ ap (λ b. cond b (hears step_of x i inputs.Gone V) (put i (ended_at e (V.sock i)) V)) unseen);
  }
