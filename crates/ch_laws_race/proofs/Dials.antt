-- What connections ask of a link that is idle, as moves: it dials.
use Rattle.std.specs.Prelude.{◌≡◌, ℕ, ◌+◌, Bool, true, false, cond, ◌||◌, ◌&&◌, ◌==◌, List, [], ◌∷◌, ◌++◌, length, find, is_some, slice_get, Option, Some, None, if◌then◌else◌}
use Rattle.std.specs.List.{list_any}
use Rattle.std.specs.Str.{bytes_eq}
use Rattle.std.proofs.Common.{refl, ap, sym, ◌∙◌}
use Rattle.ch_base.specs.declared.address.Address.{Address}
use Rattle.ch_wire.specs.declared.frame.Frame.{Frame}
use Rattle.ch_reader.specs.declared.item.Expected.{Expected}
use Rattle.ch_reader.specs.declared.item.Expected.TheVariants as expected
use Rattle.ch_link.specs.Table.{step_of}
use Rattle.ch_link.specs.Sockets.{names}
use Rattle.ch_link.specs.declared.LinkState.{LinkState}
use Rattle.ch_link.specs.declared.LinkState.TheVariants.{Idle, Dialing, AwaitOther, Up}
use Rattle.ch_link.specs.declared.LinkIn.TheVariants as inputs
use Rattle.ch_model.specs.declared.name.End.{End}
use Rattle.ch_model.specs.declared.name.End.TheVariants.{O, T}
use Rattle.ch_model.specs.declared.step.Step.TheVariants as steps
use Rattle.ch_model.specs.declared.step.Weight.{Weight}
use Rattle.ch_model.specs.Stages.{Pending}
use Rattle.ch_model.specs.HostState.{Link, HostState}
use Rattle.ch_model.specs.HostSteps.{own_address, is_socket, with_link}
use Rattle.ch_model.specs.HostLinks.{next_dial, dialed}
use Rattle.ch_model.specs.Same.{is_between}
use Rattle.ch_model.specs.Naming.{called}
use Rattle.ch_model.specs.WorldState.{Cell, WorldSocket, World}
use Rattle.ch_model.specs.WorldSockets as world
use Rattle.ch_model.specs.WorldSockets.{end_of, with_end, is_end_of, end_at, end_of_nobody, is_socket_named, store_in, next_name, cell_of, target_end, new_socket}
use Rattle.ch_race.specs.Pair as pair
use Rattle.ch_race.specs.Pair.{Side, Lesser, Greater, other, is_greater, Sock, Pair, put, point, says, fresh}
use Rattle.ch_race.specs.Moves.{Want, obeys, after}
use Rattle.ch_laws_race.specs.Scene.{Party, Scene, hosts_of, host_of, link_of, done_by}
use Rattle.ch_laws_race.specs.View.{Reader, reader_of, reader_at, sock_with, sock_of, sock_seen, has_end, place_of, with_places, seen, view}
use Rattle.ch_laws_race.specs.Reading.{IsSeen}
use Rattle.ch_laws_race.specs.Asks.{asks_link, AsksIdle}
use Rattle.ch_laws_race.proofs.Keys.{equal_bytes, equal_numbers, link_named, socket_kept}
use Rattle.ch_laws_race.proofs.Views.{at_place, host_here, hosts_set, self_number, Kept, kept_all, kept_link, kept_socket}
use Rattle.ch_laws_race.proofs.Grown.{nobody_has, place_stays, place_new, stored_last, none_past, seen_grown}
use Rattle.ch_laws_race.proofs.Asks.{More_waits, Dialed, puts_idle}
use Rattle.ch_laws_race.proofs.Grown.{reader_off}
use Rattle.ch_model.specs.WorldHappenings.{with_cell}

between_names : (party : Side → Party) (x : Side) (number : ℕ) → is_between (party Lesser).name (party Greater).name (record { from = (party x).name; to = (party (other x)).name; number = number }) ≡ true
between_names party Lesser number = ap (λ b. (b && bytes_eq (party Greater).name (party Greater).name) || (bytes_eq (party Lesser).name (party Greater).name && bytes_eq (party Greater).name (party Lesser).name)) (equal_bytes (party Lesser).name)
    ∙ ap (λ b. b || (bytes_eq (party Lesser).name (party Greater).name && bytes_eq (party Greater).name (party Lesser).name)) (equal_bytes (party Greater).name)
between_names party Greater number = ap (λ b. (bytes_eq (party Greater).name (party Lesser).name && bytes_eq (party Lesser).name (party Greater).name) || (b && bytes_eq (party Lesser).name (party Lesser).name)) (equal_bytes (party Greater).name)
    ∙ ap (λ b. (bytes_eq (party Greater).name (party Lesser).name && bytes_eq (party Lesser).name (party Greater).name) || b) (equal_bytes (party Lesser).name)
    ∙ or_true (bytes_eq (party Greater).name (party Lesser).name && bytes_eq (party Lesser).name (party Greater).name) where
      or_true : (b : Bool) → (b || true) ≡ true
      or_true true = refl
      or_true false = refl

opened_by : (party : Side → Party) (x : Side) → bytes_eq (party Greater).name (party Lesser).name ≡ false → (if bytes_eq (party x).name (party Lesser).name then Lesser else Greater) ≡ x
opened_by party Lesser apart = ap (λ b. if b then Lesser else Greater) (equal_bytes (party Lesser).name)
opened_by party Greater apart = ap (λ b. if b then Lesser else Greater) apart

dialed_once : (v : Pair) (x : Side) (i : ℕ) → v.link x ≡ Idle → after (Want x i) v ≡ point x (Dialing i) (put i (fresh x) v)
unfolding step_of
dialed_once v x i is = ap (λ (k : LinkState). obeys x k i (step_of k (inputs.Want i) (is_greater x)) v) is

kept_dials : (number end : ℕ) (peer : Address) (before now : HostState) (state : LinkState) (count : ℕ) → Kept number end peer before now state → Kept number end peer before (record now { dials = count }) state
kept_dials number end peer before now state count k = record { link = k.link; links = k.links; sockets = k.sockets; ends = k.ends }

module _ (scene : Scene) (x : Side) (cell : Cell × ℕ) (item : Frame × Weight) (link : Link) (h : AsksIdle scene x cell link) where
  abbrev V : Pair
  V = view scene

  abbrev Own : HostState
  Own = host_of scene x

  abbrev H : ℕ → HostState
  H = hosts_of scene.world

  abbrev P : ℕ
  P = (scene.party x).place

  abbrev Q : ℕ
  Q = (scene.party (other x)).place

  abbrev Number : ℕ
  Number = (scene.party x).address.id

  abbrev Peer : Address
  Peer = (scene.party (other x)).address

  abbrev Next : ℕ
  Next = next_dial Own

  abbrev After : HostState
  After = Dialed item link Own

  abbrev xs : List WorldSocket
  xs = scene.world.sockets

  abbrev W : World
  W = with_cell P (record (cell.0) { host = After }, cell.1) scene.world

  abbrev NewOf : List ℕ → List ℕ → WorldSocket
  NewOf from to = new_socket W from to After.host (end_of_nobody (Some P) (Some Next) Pending) link.peer

  abbrev New : WorldSocket
  New = NewOf (scene.party x).name (scene.party (other x)).name

  key : (link.end ≡ Number) × (link.peer ≡ Peer)
  key = let own = link_named Own Number Peer in (h.renewed.end ∙ own.0, h.renewed.peer ∙ own.1)

  told_idle : done_by P cell (steps.Dial Next link.end link.peer ∷ []) After scene.world ≡ record W { sockets = xs ++ New ∷ [] }
  told_idle = ap (λ (z : List ℕ). world.with_socket (NewOf z (called scene.world.names link.peer)) W)
      (ap (λ (n : ℕ). called scene.world.names (own_address Own n)) key.0 ∙ ap (called scene.world.names) h.acts.own ∙ h.called_own)
      ∙ ap (λ (z : List ℕ). world.with_socket (NewOf (scene.party x).name z) W) (ap (called scene.world.names) key.1 ∙ h.called_peer)
      ∙ ap (λ (z : List WorldSocket). record W { sockets = z }) (stored_last New xs h.new_name)

  kept_idle : Kept Next Number Peer Own After (Dialing Next)
  kept_idle = kept_socket (dialed Next link.end link.peer) Number Peer Own (record (with_link (More_waits item link (Dialing Next)) (with_link (More_waits item link Idle) Own)) { dials = Own.dials + 1 }) (Dialing Next)
      (kept_dials Next Number Peer Own (with_link (More_waits item link (Dialing Next)) (with_link (More_waits item link Idle) Own)) (Dialing Next) (Own.dials + 1)
      (kept_link Next Number Peer (More_waits item link (Dialing Next)) Own (with_link (More_waits item link Idle) Own) Idle key.0 key.1
      (kept_link Next Number Peer (More_waits item link Idle) Own Own (link_of scene x).state key.0 key.1 (kept_all Next Number Peer Own))))

  records_idle : (j : ℕ) (u : WorldSocket) → slice_get xs j ≡ Some u → (first : Expected) (e : End) → reader_at (at_place P After H) first (end_of e u) ≡ reader_at H first (end_of e u)
  records_idle j u at first e = reader_off H P Next After kept_idle.sockets first (end_of e u) (nobody_has P Next xs h.new_number j u at e)

  has_it : has_end P Next New ≡ true
  has_it = ap (λ b. is_some (cond b (Some O) (cond (is_end_of P Next New.t) (Some T) None))) (ap (λ b. b && (Next == Next)) (equal_numbers P) ∙ equal_numbers Next)

  theirs_known : (k : LinkState) → ((m : ℕ) → names k m ≡ true → list_any (has_end Q m) xs ≡ true) → with_places (place_of Q (xs ++ New ∷ [])) k ≡ with_places (place_of Q xs) k
  theirs_known Idle f = refl
  theirs_known AwaitOther f = refl
  theirs_known (Dialing d) f = ap (λ (z : ℕ). Dialing z) (place_stays Q d xs New (f d (self_number d)))
  theirs_known (Up u b) f = ap (λ (z : ℕ). Up z b) (place_stays Q u xs New (f u (self_number u)))

  fresh_now : sock_of scene.party (at_place P After H) New ≡ fresh x
  fresh_now = ap (λ (r : Reader). sock_with scene.party r (reader_at (at_place P After H) expected.Request New.t) New) own_new ∙ by_target (cell_of W link.peer) where
    own_new : reader_at (at_place P After H) expected.Answer New.o ≡ (expected.Answer, [])
    own_new = ap (λ (z : HostState). reader_of expected.Answer (find (is_socket Next) z.sockets)) (host_here P After H)
        ∙ ap (reader_of expected.Answer) (socket_kept (dialed Next link.end link.peer) Own.sockets)

    by_target : (o : Option ℕ) → sock_with scene.party (expected.Answer, []) (reader_at (at_place P After H) expected.Request (target_end o)) (record New { t = target_end o }) ≡ fresh x
    by_target None = ap (λ (z : Side). record (fresh x) { opener = z }) (opened_by scene.party x h.apart)
    by_target (Some c) = ap (λ (z : Side). record (fresh x) { opener = z }) (opened_by scene.party x h.apart)

  idle_here : V.link x ≡ Idle
  idle_here = ap (with_places (place_of P xs)) h.idle

  past_all : V.sock (length xs) ≡ pair.dead
  past_all = ap (sock_seen scene.party H) (none_past xs)

  -- a frame waits, and the link dials
  pub asks_idle : IsSeen scene x cell (asks_link scene x item link) (Want x (length xs) ∷ [])
  asks_idle = record {
    steps = steps.Dial Next link.end link.peer ∷ [];
    host = After;
    does = puts_idle item link Own (h.renewed.state ∙ h.idle) h.room;
    allowed = ((idle_here, h.stands, ap (λ (z : Sock). z.o) past_all, ap (λ (z : Sock). z.t) past_all), tt);
    seen = ap (λ (w : World). view (record scene { world = w })) told_idle
        ∙ ap (λ (f : ℕ → HostState). seen scene.party f (xs ++ New ∷ []) scene.quiet) (hosts_set scene.world P cell (record (cell.0) { host = After }) cell.1 h.acts.there)
        ∙ seen_grown scene.party x H After xs scene.quiet (Dialing Next) h.acts.differ kept_idle.link kept_idle.links kept_idle.ends records_idle New (between_names scene.party x New.name.number)
        (theirs_known (link_of scene (other x)).state h.other_known)
        ∙ ap (λ (z : ℕ). point x (Dialing z) (put (length xs) (sock_of scene.party (at_place P After H) New) V)) (place_new P Next xs New h.new_number has_it)
        ∙ ap (λ (z : Sock). point x (Dialing (length xs)) (put (length xs) z V)) fresh_now
        ∙ sym (dialed_once V x (length xs) idle_here);
  }
