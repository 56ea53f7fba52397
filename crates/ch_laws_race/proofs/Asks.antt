-- What connections ask of a link, as moves.
use Rattle.std.specs.Prelude.{◌≡◌, ◌⊎◌, ℕ, ◌+◌, Bool, true, false, cond, nat_eq, List, [], ◌∷◌, ◌++◌, find, nat_lt, slice_set, Option, Some, None, Ok, Err, if◌then◌else◌}
use Rattle.std.proofs.Common.{refl, ap, sym, ◌∙◌, subst, inl, inr}
use Rattle.ch_base.specs.declared.address.Address.{Address}
use Rattle.ch_base.specs.declared.memory.Stop.TheVariants as stops
use Rattle.ch_wire.specs.Spelling.{frame_spelling}
use Rattle.ch_wire.specs.declared.frame.Frame.{Frame}
use Rattle.ch_reader.specs.declared.item.Item.TheVariants as items
use Rattle.ch_link.specs.Table.{step_of}
use Rattle.ch_link.specs.declared.LinkState.{LinkState}
use Rattle.ch_link.specs.declared.LinkState.TheVariants.{Idle, Dialing, AwaitOther, Up}
use Rattle.ch_link.specs.declared.LinkIn.TheVariants as inputs
use Rattle.ch_model.specs.declared.name.End.{End}
use Rattle.ch_model.specs.declared.step.Step.TheVariants as steps
use Rattle.ch_model.specs.declared.step.Weight.{Weight}
use Rattle.ch_model.specs.HostState.{Link, Socket, HostState}
use Rattle.ch_model.specs.HostSteps as host
use Rattle.ch_model.specs.HostSteps.{Stepped, own_address, is_socket, link_with, with_link, with_socket}
use Rattle.ch_model.specs.HostWrites.{said_of, frame_step}
use Rattle.ch_model.specs.HostLinks as links
use Rattle.ch_model.specs.HostLinks.{most_dials, next_dial, dialed}
use Rattle.ch_model.specs.HostCalls.{puts_and_wants}
use Rattle.ch_model.specs.WorldState.{Cell, WorldSocket}
use Rattle.ch_model.specs.WorldSockets as world
use Rattle.ch_model.specs.WorldSockets.{end_of, with_end, is_end_of, end_at, end_of_nobody, is_socket_named, store_in, next_name, cell_of, target_end, new_socket}
use Rattle.ch_model.specs.WorldSteps.{stepped}
use Rattle.ch_race.specs.Pair as pair
use Rattle.ch_race.specs.Pair.{Side, Lesser, Greater, other, is_greater, Sock, Pair, put, point, says, fresh}
use Rattle.ch_race.specs.Moves.{Say, say, after}
use Rattle.ch_laws_race.specs.Scene.{Scene, hosts_of, host_of, link_of, done_by, after_steps}
use Rattle.ch_laws_race.specs.View.{frame_kind, Reader, reader_of, record_of, reader_at, place_of, with_places, seen, view}
use Rattle.ch_laws_race.specs.Sound.{Acts, first_of}
use Rattle.ch_laws_race.specs.Reading.{IsSeen}
use Rattle.ch_laws_race.specs.Asks.{IsRenewed, asks_link, AsksUp}
use Rattle.ch_laws_race.specs.Calls.{puts_frame}
use Rattle.ch_model.specs.HostWrites.{is_up, puts}
use Rattle.ch_laws_race.proofs.Keys.{link_kept, link_named}
use Rattle.ch_laws_race.proofs.Sockets.{by_test, same_place, alike_self, set_same}
use Rattle.ch_laws_race.proofs.Views.{at_place, hosts_set, own_reader, Kept, kept_all, kept_link}
use Rattle.ch_laws_race.proofs.Pairs.{point_same}
use Rattle.ch_laws_race.proofs.Steps.{arrived_alike, writes_there}
use Rattle.ch_laws_race.proofs.Socks.{sock_by, wrote}
use Rattle.ch_laws_race.proofs.One.{by_end, World_of, place_is, sock_is, seen_after}
use Rattle.ch_laws_race.proofs.Grown.{seen_alone}

-- ---- the host

-- a link in a state, with its key
abbrev pub In : Link → LinkState → Link
In link state = record link { state = state }

pub puts_up : (item : Frame × Weight) (link : Link) (sock : ℕ) (probed : Bool) (now : HostState) → link.state ≡ Up sock probed
    → puts_and_wants item link now ≡ Ok (frame_step sock item ∷ [], with_link (In link (Up sock probed)) (with_link (In link (Up sock probed)) now))
unfolding step_of
puts_up item link sock probed now up = ap (λ (k : LinkState). puts_and_wants item (In link k) now) up
    ∙ ap (λ (z : Link). host.after_steps (frame_step sock item ∷ []) (links.hears (inputs.Want (next_dial now)) z (with_link (In link (Up sock probed)) now))) (link_kept (In link (Up sock probed)) now)

-- the link where one more waits
abbrev pub More_waits : Frame × Weight → Link → LinkState → Link
More_waits item link state = record link { state = state; waits = link.waits ++ item ∷ [] }

pub puts_dialing : (item : Frame × Weight) (link : Link) (sock : ℕ) (now : HostState) → link.state ≡ Dialing sock
    → puts_and_wants item link now ≡ Ok ([], with_link (More_waits item link (Dialing sock)) (with_link (More_waits item link (Dialing sock)) now))
unfolding step_of
puts_dialing item link sock now is = ap (λ (k : LinkState). puts_and_wants item (In link k) now) is
    ∙ ap (λ (z : Link). host.after_steps [] (links.hears (inputs.Want (next_dial now)) z (with_link (More_waits item link (Dialing sock)) now))) (link_kept (More_waits item link (Dialing sock)) now)

pub puts_awaiting : (item : Frame × Weight) (link : Link) (now : HostState) → link.state ≡ AwaitOther
    → puts_and_wants item link now ≡ Ok ([], with_link (More_waits item link AwaitOther) (with_link (More_waits item link AwaitOther) now))
unfolding step_of
puts_awaiting item link now is = ap (λ (k : LinkState). puts_and_wants item (In link k) now) is
    ∙ ap (λ (z : Link). host.after_steps [] (links.hears (inputs.Want (next_dial now)) z (with_link (More_waits item link AwaitOther) now))) (link_kept (More_waits item link AwaitOther) now)

-- the host that has dialed
abbrev pub Dialed : Frame × Weight → Link → HostState → HostState
Dialed item link now = with_socket (dialed (next_dial now) link.end link.peer)
    (record (with_link (More_waits item link (Dialing (next_dial now))) (with_link (More_waits item link Idle) now)) { dials = now.dials + 1 })

pub puts_idle : (item : Frame × Weight) (link : Link) (now : HostState) → link.state ≡ Idle → nat_lt now.dials most_dials ≡ true
    → puts_and_wants item link now ≡ Ok (steps.Dial (next_dial now) link.end link.peer ∷ [], Dialed item link now)
unfolding step_of
puts_idle item link now is room = ap (λ (k : LinkState). puts_and_wants item (In link k) now) is
    ∙ ap (λ (z : Link). host.after_steps [] (links.hears (inputs.Want (next_dial now)) z (with_link (More_waits item link Idle) now))) (link_kept (More_waits item link Idle) now)
    ∙ ap (λ b. host.after_steps [] (if b then Ok (steps.Dial (next_dial now) link.end link.peer ∷ [], Dialed item link now) else Err stops.Worn)) room

-- ---- up

module _ (scene : Scene) (x : Side) (cell : Cell × ℕ) (e : End) (i : ℕ) (s : WorldSocket) (known : Socket) (item : Frame × Weight) (link : Link) (probed : Bool) (h : AsksUp scene x cell e i s known item link probed) where
  abbrev V : Pair
  V = view scene

  abbrev Own : HostState
  Own = host_of scene x

  abbrev H : ℕ → HostState
  H = hosts_of scene.world

  abbrev P : ℕ
  P = (scene.party x).place

  abbrev Number : ℕ
  Number = (scene.party x).address.id

  abbrev Peer : Address
  Peer = (scene.party (other x)).address

  abbrev L : Link
  L = link_of scene x

  abbrev State : LinkState
  State = Up known.number probed

  abbrev After : HostState
  After = with_link (In link State) (with_link (In link State) Own)

  abbrev Theirs : Reader
  Theirs = reader_at H (first_of (world.other e)) (end_of (world.other e) s)

  abbrev Wrote : WorldSocket
  Wrote = with_end (world.other e) (world.item_arrives (frame_spelling item.0) (said_of item.1) (end_of (world.other e) s)) s

  kept : Kept known.number Number Peer Own After State
  kept = let key = link_named Own Number Peer in
      kept_link known.number Number Peer (In link State) Own (with_link (In link State) Own) State (h.renewed.end ∙ key.0) (h.renewed.peer ∙ key.1)
      (kept_link known.number Number Peer (In link State) Own Own L.state (h.renewed.end ∙ key.0) (h.renewed.peer ∙ key.1) (kept_all known.number Number Peer Own))

  told : (host : HostState) → done_by P cell (frame_step known.number item ∷ []) host scene.world ≡ record (World_of scene x cell e i known.number s h.acts h.has host) { sockets = slice_set scene.world.sockets i Wrote }
  told host = ap (λ (z : List WorldSocket). (stepped P (record (cell.0) { host = host }) (frame_step known.number item) (record (World_of scene x cell e i known.number s h.acts h.has host) { sockets = z })).1) (sym (set_same scene.world.sockets i s h.has.at))
      ∙ writes_there (World_of scene x cell e i known.number s h.acts h.has host) i s s e P known.number (record (cell.0) { host = host }) h.acts.apart h.has.at (alike_self s) h.has.end (frame_spelling item.0) (said_of item.1)

  here : sock_by scene.party e (known.expected, known.since) Theirs s ≡ V.sock i
  here = ap (λ (r : Reader). sock_by scene.party e r Theirs s) (sym (own_reader H P known.number (first_of e) (end_of e s) h.has.end ∙ ap (reader_of (first_of e)) h.kept))
      ∙ sym (by_end e scene.party H s) ∙ sym (sock_is scene x cell e i known.number s h.acts h.has)

  link_up : V.link x ≡ Up i probed
  link_up = ap (with_places (place_of P scene.world.sockets)) h.up ∙ ap (λ (z : ℕ). Up z probed) (place_is scene x cell e i known.number s h.acts h.has)

  said_so : (host : HostState) → Kept known.number Number Peer Own host State → host.sockets ≡ Own.sockets → view (after_steps scene x cell (frame_step known.number item ∷ []) host) ≡ after (Say x) V
  said_so host kept same = seen_after scene x cell e i known.number s h.acts h.has (frame_step known.number item ∷ []) host State Wrote known scene.world.last (told host)
      (arrived_alike (world.other e) s s (frame_spelling item.0) (said_of item.1) (alike_self s)) kept (ap (find (is_socket known.number)) same ∙ h.kept)
      ∙ ap (λ (z : ℕ). point x (Up z probed) (put i (sock_by scene.party e (known.expected, known.since) Theirs Wrote) V)) (place_is scene x cell e i known.number s h.acts h.has)
      ∙ ap (λ (z : Sock). point x (Up i probed) (put i z V)) (wrote scene.party e x (known.expected, known.since) Theirs s (items.Frame item.0) (said_of item.1) h.has.opener h.has.target h.way
      ∙ ap (λ (z : Sock). says x (frame_kind item.0) z) here ∙ ap (λ (k : pair.Item). says x k (V.sock i)) h.payload)
      ∙ point_same x (Up i probed) (put i (says x pair.Data (V.sock i)) V) link_up
      ∙ sym (ap (λ (k : LinkState). say x k V) link_up)

  kept_once : Kept known.number Number Peer Own (with_link (In link State) Own) State
  kept_once = let key = link_named Own Number Peer in
      kept_link known.number Number Peer (In link State) Own Own L.state (h.renewed.end ∙ key.0) (h.renewed.peer ∙ key.1) (kept_all known.number Number Peer Own)

  -- a frame is put while the link is up
  pub asks_up : IsSeen scene x cell (asks_link scene x item link) (Say x ∷ [])
  asks_up = record {
    steps = frame_step known.number item ∷ [];
    host = After;
    does = puts_up item link known.number probed Own (h.renewed.state ∙ h.up);
    allowed = (tt, tt);
    seen = said_so After kept refl;
  }

  -- the same, where no socket is wanted
  pub puts_while_up : IsSeen scene x cell (puts_frame scene x item link) (Say x ∷ [])
  puts_while_up = record {
    steps = frame_step known.number item ∷ [];
    host = with_link (In link State) Own;
    does = ap (λ (k : LinkState). puts item (In link k) Own) (h.renewed.state ∙ h.up);
    allowed = (tt, tt);
    seen = said_so (with_link (In link State) Own) kept_once refl;
  }

-- ---- waiting

-- a host that keeps its sockets, and its link's state, shows nothing
module _ (scene : Scene) (x : Side) (cell : Cell × ℕ) (acts : Acts scene x cell) (after : HostState) (kept : Kept 0 (scene.party x).address.id (scene.party (other x)).address (host_of scene x) after (link_of scene x).state)
    (same : after.sockets ≡ (host_of scene x).sockets) where
  sockets_same : (c : ℕ) → (at_place (scene.party x).place after (hosts_of scene.world) c).sockets ≡ (hosts_of scene.world c).sockets
  sockets_same c = by_test (nat_eq c (scene.party x).place)
      (λ q. ap (λ b. (cond b after (hosts_of scene.world c)).sockets) q ∙ same ∙ ap (λ (z : ℕ). (hosts_of scene.world z).sockets) (same_place (scene.party x).place c q))
      (λ q. ap (λ b. (cond b after (hosts_of scene.world c)).sockets) q)

  record_same : (c m : Option ℕ) → record_of (at_place (scene.party x).place after (hosts_of scene.world)) c m ≡ record_of (hosts_of scene.world) c m
  record_same None m = refl
  record_same (Some c) None = refl
  record_same (Some c) (Some m) = ap (find (is_socket m)) (sockets_same c)

  nothing_seen : (done : Stepped) → done ≡ Ok ([], after) → IsSeen scene x cell done []
  nothing_seen done did = record {
    steps = [];
    host = after;
    does = did;
    allowed = tt;
    seen = ap (λ (f : ℕ → HostState). seen scene.party f scene.world.sockets scene.quiet) (hosts_set scene.world (scene.party x).place cell (record (cell.0) { host = after }) cell.1 acts.there)
        ∙ seen_alone scene.party x (hosts_of scene.world) after scene.world.sockets scene.quiet (link_of scene x).state acts.differ kept.link kept.links kept.ends
        (λ j u at first e. ap (reader_of first) (record_same (end_of e u).cell (end_of e u).number))
        ∙ point_same x (with_places (place_of (scene.party x).place scene.world.sockets) (link_of scene x).state) (view scene) refl;
  }

module _ (scene : Scene) (x : Side) (cell : Cell × ℕ) (item : Frame × Weight) (link : Link) (acts : Acts scene x cell) (renewed : IsRenewed scene x link) where
  abbrev Waiting : LinkState → Link
  Waiting state = More_waits item link state

  kept_waiting : (state : LinkState) (now : HostState) → Kept 0 (scene.party x).address.id (scene.party (other x)).address (host_of scene x) now state
      → Kept 0 (scene.party x).address.id (scene.party (other x)).address (host_of scene x) (with_link (Waiting state) now) state
  kept_waiting state now k = let key = link_named (host_of scene x) (scene.party x).address.id (scene.party (other x)).address in
      kept_link 0 (scene.party x).address.id (scene.party (other x)).address (Waiting state) (host_of scene x) now state (renewed.end ∙ key.0) (renewed.peer ∙ key.1) k

  kept_first : (state : LinkState) → (link_of scene x).state ≡ state → Kept 0 (scene.party x).address.id (scene.party (other x)).address (host_of scene x) (host_of scene x) state
  kept_first state is = subst (Kept 0 (scene.party x).address.id (scene.party (other x)).address (host_of scene x) (host_of scene x)) is (kept_all 0 (scene.party x).address.id (scene.party (other x)).address (host_of scene x))

  waits_in : (state : LinkState) → (link_of scene x).state ≡ state → asks_link scene x item link ≡ Ok ([], with_link (Waiting state) (with_link (Waiting state) (host_of scene x))) → IsSeen scene x cell (asks_link scene x item link) []
  waits_in state is did = nothing_seen scene x cell acts (with_link (Waiting state) (with_link (Waiting state) (host_of scene x)))
      (subst (Kept 0 (scene.party x).address.id (scene.party (other x)).address (host_of scene x) (with_link (Waiting state) (with_link (Waiting state) (host_of scene x)))) (sym is)
      (kept_waiting state (with_link (Waiting state) (host_of scene x)) (kept_waiting state (host_of scene x) (kept_first state is)))) refl (asks_link scene x item link) did

  -- a frame waits while the link has no socket that is up
  pub asks_waiting : (((own : ℕ) × ((link_of scene x).state ≡ Dialing own)) ⊎ ((link_of scene x).state ≡ AwaitOther)) → IsSeen scene x cell (asks_link scene x item link) []
  asks_waiting (inl dials) = waits_in (Dialing dials.0) dials.1 (puts_dialing item link dials.0 (host_of scene x) (renewed.state ∙ dials.1))
  asks_waiting (inr is) = waits_in AwaitOther is (puts_awaiting item link (host_of scene x) (renewed.state ∙ is))

  puts_in : (state : LinkState) → (link_of scene x).state ≡ state → is_up state ≡ false → puts_frame scene x item link ≡ Ok ([], with_link (Waiting state) (host_of scene x))
  puts_in state is down = ap (λ (k : LinkState). puts item (In link k) (host_of scene x)) (renewed.state ∙ is) ∙ by_state state down where
    by_state : (k : LinkState) → is_up k ≡ false → puts item (In link k) (host_of scene x) ≡ Ok ([], with_link (Waiting k) (host_of scene x))
    by_state Idle q = refl
    by_state (Dialing own) q = refl
    by_state AwaitOther q = refl
    by_state (Up up probed) q = absurd (clash q) where
      clash : true ≡ false → ⊥
      clash q = cc

  -- the same, where no socket is wanted
  pub puts_waiting : is_up (link_of scene x).state ≡ false → IsSeen scene x cell (puts_frame scene x item link) []
  puts_waiting down = nothing_seen scene x cell acts (with_link (Waiting (link_of scene x).state) (host_of scene x)) (kept_waiting (link_of scene x).state (host_of scene x) (kept_first (link_of scene x).state refl)) refl
      (puts_frame scene x item link) (puts_in (link_of scene x).state refl down)
