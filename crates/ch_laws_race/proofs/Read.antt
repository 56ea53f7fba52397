-- What all readings of an item have in common.
use Rattle.std.specs.Prelude.{◌≡◌, ℕ, Bool, true, false, ◌||◌, List, [], ◌∷◌, ◌++◌, map, find, is_some, nat_lt, slice_set, Option, Some, None, Result, Ok, Err, if◌then◌else◌}
use Rattle.std.proofs.Common.{refl, ap, sym, ◌∙◌, subst}
use Rattle.ch_base.specs.declared.address.Address.{Address}
use Rattle.ch_reader.specs.declared.item.Expected.{Expected}
use Rattle.ch_reader.specs.declared.item.Expected.TheVariants as expected
use Rattle.ch_reader.specs.declared.item.Item.{Item}
use Rattle.ch_reader.specs.declared.item.Item.TheVariants as items
use Rattle.ch_reader.specs.Items.{item_spelling, MayStand}
use Rattle.ch_wire.specs.declared.frame.Frame.{Frame}
use Rattle.ch_model.specs.declared.name.End.{End}
use Rattle.ch_model.specs.declared.name.End.TheVariants.{O, T}
use Rattle.ch_model.specs.declared.step.Place.{Place}
use Rattle.ch_model.specs.declared.step.Step.{Step}
use Rattle.ch_model.specs.declared.step.Step.TheVariants as steps
use Rattle.ch_model.specs.Stages.{Stage, Open, Ended, is_ended}
use Rattle.ch_model.specs.HostState.{Link, Socket, HostState}
use Rattle.ch_model.specs.HostSteps as host
use Rattle.ch_model.specs.HostSteps.{Stepped, still, is_socket, link_with, with_link, with_socket}
use Rattle.ch_model.specs.Host.{takes}
use Rattle.ch_model.specs.HostItems as items_of
use Rattle.ch_model.specs.HostItems.{most_arrived, arrived_at, with_arrival, next_arrival, posts, receives, reads_on}
use Rattle.ch_base.specs.declared.event.Event.{Event}
use Rattle.ch_base.specs.declared.event.Event.TheVariants as events
use Rattle.ch_base.specs.declared.memory.Stop.TheVariants as stops
use Rattle.ch_light.specs.declared.Connection.{Connection}
use Rattle.ch_light.specs.declared.error.LightError.{LightError}
use Rattle.ch_light.specs.Ids.{created_of, conn_of, closed_of}
use Rattle.ch_laws_race.proofs.Pairs.{point_same}
use Rattle.ch_model.specs.WorldState.{Cell, WorldEnd, WorldSocket, World}
use Rattle.ch_model.specs.WorldSockets as world
use Rattle.ch_model.specs.WorldSockets.{end_of, with_end, item_arrives}
use Rattle.ch_model.specs.WorldSteps.{first_place, stepped, all_told}
use Rattle.ch_model.specs.CellSteps.{told_steps}
use Rattle.ch_model.specs.HostWrites.{end_socket, ended_in, forgotten}
use Rattle.ch_race.specs.Pair as pair
use Rattle.ch_race.specs.Pair.{Side, other, Sock, Pair, put, point, says}
use Rattle.ch_race.specs.Moves.{Allowed, run}
use Rattle.ch_link.specs.declared.LinkState.{LinkState}
use Rattle.ch_link.specs.declared.LinkState.TheVariants.{Idle, Up}
use Rattle.ch_laws_race.specs.Scene.{Party, Scene, hosts_of, host_of, link_of, after_steps}
use Rattle.ch_laws_race.specs.View.{kind, Reader, reader_of, reader_at, unread_at, opener_end, target_end, opener_of, sock_of, place_of, with_places, view}
use Rattle.ch_laws_race.specs.Sound.{Acts, HasPlace, TakesItem, first_of}
use Rattle.ch_laws_race.specs.Reading.{Reads, IsUser, IsSeen, read_at, reads_front}
use Rattle.ch_laws_race.proofs.Items.{stream_items}
use Rattle.ch_laws_race.proofs.Sockets.{Alike, alike_self, alike_with}
use Rattle.ch_laws_race.proofs.Views.{own_reader, kept_arrival, arrival_sockets, Kept, kept_all, kept_link, kept_socket}
use Rattle.ch_laws_race.proofs.Keys.{link_named, socket_kept}
use Rattle.ch_laws_race.proofs.Steps.{one_read, arrived_alike, writes_there, leaves_there, goes_down_there}
use Rattle.ch_laws_race.proofs.Socks.{sock_by, upped, wrote, read_there, ended_at, gone_there, end_of_own}
use Rattle.ch_laws_race.proofs.Readings.{taken, takes_front, left_behind, IsUp, unread, leaving, reads_probe, reads_ack, reads_closed, reads_data}
use Rattle.ch_laws_race.proofs.Heard.{acknowledges, settles, told_failed, fails_up, acknowledged, settled, closed}
use Rattle.ch_wire.specs.declared.frame.Frame.TheVariants as frames
use Rattle.ch_wire.specs.Spelling.{frame_spelling}
use Rattle.ch_laws_race.proofs.One.{by_end, place_is, sock_is, World_of, seen_after, read_told}

end_stays : (e : End) (v : WorldEnd) (s : WorldSocket) → end_of (world.other e) (with_end e v s) ≡ end_of (world.other e) s
end_stays O v s = refl
end_stays T v s = refl

opener_stays : (party : Side → Party) (e : End) (v : WorldEnd) (s : WorldSocket) → opener_of party (with_end e v s) ≡ opener_of party s
opener_stays party O v s = refl
opener_stays party T v s = refl

target_stays : (e : End) (s : WorldSocket) → is_some (with_end e (one_read (end_of e s)) s).t.cell ≡ is_some s.t.cell
target_stays O s = refl
target_stays T s = refl

-- a frame is read only where one is expected
pub frame_expected : (e : Expected) (f : Frame) → MayStand e (items.Frame f) → e ≡ expected.Frame
frame_expected expected.Frame f fits = refl
frame_expected expected.Request f fits = absurd fits
frame_expected expected.Answer f fits = absurd fits

unread_by : (party : Side → Party) (e : End) (mine theirs : Reader) (s : WorldSocket) → unread e (sock_by party e mine theirs s) ≡ unread_at mine (end_of e s)
unread_by party O mine theirs s = refl
unread_by party T mine theirs s = refl

up_by : (party : Side → Party) (e : End) (mine theirs : Reader) (s : WorldSocket) → mine.0 ≡ expected.Frame → (end_of e s).stage ≡ Open → is_some s.t.cell ≡ true → IsUp e (sock_by party e mine theirs s)
up_by party O mine theirs s up standing there = ap (opener_end s.o.stage) up ∙ ap (λ (z : Stage). opener_end z expected.Frame) standing
up_by party T mine theirs s up standing there = ap (target_end (is_some s.t.cell) s.t.stage) up ∙ ap (λ (z : Stage). target_end (is_some s.t.cell) z expected.Frame) standing ∙ ap (λ b. target_end b Open expected.Frame) there

-- an end that is up stays so
pub stays_up : (e : End) (w : List pair.Item) (s : Sock) → IsUp e s → upped e w s ≡ leaving e w s
stays_up O w s up = ap (λ (z : pair.OEnd). record s { o = z; in_o = w }) (sym up)
stays_up T w s up = ap (λ (z : pair.TEnd). record s { t = z; in_t = w }) (sym up)

pub opener_left : (e : End) (w : List pair.Item) (s : Sock) → (leaving e w s).opener ≡ s.opener
opener_left O w s = refl
opener_left T w s = refl

pub may_read : (e : End) (i : ℕ) (v : Pair) → Allowed (read_at e i) v
may_read O i v = tt
may_read T i v = tt

module _ (scene : Scene) (x : Side) (cell : Cell × ℕ) (e : End) (i : ℕ) (s : WorldSocket) (known : Socket) (item : Item) (acts : Acts scene x cell) (reads : Reads scene x e i s known item) where
  abbrev H : ℕ → HostState
  H = hosts_of scene.world

  abbrev P : ℕ
  P = (scene.party x).place

  -- the socket as it is seen
  abbrev pub Seen : Sock
  Seen = sock_of scene.party H s

  abbrev Mine : Reader
  Mine = reader_at H (first_of e) (end_of e s)

  abbrev Their : Reader
  Their = reader_at H (first_of (world.other e)) (end_of (world.other e) s)

  -- what is unread behind the item
  abbrev pub Rest : List pair.Item
  Rest = map kind reads.rest

  -- the record with the item taken
  abbrev pub Now : Socket
  Now = taken known reads.more

  -- the world's socket with the item read
  abbrev pub Read : WorldSocket
  Read = with_end e (one_read (end_of e s)) s

  pub mine_is : Mine ≡ (known.expected, known.since)
  mine_is = own_reader H P known.number (first_of e) (end_of e s) reads.has.end ∙ ap (reader_of (first_of e)) reads.kept

  pub first_is : unread e Seen ≡ kind item ∷ Rest
  first_is = ap (unread e) (by_end e scene.party H s) ∙ unread_by scene.party e Mine Their s ∙ ap (λ (r : Reader). unread_at r (end_of e s)) mine_is
      ∙ stream_items known.expected (known.since ++ (end_of e s).unread) (item ∷ reads.rest) reads.part reads.stream

  pub is_up : known.expected ≡ expected.Frame → IsUp e Seen
  is_up frame = up_of (by_end e scene.party H s) (up_by scene.party e Mine Their s (ap (λ (r : Reader). r.0) mine_is ∙ frame) reads.standing reads.has.target) where
    up_of : {a b : Sock} → a ≡ b → IsUp e b → IsUp e a
    up_of {a} {b} same up = up_at e a b same up where
      up_at : (f : End) (a b : Sock) → a ≡ b → IsUp f b → IsUp f a
      up_at O a b same up = ap (λ (z : Sock). z.o) same ∙ up
      up_at T a b same up = ap (λ (z : Sock). z.t) same ∙ up

  pub read_alike : Alike s Read
  read_alike = alike_with e s s (one_read (end_of e s)) (alike_self s) refl refl

  -- the socket with the item read: its end is up
  pub read_is : sock_by scene.party e (expected.Frame, reads.more) Their Read ≡ upped e Rest Seen
  read_is = read_there scene.party e Mine Their reads.more s (one_read (end_of e s)).places Rest reads.standing reads.has.target
      (left_behind known.expected known.since (end_of e s).unread reads.more item reads.rest reads.part reads.front reads.stream)
      ∙ ap (upped e Rest) (sym (by_end e scene.party H s))

  -- and then with another item written
  abbrev pub Wrote : Item → Option Place → WorldSocket
  Wrote more said = with_end (world.other e) (item_arrives (item_spelling more) said (end_of (world.other e) Read)) Read

  pub wrote_alike : (more : Item) (said : Option Place) → Alike s (Wrote more said)
  wrote_alike more said = arrived_alike (world.other e) s Read (item_spelling more) said read_alike

  pub wrote_is : (more : Item) (said : Option Place) → TakesItem H (first_of (world.other e)) (end_of (world.other e) s) more
      → sock_by scene.party e (expected.Frame, reads.more) Their (Wrote more said) ≡ says x (kind more) (upped e Rest Seen)
  wrote_is more said way = wrote scene.party e x (expected.Frame, reads.more) Their Read more said (opener_stays scene.party e (one_read (end_of e s)) s ∙ reads.has.opener) (target_stays e s ∙ reads.has.target)
      (subst (λ (v : WorldEnd). (is_ended v.stage || v.is_cut) ≡ false → HasPlace Their v more) (sym (end_stays e (one_read (end_of e s)) s)) way)
      ∙ ap (says x (kind more)) read_is

  -- the front is taken, and the link's part is done
  pub takes_frame : (f : Frame) → item ≡ items.Frame f → IsUser scene x known → reads_front scene x known
      ≡ host.after_steps (steps.Read known.number ∷ []) (reads_on Now (link_of scene x) (items.Frame f) (with_socket Now (host_of scene x)))
  takes_frame f is user = takes_front known item reads.more (host_of scene x) reads.front reads.stream.each.0
      ∙ ap (λ (z : Item). takes Now z (host_of scene x)) is
      ∙ ap (λ (o : Option (ℕ × Address)). host.after_steps (steps.Read known.number ∷ []) (elim o [
        | None ↦ still (with_socket Now (host_of scene x))
        | Some user ↦ reads_on Now (link_with (with_socket Now (host_of scene x)) user.0 user.1) (items.Frame f) (with_socket Now (host_of scene x))
      ])) user

  -- ---- what is seen then

  abbrev pub V : Pair
  V = view scene

  abbrev pub Own : HostState
  Own = host_of scene x

  abbrev Number : ℕ
  Number = (scene.party x).address.id

  abbrev Peer : Address
  Peer = (scene.party (other x)).address

  -- the host with the record and a link kept
  pub kept_with : (link : Link) → link.end ≡ (link_of scene x).end → link.peer ≡ (link_of scene x).peer → Kept known.number Number Peer Own (with_link link (with_socket Now Own)) link.state
  kept_with link a b = kept_link known.number Number Peer link Own (with_socket Now Own) (link_of scene x).state (a ∙ (link_named Own Number Peer).0) (b ∙ (link_named Own Number Peer).1)
      (kept_socket Now Number Peer Own Own (link_of scene x).state (kept_all known.number Number Peer Own))

  pub found_now : find (is_socket known.number) (with_socket Now Own).sockets ≡ Some Now
  found_now = socket_kept Now Own.sockets

  abbrev pub Places : LinkState → LinkState
  Places = with_places (place_of P scene.world.sockets)

  -- the item is read, and no more is done at the sockets
  pub just_read : (after : HostState) (state : LinkState) → Kept known.number Number Peer Own after state → find (is_socket known.number) after.sockets ≡ Some Now
      → view (after_steps scene x cell (steps.Read known.number ∷ []) after) ≡ point x (Places state) (put i (upped e Rest Seen) V)
  just_read after state kept found = seen_after scene x cell e i known.number s acts reads.has (steps.Read known.number ∷ []) after state Read Now (first_place (end_of e s).places)
      (read_told scene x cell e i known.number s acts reads.has after) read_alike kept found
      ∙ ap (λ (z : Sock). point x (Places state) (put i z V)) read_is

  -- the item is read, and another is written
  pub read_and_wrote : (after : HostState) (state : LinkState) (more : Item) → Kept known.number Number Peer Own after state → find (is_socket known.number) after.sockets ≡ Some Now
      → TakesItem H (first_of (world.other e)) (end_of (world.other e) s) more
      → view (after_steps scene x cell (steps.Read known.number ∷ steps.Write known.number (item_spelling more) None ∷ []) after) ≡ point x (Places state) (put i (says x (kind more) (upped e Rest Seen)) V)
  read_and_wrote after state more kept found way =
      seen_after scene x cell e i known.number s acts reads.has (steps.Read known.number ∷ steps.Write known.number (item_spelling more) None ∷ []) after state (Wrote more None) Now (first_place (end_of e s).places)
      (ap (λ (w : World). (stepped P (record (cell.0) { host = after }) (steps.Write known.number (item_spelling more) None) w).1) (read_told scene x cell e i known.number s acts reads.has after)
      ∙ writes_there (record (World_of scene x cell e i known.number s acts reads.has after) { last = first_place (end_of e s).places }) i s Read e P known.number (record (cell.0) { host = after }) acts.apart reads.has.at read_alike reads.has.end
      (item_spelling more) None)
      (wrote_alike more None) kept found
      ∙ ap (λ (z : Sock). point x (Places state) (put i z V)) (wrote_is more None way)

  pub sock_at : V.sock i ≡ Seen
  sock_at = sock_is scene x cell e i known.number s acts reads.has

  pub number_here : place_of P scene.world.sockets known.number ≡ i
  number_here = place_is scene x cell e i known.number s acts reads.has

  -- a link that is up on this socket
  pub up_here : (probed : Bool) → Places (Up known.number probed) ≡ Up i probed
  up_here probed = ap (λ (z : ℕ). Up z probed) (place_is scene x cell e i known.number s acts reads.has)

  pub link_up : (probed : Bool) → (link_of scene x).state ≡ Up known.number probed → V.link x ≡ Up i probed
  link_up probed up = ap Places up ∙ up_here probed

  -- ---- frames of a link that is up

  abbrev pub Link_in : LinkState → Link
  Link_in state = record (link_of scene x) { state = state }

  -- a probe is read, and acknowledged
  pub probe_read : (probed : Bool) → item ≡ items.Frame frames.Probe → IsUser scene x known → (link_of scene x).state ≡ Up known.number probed
      → TakesItem H (first_of (world.other e)) (end_of (world.other e) s) (items.Frame frames.ProbeAck) → IsSeen scene x cell (reads_front scene x known) (read_at e i ∷ [])
  probe_read probed is user up way = record {
    steps = steps.Read known.number ∷ steps.Write known.number (frame_spelling frames.ProbeAck) None ∷ [];
    host = with_link (Link_in (Up known.number probed)) (with_socket Now Own);
    does = takes_frame frames.Probe is user ∙ ap (host.after_steps (steps.Read known.number ∷ [])) (acknowledges (link_of scene x) known.number probed (with_socket Now Own) up);
    allowed = (may_read e i V, tt);
    seen = read_and_wrote (with_link (Link_in (Up known.number probed)) (with_socket Now Own)) (Up known.number probed) (items.Frame frames.ProbeAck) (kept_with (Link_in (Up known.number probed)) refl refl) found_now way
        ∙ ap (λ (k : LinkState). point x k (put i (says x pair.Ack (upped e Rest Seen)) V)) (up_here probed)
        ∙ ap (λ (z : Sock). point x (Up i probed) (put i (says x pair.Ack z) V)) (stays_up e Rest Seen ends_up)
        ∙ sym (reads_probe V i Seen x Rest sock_at e reads.has.opener ends_up (first_is ∙ ap (λ (z : Item). kind z ∷ Rest) is) ∙ acknowledged V x i probed (leaving e Rest Seen) (link_up probed up));
  } where
    ends_up : IsUp e Seen
    ends_up = is_up (frame_expected known.expected frames.Probe (subst (MayStand known.expected) is reads.stream.each.0))

  -- an acknowledgement is read: the link is probed no more
  pub ack_read : (probed : Bool) → item ≡ items.Frame frames.ProbeAck → IsUser scene x known → (link_of scene x).state ≡ Up known.number probed → IsSeen scene x cell (reads_front scene x known) (read_at e i ∷ [])
  ack_read probed is user up = record {
    steps = steps.Read known.number ∷ [];
    host = with_link (Link_in (Up known.number false)) (with_socket Now Own);
    does = takes_frame frames.ProbeAck is user ∙ ap (host.after_steps (steps.Read known.number ∷ [])) (settles (link_of scene x) known.number probed (with_socket Now Own) up);
    allowed = (may_read e i V, tt);
    seen = just_read (with_link (Link_in (Up known.number false)) (with_socket Now Own)) (Up known.number false) (kept_with (Link_in (Up known.number false)) refl refl) found_now
        ∙ ap (λ (k : LinkState). point x k (put i (upped e Rest Seen) V)) (up_here false)
        ∙ ap (λ (z : Sock). point x (Up i false) (put i z V)) (stays_up e Rest Seen ends_up)
        ∙ sym (reads_ack V i Seen x Rest sock_at e reads.has.opener ends_up (first_is ∙ ap (λ (z : Item). kind z ∷ Rest) is) ∙ settled V x i probed (leaving e Rest Seen) (link_up probed up));
  } where
    ends_up : IsUp e Seen
    ends_up = is_up (frame_expected known.expected frames.ProbeAck (subst (MayStand known.expected) is reads.stream.each.0))

  -- ---- what follows an item, in general

  -- the world where the item is read, and no more is done
  abbrev pub Then : HostState → World
  Then after = record (World_of scene x cell e i known.number s acts reads.has after) { last = first_place (end_of e s).places }

  pub read_and_then : (more : List Step) (after : HostState) (state : LinkState) (t : WorldSocket) (r : Socket) → Alike s t → Kept known.number Number Peer Own after state → find (is_socket known.number) after.sockets ≡ Some r
      → (all_told P (record (cell.0) { host = after }) (told_steps more) (record (Then after) { sockets = slice_set scene.world.sockets i Read })).1 ≡ record (Then after) { sockets = slice_set scene.world.sockets i t }
      → view (after_steps scene x cell (steps.Read known.number ∷ more) after) ≡ point x (Places state) (put i (sock_by scene.party e (r.expected, r.since) Their t) V)
  read_and_then more after state t r alike kept found told = seen_after scene x cell e i known.number s acts reads.has (steps.Read known.number ∷ more) after state t r (first_place (end_of e s).places)
      (ap (λ (w : World). (all_told P (record (cell.0) { host = after }) (told_steps more) w).1) (read_told scene x cell e i known.number s acts reads.has after) ∙ told) alike kept found

  -- ---- the end is ended

  abbrev pub Gone : Socket
  Gone = record Now { stage = Ended; since = [] }

  -- a host that has ended it, where its record was kept
  pub ends_it : (now : HostState) → find (is_socket known.number) now.sockets ≡ Some Now → end_socket known.number now ≡ with_socket Gone now
  ends_it now found = ap (λ (o : Option Socket). ended_in o now) found

  abbrev pub Over : WorldSocket
  Over = with_end e (world.ended (end_of e Read)) Read

  over_is : sock_by scene.party e (expected.Frame, []) Their Over ≡ ended_at e Seen
  over_is = gone_there scene.party e expected.Frame (expected.Frame, reads.more) Their Read (target_stays e s ∙ reads.has.target) ∙ ap (ended_at e) read_is ∙ ended_same e Rest Seen where
    ended_same : (f : End) (w : List pair.Item) (z : Sock) → ended_at f (upped f w z) ≡ ended_at f z
    ended_same O w z = refl
    ended_same T w z = refl

  -- its end is ended, by a step that says so
  pub read_and_over : (more : List Step) (after : HostState) (state : LinkState) → Kept known.number Number Peer Own after state → find (is_socket known.number) after.sockets ≡ Some Gone
      → (all_told P (record (cell.0) { host = after }) (told_steps more) (record (Then after) { sockets = slice_set scene.world.sockets i Read })).1 ≡ record (Then after) { sockets = slice_set scene.world.sockets i Over }
      → view (after_steps scene x cell (steps.Read known.number ∷ more) after) ≡ point x (Places state) (put i (ended_at e Seen) V)
  read_and_over more after state kept found told =
      read_and_then more after state Over Gone (alike_with e s Read (world.ended (end_of e Read)) read_alike (same_cell e Read) (same_number_of e Read)) kept found told
      ∙ ap (λ (z : Sock). point x (Places state) (put i z V)) over_is where
        same_cell : (f : End) (z : WorldSocket) → (world.ended (end_of f z)).cell ≡ (end_of f z).cell
        same_cell f z = refl

        same_number_of : (f : End) (z : WorldSocket) → (world.ended (end_of f z)).number ≡ (end_of f z).number
        same_number_of f z = refl

  pub leaves_it : (after : HostState) → (stepped P (record (cell.0) { host = after }) (steps.Left known.number) (record (Then after) { sockets = slice_set scene.world.sockets i Read })).1 ≡ record (Then after) { sockets = slice_set scene.world.sockets i Over }
  leaves_it after = leaves_there (Then after) i s Read e P known.number (record (cell.0) { host = after }) acts.apart reads.has.at read_alike reads.has.end

  pub downs_it : (after : HostState) → (stepped P (record (cell.0) { host = after }) (steps.Down known.number) (record (Then after) { sockets = slice_set scene.world.sockets i Read })).1 ≡ record (Then after) { sockets = slice_set scene.world.sockets i Over }
  downs_it after = goes_down_there (Then after) i s Read e P known.number (record (cell.0) { host = after }) acts.apart reads.has.at read_alike reads.has.end

  -- the host with a link in a state, and then this end ended
  pub ended_with : (state : LinkState) → end_socket known.number (with_link (Link_in state) (with_socket Now Own)) ≡ with_socket Gone (with_link (Link_in state) (with_socket Now Own))
  ended_with state = ends_it (with_link (Link_in state) (with_socket Now Own)) found_now

  pub kept_ended : (state : LinkState) → Kept known.number Number Peer Own (with_socket Gone (with_link (Link_in state) (with_socket Now Own))) state
  kept_ended state = kept_socket Gone Number Peer Own (with_link (Link_in state) (with_socket Now Own)) state (kept_with (Link_in state) refl refl)

  -- the link forgets all
  abbrev pub Failed : HostState
  Failed = with_link (forgotten (link_of scene x) Idle) (with_socket Gone (with_link (Link_in Idle) (with_socket Now Own)))

  pub kept_failed : Kept known.number Number Peer Own Failed Idle
  kept_failed = kept_link known.number Number Peer (forgotten (link_of scene x) Idle) Own (with_socket Gone (with_link (Link_in Idle) (with_socket Now Own))) Idle (link_named Own Number Peer).0 (link_named Own Number Peer).1 (kept_ended Idle)

  pub found_gone : (now : HostState) → find (is_socket known.number) (with_socket Gone now).sockets ≡ Some Gone
  found_gone now = socket_kept Gone now.sockets

  -- that the other endpoint closed is read
  pub closed_read : (probed : Bool) → item ≡ items.Frame frames.EndClosed → IsUser scene x known → (link_of scene x).state ≡ Up known.number probed → IsSeen scene x cell (reads_front scene x known) (read_at e i ∷ [])
  closed_read probed is user up = record {
    steps = steps.Read known.number ∷ steps.Down known.number ∷ told_failed (link_of scene x);
    host = Failed;
    does = takes_frame frames.EndClosed is user ∙ ap (host.after_steps (steps.Read known.number ∷ [])) (fails_up (link_of scene x) known.number probed (with_socket Now Own) up)
        ∙ ap (λ (z : HostState). Ok (steps.Read known.number ∷ steps.Down known.number ∷ told_failed (link_of scene x), with_link (forgotten (link_of scene x) Idle) z)) (ended_with Idle);
    allowed = (may_read e i V, tt);
    seen = read_and_over (steps.Down known.number ∷ told_failed (link_of scene x)) Failed Idle kept_failed (found_gone (with_link (Link_in Idle) (with_socket Now Own))) (downs_it Failed)
        ∙ sym (reads_closed V i Seen x Rest sock_at e reads.has.opener ends_up (first_is ∙ ap (λ (z : Item). kind z ∷ Rest) is)
        ∙ closed V x i probed (leaving e Rest Seen) (link_up probed up)
        ∙ ap (λ (z : Sock). point x Idle (put i z V)) (end_of_own e x (leaving e Rest Seen) (opener_left e Rest Seen ∙ reads.has.opener) ∙ ended_left e Rest Seen));
  } where
    ends_up : IsUp e Seen
    ends_up = is_up (frame_expected known.expected frames.EndClosed (subst (MayStand known.expected) is reads.stream.each.0))

    ended_left : (f : End) (w : List pair.Item) (z : Sock) → ended_at f (leaving f w z) ≡ ended_at f z
    ended_left O w z = refl
    ended_left T w z = refl

  -- ---- frames of connections

  kept_between : Kept known.number Number Peer Own (with_socket Now Own) (link_of scene x).state
  kept_between = kept_socket Now Number Peer Own Own (link_of scene x).state (kept_all known.number Number Peer Own)

  -- the item is read, told to the node, and nothing else changes at the sockets
  payload_seen : (after : HostState) (event : Event) → Kept known.number Number Peer Own after (link_of scene x).state → find (is_socket known.number) after.sockets ≡ Some Now → IsUp e Seen → kind item ≡ pair.Data
      → view (after_steps scene x cell (steps.Read known.number ∷ steps.Post (link_of scene x).end event ∷ []) after) ≡ run (read_at e i ∷ []) V
  payload_seen after event kept found up is = read_and_then (steps.Post (link_of scene x).end event ∷ []) after (link_of scene x).state Read Now read_alike kept found refl
      ∙ ap (λ (z : Sock). point x (V.link x) (put i z V)) (read_is ∙ stays_up e Rest Seen up)
      ∙ point_same x (V.link x) (put i (leaving e Rest Seen) V) refl
      ∙ sym (reads_data V i Seen x Rest sock_at e up (first_is ∙ ap (λ (k : pair.Item). k ∷ Rest) is))

  ends_up_by : (f : Frame) → item ≡ items.Frame f → IsUp e Seen
  ends_up_by f is = is_up (frame_expected known.expected f (subst (MayStand known.expected) is reads.stream.each.0))

  -- a payload is read
  pub payload_read : (id : ℕ) (payload : List ℕ) (conn : ℕ) → item ≡ items.Frame (frames.Data id payload) → IsUser scene x known → conn_of (link_of scene x).created id ≡ Ok conn
      → IsSeen scene x cell (reads_front scene x known) (read_at e i ∷ [])
  payload_read id payload conn is user carried = record {
    steps = steps.Read known.number ∷ steps.Post (link_of scene x).end (events.Received conn payload) ∷ [];
    host = with_socket Now Own;
    does = takes_frame (frames.Data id payload) is user
        ∙ ap (λ (r : Result ℕ LightError). host.after_steps (steps.Read known.number ∷ []) (receives Now (link_of scene x) payload r (with_socket Now Own))) carried;
    allowed = (may_read e i V, tt);
    seen = payload_seen (with_socket Now Own) (events.Received conn payload) kept_between found_now (ends_up_by (frames.Data id payload) is) (ap kind is);
  }

  -- that a connection is closed is read
  pub close_read : (id : ℕ) (left : ℕ × List Connection) → item ≡ items.Frame (frames.Closed id) → IsUser scene x known → closed_of (link_of scene x).created id ≡ Ok left
      → IsSeen scene x cell (reads_front scene x known) (read_at e i ∷ [])
  close_read id left is user closes = record {
    steps = steps.Read known.number ∷ steps.Post (link_of scene x).end (events.ConnectionClosed left.0) ∷ [];
    host = with_link (record (link_of scene x) { created = left.1 }) (with_socket Now Own);
    does = takes_frame (frames.Closed id) is user
        ∙ ap (λ (r : Result (ℕ × List Connection) LightError). host.after_steps (steps.Read known.number ∷ []) (items_of.closes Now (link_of scene x) r (with_socket Now Own))) closes;
    allowed = (may_read e i V, tt);
    seen = payload_seen (with_link (record (link_of scene x) { created = left.1 }) (with_socket Now Own)) (events.ConnectionClosed left.0)
        (kept_with (record (link_of scene x) { created = left.1 }) refl refl) found_now (ends_up_by (frames.Closed id) is) (ap kind is);
  }

  -- that a connection is opened is read
  pub open_read : (id : ℕ) (created : List Connection) → item ≡ items.Frame (frames.Created id) → IsUser scene x known
      → created_of (link_of scene x).created id (next_arrival Own (link_of scene x).end) ≡ Ok created → nat_lt (arrived_at Own (link_of scene x).end) most_arrived ≡ true
      → IsSeen scene x cell (reads_front scene x known) (read_at e i ∷ [])
  open_read id created is user creates grows = record {
    steps = steps.Read known.number ∷ steps.Post (link_of scene x).end (events.ConnectionOpened (next_arrival Own (link_of scene x).end) (link_of scene x).peer) ∷ [];
    host = with_arrival (link_of scene x).end (with_link (record (link_of scene x) { created = created }) (with_socket Now Own));
    does = takes_frame (frames.Created id) is user
        ∙ ap (λ (r : Result (List Connection) LightError). host.after_steps (steps.Read known.number ∷ []) (items_of.arrives Now (link_of scene x) r (with_socket Now Own))) creates
        ∙ ap (λ b. host.after_steps (steps.Read known.number ∷ []) (if b then posts (link_of scene x).end (events.ConnectionOpened (next_arrival Own (link_of scene x).end) (link_of scene x).peer)
        (with_arrival (link_of scene x).end (with_link (record (link_of scene x) { created = created }) (with_socket Now Own))) else Err stops.Worn)) grows;
    allowed = (may_read e i V, tt);
    seen = payload_seen (with_arrival (link_of scene x).end (with_link (record (link_of scene x) { created = created }) (with_socket Now Own)))
        (events.ConnectionOpened (next_arrival Own (link_of scene x).end) (link_of scene x).peer)
        (kept_arrival known.number Number Peer (link_of scene x).end Own (with_link (record (link_of scene x) { created = created }) (with_socket Now Own)) (link_of scene x).state (kept_with (record (link_of scene x) { created = created }) refl refl))
        (arrival_sockets (link_of scene x).end (with_link (record (link_of scene x) { created = created }) (with_socket Now Own)) known.number ∙ found_now)
        (ends_up_by (frames.Created id) is) (ap kind is);
  }
