-- A request that the node of the lesser address reads while it dials, as moves: it leaves its dial, and accepts.
use Rattle.std.specs.Prelude.{◌≡◌, ℕ, true, false, ◌==◌, nat_eq, List, [], ◌∷◌, map, find, slice_get, slice_set, Option, Some, None, Ok}
use Rattle.std.proofs.Common.{refl, ap, sym, ◌∙◌, arith}
use Rattle.std.proofs.lemmas.Bool.Decides.{nat_tests}
use Rattle.std.proofs.lemmas.Bool.{eqb-true}
use Rattle.std.proofs.lemmas.Option.{slice_get_within}
use Rattle.ch_base.specs.declared.address.Address.{Address}
use Rattle.ch_wire.specs.Spelling.{answer_spelling}
use Rattle.ch_wire.specs.declared.answer.Answer.TheVariants as answers
use Rattle.ch_reader.specs.declared.item.Expected.TheVariants as expected
use Rattle.ch_reader.specs.declared.item.Item.{Item}
use Rattle.ch_reader.specs.declared.item.Item.TheVariants as items
use Rattle.ch_light.proofs.Lists.{set_here, set_other}
use Rattle.ch_link.specs.declared.LinkState.{LinkState}
use Rattle.ch_link.specs.declared.LinkState.TheVariants.{Dialing, Up}
use Rattle.ch_model.specs.declared.name.End.TheVariants.{O, T}
use Rattle.ch_model.specs.declared.step.Step.{Step}
use Rattle.ch_model.specs.declared.step.Step.TheVariants as steps
use Rattle.ch_model.specs.Stages.{Ended}
use Rattle.ch_model.specs.CellSteps.{told_steps}
use Rattle.ch_model.specs.HostState.{Link, Socket, HostState}
use Rattle.ch_model.specs.HostSteps as host
use Rattle.ch_model.specs.HostSteps.{is_socket, with_link, with_socket}
use Rattle.ch_model.specs.HostWrites.{frame_step, ended_in}
use Rattle.ch_model.specs.HostItems.{is_mismatch}
use Rattle.ch_model.specs.WorldState.{Cell, WorldSocket, World}
use Rattle.ch_model.specs.WorldSockets as world
use Rattle.ch_model.specs.WorldSockets.{end_of, with_end, is_end_of}
use Rattle.ch_model.specs.WorldSteps.{all_told}
use Rattle.ch_race.specs.Pair as pair
use Rattle.ch_race.specs.Pair.{Side, other, is_greater, Sock, Pair, put, point}
use Rattle.ch_race.specs.Moves.{Read_t, run, after}
use Rattle.ch_laws_race.specs.Scene.{Scene, hosts_of, host_of, link_of}
use Rattle.ch_laws_race.specs.View.{kind, Reader, reader_at, opener_of, place_of, with_places, is_shut, sock_of, seen, view}
use Rattle.ch_laws_race.specs.Sound.{Acts, AreApart, HasEnd, AreFrames, TakesItem}
use Rattle.ch_laws_race.specs.Reading.{Reads, IsSeen, reads_front}
use Rattle.ch_laws_race.specs.Answers.{AreData, each_said}
use Rattle.ch_laws_race.specs.Requests.{request_to, accepts_and_says}
use Rattle.ch_laws_race.proofs.Keys.{link_named, socket_kept, other_socket}
use Rattle.ch_laws_race.proofs.Sockets.{by_test, same_place, other_place, given, Alike, alike_self, alike_with, end_alike, set_apart, ends_differ, no_other_end, place_found, set_same}
use Rattle.ch_laws_race.proofs.Views.{at_place, host_here, hosts_set, Kept, kept_all, kept_link, kept_socket}
use Rattle.ch_laws_race.proofs.Pairs.{put_here, put_put, piled, point_own}
use Rattle.ch_laws_race.proofs.Steps.{arrived_alike, writes_there, leaves_there, up_there}
use Rattle.ch_laws_race.proofs.Socks.{sock_by, upped, end_of_own, says_at}
use Rattle.ch_laws_race.proofs.Many.{write_all, says_all, all_wrote, all_alike, writes_all, said_all, may_say}
use Rattle.ch_laws_race.proofs.Readings.{taken}
use Rattle.ch_laws_race.proofs.Heard.{takes_dialing, taken_up, left_and_accepted}
use Rattle.ch_laws_race.proofs.One as one
use Rattle.ch_laws_race.proofs.Read as read
use Rattle.ch_laws_race.proofs.RequestsRead as requests
use Rattle.ch_laws_race.proofs.RequestsRead.{behind_answer}
use Rattle.ch_laws_race.proofs.Two.{placed_twice, stage, reader_stays}

never_other : {A : Type 0} (x : Side) → x ≡ other x → A
never_other x h = absurd (clash x h) where
  clash : (x : Side) → x ≡ other x → ⊥
  clash pair.Lesser h = cc
  clash pair.Greater h = cc

turned : (a b : ℕ) → (a == b) ≡ false → (b == a) ≡ false
turned a b h = grind (arith, nat_tests)

turned_place : (a b : ℕ) → nat_eq a b ≡ false → nat_eq b a ≡ false
turned_place a b h = grind (arith, nat_tests)

module _ (scene : Scene) (x : Side) (cell : Cell × ℕ) (i : ℕ) (s : WorldSocket) (known : Socket) (acts : Acts scene x cell) (reads : Reads scene x T i s known (items.Request (request_to scene x)))
    (matches : is_mismatch (host_of scene x) known.peer_host (scene.party x).address.id (scene.party (other x)).address ≡ false)
    (j : ℕ) (dialed : WorldSocket) (own : Socket) (dial : HasEnd scene x O j own.number dialed) (own_kept : find (is_socket own.number) (host_of scene x).sockets ≡ Some own) where
  abbrev V : Pair
  V = view scene

  abbrev W : World
  W = scene.world

  abbrev xs : List WorldSocket
  xs = W.sockets

  abbrev H : ℕ → HostState
  H = hosts_of W

  abbrev Own : HostState
  Own = host_of scene x

  abbrev P : ℕ
  P = (scene.party x).place

  abbrev Number : ℕ
  Number = (scene.party x).address.id

  abbrev Peer : Address
  Peer = (scene.party (other x)).address

  abbrev L : Link
  L = link_of scene x

  abbrev The : Item
  The = items.Request (request_to scene x)

  abbrev Now : Socket
  Now = taken known reads.more

  abbrev Used : Socket
  Used = record Now { user = Some (Number, Peer) }

  abbrev Between : HostState
  Between = with_socket Now Own

  abbrev Asking : HostState
  Asking = with_socket Used Between

  abbrev Read : WorldSocket
  Read = read.Read scene x cell T i s known The acts reads

  abbrev Their : Reader
  Their = reader_at H expected.Answer s.o

  abbrev Seen : Sock
  Seen = sock_of scene.party H s

  abbrev Rest : List pair.Item
  Rest = map kind reads.rest

  abbrev Came : Sock
  Came = taken_up (record Seen { in_t = Rest })

  -- ---- the two sockets differ

  apart_places : nat_eq j i ≡ false
  apart_places = by_test (nat_eq j i)
      (λ h. never_other x (sym dial.opener ∙ ap (opener_of scene.party) (given dialed s (sym dial.at ∙ ap (λ (n : ℕ). slice_get xs n) (sym (same_place i j h)) ∙ reads.has.at)) ∙ reads.has.opener)) (λ h. h)

  apart_numbers : (known.number == own.number) ≡ false
  apart_numbers = by_test (known.number == own.number)
      (λ h. ends_differ (sym (acts.apart.numbered i j s dialed T O P own.number reads.has.at dial.at (ap (λ (n : ℕ). is_end_of P n s.t) (sym (eqb-true known.number own.number h)) ∙ reads.has.end) dial.end).1)) (λ h. h)

  -- ---- the host

  abbrev Left_own : Socket
  Left_own = record own { stage = Ended; since = [] }

  abbrev After_left : HostState
  After_left = with_socket Left_own Asking

  abbrev In : LinkState → Link
  In state = record L { state = state }

  abbrev Raised : HostState
  Raised = with_link (record L { state = Up known.number false; waits = [] }) (with_link (In (Up known.number false)) After_left)

  own_there : find (is_socket own.number) Asking.sockets ≡ Some own
  own_there = other_socket Used own.number apart_numbers Between.sockets ∙ other_socket Now own.number apart_numbers Own.sockets ∙ own_kept

  used_there : find (is_socket known.number) Raised.sockets ≡ Some Used
  used_there = other_socket Left_own known.number (turned known.number own.number apart_numbers) Asking.sockets ∙ socket_kept Used Between.sockets

  abbrev More : List Step
  More = steps.Left own.number ∷ steps.Up known.number ∷ steps.Write known.number (answer_spelling answers.Accepted) None ∷ map (frame_step known.number) L.waits

  abbrev Write_then : List Step
  Write_then = steps.Write known.number (answer_spelling answers.Accepted) None ∷ map (frame_step known.number) L.waits

  abbrev Then : List Step
  Then = steps.Up known.number ∷ Write_then

  -- ---- the world

  abbrev Base : World
  Base = read.Then scene x cell T i s known The acts reads Raised

  abbrev At : Cell
  At = record (cell.0) { host = Raised }

  abbrev xs1 : List WorldSocket
  xs1 = slice_set xs i Read

  abbrev Dial_over : WorldSocket
  Dial_over = with_end O (world.ended dialed.o) dialed

  abbrev xs2 : List WorldSocket
  xs2 = slice_set xs1 j Dial_over

  abbrev Wrote : WorldSocket
  Wrote = read.Wrote scene x cell T i s known The acts reads (items.Answer answers.Accepted) None

  abbrev After_waits : WorldSocket
  After_waits = write_all T L.waits Wrote

  read_alike : Alike s Read
  read_alike = read.read_alike scene x cell T i s known The acts reads

  apart1 : AreApart xs1
  apart1 = set_apart xs i s Read acts.apart reads.has.at read_alike

  dial_at : slice_get xs1 j ≡ Some dialed
  dial_at = set_other xs i Read j (other_place i j apart_places) ∙ dial.at

  over_alike : Alike dialed Dial_over
  over_alike = alike_with O dialed dialed (world.ended dialed.o) (alike_self dialed) refl refl

  apart2 : AreApart xs2
  apart2 = set_apart xs1 j dialed Dial_over apart1 dial_at over_alike

  read_at2 : slice_get xs2 i ≡ Some Read
  read_at2 = set_other xs1 j Dial_over i (other_place j i (turned_place j i apart_places)) ∙ set_here xs i Read (slice_get_within xs i s reads.has.at)

  read_end : is_end_of P known.number Read.t ≡ true
  read_end = end_alike s Read P known.number T read_alike ∙ reads.has.end

  wrote_alike : Alike Read Wrote
  wrote_alike = arrived_alike O Read Read (answer_spelling answers.Accepted) None (alike_self Read)

  after_alike : Alike Read After_waits
  after_alike = all_alike T L.waits Read Wrote wrote_alike

  told : (all_told P At (told_steps More) (record Base { sockets = xs1 })).1 ≡ record Base { sockets = slice_set xs2 i After_waits }
  told = ap (λ (z : List WorldSocket). (all_told P At (told_steps More) (record Base { sockets = z })).1) (sym (set_same xs1 j dialed dial_at))
      ∙ ap (λ (w : World). (all_told P At (told_steps Then) w).1) (leaves_there (record Base { sockets = xs1 }) j dialed dialed O P own.number At apart1 dial_at (alike_self dialed) dial.end)
      ∙ ap (λ (z : List WorldSocket). (all_told P At (told_steps Then) (record Base { sockets = z })).1) (sym (set_same xs2 i Read read_at2))
      ∙ ap (λ (w : World). (all_told P At (told_steps Write_then) w).1) (up_there (record Base { sockets = xs2 }) i Read Read T P known.number At apart2 read_at2 (alike_self Read) read_end)
      ∙ ap (λ (w : World). (all_told P At (told_steps (map (frame_step known.number) L.waits)) w).1)
      (writes_there (record Base { sockets = xs2 }) i Read Read T P known.number At apart2 read_at2 (alike_self Read) read_end (answer_spelling answers.Accepted) None)
      ∙ writes_all (record Base { sockets = xs2 }) i Read T P known.number At apart2 read_at2 read_end L.waits Wrote wrote_alike

  -- ---- what is seen, change by change

  abbrev H1 : ℕ → HostState
  H1 = at_place P Asking H

  abbrev H2 : ℕ → HostState
  H2 = at_place P After_left H1

  kept1 : Kept known.number Number Peer Own Asking L.state
  kept1 = kept_socket Used Number Peer Own Between L.state (kept_socket Now Number Peer Own Own L.state (kept_all known.number Number Peer Own))

  kept2 : Kept own.number Number Peer Asking After_left L.state
  kept2 = kept_socket Left_own Number Peer Asking Asking L.state (kept_all own.number Number Peer Asking)

  kept3 : Kept known.number Number Peer After_left Raised (Up known.number false)
  kept3 = kept_link known.number Number Peer (record L { state = Up known.number false; waits = [] }) After_left (with_link (In (Up known.number false)) After_left) (Up known.number false)
      (link_named Own Number Peer).0 (link_named Own Number Peer).1
      (kept_link known.number Number Peer (In (Up known.number false)) After_left After_left L.state (link_named Own Number Peer).0 (link_named Own Number Peer).1 (kept_all known.number Number Peer After_left))

  abbrev P1 : LinkState
  P1 = with_places (place_of P xs) L.state

  abbrev P2 : LinkState
  P2 = with_places (place_of P xs1) L.state

  first_seen : seen scene.party H1 xs1 scene.quiet ≡ point x P1 (put i (upped T Rest Seen) V)
  first_seen = stage scene.party x H Own Asking xs scene.quiet i known.number T s Read L.state Used acts.differ acts.apart reads.has.at reads.has.end reads.has.between read_alike refl kept1 (socket_kept Used Between.sockets)
      ∙ ap (λ (z : Sock). point x P1 (put i z V)) (read.read_is scene x cell T i s known The acts reads)

  dial_seen : V.sock j ≡ sock_of scene.party H dialed
  dial_seen = one.sock_is scene x cell O j own.number dialed acts dial

  second_seen : seen scene.party H2 xs2 scene.quiet ≡ point x P2 (put j (pair.end_o (V.sock j)) (seen scene.party H1 xs1 scene.quiet))
  second_seen = stage scene.party x H1 Asking After_left xs1 scene.quiet j own.number O dialed Dial_over L.state Left_own acts.differ apart1 dial_at dial.end dial.between over_alike (host_here P Asking H) kept2 (socket_kept Left_own Asking.sockets)
      ∙ ap (λ (r : Reader). point x P2 (put j (sock_by scene.party O (own.expected, []) r Dial_over) (seen scene.party H1 xs1 scene.quiet)))
      (reader_stays scene.party x H Own Asking xs scene.quiet i known.number T s Read L.state Used acts.differ acts.apart reads.has.at reads.has.end reads.has.between read_alike refl kept1 (socket_kept Used Between.sockets)
      expected.Request dialed.t (no_other_end xs i j s dialed T T P known.number acts.apart reads.has.at dial.at reads.has.end apart_places))
      ∙ ap (λ (z : Sock). point x P2 (put j (pair.end_o z) (seen scene.party H1 xs1 scene.quiet))) (sym dial_seen)

  their_same : reader_at H2 expected.Answer s.o ≡ Their
  their_same = reader_stays scene.party x H1 Asking After_left xs1 scene.quiet j own.number O dialed Dial_over L.state Left_own acts.differ apart1 dial_at dial.end dial.between over_alike (host_here P Asking H) kept2 (socket_kept Left_own Asking.sockets)
      expected.Answer s.o (no_other_end xs j i dialed s O O P own.number acts.apart dial.at reads.has.at dial.end (turned_place j i apart_places))
      ∙ reader_stays scene.party x H Own Asking xs scene.quiet i known.number T s Read L.state Used acts.differ acts.apart reads.has.at reads.has.end reads.has.between read_alike refl kept1 (socket_kept Used Between.sockets)
      expected.Answer s.o (one.other_off scene x cell T i known.number s acts reads.has)

  module _ (are : AreData L.waits) (spelled : AreFrames L.waits) (way : TakesItem H expected.Answer s.o (items.Answer answers.Accepted)) where
    socket_now : sock_by scene.party T (expected.Frame, reads.more) Their After_waits ≡ says_all x L.waits Came
    socket_now = all_wrote scene.party T x (expected.Frame, reads.more) Their L.waits Wrote are reads.has.opener reads.has.target (behind_answer Their s.o answers.Accepted L.waits spelled way)
        ∙ ap (says_all x L.waits) (read.wrote_is scene x cell T i s known The acts reads (items.Answer answers.Accepted) None way ∙ says_at T x pair.Accepted (upped T Rest Seen) reads.has.opener)

    third_seen : seen scene.party (at_place P Raised H2) (slice_set xs2 i After_waits) scene.quiet ≡ point x (Up i false) (put i (says_all x L.waits Came) (seen scene.party H2 xs2 scene.quiet))
    third_seen = stage scene.party x H2 After_left Raised xs2 scene.quiet i known.number T Read After_waits (Up known.number false) Used acts.differ apart2 read_at2 read_end reads.has.between after_alike (host_here P After_left H1) kept3 used_there
        ∙ ap (λ (r : Reader). point x (with_places (place_of P xs2) (Up known.number false)) (put i (sock_by scene.party T (expected.Frame, reads.more) r After_waits) (seen scene.party H2 xs2 scene.quiet))) their_same
        ∙ ap (λ (n : ℕ). point x (Up n false) (put i (sock_by scene.party T (expected.Frame, reads.more) Their After_waits) (seen scene.party H2 xs2 scene.quiet))) (place_found xs2 i Read T P known.number apart2 read_at2 read_end)
        ∙ ap (λ (z : Sock). point x (Up i false) (put i z (seen scene.party H2 xs2 scene.quiet))) socket_now

    all_seen : seen scene.party (at_place P Raised H2) (slice_set xs2 i After_waits) scene.quiet ≡ point x (Up i false) (put i (says_all x L.waits Came) (put j (pair.end_o (V.sock j)) V))
    all_seen = third_seen
        ∙ ap (λ (v : Pair). point x (Up i false) (put i (says_all x L.waits Came) v)) (second_seen ∙ ap (λ (v : Pair). point x P2 (put j (pair.end_o (V.sock j)) v)) first_seen)
        ∙ piled x (Up i false) P2 P1 i j (says_all x L.waits Came) (pair.end_o (V.sock j)) (upped T Rest Seen) V

    hosts_same : at_place P Raised H ≡ at_place P Raised H2
    hosts_same = sym (placed_twice P Raised Asking H) ∙ sym (placed_twice P Raised After_left H1)

    -- a request to a node of the lesser address that dials
    pub request_taken : is_greater x ≡ false → is_shut Number Own ≡ false → L.state ≡ Dialing own.number → IsSeen scene x cell (reads_front scene x known) (accepts_and_says scene x i)
    request_taken lesser stands dials = record {
      steps = steps.Read known.number ∷ More;
      host = Raised;
      does = requests.hears_request scene x cell i s known acts reads matches stands
          ∙ ap (host.after_steps (steps.Read known.number ∷ [])) (takes_dialing L own.number known.number Asking dials (requests.ordered scene x cell i s known acts reads matches ∙ lesser))
          ∙ ap (λ (o : Option Socket). Ok (steps.Read known.number ∷ More, with_link (record L { state = Up known.number false; waits = [] }) (ended_in o (with_link (In (Up known.number false)) Asking)))) own_there;
      allowed = (tt, may_say x L.waits (after (Read_t i) V));
      seen = ap (λ (w : World). view (record scene { world = w })) (ap (λ (w : World). (all_told P At (told_steps More) w).1) (one.read_told scene x cell T i known.number s acts reads.has Raised) ∙ told)
          ∙ ap (λ (f : ℕ → HostState). seen scene.party f (slice_set xs2 i After_waits) scene.quiet) (hosts_set W P cell At cell.1 acts.there ∙ hosts_same)
          ∙ all_seen ∙ sym said;
    } where
      dials_here : V.link x ≡ Dialing j
      dials_here = ap (with_places (place_of P xs)) dials ∙ ap (λ (n : ℕ). Dialing n) (place_found xs j dialed O P own.number acts.apart dial.at dial.end)

      came_up : after (Read_t i) V ≡ point x (Up i false) (put i Came (put j (pair.end_o (V.sock j)) V))
      came_up = requests.asked_so scene x cell i s known acts reads matches false stands
          ∙ left_and_accepted V x i j (record Seen { in_t = Rest }) dials_here lesser apart_places
          ∙ ap (λ (z : Sock). point x (Up i false) (put i Came (put j z V))) (end_of_own O x (V.sock j) (ap (λ (z : Sock). z.opener) dial_seen ∙ dial.opener))

      said : run (accepts_and_says scene x i) V ≡ point x (Up i false) (put i (says_all x L.waits Came) (put j (pair.end_o (V.sock j)) V))
      said = ap (run (each_said x L.waits)) came_up
          ∙ said_all x i false L.waits (point x (Up i false) (put i Came (put j (pair.end_o (V.sock j)) V))) (point_own x (Up i false) (put i Came (put j (pair.end_o (V.sock j)) V)))
          ∙ ap (λ (z : Sock). put i (says_all x L.waits z) (point x (Up i false) (put i Came (put j (pair.end_o (V.sock j)) V)))) (put_here i Came (put j (pair.end_o (V.sock j)) V))
          ∙ ap (point x (Up i false)) (put_put i (says_all x L.waits Came) Came (put j (pair.end_o (V.sock j)) V))
