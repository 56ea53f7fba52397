-- A request, read by its target, as moves.
use Rattle.std.specs.Prelude.{◌≡◌, ◌⊎◌, ℕ, Bool, true, false, not, cond, ◌||◌, List, [], ◌∷◌, ◌++◌, map, find, is_some, slice_set, Option, Some, None, Ok, if◌then◌else◌}
use Rattle.std.specs.List.{list_any}
use Rattle.std.proofs.Common.{refl, ap, sym, ◌∙◌, append_assoc, inl, inr}
use Rattle.std.proofs.lemmas.List.{append-nil}
use Rattle.std.proofs.lemmas.Grind.{flat_map-append}
use Rattle.ch_base.specs.declared.address.Address.{Address}
use Rattle.ch_wire.specs.Spelling.{answer_spelling}
use Rattle.ch_wire.specs.declared.answer.Answer.{Answer}
use Rattle.ch_wire.specs.declared.answer.Answer.TheVariants as answers
use Rattle.ch_wire.specs.declared.frame.Frame.{Frame}
use Rattle.ch_wire.specs.declared.request.Request.{Request}
use Rattle.ch_reader.specs.declared.item.Expected.{Expected}
use Rattle.ch_reader.specs.declared.item.Expected.TheVariants as expected
use Rattle.ch_reader.specs.declared.item.Item.{Item}
use Rattle.ch_reader.specs.declared.item.Item.TheVariants as items
use Rattle.ch_reader.specs.Items.{item_spelling, spellings, MayStand, expected_after}
use Rattle.ch_link.specs.Table.{step_of}
use Rattle.ch_link.specs.declared.LinkState.{LinkState}
use Rattle.ch_link.specs.declared.LinkState.TheVariants.{Idle, Dialing, AwaitOther, Up}
use Rattle.ch_link.specs.declared.LinkIn.TheVariants as inputs
use Rattle.ch_model.specs.declared.name.End.TheVariants.{T}
use Rattle.ch_model.specs.declared.step.Step.{Step}
use Rattle.ch_model.specs.declared.step.Step.TheVariants as steps
use Rattle.ch_model.specs.declared.step.Weight.{Weight}
use Rattle.ch_model.specs.Stages.{Stage, Open, Ended, is_ended}
use Rattle.ch_model.specs.CellSteps.{told_steps}
use Rattle.ch_model.specs.HostState.{Link, Socket, HostState}
use Rattle.ch_model.specs.HostSteps as host
use Rattle.ch_model.specs.HostSteps.{Stepped, own_address, is_socket, is_open_endpoint, with_link, with_socket}
use Rattle.ch_model.specs.HostWrites.{frame_step, end_socket, ended_in, answers_and_leaves}
use Rattle.ch_model.specs.Greater as addresses
use Rattle.ch_model.specs.HostLinks as links
use Rattle.ch_model.specs.HostItems.{is_mismatch, refusal_of}
use Rattle.ch_model.specs.WorldState.{Cell, WorldEnd, WorldSocket, World}
use Rattle.ch_model.specs.WorldSockets as world
use Rattle.ch_model.specs.WorldSockets.{end_of, with_end, item_arrives}
use Rattle.ch_model.specs.WorldSteps.{stepped, all_told}
use Rattle.ch_race.specs.Pair as pair
use Rattle.ch_race.specs.Pair.{Side, other, is_greater, TEnd, TOpen, Sock, Pair, put, point, says}
use Rattle.ch_race.specs.Moves.{Read_t, run, after, asked, hears}
use Rattle.ch_laws_race.specs.Scene.{Scene, hosts_of, host_of, link_of, after_steps}
use Rattle.ch_laws_race.specs.View.{kind, Reader, reader_at, target_end, place_of, with_places, is_shut, sock_of, view}
use Rattle.ch_laws_race.specs.Sound.{Acts, HasPlace, HasPlaces, AreFrames, TakesItem}
use Rattle.ch_laws_race.specs.Reading.{Reads, IsSeen, reads_front}
use Rattle.ch_laws_race.specs.Answers.{AreData, each_said}
use Rattle.ch_laws_race.specs.Requests.{request_to, accepts_and_says}
use Rattle.ch_laws_race.proofs.Keys.{link_named, socket_kept}
use Rattle.ch_laws_race.proofs.Sockets.{Alike, alike_with}
use Rattle.ch_laws_race.proofs.Views.{Kept, kept_all, kept_link, kept_socket}
use Rattle.ch_laws_race.proofs.Pairs.{put_here, put_put, point_own, point_same}
use Rattle.ch_laws_race.proofs.Steps.{writes_there, leaves_there, up_there}
use Rattle.ch_laws_race.proofs.Socks.{follows_more, sock_by, upped, ended_at, gone_there, says_at}
use Rattle.ch_laws_race.proofs.Many.{write_all, says_all, all_wrote, all_alike, writes_all, said_all, may_say}
use Rattle.ch_laws_race.proofs.Readings.{taken, takes_front, reads_request}
use Rattle.ch_laws_race.proofs.Heard.{accepts_idle, accepts_awaiting, crosses_dialing, crosses_probed, taken_up, turned_down, accepted_idle, accepted_awaiting, crossed_dialing, crossed_probed, refused_shut}
use Rattle.ch_laws_race.proofs.Read as read

request_expected : (e : Expected) (r : Request) → MayStand e (items.Request r) → e ≡ expected.Request
request_expected expected.Request r fits = refl
request_expected expected.Answer r fits = absurd fits
request_expected expected.Frame r fits = absurd fits

stands_then : (b : Bool) → not b ≡ false → b ≡ true
stands_then true h = refl
stands_then false h = absurd (clash h) where
  clash : true ≡ false → ⊥
  clash h = cc

shut_then : (b : Bool) → not b ≡ true → b ≡ false
shut_then false h = refl
shut_then true h = absurd (clash h) where
  clash : false ≡ true → ⊥
  clash h = cc

-- behind an answer frames may be written
pub behind_answer : (reader : Reader) (end : WorldEnd) (answer : Answer) (waits : List (Frame × Weight)) → AreFrames waits → ((is_ended end.stage || end.is_cut) ≡ false → HasPlace reader end (items.Answer answer))
    → (is_ended (item_arrives (answer_spelling answer) None end).stage || (item_arrives (answer_spelling answer) None end).is_cut) ≡ false → HasPlaces reader (item_arrives (answer_spelling answer) None end) waits
behind_answer reader end answer waits are h = by_gone (is_ended end.stage || end.is_cut) refl where
  clash : {A : Type 0} → true ≡ false → A
  clash q = absurd (no q) where
    no : true ≡ false → ⊥
    no q = cc

  after_one : (e : Expected) (is : List Item) → expected_after e (is ++ items.Answer answer ∷ []) ≡ expected.Frame
  after_one e [] = refl
  after_one e (i ∷ is) = refl

  placed : HasPlace reader end (items.Answer answer) → HasPlaces reader (record end { unread = end.unread ++ answer_spelling answer; places = end.places ++ None ∷ [] }) waits
  placed p = record {
    items = p.items ++ items.Answer answer ∷ [];
    whole = sym (append_assoc reader.1 end.unread (answer_spelling answer)) ∙ ap (λ (z : List ℕ). z ++ answer_spelling answer) p.whole
        ∙ ap (λ (z : List ℕ). spellings p.items ++ z) (sym (append-nil (answer_spelling answer))) ∙ sym (flat_map-append item_spelling p.items (items.Answer answer ∷ []));
    each = follows_more reader.0 p.items (items.Answer answer) p.each p.next;
    framed = after_one reader.0 p.items;
    spelled = are;
  }

  by_gone : (b : Bool) → (is_ended end.stage || end.is_cut) ≡ b
      → (is_ended (cond b end (record end { unread = end.unread ++ answer_spelling answer; places = end.places ++ None ∷ [] })).stage || (cond b end (record end { unread = end.unread ++ answer_spelling answer; places = end.places ++ None ∷ [] })).is_cut) ≡ false
      → HasPlaces reader (cond b end (record end { unread = end.unread ++ answer_spelling answer; places = end.places ++ None ∷ [] })) waits
  by_gone true is = λ q. clash (sym is ∙ q)
  by_gone false is = λ q. placed (h is)

module _ (scene : Scene) (x : Side) (cell : Cell × ℕ) (i : ℕ) (s : WorldSocket) (known : Socket) (acts : Acts scene x cell) (reads : Reads scene x T i s known (items.Request (request_to scene x)))
    (matches : is_mismatch (host_of scene x) known.peer_host (scene.party x).address.id (scene.party (other x)).address ≡ false) where
  abbrev V : Pair
  V = view scene

  abbrev Own : HostState
  Own = host_of scene x

  abbrev P : ℕ
  P = (scene.party x).place

  abbrev Number : ℕ
  Number = (scene.party x).address.id

  abbrev Peer : Address
  Peer = (scene.party (other x)).address

  abbrev The : Item
  The = items.Request (request_to scene x)

  abbrev Seen : Sock
  Seen = sock_of scene.party (hosts_of scene.world) s

  abbrev Rest : List pair.Item
  Rest = map kind reads.rest

  abbrev Now : Socket
  Now = taken known reads.more

  abbrev pub Used : Socket
  Used = record Now { user = Some (Number, Peer) }

  abbrev pub Between : HostState
  Between = with_socket Now Own

  abbrev pub Asking : HostState
  Asking = with_socket Used Between

  abbrev L : Link
  L = link_of scene x

  abbrev In : LinkState → Link
  In state = record L { state = state }

  abbrev Their : Reader
  Their = reader_at (hosts_of scene.world) expected.Answer s.o

  abbrev Read : WorldSocket
  Read = read.Read scene x cell T i s known The acts reads

  asks : Seen.t ≡ TOpen
  asks = ap (λ (r : Reader). target_end (is_some s.t.cell) s.t.stage r.0) (read.mine_is scene x cell T i s known The acts reads)
      ∙ ap (λ (z : Stage). target_end (is_some s.t.cell) z known.expected) reads.standing
      ∙ ap (target_end (is_some s.t.cell) Open) (request_expected known.expected (request_to scene x) reads.stream.each.0)
      ∙ ap (λ b. target_end b Open expected.Request) reads.has.target

  takes_request : reads_front scene x known ≡ host.after_steps (steps.Read known.number ∷ []) (elim (refusal_of Between Now Number Peer) [
    | Some answer ↦ answers_and_leaves known.number answer Between
    | None ↦ links.hears (inputs.Asked known.number) L Asking
  ])
  takes_request = takes_front known The reads.more Own reads.front reads.stream.each.0

  -- the answer by a test of the endpoint
  abbrev Checked : Bool → Bool → Stepped
  Checked mismatch stands = host.after_steps (steps.Read known.number ∷ []) (elim (if mismatch then Some answers.Mismatch else if stands then None else Some answers.Invalid) [
    | Some answer ↦ answers_and_leaves known.number answer Between
    | None ↦ links.hears (inputs.Asked known.number) L Asking
  ])

  pub hears_request : is_shut Number Own ≡ false → reads_front scene x known ≡ host.after_steps (steps.Read known.number ∷ []) (links.hears (inputs.Asked known.number) L Asking)
  hears_request stands = takes_request ∙ ap (λ b. Checked b (list_any (is_open_endpoint Number) Own.ends)) matches ∙ ap (Checked false) (stands_then (list_any (is_open_endpoint Number) Own.ends) stands)

  refuses_request : is_shut Number Own ≡ true → reads_front scene x known ≡ host.after_steps (steps.Read known.number ∷ []) (answers_and_leaves known.number answers.Invalid Between)
  refuses_request shut = takes_request ∙ ap (λ b. Checked b (list_any (is_open_endpoint Number) Own.ends)) matches ∙ ap (Checked false) (shut_then (list_any (is_open_endpoint Number) Own.ends) shut)

  first : Seen.in_t ≡ pair.Request ∷ Rest
  first = read.first_is scene x cell T i s known The acts reads

  abbrev pub Left_there : Sock
  Left_there = record Seen { in_t = Rest }

  pub asked_so : (b : Bool) → is_shut Number Own ≡ b → after (Read_t i) V ≡ asked step_of b x i (put i Left_there V)
  asked_so b is = reads_request V i Seen x Rest (read.sock_at scene x cell T i s known The acts reads) reads.has.opener asks first ∙ ap (λ z. asked step_of z x i (put i Left_there V)) is

  -- ---- declined

  abbrev pub Wrote : Answer → WorldSocket
  Wrote answer = read.Wrote scene x cell T i s known The acts reads (items.Answer answer) None

  abbrev pub Over : Answer → WorldSocket
  Over answer = with_end T (world.ended (Wrote answer).t) (Wrote answer)

  pub over_is : (answer : Answer) → TakesItem (hosts_of scene.world) expected.Answer s.o (items.Answer answer) → sock_by scene.party T (expected.Frame, []) Their (Over answer) ≡ turned_down (kind (items.Answer answer)) Left_there
  over_is answer way = gone_there scene.party T expected.Frame (expected.Frame, reads.more) Their (Wrote answer) reads.has.target
      ∙ ap (ended_at T) (read.wrote_is scene x cell T i s known The acts reads (items.Answer answer) None way ∙ says_at T x (kind (items.Answer answer)) (upped T Rest Seen) reads.has.opener)

  pub over_alike : (answer : Answer) → Alike s (Over answer)
  over_alike answer = alike_with T s (Wrote answer) (world.ended (Wrote answer).t) (read.wrote_alike scene x cell T i s known The acts reads (items.Answer answer) None) refl refl

  module _ (answer : Answer) (after_it : HostState) (state : LinkState) (r : Socket) (kept : Kept known.number Number Peer Own after_it state) (found : find (is_socket known.number) after_it.sockets ≡ Some (record r { stage = Ended; since = [] }))
      (frame : r.expected ≡ expected.Frame) (way : TakesItem (hosts_of scene.world) expected.Answer s.o (items.Answer answer)) where
    abbrev Base : World
    Base = read.Then scene x cell T i s known The acts reads after_it

    abbrev At : Cell
    At = record (cell.0) { host = after_it }

    told : (all_told P At (told_steps (steps.Write known.number (answer_spelling answer) None ∷ steps.Left known.number ∷ [])) (record Base { sockets = slice_set scene.world.sockets i Read })).1 ≡ record Base { sockets = slice_set scene.world.sockets i (Over answer) }
    told = ap (λ (w : World). (stepped P At (steps.Left known.number) w).1)
        (writes_there Base i s Read T P known.number At acts.apart reads.has.at (read.read_alike scene x cell T i s known The acts reads) reads.has.end (answer_spelling answer) None)
        ∙ leaves_there Base i s (Wrote answer) T P known.number At acts.apart reads.has.at (read.wrote_alike scene x cell T i s known The acts reads (items.Answer answer) None) reads.has.end

    -- the answer is written and the end is ended
    declines : view (after_steps scene x cell (steps.Read known.number ∷ steps.Write known.number (answer_spelling answer) None ∷ steps.Left known.number ∷ []) after_it)
        ≡ point x (with_places (place_of P scene.world.sockets) state) (put i (turned_down (kind (items.Answer answer)) Left_there) V)
    declines = read.read_and_then scene x cell T i s known The acts reads (steps.Write known.number (answer_spelling answer) None ∷ steps.Left known.number ∷ []) after_it state (Over answer) (record r { stage = Ended; since = [] })
        (over_alike answer) kept found told
        ∙ ap (λ (z : Expected). point x (with_places (place_of P scene.world.sockets) state) (put i (sock_by scene.party T (z, []) Their (Over answer)) V)) frame
        ∙ ap (λ (z : Sock). point x (with_places (place_of P scene.world.sockets) state) (put i z V)) (over_is answer way)

  -- a request to a node that is shut
  pub request_refused : is_shut Number Own ≡ true → TakesItem (hosts_of scene.world) expected.Answer s.o (items.Answer answers.Invalid) → IsSeen scene x cell (reads_front scene x known) (Read_t i ∷ [])
  request_refused shut way = record {
    steps = steps.Read known.number ∷ steps.Write known.number (answer_spelling answers.Invalid) None ∷ steps.Left known.number ∷ [];
    host = with_socket (record Now { stage = Ended; since = [] }) Between;
    does = refuses_request shut ∙ ap (λ (o : Option Socket). Ok (steps.Read known.number ∷ steps.Write known.number (answer_spelling answers.Invalid) None ∷ steps.Left known.number ∷ [], ended_in o Between))
        (read.found_now scene x cell T i s known The acts reads);
    allowed = (tt, tt);
    seen = declines answers.Invalid (with_socket (record Now { stage = Ended; since = [] }) Between) L.state Now
        (kept_socket (record Now { stage = Ended; since = [] }) Number Peer Own Between L.state (kept_socket Now Number Peer Own Own L.state (kept_all known.number Number Peer Own)))
        (socket_kept (record Now { stage = Ended; since = [] }) Between.sockets) refl way
        ∙ point_same x (V.link x) (put i (turned_down pair.Invalid Left_there) V) refl
        ∙ sym (asked_so true shut ∙ refused_shut V x i Left_there);
  }

  -- the host with the asking link in a state
  abbrev pub Asked_in : LinkState → HostState
  Asked_in state = with_link (In state) Asking

  kept_asked : (link : Link) → link.end ≡ L.end → link.peer ≡ L.peer → Kept known.number Number Peer Own (with_link link Asking) link.state
  kept_asked link a b = kept_link known.number Number Peer link Own Asking L.state (a ∙ (link_named Own Number Peer).0) (b ∙ (link_named Own Number Peer).1)
      (kept_socket Used Number Peer Own Between L.state (kept_socket Now Number Peer Own Own L.state (kept_all known.number Number Peer Own)))

  abbrev pub Crossed_in : LinkState → HostState
  Crossed_in state = with_socket (record Used { stage = Ended; since = [] }) (Asked_in state)

  pub kept_crossed : (state : LinkState) → Kept known.number Number Peer Own (Crossed_in state) state
  kept_crossed state = kept_socket (record Used { stage = Ended; since = [] }) Number Peer Own (Asked_in state) state (kept_asked (In state) refl refl)

  pub ends_used : (state : LinkState) → end_socket known.number (Asked_in state) ≡ Crossed_in state
  ends_used state = ap (λ (o : Option Socket). ended_in o (Asked_in state)) (socket_kept Used Between.sockets)

  crosses_in : (state : LinkState) → is_shut Number Own ≡ false → TakesItem (hosts_of scene.world) expected.Answer s.o (items.Answer answers.Crossed)
      → links.hears (inputs.Asked known.number) L Asking ≡ Ok (steps.Write known.number (answer_spelling answers.Crossed) None ∷ steps.Left known.number ∷ [], end_socket known.number (Asked_in state))
      → hears step_of x i (inputs.Asked i) (put i Left_there V) ≡ point x (with_places (place_of P scene.world.sockets) state) (put i (turned_down pair.Crossed Left_there) V)
      → IsSeen scene x cell (reads_front scene x known) (Read_t i ∷ [])
  crosses_in state stands way did moved = record {
    steps = steps.Read known.number ∷ steps.Write known.number (answer_spelling answers.Crossed) None ∷ steps.Left known.number ∷ [];
    host = Crossed_in state;
    does = hears_request stands ∙ ap (host.after_steps (steps.Read known.number ∷ [])) did
        ∙ ap (λ (z : HostState). Ok (steps.Read known.number ∷ steps.Write known.number (answer_spelling answers.Crossed) None ∷ steps.Left known.number ∷ [], z)) (ends_used state);
    allowed = (tt, tt);
    seen = declines answers.Crossed (Crossed_in state) state Used (kept_crossed state) (socket_kept (record Used { stage = Ended; since = [] }) (Asked_in state).sockets) refl way
        ∙ sym (asked_so false stands ∙ moved);
  }

  -- a request to a node that is up and probed
  pub request_while_probed : (up : ℕ) → is_shut Number Own ≡ false → L.state ≡ Up up true → TakesItem (hosts_of scene.world) expected.Answer s.o (items.Answer answers.Crossed) → IsSeen scene x cell (reads_front scene x known) (Read_t i ∷ [])
  request_while_probed up stands is way = crosses_in (Up up true) stands way (crosses_probed L up known.number Asking is)
      (crossed_probed V x i (place_of P scene.world.sockets up) Left_there (ap (with_places (place_of P scene.world.sockets)) is))

  pub ordered : addresses.is_greater (own_address Asking L.end) L.peer ≡ is_greater x
  ordered = let key = link_named Own Number Peer in
      ap (λ (n : ℕ). addresses.is_greater (own_address Own n) L.peer) key.0 ∙ ap (λ (a : Address). addresses.is_greater a L.peer) acts.own ∙ ap (addresses.is_greater (scene.party x).address) key.1 ∙ acts.order

  -- a request to a node of the greater address that dials
  pub request_while_dialing : (own : ℕ) → is_greater x ≡ true → is_shut Number Own ≡ false → L.state ≡ Dialing own → TakesItem (hosts_of scene.world) expected.Answer s.o (items.Answer answers.Crossed)
      → IsSeen scene x cell (reads_front scene x known) (Read_t i ∷ [])
  request_while_dialing own greater stands is way = crosses_in (Dialing own) stands way (crosses_dialing L own known.number Asking is (ordered ∙ greater))
      (crossed_dialing V x i (place_of P scene.world.sockets own) Left_there (ap (with_places (place_of P scene.world.sockets)) is) greater)

  -- ---- accepted

  abbrev Raised : HostState
  Raised = with_link (record L { state = Up known.number false; waits = [] }) (Asked_in (Up known.number false))

  abbrev After_waits : WorldSocket
  After_waits = write_all T L.waits (Wrote answers.Accepted)

  abbrev pub Came : Sock
  Came = taken_up Left_there

  abbrev pub More : List Step
  More = steps.Up known.number ∷ steps.Write known.number (answer_spelling answers.Accepted) None ∷ map (frame_step known.number) L.waits

  accepts : is_shut Number Own ≡ false → AreData L.waits → AreFrames L.waits → TakesItem (hosts_of scene.world) expected.Answer s.o (items.Answer answers.Accepted)
      → links.hears (inputs.Asked known.number) L Asking ≡ Ok (steps.Up known.number ∷ steps.Write known.number (answer_spelling answers.Accepted) None ∷ map (frame_step known.number) L.waits, Raised)
      → hears step_of x i (inputs.Asked i) (put i Left_there V) ≡ point x (Up i false) (put i Came V)
      → IsSeen scene x cell (reads_front scene x known) (accepts_and_says scene x i)
  accepts stands are spelled way did moved = record {
    steps = steps.Read known.number ∷ More;
    host = Raised;
    does = hears_request stands ∙ ap (host.after_steps (steps.Read known.number ∷ [])) did;
    allowed = (tt, may_say x L.waits (after (Read_t i) V));
    seen = read.read_and_then scene x cell T i s known The acts reads More Raised (Up known.number false) After_waits Used
        (all_alike T L.waits s (Wrote answers.Accepted) (read.wrote_alike scene x cell T i s known The acts reads (items.Answer answers.Accepted) None))
        (kept_link known.number Number Peer (record L { state = Up known.number false; waits = [] }) Own (Asked_in (Up known.number false)) (Up known.number false)
        (link_named Own Number Peer).0 (link_named Own Number Peer).1 (kept_asked (In (Up known.number false)) refl refl))
        (socket_kept Used Between.sockets) told
        ∙ ap (λ (k : LinkState). point x k (put i (sock_by scene.party T (expected.Frame, reads.more) Their After_waits) V)) (read.up_here scene x cell T i s known The acts reads false)
        ∙ ap (λ (z : Sock). point x (Up i false) (put i z V)) socket_now
        ∙ sym said;
  } where
    told : (all_told P (record (cell.0) { host = Raised }) (told_steps (steps.Up known.number ∷ steps.Write known.number (answer_spelling answers.Accepted) None ∷ map (frame_step known.number) L.waits))
        (record (read.Then scene x cell T i s known The acts reads Raised) { sockets = slice_set scene.world.sockets i Read })).1
        ≡ record (read.Then scene x cell T i s known The acts reads Raised) { sockets = slice_set scene.world.sockets i After_waits }
    told = ap (λ (w : World). (all_told P (record (cell.0) { host = Raised }) (told_steps (steps.Write known.number (answer_spelling answers.Accepted) None ∷ map (frame_step known.number) L.waits)) w).1)
        (up_there (read.Then scene x cell T i s known The acts reads Raised) i s Read T P known.number (record (cell.0) { host = Raised }) acts.apart reads.has.at (read.read_alike scene x cell T i s known The acts reads) reads.has.end)
        ∙ ap (λ (w : World). (all_told P (record (cell.0) { host = Raised }) (told_steps (map (frame_step known.number) L.waits)) w).1)
        (writes_there (read.Then scene x cell T i s known The acts reads Raised) i s Read T P known.number (record (cell.0) { host = Raised }) acts.apart reads.has.at (read.read_alike scene x cell T i s known The acts reads) reads.has.end
        (answer_spelling answers.Accepted) None)
        ∙ writes_all (read.Then scene x cell T i s known The acts reads Raised) i s T P known.number (record (cell.0) { host = Raised }) acts.apart reads.has.at reads.has.end L.waits (Wrote answers.Accepted)
        (read.wrote_alike scene x cell T i s known The acts reads (items.Answer answers.Accepted) None)

    socket_now : sock_by scene.party T (expected.Frame, reads.more) Their After_waits ≡ says_all x L.waits Came
    socket_now = all_wrote scene.party T x (expected.Frame, reads.more) Their L.waits (Wrote answers.Accepted) are reads.has.opener reads.has.target (behind_answer Their s.o answers.Accepted L.waits spelled way)
        ∙ ap (says_all x L.waits) (read.wrote_is scene x cell T i s known The acts reads (items.Answer answers.Accepted) None way ∙ says_at T x pair.Accepted (upped T Rest Seen) reads.has.opener)

    said : run (accepts_and_says scene x i) V ≡ point x (Up i false) (put i (says_all x L.waits Came) V)
    said = ap (run (each_said x L.waits)) (asked_so false stands ∙ moved)
        ∙ said_all x i false L.waits (point x (Up i false) (put i Came V)) (point_own x (Up i false) (put i Came V))
        ∙ ap (λ (z : Sock). put i (says_all x L.waits z) (point x (Up i false) (put i Came V))) (put_here i Came V)
        ∙ ap (point x (Up i false)) (put_put i (says_all x L.waits Came) Came V)

  -- a request to a node that dials nothing and isn't up
  pub request_while_free : ((L.state ≡ Idle) ⊎ (L.state ≡ AwaitOther)) → is_shut Number Own ≡ false → AreData L.waits → AreFrames L.waits → TakesItem (hosts_of scene.world) expected.Answer s.o (items.Answer answers.Accepted)
      → IsSeen scene x cell (reads_front scene x known) (accepts_and_says scene x i)
  request_while_free (inl is) stands are spelled way = accepts stands are spelled way (accepts_idle L known.number Asking is)
      (accepted_idle V x i Left_there (ap (with_places (place_of P scene.world.sockets)) is))
  request_while_free (inr is) stands are spelled way = accepts stands are spelled way (accepts_awaiting L known.number Asking is)
      (accepted_awaiting V x i Left_there (ap (with_places (place_of P scene.world.sockets)) is))
