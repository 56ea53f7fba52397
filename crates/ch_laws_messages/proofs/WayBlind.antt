-- What a host reads as it handles an item: that one alone; and nothing as the input of a socket ends, or an end is joined.
use Rattle.std.proofs.Common.{◌≡◌, ◌⊎◌, inl, inr, ℕ, suc, Bool, true, false, cond, List, [], ◌∷◌, drop, Ok, Err, refl, sym, ap, ◌∙◌, subst}
use Rattle.std.proofs.lemmas.Bool.{and_parts}
use Rattle.std.specs.Prelude.{find, Option, Some, None, Result, nat_lt, ◌==◌}
use Rattle.ch_base.specs.declared.address.Address.{Address}
use Rattle.ch_base.specs.declared.event.Event.TheVariants as events
use Rattle.ch_base.specs.declared.memory.Stop.TheVariants as stops
use Rattle.ch_wire.specs.Spelling.{request_spelling}
use Rattle.ch_wire.specs.declared.answer.Answer.{Answer}
use Rattle.ch_wire.specs.declared.frame.Frame.{Frame}
use Rattle.ch_wire.specs.declared.frame.Frame.TheVariants as frames
use Rattle.ch_wire.specs.declared.request.Request.{Request}
use Rattle.ch_reader.specs.declared.item.Expected.TheVariants as expected
use Rattle.ch_reader.specs.declared.item.Front.{Front}
use Rattle.ch_reader.specs.declared.item.Front.TheVariants.{Unfinished, Whole, Refused}
use Rattle.ch_reader.specs.declared.item.Item.{Item}
use Rattle.ch_reader.specs.declared.item.Item.TheVariants as items
use Rattle.ch_light.specs.Ids.{created_of, conn_of, closed_of}
use Rattle.ch_light.specs.declared.Connection.{Connection}
use Rattle.ch_light.specs.declared.error.LightError.{LightError}
use Rattle.ch_link.specs.Sockets.{names}
use Rattle.ch_link.specs.Table.{step_of}
use Rattle.ch_link.specs.declared.LinkAnswer.TheVariants as links
use Rattle.ch_link.specs.declared.LinkIn.{LinkIn}
use Rattle.ch_link.specs.declared.LinkIn.TheVariants as inputs
use Rattle.ch_link.specs.declared.LinkState.{LinkState}
use Rattle.ch_link.specs.declared.LinkState.TheVariants as states
use Rattle.ch_model.specs.declared.step.SocketEvent.TheVariants as sockets
use Rattle.ch_model.specs.declared.step.Step.{Step}
use Rattle.ch_model.specs.declared.step.Step.TheVariants as steps
use Rattle.ch_model.specs.Greater.{is_greater}
use Rattle.ch_model.specs.Host.{joins, front_of, is_ready_front, first_ready, takes, handles, host_on, host_next}
use Rattle.ch_model.specs.HostItems.{most_arrived, posts, gone_from, is_gone, refusal_of, asks_link, reads_request, heard_answer, arrived_at, with_arrival, next_arrival, arrives, closes, receives, reads_frame, reads_on, reads}
use Rattle.ch_model.specs.HostLinks.{does_act, hears}
use Rattle.ch_model.specs.HostState.{Link, Socket, HostState}
use Rattle.ch_model.specs.HostSteps.{Stepped, still, after_steps, own_address, link_with, with_link, with_socket, is_socket}
use Rattle.ch_model.specs.HostWrites.{writes, leaves, answers_and_leaves}
use Rattle.ch_model.specs.Stages.{Open, is_pending, is_open}
use Rattle.ch_laws_items.proofs.Next.{served}
use Rattle.ch_laws_log.specs.HostEnds.{IsSound}
use Rattle.ch_laws_plain.proofs.ReadsTurns.{next_done}
use Rattle.ch_laws_reads.specs.Reads.{reads_of}
use Rattle.ch_laws_calls.proofs.FitsStores.{waits_read}

-- an input that a host hears as it reads
abbrev IsHeard : LinkIn → Type 0
IsHeard (inputs.Want n) = ⊥
IsHeard inputs.Late = ⊥
IsHeard inputs.Shut = ⊥
IsHeard input = Unit {0}

-- nothing is read
abbrev AllBlind : Stepped → Type 0
AllBlind (Ok done) = (n : ℕ) → reads_of n done.0 ≡ 0
AllBlind (Err stop) = Unit {0}

heard_in : (host : HostState) (link : Link) (state : LinkState) (input : LinkIn) (greater : Bool) → IsHeard input → AllBlind (does_act (step_of state input greater).1 state input (record link { state = (step_of state input greater).0 }) (with_link (record link { state = (step_of state input greater).0 }) host))
unfolding step_of
heard_in host link state (inputs.Want n) greater h = absurd h
heard_in host link state inputs.Late greater h = absurd h
heard_in host link state inputs.Shut greater h = absurd h
heard_in host link states.Idle (inputs.Asked s) greater h = λ n. waits_read s n link.waits
heard_in host link states.AwaitOther (inputs.Asked s) greater h = λ n. waits_read s n link.waits
heard_in host link (states.Dialing d) (inputs.Asked s) true h = λ n. refl
heard_in host link (states.Dialing d) (inputs.Asked s) false h = λ n. waits_read s n link.waits
heard_in host link (states.Up u false) (inputs.Asked s) greater h = λ n. refl
heard_in host link (states.Up u true) (inputs.Asked s) greater h = λ n. refl
heard_in host link (states.Dialing d) (inputs.Answered links.Accepted) greater h = λ n. waits_read d n link.waits
heard_in host link (states.Dialing d) (inputs.Answered links.Crossed) greater h = λ n. refl
heard_in host link (states.Dialing d) (inputs.Answered links.Invalid) greater h = λ n. refl
heard_in host link (states.Dialing d) (inputs.Answered links.Mismatch) greater h = λ n. refl
heard_in host link (states.Dialing d) inputs.Gone greater h = λ n. refl
heard_in host link (states.Up u probed) inputs.Gone greater h = λ n. refl
heard_in host link (states.Up u probed) inputs.EndClosed greater h = λ n. refl
heard_in host link (states.Up u probed) inputs.Probe greater h = λ n. refl
heard_in host link (states.Up u probed) inputs.Ack greater h = λ n. refl
heard_in host link state input greater h = λ n. refl

heard : (input : LinkIn) (link : Link) (host : HostState) → IsHeard input → AllBlind (hears input link host)
heard input link host h = heard_in host link link.state input (is_greater (own_address host link.end) link.peer) h

gone : (socket : Socket) (host : HostState) → AllBlind (is_gone socket host)
gone socket host = by_user socket.user where
  by_names : (user : ℕ × Address) (b : Bool) → AllBlind (cond b (hears inputs.Gone (link_with host user.0 user.1) host) (leaves socket.number host))
  by_names user true = heard inputs.Gone (link_with host user.0 user.1) host tt
  by_names user false = λ n. refl

  by_user : (o : Option (ℕ × Address)) → AllBlind (elim o as (λ x. Stepped) [
    | None ↦ leaves socket.number host
    | Some user ↦ gone_from socket.number (link_with host user.0 user.1) host
  ])
  by_user None = λ n. refl
  by_user (Some user) = by_names user (names (link_with host user.0 user.1).state socket.number)

requested : (socket : Socket) (request : Request) (host : HostState) → AllBlind (reads_request socket request host)
requested socket request host = by_answer (refusal_of host socket request.target request.from) where
  by_answer : (answer : Option Answer) → AllBlind (elim answer as (λ x. Stepped) [
    | Some answer ↦ answers_and_leaves socket.number answer host
    | None ↦ asks_link socket request.target request.from host
  ])
  by_answer (Some answer) = λ n. refl
  by_answer None = heard (inputs.Asked socket.number) (link_with host request.target request.from) (with_socket (record socket { user = Some (request.target, request.from) }) host) tt

frame_read : (socket : Socket) (user : ℕ × Address) (frame : Frame) (host : HostState) → AllBlind (reads_frame socket (link_with host user.0 user.1) frame host)
frame_read socket user (frames.Created id) host = by_created (created_of link.created id (next_arrival host link.end)) where
  link : Link
  link = link_with host user.0 user.1

  by_test : (created : List Connection) (b : Bool) → AllBlind (cond b (posts link.end (events.ConnectionOpened (next_arrival host link.end) link.peer) (with_arrival link.end (with_link (record link { created = created }) host))) (Err stops.Worn))
  by_test created true = λ n. refl
  by_test created false = tt

  by_created : (r : Result (List Connection) LightError) → AllBlind (arrives socket link r host)
  by_created (Err x) = gone socket host
  by_created (Ok created) = by_test created (nat_lt (arrived_at host link.end) most_arrived)
frame_read socket user (frames.Closed id) host = by_closed (closed_of link.created id) where
  link : Link
  link = link_with host user.0 user.1

  by_closed : (r : Result (ℕ × List Connection) LightError) → AllBlind (closes socket link r host)
  by_closed (Err x) = gone socket host
  by_closed (Ok done) = λ n. refl
frame_read socket user (frames.Data id payload) host = by_conn (conn_of link.created id) where
  link : Link
  link = link_with host user.0 user.1

  by_conn : (r : Result ℕ LightError) → AllBlind (receives socket link payload r host)
  by_conn (Err x) = gone socket host
  by_conn (Ok conn) = λ n. refl
frame_read socket user frames.EndClosed host = heard inputs.EndClosed (link_with host user.0 user.1) host tt
frame_read socket user frames.Probe host = heard inputs.Probe (link_with host user.0 user.1) host tt
frame_read socket user frames.ProbeAck host = heard inputs.Ack (link_with host user.0 user.1) host tt

item_read : (socket : Socket) (item : Item) (host : HostState) → AllBlind (reads socket item host)
item_read socket item host = by_item item where
  by_user : (item : Item) → ((user : ℕ × Address) → AllBlind (reads_on socket (link_with host user.0 user.1) item host)) → (w : Option (ℕ × Address)) → AllBlind (elim w as (λ w. Stepped) [
    | None ↦ still host
    | Some user ↦ reads_on socket (link_with host user.0 user.1) item host
  ])
  by_user item each None = λ n. refl
  by_user item each (Some user) = each user

  by_item : (one : Item) → AllBlind (reads socket one host)
  by_item (items.Request request) = requested socket request host
  by_item (items.Answer answer) = by_user (items.Answer answer) (λ user. heard (inputs.Answered (heard_answer answer)) (link_with host user.0 user.1) host tt) socket.user
  by_item (items.Frame frame) = by_user (items.Frame frame) (λ user. frame_read socket user frame host) socket.user

-- ---- the item that is read

-- what a turn reads: one item, that stands whole at the front of the first socket that is ready; or none
pub record ReadsItem (host : HostState) (told : List Step) : Type 0 where
  pub known : Socket
  pub ready : first_ready host.sockets ≡ Some known
  pub found : find (is_socket known.number) host.sockets ≡ Some known
  pub stands : is_open known.stage ≡ true
  pub how : ((item : Item) × ((front_of known).0 ≡ Whole item) × ((n : ℕ) → reads_of n told ≡ cond (known.number == n) 1 0)) ⊎ (((item : Item) → (front_of known).0 ≡ Whole item → ⊥) × ((n : ℕ) → reads_of n told ≡ 0))

abbrev Reads : Socket → Stepped → Type 0
Reads known (Ok done) = ((item : Item) × ((front_of known).0 ≡ Whole item) × ((n : ℕ) → reads_of n done.0 ≡ cond (known.number == n) 1 0)) ⊎ (((item : Item) → (front_of known).0 ≡ Whole item → ⊥) × ((n : ℕ) → reads_of n done.0 ≡ 0))
Reads known (Err stop) = Unit {0}

read_first : (known : Socket) (item : Item) (done : Stepped) → (front_of known).0 ≡ Whole item → AllBlind done → Reads known (after_steps (steps.Read known.number ∷ []) done)
read_first known item (Err stop) f b = tt
read_first known item (Ok done) f b = inl (item, f, λ n. by_test n (known.number == n)) where
  by_test : (n : ℕ) (c : Bool) → cond c (suc (reads_of n done.0)) (reads_of n done.0) ≡ cond c 1 0
  by_test n true = ap suc (b n)
  by_test n false = b n

none_read : (known : Socket) (done : Stepped) → ((item : Item) → (front_of known).0 ≡ Whole item → ⊥) → AllBlind done → Reads known done
none_read known (Err stop) f b = tt
none_read known (Ok done) f b = inr (f, b)

handled : (host : HostState) (socket : Socket) → Reads socket (handles socket (front_of socket) host)
handled host socket = by_front (front_of socket).0 refl where
  not_whole : (x : Front) → (front_of socket).0 ≡ x → ((item : Item) → x ≡ Whole item → ⊥) → (item : Item) → (front_of socket).0 ≡ Whole item → ⊥
  not_whole x f never item e = never item (sym f ∙ e)

  unfinished : (item : Item) → Unfinished ≡ Whole item → ⊥
  unfinished item e = cc

  by_front : (x : Front) → (front_of socket).0 ≡ x → Reads socket (elim x as (λ x. Stepped) [
    | Unfinished ↦ still host
    | Refused error ↦ is_gone socket host
    | Whole item ↦ takes (record socket { since = drop (front_of socket).1 socket.since; expected = expected.Frame }) item host
  ])
  by_front Unfinished f = none_read socket (still host) (not_whole Unfinished f unfinished) (λ n. refl)
  by_front (Refused error) f = none_read socket (is_gone socket host) (not_whole (Refused error) f (λ item e. absurd cc)) (gone socket host)
  by_front (Whole item) f = let taken : Socket = record socket { since = drop (front_of socket).1 socket.since; expected = expected.Frame } in read_first socket item (reads taken item (with_socket taken host)) f (item_read taken item (with_socket taken host))

pub next_reads : (host after : HostState) (told : List Step) → IsSound host → host_next host ≡ Ok (Some told, after) → ReadsItem host told
next_reads host after told sound e = next_done (λ steps one. ReadsItem host steps) host after told each e where
  each : (socket : Socket) (steps : List Step) (one : HostState) → first_ready host.sockets ≡ Some socket → handles socket (front_of socket) host ≡ Ok (steps, one) → ReadsItem host steps
  each socket steps one f is = let at = served host.sockets socket sound.apart f in
      record { known = socket; ready = f; found = at.found; stands = (and_parts (is_open socket.stage) (is_ready_front (front_of socket).0) at.ready).0; how = subst (Reads socket) is (handled host socket) }

-- ---- turns that read nothing

pub ended_blind : (host after : HostState) (sock : ℕ) (told : List Step) → host_on host (sockets.Ended sock) ≡ Ok (told, after) → (n : ℕ) → reads_of n told ≡ 0
unfolding host_on
ended_blind host after sock told e = subst AllBlind e (by_socket (find (is_socket sock) host.sockets)) where
  by_test : (socket : Socket) (b : Bool) → AllBlind (cond b (is_gone socket host) (still host))
  by_test socket true = gone socket host
  by_test socket false = λ n. refl

  by_socket : (x : Option Socket) → AllBlind (elim x as (λ x. Stepped) [
    | None ↦ still host
    | Some socket ↦ cond (is_open socket.stage) (is_gone socket host) (still host)
  ])
  by_socket None = λ n. refl
  by_socket (Some socket) = by_test socket (is_open socket.stage)

pub joined_blind : (host after : HostState) (sock : ℕ) (told : List Step) → host_on host (sockets.Joined sock) ≡ Ok (told, after) → (n : ℕ) → reads_of n told ≡ 0
unfolding host_on
joined_blind host after sock told e = subst AllBlind e (by_socket (find (is_socket sock) host.sockets)) where
  by_user : (socket : Socket) (w : Option (ℕ × Address)) → AllBlind (elim w as (λ w. Stepped) [
    | None ↦ still host
    | Some user ↦ writes socket.number (request_spelling (record { target = user.1.id; from = own_address host user.0 })) (with_socket (record socket { stage = Open }) host)
  ])
  by_user socket None = λ n. refl
  by_user socket (Some user) = λ n. refl

  by_test : (socket : Socket) (b : Bool) → AllBlind (cond b (joins socket host) (still host))
  by_test socket true = by_user socket socket.user
  by_test socket false = λ n. refl

  by_socket : (x : Option Socket) → AllBlind (elim x as (λ x. Stepped) [
    | None ↦ still host
    | Some socket ↦ cond (is_pending socket.stage) (joins socket host) (still host)
  ])
  by_socket None = λ n. refl
  by_socket (Some socket) = by_test socket (is_pending socket.stage)
