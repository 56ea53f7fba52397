-- What a host makes of an item, and of the end of its input, leaves whose link its ends are for; but a request that is read names its own.
use Rattle.std.proofs.Common.{◌≡◌, ℕ, ◌+◌, Bool, true, false, cond, inl, inr, List, [], ◌∷◌, drop, Ok, Err, refl, ap, ◌∙◌, subst}
use Rattle.std.proofs.lemmas.Bool.{and_parts}
use Rattle.std.specs.Prelude.{find, Result, Option, Some, None, nat_lt}
use Rattle.ch_base.specs.declared.address.Address.{Address}
use Rattle.ch_base.specs.declared.event.Event.TheVariants as events
use Rattle.ch_base.specs.declared.memory.Stop.{Stop}
use Rattle.ch_base.specs.declared.memory.Stop.TheVariants as stops
use Rattle.ch_wire.specs.declared.answer.Answer.{Answer}
use Rattle.ch_wire.specs.declared.frame.Frame.{Frame}
use Rattle.ch_wire.specs.declared.frame.Frame.TheVariants as frames
use Rattle.ch_wire.specs.declared.request.Request.{Request}
use Rattle.ch_reader.specs.declared.item.Expected.TheVariants as expected
use Rattle.ch_reader.specs.declared.item.Front.{Front}
use Rattle.ch_reader.specs.declared.item.Front.TheVariants.{Unfinished, Whole, Refused}
use Rattle.ch_reader.specs.declared.item.Item.{Item}
use Rattle.ch_reader.specs.declared.item.Item.TheVariants as items
use Rattle.ch_link.specs.Sockets.{names}
use Rattle.ch_link.specs.declared.LinkIn.TheVariants as inputs
use Rattle.ch_light.specs.Ids.{created_of, conn_of, closed_of}
use Rattle.ch_light.specs.declared.Connection.{Connection}
use Rattle.ch_light.specs.declared.error.LightError.{LightError}
use Rattle.ch_model.specs.declared.step.Step.{Step}
use Rattle.ch_model.specs.declared.step.Step.TheVariants as steps
use Rattle.ch_model.specs.declared.step.SocketEvent.TheVariants as sockets
use Rattle.ch_model.specs.Host.{front_of, is_ready_front, first_ready, on_socket, takes, handles, some_steps, host_on, host_next}
use Rattle.ch_model.specs.HostState.{Endpoint, Link, Socket, HostState}
use Rattle.ch_model.specs.HostSteps.{Stepped, still, after_steps, link_with, with_link, with_socket, with_endpoint, is_endpoint, is_socket}
use Rattle.ch_model.specs.HostWrites.{leaves, answers_and_leaves}
use Rattle.ch_model.specs.HostLinks.{hears}
use Rattle.ch_model.specs.HostItems.{most_arrived, posts, gone_from, is_gone, refusal_of, asks_link, reads_request, heard_answer, arrived_at, with_arrival, next_arrival, arrives, closes, receives, reads_frame, reads_on, reads_other, reads}
use Rattle.ch_model.specs.Stages.{Stage, is_open}
use Rattle.ch_laws_items.specs.Kept.{Apart}
use Rattle.ch_laws_items.proofs.Next.{served}
use Rattle.ch_laws_log.proofs.HostTold.{number_same, find_stored}
use Rattle.ch_laws_calls.specs.UsersRecords.{Users, Nobody, IsFree, Holds, AllHold, Asks}
use Rattle.ch_laws_calls.proofs.UsersHolds.{onward, from_held, alike, at_rest, keeps, left, answered, heard}

-- ---- a socket that is gone

gone : (may : Users) (sock : ℕ) (link : Link) (host : HostState) → AllHold may host (gone_from sock link host)
gone may sock link host = by_test (names link.state sock) where
  by_test : (b : Bool) → AllHold may host (cond b (hears inputs.Gone link host) (leaves sock host))
  by_test true = heard may inputs.Gone link host tt
  by_test false = left may sock host

pub socket_gone : (may : Users) (socket : Socket) (host : HostState) → AllHold may host (is_gone socket host)
socket_gone may socket host = by_user socket.user where
  by_user : (user : Option (ℕ × Address)) → AllHold may host (elim user as (λ x. Stepped) [
    | None ↦ leaves socket.number host
    | Some user ↦ gone_from socket.number (link_with host user.0 user.1) host
  ])
  by_user None = left may socket.number host
  by_user (Some user) = gone may socket.number (link_with host user.0 user.1) host

-- ---- items

arrival_sockets : (end : ℕ) (link : Link) (host : HostState) → ((with_arrival end (with_link link host)).sockets ≡ host.sockets) × ((with_arrival end (with_link link host)).dials ≡ host.dials)
arrival_sockets end link host = by_endpoint (find (is_endpoint end) host.ends) where
  after : Option Endpoint → HostState
  after o = elim o as (λ o. HostState) [
    | None ↦ with_link link host
    | Some endpoint ↦ with_endpoint (record endpoint { arrived = endpoint.arrived + 1 }) (with_link link host)
  ]

  by_endpoint : (o : Option Endpoint) → ((after o).sockets ≡ host.sockets) × ((after o).dials ≡ host.dials)
  by_endpoint None = (refl, refl)
  by_endpoint (Some endpoint) = (refl, refl)

arrived : (may : Users) (socket : Socket) (link : Link) (created : Result (List Connection) LightError) (host : HostState) → AllHold may host (arrives socket link created host)
arrived may socket link (Err e) host = socket_gone may socket host
arrived may socket link (Ok created) host = by_test (nat_lt (arrived_at host link.end) most_arrived) where
  after : HostState
  after = with_arrival link.end (with_link (record link { created = created }) host)

  by_test : (b : Bool) → AllHold may host (cond b (posts link.end (events.ConnectionOpened (next_arrival host link.end) link.peer) after) (Err stops.Worn))
  by_test true = let same = arrival_sockets link.end (record link { created = created }) host in alike may host after same.0 same.1
  by_test false = tt

closed : (may : Users) (socket : Socket) (link : Link) (done : Result (ℕ × List Connection) LightError) (host : HostState) → AllHold may host (closes socket link done host)
closed may socket link (Err e) host = socket_gone may socket host
closed may socket link (Ok done) host = alike may host (with_link (record link { created = done.1 }) host) refl refl

received : (may : Users) (socket : Socket) (link : Link) (payload : List ℕ) (conn : Result ℕ LightError) (host : HostState) → AllHold may host (receives socket link payload conn host)
received may socket link payload (Err e) host = socket_gone may socket host
received may socket link payload (Ok conn) host = at_rest may host

framed : (may : Users) (socket : Socket) (link : Link) (frame : Frame) (host : HostState) → AllHold may host (reads_frame socket link frame host)
framed may socket link (frames.Created id) host = arrived may socket link (created_of link.created id (next_arrival host link.end)) host
framed may socket link (frames.Closed id) host = closed may socket link (closed_of link.created id) host
framed may socket link (frames.Data id payload) host = received may socket link payload (conn_of link.created id) host
framed may socket link frames.EndClosed host = heard may inputs.EndClosed link host tt
framed may socket link frames.Probe host = heard may inputs.Probe link host tt
framed may socket link frames.ProbeAck host = heard may inputs.Ack link host tt

read_on : (may : Users) (socket : Socket) (link : Link) (item : Item) (host : HostState) → AllHold may host (reads_on socket link item host)
read_on may socket link (items.Request request) host = at_rest may host
read_on may socket link (items.Answer answer) host = heard may (inputs.Answered (heard_answer answer)) link host tt
read_on may socket link (items.Frame frame) host = framed may socket link frame host

read_other : (may : Users) (socket : Socket) (item : Item) (host : HostState) → AllHold may host (reads_other socket item host)
read_other may socket item host = by_user socket.user where
  by_user : (user : Option (ℕ × Address)) → AllHold may host (elim user as (λ x. Stepped) [
    | None ↦ still host
    | Some user ↦ reads_on socket (link_with host user.0 user.1) item host
  ])
  by_user None = at_rest may host
  by_user (Some user) = read_on may socket (link_with host user.0 user.1) item host

-- the host's record of the socket
abbrev IsFound : Socket → HostState → Type 0
IsFound socket host = find (is_socket socket.number) host.sockets ≡ Some socket

requested : (may : Users) (socket : Socket) (request : Request) (host : HostState) → may socket.number (request.target, request.from) → IsFound socket host → AllHold may host (reads_request socket request host)
requested may socket request host own f = by_answer (refusal_of host socket request.target request.from) where
  now : Socket
  now = record socket { user = Some (request.target, request.from) }

  by_answer : (answer : Option Answer) → AllHold may host (elim answer as (λ x. Stepped) [
    | Some answer ↦ answers_and_leaves socket.number answer host
    | None ↦ asks_link socket request.target request.from host
  ])
  by_answer (Some answer) = answered may socket.number answer host
  by_answer None = from_held may host (with_socket now host) (asks_link socket request.target request.from host)
      (keeps may now socket host f (record { peer_host = refl; user = inr ((request.target, request.from), refl, own) })) (heard may (inputs.Asked socket.number) (link_with host request.target request.from) (with_socket now host) tt)

-- whom a request that is read names, may be a user
abbrev MayAsk : Users → Socket → Item → Type 0
MayAsk may socket (items.Request request) = may socket.number (request.target, request.from)
MayAsk may socket item = Unit {0}

read : (may : Users) (socket : Socket) (item : Item) (host : HostState) → MayAsk may socket item → IsFound socket host → AllHold may host (reads socket item host)
read may socket (items.Request request) host own f = requested may socket request host own f
read may socket (items.Answer answer) host own f = read_other may socket (items.Answer answer) host
read may socket (items.Frame frame) host own f = read_other may socket (items.Frame frame) host

-- an item is taken from a socket's bytes
taken : (may : Users) (socket : Socket) (rest : List ℕ) (item : Item) (host : HostState) → MayAsk may (record socket { since = rest; expected = expected.Frame }) item → IsFound socket host → AllHold may host (takes (record socket { since = rest; expected = expected.Frame }) item host)
taken may socket rest item host own f = read_first (reads now item (with_socket now host)) (read may now item (with_socket now host) own there) where
  now : Socket
  now = record socket { since = rest; expected = expected.Frame }

  there : IsFound now (with_socket now host)
  there = find_stored now host.sockets socket.number ∙ ap (λ b. cond b (Some now) (find (is_socket socket.number) host.sockets)) (number_same socket.number)

  read_first : (more : Stepped) → AllHold may (with_socket now host) more → AllHold may host (after_steps (steps.Read socket.number ∷ []) more)
  read_first (Ok more) t = λ s. let first = keeps may now socket host f (record { peer_host = refl; user = inl refl }) s in onward may host (with_socket now host) more.1 first (t first.free)
  read_first (Err stop) t = tt

handled : (socket : Socket) (host : HostState) → IsFound socket host → is_open socket.stage ≡ true → AllHold (Asks host) host (handles socket (front_of socket) host)
handled socket host f stands = by_front (front_of socket).0 refl where
  asks : (item : Item) → (front_of socket).0 ≡ Whole item → MayAsk (Asks host) (record socket { since = drop (front_of socket).1 socket.since; expected = expected.Frame }) item
  asks (items.Request request) e = (request, record { socket = socket; found = f; stands = stands; front = e }, refl)
  asks (items.Answer answer) e = tt
  asks (items.Frame frame) e = tt

  by_front : (x : Front) → (front_of socket).0 ≡ x → AllHold (Asks host) host (elim x as (λ x. Stepped) [
    | Unfinished ↦ still host
    | Refused error ↦ is_gone socket host
    | Whole item ↦ takes (record socket { since = drop (front_of socket).1 socket.since; expected = expected.Frame }) item host
  ])
  by_front Unfinished e = at_rest (Asks host) host
  by_front (Refused error) e = socket_gone (Asks host) socket host
  by_front (Whole item) e = taken (Asks host) socket (drop (front_of socket).1 socket.since) item host (asks item e) f

-- an item that is handled, where there is one, names but the user that is read
pub next_holds : (host after : HostState) (told : List Step) → Apart host.sockets → IsFree host → host_next host ≡ Ok (Some told, after) → Holds (Asks host) host after
unfolding host_next
next_holds host after told apart s e = by_first (first_ready host.sockets) refl e where
  some_in : Result (Option (List Step) × HostState) Stop → Option (List Step)
  some_in (Ok next) = next.0
  some_in (Err stop) = None

  host_in : Result (Option (List Step) × HostState) Stop → HostState
  host_in (Ok next) = next.1
  host_in (Err stop) = host

  by_done : (one : Stepped) → AllHold (Asks host) host one → some_steps one ≡ Ok (Some told, after) → Holds (Asks host) host after
  by_done (Ok one) f e = subst (λ (h : HostState). Holds (Asks host) host h) (ap host_in e) (f s)
  by_done (Err stop) f e = absurd cc

  by_first : (o : Option Socket) → first_ready host.sockets ≡ o → (elim o as (λ o. Result (Option (List Step) × HostState) Stop) [
    | None ↦ Ok (None, host)
    | Some socket ↦ some_steps (handles socket (front_of socket) host)
  ]) ≡ Ok (Some told, after) → Holds (Asks host) host after
  by_first None f e = let never : None ≡ Some told = ap some_in e in absurd cc
  by_first (Some socket) f e = let at = served host.sockets socket apart f in
      by_done (handles socket (front_of socket) host) (handled socket host at.found (and_parts (is_open socket.stage) (is_ready_front (front_of socket).0) at.ready).0) e

-- ---- the end of its input

on_one : (may : Users) (test : Stage → Bool) (sock : ℕ) (f : Socket → HostState → Stepped) (host : HostState) → ((socket : Socket) → AllHold may host (f socket host)) → AllHold may host (on_socket test sock f host)
on_one may test sock f host each = by_socket (find (is_socket sock) host.sockets) where
  by_test : (socket : Socket) (b : Bool) → AllHold may host (cond b (f socket host) (still host))
  by_test socket true = each socket
  by_test socket false = at_rest may host

  by_socket : (o : Option Socket) → AllHold may host (elim o as (λ x. Stepped) [
    | None ↦ still host
    | Some socket ↦ cond (test socket.stage) (f socket host) (still host)
  ])
  by_socket None = at_rest may host
  by_socket (Some socket) = by_test socket (test socket.stage)

pub ended_holds : (host : HostState) (sock : ℕ) → AllHold Nobody host (host_on host (sockets.Ended sock))
unfolding host_on
ended_holds host sock = on_one Nobody is_open sock is_gone host (λ socket. socket_gone Nobody socket host)
