-- What an end's host hears, and each item that it reads: with a place a frame of data alone is written, or waits.
use Rattle.std.proofs.Common.{◌≡◌, ◌⊎◌, inl, inr, ℕ, ◌+◌, Bool, true, false, cond, List, [], ◌∷◌, drop, Ok, Err, refl, sym, ap, ◌∙◌, subst}
use Rattle.std.proofs.lemmas.Bool.{and_parts}
use Rattle.std.specs.Prelude.{find, Option, Some, None, Result, nat_lt}
use Rattle.ch_base.specs.declared.address.Address.{Address}
use Rattle.ch_base.specs.declared.event.Event.TheVariants as events
use Rattle.ch_base.specs.declared.memory.Stop.{Stop}
use Rattle.ch_base.specs.declared.memory.Stop.TheVariants as stops
use Rattle.ch_wire.specs.Spelling.{request_spelling}
use Rattle.ch_wire.specs.declared.answer.Answer.{Answer}
use Rattle.ch_wire.specs.declared.frame.Frame.{Frame}
use Rattle.ch_wire.specs.declared.frame.Frame.TheVariants as frames
use Rattle.ch_wire.specs.declared.request.Request.{Request}
use Rattle.ch_reader.specs.declared.item.Expected.{Expected}
use Rattle.ch_reader.specs.declared.item.Expected.TheVariants as expected
use Rattle.ch_reader.specs.declared.item.Front.{Front}
use Rattle.ch_reader.specs.declared.item.Front.TheVariants.{Unfinished, Whole, Refused}
use Rattle.ch_reader.specs.declared.item.Item.{Item}
use Rattle.ch_reader.specs.declared.item.Item.TheVariants as items
use Rattle.ch_light.specs.Ids.{created_of, conn_of, closed_of}
use Rattle.ch_light.specs.declared.Connection.{Connection}
use Rattle.ch_light.specs.declared.error.LightError.{LightError}
use Rattle.ch_link.specs.Sockets.{names}
use Rattle.ch_link.specs.declared.LinkIn.TheVariants as inputs
use Rattle.ch_link.specs.declared.LinkState.TheVariants as states
use Rattle.ch_model.specs.declared.step.SocketEvent.TheVariants as sockets
use Rattle.ch_model.specs.declared.step.Step.{Step}
use Rattle.ch_model.specs.declared.step.Step.TheVariants as steps
use Rattle.ch_model.specs.Host.{joins, host_on, front_of, is_ready_front, first_ready, takes, handles, some_steps, host_next}
use Rattle.ch_model.specs.HostItems.{most_arrived, posts, gone_from, is_gone, refusal_of, asks_link, reads_request, heard_answer, arrived_at, with_arrival, next_arrival, arrives, closes, receives, reads_frame, reads_on, reads}
use Rattle.ch_model.specs.HostLinks.{hears}
use Rattle.ch_model.specs.HostState.{Endpoint, Link, Socket, HostState}
use Rattle.ch_model.specs.HostSteps.{Stepped, still, after_steps, is_endpoint, own_address, link_with, with_link, with_socket, with_endpoint, is_socket}
use Rattle.ch_model.specs.HostWrites.{writes, leaves, answers_and_leaves}
use Rattle.ch_model.specs.Stages.{Stage, Pending, Open, Ended, is_pending, is_open, is_ended}
use Rattle.ch_laws_bytes.specs.Streams.{AsksNothing}
use Rattle.ch_laws_items.proofs.Next.{served}
use Rattle.ch_laws_links.specs.Naming.{IsNaming, IsDialedBy, IsUpFor}
use Rattle.ch_laws_links.proofs.Says.{used}
use Rattle.ch_laws_writes.specs.Dues.{Due, due_of, due_staged, due_open, due_at}
use Rattle.ch_laws_writes.specs.Orderly.{AreFrames, IsOrderly}
use Rattle.ch_laws_places.specs.Places.{LinksPlaced, HostPlaced}
use Rattle.ch_laws_places.specs.Said.{AllSay}
use Rattle.ch_laws_places.proofs.Waits.{link_stored, waits_placed, over_placed, IsWell, Undialed, AllUndialed, all_say, heard}

-- what is so of a host that hears: what waits for its links may be spelled, and has places as it should
record Hears (host : HostState) : Type 0 where
  placed : HostPlaced host
  framed : (end : ℕ) (peer : Address) → AreFrames (link_with host end peer).waits

hearing : (own : ℕ → Address) (host : HostState) → IsOrderly own host → HostPlaced host → Hears host
hearing own host o p = record { placed = p; framed = λ end peer. (o.links end peer).spelled }

-- with another record of a socket it hears as it did
with_record : (socket : Socket) (host : HostState) → Hears host → Hears (with_socket socket host)
with_record socket host h = record { placed = h.placed; framed = h.framed }

well : (host : HostState) (user : ℕ × Address) → Hears host → IsWell (link_with host user.0 user.1)
well host user h = record { framed = h.framed user.0 user.1; placed = waits_placed host user.0 user.1 h.placed }

-- ---- an end that is joined or lost

-- nothing is done
at_rest : (due : ℕ → Option Due) (host : HostState) → HostPlaced host → AllUndialed due (still host)
at_rest due host p = record { placed = p; said = tt; alone = tt }

left : (due : ℕ → Option Due) (sock : ℕ) (host : HostState) → HostPlaced host → AllUndialed due (leaves sock host)
left due sock host p = record { placed = over_placed sock host p; said = tt; alone = tt }

gone : (due : ℕ → Option Due) (socket : Socket) (host : HostState) → Hears host → AllUndialed due (is_gone socket host)
gone due socket host h = by_user socket.user where
  by_names : (user : ℕ × Address) (b : Bool) → AllUndialed due (cond b (hears inputs.Gone (link_with host user.0 user.1) host) (leaves socket.number host))
  by_names user true = heard due inputs.Gone (link_with host user.0 user.1) host (well host user h) h.placed tt
  by_names user false = left due socket.number host h.placed

  by_user : (o : Option (ℕ × Address)) → AllUndialed due (elim o as (λ x. Stepped) [
    | None ↦ leaves socket.number host
    | Some user ↦ gone_from socket.number (link_with host user.0 user.1) host
  ])
  by_user None = left due socket.number host h.placed
  by_user (Some user) = by_names user (names (link_with host user.0 user.1).state socket.number)

ended_undialed : (own : ℕ → Address) (host : HostState) (sock : ℕ) → IsOrderly own host → HostPlaced host → AllUndialed (due_at host) (host_on host (sockets.Ended sock))
unfolding host_on
ended_undialed own host sock o p = by_socket (find (is_socket sock) host.sockets) where
  by_test : (socket : Socket) (b : Bool) → AllUndialed (due_at host) (cond b (is_gone socket host) (still host))
  by_test socket true = gone (due_at host) socket host (hearing own host o p)
  by_test socket false = at_rest (due_at host) host p

  by_socket : (x : Option Socket) → AllUndialed (due_at host) (elim x as (λ x. Stepped) [
    | None ↦ still host
    | Some socket ↦ cond (is_open socket.stage) (is_gone socket host) (still host)
  ])
  by_socket None = at_rest (due_at host) host p
  by_socket (Some socket) = by_test socket (is_open socket.stage)

joined_undialed : (host : HostState) (sock : ℕ) → HostPlaced host → AllUndialed (due_at host) (host_on host (sockets.Joined sock))
unfolding host_on
joined_undialed host sock p = by_socket (find (is_socket sock) host.sockets) where
  by_user : (socket : Socket) (w : Option (ℕ × Address)) → AllUndialed (due_at host) (elim w as (λ w. Stepped) [
    | None ↦ still host
    | Some user ↦ writes socket.number (request_spelling (record { target = user.1.id; from = own_address host user.0 })) (with_socket (record socket { stage = Open }) host)
  ])
  by_user socket None = at_rest (due_at host) host p
  by_user socket (Some user) = record { placed = p; said = (tt, tt); alone = tt }

  by_test : (socket : Socket) (b : Bool) → AllUndialed (due_at host) (cond b (joins socket host) (still host))
  by_test socket true = by_user socket socket.user
  by_test socket false = at_rest (due_at host) host p

  by_socket : (x : Option Socket) → AllUndialed (due_at host) (elim x as (λ x. Stepped) [
    | None ↦ still host
    | Some socket ↦ cond (is_pending socket.stage) (joins socket host) (still host)
  ])
  by_socket None = at_rest (due_at host) host p
  by_socket (Some socket) = by_test socket (is_pending socket.stage)

pub ended : (own : ℕ → Address) (host : HostState) (sock : ℕ) → IsOrderly own host → HostPlaced host → AllSay (due_at host) (host_on host (sockets.Ended sock))
ended own host sock o p = all_say (due_at host) (host_on host (sockets.Ended sock)) (ended_undialed own host sock o p)

pub joined : (host : HostState) (sock : ℕ) → HostPlaced host → AllSay (due_at host) (host_on host (sockets.Joined sock))
joined host sock p = all_say (due_at host) (host_on host (sockets.Joined sock)) (joined_undialed host sock p)

-- ---- what is due where an item is read

-- a host's socket at whose front an item is read
record Fronts (host : HostState) (socket : Socket) : Type 0 where
  found : find (is_socket socket.number) host.sockets ≡ Some socket
  stands : is_open socket.stage ≡ true

asks_here : (host : HostState) (socket : Socket) → Fronts host socket → AsksNothing (due_at host socket.number)
asks_here host socket f = subst (λ (o : Option Socket). AsksNothing (due_of o)) (sym f.found) (by_stage socket.stage f.stands) where
  by_kind : (e : Expected) → AsksNothing (Some (due_open e))
  by_kind expected.Request = tt
  by_kind expected.Answer = tt
  by_kind expected.Frame = tt

  by_stage : (stage : Stage) → is_open stage ≡ true → AsksNothing (due_staged stage socket)
  by_stage Open e = by_kind socket.expected
  by_stage Pending e = absurd cc
  by_stage Ended e = absurd cc

not_over : (stage : Stage) → is_open stage ≡ true → is_ended stage ≡ false
not_over Open e = refl
not_over Pending e = absurd cc
not_over Ended e = absurd cc

-- the socket from which an item was taken
abbrev taken_of : Socket → List ℕ → Socket
taken_of socket rest = record socket { since = rest; expected = expected.Frame }

-- ---- what is read

requested : (due : ℕ → Option Due) (socket : Socket) (request : Request) (host : HostState) → Hears host → AsksNothing (due socket.number) → AllUndialed due (reads_request socket request host)
requested due socket request host h asks = by_answer (refusal_of host socket request.target request.from) where
  by_answer : (answer : Option Answer) → AllUndialed due (elim answer as (λ x. Stepped) [
    | Some answer ↦ answers_and_leaves socket.number answer host
    | None ↦ asks_link socket request.target request.from host
  ])
  by_answer (Some answer) = record { placed = over_placed socket.number host h.placed; said = (tt, tt); alone = tt }
  by_answer None = heard due (inputs.Asked socket.number) (link_with host request.target request.from) (with_socket (record socket { user = Some (request.target, request.from) }) host) (well host (request.target, request.from) h) h.placed asks

arrival_links : (end : ℕ) (host : HostState) → (with_arrival end host).links ≡ host.links
arrival_links end host = by_endpoint (find (is_endpoint end) host.ends) where
  by_endpoint : (o : Option Endpoint) → (elim o as (λ o. HostState) [
    | None ↦ host
    | Some endpoint ↦ with_endpoint (record endpoint { arrived = endpoint.arrived + 1 }) host
  ]).links ≡ host.links
  by_endpoint None = refl
  by_endpoint (Some endpoint) = refl

frame_read : (due : ℕ → Option Due) (socket : Socket) (user : ℕ × Address) (frame : Frame) (host : HostState) → Hears host → AllUndialed due (reads_frame socket (link_with host user.0 user.1) frame host)
frame_read due socket user (frames.Created id) host h = by_created (created_of link.created id (next_arrival host link.end)) where
  link : Link
  link = link_with host user.0 user.1

  by_test : (created : List Connection) (b : Bool) → AllUndialed due (cond b (posts link.end (events.ConnectionOpened (next_arrival host link.end) link.peer) (with_arrival link.end (with_link (record link { created = created }) host))) (Err stops.Worn))
  by_test created true = record { placed = subst LinksPlaced (sym (arrival_links link.end (with_link (record link { created = created }) host))) (link_stored (record link { created = created }) host.links (well host user h).placed h.placed); said = tt; alone = tt }
  by_test created false = tt

  by_created : (r : Result (List Connection) LightError) → AllUndialed due (arrives socket link r host)
  by_created (Err x) = gone due socket host h
  by_created (Ok created) = by_test created (nat_lt (arrived_at host link.end) most_arrived)
frame_read due socket user (frames.Closed id) host h = by_closed (closed_of link.created id) where
  link : Link
  link = link_with host user.0 user.1

  by_closed : (r : Result (ℕ × List Connection) LightError) → AllUndialed due (closes socket link r host)
  by_closed (Err x) = gone due socket host h
  by_closed (Ok done) = record { placed = link_stored (record link { created = done.1 }) host.links (well host user h).placed h.placed; said = tt; alone = tt }
frame_read due socket user (frames.Data id payload) host h = by_conn (conn_of link.created id) where
  link : Link
  link = link_with host user.0 user.1

  by_conn : (r : Result ℕ LightError) → AllUndialed due (receives socket link payload r host)
  by_conn (Err x) = gone due socket host h
  by_conn (Ok conn) = record { placed = h.placed; said = tt; alone = tt }
frame_read due socket user frames.EndClosed host h = heard due inputs.EndClosed (link_with host user.0 user.1) host (well host user h) h.placed tt
frame_read due socket user frames.Probe host h = heard due inputs.Probe (link_with host user.0 user.1) host (well host user h) h.placed tt
frame_read due socket user frames.ProbeAck host h = heard due inputs.Ack (link_with host user.0 user.1) host (well host user h) h.placed tt

-- the link of an answer's socket dials that one, if any
answer_asks : (host : HostState) (socket : Socket) (user : ℕ × Address) → IsNaming host → Fronts host socket → socket.user ≡ Some user → (sock : ℕ) → (link_with host user.0 user.1).state ≡ states.Dialing sock → AsksNothing (due_at host sock)
answer_asks host socket user s f u sock is = by_link (used host user.0 user.1 socket.number socket s f.found u (not_over socket.stage f.stands)) where
  by_link : (((link_with host user.0 user.1).state ≡ states.Dialing socket.number) × IsDialedBy user.0 user.1 socket) ⊎ ((probed : Bool) × ((link_with host user.0 user.1).state ≡ states.Up socket.number probed) × IsUpFor user.0 user.1 socket) → AsksNothing (due_at host sock)
  by_link (inl d) =
      let both : states.Dialing socket.number ≡ states.Dialing sock = sym d.0 ∙ is in
      let same : socket.number ≡ sock = cc in
      subst (λ (n : ℕ). AsksNothing (due_at host n)) same (asks_here host socket f)
  by_link (inr up) = let both : states.Up socket.number up.0 ≡ states.Dialing sock = sym up.1 ∙ is in absurd cc

item_read : (own : ℕ → Address) (host : HostState) (socket : Socket) (rest : List ℕ) (item : Item) → IsNaming host → IsOrderly own host → HostPlaced host → Fronts host socket → AllUndialed (due_at host) (reads (taken_of socket rest) item (with_socket (taken_of socket rest) host))
item_read own host socket rest item s o p f = by_item item where
  mid : HostState
  mid = with_socket (taken_of socket rest) host

  h : Hears mid
  h = with_record (taken_of socket rest) host (hearing own host o p)

  by_user : (item : Item) → ((user : ℕ × Address) → socket.user ≡ Some user → AllUndialed (due_at host) (reads_on (taken_of socket rest) (link_with host user.0 user.1) item mid)) → (w : Option (ℕ × Address)) → socket.user ≡ w → AllUndialed (due_at host) (elim w as (λ w. Stepped) [
    | None ↦ still mid
    | Some user ↦ reads_on (taken_of socket rest) (link_with mid user.0 user.1) item mid
  ])
  by_user item each None u = at_rest (due_at host) mid p
  by_user item each (Some user) u = each user u

  by_item : (item : Item) → AllUndialed (due_at host) (reads (taken_of socket rest) item mid)
  by_item (items.Request request) = requested (due_at host) (taken_of socket rest) request mid h (asks_here host socket f)
  by_item (items.Answer answer) = by_user (items.Answer answer) (λ user u. heard (due_at host) (inputs.Answered (heard_answer answer)) (link_with host user.0 user.1) mid (well mid user h) h.placed (answer_asks host socket user s f u)) socket.user refl
  by_item (items.Frame frame) = by_user (items.Frame frame) (λ user u. frame_read (due_at host) (taken_of socket rest) user frame mid h) socket.user refl

-- that it is read is told before
read_first : (due : ℕ → Option Due) (sock : ℕ) (done : Stepped) → AllUndialed due done → AllUndialed due (after_steps (steps.Read sock ∷ []) done)
read_first due sock (Ok done) s = record { placed = s.placed; said = s.said; alone = s.alone }
read_first due sock (Err stop) s = tt

handled : (own : ℕ → Address) (host : HostState) (socket : Socket) → IsNaming host → IsOrderly own host → HostPlaced host → Fronts host socket → AllUndialed (due_at host) (handles socket (front_of socket) host)
handled own host socket s o p f = by_front (front_of socket).0 where
  by_front : (x : Front) → AllUndialed (due_at host) (elim x as (λ x. Stepped) [
    | Unfinished ↦ still host
    | Refused error ↦ is_gone socket host
    | Whole item ↦ takes (taken_of socket (drop (front_of socket).1 socket.since)) item host
  ])
  by_front Unfinished = at_rest (due_at host) host p
  by_front (Refused error) = gone (due_at host) socket host (hearing own host o p)
  by_front (Whole item) = read_first (due_at host) socket.number (reads (taken_of socket (drop (front_of socket).1 socket.since)) item (with_socket (taken_of socket (drop (front_of socket).1 socket.since)) host)) (item_read own host socket (drop (front_of socket).1 socket.since) item s o p f)

-- an item that a host reads
pub next_read : (own : ℕ → Address) (host after : HostState) (told : List Step) → IsNaming host → IsOrderly own host → HostPlaced host → host_next host ≡ Ok (Some told, after) → Undialed (due_at host) told after
unfolding host_next
next_read own host after told s o p e = by_first (first_ready host.sockets) refl e where
  some_in : Result (Option (List Step) × HostState) Stop → Option (List Step)
  some_in (Ok next) = next.0
  some_in (Err stop) = None

  steps_in : Result (Option (List Step) × HostState) Stop → List Step
  steps_in (Ok next) = elim next.0 [
    | None ↦ []
    | Some steps ↦ steps
  ]
  steps_in (Err stop) = []

  host_in : Result (Option (List Step) × HostState) Stop → HostState
  host_in (Ok next) = next.1
  host_in (Err stop) = host

  by_done : (one : Stepped) → AllUndialed (due_at host) one → some_steps one ≡ Ok (Some told, after) → Undialed (due_at host) told after
  by_done (Ok one) t e =
      let same_host : one.1 ≡ after = ap host_in e in
      let same_steps : one.0 ≡ told = ap steps_in e in
      subst (λ (h : HostState). Undialed (due_at host) told h) same_host (subst (λ (l : List Step). Undialed (due_at host) l one.1) same_steps t)
  by_done (Err stop) t e = absurd cc

  by_first : (x : Option Socket) → first_ready host.sockets ≡ x → (elim x as (λ x. Result (Option (List Step) × HostState) Stop) [
    | None ↦ Ok (None, host)
    | Some socket ↦ some_steps (handles socket (front_of socket) host)
  ]) ≡ Ok (Some told, after) → Undialed (due_at host) told after
  by_first None f e = let never : None ≡ Some told = ap some_in e in absurd cc
  by_first (Some socket) f e =
      let at = served host.sockets socket o.sound.apart f in
      let both = and_parts (is_open socket.stage) (is_ready_front (front_of socket).0) at.ready in
      by_done (handles socket (front_of socket) host) (handled own host socket s o p (record { found = at.found; stands = both.0 })) e
