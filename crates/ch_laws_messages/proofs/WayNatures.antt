-- What a host writes as it reads an item, or as the input of a socket ends.
use Rattle.std.proofs.Common.{◌≡◌, ◌⊎◌, inl, inr, ℕ, Bool, true, false, cond, List, [], ◌∷◌, map, drop, Ok, Err, refl, sym, ap, ◌∙◌, subst}
use Rattle.std.proofs.lemmas.Bool.{and_parts}
use Rattle.std.specs.Prelude.{find, Option, Some, None, Result, nat_lt, ◌==◌}
use Rattle.ch_base.specs.declared.address.Address.{Address}
use Rattle.ch_base.specs.declared.event.Event.TheVariants as events
use Rattle.ch_base.specs.declared.memory.Stop.TheVariants as stops
use Rattle.ch_wire.specs.Spelling.{answer_spelling, frame_spelling}
use Rattle.ch_wire.specs.declared.answer.Answer.{Answer}
use Rattle.ch_wire.specs.declared.answer.Answer.TheVariants as answers
use Rattle.ch_wire.specs.declared.frame.Frame.{Frame}
use Rattle.ch_wire.specs.declared.frame.Frame.TheVariants as frames
use Rattle.ch_wire.specs.declared.request.Request.{Request}
use Rattle.ch_reader.specs.declared.item.Expected.{Expected}
use Rattle.ch_reader.specs.declared.item.Expected.TheVariants as expected
use Rattle.ch_reader.specs.declared.item.Front.{Front}
use Rattle.ch_reader.specs.declared.item.Front.TheVariants.{Unfinished, Whole, Refused}
use Rattle.ch_reader.specs.declared.item.Item.{Item}
use Rattle.ch_reader.specs.declared.item.Item.TheVariants as items
use Rattle.ch_light.specs.Ids.{created_of, conn_of, closed_of}
use Rattle.ch_light.specs.declared.Connection.{Connection}
use Rattle.ch_light.specs.declared.error.LightError.{LightError}
use Rattle.ch_link.specs.Sockets.{names}
use Rattle.ch_link.specs.Table.{step_of}
use Rattle.ch_link.specs.declared.LinkAnswer.TheVariants as links
use Rattle.ch_link.specs.declared.LinkIn.{LinkIn}
use Rattle.ch_link.specs.declared.LinkIn.TheVariants as inputs
use Rattle.ch_link.specs.declared.LinkState.{LinkState}
use Rattle.ch_link.specs.declared.LinkState.TheVariants as states
use Rattle.ch_model.specs.declared.step.SocketEvent.TheVariants as sockets
use Rattle.ch_model.specs.declared.step.Step.{Step}
use Rattle.ch_model.specs.declared.step.Step.TheVariants as steps
use Rattle.ch_model.specs.declared.step.Weight.{Weight}
use Rattle.ch_model.specs.Greater.{is_greater}
use Rattle.ch_model.specs.Host.{front_of, is_ready_front, first_ready, takes, handles, host_on, host_next}
use Rattle.ch_model.specs.HostItems.{most_arrived, posts, gone_from, is_gone, refusal_of, asks_link, reads_request, heard_answer, arrived_at, with_arrival, next_arrival, arrives, closes, receives, reads_frame, reads_on, reads}
use Rattle.ch_model.specs.HostLinks.{does_act, hears}
use Rattle.ch_model.specs.HostState.{Link, Socket, HostState}
use Rattle.ch_model.specs.HostSteps.{Stepped, still, after_steps, own_address, link_with, with_link, with_socket, is_socket}
use Rattle.ch_model.specs.HostWrites.{said_of, is_up, frame_step, leaves, answers_and_leaves, end_socket}
use Rattle.ch_model.specs.Stages.{is_open}
use Rattle.ch_laws_items.proofs.Next.{served}
use Rattle.ch_laws_links.specs.Naming.{IsNaming, IsDialedBy, IsUpFor}
use Rattle.ch_laws_links.proofs.Readings.{Matches, FrontMatches, reading_matches}
use Rattle.ch_laws_links.proofs.Says.{used}
use Rattle.ch_laws_log.specs.HostEnds.{IsSound}
use Rattle.ch_laws_log.proofs.Stored.{number_is}
use Rattle.ch_laws_writes.specs.Dues.{Due, Answering, Framing, due_open, due_at}
use Rattle.ch_laws_writes.specs.Orderly.{link_at}
use Rattle.ch_laws_calls.proofs.FitsHalves.{MayHear}
use Rattle.ch_laws_calls.proofs.FitsStores.{Stores, stored_again}
use Rattle.ch_laws_links.proofs.Keys.{ended_rest}
use Rattle.ch_laws_places.specs.Said.{Piece, said_at}
use Rattle.ch_laws_plain.proofs.ReadsBrought.{own_key as of_host}
use Rattle.ch_laws_plain.proofs.ReadsTurns.{next_done}
use Rattle.ch_laws_messages.specs.WayNatures.{IsBarePiece, AreBarePieces, flushed, Nature, Natures, AllNatures}
use Rattle.ch_laws_messages.proofs.SaidItemReads.{answers_is, asks_is, due_here, not_over}

-- ---- links that are kept

over_stores : (links : List Link) (sock : ℕ) (host : HostState) (end : ℕ) (peer : Address) (two : Link) → Stores links host.links end peer two → Stores links (end_socket sock host).links end peer two
over_stores links sock host end peer two s = subst (λ (l : List Link). Stores links l end peer two) (sym (ended_rest sock host).0) s

again_over : (sock : ℕ) (host : HostState) (one two : Link) → two.end ≡ one.end → two.peer ≡ one.peer → Stores host.links (with_link two (end_socket sock (with_link one host))).links one.end one.peer two
again_over sock host one two e p = subst (λ (l : List Link). Stores host.links (with_link two (record host { links = l })).links one.end one.peer two) (sym (ended_rest sock (with_link one host)).0) (stored_again host.links one two e p)

-- ---- what is written

-- nothing is
silent : (due : ℕ → Option Due) (links after : List Link) (told : List Step) → ((n : ℕ) → said_at n told ≡ []) → Natures due links told after
silent due links after told none n = inl (subst AreBarePieces (sym (none n)) tt)

bare_answer : (answer : Answer) → IsBarePiece (answer_spelling answer, None)
bare_answer answer = (refl, inl (answer, refl))

-- an answer is
answered : (due : ℕ → Option Due) (links after : List Link) (sock : ℕ) (answer : Answer) → Natures due links (steps.Write sock (answer_spelling answer) None ∷ steps.Left sock ∷ []) after
answered due links after sock answer n = by_test (sock == n) where
  by_test : (b : Bool) → Nature due links after n (cond b ((answer_spelling answer, None) ∷ []) [])
  by_test true = inl (bare_answer answer, tt)
  by_test false = inl tt

probed : (due : ℕ → Option Due) (links after : List Link) (sock up : ℕ) → Natures due links (steps.Write sock (answer_spelling answers.Crossed) None ∷ steps.Left sock ∷ steps.Write up (frame_spelling frames.Probe) None ∷ []) after
probed due links after sock up n = by_tests (sock == n) (up == n) where
  probe : IsBarePiece (frame_spelling frames.Probe, None)
  probe = (refl, inr (frames.Probe, tt, tt, refl))

  by_tests : (a b : Bool) → Nature due links after n (cond a ((answer_spelling answers.Crossed, None) ∷ cond b ((frame_spelling frames.Probe, None) ∷ []) []) (cond b ((frame_spelling frames.Probe, None) ∷ []) []))
  by_tests true true = inl (bare_answer answers.Crossed, (probe, tt))
  by_tests true false = inl (bare_answer answers.Crossed, tt)
  by_tests false true = inl (probe, tt)
  by_tests false false = inl tt

acknowledged : (due : ℕ → Option Due) (links after : List Link) (sock : ℕ) → Natures due links (steps.Write sock (frame_spelling frames.ProbeAck) None ∷ []) after
acknowledged due links after sock n = by_test (sock == n) where
  by_test : (b : Bool) → Nature due links after n (cond b ((frame_spelling frames.ProbeAck, None) ∷ []) [])
  by_test true = inl ((refl, inr (frames.ProbeAck, tt, tt, refl)), tt)
  by_test false = inl tt

-- what waits is
pub flush_said : (sock n : ℕ) (waits : List (Frame × Weight)) → said_at n (map (frame_step sock) waits) ≡ cond (sock == n) (flushed waits) []
flush_said sock n [] = by_test (sock == n) where
  by_test : (b : Bool) → ◌≡◌ {A = List Piece} [] (cond b [] [])
  by_test true = refl
  by_test false = refl
flush_said sock n (wait ∷ rest) = by_test (sock == n) (flush_said sock n rest) where
  by_test : (b : Bool) → said_at n (map (frame_step sock) rest) ≡ cond b (flushed rest) [] → cond b ((frame_spelling wait.0, said_of wait.1) ∷ said_at n (map (frame_step sock) rest)) (said_at n (map (frame_step sock) rest)) ≡ cond b (flushed (wait ∷ rest)) []
  by_test true e = ap (λ (l : List Piece). (frame_spelling wait.0, said_of wait.1) ∷ l) e
  by_test false e = e

-- a link comes up, and what waited is written behind what was written first
risen : (due : ℕ → Option Due) (links after : List Link) (link : Link) (sock : ℕ) (told : List Step) → link_at links link.end link.peer ≡ link → is_up link.state ≡ false → Stores links after link.end link.peer (record link { state = states.Up sock false; waits = [] })
    → ((due sock ≡ Some Framing) × ((n : ℕ) → said_at n told ≡ cond (sock == n) (flushed link.waits) [])) ⊎ ((due sock ≡ Some Answering) × ((n : ℕ) → said_at n told ≡ cond (sock == n) ((answer_spelling answers.Accepted, None) ∷ flushed link.waits) [])) → Natures due links told after
risen due links after link sock told own off s pieces n = by_test (sock == n) refl pieces where
  up : sock ≡ n → (link_at after link.end link.peer).state ≡ states.Up n false
  up same = ap (λ (l : Link). l.state) s.now ∙ ap (λ (k : ℕ). states.Up k false) same

  down : is_up (link_at links link.end link.peer).state ≡ false
  down = ap (λ (l : Link). is_up l.state) own ∙ off

  waited : flushed link.waits ≡ flushed (link_at links link.end link.peer).waits
  waited = ap (λ (l : Link). flushed l.waits) (sym own)

  by_test : (b : Bool) → (sock == n) ≡ b → ((due sock ≡ Some Framing) × ((m : ℕ) → said_at m told ≡ cond (sock == m) (flushed link.waits) [])) ⊎ ((due sock ≡ Some Answering) × ((m : ℕ) → said_at m told ≡ cond (sock == m) ((answer_spelling answers.Accepted, None) ∷ flushed link.waits) [])) → Nature due links after n (said_at n told)
  by_test true h (inl is) = inr (record { end = link.end; peer = link.peer; down = down; up = up (number_is sock n h); is = inl (ap due (sym (number_is sock n h)) ∙ is.0, is.1 n ∙ ap (λ b. cond b (flushed link.waits) []) h ∙ waited) })
  by_test true h (inr is) = inr (record { end = link.end; peer = link.peer; down = down; up = up (number_is sock n h); is = inr (ap due (sym (number_is sock n h)) ∙ is.0, is.1 n ∙ ap (λ b. cond b ((answer_spelling answers.Accepted, None) ∷ flushed link.waits) []) h ∙ ap (λ (l : List Piece). (answer_spelling answers.Accepted, None) ∷ l) waited) })
  by_test false h (inl is) = inl (subst AreBarePieces (sym (is.1 n ∙ ap (λ b. cond b (flushed link.waits) []) h)) tt)
  by_test false h (inr is) = inl (subst AreBarePieces (sym (is.1 n ∙ ap (λ b. cond b ((answer_spelling answers.Accepted, None) ∷ flushed link.waits) []) h)) tt)

-- it accepts
accepted_said : (sock : ℕ) (waits : List (Frame × Weight)) (n : ℕ) → said_at n (steps.Write sock (answer_spelling answers.Accepted) None ∷ map (frame_step sock) waits) ≡ cond (sock == n) ((answer_spelling answers.Accepted, None) ∷ flushed waits) []
accepted_said sock waits n = by_test (sock == n) (flush_said sock n waits) where
  by_test : (b : Bool) → said_at n (map (frame_step sock) waits) ≡ cond b (flushed waits) [] → cond b ((answer_spelling answers.Accepted, None) ∷ said_at n (map (frame_step sock) waits)) (said_at n (map (frame_step sock) waits)) ≡ cond b ((answer_spelling answers.Accepted, None) ∷ flushed waits) []
  by_test true e = ap (λ (l : List Piece). (answer_spelling answers.Accepted, None) ∷ l) e
  by_test false e = e

-- ---- the table

heard_in : (due : ℕ → Option Due) (host : HostState) (link : Link) (state : LinkState) (input : LinkIn) (greater : Bool) → link.state ≡ state → link_at host.links link.end link.peer ≡ link → MayHear due input link
    → AllNatures due host.links (does_act (step_of state input greater).1 state input (record link { state = (step_of state input greater).0 }) (with_link (record link { state = (step_of state input greater).0 }) host))
unfolding step_of
heard_in due host link state (inputs.Want n) greater is own h = absurd h
heard_in due host link state inputs.Late greater is own h = absurd h
heard_in due host link state inputs.Shut greater is own h = absurd h
heard_in due host link states.Idle (inputs.Asked s) greater is own h = risen due host.links _ link s (steps.Up s ∷ steps.Write s (answer_spelling answers.Accepted) None ∷ map (frame_step s) link.waits) own (ap is_up is) (stored_again host.links (record link { state = states.Up s false }) (record link { state = states.Up s false; waits = [] }) refl refl) (inr (h, accepted_said s link.waits))
heard_in due host link states.AwaitOther (inputs.Asked s) greater is own h = risen due host.links _ link s (steps.Up s ∷ steps.Write s (answer_spelling answers.Accepted) None ∷ map (frame_step s) link.waits) own (ap is_up is) (stored_again host.links (record link { state = states.Up s false }) (record link { state = states.Up s false; waits = [] }) refl refl) (inr (h, accepted_said s link.waits))
heard_in due host link (states.Dialing d) (inputs.Asked s) true is own h = answered due host.links _ s answers.Crossed
heard_in due host link (states.Dialing d) (inputs.Asked s) false is own h = risen due host.links _ link s (steps.Left d ∷ steps.Up s ∷ steps.Write s (answer_spelling answers.Accepted) None ∷ map (frame_step s) link.waits) own (ap is_up is) (again_over d host (record link { state = states.Up s false }) (record link { state = states.Up s false; waits = [] }) refl refl) (inr (h, accepted_said s link.waits))
heard_in due host link (states.Up u false) (inputs.Asked s) greater is own h = probed due host.links _ s u
heard_in due host link (states.Up u true) (inputs.Asked s) greater is own h = answered due host.links _ s answers.Crossed
heard_in due host link (states.Dialing d) (inputs.Answered links.Accepted) greater is own h = risen due host.links _ link d (steps.Up d ∷ map (frame_step d) link.waits) own (ap is_up is) (stored_again host.links (record link { state = states.Up d false }) (record link { state = states.Up d false; waits = [] }) refl refl) (inl (h d is, λ n. flush_said d n link.waits))
heard_in due host link (states.Dialing d) (inputs.Answered links.Crossed) greater is own h = silent due host.links _ (steps.Left d ∷ []) (λ n. refl)
heard_in due host link (states.Dialing d) (inputs.Answered links.Invalid) greater is own h = λ n. inl tt
heard_in due host link (states.Dialing d) (inputs.Answered links.Mismatch) greater is own h = λ n. inl tt
heard_in due host link (states.Dialing d) inputs.Gone greater is own h = λ n. inl tt
heard_in due host link (states.Up u probed) inputs.Gone greater is own h = λ n. inl tt
heard_in due host link (states.Up u probed) inputs.EndClosed greater is own h = λ n. inl tt
heard_in due host link (states.Up u probed) inputs.Probe greater is own h = acknowledged due host.links _ u
heard_in due host link (states.Up u probed) inputs.Ack greater is own h = silent due host.links _ [] (λ n. refl)
heard_in due host link state input greater is own h = silent due host.links _ [] (λ n. refl)

heard : (due : ℕ → Option Due) (input : LinkIn) (link : Link) (host : HostState) → link_at host.links link.end link.peer ≡ link → MayHear due input link → AllNatures due host.links (hears input link host)
heard due input link host own h = heard_in due host link link.state input (is_greater (own_address host link.end) link.peer) refl own h

-- ---- what is read

-- links of a host that has other sockets
abbrev Own : List Link → HostState → Type 0
Own links host = host.links ≡ links

own_key : (host : HostState) (end : ℕ) (peer : Address) → link_at host.links (link_with host end peer).end (link_with host end peer).peer ≡ link_with host end peer
own_key host end peer = of_host host end peer

hears_at : (due : ℕ → Option Due) (links : List Link) (input : LinkIn) (end : ℕ) (peer : Address) (host : HostState) → Own links host → MayHear due input (link_with host end peer) → AllNatures due links (hears input (link_with host end peer) host)
hears_at due links input end peer host same h = subst (λ (l : List Link). AllNatures due l (hears input (link_with host end peer) host)) same (heard due input (link_with host end peer) host (own_key host end peer) h)

left : (due : ℕ → Option Due) (links : List Link) (sock : ℕ) (host : HostState) → AllNatures due links (leaves sock host)
left due links sock host = λ n. inl tt

at_rest : (due : ℕ → Option Due) (links : List Link) (host : HostState) → AllNatures due links (still host)
at_rest due links host = λ n. inl tt

gone : (due : ℕ → Option Due) (links : List Link) (socket : Socket) (host : HostState) → Own links host → AllNatures due links (is_gone socket host)
gone due links socket host same = by_user socket.user where
  by_names : (user : ℕ × Address) (b : Bool) → AllNatures due links (cond b (hears inputs.Gone (link_with host user.0 user.1) host) (leaves socket.number host))
  by_names user true = hears_at due links inputs.Gone user.0 user.1 host same tt
  by_names user false = left due links socket.number host

  by_user : (o : Option (ℕ × Address)) → AllNatures due links (elim o as (λ x. Stepped) [
    | None ↦ leaves socket.number host
    | Some user ↦ gone_from socket.number (link_with host user.0 user.1) host
  ])
  by_user None = left due links socket.number host
  by_user (Some user) = by_names user (names (link_with host user.0 user.1).state socket.number)

requested : (due : ℕ → Option Due) (links : List Link) (socket : Socket) (request : Request) (host : HostState) → Own links host → due socket.number ≡ Some Answering → AllNatures due links (reads_request socket request host)
requested due links socket request host same answering = by_answer (refusal_of host socket request.target request.from) where
  by_answer : (answer : Option Answer) → AllNatures due links (elim answer as (λ x. Stepped) [
    | Some answer ↦ answers_and_leaves socket.number answer host
    | None ↦ asks_link socket request.target request.from host
  ])
  by_answer (Some answer) = answered due links _ socket.number answer
  by_answer None = hears_at due links (inputs.Asked socket.number) request.target request.from (with_socket (record socket { user = Some (request.target, request.from) }) host) same answering

frame_read : (due : ℕ → Option Due) (links : List Link) (socket : Socket) (user : ℕ × Address) (frame : Frame) (host : HostState) → Own links host → AllNatures due links (reads_frame socket (link_with host user.0 user.1) frame host)
frame_read due links socket user (frames.Created id) host same = by_created (created_of link.created id (next_arrival host link.end)) where
  link : Link
  link = link_with host user.0 user.1

  by_test : (created : List Connection) (b : Bool) → AllNatures due links (cond b (posts link.end (events.ConnectionOpened (next_arrival host link.end) link.peer) (with_arrival link.end (with_link (record link { created = created }) host))) (Err stops.Worn))
  by_test created true = λ n. inl tt
  by_test created false = tt

  by_created : (r : Result (List Connection) LightError) → AllNatures due links (arrives socket link r host)
  by_created (Err x) = gone due links socket host same
  by_created (Ok created) = by_test created (nat_lt (arrived_at host link.end) most_arrived)
frame_read due links socket user (frames.Closed id) host same = by_closed (closed_of link.created id) where
  link : Link
  link = link_with host user.0 user.1

  by_closed : (r : Result (ℕ × List Connection) LightError) → AllNatures due links (closes socket link r host)
  by_closed (Err x) = gone due links socket host same
  by_closed (Ok done) = λ n. inl tt
frame_read due links socket user (frames.Data id payload) host same = by_conn (conn_of link.created id) where
  link : Link
  link = link_with host user.0 user.1

  by_conn : (r : Result ℕ LightError) → AllNatures due links (receives socket link payload r host)
  by_conn (Err x) = gone due links socket host same
  by_conn (Ok conn) = λ n. inl tt
frame_read due links socket user frames.EndClosed host same = hears_at due links inputs.EndClosed user.0 user.1 host same tt
frame_read due links socket user frames.Probe host same = hears_at due links inputs.Probe user.0 user.1 host same tt
frame_read due links socket user frames.ProbeAck host same = hears_at due links inputs.Ack user.0 user.1 host same tt

-- an item that was read
item_read : (due : ℕ → Option Due) (links : List Link) (socket : Socket) (item : Item) (host : HostState) → Own links host → ((request : Request) → item ≡ items.Request request → due socket.number ≡ Some Answering) → ((answer : Answer) (user : ℕ × Address) → item ≡ items.Answer answer → socket.user ≡ Some user → MayHear due (inputs.Answered (heard_answer answer)) (link_with host user.0 user.1))
    → AllNatures due links (reads socket item host)
item_read due links socket item host same asks answers = by_item item refl where
  by_user : (item : Item) → ((user : ℕ × Address) → socket.user ≡ Some user → AllNatures due links (reads_on socket (link_with host user.0 user.1) item host)) → (w : Option (ℕ × Address)) → socket.user ≡ w → AllNatures due links (elim w as (λ w. Stepped) [
    | None ↦ still host
    | Some user ↦ reads_on socket (link_with host user.0 user.1) item host
  ])
  by_user item each None u = at_rest due links host
  by_user item each (Some user) u = each user u

  by_item : (one : Item) → item ≡ one → AllNatures due links (reads socket one host)
  by_item (items.Request request) is = requested due links socket request host same (asks request is)
  by_item (items.Answer answer) is = by_user (items.Answer answer) (λ user u. hears_at due links (inputs.Answered (heard_answer answer)) user.0 user.1 host same (answers answer user is u)) socket.user refl
  by_item (items.Frame frame) is = by_user (items.Frame frame) (λ user u. frame_read due links socket user frame host same) socket.user refl

-- that it is read is told before
read_first : (due : ℕ → Option Due) (links : List Link) (sock : ℕ) (done : Stepped) → AllNatures due links done → AllNatures due links (after_steps (steps.Read sock ∷ []) done)
read_first due links sock (Ok done) s = s
read_first due links sock (Err stop) s = tt

-- ---- what is due

handled : (host : HostState) (socket : Socket) → IsNaming host → find (is_socket socket.number) host.sockets ≡ Some socket → is_open socket.stage ≡ true → AllNatures (due_at host) host.links (handles socket (front_of socket) host)
handled host socket s found stands = by_front (front_of socket).0 refl where
  taken : Socket
  taken = record socket { since = drop (front_of socket).1 socket.since; expected = expected.Frame }

  matches : (item : Item) → (front_of socket).0 ≡ Whole item → Matches socket.expected item
  matches item front = subst (FrontMatches socket.expected) front (reading_matches socket.expected socket.since)

  asks : (item : Item) → (front_of socket).0 ≡ Whole item → (request : Request) → item ≡ items.Request request → due_at host socket.number ≡ Some Answering
  asks item front request is = due_here host socket found stands ∙ ap (λ (x : Expected). Some (due_open x)) (asks_is socket.expected request (subst (Matches socket.expected) is (matches item front)))

  answers : (item : Item) → (front_of socket).0 ≡ Whole item → (answer : Answer) (user : ℕ × Address) → item ≡ items.Answer answer → socket.user ≡ Some user → (sock : ℕ) → (link_with host user.0 user.1).state ≡ states.Dialing sock → due_at host sock ≡ Some Framing
  answers item front answer user is u sock dials = by_link (used host user.0 user.1 socket.number socket s found u (not_over socket.stage stands)) where
    e : socket.expected ≡ expected.Answer
    e = answers_is socket.expected answer (subst (Matches socket.expected) is (matches item front))

    by_link : (((link_with host user.0 user.1).state ≡ states.Dialing socket.number) × IsDialedBy user.0 user.1 socket) ⊎ ((probed : Bool) × ((link_with host user.0 user.1).state ≡ states.Up socket.number probed) × IsUpFor user.0 user.1 socket) → due_at host sock ≡ Some Framing
    by_link (inl d) =
        let both : states.Dialing socket.number ≡ states.Dialing sock = sym d.0 ∙ dials in
        let same : socket.number ≡ sock = cc in
        ap (due_at host) (sym same) ∙ due_here host socket found stands ∙ ap (λ (x : Expected). Some (due_open x)) e
    by_link (inr up) = let both : states.Up socket.number up.0 ≡ states.Dialing sock = sym up.1 ∙ dials in absurd cc

  by_front : (x : Front) → (front_of socket).0 ≡ x → AllNatures (due_at host) host.links (elim x as (λ x. Stepped) [
    | Unfinished ↦ still host
    | Refused error ↦ is_gone socket host
    | Whole item ↦ takes (record socket { since = drop (front_of socket).1 socket.since; expected = expected.Frame }) item host
  ])
  by_front Unfinished f = at_rest (due_at host) host.links host
  by_front (Refused error) f = gone (due_at host) host.links socket host refl
  by_front (Whole item) f = read_first (due_at host) host.links socket.number (reads taken item (with_socket taken host)) (item_read (due_at host) host.links taken item (with_socket taken host) refl (asks item f) (answers item f))

-- an item that a host reads
pub next_natures : (host after : HostState) (told : List Step) → IsNaming host → IsSound host → host_next host ≡ Ok (Some told, after) → Natures (due_at host) host.links told after.links
next_natures host after told s sound e = next_done (λ steps one. Natures (due_at host) host.links steps one.links) host after told each e where
  each : (socket : Socket) (steps : List Step) (one : HostState) → first_ready host.sockets ≡ Some socket → handles socket (front_of socket) host ≡ Ok (steps, one) → Natures (due_at host) host.links steps one.links
  each socket steps one f is = let at = served host.sockets socket sound.apart f in
      subst (AllNatures (due_at host) host.links) is (handled host socket s at.found (and_parts (is_open socket.stage) (is_ready_front (front_of socket).0) at.ready).0)

-- the input of a socket ends
pub ended_natures : (host after : HostState) (sock : ℕ) (told : List Step) → host_on host (sockets.Ended sock) ≡ Ok (told, after) → Natures (due_at host) host.links told after.links
unfolding host_on
ended_natures host after sock told e = subst (AllNatures (due_at host) host.links) e (by_socket (find (is_socket sock) host.sockets)) where
  by_test : (socket : Socket) (b : Bool) → AllNatures (due_at host) host.links (cond b (is_gone socket host) (still host))
  by_test socket true = gone (due_at host) host.links socket host refl
  by_test socket false = at_rest (due_at host) host.links host

  by_socket : (x : Option Socket) → AllNatures (due_at host) host.links (elim x as (λ x. Stepped) [
    | None ↦ still host
    | Some socket ↦ cond (is_open socket.stage) (is_gone socket host) (still host)
  ])
  by_socket None = at_rest (due_at host) host.links host
  by_socket (Some socket) = by_test socket (is_open socket.stage)
