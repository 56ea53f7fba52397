-- An item that a host reads, and the end of a socket's input: the streams that it writes then are plain.
use Rattle.std.proofs.Common.{◌≡◌, ◌⊎◌, inl, inr, ℕ, ◌+◌, Bool, true, false, cond, List, [], ◌∷◌, drop, Ok, Err, refl, sym, ap, ◌∙◌, subst}
use Rattle.std.proofs.lemmas.Bool.{and_parts}
use Rattle.std.specs.Prelude.{find, Option, Some, None, Result, nat_lt}
use Rattle.ch_base.specs.declared.address.Address.{Address}
use Rattle.ch_base.specs.declared.event.Event.{Event}
use Rattle.ch_base.specs.declared.event.Event.TheVariants as events
use Rattle.ch_base.specs.declared.memory.Stop.{Stop}
use Rattle.ch_base.specs.declared.memory.Stop.TheVariants as stops
use Rattle.ch_wire.specs.Spelling.{answer_spelling}
use Rattle.ch_wire.specs.declared.answer.Answer.{Answer}
use Rattle.ch_wire.specs.declared.frame.Frame.{Frame}
use Rattle.ch_wire.specs.declared.frame.Frame.TheVariants as frames
use Rattle.ch_wire.specs.declared.request.Request.{Request}
use Rattle.ch_reader.specs.declared.item.Expected.{Expected}
use Rattle.ch_reader.specs.declared.item.Expected.TheVariants as expected
use Rattle.ch_reader.specs.declared.item.Front.{Front}
use Rattle.ch_reader.specs.declared.item.Front.TheVariants.{Unfinished, Whole, Refused}
use Rattle.ch_reader.specs.declared.item.Item.{Item}
use Rattle.ch_reader.specs.declared.item.Item.TheVariants as items
use Rattle.ch_light.specs.declared.Connection.{Connection}
use Rattle.ch_light.specs.declared.error.LightError.{LightError}
use Rattle.ch_light.specs.Ids.{created_of, conn_of, closed_of}
use Rattle.ch_link.specs.Sockets.{names}
use Rattle.ch_link.specs.declared.LinkIn.TheVariants as inputs
use Rattle.ch_link.specs.declared.LinkState.TheVariants as states
use Rattle.ch_model.specs.declared.step.Step.{Step}
use Rattle.ch_model.specs.declared.step.Step.TheVariants as steps
use Rattle.ch_model.specs.Host.{front_of, is_ready_front, first_ready, takes, handles, some_steps, host_next}
use Rattle.ch_model.specs.HostItems.{most_arrived, posts, gone_from, is_gone, refusal_of, asks_link, reads_request, heard_answer, arrived_at, with_arrival, next_arrival, arrives, closes, receives, reads_frame, reads_on, reads}
use Rattle.ch_model.specs.HostLinks.{hears}
use Rattle.ch_model.specs.HostState.{Endpoint, Link, Socket, HostState}
use Rattle.ch_model.specs.HostSteps.{Stepped, still, after_steps, is_endpoint, link_with, with_link, with_socket, with_endpoint, is_socket}
use Rattle.ch_model.specs.HostWrites.{is_up, answers_and_leaves, leaves, end_socket}
use Rattle.ch_model.specs.Stages.{Stage, Pending, Open, Ended, is_open, is_ended}
use Rattle.ch_laws_items.proofs.Next.{served}
use Rattle.ch_laws_links.specs.Naming.{IsNaming, IsDialedBy, IsUpFor}
use Rattle.ch_laws_links.proofs.Keys.{ended_rest, link_named}
use Rattle.ch_laws_links.proofs.Readings.{Matches, FrontMatches, reading_matches}
use Rattle.ch_laws_links.proofs.Says.{used, unused}
use Rattle.ch_laws_writes.specs.Dues.{Due, Answering, Framing, due_of, due_staged, due_open, due_at}
use Rattle.ch_laws_writes.specs.Orderly.{IsOrderly, link_at}
use Rattle.ch_laws_calls.specs.FitsTurns.{IsKind}
use Rattle.ch_laws_calls.proofs.FitsStores.{Stores, stored}
use Rattle.ch_laws_plain.specs.Talks.{LinkIsPlain, HostIsPlain, Talks}
use Rattle.ch_laws_plain.proofs.Talks.{clash}
use Rattle.ch_laws_plain.proofs.Heard.{Says, AllSay, IsWell, quiet, alone, heard}

-- ---- links

-- a link of a host, which is well
record IsOwn (host : HostState) (link : Link) : Type 0 where
  is : link_with host link.end link.peer ≡ link
  well : IsWell (due_at host) link

own_link : (own : ℕ → Address) (host : HostState) (end : ℕ) (peer : Address) → IsOrderly own host → HostIsPlain host → IsOwn host (link_with host end peer)
own_link own host end peer o p = record { is = is; well = record { plain = p end peer; framed = (o.links end peer).spelled; up = (o.links end peer).up } } where
  is : link_with host (link_with host end peer).end (link_with host end peer).peer ≡ link_with host end peer
  is = ap (λ (n : ℕ). link_with host n (link_with host end peer).peer) (link_named host end peer).0 ∙ ap (link_with host end) (link_named host end peer).1

unstored : (host : HostState) (link : Link) → IsOwn host link → Stores host.links host.links link.end link.peer link
unstored host link l = record { now = l.is; others = λ e p h. refl }

unstored_over : (host mid : HostState) (sock : ℕ) (link : Link) → mid.links ≡ host.links → IsOwn host link → Stores host.links (end_socket sock mid).links link.end link.peer link
unstored_over host mid sock link same l = subst (λ (links : List Link). Stores host.links links link.end link.peer link) (sym ((ended_rest sock mid).0 ∙ same)) (unstored host link l)

left : (own : ℕ → Address) (host mid : HostState) (sock : ℕ) (link : Link) → mid.links ≡ host.links → IsOwn host link → Says own (due_at host) host.links link (steps.Left sock ∷ []) (end_socket sock mid)
left own host mid sock link same l = quiet own (due_at host) host.links link link (steps.Left sock ∷ []) (end_socket sock mid) (unstored_over host mid sock link same l) l.well.plain (λ n. refl)

-- ---- whatever was done

says_talks : (own : ℕ → Address) (host after : HostState) (link : Link) (told : List Step) → Says own (due_at host) host.links link told after → Talks own host link.end link.peer told after
says_talks own host after link told s = record { others = s.stores.others; plain = subst LinkIsPlain (sym s.stores.now) s.plain; said = s.said; spelled = s.spelled; kind = s.kind; streams = s.streams }

-- of some link
abbrev pub AllTalk : {E : Type 0} → (ℕ → Address) → HostState → Result (List Step × HostState) E → Type 0
AllTalk own host (Ok done) = (end : ℕ) × (peer : Address) × Talks own host end peer done.0 done.1
AllTalk own host (Err e) = Unit {0}

talked : (own : ℕ → Address) (host : HostState) (link : Link) (done : Stepped) → AllSay own (due_at host) host.links link done → AllTalk own host done
talked own host link (Ok done) s = (link.end, link.peer, says_talks own host done.1 link done.0 s)
talked own host link (Err stop) s = tt

-- the same behind an item that was read
read_talked : (own : ℕ → Address) (host : HostState) (link : Link) (sock : ℕ) (done : Stepped) → AllSay own (due_at host) host.links link done → AllTalk own host (after_steps (steps.Read sock ∷ []) done)
read_talked own host link sock (Ok done) s = (link.end, link.peer, record { others = s.stores.others; plain = subst LinkIsPlain (sym s.stores.now) s.plain; said = s.said; spelled = s.spelled; kind = s.kind; streams = s.streams })
read_talked own host link sock (Err stop) s = tt

-- ---- a socket that is gone

nobody : Address
nobody = record { host = []; port = 0; id = 0 }

-- its link hears of it, in a host that has the same links
gone_says : (own : ℕ → Address) (host mid : HostState) (sock : ℕ) (link : Link) (b : Bool) → mid.links ≡ host.links → IsOwn host link → AllSay own (due_at host) host.links link (cond b (hears inputs.Gone link mid) (leaves sock mid))
gone_says own host mid sock link true same l = subst (λ (links : List Link). AllSay own (due_at host) links link (hears inputs.Gone link mid)) same (heard own (due_at host) inputs.Gone link mid l.well tt)
gone_says own host mid sock link false same l = left own host mid sock link same l

-- the item may have been read first, or none
gone_all : (own : ℕ → Address) (host mid : HostState) (socket : Socket) (P : Stepped → Type 0) → mid.links ≡ host.links → IsOrderly own host → HostIsPlain host → ((link : Link) (done : Stepped) → AllSay own (due_at host) host.links link done → P done) → P (is_gone socket mid)
gone_all own host mid socket P same o p each = by_user socket.user where
  as_mid : (end : ℕ) (peer : Address) → link_with mid end peer ≡ link_with host end peer
  as_mid end peer = ap (λ (l : List Link). link_at l end peer) same

  by_user : (o : Option (ℕ × Address)) → P (elim o as (λ x. Stepped) [
    | None ↦ leaves socket.number mid
    | Some user ↦ gone_from socket.number (link_with mid user.0 user.1) mid
  ])
  by_user None = each (link_with host 0 nobody) (leaves socket.number mid) (left own host mid socket.number (link_with host 0 nobody) same (own_link own host 0 nobody o p))
  by_user (Some user) = subst (λ (l : Link). P (gone_from socket.number l mid)) (sym (as_mid user.0 user.1))
      (each (link_with host user.0 user.1) (gone_from socket.number (link_with host user.0 user.1) mid) (gone_says own host mid socket.number (link_with host user.0 user.1) (names (link_with host user.0 user.1).state socket.number) same (own_link own host user.0 user.1 o p)))

gone : (own : ℕ → Address) (host : HostState) (socket : Socket) → IsOrderly own host → HostIsPlain host → AllTalk own host (is_gone socket host)
gone own host socket o p = gone_all own host host socket (λ done. AllTalk own host done) refl o p (λ link done s. talked own host link done s)

-- ---- what is due

due_here : (host : HostState) (socket : Socket) → find (is_socket socket.number) host.sockets ≡ Some socket → is_open socket.stage ≡ true → due_at host socket.number ≡ Some (due_open socket.expected)
due_here host socket found stands = ap due_of found ∙ by_stage socket.stage stands where
  by_stage : (stage : Stage) → is_open stage ≡ true → due_staged stage socket ≡ Some (due_open socket.expected)
  by_stage Open e = refl
  by_stage Pending e = absurd cc
  by_stage Ended e = absurd cc

not_over : (stage : Stage) → is_open stage ≡ true → is_ended stage ≡ false
not_over Open e = refl
not_over Pending e = absurd cc
not_over Ended e = absurd cc

-- the socket from which an item was taken
abbrev taken_of : Socket → List ℕ → Socket
taken_of socket rest = record socket { since = rest; expected = expected.Frame }

-- what follows an item that was read
abbrev AllRead : (ℕ → Address) → HostState → ℕ → Stepped → Type 0
AllRead own host sock done = AllTalk own host (after_steps (steps.Read sock ∷ []) done)

-- a host's socket, which is open
record Stands (host : HostState) (socket : Socket) : Type 0 where
  found : find (is_socket socket.number) host.sockets ≡ Some socket
  stands : is_open socket.stage ≡ true

-- ---- a request

requested : (own : ℕ → Address) (host : HostState) (socket : Socket) (rest : List ℕ) (request : Request) → IsOrderly own host → HostIsPlain host → Stands host socket → socket.expected ≡ expected.Request
    → AllRead own host socket.number (reads_request (taken_of socket rest) request (with_socket (taken_of socket rest) host))
requested own host socket rest request o p s e = by_answer (refusal_of mid (taken_of socket rest) request.target request.from) where
  mid : HostState
  mid = with_socket (taken_of socket rest) host

  link : Link
  link = link_with host request.target request.from

  l : IsOwn host link
  l = own_link own host request.target request.from o p

  answering : due_at host socket.number ≡ Some Answering
  answering = due_here host socket s.found s.stands ∙ ap (λ (x : Expected). Some (due_open x)) e

  by_answer : (answer : Option Answer) → AllRead own host socket.number (elim answer as (λ x. Stepped) [
    | Some answer ↦ answers_and_leaves socket.number answer mid
    | None ↦ asks_link (taken_of socket rest) request.target request.from mid
  ])
  by_answer (Some answer) = read_talked own host link socket.number (answers_and_leaves socket.number answer mid) (alone own (due_at host) host.links link link (steps.Write socket.number (answer_spelling answer) None ∷ steps.Left socket.number ∷ []) (end_socket socket.number mid) socket.number (items.Answer answer ∷ []) (unstored_over host mid socket.number link refl l) l.well.plain (λ n. refl)
      (subst (λ (d : Option Due). IsKind own d (items.Answer answer ∷ [])) (sym answering) (tt, tt)) refl)
  by_answer None = read_talked own host link socket.number (asks_link (taken_of socket rest) request.target request.from mid) (heard own (due_at host) (inputs.Asked socket.number) link (with_socket (record (taken_of socket rest) { user = Some (request.target, request.from) }) mid) l.well answering)

-- ---- an answer

answered : (own : ℕ → Address) (host : HostState) (socket : Socket) (rest : List ℕ) (user : ℕ × Address) (answer : Answer) → IsNaming host → IsOrderly own host → HostIsPlain host → Stands host socket → socket.expected ≡ expected.Answer → socket.user ≡ Some user
    → AllRead own host socket.number (reads_on (taken_of socket rest) (link_with host user.0 user.1) (items.Answer answer) (with_socket (taken_of socket rest) host))
answered own host socket rest user answer n o p s e u = read_talked own host link socket.number (reads_on (taken_of socket rest) link (items.Answer answer) mid) (heard own (due_at host) (inputs.Answered (heard_answer answer)) link mid (own_link own host user.0 user.1 o p).well may) where
  mid : HostState
  mid = with_socket (taken_of socket rest) host

  link : Link
  link = link_with host user.0 user.1

  dialed : ((link.state ≡ states.Dialing socket.number) × IsDialedBy user.0 user.1 socket) ⊎ ((probed : Bool) × (link.state ≡ states.Up socket.number probed) × IsUpFor user.0 user.1 socket) → link.state ≡ states.Dialing socket.number
  dialed (inl d) = d.0
  dialed (inr up) = let no : expected.Answer ≡ expected.Frame = sym e ∙ up.2.expects in absurd cc

  may : (sock : ℕ) → link.state ≡ states.Dialing sock → due_at host sock ≡ Some Framing
  may sock is =
      let both : states.Dialing socket.number ≡ states.Dialing sock = sym (dialed (used host user.0 user.1 socket.number socket n s.found u (not_over socket.stage s.stands))) ∙ is in
      let same : socket.number ≡ sock = cc in
      ap (due_at host) (sym same) ∙ due_here host socket s.found s.stands ∙ ap (λ (x : Expected). Some (due_open x)) e

-- ---- a frame

-- a link that is up may have created what it has
up_plain : (link : Link) (created : List Connection) (sock : ℕ) (probed : Bool) → link.state ≡ states.Up sock probed → LinkIsPlain link → LinkIsPlain (record link { created = created })
up_plain link created sock probed up p = record { up = p.up; waits = p.waits; created = λ h. clash (sym (ap is_up up) ∙ h) }

arrival_links : (end : ℕ) (host : HostState) → (with_arrival end host).links ≡ host.links
arrival_links end host = by_endpoint (find (is_endpoint end) host.ends) where
  by_endpoint : (o : Option Endpoint) → (elim o as (λ o. HostState) [
    | None ↦ host
    | Some endpoint ↦ with_endpoint (record endpoint { arrived = endpoint.arrived + 1 }) host
  ]).links ≡ host.links
  by_endpoint None = refl
  by_endpoint (Some endpoint) = refl

framed : (own : ℕ → Address) (host : HostState) (socket : Socket) (rest : List ℕ) (frame : Frame) (user : ℕ × Address) (probed : Bool) → IsOrderly own host → HostIsPlain host → (link_with host user.0 user.1).state ≡ states.Up socket.number probed
    → AllRead own host socket.number (reads_frame (taken_of socket rest) (link_with host user.0 user.1) frame (with_socket (taken_of socket rest) host))
framed own host socket rest frame user probed o p up = by_frame frame where
  mid : HostState
  mid = with_socket (taken_of socket rest) host

  link : Link
  link = link_with host user.0 user.1

  l : IsOwn host link
  l = own_link own host user.0 user.1 o p

  number : ℕ
  number = next_arrival mid link.end

  -- the frame was refused
  refused : AllRead own host socket.number (is_gone (taken_of socket rest) mid)
  refused = gone_all own host mid (taken_of socket rest) (λ done. AllRead own host socket.number done) refl o p (λ one done s. read_talked own host one socket.number done s)

  -- it was taken, and a node is told
  took : (after : HostState) (created : List Connection) (end : ℕ) (event : Event) → Stores host.links after.links link.end link.peer (record link { created = created }) → AllRead own host socket.number (posts end event after)
  took after created end event s = read_talked own host link socket.number (posts end event after) (quiet own (due_at host) host.links link (record link { created = created }) (steps.Post end event ∷ []) after s (up_plain link created socket.number probed up l.well.plain) (λ n. refl))

  by_test : (created : List Connection) (b : Bool) → AllRead own host socket.number (cond b (posts link.end (events.ConnectionOpened number link.peer) (with_arrival link.end (with_link (record link { created = created }) mid))) (Err stops.Worn))
  by_test created true = took (with_arrival link.end (with_link (record link { created = created }) mid)) created link.end (events.ConnectionOpened number link.peer)
      (subst (λ (links : List Link). Stores host.links links link.end link.peer (record link { created = created })) (sym (arrival_links link.end (with_link (record link { created = created }) mid))) (stored host.links (record link { created = created })))
  by_test created false = tt

  by_created : (r : Result (List Connection) LightError) → AllRead own host socket.number (arrives (taken_of socket rest) link r mid)
  by_created (Err x) = refused
  by_created (Ok created) = by_test created (nat_lt (arrived_at mid link.end) most_arrived)

  by_closed : (r : Result (ℕ × List Connection) LightError) → AllRead own host socket.number (closes (taken_of socket rest) link r mid)
  by_closed (Err x) = refused
  by_closed (Ok done) = took (with_link (record link { created = done.1 }) mid) done.1 link.end (events.ConnectionClosed done.0) (stored host.links (record link { created = done.1 }))

  by_conn : (payload : List ℕ) (r : Result ℕ LightError) → AllRead own host socket.number (receives (taken_of socket rest) link payload r mid)
  by_conn payload (Err x) = refused
  by_conn payload (Ok conn) = took mid link.created link.end (events.Received conn payload) (unstored host link l)

  by_frame : (frame : Frame) → AllRead own host socket.number (reads_frame (taken_of socket rest) link frame mid)
  by_frame (frames.Created id) = by_created (created_of link.created id number)
  by_frame (frames.Closed id) = by_closed (closed_of link.created id)
  by_frame (frames.Data id payload) = by_conn payload (conn_of link.created id)
  by_frame frames.EndClosed = read_talked own host link socket.number (hears inputs.EndClosed link mid) (heard own (due_at host) inputs.EndClosed link mid l.well tt)
  by_frame frames.Probe = read_talked own host link socket.number (hears inputs.Probe link mid) (heard own (due_at host) inputs.Probe link mid l.well tt)
  by_frame frames.ProbeAck = read_talked own host link socket.number (hears inputs.Ack link mid) (heard own (due_at host) inputs.Ack link mid l.well tt)

-- ---- any item

asks_is : (e : Expected) (request : Request) → Matches e (items.Request request) → e ≡ expected.Request
asks_is expected.Request request m = refl
asks_is expected.Answer request m = absurd m
asks_is expected.Frame request m = absurd m

answers_is : (e : Expected) (answer : Answer) → Matches e (items.Answer answer) → e ≡ expected.Answer
answers_is expected.Request answer m = absurd m
answers_is expected.Answer answer m = refl
answers_is expected.Frame answer m = absurd m

frames_is : (e : Expected) (frame : Frame) → Matches e (items.Frame frame) → e ≡ expected.Frame
frames_is expected.Request frame m = absurd m
frames_is expected.Answer frame m = absurd m
frames_is expected.Frame frame m = refl

taken : (own : ℕ → Address) (host : HostState) (socket : Socket) (rest : List ℕ) (item : Item) → IsNaming host → IsOrderly own host → HostIsPlain host → Stands host socket → (front_of socket).0 ≡ Whole item → AllTalk own host (takes (taken_of socket rest) item host)
taken own host socket rest item n o p s front = by_item item (subst (FrontMatches socket.expected) front (reading_matches socket.expected socket.since)) where
  mid : HostState
  mid = with_socket (taken_of socket rest) host

  on_up : (frame : Frame) (user : ℕ × Address) → socket.expected ≡ expected.Frame → (((link_with host user.0 user.1).state ≡ states.Dialing socket.number) × IsDialedBy user.0 user.1 socket) ⊎ ((probed : Bool) × ((link_with host user.0 user.1).state ≡ states.Up socket.number probed) × IsUpFor user.0 user.1 socket)
      → AllRead own host socket.number (reads_frame (taken_of socket rest) (link_with host user.0 user.1) frame mid)
  on_up frame user e (inl d) = let no : expected.Frame ≡ expected.Answer = sym e ∙ d.1.expects in absurd cc
  on_up frame user e (inr u) = framed own host socket rest frame user u.0 o p u.1

  by_user : (item : Item) → (socket.expected ≡ expected.Request → ⊥) → ((user : ℕ × Address) → socket.user ≡ Some user → AllRead own host socket.number (reads_on (taken_of socket rest) (link_with host user.0 user.1) item mid)) → (w : Option (ℕ × Address)) → socket.user ≡ w
      → AllRead own host socket.number (elim w as (λ w. Stepped) [
        | None ↦ still mid
        | Some user ↦ reads_on (taken_of socket rest) (link_with mid user.0 user.1) item mid
      ])
  by_user item off each None u = absurd (off (unused host socket.number socket n s.found u (not_over socket.stage s.stands)).expects)
  by_user item off each (Some user) u = each user u

  by_item : (item : Item) → Matches socket.expected item → AllRead own host socket.number (reads (taken_of socket rest) item mid)
  by_item (items.Request request) m = requested own host socket rest request o p s (asks_is socket.expected request m)
  by_item (items.Answer answer) m = let e = answers_is socket.expected answer m in by_user (items.Answer answer) (λ r. let no : expected.Answer ≡ expected.Request = sym e ∙ r in absurd cc) (λ user u. answered own host socket rest user answer n o p s e u) socket.user refl
  by_item (items.Frame frame) m = let e = frames_is socket.expected frame m in by_user (items.Frame frame) (λ r. let no : expected.Frame ≡ expected.Request = sym e ∙ r in absurd cc) (λ user u. on_up frame user e (used host user.0 user.1 socket.number socket n s.found u (not_over socket.stage s.stands))) socket.user refl

handled : (own : ℕ → Address) (host : HostState) (socket : Socket) → IsNaming host → IsOrderly own host → HostIsPlain host → Stands host socket → is_ready_front (front_of socket).0 ≡ true → AllTalk own host (handles socket (front_of socket) host)
handled own host socket n o p s ready = by_front (front_of socket).0 refl ready where
  by_front : (x : Front) → (front_of socket).0 ≡ x → is_ready_front x ≡ true → AllTalk own host (elim x as (λ x. Stepped) [
    | Unfinished ↦ still host
    | Refused error ↦ is_gone socket host
    | Whole item ↦ takes (taken_of socket (drop (front_of socket).1 socket.since)) item host
  ])
  by_front Unfinished e r = clash (sym r)
  by_front (Refused error) e r = gone own host socket o p
  by_front (Whole item) e r = taken own host socket (drop (front_of socket).1 socket.since) item n o p s e

-- an item that a host reads
pub next_talks : (own : ℕ → Address) (host after : HostState) (told : List Step) → IsNaming host → IsOrderly own host → HostIsPlain host → host_next host ≡ Ok (Some told, after) → (end : ℕ) × (peer : Address) × Talks own host end peer told after
unfolding host_next
next_talks own host after told n o p e = by_first (first_ready host.sockets) refl e where
  some_in : Result (Option (List Step) × HostState) Stop → Option (List Step)
  some_in (Ok next) = next.0
  some_in (Err stop) = None

  steps_in : Result (Option (List Step) × HostState) Stop → List Step
  steps_in (Ok next) = elim next.0 [
    | None ↦ []
    | Some steps ↦ steps
  ]
  steps_in (Err stop) = []

  host_in : Result (Option (List Step) × HostState) Stop → HostState
  host_in (Ok next) = next.1
  host_in (Err stop) = host

  by_done : (one : Stepped) → AllTalk own host one → some_steps one ≡ Ok (Some told, after) → (end : ℕ) × (peer : Address) × Talks own host end peer told after
  by_done (Ok one) t e =
      let same_host : one.1 ≡ after = ap host_in e in
      let same_steps : one.0 ≡ told = ap steps_in e in
      subst (λ (h : HostState). (end : ℕ) × (peer : Address) × Talks own host end peer told h) same_host (subst (λ (l : List Step). (end : ℕ) × (peer : Address) × Talks own host end peer l one.1) same_steps t)
  by_done (Err stop) t e = absurd cc

  by_first : (x : Option Socket) → first_ready host.sockets ≡ x → (elim x as (λ x. Result (Option (List Step) × HostState) Stop) [
    | None ↦ Ok (None, host)
    | Some socket ↦ some_steps (handles socket (front_of socket) host)
  ]) ≡ Ok (Some told, after) → (end : ℕ) × (peer : Address) × Talks own host end peer told after
  by_first None f e = let never : None ≡ Some told = ap some_in e in absurd cc
  by_first (Some socket) f e =
      let at = served host.sockets socket o.sound.apart f in
      let both = and_parts (is_open socket.stage) (is_ready_front (front_of socket).0) at.ready in
      by_done (handles socket (front_of socket) host) (handled own host socket n o p (record { found = at.found; stands = both.0 }) both.1) e
