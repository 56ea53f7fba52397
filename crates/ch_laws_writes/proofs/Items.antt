-- What a host makes of an item that is read writes what is due.
use Rattle.std.proofs.Common.{◌≡◌, ℕ, ◌+◌, Bool, true, false, cond, ◌&&◌, List, [], ◌∷◌, length, take, drop, Ok, Err, refl, sym, ap, ◌∙◌, subst}
use Rattle.std.specs.Prelude.{find, Option, Some, None, Result, nat_lt, ◌==◌}
use Rattle.ch_base.specs.declared.address.Address.{Address}
use Rattle.ch_base.specs.declared.address.AddressError.{AddressError}
use Rattle.ch_base.specs.AddressValues.{AddressValue}
use Rattle.ch_base.specs.Addresses.{read_address}
use Rattle.ch_base.specs.declared.event.Event.TheVariants as events
use Rattle.ch_base.specs.declared.memory.Stop.{Stop}
use Rattle.ch_base.specs.declared.memory.Stop.TheVariants as stops
use Rattle.ch_wire.specs.Spelling.{answer_numbered, head_numbered}
use Rattle.ch_wire.specs.declared.TheConstants.{MOST_ADDRESS_BYTES, MOST_PAYLOAD_BYTES}
use Rattle.ch_wire.specs.declared.answer.Answer.{Answer}
use Rattle.ch_wire.specs.declared.frame.Frame.{Frame}
use Rattle.ch_wire.specs.declared.frame.Frame.TheVariants as frames
use Rattle.ch_wire.specs.declared.frame.Head.{Head}
use Rattle.ch_wire.specs.declared.frame.Head.TheVariants as heads
use Rattle.ch_wire.specs.declared.request.Request.{Request}
use Rattle.ch_reader.specs.Reading.{header_size, answer_glance, frame_glance, words_glance, request_front, rest_reading, reading}
use Rattle.ch_reader.specs.Streams.{first_word, second_word}
use Rattle.ch_reader.specs.declared.item.Expected.{Expected}
use Rattle.ch_reader.specs.declared.item.Expected.TheVariants as expected
use Rattle.ch_reader.specs.declared.item.Front.{Front}
use Rattle.ch_reader.specs.declared.item.Front.TheVariants.{Unfinished, Whole, Refused}
use Rattle.ch_reader.specs.declared.item.Item.{Item}
use Rattle.ch_reader.specs.declared.item.Item.TheVariants as items
use Rattle.ch_link.specs.Sockets.{names}
use Rattle.ch_link.specs.declared.LinkIn.TheVariants as inputs
use Rattle.ch_link.specs.declared.LinkState.TheVariants as states
use Rattle.ch_light.specs.Ids.{created_of, conn_of, closed_of}
use Rattle.ch_light.specs.declared.Connection.{Connection}
use Rattle.ch_light.specs.declared.error.LightError.{LightError}
use Rattle.ch_model.specs.declared.step.Step.{Step}
use Rattle.ch_model.specs.declared.step.Step.TheVariants as steps
use Rattle.ch_model.specs.Host.{front_of, is_ready_front, first_ready, takes, handles, some_steps, host_next}
use Rattle.ch_model.specs.HostItems.{most_arrived, posts, gone_from, is_gone, refusal_of, asks_link, reads_request, heard_answer, arrived_at, with_arrival, next_arrival, arrives, closes, receives, reads_frame, reads_on, reads_other, reads}
use Rattle.ch_model.specs.HostLinks.{hears}
use Rattle.ch_model.specs.HostState.{Endpoint, Link, Socket, HostState}
use Rattle.ch_model.specs.HostSteps.{Stepped, still, after_steps, is_endpoint, is_socket, link_with, with_link, with_socket, with_endpoint}
use Rattle.ch_model.specs.HostWrites.{leaves, answers_and_leaves, end_socket}
use Rattle.ch_model.specs.Stages.{Stage, Pending, Open, Ended, is_open, is_ended}
use Rattle.ch_laws_items.proofs.Hosts.{Stays, next_item, where_is}
use Rattle.ch_laws_items.proofs.Next.{served}
use Rattle.ch_laws_items.proofs.Sockets.{number_is}
use Rattle.ch_laws_log.proofs.HostTold.{number_same, find_stored}
use Rattle.ch_laws_log.proofs.HostItemsTold.{not_pending, next_told}
use Rattle.ch_laws_writes.specs.Dues.{Due, Answering, Framing, due_of, due_at, due_open, due_staged}
use Rattle.ch_laws_writes.specs.Orderly.{user_of, link_at, IsOrderly, WritesOn}
use Rattle.ch_laws_writes.proofs.Dues.{Dues, nothing_said, first, since, due_ended}
use Rattle.ch_laws_writes.proofs.Ordered.{is_key, Fit, nobody, fit_of, left_out, named_end, named_peer, replaced, ended_fit, linked}
use Rattle.ch_laws_writes.proofs.Links.{Does, AllDo, IsLinked, asked_dues, answers_there, refuse_writes, heard}
use Rattle.ch_laws_writes.proofs.Calls.{orderly, linked_with}
use Rattle.ch_base.specs.declared.event.Event.{Event}

-- ---- what is read is what was expected

-- the item is of the kind that is expected
abbrev pub IsOfKind : Expected → Item → Type 0
IsOfKind expected.Request (items.Request request) = Unit {0}
IsOfKind expected.Answer (items.Answer answer) = Unit {0}
IsOfKind expected.Frame (items.Frame frame) = Unit {0}
IsOfKind e item = ⊥

abbrev FrontOfKind : Expected → Front → Type 0
FrontOfKind e (Whole item) = IsOfKind e item
FrontOfKind e front = Unit {0}

request_kind : (bytes rest : List ℕ) → FrontOfKind expected.Request (rest_reading (words_glance expected.Request bytes) rest).0
request_kind bytes rest = by_tests (nat_lt MOST_ADDRESS_BYTES (second_word bytes)) refl (nat_lt (length rest) (second_word bytes)) refl where
  by_address : (read : Result AddressValue AddressError) → FrontOfKind expected.Request (request_front (first_word bytes) read)
  by_address (Ok a) = tt
  by_address (Err e) = tt

  by_tests : (a : Bool) → nat_lt MOST_ADDRESS_BYTES (second_word bytes) ≡ a → (b : Bool) → nat_lt (length rest) (second_word bytes) ≡ b → FrontOfKind expected.Request (rest_reading (words_glance expected.Request bytes) rest).0
  by_tests true h b g = rw h tt
  by_tests false h true g = rw (h, g) tt
  by_tests false h false g = rw (h, g) (by_address (read_address (take (second_word bytes) rest)))

answer_kind : (o : Option Answer) (rest : List ℕ) → FrontOfKind expected.Answer (rest_reading (answer_glance o) rest).0
answer_kind (Some a) rest = tt
answer_kind None rest = tt

frame_kind : (head : Head) (second : ℕ) (rest : List ℕ) → FrontOfKind expected.Frame (rest_reading (frame_glance head second) rest).0
frame_kind heads.Created second rest = tt
frame_kind heads.Closed second rest = tt
frame_kind heads.EndClosed second rest = tt
frame_kind heads.Probe second rest = tt
frame_kind heads.ProbeAck second rest = tt
frame_kind (heads.Data id) second rest = by_tests (nat_lt MOST_PAYLOAD_BYTES second) refl (nat_lt (length rest) second) refl where
  by_tests : (a : Bool) → nat_lt MOST_PAYLOAD_BYTES second ≡ a → (b : Bool) → nat_lt (length rest) second ≡ b → FrontOfKind expected.Frame (rest_reading (frame_glance (heads.Data id) second) rest).0
  by_tests true h b g = rw h tt
  by_tests false h true g = rw (h, g) tt
  by_tests false h false g = rw (h, g) tt
frame_kind heads.Unknown second rest = tt

words_kind : (e : Expected) (bytes rest : List ℕ) → FrontOfKind e (rest_reading (words_glance e bytes) rest).0
words_kind expected.Request bytes rest = request_kind bytes rest
words_kind expected.Answer bytes rest = answer_kind (answer_numbered (first_word bytes)) rest
words_kind expected.Frame bytes rest = frame_kind (head_numbered (first_word bytes)) (second_word bytes) rest

reading_kind : (e : Expected) (bytes : List ℕ) → FrontOfKind e (reading e bytes).0
reading_kind e bytes = by_test (nat_lt (length bytes) (header_size e bytes)) refl where
  by_test : (b : Bool) → nat_lt (length bytes) (header_size e bytes) ≡ b → FrontOfKind e (reading e bytes).0
  by_test true h = rw h tt
  by_test false h = rw h (words_kind e bytes (drop (header_size e bytes) bytes))

-- ---- a socket that is gone

-- the end of a socket that no link names is over
plain_left : (own : ℕ → Address) (host : HostState) (sock : ℕ) → Fit host.links host.sockets → ((end : ℕ) (peer : Address) → names (link_at host.links end peer).state sock ≡ true → ⊥) → Does own (due_at host) (steps.Left sock ∷ []) (end_socket sock host)
plain_left own host sock f unnamed = record { fit = ended_fit nobody host sock f (λ end peer kept. unnamed end peer); writes = record { due = λ n. (tt, tt); leads = λ n. due_ended sock host n } }

-- no link names a socket of no link
none_names : (host : HostState) (sock : ℕ) → Fit host.links host.sockets → user_of (find (is_socket sock) host.sockets) ≡ None → (end : ℕ) (peer : Address) → names (link_at host.links end peer).state sock ≡ true → ⊥
none_names host sock f none end peer e = let no : ◌≡◌ {A = Option (ℕ × Address)} None (Some (end, peer)) = sym none ∙ (f.each_link end peer refl).named sock e in absurd cc

pub socket_gone : (own : ℕ → Address) (socket : Socket) (host : HostState) → Fit host.links host.sockets → user_of (find (is_socket socket.number) host.sockets) ≡ socket.user → AllDo own (due_at host) (is_gone socket host)
socket_gone own socket host f user = by_user socket.user user where
  named_in : Option (ℕ × Address) → Bool
  named_in (Some u) = names (link_at host.links u.0 u.1).state socket.number
  named_in None = false

  by_test : (u : ℕ × Address) → user_of (find (is_socket socket.number) host.sockets) ≡ Some u → (b : Bool) → names (link_with host u.0 u.1).state socket.number ≡ b → AllDo own (due_at host) (cond b (hears inputs.Gone (link_with host u.0 u.1) host) (leaves socket.number host))
  by_test u is true e = heard own inputs.Gone (link_with host u.0 u.1) host (linked_with host u.0 u.1 f) tt
  by_test u is false e = plain_left own host socket.number f (λ end peer named.
      let both : ◌≡◌ {A = Option (ℕ × Address)} (Some (end, peer)) (Some u) = sym ((f.each_link end peer refl).named socket.number named) ∙ is in
      let no : true ≡ false = sym named ∙ ap named_in both ∙ e in absurd cc)

  by_user : (o : Option (ℕ × Address)) → user_of (find (is_socket socket.number) host.sockets) ≡ o → AllDo own (due_at host) (elim o as (λ x. Stepped) [
    | None ↦ leaves socket.number host
    | Some user ↦ gone_from socket.number (link_with host user.0 user.1) host
  ])
  by_user None is = plain_left own host socket.number f (none_names host socket.number f is)
  by_user (Some u) is = by_test u is (names (link_with host u.0 u.1).state socket.number) refl

-- ---- frames and answers

-- a socket that is open, of which an item was taken
pub record IsTaken (socket : Socket) (host : HostState) : Type 0 where
  pub found : find (is_socket socket.number) host.sockets ≡ Some socket
  pub stands : is_open socket.stage ≡ true
  pub taken : socket.expected ≡ expected.Frame

posted : (own : ℕ → Address) (end : ℕ) (event : Event) (host after : HostState) → Fit after.links after.sockets → after.sockets ≡ host.sockets → AllDo own (due_at host) (posts end event after)
posted own end event host after f same = record { fit = f; writes = record { due = λ n. (tt, tt); leads = λ n. ap (λ (s : List Socket). due_of (find (is_socket n) s)) same } }

-- a link whose arrived connections are others
recreated : (host : HostState) (link : Link) (created : List Connection) → IsLinked host link → Fit (with_link (record link { created = created }) host).links host.sockets
recreated host link created l = linked (record link { created = created }) host.links host.sockets (left_out (is_key link.end link.peer) host.links host.sockets l.fit) (record { named = l.fits.named; up = l.fits.up; spelled = l.fits.spelled; given = l.fits.given }) l.awaited

arrival_fit : (end : ℕ) (host : HostState) → Fit host.links host.sockets → Fit (with_arrival end host).links (with_arrival end host).sockets
arrival_fit end host f = by_endpoint (find (is_endpoint end) host.ends) where
  after : Option Endpoint → HostState
  after o = elim o [
    | None ↦ host
    | Some endpoint ↦ with_endpoint (record endpoint { arrived = endpoint.arrived + 1 }) host
  ]

  by_endpoint : (o : Option Endpoint) → Fit (after o).links (after o).sockets
  by_endpoint None = f
  by_endpoint (Some endpoint) = f

arrival_sockets : (end : ℕ) (host : HostState) → (with_arrival end host).sockets ≡ host.sockets
arrival_sockets end host = by_endpoint (find (is_endpoint end) host.ends) where
  after : Option Endpoint → HostState
  after o = elim o [
    | None ↦ host
    | Some endpoint ↦ with_endpoint (record endpoint { arrived = endpoint.arrived + 1 }) host
  ]

  by_endpoint : (o : Option Endpoint) → (after o).sockets ≡ host.sockets
  by_endpoint None = refl
  by_endpoint (Some endpoint) = refl

arrived : (own : ℕ → Address) (socket : Socket) (link : Link) (created : Result (List Connection) LightError) (host : HostState) → IsLinked host link → user_of (find (is_socket socket.number) host.sockets) ≡ socket.user → AllDo own (due_at host) (arrives socket link created host)
arrived own socket link (Err e) host l user = socket_gone own socket host l.fit user
arrived own socket link (Ok created) host l user = by_test (nat_lt (arrived_at host link.end) most_arrived) where
  kept : HostState
  kept = with_link (record link { created = created }) host

  by_test : (b : Bool) → AllDo own (due_at host) (cond b (posts link.end (events.ConnectionOpened (next_arrival host link.end) link.peer) (with_arrival link.end kept)) (Err stops.Worn))
  by_test true = posted own link.end (events.ConnectionOpened (next_arrival host link.end) link.peer) host (with_arrival link.end kept) (arrival_fit link.end kept (recreated host link created l)) (arrival_sockets link.end kept)
  by_test false = tt

closed : (own : ℕ → Address) (socket : Socket) (link : Link) (done : Result (ℕ × List Connection) LightError) (host : HostState) → IsLinked host link → user_of (find (is_socket socket.number) host.sockets) ≡ socket.user → AllDo own (due_at host) (closes socket link done host)
closed own socket link (Err e) host l user = socket_gone own socket host l.fit user
closed own socket link (Ok done) host l user = posted own link.end (events.ConnectionClosed done.0) host (with_link (record link { created = done.1 }) host) (recreated host link done.1 l) refl

received : (own : ℕ → Address) (socket : Socket) (link : Link) (payload : List ℕ) (conn : Result ℕ LightError) (host : HostState) → IsLinked host link → user_of (find (is_socket socket.number) host.sockets) ≡ socket.user → AllDo own (due_at host) (receives socket link payload conn host)
received own socket link payload (Err e) host l user = socket_gone own socket host l.fit user
received own socket link payload (Ok conn) host l user = posted own link.end (events.Received conn payload) host host l.fit refl

framed : (own : ℕ → Address) (socket : Socket) (link : Link) (frame : Frame) (host : HostState) → IsLinked host link → user_of (find (is_socket socket.number) host.sockets) ≡ socket.user → AllDo own (due_at host) (reads_frame socket link frame host)
framed own socket link (frames.Created id) host l user = arrived own socket link (created_of link.created id (next_arrival host link.end)) host l user
framed own socket link (frames.Closed id) host l user = closed own socket link (closed_of link.created id) host l user
framed own socket link (frames.Data id payload) host l user = received own socket link payload (conn_of link.created id) host l user
framed own socket link frames.EndClosed host l user = heard own inputs.EndClosed link host l tt
framed own socket link frames.Probe host l user = heard own inputs.Probe link host l tt
framed own socket link frames.ProbeAck host l user = heard own inputs.Ack link host l tt

not_answer : (e : Expected) → e ≡ expected.Frame → e ≡ expected.Answer → ⊥
not_answer expected.Frame f a = absurd cc
not_answer expected.Answer f a = absurd cc
not_answer expected.Request f a = absurd cc

-- on an open end that has read its first item frames are due
frames_due : (socket : Socket) → is_open socket.stage ≡ true → socket.expected ≡ expected.Frame → due_of (Some socket) ≡ Some Framing
frames_due socket stands taken = by_stage socket.stage stands where
  by_stage : (stage : Stage) → is_open stage ≡ true → due_staged stage socket ≡ Some Framing
  by_stage Open e = ap (λ (x : Expected). Some (due_open x)) taken
  by_stage Pending e = absurd cc
  by_stage Ended e = absurd cc

-- where an answer is read the link is dialing the socket
abbrev IsAwaited : Socket → Item → HostState → Type 0
IsAwaited socket (items.Answer answer) host = (end : ℕ) (peer : Address) → socket.user ≡ Some (end, peer) → (link_at host.links end peer).state ≡ states.Dialing socket.number
IsAwaited socket item host = Unit {0}

abbrev IsNoRequest : Item → Type 0
IsNoRequest (items.Request request) = ⊥
IsNoRequest item = Unit {0}

read_on : (own : ℕ → Address) (socket : Socket) (user : ℕ × Address) (item : Item) (host : HostState) → Fit host.links host.sockets → IsTaken socket host → socket.user ≡ Some user → IsAwaited socket item host → AllDo own (due_at host) (reads_on socket (link_with host user.0 user.1) item host)
read_on own socket user (items.Request request) host f t u w = record { fit = f; writes = nothing_said own (due_at host) (due_at host) (λ n. refl) }
read_on own socket user (items.Answer answer) host f t u w = heard own (inputs.Answered (heard_answer answer)) (link_with host user.0 user.1) host (linked_with host user.0 user.1 f) (λ n e. (due n e, read n e)) where
  there : (n : ℕ) → (link_with host user.0 user.1).state ≡ states.Dialing n → find (is_socket n) host.sockets ≡ Some socket
  there n e = let both : states.Dialing socket.number ≡ states.Dialing n = sym (w user.0 user.1 u) ∙ e in let same : socket.number ≡ n = cc in subst (λ (m : ℕ). find (is_socket m) host.sockets ≡ Some socket) same t.found

  due : (n : ℕ) → (link_with host user.0 user.1).state ≡ states.Dialing n → due_at host n ≡ Some Framing
  due n e = ap due_of (there n e) ∙ frames_due socket t.stands t.taken

  read : (n : ℕ) → (link_with host user.0 user.1).state ≡ states.Dialing n → (other : Socket) → find (is_socket n) host.sockets ≡ Some other → other.expected ≡ expected.Answer → ⊥
  read n e other found a = let both : ◌≡◌ {A = Option Socket} (Some socket) (Some other) = sym (there n e) ∙ found in let same : socket ≡ other = cc in not_answer socket.expected t.taken (ap (λ (s : Socket). s.expected) same ∙ a)
read_on own socket user (items.Frame frame) host f t u w = framed own socket (link_with host user.0 user.1) frame host (linked_with host user.0 user.1 f) (ap user_of t.found)

read_other : (own : ℕ → Address) (socket : Socket) (item : Item) (host : HostState) → Fit host.links host.sockets → IsTaken socket host → IsAwaited socket item host → AllDo own (due_at host) (reads_other socket item host)
read_other own socket item host f t w = by_user socket.user refl where
  by_user : (o : Option (ℕ × Address)) → socket.user ≡ o → AllDo own (due_at host) (elim o as (λ x. Stepped) [
    | None ↦ still host
    | Some user ↦ reads_on socket (link_with host user.0 user.1) item host
  ])
  by_user None e = record { fit = f; writes = nothing_said own (due_at host) (due_at host) (λ n. refl) }
  by_user (Some user) e = read_on own socket user item host f t e w

-- ---- requests

-- a request was read of a socket of no link: it is answered there, whatever else is written
requested : (own : ℕ → Address) (socket : Socket) (request : Request) (host : HostState) → Fit host.links host.sockets → IsTaken socket host → socket.user ≡ None → AllDo own (asked_dues socket.number host) (reads_request socket request host)
requested own socket request host f t none = by_answer (refusal_of host socket request.target request.from) where
  unnamed : (end : ℕ) (peer : Address) → names (link_at host.links end peer).state socket.number ≡ true → ⊥
  unnamed = none_names host socket.number f (ap user_of t.found ∙ none)

  by_number : (n : ℕ) (b : Bool) → cond b None (due_at host n) ≡ cond b None (cond b (Some Answering) (due_at host n))
  by_number n true = refl
  by_number n false = refl

  asker : Socket
  asker = record socket { user = Some (request.target, request.from) }

  asking : HostState
  asking = with_socket asker host

  link : Link
  link = link_with host request.target request.from

  there : find (is_socket socket.number) asking.sockets ≡ Some asker
  there = find_stored asker host.sockets socket.number ∙ ap (λ b. cond b (Some asker) (find (is_socket socket.number) host.sockets)) (number_same socket.number)

  asking_fit : Fit asking.links asking.sockets
  asking_fit = replaced nobody host.links host.sockets asker socket f t.found (λ end peer kept named u. absurd (unnamed end peer named))
      (record { asks = λ p. absurd (not_pending socket.stage t.stands p); unasked = λ e. absurd (not_request socket.expected t.taken e); awaits = λ live a end peer kept u. absurd (not_answer socket.expected t.taken a) }) where
        not_request : (e : Expected) → e ≡ expected.Frame → e ≡ expected.Request → ⊥
        not_request expected.Frame x y = absurd cc
        not_request expected.Answer x y = absurd cc
        not_request expected.Request x y = absurd cc

  off : (b : Bool) → names link.state socket.number ≡ b → b ≡ false
  off true e = absurd (unnamed request.target request.from e)
  off false e = refl

  may : (user_of (find (is_socket socket.number) asking.sockets) ≡ Some (link.end, link.peer)) × (due_at asking socket.number ≡ Some Framing) × (names link.state socket.number ≡ false)
  may = (
    ap user_of there ∙ ap (λ (n : ℕ). Some (n, request.from)) (sym (named_end host.links request.target request.from)) ∙ ap (λ (a : Address). Some (link.end, a)) (sym (named_peer host.links request.target request.from)),
    ap due_of there ∙ frames_due asker t.stands t.taken,
    off (names link.state socket.number) refl,
  )

  same_due : (n : ℕ) → asked_dues socket.number asking n ≡ asked_dues socket.number host n
  same_due n = ap (λ (o : Option Due). cond (socket.number == n) (Some Answering) o) (ap due_of (find_stored asker host.sockets n)) ∙ by_test (socket.number == n) where
    by_test : (b : Bool) → cond b (Some Answering) (due_of (cond b (Some asker) (find (is_socket n) host.sockets))) ≡ cond b (Some Answering) (due_at host n)
    by_test true = refl
    by_test false = refl

  by_heard : (done : Stepped) → AllDo own (asked_dues socket.number asking) done → AllDo own (asked_dues socket.number host) done
  by_heard (Ok done) d = record { fit = d.fit; writes = since own (asked_dues socket.number asking) (asked_dues socket.number host) (due_at done.1) done.0 same_due d.writes }
  by_heard (Err stop) d = tt

  by_answer : (answer : Option Answer) → AllDo own (asked_dues socket.number host) (elim answer as (λ x. Stepped) [
    | Some answer ↦ answers_and_leaves socket.number answer host
    | None ↦ asks_link socket request.target request.from host
  ])
  by_answer (Some answer) = record {
    fit = ended_fit nobody host socket.number f (λ end peer kept. unnamed end peer);
    writes = refuse_writes own (asked_dues socket.number host) (due_at (end_socket socket.number host)) socket.number answer (answers_there socket.number host) (λ n. due_ended socket.number host n ∙ by_number n (socket.number == n));
  }
  by_answer None = by_heard (asks_link socket request.target request.from host) (heard own (inputs.Asked socket.number) link asking (linked_with asking request.target request.from asking_fit) may)

-- ---- one item

-- a socket at whose front an item stands
pub record IsServed (socket : Socket) (host : HostState) : Type 0 where
  pub found : find (is_socket socket.number) host.sockets ≡ Some socket
  pub stands : is_open socket.stage ≡ true

-- an item is taken from a socket's bytes
taken : (own : ℕ → Address) (socket : Socket) (rest : List ℕ) (item : Item) (host : HostState) → Fit host.links host.sockets → IsServed socket host → IsOfKind socket.expected item → AllDo own (due_at host) (takes (record socket { since = rest; expected = expected.Frame }) item host)
taken own socket rest item host f s kind = read_first (reads now item after) (by_item item kind) where
  now : Socket
  now = record socket { since = rest; expected = expected.Frame }

  after : HostState
  after = with_socket now host

  there : find (is_socket socket.number) after.sockets ≡ Some now
  there = find_stored now host.sockets socket.number ∙ ap (λ b. cond b (Some now) (find (is_socket socket.number) host.sockets)) (number_same socket.number)

  is_taken : IsTaken now after
  is_taken = record { found = there; stands = s.stands; taken = refl }

  fit : Fit after.links after.sockets
  fit = replaced nobody host.links host.sockets now socket f s.found (λ end peer kept named u. (u, λ d. frames_due now s.stands refl))
      (record { asks = λ p. absurd (not_pending socket.stage s.stands p); unasked = λ e. absurd cc; awaits = λ live a end peer kept u. absurd cc })

  old_due : (stage : Stage) → is_open stage ≡ true → due_staged stage socket ≡ Some (due_open socket.expected)
  old_due Open e = refl
  old_due Pending e = absurd cc
  old_due Ended e = absurd cc

  due_there : (n : ℕ) → socket.number ≡ n → due_at host n ≡ Some (due_open socket.expected)
  due_there n e = ap due_of (subst (λ (m : ℕ). find (is_socket m) host.sockets ≡ Some socket) e s.found) ∙ old_due socket.stage s.stands

  now_due : (n : ℕ) → due_at after n ≡ cond (socket.number == n) (Some Framing) (due_at host n)
  now_due n = ap due_of (find_stored now host.sockets n) ∙ by_test (socket.number == n) where
    by_test : (b : Bool) → due_of (cond b (Some now) (find (is_socket n) host.sockets)) ≡ cond b (Some Framing) (due_at host n)
    by_test true = frames_due now s.stands refl
    by_test false = refl

  -- what an item other than a request leaves due
  kept_due : due_open socket.expected ≡ Framing → (n : ℕ) → due_at after n ≡ due_at host n
  kept_due framing n = now_due n ∙ by_test (socket.number == n) refl where
    by_test : (b : Bool) → (socket.number == n) ≡ b → cond b (Some Framing) (due_at host n) ≡ due_at host n
    by_test true e = sym (due_there n (number_is socket.number n e) ∙ ap Some framing)
    by_test false e = refl

  asked_due : due_open socket.expected ≡ Answering → (n : ℕ) → asked_dues socket.number after n ≡ due_at host n
  asked_due answering n = ap (λ (o : Option Due). cond (socket.number == n) (Some Answering) o) (now_due n) ∙ by_test (socket.number == n) refl where
    by_test : (b : Bool) → (socket.number == n) ≡ b → cond b (Some Answering) (cond b (Some Framing) (due_at host n)) ≡ due_at host n
    by_test true e = sym (due_there n (number_is socket.number n e) ∙ ap Some answering)
    by_test false e = refl

  from_due : (d : Dues) (done : Stepped) → ((n : ℕ) → d n ≡ due_at host n) → AllDo own d done → AllDo own (due_at host) done
  from_due d (Ok done) same a = record { fit = a.fit; writes = since own d (due_at host) (due_at done.1) done.0 same a.writes }
  from_due d (Err stop) same a = tt

  by_request : (request : Request) (e : Expected) → socket.expected ≡ e → IsOfKind e (items.Request request) → AllDo own (due_at host) (reads_request now request after)
  by_request request expected.Request e k = from_due (asked_dues socket.number after) (reads_request now request after) (asked_due (ap due_open e)) (requested own now request after fit is_taken ((f.each_socket socket.number socket s.found).unasked e))
  by_request request expected.Answer e k = absurd k
  by_request request expected.Frame e k = absurd k

  by_answer : (answer : Answer) (e : Expected) → socket.expected ≡ e → IsOfKind e (items.Answer answer) → AllDo own (due_at host) (reads_other now (items.Answer answer) after)
  by_answer answer expected.Request e k = absurd k
  by_answer answer expected.Answer e k = from_due (due_at after) (reads_other now (items.Answer answer) after) (kept_due (ap due_open e)) (read_other own now (items.Answer answer) after fit is_taken (λ end peer u. (f.each_socket socket.number socket s.found).awaits (live socket.stage s.stands) e end peer refl u)) where
    live : (stage : Stage) → is_open stage ≡ true → is_ended stage ≡ false
    live Open e = refl
    live Pending e = refl
    live Ended e = absurd cc
  by_answer answer expected.Frame e k = absurd k

  by_frame : (frame : Frame) (e : Expected) → socket.expected ≡ e → IsOfKind e (items.Frame frame) → AllDo own (due_at host) (reads_other now (items.Frame frame) after)
  by_frame frame expected.Request e k = absurd k
  by_frame frame expected.Answer e k = absurd k
  by_frame frame expected.Frame e k = from_due (due_at after) (reads_other now (items.Frame frame) after) (kept_due (ap due_open e)) (read_other own now (items.Frame frame) after fit is_taken tt)

  by_item : (item : Item) → IsOfKind socket.expected item → AllDo own (due_at host) (reads now item after)
  by_item (items.Request request) k = by_request request socket.expected refl k
  by_item (items.Answer answer) k = by_answer answer socket.expected refl k
  by_item (items.Frame frame) k = by_frame frame socket.expected refl k

  read_first : (more : Stepped) → AllDo own (due_at host) more → AllDo own (due_at host) (after_steps (steps.Read socket.number ∷ []) more)
  read_first (Ok more) d = record { fit = d.fit; writes = first own (due_at host) (due_at more.1) (steps.Read socket.number) more.0 (λ n. tt) d.writes }
  read_first (Err stop) d = tt

handled : (own : ℕ → Address) (socket : Socket) (host : HostState) → Fit host.links host.sockets → IsServed socket host → AllDo own (due_at host) (handles socket (front_of socket) host)
handled own socket host f s = by_front (front_of socket).0 (reading_kind socket.expected socket.since) where
  by_front : (x : Front) → FrontOfKind socket.expected x → AllDo own (due_at host) (elim x as (λ x. Stepped) [
    | Unfinished ↦ still host
    | Refused error ↦ is_gone socket host
    | Whole item ↦ takes (record socket { since = drop (front_of socket).1 socket.since; expected = expected.Frame }) item host
  ])
  by_front Unfinished k = record { fit = f; writes = nothing_said own (due_at host) (due_at host) (λ n. refl) }
  by_front (Refused error) k = socket_gone own socket host f (ap user_of s.found)
  by_front (Whole item) k = taken own socket (drop (front_of socket).1 socket.since) item host f s k

pub next_writes : (own : ℕ → Address) (host after : HostState) (told : List Step) → IsOrderly own host → host_next host ≡ Ok (Some told, after) → WritesOn own (due_at host) told after
unfolding host_next
next_writes own host after told o e = whole (by_first (first_ready host.sockets) refl e) where
  some_in : Result (Option (List Step) × HostState) Stop → Option (List Step)
  some_in (Ok next) = next.0
  some_in (Err stop) = None

  steps_in : Result (Option (List Step) × HostState) Stop → List Step
  steps_in (Ok next) = elim next.0 [
    | None ↦ []
    | Some steps ↦ steps
  ]
  steps_in (Err stop) = []

  host_in : Result (Option (List Step) × HostState) Stop → HostState
  host_in (Ok next) = next.1
  host_in (Err stop) = host

  by_done : (one : Stepped) → AllDo own (due_at host) one → some_steps one ≡ Ok (Some told, after) → Does own (due_at host) told after
  by_done (Ok one) d e =
      let same_host : one.1 ≡ after = ap host_in e in
      let same_steps : one.0 ≡ told = ap steps_in e in
      subst (λ (h : HostState). Does own (due_at host) told h) same_host (subst (λ (l : List Step). Does own (due_at host) l one.1) same_steps d)
  by_done (Err stop) d e = absurd cc

  open_front : (a b : Bool) → (a && b) ≡ true → a ≡ true
  open_front true b e = refl
  open_front false b e = e

  by_first : (x : Option Socket) → first_ready host.sockets ≡ x → (elim x as (λ x. Result (Option (List Step) × HostState) Stop) [
    | None ↦ Ok (None, host)
    | Some socket ↦ some_steps (handles socket (front_of socket) host)
  ]) ≡ Ok (Some told, after) → Does own (due_at host) told after
  by_first None f e = let never : None ≡ Some told = ap some_in e in absurd cc
  by_first (Some socket) f e = let at = served host.sockets socket o.sound.apart f in
      by_done (handles socket (front_of socket) host) (handled own socket host (fit_of own host o) (record { found = at.found; stands = open_front (is_open socket.stage) (is_ready_front (front_of socket).0) at.ready })) e

  where_after : where_is after ≡ where_is host
  where_after = subst (λ (r : Result (Option (List Step) × HostState) Stop). Stays host r) e (next_item host)

  whole : Does own (due_at host) told after → WritesOn own (due_at host) told after
  whole d = record { orderly = orderly own host after o where_after (next_told host after told o.sound e).sound d.fit; writes = d.writes }
