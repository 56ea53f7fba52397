-- What a host does as it reads an item, told exactly: a frame of a connection brings one event, and all else brings none, as long as no link breaks.
use Rattle.std.proofs.Common.{◌≡◌, ◌⊎◌, inl, inr, ℕ, ◌+◌, Bool, true, false, cond, ◌||◌, List, [], ◌∷◌, map, drop, Ok, Err, refl, sym, ap, ◌∙◌, subst}
use Rattle.std.specs.Prelude.{find, Option, Some, None, Result, nat_lt}
use Rattle.std.proofs.lemmas.Bool.{and_parts}
use Rattle.ch_base.specs.declared.address.Address.{Address}
use Rattle.ch_base.specs.declared.event.Event.{Event}
use Rattle.ch_base.specs.declared.event.Event.TheVariants as events
use Rattle.ch_base.specs.declared.memory.Stop.TheVariants as stops
use Rattle.ch_wire.specs.declared.answer.Answer.{Answer}
use Rattle.ch_wire.specs.declared.frame.Frame.{Frame}
use Rattle.ch_wire.specs.declared.frame.Frame.TheVariants as frames
use Rattle.ch_wire.specs.declared.request.Request.{Request}
use Rattle.ch_reader.specs.declared.item.Expected.{Expected}
use Rattle.ch_reader.specs.declared.item.Expected.TheVariants as expected
use Rattle.ch_reader.specs.declared.item.Front.{Front}
use Rattle.ch_reader.specs.declared.item.Front.TheVariants.{Unfinished, Whole, Refused}
use Rattle.ch_reader.specs.declared.item.Item.{Item}
use Rattle.ch_reader.specs.declared.item.Item.TheVariants as items
use Rattle.ch_light.specs.declared.Connection.{Connection}
use Rattle.ch_light.specs.declared.error.LightError.{LightError}
use Rattle.ch_light.specs.Ids.{created_of, closed_of, conn_of}
use Rattle.ch_link.specs.Sockets.{names}
use Rattle.ch_link.specs.Table.{step_of}
use Rattle.ch_link.specs.declared.LinkAnswer.TheVariants as links
use Rattle.ch_link.specs.declared.LinkIn.{LinkIn}
use Rattle.ch_link.specs.declared.LinkIn.TheVariants as inputs
use Rattle.ch_link.specs.declared.LinkState.{LinkState}
use Rattle.ch_link.specs.declared.LinkState.TheVariants as states
use Rattle.ch_model.specs.declared.step.SocketEvent.TheVariants as sockets
use Rattle.ch_model.specs.declared.step.Step.{Step}
use Rattle.ch_model.specs.declared.step.Step.TheVariants as steps
use Rattle.ch_model.specs.declared.step.Weight.{Weight}
use Rattle.ch_model.specs.AccountsItems.{data_of}
use Rattle.ch_model.specs.Greater.{is_greater}
use Rattle.ch_model.specs.Host.{front_of, is_ready_front, first_ready, takes, handles, host_on, host_next}
use Rattle.ch_model.specs.HostItems.{most_arrived, posts, gone_from, is_gone, refusal_of, asks_link, reads_request, heard_answer, arrived_at, with_arrival, next_arrival, arrives, closes, receives, reads_frame, reads_on, reads_other, reads}
use Rattle.ch_model.specs.HostLinks.{does_act, hears}
use Rattle.ch_model.specs.HostState.{Link, Socket, Endpoint, HostState}
use Rattle.ch_model.specs.HostSteps.{Stepped, still, after_steps, own_address, link_with, with_link, with_socket, with_endpoint, is_socket, is_endpoint}
use Rattle.ch_model.specs.HostWrites.{leaves, answers_and_leaves, frame_step}
use Rattle.ch_model.specs.Stages.{is_open}
use Rattle.ch_laws_items.proofs.Next.{Served, served}
use Rattle.ch_laws_links.specs.Naming.{IsNaming, IsDialedBy, IsUpFor}
use Rattle.ch_laws_links.proofs.Keys.{number_self}
use Rattle.ch_laws_links.proofs.Readings.{Matches, FrontMatches, reading_matches}
use Rattle.ch_laws_links.proofs.Says.{used, unused}
use Rattle.ch_laws_writes.specs.Orderly.{IsOrderly}
use Rattle.ch_laws_writes.proofs.Ordered.{is_key}
use Rattle.ch_laws_calls.proofs.FitsStores.{Stores, stored}
use Rattle.ch_laws_plain.specs.Talks.{HostIsPlain}
use Rattle.ch_laws_plain.specs.ReadsReading.{posts_in, Brings}
use Rattle.ch_laws_plain.proofs.ReadsBrought.{own_key}
use Rattle.ch_laws_plain.proofs.ReadsEnds.{not_over}
use Rattle.ch_laws_plain.proofs.ReadsTurns.{next_done, next_reads, ended_reads}
use Rattle.ch_laws_messages.proofs.GotLists.{clash, some_is}

-- ---- what is told

-- a link breaks
abbrev pub is_broke : Step → Bool
is_broke (steps.Broke end peer why) = true
is_broke step = false

abbrev pub has_broke : List Step → Bool
has_broke [] = false
has_broke (step ∷ rest) = is_broke step || has_broke rest

-- nothing is posted but behind the break of a link
abbrev pub Tame : List Step → Type 0
Tame [] = Unit {0}
Tame (steps.Broke end peer why ∷ rest) = Unit {0}
Tame (steps.Post end event ∷ rest) = ⊥
Tame (step ∷ rest) = Tame rest

abbrev AllTame : Stepped → Type 0
AllTame (Ok done) = Tame done.0
AllTame (Err stop) = Unit {0}

-- where something is posted a link has broken
pub tame_broke : (told : List Step) (post : ℕ × Event) (more : List (ℕ × Event)) → Tame told → posts_in told ≡ post ∷ more → has_broke told ≡ true
tame_broke [] post more t e = absurd cc
tame_broke (steps.Broke end peer why ∷ rest) post more t e = refl
tame_broke (steps.Post end event ∷ rest) post more t e = absurd t
tame_broke (steps.Dial sock end peer ∷ rest) post more t e = tame_broke rest post more t e
tame_broke (steps.Read sock ∷ rest) post more t e = tame_broke rest post more t e
tame_broke (steps.Write sock bytes said ∷ rest) post more t e = tame_broke rest post more t e
tame_broke (steps.Up sock ∷ rest) post more t e = tame_broke rest post more t e
tame_broke (steps.Down sock ∷ rest) post more t e = tame_broke rest post more t e
tame_broke (steps.Left sock ∷ rest) post more t e = tame_broke rest post more t e

waits_tame : (sock : ℕ) (waits : List (Frame × Weight)) → Tame (map (frame_step sock) waits)
waits_tame sock [] = tt
waits_tame sock (wait ∷ waits) = waits_tame sock waits

-- ---- a link that hears of something

abbrev IsUnwanted : LinkIn → Type 0
IsUnwanted (inputs.Want sock) = ⊥
IsUnwanted inputs.Shut = ⊥
IsUnwanted input = Unit {0}

heard_in : (host : HostState) (link : Link) (state : LinkState) (input : LinkIn) (greater : Bool) → IsUnwanted input
    → AllTame (does_act (step_of state input greater).1 state input (record link { state = (step_of state input greater).0 }) (with_link (record link { state = (step_of state input greater).0 }) host))
unfolding step_of
heard_in host link state (inputs.Want n) greater m = absurd m
heard_in host link state inputs.Shut greater m = absurd m
heard_in host link states.Idle (inputs.Asked s) greater m = waits_tame s link.waits
heard_in host link states.AwaitOther (inputs.Asked s) greater m = waits_tame s link.waits
heard_in host link (states.Dialing d) (inputs.Asked s) true m = tt
heard_in host link (states.Dialing d) (inputs.Asked s) false m = waits_tame s link.waits
heard_in host link (states.Up u false) (inputs.Asked s) greater m = tt
heard_in host link (states.Up u true) (inputs.Asked s) greater m = tt
heard_in host link (states.Dialing d) (inputs.Answered links.Accepted) greater m = waits_tame d link.waits
heard_in host link (states.Dialing d) (inputs.Answered links.Crossed) greater m = tt
heard_in host link (states.Dialing d) (inputs.Answered links.Invalid) greater m = tt
heard_in host link (states.Dialing d) (inputs.Answered links.Mismatch) greater m = tt
heard_in host link (states.Dialing d) inputs.Gone greater m = tt
heard_in host link (states.Up u probed) inputs.Gone greater m = tt
heard_in host link (states.Up u probed) inputs.EndClosed greater m = tt
heard_in host link (states.Up u probed) inputs.Probe greater m = tt
heard_in host link (states.Up u probed) inputs.Ack greater m = tt
heard_in host link (states.Dialing d) inputs.Late greater m = tt
heard_in host link states.AwaitOther inputs.Late greater m = tt
heard_in host link (states.Up u true) inputs.Late greater m = tt
heard_in host link state input greater m = tt

heard_tame : (input : LinkIn) (link : Link) (host : HostState) → IsUnwanted input → AllTame (hears input link host)
heard_tame input link host m = heard_in host link link.state input (is_greater (own_address host link.end) link.peer) m

gone_tame : (socket : Socket) (host : HostState) → AllTame (is_gone socket host)
gone_tame socket host = by_user socket.user where
  by_names : (link : Link) (b : Bool) → AllTame (cond b (hears inputs.Gone link host) (leaves socket.number host))
  by_names link true = heard_tame inputs.Gone link host tt
  by_names link false = tt

  by_user : (o : Option (ℕ × Address)) → AllTame (elim o as (λ x. Stepped) [
    | None ↦ leaves socket.number host
    | Some user ↦ gone_from socket.number (link_with host user.0 user.1) host
  ])
  by_user None = tt
  by_user (Some user) = by_names (link_with host user.0 user.1) (names (link_with host user.0 user.1).state socket.number)

-- one that loses the socket that it names breaks
abbrev AllBroke : Stepped → Type 0
AllBroke (Ok done) = has_broke done.0 ≡ true
AllBroke (Err stop) = Unit {0}

broke_in : (host : HostState) (link : Link) (state : LinkState) (sock : ℕ) (greater : Bool) → names state sock ≡ true
    → AllBroke (does_act (step_of state inputs.Gone greater).1 state inputs.Gone (record link { state = (step_of state inputs.Gone greater).0 }) (with_link (record link { state = (step_of state inputs.Gone greater).0 }) host))
unfolding step_of
broke_in host link states.Idle sock greater named = clash (sym named)
broke_in host link states.AwaitOther sock greater named = clash (sym named)
broke_in host link (states.Dialing d) sock greater named = refl
broke_in host link (states.Up u probed) sock greater named = refl

gone_broke : (socket : Socket) (host : HostState) (user : ℕ × Address) → socket.user ≡ Some user → names (link_with host user.0 user.1).state socket.number ≡ true → AllBroke (is_gone socket host)
gone_broke socket host user u named = subst (λ (o : Option (ℕ × Address)). AllBroke (elim o as (λ x. Stepped) [
  | None ↦ leaves socket.number host
  | Some user ↦ gone_from socket.number (link_with host user.0 user.1) host
])) (sym u) (subst (λ (b : Bool). AllBroke (cond b (hears inputs.Gone (link_with host user.0 user.1) host) (leaves socket.number host))) (sym named)
    (broke_in host (link_with host user.0 user.1) (link_with host user.0 user.1).state socket.number (is_greater (own_address host (link_with host user.0 user.1).end) (link_with host user.0 user.1).peer) named))

requested_tame : (socket : Socket) (request : Request) (host : HostState) → AllTame (reads_request socket request host)
requested_tame socket request host = by_answer (refusal_of host socket request.target request.from) where
  by_answer : (answer : Option Answer) → AllTame (elim answer as (λ x. Stepped) [
    | Some answer ↦ answers_and_leaves socket.number answer host
    | None ↦ asks_link socket request.target request.from host
  ])
  by_answer (Some answer) = tt
  by_answer None = heard_tame (inputs.Asked socket.number) (link_with host request.target request.from) (with_socket (record socket { user = Some (request.target, request.from) }) host) tt

-- ---- a frame of a connection

-- what a frame of a connection brings to the node of an endpoint, from a peer
abbrev pub DoesAs : HostState → HostState → ℕ → Address → Frame → Event → Type 0
DoesAs host after end peer (frames.Created id) event = (created_of (link_with host end peer).created id (next_arrival host end) ≡ Ok (link_with after end peer).created) × (event ≡ events.ConnectionOpened (next_arrival host end) peer)
DoesAs host after end peer (frames.Closed id) event = (conn : ℕ) × (closed_of (link_with host end peer).created id ≡ Ok (conn, (link_with after end peer).created)) × (event ≡ events.ConnectionClosed conn)
DoesAs host after end peer (frames.Data id payload) event = (conn : ℕ) × (conn_of (link_with host end peer).created id ≡ Ok conn) × ((link_with after end peer).created ≡ (link_with host end peer).created) × (event ≡ events.Received conn payload)
DoesAs host after end peer frame event = ⊥

-- A frame was read on the socket that a link is up on, and that posts an event.
pub record Brought (host : HostState) (known : Socket) (told : List Step) (after : HostState) : Type 0 where
  pub frame : Frame
  pub front : (front_of known).0 ≡ Whole (items.Frame frame)
  pub end : ℕ
  pub peer : Address
  pub probed : Bool
  pub up : (link_with host end peer).state ≡ states.Up known.number probed
  pub event : Event
  pub told_is : told ≡ steps.Read known.number ∷ steps.Post end event ∷ []
  pub others : (e : ℕ) (p : Address) → is_key end peer e p ≡ false → (link_with after e p).created ≡ (link_with host e p).created
  pub does : DoesAs host after end peer frame event

-- all that is done of a front: nothing is posted, and no payload was read; or an event is; or a link breaks
abbrev AllDo : HostState → Socket → Front → Stepped → Type 0
AllDo host socket front (Ok done) = (Tame done.0 × ((frame : Frame) → front ≡ Whole (items.Frame frame) → data_of frame ≡ None)) ⊎ (Brought host socket done.0 done.1 ⊎ (has_broke done.0 ≡ true))
AllDo host socket front (Err stop) = Unit {0}

abbrev taken : Socket → Socket
taken socket = record socket { since = drop (front_of socket).1 socket.since; expected = expected.Frame }

abbrev taken_from : Socket → HostState → HostState
taken_from socket host = with_socket (taken socket) host

tame_does : (host : HostState) (socket : Socket) (front : Front) (sock : ℕ) (done : Stepped) → ((frame : Frame) → front ≡ Whole (items.Frame frame) → data_of frame ≡ None) → AllTame done → AllDo host socket front (after_steps (steps.Read sock ∷ []) done)
tame_does host socket front sock (Ok done) off t = inl (t, off)
tame_does host socket front sock (Err stop) off t = tt

broke_does : (host : HostState) (socket : Socket) (front : Front) (sock : ℕ) (done : Stepped) → AllBroke done → AllDo host socket front (after_steps (steps.Read sock ∷ []) done)
broke_does host socket front sock (Ok done) b = inr (inr b)
broke_does host socket front sock (Err stop) b = tt

-- a front that is no frame
not_frame : (front : Front) (item : Item) → front ≡ Whole item → ((frame : Frame) → item ≡ items.Frame frame → ⊥) → (frame : Frame) → front ≡ Whole (items.Frame frame) → data_of frame ≡ None
not_frame front item e off frame f = absurd (off frame (whole_is item (items.Frame frame) (sym e ∙ f))) where
  whole_is : (a b : Item) → Whole a ≡ Whole b → a ≡ b
  whole_is a b e = cc

same_frame : (front : Front) (one : Frame) → front ≡ Whole (items.Frame one) → data_of one ≡ None → (frame : Frame) → front ≡ Whole (items.Frame frame) → data_of frame ≡ None
same_frame front one e none frame f = ap data_of (sym (frame_is one frame (sym e ∙ f))) ∙ none where
  frame_is : (a b : Frame) → Whole (items.Frame a) ≡ Whole (items.Frame b) → a ≡ b
  frame_is a b e = cc

module _ (host : HostState) (socket : Socket) (user : ℕ × Address) (probed : Bool) (u : socket.user ≡ Some user) (up : (link_with host user.0 user.1).state ≡ states.Up socket.number probed) where
  abbrev mid : HostState
  mid = taken_from socket host

  abbrev link : Link
  link = link_with host user.0 user.1

  gone_does : (front : Front) → AllDo host socket front (after_steps (steps.Read socket.number ∷ []) (is_gone (taken socket) mid))
  gone_does front = broke_does host socket front socket.number (is_gone (taken socket) mid) (gone_broke (taken socket) mid user u (ap (λ (s : LinkState). names s socket.number) up ∙ number_self socket.number))

  is_link : link_with host link.end link.peer ≡ link
  is_link = own_key host user.0 user.1

  up_there : (link_with host link.end link.peer).state ≡ states.Up socket.number probed
  up_there = ap (λ (l : Link). l.state) is_link ∙ up

  arrival_rest : (end : ℕ) (h : HostState) → (with_arrival end h).links ≡ h.links
  arrival_rest end h = by_endpoint (find (is_endpoint end) h.ends) where
    by_endpoint : (o : Option Endpoint) → (elim o as (λ o. HostState) [
      | None ↦ h
      | Some endpoint ↦ with_endpoint (record endpoint { arrived = endpoint.arrived + 1 }) h
    ]).links ≡ h.links
    by_endpoint None = refl
    by_endpoint (Some endpoint) = refl

  created_does : (id : ℕ) → (front_of socket).0 ≡ Whole (items.Frame (frames.Created id)) → AllDo host socket (front_of socket).0 (after_steps (steps.Read socket.number ∷ []) (arrives (taken socket) link (created_of link.created id (next_arrival host link.end)) mid))
  created_does id front = by_created (created_of link.created id number) refl where
    number : ℕ
    number = next_arrival host link.end

    by_test : (ids : List Connection) → created_of link.created id number ≡ Ok ids → (b : Bool) → AllDo host socket (front_of socket).0 (after_steps (steps.Read socket.number ∷ []) (cond b (posts link.end (events.ConnectionOpened number link.peer) (with_arrival link.end (with_link (record link { created = ids }) mid))) (Err stops.Worn)))
    by_test ids e false = tt
    by_test ids e true = inr (inl (record {
      frame = frames.Created id;
      front = front;
      end = link.end;
      peer = link.peer;
      probed = probed;
      up = up_there;
      event = events.ConnectionOpened number link.peer;
      told_is = refl;
      others = λ e p h. ap (λ (l : Link). l.created) (stores.others e p h);
      does = (ap (λ (l : Link). created_of l.created id number) is_link ∙ e ∙ ap Ok (sym (ap (λ (l : Link). l.created) stores.now)), refl);
    })) where
      after : HostState
      after = with_arrival link.end (with_link (record link { created = ids }) mid)

      stores : Stores host.links after.links link.end link.peer (record link { created = ids })
      stores = subst (λ (l : List Link). Stores host.links l link.end link.peer (record link { created = ids })) (sym (arrival_rest link.end (with_link (record link { created = ids }) mid))) (stored host.links (record link { created = ids }))

    by_created : (r : Result (List Connection) LightError) → created_of link.created id number ≡ r → AllDo host socket (front_of socket).0 (after_steps (steps.Read socket.number ∷ []) (arrives (taken socket) link r mid))
    by_created (Err x) e = gone_does (front_of socket).0
    by_created (Ok ids) e = by_test ids e (nat_lt (arrived_at mid link.end) most_arrived)

  closed_does : (id : ℕ) → (front_of socket).0 ≡ Whole (items.Frame (frames.Closed id)) → AllDo host socket (front_of socket).0 (after_steps (steps.Read socket.number ∷ []) (closes (taken socket) link (closed_of link.created id) mid))
  closed_does id front = by_closed (closed_of link.created id) refl where
    by_closed : (r : Result (ℕ × List Connection) LightError) → closed_of link.created id ≡ r → AllDo host socket (front_of socket).0 (after_steps (steps.Read socket.number ∷ []) (closes (taken socket) link r mid))
    by_closed (Err x) e = gone_does (front_of socket).0
    by_closed (Ok (conn, ids)) e = inr (inl (record {
      frame = frames.Closed id;
      front = front;
      end = link.end;
      peer = link.peer;
      probed = probed;
      up = up_there;
      event = events.ConnectionClosed conn;
      told_is = refl;
      others = λ e p h. ap (λ (l : Link). l.created) (stores.others e p h);
      does = (conn, ap (λ (l : Link). closed_of l.created id) is_link ∙ e ∙ ap (λ (l : List Connection). Ok (conn, l)) (sym (ap (λ (l : Link). l.created) stores.now)), refl);
    })) where
      stores : Stores host.links (with_link (record link { created = ids }) mid).links link.end link.peer (record link { created = ids })
      stores = stored host.links (record link { created = ids })

  data_does : (id : ℕ) (payload : List ℕ) → (front_of socket).0 ≡ Whole (items.Frame (frames.Data id payload)) → AllDo host socket (front_of socket).0 (after_steps (steps.Read socket.number ∷ []) (receives (taken socket) link payload (conn_of link.created id) mid))
  data_does id payload front = by_conn (conn_of link.created id) refl where
    by_conn : (r : Result ℕ LightError) → conn_of link.created id ≡ r → AllDo host socket (front_of socket).0 (after_steps (steps.Read socket.number ∷ []) (receives (taken socket) link payload r mid))
    by_conn (Err x) e = gone_does (front_of socket).0
    by_conn (Ok conn) e = inr (inl (record {
      frame = frames.Data id payload;
      front = front;
      end = link.end;
      peer = link.peer;
      probed = probed;
      up = up_there;
      event = events.Received conn payload;
      told_is = refl;
      others = λ e p h. refl;
      does = (conn, ap (λ (l : Link). conn_of l.created id) is_link ∙ e, refl, refl);
    }))

  framed_does : (frame : Frame) → (front_of socket).0 ≡ Whole (items.Frame frame) → AllDo host socket (front_of socket).0 (after_steps (steps.Read socket.number ∷ []) (reads_frame (taken socket) link frame mid))
  framed_does (frames.Created id) f = created_does id f
  framed_does (frames.Closed id) f = closed_does id f
  framed_does (frames.Data id payload) f = data_does id payload f
  framed_does frames.EndClosed f = tame_does host socket (front_of socket).0 socket.number (hears inputs.EndClosed link mid) (same_frame (front_of socket).0 frames.EndClosed f refl) (heard_tame inputs.EndClosed link mid tt)
  framed_does frames.Probe f = tame_does host socket (front_of socket).0 socket.number (hears inputs.Probe link mid) (same_frame (front_of socket).0 frames.Probe f refl) (heard_tame inputs.Probe link mid tt)
  framed_does frames.ProbeAck f = tame_does host socket (front_of socket).0 socket.number (hears inputs.Ack link mid) (same_frame (front_of socket).0 frames.ProbeAck f refl) (heard_tame inputs.Ack link mid tt)

-- ---- any item

pub frames_is : (e : Expected) (frame : Frame) → Matches e (items.Frame frame) → e ≡ expected.Frame
frames_is expected.Request frame m = absurd m
frames_is expected.Answer frame m = absurd m
frames_is expected.Frame frame m = refl

other_tame : (socket : Socket) (answer : Answer) (host : HostState) → AllTame (reads_other socket (items.Answer answer) host)
other_tame socket answer host = by_user socket.user where
  by_user : (o : Option (ℕ × Address)) → AllTame (elim o as (λ x. Stepped) [
    | None ↦ still host
    | Some user ↦ reads_on socket (link_with host user.0 user.1) (items.Answer answer) host
  ])
  by_user None = tt
  by_user (Some user) = heard_tame (inputs.Answered (heard_answer answer)) (link_with host user.0 user.1) host tt

read_does : (host : HostState) (socket : Socket) (item : Item) → IsNaming host → find (is_socket socket.number) host.sockets ≡ Some socket → is_open socket.stage ≡ true → (front_of socket).0 ≡ Whole item → AllDo host socket (front_of socket).0 (after_steps (steps.Read socket.number ∷ []) (reads (taken socket) item (taken_from socket host)))
read_does host socket (items.Request request) s found stands f = tame_does host socket (front_of socket).0 socket.number (reads_request (taken socket) request (taken_from socket host)) (not_frame (front_of socket).0 (items.Request request) f (λ frame e. absurd cc)) (requested_tame (taken socket) request (taken_from socket host))
read_does host socket (items.Answer answer) s found stands f = tame_does host socket (front_of socket).0 socket.number (reads_other (taken socket) (items.Answer answer) (taken_from socket host)) (not_frame (front_of socket).0 (items.Answer answer) f (λ frame e. absurd cc)) (other_tame (taken socket) answer (taken_from socket host))
read_does host socket (items.Frame frame) s found stands f = by_user socket.user refl where
  expects : socket.expected ≡ expected.Frame
  expects = frames_is socket.expected frame (subst (FrontMatches socket.expected) f (reading_matches socket.expected socket.since))

  by_use : (user : ℕ × Address) → socket.user ≡ Some user → (((link_with host user.0 user.1).state ≡ states.Dialing socket.number) × IsDialedBy user.0 user.1 socket) ⊎ ((probed : Bool) × ((link_with host user.0 user.1).state ≡ states.Up socket.number probed) × IsUpFor user.0 user.1 socket)
      → AllDo host socket (front_of socket).0 (after_steps (steps.Read socket.number ∷ []) (reads_frame (taken socket) (link_with host user.0 user.1) frame (taken_from socket host)))
  by_use user u (inl d) = let never : expected.Frame ≡ expected.Answer = sym expects ∙ d.1.expects in absurd cc
  by_use user u (inr w) = framed_does host socket user w.0 u w.1 frame f

  by_user : (o : Option (ℕ × Address)) → socket.user ≡ o → AllDo host socket (front_of socket).0 (after_steps (steps.Read socket.number ∷ []) (elim o as (λ o. Stepped) [
    | None ↦ still (taken_from socket host)
    | Some user ↦ reads_on (taken socket) (link_with (taken_from socket host) user.0 user.1) (items.Frame frame) (taken_from socket host)
  ]))
  by_user None u = let never : expected.Frame ≡ expected.Request = sym expects ∙ (unused host socket.number socket s found u (not_over socket.stage stands)).expects in absurd cc
  by_user (Some user) u = by_use user u (used host user.0 user.1 socket.number socket s found u (not_over socket.stage stands))

handled_does : (host : HostState) (socket : Socket) → IsNaming host → find (is_socket socket.number) host.sockets ≡ Some socket → is_open socket.stage ≡ true → AllDo host socket (front_of socket).0 (handles socket (front_of socket) host)
handled_does host socket s found stands = by_front (front_of socket).0 refl where
  gone : (done : Stepped) (front : Front) → ((frame : Frame) → front ≡ Whole (items.Frame frame) → data_of frame ≡ None) → AllTame done → AllDo host socket front done
  gone (Ok done) front none t = inl (t, none)
  gone (Err stop) front none t = tt

  by_front : (x : Front) → (front_of socket).0 ≡ x → AllDo host socket x (elim x as (λ x. Stepped) [
    | Unfinished ↦ still host
    | Refused error ↦ is_gone socket host
    | Whole item ↦ takes (taken socket) item host
  ])
  by_front Unfinished e = inl (tt, λ frame f. absurd cc)
  by_front (Refused error) e = gone (is_gone socket host) (Refused error) (λ frame f. absurd cc) (gone_tame socket host)
  by_front (Whole item) e = subst (λ (x : Front). AllDo host socket x (after_steps (steps.Read socket.number ∷ []) (reads (taken socket) item (taken_from socket host)))) e (read_does host socket item s found stands e)

-- ---- what a host does

-- nothing is posted, and all connections that have arrived stand
pub record Calm (host : HostState) (told : List Step) (after : HostState) : Type 0 where
  pub posted : posts_in told ≡ []
  pub created : (e : ℕ) (p : Address) → (link_with after e p).created ≡ (link_with host e p).created

-- where all that is brought is tame, nothing is posted or a link breaks
pub calm_of : (host : HostState) (told : List Step) (after : HostState) → Brings host told after → Tame told → Calm host told after ⊎ (has_broke told ≡ true)
calm_of host told after (inl n) t = inl (record { posted = n.posted; created = n.created })
calm_of host told after (inr (inl o)) t = inr (tame_broke told (o.end, events.ConnectionOpened (next_arrival host o.end) o.peer) [] t o.posted)
calm_of host told after (inr (inr (inl c))) t = inr (tame_broke told (c.end, events.ConnectionClosed c.conn) [] t c.posted)
calm_of host told after (inr (inr (inr (inl r)))) t = inr (tame_broke told (r.end, events.Received r.conn r.payload) [] t r.posted)
calm_of host told after (inr (inr (inr (inr l)))) t = inr (tame_broke told (l.end, events.ConnectionLost l.peer l.why) [] t l.posted)

-- It is calm, and no payload was read; or an event is brought by a frame; or a link breaks.
abbrev pub NextDoes : HostState → List Step → HostState → Type 0
NextDoes host told after = (Calm host told after × ((known : Socket) (frame : Frame) → first_ready host.sockets ≡ Some known → (front_of known).0 ≡ Whole (items.Frame frame) → data_of frame ≡ None))
    ⊎ (((known : Socket) × (first_ready host.sockets ≡ Some known) × Brought host known told after) ⊎ (has_broke told ≡ true))

pub next_does : (own : ℕ → Address) (host after : HostState) (told : List Step) → IsNaming host → IsOrderly own host → HostIsPlain host → host_next host ≡ Ok (Some told, after) → NextDoes host told after
next_does own host after told s o p e = next_done (λ told after. Brings host told after → NextDoes host told after) host after told each e (next_reads own host after told s o p e).1 where
  each : (socket : Socket) (steps : List Step) (one : HostState) → first_ready host.sockets ≡ Some socket → handles socket (front_of socket) host ≡ Ok (steps, one) → Brings host steps one → NextDoes host steps one
  each socket steps one f is brings = by_done (subst (AllDo host socket (front_of socket).0) is (handled_does host socket s at.found both.0)) where
    at : Served host.sockets socket
    at = served host.sockets socket o.sound.apart f

    both : (is_open socket.stage ≡ true) × (is_ready_front (front_of socket).0 ≡ true)
    both = and_parts (is_open socket.stage) (is_ready_front (front_of socket).0) at.ready

    by_calm : ((frame : Frame) → (front_of socket).0 ≡ Whole (items.Frame frame) → data_of frame ≡ None) → Calm host steps one ⊎ (has_broke steps ≡ true) → NextDoes host steps one
    by_calm none (inl c) = inl (c, λ known frame first front. none frame (ap (λ (w : Socket). (front_of w).0) (some_is socket known (sym f ∙ first)) ∙ front))
    by_calm none (inr b) = inr (inr b)

    by_done : AllDo host socket (front_of socket).0 (Ok (steps, one)) → NextDoes host steps one
    by_done (inl t) = by_calm t.1 (calm_of host steps one brings t.0)
    by_done (inr (inl b)) = inr (inl (socket, f, b))
    by_done (inr (inr b)) = inr (inr b)

-- as the input of a socket ends it is calm, or a link breaks
ended_tame : (host : HostState) (sock : ℕ) → AllTame (host_on host (sockets.Ended sock))
unfolding host_on
ended_tame host sock = by_socket (find (is_socket sock) host.sockets) where
  by_test : (socket : Socket) (b : Bool) → AllTame (cond b (is_gone socket host) (still host))
  by_test socket true = gone_tame socket host
  by_test socket false = tt

  by_socket : (x : Option Socket) → AllTame (elim x as (λ x. Stepped) [
    | None ↦ still host
    | Some socket ↦ cond (is_open socket.stage) (is_gone socket host) (still host)
  ])
  by_socket None = tt
  by_socket (Some socket) = by_test socket (is_open socket.stage)

pub ended_does : (own : ℕ → Address) (host after : HostState) (sock : ℕ) (told : List Step) → IsNaming host → IsOrderly own host → host_on host (sockets.Ended sock) ≡ Ok (told, after) → Calm host told after ⊎ (has_broke told ≡ true)
ended_does own host after sock told s o e = calm_of host told after (ended_reads own host after sock told s o e).1 (subst AllTame e (ended_tame host sock))
