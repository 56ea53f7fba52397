-- An item that a host reads, and the end of a socket's input: what that changes of a link's ids.
use Rattle.std.proofs.Common.{◌≡◌, ◌⊎◌, inl, inr, ℕ, ◌+◌, suc, Bool, true, false, cond, List, [], ◌∷◌, drop, length, Ok, Err, refl, sym, ap, ◌∙◌, subst}
use Rattle.std.proofs.lemmas.Bool.{and_parts}
use Rattle.std.specs.Prelude.{find, Option, Some, None, Result, nat_lt, ◌==◌}
use Rattle.ch_base.specs.declared.address.Address.{Address}
use Rattle.ch_base.specs.declared.event.Event.{Event}
use Rattle.ch_base.specs.declared.event.Event.TheVariants as events
use Rattle.ch_base.specs.declared.memory.Stop.{Stop}
use Rattle.ch_base.specs.declared.memory.Stop.TheVariants as stops
use Rattle.ch_wire.specs.Spelling.{answer_spelling}
use Rattle.ch_wire.specs.declared.answer.Answer.{Answer}
use Rattle.ch_wire.specs.declared.frame.Frame.{Frame}
use Rattle.ch_wire.specs.declared.frame.Frame.TheVariants as frames
use Rattle.ch_wire.specs.declared.request.Request.{Request}
use Rattle.ch_reader.specs.Reading.{reading}
use Rattle.ch_reader.specs.declared.item.Expected.{Expected}
use Rattle.ch_reader.specs.declared.item.Expected.TheVariants as expected
use Rattle.ch_reader.specs.declared.item.Front.{Front}
use Rattle.ch_reader.specs.declared.item.Front.TheVariants.{Unfinished, Whole, Refused}
use Rattle.ch_reader.specs.declared.item.Item.{Item}
use Rattle.ch_reader.specs.declared.item.Item.TheVariants as items
use Rattle.ch_light.specs.declared.Connection.{Connection}
use Rattle.ch_light.specs.declared.error.LightError.{LightError}
use Rattle.ch_light.specs.Ids.{created_of, conn_of, closed_of}
use Rattle.ch_link.specs.Sockets.{names}
use Rattle.ch_link.specs.Table.{step_of}
use Rattle.ch_link.specs.declared.LinkIn.TheVariants as inputs
use Rattle.ch_link.specs.declared.LinkState.{LinkState}
use Rattle.ch_link.specs.declared.LinkState.TheVariants as states
use Rattle.ch_model.specs.declared.step.Step.{Step}
use Rattle.ch_model.specs.declared.step.Step.TheVariants as steps
use Rattle.ch_model.specs.Host.{front_of, is_ready_front, first_ready, takes, handles, some_steps, host_next}
use Rattle.ch_model.specs.HostItems.{most_arrived, posts, gone_from, is_gone, refusal_of, asks_link, reads_request, heard_answer, arrived_at, with_arrival, next_arrival, arrives, closes, receives, reads_frame, reads_on, reads}
use Rattle.ch_model.specs.HostLinks.{does_act, hears}
use Rattle.ch_model.specs.HostState.{Endpoint, Link, Socket, HostState}
use Rattle.ch_model.specs.HostSteps.{Stepped, still, after_steps, is_endpoint, link_with, with_link, with_socket, with_endpoint, is_socket}
use Rattle.ch_model.specs.HostWrites.{is_up, answers_and_leaves, leaves, end_socket}
use Rattle.ch_model.specs.Stages.{Stage, Pending, Open, Ended, is_open, is_ended}
use Rattle.ch_laws_calls.specs.Tables.{table_of, frame_on, frames_on}
use Rattle.ch_laws_items.proofs.Next.{served}
use Rattle.ch_laws_items.proofs.Sockets.{number_is}
use Rattle.ch_laws_links.specs.Naming.{IsNaming, IsDialedBy, IsUpFor}
use Rattle.ch_laws_links.proofs.Keys.{ended_rest, number_self}
use Rattle.ch_laws_links.proofs.Readings.{Matches, FrontMatches, reading_matches}
use Rattle.ch_laws_links.proofs.Says.{used, unused}
use Rattle.ch_laws_reads.specs.Reads.{AreRead}
use Rattle.ch_laws_writes.specs.Dues.{Due, Answering, Framing, due_of, due_staged, due_open, due_at}
use Rattle.ch_laws_writes.specs.Orderly.{IsOrderly}
use Rattle.ch_laws_calls.specs.FitsFit.{is_up_at, LinkHolds, HostHolds, frames_in}
use Rattle.ch_laws_calls.specs.FitsTurns.{IsKind, Gives, Creates, Turn}
use Rattle.ch_laws_calls.proofs.FitsFrames.{one_frame}
use Rattle.ch_laws_calls.proofs.FitsIds.{created_fits, closed_fits, payload_fits}
use Rattle.ch_laws_calls.proofs.FitsStores.{Stores, stored, none_kind, only_at, only_kind, only_spelled, no_dials, IsDown, turned, turned_reading}
use Rattle.ch_laws_calls.proofs.FitsCalls.{IsOwn, link_with_own, clash, AllTurned}
use Rattle.ch_laws_calls.proofs.FitsHalves.{Half, AllHalf, IsWell, fails_down, heard, unheard}

-- ---- links

pub well : (host : HostState) (link : Link) → IsOwn host link → IsWell (due_at host) link
well host link l = record { holds = l.holds; framed = l.fits.spelled; up = l.fits.up }

-- the links are as they were
pub unstored : (host : HostState) (link : Link) → IsOwn host link → Stores host.links host.links link.end link.peer link
unstored host link l = record { now = l.is; others = λ e p h. refl }

unstored_over : (host mid : HostState) (sock : ℕ) (link : Link) → mid.links ≡ host.links → IsOwn host link → Stores host.links (end_socket sock mid).links link.end link.peer link
unstored_over host mid sock link same l = subst (λ (links : List Link). Stores host.links links link.end link.peer link) (sym ((ended_rest sock mid).0 ∙ same)) (unstored host link l)

-- the end is left, and that is all
left : (own : ℕ → Address) (host mid : HostState) (sock : ℕ) (link : Link) → mid.links ≡ host.links → IsOwn host link → Half own (due_at host) host.links link (steps.Left sock ∷ []) (end_socket sock mid)
left own host mid sock link same l = unheard own (due_at host) host.links link (steps.Left sock ∷ []) (end_socket sock mid) (well host link l) (unstored_over host mid sock link same l) (λ n. []) (λ n. refl) (λ n. none_kind own (due_at host n)) (λ n. refl) (λ n. refl) tt

-- ---- turns

pub half_turn : (own : ℕ → Address) (host after : HostState) (link : Link) (told : List Step) → link_with host link.end link.peer ≡ link → Half own (due_at host) host.links link told after → Turn own host link.end link.peer told after
half_turn own host after link told is h = turned own host after link.end link.peer told link h.two is h.stores h.holds h.said h.spelled h.kind h.gives h.reads h.creates (no_dials told h.alone)

-- a host's socket at whose front an item stands
pub record Fronts (host : HostState) (socket : Socket) (item : Item) : Type 0 where
  pub found : find (is_socket socket.number) host.sockets ≡ Some socket
  pub stands : is_open socket.stage ≡ true
  pub front : (reading socket.expected socket.since).0 ≡ Whole item

one_item : (host : HostState) (socket : Socket) (item : Item) → Fronts host socket item → (known : Socket) (read : List Item) (next : Expected) (left : List ℕ) → find (is_socket socket.number) host.sockets ≡ Some known → length read ≡ 1 → AreRead known.expected known.since read next left → read ≡ item ∷ []
one_item host socket item f known [] next left found many front = absurd cc
one_item host socket item f known (one ∷ two ∷ more) next left found many front = absurd cc
one_item host socket item f known (one ∷ []) next left found many front =
    let same : ◌≡◌ {A = Option Socket} (Some socket) (Some known) = sym f.found ∙ found in
    let whole : Whole item ≡ Whole one = sym f.front ∙ ap (λ (w : Socket). (reading w.expected w.since).0) (socket_is same) ∙ front.0 in
    ap (λ (i : Item). i ∷ []) (sym (item_is whole))
  where
    socket_is : ◌≡◌ {A = Option Socket} (Some socket) (Some known) → socket ≡ known
    socket_is e = cc

    item_is : Whole item ≡ Whole one → item ≡ one
    item_is e = cc

-- the item is read, and then that is done; and either the item is no frame, or its ids go on
half_reads : (own : ℕ → Address) (host after : HostState) (link : Link) (socket : Socket) (item : Item) (told : List Step) → link_with host link.end link.peer ≡ link → Fronts host socket item → (h : Half own (due_at host) host.links link told after) → Creates socket.number link h.two (frames_in (item ∷ [])) → Turn own host link.end link.peer (steps.Read socket.number ∷ told) after
half_reads own host after link socket item told is f h here = turned_reading own host after link.end link.peer (steps.Read socket.number ∷ told) link h.two socket.number item is h.stores h.holds h.said h.spelled h.kind h.gives (λ n e. number_is socket.number n e)
    (record { count = λ n. ap (λ (k : ℕ). cond (socket.number == n) (suc k) k) (h.reads n); first = one_item host socket item f; here = here; there = λ n e. h.creates n }) h.alone

abbrev AllRead : (ℕ → Address) → HostState → ℕ → Stepped → Type 0
AllRead own host sock done = AllTurned own host (after_steps (steps.Read sock ∷ []) done)

half_all : (own : ℕ → Address) (host : HostState) (link : Link) (socket : Socket) (item : Item) (done : Stepped) → link_with host link.end link.peer ≡ link → Fronts host socket item → frames_in (item ∷ []) ≡ [] → AllHalf own (due_at host) host.links link done → AllRead own host socket.number done
half_all own host link socket item (Ok done) is f none h = (link.end, link.peer, half_reads own host done.1 link socket item done.0 is f h (subst (λ (l : List Frame). Creates socket.number link h.two l) (sym none) (h.creates socket.number)))
half_all own host link socket item (Err stop) is f none h = tt

-- ---- a socket that is gone

pub gone : (own : ℕ → Address) (host : HostState) (socket : Socket) → IsOrderly own host → HostHolds host → AllTurned own host (is_gone socket host)
gone own host socket o holds = by_user socket.user where
  nobody : Address
  nobody = record { host = []; port = 0; id = 0 }

  by_done : (link : Link) (done : Stepped) → IsOwn host link → AllHalf own (due_at host) host.links link done → AllTurned own host done
  by_done link (Ok done) l h = (link.end, link.peer, half_turn own host done.1 link done.0 l.is h)
  by_done link (Err stop) l h = tt

  by_names : (link : Link) → IsOwn host link → (b : Bool) → AllTurned own host (cond b (hears inputs.Gone link host) (leaves socket.number host))
  by_names link l true = by_done link (hears inputs.Gone link host) l (heard own (due_at host) inputs.Gone link host (well host link l) tt)
  by_names link l false = (link.end, link.peer, half_turn own host (end_socket socket.number host) link (steps.Left socket.number ∷ []) l.is (left own host host socket.number link refl l))

  by_user : (o : Option (ℕ × Address)) → AllTurned own host (elim o as (λ x. Stepped) [
    | None ↦ leaves socket.number host
    | Some user ↦ gone_from socket.number (link_with host user.0 user.1) host
  ])
  by_user None = let l = link_with_own own host 0 nobody o holds in ((link_with host 0 nobody).end, (link_with host 0 nobody).peer, half_turn own host (end_socket socket.number host) (link_with host 0 nobody) (steps.Left socket.number ∷ []) l.is (left own host host socket.number (link_with host 0 nobody) refl l))
  by_user (Some user) = by_names (link_with host user.0 user.1) (link_with_own own host user.0 user.1 o holds) (names (link_with host user.0 user.1).state socket.number)

-- ---- what is due

due_here : (host : HostState) (socket : Socket) → find (is_socket socket.number) host.sockets ≡ Some socket → is_open socket.stage ≡ true → due_at host socket.number ≡ Some (due_open socket.expected)
due_here host socket found stands = ap due_of found ∙ by_stage socket.stage stands where
  by_stage : (stage : Stage) → is_open stage ≡ true → due_staged stage socket ≡ Some (due_open socket.expected)
  by_stage Open e = refl
  by_stage Pending e = absurd cc
  by_stage Ended e = absurd cc

not_over : (stage : Stage) → is_open stage ≡ true → is_ended stage ≡ false
not_over Open e = refl
not_over Pending e = absurd cc
not_over Ended e = absurd cc

-- the socket from which an item was taken
abbrev taken_of : Socket → List ℕ → Socket
taken_of socket rest = record socket { since = rest; expected = expected.Frame }

-- ---- a request

requested : (own : ℕ → Address) (host : HostState) (socket : Socket) (rest : List ℕ) (request : Request) → IsOrderly own host → HostHolds host → Fronts host socket (items.Request request) → socket.expected ≡ expected.Request
    → AllRead own host socket.number (reads_request (taken_of socket rest) request (with_socket (taken_of socket rest) host))
requested own host socket rest request o holds f e = by_answer (refusal_of mid (taken_of socket rest) request.target request.from) where
  mid : HostState
  mid = with_socket (taken_of socket rest) host

  link : Link
  link = link_with host request.target request.from

  l : IsOwn host link
  l = link_with_own own host request.target request.from o holds

  answering : due_at host socket.number ≡ Some Answering
  answering = due_here host socket f.found f.stands ∙ ap (λ (x : Expected). Some (due_open x)) e

  no_frames : (answer : Answer) (b : Bool) → frames_in (cond b (items.Answer answer ∷ []) []) ≡ []
  no_frames answer true = refl
  no_frames answer false = refl

  refused : (answer : Answer) → Half own (due_at host) host.links link (steps.Write socket.number (answer_spelling answer) None ∷ steps.Left socket.number ∷ []) (end_socket socket.number mid)
  refused answer = unheard own (due_at host) host.links link (steps.Write socket.number (answer_spelling answer) None ∷ steps.Left socket.number ∷ []) (end_socket socket.number mid) (well host link l) (unstored_over host mid socket.number link refl l)
      (only_at socket.number (items.Answer answer ∷ [])) (λ n. only_spelled socket.number n (items.Answer answer ∷ []))
      (only_kind own (due_at host) socket.number (items.Answer answer ∷ []) (λ n h. number_is socket.number n h) (subst (λ (d : Option Due). IsKind own d (items.Answer answer ∷ [])) (sym answering) (tt, tt)))
      (λ n. no_frames answer (socket.number == n)) (λ n. refl) tt

  by_answer : (answer : Option Answer) → AllRead own host socket.number (elim answer as (λ x. Stepped) [
    | Some answer ↦ answers_and_leaves socket.number answer mid
    | None ↦ asks_link (taken_of socket rest) request.target request.from mid
  ])
  by_answer (Some answer) = half_all own host link socket (items.Request request) (answers_and_leaves socket.number answer mid) l.is f refl (refused answer)
  by_answer None = half_all own host link socket (items.Request request) (asks_link (taken_of socket rest) request.target request.from mid) l.is f refl
      (heard own (due_at host) (inputs.Asked socket.number) link (with_socket (record (taken_of socket rest) { user = Some (request.target, request.from) }) mid) (well host link l) answering)

-- ---- an answer

answered : (own : ℕ → Address) (host : HostState) (socket : Socket) (rest : List ℕ) (user : ℕ × Address) (answer : Answer) → IsNaming host → IsOrderly own host → HostHolds host → Fronts host socket (items.Answer answer) → socket.expected ≡ expected.Answer → socket.user ≡ Some user
    → AllRead own host socket.number (reads_on (taken_of socket rest) (link_with host user.0 user.1) (items.Answer answer) (with_socket (taken_of socket rest) host))
answered own host socket rest user answer s o holds f e u = half_all own host link socket (items.Answer answer) (reads_on (taken_of socket rest) link (items.Answer answer) mid) l.is f refl (heard own (due_at host) (inputs.Answered (heard_answer answer)) link mid (well host link l) may) where
  mid : HostState
  mid = with_socket (taken_of socket rest) host

  link : Link
  link = link_with host user.0 user.1

  l : IsOwn host link
  l = link_with_own own host user.0 user.1 o holds

  dialed : ((link.state ≡ states.Dialing socket.number) × IsDialedBy user.0 user.1 socket) ⊎ ((probed : Bool) × (link.state ≡ states.Up socket.number probed) × IsUpFor user.0 user.1 socket) → link.state ≡ states.Dialing socket.number
  dialed (inl d) = d.0
  dialed (inr up) = let no : expected.Answer ≡ expected.Frame = sym e ∙ up.2.expects in absurd cc

  may : (sock : ℕ) → link.state ≡ states.Dialing sock → due_at host sock ≡ Some Framing
  may sock is =
      let both : states.Dialing socket.number ≡ states.Dialing sock = sym (dialed (used host user.0 user.1 socket.number socket s f.found u (not_over socket.stage f.stands))) ∙ is in
      let same : socket.number ≡ sock = cc in
      ap (due_at host) (sym same) ∙ due_here host socket f.found f.stands ∙ ap (λ (x : Expected). Some (due_open x)) e

-- ---- a frame

-- the link is down after
abbrev AllFall : (ℕ → Address) → (ℕ → Option Due) → List Link → Link → Stepped → Type 0
AllFall own due links link (Ok done) = (h : Half own due links link done.0 done.1) × IsDown h.two
AllFall own due links link (Err stop) = Unit {0}

fall_in : (own : ℕ → Address) (due : ℕ → Option Due) (host : HostState) (link : Link) (sock : ℕ) (probed greater : Bool) (state : LinkState) → state ≡ states.Up sock probed
    → AllFall own due host.links link (does_act (step_of state inputs.Gone greater).1 state inputs.Gone (record link { state = (step_of state inputs.Gone greater).0 }) (with_link (record link { state = (step_of state inputs.Gone greater).0 }) host))
unfolding step_of
fall_in own due host link sock probed greater state is = subst (λ (x : LinkState). AllFall own due host.links link (does_act (step_of x inputs.Gone greater).1 x inputs.Gone (record link { state = (step_of x inputs.Gone greater).0 }) (with_link (record link { state = (step_of x inputs.Gone greater).0 }) host))) (sym is)
    (fails_down own due host link _ sock (λ n. refl) (λ n. refl) tt)

closing_in : (own : ℕ → Address) (due : ℕ → Option Due) (host : HostState) (link : Link) (sock : ℕ) (probed greater : Bool) (state : LinkState) → state ≡ states.Up sock probed
    → AllFall own due host.links link (does_act (step_of state inputs.EndClosed greater).1 state inputs.EndClosed (record link { state = (step_of state inputs.EndClosed greater).0 }) (with_link (record link { state = (step_of state inputs.EndClosed greater).0 }) host))
unfolding step_of
closing_in own due host link sock probed greater state is = subst (λ (x : LinkState). AllFall own due host.links link (does_act (step_of x inputs.EndClosed greater).1 x inputs.EndClosed (record link { state = (step_of x inputs.EndClosed greater).0 }) (with_link (record link { state = (step_of x inputs.EndClosed greater).0 }) host))) (sym is)
    (fails_down own due host link _ sock (λ n. refl) (λ n. refl) tt)

-- a frame of a socket that its link is up on
record Framed (own : ℕ → Address) (host : HostState) (socket : Socket) (frame : Frame) (link : Link) : Type 0 where
  own_link : IsOwn host link
  fronts : Fronts host socket (items.Frame frame)
  probed : Bool
  up : link.state ≡ states.Up socket.number probed

is_here : (own : ℕ → Address) (host : HostState) (socket : Socket) (frame : Frame) (link : Link) → Framed own host socket frame link → is_up_at socket.number link.state ≡ true
is_here own host socket frame link f = ap (is_up_at socket.number) f.up ∙ number_self socket.number

fall_read : (own : ℕ → Address) (host : HostState) (socket : Socket) (frame : Frame) (link : Link) (done : Stepped) → Framed own host socket frame link → AllFall own (due_at host) host.links link done → AllRead own host socket.number done
fall_read own host socket frame link (Ok done) f h = (
  link.end,
  link.peer,
  half_reads own host done.1 link socket (items.Frame frame) done.0 f.own_link.is f.fronts h.0
      (record { up = λ k. clash (sym k ∙ h.1 socket.number); not = λ k. clash (sym (is_here own host socket frame link f) ∙ k) }),
)
fall_read own host socket frame link (Err stop) f h = tt

-- the socket is gone, of which the frame was read
gone_read : (own : ℕ → Address) (host : HostState) (socket : Socket) (rest : List ℕ) (frame : Frame) (user : ℕ × Address) → Framed own host socket frame (link_with host user.0 user.1) → socket.user ≡ Some user → AllRead own host socket.number (is_gone (taken_of socket rest) (with_socket (taken_of socket rest) host))
gone_read own host socket rest frame user f u = by_user socket.user u where
  mid : HostState
  mid = with_socket (taken_of socket rest) host

  link : Link
  link = link_with host user.0 user.1

  by_names : (b : Bool) → b ≡ true → AllRead own host socket.number (cond b (hears inputs.Gone link mid) (leaves socket.number mid))
  by_names false e = clash (sym e)
  by_names true e = fall_read own host socket frame link (hears inputs.Gone link mid) f (fall_in own (due_at host) mid link socket.number f.probed _ link.state f.up)

  by_user : (o : Option (ℕ × Address)) → o ≡ Some user → AllRead own host socket.number (elim o as (λ o. Stepped) [
    | None ↦ leaves socket.number mid
    | Some user ↦ gone_from socket.number (link_with mid user.0 user.1) mid
  ])
  by_user None e = absurd cc
  by_user (Some one) e = let is : one ≡ user = cc in subst (λ (w : ℕ × Address). AllRead own host socket.number (gone_from socket.number (link_with mid w.0 w.1) mid)) (sym is) (by_names (names link.state socket.number) (ap (λ (x : LinkState). names x socket.number) f.up ∙ number_self socket.number))

-- the frame is taken, and its ids go on
took : (own : ℕ → Address) (host after : HostState) (socket : Socket) (frame : Frame) (link : Link) (created : List Connection) (end : ℕ) (event : Event) → Framed own host socket frame link → frame_on frame (table_of link.created) ≡ Some (table_of created) → Stores host.links after.links link.end link.peer (record link { created = created })
    → Turn own host link.end link.peer (steps.Read socket.number ∷ steps.Post end event ∷ []) after
took own host after socket frame link created end event f fits s = turned_reading own host after link.end link.peer (steps.Read socket.number ∷ steps.Post end event ∷ []) link two socket.number (items.Frame frame) f.own_link.is s holds (λ n. []) (λ n. refl) (λ n. none_kind own (due_at host n)) gives (λ n e. number_is socket.number n e)
    (record { count = λ n. refl; first = one_item host socket (items.Frame frame) f.fronts; here = here; there = there }) tt
  where
    two : Link
    two = record link { created = created }

    up : is_up link.state ≡ true
    up = ap is_up f.up

    holds : LinkHolds two
    holds = record { payloads = f.own_link.holds.payloads; up = f.own_link.holds.up; gives = f.own_link.holds.gives; created = λ h. clash (sym up ∙ h) }

    gives : (n : ℕ) → Gives n link two []
    gives n = record { up = λ h. ap (λ b. Some (cond b (table_of link.given) [])) h; not = λ h. refl }

    here : Creates socket.number link two (frame ∷ [])
    here = record { up = λ h. ap (λ b. frames_on (frame ∷ []) (cond b (table_of link.created) [])) h ∙ one_frame frame (table_of link.created) (table_of created) fits; not = λ h. clash (sym (is_here own host socket frame link f) ∙ h) }

    there : (n : ℕ) → (socket.number == n) ≡ false → Creates n link two []
    there n e = record { up = λ h. clash (sym h ∙ ap (is_up_at n) f.up ∙ e); not = λ h. refl }

arrival_links : (end : ℕ) (host : HostState) → (with_arrival end host).links ≡ host.links
arrival_links end host = by_endpoint (find (is_endpoint end) host.ends) where
  by_endpoint : (o : Option Endpoint) → (elim o as (λ o. HostState) [
    | None ↦ host
    | Some endpoint ↦ with_endpoint (record endpoint { arrived = endpoint.arrived + 1 }) host
  ]).links ≡ host.links
  by_endpoint None = refl
  by_endpoint (Some endpoint) = refl

framed : (own : ℕ → Address) (host : HostState) (socket : Socket) (rest : List ℕ) (frame : Frame) (user : ℕ × Address) → Framed own host socket frame (link_with host user.0 user.1) → socket.user ≡ Some user
    → AllRead own host socket.number (reads_frame (taken_of socket rest) (link_with host user.0 user.1) frame (with_socket (taken_of socket rest) host))
framed own host socket rest (frames.Created id) user f u = by_created (created_of link.created id number) refl where
  mid : HostState
  mid = with_socket (taken_of socket rest) host

  link : Link
  link = link_with host user.0 user.1

  number : ℕ
  number = next_arrival mid link.end

  by_test : (created : List Connection) → created_of link.created id number ≡ Ok created → (b : Bool) → AllRead own host socket.number (cond b (posts link.end (events.ConnectionOpened number link.peer) (with_arrival link.end (with_link (record link { created = created }) mid))) (Err stops.Worn))
  by_test created e true = (
    link.end,
    link.peer,
    took own host _ socket (frames.Created id) link created link.end (events.ConnectionOpened number link.peer) f (created_fits link.created created id number e)
        (subst (λ (l : List Link). Stores host.links l link.end link.peer (record link { created = created })) (sym (arrival_links link.end (with_link (record link { created = created }) mid))) (stored host.links (record link { created = created }))),
  )
  by_test created e false = tt

  by_created : (r : Result (List Connection) LightError) → created_of link.created id number ≡ r → AllRead own host socket.number (arrives (taken_of socket rest) link r mid)
  by_created (Err x) e = gone_read own host socket rest (frames.Created id) user f u
  by_created (Ok created) e = by_test created e (nat_lt (arrived_at mid link.end) most_arrived)
framed own host socket rest (frames.Closed id) user f u = by_closed (closed_of link.created id) refl where
  mid : HostState
  mid = with_socket (taken_of socket rest) host

  link : Link
  link = link_with host user.0 user.1

  by_closed : (r : Result (ℕ × List Connection) LightError) → closed_of link.created id ≡ r → AllRead own host socket.number (closes (taken_of socket rest) link r mid)
  by_closed (Err x) e = gone_read own host socket rest (frames.Closed id) user f u
  by_closed (Ok done) e = (link.end, link.peer, took own host (with_link (record link { created = done.1 }) mid) socket (frames.Closed id) link done.1 link.end (events.ConnectionClosed done.0) f (closed_fits link.created id done e) (stored host.links (record link { created = done.1 })))
framed own host socket rest (frames.Data id payload) user f u = by_conn (conn_of link.created id) refl where
  mid : HostState
  mid = with_socket (taken_of socket rest) host

  link : Link
  link = link_with host user.0 user.1

  by_conn : (r : Result ℕ LightError) → conn_of link.created id ≡ r → AllRead own host socket.number (receives (taken_of socket rest) link payload r mid)
  by_conn (Err x) e = gone_read own host socket rest (frames.Data id payload) user f u
  by_conn (Ok conn) e = (link.end, link.peer, took own host mid socket (frames.Data id payload) link link.created link.end (events.Received conn payload) f (payload_fits link.created id conn payload e) (unstored host link f.own_link))
framed own host socket rest frames.EndClosed user f u = fall_read own host socket frames.EndClosed (link_with host user.0 user.1) _ f (closing_in own (due_at host) (with_socket (taken_of socket rest) host) (link_with host user.0 user.1) socket.number f.probed _ (link_with host user.0 user.1).state f.up)
framed own host socket rest frames.Probe user f u = by_done (hears inputs.Probe link mid) (heard own (due_at host) inputs.Probe link mid (well host link f.own_link) tt) where
  mid : HostState
  mid = with_socket (taken_of socket rest) host

  link : Link
  link = link_with host user.0 user.1

  by_done : (done : Stepped) → AllHalf own (due_at host) host.links link done → AllRead own host socket.number done
  by_done (Ok done) h = (link.end, link.peer, half_reads own host done.1 link socket (items.Frame frames.Probe) done.0 f.own_link.is f.fronts h (record { up = (h.creates socket.number).up; not = λ k. clash (sym (is_here own host socket frames.Probe link f) ∙ k) }))
  by_done (Err stop) h = tt
framed own host socket rest frames.ProbeAck user f u = by_done (hears inputs.Ack link mid) (heard own (due_at host) inputs.Ack link mid (well host link f.own_link) tt) where
  mid : HostState
  mid = with_socket (taken_of socket rest) host

  link : Link
  link = link_with host user.0 user.1

  by_done : (done : Stepped) → AllHalf own (due_at host) host.links link done → AllRead own host socket.number done
  by_done (Ok done) h = (link.end, link.peer, half_reads own host done.1 link socket (items.Frame frames.ProbeAck) done.0 f.own_link.is f.fronts h (record { up = (h.creates socket.number).up; not = λ k. clash (sym (is_here own host socket frames.ProbeAck link f) ∙ k) }))
  by_done (Err stop) h = tt

-- ---- any item

asks_is : (e : Expected) (request : Request) → Matches e (items.Request request) → e ≡ expected.Request
asks_is expected.Request request m = refl
asks_is expected.Answer request m = absurd m
asks_is expected.Frame request m = absurd m

answers_is : (e : Expected) (answer : Answer) → Matches e (items.Answer answer) → e ≡ expected.Answer
answers_is expected.Request answer m = absurd m
answers_is expected.Answer answer m = refl
answers_is expected.Frame answer m = absurd m

frames_is : (e : Expected) (frame : Frame) → Matches e (items.Frame frame) → e ≡ expected.Frame
frames_is expected.Request frame m = absurd m
frames_is expected.Answer frame m = absurd m
frames_is expected.Frame frame m = refl

not_request : (e : Expected) → (e ≡ expected.Answer) ⊎ (e ≡ expected.Frame) → e ≡ expected.Request → ⊥
not_request e (inl a) r = let no : expected.Answer ≡ expected.Request = sym a ∙ r in absurd cc
not_request e (inr a) r = let no : expected.Frame ≡ expected.Request = sym a ∙ r in absurd cc

taken : (own : ℕ → Address) (host : HostState) (socket : Socket) (rest : List ℕ) (item : Item) → IsNaming host → IsOrderly own host → HostHolds host → Fronts host socket item → AllTurned own host (takes (taken_of socket rest) item host)
taken own host socket rest item s o holds f = by_item item f matches where
  mid : HostState
  mid = with_socket (taken_of socket rest) host

  matches : Matches socket.expected item
  matches = subst (FrontMatches socket.expected) f.front (reading_matches socket.expected socket.since)

  up : (frame : Frame) (user : ℕ × Address) → Fronts host socket (items.Frame frame) → socket.expected ≡ expected.Frame → (((link_with host user.0 user.1).state ≡ states.Dialing socket.number) × IsDialedBy user.0 user.1 socket) ⊎ ((probed : Bool) × ((link_with host user.0 user.1).state ≡ states.Up socket.number probed) × IsUpFor user.0 user.1 socket)
      → Framed own host socket frame (link_with host user.0 user.1)
  up frame user f e (inl d) = let no : expected.Frame ≡ expected.Answer = sym e ∙ d.1.expects in absurd cc
  up frame user f e (inr u) = record { own_link = link_with_own own host user.0 user.1 o holds; fronts = f; probed = u.0; up = u.1 }

  by_user : (item : Item) → ((e : Expected) → Matches e item → (e ≡ expected.Answer) ⊎ (e ≡ expected.Frame)) → Matches socket.expected item → ((user : ℕ × Address) → socket.user ≡ Some user → AllRead own host socket.number (reads_on (taken_of socket rest) (link_with host user.0 user.1) item mid)) → (w : Option (ℕ × Address)) → socket.user ≡ w
      → AllRead own host socket.number (elim w as (λ w. Stepped) [
        | None ↦ still mid
        | Some user ↦ reads_on (taken_of socket rest) (link_with mid user.0 user.1) item mid
      ])
  by_user item kind m each None u = absurd (not_request socket.expected (kind socket.expected m) (unused host socket.number socket s f.found u (not_over socket.stage f.stands)).expects)
  by_user item kind m each (Some user) u = each user u

  by_item : (item : Item) → Fronts host socket item → Matches socket.expected item → AllRead own host socket.number (reads (taken_of socket rest) item mid)
  by_item (items.Request request) f m = requested own host socket rest request o holds f (asks_is socket.expected request m)
  by_item (items.Answer answer) f m = by_user (items.Answer answer) (λ e k. inl (answers_is e answer k)) m (λ user u. answered own host socket rest user answer s o holds f (answers_is socket.expected answer m) u) socket.user refl
  by_item (items.Frame frame) f m = by_user (items.Frame frame) (λ e k. inr (frames_is e frame k)) m (λ user u. framed own host socket rest frame user (up frame user f (frames_is socket.expected frame m) (used host user.0 user.1 socket.number socket s f.found u (not_over socket.stage f.stands))) u) socket.user refl

handled : (own : ℕ → Address) (host : HostState) (socket : Socket) → IsNaming host → IsOrderly own host → HostHolds host → find (is_socket socket.number) host.sockets ≡ Some socket → is_open socket.stage ≡ true → is_ready_front (front_of socket).0 ≡ true → AllTurned own host (handles socket (front_of socket) host)
handled own host socket s o holds found stands ready = by_front (front_of socket).0 refl ready where
  by_front : (x : Front) → (front_of socket).0 ≡ x → is_ready_front x ≡ true → AllTurned own host (elim x as (λ x. Stepped) [
    | Unfinished ↦ still host
    | Refused error ↦ is_gone socket host
    | Whole item ↦ takes (taken_of socket (drop (front_of socket).1 socket.since)) item host
  ])
  by_front Unfinished e r = clash (sym r)
  by_front (Refused error) e r = gone own host socket o holds
  by_front (Whole item) e r = taken own host socket (drop (front_of socket).1 socket.since) item s o holds (record { found = found; stands = stands; front = e })

-- an item that a host reads
pub next_turned : (own : ℕ → Address) (host after : HostState) (told : List Step) → IsNaming host → IsOrderly own host → HostHolds host → host_next host ≡ Ok (Some told, after) → (end : ℕ) × (peer : Address) × Turn own host end peer told after
unfolding host_next
next_turned own host after told s o holds e = by_first (first_ready host.sockets) refl e where
  some_in : Result (Option (List Step) × HostState) Stop → Option (List Step)
  some_in (Ok next) = next.0
  some_in (Err stop) = None

  steps_in : Result (Option (List Step) × HostState) Stop → List Step
  steps_in (Ok next) = elim next.0 [
    | None ↦ []
    | Some steps ↦ steps
  ]
  steps_in (Err stop) = []

  host_in : Result (Option (List Step) × HostState) Stop → HostState
  host_in (Ok next) = next.1
  host_in (Err stop) = host

  by_done : (one : Stepped) → AllTurned own host one → some_steps one ≡ Ok (Some told, after) → (end : ℕ) × (peer : Address) × Turn own host end peer told after
  by_done (Ok one) t e =
      let same_host : one.1 ≡ after = ap host_in e in
      let same_steps : one.0 ≡ told = ap steps_in e in
      subst (λ (h : HostState). (end : ℕ) × (peer : Address) × Turn own host end peer told h) same_host (subst (λ (l : List Step). (end : ℕ) × (peer : Address) × Turn own host end peer l one.1) same_steps t)
  by_done (Err stop) t e = absurd cc

  by_first : (x : Option Socket) → first_ready host.sockets ≡ x → (elim x as (λ x. Result (Option (List Step) × HostState) Stop) [
    | None ↦ Ok (None, host)
    | Some socket ↦ some_steps (handles socket (front_of socket) host)
  ]) ≡ Ok (Some told, after) → (end : ℕ) × (peer : Address) × Turn own host end peer told after
  by_first None f e = let never : None ≡ Some told = ap some_in e in absurd cc
  by_first (Some socket) f e =
      let at = served host.sockets socket o.sound.apart f in
      let both = and_parts (is_open socket.stage) (is_ready_front (front_of socket).0) at.ready in
      by_done (handles socket (front_of socket) host) (handled own host socket s o holds at.found both.0 both.1) e
