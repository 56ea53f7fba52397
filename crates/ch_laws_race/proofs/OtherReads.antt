-- What a host makes of an item on a socket of others shows nothing of two nodes.
use Rattle.std.specs.Prelude.{◌≡◌, ℕ, Bool, true, false, cond, nat_lt, ◌==◌, List, [], ◌∷◌, ◌++◌, drop, find, map, slice_get, Option, Some, None, Result, Ok, Err, if◌then◌else◌}
use Rattle.std.proofs.Common.{refl, ap, sym, ◌∙◌, subst}
use Rattle.std.proofs.lemmas.Bool.{eqb-true}
use Rattle.ch_base.specs.declared.address.Address.{Address}
use Rattle.ch_base.specs.declared.event.Event.TheVariants as events
use Rattle.ch_base.specs.declared.event.Why.{Why}
use Rattle.ch_base.specs.declared.event.Why.TheVariants.{Disconnect, NodeDown}
use Rattle.ch_wire.specs.Spelling.{frame_spelling}
use Rattle.ch_wire.specs.declared.answer.Answer.{Answer}
use Rattle.ch_wire.specs.declared.answer.Answer.TheVariants as replies
use Rattle.ch_wire.specs.declared.frame.Frame.{Frame}
use Rattle.ch_wire.specs.declared.frame.Frame.TheVariants as frames
use Rattle.ch_light.specs.Ids.{created_of, conn_of, closed_of}
use Rattle.ch_light.specs.declared.Connection.{Connection}
use Rattle.ch_light.specs.declared.error.LightError.{LightError}
use Rattle.ch_link.specs.Sockets.{names}
use Rattle.ch_link.specs.Table.{step_of}
use Rattle.ch_link.specs.declared.LinkAnswer.{LinkAnswer}
use Rattle.ch_link.specs.declared.LinkAnswer.TheVariants as answers
use Rattle.ch_link.specs.declared.LinkState.{LinkState}
use Rattle.ch_link.specs.declared.LinkState.TheVariants.{Idle, Dialing, AwaitOther, Up}
use Rattle.ch_link.specs.declared.LinkIn.TheVariants as inputs
use Rattle.ch_model.specs.declared.name.End.{End}
use Rattle.ch_model.specs.declared.step.Step.{Step}
use Rattle.ch_model.specs.declared.step.Step.TheVariants as steps
use Rattle.ch_model.specs.declared.step.Weight.{Weight}
use Rattle.ch_model.specs.HostState.{Link, Socket, HostState}
use Rattle.ch_model.specs.HostSteps as host
use Rattle.ch_model.specs.HostSteps.{Stepped, ◌then◌, does, own_address, is_socket, is_link, link_with, with_link, with_socket}
use Rattle.ch_model.specs.HostWrites.{frame_step, ended_in, end_socket, writes, leaves, answers_and_leaves, forgotten, leaves_off}
use Rattle.ch_model.specs.HostLinks as links
use Rattle.ch_model.specs.HostLinks.{does_act, accepts_on, fails_with}
use Rattle.ch_model.specs.HostItems.{most_arrived, posts, gone_from, is_gone, heard_answer, arrived_at, with_arrival, next_arrival, arrives, closes, receives, reads_frame, reads_on, reads, reads_request, refusal_of, asks_link}
use Rattle.ch_base.specs.declared.memory.Stop.TheVariants as stops
use Rattle.ch_reader.specs.declared.item.Item.{Item}
use Rattle.ch_reader.specs.declared.item.Item.TheVariants as items
use Rattle.ch_model.specs.Greater as addresses
use Rattle.ch_model.specs.Same.{is_between}
use Rattle.ch_model.specs.WorldState.{Cell, WorldSocket, World}
use Rattle.ch_model.specs.WorldSockets.{end_of, is_end_of, find_end}
use Rattle.ch_race.specs.Pair.{Side, Lesser, Greater, other}
use Rattle.ch_laws_race.specs.Scene.{Scene, hosts_of}
use Rattle.ch_laws_race.specs.Others.{IsElsewhere, StepsElsewhere, AreElsewhere, KeepsPair, IsUnseen, IsFree, ReadsElsewhere}
use Rattle.ch_laws_race.proofs.Others.{shows_step, free_found, same_view}
use Rattle.ch_wire.specs.declared.request.Request.{Request}
use Rattle.ch_reader.specs.declared.item.Expected.TheVariants as expected
use Rattle.ch_reader.specs.declared.item.Front.{Front}
use Rattle.ch_reader.specs.declared.item.Front.TheVariants.{Unfinished, Whole, Refused}
use Rattle.ch_model.specs.Host.{front_of, handles}
use Rattle.ch_model.specs.WorldSteps.{stepped}
use Rattle.ch_model.specs.WorldHappenings.{with_cell}
use Rattle.ch_laws_race.proofs.Keys.{link_named, other_key, other_socket}
use Rattle.ch_laws_race.proofs.Sockets.{by_test, given}
use Rattle.ch_laws_race.proofs.Views.{self_number, arrival_ends, arrival_links, arrival_sockets}

clash : {A : Type 0} → true ≡ false → A
clash h = absurd (no h) where
  no : true ≡ false → ⊥
  no h = cc

pub socket_numbered : (n : ℕ) (s : Socket) (xs : List Socket) → find (is_socket n) xs ≡ Some s → s.number ≡ n
socket_numbered n s [] h = absurd (no h) where
  no : ◌≡◌ {A = Option Socket} None (Some s) → ⊥
  no q = cc
socket_numbered n s (known ∷ rest) h = by_own (is_socket n known) refl h (socket_numbered n s rest) where
  by_own : (b : Bool) → is_socket n known ≡ b → cond b (Some known) (find (is_socket n) rest) ≡ Some s → (find (is_socket n) rest ≡ Some s → s.number ≡ n) → s.number ≡ n
  by_own true is q f = ap (λ (z : Socket). z.number) (sym (given known s q)) ∙ eqb-true known.number n is
  by_own false is q f = f q

module _ (scene : Scene) (place : ℕ) where
  abbrev Free : ℕ → Type 0
  Free m = IsFree scene place m

  -- a step at a socket of others, which isn't dialed
  abbrev pub FreeStep : Step → Type 0
  FreeStep (steps.Dial sock end peer) = ⊥
  FreeStep (steps.Read sock) = IsFree scene place sock
  FreeStep (steps.Write sock bytes said) = IsFree scene place sock
  FreeStep (steps.Up sock) = Unit {0}
  FreeStep (steps.Down sock) = IsFree scene place sock
  FreeStep (steps.Left sock) = IsFree scene place sock
  FreeStep (steps.Broke end peer why) = Unit {0}
  FreeStep (steps.Post end event) = Unit {0}

  abbrev pub AreFree : List Step → Type 0
  AreFree [] = Unit {0}
  AreFree (step ∷ rest) = FreeStep step × AreFree rest

  -- where a host goes on, its steps are at sockets of others, and it keeps what the two have of it
  abbrev pub Stays : Stepped → Type 0
  Stays (Ok d) = AreFree d.0 × KeepsPair scene place d.1
  Stays (Err stop) = Unit {0}

  abbrev Key : Link → Type 0
  Key l = (z : Side) → (scene.party z).place ≡ place → is_link (scene.party z).address.id (scene.party (other z)).address l ≡ false

  abbrev Named : LinkState → Type 0
  Named k = (m : ℕ) → names k m ≡ true → IsFree scene place m

  free_more : (a b : List Step) → AreFree a → AreFree b → AreFree (a ++ b)
  free_more [] b f g = g
  free_more (step ∷ a) b f g = (f.0, free_more a b f.1 g)

  then_stays : (a : Stepped) (f : HostState → Stepped) → Stays a → ((h : HostState) → KeepsPair scene place h → Stays (f h)) → Stays (a then f)
  then_stays (Ok d) f s k = after (f d.1) (k d.1 s.1) where
    after : (r : Stepped) → Stays r → Stays (host.after_steps d.0 r)
    after (Ok more) q = (free_more d.0 more.0 s.0 q.0, q.1)
    after (Err e) q = tt
  then_stays (Err e) f s k = tt

  keeps_link : (l : Link) (now : HostState) → Key l → KeepsPair scene place now → KeepsPair scene place (with_link l now)
  keeps_link l now key k = record {
    link = λ z q. ap (λ (y : Link). y.state) (other_key l now (scene.party z).address.id (scene.party (other z)).address (key z q)) ∙ k.link z q;
    ends = k.ends;
    records = k.records;
  }

  pub keeps_socket : (s : Socket) (now : HostState) → IsFree scene place s.number → KeepsPair scene place now → KeepsPair scene place (with_socket s now)
  keeps_socket s now free k = record {
    link = k.link;
    ends = k.ends;
    records = λ j u at own e m q. other_socket s m (differs j u at own e m q) now.sockets ∙ k.records j u at own e m q;
  } where
    differs : (j : ℕ) (u : WorldSocket) → slice_get scene.world.sockets j ≡ Some u → is_between (scene.party Lesser).name (scene.party Greater).name u.name ≡ true → (e : End) (m : ℕ) → is_end_of place m (end_of e u) ≡ true → (s.number == m) ≡ false
    differs j u at own e m q = by_test (s.number == m)
        (λ h. clash (sym q ∙ ap (λ (n : ℕ). is_end_of place n (end_of e u)) (sym (eqb-true s.number m h)) ∙ free j u at own e))
        (λ h. h)

  keeps_arrival : (end : ℕ) (now : HostState) → KeepsPair scene place now → KeepsPair scene place (with_arrival end now)
  keeps_arrival end now k = record {
    link = λ z q. ap (λ (l : Link). l.state) (arrival_links end (scene.party z).address.id (scene.party (other z)).address now) ∙ k.link z q;
    ends = λ z q. arrival_ends end (scene.party z).address.id now ∙ k.ends z q;
    records = λ j u at own e m q. arrival_sockets end now m ∙ k.records j u at own e m q;
  }

  keeps_ended : (n : ℕ) (now : HostState) → IsFree scene place n → KeepsPair scene place now → KeepsPair scene place (end_socket n now)
  keeps_ended n now free k = by_found (find (is_socket n) now.sockets) refl where
    by_found : (o : Option Socket) → find (is_socket n) now.sockets ≡ o → KeepsPair scene place (ended_in o now)
    by_found None is = k
    by_found (Some s) is = keeps_socket _ now (subst (λ (m : ℕ). IsFree scene place m) (sym (socket_numbered n s now.sockets is)) free) k

  flushed : (n : ℕ) (waits : List (Frame × Weight)) → IsFree scene place n → AreFree (map (frame_step n) waits)
  flushed n [] free = tt
  flushed n (wait ∷ rest) free = (free, flushed n rest free)

  pub leaves_stays : (n : ℕ) (h : HostState) → IsFree scene place n → KeepsPair scene place h → Stays (leaves n h)
  leaves_stays n h free k = ((free, tt), keeps_ended n h free k)

  crosses_stays : (n : ℕ) (a : Answer) (h : HostState) → IsFree scene place n → KeepsPair scene place h → Stays (answers_and_leaves n a h)
  crosses_stays n a h free k = ((free, (free, tt)), keeps_ended n h free k)

  accepts_stays : (n : ℕ) (l : Link) (h : HostState) → IsFree scene place n → Key l → KeepsPair scene place h → Stays (accepts_on n l h)
  accepts_stays n l h free key k = ((tt, (free, flushed n l.waits free)), keeps_link (record l { waits = [] }) h key k)

  fails_stays : (old : LinkState) (l : Link) (why : Why) (h : HostState) → Named old → Key l → KeepsPair scene place h → Stays (leaves_off old h then (λ left. fails_with l why (with_link (forgotten l l.state) left)))
  fails_stays (Up n probed) l why h named key k = let free = named n (self_number n) in ((free, (tt, (tt, tt))), keeps_link (forgotten l l.state) (end_socket n h) key (keeps_ended n h free k))
  fails_stays (Dialing n) l why h named key k = let free = named n (self_number n) in ((free, (tt, (tt, tt))), keeps_link (forgotten l l.state) (end_socket n h) key (keeps_ended n h free k))
  fails_stays Idle l why h named key k = ((tt, (tt, tt)), keeps_link (forgotten l l.state) h key k)
  fails_stays AwaitOther l why h named key k = ((tt, (tt, tt)), keeps_link (forgotten l l.state) h key k)

  -- ---- a link of others, in a state

  module _ (l : Link) (h : HostState) (key : Key l) (k : KeepsPair scene place h) where
    abbrev In : LinkState → Link
    In s = record l { state = s }

    in_state : (s : LinkState) → KeepsPair scene place (with_link (In s) h)
    in_state s = keeps_link (In s) h key k

    gone_in : (s : LinkState) → Named s → Stays (links.hears inputs.Gone (In s) h)
    unfolding step_of
    gone_in (Up n probed) named = fails_stays (Up n probed) (In Idle) Disconnect (with_link (In Idle) h) named key (in_state Idle)
    gone_in (Dialing n) named = fails_stays (Dialing n) (In Idle) Disconnect (with_link (In Idle) h) named key (in_state Idle)
    gone_in Idle named = (tt, in_state Idle)
    gone_in AwaitOther named = (tt, in_state AwaitOther)

    closed_in : (s : LinkState) → Named s → Stays (links.hears inputs.EndClosed (In s) h)
    unfolding step_of
    closed_in (Up n probed) named = fails_stays (Up n probed) (In Idle) NodeDown (with_link (In Idle) h) named key (in_state Idle)
    closed_in (Dialing n) named = (tt, in_state (Dialing n))
    closed_in Idle named = (tt, in_state Idle)
    closed_in AwaitOther named = (tt, in_state AwaitOther)

    probe_in : (s : LinkState) → Named s → Stays (links.hears inputs.Probe (In s) h)
    unfolding step_of
    probe_in (Up n probed) named = ((named n (self_number n), tt), in_state (Up n probed))
    probe_in (Dialing n) named = (tt, in_state (Dialing n))
    probe_in Idle named = (tt, in_state Idle)
    probe_in AwaitOther named = (tt, in_state AwaitOther)

    ack_in : (s : LinkState) → Named s → Stays (links.hears inputs.Ack (In s) h)
    unfolding step_of
    ack_in (Up n probed) named = (tt, in_state (Up n false))
    ack_in (Dialing n) named = (tt, in_state (Dialing n))
    ack_in Idle named = (tt, in_state Idle)
    ack_in AwaitOther named = (tt, in_state AwaitOther)

    -- a frame of others is read on a socket of theirs
    pub gone_stays : (s : Socket) → IsFree scene place s.number → Named l.state → Stays (gone_from s.number l h)
    gone_stays s free named = by (names l.state s.number) where
      by : (b : Bool) → Stays (if b then links.hears inputs.Gone l h else leaves s.number h)
      by true = gone_in l.state named
      by false = leaves_stays s.number h free k

    -- a request of others is heard
    abbrev By : LinkState → ℕ → Bool → Stepped
    By s n greater = let told = step_of s (inputs.Asked n) greater in does_act told.1 s (inputs.Asked n) (In told.0) (with_link (In told.0) h)

    asked_by : (s : LinkState) (n : ℕ) (greater : Bool) → Named s → IsFree scene place n → Stays (By s n greater)
    unfolding step_of
    asked_by Idle n greater named free = accepts_stays n (In (Up n false)) (with_link (In (Up n false)) h) free key (in_state (Up n false))
    asked_by AwaitOther n greater named free = accepts_stays n (In (Up n false)) (with_link (In (Up n false)) h) free key (in_state (Up n false))
    asked_by (Dialing d) n true named free = crosses_stays n replies.Crossed (with_link (In (Dialing d)) h) free (in_state (Dialing d))
    asked_by (Dialing d) n false named free = then_stays (leaves d (with_link (In (Up n false)) h)) (accepts_on n (In (Up n false))) (leaves_stays d (with_link (In (Up n false)) h) (named d (self_number d)) (in_state (Up n false)))
        (λ now q. accepts_stays n (In (Up n false)) now free key q)
    asked_by (Up u false) n greater named free = then_stays (answers_and_leaves n replies.Crossed (with_link (In (Up u true)) h)) (writes u (frame_spelling frames.Probe)) (crosses_stays n replies.Crossed (with_link (In (Up u true)) h) free (in_state (Up u true)))
        (λ now q. ((named u (self_number u), tt), q))
    asked_by (Up u true) n greater named free = crosses_stays n replies.Crossed (with_link (In (Up u true)) h) free (in_state (Up u true))

    asked_stays : (n : ℕ) → Named l.state → IsFree scene place n → Stays (links.hears (inputs.Asked n) l h)
    asked_stays n named free = asked_by l.state n (addresses.is_greater (own_address h l.end) l.peer) named free

    -- an answer is heard
    answered_in : (s : LinkState) (a : LinkAnswer) → Named s → Stays (links.hears (inputs.Answered a) (In s) h)
    unfolding step_of
    answered_in (Dialing d) answers.Accepted named = let free = named d (self_number d) in ((tt, flushed d l.waits free), keeps_link (record (In (Up d false)) { waits = [] }) (with_link (In (Up d false)) h) key (in_state (Up d false)))
    answered_in (Dialing d) answers.Crossed named = leaves_stays d (with_link (In AwaitOther) h) (named d (self_number d)) (in_state AwaitOther)
    answered_in (Dialing d) answers.Invalid named = fails_stays (Dialing d) (In Idle) NodeDown (with_link (In Idle) h) named key (in_state Idle)
    answered_in (Dialing d) answers.Mismatch named = fails_stays (Dialing d) (In Idle) Disconnect (with_link (In Idle) h) named key (in_state Idle)
    answered_in Idle a named = (tt, in_state Idle)
    answered_in AwaitOther a named = (tt, in_state AwaitOther)
    answered_in (Up u probed) a named = (tt, in_state (Up u probed))

    -- a frame is read on a socket of the link
    module _ (s : Socket) (free : IsFree scene place s.number) (named : Named l.state) (user : s.user ≡ Some (l.end, l.peer)) (own : link_with h l.end l.peer ≡ l) where
      lost : Stays (is_gone s h)
      lost = subst (λ (r : Stepped). Stays r) (sym (ap (λ (o : Option (ℕ × Address)). elim o as (λ o. Stepped) [ None ↦ leaves s.number h | Some u ↦ gone_from s.number (link_with h u.0 u.1) h ]) user ∙ ap (λ (y : Link). gone_from s.number y h) own)) (gone_stays s free named)

      arrives_stays : (r : Result (List Connection) LightError) → Stays (arrives s l r h)
      arrives_stays (Err e) = lost
      arrives_stays (Ok created) = by (nat_lt (arrived_at h l.end) most_arrived) where
        by : (b : Bool) → Stays (if b then posts l.end (events.ConnectionOpened (next_arrival h l.end) l.peer) (with_arrival l.end (with_link (record l { created = created }) h)) else Err stops.Worn)
        by true = ((tt, tt), keeps_arrival l.end (with_link (record l { created = created }) h) (keeps_link (record l { created = created }) h key k))
        by false = tt

      closes_stays : (r : Result (ℕ × List Connection) LightError) → Stays (closes s l r h)
      closes_stays (Err e) = lost
      closes_stays (Ok c) = ((tt, tt), keeps_link (record l { created = c.1 }) h key k)

      receives_stays : (payload : List ℕ) (r : Result ℕ LightError) → Stays (receives s l payload r h)
      receives_stays payload (Err e) = lost
      receives_stays payload (Ok conn) = ((tt, tt), k)

      frame_stays : (f : Frame) → Stays (reads_frame s l f h)
      frame_stays (frames.Created id) = arrives_stays (created_of l.created id (next_arrival h l.end))
      frame_stays (frames.Closed id) = closes_stays (closed_of l.created id)
      frame_stays (frames.Data id payload) = receives_stays payload (conn_of l.created id)
      frame_stays frames.EndClosed = closed_in l.state named
      frame_stays frames.Probe = probe_in l.state named
      frame_stays frames.ProbeAck = ack_in l.state named

      item_stays : (i : Item) → Stays (reads_on s l i h)
      item_stays (items.Request r) = (tt, k)
      item_stays (items.Answer a) = answered_in l.state (heard_answer a) named
      item_stays (items.Frame f) = frame_stays f

  -- what isn't refused was done, at sockets of others
  free_step : (c : Cell) (step : Step) (w : World) → FreeStep step → ((m : ℕ) → IsFree scene place m → IsElsewhere scene.party (find_end place m w.sockets)) → StepsElsewhere scene.party place c step w
  free_step c (steps.Dial sock end peer) w f g = absurd f
  free_step c (steps.Read sock) w f g = g sock f
  free_step c (steps.Write sock bytes said) w f g = g sock f
  free_step c (steps.Up sock) w f g = tt
  free_step c (steps.Down sock) w f g = g sock f
  free_step c (steps.Left sock) w f g = g sock f
  free_step c (steps.Broke end peer why) w f g = tt
  free_step c (steps.Post end event) w f g = tt

  pub free_steps : (c : Cell) (done : List Step) (w : World) → AreFree done → ((m : ℕ) → IsFree scene place m → IsElsewhere scene.party (find_end place m w.sockets)) → AreElsewhere scene.party place c done w
  free_steps c [] w f g = tt
  free_steps c (step ∷ rest) w f g = let here = free_step c step w f.0 g in
      (here, free_steps c rest (stepped place c step w).1 f.1 (λ m free. (shows_step scene.party place c step w here).third place m (g m free)))

  module _ (cell : Cell × ℕ) (s : Socket) (h : ReadsElsewhere scene place cell s) where
    abbrev Own : HostState
    Own = hosts_of scene.world place

    own_keeps : KeepsPair scene place Own
    own_keeps = record { link = λ z q. refl; ends = λ z q. refl; records = λ j u at own e m q. refl }

    unseen_of : (done : Stepped) (d : List Step × HostState) → Stays done → done ≡ Ok d → IsUnseen scene place cell (Ok d)
    unseen_of done d stays so = let both = subst (λ (r : Stepped). Stays r) so stays in record {
      steps = d.0;
      host = d.1;
      does = refl;
      same = same_view scene place cell d.0 d.1 h.there h.known
          (free_steps (record (cell.0) { host = d.1 }) d.0 (with_cell place (record (cell.0) { host = d.1 }, cell.1) scene.world) both.0
          (λ m free. free_found scene.party place m scene.world.sockets free)) both.1;
    }

    abbrev Taken : ℕ → Socket
    Taken count = record s { since = drop count s.since; expected = expected.Frame }

    taken : (count : ℕ) → KeepsPair scene place (with_socket (Taken count) Own)
    taken count = keeps_socket (Taken count) Own h.free own_keeps

    gone_user : (o : Option (ℕ × Address)) → s.user ≡ o → Stays (elim o as (λ o. Stepped) [ None ↦ leaves s.number Own | Some u ↦ gone_from s.number (link_with Own u.0 u.1) Own ])
    gone_user None is = leaves_stays s.number Own h.free own_keeps
    gone_user (Some u) is = let away = h.user u.0 u.1 is in gone_stays (link_with Own u.0 u.1) Own away.key own_keeps s h.free away.named

    other_user : (count : ℕ) (i : Item) (o : Option (ℕ × Address)) → s.user ≡ o
        → Stays (elim o as (λ o. Stepped) [ None ↦ host.still (with_socket (Taken count) Own) | Some u ↦ reads_on (Taken count) (link_with (with_socket (Taken count) Own) u.0 u.1) i (with_socket (Taken count) Own) ])
    other_user count i None is = (tt, taken count)
    other_user count i (Some u) is = let away = h.user u.0 u.1 is in let key = link_named Own u.0 u.1 in
        item_stays (link_with Own u.0 u.1) (with_socket (Taken count) Own) away.key (taken count) (Taken count) h.free away.named
        (is ∙ ap (λ (e : ℕ). Some (e, u.1)) (sym key.0) ∙ ap (λ (p : Address). Some ((link_with Own u.0 u.1).end, p)) (sym key.1))
        (ap (λ (e : ℕ). link_with Own e (link_with Own u.0 u.1).peer) key.0 ∙ ap (λ (p : Address). link_with Own u.0 p) key.1) i

    request_stays : (count : ℕ) (r : Request) → (front_of s).0 ≡ Whole (items.Request r) → Stays (reads_request (Taken count) r (with_socket (Taken count) Own))
    request_stays count r is = by (refusal_of (with_socket (Taken count) Own) (Taken count) r.target r.from) where
      by : (o : Option Answer) → Stays (elim o as (λ o. Stepped) [ Some answer ↦ answers_and_leaves s.number answer (with_socket (Taken count) Own) | None ↦ asks_link (Taken count) r.target r.from (with_socket (Taken count) Own) ])
      by (Some a) = crosses_stays s.number a (with_socket (Taken count) Own) h.free (taken count)
      by None = let away = h.request r is in asked_stays (link_with Own r.target r.from) (with_socket (record (Taken count) { user = Some (r.target, r.from) }) (with_socket (Taken count) Own)) away.key
          (keeps_socket (record (Taken count) { user = Some (r.target, r.from) }) (with_socket (Taken count) Own) h.free (taken count)) s.number away.named h.free

    whole_stays : (count : ℕ) (i : Item) → (front_of s).0 ≡ Whole i → Stays (reads (Taken count) i (with_socket (Taken count) Own))
    whole_stays count (items.Request r) is = request_stays count r is
    whole_stays count (items.Answer a) is = other_user count (items.Answer a) s.user refl
    whole_stays count (items.Frame f) is = other_user count (items.Frame f) s.user refl

    after_read : (r : Stepped) → Stays r → Stays (host.after_steps (steps.Read s.number ∷ []) r)
    after_read (Ok more) q = ((h.free, q.0), q.1)
    after_read (Err e) q = tt

    front_stays : (f : Front) (count : ℕ) → (front_of s).0 ≡ f → Stays (handles s (f, count) Own)
    front_stays Unfinished count is = (tt, own_keeps)
    front_stays (Refused e) count is = gone_user s.user refl
    front_stays (Whole i) count is = after_read (reads (Taken count) i (with_socket (Taken count) Own)) (whole_stays count i is)

    pub reads_elsewhere : (d : List Step × HostState) → handles s (front_of s) Own ≡ Ok d → IsUnseen scene place cell (Ok d)
    reads_elsewhere d so = unseen_of (handles s (front_of s) Own) d (front_stays (front_of s).0 (front_of s).1 refl) so
