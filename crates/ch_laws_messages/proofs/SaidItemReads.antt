-- What a host makes of its links as it reads an item, where none fails: no payload is put, and what waits is written where one comes up.
use Rattle.std.proofs.Common.{◌≡◌, ◌⊎◌, inl, inr, ℕ, ◌+◌, Bool, true, false, cond, List, [], ◌∷◌, drop, Ok, Err, refl, sym, ap, ◌∙◌, subst}
use Rattle.std.proofs.lemmas.Bool.{and_parts}
use Rattle.std.proofs.lemmas.List.{append-nil}
use Rattle.std.specs.Prelude.{find, Option, Some, None, Result, nat_lt}
use Rattle.ch_base.specs.declared.address.Address.{Address}
use Rattle.ch_base.specs.declared.event.Event.{Event}
use Rattle.ch_base.specs.declared.event.Event.TheVariants as events
use Rattle.ch_base.specs.declared.memory.Stop.{Stop}
use Rattle.ch_base.specs.declared.memory.Stop.TheVariants as stops
use Rattle.ch_wire.specs.Spelling.{answer_spelling}
use Rattle.ch_wire.specs.declared.answer.Answer.{Answer}
use Rattle.ch_wire.specs.declared.frame.Frame.{Frame}
use Rattle.ch_wire.specs.declared.frame.Frame.TheVariants as frames
use Rattle.ch_wire.specs.declared.request.Request.{Request}
use Rattle.ch_reader.specs.declared.item.Expected.{Expected}
use Rattle.ch_reader.specs.declared.item.Expected.TheVariants as expected
use Rattle.ch_reader.specs.declared.item.Front.{Front}
use Rattle.ch_reader.specs.declared.item.Front.TheVariants.{Unfinished, Whole, Refused}
use Rattle.ch_reader.specs.declared.item.Item.{Item}
use Rattle.ch_reader.specs.declared.item.Item.TheVariants as items
use Rattle.ch_light.specs.declared.Connection.{Connection}
use Rattle.ch_light.specs.declared.error.LightError.{LightError}
use Rattle.ch_light.specs.Ids.{created_of, conn_of, closed_of}
use Rattle.ch_link.specs.Sockets.{names}
use Rattle.ch_link.specs.declared.LinkIn.TheVariants as inputs
use Rattle.ch_link.specs.declared.LinkState.TheVariants as states
use Rattle.ch_model.specs.declared.step.Step.{Step}
use Rattle.ch_model.specs.declared.step.Step.TheVariants as steps
use Rattle.ch_model.specs.Host.{front_of, is_ready_front, first_ready, takes, handles, some_steps, host_next}
use Rattle.ch_model.specs.HostItems.{most_arrived, posts, gone_from, is_gone, refusal_of, asks_link, reads_request, heard_answer, arrived_at, with_arrival, next_arrival, arrives, closes, receives, reads_frame, reads_on, reads}
use Rattle.ch_model.specs.HostLinks.{hears}
use Rattle.ch_model.specs.HostState.{Endpoint, Link, Socket, HostState}
use Rattle.ch_model.specs.HostSteps.{Stepped, still, after_steps, is_endpoint, link_with, with_link, with_socket, with_endpoint, is_socket}
use Rattle.ch_model.specs.HostWrites.{is_up, answers_and_leaves, leaves, end_socket}
use Rattle.ch_model.specs.Stages.{Stage, Pending, Open, Ended, is_open, is_ended}
use Rattle.ch_laws_calls.proofs.FitsStores.{Stores, stored}
use Rattle.ch_laws_ids.specs.Runs.{pieces_at}
use Rattle.ch_laws_items.proofs.Next.{served}
use Rattle.ch_laws_links.specs.Naming.{IsNaming, IsDialedBy, IsUpFor}
use Rattle.ch_laws_links.proofs.Keys.{ended_rest, link_named}
use Rattle.ch_laws_links.proofs.Readings.{Matches, FrontMatches, reading_matches}
use Rattle.ch_laws_links.proofs.Says.{used, unused}
use Rattle.ch_laws_plain.specs.Talks.{HostIsPlain, MaySpell, IsUpThere}
use Rattle.ch_laws_plain.proofs.Heard.{IsWell}
use Rattle.ch_laws_writes.specs.Dues.{Due, Answering, Framing, due_of, due_staged, due_open, due_at}
use Rattle.ch_laws_writes.specs.Orderly.{IsOrderly, link_at}
use Rattle.ch_laws_writes.proofs.Ordered.{is_key, at_key}
use Rattle.ch_laws_peers.specs.Words.{Placed, words_in, waiting_as}
use Rattle.ch_laws_peers.specs.Says.{ArePlaced}
use Rattle.ch_laws_messages.specs.SaidGoes.{bare}
use Rattle.ch_laws_messages.specs.SaidPuts.{only_on}
use Rattle.ch_laws_messages.specs.SaidHeeds.{AreCalm, IsAnswer, FromDown, FromUp, Tells, AllTell, Heeds}
use Rattle.ch_laws_calls.specs.FitsTurns.{NoDials}
use Rattle.ch_laws_messages.proofs.SaidItemHosts.{one_answer, heard}
use Rattle.ch_laws_messages.proofs.SaidUtters.{one_key}
use Rattle.ch_laws_messages.proofs.GotHosts.{frames_is}

-- ---- links

-- a link of a host, which is well
record IsOwn (host : HostState) (link : Link) : Type 0 where
  is : link_with host link.end link.peer ≡ link
  well : IsWell (due_at host) link

own_link : (own : ℕ → Address) (host : HostState) (end : ℕ) (peer : Address) → IsOrderly own host → HostIsPlain host → IsOwn host (link_with host end peer)
own_link own host end peer o p = record { is = is; well = record { plain = p end peer; framed = (o.links end peer).spelled; up = (o.links end peer).up } } where
  is : link_with host (link_with host end peer).end (link_with host end peer).peer ≡ link_with host end peer
  is = ap (λ (n : ℕ). link_with host n (link_with host end peer).peer) (link_named host end peer).0 ∙ ap (link_with host end) (link_named host end peer).1

unstored : (host : HostState) (link : Link) → IsOwn host link → Stores host.links host.links link.end link.peer link
unstored host link l = record { now = l.is; others = λ e p h. refl }

unstored_over : (host mid : HostState) (sock : ℕ) (link : Link) → mid.links ≡ host.links → IsOwn host link → Stores host.links (end_socket sock mid).links link.end link.peer link
unstored_over host mid sock link same l = subst (λ (links : List Link). Stores host.links links link.end link.peer link) (sym ((ended_rest sock mid).0 ∙ same)) (unstored host link l)

-- a link that is in its state still, and keeps what waits: an answer is written, or nothing
stays_as : (due : ℕ → Option Due) (links : List Link) (link two : Link) (told : List Step) (after : HostState) → Stores links after.links link.end link.peer two → two.state ≡ link.state → two.waits ≡ link.waits → two.given ≡ link.given → ((n : ℕ) → (pieces_at n told ≡ []) ⊎ IsAnswer (due n) (pieces_at n told))
    → ((sock : ℕ) (probed : Bool) → link.state ≡ states.Up sock probed → due sock ≡ Some Framing) → NoDials told → Tells due links link told after
stays_as due links link two told after s state waits given written framing alone = record {
  two = two;
  stores = s;
  given = given;
  new = [];
  placed = tt;
  silent = refl;
  may = tt;
  up = λ sock probed is. ((probed, state ∙ is), waits, none_up sock (framing sock probed is) (written sock));
  down = λ off. inl (ap is_up state ∙ off, ap waiting_as waits ∙ sym (append-nil (waiting_as link.waits)));
  where_up = λ n. either n (written n);
  alone = alone;
} where
  none_up : (sock : ℕ) → due sock ≡ Some Framing → (pieces_at sock told ≡ []) ⊎ IsAnswer (due sock) (pieces_at sock told) → pieces_at sock told ≡ []
  none_up sock is (inl none) = none
  none_up sock is (inr a) = let no : ◌≡◌ {A = Option Due} (Some Framing) (Some Answering) = sym is ∙ a.0 in absurd cc

  either : (n : ℕ) → (pieces_at n told ≡ []) ⊎ IsAnswer (due n) (pieces_at n told) → (pieces_at n told ≡ []) ⊎ (((probed : Bool) × (two.state ≡ states.Up n probed)) ⊎ IsAnswer (due n) (pieces_at n told))
  either n (inl none) = inl none
  either n (inr a) = inr (inr a)

left : (host mid : HostState) (sock : ℕ) (link : Link) → mid.links ≡ host.links → IsOwn host link → Tells (due_at host) host.links link (steps.Left sock ∷ []) (end_socket sock mid)
left host mid sock link same l = stays_as (due_at host) host.links link link (steps.Left sock ∷ []) (end_socket sock mid) (unstored_over host mid sock link same l) refl refl refl (λ n. inl refl) l.well.up tt

-- ---- whatever was done

-- all links of the host, where one was told of
heeds_of : (own : ℕ → Address) (host after : HostState) (link : Link) (told : List Step) → IsOrderly own host → IsNaming after → IsOwn host link → (t : Tells (due_at host) host.links link told after) → Heeds host told after (only_on link.end link.peer t.new)
heeds_of own host after link told o naming l t = record {
  given = λ e p. given_by e p (is_key link.end link.peer e p) refl;
  placed = λ e p. placed_by (is_key link.end link.peer e p);
  silent = λ e p. silent_by (is_key link.end link.peer e p);
  may = λ e p. may_by (is_key link.end link.peer e p);
  up = λ e p sock probed is. up_by e p sock probed is (is_key link.end link.peer e p) refl;
  down = λ e p off. down_by e p off (is_key link.end link.peer e p) refl;
  where_up = λ n. where_by n (t.where_up n);
  alone = t.alone;
} where
  given_by : (e : ℕ) (p : Address) (b : Bool) → is_key link.end link.peer e p ≡ b → (link_with after e p).given ≡ (link_with host e p).given
  given_by e p true h = at_key (λ m q. (link_with after m q).given ≡ (link_with host m q).given) link.end link.peer e p h (ap (λ (k : Link). k.given) t.stores.now ∙ t.given ∙ ap (λ (k : Link). k.given) (sym l.is))
  given_by e p false h = ap (λ (k : Link). k.given) (t.stores.others e p h)

  placed_by : (b : Bool) → ArePlaced (cond b t.new [])
  placed_by true = t.placed
  placed_by false = tt

  silent_by : (b : Bool) → words_in (cond b t.new []) ≡ []
  silent_by true = t.silent
  silent_by false = refl

  may_by : (b : Bool) → MaySpell (bare (cond b t.new []))
  may_by true = t.may
  may_by false = tt

  Where : ℕ → Type 0
  Where n = (pieces_at n told ≡ []) ⊎ (((probed : Bool) × (t.two.state ≡ states.Up n probed)) ⊎ IsAnswer (due_at host n) (pieces_at n told))

  own_up : (sock : ℕ) (probed : Bool) → (link_with host link.end link.peer).state ≡ states.Up sock probed → FromUp (link_with host link.end link.peer) (link_with after link.end link.peer) told t.new sock
  own_up sock probed is = subst (λ (k : Link). FromUp k (link_with after link.end link.peer) told t.new sock) (sym l.is) (subst (λ (k : Link). FromUp link k told t.new sock) (sym t.stores.now) (t.up sock probed (ap (λ (k : Link). k.state) (sym l.is) ∙ is)))

  none_other : (e : ℕ) (p : Address) (sock : ℕ) (probed : Bool) → (link_with host e p).state ≡ states.Up sock probed → is_key link.end link.peer e p ≡ false → Where sock → pieces_at sock told ≡ []
  none_other e p sock probed is h (inl none) = none
  none_other e p sock probed is h (inr (inl k)) = let no : true ≡ false = sym (one_key after link.end link.peer e p sock k.0 probed naming (ap (λ (x : Link). x.state) t.stores.now ∙ k.1) (ap (λ (x : Link). x.state) (t.stores.others e p h) ∙ is)) ∙ h in absurd cc
  none_other e p sock probed is h (inr (inr a)) = let no : ◌≡◌ {A = Option Due} (Some Framing) (Some Answering) = sym ((o.links e p).up sock probed is) ∙ a.0 in absurd cc

  up_by : (e : ℕ) (p : Address) (sock : ℕ) (probed : Bool) → (link_with host e p).state ≡ states.Up sock probed → (b : Bool) → is_key link.end link.peer e p ≡ b → FromUp (link_with host e p) (link_with after e p) told (cond b t.new []) sock
  up_by e p sock probed is true h = at_key (λ m q. (link_with host m q).state ≡ states.Up sock probed → FromUp (link_with host m q) (link_with after m q) told t.new sock) link.end link.peer e p h (own_up sock probed) is
  up_by e p sock probed is false h = ((probed, ap (λ (k : Link). k.state) (t.stores.others e p h) ∙ is), ap (λ (k : Link). k.waits) (t.stores.others e p h), none_other e p sock probed is h (t.where_up sock))

  own_down : is_up (link_with host link.end link.peer).state ≡ false → FromDown (due_at host) (link_with host link.end link.peer) (link_with after link.end link.peer) told t.new
  own_down off = subst (λ (k : Link). FromDown (due_at host) k (link_with after link.end link.peer) told t.new) (sym l.is) (subst (λ (k : Link). FromDown (due_at host) link k told t.new) (sym t.stores.now) (t.down (ap (λ (k : Link). is_up k.state) (sym l.is) ∙ off)))

  down_by : (e : ℕ) (p : Address) → is_up (link_with host e p).state ≡ false → (b : Bool) → is_key link.end link.peer e p ≡ b → FromDown (due_at host) (link_with host e p) (link_with after e p) told (cond b t.new [])
  down_by e p off true h = at_key (λ m q. is_up (link_with host m q).state ≡ false → FromDown (due_at host) (link_with host m q) (link_with after m q) told t.new) link.end link.peer e p h own_down off
  down_by e p off false h = inl (ap (λ (k : Link). is_up k.state) (t.stores.others e p h) ∙ off, ap (λ (k : Link). waiting_as k.waits) (t.stores.others e p h) ∙ sym (append-nil (waiting_as (link_with host e p).waits)))

  where_by : (n : ℕ) → Where n → (pieces_at n told ≡ []) ⊎ (IsUpThere after n ⊎ IsAnswer (due_at host n) (pieces_at n told))
  where_by n (inl none) = inl none
  where_by n (inr (inl k)) = inr (inl (record { end = link.end; peer = link.peer; probed = k.0; up = ap (λ (x : Link). x.state) t.stores.now ∙ k.1 }))
  where_by n (inr (inr a)) = inr (inr a)

-- no payload is put on any link, where none fails
abbrev pub AllHeed : {E : Type 0} → HostState → Result (List Step × HostState) E → Type 0
AllHeed host (Ok done) = AreCalm done.0 → IsNaming done.1 → (new : ℕ → Address → List Placed) × Heeds host done.0 done.1 new
AllHeed host (Err e) = Unit {0}

told_of : (own : ℕ → Address) (host : HostState) (link : Link) (done : Stepped) → IsOrderly own host → IsOwn host link → AllTell (due_at host) host.links link done → AllHeed host done
told_of own host link (Ok done) o l t = λ calm naming. let s = t calm in (only_on link.end link.peer s.new, heeds_of own host done.1 link done.0 o naming l s)
told_of own host link (Err stop) o l t = tt

-- the same behind an item that was read
read_tells : (due : ℕ → Option Due) (links : List Link) (link : Link) (sock : ℕ) (told : List Step) (after : HostState) → Tells due links link told after → Tells due links link (steps.Read sock ∷ told) after
read_tells due links link sock told after t = record { two = t.two; stores = t.stores; given = t.given; new = t.new; placed = t.placed; silent = t.silent; may = t.may; up = t.up; down = λ off. either (t.down off); where_up = t.where_up; alone = t.alone } where
  either : FromDown due link t.two told t.new → FromDown due link t.two (steps.Read sock ∷ told) t.new
  either (inl k) = inl k
  either (inr r) = inr (r.0, record { sock = r.1.sock; probed = r.1.probed; up = r.1.up; waits = r.1.waits; first = r.1.first; fits = r.1.fits; wrote = r.1.wrote; may = r.1.may })

read_told : (own : ℕ → Address) (host : HostState) (link : Link) (sock : ℕ) (done : Stepped) → IsOrderly own host → IsOwn host link → AllTell (due_at host) host.links link done → AllHeed host (after_steps (steps.Read sock ∷ []) done)
read_told own host link sock (Ok done) o l t = told_of own host link (Ok (steps.Read sock ∷ done.0, done.1)) o l (λ calm. read_tells (due_at host) host.links link sock done.0 done.1 (t calm))
read_told own host link sock (Err stop) o l t = tt

-- ---- a socket that is gone

nobody : Address
nobody = record { host = []; port = 0; id = 0 }

-- its link hears of it, in a host that has the same links
gone_tells : (host mid : HostState) (sock : ℕ) (link : Link) (b : Bool) → mid.links ≡ host.links → IsOwn host link → AllTell (due_at host) host.links link (cond b (hears inputs.Gone link mid) (leaves sock mid))
gone_tells host mid sock link true same l = subst (λ (links : List Link). AllTell (due_at host) links link (hears inputs.Gone link mid)) same (heard (due_at host) inputs.Gone link mid l.well tt)
gone_tells host mid sock link false same l = λ calm. left host mid sock link same l

-- the item may have been read first, or none
gone_all : (own : ℕ → Address) (host mid : HostState) (socket : Socket) (P : Stepped → Type 0) → mid.links ≡ host.links → IsOrderly own host → HostIsPlain host → ((link : Link) (done : Stepped) → IsOwn host link → AllTell (due_at host) host.links link done → P done) → P (is_gone socket mid)
gone_all own host mid socket P same o p each = by_user socket.user where
  as_mid : (end : ℕ) (peer : Address) → link_with mid end peer ≡ link_with host end peer
  as_mid end peer = ap (λ (l : List Link). link_at l end peer) same

  by_user : (w : Option (ℕ × Address)) → P (elim w as (λ x. Stepped) [
    | None ↦ leaves socket.number mid
    | Some user ↦ gone_from socket.number (link_with mid user.0 user.1) mid
  ])
  by_user None = let l = own_link own host 0 nobody o p in each (link_with host 0 nobody) (leaves socket.number mid) l (λ calm. left host mid socket.number (link_with host 0 nobody) same l)
  by_user (Some user) = let l = own_link own host user.0 user.1 o p in subst (λ (k : Link). P (gone_from socket.number k mid)) (sym (as_mid user.0 user.1))
      (each (link_with host user.0 user.1) (gone_from socket.number (link_with host user.0 user.1) mid) l (gone_tells host mid socket.number (link_with host user.0 user.1) (names (link_with host user.0 user.1).state socket.number) same l))

gone : (own : ℕ → Address) (host : HostState) (socket : Socket) → IsOrderly own host → HostIsPlain host → AllHeed host (is_gone socket host)
gone own host socket o p = gone_all own host host socket (λ done. AllHeed host done) refl o p (λ link done l t. told_of own host link done o l t)

-- ---- what is due

pub due_here : (host : HostState) (socket : Socket) → find (is_socket socket.number) host.sockets ≡ Some socket → is_open socket.stage ≡ true → due_at host socket.number ≡ Some (due_open socket.expected)
due_here host socket found stands = ap due_of found ∙ by_stage socket.stage stands where
  by_stage : (stage : Stage) → is_open stage ≡ true → due_staged stage socket ≡ Some (due_open socket.expected)
  by_stage Open e = refl
  by_stage Pending e = absurd cc
  by_stage Ended e = absurd cc

pub not_over : (stage : Stage) → is_open stage ≡ true → is_ended stage ≡ false
not_over Open e = refl
not_over Pending e = absurd cc
not_over Ended e = absurd cc

-- the socket from which an item was taken
abbrev taken_of : Socket → List ℕ → Socket
taken_of socket rest = record socket { since = rest; expected = expected.Frame }

-- what follows an item that was read
abbrev AllRead : HostState → ℕ → Stepped → Type 0
AllRead host sock done = AllHeed host (after_steps (steps.Read sock ∷ []) done)

-- a host's socket, which is open
record Stands (host : HostState) (socket : Socket) : Type 0 where
  found : find (is_socket socket.number) host.sockets ≡ Some socket
  stands : is_open socket.stage ≡ true

-- ---- a request

requested : (own : ℕ → Address) (host : HostState) (socket : Socket) (rest : List ℕ) (request : Request) → IsOrderly own host → HostIsPlain host → Stands host socket → socket.expected ≡ expected.Request
    → AllRead host socket.number (reads_request (taken_of socket rest) request (with_socket (taken_of socket rest) host))
requested own host socket rest request o p s e = by_answer (refusal_of mid (taken_of socket rest) request.target request.from) where
  mid : HostState
  mid = with_socket (taken_of socket rest) host

  link : Link
  link = link_with host request.target request.from

  l : IsOwn host link
  l = own_link own host request.target request.from o p

  answering : due_at host socket.number ≡ Some Answering
  answering = due_here host socket s.found s.stands ∙ ap (λ (x : Expected). Some (due_open x)) e

  by_answer : (answer : Option Answer) → AllRead host socket.number (elim answer as (λ x. Stepped) [
    | Some answer ↦ answers_and_leaves socket.number answer mid
    | None ↦ asks_link (taken_of socket rest) request.target request.from mid
  ])
  by_answer (Some answer) = read_told own host link socket.number (answers_and_leaves socket.number answer mid) o l (λ calm. stays_as (due_at host) host.links link link (steps.Write socket.number (answer_spelling answer) None ∷ steps.Left socket.number ∷ []) (end_socket socket.number mid) (unstored_over host mid socket.number link refl l) refl refl refl
      (λ n. one_answer (due_at host) socket.number n (answer_spelling answer) answering) l.well.up tt)
  by_answer None = read_told own host link socket.number (asks_link (taken_of socket rest) request.target request.from mid) o l (heard (due_at host) (inputs.Asked socket.number) link (with_socket (record (taken_of socket rest) { user = Some (request.target, request.from) }) mid) l.well answering)

-- ---- an answer

answered : (own : ℕ → Address) (host : HostState) (socket : Socket) (rest : List ℕ) (user : ℕ × Address) (answer : Answer) → IsNaming host → IsOrderly own host → HostIsPlain host → Stands host socket → socket.expected ≡ expected.Answer → socket.user ≡ Some user
    → AllRead host socket.number (reads_on (taken_of socket rest) (link_with host user.0 user.1) (items.Answer answer) (with_socket (taken_of socket rest) host))
answered own host socket rest user answer n o p s e u = read_told own host link socket.number (reads_on (taken_of socket rest) link (items.Answer answer) mid) o l (heard (due_at host) (inputs.Answered (heard_answer answer)) link mid l.well may) where
  mid : HostState
  mid = with_socket (taken_of socket rest) host

  link : Link
  link = link_with host user.0 user.1

  l : IsOwn host link
  l = own_link own host user.0 user.1 o p

  dialed : ((link.state ≡ states.Dialing socket.number) × IsDialedBy user.0 user.1 socket) ⊎ ((probed : Bool) × (link.state ≡ states.Up socket.number probed) × IsUpFor user.0 user.1 socket) → link.state ≡ states.Dialing socket.number
  dialed (inl d) = d.0
  dialed (inr up) = let no : expected.Answer ≡ expected.Frame = sym e ∙ up.2.expects in absurd cc

  may : (sock : ℕ) → link.state ≡ states.Dialing sock → due_at host sock ≡ Some Framing
  may sock is =
      let both : states.Dialing socket.number ≡ states.Dialing sock = sym (dialed (used host user.0 user.1 socket.number socket n s.found u (not_over socket.stage s.stands))) ∙ is in
      let same : socket.number ≡ sock = cc in
      ap (due_at host) (sym same) ∙ due_here host socket s.found s.stands ∙ ap (λ (x : Expected). Some (due_open x)) e

-- ---- a frame

arrival_links : (end : ℕ) (host : HostState) → (with_arrival end host).links ≡ host.links
arrival_links end host = by_endpoint (find (is_endpoint end) host.ends) where
  by_endpoint : (o : Option Endpoint) → (elim o as (λ o. HostState) [
    | None ↦ host
    | Some endpoint ↦ with_endpoint (record endpoint { arrived = endpoint.arrived + 1 }) host
  ]).links ≡ host.links
  by_endpoint None = refl
  by_endpoint (Some endpoint) = refl

framed : (own : ℕ → Address) (host : HostState) (socket : Socket) (rest : List ℕ) (frame : Frame) (user : ℕ × Address) → IsOrderly own host → HostIsPlain host → AllRead host socket.number (reads_frame (taken_of socket rest) (link_with host user.0 user.1) frame (with_socket (taken_of socket rest) host))
framed own host socket rest frame user o p = by_frame frame where
  mid : HostState
  mid = with_socket (taken_of socket rest) host

  link : Link
  link = link_with host user.0 user.1

  l : IsOwn host link
  l = own_link own host user.0 user.1 o p

  number : ℕ
  number = next_arrival mid link.end

  -- the frame was refused
  refused : AllRead host socket.number (is_gone (taken_of socket rest) mid)
  refused = gone_all own host mid (taken_of socket rest) (λ done. AllRead host socket.number done) refl o p (λ one done k t. read_told own host one socket.number done o k t)

  -- it was taken, and a node is told
  took : (after : HostState) (created : List Connection) (end : ℕ) (event : Event) → Stores host.links after.links link.end link.peer (record link { created = created }) → AllRead host socket.number (posts end event after)
  took after created end event s = read_told own host link socket.number (posts end event after) o l (λ calm. stays_as (due_at host) host.links link (record link { created = created }) (steps.Post end event ∷ []) after s refl refl refl (λ n. inl refl) l.well.up tt)

  by_test : (created : List Connection) (b : Bool) → AllRead host socket.number (cond b (posts link.end (events.ConnectionOpened number link.peer) (with_arrival link.end (with_link (record link { created = created }) mid))) (Err stops.Worn))
  by_test created true = took (with_arrival link.end (with_link (record link { created = created }) mid)) created link.end (events.ConnectionOpened number link.peer)
      (subst (λ (links : List Link). Stores host.links links link.end link.peer (record link { created = created })) (sym (arrival_links link.end (with_link (record link { created = created }) mid))) (stored host.links (record link { created = created })))
  by_test created false = tt

  by_created : (r : Result (List Connection) LightError) → AllRead host socket.number (arrives (taken_of socket rest) link r mid)
  by_created (Err x) = refused
  by_created (Ok created) = by_test created (nat_lt (arrived_at mid link.end) most_arrived)

  by_closed : (r : Result (ℕ × List Connection) LightError) → AllRead host socket.number (closes (taken_of socket rest) link r mid)
  by_closed (Err x) = refused
  by_closed (Ok done) = took (with_link (record link { created = done.1 }) mid) done.1 link.end (events.ConnectionClosed done.0) (stored host.links (record link { created = done.1 }))

  by_conn : (payload : List ℕ) (r : Result ℕ LightError) → AllRead host socket.number (receives (taken_of socket rest) link payload r mid)
  by_conn payload (Err x) = refused
  by_conn payload (Ok conn) = took mid link.created link.end (events.Received conn payload) (unstored host link l)

  by_frame : (frame : Frame) → AllRead host socket.number (reads_frame (taken_of socket rest) link frame mid)
  by_frame (frames.Created id) = by_created (created_of link.created id number)
  by_frame (frames.Closed id) = by_closed (closed_of link.created id)
  by_frame (frames.Data id payload) = by_conn payload (conn_of link.created id)
  by_frame frames.EndClosed = read_told own host link socket.number (hears inputs.EndClosed link mid) o l (heard (due_at host) inputs.EndClosed link mid l.well tt)
  by_frame frames.Probe = read_told own host link socket.number (hears inputs.Probe link mid) o l (heard (due_at host) inputs.Probe link mid l.well tt)
  by_frame frames.ProbeAck = read_told own host link socket.number (hears inputs.Ack link mid) o l (heard (due_at host) inputs.Ack link mid l.well tt)

-- ---- any item

pub asks_is : (e : Expected) (request : Request) → Matches e (items.Request request) → e ≡ expected.Request
asks_is expected.Request request m = refl
asks_is expected.Answer request m = absurd m
asks_is expected.Frame request m = absurd m

pub answers_is : (e : Expected) (answer : Answer) → Matches e (items.Answer answer) → e ≡ expected.Answer
answers_is expected.Request answer m = absurd m
answers_is expected.Answer answer m = refl
answers_is expected.Frame answer m = absurd m

taken : (own : ℕ → Address) (host : HostState) (socket : Socket) (rest : List ℕ) (item : Item) → IsNaming host → IsOrderly own host → HostIsPlain host → Stands host socket → (front_of socket).0 ≡ Whole item → AllHeed host (takes (taken_of socket rest) item host)
taken own host socket rest item n o p s front = by_item item (subst (FrontMatches socket.expected) front (reading_matches socket.expected socket.since)) where
  mid : HostState
  mid = with_socket (taken_of socket rest) host

  by_user : (item : Item) → (socket.expected ≡ expected.Request → ⊥) → ((user : ℕ × Address) → socket.user ≡ Some user → AllRead host socket.number (reads_on (taken_of socket rest) (link_with host user.0 user.1) item mid)) → (w : Option (ℕ × Address)) → socket.user ≡ w
      → AllRead host socket.number (elim w as (λ w. Stepped) [
        | None ↦ still mid
        | Some user ↦ reads_on (taken_of socket rest) (link_with mid user.0 user.1) item mid
      ])
  by_user item off each None u = absurd (off (unused host socket.number socket n s.found u (not_over socket.stage s.stands)).expects)
  by_user item off each (Some user) u = each user u

  by_item : (item : Item) → Matches socket.expected item → AllRead host socket.number (reads (taken_of socket rest) item mid)
  by_item (items.Request request) m = requested own host socket rest request o p s (asks_is socket.expected request m)
  by_item (items.Answer answer) m = let e = answers_is socket.expected answer m in by_user (items.Answer answer) (λ r. let no : expected.Answer ≡ expected.Request = sym e ∙ r in absurd cc) (λ user u. answered own host socket rest user answer n o p s e u) socket.user refl
  by_item (items.Frame frame) m = let e = frames_is socket.expected frame m in by_user (items.Frame frame) (λ r. let no : expected.Frame ≡ expected.Request = sym e ∙ r in absurd cc) (λ user u. framed own host socket rest frame user o p) socket.user refl

handled : (own : ℕ → Address) (host : HostState) (socket : Socket) → IsNaming host → IsOrderly own host → HostIsPlain host → Stands host socket → is_ready_front (front_of socket).0 ≡ true → AllHeed host (handles socket (front_of socket) host)
handled own host socket n o p s ready = by_front (front_of socket).0 refl ready where
  by_front : (x : Front) → (front_of socket).0 ≡ x → is_ready_front x ≡ true → AllHeed host (elim x as (λ x. Stepped) [
    | Unfinished ↦ still host
    | Refused error ↦ is_gone socket host
    | Whole item ↦ takes (taken_of socket (drop (front_of socket).1 socket.since)) item host
  ])
  by_front Unfinished e r = let no : false ≡ true = r in absurd cc
  by_front (Refused error) e r = gone own host socket o p
  by_front (Whole item) e r = taken own host socket (drop (front_of socket).1 socket.since) item n o p s e

-- an item that a host reads, where no link fails
pub next_heeds : (own : ℕ → Address) (host after : HostState) (told : List Step) → IsNaming host → IsNaming after → IsOrderly own host → HostIsPlain host → AreCalm told → host_next host ≡ Ok (Some told, after) → (new : ℕ → Address → List Placed) × Heeds host told after new
unfolding host_next
next_heeds own host after told n naming o p calm e = by_first (first_ready host.sockets) refl e where
  some_in : Result (Option (List Step) × HostState) Stop → Option (List Step)
  some_in (Ok next) = next.0
  some_in (Err stop) = None

  steps_of : Result (Option (List Step) × HostState) Stop → List Step
  steps_of (Ok next) = elim next.0 [
    | None ↦ []
    | Some steps ↦ steps
  ]
  steps_of (Err stop) = []

  host_of : Result (Option (List Step) × HostState) Stop → HostState
  host_of (Ok next) = next.1
  host_of (Err stop) = host

  by_done : (one : Stepped) → AllHeed host one → some_steps one ≡ Ok (Some told, after) → (new : ℕ → Address → List Placed) × Heeds host told after new
  by_done (Ok one) t e =
      let same_host : one.1 ≡ after = ap host_of e in
      let same_steps : one.0 ≡ told = ap steps_of e in
      subst (λ (h : HostState). (new : ℕ → Address → List Placed) × Heeds host told h new) same_host (subst (λ (l : List Step). (new : ℕ → Address → List Placed) × Heeds host l one.1 new) same_steps (t (subst AreCalm (sym same_steps) calm) (subst IsNaming (sym same_host) naming)))
  by_done (Err stop) t e = absurd cc

  by_first : (x : Option Socket) → first_ready host.sockets ≡ x → (elim x as (λ x. Result (Option (List Step) × HostState) Stop) [
    | None ↦ Ok (None, host)
    | Some socket ↦ some_steps (handles socket (front_of socket) host)
  ]) ≡ Ok (Some told, after) → (new : ℕ → Address → List Placed) × Heeds host told after new
  by_first None f e = let never : None ≡ Some told = ap some_in e in absurd cc
  by_first (Some socket) f e =
      let at = served host.sockets socket o.sound.apart f in
      let both = and_parts (is_open socket.stage) (is_ready_front (front_of socket).0) at.ready in
      by_done (handles socket (front_of socket) host) (handled own host socket n o p (record { found = at.found; stands = both.0 }) both.1) e
