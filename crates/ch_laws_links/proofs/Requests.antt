-- A host handles a request, and then whatever item stands at the front of a socket's bytes.
use Rattle.std.proofs.Common.{◌≡◌, ℕ, ◌+◌, ◌*◌, Bool, true, false, cond, ◌&&◌, List, [], ◌∷◌, drop, Ok, Err, refl, sym, ap, ◌∙◌, subst}
use Rattle.std.specs.Option.{option_map}
use Rattle.std.specs.Prelude.{◌==◌, find, is_some, Result, Option, Some, None}
use Rattle.ch_base.specs.declared.address.Address.{Address}
use Rattle.ch_base.specs.declared.memory.Stop.{Stop}
use Rattle.ch_wire.specs.Spelling.{answer_spelling}
use Rattle.ch_wire.specs.declared.answer.Answer.{Answer}
use Rattle.ch_wire.specs.declared.request.Request.{Request}
use Rattle.ch_reader.specs.declared.item.Expected.{Expected}
use Rattle.ch_reader.specs.declared.item.Expected.TheVariants as expected
use Rattle.ch_reader.specs.declared.item.Front.{Front}
use Rattle.ch_reader.specs.declared.item.Front.TheVariants.{Unfinished, Whole, Refused}
use Rattle.ch_reader.specs.declared.item.Item.{Item}
use Rattle.ch_reader.specs.declared.item.Item.TheVariants as items
use Rattle.ch_link.specs.Table.{step_of}
use Rattle.ch_link.specs.declared.LinkIn.TheVariants as inputs
use Rattle.ch_link.specs.declared.LinkState.{LinkState}
use Rattle.ch_link.specs.declared.LinkState.TheVariants as states
use Rattle.ch_model.specs.declared.step.Step.{Step}
use Rattle.ch_model.specs.declared.step.Step.TheVariants as steps
use Rattle.ch_model.specs.Greater.{is_greater}
use Rattle.ch_model.specs.Host.{front_of, is_ready_front, first_ready, takes, handles, some_steps, host_next}
use Rattle.ch_model.specs.HostItems.{refusal_of, asks_link, reads}
use Rattle.ch_model.specs.HostLinks.{hears}
use Rattle.ch_model.specs.HostState.{Link, Socket, HostState}
use Rattle.ch_model.specs.HostSteps.{Stepped, own_address, is_link, link_with, with_socket, is_socket}
use Rattle.ch_model.specs.HostWrites.{answers_and_leaves, end_socket}
use Rattle.ch_model.specs.Stages.{Stage, Pending, Open, Ended, is_open, is_ended}
use Rattle.ch_laws_items.specs.Kept.{Apart}
use Rattle.ch_laws_items.proofs.Next.{served}
use Rattle.ch_laws_log.proofs.HostTold.{find_stored}
use Rattle.ch_laws_links.specs.Naming.{Unnamed, IsUp, link_says, stage_says, is_user, socket_says, Fits, IsFit}
use Rattle.ch_laws_links.specs.Standing.{Standing, IsOpen, IsRisen, IsOver, standing, standing_of, standing_at, is_unrisen}
use Rattle.ch_laws_links.proofs.Keys.{state_at, link_named, ended, over, ended_found, ended_rest, states_as}
use Rattle.ch_laws_links.proofs.Table.{is_named, clash, apart, unnamed_state}
use Rattle.ch_laws_links.proofs.Acts.{acted_on, acted_standing, overs, risens}
use Rattle.ch_laws_links.proofs.Hears.{IsNamed, IsAsked, AllHeard, state_right, heard}
use Rattle.ch_laws_links.proofs.Goes.{Rises, AllGoes, at_rest, at_key, at_found, table_right, over_stands}
use Rattle.ch_laws_links.proofs.Ends.{Changed, changed_named, changed_rises, still_free, ended_nobodys, ended_one_fits, nobodys_of, gone}
use Rattle.ch_laws_links.proofs.Readings.{Matches, FrontMatches, reading_matches}
use Rattle.ch_laws_links.proofs.Items.{IsFound, taken_from, read_right, AfterRead, read_first, read_frame, read_answer, found_there}

-- ---- a request that is refused

-- the socket that was taken from is ended
refused_changed : (socket : Socket) (rest : List ℕ) (host : HostState) → find (is_socket socket.number) host.sockets ≡ Some socket
    → Changed socket.number (ended (taken_from socket rest)) host (end_socket socket.number (with_socket (taken_from socket rest) host))
refused_changed socket rest host found = record {
  states = λ end peer. states_as (end_socket socket.number mid) mid (ended_rest socket.number mid).0 end peer;
  socks = λ n. ended_found socket.number mid n ∙ ap (over (socket.number == n)) (find_stored now host.sockets n) ∙ by_test n (socket.number == n);
  dials = (ended_rest socket.number mid).1;
} where
  now : Socket
  now = taken_from socket rest

  mid : HostState
  mid = with_socket now host

  by_test : (n : ℕ) (b : Bool) → over b (cond b (Some now) (find (is_socket n) host.sockets)) ≡ cond b (Some (ended now)) (find (is_socket n) host.sockets)
  by_test n true = refl
  by_test n false = refl

open_asking : (socket : Socket) → socket.stage ≡ Open → socket.expected ≡ expected.Request → standing_of socket ≡ IsOpen
open_asking socket s e = ap (λ (stage : Stage). standing stage (stage_says stage socket.expected)) s ∙ ap (λ (x : Expected). standing Open (stage_says Open x)) e

standing_there : (socket : Socket) (host : HostState) → IsFound socket host → socket.expected ≡ expected.Request → standing_at host socket.number ≡ Some IsOpen
standing_there socket host f e = ap (option_map standing_of) f.found ∙ ap Some (open_asking socket f.stands e)

refused : (socket : Socket) (rest : List ℕ) (answer : Answer) (host : HostState) → IsFound socket host → socket.user ≡ None → socket.expected ≡ expected.Request
    → AfterRead host socket.number (answers_and_leaves socket.number answer (with_socket (taken_from socket rest) host))
refused socket rest answer host f u e = λ s. (
  changed_named socket.number socket (ended now) host (end_socket socket.number mid) (refused_changed socket rest host f.found) f.found (ended_one_fits now) (λ end peer. ended_nobodys now end peer ∙ sym (nobodys_of socket u end peer)) s,
  changed_rises socket.number socket (ended now) host (end_socket socket.number mid) (steps.Read socket.number ∷ steps.Write socket.number (answer_spelling answer) None ∷ steps.Left socket.number ∷ []) (option_map (λ (x : Standing). IsOver)) (refused_changed socket rest host f.found) f.found (λ n x. refl) refl
      (read_right socket host f, (read_right socket host f, (ap is_unrisen (standing_there socket host f e), tt))),
) where
  now : Socket
  now = taken_from socket rest

  mid : HostState
  mid = with_socket now host

-- ---- a request that a link hears

-- the socket for the link that it asks
abbrev pub asking_for : Socket → List ℕ → ℕ × Address → Socket
asking_for socket rest user = record (taken_from socket rest) { user = Some user }

-- what a request does to ends is told
request_stands : (old : LinkState) (greater : Bool) (sock : ℕ) (now : Socket) (end : ℕ) (peer : Address) (n : ℕ) (o : Option Socket) → standing_of now ≡ IsRisen → is_named old sock ≡ false → ((sock == n) ≡ true → is_some o ≡ true)
    → option_map standing_of (acted_on (step_of old (inputs.Asked sock) greater).1 old (inputs.Asked sock) end peer n (cond (sock == n) (Some now) o))
    ≡ acted_standing (step_of old (inputs.Asked sock) greater).1 old (inputs.Asked sock) (step_of old (inputs.Asked sock) greater).0 n (option_map standing_of o)
unfolding step_of
request_stands old greater sock now end peer n o risen free there = by_state old greater free where
  raised : (b : Bool) (o : Option Socket) → (b ≡ true → is_some o ≡ true) → option_map standing_of (cond b (Some now) o) ≡ risens b (option_map standing_of o)
  raised true None k = clash (sym (k refl))
  raised true (Some known) k = ap Some risen
  raised false o k = refl

  crossed : (b : Bool) (o : Option Socket) → (b ≡ true → is_some o ≡ true) → option_map standing_of (over b (cond b (Some now) o)) ≡ overs b (option_map standing_of o)
  crossed true None k = clash (sym (k refl))
  crossed true (Some known) k = refl
  crossed false o k = refl

  left_for : (d : ℕ) (a b : Bool) (o : Option Socket) → (d == n) ≡ a → (sock == n) ≡ b → (d == sock) ≡ false → (b ≡ true → is_some o ≡ true) → option_map standing_of (over a (cond b (Some now) o)) ≡ risens b (overs a (option_map standing_of o))
  left_for d true true o h g f k = clash (sym h ∙ apart d sock n f g)
  left_for d true false o h g f k = over_stands true o
  left_for d false b o h g f k = raised b o k

  by_state : (old : LinkState) (greater : Bool) → is_named old sock ≡ false → option_map standing_of (acted_on (step_of old (inputs.Asked sock) greater).1 old (inputs.Asked sock) end peer n (cond (sock == n) (Some now) o))
      ≡ acted_standing (step_of old (inputs.Asked sock) greater).1 old (inputs.Asked sock) (step_of old (inputs.Asked sock) greater).0 n (option_map standing_of o)
  by_state states.Idle greater f = raised (sock == n) o there
  by_state states.AwaitOther greater f = raised (sock == n) o there
  by_state (states.Dialing d) true f = crossed (sock == n) o there
  by_state (states.Dialing d) false f = left_for d (d == n) (sock == n) o refl refl f there
  by_state (states.Up u true) greater f = crossed (sock == n) o there
  by_state (states.Up u false) greater f = crossed (sock == n) o there

hears_request : (socket : Socket) (rest : List ℕ) (host : HostState) (user : ℕ × Address) → IsFound socket host → socket.user ≡ None → socket.expected ≡ expected.Request
    → AfterRead host socket.number (asks_link (taken_from socket rest) user.0 user.1 (with_socket (taken_from socket rest) host))
hears_request socket rest host user f u e = by_done (hears (inputs.Asked socket.number) link asking) (λ s. heard (inputs.Asked socket.number) link asking (asked s)) where
  now : Socket
  now = asking_for socket rest user

  mid : HostState
  mid = with_socket (taken_from socket rest) host

  asking : HostState
  asking = with_socket now mid

  link : Link
  link = link_with mid user.0 user.1

  greater : Bool
  greater = is_greater (own_address asking link.end) link.peer

  key : (end : ℕ) (peer : Address) → is_user end peer user ≡ is_link end peer link
  key end peer = let named = link_named mid user.0 user.1 in sym (ap (λ (z : ℕ). is_user end peer (z, link.peer)) named.0 ∙ ap (λ (z : Address). is_user end peer (user.0, z)) named.1)

  twice : (n : ℕ) (b : Bool) → cond b (Some now) (cond b (Some (taken_from socket rest)) (find (is_socket n) host.sockets)) ≡ cond b (Some now) (find (is_socket n) host.sockets)
  twice n true = refl
  twice n false = refl

  socks : (n : ℕ) → find (is_socket n) asking.sockets ≡ cond (socket.number == n) (Some now) (find (is_socket n) host.sockets)
  socks n = find_stored now mid.sockets n ∙ ap (cond (socket.number == n) (Some now)) (find_stored (taken_from socket rest) host.sockets n) ∙ twice n (socket.number == n)

  changed : Changed socket.number now host asking
  changed = record { states = λ end peer. refl; socks = socks; dials = refl }

  fits : (host : Option (List ℕ)) (stage : Stage) → stage ≡ Open → Fits host stage (Some user) expected.Frame
  fits None Open e = tt
  fits (Some host) Open e = tt
  fits host Pending e = absurd cc
  fits host Ended e = absurd cc

  by_said : IsNamed host → (end : ℕ) (peer : Address) (n : ℕ) (k : Bool) → is_link end peer link ≡ k → (b : Bool) → (socket.number == n) ≡ b
      → cond k (cond b IsUp (link_says link.state n)) (link_says (state_at host end peer) n) ≡ socket_says end peer (cond b (Some now) (find (is_socket n) host.sockets))
  by_said s end peer n true h true g = sym (ap (λ b. cond b (stage_says socket.stage expected.Frame) Unnamed) (key end peer ∙ h) ∙ ap (λ (stage : Stage). stage_says stage expected.Frame) f.stands)
  by_said s end peer n true h false g = ap (λ (state : LinkState). link_says state n) (sym (at_key link host (at_found mid user.0 user.1) end peer h)) ∙ s.same end peer n
  by_said s end peer n false h true g = s.same end peer n ∙ ap (socket_says end peer) (found_there socket host n f.found g) ∙ nobodys_of socket u end peer ∙ sym (ap (λ b. cond b (stage_says socket.stage expected.Frame) Unnamed) (key end peer ∙ h))
  by_said s end peer n false h false g = s.same end peer n

  by_fit : IsNamed host → (n : ℕ) (known : Socket) (b : Bool) → cond b (Some now) (find (is_socket n) host.sockets) ≡ Some known → IsFit known
  by_fit s n known true e = let is : now ≡ known = cc in subst IsFit is (fits socket.peer_host socket.stage f.stands)
  by_fit s n known false e = s.fit n known e

  free_of : IsNamed host → is_named link.state socket.number ≡ false
  free_of s = unnamed_state link.state socket.number (s.same user.0 user.1 socket.number ∙ ap (socket_says user.0 user.1) f.found ∙ nobodys_of socket u user.0 user.1)

  asked : IsNamed host → IsAsked (inputs.Asked socket.number) link asking
  asked s = record {
    at = at_key link mid (at_found mid user.0 user.1);
    said = λ end peer n. by_said s end peer n (is_link end peer link) refl (socket.number == n) refl ∙ sym (ap (socket_says end peer) (socks n));
    free = λ k l. still_free socket.number (2 * k) socket now host asking changed f.found (s.free k l);
    fit = λ n known e. by_fit s n known (socket.number == n) (sym (socks n) ∙ e);
    wants = tt;
    asks = free_of s;
  }

  there : (n : ℕ) → (socket.number == n) ≡ true → is_some (find (is_socket n) host.sockets) ≡ true
  there n h = ap is_some (found_there socket host n f.found h)

  risen : standing_of now ≡ IsRisen
  risen = ap (λ (stage : Stage). standing stage (stage_says stage expected.Frame)) f.stands

  by_done : (done : Stepped) → (IsNamed host → AllHeard (inputs.Asked socket.number) link asking done) → AfterRead host socket.number done
  by_done (Ok done) h = λ s. let d = h s in (
    d.named,
    record {
      right = (read_right socket host f, d.right (standing_at host) (table_right link.state (inputs.Asked socket.number) greater (standing_at host) (state_right host user.0 user.1 link.state s refl) (standing_there socket host f e) (free_of s)));
      stands = λ n. ap (option_map standing_of) (d.socks n ∙ ap (acted_on (step_of link.state (inputs.Asked socket.number) greater).1 link.state (inputs.Asked socket.number) link.end link.peer n) (socks n))
          ∙ request_stands link.state greater socket.number now link.end link.peer n (find (is_socket n) host.sockets) risen (free_of s) (there n) ∙ sym (d.effect n (standing_at host n));
      odd = λ k none. d.odd k (still_free socket.number (2 * k + 1) socket now host asking changed f.found none);
    },
  )
  by_done (Err stop) h = tt

read_request : (socket : Socket) (rest : List ℕ) (request : Request) (host : HostState) → IsFound socket host → socket.user ≡ None → socket.expected ≡ expected.Request → AllGoes host (takes (taken_from socket rest) (items.Request request) host)
read_request socket rest request host f u e = read_first host socket.number (reads now (items.Request request) mid) (by_answer (refusal_of mid now request.target request.from)) where
  now : Socket
  now = taken_from socket rest

  mid : HostState
  mid = with_socket now host

  by_answer : (answer : Option Answer) → AfterRead host socket.number (elim answer as (λ x. Stepped) [
    | Some answer ↦ answers_and_leaves socket.number answer mid
    | None ↦ asks_link now request.target request.from mid
  ])
  by_answer (Some answer) = refused socket rest answer host f u e
  by_answer None = hears_request socket rest host (request.target, request.from) f u e

-- ---- an item

-- how an open end may be, by the item that it expects
fit_request : (host : Option (List ℕ)) (stage : Stage) (user : Option (ℕ × Address)) → stage ≡ Open → Fits host stage user expected.Request → user ≡ None
fit_request host Open None s f = refl
fit_request None Open (Some user) s f = absurd f
fit_request (Some host) Open (Some user) s f = absurd f
fit_request host Pending user s f = absurd cc
fit_request host Ended user s f = absurd cc

fit_answer : (host : Option (List ℕ)) (stage : Stage) (user : Option (ℕ × Address)) (e : Expected) → stage ≡ Open → Fits host stage user e → (e ≡ expected.Request → ⊥) → is_some user ≡ true
fit_answer host Open (Some user) e s f n = refl
fit_answer host Open None expected.Request s f n = absurd (n refl)
fit_answer None Open None expected.Answer s f n = absurd f
fit_answer (Some host) Open None expected.Answer s f n = absurd f
fit_answer None Open None expected.Frame s f n = absurd f
fit_answer (Some host) Open None expected.Frame s f n = absurd f
fit_answer host Pending user e s f n = absurd cc
fit_answer host Ended user e s f n = absurd cc

-- what is so of a host whose links and sockets say the same is enough
by_named : (host : HostState) (done : Stepped) → (IsNamed host → AllGoes host done) → AllGoes host done
by_named host (Ok done) f = λ s. f s s
by_named host (Err stop) f = tt

used : (socket : Socket) (host : HostState) → IsNamed host → IsFound socket host → (socket.expected ≡ expected.Request → ⊥) → (user : ℕ × Address) × (socket.user ≡ Some user)
used socket host s f n = by_user socket.user (fit_answer socket.peer_host socket.stage socket.user socket.expected f.stands (s.fit socket.number socket f.found) n) where
  by_user : (w : Option (ℕ × Address)) → is_some w ≡ true → (user : ℕ × Address) × (w ≡ Some user)
  by_user None e = absurd cc
  by_user (Some user) e = (user, refl)

read_item : (socket : Socket) (rest : List ℕ) (e : Expected) (item : Item) (host : HostState) → IsFound socket host → socket.expected ≡ e → Matches e item → AllGoes host (takes (taken_from socket rest) item host)
read_item socket rest expected.Request (items.Request request) host f e m = by_named host (takes (taken_from socket rest) (items.Request request) host)
    (λ s. read_request socket rest request host f (fit_request socket.peer_host socket.stage socket.user f.stands (subst (λ (x : Expected). Fits socket.peer_host socket.stage socket.user x) e (s.fit socket.number socket f.found))) e)
read_item socket rest expected.Answer (items.Answer answer) host f e m = by_named host (takes (taken_from socket rest) (items.Answer answer) host) (λ s. let user = used socket host s f (not_request socket.expected e) in read_answer socket rest answer host user.0 f user.1 e) where
  not_request : (x : Expected) → x ≡ expected.Answer → x ≡ expected.Request → ⊥
  not_request x a b = absurd cc
read_item socket rest expected.Frame (items.Frame frame) host f e m = by_named host (takes (taken_from socket rest) (items.Frame frame) host) (λ s. let user = used socket host s f (not_request socket.expected e) in read_frame socket rest frame host user.0 f user.1 e) where
  not_request : (x : Expected) → x ≡ expected.Frame → x ≡ expected.Request → ⊥
  not_request x a b = absurd cc
read_item socket rest e item host f x m = absurd m

handled : (socket : Socket) (host : HostState) → IsFound socket host → AllGoes host (handles socket (front_of socket) host)
handled socket host f = by_front (front_of socket).0 (front_of socket).1 (reading_matches socket.expected socket.since) where
  by_front : (x : Front) (count : ℕ) → FrontMatches socket.expected x → AllGoes host (handles socket (x, count) host)
  by_front Unfinished count m = at_rest host
  by_front (Refused error) count m = gone socket host f.found (ap is_ended f.stands)
  by_front (Whole item) count m = read_item socket (drop count socket.since) socket.expected item host f refl m

-- an item that is handled, where there is one
pub next_goes : (host after : HostState) (told : List Step) → Apart host.sockets → IsNamed host → host_next host ≡ Ok (Some told, after) → IsNamed after × Rises host told after
unfolding host_next
next_goes host after told a s e = by_first (first_ready host.sockets) refl e where
  some_in : Result (Option (List Step) × HostState) Stop → Option (List Step)
  some_in (Ok next) = next.0
  some_in (Err stop) = None

  steps_in : Result (Option (List Step) × HostState) Stop → List Step
  steps_in (Ok next) = elim next.0 [
    | None ↦ []
    | Some steps ↦ steps
  ]
  steps_in (Err stop) = []

  host_in : Result (Option (List Step) × HostState) Stop → HostState
  host_in (Ok next) = next.1
  host_in (Err stop) = host

  by_done : (one : Stepped) → AllGoes host one → some_steps one ≡ Ok (Some told, after) → IsNamed after × Rises host told after
  by_done (Ok one) f e =
      let same_host : one.1 ≡ after = ap host_in e in
      let same_steps : one.0 ≡ told = ap steps_in e in
      subst (λ (h : HostState). IsNamed h × Rises host told h) same_host (subst (λ (l : List Step). IsNamed one.1 × Rises host l one.1) same_steps (f s))
  by_done (Err stop) f e = absurd cc

  open_front : (stage : Stage) (b : Bool) → (is_open stage && b) ≡ true → stage ≡ Open
  open_front Open b e = refl
  open_front Pending b e = absurd cc
  open_front Ended b e = absurd cc

  by_first : (o : Option Socket) → first_ready host.sockets ≡ o → (elim o as (λ o. Result (Option (List Step) × HostState) Stop) [
    | None ↦ Ok (None, host)
    | Some socket ↦ some_steps (handles socket (front_of socket) host)
  ]) ≡ Ok (Some told, after) → IsNamed after × Rises host told after
  by_first None f e = let never : None ≡ Some told = ap some_in e in absurd cc
  by_first (Some socket) f e = let at = served host.sockets socket a f in
      by_done (handles socket (front_of socket) host) (handled socket host (record { found = at.found; stands = open_front socket.stage (is_ready_front (front_of socket).0) at.ready })) e
