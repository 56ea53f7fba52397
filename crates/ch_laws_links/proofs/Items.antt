-- A host handles an item, and its links and sockets go on saying the same of each other.
use Rattle.std.proofs.Common.{◌≡◌, ℕ, ◌+◌, ◌*◌, Bool, true, false, cond, List, [], ◌∷◌, Ok, Err, refl, sym, ap, ◌∙◌, subst}
use Rattle.std.proofs.lemmas.Bool.{eqb-true}
use Rattle.std.specs.Option.{option_map}
use Rattle.std.specs.Prelude.{◌==◌, find, is_some, nat_lt, Result, Option, Some, None}
use Rattle.ch_base.specs.declared.address.Address.{Address}
use Rattle.ch_base.specs.declared.event.Event.{Event}
use Rattle.ch_base.specs.declared.event.Event.TheVariants as events
use Rattle.ch_base.specs.declared.memory.Stop.TheVariants as stops
use Rattle.ch_wire.specs.declared.answer.Answer.{Answer}
use Rattle.ch_wire.specs.declared.frame.Frame.{Frame}
use Rattle.ch_wire.specs.declared.frame.Frame.TheVariants as frames
use Rattle.ch_reader.specs.declared.item.Expected.{Expected}
use Rattle.ch_reader.specs.declared.item.Expected.TheVariants as expected
use Rattle.ch_reader.specs.declared.item.Item.TheVariants as items
use Rattle.ch_link.specs.Table.{step_of}
use Rattle.ch_link.specs.declared.LinkAnswer.{LinkAnswer}
use Rattle.ch_link.specs.declared.LinkAnswer.TheVariants as links
use Rattle.ch_link.specs.declared.LinkIn.TheVariants as inputs
use Rattle.ch_link.specs.declared.LinkState.{LinkState}
use Rattle.ch_link.specs.declared.LinkState.TheVariants as states
use Rattle.ch_light.specs.Ids.{created_of, conn_of, closed_of}
use Rattle.ch_light.specs.declared.Connection.{Connection}
use Rattle.ch_light.specs.declared.error.LightError.{LightError}
use Rattle.ch_model.specs.declared.step.Step.TheVariants as steps
use Rattle.ch_model.specs.Greater.{is_greater}
use Rattle.ch_model.specs.Host.{takes}
use Rattle.ch_model.specs.HostItems.{most_arrived, posts, is_gone, heard_answer, arrived_at, with_arrival, next_arrival, arrives, closes, receives, reads_frame, reads_on, reads}
use Rattle.ch_model.specs.HostLinks.{hears}
use Rattle.ch_model.specs.HostState.{Endpoint, Link, Socket, HostState}
use Rattle.ch_model.specs.HostSteps.{Stepped, still, after_steps, own_address, is_endpoint, is_link, link_with, with_link, with_socket, with_endpoint, is_socket}
use Rattle.ch_model.specs.Stages.{Stage, Pending, Open, Ended, is_ended}
use Rattle.ch_laws_log.proofs.HostTold.{find_stored}
use Rattle.ch_laws_links.specs.Naming.{Word, Unnamed, Dialed, IsUp, link_says, stage_says, is_user, is_for, socket_says, Fits, IsFit}
use Rattle.ch_laws_links.specs.Standing.{IsOpen, IsRisen, standing, standing_of, standing_at, is_there}
use Rattle.ch_laws_links.proofs.Keys.{number_self, state_at, link_named, over}
use Rattle.ch_laws_links.proofs.Table.{heard_says, clash}
use Rattle.ch_laws_links.proofs.Acts.{acted_on, acted_standing, overs, risens}
use Rattle.ch_laws_links.proofs.Hears.{IsNamed, IsAsked, AllHeard, state_right, heard}
use Rattle.ch_laws_links.proofs.Goes.{Rises, AllGoes, Alike, onward, plain_goes, alike, at_key, at_found, hears_own, table_right, InputRight}
use Rattle.ch_laws_links.proofs.Ends.{kept_link, changed_named, changed_rises, still_free, tells_nothing, stored_changed, user_self, gone}

-- the socket is found, and open
pub record IsFound (socket : Socket) (host : HostState) : Type 0 where
  pub found : find (is_socket socket.number) host.sockets ≡ Some socket
  pub stands : socket.stage ≡ Open

-- ---- frames

arrival_alike : (end : ℕ) (before host : HostState) → Alike before host → Alike before (with_arrival end host)
arrival_alike end before host a = by_endpoint (find (is_endpoint end) host.ends) where
  by_endpoint : (o : Option Endpoint) → Alike before (elim o as (λ x. HostState) [
    | None ↦ host
    | Some endpoint ↦ with_endpoint (record endpoint { arrived = endpoint.arrived + 1 }) host
  ])
  by_endpoint None = a
  by_endpoint (Some endpoint) = record { states = a.states; sockets = a.sockets; dials = a.dials }

pub posted : (end : ℕ) (event : Event) (before after : HostState) → Alike before after → AllGoes before (posts end event after)
posted end event before after a = plain_goes before after (steps.Post end event ∷ []) a (tt, tt) (λ s. (tt, tt))

not_ended : (stage : Stage) → stage ≡ Open → is_ended stage ≡ false
not_ended stage e = ap is_ended e

gone_open : (socket : Socket) (host : HostState) → IsFound socket host → AllGoes host (is_gone socket host)
gone_open socket host f = gone socket host f.found (not_ended socket.stage f.stands)

arrived : (socket : Socket) (link : Link) (created : Result (List Connection) LightError) (host : HostState) → IsFound socket host → state_at host link.end link.peer ≡ link.state → AllGoes host (arrives socket link created host)
arrived socket link (Err e) host f at = gone_open socket host f
arrived socket link (Ok created) host f at = by_test (nat_lt (arrived_at host link.end) most_arrived) where
  by_test : (b : Bool) → AllGoes host (cond b (posts link.end (events.ConnectionOpened (next_arrival host link.end) link.peer) (with_arrival link.end (with_link (record link { created = created }) host))) (Err stops.Worn))
  by_test true = posted link.end (events.ConnectionOpened (next_arrival host link.end) link.peer) host (with_arrival link.end (with_link (record link { created = created }) host)) (arrival_alike link.end host (with_link (record link { created = created }) host) (kept_link (record link { created = created }) host at))
  by_test false = tt

closed : (socket : Socket) (link : Link) (done : Result (ℕ × List Connection) LightError) (host : HostState) → IsFound socket host → state_at host link.end link.peer ≡ link.state → AllGoes host (closes socket link done host)
closed socket link (Err e) host f at = gone_open socket host f
closed socket link (Ok done) host f at = posted link.end (events.ConnectionClosed done.0) host (with_link (record link { created = done.1 }) host) (kept_link (record link { created = done.1 }) host at)

received : (socket : Socket) (link : Link) (payload : List ℕ) (conn : Result ℕ LightError) (host : HostState) → IsFound socket host → AllGoes host (receives socket link payload conn host)
received socket link payload (Err e) host f = gone_open socket host f
received socket link payload (Ok conn) host f = posted link.end (events.Received conn payload) host host (alike host)

framed : (socket : Socket) (link : Link) (frame : Frame) (host : HostState) → IsFound socket host → state_at host link.end link.peer ≡ link.state → AllGoes host (reads_frame socket link frame host)
framed socket link (frames.Created id) host f at = arrived socket link (created_of link.created id (next_arrival host link.end)) host f at
framed socket link (frames.Closed id) host f at = closed socket link (closed_of link.created id) host f at
framed socket link (frames.Data id payload) host f at = received socket link payload (conn_of link.created id) host f
framed socket link frames.EndClosed host f at = hears_own inputs.EndClosed link host tt tt at
framed socket link frames.Probe host f at = hears_own inputs.Probe link host tt tt at
framed socket link frames.ProbeAck host f at = hears_own inputs.Ack link host tt tt at

-- ---- an item that is taken

-- the socket as its item is taken
abbrev pub taken_from : Socket → List ℕ → Socket
taken_from socket rest = record socket { since = rest; expected = expected.Frame }

open_there : (word : Word) → is_there (Some (standing Open word)) ≡ true
open_there Unnamed = refl
open_there Dialed = refl
open_there IsUp = refl

pub read_right : (socket : Socket) (host : HostState) → IsFound socket host → is_there (standing_at host socket.number) ≡ true
read_right socket host f = ap (λ (o : Option Socket). is_there (option_map standing_of o)) f.found ∙ ap (λ (stage : Stage). is_there (Some (standing stage (stage_says stage socket.expected)))) f.stands ∙ open_there (stage_says Open socket.expected)

-- what follows an item that was taken
abbrev pub AfterRead : HostState → ℕ → Stepped → Type 0
AfterRead before sock (Ok done) = IsNamed before → IsNamed done.1 × Rises before (steps.Read sock ∷ done.0) done.1
AfterRead before sock (Err stop) = Unit {0}

pub read_first : (before : HostState) (sock : ℕ) (done : Stepped) → AfterRead before sock done → AllGoes before (after_steps (steps.Read sock ∷ []) done)
read_first before sock (Ok done) a = a
read_first before sock (Err stop) a = tt

-- ---- a frame

fit_frame : (host : Option (List ℕ)) (stage : Stage) (user : ℕ × Address) → stage ≡ Open → Fits host stage (Some user) expected.Frame
fit_frame None Open user e = tt
fit_frame (Some host) Open user e = tt
fit_frame host Pending user e = absurd cc
fit_frame host Ended user e = absurd cc

fits_frame : (socket : Socket) (user : ℕ × Address) → socket.user ≡ Some user → socket.stage ≡ Open → Fits socket.peer_host socket.stage socket.user expected.Frame
fits_frame socket user u e = subst (λ (w : Option (ℕ × Address)). Fits socket.peer_host socket.stage w expected.Frame) (sym u) (fit_frame socket.peer_host socket.stage user e)

-- what follows at the host as it is after the item was taken
then_reads : (before mid : HostState) (sock : ℕ) (done : Stepped) → (IsNamed before → IsNamed mid × Rises before (steps.Read sock ∷ []) mid) → AllGoes mid done → AfterRead before sock done
then_reads before mid sock (Ok done) r g = λ s. let first = r s in let more = g first.0 in (more.0, onward before mid done.1 (steps.Read sock ∷ []) done.0 first.1 more.1)
then_reads before mid sock (Err stop) r g = tt

-- the socket as it is taken from stands in its place
pub mid_found : (now : Socket) (host : HostState) → find (is_socket now.number) (with_socket now host).sockets ≡ Some now
mid_found now host = find_stored now host.sockets now.number ∙ ap (λ b. cond b (Some now) (find (is_socket now.number) host.sockets)) (number_self now.number)

pub read_frame : (socket : Socket) (rest : List ℕ) (frame : Frame) (host : HostState) (user : ℕ × Address) → IsFound socket host → socket.user ≡ Some user → socket.expected ≡ expected.Frame → AllGoes host (takes (taken_from socket rest) (items.Frame frame) host)
read_frame socket rest frame host user f u e = read_first host socket.number (reads now (items.Frame frame) mid) (then_reads host mid socket.number (reads now (items.Frame frame) mid) read (by_user socket.user u)) where
  now : Socket
  now = taken_from socket rest

  mid : HostState
  mid = with_socket now host

  read : IsNamed host → IsNamed mid × Rises host (steps.Read socket.number ∷ []) mid
  read s = (
    changed_named socket.number socket now host mid (stored_changed now host) f.found (fits_frame socket user u f.stands) (λ end peer. ap (λ (x : Expected). cond (is_for end peer socket.user) (stage_says socket.stage x) Unnamed) (sym e)) s,
    changed_rises socket.number socket now host mid (steps.Read socket.number ∷ []) (λ x. x) (stored_changed now host) f.found (λ n x. tells_nothing socket.number n x) (ap (λ (x : Expected). Some (standing socket.stage (stage_says socket.stage x))) (sym e)) (read_right socket host f, tt),
  )

  by_user : (w : Option (ℕ × Address)) → w ≡ Some user → AllGoes mid (elim w as (λ x. Stepped) [
    | None ↦ still mid
    | Some user ↦ reads_on now (link_with mid user.0 user.1) (items.Frame frame) mid
  ])
  by_user None e = absurd cc
  by_user (Some w) e = framed now (link_with mid w.0 w.1) frame mid (record { found = mid_found now host; stands = f.stands }) (at_found mid w.0 w.1)

-- ---- an answer

pub says_dialed : (state : LinkState) (n : ℕ) → link_says state n ≡ Dialed → state ≡ states.Dialing n
says_dialed states.Idle n e = absurd cc
says_dialed states.AwaitOther n e = absurd cc
says_dialed (states.Dialing d) n e = by_test (d == n) refl e where
  by_test : (b : Bool) → (d == n) ≡ b → cond b Dialed Unnamed ≡ Dialed → states.Dialing d ≡ states.Dialing n
  by_test true h e = ap (λ (z : ℕ). states.Dialing z) (eqb-true d n h)
  by_test false h e = absurd cc
says_dialed (states.Up u probed) n e = by_test (u == n) e where
  by_test : (b : Bool) → cond b IsUp Unnamed ≡ Dialed → states.Up u probed ≡ states.Dialing n
  by_test true e = absurd cc
  by_test false e = absurd cc

-- the socket of each number, where the one that is read on is another now
abbrev pub MidSocks : Socket → Socket → HostState → HostState → Type 0
MidSocks socket now host mid = (n : ℕ) → find (is_socket n) mid.sockets ≡ cond (socket.number == n) (Some now) (find (is_socket n) host.sockets)

pub found_there : (socket : Socket) (host : HostState) (n : ℕ) → find (is_socket socket.number) host.sockets ≡ Some socket → (socket.number == n) ≡ true → find (is_socket n) host.sockets ≡ Some socket
found_there socket host n found h = subst (λ (m : ℕ). find (is_socket m) host.sockets ≡ Some socket) (eqb-true socket.number n h) found

-- what an answer does to ends is told
answer_stands : (a : LinkAnswer) (greater : Bool) (sock : ℕ) (now : Socket) (end : ℕ) (peer : Address) (n : ℕ) (o : Option Socket) → standing_of now ≡ IsRisen → ((sock == n) ≡ true → is_some o ≡ true)
    → option_map standing_of (acted_on (step_of (states.Dialing sock) (inputs.Answered a) greater).1 (states.Dialing sock) (inputs.Answered a) end peer n (cond (sock == n) (Some now) o))
    ≡ acted_standing (step_of (states.Dialing sock) (inputs.Answered a) greater).1 (states.Dialing sock) (inputs.Answered a) (step_of (states.Dialing sock) (inputs.Answered a) greater).0 n (option_map standing_of o)
unfolding step_of
answer_stands a greater sock now end peer n o risen there = by_answer a where
  raised : (b : Bool) (o : Option Socket) → (b ≡ true → is_some o ≡ true) → option_map standing_of (cond b (Some now) o) ≡ risens b (option_map standing_of o)
  raised true None k = clash (sym (k refl))
  raised true (Some known) k = ap Some risen
  raised false o k = refl

  left : (b : Bool) (o : Option Socket) → (b ≡ true → is_some o ≡ true) → option_map standing_of (over b (cond b (Some now) o)) ≡ overs b (option_map standing_of o)
  left true None k = clash (sym (k refl))
  left true (Some known) k = refl
  left false o k = refl

  by_answer : (a : LinkAnswer) → option_map standing_of (acted_on (step_of (states.Dialing sock) (inputs.Answered a) greater).1 (states.Dialing sock) (inputs.Answered a) end peer n (cond (sock == n) (Some now) o))
      ≡ acted_standing (step_of (states.Dialing sock) (inputs.Answered a) greater).1 (states.Dialing sock) (inputs.Answered a) (step_of (states.Dialing sock) (inputs.Answered a) greater).0 n (option_map standing_of o)
  by_answer links.Accepted = raised (sock == n) o there
  by_answer links.Crossed = left (sock == n) o there
  by_answer links.Invalid = left (sock == n) o there
  by_answer links.Mismatch = left (sock == n) o there

open_dialed : (socket : Socket) → socket.stage ≡ Open → socket.expected ≡ expected.Answer → standing_of socket ≡ IsOpen
open_dialed socket s e = ap (λ (stage : Stage). standing stage (stage_says stage socket.expected)) s ∙ ap (λ (x : Expected). standing Open (stage_says Open x)) e

open_up : (socket : Socket) (rest : List ℕ) → socket.stage ≡ Open → standing_of (taken_from socket rest) ≡ IsRisen
open_up socket rest s = ap (λ (stage : Stage). standing stage (stage_says stage expected.Frame)) s

-- the link hears an answer that was taken
hears_answer : (socket : Socket) (rest : List ℕ) (a : LinkAnswer) (host : HostState) (user : ℕ × Address) → IsFound socket host → socket.user ≡ Some user → socket.expected ≡ expected.Answer
    → AfterRead host socket.number (hears (inputs.Answered a) (link_with (with_socket (taken_from socket rest) host) user.0 user.1) (with_socket (taken_from socket rest) host))
hears_answer socket rest a host user f u e = by_done (hears (inputs.Answered a) link mid) (λ s. heard (inputs.Answered a) link mid (asked s)) where
  now : Socket
  now = taken_from socket rest

  mid : HostState
  mid = with_socket now host

  link : Link
  link = link_with mid user.0 user.1

  greater : Bool
  greater = is_greater (own_address mid link.end) link.peer

  key : (end : ℕ) (peer : Address) → is_for end peer socket.user ≡ is_link end peer link
  key end peer = let named = link_named mid user.0 user.1 in ap (is_for end peer) u ∙ sym (ap (λ (z : ℕ). is_user end peer (z, link.peer)) named.0 ∙ ap (λ (z : Address). is_user end peer (user.0, z)) named.1)

  mine : is_for user.0 user.1 socket.user ≡ true
  mine = ap (is_for user.0 user.1) u ∙ user_self user

  dialing : IsNamed host → link.state ≡ states.Dialing socket.number
  dialing s = says_dialed link.state socket.number (s.same user.0 user.1 socket.number ∙ ap (socket_says user.0 user.1) f.found ∙ ap (λ b. cond b (stage_says socket.stage socket.expected) Unnamed) mine ∙ ap (λ (x : Expected). stage_says socket.stage x) e ∙ ap (λ (stage : Stage). stage_says stage expected.Answer) f.stands)

  by_said : IsNamed host → (end : ℕ) (peer : Address) (n : ℕ) (k : Bool) → is_link end peer link ≡ k → (b : Bool) → (socket.number == n) ≡ b
      → cond k (heard_says (inputs.Answered a) (states.Dialing socket.number) n) (link_says (state_at host end peer) n) ≡ socket_says end peer (cond b (Some now) (find (is_socket n) host.sockets))
  by_said s end peer n true h true g = ap (λ b. cond b IsUp Unnamed) g ∙ sym (ap (λ b. cond b (stage_says socket.stage expected.Frame) Unnamed) (key end peer ∙ h) ∙ ap (λ (stage : Stage). stage_says stage expected.Frame) f.stands)
  by_said s end peer n true h false g = ap (λ b. cond b IsUp Unnamed) g ∙ sym (sym (s.same end peer n) ∙ ap (λ (state : LinkState). link_says state n) (at_key link host (at_found mid user.0 user.1) end peer h ∙ dialing s) ∙ ap (λ b. cond b Dialed Unnamed) g)
  by_said s end peer n false h true g = s.same end peer n ∙ ap (socket_says end peer) (found_there socket host n f.found g) ∙ ap (λ b. cond b (stage_says socket.stage socket.expected) Unnamed) (key end peer ∙ h) ∙ sym (ap (λ b. cond b (stage_says socket.stage expected.Frame) Unnamed) (key end peer ∙ h))
  by_said s end peer n false h false g = s.same end peer n

  by_fit : IsNamed host → (n : ℕ) (known : Socket) (b : Bool) → cond b (Some now) (find (is_socket n) host.sockets) ≡ Some known → IsFit known
  by_fit s n known true e = let is : now ≡ known = cc in subst IsFit is (fits_frame socket user u f.stands)
  by_fit s n known false e = s.fit n known e

  asked : IsNamed host → IsAsked (inputs.Answered a) link mid
  asked s = record {
    at = at_key link mid (at_found mid user.0 user.1);
    said = λ end peer n. ap (λ (state : LinkState). cond (is_link end peer link) (heard_says (inputs.Answered a) state n) (link_says (state_at host end peer) n)) (dialing s) ∙ by_said s end peer n (is_link end peer link) refl (socket.number == n) refl ∙ sym (ap (socket_says end peer) (find_stored now host.sockets n));
    free = λ k l. still_free socket.number (2 * k) socket now host mid (stored_changed now host) f.found (s.free k l);
    fit = λ n known e. by_fit s n known (socket.number == n) (sym (find_stored now host.sockets n) ∙ e);
    wants = tt;
    asks = tt;
  }

  there : (n : ℕ) → (socket.number == n) ≡ true → is_some (find (is_socket n) host.sockets) ≡ true
  there n h = ap is_some (found_there socket host n f.found h)

  told_stands : IsNamed host → (n : ℕ) → option_map standing_of (acted_on (step_of link.state (inputs.Answered a) greater).1 link.state (inputs.Answered a) link.end link.peer n (cond (socket.number == n) (Some now) (find (is_socket n) host.sockets)))
      ≡ acted_standing (step_of link.state (inputs.Answered a) greater).1 link.state (inputs.Answered a) (step_of link.state (inputs.Answered a) greater).0 n (standing_at host n)
  told_stands s n = subst (λ (state : LinkState). option_map standing_of (acted_on (step_of state (inputs.Answered a) greater).1 state (inputs.Answered a) link.end link.peer n (cond (socket.number == n) (Some now) (find (is_socket n) host.sockets)))
      ≡ acted_standing (step_of state (inputs.Answered a) greater).1 state (inputs.Answered a) (step_of state (inputs.Answered a) greater).0 n (standing_at host n))
      (sym (dialing s)) (answer_stands a greater socket.number now link.end link.peer n (find (is_socket n) host.sockets) (open_up socket rest f.stands) (there n))

  input_right : IsNamed host → InputRight (standing_at host) (inputs.Answered a) link.state
  input_right s = subst (λ (state : LinkState). InputRight (standing_at host) (inputs.Answered a) state) (sym (dialing s)) (ap (option_map standing_of) f.found ∙ ap Some (open_dialed socket f.stands e))

  by_done : (done : Stepped) → (IsNamed host → AllHeard (inputs.Answered a) link mid done) → AfterRead host socket.number done
  by_done (Ok done) h = λ s. let d = h s in (
    d.named,
    record {
      right = (read_right socket host f, d.right (standing_at host) (table_right link.state (inputs.Answered a) greater (standing_at host) (state_right host user.0 user.1 link.state s refl) (input_right s) tt));
      stands = λ n. ap (option_map standing_of) (d.socks n ∙ ap (acted_on (step_of link.state (inputs.Answered a) greater).1 link.state (inputs.Answered a) link.end link.peer n) (find_stored now host.sockets n)) ∙ told_stands s n ∙ sym (d.effect n (standing_at host n));
      odd = λ k none. d.odd k (still_free socket.number (2 * k + 1) socket now host mid (stored_changed now host) f.found none);
    },
  )
  by_done (Err stop) h = tt

pub read_answer : (socket : Socket) (rest : List ℕ) (answer : Answer) (host : HostState) (user : ℕ × Address) → IsFound socket host → socket.user ≡ Some user → socket.expected ≡ expected.Answer → AllGoes host (takes (taken_from socket rest) (items.Answer answer) host)
read_answer socket rest answer host user f u e = read_first host socket.number (reads now (items.Answer answer) mid) (by_user socket.user u) where
  now : Socket
  now = taken_from socket rest

  mid : HostState
  mid = with_socket now host

  by_user : (w : Option (ℕ × Address)) → w ≡ Some user → AfterRead host socket.number (elim w as (λ x. Stepped) [
    | None ↦ still mid
    | Some user ↦ reads_on now (link_with mid user.0 user.1) (items.Answer answer) mid
  ])
  by_user None k = absurd cc
  by_user (Some w) k = hears_answer socket rest (heard_answer answer) host w f (u ∙ sym k) e
