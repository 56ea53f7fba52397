-- What happens to a host's sockets and timers, and what an endpoint asks, keeps links and sockets saying the same of each other.
use Rattle.std.proofs.Common.{◌≡◌, ℕ, ◌+◌, ◌*◌, Bool, true, false, cond, List, [], ◌∷◌, ◌++◌, Ok, Err, refl, sym, ap, ◌∙◌, subst, arith}
use Rattle.std.proofs.lemmas.Bool.{eqb-true}
use Rattle.std.proofs.lemmas.Bool.Decides.{nat_tests}
use Rattle.std.specs.Option.{option_map}
use Rattle.std.specs.Prelude.{◌==◌, find, Result, Option, Some, None}
use Rattle.ch_base.specs.declared.address.Address.{Address}
use Rattle.ch_base.specs.declared.event.Event.TheVariants as told_events
use Rattle.ch_wire.specs.Spelling.{request_spelling}
use Rattle.ch_wire.specs.declared.frame.Frame.{Frame}
use Rattle.ch_wire.specs.declared.frame.Frame.TheVariants as frames
use Rattle.ch_reader.specs.declared.item.Expected.{Expected}
use Rattle.ch_reader.specs.declared.item.Expected.TheVariants as expected
use Rattle.ch_link.specs.declared.LinkIn.TheVariants as inputs
use Rattle.ch_link.specs.declared.LinkState.{LinkState}
use Rattle.ch_link.specs.declared.LinkState.TheVariants as states
use Rattle.ch_light.specs.Ids.{id_of, give_of, close_of}
use Rattle.ch_model.specs.declared.step.EndError.{EndError}
use Rattle.ch_model.specs.declared.step.SocketEvent.{SocketEvent}
use Rattle.ch_model.specs.declared.step.SocketEvent.TheVariants as events
use Rattle.ch_model.specs.declared.step.Step.{Step}
use Rattle.ch_model.specs.declared.step.Step.TheVariants as steps
use Rattle.ch_model.specs.declared.step.Weight.{Weight}
use Rattle.ch_model.specs.declared.step.Weight.TheVariants.{Free}
use Rattle.ch_model.specs.Host.{on_socket, joins, accepted, keeps, host_on}
use Rattle.ch_model.specs.HostCalls.{◌>>=◌, stepped, of_ids, open_endpoint, wants, puts_and_wants, host_connect, carries, found_or, short_enough, has_room, host_send, host_close, shuts_links, closes_endpoint, host_close_endpoint, host_timer_runs}
use Rattle.ch_model.specs.HostItems.{posts, is_gone}
use Rattle.ch_model.specs.HostLinks.{next_dial, hears}
use Rattle.ch_model.specs.HostState.{Endpoint, Link, Socket, HostState}
use Rattle.ch_model.specs.HostSteps.{Stepped, still, ◌then◌, own_address, is_endpoint, link_or_new, link_with, with_link, with_socket, is_socket}
use Rattle.ch_model.specs.HostWrites.{writes, puts, frame_step}
use Rattle.ch_model.specs.Stages.{Stage, Pending, Open, Ended, is_pending, is_open, is_ended}
use Rattle.ch_laws_log.proofs.HostTold.{find_stored, number_found}
use Rattle.ch_laws_links.specs.Naming.{Word, Unnamed, Dialed, IsUp, stage_says, is_for, socket_says, Fits, IsFit, LinksApart}
use Rattle.ch_laws_links.specs.Standing.{Standing, IsPending, IsOpen, standing, standing_of, standing_at, is_there, joined, standing_heard, ComesFree}
use Rattle.ch_laws_links.proofs.Keys.{number_self, state_at}
use Rattle.ch_laws_links.proofs.Acts.{there_risen}
use Rattle.ch_laws_links.proofs.Hears.{IsNamed, state_right}
use Rattle.ch_laws_links.proofs.Goes.{AllGoes, Alike, chained, plain_goes, alike, at_rest, at_found, hears_own}
use Rattle.ch_laws_links.proofs.Ends.{kept_link, changed_named, changed_rises, tells_nothing, stored_changed, gone}
use Rattle.ch_laws_links.proofs.Items.{posted}
use Rattle.ch_laws_links.proofs.Links.{found_link}

-- ---- events

-- the host once the event's end is open
abbrev pub opened_by : SocketEvent → HostState → HostState
opened_by (events.Joined sock) host = elim (find (is_socket sock) host.sockets) [
  | None ↦ host
  | Some socket ↦ cond (is_pending socket.stage) (with_socket (record socket { stage = Open }) host) host
]
opened_by (events.Came sock peer_host) host = with_socket (accepted sock peer_host) host
opened_by event host = host

-- the end is open, nothing is told of it, and then what is told is so
pub record Opened (event : SocketEvent) (host : HostState) (done : Stepped) : Type 0 where
  pub named : IsNamed (opened_by event host)
  pub stands : (n : ℕ) → standing_at (opened_by event host) n ≡ standing_heard event n (standing_at host n)
  pub goes : AllGoes (opened_by event host) done

stage_is : (test : Stage → Bool) (stage : Stage) → (test Ended ≡ false) → test stage ≡ true → is_ended stage ≡ false
stage_is test Pending n e = refl
stage_is test Open n e = refl
stage_is test Ended n e = cc

on_one : (test : Stage → Bool) (sock : ℕ) (f : Socket → HostState → Stepped) (host : HostState) → ((socket : Socket) → find (is_socket socket.number) host.sockets ≡ Some socket → test socket.stage ≡ true → AllGoes host (f socket host)) → AllGoes host (on_socket test sock f host)
on_one test sock f host each = by_socket (find (is_socket sock) host.sockets) refl where
  by_test : (socket : Socket) → find (is_socket sock) host.sockets ≡ Some socket → (b : Bool) → test socket.stage ≡ b → AllGoes host (cond b (f socket host) (still host))
  by_test socket found true e = each socket (subst (λ (n : ℕ). find (is_socket n) host.sockets ≡ Some socket) (sym (number_found sock host.sockets socket found)) found) e
  by_test socket found false e = at_rest host

  by_socket : (o : Option Socket) → find (is_socket sock) host.sockets ≡ o → AllGoes host (elim o as (λ x. Stepped) [
    | None ↦ still host
    | Some socket ↦ cond (test socket.stage) (f socket host) (still host)
  ])
  by_socket None found = at_rest host
  by_socket (Some socket) found = by_test socket found (test socket.stage) refl

fed_kept : (bytes : List ℕ) (host : HostState) (socket : Socket) → find (is_socket socket.number) host.sockets ≡ Some socket → AllGoes host (keeps bytes socket host)
fed_kept bytes host socket found = λ s. (
  changed_named socket.number socket now host (with_socket now host) (stored_changed now host) found (s.fit socket.number socket found) (λ end peer. refl) s,
  changed_rises socket.number socket now host (with_socket now host) [] (λ x. x) (stored_changed now host) found (λ n x. tells_nothing socket.number n x) refl tt,
) where
  now : Socket
  now = record socket { since = socket.since ++ bytes }

-- an event that opens no end
unopened : (event : SocketEvent) (host : HostState) (done : Stepped) → IsNamed host → opened_by event host ≡ host → ((n : ℕ) → standing_at host n ≡ standing_heard event n (standing_at host n)) → AllGoes host done → Opened event host done
unopened event host done s e stands goes = record {
  named = subst IsNamed (sym e) s;
  stands = λ n. ap (λ (h : HostState). standing_at h n) e ∙ stands n;
  goes = subst (λ (h : HostState). AllGoes h done) (sym e) goes;
}

-- ---- an end that is joined

fit_joined : (host : Option (List ℕ)) (stage : Stage) (user : Option (ℕ × Address)) (e : Expected) → stage ≡ Pending → Fits host stage user e → Fits host Open user e × (stage_says Open e ≡ stage_says stage e) × (standing Open (stage_says Open e) ≡ IsOpen)
fit_joined None Pending (Some user) expected.Answer p f = (tt, refl, refl)
fit_joined None Pending (Some user) expected.Request p f = absurd f
fit_joined None Pending (Some user) expected.Frame p f = absurd f
fit_joined None Pending None expected.Request p f = absurd f
fit_joined None Pending None expected.Answer p f = absurd f
fit_joined None Pending None expected.Frame p f = absurd f
fit_joined (Some host) Pending (Some user) expected.Request p f = absurd f
fit_joined (Some host) Pending (Some user) expected.Answer p f = absurd f
fit_joined (Some host) Pending (Some user) expected.Frame p f = absurd f
fit_joined (Some host) Pending None expected.Request p f = absurd f
fit_joined (Some host) Pending None expected.Answer p f = absurd f
fit_joined (Some host) Pending None expected.Frame p f = absurd f
fit_joined host Open user e p f = absurd cc
fit_joined host Ended user e p f = absurd cc

fit_user : (host : Option (List ℕ)) (stage : Stage) (e : Expected) → stage ≡ Pending → Fits host stage None e → ⊥
fit_user None Pending expected.Request p f = f
fit_user None Pending expected.Answer p f = f
fit_user None Pending expected.Frame p f = f
fit_user (Some host) Pending expected.Request p f = f
fit_user (Some host) Pending expected.Answer p f = f
fit_user (Some host) Pending expected.Frame p f = f
fit_user host Open e p f = absurd cc
fit_user host Ended e p f = absurd cc

joins_one : (socket : Socket) (host : HostState) → find (is_socket socket.number) host.sockets ≡ Some socket → socket.stage ≡ Pending → IsNamed host
    → IsNamed (with_socket (record socket { stage = Open }) host) × ((n : ℕ) → standing_at (with_socket (record socket { stage = Open }) host) n ≡ cond (socket.number == n) (joined (standing_at host n)) (standing_at host n)) × AllGoes (with_socket (record socket { stage = Open }) host) (joins socket host)
joins_one socket host found p s = (
  changed_named socket.number socket now host opened (stored_changed now host) found fits.0 (λ end peer. ap (λ (w : Word). cond (is_for end peer socket.user) w Unnamed) fits.1) s,
  λ n. ap (option_map standing_of) (find_stored now host.sockets n) ∙ by_stands n (socket.number == n) refl,
  by_user socket.user refl,
) where
  now : Socket
  now = record socket { stage = Open }

  opened : HostState
  opened = with_socket now host

  fits : Fits socket.peer_host Open socket.user socket.expected × (stage_says Open socket.expected ≡ stage_says socket.stage socket.expected) × (standing Open (stage_says Open socket.expected) ≡ IsOpen)
  fits = fit_joined socket.peer_host socket.stage socket.user socket.expected p (s.fit socket.number socket found)

  was : standing_of socket ≡ IsPending
  was = ap (λ (stage : Stage). standing stage (stage_says stage socket.expected)) p

  by_stands : (n : ℕ) (b : Bool) → (socket.number == n) ≡ b → option_map standing_of (cond b (Some now) (find (is_socket n) host.sockets)) ≡ cond b (joined (standing_at host n)) (standing_at host n)
  by_stands n true h = ap Some fits.2 ∙ sym (ap (λ (o : Option Socket). joined (option_map standing_of o)) (subst (λ (m : ℕ). find (is_socket m) host.sockets ≡ Some socket) (eqb-true socket.number n h) found) ∙ ap (λ (x : Standing). joined (Some x)) was)
  by_stands n false h = refl

  at_opened : standing_at opened socket.number ≡ Some IsOpen
  at_opened = ap (option_map standing_of) (find_stored now host.sockets socket.number ∙ ap (λ b. cond b (Some now) (find (is_socket socket.number) host.sockets)) (number_self socket.number)) ∙ ap Some fits.2

  by_user : (user : Option (ℕ × Address)) → socket.user ≡ user → AllGoes opened (elim user as (λ x. Stepped) [
    | None ↦ still host
    | Some user ↦ writes socket.number (request_spelling (record { target = user.1.id; from = own_address host user.0 })) opened
  ])
  by_user None u = absurd (fit_user socket.peer_host socket.stage socket.expected p (subst (λ (w : Option (ℕ × Address)). Fits socket.peer_host socket.stage w socket.expected) u (s.fit socket.number socket found)))
  by_user (Some user) u = plain_goes opened opened (steps.Write socket.number (request_spelling (record { target = user.1.id; from = own_address host user.0 })) None ∷ []) (alike opened) (tt, tt) (λ s. (ap is_there at_opened, tt))

pending_is : (stage : Stage) → is_pending stage ≡ true → stage ≡ Pending
pending_is Pending e = refl
pending_is Open e = absurd cc
pending_is Ended e = absurd cc

not_pending : (stage : Stage) (w : Word) → is_pending stage ≡ false → joined (Some (standing stage w)) ≡ Some (standing stage w)
not_pending Pending w e = absurd cc
not_pending Ended w e = refl
not_pending Open Unnamed e = refl
not_pending Open Dialed e = refl
not_pending Open IsUp e = refl

same_test : (sock : ℕ) (n : ℕ) (now : Option Standing) → ((sock == n) ≡ true → joined now ≡ now) → now ≡ cond (sock == n) (joined now) now
same_test sock n now k = by_test (sock == n) refl where
  by_test : (b : Bool) → (sock == n) ≡ b → now ≡ cond b (joined now) now
  by_test true h = sym (k h)
  by_test false h = refl

-- a host whose end of this socket is open, and what follows there
abbrev OpensAt : ℕ → HostState → HostState → Stepped → Type 0
OpensAt sock host opened done = IsNamed opened × ((n : ℕ) → standing_at opened n ≡ cond (sock == n) (joined (standing_at host n)) (standing_at host n)) × AllGoes opened done

joins_event : (sock : ℕ) (host : HostState) → IsNamed host → Opened (events.Joined sock) host (on_socket is_pending sock joins host)
joins_event sock host s = by_socket (find (is_socket sock) host.sockets) refl where
  found_at : (o : Option Socket) (n : ℕ) → find (is_socket sock) host.sockets ≡ o → (sock == n) ≡ true → find (is_socket n) host.sockets ≡ o
  found_at o n found h = subst (λ (m : ℕ). find (is_socket m) host.sockets ≡ o) (eqb-true sock n h) found

  by_test : (socket : Socket) → find (is_socket sock) host.sockets ≡ Some socket → (b : Bool) → is_pending socket.stage ≡ b → OpensAt sock host (cond b (with_socket (record socket { stage = Open }) host) host) (cond b (joins socket host) (still host))
  by_test socket found true e = let number = number_found sock host.sockets socket found in
      let one = joins_one socket host (subst (λ (n : ℕ). find (is_socket n) host.sockets ≡ Some socket) (sym number) found) (pending_is socket.stage e) s in
      (one.0, (λ n. one.1 n ∙ ap (λ (m : ℕ). cond (m == n) (joined (standing_at host n)) (standing_at host n)) number), one.2)
  by_test socket found false e = (s, (λ n. same_test sock n (standing_at host n) (λ h. ap (λ (o : Option Socket). joined (option_map standing_of o)) (found_at (Some socket) n found h) ∙ not_pending socket.stage (stage_says socket.stage socket.expected) e ∙ sym (ap (option_map standing_of) (found_at (Some socket) n found h)))), at_rest host)

  opens : (o : Option Socket) → find (is_socket sock) host.sockets ≡ o → OpensAt sock host (elim o as (λ x. HostState) [
    | None ↦ host
    | Some socket ↦ cond (is_pending socket.stage) (with_socket (record socket { stage = Open }) host) host
  ]) (elim o as (λ x. Stepped) [
    | None ↦ still host
    | Some socket ↦ cond (is_pending socket.stage) (joins socket host) (still host)
  ])
  opens None found = (s, (λ n. same_test sock n (standing_at host n) (λ h. ap (λ (o : Option Socket). joined (option_map standing_of o)) (found_at None n found h) ∙ sym (ap (option_map standing_of) (found_at None n found h)))), at_rest host)
  opens (Some socket) found = by_test socket found (is_pending socket.stage) refl

  by_socket : (o : Option Socket) → find (is_socket sock) host.sockets ≡ o → Opened (events.Joined sock) host (on_socket is_pending sock joins host)
  by_socket o found = let done = opens (find (is_socket sock) host.sockets) refl in record { named = done.0; stands = done.1; goes = done.2 }

-- ---- an end that comes

comes_event : (sock : ℕ) (peer_host : List ℕ) (host : HostState) → (k : ℕ) × (sock ≡ 2 * k + 1) × (find (is_socket sock) host.sockets ≡ None) → IsNamed host → Opened (events.Came sock peer_host) host (still (with_socket (accepted sock peer_host) host))
comes_event sock peer_host host free s = record { named = named; stands = λ n. ap (option_map standing_of) (find_stored now host.sockets n) ∙ by_stands n (sock == n); goes = at_rest after } where
  now : Socket
  now = accepted sock peer_host

  after : HostState
  after = with_socket now host

  odd_even : (m : ℕ) → (sock == 2 * m) ≡ false
  odd_even m = apart sock free.0 m free.1 where
    apart : (a k m : ℕ) → a ≡ 2 * k + 1 → (a == 2 * m) ≡ false
    apart a k m e = grind (arith, nat_tests)

  by_fit : (n : ℕ) (socket : Socket) (b : Bool) → cond b (Some now) (find (is_socket n) host.sockets) ≡ Some socket → IsFit socket
  by_fit n socket true e = let is : now ≡ socket = cc in subst IsFit is tt
  by_fit n socket false e = s.fit n socket e

  by_says : (end : ℕ) (peer : Address) (n : ℕ) (b : Bool) → (sock == n) ≡ b → socket_says end peer (find (is_socket n) host.sockets) ≡ socket_says end peer (cond b (Some now) (find (is_socket n) host.sockets))
  by_says end peer n true h = ap (socket_says end peer) (subst (λ (m : ℕ). find (is_socket m) host.sockets ≡ None) (eqb-true sock n h) free.2)
  by_says end peer n false h = refl

  named : IsNamed after
  named = record {
    free = λ k l. find_stored now host.sockets (2 * k) ∙ ap (λ b. cond b (Some now) (find (is_socket (2 * k)) host.sockets)) (odd_even k) ∙ s.free k l;
    fit = λ n socket e. by_fit n socket (sock == n) (sym (find_stored now host.sockets n) ∙ e);
    same = λ end peer n. s.same end peer n ∙ by_says end peer n (sock == n) refl ∙ sym (ap (socket_says end peer) (find_stored now host.sockets n));
  }

  by_stands : (n : ℕ) (b : Bool) → option_map standing_of (cond b (Some now) (find (is_socket n) host.sockets)) ≡ cond b (Some IsOpen) (standing_at host n)
  by_stands n true = refl
  by_stands n false = refl

pub event_goes : (host : HostState) (event : SocketEvent) → ComesFree host event → IsNamed host → Opened event host (host_on host event)
unfolding host_on
event_goes host (events.Joined sock) f s = joins_event sock host s
event_goes host (events.Came sock peer_host) f s = comes_event sock peer_host host f s
event_goes host (events.Refused sock) f s = unopened (events.Refused sock) host _ s refl (λ n. refl) (on_one is_pending sock is_gone host (λ socket found e. gone socket host found (stage_is is_pending socket.stage refl e)))
event_goes host (events.Fed sock bytes) f s = unopened (events.Fed sock bytes) host _ s refl (λ n. refl) (on_one is_open sock (keeps bytes) host (λ socket found e. fed_kept bytes host socket found))
event_goes host (events.Ended sock) f s = unopened (events.Ended sock) host _ s refl (λ n. refl) (on_one is_open sock is_gone host (λ socket found e. gone socket host found (stage_is is_open socket.stage refl e)))
event_goes host (events.Lost sock) f s = unopened (events.Lost sock) host _ s refl (λ n. refl) (on_one is_open sock is_gone host (λ socket found e. gone socket host found (stage_is is_open socket.stage refl e)))
event_goes host (events.Late end peer) f s = unopened (events.Late end peer) host _ s refl (λ n. refl) (by_test (host_timer_runs host end peer)) where
  by_test : (b : Bool) → AllGoes host (cond b (hears inputs.Late (link_with host end peer) host) (still host))
  by_test true = hears_own inputs.Late (link_with host end peer) host tt tt (at_found host end peer)
  by_test false = at_rest host

-- ---- what an endpoint asks

put : (item : Frame × Weight) (link : Link) (host : HostState) → state_at host link.end link.peer ≡ link.state → AllGoes host (puts item link host)
put item link host at = by_state link.state refl where
  by_state : (state : LinkState) → link.state ≡ state → AllGoes host (elim state as (λ x. Stepped) [
    | states.Up sock probed ↦ Ok (frame_step sock item ∷ [], with_link link host)
    | _ ↦ Ok ([], with_link (record link { waits = link.waits ++ item ∷ [] }) host)
  ])
  by_state (states.Up sock probed) e = plain_goes host (with_link link host) (frame_step sock item ∷ []) (kept_link link host at) (tt, tt) (λ s. (there_risen (standing_at host sock) (state_right host link.end link.peer (states.Up sock probed) s (at ∙ e)), tt))
  by_state (states.Dialing sock) e = plain_goes host _ [] (kept_link (record link { waits = link.waits ++ item ∷ [] }) host at) tt (λ s. tt)
  by_state states.Idle e = plain_goes host _ [] (kept_link (record link { waits = link.waits ++ item ∷ [] }) host at) tt (λ s. tt)
  by_state states.AwaitOther e = plain_goes host _ [] (kept_link (record link { waits = link.waits ++ item ∷ [] }) host at) tt (λ s. tt)

put_and_wanted : (item : Frame × Weight) (link : Link) (host : HostState) → state_at host link.end link.peer ≡ link.state → AllGoes host (puts_and_wants item link host)
put_and_wanted item link host at = chained host (puts item link host) (wants link.end link.peer) (put item link host at) (λ next. hears_own (inputs.Want (next_dial next)) (link_with next link.end link.peer) next tt refl (at_found next link.end link.peer))

bound : {A : Type 0} (host : HostState) (given : Result A EndError) (f : A → Result (List Step × HostState) EndError) → ((x : A) → given ≡ Ok x → AllGoes host (f x)) → AllGoes host (given >>= f)
bound host (Ok x) f k = k x refl
bound host (Err e) f k = tt

as_asked : (host : HostState) (done : Stepped) → AllGoes host done → AllGoes host (stepped done)
as_asked host (Ok done) f = f
as_asked host (Err stop) f = tt

pub connected : (host : HostState) (end : ℕ) (peer : Address) (conn : ℕ) → AllGoes host (host_connect host end peer conn)
unfolding host_connect
connected host end peer conn = bound host (open_endpoint host end) _ (λ standing e. bound host (of_ids (give_of (link_with host end peer).given conn)) _ (λ given e. as_asked host _ (put_and_wanted (frames.Created given.0, Free) (record (link_with host end peer) { given = given.1 }) host (at_found host end peer))))

-- the link that carries the connection is kept at its endpoint and peer
carried : (host : HostState) (test : Link → Bool) (link : Link) → LinksApart host.links → found_or (find test host.links) ≡ Ok link → state_at host link.end link.peer ≡ link.state
carried host test link a e = ap (λ (o : Option Link). (link_or_new link.end link.peer o).state) (found_link test host.links link a (some_of (find test host.links) e)) where
  some_of : (o : Option Link) → found_or o ≡ Ok link → o ≡ Some link
  some_of (Some known) e = ap Some cc
  some_of None e = absurd cc

pub sent : (host : HostState) (end conn : ℕ) (payload : List ℕ) (weight : Weight) → LinksApart host.links → AllGoes host (host_send host end conn payload weight)
unfolding host_send
sent host end conn payload weight a =
    bound host (found_or (find (carries end conn) host.links)) _ (λ link e. bound host (short_enough payload) _ (λ short e2. bound host (has_room link weight) _ (λ roomy e3. bound host (found_or (id_of link.given conn)) _ (λ id e4. as_asked host _ (put_and_wanted (frames.Data id short, weight) link host (carried host (carries end conn) link a e))))))

pub closed_conn : (host : HostState) (end conn : ℕ) → LinksApart host.links → AllGoes host (host_close host end conn)
unfolding host_close
closed_conn host end conn a =
    bound host (found_or (find (carries end conn) host.links)) _ (λ link e. bound host (of_ids (close_of link.given conn)) _ (λ closed e2. as_asked host _ (put (frames.Closed closed.0, Free) (record link { given = closed.1 }) host (carried host (carries end conn) link a e))))

shut_links : (end : ℕ) (links : List Link) (host : HostState) → AllGoes host (shuts_links end links host)
shut_links end [] host = at_rest host
shut_links end (link ∷ rest) host = by_test (link.end == end) (shut_links end rest) where
  by_test : (b : Bool) → ((next : HostState) → AllGoes next (shuts_links end rest next)) → AllGoes host (cond b (hears inputs.Shut (link_with host end link.peer) host) (still host) then shuts_links end rest)
  by_test true k = chained host (hears inputs.Shut (link_with host end link.peer) host) (shuts_links end rest) (hears_own inputs.Shut (link_with host end link.peer) host tt tt (at_found host end link.peer)) k
  by_test false k = chained host (still host) (shuts_links end rest) (at_rest host) k

closed_end : (o : Option Endpoint) (host : HostState) → Alike host (closes_endpoint o host)
closed_end None host = alike host
closed_end (Some endpoint) host = record { states = λ end peer. refl; sockets = refl; dials = refl }

pub endpoint_closed : (host : HostState) (end : ℕ) → AllGoes host (host_close_endpoint host end)
unfolding host_close_endpoint
endpoint_closed host end =
    bound host (open_endpoint host end) _ (λ standing e. as_asked host _ (chained host (shuts_links end host.links host) (λ shut. posts end told_events.EndPointClosed (closes_endpoint (find (is_endpoint end) shut.ends) shut)) (shut_links end host.links host)
    (λ next. posted end told_events.EndPointClosed next (closes_endpoint (find (is_endpoint end) next.ends) next) (closed_end (find (is_endpoint end) next.ends) next))))
