-- What an endpoint asks of its host leaves each record as it is, and answers no request.
use Rattle.std.proofs.Common.{◌≡◌, ◌≤◌, ℕ, ◌+◌, ◌*◌, Bool, true, false, cond, List, [], ◌∷◌, ◌++◌, Ok, Err, refl, sym, ap, ◌∙◌, subst, arith}
use Rattle.std.specs.Prelude.{find, ◌==◌, Result, Option, Some, None, nat_lt}
use Rattle.std.specs.Str.{bytes_eq}
use Rattle.ch_base.specs.declared.address.Address.{Address}
use Rattle.ch_base.specs.declared.memory.Stop.TheVariants as stops
use Rattle.ch_wire.specs.Spelling.{answer_spelling}
use Rattle.ch_wire.specs.declared.answer.Answer.TheVariants.{Accepted}
use Rattle.ch_wire.specs.declared.frame.Frame.{Frame}
use Rattle.ch_wire.specs.declared.frame.Frame.TheVariants as frames
use Rattle.ch_link.specs.Table.{step_of}
use Rattle.ch_link.specs.declared.LinkAct.{LinkAct}
use Rattle.ch_link.specs.declared.LinkIn.TheVariants as inputs
use Rattle.ch_link.specs.declared.LinkState.{LinkState}
use Rattle.ch_link.specs.declared.LinkState.TheVariants as states
use Rattle.ch_light.specs.Ids.{id_of, give_of, close_of}
use Rattle.ch_model.specs.declared.step.EndError.{EndError}
use Rattle.ch_model.specs.declared.step.Step.{Step}
use Rattle.ch_model.specs.declared.step.Step.TheVariants as steps
use Rattle.ch_model.specs.declared.step.Weight.{Weight}
use Rattle.ch_model.specs.declared.step.Weight.TheVariants.{Free}
use Rattle.ch_model.specs.Greater.{is_greater}
use Rattle.ch_model.specs.HostCalls.{◌>>=◌, stepped, of_ids, open_endpoint, wants, puts_and_wants, host_connect, carries, found_or, short_enough, has_room, host_send, host_close}
use Rattle.ch_model.specs.HostLinks.{most_dials, dialed, dials_for, does_act, hears}
use Rattle.ch_model.specs.HostState.{Link, Socket, HostState}
use Rattle.ch_model.specs.HostSteps.{Stepped, after_steps, ◌then◌, is_socket, own_address, link_with, with_link, with_socket}
use Rattle.ch_model.specs.HostWrites.{frame_step, puts}
use Rattle.ch_laws_log.proofs.HostTold.{find_stored}
use Rattle.ch_laws_log.proofs.Stored.{number_is}
use Rattle.ch_laws_writes.specs.Dues.{Due, Asking, Answering, Framing, due_of, due_at, due_past, due_after, due_after_all, Writes}
use Rattle.ch_laws_calls.specs.UsersRecords.{Users, IsStill, IsFree, Holds, first_written, Grows, AllGrow}
use Rattle.ch_laws_calls.proofs.UsersHolds.{is_same}

-- ---- one thing and then another

onward : (one two three : HostState) → Grows one two → Grows two three → Grows one three
onward one two three a b = record { free = b.free; same = λ n socket f. b.same n socket (a.same n socket f) }

chained : (host : HostState) (done : Stepped) (f : HostState → Stepped) → AllGrow host done → ((next : HostState) → AllGrow next (f next)) → AllGrow host (done then f)
chained host (Ok done) f a g = from (f done.1) (g done.1) where
  from : (more : Stepped) → AllGrow done.1 more → AllGrow host (after_steps done.0 more)
  from (Ok more) b = λ s. let one = a s in onward host done.1 more.1 one (b one.free)
  from (Err stop) b = tt
chained host (Err stop) f a g = tt

alike : (before after : HostState) → after.sockets ≡ before.sockets → after.dials ≡ before.dials → IsFree before → Grows before after
alike before after sockets dials s = record {
  free = λ k l. ap (find (is_socket (2 * k))) sockets ∙ s k (subst (λ (m : ℕ). m ≤ k) dials l);
  same = λ n socket f. ap (find (is_socket n)) sockets ∙ f;
}

-- what is so after a host that has another link
linked : (link : Link) (host : HostState) (done : Stepped) → AllGrow (with_link link host) done → AllGrow host done
linked link host (Ok done) f = λ s. let first = alike host (with_link link host) refl refl s in onward host (with_link link host) done.1 first (f first.free)
linked link host (Err stop) f = tt

-- the next socket is dialed
dials_next : (end : ℕ) (peer : Address) (host : HostState) → IsFree host → Grows host (with_socket (dialed (2 * host.dials) end peer) (record host { dials = host.dials + 1 }))
dials_next end peer host s = record {
  free = λ k l. find_stored new host.sockets (2 * k) ∙ by_free k l (2 * host.dials == 2 * k) refl;
  same = λ n socket f. find_stored new host.sockets n ∙ by_same n socket f (2 * host.dials == n) refl;
} where
  new : Socket
  new = dialed (2 * host.dials) end peer

  past : {A : Type 0} (d k : ℕ) → d + 1 ≤ k → 2 * d ≡ 2 * k → A
  past d k l e = let no : ⊥ = omega (arith, l, e) in absurd no

  below : (d k : ℕ) → d + 1 ≤ k → d ≤ k
  below d k l = omega (arith, l)

  same_as : (n : ℕ) → n ≤ n
  same_as n = omega arith

  by_free : (k : ℕ) → host.dials + 1 ≤ k → (b : Bool) → (2 * host.dials == 2 * k) ≡ b → cond b (Some new) (find (is_socket (2 * k)) host.sockets) ≡ None
  by_free k l true e = past host.dials k l (number_is (2 * host.dials) (2 * k) e)
  by_free k l false e = s k (below host.dials k l)

  by_same : (n : ℕ) (socket : Socket) → find (is_socket n) host.sockets ≡ Some socket → (b : Bool) → (2 * host.dials == n) ≡ b → cond b (Some new) (find (is_socket n) host.sockets) ≡ Some socket
  by_same n socket f true e = let gone : ◌≡◌ {A = Option Socket} (Some socket) None = sym f ∙ subst (λ (m : ℕ). find (is_socket m) host.sockets ≡ None) (number_is (2 * host.dials) n e) (s host.dials (same_as host.dials)) in absurd cc
  by_same n socket f false e = f

-- ---- what an endpoint asks

dialed_one : (link : Link) (host : HostState) → AllGrow host (dials_for (2 * host.dials) link host)
dialed_one link host = by_test (nat_lt host.dials most_dials) where
  by_test : (b : Bool) → AllGrow host (cond b (Ok (steps.Dial (2 * host.dials) link.end link.peer ∷ [], with_socket (dialed (2 * host.dials) link.end link.peer) (record host { dials = host.dials + 1 }))) (Err stops.Worn))
  by_test true = dials_next link.end link.peer host
  by_test false = tt

-- a link that wants a socket dials, or does nothing
wanted : (link : Link) (host : HostState) → AllGrow host (hears (inputs.Want (2 * host.dials)) link host)
unfolding step_of
wanted link host = by_state link.state where
  told : LinkState → LinkState × LinkAct
  told state = step_of state (inputs.Want (2 * host.dials)) (is_greater (own_address host link.end) link.peer)

  now : LinkState → Link
  now state = record link { state = (told state).0 }

  by_state : (state : LinkState) → AllGrow host (does_act (told state).1 state (inputs.Want (2 * host.dials)) (now state) (with_link (now state) host))
  by_state states.Idle = linked (now states.Idle) host (dials_for (2 * host.dials) (now states.Idle) (with_link (now states.Idle) host)) (dialed_one (now states.Idle) (with_link (now states.Idle) host))
  by_state (states.Dialing d) = alike host (with_link (now (states.Dialing d)) host) refl refl
  by_state states.AwaitOther = alike host (with_link (now states.AwaitOther) host) refl refl
  by_state (states.Up u probed) = alike host (with_link (now (states.Up u probed)) host) refl refl

put : (item : Frame × Weight) (link : Link) (host : HostState) → AllGrow host (puts item link host)
put item link host = by_state link.state where
  by_state : (state : LinkState) → AllGrow host (elim state as (λ x. Stepped) [
    | states.Up sock probed ↦ Ok (frame_step sock item ∷ [], with_link link host)
    | _ ↦ Ok ([], with_link (record link { waits = link.waits ++ item ∷ [] }) host)
  ])
  by_state (states.Up sock probed) = alike host (with_link link host) refl refl
  by_state (states.Dialing sock) = alike host (with_link (record link { waits = link.waits ++ item ∷ [] }) host) refl refl
  by_state states.Idle = alike host (with_link (record link { waits = link.waits ++ item ∷ [] }) host) refl refl
  by_state states.AwaitOther = alike host (with_link (record link { waits = link.waits ++ item ∷ [] }) host) refl refl

bound : {A : Type 0} (host : HostState) (given : Result A EndError) (f : A → Result (List Step × HostState) EndError) → ((x : A) → AllGrow host (f x)) → AllGrow host (given >>= f)
bound host (Ok x) f k = k x
bound host (Err e) f k = tt

asked_as : (host : HostState) (done : Stepped) → AllGrow host done → AllGrow host (stepped done)
asked_as host (Ok done) f = f
asked_as host (Err stop) f = tt

put_and_wanted : (item : Frame × Weight) (link : Link) (host : HostState) → AllGrow host (puts_and_wants item link host)
put_and_wanted item link host = chained host (puts item link host) (wants link.end link.peer) (put item link host) (λ next. wanted (link_with next link.end link.peer) next)

pub connected : (host : HostState) (end : ℕ) (peer : Address) (conn : ℕ) → AllGrow host (host_connect host end peer conn)
unfolding host_connect
connected host end peer conn = bound host (open_endpoint host end) _ (λ standing. bound host (of_ids (give_of (link_with host end peer).given conn)) _ (λ given. asked_as host _ (put_and_wanted (frames.Created given.0, Free) (record (link_with host end peer) { given = given.1 }) host)))

pub sent : (host : HostState) (end conn : ℕ) (payload : List ℕ) (weight : Weight) → AllGrow host (host_send host end conn payload weight)
unfolding host_send
sent host end conn payload weight =
    bound host (found_or (find (carries end conn) host.links)) _ (λ link. bound host (short_enough payload) _ (λ short. bound host (has_room link weight) _ (λ roomy. bound host (found_or (id_of link.given conn)) _ (λ id. asked_as host _ (put_and_wanted (frames.Data id short, weight) link host)))))

pub closed_conn : (host : HostState) (end conn : ℕ) → AllGrow host (host_close host end conn)
unfolding host_close
closed_conn host end conn =
    bound host (found_or (find (carries end conn) host.links)) _ (λ link. bound host (of_ids (close_of link.given conn)) _ (λ closed. asked_as host _ (put (frames.Closed closed.0, Free) (record link { given = closed.1 }) host)))

-- ---- so the records keep their users, and no request is answered

pub grown_holds : (may : Users) (before after : HostState) → Grows before after → Holds may before after
grown_holds may before after g = record { free = g.free; same = λ n socket f. subst (λ (o : Option Socket). IsStill (may n) socket o) (sym (g.same n socket f)) (is_same (may n) socket) }

-- something else than an answer is due
abbrev NoAnswer : Option Due → Type 0
NoAnswer (Some Answering) = ⊥
NoAnswer due = Unit {0}

past_answer : (bytes : List ℕ) (due : Option Due) → NoAnswer (due_past bytes due)
past_answer bytes None = tt
past_answer bytes (Some (Asking end peer)) = tt
past_answer bytes (Some Answering) = by_test (bytes_eq bytes (answer_spelling Accepted)) where
  by_test : (b : Bool) → NoAnswer (cond b (Some Framing) None)
  by_test true = tt
  by_test false = tt
past_answer bytes (Some Framing) = tt

either : (b : Bool) (one two : Option Due) → NoAnswer one → NoAnswer two → NoAnswer (cond b one two)
either true one two p q = p
either false one two p q = q

none_later : (n : ℕ) (step : Step) (due : Option Due) → NoAnswer due → NoAnswer (due_after n step due)
none_later n (steps.Dial sock end peer) due p = either (sock == n) (Some (Asking end peer)) due tt p
none_later n (steps.Write sock bytes said) due p = either (sock == n) (due_past bytes due) due (past_answer bytes due) p
none_later n (steps.Down sock) due p = either (sock == n) None due tt p
none_later n (steps.Left sock) due p = either (sock == n) None due tt p
none_later n (steps.Read sock) due p = p
none_later n (steps.Up sock) due p = p
none_later n (steps.Broke end peer why) due p = p
none_later n (steps.Post end event) due p = p

never_again : (n : ℕ) (told : List Step) (due : Option Due) → NoAnswer due → NoAnswer (due_after_all n told due)
never_again n [] due p = p
never_again n (step ∷ rest) due p = never_again n rest (due_after n step due) (none_later n step due p)

lost : {A : Type 0} (n : ℕ) (told : List Step) (due : Option Due) → NoAnswer due → due_after_all n told due ≡ Some Answering → A
lost n told due p e = let no : NoAnswer (Some Answering) = subst NoAnswer e (never_again n told due p) in absurd no

-- where an answer is due still, nothing was written
abbrev Later : ℕ → List Step → Type 0
Later n rest = due_after_all n rest (Some Answering) ≡ Some Answering → first_written n rest ≡ None

pub unwritten : (n : ℕ) (told : List Step) → due_after_all n told (Some Answering) ≡ Some Answering → first_written n told ≡ None
unwritten n [] e = refl
unwritten n (steps.Dial sock end peer ∷ rest) e = by_test (sock == n) (unwritten n rest) e where
  by_test : (b : Bool) → Later n rest → due_after_all n rest (cond b (Some (Asking end peer)) (Some Answering)) ≡ Some Answering → first_written n rest ≡ None
  by_test true more e = lost n rest (Some (Asking end peer)) tt e
  by_test false more e = more e
unwritten n (steps.Write sock bytes said ∷ rest) e = by_test (sock == n) (unwritten n rest) e where
  by_test : (b : Bool) → Later n rest → due_after_all n rest (cond b (due_past bytes (Some Answering)) (Some Answering)) ≡ Some Answering → cond b (Some bytes) (first_written n rest) ≡ None
  by_test true more e = lost n rest (due_past bytes (Some Answering)) (past_answer bytes (Some Answering)) e
  by_test false more e = more e
unwritten n (steps.Down sock ∷ rest) e = by_test (sock == n) (unwritten n rest) e where
  by_test : (b : Bool) → Later n rest → due_after_all n rest (cond b None (Some Answering)) ≡ Some Answering → first_written n rest ≡ None
  by_test true more e = lost n rest None tt e
  by_test false more e = more e
unwritten n (steps.Left sock ∷ rest) e = by_test (sock == n) (unwritten n rest) e where
  by_test : (b : Bool) → Later n rest → due_after_all n rest (cond b None (Some Answering)) ≡ Some Answering → first_written n rest ≡ None
  by_test true more e = lost n rest None tt e
  by_test false more e = more e
unwritten n (steps.Read sock ∷ rest) e = unwritten n rest e
unwritten n (steps.Up sock ∷ rest) e = unwritten n rest e
unwritten n (steps.Broke end peer why ∷ rest) e = unwritten n rest e
unwritten n (steps.Post end event ∷ rest) e = unwritten n rest e

-- a host whose records all stand writes no answer
pub grown_silent : (own : ℕ → Address) (before after : HostState) (told : List Step) (n : ℕ) → Grows before after → Writes own (due_at before) told (due_at after) → due_at before n ≡ Some Answering → first_written n told ≡ None
grown_silent own before after told n g w due = by_socket (find (is_socket n) before.sockets) refl due where
  by_socket : (o : Option Socket) → find (is_socket n) before.sockets ≡ o → due_of o ≡ Some Answering → first_written n told ≡ None
  by_socket None f e = absurd cc
  by_socket (Some socket) f e = unwritten n told (sym (ap (due_after_all n told) due) ∙ sym (w.leads n) ∙ ap due_of (g.same n socket f) ∙ e)
