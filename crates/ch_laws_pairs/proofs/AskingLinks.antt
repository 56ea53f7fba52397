-- What a host does for its links tells who asks on its ends.
use Rattle.std.proofs.Common.{◌≡◌, ℕ, ◌+◌, ◌*◌, Bool, true, false, cond, List, [], ◌∷◌, ◌++◌, Ok, Err, refl, sym, subst}
use Rattle.std.specs.Prelude.{nat_lt, None}
use Rattle.ch_base.specs.declared.memory.Stop.TheVariants as stops
use Rattle.ch_wire.specs.Spelling.{answer_spelling, frame_spelling}
use Rattle.ch_wire.specs.declared.answer.Answer.{Answer}
use Rattle.ch_wire.specs.declared.answer.Answer.TheVariants as answers
use Rattle.ch_wire.specs.declared.frame.Frame.{Frame}
use Rattle.ch_wire.specs.declared.frame.Frame.TheVariants as frames
use Rattle.ch_base.specs.declared.event.Event.TheVariants as events
use Rattle.ch_base.specs.declared.event.Why.{Why}
use Rattle.ch_link.specs.Table.{step_of}
use Rattle.ch_link.specs.declared.LinkAct.{LinkAct}
use Rattle.ch_link.specs.declared.LinkAct.TheVariants as acts
use Rattle.ch_link.specs.declared.LinkAnswer.TheVariants as links
use Rattle.ch_link.specs.declared.LinkIn.{LinkIn}
use Rattle.ch_link.specs.declared.LinkIn.TheVariants as inputs
use Rattle.ch_link.specs.declared.LinkState.{LinkState}
use Rattle.ch_link.specs.declared.LinkState.TheVariants as states
use Rattle.ch_model.specs.declared.step.Step.TheVariants as steps
use Rattle.ch_model.specs.declared.step.Weight.{Weight}
use Rattle.ch_model.specs.Greater.{is_greater}
use Rattle.ch_model.specs.HostLinks.{most_dials, dialed, dials_for, accepts_on, asked_on, wanted_on, fails_with, says_closed, raised, acknowledged, does_act, hears}
use Rattle.ch_model.specs.HostState.{Link, HostState}
use Rattle.ch_model.specs.HostSteps.{Stepped, still, does, ◌then◌, own_address, with_link, with_socket}
use Rattle.ch_model.specs.HostWrites.{writes, leaves, answers_and_leaves, flushes_to, puts, frame_step, forgotten, leaves_off}
use Rattle.ch_laws_pairs.specs.Askers.{AllAsk}
use Rattle.ch_laws_pairs.proofs.Asking.{chained, from_asked, same, at_rest, plain_first, frames_first, ends, ends_down, dials_next}

-- one plain step
one_plain : (host : HostState) (sock : ℕ) (bytes : List ℕ) → AllAsk host (writes sock bytes host)
one_plain host sock bytes = λ s. plain_first (steps.Write sock bytes None) tt host host [] (at_rest host s)

pub answered : (sock : ℕ) (answer : Answer) (host : HostState) → AllAsk host (answers_and_leaves sock answer host)
answered sock answer host = chained host (writes sock (answer_spelling answer) host) (leaves sock) (one_plain host sock (answer_spelling answer)) (λ next. ends sock next)

pub left_off : (state : LinkState) (host : HostState) → AllAsk host (leaves_off state host)
left_off (states.Up sock probed) host = ends_down sock host
left_off (states.Dialing sock) host = ends sock host
left_off states.Idle host = at_rest host
left_off states.AwaitOther host = at_rest host

-- the number that an input wants is the next dial's
abbrev pub WantsNext : LinkIn → HostState → Type 0
WantsNext (inputs.Want sock) host = sock ≡ 2 * host.dials
WantsNext input host = Unit {0}

dialed_one : (sock : ℕ) (link : Link) (host : HostState) → sock ≡ 2 * host.dials → AllAsk host (dials_for sock link host)
dialed_one sock link host e = subst (λ (n : ℕ). AllAsk host (dials_for n link host)) (sym e) (by_test (nat_lt host.dials most_dials)) where
  by_test : (b : Bool) → AllAsk host (cond b (Ok (steps.Dial (2 * host.dials) link.end link.peer ∷ [], with_socket (dialed (2 * host.dials) link.end link.peer) (record host { dials = host.dials + 1 }))) (Err stops.Worn))
  by_test true = dials_next link.end link.peer host
  by_test false = tt

up_told : (sock : ℕ) (host : HostState) → AllAsk host (does (steps.Up sock) host)
up_told sock host = λ s. plain_first (steps.Up sock) tt host host [] (at_rest host s)

flushed : (sock : ℕ) (link : Link) (host : HostState) → AllAsk host (flushes_to sock link host)
flushed sock link host = λ s. frames_first sock link.waits host (with_link (record link { waits = [] }) host) (same host (with_link (record link { waits = [] }) host) (record { sockets = refl; dials = refl; home = λ end. refl }) s)

accepted : (sock : ℕ) (link : Link) (host : HostState) → AllAsk host (accepts_on sock link host)
accepted sock link host = chained host (does (steps.Up sock) host then writes sock (answer_spelling answers.Accepted)) (flushes_to sock link) (chained host (does (steps.Up sock) host) (writes sock (answer_spelling answers.Accepted)) (up_told sock host) (λ next. one_plain next sock (answer_spelling answers.Accepted))) (λ next. flushed sock link next)

closed_said : (state : LinkState) (host : HostState) → AllAsk host (says_closed state host)
closed_said (states.Up sock probed) host = one_plain host sock (frame_spelling frames.EndClosed)
closed_said (states.Dialing sock) host = at_rest host
closed_said states.Idle host = at_rest host
closed_said states.AwaitOther host = at_rest host

raised_one : (state : LinkState) (link : Link) (host : HostState) → AllAsk host (raised state link host)
raised_one (states.Up sock probed) link host = chained host (does (steps.Up sock) host) (flushes_to sock link) (up_told sock host) (λ next. flushed sock link next)
raised_one (states.Dialing sock) link host = at_rest host
raised_one states.Idle link host = at_rest host
raised_one states.AwaitOther link host = at_rest host

acknowledged_one : (state : LinkState) (host : HostState) → AllAsk host (acknowledged state host)
acknowledged_one (states.Up sock probed) host = one_plain host sock (frame_spelling frames.ProbeAck)
acknowledged_one (states.Dialing sock) host = at_rest host
acknowledged_one states.Idle host = at_rest host
acknowledged_one states.AwaitOther host = at_rest host

failed : (link : Link) (why : Why) (host : HostState) → AllAsk host (fails_with link why (with_link (forgotten link link.state) host))
failed link why host = λ s. plain_first (steps.Broke link.end link.peer why) tt host after (steps.Post link.end (events.ConnectionLost link.peer why) ∷ []) (plain_first (steps.Post link.end (events.ConnectionLost link.peer why)) tt host after [] (same host after (record { sockets = refl; dials = refl; home = λ end. refl }) s)) where
  after : HostState
  after = with_link (forgotten link link.state) host

-- a dial is asked for where the input wants one
abbrev DialsWanted : LinkAct → LinkIn → HostState → Type 0
DialsWanted acts.Dial input host = wanted_on input ≡ 2 * host.dials
DialsWanted act input host = Unit {0}

acted : (act : LinkAct) (old : LinkState) (input : LinkIn) (link : Link) (host : HostState) → DialsWanted act input host → AllAsk host (does_act act old input link host)
acted acts.Nothing old input link host w = at_rest host
acted acts.Dial old input link host w = dialed_one (wanted_on input) link host w
acted acts.Accept old input link host w = accepted (asked_on input) link host
acted acts.Cross old input link host w = answered (asked_on input) answers.Crossed host
acted (acts.LeaveAndAccept own) old input link host w = chained host (leaves own host) (accepts_on (asked_on input) link) (ends own host) (λ next. accepted (asked_on input) link next)
acted (acts.CrossAndProbe up) old input link host w = chained host (answers_and_leaves (asked_on input) answers.Crossed host) (writes up (frame_spelling frames.Probe)) (answered (asked_on input) answers.Crossed host) (λ next. one_plain next up (frame_spelling frames.Probe))
acted acts.Raise old input link host w = raised_one link.state link host
acted (acts.Leave own) old input link host w = ends own host
acted (acts.Fail why) old input link host w = chained host (leaves_off old host) (λ left. fails_with link why (with_link (forgotten link link.state) left)) (left_off old host) (λ next. failed link why next)
acted acts.Acknowledge old input link host w = acknowledged_one link.state host
acted acts.Close old input link host w = chained host (says_closed old host then leaves_off old) (λ left. still (with_link (forgotten link link.state) left)) (chained host (says_closed old host) (leaves_off old) (closed_said old host) (left_off old)) (λ next. same next _ (record { sockets = refl; dials = refl; home = λ end. refl }))

-- the table dials for an input that wants a socket alone
dials_wanted : (state : LinkState) (input : LinkIn) (greater : Bool) (host : HostState) → WantsNext input host → DialsWanted (step_of state input greater).1 input host
unfolding step_of
dials_wanted states.Idle (inputs.Want n) greater host w = w
dials_wanted (states.Dialing d) (inputs.Want n) greater host w = tt
dials_wanted states.AwaitOther (inputs.Want n) greater host w = tt
dials_wanted (states.Up u probed) (inputs.Want n) greater host w = tt
dials_wanted states.Idle (inputs.Asked s) greater host w = tt
dials_wanted states.AwaitOther (inputs.Asked s) greater host w = tt
dials_wanted (states.Dialing d) (inputs.Asked s) true host w = tt
dials_wanted (states.Dialing d) (inputs.Asked s) false host w = tt
dials_wanted (states.Up u false) (inputs.Asked s) greater host w = tt
dials_wanted (states.Up u true) (inputs.Asked s) greater host w = tt
dials_wanted (states.Dialing d) (inputs.Answered links.Accepted) greater host w = tt
dials_wanted (states.Dialing d) (inputs.Answered links.Crossed) greater host w = tt
dials_wanted (states.Dialing d) (inputs.Answered links.Invalid) greater host w = tt
dials_wanted (states.Dialing d) (inputs.Answered links.Mismatch) greater host w = tt
dials_wanted (states.Up u true) inputs.Late greater host w = tt
dials_wanted (states.Up u false) inputs.Late greater host w = tt
dials_wanted state input greater host w = tt

-- what a link makes of an input
pub heard : (input : LinkIn) (link : Link) (host : HostState) → WantsNext input host → AllAsk host (hears input link host)
heard input link host w = from_asked host (with_link now host) (does_act told.1 link.state input now (with_link now host)) (same host (with_link now host) (record { sockets = refl; dials = refl; home = λ end. refl })) (acted told.1 link.state input now (with_link now host) (dials_wanted link.state input (is_greater (own_address host link.end) link.peer) (with_link now host) (same_next input w))) where
  told : LinkState × LinkAct
  told = step_of link.state input (is_greater (own_address host link.end) link.peer)

  now : Link
  now = record link { state = told.0 }

  same_next : (input : LinkIn) → WantsNext input host → WantsNext input (with_link now host)
  same_next (inputs.Want n) w = w
  same_next input w = tt

-- an item of a link is put
pub put : (item : Frame × Weight) (link : Link) (host : HostState) → AllAsk host (puts item link host)
put item link host = by_state link.state where
  by_state : (state : LinkState) → AllAsk host (elim state as (λ x. Stepped) [
    | states.Up sock probed ↦ Ok (frame_step sock item ∷ [], with_link link host)
    | _ ↦ Ok ([], with_link (record link { waits = link.waits ++ item ∷ [] }) host)
  ])
  by_state (states.Up sock probed) = λ s. plain_first (frame_step sock item) tt host (with_link link host) [] (same host (with_link link host) (record { sockets = refl; dials = refl; home = λ end. refl }) s)
  by_state (states.Dialing sock) = same host _ (record { sockets = refl; dials = refl; home = λ end. refl })
  by_state states.Idle = same host _ (record { sockets = refl; dials = refl; home = λ end. refl })
  by_state states.AwaitOther = same host _ (record { sockets = refl; dials = refl; home = λ end. refl })
