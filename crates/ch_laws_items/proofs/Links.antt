-- What a host does for its links leaves no more unread.
use Rattle.std.proofs.Common.{◌≤◌, ℕ, ◌+◌, Bool, true, false, cond, List, [], ◌∷◌, ◌++◌, Ok, Err, refl, arith}
use Rattle.std.specs.Prelude.{nat_lt}
use Rattle.ch_base.specs.declared.memory.Stop.TheVariants as stops
use Rattle.ch_wire.specs.Spelling.{answer_spelling, frame_spelling}
use Rattle.ch_wire.specs.declared.answer.Answer.TheVariants as answers
use Rattle.ch_wire.specs.declared.frame.Frame.TheVariants as frames
use Rattle.ch_model.specs.declared.step.Step.TheVariants as steps
use Rattle.ch_wire.specs.declared.answer.Answer.{Answer}
use Rattle.ch_wire.specs.declared.frame.Frame.{Frame}
use Rattle.ch_link.specs.Table.{step_of}
use Rattle.ch_link.specs.declared.LinkState.{LinkState}
use Rattle.ch_link.specs.declared.LinkState.TheVariants as states
use Rattle.ch_link.specs.declared.LinkIn.{LinkIn}
use Rattle.ch_link.specs.declared.LinkAct.{LinkAct}
use Rattle.ch_link.specs.declared.LinkAct.TheVariants as acts
use Rattle.ch_model.specs.declared.step.Step.{Step}
use Rattle.ch_model.specs.declared.step.Weight.{Weight}
use Rattle.ch_model.specs.Greater.{is_greater}
use Rattle.ch_model.specs.HostState.{Link, HostState}
use Rattle.ch_model.specs.HostSteps.{Stepped, still, does, after_steps, ◌then◌, own_address, with_link, with_socket}
use Rattle.ch_model.specs.HostWrites.{writes, leaves, answers_and_leaves, flushes_to, puts, frame_step, forgotten, leaves_off}
use Rattle.ch_model.specs.HostLinks.{most_dials, dialed, dials_for, accepts_on, asked_on, wanted_on, fails_with, says_closed, raised, acknowledged, does_act, hears}
use Rattle.ch_laws_items.specs.Kept.{KeepsNoMore, Fine}
use Rattle.ch_laws_items.proofs.Sockets.{same, onward, stores, ends}

-- steps before what follows change nothing of it
pub later : (steps : List Step) (one two : HostState) (done : Stepped) → KeepsNoMore one two → Fine two done → Fine one (after_steps steps done)
later steps one two (Ok done) a b = onward one two done.1 a b
later steps one two (Err stop) a b = tt

-- one thing and then another
pub chained : (host : HostState) (done : Stepped) (f : HostState → Stepped) → Fine host done → ((next : HostState) → Fine next (f next)) → Fine host (done then f)
chained host (Ok done) f a g = later done.0 host done.1 (f done.1) a (g done.1)
chained host (Err stop) f a g = tt

pub at_rest : (host : HostState) → KeepsNoMore host host
at_rest host = same host host refl

pub answered : (sock : ℕ) (answer : Answer) (host : HostState) → Fine host (answers_and_leaves sock answer host)
answered sock answer host = chained host (writes sock (answer_spelling answer) host) (leaves sock) (at_rest host) (λ next. ends sock next)

pub left_off : (state : LinkState) (host : HostState) → Fine host (leaves_off state host)
left_off (states.Up sock probed) host = ends sock host
left_off (states.Dialing sock) host = ends sock host
left_off states.Idle host = at_rest host
left_off states.AwaitOther host = at_rest host

none : (n : ℕ) → 0 ≤ n
none n = omega arith

dialed_one : (sock : ℕ) (link : Link) (host : HostState) → Fine host (dials_for sock link host)
dialed_one sock link host = by_test (nat_lt host.dials most_dials)
  where
    by_test : (b : Bool) → Fine host (cond b (Ok (steps.Dial sock link.end link.peer ∷ [], with_socket (dialed sock link.end link.peer) (record host { dials = host.dials + 1 }))) (Err stops.Worn))
    by_test true = onward host (record host { dials = host.dials + 1 }) _ (same host (record host { dials = host.dials + 1 }) refl) (stores (dialed sock link.end link.peer) (record host { dials = host.dials + 1 }) (none _))
    by_test false = tt

accepted : (sock : ℕ) (link : Link) (host : HostState) → Fine host (accepts_on sock link host)
accepted sock link host = chained host (does (steps.Up sock) host then writes sock (answer_spelling answers.Accepted)) (flushes_to sock link) (chained host (does (steps.Up sock) host) (writes sock (answer_spelling answers.Accepted)) (at_rest host) at_rest) (λ next. same next _ refl)

closed_said : (state : LinkState) (host : HostState) → Fine host (says_closed state host)
closed_said (states.Up sock probed) host = at_rest host
closed_said (states.Dialing sock) host = at_rest host
closed_said states.Idle host = at_rest host
closed_said states.AwaitOther host = at_rest host

raised_one : (state : LinkState) (link : Link) (host : HostState) → Fine host (raised state link host)
raised_one (states.Up sock probed) link host = chained host (does (steps.Up sock) host) (flushes_to sock link) (at_rest host) (λ next. same next _ refl)
raised_one (states.Dialing sock) link host = at_rest host
raised_one states.Idle link host = at_rest host
raised_one states.AwaitOther link host = at_rest host

acknowledged_one : (state : LinkState) (host : HostState) → Fine host (acknowledged state host)
acknowledged_one (states.Up sock probed) host = at_rest host
acknowledged_one (states.Dialing sock) host = at_rest host
acknowledged_one states.Idle host = at_rest host
acknowledged_one states.AwaitOther host = at_rest host

acted : (act : LinkAct) (old : LinkState) (input : LinkIn) (link : Link) (host : HostState) → Fine host (does_act act old input link host)
acted acts.Nothing old input link host = at_rest host
acted acts.Dial old input link host = dialed_one (wanted_on input) link host
acted acts.Accept old input link host = accepted (asked_on input) link host
acted acts.Cross old input link host = answered (asked_on input) answers.Crossed host
acted (acts.LeaveAndAccept own) old input link host = chained host (leaves own host) (accepts_on (asked_on input) link) (ends own host) (λ next. accepted (asked_on input) link next)
acted (acts.CrossAndProbe up) old input link host = chained host (answers_and_leaves (asked_on input) answers.Crossed host) (writes up (frame_spelling frames.Probe)) (answered (asked_on input) answers.Crossed host) at_rest
acted acts.Raise old input link host = raised_one link.state link host
acted (acts.Leave own) old input link host = ends own host
acted (acts.Fail why) old input link host = chained host (leaves_off old host) (λ left. fails_with link why (with_link (forgotten link link.state) left)) (left_off old host) (λ next. same next _ refl)
acted acts.Acknowledge old input link host = acknowledged_one link.state host
acted acts.Close old input link host = chained host (says_closed old host then leaves_off old) (λ left. still (with_link (forgotten link link.state) left)) (chained host (says_closed old host) (leaves_off old) (closed_said old host) (left_off old)) (λ next. same next _ refl)

-- what a link makes of an input
pub heard : (input : LinkIn) (link : Link) (host : HostState) → Fine host (hears input link host)
heard input link host = by_told (step_of link.state input (is_greater (own_address host link.end) link.peer))
  where
    by_told : (told : LinkState × LinkAct) → Fine host (does_act told.1 link.state input (record link { state = told.0 }) (with_link (record link { state = told.0 }) host))
    by_told told = from_same (does_act told.1 link.state input (record link { state = told.0 }) (with_link (record link { state = told.0 }) host)) (acted told.1 link.state input (record link { state = told.0 }) (with_link (record link { state = told.0 }) host))
      where
        from_same : (done : Stepped) → Fine (with_link (record link { state = told.0 }) host) done → Fine host done
        from_same (Ok done) k = record { apart = k.apart; kept = k.kept }
        from_same (Err stop) k = tt

-- an item of a link is put
pub put : (item : Frame × Weight) (link : Link) (host : HostState) → Fine host (puts item link host)
put item link host = by_state link.state
  where
    by_state : (state : LinkState) → Fine host (elim state [
      | states.Up sock probed ↦ Ok (frame_step sock item ∷ [], with_link link host)
      | _ ↦ Ok ([], with_link (record link { waits = link.waits ++ item ∷ [] }) host)
    ])
    by_state (states.Up sock probed) = same host _ refl
    by_state (states.Dialing sock) = same host _ refl
    by_state states.Idle = same host _ refl
    by_state states.AwaitOther = same host _ refl
