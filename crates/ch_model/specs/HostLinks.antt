-- What a host does for the acts of the link table.
use Rattle.std.specs.Prelude.{ℕ, ◌+◌, [], ◌∷◌, Some, None, Ok, Err, nat_lt, ◌*◌, if◌then◌else◌}
use Rattle.ch_base.specs.declared.address.Address.{Address}
use Rattle.ch_base.specs.declared.event.Why.{Why}
use Rattle.ch_base.specs.declared.event.Event.TheVariants as events
use Rattle.ch_base.specs.declared.memory.Stop.TheVariants as stops
use Rattle.ch_wire.specs.Spelling.{answer_spelling, frame_spelling}
use Rattle.ch_wire.specs.declared.answer.Answer.TheVariants as answers
use Rattle.ch_wire.specs.declared.frame.Frame.TheVariants as frames
use Rattle.ch_reader.specs.declared.item.Expected.TheVariants as expected
use Rattle.ch_link.specs.Table.{step_of}
use Rattle.ch_link.specs.declared.LinkState.{LinkState}
use Rattle.ch_link.specs.declared.LinkState.TheVariants as states
use Rattle.ch_link.specs.declared.LinkIn.{LinkIn}
use Rattle.ch_link.specs.declared.LinkIn.TheVariants.{Want, Asked}
use Rattle.ch_link.specs.declared.LinkAct.{LinkAct}
use Rattle.ch_link.specs.declared.LinkAct.TheVariants as acts
use Rattle.ch_model.specs.declared.step.Step.TheVariants as steps
use Rattle.ch_model.specs.Stages.{Pending}
use Rattle.ch_model.specs.HostState.{Link, Socket, HostState}
use Rattle.ch_model.specs.HostSteps.{Stepped, still, does, ◌then◌, own_address, with_link, with_socket}
use Rattle.ch_model.specs.HostWrites.{writes, leaves, answers_and_leaves, flushes_to, forgotten, leaves_off}
use Rattle.ch_model.specs.Greater.{is_greater}

-- how often a host may dial: its sockets' numbers are even, and numbers of 64 bits
abbrev pub most_dials : ℕ
most_dials = 9223372036854775808

-- the number of the next socket that the host dials
abbrev pub next_dial : HostState → ℕ
next_dial host = 2 * host.dials

-- a socket that an endpoint dials for its link
abbrev pub dialed : ℕ → ℕ → Address → Socket
dialed sock end peer = record { number = sock; peer_host = None; stage = Pending; user = Some (end, peer); expected = expected.Answer; since = [] }

-- the next socket is dialed, while the count of dials can grow
abbrev pub dials_for : ℕ → Link → HostState → Stepped
dials_for sock link host =
    if nat_lt host.dials most_dials
    then Ok (steps.Dial sock link.end link.peer ∷ [], with_socket (dialed sock link.end link.peer) (record host { dials = host.dials + 1 }))
    else Err stops.Worn

-- The link came up on a socket where it was asked: it is told, the request is accepted, and what waits is written.
abbrev pub accepts_on : ℕ → Link → HostState → Stepped
accepts_on sock link host = does (steps.Up sock) host then writes sock (answer_spelling answers.Accepted) then flushes_to sock link

-- the node is told that its link with the peer has failed
abbrev pub fails_with : Link → Why → HostState → Stepped
fails_with link why host = Ok (steps.Broke link.end link.peer why ∷ steps.Post link.end (events.ConnectionLost link.peer why) ∷ [], host)

-- EndClosed is written on the socket that the link was up on
abbrev pub says_closed : LinkState → HostState → Stepped
says_closed (states.Up sock probed) host = writes sock (frame_spelling frames.EndClosed) host
says_closed state host = still host

-- the socket that an input asks on
abbrev pub asked_on : LinkIn → ℕ
asked_on (Asked sock) = sock
asked_on input = 0

-- the socket that an input wants to dial
abbrev pub wanted_on : LinkIn → ℕ
wanted_on (Want sock) = sock
wanted_on input = 0

-- the dialed socket is up: it is told, and what waits is written
abbrev pub raised : LinkState → Link → HostState → Stepped
raised (states.Up sock probed) link host = does (steps.Up sock) host then flushes_to sock link
raised state link host = still host

-- a probe is acknowledged on the socket that the link is up on
abbrev pub acknowledged : LinkState → HostState → Stepped
acknowledged (states.Up sock probed) host = writes sock (frame_spelling frames.ProbeAck) host
acknowledged state host = still host

-- The act of the table, of a link that is in its new state already, and was in that old one.
abbrev pub does_act : LinkAct → LinkState → LinkIn → Link → HostState → Stepped
does_act acts.Nothing old input link host = still host
does_act acts.Dial old input link host = dials_for (wanted_on input) link host
does_act acts.Accept old input link host = accepts_on (asked_on input) link host
does_act acts.Cross old input link host = answers_and_leaves (asked_on input) answers.Crossed host
does_act (acts.LeaveAndAccept own) old input link host = leaves own host then accepts_on (asked_on input) link
does_act (acts.CrossAndProbe up) old input link host = answers_and_leaves (asked_on input) answers.Crossed host then writes up (frame_spelling frames.Probe)
does_act acts.Raise old input link host = raised link.state link host
does_act (acts.Leave own) old input link host = leaves own host
does_act (acts.Fail why) old input link host = leaves_off old host then (λ left. fails_with link why (with_link (forgotten link link.state) left))
does_act acts.Acknowledge old input link host = acknowledged link.state host
does_act acts.Close old input link host = says_closed old host then leaves_off old then (λ left. still (with_link (forgotten link link.state) left))

-- a link hears an input: the table gives its new state and the act
abbrev pub hears : LinkIn → Link → HostState → Stepped
hears input link host =
    let told = step_of link.state input (is_greater (own_address host link.end) link.peer) in
    let now = record link { state = told.0 } in
    does_act told.1 link.state input now (with_link now host)
