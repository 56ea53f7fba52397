-- The host takes what its nodes ask: in all that a cell makes of an event, act by act.
use Rattle.std.specs.Prelude.{◌≡◌, ℕ, zero, suc, true, false, List, [], ◌∷◌, length, find, nat_lt, Option, Some, None, Result, Ok, Err}
use Rattle.ch_base.specs.declared.memory.Stop.{Stop}
use Rattle.ch_wire.specs.declared.TheConstants.{MOST_PAYLOAD_BYTES}
use Rattle.ch_model.specs.declared.act.Act.{Act}
use Rattle.ch_model.specs.declared.act.Act.TheVariants as acts
use Rattle.ch_model.specs.declared.command.CommandError.{CommandError}
use Rattle.ch_model.specs.declared.local.LocalEvent.{LocalEvent}
use Rattle.ch_model.specs.declared.local.LocalEvent.TheVariants as events
use Rattle.ch_model.specs.declared.step.EndError.{EndError}
use Rattle.ch_model.specs.declared.step.EndError.TheVariants as errors
use Rattle.ch_model.specs.declared.step.SocketEvent.TheVariants as sockets
use Rattle.ch_model.specs.declared.step.Step.{Step}
use Rattle.ch_model.specs.declared.step.Step.TheVariants as steps
use Rattle.ch_model.specs.Cell.{room_for}
use Rattle.ch_model.specs.CellSteps.{Followed, is_at, with_node, act_on, acts_on, step_on, steps_on, kept_bytes}
use Rattle.ch_model.specs.Host.{host_on, host_next}
use Rattle.ch_model.specs.HostCalls.{host_connect, host_send, host_close, host_close_endpoint}
use Rattle.ch_model.specs.HostState.{HostState}
use Rattle.ch_model.specs.HostSteps.{Stepped}
use Rattle.ch_model.specs.NodeState.{NodeState}
use Rattle.ch_model.specs.Node.{node_make, node_command, node_event, node_shut, target_node}
use Rattle.ch_model.specs.WorldState.{Cell}

-- what was asked is done, or stops where a count stands at its type's last value or memory is wanting
abbrev pub IsDone : Result (List Step × HostState) EndError → Type 0
IsDone (Ok done) = Unit {0}
IsDone (Err errors.Worn) = Unit {0}
IsDone (Err errors.OutOfMemory) = Unit {0}
IsDone (Err e) = ⊥

-- so is a payload, or it is refused as longer than a frame may be
abbrev pub IsDoneButLong : List ℕ → Result (List Step × HostState) EndError → Type 0
IsDoneButLong payload (Ok done) = Unit {0}
IsDoneButLong payload (Err errors.Worn) = Unit {0}
IsDoneButLong payload (Err errors.OutOfMemory) = Unit {0}
IsDoneButLong payload (Err errors.PayloadLong) = nat_lt MOST_PAYLOAD_BYTES (length payload) ≡ true
IsDoneButLong payload (Err e) = ⊥

-- the host takes an act
abbrev pub ActTaken : ℕ → HostState → Act → Type 0
ActTaken end host (acts.Note note) = Unit {0}
ActTaken end host (acts.Open conn peer) = IsDone (host_connect host end peer conn)
ActTaken end host (acts.Put conn payload weight) = IsDoneButLong payload (host_send host end conn payload weight)
ActTaken end host (acts.Close conn) = IsDone (host_close host end conn)

-- what holds of the cell after what followed
abbrev pub AfterThat : Followed → (Cell → Type 0) → Type 0
AfterThat (Ok done) f = f done.1
AfterThat (Err stop) f = Unit {0}

-- the host takes each of some acts, one after another
abbrev pub ActsTaken : ℕ → List Act → Cell → Type 0
ActsTaken end [] cell = Unit {0}
ActsTaken end (act ∷ rest) cell = ActTaken end cell.host act × AfterThat (act_on end act cell) (λ next. ActsTaken end rest next)

-- what a node that isn't shut made of an event
abbrev pub MadeTaken : ℕ → Cell → Result (List Act × NodeState) Stop → Type 0
MadeTaken end cell (Ok done) = done.1.is_shut ≡ false → ActsTaken end done.0 (with_node end done.1 cell)
MadeTaken end cell (Err stop) = Unit {0}

-- what a node makes of an event that is posted to it
abbrev pub PostTaken : Option (ℕ × NodeState) → Step → Cell → Type 0
PostTaken (Some node) (steps.Post end event) cell = MadeTaken end cell (node_event node.1 event)
PostTaken o step cell = Unit {0}

-- the endpoint that a step tells
abbrev pub end_told : Step → ℕ
end_told (steps.Post end event) = end
end_told step = 0

-- what nodes make of the steps of their host, in order
abbrev pub StepsTaken : List Step → Cell → Type 0
StepsTaken [] cell = Unit {0}
StepsTaken (step ∷ rest) cell = PostTaken (find (is_at (end_told step)) cell.nodes) step cell × AfterThat (step_on step cell) (λ next. StepsTaken rest next)

-- steps, and then what follows them
abbrev pub StepsThen : List Step → Cell → (Cell → Type 0) → Type 0
StepsThen done cell f = StepsTaken done cell × AfterThat (steps_on done cell) f

-- what nodes make of items, one after another
abbrev pub NextTaken : Cell → (Cell → Type 0) → Result (Option (List Step) × HostState) Stop → Type 0
NextTaken cell f (Err stop) = Unit {0}
NextTaken cell f (Ok (None, host)) = Unit {0}
NextTaken cell f (Ok (Some done, host)) = StepsThen done (record cell { host = host }) f

abbrev pub ItemsTaken : ℕ → Cell → Type 0
ItemsTaken zero cell = Unit {0}
ItemsTaken (suc fuel) cell = NextTaken cell (λ next. ItemsTaken fuel next) (host_next cell.host)

abbrev pub AllItemsTaken : Cell → Type 0
AllItemsTaken cell = ItemsTaken (kept_bytes cell.host) cell

-- what a node made of a call, and what follows
abbrev pub CallTaken : ℕ → Cell → Result (List Act × NodeState) CommandError → Type 0
CallTaken end cell (Ok done) = (done.1.is_shut ≡ false → ActsTaken end done.0 (with_node end done.1 cell)) × AfterThat (acts_on end done.0 (with_node end done.1 cell)) AllItemsTaken
CallTaken end cell (Err e) = Unit {0}

-- the endpoint of a node that was shut is closed
abbrev pub CloseTaken : Cell → Result (List Step × HostState) EndError → Type 0
CloseTaken cell (Ok done) = StepsThen done.0 (record cell { host = done.1 }) AllItemsTaken
CloseTaken cell (Err e) = IsDone (Err e)

abbrev pub ShutTaken : ℕ → Cell → Result (List Act × NodeState) CommandError → Type 0
ShutTaken end cell (Ok done) = AfterThat (acts_on end done.0 (with_node end done.1 cell)) (λ next. CloseTaken next (host_close_endpoint next.host end))
ShutTaken end cell (Err e) = Unit {0}

-- what a host made of an event, and what follows
abbrev pub HostTaken : Cell → Stepped → Type 0
HostTaken cell (Ok done) = StepsThen done.0 (record cell { host = done.1 }) AllItemsTaken
HostTaken cell (Err stop) = Unit {0}

abbrev pub AtNode : Option (ℕ × NodeState) → (NodeState → Type 0) → Type 0
AtNode None f = Unit {0}
AtNode (Some node) f = f node.1

-- the host takes all that its nodes ask, which aren't shut, in what the cell makes of an event
abbrev pub EventTaken : Cell → LocalEvent → Type 0
EventTaken cell (events.Make end) = AtNode (find (is_at end) cell.nodes) (λ node. CallTaken end cell (node_make node))
EventTaken cell (events.Command end by command) = AtNode (find (is_at end) cell.nodes) (λ node. CallTaken end cell (node_command node by command (room_for cell.host end node.own (target_node node by command))))
EventTaken cell (events.Shut end) = AtNode (find (is_at end) cell.nodes) (λ node. ShutTaken end cell (node_shut node))
EventTaken cell (events.Came mark sock peer_host) = HostTaken cell (host_on cell.host (sockets.Came sock peer_host))
EventTaken cell (events.Socket event) = HostTaken cell (host_on cell.host event)
