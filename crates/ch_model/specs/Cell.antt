-- A cell: a host with its nodes, and what it makes of one local event.
use Rattle.std.specs.Prelude.{ℕ, Bool, true, false, List, [], ◌∷◌, map, find, Option, Some, None, Result, Ok, Err, if◌then◌else◌}
use Rattle.ch_base.specs.declared.address.Address.{Address}
use Rattle.ch_base.specs.declared.event.Room.{Room}
use Rattle.ch_base.specs.declared.memory.Stop.{Stop}
use Rattle.ch_base.specs.declared.memory.Stop.TheVariants as stops
use Rattle.ch_static.specs.declared.command.Command.{Command}
use Rattle.ch_watch.specs.Same.{same_node}
use Rattle.ch_model.specs.declared.act.Act.{Act}
use Rattle.ch_model.specs.declared.command.CommandError.{CommandError}
use Rattle.ch_model.specs.declared.command.CommandError.TheVariants as errors
use Rattle.ch_model.specs.declared.entry.Verdict.{Verdict}
use Rattle.ch_model.specs.declared.entry.Verdict.TheVariants as verdicts
use Rattle.ch_model.specs.declared.local.LocalEntry.{LocalEntry}
use Rattle.ch_model.specs.declared.local.LocalEvent.{LocalEvent}
use Rattle.ch_model.specs.declared.local.LocalEvent.TheVariants as events
use Rattle.ch_model.specs.declared.step.EndError.{EndError}
use Rattle.ch_model.specs.declared.step.Step.{Step}
use Rattle.ch_model.specs.declared.step.SocketEvent.{SocketEvent}
use Rattle.ch_model.specs.declared.step.SocketEvent.TheVariants as sockets
use Rattle.ch_model.specs.Stages.{Stage, is_pending, is_open}
use Rattle.ch_model.specs.HostState.{HostState}
use Rattle.ch_model.specs.HostSteps.{Stepped, is_socket}
use Rattle.ch_model.specs.HostCalls.{host_new, host_open, host_close_endpoint, host_room, host_timer_runs}
use Rattle.ch_model.specs.Host.{host_on}
use Rattle.ch_model.specs.NodeState.{NodeState}
use Rattle.ch_model.specs.Node.{node_new, node_make, node_command, node_shut, target_node}
use Rattle.ch_model.specs.WorldState.{Cell}
use Rattle.ch_model.specs.CellSteps.{Followed, ◌then◌, is_at, with_node, acts_on, steps_on, all_items, asked}

-- the answer, what followed, and the cell after it; or a count stands at its type's last value
abbrev pub Celled : Type 0
Celled = Result ((Verdict × List LocalEntry) × Cell) Stop

-- an answer to what followed
abbrev pub answered : Verdict → Followed → Celled
answered verdict (Ok done) = Ok ((verdict, done.0), done.1)
answered verdict (Err stop) = Err stop

-- an answer after which nothing follows
abbrev pub refused : Verdict → Cell → Celled
refused verdict cell = Ok ((verdict, []), cell)

-- a command's refusal is the answer, but for want of memory and a count that can't grow
abbrev pub refusal : CommandError → Cell → Celled
refusal errors.Unknown cell = refused verdicts.Unknown cell
refusal errors.Dead cell = refused verdicts.Dead cell
refusal errors.Long cell = refused verdicts.Long cell
refusal errors.Full cell = refused verdicts.Full cell
refusal errors.Spent cell = refused verdicts.Spent cell
refusal errors.Taken cell = refused verdicts.Taken cell
refusal errors.NoName cell = refused verdicts.NoName cell
refusal errors.NoRef cell = refused verdicts.NoRef cell
refusal errors.Empty cell = refused verdicts.Empty cell
refusal errors.Hale cell = refused verdicts.Hale cell
refusal errors.OutOfMemory cell = Err stops.OutOfMemory
refusal errors.Worn cell = Err stops.Worn

-- ---- nodes

-- what a node made of a call, and all that follows
abbrev pub node_did : ℕ → Cell → Result (List Act × NodeState) CommandError → Celled
node_did end cell (Ok done) = answered verdicts.Ok (acts_on end done.0 (with_node end done.1 cell) then all_items)
node_did end cell (Err e) = refusal e cell

-- the node at an endpoint does something; where none is there, nothing happens
abbrev pub at_node : ℕ → Cell → (NodeState → Celled) → Celled
at_node end cell f = elim (find (is_at end) cell.nodes) [
  | None ↦ refused verdicts.Nothing cell
  | Some node ↦ f node.1
]

-- the room of a command's link: all zero where the command is for the own node, or for none
abbrev pub no_room : Room
no_room = record { up = false; waits = 0; given = 0 }

abbrev pub room_for : HostState → ℕ → Address → Option Address → Room
room_for host end own None = no_room
room_for host end own (Some peer) = if same_node peer own then no_room else host_room host end peer

-- a process asks something of its node
abbrev pub commanded : ℕ → ℕ → Command → Cell → NodeState → Celled
commanded end by command cell node = node_did end cell (node_command node by command (room_for cell.host end node.own (target_node node by command)))

-- a node that was shut closes its endpoint
abbrev pub closes_after : ℕ → Cell → Result (List Step × HostState) EndError → Followed
closes_after end cell (Ok done) = steps_on done.0 (record cell { host = done.1 })
closes_after end cell (Err e) = asked cell (Err e)

abbrev pub shut_node : ℕ → Cell → Result (List Act × NodeState) CommandError → Celled
shut_node end cell (Ok done) = answered verdicts.Ok (acts_on end done.0 (with_node end done.1 cell) then (λ told. closes_after end told (host_close_endpoint told.host end)) then all_items)
shut_node end cell (Err e) = refusal e cell

-- ---- sockets

-- the steps of a host, and all that follows
abbrev pub host_did : Verdict → Cell → Stepped → Celled
host_did verdict cell (Ok done) = answered verdict (steps_on done.0 (record cell { host = done.1 }) then all_items)
host_did verdict cell (Err stop) = Err stop

-- the host's end of a socket stands as the test asks
abbrev pub stands : (Stage → Bool) → ℕ → HostState → Bool
stands test sock host = elim (find (is_socket sock) host.sockets) [
  | None ↦ false
  | Some socket ↦ test socket.stage
]

-- a host hears an event of a socket or a timer
abbrev pub is_heard : HostState → SocketEvent → Bool
is_heard host (sockets.Joined sock) = stands is_pending sock host
is_heard host (sockets.Came sock peer_host) = true
is_heard host (sockets.Refused sock) = stands is_pending sock host
is_heard host (sockets.Fed sock bytes) = stands is_open sock host
is_heard host (sockets.Ended sock) = stands is_open sock host
is_heard host (sockets.Lost sock) = stands is_open sock host
is_heard host (sockets.Late end peer) = host_timer_runs host end peer

-- an event that isn't heard is answered by nothing, and gives nothing
abbrev pub heard_as : HostState → SocketEvent → Verdict
heard_as host event = if is_heard host event then verdicts.Ok else verdicts.Nothing

-- ---- one event

-- what a cell makes of a local event: its answer, and all that followed, in order
abbrev pub cell_step : Cell → LocalEvent → Celled
cell_step cell (events.Make end) = at_node end cell (λ node. node_did end cell (node_make node))
cell_step cell (events.Command end by command) = at_node end cell (commanded end by command cell)
cell_step cell (events.Shut end) = at_node end cell (λ node. shut_node end cell (node_shut node))
cell_step cell (events.Came mark sock peer_host) = host_did verdicts.Ok cell (host_on cell.host (sockets.Came sock peer_host))
cell_step cell (events.Socket event) = host_did (heard_as cell.host event) cell (host_on cell.host event)

-- ---- a new cell

-- the host with an endpoint opened for each node
abbrev pub opened_for : List (ℕ × NodeState) → HostState → HostState
opened_for [] host = host
opened_for (node ∷ rest) host = opened_for rest (host_open host node.0).1

-- a host and its nodes, where nothing has happened; each node has the number of its endpoint, its unique number and its labels
abbrev pub cell_new : List ℕ → ℕ → List (List ℕ) → List (ℕ × ℕ × List (List ℕ)) → Cell
cell_new host port circle nodes =
    let made = map (λ node. (node.0, node_new (record { host = host; port = port; id = node.0 }) node.1 node.2)) nodes in
    record { host = opened_for made (host_new host port circle); nodes = made }
