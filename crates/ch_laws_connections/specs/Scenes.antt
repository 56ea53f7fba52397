-- A cell of one node whose only process asks for the exit of a process at another node.
use Rattle.std.specs.Prelude.{ℕ, List, [], codes, Result, Ok, Err}
use Rattle.ch_base.specs.declared.address.Address.{Address}
use Rattle.ch_ident.specs.declared.identifier.ProcessId.{ProcessId}
use Rattle.ch_ident.specs.declared.node_message.NodeMessage.TheVariants as messages
use Rattle.ch_ident.specs.Spelling.{message}
use Rattle.ch_static.specs.declared.command.Command.TheVariants.{Exit}
use Rattle.ch_model.specs.declared.act.Act.{Act}
use Rattle.ch_model.specs.declared.step.EndError.{EndError}
use Rattle.ch_model.specs.declared.step.Step.{Step}
use Rattle.ch_model.specs.Cell.{no_room}
use Rattle.ch_model.specs.HostCalls.{host_new, host_open, host_connect}
use Rattle.ch_model.specs.HostState.{HostState}
use Rattle.ch_model.specs.NodeState.{NodeState}
use Rattle.ch_model.specs.Node.{node_new, node_make, node_command}

-- the two nodes
abbrev pub here : Address
here = record { host = codes "a"; port = 1; id = 0 }

abbrev pub there : Address
there = record { host = codes "b"; port = 1; id = 0 }

-- what is asked to exit
abbrev pub target : ProcessId
target = record { node = there; unique = 1; counter = 0 }

-- the node after a call, or as it was
abbrev pub node_after : {E : Type 0} → NodeState → Result (List Act × NodeState) E → NodeState
node_after node (Ok done) = done.1
node_after node (Err e) = node

-- the acts of a call, or none
abbrev pub acts_of : {E : Type 0} → Result (List Act × NodeState) E → List Act
acts_of (Ok done) = done.0
acts_of (Err e) = []

-- the host after a call, or as it was
abbrev pub host_after : HostState → Result (List Step × HostState) EndError → HostState
host_after host (Ok done) = done.1
host_after host (Err e) = host

-- the node with its process
abbrev pub one_process : NodeState
one_process = node_after (node_new here 1 []) (node_make (node_new here 1 []))

-- what the node does where its process asks for an exit by that text
abbrev pub exit_acts : List ℕ → List Act
exit_acts text = acts_of (node_command one_process 0 (Exit target text) no_room)

-- what the other node is told
abbrev pub exit_told : List ℕ → List ℕ
exit_told text = message (messages.Exit target text)

-- its host, where the connection from node to node is opened
abbrev pub connected : HostState
connected = host_after (host_new (codes "a") 1 []) (host_connect (host_open (host_new (codes "a") 1 []) 0).1 0 there 0)
