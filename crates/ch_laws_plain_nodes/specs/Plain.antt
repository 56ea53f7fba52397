-- A plain node: its processes send messages to processes, and nothing else goes from node to node.
use Rattle.std.specs.Prelude.{◌≡◌, ℕ, false, List, [], ◌∷◌, Option, Some, None}
use Rattle.ch_ident.specs.declared.identifier.ProcessId.{ProcessId}
use Rattle.ch_ident.specs.declared.identifier.Identifier.TheVariants as ends
use Rattle.ch_ident.specs.declared.node_message.NodeMessage.TheVariants.{Opening}
use Rattle.ch_ident.specs.Spelling.{message}
use Rattle.ch_static.specs.declared.command.Command.{Command}
use Rattle.ch_static.specs.declared.command.Command.TheVariants.{Send, Receive, End}
use Rattle.ch_static.specs.declared.target.Target.{Target}
use Rattle.ch_static.specs.declared.target.Target.TheVariants as targets
use Rattle.ch_model.specs.NodeState.{NodeState, Pair, Bound, Unread, Void, ToTarget, Arrived}

-- the target is a process
abbrev pub IsToProcess : Target → Type 0
IsToProcess (targets.Process process) = Unit {0}
IsToProcess to = ⊥

-- so is the target of each pair
abbrev pub AllToProcesses : List Pair → Type 0
AllToProcesses [] = Unit {0}
AllToProcesses (pair ∷ rest) = IsToProcess pair.to × AllToProcesses rest

-- a connection that arrived is for nothing, or for messages to a process
abbrev pub IsBound : Bound → Type 0
IsBound Void = Unit {0}
IsBound (ToTarget from to) = IsToProcess to
IsBound bound = ⊥

-- so it is, or its opening message isn't read yet
abbrev pub IsPlainlyBound : Bound → Type 0
IsPlainlyBound Unread = Unit {0}
IsPlainlyBound bound = IsBound bound

-- so is each that arrived
abbrev pub AllPlainlyBound : List Arrived → Type 0
AllPlainlyBound [] = Unit {0}
AllPlainlyBound (arrived ∷ rest) = IsPlainlyBound arrived.bound × AllPlainlyBound rest

-- The node isn't shut; it has no connection of its own to another node; nothing is watched, asked or named; its pairs are
-- to processes, and what arrived there is for messages to processes.
pub record IsPlain (node : NodeState) : Type 0 where
  pub unshut : node.is_shut ≡ false
  pub alone : node.to_nodes ≡ []
  pub waiting : node.watches.waiting ≡ []
  pub watched : node.watches.watched ≡ []
  pub names : node.watches.names ≡ []
  pub pairs : AllToProcesses node.pairs
  pub arrived : AllPlainlyBound node.arrived

-- a process sends to a process, takes a message, or ends
abbrev pub IsPlainCommand : Command → Type 0
IsPlainCommand (Send to said) = IsToProcess to
IsPlainCommand (Receive mark) = Unit {0}
IsPlainCommand End = Unit {0}
IsPlainCommand command = ⊥

-- the payload opens a connection of a process to a process
pub record IsPlainOpening (payload : List ℕ) : Type 0 where
  pub from : ProcessId
  pub to : ProcessId
  pub spelled : payload ≡ message (Opening (ends.Process from) (ends.Process to))

-- there is no such connection, or its opening message was read
abbrev pub IsRead : Option Arrived → Type 0
IsRead None = Unit {0}
IsRead (Some arrived) = IsBound arrived.bound
