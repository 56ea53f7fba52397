-- What a node's own turn is in a journal of many nodes: which commands are asked, and what its host dials.
use Rattle.std.specs.Prelude.{◌≡◌, ◌⊎◌, ℕ, true, false, List, [], ◌∷◌, find, Some}
use Rattle.ch_base.specs.declared.address.Address.{Address}
use Rattle.ch_static.specs.declared.command.Command.{Command}
use Rattle.ch_static.specs.declared.command.Command.TheVariants as commands
use Rattle.ch_static.specs.declared.target.Target.TheVariants as targets
use Rattle.ch_watch.specs.Same.{same_node}
use Rattle.ch_model.specs.declared.name.ProcName.{ProcName}
use Rattle.ch_model.specs.declared.step.Step.{Step}
use Rattle.ch_model.specs.declared.step.Step.TheVariants as steps
use Rattle.ch_model.specs.HostLinks.{dialed}
use Rattle.ch_model.specs.HostState.{HostState}
use Rattle.ch_model.specs.HostSteps.{is_socket}
use Rattle.ch_model.specs.Naming.{Names, process_as}
use Rattle.ch_laws_log.specs.Declared.{is_declared}
use Rattle.ch_laws_calls.specs.FitsTurns.{NoDials}

-- a message goes to a process of a declared node, or one is taken, or the process ends
abbrev pub SendsToDeclared : Names → Command → Type 0
SendsToDeclared known (commands.Send to said) = (name : ProcName) × (is_declared known name.node ≡ true) × (to ≡ targets.Process (process_as known name))
SendsToDeclared known (commands.Receive mark) = Unit {0}
SendsToDeclared known commands.End = Unit {0}
SendsToDeclared known command = ⊥

-- so a process of a declared node asks
pub record AsksPlainly (known : Names) (by : ProcName) (command : Command) : Type 0 where
  pub declared : is_declared known by.node ≡ true
  pub sends : SendsToDeclared known command

-- where the node's command goes: the address of the target's node, or else the node's own
abbrev pub goes_to : Address → Command → Address
goes_to own (commands.Send (targets.Process to) said) = to.node
goes_to own command = own

-- One socket is dialed, and nothing else is told of sockets: by this endpoint, for its link with this peer, which isn't at the
-- node's own address. Its host has the new record of it.
pub record DialsAway (own : Address) (end : ℕ) (peer : Address) (told : List Step) (after : HostState) : Type 0 where
  pub sock : ℕ
  pub alone : told ≡ steps.Dial sock end peer ∷ []
  pub away : same_node peer own ≡ false
  pub known : find (is_socket sock) after.sockets ≡ Some (dialed sock end peer)

-- nothing is dialed, or such a socket
abbrev pub DialsOnce : Address → ℕ → Address → List Step → HostState → Type 0
DialsOnce own end peer told after = NoDials told ⊎ DialsAway own end peer told after
