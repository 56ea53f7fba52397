-- A journal's names in place of addresses, both ways.
use Rattle.std.specs.Prelude.{ℕ, Bool, false, ◌&&◌, List, [], find, Option, Some, None}
use Rattle.std.specs.Option.{option_map}
use Rattle.std.specs.Str.{bytes_eq}
use Rattle.ch_base.specs.declared.address.Address.{Address}
use Rattle.ch_ident.specs.declared.identifier.ProcessId.{ProcessId}
use Rattle.ch_ident.specs.declared.identifier.Ref.{Ref}
use Rattle.ch_static.specs.declared.target.Target.{Target}
use Rattle.ch_static.specs.declared.target.Target.TheVariants as targets
use Rattle.ch_watch.specs.Same.{same_node}
use Rattle.ch_model.specs.declared.name.ProcName.{ProcName}
use Rattle.ch_model.specs.declared.name.RefName.{RefName}
use Rattle.ch_model.specs.declared.name.SockName.{SockName}
use Rattle.ch_model.specs.declared.name.TargetName.{TargetName}
use Rattle.ch_model.specs.declared.name.TargetName.TheVariants as names
use Rattle.ch_model.specs.WorldState.{Named}

-- the declared names, in order
abbrev pub Names : Type 0
Names = List Named

abbrev pub is_named : List ℕ → Named → Bool
is_named name named = bytes_eq named.name name

-- what stands for a name that isn't declared, which no line of a journal has
abbrev pub nobody : Named
nobody = record { name = []; address = record { host = []; port = 0; id = 0 }; unique = 0; is_node = false }

abbrev pub or_nobody : Option Named → Named
or_nobody (Some named) = named
or_nobody None = nobody

-- what a name stands for
abbrev pub named_as : Names → List ℕ → Named
named_as known name = or_nobody (find (is_named name) known)

-- the address that a name stands for
abbrev pub address_as : Names → List ℕ → Address
address_as known name = (named_as known name).address

-- what an address is called
abbrev pub called : Names → Address → List ℕ
called known address = (or_nobody (find (λ named. same_node named.address address) known)).name

-- ---- from names

-- `b.5` is the process of b's address, b's unique number and counter 5
abbrev pub process_as : Names → ProcName → ProcessId
process_as known process =
    let named = named_as known process.node in
    record { node = named.address; unique = named.unique; counter = process.counter }

abbrev pub target_as : Names → TargetName → Target
target_as known (names.Process process) = targets.Process (process_as known process)
target_as known (names.Port process port) = targets.Port (record { process = process_as known process; port = port })
target_as known (names.Named node name) = targets.Named (address_as known node) name

abbrev pub reference_as : Names → RefName → Ref
reference_as known reference = record { node = address_as known reference.node; number = reference.number }

-- ---- to names

abbrev pub process_called : Names → ProcessId → ProcName
process_called known process = record { node = called known process.node; counter = process.counter }

abbrev pub target_called : Names → Target → TargetName
target_called known (targets.Process process) = names.Process (process_called known process)
target_called known (targets.Port port) = names.Port (process_called known port.process) port.port
target_called known (targets.Named at name) = names.Named (called known at) name

abbrev pub reference_called : Names → Ref → RefName
reference_called known reference = record { node = called known reference.node; number = reference.number }

abbrev pub maybe_called : Names → Option ProcessId → Option ProcName
maybe_called known found = option_map (process_called known) found

-- ---- sockets

-- two sockets of the same opener and target
abbrev pub same_ends : List ℕ → List ℕ → SockName → Bool
same_ends from to name = bytes_eq name.from from && bytes_eq name.to to
