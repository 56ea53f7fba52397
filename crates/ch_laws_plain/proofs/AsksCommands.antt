-- Which commands the lines of a journal of many nodes ask, and where they go.
use Rattle.std.proofs.Common.{◌≡◌, ℕ, true, List, refl, sym, ap, subst}
use Rattle.std.proofs.lemmas.Bool.{and_parts}
use Rattle.std.specs.Prelude.{Option, Some}
use Rattle.ch_base.specs.declared.address.Address.{Address}
use Rattle.ch_static.specs.declared.command.Command.{Command}
use Rattle.ch_static.specs.declared.command.Command.TheVariants as commands
use Rattle.ch_static.specs.declared.target.Target.{Target}
use Rattle.ch_model.specs.declared.line.What.{What}
use Rattle.ch_model.specs.declared.line.What.TheVariants as lines
use Rattle.ch_model.specs.declared.name.ProcName.{ProcName}
use Rattle.ch_model.specs.declared.name.TargetName.TheVariants as names
use Rattle.ch_model.specs.Naming.{Names, address_as}
use Rattle.ch_model.specs.WorldLines.{command_as}
use Rattle.ch_laws_log.specs.Declared.{is_declared}
use Rattle.ch_laws_many.specs.ManyLines.{is_of_many}
use Rattle.ch_laws_plain_nodes.specs.Plain.{IsToProcess, IsPlainCommand}
use Rattle.ch_laws_plain.specs.AsksAsks.{SendsToDeclared, AsksPlainly, goes_to}

given_so : (known : Names) (one by : ProcName) (asked command : Command) → ◌≡◌ {A = Option (ProcName × Command)} (Some (one, asked)) (Some (by, command)) → AsksPlainly known one asked → AsksPlainly known by command
given_so known one by asked command e a = let is : ◌≡◌ {A = ProcName × Command} (one, asked) (by, command) = cc in subst (λ (x : ProcName × Command). AsksPlainly known x.0 x.1) is a

pub asks_plainly : (known : Names) (what : What) (by : ProcName) (command : Command) → is_of_many known what ≡ true → command_as known what ≡ Some (by, command) → AsksPlainly known by command
asks_plainly known (lines.Send one (names.Process to) mark body) by command of asks = let parts = and_parts (is_declared known one.node) (is_declared known to.node) of in given_so known one by _ command asks (record { declared = parts.0; sends = (to, parts.1, refl) })
asks_plainly known (lines.Send one (names.Port process port) mark body) by command of asks = absurd cc
asks_plainly known (lines.Send one (names.Named node name) mark body) by command of asks = absurd cc
asks_plainly known (lines.Recv one mark) by command of asks = given_so known one by (commands.Receive mark) command asks (record { declared = of; sends = tt })
asks_plainly known (lines.End one) by command of asks = given_so known one by commands.End command asks (record { declared = of; sends = tt })
asks_plainly known what by command of asks = absurd cc

pub plain_command : (known : Names) (command : Command) → SendsToDeclared known command → IsPlainCommand command
plain_command known (commands.Send to said) s = subst IsToProcess (sym s.2) tt
plain_command known (commands.Receive mark) s = tt
plain_command known commands.End s = tt
plain_command known command s = absurd s

-- where it goes is the address of a declared name
pub goes_declared : (known : Names) (own : Address) (by : ProcName) (command : Command) → AsksPlainly known by command → own ≡ address_as known by.node → (name : List ℕ) × (is_declared known name ≡ true) × (goes_to own command ≡ address_as known name)
goes_declared known own by command a here = by_command command a.sends where
  by_command : (command : Command) → SendsToDeclared known command → (name : List ℕ) × (is_declared known name ≡ true) × (goes_to own command ≡ address_as known name)
  by_command (commands.Send to said) s = (s.0.node, s.1, ap (λ (t : Target). goes_to own (commands.Send t said)) s.2)
  by_command (commands.Receive mark) s = (by.node, a.declared, here)
  by_command commands.End s = (by.node, a.declared, here)
  by_command command s = absurd s
