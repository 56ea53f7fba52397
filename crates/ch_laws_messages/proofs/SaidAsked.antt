-- The turn in which a process asks something of its node: what was said is carried.
use Rattle.std.proofs.Common.{◌≡◌, ℕ, Bool, true, false, List, ◌++◌, Ok, refl, sym, subst}
use Rattle.std.specs.Prelude.{find, slice_get, Some}
use Rattle.ch_ident.specs.declared.message.Message.{Message}
use Rattle.ch_static.specs.declared.command.Command.{Command}
use Rattle.ch_static.specs.declared.command.Command.TheVariants as commands
use Rattle.ch_static.specs.declared.target.Target.{Target}
use Rattle.ch_static.specs.declared.target.Target.TheVariants as targets
use Rattle.ch_model.specs.declared.act.Act.{Act}
use Rattle.ch_model.specs.declared.entry.Entry.{Entry}
use Rattle.ch_model.specs.declared.line.Line.{Line}
use Rattle.ch_model.specs.declared.line.What.{What}
use Rattle.ch_model.specs.declared.local.LocalEntry.{LocalEntry}
use Rattle.ch_model.specs.declared.name.ProcName.{ProcName}
use Rattle.ch_model.specs.Cell.{room_for}
use Rattle.ch_model.specs.CellSteps.{is_at, with_node, acts_on}
use Rattle.ch_model.specs.Naming.{process_as}
use Rattle.ch_model.specs.Node.{node_command, target_node}
use Rattle.ch_model.specs.NodeIds.{is_here}
use Rattle.ch_model.specs.NodeState.{NodeState}
use Rattle.ch_model.specs.WorldState.{Cell, World}
use Rattle.ch_laws_ids.specs.Runs.{AllRun}
use Rattle.ch_laws_log.specs.Declared.{is_declared}
use Rattle.ch_laws_calls.specs.Turns.{IsAsked, end_in, told_on}
use Rattle.ch_laws_peers.specs.Says.{AllSay}
use Rattle.ch_laws_peers.specs.Standing.{IsOfNodes, Standing}
use Rattle.ch_laws_messages.specs.SaidGoes.{SaysWell}
use Rattle.ch_laws_messages.proofs.SaidAsks.{SendsToDeclared}
use Rattle.ch_laws_messages.proofs.SaidEnds.{end_say}
use Rattle.ch_laws_messages.proofs.SaidHome.{home_say}
use Rattle.ch_laws_messages.proofs.SaidSender.{asks, to_declared, away_say}
use Rattle.ch_laws_messages.proofs.SaidTakes.{taken_say}

-- the turn of field asked
pub asked_say : (journal : List Line) → IsOfNodes journal → (log : List Entry) (world : World) (what : What) (by : ProcName) (command : Command) (place : ℕ) (cell : Cell × ℕ) (number : ℕ) (node : NodeState) (acts : List Act) (next : NodeState) (told : List LocalEntry) (after : Cell) → IsAsked journal world what by command place
    → slice_get world.cells place ≡ Some cell → find (is_at (end_in world by)) cell.0.nodes ≡ Some (number, node) → node_command node by.counter command (room_for cell.0.host (end_in world by) node.own (target_node node by.counter command)) ≡ Ok (acts, next)
    → acts_on (end_in world by) acts (with_node (end_in world by) next cell.0) ≡ Ok (told, after) → Standing journal log world → AllRun log world → AllSay journal log world
    → let done = told_on place cell after told world in SaysWell journal (log ++ done.0) → AllSay journal (log ++ done.0) done.1
asked_say journal nodes log world what by command place cell number node acts next told after asked at found does all st run say well = by_command command (asks journal nodes log world st what by command place cell number node asked at found).sends asked does where
  Kept : Type 0
  Kept = let done = told_on place cell after told world in AllSay journal (log ++ done.0) done.1

  Turn : Command → Type 0
  Turn command = IsAsked journal world what by command place → node_command node by.counter command (room_for cell.0.host (end_in world by) node.own (target_node node by.counter command)) ≡ Ok (acts, next) → Kept

  by_here : (to : ProcName) (said : Message) → is_declared world.names to.node ≡ true → (b : Bool) → is_here node (process_as world.names to).node ≡ b → Turn (commands.Send (targets.Process (process_as world.names to)) said)
  by_here to said declared true h asked does = home_say journal log world place cell (end_in world by) number node next by.counter (process_as world.names to) said (room_for cell.0.host (end_in world by) node.own (target_node node by.counter (commands.Send (targets.Process (process_as world.names to)) said))) acts told after at found
      (to_declared journal nodes log world st what by (commands.Send (targets.Process (process_as world.names to)) said) place cell number node asked at found to declared) h does all st run say
  by_here to said declared false h asked does = away_say journal nodes log world what by to said place cell number node acts next told after asked declared h at found does all st run say well

  by_command : (command : Command) → SendsToDeclared world.names command → Turn command
  by_command (commands.Send to said) s = subst (λ (t : Target). Turn (commands.Send t said)) (sym s.2) (by_here s.0 said s.1 (is_here node (process_as world.names s.0).node) refl)
  by_command (commands.Receive mark) s = λ asked does. taken_say journal log world place cell (end_in world by) number node by.counter mark (room_for cell.0.host (end_in world by) node.own (target_node node by.counter (commands.Receive mark))) acts next told after at found does all st say
  by_command commands.End s = λ asked does. end_say journal log world place cell (end_in world by) number node next by.counter acts told after at found does all st run say
  by_command command s = absurd s
