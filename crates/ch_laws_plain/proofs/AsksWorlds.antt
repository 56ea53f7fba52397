-- A node's own turn leaves a plain world.
use Rattle.std.proofs.Common.{◌≡◌, inl, inr, ℕ, List, Ok, refl, sym, subst}
use Rattle.std.specs.Prelude.{find, slice_get, Option, Some}
use Rattle.ch_base.specs.declared.address.Address.{Address}
use Rattle.ch_static.specs.declared.command.Command.{Command}
use Rattle.ch_model.specs.declared.act.Act.{Act}
use Rattle.ch_model.specs.declared.entry.Entry.{Entry}
use Rattle.ch_model.specs.declared.line.Line.{Line}
use Rattle.ch_model.specs.declared.line.What.{What}
use Rattle.ch_model.specs.declared.local.LocalEntry.{LocalEntry}
use Rattle.ch_model.specs.declared.name.ProcName.{ProcName}
use Rattle.ch_model.specs.Cell.{room_for}
use Rattle.ch_model.specs.CellSteps.{is_at, with_node, acts_on}
use Rattle.ch_model.specs.HostState.{Socket}
use Rattle.ch_model.specs.Node.{node_make, node_command, target_node}
use Rattle.ch_model.specs.NodeState.{NodeState}
use Rattle.ch_model.specs.World.{names_of}
use Rattle.ch_model.specs.WorldState.{Cell, World}
use Rattle.ch_laws_log.specs.HostEnds.{steps_in}
use Rattle.ch_laws_bytes.specs.Streams.{AreAddresses}
use Rattle.ch_laws_bytes.proofs.Lines.{own_of}
use Rattle.ch_laws_reads.specs.Reads.{IsFresh}
use Rattle.ch_laws_connections.specs.Fits.{CellHolds}
use Rattle.ch_laws_calls.specs.Sound.{Sound}
use Rattle.ch_laws_calls.specs.Turns.{told_on, IsAsked, end_in}
use Rattle.ch_laws_plain.specs.Plain.{WorldIsPlain}
use Rattle.ch_laws_plain.proofs.Dials.{dial_plain}
use Rattle.ch_laws_plain.proofs.Worlds.{turn_plain}
use Rattle.ch_laws_plain.specs.AsksAsks.{DialsOnce, goes_to}
use Rattle.ch_laws_plain.proofs.AsksTurns.{TurnIsPlain, made_turn, command_turn}

-- the world after such a turn
turn_kept : (journal : List Line) (log : List Entry) (world : World) (place : ℕ) (cell : Cell × ℕ) (own : Address) (end : ℕ) (peer : Address) (told : List LocalEntry) (after : Cell) → Sound journal log world → WorldIsPlain journal world → slice_get world.cells place ≡ Some cell
    → TurnIsPlain (own_of journal place) own end peer cell.0 told after → WorldIsPlain journal (told_on place cell after told world).1
turn_kept journal log world place cell own end peer told after sound plain at t = by_dials t.dials where
  by_dials : DialsOnce own end peer (steps_in told) after.host → WorldIsPlain journal (told_on place cell after told world).1
  by_dials (inl none) = turn_plain journal log world place cell told after sound.ends.sure sound.ends.flowing plain at none t.asked.carries t.asked.plain
  by_dials (inr d) = dial_plain journal log world place cell told after d.sock end peer sound.ends.sure sound.ends.flowing plain at d.alone t.asked.carries (record { naming = t.naming; plain = t.asked.plain; fresh = subst (λ (o : Option Socket). IsFresh o) (sym d.known) (λ live. (refl, refl)) })

-- a node makes a process
pub made_plain : (journal : List Line) (log : List Entry) (world : World) (place : ℕ) (cell : Cell × ℕ) (end number : ℕ) (node : NodeState) (acts : List Act) (next : NodeState) (told : List LocalEntry) (after : Cell) → slice_get world.cells place ≡ Some cell
    → find (is_at end) cell.0.nodes ≡ Some (number, node) → node_make node ≡ Ok (acts, next) → acts_on end acts (with_node end next cell.0) ≡ Ok (told, after) → Sound journal log world → CellHolds cell.0 → WorldIsPlain journal world → WorldIsPlain journal (told_on place cell after told world).1
made_plain journal log world place cell end number node acts next told after at there does all sound holds plain = turn_kept journal log world place cell node.own end node.own told after sound plain at (made_turn journal log world sound plain place cell at holds end number node next acts told after there does all)

-- a process asks something of its node
pub asked_plain_world : (journal : List Line) → AreAddresses (names_of journal) → (log : List Entry) (world : World) (what : What) (by : ProcName) (command : Command) (place : ℕ) (cell : Cell × ℕ) (number : ℕ) (node : NodeState) (acts : List Act) (next : NodeState) (told : List LocalEntry) (after : Cell) → IsAsked journal world what by command place
    → slice_get world.cells place ≡ Some cell → find (is_at (end_in world by)) cell.0.nodes ≡ Some (number, node) → node_command node by.counter command (room_for cell.0.host (end_in world by) node.own (target_node node by.counter command)) ≡ Ok (acts, next)
    → acts_on (end_in world by) acts (with_node (end_in world by) next cell.0) ≡ Ok (told, after) → Sound journal log world → CellHolds cell.0 → WorldIsPlain journal world → WorldIsPlain journal (told_on place cell after told world).1
asked_plain_world journal addresses log world what by command place cell number node acts next told after line at there does all sound holds plain = turn_kept journal log world place cell node.own (end_in world by) (goes_to node.own command) told after sound plain at
    (command_turn journal log world sound plain place cell at holds addresses what by command line number node next acts told after there does all)

-- one socket is dialed at most
pub asked_dials : (journal : List Line) → AreAddresses (names_of journal) → (log : List Entry) (world : World) (what : What) (by : ProcName) (command : Command) (place : ℕ) (cell : Cell × ℕ) (number : ℕ) (node : NodeState) (acts : List Act) (next : NodeState) (told : List LocalEntry) (after : Cell) → IsAsked journal world what by command place
    → slice_get world.cells place ≡ Some cell → find (is_at (end_in world by)) cell.0.nodes ≡ Some (number, node) → node_command node by.counter command (room_for cell.0.host (end_in world by) node.own (target_node node by.counter command)) ≡ Ok (acts, next)
    → acts_on (end_in world by) acts (with_node (end_in world by) next cell.0) ≡ Ok (told, after) → Sound journal log world → CellHolds cell.0 → WorldIsPlain journal world → DialsOnce node.own (end_in world by) (goes_to node.own command) (steps_in told) after.host
asked_dials journal addresses log world what by command place cell number node acts next told after line at there does all sound holds plain = (command_turn journal log world sound plain place cell at holds addresses what by command line number node next acts told after there does all).dials
