-- What a node that a command is asked of makes its host write: items with the places of what they carry.
use Rattle.std.specs.Prelude.{◌≡◌, ◌⊎◌, ℕ, List, [], ◌∷◌, ◌++◌, find, slice_get, Some, None, Ok}
use Rattle.ch_base.specs.declared.address.Address.{Address}
use Rattle.ch_static.specs.declared.command.Command.{Command}
use Rattle.ch_model.specs.declared.act.Act.{Act}
use Rattle.ch_model.specs.declared.entry.Entry.{Entry}
use Rattle.ch_model.specs.declared.line.Line.{Line}
use Rattle.ch_model.specs.declared.line.What.{What}
use Rattle.ch_model.specs.declared.local.LocalEntry.{LocalEntry}
use Rattle.ch_model.specs.declared.name.ProcName.{ProcName}
use Rattle.ch_model.specs.declared.step.Step.{Step}
use Rattle.ch_model.specs.declared.step.Step.TheVariants as steps
use Rattle.ch_model.specs.Cell.{room_for}
use Rattle.ch_model.specs.CellSteps.{is_at, with_node, acts_on}
use Rattle.ch_model.specs.HostState.{HostState}
use Rattle.ch_model.specs.HostSteps.{is_socket}
use Rattle.ch_model.specs.Node.{node_command, target_node}
use Rattle.ch_model.specs.NodeState.{NodeState}
use Rattle.ch_model.specs.WorldState.{Cell, World}
use Rattle.ch_race.specs.Pair.{Side}
use Rattle.ch_laws_bytes.proofs.Lines.{own_of}
use Rattle.ch_laws_calls.specs.Calls.{Both}
use Rattle.ch_laws_calls.specs.Scenes.{IsPairOf}
use Rattle.ch_laws_log.specs.HostEnds.{steps_in}
use Rattle.ch_laws_race.specs.Scene.{Party}
use Rattle.ch_laws_reads.specs.Reads.{reads_of}
use Rattle.ch_laws_calls.specs.FitsTurns.{NoDials}
use Rattle.ch_laws_calls.specs.Turns.{told_on, IsAsked, end_in}
use Rattle.ch_laws_peers.specs.Reads.{PlacedItem}
use Rattle.ch_laws_peers.specs.Says.{AllSay}
use Rattle.ch_laws_peers.specs.Standing.{Standing}
use Rattle.ch_laws_messages.specs.WayGoes.{HostDoes, GoTruly}

-- The steps that are told dial nothing, or one new socket and do nothing else; the host reads nothing and writes these items; and what each
-- node has written towards another, with them, has the places of what it carries.
pub record AskedTruly (journal : List Line) (log : List Entry) (world : World) (place : ℕ) (host : HostState) (told : List Step) (after : HostState) (after_log : List Entry) (then_world : World) : Type 0 where
  pub new : ℕ → List PlacedItem
  pub does : HostDoes (own_of journal place) host told after new
  pub dials : NoDials told ⊎ ((sock : ℕ) × (end : ℕ) × (peer : Address) × (told ≡ steps.Dial sock end peer ∷ []) × (find (is_socket sock) host.sockets ≡ None))
  pub unread : (n : ℕ) → reads_of n told ≡ 0
  pub truly : (party : Side → Party) → IsPairOf journal party → (x : Side) → GoTruly place told new log world after_log then_world party x

-- so it is in each turn in which a command is asked
pub record AsksTruly (journal : List Line) : Type 0 where
  pub asked : (log : List Entry) (world : World) (what : What) (by : ProcName) (command : Command) (place : ℕ) (cell : Cell × ℕ) (number : ℕ) (node : NodeState) (acts : List Act) (next : NodeState) (told : List LocalEntry) (after : Cell) → IsAsked journal world what by command place
      → slice_get world.cells place ≡ Some cell → find (is_at (end_in world by)) cell.0.nodes ≡ Some (number, node) → node_command node by.counter command (room_for cell.0.host (end_in world by) node.own (target_node node by.counter command)) ≡ Ok (acts, next)
      → acts_on (end_in world by) acts (with_node (end_in world by) next cell.0) ≡ Ok (told, after) → Both (Standing journal) (AllSay journal) log world
      → let done = told_on place cell after told world in Both (Standing journal) (AllSay journal) (log ++ done.0) done.1 → AskedTruly journal log world place cell.0.host (steps_in told) after.host (log ++ done.0) done.1
