-- A line by which a process sends on an open connection while the link is up: its frame comes to the receiving node's end.
use Rattle.std.specs.Prelude.{◌≡◌, ℕ, List, [], ◌∷◌, Option, Some, Ok}
use Rattle.ch_ident.specs.declared.message.Message.{Message}
use Rattle.ch_static.specs.declared.command.Command.TheVariants.{Send}
use Rattle.ch_model.specs.declared.entry.Entry.{Entry}
use Rattle.ch_model.specs.declared.entry.Verdict.TheVariants as verdicts
use Rattle.ch_model.specs.declared.line.What.TheVariants as lines
use Rattle.ch_model.specs.declared.local.LocalEntry.{LocalEntry}
use Rattle.ch_model.specs.declared.local.LocalEntry.TheVariants as local
use Rattle.ch_model.specs.declared.local.LocalEvent.TheVariants.{Command}
use Rattle.ch_model.specs.declared.name.ProcName.{ProcName}
use Rattle.ch_model.specs.declared.name.TargetName.{TargetName}
use Rattle.ch_model.specs.declared.note.Note.TheVariants as notes
use Rattle.ch_model.specs.HostState.{HostState}
use Rattle.ch_model.specs.HostSteps.{link_with}
use Rattle.ch_model.specs.HostWrites.{frame_step}
use Rattle.ch_model.specs.NodeState.{Pair}
use Rattle.ch_model.specs.NodeIds.{process_id}
use Rattle.ch_model.specs.NodePairs.{keeping}
use Rattle.ch_model.specs.NodeSends.{with_said}
use Rattle.ch_model.specs.WorldState.{Cell, World}
use Rattle.ch_model.specs.Cell.{cell_step}
use Rattle.ch_model.specs.WorldSteps.{all_told}
use Rattle.ch_model.specs.WorldHappenings.{with_cell}
use Rattle.ch_model.specs.WorldLines.{line_done}
use Rattle.ch_delivery.specs.Moves.{Say, after}
use Rattle.ch_laws_delivery.specs.Scene.{Name, Party, Scene, link_of}
use Rattle.ch_laws_delivery.specs.Sending.{pair_at}
use Rattle.ch_laws_delivery.specs.UpSends.{frame_of, written_in}
use Rattle.ch_laws_delivery.specs.Cells.{IsAt, cell_with}
use Rattle.ch_laws_delivery.specs.Worlds.{Leg, IsSceneOf}
use Rattle.ch_laws_delivery.specs.View.{view}

-- what follows at the cell: the message is said, and its frame is written
abbrev pub written_entries : Party → Pair → ℕ → ℕ → Message → List LocalEntry
written_entries party pair id sock said = local.Note (notes.Said (process_id party.node pair.by) pair.to pair.epoch pair.index said) ∷ local.Step (frame_step sock (frame_of id pair said)) ∷ []

-- The command is answered `ok`, and that follows; the scene after it has the cell's host and node, with the same link; and what
-- is seen then is the passage after the move.
pub record IsWrittenAt (names : List Name) (scene : Scene) (c : ℕ) (name : Name) (id sock : ℕ) (said : Message) (cell : Cell) : Type 0 where
  pub host : HostState
  pub answered : cell_step cell (Command scene.from.end name.by (Send name.to said))
      ≡ Ok ((verdicts.Ok, written_entries scene.from (pair_at scene.from.node name) id sock said), cell_with cell scene.from.end (keeping scene.from.node (with_said (pair_at scene.from.node name))) host)
  pub at : IsAt (written_in scene c (pair_at scene.from.node name) id said host).from (cell_with cell scene.from.end (keeping scene.from.node (with_said (pair_at scene.from.node name))) host)
  pub link : link_with host scene.from.end scene.from.peer ≡ link_of scene.from
  pub seen : view names (written_in scene c (pair_at scene.from.node name) id said host) ≡ after (Say c) (view names scene)

-- no two numbers of the way have one socket
abbrev pub AreSocketsApart : (ℕ → Option Leg) → Type 0
AreSocketsApart legs = (i j : ℕ) (a b : Leg) → legs i ≡ Some a → legs j ≡ Some b → a.socket ≡ b.socket → i ≡ j

-- what follows in the world, where the cell of the sending node is this after it
abbrev pub wrote_in : World → ℕ → Cell → ℕ → Party → Pair → ℕ → ℕ → Message → List Entry × World
wrote_in world place cell came party pair id sock said = all_told place cell (written_entries party pair id sock said) (with_cell place (cell, came) world)

-- The line is answered `ok`; the world after it has the scene after it, with the same legs: the frame's bytes come behind what is
-- unread at the receiving node's end; and what is seen then is the passage after the move.
pub record IsWrittenIn (names : List Name) (world : World) (from to : ℕ) (legs : ℕ → Option Leg) (scene : Scene) (c : ℕ) (name : Name) (id sock : ℕ) (said : Message) (by : ProcName) (target : TargetName) : Type 0 where
  pub host : HostState
  pub cell : Cell
  pub came : ℕ
  pub answered : line_done (lines.Send by target said.mark said.body) world
      ≡ Ok ((verdicts.Ok, (wrote_in world from cell came scene.from (pair_at scene.from.node name) id sock said).0), (wrote_in world from cell came scene.from (pair_at scene.from.node name) id sock said).1)
  pub now : IsSceneOf (wrote_in world from cell came scene.from (pair_at scene.from.node name) id sock said).1 from to legs (written_in scene c (pair_at scene.from.node name) id said host)
  pub seen : view names (written_in scene c (pair_at scene.from.node name) id said host) ≡ after (Say c) (view names scene)
