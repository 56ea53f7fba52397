-- A line by which a process reconnects to a target at the other node, where the pair has an open connection.
use Rattle.std.specs.Prelude.{◌≡◌, ℕ, ◌+◌, List, [], ◌∷◌, map, Option, Ok}
use Rattle.ch_light.specs.declared.Connection.{Connection}
use Rattle.ch_wire.specs.declared.frame.Frame.{Frame}
use Rattle.ch_model.specs.declared.entry.Entry.{Entry}
use Rattle.ch_model.specs.declared.entry.Verdict.TheVariants as verdicts
use Rattle.ch_model.specs.declared.line.What.TheVariants as lines
use Rattle.ch_model.specs.declared.local.LocalEntry.{LocalEntry}
use Rattle.ch_model.specs.declared.local.LocalEntry.TheVariants as local
use Rattle.ch_model.specs.declared.name.ProcName.{ProcName}
use Rattle.ch_model.specs.declared.name.TargetName.{TargetName}
use Rattle.ch_model.specs.declared.note.Note.TheVariants as notes
use Rattle.ch_model.specs.declared.step.Weight.{Weight}
use Rattle.ch_model.specs.HostWrites.{frame_step}
use Rattle.ch_model.specs.NodeState.{Pair}
use Rattle.ch_model.specs.NodeIds.{process_id}
use Rattle.ch_model.specs.WorldState.{Cell, World}
use Rattle.ch_model.specs.WorldSteps.{all_told}
use Rattle.ch_model.specs.WorldHappenings.{with_cell}
use Rattle.ch_model.specs.WorldLines.{line_done}
use Rattle.ch_delivery.specs.Moves.{Reconnect, after}
use Rattle.ch_laws_delivery.specs.Scene.{Name, Party, Scene}
use Rattle.ch_laws_delivery.specs.Sending.{pair_at}
use Rattle.ch_laws_delivery.specs.Reconnects.{reconnected_in}
use Rattle.ch_laws_delivery.specs.UpReconnects.{close_frame, closed_in}
use Rattle.ch_laws_delivery.specs.Worlds.{Leg, IsSceneOf}
use Rattle.ch_laws_delivery.specs.View.{view}

-- what follows at the cell: the next epoch is told, and these frames are written
abbrev pub again_entries : Party → Pair → ℕ → List (Frame × Weight) → List LocalEntry
again_entries party pair sock items = local.Note (notes.Again (process_id party.node pair.by) pair.to (pair.epoch + 1)) ∷ map (λ item. local.Step (frame_step sock item)) items

-- what follows in the world, where the cell of the sending node is this after it
abbrev pub again_in : World → ℕ → Cell → ℕ → Party → Pair → ℕ → List (Frame × Weight) → List Entry × World
again_in world place cell came party pair sock items = all_told place cell (again_entries party pair sock items) (with_cell place (cell, came) world)

-- The line is answered `ok`, and nothing is written; the world after it has the scene after it, with the same legs; and what is
-- seen then is the passage after the move.
pub record IsReconnectedIn (names : List Name) (world : World) (from to : ℕ) (legs : ℕ → Option Leg) (scene : Scene) (c : ℕ) (name : Name) (id : ℕ) (table : List Connection) (by : ProcName) (target : TargetName) : Type 0 where
  pub cell : Cell
  pub came : ℕ
  pub answered : line_done (lines.Again by target) world
      ≡ Ok ((verdicts.Ok, (again_in world from cell came scene.from (pair_at scene.from.node name) 0 []).0), (again_in world from cell came scene.from (pair_at scene.from.node name) 0 []).1)
  pub now : IsSceneOf (again_in world from cell came scene.from (pair_at scene.from.node name) 0 []).1 from to legs (reconnected_in scene c (pair_at scene.from.node name) id table)
  pub seen : view names (reconnected_in scene c (pair_at scene.from.node name) id table) ≡ after (Reconnect c) (view names scene)

-- The same while the link is up: the close's bytes come behind what is unread at the receiving node's end.
pub record IsClosedIn (names : List Name) (world : World) (from to : ℕ) (legs : ℕ → Option Leg) (scene : Scene) (c : ℕ) (name : Name) (id sock : ℕ) (table : List Connection) (by : ProcName) (target : TargetName) : Type 0 where
  pub cell : Cell
  pub came : ℕ
  pub answered : line_done (lines.Again by target) world
      ≡ Ok (
        (verdicts.Ok, (again_in world from cell came scene.from (pair_at scene.from.node name) sock (close_frame id ∷ [])).0),
        (again_in world from cell came scene.from (pair_at scene.from.node name) sock (close_frame id ∷ [])).1,
      )
  pub now : IsSceneOf (again_in world from cell came scene.from (pair_at scene.from.node name) sock (close_frame id ∷ [])).1 from to legs (closed_in scene c (pair_at scene.from.node name) id table)
  pub seen : view names (closed_in scene c (pair_at scene.from.node name) id table) ≡ after (Reconnect c) (view names scene)
