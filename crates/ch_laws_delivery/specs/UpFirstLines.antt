-- A line by which a process sends the first message of an epoch while the link is up: that its connection is created, its opening
-- and the message come to the receiving node's end.
use Rattle.std.specs.Prelude.{◌≡◌, ℕ, nat_eq, Bool, true, false, List, [], ◌∷◌, ◌++◌, map, Option, Some, None, Ok}
use Rattle.ch_ident.specs.declared.message.Message.{Message}
use Rattle.ch_light.specs.Ids.{opened}
use Rattle.ch_static.specs.declared.command.Command.TheVariants.{Send}
use Rattle.ch_model.specs.declared.entry.Entry.{Entry}
use Rattle.ch_model.specs.declared.entry.Verdict.TheVariants as verdicts
use Rattle.ch_model.specs.declared.line.What.TheVariants as lines
use Rattle.ch_model.specs.declared.local.LocalEntry.{LocalEntry}
use Rattle.ch_model.specs.declared.local.LocalEntry.TheVariants as local
use Rattle.ch_model.specs.declared.local.LocalEvent.TheVariants.{Command}
use Rattle.ch_model.specs.declared.name.ProcName.{ProcName}
use Rattle.ch_model.specs.declared.name.TargetName.{TargetName}
use Rattle.ch_model.specs.declared.note.Note.TheVariants as notes
use Rattle.ch_model.specs.HostState.{HostState}
use Rattle.ch_model.specs.HostSteps.{link_with}
use Rattle.ch_model.specs.HostWrites.{frame_step}
use Rattle.ch_model.specs.NodeState.{Pair}
use Rattle.ch_model.specs.NodeIds.{process_id}
use Rattle.ch_model.specs.WorldState.{Cell, World}
use Rattle.ch_model.specs.Cell.{cell_step}
use Rattle.ch_model.specs.WorldSteps.{all_told}
use Rattle.ch_model.specs.WorldHappenings.{with_cell}
use Rattle.ch_model.specs.WorldLines.{line_done}
use Rattle.ch_delivery.specs.Moves.{Say, after}
use Rattle.ch_laws_delivery.specs.Scene.{Name, Use, Party, Scene, link_of}
use Rattle.ch_laws_delivery.specs.Sending.{pair_at}
use Rattle.ch_laws_delivery.specs.FirstSends.{first_after}
use Rattle.ch_laws_delivery.specs.UpFirstSends.{first_frames, opened_up_in}
use Rattle.ch_laws_delivery.specs.Cells.{IsAt, cell_with}
use Rattle.ch_laws_delivery.specs.Worlds.{Leg, IsSceneOf}
use Rattle.ch_laws_delivery.specs.UpLines.{AreSocketsApart}
use Rattle.ch_laws_delivery.specs.View.{view}

-- what follows at the cell: the message is said, and the three frames are written
abbrev pub first_entries : Party → Pair → ℕ → Message → List LocalEntry
first_entries party pair sock said =
    local.Note (notes.Said (process_id party.node pair.by) pair.to pair.epoch pair.index said) ∷ map (λ item. local.Step (frame_step sock item)) (first_frames party.node (link_of party) pair said)

-- The command is answered `ok`, and that follows; the scene after it has the cell's host and node, where the link has the connection
-- and else is as it was; and what is seen then is the passage after the move.
pub record IsWrittenFirstAt (names : List Name) (scene : Scene) (c : ℕ) (name : Name) (conn sock : ℕ) (said : Message) (cell : Cell) : Type 0 where
  pub host : HostState
  pub answered : cell_step cell (Command scene.from.end name.by (Send name.to said))
      ≡ Ok ((verdicts.Ok, first_entries scene.from (pair_at scene.from.node name) sock said), cell_with cell scene.from.end (first_after scene.from.node (pair_at scene.from.node name) conn) host)
  pub at : IsAt (opened_up_in scene c (pair_at scene.from.node name) conn said host).from (cell_with cell scene.from.end (first_after scene.from.node (pair_at scene.from.node name) conn) host)
  pub link : link_with host scene.from.end scene.from.peer ≡ record (link_of scene.from) { given = (link_of scene.from).given ++ opened conn ∷ [] }
  pub seen : view names (opened_up_in scene c (pair_at scene.from.node name) conn said host) ≡ after (Say c) (view names scene)

-- ---- the legs

-- the leg, with one id more that is for this
abbrev pub with_use : Option Use → Leg → Leg
with_use u leg = record leg { uses = leg.uses ++ u ∷ [] }

abbrev pub used_by : Bool → Option Use → Option Leg → Option Leg
used_by true u None = None
used_by true u (Some leg) = Some (with_use u leg)
used_by false u leg = leg

-- the legs, where the one of this number has one id more
abbrev pub used_on : ℕ → Option Use → (ℕ → Option Leg) → ℕ → Option Leg
used_on on u legs i = used_by (nat_eq i on) u (legs i)

-- the legs after it: the id of the new connection is for the pair and its epoch
abbrev pub legs_after : Scene → ℕ → Pair → (ℕ → Option Leg) → ℕ → Option Leg
legs_after scene c pair legs = used_on scene.way.on (Some (record { pair = c; epoch = pair.epoch })) legs

-- ---- the line

-- what follows in the world, where the cell of the sending node is this after it
abbrev pub wrote_first_in : World → ℕ → Cell → ℕ → Party → Pair → ℕ → Message → List Entry × World
wrote_first_in world place cell came party pair sock said = all_told place cell (first_entries party pair sock said) (with_cell place (cell, came) world)

-- The line is answered `ok`; the world after it has the scene after it, with the same sockets as legs, where the one that the sending
-- node is up on has one id more: the frames' bytes come behind what is unread at the receiving node's end; and what is seen then
-- is the passage after the move.
pub record IsWrittenFirstIn (names : List Name) (world : World) (from to : ℕ) (legs : ℕ → Option Leg) (scene : Scene) (c : ℕ) (name : Name) (conn sock : ℕ) (said : Message) (by : ProcName) (target : TargetName) : Type 0 where
  pub host : HostState
  pub cell : Cell
  pub came : ℕ
  pub answered : line_done (lines.Send by target said.mark said.body) world
      ≡ Ok ((verdicts.Ok, (wrote_first_in world from cell came scene.from (pair_at scene.from.node name) sock said).0), (wrote_first_in world from cell came scene.from (pair_at scene.from.node name) sock said).1)
  pub now : IsSceneOf (wrote_first_in world from cell came scene.from (pair_at scene.from.node name) sock said).1 from to (legs_after scene c (pair_at scene.from.node name) legs)
      (opened_up_in scene c (pair_at scene.from.node name) conn said host)
  pub apart : AreSocketsApart (legs_after scene c (pair_at scene.from.node name) legs)
  pub seen : view names (opened_up_in scene c (pair_at scene.from.node name) conn said host) ≡ after (Say c) (view names scene)
