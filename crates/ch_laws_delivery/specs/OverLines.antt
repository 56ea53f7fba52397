-- A line by which a process of the sending node is over, whose connections its host closes.
use Rattle.std.specs.Prelude.{◌≡◌, ℕ, List, [], ◌∷◌, ◌++◌, map, Option, Ok}
use Rattle.ch_model.specs.declared.act.Act.{Act}
use Rattle.ch_model.specs.declared.act.Act.TheVariants as acts
use Rattle.ch_model.specs.declared.entry.Entry.{Entry}
use Rattle.ch_model.specs.declared.entry.Verdict.TheVariants as verdicts
use Rattle.ch_model.specs.declared.line.What.{What}
use Rattle.ch_model.specs.declared.local.LocalEntry.{LocalEntry}
use Rattle.ch_model.specs.declared.local.LocalEntry.TheVariants as local
use Rattle.ch_model.specs.declared.local.LocalEvent.{LocalEvent}
use Rattle.ch_model.specs.CellSteps.{told_steps}
use Rattle.ch_model.specs.NodeState.{NodeState}
use Rattle.ch_model.specs.WorldState.{Cell, World}
use Rattle.ch_model.specs.WorldSteps.{all_told}
use Rattle.ch_model.specs.WorldHappenings.{with_cell, cell_hears}
use Rattle.ch_model.specs.WorldLines.{line_done}
use Rattle.ch_delivery.specs.Moves.{Finish, run}
use Rattle.ch_laws_delivery.specs.Scene.{Name, Party, Scene, link_of}
use Rattle.ch_laws_delivery.specs.Endings.{Parting, parting_steps, parted, pairs_of, ended_in}
use Rattle.ch_laws_delivery.specs.QuietLines.{asked_of, IsHeardAt}
use Rattle.ch_laws_delivery.specs.Worlds.{Leg, IsSceneOf}
use Rattle.ch_laws_delivery.specs.View.{view}

-- the node tells something, closes these connections in order, and asks nothing more of its host
abbrev pub AreFarewells : List Act → List Parting → Type 0
AreFarewells [] [] = Unit {0}
AreFarewells [] (p ∷ rest) = ⊥
AreFarewells (acts.Note note ∷ more) ps = AreFarewells more ps
AreFarewells (acts.Close conn ∷ more) (p ∷ rest) = (conn ≡ p.conn) × AreFarewells more rest
AreFarewells (act ∷ more) ps = ⊥

-- what follows at the cell: what is told, and each close, where the link is up
abbrev pub left_entries : Scene → List Act → List Parting → List LocalEntry
left_entries scene (acts.Note note ∷ more) ps = local.Note note ∷ left_entries scene more ps
left_entries scene (acts.Close conn ∷ more) (p ∷ rest) = told_steps (parting_steps (link_of scene.from).state p.id) ++ left_entries (parted scene p) more rest
left_entries scene did ps = []

-- The line is heard by the cell at this place, as an event at the party's endpoint, which the node answers so.
pub record IsLeftBy (world : World) (place : ℕ) (party : Party) (what : What) (event : LocalEvent) (did : List Act) (after : NodeState) (ps : List Parting) : Type 0 where
  pub heard : line_done what world ≡ cell_hears place event world
  pub end : IsHeardAt party.end event
  pub does : asked_of party event ≡ Ok (did, after)
  pub farewells : AreFarewells did ps

-- what follows in the world, where the cell of the sending node is this after it
abbrev pub left_in : World → ℕ → Cell → ℕ → Scene → List Act → List Parting → List Entry × World
left_in world place cell came scene did ps = all_told place cell (left_entries scene did ps) (with_cell place (cell, came) world)

-- The line is answered `ok`; the world after it has the scene after it, with the same legs; and what is seen then is the passage
-- after the pairs of the process are finished, one after another.
pub record IsOverIn (names : List Name) (world : World) (from to : ℕ) (legs : ℕ → Option Leg) (scene : Scene) (what : What) (did : List Act) (after : NodeState) (ps : List Parting) (others : List ℕ) : Type 0 where
  pub cell : Cell
  pub came : ℕ
  pub answered : line_done what world
      ≡ Ok ((verdicts.Ok, (left_in world from cell came (record scene { from = record (scene.from) { node = after } }) did ps).0), (left_in world from cell came (record scene { from = record (scene.from) { node = after } }) did ps).1)
  pub now : IsSceneOf (left_in world from cell came (record scene { from = record (scene.from) { node = after } }) did ps).1 from to legs (ended_in scene after ps)
  pub seen : view names (ended_in scene after ps) ≡ run (map (λ c. Finish c) (pairs_of ps ++ others)) (view names scene)
