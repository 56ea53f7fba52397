-- A line that is told and does nothing more: a process takes a message or opens a port, or one is made, at either node.
use Rattle.std.specs.Prelude.{◌≡◌, ℕ, List, [], ◌∷◌, Option, Ok, Err}
use Rattle.ch_model.specs.declared.act.Act.{Act}
use Rattle.ch_model.specs.declared.act.Act.TheVariants as acts
use Rattle.ch_model.specs.declared.command.CommandError.TheVariants.{Unknown}
use Rattle.ch_model.specs.declared.entry.Entry.{Entry}
use Rattle.ch_model.specs.declared.entry.Verdict.TheVariants as verdicts
use Rattle.ch_model.specs.declared.line.What.{What}
use Rattle.ch_model.specs.declared.local.LocalEntry.{LocalEntry}
use Rattle.ch_model.specs.declared.local.LocalEntry.TheVariants as local
use Rattle.ch_model.specs.declared.local.LocalEvent.{LocalEvent}
use Rattle.ch_model.specs.declared.local.LocalEvent.TheVariants as events
use Rattle.ch_model.specs.NodeState.{NodeState}
use Rattle.ch_model.specs.NodeActs.{Answered}
use Rattle.ch_model.specs.Node.{node_make, node_command, target_node}
use Rattle.ch_model.specs.WorldState.{Cell, World}
use Rattle.ch_model.specs.Cell.{room_for}
use Rattle.ch_model.specs.WorldSteps.{all_told}
use Rattle.ch_model.specs.WorldHappenings.{with_cell, cell_hears}
use Rattle.ch_model.specs.WorldLines.{line_done}
use Rattle.ch_delivery.specs.Passage as passages
use Rattle.ch_laws_delivery.specs.Scene.{Name, Party, Scene}
use Rattle.ch_laws_delivery.specs.Quiets.{kept_in}
use Rattle.ch_laws_delivery.specs.Standings.{stood_in, IsStood}
use Rattle.ch_laws_delivery.specs.Worlds.{Leg, IsSceneOf}

-- the node tells something, and asks nothing of its host
abbrev pub AreNotes : List Act → Type 0
AreNotes [] = Unit {0}
AreNotes (acts.Note note ∷ rest) = AreNotes rest
AreNotes (act ∷ rest) = ⊥

-- what it tells
abbrev pub told_notes : List Act → List LocalEntry
told_notes [] = []
told_notes (acts.Note note ∷ rest) = local.Note note ∷ told_notes rest
told_notes (act ∷ rest) = told_notes rest

-- what an event asks of a party's node: that a process is made, or a command of one
abbrev pub asked_of : Party → LocalEvent → Answered
asked_of party (events.Make end) = node_make party.node
asked_of party (events.Command end by command) = node_command party.node by command (room_for party.host party.end party.node.own (target_node party.node by command))
asked_of party event = Err Unknown

-- the event is at the party's endpoint
abbrev pub IsHeardAt : ℕ → LocalEvent → Type 0
IsHeardAt number (events.Make end) = end ≡ number
IsHeardAt number (events.Command end by command) = end ≡ number
IsHeardAt number event = ⊥

-- The line is heard by the cell at this place, as an event at the party's endpoint, which the node answers, telling these
-- notes and nothing more.
pub record IsToldBy (world : World) (place : ℕ) (party : Party) (what : What) (event : LocalEvent) (did : List Act) (after : NodeState) : Type 0 where
  pub heard : line_done what world ≡ cell_hears place event world
  pub end : IsHeardAt party.end event
  pub does : asked_of party event ≡ Ok (did, after)
  pub notes : AreNotes did

-- what follows in the world, where the cell of the party is this after it
abbrev pub noted_in : World → ℕ → Cell → ℕ → List Act → List Entry × World
noted_in world place cell came did = all_told place cell (told_notes did) (with_cell place (cell, came) world)

-- The line is answered `ok`, at the sending node; and the world after it has the scene with the node after it, whatever log that
-- has. So it is a move where the node's part is one that writes nothing: a reconnect with no open connection, or what a broken
-- pair says.
pub record IsToldIn (world : World) (from to : ℕ) (legs : ℕ → Option Leg) (scene : Scene) (what : What) (did : List Act) (after : NodeState) : Type 0 where
  pub cell : Cell
  pub came : ℕ
  pub answered : line_done what world ≡ Ok ((verdicts.Ok, (noted_in world from cell came did).0), (noted_in world from cell came did).1)
  pub now : (log : List passages.Entry) → IsSceneOf (noted_in world from cell came did).1 from to legs (record (kept_in scene after) { log = log })

-- The same at the receiving node, where what is seen then is the passage after the move.
pub record IsStoodIn (names : List Name) (world : World) (from to : ℕ) (legs : ℕ → Option Leg) (scene : Scene) (what : What) (did : List Act) (after : NodeState) : Type 0 where
  pub cell : Cell
  pub came : ℕ
  pub answered : line_done what world ≡ Ok ((verdicts.Ok, (noted_in world to cell came did).0), (noted_in world to cell came did).1)
  pub now : IsSceneOf (noted_in world to cell came did).1 from to legs (stood_in names scene after)
  pub seen : IsStood names scene after
