-- An event of a cell in which the host is called more than once: each call is seen as moves, and so is the event.
use Rattle.std.specs.Prelude.{◌≡◌, ℕ, List, [], ◌∷◌, ◌++◌, slice_get, Some, Ok}
use Rattle.ch_model.specs.declared.entry.Verdict.{Verdict}
use Rattle.ch_model.specs.declared.local.LocalEntry.{LocalEntry}
use Rattle.ch_model.specs.declared.local.LocalEntry.TheVariants as local
use Rattle.ch_model.specs.declared.local.LocalEvent.{LocalEvent}
use Rattle.ch_model.specs.declared.step.Step.{Step}
use Rattle.ch_model.specs.declared.step.Step.TheVariants as steps
use Rattle.ch_model.specs.HostState.{HostState}
use Rattle.ch_model.specs.HostSteps.{Stepped}
use Rattle.ch_model.specs.WorldState.{Cell}
use Rattle.ch_model.specs.Cell.{cell_step}
use Rattle.ch_race.specs.Pair.{Side}
use Rattle.ch_race.specs.Moves.{Move}
use Rattle.ch_laws_race.specs.Scene.{Scene, after_steps}
use Rattle.ch_laws_race.specs.Reading.{IsSeen}

-- what each call of a host does, and as which moves it is seen
abbrev pub Calls : Type 0
Calls = List (Stepped × List Move)

-- One call: its steps are seen as these moves, and the host keeps its text and its port.
pub record IsCall (scene : Scene) (x : Side) (cell : Cell × ℕ) (done : Stepped) (moves : List Move) : Type 0 where
  pub seen : IsSeen scene x cell done moves
  pub text : seen.host.host ≡ cell.0.host.host
  pub port : seen.host.port ≡ cell.0.host.port

-- the scene, and the cell, after a call
abbrev pub scene_after : (scene : Scene) (x : Side) (cell : Cell × ℕ) (done : Stepped) (moves : List Move) → IsCall scene x cell done moves → Scene
scene_after scene x cell done moves call = after_steps scene x cell call.seen.steps call.seen.host

abbrev pub cell_after : (scene : Scene) (x : Side) (cell : Cell × ℕ) (done : Stepped) (moves : List Move) → IsCall scene x cell done moves → Cell × ℕ
cell_after scene x cell done moves call = (record (cell.0) { host = call.seen.host }, cell.1)

-- each call after those before it
abbrev pub AreCalls : Scene → Side → Cell × ℕ → Calls → Type 0
AreCalls scene x cell [] = Unit {0}
AreCalls scene x cell (one ∷ rest) = (call : IsCall scene x cell one.0 one.1) × AreCalls (scene_after scene x cell one.0 one.1 call) x (cell_after scene x cell one.0 one.1 call) rest

-- the moves of all calls
abbrev pub moves_of : Calls → List Move
moves_of [] = []
moves_of (one ∷ rest) = one.1 ++ moves_of rest

-- the steps of all calls
abbrev pub steps_in : (scene : Scene) (x : Side) (cell : Cell × ℕ) (calls : Calls) → AreCalls scene x cell calls → List Step
steps_in scene x cell [] are = []
steps_in scene x cell (one ∷ rest) are = are.0.seen.steps ++ steps_in (scene_after scene x cell one.0 one.1 are.0) x (cell_after scene x cell one.0 one.1 are.0) rest are.1

-- the host after all calls
abbrev pub host_in_end : (scene : Scene) (x : Side) (cell : Cell × ℕ) (calls : Calls) → AreCalls scene x cell calls → HostState
host_in_end scene x cell [] are = cell.0.host
host_in_end scene x cell (one ∷ rest) are = host_in_end (scene_after scene x cell one.0 one.1 are.0) x (cell_after scene x cell one.0 one.1 are.0) rest are.1

-- the steps among what is told, without the notes
abbrev pub steps_told : List LocalEntry → List Step
steps_told [] = []
steps_told (local.Step step ∷ rest) = step ∷ steps_told rest
steps_told (local.Note note ∷ rest) = steps_told rest

-- the steps that are told: those that post an event to a node are no entries
abbrev pub unposted : List Step → List Step
unposted [] = []
unposted (steps.Post end event ∷ rest) = unposted rest
unposted (step ∷ rest) = step ∷ unposted rest

-- What x's cell makes of an event is, beside notes of nodes, these calls of its host, one after another.
pub record IsOfCalls (scene : Scene) (x : Side) (cell : Cell × ℕ) (event : LocalEvent) (calls : Calls) : Type 0 where
  pub there : slice_get scene.world.cells (scene.party x).place ≡ Some cell
  pub verdict : Verdict
  pub told : List LocalEntry
  pub after : Cell
  pub does : cell_step cell.0 event ≡ Ok ((verdict, told), after)
  pub are : AreCalls scene x cell calls
  pub steps : steps_told told ≡ unposted (steps_in scene x cell calls are)
  pub host : after.host ≡ host_in_end scene x cell calls are
