-- That what a process gets, as a host reads an item, is the message that is carried next from another node.
use Rattle.std.specs.Prelude.{◌≡◌, ℕ, List, [], ◌∷◌, ◌++◌, slice_get, Some, Ok}
use Rattle.ch_model.specs.declared.entry.Entry.{Entry}
use Rattle.ch_model.specs.declared.entry.Entry.TheVariants as entries
use Rattle.ch_model.specs.declared.line.Line.{Line}
use Rattle.ch_model.specs.declared.local.LocalEntry.{LocalEntry}
use Rattle.ch_model.specs.declared.name.ProcName.{ProcName}
use Rattle.ch_model.specs.declared.name.TargetName.{TargetName}
use Rattle.ch_model.specs.declared.step.Step.{Step}
use Rattle.ch_model.specs.AccountsItems.{first_payload}
use Rattle.ch_model.specs.CellSteps.{steps_on}
use Rattle.ch_model.specs.Host.{host_next}
use Rattle.ch_model.specs.HostState.{HostState}
use Rattle.ch_model.specs.Same.{node_of}
use Rattle.ch_model.specs.WorldState.{Cell, World}
use Rattle.ch_race.specs.Pair.{Side, other}
use Rattle.ch_laws_race.specs.Scene.{Party}
use Rattle.ch_laws_calls.specs.Calls.{Claim, with_host}
use Rattle.ch_laws_calls.specs.Scenes.{IsPairOf}
use Rattle.ch_laws_calls.specs.Turns.{told_on}
use Rattle.ch_laws_peers.specs.Words.{Carries, place_of}
use Rattle.ch_laws_peers.specs.Reads.{read_of}
use Rattle.ch_laws_messages.specs.CarriedNexts.{GetsNext}

-- The message is got next, of x at the other node: the payload isn't the first under its id, and is that of the saying, on a connection
-- that was opened for its pair.
pub record IsNext (journal : List Line) (log : List Entry) (world : World) (party : Side → Party) (x : Side) (cell : Cell × ℕ) (by : ProcName) (to : TargetName) (epoch index : ℕ) : Type 0 where
  pub gets : GetsNext log world party x cell by to epoch index
  pub opening : List ℕ
  pub opened : first_payload gets.id (read_of party world x log) ≡ Some opening
  pub carries : Carries journal opening ((gets.id, gets.payload), place_of (Some gets.s)) gets.s

-- The message is of a process of one node of the journal to one of another, and is got next between the two.
pub record Enters (journal : List Line) (log : List Entry) (world : World) (cell : Cell × ℕ) (by : ProcName) (to : TargetName) (epoch index : ℕ) : Type 0 where
  pub party : Side → Party
  pub pair : IsPairOf journal party
  pub x : Side
  pub from : by.node ≡ (party x).name
  pub goes : node_of to ≡ (party (other x)).name
  pub next : IsNext journal log world party x cell by to epoch index

-- however the two nodes are given, it is got next between them
abbrev pub IsNextOf : List Line → List Entry → World → Cell × ℕ → ProcName → TargetName → ℕ → ℕ → Type 0
IsNextOf journal log world cell by to epoch index = (party : Side → Party) → IsPairOf journal party → (x : Side) → by.node ≡ (party x).name → node_of to ≡ (party (other x)).name → IsNext journal log world party x cell by to epoch index

-- what the entry gets, if anything, is such a message
abbrev pub EntersSo : List Line → List Entry → World → Cell × ℕ → Entry → Type 0
EntersSo journal log world cell (entries.Got by to epoch index receiver) = Enters journal log world cell by to epoch index × IsNextOf journal log world cell by to epoch index
EntersSo journal log world cell entry = Unit {0}

-- so it is of each of these entries
abbrev pub AllEnter : List Line → List Entry → World → Cell × ℕ → List Entry → Type 0
AllEnter journal log world cell [] = Unit {0}
AllEnter journal log world cell (entry ∷ rest) = EntersSo journal log world cell entry × AllEnter journal log world cell rest

-- So it is of all that is told of each turn in which a host reads an item, where P holds before it and Q after it.
pub record ReadsEnter (journal : List Line) (P Q : Claim) : Type 0 where
  pub item : (log : List Entry) (world : World) (place : ℕ) (cell : Cell × ℕ) (steps : List Step) (host : HostState) (told : List LocalEntry) (after : Cell) → slice_get world.cells place ≡ Some cell → host_next cell.0.host ≡ Ok (Some steps, host) → steps_on steps (with_host cell host) ≡ Ok (told, after) → P log world
      → let done = told_on place cell after told world in Q (log ++ done.0) done.1 → AllEnter journal log world cell done.0
