-- What is given of what processes get, and what is so before each turn.
use Rattle.std.specs.Prelude.{◌≡◌, ℕ, Bool, true, false, IsTrue, List, ◌∷◌, ◌++◌, Option, slice_get, Some, Ok}
use Rattle.std.specs.Str.{bytes_eq}
use Rattle.ch_model.specs.declared.entry.Entry.{Entry}
use Rattle.ch_model.specs.declared.entry.Entry.TheVariants as entries
use Rattle.ch_model.specs.declared.line.Line.{Line}
use Rattle.ch_model.specs.declared.local.LocalEntry.{LocalEntry}
use Rattle.ch_model.specs.declared.name.ProcName.{ProcName}
use Rattle.ch_model.specs.declared.name.TargetName.{TargetName}
use Rattle.ch_model.specs.declared.step.Step.{Step}
use Rattle.ch_model.specs.AccountsMessages.{gets_by_bytes, gets_in_order_written}
use Rattle.ch_model.specs.CellSteps.{steps_on}
use Rattle.ch_model.specs.Host.{host_next}
use Rattle.ch_model.specs.HostState.{HostState}
use Rattle.ch_model.specs.Logs.{each}
use Rattle.ch_model.specs.Same.{node_of}
use Rattle.ch_model.specs.WorldState.{Cell, World}
use Rattle.ch_race.specs.Pair.{Side, other}
use Rattle.ch_laws_race.specs.Scene.{Party}
use Rattle.ch_laws_calls.specs.Calls.{Claim, with_host}
use Rattle.ch_laws_calls.specs.Scenes.{IsPairOf}
use Rattle.ch_laws_calls.specs.Turns.{told_on}
use Rattle.ch_laws_messages.specs.GotReadingGoes.{KnownGot}
use Rattle.ch_laws_messages.specs.CarriedNexts.{GetsNext, GotsBelow}
use Rattle.ch_laws_messages.specs.CarriedWritten.{AllWritten}
use Rattle.ch_laws_messages.specs.ArrivedFed.{LastFed}

-- the entry gets a message
abbrev pub is_got : Entry → Bool
is_got (entries.Got by to epoch index receiver) = true
is_got entry = false

-- The message is of a process of one node of the journal to one of another, and is carried next between the two.
pub record GetsCarried (journal : List Line) (log : List Entry) (world : World) (cell : Cell × ℕ) (by : ProcName) (to : TargetName) (epoch index : ℕ) : Type 0 where
  pub party : Side → Party
  pub pair : IsPairOf journal party
  pub x : Side
  pub from : by.node ≡ (party x).name
  pub goes : node_of to ≡ (party (other x)).name
  pub next : GetsNext log world party x cell by to epoch index

-- So it is of each message between two nodes that is got in a turn in which a host reads an item, where P holds before it and Q after it.
pub record GetsNexts (journal : List Line) (P Q : Claim) : Type 0 where
  pub item : (log : List Entry) (world : World) (place : ℕ) (cell : Cell × ℕ) (steps : List Step) (host : HostState) (told : List LocalEntry) (after : Cell) → slice_get world.cells place ≡ Some cell → host_next cell.0.host ≡ Ok (Some steps, host) → steps_on steps (with_host cell host) ≡ Ok (told, after) → P log world
      → let done = told_on place cell after told world in Q (log ++ done.0) done.1
      → (before behind : List Entry) (by : ProcName) (to : TargetName) (epoch index : ℕ) (receiver : Option ProcName) → before ++ entries.Got by to epoch index receiver ∷ behind ≡ done.0 → bytes_eq by.node (node_of to) ≡ false → GetsCarried journal log world cell by to epoch index

-- What is so before each turn: all that is known of what was said, written, read and got; what stands whole ends within what was fed last; the
-- log's own definitions of carried messages say the same; and what was got is among what is read.
pub record Arrives (journal : List Line) (log : List Entry) (world : World) : Type 0 where
  pub known : KnownGot journal log world
  pub last : LastFed log world
  pub written : AllWritten journal log world
  pub below : GotsBelow journal log world

-- messages between nodes are got by the bytes that were fed last, and in the order in which they were written
pub record AreGotSo (journal : List Line) (log : List Entry) (world : World) : Type 0 where
  pub by_bytes : IsTrue (each (gets_by_bytes journal) log)
  pub in_order : IsTrue (each (gets_in_order_written journal) log)
