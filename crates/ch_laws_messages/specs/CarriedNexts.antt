-- That a message which a process gets from another node is the one that is carried next.
use Rattle.std.specs.Prelude.{◌≡◌, ◌<◌, ℕ, true, List, [], ◌∷◌, slice_get, Some}
use Rattle.ch_model.specs.declared.entry.Entry.{Entry}
use Rattle.ch_model.specs.declared.entry.Entry.TheVariants as entries
use Rattle.ch_model.specs.declared.line.Line.{Line}
use Rattle.ch_model.specs.declared.name.ProcName.{ProcName}
use Rattle.ch_model.specs.declared.name.TargetName.{TargetName}
use Rattle.ch_model.specs.AccountsFrames.{Saying, is_saying}
use Rattle.ch_model.specs.Same.{node_of}
use Rattle.ch_model.specs.WorldState.{Cell, World}
use Rattle.ch_wire.specs.declared.frame.Frame.TheVariants as frames
use Rattle.ch_race.specs.Pair.{Side, other}
use Rattle.ch_laws_race.specs.Scene.{Party}
use Rattle.ch_laws_calls.specs.Scenes.{IsPairOf}
use Rattle.ch_laws_peers.specs.Words.{sayings, place_of}
use Rattle.ch_laws_peers.specs.Reads.{ReadsNext, read_of}
use Rattle.ch_laws_messages.specs.CarriedCounts.{carried_in}

-- The host of the other node is about to read a payload that isn't the first under its id, and carries the saying after as many as were
-- read; the message that is got is that one.
pub record GetsNext (log : List Entry) (world : World) (party : Side → Party) (x : Side) (cell : Cell × ℕ) (by : ProcName) (to : TargetName) (epoch index : ℕ) : Type 0 where
  pub s : Saying
  pub id : ℕ
  pub payload : List ℕ
  pub reads : ReadsNext log world party x cell (frames.Data id payload) (place_of (Some s))
  pub next : slice_get (sayings (party x).name (party (other x)).name log) (carried_in [] (read_of party world x log)) ≡ Some s
  pub is : is_saying by to epoch index s ≡ true

-- ---- what was got by then

-- what the entry gets from x at y, if anything, is one of the first so many sayings
abbrev pub GotBelow : List ℕ → List ℕ → List Saying → ℕ → Entry → Type 0
GotBelow x y said n (entries.Got by to epoch index receiver) = by.node ≡ x → node_of to ≡ y → (i : ℕ) × (i < n) × ((s : Saying) × (slice_get said i ≡ Some s) × (is_saying by to epoch index s ≡ true))
GotBelow x y said n entry = Unit {0}

abbrev pub AllBelow : List ℕ → List ℕ → List Saying → ℕ → List Entry → Type 0
AllBelow x y said n [] = Unit {0}
AllBelow x y said n (entry ∷ rest) = GotBelow x y said n entry × AllBelow x y said n rest

-- of each two nodes, both ways: all that was got is among the sayings that are carried by what is read
abbrev pub GotsBelow : List Line → List Entry → World → Type 0
GotsBelow journal log world = (party : Side → Party) → IsPairOf journal party → (x : Side) → AllBelow (party x).name (party (other x)).name (sayings (party x).name (party (other x)).name log) (carried_in [] (read_of party world x log)) log
