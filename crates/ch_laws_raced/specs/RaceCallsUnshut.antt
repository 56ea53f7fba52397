-- The endpoints of two nodes are open.
use Rattle.std.specs.Prelude.{◌≡◌, false, List}
use Rattle.ch_model.specs.declared.entry.Entry.{Entry}
use Rattle.ch_model.specs.declared.line.Line.{Line}
use Rattle.ch_model.specs.WorldState.{World}
use Rattle.ch_race.specs.Pair.{Side}
use Rattle.ch_laws_race.specs.Scene.{Party, host_of}
use Rattle.ch_laws_race.specs.View.{is_shut}
use Rattle.ch_laws_calls.specs.Scenes.{IsPairOf, scene_of}

-- both endpoints are open
abbrev pub IsUnshut : (Side → Party) → World → Type 0
IsUnshut party world = (x : Side) → is_shut (party x).address.id (host_of (scene_of party world) x) ≡ false

-- so it is of each two nodes of the journal
abbrev pub AllUnshut : List Line → List Entry → World → Type 0
AllUnshut journal log world = (party : Side → Party) → IsPairOf journal party → IsUnshut party world
