-- That a node dials a peer once: what is so of a log and its world.
use Rattle.std.specs.Prelude.{◌≡◌, ℕ, Bool, true, false, List, IsTrue}
use Rattle.std.specs.List.{list_any}
use Rattle.ch_model.specs.declared.entry.Entry.{Entry}
use Rattle.ch_model.specs.declared.line.Line.{Line}
use Rattle.ch_model.specs.Links.{dials_to, dials_once}
use Rattle.ch_model.specs.Logs.{each}
use Rattle.ch_model.specs.WorldState.{World}
use Rattle.ch_race.specs.Pair.{Side, other}
use Rattle.ch_laws_race.specs.Scene.{Party, link_of}
use Rattle.ch_laws_calls.specs.Calls.{Both}
use Rattle.ch_laws_calls.specs.Scenes.{IsPairOf, scene_of}
use Rattle.ch_laws_raced.specs.UnbrokenBreaks.{NoBreaks}
use Rattle.ch_laws_raced.specs.UnbrokenGiven.{Given}
use Rattle.ch_laws_raced.specs.OnceBegun.{is_idle}

-- all that is given of a log and its world where nothing breaks, and that nothing broke
abbrev pub Unbroken : List Line → List Entry → World → Type 0
Unbroken journal = Both (Given journal) (λ log world. NoBreaks log)

-- the log tells that x dials y
abbrev pub has_dial : List Entry → List ℕ → List ℕ → Bool
has_dial log x y = list_any (dials_to x y) log

-- where the log tells that one of two nodes of the journal dials the other, its link with it isn't idle
abbrev pub AllBegun : List Line → List Entry → World → Type 0
AllBegun journal log world = (party : Side → Party) → IsPairOf journal party → (x : Side) → has_dial log (party x).name (party (other x)).name ≡ true → is_idle (link_of (scene_of party world) x).state ≡ false

-- so it is, and each dial is the first of a node with its peer
pub record DialsOnce (journal : List Line) (log : List Entry) (world : World) : Type 0 where
  pub begun : AllBegun journal log world
  pub once : IsTrue (each dials_once log)
