-- That a node writes what it has said after it has said it.
use Rattle.std.specs.Prelude.{◌≡◌, ◌≤◌, ℕ, true, List, [], ◌∷◌, ◌++◌, length, filter_map}
use Rattle.ch_model.specs.declared.entry.Entry.{Entry}
use Rattle.ch_model.specs.declared.entry.Entry.TheVariants as entries
use Rattle.ch_model.specs.declared.line.Line.{Line}
use Rattle.ch_model.specs.declared.name.End.{End}
use Rattle.ch_model.specs.declared.name.SockName.{SockName}
use Rattle.ch_model.specs.AccountsItems.{data_of}
use Rattle.ch_model.specs.Same.{is_end_of}
use Rattle.ch_model.specs.WorldState.{World}
use Rattle.ch_race.specs.Pair.{Side, other}
use Rattle.ch_laws_race.specs.Scene.{Party}
use Rattle.ch_laws_calls.specs.Scenes.{IsPairOf}
use Rattle.ch_laws_peers.specs.Words.{sayings}
use Rattle.ch_laws_peers.specs.Says.{frames_towards}
use Rattle.ch_laws_messages.specs.CarriedCounts.{carried_in}

-- the payloads that ends of x have written towards y, each with the id that it goes under
abbrev pub datas_to : List ℕ → List ℕ → List Entry → List (ℕ × List ℕ)
datas_to x y log = filter_map data_of (frames_towards x y log)

-- At each writing of an end of x towards y, as many messages were said before it as are carried up to it.
abbrev pub IsInTime : List ℕ → List ℕ → List Entry → Type 0
IsInTime x y log = (front rest : List Entry) (s : SockName) (e : End) (bytes : List ℕ) → front ++ entries.Wrote s e bytes ∷ rest ≡ log → is_end_of x y s e ≡ true
    → carried_in [] (datas_to x y (front ++ entries.Wrote s e bytes ∷ [])) ≤ length (sayings x y front)

-- so it is of each two nodes, both ways
abbrev pub AllInTime : List Line → List Entry → World → Type 0
AllInTime journal log world = (party : Side → Party) → IsPairOf journal party → (x : Side) → IsInTime (party x).name (party (other x)).name log
