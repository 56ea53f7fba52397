-- That what a node writes first on a connection opens that of a pair which has said something by then.
use Rattle.std.specs.Prelude.{◌≡◌, ℕ, true, List, ◌∷◌, ◌++◌, Some, None}
use Rattle.ch_wire.specs.declared.frame.Frame.TheVariants as frames
use Rattle.ch_model.specs.declared.entry.Entry.{Entry}
use Rattle.ch_model.specs.declared.line.Line.{Line}
use Rattle.ch_model.specs.AccountsItems.{first_payload}
use Rattle.ch_model.specs.WorldState.{World}
use Rattle.ch_race.specs.Pair.{Side, other}
use Rattle.ch_laws_race.specs.Scene.{Party}
use Rattle.ch_laws_calls.specs.Scenes.{IsPairOf}
use Rattle.ch_laws_peers.specs.Words.{sayings, opens_one}
use Rattle.ch_laws_peers.specs.Says.{written_by}
use Rattle.ch_laws_messages.specs.CarriedInTime.{datas_to}

-- At each writing of a payload of x towards y that is the first under its id, it opens the connection of a pair that has said something before.
abbrev pub OpensInTime : List Line → List ℕ → List ℕ → List Entry → Type 0
OpensInTime journal x y log = (front rest : List Entry) (entry : Entry) (id : ℕ) (payload : List ℕ) → front ++ entry ∷ rest ≡ log → written_by x y front entry ≡ Some (frames.Data id payload) → first_payload id (datas_to x y front) ≡ None
    → opens_one journal (sayings x y front) payload ≡ true

-- so it is of each two nodes, both ways
abbrev pub AllOpenInTime : List Line → List Entry → World → Type 0
AllOpenInTime journal log world = (party : Side → Party) → IsPairOf journal party → (x : Side) → OpensInTime journal (party x).name (party (other x)).name log
