-- A scene in which a target's end comes and reads its request, and what its host knows of it then.
use Rattle.std.specs.Prelude.{ℕ, List, [], ◌∷◌, ◌++◌, map, codes, Option, Some, None, Result, Ok, Err}
use Rattle.ch_base.specs.declared.address.Address.{Address}
use Rattle.ch_base.specs.declared.memory.Stop.{Stop}
use Rattle.ch_model.specs.declared.entry.Entry.{Entry}
use Rattle.ch_model.specs.declared.line.Line.{Line}
use Rattle.ch_model.specs.declared.line.What.TheVariants as lines
use Rattle.ch_model.specs.declared.name.End.TheVariants.{T}
use Rattle.ch_model.specs.HostState.{Socket}
use Rattle.ch_model.specs.WorldState.{Cell, WorldEnd, WorldSocket, World}
use Rattle.ch_laws_bytes.specs.Scene.{scene}
use Rattle.ch_laws_calls.specs.UsersCarried.{records_of}

-- the target's end of the socket comes, and all of the request is handed to it
abbrev pub asked : List Line
asked = scene ++ record { number = 7; what = lines.Come (record { from = codes "a"; to = codes "b"; number = 0 }) } ∷ record { number = 8; what = lines.Feed (record { from = codes "a"; to = codes "b"; number = 0 }) T 100 } ∷ []

-- the host text that a record knows, and for whose link it is
abbrev pub known_of : Option Socket → Option (List ℕ) × Option (ℕ × Address)
known_of None = (None, None)
known_of (Some socket) = (socket.peer_host, socket.user)

-- the record of an end at its host
abbrev pub record_of : List (Cell × ℕ) → WorldEnd → Option Socket
record_of cells end = elim end.cell [
  | None ↦ None
  | Some place ↦ elim end.number [
    | None ↦ None
    | Some n ↦ records_of cells place n
  ]
]

-- what is known so of each target's end
abbrev pub targets_in : Result (List Entry × World) Stop → List (Option (List ℕ) × Option (ℕ × Address))
targets_in (Ok done) = map (λ (socket : WorldSocket). known_of (record_of done.1.cells socket.t)) done.1.sockets
targets_in (Err stop) = []
