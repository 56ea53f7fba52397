-- Who asks at the openers' ends of a world, as a list.
use Rattle.std.specs.Prelude.{ℕ, List, [], map, Some, None, Result, Ok, Err}
use Rattle.ch_base.specs.declared.memory.Stop.{Stop}
use Rattle.ch_model.specs.declared.entry.Entry.{Entry}
use Rattle.ch_model.specs.WorldState.{WorldEnd, WorldSocket, World}
use Rattle.ch_laws_pairs.specs.Askers.{Asker}
use Rattle.ch_laws_pairs.specs.Users.{askers_of}

-- who asks at an end
abbrev pub asker_of_end : (ℕ → ℕ → Asker) → WorldEnd → Asker
asker_of_end askers end = elim end.cell [
  | None ↦ None
  | Some place ↦ elim end.number [
    | None ↦ None
    | Some n ↦ askers place n
  ]
]

-- who asks at each opener's end
abbrev pub askers_in : Result (List Entry × World) Stop → List Asker
askers_in (Ok done) = map (λ (socket : WorldSocket). asker_of_end (askers_of done.1.cells) socket.o) done.1.sockets
askers_in (Err stop) = []
