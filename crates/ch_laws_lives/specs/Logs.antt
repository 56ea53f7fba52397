-- What a log tells of the processes of a node, and what may be told of them.
use Rattle.std.specs.Prelude.{◌≡◌, ℕ, Bool, true, false, cond, List, [], ◌∷◌, ◌++◌, map, length, Some, slice_get}
use Rattle.std.specs.Str.{bytes_eq}
use Rattle.ch_model.specs.declared.entry.Entry.{Entry}
use Rattle.ch_model.specs.declared.entry.Entry.TheVariants as entries
use Rattle.ch_model.specs.declared.name.ProcName.{ProcName}
use Rattle.ch_laws_lives.specs.Rolls.{over_at}

-- of each process of a node, by number, whether it is over, after one entry more
abbrev pub ends_moved : List ℕ → Entry → List Bool → List Bool
ends_moved name (entries.Made process spawn label) ends = cond (bytes_eq process.node name) (ends ++ false ∷ []) ends
ends_moved name (entries.Over process reason) ends = cond (bytes_eq process.node name) (over_at process.counter ends) ends
ends_moved name (entries.Shut node) ends = cond (bytes_eq node name) (map (λ end. true) ends) ends
ends_moved name entry ends = ends

-- after all entries, in order
abbrev pub ends_after : List ℕ → List Entry → List Bool → List Bool
ends_after name [] ends = ends
ends_after name (entry ∷ rest) ends = ends_after name rest (ends_moved name entry ends)

-- of each process of a node that the log made, by number, whether it is over by the log
abbrev pub ends_told : List ℕ → List Entry → List Bool
ends_told name log = ends_after name log []

-- by the log, the process was made and isn't over
abbrev pub IsNow : List Entry → ProcName → Type 0
IsNow log p = slice_get (ends_told p.node log) p.counter ≡ Some false

-- after this log, the entry makes a process of the next number, or is of processes that were made and aren't over
abbrev pub IsAllowed : List Entry → Entry → Type 0
IsAllowed log (entries.Made process spawn label) = process.counter ≡ length (ends_told process.node log)
IsAllowed log (entries.Over process reason) = IsNow log process
IsAllowed log (entries.Doom process text) = IsNow log process
IsAllowed log (entries.Said by to epoch index mark body) = IsNow log by
IsAllowed log (entries.Again by to epoch) = IsNow log by
IsAllowed log (entries.Took by port mark body) = IsNow log by
IsAllowed log (entries.Watch watch by target kind) = IsNow log by
IsAllowed log (entries.Got by to epoch index (Some receiver)) = IsNow log receiver
IsAllowed log entry = Unit {0}

-- each entry is allowed after the log before it
abbrev pub AreAllowed : List Entry → List Entry → Type 0
AreAllowed log [] = Unit {0}
AreAllowed log (entry ∷ rest) = IsAllowed log entry × AreAllowed (log ++ entry ∷ []) rest
