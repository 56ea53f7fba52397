-- What is proved of the openers' ends in the log of a journal of many nodes.
use Rattle.std.specs.Prelude.{Bool, true, false, List}
use Rattle.ch_model.specs.declared.entry.Entry.{Entry}
use Rattle.ch_model.specs.declared.entry.Entry.TheVariants as entries
use Rattle.ch_model.specs.declared.name.End.TheVariants.{O}
use Rattle.ch_model.specs.WorldState.{Named}
use Rattle.ch_laws_log.specs.Declared.{is_declared}

-- an opener's end that is joined, or that writes, is of a declared name; and no stranger knocks
abbrev pub is_of_declared : List Named → Entry → Bool
is_of_declared known (entries.Joined sock) = is_declared known sock.from
is_of_declared known (entries.Knocked sock) = false
is_of_declared known (entries.Wrote sock O bytes) = is_declared known sock.from
is_of_declared known entry = true
