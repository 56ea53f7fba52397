-- What the laws of logs ask of a journal, as a test of its log and its world.
use Rattle.std.specs.Prelude.{Bool, true, false, ◌&&◌, nat_lt, List, filter, length, Ok, Err}
use Rattle.std.specs.List.{list_all}
use Rattle.ch_model.specs.declared.entry.Entry.{Entry}
use Rattle.ch_model.specs.declared.entry.Entry.TheVariants as entries
use Rattle.ch_model.specs.declared.line.Line.{Line}
use Rattle.ch_model.specs.Logs.{each}
use Rattle.ch_model.specs.Settle.{Happened}
use Rattle.ch_model.specs.World.{world_new, log_from}
use Rattle.ch_laws_writes.specs.Writings.{asks_readably, is_owned}

-- something is written by this entry
abbrev pub is_wrote : Entry → Bool
is_wrote (entries.Wrote sock end bytes) = true
is_wrote entry = false

-- more than two items are written, requests are read back, and the ends of sockets are of hosts as their names say
abbrev pub meets : List Line → Happened → Bool
meets journal (Ok done) = nat_lt 2 (length (filter is_wrote done.0)) && (each asks_readably done.0 && list_all (is_owned journal) done.1.sockets)
meets journal (Err stop) = false

abbrev pub meets_all : List Line → Bool
meets_all journal = meets journal (log_from (world_new journal) journal)
