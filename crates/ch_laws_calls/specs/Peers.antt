-- Each dial is between two nodes of the journal.
use Rattle.std.specs.Prelude.{◌≡◌, Bool, true, not, ◌&&◌, List}
use Rattle.std.specs.List.{list_all}
use Rattle.std.specs.Str.{bytes_eq}
use Rattle.ch_model.specs.declared.entry.Entry.{Entry}
use Rattle.ch_model.specs.declared.entry.Entry.TheVariants as entries
use Rattle.ch_model.specs.declared.line.Line.{Line}
use Rattle.ch_model.specs.World.{names_of}
use Rattle.ch_model.specs.WorldState.{Named, World}
use Rattle.ch_laws_log.specs.Declared.{is_declared}

-- a node of the journal dials another
abbrev pub is_of_peers : List Named → Entry → Bool
is_of_peers known (entries.Dial sock) = is_declared known sock.from && (is_declared known sock.to && not (bytes_eq sock.from sock.to))
is_of_peers known entry = true

-- each dial so far is such
abbrev pub Peers : List Line → List Entry → World → Type 0
Peers journal log world = list_all (is_of_peers (names_of journal)) log ≡ true
