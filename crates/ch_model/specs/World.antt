-- The world of a journal, line by line, and the log of the journal.
use Rattle.std.specs.Prelude.{ℕ, Bool, true, false, ◌&&◌, ◌==◌, List, [], ◌∷◌, ◌++◌, map, filter, Option, Some, None, Result, Ok, Err, if◌then◌else◌}
use Rattle.std.specs.List.{flat_map, list_any}
use Rattle.std.specs.Str.{bytes_eq}
use Rattle.ch_base.specs.declared.address.Address.{Address}
use Rattle.ch_base.specs.declared.memory.Stop.{Stop}
use Rattle.ch_model.specs.declared.entry.Entry.{Entry}
use Rattle.ch_model.specs.declared.entry.Entry.TheVariants as entries
use Rattle.ch_model.specs.declared.entry.Verdict.TheVariants as verdicts
use Rattle.ch_model.specs.declared.line.Line.{Line}
use Rattle.ch_model.specs.declared.line.What.{What}
use Rattle.ch_model.specs.declared.line.What.TheVariants as lines
use Rattle.ch_model.specs.WorldState.{Cell, Named, World}
use Rattle.ch_model.specs.Cell.{cell_new}
use Rattle.ch_model.specs.WorldHappenings.{Answered}
use Rattle.ch_model.specs.WorldLines.{line_done}
use Rattle.ch_model.specs.Settle.{Happened, settles}

-- ---- the world that declarations make

abbrev pub name_in : What → List Named
name_in (lines.Node name address unique) = record { name = name; address = address; unique = unique; is_node = true } ∷ []
name_in (lines.Away name address unique) = record { name = name; address = address; unique = unique; is_node = false } ∷ []
name_in what = []

abbrev pub stranger_in : What → List (List ℕ × List ℕ)
stranger_in (lines.Stranger name host) = (name, host) ∷ []
stranger_in what = []

-- the label that a line adds to this node
abbrev pub label_in : List ℕ → What → List (List ℕ)
label_in name (lines.Label node label) = if bytes_eq node name then label ∷ [] else []
label_in name what = []

abbrev pub is_declaration : What → Bool
is_declaration (lines.Node name address unique) = true
is_declaration (lines.Away name address unique) = true
is_declaration (lines.Label node label) = true
is_declaration (lines.Stranger name host) = true
is_declaration what = false

-- the names that a journal declares, in order
abbrev pub names_of : List Line → List Named
names_of journal = flat_map (λ line. name_in line.what) journal

-- the labels of a node, in order
abbrev pub labels_of : List Line → List ℕ → List (List ℕ)
labels_of journal name = flat_map (λ line. label_in name line.what) journal

-- the nodes that a journal declares, in order
abbrev pub nodes_of : List Line → List Named
nodes_of journal = filter (λ named. named.is_node) (names_of journal)

-- two addresses are at one host and port
abbrev pub same_host : Address → Address → Bool
same_host a b = bytes_eq a.host b.host && a.port == b.port

-- one address of each host and port, that which is declared first, in order
abbrev pub first_of_hosts : List Address → List Named → List Address
first_of_hosts known [] = []
first_of_hosts known (named ∷ rest) =
    if list_any (same_host named.address) known then first_of_hosts known rest
    else named.address ∷ first_of_hosts (named.address ∷ known) rest

-- the cell of a host and port: its nodes, in order of declaration
abbrev pub cell_at : List Line → Address → Cell
cell_at journal address =
    cell_new address.host address.port (map (λ named. named.address.host) (nodes_of journal))
    (map (λ named. (named.address.id, named.unique, labels_of journal named.name)) (filter (λ named. same_host named.address address) (nodes_of journal)))

-- the world where nothing has happened
abbrev pub world_new : List Line → World
world_new journal = record {
  names = names_of journal;
  strangers = flat_map (λ line. stranger_in line.what) journal;
  cells = map (λ address. (cell_at journal address, 0)) (first_of_hosts [] (nodes_of journal));
  sockets = [];
  last = None;
}

-- ---- lines

-- a line's answer before what it did
abbrev pub line_answered : ℕ → Answered → Happened
line_answered number (Ok done) = Ok (entries.Line number done.0.0 ∷ done.0.1, done.1)
line_answered number (Err stop) = Err stop

-- All is settled, and that is told last. A settling that didn't end would tell nothing, and stop.
abbrev pub line_settled : ℕ → World → Option Happened → Happened
line_settled number world None = Ok (entries.Line number verdicts.Ok ∷ [], world)
line_settled number world (Some (Ok done)) = Ok (entries.Line number verdicts.Ok ∷ done.0 ++ entries.Settled ∷ [], done.1)
line_settled number world (Some (Err stop)) = Err stop

-- an event line
abbrev pub event_step : ℕ → What → World → Happened
event_step number lines.Settle world = line_settled number world (settles world)
event_step number what world = line_answered number (line_done what world)

-- one line: a declaration does nothing more
abbrev pub world_step : World → Line → Happened
world_step world line = if is_declaration line.what then Ok ([], world) else event_step line.number line.what world

infixl 10 ◌>>=◌
-- what follows a line, where no count stands at its type's last value
abbrev pub ◌>>=◌ : {A B : Type 0} → Result A Stop → (A → Result B Stop) → Result B Stop
(Ok x) >>= f = f x
(Err e) >>= f = Err e

-- the entries of some lines, from a world on, and the world after them
abbrev pub log_from : World → List Line → Happened
log_from world [] = Ok ([], world)
log_from world (line ∷ rest) = do
  done ← world_step world line
  more ← log_from done.1 rest
  Ok (done.0 ++ more.0, more.1)

-- the log of a journal
abbrev pub log_of : List Line → Result (List Entry) Stop
log_of journal = do
  done ← log_from (world_new journal) journal
  Ok done.0
