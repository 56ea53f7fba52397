-- The marks that answer event lines: which lines were done, and in which line an entry stands.
use Rattle.std.specs.Prelude.{ℕ, Bool, true, false, List, Option, Some, None, ◌==◌, if◌then◌else◌, find, slice_get, count_by, filter_map}
use Rattle.std.specs.Option.{option_map}
use Rattle.std.specs.Str.{bytes_eq}
use Rattle.ch_model.specs.declared.name.ProcName.{ProcName}
use Rattle.ch_model.specs.declared.name.RefName.{RefName}
use Rattle.ch_model.specs.declared.entry.Entry.{Entry}
use Rattle.ch_model.specs.declared.entry.Entry.TheVariants as entries
use Rattle.ch_model.specs.declared.entry.Verdict.TheVariants as verdicts
use Rattle.ch_model.specs.declared.line.Line.{Line}
use Rattle.ch_model.specs.declared.line.What.{What}
use Rattle.ch_model.specs.declared.line.What.TheVariants as lines
use Rattle.ch_model.specs.Logs.{last_of, last_entry, some_and}

-- the line of this number
abbrev pub line_numbered : List Line → ℕ → Option What
line_numbered journal number = option_map (λ (line : Line). line.what) (find (λ (line : Line). line.number == number) journal)

-- the line that the entry marks as done
abbrev pub done_by : List Line → Entry → Option What
done_by journal (entries.Line number verdicts.Ok) = line_numbered journal number
done_by journal entry = None

-- the entry marks as done a line that passes the test
abbrev pub does : List Line → (What → Bool) → Entry → Bool
does journal test entry = some_and test (done_by journal entry)

-- the entry is a mark
abbrev pub is_mark : Entry → Bool
is_mark (entries.Line number answer) = true
is_mark entry = false

-- a mark, and nothing else
abbrev pub mark_of : Entry → Option Entry
mark_of (entries.Line number answer) = Some (entries.Line number answer)
mark_of entry = None

-- the line in which what comes next stands, where its last mark is ok
abbrev pub current_line : List Line → List Entry → Option What
current_line journal log = elim (last_of mark_of log) [
  | None ↦ None
  | Some mark ↦ done_by journal mark
]

-- the line that was marked as done directly before
abbrev pub line_just_done : List Line → List Entry → Option What
line_just_done journal log = elim (last_entry log) [
  | None ↦ None
  | Some entry ↦ done_by journal entry
]

-- the line settles
abbrev pub is_settle : What → Bool
is_settle lines.Settle = true
is_settle what = false

-- what comes next stands in a settle
abbrev pub in_settle : List Line → List Entry → Bool
in_settle journal log = some_and is_settle (current_line journal log)

-- the process that takes a reference by this line
abbrev pub takes_reference : What → Option ProcName
takes_reference (lines.Monitor by target) = Some by
takes_reference (lines.Link by target) = Some by
takes_reference (lines.Spawn by at label args) = Some by
takes_reference (lines.Whereis by at name) = Some by
takes_reference what = None

-- the line takes a reference of this node
abbrev pub takes_of_node : List ℕ → What → Bool
takes_of_node node what = some_and (λ (by : ProcName). bytes_eq by.node node) (takes_reference what)

-- how many references the node has given
abbrev pub references_given : List Line → List Entry → List ℕ → ℕ
references_given journal log node = count_by (does journal (takes_of_node node)) log

-- the line that the entry marks as done, where it takes a reference of this node
abbrev pub taking : List Line → List ℕ → Entry → Option What
taking journal node entry = elim (done_by journal entry) [
  | None ↦ None
  | Some what ↦ if takes_of_node node what then Some what else None
]

-- the line by which the reference was taken: of those of its node that were done, the one of its number, from 0
abbrev pub line_of_reference : List Line → List Entry → RefName → Option What
line_of_reference journal log m = slice_get (filter_map (taking journal m.node) log) m.number

-- the process to which the reference belongs
abbrev pub owner_of_reference : List Line → List Entry → RefName → Option ProcName
owner_of_reference journal log m = elim (line_of_reference journal log m) [
  | None ↦ None
  | Some what ↦ takes_reference what
]
