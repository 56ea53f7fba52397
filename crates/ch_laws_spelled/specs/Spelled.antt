-- Messages that are spelled as a journal's grammar allows: in lines, and in a log.
use Rattle.std.specs.Prelude.{◌≡◌, ℕ, true, List}
use Rattle.std.specs.List.{AllByRecursion}
use Rattle.ch_ident.specs.Fits.{IsProcess}
use Rattle.ch_ident.specs.Names.{is_name}
use Rattle.ch_model.specs.declared.entry.Entry.{Entry}
use Rattle.ch_model.specs.declared.entry.Entry.TheVariants as entries
use Rattle.ch_model.specs.declared.line.Line.{Line}
use Rattle.ch_model.specs.declared.line.What.{What}
use Rattle.ch_model.specs.declared.line.What.TheVariants as lines
use Rattle.ch_model.specs.declared.name.ProcName.{ProcName}
use Rattle.ch_model.specs.declared.name.TargetName.{TargetName}
use Rattle.ch_model.specs.declared.name.TargetName.TheVariants as targets
use Rattle.ch_model.specs.Naming.{process_as}
use Rattle.ch_model.specs.World.{names_of}
use Rattle.ch_model.specs.WorldState.{Named}
use Rattle.ch_laws_log.specs.Declared.{is_declared}

-- the process is of a declared node, at an address that may be spelled, and its numbers are of four bytes
pub record IsSpelled (known : List Named) (p : ProcName) : Type 0 where
  pub declared : is_declared known p.node ≡ true
  pub fits : IsProcess (process_as known p)

-- a message's mark and its two processes are in their rules: the mark is a name, and each process is of a declared node, under
-- numbers of four bytes
pub record IsSentWell (known : List Named) (by : ProcName) (to : TargetName) (mark : List ℕ) : Type 0 where
  pub marked : is_name mark ≡ true
  pub from : IsSpelled known by
  pub receiver : ProcName
  pub is : to ≡ targets.Process receiver
  pub goes : IsSpelled known receiver

-- ---- in lines

-- what the line sends, if it sends
abbrev pub SendsWell : List Named → What → Type 0
SendsWell known (lines.Send by to mark body) = IsSentWell known by to mark
SendsWell known (lines.Nsend by to mark body) = IsSentWell known by to mark
SendsWell known what = Unit {0}

-- each line of the journal
abbrev pub AllWell : List Line → Type 0
AllWell journal = AllByRecursion (λ (line : Line). SendsWell (names_of journal) line.what) journal

-- ---- in a log

-- what the entry says, if it says a message
abbrev pub IsWell : List Line → Entry → Type 0
IsWell journal (entries.Said by to epoch index mark body) = IsSentWell (names_of journal) by to mark
IsWell journal entry = Unit {0}

-- each entry of the log
abbrev pub SaysWell : List Line → List Entry → Type 0
SaysWell journal log = AllByRecursion (IsWell journal) log
