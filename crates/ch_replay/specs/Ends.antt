-- What each status of a run says.
use Rattle.std.specs.Prelude.{◌≡◌, ℕ, List, [], Option, Some, None, Ok, Err}
use Rattle.ch_base.specs.declared.memory.Stop.TheVariants as stops
use Rattle.ch_model.specs.LinesBuilt.{many_nodes}
use Rattle.ch_model.specs.declared.entry.Entry.{Entry}
use Rattle.ch_model.specs.declared.refusal.LineFault.{LineFault}
use Rattle.ch_model.specs.declared.refusal.LineFault.TheVariants as faults
use Rattle.ch_model.specs.World.{log_of}
use Rattle.ch_model.specs.Journal.{journal_of, first_fault}
use Rattle.ch_model.specs.Spelling.{log_text}
use Rattle.ch_model.specs.Lawful.{IsPromised}
use Rattle.ch_laws_one_node.specs.Lawful.{IsLawful}
use Rattle.ch_laws_one_node.specs.OneNode.{IsOfOneNode}
use Rattle.ch_journal.specs.declared.status.Status.{Status}
use Rattle.ch_journal.specs.declared.status.Status.TheVariants.{Done, Usage, ReadFault, WriteFault, BadLine, TooLong, OutOfMemory, Worn}
use Rattle.ch_replay.specs.Outside.{Appended, AppendedSome}

-- The text that was appended is that of the log of the journal that these bytes spell, up to the first line that
-- is refused. All holds of that log that the whole model promises; and where the journal is of one node, it is lawful as
-- the model of one node has it, too.
pub record IsLogged (bytes : List ℕ) (held0 held1 : Option (List ℕ)) : Type 0 where
  pub log : List Entry
  pub is_log : log_of (journal_of many_nodes bytes) ≡ Ok log
  pub promised : IsPromised (journal_of many_nodes bytes) log
  pub lawful : IsOfOneNode (journal_of many_nodes bytes) → IsLawful (journal_of many_nodes bytes) log
  pub appended : Appended (log_text log) held0 held1

-- some first bytes of that text were appended
pub record IsLoggedInPart (bytes : List ℕ) (held0 held1 : Option (List ℕ)) : Type 0 where
  pub log : List Entry
  pub is_log : log_of (journal_of many_nodes bytes) ≡ Ok log
  pub promised : IsPromised (journal_of many_nodes bytes) log
  pub lawful : IsOfOneNode (journal_of many_nodes bytes) → IsLawful (journal_of many_nodes bytes) log
  pub appended : AppendedSome (log_text log) held0 held1

-- What a status tells of the source's bytes and the sink's, where the source tells what it had. Done: no line is
-- refused, nothing is left, and the log is written. BadLine and TooLong: that line is the first that is refused, and
-- the log of the lines before it is written. WriteFault: a front of the log may be written. Worn: a count of the
-- model stands at its last value. For every other status nothing is written.
abbrev pub Ends : Status → Option (List ℕ) → Option (List ℕ) → Option (List ℕ) → Option (List ℕ) → Type 0
Ends Done (Some bytes) left held0 held1 = (left ≡ Some []) × (first_fault many_nodes bytes ≡ None) × IsLogged bytes held0 held1
Ends (BadLine line kind) (Some bytes) left held0 held1 = (first_fault many_nodes bytes ≡ Some (line, faults.Bad kind)) × IsLogged bytes held0 held1
Ends (TooLong line) (Some bytes) left held0 held1 = (first_fault many_nodes bytes ≡ Some (line, faults.TooLong)) × IsLogged bytes held0 held1
Ends WriteFault (Some bytes) left held0 held1 = IsLoggedInPart bytes held0 held1
Ends Worn (Some bytes) left held0 held1 = (log_of (journal_of many_nodes bytes) ≡ Err stops.Worn) × (held1 ≡ held0)
Ends Usage bytes left held0 held1 = (held1 ≡ held0) × (left ≡ bytes)
Ends ReadFault bytes left held0 held1 = held1 ≡ held0
Ends OutOfMemory bytes left held0 held1 = held1 ≡ held0
Ends status None left held0 held1 = Unit {0}

-- the status of a journal whose log was written
abbrev pub status_of_fault : Option (ℕ × LineFault) → Status
status_of_fault None = Done
status_of_fault (Some fault) = elim fault.1 [
  | faults.Bad kind ↦ BadLine fault.0 kind
  | faults.TooLong ↦ TooLong fault.0
]
