-- What stands in the mailboxes of the processes of many nodes, by the log.
use Rattle.std.specs.Prelude.{◌≡◌, ◌≤◌, ℕ, Bool, true, false, List, [], ◌++◌, length, drop, filter_map, count_by, find, slice_get, Option, Some, None}
use Rattle.ch_ident.specs.declared.message.Message.{Message}
use Rattle.ch_mail.specs.Lives.{is_over}
use Rattle.ch_mail.specs.Process.{Process}
use Rattle.ch_model.specs.declared.entry.Entry.{Entry}
use Rattle.ch_model.specs.declared.line.Line.{Line}
use Rattle.ch_model.specs.declared.name.ProcName.{ProcName}
use Rattle.ch_model.specs.CellSteps.{is_at}
use Rattle.ch_model.specs.Logs.{each, each_after}
use Rattle.ch_model.specs.Mailboxes.{body_of, entered, takes_marked, takes_the_first}
use Rattle.ch_model.specs.Naming.{process_called}
use Rattle.ch_model.specs.NodeIds.{process_id}
use Rattle.ch_model.specs.NodeState.{NodeState}
use Rattle.ch_model.specs.WorldState.{Cell, World}
use Rattle.ch_laws_lives.specs.Cells.{AllReached}

-- what waits in a mailbox: nothing, where the process wasn't made
abbrev pub waiting_for : Option Process → List Message
waiting_for None = []
waiting_for (Some process) = process.mailbox

-- the process was made, and is over
abbrev pub is_gone : Option Process → Bool
is_gone None = false
is_gone (Some process) = is_over process.life

-- of this mark there is what has entered the process's mailbox by the log, in order, but for as many as were taken
pub record MarkStands (journal : List Line) (log : List Entry) (p : ProcName) (word : List ℕ) (messages : List Message) : Type 0 where
  pub within : count_by (takes_marked p word) log ≤ length (entered journal log p word)
  pub left : filter_map (body_of word) messages ≡ drop (count_by (takes_marked p word) log) (entered journal log p word)

-- so it is of each mark
abbrev pub MailStands : List Line → List Entry → ProcName → List Message → Type 0
MailStands journal log p messages = (word : List ℕ) → MarkStands journal log p word messages

-- So it is of each process of each node that isn't over, and of each that wasn't made; and what has arrived at a node goes to it.
pub record AllMail (journal : List Line) (log : List Entry) (world : World) : Type 0 where
  pub stands : (place : ℕ) (cell : Cell × ℕ) (end : ℕ) (there : ℕ × NodeState) (number : ℕ) → slice_get world.cells place ≡ Some cell → find (is_at end) cell.0.nodes ≡ Some there → is_gone (slice_get there.1.mail number) ≡ false
      → MailStands journal log (process_called world.names (process_id there.1 number)) (waiting_for (slice_get there.1.mail number))
  pub reached : (place : ℕ) (cell : Cell × ℕ) → slice_get world.cells place ≡ Some cell → AllReached cell.0.nodes

-- what is taken is the first that is left
abbrev pub TakesFirst : List Line → List Entry → World → Type 0
TakesFirst journal log world = each (takes_the_first journal) log ≡ true

-- what stands in mailboxes stands after these entries, and what is taken by them is the first that was left
abbrev pub GoesOn : List Line → List Entry → List Entry → World → Type 0
GoesOn journal log more after = AllMail journal (log ++ more) after × (each_after (takes_the_first journal) log more ≡ true)
