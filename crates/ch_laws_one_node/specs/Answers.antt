-- The answer to each event line of one node, as the log before it shows, and what the line did.
use Rattle.std.specs.Prelude.{◌≡◌, ℕ, not, List, [], ◌∷◌, ◌++◌, length, None, nat_lt, if◌then◌else◌}
use Rattle.std.specs.List.{AllByRecursion}
use Rattle.ch_ident.specs.declared.reason.Reason.TheVariants.{Normal}
use Rattle.ch_model.specs.declared.name.ProcName.{ProcName}
use Rattle.ch_model.specs.declared.name.TargetName.TheVariants.{Process}
use Rattle.ch_model.specs.declared.entry.Entry.{Entry}
use Rattle.ch_model.specs.declared.entry.Entry.TheVariants as entries
use Rattle.ch_model.specs.declared.entry.Verdict.{Verdict}
use Rattle.ch_model.specs.declared.entry.Verdict.TheVariants.{Ok, Unknown, Dead, Empty}
use Rattle.ch_model.specs.declared.line.Line.{Line}
use Rattle.ch_model.specs.declared.line.What.{What}
use Rattle.ch_model.specs.declared.line.What.TheVariants as lines
use Rattle.ch_laws_one_node.specs.Counts.{is_made_in, is_over_in, taken_in}
use Rattle.ch_laws_one_node.specs.Mailboxes.{entered}

-- what a process is answered that wants to act: unknown where it wasn't made, dead where it is over, else this
abbrev pub answer_acting : List Entry → ProcName → Verdict → Verdict
answer_acting log p answer = if not (is_made_in log p) then Unknown else (if is_over_in log p then Dead else answer)

-- the answer to an event line
abbrev pub answer_over : List Entry → What → Verdict
answer_over log (lines.Send by (Process to) mark body) = answer_acting log by (if is_made_in log to then Ok else Unknown)
answer_over log (lines.Recv by mark) = answer_acting log by (if nat_lt (taken_in log by mark) (length (entered log by mark)) then Ok else Empty)
answer_over log (lines.End by) = answer_acting log by Ok
answer_over log what = Ok

-- the first entry that a line which was done has: its own
abbrev pub IsOwnEntry : What → Entry → Type 0
IsOwnEntry (lines.Proc node) (entries.Made process None None) = process.node ≡ node
IsOwnEntry (lines.Send by (Process to) mark body) (entries.Said sender (Process receiver) epoch index word bytes) = (sender ≡ by) × (receiver ≡ to) × (word ≡ mark) × (bytes ≡ body)
IsOwnEntry (lines.Recv by mark) (entries.Took taker None word bytes) = (taker ≡ by) × (word ≡ mark)
IsOwnEntry (lines.End by) (entries.Over process reason) = (process ≡ by) × (reason ≡ Normal)
IsOwnEntry what entry = ⊥

-- a receipt, which is no line's own entry
abbrev pub IsReceipt : Entry → Type 0
IsReceipt (entries.Got by to epoch index receiver) = Unit {0}
IsReceipt entry = ⊥

-- how many receipts a line that was done has: a message is got at once where the receiver isn't over
abbrev pub receipts_due : List Entry → What → ℕ
receipts_due log (lines.Send by (Process to) mark body) = if is_over_in log to then 0 else 1
receipts_due log what = 0

-- what stands after a line's answer: its own entry and its receipts where it was done, else nothing
abbrev pub IsDone : List Entry → What → Verdict → List Entry → Type 0
IsDone log what Ok [] = ⊥
IsDone log what Ok (own ∷ caused) = IsOwnEntry what own × AllByRecursion IsReceipt caused × (length caused ≡ receipts_due log what)
IsDone log what answer done = done ≡ []

-- The rest of a log, after what stands before it, has the answers to these lines, in order, and what each did.
abbrev pub HasAnswersAfter : List Entry → List Line → List Entry → Type 0
HasAnswersAfter before [] rest = rest ≡ []
HasAnswersAfter before (line ∷ others) rest = elim line.what [
  | lines.Node name address unique ↦ HasAnswersAfter before others rest
  | _ ↦ (done after : List Entry)
      × (rest ≡ entries.Line line.number (answer_over before line.what) ∷ done ++ after)
      × IsDone before line.what (answer_over before line.what) done
      × HasAnswersAfter (before ++ entries.Line line.number (answer_over before line.what) ∷ done) others after
]

-- the log answers the event lines of the journal
abbrev pub HasAnswers : List Line → List Entry → Type 0
HasAnswers journal log = HasAnswersAfter [] journal log
