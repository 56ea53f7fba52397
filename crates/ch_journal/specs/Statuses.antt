-- What a status is to whoever started the program.
use Rattle.std.specs.Prelude.{ℕ, List, ◌++◌, codes, Option, Some, None}
use Rattle.std.specs.Fmt.{decimal}
use Rattle.ch_model.specs.declared.refusal.BadKind.{BadKind}
use Rattle.ch_model.specs.declared.refusal.BadKind.TheVariants as kinds
use Rattle.ch_journal.specs.declared.status.Status.{Status}
use Rattle.ch_journal.specs.declared.status.Status.TheVariants as statuses

-- the number that the program exits with
abbrev pub code_of : Status → ℕ
code_of statuses.Done = 0
code_of statuses.Usage = 2
code_of statuses.ReadFault = 3
code_of statuses.WriteFault = 4
code_of (statuses.BadLine line kind) = 5
code_of (statuses.TooLong line) = 6
code_of statuses.OutOfMemory = 7
code_of statuses.Worn = 10

-- a refusal in a word
abbrev pub kind_text : BadKind → List ℕ
kind_text kinds.Form = codes "form"
kind_text kinds.Number = codes "number"
kind_text kinds.Undeclared = codes "undeclared"
kind_text kinds.Repeated = codes "repeated"
kind_text kinds.Late = codes "late"

-- a line and what is wrong with it
abbrev pub at_line : ℕ → List ℕ → List ℕ
at_line line wrong = codes "line " ++ decimal line ++ codes ": " ++ wrong

-- what is written to standard error, after the program's name
abbrev pub message_of : Status → Option (List ℕ)
message_of statuses.Done = None
message_of statuses.Usage = Some (codes "usage")
message_of statuses.ReadFault = Some (codes "read fault")
message_of statuses.WriteFault = Some (codes "write fault")
message_of (statuses.BadLine line kind) = Some (at_line line (kind_text kind))
message_of (statuses.TooLong line) = Some (at_line line (codes "too long"))
message_of statuses.OutOfMemory = Some (codes "out of memory")
message_of statuses.Worn = Some (codes "counts worn")
