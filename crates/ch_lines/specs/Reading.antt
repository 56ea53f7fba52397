-- Reading one line after another: what is answered, and what is known then.
use Rattle.std.specs.Prelude.{◌≡◌, ℕ, ◌+◌, List, Option, Some, None, Result, Ok, Err, ◌==◌, if◌then◌else◌}
use Rattle.ch_model.specs.declared.refusal.BadKind.{BadKind}
use Rattle.ch_model.specs.declared.line.Line.{Line}
use Rattle.ch_model.specs.declared.line.What.{What}
use Rattle.ch_model.specs.LinesTold.{Told}
use Rattle.ch_model.specs.Lines.{read_line}
use Rattle.ch_lines.specs.declared.reading.JournalError.{JournalError}
use Rattle.ch_lines.specs.declared.reading.JournalError.TheVariants.{BadLine, OutOfMemory, Worn}
use Rattle.ch_lines.specs.Grammars.{built_of}
use Rattle.ch_lines.specs.ReadingState.{ReadingState}

-- an answer, and what is known after it
pub record Step : Type 0 where
  pub answer : Result (Option Line) JournalError
  pub after : ReadingState

-- a line's answer, where it says something
abbrev pub numbered_line : ℕ → Option What → Option Line
numbered_line number None = None
numbered_line number (Some what) = Some (record { number = number; what = what })

-- the line of this number was read, or refused for good
abbrev pub read_as : ReadingState → ℕ → Result (Option What × Told) BadKind → Step
read_as state number (Ok read) = record { answer = Ok (numbered_line number read.0); after = record { grammar = state.grammar; told = read.1; number = number; refused = state.refused } }
read_as state number (Err kind) = record { answer = Err (BadLine number kind); after = record { grammar = state.grammar; told = state.told; number = state.number; refused = Some (number, kind) } }

-- the next line, where none was refused
abbrev pub next_line : ReadingState → List ℕ → Step
next_line state text =
    if state.number == 4294967295 then record { answer = Err Worn; after = state }
    else read_as state (state.number + 1) (read_line (built_of state.grammar) state.told text)

-- reading the next line
abbrev pub read_on : ReadingState → List ℕ → Step
read_on state text = elim state.refused [
  | None ↦ next_line state text
  | Some fault ↦ record { answer = Err (BadLine fault.0 fault.1); after = state }
]

-- the answer and the change are those of this step, or memory is wanting and nothing has changed
abbrev pub Answers : Result (Option Line) JournalError → ReadingState → ReadingState → Step → Type 0
Answers (Err OutOfMemory) before now step = now ≡ before
Answers (Err e) before now step = (step.answer ≡ Err e) × (now ≡ step.after)
Answers (Ok line) before now step = (step.answer ≡ Ok line) × (now ≡ step.after)
