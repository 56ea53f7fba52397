-- Which lines of a journal are answered by what stands in a mailbox.
use Rattle.std.specs.Prelude.{Bool, true, false, List}
use Rattle.ch_model.specs.declared.entry.Entry.{Entry}
use Rattle.ch_model.specs.declared.line.Line.{Line}
use Rattle.ch_model.specs.declared.line.What.{What}
use Rattle.ch_model.specs.declared.line.What.TheVariants as lines
use Rattle.ch_laws_many.specs.InOrder.{is_answered_where}

-- a process takes the first message of a mark
abbrev pub is_take : What → Bool
is_take (lines.Recv by mark) = true
is_take what = false

-- such a line has its answer
abbrev pub is_answered_take : List Line → List Entry → Entry → Bool
is_answered_take journal log entry = is_answered_where is_take journal log entry
