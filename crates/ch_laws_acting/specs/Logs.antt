-- Which lines of a journal are answered by who acts alone.
use Rattle.std.specs.Prelude.{Bool, true, false, not, ◌||◌, List}
use Rattle.std.specs.Str.{bytes_eq}
use Rattle.ch_model.specs.declared.entry.Entry.{Entry}
use Rattle.ch_model.specs.declared.line.Line.{Line}
use Rattle.ch_model.specs.declared.line.What.{What}
use Rattle.ch_model.specs.declared.line.What.TheVariants as lines
use Rattle.ch_model.specs.Life.{is_live}
use Rattle.ch_model.specs.Same.{node_of}
use Rattle.ch_laws_many.specs.InOrder.{is_answered_where}

-- The answer to the line shows, by the log before, from who was made and who acts alone: the line ends its process; it sends
-- to a process of its own node; or it sends or takes, and its process wasn't made, or is doomed or over.
abbrev pub is_of_lives : List Entry → What → Bool
is_of_lives log (lines.End by) = true
is_of_lives log (lines.Send by to mark body) = not (is_live log by) || bytes_eq by.node (node_of to)
is_of_lives log (lines.Recv by mark) = not (is_live log by)
is_of_lives log what = false

-- such a line has its answer
abbrev pub is_answered_by_lives : List Line → List Entry → Entry → Bool
is_answered_by_lives journal log entry = is_answered_where (is_of_lives log) journal log entry
