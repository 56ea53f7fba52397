-- What a log says of each event line: one mark, with its answer; nothing after another answer than ok; else its own entry first.
use Rattle.std.specs.Prelude.{ℕ, Bool, true, false, not, ◌&&◌, ◌||◌, List, [], ◌∷◌, filter_map, length, Option, Some, None, IsTrue, ◌==◌, cond}
use Rattle.std.specs.Str.{bytes_eq}
use Rattle.ch_model.specs.declared.entry.Entry.{Entry}
use Rattle.ch_model.specs.declared.entry.Entry.TheVariants as entries
use Rattle.ch_model.specs.declared.entry.Verdict.{Verdict}
use Rattle.ch_model.specs.declared.entry.Verdict.TheVariants as verdicts
use Rattle.ch_model.specs.declared.line.Line.{Line}
use Rattle.ch_model.specs.declared.line.What.{What}
use Rattle.ch_model.specs.declared.line.What.TheVariants as lines
use Rattle.ch_model.specs.Logs.{each, each_between, some_and, none_or, next_is}
use Rattle.ch_model.specs.Marks.{line_numbered, current_line, line_just_done, is_settle, in_settle, is_mark}
use Rattle.ch_model.specs.Sockets.{unread}
use Rattle.ch_model.specs.Answers.{answer_to}
use Rattle.ch_model.specs.AnswersOwn.{is_own, has_own}

-- two answers are one
abbrev pub same_answer : Verdict → Verdict → Bool
same_answer verdicts.Ok verdicts.Ok = true
same_answer verdicts.Unknown verdicts.Unknown = true
same_answer verdicts.Dead verdicts.Dead = true
same_answer verdicts.Hale verdicts.Hale = true
same_answer verdicts.Taken verdicts.Taken = true
same_answer verdicts.NoName verdicts.NoName = true
same_answer verdicts.NoRef verdicts.NoRef = true
same_answer verdicts.Empty verdicts.Empty = true
same_answer verdicts.Long verdicts.Long = true
same_answer verdicts.Full verdicts.Full = true
same_answer verdicts.Spent verdicts.Spent = true
same_answer verdicts.Nothing verdicts.Nothing = true
same_answer answer other = false

-- the line declares something, and is no event
abbrev pub is_declaration : What → Bool
is_declaration (lines.Node name address unique) = true
is_declaration (lines.Away name address unique) = true
is_declaration (lines.Label node label) = true
is_declaration (lines.Stranger name host) = true
is_declaration what = false

-- the number of an event line
abbrev pub event_number : Line → Option ℕ
event_number line = cond (is_declaration line.what) None (Some line.number)

-- the number of a mark
abbrev pub mark_number : Entry → Option ℕ
mark_number (entries.Line number answer) = Some number
mark_number entry = None

-- the log marks the event lines, each once, in order
abbrev pub marks_all : List Line → List Entry → Bool
marks_all journal log = bytes_eq (filter_map mark_number log) (filter_map event_number journal)

-- a line has its answer
abbrev pub is_answered : List Line → List Entry → Entry → Bool
is_answered journal log (entries.Line number answer) = some_and (λ what. same_answer answer (answer_to journal log what)) (line_numbered journal number)
is_answered journal log entry = true

-- what isn't a mark stands after a line that was done, up to the next mark
abbrev pub is_of_done : List Line → List Entry → Entry → Bool
is_of_done journal log entry = is_mark entry || some_and (λ what. true) (current_line journal log)

-- the line, where it has an own entry, has it first in what stands after
abbrev pub is_followed_by_own : List Line → List Entry → List Entry → What → Bool
is_followed_by_own journal log rest what = not (has_own log what) || next_is (is_own journal log what) rest

-- a line that is done has its own entry first
abbrev pub has_own_first : List Line → List Entry → Entry → List Entry → Bool
has_own_first journal log (entries.Line number verdicts.Ok) rest = some_and (is_followed_by_own journal log rest) (line_numbered journal number)
has_own_first journal log entry rest = true

-- nothing stands after, or a mark is next
abbrev pub is_at_end_of_line : List Entry → Bool
is_at_end_of_line [] = true
is_at_end_of_line (entry ∷ rest) = is_mark entry

-- the line's entries end with a settled
abbrev pub ends_settled : List Entry → Bool
ends_settled [] = false
ends_settled (entries.Settled ∷ rest) = is_at_end_of_line rest
ends_settled (entry ∷ rest) = not (is_mark entry) && ends_settled rest

-- a settle ends with a settled, which stands nowhere else
abbrev pub has_settled_last : List Line → List Entry → Entry → List Entry → Bool
has_settled_last journal log (entries.Line number verdicts.Ok) rest =
    none_or (λ what. not (is_settle what) || ends_settled rest) (line_numbered journal number)
has_settled_last journal log entries.Settled rest = in_settle journal log && is_at_end_of_line rest
has_settled_last journal log entry rest = true

-- the entry is the own entry of the line done directly before
abbrev pub is_own_of_last : List Line → List Entry → Entry → Bool
is_own_of_last journal log entry = some_and (λ what. is_own journal log what entry) (line_just_done journal log)

-- what only a line does: said, again, took, port, watch, unwatch, asked, shut, cut, lost, knocked, poked, quitted
abbrev pub is_of_line : Entry → Bool
is_of_line (entries.Said by to epoch index mark body) = true
is_of_line (entries.Again by to epoch) = true
is_of_line (entries.Took by port mark body) = true
is_of_line (entries.Port process port) = true
is_of_line (entries.Watch watch by target kind) = true
is_of_line (entries.Unwatch watch) = true
is_of_line (entries.Asked question by at) = true
is_of_line (entries.Shut node) = true
is_of_line (entries.Cut sock end) = true
is_of_line (entries.Lost sock end) = true
is_of_line (entries.Knocked sock) = true
is_of_line (entries.Poked sock bytes) = true
is_of_line (entries.Quitted sock) = true
is_of_line entry = false

-- what only a line or a settle does: joined, came, refused, fed, timed
abbrev pub is_of_network : Entry → Bool
is_of_network (entries.Joined sock) = true
is_of_network (entries.Came sock) = true
is_of_network (entries.Refused sock) = true
is_of_network (entries.Fed sock end count) = true
is_of_network (entries.Timed node peer) = true
is_of_network entry = false

-- what only a line does is its own entry; what the network does is one, or stands in a settle
abbrev pub stands_in_place : List Line → List Entry → Entry → Bool
stands_in_place journal log entry =
    not (is_of_line entry || is_of_network entry)
    || is_own_of_last journal log entry
    || is_of_network entry && in_settle journal log

-- a settle feeds all that is unread
abbrev pub settles_whole : List Line → List Entry → Entry → Bool
settles_whole journal log (entries.Fed sock end count) = not (in_settle journal log) || count == length (unread journal log sock end)
settles_whole journal log entry = true

-- the log answers the event lines of the journal, and each does what it should
pub record HasAnswers (journal : List Line) (log : List Entry) : Type 0 where
  pub marked : IsTrue (marks_all journal log)
  pub answered : IsTrue (each (is_answered journal) log)
  pub of_done_lines : IsTrue (each (is_of_done journal) log)
  pub own_first : IsTrue (each_between (has_own_first journal) log)
  pub settled_last : IsTrue (each_between (has_settled_last journal) log)
  pub in_place : IsTrue (each (stands_in_place journal) log)
  pub settle_feeds_all : IsTrue (each (settles_whole journal) log)
