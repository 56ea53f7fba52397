-- What is proved of the answers in the log of a journal of many nodes.
use Rattle.std.specs.Prelude.{Bool, true, false, not, ◌||◌, List, IsTrue}
use Rattle.ch_model.specs.declared.entry.Entry.{Entry}
use Rattle.ch_model.specs.declared.entry.Entry.TheVariants as entries
use Rattle.ch_model.specs.declared.line.Line.{Line}
use Rattle.ch_model.specs.declared.line.What.{What}
use Rattle.ch_model.specs.declared.line.What.TheVariants as lines
use Rattle.ch_model.specs.HasAnswers.{marks_all, is_answered, is_of_done, has_own_first, has_settled_last, stands_in_place, settles_whole}
use Rattle.ch_model.specs.Logs.{some_and, each, each_between}
use Rattle.ch_model.specs.Marks.{line_numbered}

-- no process acts in the line: it makes one, or it joins a socket, takes it or feeds it
abbrev pub is_of_nobody : What → Bool
is_of_nobody (lines.Proc node) = true
is_of_nobody (lines.Join sock) = true
is_of_nobody (lines.Come sock) = true
is_of_nobody (lines.Feed sock end count) = true
is_of_nobody what = false

-- the entry marks a line that passes the test
abbrev pub marks_such : (What → Bool) → List Line → Entry → Bool
marks_such test journal (entries.Line number answer) = some_and test (line_numbered journal number)
marks_such test journal entry = false

-- a line that passes the test has its answer
abbrev pub is_answered_where : (What → Bool) → List Line → List Entry → Entry → Bool
is_answered_where test journal log entry = not (marks_such test journal entry) || is_answered journal log entry

-- The log answers the event lines of the journal, each as it should, and those in which no process acts as the log
-- before them shows.
pub record AnswersInOrder (journal : List Line) (log : List Entry) : Type 0 where
  pub marked : IsTrue (marks_all journal log)
  pub answered : IsTrue (each (is_answered_where is_of_nobody journal) log)
  pub of_done_lines : IsTrue (each (is_of_done journal) log)
  pub own_first : IsTrue (each_between (has_own_first journal) log)
  pub settled_last : IsTrue (each_between (has_settled_last journal) log)
  pub in_place : IsTrue (each (stands_in_place journal) log)
  pub settle_feeds_all : IsTrue (each (settles_whole journal) log)
