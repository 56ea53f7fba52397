-- Whole notice: at each settled, what should be told was told, what was asked was answered, and who should be doomed isn't live.
use Rattle.std.specs.Prelude.{ℕ, Bool, true, false, not, ◌&&◌, ◌||◌, List, count_by, IsTrue, ◌==◌}
use Rattle.std.specs.List.{list_any, list_all}
use Rattle.ch_model.specs.declared.name.ProcName.{ProcName}
use Rattle.ch_model.specs.declared.name.RefName.{RefName}
use Rattle.ch_model.specs.declared.entry.Entry.{Entry}
use Rattle.ch_model.specs.declared.entry.Entry.TheVariants as entries
use Rattle.ch_model.specs.declared.line.Line.{Line}
use Rattle.ch_model.specs.declared.line.What.{What}
use Rattle.ch_model.specs.declared.line.What.TheVariants as lines
use Rattle.ch_model.specs.Same.{same_reference}
use Rattle.ch_model.specs.Logs.{each, until, none_or}
use Rattle.ch_model.specs.Marks.{done_by}
use Rattle.ch_model.specs.Life.{ends, is_made, is_over, is_live}
use Rattle.ch_model.specs.Watches.{opens, unwatches, tells}
use Rattle.ch_model.specs.References.{answers_spawn, answers_name}
use Rattle.ch_model.specs.Breaks.{is_untroubled_from, is_away}
use Rattle.ch_model.specs.Whole.{are_nodes_up}

-- the target has ended, or wasn't made
abbrev pub is_gone : List Entry → ProcName → Bool
is_gone log q = list_any (ends q) log || not (is_made log q)

-- the watch is owed a notice: its target is gone, without trouble since the watch; or the target's node is away, whatever the trouble
abbrev pub is_notice_owed : List Line → List Entry → RefName → ProcName → ProcName → Bool
is_notice_owed journal log m by target =
    not (is_over log by) && not (list_any (unwatches m) log)
    && (is_gone log target && is_untroubled_from journal by.node target.node (opens m) log || is_away journal log target.node)

-- the watch that the entry opens was told once, where it is owed that
abbrev pub is_noticed : List Line → List Entry → Entry → Bool
is_noticed journal log (entries.Watch watch by target kind) = not (is_notice_owed journal log watch by target) || count_by (tells watch) log == 1
is_noticed journal log entry = true

-- the entry asks another node under this reference
abbrev pub asks : RefName → Entry → Bool
asks m (entries.Asked question by at) = same_reference question m
asks m entry = false

-- the question that the entry asks is owed an answer: its owner isn't over, both nodes stand, and no trouble since it
abbrev pub is_answer_owed : List Line → List Entry → RefName → ProcName → List ℕ → Bool
is_answer_owed journal log m by at = not (is_over log by) && are_nodes_up journal log by.node at && is_untroubled_from journal by.node at (asks m) log

-- what the entry asks was answered, where that is owed
abbrev pub is_replied : List Line → List Entry → Entry → Bool
is_replied journal log (entries.Asked question by at) =
    not (is_answer_owed journal log question by at) || list_any (answers_spawn question) log || list_any (answers_name question) log
is_replied journal log entry = true

-- the entry marks this line
abbrev pub marks : ℕ → Entry → Bool
marks n (entries.Line number answer) = number == n
marks n entry = false

-- where the process was made before this line, both nodes stand and there was no trouble since it, the process isn't live
abbrev pub is_doomed_by : List Line → List Entry → ℕ → ProcName → ProcName → Bool
is_doomed_by journal log n by target =
    not (is_made (until (marks n) log) target && are_nodes_up journal log by.node target.node && is_untroubled_from journal by.node target.node (marks n) log)
    || not (is_live log target)

-- the target of an exit or kill isn't live, where that is owed
abbrev pub is_doomed_by_line : List Line → List Entry → ℕ → What → Bool
is_doomed_by_line journal log n (lines.Exit by target text) = is_doomed_by journal log n by target
is_doomed_by_line journal log n (lines.Kill by target text) = is_doomed_by journal log n by target
is_doomed_by_line journal log n what = true

-- the same of the line that the entry marks as done
abbrev pub is_doomed_by_entry : List Line → List Entry → Entry → Bool
is_doomed_by_entry journal log (entries.Line number answer) = none_or (is_doomed_by_line journal log number) (done_by journal (entries.Line number answer))
is_doomed_by_entry journal log entry = true

-- at a settled each entry before it passes a test of the log
abbrev pub at_settled : (List Entry → Entry → Bool) → List Entry → Entry → Bool
at_settled test log entries.Settled = list_all (test log) log
at_settled test log entry = true

-- at each settled what is owed of notices was done
pub record NotifiesWhole (journal : List Line) (log : List Entry) : Type 0 where
  pub told : IsTrue (each (at_settled (is_noticed journal)) log)
  pub answered : IsTrue (each (at_settled (is_replied journal)) log)
  pub doomed : IsTrue (each (at_settled (is_doomed_by_entry journal)) log)
