-- References: each watch, spawn and question for a name takes its node's next number, and is answered at most once.
use Rattle.std.specs.Prelude.{suc, Bool, true, false, not, ◌&&◌, ◌||◌, List, Option, Some, None, IsTrue, ◌==◌}
use Rattle.std.specs.List.{list_any}
use Rattle.ch_model.specs.declared.name.ProcName.{ProcName}
use Rattle.ch_model.specs.declared.name.RefName.{RefName}
use Rattle.ch_model.specs.declared.entry.Entry.{Entry}
use Rattle.ch_model.specs.declared.entry.Entry.TheVariants as entries
use Rattle.ch_model.specs.declared.line.Line.{Line}
use Rattle.ch_model.specs.declared.line.What.{What}
use Rattle.ch_model.specs.declared.line.What.TheVariants as lines
use Rattle.ch_model.specs.Same.{same_process, same_reference, same_finding}
use Rattle.ch_model.specs.Logs.{each, once, some_and}
use Rattle.ch_model.specs.Marks.{references_given, line_just_done, line_of_reference, takes_reference}
use Rattle.ch_model.specs.Names.{stands}

-- the reference is the one that the line done directly before has taken: the last of its node
abbrev pub is_the_taken : List Line → List Entry → RefName → Bool
is_the_taken journal log m = suc m.number == references_given journal log m.node

-- the line done directly before takes a reference
abbrev pub has_just_taken : List Line → List Entry → Bool
has_just_taken journal log = some_and (λ what. some_and (λ p. true) (takes_reference what)) (line_just_done journal log)

-- a reference that a line takes is its node's next
abbrev pub takes_next : List Line → List Entry → Entry → Bool
takes_next journal log (entries.Watch watch by target kind) = is_the_taken journal log watch
takes_next journal log (entries.Asked question by at) = is_the_taken journal log question
takes_next journal log (entries.Made process (Some spawn) label) = not (has_just_taken journal log) || is_the_taken journal log spawn
takes_next journal log (entries.Isat question found) = not (has_just_taken journal log) || is_the_taken journal log question
takes_next journal log entry = true

-- the entry makes a process for this reference
abbrev pub makes_for : RefName → Entry → Bool
makes_for m (entries.Made process (Some spawn) label) = same_reference spawn m
makes_for m entry = false

-- the entry makes this process for this reference
abbrev pub makes_it_for : ProcName → RefName → Entry → Bool
makes_it_for p m (entries.Made process (Some spawn) label) = same_process process p && same_reference spawn m
makes_it_for p m entry = false

-- the entry answers this reference with a process that was made
abbrev pub answers_spawn : RefName → Entry → Bool
answers_spawn m (entries.Spawned question process) = same_reference question m
answers_spawn m entry = false

-- the entry answers this reference with what was found for a name
abbrev pub answers_name : RefName → Entry → Bool
answers_name m (entries.Isat question found) = same_reference question m
answers_name m entry = false

-- one process is made for a reference
abbrev pub makes_one : List Entry → Entry → Bool
makes_one log (entries.Made process (Some spawn) label) = not (list_any (makes_for spawn) log)
makes_one log entry = true

-- a spawn is answered once
abbrev pub spawns_once : List Entry → Entry → Bool
spawns_once log (entries.Spawned question process) = not (list_any (answers_spawn question) log)
spawns_once log entry = true

-- the process that answers a spawn was made for it
abbrev pub spawns_the_made : List Entry → Entry → Bool
spawns_the_made log (entries.Spawned question process) = list_any (makes_it_for process question) log
spawns_the_made log entry = true

-- a question for a name is answered once
abbrev pub finds_once : List Entry → Entry → Bool
finds_once log (entries.Isat question found) = not (list_any (answers_name question) log)
finds_once log entry = true

-- the name that the line asks for stands for this finding, at a moment
abbrev pub stood_as : Option ProcName → List Entry → What → Bool
stood_as found moment (lines.Whereis by at name) = same_finding found (stands moment at name)
stood_as found moment what = false

-- at a moment since the reference was taken the name of its question stood for this finding
abbrev pub stood_since : List Line → List Entry → RefName → Option ProcName → Bool
stood_since journal log m found = once (λ moment. some_and (stood_as found moment) (line_of_reference journal moment m)) log

-- what is found for a name stood so at a moment since the question
abbrev pub finds_what_stood : List Line → List Entry → Entry → Bool
finds_what_stood journal log (entries.Isat question found) = stood_since journal log question found
finds_what_stood journal log entry = true

-- a process is made with a reference and a label, or with neither
abbrev pub has_both : List Entry → Entry → Bool
has_both log (entries.Made process (Some spawn) None) = false
has_both log (entries.Made process None (Some label)) = false
has_both log entry = true

-- references are taken in order, and answered once and truly
pub record FollowsReferences (journal : List Line) (log : List Entry) : Type 0 where
  pub next_number : IsTrue (each (takes_next journal) log)
  pub with_label : IsTrue (each has_both log)
  pub one_made : IsTrue (each makes_one log)
  pub one_spawned : IsTrue (each spawns_once log)
  pub spawned_the_made : IsTrue (each spawns_the_made log)
  pub one_found : IsTrue (each finds_once log)
  pub found_what_stood : IsTrue (each (finds_what_stood journal) log)
