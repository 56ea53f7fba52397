-- The rules of life: a process is made once, may be doomed, and is over once; after that it neither acts nor receives.
use Rattle.std.specs.Prelude.{ℕ, Bool, true, false, not, ◌&&◌, ◌||◌, List, ◌++◌, count_by, Option, Some, None, ◌==◌, IsTrue, codes}
use Rattle.std.specs.List.{list_any}
use Rattle.std.specs.Str.{bytes_eq}
use Rattle.ch_ident.specs.declared.reason.Reason.{Reason}
use Rattle.ch_ident.specs.declared.reason.Reason.TheVariants as reasons
use Rattle.ch_watch.specs.declared.waiting.Kind.TheVariants as kinds
use Rattle.ch_model.specs.declared.name.ProcName.{ProcName}
use Rattle.ch_model.specs.declared.name.RefName.{RefName}
use Rattle.ch_model.specs.declared.entry.Entry.{Entry}
use Rattle.ch_model.specs.declared.entry.Entry.TheVariants as entries
use Rattle.ch_model.specs.declared.line.Line.{Line}
use Rattle.ch_model.specs.declared.line.What.{What}
use Rattle.ch_model.specs.declared.line.What.TheVariants as lines
use Rattle.ch_model.specs.Same.{same_process, same_reference}
use Rattle.ch_model.specs.Logs.{each, last_is, first_of, some_and, none_or}
use Rattle.ch_model.specs.Declarations.{has_label}
use Rattle.ch_model.specs.Marks.{does, line_just_done}
use Rattle.ch_model.specs.Reasons.{same_reason, link_text}
use Rattle.ch_model.specs.Life.{makes_on, is_made, is_over, is_live}

-- the text that first doomed the process
abbrev pub text_of_doom : ProcName → Entry → Option (List ℕ)
text_of_doom p (entries.Doom process text) = elim (same_process process p) [ true ↦ Some text | false ↦ None ]
text_of_doom p entry = None

-- the process that has a link under this reference
abbrev pub links : RefName → Entry → Option ProcName
links m (entries.Watch watch by target kinds.Link) = elim (same_reference watch m) [ true ↦ Some by | false ↦ None ]
links m entry = None

-- the entry tells a link of this process a reason, by whose word the text dooms
abbrev pub tells_link : List Entry → ProcName → List ℕ → Entry → Bool
tells_link log p text (entries.Told watch reason) = some_and (same_process p) (first_of (links watch) log) && bytes_eq text (link_text reason)
tells_link log p text entry = false

-- the line dooms this process by this text
abbrev pub dooms_by : ProcName → List ℕ → What → Bool
dooms_by p text (lines.Exit by target word) = same_process target p && bytes_eq text (codes "exit " ++ word)
dooms_by p text (lines.Kill by target word) = same_process target p && bytes_eq text (codes "kill " ++ word)
dooms_by p text what = false

-- a process has the number of those of its node that were made before
abbrev pub is_numbered : List Entry → Entry → Bool
is_numbered log (entries.Made process spawn label) = process.counter == count_by (makes_on process.node) log
is_numbered log entry = true

-- a process that is doomed is live
abbrev pub dooms_the_live : List Entry → Entry → Bool
dooms_the_live log (entries.Doom process text) = is_live log process
dooms_the_live log entry = true

-- a doom is by a link that was told directly before, or by an exit or kill that was done before
abbrev pub dooms_with_cause : List Line → List Entry → Entry → Bool
dooms_with_cause journal log (entries.Doom process text) = last_is (tells_link log process text) log || list_any (does journal (dooms_by process text)) log
dooms_with_cause journal log entry = true

-- a process that ends was made and isn't over
abbrev pub ends_once : List Entry → Entry → Bool
ends_once log (entries.Over process reason) = is_made log process && not (is_over log process)
ends_once log entry = true

-- the line ends this process with this reason; one that falls has the text that doomed it
abbrev pub ends_by : List Entry → ProcName → Reason → What → Bool
ends_by log p reason (lines.End by) = same_process by p && same_reason reason reasons.Normal
ends_by log p reason (lines.Fail by text) = same_process by p && same_reason reason (reasons.Exception text)
ends_by log p reason (lines.Fall by) = same_process by p && some_and (λ text. same_reason reason (reasons.Exception text)) (first_of (text_of_doom p) log)
ends_by log p reason what = false

-- the entry makes this process with a label that its node hasn't
abbrev pub makes_unlabelled : List Line → ProcName → Entry → Bool
makes_unlabelled journal p (entries.Made process (Some spawn) (Some label)) = same_process process p && not (has_label journal p.node label)
makes_unlabelled journal p entry = false

-- the reason of a process whose label its node hasn't
abbrev pub unlabelled : Reason
unlabelled = reasons.Exception (codes "unknown label")

-- an end is by its line, directly before, or of a process whose label its node hasn't, made directly before
abbrev pub ends_with_cause : List Line → List Entry → Entry → Bool
ends_with_cause journal log (entries.Over process reason) =
    some_and (ends_by log process reason) (line_just_done journal log)
    || last_is (makes_unlabelled journal process) log && same_reason reason unlabelled
ends_with_cause journal log entry = true

-- the owner of a watch
abbrev pub watches_as : RefName → Entry → Option ProcName
watches_as m (entries.Watch watch by target kind) = elim (same_reference watch m) [ true ↦ Some by | false ↦ None ]
watches_as m entry = None

-- the process that acts or receives by this entry
abbrev pub concerns : List Entry → Entry → Option ProcName
concerns log (entries.Said by to epoch index mark body) = Some by
concerns log (entries.Again by to epoch) = Some by
concerns log (entries.Took by port mark body) = Some by
concerns log (entries.Watch watch by target kind) = Some by
concerns log (entries.Got by to epoch index receiver) = receiver
concerns log (entries.Told watch reason) = first_of (watches_as watch) log
concerns log entry = None

-- no process that is over acts or receives
abbrev pub concerns_no_dead : List Entry → Entry → Bool
concerns_no_dead log entry = none_or (λ p. not (is_over log p)) (concerns log entry)

-- processes are made, doomed and ended as they should be
pub record FollowsLife (journal : List Line) (log : List Entry) : Type 0 where
  pub numbered : IsTrue (each is_numbered log)
  pub dooms_live : IsTrue (each dooms_the_live log)
  pub dooms_caused : IsTrue (each (dooms_with_cause journal) log)
  pub over_once : IsTrue (each ends_once log)
  pub ends_caused : IsTrue (each (ends_with_cause journal) log)
  pub dead_rest : IsTrue (each concerns_no_dead log)
