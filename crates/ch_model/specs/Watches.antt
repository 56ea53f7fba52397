-- Notices: a watch is told at most once, and with a reason that occurred.
use Rattle.std.specs.Prelude.{ℕ, Bool, true, false, not, ◌&&◌, ◌||◌, List, [], ◌∷◌, Option, Some, None, IsTrue, cond, filter_map}
use Rattle.std.specs.List.{list_any}
use Rattle.std.specs.Str.{bytes_eq}
use Rattle.ch_ident.specs.declared.reason.Reason.{Reason}
use Rattle.ch_ident.specs.declared.reason.Reason.TheVariants as reasons
use Rattle.ch_watch.specs.declared.waiting.Kind.{Kind}
use Rattle.ch_watch.specs.declared.waiting.Kind.TheVariants as kinds
use Rattle.ch_model.specs.declared.name.ProcName.{ProcName}
use Rattle.ch_model.specs.declared.name.RefName.{RefName}
use Rattle.ch_model.specs.declared.entry.Entry.{Entry}
use Rattle.ch_model.specs.declared.entry.Entry.TheVariants as entries
use Rattle.ch_model.specs.Same.{same_process, same_reference}
use Rattle.ch_model.specs.Logs.{each, each_between, from_first, first_of, some_and, next_is}
use Rattle.ch_model.specs.Reasons.{same_reason, reason_of, link_text}
use Rattle.ch_model.specs.Life.{is_made, is_over, is_live}

-- who watches whom, and how
pub record Watching : Type 0 where
  pub by : ProcName
  pub target : ProcName
  pub kind : Kind

-- the entry opens this watch
abbrev pub opens : RefName → Entry → Bool
opens m (entries.Watch watch by target kind) = same_reference watch m
opens m entry = false

-- what the entry opens under this reference
abbrev pub opened_as : RefName → Entry → Option Watching
opened_as m (entries.Watch watch by target kind) = elim (same_reference watch m) [ true ↦ Some (record { by = by; target = target; kind = kind }) | false ↦ None ]
opened_as m entry = None

-- the watch of this reference
abbrev pub watch_of : List Entry → RefName → Option Watching
watch_of log m = first_of (opened_as m) log

-- the entry takes this watch back
abbrev pub unwatches : RefName → Entry → Bool
unwatches m (entries.Unwatch watch) = same_reference watch m
unwatches m entry = false

-- the entry tells this watch
abbrev pub tells : RefName → Entry → Bool
tells m (entries.Told watch reason) = same_reference watch m
tells m entry = false

-- the entry finds this watch's target absent
abbrev pub finds_absent : RefName → Entry → Bool
finds_absent m (entries.Absent watch) = same_reference watch m
finds_absent m entry = false

-- the watch was opened, not taken back, not told, and its owner isn't over
abbrev pub is_open : List Entry → RefName → Bool
is_open log m = some_and (λ (w : Watching). not (list_any (unwatches m) log) && not (list_any (tells m) log) && not (is_over log w.by)) (watch_of log m)

-- the entry ends this process with this reason
abbrev pub ends_with : ProcName → Reason → Entry → Bool
ends_with p r (entries.Over process reason) = same_process process p && same_reason reason r
ends_with p r entry = false

-- the entry breaks the first node's link with the second, for a cause that is told so
abbrev pub breaks_with : List ℕ → List ℕ → Reason → Entry → Bool
breaks_with x y r (entries.Broke node peer why) = bytes_eq node x && bytes_eq peer y && same_reason (reason_of why) r
breaks_with x y r entry = false

-- what makes this reason occur to a watch: the end of its target, a break with the target's node, or its absence
abbrev pub makes_occur : RefName → Watching → Reason → Entry → Bool
makes_occur m w reasons.Normal entry = ends_with w.target reasons.Normal entry
makes_occur m w (reasons.Exception text) entry = ends_with w.target (reasons.Exception text) entry
makes_occur m w reasons.Disconnect entry = breaks_with w.by.node w.target.node reasons.Disconnect entry
makes_occur m w reasons.NodeDown entry = breaks_with w.by.node w.target.node reasons.NodeDown entry
makes_occur m w reasons.UnknownId entry = finds_absent m entry

-- the reason has occurred since the watch was opened
abbrev pub has_occurred : List Entry → RefName → Reason → Bool
has_occurred log m reason = some_and (λ w. list_any (makes_occur m w reason) (from_first (opens m) log)) (watch_of log m)

-- a watch that is told is open
abbrev pub tells_open : List Entry → Entry → Bool
tells_open log (entries.Told watch reason) = is_open log watch
tells_open log entry = true

-- what a watch is told has occurred since it was opened
abbrev pub tells_occurred : List Entry → Entry → Bool
tells_occurred log (entries.Told watch reason) = has_occurred log watch reason
tells_occurred log entry = true

-- a target that is found absent isn't made, or is over
abbrev pub is_truly_absent : List Entry → Entry → Bool
is_truly_absent log (entries.Absent watch) = some_and (λ (w : Watching). not (is_made log w.target) || is_over log w.target) (watch_of log watch)
is_truly_absent log entry = true

-- the entry dooms this process with this text
abbrev pub dooms_with : ProcName → List ℕ → Entry → Bool
dooms_with p word (entries.Doom process text) = same_process process p && bytes_eq text word
dooms_with p word entry = false

-- the watch is a link of a live process
abbrev pub is_live_link : List Entry → Watching → Bool
is_live_link log w = elim w.kind [ kinds.Link ↦ is_live log w.by | _ ↦ false ]

-- a live owner of a link that is told is doomed next
abbrev pub dooms_owner : List Entry → Entry → List Entry → Bool
dooms_owner log (entries.Told watch reason) rest = elim (watch_of log watch) [
  | None ↦ true
  | Some w ↦ cond (is_live_link log w) (next_is (dooms_with w.by (link_text reason)) rest) true
]
dooms_owner log entry rest = true

-- the reference of an open watch of the first node's processes on the second's
abbrev pub open_between : List Entry → List ℕ → List ℕ → Entry → Option RefName
open_between log x y (entries.Watch watch by target kind) =
    elim (bytes_eq by.node x && bytes_eq target.node y && is_open log watch) [ true ↦ Some watch | false ↦ None ]
open_between log x y entry = None

-- these watches are told this reason first in what stands after, in their order, with nothing between but dooms
abbrev pub told_first : Reason → List RefName → List Entry → Bool
told_first r [] rest = true
told_first r (m ∷ ms) [] = false
told_first r (m ∷ ms) (entries.Doom process text ∷ rest) = told_first r (m ∷ ms) rest
told_first r (m ∷ ms) (entries.Told watch reason ∷ rest) = same_reference watch m && same_reason reason r && told_first r ms rest
told_first r (m ∷ ms) (entry ∷ rest) = false

-- where a link breaks each open watch of its node on the other is told at once, in order of opening
abbrev pub tells_all : List Entry → Entry → List Entry → Bool
tells_all log (entries.Broke node peer why) rest = told_first (reason_of why) (filter_map (open_between log node peer) log) rest
tells_all log entry rest = true

-- notices are lawful: of an open watch, of a reason that occurred, and complete at a break
pub record HasLawfulNotices (log : List Entry) : Type 0 where
  pub of_open : IsTrue (each tells_open log)
  pub of_what_occurred : IsTrue (each tells_occurred log)
  pub truly_absent : IsTrue (each is_truly_absent log)
  pub dooms_owners : IsTrue (each_between dooms_owner log)
  pub all_at_breaks : IsTrue (each_between tells_all log)
