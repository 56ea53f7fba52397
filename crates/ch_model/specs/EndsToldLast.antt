-- An end is told last: where a watch is told that its target ended, all that the target said to the watcher was got before.
use Rattle.std.specs.Prelude.{ℕ, Bool, true, false, not, ◌&&◌, ◌||◌, List, IsTrue}
use Rattle.std.specs.List.{list_any, list_all}
use Rattle.ch_ident.specs.declared.reason.Reason.{Reason}
use Rattle.ch_ident.specs.declared.reason.Reason.TheVariants as reasons
use Rattle.ch_model.specs.declared.name.ProcName.{ProcName}
use Rattle.ch_model.specs.declared.name.TargetName.{TargetName}
use Rattle.ch_model.specs.declared.entry.Entry.{Entry}
use Rattle.ch_model.specs.declared.entry.Entry.TheVariants as entries
use Rattle.ch_model.specs.Same.{same_process, process_of}
use Rattle.ch_model.specs.Logs.{each, until, some_and, none_or}
use Rattle.ch_model.specs.Epochs.{says_in, has_broken}
use Rattle.ch_model.specs.Delivery.{gets_it, is_there}
use Rattle.ch_model.specs.Watches.{Watching, watch_of}

-- the reason is that of a process which ended
abbrev pub is_end : Reason → Bool
is_end reasons.Normal = true
is_end (reasons.Exception text) = true
is_end reason = false

-- The epoch, of messages to a process or port of this watcher, hasn't broken, and its target was there before its first message.
abbrev pub reaches_watcher : List Entry → ProcName → ProcName → TargetName → ℕ → Bool
reaches_watcher log watcher q d e = some_and (same_process watcher) (process_of d) && not (has_broken log q d e) && is_there (until (says_in q d e) log) d

-- what the entry says of the target to the watcher was got
abbrev pub is_got_by_watcher : List Entry → Watching → Entry → Bool
is_got_by_watcher log w (entries.Said by to epoch index mark body) =
    not (same_process by w.target && reaches_watcher log w.by by to epoch) || list_any (gets_it by to epoch index) log
is_got_by_watcher log w entry = true

-- where a watch is told the end of its target, all of its messages to the watcher were got
abbrev pub tells_end_last : List Entry → Entry → Bool
tells_end_last log (entries.Told watch reason) = not (is_end reason) || none_or (λ w. list_all (is_got_by_watcher log w) log) (watch_of log watch)
tells_end_last log entry = true

-- ends are told last
abbrev pub EndsToldLast : List Entry → Type 0
EndsToldLast log = IsTrue (each tells_end_last log)
