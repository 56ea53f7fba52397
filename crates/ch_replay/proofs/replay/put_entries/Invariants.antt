use Rattle.std.proofs.Common.{◌≡◌, ◌++◌, drop}
use Rattle.ch_model.specs.Spelling.{log_text}
use Rattle.ch_replay.proofs.replay.put_entries.Given as goal

-- the text so far, and that of the entries that are left
abbrev pub invariant-loop-entry : goal.invariant-loop-entry
invariant-loop-entry l = l.text.items ++ log_text (drop l.entry-index l.entries) ≡ l.initial.text.items ++ log_text l.entries
