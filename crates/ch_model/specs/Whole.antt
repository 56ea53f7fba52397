-- Whole delivery: at each settled, all that was said in an epoch without trouble was got.
use Rattle.std.specs.Prelude.{ℕ, Bool, true, not, ◌&&◌, ◌||◌, List, IsTrue}
use Rattle.std.specs.List.{list_any, list_all}
use Rattle.ch_model.specs.declared.name.ProcName.{ProcName}
use Rattle.ch_model.specs.declared.name.TargetName.{TargetName}
use Rattle.ch_model.specs.declared.entry.Entry.{Entry}
use Rattle.ch_model.specs.declared.entry.Entry.TheVariants as entries
use Rattle.ch_model.specs.declared.line.Line.{Line}
use Rattle.ch_model.specs.Same.{node_of, process_of}
use Rattle.ch_model.specs.Logs.{each, until, none_or}
use Rattle.ch_model.specs.Epochs.{says_in}
use Rattle.ch_model.specs.Life.{is_over}
use Rattle.ch_model.specs.Delivery.{gets_it, is_there}
use Rattle.ch_model.specs.Breaks.{is_untroubled_from, is_away}

-- both are nodes of the journal that aren't shut
abbrev pub are_nodes_up : List Line → List Entry → List ℕ → List ℕ → Bool
are_nodes_up journal log x y = not (is_away journal log x) && not (is_away journal log y)

-- The epoch is owed whole: both nodes stand, no trouble since the last settled before its first message, and its target
-- was there before that message and isn't over.
abbrev pub is_owed : List Line → List Entry → ProcName → TargetName → ℕ → Bool
is_owed journal log p d e =
    are_nodes_up journal log p.node (node_of d)
    && is_untroubled_from journal p.node (node_of d) (says_in p d e) log
    && is_there (until (says_in p d e) log) d
    && none_or (λ q. not (is_over log q)) (process_of d)

-- what the entry says was got, where it is owed
abbrev pub is_delivered : List Line → List Entry → Entry → Bool
is_delivered journal log (entries.Said by to epoch index mark body) = not (is_owed journal log by to epoch) || list_any (gets_it by to epoch index) log
is_delivered journal log entry = true

-- all that is owed has been delivered
abbrev pub has_delivered : List Line → List Entry → Bool
has_delivered journal log = list_all (is_delivered journal log) log

-- at a settled all that is owed has been delivered
abbrev pub settles_delivered : List Line → List Entry → Entry → Bool
settles_delivered journal log entries.Settled = has_delivered journal log
settles_delivered journal log entry = true

-- at each settled all that is owed has been delivered
abbrev pub DeliversWhole : List Line → List Entry → Type 0
DeliversWhole journal log = IsTrue (each (settles_delivered journal) log)
