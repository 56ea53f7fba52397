-- The own entry of each line: what a line that was done has first.
use Rattle.std.specs.Prelude.{Bool, true, false, ◌&&◌, List, ◌++◌, count_by, length, min, Some, None, codes, if◌then◌else◌}
use Rattle.std.specs.Str.{bytes_eq}
use Rattle.ch_ident.specs.declared.reason.Reason.TheVariants as reasons
use Rattle.ch_watch.specs.declared.waiting.Kind.TheVariants as kinds
use Rattle.ch_model.specs.declared.entry.Entry.{Entry}
use Rattle.ch_model.specs.declared.line.Line.{Line}
use Rattle.ch_model.specs.declared.line.What.{What}
use Rattle.ch_model.specs.declared.line.What.TheVariants as lines
use Rattle.ch_model.specs.Epochs.{reconnects}
use Rattle.ch_model.specs.Life.{shuts, ends, is_live}
use Rattle.ch_model.specs.Names.{stands}
use Rattle.ch_model.specs.Watches.{ends_with, unwatches, dooms_with}
use Rattle.ch_model.specs.Mailboxes.{takes_marked, takes_from}
use Rattle.ch_model.specs.Sockets.{unread, cuts, opens_target}
use Rattle.ch_model.specs.AnswersEntries.{makes_unspawned, says_so, opens_a_port, watches_so, asks_so, makes_so, finds_so, names_so, joins, refuses, feeds_so, loses, is_timed, knocks_at, knocks, pokes_so, quits}

-- The own entry of a line, after the log before it. An exit or kill has one where the target is of the own node and live.
abbrev pub is_own : List Line → List Entry → What → Entry → Bool
is_own journal log (lines.Proc node) entry = makes_unspawned node entry
is_own journal log (lines.Send by to mark body) entry = says_so by to mark body entry
is_own journal log (lines.Nsend by to mark body) entry = says_so by to mark body entry
is_own journal log (lines.Again by to) entry = reconnects by to entry
is_own journal log (lines.Recv by mark) entry = takes_marked by mark entry
is_own journal log (lines.Port by) entry = opens_a_port by entry
is_own journal log (lines.Take by port) entry = takes_from by port entry
is_own journal log (lines.End by) entry = ends_with by reasons.Normal entry
is_own journal log (lines.Fail by text) entry = ends_with by (reasons.Exception text) entry
is_own journal log (lines.Fall by) entry = ends by entry
is_own journal log (lines.Monitor by target) entry = watches_so by target kinds.Monitor entry
is_own journal log (lines.Link by target) entry = watches_so by target kinds.Link entry
is_own journal log (lines.Unwatch by watch) entry = unwatches watch entry
is_own journal log (lines.Exit by target text) entry = bytes_eq by.node target.node && is_live log target && dooms_with target (codes "exit " ++ text) entry
is_own journal log (lines.Kill by target text) entry = bytes_eq by.node target.node && is_live log target && dooms_with target (codes "kill " ++ text) entry
is_own journal log (lines.Spawn by at label args) entry = if bytes_eq by.node at then makes_so at label entry else asks_so by at entry
is_own journal log (lines.Register by name) entry = names_so by.node name (Some by) entry
is_own journal log (lines.Unregister by name) entry = names_so by.node name None entry
is_own journal log (lines.Whereis by at name) entry = if bytes_eq by.node at then finds_so at (stands log at name) entry else asks_so by at entry
is_own journal log (lines.Shut node) entry = shuts node entry
is_own journal log (lines.Join sock) entry = joins sock entry
is_own journal log (lines.Come sock) entry = opens_target sock entry
is_own journal log (lines.Refuse sock) entry = refuses sock entry
is_own journal log (lines.Feed sock end count) entry = feeds_so sock end (min count (length (unread journal log sock end))) entry
is_own journal log (lines.Cut sock end) entry = cuts sock end entry
is_own journal log (lines.Lose sock end) entry = loses sock end entry
is_own journal log (lines.Late node peer) entry = is_timed node peer entry
is_own journal log (lines.Knock stranger node) entry = knocks stranger node (count_by (knocks_at stranger node) log) entry
is_own journal log (lines.Poke sock bytes) entry = pokes_so sock bytes entry
is_own journal log (lines.Quit sock) entry = quits sock entry
is_own journal log what entry = false

-- the line has an own entry, where it is done: all but a settle, and an exit or kill that dooms nobody here
abbrev pub has_own : List Entry → What → Bool
has_own log lines.Settle = false
has_own log (lines.Exit by target text) = bytes_eq by.node target.node && is_live log target
has_own log (lines.Kill by target text) = bytes_eq by.node target.node && is_live log target
has_own log what = true
