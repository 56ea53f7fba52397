-- How a process of a node is over, and what goes with it.
use Rattle.std.specs.Prelude.{ℕ, List, [], ◌∷◌, ◌++◌, map, None}
use Rattle.ch_ident.specs.declared.reason.Reason.{Reason}
use Rattle.ch_mail.specs.Process.{Process}
use Rattle.ch_mail.specs.Mail.{end_of}
use Rattle.ch_watch.specs.Lists.{Lists}
use Rattle.ch_watch.specs.Watches.{ended_of}
use Rattle.ch_model.specs.declared.note.Note.TheVariants as notes
use Rattle.ch_model.specs.declared.act.Act.{Act}
use Rattle.ch_model.specs.declared.act.Act.TheVariants as acts
use Rattle.ch_model.specs.NodeState.{NodeState}
use Rattle.ch_model.specs.NodeActs.{◌>>=◌, ◌and_then◌, Done, doing, each_in_turn, or_unchanged}
use Rattle.ch_model.specs.NodeIds.{process_id}
use Rattle.ch_model.specs.NodePairs.{conns_by, closed_pairs}
use Rattle.ch_model.specs.NodeWatches.{tell_end}

-- a name of the node falls away
abbrev pub fallen : NodeState → List ℕ → Act
fallen node name = acts.Note (notes.Named node.own name None)

-- A process is over: what is told of it and of its names, in order of registering, and which connections are closed,
-- in order of opening.
unfoldable pub farewell : NodeState → ℕ → Reason → List (List ℕ) → List Act
farewell node number reason names = acts.Note (notes.Over (process_id node number) reason) ∷ map (fallen node) names ++ map (λ conn. acts.Close conn) (conns_by node.pairs number)

-- the node without what goes with a process that is over
abbrev pub bereft : NodeState → List Process → Lists → ℕ → NodeState
bereft node mail lists number = record node { mail = mail; watches = lists; pairs = closed_pairs node.pairs number }

-- A process is over, for this reason: its names fall, its connections are closed, and its watchers are told in order
-- of arrival.
unfoldable pub over : NodeState → ℕ → Reason → Done
over node number reason = do
  mail ← or_unchanged node.mail (end_of node.mail number reason)
  doing (farewell node number reason (ended_of node.watches number).0.names) (bereft node mail (ended_of node.watches number).1 number)
      and_then (λ n. each_in_turn (λ watch m. tell_end m watch reason) (ended_of node.watches number).0.watches n)

-- ---- the node is shut

-- nothing is open, kept or named any more
abbrev pub shut_lists : Lists → Lists
shut_lists lists = record lists { waiting = []; watched = []; names = [] }
