-- What is so of a log and its world where what is said is shown to be carried.
use Rattle.std.specs.Prelude.{List}
use Rattle.ch_model.specs.declared.entry.Entry.{Entry}
use Rattle.ch_model.specs.declared.line.Line.{Line}
use Rattle.ch_model.specs.WorldState.{World}
use Rattle.ch_laws_ids.specs.Runs.{AllRun}
use Rattle.ch_laws_peers.specs.Standing.{Standing}
use Rattle.ch_laws_messages.specs.SaidGoes.{SaysWell}

-- All that stands of nodes and hosts, each end runs, so that its frames lead to the ids that were given there, and sayings are of
-- processes with ids in their rule.
pub record SaidGiven (journal : List Line) (log : List Entry) (world : World) : Type 0 where
  pub standing : Standing journal log world
  pub runs : AllRun log world
  pub well : SaysWell journal log
