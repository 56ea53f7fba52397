-- What is so of the log of each journal that the grammar of many nodes reads, and of all that it begins with.
use Rattle.std.specs.Prelude.{List}
use Rattle.ch_model.specs.declared.entry.Entry.{Entry}
use Rattle.ch_model.specs.declared.line.Line.{Line}
use Rattle.ch_model.specs.Epochs.{FollowsEpochs}
use Rattle.ch_laws_spelled.specs.Spelled.{SaysWell}

-- what is said is spelled as the grammar allows, and messages are numbered as they come
pub record IsSpelt (journal : List Line) (log : List Entry) : Type 0 where
  pub well : SaysWell journal log
  pub numbered : FollowsEpochs log
