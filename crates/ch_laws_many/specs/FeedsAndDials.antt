-- What is proved of what is fed and dialed in the log of a journal of many nodes.
use Rattle.std.specs.Prelude.{List, IsTrue}
use Rattle.ch_model.specs.declared.entry.Entry.{Entry}
use Rattle.ch_model.specs.declared.line.Line.{Line}
use Rattle.ch_model.specs.AccountsBytes.{feeds_the_unread, feeds_the_end}
use Rattle.ch_model.specs.Links.{dials_in_order}
use Rattle.ch_model.specs.Logs.{each}

-- What is fed was unread, the end of input is fed where nothing is unread and none comes, and each dial has the number of
-- those before it of the same opener and target.
pub record FeedsAndDials (journal : List Line) (log : List Entry) : Type 0 where
  pub unread_alone : IsTrue (each (feeds_the_unread journal) log)
  pub true_ends : IsTrue (each (feeds_the_end journal) log)
  pub dials_ordered : IsTrue (each dials_in_order log)
