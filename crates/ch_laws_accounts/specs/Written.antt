-- What is proved of what is written and fed in the log of a journal of many nodes.
use Rattle.std.specs.Prelude.{List, IsTrue}
use Rattle.ch_model.specs.declared.entry.Entry.{Entry}
use Rattle.ch_model.specs.declared.line.Line.{Line}
use Rattle.ch_model.specs.AccountsBytes.{writes_an_item, requests_by_name, writes_after_accepting, feeds_the_unread, feeds_the_end}
use Rattle.ch_model.specs.Logs.{each}

-- Each writing of an end is one item, an opener's request is from the address of its node, and nothing is written after a
-- refusal; what is fed was unread, and the end of input is fed where nothing is unread and none comes.
pub record WritesAndFeeds (journal : List Line) (log : List Entry) : Type 0 where
  pub items : IsTrue (each (writes_an_item journal) log)
  pub requests : IsTrue (each (requests_by_name journal) log)
  pub after_accepting : IsTrue (each writes_after_accepting log)
  pub unread_alone : IsTrue (each (feeds_the_unread journal) log)
  pub true_ends : IsTrue (each (feeds_the_end journal) log)
