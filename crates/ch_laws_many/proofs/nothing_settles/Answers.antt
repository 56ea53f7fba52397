use Rattle.ch_model.specs.Journal.{journal_of}
use Rattle.ch_model.specs.LinesBuilt.{many_nodes}
use Rattle.ch_laws_many.proofs.InOrder.{in_order}
use Rattle.ch_laws_many.proofs.Journals.{is_journal}
use Rattle.ch_laws_many.proofs.nothing_settles.Goals as goal

pub returns-clause-last : goal.returns-clause-last
returns-clause-last c = λ bytes log is. (in_order (journal_of many_nodes bytes) (is_journal bytes) log is).settled_last

pub returns-clause-whole : goal.returns-clause-whole
returns-clause-whole c = λ bytes log is. (in_order (journal_of many_nodes bytes) (is_journal bytes) log is).settle_feeds_all
