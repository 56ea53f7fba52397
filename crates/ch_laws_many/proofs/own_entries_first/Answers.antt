use Rattle.ch_model.specs.Journal.{journal_of}
use Rattle.ch_model.specs.LinesBuilt.{many_nodes}
use Rattle.ch_laws_many.proofs.InOrder.{in_order}
use Rattle.ch_laws_many.proofs.Journals.{is_journal}
use Rattle.ch_laws_many.proofs.own_entries_first.Goals as goal

pub returns : goal.returns
returns c = λ bytes log is. (in_order (journal_of many_nodes bytes) (is_journal bytes) log is).own_first
