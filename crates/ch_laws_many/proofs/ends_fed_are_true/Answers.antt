use Rattle.ch_model.specs.Journal.{journal_of}
use Rattle.ch_model.specs.LinesBuilt.{many_nodes}
use Rattle.ch_laws_many.proofs.FeedsAndDials.{feeds_and_dials}
use Rattle.ch_laws_many.proofs.Journals.{is_journal}
use Rattle.ch_laws_many.proofs.ends_fed_are_true.Goals as goal

pub returns : goal.returns
returns c = λ bytes log is. (feeds_and_dials (journal_of many_nodes bytes) (is_journal bytes) log is).true_ends
