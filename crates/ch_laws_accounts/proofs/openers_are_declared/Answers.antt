use Rattle.ch_model.specs.Journal.{journal_of}
use Rattle.ch_model.specs.LinesBuilt.{many_nodes}
use Rattle.ch_laws_many.proofs.Journals.{is_journal}
use Rattle.ch_laws_accounts.proofs.Openers.{all_declared}
use Rattle.ch_laws_accounts.proofs.openers_are_declared.Goals as goal

pub returns : goal.returns
returns c = λ bytes log is. all_declared (journal_of many_nodes bytes) (is_journal bytes) log is
