use Rattle.ch_model.specs.Journal.{journal_of}
use Rattle.ch_model.specs.LinesBuilt.{many_nodes}
use Rattle.ch_laws_many.proofs.Journals.{is_journal}
use Rattle.ch_laws_epochs.proofs.Worlds.{follows}
use Rattle.ch_laws_epochs.proofs.messages_numbered.Goals as goal

pub returns : goal.returns
returns c = λ bytes log is. follows (journal_of many_nodes bytes) (is_journal bytes) log is
