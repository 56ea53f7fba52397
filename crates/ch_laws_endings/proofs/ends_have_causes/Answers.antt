use Rattle.ch_model.specs.Journal.{journal_of}
use Rattle.ch_model.specs.LinesBuilt.{many_nodes}
use Rattle.ch_laws_many.proofs.Journals.{is_journal}
use Rattle.ch_laws_endings.proofs.LogEnds.{fronts_caused, log_caused}
use Rattle.ch_laws_endings.proofs.ends_have_causes.Goals as goal

pub returns-clause-log : goal.returns-clause-log
returns-clause-log c = λ bytes log is. log_caused (journal_of many_nodes bytes) (is_journal bytes) log is

pub returns-clause-fronts : goal.returns-clause-fronts
returns-clause-fronts c = λ bytes front rest cut log world is. fronts_caused (journal_of many_nodes bytes) (is_journal bytes) front rest cut log world is
