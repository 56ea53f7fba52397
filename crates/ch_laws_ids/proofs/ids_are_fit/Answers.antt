use Rattle.std.proofs.Common.{refl}
use Rattle.ch_model.specs.Journal.{journal_of}
use Rattle.ch_model.specs.LinesBuilt.{many_nodes}
use Rattle.ch_laws_many.proofs.Journals.{is_journal}
use Rattle.ch_laws_ids.proofs.Logs.{fit_in}
use Rattle.ch_laws_ids.proofs.ids_are_fit.Goals as goal

pub returns-clause-law : goal.returns-clause-law
returns-clause-law c = λ bytes. fit_in (journal_of many_nodes bytes) (is_journal bytes)

pub returns-clause-passed : goal.returns-clause-passed
returns-clause-passed c = refl

pub returns-clause-order : goal.returns-clause-order
returns-clause-order c = refl

pub returns-clause-sent : goal.returns-clause-sent
returns-clause-sent c = refl

pub returns-clause-twice : goal.returns-clause-twice
returns-clause-twice c = refl
