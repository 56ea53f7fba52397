use Rattle.std.specs.Prelude.{◌≡◌, true}
use Rattle.ch_model.specs.Journal.{journal_of}
use Rattle.ch_model.specs.LinesBuilt.{many_nodes}
use Rattle.ch_laws_many.proofs.Journals.{is_journal}
use Rattle.ch_laws_calls.proofs.Counted.{count_kept}
use Rattle.ch_laws_calls.proofs.Lines.{all_kept, all_kept_given}
use Rattle.ch_laws_calls.proofs.happens_by_calls.Goals as goal

pub returns-clause-law : goal.returns-clause-law
returns-clause-law c = λ bytes test. all_kept (journal_of many_nodes bytes) (is_journal bytes) (λ log world. test log world ≡ true)

pub returns-clause-given : goal.returns-clause-given
returns-clause-given c = λ bytes so test cut. all_kept_given (journal_of many_nodes bytes) (is_journal bytes) (λ log. so log ≡ true) cut (λ log world. test log world ≡ true)

pub returns-clause-such : goal.returns-clause-such
returns-clause-such c = λ bytes count. count_kept (journal_of many_nodes bytes) count
