use Rattle.std.specs.Prelude.{◌≡◌, true}
use Rattle.ch_model.specs.Journal.{journal_of}
use Rattle.ch_model.specs.LinesBuilt.{many_nodes}
use Rattle.ch_laws_many.proofs.Journals.{is_journal}
use Rattle.ch_laws_calls.proofs.TurnsLines.{turns_kept, turns_kept_given}
use Rattle.ch_laws_calls.proofs.turns.happens_by_turns.Goals as goal

pub returns-clause-law : goal.returns-clause-law
returns-clause-law c = λ bytes sure test k s t j front rest whole log world e.
    (turns_kept (journal_of many_nodes bytes) (is_journal bytes) (λ log world. sure log world ≡ true) (λ log world. test log world ≡ true) k s t j front rest whole log world e).1

pub returns-clause-given : goal.returns-clause-given
returns-clause-given c = λ bytes so sure test cut k s t j front rest whole log world e now.
    (turns_kept_given (journal_of many_nodes bytes) (is_journal bytes) (λ log. so log ≡ true) cut (λ log world. sure log world ≡ true) (λ log world. test log world ≡ true) k s t j front rest whole log world e now).1
