use Rattle.std.specs.Prelude.{◌≡◌, ◌==◌, true, length}
use Rattle.ch_model.specs.Journal.{journal_of}
use Rattle.ch_model.specs.LinesBuilt.{many_nodes}
use Rattle.ch_laws_calls.proofs.Counted.{count_kept}
use Rattle.ch_laws_calls.proofs.TurnsOfCalls.{by_calls}
use Rattle.ch_laws_calls.proofs.turns.turns_are_of_calls.Goals as goal

pub returns-clause-law : goal.returns-clause-law
returns-clause-law c = λ bytes test. by_calls (journal_of many_nodes bytes) (λ log world. test log world ≡ true)

pub returns-clause-such : goal.returns-clause-such
returns-clause-such c = λ bytes count. by_calls (journal_of many_nodes bytes) (λ log world. (length world.cells == count) ≡ true) (count_kept (journal_of many_nodes bytes) count)
