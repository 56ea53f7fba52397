use Rattle.ch_model.specs.Journal.{journal_of}
use Rattle.ch_model.specs.LinesBuilt.{many_nodes}
use Rattle.ch_laws_many.proofs.Journals.{is_journal}
use Rattle.ch_laws_calls.proofs.ScenesStart.{view_at_start, raced_at_start}
use Rattle.ch_laws_calls.proofs.scenes.pairs_start.Goals as goal

pub returns-clause-seen : goal.returns-clause-seen
returns-clause-seen c = λ bytes. view_at_start (journal_of many_nodes bytes) (is_journal bytes)

pub returns-clause-raced : goal.returns-clause-raced
returns-clause-raced c = λ bytes. raced_at_start (journal_of many_nodes bytes) (is_journal bytes)
