use Rattle.ch_model.specs.Journal.{journal_of}
use Rattle.ch_model.specs.LinesBuilt.{many_nodes}
use Rattle.ch_laws_many.proofs.Journals.{is_journal}
use Rattle.ch_laws_ids.proofs.Kept.{runs_kept}
use Rattle.ch_laws_ids.proofs.Logs.{fresh_runs, runs_after}
use Rattle.ch_laws_ids.proofs.frames_lead_to_tables.Goals as goal

pub returns-clause-kept : goal.returns-clause-kept
returns-clause-kept c = runs_kept

pub returns-clause-fresh : goal.returns-clause-fresh
returns-clause-fresh c = fresh_runs

pub returns-clause-after : goal.returns-clause-after
returns-clause-after c = λ bytes. runs_after (journal_of many_nodes bytes) (is_journal bytes)
