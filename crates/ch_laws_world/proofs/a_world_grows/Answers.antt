use Rattle.ch_model.specs.World.{world_new, world_step, log_from}
use Rattle.ch_laws_world.proofs.Journals.{step_grows, lines_grow, grown}
use Rattle.ch_laws_world.proofs.a_world_grows.Goals as goal

pub returns-clause-new : goal.returns-clause-new
returns-clause-new c = λ journal. tt

pub returns-clause-line : goal.returns-clause-line
returns-clause-line c = λ world after line entries k e. grown world after entries (world_step world line) (step_grows world line k) e

pub returns-clause-lines : goal.returns-clause-lines
returns-clause-lines c = λ world after lines entries k e. grown world after entries (log_from world lines) (lines_grow world lines k) e

pub returns-clause-journal : goal.returns-clause-journal
returns-clause-journal c = λ journal lines after entries e. grown (world_new journal) after entries (log_from (world_new journal) lines) (lines_grow (world_new journal) lines tt) e
