use Rattle.ch_laws_messages.proofs.SaidAfter.{all_carried, many_carried}
use Rattle.ch_laws_messages.proofs.said.all_is_carried_after_any_lines.Goals as goal

pub returns-clause-lines : goal.returns-clause-lines
returns-clause-lines c = all_carried

pub returns-clause-many : goal.returns-clause-many
returns-clause-many c = many_carried
