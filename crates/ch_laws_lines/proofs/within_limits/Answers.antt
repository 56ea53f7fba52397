use Rattle.ch_laws_one_node.proofs.Limits.{all_within}
use Rattle.ch_laws_lines.proofs.within_limits.Goals as goal

pub returns : goal.returns
returns c = λ built bytes none. all_within built bytes none
