use Rattle.ch_model.specs.LinesBuilt.{one_node}
use Rattle.ch_laws_one_node.proofs.Limits.{all_within}
use Rattle.ch_laws_one_node.proofs.within_limits.Goals as goal

pub returns : goal.returns
returns c = λ bytes none. all_within one_node bytes none
