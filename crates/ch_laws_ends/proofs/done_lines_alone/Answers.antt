use Rattle.ch_laws_ends.proofs.Alone.{all_alone}
use Rattle.ch_laws_ends.proofs.done_lines_alone.Goals as goal

pub returns : goal.returns
returns c = all_alone
