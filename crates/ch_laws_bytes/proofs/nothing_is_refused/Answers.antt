use Rattle.ch_laws_bytes.proofs.Fronts.{read_as_spelled}
use Rattle.ch_laws_bytes.proofs.nothing_is_refused.Goals as goal

pub returns : goal.returns
returns c = read_as_spelled
