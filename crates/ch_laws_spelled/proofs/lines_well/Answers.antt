use Rattle.ch_laws_spelled.proofs.LinesWell.{lines_well}
use Rattle.ch_laws_spelled.proofs.lines_well.Goals as goal

pub returns : goal.returns
returns c = λ bytes. lines_well bytes
