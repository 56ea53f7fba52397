use Rattle.ch_laws_lines.proofs.OneOfMany.{one_same_log, one_lawful, one_promised, one_further}
use Rattle.ch_laws_lines.proofs.one_node_among_many.Goals as goal

pub returns-clause-same_log : goal.returns-clause-same_log
returns-clause-same_log c = λ bytes of. one_same_log bytes of

pub returns-clause-lawful : goal.returns-clause-lawful
returns-clause-lawful c = λ bytes log of is. one_lawful bytes log of is

pub returns-clause-promised : goal.returns-clause-promised
returns-clause-promised c = λ bytes log of is. one_promised bytes log of is

pub returns-clause-sharper : goal.returns-clause-sharper
returns-clause-sharper c = λ bytes log of is. let further = one_further bytes log of is in (further.sharper, further.isolated, further.told_last)
