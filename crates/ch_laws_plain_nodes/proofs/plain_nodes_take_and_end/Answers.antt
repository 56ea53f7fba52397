use Rattle.ch_laws_plain_nodes.proofs.Calls.{ends_open_none}
use Rattle.ch_laws_plain_nodes.proofs.Commands.{does_take, does_end, takes_open_none}
use Rattle.ch_laws_plain_nodes.proofs.plain_nodes_take_and_end.Goals as goal

pub returns-clause-takes : goal.returns-clause-takes
returns-clause-takes c = λ node after by mark room done p e. let t = does_take node after by mark room done p e in (t, takes_open_none node by done after t)

pub returns-clause-ends : goal.returns-clause-ends
returns-clause-ends c = λ node after by room done p e. let s = does_end node after by room done p e in (s.0, ends_open_none node by done after s.0)
