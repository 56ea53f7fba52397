use Rattle.ch_laws_plain.proofs.HearsNodes.{hears_comes, hears_goes, hears_payload_so, hears_lost}
use Rattle.ch_laws_plain.proofs.hears.nodes_hear_plainly.Goals as goal

pub returns-clause-comes : goal.returns-clause-comes
returns-clause-comes c = hears_comes

pub returns-clause-goes : goal.returns-clause-goes
returns-clause-goes c = hears_goes

pub returns-clause-payload : goal.returns-clause-payload
returns-clause-payload c = hears_payload_so

pub returns-clause-lost : goal.returns-clause-lost
returns-clause-lost c = hears_lost
