use Rattle.ch_laws_delivery.proofs.Overs.{over_ages, over_ends}
use Rattle.ch_laws_delivery.proofs.over_at_a_node.Goals as goal

pub returns-clause-ages : goal.returns-clause-ages
returns-clause-ages z = λ n number reason did now h. over_ages n number reason did now h

pub returns-clause-ends : goal.returns-clause-ends
returns-clause-ends z = λ n number reason did now h made. over_ends n number reason did now h made
