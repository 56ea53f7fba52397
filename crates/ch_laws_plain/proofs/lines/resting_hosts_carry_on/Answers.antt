use Rattle.ch_laws_plain.proofs.LinesRests.{rests_carries, rests_joined}
use Rattle.ch_laws_plain.proofs.lines.resting_hosts_carry_on.Goals as goal

pub returns-clause-carries : goal.returns-clause-carries
returns-clause-carries c = rests_carries

pub returns-clause-joined : goal.returns-clause-joined
returns-clause-joined c = rests_joined
