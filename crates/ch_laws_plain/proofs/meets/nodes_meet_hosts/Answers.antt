use Rattle.ch_laws_plain.proofs.MeetsMeets.{meets_kept, fresh_meets}
use Rattle.ch_laws_plain.proofs.meets.nodes_meet_hosts.Goals as goal

pub returns-clause-turns : goal.returns-clause-turns
returns-clause-turns c = meets_kept

pub returns-clause-fresh : goal.returns-clause-fresh
returns-clause-fresh c = fresh_meets
