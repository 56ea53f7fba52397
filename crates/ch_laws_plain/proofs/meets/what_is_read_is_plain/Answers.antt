use Rattle.ch_laws_plain.proofs.MeetsBegins.{reads_plain, peers_read_plain}
use Rattle.ch_laws_plain.proofs.meets.what_is_read_is_plain.Goals as goal

pub returns-clause-asked : goal.returns-clause-asked
returns-clause-asked c = reads_plain

pub returns-clause-peers : goal.returns-clause-peers
returns-clause-peers c = peers_read_plain
