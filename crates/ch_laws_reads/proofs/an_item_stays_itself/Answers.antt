use Rattle.ch_laws_reads.proofs.Stays.{stays_whole}
use Rattle.ch_laws_reads.proofs.an_item_stays_itself.Goals as goal

pub returns : goal.returns
returns c = stays_whole
