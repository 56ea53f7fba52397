use Rattle.ch_laws_bytes.proofs.Items.{is_read}
use Rattle.ch_laws_bytes.proofs.ends_are_read.Goals as goal

pub returns : goal.returns
returns c = is_read
