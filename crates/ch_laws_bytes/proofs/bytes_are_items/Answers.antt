use Rattle.ch_laws_bytes.proofs.Items.{are_items}
use Rattle.ch_laws_bytes.proofs.bytes_are_items.Goals as goal

pub returns : goal.returns
returns c = are_items
