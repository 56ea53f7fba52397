use Rattle.std.proofs.Common.{refl}
use Rattle.ch_wire.specs.declared.frame.Frame.TheVariants as frames
use Rattle.ch_reader.specs.declared.item.Item.TheVariants as items
use Rattle.ch_laws_race.proofs.Read.{payload_read}
use Rattle.ch_laws_race.proofs.payload_is_read.Goals as goal

pub returns : goal.returns
returns z = λ scene x cell e i s known id payload conn h. payload_read scene x cell e i s known (items.Frame (frames.Data id payload)) h.acts h.reads id payload conn refl h.user h.carried
