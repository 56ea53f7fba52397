use Rattle.std.proofs.Common.{refl}
use Rattle.ch_wire.specs.declared.frame.Frame.TheVariants as frames
use Rattle.ch_reader.specs.declared.item.Item.TheVariants as items
use Rattle.ch_laws_race.proofs.Read.{close_read}
use Rattle.ch_laws_race.proofs.close_is_read.Goals as goal

pub returns : goal.returns
returns z = λ scene x cell e i s known id left h. close_read scene x cell e i s known (items.Frame (frames.Closed id)) h.acts h.reads id left refl h.user h.closes
