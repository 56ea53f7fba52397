use Rattle.std.proofs.Common.{refl}
use Rattle.ch_wire.specs.declared.frame.Frame.TheVariants as frames
use Rattle.ch_reader.specs.declared.item.Item.TheVariants as items
use Rattle.ch_laws_race.proofs.Read.{probe_read}
use Rattle.ch_laws_race.proofs.probe_is_read.Goals as goal

pub returns : goal.returns
returns z = λ scene x cell e i s known probed h. probe_read scene x cell e i s known (items.Frame frames.Probe) h.acts h.reads probed refl h.user h.up h.way
