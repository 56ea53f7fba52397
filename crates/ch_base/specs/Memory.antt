-- What the source and the sink over memory hold.
use Rattle.std.specs.Prelude.{ℕ, List, drop}
use Rattle.ch_base.specs.declared.source.BytesSource.{BytesSource}
use Rattle.ch_base.specs.declared.sink.BytesSink.{BytesSink}

-- what is left of the bytes
abbrev pub bytes_left : BytesSource → List ℕ
bytes_left s = drop s.at s.bytes.items

-- what was taken so far
abbrev pub sink_bytes : BytesSink → List ℕ
sink_bytes s = s.bytes.items
