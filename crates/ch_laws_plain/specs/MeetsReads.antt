-- What is read at the ends of a host.
use Rattle.std.specs.Prelude.{◌≡◌, ℕ, false, List, ◌++◌, find, Some, None}
use Rattle.ch_wire.specs.declared.frame.Frame.{Frame}
use Rattle.ch_reader.specs.declared.item.Expected.{Expected}
use Rattle.ch_reader.specs.declared.item.Item.{Item}
use Rattle.ch_model.specs.HostState.{Socket}
use Rattle.ch_model.specs.HostSteps.{is_socket}
use Rattle.ch_model.specs.Stages.{is_ended}
use Rattle.ch_model.specs.WorldState.{Cell}
use Rattle.ch_laws_reads.specs.Reads.{AreRead}
use Rattle.ch_laws_calls.specs.FitsFit.{frames_in}
use Rattle.ch_laws_plain.specs.Plain.{pending_at}
use Rattle.ch_laws_plain.specs.Streams.{PlainOn}

-- whatever is read at an end of the cell's host is the beginning of a plain stream
abbrev pub ReadsPlain : Cell → Type 0
ReadsPlain cell = (n : ℕ) (known : Socket) (read : List Item) (next : Expected) (left : List ℕ) → find (is_socket n) cell.host.sockets ≡ Some known → is_ended known.stage ≡ false → AreRead known.expected known.since read next left
    → (more : List Frame) × PlainOn (pending_at cell n) (frames_in read ++ more) None
