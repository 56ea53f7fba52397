-- What a turn makes of the streams at the ends of its host: what is read there, and what is written.
use Rattle.std.specs.Prelude.{◌≡◌, ℕ, ◌++◌, List, find, Option, Some, None}
use Rattle.ch_base.specs.declared.address.Address.{Address}
use Rattle.ch_wire.specs.declared.frame.Frame.{Frame}
use Rattle.ch_reader.specs.Items.{spellings}
use Rattle.ch_reader.specs.declared.item.Item.{Item}
use Rattle.ch_model.specs.declared.step.Step.{Step}
use Rattle.ch_model.specs.HostState.{Socket}
use Rattle.ch_model.specs.HostSteps.{is_socket}
use Rattle.ch_model.specs.WorldState.{Cell}
use Rattle.ch_laws_bytes.specs.Streams.{Reader, reader_in}
use Rattle.ch_laws_links.specs.Naming.{IsNaming}
use Rattle.ch_laws_reads.specs.Reads.{AreRead, IsFresh}
use Rattle.ch_laws_writes.specs.Dues.{Due, due_at}
use Rattle.ch_laws_calls.specs.FitsFit.{frames_in}
use Rattle.ch_laws_calls.specs.FitsTurns.{bytes_at, IsKind}
use Rattle.ch_laws_plain.specs.Streams.{PlainOn, IsPlainStream}
use Rattle.ch_laws_plain.specs.Plain.{CellIsPlain, pending_at}

-- items were read at an end, and whatever is a plain stream behind them there is one then; or nothing is read there any more
abbrev pub ReaderPlain : Option Reader → Option ℕ → Option Reader → Option ℕ → Type 0
ReaderPlain before pending None next = Unit {0}
ReaderPlain None pending (Some now) next = ⊥
ReaderPlain (Some reader) pending (Some now) next = (read : List Item) × AreRead reader.0 reader.1 read now.0 now.1 × ((more : List Frame) → PlainOn pending (frames_in read ++ more) None → PlainOn next more None)

-- bytes that are written at an end are items that may be written there, and their frames are a plain stream
pub record WriterPlain (own : ℕ → Address) (due : Option Due) (bytes : List ℕ) : Type 0 where
  pub said : List Item
  pub spelled : bytes ≡ spellings said
  pub kind : IsKind own due said
  pub stream : IsPlainStream (frames_in said)

-- so it is at each end that the host of a cell had
pub record CellCarries (own : ℕ → Address) (cell : Cell) (told : List Step) (after : Cell) : Type 0 where
  pub reads : (n : ℕ) (known : Socket) → find (is_socket n) cell.host.sockets ≡ Some known → ReaderPlain (reader_in (Some known)) (pending_at cell n) (reader_in (find (is_socket n) after.host.sockets)) (pending_at after n)
  pub writes : (n : ℕ) (known : Socket) → find (is_socket n) cell.host.sockets ≡ Some known → WriterPlain own (due_at cell.host n) (bytes_at n told)

-- A cell after a turn in which its host dialed a socket: links and ends name each other there, it is plain, and nothing was read of
-- that socket.
pub record DialedWell (sock : ℕ) (after : Cell) : Type 0 where
  pub naming : IsNaming after.host
  pub plain : CellIsPlain after
  pub fresh : IsFresh (find (is_socket sock) after.host.sockets)
