-- What stands at the front of bytes, as a function of them.
use Rattle.std.specs.Prelude.{ℕ, ◌+◌, List, length, take, drop, min, Option, Some, None, Result, Ok, Err, nat_lt, if◌then◌else◌}
use Rattle.ch_base.specs.AddressValues.{AddressValue}
use Rattle.ch_base.specs.Addresses.{read_address}
use Rattle.ch_base.specs.declared.address.AddressError.{AddressError}
use Rattle.ch_wire.specs.Spelling.{answer_numbered, head_numbered}
use Rattle.ch_wire.specs.declared.TheConstants.{MOST_ADDRESS_BYTES, MOST_PAYLOAD_BYTES}
use Rattle.ch_wire.specs.declared.answer.Answer.{Answer}
use Rattle.ch_wire.specs.declared.frame.Frame.TheVariants as frames
use Rattle.ch_wire.specs.declared.frame.Head.{Head}
use Rattle.ch_wire.specs.declared.frame.Head.TheVariants as heads
use Rattle.ch_reader.specs.declared.item.Expected.{Expected}
use Rattle.ch_reader.specs.declared.item.Expected.TheVariants as expected
use Rattle.ch_reader.specs.declared.item.Item.TheVariants as items
use Rattle.ch_reader.specs.declared.item.ReaderError.{ReaderError}
use Rattle.ch_reader.specs.declared.item.ReaderError.TheVariants.{UnknownControl, PayloadLong, AddressLong, BadAddress, BadAnswer}
use Rattle.ch_reader.specs.declared.item.Front.{Front}
use Rattle.ch_reader.specs.declared.item.Front.TheVariants.{Unfinished, Whole, Refused}
use Rattle.ch_reader.specs.declared.glance.Glance.{Glance}
use Rattle.ch_reader.specs.declared.glance.Glance.TheVariants.{Settled, Body}
use Rattle.ch_reader.specs.declared.glance.Opened.{Opened}
use Rattle.ch_reader.specs.declared.glance.Opened.TheVariants as opened
use Rattle.ch_reader.specs.Streams.{first_word, second_word}

-- how many bytes of words a frame with this head has
abbrev pub frame_header_size : Head → ℕ
frame_header_size heads.Created = 8
frame_header_size heads.Closed = 8
frame_header_size (heads.Data id) = 8
frame_header_size head = 4

-- how many bytes of words the item at the front has, as far as its first word tells
abbrev pub header_size : Expected → List ℕ → ℕ
header_size expected.Request bytes = 8
header_size expected.Answer bytes = 4
header_size expected.Frame bytes =
    if nat_lt (length bytes) 4 then 4 else frame_header_size (head_numbered (first_word bytes))

-- a count in its range begins a body; else this is the refusal
abbrev pub counted_body : Opened → ℕ → ReaderError → ℕ → Glance
counted_body opened most error count = if nat_lt most count then Settled (Refused error) else Body opened count

-- what an answer's word tells
abbrev pub answer_glance : Option Answer → Glance
answer_glance (Some a) = Settled (Whole (items.Answer a))
answer_glance None = Settled (Refused BadAnswer)

-- what the head of a frame and its second word, where it has one, tell
abbrev pub frame_glance : Head → ℕ → Glance
frame_glance heads.Created second = Settled (Whole (items.Frame (frames.Created second)))
frame_glance heads.Closed second = Settled (Whole (items.Frame (frames.Closed second)))
frame_glance heads.EndClosed second = Settled (Whole (items.Frame frames.EndClosed))
frame_glance heads.Probe second = Settled (Whole (items.Frame frames.Probe))
frame_glance heads.ProbeAck second = Settled (Whole (items.Frame frames.ProbeAck))
frame_glance (heads.Data id) second = counted_body (opened.Data id) MOST_PAYLOAD_BYTES PayloadLong second
frame_glance heads.Unknown second = Settled (Refused UnknownControl)

-- what the words of an item tell, once they are whole
abbrev pub words_glance : Expected → List ℕ → Glance
words_glance expected.Request bytes = counted_body (opened.Request (first_word bytes)) MOST_ADDRESS_BYTES AddressLong (second_word bytes)
words_glance expected.Answer bytes = answer_glance (answer_numbered (first_word bytes))
words_glance expected.Frame bytes = frame_glance (head_numbered (first_word bytes)) (second_word bytes)

-- what the words at the front tell
abbrev pub glance_at : Expected → List ℕ → Glance
glance_at e bytes = if nat_lt (length bytes) (header_size e bytes) then Settled Unfinished else words_glance e bytes

-- the request of this target, where its address may be read
abbrev pub request_front : ℕ → Result AddressValue AddressError → Front
request_front target (Ok a) = Whole (items.Request (record { target = target; from = a }))
request_front target (Err e) = Refused BadAddress

-- what a whole body ends
abbrev pub body_front : Opened → List ℕ → Front
body_front (opened.Request target) body = request_front target (read_address body)
body_front (opened.Data id) body = Whole (items.Frame (frames.Data id body))

-- what follows the words: what stands at the front, and how many of these bytes are of it
abbrev pub rest_reading : Glance → List ℕ → Front × ℕ
rest_reading (Settled front) rest = (front, 0)
rest_reading (Body opened count) rest =
    if nat_lt (length rest) count then (Unfinished, length rest) else (body_front opened (take count rest), count)

-- What stands at the front of the bytes, and how many bytes are of it: the item's bytes, the bytes to a refusal, or all.
abbrev pub reading : Expected → List ℕ → Front × ℕ
reading e bytes =
    let size = header_size e bytes in
    let rest = rest_reading (glance_at e bytes) (drop size bytes) in
    (rest.0, min size (length bytes) + rest.1)
