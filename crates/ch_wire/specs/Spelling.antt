-- The one spelling of each item of the wire, and what a first word begins.
use Rattle.std.specs.Prelude.{ℕ, ◌<◌, ◌≤◌, ◌^◌, List, ◌++◌, length, Option, Some, None, nat_lt, ◌==◌, if◌then◌else◌}
use Rattle.ch_base.specs.Addresses.{IsAddress, address_text}
use Rattle.ch_wire.specs.Words.{word, counted}
use Rattle.ch_wire.specs.declared.TheConstants.{FIRST_ID, MOST_PAYLOAD_BYTES}
use Rattle.ch_wire.specs.declared.answer.Answer.{Answer}
use Rattle.ch_wire.specs.declared.answer.Answer.TheVariants.{Accepted, Invalid, Crossed, Mismatch}
use Rattle.ch_wire.specs.declared.frame.Frame.{Frame}
use Rattle.ch_wire.specs.declared.frame.Frame.TheVariants.{Created, Closed, EndClosed, Probe, ProbeAck, Data}
use Rattle.ch_wire.specs.declared.frame.Head.{Head}
use Rattle.ch_wire.specs.declared.frame.Head.TheVariants as heads
use Rattle.ch_wire.specs.declared.request.Request.{Request}

-- a request's target is a number of 32 bits, and its address is one that may be read
pub record IsRequest (r : Request) : Type 0 where
  pub target : r.target < 2 ^ 32
  pub address : IsAddress r.from

-- the target's number, and the counted text of the address
abbrev pub request_spelling : Request → List ℕ
request_spelling r = counted r.target (address_text r.from)

-- the number of an answer
abbrev pub answer_number : Answer → ℕ
answer_number Accepted = 0
answer_number Invalid = 1
answer_number Crossed = 2
answer_number Mismatch = 3

abbrev pub answer_spelling : Answer → List ℕ
answer_spelling a = word (answer_number a)

-- the answer of this number; none has a number over 3
abbrev pub answer_numbered : ℕ → Option Answer
answer_numbered n =
    if n == 0 then Some Accepted
    else if n == 1 then Some Invalid
    else if n == 2 then Some Crossed
    else if n == 3 then Some Mismatch
    else None

-- an identifier of a connection that is spelled as a first word
abbrev pub IsConnection : ℕ → Type 0
IsConnection id = (FIRST_ID ≤ id) × (id < 2 ^ 32)

-- what a frame's numbers and its payload's length have to be
abbrev pub IsFrame : Frame → Type 0
IsFrame (Created id) = id < 2 ^ 32
IsFrame (Closed id) = id < 2 ^ 32
IsFrame EndClosed = Unit {0}
IsFrame Probe = Unit {0}
IsFrame ProbeAck = Unit {0}
IsFrame (Data id payload) = IsConnection id × (length payload ≤ MOST_PAYLOAD_BYTES)

-- the words of a frame, and the counted bytes of its payload
abbrev pub frame_spelling : Frame → List ℕ
frame_spelling (Created id) = word 0 ++ word id
frame_spelling (Closed id) = word 1 ++ word id
frame_spelling EndClosed = word 3
frame_spelling Probe = word 4
frame_spelling ProbeAck = word 5
frame_spelling (Data id payload) = counted id payload

-- what a frame's first word begins: 2 and 6 to 1023 begin nothing
abbrev pub head_numbered : ℕ → Head
head_numbered n =
    if n == 0 then heads.Created
    else if n == 1 then heads.Closed
    else if n == 3 then heads.EndClosed
    else if n == 4 then heads.Probe
    else if n == 5 then heads.ProbeAck
    else if nat_lt n FIRST_ID then heads.Unknown
    else heads.Data n
