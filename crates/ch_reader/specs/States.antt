-- What a reader is to its callers, and what feeding and taking make of it.
use Rattle.std.specs.Prelude.{ℕ, ◌-◌, List, [], ◌++◌, length, Option, Some, None, Result, Ok, Err}
use Rattle.ch_reader.specs.declared.item.Expected.{Expected}
use Rattle.ch_reader.specs.declared.item.Expected.TheVariants as expected
use Rattle.ch_reader.specs.declared.item.Item.{Item}
use Rattle.ch_reader.specs.declared.item.ReaderError.{ReaderError}
use Rattle.ch_reader.specs.declared.item.Role.{Role}
use Rattle.ch_reader.specs.declared.item.Front.{Front}
use Rattle.ch_reader.specs.declared.item.Front.TheVariants.{Unfinished, Whole, Refused}
use Rattle.ch_reader.specs.Items.{first_expected, item_spelling}
use Rattle.ch_reader.specs.Reading.{reading}

-- Bytes since the last item, with what they are the beginning of; an item that waits; or a refusal for good.
pub data State : Type 0 where
  Waits : (next : Expected) (since : List ℕ) → State
  Holds : (item : Item) → State
  Refuses : (error : ReaderError) → State

-- a reader of which no byte was taken
abbrev pub start : Role → State
start role = Waits (first_expected role) []

-- where this stands at the front of these bytes
abbrev pub state_of : Expected → List ℕ → Front → State
state_of e bytes Unfinished = Waits e bytes
state_of e bytes (Whole item) = Holds item
state_of e bytes (Refused error) = Refuses error

-- how many bytes of a piece are taken, and what the reader is then; none is taken while an item or a refusal stands
abbrev pub fed : State → List ℕ → ℕ × State
fed (Waits e since) piece =
    let front = reading e (since ++ piece) in
    (front.1 - length since, state_of e (since ++ piece) front.0)
fed (Holds item) piece = (0, Holds item)
fed (Refuses error) piece = (0, Refuses error)

-- what is handed out, and what the reader is then
abbrev pub taken : State → Result (Option Item) ReaderError × State
taken (Waits e since) = (Ok None, Waits e since)
taken (Holds item) = (Ok (Some item), Waits expected.Frame [])
taken (Refuses error) = (Err error, Refuses error)

-- how many bytes of the stream a reader holds
abbrev pub held : State → ℕ
held (Waits e since) = length since
held (Holds item) = length (item_spelling item)
held (Refuses error) = 0
