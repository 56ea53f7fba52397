-- How the reader of a socket goes along with the bytes that are kept.
use Rattle.std.specs.Prelude.{◌≡◌, ℕ, ◌-◌, ◌≤◌, Bool, true, false, List, [], ◌++◌, length, drop, Option, Some, None, Result, Ok, Err}
use Rattle.ch_reader.specs.declared.item.Expected.{Expected}
use Rattle.ch_reader.specs.declared.item.Expected.TheVariants as expected
use Rattle.ch_reader.specs.declared.item.Item.{Item}
use Rattle.ch_reader.specs.declared.item.ReaderError.{ReaderError}
use Rattle.ch_reader.specs.declared.item.Front.{Front}
use Rattle.ch_reader.specs.declared.item.Front.TheVariants.{Unfinished, Whole, Refused}
use Rattle.ch_reader.specs.Reading.{reading}
use Rattle.ch_reader.specs.Runs.{IsBytes}
use Rattle.ch_reader.specs.States.{State, Waits, Refuses}
use Rattle.ch_endpoint.specs.Unread.{Unread}

-- what a reader hands out, as what stands at the front
abbrev pub handed : Result (Option Item) ReaderError → Front
handed (Ok None) = Unfinished
handed (Ok (Some item)) = Whole item
handed (Err error) = Refused error

-- what a reader is that has read these bytes and handed out what stands at their front
abbrev pub read_to : Expected → List ℕ → Front → State
read_to e since Unfinished = Waits e since
read_to e since (Whole item) = Waits expected.Frame []
read_to e since (Refused error) = Refuses error

-- A reader is there with the first byte, and has read to what stands at the front.
abbrev pub HasRead : Expected → List ℕ → Front → Option State → Type 0
HasRead e since front None = since ≡ []
HasRead e since front (Some reader) = reader ≡ read_to e since front

-- a reader that has read bytes which are unfinished, or that isn't there yet, reads a piece more
pub record ReadsOn (e : Expected) (since piece : List ℕ) (reader : State) (front : Front) (count : ℕ) : Type 0 where
  pub front_is : front ≡ (reading e (since ++ piece)).0
  pub count_is : count ≡ (reading e (since ++ piece)).1 - length since
  pub reader_is : reader ≡ read_to e (since ++ piece) front

-- What stands at the front of the bytes that aren't read yet is known, and the reader has read to it.
pub record KnowsFront (e : Expected) (bytes : List ℕ) (read : ℕ) (reader : Option State) (front : Front) (count : ℕ) : Type 0 where
  pub fits : IsBytes bytes
  pub within : read ≤ length bytes
  pub front_is : front ≡ (reading e (drop read bytes)).0
  pub count_is : count ≡ (reading e (drop read bytes)).1
  pub reader_is : HasRead e (drop read bytes) front reader

abbrev pub is_whole : Front → Bool
is_whole (Whole item) = true
is_whole front = false

-- what is unread once the item at the front is handed out, where one stands there
abbrev pub past : Front → ℕ → Unread → Unread
past (Whole item) count unread = record { expected = expected.Frame; since = drop count unread.since }
past front count unread = unread
