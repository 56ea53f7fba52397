-- What is a stream of items, and what is malformed: two relations on whole texts.
use Rattle.std.specs.Prelude.{◌≡◌, ℕ, ◌+◌, ◌<◌, ◌≤◌, ◌⊎◌, List, ◌++◌, length, take, drop, IsErr}
use Rattle.ch_base.specs.Addresses.{read_address}
use Rattle.ch_wire.specs.Words.{word_value}
use Rattle.ch_wire.specs.Spelling.{head_numbered}
use Rattle.ch_wire.specs.declared.TheConstants.{FIRST_ID, MOST_ADDRESS_BYTES, MOST_PAYLOAD_BYTES}
use Rattle.ch_wire.specs.declared.frame.Head.{Head}
use Rattle.ch_wire.specs.declared.frame.Head.TheVariants as heads
use Rattle.ch_reader.specs.declared.item.Expected.{Expected}
use Rattle.ch_reader.specs.declared.item.Expected.TheVariants as expected
use Rattle.ch_reader.specs.declared.item.Item.{Item}
use Rattle.ch_reader.specs.declared.item.ReaderError.{ReaderError}
use Rattle.ch_reader.specs.declared.item.ReaderError.TheVariants.{UnknownControl, PayloadLong, AddressLong, BadAddress, BadAnswer}
use Rattle.ch_reader.specs.declared.item.Role.{Role}
use Rattle.ch_reader.specs.Items.{spellings, MayFollow, expected_after, first_expected}

-- the number of the first word
abbrev pub first_word : List ℕ → ℕ
first_word bytes = word_value (take 4 bytes)

-- the number of the second word
abbrev pub second_word : List ℕ → ℕ
second_word bytes = word_value (take 4 (drop 4 bytes))

-- a part of a counted item: two words that aren't whole, or a count in its range and fewer bytes than it says
abbrev pub IsPartOfCounted : ℕ → List ℕ → Type 0
IsPartOfCounted most bytes =
    (length bytes < 8) ⊎ ((8 ≤ length bytes) × (second_word bytes ≤ most) × (length bytes < 8 + second_word bytes))

-- a part of a frame with this head
abbrev pub IsPartOfFrame : Head → List ℕ → Type 0
IsPartOfFrame heads.Created bytes = length bytes < 8
IsPartOfFrame heads.Closed bytes = length bytes < 8
IsPartOfFrame (heads.Data id) bytes = IsPartOfCounted MOST_PAYLOAD_BYTES bytes
IsPartOfFrame head bytes = ⊥

-- Less than a whole item, in which nothing is refused yet. A word or a text that isn't whole may hold any bytes.
abbrev pub IsUnfinished : Expected → List ℕ → Type 0
IsUnfinished expected.Request bytes = IsPartOfCounted MOST_ADDRESS_BYTES bytes
IsUnfinished expected.Answer bytes = length bytes < 4
IsUnfinished expected.Frame bytes =
    (length bytes < 4) ⊎ ((4 ≤ length bytes) × IsPartOfFrame (head_numbered (first_word bytes)) bytes)

-- the first words that no frame has
abbrev pub IsUnknownControl : ℕ → Type 0
IsUnknownControl n = (n ≡ 2) ⊎ ((6 ≤ n) × (n < FIRST_ID))

-- A refusal, which stands at the last of these bytes: the fourth byte of a word, or the last byte of an address's text.
abbrev pub IsRefusal : Expected → ReaderError → List ℕ → Type 0
IsRefusal expected.Request AddressLong bytes = (length bytes ≡ 8) × (MOST_ADDRESS_BYTES < second_word bytes)
IsRefusal expected.Request BadAddress bytes =
    (8 ≤ length bytes) × (second_word bytes ≤ MOST_ADDRESS_BYTES) × (length bytes ≡ 8 + second_word bytes)
    × IsErr (read_address (drop 8 bytes))
IsRefusal expected.Answer BadAnswer bytes = (length bytes ≡ 4) × (3 < first_word bytes)
IsRefusal expected.Frame UnknownControl bytes = (length bytes ≡ 4) × IsUnknownControl (first_word bytes)
IsRefusal expected.Frame PayloadLong bytes =
    (length bytes ≡ 8) × (FIRST_ID ≤ first_word bytes) × (MOST_PAYLOAD_BYTES < second_word bytes)
IsRefusal e error bytes = ⊥

-- from where this is expected, the bytes are the spellings of these items and then an unfinished rest
pub record IsStreamFrom (e : Expected) (bytes : List ℕ) (items : List Item) (rest : List ℕ) : Type 0 where
  pub whole : bytes ≡ spellings items ++ rest
  pub each : MayFollow e items
  pub unfinished : IsUnfinished (expected_after e items) rest

-- from where this is expected, the bytes are the spellings of some items and then a refusal
pub record IsMalformedFrom (e : Expected) (bytes : List ℕ) (error : ReaderError) : Type 0 where
  pub items : List Item
  pub last : List ℕ
  pub whole : bytes ≡ spellings items ++ last
  pub each : MayFollow e items
  pub refused : IsRefusal (expected_after e items) error last

-- The stream of one direction: a request or an answer by the role of the end that reads it, then frames, then an unfinished rest.
abbrev pub IsStream : Role → List ℕ → List Item → List ℕ → Type 0
IsStream role bytes items rest = IsStreamFrom (first_expected role) bytes items rest

-- The bytes are malformed, with this refusal at their last byte.
abbrev pub IsMalformed : Role → List ℕ → ReaderError → Type 0
IsMalformed role bytes error = IsMalformedFrom (first_expected role) bytes error
