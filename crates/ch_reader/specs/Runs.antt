-- Any list of feeds and takes, and what it comes to.
use Rattle.std.specs.Prelude.{◌≡◌, ℕ, ◌<◌, List, [], ◌∷◌, ◌++◌, take, Option, Some, Result, Ok, slice_index}
use Rattle.ch_reader.specs.declared.item.Item.{Item}
use Rattle.ch_reader.specs.declared.item.ReaderError.{ReaderError}
use Rattle.ch_reader.specs.declared.item.Role.{Role}
use Rattle.ch_reader.specs.Items.{first_expected, expected_after}
use Rattle.ch_reader.specs.Streams.{IsStream, IsMalformed}
use Rattle.ch_reader.specs.States.{State, Waits, Holds, Refuses, start, fed, taken}

-- a call of a reader
pub data Call : Type 0 where
  Feed : (piece : List ℕ) → Call
  Take : Call

-- the bytes taken and the items handed out since the start, and what the reader is
pub record Past : Type 0 where
  pub bytes : List ℕ
  pub items : List Item
  pub state : State

-- nothing has happened
abbrev pub beginning : Role → Past
beginning role = record { bytes = []; items = []; state = start role }

-- the items after one take
abbrev pub with_taken : List Item → Result (Option Item) ReaderError → List Item
with_taken items (Ok (Some item)) = items ++ item ∷ []
with_taken items answer = items

abbrev pub after : Past → Call → Past
after p (Feed piece) =
    let f = fed p.state piece in
    record { bytes = p.bytes ++ take f.0 piece; items = p.items; state = f.1 }
after p Take =
    let t = taken p.state in
    record { bytes = p.bytes; items = with_taken p.items t.0; state = t.1 }

abbrev pub run : Past → List Call → Past
run p [] = p
run p (call ∷ calls) = run (after p call) calls

-- each of these numbers is a byte
abbrev pub IsBytes : List ℕ → Type 0
IsBytes bytes = (i : ℕ) → slice_index bytes i < 256

-- what is fed is bytes
abbrev pub FeedsBytes : Call → Type 0
FeedsBytes (Feed piece) = IsBytes piece
FeedsBytes Take = Unit {0}

-- what the bytes taken are, by what the reader is
abbrev pub Accounts : Role → List ℕ → List Item → State → Type 0
Accounts role bytes items (Waits e since) = (e ≡ expected_after (first_expected role) items) × IsStream role bytes items since
Accounts role bytes items (Holds item) = IsStream role bytes (items ++ item ∷ []) []
Accounts role bytes items (Refuses error) = (malformed : IsMalformed role bytes error) × (malformed.items ≡ items)
