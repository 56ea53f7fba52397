-- What a reader keeps of its parts, and how words and body go on.
use Rattle.std.specs.Prelude.{◌≡◌, ℕ, ◌+◌, ◌<◌, ◌≤◌, List, ◌++◌, length, take}
use Rattle.ch_reader.specs.declared.item.Expected.{Expected}
use Rattle.ch_reader.specs.declared.item.Front.{Front}
use Rattle.ch_reader.specs.declared.item.Front.TheVariants.{Unfinished, Whole, Refused}
use Rattle.ch_reader.specs.declared.glance.Glance.{Glance}
use Rattle.ch_reader.specs.declared.glance.Glance.TheVariants.{Settled, Body}
use Rattle.ch_reader.specs.Items.{item_spelling}
use Rattle.ch_reader.specs.Reading.{header_size, glance_at, reading, rest_reading}

-- The words go on by the first so many bytes of a piece, and are then the words at the front of all.
pub record Completes (e : Expected) (words piece now : List ℕ) (count : ℕ) : Type 0 where
  pub within : count ≤ length piece
  pub bytes : now ≡ words ++ take count piece
  pub front : now ≡ take (header_size e (words ++ piece)) (words ++ piece)

-- the body so far isn't longer than the words say
abbrev pub HasRoom : Glance → List ℕ → Type 0
HasRoom (Settled front) body = Unit {0}
HasRoom (Body opened count) body = length body ≤ count

-- What stands at the front after so many bytes of a rest, and the body then. Where no bytes follow the words nothing changes.
abbrev pub Continues : Glance → List ℕ → List ℕ → Front → ℕ → List ℕ → Type 0
Continues (Settled settled) body rest front count now = (front ≡ settled) × (count ≡ 0) × (now ≡ body)
Continues (Body opened whole) body rest front count now =
    ((front, length body + count) ≡ rest_reading (Body opened whole) (body ++ rest)) × (front ≡ Unfinished → now ≡ body ++ rest)

-- The words are those at the front of all bytes since the last item, and these are unfinished.
pub record IsUnfinishedSplit (e : Expected) (words body : List ℕ) : Type 0 where
  pub front : words ≡ take (header_size e (words ++ body)) (words ++ body)
  pub reads : reading e (words ++ body) ≡ (Unfinished, length (words ++ body))

-- what holds of a reader's parts, by what stands at the front
abbrev pub Keeps : Expected → List ℕ → List ℕ → Front → Type 0
Keeps e words body Unfinished = IsUnfinishedSplit e words body
Keeps e words body (Whole item) = length (item_spelling item) ≤ 65544
Keeps e words body (Refused error) = Unit {0}

-- So many bytes of a body are to come: none, or what the words' count says beyond the body so far.
abbrev pub IsMissing : Glance → List ℕ → ℕ → Type 0
IsMissing (Settled front) body missing = missing ≡ 0
IsMissing (Body opened count) body missing = 0 < missing → length body + missing ≡ count

abbrev pub KeepsMissing : Expected → List ℕ → List ℕ → ℕ → Type 0
KeepsMissing e words body missing = 0 < missing → IsMissing (glance_at e words) body missing
