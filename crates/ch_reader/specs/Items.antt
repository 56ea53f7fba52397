-- The items of a stream, their spellings, and which may stand where.
use Rattle.std.specs.Prelude.{◌≡◌, ℕ, List, [], ◌∷◌}
use Rattle.std.specs.List.{flat_map}
use Rattle.ch_wire.specs.Spelling.{IsRequest, IsFrame, request_spelling, answer_spelling, frame_spelling}
use Rattle.ch_reader.specs.declared.item.Expected.{Expected}
use Rattle.ch_reader.specs.declared.item.Expected.TheVariants as expected
use Rattle.ch_reader.specs.declared.item.Item.{Item}
use Rattle.ch_reader.specs.declared.item.Item.TheVariants as items
use Rattle.ch_reader.specs.declared.item.Role.{Role}
use Rattle.ch_reader.specs.declared.item.Role.TheVariants.{Opener, Target}

-- the one spelling of an item
abbrev pub item_spelling : Item → List ℕ
item_spelling (items.Request r) = request_spelling r
item_spelling (items.Answer a) = answer_spelling a
item_spelling (items.Frame f) = frame_spelling f

-- these bytes spell the item
abbrev pub Spells : Item → List ℕ → Type 0
Spells item bytes = bytes ≡ item_spelling item

-- the spellings of items, one after the other
abbrev pub spellings : List Item → List ℕ
spellings items = flat_map item_spelling items

-- an item of this kind, with numbers and lengths in their ranges
abbrev pub MayStand : Expected → Item → Type 0
MayStand expected.Request (items.Request r) = IsRequest r
MayStand expected.Answer (items.Answer a) = Unit {0}
MayStand expected.Frame (items.Frame f) = IsFrame f
MayStand e item = ⊥

-- A target's end reads a request first, an opener's end an answer.
abbrev pub first_expected : Role → Expected
first_expected Opener = expected.Answer
first_expected Target = expected.Request

-- what is expected after these items: a frame, once one item has come
abbrev pub expected_after : Expected → List Item → Expected
expected_after e [] = e
expected_after e (item ∷ items) = expected.Frame

-- the first item is of the kind expected, and each later one is a frame
abbrev pub MayFollow : Expected → List Item → Type 0
MayFollow e [] = Unit {0}
MayFollow e (item ∷ items) = MayStand e item × MayFollow expected.Frame items
