-- The whole items of bytes that spell some.
use Rattle.std.specs.Prelude.{◌≡◌, ◌<◌, ◌≤◌, ℕ, zero, suc, List, [], ◌∷◌, ◌++◌, length, drop, map}
use Rattle.std.proofs.Common.{refl, ap, ◌∙◌, arith, append_assoc, length-append}
use Rattle.ch_wire.specs.declared.frame.Frame.TheVariants as frames
use Rattle.ch_reader.specs.declared.item.Expected.{Expected}
use Rattle.ch_reader.specs.declared.item.Expected.TheVariants as expected
use Rattle.ch_reader.specs.declared.item.Front.{Front}
use Rattle.ch_reader.specs.declared.item.Front.TheVariants.{Whole}
use Rattle.ch_reader.specs.declared.item.Item.{Item}
use Rattle.ch_reader.specs.declared.item.Item.TheVariants as items
use Rattle.ch_reader.specs.Items.{item_spelling, spellings, MayFollow, expected_after}
use Rattle.ch_reader.specs.Streams.{IsUnfinished, IsStreamFrom}
use Rattle.ch_reader.proofs.Complete.{reads_item, reads_unfinished}
use Rattle.ch_race.specs.Pair as pair
use Rattle.ch_laws_race.specs.View.{kind, items_in, whole_items}

-- an item has a byte
has_byte : (item : Item) → 0 < length (item_spelling item)
has_byte (items.Request r) = omega arith
has_byte (items.Answer a) = omega arith
has_byte (items.Frame (frames.Created id)) = omega arith
has_byte (items.Frame (frames.Closed id)) = omega arith
has_byte (items.Frame (frames.Data id payload)) = omega arith
has_byte (items.Frame frames.EndClosed) = omega arith
has_byte (items.Frame frames.Probe) = omega arith
has_byte (items.Frame frames.ProbeAck) = omega arith

drop_all : {X : Type 0} (xs ys : List X) → drop (length xs) (xs ++ ys) ≡ ys
drop_all [] ys = refl
drop_all (x ∷ xs) ys = drop_all xs ys

-- what is at a front, as an item and what follows it
abbrev behind : ℕ → List ℕ → Front × ℕ → List pair.Item
behind more bytes front = elim front.0 [
  | Whole item ↦ kind item ∷ items_in more expected.Frame (drop front.1 bytes)
  | _ ↦ []
]

none_in : (fuel : ℕ) (e : Expected) (rest : List ℕ) → IsUnfinished e rest → items_in fuel e rest ≡ []
none_in zero e rest u = refl
none_in (suc more) e rest u = ap (behind more rest) (reads_unfinished e rest u)

too_few : {A : Type 0} (item : Item) (tail : List ℕ) → length (item_spelling item ++ tail) ≤ 0 → A
too_few item tail h = absurd (clash item tail h) where
  clash : (item : Item) (tail : List ℕ) → length (item_spelling item ++ tail) ≤ 0 → ⊥
  clash item tail h = omega (arith, has_byte item, length-append (item_spelling item) tail)

all_in : (fuel : ℕ) (e : Expected) (is : List Item) (rest : List ℕ) → MayFollow e is → IsUnfinished (expected_after e is) rest → length (spellings is ++ rest) ≤ fuel
    → items_in fuel e (spellings is ++ rest) ≡ map kind is
all_in fuel e [] rest each u enough = none_in fuel e rest u
all_in zero e (item ∷ is) rest each u enough = too_few item (spellings is ++ rest) (rest_first zero) where
  rest_first : (n : ℕ) → length (item_spelling item ++ (spellings is ++ rest)) ≤ 0
  rest_first n = let same = append_assoc (item_spelling item) (spellings is) rest in omega (arith, ap length same, enough)
all_in (suc more) e (item ∷ is) rest each u enough =
    ap (items_in (suc more) e) (append_assoc (item_spelling item) (spellings is) rest)
    ∙ ap (behind more (item_spelling item ++ (spellings is ++ rest))) (reads_item e item (spellings is ++ rest) each.0)
    ∙ ap (λ (z : List ℕ). kind item ∷ items_in more expected.Frame z) (drop_all (item_spelling item) (spellings is ++ rest))
    ∙ ap (λ (z : List pair.Item). kind item ∷ z) (all_in more expected.Frame is rest each.1 (later is u) (fewer enough)) where
      later : (js : List Item) → IsUnfinished expected.Frame rest → IsUnfinished (expected_after expected.Frame js) rest
      later [] u = u
      later (j ∷ js) u = u

      fewer : length ((item_spelling item ++ spellings is) ++ rest) ≤ suc more → length (spellings is ++ rest) ≤ more
      fewer h = omega (arith, h, has_byte item, ap length (append_assoc (item_spelling item) (spellings is) rest), length-append (item_spelling item) (spellings is ++ rest))

-- the whole items of a stream are its items
pub stream_items : (e : Expected) (bytes : List ℕ) (is : List Item) (rest : List ℕ) → IsStreamFrom e bytes is rest → whole_items e bytes ≡ map kind is
stream_items e bytes is rest s = ap (whole_items e) s.whole ∙ all_in (length (spellings is ++ rest)) e is rest s.each s.unfinished (omega arith)
