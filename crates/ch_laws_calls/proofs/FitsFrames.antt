-- Frames one after another, and items that are spelled.
use Rattle.std.proofs.Common.{◌≡◌, ℕ, List, [], ◌∷◌, ◌++◌, refl, sym, ap, ◌∙◌, subst}
use Rattle.std.specs.Prelude.{Option, Some, None}
use Rattle.ch_wire.specs.declared.frame.Frame.{Frame}
use Rattle.ch_reader.specs.Items.{item_spelling, spellings, MayStand, MayFollow, expected_after}
use Rattle.ch_reader.specs.Reading.{reading}
use Rattle.ch_reader.specs.declared.item.Expected.{Expected}
use Rattle.ch_reader.specs.declared.item.Expected.TheVariants as expected
use Rattle.ch_reader.specs.declared.item.Front.TheVariants.{Unfinished, Whole}
use Rattle.ch_reader.specs.declared.item.Item.{Item}
use Rattle.ch_reader.specs.declared.item.Item.TheVariants as items
use Rattle.ch_reader.proofs.Complete.{reads_item}
use Rattle.ch_reader.proofs.Streams.{items_apart}
use Rattle.ch_laws_calls.specs.Tables.{Table, frame_on, frames_on}
use Rattle.ch_laws_calls.specs.FitsFit.{frames_in}

-- ---- frames

-- the frames that follow, where those before lead to a table
abbrev pub frames_after : List Frame → Option Table → Option Table
frames_after frames None = None
frames_after frames (Some table) = frames_on frames table

pub frames_append : (xs ys : List Frame) (table : Table) → frames_on (xs ++ ys) table ≡ frames_after ys (frames_on xs table)
frames_append [] ys table = refl
frames_append (x ∷ xs) ys table = by_one (frame_on x table) (frames_append xs ys) where
  by_one : (o : Option Table) → ((next : Table) → frames_on (xs ++ ys) next ≡ frames_after ys (frames_on xs next)) → (elim o as (λ o. Option Table) [
    | None ↦ None
    | Some next ↦ frames_on (xs ++ ys) next
  ]) ≡ frames_after ys (elim o as (λ o. Option Table) [
    | None ↦ None
    | Some next ↦ frames_on xs next
  ])
  by_one None more = refl
  by_one (Some next) more = more next

-- one frame more
pub frame_last : (xs : List Frame) (frame : Frame) (start table next : Table) → frames_on xs start ≡ Some table → frame_on frame table ≡ Some next → frames_on (xs ++ frame ∷ []) start ≡ Some next
frame_last xs frame start table next e f = frames_append xs (frame ∷ []) start ∙ ap (frames_after (frame ∷ [])) e ∙ by_one (frame_on frame table) f where
  by_one : (o : Option Table) → o ≡ Some next → (elim o as (λ o. Option Table) [
    | None ↦ None
    | Some next ↦ Some next
  ]) ≡ Some next
  by_one None h = absurd cc
  by_one (Some t) h = h

pub one_frame : (frame : Frame) (table next : Table) → frame_on frame table ≡ Some next → frames_on (frame ∷ []) table ≡ Some next
one_frame frame table next f = frame_last [] frame table table next refl f

pub in_append : (xs ys : List Item) → frames_in (xs ++ ys) ≡ frames_in xs ++ frames_in ys
in_append [] ys = refl
in_append (items.Frame frame ∷ xs) ys = ap (λ (l : List Frame). frame ∷ l) (in_append xs ys)
in_append (items.Request request ∷ xs) ys = in_append xs ys
in_append (items.Answer answer ∷ xs) ys = in_append xs ys

-- ---- items

pub follow : (e : Expected) (xs ys : List Item) → MayFollow e xs → MayFollow (expected_after e xs) ys → MayFollow e (xs ++ ys)
follow e [] ys f g = g
follow e (x ∷ xs) ys f g = (f.0, follow expected.Frame xs ys f.1 (subst (λ (k : Expected). MayFollow k ys) (sym (all_frames xs)) g)) where
  all_frames : (l : List Item) → expected_after expected.Frame l ≡ expected.Frame
  all_frames [] = refl
  all_frames (i ∷ l) = refl

-- no item is spelled by no bytes
none_spelled : {A : Type 0} (e : Expected) (item : Item) (rest : List ℕ) → MayStand e item → item_spelling item ++ rest ≡ [] → A
none_spelled e item rest may none = unread e (ap (reading e) (sym none) ∙ reads_item e item rest may) where
  unread : {A : Type 0} {n : ℕ} (e : Expected) → reading e [] ≡ (Whole item, n) → A
  unread expected.Request h = let clash : Unfinished ≡ Whole item = ap (λ r. r.0) h in absurd cc
  unread expected.Answer h = let clash : Unfinished ≡ Whole item = ap (λ r. r.0) h in absurd cc
  unread expected.Frame h = let clash : Unfinished ≡ Whole item = ap (λ r. r.0) h in absurd cc

-- bytes are spelled by one list of items at most
pub spelled_once : (e : Expected) (xs ys : List Item) → MayFollow e xs → MayFollow e ys → spellings xs ≡ spellings ys → xs ≡ ys
spelled_once e [] [] f g h = refl
spelled_once e (x ∷ xs) [] f g h = none_spelled e x (spellings xs) f.0 h
spelled_once e [] (y ∷ ys) f g h = none_spelled e y (spellings ys) g.0 (sym h)
spelled_once e (x ∷ xs) (y ∷ ys) f g h =
    let both = items_apart e x y (spellings xs) (spellings ys) f.0 g.0 h in
    ap (λ (i : Item). i ∷ xs) both.0 ∙ ap (λ (l : List Item). y ∷ l) (spelled_once expected.Frame xs ys f.1 g.1 both.1)
