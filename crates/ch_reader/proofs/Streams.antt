-- A text is one stream at most, or malformed in one way, and never both.
use Rattle.std.proofs.Common.{◌≡◌, ℕ, Option, Some, None, List, [], ◌∷◌, ◌++◌, refl, sym, ap, subst, ◌∙◌, append_assoc}
use Rattle.std.proofs.lemmas.List.{append-nil, append_cancel_left}
use Rattle.ch_reader.specs.declared.item.Expected.{Expected}
use Rattle.ch_reader.specs.declared.item.Expected.TheVariants as expected
use Rattle.ch_reader.specs.declared.item.Item.{Item}
use Rattle.ch_reader.specs.declared.item.ReaderError.{ReaderError}
use Rattle.ch_reader.specs.declared.item.Role.{Role}
use Rattle.ch_reader.specs.declared.item.Front.{Front}
use Rattle.ch_reader.specs.declared.item.Front.TheVariants.{Unfinished, Whole, Refused}
use Rattle.ch_reader.specs.Items.{item_spelling, spellings, MayStand, MayFollow, expected_after, first_expected}
use Rattle.ch_reader.specs.Streams.{IsStreamFrom, IsMalformedFrom}
use Rattle.ch_reader.specs.Reading.{reading}
use Rattle.ch_reader.specs.Decoding.{Decodes}
use Rattle.ch_reader.proofs.Complete.{reads_item, reads_unfinished, reads_refusal}

-- after a frame a frame is expected
pub after_frame : (items : List Item) → expected_after expected.Frame items ≡ expected.Frame
after_frame [] = refl
after_frame (item ∷ items) = refl

-- no item stands here
abbrev NoItem : Front → Type 0
NoItem Unfinished = Unit {0}
NoItem (Whole item) = ⊥
NoItem (Refused error) = Unit {0}

-- The bytes are the spellings of items, and then what has this, which is no item, at its front.
record Reads (e : Expected) (bytes : List ℕ) (items : List Item) (tail : List ℕ) (front : Front) : Type 0 where
  whole : bytes ≡ spellings items ++ tail
  each : MayFollow e items
  found : (reading (expected_after e items) tail).0 ≡ front
  ended : NoItem front

first_of : (e : Expected) (bytes tail : List ℕ) (item : Item) (items : List Item) (front : Front) → Reads e bytes (item ∷ items) tail front → (reading e bytes).0 ≡ Whole item
first_of e bytes tail item items front r =
    ap (λ (xs : List ℕ). (reading e xs).0) (r.whole ∙ append_assoc (item_spelling item) (spellings items) tail) ∙ ap (λ (p : Front × ℕ). p.0) (reads_item e item (spellings items ++ tail) r.each.0)

rest_of : (e : Expected) (bytes tail : List ℕ) (item : Item) (items : List Item) (front : Front) → Reads e bytes (item ∷ items) tail front → Reads expected.Frame (spellings items ++ tail) items tail front
rest_of e bytes tail item items front r = record {
  whole = refl;
  each = r.each.1;
  found = ap (λ (k : Expected). (reading k tail).0) (after_frame items) ∙ r.found;
  ended = r.ended;
}

whole_is : (i j : Item) → Whole i ≡ Whole j → i ≡ j
whole_is i j e = cc

abbrev Agree : List Item → List Item → List ℕ → List ℕ → Front → Front → Type 0
Agree items others tail left f g = (items ≡ others) × (tail ≡ left) × (f ≡ g)

-- two readings of the same bytes are one
agree : (e : Expected) (bytes : List ℕ) (items others : List Item) (tail left : List ℕ) (f g : Front) → Reads e bytes items tail f → Reads e bytes others left g → Agree items others tail left f g
agree e bytes [] [] tail left f g p q =
    let same : tail ≡ left = sym p.whole ∙ q.whole in
    (refl, same, sym p.found ∙ ap (λ (xs : List ℕ). (reading e xs).0) same ∙ q.found)
agree e bytes [] (o ∷ os) tail left f g p q =
    absurd (subst NoItem (sym p.found ∙ ap (λ (xs : List ℕ). (reading e xs).0) (sym p.whole) ∙ first_of e bytes left o os g q) p.ended)
agree e bytes (i ∷ is) [] tail left f g p q =
    absurd (subst NoItem (sym q.found ∙ ap (λ (xs : List ℕ). (reading e xs).0) (sym q.whole) ∙ first_of e bytes tail i is f p) q.ended)
agree e bytes (i ∷ is) (o ∷ os) tail left f g p q =
    let same : i ≡ o = whole_is i o (sym (first_of e bytes tail i is f p) ∙ first_of e bytes left o os g q) in
    let rests : spellings is ++ tail ≡ spellings os ++ left = append_cancel_left (item_spelling o) (spellings is ++ tail) (spellings os ++ left)
    (ap (λ (x : Item). item_spelling x ++ (spellings is ++ tail)) (sym same) ∙ sym (p.whole ∙ append_assoc (item_spelling i) (spellings is) tail) ∙ (q.whole ∙ append_assoc (item_spelling o) (spellings os) left)) in
    let second = subst (λ (xs : List ℕ). Reads expected.Frame xs os left g) (sym rests) (rest_of e bytes left o os g q) in
    let more = agree expected.Frame (spellings is ++ tail) is os tail left f g (rest_of e bytes tail i is f p) second in
    (ap (λ (x : Item). x ∷ is) same ∙ ap (λ (xs : List Item). o ∷ xs) more.0, more.1, more.2)

stream_reads : (e : Expected) (bytes : List ℕ) (items : List Item) (rest : List ℕ) → IsStreamFrom e bytes items rest → Reads e bytes items rest Unfinished
stream_reads e bytes items rest s = record {
  whole = s.whole;
  each = s.each;
  found = ap (λ (p : Front × ℕ). p.0) (reads_unfinished (expected_after e items) rest s.unfinished);
  ended = tt;
}

malformed_reads : (e : Expected) (bytes front more : List ℕ) (error : ReaderError) (m : IsMalformedFrom e front error) → bytes ≡ front ++ more → Reads e bytes m.items (m.last ++ more) (Refused error)
malformed_reads e bytes front more error m w = record {
  whole = w ∙ ap (λ (xs : List ℕ). xs ++ more) m.whole ∙ append_assoc (spellings m.items) m.last more;
  each = m.each;
  found = ap (λ (p : Front × ℕ). p.0) (reads_refusal (expected_after e m.items) error m.last more m.refused);
  ended = tt;
}

refused_is : (x y : ReaderError) → Refused x ≡ Refused y → x ≡ y
refused_is x y e = cc

unfinished_is : (x : ReaderError) → Unfinished ≡ Refused x → ⊥
unfinished_is x e = cc

-- a text is one stream at most
pub stream_is_one : (e : Expected) (bytes : List ℕ) (items others : List Item) (rest left : List ℕ) → IsStreamFrom e bytes items rest → IsStreamFrom e bytes others left → (items ≡ others) × (rest ≡ left)
stream_is_one e bytes items others rest left p q =
    let a = agree e bytes items others rest left Unfinished Unfinished (stream_reads e bytes items rest p) (stream_reads e bytes others left q) in
    (a.0, a.1)

-- a text is malformed in one way at most
pub refusal_is_one : (e : Expected) (bytes : List ℕ) (error other : ReaderError) → IsMalformedFrom e bytes error → IsMalformedFrom e bytes other → error ≡ other
refusal_is_one e bytes error other p q =
    refused_is error other (agree e bytes p.items q.items (p.last ++ []) (q.last ++ []) (Refused error) (Refused other)
    (malformed_reads e bytes bytes [] error p (sym (append-nil bytes))) (malformed_reads e bytes bytes [] other q (sym (append-nil bytes)))).2

-- a text is never both
pub never_both : (e : Expected) (bytes : List ℕ) (items : List Item) (rest : List ℕ) (error : ReaderError) → IsStreamFrom e bytes items rest → IsMalformedFrom e bytes error → ⊥
never_both e bytes items rest error p q =
    unfinished_is error (agree e bytes items q.items rest (q.last ++ []) Unfinished (Refused error) (stream_reads e bytes items rest p) (malformed_reads e bytes bytes [] error q (sym (append-nil bytes)))).2

-- what bytes decode to is one
pub decodes_once : (role : Role) (bytes : List ℕ) (items others : List Item) (error other : Option ReaderError) → Decodes role bytes items error → Decodes role bytes others other → (items ≡ others) × (error ≡ other)
decodes_once role bytes items others None None p q =
    ((stream_is_one (first_expected role) bytes items others p.0 q.0 p.1 q.1).0, refl)
decodes_once role bytes items others None (Some y) p q =
    absurd (unfinished_is y (agree (first_expected role) bytes items q.3.items p.0 (q.3.last ++ q.1) Unfinished (Refused y) (stream_reads (first_expected role) bytes items p.0 p.1) (malformed_reads (first_expected role) bytes q.0 q.1 y q.3 q.2)).2)
decodes_once role bytes items others (Some x) None p q =
    absurd (unfinished_is x (agree (first_expected role) bytes others p.3.items q.0 (p.3.last ++ p.1) Unfinished (Refused x) (stream_reads (first_expected role) bytes others q.0 q.1) (malformed_reads (first_expected role) bytes p.0 p.1 x p.3 p.2)).2)
decodes_once role bytes items others (Some x) (Some y) p q =
    let a = agree (first_expected role) bytes p.3.items q.3.items (p.3.last ++ p.1) (q.3.last ++ q.1) (Refused x) (Refused y) (malformed_reads (first_expected role) bytes p.0 p.1 x p.3 p.2) (malformed_reads (first_expected role) bytes q.0 q.1 y q.3 q.2) in
    (sym p.4 ∙ a.0 ∙ q.4, ap Some (refused_is x y a.2))

-- no item's spelling begins another's that may stand there
pub items_apart : (e : Expected) (i j : Item) (x y : List ℕ) → MayStand e i → MayStand e j → item_spelling i ++ x ≡ item_spelling j ++ y → (i ≡ j) × (x ≡ y)
items_apart e i j x y p q h =
    let same : i ≡ j = whole_is i j (ap (λ (r : Front × ℕ). r.0) (sym (reads_item e i x p) ∙ ap (reading e) h ∙ reads_item e j y q)) in
    (same, append_cancel_left (item_spelling j) x y (ap (λ (k : Item). item_spelling k ++ x) (sym same) ∙ h))
