-- The items that bytes spell are determined by these, and stand in order.
use Rattle.std.proofs.Common.{◌≡◌, ℕ, List, [], ◌∷◌, ◌++◌, length, refl, sym, ap, ◌∙◌}
use Rattle.std.proofs.lemmas.List.{append_cancel_left}
use Rattle.std.specs.Prelude.{Option}
use Rattle.ch_base.specs.declared.address.Address.{Address}
use Rattle.ch_reader.specs.Items.{item_spelling, spellings, MayFollow}
use Rattle.ch_reader.specs.Reading.{reading}
use Rattle.ch_reader.specs.declared.item.Expected.{Expected}
use Rattle.ch_reader.specs.declared.item.Expected.TheVariants as expected
use Rattle.ch_reader.specs.declared.item.Front.{Front}
use Rattle.ch_reader.specs.declared.item.Front.TheVariants.{Unfinished, Whole}
use Rattle.ch_reader.specs.declared.item.Item.{Item}
use Rattle.ch_reader.proofs.Bodies.{at}
use Rattle.ch_reader.proofs.Complete.{reads_item}
use Rattle.ch_laws_reads.specs.Reads.{AreRead}
use Rattle.ch_laws_writes.specs.Dues.{Due, IsDue}
use Rattle.ch_laws_bytes.specs.Streams.{Reader, MayAsk, Spelled}
use Rattle.ch_laws_bytes.proofs.Fronts.{read_as_spelled}
use Rattle.ch_laws_bytes.proofs.Steps.{comes_last}

-- ---- which items bytes spell

-- of no bytes nothing is read
nothing_read : {A : Type 0} (e : Expected) (item : Item) → (reading e []).0 ≡ Whole item → A
nothing_read expected.Request item w = let clash : Unfinished ≡ Whole item = w in absurd cc
nothing_read expected.Answer item w = let clash : Unfinished ≡ Whole item = w in absurd cc
nothing_read expected.Frame item w = let clash : Unfinished ≡ Whole item = w in absurd cc

whole_is : (i j : Item) → Whole i ≡ Whole j → i ≡ j
whole_is i j e = cc

front_is : (e : Expected) (item : Item) (more : List Item) → MayFollow e (item ∷ more) → reading e (spellings (item ∷ more)) ≡ at (Whole item) (length (item_spelling item))
front_is e item more each = reads_item e item (spellings more) each.0

items_are : (e : Expected) (xs ys : List Item) → MayFollow e xs → MayFollow e ys → spellings xs ≡ spellings ys → xs ≡ ys
items_are e [] [] f g h = refl
items_are e [] (y ∷ ys) f g h = nothing_read e y (ap (λ (l : List ℕ). (reading e l).0) h ∙ ap (λ (r : Front × ℕ). r.0) (front_is e y ys g))
items_are e (x ∷ xs) [] f g h = nothing_read e x (sym (ap (λ (l : List ℕ). (reading e l).0) h) ∙ ap (λ (r : Front × ℕ). r.0) (front_is e x xs f))
items_are e (x ∷ xs) (y ∷ ys) f g h =
    let first : x ≡ y = whole_is x y (ap (λ (r : Front × ℕ). r.0) (sym (front_is e x xs f) ∙ ap (reading e) h ∙ front_is e y ys g)) in
    let rest : spellings xs ≡ spellings ys = append_cancel_left (item_spelling x) (spellings xs) (spellings ys) (h ∙ ap (λ (i : Item). item_spelling i ++ spellings ys) (sym first)) in
    ap (λ (i : Item). i ∷ xs) first ∙ ap (λ (l : List Item). y ∷ l) (items_are expected.Frame xs ys f.1 g.1 rest)

-- ---- in order

pub one_stream : (reader : Reader) (unread : List ℕ) (due next : Option Due) (s : Spelled reader unread due) (t : Spelled reader unread next) → t.items ≡ s.items
one_stream reader unread due next s t = items_are reader.0 t.items s.items t.each s.each (sym t.whole ∙ s.whole)

pub read_in_order : (reader : Reader) (bytes left : List ℕ) (due after : Option Due) (read : List Item) (next : Expected) (now : List ℕ) (s : Spelled reader (bytes ++ left) due) (t : Spelled (next, now) left after) → AreRead reader.0 (reader.1 ++ bytes) read next now → s.items ≡ read ++ t.items
read_in_order reader bytes left due after read next now s t r =
    let of = (read_as_spelled reader bytes left due read next now s r).0 in
    of.split ∙ ap (λ (l : List Item). read ++ l) (items_are next of.rest t.items of.each t.each (sym of.whole ∙ t.whole))

pub written_last : (own : ℕ → Address) (reader : Reader) (unread bytes : List ℕ) (due after : Option Due) (s : Spelled reader unread due) (t : Spelled reader (unread ++ bytes) after) → IsDue own due bytes → MayAsk own due → (item : Item) × ((bytes ≡ item_spelling item) × (t.items ≡ s.items ++ item ∷ []))
written_last own reader unread bytes due after s t d m =
    let new = comes_last own reader unread bytes due s d m in
    (new.item, (new.spells, items_are reader.0 t.items new.now.items t.each new.now.each (sym t.whole ∙ new.now.whole) ∙ new.last))
