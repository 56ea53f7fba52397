-- Sockets that are apart by a test.
use Rattle.std.specs.Prelude.{◌≡◌, ℕ, zero, suc, Bool, true, false, not, ◌&&◌, ◌||◌, ◌==◌, List, [], ◌∷◌, slice_get, Option, Some, None}
use Rattle.std.proofs.Common.{refl, ap, ◌∙◌}
use Rattle.std.proofs.lemmas.Bool.{eqb-true, and_parts}
use Rattle.ch_model.specs.declared.name.End.{End}
use Rattle.ch_model.specs.declared.name.End.TheVariants.{O, T}
use Rattle.ch_model.specs.Same.{same_socket}
use Rattle.ch_model.specs.WorldState.{WorldEnd, WorldSocket}
use Rattle.ch_model.specs.WorldSockets.{end_of, same_number, is_end_of}
use Rattle.ch_laws_race.specs.Sound.{AreApart}
use Rattle.ch_laws_race.specs.Rows.{meets_by, meets, alike, none_alike, all_apart}
use Rattle.ch_laws_race.proofs.Keys.{equal_bytes, equal_numbers}
use Rattle.ch_laws_race.proofs.Sockets.{given, none}
use Rattle.std.specs.Str.{bytes_eq}
use Rattle.std.proofs.lemmas.Slice.Eq.{bytes_eq-Decides}

clash : {A : Type 0} → false ≡ true → A
clash q = absurd (no q) where
  no : false ≡ true → ⊥
  no q = cc

off : (b : Bool) → not b ≡ true → b ≡ true → ⊥
off true h q = clash h
off false h q = clash q

some_of : (m : Option ℕ) (n : ℕ) → same_number m n ≡ true → m ≡ Some n
some_of None n q = clash q
some_of (Some m) n q = ap (λ (z : ℕ). Some z) (eqb-true m n q)

meet : (cell number : ℕ) (e f : WorldEnd) → is_end_of cell number e ≡ true → is_end_of cell number f ≡ true → meets e f ≡ true
meet cell number e f p q =
    let a = and_parts (same_number e.cell cell) (same_number e.number number) p in
    let b = and_parts (same_number f.cell cell) (same_number f.number number) q in
    ap (λ (z : Option ℕ). meets_by z e.number f.cell f.number) (some_of e.cell cell a.0)
    ∙ ap (λ (z : Option ℕ). meets_by (Some cell) z f.cell f.number) (some_of e.number number a.1)
    ∙ ap (λ (z : Option ℕ). meets_by (Some cell) (Some number) z f.number) (some_of f.cell cell b.0)
    ∙ ap (λ (z : Option ℕ). meets_by (Some cell) (Some number) (Some cell) z) (some_of f.number number b.1)
    ∙ ap (λ b. b && (number == number)) (equal_numbers cell) ∙ equal_numbers number

or_here : (a b : Bool) → a ≡ true → (a || b) ≡ true
or_here true b h = refl
or_here false b h = clash h

or_there : (a b : Bool) → b ≡ true → (a || b) ≡ true
or_there true b h = refl
or_there false b h = h

-- two sockets of which ends meet are alike
ends_alike : (s t : WorldSocket) (e f : End) → meets (end_of e s) (end_of f t) ≡ true → alike s t ≡ true
ends_alike s t O O h = or_here (meets s.o t.o) (meets s.o t.t || (meets s.t t.o || (meets s.t t.t || same_socket s.name t.name))) h
ends_alike s t O T h = or_there (meets s.o t.o) (meets s.o t.t || (meets s.t t.o || (meets s.t t.t || same_socket s.name t.name))) (or_here (meets s.o t.t) (meets s.t t.o || (meets s.t t.t || same_socket s.name t.name)) h)
ends_alike s t T O h = or_there (meets s.o t.o) (meets s.o t.t || (meets s.t t.o || (meets s.t t.t || same_socket s.name t.name)))
    (or_there (meets s.o t.t) (meets s.t t.o || (meets s.t t.t || same_socket s.name t.name)) (or_here (meets s.t t.o) (meets s.t t.t || same_socket s.name t.name) h))
ends_alike s t T T h = or_there (meets s.o t.o) (meets s.o t.t || (meets s.t t.o || (meets s.t t.t || same_socket s.name t.name)))
    (or_there (meets s.o t.t) (meets s.t t.o || (meets s.t t.t || same_socket s.name t.name)) (or_there (meets s.t t.o) (meets s.t t.t || same_socket s.name t.name) (or_here (meets s.t t.t) (same_socket s.name t.name) h)))

names_alike : (s t : WorldSocket) → same_socket s.name t.name ≡ true → alike s t ≡ true
names_alike s t h = or_there (meets s.o t.o) (meets s.o t.t || (meets s.t t.o || (meets s.t t.t || same_socket s.name t.name)))
    (or_there (meets s.o t.t) (meets s.t t.o || (meets s.t t.t || same_socket s.name t.name)) (or_there (meets s.t t.o) (meets s.t t.t || same_socket s.name t.name) (or_there (meets s.t t.t) (same_socket s.name t.name) h)))

-- no later socket is alike
later_apart : (s : WorldSocket) (rest : List WorldSocket) → none_alike s rest ≡ true → (j : ℕ) (t : WorldSocket) → slice_get rest j ≡ Some t → alike s t ≡ true → ⊥
later_apart s [] h j t at q = none t at
later_apart s (known ∷ rest) h zero t at q = off (alike s known) (and_parts (not (alike s known)) (none_alike s rest) h).0 (ap (alike s) (given known t at) ∙ q)
later_apart s (known ∷ rest) h (suc j) t at q = later_apart s rest (and_parts (not (alike s known)) (none_alike s rest) h).1 j t at q

own_ends : (s : WorldSocket) → not (meets s.o s.t) ≡ true → (e f : End) (cell number : ℕ) → is_end_of cell number (end_of e s) ≡ true → is_end_of cell number (end_of f s) ≡ true → e ≡ f
own_ends s h O O cell number p q = refl
own_ends s h T T cell number p q = refl
own_ends s h O T cell number p q = absurd (off (meets s.o s.t) h (meet cell number s.o s.t p q))
own_ends s h T O cell number p q = absurd (off (meets s.o s.t) h (meet cell number s.o s.t q p))

turned_names : (a b : List ℕ) → bytes_eq a b ≡ true → bytes_eq b a ≡ true
turned_names a b h = ap (λ (z : List ℕ). bytes_eq b z) ((bytes_eq-Decides a b).0 h) ∙ equal_bytes b

turned_socket : (s t : WorldSocket) → same_socket s.name t.name ≡ true → same_socket t.name s.name ≡ true
turned_socket s t h =
    let front = and_parts (bytes_eq s.name.from t.name.from && bytes_eq s.name.to t.name.to) (s.name.number == t.name.number) h in
    let parts = and_parts (bytes_eq s.name.from t.name.from) (bytes_eq s.name.to t.name.to) front.0 in
    ap (λ b. (b && bytes_eq t.name.to s.name.to) && (t.name.number == s.name.number)) (turned_names s.name.from t.name.from parts.0)
    ∙ ap (λ b. b && (t.name.number == s.name.number)) (turned_names s.name.to t.name.to parts.1)
    ∙ ap (λ (z : ℕ). t.name.number == z) (eqb-true s.name.number t.name.number front.1) ∙ equal_numbers t.name.number

pub apart_by : (xs : List WorldSocket) → all_apart xs ≡ true → AreApart xs
apart_by [] h = record { named = λ i j s t p q same. none s p; numbered = λ i j s t e f cell number p q m n. none s p }
apart_by (known ∷ rest) h = with_rest (apart_by rest tests.1.1) where
  tests : (not (meets known.o known.t) ≡ true) × ((none_alike known rest ≡ true) × (all_apart rest ≡ true))
  tests = let a = and_parts (not (meets known.o known.t)) (none_alike known rest && all_apart rest) h in (a.0, and_parts (none_alike known rest) (all_apart rest) a.1)

  with_rest : AreApart rest → AreApart (known ∷ rest)
  with_rest later = record { named = names; numbered = numbers } where
    names : (i j : ℕ) (s t : WorldSocket) → slice_get (known ∷ rest) i ≡ Some s → slice_get (known ∷ rest) j ≡ Some t → same_socket s.name t.name ≡ true → i ≡ j
    names zero zero s t p q same = refl
    names zero (suc j) s t p q same = absurd (later_apart known rest tests.1.0 j t q (names_alike known t (ap (λ (z : WorldSocket). same_socket z.name t.name) (given known s p) ∙ same)))
    names (suc i) zero s t p q same = absurd (later_apart known rest tests.1.0 i s p (names_alike known s (ap (λ (z : WorldSocket). same_socket z.name s.name) (given known t q) ∙ turned_socket s t same)))
    names (suc i) (suc j) s t p q same = ap suc (later.named i j s t p q same)

    numbers : (i j : ℕ) (s t : WorldSocket) (e f : End) (cell number : ℕ) → slice_get (known ∷ rest) i ≡ Some s → slice_get (known ∷ rest) j ≡ Some t
        → is_end_of cell number (end_of e s) ≡ true → is_end_of cell number (end_of f t) ≡ true → (i ≡ j) × (e ≡ f)
    numbers zero zero s t e f cell number p q m n =
        (refl, own_ends known tests.0 e f cell number (ap (λ (z : WorldSocket). is_end_of cell number (end_of e z)) (given known s p) ∙ m) (ap (λ (z : WorldSocket). is_end_of cell number (end_of f z)) (given known t q) ∙ n))
    numbers zero (suc j) s t e f cell number p q m n =
        absurd (later_apart known rest tests.1.0 j t q (ends_alike known t e f (meet cell number (end_of e known) (end_of f t) (ap (λ (z : WorldSocket). is_end_of cell number (end_of e z)) (given known s p) ∙ m) n)))
    numbers (suc i) zero s t e f cell number p q m n =
        absurd (later_apart known rest tests.1.0 i s p (ends_alike known s f e (meet cell number (end_of f known) (end_of e s) (ap (λ (z : WorldSocket). is_end_of cell number (end_of f z)) (given known t q) ∙ n) m)))
    numbers (suc i) (suc j) s t e f cell number p q m n = let both = later.numbered i j s t e f cell number p q m n in (ap suc both.0, both.1)
