-- The ids of a link's connections, as one more is created and as one is closed.
use Rattle.std.proofs.Common.{◌≡◌, ◌<◌, ℕ, zero, suc, ◌+◌, nat_lt, Bool, true, false, cond, ◌==◌, List, [], ◌∷◌, ◌++◌, length, refl, sym, ap, ◌∙◌, arith}
use Rattle.std.specs.List.{position_or_len}
use Rattle.std.specs.Prelude.{not, position, option_map, slice_get, Option, Some, None}
use Rattle.std.proofs.lemmas.Bool.{and_parts}
use Rattle.std.proofs.lemmas.Bool.Decides.{nat_tests}
use Rattle.ch_light.specs.declared.TheConstants.{FIRST_ID}
use Rattle.ch_light.specs.declared.Connection.{Connection}
use Rattle.ch_light.specs.Ids.{opened, is_open_as, place_of, id_of}
use Rattle.ch_laws_log.proofs.Stored.{number_is, number_same}
use Rattle.ch_laws_messages.proofs.GotLists.{some_is}

-- ---- where something stands

abbrev next_in : Bool → Option ℕ → Option ℕ
next_in b o = cond b (Some 0) (option_map suc o)

pub position_cons : {A : Type 0} (test : A → Bool) (x : A) (xs : List A) → position test (x ∷ xs) ≡ next_in (test x) (position test xs)
position_cons test x xs = by_test (test x) where
  less : (n m : ℕ) → nat_lt (1 + n) (suc m) ≡ nat_lt n m
  less n m = grind (arith, nat_tests)

  by_less : (b : Bool) (n : ℕ) → cond b (Some (1 + n)) None ≡ option_map suc (cond b (Some n) None)
  by_less true n = let one : 1 + n ≡ suc n = omega arith in ap (λ (k : ℕ). Some k) one
  by_less false n = refl

  first : (m : ℕ) → nat_lt 0 (suc m) ≡ true
  first m = grind (arith, nat_tests)

  by_test : (b : Bool) → cond (nat_lt (cond (not b) (1 + position_or_len test xs) 0) (suc (length xs))) (Some (cond (not b) (1 + position_or_len test xs) 0)) None ≡ next_in b (position test xs)
  by_test true = ap (λ c. cond c (Some 0) None) (first (length xs))
  by_test false = ap (λ c. cond c (Some (1 + position_or_len test xs)) None) (less (position_or_len test xs) (length xs)) ∙ by_less (nat_lt (position_or_len test xs) (length xs)) (position_or_len test xs)

pub position_before : {A : Type 0} (test : A → Bool) (xs : List A) (x : A) → test x ≡ false → position test (xs ++ x ∷ []) ≡ position test xs
position_before test [] x e = position_cons test x [] ∙ ap (λ b. next_in b None) e
position_before test (y ∷ xs) x e = position_cons test y (xs ++ x ∷ []) ∙ ap (λ o. next_in (test y) o) (position_before test xs x e) ∙ sym (position_cons test y xs)

none_later : (o : Option ℕ) → option_map suc o ≡ None → o ≡ None
none_later None e = refl
none_later (Some k) e = absurd cc

pub position_last : {A : Type 0} (test : A → Bool) (xs : List A) (x : A) → position test xs ≡ None → test x ≡ true → position test (xs ++ x ∷ []) ≡ Some (length xs)
position_last test [] x none e = position_cons test x [] ∙ ap (λ b. next_in b None) e
position_last test (y ∷ xs) x none e = position_cons test y (xs ++ x ∷ []) ∙ by_test (test y) (sym (position_cons test y xs) ∙ none) (λ n. position_last test xs x n e) where
  by_test : (b : Bool) → next_in b (position test xs) ≡ None → (position test xs ≡ None → position test (xs ++ x ∷ []) ≡ Some (length xs)) → next_in b (position test (xs ++ x ∷ [])) ≡ Some (suc (length xs))
  by_test true none more = absurd cc
  by_test false none more = ap (option_map suc) (more (none_later (position test xs) none))

-- what is first found to pass stands there, and passes
pub position_is : {A : Type 0} (test : A → Bool) (xs : List A) (k : ℕ) → position test xs ≡ Some k → (x : A) × (slice_get xs k ≡ Some x) × (test x ≡ true)
position_is {A = A} test [] k e = let none : position test [] ≡ None = refl in let never : None ≡ Some k = sym none ∙ e in absurd cc
position_is {A = A} test (y ∷ xs) k e = by_test (test y) refl (sym (position_cons test y xs) ∙ e) (position_is test xs) where
  by_rest : (o : Option ℕ) → position test xs ≡ o → option_map suc o ≡ Some k → ((j : ℕ) → position test xs ≡ Some j → (x : A) × (slice_get xs j ≡ Some x) × (test x ≡ true)) → (x : A) × (slice_get (y ∷ xs) k ≡ Some x) × (test x ≡ true)
  by_rest None p e more = absurd cc
  by_rest (Some j) p e more =
      let it = more j p in
      let is : suc j ≡ k = cc in
      (it.0, ap (slice_get (y ∷ xs)) (sym is) ∙ it.1, it.2)

  by_test : (b : Bool) → test y ≡ b → next_in b (position test xs) ≡ Some k → ((j : ℕ) → position test xs ≡ Some j → (x : A) × (slice_get xs j ≡ Some x) × (test x ≡ true)) → (x : A) × (slice_get (y ∷ xs) k ≡ Some x) × (test x ≡ true)
  by_test true h e more = let is : 0 ≡ k = cc in (y, ap (slice_get (y ∷ xs)) (sym is), h)
  by_test false h e more = by_rest (position test xs) refl e more

pub got_within : {A : Type 0} (xs : List A) (k : ℕ) (x : A) → slice_get xs k ≡ Some x → k < length xs
got_within [] k x e = absurd cc
got_within (y ∷ xs) zero x e = omega arith
got_within (y ∷ xs) (suc k) x e = let h = got_within xs k x e in omega arith

-- ---- ids

-- the place of an id, and the connection there
pub record Given (table : List Connection) (conn id : ℕ) : Type 0 where
  pub place : ℕ
  pub is : id ≡ FIRST_ID + place
  pub one : Connection
  pub at : slice_get table place ≡ Some one
  pub opens : one.is_open ≡ true
  pub number : one.number ≡ conn

pub given : (table : List Connection) (conn id : ℕ) → id_of table conn ≡ Some id → Given table conn id
unfolding id_of
given table conn id e = by_place (place_of table conn) refl e where
  by_place : (o : Option ℕ) → place_of table conn ≡ o → option_map (λ place. FIRST_ID + place) o ≡ Some id → Given table conn id
  by_place None p e = absurd cc
  by_place (Some k) p e =
      let it = position_is (is_open_as conn) table k p in
      let parts = and_parts it.0.is_open (it.0.number == conn) it.2 in
      record { place = k; is = sym (some_is (FIRST_ID + k) id e); one = it.0; at = it.1; opens = parts.0; number = number_is it.0.number conn parts.1 }

pub id_within : (table : List Connection) (conn id : ℕ) → id_of table conn ≡ Some id → id < FIRST_ID + length table
id_within table conn id e =
    let g = given table conn id e in
    let less = got_within table g.place g.one g.at in
    let is = g.is in
    omega arith

-- two connections under one id are one
pub one_id : (table : List Connection) (conn other id : ℕ) → id_of table conn ≡ Some id → id_of table other ≡ Some id → conn ≡ other
one_id table conn other id e f =
    let g = given table conn id e in
    let h = given table other id f in
    let one = g.is in
    let two = h.is in
    let same : g.place ≡ h.place = omega arith in
    sym g.number ∙ ap (λ (c : Connection). c.number) (some_is g.one h.one (sym g.at ∙ ap (slice_get table) same ∙ h.at)) ∙ h.number

pub pushed_id : (table : List Connection) (conn other : ℕ) → (conn ≡ other → ⊥) → id_of (table ++ opened conn ∷ []) other ≡ id_of table other
unfolding id_of
pushed_id table conn other differ = ap (option_map (λ place. FIRST_ID + place)) (position_before (is_open_as other) table (opened conn) (by_test (conn == other) refl)) where
  by_test : (b : Bool) → (conn == other) ≡ b → (conn == other) ≡ false
  by_test true e = absurd (differ (number_is conn other e))
  by_test false e = e

pub last_given : (table : List Connection) (conn : ℕ) → id_of table conn ≡ None → id_of (table ++ opened conn ∷ []) conn ≡ Some (FIRST_ID + length table)
unfolding id_of
last_given table conn free = ap (option_map (λ place. FIRST_ID + place)) (position_last (is_open_as conn) table (opened conn) (none_of (place_of table conn) free) (number_same conn)) where
  none_of : (o : Option ℕ) → option_map (λ place. FIRST_ID + place) o ≡ None → o ≡ None
  none_of None e = refl
  none_of (Some k) e = absurd cc
