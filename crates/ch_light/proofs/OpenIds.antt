-- What each call changes of the open ids.
use Rattle.std.proofs.Common.{◌≡◌, ◌≢◌, ℕ, zero, suc, ◌+◌, ◌-◌, ◌<◌, ◌≤◌, nat_lt, nat_eq, Bool, true, false, cond, List, [], ◌∷◌, ◌++◌, length, refl, sym, ◌∙◌, ap, subst, arith, ◌&&◌, get_or, Option, Some, None, Result, Ok, Err}
use Rattle.std.proofs.lemmas.Bool.Decides.{nat_tests}
use Rattle.std.proofs.lemmas.Option.{slice_get-get_or}
use Rattle.std.proofs.lemmas.List.Quantifiers.{position-Some}
use Rattle.std.proofs.lemmas.List.Sums.{fails_before_first}
use Rattle.std.specs.Prelude.{MatchResult, OnErr, option_map}
use Rattle.std.specs.List.{position_or_len}
use Rattle.std.specs.Prelude.{slice_get, slice_set}
use Rattle.ch_light.specs.declared.TheConstants.{FIRST_ID}
use Rattle.ch_light.specs.declared.Connection.{Connection}
use Rattle.ch_light.specs.declared.error.LightError.{LightError}
use Rattle.ch_light.specs.declared.error.LightError.TheVariants.{NotOpen}
use Rattle.ch_light.specs.Ids.{opened, closed, is_open_as, place_of, give_of, close_at, close_of, created_of, open_number, conn_of, closed_by, closed_of, id_of, Fails}
use Rattle.ch_light.specs.Open.{ChangesOnly, OneEach}
use Rattle.ch_light.proofs.Lists.{push_here, push_other, set_here, set_other}

cond_else : {X : Type 0} (b : Bool) (x y z : X) → (b ≡ false → y ≡ z) → cond b x y ≡ cond b x z
cond_else true x y z h = refl
cond_else false x y z h = h refl

not_below : (i n : ℕ) → nat_lt i n ≡ false → n ≤ i
not_below i n h = grind (arith, nat_tests)

below_not : (n k : ℕ) → nat_lt (n + k) n ≡ false
below_not n k = grind (arith, nat_tests)

cond_false : {X : Type 0} (b : Bool) (x y : X) → b ≡ false → cond b x y ≡ y
cond_false true x y h = absurd (cc)
cond_false false x y h = refl

-- the id at a place
pub conn_at : (table : List Connection) (k : ℕ) → conn_of table (FIRST_ID + k) ≡ open_number (slice_get table k)
unfolding conn_of
conn_at table k =
    let minus : (FIRST_ID + k) - FIRST_ID ≡ k = omega arith in
    cond_false _ _ _ (below_not FIRST_ID k) ∙ ap (λ p. open_number (slice_get table p)) minus

-- a change at one place leaves the other ids
pub other_ids : (table new : List Connection) (place : ℕ) → ((k : ℕ) → k ≢ place → slice_get new k ≡ slice_get table k) → (i : ℕ) → i ≢ FIRST_ID + place → conn_of new i ≡ conn_of table i
unfolding conn_of
other_ids table new place h i away =
    cond_else _ _ _ _ (λ e. ap open_number (h (i - FIRST_ID) (λ same. let at : FIRST_ID ≤ i = not_below _ _ e in away (omega arith))))

pub pushed : (table : List Connection) (number : ℕ) → ChangesOnly table (table ++ opened number ∷ []) (FIRST_ID + length table) (Ok number)
pushed table number = record {
  here = conn_at _ (length table) ∙ ap open_number (push_here table (opened number));
  others = other_ids table _ (length table) (push_other table (opened number));
}

pub shut : (table : List Connection) (place number : ℕ) → place < length table → ChangesOnly table (slice_set table place (closed number)) (FIRST_ID + place) (Err NotOpen)
shut table place number h = record {
  here = conn_at _ place ∙ ap open_number (set_here table place (closed number) h);
  others = other_ids table _ place (set_other table place (closed number));
}

else_ok : {E X : Type 0} (b : Bool) (f : E) (x y : X) → cond b (Err f) (Ok x) ≡ Ok y → x ≡ y
else_ok true f x y e = absurd (cc)
else_ok false f x y e = cc

then_ok : {E X : Type 0} (b c : Bool) (f g : E) (x y : X) → cond b (Err f) (cond c (Ok x) (Err g)) ≡ Ok y → (c ≡ true) × (x ≡ y)
then_ok true c f g x y e = absurd (cc)
then_ok false true f g x y e = (refl, cc)
then_ok false false f g x y e = absurd (cc)

equal_test : (i n : ℕ) → nat_eq i n ≡ true → i ≡ n
equal_test i n h = grind (arith, nat_tests)

pub given : (table new : List Connection) (number id : ℕ) → give_of table number ≡ Ok (id, new) → (id ≡ FIRST_ID + length table) × ChangesOnly table new id (Ok number)
unfolding give_of
given table new number id e =
    let same : (FIRST_ID + length table, table ++ opened number ∷ []) ≡ (id, new) = else_ok _ _ _ _ e in
    let P : ℕ × List Connection → Type 0 = λ p. (p.0 ≡ FIRST_ID + length table) × ChangesOnly table p.1 p.0 (Ok number) in
    subst P same (refl, pushed table number)

pub created : (table new : List Connection) (id number : ℕ) → created_of table id number ≡ Ok new → (id ≡ FIRST_ID + length table) × ChangesOnly table new id (Ok number)
unfolding created_of
created table new id number e =
    let parts : (nat_eq id (FIRST_ID + length table) ≡ true) × (table ++ opened number ∷ [] ≡ new) = then_ok _ _ _ _ _ _ e in
    let next : id ≡ FIRST_ID + length table = equal_test _ _ parts.0 in
    let at : ChangesOnly table new (FIRST_ID + length table) (Ok number) = (let P : List Connection → Type 0 = λ l. ChangesOnly table l (FIRST_ID + length table) (Ok number) in subst P parts.1 (pushed table number)) in
    let Q : ℕ → Type 0 = λ i. ChangesOnly table new i (Ok number) in
    (next, subst Q (sym next) at)

as_open : (b : Bool) (n number : ℕ) → (b && nat_eq n number) ≡ true → cond b (Ok n) (Err NotOpen) ≡ Ok number
as_open true n number h = ap Ok (equal_test _ _ h)
as_open false n number h = absurd (cc)

-- the connection at a place that answers a number is open, and of that number
is_as : (number : ℕ) (c : Connection) → is_open_as number c ≡ true → open_number (Some c) ≡ Ok number
is_as number c h = as_open c.is_open c.number number h

open_as : (b : Bool) (n number : ℕ) → cond b (Ok n) (Err NotOpen) ≡ Ok number → (b && nat_eq n number) ≡ true
open_as true n number h = let same : n ≡ number = cc in grind (arith, nat_tests)
open_as false n number h = absurd (cc)

-- what the first place is, if there is one
found_at : (table : List Connection) (number place : ℕ) → place_of table number ≡ Some place → (place < length table) × (conn_of table (FIRST_ID + place) ≡ Ok number)
found_at table number place e =
    let d : Connection = closed 0 in
    let first = position-Some (is_open_as number) table place d e in
    let here : slice_get table place ≡ Some (get_or table place d) = slice_get-get_or table place d first.0 in
    (first.0, conn_at table place ∙ ap open_number here ∙ is_as number (get_or table place d) first.1)

found_by : (table : List Connection) (number id : ℕ) (o : Option ℕ) → place_of table number ≡ o → option_map (λ place. FIRST_ID + place) o ≡ Some id → conn_of table id ≡ Ok number
found_by table number id None at e = absurd (cc)
found_by table number id (Some place) at e =
    let same : FIRST_ID + place ≡ id = cc in
    let P : ℕ → Type 0 = λ i. conn_of table i ≡ Ok number in
    subst P same (found_at table number place at).1

pub found : (table : List Connection) (number id : ℕ) → id_of table number ≡ Some id → conn_of table id ≡ Ok number
unfolding id_of
found table number id e = found_by table number id (place_of table number) refl e

closed_number_by : (table new : List Connection) (number id : ℕ) (o : Option ℕ) → place_of table number ≡ o → close_at table number o ≡ Ok (id, new) → (conn_of table id ≡ Ok number) × ChangesOnly table new id (Err NotOpen)
closed_number_by table new number id None at e = absurd (cc)
closed_number_by table new number id (Some place) at e =
    let same : (FIRST_ID + place, slice_set table place (closed number)) ≡ (id, new) = cc in
    let was = found_at table number place at in
    let P : ℕ × List Connection → Type 0 = λ p. (conn_of table p.0 ≡ Ok number) × ChangesOnly table p.1 p.0 (Err NotOpen) in
    subst P same (was.1, shut table place number was.0)

pub closed_number : (table new : List Connection) (number id : ℕ) → close_of table number ≡ Ok (id, new) → (conn_of table id ≡ Ok number) × ChangesOnly table new id (Err NotOpen)
unfolding close_of
closed_number table new number id e = closed_number_by table new number id (place_of table number) refl e

else_open : (b : Bool) (f : LightError) (r : Result ℕ LightError) (n : ℕ) → cond b (Err f) r ≡ Ok n → (b ≡ false) × (r ≡ Ok n)
else_open true f r n e = absurd (cc)
else_open false f r n e = (refl, e)

open_within : (table : List Connection) (k number : ℕ) → open_number (slice_get table k) ≡ Ok number → k < length table
open_within [] k number e = absurd (cc)
open_within (c ∷ table) zero number e = omega arith
open_within (c ∷ table) (suc k) number e = let less : k < length table = open_within table k number e in omega arith

-- an id that is open is one of the list's
open_place : (table : List Connection) (id number : ℕ) → conn_of table id ≡ Ok number → (place : ℕ) × (id ≡ FIRST_ID + place) × (place < length table)
unfolding conn_of
open_place table id number e =
    let parts : (nat_lt id FIRST_ID ≡ false) × (open_number (slice_get table (id - FIRST_ID)) ≡ Ok number) = else_open _ _ _ _ e in
    let low : FIRST_ID ≤ id = not_below _ _ parts.0 in
    (id - FIRST_ID, omega arith, open_within table (id - FIRST_ID) number parts.1)

shut_at : (table : List Connection) (id n : ℕ) → conn_of table id ≡ Ok n → ChangesOnly table (slice_set table (id - FIRST_ID) (closed n)) id (Err NotOpen)
shut_at table id n at =
    let place = open_place table id n at in
    let is : id - FIRST_ID ≡ place.0 = (let was : id ≡ FIRST_ID + place.0 = place.1 in omega arith) in
    let P : ℕ → Type 0 = λ k. ChangesOnly table (slice_set table k (closed n)) id (Err NotOpen) in
    let Q : ℕ → Type 0 = λ i. ChangesOnly table (slice_set table place.0 (closed n)) i (Err NotOpen) in
    subst P (sym is) (subst Q (sym place.1) (shut table place.0 n place.2))

closed_id_by : (table new : List Connection) (number id : ℕ) (r : Result ℕ LightError) → conn_of table id ≡ r → closed_by table id r ≡ Ok (number, new) → (conn_of table id ≡ Ok number) × ChangesOnly table new id (Err NotOpen)
closed_id_by table new number id (Err f) at e = absurd (cc)
closed_id_by table new number id (Ok n) at e =
    let same : (n, slice_set table (id - FIRST_ID) (closed n)) ≡ (number, new) = cc in
    let P : ℕ × List Connection → Type 0 = λ p. (conn_of table id ≡ Ok p.0) × ChangesOnly table p.1 id (Err NotOpen) in
    subst P same (at, shut_at table id n at)

pub closed_id : (table new : List Connection) (number id : ℕ) → closed_of table id ≡ Ok (number, new) → (conn_of table id ≡ Ok number) × ChangesOnly table new id (Err NotOpen)
unfolding closed_of
closed_id table new number id e = closed_id_by table new number id (conn_of table id) refl e

none_by : (a n : ℕ) (b : Bool) → nat_lt a n ≡ b → cond b (Some a) None ≡ None → n ≤ a
none_by a n true h e = absurd (cc)
none_by a n false h e = not_below _ _ h

none_first : (a n : ℕ) → cond (nat_lt a n) (Some a) None ≡ None → n ≤ a
none_first a n e = none_by a n (nat_lt a n) refl e

absent_by : (table : List Connection) (number id : ℕ) (o : Option ℕ) → place_of table number ≡ o → option_map (λ place. FIRST_ID + place) o ≡ None → conn_of table id ≡ Ok number → ⊥
absent_by table number id (Some place) none e at = absurd (cc)
absent_by table number id None none e at =
    let place = open_place table id number at in
    let P : ℕ → Type 0 = λ i. conn_of table i ≡ Ok number in
    let there : open_number (slice_get table place.0) ≡ Ok number = sym (conn_at table place.0) ∙ subst P place.1 at in
    let d : Connection = closed 0 in
    let c : Connection = get_or table place.0 d in
    let here : slice_get table place.0 ≡ Some c = slice_get-get_or table place.0 d place.2 in
    let passes : is_open_as number c ≡ true = open_as c.is_open c.number number (sym (ap open_number here) ∙ there) in
    let far : length table ≤ position_or_len (is_open_as number) table = none_first _ _ none in
    let fails : is_open_as number c ≡ false = fails_before_first (is_open_as number) table place.0 d (let less : place.0 < length table = place.2 in omega arith) in
    cc

-- what is open is found
pub absent : (table : List Connection) (number id : ℕ) → id_of table number ≡ None → conn_of table id ≢ Ok number
unfolding id_of
absent table number id e at = absent_by table number id (place_of table number) refl e at

same_ok : (m n : ℕ) (r : Result ℕ LightError) → r ≡ Ok m → r ≡ Ok n → m ≡ n
same_ok m n r p q = cc

unequal_test : (i n : ℕ) → nat_eq i n ≡ false → i ≢ n
unequal_test i n h e = grind (arith, nat_tests)

one_by : (table new : List Connection) (number id : ℕ) → OneEach table → id_of table number ≡ None → ChangesOnly table new id (Ok number) → (n i j : ℕ) → conn_of new i ≡ Ok n → conn_of new j ≡ Ok n → (a b : Bool) → nat_eq i id ≡ a → nat_eq j id ≡ b → i ≡ j
one_by table new number id one free changes n i j hi hj true true a b = equal_test _ _ a ∙ sym (equal_test _ _ b)
one_by table new number id one free changes n i j hi hj true false a b =
    let at : conn_of new i ≡ Ok number = (let P : ℕ → Type 0 = λ k. conn_of new k ≡ Ok number in subst P (sym (equal_test _ _ a)) changes.here) in
    let same : n ≡ number = same_ok _ _ _ hi at in
    let was : conn_of table j ≡ Ok n = sym (changes.others j (unequal_test _ _ b)) ∙ hj in
    absurd (absent table number j free (was ∙ ap Ok same))
one_by table new number id one free changes n i j hi hj false true a b =
    let at : conn_of new j ≡ Ok number = (let P : ℕ → Type 0 = λ k. conn_of new k ≡ Ok number in subst P (sym (equal_test _ _ b)) changes.here) in
    let same : n ≡ number = same_ok _ _ _ hj at in
    let was : conn_of table i ≡ Ok n = sym (changes.others i (unequal_test _ _ a)) ∙ hi in
    absurd (absent table number i free (was ∙ ap Ok same))
one_by table new number id one free changes n i j hi hj false false a b =
    one n i j (sym (changes.others i (unequal_test _ _ a)) ∙ hi) (sym (changes.others j (unequal_test _ _ b)) ∙ hj)

pub one_each_given : (table new : List Connection) (number id : ℕ) → OneEach table → id_of table number ≡ None → ChangesOnly table new id (Ok number) → OneEach new
one_each_given table new number id one free changes n i j hi hj = one_by table new number id one free changes n i j hi hj (nat_eq i id) (nat_eq j id) refl refl

still : (table new : List Connection) (id n i : ℕ) → ChangesOnly table new id (Err NotOpen) → conn_of new i ≡ Ok n → (a : Bool) → nat_eq i id ≡ a → conn_of table i ≡ Ok n
still table new id n i changes h true a =
    let at : conn_of new i ≡ Err NotOpen = (let P : ℕ → Type 0 = λ k. conn_of new k ≡ Err NotOpen in subst P (sym (equal_test _ _ a)) changes.here) in
    absurd (cc)
still table new id n i changes h false a = sym (changes.others i (unequal_test _ _ a)) ∙ h

pub one_each_closed : (table new : List Connection) (id : ℕ) → OneEach table → ChangesOnly table new id (Err NotOpen) → OneEach new
one_each_closed table new id one changes n i j hi hj =
    one n i j (still table new id n i changes hi (nat_eq i id) refl) (still table new id n j changes hj (nat_eq j id) refl)

-- what is found after a give is the connection itself, or was found before
no_new : (table new : List Connection) (number id n i : ℕ) → ChangesOnly table new id (Ok number) → n ≢ number → id_of table n ≡ None → conn_of new i ≡ Ok n → (a : Bool) → nat_eq i id ≡ a → ⊥
no_new table new number id n i changes other free at true a =
    let here : conn_of new i ≡ Ok number = (let P : ℕ → Type 0 = λ k. conn_of new k ≡ Ok number in subst P (sym (equal_test _ _ a)) changes.here) in
    other (same_ok _ _ _ at here)
no_new table new number id n i changes other free at false a = absent table n i free (sym (changes.others i (unequal_test _ _ a)) ∙ at)

none_or : (o : Option ℕ) → ((i : ℕ) → o ≡ Some i → ⊥) → o ≡ None
none_or None h = refl
none_or (Some i) h = absurd (h i refl)

pub free_given : (table new : List Connection) (number id n : ℕ) → give_of table number ≡ Ok (id, new) → n ≢ number → id_of table n ≡ None → id_of new n ≡ None
free_given table new number id n e other free =
    none_or (id_of new n) (λ i at. no_new table new number id n i (given table new number id e).1 other free (found new n i at) (nat_eq i id) refl)

-- a connection without an id has none after a give to another, whatever the give answers
pub free_after : (r : Result ℕ LightError) (table new : List Connection) (number n : ℕ) → MatchResult r (λ id. give_of table number ≡ Ok (id, new)) (λ e. Fails e (give_of table number)) → OnErr r (new ≡ table) → n ≢ number → id_of table n ≡ None → id_of new n ≡ None
free_after (Ok id) table new number n e f other free = free_given table new number id n e other free
free_after (Err x) table new number n e f other free = subst (λ (t : List Connection). id_of t n ≡ None) (sym f) free

pub free_empty : (n : ℕ) → id_of [] n ≡ None
unfolding id_of
free_empty n = refl
