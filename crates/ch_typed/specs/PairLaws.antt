-- A pair that was spelled is read again, and one that is read was spelled so.
use Rattle.std.proofs.Common.{◌≡◌, ℕ, ◌^◌, ◌<◌, ◌≤◌, Bool, true, false, cond, nat_lt, List, ◌++◌, length, take, drop, Option, Some, None, refl, sym, ap, subst, ◌∙◌, arith}
use Rattle.std.specs.Int.{w64, from_be_bytes, to_be_bytes}
use Rattle.std.proofs.lemmas.Bool.{ltb-false, le-ltb}
use Rattle.std.proofs.lemmas.List.{take_at, drop_at, take-append-drop, length-append, length-take}
use Rattle.std.proofs.lemmas.Nat.{be_bytes_8, from_be_bytes-to_be_bytes_8}
use Rattle.ch_ident.proofs.Takes.{IsBytes-take, IsBytes-drop}
use Rattle.ch_typed.specs.declared.error.TypedError.{TypedError}
use Rattle.ch_typed.specs.declared.error.TypedError.TheVariants.{WrongMark, BadBody, Empty, NotLive, OutOfMemory, Worn}
use Rattle.ch_typed.specs.Outcomes.{Fails, body_of}
use Rattle.ch_typed.specs.Reading.{AreBytes}
use Rattle.ch_typed.specs.Pairs.{pair_spelling, PairFits, length_at, both, parts_read, pair_read}

length_again : (n : ℕ) (rest : List ℕ) → n < 2 ^ 64 → length_at (to_be_bytes w64 n ++ rest) ≡ Some (n, rest)
unfolding length_at
length_again n rest small =
    let enough : nat_lt (length (to_be_bytes w64 n ++ rest)) 8 ≡ false = le-ltb _ _ (omega (arith, length-append (to_be_bytes w64 n) rest)) in
    let made : ℕ → Option (ℕ × List ℕ) = λ k. Some (k, rest) in
    rw enough (ap made (from_be_bytes-to_be_bytes_8 n small))

-- a test that was passed
passed : {A : Type 0} (b : Bool) (x : Option A) (y : A) → cond b None x ≡ Some y → (b ≡ false) × (x ≡ Some y)
passed true x y e = absurd cc
passed false x y e = (refl, e)

-- a length that was read, and the bytes after it
record HasLength (bytes : List ℕ) (head : ℕ × List ℕ) : Type 0 where
  parts : bytes ≡ to_be_bytes w64 head.0 ++ head.1
  small : head.0 < 2 ^ 64
  are : AreBytes head.1

length_takes : (bytes : List ℕ) (head : ℕ × List ℕ) → AreBytes bytes → length_at bytes ≡ Some head → HasLength bytes head
unfolding length_at
length_takes bytes head are e =
    let found = passed (nat_lt (length bytes) 8) (Some (from_be_bytes w64 (take 8 bytes), drop 8 bytes)) head e in
    let enough : 8 ≤ length bytes = ltb-false _ _ found.0 in
    let word = IsBytes-take 8 bytes are in
    let len : length (take 8 bytes) ≡ 8 = omega (arith, length-take 8 bytes) in
    let front : to_be_bytes w64 (from_be_bytes w64 (take 8 bytes)) ≡ take 8 bytes = be_bytes_8 (take 8 bytes) _ len word refl in
    let fits : from_be_bytes w64 (take 8 bytes) < 2 ^ 64 = omega (arith, word 0, word 1, word 2, word 3, word 4, word 5, word 6, word 7) in
    let same : (from_be_bytes w64 (take 8 bytes), drop 8 bytes) ≡ head = some_is (from_be_bytes w64 (take 8 bytes), drop 8 bytes) head found.1 in
    subst (λ (y : ℕ × List ℕ). HasLength bytes y) same (record { parts = subst (λ (t : List ℕ). bytes ≡ t ++ drop 8 bytes) (sym front) (sym (take-append-drop 8 bytes)); small = fits; are = IsBytes-drop 8 bytes are })
  where
    some_is : (x y : ℕ × List ℕ) → Some x ≡ Some y → x ≡ y
    some_is x y e = cc

pub pair_again : {A B : Type 0} (fits : A → Type 0) (fits2 : B → Type 0) (first : A → List ℕ) (second : B → List ℕ) (read : List ℕ → Option A) (read2 : List ℕ → Option B)
    → ((a : A) → fits a → read (first a) ≡ Some a) → ((b : B) → fits2 b → read2 (second b) ≡ Some b)
    → (pair : A × B) → PairFits fits fits2 first pair → pair_read read read2 (pair_spelling first second pair) ≡ Some pair
unfolding pair_read
pair_again fits fits2 first second read read2 again again2 pair is =
    let a = first pair.0 in
    let b = second pair.1 in
    let enough : nat_lt (length (a ++ b)) (length a) ≡ false = le-ltb _ _ (omega (arith, length-append a b)) in
    rw (length_again (length a) (a ++ b) is.2, enough, take_at a b (length a) refl, drop_at a b (length a) refl, again pair.0 is.0, again2 pair.1 is.1) refl

-- both parts of a pair that was read
both_some : {A B : Type 0} (x : Option A) (y : Option B) (pair : A × B) → both x y ≡ Some pair → (x ≡ Some pair.0) × (y ≡ Some pair.1)
both_some None y pair e = absurd cc
both_some (Some a) None pair e = absurd cc
both_some (Some a) (Some b) pair e =
    let same : (a, b) ≡ pair = some_is (a, b) pair e in
    subst (λ p. (Some a ≡ Some p.0) × (Some b ≡ Some p.1)) same (refl, refl)
  where
    some_is : {C : Type 0} (x y : C) → Some x ≡ Some y → x ≡ y
    some_is x y e = cc

pub pair_exact : {A B : Type 0} (fits : A → Type 0) (fits2 : B → Type 0) (first : A → List ℕ) (second : B → List ℕ) (read : List ℕ → Option A) (read2 : List ℕ → Option B)
    → ((bytes : List ℕ) (a : A) → AreBytes bytes → read bytes ≡ Some a → fits a × (first a ≡ bytes))
    → ((bytes : List ℕ) (b : B) → AreBytes bytes → read2 bytes ≡ Some b → fits2 b × (second b ≡ bytes))
    → (bytes : List ℕ) (pair : A × B) → AreBytes bytes → pair_read read read2 bytes ≡ Some pair → PairFits fits fits2 first pair × (pair_spelling first second pair ≡ bytes)
unfolding pair_read
pair_exact fits fits2 first second read read2 exact exact2 bytes pair are e = headed (length_at bytes) refl e
  where
    headed : (x : Option (ℕ × List ℕ)) → length_at bytes ≡ x → parts_read read read2 x ≡ Some pair → PairFits fits fits2 first pair × (pair_spelling first second pair ≡ bytes)
    headed None at e = absurd cc
    headed (Some head) at e =
        let has = length_takes bytes head are at in
        let found = passed (nat_lt (length head.1) head.0) (both (read (take head.0 head.1)) (read2 (drop head.0 head.1))) pair e in
        let enough : head.0 ≤ length head.1 = ltb-false _ _ found.0 in
        let parts = both_some (read (take head.0 head.1)) (read2 (drop head.0 head.1)) pair found.1 in
        let a = exact (take head.0 head.1) pair.0 (IsBytes-take head.0 head.1 has.are) parts.0 in
        let b = exact2 (drop head.0 head.1) pair.1 (IsBytes-drop head.0 head.1 has.are) parts.1 in
        let long : length (first pair.0) ≡ head.0 = rw a.1 (omega (arith, length-take head.0 head.1)) in
        let spelled : pair_spelling first second pair ≡ to_be_bytes w64 head.0 ++ head.1 = rw (long, a.1, b.1, take-append-drop head.0 head.1) refl in
        ((a.0, b.0, rw long has.small), spelled ∙ sym has.parts)

-- a first part that is no value's spelling
pub first_refused : {A B : Type 0} (e : TypedError) (x : Option A) (y : Option B) → Fails e (body_of x) → Fails e (body_of (both x y))
first_refused OutOfMemory None y fails = tt
first_refused BadBody None y fails = refl
first_refused Empty None y fails = absurd cc
first_refused NotLive None y fails = absurd cc
first_refused Worn None y fails = absurd cc
first_refused (WrongMark wanted found) None y fails = absurd cc
first_refused OutOfMemory (Some a) y fails = tt
first_refused BadBody (Some a) y fails = absurd cc
first_refused Empty (Some a) y fails = absurd cc
first_refused NotLive (Some a) y fails = absurd cc
first_refused Worn (Some a) y fails = absurd cc
first_refused (WrongMark wanted found) (Some a) y fails = absurd cc

-- a second part that is no value's spelling
pub second_refused : {A B : Type 0} (e : TypedError) (a : A) (y : Option B) → Fails e (body_of y) → Fails e (body_of (both (Some a) y))
second_refused OutOfMemory a y fails = tt
second_refused BadBody a None fails = refl
second_refused BadBody a (Some b) fails = absurd cc
second_refused Empty a None fails = absurd cc
second_refused Empty a (Some b) fails = absurd cc
second_refused NotLive a None fails = absurd cc
second_refused NotLive a (Some b) fails = absurd cc
second_refused Worn a None fails = absurd cc
second_refused Worn a (Some b) fails = absurd cc
second_refused (WrongMark wanted found) a None fails = absurd cc
second_refused (WrongMark wanted found) a (Some b) fails = absurd cc

-- what a part that is no value's spelling makes of the pair
pub ruleset refused = (first_refused, second_refused)
