-- Parts of a line: how a field is split off again, and what a chain of steps shows.
use Rattle.std.proofs.Common.{◌≡◌, ℕ, Bool, true, false, not, List, [], ◌∷◌, ◌++◌, Some, None, Result, Ok, Err, ◌==◌, refl, arith, if◌then◌else◌}
use Rattle.std.specs.List.{list_all}
use Rattle.std.proofs.lemmas.Bool.Decides.{nat_tests}
use Rattle.std.proofs.lemmas.List.Folds.{list_all-append}
use Rattle.ch_base.proofs.Numbers.{both}
use Rattle.ch_model.specs.declared.refusal.BadKind.{BadKind}
use Rattle.ch_model.specs.Fields.{◌>>=◌, need, at_byte, field_of}

-- no byte of these is this one
abbrev pub lacks : ℕ → List ℕ → Bool
lacks c bytes = list_all (λ b. not (b == c)) bytes

pub lacks_append : (c : ℕ) (xs ys : List ℕ) → lacks c xs ≡ true → lacks c ys ≡ true → lacks c (xs ++ ys) ≡ true
lacks_append c xs ys h g = rw (list_all-append (λ b. not (b == c)) xs ys, h, g) refl

-- bytes of a class lack a byte that isn't of it
pub lacks_by : (p : ℕ → Bool) (c : ℕ) → ((b : ℕ) → p b ≡ true → not (b == c) ≡ true) → (bs : List ℕ) → list_all p bs ≡ true → lacks c bs ≡ true
lacks_by p c k [] h = refl
lacks_by p c k (b ∷ bs) h = let q = both (p b) (list_all p bs) h in rw (k b q.0, lacks_by p c k bs q.1) refl

same : (c : ℕ) → (c == c) ≡ true
same c = grind (arith, nat_tests)

pub split_again : (c : ℕ) (front rest : List ℕ) → lacks c front ≡ true → at_byte c (front ++ c ∷ rest) ≡ Some (front, rest)
split_again c [] rest h = rw (same c) refl
split_again c (b ∷ bs) rest h =
    let p = both (not (b == c)) (lacks c bs) h in
    let t : (b == c) ≡ false = let q = p.0 in grind (arith, nat_tests) in
    rw (t, split_again c bs rest p.1) refl

pub split_none : (c : ℕ) (text : List ℕ) → lacks c text ≡ true → at_byte c text ≡ None
split_none c [] h = refl
split_none c (b ∷ bs) h =
    let p = both (not (b == c)) (lacks c bs) h in
    let t : (b == c) ≡ false = let q = p.0 in grind (arith, nat_tests) in
    rw (t, split_none c bs p.1) refl

-- a field, a space and a rest
pub field_again : (front rest : List ℕ) → lacks 32 front ≡ true → field_of (Some (front ++ 32 ∷ rest)) ≡ Ok (front, Some rest)
unfolding field_of
field_again front rest h = rw (split_again 32 front rest h) refl

-- the last field
pub field_alone : (text : List ℕ) → lacks 32 text ≡ true → field_of (Some text) ≡ Ok (text, None)
unfolding field_of
field_alone text h = rw (split_none 32 text h) refl

-- one of two choices
pub choice : {A : Type 0} (P : Type 0) (t : Bool) (x y : Result A BadKind) (z : A) → (x ≡ Ok z → P) → (y ≡ Ok z → P) → (if t then x else y) ≡ Ok z → P
choice P true x y z h g e = h e
choice P false x y z h g e = g e

-- a test that didn't refuse
pub needed : {A : Type 0} (k : BadKind) (t : Bool) (x y : A) → need k t x ≡ Ok y → (t ≡ true) × (x ≡ y)
needed k true x y e = (refl, cc)
needed k false x y e = absurd cc

pub bind_ok : {A B : Type 0} (r : Result A BadKind) (f : A → Result B BadKind) (y : B) → (r >>= f) ≡ Ok y → (x : A) × (r ≡ Ok x) × (f x ≡ Ok y)
bind_ok (Ok x) f y e = (x, refl, e)
bind_ok (Err k) f y e = absurd cc

abbrev pub accepts : {A : Type 0} → A → Result A BadKind
accepts x = Ok x

-- what was accepted is one thing
pub accepted_is : {A : Type 0} (x y : A) → accepts x ≡ accepts y → x ≡ y
accepted_is x y e = cc
