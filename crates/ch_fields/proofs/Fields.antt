-- How a field is split off, and what a callee's refusal says of a field.
use Rattle.std.proofs.Common.{◌≡◌, ℕ, suc, ◌+◌, true, false, not, cond, List, [], ◌∷◌, length, Option, Some, None, nat_lt, ◌==◌, refl, arith, add-one}
use Rattle.std.specs.List.{position, position_or_len}
use Rattle.ch_base.specs.Addresses.{after_front, around}
use Rattle.ch_model.specs.Fields.{at_byte}
use Rattle.std.proofs.lemmas.Bool.{lt-ltb}
use Rattle.std.proofs.lemmas.Bool.Decides.{nat_tests}

lt_both : (m n : ℕ) → nat_lt (1 + m) (suc n) ≡ nat_lt m n
lt_both m n = grind (arith, nat_tests)

step : (b : ℕ) (bs : List ℕ) (m : ℕ) (r : Option (List ℕ × List ℕ)) → r ≡ around bs (cond (nat_lt m (length bs)) (Some m) None) → after_front b r ≡ around (b ∷ bs) (cond (nat_lt (1 + m) (suc (length bs))) (Some (1 + m)) None)
step b bs m r e = rw (e, lt_both m (length bs)) (
    elim (nat_lt m (length bs)) as (λ t. after_front b (around bs (cond t (Some m) None)) ≡ around (b ∷ bs) (cond t (Some (1 + m)) None))
    [ true ↦ parts b bs m | false ↦ refl ])
  where
    parts : (b : ℕ) (bs : List ℕ) (m : ℕ) → after_front b (around bs (Some m)) ≡ around (b ∷ bs) (Some (1 + m))
    parts b bs m = let one : 1 + m ≡ suc m = omega arith in rw (one, add-one m, add-one (suc m)) refl

-- the first such byte is where `position` finds it
pub at_byte_is : (c : ℕ) (text : List ℕ) → at_byte c text ≡ around text (position (λ b. b == c) text)
at_byte_is c [] = refl
at_byte_is c (b ∷ bs) =
    let m : ℕ = position_or_len (λ d. d == c) bs in
    elim (b == c) as (λ t. cond t (Some ([], bs)) (after_front b (at_byte c bs)) ≡ around (b ∷ bs) (cond (nat_lt (cond (not t) (1 + m) 0) (suc (length bs))) (Some (cond (not t) (1 + m) 0)) None))
    [ true ↦ rw (lt-ltb 0 (suc (length bs)) (omega arith)) refl | false ↦ step b bs m (at_byte c bs) (at_byte_is c bs) ]
