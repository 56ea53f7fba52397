-- The first line of a text.
use Rattle.std.proofs.Common.{◌≡◌, ℕ, suc, ◌+◌, ◌<◌, Bool, true, false, cond, List, [], ◌∷◌, length, Option, Some, None, ◌==◌, refl, ap, arith}
use Rattle.ch_base.specs.Addresses.{after_front}
use Rattle.ch_model.specs.Fields.{at_byte}
use Rattle.ch_model.specs.Journal.{raw_lines, onto_first}

-- a text that isn't empty and has no newline is one line without it
pub without_newline : (text : List ℕ) → 0 < length text → at_byte 10 text ≡ None → raw_lines text ≡ (text, false) ∷ []
without_newline [] h e = absurd (omega arith)
without_newline (b ∷ bs) h e = by_byte (b == 10) bs e (λ k f. without_newline bs k f)
  where
    after_rest : (bs : List ℕ) → ((0 < length bs) → at_byte 10 bs ≡ None → raw_lines bs ≡ (bs, false) ∷ []) → at_byte 10 bs ≡ None → onto_first b (raw_lines bs) ≡ (b ∷ bs, false) ∷ []
    after_rest [] ih f = refl
    after_rest (c ∷ cs) ih f = ap (onto_first b) (ih (omega arith) f)

    of_rest : (bs : List ℕ) (r : Option (List ℕ × List ℕ)) → at_byte 10 bs ≡ r → ((0 < length bs) → at_byte 10 bs ≡ None → raw_lines bs ≡ (bs, false) ∷ []) → after_front b r ≡ None → onto_first b (raw_lines bs) ≡ (b ∷ bs, false) ∷ []
    of_rest bs None g ih f = after_rest bs ih g
    of_rest bs (Some p) g ih f = cc

    by_byte : (t : Bool) (bs : List ℕ) → cond t (Some ([], bs)) (after_front b (at_byte 10 bs)) ≡ None → ((0 < length bs) → at_byte 10 bs ≡ None → raw_lines bs ≡ (bs, false) ∷ []) → cond t (([], true) ∷ raw_lines bs) (onto_first b (raw_lines bs)) ≡ (b ∷ bs, false) ∷ []
    by_byte true bs f ih = cc
    by_byte false bs f ih = of_rest bs (at_byte 10 bs) refl ih f

-- a text with a newline is the line before the first and the lines after it
pub with_newline : (text : List ℕ) (p : List ℕ × List ℕ) → at_byte 10 text ≡ Some p → (raw_lines text ≡ (p.0, true) ∷ raw_lines p.1) × (length text ≡ length p.0 + 1 + length p.1)
with_newline [] p e = cc
with_newline (b ∷ bs) p e = by_byte (b == 10) bs p e (λ q f. with_newline bs q f)
  where
    of_rest : (bs : List ℕ) (r : Option (List ℕ × List ℕ)) (p : List ℕ × List ℕ) → ((q : List ℕ × List ℕ) → r ≡ Some q → (raw_lines bs ≡ (q.0, true) ∷ raw_lines q.1) × (length bs ≡ length q.0 + 1 + length q.1)) → after_front b r ≡ Some p → (onto_first b (raw_lines bs) ≡ (p.0, true) ∷ raw_lines p.1) × (suc (length bs) ≡ length p.0 + 1 + length p.1)
    of_rest bs None p ih f = cc
    of_rest bs (Some q) p ih f = let k : (b ∷ q.0, q.1) ≡ p = cc in let h = ih q refl in rw (← k) (ap (onto_first b) h.0, omega (arith, h.1))

    by_byte : (t : Bool) (bs : List ℕ) (p : List ℕ × List ℕ) → cond t (Some ([], bs)) (after_front b (at_byte 10 bs)) ≡ Some p → ((q : List ℕ × List ℕ) → at_byte 10 bs ≡ Some q → (raw_lines bs ≡ (q.0, true) ∷ raw_lines q.1) × (length bs ≡ length q.0 + 1 + length q.1)) → (cond t (([], true) ∷ raw_lines bs) (onto_first b (raw_lines bs)) ≡ (p.0, true) ∷ raw_lines p.1) × (suc (length bs) ≡ length p.0 + 1 + length p.1)
    by_byte true bs p f ih = let k : ([], bs) ≡ p = cc in rw (← k) (refl, omega arith)
    by_byte false bs p f ih = of_rest bs (at_byte 10 bs) p ih f
