-- Pieces that are read and written, put together.
use Rattle.std.proofs.Common.{◌≡◌, ℕ, zero, suc, ◌+◌, ◌<◌, ◌≤◌, List, [], ◌∷◌, ◌++◌, length, take, drop, Option, Some, None, refl, sym, ◌∙◌, ap, subst, append_assoc, arith}
use Rattle.std.proofs.lemmas.List.{append-nil, take-append-drop, length-take-le}
use Rattle.std.proofs.Math.Seq.{take-append-add, take-append_seam}
use Rattle.ch_base.specs.Outside.{Rose, Reads, Writes}
use Rattle.ch_model.specs.Journal.{longest_journal}
use Rattle.ch_replay.specs.Outside.{Taken, IsIntake, Appended}

-- a count that rose later rose since before, and one that rose has risen later too
pub rose_since : (a b c : ℕ) → a ≤ b → Rose b c → Rose a c
rose_since a b c h r small = omega (arith, r small)

-- nothing was appended yet
pub appended_none : (h : Option (List ℕ)) → Appended [] h h
appended_none None = refl
appended_none (Some before) = ap (λ (x : List ℕ). Some x) (sym (append-nil before))

take_both : (text : List ℕ) (at n : ℕ) → at ≤ length text → take at text ++ take n (drop at text) ≡ take (at + n) text
take_both text at n h =
    sym (take-append-add (take at text) (drop at text) n)
    ∙ ap (λ (k : ℕ). take (k + n) (take at text ++ drop at text)) (length-take-le at text h)
    ∙ ap (λ (t : List ℕ). take (at + n) t) (take-append-drop at text)

-- all of a list that isn't longer is taken
take_all : (n : ℕ) (xs : List ℕ) → length xs ≤ n → take n xs ≡ xs
take_all zero [] h = refl
take_all (suc n) [] h = refl
take_all zero (x ∷ xs) h = absurd (omega arith)
take_all (suc n) (x ∷ xs) h = ap (λ (t : List ℕ). x ∷ t) (take_all n xs (omega arith))

-- a piece more was appended
pub appended_more : (text : List ℕ) (at n : ℕ) (h0 h h1 : Option (List ℕ)) → at ≤ length text → Appended (take at text) h0 h → Writes h h1 n (drop at text) → Appended (take (at + n) text) h0 h1
appended_more text at n None None h1 in_text a w = w
appended_more text at n None (Some now) h1 in_text a w = cc
appended_more text at n (Some before) None h1 in_text a w = cc
appended_more text at n (Some before) (Some now) h1 in_text a w =
    let is : now ≡ before ++ take at text = cc in
    w ∙ ap (λ (x : List ℕ). Some x) (ap (λ (x : List ℕ). x ++ take n (drop at text)) is ∙ append_assoc before (take at text) (take n (drop at text)) ∙ ap (λ (x : List ℕ). before ++ x) (take_both text at n in_text))

-- nothing was taken yet
pub taken_none : (l : Option (List ℕ)) → Taken l l []
taken_none None = refl
taken_none (Some before) = (before, refl, refl)

-- a piece more was taken
pub taken_more : (l0 l l1 : Option (List ℕ)) (bytes : List ℕ) (n : ℕ) (lent : List ℕ) → Taken l0 l bytes → Reads l l1 n lent → Taken l0 l1 (bytes ++ take n lent)
taken_more None None l1 bytes n lent t r = r
taken_more None (Some now) l1 bytes n lent t r = cc
taken_more (Some before) None l1 bytes n lent t r = cc
taken_more (Some before) (Some now) l1 bytes n lent t r =
    let is : now ≡ t.0 = cc in
    let cut : take n t.0 ++ drop n t.0 ≡ t.0 = take-append-drop n t.0 in
    let same : take n t.0 ≡ take n lent = subst (λ (x : List ℕ). take n x ≡ take n lent) is r.1 in (
      drop n t.0,
      r.0 ∙ ap (λ (x : List ℕ). Some (drop n x)) is,
      t.2 ∙ ap (λ (x : List ℕ). bytes ++ x) (sym cut ∙ ap (λ (x : List ℕ). x ++ drop n t.0) same) ∙ sym (append_assoc bytes (take n lent) (drop n t.0)),
    )

-- the source had no more than what was taken
pub intake_end : (l0 l l1 : Option (List ℕ)) (bytes lent : List ℕ) (n : ℕ) → n ≡ 0 → length bytes ≤ longest_journal → Taken l0 l bytes → Reads l l1 n lent → 0 < length lent → IsIntake l0 l1 bytes
intake_end None None l1 bytes lent n zero_is small t r h = r
intake_end None (Some now) l1 bytes lent n zero_is small t r h = cc
intake_end (Some before) None l1 bytes lent n zero_is small t r h = cc
intake_end (Some before) (Some now) l1 bytes lent n zero_is small t r h =
    let is : now ≡ t.0 = cc in
    let none : now ≡ [] = r.3 zero_is h in
    let all : before ≡ bytes = t.2 ∙ ap (λ (x : List ℕ). bytes ++ x) (sym is ∙ none) ∙ append-nil bytes in
    (sym (ap (λ (x : List ℕ). take (longest_journal + 1) x) all ∙ take_all (longest_journal + 1) bytes (omega arith)), λ _. r.0 ∙ ap (λ (k : ℕ). Some (drop k now)) zero_is ∙ ap (λ (x : List ℕ). Some (drop 0 x)) none)

-- as much was taken as is ever looked at
pub intake_full : (l0 l : Option (List ℕ)) (bytes : List ℕ) → length bytes ≡ longest_journal + 1 → Taken l0 l bytes → IsIntake l0 l bytes
intake_full None l bytes full t = t
intake_full (Some before) l bytes full t =
    (sym (take-append_seam bytes t.0) ∙ ap (λ (x : List ℕ). take (length bytes) x) (sym t.2) ∙ ap (λ (k : ℕ). take k before) full, λ h. absurd (omega arith))
