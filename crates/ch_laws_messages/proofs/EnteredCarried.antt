-- How many sayings payloads carry, and which one the next payload carries.
use Rattle.std.proofs.Common.{◌≡◌, ◌≤◌, ℕ, suc, ◌+◌, List, [], ◌∷◌, ◌++◌, refl, sym, ap, ◌∙◌, subst, arith}
use Rattle.std.specs.Prelude.{Option, Some, None}
use Rattle.ch_model.specs.declared.line.Line.{Line}
use Rattle.ch_model.specs.AccountsFrames.{Saying}
use Rattle.ch_model.specs.AccountsItems.{first_payload}
use Rattle.ch_laws_peers.specs.Words.{Word, datas_in, carried_after, TrueWord, TrueWords}
use Rattle.ch_laws_messages.specs.CarriedCounts.{carried_in}

pub nothing_behind : {A : Type 0} (xs : List A) → xs ++ [] ≡ xs
nothing_behind {A = A} [] = refl
nothing_behind {A = A} (x ∷ xs) = ap (λ (l : List A). x ∷ l) (nothing_behind xs)

pub nothing_before : {A : Type 0} (xs ys : List A) (x : A) → (xs ++ x ∷ []) ++ ys ≡ xs ++ x ∷ ys
nothing_before {A = A} [] ys x = refl
nothing_before {A = A} (y ∷ xs) ys x = ap (λ (l : List A). y ∷ l) (nothing_before xs ys x)

-- one more is counted before or behind
after_plus : (o : Option (List ℕ)) (a b : ℕ) → carried_after o (a + b) ≡ carried_after o a + b
after_plus None a b = refl
after_plus (Some opening) a b = omega arith

plus_after : (o : Option (List ℕ)) (a b : ℕ) → a + carried_after o b ≡ carried_after o a + b
plus_after None a b = refl
plus_after (Some opening) a b = omega arith

zero_more : (n : ℕ) → n ≡ 0 + n
zero_more n = omega arith

more_zero : (n : ℕ) → n ≡ n + 0
more_zero n = omega arith

-- of payloads and those behind them
pub carried_both : (before xs ys : List (ℕ × List ℕ)) → carried_in before (xs ++ ys) ≡ carried_in before xs + carried_in (before ++ xs) ys
carried_both before [] ys = zero_more (carried_in before ys) ∙ ap (λ (l : List (ℕ × List ℕ)). 0 + carried_in l ys) (sym (nothing_behind before))
carried_both before (d ∷ xs) ys =
    ap (carried_after (first_payload d.0 before)) (carried_both (before ++ d ∷ []) xs ys ∙ ap (λ (l : List (ℕ × List ℕ)). carried_in (before ++ d ∷ []) xs + carried_in l ys) (nothing_before before xs d))
    ∙ after_plus (first_payload d.0 before) (carried_in (before ++ d ∷ []) xs) (carried_in (before ++ d ∷ xs) ys)

-- more payloads carry no fewer
pub carried_more : (before xs ys : List (ℕ × List ℕ)) → carried_in before xs ≤ carried_in before (xs ++ ys)
carried_more before xs ys = let e = carried_both before xs ys in no_fewer (carried_in before (xs ++ ys)) (carried_in before xs) (carried_in (before ++ xs) ys) e where
  no_fewer : (n a b : ℕ) → n ≡ a + b → a ≤ n
  no_fewer n a b e = omega arith

-- one that isn't the first under its id carries one more
pub carried_one : (xs : List (ℕ × List ℕ)) (d : ℕ × List ℕ) (opening : List ℕ) → first_payload d.0 xs ≡ Some opening → carried_in [] (xs ++ d ∷ []) ≡ suc (carried_in [] xs)
carried_one xs d opening e = carried_both [] xs (d ∷ []) ∙ ap (λ (o : Option (List ℕ)). carried_in [] xs + carried_after o 0) e ∙ one_more (carried_in [] xs) where
  one_more : (n : ℕ) → n + 1 ≡ suc n
  one_more n = omega arith

-- the payload behind these is as it should be, where so many sayings were carried before as they carry
pub true_at : (journal : List Line) (said : List Saying) (before : List (ℕ × List ℕ)) (n : ℕ) (ws : List Word) (w : Word) (rest : List Word) (end : ℕ) → TrueWords journal said before n (ws ++ w ∷ rest) end → TrueWord journal said (carried_in before (datas_in ws) + n) w (first_payload w.0.0 (before ++ datas_in ws))
true_at journal said before n [] w rest end t = subst (λ (k : ℕ). TrueWord journal said k w (first_payload w.0.0 (before ++ []))) (zero_more n) (subst (λ (l : List (ℕ × List ℕ)). TrueWord journal said n w (first_payload w.0.0 l)) (sym (nothing_behind before)) t.0)
true_at journal said before n (one ∷ ws) w rest end t =
    subst (λ (k : ℕ). TrueWord journal said k w (first_payload w.0.0 (before ++ one.0 ∷ datas_in ws))) (plus_after (first_payload one.0.0 before) (carried_in (before ++ one.0 ∷ []) (datas_in ws)) n)
    (subst (λ (l : List (ℕ × List ℕ)). TrueWord journal said (carried_in (before ++ one.0 ∷ []) (datas_in ws) + carried_after (first_payload one.0.0 before) n) w (first_payload w.0.0 l)) (nothing_before before (datas_in ws) one.0)
    (true_at journal said (before ++ one.0 ∷ []) (carried_after (first_payload one.0.0 before) n) ws w rest end t.1))

-- so it is from the start
pub true_from : (journal : List Line) (said : List Saying) (ws : List Word) (w : Word) (rest : List Word) (end : ℕ) → TrueWords journal said [] 0 (ws ++ w ∷ rest) end → TrueWord journal said (carried_in [] (datas_in ws)) w (first_payload w.0.0 (datas_in ws))
true_from journal said ws w rest end t = subst (λ (k : ℕ). TrueWord journal said k w (first_payload w.0.0 (datas_in ws))) (sym (more_zero (carried_in [] (datas_in ws)))) (true_at journal said [] 0 ws w rest end t)
