-- How many messages of a pair were carried before the next one, by what was said and by what was read.
use Rattle.std.proofs.Common.{◌≡◌, ℕ, suc, ◌+◌, Bool, true, false, cond, List, [], ◌∷◌, ◌++◌, take, refl, sym, ap, ◌∙◌, subst, arith}
use Rattle.std.specs.Prelude.{slice_get, count_by, Option, Some, None, ◌==◌}
use Rattle.std.proofs.lemmas.List.Sums.{sum_by-append}
use Rattle.ch_model.specs.declared.line.Line.{Line}
use Rattle.ch_model.specs.AccountsFrames.{Saying, pair_opening}
use Rattle.ch_model.specs.AccountsItems.{first_payload}
use Rattle.ch_laws_log.proofs.Stored.{number_is, number_same}
use Rattle.ch_laws_peers.specs.Words.{Word, datas_in, carried_after, TrueWord, TrueWords}
use Rattle.ch_laws_peers.specs.Reads.{after_first}
use Rattle.ch_laws_messages.proofs.GotLists.{clash, some_is, first_stays, after_next, after_else, after_new, after_none, take_next}
use Rattle.ch_laws_messages.proofs.GotBounds.{AreAlone}
use Rattle.ch_laws_messages.proofs.EnteredCarried.{nothing_before, nothing_behind}

pub count_both : {A : Type 0} (test : A → Bool) (xs ys : List A) → count_by test (xs ++ ys) ≡ count_by test xs + count_by test ys
count_both {A = A} test xs ys = sum_by-append (λ (x : A). cond (test x) 1 0) xs ys

-- one more is counted, or isn't
count_next : {A : Type 0} (test : A → Bool) (n : ℕ) (xs : List A) (x : A) (b : Bool) → slice_get xs n ≡ Some x → test x ≡ b → count_by test (take (suc n) xs) ≡ count_by test (take n xs) + cond b 1 0
count_next {A = A} test n xs x b e h = ap (count_by test) (take_next n xs x e) ∙ count_both test (take n xs) (x ∷ []) ∙ ap (λ (k : ℕ). count_by test (take n xs) + k) (ap (λ (c : Bool). 0 + cond c 1 0) h ∙ by_test b) where
  by_test : (c : Bool) → 0 + cond c 1 0 ≡ cond c 1 0
  by_test true = refl
  by_test false = refl

-- a test that the sayings of this opening's pair alone pass
abbrev pub IsOfOpening : List Line → List Saying → List ℕ → (Saying → Bool) → Type 0
IsOfOpening journal said opening test = (n : ℕ) (s : Saying) (other : List ℕ) → slice_get said n ≡ Some s → pair_opening journal s.by s.to ≡ Some other → ((other ≡ opening → test s ≡ true) × (test s ≡ true → other ≡ opening))

no_first : (id : ℕ) (ds : List (ℕ × List ℕ)) → first_payload id ds ≡ None → after_first id ds ≡ 0
no_first id ds e = after_none ds id e

-- so many were carried before a payload, and of those of one opening as many as stand under its id
pub record Carried (journal : List Line) (said : List Saying) (w : Word) (read : List (ℕ × List ℕ)) (opening : List ℕ) (id : ℕ) (test : Saying → Bool) : Type 0 where
  pub n : ℕ
  pub true_word : TrueWord journal said n w (first_payload w.0.0 read)
  pub counted : after_first id read ≡ count_by test (take n said)

pub carried_next : (journal : List Line) (said : List Saying) (opening : List ℕ) (id : ℕ) (test : Saying → Bool) → IsOfOpening journal said opening test → (before : List (ℕ × List ℕ)) (n : ℕ) (ws : List Word) (w : Word) (rest : List Word) (end : ℕ) → TrueWords journal said before n (ws ++ w ∷ rest) end → AreAlone (before ++ datas_in ws) → first_payload id (before ++ datas_in ws) ≡ Some opening
    → after_first id before ≡ count_by test (take n said) → Carried journal said w (before ++ datas_in ws) opening id test
carried_next journal said opening id test of before n [] w rest end t alone f counted = record { n = n; true_word = subst (λ (l : List (ℕ × List ℕ)). TrueWord journal said n w (first_payload w.0.0 l)) (sym (nothing_behind before)) t.0; counted = ap (after_first id) (nothing_behind before) ∙ counted }
carried_next journal said opening id test of before n (one ∷ ws) w rest end t alone f counted = subst (λ (l : List (ℕ × List ℕ)). Carried journal said w l opening id test) (nothing_before before (datas_in ws) one.0)
    (carried_next journal said opening id test of (before ++ one.0 ∷ []) (carried_after (first_payload one.0.0 before) n) ws w rest end t.1 (subst AreAlone (sym (nothing_before before (datas_in ws) one.0)) alone) (ap (first_payload id) (nothing_before before (datas_in ws) one.0) ∙ f)
    (by_first (first_payload one.0.0 before) refl t.0)) where
      all : List (ℕ × List ℕ)
      all = before ++ one.0 ∷ datas_in ws

      -- what is first before is first in all
      later : (key : ℕ) (o : List ℕ) → first_payload key before ≡ Some o → first_payload key (before ++ one.0 ∷ datas_in ws) ≡ Some o
      later key o e = first_stays key before (one.0 ∷ datas_in ws) o e

      by_first : (o : Option (List ℕ)) → first_payload one.0.0 before ≡ o → TrueWord journal said n one (first_payload one.0.0 before) → after_first id (before ++ one.0 ∷ []) ≡ count_by test (take (carried_after (first_payload one.0.0 before) n) said)
      by_first None e v = by_id (one.0.0 == id) refl ∙ counted ∙ ap (λ (u : Option (List ℕ)). count_by test (take (carried_after u n) said)) (sym e) where
        by_id : (b : Bool) → (one.0.0 == id) ≡ b → after_first id (before ++ one.0 ∷ []) ≡ after_first id before
        by_id false h = after_else before id one.0 h
        by_id true h = let none : first_payload id before ≡ None = ap (λ (k : ℕ). first_payload k before) (sym (number_is one.0.0 id h)) ∙ e in after_new before id one.0 none ∙ sym (no_first id before none)
      by_first (Some o) e v = by_id (one.0.0 == id) refl ∙ ap (λ (u : Option (List ℕ)). count_by test (take (carried_after u n) said)) (sym e) where
        w_now : TrueWord journal said n one (Some o)
        w_now = subst (TrueWord journal said n one) e v

        one_more : (k : ℕ) → suc k ≡ k + 1
        one_more k = omega arith

        none_more : (k : ℕ) → k ≡ k + 0
        none_more k = omega arith

        by_id : (b : Bool) → (one.0.0 == id) ≡ b → after_first id (before ++ one.0 ∷ []) ≡ count_by test (take (suc n) said)
        by_id true h =
            let first : first_payload id before ≡ Some o = ap (λ (k : ℕ). first_payload k before) (sym (number_is one.0.0 id h)) ∙ e in
            let is : o ≡ opening = some_is o opening (sym (later id o first) ∙ f) in
            after_next before id one.0 o first h ∙ ap suc counted ∙ one_more (count_by test (take n said)) ∙ sym (count_next test n said w_now.0 true w_now.1 ((of n w_now.0 o w_now.1 w_now.2.pair).0 is))
        by_id false h = after_else before id one.0 h ∙ counted ∙ none_more (count_by test (take n said)) ∙ sym (count_next test n said w_now.0 false w_now.1 (by_test (test w_now.0) refl)) where
          by_test : (b : Bool) → test w_now.0 ≡ b → b ≡ false
          by_test false g = refl
          by_test true g =
              let is : o ≡ opening = (of n w_now.0 o w_now.1 w_now.2.pair).1 g in
              let same : one.0.0 ≡ id = alone one.0.0 id opening (later one.0.0 opening (e ∙ ap Some is)) f in
              clash (sym (ap (λ (k : ℕ). k == id) same ∙ number_same id) ∙ h)
