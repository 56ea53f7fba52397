-- How many sayings payloads carry, as there are more of them; and that what says all carries as many as were said.
use Rattle.std.proofs.Common.{◌≡◌, ◌≤◌, ◌+◌, ℕ, List, [], ◌∷◌, ◌++◌, refl, sym, ap, ◌∙◌, append_assoc, arith}
use Rattle.std.proofs.lemmas.List.{append-nil}
use Rattle.std.specs.Prelude.{filter_map, Option, Some, None}
use Rattle.ch_wire.specs.declared.frame.Frame.{Frame}
use Rattle.ch_wire.specs.declared.frame.Frame.TheVariants as frames
use Rattle.ch_model.specs.declared.line.Line.{Line}
use Rattle.ch_model.specs.AccountsFrames.{Saying}
use Rattle.ch_model.specs.AccountsItems.{data_of, first_payload}
use Rattle.ch_laws_peers.specs.Words.{Word, words_in, datas_in, carried_after, placing, TrueWords}
use Rattle.ch_laws_messages.specs.CarriedCounts.{carried_in}

abbrev pub Data : Type 0
Data = ℕ × List ℕ

-- ---- one more payload

swapped : (o p : Option (List ℕ)) (n : ℕ) → carried_after o (carried_after p n) ≡ carried_after p (carried_after o n)
swapped None p n = refl
swapped (Some x) None n = refl
swapped (Some x) (Some y) n = refl

behind_last : (before xs : List Data) (d : Data) → carried_in before (xs ++ d ∷ []) ≡ carried_after (first_payload d.0 (before ++ xs)) (carried_in before xs)
behind_last before [] d = ap (λ (l : List Data). carried_after (first_payload d.0 l) 0) (sym (append-nil before))
behind_last before (x ∷ xs) d = ap (carried_after (first_payload x.0 before)) (behind_last (before ++ x ∷ []) xs d) ∙ swapped (first_payload x.0 before) (first_payload d.0 ((before ++ x ∷ []) ++ xs)) (carried_in (before ++ x ∷ []) xs)
    ∙ ap (λ (l : List Data). carried_after (first_payload d.0 l) (carried_after (first_payload x.0 before) (carried_in (before ++ x ∷ []) xs))) (append_assoc before (x ∷ []) xs)

pub carried_last : (xs : List Data) (d : Data) → carried_in [] (xs ++ d ∷ []) ≡ carried_after (first_payload d.0 xs) (carried_in [] xs)
carried_last xs d = behind_last [] xs d

no_less : (o : Option (List ℕ)) (n : ℕ) → n ≤ carried_after o n
no_less None n = omega arith
no_less (Some x) n = omega arith

-- more payloads carry no less
pub carried_more : (xs ys : List Data) → carried_in [] xs ≤ carried_in [] (xs ++ ys)
carried_more xs [] = let e = ap (carried_in []) (append-nil xs) in omega arith
carried_more xs (d ∷ ys) =
    let e = ap (carried_in []) (append_assoc xs (d ∷ []) ys) in
    let one = carried_last xs d in
    let two = no_less (first_payload d.0 xs) (carried_in [] xs) in
    let more = carried_more (xs ++ d ∷ []) ys in omega arith

-- ---- true words

-- after n, as many are carried as true words lead to
pub true_count : (journal : List Line) (said : List Saying) (before : List Data) (n : ℕ) (words : List Word) (end : ℕ) → TrueWords journal said before n words end → n + carried_in before (datas_in words) ≡ end
true_count journal said before n [] end t = let e : n ≡ end = t in omega arith
true_count journal said before n (word ∷ rest) end t = by_first (first_payload word.0.0 before) (true_count journal said (before ++ word.0 ∷ []) (carried_after (first_payload word.0.0 before) n) rest end t.1) where
  by_first : (o : Option (List ℕ)) → carried_after o n + carried_in (before ++ word.0 ∷ []) (datas_in rest) ≡ end → n + carried_after o (carried_in (before ++ word.0 ∷ []) (datas_in rest)) ≡ end
  by_first None e = e
  by_first (Some opening) e = omega arith

-- ---- the payloads of frames with places

pub placing_datas : (said : List Saying) (before : List Data) (n : ℕ) (all : List Frame) → datas_in (words_in (placing said before n all)) ≡ filter_map data_of all
placing_datas said before n [] = refl
placing_datas said before n (frames.Data id payload ∷ rest) = ap (λ (l : List Data). (id, payload) ∷ l) (placing_datas said (before ++ (id, payload) ∷ []) (carried_after (first_payload id before) n) rest)
placing_datas said before n (frame ∷ rest) = placing_datas said before n rest
