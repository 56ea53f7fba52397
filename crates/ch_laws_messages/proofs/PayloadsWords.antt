-- A payload among frames whose words are true: what it carries, behind those before it.
use Rattle.std.proofs.Common.{◌≡◌, ℕ, ◌+◌, List, [], ◌∷◌, ◌++◌, refl, sym, ap, ◌∙◌, subst, append_assoc, arith}
use Rattle.std.proofs.lemmas.List.{append-nil}
use Rattle.std.specs.Prelude.{filter_map, Option, Some, None}
use Rattle.ch_wire.specs.declared.frame.Frame.{Frame}
use Rattle.ch_wire.specs.declared.frame.Frame.TheVariants as frames
use Rattle.ch_model.specs.declared.line.Line.{Line}
use Rattle.ch_model.specs.declared.step.Place.{Place}
use Rattle.ch_model.specs.AccountsFrames.{Saying}
use Rattle.ch_model.specs.AccountsItems.{data_of, first_payload}
use Rattle.ch_laws_peers.specs.Words.{Word, words_in, datas_in, carried_after, place_next, placing, TrueWord, TrueWords}
use Rattle.ch_laws_messages.specs.CarriedCounts.{carried_in}

abbrev Data : Type 0
Data = ℕ × List ℕ

-- ---- counts

-- how many were carried in the end, where so many were before
abbrev counted_from : List Data → ℕ → List Data → ℕ
counted_from before n [] = n
counted_from before n (d ∷ rest) = counted_from (before ++ d ∷ []) (carried_after (first_payload d.0 before) n) rest

after_more : (o : Option (List ℕ)) (n c : ℕ) → carried_after o n + c ≡ n + carried_after o c
after_more None n c = refl
after_more (Some opening) n c = omega arith

counted_is : (before : List Data) (n : ℕ) (ds : List Data) → counted_from before n ds ≡ n + carried_in before ds
counted_is before n [] = none_more n where
  none_more : (k : ℕ) → k ≡ k + 0
  none_more k = omega arith
counted_is before n (d ∷ rest) = counted_is (before ++ d ∷ []) (carried_after (first_payload d.0 before) n) rest ∙ after_more (first_payload d.0 before) n (carried_in (before ++ d ∷ []) rest)

swapped : (a b : Option (List ℕ)) (c : ℕ) → carried_after a (carried_after b c) ≡ carried_after b (carried_after a c)
swapped None b c = refl
swapped (Some one) None c = refl
swapped (Some one) (Some two) c = refl

last_from : (before ds : List Data) (d : Data) → carried_in before (ds ++ d ∷ []) ≡ carried_after (first_payload d.0 (before ++ ds)) (carried_in before ds)
last_from before [] d = ap (λ (l : List Data). carried_after (first_payload d.0 l) 0) (sym (append-nil before))
last_from before (e ∷ ds) d = ap (carried_after (first_payload e.0 before)) (last_from (before ++ e ∷ []) ds d ∙ ap (λ (l : List Data). carried_after (first_payload d.0 l) (carried_in (before ++ e ∷ []) ds)) (append_assoc before (e ∷ []) ds))
    ∙ swapped (first_payload e.0 before) (first_payload d.0 (before ++ e ∷ ds)) (carried_in (before ++ e ∷ []) ds)

-- one payload more
pub carried_last : (ds : List Data) (d : Data) → carried_in [] (ds ++ d ∷ []) ≡ carried_after (first_payload d.0 ds) (carried_in [] ds)
carried_last ds d = last_from [] ds d

-- ---- words

-- a payload is true, whatever place it has
abbrev pub IsTrueAt : List Line → List Saying → ℕ → ℕ → List ℕ → Option (List ℕ) → Type 0
IsTrueAt journal said n id payload o = (place : Option Place) × TrueWord journal said n ((id, payload), place) o

true_from : (journal : List Line) (said all : List Saying) (before : List Data) (n : ℕ) (fs : List Frame) (id : ℕ) (payload : List ℕ) (gs : List Frame) (more : List Word) (end : ℕ) → TrueWords journal said before n (words_in (placing all before n (fs ++ frames.Data id payload ∷ gs)) ++ more) end
    → IsTrueAt journal said (counted_from before n (filter_map data_of fs)) id payload (first_payload id (before ++ filter_map data_of fs))
true_from journal said all before n [] id payload gs more end t = (place_next all n (first_payload id before), subst (λ (l : List Data). TrueWord journal said n ((id, payload), place_next all n (first_payload id before)) (first_payload id l)) (sym (append-nil before)) t.0)
true_from journal said all before n (frames.Data i p ∷ fs) id payload gs more end t = subst (λ (l : List Data). IsTrueAt journal said (counted_from (before ++ (i, p) ∷ []) (carried_after (first_payload i before) n) (filter_map data_of fs)) id payload (first_payload id l)) (append_assoc before ((i, p) ∷ []) (filter_map data_of fs))
    (true_from journal said all (before ++ (i, p) ∷ []) (carried_after (first_payload i before) n) fs id payload gs more end t.1)
true_from journal said all before n (frame ∷ fs) id payload gs more end t = true_from journal said all before n fs id payload gs more end t

no_more : (n : ℕ) → 0 + n ≡ n
no_more n = omega arith

-- a payload behind these frames carries what is said behind all that they carry, or opens a pair that has said something
pub true_at : (journal : List Line) (said : List Saying) (fs : List Frame) (id : ℕ) (payload : List ℕ) (gs : List Frame) (more : List Word) (end : ℕ) → TrueWords journal said [] 0 (words_in (placing said [] 0 (fs ++ frames.Data id payload ∷ gs)) ++ more) end
    → IsTrueAt journal said (carried_in [] (filter_map data_of fs)) id payload (first_payload id (filter_map data_of fs))
true_at journal said fs id payload gs more end t = subst (λ (n : ℕ). IsTrueAt journal said n id payload (first_payload id (filter_map data_of fs))) (counted_is [] 0 (filter_map data_of fs) ∙ no_more (carried_in [] (filter_map data_of fs)))
    (true_from journal said said [] 0 fs id payload gs more end t)

-- the payloads among frames, whatever their places are
pub datas_placed : (said : List Saying) (before : List Data) (n : ℕ) (fs : List Frame) → datas_in (words_in (placing said before n fs)) ≡ filter_map data_of fs
datas_placed said before n [] = refl
datas_placed said before n (frames.Data id payload ∷ fs) = ap (λ (l : List Data). (id, payload) ∷ l) (datas_placed said (before ++ (id, payload) ∷ []) (carried_after (first_payload id before) n) fs)
datas_placed said before n (frame ∷ fs) = datas_placed said before n fs
