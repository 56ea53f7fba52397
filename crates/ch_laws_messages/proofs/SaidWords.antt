-- Payloads behind others: true words of lists that grow, and the places of frames.
use Rattle.std.proofs.Common.{◌≡◌, ℕ, suc, zero, Bool, true, false, cond, ◌||◌, List, [], ◌∷◌, ◌++◌, length, refl, sym, ap, ◌∙◌, subst, append_assoc}
use Rattle.std.proofs.lemmas.Bool.{eqb-true}
use Rattle.std.proofs.lemmas.List.{append-nil, map-append}
use Rattle.std.proofs.lemmas.List.Elements.{filter_map-append}
use Rattle.std.proofs.lemmas.List.Folds.{find-append, list_any-append}
use Rattle.std.specs.List.{list_any}
use Rattle.std.specs.Option.{option_map, option_or}
use Rattle.std.specs.Prelude.{find, slice_get, Option, Some, None, ◌==◌}
use Rattle.std.specs.Str.{bytes_eq}
use Rattle.ch_wire.specs.declared.frame.Frame.{Frame}
use Rattle.ch_wire.specs.declared.frame.Frame.TheVariants as frames
use Rattle.ch_model.specs.declared.line.Line.{Line}
use Rattle.ch_model.specs.declared.step.Place.{Place}
use Rattle.ch_model.specs.AccountsFrames.{Saying, pair_opening}
use Rattle.ch_model.specs.AccountsItems.{first_payload}
use Rattle.ch_model.specs.Logs.{some_and}
use Rattle.ch_laws_peers.specs.Words.{Placed, Word, word_of, words_in, datas_in, carried_after, place_of, place_next, placing, opens_one, TrueWord, TrueWords}
use Rattle.ch_laws_peers.specs.Says.{ArePlaced}
use Rattle.ch_laws_messages.specs.SaidGoes.{bare}

-- ---- lists

pub or_true : (a b : Bool) → a ≡ true → (a || b) ≡ true
or_true true b e = refl
or_true false b e = absurd cc

pub got_more : {A : Type 0} (xs ys : List A) (n : ℕ) (x : A) → slice_get xs n ≡ Some x → slice_get (xs ++ ys) n ≡ Some x
got_more [] ys n x e = absurd cc
got_more (y ∷ xs) ys zero x e = e
got_more (y ∷ xs) ys (suc n) x e = got_more xs ys n x e

pub got_last : {A : Type 0} (xs : List A) (x : A) → slice_get (xs ++ x ∷ []) (length xs) ≡ Some x
got_last [] x = refl
got_last (y ∷ xs) x = got_last xs x

pub any_more : {A : Type 0} (p : A → Bool) (xs ys : List A) → list_any p xs ≡ true → list_any p (xs ++ ys) ≡ true
any_more p xs ys e = list_any-append p xs ys ∙ or_true (list_any p xs) (list_any p ys) e

-- ---- the first payload under an id

abbrev Data : Type 0
Data = ℕ × List ℕ

abbrev payload : Data → List ℕ
payload d = d.1

pub first_of_both : (id : ℕ) (xs ys : List Data) → first_payload id (xs ++ ys) ≡ option_or (first_payload id xs) (first_payload id ys)
first_of_both id xs ys = ap (option_map payload) (find-append (λ (d : Data). d.0 == id) xs ys) ∙ by_found (find (λ (d : Data). d.0 == id) xs) where
  by_found : (o : Option Data) → option_map payload (option_or o (find (λ (d : Data). d.0 == id) ys)) ≡ option_or (option_map payload o) (first_payload id ys)
  by_found None = refl
  by_found (Some d) = refl

pub first_more : (id : ℕ) (xs ys : List Data) (one : List ℕ) → first_payload id xs ≡ Some one → first_payload id (xs ++ ys) ≡ Some one
first_more id xs ys one e = first_of_both id xs ys ∙ ap (λ (o : Option (List ℕ)). option_or o (first_payload id ys)) e

pub first_later : (id : ℕ) (xs ys : List Data) → first_payload id xs ≡ None → first_payload id (xs ++ ys) ≡ first_payload id ys
first_later id xs ys e = first_of_both id xs ys ∙ ap (λ (o : Option (List ℕ)). option_or o (first_payload id ys)) e

-- ---- words

pub words_append : (xs ys : List Placed) → words_in (xs ++ ys) ≡ words_in xs ++ words_in ys
words_append xs ys = filter_map-append word_of xs ys

pub datas_append : (xs ys : List Word) → datas_in (xs ++ ys) ≡ datas_in xs ++ datas_in ys
datas_append xs ys = map-append (λ (w : Word). w.0) xs ys

word_more : (journal : List Line) (said more : List Saying) (n : ℕ) (word : Word) (o : Option (List ℕ)) → TrueWord journal said n word o → TrueWord journal (said ++ more) n word o
word_more journal said more n word None t = (any_more (λ (s : Saying). some_and (bytes_eq word.0.1) (pair_opening journal s.by s.to)) said more t.0, t.1)
word_more journal said more n word (Some opening) t = (t.0, got_more said more n t.0 t.1, t.2)

-- more is said
pub true_more : (journal : List Line) (said more : List Saying) (before : List Data) (n : ℕ) (words : List Word) (end : ℕ) → TrueWords journal said before n words end → TrueWords journal (said ++ more) before n words end
true_more journal said more before n [] end t = t
true_more journal said more before n (word ∷ rest) end t = (word_more journal said more n word (first_payload word.0.0 before) t.0, true_more journal said more (before ++ word.0 ∷ []) (carried_after (first_payload word.0.0 before) n) rest end t.1)

-- words behind others
pub true_both : (journal : List Line) (said : List Saying) (before : List Data) (n : ℕ) (xs ys : List Word) (middle end : ℕ) → TrueWords journal said before n xs middle → TrueWords journal said (before ++ datas_in xs) middle ys end → TrueWords journal said before n (xs ++ ys) end
true_both journal said before n [] ys middle end s t = subst (λ (m : ℕ). TrueWords journal said before m ys end) (sym s) (subst (λ (l : List Data). TrueWords journal said l middle ys end) (append-nil before) t)
true_both journal said before n (word ∷ xs) ys middle end s t = (s.0, true_both journal said (before ++ word.0 ∷ []) (carried_after (first_payload word.0.0 before) n) xs ys middle end s.1 (subst (λ (l : List Data). TrueWords journal said l middle ys end) (sym (append_assoc before (word.0 ∷ []) (datas_in xs))) t))

-- what is first under an id opens a pair that has said something
pub first_opens : (journal : List Line) (said : List Saying) (before : List Data) (n : ℕ) (words : List Word) (end id : ℕ) (one : List ℕ) → TrueWords journal said before n words end → first_payload id before ≡ None → first_payload id (datas_in words) ≡ Some one → opens_one journal said one ≡ true
first_opens journal said before n [] end id one t none e = absurd cc
first_opens journal said before n (word ∷ rest) end id one t none e = by_test (word.0.0 == id) refl e (first_opens journal said (before ++ word.0 ∷ []) (carried_after (first_payload word.0.0 before) n) rest end id one t.1) where
  opens : (o : Option (List ℕ)) → o ≡ None → TrueWord journal said n word o → opens_one journal said word.0.1 ≡ true
  opens None h w = w.0
  opens (Some opening) h w = absurd cc

  same : (a b : ℕ) → (a == b) ≡ true → a ≡ b
  same a b e = eqb-true a b e

  by_test : (b : Bool) → (word.0.0 == id) ≡ b → option_map payload (cond b (Some word.0) (find (λ (d : Data). d.0 == id) (datas_in rest))) ≡ Some one
      → (first_payload id (before ++ word.0 ∷ []) ≡ None → first_payload id (datas_in rest) ≡ Some one → opens_one journal said one ≡ true) → opens_one journal said one ≡ true
  by_test true h e more = let is : word.0.1 ≡ one = cc in subst (λ (p : List ℕ). opens_one journal said p ≡ true) is (opens (first_payload word.0.0 before) (ap (λ (k : ℕ). first_payload k before) (same word.0.0 id h) ∙ none) t.0)
  by_test false h e more = more (first_later id before (word.0 ∷ []) none ∙ ap (λ (b : Bool). option_map payload (cond b (Some word.0) None)) h) e

-- ---- places

pub placed_append : (xs ys : List Placed) → ArePlaced xs → ArePlaced ys → ArePlaced (xs ++ ys)
placed_append [] ys a b = b
placed_append (x ∷ xs) ys a b = (a.0, placed_append xs ys a.1 b)

pub placing_placed : (said : List Saying) (before : List Data) (n : ℕ) (all : List Frame) → ArePlaced (placing said before n all)
placing_placed said before n [] = tt
placing_placed said before n (frames.Data id one ∷ rest) = (tt, placing_placed said (before ++ (id, one) ∷ []) (carried_after (first_payload id before) n) rest)
placing_placed said before n (frame ∷ rest) = (refl, placing_placed said before n rest)

pub placing_bare : (said : List Saying) (before : List Data) (n : ℕ) (all : List Frame) → bare (placing said before n all) ≡ all
placing_bare said before n [] = refl
placing_bare said before n (frames.Data id one ∷ rest) = ap (λ (l : List Frame). frames.Data id one ∷ l) (placing_bare said (before ++ (id, one) ∷ []) (carried_after (first_payload id before) n) rest)
placing_bare said before n (frame ∷ rest) = ap (λ (l : List Frame). frame ∷ l) (placing_bare said before n rest)

word_placed : (journal : List Line) (said : List Saying) (n : ℕ) (word : Word) (o : Option (List ℕ)) → TrueWord journal said n word o → place_next said n o ≡ word.1
word_placed journal said n word None t = sym t.1
word_placed journal said n word (Some opening) t = ap place_of t.1 ∙ sym t.2.place

both_placed : (frame : Frame) (p q : Option Place) (l m : List Placed) → p ≡ q → l ≡ m → ◌≡◌ {A = List Placed} ((frame, p) ∷ l) ((frame, q) ∷ m)
both_placed frame p q l m e f = ap (λ (p : Option Place). (frame, p) ∷ l) e ∙ ap (λ (l : List Placed). (frame, q) ∷ l) f

-- frames whose payloads are true words have just the places that these say
pub placing_true : (journal : List Line) (said : List Saying) (before : List Data) (n : ℕ) (all : List Placed) (end : ℕ) → ArePlaced all → TrueWords journal said before n (words_in all) end → placing said before n (bare all) ≡ all
placing_true journal said before n [] end a t = refl
placing_true journal said before n ((frames.Data id one, place) ∷ rest) end a t = both_placed (frames.Data id one) (place_next said n (first_payload id before)) place (placing said (before ++ (id, one) ∷ []) (carried_after (first_payload id before) n) (bare rest)) rest (word_placed journal said n ((id, one), place) (first_payload id before) t.0) (placing_true journal said (before ++ (id, one) ∷ []) (carried_after (first_payload id before) n) rest end a.1 t.1)
placing_true journal said before n ((frame, place) ∷ rest) end a t = both_placed frame None place (placing said before n (bare rest)) rest (sym a.0) (placing_true journal said before n rest end a.1 t)
