-- Frames with the places that sayings give them, when more is said and more is written.
use Rattle.std.proofs.Common.{◌≡◌, ℕ, List, [], ◌∷◌, ◌++◌, refl, sym, ap, ◌∙◌}
use Rattle.std.specs.Prelude.{Option, Some, None}
use Rattle.ch_wire.specs.declared.frame.Frame.{Frame}
use Rattle.ch_wire.specs.declared.frame.Frame.TheVariants as frames
use Rattle.ch_model.specs.declared.line.Line.{Line}
use Rattle.ch_model.specs.declared.step.Place.{Place}
use Rattle.ch_model.specs.AccountsFrames.{Saying}
use Rattle.ch_model.specs.AccountsItems.{first_payload}
use Rattle.ch_laws_peers.specs.Words.{Placed, Word, words_in, place_of, place_next, carried_after, placing, TrueWord, TrueWords}
use Rattle.ch_laws_peers.specs.Says.{ArePlaced}
use Rattle.ch_laws_peers.specs.Reads.{frames_among}
use Rattle.ch_laws_messages.proofs.SaidWords.{got_more}

-- ---- frames behind frames

-- the payloads behind these frames, and how many sayings are carried then
abbrev pub datas_behind : List (ℕ × List ℕ) → List Frame → List (ℕ × List ℕ)
datas_behind before [] = before
datas_behind before (frames.Data id payload ∷ rest) = datas_behind (before ++ (id, payload) ∷ []) rest
datas_behind before (frame ∷ rest) = datas_behind before rest

abbrev pub count_behind : List (ℕ × List ℕ) → ℕ → List Frame → ℕ
count_behind before n [] = n
count_behind before n (frames.Data id payload ∷ rest) = count_behind (before ++ (id, payload) ∷ []) (carried_after (first_payload id before) n) rest
count_behind before n (frame ∷ rest) = count_behind before n rest

pub placing_append : (said : List Saying) (before : List (ℕ × List ℕ)) (n : ℕ) (xs ys : List Frame) → placing said before n (xs ++ ys) ≡ placing said before n xs ++ placing said (datas_behind before xs) (count_behind before n xs) ys
placing_append said before n [] ys = refl
placing_append said before n (frames.Data id payload ∷ xs) ys = ap (λ (l : List Placed). (frames.Data id payload, place_next said n (first_payload id before)) ∷ l) (placing_append said (before ++ (id, payload) ∷ []) (carried_after (first_payload id before) n) xs ys)
placing_append said before n (frames.Created id ∷ xs) ys = ap (λ (l : List Placed). (frames.Created id, None) ∷ l) (placing_append said before n xs ys)
placing_append said before n (frames.Closed id ∷ xs) ys = ap (λ (l : List Placed). (frames.Closed id, None) ∷ l) (placing_append said before n xs ys)
placing_append said before n (frames.EndClosed ∷ xs) ys = ap (λ (l : List Placed). (frames.EndClosed, None) ∷ l) (placing_append said before n xs ys)
placing_append said before n (frames.Probe ∷ xs) ys = ap (λ (l : List Placed). (frames.Probe, None) ∷ l) (placing_append said before n xs ys)
placing_append said before n (frames.ProbeAck ∷ xs) ys = ap (λ (l : List Placed). (frames.ProbeAck, None) ∷ l) (placing_append said before n xs ys)

-- ---- frames whose payloads are true

-- a payload that is true has the place that the sayings give it, whatever is said later
word_place : (journal : List Line) (said more : List Saying) (n : ℕ) (word : Word) (first : Option (List ℕ)) → TrueWord journal said n word first → place_next (said ++ more) n first ≡ word.1
word_place journal said more n word None t = sym t.1
word_place journal said more n word (Some opening) t = ap place_of (got_more said more n t.0 t.1) ∙ sym t.2.place

pub truly_placed : (journal : List Line) (said more : List Saying) (before : List (ℕ × List ℕ)) (n end : ℕ) (frames : List Placed) → TrueWords journal said before n (words_in frames) end → ArePlaced frames → placing (said ++ more) before n (frames_among frames) ≡ frames
truly_placed journal said more before n end [] t p = refl
truly_placed journal said more before n end ((frames.Data id payload, place) ∷ rest) t p =
    ap (λ (x : Option Place). (frames.Data id payload, x) ∷ placing (said ++ more) (before ++ (id, payload) ∷ []) (carried_after (first_payload id before) n) (frames_among rest)) (word_place journal said more n ((id, payload), place) (first_payload id before) t.0)
    ∙ ap (λ (l : List Placed). (frames.Data id payload, place) ∷ l) (truly_placed journal said more (before ++ (id, payload) ∷ []) (carried_after (first_payload id before) n) end rest t.1 p.1)
truly_placed journal said more before n end ((frames.Created id, place) ∷ rest) t p = ap (λ (x : Option Place). (frames.Created id, x) ∷ placing (said ++ more) before n (frames_among rest)) (sym p.0) ∙ ap (λ (l : List Placed). (frames.Created id, place) ∷ l) (truly_placed journal said more before n end rest t p.1)
truly_placed journal said more before n end ((frames.Closed id, place) ∷ rest) t p = ap (λ (x : Option Place). (frames.Closed id, x) ∷ placing (said ++ more) before n (frames_among rest)) (sym p.0) ∙ ap (λ (l : List Placed). (frames.Closed id, place) ∷ l) (truly_placed journal said more before n end rest t p.1)
truly_placed journal said more before n end ((frames.EndClosed, place) ∷ rest) t p = ap (λ (x : Option Place). (frames.EndClosed, x) ∷ placing (said ++ more) before n (frames_among rest)) (sym p.0) ∙ ap (λ (l : List Placed). (frames.EndClosed, place) ∷ l) (truly_placed journal said more before n end rest t p.1)
truly_placed journal said more before n end ((frames.Probe, place) ∷ rest) t p = ap (λ (x : Option Place). (frames.Probe, x) ∷ placing (said ++ more) before n (frames_among rest)) (sym p.0) ∙ ap (λ (l : List Placed). (frames.Probe, place) ∷ l) (truly_placed journal said more before n end rest t p.1)
truly_placed journal said more before n end ((frames.ProbeAck, place) ∷ rest) t p = ap (λ (x : Option Place). (frames.ProbeAck, x) ∷ placing (said ++ more) before n (frames_among rest)) (sym p.0) ∙ ap (λ (l : List Placed). (frames.ProbeAck, place) ∷ l) (truly_placed journal said more before n end rest t p.1)

-- so many sayings are carried behind them
pub true_count : (journal : List Line) (said : List Saying) (before : List (ℕ × List ℕ)) (n end : ℕ) (frames : List Placed) → TrueWords journal said before n (words_in frames) end → count_behind before n (frames_among frames) ≡ end
true_count journal said before n end [] t = t
true_count journal said before n end ((frames.Data id payload, place) ∷ rest) t = true_count journal said (before ++ (id, payload) ∷ []) (carried_after (first_payload id before) n) end rest t.1
true_count journal said before n end ((frames.Created id, place) ∷ rest) t = true_count journal said before n end rest t
true_count journal said before n end ((frames.Closed id, place) ∷ rest) t = true_count journal said before n end rest t
true_count journal said before n end ((frames.EndClosed, place) ∷ rest) t = true_count journal said before n end rest t
true_count journal said before n end ((frames.Probe, place) ∷ rest) t = true_count journal said before n end rest t
true_count journal said before n end ((frames.ProbeAck, place) ∷ rest) t = true_count journal said before n end rest t

-- the true words behind the first of them
pub true_behind : (journal : List Line) (said : List Saying) (before : List (ℕ × List ℕ)) (n end : ℕ) (xs ys : List Placed) → TrueWords journal said before n (words_in (xs ++ ys)) end → TrueWords journal said (datas_behind before (frames_among xs)) (count_behind before n (frames_among xs)) (words_in ys) end
true_behind journal said before n end [] ys t = t
true_behind journal said before n end ((frames.Data id payload, place) ∷ xs) ys t = true_behind journal said (before ++ (id, payload) ∷ []) (carried_after (first_payload id before) n) end xs ys t.1
true_behind journal said before n end ((frames.Created id, place) ∷ xs) ys t = true_behind journal said before n end xs ys t
true_behind journal said before n end ((frames.Closed id, place) ∷ xs) ys t = true_behind journal said before n end xs ys t
true_behind journal said before n end ((frames.EndClosed, place) ∷ xs) ys t = true_behind journal said before n end xs ys t
true_behind journal said before n end ((frames.Probe, place) ∷ xs) ys t = true_behind journal said before n end xs ys t
true_behind journal said before n end ((frames.ProbeAck, place) ∷ xs) ys t = true_behind journal said before n end xs ys t

-- and the first of them, to some count
pub true_first : (journal : List Line) (said : List Saying) (before : List (ℕ × List ℕ)) (n end : ℕ) (xs ys : List Placed) → TrueWords journal said before n (words_in (xs ++ ys)) end → TrueWords journal said before n (words_in xs) (count_behind before n (frames_among xs))
true_first journal said before n end [] ys t = refl
true_first journal said before n end ((frames.Data id payload, place) ∷ xs) ys t = (t.0, true_first journal said (before ++ (id, payload) ∷ []) (carried_after (first_payload id before) n) end xs ys t.1)
true_first journal said before n end ((frames.Created id, place) ∷ xs) ys t = true_first journal said before n end xs ys t
true_first journal said before n end ((frames.Closed id, place) ∷ xs) ys t = true_first journal said before n end xs ys t
true_first journal said before n end ((frames.EndClosed, place) ∷ xs) ys t = true_first journal said before n end xs ys t
true_first journal said before n end ((frames.Probe, place) ∷ xs) ys t = true_first journal said before n end xs ys t
true_first journal said before n end ((frames.ProbeAck, place) ∷ xs) ys t = true_first journal said before n end xs ys t

-- ---- frames that carry no payload

abbrev pub IsBare : Placed → Type 0
IsBare (frames.Data id payload, place) = ⊥
IsBare (frame, place) = place ≡ None

abbrev pub AreBare : List Placed → Type 0
AreBare [] = Unit {0}
AreBare (one ∷ rest) = IsBare one × AreBare rest

pub bare_placed : (said : List Saying) (before : List (ℕ × List ℕ)) (n : ℕ) (xs : List Placed) → AreBare xs → placing said before n (frames_among xs) ≡ xs
bare_placed said before n [] b = refl
bare_placed said before n ((frames.Data id payload, place) ∷ rest) b = absurd b.0
bare_placed said before n ((frames.Created id, place) ∷ rest) b = ap (λ (x : Option Place). (frames.Created id, x) ∷ placing said before n (frames_among rest)) (sym b.0) ∙ ap (λ (l : List Placed). (frames.Created id, place) ∷ l) (bare_placed said before n rest b.1)
bare_placed said before n ((frames.Closed id, place) ∷ rest) b = ap (λ (x : Option Place). (frames.Closed id, x) ∷ placing said before n (frames_among rest)) (sym b.0) ∙ ap (λ (l : List Placed). (frames.Closed id, place) ∷ l) (bare_placed said before n rest b.1)
bare_placed said before n ((frames.EndClosed, place) ∷ rest) b = ap (λ (x : Option Place). (frames.EndClosed, x) ∷ placing said before n (frames_among rest)) (sym b.0) ∙ ap (λ (l : List Placed). (frames.EndClosed, place) ∷ l) (bare_placed said before n rest b.1)
bare_placed said before n ((frames.Probe, place) ∷ rest) b = ap (λ (x : Option Place). (frames.Probe, x) ∷ placing said before n (frames_among rest)) (sym b.0) ∙ ap (λ (l : List Placed). (frames.Probe, place) ∷ l) (bare_placed said before n rest b.1)
bare_placed said before n ((frames.ProbeAck, place) ∷ rest) b = ap (λ (x : Option Place). (frames.ProbeAck, x) ∷ placing said before n (frames_among rest)) (sym b.0) ∙ ap (λ (l : List Placed). (frames.ProbeAck, place) ∷ l) (bare_placed said before n rest b.1)

-- ---- frames as they are placed

pub placed_all : (said : List Saying) (before : List (ℕ × List ℕ)) (n : ℕ) (xs : List Frame) → ArePlaced (placing said before n xs)
placed_all said before n [] = tt
placed_all said before n (frames.Data id payload ∷ rest) = (tt, placed_all said (before ++ (id, payload) ∷ []) (carried_after (first_payload id before) n) rest)
placed_all said before n (frames.Created id ∷ rest) = (refl, placed_all said before n rest)
placed_all said before n (frames.Closed id ∷ rest) = (refl, placed_all said before n rest)
placed_all said before n (frames.EndClosed ∷ rest) = (refl, placed_all said before n rest)
placed_all said before n (frames.Probe ∷ rest) = (refl, placed_all said before n rest)
placed_all said before n (frames.ProbeAck ∷ rest) = (refl, placed_all said before n rest)

pub frames_placed : (said : List Saying) (before : List (ℕ × List ℕ)) (n : ℕ) (xs : List Frame) → frames_among (placing said before n xs) ≡ xs
frames_placed said before n [] = refl
frames_placed said before n (frames.Data id payload ∷ rest) = ap (λ (l : List Frame). frames.Data id payload ∷ l) (frames_placed said (before ++ (id, payload) ∷ []) (carried_after (first_payload id before) n) rest)
frames_placed said before n (frames.Created id ∷ rest) = ap (λ (l : List Frame). frames.Created id ∷ l) (frames_placed said before n rest)
frames_placed said before n (frames.Closed id ∷ rest) = ap (λ (l : List Frame). frames.Closed id ∷ l) (frames_placed said before n rest)
frames_placed said before n (frames.EndClosed ∷ rest) = ap (λ (l : List Frame). frames.EndClosed ∷ l) (frames_placed said before n rest)
frames_placed said before n (frames.Probe ∷ rest) = ap (λ (l : List Frame). frames.Probe ∷ l) (frames_placed said before n rest)
frames_placed said before n (frames.ProbeAck ∷ rest) = ap (λ (l : List Frame). frames.ProbeAck ∷ l) (frames_placed said before n rest)
