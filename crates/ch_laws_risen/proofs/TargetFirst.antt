-- An opener's end comes up after its target's, which wrote the answer that it read.
use Rattle.std.proofs.Common.{◌≡◌, ◌⊎◌, inl, inr, ℕ, zero, suc, ◌+◌, ◌<◌, ◌≤◌, Bool, true, false, cond, not, ◌&&◌, ◌||◌, List, [], ◌∷◌, ◌++◌, length, take, drop, refl, sym, ap, ◌∙◌, subst, append_assoc, arith}
use Rattle.std.proofs.lemmas.Bool.{and_parts, cases_lt}
use Rattle.std.proofs.lemmas.List.{length-take, take-take, take_at}
use Rattle.std.proofs.lemmas.List.Folds.{list_any-append}
use Rattle.std.proofs.lemmas.Slice.Eq.{bytes_eq-Decides}
use Rattle.std.specs.List.{list_any}
use Rattle.std.specs.Prelude.{is_some, min, Option, Some, None, ◌==◌}
use Rattle.std.specs.Str.{bytes_eq}
use Rattle.ch_wire.specs.Spelling.{answer_spelling, answer_numbered}
use Rattle.ch_wire.specs.declared.answer.Answer.{Answer}
use Rattle.ch_wire.specs.declared.answer.Answer.TheVariants as answers
use Rattle.ch_reader.specs.Reading.{answer_glance, words_glance, rest_reading}
use Rattle.ch_reader.specs.Streams.{first_word}
use Rattle.ch_reader.specs.declared.item.Expected.TheVariants as expected
use Rattle.ch_reader.specs.declared.item.Front.{Front}
use Rattle.ch_reader.specs.declared.item.Front.TheVariants as fronts
use Rattle.ch_reader.proofs.Headers.{glance_short, glance_long}
use Rattle.ch_model.specs.declared.entry.Entry.{Entry}
use Rattle.ch_model.specs.declared.entry.Entry.TheVariants as entries
use Rattle.ch_model.specs.declared.line.Line.{Line}
use Rattle.ch_model.specs.declared.name.End.{End}
use Rattle.ch_model.specs.declared.name.End.TheVariants.{O, T}
use Rattle.ch_model.specs.declared.name.SockName.{SockName}
use Rattle.ch_model.specs.AccountsBytes.{writes_an_item, opener_has_read}
use Rattle.ch_model.specs.AccountsItems.{item_of_front, item_of}
use Rattle.ch_model.specs.Links.{rises, has_risen, target_rises_first}
use Rattle.ch_model.specs.Logs.{each, each_after}
use Rattle.ch_model.specs.Same.{same_socket, same_end}
use Rattle.ch_model.specs.Sockets.{puts, written, fed, writing, writings}
use Rattle.ch_laws_log.proofs.Blocks.{each_append}
use Rattle.ch_laws_log.proofs.Stored.{number_is, same_is}
use Rattle.ch_laws_writes.proofs.Written.{wrote_more}
use Rattle.ch_laws_risen.specs.Risings.{accepted_risen}
use Rattle.ch_laws_risen.proofs.Logs.{both}

-- ---- an answer is four bytes

-- the front of so many bytes takes all of them
abbrev TakesAll : Front → ℕ → ℕ → Type 0
TakesAll front n size = is_some (item_of_front (front, n) size) ≡ true

takes_all : (front : Front) (n size : ℕ) → TakesAll front n size → n ≡ size
takes_all front n size e = by_front front e where
  by_test : (b : Bool) → (n == size) ≡ b → b ≡ true → n ≡ size
  by_test true h e = number_is n size h
  by_test false h e = absurd cc

  same_test : {A : Type 0} (x : A) (b : Bool) → is_some (cond b (Some x) None) ≡ true → b ≡ true
  same_test x true e = refl
  same_test x false e = absurd cc

  by_front : (front : Front) → TakesAll front n size → n ≡ size
  by_front (fronts.Whole item) e = by_test (n == size) refl (same_test item (n == size) e)
  by_front fronts.Unfinished e = absurd cc
  by_front (fronts.Refused error) e = absurd cc

four : (bytes : List ℕ) → is_some (item_of expected.Answer bytes) ≡ true → length bytes ≡ 4
four bytes e = by_case (cases_lt (length bytes) 4) where
  size : min 4 (length bytes) + (rest_reading (words_glance expected.Answer bytes) (drop 4 bytes)).1 ≡ length bytes → 4 ≤ length bytes → length bytes ≡ 4
  size s le = sum (length bytes) _ (settled (answer_numbered (first_word bytes))) s le where
    settled : (o : Option Answer) → (rest_reading (answer_glance o) (drop 4 bytes)).1 ≡ 0
    settled None = refl
    settled (Some answer) = refl

    sum : (n m : ℕ) → m ≡ 0 → min 4 n + m ≡ n → 4 ≤ n → n ≡ 4
    sum n m z s le = omega (arith, z, s, le)

  by_case : (length bytes < 4) ⊎ (4 ≤ length bytes) → length bytes ≡ 4
  by_case (inl lt) = let none : ◌≡◌ {A = Bool} false true = subst (λ g. TakesAll (rest_reading g (drop 4 bytes)).0 (min 4 (length bytes) + (rest_reading g (drop 4 bytes)).1) (length bytes)) (glance_short expected.Answer bytes lt) e in absurd cc
  by_case (inr le) = size (takes_all (rest_reading (words_glance expected.Answer bytes) (drop 4 bytes)).0 (min 4 (length bytes) + (rest_reading (words_glance expected.Answer bytes) (drop 4 bytes)).1) (length bytes) (subst (λ g. TakesAll (rest_reading g (drop 4 bytes)).0 (min 4 (length bytes) + (rest_reading g (drop 4 bytes)).1) (length bytes)) (glance_long expected.Answer bytes le) e)) le

-- where what was fed of it begins with the accepting answer, it is that
is_accepting : (n : ℕ) (bytes more : List ℕ) → length bytes ≡ 4 → bytes_eq (answer_spelling answers.Accepted) (take 4 (take n (bytes ++ more))) ≡ true → bytes ≡ answer_spelling answers.Accepted
is_accepting n bytes more long e = sym (take_at bytes more 4 long) ∙ sym (take-take 4 n (bytes ++ more) enough) ∙ sym same where
  same : answer_spelling answers.Accepted ≡ take 4 (take n (bytes ++ more))
  same = (bytes_eq-Decides (answer_spelling answers.Accepted) (take 4 (take n (bytes ++ more)))).0 e

  enough : 4 ≤ n
  enough = omega (arith, ap length same, length-take 4 (take n (bytes ++ more)), length-take n (bytes ++ more))

-- ---- the first that a target writes

off : (b : Bool) → (b && false) ≡ false
off true = refl
off false = refl

-- entries before hold none of its writings
scan : (journal : List Line) (s : SockName) (n : ℕ) (before rest : List Entry) → writings before s T ≡ [] → each_after (writes_an_item journal) before rest ≡ true → each_after accepted_risen before rest ≡ true
    → bytes_eq (answer_spelling answers.Accepted) (take 4 (take n (written rest s O))) ≡ true → list_any (rises s T) (before ++ rest) ≡ true
scan journal s n before [] none i a e = absurd (empty n e) where
  empty : (n : ℕ) → bytes_eq (answer_spelling answers.Accepted) (take 4 (take {A = ℕ} n [])) ≡ true → ⊥
  empty zero e = absurd cc
  empty (suc n) e = absurd cc
scan journal s n before (x ∷ more) none i a e = by_entry x is.0 so.0 e (λ w h. subst (λ (l : List Entry). list_any (rises s T) l ≡ true) (append_assoc before (x ∷ []) more) (scan journal s n (before ++ x ∷ []) more (wrote_more before x s T w ∙ none) is.1 so.1 h)) where
  is : (writes_an_item journal before x ≡ true) × (each_after (writes_an_item journal) (before ++ x ∷ []) more ≡ true)
  is = and_parts (writes_an_item journal before x) (each_after (writes_an_item journal) (before ++ x ∷ []) more) i

  so : (accepted_risen before x ≡ true) × (each_after accepted_risen (before ++ x ∷ []) more ≡ true)
  so = and_parts (accepted_risen before x) (each_after accepted_risen (before ++ x ∷ []) more) a

  Goal : Entry → Type 0
  Goal y = list_any (rises s T) (before ++ y ∷ more) ≡ true

  risen : (y : Entry) → has_risen before s T ≡ true → list_any (rises s T) (before ++ y ∷ more) ≡ true
  risen y r = list_any-append (rises s T) before (y ∷ more) ∙ ap (λ b. b || list_any (rises s T) (y ∷ more)) r

  accepts : (b r : Bool) → b ≡ true → (not b || r) ≡ true → r ≡ true
  accepts true r e h = h
  accepts false r e h = absurd cc

  own : (sock : SockName) (bytes : List ℕ) → sock ≡ s → is_some (item_of (cond (length (writings before sock T) == 0) expected.Answer expected.Frame) bytes) ≡ true → (not (bytes_eq bytes (answer_spelling answers.Accepted)) || has_risen before sock T) ≡ true
      → bytes_eq (answer_spelling answers.Accepted) (take 4 (take n (bytes ++ written more s O))) ≡ true → has_risen before s T ≡ true
  own sock bytes same item accepted e =
      let first : is_some (item_of expected.Answer bytes) ≡ true = subst (λ (l : List (List ℕ)). is_some (item_of (cond (length l == 0) expected.Answer expected.Frame) bytes) ≡ true) (ap (λ (k : SockName). writings before k T) same ∙ none) item in
      let is : bytes ≡ answer_spelling answers.Accepted = is_accepting n bytes (written more s O) (four bytes first) e in
      subst (λ (k : SockName). has_risen before k T ≡ true) same (accepts (bytes_eq bytes (answer_spelling answers.Accepted)) (has_risen before sock T) ((bytes_eq-Decides bytes (answer_spelling answers.Accepted)).1 is) accepted)

  by_wrote : (sock : SockName) (end : End) (bytes : List ℕ) → writes_an_item journal before (entries.Wrote sock end bytes) ≡ true → accepted_risen before (entries.Wrote sock end bytes) ≡ true → (b : Bool) → (same_socket sock s && same_end end T) ≡ b
      → bytes_eq (answer_spelling answers.Accepted) (take 4 (take n (cond b bytes [] ++ written more s O))) ≡ true
      → (cond b (Some bytes) None ≡ None → bytes_eq (answer_spelling answers.Accepted) (take 4 (take n (written more s O))) ≡ true → list_any (rises s T) (before ++ entries.Wrote sock end bytes ∷ more) ≡ true) → list_any (rises s T) (before ++ entries.Wrote sock end bytes ∷ more) ≡ true
  by_wrote sock T bytes i a true h e next = risen (entries.Wrote sock T bytes) (own sock bytes (same_is sock s (and_parts (same_socket sock s) true h).0) i a e)
  by_wrote sock O bytes i a true h e next = let clash = and_parts (same_socket sock s) false h in absurd cc
  by_wrote sock end bytes i a false h e next = next refl e

  by_entry : (y : Entry) → writes_an_item journal before y ≡ true → accepted_risen before y ≡ true → bytes_eq (answer_spelling answers.Accepted) (take 4 (take n (puts s O y ++ written more s O))) ≡ true
      → (writing s T y ≡ None → bytes_eq (answer_spelling answers.Accepted) (take 4 (take n (written more s O))) ≡ true → list_any (rises s T) (before ++ y ∷ more) ≡ true) → list_any (rises s T) (before ++ y ∷ more) ≡ true
  by_entry (entries.Wrote sock end bytes) i a e next = by_wrote sock end bytes i a (same_socket sock s && same_end end T) refl e next
  by_entry (entries.Poked sock bytes) i a e next = next refl (subst (λ b. bytes_eq (answer_spelling answers.Accepted) (take 4 (take n (cond b bytes [] ++ written more s O))) ≡ true) (off (same_socket sock s)) e)
  by_entry y i a e next = next refl e

-- ---- a log

one_first : (journal : List Line) (log : List Entry) (x : Entry) → each (writes_an_item journal) log ≡ true → each accepted_risen log ≡ true → opener_has_read log x ≡ true → target_rises_first log x ≡ true
one_first journal log (entries.Up s O) i a h = scan journal s (fed log s O) [] log refl i a h
one_first journal log (entries.Up s T) i a h = refl
one_first journal log x i a h = refl

pub rises_first : (journal : List Line) (before rest : List Entry) → each (writes_an_item journal) before ≡ true → each accepted_risen before ≡ true → each_after (writes_an_item journal) before rest ≡ true → each_after accepted_risen before rest ≡ true → each_after opener_has_read before rest ≡ true
    → each_after target_rises_first before rest ≡ true
rises_first journal before [] i a is os hs = refl
rises_first journal before (x ∷ rest) i a is os hs =
    let w = and_parts (writes_an_item journal before x) (each_after (writes_an_item journal) (before ++ x ∷ []) rest) is in
    let c = and_parts (accepted_risen before x) (each_after accepted_risen (before ++ x ∷ []) rest) os in
    let h = and_parts (opener_has_read before x) (each_after opener_has_read (before ++ x ∷ []) rest) hs in
    both (target_rises_first before x) (each_after target_rises_first (before ++ x ∷ []) rest) (one_first journal before x i a h.0)
    (rises_first journal (before ++ x ∷ []) rest (each_append (writes_an_item journal) [] before (x ∷ []) i (both (writes_an_item journal before x) true w.0 refl)) (each_append accepted_risen [] before (x ∷ []) a (both (accepted_risen before x) true c.0 refl)) w.1 c.1 h.1)
