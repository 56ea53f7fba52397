-- The words at the front: what they tell depends on them alone.
use Rattle.std.proofs.Common.{◌≡◌, ℕ, ◌+◌, ◌-◌, ◌<◌, ◌≤◌, min, Bool, true, false, cond, nat_lt, ◌⊎◌, inl, inr, List, [], ◌∷◌, ◌++◌, length, take, drop, refl, sym, ap, ◌∙◌, append_assoc, arith}
use Rattle.std.proofs.Math.Seq.{take-add}
use Rattle.std.proofs.lemmas.Bool.{cases_lt, le-ltb, lt-ltb}
use Rattle.std.proofs.lemmas.List.{append-nil, length-append, length-take, length-drop, take-append-drop, take-append-le, drop-append-le, take_all, take_at, take_min}
use Rattle.ch_wire.specs.Words.{word_value}
use Rattle.ch_wire.specs.Spelling.{head_numbered, answer_numbered}
use Rattle.ch_wire.specs.declared.TheConstants.{MOST_ADDRESS_BYTES}
use Rattle.ch_wire.specs.declared.frame.Head.{Head}
use Rattle.ch_wire.specs.declared.frame.Head.TheVariants as heads
use Rattle.ch_reader.specs.declared.item.Expected.{Expected}
use Rattle.ch_reader.specs.declared.item.Expected.TheVariants as expected
use Rattle.ch_reader.specs.declared.item.ReaderError.TheVariants.{AddressLong}
use Rattle.ch_reader.specs.declared.item.Front.TheVariants.{Unfinished}
use Rattle.ch_reader.specs.declared.glance.Glance.{Glance}
use Rattle.ch_reader.specs.declared.glance.Glance.TheVariants.{Settled}
use Rattle.ch_reader.specs.declared.glance.Opened.TheVariants as opened
use Rattle.ch_reader.specs.Streams.{first_word, second_word}
use Rattle.ch_reader.specs.Reading.{frame_header_size, header_size, counted_body, answer_glance, frame_glance, words_glance, glance_at}
use Rattle.ch_reader.specs.Keeping.{Completes}

pub first_word_front : (xs ys : List ℕ) → 4 ≤ length xs → first_word (xs ++ ys) ≡ first_word xs
first_word_front xs ys h = ap word_value (take-append-le 4 xs ys h)

pub second_word_front : (xs ys : List ℕ) → 8 ≤ length xs → second_word (xs ++ ys) ≡ second_word xs
second_word_front xs ys h =
    ap (λ (bytes : List ℕ). word_value (take 4 bytes)) (drop-append-le 4 xs ys (omega arith))
    ∙ ap word_value (take-append-le 4 (drop 4 xs) ys (omega (arith, length-drop 4 xs)))

pub frame_size_cases : (h : Head) → (frame_header_size h ≡ 4) ⊎ (frame_header_size h ≡ 8)
frame_size_cases heads.Created = inr refl
frame_size_cases heads.Closed = inr refl
frame_size_cases heads.EndClosed = inl refl
frame_size_cases heads.Probe = inl refl
frame_size_cases heads.ProbeAck = inl refl
frame_size_cases (heads.Data id) = inr refl
frame_size_cases heads.Unknown = inl refl

-- the size of a frame's words, with its test apart
abbrev pub frame_size : Bool → Head → ℕ
frame_size short h = cond short 4 (frame_header_size h)

frame_size_bounds : (short : Bool) (h : Head) → (4 ≤ frame_size short h) × (frame_size short h ≤ 8)
frame_size_bounds true h = (omega arith, omega arith)
frame_size_bounds false h = elim (frame_size_cases h) [ inl e ↦ (omega arith, omega arith) | inr e ↦ (omega arith, omega arith) ]

pub size_bounds : (e : Expected) (bytes : List ℕ) → (4 ≤ header_size e bytes) × (header_size e bytes ≤ 8)
size_bounds expected.Request bytes = (omega arith, omega arith)
size_bounds expected.Answer bytes = (omega arith, omega arith)
size_bounds expected.Frame bytes = frame_size_bounds (nat_lt (length bytes) 4) (head_numbered (first_word bytes))

-- once the first word is whole it decides
pub size_front : (e : Expected) (xs ys : List ℕ) → 4 ≤ length xs → header_size e (xs ++ ys) ≡ header_size e xs
size_front expected.Request xs ys h = refl
size_front expected.Answer xs ys h = refl
size_front expected.Frame xs ys h =
    ap (λ (t : Bool). frame_size t (head_numbered (first_word (xs ++ ys)))) (le-ltb (length (xs ++ ys)) 4 (omega (arith, length-append xs ys)) ∙ sym (le-ltb (length xs) 4 h))
    ∙ ap (λ (n : ℕ). frame_size (nat_lt (length xs) 4) (head_numbered n)) (first_word_front xs ys h)

-- a frame of one word has no second
one_word : (h : Head) (m n : ℕ) → frame_header_size h ≡ 4 → frame_glance h m ≡ frame_glance h n
one_word heads.Created m n e = absurd (omega arith)
one_word heads.Closed m n e = absurd (omega arith)
one_word heads.EndClosed m n e = refl
one_word heads.Probe m n e = refl
one_word heads.ProbeAck m n e = refl
one_word (heads.Data id) m n e = absurd (omega arith)
one_word heads.Unknown m n e = refl

frame_words : (h : Head) (xs ys : List ℕ) → frame_header_size h ≤ length xs → frame_glance h (second_word (xs ++ ys)) ≡ frame_glance h (second_word xs)
frame_words h xs ys le =
    elim (frame_size_cases h) [ inl e ↦ one_word h _ _ e | inr e ↦ ap (frame_glance h) (second_word_front xs ys (omega arith)) ]

frame_size_long : (short : Bool) (h : Head) → short ≡ false → frame_size short h ≡ frame_header_size h
frame_size_long short h e = ap (λ (t : Bool). frame_size t h) e

words_front : (e : Expected) (xs ys : List ℕ) → header_size e xs ≤ length xs → 4 ≤ length xs → words_glance e (xs ++ ys) ≡ words_glance e xs
words_front expected.Request xs ys h four =
    ap (λ (n : ℕ). counted_body (opened.Request n) MOST_ADDRESS_BYTES AddressLong (second_word (xs ++ ys))) (first_word_front xs ys four)
    ∙ ap (counted_body (opened.Request (first_word xs)) MOST_ADDRESS_BYTES AddressLong) (second_word_front xs ys h)
words_front expected.Answer xs ys h four = ap (λ (n : ℕ). answer_glance (answer_numbered n)) (first_word_front xs ys four)
words_front expected.Frame xs ys h four =
    let size = frame_size_long (nat_lt (length xs) 4) (head_numbered (first_word xs)) (le-ltb (length xs) 4 four) in
    ap (λ (n : ℕ). frame_glance (head_numbered n) (second_word (xs ++ ys))) (first_word_front xs ys four)
    ∙ frame_words (head_numbered (first_word xs)) xs ys (omega arith)

-- the test of whether the words are whole
abbrev if_whole : Bool → Glance → Glance
if_whole short g = cond short (Settled Unfinished) g

pub glance_short : (e : Expected) (bytes : List ℕ) → length bytes < header_size e bytes → glance_at e bytes ≡ Settled Unfinished
glance_short e bytes h = ap (λ (t : Bool). if_whole t (words_glance e bytes)) (lt-ltb (length bytes) (header_size e bytes) h)

pub glance_long : (e : Expected) (bytes : List ℕ) → header_size e bytes ≤ length bytes → glance_at e bytes ≡ words_glance e bytes
glance_long e bytes h = ap (λ (t : Bool). if_whole t (words_glance e bytes)) (le-ltb (length bytes) (header_size e bytes) h)

-- whole words tell the same whatever follows
pub glance_front : (e : Expected) (xs ys : List ℕ) → header_size e xs ≤ length xs → glance_at e (xs ++ ys) ≡ glance_at e xs
glance_front e xs ys h =
    let four : 4 ≤ length xs = omega (arith, (size_bounds e xs).0) in
    let size = size_front e xs ys four in
    glance_long e (xs ++ ys) (omega (arith, size, length-append xs ys)) ∙ words_front e xs ys h four ∙ sym (glance_long e xs h)

-- the front's size is that of all
pub size_of_front : (e : Expected) (bytes : List ℕ) → header_size e (take (header_size e bytes) bytes) ≡ header_size e bytes
size_of_front e bytes =
    let s : ℕ = header_size e bytes in
    elim (cases_lt (length bytes) s) [
      | inl lt ↦ ap (header_size e) (take_all s bytes (omega arith))
      | inr le ↦ sym (size_front e (take s bytes) (drop s bytes) (omega (arith, length-take s bytes, (size_bounds e bytes).0))) ∙ ap (header_size e) (take-append-drop s bytes)
    ]

-- the words at the front tell what all tells
pub glance_of_front : (e : Expected) (bytes : List ℕ) → glance_at e (take (header_size e bytes) bytes) ≡ glance_at e bytes
glance_of_front e bytes =
    let s : ℕ = header_size e bytes in
    elim (cases_lt (length bytes) s) [
      | inl lt ↦ ap (glance_at e) (take_all s bytes (omega arith))
      | inr le ↦ sym (glance_front e (take s bytes) (drop s bytes) (omega (arith, length-take s bytes, size_of_front e bytes))) ∙ ap (glance_at e) (take-append-drop s bytes)
    ]

-- a front of this length is what is taken
pub front_is : (front rest bytes : List ℕ) (n : ℕ) → bytes ≡ front ++ rest → length front ≡ min n (length bytes) → front ≡ take n bytes
front_is front rest bytes n e l = sym (take_at front rest (min n (length bytes)) l) ∙ ap (take (min n (length bytes))) (sym e) ∙ take_min n bytes

-- the words after two fillings, to one word and then to all
pub completes : (e : Expected) (words piece rest first now : List ℕ) (n m : ℕ) → length words ≤ header_size e words
    → first ≡ words ++ take n piece → n ≡ min (4 - length words) (length piece) → rest ≡ drop n piece
    → now ≡ first ++ take m rest → m ≡ min (header_size e first - length first) (length rest)
    → Completes e words piece now (n + m)
completes e words piece rest first now n m low f fn r g gm =
    let all : List ℕ = words ++ piece in
    let len_all : length all ≡ length words + length piece = length-append words piece in
    let len_rest : length rest ≡ length piece - n = ap length r ∙ length-drop n piece in
    let len_first : length first ≡ length words + n = ap length f ∙ omega (arith, length-append words (take n piece), length-take n piece) in
    let len_now : length now ≡ length first + m = ap length g ∙ omega (arith, length-append first (take m rest), length-take m rest) in
    let split : all ≡ first ++ rest = ap (λ (xs : List ℕ). words ++ xs) (sym (take-append-drop n piece)) ∙ sym (append_assoc words (take n piece) (drop n piece)) ∙ (ap (λ (xs : List ℕ). xs ++ drop n piece) (sym f) ∙ ap (λ (xs : List ℕ). first ++ xs) (sym r)) in
    let size : header_size e all ≡ header_size e first = elim (cases_lt (length all) 4) [
      | inl lt ↦ ap (header_size e) (whole first rest all split (omega arith))
      | inr le ↦ ap (header_size e) split ∙ size_front e first rest (omega arith)
    ] in
    let bounds = size_bounds e first in
    let first_low : length first ≤ header_size e first = elim (cases_lt (length words) 4) [
      | inl lt ↦ omega arith
      | inr le ↦ omega (arith, ap (header_size e) f ∙ size_front e words (take n piece) le)
    ] in
    record {
      within = omega arith;
      bytes = g ∙ ap (λ (xs : List ℕ). xs ++ take m rest) f ∙ append_assoc words (take n piece) (take m rest) ∙ ap (λ (xs : List ℕ). words ++ xs) (ap (λ (xs : List ℕ). take n piece ++ take m xs) r ∙ sym (take-add n m piece));
      front = front_is now (drop m rest) all (header_size e all) (split ∙ (ap (λ (xs : List ℕ). first ++ xs) (sym (take-append-drop m rest)) ∙ sym (append_assoc first (take m rest) (drop m rest)) ∙ ap (λ (xs : List ℕ). xs ++ drop m rest) (sym g))) (omega arith);
    }
  where
    whole : (xs ys all : List ℕ) → all ≡ xs ++ ys → length all ≤ length xs → all ≡ xs
    whole xs [] all e l = e ∙ append-nil xs
    whole xs (y ∷ ys) all e l = absurd (omega (arith, ap length e, length-append xs (y ∷ ys)))
