-- What is read stands there: a spelled item, an unfinished rest, a refusal.
use Rattle.std.proofs.Common.{◌≡◌, ℕ, ◌+◌, ◌<◌, ◌≤◌, ◌^◌, min, Bool, true, false, cond, nat_lt, ◌==◌, ◌⊎◌, inl, inr, Option, Some, None, Result, Ok, Err, List, ◌++◌, length, take, drop, refl, sym, ap, subst, ◌∙◌, append_assoc, arith}
use Rattle.std.specs.Prelude.{IsErr}
use Rattle.std.proofs.lemmas.Bool.{cases_lt, ltb-true, ltb-false, eqb-true}
use Rattle.std.proofs.lemmas.Bool.Decides.{nat_tests}
use Rattle.std.proofs.lemmas.List.{length-take, length-drop, take-take, drop-take, take-append-drop, drop-drop, get_or-drop, get_or-take, get_or_past}
use Rattle.std.proofs.lemmas.Nat.{be_bytes_4}
use Rattle.ch_base.specs.AddressValues.{AddressValue}
use Rattle.ch_base.specs.Addresses.{address_text, read_address}
use Rattle.ch_base.specs.declared.address.AddressError.{AddressError}
use Rattle.ch_base.proofs.Addresses.{read_found}
use Rattle.ch_wire.specs.Words.{word, word_value, counted}
use Rattle.ch_wire.specs.Spelling.{answer_number, answer_numbered, head_numbered}
use Rattle.ch_wire.specs.declared.TheConstants.{FIRST_ID, MOST_ADDRESS_BYTES, MOST_PAYLOAD_BYTES}
use Rattle.ch_wire.specs.declared.answer.Answer.{Answer}
use Rattle.ch_wire.specs.declared.answer.Answer.TheVariants.{Accepted, Invalid, Crossed, Mismatch}
use Rattle.ch_wire.specs.declared.frame.Frame.TheVariants as frames
use Rattle.ch_wire.specs.declared.frame.Head.{Head}
use Rattle.ch_wire.specs.declared.frame.Head.TheVariants as heads
use Rattle.ch_wire.proofs.Words.{counted_regrouped}
use Rattle.ch_reader.specs.declared.item.Expected.{Expected}
use Rattle.ch_reader.specs.declared.item.Expected.TheVariants as expected
use Rattle.ch_reader.specs.declared.item.Item.TheVariants as items
use Rattle.ch_reader.specs.declared.item.ReaderError.TheVariants.{UnknownControl, PayloadLong, AddressLong, BadAnswer}
use Rattle.ch_reader.specs.declared.item.Front.{Front}
use Rattle.ch_reader.specs.declared.item.Front.TheVariants.{Unfinished, Whole, Refused}
use Rattle.ch_reader.specs.declared.glance.Glance.TheVariants.{Settled, Body}
use Rattle.ch_reader.specs.declared.glance.Opened.{Opened}
use Rattle.ch_reader.specs.declared.glance.Opened.TheVariants as opened
use Rattle.ch_reader.specs.Items.{item_spelling, MayStand}
use Rattle.ch_reader.specs.Streams.{first_word, second_word, IsPartOfFrame, IsUnfinished, IsUnknownControl, IsRefusal}
use Rattle.ch_reader.specs.Reading.{frame_header_size, header_size, answer_glance, frame_glance, words_glance, request_front, body_front, reading}
use Rattle.ch_reader.specs.Runs.{IsBytes}
use Rattle.ch_reader.proofs.Bodies.{body_whole}
use Rattle.ch_reader.proofs.Headers.{size_bounds, glance_short, glance_long}
use Rattle.ch_reader.proofs.Readings.{read_by, reading_by, body_short}
use Rattle.ch_reader.proofs.Complete.{frame_size_is}

-- ---- bytes and words

bytes_of_drop : (n : ℕ) (bytes : List ℕ) → IsBytes bytes → IsBytes (drop n bytes)
bytes_of_drop n bytes h i = rw get_or-drop (h (n + i))

bytes_of_take : (n : ℕ) (bytes : List ℕ) → IsBytes bytes → IsBytes (take n bytes)
bytes_of_take n bytes h i =
    elim (cases_lt i n) [
      | inl lt ↦ rw (get_or-take n bytes i 0 lt) (h i)
      | inr le ↦ rw (get_or_past (take n bytes) i 0 (omega (arith, length-take n bytes))) (omega arith)
    ]

below : (bytes : List ℕ) → IsBytes bytes → word_value bytes < 2 ^ 32
below bytes fits = omega (arith, fits 0, fits 1, fits 2, fits 3)

first_below : (bytes : List ℕ) → IsBytes bytes → first_word bytes < 2 ^ 32
first_below bytes fits = below (take 4 bytes) (bytes_of_take 4 bytes fits)

second_below : (bytes : List ℕ) → IsBytes bytes → second_word bytes < 2 ^ 32
second_below bytes fits = below (take 4 (drop 4 bytes)) (bytes_of_take 4 (drop 4 bytes) (bytes_of_drop 4 bytes fits))

front_word : (bytes : List ℕ) → IsBytes bytes → 4 ≤ length bytes → word (word_value (take 4 bytes)) ++ drop 4 bytes ≡ bytes
front_word bytes fits le =
    ap (λ (xs : List ℕ). xs ++ drop 4 bytes) (be_bytes_4 (take 4 bytes) (word_value (take 4 bytes)) (omega (arith, length-take 4 bytes)) (bytes_of_take 4 bytes fits) refl)
    ∙ take-append-drop 4 bytes

-- bytes begin with their first word
split_one : (bytes : List ℕ) (n : ℕ) → IsBytes bytes → 4 ≤ length bytes → first_word bytes ≡ n → bytes ≡ word n ++ drop 4 bytes
split_one bytes n fits le is = sym (front_word bytes fits le) ∙ ap (λ (m : ℕ). word m ++ drop 4 bytes) is

-- bytes begin with their two words
split_two : (bytes : List ℕ) (n : ℕ) → IsBytes bytes → 8 ≤ length bytes → first_word bytes ≡ n → bytes ≡ word n ++ (word (second_word bytes) ++ drop 8 bytes)
split_two bytes n fits le is =
    split_one bytes n fits (omega arith) is
    ∙ ap (λ (xs : List ℕ). word n ++ xs) (sym (front_word (drop 4 bytes) (bytes_of_drop 4 bytes fits) (omega (arith, length-drop 4 bytes)))
    ∙ ap (λ (xs : List ℕ). word (second_word bytes) ++ xs) (drop-drop 4 4 bytes))

-- bytes begin with counted ones
split_counted : (bytes text : List ℕ) (n : ℕ) → IsBytes bytes → 8 ≤ length bytes → first_word bytes ≡ n → text ≡ take (second_word bytes) (drop 8 bytes) → second_word bytes ≤ length (drop 8 bytes)
    → bytes ≡ counted n text ++ drop (8 + second_word bytes) bytes
split_counted bytes text n fits le is e enough =
    let count : ℕ = second_word bytes in
    let len : count ≡ length text = omega (arith, ap length e, length-take count (drop 8 bytes)) in
    let tail : drop 8 bytes ≡ text ++ drop (8 + count) bytes =
    sym (take-append-drop count (drop 8 bytes)) ∙ ap (λ (xs : List ℕ). xs ++ drop count (drop 8 bytes)) (sym e) ∙ ap (λ (xs : List ℕ). text ++ xs) (drop-drop count 8 bytes) in
    split_two bytes n fits le is
    ∙ ap (λ (k : ℕ). word n ++ (word k ++ drop 8 bytes)) len
    ∙ ap (λ (xs : List ℕ). word n ++ (word (length text) ++ xs)) tail
    ∙ sym (counted_regrouped n text (drop (8 + count) bytes))

first_of_take : (n : ℕ) (bytes : List ℕ) → 4 ≤ n → first_word (take n bytes) ≡ first_word bytes
first_of_take n bytes le = ap word_value (take-take 4 n bytes le)

second_of_take : (n : ℕ) (bytes : List ℕ) → 4 ≤ n → second_word (take (4 + n) bytes) ≡ second_word bytes
second_of_take n bytes le = ap (λ (xs : List ℕ). word_value (take 4 xs)) (drop-take 4 n bytes) ∙ ap word_value (take-take 4 n (drop 4 bytes) le)

-- ---- what a number stands for

abbrev AnswerSays : ℕ → Option Answer → Type 0
AnswerSays n (Some a) = n ≡ answer_number a
AnswerSays n None = 3 < n

answer_by : (n : ℕ) (t u v w : Bool) → (n == 0) ≡ t → (n == 1) ≡ u → (n == 2) ≡ v → (n == 3) ≡ w
    → AnswerSays n (cond t (Some Accepted) (cond u (Some Invalid) (cond v (Some Crossed) (cond w (Some Mismatch) None))))
answer_by n true u v w a b c d = eqb-true n 0 a
answer_by n false true v w a b c d = eqb-true n 1 b
answer_by n false false true w a b c d = eqb-true n 2 c
answer_by n false false false true a b c d = eqb-true n 3 d
answer_by n false false false false a b c d = grind (arith, nat_tests)

answer_says : (n : ℕ) → AnswerSays n (answer_numbered n)
answer_says n = answer_by n (n == 0) (n == 1) (n == 2) (n == 3) refl refl refl refl

abbrev HeadSays : ℕ → Head → Type 0
HeadSays n heads.Created = n ≡ 0
HeadSays n heads.Closed = n ≡ 1
HeadSays n heads.EndClosed = n ≡ 3
HeadSays n heads.Probe = n ≡ 4
HeadSays n heads.ProbeAck = n ≡ 5
HeadSays n (heads.Data id) = (n ≡ id) × (FIRST_ID ≤ n)
HeadSays n heads.Unknown = IsUnknownControl n

unknown_by : (n : ℕ) (t : Bool) → (n == 2) ≡ t → (n == 0) ≡ false → (n == 1) ≡ false → (n == 3) ≡ false → (n == 4) ≡ false → (n == 5) ≡ false → n < FIRST_ID → IsUnknownControl n
unknown_by n true t a b c d e lt = inl (eqb-true n 2 t)
unknown_by n false t a b c d e lt = inr (six, lt)
  where
    six : 6 ≤ n
    six = grind (arith, nat_tests)

head_by : (n : ℕ) (t u v w x y : Bool) → (n == 0) ≡ t → (n == 1) ≡ u → (n == 3) ≡ v → (n == 4) ≡ w → (n == 5) ≡ x → nat_lt n FIRST_ID ≡ y
    → HeadSays n (cond t heads.Created (cond u heads.Closed (cond v heads.EndClosed (cond w heads.Probe (cond x heads.ProbeAck (cond y heads.Unknown (heads.Data n)))))))
head_by n true u v w x y a b c d e f = eqb-true n 0 a
head_by n false true v w x y a b c d e f = eqb-true n 1 b
head_by n false false true w x y a b c d e f = eqb-true n 3 c
head_by n false false false true x y a b c d e f = eqb-true n 4 d
head_by n false false false false true y a b c d e f = eqb-true n 5 e
head_by n false false false false false true a b c d e f = unknown_by n (n == 2) refl a b c d e (ltb-true n FIRST_ID f)
head_by n false false false false false false a b c d e f = (refl, ltb-false n FIRST_ID f)

head_says : (n : ℕ) → HeadSays n (head_numbered n)
head_says n = head_by n (n == 0) (n == 1) (n == 3) (n == 4) (n == 5) (nat_lt n FIRST_ID) refl refl refl refl refl refl

-- ---- what a front says of the bytes

-- what stands at the front of the bytes, with so many bytes of it
abbrev pub SaysFront : Expected → List ℕ → Front → ℕ → Type 0
SaysFront e bytes Unfinished n = IsUnfinished e bytes
SaysFront e bytes (Whole item) n = MayStand e item × (bytes ≡ item_spelling item ++ drop n bytes)
SaysFront e bytes (Refused error) n = IsRefusal e error (take n bytes)

abbrev Says : Expected → List ℕ → Front × ℕ → Type 0
Says e bytes r = SaysFront e bytes r.0 r.1

settled_says : (e : Expected) (bytes : List ℕ) (size : ℕ) (front : Front) → size ≤ length bytes → SaysFront e bytes front size → Says e bytes (read_by size (length bytes) (drop size bytes) (Settled front))
settled_says e bytes size front le s = subst (SaysFront e bytes front) (let k : size ≡ min size (length bytes) + 0 = omega arith in k) s

body_says : (e : Expected) (bytes : List ℕ) (o : Opened) (count : ℕ) → 8 ≤ length bytes → (length bytes < 8 + count → IsUnfinished e bytes) → (count ≤ length (drop 8 bytes) → SaysFront e bytes (body_front o (take count (drop 8 bytes))) (8 + count))
    → Says e bytes (read_by 8 (length bytes) (drop 8 bytes) (Body o count))
body_says e bytes o count le short whole =
    elim (cases_lt (length (drop 8 bytes)) count) [
      | inl lt ↦ subst (λ (r : Front × ℕ). SaysFront e bytes r.0 (min 8 (length bytes) + r.1)) (sym (body_short o count (drop 8 bytes) lt)) (short (omega (arith, length-drop 8 bytes)))
      | inr ge ↦ subst (λ (r : Front × ℕ). SaysFront e bytes r.0 (min 8 (length bytes) + r.1)) (sym (body_whole o count (drop 8 bytes) ge))
          (subst (SaysFront e bytes (body_front o (take count (drop 8 bytes)))) (let k : 8 + count ≡ min 8 (length bytes) + count = omega arith in k) (whole ge))
    ]

-- ---- short words

part_of : (bytes : List ℕ) (h : Head) → 4 ≤ length bytes → length bytes < frame_header_size h → IsPartOfFrame h bytes
part_of bytes heads.Created four lt = lt
part_of bytes heads.Closed four lt = lt
part_of bytes heads.EndClosed four lt = absurd (omega arith)
part_of bytes heads.Probe four lt = absurd (omega arith)
part_of bytes heads.ProbeAck four lt = absurd (omega arith)
part_of bytes (heads.Data id) four lt = inl lt
part_of bytes heads.Unknown four lt = absurd (omega arith)

short_frame : (bytes : List ℕ) → length bytes < header_size expected.Frame bytes → (length bytes < 4) ⊎ (4 ≤ length bytes) → IsUnfinished expected.Frame bytes
short_frame bytes lt (inl four) = inl four
short_frame bytes lt (inr four) = inr (four, part_of bytes (head_numbered (first_word bytes)) four (omega (arith, frame_size_is bytes (head_numbered (first_word bytes)) four refl)))

short_is_unfinished : (e : Expected) (bytes : List ℕ) → length bytes < header_size e bytes → IsUnfinished e bytes
short_is_unfinished expected.Request bytes lt = inl lt
short_is_unfinished expected.Answer bytes lt = lt
short_is_unfinished expected.Frame bytes lt = short_frame bytes lt (cases_lt (length bytes) 4)

-- ---- whole words

answer_front_says : (bytes : List ℕ) (o : Option Answer) → IsBytes bytes → 4 ≤ length bytes → AnswerSays (first_word bytes) o → Says expected.Answer bytes (read_by 4 (length bytes) (drop 4 bytes) (answer_glance o))
answer_front_says bytes (Some a) fits le is = settled_says expected.Answer bytes 4 (Whole (items.Answer a)) le (tt, split_one bytes (answer_number a) fits le is)
answer_front_says bytes None fits le is = settled_says expected.Answer bytes 4 (Refused BadAnswer) le (omega (arith, length-take 4 bytes), omega (arith, first_of_take 4 bytes (omega arith)))

request_says : (bytes : List ℕ) (count : ℕ) (r : Result AddressValue AddressError) → IsBytes bytes → 8 ≤ length bytes → second_word bytes ≡ count → count ≤ MOST_ADDRESS_BYTES → count ≤ length (drop 8 bytes) → read_address (take count (drop 8 bytes)) ≡ r
    → SaysFront expected.Request bytes (request_front (first_word bytes) r) (8 + count)
request_says bytes count (Ok a) fits le is most enough e =
    let f = read_found (take count (drop 8 bytes)) a e in (
      record { target = first_below bytes fits; address = f.0 },
      subst (λ (k : ℕ). bytes ≡ counted (first_word bytes) (address_text a) ++ drop (8 + k) bytes) is
          (split_counted bytes (address_text a) (first_word bytes) fits le refl (sym f.1 ∙ ap (λ (k : ℕ). take k (drop 8 bytes)) (sym is)) (omega arith)),
    )
request_says bytes count (Err x) fits le is most enough e =
    let second : second_word (take (8 + count) bytes) ≡ count = subst (λ (k : ℕ). second_word (take k bytes) ≡ second_word bytes) (let s : 4 + (4 + count) ≡ 8 + count = omega arith in s) (second_of_take (4 + count) bytes (omega arith)) ∙ is in
    let len : length (take (8 + count) bytes) ≡ 8 + count = omega (arith, length-take (8 + count) bytes, length-drop 8 bytes) in
    (omega arith, omega arith, omega arith, subst (λ (xs : List ℕ). IsErr (read_address xs)) (sym (drop-take 8 count bytes)) (subst IsErr (sym e) refl))

request_by : (bytes : List ℕ) (t : Bool) → IsBytes bytes → 8 ≤ length bytes → nat_lt MOST_ADDRESS_BYTES (second_word bytes) ≡ t
    → Says expected.Request bytes (read_by 8 (length bytes) (drop 8 bytes) (cond t (Settled (Refused AddressLong)) (Body (opened.Request (first_word bytes)) (second_word bytes))))
request_by bytes true fits le e = settled_says expected.Request bytes 8 (Refused AddressLong) le (omega (arith, length-take 8 bytes), omega (arith, second_of_take 4 bytes (omega arith), ltb-true MOST_ADDRESS_BYTES (second_word bytes) e))
request_by bytes false fits le e =
    let most : second_word bytes ≤ MOST_ADDRESS_BYTES = ltb-false MOST_ADDRESS_BYTES (second_word bytes) e in
    body_says expected.Request bytes (opened.Request (first_word bytes)) (second_word bytes) le (λ lt. inr (le, most, lt))
    (λ enough. request_says bytes (second_word bytes) (read_address (take (second_word bytes) (drop 8 bytes))) fits le refl most enough refl)

data_by : (bytes : List ℕ) (id : ℕ) (t : Bool) → IsBytes bytes → 8 ≤ length bytes → head_numbered (first_word bytes) ≡ heads.Data id → first_word bytes ≡ id → FIRST_ID ≤ first_word bytes → nat_lt MOST_PAYLOAD_BYTES (second_word bytes) ≡ t
    → Says expected.Frame bytes (read_by 8 (length bytes) (drop 8 bytes) (cond t (Settled (Refused PayloadLong)) (Body (opened.Data id) (second_word bytes))))
data_by bytes id true fits le is same low e =
    settled_says expected.Frame bytes 8 (Refused PayloadLong) le (omega (arith, length-take 8 bytes), omega (arith, first_of_take 8 bytes (omega arith)), omega (arith, second_of_take 4 bytes (omega arith), ltb-true MOST_PAYLOAD_BYTES (second_word bytes) e))
data_by bytes id false fits le is same low e =
    let most : second_word bytes ≤ MOST_PAYLOAD_BYTES = ltb-false MOST_PAYLOAD_BYTES (second_word bytes) e in
    body_says expected.Frame bytes (opened.Data id) (second_word bytes) le
    (λ lt. inr (omega arith, subst (λ (h : Head). IsPartOfFrame h bytes) (sym is) (inr (le, most, lt))))
    (λ enough. (
      ((omega arith, omega (arith, first_below bytes fits)), omega (arith, length-take (second_word bytes) (drop 8 bytes))),
      split_counted bytes (take (second_word bytes) (drop 8 bytes)) id fits le same refl enough,
    ))

two_word_frame : (bytes : List ℕ) (n : ℕ) → IsBytes bytes → 8 ≤ length bytes → first_word bytes ≡ n → bytes ≡ (word n ++ word (second_word bytes)) ++ drop 8 bytes
two_word_frame bytes n fits le is = split_two bytes n fits le is ∙ sym (append_assoc (word n) (word (second_word bytes)) (drop 8 bytes))

frame_says : (bytes : List ℕ) (h : Head) → IsBytes bytes → frame_header_size h ≤ length bytes → head_numbered (first_word bytes) ≡ h → HeadSays (first_word bytes) h
    → Says expected.Frame bytes (read_by (frame_header_size h) (length bytes) (drop (frame_header_size h) bytes) (frame_glance h (second_word bytes)))
frame_says bytes heads.Created fits le is s = settled_says expected.Frame bytes 8 (Whole (items.Frame (frames.Created (second_word bytes)))) le (second_below bytes fits, two_word_frame bytes 0 fits le s)
frame_says bytes heads.Closed fits le is s = settled_says expected.Frame bytes 8 (Whole (items.Frame (frames.Closed (second_word bytes)))) le (second_below bytes fits, two_word_frame bytes 1 fits le s)
frame_says bytes heads.EndClosed fits le is s = settled_says expected.Frame bytes 4 (Whole (items.Frame frames.EndClosed)) le (tt, split_one bytes 3 fits le s)
frame_says bytes heads.Probe fits le is s = settled_says expected.Frame bytes 4 (Whole (items.Frame frames.Probe)) le (tt, split_one bytes 4 fits le s)
frame_says bytes heads.ProbeAck fits le is s = settled_says expected.Frame bytes 4 (Whole (items.Frame frames.ProbeAck)) le (tt, split_one bytes 5 fits le s)
frame_says bytes (heads.Data id) fits le is s = data_by bytes id (nat_lt MOST_PAYLOAD_BYTES (second_word bytes)) fits le is s.0 s.1 refl
frame_says bytes heads.Unknown fits le is s =
    settled_says expected.Frame bytes 4 (Refused UnknownControl) le (omega (arith, length-take 4 bytes), subst IsUnknownControl (sym (first_of_take 4 bytes (omega arith))) s)

long_says : (e : Expected) (bytes : List ℕ) → IsBytes bytes → header_size e bytes ≤ length bytes → Says e bytes (read_by (header_size e bytes) (length bytes) (drop (header_size e bytes) bytes) (words_glance e bytes))
long_says expected.Request bytes fits le = request_by bytes (nat_lt MOST_ADDRESS_BYTES (second_word bytes)) fits le refl
long_says expected.Answer bytes fits le = answer_front_says bytes (answer_numbered (first_word bytes)) fits le (answer_says (first_word bytes))
long_says expected.Frame bytes fits le =
    let h : Head = head_numbered (first_word bytes) in
    let size : header_size expected.Frame bytes ≡ frame_header_size h = frame_size_is bytes h (omega (arith, (size_bounds expected.Frame bytes).0)) refl in
    subst (λ (k : ℕ). Says expected.Frame bytes (read_by k (length bytes) (drop k bytes) (frame_glance h (second_word bytes)))) (sym size) (frame_says bytes h fits (omega arith) refl (head_says (first_word bytes)))

-- what is read of bytes stands there
pub says : (e : Expected) (bytes : List ℕ) → IsBytes bytes → SaysFront e bytes (reading e bytes).0 (reading e bytes).1
says e bytes fits =
    elim (cases_lt (length bytes) (header_size e bytes)) [
      | inl lt ↦ subst (Says e bytes) (sym (reading_by e bytes (Settled Unfinished) (glance_short e bytes lt))) (short_is_unfinished e bytes lt)
      | inr le ↦ subst (Says e bytes) (sym (reading_by e bytes (words_glance e bytes) (glance_long e bytes le))) (long_says e bytes fits le)
    ]
