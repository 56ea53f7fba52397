-- What reading the front of bytes gives, case by case of what the words tell.
use Rattle.std.proofs.Common.{◌≡◌, ℕ, ◌+◌, ◌-◌, ◌<◌, ◌≤◌, min, Bool, true, false, cond, nat_lt, inl, inr, Option, Some, None, Result, Ok, Err, List, length, take, drop, refl, sym, ap, subst, ◌∙◌, arith}
use Rattle.std.proofs.lemmas.Bool.{cases_lt, lt-ltb, ltb-false}
use Rattle.std.proofs.lemmas.List.{length-append, length-take, length-drop}
use Rattle.ch_base.specs.AddressValues.{AddressValue}
use Rattle.ch_base.specs.Addresses.{address_text, read_address}
use Rattle.ch_base.specs.declared.address.AddressError.{AddressError}
use Rattle.ch_base.proofs.Addresses.{read_found}
use Rattle.ch_wire.specs.Words.{word}
use Rattle.ch_wire.specs.Spelling.{head_numbered, answer_numbered}
use Rattle.ch_wire.specs.declared.TheConstants.{MOST_ADDRESS_BYTES, MOST_PAYLOAD_BYTES}
use Rattle.ch_wire.specs.declared.answer.Answer.{Answer}
use Rattle.ch_wire.specs.declared.frame.Head.{Head}
use Rattle.ch_wire.specs.declared.frame.Head.TheVariants as heads
use Rattle.ch_reader.specs.declared.item.Expected.{Expected}
use Rattle.ch_reader.specs.declared.item.Expected.TheVariants as expected
use Rattle.ch_reader.specs.declared.item.ReaderError.{ReaderError}
use Rattle.ch_reader.specs.declared.item.ReaderError.TheVariants.{AddressLong, PayloadLong}
use Rattle.ch_reader.specs.declared.item.Front.{Front}
use Rattle.ch_reader.specs.declared.item.Front.TheVariants.{Unfinished, Whole, Refused}
use Rattle.ch_reader.specs.declared.glance.Glance.{Glance}
use Rattle.ch_reader.specs.declared.glance.Glance.TheVariants.{Settled, Body}
use Rattle.ch_reader.specs.declared.glance.Opened.{Opened}
use Rattle.ch_reader.specs.declared.glance.Opened.TheVariants as opened
use Rattle.ch_reader.specs.Items.{item_spelling}
use Rattle.ch_reader.specs.Streams.{first_word, second_word}
use Rattle.ch_reader.specs.Reading.{header_size, answer_glance, frame_glance, words_glance, glance_at, request_front, body_front, rest_reading, reading}
use Rattle.ch_reader.proofs.Bodies.{at, body_ends, body_whole}
use Rattle.ch_reader.proofs.Headers.{size_bounds, glance_short, glance_long}

-- reading, with what the words tell apart
abbrev pub read_by : ℕ → ℕ → List ℕ → Glance → Front × ℕ
read_by size len rest g = at (rest_reading g rest).0 (min size len + (rest_reading g rest).1)

pub reading_by : (e : Expected) (bytes : List ℕ) (g : Glance) → glance_at e bytes ≡ g → reading e bytes ≡ read_by (header_size e bytes) (length bytes) (drop (header_size e bytes) bytes) g
reading_by e bytes g h = ap (read_by (header_size e bytes) (length bytes) (drop (header_size e bytes) bytes)) h

pub body_short : (o : Opened) (count : ℕ) (rest : List ℕ) → length rest < count → rest_reading (Body o count) rest ≡ at Unfinished (length rest)
body_short o count rest lt = ap (λ (t : Bool). cond t (at Unfinished (length rest)) (at (body_front o (take count rest)) count)) (lt-ltb (length rest) count lt)

-- whole words tell more than that the item is unfinished
counted_settles : (t : Bool) (o : Opened) (error : ReaderError) (count : ℕ) → cond t (Settled (Refused error)) (Body o count) ≡ Settled Unfinished → ⊥
counted_settles true o error count h = cc
counted_settles false o error count h = cc

answer_settles : (a : Option Answer) → answer_glance a ≡ Settled Unfinished → ⊥
answer_settles None h = cc
answer_settles (Some a) h = cc

frame_settles : (h : Head) (second : ℕ) → frame_glance h second ≡ Settled Unfinished → ⊥
frame_settles heads.Created second e = cc
frame_settles heads.Closed second e = cc
frame_settles heads.EndClosed second e = cc
frame_settles heads.Probe second e = cc
frame_settles heads.ProbeAck second e = cc
frame_settles (heads.Data id) second e = counted_settles (nat_lt MOST_PAYLOAD_BYTES second) (opened.Data id) PayloadLong second e
frame_settles heads.Unknown second e = cc

pub words_settle : (e : Expected) (bytes : List ℕ) → words_glance e bytes ≡ Settled Unfinished → ⊥
words_settle expected.Request bytes h = counted_settles (nat_lt MOST_ADDRESS_BYTES (second_word bytes)) (opened.Request (first_word bytes)) AddressLong (second_word bytes) h
words_settle expected.Answer bytes h = answer_settles (answer_numbered (first_word bytes)) h
words_settle expected.Frame bytes h = frame_settles (head_numbered (first_word bytes)) (second_word bytes) h

-- the words are short where they tell nothing
pub unsettled_short : (e : Expected) (bytes : List ℕ) → glance_at e bytes ≡ Settled Unfinished → length bytes < header_size e bytes
unsettled_short e bytes h =
    elim (cases_lt (length bytes) (header_size e bytes)) [
      | inl lt ↦ lt
      | inr le ↦ absurd (words_settle e bytes (sym (glance_long e bytes le) ∙ h))
    ]

-- ---- an unfinished front is all

unfinished_by : (size len : ℕ) (rest : List ℕ) (g : Glance) → length rest ≡ len - size → (g ≡ Settled Unfinished → len < size)
    → (read_by size len rest g).0 ≡ Unfinished → (read_by size len rest g).1 ≡ len
unfinished_by size len rest (Settled front) l short h = let lt : len < size = short (ap Settled h) in omega arith
unfinished_by size len rest (Body o count) l short h =
    elim (cases_lt (length rest) count) [
      | inl lt ↦ ap (λ (r : Front × ℕ). min size len + r.1) (body_short o count rest lt) ∙ body_sum size len (length rest) l
      | inr le ↦ absurd (body_ends o (take count rest) (sym (ap (λ (r : Front × ℕ). r.0) (body_whole o count rest le)) ∙ h))
    ]
  where
    body_sum : (s n k : ℕ) → k ≡ n - s → min s n + k ≡ n
    body_sum s n k e = omega arith

pub unfinished_is_all : (e : Expected) (bytes : List ℕ) → (reading e bytes).0 ≡ Unfinished → (reading e bytes).1 ≡ length bytes
unfinished_is_all e bytes h =
    unfinished_by (header_size e bytes) (length bytes) (drop (header_size e bytes) bytes) (glance_at e bytes) (length-drop (header_size e bytes) bytes) (unsettled_short e bytes) h

-- a body that isn't whole yet is shorter than its count
pub body_is_short : (size len : ℕ) (rest : List ℕ) (o : Opened) (count : ℕ) → (read_by size len rest (Body o count)).0 ≡ Unfinished → length rest < count
body_is_short size len rest o count h =
    elim (cases_lt (length rest) count) [
      | inl lt ↦ lt
      | inr le ↦ absurd (body_ends o (take count rest) (sym (ap (λ (r : Front × ℕ). r.0) (body_whole o count rest le)) ∙ h))
    ]

-- ---- how large an item is

-- what stands at the front isn't larger than two words and a payload
abbrev pub IsHeld : Front → Type 0
IsHeld Unfinished = Unit {0}
IsHeld (Whole item) = length (item_spelling item) ≤ 65544
IsHeld (Refused error) = Unit {0}

-- what the words tell isn't larger either
abbrev IsSmall : Glance → Type 0
IsSmall (Settled front) = IsHeld front
IsSmall (Body o count) = count ≤ 65536

counted_small : (t : Bool) (o : Opened) (error : ReaderError) (most count : ℕ) → nat_lt most count ≡ t → most ≤ 65536 → IsSmall (cond t (Settled (Refused error)) (Body o count))
counted_small true o error most count e le = tt
counted_small false o error most count e le = omega (arith, ltb-false most count e)

answer_small : (a : Option Answer) → IsSmall (answer_glance a)
answer_small None = tt
answer_small (Some a) = omega arith

frame_small : (h : Head) (second : ℕ) → IsSmall (frame_glance h second)
frame_small heads.Created second = omega arith
frame_small heads.Closed second = omega arith
frame_small heads.EndClosed second = omega arith
frame_small heads.Probe second = omega arith
frame_small heads.ProbeAck second = omega arith
frame_small (heads.Data id) second = counted_small (nat_lt MOST_PAYLOAD_BYTES second) (opened.Data id) PayloadLong MOST_PAYLOAD_BYTES second refl (omega arith)
frame_small heads.Unknown second = tt

words_small : (e : Expected) (bytes : List ℕ) → IsSmall (words_glance e bytes)
words_small expected.Request bytes = counted_small (nat_lt MOST_ADDRESS_BYTES (second_word bytes)) (opened.Request (first_word bytes)) AddressLong MOST_ADDRESS_BYTES (second_word bytes) refl (omega arith)
words_small expected.Answer bytes = answer_small (answer_numbered (first_word bytes))
words_small expected.Frame bytes = frame_small (head_numbered (first_word bytes)) (second_word bytes)

pub glance_small : (e : Expected) (bytes : List ℕ) → IsSmall (glance_at e bytes)
glance_small e bytes =
    elim (cases_lt (length bytes) (header_size e bytes)) [
      | inl lt ↦ subst IsSmall (sym (glance_short e bytes lt)) tt
      | inr le ↦ subst IsSmall (sym (glance_long e bytes le)) (words_small e bytes)
    ]

request_held : (target : ℕ) (text : List ℕ) (r : Result AddressValue AddressError) → read_address text ≡ r → IsHeld (request_front target r)
request_held target text (Ok a) e = let f = read_found text a e in omega (arith, f.0.short, length-append (word (length (address_text a))) (address_text a))
request_held target text (Err x) e = tt

body_held : (o : Opened) (body : List ℕ) → length body ≤ 65536 → IsHeld (body_front o body)
body_held (opened.Request target) body le = request_held target body (read_address body) refl
body_held (opened.Data id) body le = omega arith

held_by : (size len : ℕ) (rest : List ℕ) (g : Glance) → IsSmall g → IsHeld (read_by size len rest g).0
held_by size len rest (Settled front) small = small
held_by size len rest (Body o count) small =
    elim (cases_lt (length rest) count) [
      | inl lt ↦ subst (λ (r : Front × ℕ). IsHeld r.0) (sym (body_short o count rest lt)) tt
      | inr le ↦ subst (λ (r : Front × ℕ). IsHeld r.0) (sym (body_whole o count rest le)) (body_held o (take count rest) (omega (arith, length-take count rest)))
    ]

-- what stands at the front is held
pub is_held : (e : Expected) (bytes : List ℕ) → IsHeld (reading e bytes).0
is_held e bytes = held_by (header_size e bytes) (length bytes) (drop (header_size e bytes) bytes) (glance_at e bytes) (glance_small e bytes)

unfinished_small : (size len : ℕ) (rest : List ℕ) (g : Glance) → size ≤ 8 → length rest ≡ len - size → (g ≡ Settled Unfinished → len < size) → IsSmall g
    → (read_by size len rest g).0 ≡ Unfinished → len ≤ 65544
unfinished_small size len rest (Settled front) s l short small h = let lt : len < size = short (ap Settled h) in omega arith
unfinished_small size len rest (Body o count) s l short small h = omega (arith, body_is_short size len rest o count h, small)

-- unfinished bytes are held
pub unfinished_is_held : (e : Expected) (bytes : List ℕ) → (reading e bytes).0 ≡ Unfinished → length bytes ≤ 65544
unfinished_is_held e bytes h =
    unfinished_small (header_size e bytes) (length bytes) (drop (header_size e bytes) bytes) (glance_at e bytes) (size_bounds e bytes).1 (length-drop (header_size e bytes) bytes) (unsettled_short e bytes) (glance_small e bytes) h

-- ---- no more is read than there is

within_by : (size len : ℕ) (rest : List ℕ) (g : Glance) → length rest ≡ len - size → (read_by size len rest g).1 ≤ len
within_by size len rest (Settled front) l = omega arith
within_by size len rest (Body o count) l =
    elim (cases_lt (length rest) count) [
      | inl lt ↦ omega (arith, ap (λ (r : Front × ℕ). r.1) (body_short o count rest lt))
      | inr le ↦ omega (arith, ap (λ (r : Front × ℕ). r.1) (body_whole o count rest le))
    ]

pub reads_within : (e : Expected) (bytes : List ℕ) → (reading e bytes).1 ≤ length bytes
reads_within e bytes = within_by (header_size e bytes) (length bytes) (drop (header_size e bytes) bytes) (glance_at e bytes) (length-drop (header_size e bytes) bytes)
