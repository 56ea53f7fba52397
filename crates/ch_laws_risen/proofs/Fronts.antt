-- What raises a link is read where a request is expected, or an answer: bytes that begin with one, or with the accepting answer.
use Rattle.std.proofs.Common.{◌≡◌, ◌⊎◌, inl, inr, ℕ, ◌<◌, ◌≤◌, Bool, true, false, cond, List, [], ◌∷◌, length, take, drop, Ok, Err, refl, sym, ap, subst, arith}
use Rattle.std.specs.Prelude.{nat_lt, Result, Some, None, ◌==◌}
use Rattle.std.specs.Str.{bytes_eq}
use Rattle.std.proofs.lemmas.Bool.{cases_lt}
use Rattle.ch_base.specs.AddressValues.{AddressValue}
use Rattle.ch_base.specs.Addresses.{read_address}
use Rattle.ch_base.specs.declared.address.AddressError.{AddressError}
use Rattle.ch_wire.specs.Spelling.{answer_spelling, head_numbered}
use Rattle.ch_wire.specs.Words.{word_value}
use Rattle.ch_wire.specs.declared.TheConstants.{MOST_ADDRESS_BYTES, MOST_PAYLOAD_BYTES}
use Rattle.ch_wire.specs.declared.answer.Answer.{Answer}
use Rattle.ch_wire.specs.declared.answer.Answer.TheVariants as answers
use Rattle.ch_wire.specs.declared.frame.Frame.TheVariants as frames
use Rattle.ch_wire.specs.declared.frame.Head.{Head}
use Rattle.ch_wire.specs.declared.frame.Head.TheVariants as heads
use Rattle.ch_reader.specs.Reading.{header_size, answer_glance, frame_glance, words_glance, request_front, rest_reading, reading}
use Rattle.ch_reader.specs.Streams.{first_word, second_word}
use Rattle.ch_reader.specs.declared.item.Expected.{Expected}
use Rattle.ch_reader.specs.declared.item.Expected.TheVariants as expected
use Rattle.ch_reader.specs.declared.item.Front.{Front}
use Rattle.ch_reader.specs.declared.item.Front.TheVariants.{Unfinished, Whole, Refused}
use Rattle.ch_reader.specs.declared.item.Item.TheVariants as items
use Rattle.ch_reader.specs.declared.item.ReaderError.TheVariants.{PayloadLong, AddressLong}
use Rattle.ch_reader.proofs.Complete.{counted_begins, counted_refuses}
use Rattle.ch_reader.proofs.Headers.{glance_short, glance_long}
use Rattle.ch_model.specs.AccountsBytes.{is_request_front}
use Rattle.ch_laws_log.proofs.Stored.{number_is}
use Rattle.ch_laws_accounts.specs.Ups.{raises_by}

-- what holds of an unfinished front, and of what whole words tell, holds of the front of the bytes
by_words : (P : Front → Type 0) (e : Expected) (bytes : List ℕ) → P Unfinished → (header_size e bytes ≤ length bytes → P (rest_reading (words_glance e bytes) (drop (header_size e bytes) bytes)).0) → P (reading e bytes).0
by_words P e bytes short long = by_case (cases_lt (length bytes) (header_size e bytes)) where
  by_case : (length bytes < header_size e bytes) ⊎ (header_size e bytes ≤ length bytes) → P (reading e bytes).0
  by_case (inl lt) = subst P (sym (ap (λ g. (rest_reading g (drop (header_size e bytes) bytes)).0) (glance_short e bytes lt))) short
  by_case (inr le) = subst P (sym (ap (λ g. (rest_reading g (drop (header_size e bytes) bytes)).0) (glance_long e bytes le))) (long le)

-- ---- requests

-- no item but a request
abbrev pub OfRequest : Front → Type 0
OfRequest (Whole (items.Request request)) = Unit {0}
OfRequest (Whole item) = ⊥
OfRequest front = Unit {0}

pub request_kind : (bytes : List ℕ) → OfRequest (reading expected.Request bytes).0
request_kind bytes = by_words OfRequest expected.Request bytes tt (λ le. by_count (cases_lt MOST_ADDRESS_BYTES (second_word bytes))) where
  rest : List ℕ
  rest = drop 8 bytes

  by_address : (r : Result AddressValue AddressError) → OfRequest (request_front (first_word bytes) r)
  by_address (Ok a) = tt
  by_address (Err e) = tt

  by_rest : (b : Bool) → OfRequest (cond {A = Front × ℕ} b (Unfinished, length rest) (request_front (first_word bytes) (read_address (take (second_word bytes) rest)), second_word bytes)).0
  by_rest true = tt
  by_rest false = by_address (read_address (take (second_word bytes) rest))

  by_count : (MOST_ADDRESS_BYTES < second_word bytes) ⊎ (second_word bytes ≤ MOST_ADDRESS_BYTES) → OfRequest (rest_reading (words_glance expected.Request bytes) rest).0
  by_count (inl lt) = subst (λ g. OfRequest (rest_reading g rest).0) (sym (counted_refuses _ MOST_ADDRESS_BYTES AddressLong (second_word bytes) lt)) tt
  by_count (inr le) = subst (λ g. OfRequest (rest_reading g rest).0) (sym (counted_begins _ MOST_ADDRESS_BYTES AddressLong (second_word bytes) le)) (by_rest (nat_lt (length rest) (second_word bytes)))

front_raised : (front : Front) (n : ℕ) → OfRequest front → raises_by front ≡ true → is_request_front (front, n) ≡ true
front_raised Unfinished n k r = absurd cc
front_raised (Refused error) n k r = absurd cc
front_raised (Whole (items.Request request)) n k r = refl
front_raised (Whole (items.Answer answer)) n k r = absurd k
front_raised (Whole (items.Frame frame)) n k r = absurd k

pub request_raised : (bytes : List ℕ) → raises_by (reading expected.Request bytes).0 ≡ true → is_request_front (reading expected.Request bytes) ≡ true
request_raised bytes r = front_raised (reading expected.Request bytes).0 (reading expected.Request bytes).1 (request_kind bytes) r

pub no_answer : (bytes : List ℕ) (answer : Answer) → (reading expected.Request bytes).0 ≡ Whole (items.Answer answer) → ⊥
no_answer bytes answer e = subst OfRequest e (request_kind bytes)

-- ---- frames

-- no item but a frame
abbrev OfFrame : Front → Type 0
OfFrame (Whole (items.Frame frame)) = Unit {0}
OfFrame (Whole item) = ⊥
OfFrame front = Unit {0}

glance_kind : (head : Head) (second : ℕ) (rest : List ℕ) → OfFrame (rest_reading (frame_glance head second) rest).0
glance_kind heads.Created second rest = tt
glance_kind heads.Closed second rest = tt
glance_kind heads.EndClosed second rest = tt
glance_kind heads.Probe second rest = tt
glance_kind heads.ProbeAck second rest = tt
glance_kind heads.Unknown second rest = tt
glance_kind (heads.Data id) second rest = by_count (cases_lt MOST_PAYLOAD_BYTES second) where
  by_rest : (b : Bool) → OfFrame (cond {A = Front × ℕ} b (Unfinished, length rest) (Whole (items.Frame (frames.Data id (take second rest))), second)).0
  by_rest true = tt
  by_rest false = tt

  by_count : (MOST_PAYLOAD_BYTES < second) ⊎ (second ≤ MOST_PAYLOAD_BYTES) → OfFrame (rest_reading (frame_glance (heads.Data id) second) rest).0
  by_count (inl lt) = subst (λ g. OfFrame (rest_reading g rest).0) (sym (counted_refuses _ MOST_PAYLOAD_BYTES PayloadLong second lt)) tt
  by_count (inr le) = subst (λ g. OfFrame (rest_reading g rest).0) (sym (counted_begins _ MOST_PAYLOAD_BYTES PayloadLong second le)) (by_rest (nat_lt (length rest) second))

frame_kind : (bytes : List ℕ) → OfFrame (reading expected.Frame bytes).0
frame_kind bytes = by_words OfFrame expected.Frame bytes tt (λ le. glance_kind (head_numbered (first_word bytes)) (second_word bytes) (drop (header_size expected.Frame bytes) bytes))

frame_raises_none : (front : Front) → OfFrame front → raises_by front ≡ true → ⊥
frame_raises_none Unfinished k r = absurd cc
frame_raises_none (Refused error) k r = absurd cc
frame_raises_none (Whole (items.Request request)) k r = absurd k
frame_raises_none (Whole (items.Answer answer)) k r = absurd k
frame_raises_none (Whole (items.Frame frame)) k r = absurd cc

pub no_frame_raises : (bytes : List ℕ) → raises_by (reading expected.Frame bytes).0 ≡ true → ⊥
no_frame_raises bytes r = frame_raises_none (reading expected.Frame bytes).0 (frame_kind bytes) r

pub no_frame_answers : (bytes : List ℕ) (answer : Answer) → (reading expected.Frame bytes).0 ≡ Whole (items.Answer answer) → ⊥
no_frame_answers bytes answer e = subst OfFrame e (frame_kind bytes)

-- ---- answers

-- four bytes that spell 0 are 0
four_zeros : (a b c d : ℕ) → word_value (a ∷ b ∷ c ∷ d ∷ []) ≡ 0 → bytes_eq (answer_spelling answers.Accepted) (a ∷ b ∷ c ∷ d ∷ []) ≡ true
four_zeros a b c d e = subst (λ (x : ℕ). bytes_eq (answer_spelling answers.Accepted) (x ∷ b ∷ c ∷ d ∷ []) ≡ true) (sym is_a) (subst (λ (x : ℕ). bytes_eq (answer_spelling answers.Accepted) (0 ∷ x ∷ c ∷ d ∷ []) ≡ true) (sym is_b)
    (subst (λ (x : ℕ). bytes_eq (answer_spelling answers.Accepted) (0 ∷ 0 ∷ x ∷ d ∷ []) ≡ true) (sym is_c) (subst (λ (x : ℕ). bytes_eq (answer_spelling answers.Accepted) (0 ∷ 0 ∷ 0 ∷ x ∷ []) ≡ true) (sym is_d) refl))) where
      is_a : a ≡ 0
      is_a = omega (arith, e)

      is_b : b ≡ 0
      is_b = omega (arith, e)

      is_c : c ≡ 0
      is_c = omega (arith, e)

      is_d : d ≡ 0
      is_d = omega (arith, e)

zero_word : (bytes : List ℕ) → 4 ≤ length bytes → first_word bytes ≡ 0 → bytes_eq (answer_spelling answers.Accepted) (take 4 bytes) ≡ true
zero_word [] le e = absurd (omega (arith, le))
zero_word (a ∷ []) le e = absurd (omega (arith, le))
zero_word (a ∷ b ∷ []) le e = absurd (omega (arith, le))
zero_word (a ∷ b ∷ c ∷ []) le e = absurd (omega (arith, le))
zero_word (a ∷ b ∷ c ∷ d ∷ rest) le e = four_zeros a b c d e

pub answer_raised : (bytes : List ℕ) → raises_by (reading expected.Answer bytes).0 ≡ true → bytes_eq (answer_spelling answers.Accepted) (take 4 bytes) ≡ true
answer_raised bytes = by_words (λ (f : Front). raises_by f ≡ true → bytes_eq (answer_spelling answers.Accepted) (take 4 bytes) ≡ true) expected.Answer bytes (λ r. absurd cc)
    (λ le r. zero_word bytes le (by_number (first_word bytes) (first_word bytes == 0) (first_word bytes == 1) (first_word bytes == 2) (first_word bytes == 3) refl r)) where
      by_number : (n : ℕ) (zero one two three : Bool) → (n == 0) ≡ zero → raises_by (rest_reading (answer_glance (cond zero (Some answers.Accepted) (cond one (Some answers.Invalid) (cond two (Some answers.Crossed) (cond three (Some answers.Mismatch) None))))) (drop 4 bytes)).0 ≡ true → n ≡ 0
      by_number n true one two three z r = number_is n 0 z
      by_number n false true two three z r = absurd cc
      by_number n false false true three z r = absurd cc
      by_number n false false false true z r = absurd cc
      by_number n false false false false z r = absurd cc
