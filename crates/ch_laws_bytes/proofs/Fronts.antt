-- What stands decided at the front of bytes stays so whatever follows, and so nothing is refused of spelled items.
use Rattle.std.proofs.Common.{◌≡◌, ℕ, ◌<◌, ◌≤◌, Bool, false, cond, ◌⊎◌, inl, inr, List, [], ◌∷◌, ◌++◌, length, take, drop, refl, sym, ap, ◌∙◌, subst, append_assoc, arith}
use Rattle.std.proofs.lemmas.Bool.{cases_lt, le-ltb, lt-ltb}
use Rattle.std.proofs.lemmas.List.{length-append, drop-append-le, take-append-le}
use Rattle.std.specs.Prelude.{Option, Some, None, nat_lt}
use Rattle.ch_base.specs.Addresses.{read_address}
use Rattle.ch_wire.specs.Spelling.{answer_numbered, head_numbered}
use Rattle.ch_wire.specs.declared.TheConstants.{MOST_ADDRESS_BYTES, MOST_PAYLOAD_BYTES}
use Rattle.ch_wire.specs.declared.answer.Answer.{Answer}
use Rattle.ch_wire.specs.declared.frame.Frame.TheVariants as frames
use Rattle.ch_wire.specs.declared.frame.Head.{Head}
use Rattle.ch_wire.specs.declared.frame.Head.TheVariants as heads
use Rattle.ch_reader.specs.Items.{item_spelling, spellings, MayFollow}
use Rattle.ch_reader.specs.Reading.{header_size, answer_glance, frame_glance, words_glance, glance_at, request_front, rest_reading, reading}
use Rattle.ch_reader.specs.Streams.{first_word, second_word}
use Rattle.ch_reader.specs.declared.item.Expected.{Expected}
use Rattle.ch_reader.specs.declared.item.Expected.TheVariants as expected
use Rattle.ch_reader.specs.declared.item.Front.{Front}
use Rattle.ch_reader.specs.declared.item.Front.TheVariants.{Unfinished, Whole, Refused}
use Rattle.ch_reader.specs.declared.item.Item.{Item}
use Rattle.ch_reader.specs.declared.item.Item.TheVariants as items
use Rattle.ch_reader.specs.declared.item.ReaderError.{ReaderError}
use Rattle.ch_reader.specs.declared.item.ReaderError.TheVariants.{PayloadLong, AddressLong}
use Rattle.ch_reader.proofs.Bodies.{at}
use Rattle.ch_reader.proofs.Complete.{counted_begins, counted_refuses, reads_item}
use Rattle.ch_reader.proofs.Headers.{size_bounds, size_front, glance_short, glance_long, glance_front}
use Rattle.ch_laws_reads.specs.Reads.{AreRead, AreReadOf}
use Rattle.ch_laws_reads.proofs.Stays.{read_of_spelled}
use Rattle.ch_laws_writes.specs.Dues.{Due}
use Rattle.ch_laws_bytes.specs.Streams.{Reader, Spelled, is_refusal}

-- ---- a front that is decided

abbrev IsDecided : Front → Type 0
IsDecided Unfinished = ⊥
IsDecided front = Unit {0}

-- a body whose count is reached is the same whatever follows
body_still : (front : List ℕ → Front) (count : ℕ) (rest ys : List ℕ) → IsDecided (cond {A = Front × ℕ} (nat_lt (length rest) count) (Unfinished, length rest) (front (take count rest), count)).0
    → ◌≡◌ {A = Front × ℕ} (cond (nat_lt (length (rest ++ ys)) count) (Unfinished, length (rest ++ ys)) (front (take count (rest ++ ys)), count)) (cond (nat_lt (length rest) count) (Unfinished, length rest) (front (take count rest), count))
body_still front count rest ys w = by_case (cases_lt (length rest) count) where
  now : Bool → Front × ℕ
  now b = cond b (Unfinished, length (rest ++ ys)) (front (take count (rest ++ ys)), count)

  before : Bool → Front × ℕ
  before b = cond b (Unfinished, length rest) (front (take count rest), count)

  enough_more : count ≤ length rest → count ≤ length (rest ++ ys)
  enough_more le = omega (arith, le, length-append rest ys)

  none : length rest < count → ⊥
  none lt = subst IsDecided (ap (λ b. (before b).0) (lt-ltb (length rest) count lt)) w

  by_case : (length rest < count) ⊎ (count ≤ length rest) → now (nat_lt (length (rest ++ ys)) count) ≡ before (nat_lt (length rest) count)
  by_case (inl lt) = absurd (none lt)
  by_case (inr le) = ap now (le-ltb (length (rest ++ ys)) count (enough_more le)) ∙ ap (λ (l : List ℕ). (front l, count)) (take-append-le count rest ys le) ∙ sym (ap before (le-ltb (length rest) count le))

-- so is what whole words tell
words_still : (e : Expected) (xs rest ys : List ℕ) → IsDecided (rest_reading (words_glance e xs) rest).0 → rest_reading (words_glance e xs) (rest ++ ys) ≡ rest_reading (words_glance e xs) rest
words_still expected.Request xs rest ys = by_case (cases_lt MOST_ADDRESS_BYTES (second_word xs)) where
  by_case : (MOST_ADDRESS_BYTES < second_word xs) ⊎ (second_word xs ≤ MOST_ADDRESS_BYTES) → IsDecided (rest_reading (words_glance expected.Request xs) rest).0 → rest_reading (words_glance expected.Request xs) (rest ++ ys) ≡ rest_reading (words_glance expected.Request xs) rest
  by_case (inl lt) = subst (λ g. IsDecided (rest_reading g rest).0 → rest_reading g (rest ++ ys) ≡ rest_reading g rest) (sym (counted_refuses _ MOST_ADDRESS_BYTES AddressLong (second_word xs) lt)) (λ w. refl)
  by_case (inr le) = subst (λ g. IsDecided (rest_reading g rest).0 → rest_reading g (rest ++ ys) ≡ rest_reading g rest) (sym (counted_begins _ MOST_ADDRESS_BYTES AddressLong (second_word xs) le))
      (body_still (λ body. request_front (first_word xs) (read_address body)) (second_word xs) rest ys)
words_still expected.Answer xs rest ys = by_answer (answer_numbered (first_word xs)) where
  by_answer : (o : Option Answer) → IsDecided (rest_reading (answer_glance o) rest).0 → rest_reading (answer_glance o) (rest ++ ys) ≡ rest_reading (answer_glance o) rest
  by_answer None w = refl
  by_answer (Some answer) w = refl
words_still expected.Frame xs rest ys = by_head (head_numbered (first_word xs)) where
  by_case : (id : ℕ) → (MOST_PAYLOAD_BYTES < second_word xs) ⊎ (second_word xs ≤ MOST_PAYLOAD_BYTES) → IsDecided (rest_reading (frame_glance (heads.Data id) (second_word xs)) rest).0 → rest_reading (frame_glance (heads.Data id) (second_word xs)) (rest ++ ys) ≡ rest_reading (frame_glance (heads.Data id) (second_word xs)) rest
  by_case id (inl lt) = subst (λ g. IsDecided (rest_reading g rest).0 → rest_reading g (rest ++ ys) ≡ rest_reading g rest) (sym (counted_refuses _ MOST_PAYLOAD_BYTES PayloadLong (second_word xs) lt)) (λ w. refl)
  by_case id (inr le) = subst (λ g. IsDecided (rest_reading g rest).0 → rest_reading g (rest ++ ys) ≡ rest_reading g rest) (sym (counted_begins _ MOST_PAYLOAD_BYTES PayloadLong (second_word xs) le))
      (body_still (λ body. Whole (items.Frame (frames.Data id body))) (second_word xs) rest ys)

  by_head : (h : Head) → IsDecided (rest_reading (frame_glance h (second_word xs)) rest).0 → rest_reading (frame_glance h (second_word xs)) (rest ++ ys) ≡ rest_reading (frame_glance h (second_word xs)) rest
  by_head (heads.Data id) w = by_case id (cases_lt MOST_PAYLOAD_BYTES (second_word xs)) w
  by_head heads.Created w = refl
  by_head heads.Closed w = refl
  by_head heads.EndClosed w = refl
  by_head heads.Probe w = refl
  by_head heads.ProbeAck w = refl
  by_head heads.Unknown w = refl

decided_stays : (e : Expected) (xs ys : List ℕ) → IsDecided (reading e xs).0 → (reading e (xs ++ ys)).0 ≡ (reading e xs).0
decided_stays e xs ys w = by_case (cases_lt (length xs) (header_size e xs)) where
  long : header_size e xs ≤ length xs → (reading e (xs ++ ys)).0 ≡ (reading e xs).0
  long le =
      let four : 4 ≤ length xs = omega (arith, le, (size_bounds e xs).0) in
      let size : header_size e (xs ++ ys) ≡ header_size e xs = size_front e xs ys four in
      let own : glance_at e xs ≡ words_glance e xs = glance_long e xs le in
      let before : rest_reading (glance_at e xs) (drop (header_size e xs) xs) ≡ rest_reading (words_glance e xs) (drop (header_size e xs) xs) = ap (λ g. rest_reading g (drop (header_size e xs) xs)) own in
      let now : rest_reading (glance_at e (xs ++ ys)) (drop (header_size e (xs ++ ys)) (xs ++ ys)) ≡ rest_reading (words_glance e xs) (drop (header_size e xs) xs ++ ys) =
      ap (λ g. rest_reading g (drop (header_size e (xs ++ ys)) (xs ++ ys))) (glance_front e xs ys le ∙ own) ∙ ap (λ (n : ℕ). rest_reading (words_glance e xs) (drop n (xs ++ ys))) size ∙ ap (rest_reading (words_glance e xs)) (drop-append-le (header_size e xs) xs ys le) in
      ap (λ (r : Front × ℕ). r.0) (now ∙ words_still e xs (drop (header_size e xs) xs) ys (subst IsDecided (ap (λ (r : Front × ℕ). r.0) before) w) ∙ sym before)

  none : length xs < header_size e xs → ⊥
  none lt = subst IsDecided (ap (λ g. (rest_reading g (drop (header_size e xs) xs)).0) (glance_short e xs lt)) w

  by_case : (length xs < header_size e xs) ⊎ (header_size e xs ≤ length xs) → (reading e (xs ++ ys)).0 ≡ (reading e xs).0
  by_case (inl lt) = absurd (none lt)
  by_case (inr le) = long le

-- ---- spelled items

no_bytes : (xs ys : List ℕ) → xs ++ ys ≡ [] → xs ≡ []
no_bytes [] ys e = refl
no_bytes (x ∷ xs) ys e = absurd cc

none_refused : {A : Type 0} (e : Expected) (error : ReaderError) → (reading e []).0 ≡ Refused error → A
none_refused expected.Request error w = let clash : Unfinished ≡ Refused error = w in absurd cc
none_refused expected.Answer error w = let clash : Unfinished ≡ Refused error = w in absurd cc
none_refused expected.Frame error w = let clash : Unfinished ≡ Refused error = w in absurd cc

-- nothing is refused at the front of bytes behind which others are to come, where all are spelled items
not_refused : (e : Expected) (since unread : List ℕ) (all : List Item) → since ++ unread ≡ spellings all → MayFollow e all → is_refusal (reading e since).0 ≡ false
not_refused e since unread all whole each = by_front (reading e since).0 refl where
  by_items : (l : List Item) → since ++ unread ≡ spellings l → MayFollow e l → (error : ReaderError) → (reading e since).0 ≡ Refused error → ⊥
  by_items [] whole each error r = none_refused e error (subst (λ (l : List ℕ). (reading e l).0 ≡ Refused error) (no_bytes since unread whole) r)
  by_items (one ∷ more) whole each error r =
      let spelled : reading e (since ++ unread) ≡ at (Whole one) (length (item_spelling one)) = ap (reading e) whole ∙ reads_item e one (spellings more) each.0 in
      let clash : Refused error ≡ Whole one = sym (decided_stays e since unread (subst IsDecided (sym r) tt) ∙ r) ∙ ap (λ (p : Front × ℕ). p.0) spelled in absurd cc

  by_front : (front : Front) → (reading e since).0 ≡ front → is_refusal front ≡ false
  by_front Unfinished r = refl
  by_front (Whole item) r = refl
  by_front (Refused error) r = absurd (by_items all whole each error r)

-- of the bytes that a reader has and those that are fed, what is read is the first of the items, and nothing is refused
pub read_as_spelled : (reader : Reader) (bytes left : List ℕ) (due : Option Due) (read : List Item) (next : Expected) (now : List ℕ) (s : Spelled reader (bytes ++ left) due) → AreRead reader.0 (reader.1 ++ bytes) read next now → AreReadOf s.items read next now left × (is_refusal (reading next now).0 ≡ false)
read_as_spelled reader bytes left due read next now s r =
    let of = read_of_spelled reader.0 next (reader.1 ++ bytes) now left s.items read (append_assoc reader.1 bytes left ∙ s.whole) s.each r in
    (of, not_refused next now left of.rest of.whole of.each)
