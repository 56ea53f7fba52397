-- What stands whole at the front of bytes is told by its own bytes: it stands there where only those have come.
use Rattle.std.proofs.Common.{◌≡◌, ℕ, ◌+◌, ◌-◌, ◌<◌, ◌≤◌, min, Bool, cond, ◌⊎◌, inl, inr, List, [], ◌++◌, length, take, drop, refl, sym, ap, ◌∙◌, subst, arith}
use Rattle.std.specs.Prelude.{Option, Some, None, nat_lt}
use Rattle.std.proofs.lemmas.Bool.{cases_lt, le-ltb, lt-ltb}
use Rattle.std.proofs.lemmas.List.{length-drop, drop-append-le, take-append-le}
use Rattle.ch_base.specs.Addresses.{read_address}
use Rattle.ch_wire.specs.Spelling.{answer_numbered, head_numbered}
use Rattle.ch_wire.specs.declared.TheConstants.{MOST_ADDRESS_BYTES, MOST_PAYLOAD_BYTES}
use Rattle.ch_wire.specs.declared.answer.Answer.{Answer}
use Rattle.ch_wire.specs.declared.frame.Frame.TheVariants as frames
use Rattle.ch_wire.specs.declared.frame.Head.{Head}
use Rattle.ch_wire.specs.declared.frame.Head.TheVariants as heads
use Rattle.ch_reader.specs.declared.item.Expected.{Expected}
use Rattle.ch_reader.specs.declared.item.Expected.TheVariants as expected
use Rattle.ch_reader.specs.declared.item.Front.{Front}
use Rattle.ch_reader.specs.declared.item.Front.TheVariants.{Unfinished, Whole}
use Rattle.ch_reader.specs.declared.item.Item.{Item}
use Rattle.ch_reader.specs.declared.item.Item.TheVariants as items
use Rattle.ch_reader.specs.declared.item.ReaderError.TheVariants.{PayloadLong, AddressLong}
use Rattle.ch_reader.specs.Streams.{first_word, second_word}
use Rattle.ch_reader.specs.Reading.{header_size, answer_glance, frame_glance, words_glance, glance_at, request_front, rest_reading, reading}
use Rattle.ch_reader.proofs.Complete.{counted_begins, counted_refuses}
use Rattle.ch_reader.proofs.Headers.{size_bounds, size_front, glance_front, glance_long, glance_short}
use Rattle.ch_reader.proofs.Runs.{nothing_waits}

unfinished_is : {A : Type 0} (front : Front) (item : Item) → front ≡ Unfinished → front ≡ Whole item → A
unfinished_is front item u w = let clash : Unfinished ≡ Whole item = sym u ∙ w in absurd cc

-- of no bytes there is no item
pub none_whole : (e : Expected) (item : Item) → (reading e []).0 ≡ Whole item → ⊥
none_whole e item w = unfinished_is (reading e []).0 item (nothing_waits e) w

-- where a body's bytes have come, it is read of them alone
body_shorter : (front : List ℕ → Front) (count : ℕ) (rest ys : List ℕ) (item : Item) → (cond {A = Front × ℕ} (nat_lt (length (rest ++ ys)) count) (Unfinished, length (rest ++ ys)) (front (take count (rest ++ ys)), count)).0 ≡ Whole item
    → (cond {A = Front × ℕ} (nat_lt (length (rest ++ ys)) count) (Unfinished, length (rest ++ ys)) (front (take count (rest ++ ys)), count)).1 ≤ length rest
    → ◌≡◌ {A = Front × ℕ} (cond (nat_lt (length rest) count) (Unfinished, length rest) (front (take count rest), count)) (cond (nat_lt (length (rest ++ ys)) count) (Unfinished, length (rest ++ ys)) (front (take count (rest ++ ys)), count))
body_shorter front count rest ys item w le = by_long (cases_lt (length (rest ++ ys)) count) where
  long : Bool → Front × ℕ
  long b = cond b (Unfinished, length (rest ++ ys)) (front (take count (rest ++ ys)), count)

  short : Bool → Front × ℕ
  short b = cond b (Unfinished, length rest) (front (take count rest), count)

  by_long : (length (rest ++ ys) < count) ⊎ (count ≤ length (rest ++ ys)) → short (nat_lt (length rest) count) ≡ long (nat_lt (length (rest ++ ys)) count)
  by_long (inl lt) = unfinished_is (long (nat_lt (length (rest ++ ys)) count)).0 item (ap (λ b. (long b).0) (lt-ltb (length (rest ++ ys)) count lt)) w
  by_long (inr all) =
      let is : (long (nat_lt (length (rest ++ ys)) count)).1 ≡ count = ap (λ b. (long b).1) (le-ltb (length (rest ++ ys)) count all) in
      let fits : count ≤ length rest = subst (λ (n : ℕ). n ≤ length rest) is le in
      ap short (le-ltb (length rest) count fits) ∙ ap (λ (l : List ℕ). (front l, count)) (sym (take-append-le count rest ys fits)) ∙ sym (ap long (le-ltb (length (rest ++ ys)) count all))

-- so is what whole words tell
words_shorter : (e : Expected) (xs rest ys : List ℕ) (item : Item) → (rest_reading (words_glance e xs) (rest ++ ys)).0 ≡ Whole item → (rest_reading (words_glance e xs) (rest ++ ys)).1 ≤ length rest → rest_reading (words_glance e xs) rest ≡ rest_reading (words_glance e xs) (rest ++ ys)
words_shorter expected.Request xs rest ys item = by_case (cases_lt MOST_ADDRESS_BYTES (second_word xs)) where
  by_case : (MOST_ADDRESS_BYTES < second_word xs) ⊎ (second_word xs ≤ MOST_ADDRESS_BYTES) → (rest_reading (words_glance expected.Request xs) (rest ++ ys)).0 ≡ Whole item → (rest_reading (words_glance expected.Request xs) (rest ++ ys)).1 ≤ length rest → rest_reading (words_glance expected.Request xs) rest ≡ rest_reading (words_glance expected.Request xs) (rest ++ ys)
  by_case (inl lt) = subst (λ g. (rest_reading g (rest ++ ys)).0 ≡ Whole item → (rest_reading g (rest ++ ys)).1 ≤ length rest → rest_reading g rest ≡ rest_reading g (rest ++ ys)) (sym (counted_refuses _ MOST_ADDRESS_BYTES AddressLong (second_word xs) lt)) (λ w le. refl)
  by_case (inr fits) = subst (λ g. (rest_reading g (rest ++ ys)).0 ≡ Whole item → (rest_reading g (rest ++ ys)).1 ≤ length rest → rest_reading g rest ≡ rest_reading g (rest ++ ys)) (sym (counted_begins _ MOST_ADDRESS_BYTES AddressLong (second_word xs) fits))
      (body_shorter (λ body. request_front (first_word xs) (read_address body)) (second_word xs) rest ys item)
words_shorter expected.Answer xs rest ys item = by_answer (answer_numbered (first_word xs)) where
  by_answer : (o : Option Answer) → (rest_reading (answer_glance o) (rest ++ ys)).0 ≡ Whole item → (rest_reading (answer_glance o) (rest ++ ys)).1 ≤ length rest → rest_reading (answer_glance o) rest ≡ rest_reading (answer_glance o) (rest ++ ys)
  by_answer None w le = refl
  by_answer (Some answer) w le = refl
words_shorter expected.Frame xs rest ys item = by_head (head_numbered (first_word xs)) where
  Shorter : Head → Type 0
  Shorter h = (rest_reading (frame_glance h (second_word xs)) (rest ++ ys)).0 ≡ Whole item → (rest_reading (frame_glance h (second_word xs)) (rest ++ ys)).1 ≤ length rest → rest_reading (frame_glance h (second_word xs)) rest ≡ rest_reading (frame_glance h (second_word xs)) (rest ++ ys)

  by_case : (id : ℕ) → (MOST_PAYLOAD_BYTES < second_word xs) ⊎ (second_word xs ≤ MOST_PAYLOAD_BYTES) → Shorter (heads.Data id)
  by_case id (inl lt) = subst (λ g. (rest_reading g (rest ++ ys)).0 ≡ Whole item → (rest_reading g (rest ++ ys)).1 ≤ length rest → rest_reading g rest ≡ rest_reading g (rest ++ ys)) (sym (counted_refuses _ MOST_PAYLOAD_BYTES PayloadLong (second_word xs) lt)) (λ w le. refl)
  by_case id (inr fits) = subst (λ g. (rest_reading g (rest ++ ys)).0 ≡ Whole item → (rest_reading g (rest ++ ys)).1 ≤ length rest → rest_reading g rest ≡ rest_reading g (rest ++ ys)) (sym (counted_begins _ MOST_PAYLOAD_BYTES PayloadLong (second_word xs) fits))
      (body_shorter (λ body. Whole (items.Frame (frames.Data id body))) (second_word xs) rest ys item)

  by_head : (h : Head) → Shorter h
  by_head (heads.Data id) w le = by_case id (cases_lt MOST_PAYLOAD_BYTES (second_word xs)) w le
  by_head heads.Created w le = refl
  by_head heads.Closed w le = refl
  by_head heads.EndClosed w le = refl
  by_head heads.Probe w le = refl
  by_head heads.ProbeAck w le = refl
  by_head heads.Unknown w le = refl

-- an item at the front of bytes that is no longer than the first of them stands whole at their front
pub stands_in : (e : Expected) (xs ys : List ℕ) (item : Item) → (reading e (xs ++ ys)).0 ≡ Whole item → (reading e (xs ++ ys)).1 ≤ length xs → (reading e xs).0 ≡ Whole item
stands_in e xs ys item w le = by_whole (cases_lt (length (xs ++ ys)) (header_size e (xs ++ ys))) where
  size : ℕ
  size = header_size e (xs ++ ys)

  body : Front × ℕ
  body = rest_reading (glance_at e (xs ++ ys)) (drop size (xs ++ ys))

  counts : (a b c d : ℕ) → min a b + c ≤ d → a ≤ b → a ≤ d
  counts a b c d h k = omega arith

  left : (a b c d f : ℕ) → min a b + c ≤ d → a ≤ b → f ≡ d - a → c ≤ f
  left a b c d f h k g = omega arith

  at : size ≤ length (xs ++ ys) → (reading e xs).0 ≡ Whole item
  at all =
      let fits : size ≤ length xs = counts size (length (xs ++ ys)) body.1 (length xs) le all in
      let four : 4 ≤ length xs = omega (arith, fits, (size_bounds e (xs ++ ys)).0) in
      let same : header_size e (xs ++ ys) ≡ header_size e xs = size_front e xs ys four in
      let within : header_size e xs ≤ length xs = subst (λ (n : ℕ). n ≤ length xs) same fits in
      let own : glance_at e xs ≡ words_glance e xs = glance_long e xs within in
      let glance : glance_at e (xs ++ ys) ≡ words_glance e xs = glance_front e xs ys within ∙ own in
      let rest : drop size (xs ++ ys) ≡ drop (header_size e xs) xs ++ ys = ap (λ (n : ℕ). drop n (xs ++ ys)) same ∙ drop-append-le (header_size e xs) xs ys within in
      let as_rest : body ≡ rest_reading (words_glance e xs) (drop (header_size e xs) xs ++ ys) = ap (λ g. rest_reading g (drop size (xs ++ ys))) glance ∙ ap (rest_reading (words_glance e xs)) rest in
      let shorter : body.1 ≤ length (drop (header_size e xs) xs) = left size (length (xs ++ ys)) body.1 (length xs) (length (drop (header_size e xs) xs)) le all (length-drop (header_size e xs) xs ∙ ap (λ (n : ℕ). length xs - n) (sym same)) in
      ap (λ g. (rest_reading g (drop (header_size e xs) xs)).0) own
      ∙ ap (λ (r : Front × ℕ). r.0) (words_shorter e xs (drop (header_size e xs) xs) ys item (ap (λ (r : Front × ℕ). r.0) (sym as_rest) ∙ w) (subst (λ (r : Front × ℕ). r.1 ≤ length (drop (header_size e xs) xs)) as_rest shorter) ∙ sym as_rest) ∙ w

  by_whole : (length (xs ++ ys) < size) ⊎ (size ≤ length (xs ++ ys)) → (reading e xs).0 ≡ Whole item
  by_whole (inl lt) = unfinished_is (reading e (xs ++ ys)).0 item (ap (λ g. (rest_reading g (drop size (xs ++ ys))).0) (glance_short e (xs ++ ys) lt)) w
  by_whole (inr all) = at all
