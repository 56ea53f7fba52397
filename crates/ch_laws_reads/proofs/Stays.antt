-- An item that stands whole at the front of bytes is itself whatever follows; and what is read of spelled items is these.
use Rattle.std.proofs.Common.{◌≡◌, ℕ, ◌+◌, ◌<◌, ◌≤◌, min, Bool, cond, ◌⊎◌, inl, inr, List, [], ◌∷◌, ◌++◌, length, take, drop, refl, sym, ap, ◌∙◌, subst, arith}
use Rattle.std.specs.Prelude.{Option, Some, None, nat_lt}
use Rattle.std.proofs.lemmas.Bool.{cases_lt, le-ltb, lt-ltb}
use Rattle.std.proofs.lemmas.List.{length-append, drop-append-le, take-append-le}
use Rattle.ch_base.specs.Addresses.{read_address}
use Rattle.ch_wire.specs.Spelling.{answer_numbered, head_numbered}
use Rattle.ch_wire.specs.declared.TheConstants.{MOST_ADDRESS_BYTES, MOST_PAYLOAD_BYTES}
use Rattle.ch_wire.specs.declared.answer.Answer.{Answer}
use Rattle.ch_wire.specs.declared.frame.Frame.TheVariants as frames
use Rattle.ch_wire.specs.declared.frame.Head.{Head}
use Rattle.ch_wire.specs.declared.frame.Head.TheVariants as heads
use Rattle.ch_reader.specs.declared.item.Expected.{Expected}
use Rattle.ch_reader.specs.declared.item.Expected.TheVariants as expected
use Rattle.ch_reader.specs.declared.item.Front.{Front}
use Rattle.ch_reader.specs.declared.item.Front.TheVariants.{Unfinished, Whole}
use Rattle.ch_reader.specs.declared.item.Item.{Item}
use Rattle.ch_reader.specs.declared.item.Item.TheVariants as items
use Rattle.ch_reader.specs.declared.item.ReaderError.TheVariants.{PayloadLong, AddressLong}
use Rattle.ch_reader.specs.Items.{item_spelling, spellings, MayStand, MayFollow}
use Rattle.ch_reader.specs.Streams.{first_word, second_word}
use Rattle.ch_reader.specs.Reading.{header_size, answer_glance, frame_glance, words_glance, glance_at, request_front, rest_reading, reading}
use Rattle.ch_reader.proofs.Bodies.{at}
use Rattle.ch_reader.proofs.Complete.{counted_begins, counted_refuses, reads_item}
use Rattle.ch_reader.proofs.Headers.{size_bounds, size_front, glance_short, glance_long, glance_front}
use Rattle.ch_reader.proofs.Readings.{reads_within}
use Rattle.ch_laws_reads.specs.Reads.{AreRead, AreReadOf}

-- ---- one item

-- the same item of as many bytes
abbrev AreSame : Front × ℕ → Front × ℕ → Item → Type 0
AreSame now before item = (now.0 ≡ Whole item) × (now.1 ≡ before.1)

unfinished_is : {A : Type 0} (front : Front) (item : Item) → front ≡ Unfinished → front ≡ Whole item → A
unfinished_is front item u w = let clash : Unfinished ≡ Whole item = sym u ∙ w in absurd cc

-- a body whose count is reached is the same whatever follows
body_still : (front : List ℕ → Front) (count : ℕ) (rest ys : List ℕ) (item : Item) → (cond {A = Front × ℕ} (nat_lt (length rest) count) (Unfinished, length rest) (front (take count rest), count)).0 ≡ Whole item
    → ◌≡◌ {A = Front × ℕ} (cond (nat_lt (length (rest ++ ys)) count) (Unfinished, length (rest ++ ys)) (front (take count (rest ++ ys)), count)) (cond (nat_lt (length rest) count) (Unfinished, length rest) (front (take count rest), count))
body_still front count rest ys item w = by_case (cases_lt (length rest) count) where
  now : Bool → Front × ℕ
  now b = cond b (Unfinished, length (rest ++ ys)) (front (take count (rest ++ ys)), count)

  before : Bool → Front × ℕ
  before b = cond b (Unfinished, length rest) (front (take count rest), count)

  enough_more : count ≤ length rest → count ≤ length (rest ++ ys)
  enough_more le = omega (arith, le, length-append rest ys)

  by_case : (length rest < count) ⊎ (count ≤ length rest) → now (nat_lt (length (rest ++ ys)) count) ≡ before (nat_lt (length rest) count)
  by_case (inl lt) = unfinished_is (before (nat_lt (length rest) count)).0 item (ap (λ b. (before b).0) (lt-ltb (length rest) count lt)) w
  by_case (inr le) = ap now (le-ltb (length (rest ++ ys)) count (enough_more le)) ∙ ap (λ (l : List ℕ). (front l, count)) (take-append-le count rest ys le) ∙ sym (ap before (le-ltb (length rest) count le))

-- so is what whole words tell
words_still : (e : Expected) (xs rest ys : List ℕ) (item : Item) → (rest_reading (words_glance e xs) rest).0 ≡ Whole item → rest_reading (words_glance e xs) (rest ++ ys) ≡ rest_reading (words_glance e xs) rest
words_still expected.Request xs rest ys item = by_case (cases_lt MOST_ADDRESS_BYTES (second_word xs)) where
  by_case : (MOST_ADDRESS_BYTES < second_word xs) ⊎ (second_word xs ≤ MOST_ADDRESS_BYTES) → (rest_reading (words_glance expected.Request xs) rest).0 ≡ Whole item → rest_reading (words_glance expected.Request xs) (rest ++ ys) ≡ rest_reading (words_glance expected.Request xs) rest
  by_case (inl lt) = subst (λ g. (rest_reading g rest).0 ≡ Whole item → rest_reading g (rest ++ ys) ≡ rest_reading g rest) (sym (counted_refuses _ MOST_ADDRESS_BYTES AddressLong (second_word xs) lt)) (λ w. refl)
  by_case (inr le) = subst (λ g. (rest_reading g rest).0 ≡ Whole item → rest_reading g (rest ++ ys) ≡ rest_reading g rest) (sym (counted_begins _ MOST_ADDRESS_BYTES AddressLong (second_word xs) le))
      (body_still (λ body. request_front (first_word xs) (read_address body)) (second_word xs) rest ys item)
words_still expected.Answer xs rest ys item = by_answer (answer_numbered (first_word xs)) where
  by_answer : (o : Option Answer) → (rest_reading (answer_glance o) rest).0 ≡ Whole item → rest_reading (answer_glance o) (rest ++ ys) ≡ rest_reading (answer_glance o) rest
  by_answer None w = refl
  by_answer (Some answer) w = refl
words_still expected.Frame xs rest ys item = by_head (head_numbered (first_word xs)) where
  by_case : (id : ℕ) → (MOST_PAYLOAD_BYTES < second_word xs) ⊎ (second_word xs ≤ MOST_PAYLOAD_BYTES) → (rest_reading (frame_glance (heads.Data id) (second_word xs)) rest).0 ≡ Whole item → rest_reading (frame_glance (heads.Data id) (second_word xs)) (rest ++ ys) ≡ rest_reading (frame_glance (heads.Data id) (second_word xs)) rest
  by_case id (inl lt) = subst (λ g. (rest_reading g rest).0 ≡ Whole item → rest_reading g (rest ++ ys) ≡ rest_reading g rest) (sym (counted_refuses _ MOST_PAYLOAD_BYTES PayloadLong (second_word xs) lt)) (λ w. refl)
  by_case id (inr le) = subst (λ g. (rest_reading g rest).0 ≡ Whole item → rest_reading g (rest ++ ys) ≡ rest_reading g rest) (sym (counted_begins _ MOST_PAYLOAD_BYTES PayloadLong (second_word xs) le))
      (body_still (λ body. Whole (items.Frame (frames.Data id body))) (second_word xs) rest ys item)

  by_head : (h : Head) → (rest_reading (frame_glance h (second_word xs)) rest).0 ≡ Whole item → rest_reading (frame_glance h (second_word xs)) (rest ++ ys) ≡ rest_reading (frame_glance h (second_word xs)) rest
  by_head (heads.Data id) w = by_case id (cases_lt MOST_PAYLOAD_BYTES (second_word xs)) w
  by_head heads.Created w = refl
  by_head heads.Closed w = refl
  by_head heads.EndClosed w = refl
  by_head heads.Probe w = refl
  by_head heads.ProbeAck w = refl
  by_head heads.Unknown w = refl

-- what stands whole at the front of bytes stands there whatever follows
pub stays_whole : (e : Expected) (xs ys : List ℕ) (item : Item) → (reading e xs).0 ≡ Whole item → AreSame (reading e (xs ++ ys)) (reading e xs) item
stays_whole e xs ys item w = by_case (cases_lt (length xs) (header_size e xs)) where
  long : header_size e xs ≤ length xs → AreSame (reading e (xs ++ ys)) (reading e xs) item
  long le =
      let four : 4 ≤ length xs = omega (arith, le, (size_bounds e xs).0) in
      let size : header_size e (xs ++ ys) ≡ header_size e xs = size_front e xs ys four in
      let own : glance_at e xs ≡ words_glance e xs = glance_long e xs le in
      let before : rest_reading (glance_at e xs) (drop (header_size e xs) xs) ≡ rest_reading (words_glance e xs) (drop (header_size e xs) xs) = ap (λ g. rest_reading g (drop (header_size e xs) xs)) own in
      let now : rest_reading (glance_at e (xs ++ ys)) (drop (header_size e (xs ++ ys)) (xs ++ ys)) ≡ rest_reading (words_glance e xs) (drop (header_size e xs) xs ++ ys) =
      ap (λ g. rest_reading g (drop (header_size e (xs ++ ys)) (xs ++ ys))) (glance_front e xs ys le ∙ own) ∙ ap (λ (n : ℕ). rest_reading (words_glance e xs) (drop n (xs ++ ys))) size ∙ ap (rest_reading (words_glance e xs)) (drop-append-le (header_size e xs) xs ys le) in
      let same : rest_reading (glance_at e (xs ++ ys)) (drop (header_size e (xs ++ ys)) (xs ++ ys)) ≡ rest_reading (glance_at e xs) (drop (header_size e xs) xs) =
      now ∙ words_still e xs (drop (header_size e xs) xs) ys item (sym (ap (λ (r : Front × ℕ). r.0) before) ∙ w) ∙ sym before in
      (ap (λ (r : Front × ℕ). r.0) same ∙ w, counted (header_size e (xs ++ ys)) (header_size e xs) (length (xs ++ ys)) (length xs) _ _ size le (length-append xs ys) (ap (λ (r : Front × ℕ). r.1) same)) where
        counted : (size own many few a b : ℕ) → size ≡ own → own ≤ few → many ≡ few + length ys → a ≡ b → min size many + a ≡ min own few + b
        counted size own many few a b p q r t = omega (arith, p, q, r, t)

  by_case : (length xs < header_size e xs) ⊎ (header_size e xs ≤ length xs) → AreSame (reading e (xs ++ ys)) (reading e xs) item
  by_case (inl lt) = unfinished_is (reading e xs).0 item (ap (λ g. (rest_reading g (drop (header_size e xs) xs)).0) (glance_short e xs lt)) w
  by_case (inr le) = long le

-- ---- spelled items

-- of no bytes nothing is read
none_of_nothing : {A : Type 0} (e : Expected) (item : Item) → (reading e []).0 ≡ Whole item → A
none_of_nothing expected.Request item w = let clash : Unfinished ≡ Whole item = w in absurd cc
none_of_nothing expected.Answer item w = let clash : Unfinished ≡ Whole item = w in absurd cc
none_of_nothing expected.Frame item w = let clash : Unfinished ≡ Whole item = w in absurd cc

no_bytes : (xs ys : List ℕ) → xs ++ ys ≡ [] → xs ≡ []
no_bytes [] ys e = refl
no_bytes (x ∷ xs) ys e = absurd cc

whole_is : (i j : Item) → Whole i ≡ Whole j → i ≡ j
whole_is i j e = cc

drop_all : {X : Type 0} (xs ys : List X) → drop (length xs) (xs ++ ys) ≡ ys
drop_all [] ys = refl
drop_all (x ∷ xs) ys = drop_all xs ys

-- the item that is read of spelled ones is their first, and the others are left
record IsFirst (e : Expected) (since unread : List ℕ) (item one : Item) (more : List Item) : Type 0 where
  same : item ≡ one
  left : drop (reading e since).1 since ++ unread ≡ spellings more

first_read : (e : Expected) (since unread : List ℕ) (item one : Item) (more : List Item) → since ++ unread ≡ item_spelling one ++ spellings more → MayStand e one → (reading e since).0 ≡ Whole item → IsFirst e since unread item one more
first_read e since unread item one more whole may w =
    let still = stays_whole e since unread item w in
    let spelled : reading e (since ++ unread) ≡ at (Whole one) (length (item_spelling one)) = ap (reading e) whole ∙ reads_item e one (spellings more) may in
    let count : (reading e since).1 ≡ length (item_spelling one) = sym still.1 ∙ ap (λ (r : Front × ℕ). r.1) spelled in
    record {
      same = whole_is item one (sym still.0 ∙ ap (λ (r : Front × ℕ). r.0) spelled);
      left = sym (drop-append-le (reading e since).1 since unread (reads_within e since)) ∙ ap (λ (n : ℕ). drop n (since ++ unread)) count ∙ ap (drop (length (item_spelling one))) whole ∙ drop_all (item_spelling one) (spellings more);
    }

-- what is read of bytes behind which others are to come, where all are spelled items
pub read_of_spelled : (e next : Expected) (since left unread : List ℕ) (all items : List Item) → since ++ unread ≡ spellings all → MayFollow e all → AreRead e since items next left → AreReadOf all items next left unread
read_of_spelled e next since left unread all [] whole each r = record {
  rest = all;
  split = refl;
  whole = ap (λ (l : List ℕ). l ++ unread) r.1 ∙ whole;
  each = subst (λ (k : Expected). MayFollow k all) (sym r.0) each;
}
read_of_spelled e next since left unread [] (item ∷ items) whole each r = none_of_nothing e item (subst (λ (l : List ℕ). (reading e l).0 ≡ Whole item) (no_bytes since unread whole) r.0)
read_of_spelled e next since left unread (one ∷ more) (item ∷ items) whole each r =
    let first = first_read e since unread item one more whole each.0 r.0 in
    let rest = read_of_spelled expected.Frame next (drop (reading e since).1 since) left unread more items first.left each.1 r.1 in
    record { rest = rest.rest; split = ap (λ (i : Item). i ∷ more) (sym first.same) ∙ ap (λ (l : List Item). item ∷ l) rest.split; whole = rest.whole; each = rest.each }
