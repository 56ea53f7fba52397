-- Reading finds what stands at the front: a spelled item, an unfinished rest, a refusal.
use Rattle.std.proofs.Common.{◌≡◌, ℕ, ◌+◌, ◌<◌, ◌≤◌, ◌^◌, min, Bool, cond, inl, inr, Some, None, Result, Ok, Err, List, ◌++◌, length, take, drop, refl, sym, ap, ◌∙◌, append_assoc, arith}
use Rattle.std.specs.Prelude.{IsErr}
use Rattle.std.proofs.lemmas.Bool.{le-ltb, lt-ltb}
use Rattle.std.proofs.lemmas.Bool.Decides.{nat_tests}
use Rattle.std.proofs.lemmas.List.{length-append, length-drop, take_at, drop-append-le}
use Rattle.ch_base.specs.AddressValues.{AddressValue}
use Rattle.ch_base.specs.Addresses.{address_text, read_address}
use Rattle.ch_base.specs.declared.address.AddressError.{AddressError}
use Rattle.ch_base.proofs.Addresses.{read_again}
use Rattle.ch_wire.specs.Words.{word, word_value, counted}
use Rattle.ch_wire.specs.Spelling.{IsRequest, IsFrame, answer_number, answer_numbered, head_numbered, request_spelling, answer_spelling, frame_spelling}
use Rattle.ch_wire.specs.declared.TheConstants.{FIRST_ID, MOST_ADDRESS_BYTES, MOST_PAYLOAD_BYTES}
use Rattle.ch_wire.specs.declared.answer.Answer.{Answer}
use Rattle.ch_wire.specs.declared.answer.Answer.TheVariants.{Accepted, Invalid, Crossed, Mismatch}
use Rattle.ch_wire.specs.declared.frame.Frame.{Frame}
use Rattle.ch_wire.specs.declared.frame.Frame.TheVariants as frames
use Rattle.ch_wire.specs.declared.frame.Head.{Head}
use Rattle.ch_wire.specs.declared.frame.Head.TheVariants as heads
use Rattle.ch_wire.specs.declared.request.Request.{Request}
use Rattle.ch_wire.proofs.Words.{word_front, word_rest, counted_regrouped}
use Rattle.ch_wire.proofs.Spellings.{head_of_connection}
use Rattle.ch_reader.specs.declared.item.Expected.{Expected}
use Rattle.ch_reader.specs.declared.item.Expected.TheVariants as expected
use Rattle.ch_reader.specs.declared.item.Item.{Item}
use Rattle.ch_reader.specs.declared.item.Item.TheVariants as items
use Rattle.ch_reader.specs.declared.item.ReaderError.{ReaderError}
use Rattle.ch_reader.specs.declared.item.ReaderError.TheVariants.{UnknownControl, PayloadLong, AddressLong, BadAddress, BadAnswer}
use Rattle.ch_reader.specs.declared.item.Front.{Front}
use Rattle.ch_reader.specs.declared.item.Front.TheVariants.{Unfinished, Whole, Refused}
use Rattle.ch_reader.specs.declared.glance.Glance.TheVariants.{Settled, Body}
use Rattle.ch_reader.specs.declared.glance.Opened.{Opened}
use Rattle.ch_reader.specs.declared.glance.Opened.TheVariants as opened
use Rattle.ch_reader.specs.Items.{item_spelling, MayStand}
use Rattle.ch_reader.specs.Streams.{first_word, second_word, IsPartOfCounted, IsPartOfFrame, IsUnfinished, IsUnknownControl, IsRefusal}
use Rattle.ch_reader.specs.Reading.{frame_header_size, header_size, counted_body, answer_glance, frame_glance, words_glance, request_front, body_front, rest_reading, reading}
use Rattle.ch_reader.proofs.Bodies.{at, pair, body_whole}
use Rattle.ch_reader.proofs.Headers.{first_word_front, second_word_front, frame_size, size_bounds, glance_short, glance_long}
use Rattle.ch_reader.proofs.Readings.{reading_by, body_short, unfinished_is_all}

-- ---- what whole words and a whole body give

pub settled_reads : (e : Expected) (bytes : List ℕ) (front : Front) (size : ℕ) → header_size e bytes ≡ size → size ≤ length bytes → words_glance e bytes ≡ Settled front → reading e bytes ≡ at front size
settled_reads e bytes front size s le h =
    reading_by e bytes (Settled front) (glance_long e bytes (omega arith) ∙ h) ∙ ap (at front) (omega arith)

pub body_reads : (e : Expected) (bytes : List ℕ) (o : Opened) (count : ℕ) (rest : List ℕ) → header_size e bytes ≡ 8 → 8 ≤ length bytes → words_glance e bytes ≡ Body o count → drop 8 bytes ≡ rest → count ≤ length rest
    → reading e bytes ≡ at (body_front o (take count rest)) (8 + count)
body_reads e bytes o count rest s le h tail enough =
    let size : ℕ = header_size e bytes in
    let found : rest_reading (Body o count) (drop size bytes) ≡ at (body_front o (take count rest)) count = ap (λ (k : ℕ). rest_reading (Body o count) (drop k bytes)) s ∙ ap (rest_reading (Body o count)) tail ∙ body_whole o count rest enough in
    reading_by e bytes (Body o count) (glance_long e bytes (omega arith) ∙ h)
    ∙ ap (λ (r : Front × ℕ). at r.0 (min size (length bytes) + r.1)) found ∙ ap (λ (k : ℕ). at (body_front o (take count rest)) k) (omega arith)

body_waits : (e : Expected) (bytes : List ℕ) (o : Opened) (count : ℕ) → header_size e bytes ≡ 8 → 8 ≤ length bytes → words_glance e bytes ≡ Body o count → length bytes < 8 + count → (reading e bytes).0 ≡ Unfinished
body_waits e bytes o count s le h lt =
    let size : ℕ = header_size e bytes in
    ap (λ (r : Front × ℕ). r.0) (reading_by e bytes (Body o count) (glance_long e bytes (omega arith) ∙ h) ∙ ap (λ (r : Front × ℕ). at r.0 (min size (length bytes) + r.1)) (body_short o count (drop size bytes) (omega (arith, length-drop size bytes))))

short_waits : (e : Expected) (bytes : List ℕ) → length bytes < header_size e bytes → (reading e bytes).0 ≡ Unfinished
short_waits e bytes lt = ap (λ (r : Front × ℕ). r.0) (reading_by e bytes (Settled Unfinished) (glance_short e bytes lt))

pub counted_begins : (o : Opened) (most : ℕ) (error : ReaderError) (count : ℕ) → count ≤ most → counted_body o most error count ≡ Body o count
counted_begins o most error count le = ap (λ (t : Bool). cond t (Settled (Refused error)) (Body o count)) (le-ltb most count le)

pub counted_refuses : (o : Opened) (most : ℕ) (error : ReaderError) (count : ℕ) → most < count → counted_body o most error count ≡ Settled (Refused error)
counted_refuses o most error count lt = ap (λ (t : Bool). cond t (Settled (Refused error)) (Body o count)) (lt-ltb most count lt)

pub frame_size_is : (bytes : List ℕ) (h : Head) → 4 ≤ length bytes → head_numbered (first_word bytes) ≡ h → header_size expected.Frame bytes ≡ frame_header_size h
frame_size_is bytes h four is = ap (λ (t : Bool). frame_size t (head_numbered (first_word bytes))) (le-ltb (length bytes) 4 four) ∙ ap frame_header_size is

pub frame_words_are : (bytes : List ℕ) (h : Head) → head_numbered (first_word bytes) ≡ h → words_glance expected.Frame bytes ≡ frame_glance h (second_word bytes)
frame_words_are bytes h is = ap (λ (k : Head). frame_glance k (second_word bytes)) is

-- ---- a spelled item

-- two words and what follows
record TwoWords (bytes : List ℕ) (first second : ℕ) (tail : List ℕ) : Type 0 where
  first_is : first_word bytes ≡ first
  second_is : second_word bytes ≡ second
  tail_is : drop 8 bytes ≡ tail
  long : length bytes ≡ 8 + length tail

two_words : (m n : ℕ) (tail : List ℕ) → m < 2 ^ 32 → n < 2 ^ 32 → TwoWords (word m ++ (word n ++ tail)) m n tail
two_words m n tail p q = record {
  first_is = word_front m (word n ++ tail) p;
  second_is = ap (λ (xs : List ℕ). word_value (take 4 xs)) (word_rest m (word n ++ tail)) ∙ word_front n tail q;
  tail_is = refl;
  long = omega arith;
}

one_more : (id : ℕ) (h : Head) (first : ℕ) (frame : Frame) (bytes rest : List ℕ) → TwoWords bytes first id rest → head_numbered first ≡ h → frame_header_size h ≡ 8 → frame_glance h id ≡ Settled (Whole (items.Frame frame))
    → reading expected.Frame bytes ≡ at (Whole (items.Frame frame)) 8
one_more id h first frame bytes rest t is s g =
    let head : head_numbered (first_word bytes) ≡ h = ap head_numbered t.first_is ∙ is in
    settled_reads expected.Frame bytes (Whole (items.Frame frame)) 8 (frame_size_is bytes h (omega (arith, t.long)) head ∙ s) (omega (arith, t.long)) (frame_words_are bytes h head ∙ (ap (frame_glance h) t.second_is ∙ g))

no_more : (h : Head) (n : ℕ) (frame : Frame) (rest : List ℕ) → n < 2 ^ 32 → head_numbered n ≡ h → frame_header_size h ≡ 4 → frame_glance h (second_word (word n ++ rest)) ≡ Settled (Whole (items.Frame frame))
    → reading expected.Frame (word n ++ rest) ≡ at (Whole (items.Frame frame)) 4
no_more h n frame rest lt is s g =
    let head : head_numbered (first_word (word n ++ rest)) ≡ h = ap head_numbered (word_front n rest lt) ∙ is in
    settled_reads expected.Frame (word n ++ rest) (Whole (items.Frame frame)) 4 (frame_size_is (word n ++ rest) h (omega arith) head ∙ s) (omega arith) (frame_words_are (word n ++ rest) h head ∙ g)

counted_item : (e : Expected) (o : Opened) (first : ℕ) (text rest : List ℕ) → first < 2 ^ 32 → length text < 2 ^ 32
    → header_size e (counted first text ++ rest) ≡ 8 → ((bytes : List ℕ) → TwoWords bytes first (length text) (text ++ rest) → words_glance e bytes ≡ Body o (length text)) → reading e (counted first text ++ rest) ≡ at (body_front o text) (8 + length text)
counted_item e o first text rest p q s g =
    let bytes : List ℕ = word first ++ (word (length text) ++ (text ++ rest)) in
    let regrouped : counted first text ++ rest ≡ bytes = counted_regrouped first text rest in
    let t = two_words first (length text) (text ++ rest) p q in
    ap (reading e) regrouped
    ∙ body_reads e bytes o (length text) (text ++ rest) (ap (header_size e) (sym regrouped) ∙ s) (omega (arith, t.long)) (g bytes t) t.tail_is (omega (arith, length-append text rest))
    ∙ ap (λ (xs : List ℕ). at (body_front o xs) (8 + length text)) (take_at text rest (length text) refl)

frame_reads : (f : Frame) (rest : List ℕ) → IsFrame f → reading expected.Frame (frame_spelling f ++ rest) ≡ at (Whole (items.Frame f)) (length (frame_spelling f))
frame_reads (frames.Created id) rest fits =
    ap (reading expected.Frame) (append_assoc (word 0) (word id) rest) ∙ one_more id heads.Created 0 (frames.Created id) (word 0 ++ (word id ++ rest)) rest (two_words 0 id rest (omega arith) fits) refl refl refl
frame_reads (frames.Closed id) rest fits =
    ap (reading expected.Frame) (append_assoc (word 1) (word id) rest) ∙ one_more id heads.Closed 1 (frames.Closed id) (word 1 ++ (word id ++ rest)) rest (two_words 1 id rest (omega arith) fits) refl refl refl
frame_reads frames.EndClosed rest fits = no_more heads.EndClosed 3 frames.EndClosed rest (omega arith) refl refl refl
frame_reads frames.Probe rest fits = no_more heads.Probe 4 frames.Probe rest (omega arith) refl refl refl
frame_reads frames.ProbeAck rest fits = no_more heads.ProbeAck 5 frames.ProbeAck rest (omega arith) refl refl refl
frame_reads (frames.Data id payload) rest fits =
    let is : head_numbered id ≡ heads.Data id = head_of_connection id fits.0.0 in
    let bytes : List ℕ = counted id payload ++ rest in
    let first : first_word bytes ≡ id = ap first_word (counted_regrouped id payload rest) ∙ word_front id (word (length payload) ++ (payload ++ rest)) fits.0.1 in
    counted_item expected.Frame (opened.Data id) id payload rest fits.0.1 (omega (arith, fits.1))
    (frame_size_is bytes (heads.Data id) (omega arith) (ap head_numbered first ∙ is))
    (λ xs t. frame_words_are xs (heads.Data id) (ap head_numbered t.first_is ∙ is) ∙ (ap (frame_glance (heads.Data id)) t.second_is ∙ counted_begins (opened.Data id) MOST_PAYLOAD_BYTES PayloadLong (length payload) fits.1))
    ∙ ap (at (Whole (items.Frame (frames.Data id payload)))) (omega arith)

request_reads : (r : Request) (rest : List ℕ) → IsRequest r → reading expected.Request (request_spelling r ++ rest) ≡ at (Whole (items.Request r)) (length (request_spelling r))
request_reads r rest fits =
    let text : List ℕ = address_text r.from in
    counted_item expected.Request (opened.Request r.target) r.target text rest fits.target (omega (arith, fits.address.short)) refl
    (λ xs t. ap (λ (n : ℕ). counted_body (opened.Request n) MOST_ADDRESS_BYTES AddressLong (second_word xs)) t.first_is
    ∙ (ap (counted_body (opened.Request r.target) MOST_ADDRESS_BYTES AddressLong) t.second_is ∙ counted_begins (opened.Request r.target) MOST_ADDRESS_BYTES AddressLong (length text) fits.address.short))
    ∙ ap (λ (x : Result AddressValue AddressError). at (request_front r.target x) (8 + length text)) (read_again r.from fits.address)
    ∙ ap (at (Whole (items.Request r))) (omega arith)

-- the number of an answer fits a word, and is its answer's
answer_is_word : (a : Answer) → answer_number a < 2 ^ 32
answer_is_word Accepted = omega arith
answer_is_word Invalid = omega arith
answer_is_word Crossed = omega arith
answer_is_word Mismatch = omega arith

answer_again : (a : Answer) → answer_numbered (answer_number a) ≡ Some a
answer_again Accepted = refl
answer_again Invalid = refl
answer_again Crossed = refl
answer_again Mismatch = refl

answer_reads : (a : Answer) (rest : List ℕ) → reading expected.Answer (answer_spelling a ++ rest) ≡ at (Whole (items.Answer a)) 4
answer_reads a rest =
    settled_reads expected.Answer (answer_spelling a ++ rest) (Whole (items.Answer a)) 4 refl (omega arith)
    (ap (λ (n : ℕ). answer_glance (answer_numbered n)) (word_front (answer_number a) rest (answer_is_word a)) ∙ ap answer_glance (answer_again a))

-- a spelled item is read, whatever follows
pub reads_item : (e : Expected) (item : Item) (rest : List ℕ) → MayStand e item → reading e (item_spelling item ++ rest) ≡ at (Whole item) (length (item_spelling item))
reads_item expected.Request (items.Request r) rest fits = request_reads r rest fits
reads_item expected.Answer (items.Answer a) rest fits = answer_reads a rest
reads_item expected.Frame (items.Frame f) rest fits = frame_reads f rest fits
reads_item e item rest fits = absurd fits

-- ---- an unfinished rest

part_waits : (e : Expected) (o : Opened) (most : ℕ) (error : ReaderError) (bytes : List ℕ) → header_size e bytes ≡ 8 → words_glance e bytes ≡ counted_body o most error (second_word bytes) → IsPartOfCounted most bytes → (reading e bytes).0 ≡ Unfinished
part_waits e o most error bytes s g (inl lt) = short_waits e bytes (omega arith)
part_waits e o most error bytes s g (inr p) = body_waits e bytes o (second_word bytes) s p.0 (g ∙ counted_begins o most error (second_word bytes) p.1) p.2

part_of_frame_waits : (bytes : List ℕ) (h : Head) → 4 ≤ length bytes → head_numbered (first_word bytes) ≡ h → IsPartOfFrame h bytes → (reading expected.Frame bytes).0 ≡ Unfinished
part_of_frame_waits bytes heads.Created four is p = short_waits expected.Frame bytes (omega (arith, frame_size_is bytes heads.Created four is))
part_of_frame_waits bytes heads.Closed four is p = short_waits expected.Frame bytes (omega (arith, frame_size_is bytes heads.Closed four is))
part_of_frame_waits bytes (heads.Data id) four is p = part_waits expected.Frame (opened.Data id) MOST_PAYLOAD_BYTES PayloadLong bytes (frame_size_is bytes (heads.Data id) four is) (frame_words_are bytes (heads.Data id) is) p
part_of_frame_waits bytes h four is p = absurd p

frame_waits : (bytes : List ℕ) → IsUnfinished expected.Frame bytes → (reading expected.Frame bytes).0 ≡ Unfinished
frame_waits bytes (inl lt) = short_waits expected.Frame bytes (omega (arith, (size_bounds expected.Frame bytes).0))
frame_waits bytes (inr p) = part_of_frame_waits bytes (head_numbered (first_word bytes)) p.0 refl p.1

unfinished_waits : (e : Expected) (bytes : List ℕ) → IsUnfinished e bytes → (reading e bytes).0 ≡ Unfinished
unfinished_waits expected.Request bytes u = part_waits expected.Request (opened.Request (first_word bytes)) MOST_ADDRESS_BYTES AddressLong bytes refl refl u
unfinished_waits expected.Answer bytes u = short_waits expected.Answer bytes u
unfinished_waits expected.Frame bytes u = frame_waits bytes u

-- an unfinished rest is read as one
pub reads_unfinished : (e : Expected) (bytes : List ℕ) → IsUnfinished e bytes → reading e bytes ≡ at Unfinished (length bytes)
reads_unfinished e bytes u = let w = unfinished_waits e bytes u in pair w (unfinished_is_all e bytes w)

-- ---- a refusal

unknown : (n : ℕ) → IsUnknownControl n → head_numbered n ≡ heads.Unknown
unknown n (inl e) = ap head_numbered e
unknown n (inr p) = let low = p.0 in let high = p.1 in grind (arith, nat_tests)

no_answer : (n : ℕ) → 3 < n → answer_numbered n ≡ None
no_answer n h = grind (arith, nat_tests)

connection : (n : ℕ) → FIRST_ID ≤ n → head_numbered n ≡ heads.Data n
connection n h = head_of_connection n h

refused_address : (target : ℕ) (r : Result AddressValue AddressError) → IsErr r → request_front target r ≡ Refused BadAddress
refused_address target (Ok a) h = absurd cc
refused_address target (Err x) h = refl

-- a refusal is read, whatever follows
pub reads_refusal : (e : Expected) (error : ReaderError) (last more : List ℕ) → IsRefusal e error last → reading e (last ++ more) ≡ at (Refused error) (length last)
reads_refusal expected.Request AddressLong last more p =
    settled_reads expected.Request (last ++ more) (Refused AddressLong) 8 refl (omega (arith, length-append last more))
    (ap (counted_body (opened.Request (first_word (last ++ more))) MOST_ADDRESS_BYTES AddressLong) (second_word_front last more (omega arith)) ∙ counted_refuses (opened.Request (first_word (last ++ more))) MOST_ADDRESS_BYTES AddressLong (second_word last) p.1)
    ∙ ap (at (Refused AddressLong)) (sym p.0)
reads_refusal expected.Request BadAddress last more p =
    let target : ℕ = first_word (last ++ more) in
    let count : ℕ = second_word last in
    let len : length (drop 8 last) ≡ count = omega (arith, length-drop 8 last, p.2) in
    body_reads expected.Request (last ++ more) (opened.Request target) count (drop 8 last ++ more) refl (omega (arith, length-append last more))
    (ap (counted_body (opened.Request target) MOST_ADDRESS_BYTES AddressLong) (second_word_front last more p.0) ∙ counted_begins (opened.Request target) MOST_ADDRESS_BYTES AddressLong count p.1)
    (drop-append-le 8 last more p.0) (omega (arith, length-append (drop 8 last) more))
    ∙ ap (λ (xs : List ℕ). at (body_front (opened.Request target) xs) (8 + count)) (take_at (drop 8 last) more count len)
    ∙ pair (refused_address target (read_address (drop 8 last)) p.3) (sym p.2)
reads_refusal expected.Answer BadAnswer last more p =
    settled_reads expected.Answer (last ++ more) (Refused BadAnswer) 4 refl (omega (arith, length-append last more))
    (ap (λ (n : ℕ). answer_glance (answer_numbered n)) (first_word_front last more (omega arith)) ∙ ap answer_glance (no_answer (first_word last) p.1))
    ∙ ap (at (Refused BadAnswer)) (sym p.0)
reads_refusal expected.Frame UnknownControl last more p =
    let is : head_numbered (first_word (last ++ more)) ≡ heads.Unknown = ap head_numbered (first_word_front last more (omega arith)) ∙ unknown (first_word last) p.1 in
    settled_reads expected.Frame (last ++ more) (Refused UnknownControl) 4 (frame_size_is (last ++ more) heads.Unknown (omega (arith, length-append last more)) is) (omega (arith, length-append last more)) (frame_words_are (last ++ more) heads.Unknown is)
    ∙ ap (at (Refused UnknownControl)) (sym p.0)
reads_refusal expected.Frame PayloadLong last more p =
    let id : ℕ = first_word last in
    let is : head_numbered (first_word (last ++ more)) ≡ heads.Data id = ap head_numbered (first_word_front last more (omega arith)) ∙ connection id p.1 in
    settled_reads expected.Frame (last ++ more) (Refused PayloadLong) 8 (frame_size_is (last ++ more) (heads.Data id) (omega (arith, length-append last more)) is) (omega (arith, length-append last more))
    (frame_words_are (last ++ more) (heads.Data id) is ∙ (ap (frame_glance (heads.Data id)) (second_word_front last more (omega arith)) ∙ counted_refuses (opened.Data id) MOST_PAYLOAD_BYTES PayloadLong (second_word last) p.2))
    ∙ ap (at (Refused PayloadLong)) (sym p.0)
reads_refusal e error last more p = absurd p
