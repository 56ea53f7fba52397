-- What stands at the front of bytes is of the kind that is expected.
use Rattle.std.proofs.Common.{◌≡◌, ℕ, Bool, true, false, List, length, drop, take, refl}
use Rattle.std.specs.Prelude.{nat_lt, Result, Ok, Err, Option, Some, None}
use Rattle.ch_base.specs.AddressValues.{AddressValue}
use Rattle.ch_base.specs.Addresses.{read_address}
use Rattle.ch_base.specs.declared.address.AddressError.{AddressError}
use Rattle.ch_wire.specs.Spelling.{answer_numbered, head_numbered}
use Rattle.ch_wire.specs.declared.TheConstants.{MOST_ADDRESS_BYTES, MOST_PAYLOAD_BYTES}
use Rattle.ch_wire.specs.declared.answer.Answer.{Answer}
use Rattle.ch_wire.specs.declared.frame.Head.{Head}
use Rattle.ch_wire.specs.declared.frame.Head.TheVariants as heads
use Rattle.ch_reader.specs.Reading.{reading}
use Rattle.ch_reader.specs.Streams.{first_word, second_word}
use Rattle.ch_reader.specs.declared.item.Expected.{Expected}
use Rattle.ch_reader.specs.declared.item.Expected.TheVariants as expected
use Rattle.ch_reader.specs.declared.item.Front.{Front}
use Rattle.ch_reader.specs.declared.item.Front.TheVariants.{Whole}
use Rattle.ch_reader.specs.declared.item.Item.{Item}
use Rattle.ch_reader.specs.declared.item.Item.TheVariants as items

-- an item is of the kind that is expected
abbrev pub Matches : Expected → Item → Type 0
Matches expected.Request (items.Request request) = Unit {0}
Matches expected.Answer (items.Answer answer) = Unit {0}
Matches expected.Frame (items.Frame frame) = Unit {0}
Matches e item = ⊥

abbrev pub FrontMatches : Expected → Front → Type 0
FrontMatches e (Whole item) = Matches e item
FrontMatches e front = Unit {0}

request_matches : (bytes : List ℕ) → FrontMatches expected.Request (reading expected.Request bytes).0
request_matches bytes = by_size (nat_lt (length bytes) 8) refl where
  by_address : (target : ℕ) (body : Result AddressValue AddressError) → read_address (take (second_word bytes) (drop 8 bytes)) ≡ body → nat_lt (length bytes) 8 ≡ false → nat_lt MOST_ADDRESS_BYTES (second_word bytes) ≡ false → nat_lt (length (drop 8 bytes)) (second_word bytes) ≡ false → FrontMatches expected.Request (reading expected.Request bytes).0
  by_address target (Ok a) x s m l = rw (s, m, l, x) tt
  by_address target (Err e) x s m l = rw (s, m, l, x) tt

  by_length : (b : Bool) → nat_lt (length (drop 8 bytes)) (second_word bytes) ≡ b → nat_lt (length bytes) 8 ≡ false → nat_lt MOST_ADDRESS_BYTES (second_word bytes) ≡ false → FrontMatches expected.Request (reading expected.Request bytes).0
  by_length true l s m = rw (s, m, l) tt
  by_length false l s m = by_address (first_word bytes) (read_address (take (second_word bytes) (drop 8 bytes))) refl s m l

  by_most : (b : Bool) → nat_lt MOST_ADDRESS_BYTES (second_word bytes) ≡ b → nat_lt (length bytes) 8 ≡ false → FrontMatches expected.Request (reading expected.Request bytes).0
  by_most true m s = rw (s, m) tt
  by_most false m s = by_length (nat_lt (length (drop 8 bytes)) (second_word bytes)) refl s m

  by_size : (b : Bool) → nat_lt (length bytes) 8 ≡ b → FrontMatches expected.Request (reading expected.Request bytes).0
  by_size true s = rw s tt
  by_size false s = by_most (nat_lt MOST_ADDRESS_BYTES (second_word bytes)) refl s

answer_matches : (bytes : List ℕ) → FrontMatches expected.Answer (reading expected.Answer bytes).0
answer_matches bytes = by_size (nat_lt (length bytes) 4) refl where
  by_word : (o : Option Answer) → answer_numbered (first_word bytes) ≡ o → nat_lt (length bytes) 4 ≡ false → FrontMatches expected.Answer (reading expected.Answer bytes).0
  by_word None w s = rw (s, w) tt
  by_word (Some a) w s = rw (s, w) tt

  by_size : (b : Bool) → nat_lt (length bytes) 4 ≡ b → FrontMatches expected.Answer (reading expected.Answer bytes).0
  by_size true s = rw s tt
  by_size false s = by_word (answer_numbered (first_word bytes)) refl s

frame_matches : (bytes : List ℕ) → FrontMatches expected.Frame (reading expected.Frame bytes).0
frame_matches bytes = by_size (nat_lt (length bytes) 4) refl where
  by_length : (id : ℕ) (b : Bool) → nat_lt (length (drop 8 bytes)) (second_word bytes) ≡ b → nat_lt (length bytes) 4 ≡ false → head_numbered (first_word bytes) ≡ heads.Data id → nat_lt (length bytes) 8 ≡ false → nat_lt MOST_PAYLOAD_BYTES (second_word bytes) ≡ false → FrontMatches expected.Frame (reading expected.Frame bytes).0
  by_length id true l s h t m = rw (s, h, t, m, l) tt
  by_length id false l s h t m = rw (s, h, t, m, l) tt

  by_most : (id : ℕ) (b : Bool) → nat_lt MOST_PAYLOAD_BYTES (second_word bytes) ≡ b → nat_lt (length bytes) 4 ≡ false → head_numbered (first_word bytes) ≡ heads.Data id → nat_lt (length bytes) 8 ≡ false → FrontMatches expected.Frame (reading expected.Frame bytes).0
  by_most id true m s h t = rw (s, h, t, m) tt
  by_most id false m s h t = by_length id (nat_lt (length (drop 8 bytes)) (second_word bytes)) refl s h t m

  by_data : (id : ℕ) (b : Bool) → nat_lt (length bytes) 8 ≡ b → nat_lt (length bytes) 4 ≡ false → head_numbered (first_word bytes) ≡ heads.Data id → FrontMatches expected.Frame (reading expected.Frame bytes).0
  by_data id true t s h = rw (s, h, t) tt
  by_data id false t s h = by_most id (nat_lt MOST_PAYLOAD_BYTES (second_word bytes)) refl s h t

  by_created : (b : Bool) → nat_lt (length bytes) 8 ≡ b → nat_lt (length bytes) 4 ≡ false → head_numbered (first_word bytes) ≡ heads.Created → FrontMatches expected.Frame (reading expected.Frame bytes).0
  by_created true t s h = rw (s, h, t) tt
  by_created false t s h = rw (s, h, t) tt

  by_closed : (b : Bool) → nat_lt (length bytes) 8 ≡ b → nat_lt (length bytes) 4 ≡ false → head_numbered (first_word bytes) ≡ heads.Closed → FrontMatches expected.Frame (reading expected.Frame bytes).0
  by_closed true t s h = rw (s, h, t) tt
  by_closed false t s h = rw (s, h, t) tt

  by_head : (head : Head) → head_numbered (first_word bytes) ≡ head → nat_lt (length bytes) 4 ≡ false → FrontMatches expected.Frame (reading expected.Frame bytes).0
  by_head heads.Created h s = by_created (nat_lt (length bytes) 8) refl s h
  by_head heads.Closed h s = by_closed (nat_lt (length bytes) 8) refl s h
  by_head (heads.Data id) h s = by_data id (nat_lt (length bytes) 8) refl s h
  by_head heads.EndClosed h s = rw (s, h, s) tt
  by_head heads.Probe h s = rw (s, h, s) tt
  by_head heads.ProbeAck h s = rw (s, h, s) tt
  by_head heads.Unknown h s = rw (s, h, s) tt

  by_size : (b : Bool) → nat_lt (length bytes) 4 ≡ b → FrontMatches expected.Frame (reading expected.Frame bytes).0
  by_size true s = rw (s, s) tt
  by_size false s = by_head (head_numbered (first_word bytes)) refl s

-- what is read is of the kind that is expected
pub reading_matches : (e : Expected) (bytes : List ℕ) → FrontMatches e (reading e bytes).0
reading_matches expected.Request bytes = request_matches bytes
reading_matches expected.Answer bytes = answer_matches bytes
reading_matches expected.Frame bytes = frame_matches bytes
