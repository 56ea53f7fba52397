-- Each spelling can be read from the front of what it begins, so none begins another.
use Rattle.std.proofs.Common.{◌≡◌, ℕ, ◌<◌, ◌≤◌, ◌^◌, List, ◌++◌, length, take, drop, Some, Result, Ok, refl, sym, ap, ◌∙◌, append_assoc, arith}
use Rattle.std.proofs.lemmas.List.{take_at, drop_at}
use Rattle.std.proofs.lemmas.Bool.Decides.{nat_tests}
use Rattle.ch_base.specs.AddressValues.{AddressValue}
use Rattle.ch_base.specs.Addresses.{IsAddress, address_text, read_address}
use Rattle.ch_base.specs.declared.address.AddressError.{AddressError}
use Rattle.ch_base.proofs.Addresses.{read_again}
use Rattle.ch_wire.specs.Words.{word, word_value, counted}
use Rattle.ch_wire.specs.Spelling.{IsRequest, IsFrame, request_spelling, answer_number, answer_spelling, answer_numbered, frame_spelling, head_numbered}
use Rattle.ch_wire.specs.declared.TheConstants.{FIRST_ID}
use Rattle.ch_wire.specs.declared.answer.Answer.{Answer}
use Rattle.ch_wire.specs.declared.answer.Answer.TheVariants.{Accepted, Invalid, Crossed, Mismatch}
use Rattle.ch_wire.specs.declared.frame.Frame.{Frame}
use Rattle.ch_wire.specs.declared.frame.Frame.TheVariants.{Created, Closed, EndClosed, Probe, ProbeAck, Data}
use Rattle.ch_wire.specs.declared.frame.Head.{Head}
use Rattle.ch_wire.specs.declared.frame.Head.TheVariants as heads
use Rattle.ch_wire.specs.declared.request.Request.{Request}
use Rattle.ch_wire.proofs.Words.{word_front, word_rest, counted_regrouped}

-- an identifier is the head of a payload
pub head_of_connection : (id : ℕ) → FIRST_ID ≤ id → head_numbered id ≡ heads.Data id
head_of_connection id h = grind (arith, nat_tests)

-- the frame that a head and what follows it spell, and what is left
abbrev frame_front : Head → List ℕ → Frame × List ℕ
frame_front heads.Created rest = (Created (word_value (take 4 rest)), drop 4 rest)
frame_front heads.Closed rest = (Closed (word_value (take 4 rest)), drop 4 rest)
frame_front heads.EndClosed rest = (EndClosed, rest)
frame_front heads.Probe rest = (Probe, rest)
frame_front heads.ProbeAck rest = (ProbeAck, rest)
frame_front (heads.Data id) rest = (Data id (take (word_value (take 4 rest)) (drop 4 rest)), drop (word_value (take 4 rest)) (drop 4 rest))
frame_front heads.Unknown rest = (EndClosed, rest)

abbrev front_of : List ℕ → Frame × List ℕ
front_of bytes = frame_front (head_numbered (word_value (take 4 bytes))) (drop 4 bytes)

-- what a first word and a rest begin with
front_is : (n : ℕ) (rest : List ℕ) → n < 2 ^ 32 → front_of (word n ++ rest) ≡ frame_front (head_numbered n) rest
front_is n rest lt = rw (word_front n rest lt, word_rest n rest) refl

frame_again : (f : Frame) (rest : List ℕ) → IsFrame f → front_of (frame_spelling f ++ rest) ≡ (f, rest)
frame_again (Created id) rest fits =
    ap front_of (append_assoc (word 0) (word id) rest) ∙ front_is 0 (word id ++ rest) (omega arith) ∙ rw (word_front id rest fits, word_rest id rest) refl
frame_again (Closed id) rest fits =
    ap front_of (append_assoc (word 1) (word id) rest) ∙ front_is 1 (word id ++ rest) (omega arith) ∙ rw (word_front id rest fits, word_rest id rest) refl
frame_again EndClosed rest fits = front_is 3 rest (omega arith)
frame_again Probe rest fits = front_is 4 rest (omega arith)
frame_again ProbeAck rest fits = front_is 5 rest (omega arith)
frame_again (Data id payload) rest fits =
    ap front_of (counted_regrouped id payload rest)
    ∙ front_is id (word (length payload) ++ (payload ++ rest)) fits.0.1
    ∙ rw (head_of_connection id fits.0.0, word_front (length payload) (payload ++ rest) (omega arith), word_rest (length payload) (payload ++ rest), take_at payload rest (length payload) refl, drop_at payload rest (length payload) refl) refl

-- no frame's spelling begins another's
pub frames_apart : (f g : Frame) (x y : List ℕ) → IsFrame f → IsFrame g → frame_spelling f ++ x ≡ frame_spelling g ++ y → (f ≡ g) × (x ≡ y)
frames_apart f g x y p q e =
    let same : (f, x) ≡ (g, y) = sym (frame_again f x p) ∙ ap front_of e ∙ frame_again g y q in
    (ap (λ (r : Frame × List ℕ). r.0) same, ap (λ (r : Frame × List ℕ). r.1) same)

-- two words with their rests are equal only where both are
words_apart : (m n : ℕ) (x y : List ℕ) → m < 2 ^ 32 → n < 2 ^ 32 → word m ++ x ≡ word n ++ y → (m ≡ n) × (x ≡ y)
words_apart m n x y p q e =
    (sym (word_front m x p) ∙ ap (λ (bytes : List ℕ). word_value (take 4 bytes)) e ∙ word_front n y q, sym (word_rest m x) ∙ ap (λ (bytes : List ℕ). drop 4 bytes) e ∙ word_rest n y)

answer_again : (a : Answer) → answer_numbered (answer_number a) ≡ Some a
answer_again Accepted = refl
answer_again Invalid = refl
answer_again Crossed = refl
answer_again Mismatch = refl

small : (a : Answer) → answer_number a < 2 ^ 32
small Accepted = omega arith
small Invalid = omega arith
small Crossed = omega arith
small Mismatch = omega arith

some_is : {A : Type 0} (a b : A) → Some a ≡ Some b → a ≡ b
some_is a b e = cc

-- no answer's spelling begins another's
pub answers_apart : (a b : Answer) (x y : List ℕ) → answer_spelling a ++ x ≡ answer_spelling b ++ y → (a ≡ b) × (x ≡ y)
answers_apart a b x y e =
    let w = words_apart (answer_number a) (answer_number b) x y (small a) (small b) e in
    (some_is a b (sym (answer_again a) ∙ ap answer_numbered w.0 ∙ answer_again b), w.1)

abbrev found : AddressValue → Result AddressValue AddressError
found a = Ok a

found_is : (a b : AddressValue) → found a ≡ found b → a ≡ b
found_is a b h = cc

-- an address is known by its text
address_by_text : (a b : AddressValue) → IsAddress a → IsAddress b → address_text a ≡ address_text b → a ≡ b
address_by_text a b p q e = found_is a b (sym (read_again a p) ∙ ap read_address e ∙ read_again b q)

counted_apart : (m n : ℕ) (s t x y : List ℕ) → m < 2 ^ 32 → n < 2 ^ 32 → length s < 2 ^ 32 → length t < 2 ^ 32 → counted m s ++ x ≡ counted n t ++ y → (m ≡ n) × (s ≡ t) × (x ≡ y)
counted_apart m n s t x y p q u v e =
    let one = words_apart m n (word (length s) ++ (s ++ x)) (word (length t) ++ (t ++ y)) p q (sym (counted_regrouped m s x) ∙ e ∙ counted_regrouped n t y) in
    let two = words_apart (length s) (length t) (s ++ x) (t ++ y) u v one.1 in (
      one.0,
      sym (take_at s x (length s) refl) ∙ ap (take (length s)) two.1 ∙ ap (λ (k : ℕ). take k (t ++ y)) two.0 ∙ take_at t y (length t) refl,
      sym (drop_at s x (length s) refl) ∙ ap (drop (length s)) two.1 ∙ ap (λ (k : ℕ). drop k (t ++ y)) two.0 ∙ drop_at t y (length t) refl,
    )

abbrev request : ℕ → AddressValue → Request
request target from = record { target = target; from = from }

-- no request's spelling begins another's
pub requests_apart : (r s : Request) (x y : List ℕ) → IsRequest r → IsRequest s → request_spelling r ++ x ≡ request_spelling s ++ y → (r ≡ s) × (x ≡ y)
requests_apart r s x y p q e =
    let c = counted_apart r.target s.target (address_text r.from) (address_text s.from) x y p.target q.target (omega (arith, p.address.short)) (omega (arith, q.address.short)) e in
    (ap (λ (n : ℕ). request n r.from) c.0 ∙ ap (request s.target) (address_by_text r.from s.from p.address q.address c.1), c.2)
