-- The classes of fields: what is known of a field that was read, and that its text is read as it again.
use Rattle.std.proofs.Common.{◌≡◌, ℕ, suc, ◌/◌, ◌%◌, ◌<◌, ◌≤◌, ◌^◌, Bool, true, false, not, cond, ◌&&◌, List, [], ◌∷◌, ◌++◌, length, slice_index, Option, Some, None, Result, Ok, Err, nat_lt, nat_le, ◌==◌, refl, subst, arith, lit<}
use Rattle.std.specs.Fmt.{decimal}
use Rattle.std.specs.List.{list_all, list_any}
use Rattle.std.proofs.lemmas.Bool.{lt-ltb}
use Rattle.std.proofs.lemmas.Bool.Decides.{nat_tests}
use Rattle.std.proofs.lemmas.Fmt.{digits_decimal, decimal_nonempty}
use Rattle.hex.specs.declared.error.FromHexError.{FromHexError}
use Rattle.hex.specs.declared.error.FromHexError.TheVariants.{OddLength}
use Rattle.hex.specs.Hex.{IsBytes, decode_of, decode_pairs, encode_with, encode_lower, lower_digits, hex_digit_value}
use Rattle.hex.proofs.HexLemmas.{length-encode_with, decode_of-encode_lower, decode_pairs-ok, IsDigits-lower_digits}
use Rattle.ch_base.specs.AddressValues.{AddressValue}
use Rattle.ch_base.specs.declared.address.AddressError.{AddressError}
use Rattle.ch_base.specs.Numbers.{is_digit_of, number_of}
use Rattle.ch_base.specs.Addresses.{IsAddress, address_text, read_address, is_host_byte_of}
use Rattle.ch_base.proofs.Numbers.{both, own, number_found, number_again}
use Rattle.ch_base.proofs.Addresses.{read_found, read_again}
use Rattle.ch_ident.specs.Names.{is_graphic, is_name}
use Rattle.ch_model.specs.declared.refusal.BadKind.{BadKind}
use Rattle.ch_model.specs.declared.refusal.BadKind.TheVariants.{Form, Number}
use Rattle.ch_model.specs.declared.name.ProcName.{ProcName}
use Rattle.ch_model.specs.Fields.{or_else, at_byte, is_name_byte_of, begins_with_letter, begins_with_dollar, is_node_name_of, node_name_of, digits_of, word_of, sent_mark_of, decoded, is_dash, bytes_of, read_as, address_of, number_in}
use Rattle.ch_model.specs.FieldsOfNames.{process_of, numbered}
use Rattle.ch_model.specs.LinesTold.{Told, declares_node, declared_in}
use Rattle.ch_model.specs.SpellingFields.{process_text, bytes_text}
use Rattle.ch_journal.proofs.Parts.{lacks, lacks_append, lacks_by, split_again, needed, bind_ok}

-- ---- names of nodes

name_byte_lacks : (c b : ℕ) → c < 48 → is_name_byte_of b ≡ true → not (b == c) ≡ true
name_byte_lacks c b l h = grind (arith, nat_tests)

pub name_lacks : (c : ℕ) (name : List ℕ) → c < 48 → is_node_name_of name ≡ true → lacks c name ≡ true
name_lacks c name l h =
    let p = both (begins_with_letter name && nat_le (length name) 16) (list_all is_name_byte_of name) h in
    lacks_by is_name_byte_of c (λ b. name_byte_lacks c b l) name p.1

pub name_found : (text name : List ℕ) → node_name_of text ≡ Ok name → is_node_name_of name ≡ true
unfolding node_name_of
name_found text name e = let p = needed Form (is_node_name_of text) text name e in subst (λ (t : List ℕ). is_node_name_of t ≡ true) p.1 p.0

pub name_again : (name : List ℕ) → is_node_name_of name ≡ true → node_name_of name ≡ Ok name
unfolding node_name_of
name_again name h = rw h refl

-- ---- numbers

digit_lacks : (b : ℕ) → is_digit_of b ≡ true → not (b == 32) ≡ true
digit_lacks b h = grind (arith, nat_tests)

pub decimal_lacks : (n : ℕ) → n ≤ 4294967295 → lacks 32 (decimal n) ≡ true
decimal_lacks n h = lacks_by is_digit_of 32 digit_lacks (decimal n) (digits_decimal own n (omega arith))

pub digits_again : (n : ℕ) → n ≤ 4294967295 → digits_of (decimal n) ≡ Ok (decimal n)
unfolding digits_of
digits_again n h =
    let small : n < 2 ^ 64 = omega arith in
    let d : list_all is_digit_of (decimal n) ≡ true = digits_decimal own n small in
    let s : nat_lt 0 (length (decimal n)) ≡ true = lt-ltb 0 (length (decimal n)) (decimal_nonempty n small) in
    rw (s, d) refl

or_else_found : {A : Type 0} (k : BadKind) (o : Option A) (x : A) → or_else k o ≡ Ok x → o ≡ Some x
or_else_found k None x e = absurd cc
or_else_found k (Some y) x e = cc

pub number_in_found : (digits : List ℕ) (n : ℕ) → number_in digits ≡ Ok n → n ≤ 4294967295
unfolding number_in
number_in_found digits n e = (number_found 4294967295 n digits (lit< tt) (or_else_found Number (number_of 4294967295 digits) n e)).1

pub number_in_again : (n : ℕ) → n ≤ 4294967295 → number_in (decimal n) ≡ Ok n
unfolding number_in
number_in_again n h = rw (number_again 4294967295 n h (lit< tt)) refl

-- ---- processes

-- a name that a `node` line declared
abbrev pub is_declared : Told → List ℕ → Bool
is_declared told name = list_any (declares_node name) told.declarations

-- a process of a node that was declared, with a number in its range
pub record IsProcess (told : Told) (p : ProcName) : Type 0 where
  pub name : is_node_name_of p.node ≡ true
  pub counter : p.counter ≤ 4294967295
  pub known : is_declared told p.node ≡ true

process_name : (text : List ℕ) (q : List ℕ × List ℕ) → process_of text ≡ Ok q → is_node_name_of q.0 ≡ true
unfolding process_of
process_name text q e =
    let a = bind_ok (or_else Form (at_byte 46 text)) _ q e in
    let b = bind_ok (node_name_of a.0.0) _ q a.2 in
    let c = bind_ok (digits_of a.0.1) _ q b.2 in
    let is : (b.0, c.0) ≡ q = cc in
    subst (λ (t : List ℕ × List ℕ). is_node_name_of t.0 ≡ true) is (name_found a.0.0 b.0 b.1)

numbered_found : (q : List ℕ × List ℕ) (p : ProcName) → numbered q ≡ Ok p → (q.0 ≡ p.node) × (p.counter ≤ 4294967295)
unfolding numbered
numbered_found q p e =
    let a = bind_ok (number_in q.1) _ p e in
    let made : ProcName = record { node = q.0; counter = a.0 } in
    let is : made ≡ p = cc in
    subst (λ (t : ProcName). (q.0 ≡ t.node) × (t.counter ≤ 4294967295)) is (refl, number_in_found q.1 a.0 a.1)

pub declared_found : (told : Told) (name n : List ℕ) → declared_in told name ≡ Ok n → is_declared told name ≡ true
unfolding declared_in
declared_found told name n e = (needed _ (is_declared told name) name n e).0

pub process_found : (told : Told) (text : List ℕ) (q : List ℕ × List ℕ) (p : ProcName) (n : List ℕ) → process_of text ≡ Ok q → numbered q ≡ Ok p → declared_in told p.node ≡ Ok n → IsProcess told p
process_found told text q p n e f g =
    let a = numbered_found q p f in
    record { name = subst (λ (t : List ℕ). is_node_name_of t ≡ true) a.0 (process_name text q e); counter = a.1; known = declared_found told p.node n g }

pub process_lacks : (told : Told) (p : ProcName) → IsProcess told p → lacks 32 (process_text p) ≡ true
process_lacks told p h = lacks_append 32 p.node (46 ∷ decimal p.counter) (name_lacks 32 p.node (lit< tt) h.name) (decimal_lacks p.counter h.counter)

pub process_again : (told : Told) (p : ProcName) → IsProcess told p → process_of (process_text p) ≡ Ok (p.node, decimal p.counter)
unfolding process_of
process_again told p h = rw (split_again 46 p.node (decimal p.counter) (name_lacks 46 p.node (lit< tt) h.name), name_again p.node h.name, digits_again p.counter h.counter) refl

pub numbered_again : (told : Told) (p : ProcName) → IsProcess told p → numbered (p.node, decimal p.counter) ≡ Ok p
unfolding numbered
numbered_again told p h = rw (number_in_again p.counter h.counter) refl

pub declared_again : (told : Told) (name : List ℕ) → is_declared told name ≡ true → declared_in told name ≡ Ok name
unfolding declared_in
declared_again told name h = rw h refl

-- ---- marks

graphic_lacks : (b : ℕ) → is_graphic b ≡ true → not (b == 32) ≡ true
graphic_lacks b h = grind (arith, nat_tests)

pub word_lacks : (word : List ℕ) → is_name word ≡ true → lacks 32 word ≡ true
word_lacks word h =
    let p = both (nat_le 1 (length word) && nat_le (length word) 63) (list_all is_graphic word) h in
    lacks_by is_graphic 32 graphic_lacks word p.1

pub word_found : (text word : List ℕ) → word_of text ≡ Ok word → is_name word ≡ true
unfolding word_of
word_found text word e = let p = needed Form (is_name text) text word e in subst (λ (t : List ℕ). is_name t ≡ true) p.1 p.0

pub word_again : (word : List ℕ) → is_name word ≡ true → word_of word ≡ Ok word
unfolding word_of
word_again word h = rw h refl

pub sent_found : (text word : List ℕ) → sent_mark_of text ≡ Ok word → (is_name word ≡ true) × (not (begins_with_dollar word) ≡ true)
unfolding sent_mark_of
sent_found text word e =
    let a = bind_ok (word_of text) _ word e in
    let b = needed Form (not (begins_with_dollar a.0)) a.0 word a.2 in
    subst (λ (t : List ℕ). (is_name t ≡ true) × (not (begins_with_dollar t) ≡ true)) b.1 (word_found text a.0 a.1, b.0)

pub sent_again : (word : List ℕ) → is_name word ≡ true → not (begins_with_dollar word) ≡ true → sent_mark_of word ≡ Ok word
unfolding sent_mark_of
sent_again word h g = rw (word_again word h, g) refl

-- ---- bytes

decoded_found : (r : Result (List ℕ) FromHexError) (bytes : List ℕ) → decoded r ≡ Ok bytes → r ≡ Ok bytes
decoded_found (Ok x) bytes e = cc
decoded_found (Err x) bytes e = absurd cc

no_bytes : IsBytes []
no_bytes i = omega arith

pub bytes_found : (text bytes : List ℕ) → bytes_of text ≡ Ok bytes → IsBytes bytes
unfolding bytes_of
bytes_found text bytes e = by_dash (is_dash text) (nat_lt 0 (length text)) e
  where
    by_odd : (t : Bool) → (length text % 2 == 1) ≡ t → decode_of text ≡ Ok bytes → IsBytes bytes
    by_odd true f g = let h : decode_of text ≡ Err OddLength = rw f refl in absurd cc
    by_odd false f g = let h : decode_pairs 0 text ≡ Ok bytes = rw f at g in (decode_pairs-ok 0 text bytes h).2

    by_dash : (t u : Bool) → cond t (Ok []) (cond u (decoded (decode_of text)) (Err Form)) ≡ Ok bytes → IsBytes bytes
    by_dash true u f = let is : [] ≡ bytes = cc in subst IsBytes is no_bytes
    by_dash false true f = by_odd (length text % 2 == 1) refl (decoded_found (decode_of text) bytes f)
    by_dash false false f = absurd cc

hex_digit_lacks : (c : ℕ) (d : ℕ) → hex_digit_value c ≡ Some d → not (c == 32) ≡ true
hex_digit_lacks c d h = grind (arith, nat_tests)

encoded_lacks : (bytes : List ℕ) → IsBytes bytes → lacks 32 (encode_lower bytes) ≡ true
unfolding encode_with
encoded_lacks [] h = refl
encoded_lacks (b ∷ bs) h =
    let small : b < 256 = h 0 in
    let high = hex_digit_lacks (slice_index lower_digits (b / 16)) (b / 16) (IsDigits-lower_digits (b / 16) (omega arith)) in
    let low = hex_digit_lacks (slice_index lower_digits (b % 16)) (b % 16) (IsDigits-lower_digits (b % 16) (omega arith)) in
    rw (high, low, encoded_lacks bs (λ i. h (suc i))) refl

pub bytes_lacks : (bytes : List ℕ) → IsBytes bytes → lacks 32 (bytes_text bytes) ≡ true
bytes_lacks [] h = refl
bytes_lacks (b ∷ bs) h = encoded_lacks (b ∷ bs) h

no_dash : (b : ℕ) (bs : List ℕ) → is_dash (encode_lower (b ∷ bs)) ≡ false
unfolding encode_with
no_dash b bs = refl

some_digit : (b : ℕ) (bs : List ℕ) → nat_lt 0 (length (encode_lower (b ∷ bs))) ≡ true
some_digit b bs = let e = length-encode_with lower_digits (b ∷ bs) in lt-ltb 0 (length (encode_lower (b ∷ bs))) (omega (arith, e))

pub bytes_again : (bytes : List ℕ) → IsBytes bytes → bytes_of (bytes_text bytes) ≡ Ok bytes
unfolding bytes_of
bytes_again [] h = refl
bytes_again (b ∷ bs) h = rw (no_dash b bs, some_digit b bs, decode_of-encode_lower (b ∷ bs) h) refl

-- ---- addresses

read_as_found : (r : Result AddressValue AddressError) (a : AddressValue) → read_as r ≡ Ok a → r ≡ Ok a
read_as_found (Ok x) a e = cc
read_as_found (Err x) a e = absurd cc

pub address_found : (text : List ℕ) (a : AddressValue) → address_of text ≡ Ok a → IsAddress a
unfolding address_of
address_found text a e = (read_found text a (read_as_found (read_address text) a e)).0

pub address_again : (a : AddressValue) → IsAddress a → address_of (address_text a) ≡ Ok a
unfolding address_of
address_again a h = rw (read_again a h) refl

host_byte_lacks : (b : ℕ) → is_host_byte_of b ≡ true → not (b == 32) ≡ true
host_byte_lacks b h = grind (arith, nat_tests)

pub address_lacks : (a : AddressValue) → IsAddress a → lacks 32 (address_text a) ≡ true
address_lacks a h =
    let p = both (nat_lt 0 (length a.host)) (list_all is_host_byte_of a.host) h.host in
    let host : lacks 32 a.host ≡ true = lacks_by is_host_byte_of 32 host_byte_lacks a.host p.1 in
    let port = decimal_lacks a.port (omega (arith, h.port_high)) in
    let id = decimal_lacks a.id (omega (arith, h.id)) in
    lacks_append 32 (a.host ++ 58 ∷ decimal a.port) (58 ∷ decimal a.id) (lacks_append 32 a.host (58 ∷ decimal a.port) host port) id
