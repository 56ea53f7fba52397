-- Each field that is read is the field that was written, and what was written is read again.
use Rattle.std.proofs.Common.{◌≡◌, ℕ, ◌^◌, ◌<◌, ◌≤◌, Bool, true, false, ◌&&◌, List, [], ◌∷◌, ◌++◌, length, take, drop, Result, Ok, Err, refl, sym, ap, subst, arith, nat_lt, nat_le}
use Rattle.std.specs.List.{list_all}
use Rattle.std.specs.Int.{w32, from_be_bytes, to_be_bytes}
use Rattle.std.proofs.lemmas.Bool.{ltb-false, le-ltb}
use Rattle.std.proofs.lemmas.Bool.Decides.{nat_tests}
use Rattle.std.proofs.lemmas.List.{take_at, drop_at, take-append-drop, length-append, length-take}
use Rattle.std.proofs.lemmas.Nat.{be_bytes_4, from_be_bytes-to_be_bytes_4}
use Rattle.ch_base.specs.Addresses.{address_text, read_address, IsAddress}
use Rattle.ch_base.specs.declared.address.Address.{Address}
use Rattle.ch_base.specs.declared.address.AddressError.{AddressError}
use Rattle.ch_base.proofs.Addresses.{read_found, read_again}
use Rattle.ch_ident.specs.declared.error.IdentError.{IdentError}
use Rattle.ch_ident.specs.declared.error.IdentError.TheVariants.{Short, BadText}
use Rattle.ch_ident.specs.Names.{is_graphic, is_name, is_printable, is_text}
use Rattle.ch_ident.specs.Outcome.{◌>>=◌}
use Rattle.ch_ident.specs.Spelling.{number, short, long, address}
use Rattle.ch_ident.specs.Reading.{piece_at, tested_at, number_at, name_at, text_at, long_at, address_field, address_of, address_at}
use Rattle.ch_ident.proofs.Takes.{IsBytes, IsBytes-take, IsBytes-drop, IsBytes-rest, bind_ok, passed, not_refused, ok_is, Takes, Takes-then, Takes-after, Reads}

-- both parts of a test that holds
both : (a b : Bool) → (a && b) ≡ true → (a ≡ true) × (b ≡ true)
both true b e = (refl, e)
both false b e = cc

-- a number below this fits in four bytes
abbrev pub IsWord : ℕ → Type 0
IsWord n = n < 2 ^ 32

pub number_reads : Reads number_at number IsWord
number_reads = record { takes = takes; again = again }
  where
    takes : (bytes : List ℕ) (x : ℕ × List ℕ) → IsBytes bytes → number_at bytes ≡ Ok x → Takes bytes (number x.0) x.1 × (x.0 < 2 ^ 32)
    takes bytes x fits e =
        let g = not_refused (nat_lt (length bytes) 4) Short (Ok (from_be_bytes w32 (take 4 bytes), drop 4 bytes)) x e in
        let enough : 4 ≤ length bytes = ltb-false _ _ g.0 in
        let word = IsBytes-take 4 bytes fits in
        let len : length (take 4 bytes) ≡ 4 = omega (arith, length-take 4 bytes) in
        let front : to_be_bytes w32 (from_be_bytes w32 (take 4 bytes)) ≡ take 4 bytes = be_bytes_4 (take 4 bytes) _ len word refl in
        let small : from_be_bytes w32 (take 4 bytes) < 2 ^ 32 = omega (arith, word 0, word 1, word 2, word 3) in
        subst (λ (y : ℕ × List ℕ). Takes bytes (number y.0) y.1 × (y.0 < 2 ^ 32)) (ok_is (from_be_bytes w32 (take 4 bytes), drop 4 bytes) x g.1)
        (record { parts = subst (λ (t : List ℕ). bytes ≡ t ++ drop 4 bytes) (sym front) (sym (take-append-drop 4 bytes)); rest_fits = IsBytes-drop 4 bytes fits }, small)

    again : (n : ℕ) (rest : List ℕ) → n < 2 ^ 32 → number_at (number n ++ rest) ≡ Ok (n, rest)
    again n rest lt =
        let enough : nat_lt (length (number n ++ rest)) 4 ≡ false = le-ltb _ _ (omega (arith, length-append (number n) rest)) in
        let value : from_be_bytes w32 (number n) ≡ n = from_be_bytes-to_be_bytes_4 n lt in
        let made : ℕ → Result (ℕ × List ℕ) IdentError = λ k. Ok (k, rest) in
        rw enough (ap made value)

-- so many bytes
pub piece_takes : (n : ℕ) (bytes : List ℕ) (x : List ℕ × List ℕ) → IsBytes bytes → piece_at n bytes ≡ Ok x → Takes bytes x.0 x.1 × (length x.0 ≡ n)
unfolding piece_at
piece_takes n bytes x fits e =
    let g = not_refused (nat_lt (length bytes) n) Short (Ok (take n bytes, drop n bytes)) x e in
    let enough : n ≤ length bytes = ltb-false _ _ g.0 in
    subst (λ (y : List ℕ × List ℕ). Takes bytes y.0 y.1 × (length y.0 ≡ n)) (ok_is (take n bytes, drop n bytes) x g.1)
    (record { parts = sym (take-append-drop n bytes); rest_fits = IsBytes-drop n bytes fits }, omega (arith, length-take n bytes))

pub piece_again : (piece rest : List ℕ) → piece_at (length piece) (piece ++ rest) ≡ Ok (piece, rest)
unfolding piece_at
piece_again piece rest =
    let enough : nat_lt (length (piece ++ rest)) (length piece) ≡ false = le-ltb _ _ (omega (arith, length-append piece rest)) in
    rw (enough, take_at piece rest (length piece) refl, drop_at piece rest (length piece) refl) refl

piece_is : (n : ℕ) (bytes : List ℕ) (x : List ℕ × List ℕ) → piece_at n bytes ≡ Ok x → take n bytes ≡ x.0
unfolding piece_at
piece_is n bytes x e =
    let g = not_refused (nat_lt (length bytes) n) Short (Ok (take n bytes, drop n bytes)) x e in
    ap (λ (p : List ℕ × List ℕ). p.0) (ok_is (take n bytes, drop n bytes) x g.1)

-- so many bytes that pass a test
pub tested_takes : (test : ℕ → Bool) (n : ℕ) (bytes : List ℕ) (x : List ℕ × List ℕ) → IsBytes bytes → tested_at test n bytes ≡ Ok x → Takes bytes x.0 x.1 × (length x.0 ≡ n) × (list_all test x.0 ≡ true)
unfolding tested_at
tested_takes test n bytes x fits e =
    let g = passed (list_all test (take n bytes)) BadText (piece_at n bytes) x e in
    let p = piece_takes n bytes x fits g.1 in
    (p.0, p.1, subst (λ (t : List ℕ). list_all test t ≡ true) (piece_is n bytes x g.1) g.0)

pub tested_again : (test : ℕ → Bool) (piece rest : List ℕ) → list_all test piece ≡ true → tested_at test (length piece) (piece ++ rest) ≡ Ok (piece, rest)
unfolding tested_at
tested_again test piece rest h = rw (take_at piece rest (length piece) refl, h) (piece_again piece rest)

-- the test of a name, of its parts
pub name_is : (n : ℕ) (bytes : List ℕ) → (nat_le 1 n && nat_le n 63) ≡ true → length bytes ≡ n → list_all is_graphic bytes ≡ true → is_name bytes ≡ true
name_is n bytes h len all = rw (len, h, all) refl

piece_length : (n : ℕ) (bytes : List ℕ) (x : List ℕ × List ℕ) → piece_at n bytes ≡ Ok x → length x.0 ≡ n
unfolding piece_at
piece_length n bytes x e =
    let g = not_refused (nat_lt (length bytes) n) Short (Ok (take n bytes, drop n bytes)) x e in
    let enough : n ≤ length bytes = ltb-false _ _ g.0 in
    subst (λ (y : List ℕ × List ℕ). length y.0 ≡ n) (ok_is (take n bytes, drop n bytes) x g.1) (omega (arith, length-take n bytes))

-- what stands after a length is a name
pub tested_name : (n : ℕ) (bytes name rest : List ℕ) → 1 ≤ n → n ≤ 63 → tested_at is_graphic n bytes ≡ Ok (name, rest) → is_name name ≡ true
unfolding tested_at
tested_name n bytes name rest low high e =
    let g = passed (list_all is_graphic (take n bytes)) BadText (piece_at n bytes) (name, rest) e in
    let h : (nat_le 1 n && nat_le n 63) ≡ true = grind (arith, nat_tests) in
    name_is n name h (piece_length n bytes (name, rest) g.1) (subst (λ (t : List ℕ). list_all is_graphic t ≡ true) (piece_is n bytes (name, rest) g.1) g.0)

abbrev pub IsName : List ℕ → Type 0
IsName bytes = is_name bytes ≡ true

short_takes : (n : ℕ) (bytes : List ℕ) (x : List ℕ × List ℕ) → Takes bytes x.0 x.1 → length x.0 ≡ n → Takes (n ∷ bytes) (short x.0) x.1
short_takes n bytes x t len = rw len (Takes-after n bytes x.0 x.1 t)

pub name_reads : Reads name_at short IsName
unfolding name_at
name_reads = record { takes = takes; again = again }
  where
    takes : (bytes : List ℕ) (x : List ℕ × List ℕ) → IsBytes bytes → name_at bytes ≡ Ok x → Takes bytes (short x.0) x.1 × IsName x.0
    takes [] x fits e = absurd cc
    takes (n ∷ bytes) x fits e =
        let g = passed (nat_le 1 n && nat_le n 63) BadText (tested_at is_graphic n bytes) x e in
        let t = tested_takes is_graphic n bytes x (IsBytes-rest n bytes fits) g.1 in
        (short_takes n bytes x t.0 t.1, name_is n x.0 g.0 t.1 t.2)

    again : (name rest : List ℕ) → IsName name → name_at (short name ++ rest) ≡ Ok (name, rest)
    again name rest is =
        let b = both (nat_le 1 (length name) && nat_le (length name) 63) (list_all is_graphic name) is in
        rw b.0 (tested_again is_graphic name rest b.1)

abbrev pub IsText : List ℕ → Type 0
IsText bytes = is_text bytes ≡ true

pub text_reads : Reads text_at short IsText
unfolding text_at
text_reads = record { takes = takes; again = again }
  where
    takes : (bytes : List ℕ) (x : List ℕ × List ℕ) → IsBytes bytes → text_at bytes ≡ Ok x → Takes bytes (short x.0) x.1 × IsText x.0
    takes [] x fits e = absurd cc
    takes (n ∷ bytes) x fits e =
        let t = tested_takes is_printable n bytes x (IsBytes-rest n bytes fits) e in
        let byte : n < 256 = fits 0 in
        let small : nat_le (length x.0) 255 ≡ true = let len = t.1 in grind (arith, nat_tests) in
        (short_takes n bytes x t.0 t.1, rw (small, t.2) refl)

    again : (text rest : List ℕ) → IsText text → text_at (short text ++ rest) ≡ Ok (text, rest)
    again text rest is = tested_again is_printable text rest (both (nat_le (length text) 255) (list_all is_printable text) is).1

-- a length that fits in four bytes
abbrev pub IsLong : List ℕ → Type 0
IsLong bytes = length bytes < 2 ^ 32

pub long_reads : Reads long_at long IsLong
unfolding long_at
long_reads = record { takes = takes; again = again }
  where
    takes : (bytes : List ℕ) (x : List ℕ × List ℕ) → IsBytes bytes → long_at bytes ≡ Ok x → Takes bytes (long x.0) x.1 × (length x.0 < 2 ^ 32)
    takes bytes x fits e =
        let n = bind_ok (number_at bytes) (λ n. piece_at n.0 n.1) x e in
        let t = number_reads.takes bytes n.0 fits n.1 in
        let p = piece_takes n.0.0 n.0.1 x t.0.rest_fits n.2 in
        (subst (λ (k : ℕ). Takes bytes (number k ++ x.0) x.1) (sym p.1) (Takes-then bytes (number n.0.0) n.0.1 x.0 x.1 t.0 p.0), omega (arith, t.1, p.1))

    again : (text rest : List ℕ) → length text < 2 ^ 32 → long_at (long text ++ rest) ≡ Ok (text, rest)
    again text rest is =
        rw (number_reads.again (length text) (text ++ rest) is) (piece_again text rest)

field_found : (r : Result Address AddressError) (a : Address) → address_field r ≡ Ok a → r ≡ Ok a
field_found (Ok b) a e = ap (λ (x : Address). Ok x) (ok_is b a e)
field_found (Err d) a e = absurd cc

address_length : (a : Address) → IsAddress a → (nat_le 1 (length (address_text a)) && nat_le (length (address_text a)) 80) ≡ true
address_length a is =
    let some : 1 ≤ length (address_text a) = omega (arith, length-append {A = ℕ}) in
    let few : length (address_text a) ≤ 80 = is.short in
    grind (arith, nat_tests)

pub address_reads : Reads address_at address IsAddress
unfolding address_at
address_reads = record { takes = takes; again = again }
  where
    takes : (bytes : List ℕ) (x : Address × List ℕ) → IsBytes bytes → address_at bytes ≡ Ok x → Takes bytes (address x.0) x.1 × IsAddress x.0
    takes [] x fits e = absurd cc
    takes (n ∷ bytes) x fits e =
        let g = passed (nat_le 1 n && nat_le n 80) BadText (piece_at n bytes >>= λ text. address_of text.0 >>= λ a. Ok (a, text.1)) x e in
        let p = bind_ok (piece_at n bytes) (λ text. address_of text.0 >>= λ a. Ok (a, text.1)) x g.1 in
        let t = piece_takes n bytes p.0 (IsBytes-rest n bytes fits) p.1 in
        let a = bind_ok (address_of p.0.0) (λ a. Ok (a, p.0.1)) x p.2 in
        let f = read_found p.0.0 a.0 (field_found (read_address p.0.0) a.0 a.1) in
        let s = short_takes n bytes p.0 t.0 t.1 in
        subst (λ (y : Address × List ℕ). Takes (n ∷ bytes) (address y.0) y.1 × IsAddress y.0) (ok_is (a.0, p.0.1) x a.2)
        (subst (λ (text : List ℕ). Takes (n ∷ bytes) (short text) p.0.1) f.1 s, f.0)

    again : (a : Address) (rest : List ℕ) → IsAddress a → address_at (address a ++ rest) ≡ Ok (a, rest)
    again a rest is = rw (address_length a is, piece_again (address_text a) rest, read_again a is) refl
