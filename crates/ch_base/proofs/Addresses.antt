-- What the address of a read text is, and that each address's text is read as that address.
use Rattle.std.proofs.Common.{◌≡◌, ℕ, suc, ◌+◌, ◌<◌, ◌≤◌, Bool, true, false, not, cond, List, [], ◌∷◌, ◌++◌, length, Option, Some, None, Result, Ok, Err, nat_lt, nat_le, ◌==◌, refl, sym, ◌∙◌, ap, arith, add-one, lit<, if◌then◌else◌, append_assoc, subst, IfOk}
use Rattle.std.specs.List.{position, position_or_len, list_all}
use Rattle.std.specs.Fmt.{decimal}
use Rattle.ch_base.specs.AddressValues.{AddressValue}
use Rattle.ch_base.specs.Numbers.{is_digit_of, number_of}
use Rattle.ch_base.proofs.Numbers.{both, number_found, number_again, own}
use Rattle.ch_base.specs.declared.address.AddressError.{AddressError}
use Rattle.ch_base.specs.declared.address.AddressError.TheVariants.{NoHost, BadPort, BadId, TooLong}
use Rattle.std.proofs.lemmas.Fmt.{digits_decimal}
use Rattle.ch_base.specs.Addresses.{at_colon, after_front, around, is_host_byte_of, is_host_of, ◌>>=◌, address_text, IsAddress, host_at, port_at, read_address, Gives, or_refuse, at_least}
use Rattle.std.proofs.lemmas.Bool.{lt-ltb}
use Rattle.std.proofs.lemmas.Bool.Decides.{nat_tests}

lt_both : (m n : ℕ) → nat_lt (1 + m) (suc n) ≡ nat_lt m n
lt_both m n = grind (arith, nat_tests)

step : (b : ℕ) (bs : List ℕ) (m : ℕ) (r : Option (List ℕ × List ℕ)) → r ≡ around bs (cond (nat_lt m (length bs)) (Some m) None) → after_front b r ≡ around (b ∷ bs) (cond (nat_lt (1 + m) (suc (length bs))) (Some (1 + m)) None)
step b bs m r e = rw (e, lt_both m (length bs)) (
    elim (nat_lt m (length bs)) as (λ t. after_front b (around bs (cond t (Some m) None)) ≡ around (b ∷ bs) (cond t (Some (1 + m)) None))
    [ true ↦ parts b bs m | false ↦ refl ])
  where
    parts : (b : ℕ) (bs : List ℕ) (m : ℕ) → after_front b (around bs (Some m)) ≡ around (b ∷ bs) (Some (1 + m))
    parts b bs m = let one : 1 + m ≡ suc m = omega arith in rw (one, add-one m, add-one (suc m)) refl

-- the first colon is where `position` finds it
pub at_colon_is : (text : List ℕ) → at_colon text ≡ around text (position (λ b. b == 58) text)
at_colon_is [] = refl
at_colon_is (b ∷ bs) =
    let m : ℕ = position_or_len (λ c. c == 58) bs in
    elim (b == 58) as (λ t. cond t (Some ([], bs)) (after_front b (at_colon bs)) ≡ around (b ∷ bs) (cond (nat_lt (cond (not t) (1 + m) 0) (suc (length bs))) (Some (cond (not t) (1 + m) 0)) None))
    [ true ↦ rw (lt-ltb 0 (suc (length bs)) (omega arith)) refl | false ↦ step b bs m (at_colon bs) (at_colon_is bs) ]

colon_rest : (b : ℕ) (bs : List ℕ) (r : Option (List ℕ × List ℕ)) (p : List ℕ × List ℕ) → ((q : List ℕ × List ℕ) → r ≡ Some q → bs ≡ q.0 ++ 58 ∷ q.1) → after_front b r ≡ Some p → b ∷ bs ≡ p.0 ++ 58 ∷ p.1
colon_rest b bs None p ih g = cc
colon_rest b bs (Some q) p ih g = let k : (b ∷ q.0, q.1) ≡ p = cc in rw (← k) (ap (λ (t : List ℕ). b ∷ t) (ih q refl))

colon_by_byte : (b : ℕ) (bs : List ℕ) (t : Bool) (p : List ℕ × List ℕ) → ((q : List ℕ × List ℕ) → at_colon bs ≡ Some q → bs ≡ q.0 ++ 58 ∷ q.1) → (b == 58) ≡ t → cond t (Some ([], bs)) (after_front b (at_colon bs)) ≡ Some p → b ∷ bs ≡ p.0 ++ 58 ∷ p.1
colon_by_byte b bs true p ih t g = let is : b ≡ 58 = grind (arith, nat_tests) in let k : ([], bs) ≡ p = cc in rw (← k, is) refl
colon_by_byte b bs false p ih t g = colon_rest b bs (at_colon bs) p ih g

-- the parts and the colon between them are the text
pub colon_parts : (text : List ℕ) (p : List ℕ × List ℕ) → at_colon text ≡ Some p → text ≡ p.0 ++ 58 ∷ p.1
colon_parts [] p e = cc
colon_parts (b ∷ bs) p e = colon_by_byte b bs (b == 58) p (λ q. colon_parts bs q) refl e

-- no byte of these is a colon
abbrev pub no_colon : List ℕ → Bool
no_colon bytes = list_all (λ b. not (b == 58)) bytes

-- a front without a colon, a colon and a rest are these parts
pub colon_again : (front rest : List ℕ) → no_colon front ≡ true → at_colon (front ++ 58 ∷ rest) ≡ Some (front, rest)
colon_again [] rest h = refl
colon_again (b ∷ bs) rest h =
    let p = both (not (b == 58)) (no_colon bs) h in
    let t : (b == 58) ≡ false = let q = p.0 in grind (arith, nat_tests) in
    rw (t, colon_again bs rest p.1) refl

other_than_colon : (b : ℕ) → is_host_byte_of b ≡ true → not (b == 58) ≡ true
other_than_colon b h = grind (arith, nat_tests)

host_has_none : (host : List ℕ) → list_all is_host_byte_of host ≡ true → no_colon host ≡ true
host_has_none [] h = refl
host_has_none (b ∷ bs) h = let p = both (is_host_byte_of b) (list_all is_host_byte_of bs) h in rw (other_than_colon b p.0, host_has_none bs p.1) refl

digit_is_host_byte : (b : ℕ) → is_digit_of b ≡ true → is_host_byte_of b ≡ true
digit_is_host_byte b h = rw h refl

digits_have_none : (ds : List ℕ) → list_all is_digit_of ds ≡ true → no_colon ds ≡ true
digits_have_none [] h = refl
digits_have_none (b ∷ bs) h = let p = both (is_digit_of b) (list_all is_digit_of bs) h in rw (other_than_colon b (digit_is_host_byte b p.0), digits_have_none bs p.1) refl

found_colon : (e : AddressError) (o : Option (List ℕ × List ℕ)) (x : List ℕ × List ℕ) → or_refuse e o ≡ Ok x → o ≡ Some x
found_colon e None x h = cc
found_colon e (Some y) x h = cc

-- a host that was found stands in front, before a colon
pub host_found : (text : List ℕ) (h : List ℕ × List ℕ) → host_at text ≡ Ok h → (text ≡ h.0 ++ 58 ∷ h.1) × (is_host_of h.0 ≡ true)
unfolding host_at
host_found text h e = by_colon (at_colon text) refl e
  where
    by_host : (q : List ℕ × List ℕ) (t : Bool) → at_colon text ≡ Some q → is_host_of q.0 ≡ t → cond t (Ok q) (Err NoHost) ≡ Ok h → (text ≡ h.0 ++ 58 ∷ h.1) × (is_host_of h.0 ≡ true)
    by_host q true f g k = let is : q ≡ h = cc in rw (← is) (colon_parts text q f, g)
    by_host q false f g k = cc

    by_colon : (o : Option (List ℕ × List ℕ)) → at_colon text ≡ o → (or_refuse NoHost o >>= λ parts. if is_host_of parts.0 then Ok parts else Err NoHost) ≡ Ok h → (text ≡ h.0 ++ 58 ∷ h.1) × (is_host_of h.0 ≡ true)
    by_colon None f g = cc
    by_colon (Some q) f g = by_host q (is_host_of q.0) f refl g

-- a port that was found stands in front, before a colon
pub port_found : (text : List ℕ) (p : ℕ × List ℕ) → port_at text ≡ Ok p → (text ≡ decimal p.0 ++ 58 ∷ p.1) × (0 < p.0) × (p.0 < 65536)
unfolding port_at
port_found text p e = by_colon (at_colon text) refl e
  where
    by_least : (q : List ℕ × List ℕ) (n : ℕ) (t : Bool) → at_colon text ≡ Some q → number_of 65535 q.0 ≡ Some n → nat_le 1 n ≡ t → (or_refuse BadPort (cond t (Some n) None) >>= λ port. Ok (port, q.1)) ≡ Ok p → (text ≡ decimal p.0 ++ 58 ∷ p.1) × (0 < p.0) × (p.0 < 65536)
    by_least q n true f g h k =
        let is : (n, q.1) ≡ p = cc in
        let number = number_found 65535 n q.0 (lit< tt) g in
        let low : 0 < n = grind (arith, nat_tests) in
        rw (← is) (colon_parts text q f ∙ ap (λ (d : List ℕ). d ++ 58 ∷ q.1) (sym number.0), low, omega (arith, number.1))
    by_least q n false f g h k = cc

    by_number : (q : List ℕ × List ℕ) (o : Option ℕ) → at_colon text ≡ Some q → number_of 65535 q.0 ≡ o → (or_refuse BadPort (at_least 1 o) >>= λ port. Ok (port, q.1)) ≡ Ok p → (text ≡ decimal p.0 ++ 58 ∷ p.1) × (0 < p.0) × (p.0 < 65536)
    by_number q None f g k = cc
    by_number q (Some n) f g k = by_least q n (nat_le 1 n) f g refl k

    by_colon : (o : Option (List ℕ × List ℕ)) → at_colon text ≡ o → (or_refuse BadPort o >>= λ parts. or_refuse BadPort (at_least 1 (number_of 65535 parts.0)) >>= λ port. Ok (port, parts.1)) ≡ Ok p → (text ≡ decimal p.0 ++ 58 ∷ p.1) × (0 < p.0) × (p.0 < 65536)
    by_colon None f g = cc
    by_colon (Some q) f g = by_number q (number_of 65535 q.0) f refl g

abbrev address_of : List ℕ × List ℕ → ℕ × List ℕ → ℕ → AddressValue
address_of h p id = record { host = h.0; port = p.0; id = id }

-- the parts that were found make an address, and its text is what was read
pub address_found : (text : List ℕ) (h : List ℕ × List ℕ) (p : ℕ × List ℕ) (id : ℕ) → length text ≤ 80 → host_at text ≡ Ok h → port_at h.1 ≡ Ok p → number_of 4294967295 p.1 ≡ Some id → IsAddress (address_of h p id) × (text ≡ address_text (address_of h p id))
address_found text h p id short eh ep ei =
    let hh = host_found text h eh in
    let pp = port_found h.1 p ep in
    let ii = number_found 4294967295 id p.1 (lit< tt) ei in
    let whole : text ≡ h.0 ++ 58 ∷ decimal p.0 ++ 58 ∷ decimal id = hh.0 ∙ ap (λ (r : List ℕ). h.0 ++ 58 ∷ r) (pp.0 ∙ ap (λ (d : List ℕ). decimal p.0 ++ 58 ∷ d) (sym ii.0)) ∙ sym (append_assoc h.0 (58 ∷ decimal p.0) (58 ∷ decimal id)) in
    (record { host = hh.1; port_low = pp.1; port_high = pp.2; id = omega (arith, ii.1); short = subst (λ (t : List ℕ). length t ≤ 80) whole short }, whole)

-- a host, a colon and a rest are read as that host
host_again : (host rest : List ℕ) → is_host_of host ≡ true → host_at (host ++ 58 ∷ rest) ≡ Ok (host, rest)
unfolding host_at
host_again host rest h =
    let p = both (nat_lt 0 (length host)) (list_all is_host_byte_of host) h in
    rw (colon_again host rest (host_has_none host p.1), h) refl

-- a port's text, a colon and a rest are read as that port
port_again : (port : ℕ) (rest : List ℕ) → 0 < port → port < 65536 → port_at (decimal port ++ 58 ∷ rest) ≡ Ok (port, rest)
unfolding port_at
port_again port rest low high =
    let d : list_all is_digit_of (decimal port) ≡ true = digits_decimal own port (omega arith) in
    let n : number_of 65535 (decimal port) ≡ Some port = number_again 65535 port (omega arith) (lit< tt) in
    let l : nat_le 1 port ≡ true = grind (arith, nat_tests) in
    rw (colon_again (decimal port) rest (digits_have_none (decimal port) d), n, l) refl

-- what is read is an address and the text is its text
pub read_found : (text : List ℕ) (a : AddressValue) → read_address text ≡ Ok a → IsAddress a × (text ≡ address_text a)
unfolding read_address
read_found text a e = by_length (nat_lt 80 (length text)) refl e
  where
    by_id : (h : List ℕ × List ℕ) (p : ℕ × List ℕ) (o : Option ℕ) → length text ≤ 80 → host_at text ≡ Ok h → port_at h.1 ≡ Ok p → number_of 4294967295 p.1 ≡ o → (or_refuse BadId o >>= λ id. Ok (record { host = h.0; port = p.0; id = id })) ≡ Ok a → IsAddress a × (text ≡ address_text a)
    by_id h p None s eh ep ei k = cc
    by_id h p (Some id) s eh ep ei k = let is : address_of h p id ≡ a = cc in rw (← is) (address_found text h p id s eh ep ei)

    by_port : (h : List ℕ × List ℕ) (r : Result (ℕ × List ℕ) AddressError) → length text ≤ 80 → host_at text ≡ Ok h → port_at h.1 ≡ r → (r >>= λ port. or_refuse BadId (number_of 4294967295 port.1) >>= λ id. Ok (record { host = h.0; port = port.0; id = id })) ≡ Ok a → IsAddress a × (text ≡ address_text a)
    by_port h (Ok p) s eh ep k = by_id h p (number_of 4294967295 p.1) s eh ep refl k
    by_port h (Err x) s eh ep k = cc

    by_host : (r : Result (List ℕ × List ℕ) AddressError) → length text ≤ 80 → host_at text ≡ r → (r >>= λ host. port_at host.1 >>= λ port. or_refuse BadId (number_of 4294967295 port.1) >>= λ id. Ok (record { host = host.0; port = port.0; id = id })) ≡ Ok a → IsAddress a × (text ≡ address_text a)
    by_host (Ok h) s eh k = by_port h (port_at h.1) s eh refl k
    by_host (Err x) s eh k = cc

    by_length : (t : Bool) → nat_lt 80 (length text) ≡ t → (cond t (Err TooLong) (Ok text) >>= λ short. host_at short >>= λ host. port_at host.1 >>= λ port. or_refuse BadId (number_of 4294967295 port.1) >>= λ id. Ok (record { host = host.0; port = port.0; id = id })) ≡ Ok a → IsAddress a × (text ≡ address_text a)
    by_length true s k = cc
    by_length false s k = let short : length text ≤ 80 = grind (arith, nat_tests) in by_host (host_at text) short refl k

-- each address's text is read as that address
pub read_again : (a : AddressValue) → IsAddress a → read_address (address_text a) ≡ Ok a
unfolding read_address
read_again a is =
    let long : nat_lt 80 (length (address_text a)) ≡ false = let h = is.short in grind (arith, nat_tests) in
    let regrouped : address_text a ≡ a.host ++ 58 ∷ (decimal a.port ++ 58 ∷ decimal a.id) = append_assoc a.host (58 ∷ decimal a.port) (58 ∷ decimal a.id) in
    let n : number_of 4294967295 (decimal a.id) ≡ Some a.id = number_again 4294967295 a.id (omega (arith, is.id)) (lit< tt) in
    rw long (rw regrouped (rw (host_again a.host (decimal a.port ++ 58 ∷ decimal a.id) is.host, port_again a.port (decimal a.id) is.port_low is.port_high, n) refl))

-- the same of what a reader answered
pub found_by : (text : List ℕ) (r : Result AddressValue AddressError) → Gives (λ x. x) r (read_address text) → IfOk r (λ a. IsAddress a × (text ≡ address_text a))
found_by text (Ok a) g = read_found text a g
found_by text (Err e) g = tt

pub only_by : (text : List ℕ) (r : Result AddressValue AddressError) → Gives (λ x. x) r (read_address text) → (a : AddressValue) → IsAddress a → text ≡ address_text a → Gives (λ x. x) r (Ok a)
only_by text r g a is e = subst (λ (read : Result AddressValue AddressError). Gives (λ x. x) r read) (ap read_address e ∙ read_again a is) g
