-- The links on which endpoints have connections open, from the places that are known for them.
use Rattle.std.proofs.Common.{◌≡◌, ℕ, zero, suc, ◌+◌, ◌<◌, ◌≤◌, Bool, true, false, not, cond, ◌&&◌, ◌==◌, nat_lt, List, [], ◌∷◌, ◌++◌, length, take, drop, get_or, find, is_some, Option, Some, None, option_map, refl, ap, sym, subst, ◌∙◌, arith}
use Rattle.std.specs.List.{position_or_len, position}
use Rattle.std.specs.Map.{lookup}
use Rattle.std.specs.Prelude.{set, slice_set}
use Rattle.std.proofs.lemmas.Bool.{ltb-true, ltb-false, lt-ltb, le-ltb}
use Rattle.std.proofs.lemmas.List.{length-append, length-set, length-drop, take-append-le}
use Rattle.ch_base.specs.declared.address.Address.{Address}
use Rattle.ch_light.specs.Ids.{opened, closed, is_open_as, id_of, place_of, close_of, close_at}
use Rattle.ch_model.specs.HostState.{Link}
use Rattle.ch_model.specs.HostSteps.{new_link}
use Rattle.ch_model.specs.HostCalls.{carries}
use Rattle.ch_endpoint.specs.Waits.{giving, closing, forgetting, closed_among}
use Rattle.ch_endpoint.specs.Carriers.{lower, IsCarrierFrom, has_conn, AreCarriers}
use Rattle.ch_endpoint.proofs.Tables.{number_is}

-- ---- lists without one that passes

none_here : {X : Type 0} (b : Bool) (x : X) (rest : Option X) → cond b (Some x) rest ≡ None → (b ≡ false) × (rest ≡ None)
none_here true x rest e = absurd cc
none_here false x rest e = (refl, e)

none_both : {X : Type 0} (p : X → Bool) (x : X) (rest : Option X) → p x ≡ false → rest ≡ None → cond (p x) (Some x) rest ≡ None
none_both p x rest a e = ap (λ b. cond b (Some x) rest) a ∙ e

still_false : (a b : Bool) → (a ≡ true → b ≡ true) → b ≡ false → a ≡ false
still_false false b f e = refl
still_false true b f e = absurd (let no : true ≡ false = sym (f refl) ∙ e in cc)

-- a write of what passes only where what was there did
none_set : {X : Type 0} (p : X → Bool) (xs : List X) (place : ℕ) (before after : X) → before ≡ get_or xs place before → (p after ≡ true → p before ≡ true) → find p xs ≡ None → find p (set xs place after) ≡ None
none_set p [] place before after is f e = refl
none_set p (x ∷ xs) zero before after is f e =
    let h = none_here (p x) x (find p xs) e in
    none_both p after (find p xs) (still_false (p after) (p before) f (ap p is ∙ h.0)) h.1
none_set p (x ∷ xs) (suc n) before after is f e =
    let h = none_here (p x) x (find p xs) e in
    none_both p x (find p (set xs n after)) h.0 (none_set p xs n before after is f h.1)

none_take_set : {X : Type 0} (p : X → Bool) (m : ℕ) (xs : List X) (place : ℕ) (before after : X) → before ≡ get_or xs place before → (p after ≡ true → p before ≡ true) → find p (take m xs) ≡ None → find p (take m (set xs place after)) ≡ None
none_take_set p zero xs place before after is f e = refl
none_take_set p (suc m) [] place before after is f e = refl
none_take_set p (suc m) (x ∷ xs) zero before after is f e =
    let h = none_here (p x) x (find p (take m xs)) e in
    none_both p after (find p (take m xs)) (still_false (p after) (p before) f (ap p is ∙ h.0)) h.1
none_take_set p (suc m) (x ∷ xs) (suc n) before after is f e =
    let h = none_here (p x) x (find p (take m xs)) e in
    none_both p x (find p (take m (set xs n after))) h.0 (none_take_set p m xs n before after is f h.1)

-- among the first fewer there is none either
none_fewer : {X : Type 0} (p : X → Bool) (m n : ℕ) (xs : List X) → m ≤ n → find p (take n xs) ≡ None → find p (take m xs) ≡ None
none_fewer p zero n xs le e = refl
none_fewer p (suc m) n [] le e = refl
none_fewer p (suc m) zero (x ∷ xs) le e = absurd (omega (arith, le))
none_fewer p (suc m) (suc n) (x ∷ xs) le e =
    let h = none_here (p x) x (find p (take n xs)) e in
    none_both p x (find p (take m xs)) h.0 (none_fewer p m n xs (omega (arith, le)) h.1)

none_among : {X : Type 0} (p : X → Bool) (m : ℕ) (xs : List X) → find p xs ≡ None → find p (take m xs) ≡ None
none_among p zero xs e = refl
none_among p (suc m) [] e = refl
none_among p (suc m) (x ∷ xs) e =
    let h = none_here (p x) x (find p xs) e in
    none_both p x (find p (take m xs)) h.0 (none_among p m xs h.1)

none_last : {X : Type 0} (p : X → Bool) (xs : List X) (x : X) → p x ≡ false → find p xs ≡ None → find p (xs ++ x ∷ []) ≡ None
none_last p [] x a e = none_both p x None a refl
none_last p (y ∷ ys) x a e =
    let h = none_here (p y) y (find p ys) e in
    none_both p y (find p (ys ++ x ∷ [])) h.0 (none_last p ys x a h.1)

-- a write behind the first few leaves them
take_set : {X : Type 0} (m : ℕ) (xs : List X) (place : ℕ) (y : X) → m ≤ place → take m (set xs place y) ≡ take m xs
take_set zero xs place y le = refl
take_set (suc m) [] place y le = refl
take_set (suc m) (x ∷ xs) zero y le = absurd (omega (arith, le))
take_set (suc m) (x ∷ xs) (suc n) y le = ap (λ l. x ∷ l) (take_set m xs n y (omega (arith, le)))

-- the first that passes, behind a few that don't
place_behind : {X : Type 0} (p : X → Bool) (n : ℕ) (xs : List X) → n ≤ length xs → find p (take n xs) ≡ None → position_or_len p xs ≡ n + position_or_len p (drop n xs)
place_behind p zero xs le e = let h : position_or_len p xs ≡ 0 + position_or_len p xs = omega arith in h
place_behind p (suc n) [] le e = absurd (omega (arith, le))
place_behind p (suc n) (x ∷ xs) le e =
    let h = none_here (p x) x (find p (take n xs)) e in
    let rest : position_or_len p xs ≡ n + position_or_len p (drop n xs) = place_behind p n xs (omega (arith, le)) h.1 in
    let here : cond (not (p x)) (1 + position_or_len p xs) 0 ≡ 1 + position_or_len p xs = ap (λ b. cond (not b) (1 + position_or_len p xs) 0) h.0 in
    here ∙ (let k : 1 + position_or_len p xs ≡ suc n + position_or_len p (drop n xs) = omega (arith, rest) in k)

pub found_behind : {X : Type 0} (p : X → Bool) (n : ℕ) (xs : List X) → n ≤ length xs → find p (take n xs) ≡ None → option_map (λ more. n + more) (position p (drop n xs)) ≡ position p xs
found_behind p n xs le e =
    let at : position_or_len p xs ≡ n + position_or_len p (drop n xs) = place_behind p n xs le e in
    by_test (nat_lt (position_or_len p (drop n xs)) (length (drop n xs))) refl at
  where
    by_test : (b : Bool) → nat_lt (position_or_len p (drop n xs)) (length (drop n xs)) ≡ b → position_or_len p xs ≡ n + position_or_len p (drop n xs) → option_map (λ more. n + more) (cond b (Some (position_or_len p (drop n xs))) None) ≡ position p xs
    by_test true e at =
        let lt : position_or_len p (drop n xs) < length (drop n xs) = ltb-true _ _ e in
        let in_all : position_or_len p xs < length xs = omega (arith, lt, at, length-drop n xs) in
        sym (ap (λ b. cond b (Some (position_or_len p xs)) None) (lt-ltb _ _ in_all) ∙ ap Some at)
    by_test false e at =
        let ge = ltb-false _ _ e in
        let past : length xs ≤ position_or_len p xs = omega (arith, ge, at, length-drop n xs, le) in
        sym (ap (λ b. cond b (Some (position_or_len p xs)) None) (le-ltb _ _ past))

len_none : {X : Type 0} (p : X → Bool) (xs : List X) → find p xs ≡ None → position_or_len p xs ≡ length xs
len_none p [] e = refl
len_none p (x ∷ xs) e =
    let h = none_here (p x) x (find p xs) e in
    let rest : position_or_len p xs ≡ length xs = len_none p xs h.1 in
    let one : 1 + position_or_len p xs ≡ suc (length xs) = omega (arith, rest) in
    ap (λ b. cond (not b) (1 + position_or_len p xs) 0) h.0 ∙ one

pub no_place_none : {X : Type 0} (p : X → Bool) (xs : List X) → find p xs ≡ None → position p xs ≡ None
no_place_none p xs e = ap (λ b. cond b (Some (position_or_len p xs)) None) (le-ltb _ _ (omega (arith, len_none p xs e)))

-- ---- what is known of the links

from_set : (end conn : ℕ) (known : Option ℕ) (links : List Link) (place : ℕ) (before after : Link) → before ≡ get_or links place before → (carries end conn after ≡ true → carries end conn before ≡ true) → IsCarrierFrom end conn known links → IsCarrierFrom end conn known (set links place after)
from_set end conn None links place before after is f c = none_set (carries end conn) links place before after is f c
from_set end conn (Some first) links place before after is f c = (omega (arith, length-set links place after, c.0), none_take_set (carries end conn) first links place before after is f c.1)

pub carriers_changed : (f : Link → Link) → ((end conn : ℕ) (l : Link) → carries end conn (f l) ≡ true → carries end conn l ≡ true) → (es : List ((ℕ × ℕ) × ℕ)) (links : List Link) (place : ℕ) (before after : Link) → before ≡ get_or links place before → after ≡ f before → AreCarriers es links → AreCarriers es (slice_set links place after)
carriers_changed f fewer es links place before after is done a end conn =
    from_set end conn (lookup (has_conn end conn) es) links place before after is (λ h. fewer end conn before (ap (carries end conn) (sym done) ∙ h)) (a end conn)

-- a link that has no connection is added
and_false : (b : Bool) → (b && false) ≡ false
and_false true = refl
and_false false = refl

no_conn : (end own conn : ℕ) (peer : Address) → carries end conn (new_link own peer) ≡ false
unfolding id_of
no_conn end own conn peer = and_false (own == end)

from_added : (end conn : ℕ) (known : Option ℕ) (links : List Link) (link : Link) → carries end conn link ≡ false → IsCarrierFrom end conn known links → IsCarrierFrom end conn known (links ++ link ∷ [])
from_added end conn None links link n c = none_last (carries end conn) links link n c
from_added end conn (Some first) links link n c = (omega (arith, length-append links (link ∷ []), c.0), ap (find (carries end conn)) (take-append-le first links (link ∷ []) c.0) ∙ c.1)

pub carriers_added : (es : List ((ℕ × ℕ) × ℕ)) (links after : List Link) (link : Link) (own : ℕ) (peer : Address) → link ≡ new_link own peer → after ≡ links ++ link ∷ [] → AreCarriers es links → AreCarriers es after
carriers_added es links after link own peer is push a end conn =
    subst (IsCarrierFrom end conn (lookup (has_conn end conn) es)) (sym push) (from_added end conn (lookup (has_conn end conn) es) links link (ap (carries end conn) is ∙ no_conn end own conn peer) (a end conn))

-- ---- what a link has open

both_hold : (a b : Bool) → (a && b) ≡ true → (a ≡ true) × (b ≡ true)
both_hold true true e = (refl, refl)
both_hold true false e = absurd cc
both_hold false b e = absurd cc

and_true : (a b : Bool) → a ≡ true → b ≡ true → (a && b) ≡ true
and_true true true p q = refl
and_true true false p q = absurd cc
and_true false b p q = absurd cc

-- a place is there
abbrev There : {X : Type 0} → (X → Bool) → List X → Type 0
There p xs = position_or_len p xs < length xs

there_of : {X : Type 0} (f : ℕ → ℕ) (p : X → Bool) (xs : List X) → is_some (option_map f (position p xs)) ≡ true → There p xs
there_of f p xs e = by_test (nat_lt (position_or_len p xs) (length xs)) refl e
  where
    by_test : (b : Bool) → nat_lt (position_or_len p xs) (length xs) ≡ b → is_some (option_map f (cond b (Some (position_or_len p xs)) None)) ≡ true → There p xs
    by_test true lt e = ltb-true _ _ lt
    by_test false lt e = absurd cc

of_there : {X : Type 0} (f : ℕ → ℕ) (p : X → Bool) (xs : List X) → There p xs → is_some (option_map f (position p xs)) ≡ true
of_there f p xs lt = ap (λ b. is_some (option_map f (cond b (Some (position_or_len p xs)) None))) (lt-ltb _ _ lt)

there_before : {X : Type 0} (p : X → Bool) (xs : List X) (x : X) → p x ≡ false → There p (xs ++ x ∷ []) → There p xs
there_before p [] x a lt = let e : position_or_len p (x ∷ []) ≡ 1 = ap (λ b. cond (not b) 1 0) a in absurd (omega (arith, e, lt))
there_before p (y ∷ ys) x a lt = by_test (p y) (there_before p ys x a) lt
  where
    by_test : (b : Bool) → (There p (ys ++ x ∷ []) → There p ys) → cond (not b) (1 + position_or_len p (ys ++ x ∷ [])) 0 < suc (length (ys ++ x ∷ [])) → cond (not b) (1 + position_or_len p ys) 0 < suc (length ys)
    by_test true ih lt = omega arith
    by_test false ih lt = let h : There p ys = ih (omega (arith, lt)) in omega (arith, h)

there_set : {X : Type 0} (p : X → Bool) (xs : List X) (i : ℕ) (y : X) → p y ≡ false → There p (set xs i y) → There p xs
there_set p [] i y a lt = lt
there_set p (x ∷ xs) zero y a lt = by_tests (p x) (p y) a lt
  where
    by_tests : (b c : Bool) → c ≡ false → cond (not c) (1 + position_or_len p xs) 0 < suc (length xs) → cond (not b) (1 + position_or_len p xs) 0 < suc (length xs)
    by_tests true c e lt = omega arith
    by_tests false true e lt = absurd cc
    by_tests false false e lt = lt
there_set p (x ∷ xs) (suc i) y a lt = by_test (p x) (there_set p xs i y a) lt
  where
    by_test : (b : Bool) → (There p (set xs i y) → There p xs) → cond (not b) (1 + position_or_len p (set xs i y)) 0 < suc (length (set xs i y)) → cond (not b) (1 + position_or_len p xs) 0 < suc (length xs)
    by_test true ih lt = omega arith
    by_test false ih lt = let h : There p xs = ih (omega (arith, lt)) in omega (arith, h)

-- a link on which one is closed has no other open
pub closed_carries : (conn end other : ℕ) (l : Link) → carries end other (closing conn l) ≡ true → carries end other l ≡ true
unfolding close_of id_of
closed_carries conn end other l h =
    let e = both_hold (l.end == end) (is_some (id_of (closed_among (close_of l.given conn) l.given) other)) h in
    and_true (l.end == end) (is_some (id_of l.given other)) e.0 (by_place (place_of l.given conn) e.1)
  where
    by_place : (o : Option ℕ) → is_some (id_of (closed_among (close_at l.given conn o) l.given) other) ≡ true → is_some (id_of l.given other) ≡ true
    by_place None e = e
    by_place (Some i) e = of_there (λ place. 1024 + place) (is_open_as other) l.given (there_set (is_open_as other) l.given i (closed conn) refl (there_of (λ place. 1024 + place) (is_open_as other) (set l.given i (closed conn)) e))

-- a link that forgets has none open
pub forgotten_carries : (end conn : ℕ) (l : Link) → carries end conn (forgetting l) ≡ true → carries end conn l ≡ true
unfolding id_of
forgotten_carries end conn l h = absurd (let no : false ≡ true = sym (and_false (l.end == end)) ∙ h in cc)

-- a link on which another connection is opened
given_carries : (conn end other : ℕ) (l : Link) → (conn == other) ≡ false → carries end other (giving conn l) ≡ true → carries end other l ≡ true
unfolding id_of
given_carries conn end other l apart h =
    let e = both_hold (l.end == end) (is_some (id_of (l.given ++ opened conn ∷ []) other)) h in
    and_true (l.end == end) (is_some (id_of l.given other)) e.0 (of_there (λ place. 1024 + place) (is_open_as other) l.given (there_before (is_open_as other) l.given (opened conn) apart (there_of (λ place. 1024 + place) (is_open_as other) (l.given ++ opened conn ∷ []) e.1)))

-- ---- a connection that is opened

-- no link before the lower place has it open
from_lower : (end conn : ℕ) (known : Option ℕ) (links : List Link) (place : ℕ) (after : Link) → place < length links → IsCarrierFrom end conn known links → IsCarrierFrom end conn (Some (lower known place)) (set links place after)
from_lower end conn None links place after lt c =
    (omega (arith, length-set links place after, lt), ap (find (carries end conn)) (take_set place links place after (omega arith)) ∙ none_among (carries end conn) place links c)
from_lower end conn (Some first) links place after lt c = by_test (nat_lt first place) refl
  where
    by_test : (b : Bool) → nat_lt first place ≡ b → IsCarrierFrom end conn (Some (cond b first place)) (set links place after)
    by_test true e =
        let below : first < place = ltb-true _ _ e in
        (omega (arith, length-set links place after, lt, below), ap (find (carries end conn)) (take_set first links place after (omega (arith, below))) ∙ c.1)
    by_test false e =
        let above = ltb-false _ _ e in
        (omega (arith, length-set links place after, lt), ap (find (carries end conn)) (take_set place links place after (omega arith)) ∙ none_fewer (carries end conn) place first links (omega (arith, above)) c.1)

-- what is known once a connection is opened on the link at a place, or that was refused
pub carriers_given : (end conn : ℕ) (es now : List ((ℕ × ℕ) × ℕ)) (links : List Link) (place first : ℕ) (before after : Link) → place < length links → before ≡ get_or links place before → before.end ≡ end → ((other : ℕ) → (conn == other) ≡ false → carries end other after ≡ true → carries end other before ≡ true) → after.end ≡ before.end → first ≡ lower (lookup (has_conn end conn) es) place → ((q : ℕ × ℕ) → lookup (has_conn q.0 q.1) now ≡ cond (has_conn end conn q) (Some first) (lookup (has_conn q.0 q.1) es)) → AreCarriers es links → AreCarriers now (slice_set links place after)
carriers_given end conn es now links place first before after lt is own fewer kept at told a e c =
    subst (λ o. IsCarrierFrom e c o (set links place after)) (sym (told (e, c))) (by_test (end == e) (conn == c) refl refl)
  where
    here : IsCarrierFrom end conn (Some first) (set links place after)
    here = subst (λ n. IsCarrierFrom end conn (Some n) (set links place after)) (sym at) (from_lower end conn (lookup (has_conn end conn) es) links place after lt (a end conn))

    elsewhere : (carries e c after ≡ true → carries e c before ≡ true) → IsCarrierFrom e c (lookup (has_conn e c) es) (set links place after)
    elsewhere f = from_set e c (lookup (has_conn e c) es) links place before after is f (a e c)

    by_test : (x y : Bool) → (end == e) ≡ x → (conn == c) ≡ y → IsCarrierFrom e c (cond (x && y) (Some first) (lookup (has_conn e c) es)) (set links place after)
    by_test true true p q = subst (λ m. IsCarrierFrom m c (Some first) (set links place after)) (number_is end e p) (subst (λ m. IsCarrierFrom end m (Some first) (set links place after)) (number_is conn c q) here)
    by_test true false p q = elsewhere (λ h. subst (λ m. carries m c before ≡ true) (number_is end e p) (fewer c q (subst (λ m. carries m c after ≡ true) (sym (number_is end e p)) h)))
    by_test false y p q = elsewhere (λ h.
        let same : (after.end == e) ≡ true = (both_hold (after.end == e) _ h).0 in
        absurd (let no : false ≡ true = sym p ∙ ap (λ n. n == e) (sym (kept ∙ own)) ∙ same in cc))

pub given_fewer : (conn end : ℕ) (before after : Link) → after ≡ giving conn before → (other : ℕ) → (conn == other) ≡ false → carries end other after ≡ true → carries end other before ≡ true
given_fewer conn end before after is other apart h = given_carries conn end other before apart (ap (carries end other) (sym is) ∙ h)
