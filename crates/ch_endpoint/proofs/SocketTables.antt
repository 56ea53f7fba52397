-- A table of sockets by number, seen as the list of them, and the set of those that have something to handle.
use Rattle.std.proofs.Common.{◌≡◌, ℕ, ◌<◌, ◌≤◌, Bool, true, false, cond, ◌==◌, nat_lt, List, [], ◌∷◌, length, find, Option, Some, None, Result, Ok, Err, OnOk, IfOk, refl, ap, sym, subst, ◌∙◌, arith}
use Rattle.std.specs.Map.{lookup, set_value, values_of}
use Rattle.std.specs.List.{list_any}
use Rattle.std.specs.Ordering.{nat_cmp, is_gt}
use Rattle.std.specs.declared.cmp.Ordering.TheVariants.{Greater}
use Rattle.std.specs.Cmp.{nat_cmp_is}
use Rattle.std.specs.BTreeMap.{is_at}
use Rattle.std.specs.BTreeSet.{BTreeSet, contains}
use Rattle.indexmap.specs.IndexMap.{insert_entry}
use Rattle.std.proofs.lemmas.Bool.{ltb-true, ltb-false}
use Rattle.std.proofs.lemmas.Bool.Decides.{nat_tests}
use Rattle.ch_watch.proofs.Rising.{same_number}
use Rattle.ch_model.specs.HostState.{Socket}
use Rattle.ch_model.specs.HostSteps.{is_socket, store_socket}
use Rattle.ch_model.specs.Host.{is_ready, lower, first_ready}
use Rattle.ch_endpoint.specs.ReadySets.{ready_in, UnderNumbers, NumbersApart, IsReadySet, KeepsSockets}
use Rattle.ch_endpoint.proofs.Tables.{number_is, number_same, found_replaced, find_other, found_passes, socket_stored}

pub turned : (a b : ℕ) → (a == b) ≡ (b == a)
turned a b = both (a == b) (b == a) refl refl
  where
    both : (x y : Bool) → (a == b) ≡ x → (b == a) ≡ y → x ≡ y
    both true true p q = refl
    both true false p q = grind (arith, nat_tests)
    both false true p q = grind (arith, nat_tests)
    both false false p q = refl

-- ---- the table

-- what is looked up by number is the socket of that number
pub found_by : (t : ℕ → Bool) (n : ℕ) → ((q : ℕ) → t q ≡ (q == n)) → (es : List (ℕ × Socket)) → UnderNumbers es → lookup t es ≡ find (is_socket n) (values_of es)
found_by t n same [] own = refl
found_by t n same (e ∷ es) own =
    ap (λ b. cond b (Some e.1) (lookup t es)) (same e.0 ∙ ap (λ m. m == n) (sym own.0))
    ∙ ap (cond (e.1.number == n) (Some e.1)) (found_by t n same es own.1)

-- a socket that is written where one of its number stands is stored
pub written_by : (t : ℕ → Bool) (n : ℕ) → ((q : ℕ) → t q ≡ (q == n)) → (socket : Socket) → socket.number ≡ n → (x : Socket) (es : List (ℕ × Socket)) → UnderNumbers es → find (is_socket n) (values_of es) ≡ Some x → values_of (set_value t es socket) ≡ store_socket socket (values_of es)
written_by t n same socket number x [] own e = absurd cc
written_by t n same socket number x (k ∷ es) own e = by_test (t k.0) (k.1.number == n) (same k.0 ∙ ap (λ m. m == n) (sym own.0)) (ap (λ m. k.1.number == m) number) (written_by t n same socket number x es own.1) e
  where
    by_test : (a b : Bool) → a ≡ b → (k.1.number == socket.number) ≡ b → (find (is_socket n) (values_of es) ≡ Some x → values_of (set_value t es socket) ≡ store_socket socket (values_of es)) → cond b (Some k.1) (find (is_socket n) (values_of es)) ≡ Some x → values_of (cond a ((k.0, socket) ∷ es) (k ∷ set_value t es socket)) ≡ cond (k.1.number == socket.number) (socket ∷ values_of es) (k.1 ∷ store_socket socket (values_of es))
    by_test true true h s ih e = ap (λ b. cond b (socket ∷ values_of es) (k.1 ∷ store_socket socket (values_of es))) (sym s)
    by_test true false h s ih e = absurd cc
    by_test false true h s ih e = absurd cc
    by_test false false h s ih e = ap (λ l. k.1 ∷ l) (ih e) ∙ ap (λ b. cond b (socket ∷ values_of es) (k.1 ∷ store_socket socket (values_of es))) (sym s)

pub under_written : (t : ℕ → Bool) (n : ℕ) → ((q : ℕ) → t q ≡ (q == n)) → (socket : Socket) → socket.number ≡ n → (es : List (ℕ × Socket)) → UnderNumbers es → UnderNumbers (set_value t es socket)
under_written t n same socket number [] own = own
under_written t n same socket number (k ∷ es) own = by_test (t k.0) (same k.0) (under_written t n same socket number es own.1)
  where
    by_test : (a : Bool) → a ≡ (k.0 == n) → UnderNumbers (set_value t es socket) → UnderNumbers (cond a ((k.0, socket) ∷ es) (k ∷ set_value t es socket))
    by_test true h rest = (number ∙ sym (number_is k.0 n (sym h)), own.1)
    by_test false h rest = (own.0, rest)

-- a socket that is inserted under its number is stored
pub inserted_by : (eq : ℕ → ℕ → Bool) (n : ℕ) → ((q : ℕ) → eq n q ≡ (q == n)) → (socket : Socket) → socket.number ≡ n → (es : List (ℕ × Socket)) → UnderNumbers es → values_of (insert_entry eq es n socket) ≡ store_socket socket (values_of es)
inserted_by eq n same socket number [] own = refl
inserted_by eq n same socket number (k ∷ es) own = by_test (eq n k.0) (same k.0 ∙ ap (λ m. m == n) (sym own.0) ∙ ap (λ m. k.1.number == m) (sym number)) (inserted_by eq n same socket number es own.1)
  where
    by_test : (a : Bool) → a ≡ (k.1.number == socket.number) → values_of (insert_entry eq es n socket) ≡ store_socket socket (values_of es) → values_of (cond a ((k.0, socket) ∷ es) (k ∷ insert_entry eq es n socket)) ≡ cond (k.1.number == socket.number) (socket ∷ values_of es) (k.1 ∷ store_socket socket (values_of es))
    by_test true h ih = ap (λ b. cond b (socket ∷ values_of es) (k.1 ∷ store_socket socket (values_of es))) h
    by_test false h ih = ap (λ l. k.1 ∷ l) ih ∙ ap (λ b. cond b (socket ∷ values_of es) (k.1 ∷ store_socket socket (values_of es))) h

pub under_inserted : (eq : ℕ → ℕ → Bool) (n : ℕ) → ((q : ℕ) → eq n q ≡ (q == n)) → (socket : Socket) → socket.number ≡ n → (es : List (ℕ × Socket)) → UnderNumbers es → UnderNumbers (insert_entry eq es n socket)
under_inserted eq n same socket number [] own = (number, tt)
under_inserted eq n same socket number (k ∷ es) own = by_test (eq n k.0) (same k.0) (under_inserted eq n same socket number es own.1)
  where
    by_test : (a : Bool) → a ≡ (k.0 == n) → UnderNumbers (insert_entry eq es n socket) → UnderNumbers (cond a ((k.0, socket) ∷ es) (k ∷ insert_entry eq es n socket))
    by_test true h rest = (number ∙ sym (number_is k.0 n (sym h)), own.1)
    by_test false h rest = (own.0, rest)

-- ---- sockets of numbers apart

pub apart_stored : (socket : Socket) (xs : List Socket) → NumbersApart xs → NumbersApart (store_socket socket xs)
apart_stored socket [] a = (refl, tt)
apart_stored socket (x ∷ xs) a = by_test (x.number == socket.number) refl (apart_stored socket xs a.1)
  where
    by_test : (b : Bool) → (x.number == socket.number) ≡ b → NumbersApart (store_socket socket xs) → NumbersApart (cond b (socket ∷ xs) (x ∷ store_socket socket xs))
    by_test true e rest = (ap (λ n. find (is_socket n) xs) (sym (number_is x.number socket.number e)) ∙ a.0, a.1)
    by_test false e rest = (ap (find (is_socket x.number)) (socket_stored socket xs) ∙ find_other (is_socket socket.number) (is_socket x.number) socket (turned socket.number x.number ∙ e) xs a.0, rest)

-- the socket that was stored is the one of its number, and the others are as they were
pub found_stored : (socket : Socket) (xs : List Socket) → find (is_socket socket.number) (store_socket socket xs) ≡ Some socket
found_stored socket xs = ap (find (is_socket socket.number)) (socket_stored socket xs) ∙ found_replaced (is_socket socket.number) socket (number_same socket.number) xs

pub other_stored : (socket : Socket) (q : ℕ) → (q == socket.number) ≡ false → (xs : List Socket) → find (is_socket q) (store_socket socket xs) ≡ find (is_socket q) xs
other_stored socket q other [] = ap (λ b. cond b (Some socket) None) (turned socket.number q ∙ other)
other_stored socket q other (x ∷ xs) = by_test (x.number == socket.number) refl (other_stored socket q other xs)
  where
    by_test : (b : Bool) → (x.number == socket.number) ≡ b → find (is_socket q) (store_socket socket xs) ≡ find (is_socket q) xs → find (is_socket q) (cond b (socket ∷ xs) (x ∷ store_socket socket xs)) ≡ cond (x.number == q) (Some x) (find (is_socket q) xs)
    by_test true e ih =
        let far : (socket.number == q) ≡ false = turned socket.number q ∙ other in
        let far_too : (x.number == q) ≡ false = ap (λ n. n == q) (number_is x.number socket.number e) ∙ far in
        ap (λ b. cond b (Some socket) (find (is_socket q) xs)) far ∙ sym (ap (λ b. cond b (Some x) (find (is_socket q) xs)) far_too)
    by_test false e ih = ap (cond (x.number == q) (Some x)) ih

-- ---- the set

-- the set once a socket is stored that has something to handle, or hasn't
pub set_stored : (old new : BTreeSet ℕ) (socket : Socket) (xs : List Socket) → IsReadySet old xs → ((q : ℕ) → contains nat_cmp new q ≡ cond (q == socket.number) (is_ready socket) (contains nat_cmp old q)) → IsReadySet new (store_socket socket xs)
set_stored old new socket xs set told q = told q ∙ by_test (q == socket.number) refl
  where
    by_test : (b : Bool) → (q == socket.number) ≡ b → cond b (is_ready socket) (contains nat_cmp old q) ≡ ready_in (find (is_socket q) (store_socket socket xs))
    by_test true e = sym (ap ready_in (ap (λ n. find (is_socket n) (store_socket socket xs)) (number_is q socket.number e) ∙ found_stored socket xs))
    by_test false e = set q ∙ sym (ap ready_in (other_stored socket q e xs))

-- the set without a number that it was told of
pub told_removed : (old new : BTreeSet ℕ) (n : ℕ) → ((q : ℕ) → contains nat_cmp new q ≡ cond (is_at (nat_cmp n) q) false (contains nat_cmp old q)) → (q : ℕ) → contains nat_cmp new q ≡ cond (q == n) false (contains nat_cmp old q)
told_removed old new n told q = told q ∙ ap (λ b. cond b false (contains nat_cmp old q)) (same_number n q)

-- a number that is put in, and then noted
pub told_noted : (old between new : BTreeSet ℕ) (n : ℕ) (ready : Bool) → ((q : ℕ) → contains nat_cmp between q ≡ cond (is_at (nat_cmp n) q) true (contains nat_cmp old q)) → ((q : ℕ) → contains nat_cmp new q ≡ cond (q == n) ready (contains nat_cmp between q)) → (q : ℕ) → contains nat_cmp new q ≡ cond (q == n) ready (contains nat_cmp old q)
told_noted old between new n ready put noted q = noted q ∙ by_test (q == n) (put q ∙ ap (λ b. cond b true (contains nat_cmp old q)) (same_number n q))
  where
    by_test : (b : Bool) → contains nat_cmp between q ≡ cond b true (contains nat_cmp old q) → cond b ready (contains nat_cmp between q) ≡ cond b ready (contains nat_cmp old q)
    by_test true e = refl
    by_test false e = e

-- ---- the first that has something to handle

-- no other of these with something to handle has a lower number
abbrev Beats : ℕ → Option Socket → Type 0
Beats n None = ⊥
Beats n (Some socket) = socket.number ≤ n

-- it is one of these, and has something to handle
abbrev StandsIn : List Socket → Option Socket → Type 0
StandsIn xs None = Unit {0}
StandsIn xs (Some socket) = (find (is_socket socket.number) xs ≡ Some socket) × (is_ready socket ≡ true)

beats_own : (x : Socket) (o : Option Socket) (n : ℕ) → x.number ≤ n → Beats n (Some (lower x o))
beats_own x None n le = le
beats_own x (Some y) n le = by_test (nat_lt y.number x.number) refl
  where
    by_test : (b : Bool) → nat_lt y.number x.number ≡ b → (cond b y x).number ≤ n
    by_test true e = let lt : y.number < x.number = ltb-true _ _ e in omega (arith, lt, le)
    by_test false e = le

beats_rest : (x : Socket) (o : Option Socket) (n : ℕ) → Beats n o → Beats n (Some (lower x o))
beats_rest x None n b = absurd b
beats_rest x (Some y) n le = by_test (nat_lt y.number x.number) refl
  where
    by_test : (b : Bool) → nat_lt y.number x.number ≡ b → (cond b y x).number ≤ n
    by_test true e = le
    by_test false e = omega (arith, ltb-false _ _ e, le)

-- a socket that has something to handle is beaten by the first
beats : (n : ℕ) (t : Socket) (xs : List Socket) → find (is_socket n) xs ≡ Some t → is_ready t ≡ true → Beats n (first_ready xs)
beats n t [] e r = absurd cc
beats n t (x ∷ xs) e r = by_test (λ f. beats n t xs f r) (x.number == n) refl (is_ready x) refl e
  where
    by_test : (find (is_socket n) xs ≡ Some t → Beats n (first_ready xs)) → (b : Bool) → (x.number == n) ≡ b → (c : Bool) → is_ready x ≡ c → cond b (Some x) (find (is_socket n) xs) ≡ Some t → Beats n (cond c (Some (lower x (first_ready xs))) (first_ready xs))
    by_test ih true h true k e = let is : x.number ≡ n = number_is x.number n h in beats_own x (first_ready xs) n (omega (arith, is))
    by_test ih true h false k e = let same : x ≡ t = cc in absurd (let no : false ≡ true = sym k ∙ ap is_ready same ∙ r in cc)
    by_test ih false h true k e = beats_rest x (first_ready xs) n (ih e)
    by_test ih false h false k e = ih e

stands_own : (x : Socket) (xs : List Socket) → is_ready x ≡ true → StandsIn (x ∷ xs) (Some x)
stands_own x xs r = (ap (λ b. cond b (Some x) (find (is_socket x.number) xs)) (number_same x.number), r)

stands_rest : (x : Socket) (xs : List Socket) (o : Option Socket) → find (is_socket x.number) xs ≡ None → StandsIn xs o → StandsIn (x ∷ xs) o
stands_rest x xs None a s = tt
stands_rest x xs (Some y) a s = (by_test (x.number == y.number) refl, s.1)
  where
    by_test : (b : Bool) → (x.number == y.number) ≡ b → cond b (Some x) (find (is_socket y.number) xs) ≡ Some y
    by_test true e =
        let gone : find (is_socket y.number) xs ≡ None = ap (λ n. find (is_socket n) xs) (sym (number_is x.number y.number e)) ∙ a in
        absurd (let no : None ≡ Some y = sym gone ∙ s.0 in cc)
    by_test false e = s.0

stands_lower : (x : Socket) (xs : List Socket) (o : Option Socket) → is_ready x ≡ true → find (is_socket x.number) xs ≡ None → StandsIn xs o → StandsIn (x ∷ xs) (Some (lower x o))
stands_lower x xs None r a s = stands_own x xs r
stands_lower x xs (Some y) r a s = by_test (nat_lt y.number x.number)
  where
    by_test : (b : Bool) → StandsIn (x ∷ xs) (Some (cond b y x))
    by_test true = stands_rest x xs (Some y) a s
    by_test false = stands_own x xs r

stands_first : (xs : List Socket) → NumbersApart xs → StandsIn xs (first_ready xs)
stands_first [] a = tt
stands_first (x ∷ xs) a = by_test (is_ready x) refl (stands_first xs a.1)
  where
    by_test : (b : Bool) → is_ready x ≡ b → StandsIn xs (first_ready xs) → StandsIn (x ∷ xs) (cond b (Some (lower x (first_ready xs))) (first_ready xs))
    by_test true e s = stands_lower x xs (first_ready xs) e a.0 s
    by_test false e s = stands_rest x xs (first_ready xs) a.0 s

in_set : (xs : List Socket) (ready : BTreeSet ℕ) → IsReadySet ready xs → (s : Socket) → find (is_socket s.number) xs ≡ Some s → is_ready s ≡ true → contains nat_cmp ready s.number ≡ true
in_set xs ready set s e r = set s.number ∙ ap ready_in e ∙ r

-- the lowest number of the set is that of the first that has something to handle
pub first_is : (xs : List Socket) (ready : BTreeSet ℕ) (k : ℕ) → NumbersApart xs → IsReadySet ready xs → contains nat_cmp ready k ≡ true → ((q : ℕ) → contains nat_cmp ready q ≡ true → k ≤ q) → first_ready xs ≡ find (is_socket k) xs
first_is xs ready k a set there least = by_found (find (is_socket k) xs) refl (first_ready xs) (stands_first xs a) (λ t e r. beats k t xs e r)
  where
    by_found : (f : Option Socket) → find (is_socket k) xs ≡ f → (o : Option Socket) → StandsIn xs o → ((t : Socket) → find (is_socket k) xs ≡ Some t → is_ready t ≡ true → Beats k o) → o ≡ f
    by_found None e o s b = absurd (let no : false ≡ true = sym (set k ∙ ap ready_in e) ∙ there in cc)
    by_found (Some t) e None s b = absurd (b t e (sym (set k ∙ ap ready_in e) ∙ there))
    by_found (Some t) e (Some y) s b =
        let le : y.number ≤ k = b t e (sym (set k ∙ ap ready_in e) ∙ there) in
        let ge : k ≤ y.number = least y.number (in_set xs ready set y s.0 s.1) in
        let same : y.number ≡ k = omega (arith, le, ge) in
        sym s.0 ∙ ap (λ n. find (is_socket n) xs) same ∙ e

-- where the set is empty none has something to handle
pub none_is : (xs : List Socket) (ready : BTreeSet ℕ) → NumbersApart xs → IsReadySet ready xs → ready.keys ≡ [] → first_ready xs ≡ None
none_is xs ready a set none = by_case (first_ready xs) (stands_first xs a)
  where
    by_case : (o : Option Socket) → StandsIn xs o → o ≡ None
    by_case None s = refl
    by_case (Some y) s =
        let out : contains nat_cmp ready y.number ≡ false = ap (list_any (is_at (nat_cmp y.number))) none in
        absurd (let no : false ≡ true = sym out ∙ in_set xs ready set y s.0 s.1 in cc)

-- a number of which none is below
pub not_above : (k q : ℕ) → is_gt (nat_cmp k q) ≡ false → k ≤ q
not_above k q h = by_test (nat_lt q k) refl
  where
    by_test : (b : Bool) → nat_lt q k ≡ b → k ≤ q
    by_test true e =
        let lt : q < k = ltb-true _ _ e in
        let greater : Greater ≡ nat_cmp k q = nat_cmp_is k q Greater lt in
        absurd (let no : true ≡ false = ap is_gt greater ∙ h in cc)
    by_test false e = omega (arith, ltb-false _ _ e)

pub no_keys : (keys : List ℕ) → (0 < length keys → false ≡ true) → keys ≡ []
no_keys [] h = refl
no_keys (k ∷ ks) h = absurd (let no : false ≡ true = h (omega arith) in cc)

-- ---- a socket that is written under its number

-- The table and the set once a socket is written in place of another of its number.
pub record Written (n : ℕ) (es now : List (ℕ × Socket)) (new : BTreeSet ℕ) (before after : Socket) : Type 0 where
  pub found : find (is_socket n) (values_of es) ≡ Some before
  pub stored : values_of now ≡ store_socket after (values_of es)
  pub keeps : KeepsSockets now new

pub number_found : (n : ℕ) (es : List (ℕ × Socket)) (before : Socket) → UnderNumbers es → Some before ≡ lookup (λ q. n == q) es → (find (is_socket n) (values_of es) ≡ Some before) × (before.number ≡ n)
number_found n es before own is =
    let found : find (is_socket n) (values_of es) ≡ Some before = sym (found_by (λ q. n == q) n (turned n) es own) ∙ sym is in
    (found, number_is before.number n (found_passes (is_socket n) before (values_of es) found))

pub written : (n : ℕ) (es now : List (ℕ × Socket)) (old new : BTreeSet ℕ) (before after : Socket) → KeepsSockets es old → Some before ≡ lookup (λ q. n == q) es → after.number ≡ before.number → now ≡ set_value (λ q. n == q) es after → ((q : ℕ) → contains nat_cmp new q ≡ cond (q == n) (is_ready after) (contains nat_cmp old q)) → Written n es now new before after
written n es now old new before after keeps is own wrote told =
    let at = number_found n es before keeps.under is in
    let number : after.number ≡ n = own ∙ at.1 in
    let stored : values_of now ≡ store_socket after (values_of es) = ap values_of wrote ∙ written_by (λ q. n == q) n (turned n) after number before es keeps.under at.0 in
    let set : IsReadySet new (store_socket after (values_of es)) = set_stored old new after (values_of es) keeps.set (λ q. told q ∙ ap (λ m. cond (q == m) (is_ready after) (contains nat_cmp old q)) (sym number)) in
    record {
      found = at.0;
      stored = stored;
      keeps = record {
        under = subst UnderNumbers (sym wrote) (under_written (λ q. n == q) n (turned n) after number es keeps.under);
        apart = subst NumbersApart (sym stored) (apart_stored after (values_of es) keeps.apart);
        set = subst (IsReadySet new) (sym stored) set;
      };
    }

-- a socket that has as much to handle as before leaves the set
pub told_same_set : (n : ℕ) (es : List (ℕ × Socket)) (old new : BTreeSet ℕ) (before after : Socket) → KeepsSockets es old → Some before ≡ lookup (λ q. n == q) es → is_ready after ≡ is_ready before → new.keys ≡ old.keys → (q : ℕ) → contains nat_cmp new q ≡ cond (q == n) (is_ready after) (contains nat_cmp old q)
told_same_set n es old new before after keeps is same unchanged q = ap (list_any (is_at (nat_cmp q))) unchanged ∙ by_test (q == n) refl
  where
    by_test : (b : Bool) → (q == n) ≡ b → contains nat_cmp old q ≡ cond b (is_ready after) (contains nat_cmp old q)
    by_test true e =
        let at = number_found n es before keeps.under is in
        keeps.set q ∙ ap ready_in (ap (λ m. find (is_socket m) (values_of es)) (number_is q n e) ∙ at.0) ∙ sym same
    by_test false e = refl

-- a socket that has nothing to handle any more leaves the set
pub told_idle : (old new : BTreeSet ℕ) (n : ℕ) (ready : Bool) → ready ≡ false → ((q : ℕ) → contains nat_cmp new q ≡ cond (is_at (nat_cmp n) q) false (contains nat_cmp old q)) → (q : ℕ) → contains nat_cmp new q ≡ cond (q == n) ready (contains nat_cmp old q)
told_idle old new n ready idle told q = told_removed old new n told q ∙ ap (λ b. cond (q == n) b (contains nat_cmp old q)) (sym idle)

-- a number of the set that is noted
pub told_note : (old new : BTreeSet ℕ) (n : ℕ) (told ready : Bool) → told ≡ ready → ((q : ℕ) → contains nat_cmp new q ≡ cond (q == n) told (contains nat_cmp old q)) → (q : ℕ) → contains nat_cmp new q ≡ cond (q == n) ready (contains nat_cmp old q)
told_note old new n told ready is noted q = noted q ∙ ap (λ b. cond (q == n) b (contains nat_cmp old q)) is

-- where none is looked up, none has the number
pub absent : (n : ℕ) (es : List (ℕ × Socket)) → UnderNumbers es → None ≡ lookup (λ q. n == q) es → find (is_socket n) (values_of es) ≡ None
absent n es own is = sym (found_by (λ q. n == q) n (turned n) es own) ∙ sym is

-- a socket that has nothing to handle is inserted
pub inserted : (n : ℕ) (es now : List (ℕ × Socket)) (old new : BTreeSet ℕ) (socket : Socket) → KeepsSockets es old → socket.number ≡ n → is_ready socket ≡ false → now ≡ insert_entry (λ a b. a == b) es n socket → ((q : ℕ) → contains nat_cmp new q ≡ cond (is_at (nat_cmp n) q) false (contains nat_cmp old q)) → (values_of now ≡ store_socket socket (values_of es)) × KeepsSockets now new
inserted n es now old new socket keeps number idle put told =
    let stored : values_of now ≡ store_socket socket (values_of es) = ap values_of put ∙ inserted_by (λ a b. a == b) n (turned n) socket number es keeps.under in
    let set : IsReadySet new (store_socket socket (values_of es)) = set_stored old new socket (values_of es) keeps.set (λ q. told_removed old new n told q ∙ ap (λ b. cond (q == n) b (contains nat_cmp old q)) (sym idle) ∙ ap (λ m. cond (q == m) (is_ready socket) (contains nat_cmp old q)) (sym number)) in (
      stored,
      record {
        under = subst UnderNumbers (sym put) (under_inserted (λ a b. a == b) n (turned n) socket number es keeps.under);
        apart = subst NumbersApart (sym stored) (apart_stored socket (values_of es) keeps.apart);
        set = subst (IsReadySet new) (sym stored) set;
      },
    )

-- what holds where a call has succeeded
pub on_ok : {A E : Type 0} (r : Result A E) (P Q : Type 0) → (P → Q) → OnOk r P → OnOk r Q
on_ok (Ok a) P Q f p = f p
on_ok (Err e) P Q f p = p

pub if_same : {A E : Type 0} (r : Result A E) (x y : A) → x ≡ y → IfOk r (λ a. a ≡ x) → IfOk r (λ a. a ≡ y)
if_same (Ok a) x y e p = p ∙ e
if_same (Err f) x y e p = p
