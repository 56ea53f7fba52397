-- A table of open numbers, seen as the list of them in its order.
use Rattle.std.proofs.Common.{◌≡◌, ℕ, ◌+◌, ◌<◌, ◌≤◌, ◌==◌, ◌&&◌, Bool, true, false, cond, List, [], ◌∷◌, ◌++◌, filter, find, Option, Some, None, option_map, MatchOption, refl, sym, ap, subst, ◌∙◌, arith}
use Rattle.std.specs.Map.{lookup, remove_entry, values_of}
use Rattle.std.specs.Ordering.{nat_cmp, match_ordering}
use Rattle.std.specs.declared.cmp.Ordering.TheVariants.{Greater}
use Rattle.std.specs.Cmp.{nat_cmp_is, unsigned_tied}
use Rattle.std.specs.BTreeMap.{insert_entry, is_at}
use Rattle.std.proofs.lemmas.Bool.Decides.{nat_tests}
use Rattle.ch_watch.specs.declared.waiting.Waiting.{Waiting}
use Rattle.ch_ident.specs.declared.identifier.Identifier.{Identifier}
use Rattle.ch_watch.specs.declared.waiting.Kind.{Kind}
use Rattle.ch_watch.specs.OpenNumbers.{OpenNumbers}
use Rattle.ch_watch.specs.Firsts.{after_passing, first_that}
use Rattle.ch_watch.specs.Open.{has_number, is_watch, is_watch_of}
use Rattle.ch_watch.specs.Rising.{Rises}

-- what is found, and what is left then
abbrev pub taken : {X : Type 0} → Option X → List X → Option (X × List X)
taken None rest = None
taken (Some x) rest = Some (x, rest)

-- what a removal answers and leaves, where it is known what is found
pub gives : {X : Type 0} (f : Option (X × List X)) (o r : Option X) (rest new : List X) → f ≡ taken o rest → r ≡ o → new ≡ rest → MatchOption r (f ≡ None) (λ x. f ≡ Some (x, new))
gives f o None rest new is value left = is ∙ ap (λ o. taken o rest) (sym value)
gives f o (Some x) rest new is value left = is ∙ ap (λ o. taken o rest) (sym value) ∙ ap (λ l. Some (x, l)) (sym left)

-- what is found, where it passes a test
abbrev pub passing : {X : Type 0} → (X → Bool) → Option X → Option X
passing test None = None
passing test (Some x) = cond (test x) (Some x) None

-- the first that passes is what is found
pub found : {X : Type 0} (p : X → Bool) (xs : List X) → find p xs ≡ option_map (λ r. r.0) (first_that p xs)
found p [] = refl
found {X} p (x ∷ xs) = at_front (p x) (first_that p xs) (found p xs)
  where
    past : (rest : Option (X × List X)) → option_map (λ r. r.0) (after_passing x rest) ≡ option_map (λ r. r.0) rest
    past None = refl
    past (Some r) = refl

    at_front : (b : Bool) (rest : Option (X × List X)) → find p xs ≡ option_map (λ r. r.0) rest → cond b (Some x) (find p xs) ≡ option_map (λ r. r.0) (cond b (Some (x, xs)) (after_passing x rest))
    at_front true rest h = refl
    at_front false rest h = h ∙ sym (past rest)

-- nothing is taken where nothing is found
pub not_taken : {X : Type 0} (p : X → Bool) (xs : List X) → None ≡ find p xs → first_that p xs ≡ None
not_taken {X} p xs h = none (first_that p xs) (h ∙ found p xs)
  where
    none : (f : Option (X × List X)) → None ≡ option_map (λ r. r.0) f → f ≡ None
    none None h = refl
    none (Some r) h = absurd cc

-- what is found passes
pub passed : {X : Type 0} (test : X → Bool) (o : Option X) (x : X) → Some x ≡ passing test o → o ≡ passing test o
passed test None x h = refl
passed {X} test (Some y) x h = by_test (test y) h
  where
    by_test : (b : Bool) → Some x ≡ cond b (Some y) None → Some y ≡ cond b (Some y) None
    by_test true h = refl
    by_test false h = absurd cc

pub passes : {X : Type 0} (test : X → Bool) (x : X) → test x ≡ true → Some x ≡ passing test (Some x)
passes test x h = ap (λ b. cond b (Some x) None) (sym h)

pub fails : {X : Type 0} (test : X → Bool) (x : X) → test x ≡ false → None ≡ passing test (Some x)
fails test x h = ap (λ b. cond b (Some x) None) (sym h)

-- what a table's lower bound may come down to
pub lower : (low at next : ℕ) (es : List (ℕ × Waiting)) → low ≤ at → Rises at es next → Rises low es next
lower low at next [] h r = omega (arith, h, r)
lower low at next (e ∷ es) h r = (omega (arith, h, r.0), r.1, r.2)

-- all keys lie below the next number
pub bound : (low next : ℕ) (es : List (ℕ × Waiting)) → Rises low es next → low ≤ next
bound low next [] r = r
bound low next (e ∷ es) r = let above : e.0 + 1 ≤ next = bound (e.0 + 1) next es r.2 in omega (arith, above, r.0)

-- ---- what is taken out by number

pub after : {X : Type 0} (x : X) (o : Option X) (rest : List X) → after_passing x (taken o rest) ≡ taken o (x ∷ rest)
after x None rest = refl
after x (Some y) rest = refl

-- what is taken out by number is the first under that number, and the others are left
pub taken_number : (t : ℕ → Bool) (n : ℕ) → ((q : ℕ) → t q ≡ (q == n)) → (low next : ℕ) (es : List (ℕ × Waiting)) → Rises low es next → first_that (has_number n) (values_of es) ≡ taken (lookup t es) (values_of (remove_entry t es))
unfolding has_number
taken_number t n same low next [] r = refl
taken_number t n same low next (e ∷ es) r = at_front (t e.0) (e.1.number == n) (same e.0 ∙ ap (λ m. m == n) (sym r.1)) (taken_number t n same (e.0 + 1) next es r.2)
  where
    at_front : (a b : Bool) → a ≡ b → first_that (has_number n) (values_of es) ≡ taken (lookup t es) (values_of (remove_entry t es)) → cond b (Some (e.1, values_of es)) (after_passing e.1 (first_that (has_number n) (values_of es))) ≡ taken (cond a (Some e.1) (lookup t es)) (values_of (cond a es (e ∷ remove_entry t es)))
    at_front true true h ih = refl
    at_front true false h ih = absurd cc
    at_front false true h ih = absurd cc
    at_front false false h ih = ap (after_passing e.1) ih ∙ after e.1 (lookup t es) (values_of (remove_entry t es))

fails_at : (owner n : ℕ) (w : Waiting) → (w.number == n) ≡ false → is_watch_of owner n w ≡ false
unfolding is_watch_of
fails_at owner n w h = ap (λ b. b && ((w.owner == owner) && is_watch w.kind)) h

unequal : (i n : ℕ) → n < i → (i == n) ≡ false
unequal i n h = grind (arith, nat_tests)

-- no number below the keys is open
none_below : (owner n low next : ℕ) (es : List (ℕ × Waiting)) → n < low → Rises low es next → first_that (is_watch_of owner n) (values_of es) ≡ None
none_below owner n low next [] h r = refl
none_below owner n low next (e ∷ es) h r =
    let far : n < e.1.number = omega (arith, h, r.0, r.1) in
    let other = fails_at owner n e.1 (unequal e.1.number n far) in
    let rest = none_below owner n (e.0 + 1) next es (omega (arith, h, r.0)) r.2 in
    rw (other, rest) refl

-- a watch that is taken out by number is the first of that owner under that number, and the others are left
pub taken_watch : (t : ℕ → Bool) (owner n : ℕ) → ((q : ℕ) → t q ≡ (q == n)) → (low next : ℕ) (es : List (ℕ × Waiting)) → Rises low es next → first_that (is_watch_of owner n) (values_of es) ≡ taken (passing (is_watch_of owner n) (lookup t es)) (values_of (remove_entry t es))
taken_watch t owner n same low next [] r = refl
taken_watch t owner n same low next (e ∷ es) r = at_front (t e.0) refl (taken_watch t owner n same (e.0 + 1) next es r.2)
  where
    here : (b : Bool) → first_that (is_watch_of owner n) (values_of es) ≡ None → cond b (Some (e.1, values_of es)) (after_passing e.1 (first_that (is_watch_of owner n) (values_of es))) ≡ taken (cond b (Some e.1) None) (values_of es)
    here true h = refl
    here false h = ap (after_passing e.1) h

    at_front : (a : Bool) → t e.0 ≡ a → first_that (is_watch_of owner n) (values_of es) ≡ taken (passing (is_watch_of owner n) (lookup t es)) (values_of (remove_entry t es)) → first_that (is_watch_of owner n) (values_of (e ∷ es)) ≡ taken (passing (is_watch_of owner n) (cond a (Some e.1) (lookup t es))) (values_of (cond a es (e ∷ remove_entry t es)))
    at_front true h rest = let key : n < e.0 + 1 = at_key e.0 (sym (same e.0) ∙ h) in here (is_watch_of owner n e.1) (none_below owner n (e.0 + 1) next es key r.2)
      where
        at_key : (q : ℕ) → (q == n) ≡ true → n < q + 1
        at_key q h = grind (arith, nat_tests)
    at_front false h rest =
        let other = fails_at owner n e.1 (ap (λ m. m == n) r.1 ∙ sym (same e.0) ∙ h) in
        rw other (ap (after_passing e.1) rest ∙ after e.1 (passing (is_watch_of owner n) (lookup t es)) (values_of (remove_entry t es)))

first_of : {X : Type 0} (o : Option X) (rest : List X) → option_map (λ r. r.0) (taken o rest) ≡ o
first_of None rest = refl
first_of (Some x) rest = refl

-- a watch that is looked up by number is the first of that owner under that number
pub found_watch : (t : ℕ → Bool) (owner n : ℕ) → ((q : ℕ) → t q ≡ (q == n)) → (low next : ℕ) (es : List (ℕ × Waiting)) → Rises low es next → find (is_watch_of owner n) (values_of es) ≡ passing (is_watch_of owner n) (lookup t es)
found_watch t owner n same low next es r =
    let first = taken_watch t owner n same low next es r in
    found (is_watch_of owner n) (values_of es) ∙ ap (option_map (λ x. x.0)) first ∙ first_of (passing (is_watch_of owner n) (lookup t es)) (values_of (remove_entry t es))

-- what is looked up by number is the first under that number
pub found_number : (t : ℕ → Bool) (n : ℕ) → ((q : ℕ) → t q ≡ (q == n)) → (low next : ℕ) (es : List (ℕ × Waiting)) → Rises low es next → find (has_number n) (values_of es) ≡ lookup t es
found_number t n same low next es r =
    let first = taken_number t n same low next es r in
    found (has_number n) (values_of es) ∙ ap (option_map (λ x. x.0)) first ∙ first_of (lookup t es) (values_of (remove_entry t es))

turned : (a b : ℕ) → (a == b) ≡ (b == a)
turned a b = both (a == b) (b == a) refl refl
  where
    both : (x y : Bool) → (a == b) ≡ x → (b == a) ≡ y → x ≡ y
    both true true p q = refl
    both true false p q = grind (arith, nat_tests)
    both false true p q = grind (arith, nat_tests)
    both false false p q = refl

-- how the table compares its keys
pub same_number : (n q : ℕ) → is_at (nat_cmp n) q ≡ (q == n)
same_number n q = unsigned_tied n q ∙ turned n q

-- ---- what keeps the order

pub removed : (t : ℕ → Bool) (low next : ℕ) (es : List (ℕ × Waiting)) → Rises low es next → Rises low (remove_entry t es) next
removed t low next [] r = r
removed t low next (e ∷ es) r = at_front (t e.0) (removed t (e.0 + 1) next es r.2)
  where
    at_front : (b : Bool) → Rises (e.0 + 1) (remove_entry t es) next → Rises low (cond b es (e ∷ remove_entry t es)) next
    at_front true rest = lower low (e.0 + 1) next es (omega (arith, r.0)) r.2
    at_front false rest = (r.0, r.1, rest)

pub filtered : (p : ℕ × Waiting → Bool) (low next : ℕ) (es : List (ℕ × Waiting)) → Rises low es next → Rises low (filter p es) next
filtered p low next [] r = r
filtered p low next (e ∷ es) r = at_front (p e) (filtered p (e.0 + 1) next es r.2)
  where
    at_front : (b : Bool) → Rises (e.0 + 1) (filter p es) next → Rises low (cond b (e ∷ filter p es) (filter p es)) next
    at_front true rest = (r.0, r.1, rest)
    at_front false rest = lower low (e.0 + 1) next (filter p es) (omega (arith, r.0)) rest

-- the next number goes last
pub at_end : (low next : ℕ) (w : Waiting) (es : List (ℕ × Waiting)) → Rises low es next → insert_entry nat_cmp es next w ≡ es ++ (next, w) ∷ []
at_end low next w [] r = refl
at_end low next w (e ∷ es) r =
    let above : e.0 + 1 ≤ next = bound (e.0 + 1) next es r.2 in
    let greater : Greater ≡ nat_cmp next e.0 = nat_cmp_is next e.0 Greater (omega (arith, above)) in
    ap (λ o. match_ordering o ((next, w) ∷ e ∷ es) ((e.0, w) ∷ es) (e ∷ insert_entry nat_cmp es next w)) (sym greater) ∙ ap (λ l. e ∷ l) (at_end (e.0 + 1) next w es r.2)

pub appended : (low next : ℕ) (w : Waiting) (es : List (ℕ × Waiting)) → w.number ≡ next → Rises low es next → Rises low (es ++ (next, w) ∷ []) (next + 1)
appended low next w [] is r = (r, is, omega arith)
appended low next w (e ∷ es) is r = (r.0, r.1, appended (e.0 + 1) next w es is r.2)

-- ---- what the list of open numbers is then

pub values-append : {K X : Type 0} (es : List (K × X)) (k : K) (v : X) → values_of (es ++ (k, v) ∷ []) ≡ values_of es ++ v ∷ []
values-append [] k v = refl
values-append (e ∷ es) k v = ap (λ l. e.1 ∷ l) (values-append es k v)

pub values-filter : {K X : Type 0} (p : X → Bool) (es : List (K × X)) → values_of (filter (λ e. p e.1) es) ≡ filter p (values_of es)
values-filter p [] = refl
values-filter p (e ∷ es) = at_front (p e.1) (values-filter p es)
  where
    at_front : (b : Bool) → values_of (filter (λ e. p e.1) es) ≡ filter p (values_of es) → values_of (cond b (e ∷ filter (λ e. p e.1) es) (filter (λ e. p e.1) es)) ≡ cond b (e.1 ∷ filter p (values_of es)) (filter p (values_of es))
    at_front true h = ap (λ l. e.1 ∷ l) h
    at_front false h = h

abbrev pub seen : ℕ → List Waiting → OpenNumbers
seen next waiting = record { next = next; waiting = waiting }

abbrev pub opened : ℕ → ℕ → Kind → Identifier → Waiting
opened number owner kind target = record { number = number; owner = owner; kind = kind; target = target }

-- what a closing leaves
pub kept_open : (p : Waiting → Bool) (next : ℕ) (es kept : List (ℕ × Waiting)) (v : OpenNumbers) → seen next (values_of es) ≡ v → kept ≡ filter (λ e. p e.1) es → seen next (values_of kept) ≡ seen v.next (filter p v.waiting)
kept_open p next es kept v is left =
    let P : OpenNumbers → Type 0 = λ v. seen next (values_of kept) ≡ seen v.next (filter p v.waiting) in
    subst P is (ap (seen next) (ap values_of left ∙ values-filter p es))

-- what an opening makes
pub one_more : (next owner : ℕ) (kind : Kind) (target wanted : Identifier) (es new : List (ℕ × Waiting)) (v : OpenNumbers) → seen next (values_of es) ≡ v → target ≡ wanted → new ≡ es ++ (next, opened next owner kind target) ∷ [] → seen (next + 1) (values_of new) ≡ seen (v.next + 1) (v.waiting ++ opened v.next owner kind wanted ∷ [])
one_more next owner kind target wanted es new v is same last =
    let P : OpenNumbers → Type 0 = λ v. seen (next + 1) (values_of new) ≡ seen (v.next + 1) (v.waiting ++ opened v.next owner kind wanted ∷ []) in
    subst P is (ap (seen (next + 1)) (ap values_of last ∙ values-append es next (opened next owner kind target) ∙ ap (λ t. values_of es ++ opened next owner kind t ∷ []) same))
