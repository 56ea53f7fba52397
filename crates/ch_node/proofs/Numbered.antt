-- Connections whose numbers rise: where one stands, and what keeps them rising.
use Rattle.std.proofs.Common.{◌≡◌, ℕ, zero, suc, ◌+◌, ◌<◌, ◌≤◌, ◌==◌, Bool, true, false, cond, not, List, [], ◌∷◌, ◌++◌, map, filter, length, get_or, Some, None, subst, refl, sym, ap, ◌∙◌, arith}
use Rattle.std.specs.Prelude.{nat_lt}
use Rattle.std.specs.List.{position, position_or_len}
use Rattle.std.specs.List.Sorted.{IsPartitionedBy}
use Rattle.std.proofs.lemmas.Bool.Decides.{nat_tests}
use Rattle.ch_model.specs.NodeState.{Arrived}
use Rattle.ch_node.specs.Incoming.{Rises}

-- it is the connection of that number
abbrev pub has : ℕ → Arrived → Bool
has conn arrived = arrived.conn == conn

at_least : (low next : ℕ) (rows : List Arrived) → Rises low rows next → (j : ℕ) (d : Arrived) → j < length rows → low ≤ (get_or rows j d).conn
at_least low next [] r j d h = absurd (omega (arith, h))
at_least low next (x ∷ xs) r zero d h = r.0
at_least low next (x ∷ xs) r (suc j) d h = let rest : x.conn + 1 ≤ (get_or xs j d).conn = at_least (x.conn + 1) next xs r.1 j d (omega (arith, h)) in omega (arith, rest, r.0)

ordered : (low next : ℕ) (rows : List Arrived) → Rises low rows next → (i j : ℕ) (d : Arrived) → i ≤ j → j < length rows → (get_or rows i d).conn ≤ (get_or rows j d).conn
ordered low next [] r i j d le h = absurd (omega (arith, h))
ordered low next (x ∷ xs) r zero zero d le h = omega arith
ordered low next (x ∷ xs) r zero (suc j) d le h = let rest : x.conn + 1 ≤ (get_or xs j d).conn = at_least (x.conn + 1) next xs r.1 j d (omega (arith, h)) in omega (arith, rest)
ordered low next (x ∷ xs) r (suc i) zero d le h = absurd (omega (arith, le))
ordered low next (x ∷ xs) r (suc i) (suc j) d le h = ordered (x.conn + 1) next xs r.1 i j d (omega (arith, le)) (omega (arith, h))

below : (a b c : ℕ) → a ≤ b → nat_lt b c ≡ true → nat_lt a c ≡ true
below a b c le h = grind (arith, nat_tests)

-- the smaller numbers stand first
pub parted : (conn low next : ℕ) (rows : List Arrived) → Rises low rows next → IsPartitionedBy (λ arrived. nat_lt arrived.conn conn) rows
parted conn low next rows r = λ i j d le h t. below (get_or rows i d).conn (get_or rows j d).conn conn (ordered low next rows r i j d le h) t

equal : (a b : ℕ) → a ≡ b → (a == b) ≡ true
equal a b h = grind (arith, nat_tests)

less : (a b : ℕ) → a < b → (a == b) ≡ false
less a b h = grind (arith, nat_tests)

more : (a b : ℕ) → b < a → (a == b) ≡ false
more a b h = grind (arith, nat_tests)

one : (n : ℕ) → 1 + n ≡ suc n
one n = omega arith

within_is : (n m : ℕ) → n < m → nat_lt n m ≡ true
within_is n m h = grind (arith, nat_tests)

last_is : (n : ℕ) → nat_lt n n ≡ false
last_is n = grind (arith, nat_tests)

at_place : (conn : ℕ) (rows : List Arrived) (i : ℕ) (d : Arrived) → ((k : ℕ) (e : Arrived) → k < i → (get_or rows k e).conn < conn) → i < length rows → (get_or rows i d).conn ≡ conn → position_or_len (has conn) rows ≡ i
at_place conn [] i d before h is = absurd (omega (arith, h))
at_place conn (x ∷ xs) zero d before h is = ap (λ b. cond (not b) (1 + position_or_len (has conn) xs) 0) (equal x.conn conn is)
at_place conn (x ∷ xs) (suc i) d before h is =
    let other : (x.conn == conn) ≡ false = less x.conn conn (before 0 x (omega arith)) in
    let rest : position_or_len (has conn) xs ≡ i = at_place conn xs i d (λ k e l. before (suc k) e (omega (arith, l))) (omega (arith, h)) is in
    (λ j. cond (not (other j)) (1 + rest j) 0) ∙ one i

-- the place of a connection behind all smaller numbers
pub stands : (conn : ℕ) (rows : List Arrived) (i : ℕ) (d : Arrived) → ((k : ℕ) (e : Arrived) → k < i → (get_or rows k e).conn < conn) → i < length rows → (get_or rows i d).conn ≡ conn → Some i ≡ position (has conn) rows
stands conn rows i d before h is = sym ((λ j. cond (nat_lt (at_place conn rows i d before h is j) (length rows)) (Some (at_place conn rows i d before h is j)) None) ∙ ap (λ b. cond b (Some i) None) (within_is i (length rows) h))

past_all : (low next conn : ℕ) (rows : List Arrived) (i : ℕ) → Rises low rows next → ((k : ℕ) (e : Arrived) → k < i → (get_or rows k e).conn < conn) → ((e : Arrived) → i < length rows → conn < (get_or rows i e).conn) → position_or_len (has conn) rows ≡ length rows
past_all low next conn [] i r before after = refl
past_all low next conn (x ∷ xs) zero r before after =
    let far : conn < x.conn = after x (omega arith) in
    let other : (x.conn == conn) ≡ false = more x.conn conn far in
    let rest : position_or_len (has conn) xs ≡ length xs = past_all (x.conn + 1) next conn xs zero r.1 (λ k e l. absurd (omega (arith, l))) (λ e h. let low : x.conn + 1 ≤ (get_or xs 0 e).conn = at_least (x.conn + 1) next xs r.1 0 e h in omega (arith, low, far)) in
    (λ j. cond (not (other j)) (1 + rest j) 0) ∙ one (length xs)
past_all low next conn (x ∷ xs) (suc i) r before after =
    let other : (x.conn == conn) ≡ false = less x.conn conn (before 0 x (omega arith)) in
    let rest : position_or_len (has conn) xs ≡ length xs = past_all (x.conn + 1) next conn xs i r.1 (λ k e l. before (suc k) e (omega (arith, l))) (λ e h. after e (omega (arith, h))) in
    (λ j. cond (not (other j)) (1 + rest j) 0) ∙ one (length xs)

-- a number between two isn't there
pub stands_not : (next conn : ℕ) (rows : List Arrived) (i : ℕ) → Rises 0 rows next → ((k : ℕ) (e : Arrived) → k < i → (get_or rows k e).conn < conn) → ((e : Arrived) → i < length rows → conn < (get_or rows i e).conn) → None ≡ position (has conn) rows
stands_not next conn rows i r before after = sym ((λ j. cond (nat_lt (past_all 0 next conn rows i r before after j) (length rows)) (Some (past_all 0 next conn rows i r before after j)) None) ∙ ap (λ b. cond b (Some (length rows)) None) (last_is (length rows)))

-- ---- what keeps them rising

pub appended : (low next : ℕ) (rows : List Arrived) (x : Arrived) → Rises low rows next → next ≤ x.conn → Rises low (rows ++ x ∷ []) (x.conn + 1)
appended low next [] x r h = (omega (arith, r, h), omega arith)
appended low next (y ∷ ys) x r h = (r.0, appended (y.conn + 1) next ys x r.1 h)

lower : (low at next : ℕ) (rows : List Arrived) → low ≤ at → Rises at rows next → Rises low rows next
lower low at next [] h r = omega (arith, h, r)
lower low at next (x ∷ xs) h r = (omega (arith, h, r.0), r.1)

pub filtered : (p : Arrived → Bool) (low next : ℕ) (rows : List Arrived) → Rises low rows next → Rises low (filter p rows) next
filtered p low next [] r = r
filtered p low next (x ∷ xs) r = at_front (p x) (filtered p (x.conn + 1) next xs r.1)
  where
    at_front : (b : Bool) → Rises (x.conn + 1) (filter p xs) next → Rises low (cond b (x ∷ filter p xs) (filter p xs)) next
    at_front true rest = (r.0, rest)
    at_front false rest = lower low (x.conn + 1) next (filter p xs) (omega (arith, r.0)) rest

-- the same numbers rise the same
pub same_numbers : (low next : ℕ) (rows others : List Arrived) → map (λ arrived. arrived.conn) others ≡ map (λ arrived. arrived.conn) rows → Rises low rows next → Rises low others next
same_numbers low next [] [] e r = r
same_numbers low next [] (b ∷ others) e r = absurd cc
same_numbers low next (a ∷ rows) [] e r = absurd cc
same_numbers low next (a ∷ rows) (b ∷ others) e r =
    let first : b.conn ≡ a.conn = cc in
    let rest : map (λ arrived. arrived.conn) others ≡ map (λ arrived. arrived.conn) rows = cc in
    (omega (arith, first, r.0), subst (λ n. Rises (n + 1) others next) (sym first) (same_numbers (a.conn + 1) next rows others rest r.1))
