-- The pairs of a node: how often they have a connection open, after one is stored, closed or lost.
use Rattle.std.proofs.Common.{◌≡◌, ◌≤◌, ℕ, zero, suc, ◌+◌, Bool, true, false, cond, not, ◌&&◌, ◌||◌, List, [], ◌∷◌, ◌++◌, map, refl, sym, ap, ◌∙◌, subst, arith, Ok, Err}
use Rattle.std.specs.List.{list_any, cons_option}
use Rattle.std.specs.Prelude.{find, filter, filter_map, unwrap_or, ◌==◌, nat_le, Option, Some, None, Result}
use Rattle.std.specs.Str.{bytes_eq}
use Rattle.ch_base.specs.declared.address.Address.{Address}
use Rattle.ch_base.specs.declared.memory.Stop.{Stop}
use Rattle.ch_ident.specs.declared.identifier.ProcessId.{ProcessId}
use Rattle.ch_ident.specs.declared.identifier.SendPortId.{SendPortId}
use Rattle.ch_static.specs.declared.target.Target.{Target}
use Rattle.ch_static.specs.declared.target.Target.TheVariants as targets
use Rattle.ch_watch.specs.Same.{same_node}
use Rattle.ch_model.specs.NodeActs.{◌>>=◌, growing}
use Rattle.ch_model.specs.NodeIds.{target_at}
use Rattle.ch_model.specs.NodePairs.{same_process, same_port, same_target, is_pair, new_pair, pair_of, with_pair, next_epoch, conn_of, closed_mark, conn_by, closed_by, in_place, rising, conns_by, broken, lost_as, lost_pair, lost_pairs}
use Rattle.ch_model.specs.NodeState.{Pair, Mark, Unopened, Opened, Broken}
use Rattle.ch_laws_log.proofs.Homes.{node_self}
use Rattle.ch_laws_log.proofs.Keys.{node_is, pair_named}
use Rattle.ch_laws_log.proofs.Stored.{number_same, bytes_same}
use Rattle.ch_laws_connections.specs.Senders.{once, marks, pair_has, node_has, total}

-- ---- targets

process_self : (a : ProcessId) → same_process a a ≡ true
unfolding same_process
process_self a = ap (λ b. b && ((a.unique == a.unique) && (a.counter == a.counter))) (node_self a.node) ∙ ap (λ b. b && (a.counter == a.counter)) (number_same a.unique) ∙ number_same a.counter

port_self : (a : SendPortId) → same_port a a ≡ true
unfolding same_port
port_self a = ap (λ b. b && (a.port == a.port)) (process_self a.process) ∙ number_same a.port

target_self : (a : Target) → same_target a a ≡ true
unfolding same_target
target_self (targets.Process p) = process_self p
target_self (targets.Port p) = port_self p
target_self (targets.Named at name) = ap (λ b. b && bytes_eq name name) (node_self at) ∙ bytes_same name

pair_test : (pair : Pair) → is_pair pair.by pair.to pair ≡ true
unfolding is_pair
pair_test pair = ap (λ b. b && same_target pair.to pair.to) (number_same pair.by) ∙ target_self pair.to

-- ---- sums

pub total_append : {A : Type 0} (f : A → ℕ) (xs ys : List A) → total f (xs ++ ys) ≡ total f xs + total f ys
total_append f [] ys = none (total f ys) where
  none : (n : ℕ) → n ≡ 0 + n
  none n = omega arith
total_append f (x ∷ xs) ys = ap (λ n. f x + n) (total_append f xs ys) ∙ onto (f x) (total f xs) (total f ys) where
  onto : (a b c : ℕ) → a + (b + c) ≡ (a + b) + c
  onto a b c = omega arith

-- ---- pairs that are stored

pub stored_total : (f : Pair → ℕ) → ((by : ℕ) (to : Target) → f (new_pair by to) ≡ 0) → (pair : Pair) (pairs : List Pair) → total f (with_pair pair pairs) + f (pair_of pairs pair.by pair.to) ≡ total f pairs + f pair
unfolding pair_of
stored_total f none pair [] = one (f pair) (f (new_pair pair.by pair.to)) (none pair.by pair.to) where
  one : (a b : ℕ) → b ≡ 0 → (a + 0) + b ≡ 0 + a
  one a b e = omega arith
stored_total f none pair (known ∷ rest) = by_test (is_pair pair.by pair.to known) (stored_total f none pair rest) where
  turned : (a b t : ℕ) → (a + t) + b ≡ (b + t) + a
  turned a b t = omega arith

  onto : (k a b t n : ℕ) → a + b ≡ t + n → (k + a) + b ≡ (k + t) + n
  onto k a b t n e = omega arith

  by_test : (b : Bool) → total f (with_pair pair rest) + f (unwrap_or (find (is_pair pair.by pair.to) rest) (new_pair pair.by pair.to)) ≡ total f rest + f pair
      → total f (cond b (pair ∷ rest) (known ∷ with_pair pair rest)) + f (unwrap_or (cond b (Some known) (find (is_pair pair.by pair.to) rest)) (new_pair pair.by pair.to)) ≡ (f known + total f rest) + f pair
  by_test true e = turned (f pair) (f known) (total f rest)
  by_test false e = onto (f known) (total f (with_pair pair rest)) (f (unwrap_or (find (is_pair pair.by pair.to) rest) (new_pair pair.by pair.to))) (total f rest) (f pair) e

-- the pair stands in its place among the pairs, or is new and says nothing
abbrev pub IsKept : Pair → List Pair → Type 0
IsKept pair pairs = pair_of pairs pair.by pair.to ≡ pair

pub found_kept : (pairs : List Pair) (by : ℕ) (to : Target) → IsKept (pair_of pairs by to) pairs
found_kept pairs by to = let key = pair_named pairs by to in ap (λ (n : ℕ). pair_of pairs n (pair_of pairs by to).to) key.0 ∙ ap (pair_of pairs by) key.1

pub stored_kept : (pair : Pair) (pairs : List Pair) → IsKept pair (with_pair pair pairs)
unfolding pair_of
stored_kept pair pairs = ap (λ (o : Option Pair). unwrap_or o (new_pair pair.by pair.to)) (found pairs) where
  found : (pairs : List Pair) → find (is_pair pair.by pair.to) (with_pair pair pairs) ≡ Some pair
  found [] = ap (λ b. cond b (Some pair) None) (pair_test pair)
  found (known ∷ rest) = by_test (is_pair pair.by pair.to known) refl (found rest) where
    by_test : (x : Bool) → is_pair pair.by pair.to known ≡ x → find (is_pair pair.by pair.to) (with_pair pair rest) ≡ Some pair → find (is_pair pair.by pair.to) (cond x (pair ∷ rest) (known ∷ with_pair pair rest)) ≡ Some pair
    by_test true h later = ap (λ b. cond b (Some pair) (find (is_pair pair.by pair.to) rest)) (pair_test pair)
    by_test false h later = ap (λ b. cond b (Some known) (find (is_pair pair.by pair.to) (with_pair pair rest))) h ∙ later

pub marks_of : ℕ → Pair → ℕ
marks_of conn pair = marks conn pair.mark

pub none_new : (conn : ℕ) (peer : Address) (by : ℕ) (to : Target) → pair_has conn peer (new_pair by to) ≡ 0
none_new conn peer by to = by_test (same_node (target_at to) peer) where
  by_test : (b : Bool) → cond {A = ℕ} b 0 0 ≡ 0
  by_test true = refl
  by_test false = refl

-- ---- a pair has no more than its mark

pub total_below : {A : Type 0} (f g : A → ℕ) → ((x : A) → f x ≤ g x) → (xs : List A) → total f xs ≤ total g xs
total_below f g l [] = same 0 where
  same : (n : ℕ) → n ≤ n
  same n = omega arith
total_below f g l (x ∷ xs) = both (f x) (g x) (total f xs) (total g xs) (l x) (total_below f g l xs) where
  both : (a b c d : ℕ) → a ≤ b → c ≤ d → a + c ≤ b + d
  both a b c d l m = omega arith

pub cond_below : (b : Bool) (n : ℕ) → cond b n 0 ≤ n
cond_below true n = same n where
  same : (n : ℕ) → n ≤ n
  same n = omega arith
cond_below false n = none n where
  none : (n : ℕ) → 0 ≤ n
  none n = omega arith

-- ---- a process's connections are closed

-- how often a pair of the process has the connection open
abbrev pub of_by : ℕ → ℕ → Pair → ℕ
of_by by conn pair = cond (pair.by == by) (marks conn pair.mark) 0

pub closed_totals : (by conn : ℕ) (pairs : List Pair) → total (λ pair. marks conn pair.mark) (map (closed_by by) pairs) + total (of_by by conn) pairs ≡ total (λ pair. marks conn pair.mark) pairs
closed_totals by conn [] = refl
closed_totals by conn (pair ∷ rest) = by_test (pair.by == by) pair.mark (closed_totals by conn rest) where
  out : (a b n m : ℕ) → a + b ≡ n → (0 + a) + (m + b) ≡ m + n
  out a b n m e = omega arith

  kept : (a b n m : ℕ) → a + b ≡ n → (m + a) + (0 + b) ≡ m + n
  kept a b n m e = omega arith

  A : ℕ
  A = total (λ pair. marks conn pair.mark) (map (closed_by by) rest)

  B : ℕ
  B = total (of_by by conn) rest

  N : ℕ
  N = total (λ pair. marks conn pair.mark) rest

  by_test : (b : Bool) (mark : Mark) → A + B ≡ N → (marks conn (cond b (record pair { mark = closed_mark mark }) (record pair { mark = mark })).mark + A) + (cond b (marks conn mark) 0 + B) ≡ marks conn mark + N
  by_test true Unopened e = out A B N 0 e
  by_test true (Opened other) e = out A B N (once (other == conn)) e
  by_test true Broken e = out A B N 0 e
  by_test false mark e = kept A B N (marks conn mark) e

pub closed_has : (by conn : ℕ) (peer : Address) (pairs : List Pair) → total (of_by by conn) pairs ≡ 0 → total (pair_has conn peer) (map (closed_by by) pairs) ≡ total (pair_has conn peer) pairs
closed_has by conn peer [] e = refl
closed_has by conn peer (pair ∷ rest) e = by_test (pair.by == by) pair.mark e (closed_has by conn peer rest) where
  first : (a b : ℕ) → a + b ≡ 0 → a ≡ 0
  first a b e = omega arith

  later : (a b : ℕ) → a + b ≡ 0 → b ≡ 0
  later a b e = omega arith

  S : Bool
  S = same_node (target_at pair.to) peer

  none : (b : Bool) (n : ℕ) → n ≡ 0 → cond b 0 0 ≡ cond b n 0
  none true n e = sym e
  none false n e = refl

  T : ℕ
  T = total (pair_has conn peer) (map (closed_by by) rest)

  by_test : (b : Bool) (mark : Mark) → cond b (marks conn mark) 0 + total (of_by by conn) rest ≡ 0 → (total (of_by by conn) rest ≡ 0 → T ≡ total (pair_has conn peer) rest)
      → pair_has conn peer (cond b (record pair { mark = closed_mark mark }) (record pair { mark = mark })) + T ≡ cond S (marks conn mark) 0 + total (pair_has conn peer) rest
  by_test true Unopened e more = ap (λ n. cond S 0 0 + n) (more (later 0 (total (of_by by conn) rest) e))
  by_test true (Opened other) e more = ap (λ n. n + T) (none S (once (other == conn)) (first (once (other == conn)) (total (of_by by conn) rest) e)) ∙ ap (λ n. cond S (once (other == conn)) 0 + n) (more (later (once (other == conn)) (total (of_by by conn) rest) e))
  by_test true Broken e more = ap (λ n. cond S 0 0 + n) (more (later 0 (total (of_by by conn) rest) e))
  by_test false mark e more = ap (λ n. cond S (marks conn mark) 0 + n) (more (later 0 (total (of_by by conn) rest) e))

-- a number that is among those that are put in place
in_place_has : (conn n : ℕ) (ns : List ℕ) → list_any (λ m. m == conn) (in_place n ns) ≡ ((n == conn) || list_any (λ m. m == conn) ns)
in_place_has conn n [] = refl
in_place_has conn n (m ∷ rest) = by_test (nat_le n m) (in_place_has conn n rest) where
  turned : (a b c : Bool) → (a || (b || c)) ≡ (b || (a || c))
  turned true true c = refl
  turned true false c = refl
  turned false b c = refl

  by_test : (b : Bool) → list_any (λ m. m == conn) (in_place n rest) ≡ ((n == conn) || list_any (λ m. m == conn) rest) → list_any (λ m. m == conn) (cond b (n ∷ m ∷ rest) (m ∷ in_place n rest)) ≡ ((n == conn) || ((m == conn) || list_any (λ m. m == conn) rest))
  by_test true e = refl
  by_test false e = ap (λ b. (m == conn) || b) e ∙ turned (m == conn) (n == conn) (list_any (λ m. m == conn) rest)

rising_has : (conn : ℕ) (ns : List ℕ) → list_any (λ m. m == conn) (rising ns) ≡ list_any (λ m. m == conn) ns
rising_has conn [] = refl
rising_has conn (n ∷ rest) = in_place_has conn n (rising rest) ∙ ap (λ b. (n == conn) || b) (rising_has conn rest)

-- a connection is closed with a process exactly where a pair of the process has it open
abbrev pub IsSome : Bool → ℕ → Type 0
IsSome true n = 1 ≤ n
IsSome false n = n ≡ 0

among : (by conn : ℕ) (pairs : List Pair) → IsSome (list_any (λ m. m == conn) (filter_map (conn_by by) pairs)) (total (of_by by conn) pairs)
among by conn [] = refl
among by conn (pair ∷ rest) = by_test (pair.by == by) pair.mark (among by conn rest) where
  L : Bool
  L = list_any (λ m. m == conn) (filter_map (conn_by by) rest)

  T : ℕ
  T = total (of_by by conn) rest

  none : (b : Bool) → IsSome b T → IsSome b (0 + T)
  none true l = more T l where
    more : (n : ℕ) → 1 ≤ n → 1 ≤ 0 + n
    more n l = omega arith
  none false e = more T e where
    more : (n : ℕ) → n ≡ 0 → 0 + n ≡ 0
    more n l = omega arith

  one : (d : Bool) → IsSome L T → IsSome (d || L) (once d + T)
  one true i = more T where
    more : (n : ℕ) → 1 ≤ 1 + n
    more n = omega arith
  one false i = none L i

  by_test : (b : Bool) (mark : Mark) → IsSome L T → IsSome (list_any (λ m. m == conn) (cons_option (cond b (conn_of mark) None) (filter_map (conn_by by) rest))) (cond b (marks conn mark) 0 + T)
  by_test true Unopened i = none L i
  by_test true (Opened other) i = one (other == conn) i
  by_test true Broken i = none L i
  by_test false mark i = none L i

pub closed_among : (by conn : ℕ) (pairs : List Pair) → IsSome (list_any (λ m. m == conn) (conns_by pairs by)) (total (of_by by conn) pairs)
unfolding conns_by
closed_among by conn pairs = subst (λ b. IsSome b (total (of_by by conn) pairs)) (sym (rising_has conn (filter_map (conn_by by) pairs))) (among by conn pairs)

-- how often a number is closed with a process
in_place_occurs : (c n : ℕ) (ns : List ℕ) → total (λ m. once (m == c)) (in_place n ns) ≡ once (n == c) + total (λ m. once (m == c)) ns
in_place_occurs c n [] = refl
in_place_occurs c n (m ∷ rest) = by_test (nat_le n m) (in_place_occurs c n rest) where
  turned : (a b t : ℕ) → b + (a + t) ≡ a + (b + t)
  turned a b t = omega arith

  by_test : (b : Bool) → total (λ m. once (m == c)) (in_place n rest) ≡ once (n == c) + total (λ m. once (m == c)) rest → total (λ m. once (m == c)) (cond b (n ∷ m ∷ rest) (m ∷ in_place n rest)) ≡ once (n == c) + (once (m == c) + total (λ m. once (m == c)) rest)
  by_test true e = refl
  by_test false e = ap (λ k. once (m == c) + k) e ∙ turned (once (n == c)) (once (m == c)) (total (λ m. once (m == c)) rest)

rising_occurs : (c : ℕ) (ns : List ℕ) → total (λ m. once (m == c)) (rising ns) ≡ total (λ m. once (m == c)) ns
rising_occurs c [] = refl
rising_occurs c (n ∷ rest) = in_place_occurs c n (rising rest) ∙ ap (λ k. once (n == c) + k) (rising_occurs c rest)

all_occur : (by c : ℕ) (pairs : List Pair) → total (λ m. once (m == c)) (filter_map (conn_by by) pairs) ≡ total (of_by by c) pairs
all_occur by c [] = refl
all_occur by c (pair ∷ rest) = by_test (pair.by == by) pair.mark (all_occur by c rest) where
  none : (a b : ℕ) → a ≡ b → a ≡ 0 + b
  none a b e = omega arith

  by_test : (b : Bool) (mark : Mark) → total (λ m. once (m == c)) (filter_map (conn_by by) rest) ≡ total (of_by by c) rest → total (λ m. once (m == c)) (cons_option (cond b (conn_of mark) None) (filter_map (conn_by by) rest)) ≡ cond b (marks c mark) 0 + total (of_by by c) rest
  by_test true Unopened e = none (total (λ m. once (m == c)) (filter_map (conn_by by) rest)) (total (of_by by c) rest) e
  by_test true (Opened other) e = ap (λ k. once (other == c) + k) e
  by_test true Broken e = none (total (λ m. once (m == c)) (filter_map (conn_by by) rest)) (total (of_by by c) rest) e
  by_test false mark e = none (total (λ m. once (m == c)) (filter_map (conn_by by) rest)) (total (of_by by c) rest) e

pub conns_occur : (by c : ℕ) (pairs : List Pair) → total (λ m. once (m == c)) (conns_by pairs by) ≡ total (of_by by c) pairs
unfolding conns_by
conns_occur by c pairs = rising_occurs c (filter_map (conn_by by) pairs) ∙ all_occur by c pairs

-- a connection of the process is open to some peer
pub some_peer : (by c : ℕ) (pairs : List Pair) → 1 ≤ total (of_by by c) pairs → (p : Address) × (1 ≤ total (pair_has c p) pairs)
some_peer by c [] l = absurd (never l) where
  never : 1 ≤ 0 → ⊥
  never l = omega arith
some_peer by c (pair ∷ rest) l = by_first (marks c pair.mark) refl (some_peer by c rest) where
  here : same_node (target_at pair.to) (target_at pair.to) ≡ true
  here = node_self (target_at pair.to)

  one : (k n : ℕ) → 1 ≤ suc k + n
  one k n = omega arith

  more : (a b : ℕ) → 1 ≤ b → 1 ≤ a + b
  more a b l = omega arith

  none : (B : Bool) (m n : ℕ) → m ≡ 0 → 1 ≤ cond B m 0 + n → 1 ≤ n
  none true m n e l = omega arith
  none false m n e l = omega arith

  by_first : (m : ℕ) → marks c pair.mark ≡ m → (1 ≤ total (of_by by c) rest → (p : Address) × (1 ≤ total (pair_has c p) rest)) → (p : Address) × (1 ≤ pair_has c p pair + total (pair_has c p) rest)
  by_first (suc k) e ih = (target_at pair.to, subst (λ (n : ℕ). 1 ≤ n + total (pair_has c (target_at pair.to)) rest) (sym (ap (λ b. cond b (marks c pair.mark) 0) here ∙ e)) (one k (total (pair_has c (target_at pair.to)) rest)))
  by_first zero e ih = let x = ih (none (pair.by == by) (marks c pair.mark) (total (of_by by c) rest) e l) in (x.0, more (pair_has c x.0 pair) (total (pair_has c x.0) rest) x.1)

-- a pair that stands in its place has its connection open
pub kept_has : (pair : Pair) (pairs : List Pair) (c : ℕ) → IsKept pair pairs → pair.mark ≡ Opened c → 1 ≤ total (pair_has c (target_at pair.to)) pairs
kept_has pair pairs c is e = enough (total f (with_pair bare pairs)) (f pair) (total f pairs) (f bare) (subst (λ (q : Pair). total f (with_pair bare pairs) + f q ≡ total f pairs + f bare) is (stored_total f (none_new c (target_at pair.to)) bare pairs))
    (ap (λ b. cond b (marks c pair.mark) 0) (node_self (target_at pair.to)) ∙ ap (marks c) e ∙ ap once (number_same c)) (no_mark (same_node (target_at pair.to) (target_at pair.to))) where
      bare : Pair
      bare = record pair { mark = Unopened }

      f : Pair → ℕ
      f = pair_has c (target_at pair.to)

      no_mark : (S : Bool) → cond {A = ℕ} S 0 0 ≡ 0
      no_mark true = refl
      no_mark false = refl

      enough : (t a u b : ℕ) → t + a ≡ u + b → a ≡ 1 → b ≡ 0 → 1 ≤ u
      enough t a u b e f g = omega arith

-- ---- a link fails

-- what a pair has after its link with a peer failed: nothing, where its target is there
pub record IsLost (peer : Address) (pairs lost : List Pair) : Type 0 where
  pub fewer : (conn : ℕ) → total (λ pair. marks conn pair.mark) lost ≤ total (λ pair. marks conn pair.mark) pairs
  pub has : (conn : ℕ) (other : Address) → total (pair_has conn other) lost ≡ cond (same_node peer other) 0 (total (pair_has conn other) pairs)

abbrev pub AllLost : Address → List Pair → Result (List Pair) Stop → Type 0
AllLost peer pairs (Ok lost) = IsLost peer pairs lost
AllLost peer pairs (Err stop) = Unit {0}

-- one pair after it
pub record OneLost (peer : Address) (pair lost : Pair) : Type 0 where
  pub fewer : (conn : ℕ) → marks conn lost.mark ≤ marks conn pair.mark
  pub has : (conn : ℕ) (other : Address) → pair_has conn other lost ≡ cond (same_node peer other) 0 (pair_has conn other pair)

abbrev OneAllLost : Address → Pair → Result Pair Stop → Type 0
OneAllLost peer pair (Ok lost) = OneLost peer pair lost
OneAllLost peer pair (Err stop) = Unit {0}

none_below : (n : ℕ) → 0 ≤ n
none_below n = omega arith

self_below : (n : ℕ) → n ≤ n
self_below n = omega arith

-- a pair to another node, or without a connection, stays as it is
stays_lost : (peer : Address) (pair : Pair) → ((conn : ℕ) (other : Address) → same_node peer other ≡ true → pair_has conn other pair ≡ 0) → OneLost peer pair pair
stays_lost peer pair none = record { fewer = λ conn. self_below (marks conn pair.mark); has = λ conn other. by_test conn other (same_node peer other) refl } where
  by_test : (conn : ℕ) (other : Address) (b : Bool) → same_node peer other ≡ b → pair_has conn other pair ≡ cond b 0 (pair_has conn other pair)
  by_test conn other true h = none conn other h
  by_test conn other false h = refl

no_has : (S : Bool) → cond {A = ℕ} S 0 0 ≡ 0
no_has true = refl
no_has false = refl

-- one that is without a connection after it
without : (peer : Address) (pair lost : Pair) → same_node (target_at pair.to) peer ≡ true → ((conn : ℕ) → marks conn lost.mark ≡ 0) → OneLost peer pair lost
without peer pair lost at none = record { fewer = λ conn. subst (λ (n : ℕ). n ≤ marks conn pair.mark) (sym (none conn)) (none_below (marks conn pair.mark)); has = λ conn other. ap (λ (n : ℕ). cond (same_node (target_at lost.to) other) n 0) (none conn) ∙ no_has (same_node (target_at lost.to) other) ∙ by_test conn other (same_node peer other) refl } where
  by_test : (conn : ℕ) (other : Address) (b : Bool) → same_node peer other ≡ b → 0 ≡ cond b 0 (pair_has conn other pair)
  by_test conn other true h = refl
  by_test conn other false h = sym (ap (λ b. cond b (marks conn pair.mark) 0) (ap (λ (a : Address). same_node a other) (node_is (target_at pair.to) peer at) ∙ h))

next_without : (peer : Address) (pair : Pair) → same_node (target_at pair.to) peer ≡ true → OneAllLost peer pair (next_epoch pair)
unfolding next_epoch
next_without peer pair at = by_epoch (growing pair.epoch) where
  by_epoch : (r : Result ℕ Stop) → OneAllLost peer pair (r >>= (λ epoch. Ok (record pair { epoch = epoch + 1; index = 0; mark = Unopened })))
  by_epoch (Ok epoch) = without peer pair (record pair { epoch = epoch + 1; index = 0; mark = Unopened }) at (λ conn. refl)
  by_epoch (Err stop) = tt

broken_one : (peer : Address) (pair : Pair) (to : Target) → same_node (target_at pair.to) peer ≡ true → OneAllLost peer pair (broken pair to)
broken_one peer pair (targets.Named at name) h = next_without peer pair h
broken_one peer pair (targets.Process p) h = without peer pair (record pair { mark = Broken }) h (λ conn. refl)
broken_one peer pair (targets.Port p) h = without peer pair (record pair { mark = Broken }) h (λ conn. refl)

lost_mark : (peer : Address) (pair : Pair) (mark : Mark) → pair.mark ≡ mark → same_node (target_at pair.to) peer ≡ true → OneAllLost peer pair (lost_as pair mark)
lost_mark peer pair (Opened conn) e h = broken_one peer pair pair.to h
lost_mark peer pair Unopened e h = stays_lost peer pair (λ conn other g. ap (λ (m : Mark). cond (same_node (target_at pair.to) other) (marks conn m) 0) e ∙ no_has (same_node (target_at pair.to) other))
lost_mark peer pair Broken e h = stays_lost peer pair (λ conn other g. ap (λ (m : Mark). cond (same_node (target_at pair.to) other) (marks conn m) 0) e ∙ no_has (same_node (target_at pair.to) other))

one_lost : (peer : Address) (pair : Pair) → OneAllLost peer pair (lost_pair peer pair)
unfolding lost_pair
one_lost peer pair = by_test (same_node (target_at pair.to) peer) refl where
  by_test : (b : Bool) → same_node (target_at pair.to) peer ≡ b → OneAllLost peer pair (cond b (lost_as pair pair.mark) (Ok pair))
  by_test true h = lost_mark peer pair pair.mark refl h
  by_test false h = stays_lost peer pair (λ conn other g. ap (λ b. cond b (marks conn pair.mark) 0) (ap (same_node (target_at pair.to)) (sym (node_is peer other g)) ∙ h))

pub all_lost : (peer : Address) (pairs : List Pair) → AllLost peer pairs (lost_pairs peer pairs)
all_lost peer [] = record { fewer = λ conn. self_below 0; has = λ conn other. sym (no_has (same_node peer other)) }
all_lost peer (pair ∷ others) = by_first (lost_pair peer pair) (one_lost peer pair) (lost_pairs peer others) (all_lost peer others) where
  both : (a b c d : ℕ) → a ≤ b → c ≤ d → a + c ≤ b + d
  both a b c d l m = omega arith

  sum : (B : Bool) (a b : ℕ) → cond B 0 a + cond B 0 b ≡ cond B 0 (a + b)
  sum true a b = refl
  sum false a b = refl

  by_rest : (lost : Pair) → OneLost peer pair lost → (rest : Result (List Pair) Stop) → AllLost peer others rest → AllLost peer (pair ∷ others) (rest >>= (λ rest. Ok (lost ∷ rest)))
  by_rest lost o (Ok rest) a = record {
    fewer = λ conn. both (marks conn lost.mark) (marks conn pair.mark) (total (λ pair. marks conn pair.mark) rest) (total (λ pair. marks conn pair.mark) others) (o.fewer conn) (a.fewer conn);
    has = λ conn other. ap (λ n. n + total (pair_has conn other) rest) (o.has conn other) ∙ ap (λ n. cond (same_node peer other) 0 (pair_has conn other pair) + n) (a.has conn other) ∙ sum (same_node peer other) (pair_has conn other pair) (total (pair_has conn other) others);
  }
  by_rest lost o (Err stop) a = tt

  by_first : (first : Result Pair Stop) → OneAllLost peer pair first → (rest : Result (List Pair) Stop) → AllLost peer others rest → AllLost peer (pair ∷ others) (first >>= (λ lost. rest >>= (λ rest. Ok (lost ∷ rest))))
  by_first (Ok lost) o rest a = by_rest lost o rest a
  by_first (Err stop) o rest a = tt

-- ---- the node's own connections

pub gone_has : (peer : Address) (conn : ℕ) (other : Address) (known : List (Address × ℕ)) → total (node_has conn other) (filter (λ k. not (same_node k.0 peer)) known) ≡ cond (same_node peer other) 0 (total (node_has conn other) known)
gone_has peer conn other [] = sym (no_has (same_node peer other))
gone_has peer conn other (k ∷ rest) = by_test (same_node k.0 peer) refl (same_node peer other) refl (gone_has peer conn other rest) where
  F : List (Address × ℕ)
  F = filter (λ k. not (same_node k.0 peer)) rest

  none : (n : ℕ) → n ≡ 0 + n
  none n = omega arith

  by_test : (b : Bool) → same_node k.0 peer ≡ b → (g : Bool) → same_node peer other ≡ g → total (node_has conn other) F ≡ cond g 0 (total (node_has conn other) rest)
      → total (node_has conn other) (cond (not b) (k ∷ F) F) ≡ cond g 0 (cond (same_node k.0 other) (once (k.1 == conn)) 0 + total (node_has conn other) rest)
  by_test true h true f e = e
  by_test true h false f e = e ∙ none (total (node_has conn other) rest) ∙ ap (λ b. cond b (once (k.1 == conn)) 0 + total (node_has conn other) rest) (sym (ap (λ (a : Address). same_node a other) (node_is k.0 peer h) ∙ f))
  by_test false h true f e = ap (λ b. cond b (once (k.1 == conn)) 0 + total (node_has conn other) F) (ap (same_node k.0) (sym (node_is peer other f)) ∙ h) ∙ sym (none (total (node_has conn other) F)) ∙ e
  by_test false h false f e = ap (λ n. cond (same_node k.0 other) (once (k.1 == conn)) 0 + n) e

pub gone_fewer : (peer : Address) (conn : ℕ) (known : List (Address × ℕ)) → total (λ k. once (k.1 == conn)) (filter (λ k. not (same_node k.0 peer)) known) ≤ total (λ k. once (k.1 == conn)) known
gone_fewer peer conn [] = self_below 0
gone_fewer peer conn (k ∷ rest) = by_test (same_node k.0 peer) (gone_fewer peer conn rest) where
  F : List (Address × ℕ)
  F = filter (λ k. not (same_node k.0 peer)) rest

  more : (k a b : ℕ) → a ≤ b → a ≤ k + b
  more k a b l = omega arith

  both : (k a b : ℕ) → a ≤ b → k + a ≤ k + b
  both k a b l = omega arith

  by_test : (b : Bool) → total (λ k. once (k.1 == conn)) F ≤ total (λ k. once (k.1 == conn)) rest → total (λ k. once (k.1 == conn)) (cond (not b) (k ∷ F) F) ≤ once (k.1 == conn) + total (λ k. once (k.1 == conn)) rest
  by_test true l = more (once (k.1 == conn)) (total (λ k. once (k.1 == conn)) F) (total (λ k. once (k.1 == conn)) rest) l
  by_test false l = both (once (k.1 == conn)) (total (λ k. once (k.1 == conn)) F) (total (λ k. once (k.1 == conn)) rest) l

-- a peer keeps its own connection where another's is gone
pub gone_known : (peer other : Address) (known : List (Address × ℕ)) → same_node peer other ≡ false → list_any (λ k. same_node k.0 other) (filter (λ k. not (same_node k.0 peer)) known) ≡ list_any (λ k. same_node k.0 other) known
gone_known peer other [] f = refl
gone_known peer other (k ∷ rest) f = by_test (same_node k.0 peer) refl (gone_known peer other rest f) where
  F : List (Address × ℕ)
  F = filter (λ k. not (same_node k.0 peer)) rest

  by_test : (b : Bool) → same_node k.0 peer ≡ b → list_any (λ k. same_node k.0 other) F ≡ list_any (λ k. same_node k.0 other) rest → list_any (λ k. same_node k.0 other) (cond (not b) (k ∷ F) F) ≡ (same_node k.0 other || list_any (λ k. same_node k.0 other) rest)
  by_test true h e = e ∙ ap (λ b. b || list_any (λ k. same_node k.0 other) rest) (sym (ap (λ (a : Address). same_node a other) (node_is k.0 peer h) ∙ f))
  by_test false h e = ap (λ b. same_node k.0 other || b) e
