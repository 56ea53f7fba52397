-- Of each peer the opening of one connection at most isn't read yet, whatever a node hears.
use Rattle.std.proofs.Common.{◌≡◌, ◌≤◌, ℕ, ◌+◌, Bool, true, false, cond, not, ◌&&◌, List, [], ◌∷◌, ◌++◌, map, filter, refl, sym, ap, ◌∙◌, subst, arith, ◌==◌}
use Rattle.std.proofs.lemmas.Bool.{and_parts}
use Rattle.std.specs.Prelude.{find, Some, None}
use Rattle.ch_base.specs.declared.address.Address.{Address}
use Rattle.ch_watch.specs.Same.{same_node}
use Rattle.ch_model.specs.NodeArrivals.{rebound}
use Rattle.ch_model.specs.NodeState.{Bound, Unread, Arrived}
use Rattle.ch_laws_log.proofs.Homes.{node_self}
use Rattle.ch_laws_log.proofs.Keys.{node_is}
use Rattle.ch_laws_plain.specs.Plain.{is_unread, is_unread_of, unread_from}

-- ---- none, and how many

-- where none is found there are none
none_counted : (peer : Address) (xs : List Arrived) → find (is_unread_of peer) xs ≡ None → unread_from peer xs ≡ 0
none_counted peer [] none = refl
none_counted peer (x ∷ xs) none = by_test (is_unread_of peer x) none (none_counted peer xs) where
  zero_more : (n : ℕ) → n ≡ 0 → 0 + n ≡ 0
  zero_more n e = omega arith

  by_test : (b : Bool) → cond b (Some x) (find (is_unread_of peer) xs) ≡ None → (find (is_unread_of peer) xs ≡ None → unread_from peer xs ≡ 0) → cond b 1 0 + unread_from peer xs ≡ 0
  by_test true none more = absurd cc
  by_test false none more = zero_more (unread_from peer xs) (more none)

counted_last : (peer : Address) (xs : List Arrived) (x : Arrived) → unread_from peer (xs ++ x ∷ []) ≡ unread_from peer xs + cond (is_unread_of peer x) 1 0
counted_last peer [] x = last (cond (is_unread_of peer x) 1 0) where
  last : (n : ℕ) → n + 0 ≡ 0 + n
  last n = omega arith
counted_last peer (y ∷ xs) x = ap (λ (n : ℕ). cond (is_unread_of peer y) 1 0 + n) (counted_last peer xs x) ∙ turned (cond (is_unread_of peer y) 1 0) (unread_from peer xs) (cond (is_unread_of peer x) 1 0) where
  turned : (a b c : ℕ) → a + (b + c) ≡ (a + b) + c
  turned a b c = omega arith

-- ---- a connection comes

-- it comes to where none of its peer is unread
pub alone_as_it_comes : (number : ℕ) (peer other : Address) (xs : List Arrived) → find (is_unread_of peer) xs ≡ None → unread_from other xs ≤ 1 → unread_from other (xs ++ record { conn = number; peer = peer; bound = Unread } ∷ []) ≤ 1
alone_as_it_comes number peer other xs none one = subst (λ (n : ℕ). n ≤ 1) (sym (counted_last other xs (record { conn = number; peer = peer; bound = Unread }))) (by_test (same_node peer other) refl) where
  first : (n : ℕ) → n ≡ 0 → n + 1 ≤ 1
  first n e = omega arith

  still : (n : ℕ) → n ≤ 1 → n + 0 ≤ 1
  still n l = omega arith

  by_test : (b : Bool) → same_node peer other ≡ b → unread_from other xs + cond b 1 0 ≤ 1
  by_test true h = first (unread_from other xs) (subst (λ (a : Address). unread_from a xs ≡ 0) (node_is peer other h) (none_counted peer xs none))
  by_test false h = still (unread_from other xs) one

-- ---- connections are bound, and go

one_more : (b : Bool) (n m : ℕ) → n ≤ m → cond b 1 0 + n ≤ cond b 1 0 + m
one_more true n m l = more n m l where
  more : (n m : ℕ) → n ≤ m → 1 + n ≤ 1 + m
  more n m l = omega arith
one_more false n m l = more n m l where
  more : (n m : ℕ) → n ≤ m → 0 + n ≤ 0 + m
  more n m l = omega arith

less_one : (b : Bool) (n m : ℕ) → n ≤ m → n ≤ cond b 1 0 + m
less_one true n m l = more n m l where
  more : (n m : ℕ) → n ≤ m → n ≤ 1 + m
  more n m l = omega arith
less_one false n m l = more n m l where
  more : (n m : ℕ) → n ≤ m → n ≤ 0 + m
  more n m l = omega arith

-- a connection that is bound isn't unread any more
pub bound_fewer : (conn : ℕ) (bound : Bound) (peer : Address) (xs : List Arrived) → is_unread bound ≡ false → unread_from peer (map (rebound conn bound) xs) ≤ unread_from peer xs
bound_fewer conn bound peer [] read = none where
  none : 0 ≤ 0
  none = omega arith
bound_fewer conn bound peer (x ∷ xs) read = by_test (x.conn == conn) (bound_fewer conn bound peer xs read) where
  less : (n m : ℕ) → n ≤ m → 0 + n ≤ m
  less n m l = omega arith

  by_test : (b : Bool) → unread_from peer (map (rebound conn bound) xs) ≤ unread_from peer xs → cond (is_unread_of peer (cond b (record x { bound = bound }) x)) 1 0 + unread_from peer (map (rebound conn bound) xs) ≤ cond (is_unread_of peer x) 1 0 + unread_from peer xs
  by_test true l = subst (λ (u : Bool). cond (u && same_node x.peer peer) 1 0 + unread_from peer (map (rebound conn bound) xs) ≤ cond (is_unread_of peer x) 1 0 + unread_from peer xs) (sym read) (less (unread_from peer (map (rebound conn bound) xs)) (cond (is_unread_of peer x) 1 0 + unread_from peer xs) (less_one (is_unread_of peer x) (unread_from peer (map (rebound conn bound) xs)) (unread_from peer xs) l))
  by_test false l = one_more (is_unread_of peer x) (unread_from peer (map (rebound conn bound) xs)) (unread_from peer xs) l

-- of those that stay no more are unread
pub kept_fewer : (keeps : Arrived → Bool) (peer : Address) (xs : List Arrived) → unread_from peer (filter keeps xs) ≤ unread_from peer xs
kept_fewer keeps peer [] = none where
  none : 0 ≤ 0
  none = omega arith
kept_fewer keeps peer (x ∷ xs) = by_test (keeps x) (kept_fewer keeps peer xs) where
  by_test : (b : Bool) → unread_from peer (filter keeps xs) ≤ unread_from peer xs → unread_from peer (cond b (x ∷ filter keeps xs) (filter keeps xs)) ≤ cond (is_unread_of peer x) 1 0 + unread_from peer xs
  by_test true l = one_more (is_unread_of peer x) (unread_from peer (filter keeps xs)) (unread_from peer xs) l
  by_test false l = less_one (is_unread_of peer x) (unread_from peer (filter keeps xs)) (unread_from peer xs) l

-- where none is unread, none of those that stay is
pub none_kept : (keeps : Arrived → Bool) (peer : Address) (xs : List Arrived) → find (is_unread_of peer) xs ≡ None → find (is_unread_of peer) (filter keeps xs) ≡ None
none_kept keeps peer [] none = refl
none_kept keeps peer (x ∷ xs) none = by_tests (keeps x) (is_unread_of peer x) refl none (none_kept keeps peer xs) where
  by_tests : (a b : Bool) → is_unread_of peer x ≡ b → cond b (Some x) (find (is_unread_of peer) xs) ≡ None → (find (is_unread_of peer) xs ≡ None → find (is_unread_of peer) (filter keeps xs) ≡ None) → find (is_unread_of peer) (cond a (x ∷ filter keeps xs) (filter keeps xs)) ≡ None
  by_tests a true h none more = absurd cc
  by_tests true false h none more = ap (λ b. cond b (Some x) (find (is_unread_of peer) (filter keeps xs))) h ∙ more none
  by_tests false false h none more = more none

-- ---- a link fails

-- none of the peer is left
pub none_of_lost : (peer : Address) (xs : List Arrived) → find (is_unread_of peer) (filter (λ (one : Arrived). not (same_node one.peer peer)) xs) ≡ None
none_of_lost peer [] = refl
none_of_lost peer (x ∷ xs) = by_test (same_node x.peer peer) refl (none_of_lost peer xs) where
  never : (b : Bool) → (b && false) ≡ false
  never true = refl
  never false = refl

  by_test : (b : Bool) → same_node x.peer peer ≡ b → find (is_unread_of peer) (filter (λ (one : Arrived). not (same_node one.peer peer)) xs) ≡ None → find (is_unread_of peer) (cond (not b) (x ∷ filter (λ (one : Arrived). not (same_node one.peer peer)) xs) (filter (λ (one : Arrived). not (same_node one.peer peer)) xs)) ≡ None
  by_test true h more = more
  by_test false h more = ap (λ b. cond (is_unread x.bound && b) (Some x) (find (is_unread_of peer) (filter (λ (one : Arrived). not (same_node one.peer peer)) xs))) h ∙ ap (λ b. cond b (Some x) (find (is_unread_of peer) (filter (λ (one : Arrived). not (same_node one.peer peer)) xs))) (never (is_unread x.bound)) ∙ more

-- those of another are as they were
pub others_left : (peer other : Address) (xs : List Arrived) → same_node peer other ≡ false → find (is_unread_of other) (filter (λ (one : Arrived). not (same_node one.peer peer)) xs) ≡ find (is_unread_of other) xs
others_left peer other [] apart = refl
others_left peer other (x ∷ xs) apart = by_tests (same_node x.peer peer) refl (is_unread_of other x) refl (others_left peer other xs apart) where
  clash : same_node x.peer peer ≡ true → is_unread_of other x ≡ true → ⊥
  clash h g =
      let is : x.peer ≡ peer = node_is x.peer peer h in
      let so : x.peer ≡ other = node_is x.peer other (and_parts (is_unread x.bound) (same_node x.peer other) g).1 in
      let same : same_node peer other ≡ true = subst (λ (a : Address). same_node a other ≡ true) is (subst (λ (a : Address). same_node x.peer a ≡ true) so (node_self x.peer)) in
      let no_way : true ≡ false = sym same ∙ apart in absurd cc

  by_tests : (a : Bool) → same_node x.peer peer ≡ a → (b : Bool) → is_unread_of other x ≡ b → find (is_unread_of other) (filter (λ (one : Arrived). not (same_node one.peer peer)) xs) ≡ find (is_unread_of other) xs
      → find (is_unread_of other) (cond (not a) (x ∷ filter (λ (one : Arrived). not (same_node one.peer peer)) xs) (filter (λ (one : Arrived). not (same_node one.peer peer)) xs)) ≡ cond b (Some x) (find (is_unread_of other) xs)
  by_tests true h true g more = absurd (clash h g)
  by_tests true h false g more = more
  by_tests false h b g more = ap (λ c. cond c (Some x) (find (is_unread_of other) (filter (λ (one : Arrived). not (same_node one.peer peer)) xs))) g ∙ ap (λ o. cond b (Some x) o) more
