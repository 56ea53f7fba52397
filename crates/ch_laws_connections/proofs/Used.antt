-- Acts that use open connections alone.
use Rattle.std.proofs.Common.{◌≡◌, ◌≤◌, ℕ, ◌+◌, Bool, true, false, cond, ◌&&◌, List, [], ◌∷◌, ◌++◌, map, refl, sym, ap, subst, arith}
use Rattle.std.specs.Prelude.{◌==◌}
use Rattle.ch_base.specs.declared.address.Address.{Address}
use Rattle.ch_watch.specs.Same.{same_node}
use Rattle.ch_model.specs.HostWrites.{is_counted}
use Rattle.ch_model.specs.declared.act.Act.{Act}
use Rattle.ch_model.specs.declared.act.Act.TheVariants as acts
use Rattle.ch_laws_log.proofs.Stored.{number_same}
use Rattle.ch_laws_connections.specs.Senders.{once, total, open_after, AllUsed}

-- where as many are open, and as many peers have room
pub alike_used : (done : List Act) (g h : ℕ → Address → ℕ) (r q : Address → Bool) → ((c : ℕ) (p : Address) → g c p ≡ h c p) → ((p : Address) → r p ≡ true → q p ≡ true) → AllUsed done g r → AllUsed done h q
alike_used [] g h r q e f u = tt
alike_used (acts.Open c p ∷ rest) g h r q e f u = alike_used rest _ _ r q (λ conn peer. ap (λ n. once ((c == conn) && same_node p peer) + n) (e conn peer)) f u
alike_used (acts.Close c ∷ rest) g h r q e f u = ((u.0.0, subst (λ (n : ℕ). 1 ≤ n) (e c u.0.0) u.0.1), alike_used rest _ _ r q (λ conn peer. ap (cond (c == conn) 0) (e conn peer)) f u.1)
alike_used (acts.Put c payload weight ∷ rest) g h r q e f u = ((u.0.0, subst (λ (n : ℕ). 1 ≤ n) (e c u.0.0) u.0.1, λ w. f u.0.0 (u.0.2 w)), alike_used rest g h _ _ e (λ p. by_weight (is_counted weight) p) u.1) where
  by_weight : (b : Bool) (p : Address) → cond b false (r p) ≡ true → cond b false (q p) ≡ true
  by_weight true p x = x
  by_weight false p x = f p x
alike_used (acts.Note note ∷ rest) g h r q e f u = alike_used rest g h r q e f u

-- some acts, and then others that need no room
pub both_used : (xs ys : List Act) (g : ℕ → Address → ℕ) (r : Address → Bool) → AllUsed xs g r → ((q : Address → Bool) → AllUsed ys (λ c p. open_after xs c p (g c p)) q) → AllUsed (xs ++ ys) g r
both_used [] ys g r u v = v r
both_used (acts.Open c p ∷ rest) ys g r u v = both_used rest ys (λ conn peer. once ((c == conn) && same_node p peer) + g conn peer) r u v
both_used (acts.Close c ∷ rest) ys g r u v = (u.0, both_used rest ys (λ conn peer. cond (c == conn) 0 (g conn peer)) r u.1 v)
both_used (acts.Put c payload weight ∷ rest) ys g r u v = (u.0, both_used rest ys g (λ p. cond (is_counted weight) false (r p)) u.1 v)
both_used (acts.Note note ∷ rest) ys g r u v = both_used rest ys g r u v

-- ---- connections that are closed

-- how often a number is among them
abbrev pub occurs : ℕ → List ℕ → ℕ
occurs c ns = total (λ m. once (m == c)) ns

pub closes_used : (ns : List ℕ) (g : ℕ → Address → ℕ) (r : Address → Bool) → ((c : ℕ) → occurs c ns ≤ 1) → ((c : ℕ) → 1 ≤ occurs c ns → (p : Address) × (1 ≤ g c p)) → AllUsed (map (λ c. acts.Close c) ns) g r
closes_used [] g r one there = tt
closes_used (n ∷ rest) g r one there = (there n (subst (λ b. 1 ≤ once b + occurs n rest) (sym (number_same n)) (first (occurs n rest))), closes_used rest (λ conn peer. cond (n == conn) 0 (g conn peer)) r (λ c. fewer (once (n == c)) (occurs c rest) (one c)) later) where
  first : (k : ℕ) → 1 ≤ 1 + k
  first k = omega arith

  fewer : (a b : ℕ) → a + b ≤ 1 → b ≤ 1
  fewer a b l = omega arith

  more : (a b : ℕ) → 1 ≤ b → 1 ≤ a + b
  more a b l = omega arith

  twice : (k : ℕ) → 1 + k ≤ 1 → 1 ≤ k → ⊥
  twice k l m = omega arith

  later : (c : ℕ) → 1 ≤ occurs c rest → (p : Address) × (1 ≤ cond (n == c) 0 (g c p))
  later c l = by_number (n == c) refl (there c (more (once (n == c)) (occurs c rest) l)) where
    by_number : (b : Bool) → (n == c) ≡ b → (p : Address) × (1 ≤ g c p) → (p : Address) × (1 ≤ cond b 0 (g c p))
    by_number true h x = absurd (twice (occurs c rest) (subst (λ b. once b + occurs c rest ≤ 1) h (one c)) l)
    by_number false h x = x
