-- Changes of a pair, one after another.
use mathlib.Core.Path.{fun_ext}
use Rattle.std.specs.Prelude.{◌≡◌, ℕ, Bool, true, false, cond, nat_eq}
use Rattle.std.proofs.Common.{refl, ap, sym, ◌∙◌}
use Rattle.ch_link.specs.declared.LinkState.{LinkState}
use Rattle.ch_race.specs.Pair.{Side, Lesser, Greater, same, Sock, Pair, put, point}
use Rattle.ch_laws_race.proofs.Sockets.{by_test, same_place}
use Rattle.ch_laws_race.proofs.Views.{self_number}

pub put_here : (i : ℕ) (s : Sock) (v : Pair) → (put i s v).sock i ≡ s
put_here i s v = ap (λ b. cond b s (v.sock i)) (self_number i)

pub put_there : (i j : ℕ) (s : Sock) (v : Pair) → nat_eq j i ≡ false → (put i s v).sock j ≡ v.sock j
put_there i j s v off = ap (λ b. cond b s (v.sock j)) off

-- a socket that changes twice
pub put_put : (i : ℕ) (s t : Sock) (v : Pair) → put i s (put i t v) ≡ put i s v
put_put i s t v = ap (λ (f : ℕ → Sock). record v { sock = f }) (fun_ext at) where
  at : (j : ℕ) → cond (nat_eq j i) s (cond (nat_eq j i) t (v.sock j)) ≡ cond (nat_eq j i) s (v.sock j)
  at j = by (nat_eq j i) where
    by : (b : Bool) → cond b s (cond b t (v.sock j)) ≡ cond b s (v.sock j)
    by true = refl
    by false = refl

-- a link that changes twice
pub point_point : (x : Side) (k l : LinkState) (v : Pair) → point x k (point x l v) ≡ point x k v
point_point x k l v = ap (λ (f : Side → LinkState). record v { link = f }) (fun_ext at) where
  at : (z : Side) → cond (same z x) k (cond (same z x) l (v.link z)) ≡ cond (same z x) k (v.link z)
  at z = by (same z x) where
    by : (b : Bool) → cond b k (cond b l (v.link z)) ≡ cond b k (v.link z)
    by true = refl
    by false = refl

-- a socket that changes again after another
pub put_over : (i j : ℕ) (s t u : Sock) (v : Pair) → put i s (put j t (put i u v)) ≡ put i s (put j t v)
put_over i j s t u v = ap (λ (f : ℕ → Sock). record v { sock = f }) (fun_ext at) where
  at : (k : ℕ) → cond (nat_eq k i) s (cond (nat_eq k j) t (cond (nat_eq k i) u (v.sock k))) ≡ cond (nat_eq k i) s (cond (nat_eq k j) t (v.sock k))
  at k = by (nat_eq k i) (nat_eq k j) where
    by : (a b : Bool) → cond a s (cond b t (cond a u (v.sock k))) ≡ cond a s (cond b t (v.sock k))
    by true b = refl
    by false b = refl

-- the last of three changes of a link, with those of two sockets
pub piled : (x : Side) (a b c : LinkState) (i j : ℕ) (s t u : Sock) (v : Pair) → point x a (put i s (point x b (put j t (point x c (put i u v))))) ≡ point x a (put i s (put j t v))
piled x a b c i j s t u v = point_point x a b (point x c (put i s (put j t (put i u v)))) ∙ point_point x a c (put i s (put j t (put i u v))) ∙ ap (point x a) (put_over i j s t u v)

-- a socket that stays
pub put_same : (i : ℕ) (v : Pair) → put i (v.sock i) v ≡ v
put_same i v = ap (λ (f : ℕ → Sock). record v { sock = f }) (fun_ext at) where
  at : (j : ℕ) → cond (nat_eq j i) (v.sock i) (v.sock j) ≡ v.sock j
  at j = by_test (nat_eq j i) (λ h. ap (λ b. cond b (v.sock i) (v.sock j)) h ∙ ap v.sock (same_place i j h)) (λ h. ap (λ b. cond b (v.sock i) (v.sock j)) h)

pub point_own : (x : Side) (k : LinkState) (v : Pair) → (point x k v).link x ≡ k
point_own Lesser k v = refl
point_own Greater k v = refl

-- a link that stays
pub point_same : (x : Side) (k : LinkState) (v : Pair) → v.link x ≡ k → point x k v ≡ v
point_same x k v is = ap (λ (f : Side → LinkState). record v { link = f }) (fun_ext at) where
  same_side : (x z : Side) → same z x ≡ true → z ≡ x
  same_side Lesser Lesser h = refl
  same_side Greater Greater h = refl
  same_side Lesser Greater h = absurd (clash h) where
    clash : false ≡ true → ⊥
    clash h = cc
  same_side Greater Lesser h = absurd (clash h) where
    clash : false ≡ true → ⊥
    clash h = cc

  at : (z : Side) → cond (same z x) k (v.link z) ≡ v.link z
  at z = by_test (same z x) (λ h. ap (λ b. cond b k (v.link z)) h ∙ sym is ∙ sym (ap (λ (y : Side). v.link y) (same_side x z h))) (λ h. ap (λ b. cond b k (v.link z)) h)
