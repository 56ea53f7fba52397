-- What a change of one socket and one link leaves.
use Rattle.std.proofs.Common.{◌≡◌, ℕ, nat_eq, Bool, true, false, cond, refl, ap, sym, ◌∙◌, subst, arith}
use Rattle.std.proofs.lemmas.Bool.Decides.{nat_tests}
use Rattle.ch_link.specs.declared.LinkState.{LinkState}
use Rattle.ch_link.specs.declared.LinkState.TheVariants.{Idle, Dialing, AwaitOther, Up}
use Rattle.ch_race.specs.Pair.{Side, Lesser, Greater, other, Sock, Pair, put, point}
use Rattle.ch_race.specs.Naming.{Not, Asks, IsUp, role, role_o, role_t, Named, NamedAt, Naming}

pub by_test : {P : Type 0} (b : Bool) → (b ≡ true → P) → (b ≡ false → P) → P
by_test true f g = f refl
by_test false f g = g refl

pub same_number : (i j : ℕ) → nat_eq j i ≡ true → i ≡ j
same_number i j h = grind (arith, nat_tests)

pub self_number : (i : ℕ) → nat_eq i i ≡ true
self_number i = grind (arith, nat_tests)

pub put_here : (i : ℕ) (s : Sock) (p : Pair) → (put i s p).sock i ≡ s
put_here i s p = ap (λ (b : Bool). cond b s (p.sock i)) (self_number i)

pub put_there : (i j : ℕ) (s : Sock) (p : Pair) → nat_eq j i ≡ false → (put i s p).sock j ≡ p.sock j
put_there i j s p h = ap (λ (b : Bool). cond b s (p.sock j)) h

-- a link that names at most the socket i
abbrev pub Only : ℕ → LinkState → Type 0
Only i k = (j : ℕ) → nat_eq j i ≡ false → role k j ≡ Not

pub only_idle : (i : ℕ) → Only i Idle
only_idle i j h = refl

pub only_dialing : (i : ℕ) → Only i (Dialing i)
only_dialing i j h = ap (λ (b : Bool). cond b Asks Not) h

pub only_up : (i : ℕ) (b : Bool) → Only i (Up i b)
only_up i b j h = ap (λ (b : Bool). cond b IsUp Not) h

roles_point : (x z : Side) (k : LinkState) (p : Pair) (j : ℕ) → role k j ≡ role (p.link x) j → role ((point x k p).link z) j ≡ role (p.link z) j
roles_point Lesser Lesser k p j h = h
roles_point Lesser Greater k p j h = refl
roles_point Greater Lesser k p j h = refl
roles_point Greater Greater k p j h = h

-- one socket and one link change
pub changed : (p : Pair) (x : Side) (k : LinkState) (i : ℕ) (s : Sock) → Naming p → ((j : ℕ) → nat_eq j i ≡ false → role k j ≡ role (p.link x) j)
    → Named ((point x k p).link s.opener) ((point x k p).link (other s.opener)) i s.o s.t → Naming (point x k (put i s p))
changed p x k i s n others here j = by_test {P = NamedAt (point x k (put i s p)) j} (nat_eq j i)
    (λ h. subst (NamedAt (point x k (put i s p))) (same_number i j h) (subst (λ (z : Sock). Named ((point x k p).link z.opener) ((point x k p).link (other z.opener)) i z.o z.t) (sym (put_here i s p)) here))
    (λ h. subst (λ (z : Sock). Named ((point x k p).link z.opener) ((point x k p).link (other z.opener)) j z.o z.t) (sym (put_there i j s p h))
    (record { own = (n j).own ∙ sym (roles_point x (p.sock j).opener k p j (others j h)); peer = (n j).peer ∙ sym (roles_point x (other (p.sock j).opener) k p j (others j h)) }))

-- one socket changes, and its roles do not
pub changed_alone : (p : Pair) (i : ℕ) (s : Sock) → Naming p → s.opener ≡ (p.sock i).opener → role_o s.o ≡ role_o (p.sock i).o → role_t s.t ≡ role_t (p.sock i).t → Naming (put i s p)
changed_alone p i s n opener o t j = by_test {P = NamedAt (put i s p) j} (nat_eq j i)
    (λ h. subst (NamedAt (put i s p)) (same_number i j h) (subst (λ (z : Sock). Named (p.link z.opener) (p.link (other z.opener)) i z.o z.t) (sym (put_here i s p))
    (subst (λ (y : Side). Named (p.link y) (p.link (other y)) i s.o s.t) (sym opener) (record { own = o ∙ (n i).own; peer = t ∙ (n i).peer }))))
    (λ h. subst (λ (z : Sock). Named (p.link z.opener) (p.link (other z.opener)) j z.o z.t) (sym (put_there i j s p h)) (n j))

-- a link alone changes, and names what it named
pub pointed : (p : Pair) (x : Side) (k : LinkState) → Naming p → ((j : ℕ) → role k j ≡ role (p.link x) j) → Naming (point x k p)
pointed p x k n same_roles j = record {
  own = (n j).own ∙ sym (roles_point x (p.sock j).opener k p j (same_roles j));
  peer = (n j).peer ∙ sym (roles_point x (other (p.sock j).opener) k p j (same_roles j));
}

pub point_own : (y : Side) (k : LinkState) (p : Pair) → (point y k p).link y ≡ k
point_own Lesser k p = refl
point_own Greater k p = refl

pub point_of_peer : (y : Side) (k : LinkState) (p : Pair) → (point y k p).link (other y) ≡ p.link (other y)
point_of_peer Lesser k p = refl
point_of_peer Greater k p = refl

pub point_peer : (y : Side) (k : LinkState) (p : Pair) → (point (other y) k p).link (other y) ≡ k
point_peer Lesser k p = refl
point_peer Greater k p = refl

pub point_own_of : (y : Side) (k : LinkState) (p : Pair) → (point (other y) k p).link y ≡ p.link y
point_own_of Lesser k p = refl
point_own_of Greater k p = refl

-- a socket and its opener's link change
pub own_changes : (p : Pair) (k : LinkState) (i : ℕ) (s : Sock) → Naming p → ((j : ℕ) → nat_eq j i ≡ false → role k j ≡ role (p.link s.opener) j)
    → role_o s.o ≡ role k i → role_t s.t ≡ role (p.link (other s.opener)) i → Naming (point s.opener k (put i s p))
own_changes p k i s n others o t = changed p s.opener k i s n others (record {
  own = o ∙ ap (λ (l : LinkState). role l i) (sym (point_own s.opener k p));
  peer = t ∙ ap (λ (l : LinkState). role l i) (sym (point_of_peer s.opener k p));
})

-- a socket and its target's link change
pub peer_changes : (p : Pair) (k : LinkState) (i : ℕ) (s : Sock) → Naming p → ((j : ℕ) → nat_eq j i ≡ false → role k j ≡ role (p.link (other s.opener)) j)
    → role_o s.o ≡ role (p.link s.opener) i → role_t s.t ≡ role k i → Naming (point (other s.opener) k (put i s p))
peer_changes p k i s n others o t = changed p (other s.opener) k i s n others (record {
  own = o ∙ ap (λ (l : LinkState). role l i) (sym (point_own_of s.opener k p));
  peer = t ∙ ap (λ (l : LinkState). role l i) (sym (point_peer s.opener k p));
})

dial_only : (d i j : ℕ) → cond (nat_eq i d) Asks Not ≡ Asks → nat_eq j i ≡ false → cond (nat_eq j d) Asks Not ≡ Not
dial_only d i j h n = grind (arith, nat_tests)

up_is : (u i : ℕ) → cond (nat_eq i u) IsUp Not ≡ IsUp → i ≡ u
up_is u i h = grind (arith, nat_tests)

dial_no_up : (d i : ℕ) → cond (nat_eq i d) Asks Not ≡ IsUp → ⊥
dial_no_up d i h = grind (arith, nat_tests)

up_no_dial : (u i : ℕ) → cond (nat_eq i u) IsUp Not ≡ Asks → ⊥
up_no_dial u i h = grind (arith, nat_tests)

pub asks_only : (k : LinkState) (i : ℕ) → Asks ≡ role k i → Only i k
asks_only Idle i h j n = refl
asks_only AwaitOther i h j n = refl
asks_only (Dialing d) i h j n = dial_only d i j (sym h) n
asks_only (Up u b) i h j n = absurd (up_no_dial u i (sym h))

-- an up link with its flag changed
pub still_up : (k : LinkState) (i : ℕ) (b : Bool) → IsUp ≡ role k i → (j : ℕ) → role (Up i b) j ≡ role k j
still_up Idle i b h j = absurd (cc)
still_up AwaitOther i b h j = absurd (cc)
still_up (Dialing d) i b h j = absurd (dial_no_up d i (sym h))
still_up (Up u c) i b h j = ap (λ (n : ℕ). cond (nat_eq j n) IsUp Not) (up_is u i (sym h))

up_only_at : (u i j : ℕ) → cond (nat_eq i u) IsUp Not ≡ IsUp → nat_eq j i ≡ false → cond (nat_eq j u) IsUp Not ≡ Not
up_only_at d i j h n = grind (arith, nat_tests)

pub up_only : (k : LinkState) (i : ℕ) → IsUp ≡ role k i → Only i k
up_only Idle i h j n = refl
up_only AwaitOther i h j n = refl
up_only (Dialing d) i h j n = absurd (dial_no_up d i (sym h))
up_only (Up u b) i h j n = up_only_at u i j (sym h) n
