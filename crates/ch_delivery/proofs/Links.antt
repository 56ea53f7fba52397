-- The sockets one after another, as who hears pair c comes to their ends, and what keeps them in order.
use Rattle.std.proofs.Common.{◌≡◌, ◌<◌, ◌≤◌, ℕ, nat_eq, Bool, true, false, cond, List, [], ◌++◌, refl, ap, sym, ◌∙◌, subst, arith}
use Rattle.std.proofs.lemmas.Bool.Decides.{nat_tests}
use lib.Dec.{leb}
use Rattle.ch_delivery.specs.Passage.{Item}
use Rattle.ch_delivery.specs.Moves.{put}
use Rattle.ch_delivery.proofs.Ear.{Ear, Idle, Before, Le, heard, heard_mono, heard_append, heard_before, le_trans, le_self, before_more}

pub by_test : {P : Type 0} (b : Bool) → (b ≡ true → P) → (b ≡ false → P) → P
by_test true f g = f refl
by_test false f g = g refl

pub same_number : (i j : ℕ) → nat_eq j i ≡ true → i ≡ j
same_number i j h = grind (arith, nat_tests)

pub self_number : (i : ℕ) → nat_eq i i ≡ true
self_number i = grind (arith, nat_tests)

pub put_here : {T : Type 0} (i : ℕ) (s : T) (f : ℕ → T) → put i s f i ≡ s
put_here {T = T} i s f = ap {A = Bool} {B = T} (λ (b : Bool). cond b s (f i)) (self_number i)

pub put_there : {T : Type 0} (i j : ℕ) (s : T) (f : ℕ → T) → nat_eq j i ≡ false → put i s f j ≡ f j
put_there {T = T} i j s f h = ap {A = Bool} {B = T} (λ (b : Bool). cond b s (f j)) h

pub apart : (i j : ℕ) → i < j → nat_eq i j ≡ false
apart i j h = grind (arith, nat_tests)

clash : true ≡ false → ⊥
clash h = cc

-- e i is where the reader would be after all that is unread on socket i; floor i and base are the first epochs that may
-- come on socket i and in what waits; t is where the writer is, and k the first epoch of which nothing is written. The
-- ends are below k; each is below the floors of later sockets; on the last, if it is up and not cut, the reader comes to
-- where the writer is; and if it isn't up, what waits leads from base to there, and all ends are below base.
pub record Links (c : ℕ) (waits : List Item) (up : Bool) (on at : ℕ) (cut : Bool) (e : ℕ → Ear) (floor : ℕ → ℕ) (base : ℕ) (t : Ear) (k : ℕ) : Type 0 where
  pub below : (i : ℕ) → at ≤ i → Before (e i) k
  pub chain : (i j : ℕ) → at ≤ i → i < j → j ≤ on → Before (e i) (floor j)
  pub flow : up ≡ true → at ≤ on → cut ≡ false → Le (e on) t
  pub rest : up ≡ false → Le (heard c waits (Idle base)) t
  pub room : up ≡ false → (i : ℕ) → at ≤ i → Before (e i) base

module _ (c : ℕ) (on at : ℕ) (floor : ℕ → ℕ) (base : ℕ) (t u : Ear) (k l : ℕ) (more : k ≤ l) (ends : Before u l) where
  -- only where the writer is changes
  pub retold : (waits : List Item) (up cut : Bool) (e : ℕ → Ear) → Le t u → Links c waits up on at cut e floor base t k → Links c waits up on at cut e floor base u l
  retold waits up cut e le s = record {
    below = λ i a. before_more (e i) k l more (s.below i a);
    chain = s.chain;
    flow = λ h a x. le_trans (e on) t u (s.flow h a x) le;
    rest = λ h. le_trans (heard c waits (Idle base)) t u (s.rest h) le;
    room = s.room;
  }

  module _ (items : List Item) (le : Le (heard c items t) u) where
    -- more waits
    pub waited : (waits : List Item) (up cut : Bool) (e : ℕ → Ear) → up ≡ false → Links c waits up on at cut e floor base t k → Links c (waits ++ items) up on at cut e floor base u l
    waited waits up cut e down s = record {
      below = λ i a. before_more (e i) k l more (s.below i a);
      chain = s.chain;
      flow = λ h a x. absurd (clash (sym h ∙ down));
      rest = λ h. subst (λ (z : Ear). Le z u) (sym (heard_append c waits items (Idle base)))
          (le_trans (heard c items (heard c waits (Idle base))) (heard c items t) u (heard_mono c items (heard c waits (Idle base)) t (s.rest h)) le);
      room = s.room;
    }

    -- more is written on the socket that is up
    pub flowed : (waits : List Item) (up cut : Bool) (e d : ℕ → Ear) → up ≡ true → (cut ≡ true → d on ≡ e on) → (cut ≡ false → d on ≡ heard c items (e on)) → ((i : ℕ) → nat_eq i on ≡ false → d i ≡ e i)
        → Links c waits up on at cut e floor base t k → Links c waits up on at cut d floor base u l
    flowed waits up cut e d isup stay here there s = record {
      below = λ i a. by_test {P = Before (d i) l} (nat_eq i on)
          (λ h. subst (λ (z : ℕ). Before (d z) l) (same_number on i h) (at_on (subst (λ (z : ℕ). at ≤ z) (sym (same_number on i h)) a)))
          (λ h. subst (λ (z : Ear). Before z l) (sym (there i h)) (before_more (e i) k l more (s.below i a)));
      chain = λ i j a b n. subst (λ (z : Ear). Before z (floor j)) (sym (there i (apart i on (omega arith)))) (s.chain i j a b n);
      flow = λ h a x. now a x;
      rest = λ h. absurd (clash (sym isup ∙ h));
      room = λ h. absurd (clash (sym isup ∙ h));
    } where
      now : at ≤ on → cut ≡ false → Le (d on) u
      now a x = subst (λ (z : Ear). Le z u) (sym (here x)) (le_trans (heard c items (e on)) (heard c items t) u (heard_mono c items (e on) t (s.flow isup a x)) le)

      at_on : at ≤ on → Before (d on) l
      at_on a = by_test {P = Before (d on) l} cut
          (λ x. subst (λ (z : Ear). Before z l) (sym (stay x)) (before_more (e on) k l more (s.below on a)))
          (λ x. le_trans (d on) u (Idle l) (now a x) ends)

-- something on the way is lost: ends fall back
pub lowered : (c : ℕ) (waits : List Item) (up : Bool) (on at : ℕ) (cut now : Bool) (e d : ℕ → Ear) (floor : ℕ → ℕ) (base : ℕ) (t : Ear) (k : ℕ)
    → ((i f : ℕ) → Before (e i) f → Before (d i) f) → (now ≡ false → (cut ≡ false) × (d on ≡ e on)) → Links c waits up on at cut e floor base t k → Links c waits up on at now d floor base t k
lowered c waits up on at cut now e d floor base t k low keep s = record {
  below = λ i a. low i k (s.below i a);
  chain = λ i j a b n. low i (floor j) (s.chain i j a b n);
  flow = λ h a x. subst (λ (z : Ear). Le z t) (sym (keep x).1) (s.flow h a (keep x).0);
  rest = s.rest;
  room = λ h i a. low i base (s.room h i a);
}

-- the link breaks: what waits is dropped, and the next connection is of epoch k
pub broke : (c : ℕ) (waits : List Item) (up : Bool) (on at : ℕ) (cut : Bool) (e : ℕ → Ear) (floor : ℕ → ℕ) (base : ℕ) (t : Ear) (k : ℕ)
    → Links c waits up on at cut e floor base t k → Links c [] false on at cut e floor k (Idle k) k
broke c waits up on at cut e floor base t k s = record {
  below = s.below;
  chain = s.chain;
  flow = λ h a x. absurd (clash (sym h));
  rest = λ h. le_self (Idle k);
  room = λ h. s.below;
}

-- the floors, with base for the sockets after the last
abbrev pub risen : ℕ → (ℕ → ℕ) → ℕ → ℕ → ℕ
risen on floor base j = cond (leb j on) (floor j) base

old_floor : (on j : ℕ) (floor : ℕ → ℕ) (base : ℕ) → j ≤ on → floor j ≡ risen on floor base j
old_floor on j floor base h = ap (λ (b : Bool). cond b (floor j) base) (sym (is h)) where
  is : j ≤ on → leb j on ≡ true
  is h = grind (arith, nat_tests)

new_floor : (on j : ℕ) (floor : ℕ → ℕ) (base : ℕ) → on < j → base ≡ risen on floor base j
new_floor on j floor base h = ap (λ (b : Bool). cond b (floor j) base) (sym (is h)) where
  is : on < j → leb j on ≡ false
  is h = grind (arith, nat_tests)

pub by_order : {P : Type 0} (a b : ℕ) → (a ≤ b → P) → (b < a → P) → P
by_order {P = P} a b f g = by_test {P = P} (leb a b) (λ h. f (yes_le h)) (λ h. g (no_le h)) where
  yes_le : leb a b ≡ true → a ≤ b
  yes_le h = grind (arith, nat_tests)

  no_le : leb a b ≡ false → b < a
  no_le h = grind (arith, nat_tests)

-- the sending node comes up on socket i
pub risen_keeps : (c : ℕ) (waits : List Item) (up : Bool) (on at i : ℕ) (cut now : Bool) (e d : ℕ → Ear) (floor : ℕ → ℕ) (base : ℕ) (t : Ear) (k : ℕ)
    → up ≡ false → on < i → Before t k
    → ((j : ℕ) → j ≤ on → d j ≡ e j) → ((j : ℕ) → on < j → nat_eq j i ≡ false → at ≤ j → Before (d j) base)
    → (now ≡ true → at ≤ i → Before (d i) base) → (now ≡ false → at ≤ i → Le (d i) (heard c waits (Idle base)))
    → Links c waits up on at cut e floor base t k → Links c [] true i at now d (risen on floor base) base t k
risen_keeps c waits up on at i cut now e d floor base t k down less ends old mid lost new s = record {
  below = λ j a. by_order {P = Before (d j) k} j on
      (λ h. subst (λ (z : Ear). Before z k) (sym (old j h)) (s.below j a))
      (λ h. by_test {P = Before (d j) k} (nat_eq j i) (λ x. subst (λ (z : ℕ). Before (d z) k) (same_number i j x) (at_new (subst (λ (z : ℕ). at ≤ z) (sym (same_number i j x)) a)))
      (λ x. before_more (d j) base k under (mid j h x a)));
  chain = λ j m a b n. by_order {P = Before (d j) (risen on floor base m)} m on
      (λ h. subst (Before (d j)) (old_floor on m floor base h) (subst (λ (z : Ear). Before z (floor m)) (sym (old j (omega arith))) (s.chain j m a b h)))
      (λ h. subst (Before (d j)) (new_floor on m floor base h) (by_order {P = Before (d j) base} j on
      (λ g. subst (λ (z : Ear). Before z base) (sym (old j g)) (s.room down j a)) (λ g. mid j g (apart j i (omega arith)) a)));
  flow = λ h a x. le_trans (d i) (heard c waits (Idle base)) t (new x a) (s.rest down);
  rest = λ h. absurd (clash h);
  room = λ h. absurd (clash h);
} where
  under : base ≤ k
  under = heard_before c waits (Idle base) k (le_trans (heard c waits (Idle base)) t (Idle k) (s.rest down) ends)

  at_new : at ≤ i → Before (d i) k
  at_new a = by_test {P = Before (d i) k} now (λ x. before_more (d i) base k under (lost x a)) (λ x. le_trans (d i) t (Idle k) (le_trans (d i) (heard c waits (Idle base)) t (new x a) (s.rest down)) ends)

-- the receiving node comes up on socket j
pub come_keeps : (c : ℕ) (waits : List Item) (up : Bool) (on at j : ℕ) (cut : Bool) (e d : ℕ → Ear) (floor : ℕ → ℕ) (base : ℕ) (t : Ear) (k : ℕ)
    → at < j → ((i : ℕ) → j < i → d i ≡ e i) → (j ≤ on → Le (d j) (e j)) → (on < j → (f : ℕ) → Before (e at) f → Before (d j) f)
    → Links c waits up on at cut e floor base t k → Links c waits up on j cut d floor base t k
come_keeps c waits up on at j cut e d floor base t k less others here past s = record {
  below = λ i a. bounded i a k (λ m b. s.below m b);
  chain = λ i m a b n. by_order {P = Before (d i) (floor m)} i j
      (λ h. subst (λ (z : ℕ). Before (d z) (floor m)) (same j i a h) (le_trans (d j) (e j) (Idle (floor m)) (here (omega arith)) (s.chain j m (omega arith) (omega arith) n)))
      (λ h. subst (λ (z : Ear). Before z (floor m)) (sym (others i h)) (s.chain i m (omega arith) b n));
  flow = λ h a x. by_order {P = Le (d on) t} on j
      (λ g. subst (λ (z : ℕ). Le (d z) t) (same j on a g) (le_trans (d j) (e j) t (here a) (subst (λ (z : ℕ). Le (e z) t) (sym (same j on a g)) (s.flow h (omega arith) x))))
      (λ g. subst (λ (z : Ear). Le z t) (sym (others on g)) (s.flow h (omega arith) x));
  rest = s.rest;
  room = λ h i a. bounded i a base (λ m b. s.room h m b);
} where
  same : (j i : ℕ) → j ≤ i → i ≤ j → j ≡ i
  same j i a b = omega arith

  bounded : (i : ℕ) → j ≤ i → (f : ℕ) → ((m : ℕ) → at ≤ m → Before (e m) f) → Before (d i) f
  bounded i a f h = by_order {P = Before (d i) f} i j
      (λ g. subst (λ (z : ℕ). Before (d z) f) (same j i a g) (by_order {P = Before (d j) f} j on (λ u. le_trans (d j) (e j) (Idle f) (here u) (h j (omega arith))) (λ u. past u f (h at (omega arith)))))
      (λ g. subst (λ (z : Ear). Before z f) (sym (others i g)) (h i (omega arith)))
