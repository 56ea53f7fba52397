-- What the log and the table of connections say of a pair that is heard so far.
use Rattle.std.proofs.Common.{◌≡◌, ◌<◌, ◌≤◌, ℕ, suc, nat_eq, Bool, true, false, cond, ◌&&◌, refl, ap, sym, ◌∙◌, subst, arith}
use Rattle.std.proofs.lemmas.Bool.Decides.{nat_tests}
use lib.Dec.{leb}
use Rattle.ch_delivery.specs.Passage.{Created, Message, Closed, Binding, Unknown, Bound, is_known, is_bound}
use Rattle.ch_delivery.specs.Log.{plus}
use Rattle.ch_delivery.proofs.Ear.{Ear, Idle, In, Bad, Before, hear, opened, counted, ended, quit}

-- within the connection of epoch d, after n messages: nothing is got or known of later epochs, the connection is known,
-- and if it leads to its target all n were got
pub record Inside (d n : ℕ) (g : ℕ → ℕ) (b : ℕ → Binding) : Type 0 where
  pub later : (e : ℕ) → d < e → (g e ≡ 0) × (b e ≡ Unknown)
  pub known : is_known (b d) ≡ true
  pub count : b d ≡ Bound → g d ≡ n

-- by epoch, how many messages were got, and what the table says
abbrev pub Known : Ear → (ℕ → ℕ) → (ℕ → Binding) → Type 0
Known (Idle f) g b = (e : ℕ) → f ≤ e → (g e ≡ 0) × (b e ≡ Unknown)
Known (In d n) g b = Inside d n g b
Known Bad g b = ⊥

-- a table that says no more of the pair
pub record Tamer (b a : ℕ → Binding) : Type 0 where
  pub bound : (e : ℕ) → a e ≡ Bound → b e ≡ Bound
  pub unknown : (e : ℕ) → b e ≡ Unknown → a e ≡ Unknown
  pub known : (e : ℕ) → is_known (b e) ≡ true → is_known (a e) ≡ true

pub known_ext : (r : Ear) (g h : ℕ → ℕ) (b a : ℕ → Binding) → ((e : ℕ) → h e ≡ g e) → Tamer b a → Known r g b → Known r h a
known_ext (Idle f) g h b a x t k = λ e l. (x e ∙ (k e l).0, t.unknown e (k e l).1)
known_ext (In d n) g h b a x t k = record {
  later = λ e l. (x e ∙ (k.later e l).0, t.unknown e (k.later e l).1);
  known = t.known d k.known;
  count = λ q. x d ∙ k.count (t.bound d q);
}
known_ext Bad g h b a x t k = k

pub same_table : (b a : ℕ → Binding) → ((e : ℕ) → a e ≡ b e) → Tamer b a
same_table b a h = record { bound = λ e q. sym (h e) ∙ q; unknown = λ e q. h e ∙ q; known = λ e q. ap is_known (h e) ∙ q }

-- the table, with t for the connection of pair d and epoch e
abbrev With : ℕ → ℕ → ℕ → Binding → (ℕ → Binding) → ℕ → Binding
With c d e t b y = cond (nat_eq c d && nat_eq y e) t (b y)

after_it : (c d y e : ℕ) (t v : Binding) → e < y → v ≡ Unknown → cond (nat_eq c d && nat_eq y e) t v ≡ Unknown
after_it c d y e t v h k = ap (λ (x : Bool). cond x t v) (differs h) ∙ k where
  differs : e < y → (nat_eq c d && nat_eq y e) ≡ false
  differs h = grind (arith, nat_tests)

elsewhere : (c d y e : ℕ) (t v : Binding) → nat_eq d c ≡ false → cond (nat_eq c d && nat_eq y e) t v ≡ v
elsewhere c d y e t v h = ap (λ (x : Bool). cond x t v) (differs h) where
  differs : nat_eq d c ≡ false → (nat_eq c d && nat_eq y e) ≡ false
  differs h = grind (arith, nat_tests)

here_it : (c d e : ℕ) (t v : Binding) → nat_eq d c ≡ true → cond (nat_eq c d && nat_eq e e) t v ≡ t
here_it c d e t v h = ap (λ (x : Bool). cond x t v) (agrees h) where
  agrees : nat_eq d c ≡ true → (nat_eq c d && nat_eq e e) ≡ true
  agrees h = grind (arith, nat_tests)

module _ (c d e : ℕ) (t : Binding) (g : ℕ → ℕ) (b : ℕ → Binding) where
  unset : (r : Ear) → nat_eq d c ≡ false → Known r g b → Known r g (With c d e t b)
  unset r h k = known_ext r g g b (With c d e t b) (λ y. refl) (same_table b (With c d e t b) (λ y. elsewhere c d y e t (b y) h)) k

  module _ (is : is_known t ≡ true) (own : nat_eq d c ≡ true) where
    -- nothing was got or known of this epoch and later ones
    begun : ((y : ℕ) → e ≤ y → (g y ≡ 0) × (b y ≡ Unknown)) → Inside e 0 g (With c d e t b)
    begun k = record {
      later = λ y m. ((k y (more y m)).0, after_it c d y e t (b y) m (k y (more y m)).1);
      known = ap is_known (here_it c d e t (b e) own) ∙ is;
      count = λ z. (k e (self e)).0;
    } where
      more : (y : ℕ) → e < y → e ≤ y
      more y m = omega arith

      self : (y : ℕ) → y ≤ y
      self y = omega arith

    known_opened : (r : Ear) (f : ℕ) → Before (opened e r) f → Known r g b → Known (opened e r) g (With c d e t b)
    known_opened (Idle h) f q k = by_test (leb h e) refl q where
      by_test : (x : Bool) → leb h e ≡ x → Before (cond x (In e 0) Bad) f → Known (cond x (In e 0) Bad) g (With c d e t b)
      by_test true l q = begun (λ y m. k y (up y l m)) where
        up : (y : ℕ) → leb h e ≡ true → e ≤ y → h ≤ y
        up y l m = grind (arith, nat_tests)
      by_test false l q = absurd q
    known_opened (In a n) f q k = by_test (leb (suc a) e) refl q where
      by_test : (x : Bool) → leb (suc a) e ≡ x → Before (cond x (In e 0) Bad) f → Known (cond x (In e 0) Bad) g (With c d e t b)
      by_test true l q = begun (λ y m. k.later y (up y l m)) where
        up : (y : ℕ) → leb (suc a) e ≡ true → e ≤ y → a < y
        up y l m = grind (arith, nat_tests)
      by_test false l q = absurd q
    known_opened Bad f q k = k

  pub known_created : is_known t ≡ true → (r : Ear) (f : ℕ) → Before (hear c (Created d e) r) f → Known r g b → Known (hear c (Created d e) r) g (With c d e t b)
  known_created is r f q k = by_test (nat_eq d c) refl q where
    by_test : (x : Bool) → nat_eq d c ≡ x → Before (cond x (opened e r) r) f → Known (cond x (opened e r) r) g (With c d e t b)
    by_test true h q = known_opened is h r f q k
    by_test false h q = unset r h k

module _ (c d e : ℕ) (g : ℕ → ℕ) (b : ℕ → Binding) where
  known_ended : (r : Ear) (f : ℕ) → Before (ended e r) f → Known r g b → Known (ended e r) g (With c d e Unknown b)
  known_ended (Idle h) f q k = absurd q
  known_ended (In a n) f q k = by_test (nat_eq e a) refl q where
    by_test : (x : Bool) → nat_eq e a ≡ x → Before (cond x (Idle (suc a)) Bad) f → Known (cond x (Idle (suc a)) Bad) g (With c d e Unknown b)
    by_test true h q = λ y m. ((k.later y (less y m)).0, after_it c d y e Unknown (b y) (past y h m) (k.later y (less y m)).1) where
      less : (y : ℕ) → suc a ≤ y → a < y
      less y m = omega arith

      past : (y : ℕ) → nat_eq e a ≡ true → suc a ≤ y → e < y
      past y h m = grind (arith, nat_tests)
    by_test false h q = absurd q
  known_ended Bad f q k = k

  pub known_closed : (r : Ear) (f : ℕ) → Before (hear c (Closed d e) r) f → Known r g b → Known (hear c (Closed d e) r) g (With c d e Unknown b)
  known_closed r f q k = by_test (nat_eq d c) refl q where
    by_test : (x : Bool) → nat_eq d c ≡ x → Before (cond x (ended e r) r) f → Known (cond x (ended e r) r) g (With c d e Unknown b)
    by_test true h q = known_ended r f q k
    by_test false h q = unset c d e Unknown g b r h k

pub quit_known : (r : Ear) (g : ℕ → ℕ) (b : ℕ → Binding) → Known r g b → Known (quit r) g (λ e. Unknown)
quit_known (Idle f) g b k = λ e l. ((k e l).0, refl)
quit_known (In d n) g b k = λ e l. ((k.later e (less e l)).0, refl) where
  less : (e : ℕ) → suc d ≤ e → d < e
  less e l = omega arith
quit_known Bad g b k = k

-- a message is got
pub known_message : (c d e k : ℕ) (g : ℕ → ℕ) (b : ℕ → Binding) (r : Ear) (f : ℕ) → Before (hear c (Message d e k) r) f → Known r g b
    → Known (hear c (Message d e k) r) (λ y. plus (nat_eq c d && nat_eq y e) (g y)) b
known_message c d e k g b r f q s = by_test (nat_eq d c) refl q where
  more : (y : ℕ) → e < y → g y ≡ 0 → plus (nat_eq c d && nat_eq y e) (g y) ≡ 0
  more y l h = ap (λ (z : Bool). plus z (g y)) (differs y l) ∙ h where
    differs : (y : ℕ) → e < y → (nat_eq c d && nat_eq y e) ≡ false
    differs y l = grind (arith, nat_tests)

  other : (y : ℕ) → nat_eq d c ≡ false → plus (nat_eq c d && nat_eq y e) (g y) ≡ g y
  other y h = ap (λ (z : Bool). plus z (g y)) (differs h) where
    differs : nat_eq d c ≡ false → (nat_eq c d && nat_eq y e) ≡ false
    differs h = grind (arith, nat_tests)

  count : (r : Ear) → nat_eq d c ≡ true → Before (counted e k r) f → Known r g b → Known (counted e k r) (λ y. plus (nat_eq c d && nat_eq y e) (g y)) b
  count (Idle a) h q s = absurd q
  count Bad h q s = absurd q
  count (In a n) h q s = by_pair (nat_eq e a && nat_eq k n) refl q where
    by_pair : (x : Bool) → (nat_eq e a && nat_eq k n) ≡ x → Before (cond x (In a (suc n)) Bad) f → Known (cond x (In a (suc n)) Bad) (λ y. plus (nat_eq c d && nat_eq y e) (g y)) b
    by_pair false i q = absurd q
    by_pair true i q = record {
      later = λ y l. (more y (past y l i) (s.later y l).0, (s.later y l).1);
      known = s.known;
      count = λ t. ap (λ (z : Bool). plus z (g a)) (hit h i) ∙ ap suc (s.count t);
    } where
      past : (y : ℕ) → a < y → (nat_eq e a && nat_eq k n) ≡ true → e < y
      past y l i = grind (arith, nat_tests)

      hit : nat_eq d c ≡ true → (nat_eq e a && nat_eq k n) ≡ true → (nat_eq c d && nat_eq a e) ≡ true
      hit h i = grind (arith, nat_tests)

  by_test : (x : Bool) → nat_eq d c ≡ x → Before (cond x (counted e k r) r) f → Known (cond x (counted e k r) r) (λ y. plus (nat_eq c d && nat_eq y e) (g y)) b
  by_test true h q = count r h q s
  by_test false h q = known_ext r g (λ y. plus (nat_eq c d && nat_eq y e) (g y)) b b (λ y. other y h) (same_table b b (λ y. refl)) s

not_bound : (v : Binding) → is_bound v ≡ false → v ≡ Bound → ⊥
not_bound v h q = clash (sym h ∙ ap is_bound q) where
  clash : false ≡ true → ⊥
  clash h = cc

-- a message is dropped, on a connection that leads nowhere
pub known_dropped : (c d e k : ℕ) (g : ℕ → ℕ) (b : ℕ → Binding) (r : Ear) (f : ℕ) → (nat_eq d c ≡ true → is_bound (b e) ≡ false) → Before (hear c (Message d e k) r) f → Known r g b
    → Known (hear c (Message d e k) r) g b
known_dropped c d e k g b r f void q s = by_test (nat_eq d c) refl q where
  count : (r : Ear) → is_bound (b e) ≡ false → Before (counted e k r) f → Known r g b → Known (counted e k r) g b
  count (Idle a) h q s = absurd q
  count Bad h q s = absurd q
  count (In a n) h q s = by_pair (nat_eq e a && nat_eq k n) refl q where
    by_pair : (x : Bool) → (nat_eq e a && nat_eq k n) ≡ x → Before (cond x (In a (suc n)) Bad) f → Known (cond x (In a (suc n)) Bad) g b
    by_pair false i q = absurd q
    by_pair true i q = record { later = s.later; known = s.known; count = λ t. absurd (not_bound (b a) (ap (λ (z : ℕ). is_bound (b z)) (one i) ∙ h) t) } where
      one : (nat_eq e a && nat_eq k n) ≡ true → a ≡ e
      one i = grind (arith, nat_tests)

  by_test : (x : Bool) → nat_eq d c ≡ x → Before (cond x (counted e k r) r) f → Known (cond x (counted e k r) r) g b
  by_test true h q = count r (void h) q s
  by_test false h q = s

self_test : (c : ℕ) (r s : Ear) (f : ℕ) → Before (cond (nat_eq c c) s r) f → Before s f
self_test c r s f q = subst (λ (x : Bool). Before (cond x s r) f) (self c) q where
  self : (i : ℕ) → nat_eq i i ≡ true
  self i = grind (arith, nat_tests)

-- ---- what comes is expected

-- a message that comes is the next of the connection that is open
pub in_order : (c e k : ℕ) (g : ℕ → ℕ) (b : ℕ → Binding) (r : Ear) (f : ℕ) → Before (hear c (Message c e k) r) f → Known r g b
    → (is_known (b e) ≡ true) × (b e ≡ Bound → (k ≡ g e) × ((y : ℕ) → e < y → g y ≡ 0))
in_order c e k g b r f q s = count r (self_test c r (counted e k r) f q) s where
  count : (r : Ear) → Before (counted e k r) f → Known r g b → (is_known (b e) ≡ true) × (b e ≡ Bound → (k ≡ g e) × ((y : ℕ) → e < y → g y ≡ 0))
  count (Idle a) q s = absurd q
  count Bad q s = absurd q
  count (In a n) q s = by_pair (nat_eq e a && nat_eq k n) refl q where
    by_pair : (x : Bool) → (nat_eq e a && nat_eq k n) ≡ x → Before (cond x (In a (suc n)) Bad) f → (is_known (b e) ≡ true) × (b e ≡ Bound → (k ≡ g e) × ((y : ℕ) → e < y → g y ≡ 0))
    by_pair false i q = absurd q
    by_pair true i q = (
      ap (λ (z : ℕ). is_known (b z)) (one i) ∙ s.known,
      λ t. (num i ∙ sym (s.count (subst (λ (z : ℕ). b z ≡ Bound) (one i) t)) ∙ ap g (sym (one i)), λ y l. (s.later y (past y l i)).0),
    ) where
      one : (nat_eq e a && nat_eq k n) ≡ true → e ≡ a
      one i = grind (arith, nat_tests)

      num : (nat_eq e a && nat_eq k n) ≡ true → k ≡ n
      num i = grind (arith, nat_tests)

      past : (y : ℕ) → e < y → (nat_eq e a && nat_eq k n) ≡ true → a < y
      past y l i = grind (arith, nat_tests)

-- a connection that is created wasn't known
pub created_new : (c e : ℕ) (g : ℕ → ℕ) (b : ℕ → Binding) (r : Ear) (f : ℕ) → Before (hear c (Created c e) r) f → Known r g b → is_known (b e) ≡ false
created_new c e g b r f q s = new r (self_test c r (opened e r) f q) s where
  new : (r : Ear) → Before (opened e r) f → Known r g b → is_known (b e) ≡ false
  new (Idle h) q s = by_test (leb h e) refl q where
    by_test : (x : Bool) → leb h e ≡ x → Before (cond x (In e 0) Bad) f → is_known (b e) ≡ false
    by_test true l q = ap is_known (s e (up l)).1 where
      up : leb h e ≡ true → h ≤ e
      up l = grind (arith, nat_tests)
    by_test false l q = absurd q
  new (In a n) q s = by_test (leb (suc a) e) refl q where
    by_test : (x : Bool) → leb (suc a) e ≡ x → Before (cond x (In e 0) Bad) f → is_known (b e) ≡ false
    by_test true l q = ap is_known (s.later e (up l)).1 where
      up : leb (suc a) e ≡ true → a < e
      up l = grind (arith, nat_tests)
    by_test false l q = absurd q
  new Bad q s = absurd q

-- a connection that is closed was known
pub closed_known : (c e : ℕ) (g : ℕ → ℕ) (b : ℕ → Binding) (r : Ear) (f : ℕ) → Before (hear c (Closed c e) r) f → Known r g b → is_known (b e) ≡ true
closed_known c e g b r f q s = known r (self_test c r (ended e r) f q) s where
  known : (r : Ear) → Before (ended e r) f → Known r g b → is_known (b e) ≡ true
  known (Idle h) q s = absurd q
  known Bad q s = absurd q
  known (In a n) q s = by_test (nat_eq e a) refl q where
    by_test : (x : Bool) → nat_eq e a ≡ x → Before (cond x (Idle (suc a)) Bad) f → is_known (b e) ≡ true
    by_test true h q = ap (λ (z : ℕ). is_known (b z)) (one h) ∙ s.known where
      one : nat_eq e a ≡ true → e ≡ a
      one h = grind (arith, nat_tests)
    by_test false h q = absurd q
