-- Hearing one pair: how far in its items a reader is, or the writer, and how more items lead on from there.
use Rattle.std.proofs.Common.{◌≡◌, ◌<◌, ◌≤◌, ℕ, suc, nat_eq, Bool, true, false, cond, ◌&&◌, List, [], ◌∷◌, ◌++◌, refl, sym, ◌∙◌, subst, arith}
use Rattle.std.proofs.lemmas.Bool.Decides.{nat_tests}
use lib.Dec.{leb}
use Rattle.ch_delivery.specs.Passage.{Mark, Unopened, Opened, Broken, Ended, Item, Created, Message, Closed}

-- Idle: no connection is open, and none of an epoch below f is to come. In: within the connection of epoch e, after n of
-- its messages. Bad: something came that has no place there
pub data Ear : Type 0 where
  Idle : (f : ℕ) → Ear
  In : (e n : ℕ) → Ear
  Bad : Ear

-- a connection is created: of an epoch not below what may come, or later than the one that is open
abbrev pub opened : ℕ → Ear → Ear
opened e (Idle f) = cond (leb f e) (In e 0) Bad
opened e (In d n) = cond (leb (suc d) e) (In e 0) Bad
opened e Bad = Bad

-- a message comes: the next one, on the connection that is open
abbrev pub counted : ℕ → ℕ → Ear → Ear
counted e k (Idle f) = Bad
counted e k (In d n) = cond (nat_eq e d && nat_eq k n) (In d (suc n)) Bad
counted e k Bad = Bad

-- the connection that is open is closed
abbrev pub ended : ℕ → Ear → Ear
ended e (Idle f) = Bad
ended e (In d n) = cond (nat_eq e d) (Idle (suc d)) Bad
ended e Bad = Bad

-- an item is heard by who hears pair c: those of other pairs change nothing
abbrev pub hear : ℕ → Item → Ear → Ear
hear c (Created d e) s = cond (nat_eq d c) (opened e s) s
hear c (Message d e k) s = cond (nat_eq d c) (counted e k s) s
hear c (Closed d e) s = cond (nat_eq d c) (ended e s) s

-- several items are
abbrev pub heard : ℕ → List Item → Ear → Ear
heard c [] s = s
heard c (item ∷ w) s = heard c w (hear c item s)

-- whatever was heard is of epochs below f
abbrev pub Before : Ear → ℕ → Type 0
Before (Idle g) f = g ≤ f
Before (In e n) f = e < f
Before Bad f = ⊥

-- r is not beyond s: what may follow s may follow r. Bad is beyond all.
abbrev pub Le : Ear → Ear → Type 0
Le r (Idle f) = Before r f
Le r (In e n) = r ≡ In e n
Le r Bad = Unit {0}

pub le_self : (r : Ear) → Le r r
le_self (Idle f) = omega arith
le_self (In e n) = refl
le_self Bad = tt

pub before_more : (r : Ear) (f g : ℕ) → f ≤ g → Before r f → Before r g
before_more (Idle h) f g le b = omega arith
before_more (In e n) f g le b = omega arith
before_more Bad f g le b = b

pub le_trans : (r s t : Ear) → Le r s → Le s t → Le r t
le_trans r s Bad a b = tt
le_trans r (Idle f) (Idle g) a b = before_more r f g b a
le_trans r (In e n) (Idle g) a b = subst (λ (z : Ear). Before z g) (sym a) b
le_trans r Bad (Idle g) a b = absurd b
le_trans r (Idle f) (In e n) a b = absurd (clash b) where
  clash : Idle f ≡ In e n → ⊥
  clash h = cc
le_trans r (In d m) (In e n) a b = a ∙ b
le_trans r Bad (In e n) a b = absurd (clash b) where
  clash : Bad ≡ In e n → ⊥
  clash h = cc

opened_mono : (r : Ear) (f e : ℕ) → Before r f → Le (opened e r) (opened e (Idle f))
opened_mono (Idle g) f e b = by_test (leb g e) (leb f e) refl refl where
  by_test : (x y : Bool) → leb g e ≡ x → leb f e ≡ y → Le (cond x (In e 0) Bad) (cond y (In e 0) Bad)
  by_test x false h k = tt
  by_test true true h k = refl
  by_test false true h k = absurd (wrong h k) where
    wrong : leb g e ≡ false → leb f e ≡ true → ⊥
    wrong h k = grind (arith, nat_tests)
opened_mono (In d n) f e b = by_test (leb (suc d) e) (leb f e) refl refl where
  by_test : (x y : Bool) → leb (suc d) e ≡ x → leb f e ≡ y → Le (cond x (In e 0) Bad) (cond y (In e 0) Bad)
  by_test x false h k = tt
  by_test true true h k = refl
  by_test false true h k = absurd (wrong h k) where
    wrong : leb (suc d) e ≡ false → leb f e ≡ true → ⊥
    wrong h k = grind (arith, nat_tests)
opened_mono Bad f e b = absurd b

at_cond : (b : Bool) (r r2 s s2 : Ear) → Le r s → Le r2 s2 → Le (cond b r r2) (cond b s s2)
at_cond true r r2 s s2 a b = a
at_cond false r r2 s s2 a b = b

flat : (b : Bool) → cond b Bad Bad ≡ Bad
flat true = refl
flat false = refl

pub hear_bad : (c : ℕ) (item : Item) → hear c item Bad ≡ Bad
hear_bad c (Created d e) = flat (nat_eq d c)
hear_bad c (Message d e k) = flat (nat_eq d c)
hear_bad c (Closed d e) = flat (nat_eq d c)

pub hear_mono : (c : ℕ) (item : Item) (r s : Ear) → Le r s → Le (hear c item r) (hear c item s)
hear_mono c item r Bad a = subst (Le (hear c item r)) (sym (hear_bad c item)) tt
hear_mono c item r (In e n) a = subst (λ (z : Ear). Le (hear c item r) (hear c item z)) a (le_self (hear c item r))
hear_mono c (Created d e) r (Idle f) a = at_cond (nat_eq d c) (opened e r) r (opened e (Idle f)) (Idle f) (opened_mono r f e a) a
hear_mono c (Message d e k) r (Idle f) a = at_cond (nat_eq d c) (counted e k r) r Bad (Idle f) tt a
hear_mono c (Closed d e) r (Idle f) a = at_cond (nat_eq d c) (ended e r) r Bad (Idle f) tt a

pub heard_mono : (c : ℕ) (w : List Item) (r s : Ear) → Le r s → Le (heard c w r) (heard c w s)
heard_mono c [] r s a = a
heard_mono c (item ∷ w) r s a = heard_mono c w (hear c item r) (hear c item s) (hear_mono c item r s a)

pub heard_append : (c : ℕ) (w v : List Item) (s : Ear) → heard c (w ++ v) s ≡ heard c v (heard c w s)
heard_append c [] v s = refl
heard_append c (item ∷ w) v s = heard_append c w v (hear c item s)

opened_before : (s : Ear) (e f : ℕ) → Before (opened e s) f → Before s f
opened_before (Idle g) e f b = by_test (leb g e) refl b where
  by_test : (x : Bool) → leb g e ≡ x → Before (cond x (In e 0) Bad) f → g ≤ f
  by_test true h b = near h b where
    near : leb g e ≡ true → e < f → g ≤ f
    near h b = grind (arith, nat_tests)
  by_test false h b = absurd b
opened_before (In d n) e f b = by_test (leb (suc d) e) refl b where
  by_test : (x : Bool) → leb (suc d) e ≡ x → Before (cond x (In e 0) Bad) f → d < f
  by_test true h b = near h b where
    near : leb (suc d) e ≡ true → e < f → d < f
    near h b = grind (arith, nat_tests)
  by_test false h b = absurd b
opened_before Bad e f b = b

counted_before : (s : Ear) (e k f : ℕ) → Before (counted e k s) f → Before s f
counted_before (Idle g) e k f b = absurd b
counted_before (In d n) e k f b = by_test (nat_eq e d && nat_eq k n) b where
  by_test : (x : Bool) → Before (cond x (In d (suc n)) Bad) f → d < f
  by_test true b = b
  by_test false b = absurd b
counted_before Bad e k f b = b

ended_before : (s : Ear) (e f : ℕ) → Before (ended e s) f → Before s f
ended_before (Idle g) e f b = absurd b
ended_before (In d n) e f b = by_test (nat_eq e d) b where
  by_test : (x : Bool) → Before (cond x (Idle (suc d)) Bad) f → d < f
  by_test true b = omega arith
  by_test false b = absurd b
ended_before Bad e f b = b

either : (x : Bool) (r s : Ear) (f : ℕ) → (Before r f → Before s f) → Before (cond x r s) f → Before s f
either true r s f h b = h b
either false r s f h b = b

pub hear_before : (c : ℕ) (item : Item) (s : Ear) (f : ℕ) → Before (hear c item s) f → Before s f
hear_before c (Created d e) s f b = either (nat_eq d c) (opened e s) s f (opened_before s e f) b
hear_before c (Message d e k) s f b = either (nat_eq d c) (counted e k s) s f (counted_before s e k f) b
hear_before c (Closed d e) s f b = either (nat_eq d c) (ended e s) s f (ended_before s e f) b

pub heard_before : (c : ℕ) (w : List Item) (s : Ear) (f : ℕ) → Before (heard c w s) f → Before s f
heard_before c [] s f b = b
heard_before c (item ∷ w) s f b = hear_before c item s f (heard_before c w (hear c item s) f b)

-- where the writer of a pair is, by its mark
abbrev pub tail : Mark → ℕ → ℕ → Ear
tail Unopened e k = Idle e
tail Opened e k = In e k
tail Broken e k = Idle (suc e)
tail Ended e k = Idle (suc e)

-- the first epoch of which nothing is written yet
abbrev pub cap : Mark → ℕ → ℕ
cap Unopened e = e
cap m e = suc e

-- what is written is below it
pub tail_cap : (m : Mark) (e k : ℕ) → Before (tail m e k) (cap m e)
tail_cap Unopened e k = omega arith
tail_cap Opened e k = omega arith
tail_cap Broken e k = omega arith
tail_cap Ended e k = omega arith

-- a reader that leaves its socket for another
abbrev pub quit : Ear → Ear
quit (Idle f) = Idle f
quit (In e n) = Idle (suc e)
quit Bad = Bad

pub quit_before : (r : Ear) (f : ℕ) → Before r f → Before (quit r) f
quit_before (Idle g) f b = b
quit_before (In e n) f b = omega arith
quit_before Bad f b = b
