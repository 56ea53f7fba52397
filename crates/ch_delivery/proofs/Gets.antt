-- How many messages of one epoch a reader gets of a word of items, if the target is there.
use Rattle.std.proofs.Common.{◌≡◌, ◌<◌, ◌≤◌, ℕ, ◌+◌, nat_eq, Bool, true, false, cond, ◌&&◌, List, [], ◌∷◌, ◌++◌, Option, refl, ap, ◌∙◌, subst, arith}
use Rattle.std.proofs.lemmas.Bool.Decides.{nat_tests}
use Rattle.ch_delivery.specs.Passage.{Item, Created, Message, Closed, Entry, Said, Again, Got, Rose, Broke, Came, Fell, Stood}
use Rattle.ch_delivery.specs.Log.{plus, same, gots, saids, meant, LawfulGot, Lawful}
use Rattle.ch_delivery.proofs.Counts.{meant_less}

-- whether the connection of pair c and epoch e is bound after the item
abbrev pub step : ℕ → ℕ → Item → Bool → Bool
step c e (Created d f) b = cond (same c e d f) true b
step c e (Message d f k) b = b
step c e (Closed d f) b = cond (same c e d f) false b

-- the same after the items
abbrev pub steps : ℕ → ℕ → List Item → Bool → Bool
steps c e [] b = b
steps c e (item ∷ w) b = steps c e w (step c e item b)

-- the item gets one of its messages, if the connection is bound
abbrev pub gets_one : ℕ → ℕ → Item → Bool → Bool
gets_one c e (Message d f k) b = same c e d f && b
gets_one c e item b = false

-- how many of its messages the items get
abbrev pub gets : ℕ → ℕ → List Item → Bool → ℕ
gets c e [] b = 0
gets c e (item ∷ w) b = plus (gets_one c e item b) (gets c e w (step c e item b))

pub steps_append : (c e : ℕ) (w v : List Item) (b : Bool) → steps c e (w ++ v) b ≡ steps c e v (steps c e w b)
steps_append c e [] v b = refl
steps_append c e (item ∷ w) v b = steps_append c e w v (step c e item b)

plus_add : (b : Bool) (m n : ℕ) → plus b (m + n) ≡ plus b m + n
plus_add true m n = omega arith
plus_add false m n = omega arith

pub gets_append : (c e : ℕ) (w v : List Item) (b : Bool) → gets c e (w ++ v) b ≡ gets c e w b + gets c e v (steps c e w b)
gets_append c e [] v b = omega arith
gets_append c e (item ∷ w) v b = ap (plus (gets_one c e item b)) (gets_append c e w v (step c e item b)) ∙ plus_add (gets_one c e item b) (gets c e w (step c e item b)) (gets c e v (steps c e w (step c e item b)))

-- ---- a connection that is bound already gets no less

up_cond : (x t : Bool) (b a : Bool) → (b ≡ true → a ≡ true) → cond x t b ≡ true → cond x t a ≡ true
up_cond true t b a h q = q
up_cond false t b a h q = h q

step_up : (c e : ℕ) (item : Item) (b a : Bool) → (b ≡ true → a ≡ true) → step c e item b ≡ true → step c e item a ≡ true
step_up c e (Created d f) b a h q = up_cond (same c e d f) true b a h q
step_up c e (Message d f k) b a h q = h q
step_up c e (Closed d f) b a h q = up_cond (same c e d f) false b a h q

pub steps_up : (c e : ℕ) (w : List Item) (b a : Bool) → (b ≡ true → a ≡ true) → steps c e w b ≡ true → steps c e w a ≡ true
steps_up c e [] b a h q = h q
steps_up c e (item ∷ w) b a h q = steps_up c e w (step c e item b) (step c e item a) (step_up c e item b a h) q

one_up : (c e : ℕ) (item : Item) (b a : Bool) → (b ≡ true → a ≡ true) → gets_one c e item b ≡ true → gets_one c e item a ≡ true
one_up c e (Created d f) b a h q = q
one_up c e (Closed d f) b a h q = q
one_up c e (Message d f k) b a h q = by_test (same c e d f) b a h q where
  by_test : (x b a : Bool) → (b ≡ true → a ≡ true) → (x && b) ≡ true → (x && a) ≡ true
  by_test true b a h q = h q
  by_test false b a h q = q

plus_up : (b a : Bool) (m n : ℕ) → (b ≡ true → a ≡ true) → m ≤ n → plus b m ≤ plus a n
plus_up true true m n h le = omega arith
plus_up true false m n h le = absurd (clash (h refl)) where
  clash : false ≡ true → ⊥
  clash h = cc
plus_up false true m n h le = omega arith
plus_up false false m n h le = le

pub gets_up : (c e : ℕ) (w : List Item) (b a : Bool) → (b ≡ true → a ≡ true) → gets c e w b ≤ gets c e w a
gets_up c e [] b a h = omega arith
gets_up c e (item ∷ w) b a h = plus_up (gets_one c e item b) (gets_one c e item a) (gets c e w (step c e item b)) (gets c e w (step c e item a)) (one_up c e item b a h)
    (gets_up c e w (step c e item b) (step c e item a) (step_up c e item b a h))

-- ---- no more messages are got than were said

at_most : (b : Bool) (k n m s : ℕ) → n ≤ s → k < m → k ≡ n → m ≤ s → plus b n ≤ s
at_most true k n m s a h i j = omega arith
at_most false k n m s a h i j = a

more_said : (b : Bool) (n s : ℕ) → n ≤ s → n ≤ plus b s
more_said true n s h = omega arith
more_said false n s h = h

-- of this pair and epoch
module _ (named : ℕ → Bool) (c e : ℕ) where
  got_here : (d f k : ℕ) (r : Option ℕ) (l : List Entry) → gots c e l ≤ saids c e l → LawfulGot (named d) d f k r l → plus (same c e d f) (gots c e l) ≤ saids c e l
  got_here d f k r l h g = by_test (nat_eq c d && nat_eq e f) (λ x. one x) (λ x. two x) where
    one : (nat_eq c d && nat_eq e f) ≡ true → d ≡ c
    one x = grind (arith, nat_tests)

    two : (nat_eq c d && nat_eq e f) ≡ true → f ≡ e
    two x = grind (arith, nat_tests)

    by_test : (x : Bool) → (x ≡ true → d ≡ c) → (x ≡ true → f ≡ e) → plus x (gots c e l) ≤ saids c e l
    by_test false p q = h
    by_test true p q = at_most true k (gots c e l) (meant c e l) (saids c e l) h
        (subst (λ (z : ℕ). k < meant c z l) (q refl) (subst (λ (z : ℕ). k < meant z f l) (p refl) g.said))
        (g.order ∙ ap (λ (z : ℕ). gots z f l) (p refl) ∙ ap (λ (z : ℕ). gots c z l) (q refl)) (meant_less c e l)

  pub gots_less : (l : List Entry) → Lawful named l → gots c e l ≤ saids c e l
  gots_less [] g = omega arith
  gots_less (Said d f k ∷ l) g = more_said (same c e d f) (gots c e l) (saids c e l) (gots_less l g.2)
  gots_less (Again d f ∷ l) g = gots_less l g.1
  gots_less (Got d f k r ∷ l) g = got_here d f k r l (gots_less l g.1) g.0
  gots_less (Broke ∷ l) g = gots_less l g
  gots_less (Stood f ∷ l) g = gots_less l g
  gots_less (Rose i ∷ l) g = gots_less l g
  gots_less (Came i ∷ l) g = gots_less l g
  gots_less (Fell ∷ l) g = gots_less l g
