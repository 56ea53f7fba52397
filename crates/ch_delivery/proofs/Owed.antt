-- What is owed whole is on the way whole, until it is got.
use Rattle.std.proofs.Common.{◌≡◌, ◌<◌, ◌≤◌, ℕ, suc, ◌+◌, nat_eq, Bool, true, false, cond, not, ◌&&◌, List, [], ◌∷◌, ◌++◌, refl, ap, sym, ◌∙◌, subst, arith}
use Rattle.std.proofs.lemmas.Bool.Decides.{nat_tests}
use Rattle.ch_delivery.specs.Passage.{Mark, Unopened, Opened, Broken, Ended, Item, Created, Message, Closed, Said, Again, Passage, is_there, is_bound}
use Rattle.ch_delivery.specs.Moves.{put, noted, marked, onto, written, write, say, reconnect, finish}
use Rattle.ch_delivery.specs.Log.{plus, same, gots, saids}
use Rattle.ch_delivery.specs.Whole.{owed_first}
use Rattle.ch_delivery.proofs.Links.{same_number, put_here}
use Rattle.ch_delivery.proofs.Gets.{steps, gets, steps_append, gets_append}

pub wrong : false ≡ true → ⊥
wrong h = cc

-- With n messages got so far, a reader of the items gets all s that were said, if the connection is bound as b says; and
-- if it is open at its writer, it is bound behind them.
pub record Enough (c e n s : ℕ) (open_now : Type 0) (w : List Item) (b : Bool) : Type 0 where
  pub count : s ≤ n + gets c e w b
  pub lasts : open_now → steps c e w b ≡ true

-- What waits while the link is down, and what stands on the socket while it is up and isn't cut, is W: before the reader
-- comes there, for a reader who knows nothing; and then for the reader as it is.
pub record Streams (W : List Item → Bool → Type 0) (up : Bool) (on at : ℕ) (cut bound : Bool) (waits flown : List Item) : Type 0 where
  pub held : up ≡ false → W waits false
  pub unread : up ≡ true → cut ≡ false → at < on → W flown false
  pub reading : up ≡ true → cut ≡ false → at ≡ on → W flown bound

abbrev pub StreamsOf : ℕ → ℕ → (List Item → Bool → Type 0) → Passage → Type 0
StreamsOf c e W p = Streams W p.up p.on p.at (p.cut p.on) (is_bound (p.bound c e)) p.waits (p.flight p.on)

-- the pair's writer has the connection of epoch e open
abbrev pub OpenAt : ℕ → ℕ → Passage → Type 0
OpenAt c e p = (p.mark c ≡ Opened) × (p.epoch c ≡ e)

-- what is so of an epoch that is owed whole: its target is there, it was begun and isn't broken, and enough is on the way
pub record Owed (c e : ℕ) (p : Passage) : Type 0 where
  pub there : is_there (p.named c) (p.stands c) ≡ true
  pub not_before : e ≤ p.epoch c
  pub not_fresh : p.epoch c ≡ e → p.mark c ≡ Unopened → ⊥
  pub not_broken : p.epoch c ≡ e → p.mark c ≡ Broken → ⊥
  pub streams : StreamsOf c e (Enough c e (gots c e p.log) (saids c e p.log) (OpenAt c e p)) p

-- ---- what is written

-- what is written behind words that are W makes them V
module _ (c e : ℕ) (W V : List Item → Bool → Type 0) (items : List Item) (grows : (w : List Item) (b : Bool) → W w b → V (w ++ items) b) where
  added : (cut : Bool) → cut ≡ false → (w : List Item) (b : Bool) → W w b → V (onto cut w items) b
  added true k w b h = absurd (wrong (sym k))
  added false k w b h = grows w b h

  written_streams : (p : Passage) (u : Bool) → p.up ≡ u → StreamsOf c e W p → StreamsOf c e V (written u items p)
  written_streams p false is s = record {
    held = λ h. grows p.waits false (s.held h);
    unread = λ h k l. absurd (wrong (sym is ∙ h));
    reading = λ h k l. absurd (wrong (sym is ∙ h));
  }
  written_streams p true is s = record {
    held = λ h. absurd (wrong (sym h ∙ is));
    unread = λ h k l. subst (λ (w : List Item). V w false) (sym (put_here p.on (onto (p.cut p.on) (p.flight p.on) items) p.flight)) (added (p.cut p.on) k (p.flight p.on) false (s.unread h k l));
    reading = λ h k l. subst (λ (w : List Item). V w (is_bound (p.bound c e))) (sym (put_here p.on (onto (p.cut p.on) (p.flight p.on) items) p.flight))
        (added (p.cut p.on) k (p.flight p.on) (is_bound (p.bound c e)) (s.reading h k l));
  }

-- an epoch that is owed stays so while this is written, as the log and the marks of p are by now
assemble : (c e : ℕ) (items : List Item) (u : Bool) (p : Passage) → is_there (p.named c) (p.stands c) ≡ true → e ≤ p.epoch c → (p.epoch c ≡ e → p.mark c ≡ Unopened → ⊥) → (p.epoch c ≡ e → p.mark c ≡ Broken → ⊥)
    → StreamsOf c e (Enough c e (gots c e p.log) (saids c e p.log) (OpenAt c e p)) (written u items p) → Owed c e (written u items p)
assemble c e items true p a b f g s = record { there = a; not_before = b; not_fresh = f; not_broken = g; streams = s }
assemble c e items false p a b f g s = record { there = a; not_before = b; not_fresh = f; not_broken = g; streams = s }

-- the words stay, and what they have to be may
pub retold : (c e : ℕ) (W V : List Item → Bool → Type 0) (p : Passage) → ((w : List Item) (b : Bool) → W w b → V w b) → StreamsOf c e W p → StreamsOf c e V p
retold c e W V p f s = record { held = λ h. f p.waits false (s.held h); unread = λ h k l. f (p.flight p.on) false (s.unread h k l); reading = λ h k l. f (p.flight p.on) (is_bound (p.bound c e)) (s.reading h k l) }

-- items that are of another pair or epoch, or close this one
other_items : (c e n s : ℕ) (A B : Type 0) (items : List Item) → (A → B) → ((b : Bool) → gets c e items b ≡ 0) → ((b : Bool) → A → steps c e items b ≡ b)
    → (w : List Item) (b : Bool) → Enough c e n s B w b → Enough c e n s A (w ++ items) b
other_items c e n s A B items back none same_then w b h = record {
  count = let a = gets_append c e w items b in let z = none (steps c e w b) in let m = h.count in omega arith;
  lasts = λ t. steps_append c e w items b ∙ same_then (steps c e w b) t ∙ h.lasts (back t);
}

-- the next message of this epoch
next_item : (c e n s : ℕ) (A B : Type 0) (k : ℕ) → B → (w : List Item) (b : Bool) → Enough c e n s B w b → Enough c e n (suc s) A (w ++ Message c e k ∷ []) b
next_item c e n s A B k is w b h = record {
  count = let a = gets_append c e w (Message c e k ∷ []) b in let z = one (steps c e w b) (h.lasts is) in let m = h.count in omega arith;
  lasts = λ t. steps_append c e w (Message c e k ∷ []) b ∙ h.lasts is;
} where
  self_both : (nat_eq c c && nat_eq e e) ≡ true
  self_both = grind (arith, nat_tests)

  one : (x : Bool) → x ≡ true → gets c e (Message c e k ∷ []) x ≡ 1
  one x h = ap (λ (y : Bool). plus (y && x) 0) self_both ∙ ap (λ (y : Bool). plus y 0) h

-- the first message of this epoch, with its connection
first_items : (c e n : ℕ) (A : Type 0) (k : ℕ) → (w : List Item) (b : Bool) → Enough c e n 1 A (w ++ Created c e ∷ Message c e k ∷ []) b
first_items c e n A k w b = record {
  count = let a = gets_append c e w (Created c e ∷ Message c e k ∷ []) b in let z = one (steps c e w b) in omega arith;
  lasts = λ t. steps_append c e w (Created c e ∷ Message c e k ∷ []) b ∙ opens (steps c e w b);
} where
  self_both : (nat_eq c c && nat_eq e e) ≡ true
  self_both = grind (arith, nat_tests)

  opens : (x : Bool) → cond (same c e c e) true x ≡ true
  opens x = ap (λ (y : Bool). cond y true x) self_both

  one : (x : Bool) → gets c e (Created c e ∷ Message c e k ∷ []) x ≡ 1
  one x = ap (λ (y : Bool). plus (same c e c e && y) 0) (opens x) ∙ ap (λ (y : Bool). plus (y && true) 0) self_both

-- ---- what sending processes do

-- pair d says, in an epoch that isn't this one, or of another pair
module _ (c e d : ℕ) (p : Passage) (miss : same c e d (p.epoch d) ≡ false) (s : Owed c e p) where
  -- the marks of pair d change
  module _ (m : Mark) (k : ℕ) where
    epoch_same : put d (p.epoch d) p.epoch c ≡ p.epoch c
    epoch_same = by_cond (nat_eq c d) (λ h. same_number d c h) where
      by_cond : (x : Bool) → (x ≡ true → d ≡ c) → cond x (p.epoch d) (p.epoch c) ≡ p.epoch c
      by_cond true h = ap p.epoch (h refl)
      by_cond false h = refl

    mark_same : p.epoch c ≡ e → put d m p.mark c ≡ p.mark c
    mark_same h = ap (λ (x : Bool). cond x m (p.mark c)) (apart c d (p.epoch d) miss (λ q. sym h ∙ ap p.epoch q)) where
      apart : (c d g : ℕ) → same c e d g ≡ false → (c ≡ d → e ≡ g) → nat_eq c d ≡ false
      apart c d g h f = by_test (nat_eq c d) refl where
        meet : (c d : ℕ) → nat_eq c d ≡ true → c ≡ d
        meet c d q = grind (arith, nat_tests)

        both : (c d g : ℕ) → nat_eq c d ≡ true → e ≡ g → (nat_eq c d && nat_eq e g) ≡ true
        both c d g q r = grind (arith, nat_tests)

        by_test : (x : Bool) → nat_eq c d ≡ x → x ≡ false
        by_test false q = refl
        by_test true q = absurd (wrong (sym h ∙ both c d g q (f (meet c d q))))

    back : (put d m p.mark c ≡ Opened) × (put d (p.epoch d) p.epoch c ≡ e) → OpenAt c e p
    back q = (sym (mark_same (sym epoch_same ∙ q.1)) ∙ q.0, sym epoch_same ∙ q.1)

    not_before_said : e ≤ put d (p.epoch d) p.epoch c
    not_before_said = subst (λ (z : ℕ). e ≤ z) (sym epoch_same) s.not_before

    not_fresh_said : put d (p.epoch d) p.epoch c ≡ e → put d m p.mark c ≡ Unopened → ⊥
    not_fresh_said h q = s.not_fresh (sym epoch_same ∙ h) (sym (mark_same (sym epoch_same ∙ h)) ∙ q)

    not_broken_said : put d (p.epoch d) p.epoch c ≡ e → put d m p.mark c ≡ Broken → ⊥
    not_broken_said h q = s.not_broken (sym epoch_same ∙ h) (sym (mark_same (sym epoch_same ∙ h)) ∙ q)

  said_same : (k : ℕ) → saids c e (Said d (p.epoch d) k ∷ p.log) ≡ saids c e p.log
  said_same k = ap (λ (x : Bool). plus x (saids c e p.log)) miss

  -- what stays after the entry and the marks
  abbrev After : Mark → Passage
  After m = noted (Said d (p.epoch d) (p.index d)) (marked d m (p.epoch d) (suc (p.index d)) p)

  abbrev Now : Mark → List Item → Bool → Type 0
  Now m w b = Enough c e (gots c e p.log) (saids c e (Said d (p.epoch d) (p.index d) ∷ p.log)) (OpenAt c e (After m)) w b

  entered : (m : Mark) (items : List Item) → ((b : Bool) → gets c e items b ≡ 0) → ((b : Bool) → steps c e items b ≡ b)
      → (w : List Item) (b : Bool) → Enough c e (gots c e p.log) (saids c e p.log) (OpenAt c e p) w b → Now m (w ++ items) b
  entered m items none still w b h = subst (λ (z : ℕ). Enough c e (gots c e p.log) z (OpenAt c e (After m)) (w ++ items) b) (sym (said_same (p.index d)))
      (other_items c e (gots c e p.log) (saids c e p.log) (OpenAt c e (After m)) (OpenAt c e p) items (back m (p.index d)) none (λ x t. still x) w b h)

  said_with : (m : Mark) (items : List Item) → ((b : Bool) → gets c e items b ≡ 0) → ((b : Bool) → steps c e items b ≡ b) → Owed c e (write items (After m))
  said_with m items none still = assemble c e items p.up (After m) s.there (not_before_said m (p.index d)) (not_fresh_said m (p.index d)) (not_broken_said m (p.index d))
      (written_streams c e (Enough c e (gots c e p.log) (saids c e p.log) (OpenAt c e p)) (Now m) items (entered m items none still) (After m) p.up refl s.streams)

  none_of : (x : Bool) → plus (same c e d (p.epoch d) && x) 0 ≡ 0
  none_of x = ap (λ (y : Bool). plus (y && x) 0) miss

  still_so : (x : Bool) → cond (same c e d (p.epoch d)) true x ≡ x
  still_so x = ap (λ (y : Bool). cond y true x) miss

  pub say_other : (m : Mark) → Owed c e (say m d p)
  say_other Unopened = said_with Opened (Created d (p.epoch d) ∷ Message d (p.epoch d) (p.index d) ∷ []) (λ b. none_of (cond (same c e d (p.epoch d)) true b)) still_so
  say_other Opened = said_with Opened (Message d (p.epoch d) (p.index d) ∷ []) none_of (λ b. refl)
  say_other Broken = record {
    there = s.there;
    not_before = not_before_said Broken (p.index d);
    not_fresh = not_fresh_said Broken (p.index d);
    not_broken = not_broken_said Broken (p.index d);
    streams = retold c e (Enough c e (gots c e p.log) (saids c e p.log) (OpenAt c e p)) (Now Broken) p
        (λ w b h. record { count = subst (λ (z : ℕ). z ≤ gots c e p.log + gets c e w b) (sym (said_same (p.index d))) h.count; lasts = λ t. h.lasts (back Broken (p.index d) t) }) s.streams;
  }
  say_other Ended = s

-- the pair says in this epoch
module _ (c : ℕ) (p : Passage) where
  own_epoch : put c (p.epoch c) p.epoch c ≡ p.epoch c
  own_epoch = put_here c (p.epoch c) p.epoch

  own_mark : put c Opened p.mark c ≡ Opened
  own_mark = put_here c Opened p.mark

  one_more : (n : ℕ) → plus (same c (p.epoch c) c (p.epoch c)) n ≡ suc n
  one_more n = ap (λ (x : Bool). plus x n) (self_both (p.epoch c)) where
    self_both : (e : ℕ) → (nat_eq c c && nat_eq e e) ≡ true
    self_both e = grind (arith, nat_tests)

  abbrev Said_it : Passage
  Said_it = noted (Said c (p.epoch c) (p.index c)) (marked c Opened (p.epoch c) (suc (p.index c)) p)

  open_mark : (m : Mark) → put c Opened p.mark c ≡ m → (Opened ≡ m → ⊥) → ⊥
  open_mark m h not = not (sym own_mark ∙ h)

  said_here : (items : List Item) → is_there (p.named c) (p.stands c) ≡ true
      → StreamsOf c (p.epoch c) (Enough c (p.epoch c) (gots c (p.epoch c) p.log) (saids c (p.epoch c) (Said c (p.epoch c) (p.index c) ∷ p.log)) (OpenAt c (p.epoch c) Said_it)) (write items Said_it)
      → Owed c (p.epoch c) (write items Said_it)
  said_here items there streams = assemble c (p.epoch c) items p.up Said_it there (self_le own_epoch) (λ h q. open_mark Unopened q fresh_not) (λ h q. open_mark Broken q broken_not) streams where
    self_le : (put c (p.epoch c) p.epoch c ≡ p.epoch c) → p.epoch c ≤ put c (p.epoch c) p.epoch c
    self_le h = subst (λ (z : ℕ). p.epoch c ≤ z) (sym h) (omega arith)

    fresh_not : Opened ≡ Unopened → ⊥
    fresh_not h = cc

    broken_not : Opened ≡ Broken → ⊥
    broken_not h = cc

  -- the first message of an epoch
  first_owed : is_there (p.named c) (p.stands c) ≡ true → saids c (p.epoch c) p.log ≡ 0 → Owed c (p.epoch c) (say Unopened c p)
  first_owed there none = said_here (Created c (p.epoch c) ∷ Message c (p.epoch c) (p.index c) ∷ []) there
      (written_streams c (p.epoch c) (λ w b. Unit {0}) (Enough c (p.epoch c) (gots c (p.epoch c) p.log) (saids c (p.epoch c) (Said c (p.epoch c) (p.index c) ∷ p.log)) (OpenAt c (p.epoch c) Said_it))
      (Created c (p.epoch c) ∷ Message c (p.epoch c) (p.index c) ∷ [])
      (λ w b t. subst (λ (z : ℕ). Enough c (p.epoch c) (gots c (p.epoch c) p.log) z (OpenAt c (p.epoch c) Said_it) (w ++ Created c (p.epoch c) ∷ Message c (p.epoch c) (p.index c) ∷ []) b)
      (sym (one_more (saids c (p.epoch c) p.log) ∙ ap suc none)) (first_items c (p.epoch c) (gots c (p.epoch c) p.log) (OpenAt c (p.epoch c) Said_it) (p.index c) w b)) Said_it p.up refl
      (record { held = λ h. tt; unread = λ h k l. tt; reading = λ h k l. tt }))

  -- a later one
  next_owed : p.mark c ≡ Opened → Owed c (p.epoch c) p → Owed c (p.epoch c) (say Opened c p)
  next_owed is s = said_here (Message c (p.epoch c) (p.index c) ∷ []) s.there
      (written_streams c (p.epoch c) (Enough c (p.epoch c) (gots c (p.epoch c) p.log) (saids c (p.epoch c) p.log) (OpenAt c (p.epoch c) p))
      (Enough c (p.epoch c) (gots c (p.epoch c) p.log) (saids c (p.epoch c) (Said c (p.epoch c) (p.index c) ∷ p.log)) (OpenAt c (p.epoch c) Said_it)) (Message c (p.epoch c) (p.index c) ∷ [])
      (λ w b h. subst (λ (z : ℕ). Enough c (p.epoch c) (gots c (p.epoch c) p.log) z (OpenAt c (p.epoch c) Said_it) (w ++ Message c (p.epoch c) (p.index c) ∷ []) b) (sym (one_more (saids c (p.epoch c) p.log)))
      (next_item c (p.epoch c) (gots c (p.epoch c) p.log) (saids c (p.epoch c) p.log) (OpenAt c (p.epoch c) Said_it) (OpenAt c (p.epoch c) p) (p.index c) (is, refl) w b h)) Said_it p.up refl s.streams)

  say_own : (m : Mark) (owed : Bool) → p.mark c ≡ m → (m ≡ Unopened → saids c (p.epoch c) p.log ≡ 0) → (owed ≡ true → Owed c (p.epoch c) p) → owed_first m (is_there (p.named c) (p.stands c)) owed ≡ true → Owed c (p.epoch c) (say m c p)
  say_own Unopened owed is none s k = first_owed k (none refl)
  say_own Opened owed is none s k = next_owed is (s k)
  say_own Broken owed is none s k = absurd ((s k).not_broken refl is)
  say_own Ended owed is none s k = s k

pub say_owed : (c e d : ℕ) (p : Passage) (owed : Bool) → (p.mark d ≡ Unopened → saids d (p.epoch d) p.log ≡ 0) → (owed ≡ true → Owed c e p)
    → cond (nat_eq c d && nat_eq e (p.epoch d)) (owed_first (p.mark d) (is_there (p.named d) (p.stands d)) owed) owed ≡ true → Owed c e (say (p.mark d) d p)
say_owed c e d p owed none s k = by_test (nat_eq c d && nat_eq e (p.epoch d)) refl (one c d e (p.epoch d)) (two c d e (p.epoch d)) k where
  one : (c d e f : ℕ) → (nat_eq c d && nat_eq e f) ≡ true → d ≡ c
  one c d e f h = grind (arith, nat_tests)

  two : (c d e f : ℕ) → (nat_eq c d && nat_eq e f) ≡ true → f ≡ e
  two c d e f h = grind (arith, nat_tests)

  by_test : (x : Bool) → (nat_eq c d && nat_eq e (p.epoch d)) ≡ x → (x ≡ true → d ≡ c) → (x ≡ true → p.epoch d ≡ e) → cond x (owed_first (p.mark d) (is_there (p.named d) (p.stands d)) owed) owed ≡ true → Owed c e (say (p.mark d) d p)
  by_test false h a b k = say_other c e d p h (s k) (p.mark d)
  by_test true h a b k = subst (λ (z : ℕ). Owed z e (say (p.mark d) d p)) (a refl) (subst (λ (z : ℕ). Owed d z (say (p.mark d) d p)) (b refl)
      (say_own d p (p.mark d) owed refl none (λ t. subst (λ (z : ℕ). Owed z (p.epoch d) p) (sym (a refl)) (subst (λ (z : ℕ). Owed c z p) (sym (b refl)) (s t))) k))

-- Pair d leaves its epoch: it gets the mark m, which isn't open, in epoch f, and its connection is closed or not.
module _ (c e d : ℕ) (p : Passage) (s : Owed c e p) (m : Mark) (f k : ℕ) (shut : m ≡ Opened → ⊥) (later : p.epoch d ≤ f) (fresh : m ≡ Unopened → p.epoch d < f) (sound : m ≡ Broken → ⊥) where
  leaves : (q : Passage) → q ≡ marked d m f k p → (x : Bool) → nat_eq c d ≡ x → (cond x m (p.mark c) ≡ Opened) × (cond x f (p.epoch c) ≡ e) → OpenAt c e p
  leaves q is true h t = absurd (shut t.0)
  leaves q is false h t = t

  back_from : OpenAt c e (marked d m f k p) → OpenAt c e p
  back_from t = leaves (marked d m f k p) refl (nat_eq c d) refl t

  owed_before : e ≤ put d f p.epoch c
  owed_before = by_cond (nat_eq c d) (λ h. same_number d c h) where
    by_cond : (x : Bool) → (x ≡ true → d ≡ c) → e ≤ cond x f (p.epoch c)
    by_cond false h = s.not_before
    by_cond true h = let b = s.not_before in let g = subst (λ (z : ℕ). p.epoch z ≤ f) (h refl) later in omega arith

  owed_fresh : put d f p.epoch c ≡ e → put d m p.mark c ≡ Unopened → ⊥
  owed_fresh = by_cond (nat_eq c d) (λ h. same_number d c h) where
    by_cond : (x : Bool) → (x ≡ true → d ≡ c) → cond x f (p.epoch c) ≡ e → cond x m (p.mark c) ≡ Unopened → ⊥
    by_cond false h a b = s.not_fresh a b
    by_cond true h a b = beyond (fresh b) where
      beyond : p.epoch d < f → ⊥
      beyond l = let g = s.not_before in let i = subst (λ (z : ℕ). p.epoch z < f) (h refl) l in absurd (omega arith)

  owed_sound : put d f p.epoch c ≡ e → put d m p.mark c ≡ Broken → ⊥
  owed_sound = by_cond (nat_eq c d) where
    by_cond : (x : Bool) → cond x f (p.epoch c) ≡ e → cond x m (p.mark c) ≡ Broken → ⊥
    by_cond false a b = s.not_broken a b
    by_cond true a b = sound b

  pub left : Owed c e (marked d m f k p)
  left = record {
    there = s.there;
    not_before = owed_before;
    not_fresh = owed_fresh;
    not_broken = owed_sound;
    streams = retold c e (Enough c e (gots c e p.log) (saids c e p.log) (OpenAt c e p)) (Enough c e (gots c e p.log) (saids c e p.log) (OpenAt c e (marked d m f k p))) p
        (λ w b h. record { count = h.count; lasts = λ t. h.lasts (back_from t) }) s.streams;
  }

  closes : (b : Bool) → OpenAt c e (marked d m f k p) → steps c e (Closed d (p.epoch d) ∷ []) b ≡ b
  closes b t = by_cond (nat_eq c d) t where
    by_cond : (x : Bool) → (cond x m (p.mark c) ≡ Opened) × (cond x f (p.epoch c) ≡ e) → cond (x && nat_eq e (p.epoch d)) false b ≡ b
    by_cond true t = absurd (shut t.0)
    by_cond false t = refl

  pub closed : Owed c e (write (Closed d (p.epoch d) ∷ []) (marked d m f k p))
  closed = assemble c e (Closed d (p.epoch d) ∷ []) p.up (marked d m f k p) s.there owed_before owed_fresh owed_sound
      (written_streams c e (Enough c e (gots c e p.log) (saids c e p.log) (OpenAt c e p)) (Enough c e (gots c e p.log) (saids c e p.log) (OpenAt c e (marked d m f k p))) (Closed d (p.epoch d) ∷ [])
      (other_items c e (gots c e p.log) (saids c e p.log) (OpenAt c e (marked d m f k p)) (OpenAt c e p) (Closed d (p.epoch d) ∷ []) back_from (λ b. refl) closes) (marked d m f k p) p.up refl s.streams)

-- an entry that says nothing and gets nothing
again_noted : (c e d f : ℕ) (p : Passage) → Owed c e p → Owed c e (noted (Again d f) p)
again_noted c e d f p s = record { there = s.there; not_before = s.not_before; not_fresh = s.not_fresh; not_broken = s.not_broken; streams = s.streams }

never_open : Unopened ≡ Opened → ⊥
never_open h = cc

never_broken : Unopened ≡ Broken → ⊥
never_broken h = cc

ended_open : Ended ≡ Opened → ⊥
ended_open h = cc

ended_fresh : Ended ≡ Unopened → ⊥
ended_fresh h = cc

ended_broken : Ended ≡ Broken → ⊥
ended_broken h = cc

next_le : (n : ℕ) → n ≤ suc n
next_le n = omega arith

next_less : (n : ℕ) → n < suc n
next_less n = omega arith

self_le : (n : ℕ) → n ≤ n
self_le n = omega arith

pub reconnect_owed : (c e d : ℕ) (p : Passage) (m : Mark) → Owed c e p → Owed c e (reconnect m d p)
reconnect_owed c e d p Unopened s = again_noted c e d (suc (p.epoch d)) (marked d Unopened (suc (p.epoch d)) 0 p) (left c e d p s Unopened (suc (p.epoch d)) 0 never_open (next_le (p.epoch d)) (λ h. next_less (p.epoch d)) never_broken)
reconnect_owed c e d p Broken s = again_noted c e d (suc (p.epoch d)) (marked d Unopened (suc (p.epoch d)) 0 p) (left c e d p s Unopened (suc (p.epoch d)) 0 never_open (next_le (p.epoch d)) (λ h. next_less (p.epoch d)) never_broken)
reconnect_owed c e d p Opened s = closed c e d (noted (Again d (suc (p.epoch d))) p) (again_noted c e d (suc (p.epoch d)) p s) Unopened (suc (p.epoch d)) 0 never_open (next_le (p.epoch d)) (λ h. next_less (p.epoch d)) never_broken
reconnect_owed c e d p Ended s = s

pub finish_owed : (c e d : ℕ) (p : Passage) (m : Mark) → Owed c e p → Owed c e (finish m d p)
finish_owed c e d p Opened s = closed c e d p s Ended (p.epoch d) (p.index d) ended_open (self_le (p.epoch d)) (λ h. absurd (ended_fresh h)) ended_broken
finish_owed c e d p Unopened s = left c e d p s Ended (p.epoch d) (p.index d) ended_open (self_le (p.epoch d)) (λ h. absurd (ended_fresh h)) ended_broken
finish_owed c e d p Broken s = left c e d p s Ended (p.epoch d) (p.index d) ended_open (self_le (p.epoch d)) (λ h. absurd (ended_fresh h)) ended_broken
finish_owed c e d p Ended s = left c e d p s Ended (p.epoch d) (p.index d) ended_open (self_le (p.epoch d)) (λ h. absurd (ended_fresh h)) ended_broken
