-- What the log says of a pair's epoch and index, and that what is on the way was said.
use Rattle.std.proofs.Common.{◌≡◌, ◌<◌, ◌≤◌, ℕ, suc, nat_eq, Bool, true, false, cond, not, ◌&&◌, List, [], ◌∷◌, ◌++◌, Option, refl, ap, sym, ◌∙◌, subst, arith}
use Rattle.std.proofs.lemmas.Bool.Decides.{nat_tests}
use Rattle.ch_delivery.specs.Passage.{Mark, Unopened, Opened, Broken, Ended, Item, Created, Message, Closed, Entry, Said, Again, Got, Rose, Broke, Came, Fell, Stood, Passage}
use Rattle.ch_delivery.specs.Moves.{put, mark_lost, epoch_lost, index_lost}
use Rattle.ch_delivery.specs.Log.{plus, same, saids, epoch_of, has_broken, meant}
use Rattle.ch_delivery.proofs.Links.{same_number, self_number}

-- Of pair c, whose target is a name or not, with this mark, epoch and next index: the log counts its epoch, until its
-- process is over, and its messages, of which none is of a later epoch. An unopened pair has said none in its epoch, an
-- open one has, and all before a break. With a name a pair is never broken.
pub record Counts (name : Bool) (c : ℕ) (m : Mark) (e k : ℕ) (l : List Entry) : Type 0 where
  pub epoch : (m ≡ Ended → ⊥) → e ≡ epoch_of name c l
  pub index : k ≡ saids c e l
  pub later : (f : ℕ) → e < f → saids c f l ≡ 0
  pub fresh : m ≡ Unopened → k ≡ 0
  pub some : m ≡ Opened → 0 < k
  pub whole : m ≡ Opened → (has_broken c e l ≡ false) × (meant c e l ≡ k)
  pub goes_on : name ≡ true → m ≡ Broken → ⊥

plus_none : (b : Bool) (n : ℕ) → plus b n ≡ 0 → n ≡ 0
plus_none true n h = omega arith
plus_none false n h = h

-- an epoch with no message hasn't broken
pub unbroken : (c e : ℕ) (l : List Entry) → saids c e l ≡ 0 → has_broken c e l ≡ false
unbroken c e [] h = refl
unbroken c e (Broke ∷ l) h = ap (λ (n : ℕ). not (nat_eq n 0)) h
unbroken c e (Said d f k ∷ l) h = unbroken c e l (plus_none (same c e d f) (saids c e l) h)
unbroken c e (Got d f k r ∷ l) h = unbroken c e l h
unbroken c e (Again d f ∷ l) h = unbroken c e l h
unbroken c e (Stood f ∷ l) h = unbroken c e l h
unbroken c e (Rose i ∷ l) h = unbroken c e l h
unbroken c e (Came i ∷ l) h = unbroken c e l h
unbroken c e (Fell ∷ l) h = unbroken c e l h

-- what was said before the break is no more than what was said
pub meant_less : (c e : ℕ) (l : List Entry) → meant c e l ≤ saids c e l
meant_less c e [] = omega arith
meant_less c e (Broke ∷ l) = meant_less c e l
meant_less c e (Got d f k r ∷ l) = meant_less c e l
meant_less c e (Again d f ∷ l) = meant_less c e l
meant_less c e (Stood f ∷ l) = meant_less c e l
meant_less c e (Rose i ∷ l) = meant_less c e l
meant_less c e (Came i ∷ l) = meant_less c e l
meant_less c e (Fell ∷ l) = meant_less c e l
meant_less c e (Said d f k ∷ l) = here (same c e d f) (has_broken c e l) (meant c e l) (saids c e l) (meant_less c e l) where
  here : (a b : Bool) (m n : ℕ) → m ≤ n → plus (a && not b) m ≤ plus a n
  here true true m n h = omega arith
  here true false m n h = omega arith
  here false b m n h = h

pub unmeant : (c e : ℕ) (l : List Entry) → saids c e l ≡ 0 → meant c e l ≡ 0
unmeant c e l h = let a = meant_less c e l in omega arith

-- all messages of an epoch that goes on are counted
meant_now : (name : Bool) (c : ℕ) (m : Mark) (e k : ℕ) (l : List Entry) → (m ≡ Broken → ⊥) → (m ≡ Ended → ⊥) → Counts name c m e k l → (has_broken c e l ≡ false) × (meant c e l ≡ k)
meant_now name c Opened e k l h g s = s.whole refl
meant_now name c Broken e k l h g s = absurd (h refl)
meant_now name c Ended e k l h g s = absurd (g refl)
meant_now name c Unopened e k l h g s = (unbroken c e l none, unmeant c e l none ∙ sym (s.fresh refl)) where
  none : saids c e l ≡ 0
  none = sym s.index ∙ s.fresh refl

-- the next message counts
pub meant_next : (name : Bool) (d : ℕ) (m : Mark) (e k : ℕ) (l : List Entry) → (m ≡ Broken → ⊥) → (m ≡ Ended → ⊥) → Counts name d m e k l → meant d e (Said d e k ∷ l) ≡ suc k
meant_next name d m e k l h g s = ap (λ (b : Bool). plus b (meant d e l)) (hit (has_broken d e l) (meant_now name d m e k l h g s).0) ∙ ap suc (meant_now name d m e k l h g s).1 where
  hit : (b : Bool) → b ≡ false → (nat_eq d d && nat_eq e e && not b) ≡ true
  hit b h = grind (arith, nat_tests)

-- the mark after a message
abbrev pub next_mark : Mark → Mark
next_mark Unopened = Opened
next_mark m = m

said_own : (name : Bool) (d : ℕ) (m : Mark) (e k : ℕ) (l : List Entry) → (m ≡ Ended → ⊥) → Counts name d m e k l → Counts name d (next_mark m) e (suc k) (Said d e k ∷ l)
said_own name d m e k l live s = record {
  epoch = λ h. s.epoch live;
  index = ap suc s.index ∙ sym (ap (λ (b : Bool). plus b (saids d e l)) hit);
  later = λ f h. ap (λ (b : Bool). plus b (saids d f l)) (miss f h) ∙ s.later f h;
  fresh = λ h. absurd (never m h);
  some = λ h. omega arith;
  whole = λ h. ((meant_now name d m e k l (sound m h) live s).0, meant_next name d m e k l (sound m h) live s);
  goes_on = λ n h. s.goes_on n (was m h);
} where
  hit : (nat_eq d d && nat_eq e e) ≡ true
  hit = grind (arith, nat_tests)

  miss : (f : ℕ) → e < f → (nat_eq d d && nat_eq f e) ≡ false
  miss f h = grind (arith, nat_tests)

  never : (m : Mark) → next_mark m ≡ Unopened → ⊥
  never Unopened h = cc
  never Opened h = cc
  never Broken h = cc
  never Ended h = cc

  sound : (m : Mark) → next_mark m ≡ Opened → m ≡ Broken → ⊥
  sound Unopened h g = cc
  sound Opened h g = cc
  sound Broken h g = cc
  sound Ended h g = cc

  was : (m : Mark) → next_mark m ≡ Broken → m ≡ Broken
  was Unopened h = absurd (clash h) where
    clash : Opened ≡ Broken → ⊥
    clash h = cc
  was Opened h = h
  was Broken h = h
  was Ended h = h

miss_pair : (c d e f : ℕ) (b : Bool) → nat_eq c d ≡ false → (nat_eq c d && nat_eq e f && b) ≡ false
miss_pair c d e f b h = grind (arith, nat_tests)

miss_two : (c d e f : ℕ) → nat_eq c d ≡ false → (nat_eq c d && nat_eq e f) ≡ false
miss_two c d e f h = grind (arith, nat_tests)

said_other : (name : Bool) (c d f n : ℕ) (m : Mark) (e k : ℕ) (l : List Entry) → nat_eq c d ≡ false → Counts name c m e k l → Counts name c m e k (Said d f n ∷ l)
said_other name c d f n m e k l h s = record {
  epoch = s.epoch;
  index = s.index ∙ sym (ap (λ (b : Bool). plus b (saids c e l)) (miss_two c d e f h));
  later = λ g x. ap (λ (b : Bool). plus b (saids c g l)) (miss_two c d g f h) ∙ s.later g x;
  fresh = s.fresh;
  some = s.some;
  whole = λ x. ((s.whole x).0, ap (λ (b : Bool). plus b (meant c e l)) (miss_pair c d e f (not (has_broken c e l)) h) ∙ (s.whole x).1);
  goes_on = s.goes_on;
}

again_own : (name : Bool) (d : ℕ) (m : Mark) (e k g : ℕ) (l : List Entry) → (m ≡ Ended → ⊥) → Counts name d m e k l → Counts name d Unopened (suc e) 0 (Again d g ∷ l)
again_own name d m e k g l live s = record {
  epoch = λ h. ap suc (s.epoch live) ∙ sym (ap (λ (b : Bool). plus b (epoch_of name d l)) (self_number d));
  index = sym (s.later (suc e) (omega arith));
  later = λ f h. s.later f (omega arith);
  fresh = λ h. refl;
  some = λ h. absurd (never h);
  whole = λ h. absurd (never h);
  goes_on = λ n h. not_broken h;
} where
  never : Unopened ≡ Opened → ⊥
  never h = cc

  not_broken : Unopened ≡ Broken → ⊥
  not_broken h = cc

again_other : (name : Bool) (c d g : ℕ) (m : Mark) (e k : ℕ) (l : List Entry) → nat_eq c d ≡ false → Counts name c m e k l → Counts name c m e k (Again d g ∷ l)
again_other name c d g m e k l h s = record {
  epoch = λ x. s.epoch x ∙ sym (ap (λ (b : Bool). plus b (epoch_of name c l)) h);
  index = s.index;
  later = s.later;
  fresh = s.fresh;
  some = s.some;
  whole = s.whole;
  goes_on = s.goes_on;
}

pub finish_own : (name : Bool) (d : ℕ) (m : Mark) (e k : ℕ) (l : List Entry) → Counts name d m e k l → Counts name d Ended e k l
finish_own name d m e k l s = record {
  epoch = λ h. absurd (h refl);
  index = s.index;
  later = s.later;
  fresh = λ h. absurd (not_fresh h);
  some = λ h. absurd (not_open h);
  whole = λ h. absurd (not_open h);
  goes_on = λ n h. not_broken h;
} where
  not_fresh : Ended ≡ Unopened → ⊥
  not_fresh h = cc

  not_open : Ended ≡ Opened → ⊥
  not_open h = cc

  not_broken : Ended ≡ Broken → ⊥
  not_broken h = cc

pub got_counts : (name : Bool) (c d f n : ℕ) (r : Option ℕ) (m : Mark) (e k : ℕ) (l : List Entry) → Counts name c m e k l → Counts name c m e k (Got d f n r ∷ l)
got_counts name c d f n r m e k l s = record { epoch = s.epoch; index = s.index; later = s.later; fresh = s.fresh; some = s.some; whole = s.whole; goes_on = s.goes_on }

-- an entry that says nothing of the sending processes
abbrev pub IsApart : Entry → Type 0
IsApart (Rose i) = Unit {0}
IsApart (Came i) = Unit {0}
IsApart Fell = Unit {0}
IsApart (Stood f) = Unit {0}
IsApart x = ⊥

pub apart_counts : (name : Bool) (c : ℕ) (x : Entry) (m : Mark) (e k : ℕ) (l : List Entry) → IsApart x → Counts name c m e k l → Counts name c m e k (x ∷ l)
apart_counts name c (Rose i) m e k l q s = record { epoch = s.epoch; index = s.index; later = s.later; fresh = s.fresh; some = s.some; whole = s.whole; goes_on = s.goes_on }
apart_counts name c (Came i) m e k l q s = record { epoch = s.epoch; index = s.index; later = s.later; fresh = s.fresh; some = s.some; whole = s.whole; goes_on = s.goes_on }
apart_counts name c Fell m e k l q s = record { epoch = s.epoch; index = s.index; later = s.later; fresh = s.fresh; some = s.some; whole = s.whole; goes_on = s.goes_on }
apart_counts name c (Stood f) m e k l q s = record { epoch = s.epoch; index = s.index; later = s.later; fresh = s.fresh; some = s.some; whole = s.whole; goes_on = s.goes_on }
apart_counts name c (Said d f n) m e k l q s = absurd q
apart_counts name c (Again d f) m e k l q s = absurd q
apart_counts name c (Got d f n r) m e k l q s = absurd q
apart_counts name c Broke m e k l q s = absurd q

-- the link breaks
none_said : (name : Bool) (e n : ℕ) → n ≡ 0 → plus (name && not (nat_eq n 0)) e ≡ e
none_said name e n h = ap (λ (b : Bool). plus b e) (missed name n h) where
  missed : (name : Bool) (n : ℕ) → n ≡ 0 → (name && not (nat_eq n 0)) ≡ false
  missed true n h = grind (arith, nat_tests)
  missed false n h = refl

one_more : (e n : ℕ) → 0 < n → plus (true && not (nat_eq n 0)) e ≡ suc e
one_more e n h = ap (λ (b : Bool). plus b e) (hit n h) where
  hit : (n : ℕ) → 0 < n → not (nat_eq n 0) ≡ true
  hit n h = grind (arith, nat_tests)

pub broke_counts : (name : Bool) (c : ℕ) (m : Mark) (e k : ℕ) (l : List Entry) → Counts name c m e k l → Counts name c (mark_lost name m) (epoch_lost name m e) (index_lost name m k) (Broke ∷ l)
broke_counts name c Unopened e k l s = record {
  epoch = λ h. s.epoch h ∙ sym (none_said name (epoch_of name c l) (saids c (epoch_of name c l) l) (ap (λ (z : ℕ). saids c z l) (sym (s.epoch h)) ∙ sym s.index ∙ s.fresh refl));
  index = s.index;
  later = s.later;
  fresh = s.fresh;
  some = λ h. absurd (never h);
  whole = λ h. absurd (never h);
  goes_on = s.goes_on;
} where
  never : Unopened ≡ Opened → ⊥
  never h = cc
broke_counts true c Opened e k l s = record {
  epoch = λ h. ap suc (s.epoch live) ∙ sym (one_more (epoch_of true c l) (saids c (epoch_of true c l) l) (subst (λ (z : ℕ). 0 < saids c z l) (s.epoch live) (subst (λ (z : ℕ). 0 < z) s.index (s.some refl))));
  index = sym (s.later (suc e) (omega arith));
  later = λ f h. s.later f (omega arith);
  fresh = λ h. refl;
  some = λ h. absurd (never h);
  whole = λ h. absurd (never h);
  goes_on = λ n h. not_broken h;
} where
  live : Opened ≡ Ended → ⊥
  live h = cc

  never : Unopened ≡ Opened → ⊥
  never h = cc

  not_broken : Unopened ≡ Broken → ⊥
  not_broken h = cc
broke_counts false c Opened e k l s = record {
  epoch = λ h. s.epoch live;
  index = s.index;
  later = s.later;
  fresh = λ h. absurd (not_fresh h);
  some = λ h. absurd (never h);
  whole = λ h. absurd (never h);
  goes_on = λ n h. absurd (no_name n);
} where
  live : Opened ≡ Ended → ⊥
  live h = cc

  not_fresh : Broken ≡ Unopened → ⊥
  not_fresh h = cc

  never : Broken ≡ Opened → ⊥
  never h = cc

  no_name : false ≡ true → ⊥
  no_name h = cc
broke_counts true c Broken e k l s = absurd (s.goes_on refl refl)
broke_counts false c Broken e k l s = record {
  epoch = s.epoch;
  index = s.index;
  later = s.later;
  fresh = s.fresh;
  some = s.some;
  whole = λ h. absurd (never h);
  goes_on = s.goes_on;
} where
  never : Broken ≡ Opened → ⊥
  never h = cc
broke_counts name c Ended e k l s = record {
  epoch = λ h. absurd (h refl);
  index = s.index;
  later = s.later;
  fresh = s.fresh;
  some = s.some;
  whole = λ h. absurd (never h);
  goes_on = s.goes_on;
} where
  never : Ended ≡ Opened → ⊥
  never h = cc

-- the counts of all pairs
abbrev pub CountsOf : Passage → Type 0
CountsOf p = (c : ℕ) → Counts (p.named c) c (p.mark c) (p.epoch c) (p.index c) p.log

module _ (p : Passage) (d : ℕ) (s : CountsOf p) where
  module _ (live : p.mark d ≡ Ended → ⊥) where
    pub said_counts : (m : Mark) → next_mark (p.mark d) ≡ m
        → (c : ℕ) → Counts (p.named c) c (put d m p.mark c) (put d (p.epoch d) p.epoch c) (put d (suc (p.index d)) p.index c) (Said d (p.epoch d) (p.index d) ∷ p.log)
    said_counts m is c = by_cond (nat_eq c d) refl where
      by_cond : (x : Bool) → nat_eq c d ≡ x → Counts (p.named c) c (cond x m (p.mark c)) (cond x (p.epoch d) (p.epoch c)) (cond x (suc (p.index d)) (p.index c)) (Said d (p.epoch d) (p.index d) ∷ p.log)
      by_cond true h = subst (λ (z : ℕ). Counts (p.named z) z m (p.epoch d) (suc (p.index d)) (Said d (p.epoch d) (p.index d) ∷ p.log)) (same_number d c h)
          (subst (λ (z : Mark). Counts (p.named d) d z (p.epoch d) (suc (p.index d)) (Said d (p.epoch d) (p.index d) ∷ p.log)) is (said_own (p.named d) d (p.mark d) (p.epoch d) (p.index d) p.log live (s d)))
      by_cond false h = said_other (p.named c) c d (p.epoch d) (p.index d) (p.mark c) (p.epoch c) (p.index c) p.log h (s c)

    pub again_counts : (g c : ℕ) → Counts (p.named c) c (put d Unopened p.mark c) (put d (suc (p.epoch d)) p.epoch c) (put d 0 p.index c) (Again d g ∷ p.log)
    again_counts g c = by_cond (nat_eq c d) refl where
      by_cond : (x : Bool) → nat_eq c d ≡ x → Counts (p.named c) c (cond x Unopened (p.mark c)) (cond x (suc (p.epoch d)) (p.epoch c)) (cond x 0 (p.index c)) (Again d g ∷ p.log)
      by_cond true h = subst (λ (z : ℕ). Counts (p.named z) z Unopened (suc (p.epoch d)) 0 (Again d g ∷ p.log)) (same_number d c h)
          (again_own (p.named d) d (p.mark d) (p.epoch d) (p.index d) g p.log live (s d))
      by_cond false h = again_other (p.named c) c d g (p.mark c) (p.epoch c) (p.index c) p.log h (s c)

  pub finish_counts : (c : ℕ) → Counts (p.named c) c (put d Ended p.mark c) (put d (p.epoch d) p.epoch c) (put d (p.index d) p.index c) p.log
  finish_counts c = by_cond (nat_eq c d) refl where
    by_cond : (x : Bool) → nat_eq c d ≡ x → Counts (p.named c) c (cond x Ended (p.mark c)) (cond x (p.epoch d) (p.epoch c)) (cond x (p.index d) (p.index c)) p.log
    by_cond true h = subst (λ (z : ℕ). Counts (p.named z) z Ended (p.epoch d) (p.index d) p.log) (same_number d c h) (finish_own (p.named d) d (p.mark d) (p.epoch d) (p.index d) p.log (s d))
    by_cond false h = s c

-- ---- what is on the way

-- a message on the way was said before its epoch broke
abbrev pub Sent : List Entry → Item → Type 0
Sent l (Message c e k) = k < meant c e l
Sent l (Created c e) = Unit {0}
Sent l (Closed c e) = Unit {0}

-- so was each
abbrev pub AllSent : List Entry → List Item → Type 0
AllSent l [] = Unit {0}
AllSent l (item ∷ w) = Sent l item × AllSent l w

pub sent_append : (l : List Entry) (w v : List Item) → AllSent l w → AllSent l v → AllSent l (w ++ v)
sent_append l [] v a b = b
sent_append l (item ∷ w) v a b = (a.0, sent_append l w v a.1 b)

meant_more : (c e : ℕ) (x : Entry) (l : List Entry) → meant c e l ≤ meant c e (x ∷ l)
meant_more c e Broke l = omega arith
meant_more c e (Got d f k r) l = omega arith
meant_more c e (Again d f) l = omega arith
meant_more c e (Stood f) l = omega arith
meant_more c e (Rose i) l = omega arith
meant_more c e (Came i) l = omega arith
meant_more c e (Fell) l = omega arith
meant_more c e (Said d f k) l = by_hit (same c e d f && not (has_broken c e l)) where
  by_hit : (b : Bool) → meant c e l ≤ plus b (meant c e l)
  by_hit true = omega arith
  by_hit false = omega arith

sent_more : (x : Entry) (l : List Entry) (item : Item) → Sent l item → Sent (x ∷ l) item
sent_more x l (Message c e k) a = let m = meant_more c e x l in omega arith
sent_more x l (Created c e) a = a
sent_more x l (Closed c e) a = a

pub all_more : (x : Entry) (l : List Entry) (w : List Item) → AllSent l w → AllSent (x ∷ l) w
all_more x l [] a = a
all_more x l (item ∷ w) a = (sent_more x l item a.0, all_more x l w a.1)
