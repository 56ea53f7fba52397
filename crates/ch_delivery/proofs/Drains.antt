-- What is under way has come to its end: the present epoch is got, and nothing stray is read.
use Rattle.std.proofs.Common.{◌≡◌, ◌≤◌, ℕ, nat_eq, Bool, true, false, cond, List, [], refl, ◌∙◌, subst, arith}
use Rattle.std.proofs.lemmas.Bool.Decides.{nat_tests}
use Rattle.ch_delivery.specs.Passage.{Mark, Item, Created, Message, Closed, Binding, Unknown, Void, Bound, Passage, is_bound}
use Rattle.ch_delivery.specs.Log.{gots}
use Rattle.ch_delivery.specs.Whole.{PresentGot}
use Rattle.ch_delivery.specs.Stray.{NoneStray}
use Rattle.ch_delivery.specs.Invariant.{NamesGoOn}
use Rattle.ch_delivery.proofs.Ear.{Ear, Idle, In, Le, heard, tail, cap}
use Rattle.ch_delivery.proofs.Known.{Known, in_order, created_new, closed_known}
use Rattle.ch_delivery.proofs.Sockets.{next_before}
use Rattle.ch_delivery.proofs.Keeps.{Inv}

at_end : (c : ℕ) (w : List Item) (x : Bool) (r s t : Ear) → w ≡ [] → x ≡ true → Le (heard c w (cond x r s)) t → Le r t
at_end c w x r s t a b h = subst (λ (y : Bool). Le (cond y r s) t) b (subst (λ (v : List Item). Le (heard c v (cond x r s)) t) a h)

here_number : (i j : ℕ) → j ≡ i → nat_eq i j ≡ true
here_number i j h = grind (arith, nat_tests)

to_bound : (b : Binding) → is_bound b ≡ true → b ≡ Bound
to_bound Bound h = refl
to_bound Unknown h = absurd (clash h) where
  clash : false ≡ true → ⊥
  clash h = cc
to_bound Void h = absurd (clash h) where
  clash : false ≡ true → ⊥
  clash h = cc

pub present_got : (p : Passage) → Inv p → PresentGot p
present_got p v c is bound d = (subst (λ (r : Ear). Known r (λ e. gots c e p.log) (p.bound c)) now (v.pairs c).known).count (to_bound (p.bound c (p.epoch c)) bound) ∙ (v.account.counts c).index where
  now : (v.pairs c).ear ≡ In (p.epoch c) (p.index c)
  now = subst (λ (m : Mark). Le (v.pairs c).ear (tail m (p.epoch c) (p.index c))) is
      (at_end c (p.flight p.on) (nat_eq p.on p.at) (v.pairs c).ear (Idle ((v.pairs c).floor p.on)) (tail (p.mark c) (p.epoch c) (p.index c)) d.read (here_number p.on p.at d.one)
      ((v.pairs c).links.flow d.up (less d.one) d.whole)) where
        less : p.at ≡ p.on → p.at ≤ p.on
        less h = omega arith

pub none_stray : (p : Passage) → Inv p → NoneStray p
none_stray p v (Created c e) w is = created_new c e (λ f. gots c f p.log) (p.bound c) (v.pairs c).ear (cap (p.mark c) (p.epoch c)) (next_before c p (v.pairs c) (Created c e) w is) (v.pairs c).known
none_stray p v (Message c e k) w is = (in_order c e k (λ f. gots c f p.log) (p.bound c) (v.pairs c).ear (cap (p.mark c) (p.epoch c)) (next_before c p (v.pairs c) (Message c e k) w is) (v.pairs c).known).0
none_stray p v (Closed c e) w is = closed_known c e (λ f. gots c f p.log) (p.bound c) (v.pairs c).ear (cap (p.mark c) (p.epoch c)) (next_before c p (v.pairs c) (Closed c e) w is) (v.pairs c).known

pub names_go_on : (p : Passage) → Inv p → NamesGoOn p
names_go_on p v c name = (v.account.counts c).goes_on name
