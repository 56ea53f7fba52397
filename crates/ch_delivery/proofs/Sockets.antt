-- What happens to sockets, and what the receiving node does, keeps each pair heard in order.
use Rattle.std.proofs.Common.{◌≡◌, suc, ◌<◌, ◌≤◌, ℕ, nat_eq, Bool, true, false, cond, ◌&&◌, List, [], ◌∷◌, Option, refl, ap, sym, ◌∙◌, subst, arith}
use Rattle.std.proofs.lemmas.Bool.Decides.{nat_tests}
use lib.Dec.{leb}
use Rattle.ch_delivery.specs.Passage.{Mark, Unopened, Opened, Broken, Ended, Item, Created, Message, Closed, Binding, Unknown, Void, Bound, Entry, Got, Passage, is_there, is_bound, is_known}
use Rattle.ch_delivery.specs.Moves.{Rise, Break, Shut, Cut, Come, Fall, Stand, put, onto, mark_lost, epoch_lost, index_lost, bound_to, got, handle, read, kept_bound, after}
use Rattle.ch_delivery.specs.Log.{gots}
use Rattle.ch_delivery.proofs.Ear.{Ear, Idle, Before, Le, hear, heard, heard_before, heard_mono, le_self, quit, quit_before, tail, cap, tail_cap}
use Rattle.ch_delivery.proofs.Known.{Known, Tamer, known_ext, quit_known, known_created, known_closed, known_message, known_dropped}
use Rattle.ch_delivery.proofs.Links.{same_number, self_number, put_here, put_there, Links, lowered, broke, retold, risen, risen_keeps, come_keeps}
use Rattle.ch_delivery.proofs.Pairs.{ends, LinksOf, Ordered, Ahead}

first : (b : Bool) (r s : Ear) (f : ℕ) → b ≡ true → Before (cond b r s) f → Before r f
first b r s f h q = subst (λ (x : Bool). Before (cond x r s) f) h q

both : (b : Bool) (r s : Ear) (f : ℕ) → Before r f → Before s f → Before (cond b r s) f
both true r s f a b = a
both false r s f a b = b

apart_back : (i j : ℕ) → i < j → nat_eq j i ≡ false
apart_back i j h = grind (arith, nat_tests)

module _ (c : ℕ) (p : Passage) (s : Ordered c p) where
  abbrev here : ℕ → Ear
  here = ends c p.flight p.at s.ear s.floor

  pub ear_before : (f : ℕ) → Before (here p.at) f → Before s.ear f
  ear_before f q = first (nat_eq p.at p.at) s.ear (Idle (s.floor p.at)) f (self_number p.at) (heard_before c (p.flight p.at) (cond (nat_eq p.at p.at) s.ear (Idle (s.floor p.at))) f q)

  abbrev Top : ℕ
  Top = cap (p.mark c) (p.epoch c)

  module _ (item : Item) (w : List Item) (is : p.flight p.at ≡ item ∷ w) where
    pub next_before : Before (hear c item s.ear) Top
    next_before = heard_before c w (hear c item s.ear) Top (first_of (nat_eq p.at p.at) (self_number p.at)
        (subst (λ (v : List Item). Before (heard c v (cond (nat_eq p.at p.at) s.ear (Idle (s.floor p.at)))) Top) is (s.links.below p.at (omega arith)))) where
          first_of : (b : Bool) → b ≡ true → Before (heard c (item ∷ w) (cond b s.ear (Idle (s.floor p.at)))) Top → Before (heard c w (hear c item s.ear)) Top
          first_of b h q = subst (λ (x : Bool). Before (heard c (item ∷ w) (cond x s.ear (Idle (s.floor p.at)))) Top) h q

    next_ends : (i : ℕ) → here i ≡ ends c (put p.at w p.flight) p.at (hear c item s.ear) s.floor i
    next_ends i = by_cond (nat_eq i p.at) (λ h. ap p.flight (sym (same_number p.at i h)) ∙ is) where
      by_cond : (x : Bool) → (x ≡ true → p.flight i ≡ item ∷ w) → heard c (p.flight i) (cond x s.ear (Idle (s.floor i))) ≡ heard c (cond x w (p.flight i)) (cond x (hear c item s.ear) (Idle (s.floor i)))
      by_cond true h = ap (λ (v : List Item). heard c v s.ear) (h refl)
      by_cond false h = refl

    next_links : LinksOf c (record p { flight = put p.at w p.flight }) (hear c item s.ear) s.floor s.base
    next_links = lowered c p.waits p.up p.on p.at (p.cut p.on) (p.cut p.on) here (ends c (put p.at w p.flight) p.at (hear c item s.ear) s.floor) s.floor s.base
        (tail (p.mark c) (p.epoch c) (p.index c)) Top (λ i f q. subst (λ (z : Ear). Before z f) (next_ends i) q) (λ x. (x, sym (next_ends p.on))) s.links

    abbrev Rest : Passage
    Rest = record p { flight = put p.at w p.flight }

    taken : (log : List Entry) (bound : ℕ → ℕ → Binding) → Known (hear c item s.ear) (λ e. gots c e log) (bound c) → Ordered c (record Rest { log = log; bound = bound })
    taken log bound k = record { ear = hear c item s.ear; floor = s.floor; base = s.base; known = k; links = next_links }

  known_bound : (x : Bool) → is_known (bound_to x) ≡ true
  known_bound true = refl
  known_bound false = refl

  handle_pair : (item : Item) (w : List Item) → p.flight p.at ≡ item ∷ w → Ordered c (handle item (record p { flight = put p.at w p.flight }))
  handle_pair (Created d e) w is = taken (Created d e) w is p.log (λ x y. cond (nat_eq x d && nat_eq y e) (bound_to (is_there (p.named d) (p.stands d))) (p.bound x y))
      (known_created c d e (bound_to (is_there (p.named d) (p.stands d))) (λ y. gots c y p.log) (p.bound c) (known_bound (is_there (p.named d) (p.stands d))) s.ear Top (next_before (Created d e) w is) s.known)
  handle_pair (Closed d e) w is = taken (Closed d e) w is p.log (λ x y. cond (nat_eq x d && nat_eq y e) Unknown (p.bound x y))
      (known_closed c d e (λ y. gots c y p.log) (p.bound c) s.ear Top (next_before (Closed d e) w is) s.known)
  handle_pair (Message d e k) w is = by_bound (p.bound d e) refl where
    dropped : (b : Binding) → p.bound d e ≡ b → is_bound b ≡ false → Ordered c (record p { flight = put p.at w p.flight })
    dropped b h void = taken (Message d e k) w is p.log p.bound
        (known_dropped c d e k (λ y. gots c y p.log) (p.bound c) s.ear Top (λ x. ap (λ (z : ℕ). is_bound (p.bound z e)) (same_number c d x) ∙ ap is_bound h ∙ void) (next_before (Message d e k) w is) s.known)

    by_bound : (b : Binding) → p.bound d e ≡ b → Ordered c (got b d e k (record p { flight = put p.at w p.flight }))
    by_bound Bound h = taken (Message d e k) w is (Got d e k (p.stands d) ∷ p.log) p.bound
        (known_message c d e k (λ y. gots c y p.log) (p.bound c) s.ear Top (next_before (Message d e k) w is) s.known)
    by_bound Void h = dropped Void h refl
    by_bound Unknown h = dropped Unknown h refl

  pub read_pair : (w : List Item) → p.flight p.at ≡ w → Ordered c (read w p)
  read_pair [] is = s
  read_pair (item ∷ w) is = handle_pair item w is

  pub cut_pair : (i : ℕ) → Ordered c (after (Cut i) p)
  cut_pair i = record {
    ear = s.ear;
    floor = s.floor;
    base = s.base;
    known = s.known;
    links = lowered c p.waits p.up p.on p.at (p.cut p.on) (put i true p.cut p.on) here (ends c (put i [] p.flight) p.at s.ear s.floor) s.floor s.base
        (tail (p.mark c) (p.epoch c) (p.index c)) Top
        (λ j f q. low (nat_eq j i) j f q) (λ x. keep (nat_eq p.on i) x) s.links;
  } where
    low : (x : Bool) (j f : ℕ) → Before (here j) f → Before (heard c (cond x [] (p.flight j)) (cond (nat_eq j p.at) s.ear (Idle (s.floor j)))) f
    low true j f q = heard_before c (p.flight j) (cond (nat_eq j p.at) s.ear (Idle (s.floor j))) f q
    low false j f q = q

    keep : (x : Bool) → cond x true (p.cut p.on) ≡ false → (p.cut p.on ≡ false) × (heard c (cond x [] (p.flight p.on)) (cond (nat_eq p.on p.at) s.ear (Idle (s.floor p.on))) ≡ here p.on)
    keep true h = absurd (clash h) where
      clash : true ≡ false → ⊥
      clash h = cc
    keep false h = (h, refl)

  -- the receiving node's link fails: its end is cut, and its table forgotten
  pub fall_pair : Ordered c (after Fall p)
  fall_pair = record {
    ear = quit s.ear;
    floor = s.floor;
    base = s.base;
    known = quit_known s.ear (λ e. gots c e p.log) (p.bound c) s.known;
    links = lowered c p.waits p.up p.on p.at (p.cut p.on) (put p.at true p.cut p.on) here (ends c (put p.at [] p.flight) p.at (quit s.ear) s.floor) s.floor s.base
        (tail (p.mark c) (p.epoch c) (p.index c)) Top
        (λ j f q. low (nat_eq j p.at) j f q) (λ x. keep (nat_eq p.on p.at) x) s.links;
  } where
    low : (x : Bool) (j f : ℕ) → Before (heard c (p.flight j) (cond x s.ear (Idle (s.floor j)))) f → Before (heard c (cond x [] (p.flight j)) (cond x (quit s.ear) (Idle (s.floor j)))) f
    low true j f q = quit_before s.ear f (heard_before c (p.flight j) s.ear f q)
    low false j f q = q

    keep : (x : Bool) → cond x true (p.cut p.on) ≡ false
        → (p.cut p.on ≡ false) × (heard c (cond x [] (p.flight p.on)) (cond x (quit s.ear) (Idle (s.floor p.on))) ≡ heard c (p.flight p.on) (cond x s.ear (Idle (s.floor p.on))))
    keep true h = absurd (clash h) where
      clash : true ≡ false → ⊥
      clash h = cc
    keep false h = (h, refl)

  pub break_pair : Ordered c (after Break p)
  break_pair = record {
    ear = s.ear;
    floor = s.floor;
    base = Top;
    known = s.known;
    links = subst (λ (t : Ear). Links c [] false p.on p.at (p.cut p.on) here s.floor Top t (cap (mark_lost (p.named c) (p.mark c)) (epoch_lost (p.named c) (p.mark c) (p.epoch c))))
        (tail_lost (p.named c) (p.mark c) (p.epoch c) (p.index c))
        (subst (Links c [] false p.on p.at (p.cut p.on) here s.floor Top (Idle Top)) (cap_lost (p.named c) (p.mark c) (p.epoch c))
        (broke c p.waits p.up p.on p.at (p.cut p.on) here s.floor s.base (tail (p.mark c) (p.epoch c) (p.index c)) Top s.links));
  } where
    tail_lost : (n : Bool) (m : Mark) (e k : ℕ) → Idle (cap m e) ≡ tail (mark_lost n m) (epoch_lost n m e) (index_lost n m k)
    tail_lost n Unopened e k = refl
    tail_lost true Opened e k = refl
    tail_lost false Opened e k = refl
    tail_lost n Broken e k = refl
    tail_lost n Ended e k = refl

    cap_lost : (n : Bool) (m : Mark) (e : ℕ) → cap m e ≡ cap (mark_lost n m) (epoch_lost n m e)
    cap_lost n Unopened e = refl
    cap_lost true Opened e = refl
    cap_lost false Opened e = refl
    cap_lost n Broken e = refl
    cap_lost n Ended e = refl

  pub shut_pair : Ordered c (after Shut p)
  shut_pair = record {
    ear = s.ear;
    floor = s.floor;
    base = Top;
    known = s.known;
    links = retold c p.on p.at s.floor Top (Idle Top) (Idle (suc (p.epoch c))) Top (suc (p.epoch c)) (top_next (p.mark c) (p.epoch c)) (le_self (Idle (suc (p.epoch c)))) [] false (p.cut p.on) here (top_next (p.mark c) (p.epoch c))
        (broke c p.waits p.up p.on p.at (p.cut p.on) here s.floor s.base (tail (p.mark c) (p.epoch c) (p.index c)) Top s.links);
  } where
    top_next : (m : Mark) (e : ℕ) → cap m e ≤ suc e
    top_next Unopened e = omega arith
    top_next Opened e = omega arith
    top_next Broken e = omega arith
    top_next Ended e = omega arith

  pub stand_pair : (f : ℕ → Option ℕ) → Ordered c (after (Stand f) p)
  stand_pair f = record {
    ear = s.ear;
    floor = s.floor;
    base = s.base;
    known = known_ext s.ear (λ e. gots c e p.log) (λ e. gots c e p.log) (p.bound c) (λ e. kept_bound (is_there (p.named c) (f c)) (p.bound c e)) (λ e. refl) tamer s.known;
    links = s.links;
  } where
    was : (x : Bool) (b : Binding) → kept_bound x b ≡ Bound → b ≡ Bound
    was true b h = h
    was false Unknown h = h
    was false Void h = absurd (clash h) where
      clash : Void ≡ Bound → ⊥
      clash h = cc
    was false Bound h = refl

    still : (x : Bool) (b : Binding) → b ≡ Unknown → kept_bound x b ≡ Unknown
    still x b h = ap (kept_bound x) h ∙ of_unknown x where
      of_unknown : (x : Bool) → kept_bound x Unknown ≡ Unknown
      of_unknown true = refl
      of_unknown false = refl

    known_still : (x : Bool) (b : Binding) → is_known b ≡ true → is_known (kept_bound x b) ≡ true
    known_still true b h = h
    known_still false Unknown h = h
    known_still false Void h = h
    known_still false Bound h = h

    tamer : Tamer (p.bound c) (λ e. kept_bound (is_there (p.named c) (f c)) (p.bound c e))
    tamer = record {
      bound = λ e h. was (is_there (p.named c) (f c)) (p.bound c e) h;
      unknown = λ e h. still (is_there (p.named c) (f c)) (p.bound c e) h;
      known = λ e h. known_still (is_there (p.named c) (f c)) (p.bound c e) h;
    }

  module _ (ahead : Ahead p) where
    pub rise_pair : (i : ℕ) → p.up ≡ false → p.on < i → Ordered c (after (Rise i) p)
    rise_pair i down less = record {
      ear = s.ear;
      floor = risen p.on s.floor s.base;
      base = s.base;
      known = s.known;
      links = risen_keeps c p.waits p.up p.on p.at i (p.cut p.on) (p.cut i) here (ends c flights p.at s.ear floors) s.floor s.base
          (tail (p.mark c) (p.epoch c) (p.index c)) Top down less (tail_cap (p.mark c) (p.epoch c) (p.index c)) old mid lost new s.links;
    } where
      flights : ℕ → List Item
      flights = put i (onto (p.cut i) [] p.waits) p.flight

      floors : ℕ → ℕ
      floors = risen p.on s.floor s.base

      not_i : (j i : ℕ) → j ≤ p.on → p.on < i → nat_eq j i ≡ false
      not_i j i a b = grind (arith, nat_tests)

      is_old : (j : ℕ) → j ≤ p.on → leb j p.on ≡ true
      is_old j h = grind (arith, nat_tests)

      is_new : (j : ℕ) → p.on < j → leb j p.on ≡ false
      is_new j h = grind (arith, nat_tests)

      old : (j : ℕ) → j ≤ p.on → ends c (put i (onto (p.cut i) [] p.waits) p.flight) p.at s.ear (risen p.on s.floor s.base) j ≡ here j
      old j h = ap (λ (v : List Item). heard c v (cond (nat_eq j p.at) s.ear (Idle (risen p.on s.floor s.base j)))) (put_there i j (onto (p.cut i) [] p.waits) p.flight (not_i j i h less))
          ∙ ap (λ (x : Bool). heard c (p.flight j) (cond (nat_eq j p.at) s.ear (Idle (cond x (s.floor j) s.base)))) (is_old j h)

      low : Before s.ear s.base
      low = ear_before s.base (s.links.room down p.at (omega arith))

      from_low : (j : ℕ) → p.on < j → Before (cond (nat_eq j p.at) s.ear (Idle (risen p.on s.floor s.base j))) s.base
      from_low j h = both (nat_eq j p.at) s.ear (Idle (risen p.on s.floor s.base j)) s.base low
          (subst (λ (x : Bool). cond x (s.floor j) s.base ≤ s.base) (sym (is_new j h)) (omega arith))

      mid : (j : ℕ) → p.on < j → nat_eq j i ≡ false → p.at ≤ j → Before (ends c (put i (onto (p.cut i) [] p.waits) p.flight) p.at s.ear (risen p.on s.floor s.base) j) s.base
      mid j h x a = subst (λ (v : List Item). Before (heard c v (cond (nat_eq j p.at) s.ear (Idle (risen p.on s.floor s.base j)))) s.base)
          (sym (put_there i j (onto (p.cut i) [] p.waits) p.flight x ∙ ahead j h)) (from_low j h)

      lost : p.cut i ≡ true → p.at ≤ i → Before (ends c (put i (onto (p.cut i) [] p.waits) p.flight) p.at s.ear (risen p.on s.floor s.base) i) s.base
      lost x a = subst (λ (v : List Item). Before (heard c v (cond (nat_eq i p.at) s.ear (Idle (risen p.on s.floor s.base i)))) s.base)
          (sym (put_here i (onto (p.cut i) [] p.waits) p.flight ∙ ap (λ (b : Bool). onto b [] p.waits) x)) (from_low i less)

      new : p.cut i ≡ false → p.at ≤ i → Le (ends c (put i (onto (p.cut i) [] p.waits) p.flight) p.at s.ear (risen p.on s.floor s.base) i) (heard c p.waits (Idle s.base))
      new x a = subst (λ (v : List Item). Le (heard c v (cond (nat_eq i p.at) s.ear (Idle (risen p.on s.floor s.base i)))) (heard c p.waits (Idle s.base)))
          (sym (put_here i (onto (p.cut i) [] p.waits) p.flight ∙ ap (λ (b : Bool). onto b [] p.waits) x))
          (heard_mono c p.waits (cond (nat_eq i p.at) s.ear (Idle (risen p.on s.floor s.base i))) (Idle s.base) (from_low i less))

    pub come_pair : (j : ℕ) → p.at < j → Ordered c (after (Come j) p)
    come_pair j less = record {
      ear = quit s.ear;
      floor = s.floor;
      base = s.base;
      known = quit_known s.ear (λ e. gots c e p.log) (p.bound c) s.known;
      links = come_keeps c p.waits p.up p.on p.at j (p.cut p.on) here (ends c p.flight j (quit s.ear) s.floor) s.floor s.base
          (tail (p.mark c) (p.epoch c) (p.index c)) Top less others now past s.links;
    } where
      self : ends c p.flight j (quit s.ear) s.floor j ≡ heard c (p.flight j) (quit s.ear)
      self = ap (λ (x : Bool). heard c (p.flight j) (cond x (quit s.ear) (Idle (s.floor j)))) (self_number j)

      free : (i : ℕ) → p.at < i → here i ≡ heard c (p.flight i) (Idle (s.floor i))
      free i h = ap (λ (x : Bool). heard c (p.flight i) (cond x s.ear (Idle (s.floor i)))) (apart_back p.at i h)

      more : (i : ℕ) → j < i → p.at < i
      more i h = omega arith

      others : (i : ℕ) → j < i → ends c p.flight j (quit s.ear) s.floor i ≡ here i
      others i h = ap (λ (x : Bool). heard c (p.flight i) (cond x (quit s.ear) (Idle (s.floor i)))) (apart_back j i h) ∙ sym (free i (more i h))

      now : j ≤ p.on → Le (ends c p.flight j (quit s.ear) s.floor j) (here j)
      now h = subst (λ (z : Ear). Le z (here j)) (sym self) (subst (Le (heard c (p.flight j) (quit s.ear))) (sym (free j less))
          (heard_mono c (p.flight j) (quit s.ear) (Idle (s.floor j)) (quit_before s.ear (s.floor j) (ear_before (s.floor j) (s.links.chain p.at j (omega arith) less h)))))

      past : p.on < j → (f : ℕ) → Before (here p.at) f → Before (ends c p.flight j (quit s.ear) s.floor j) f
      past h f q = subst (λ (z : Ear). Before z f) (sym (self ∙ ap (λ (v : List Item). heard c v (quit s.ear)) (ahead j h))) (quit_before s.ear f (ear_before f q))
