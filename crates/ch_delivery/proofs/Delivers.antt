-- What is owed whole is got whole, whatever happens to sockets and at the receiving node.
use Rattle.std.proofs.Common.{◌≡◌, ◌<◌, ◌≤◌, ℕ, ◌+◌, nat_eq, Bool, true, false, cond, ◌&&◌, List, [], ◌∷◌, refl, ap, sym, ◌∙◌, subst, arith}
use Rattle.std.proofs.lemmas.Bool.Decides.{nat_tests}
use Rattle.ch_delivery.specs.Passage.{Item, Created, Message, Closed, Binding, Unknown, Void, Bound, Passage, start, is_there, is_bound}
use Rattle.ch_delivery.specs.Moves.{Move, Say, Reconnect, Finish, Rise, Break, Shut, Cut, Come, Fall, Read, Stand, put, onto, bind, bound_to, got, handle, read, kept_bound, after, Allowed, run, AllAllowed}
use Rattle.ch_delivery.specs.Log.{plus, same, gots, saids}
use Rattle.ch_delivery.specs.Whole.{AllGot, still_owed, is_owed}
use Rattle.ch_delivery.proofs.Links.{put_here, put_there}
use Rattle.ch_delivery.proofs.Gets.{step, gets_one, gets, steps_up, gets_up, gots_less}
use Rattle.ch_delivery.proofs.Keeps.{Inv, keeps, inv_run, inv_start}
use Rattle.ch_delivery.proofs.Owed.{wrong, Enough, Streams, OpenAt, Owed, say_owed, reconnect_owed, finish_owed}

-- a reader for whom the connection is bound already is owed no more
enough_up : (c e n s : ℕ) (A : Type 0) (w : List Item) (b : Bool) → Enough c e n s A w false → Enough c e n s A w b
enough_up c e n s A w b h = record {
  count = let a = gets_up c e w false b (λ t. absurd (wrong t)) in let m = h.count in omega arith;
  lasts = λ t. steps_up c e w false b (λ q. absurd (wrong q)) (h.lasts t);
}

-- ---- an item is handled

-- The log and the table change as the item says, and the rest stays unread.
module _ (c e : ℕ) (p : Passage) (s : Owed c e p) (item : Item) (w : List Item) (is : p.flight p.at ≡ item ∷ w) where
  other : (i j : ℕ) → i < j → nat_eq j i ≡ false
  other i j h = grind (arith, nat_tests)

  -- with n messages got and the connection bound or not
  rest_streams : (n : ℕ) (b : Bool) → gots c e p.log ≤ n → (p.at ≡ p.on → step c e item (is_bound (p.bound c e)) ≡ b) → (p.at ≡ p.on → n ≡ plus (gets_one c e item (is_bound (p.bound c e))) (gots c e p.log))
      → Streams (Enough c e n (saids c e p.log) (OpenAt c e p)) p.up p.on p.at (p.cut p.on) b p.waits (put p.at w p.flight p.on)
  rest_streams n b more bind num = record {
    held = λ h. grow p.waits false (s.streams.held h);
    unread = λ u k l. subst (λ (v : List Item). Enough c e n (saids c e p.log) (OpenAt c e p) v false) (sym (put_there p.at p.on w p.flight (other p.at p.on l))) (grow (p.flight p.on) false (s.streams.unread u k l));
    reading = λ u k l. subst (λ (v : List Item). Enough c e n (saids c e p.log) (OpenAt c e p) v b) (sym (ap (put p.at w p.flight) (sym l) ∙ put_here p.at w p.flight))
        (shorter l (subst (λ (v : List Item). Enough c e (gots c e p.log) (saids c e p.log) (OpenAt c e p) v (is_bound (p.bound c e))) (ap p.flight (sym l) ∙ is) (s.streams.reading u k l)));
  } where
    grow : (v : List Item) (x : Bool) → Enough c e (gots c e p.log) (saids c e p.log) (OpenAt c e p) v x → Enough c e n (saids c e p.log) (OpenAt c e p) v x
    grow v x h = record { count = let a = h.count in omega arith; lasts = h.lasts }

    shift : (x : Bool) (g r : ℕ) → saids c e p.log ≤ g + plus x r → saids c e p.log ≤ plus x g + r
    shift true g r h = omega arith
    shift false g r h = h

    shorter : p.at ≡ p.on → Enough c e (gots c e p.log) (saids c e p.log) (OpenAt c e p) (item ∷ w) (is_bound (p.bound c e)) → Enough c e n (saids c e p.log) (OpenAt c e p) w b
    shorter l h = subst (λ (x : Bool). Enough c e n (saids c e p.log) (OpenAt c e p) w x) (bind l) (record {
      count = subst (λ (z : ℕ). saids c e p.log ≤ z + gets c e w (step c e item (is_bound (p.bound c e)))) (sym (num l))
          (shift (gets_one c e item (is_bound (p.bound c e))) (gots c e p.log) (gets c e w (step c e item (is_bound (p.bound c e)))) h.count);
      lasts = h.lasts;
    })

self_le : (n : ℕ) → n ≤ n
self_le n = omega arith

plus_le : (b : Bool) (n : ℕ) → n ≤ plus b n
plus_le true n = omega arith
plus_le false n = omega arith

module _ (c e : ℕ) (p : Passage) (s : Owed c e p) (w : List Item) where
  -- the pair's target is there, so its connection is bound when it is created
  created : (d f : ℕ) (x : Bool) → (x ≡ true → d ≡ c) → is_bound (cond x (bound_to (is_there (p.named d) (p.stands d))) (p.bound c e)) ≡ cond x true (is_bound (p.bound c e))
  created d f false h = refl
  created d f true h = ap (λ (y : Bool). is_bound (bound_to y)) (ap (λ (z : ℕ). is_there (p.named z) (p.stands z)) (h refl) ∙ s.there)

  closed_now : (x : Bool) (b : Binding) → is_bound (cond x Unknown b) ≡ cond x false (is_bound b)
  closed_now true b = refl
  closed_now false b = refl

  own : (c d e f : ℕ) → (nat_eq c d && nat_eq e f) ≡ true → d ≡ c
  own c d e f h = grind (arith, nat_tests)

  own_epoch : (c d e f : ℕ) → (nat_eq c d && nat_eq e f) ≡ true → f ≡ e
  own_epoch c d e f h = grind (arith, nat_tests)

  -- how many are got, when a message comes on a connection that is bound as b
  counted : (d f k : ℕ) (b : Binding) → p.bound d f ≡ b → (x : Bool) → (x ≡ true → d ≡ c) → (x ≡ true → f ≡ e) → (n : ℕ) → plus (x && is_bound b) n ≡ plus (x && is_bound (p.bound c e)) n
  counted d f k b h false p1 p2 n = refl
  counted d f k b h true p1 p2 n = ap (λ (z : Binding). plus (is_bound z) n) (sym h ∙ ap (λ (z : ℕ). p.bound z f) (p1 refl) ∙ ap (λ (z : ℕ). p.bound c z) (p2 refl))

  dropped : (d f k : ℕ) → p.flight p.at ≡ Message d f k ∷ w → (b : Binding) → p.bound d f ≡ b → is_bound b ≡ false → Owed c e (record p { flight = put p.at w p.flight })
  dropped d f k is b h void = record {
    there = s.there;
    not_before = s.not_before;
    not_fresh = s.not_fresh;
    not_broken = s.not_broken;
    streams = rest_streams c e p s (Message d f k) w is (gots c e p.log) (is_bound (p.bound c e)) (self_le (gots c e p.log)) (λ l. refl)
        (λ l. none (same c e d f) (is_bound b) void ∙ counted d f k b h (nat_eq c d && nat_eq e f) (own c d e f) (own_epoch c d e f) (gots c e p.log));
  } where
    none : (x y : Bool) → y ≡ false → gots c e p.log ≡ plus (x && y) (gots c e p.log)
    none true y q = ap (λ (z : Bool). plus z (gots c e p.log)) (sym q)
    none false y q = refl

  got_owed : (d f k : ℕ) → p.flight p.at ≡ Message d f k ∷ w → (b : Binding) → p.bound d f ≡ b → Owed c e (got b d f k (record p { flight = put p.at w p.flight }))
  got_owed d f k is Unknown h = dropped d f k is Unknown h refl
  got_owed d f k is Void h = dropped d f k is Void h refl
  got_owed d f k is Bound h = record {
    there = s.there;
    not_before = s.not_before;
    not_fresh = s.not_fresh;
    not_broken = s.not_broken;
    streams = rest_streams c e p s (Message d f k) w is (plus (same c e d f) (gots c e p.log)) (is_bound (p.bound c e)) (plus_le (same c e d f) (gots c e p.log)) (λ l. refl)
        (λ l. all (same c e d f) (gots c e p.log) ∙ counted d f k Bound h (nat_eq c d && nat_eq e f) (own c d e f) (own_epoch c d e f) (gots c e p.log));
  } where
    all : (x : Bool) (n : ℕ) → plus x n ≡ plus (x && true) n
    all true n = refl
    all false n = refl

  handle_owed : (item : Item) → p.flight p.at ≡ item ∷ w → Owed c e (handle item (record p { flight = put p.at w p.flight }))
  handle_owed (Created d f) is = record {
    there = s.there;
    not_before = s.not_before;
    not_fresh = s.not_fresh;
    not_broken = s.not_broken;
    streams = rest_streams c e p s (Created d f) w is (gots c e p.log) (is_bound (cond (nat_eq c d && nat_eq e f) (bound_to (is_there (p.named d) (p.stands d))) (p.bound c e))) (self_le (gots c e p.log))
        (λ l. sym (created d f (nat_eq c d && nat_eq e f) (own c d e f))) (λ l. refl);
  }
  handle_owed (Closed d f) is = record {
    there = s.there;
    not_before = s.not_before;
    not_fresh = s.not_fresh;
    not_broken = s.not_broken;
    streams = rest_streams c e p s (Closed d f) w is (gots c e p.log) (is_bound (cond (nat_eq c d && nat_eq e f) Unknown (p.bound c e))) (self_le (gots c e p.log))
        (λ l. sym (closed_now (nat_eq c d && nat_eq e f) (p.bound c e))) (λ l. refl);
  }
  handle_owed (Message d f k) is = got_owed d f k is (p.bound d f) refl

read_owed : (c e : ℕ) (p : Passage) (w : List Item) → p.flight p.at ≡ w → Owed c e p → Owed c e (read w p)
read_owed c e p [] is s = s
read_owed c e p (item ∷ w) is s = handle_owed c e p s w item is

-- ---- the moves

-- something on the way is cut
cut_streams : (W : List Item → Bool → Type 0) (i on at : ℕ) (up cut b v : Bool) (waits flown : List Item) → (nat_eq on i ≡ false → at ≡ on → v ≡ b)
    → Streams W up on at cut b waits flown → Streams W up on at (cond (nat_eq on i) true cut) v waits (cond (nat_eq on i) [] flown)
cut_streams W i on at up cut b v waits flown same_bound s = by_test (nat_eq on i) same_bound where
  by_test : (x : Bool) → (x ≡ false → at ≡ on → v ≡ b) → Streams W up on at (cond x true cut) v waits (cond x [] flown)
  by_test true h = record { held = s.held; unread = λ u k l. absurd (wrong (sym k)); reading = λ u k l. absurd (wrong (sym k)) }
  by_test false h = record { held = s.held; unread = s.unread; reading = λ u k l. subst (W flown) (sym (h refl l)) (s.reading u k l) }

not_and : (x y : Bool) → (x && y) ≡ true → (x ≡ true) × (y ≡ true)
not_and true y h = (refl, h)
not_and false y h = absurd (wrong h)

owed_kept : (c e : ℕ) (m : Move) (p : Passage) (owed : Bool) → Allowed m p → Inv p → (owed ≡ true → Owed c e p) → still_owed c e m p owed ≡ true → Owed c e (after m p)
owed_kept c e (Say d) p owed is v s k = say_owed c e d p owed (λ h. sym (v.account.counts d).index ∙ (v.account.counts d).fresh h) s k
owed_kept c e (Reconnect d) p owed is v s k = reconnect_owed c e d p (p.mark d) (s k)
owed_kept c e (Finish d) p owed is v s k = finish_owed c e d p (p.mark d) (s k)
owed_kept c e (Rise i) p owed is v s k = record {
  there = (s k).there;
  not_before = (s k).not_before;
  not_fresh = (s k).not_fresh;
  not_broken = (s k).not_broken;
  streams = record {
    held = λ h. absurd (wrong (sym h));
    unread = λ h x l. on_socket x false;
    reading = λ h x l. on_socket x (is_bound (p.bound c e));
  };
} where
  on_socket : p.cut i ≡ false → (b : Bool) → Enough c e (gots c e p.log) (saids c e p.log) (OpenAt c e p) (put i (onto (p.cut i) [] p.waits) p.flight i) b
  on_socket x b = subst (λ (w : List Item). Enough c e (gots c e p.log) (saids c e p.log) (OpenAt c e p) w b) (sym (put_here i (onto (p.cut i) [] p.waits) p.flight ∙ ap (λ (z : Bool). onto z [] p.waits) x))
      (enough_up c e (gots c e p.log) (saids c e p.log) (OpenAt c e p) p.waits b ((s k).streams.held is.0))
owed_kept c e Break p owed is v s k = absurd (wrong k)
owed_kept c e Shut p owed is v s k = absurd (wrong k)
owed_kept c e (Cut i) p owed is v s k = record {
  there = (s k).there;
  not_before = (s k).not_before;
  not_fresh = (s k).not_fresh;
  not_broken = (s k).not_broken;
  streams = cut_streams (Enough c e (gots c e p.log) (saids c e p.log) (OpenAt c e p)) i p.on p.at p.up (p.cut p.on) (is_bound (p.bound c e)) (is_bound (p.bound c e)) p.waits (p.flight p.on) (λ h l. refl) (s k).streams;
}
owed_kept c e (Come j) p owed is v s k = record {
  there = (s k).there;
  not_before = (s k).not_before;
  not_fresh = (s k).not_fresh;
  not_broken = (s k).not_broken;
  streams = record {
    held = (s k).streams.held;
    unread = λ h x l. (s k).streams.unread h x (omega arith);
    reading = λ h x l. (s k).streams.unread h x (omega arith);
  };
}
owed_kept c e Fall p owed is v s k = record {
  there = (s k).there;
  not_before = (s k).not_before;
  not_fresh = (s k).not_fresh;
  not_broken = (s k).not_broken;
  streams = cut_streams (Enough c e (gots c e p.log) (saids c e p.log) (OpenAt c e p)) p.at p.on p.at p.up (p.cut p.on) (is_bound (p.bound c e)) false p.waits (p.flight p.on) (λ h l. absurd (meet p.on p.at h l)) (s k).streams;
} where
  meet : (i j : ℕ) → nat_eq i j ≡ false → j ≡ i → ⊥
  meet i j h l = grind (arith, nat_tests)
owed_kept c e Read p owed is v s k = read_owed c e p (p.flight p.at) refl (s k)
owed_kept c e (Stand f) p owed is v s k = record {
  there = (not_and (is_there (p.named c) (f c)) owed k).0;
  not_before = t.not_before;
  not_fresh = t.not_fresh;
  not_broken = t.not_broken;
  streams = record {
    held = t.streams.held;
    unread = t.streams.unread;
    reading = λ h x l. subst (λ (y : Bool). Enough c e (gots c e p.log) (saids c e p.log) (OpenAt c e p) (p.flight p.on) (is_bound (kept_bound y (p.bound c e)))) (sym (not_and (is_there (p.named c) (f c)) owed k).0) (t.streams.reading h x l);
  };
} where
  t : Owed c e p
  t = s (not_and (is_there (p.named c) (f c)) owed k).1

owed_run : (c e : ℕ) (ms : List Move) (p : Passage) (owed : Bool) → AllAllowed ms p → Inv p → (owed ≡ true → Owed c e p) → is_owed c e ms p owed ≡ true → Owed c e (run ms p)
owed_run c e [] p owed are v s k = s k
owed_run c e (m ∷ ms) p owed (is, are) v s k = owed_run c e ms (after m p) (still_owed c e m p owed) are (keeps m p is v) (λ h. owed_kept c e m p owed is v s h) k

all_got : (c e : ℕ) (p : Passage) → Inv p → Owed c e p → AllGot c e p
all_got c e p v s d = both (gots_less p.named c e p.log v.account.lawful)
    (subst (λ (w : List Item). saids c e p.log ≤ gots c e p.log + gets c e w (is_bound (p.bound c e))) d.read (s.streams.reading d.up d.whole d.one).count) where
      both : gots c e p.log ≤ saids c e p.log → saids c e p.log ≤ gots c e p.log + 0 → gots c e p.log ≡ saids c e p.log
      both a b = omega arith

pub delivered : (named : ℕ → Bool) (ms : List Move) → AllAllowed ms (start named) → (c e : ℕ) → is_owed c e ms (start named) false ≡ true → AllGot c e (run ms (start named))
delivered named ms are c e k = all_got c e (run ms (start named)) (inv_run ms (start named) are (inv_start named)) (owed_run c e ms (start named) false are (inv_start named) (λ h. absurd (wrong h)) k)
