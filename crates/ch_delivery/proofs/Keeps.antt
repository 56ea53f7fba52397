-- The invariant, which each move keeps.
use Rattle.std.proofs.Common.{◌≡◌, ◌<◌, ℕ, suc, nat_eq, Bool, true, false, cond, not, ◌&&◌, ◌||◌, List, [], ◌∷◌, ◌⊎◌, inl, inr, Option, Some, refl, ap, sym, ◌∙◌, subst, arith}
use Rattle.std.proofs.lemmas.Bool.Decides.{nat_tests}
use Rattle.ch_delivery.specs.Passage.{Mark, Unopened, Opened, Broken, Ended, Item, Created, Message, Closed, Binding, Unknown, Void, Bound, Entry, Said, Again, Got, Rose, Broke, Came, Fell, Stood, Passage, start, is_there}
use Rattle.ch_delivery.specs.Moves.{Move, Say, Reconnect, Finish, Rise, Break, Shut, Cut, Come, Fall, Read, Stand, put, noted, marked, onto, written, say, reconnect, finish, bound_to, got, handle, read, kept_bound, after, Allowed, run, AllAllowed}
use Rattle.ch_delivery.specs.Log.{gots, meant, stood, has_risen, up_at, hears, Lawful}
use Rattle.ch_delivery.specs.Invariant.{IsReached}
use Rattle.ch_delivery.proofs.Ear.{cap}
use Rattle.ch_delivery.proofs.Known.{in_order}
use Rattle.ch_delivery.proofs.Links.{same_number, self_number, put_here, put_there}
use Rattle.ch_delivery.proofs.Pairs.{Ordered, Ahead, say_pair, reconnect_pair, finish_pair, start_pair}
use Rattle.ch_delivery.proofs.Sockets.{next_before, read_pair, cut_pair, fall_pair, break_pair, shut_pair, stand_pair, rise_pair, come_pair}
use Rattle.ch_delivery.proofs.Counts.{CountsOf, said_counts, again_counts, finish_counts, finish_own, got_counts, apart_counts, broke_counts, next_mark, meant_next, Sent, AllSent, sent_append, all_more}

-- all that is on the way was said before its epoch broke
pub record Sents (l : List Entry) (flight : ℕ → List Item) (waits : List Item) : Type 0 where
  pub flown : (i : ℕ) → AllSent l (flight i)
  pub held : AllSent l waits

-- a connection leads to its target only while that is there
abbrev pub Lively : (ℕ → Bool) → (ℕ → Option ℕ) → (ℕ → ℕ → Binding) → Type 0
Lively named stands bound = (c e : ℕ) → bound c e ≡ Bound → is_there (named c) (stands c) ≡ true

-- Which sockets the nodes came up on, as the log tells it: nothing is written on one that the sending node never came up
-- on, and nothing is unread where the receiving node isn't up.
pub record Linked (l : List Entry) (up : Bool) (on at : ℕ) (cut : ℕ → Bool) (flight : ℕ → List Item) : Type 0 where
  pub written : (i : ℕ) → has_risen i l ≡ false → flight i ≡ []
  pub risen : up ≡ true → has_risen on l ≡ true
  pub hearing : (up_at l ≡ Some at) ⊎ ((cut at ≡ true) × (flight at ≡ []))

-- what is so of a passage besides the order of each pair
pub record Account (p : Passage) : Type 0 where
  pub counts : CountsOf p
  pub sents : Sents p.log p.flight p.waits
  pub ahead : Ahead p
  pub linked : Linked p.log p.up p.on p.at p.cut p.flight
  pub lively : Lively p.named p.stands p.bound
  pub who : (c : ℕ) → p.stands c ≡ stood c p.log
  pub lawful : Lawful p.named p.log

-- the invariant
pub record Inv (p : Passage) : Type 0 where
  pub pairs : (c : ℕ) → Ordered c p
  pub account : Account p

more_sents : (x : Entry) (l : List Entry) (flight : ℕ → List Item) (waits : List Item) → Sents l flight waits → Sents (x ∷ l) flight waits
more_sents x l flight waits s = record { flown = λ i. all_more x l (flight i) (s.flown i); held = all_more x l waits s.held }

put_sent : (l : List Entry) (i j : ℕ) (w : List Item) (flight : ℕ → List Item) → AllSent l w → ((j : ℕ) → AllSent l (flight j)) → AllSent l (put i w flight j)
put_sent l i j w flight a s = by_cond (nat_eq j i) where
  by_cond : (x : Bool) → AllSent l (cond x w (flight j))
  by_cond true = a
  by_cond false = s j

onto_sent : (l : List Entry) (b : Bool) (w items : List Item) → AllSent l w → AllSent l items → AllSent l (onto b w items)
onto_sent l true w items a s = a
onto_sent l false w items a s = sent_append l w items a s

-- ---- what is written

written_account : (b : Bool) (items : List Item) (p : Passage) → p.up ≡ b → AllSent p.log items → Account p → Account (written b items p)
written_account false items p u a s = record {
  counts = s.counts;
  sents = record { flown = s.sents.flown; held = sent_append p.log p.waits items s.sents.held a };
  ahead = s.ahead;
  linked = s.linked;
  lively = s.lively;
  who = s.who;
  lawful = s.lawful;
}
written_account true items p u a s = record {
  counts = s.counts;
  sents = record {
    flown = λ j. put_sent p.log p.on j (onto (p.cut p.on) (p.flight p.on) items) p.flight (onto_sent p.log (p.cut p.on) (p.flight p.on) items (s.sents.flown p.on) a) s.sents.flown;
    held = s.sents.held;
  };
  ahead = λ i h. put_there p.on i (onto (p.cut p.on) (p.flight p.on) items) p.flight (apart_back p.on i h) ∙ s.ahead i h;
  linked = record {
    written = λ i h. off_on i h (nat_eq i p.on) (λ x. same_number p.on i x);
    risen = s.linked.risen;
    hearing = deaf s.linked.hearing;
  };
  lively = s.lively;
  who = s.who;
  lawful = s.lawful;
} where
  apart_back : (i j : ℕ) → i < j → nat_eq j i ≡ false
  apart_back i j h = grind (arith, nat_tests)

  clash : false ≡ true → ⊥
  clash h = cc

  off_on : (i : ℕ) → has_risen i p.log ≡ false → (x : Bool) → (x ≡ true → p.on ≡ i) → cond x (onto (p.cut p.on) (p.flight p.on) items) (p.flight i) ≡ []
  off_on i h false e = s.linked.written i h
  off_on i h true e = absurd (clash (sym h ∙ ap (λ (z : ℕ). has_risen z p.log) (sym (e refl)) ∙ s.linked.risen u))

  deaf : (up_at p.log ≡ Some p.at) ⊎ ((p.cut p.at ≡ true) × (p.flight p.at ≡ [])) → (up_at p.log ≡ Some p.at) ⊎ ((p.cut p.at ≡ true) × (put p.on (onto (p.cut p.on) (p.flight p.on) items) p.flight p.at ≡ []))
  deaf (inl h) = inl h
  deaf (inr h) = inr (h.0, still (nat_eq p.at p.on) (λ x. same_number p.on p.at x)) where
    still : (x : Bool) → (x ≡ true → p.on ≡ p.at) → cond x (onto (p.cut p.on) (p.flight p.on) items) (p.flight p.at) ≡ []
    still false e = h.1
    still true e = ap (λ (z : Bool). onto z (p.flight p.on) items) (ap p.cut (e refl) ∙ h.0) ∙ ap p.flight (e refl) ∙ h.1

module _ (d : ℕ) (p : Passage) (s : Account p) where
  said_account : (m : Mark) → (p.mark d ≡ Ended → ⊥) → next_mark (p.mark d) ≡ m → Account (noted (Said d (p.epoch d) (p.index d)) (marked d m (p.epoch d) (suc (p.index d)) p))
  said_account m live is = record {
    counts = said_counts p d s.counts live m is;
    sents = more_sents (Said d (p.epoch d) (p.index d)) p.log p.flight p.waits s.sents;
    ahead = s.ahead;
    linked = record { written = s.linked.written; risen = s.linked.risen; hearing = s.linked.hearing };
    lively = s.lively;
    who = s.who;
    lawful = ((s.counts d).epoch live, (s.counts d).index, s.lawful);
  }

  again_account : (p.mark d ≡ Ended → ⊥) → Account (noted (Again d (suc (p.epoch d))) (marked d Unopened (suc (p.epoch d)) 0 p))
  again_account live = record {
    counts = again_counts p d s.counts live (suc (p.epoch d));
    sents = more_sents (Again d (suc (p.epoch d))) p.log p.flight p.waits s.sents;
    ahead = s.ahead;
    linked = record { written = s.linked.written; risen = s.linked.risen; hearing = s.linked.hearing };
    lively = s.lively;
    who = s.who;
    lawful = (ap suc ((s.counts d).epoch live), s.lawful);
  }

  finish_account : Account (marked d Ended (p.epoch d) (p.index d) p)
  finish_account = record { counts = finish_counts p d s.counts; sents = s.sents; ahead = s.ahead; linked = s.linked; lively = s.lively; who = s.who; lawful = s.lawful }

-- a pair with mark m isn't one with mark n
other : (m n k : Mark) → k ≡ m → (m ≡ n → ⊥) → k ≡ n → ⊥
other m n k is not h = not (sym is ∙ h)

module _ (d : ℕ) (p : Passage) (s : Account p) where
  sound : (p.mark d ≡ Broken → ⊥) → (p.mark d ≡ Ended → ⊥) → p.index d < meant d (p.epoch d) (Said d (p.epoch d) (p.index d) ∷ p.log)
  sound h g = let e = meant_next (p.named d) d (p.mark d) (p.epoch d) (p.index d) p.log h g (s.counts d) in omega arith

  say_account : (m : Mark) → p.mark d ≡ m → Account (say m d p)
  say_account Unopened is = written_account p.up (Created d (p.epoch d) ∷ Message d (p.epoch d) (p.index d) ∷ []) (noted (Said d (p.epoch d) (p.index d)) (marked d Opened (p.epoch d) (suc (p.index d)) p))
      refl (tt, (sound (other Unopened Broken (p.mark d) is never) (other Unopened Ended (p.mark d) is live), tt)) (said_account d p s Opened (other Unopened Ended (p.mark d) is live) (ap next_mark is)) where
        never : Unopened ≡ Broken → ⊥
        never h = cc

        live : Unopened ≡ Ended → ⊥
        live h = cc
  say_account Opened is = written_account p.up (Message d (p.epoch d) (p.index d) ∷ []) (noted (Said d (p.epoch d) (p.index d)) (marked d Opened (p.epoch d) (suc (p.index d)) p))
      refl (sound (other Opened Broken (p.mark d) is never) (other Opened Ended (p.mark d) is live), tt) (said_account d p s Opened (other Opened Ended (p.mark d) is live) (ap next_mark is)) where
        never : Opened ≡ Broken → ⊥
        never h = cc

        live : Opened ≡ Ended → ⊥
        live h = cc
  say_account Broken is = said_account d p s Broken (other Broken Ended (p.mark d) is live) (ap next_mark is) where
    live : Broken ≡ Ended → ⊥
    live h = cc
  say_account Ended is = s

  reconnect_account : (m : Mark) → p.mark d ≡ m → Account (reconnect m d p)
  reconnect_account Unopened is = again_account d p s (other Unopened Ended (p.mark d) is live) where
    live : Unopened ≡ Ended → ⊥
    live h = cc
  reconnect_account Opened is = written_account p.up (Closed d (p.epoch d) ∷ []) (noted (Again d (suc (p.epoch d))) (marked d Unopened (suc (p.epoch d)) 0 p)) refl (tt, tt)
      (again_account d p s (other Opened Ended (p.mark d) is live)) where
        live : Opened ≡ Ended → ⊥
        live h = cc
  reconnect_account Broken is = again_account d p s (other Broken Ended (p.mark d) is live) where
    live : Broken ≡ Ended → ⊥
    live h = cc
  reconnect_account Ended is = s

  end_account : (m : Mark) → Account (finish m d p)
  end_account Opened = written_account p.up (Closed d (p.epoch d) ∷ []) (marked d Ended (p.epoch d) (p.index d) p) refl (tt, tt) (finish_account d p s)
  end_account Unopened = finish_account d p s
  end_account Broken = finish_account d p s
  end_account Ended = finish_account d p s

-- ---- what is read

nothing : (item : Item) (w : List Item) → [] ≡ (item ∷ w) → ⊥
nothing item w h = cc

module _ (p : Passage) (v : Inv p) (item : Item) (w : List Item) (is : p.flight p.at ≡ item ∷ w) where
  first_sent : Sent p.log item × AllSent p.log w
  first_sent = subst (AllSent p.log) is (v.account.sents.flown p.at)

  -- what is unread is of a link that is up
  came_at : (up_at p.log ≡ Some p.at) ⊎ ((p.cut p.at ≡ true) × (p.flight p.at ≡ [])) → up_at p.log ≡ Some p.at
  came_at (inl h) = h
  came_at (inr h) = absurd (nothing item w (sym h.1 ∙ is))

  risen_at : has_risen p.at p.log ≡ true
  risen_at = by_test (has_risen p.at p.log) refl where
    by_test : (x : Bool) → has_risen p.at p.log ≡ x → x ≡ true
    by_test true h = refl
    by_test false h = absurd (nothing item w (sym (v.account.linked.written p.at h) ∙ is))

  linked_at : hears (up_at p.log) p.log ≡ true
  linked_at = ap (λ (z : Option ℕ). hears z p.log) (came_at v.account.linked.hearing) ∙ risen_at

  rest_account : Account (record p { flight = put p.at w p.flight })
  rest_account = record {
    counts = v.account.counts;
    sents = record { flown = λ j. put_sent p.log p.at j w p.flight first_sent.1 v.account.sents.flown; held = v.account.sents.held };
    ahead = λ i h. by_cond (nat_eq i p.at) i (λ x. same_number p.at i x) (v.account.ahead i h);
    linked = record {
      written = λ i h. by_cond (nat_eq i p.at) i (λ x. same_number p.at i x) (v.account.linked.written i h);
      risen = v.account.linked.risen;
      hearing = inl (came_at v.account.linked.hearing);
    };
    lively = v.account.lively;
    who = v.account.who;
    lawful = v.account.lawful;
  } where
    by_cond : (x : Bool) (i : ℕ) → (x ≡ true → p.at ≡ i) → p.flight i ≡ [] → cond x w (p.flight i) ≡ []
    by_cond true i e h = absurd (nothing item w (sym h ∙ ap p.flight (sym (e refl)) ∙ is))
    by_cond false i e h = h

bind_lively : (named : ℕ → Bool) (stands : ℕ → Option ℕ) (bound : ℕ → ℕ → Binding) (d f : ℕ) (b : Binding) → (b ≡ Bound → is_there (named d) (stands d) ≡ true)
    → Lively named stands bound → Lively named stands (λ c e. cond (nat_eq c d && nat_eq e f) b (bound c e))
bind_lively named stands bound d f b new s c e h = by_cond (nat_eq c d && nat_eq e f) (same_pair c d e f) h where
  same_pair : (c d e f : ℕ) → (nat_eq c d && nat_eq e f) ≡ true → d ≡ c
  same_pair c d e f x = grind (arith, nat_tests)

  by_cond : (x : Bool) → (x ≡ true → d ≡ c) → cond x b (bound c e) ≡ Bound → is_there (named c) (stands c) ≡ true
  by_cond true own h = subst (λ (z : ℕ). is_there (named z) (stands z) ≡ true) (own refl) (new h)
  by_cond false own h = s c e h

module _ (p : Passage) (v : Inv p) (w : List Item) where
  got_account : (d e k : ℕ) → p.flight p.at ≡ Message d e k ∷ w → (b : Binding) → p.bound d e ≡ b → Account (got b d e k (record p { flight = put p.at w p.flight }))
  got_account d e k is Unknown h = rest_account p v (Message d e k) w is
  got_account d e k is Void h = rest_account p v (Message d e k) w is
  got_account d e k is Bound h = record {
    counts = λ c. got_counts (p.named c) c d e k (p.stands d) (p.mark c) (p.epoch c) (p.index c) p.log (v.account.counts c);
    sents = more_sents (Got d e k (p.stands d)) p.log (put p.at w p.flight) p.waits (rest_account p v (Message d e k) w is).sents;
    ahead = (rest_account p v (Message d e k) w is).ahead;
    linked = let q = (rest_account p v (Message d e k) w is).linked in record { written = q.written; risen = q.risen; hearing = q.hearing };
    lively = v.account.lively;
    who = v.account.who;
    lawful = (record { said = (first_sent p v (Message d e k) w is).0; order = next.0; no_later = next.1; receiver = v.account.who d; living = v.account.lively d e h; over_link = linked_at p v (Message d e k) w is }, v.account.lawful);
  } where
    next : (k ≡ gots d e p.log) × ((y : ℕ) → e < y → gots d y p.log ≡ 0)
    next = (in_order d e k (λ y. gots d y p.log) (p.bound d) (v.pairs d).ear (cap (p.mark d) (p.epoch d)) (next_before d p (v.pairs d) (Message d e k) w is) (v.pairs d).known).1 h

  handle_account : (item : Item) → p.flight p.at ≡ item ∷ w → Account (handle item (record p { flight = put p.at w p.flight }))
  handle_account (Created d e) is = let s = rest_account p v (Created d e) w is in record {
    counts = s.counts;
    sents = s.sents;
    ahead = s.ahead;
    linked = s.linked;
    lively = bind_lively p.named p.stands p.bound d e (bound_to (is_there (p.named d) (p.stands d))) (to_bound (is_there (p.named d) (p.stands d))) s.lively;
    who = s.who;
    lawful = s.lawful;
  } where
    to_bound : (x : Bool) → bound_to x ≡ Bound → x ≡ true
    to_bound true h = refl
    to_bound false h = absurd (clash h) where
      clash : Void ≡ Bound → ⊥
      clash h = cc
  handle_account (Closed d e) is = let s = rest_account p v (Closed d e) w is in record {
    counts = s.counts;
    sents = s.sents;
    ahead = s.ahead;
    linked = s.linked;
    lively = bind_lively p.named p.stands p.bound d e Unknown (λ h. absurd (clash h)) s.lively;
    who = s.who;
    lawful = s.lawful;
  } where
    clash : Unknown ≡ Bound → ⊥
    clash h = cc
  handle_account (Message d e k) is = got_account d e k is (p.bound d e) refl

read_account : (p : Passage) (w : List Item) → p.flight p.at ≡ w → Inv p → Account (read w p)
read_account p [] is v = v.account
read_account p (item ∷ w) is v = handle_account p v w item is

-- ---- the moves

unknown_lively : (named : ℕ → Bool) (stands : ℕ → Option ℕ) → Lively named stands (λ c e. Unknown)
unknown_lively named stands c e h = absurd (clash h) where
  clash : Unknown ≡ Bound → ⊥
  clash h = cc

cut_account : (i : ℕ) (p : Passage) → Account p → Account (record p { cut = put i true p.cut; flight = put i [] p.flight })
cut_account i p s = record {
  counts = s.counts;
  sents = record { flown = λ j. put_sent p.log i j [] p.flight tt s.sents.flown; held = s.sents.held };
  ahead = λ j h. gone (nat_eq j i) j (s.ahead j h);
  linked = record {
    written = λ j h. gone (nat_eq j i) j (s.linked.written j h);
    risen = s.linked.risen;
    hearing = deaf s.linked.hearing;
  };
  lively = s.lively;
  who = s.who;
  lawful = s.lawful;
} where
  gone : (x : Bool) (j : ℕ) → p.flight j ≡ [] → cond x [] (p.flight j) ≡ []
  gone true j h = refl
  gone false j h = h

  stays : (x b : Bool) → b ≡ true → cond x true b ≡ true
  stays true b h = refl
  stays false b h = h

  deaf : (up_at p.log ≡ Some p.at) ⊎ ((p.cut p.at ≡ true) × (p.flight p.at ≡ [])) → (up_at p.log ≡ Some p.at) ⊎ ((put i true p.cut p.at ≡ true) × (put i [] p.flight p.at ≡ []))
  deaf (inl h) = inl h
  deaf (inr h) = inr (stays (nat_eq p.at i) (p.cut p.at) h.0, gone (nat_eq p.at i) p.at h.1)

account_kept : (m : Move) (p : Passage) → Allowed m p → Inv p → Account (after m p)
account_kept (Say d) p is v = say_account d p v.account (p.mark d) refl
account_kept (Reconnect d) p is v = reconnect_account d p v.account (p.mark d) refl
account_kept (Finish d) p is v = end_account d p v.account (p.mark d)
account_kept (Rise i) p is v = let s = v.account in record {
  counts = λ c. apart_counts (p.named c) c (Rose i) (p.mark c) (p.epoch c) (p.index c) p.log tt (s.counts c);
  sents = record {
    flown = λ j. all_more (Rose i) p.log (put i (onto (p.cut i) [] p.waits) p.flight j) (put_sent p.log i j (onto (p.cut i) [] p.waits) p.flight (onto_sent p.log (p.cut i) [] p.waits tt s.sents.held) s.sents.flown);
    held = tt;
  };
  ahead = λ j h. put_there i j (onto (p.cut i) [] p.waits) p.flight (apart_back i j h) ∙ s.ahead j (omega arith);
  linked = record {
    written = λ j h. off (nat_eq j i) (has_risen j p.log) _ _ h (s.linked.written j);
    risen = λ h. ap (λ (b : Bool). b || has_risen i p.log) (self_number i);
    hearing = deaf s.linked.hearing;
  };
  lively = s.lively;
  who = s.who;
  lawful = s.lawful;
} where
  apart_back : (i j : ℕ) → i < j → nat_eq j i ≡ false
  apart_back i j h = grind (arith, nat_tests)

  clash : true ≡ false → ⊥
  clash h = cc

  off : (x b : Bool) (w v : List Item) → (x || b) ≡ false → (b ≡ false → v ≡ []) → cond x w v ≡ []
  off true b w v h g = absurd (clash h)
  off false b w v h g = g h

  deaf : (up_at p.log ≡ Some p.at) ⊎ ((p.cut p.at ≡ true) × (p.flight p.at ≡ [])) → (up_at p.log ≡ Some p.at) ⊎ ((p.cut p.at ≡ true) × (put i (onto (p.cut i) [] p.waits) p.flight p.at ≡ []))
  deaf (inl h) = inl h
  deaf (inr h) = inr (h.0, still (nat_eq p.at i) (λ x. same_number i p.at x)) where
    still : (x : Bool) → (x ≡ true → i ≡ p.at) → cond x (onto (p.cut i) [] p.waits) (p.flight p.at) ≡ []
    still false e = h.1
    still true e = ap (λ (z : Bool). onto z [] p.waits) (ap p.cut (e refl) ∙ h.0)
account_kept Break p is v = let s = v.account in record {
  counts = λ c. broke_counts (p.named c) c (p.mark c) (p.epoch c) (p.index c) p.log (s.counts c);
  sents = record { flown = λ i. all_more Broke p.log (p.flight i) (s.sents.flown i); held = tt };
  ahead = s.ahead;
  linked = record { written = s.linked.written; risen = λ h. absurd (clash h); hearing = s.linked.hearing };
  lively = s.lively;
  who = s.who;
  lawful = s.lawful;
} where
  clash : false ≡ true → ⊥
  clash h = cc
account_kept Shut p is v = let s = v.account in record {
  counts = λ c. finish_own (p.named c) c (p.mark c) (p.epoch c) (p.index c) p.log (s.counts c);
  sents = record { flown = s.sents.flown; held = tt };
  ahead = s.ahead;
  linked = record { written = s.linked.written; risen = λ h. absurd (clash h); hearing = s.linked.hearing };
  lively = s.lively;
  who = s.who;
  lawful = s.lawful;
} where
  clash : false ≡ true → ⊥
  clash h = cc
account_kept (Cut i) p is v = cut_account i p v.account
account_kept (Come i) p is v = let s = v.account in record {
  counts = λ c. apart_counts (p.named c) c (Came i) (p.mark c) (p.epoch c) (p.index c) p.log tt (s.counts c);
  sents = more_sents (Came i) p.log p.flight p.waits s.sents;
  ahead = s.ahead;
  linked = record { written = s.linked.written; risen = s.linked.risen; hearing = inl refl };
  lively = unknown_lively p.named p.stands;
  who = s.who;
  lawful = s.lawful;
}
account_kept Fall p is v = let s = cut_account p.at p v.account in record {
  counts = λ c. apart_counts (p.named c) c Fell (p.mark c) (p.epoch c) (p.index c) p.log tt (s.counts c);
  sents = more_sents Fell p.log (put p.at [] p.flight) p.waits s.sents;
  ahead = s.ahead;
  linked = record { written = s.linked.written; risen = s.linked.risen; hearing = inr (put_here p.at true p.cut, put_here p.at [] p.flight) };
  lively = unknown_lively p.named p.stands;
  who = s.who;
  lawful = s.lawful;
}
account_kept Read p is v = read_account p (p.flight p.at) refl v
account_kept (Stand f) p is v = let s = v.account in record {
  counts = λ c. apart_counts (p.named c) c (Stood f) (p.mark c) (p.epoch c) (p.index c) p.log tt (s.counts c);
  sents = more_sents (Stood f) p.log p.flight p.waits s.sents;
  ahead = s.ahead;
  linked = record { written = s.linked.written; risen = s.linked.risen; hearing = s.linked.hearing };
  lively = λ c e h. lives (is_there (p.named c) (f c)) (p.bound c e) h;
  who = λ c. refl;
  lawful = s.lawful;
} where
  lives : (x : Bool) (b : Binding) → kept_bound x b ≡ Bound → x ≡ true
  lives true b h = refl
  lives false Unknown h = absurd (clash h) where
    clash : Unknown ≡ Bound → ⊥
    clash h = cc
  lives false Void h = absurd (clash h) where
    clash : Void ≡ Bound → ⊥
    clash h = cc
  lives false Bound h = absurd (clash h) where
    clash : Void ≡ Bound → ⊥
    clash h = cc

pair_kept : (m : Move) (p : Passage) → Allowed m p → Inv p → (c : ℕ) → Ordered c (after m p)
pair_kept (Say d) p is v c = say_pair c d p (p.mark d) refl (λ h. (v.account.counts d).fresh h) (v.pairs c)
pair_kept (Reconnect d) p is v c = reconnect_pair c d p (p.mark d) refl (v.pairs c)
pair_kept (Finish d) p is v c = finish_pair c d p (p.mark d) refl (v.pairs c)
pair_kept (Rise i) p is v c = rise_pair c p (v.pairs c) v.account.ahead i is.0 is.1
pair_kept Break p is v c = break_pair c p (v.pairs c)
pair_kept Shut p is v c = shut_pair c p (v.pairs c)
pair_kept (Cut i) p is v c = cut_pair c p (v.pairs c) i
pair_kept (Come i) p is v c = come_pair c p (v.pairs c) v.account.ahead i is
pair_kept Fall p is v c = fall_pair c p (v.pairs c)
pair_kept Read p is v c = read_pair c p (v.pairs c) (p.flight p.at) refl
pair_kept (Stand f) p is v c = stand_pair c p (v.pairs c) f

pub keeps : (m : Move) (p : Passage) → Allowed m p → Inv p → Inv (after m p)
keeps m p is v = record { pairs = pair_kept m p is v; account = account_kept m p is v }

pub inv_start : (named : ℕ → Bool) → Inv (start named)
inv_start named = record {
  pairs = start_pair named;
  account = record {
    counts = λ c. record { epoch = λ h. refl; index = refl; later = λ f h. refl; fresh = λ h. refl; some = λ h. absurd (never h); whole = λ h. absurd (never h); goes_on = λ n h. not_broken h };
    sents = record { flown = λ i. tt; held = tt };
    ahead = λ i h. refl;
    linked = record { written = λ i h. refl; risen = λ h. absurd (clash h); hearing = inr (refl, refl) };
    lively = unknown_lively named (start named).stands;
    who = λ c. refl;
    lawful = tt;
  };
} where
  never : Unopened ≡ Opened → ⊥
  never h = cc

  not_broken : Unopened ≡ Broken → ⊥
  not_broken h = cc

  clash : false ≡ true → ⊥
  clash h = cc

pub inv_run : (ms : List Move) (p : Passage) → AllAllowed ms p → Inv p → Inv (run ms p)
inv_run [] p are v = v
inv_run (m ∷ ms) p (is, are) v = inv_run ms (after m p) are (keeps m p is v)

-- whatever is reached
pub inv_reached : (p : Passage) → IsReached p → Inv p
inv_reached p r = subst Inv r.3 (inv_run r.1 (start r.0) r.2 (inv_start r.0))
