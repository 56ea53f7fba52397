-- Moves at the first n sockets leave the others dead.
use Rattle.std.proofs.Common.{◌≡◌, ◌<◌, ◌≤◌, ℕ, nat_eq, nat_lt, Bool, true, false, cond, List, [], ◌∷◌, refl, ap, sym, ◌∙◌, subst, arith}
use Rattle.std.proofs.lemmas.Bool.Decides.{nat_tests}
use Rattle.ch_link.specs.Sockets.{names}
use Rattle.ch_link.specs.declared.LinkState.{LinkState}
use Rattle.ch_link.specs.declared.LinkState.TheVariants.{Idle, Dialing, AwaitOther, Up}
use Rattle.ch_race.specs.Pair.{Side, Lesser, Greater, other, OEnd, OAsking, OUp, OEnded, TEnd, TOpen, TUp, TEnded, Item, Request, Accepted, Crossed, Invalid, EndClosed, Probe, Ack, Data, Sock, Pair, put, to_o, to_t, end_o, end_t, end_of, says, fresh, start}
use Rattle.ch_race.specs.Moves.{Move, Want, Join, Come, Read_o, Read_t, End_o, End_t, Refuse, Lose_o, Lose_t, Cut_o, Cut_t, Late, Timer, Shut, Say, Settled, after, Allowed, run, AllAllowed, say, troubled, shutting}
use Rattle.ch_race.specs.Naming.{Naming}
use Rattle.ch_race.specs.Settle.{Bounded, Beyond, IsWithin, AllWithin, Visits}
use Rattle.ch_race.specs.Invariant.{Invariant, IsReached, IsReachedWithin}
use Rattle.ch_race.proofs.Opened.{opened, let_go, fail, gone_o, gone_t, decline, answer, request, read_t, read_o, shut_down}
use Rattle.ch_race.proofs.Frame.{by_test, self_number, put_there}
use Rattle.ch_race.proofs.Names.{dead_unnamed, named_not}
use Rattle.ch_race.proofs.Opens.{opens}
use Rattle.ch_race.proofs.QuietMoves.{invariant_start}
use Rattle.ch_race.proofs.Runs.{invariant_after}

past : (n i j : ℕ) → i < n → n ≤ j → nat_eq j i ≡ false
past n i j h g = grind (arith, nat_tests)

is_below : (j n : ℕ) → nat_lt j n ≡ true → j < n
is_below j n h = grind (arith, nat_tests)

is_past : (j n : ℕ) → nat_lt j n ≡ false → n ≤ j
is_past j n h = grind (arith, nat_tests)

-- no link names a socket that is dead
pub bounded : (n : ℕ) (p : Pair) → Naming p → Beyond n p → Bounded n p
bounded n p nm beyond x j named = by_test (nat_lt j n) (is_below j n) (λ e. let ends : ((p.sock j).o ≡ OEnded) × ((p.sock j).t ≡ TEnded) = beyond j (is_past j n e) in
    absurd (named_not (p.link x) j named (sym (dead_unnamed p j x nm ends.0 ends.1))))

module _ (n : ℕ) where
  beyond_put : (p : Pair) (i : ℕ) (s : Sock) → i < n → Beyond n p → Beyond n (put i s p)
  beyond_put p i s h b j g = subst (λ (z : Sock). (z.o ≡ OEnded) × (z.t ≡ TEnded)) (sym (put_there i j s p (past n i j h g))) (b j g)

  beyond_let_go : (p : Pair) (x : Side) (k : LinkState) → p.link x ≡ k → Bounded n p → Beyond n p → Beyond n (let_go x k p)
  beyond_let_go p x Idle e m b = b
  beyond_let_go p x AwaitOther e m b = b
  beyond_let_go p x (Dialing d) e m b = beyond_put p d (end_of x (p.sock d)) (m x d (ap (λ (l : LinkState). names l d) e ∙ self_number d)) b
  beyond_let_go p x (Up u c) e m b = beyond_put p u (end_of x (p.sock u)) (m x u (ap (λ (l : LinkState). names l u) e ∙ self_number u)) b

  beyond_fail : (p : Pair) (x : Side) → Bounded n p → Beyond n p → Beyond n (fail x p)
  beyond_fail p x m b = beyond_let_go p x (p.link x) refl m b

  beyond_gone_o : (p : Pair) (i : ℕ) → i < n → Bounded n p → Beyond n p → Beyond n (gone_o i p)
  beyond_gone_o p i h m b = by_name (names (p.link (p.sock i).opener) i) where
    by_name : (c : Bool) → Beyond n (cond c (fail (p.sock i).opener p) (put i (end_o (p.sock i)) p))
    by_name true = beyond_fail p (p.sock i).opener m b
    by_name false = beyond_put p i (end_o (p.sock i)) h b

  beyond_gone_t : (p : Pair) (i : ℕ) → i < n → Bounded n p → Beyond n p → Beyond n (gone_t i p)
  beyond_gone_t p i h m b = by_name (names (p.link (other (p.sock i).opener)) i) where
    by_name : (c : Bool) → Beyond n (cond c (fail (other (p.sock i).opener) p) (put i (end_t (p.sock i)) p))
    by_name true = beyond_fail p (other (p.sock i).opener) m b
    by_name false = beyond_put p i (end_t (p.sock i)) h b

  beyond_shut : (p : Pair) (x : Side) (k : LinkState) → p.link x ≡ k → Bounded n p → Beyond n p → Beyond n (shut_down x k p)
  beyond_shut p x Idle e m b = b
  beyond_shut p x AwaitOther e m b = b
  beyond_shut p x (Dialing d) e m b = beyond_let_go p x (Dialing d) e m b
  beyond_shut p x (Up u c) e m b =
      let h : u < n = m x u (ap (λ (l : LinkState). names l u) e ∙ self_number u) in
      let q : Pair = put u (says x EndClosed (p.sock u)) p in
      beyond_put q u (end_of x (q.sock u)) h (beyond_put p u (says x EndClosed (p.sock u)) h b)

  beyond_say : (p : Pair) (x : Side) (k : LinkState) → p.link x ≡ k → Bounded n p → Beyond n p → Beyond n (say x k p)
  beyond_say p x Idle e m b = b
  beyond_say p x AwaitOther e m b = b
  beyond_say p x (Dialing d) e m b = b
  beyond_say p x (Up u c) e m b = beyond_put p u (says x Data (p.sock u)) (m x u (ap (λ (l : LinkState). names l u) e ∙ self_number u)) b

  module _ (p : Pair) (i : ℕ) (s : Sock) (h : i < n) (m : Bounded n p) (b : Beyond n p) where
    beyond_decline : (item : Item) → Beyond n (decline item i s p)
    beyond_decline item = beyond_put p i (end_t (to_o item s)) h b

    beyond_answer : (y : Side) (k : LinkState) → p.link y ≡ k → Beyond n (answer y k i s p)
    beyond_answer y Idle e = beyond_put p i (record (to_o Accepted s) { t = TUp }) h b
    beyond_answer y AwaitOther e = beyond_put p i (record (to_o Accepted s) { t = TUp }) h b
    beyond_answer Lesser (Dialing d) e = beyond_put (let_go Lesser (Dialing d) p) i (record (to_o Accepted s) { t = TUp }) h (beyond_let_go p Lesser (Dialing d) e m b)
    beyond_answer Greater (Dialing d) e = beyond_decline Crossed
    beyond_answer y (Up u true) e = beyond_decline Crossed
    beyond_answer y (Up u false) e =
        let q : Pair = decline Crossed i s p in
        beyond_put q u (says y Probe (q.sock u)) (m y u (ap (λ (l : LinkState). names l u) e ∙ self_number u)) (beyond_decline Crossed)

    beyond_request : (down : Bool) (y : Side) → Beyond n (request down y i s p)
    beyond_request true y = beyond_decline Invalid
    beyond_request false y = beyond_answer y (p.link y) refl

  beyond_read_t : (p : Pair) (i : ℕ) (e : TEnd) (w : List Item) → i < n → Bounded n p → Beyond n p → Beyond n (read_t e w i (p.sock i) p)
  beyond_read_t p i TOpen (Request ∷ w) h m b = beyond_request p i (record (p.sock i) { in_t = w }) h m b (p.shut (other (p.sock i).opener)) (other (p.sock i).opener)
  beyond_read_t p i TUp (Data ∷ w) h m b = beyond_put p i (record (p.sock i) { in_t = w }) h b
  beyond_read_t p i TUp (Probe ∷ w) h m b = beyond_put p i (to_o Ack (record (p.sock i) { in_t = w })) h b
  beyond_read_t p i TUp (Ack ∷ w) h m b = beyond_put p i (record (p.sock i) { in_t = w }) h b
  beyond_read_t p i TUp (EndClosed ∷ w) h m b = beyond_fail p (other (p.sock i).opener) m b
  beyond_read_t p i e w h m b = b

  beyond_read_o : (p : Pair) (i : ℕ) (e : OEnd) (w : List Item) → i < n → Bounded n p → Beyond n p → Beyond n (read_o e w i (p.sock i) p)
  beyond_read_o p i OAsking (Accepted ∷ w) h m b = beyond_put p i (record (p.sock i) { o = OUp; in_o = w }) h b
  beyond_read_o p i OAsking (Crossed ∷ w) h m b = beyond_put p i (end_o (p.sock i)) h b
  beyond_read_o p i OAsking (Invalid ∷ w) h m b = beyond_fail p (p.sock i).opener m b
  beyond_read_o p i OUp (Data ∷ w) h m b = beyond_put p i (record (p.sock i) { in_o = w }) h b
  beyond_read_o p i OUp (Probe ∷ w) h m b = beyond_put p i (to_t Ack (record (p.sock i) { in_o = w })) h b
  beyond_read_o p i OUp (Ack ∷ w) h m b = beyond_put p i (record (p.sock i) { in_o = w }) h b
  beyond_read_o p i OUp (EndClosed ∷ w) h m b = beyond_fail p (p.sock i).opener m b
  beyond_read_o p i e w h m b = b

  beyond_opened : (m : Move) (p : Pair) → IsWithin n m → Bounded n p → Beyond n p → Beyond n (opened m p)
  beyond_opened (Want x i) p h m b = beyond_put p i (fresh x) h b
  beyond_opened (Join i) p h m b = beyond_put p i (to_t Request (record (p.sock i) { o = OAsking })) h b
  beyond_opened (Come i) p h m b = beyond_put p i (record (p.sock i) { t = TOpen }) h b
  beyond_opened (Read_o i) p h m b = beyond_read_o p i (p.sock i).o (p.sock i).in_o h m b
  beyond_opened (Read_t i) p h m b = beyond_read_t p i (p.sock i).t (p.sock i).in_t h m b
  beyond_opened (End_o i) p h m b = beyond_gone_o p i h m b
  beyond_opened (End_t i) p h m b = beyond_gone_t p i h m b
  beyond_opened (Refuse i) p h m b = beyond_gone_o (troubled p) i h m b
  beyond_opened (Lose_o i) p h m b = beyond_gone_o (troubled p) i h m b
  beyond_opened (Lose_t i) p h m b = beyond_gone_t (troubled p) i h m b
  beyond_opened (Cut_o i) p h m b = beyond_put (troubled p) i (record (p.sock i) { cut_o = true; in_o = [] }) h b
  beyond_opened (Cut_t i) p h m b = beyond_put (troubled p) i (record (p.sock i) { cut_t = true; in_t = [] }) h b
  beyond_opened (Late x) p h m b = beyond_fail (troubled p) x m b
  beyond_opened (Timer x) p h m b = beyond_fail p x m b
  beyond_opened (Shut x) p h m b = beyond_shut (shutting x p) x (p.link x) refl m b
  beyond_opened (Say x) p h m b = beyond_say p x (p.link x) refl m b
  beyond_opened Settled p h m b = b

pub beyond_after : (n : ℕ) (m : Move) (p : Pair) → Allowed m p → IsWithin n m → Naming p → Beyond n p → Beyond n (after m p)
beyond_after n m p is h nm b = subst (Beyond n) (sym (opens m p is nm)) (beyond_opened n m p h (bounded n p nm b) b)

pub beyond_run : (n : ℕ) (ms : List Move) (p : Pair) → AllAllowed ms p → AllWithin n ms → Invariant p → Beyond n p → Beyond n (run ms p)
beyond_run n [] p are hs v b = b
beyond_run n (m ∷ ms) p (is, are) (h, hs) v b = beyond_run n ms (after m p) are hs (invariant_after m p is v) (beyond_after n m p is h v.named b)

pub reached : (n : ℕ) (p : Pair) → IsReachedWithin n p → IsReached p
reached n p r = (r.0, r.1, r.2, r.4)

pub beyond_reached : (n : ℕ) (p : Pair) → IsReachedWithin n p → Beyond n p
beyond_reached n p r = subst (Beyond n) r.4 (beyond_run n r.1 (start r.0) r.2 r.3 (invariant_start r.0) (λ j h. (refl, refl)))

-- what settling does is at the first n sockets
pub visit_within : (n : ℕ) (m : Move) (p : Pair) → Visits n m p → IsWithin n m
visit_within n (Join i) p v = v
visit_within n (Come i) p v = v
visit_within n (Read_o i) p v = v.0
visit_within n (Read_t i) p v = v.0
visit_within n (End_o i) p v = v
visit_within n (End_t i) p v = v
visit_within n (Want x i) p v = absurd v
visit_within n (Refuse i) p v = absurd v
visit_within n (Lose_o i) p v = absurd v
visit_within n (Lose_t i) p v = absurd v
visit_within n (Cut_o i) p v = absurd v
visit_within n (Cut_t i) p v = absurd v
visit_within n (Late x) p v = absurd v
visit_within n (Timer x) p v = absurd v
visit_within n (Shut x) p v = absurd v
visit_within n (Say x) p v = absurd v
visit_within n Settled p v = absurd v
