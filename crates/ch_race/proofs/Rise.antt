-- A target's end comes up only where it is free.
use Rattle.std.proofs.Common.{◌≡◌, ◌≢◌, ◌⊎◌, inl, inr, ℕ, nat_eq, Bool, true, false, cond, List, [], ◌∷◌, refl, ap, sym, ◌∙◌, subst}
use Rattle.ch_link.specs.Sockets.{names}
use Rattle.ch_link.specs.declared.LinkState.{LinkState}
use Rattle.ch_link.specs.declared.LinkState.TheVariants.{Idle, Dialing, AwaitOther, Up}
use Rattle.ch_race.specs.Pair.{Side, Lesser, Greater, other, same, OEnd, OAsking, OUp, OEnded, TEnd, TPending, TOpen, TUp, TEnded, Item, Request, Accepted, Crossed, Invalid, EndClosed, Probe, Ack, Data, Sock, Pair, put, to_o, to_t, end_o, end_t, end_of, says, fresh}
use Rattle.ch_race.specs.Moves.{Move, Want, Join, Come, Read_o, Read_t, End_o, End_t, Refuse, Lose_o, Lose_t, Cut_o, Cut_t, Late, Timer, Shut, Say, Settled, after, Allowed, say, troubled, shutting}
use Rattle.ch_race.specs.Naming.{role_o, Naming, IsFreeFor, ComesUpFree}
use Rattle.ch_race.specs.Words.{Worded}
use Rattle.ch_race.specs.Invariant.{Invariant}
use Rattle.ch_race.proofs.Opened.{opened, let_go, fail, gone_o, gone_t, accept, decline, probe, answer, request, read_t, read_o, shut_down}
use Rattle.ch_race.proofs.Frame.{by_test, same_number, put_here, put_there}
use Rattle.ch_race.proofs.Facts.{asking_link}
use Rattle.ch_race.proofs.Words.{asker}
use Rattle.ch_race.proofs.Opens.{opens}

-- no target's end is up in q that wasn't in p
record Keeps (p q : Pair) : Type 0 where
  up : (j : ℕ) → (q.sock j).t ≡ TUp → (p.sock j).t ≡ TUp

keep_put : (p : Pair) (i : ℕ) (s : Sock) → (s.t ≡ TUp → (p.sock i).t ≡ TUp) → Keeps p (put i s p)
keep_put p i s f = record {
  up = λ j. by_test {P = ((put i s p).sock j).t ≡ TUp → (p.sock j).t ≡ TUp} (nat_eq j i)
      (λ e. subst (λ (m : ℕ). ((put i s p).sock m).t ≡ TUp → (p.sock m).t ≡ TUp) (same_number i j e) (subst (λ (z : Sock). z.t ≡ TUp → (p.sock i).t ≡ TUp) (sym (put_here i s p)) f))
      (λ e. subst (λ (z : Sock). z.t ≡ TUp → (p.sock j).t ≡ TUp) (sym (put_there i j s p e)) (λ h. h));
}

same_up : (p : Pair) → Keeps p p
same_up p = record { up = λ j h. h }

then_up : (p q r : Pair) → Keeps p q → Keeps q r → Keeps p r
then_up p q r f g = record { up = λ j h. f.up j (g.up j h) }

ended_not_up : {A : Type 0} → TEnded ≡ TUp → A
ended_not_up e = absurd (clash e) where
  clash : TEnded ≡ TUp → ⊥
  clash f = cc

end_of_keeps : (x : Side) (s : Sock) → (end_of x s).t ≡ TUp → s.t ≡ TUp
end_of_keeps x s = by_side (same x s.opener) where
  by_side : (b : Bool) → (cond b (end_o s) (end_t s)).t ≡ TUp → s.t ≡ TUp
  by_side true h = h
  by_side false h = ended_not_up h

says_keeps : (x : Side) (item : Item) (s : Sock) → (says x item s).t ≡ TUp → s.t ≡ TUp
says_keeps x item s = by_side (same x s.opener) where
  by_side : (b : Bool) → (cond b (to_t item s) (to_o item s)).t ≡ TUp → s.t ≡ TUp
  by_side true h = h
  by_side false h = h

let_go_up : (p : Pair) (x : Side) (k : LinkState) → Keeps p (let_go x k p)
let_go_up p x Idle = same_up p
let_go_up p x AwaitOther = record { up = λ j h. h }
let_go_up p x (Dialing d) = record { up = (keep_put p d (end_of x (p.sock d)) (end_of_keeps x (p.sock d))).up }
let_go_up p x (Up u b) = record { up = (keep_put p u (end_of x (p.sock u)) (end_of_keeps x (p.sock u))).up }

gone_o_up : (p : Pair) (i : ℕ) → Keeps p (gone_o i p)
gone_o_up p i = by_name (names (p.link (p.sock i).opener) i) where
  by_name : (b : Bool) → Keeps p (cond b (fail (p.sock i).opener p) (put i (end_o (p.sock i)) p))
  by_name true = let_go_up p (p.sock i).opener (p.link (p.sock i).opener)
  by_name false = keep_put p i (end_o (p.sock i)) (λ h. h)

gone_t_up : (p : Pair) (i : ℕ) → Keeps p (gone_t i p)
gone_t_up p i = by_name (names (p.link (other (p.sock i).opener)) i) where
  by_name : (b : Bool) → Keeps p (cond b (fail (other (p.sock i).opener) p) (put i (end_t (p.sock i)) p))
  by_name true = let_go_up p (other (p.sock i).opener) (p.link (other (p.sock i).opener))
  by_name false = keep_put p i (end_t (p.sock i)) (λ h. ended_not_up h)

shut_up : (p : Pair) (x : Side) (k : LinkState) → Keeps p (shut_down x k p)
shut_up p x Idle = same_up p
shut_up p x AwaitOther = let_go_up p x AwaitOther
shut_up p x (Dialing d) = let_go_up p x (Dialing d)
shut_up p x (Up u b) = then_up p (put u (says x EndClosed (p.sock u)) p) (shut_down x (Up u b) p) (keep_put p u (says x EndClosed (p.sock u)) (says_keeps x EndClosed (p.sock u))) (let_go_up (put u (says x EndClosed (p.sock u)) p) x (Up u b))

say_up : (p : Pair) (x : Side) (k : LinkState) → Keeps p (say x k p)
say_up p x Idle = same_up p
say_up p x AwaitOther = same_up p
say_up p x (Dialing d) = same_up p
say_up p x (Up u b) = keep_put p u (says x Data (p.sock u)) (says_keeps x Data (p.sock u))

read_o_up : (p : Pair) (i : ℕ) (e : OEnd) (w : List Item) → Keeps p (read_o e w i (p.sock i) p)
read_o_up p i OAsking (Accepted ∷ w) = record { up = (keep_put p i (record (p.sock i) { o = OUp; in_o = w }) (λ h. h)).up }
read_o_up p i OAsking (Crossed ∷ w) = record { up = (keep_put p i (end_o (p.sock i)) (λ h. h)).up }
read_o_up p i OAsking (Invalid ∷ w) = let_go_up p (p.sock i).opener (p.link (p.sock i).opener)
read_o_up p i OUp (Data ∷ w) = keep_put p i (record (p.sock i) { in_o = w }) (λ h. h)
read_o_up p i OUp (Probe ∷ w) = keep_put p i (to_t Ack (record (p.sock i) { in_o = w })) (λ h. h)
read_o_up p i OUp (Ack ∷ w) = record { up = (keep_put p i (record (p.sock i) { in_o = w }) (λ h. h)).up }
read_o_up p i OUp (EndClosed ∷ w) = let_go_up p (p.sock i).opener (p.link (p.sock i).opener)
read_o_up p i e w = same_up p

-- up before, or free to come up
record MayRise (p q : Pair) : Type 0 where
  may : (j : ℕ) → (q.sock j).t ≡ TUp → ((p.sock j).t ≡ TUp) ⊎ IsFreeFor p j

kept : (p q : Pair) → Keeps p q → MayRise p q
kept p q k = record { may = λ j h. inl (k.up j h) }

module _ (p : Pair) (i : ℕ) (w : List Item) (n : Naming p) (ws : Worded p) (is_open : TOpen ≡ (p.sock i).t) (first : Request ∷ w ≡ (p.sock i).in_t) where
  abbrev at : Sock
  at = record (p.sock i) { in_t = w }

  asking : (p.sock i).o ≢ OEnded → p.link (p.sock i).opener ≡ Dialing i
  asking stays = by_case (asker _ _ (p.sock i) w (ws i) is_open first) where
    by_case : ((p.sock i).o ≡ OAsking) ⊎ ((p.sock i).o ≡ OEnded) → p.link (p.sock i).opener ≡ Dialing i
    by_case a = elim a as (λ s. p.link (p.sock i).opener ≡ Dialing i) [ inl e ↦ asking_link _ i (ap role_o (sym e) ∙ (n i).own) | inr e ↦ absurd (stays e) ]

  -- the link of the node that is asked isn't up
  free : (k : LinkState) → p.link (other (p.sock i).opener) ≡ k → ((u : ℕ) (b : Bool) → k ≡ Up u b → ⊥) → IsFreeFor p i
  free k e never = record { target = λ u b f. never u b (sym e ∙ f); opener = asking }

  accept_up : (q : Pair) (y : Side) → Keeps p q → IsFreeFor p i → MayRise p (accept y i at q)
  accept_up q y k f = record {
    may = λ j h. by_test {P = ((p.sock j).t ≡ TUp) ⊎ IsFreeFor p j} (nat_eq j i)
        (λ e. inr (subst (IsFreeFor p) (same_number i j e) f))
        (λ e. inl (k.up j (subst (λ (z : Sock). z.t ≡ TUp) (put_there i j (record (to_o Accepted at) { t = TUp }) q e) h)));
  }

  decline_up : (item : Item) → Keeps p (decline item i at p)
  decline_up item = keep_put p i (end_t (to_o item at)) (λ h. ended_not_up h)

  probe_up : (y : Side) (u : ℕ) (b : Bool) → Keeps p (probe y u b (decline Crossed i at p))
  probe_up y u true = decline_up Crossed
  probe_up y u false =
      let q : Pair = decline Crossed i at p in
      then_up p q (probe y u false q) (decline_up Crossed) (record { up = (keep_put q u (says y Probe (q.sock u)) (says_keeps y Probe (q.sock u))).up })

  answer_up : (y : Side) (k : LinkState) → y ≡ other (p.sock i).opener → p.link y ≡ k → MayRise p (answer y k i at p)
  answer_up y Idle is e = accept_up p y (same_up p) (free Idle (ap p.link (sym is) ∙ e) (λ u b f. cc))
  answer_up y AwaitOther is e = accept_up p y (same_up p) (free AwaitOther (ap p.link (sym is) ∙ e) (λ u b f. cc))
  answer_up Lesser (Dialing d) is e = accept_up (let_go Lesser (Dialing d) p) Lesser (let_go_up p Lesser (Dialing d)) (free (Dialing d) (ap p.link (sym is) ∙ e) (λ u b f. cc))
  answer_up Greater (Dialing d) is e = kept p _ (decline_up Crossed)
  answer_up y (Up u b) is e = kept p _ (probe_up y u b)

  request_up : (down : Bool) → MayRise p (request down (other (p.sock i).opener) i at p)
  request_up true = kept p _ (decline_up Invalid)
  request_up false = answer_up (other (p.sock i).opener) (p.link (other (p.sock i).opener)) refl refl

read_t_up : (p : Pair) (i : ℕ) (e : TEnd) (w : List Item) → Naming p → Worded p → e ≡ (p.sock i).t → w ≡ (p.sock i).in_t → MayRise p (read_t e w i (p.sock i) p)
read_t_up p i TOpen (Request ∷ w) n ws h g = request_up p i w n ws h g (p.shut (other (p.sock i).opener))
read_t_up p i TUp (Data ∷ w) n ws h g = kept p _ (keep_put p i (record (p.sock i) { in_t = w }) (λ k. k))
read_t_up p i TUp (Probe ∷ w) n ws h g = kept p _ (keep_put p i (to_o Ack (record (p.sock i) { in_t = w })) (λ k. k))
read_t_up p i TUp (Ack ∷ w) n ws h g = record { may = (kept p _ (keep_put p i (record (p.sock i) { in_t = w }) (λ k. k))).may }
read_t_up p i TUp (EndClosed ∷ w) n ws h g = kept p _ (let_go_up p (other (p.sock i).opener) (p.link (other (p.sock i).opener)))
read_t_up p i e w n ws h g = kept p p (same_up p)

rises : (m : Move) (p : Pair) → Allowed m p → Naming p → Worded p → MayRise p (opened m p)
rises (Want x i) p is n ws = record { may = (kept p _ (keep_put p i (fresh x) (λ h. absurd (pending h)))).may } where
  pending : TPending ≡ TUp → ⊥
  pending h = cc
rises (Join i) p is n ws = kept p _ (keep_put p i (to_t Request (record (p.sock i) { o = OAsking })) (λ h. h))
rises (Come i) p is n ws = kept p _ (keep_put p i (record (p.sock i) { t = TOpen }) (λ h. absurd (is_open h))) where
  is_open : TOpen ≡ TUp → ⊥
  is_open h = cc
rises (Read_o i) p is n ws = kept p _ (read_o_up p i (p.sock i).o (p.sock i).in_o)
rises (Read_t i) p is n ws = read_t_up p i (p.sock i).t (p.sock i).in_t n ws refl refl
rises (End_o i) p is n ws = kept p _ (gone_o_up p i)
rises (End_t i) p is n ws = kept p _ (gone_t_up p i)
rises (Refuse i) p is n ws = kept p (opened (Refuse i) p) (record { up = (gone_o_up (troubled p) i).up })
rises (Lose_o i) p is n ws = kept p (opened (Lose_o i) p) (record { up = (gone_o_up (troubled p) i).up })
rises (Lose_t i) p is n ws = kept p (opened (Lose_t i) p) (record { up = (gone_t_up (troubled p) i).up })
rises (Cut_o i) p is n ws = kept p (opened (Cut_o i) p) (record { up = (keep_put p i (record (p.sock i) { cut_o = true; in_o = [] }) (λ h. h)).up })
rises (Cut_t i) p is n ws = kept p (opened (Cut_t i) p) (record { up = (keep_put p i (record (p.sock i) { cut_t = true; in_t = [] }) (λ h. h)).up })
rises (Late x) p is n ws = kept p (opened (Late x) p) (record { up = (let_go_up (troubled p) x (p.link x)).up })
rises (Timer x) p is n ws = kept p _ (let_go_up p x (p.link x))
rises (Shut x) p is n ws = kept p (opened (Shut x) p) (record { up = (shut_up (shutting x p) x (p.link x)).up })
rises (Say x) p is n ws = kept p _ (say_up p x (p.link x))
rises Settled p is n ws = record { may = λ j h. inl h }

pub comes_up_free : (m : Move) (p : Pair) → Allowed m p → Invariant p → ComesUpFree p (after m p)
comes_up_free m p is v i down up =
    let may : ((p.sock i).t ≡ TUp) ⊎ IsFreeFor p i = (rises m p is v.named v.words).may i (subst (λ (q : Pair). (q.sock i).t ≡ TUp) (opens m p is v.named) up) in
    elim may as (λ s. IsFreeFor p i) [ inl h ↦ absurd (down h) | inr f ↦ f ]
