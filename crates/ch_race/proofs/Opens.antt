-- Each move is what the opened table says.
use mathlib.Core.Path.{fun_ext}
use Rattle.std.proofs.Common.{◌≡◌, ℕ, nat_eq, Bool, true, false, cond, List, ◌∷◌, refl, ap, sym, ◌∙◌}
use Rattle.ch_link.specs.Table.{step_of}
use Rattle.ch_link.specs.Sockets.{names}
use Rattle.ch_link.specs.declared.LinkState.{LinkState}
use Rattle.ch_link.specs.declared.LinkState.TheVariants.{Idle, Dialing, AwaitOther, Up}
use Rattle.ch_link.specs.declared.LinkIn.{LinkIn}
use Rattle.ch_link.specs.declared.LinkIn.TheVariants as inputs
use Rattle.ch_link.specs.declared.LinkAnswer.TheVariants as answers
use Rattle.ch_race.specs.Pair.{Side, Lesser, Greater, other, same, is_greater, OEnd, OAsking, OUp, TEnd, TOpen, TUp, Item, Request, Accepted, Crossed, Invalid, EndClosed, Probe, Ack, Data, Sock, Pair, put, point, end_o, end_t, end_of, says}
use Rattle.ch_race.specs.Moves.{Move, Want, Join, Come, Read_o, Read_t, End_o, End_t, Refuse, Lose_o, Lose_t, Cut_o, Cut_t, Late, Timer, Shut, Say, Settled, after, Allowed, obeys, hears, asked, accepted, declined, leaves, closes, troubled, shutting, IsTimed}
use Rattle.ch_race.specs.Moves as moves
use Rattle.ch_race.specs.Naming.{role_o, role_t, Naming}
use Rattle.ch_race.proofs.Opened.{opened, let_go, fail, answer, request, read_t, read_o, gone_o, gone_t, shut_down}
use Rattle.ch_race.proofs.Frame.{by_test, same_number, put_here, put_there}
use Rattle.ch_race.proofs.Names.{same_self, same_peer}
use Rattle.ch_race.proofs.WordMoves.{says_own, says_peer}
use Rattle.ch_race.proofs.Facts.{asking_link, up_link, dialer}

cond_twice : {X : Type 0} (b : Bool) (x y z : X) → cond b x (cond b y z) ≡ cond b x z
cond_twice true x y z = refl
cond_twice false x y z = refl

cond_under : {X : Type 0} (b c : Bool) (x y z w : X) → cond b x (cond c y (cond b z w)) ≡ cond b x (cond c y w)
cond_under true c x y z w = refl
cond_under false c x y z w = refl

put_put : (i : ℕ) (s t : Sock) (p : Pair) → put i t (put i s p) ≡ put i t p
put_put i s t p = ap (λ (f : ℕ → Sock). record p { sock = f }) (fun_ext (λ j. cond_twice (nat_eq j i) t s (p.sock j)))

put_under : (i d : ℕ) (s t u : Sock) (p : Pair) → put i t (put d u (put i s p)) ≡ put i t (put d u p)
put_under i d s t u p = ap (λ (f : ℕ → Sock). record p { sock = f }) (fun_ext (λ j. cond_under (nat_eq j i) (nat_eq j d) t u s (p.sock j)))

-- a change of the socket that was put last
put_again : (i : ℕ) (s : Sock) (f : Sock → Sock) (p : Pair) → put i (f ((put i s p).sock i)) (put i s p) ≡ put i (f s) p
put_again i s f p = ap (λ (z : Sock). put i (f z) (put i s p)) (put_here i s p) ∙ put_put i s (f s) p

same_link : (x z : Side) (k : LinkState) (p : Pair) → p.link x ≡ k → cond (same z x) k (p.link z) ≡ p.link z
same_link Lesser Lesser k p e = sym e
same_link Lesser Greater k p e = refl
same_link Greater Lesser k p e = refl
same_link Greater Greater k p e = sym e

-- a link that stays
point_same : (x : Side) (k : LinkState) (p : Pair) → p.link x ≡ k → point x k p ≡ p
point_same x k p e = ap (λ (f : Side → LinkState). record p { link = f }) (fun_ext (λ z. same_link x z k p e))

point_point : (x : Side) (k l : LinkState) (p : Pair) → point x k (point x l p) ≡ point x k p
point_point x k l p = ap (λ (f : Side → LinkState). record p { link = f }) (fun_ext (λ z. cond_twice (same z x) k l (p.link z)))

-- a link is asked on the socket i, which is s now
asked_opens : (y : Side) (k : LinkState) (i : ℕ) (s : Sock) (p : Pair) → p.link y ≡ k → ((d : ℕ) → k ≡ Dialing d → nat_eq d i ≡ false)
    → obeys y k i (step_of k (inputs.Asked i) (is_greater y)) (put i s p) ≡ answer y k i s p
unfolding step_of
asked_opens y Idle i s p e apart = ap (point y (Up i false)) (put_again i s accepted p)
asked_opens y AwaitOther i s p e apart = ap (point y (Up i false)) (put_again i s accepted p)
asked_opens Lesser (Dialing d) i s p e apart =
    ap (λ (z : Sock). point Lesser (Up i false) (put i (accepted z) (put d (end_of Lesser ((put i s p).sock d)) (put i s p)))) (put_here i s p)
    ∙ ap (λ (z : Sock). point Lesser (Up i false) (put i (accepted s) (put d (end_of Lesser z) (put i s p)))) (put_there i d s p (apart d refl))
    ∙ ap (point Lesser (Up i false)) (put_under i d s (accepted s) (end_of Lesser (p.sock d)) p)
    ∙ sym (point_point Lesser (Up i false) Idle (put i (accepted s) (put d (end_of Lesser (p.sock d)) p)))
asked_opens Greater (Dialing d) i s p e apart = point_same Greater (Dialing d) _ e ∙ put_again i s (declined Crossed) p
asked_opens y (Up u true) i s p e apart = point_same y (Up u true) _ e ∙ put_again i s (declined Crossed) p
asked_opens y (Up u false) i s p e apart = ap (λ (q : Pair). point y (Up u true) (put u (says y Probe (q.sock u)) q)) (put_again i s (declined Crossed) p)

-- the rows of a link that names the socket i
probe_row : (x : Side) (i : ℕ) (b : Bool) (q : Pair) → obeys x (Up i b) i (step_of (Up i b) inputs.Probe (is_greater x)) q ≡ point x (Up i b) (put i (says x Ack (q.sock i)) q)
unfolding step_of
probe_row x i b q = refl

ack_row : (x : Side) (i : ℕ) (b : Bool) (q : Pair) → obeys x (Up i b) i (step_of (Up i b) inputs.Ack (is_greater x)) q ≡ point x (Up i false) q
unfolding step_of
ack_row x i b q = refl

closed_row : (x : Side) (i : ℕ) (b : Bool) (q : Pair) → obeys x (Up i b) i (step_of (Up i b) inputs.EndClosed (is_greater x)) q ≡ point x Idle (put i (end_of x (q.sock i)) q)
unfolding step_of
closed_row x i b q = refl

accepted_row : (x : Side) (i : ℕ) (q : Pair) → obeys x (Dialing i) i (step_of (Dialing i) (inputs.Answered answers.Accepted) (is_greater x)) q ≡ point x (Up i false) (put i (record (q.sock i) { o = OUp }) q)
unfolding step_of
accepted_row x i q = refl

crossed_row : (x : Side) (i : ℕ) (q : Pair) → obeys x (Dialing i) i (step_of (Dialing i) (inputs.Answered answers.Crossed) (is_greater x)) q ≡ point x AwaitOther (put i (end_of x (q.sock i)) q)
unfolding step_of
crossed_row x i q = refl

invalid_row : (x : Side) (i : ℕ) (q : Pair) → obeys x (Dialing i) i (step_of (Dialing i) (inputs.Answered answers.Invalid) (is_greater x)) q ≡ point x Idle (put i (end_of x (q.sock i)) q)
unfolding step_of
invalid_row x i q = refl

want_row : (x : Side) (i : ℕ) (k : LinkState) (p : Pair) → k ≡ Idle → obeys x k i (step_of k (inputs.Want i) (is_greater x)) p ≡ opened (Want x i) p
unfolding step_of
want_row x i Idle p e = refl
want_row x i (Dialing d) p e = absurd (cc)
want_row x i AwaitOther p e = absurd (cc)
want_row x i (Up u b) p e = absurd (cc)

gone_row : (x : Side) (k : LinkState) (i : ℕ) (p : Pair) → names k i ≡ true → obeys x k i (step_of k inputs.Gone (is_greater x)) p ≡ let_go x k p
unfolding step_of
gone_row x Idle i p e = absurd (cc)
gone_row x AwaitOther i p e = absurd (cc)
gone_row x (Dialing d) i p e = refl
gone_row x (Up u b) i p e = refl

pub late_row : (x : Side) (k : LinkState) (p : Pair) → IsTimed k → obeys x k 0 (step_of k inputs.Late (is_greater x)) p ≡ let_go x k p
unfolding step_of
late_row x Idle p e = absurd (cc)
late_row x AwaitOther p e = refl
late_row x (Dialing d) p e = refl
late_row x (Up u true) p e = refl
late_row x (Up u false) p e = absurd (cc)

shut_row : (x : Side) (k : LinkState) (q : Pair) → q.link x ≡ k → obeys x k 0 (step_of k inputs.Shut (is_greater x)) q ≡ shut_down x k q
unfolding step_of
shut_row x Idle q e = point_same x Idle q e
shut_row x AwaitOther q e = refl
shut_row x (Dialing d) q e = refl
shut_row x (Up u b) q e = ap (point x Idle) (sym (put_again u (says x EndClosed (q.sock u)) (end_of x) q))

-- the state that a link has
hears_at : (x : Side) (i : ℕ) (input : LinkIn) (k : LinkState) (q : Pair) → q.link x ≡ k → hears step_of x i input q ≡ obeys x k i (step_of k input (is_greater x)) q
hears_at x i input k q e = ap (λ (l : LinkState). obeys x l i (step_of l input (is_greater x)) q) e

module _ (i : ℕ) (s : Sock) (p : Pair) (opener : s.opener ≡ (p.sock i).opener) where
  end_own : end_of s.opener s ≡ end_o s
  end_own = ap (λ (b : Bool). cond b (end_o s) (end_t s)) (same_self s.opener)

  end_peer : end_of (other s.opener) s ≡ end_t s
  end_peer = ap (λ (b : Bool). cond b (end_o s) (end_t s)) (same_peer s.opener)

  probe_opens : (x : Side) (b : Bool) (t : Sock) → p.link x ≡ Up i b → says x Ack s ≡ t → hears step_of x i inputs.Probe (put i s p) ≡ put i t p
  probe_opens x b t e says_is = hears_at x i inputs.Probe (Up i b) (put i s p) e ∙ probe_row x i b (put i s p) ∙ point_same x (Up i b) _ e ∙ put_again i s (says x Ack) p ∙ ap (λ (z : Sock). put i z p) says_is

  ack_opens : (x : Side) (b : Bool) → p.link x ≡ Up i b → hears step_of x i inputs.Ack (put i s p) ≡ point x (Up i false) (put i s p)
  ack_opens x b e = hears_at x i inputs.Ack (Up i b) (put i s p) e ∙ ack_row x i b (put i s p)

  closed_opens : (x : Side) (b : Bool) → p.link x ≡ Up i b → end_of x s ≡ end_of x (p.sock i) → hears step_of x i inputs.EndClosed (put i s p) ≡ fail x p
  closed_opens x b e ends = hears_at x i inputs.EndClosed (Up i b) (put i s p) e ∙ closed_row x i b (put i s p) ∙ ap (point x Idle) (put_again i s (end_of x) p)
      ∙ ap (λ (z : Sock). point x Idle (put i z p)) ends ∙ ap (λ (k : LinkState). let_go x k p) (sym e)

  accepted_opens : (x : Side) → p.link x ≡ Dialing i → hears step_of x i (inputs.Answered answers.Accepted) (put i s p) ≡ point x (Up i false) (put i (record s { o = OUp }) p)
  accepted_opens x e = hears_at x i (inputs.Answered answers.Accepted) (Dialing i) (put i s p) e ∙ accepted_row x i (put i s p) ∙ ap (point x (Up i false)) (put_again i s (λ z. record z { o = OUp }) p)

  crossed_opens : (x : Side) → p.link x ≡ Dialing i → hears step_of x i (inputs.Answered answers.Crossed) (put i s p) ≡ point x AwaitOther (put i (end_of x s) p)
  crossed_opens x e = hears_at x i (inputs.Answered answers.Crossed) (Dialing i) (put i s p) e ∙ crossed_row x i (put i s p) ∙ ap (point x AwaitOther) (put_again i s (end_of x) p)

  invalid_opens : (x : Side) → p.link x ≡ Dialing i → end_of x s ≡ end_of x (p.sock i) → hears step_of x i (inputs.Answered answers.Invalid) (put i s p) ≡ fail x p
  invalid_opens x e ends = hears_at x i (inputs.Answered answers.Invalid) (Dialing i) (put i s p) e ∙ invalid_row x i (put i s p) ∙ ap (point x Idle) (put_again i s (end_of x) p)
      ∙ ap (λ (z : Sock). point x Idle (put i z p)) ends ∙ ap (λ (k : LinkState). let_go x k p) (sym e)

-- a node that dials one socket isn't the target of it
pub apart : (p : Pair) (i : ℕ) (y : Side) → Naming p → y ≡ other (p.sock i).opener → (d : ℕ) → p.link y ≡ Dialing d → nat_eq d i ≡ false
apart p i y n is d e = by_test (nat_eq d i) (λ h. absurd (not_other (p.sock i).opener (sym is ∙ (dialer p y i n (e ∙ ap Dialing (sym (same_number i d h)))).0))) (λ h. h) where
  not_other : (x : Side) → other x ≡ x → ⊥
  not_other Lesser f = cc
  not_other Greater f = cc

request_opens : (down : Bool) (y : Side) (i : ℕ) (s : Sock) (p : Pair) → Naming p → y ≡ other (p.sock i).opener → asked step_of down y i (put i s p) ≡ request down y i s p
request_opens true y i s p n is = put_again i s (declined Invalid) p
request_opens false y i s p n is = asked_opens y (p.link y) i s p refl (apart p i y n is)

module _ (p : Pair) (i : ℕ) (n : Naming p) where
  up_peer : TUp ≡ (p.sock i).t → (b : Bool) × (p.link (other (p.sock i).opener) ≡ Up i b)
  up_peer e = up_link _ i (ap role_t e ∙ (n i).peer)

  up_own : OUp ≡ (p.sock i).o → (b : Bool) × (p.link (p.sock i).opener ≡ Up i b)
  up_own e = up_link _ i (ap role_o e ∙ (n i).own)

  asks_own : OAsking ≡ (p.sock i).o → p.link (p.sock i).opener ≡ Dialing i
  asks_own e = asking_link _ i (ap role_o e ∙ (n i).own)

  read_t_opens : (e : TEnd) (w : List Item) → e ≡ (p.sock i).t → moves.read_t step_of e w i (p.sock i) p ≡ read_t e w i (p.sock i) p
  read_t_opens TOpen (Request ∷ w) h = request_opens (p.shut (other (p.sock i).opener)) (other (p.sock i).opener) i (record (p.sock i) { in_t = w }) p n refl
  read_t_opens TUp (Data ∷ w) h = refl
  read_t_opens TUp (Probe ∷ w) h = probe_opens i (record (p.sock i) { in_t = w }) p refl (other (p.sock i).opener) (up_peer h).0 _ (up_peer h).1 (sym (says_peer (record (p.sock i) { in_t = w }) Ack))
  read_t_opens TUp (Ack ∷ w) h = ack_opens i (record (p.sock i) { in_t = w }) p refl (other (p.sock i).opener) (up_peer h).0 (up_peer h).1
  read_t_opens TUp (EndClosed ∷ w) h = closed_opens i (record (p.sock i) { in_t = w }) p refl (other (p.sock i).opener) (up_peer h).0 (up_peer h).1
      (end_peer i (record (p.sock i) { in_t = w }) p refl ∙ sym (end_peer i (p.sock i) p refl))
  read_t_opens e w h = refl

  read_o_opens : (e : OEnd) (w : List Item) → e ≡ (p.sock i).o → moves.read_o step_of e w i (p.sock i) p ≡ read_o e w i (p.sock i) p
  read_o_opens OAsking (Accepted ∷ w) h = accepted_opens i (record (p.sock i) { in_o = w }) p refl (p.sock i).opener (asks_own h)
  read_o_opens OAsking (Crossed ∷ w) h = crossed_opens i (record (p.sock i) { in_o = w }) p refl (p.sock i).opener (asks_own h)
      ∙ ap (λ (z : Sock). point (p.sock i).opener AwaitOther (put i z p)) (end_own i (record (p.sock i) { in_o = w }) p refl)
  read_o_opens OAsking (Invalid ∷ w) h = invalid_opens i (record (p.sock i) { in_o = w }) p refl (p.sock i).opener (asks_own h)
      (end_own i (record (p.sock i) { in_o = w }) p refl ∙ sym (end_own i (p.sock i) p refl))
  read_o_opens OUp (Data ∷ w) h = refl
  read_o_opens OUp (Probe ∷ w) h = probe_opens i (record (p.sock i) { in_o = w }) p refl (p.sock i).opener (up_own h).0 _ (up_own h).1 (sym (says_own (record (p.sock i) { in_o = w }) Ack))
  read_o_opens OUp (Ack ∷ w) h = ack_opens i (record (p.sock i) { in_o = w }) p refl (p.sock i).opener (up_own h).0 (up_own h).1
  read_o_opens OUp (EndClosed ∷ w) h = closed_opens i (record (p.sock i) { in_o = w }) p refl (p.sock i).opener (up_own h).0 (up_own h).1
      (end_own i (record (p.sock i) { in_o = w }) p refl ∙ sym (end_own i (p.sock i) p refl))
  read_o_opens e w h = refl

gone_by : (x : Side) (i : ℕ) (q r : Pair) (b : Bool) → names (q.link x) i ≡ b → cond b (hears step_of x i inputs.Gone q) r ≡ cond b (fail x q) r
gone_by x i q r true e = gone_row x (q.link x) i q e
gone_by x i q r false e = refl

gone_o_opens : (i : ℕ) (p : Pair) → moves.gone_o step_of i p ≡ gone_o i p
gone_o_opens i p = gone_by (p.sock i).opener i p (put i (end_o (p.sock i)) p) _ refl

gone_t_opens : (i : ℕ) (p : Pair) → moves.gone_t step_of i p ≡ gone_t i p
gone_t_opens i p = gone_by (other (p.sock i).opener) i p (put i (end_t (p.sock i)) p) _ refl

pub opens : (m : Move) (p : Pair) → Allowed m p → Naming p → after m p ≡ opened m p
opens (Want x i) p is n = want_row x i (p.link x) p is.0
opens (Join i) p is n = refl
opens (Come i) p is n = refl
opens (Read_o i) p is n = read_o_opens p i n (p.sock i).o (p.sock i).in_o refl
opens (Read_t i) p is n = read_t_opens p i n (p.sock i).t (p.sock i).in_t refl
opens (End_o i) p is n = gone_o_opens i p
opens (End_t i) p is n = gone_t_opens i p
opens (Refuse i) p is n = gone_o_opens i (troubled p)
opens (Lose_o i) p is n = gone_o_opens i (troubled p)
opens (Lose_t i) p is n = gone_t_opens i (troubled p)
opens (Cut_o i) p is n = refl
opens (Cut_t i) p is n = refl
opens (Late x) p is n = late_row x (p.link x) (troubled p) is
opens (Timer x) p is n = late_row x (p.link x) p is.0
opens (Shut x) p is n = shut_row x (p.link x) (shutting x p) refl
opens (Say x) p is n = refl
opens Settled p is n = refl
