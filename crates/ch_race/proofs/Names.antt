-- Each move keeps the naming.
use Rattle.std.proofs.Common.{◌≡◌, ℕ, nat_eq, Bool, true, false, cond, List, [], ◌∷◌, refl, ap, sym, ◌∙◌, subst, arith}
use Rattle.std.proofs.lemmas.Bool.Decides.{nat_tests}
use Rattle.ch_link.specs.declared.LinkState.{LinkState}
use Rattle.ch_link.specs.declared.LinkState.TheVariants.{Idle, Dialing, AwaitOther, Up}
use Rattle.ch_race.specs.Pair.{Side, Lesser, Greater, other, same, OEnd, OPending, OAsking, OUp, OEnded, TEnd, TOpen, TUp, TEnded, Item, Request, Accepted, Crossed, Invalid, EndClosed, Probe, Ack, Data, Sock, Pair, start, put, point, to_o, to_t, end_o, end_t, end_of, says, fresh}
use Rattle.ch_link.specs.Sockets.{names}
use Rattle.ch_race.specs.Moves.{Move, Want, Join, Come, Read_o, Read_t, End_o, End_t, Refuse, Lose_o, Lose_t, Cut_o, Cut_t, Late, Timer, Shut, Say, Settled, Allowed, say, troubled}
use Rattle.ch_race.proofs.Opened.{let_go, fail, accept, decline, probe, answer, request, read_t, read_o, shut_down, opened}
use Rattle.ch_race.specs.Naming.{Not, Asks, IsUp, role, role_o, role_t, Naming, IsLive, OneLive, Bundle}
use Rattle.ch_race.proofs.Frame.{self_number, Only, only_dialing, only_up, changed_alone, pointed, own_changes, peer_changes, asks_only, still_up}

pub same_self : (y : Side) → same y y ≡ true
same_self Lesser = refl
same_self Greater = refl

pub same_peer : (y : Side) → same (other y) y ≡ false
same_peer Lesser = refl
same_peer Greater = refl

abbrev Closed : Side → ℕ → Pair → Type 0
Closed x i p = Naming (point x Idle (put i (end_of x (p.sock i)) p))

closes_own : (p : Pair) (i : ℕ) → Naming p → Only i (p.link (p.sock i).opener) → Closed (p.sock i).opener i p
closes_own p i n only = rw same_self (own_changes p Idle i (end_o (p.sock i)) n (λ j h. sym (only j h)) refl (n i).peer)

closes_peer : (p : Pair) (i : ℕ) → Naming p → Only i (p.link (other (p.sock i).opener)) → Closed (other (p.sock i).opener) i p
closes_peer p i n only = rw same_peer (peer_changes p Idle i (end_t (p.sock i)) n (λ j h. sym (only j h)) (n i).own refl)

pub data IsSideOf (y : Side) (x : Side) : Type 0 where
  Own : x ≡ y → IsSideOf y x
  Peer : x ≡ other y → IsSideOf y x

pub side_of : (y x : Side) → IsSideOf y x
side_of Lesser Lesser = Own refl
side_of Lesser Greater = Peer refl
side_of Greater Lesser = Peer refl
side_of Greater Greater = Own refl

closes_by : (p : Pair) (x : Side) (i : ℕ) → IsSideOf (p.sock i).opener x → Naming p → Only i (p.link x) → Closed x i p
closes_by p x i (Own e) n only = subst (λ (z : Side). Closed z i p) (sym e) (closes_own p i n (subst (λ (z : Side). Only i (p.link z)) e only))
closes_by p x i (Peer e) n only = subst (λ (z : Side). Closed z i p) (sym e) (closes_peer p i n (subst (λ (z : Side). Only i (p.link z)) e only))

closes : (p : Pair) (x : Side) (i : ℕ) (k : LinkState) → Naming p → p.link x ≡ k → Only i k → Closed x i p
closes p x i k n e only = closes_by p x i (side_of (p.sock i).opener x) n (subst (Only i) (sym e) only)

pub let_go_keeps : (p : Pair) (x : Side) (k : LinkState) → Naming p → p.link x ≡ k → Naming (let_go x k p)
let_go_keeps p x Idle n e = n
let_go_keeps p x AwaitOther n e = pointed p x Idle n (λ j. ap (λ (l : LinkState). role l j) (sym e))
let_go_keeps p x (Dialing i) n e = closes p x i (Dialing i) n e (only_dialing i)
let_go_keeps p x (Up i b) n e = closes p x i (Up i b) n e (only_up i b)

fail_keeps : (p : Pair) (x : Side) → Naming p → Naming (fail x p)
fail_keeps p x n = let_go_keeps p x (p.link x) n refl

unnamed : (k : LinkState) (i : ℕ) → names k i ≡ false → role k i ≡ Not
unnamed Idle i h = refl
unnamed AwaitOther i h = refl
unnamed (Dialing d) i h = ap (λ (b : Bool). cond b Asks Not) h
unnamed (Up u b) i h = ap (λ (b : Bool). cond b IsUp Not) h

gone_o_by : (p : Pair) (i : ℕ) (b : Bool) → names (p.link (p.sock i).opener) i ≡ b → Naming p → Naming (cond b (fail (p.sock i).opener p) (put i (end_o (p.sock i)) p))
gone_o_by p i true e n = fail_keeps p (p.sock i).opener n
gone_o_by p i false e n = changed_alone p i (end_o (p.sock i)) n refl (sym ((n i).own ∙ unnamed _ i e)) refl

gone_t_by : (p : Pair) (i : ℕ) (b : Bool) → names (p.link (other (p.sock i).opener)) i ≡ b → Naming p → Naming (cond b (fail (other (p.sock i).opener) p) (put i (end_t (p.sock i)) p))
gone_t_by p i true e n = fail_keeps p (other (p.sock i).opener) n
gone_t_by p i false e n = changed_alone p i (end_t (p.sock i)) n refl refl (sym ((n i).peer ∙ unnamed _ i e))

-- words alone change
worded : (p : Pair) (i : ℕ) (s : Sock) → Naming p → s.opener ≡ (p.sock i).opener → s.o ≡ (p.sock i).o → s.t ≡ (p.sock i).t → Naming (put i s p)
worded p i s n opener o t = changed_alone p i s n opener (ap role_o o) (ap role_t t)

pub said : (p : Pair) (x : Side) (i : ℕ) (item : Item) → Naming p → Naming (put i (says x item (p.sock i)) p)
said p x i item n = said_by (same x (p.sock i).opener) where
  said_by : (b : Bool) → Naming (put i (cond b (to_t item (p.sock i)) (to_o item (p.sock i))) p)
  said_by true = worded p i (to_t item (p.sock i)) n refl refl refl
  said_by false = worded p i (to_o item (p.sock i)) n refl refl refl

module _ (i : ℕ) (s : Sock) where
  -- the target takes the request
  accepted : (p : Pair) → Naming p → ((j : ℕ) → role (p.link (other s.opener)) j ≡ Not) → role_o s.o ≡ role (p.link s.opener) i → Naming (accept (other s.opener) i s p)
  accepted p n free own = peer_changes p (Up i false) i (record (to_o Accepted s) { t = TUp }) n (λ j h. only_up i false j h ∙ sym (free j)) own (ap (λ (b : Bool). cond b IsUp Not) (sym (self_number i)))

  accept_keeps : (p : Pair) (y : Side) → y ≡ other s.opener → Naming p → ((j : ℕ) → role (p.link y) j ≡ Not) → role_o s.o ≡ role (p.link s.opener) i → Naming (accept y i s p)
  accept_keeps p y e n free own = subst (λ (z : Side). Naming (accept z i s p)) (sym e) (accepted p n (subst (λ (z : Side). (j : ℕ) → role (p.link z) j ≡ Not) e free) own)

point_else : (y x : Side) (k : LinkState) (p : Pair) → x ≡ other y → p.link y ≡ (point x k p).link y
point_else Lesser Lesser k p e = absurd (cc)
point_else Lesser Greater k p e = refl
point_else Greater Lesser k p e = refl
point_else Greater Greater k p e = absurd (cc)

module _ (i : ℕ) (s : Sock) (p : Pair) (opener : s.opener ≡ (p.sock i).opener) (o : s.o ≡ (p.sock i).o) (is_open : TOpen ≡ (p.sock i).t) (n : Naming p) where
  own_role : role_o s.o ≡ role (p.link s.opener) i
  own_role = ap role_o o ∙ (n i).own ∙ ap (λ (z : Side). role (p.link z) i) (sym opener)

  pub decline_keeps : (item : Item) → Naming (decline item i s p)
  decline_keeps item = changed_alone p i (end_t (to_o item s)) n opener (ap role_o o) (ap role_t is_open)

  probe_keeps : (y : Side) (u : ℕ) (b : Bool) → p.link y ≡ Up u b → Naming (probe y u b (decline Crossed i s p))
  probe_keeps y u true e = decline_keeps Crossed
  probe_keeps y u false e = pointed (put u (says y Probe ((decline Crossed i s p).sock u)) (decline Crossed i s p)) y (Up u true) (said (decline Crossed i s p) y u Probe (decline_keeps Crossed)) (λ j. ap (λ (l : LinkState). role l j) (sym e))

  answer_keeps : (y : Side) (k : LinkState) → y ≡ other s.opener → p.link y ≡ k → Naming (answer y k i s p)
  answer_keeps y Idle is e = accept_keeps i s p y is n (λ j. ap (λ (l : LinkState). role l j) e) own_role
  answer_keeps y AwaitOther is e = accept_keeps i s p y is n (λ j. ap (λ (l : LinkState). role l j) e) own_role
  answer_keeps Lesser (Dialing d) is e =
      accept_keeps i s (let_go Lesser (Dialing d) p) Lesser is (let_go_keeps p Lesser (Dialing d) n e) (λ j. refl) (own_role ∙ ap (λ (l : LinkState). role l i) (point_else s.opener Lesser Idle p is))
  answer_keeps Greater (Dialing d) is e = decline_keeps Crossed
  answer_keeps y (Up u b) is e = probe_keeps y u b e

  request_keeps : (down : Bool) (y : Side) → y ≡ other s.opener → Naming (request down y i s p)
  request_keeps true y is = decline_keeps Invalid
  request_keeps false y is = answer_keeps y (p.link y) is refl

read_t_keeps : (e : TEnd) (w : List Item) (p : Pair) (i : ℕ) → Naming p → e ≡ (p.sock i).t → Naming (read_t e w i (p.sock i) p)
read_t_keeps TOpen (Request ∷ w) p i n h =
    request_keeps i (record (p.sock i) { in_t = w }) p refl refl h n (p.shut (other (p.sock i).opener)) (other (p.sock i).opener) refl
read_t_keeps TUp (Data ∷ w) p i n h = worded p i (record (p.sock i) { in_t = w }) n refl refl refl
read_t_keeps TUp (Probe ∷ w) p i n h = worded p i (to_o Ack (record (p.sock i) { in_t = w })) n refl refl refl
read_t_keeps TUp (Ack ∷ w) p i n h =
    pointed (put i (record (p.sock i) { in_t = w }) p) (other (p.sock i).opener) (Up i false) (worded p i (record (p.sock i) { in_t = w }) n refl refl refl)
    (still_up (p.link (other (p.sock i).opener)) i false (ap role_t h ∙ (n i).peer))
read_t_keeps TUp (EndClosed ∷ w) p i n h = fail_keeps p (other (p.sock i).opener) n
read_t_keeps e w p i n h = n

read_o_keeps : (e : OEnd) (w : List Item) (p : Pair) (i : ℕ) → Naming p → e ≡ (p.sock i).o → Naming (read_o e w i (p.sock i) p)
read_o_keeps OAsking (Accepted ∷ w) p i n h =
    own_changes p (Up i false) i (record (p.sock i) { o = OUp; in_o = w }) n (λ j g. only_up i false j g ∙ sym (asks_only _ i (ap role_o h ∙ (n i).own) j g))
    (ap (λ (b : Bool). cond b IsUp Not) (sym (self_number i))) (n i).peer
read_o_keeps OAsking (Crossed ∷ w) p i n h = own_changes p AwaitOther i (end_o (p.sock i)) n (λ j g. sym (asks_only _ i (ap role_o h ∙ (n i).own) j g)) refl (n i).peer
read_o_keeps OAsking (Invalid ∷ w) p i n h = fail_keeps p (p.sock i).opener n
read_o_keeps OUp (Data ∷ w) p i n h = worded p i (record (p.sock i) { in_o = w }) n refl refl refl
read_o_keeps OUp (Probe ∷ w) p i n h = worded p i (to_t Ack (record (p.sock i) { in_o = w })) n refl refl refl
read_o_keeps OUp (Ack ∷ w) p i n h =
    pointed (put i (record (p.sock i) { in_o = w }) p) (p.sock i).opener (Up i false) (worded p i (record (p.sock i) { in_o = w }) n refl refl refl)
    (still_up (p.link (p.sock i).opener) i false (ap role_o h ∙ (n i).own))
read_o_keeps OUp (EndClosed ∷ w) p i n h = fail_keeps p (p.sock i).opener n
read_o_keeps e w p i n h = n

-- no node names a dead socket
pub dead_unnamed : (p : Pair) (i : ℕ) (x : Side) → Naming p → (p.sock i).o ≡ OEnded → (p.sock i).t ≡ TEnded → Not ≡ role (p.link x) i
dead_unnamed p i x n o t = by_side (side_of (p.sock i).opener x) where
  by_side : IsSideOf (p.sock i).opener x → Not ≡ role (p.link x) i
  by_side (Own e) = ap role_o (sym o) ∙ (n i).own ∙ ap (λ (z : Side). role (p.link z) i) (sym e)
  by_side (Peer e) = ap role_t (sym t) ∙ (n i).peer ∙ ap (λ (z : Side). role (p.link z) i) (sym e)

shut_keeps : (p : Pair) (x : Side) (k : LinkState) → Naming p → p.link x ≡ k → Naming (shut_down x k p)
shut_keeps p x Idle n e = n
shut_keeps p x AwaitOther n e = let_go_keeps p x AwaitOther n e
shut_keeps p x (Dialing i) n e = let_go_keeps p x (Dialing i) n e
shut_keeps p x (Up i b) n e = let_go_keeps (put i (says x EndClosed (p.sock i)) p) x (Up i b) (said p x i EndClosed n) e

say_keeps : (p : Pair) (x : Side) (k : LinkState) → Naming p → Naming (say x k p)
say_keeps p x Idle n = n
say_keeps p x AwaitOther n = n
say_keeps p x (Dialing i) n = n
say_keeps p x (Up i b) n = said p x i Data n

pub keeps : (m : Move) (p : Pair) → Allowed m p → Naming p → Naming (opened m p)
keeps (Want x i) p (idle, up, o, t) n = own_changes p (Dialing i) i (fresh x) n (λ j h. only_dialing i j h ∙ ap (λ (l : LinkState). role l j) (sym idle))
    (ap (λ (b : Bool). cond b Asks Not) (sym (self_number i))) (dead_unnamed p i (other x) n o t)
keeps (Join i) p is n = changed_alone p i (to_t Request (record (p.sock i) { o = OAsking })) n refl (ap role_o (sym is)) refl
keeps (Come i) p is n = changed_alone p i (record (p.sock i) { t = TOpen }) n refl refl (ap role_t (sym is))
keeps (Read_o i) p is n = read_o_keeps (p.sock i).o (p.sock i).in_o p i n refl
keeps (Read_t i) p is n = read_t_keeps (p.sock i).t (p.sock i).in_t p i n refl
keeps (End_o i) p is n = gone_o_by p i _ refl n
keeps (End_t i) p is n = gone_t_by p i _ refl n
keeps (Refuse i) p is n = gone_o_by (troubled p) i _ refl n
keeps (Lose_o i) p is n = gone_o_by (troubled p) i _ refl n
keeps (Lose_t i) p is n = gone_t_by (troubled p) i _ refl n
keeps (Cut_o i) p is n = worded (troubled p) i (record (p.sock i) { cut_o = true; in_o = [] }) n refl refl refl
keeps (Cut_t i) p is n = worded (troubled p) i (record (p.sock i) { cut_t = true; in_t = [] }) n refl refl refl
keeps (Late x) p is n = fail_keeps (troubled p) x n
keeps (Timer x) p is n = fail_keeps p x n
keeps (Shut x) p is n = shut_keeps (record p { quiet = false; shut = λ z. cond (same z x) true (p.shut z) }) x (p.link x) n refl
keeps (Say x) p is n = say_keeps p x (p.link x) n
keeps Settled p is n = n

-- what follows
dial_named : (d i : ℕ) → (cond (nat_eq i d) Asks Not ≡ Not → ⊥) → i ≡ d
dial_named d i h = grind (arith, nat_tests)

up_named : (u i : ℕ) → (cond (nat_eq i u) IsUp Not ≡ Not → ⊥) → i ≡ u
up_named u i h = grind (arith, nat_tests)

one_name : (k : LinkState) (i j : ℕ) → (role k i ≡ Not → ⊥) → (role k j ≡ Not → ⊥) → i ≡ j
one_name Idle i j f g = absurd (f refl)
one_name AwaitOther i j f g = absurd (f refl)
one_name (Dialing d) i j f g = dial_named d i f ∙ sym (dial_named d j g)
one_name (Up u b) i j f g = up_named u i f ∙ sym (up_named u j g)

named_o : (o : OEnd) → (o ≡ OEnded → ⊥) → role_o o ≡ Not → ⊥
named_o OPending f h = cc
named_o OAsking f h = cc
named_o OUp f h = cc
named_o OEnded f h = f refl

live_named : (p : Pair) (i : ℕ) (x : Side) → Naming p → IsLive (p.sock i) → role (p.link x) i ≡ Not → ⊥
live_named p i x n (up, stays) = by_side (side_of (p.sock i).opener x) where
  by_side : IsSideOf (p.sock i).opener x → role (p.link x) i ≡ Not → ⊥
  by_side (Own e) h = named_o (p.sock i).o stays ((n i).own ∙ ap (λ (z : Side). role (p.link z) i) (sym e) ∙ h)
  by_side (Peer e) h = is_up (ap role_t (sym up) ∙ (n i).peer ∙ ap (λ (z : Side). role (p.link z) i) (sym e) ∙ h) where
    is_up : IsUp ≡ Not → ⊥
    is_up g = cc

dial_not : (d j : ℕ) → nat_eq j d ≡ true → cond (nat_eq j d) Asks Not ≡ Not → ⊥
dial_not d j h g = grind (arith, nat_tests)

up_not : (d j : ℕ) → nat_eq j d ≡ true → cond (nat_eq j d) IsUp Not ≡ Not → ⊥
up_not d j h g = grind (arith, nat_tests)

pub named_not : (k : LinkState) (j : ℕ) → names k j ≡ true → role k j ≡ Not → ⊥
named_not Idle j h g = cc
named_not AwaitOther j h g = cc
named_not (Dialing d) j h g = dial_not d j h g
named_not (Up u b) j h g = up_not u j h g

pub one_live : (p : Pair) → Naming p → OneLive p
one_live p n i j a b = one_name (p.link Lesser) i j (live_named p i Lesser n a) (live_named p j Lesser n b)

pub bundle : (p : Pair) → Naming p → Bundle p
bundle p n i a x j h = one_name (p.link x) j i (named_not (p.link x) j h) (live_named p i x n a)

pub start_named : (away : Side → Bool) → Naming (start away)
start_named away i = record { own = refl; peer = refl }
