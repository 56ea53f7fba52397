-- Each move keeps the account of probes.
use Rattle.std.proofs.Common.{◌≡◌, ℕ, nat_eq, Bool, true, false, cond, List, [], ◌∷◌, refl, ap, sym, ◌∙◌, subst}
use Rattle.ch_link.specs.declared.LinkState.{LinkState}
use Rattle.ch_link.specs.declared.LinkState.TheVariants.{Idle, Dialing, AwaitOther, Up}
use Rattle.ch_race.specs.Pair.{Side, Lesser, Greater, other, OEnd, OAsking, OUp, TEnd, TOpen, TUp, Item, Request, Accepted, Crossed, Invalid, EndClosed, Probe, Ack, Data, Sock, Pair, start, put, point, to_o, to_t, end_o, end_t, end_of, says, fresh}
use Rattle.ch_link.specs.Sockets.{names}
use Rattle.ch_race.specs.Moves.{Move, shutting, Want, Join, Come, Read_o, Read_t, End_o, End_t, Refuse, Lose_o, Lose_t, Cut_o, Cut_t, Late, Timer, Shut, Say, Settled, Allowed, say, troubled}
use Rattle.ch_race.proofs.Opened.{let_go, fail, gone_o, gone_t, accept, decline, probe, answer, request, read_t, read_o, shut_down, opened}
use Rattle.ch_race.specs.Naming.{Not, IsUp, role, role_o, role_t, Naming}
use Rattle.ch_race.specs.Words.{Worded}
use Rattle.ch_race.specs.Probes.{is_probe, is_ack, flag, Account, Probed, Probing}
use Rattle.ch_race.proofs.Frame.{by_test, same_number, put_here, put_there, Only, only_idle, only_dialing, only_up, asks_only, up_only, point_own, point_peer, point_of_peer, point_own_of}
use Rattle.ch_race.proofs.Names.{IsSideOf, Own, Peer, side_of, same_self, same_peer, decline_keeps, let_go_keeps, said}
use Rattle.ch_race.proofs.WordMoves.{says_own, says_peer}
use Rattle.ch_race.proofs.Probes.{end_o_probed, end_t_probed, cut_o_probed, cut_t_probed, to_t_probed, to_o_probed, probe_t_probed, probe_o_probed, read_t_probed, read_o_probed, ack_t_probed, ack_o_probed, turned_t_probed, turned_o_probed, raised_probed, accept_probed, decline_probed, join_probed, come_probed, fresh_probed, dead_probed}

abbrev ProbedOf : Pair → Sock → Type 0
ProbedOf p s = Probed (p.link s.opener) (p.link (other s.opener)) s

-- a link that changes is that of no up end here
same_flag : (x z : Side) (k : LinkState) (p : Pair) (j : ℕ) → role (p.link x) j ≡ Not → IsUp ≡ role (p.link z) j → flag (p.link z) ≡ flag ((point x k p).link z)
same_flag Lesser Lesser k p j h g = absurd (cc)
same_flag Lesser Greater k p j h g = refl
same_flag Greater Lesser k p j h g = refl
same_flag Greater Greater k p j h g = absurd (cc)

flagged : (b c : Bool) (n : ℕ) (l : Bool) → b ≡ c → Account b n l → Account c n l
flagged b c n l e h = subst (λ (d : Bool). Account d n l) e h

relinked : (p : Pair) (x : Side) (k : LinkState) (j : ℕ) → Naming p → Probing p → role (p.link x) j ≡ Not → ProbedOf (point x k p) (p.sock j)
relinked p x k j n pr free = record {
  own = λ e. flagged _ _ _ _ (same_flag x (p.sock j).opener k p j free (ap role_o (sym e) ∙ (n j).own)) ((pr j).own e);
  peer = λ e. flagged _ _ _ _ (same_flag x (other (p.sock j).opener) k p j free (ap role_t (sym e) ∙ (n j).peer)) ((pr j).peer e);
}

put_probing : (p : Pair) (i : ℕ) (s : Sock) → Probing p → ProbedOf p s → Probing (put i s p)
put_probing p i s pr here j = by_test {P = ProbedOf p ((put i s p).sock j)} (nat_eq j i)
    (λ h. subst (λ (m : ℕ). ProbedOf p ((put i s p).sock m)) (same_number i j h) (subst (ProbedOf p) (sym (put_here i s p)) here))
    (λ h. subst (ProbedOf p) (sym (put_there i j s p h)) (pr j))

both_probing : (p : Pair) (x : Side) (k : LinkState) (i : ℕ) (s : Sock) → Naming p → Probing p → Only i (p.link x) → ProbedOf (point x k p) s → Probing (point x k (put i s p))
both_probing p x k i s n pr only here j = by_test {P = ProbedOf (point x k p) ((put i s p).sock j)} (nat_eq j i)
    (λ h. subst (λ (m : ℕ). ProbedOf (point x k p) ((put i s p).sock m)) (same_number i j h) (subst (ProbedOf (point x k p)) (sym (put_here i s p)) here))
    (λ h. subst (ProbedOf (point x k p)) (sym (put_there i j s p h)) (relinked p x k j n pr (only j h)))

own_probing : (p : Pair) (k : LinkState) (i : ℕ) (s : Sock) → Naming p → Probing p → Only i (p.link s.opener) → Probed k (p.link (other s.opener)) s → Probing (point s.opener k (put i s p))
own_probing p k i s n pr only here = both_probing p s.opener k i s n pr only
    (subst (λ (l : LinkState). Probed ((point s.opener k p).link s.opener) l s) (sym (point_of_peer s.opener k p)) (subst (λ (l : LinkState). Probed l (p.link (other s.opener)) s) (sym (point_own s.opener k p)) here))

peer_probing : (p : Pair) (k : LinkState) (i : ℕ) (s : Sock) → Naming p → Probing p → Only i (p.link (other s.opener)) → Probed (p.link s.opener) k s → Probing (point (other s.opener) k (put i s p))
peer_probing p k i s n pr only here = both_probing p (other s.opener) k i s n pr only
    (subst (λ (l : LinkState). Probed ((point (other s.opener) k p).link s.opener) l s) (sym (point_peer s.opener k p)) (subst (λ (l : LinkState). Probed l k s) (sym (point_own_of s.opener k p)) here))

-- links that let go
abbrev Closing : Side → ℕ → Pair → Type 0
Closing x i p = Probing (point x Idle (put i (end_of x (p.sock i)) p))

closing_by : (p : Pair) (x : Side) (i : ℕ) → IsSideOf (p.sock i).opener x → Naming p → Probing p → Only i (p.link x) → Closing x i p
closing_by p x i (Own e) n pr only = subst (λ (z : Side). Closing z i p) (sym e) (rw same_self (own_probing p Idle i (end_o (p.sock i)) n pr (subst (λ (z : Side). Only i (p.link z)) e only) (end_o_probed _ Idle _ (p.sock i) (pr i))))
closing_by p x i (Peer e) n pr only = subst (λ (z : Side). Closing z i p) (sym e) (rw same_peer (peer_probing p Idle i (end_t (p.sock i)) n pr (subst (λ (z : Side). Only i (p.link z)) e only) (end_t_probed _ _ Idle (p.sock i) (pr i))))

closing : (p : Pair) (x : Side) (i : ℕ) (k : LinkState) → Naming p → Probing p → p.link x ≡ k → Only i k → Closing x i p
closing p x i k n pr e only = closing_by p x i (side_of (p.sock i).opener x) n pr (subst (Only i) (sym e) only)

pub let_go_probing : (p : Pair) (x : Side) (k : LinkState) → Naming p → Probing p → p.link x ≡ k → Probing (let_go x k p)
let_go_probing p x Idle n pr e = pr
let_go_probing p x AwaitOther n pr e = λ j. relinked p x Idle j n pr (ap (λ (l : LinkState). role l j) e)
let_go_probing p x (Dialing i) n pr e = closing p x i (Dialing i) n pr e (only_dialing i)
let_go_probing p x (Up i b) n pr e = closing p x i (Up i b) n pr e (only_up i b)

fail_probing : (p : Pair) (x : Side) → Naming p → Probing p → Probing (fail x p)
fail_probing p x n pr = let_go_probing p x (p.link x) n pr refl

gone_o_probing : (p : Pair) (i : ℕ) → Naming p → Probing p → Probing (gone_o i p)
gone_o_probing p i n pr = by_name (names (p.link (p.sock i).opener) i) where
  by_name : (b : Bool) → Probing (cond b (fail (p.sock i).opener p) (put i (end_o (p.sock i)) p))
  by_name true = fail_probing p (p.sock i).opener n pr
  by_name false = put_probing p i (end_o (p.sock i)) pr (end_o_probed _ _ _ (p.sock i) (pr i))

gone_t_probing : (p : Pair) (i : ℕ) → Naming p → Probing p → Probing (gone_t i p)
gone_t_probing p i n pr = by_name (names (p.link (other (p.sock i).opener)) i) where
  by_name : (b : Bool) → Probing (cond b (fail (other (p.sock i).opener) p) (put i (end_t (p.sock i)) p))
  by_name true = fail_probing p (other (p.sock i).opener) n pr
  by_name false = put_probing p i (end_t (p.sock i)) pr (end_t_probed _ _ _ (p.sock i) (pr i))

-- a node writes
says_plain : (p : Pair) (x : Side) (s : Sock) (item : Item) → is_probe item ≡ false → is_ack item ≡ false → IsSideOf s.opener x → ProbedOf p s → ProbedOf p (says x item s)
says_plain p x s item a b (Own e) h = subst (λ (z : Side). ProbedOf p (says z item s)) (sym e) (subst (ProbedOf p) (says_own s item) (to_t_probed _ _ s item a b h))
says_plain p x s item a b (Peer e) h = subst (λ (z : Side). ProbedOf p (says z item s)) (sym e) (subst (ProbedOf p) (says_peer s item) (to_o_probed _ _ s item a b h))

said_probing : (p : Pair) (x : Side) (i : ℕ) (item : Item) → is_probe item ≡ false → is_ack item ≡ false → Probing p → Probing (put i (says x item (p.sock i)) p)
said_probing p x i item a b pr = put_probing p i (says x item (p.sock i)) pr (says_plain p x (p.sock i) item a b (side_of (p.sock i).opener x) (pr i))

-- a node probes
probes_by : (p : Pair) (x : Side) (u : ℕ) → IsSideOf (p.sock u).opener x → Naming p → Probing p → p.link x ≡ Up u false → Probing (point x (Up u true) (put u (says x Probe (p.sock u)) p))
probes_by p x u (Own e) n pr is = subst (λ (z : Side). Probing (point z (Up u true) (put u (says z Probe (p.sock u)) p))) (sym e) (subst (λ (z : Sock). Probing (point (p.sock u).opener (Up u true) (put u z p))) (says_own (p.sock u) Probe)
    (own_probing p (Up u true) u (to_t Probe (p.sock u)) n pr (subst (Only u) (sym link) (only_up u false)) (probe_t_probed _ _ (Up u true) (p.sock u) (ap flag link) refl (pr u)))) where
      link : p.link (p.sock u).opener ≡ Up u false
      link = ap p.link (sym e) ∙ is
probes_by p x u (Peer e) n pr is = subst (λ (z : Side). Probing (point z (Up u true) (put u (says z Probe (p.sock u)) p))) (sym e) (subst (λ (z : Sock). Probing (point (other (p.sock u).opener) (Up u true) (put u z p))) (says_peer (p.sock u) Probe)
    (peer_probing p (Up u true) u (to_o Probe (p.sock u)) n pr (subst (Only u) (sym link) (only_up u false)) (probe_o_probed _ _ (Up u true) (p.sock u) (ap flag link) refl (pr u)))) where
      link : p.link (other (p.sock u).opener) ≡ Up u false
      link = ap p.link (sym e) ∙ is

-- requests
module _ (i : ℕ) (w : List Item) (p : Pair) (n : Naming p) (ws : Worded p) (pr : Probing p) (is_open : TOpen ≡ (p.sock i).t) (first : Request ∷ w ≡ (p.sock i).in_t) where
  abbrev at : Sock
  at = record (p.sock i) { in_t = w }

  decline_probing : (item : Item) → Probing (decline item i at p)
  decline_probing item = put_probing p i (end_t (to_o item at)) pr (decline_probed _ _ _ _ (Up i false) (p.sock i) w (ws i) is_open first item)

  accept_probing : (q : Pair) (y : Side) → y ≡ other (p.sock i).opener → Naming q → Probing q → Only i (q.link y) → Probing (accept y i at q)
  accept_probing q y e nq prq free = subst (λ (z : Side). Probing (accept z i at q)) (sym e)
      (peer_probing q (Up i false) i (record (to_o Accepted at) { t = TUp }) nq prq (subst (λ (z : Side). Only i (q.link z)) e free)
      (accept_probed _ _ (q.link (p.sock i).opener) Idle (Up i false) (p.sock i) w (ws i) is_open first refl))

  probe_probing : (y : Side) (u : ℕ) (b : Bool) → p.link y ≡ Up u b → Probing (probe y u b (decline Crossed i at p))
  probe_probing y u true e = decline_probing Crossed
  probe_probing y u false e =
      let q : Pair = decline Crossed i at p in
      probes_by q y u (side_of (q.sock u).opener y) (decline_keeps i at p refl refl is_open n Crossed) (decline_probing Crossed) e

  answer_probing : (y : Side) (k : LinkState) → y ≡ other (p.sock i).opener → p.link y ≡ k → Probing (answer y k i at p)
  answer_probing y Idle is e = accept_probing p y is n pr (subst (Only i) (sym e) (only_idle i))
  answer_probing y AwaitOther is e = accept_probing p y is n pr (λ j h. ap (λ (l : LinkState). role l j) e)
  answer_probing Lesser (Dialing d) is e = accept_probing (let_go Lesser (Dialing d) p) Lesser is (let_go_keeps p Lesser (Dialing d) n e) (let_go_probing p Lesser (Dialing d) n pr e) (only_idle i)
  answer_probing Greater (Dialing d) is e = decline_probing Crossed
  answer_probing y (Up u b) is e = probe_probing y u b e

  request_probing : (down : Bool) → Probing (request down (other (p.sock i).opener) i at p)
  request_probing true = decline_probing Invalid
  request_probing false = answer_probing (other (p.sock i).opener) _ refl refl

read_t_probing : (e : TEnd) (w : List Item) (p : Pair) (i : ℕ) → Naming p → Worded p → Probing p → e ≡ (p.sock i).t → w ≡ (p.sock i).in_t → Probing (read_t e w i (p.sock i) p)
read_t_probing TOpen (Request ∷ w) p i n ws pr h g = request_probing i w p n ws pr h g (p.shut (other (p.sock i).opener))
read_t_probing TUp (Data ∷ w) p i n ws pr h g = put_probing p i (record (p.sock i) { in_t = w }) pr (read_t_probed _ _ (p.sock i) Data w refl refl g (pr i))
read_t_probing TUp (Probe ∷ w) p i n ws pr h g = put_probing p i (to_o Ack (record (p.sock i) { in_t = w })) pr (turned_t_probed _ _ (p.sock i) w g (pr i))
read_t_probing TUp (Ack ∷ w) p i n ws pr h g = peer_probing p (Up i false) i (record (p.sock i) { in_t = w }) n pr (up_only _ i (ap role_t h ∙ (n i).peer)) (ack_t_probed _ _ (Up i false) (p.sock i) w refl g (pr i))
read_t_probing TUp (EndClosed ∷ w) p i n ws pr h g = fail_probing p (other (p.sock i).opener) n pr
read_t_probing e w p i n ws pr h g = pr

read_o_probing : (e : OEnd) (w : List Item) (p : Pair) (i : ℕ) → Naming p → Worded p → Probing p → e ≡ (p.sock i).o → w ≡ (p.sock i).in_o → Probing (read_o e w i (p.sock i) p)
read_o_probing OAsking (Accepted ∷ w) p i n ws pr h g =
    own_probing p (Up i false) i (record (p.sock i) { o = OUp; in_o = w }) n pr (asks_only _ i (ap role_o h ∙ (n i).own)) (raised_probed _ _ _ (Up i false) _ (p.sock i) w refl h g (ws i) (pr i))
read_o_probing OAsking (Crossed ∷ w) p i n ws pr h g = own_probing p AwaitOther i (end_o (p.sock i)) n pr (asks_only _ i (ap role_o h ∙ (n i).own)) (end_o_probed _ AwaitOther _ (p.sock i) (pr i))
read_o_probing OAsking (Invalid ∷ w) p i n ws pr h g = fail_probing p (p.sock i).opener n pr
read_o_probing OUp (Data ∷ w) p i n ws pr h g = put_probing p i (record (p.sock i) { in_o = w }) pr (read_o_probed _ _ (p.sock i) Data w refl refl g (pr i))
read_o_probing OUp (Probe ∷ w) p i n ws pr h g = put_probing p i (to_t Ack (record (p.sock i) { in_o = w })) pr (turned_o_probed _ _ (p.sock i) w g (pr i))
read_o_probing OUp (Ack ∷ w) p i n ws pr h g = own_probing p (Up i false) i (record (p.sock i) { in_o = w }) n pr (up_only _ i (ap role_o h ∙ (n i).own)) (ack_o_probed _ _ (Up i false) (p.sock i) w refl g (pr i))
read_o_probing OUp (EndClosed ∷ w) p i n ws pr h g = fail_probing p (p.sock i).opener n pr
read_o_probing e w p i n ws pr h g = pr

shut_probing : (p : Pair) (x : Side) (k : LinkState) → Naming p → Probing p → p.link x ≡ k → Probing (shut_down x k p)
shut_probing p x Idle n pr e = pr
shut_probing p x AwaitOther n pr e = let_go_probing p x AwaitOther n pr e
shut_probing p x (Dialing i) n pr e = let_go_probing p x (Dialing i) n pr e
shut_probing p x (Up i b) n pr e = let_go_probing (put i (says x EndClosed (p.sock i)) p) x (Up i b) (said p x i EndClosed n) (said_probing p x i EndClosed refl refl pr) e

say_probing : (p : Pair) (x : Side) (k : LinkState) → Probing p → Probing (say x k p)
say_probing p x Idle pr = pr
say_probing p x AwaitOther pr = pr
say_probing p x (Dialing i) pr = pr
say_probing p x (Up i b) pr = said_probing p x i Data refl refl pr

pub probes_kept : (m : Move) (p : Pair) → Allowed m p → Naming p → Worded p → Probing p → Probing (opened m p)
probes_kept (Want x i) p is n ws pr = own_probing p (Dialing i) i (fresh x) n pr (λ j h. ap (λ (l : LinkState). role l j) is.0) (fresh_probed _ _ x)
probes_kept (Join i) p is n ws pr = put_probing p i (to_t Request (record (p.sock i) { o = OAsking })) pr (join_probed _ _ _ _ (p.sock i) (sym is) (ws i))
probes_kept (Come i) p is n ws pr = put_probing p i (record (p.sock i) { t = TOpen }) pr (come_probed _ _ _ _ (p.sock i) (sym is) (ws i))
probes_kept (Read_o i) p is n ws pr = read_o_probing (p.sock i).o (p.sock i).in_o p i n ws pr refl refl
probes_kept (Read_t i) p is n ws pr = read_t_probing (p.sock i).t (p.sock i).in_t p i n ws pr refl refl
probes_kept (End_o i) p is n ws pr = gone_o_probing p i n pr
probes_kept (End_t i) p is n ws pr = gone_t_probing p i n pr
probes_kept (Refuse i) p is n ws pr = gone_o_probing (troubled p) i n pr
probes_kept (Lose_o i) p is n ws pr = gone_o_probing (troubled p) i n pr
probes_kept (Lose_t i) p is n ws pr = gone_t_probing (troubled p) i n pr
probes_kept (Cut_o i) p is n ws pr = put_probing p i (record (p.sock i) { cut_o = true; in_o = [] }) pr (cut_o_probed _ _ (p.sock i) (pr i))
probes_kept (Cut_t i) p is n ws pr = put_probing p i (record (p.sock i) { cut_t = true; in_t = [] }) pr (cut_t_probed _ _ (p.sock i) (pr i))
probes_kept (Late x) p is n ws pr = fail_probing (troubled p) x n pr
probes_kept (Timer x) p is n ws pr = fail_probing p x n pr
probes_kept (Shut x) p is n ws pr = shut_probing (shutting x p) x (p.link x) n pr refl
probes_kept (Say x) p is n ws pr = say_probing p x (p.link x) pr
probes_kept Settled p is n ws pr = pr

pub start_probing : (away : Side → Bool) → Probing (start away)
start_probing away i = dead_probed Idle Idle
