-- Links in the measure: only a dial that is crossed comes to await, and each visit lowers the weight of the pair.
use Rattle.std.proofs.Common.{◌≡◌, ◌<◌, ◌≤◌, ℕ, ◌+◌, Bool, true, false, cond, List, ◌∷◌, refl, ap, arith}
use Rattle.ch_link.specs.declared.LinkState.{LinkState}
use Rattle.ch_link.specs.declared.LinkState.TheVariants.{Idle, Dialing, AwaitOther, Up}
use Rattle.ch_link.specs.Sockets.{names}
use Rattle.ch_race.specs.Pair.{Side, Lesser, Greater, other, OEnd, OAsking, OUp, TEnd, TOpen, TUp, Item, Request, Accepted, Crossed, Invalid, EndClosed, Probe, Ack, Data, Sock, Pair, put, point, end_o, end_t, end_of}
use Rattle.ch_race.specs.Moves.{Move, Want, Join, Come, Read_o, Read_t, End_o, End_t, Refuse, Lose_o, Lose_t, Cut_o, Cut_t, Late, Timer, Shut, Say, Settled, Allowed}
use Rattle.ch_race.specs.Naming.{Naming}
use Rattle.ch_race.specs.Measure.{total, weigh_link, waiting, whole, Reads_o}
use Rattle.ch_race.specs.Settle.{Bounded, Visits}
use Rattle.ch_race.proofs.Opened.{let_go, fail, answer, request, read_t, read_o, opened}
use Rattle.ch_race.proofs.Measures.{visit_lowers, reads_o_lower, crossed_lower}

waits_point : (x : Side) (k : LinkState) (p : Pair) → waiting (point x k p) ≤ waiting p + weigh_link k
waits_point Lesser k p = omega arith
waits_point Greater k p = omega arith

-- a timer that runs out is paid for
pub waits_less : (x : Side) (p : Pair) → p.link x ≡ AwaitOther → waiting (point x Idle p) < waiting p
waits_less Lesser p e = let a : weigh_link (p.link Lesser) ≡ 1 = ap weigh_link e in omega arith
waits_less Greater p e = let a : weigh_link (p.link Greater) ≡ 1 = ap weigh_link e in omega arith

waits_idle : (x : Side) (p : Pair) → waiting (point x Idle p) ≤ waiting p
waits_idle x p = let a = waits_point x Idle p in omega arith

waits_up : (x : Side) (i : ℕ) (b : Bool) (p : Pair) → waiting (point x (Up i b) p) ≤ waiting p
waits_up x i b p = let a = waits_point x (Up i b) p in omega arith

same_waits : (p : Pair) → waiting p ≤ waiting p
same_waits p = omega arith

waits_let_go : (x : Side) (k : LinkState) (p : Pair) → waiting (let_go x k p) ≤ waiting p
waits_let_go x Idle p = same_waits p
waits_let_go x AwaitOther p = waits_idle x p
waits_let_go x (Dialing d) p = waits_idle x (put d (end_of x (p.sock d)) p)
waits_let_go x (Up u b) p = waits_idle x (put u (end_of x (p.sock u)) p)

waits_fail : (x : Side) (p : Pair) → waiting (fail x p) ≤ waiting p
waits_fail x p = waits_let_go x (p.link x) p

waits_gone : (b : Bool) (x : Side) (i : ℕ) (s : Sock) (p : Pair) → waiting (cond b (fail x p) (put i s p)) ≤ waiting p
waits_gone true x i s p = waits_fail x p
waits_gone false x i s p = same_waits p

waits_answer : (y : Side) (k : LinkState) (i : ℕ) (s : Sock) (p : Pair) → waiting (answer y k i s p) ≤ waiting p
waits_answer y Idle i s p = waits_up y i false p
waits_answer y AwaitOther i s p = waits_up y i false p
waits_answer Lesser (Dialing d) i s p = let a = waits_up Lesser i false (let_go Lesser (Dialing d) p) in let b = waits_let_go Lesser (Dialing d) p in omega arith
waits_answer Greater (Dialing d) i s p = same_waits p
waits_answer y (Up u true) i s p = same_waits p
waits_answer y (Up u false) i s p = waits_up y u true p

waits_request : (down : Bool) (y : Side) (i : ℕ) (s : Sock) (p : Pair) → waiting (request down y i s p) ≤ waiting p
waits_request true y i s p = same_waits p
waits_request false y i s p = waits_answer y (p.link y) i s p

waits_read_t : (e : TEnd) (w : List Item) (i : ℕ) (s : Sock) (p : Pair) → waiting (read_t e w i s p) ≤ waiting p
waits_read_t TOpen (Request ∷ w) i s p = waits_request (p.shut (other s.opener)) (other s.opener) i (record s { in_t = w }) p
waits_read_t TUp (Data ∷ w) i s p = same_waits p
waits_read_t TUp (Probe ∷ w) i s p = same_waits p
waits_read_t TUp (Ack ∷ w) i s p = waits_up (other s.opener) i false p
waits_read_t TUp (EndClosed ∷ w) i s p = waits_fail (other s.opener) p
waits_read_t e w i s p = same_waits p

joined : (a b c d : ℕ) → a < b → c ≤ d → a + c < b + d
joined a b c d h g = omega arith

spent : (a b c d : ℕ) → a + 2 ≤ b → c ≤ d + 1 → a + c < b + d
spent a b c d h g = omega arith

module _ (n : ℕ) (p : Pair) (nm : Naming p) (bound : Bounded n p) where
  -- all but a crossed dial
  by_socket : (m : Move) → Allowed m p → Visits n m p → waiting (opened m p) ≤ waiting p → whole n (opened m p) < whole n p
  by_socket m is visit h = joined _ _ _ _ (visit_lowers n p nm bound m is visit) h

  reads_o_whole : (e : OEnd) (w : List Item) (i : ℕ) → i < n → e ≡ (p.sock i).o → w ≡ (p.sock i).in_o → Reads_o e w
      → total n (read_o e w i (p.sock i) p).sock < total n p.sock → whole n (read_o e w i (p.sock i) p) < whole n p
  reads_o_whole OAsking (Accepted ∷ w) i hi h g r l = joined _ _ _ _ l (waits_up (p.sock i).opener i false p)
  reads_o_whole OAsking (Crossed ∷ w) i hi h g r l = spent _ _ _ _ (crossed_lower n p nm bound w i hi h g) (waits_point (p.sock i).opener AwaitOther p)
  reads_o_whole OAsking (Invalid ∷ w) i hi h g r l = joined _ _ _ _ l (waits_fail (p.sock i).opener p)
  reads_o_whole OUp (Data ∷ w) i hi h g r l = joined _ _ _ _ l (same_waits p)
  reads_o_whole OUp (Probe ∷ w) i hi h g r l = joined _ _ _ _ l (same_waits p)
  reads_o_whole OUp (Ack ∷ w) i hi h g r l = joined _ _ _ _ l (waits_up (p.sock i).opener i false p)
  reads_o_whole OUp (EndClosed ∷ w) i hi h g r l = joined _ _ _ _ l (waits_fail (p.sock i).opener p)
  reads_o_whole e w i hi h g r l = absurd r

  pub visit_lowers_whole : (m : Move) → Allowed m p → Visits n m p → whole n (opened m p) < whole n p
  visit_lowers_whole (Join i) is hi = by_socket (Join i) is hi (same_waits p)
  visit_lowers_whole (Come i) is hi = by_socket (Come i) is hi (same_waits p)
  visit_lowers_whole (Read_o i) is v = reads_o_whole (p.sock i).o (p.sock i).in_o i v.0 refl refl v.1 (reads_o_lower n p nm bound i v.0 v.1)
  visit_lowers_whole (Read_t i) is v = by_socket (Read_t i) is v (waits_read_t (p.sock i).t (p.sock i).in_t i (p.sock i) p)
  visit_lowers_whole (End_o i) is hi = by_socket (End_o i) is hi (waits_gone (names (p.link (p.sock i).opener) i) (p.sock i).opener i (end_o (p.sock i)) p)
  visit_lowers_whole (End_t i) is hi = by_socket (End_t i) is hi (waits_gone (names (p.link (other (p.sock i).opener)) i) (other (p.sock i).opener) i (end_t (p.sock i)) p)
  visit_lowers_whole (Want x i) is v = absurd v
  visit_lowers_whole (Refuse i) is v = absurd v
  visit_lowers_whole (Lose_o i) is v = absurd v
  visit_lowers_whole (Lose_t i) is v = absurd v
  visit_lowers_whole (Cut_o i) is v = absurd v
  visit_lowers_whole (Cut_t i) is v = absurd v
  visit_lowers_whole (Late x) is v = absurd v
  visit_lowers_whole (Timer x) is v = absurd v
  visit_lowers_whole (Shut x) is v = absurd v
  visit_lowers_whole (Say x) is v = absurd v
  visit_lowers_whole Settled is v = absurd v
