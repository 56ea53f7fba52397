-- The moves with the table's rows written into them: proofs go by these cases. `opens` says that they are the moves.
use Rattle.std.specs.Prelude.{ℕ, Bool, true, false, cond, not, ◌||◌, List, [], ◌∷◌}
use Rattle.ch_link.specs.Sockets.{names}
use Rattle.ch_link.specs.declared.LinkState.{LinkState}
use Rattle.ch_link.specs.declared.LinkState.TheVariants.{Idle, Dialing, AwaitOther, Up}
use Rattle.ch_race.specs.Pair.{Side, Lesser, Greater, other, OEnd, OAsking, OUp, TEnd, TOpen, TUp, Item, Request, Accepted, Crossed, Invalid, EndClosed, Probe, Ack, Data, Sock, Pair, fresh, put, point, to_o, to_t, end_o, end_t, end_of, says}
use Rattle.ch_race.specs.Moves.{Move, Want, Join, Come, Read_o, Read_t, End_o, End_t, Refuse, Lose_o, Lose_t, Cut_o, Cut_t, Late, Timer, Shut, Say, Settled, troubled, shutting, say}

-- the link's end, if any, is ended, and the link is idle
abbrev pub let_go : Side → LinkState → Pair → Pair
let_go x Idle p = p
let_go x AwaitOther p = point x Idle p
let_go x (Dialing i) p = point x Idle (put i (end_of x (p.sock i)) p)
let_go x (Up i b) p = point x Idle (put i (end_of x (p.sock i)) p)

abbrev pub fail : Side → Pair → Pair
fail x p = let_go x (p.link x) p

abbrev pub gone_o : ℕ → Pair → Pair
gone_o i p = cond (names (p.link (p.sock i).opener) i) (fail (p.sock i).opener p) (put i (end_o (p.sock i)) p)

abbrev pub gone_t : ℕ → Pair → Pair
gone_t i p = cond (names (p.link (other (p.sock i).opener)) i) (fail (other (p.sock i).opener) p) (put i (end_t (p.sock i)) p)

-- a request is answered, whose socket is s now
abbrev pub accept : Side → ℕ → Sock → Pair → Pair
accept y i s p = point y (Up i false) (put i (record (to_o Accepted s) { t = TUp }) p)

abbrev pub decline : Item → ℕ → Sock → Pair → Pair
decline item i s p = put i (end_t (to_o item s)) p

abbrev pub probe : Side → ℕ → Bool → Pair → Pair
probe y u true p = p
probe y u false p = point y (Up u true) (put u (says y Probe (p.sock u)) p)

abbrev pub answer : Side → LinkState → ℕ → Sock → Pair → Pair
answer y Idle i s p = accept y i s p
answer y AwaitOther i s p = accept y i s p
answer Lesser (Dialing d) i s p = accept Lesser i s (let_go Lesser (Dialing d) p)
answer Greater (Dialing d) i s p = decline Crossed i s p
answer y (Up u b) i s p = probe y u b (decline Crossed i s p)

abbrev pub request : Bool → Side → ℕ → Sock → Pair → Pair
request true y i s p = decline Invalid i s p
request false y i s p = answer y (p.link y) i s p

abbrev pub read_t : TEnd → List Item → ℕ → Sock → Pair → Pair
read_t TOpen (Request ∷ w) i s p = request (p.shut (other s.opener)) (other s.opener) i (record s { in_t = w }) p
read_t TUp (Data ∷ w) i s p = put i (record s { in_t = w }) p
read_t TUp (Probe ∷ w) i s p = put i (to_o Ack (record s { in_t = w })) p
read_t TUp (Ack ∷ w) i s p = point (other s.opener) (Up i false) (put i (record s { in_t = w }) p)
read_t TUp (EndClosed ∷ w) i s p = fail (other s.opener) p
read_t e w i s p = p

abbrev pub read_o : OEnd → List Item → ℕ → Sock → Pair → Pair
read_o OAsking (Accepted ∷ w) i s p = point s.opener (Up i false) (put i (record s { o = OUp; in_o = w }) p)
read_o OAsking (Crossed ∷ w) i s p = point s.opener AwaitOther (put i (end_o s) p)
read_o OAsking (Invalid ∷ w) i s p = fail s.opener p
read_o OUp (Data ∷ w) i s p = put i (record s { in_o = w }) p
read_o OUp (Probe ∷ w) i s p = put i (to_t Ack (record s { in_o = w })) p
read_o OUp (Ack ∷ w) i s p = point s.opener (Up i false) (put i (record s { in_o = w }) p)
read_o OUp (EndClosed ∷ w) i s p = fail s.opener p
read_o e w i s p = p

abbrev pub shut_down : Side → LinkState → Pair → Pair
shut_down x (Up i b) p = let_go x (Up i b) (put i (says x EndClosed (p.sock i)) p)
shut_down x k p = let_go x k p

abbrev pub opened : Move → Pair → Pair
opened (Want x i) p = point x (Dialing i) (put i (fresh x) p)
opened (Join i) p = put i (to_t Request (record (p.sock i) { o = OAsking })) p
opened (Come i) p = put i (record (p.sock i) { t = TOpen }) p
opened (Read_o i) p = read_o (p.sock i).o (p.sock i).in_o i (p.sock i) p
opened (Read_t i) p = read_t (p.sock i).t (p.sock i).in_t i (p.sock i) p
opened (End_o i) p = gone_o i p
opened (End_t i) p = gone_t i p
opened (Refuse i) p = gone_o i (troubled p)
opened (Lose_o i) p = gone_o i (troubled p)
opened (Lose_t i) p = gone_t i (troubled p)
opened (Cut_o i) p = put i (record (p.sock i) { cut_o = true; in_o = [] }) (troubled p)
opened (Cut_t i) p = put i (record (p.sock i) { cut_t = true; in_t = [] }) (troubled p)
opened (Late x) p = fail x (troubled p)
opened (Timer x) p = fail x p
opened (Shut x) p = shut_down x (p.link x) (shutting x p)
opened (Say x) p = say x (p.link x) p
opened Settled p = record p { quiet = not (p.shut Lesser || p.shut Greater) }
