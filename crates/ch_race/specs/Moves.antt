-- What may happen next, and what it leads to. Whatever a link hears it answers by its table.
use Rattle.std.specs.Prelude.{◌≡◌, ◌≢◌, ◌⊎◌, ℕ, Bool, true, false, cond, not, ◌||◌, List, [], ◌∷◌}
use Rattle.ch_link.specs.Table.{step_of}
use Rattle.ch_link.specs.Sockets.{names, timer_runs}
use Rattle.ch_link.specs.declared.LinkState.{LinkState}
use Rattle.ch_link.specs.declared.LinkState.TheVariants.{Idle, Dialing, AwaitOther, Up}
use Rattle.ch_link.specs.declared.LinkIn.{LinkIn}
use Rattle.ch_link.specs.declared.LinkIn.TheVariants as inputs
use Rattle.ch_link.specs.declared.LinkAnswer.TheVariants as answers
use Rattle.ch_link.specs.declared.LinkAct.{LinkAct}
use Rattle.ch_link.specs.declared.LinkAct.TheVariants.{Nothing, Dial, Accept, Cross, LeaveAndAccept, CrossAndProbe, Raise, Leave, Fail, Acknowledge, Close}
use Rattle.ch_race.specs.Pair.{Side, Lesser, Greater, other, same, is_greater, OEnd, OPending, OAsking, OUp, OEnded, TEnd, TPending, TOpen, TUp, TEnded, Item, Request, Accepted, Crossed, Invalid, EndClosed, Probe, Ack, Data, Sock, Pair, fresh, put, point, to_o, to_t, end_o, end_t, end_of, says}

-- One event at one node or socket. Ends: o is the opener's, t the target's.
--   Want: the node dials the socket. Join, Refuse: the dial succeeds, fails. Come: the target's host takes the socket.
--   Read: an end reads its first item. End: it reads the end of its input. Lose: its socket is lost. Cut: what is on the
--   way to it is lost, and what will be. Late: the node's timer runs out; Timer: the same where nothing else is left to
--   do. Shut: the node shuts. Say: it writes a payload, if its link is up. Settled: nothing at all is left to do
pub data Move : Type 0 where
  Want : (x : Side) (i : ℕ) → Move
  Join : (i : ℕ) → Move
  Come : (i : ℕ) → Move
  Read_o : (i : ℕ) → Move
  Read_t : (i : ℕ) → Move
  End_o : (i : ℕ) → Move
  End_t : (i : ℕ) → Move
  Refuse : (i : ℕ) → Move
  Lose_o : (i : ℕ) → Move
  Lose_t : (i : ℕ) → Move
  Cut_o : (i : ℕ) → Move
  Cut_t : (i : ℕ) → Move
  Late : (x : Side) → Move
  Timer : (x : Side) → Move
  Shut : (x : Side) → Move
  Say : (x : Side) → Move
  Settled : Move

-- something was lost, late or refused
abbrev pub troubled : Pair → Pair
troubled p = record p { quiet = false }

-- the node is shut, for good
abbrev pub shutting : Side → Pair → Pair
shutting x p = record p { quiet = false; shut = λ z. cond (same z x) true (p.shut z) }

-- the target comes up, and says so
abbrev pub accepted : Sock → Sock
accepted s = record (to_o Accepted s) { t = TUp }

-- the target answers so, and ends its end
abbrev pub declined : Item → Sock → Sock
declined item s = end_t (to_o item s)

-- the node's end of the socket that its link names, if any, is ended
abbrev pub leaves : Side → LinkState → Pair → Pair
leaves x Idle p = p
leaves x AwaitOther p = p
leaves x (Dialing own) p = put own (end_of x (p.sock own)) p
leaves x (Up own probed) p = put own (end_of x (p.sock own)) p

-- a node that shuts says so where it is up, and ends its end
abbrev pub closes : Side → LinkState → Pair → Pair
closes x (Up own probed) p = put own (end_of x (says x EndClosed (p.sock own))) p
closes x k p = leaves x k p

-- what the node does at an act of its link, which was in state k and heard of socket i
abbrev pub act : Side → LinkState → ℕ → LinkAct → Pair → Pair
act x k i Nothing p = p
act x k i Dial p = put i (fresh x) p
act x k i Accept p = put i (accepted (p.sock i)) p
act x k i Cross p = put i (declined Crossed (p.sock i)) p
act x k i (LeaveAndAccept own) p = put i (accepted (p.sock i)) (put own (end_of x (p.sock own)) p)
act x k i (CrossAndProbe old) p = let q : Pair = put i (declined Crossed (p.sock i)) p in put old (says x Probe (q.sock old)) q
act x k i Raise p = put i (record (p.sock i) { o = OUp }) p
act x k i (Leave own) p = put own (end_of x (p.sock own)) p
act x k i (Fail why) p = leaves x k p
act x k i Acknowledge p = put i (says x Ack (p.sock i)) p
act x k i Close p = closes x k p

-- what a link makes of what it hears: the real one is `step_of`
abbrev pub Table : Type 0
Table = LinkState → LinkIn → Bool → LinkState × LinkAct

-- the node's link was in state k, takes the new state, and the node does the act
abbrev pub obeys : Side → LinkState → ℕ → LinkState × LinkAct → Pair → Pair
obeys x k i step p = point x step.0 (act x k i step.1 p)

-- the node's link hears of socket i
abbrev pub hears : Table → Side → ℕ → LinkIn → Pair → Pair
hears table x i input p = obeys x (p.link x) i (table (p.link x) input (is_greater x)) p

-- a request came to node y: one that is shut knows no such endpoint
abbrev pub asked : Table → Bool → Side → ℕ → Pair → Pair
asked table true y i p = put i (declined Invalid (p.sock i)) p
asked table false y i p = hears table y i (inputs.Asked i) p

-- the target's end has read an item, and p is what is left; what it doesn't expect it leaves unread
abbrev pub read_t : Table → TEnd → List Item → ℕ → Sock → Pair → Pair
read_t table TOpen (Request ∷ w) i s p = asked table (p.shut (other s.opener)) (other s.opener) i (put i (record s { in_t = w }) p)
read_t table TUp (Data ∷ w) i s p = put i (record s { in_t = w }) p
read_t table TUp (Probe ∷ w) i s p = hears table (other s.opener) i inputs.Probe (put i (record s { in_t = w }) p)
read_t table TUp (Ack ∷ w) i s p = hears table (other s.opener) i inputs.Ack (put i (record s { in_t = w }) p)
read_t table TUp (EndClosed ∷ w) i s p = hears table (other s.opener) i inputs.EndClosed (put i (record s { in_t = w }) p)
read_t table e w i s p = p

-- the same at the opener's end
abbrev pub read_o : Table → OEnd → List Item → ℕ → Sock → Pair → Pair
read_o table OAsking (Accepted ∷ w) i s p = hears table s.opener i (inputs.Answered answers.Accepted) (put i (record s { in_o = w }) p)
read_o table OAsking (Crossed ∷ w) i s p = hears table s.opener i (inputs.Answered answers.Crossed) (put i (record s { in_o = w }) p)
read_o table OAsking (Invalid ∷ w) i s p = hears table s.opener i (inputs.Answered answers.Invalid) (put i (record s { in_o = w }) p)
read_o table OUp (Data ∷ w) i s p = put i (record s { in_o = w }) p
read_o table OUp (Probe ∷ w) i s p = hears table s.opener i inputs.Probe (put i (record s { in_o = w }) p)
read_o table OUp (Ack ∷ w) i s p = hears table s.opener i inputs.Ack (put i (record s { in_o = w }) p)
read_o table OUp (EndClosed ∷ w) i s p = hears table s.opener i inputs.EndClosed (put i (record s { in_o = w }) p)
read_o table e w i s p = p

-- the opener's end is gone: its link hears of it, if it names the socket
abbrev pub gone_o : Table → ℕ → Pair → Pair
gone_o table i p = cond (names (p.link (p.sock i).opener) i) (hears table (p.sock i).opener i inputs.Gone p) (put i (end_o (p.sock i)) p)

-- the target's end is gone
abbrev pub gone_t : Table → ℕ → Pair → Pair
gone_t table i p = cond (names (p.link (other (p.sock i).opener)) i) (hears table (other (p.sock i).opener) i inputs.Gone p) (put i (end_t (p.sock i)) p)

-- a payload is written, if the link is up
abbrev pub say : Side → LinkState → Pair → Pair
say x (Up i probed) p = put i (says x Data (p.sock i)) p
say x k p = p

-- the pair after a move, with that table
abbrev pub after_by : Table → Move → Pair → Pair
after_by table (Want x i) p = hears table x i (inputs.Want i) p
after_by table (Join i) p = put i (to_t Request (record (p.sock i) { o = OAsking })) p
after_by table (Come i) p = put i (record (p.sock i) { t = TOpen }) p
after_by table (Read_o i) p = read_o table (p.sock i).o (p.sock i).in_o i (p.sock i) p
after_by table (Read_t i) p = read_t table (p.sock i).t (p.sock i).in_t i (p.sock i) p
after_by table (End_o i) p = gone_o table i p
after_by table (End_t i) p = gone_t table i p
after_by table (Refuse i) p = gone_o table i (troubled p)
after_by table (Lose_o i) p = gone_o table i (troubled p)
after_by table (Lose_t i) p = gone_t table i (troubled p)
after_by table (Cut_o i) p = put i (record (p.sock i) { cut_o = true; in_o = [] }) (troubled p)
after_by table (Cut_t i) p = put i (record (p.sock i) { cut_t = true; in_t = [] }) (troubled p)
after_by table (Late x) p = hears table x 0 inputs.Late (troubled p)
after_by table (Timer x) p = hears table x 0 inputs.Late p
after_by table (Shut x) p = hears table x 0 inputs.Shut (shutting x p)
after_by table (Say x) p = say x (p.link x) p
after_by table Settled p = record p { quiet = not (p.shut Lesser || p.shut Greater) }

-- the pair after a move
abbrev pub after : Move → Pair → Pair
after m p = after_by step_of m p

-- a timer runs for the link
abbrev pub IsTimed : LinkState → Type 0
IsTimed k = timer_runs k ≡ true

-- the opener's end reads
abbrev pub IsOpen_o : OEnd → Type 0
IsOpen_o OPending = ⊥
IsOpen_o OAsking = Unit {0}
IsOpen_o OUp = Unit {0}
IsOpen_o OEnded = ⊥

-- the target's end reads
abbrev pub IsOpen_t : TEnd → Type 0
IsOpen_t TPending = ⊥
IsOpen_t TOpen = Unit {0}
IsOpen_t TUp = Unit {0}
IsOpen_t TEnded = ⊥

-- nothing is to be done at the socket: no end is to join or to come, and none has anything to read, be it the end
pub record IsStill (s : Sock) : Type 0 where
  pub joined : s.o ≢ OPending
  pub came : s.t ≢ TPending
  pub read_o : IsOpen_o s.o → (s.in_o ≡ []) × (s.cut_o ≡ false) × (s.t ≢ TEnded)
  pub read_t : IsOpen_t s.t → (s.in_t ≡ []) × (s.cut_t ≡ false) × (s.o ≢ OEnded)

-- nothing is to be done at any socket
abbrev pub AllStill : Pair → Type 0
AllStill p = (i : ℕ) → IsStill (p.sock i)

-- nothing is to be done at the sockets, and no timer runs
pub record AtRest (p : Pair) : Type 0 where
  pub still : AllStill p
  pub lesser : IsTimed (p.link Lesser) → ⊥
  pub greater : IsTimed (p.link Greater) → ⊥

-- when a move may happen
abbrev pub Allowed : Move → Pair → Type 0
Allowed (Want x i) p = (p.link x ≡ Idle) × (p.shut x ≡ false) × ((p.sock i).o ≡ OEnded) × ((p.sock i).t ≡ TEnded)
Allowed (Join i) p = (p.sock i).o ≡ OPending
Allowed (Come i) p = (p.sock i).t ≡ TPending
Allowed (Read_o i) p = Unit {0}
Allowed (Read_t i) p = Unit {0}
Allowed (End_o i) p = IsOpen_o (p.sock i).o × ((p.sock i).in_o ≡ []) × (((p.sock i).cut_o ≡ true) ⊎ ((p.sock i).t ≡ TEnded))
Allowed (End_t i) p = IsOpen_t (p.sock i).t × ((p.sock i).in_t ≡ []) × (((p.sock i).cut_t ≡ true) ⊎ ((p.sock i).o ≡ OEnded))
Allowed (Refuse i) p = (p.sock i).o ≡ OPending
Allowed (Lose_o i) p = IsOpen_o (p.sock i).o
Allowed (Lose_t i) p = IsOpen_t (p.sock i).t
Allowed (Cut_o i) p = IsOpen_o (p.sock i).o
Allowed (Cut_t i) p = IsOpen_t (p.sock i).t
Allowed (Late x) p = IsTimed (p.link x)
Allowed (Timer x) p = IsTimed (p.link x) × AllStill p
Allowed (Shut x) p = p.shut x ≡ false
Allowed (Say x) p = Unit {0}
Allowed Settled p = AtRest p

-- the pair after the moves, with that table
abbrev pub run_by : Table → List Move → Pair → Pair
run_by table [] p = p
run_by table (m ∷ ms) p = run_by table ms (after_by table m p)

-- the pair after the moves
abbrev pub run : List Move → Pair → Pair
run ms p = run_by step_of ms p

-- each move may happen after those before it, with that table
abbrev pub AllAllowedBy : Table → List Move → Pair → Type 0
AllAllowedBy table [] p = Unit {0}
AllAllowedBy table (m ∷ ms) p = Allowed m p × AllAllowedBy table ms (after_by table m p)

-- each move may happen after those before it
abbrev pub AllAllowed : List Move → Pair → Type 0
AllAllowed ms p = AllAllowedBy step_of ms p
