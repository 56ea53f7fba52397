-- What holds while nothing was lost since all was settled, and no node is shut: then no link breaks.
use Rattle.std.specs.Prelude.{◌≡◌, ℕ, Bool, true, false, List, [], ◌∷◌}
use Rattle.ch_link.specs.declared.LinkState.{LinkState}
use Rattle.ch_link.specs.declared.LinkState.TheVariants.{Idle, Dialing, AwaitOther, Up}
use Rattle.ch_race.specs.Pair.{Side, Lesser, Greater, other, OEnd, OPending, OAsking, OUp, OEnded, TEnd, TPending, TOpen, TUp, TEnded, Item, Crossed, Invalid, EndClosed, Sock, Pair}
use Rattle.ch_link.specs.Sockets.{names}
use Rattle.ch_race.specs.Moves.{Move, Allowed, Read_o, Read_t, End_o, End_t, Timer}

-- no request was handled
abbrev pub IsAsked : TEnd → Type 0
IsAsked TPending = Unit {0}
IsAsked TOpen = Unit {0}
IsAsked t = ⊥

-- the node dials, and is not answered
abbrev pub OpenDial : LinkState → (ℕ → Sock) → Type 0
OpenDial (Dialing g) f = IsAsked (f g).t
OpenDial k f = ⊥

-- the node is up on a socket that the greater node opened
abbrev pub UpByGreater : LinkState → (ℕ → Sock) → Type 0
UpByGreater (Up u b) f = (f u).opener ≡ Greater
UpByGreater k f = ⊥

-- where one end has ended and the other not: a dial that its target ended was crossed, and is the lesser node's while
-- the greater dials (D); a request whose opener has left is the lesser node's, which is up on the greater's socket (U)
abbrev pub Fits : Type 0 → Type 0 → Side → List Item → OEnd → TEnd → Type 0
Fits D U x w OPending TEnded = ⊥
Fits D U x w OUp TEnded = ⊥
Fits D U x w OEnded TUp = ⊥
Fits D U x w OAsking TEnded = (x ≡ Lesser) × (w ≡ Crossed ∷ []) × D
Fits D U x w OEnded TPending = (x ≡ Lesser) × U
Fits D U x w OEnded TOpen = (x ≡ Lesser) × U
Fits D U x w o t = Unit {0}

-- the way to the opener's end isn't cut while it stands
abbrev pub Whole_o : OEnd → Bool → Type 0
Whole_o OEnded cut = Unit {0}
Whole_o o cut = cut ≡ false

-- the way to the target's end isn't cut while it stands
abbrev pub Whole_t : TEnd → Bool → Type 0
Whole_t TEnded cut = Unit {0}
Whole_t t cut = cut ≡ false

-- what is so of one socket
pub record QuietSock (D U : Type 0) (s : Sock) : Type 0 where
  pub whole_o : Whole_o s.o s.cut_o
  pub whole_t : Whole_t s.t s.cut_t
  pub fits : Fits D U s.opener s.in_o s.o s.t

-- the greater node dials, and its request is unread
abbrev pub Dialed : Pair → Type 0
Dialed p = OpenDial (p.link Greater) p.sock

-- the lesser node is up on the greater's socket
abbrev pub Joined : Pair → Type 0
Joined p = UpByGreater (p.link Lesser) p.sock

-- what is so of a quiet pair: only the lesser node ever awaits the other, and then the other dials
pub record Quiet (p : Pair) : Type 0 where
  pub running : (x : Side) → p.shut x ≡ false
  pub socks : (i : ℕ) → QuietSock (Dialed p) (Joined p) (p.sock i)
  pub awaits : (x : Side) → p.link x ≡ AwaitOther → (x ≡ Lesser) × Dialed p

-- the same of each pair that is quiet
abbrev pub Quieted : Pair → Type 0
Quieted p = p.quiet ≡ true → Quiet p

-- the opener's end is to read what makes its link fail
abbrev pub Breaks_o : OEnd → List Item → Type 0
Breaks_o OAsking (Invalid ∷ w) = Unit {0}
Breaks_o OUp (EndClosed ∷ w) = Unit {0}
Breaks_o o w = ⊥

-- the target's end is to read what makes its link fail
abbrev pub Breaks_t : TEnd → List Item → Type 0
Breaks_t TUp (EndClosed ∷ w) = Unit {0}
Breaks_t t w = ⊥

-- the move makes a link fail, though it is itself no loss, no late timer and no shut
abbrev pub Breaks : Move → Pair → Type 0
Breaks (Read_o i) p = Breaks_o (p.sock i).o (p.sock i).in_o
Breaks (Read_t i) p = Breaks_t (p.sock i).t (p.sock i).in_t
Breaks (End_o i) p = names (p.link (p.sock i).opener) i ≡ true
Breaks (End_t i) p = names (p.link (other (p.sock i).opener)) i ≡ true
Breaks (Timer x) p = Unit {0}
Breaks m p = ⊥

-- in a quiet state no move breaks a link, unless it is itself trouble or a shut
abbrev pub NoBreak : Pair → Type 0
NoBreak p = (m : Move) → p.quiet ≡ true → Allowed m p → Breaks m p → ⊥

-- what makes a link fail comes only from a node that is shut, quiet or not
abbrev pub Licensed : Pair → Type 0
Licensed p = (i : ℕ) → (Breaks_o (p.sock i).o (p.sock i).in_o → p.shut (other (p.sock i).opener) ≡ true) × (Breaks_t (p.sock i).t (p.sock i).in_t → p.shut (p.sock i).opener ≡ true)

-- no link has failed between the two: none is idle that wasn't
abbrev pub NoFailure : Pair → Pair → Type 0
NoFailure p q = (x : Side) → q.link x ≡ Idle → p.link x ≡ Idle
