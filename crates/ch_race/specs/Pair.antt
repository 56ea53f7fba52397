-- Two nodes and the sockets between them, as far as their race goes: which ends stand, and what is unread.
use Rattle.std.specs.Prelude.{ℕ, nat_eq, Bool, true, false, cond, not, ◌||◌, List, [], ◌∷◌, ◌++◌}
use Rattle.ch_link.specs.declared.LinkState.{LinkState}
use Rattle.ch_link.specs.declared.LinkState.TheVariants.{Idle}

-- the node of the lesser address, and that of the greater
pub data Side : Type 0 where
  Lesser : Side
  Greater : Side

-- the other node
abbrev pub other : Side → Side
other Lesser = Greater
other Greater = Lesser

-- the two are one node
abbrev pub same : Side → Side → Bool
same Lesser Lesser = true
same Lesser Greater = false
same Greater Lesser = false
same Greater Greater = true

-- the node's address is the greater of the two
abbrev pub is_greater : Side → Bool
is_greater Lesser = false
is_greater Greater = true

-- the opener's end: not joined; joined, with no answer read; up; ended
pub data OEnd : Type 0 where
  OPending : OEnd
  OAsking : OEnd
  OUp : OEnd
  OEnded : OEnd

-- the target's end: not come; come, with no request read; up; ended
pub data TEnd : Type 0 where
  TPending : TEnd
  TOpen : TEnd
  TUp : TEnd
  TEnded : TEnd

-- a whole item on a socket: a request, an answer, or a frame. Data stands for each frame of a lightweight connection
pub data Item : Type 0 where
  Request : Item
  Accepted : Item
  Crossed : Item
  Invalid : Item
  EndClosed : Item
  Probe : Item
  Ack : Item
  Data : Item

-- who opened it, its two ends, whether the way to an end is cut, and what is written towards an end and unread
pub record Sock : Type 0 where
  pub opener : Side
  pub o : OEnd
  pub t : TEnd
  pub cut_o : Bool
  pub cut_t : Bool
  pub in_o : List Item
  pub in_t : List Item

-- the link of each node with the other, which nodes are shut, all sockets, and whether nothing was lost since the last
-- settle, with no node shut
pub record Pair : Type 0 where
  pub link : Side → LinkState
  pub shut : Side → Bool
  pub sock : ℕ → Sock
  pub quiet : Bool

-- a socket with both ends ended, as each that isn't dialed yet
abbrev pub dead : Sock
dead = record { opener = Lesser; o = OEnded; t = TEnded; cut_o = false; cut_t = false; in_o = []; in_t = [] }

-- where a pair begins: no socket, and those nodes shut that are no nodes but in name
abbrev pub start : (Side → Bool) → Pair
start away = record { link = λ x. Idle; shut = away; sock = λ i. dead; quiet = not (away Lesser || away Greater) }

-- two nodes, both running
abbrev pub two_nodes : Pair
two_nodes = start (λ x. false)

-- a socket that the node has just dialed
abbrev pub fresh : Side → Sock
fresh x = record { opener = x; o = OPending; t = TPending; cut_o = false; cut_t = false; in_o = []; in_t = [] }

-- the socket i becomes s
abbrev pub put : ℕ → Sock → Pair → Pair
put i s p = record p { sock = λ j. cond (nat_eq j i) s (p.sock j) }

-- the node's link becomes k
abbrev pub point : Side → LinkState → Pair → Pair
point x k p = record p { link = λ z. cond (same z x) k (p.link z) }

-- the opener's end is ended
abbrev pub o_ended : OEnd → Bool
o_ended OEnded = true
o_ended e = false

-- the target's end is ended
abbrev pub t_ended : TEnd → Bool
t_ended TEnded = true
t_ended e = false

-- what is unread after one more item: nothing comes to an end that is ended or cut
abbrev pub written : Bool → Bool → Item → List Item → List Item
written ended cut item word = cond (ended || cut) word (word ++ item ∷ [])

-- the target writes
abbrev pub to_o : Item → Sock → Sock
to_o item s = record s { in_o = written (o_ended s.o) s.cut_o item s.in_o }

-- the opener writes
abbrev pub to_t : Item → Sock → Sock
to_t item s = record s { in_t = written (t_ended s.t) s.cut_t item s.in_t }

-- the opener's end ends, and what was unread there is gone
abbrev pub end_o : Sock → Sock
end_o s = record s { o = OEnded; in_o = [] }

-- the target's end ends, and what was unread there is gone
abbrev pub end_t : Sock → Sock
end_t s = record s { t = TEnded; in_t = [] }

-- the node's end ends
abbrev pub end_of : Side → Sock → Sock
end_of x s = cond (same x s.opener) (end_o s) (end_t s)

-- the node writes
abbrev pub says : Side → Item → Sock → Sock
says x item s = cond (same x s.opener) (to_t item s) (to_o item s)
