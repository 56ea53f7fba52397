-- How much is still to be done, as a number that each move of a settle lowers.
use Rattle.std.specs.Prelude.{ℕ, zero, suc, ◌+◌, List, [], ◌∷◌}
use Rattle.ch_link.specs.declared.LinkState.{LinkState}
use Rattle.ch_link.specs.declared.LinkState.TheVariants.{AwaitOther}
use Rattle.ch_race.specs.Pair.{Lesser, Greater, OEnd, OPending, OAsking, OUp, OEnded, TEnd, TPending, TOpen, TUp, TEnded, Item, Request, Accepted, Crossed, Invalid, EndClosed, Probe, Ack, Data, Sock, Pair}

-- an item weighs more than all that is written when it is read
abbrev pub weigh : Item → ℕ
weigh Request = 4
weigh Probe = 2
weigh item = 1

-- what stands unread
abbrev pub load : List Item → ℕ
load [] = 0
load (item ∷ w) = weigh item + load w

-- an opener's end: one that is to join has a request to write
abbrev pub weigh_o : OEnd → ℕ
weigh_o OPending = 6
weigh_o OAsking = 1
weigh_o OUp = 1
weigh_o OEnded = 0

-- a target's end
abbrev pub weigh_t : TEnd → ℕ
weigh_t TPending = 2
weigh_t TOpen = 1
weigh_t TUp = 1
weigh_t TEnded = 0

-- a socket
abbrev pub weight : Sock → ℕ
weight s = weigh_o s.o + weigh_t s.t + (load s.in_o + load s.in_t)

-- a number of each socket, summed over the first n
abbrev pub sum_of : (Sock → ℕ) → ℕ → (ℕ → Sock) → ℕ
sum_of f zero socks = 0
sum_of f (suc n) socks = sum_of f n socks + f (socks n)

-- the weight of the first n sockets
abbrev pub total : ℕ → (ℕ → Sock) → ℕ
total n socks = sum_of weight n socks

-- a link: where no visit is left, only one that awaits the other has a timer to run out
abbrev pub weigh_link : LinkState → ℕ
weigh_link AwaitOther = 1
weigh_link k = 0

-- the weight of both links
abbrev pub waiting : Pair → ℕ
waiting p = weigh_link (p.link Lesser) + weigh_link (p.link Greater)

-- the weight of a pair: that of its first n sockets, and of both links
abbrev pub whole : ℕ → Pair → ℕ
whole n p = total n p.sock + waiting p

-- the opener's end has an item that it expects
abbrev pub Reads_o : OEnd → List Item → Type 0
Reads_o OAsking (Accepted ∷ w) = Unit {0}
Reads_o OAsking (Crossed ∷ w) = Unit {0}
Reads_o OAsking (Invalid ∷ w) = Unit {0}
Reads_o OUp (Data ∷ w) = Unit {0}
Reads_o OUp (Probe ∷ w) = Unit {0}
Reads_o OUp (Ack ∷ w) = Unit {0}
Reads_o OUp (EndClosed ∷ w) = Unit {0}
Reads_o o w = ⊥

-- the target's end has an item that it expects
abbrev pub Reads_t : TEnd → List Item → Type 0
Reads_t TOpen (Request ∷ w) = Unit {0}
Reads_t TUp (Data ∷ w) = Unit {0}
Reads_t TUp (Probe ∷ w) = Unit {0}
Reads_t TUp (Ack ∷ w) = Unit {0}
Reads_t TUp (EndClosed ∷ w) = Unit {0}
Reads_t t w = ⊥
