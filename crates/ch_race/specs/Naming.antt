-- Which end names which link: an end and the link of its node say the same of a socket.
use Rattle.std.specs.Prelude.{◌≡◌, ◌≢◌, ℕ, nat_eq, Bool, true, cond}
use Rattle.ch_link.specs.declared.LinkState.{LinkState}
use Rattle.ch_link.specs.declared.LinkState.TheVariants.{Idle, Dialing, AwaitOther, Up}
use Rattle.ch_race.specs.Pair.{Side, other, OEnd, OPending, OAsking, OUp, OEnded, TEnd, TPending, TOpen, TUp, TEnded, Sock, Pair}
use Rattle.ch_link.specs.Sockets.{names}

-- what a socket is to a node: nothing, its dial that asks, or what it is up on
pub data Role : Type 0 where
  Not : Role
  Asks : Role
  IsUp : Role

-- what the socket is to the node, by its link
abbrev pub role : LinkState → ℕ → Role
role Idle i = Not
role AwaitOther i = Not
role (Dialing d) i = cond (nat_eq i d) Asks Not
role (Up u b) i = cond (nat_eq i u) IsUp Not

-- the same by the opener's end
abbrev pub role_o : OEnd → Role
role_o OPending = Asks
role_o OAsking = Asks
role_o OUp = IsUp
role_o OEnded = Not

-- the same by the target's end
abbrev pub role_t : TEnd → Role
role_t TPending = Not
role_t TOpen = Not
role_t TUp = IsUp
role_t TEnded = Not

-- each end of the socket says what the link of its node says
pub record Named (kx ky : LinkState) (i : ℕ) (o : OEnd) (t : TEnd) : Type 0 where
  pub own : role_o o ≡ role kx i
  pub peer : role_t t ≡ role ky i

-- the same of a socket of the pair
abbrev pub NamedAt : Pair → ℕ → Type 0
NamedAt p i = Named (p.link (p.sock i).opener) (p.link (other (p.sock i).opener)) i (p.sock i).o (p.sock i).t

-- ends and links say the same of every socket
abbrev pub Naming : Pair → Type 0
Naming p = (i : ℕ) → NamedAt p i

-- the target's node has come up on it, and neither end has ended
abbrev pub IsLive : Sock → Type 0
IsLive s = (s.t ≡ TUp) × (s.o ≢ OEnded)

-- at most one socket is live
abbrev pub OneLive : Pair → Type 0
OneLive p = (i j : ℕ) → IsLive (p.sock i) → IsLive (p.sock j) → i ≡ j

-- beside a live socket no node is up on another, nor dials
abbrev pub Bundle : Pair → Type 0
Bundle p = (i : ℕ) → IsLive (p.sock i) → (x : Side) (j : ℕ) → names (p.link x) j ≡ true → j ≡ i

-- the socket's target may come up now: it is up on nothing, and the opener, unless it has left, dials this very socket
pub record IsFreeFor (p : Pair) (i : ℕ) : Type 0 where
  pub target : (u : ℕ) (probed : Bool) → p.link (other (p.sock i).opener) ≡ Up u probed → ⊥
  pub opener : (p.sock i).o ≢ OEnded → p.link (p.sock i).opener ≡ Dialing i

-- no target comes up between the two but where it may
abbrev pub ComesUpFree : Pair → Pair → Type 0
ComesUpFree p q = (i : ℕ) → (p.sock i).t ≢ TUp → (q.sock i).t ≡ TUp → IsFreeFor p i
