-- A host whose links and sockets are in order: what makes it write only what is due.
use Rattle.std.specs.Prelude.{◌≡◌, ℕ, ◌*◌, ◌≤◌, Bool, true, false, ◌==◌, List, [], ◌∷◌, length, find, Option, Some, None, Result, Ok, Err}
use Rattle.ch_base.specs.declared.address.Address.{Address}
use Rattle.ch_wire.specs.Spelling.{IsFrame}
use Rattle.ch_wire.specs.declared.frame.Frame.{Frame}
use Rattle.ch_reader.specs.declared.item.Expected.TheVariants as expected
use Rattle.ch_link.specs.Sockets.{names}
use Rattle.ch_link.specs.declared.LinkState.TheVariants.{Dialing, Up}
use Rattle.ch_light.specs.declared.TheConstants.{MOST_IDS}
use Rattle.ch_model.specs.declared.local.LocalEvent.{LocalEvent}
use Rattle.ch_model.specs.declared.local.LocalEvent.TheVariants as locals
use Rattle.ch_model.specs.declared.step.SocketEvent.{SocketEvent}
use Rattle.ch_model.specs.declared.step.SocketEvent.TheVariants as events
use Rattle.ch_model.specs.declared.step.Step.{Step}
use Rattle.ch_model.specs.declared.step.Weight.{Weight}
use Rattle.ch_model.specs.HostState.{Link, Socket, HostState}
use Rattle.ch_model.specs.HostSteps.{is_link, link_or_new, is_socket, own_address}
use Rattle.ch_model.specs.Stages.{is_pending, is_ended}
use Rattle.ch_laws_log.specs.HostEnds.{IsSound}
use Rattle.ch_laws_writes.specs.Dues.{Due, Framing, due_of, due_at, Writes}

-- all that waits for a link may be spelled
abbrev pub AreFrames : List (Frame × Weight) → Type 0
AreFrames [] = Unit {0}
AreFrames (wait ∷ rest) = IsFrame wait.0 × AreFrames rest

-- no two links are of one endpoint and one peer
abbrev pub LinksApart : List Link → Type 0
LinksApart [] = Unit {0}
LinksApart (link ∷ rest) = (find (is_link link.end link.peer) rest ≡ None) × LinksApart rest

-- the link of an endpoint with a peer, among these
abbrev pub link_at : List Link → ℕ → Address → Link
link_at links end peer = link_or_new end peer (find (is_link end peer) links)

abbrev pub user_of : Option Socket → Option (ℕ × Address)
user_of None = None
user_of (Some socket) = socket.user

-- The link of this endpoint with this peer: each socket that it dials or is up on is its own; on the one that it is up on frames
-- are due; what waits may be spelled; and no more ids are given than there are.
pub record LinkFits (sockets : List Socket) (end : ℕ) (peer : Address) (link : Link) : Type 0 where
  pub named : (n : ℕ) → names link.state n ≡ true → user_of (find (is_socket n) sockets) ≡ Some (end, peer)
  pub up : (sock : ℕ) (probed : Bool) → link.state ≡ Up sock probed → due_of (find (is_socket sock) sockets) ≡ Some Framing
  pub spelled : AreFrames link.waits
  pub given : length link.given ≤ MOST_IDS

-- A socket: a pending end awaits an answer; one that awaits its request is of no link yet; and the link whose end awaits an answer
-- is still dialing it.
pub record SocketFits (links : List Link) (socket : Socket) : Type 0 where
  pub asks : is_pending socket.stage ≡ true → socket.expected ≡ expected.Answer
  pub unasked : socket.expected ≡ expected.Request → socket.user ≡ None
  pub awaits : is_ended socket.stage ≡ false → socket.expected ≡ expected.Answer → (end : ℕ) (peer : Address) → socket.user ≡ Some (end, peer) → (link_at links end peer).state ≡ Dialing socket.number

-- A sound host whose endpoints have these addresses, and whose links and sockets fit.
pub record IsOrderly (own : ℕ → Address) (host : HostState) : Type 0 where
  pub sound : IsSound host
  pub own_is : (end : ℕ) → own_address host end ≡ own end
  pub apart : LinksApart host.links
  pub links : (end : ℕ) (peer : Address) → LinkFits host.sockets end peer (link_at host.links end peer)
  pub sockets : (n : ℕ) (socket : Socket) → find (is_socket n) host.sockets ≡ Some socket → SocketFits host.links socket

-- The host stays orderly, and the steps write what is due.
pub record WritesOn (own : ℕ → Address) (before : ℕ → Option Due) (told : List Step) (after : HostState) : Type 0 where
  pub orderly : IsOrderly own after
  pub writes : Writes own before told (due_at after)

-- whatever was done
abbrev pub AllWrite : {E : Type 0} → (ℕ → Address) → (ℕ → Option Due) → Result (List Step × HostState) E → Type 0
AllWrite own before (Ok done) = WritesOn own before done.0 done.1
AllWrite own before (Err e) = Unit {0}

-- a socket that comes has a number that no socket has, and that no dial will have
abbrev pub ComesNew : HostState → SocketEvent → Type 0
ComesNew host (events.Came sock peer_host) = (find (is_socket sock) host.sockets ≡ None) × ((k : ℕ) → host.dials ≤ k → (sock == 2 * k) ≡ false)
ComesNew host event = Unit {0}

-- nor has one that a cell hears of
abbrev pub ComesNewTo : HostState → LocalEvent → Type 0
ComesNewTo host (locals.Came mark sock peer_host) = ComesNew host (events.Came sock peer_host)
ComesNewTo host (locals.Socket event) = ComesNew host event
ComesNewTo host event = Unit {0}
