-- What a host's links and sockets say of each other.
use Rattle.std.specs.Prelude.{◌≡◌, ◌≤◌, ℕ, ◌*◌, Bool, true, false, cond, ◌&&◌, ◌==◌, List, [], ◌∷◌, find, is_some, Option, Some, None}
use Rattle.ch_base.specs.declared.address.Address.{Address}
use Rattle.ch_reader.specs.declared.item.Expected.{Expected}
use Rattle.ch_reader.specs.declared.item.Expected.TheVariants as expected
use Rattle.ch_link.specs.declared.LinkState.{LinkState}
use Rattle.ch_link.specs.declared.LinkState.TheVariants.{Dialing, Up}
use Rattle.ch_watch.specs.Same.{same_node}
use Rattle.ch_model.specs.Stages.{Stage, Pending, Open, Ended, is_ended}
use Rattle.ch_model.specs.HostState.{Link, Socket, HostState}
use Rattle.ch_model.specs.HostSteps.{is_link, link_with, is_socket}
use Rattle.ch_laws_items.specs.Kept.{Apart}

-- what is said of a socket: that no link names it, that one dials it, or that one is up on it
pub data Word : Type 0 where
  Unnamed : Word
  Dialed : Word
  IsUp : Word

-- what a link in this state says of the socket of this number
abbrev pub link_says : LinkState → ℕ → Word
link_says (Dialing d) n = cond (d == n) Dialed Unnamed
link_says (Up u probed) n = cond (u == n) IsUp Unnamed
link_says state n = Unnamed

-- what an end says of itself that expects this item next: an answer, that it is dialed; a frame, that a link is up on it
abbrev pub expected_says : Expected → Word
expected_says expected.Request = Unnamed
expected_says expected.Answer = Dialed
expected_says expected.Frame = IsUp

-- an end that has ended is named by none
abbrev pub stage_says : Stage → Expected → Word
stage_says Ended e = Unnamed
stage_says stage e = expected_says e

-- the user of an end is this endpoint with this peer
abbrev pub is_user : ℕ → Address → ℕ × Address → Bool
is_user end peer user = (user.0 == end) && same_node user.1 peer

-- an end has a user, and it is this endpoint with this peer
abbrev pub is_for : ℕ → Address → Option (ℕ × Address) → Bool
is_for end peer None = false
is_for end peer (Some user) = is_user end peer user

-- what an end says of the link of this endpoint with this peer
abbrev pub socket_says : ℕ → Address → Option Socket → Word
socket_says end peer None = Unnamed
socket_says end peer (Some socket) = cond (is_for end peer socket.user) (stage_says socket.stage socket.expected) Unnamed

-- How an end may be: an opener's that is pending or open, has a user, and expects its answer; a target's that is open, has none,
-- and expects its request; one that is open, has a user, and expects frames; or one that has ended.
abbrev pub Fits : Option (List ℕ) → Stage → Option (ℕ × Address) → Expected → Type 0
Fits host Ended user e = Unit {0}
Fits None Pending (Some user) expected.Answer = Unit {0}
Fits None Open (Some user) expected.Answer = Unit {0}
Fits (Some host) Open None expected.Request = Unit {0}
Fits host Open (Some user) expected.Frame = Unit {0}
Fits host stage user e = ⊥

-- a host's record of an end is as one may be
abbrev pub IsFit : Socket → Type 0
IsFit socket = Fits socket.peer_host socket.stage socket.user socket.expected

-- no two links are of one endpoint and peer
abbrev pub LinksApart : List Link → Type 0
LinksApart [] = Unit {0}
LinksApart (link ∷ rest) = (find (is_link link.end link.peer) rest ≡ None) × LinksApart rest

-- Links and sockets are found by what they are; the numbers of the next dials are free; each end is as one may be; and of each socket
-- the link of each endpoint with each peer says what its end says of that link.
pub record IsNaming (host : HostState) : Type 0 where
  pub links : LinksApart host.links
  pub sockets : Apart host.sockets
  pub free : (k : ℕ) → host.dials ≤ k → find (is_socket (2 * k)) host.sockets ≡ None
  pub fit : (n : ℕ) (socket : Socket) → find (is_socket n) host.sockets ≡ Some socket → IsFit socket
  pub same : (end : ℕ) (peer : Address) (n : ℕ) → link_says (link_with host end peer).state n ≡ socket_says end peer (find (is_socket n) host.sockets)

-- the opener's end that the link of this endpoint with this peer dials
pub record IsDialedBy (end : ℕ) (peer : Address) (socket : Socket) : Type 0 where
  pub user : socket.user ≡ Some (end, peer)
  pub opener : socket.peer_host ≡ None
  pub stands : is_ended socket.stage ≡ false
  pub expects : socket.expected ≡ expected.Answer

-- the end that the link of this endpoint with this peer is up on
pub record IsUpFor (end : ℕ) (peer : Address) (socket : Socket) : Type 0 where
  pub user : socket.user ≡ Some (end, peer)
  pub stands : socket.stage ≡ Open
  pub expects : socket.expected ≡ expected.Frame

-- a target's end that hasn't read its request
pub record IsUnasked (socket : Socket) : Type 0 where
  pub target : is_some socket.peer_host ≡ true
  pub stands : socket.stage ≡ Open
  pub expects : socket.expected ≡ expected.Request
