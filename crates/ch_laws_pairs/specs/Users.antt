-- Whom the users of the openers' ends of a world are called.
use Rattle.std.specs.Prelude.{◌≡◌, ℕ, ◌+◌, ◌*◌, cond, ◌==◌, List, [], ◌∷◌, find, slice_get, Option, Some, None}
use Rattle.ch_base.specs.declared.address.Address.{Address}
use Rattle.ch_model.specs.declared.name.SockName.{SockName}
use Rattle.ch_model.specs.declared.step.Step.{Step}
use Rattle.ch_model.specs.HostState.{Socket}
use Rattle.ch_model.specs.Naming.{Names, called}
use Rattle.ch_model.specs.WorldSockets.{is_socket_named}
use Rattle.ch_model.specs.WorldState.{Cell, WorldSocket}
use Rattle.ch_laws_pairs.specs.Askers.{Asker, asker_at, asker_after}

-- who asks at a cell under a number
abbrev pub asker_in : Option (Cell × ℕ) → ℕ → Asker
asker_in None n = None
asker_in (Some cell) n = asker_at cell.0.host n

abbrev pub askers_of : List (Cell × ℕ) → ℕ → ℕ → Asker
askers_of cells place n = asker_in (slice_get cells place) n

-- somebody asks, whose address and whose peer's are called as the socket's name says
abbrev pub AsksAs : (ℕ → Address) → Names → SockName → Asker → Type 0
AsksAs own known name None = ⊥
AsksAs own known name (Some user) = (called known (own user.0) ≡ name.from) × (called known user.1 ≡ name.to)

-- so it is at an opener's end of this cell and number; nothing is said of a stranger's
abbrev pub OpenerAsks : (ℕ → ℕ → Address) → Names → (ℕ → ℕ → Asker) → SockName → Option ℕ → Option ℕ → Type 0
OpenerAsks own known askers name None number = Unit {0}
OpenerAsks own known askers name (Some place) None = ⊥
OpenerAsks own known askers name (Some place) (Some n) = AsksAs (own place) known name (askers place n)

-- a target's end that has come has an odd number
abbrev pub IsOdd : Option ℕ → Type 0
IsOdd None = Unit {0}
IsOdd (Some n) = (k : ℕ) × (n ≡ 2 * k + 1)

-- both ends of a socket
abbrev pub IsAsked : (ℕ → ℕ → Address) → Names → (ℕ → ℕ → Asker) → WorldSocket → Type 0
IsAsked own known askers socket = OpenerAsks own known askers socket.name socket.o.cell socket.o.number × IsOdd socket.t.number

-- of all sockets
abbrev pub AllNamed : (ℕ → ℕ → Address) → Names → (ℕ → ℕ → Asker) → List WorldSocket → Type 0
AllNamed own known askers sockets = (s : SockName) (socket : WorldSocket) → find (is_socket_named s) sockets ≡ Some socket → IsAsked own known askers socket

-- who asks after a step of the cell at a place
abbrev pub moved : ℕ → Step → (ℕ → ℕ → Asker) → ℕ → ℕ → Asker
moved place step askers p n = cond (place == p) (asker_after n step (askers p n)) (askers p n)

abbrev pub all_moved : ℕ → List Step → (ℕ → ℕ → Asker) → ℕ → ℕ → Asker
all_moved place [] askers = askers
all_moved place (step ∷ rest) askers = all_moved place rest (moved place step askers)

-- A host's record of an opener's end: its user is an endpoint whose own address is called as the socket's opener, with a peer
-- that is called as its target.
pub record IsUsedAs (own : ℕ → Address) (known : Names) (name : SockName) (held : Socket) : Type 0 where
  pub end : ℕ
  pub peer : Address
  pub opener : held.peer_host ≡ None
  pub user : held.user ≡ Some (end, peer)
  pub from : called known (own end) ≡ name.from
  pub to : called known peer ≡ name.to

-- an endpoint's own address is called as the socket's opener, and this peer as its target
abbrev pub IsCalled : (ℕ → Address) → Names → SockName → ℕ → Address → Type 0
IsCalled own known name end peer = (called known (own end) ≡ name.from) × (called known peer ≡ name.to)
