-- What is unread at an end of a socket: the items that its bytes spell, and what is written behind them.
use Rattle.std.specs.Prelude.{◌≡◌, ℕ, Bool, true, false, cond, ◌==◌, ◌||◌, List, [], ◌∷◌, ◌++◌, find, slice_get, Option, Some, None}
use Rattle.ch_base.specs.Addresses.{IsAddress}
use Rattle.ch_base.specs.declared.address.Address.{Address}
use Rattle.ch_wire.specs.Spelling.{IsRequest}
use Rattle.ch_reader.specs.Items.{spellings, expected_after, MayFollow}
use Rattle.ch_reader.specs.declared.item.Expected.{Expected}
use Rattle.ch_reader.specs.declared.item.Expected.TheVariants as expected
use Rattle.ch_reader.specs.declared.item.Front.{Front}
use Rattle.ch_reader.specs.declared.item.Front.TheVariants.{Refused}
use Rattle.ch_reader.specs.declared.item.Item.{Item}
use Rattle.ch_model.specs.declared.name.End.{End}
use Rattle.ch_model.specs.declared.name.End.TheVariants.{O, T}
use Rattle.ch_model.specs.declared.name.SockName.{SockName}
use Rattle.ch_model.specs.declared.step.Step.{Step}
use Rattle.ch_model.specs.HostState.{Socket}
use Rattle.ch_model.specs.HostSteps.{is_socket, own_address}
use Rattle.ch_model.specs.Naming.{Names, called}
use Rattle.ch_model.specs.Stages.{is_ended}
use Rattle.ch_model.specs.WorldSockets.{end_of, is_socket_named}
use Rattle.ch_model.specs.WorldState.{Cell, WorldEnd, WorldSocket, World}
use Rattle.ch_laws_writes.specs.Dues.{Due, Asking, Answering, Framing, due_at, due_after}

-- ---- who reads and writes

-- what is read next at an end: an item of this kind, of which the host has these bytes
abbrev pub Reader : Type 0
Reader = Expected × List ℕ

-- by the host's record of its socket; one that has ended reads nothing
abbrev pub reader_in : Option Socket → Option Reader
reader_in None = None
reader_in (Some socket) = cond (is_ended socket.stage) None (Some (socket.expected, socket.since))

abbrev pub reader_at : Option (Cell × ℕ) → ℕ → Option Reader
reader_at None n = None
reader_at (Some cell) n = reader_in (find (is_socket n) cell.0.host.sockets)

-- what the cell at a place reads next under each of its numbers
abbrev pub readers_of : List (Cell × ℕ) → ℕ → ℕ → Option Reader
readers_of cells place n = reader_at (slice_get cells place) n

abbrev pub due_in : Option (Cell × ℕ) → ℕ → Option Due
due_in None n = None
due_in (Some cell) n = due_at cell.0.host n

-- what it writes next
abbrev pub dues_of : List (Cell × ℕ) → ℕ → ℕ → Option Due
dues_of cells place n = due_in (slice_get cells place) n

-- What reads at an end of this cell and number: nothing where it is a stranger's. An end that hasn't come reads its first item next.
abbrev pub reads_at : (ℕ → ℕ → Option Reader) → Expected → Option ℕ → Option ℕ → Option Reader
reads_at readers first None number = None
reads_at readers first (Some place) None = Some (first, [])
reads_at readers first (Some place) (Some n) = readers place n

-- what it writes next: an end that hasn't come answers first
abbrev pub writes_at : (ℕ → ℕ → Option Due) → Option ℕ → Option ℕ → Option Due
writes_at dues None number = None
writes_at dues (Some place) None = Some Answering
writes_at dues (Some place) (Some n) = dues place n

-- ---- what is unread

-- what is written next is of the kind that is read then
abbrev pub Fits : Expected → Option Due → Type 0
Fits e None = Unit {0}
Fits e (Some (Asking end peer)) = e ≡ expected.Request
Fits e (Some Answering) = e ≡ expected.Answer
Fits e (Some Framing) = e ≡ expected.Frame

-- The bytes that the reader has, and those that are unread, are the spellings of items, of which the first is of the kind that
-- it reads next, and what is written next fits behind them.
pub record Spelled (reader : Reader) (unread : List ℕ) (due : Option Due) : Type 0 where
  pub items : List Item
  pub whole : reader.1 ++ unread ≡ spellings items
  pub each : MayFollow reader.0 items
  pub next : Fits (expected_after reader.0 items) due

-- so it is where something reads there, unless it is over: nothing more is handed to an end that has ended or was cut
abbrev pub Flows : Option Reader → Bool → List ℕ → Option Due → Type 0
Flows None over unread due = Unit {0}
Flows (Some reader) true unread due = Unit {0}
Flows (Some reader) false unread due = Spelled reader unread due

abbrev pub is_over : WorldEnd → Bool
is_over end = is_ended end.stage || end.is_cut

-- a target asks for nothing
abbrev pub AsksNothing : Option Due → Type 0
AsksNothing (Some (Asking end peer)) = ⊥
AsksNothing due = Unit {0}

-- towards the opener
pub record ToOpener (reader : Option Reader) (over : Bool) (unread : List ℕ) (due : Option Due) : Type 0 where
  pub answers : AsksNothing due
  pub flows : Flows reader over unread due

-- Towards the target, from a host whose endpoints have these addresses: one of them asks for a peer, as the socket is called; and
-- where that request may be read, it flows so.
pub record ToTarget (own : ℕ → Address) (known : Names) (name : SockName) (reader : Option Reader) (over : Bool) (unread : List ℕ) (due : Option Due) : Type 0 where
  pub asker : ℕ
  pub asked : Address
  pub from : called known (own asker) ≡ name.from
  pub to : called known asked ≡ name.to
  pub asks : (end : ℕ) (peer : Address) → due ≡ Some (Asking end peer) → (end ≡ asker) × (peer ≡ asked)
  pub flows : IsRequest (record { target = asked.id; from = own asker }) → Flows reader over unread due

-- nothing is said of what a stranger writes
abbrev pub FromOpener : (ℕ → ℕ → Address) → Names → SockName → Option ℕ → Option Reader → Bool → List ℕ → Option Due → Type 0
FromOpener own known name None reader over unread due = Unit {0}
FromOpener own known name (Some place) reader over unread due = ToTarget (own place) known name reader over unread due

-- both ways, as readers and writers stand
pub record BothFlow (own : ℕ → ℕ → Address) (known : Names) (readers : ℕ → ℕ → Option Reader) (dues : ℕ → ℕ → Option Due) (socket : WorldSocket) : Type 0 where
  pub opener : ToOpener (reads_at readers expected.Answer socket.o.cell socket.o.number) (is_over socket.o) socket.o.unread (writes_at dues socket.t.cell socket.t.number)
  pub target : FromOpener own known socket.name socket.o.cell (reads_at readers expected.Request socket.t.cell socket.t.number) (is_over socket.t) socket.t.unread (writes_at dues socket.o.cell socket.o.number)

-- of all sockets
abbrev pub AllFlow : (ℕ → ℕ → Address) → Names → (ℕ → ℕ → Option Reader) → (ℕ → ℕ → Option Due) → List WorldSocket → Type 0
AllFlow own known readers dues sockets = (s : SockName) (socket : WorldSocket) → find (is_socket_named s) sockets ≡ Some socket → BothFlow own known readers dues socket

-- ---- a world

-- what reads at each end of a socket first: an opener an answer, a target a request
abbrev pub first_at : End → Expected
first_at O = expected.Answer
first_at T = expected.Request

-- what is read next at an end of a socket
abbrev pub reader_of : World → WorldSocket → End → Option Reader
reader_of world socket e = reads_at (readers_of world.cells) (first_at e) (end_of e socket).cell (end_of e socket).number

-- what it writes next
abbrev pub due_of_end : World → WorldSocket → End → Option Due
due_of_end world socket e = writes_at (dues_of world.cells) (end_of e socket).cell (end_of e socket).number

-- so it is towards both ends of a socket of the world, by the host of its opener, where it is a host's
pub record AreItems (world : World) (socket : WorldSocket) : Type 0 where
  pub opener : ToOpener (reader_of world socket O) (is_over socket.o) socket.o.unread (due_of_end world socket T)
  pub target : (place : ℕ) (cell : Cell × ℕ) → socket.o.cell ≡ Some place → slice_get world.cells place ≡ Some cell → ToTarget (own_address cell.0.host) world.names socket.name (reader_of world socket T) (is_over socket.t) socket.t.unread (due_of_end world socket O)

-- each request that such a host may ask under this name may be read
abbrev pub MayBeAsked : (ℕ → Address) → Names → SockName → Type 0
MayBeAsked own known name = (end : ℕ) (peer : Address) → called known (own end) ≡ name.from → called known peer ≡ name.to → IsRequest (record { target = peer.id; from = own end })

-- each of these addresses is one that may be spelled
abbrev pub AreAddresses : Names → Type 0
AreAddresses [] = Unit {0}
AreAddresses (named ∷ rest) = IsAddress named.address × AreAddresses rest

-- the request that is due, where one is, may be read
abbrev pub MayAsk : (ℕ → Address) → Option Due → Type 0
MayAsk own due = (end : ℕ) (peer : Address) → due ≡ Some (Asking end peer) → IsRequest (record { target = peer.id; from = own end })

-- the bytes at the front are no item
abbrev pub is_refusal : Front → Bool
is_refusal (Refused error) = true
is_refusal front = false

-- ---- steps

-- what is written next after a step of the cell at a place
abbrev pub moved : ℕ → Step → (ℕ → ℕ → Option Due) → ℕ → ℕ → Option Due
moved place step dues p n = cond (place == p) (due_after n step (dues p n)) (dues p n)

abbrev pub all_moved : ℕ → List Step → (ℕ → ℕ → Option Due) → ℕ → ℕ → Option Due
all_moved place [] dues = dues
all_moved place (step ∷ rest) dues = all_moved place rest (moved place step dues)
