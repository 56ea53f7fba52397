-- Whose link a target's end is for, and what it is asked: as its socket is called.
use Rattle.std.specs.Prelude.{◌≡◌, ◌⊎◌, ℕ, true, false, List, [], ◌++◌, find, slice_get, Some}
use Rattle.std.specs.Str.{bytes_eq}
use Rattle.ch_base.specs.declared.address.Address.{Address}
use Rattle.ch_wire.specs.Spelling.{request_spelling, answer_spelling}
use Rattle.ch_wire.specs.declared.answer.Answer.TheVariants.{Mismatch}
use Rattle.ch_reader.specs.declared.item.Expected.TheVariants as expected
use Rattle.ch_model.specs.declared.entry.Entry.{Entry}
use Rattle.ch_model.specs.declared.line.Line.{Line}
use Rattle.ch_model.specs.declared.name.End.{End}
use Rattle.ch_model.specs.declared.name.End.TheVariants.{O, T}
use Rattle.ch_model.specs.declared.name.SockName.{SockName}
use Rattle.ch_model.specs.HostState.{Socket}
use Rattle.ch_model.specs.HostSteps.{is_socket}
use Rattle.ch_model.specs.Naming.{Names, called}
use Rattle.ch_model.specs.World.{world_new}
use Rattle.ch_model.specs.WorldSockets.{end_of, is_socket_named, cell_of}
use Rattle.ch_model.specs.WorldState.{Cell, WorldSocket, World}
use Rattle.ch_laws_log.specs.Declared.{is_declared}
use Rattle.ch_laws_bytes.proofs.Lines.{own_of}
use Rattle.ch_laws_pairs.specs.Dials.{IsBetweenNames}
use Rattle.ch_laws_bytes.specs.Streams.{Reader, is_over, reader_of}

-- these bytes are none, or begin with the request of an opener at this place, by the names of the socket
pub record BeginsRequest (own : ℕ → Address) (known : Names) (name : SockName) (bytes : List ℕ) : Type 0 where
  pub asker : ℕ
  pub asked : Address
  pub from : called known (own asker) ≡ name.from
  pub to : called known asked ≡ name.to
  pub more : List ℕ
  pub begins : bytes ≡ request_spelling (record { target = asked.id; from = own asker }) ++ more

abbrev pub IsAskedAs : (ℕ → Address) → Names → SockName → List ℕ → Type 0
IsAskedAs own known name bytes = (bytes ≡ []) ⊎ BeginsRequest own known name bytes

-- The host's record of a target's end: it knows the opener's host text; and its user, if it has one, is called as the socket, where that is
-- between two names.
pub record IsTargets (own : ℕ → Address) (known : Names) (socket : WorldSocket) (record_of : Socket) : Type 0 where
  pub peer_host : record_of.peer_host ≡ Some socket.from_host
  pub user : (end : ℕ) (peer : Address) → IsBetweenNames socket.name → record_of.user ≡ Some (end, peer) → (called known (own end) ≡ socket.name.to) × (called known peer ≡ socket.name.from)

-- The target's end is of the cell of an address that is called as the socket's target.
pub record LeadsTo (journal : List Line) (known : Names) (socket : WorldSocket) : Type 0 where
  pub asked : Address
  pub to : called known asked ≡ socket.name.to
  pub cell : socket.t.cell ≡ cell_of (world_new journal) asked

-- A socket of the world: no end is cut, and its target's leads to the address that it is called by; it has its opener's host text; its target's host keeps that, and whose link it is for; and what is unread
-- at a target that expects its request, where the end isn't over, is none or begins with the request. No opener of two declared
-- nodes is answered that its host text is false.
pub record IsUsed (journal : List Line) (world : World) (socket : WorldSocket) : Type 0 where
  pub uncut : (e : End) → (end_of e socket).is_cut ≡ false
  pub leads : LeadsTo journal world.names socket
  pub from_host : (place : ℕ) (cell : Cell × ℕ) → socket.o.cell ≡ Some place → slice_get world.cells place ≡ Some cell → socket.from_host ≡ cell.0.host.host
  pub target : (place n : ℕ) (cell : Cell × ℕ) (known : Socket) → socket.t.cell ≡ Some place → socket.t.number ≡ Some n → slice_get world.cells place ≡ Some cell → find (is_socket n) cell.0.host.sockets ≡ Some known → IsTargets (own_of journal place) world.names socket known
  pub answer : (since more : List ℕ) → is_declared world.names socket.name.from ≡ true → is_declared world.names socket.name.to ≡ true → bytes_eq socket.name.from socket.name.to ≡ false → is_over socket.o ≡ false → reader_of world socket O ≡ Some (expected.Answer, since) → since ++ socket.o.unread ≡ answer_spelling Mismatch ++ more → ⊥
  pub request : (place : ℕ) (since : List ℕ) → socket.o.cell ≡ Some place → is_over socket.t ≡ false → reader_of world socket T ≡ Some (expected.Request, since) → IsAskedAs (own_of journal place) world.names socket.name (since ++ socket.t.unread)

-- each is so
abbrev pub AllUsed : List Line → List Entry → World → Type 0
AllUsed journal log world = (s : SockName) (socket : WorldSocket) → find (is_socket_named s) world.sockets ≡ Some socket → IsUsed journal world socket
