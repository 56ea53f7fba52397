-- What is carried of each socket, step by step: of whom its ends are, what its target is asked, and what its opener is answered.
use Rattle.std.specs.Prelude.{◌≡◌, ◌⊎◌, ℕ, true, false, List, [], ◌++◌, map, find, slice_get, Option, Some, None}
use Rattle.std.specs.List.{list_any}
use Rattle.std.specs.Str.{bytes_eq}
use Rattle.ch_base.specs.declared.address.Address.{Address}
use Rattle.ch_wire.specs.Spelling.{request_spelling, answer_spelling}
use Rattle.ch_wire.specs.declared.answer.Answer.{Answer}
use Rattle.ch_wire.specs.declared.answer.Answer.TheVariants.{Mismatch}
use Rattle.ch_reader.specs.declared.item.Expected.TheVariants as expected
use Rattle.ch_model.specs.declared.entry.Entry.{Entry}
use Rattle.ch_model.specs.declared.line.Line.{Line}
use Rattle.ch_model.specs.declared.name.End.{End}
use Rattle.ch_model.specs.declared.name.SockName.{SockName}
use Rattle.ch_model.specs.HostState.{Socket}
use Rattle.ch_model.specs.HostSteps.{is_socket}
use Rattle.ch_model.specs.Naming.{Names, called}
use Rattle.ch_model.specs.World.{nodes_of}
use Rattle.ch_model.specs.WorldSockets.{end_of, is_socket_named}
use Rattle.ch_model.specs.WorldState.{Cell, WorldSocket, World}
use Rattle.ch_laws_bytes.proofs.Lines.{own_of}
use Rattle.ch_laws_bytes.specs.Streams.{Reader, readers_of, dues_of, is_over, reads_at, writes_at}
use Rattle.ch_laws_pairs.specs.Dials.{IsBetweenNames}
use Rattle.ch_laws_writes.specs.Dues.{Due, Asking, Answering}
use Rattle.ch_laws_calls.specs.Users.{IsTargets, LeadsTo}

-- so it is of each socket
abbrev pub AllOf : (WorldSocket → Type 0) → List WorldSocket → Type 0
AllOf C sockets = (s : SockName) (socket : WorldSocket) → find (is_socket_named s) sockets ≡ Some socket → C socket

-- ---- what no step changes

-- the record that a cell has under a number
abbrev pub record_at : Option (Cell × ℕ) → ℕ → Option Socket
record_at None n = None
record_at (Some cell) n = find (is_socket n) cell.0.host.sockets

abbrev pub records_of : List (Cell × ℕ) → ℕ → ℕ → Option Socket
records_of cells place n = record_at (slice_get cells place) n

-- the host texts of a journal's nodes, which its hosts take
abbrev pub hosts_of : List Line → List (List ℕ)
hosts_of journal = map (λ named. named.address.host) (nodes_of journal)

-- A socket's opener is of a host of the journal, whose text the socket has; its target's record, where there is one, is the target's; and neither end is cut.
pub record IsSeated (journal : List Line) (known : Names) (records : ℕ → ℕ → Option Socket) (socket : WorldSocket) : Type 0 where
  pub opener : ℕ
  pub at : socket.o.cell ≡ Some opener
  pub from_host : socket.from_host ≡ (own_of journal opener 0).host
  pub taken : list_any (bytes_eq (own_of journal opener 0).host) (hosts_of journal) ≡ true
  pub uncut : (e : End) → (end_of e socket).is_cut ≡ false
  pub target : (place n : ℕ) (held : Socket) → socket.t.cell ≡ Some place → socket.t.number ≡ Some n → records place n ≡ Some held → IsTargets (own_of journal place) known socket held

-- ---- what goes both ways

-- the names are two, and none is empty
abbrev pub IsClean : SockName → Type 0
IsClean name = IsBetweenNames name × (bytes_eq name.from name.to ≡ false)

-- nothing is due, or a request to this address, of an endpoint that is called as the opener
abbrev pub AsksNext : (ℕ → Address) → Names → Address → SockName → Option Due → Type 0
AsksNext own known asked name None = Unit {0}
AsksNext own known asked name (Some (Asking end peer)) = (called known (own end) ≡ name.from) × (peer ≡ asked)
AsksNext own known asked name due = ⊥

-- the bytes begin with such a request
pub record BeginsAsking (own : ℕ → Address) (known : Names) (asked : Address) (name : SockName) (bytes : List ℕ) : Type 0 where
  pub asker : ℕ
  pub from : called known (own asker) ≡ name.from
  pub more : List ℕ
  pub begins : bytes ≡ request_spelling (record { target = asked.id; from = own asker }) ++ more

-- it is due yet, or these bytes begin with it
abbrev pub AsksOn : (ℕ → Address) → Names → Address → SockName → List ℕ → Option Due → Type 0
AsksOn own known asked name bytes due = ((bytes ≡ []) × AsksNext own known asked name due) ⊎ BeginsAsking own known asked name bytes

-- nothing is due, or an answer
abbrev pub AnswersNext : Option Due → Type 0
AnswersNext None = Unit {0}
AnswersNext (Some Answering) = Unit {0}
AnswersNext due = ⊥

-- the bytes begin with an answer, other than that the host text is false
pub record BeginsAnswer (bytes : List ℕ) : Type 0 where
  pub answer : Answer
  pub other : answer ≡ Mismatch → ⊥
  pub more : List ℕ
  pub begins : bytes ≡ answer_spelling answer ++ more

-- it is due yet, or these bytes begin with it
abbrev pub Answered : List ℕ → Option Due → Type 0
Answered bytes due = ((bytes ≡ []) × AnswersNext due) ⊎ BeginsAnswer bytes

-- What is unread at the target that expects its request is that of the opener, and at the opener that expects its answer no mismatch, as
-- hosts read and write.
pub record IsBegun (journal : List Line) (known : Names) (readers : ℕ → ℕ → Option Reader) (dues : ℕ → ℕ → Option Due) (socket : WorldSocket) : Type 0 where
  pub leads : LeadsTo journal known socket
  pub answer : IsClean socket.name → is_over socket.o ≡ false → (since : List ℕ) → reads_at readers expected.Answer socket.o.cell socket.o.number ≡ Some (expected.Answer, since) → Answered (since ++ socket.o.unread) (writes_at dues socket.t.cell socket.t.number)
  pub request : (place : ℕ) → socket.o.cell ≡ Some place → is_over socket.t ≡ false → (since : List ℕ) → reads_at readers expected.Request socket.t.cell socket.t.number ≡ Some (expected.Request, since)
      → AsksOn (own_of journal place) known leads.asked socket.name (since ++ socket.t.unread) (writes_at dues socket.o.cell socket.o.number)

-- all of that, of a world
pub record Carried (journal : List Line) (log : List Entry) (world : World) : Type 0 where
  pub seated : AllOf (IsSeated journal world.names (records_of world.cells)) world.sockets
  pub begun : AllOf (IsBegun journal world.names (readers_of world.cells) (dues_of world.cells)) world.sockets
