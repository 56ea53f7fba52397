-- What a call of a host changes of the ids of its links, and what it writes and reads of that.
use Rattle.std.specs.Prelude.{◌≡◌, ℕ, true, false, cond, ◌==◌, List, [], ◌∷◌, ◌++◌, length, find, Option, Some, None, is_some}
use Rattle.ch_base.specs.declared.address.Address.{Address}
use Rattle.ch_wire.specs.Spelling.{IsRequest}
use Rattle.ch_wire.specs.declared.frame.Frame.{Frame}
use Rattle.ch_reader.specs.Items.{spellings, MayFollow}
use Rattle.ch_reader.specs.declared.item.Expected.{Expected}
use Rattle.ch_reader.specs.declared.item.Expected.TheVariants as expected
use Rattle.ch_reader.specs.declared.item.Item.{Item}
use Rattle.ch_light.specs.declared.Connection.{Connection}
use Rattle.ch_model.specs.declared.step.Step.{Step}
use Rattle.ch_model.specs.declared.step.Step.TheVariants as steps
use Rattle.ch_model.specs.HostState.{Link, Socket, HostState}
use Rattle.ch_model.specs.HostSteps.{link_with, is_socket}
use Rattle.ch_laws_bytes.specs.Streams.{Reader, reader_in}
use Rattle.ch_laws_calls.specs.Tables.{Table, table_of, frames_on}
use Rattle.ch_laws_reads.specs.Reads.{AreRead, reads_of}
use Rattle.ch_laws_writes.specs.Dues.{Due, Asking, Answering, Framing, due_at}
use Rattle.ch_laws_writes.proofs.Ordered.{is_key}
use Rattle.ch_laws_calls.specs.FitsFit.{is_up_at, created_at, LinkHolds, HostHolds, final_at, frames_in}

-- the bytes that steps write on the socket of this number
abbrev pub bytes_at : ℕ → List Step → List ℕ
bytes_at n [] = []
bytes_at n (steps.Write sock bytes said ∷ rest) = cond (sock == n) (bytes ++ bytes_at n rest) (bytes_at n rest)
bytes_at n (step ∷ rest) = bytes_at n rest

-- no step dials
abbrev pub NoDials : List Step → Type 0
NoDials [] = Unit {0}
NoDials (steps.Dial sock end peer ∷ rest) = ⊥
NoDials (step ∷ rest) = NoDials rest

-- what dials does nothing else
abbrev pub DialsAlone : List Step → Type 0
DialsAlone [] = Unit {0}
DialsAlone (steps.Dial sock end peer ∷ rest) = rest ≡ []
DialsAlone (step ∷ rest) = NoDials rest

-- these items may be written where that is due: the request from the endpoint's own address may be one that can be read
abbrev pub IsKind : (ℕ → Address) → Option Due → List Item → Type 0
IsKind own None said = said ≡ []
IsKind own (Some (Asking end peer)) said = IsRequest (record { target = peer.id; from = own end }) → MayFollow expected.Request said
IsKind own (Some Answering) said = MayFollow expected.Answer said
IsKind own (Some Framing) said = MayFollow expected.Frame said

-- the ids of a link on a socket: none but where it is up there
abbrev pub ids_up : (Link → List Connection) → ℕ → Link → Table
ids_up f n link = cond (is_up_at n link.state) (table_of (f link)) []

-- Frames that a link writes on a socket lead from the ids that it had given there to those that it gives now; where it isn't up
-- there now it writes none.
pub record Gives (n : ℕ) (one two : Link) (frames : List Frame) : Type 0 where
  pub up : is_up_at n two.state ≡ true → frames_on frames (ids_up (λ (link : Link). link.given) n one) ≡ Some (table_of two.given)
  pub not : is_up_at n two.state ≡ false → frames ≡ []

-- the same of frames that it reads, and the ids that are created; where it wasn't up there it reads none
pub record Creates (n : ℕ) (one two : Link) (frames : List Frame) : Type 0 where
  pub up : is_up_at n two.state ≡ true → frames_on frames (ids_up (λ (link : Link). link.created) n one) ≡ Some (table_of two.created)
  pub not : is_up_at n one.state ≡ false → frames ≡ []

-- What a call changes is one link, of this endpoint with this peer; and what is written and read of connections is that link's.
pub record Turn (own : ℕ → Address) (host : HostState) (end : ℕ) (peer : Address) (told : List Step) (after : HostState) : Type 0 where
  pub others : (e : ℕ) (p : Address) → is_key end peer e p ≡ false → link_with after e p ≡ link_with host e p
  pub holds : LinkHolds (link_with after end peer)
  pub said : ℕ → List Item
  pub spelled : (n : ℕ) → bytes_at n told ≡ spellings (said n)
  pub kind : (n : ℕ) → IsKind own (due_at host n) (said n)
  pub gives : (n : ℕ) → Gives n (link_with host end peer) (link_with after end peer) (frames_in (said n))
  pub creates : (n : ℕ) (known : Socket) (read : List Item) (next : Expected) (left : List ℕ) → find (is_socket n) host.sockets ≡ Some known → length read ≡ reads_of n told → AreRead known.expected known.since read next left
      → Creates n (link_with host end peer) (link_with after end peer) (frames_in read)
  pub alone : DialsAlone told

-- ---- what follows at each end

-- items were read at an end, and their frames lead to the ids that are created there then; or nothing is read there any more
abbrev pub ReaderGoes : Option Reader → Table → Option Reader → Table → Type 0
ReaderGoes before start None next = Unit {0}
ReaderGoes None start (Some now) next = ⊥
ReaderGoes (Some reader) start (Some now) next = (read : List Item) × AreRead reader.0 reader.1 read now.0 now.1 × (frames_on (frames_in read) start ≡ Some next)

-- frames lead from the ids that were given to those that are given then
abbrev pub LeadsOn : Option Table → List Frame → Option Table → Type 0
LeadsOn (Some final) frames (Some after) = frames_on frames final ≡ Some after
LeadsOn (Some final) frames None = is_some (frames_on frames final) ≡ true
LeadsOn None frames (Some after) = ⊥
LeadsOn None frames None = frames ≡ []

-- bytes that are written at an end are items that may be written there, and their frames lead on
pub record WriterGoes (own : ℕ → Address) (due : Option Due) (final : Option Table) (bytes : List ℕ) (after : Option Table) : Type 0 where
  pub said : List Item
  pub spelled : bytes ≡ spellings said
  pub kind : IsKind own due said
  pub leads : LeadsOn final (frames_in said) after

-- all that a call of a host carries on
pub record Carries (own : ℕ → Address) (host : HostState) (told : List Step) (after : HostState) : Type 0 where
  pub holds : HostHolds after
  pub reads : (n : ℕ) (known : Socket) → find (is_socket n) host.sockets ≡ Some known → ReaderGoes (reader_in (Some known)) (created_at host n) (reader_in (find (is_socket n) after.sockets)) (created_at after n)
  pub writes : (n : ℕ) (known : Socket) → find (is_socket n) host.sockets ≡ Some known → WriterGoes own (due_at host n) (final_at host n) (bytes_at n told) (final_at after n)
