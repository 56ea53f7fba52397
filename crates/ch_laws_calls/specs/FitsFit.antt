-- What is unread at each end of a socket leads from the ids that its reader has to those that its writer gave.
use Rattle.std.specs.Prelude.{◌≡◌, ℕ, Bool, true, false, cond, ◌==◌, List, [], ◌∷◌, ◌++◌, map, find, slice_get, Option, Some, None, is_some}
use Rattle.ch_base.specs.declared.address.Address.{Address}
use Rattle.ch_wire.specs.declared.frame.Frame.{Frame}
use Rattle.ch_reader.specs.Items.{spellings, MayFollow}
use Rattle.ch_reader.specs.declared.item.Item.{Item}
use Rattle.ch_reader.specs.declared.item.Item.TheVariants as items
use Rattle.ch_link.specs.declared.LinkState.{LinkState}
use Rattle.ch_link.specs.declared.LinkState.TheVariants.{Up}
use Rattle.ch_light.specs.declared.Connection.{Connection}
use Rattle.ch_model.specs.declared.entry.Entry.{Entry}
use Rattle.ch_model.specs.declared.line.Line.{Line}
use Rattle.ch_model.specs.declared.name.End.{End}
use Rattle.ch_model.specs.declared.name.SockName.{SockName}
use Rattle.ch_model.specs.AccountsItems.{frames_of}
use Rattle.ch_model.specs.HostState.{Link, Socket, HostState}
use Rattle.ch_model.specs.HostSteps.{link_with, is_socket}
use Rattle.ch_model.specs.HostWrites.{is_up}
use Rattle.ch_model.specs.Stages.{is_ended}
use Rattle.ch_model.specs.WorldSockets.{end_of, other, is_socket_named}
use Rattle.ch_model.specs.WorldState.{Cell, WorldSocket, World}
use Rattle.ch_laws_bytes.proofs.Lines.{own_of}
use Rattle.ch_laws_bytes.specs.Streams.{Reader, reader_of, is_over, MayBeAsked}
use Rattle.ch_laws_race.specs.Answers.{AreData}
use Rattle.ch_laws_calls.specs.Tables.{Table, table_of, frames_on}

-- ---- a host

-- the link is up on the socket of this number
abbrev pub is_up_at : ℕ → LinkState → Bool
is_up_at n (Up sock probed) = sock == n
is_up_at n state = false

-- the link that is up on it, if one is
abbrev pub up_on : ℕ → List Link → Option Link
up_on n links = find (λ (link : Link). is_up_at n link.state) links

abbrev pub ids_of : (Link → List Connection) → Option Link → Table
ids_of f None = []
ids_of f (Some link) = table_of (f link)

-- the ids that were given on a socket, and those that were created on it: none but where a link is up
abbrev pub given_at : HostState → ℕ → Table
given_at host n = ids_of (λ (link : Link). link.given) (up_on n host.links)

abbrev pub created_at : HostState → ℕ → Table
created_at host n = ids_of (λ (link : Link). link.created) (up_on n host.links)

-- Frames of connections alone wait for a link, and while it is up none does. While it isn't, what waits gives just the ids that are
-- given, and none is created.
pub record LinkHolds (link : Link) : Type 0 where
  pub payloads : AreData link.waits
  pub up : is_up link.state ≡ true → link.waits ≡ []
  pub gives : is_up link.state ≡ false → frames_on (map (λ wait. wait.0) link.waits) [] ≡ Some (table_of link.given)
  pub created : is_up link.state ≡ false → link.created ≡ []

-- so it is of each link of the host
abbrev pub HostHolds : HostState → Type 0
HostHolds host = (end : ℕ) (peer : Address) → LinkHolds (link_with host end peer)

-- ---- an end

-- what a host has given at its end, where that hasn't ended
abbrev pub final_in : Option Socket → Table → Option Table
final_in None table = None
final_in (Some socket) table = cond (is_ended socket.stage) None (Some table)

abbrev pub final_at : HostState → ℕ → Option Table
final_at host n = final_in (find (is_socket n) host.sockets) (given_at host n)

abbrev pub final_there : Option (Cell × ℕ) → ℕ → Option Table
final_there None n = None
final_there (Some cell) n = final_at cell.0.host n

abbrev pub start_there : Option (Cell × ℕ) → ℕ → Table
start_there None n = []
start_there (Some cell) n = created_at cell.0.host n

-- of an end of this cell and number; one that hasn't come has given none, and none is created there
abbrev pub final_for : List (Cell × ℕ) → Option ℕ → Option ℕ → Option Table
final_for cells None number = None
final_for cells (Some place) None = Some []
final_for cells (Some place) (Some n) = final_there (slice_get cells place) n

abbrev pub start_for : List (Cell × ℕ) → Option ℕ → Option ℕ → Table
start_for cells None number = []
start_for cells (Some place) None = []
start_for cells (Some place) (Some n) = start_there (slice_get cells place) n

abbrev pub final_of : World → WorldSocket → End → Option Table
final_of world socket e = final_for world.cells (end_of e socket).cell (end_of e socket).number

abbrev pub start_of : World → WorldSocket → End → Table
start_of world socket e = start_for world.cells (end_of e socket).cell (end_of e socket).number

-- ---- what is unread

-- the frames among items
abbrev pub frames_in : List Item → List Frame
frames_in [] = []
frames_in (items.Frame frame ∷ rest) = frame ∷ frames_in rest
frames_in (item ∷ rest) = frames_in rest

-- the frames lead to these ids; or just somewhere, where their writer has ended
abbrev pub Leads : Option Table → Option Table → Type 0
Leads (Some final) after = after ≡ Some final
Leads None after = is_some after ≡ true

-- where what is unread is whole items, their frames lead from the ids that are created to those that were given
abbrev pub FitsIn : Reader → List ℕ → Table → Option Table → Type 0
FitsIn reader unread start final = (all : List Item) → reader.1 ++ unread ≡ spellings all → MayFollow reader.0 all → Leads final (frames_on (frames_in all) start)

-- so it is where something reads there, unless it is over
abbrev pub FitAt : Option Reader → Bool → List ℕ → Table → Option Table → Type 0
FitAt None over unread start final = Unit {0}
FitAt (Some reader) true unread start final = Unit {0}
FitAt (Some reader) false unread start final = FitsIn reader unread start final

-- the opener is a host's, and what it may ask under the socket's name may be read
pub record MayAskWell (journal : List Line) (world : World) (socket : WorldSocket) : Type 0 where
  pub place : ℕ
  pub cell : socket.o.cell ≡ Some place
  pub may : MayBeAsked (own_of journal place) world.names socket.name

abbrev pub EndFits : List Line → World → WorldSocket → End → Type 0
EndFits journal world socket e = FitAt (reader_of world socket e) (is_over (end_of e socket)) (end_of e socket).unread (start_of world socket e) (final_of world socket (other e))

-- Each host holds so, and each end of such a socket fits.
pub record Fit (journal : List Line) (log : List Entry) (world : World) : Type 0 where
  pub hosts : (place : ℕ) (cell : Cell × ℕ) → slice_get world.cells place ≡ Some cell → HostHolds cell.0.host
  pub ends : (s : SockName) (socket : WorldSocket) (e : End) → find (is_socket_named s) world.sockets ≡ Some socket → MayAskWell journal world socket → EndFits journal world socket e

-- ---- a log

-- all that each end writes in this log is fit, one frame after another
abbrev pub AllWriteFit : List Entry → Type 0
AllWriteFit log = (s : SockName) (e : End) → is_some (frames_on (frames_of log s e) []) ≡ true
