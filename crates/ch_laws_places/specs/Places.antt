-- The place of a message stands by the frame that carries it: in what is unread at each end of a socket, and in what waits for a link.
use Rattle.std.specs.Prelude.{◌≡◌, ℕ, Bool, true, false, List, [], ◌∷◌, ◌++◌, find, slice_get, Option, Some, None}
use Rattle.ch_wire.specs.declared.frame.Frame.{Frame}
use Rattle.ch_wire.specs.declared.frame.Frame.TheVariants as frames
use Rattle.ch_reader.specs.Items.{spellings, MayFollow}
use Rattle.ch_reader.specs.Reading.{reading}
use Rattle.ch_reader.specs.declared.item.Front.TheVariants.{Whole}
use Rattle.ch_reader.specs.declared.item.Item.{Item}
use Rattle.ch_reader.specs.declared.item.Item.TheVariants as items
use Rattle.ch_model.specs.declared.entry.Entry.{Entry}
use Rattle.ch_model.specs.declared.line.Line.{Line}
use Rattle.ch_model.specs.declared.name.End.{End}
use Rattle.ch_model.specs.declared.name.SockName.{SockName}
use Rattle.ch_model.specs.declared.step.Place.{Place}
use Rattle.ch_model.specs.declared.step.Weight.{Weight}
use Rattle.ch_model.specs.HostState.{Link, Socket, HostState}
use Rattle.ch_model.specs.HostSteps.{is_socket}
use Rattle.ch_model.specs.HostWrites.{said_of}
use Rattle.ch_model.specs.Stages.{is_ended}
use Rattle.ch_model.specs.WorldSockets.{end_of, is_socket_named}
use Rattle.ch_model.specs.WorldState.{Cell, WorldSocket, World}
use Rattle.ch_laws_bytes.specs.Streams.{Reader, reader_of, is_over}
use Rattle.ch_laws_calls.specs.Calls.{IsHeldBy}
use Rattle.ch_laws_calls.specs.FitsFit.{MayAskWell}

-- ---- items

-- a frame that carries a payload
abbrev pub IsData : Item → Type 0
IsData (items.Frame (frames.Data id payload)) = Unit {0}
IsData item = ⊥

-- the place of a message stands by such a frame alone
abbrev pub StandsBy : Item → Option Place → Type 0
StandsBy item None = Unit {0}
StandsBy item (Some place) = IsData item

-- there are as many places as items, and each stands by its item
abbrev pub AllStand : List Item → List (Option Place) → Type 0
AllStand [] [] = Unit {0}
AllStand (item ∷ items) (place ∷ places) = StandsBy item place × AllStand items places
AllStand items places = ⊥

-- ---- an end

-- what the reader has and what is unread are items that may follow each other, each with the place that stands by it
pub record Carried (reader : Reader) (unread : List ℕ) (places : List (Option Place)) : Type 0 where
  pub all : List Item
  pub whole : reader.1 ++ unread ≡ spellings all
  pub each : MayFollow reader.0 all
  pub stand : AllStand all places

-- so it is where something reads there, unless it is over
abbrev pub CarriedAt : Option Reader → Bool → List ℕ → List (Option Place) → Type 0
CarriedAt None over unread places = Unit {0}
CarriedAt (Some reader) true unread places = Unit {0}
CarriedAt (Some reader) false unread places = Carried reader unread places

abbrev pub EndPlaced : World → WorldSocket → End → Type 0
EndPlaced world socket e = CarriedAt (reader_of world socket e) (is_over (end_of e socket)) (end_of e socket).unread (end_of e socket).places

-- ---- a host

-- of what waits for a link, a frame of data alone has the place of a message
abbrev pub WaitsPlaced : List (Frame × Weight) → Type 0
WaitsPlaced [] = Unit {0}
WaitsPlaced (wait ∷ rest) = StandsBy (items.Frame wait.0) (said_of wait.1) × WaitsPlaced rest

-- so it is of each link
abbrev pub LinksPlaced : List Link → Type 0
LinksPlaced [] = Unit {0}
LinksPlaced (link ∷ rest) = WaitsPlaced link.waits × LinksPlaced rest

abbrev pub HostPlaced : HostState → Type 0
HostPlaced host = LinksPlaced host.links

-- ---- a world

-- So it is of each host, and at each end of each socket of which what the opener asks may be read.
pub record Placed (journal : List Line) (log : List Entry) (world : World) : Type 0 where
  pub hosts : (place : ℕ) (cell : Cell × ℕ) → slice_get world.cells place ≡ Some cell → HostPlaced cell.0.host
  pub ends : (s : SockName) (socket : WorldSocket) (e : End) → find (is_socket_named s) world.sockets ≡ Some socket → MayAskWell journal world socket → EndPlaced world socket e

-- ---- an item that is read

-- the place that is taken is the first at the end, and stands by the item that is read there
pub record TakesPlace (item : Item) (places : List (Option Place)) (last : Option Place) : Type 0 where
  pub rest : List (Option Place)
  pub first : places ≡ last ∷ rest
  pub stands : StandsBy item last

-- This item stands whole at the front of the bytes of the host's socket of this number, which hasn't ended.
pub record StandsNext (host : HostState) (n : ℕ) (item : Item) : Type 0 where
  pub known : Socket
  pub found : find (is_socket n) host.sockets ≡ Some known
  pub live : is_ended known.stage ≡ false
  pub front : (reading known.expected known.since).0 ≡ Whole item

-- It is next at an end of a socket of the world: at the end of the cell at a place, under this number, that isn't over.
pub record IsNext (journal : List Line) (world : World) (place n : ℕ) (socket : WorldSocket) (e : End) (item : Item) : Type 0 where
  pub cell : Cell × ℕ
  pub at : slice_get world.cells place ≡ Some cell
  pub next : StandsNext cell.0.host n item
  pub is : find (is_socket_named socket.name) world.sockets ≡ Some socket
  pub held : IsHeldBy place n (end_of e socket)
  pub goes : is_over (end_of e socket) ≡ false
  pub may : MayAskWell journal world socket
