-- Items that ends wrote: their frames, payloads and connections, read from bytes.
use Rattle.std.specs.Prelude.{ℕ, Bool, false, not, ◌&&◌, List, length, drop, filter_map, find, Option, Some, None, ◌==◌, if◌then◌else◌}
use Rattle.std.specs.Option.{option_map}
use Rattle.std.specs.List.{list_any}
use Rattle.std.specs.Str.{bytes_eq}
use Rattle.ch_base.specs.declared.address.Address.{Address}
use Rattle.ch_ident.specs.Spelling as spelling
use Rattle.ch_ident.specs.declared.identifier.Identifier.TheVariants as identifiers
use Rattle.ch_ident.specs.declared.node_message.NodeMessage.TheVariants as messages
use Rattle.ch_wire.specs.declared.frame.Frame.{Frame}
use Rattle.ch_wire.specs.declared.frame.Frame.TheVariants as frames
use Rattle.ch_reader.specs.Reading.{reading}
use Rattle.ch_reader.specs.declared.item.Expected.{Expected}
use Rattle.ch_reader.specs.declared.item.Expected.TheVariants as expected
use Rattle.ch_reader.specs.declared.item.Front.{Front}
use Rattle.ch_reader.specs.declared.item.Front.TheVariants as fronts
use Rattle.ch_reader.specs.declared.item.Item.{Item}
use Rattle.ch_reader.specs.declared.item.Item.TheVariants as items
use Rattle.ch_model.specs.declared.name.SockName.{SockName}
use Rattle.ch_model.specs.declared.name.End.{End}
use Rattle.ch_model.specs.declared.name.End.TheVariants.{O, T}
use Rattle.ch_model.specs.declared.entry.Entry.{Entry}
use Rattle.ch_model.specs.declared.line.Line.{Line}
use Rattle.ch_model.specs.Logs.{some_and}
use Rattle.ch_model.specs.Declarations.{address_of}
use Rattle.ch_model.specs.Sockets.{writings}

-- the item that stands at the front, where it takes all of so many bytes
abbrev pub item_of_front : Front × ℕ → ℕ → Option Item
item_of_front (fronts.Whole item, n) size = if n == size then Some item else None
item_of_front (front, n) size = None

-- the item that these bytes spell, where this is expected
abbrev pub item_of : Expected → List ℕ → Option Item
item_of e bytes = item_of_front (reading e bytes) (length bytes)

-- the frame that these bytes spell
abbrev pub frame_of : List ℕ → Option Frame
frame_of bytes = elim (item_of expected.Frame bytes) [
  | None ↦ None
  | Some item ↦ elim item [ items.Frame frame ↦ Some frame | _ ↦ None ]
]

-- what an end writes first
abbrev pub expected_first : End → Expected
expected_first O = expected.Request
expected_first T = expected.Answer

-- what an end writes next: first a request or an answer, then frames
abbrev pub expected_next : List Entry → SockName → End → Expected
expected_next log sock end = if length (writings log sock end) == 0 then expected_first end else expected.Frame

-- the frames that this end wrote, in order: all but its first item
abbrev pub frames_of : List Entry → SockName → End → List Frame
frames_of log sock end = filter_map frame_of (drop 1 (writings log sock end))

-- a payload and the id that it goes under
abbrev pub data_of : Frame → Option (ℕ × List ℕ)
data_of (frames.Data id payload) = Some (id, payload)
data_of frame = None

-- the id of a connection that is created
abbrev pub created_by : Frame → Option ℕ
created_by (frames.Created id) = Some id
created_by frame = None

-- the frame creates this connection
abbrev pub creates : ℕ → Frame → Bool
creates id (frames.Created other) = other == id
creates id frame = false

-- the frame closes this connection
abbrev pub closes_id : ℕ → Frame → Bool
closes_id id (frames.Closed other) = other == id
closes_id id frame = false

-- the connection was created on this end, and isn't closed
abbrev pub is_open_id : List Entry → SockName → End → ℕ → Bool
is_open_id log sock end id = list_any (creates id) (frames_of log sock end) && not (list_any (closes_id id) (frames_of log sock end))

-- the first payload under this id
abbrev pub first_payload : ℕ → List (ℕ × List ℕ) → Option (List ℕ)
first_payload id datas = option_map (λ (d : ℕ × List ℕ). d.1) (find (λ (d : ℕ × List ℕ). d.0 == id) datas)

-- the opening message of the connection from node to node
abbrev pub node_opening : List Line → List ℕ → List ℕ → Option (List ℕ)
node_opening journal x y = elim (address_of journal x) [
  | None ↦ None
  | Some from ↦ option_map (λ (to : Address). spelling.message (messages.Opening (identifiers.Node from) (identifiers.Node to))) (address_of journal y)
]

-- the payload is the opening message of the connection from x to y
abbrev pub opens_nodes : List Line → List ℕ → List ℕ → List ℕ → Bool
opens_nodes journal x y payload = some_and (bytes_eq payload) (node_opening journal x y)

-- the payloads under connections from node to node, openings included, among these of x towards y
abbrev pub node_payload : List Line → List ℕ → List ℕ → List (ℕ × List ℕ) → ℕ × List ℕ → Option (List ℕ)
node_payload journal x y datas d = if some_and (opens_nodes journal x y) (first_payload d.0 datas) then Some d.1 else None
