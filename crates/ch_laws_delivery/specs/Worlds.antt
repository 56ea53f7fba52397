-- Two nodes in a world: which scene they are, with the way between as the bytes of sockets; and a line by which a process of
-- the one sends to the other.
use Rattle.std.specs.Prelude.{◌≡◌, ℕ, Bool, true, false, ◌||◌, List, [], ◌∷◌, ◌++◌, map, find, slice_get, Option, Some, None, Ok}
use Rattle.std.specs.List.{flat_map}
use Rattle.ch_ident.specs.declared.message.Message.{Message}
use Rattle.ch_link.specs.declared.LinkState.TheVariants.{Up}
use Rattle.ch_wire.specs.Spelling.{answer_spelling, frame_spelling}
use Rattle.ch_wire.specs.declared.answer.Answer.TheVariants.{Accepted}
use Rattle.ch_wire.specs.declared.frame.Frame.{Frame}
use Rattle.ch_model.specs.declared.entry.Entry.{Entry}
use Rattle.ch_model.specs.declared.entry.Verdict.TheVariants as verdicts
use Rattle.ch_model.specs.declared.line.What.TheVariants as lines
use Rattle.ch_model.specs.declared.name.End.{End}
use Rattle.ch_model.specs.declared.name.ProcName.{ProcName}
use Rattle.ch_model.specs.declared.name.SockName.{SockName}
use Rattle.ch_model.specs.declared.name.TargetName.{TargetName}
use Rattle.ch_model.specs.declared.step.Place.{Place}
use Rattle.ch_model.specs.declared.step.Weight.{Weight}
use Rattle.ch_model.specs.Stages.{is_ended}
use Rattle.ch_model.specs.HostState.{HostState}
use Rattle.ch_model.specs.HostSteps.{is_socket}
use Rattle.ch_model.specs.HostWrites.{said_of}
use Rattle.ch_model.specs.NodeState.{Pair}
use Rattle.ch_model.specs.Naming.{address_as, target_as}
use Rattle.ch_model.specs.WorldState.{Cell, WorldEnd, WorldSocket, World}
use Rattle.ch_model.specs.WorldSockets.{end_of, other, is_socket_named, find_end, cell_of, next_name}
use Rattle.ch_model.specs.WorldSteps.{all_told}
use Rattle.ch_model.specs.WorldHappenings.{with_cell}
use Rattle.ch_model.specs.WorldLines.{line_done}
use Rattle.ch_delivery.specs.Passage.{Item}
use Rattle.ch_delivery.specs.Moves.{Say, after}
use Rattle.ch_laws_delivery.specs.Scene.{Name, Use, Party, Scene, link_of}
use Rattle.ch_laws_delivery.specs.Sending.{pair_at, items_of}
use Rattle.ch_laws_delivery.specs.Sends.{said_in}
use Rattle.ch_laws_delivery.specs.FirstSends.{AreGiven, first_in}
use Rattle.ch_laws_delivery.specs.Cells.{IsAt, sent_entries}
use Rattle.ch_laws_delivery.specs.View.{view}

-- ---- the nodes

-- The cell of the party stands at this place of the world, and has accepted so many sockets.
pub record Stands (world : World) (place : ℕ) (party : Party) : Type 0 where
  pub cell : Cell
  pub came : ℕ
  pub there : slice_get world.cells place ≡ Some (cell, came)
  pub at : IsAt party cell

-- ---- the way

-- A socket of the way: its name, which end of it is the receiving node's, and what the ids are for that the sending node gave
-- on it.
pub record Leg : Type 0 where
  pub socket : SockName
  pub toward : End
  pub uses : List (Option Use)

-- what a host was handed of a socket and hasn't read, where it has a number for it
abbrev pub since_of : Option ℕ → HostState → List ℕ
since_of None host = []
since_of (Some number) host = elim (find (is_socket number) host.sockets) [
  | None ↦ []
  | Some socket ↦ socket.since
]

-- what may stand before the frames on a socket: the answer that accepts the request, which carries no message
abbrev pub answer_bytes : Bool → List ℕ
answer_bytes true = answer_spelling Accepted
answer_bytes false = []

abbrev pub answer_places : Bool → List (Option Place)
answer_places true = None ∷ []
answer_places false = []

-- What comes to an end of a host: it is over or cut, and nothing comes any more; or what was handed to the host and what is
-- unread, together, are frames, perhaps behind an answer, with the places of their messages, on ids that were given.
pub record Comes (host : HostState) (uses : List (Option Use)) (end : WorldEnd) (word : List Item) (cut : Bool) : Type 0 where
  pub over : (is_ended end.stage || end.is_cut) ≡ cut
  pub gone : cut ≡ true → word ≡ []
  pub answer : Bool
  pub written : List (Frame × Weight)
  pub given : AreGiven uses written
  pub bytes : cut ≡ false → since_of end.number host ++ end.unread ≡ answer_bytes answer ++ flat_map (λ item. frame_spelling item.0) written
  pub places : cut ≡ false → end.places ≡ answer_places answer ++ map (λ item. said_of item.1) written
  pub items : cut ≡ false → word ≡ items_of uses written

-- the items of a leg are what comes to the receiving node's end of its socket
pub record Carries (world : World) (host : HostState) (leg : Leg) (word : List Item) (cut : Bool) : Type 0 where
  pub socket : WorldSocket
  pub found : find (is_socket_named leg.socket) world.sockets ≡ Some socket
  pub comes : Comes host leg.uses (end_of leg.toward socket) word cut

-- where a number has no socket yet, nothing is on the way there
abbrev pub OnLeg : World → HostState → Option Leg → List Item → Bool → Type 0
OnLeg world host None word cut = word ≡ []
OnLeg world host (Some leg) word cut = Carries world host leg word cut

-- the leg's socket is the one that the sending node's host has under a number, and its ids are those given there
abbrev pub IsOn : World → ℕ → ℕ → Option Leg → List (Option Use) → Type 0
IsOn world place sock None given = ⊥
IsOn world place sock (Some leg) given = (find_end place sock world.sockets ≡ Some (leg.socket, other leg.toward)) × (leg.uses ≡ given)

-- the ids that were created on a leg are the first of those that were given on it
pub record Created (leg : Leg) (created : List (Option Use)) : Type 0 where
  pub later : List (Option Use)
  pub first : leg.uses ≡ created ++ later

-- the leg's socket is the one that the receiving node's host has under a number
abbrev pub IsReadAt : World → ℕ → ℕ → Option Leg → List (Option Use) → Type 0
IsReadAt world place sock None created = ⊥
IsReadAt world place sock (Some leg) created = (find_end place sock world.sockets ≡ Some (leg.socket, leg.toward)) × Created leg created

-- The way is the legs by their numbers; the sending node is up on the last that it came up on, and so is the receiving node.
pub record IsWay (world : World) (from to : ℕ) (legs : ℕ → Option Leg) (scene : Scene) : Type 0 where
  pub carries : (i : ℕ) → OnLeg world scene.to.host (legs i) (scene.way.flight i) (scene.way.cut i)
  pub on : (sock : ℕ) (probed : Bool) → (link_of scene.from).state ≡ Up sock probed → IsOn world from sock (legs scene.way.on) scene.given
  pub at : (sock : ℕ) (probed : Bool) → (link_of scene.to).state ≡ Up sock probed → IsReadAt world to sock (legs scene.way.at) scene.created

-- The scene is that of two nodes in this world, whose cells stand at different places.
pub record IsSceneOf (world : World) (from to : ℕ) (legs : ℕ → Option Leg) (scene : Scene) : Type 0 where
  pub sender : Stands world from scene.from
  pub receiver : Stands world to scene.to
  pub apart : from ≡ to → ⊥
  pub way : IsWay world from to legs scene

-- no socket has the name that the next one gets
abbrev pub NamesAreNew : World → Type 0
NamesAreNew world = (opener target : List ℕ) → find (is_socket_named (next_name world opener target)) world.sockets ≡ None

-- ---- a line

-- The line is of the party's process and a target of this name.
pub record IsLineOf (world : World) (place : ℕ) (party : Party) (name : Name) (by : ProcName) (to : TargetName) : Type 0 where
  pub home : cell_of world (address_as world.names by.node) ≡ Some place
  pub end : (address_as world.names by.node).id ≡ party.end
  pub process : by.counter ≡ name.by
  pub target : target_as world.names to ≡ name.to

-- what follows in the world, where the cell of the sending node is this after it
abbrev pub told_in : World → ℕ → Cell → ℕ → Party → Pair → Message → List Entry × World
told_in world place cell came party pair said = all_told place cell (sent_entries party pair said) (with_cell place (cell, came) world)

-- The line is answered `ok`; the world after it has the scene after it, with the same legs; and what is seen then is the
-- passage after the move.
pub record IsSentIn (names : List Name) (world : World) (from to : ℕ) (legs : ℕ → Option Leg) (scene : Scene) (c : ℕ) (name : Name) (said : Message) (by : ProcName) (target : TargetName) : Type 0 where
  pub host : HostState
  pub cell : Cell
  pub came : ℕ
  pub answered : line_done (lines.Send by target said.mark said.body) world
      ≡ Ok ((verdicts.Ok, (told_in world from cell came scene.from (pair_at scene.from.node name) said).0), (told_in world from cell came scene.from (pair_at scene.from.node name) said).1)
  pub now : IsSceneOf (told_in world from cell came scene.from (pair_at scene.from.node name) said).1 from to legs (said_in scene c (pair_at scene.from.node name) host)
  pub seen : view names (said_in scene c (pair_at scene.from.node name) host) ≡ after (Say c) (view names scene)

-- the same of the first message of an epoch
pub record IsSentFirstIn (names : List Name) (world : World) (from to : ℕ) (legs : ℕ → Option Leg) (scene : Scene) (c : ℕ) (name : Name) (conn : ℕ) (said : Message) (by : ProcName) (target : TargetName) : Type 0 where
  pub host : HostState
  pub cell : Cell
  pub came : ℕ
  pub answered : line_done (lines.Send by target said.mark said.body) world
      ≡ Ok ((verdicts.Ok, (told_in world from cell came scene.from (pair_at scene.from.node name) said).0), (told_in world from cell came scene.from (pair_at scene.from.node name) said).1)
  pub now : IsSceneOf (told_in world from cell came scene.from (pair_at scene.from.node name) said).1 from to legs (first_in scene c (pair_at scene.from.node name) conn host)
  pub seen : view names (first_in scene c (pair_at scene.from.node name) conn host) ≡ after (Say c) (view names scene)
