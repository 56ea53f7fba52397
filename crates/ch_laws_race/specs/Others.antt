-- What is done at sockets and links of others.
use Rattle.std.specs.Prelude.{◌≡◌, ℕ, Bool, true, false, List, [], ◌∷◌, find, nat_eq, slice_get, Option, Some, None, Ok}
use Rattle.std.specs.List.{list_any}
use Rattle.ch_link.specs.Sockets.{names}
use Rattle.ch_link.specs.declared.LinkState.TheVariants.{Idle, Up}
use Rattle.ch_model.specs.declared.name.End.{End}
use Rattle.ch_model.specs.declared.name.SockName.{SockName}
use Rattle.ch_model.specs.declared.step.Step.{Step}
use Rattle.ch_model.specs.declared.step.Step.TheVariants as steps
use Rattle.ch_base.specs.declared.address.Address.{Address}
use Rattle.ch_wire.specs.declared.request.Request.{Request}
use Rattle.ch_reader.specs.declared.item.Item.TheVariants as items
use Rattle.ch_reader.specs.declared.item.Front.TheVariants.{Whole}
use Rattle.ch_model.specs.Host.{front_of}
use Rattle.ch_model.specs.HostState.{Link, Socket, HostState}
use Rattle.ch_model.specs.HostSteps.{Stepped, own_address, is_socket, is_link, link_with}
use Rattle.ch_model.specs.HostLinks.{next_dial}
use Rattle.ch_model.specs.Naming.{called}
use Rattle.ch_model.specs.Same.{is_between}
use Rattle.ch_model.specs.WorldState.{Cell, WorldSocket, World}
use Rattle.ch_model.specs.WorldSockets.{end_of, is_end_of, is_socket_named, find_end, next_name}
use Rattle.ch_model.specs.WorldSteps.{stepped}
use Rattle.ch_model.specs.WorldHappenings.{with_cell}
use Rattle.ch_race.specs.Pair.{Side, Lesser, Greater, other}
use Rattle.ch_laws_race.specs.Scene.{Party, Scene, hosts_of, link_of, done_by}
use Rattle.ch_model.specs.declared.entry.Verdict.{Verdict}
use Rattle.ch_model.specs.declared.local.LocalEntry.{LocalEntry}
use Rattle.ch_model.specs.declared.local.LocalEvent.{LocalEvent}
use Rattle.ch_model.specs.Cell.{cell_step}
use Rattle.ch_laws_race.specs.Chains.{steps_told}
use Rattle.ch_laws_race.specs.View.{has_end, is_shut, view}

-- ---- sockets

-- a socket isn't between these two
abbrev pub IsOthers : (Side → Party) → SockName → Type 0
IsOthers party name = is_between (party Lesser).name (party Greater).name name ≡ false

-- what a cell has under a number, if anything, isn't between these two
abbrev pub IsElsewhere : (Side → Party) → Option (SockName × End) → Type 0
IsElsewhere party None = Unit {0}
IsElsewhere party (Some at) = IsOthers party at.0

-- a socket that is dialed isn't between these two, and its name is new
abbrev pub IsNew : (Side → Party) → SockName → List WorldSocket → Type 0
IsNew party name sockets = IsOthers party name × (find (is_socket_named name) sockets ≡ None)

-- a step of a cell's host is at a socket of others, or at none
abbrev pub StepsElsewhere : (Side → Party) → ℕ → Cell → Step → World → Type 0
StepsElsewhere party place cell (steps.Dial sock end peer) world = IsNew party (next_name world (called world.names (own_address cell.host end)) (called world.names peer)) world.sockets
StepsElsewhere party place cell (steps.Read sock) world = IsElsewhere party (find_end place sock world.sockets)
StepsElsewhere party place cell (steps.Write sock bytes said) world = IsElsewhere party (find_end place sock world.sockets)
StepsElsewhere party place cell (steps.Up sock) world = Unit {0}
StepsElsewhere party place cell (steps.Down sock) world = IsElsewhere party (find_end place sock world.sockets)
StepsElsewhere party place cell (steps.Left sock) world = IsElsewhere party (find_end place sock world.sockets)
StepsElsewhere party place cell (steps.Broke end peer why) world = Unit {0}
StepsElsewhere party place cell (steps.Post end event) world = Unit {0}

-- each step, in the world that those before it leave
abbrev pub AreElsewhere : (Side → Party) → ℕ → Cell → List Step → World → Type 0
AreElsewhere party place cell [] world = Unit {0}
AreElsewhere party place cell (step ∷ rest) world = StepsElsewhere party place cell step world × AreElsewhere party place cell rest (stepped place cell step world).1

-- ---- hosts

-- The host at a place keeps what these two have of it: their links' states, whether their endpoints are open, and the records of
-- ends between them.
pub record KeepsPair (scene : Scene) (place : ℕ) (now : HostState) : Type 0 where
  pub link : (z : Side) → (scene.party z).place ≡ place → (link_with now (scene.party z).address.id (scene.party (other z)).address).state ≡ (link_with (hosts_of scene.world place) (scene.party z).address.id (scene.party (other z)).address).state
  pub ends : (z : Side) → (scene.party z).place ≡ place → is_shut (scene.party z).address.id now ≡ is_shut (scene.party z).address.id (hosts_of scene.world place)
  pub records : (j : ℕ) (u : WorldSocket) → slice_get scene.world.sockets j ≡ Some u → is_between (scene.party Lesser).name (scene.party Greater).name u.name ≡ true
      → (e : End) (m : ℕ) → is_end_of place m (end_of e u) ≡ true → find (is_socket m) now.sockets ≡ find (is_socket m) (hosts_of scene.world place).sockets

-- what a link of the two names is there
abbrev pub AreKnown : Scene → Type 0
AreKnown scene = (z : Side) (m : ℕ) → names (link_of scene z).state m ≡ true → list_any (has_end (scene.party z).place m) scene.world.sockets ≡ true

-- What a host does, of one of the two or of none, is at sockets of others, and it keeps what these two have of it.
pub record DoneElsewhere (scene : Scene) (place : ℕ) (cell : Cell × ℕ) (done : Stepped) : Type 0 where
  pub there : slice_get scene.world.cells place ≡ Some cell
  pub known : AreKnown scene
  pub steps : List Step
  pub host : HostState
  pub does : done ≡ Ok (steps, host)
  pub elsewhere : AreElsewhere scene.party place (record (cell.0) { host = host }) steps (with_cell place (record (cell.0) { host = host }, cell.1) scene.world)
  pub keeps : KeepsPair scene place host

-- What a host does, and what is seen of the two is as it was.
pub record IsUnseen (scene : Scene) (place : ℕ) (cell : Cell × ℕ) (done : Stepped) : Type 0 where
  pub steps : List Step
  pub host : HostState
  pub does : done ≡ Ok (steps, host)
  pub same : view (record scene { world = done_by place cell steps host scene.world }) ≡ view scene

-- ---- links

-- The host at a place has a link that isn't the one of these two. If it is up, then on a socket of others; and if it is idle, the next
-- number is no end's, and the next socket of the two of the link has a new name.
pub record IsOtherLink (scene : Scene) (place : ℕ) (cell : Cell × ℕ) (link : Link) : Type 0 where
  pub there : slice_get scene.world.cells place ≡ Some cell
  pub known : AreKnown scene
  pub key : (z : Side) → (scene.party z).place ≡ place → is_link (scene.party z).address.id (scene.party (other z)).address link ≡ false
  pub up : (n : ℕ) (probed : Bool) → link.state ≡ Up n probed → IsElsewhere scene.party (find_end place n scene.world.sockets)
  pub new_number : link.state ≡ Idle → list_any (has_end place (next_dial (hosts_of scene.world place))) scene.world.sockets ≡ false
  pub new_name : link.state ≡ Idle → IsNew scene.party (next_name scene.world (called scene.world.names (own_address (hosts_of scene.world place) link.end)) (called scene.world.names link.peer)) scene.world.sockets

-- ---- items

-- what a cell has under a number is no end of a socket between the two
abbrev pub IsFree : Scene → ℕ → ℕ → Type 0
IsFree scene place m = (j : ℕ) (u : WorldSocket) → slice_get scene.world.sockets j ≡ Some u → is_between (scene.party Lesser).name (scene.party Greater).name u.name ≡ true → (e : End) → is_end_of place m (end_of e u) ≡ false

-- a link that a host has isn't the one of these two, and is on no socket between them
pub record IsAway (scene : Scene) (place : ℕ) (link : Link) : Type 0 where
  pub key : (z : Side) → (scene.party z).place ≡ place → is_link (scene.party z).address.id (scene.party (other z)).address link ≡ false
  pub named : (m : ℕ) → names link.state m ≡ true → IsFree scene place m

-- The host at a place reads on a socket that isn't between these two, which is for another link than theirs, or asks one.
pub record ReadsElsewhere (scene : Scene) (place : ℕ) (cell : Cell × ℕ) (socket : Socket) : Type 0 where
  pub there : slice_get scene.world.cells place ≡ Some cell
  pub known : AreKnown scene
  pub free : IsFree scene place socket.number
  pub user : (end : ℕ) (peer : Address) → socket.user ≡ Some (end, peer) → IsAway scene place (link_with (hosts_of scene.world place) end peer)
  pub request : (r : Request) → (front_of socket).0 ≡ Whole (items.Request r) → IsAway scene place (link_with (hosts_of scene.world place) r.target r.from)

-- ---- a third host

-- the names of sockets that are dialed are new, and not between these two, each in the world that the steps before leave
abbrev pub DialsNew : (Side → Party) → ℕ → Cell → Step → World → Type 0
DialsNew party place cell (steps.Dial sock end peer) world = IsNew party (next_name world (called world.names (own_address cell.host end)) (called world.names peer)) world.sockets
DialsNew party place cell step world = Unit {0}

abbrev pub AreNew : (Side → Party) → ℕ → Cell → List Step → World → Type 0
AreNew party place cell [] world = Unit {0}
AreNew party place cell (step ∷ rest) world = DialsNew party place cell step world × AreNew party place cell rest (stepped place cell step world).1

-- A cell hears an event, of a host that none of the two is at, and that has no end of a socket between them; and what it dials has
-- new names.
pub record HearsThird (scene : Scene) (place : ℕ) (cell : Cell × ℕ) (event : LocalEvent) : Type 0 where
  pub there : slice_get scene.world.cells place ≡ Some cell
  pub known : AreKnown scene
  pub away : (z : Side) → nat_eq (scene.party z).place place ≡ false
  pub free : (j : ℕ) (u : WorldSocket) → slice_get scene.world.sockets j ≡ Some u → is_between (scene.party Lesser).name (scene.party Greater).name u.name ≡ true
      → (e : End) (m : ℕ) → is_end_of place m (end_of e u) ≡ false
  pub verdict : Verdict
  pub told : List LocalEntry
  pub after : Cell
  pub does : cell_step cell.0 event ≡ Ok ((verdict, told), after)
  pub dials : AreNew scene.party place after (steps_told told) (with_cell place (after, cell.1) scene.world)
