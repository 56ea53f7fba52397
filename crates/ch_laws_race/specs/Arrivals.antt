-- A socket that is joined by its opener, one that has come to its target, and bytes that are fed.
use Rattle.std.specs.Prelude.{◌≡◌, ℕ, ◌+◌, ◌*◌, true, false, List, take, drop, find, slice_get, Some, None, Ok}
use Rattle.std.specs.List.{list_any}
use Rattle.ch_wire.specs.declared.request.Request.{Request}
use Rattle.ch_reader.specs.declared.item.Expected.TheVariants as expected
use Rattle.ch_reader.specs.declared.item.Item.TheVariants as items
use Rattle.ch_link.specs.Sockets.{names}
use Rattle.ch_model.specs.declared.name.End.{End}
use Rattle.ch_model.specs.declared.name.End.TheVariants.{O, T}
use Rattle.ch_model.specs.declared.step.Step.{Step}
use Rattle.ch_model.specs.declared.step.SocketEvent.TheVariants as events
use Rattle.ch_model.specs.Same.{is_between}
use Rattle.ch_model.specs.Stages.{Pending, Open}
use Rattle.ch_model.specs.HostState.{Socket, HostState}
use Rattle.ch_model.specs.HostSteps.{Stepped, is_socket}
use Rattle.ch_model.specs.Host.{host_on}
use Rattle.ch_model.specs.WorldState.{Cell, WorldSocket, World}
use Rattle.ch_model.specs.WorldSockets.{end_of, opened, with_end_of}
use Rattle.ch_model.specs.WorldHappenings.{with_cell}
use Rattle.ch_race.specs.Pair.{Side, Lesser, Greater, other}
use Rattle.ch_race.specs.Moves.{Move, AllAllowed, run}
use Rattle.ch_laws_race.specs.Scene.{Scene, hosts_of, host_of, link_of, done_by}
use Rattle.ch_laws_race.specs.View.{opener_of, has_end, view}
use Rattle.ch_laws_race.specs.Sound.{Acts, HasEnd, TakesItem, first_of}
use Rattle.ch_laws_race.specs.Reading.{IsUser}

-- The world's part comes first, and then x's host steps; what is seen then is the pair after these moves, each of which may happen.
pub record IsSeenFrom (scene : Scene) (x : Side) (cell : Cell × ℕ) (between : World) (done : Stepped) (moves : List Move) : Type 0 where
  pub steps : List Step
  pub host : HostState
  pub does : done ≡ Ok (steps, host)
  pub allowed : AllAllowed moves (view scene)
  pub seen : view (record scene { world = done_by (scene.party x).place cell steps host between }) ≡ run moves (view scene)

-- ---- joined

-- the request of x to the other node
abbrev pub request_from : Scene → Side → Request
request_from scene x = record { target = (scene.party (other x)).address.id; from = (scene.party x).address }

-- x dialed the socket, and its request may be written there.
pub record Joins (scene : Scene) (x : Side) (cell : Cell × ℕ) (i : ℕ) (socket : WorldSocket) (known : Socket) : Type 0 where
  pub acts : Acts scene x cell
  pub has : HasEnd scene x O i known.number socket
  pub waiting : socket.o.stage ≡ Pending
  pub kept : find (is_socket known.number) (host_of scene x).sockets ≡ Some known
  pub waits : known.stage ≡ Pending
  pub asks : known.expected ≡ expected.Answer
  pub user : IsUser scene x known
  pub way : TakesItem (hosts_of scene.world) (first_of T) socket.t (items.Request (request_from scene x))

-- the world in which the opener's end is open
abbrev pub joined_in : Scene → WorldSocket → World
joined_in scene socket = with_end_of socket.name O opened scene.world

-- what x's host does when its dial has succeeded
abbrev pub hears_joined : Scene → Side → Socket → Stepped
hears_joined scene x known = host_on (host_of scene x) (events.Joined known.number)

-- ---- come

-- the number of the next socket that a cell accepts
abbrev pub next_accepted : Cell × ℕ → ℕ
next_accepted cell = 2 * cell.1 + 1

-- The socket waits to be taken by x's host, under a number that none of its ends has; and what the links name is there.
pub record Comes (scene : Scene) (x : Side) (cell : Cell × ℕ) (i : ℕ) (socket : WorldSocket) : Type 0 where
  pub acts : Acts scene x cell
  pub at : slice_get scene.world.sockets i ≡ Some socket
  pub between : is_between (scene.party Lesser).name (scene.party Greater).name socket.name ≡ true
  pub opener : opener_of scene.party socket ≡ other x
  pub cell_is : socket.t.cell ≡ Some (scene.party x).place
  pub unnumbered : socket.t.number ≡ None
  pub waiting : socket.t.stage ≡ Pending
  pub new_number : list_any (has_end (scene.party x).place (next_accepted cell)) scene.world.sockets ≡ false
  pub known : (z : Side) (m : ℕ) → names (link_of scene z).state m ≡ true → list_any (has_end (scene.party z).place m) scene.world.sockets ≡ true

-- a cell that has accepted one more
abbrev pub accepting : Cell × ℕ → Cell × ℕ
accepting cell = (cell.0, cell.1 + 1)

-- the world in which x's host has taken the socket
abbrev pub come_in : Scene → Side → Cell × ℕ → WorldSocket → World
come_in scene x cell socket = with_end_of socket.name T (λ end. record (opened end) { number = Some (next_accepted cell) }) (with_cell (scene.party x).place (accepting cell) scene.world)

-- what x's host does with it
abbrev pub hears_come : Scene → Side → Cell × ℕ → WorldSocket → Stepped
hears_come scene x cell socket = host_on (host_of scene x) (events.Came (next_accepted cell) socket.from_host)

-- ---- fed

-- Bytes are handed to x's end, whose host has it open.
pub record Feeds (scene : Scene) (x : Side) (cell : Cell × ℕ) (e : End) (i : ℕ) (socket : WorldSocket) (known : Socket) : Type 0 where
  pub acts : Acts scene x cell
  pub has : HasEnd scene x e i known.number socket
  pub kept : find (is_socket known.number) (host_of scene x).sockets ≡ Some known
  pub stands : known.stage ≡ Open

-- the world in which so many bytes were taken from those unread at an end
abbrev pub fed_in : Scene → End → ℕ → WorldSocket → World
fed_in scene e count socket = with_end_of socket.name e (λ end. record end { unread = drop count end.unread }) scene.world

-- what x's host does with them
abbrev pub hears_fed : Scene → Side → End → ℕ → WorldSocket → Socket → Stepped
hears_fed scene x e count socket known = host_on (host_of scene x) (events.Fed known.number (take count (end_of e socket).unread))
