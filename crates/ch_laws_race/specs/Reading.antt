-- An item that is read, by a host that has it whole.
use Rattle.std.specs.Prelude.{◌≡◌, ℕ, List, ◌∷◌, ◌++◌, Some, Ok, find}
use Rattle.ch_reader.specs.declared.item.Item.{Item}
use Rattle.ch_reader.specs.Items.{item_spelling}
use Rattle.ch_reader.specs.Streams.{IsStreamFrom}
use Rattle.ch_model.specs.declared.name.End.{End}
use Rattle.ch_model.specs.declared.name.End.TheVariants.{O, T}
use Rattle.ch_model.specs.declared.step.Step.{Step}
use Rattle.ch_model.specs.Stages.{Open}
use Rattle.ch_model.specs.HostState.{Socket, HostState}
use Rattle.ch_model.specs.HostSteps.{Stepped, is_socket}
use Rattle.ch_model.specs.Host.{front_of, handles}
use Rattle.ch_model.specs.WorldState.{Cell, WorldSocket}
use Rattle.ch_model.specs.WorldSockets.{end_of}
use Rattle.ch_race.specs.Pair.{Side, other}
use Rattle.ch_race.specs.Moves.{Move, Read_o, Read_t, AllAllowed, run}
use Rattle.ch_laws_race.specs.Scene.{Scene, host_of, after_steps}
use Rattle.ch_laws_race.specs.Sound.{HasEnd}
use Rattle.ch_laws_race.specs.View.{view}

-- x's end of the i-th socket is open, and x's host has this record of it. The bytes there begin with the item; and all that is
-- unread is whole items from it on, and then a part of one.
pub record Reads (scene : Scene) (x : Side) (e : End) (i : ℕ) (socket : WorldSocket) (known : Socket) (item : Item) : Type 0 where
  pub has : HasEnd scene x e i known.number socket
  pub standing : (end_of e socket).stage ≡ Open
  pub kept : find (is_socket known.number) (host_of scene x).sockets ≡ Some known
  pub more : List ℕ
  pub front : known.since ≡ item_spelling item ++ more
  pub rest : List Item
  pub part : List ℕ
  pub stream : IsStreamFrom known.expected (known.since ++ (end_of e socket).unread) (item ∷ rest) part

-- the socket is for x's link with the other node
abbrev pub IsUser : Scene → Side → Socket → Type 0
IsUser scene x known = known.user ≡ Some ((scene.party x).address.id, (scene.party (other x)).address)

-- the move in which an end reads
abbrev pub read_at : End → ℕ → Move
read_at O i = Read_o i
read_at T i = Read_t i

-- What x's host does: it steps, and what is seen then is the pair after these moves, each of which may happen.
pub record IsSeen (scene : Scene) (x : Side) (cell : Cell × ℕ) (done : Stepped) (moves : List Move) : Type 0 where
  pub steps : List Step
  pub host : HostState
  pub does : done ≡ Ok (steps, host)
  pub allowed : AllAllowed moves (view scene)
  pub seen : view (after_steps scene x cell steps host) ≡ run moves (view scene)

-- what x's host does with what stands at the front of a socket's bytes
abbrev pub reads_front : Scene → Side → Socket → Stepped
reads_front scene x known = handles known (front_of known) (host_of scene x)
