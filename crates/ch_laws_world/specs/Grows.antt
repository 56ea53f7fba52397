-- What lines leave of a world, and how its sockets go on.
use Rattle.std.specs.Prelude.{◌≡◌, ◌≤◌, ℕ, List, [], ◌∷◌, ◌++◌, if◌then◌else◌, ◌+◌}
use Rattle.ch_model.specs.declared.name.SockName.{SockName}
use Rattle.ch_model.specs.Stages.{Stage, Pending, Open, Ended}
use Rattle.ch_model.specs.Naming.{same_ends}
use Rattle.ch_model.specs.WorldState.{Cell, WorldEnd, WorldSocket, World}
use Rattle.ch_laws_items.specs.Stays.{Who, seats_of}

-- ---- ends

-- how far an end is: pending, then open, then ended
abbrev pub stage_rank : Stage → ℕ
stage_rank Pending = 0
stage_rank Open = 1
stage_rank Ended = 2

-- the end is of the same host, and as far as it was or farther
pub record EndGoes (before after : WorldEnd) : Type 0 where
  pub cell : after.cell ≡ before.cell
  pub stage : stage_rank before.stage ≤ stage_rank after.stage

-- ---- sockets

-- the socket keeps its name and its opener's host text, and its ends go on
pub record SocketGoes (before after : WorldSocket) : Type 0 where
  pub name : after.name ≡ before.name
  pub from_host : after.from_host ≡ before.from_host
  pub o : EndGoes before.o after.o
  pub t : EndGoes before.t after.t

-- each socket is in its place, and others come after them
abbrev pub SocketsGo : List WorldSocket → List WorldSocket → Type 0
SocketsGo [] after = Unit {0}
SocketsGo (socket ∷ rest) [] = ⊥
SocketsGo (socket ∷ rest) (next ∷ more) = SocketGoes socket next × SocketsGo rest more

-- ---- names

abbrev pub names_of : List WorldSocket → List SockName
names_of [] = []
names_of (socket ∷ rest) = socket.name ∷ names_of rest

-- how many of these sockets are of this opener and this target
abbrev pub count_between : List ℕ → List ℕ → List SockName → ℕ
count_between from to [] = 0
count_between from to (name ∷ rest) = if same_ends from to name then 1 + count_between from to rest else count_between from to rest

-- each of these names has as its number how many of the same opener and target stand before it, where these others do
abbrev pub NumberedAfter : List SockName → List SockName → Type 0
NumberedAfter others [] = Unit {0}
NumberedAfter others (name ∷ rest) = (name.number ≡ count_between name.from name.to others) × NumberedAfter (others ++ name ∷ []) rest

-- the sockets of one opener and target are numbered 0, 1, 2 and so on, in order
abbrev pub Numbered : List WorldSocket → Type 0
Numbered sockets = NumberedAfter [] (names_of sockets)

-- ---- cells

-- where a cell is and who lives there: its host's text and port, the host texts that it takes, and its nodes
abbrev pub Home : Type 0
Home = List ℕ × ℕ × List (List ℕ) × List (ℕ × Who)

abbrev pub home_of : Cell → Home
home_of cell = (cell.host.host, cell.host.port, cell.host.circle, seats_of cell.nodes)

abbrev pub homes_of : List (Cell × ℕ) → List Home
homes_of [] = []
homes_of (cell ∷ rest) = home_of cell.0 ∷ homes_of rest

-- ---- a world

-- names and strangers are as before, each cell is where it was with the same nodes, and the sockets go on
pub record Grows (before after : World) : Type 0 where
  pub names : after.names ≡ before.names
  pub strangers : after.strangers ≡ before.strangers
  pub homes : homes_of after.cells ≡ homes_of before.cells
  pub sockets : SocketsGo before.sockets after.sockets
  pub numbered : Numbered after.sockets
