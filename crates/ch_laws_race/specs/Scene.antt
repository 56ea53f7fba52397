-- Two nodes of a world and their hosts, as far as the race for a socket goes.
use Rattle.std.specs.Prelude.{ℕ, Bool, List, [], Option, Some, None, slice_get}
use Rattle.ch_base.specs.declared.address.Address.{Address}
use Rattle.ch_model.specs.declared.step.Step.{Step}
use Rattle.ch_model.specs.HostState.{Link, HostState}
use Rattle.ch_model.specs.HostSteps.{link_with}
use Rattle.ch_model.specs.HostCalls.{host_new}
use Rattle.ch_model.specs.WorldState.{Cell, World}
use Rattle.ch_model.specs.CellSteps.{told_steps}
use Rattle.ch_model.specs.WorldHappenings.{with_cell}
use Rattle.ch_model.specs.WorldSteps.{all_told}
use Rattle.ch_race.specs.Pair.{Side, other}

-- A node of the two: its name in the journal, the place of its host among the world's cells, which is beyond them all where
-- that host isn't there, and its address.
pub record Party : Type 0 where
  pub name : List ℕ
  pub place : ℕ
  pub address : Address

-- The two nodes, by the order of their addresses, in a world; and what no state tells: whether nothing was lost since all
-- was settled, with no node shut.
pub record Scene : Type 0 where
  pub party : Side → Party
  pub world : World
  pub quiet : Bool

-- what stands for the host of a cell that isn't there
abbrev pub nowhere : HostState
nowhere = host_new [] 0 []

-- the host of a cell
abbrev pub host_in : Option (Cell × ℕ) → HostState
host_in None = nowhere
host_in (Some cell) = cell.0.host

-- the hosts of a world by the places of their cells
abbrev pub hosts_of : World → ℕ → HostState
hosts_of world place = host_in (slice_get world.cells place)

-- the host of a node
abbrev pub host_of : Scene → Side → HostState
host_of scene x = hosts_of scene.world (scene.party x).place

-- a node's link with the other node
abbrev pub link_of : Scene → Side → Link
link_of scene x = link_with (host_of scene x) (scene.party x).address.id (scene.party (other x)).address

-- the world after steps of a cell's host, which is then this one: each is done to the world's sockets, in order
abbrev pub done_by : ℕ → Cell × ℕ → List Step → HostState → World → World
done_by place cell steps host world =
    let now = record (cell.0) { host = host } in
    (all_told place now (told_steps steps) (with_cell place (now, cell.1) world)).1

-- the scene after steps of a node's host
abbrev pub after_steps : Scene → Side → Cell × ℕ → List Step → HostState → Scene
after_steps scene x cell steps host = record scene { world = done_by (scene.party x).place cell steps host scene.world }
