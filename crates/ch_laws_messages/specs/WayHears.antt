-- That nodes only note what they hear: all steps that are told of a turn are their host's.
use Rattle.std.specs.Prelude.{◌≡◌, ℕ, List, slice_get, Some, Ok}
use Rattle.ch_model.specs.declared.entry.Entry.{Entry}
use Rattle.ch_model.specs.declared.line.Line.{Line}
use Rattle.ch_model.specs.declared.local.LocalEntry.{LocalEntry}
use Rattle.ch_model.specs.declared.step.SocketEvent.TheVariants as sockets
use Rattle.ch_model.specs.declared.step.Step.{Step}
use Rattle.ch_model.specs.CellSteps.{steps_on}
use Rattle.ch_model.specs.Host.{host_on, host_next}
use Rattle.ch_model.specs.HostState.{HostState}
use Rattle.ch_model.specs.WorldState.{Cell, World}
use Rattle.ch_laws_calls.specs.Calls.{with_host}
use Rattle.ch_laws_log.specs.HostEnds.{steps_in}
use Rattle.ch_laws_race.specs.Chains.{unposted}
use Rattle.ch_laws_peers.specs.Standing.{Standing}

-- the steps that are told are those of the host, but for those that post, and the host is as they left it
abbrev pub OnlySteps : List Step → HostState → List LocalEntry → Cell → Type 0
OnlySteps steps host told after = (steps_in told ≡ unposted steps) × (after.host ≡ host)

-- so it is where an item is read, and where the input of a socket ends
pub record HearsAlone (journal : List Line) : Type 0 where
  pub item : (log : List Entry) (world : World) (place : ℕ) (cell : Cell × ℕ) (steps : List Step) (host : HostState) (told : List LocalEntry) (after : Cell) → slice_get world.cells place ≡ Some cell → host_next cell.0.host ≡ Ok (Some steps, host) → steps_on steps (with_host cell host) ≡ Ok (told, after)
      → Standing journal log world → OnlySteps steps host told after
  pub ended : (log : List Entry) (world : World) (place : ℕ) (cell : Cell × ℕ) (sock : ℕ) (steps : List Step) (host : HostState) (told : List LocalEntry) (after : Cell) → slice_get world.cells place ≡ Some cell → host_on cell.0.host (sockets.Ended sock) ≡ Ok (steps, host) → steps_on steps (with_host cell host) ≡ Ok (told, after)
      → Standing journal log world → OnlySteps steps host told after
