-- What is given of a log and its world before a turn, and what is said of the turns in which no node asks.
use Rattle.std.specs.Prelude.{◌≡◌, ℕ, List, slice_get, Some, Ok}
use Rattle.ch_model.specs.declared.entry.Entry.{Entry}
use Rattle.ch_model.specs.declared.line.Line.{Line}
use Rattle.ch_model.specs.declared.local.LocalEntry.{LocalEntry}
use Rattle.ch_model.specs.declared.step.SocketEvent.TheVariants as sockets
use Rattle.ch_model.specs.declared.step.Step.{Step}
use Rattle.ch_model.specs.CellSteps.{steps_on}
use Rattle.ch_model.specs.Host.{host_on, host_next}
use Rattle.ch_model.specs.HostState.{HostState}
use Rattle.ch_model.specs.WorldState.{Cell, World}
use Rattle.ch_laws_log.specs.HostEnds.{steps_in}
use Rattle.ch_laws_connections.specs.Fits.{CellHolds}
use Rattle.ch_laws_calls.specs.Calls.{Claim, with_host}
use Rattle.ch_laws_calls.specs.Sound.{Sound}
use Rattle.ch_laws_calls.specs.FitsTurns.{NoDials}
use Rattle.ch_laws_plain.specs.Plain.{WorldIsPlain}

-- hosts and world agree, the nodes of each cell agree with its host, and the world is plain
pub record Given (journal : List Line) (log : List Entry) (world : World) : Type 0 where
  pub sound : Sound journal log world
  pub holds : (place : ℕ) (cell : Cell × ℕ) → slice_get world.cells place ≡ Some cell → CellHolds cell.0
  pub plain : WorldIsPlain journal world

-- where a host is handed the end of a socket's input, nothing is dialed
abbrev pub EndsDialNone : Claim → Type 0
EndsDialNone P = (log : List Entry) (world : World) (place n : ℕ) (cell : Cell × ℕ) (steps : List Step) (host : HostState) (told : List LocalEntry) (after : Cell) → slice_get world.cells place ≡ Some cell → host_on cell.0.host (sockets.Ended n) ≡ Ok (steps, host) → steps_on steps (with_host cell host) ≡ Ok (told, after) → P log world → NoDials (steps_in told)

-- nor where a host reads an item
abbrev pub ItemsDialNone : Claim → Type 0
ItemsDialNone P = (log : List Entry) (world : World) (place : ℕ) (cell : Cell × ℕ) (steps : List Step) (host : HostState) (told : List LocalEntry) (after : Cell) → slice_get world.cells place ≡ Some cell → host_next cell.0.host ≡ Ok (Some steps, host) → steps_on steps (with_host cell host) ≡ Ok (told, after) → P log world → NoDials (steps_in told)
