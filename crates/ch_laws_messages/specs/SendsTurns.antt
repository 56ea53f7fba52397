-- What is given of each turn where links have given an id for each pair.
use Rattle.std.specs.Prelude.{◌≡◌, ℕ, List, slice_get, Some, Ok}
use Rattle.ch_model.specs.declared.entry.Entry.{Entry}
use Rattle.ch_model.specs.declared.line.Line.{Line}
use Rattle.ch_model.specs.declared.local.LocalEntry.{LocalEntry}
use Rattle.ch_model.specs.declared.step.SocketEvent.TheVariants as sockets
use Rattle.ch_model.specs.declared.step.Step.{Step}
use Rattle.ch_model.specs.CellSteps.{steps_on}
use Rattle.ch_model.specs.Epochs.{FollowsEpochs}
use Rattle.ch_model.specs.Host.{host_on, host_next}
use Rattle.ch_model.specs.HostState.{HostState}
use Rattle.ch_model.specs.WorldState.{Cell, World}
use Rattle.ch_laws_calls.specs.Calls.{Claim, with_host}
use Rattle.ch_laws_peers.specs.Says.{AllSay}
use Rattle.ch_laws_peers.specs.Standing.{Standing}
use Rattle.ch_laws_messages.specs.SendsSends.{SaysSmall}

-- Hosts and nodes stand as they do, all that was said is carried, and messages are numbered as they come, by and to processes of small
-- counters.
pub record Told (journal : List Line) (log : List Entry) (world : World) : Type 0 where
  pub stands : Standing journal log world
  pub says : AllSay journal log world
  pub numbered : FollowsEpochs log
  pub small : SaysSmall log

-- what nodes make of the end of a socket's input, which their host posts, asks nothing of the host
abbrev pub EndsAskNone : Claim → Type 0
EndsAskNone P = (log : List Entry) (world : World) (place n : ℕ) (cell : Cell × ℕ) (steps : List Step) (host : HostState) (told : List LocalEntry) (after : Cell) → slice_get world.cells place ≡ Some cell → host_on cell.0.host (sockets.Ended n) ≡ Ok (steps, host) → steps_on steps (with_host cell host) ≡ Ok (told, after) → P log world → after.host ≡ host

-- nor does what they make of an item
abbrev pub ItemsAskNone : Claim → Type 0
ItemsAskNone P = (log : List Entry) (world : World) (place : ℕ) (cell : Cell × ℕ) (steps : List Step) (host : HostState) (told : List LocalEntry) (after : Cell) → slice_get world.cells place ≡ Some cell → host_next cell.0.host ≡ Ok (Some steps, host) → steps_on steps (with_host cell host) ≡ Ok (told, after) → P log world → after.host ≡ host
