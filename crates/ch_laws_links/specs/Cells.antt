-- What an event of a cell does to its host's ends before anything is told, and which events may come.
use Rattle.std.specs.Prelude.{◌≡◌, ℕ, ◌+◌, ◌*◌, ◌≤◌, find, Option, None}
use Rattle.ch_model.specs.declared.local.LocalEvent.{LocalEvent}
use Rattle.ch_model.specs.declared.local.LocalEvent.TheVariants as locals
use Rattle.ch_model.specs.declared.step.SocketEvent.TheVariants as events
use Rattle.ch_model.specs.HostState.{HostState}
use Rattle.ch_model.specs.HostSteps.{is_socket}
use Rattle.ch_model.specs.WorldState.{Cell}
use Rattle.ch_laws_links.specs.Naming.{IsNaming}
use Rattle.ch_laws_links.specs.Standing.{Standing, standing_heard, ComesFree}

-- an end that an event of the cell joins, or that comes, is open
abbrev pub standing_local : LocalEvent → ℕ → Option Standing → Option Standing
standing_local (locals.Came mark sock peer_host) n now = standing_heard (events.Came sock peer_host) n now
standing_local (locals.Socket event) n now = standing_heard event n now
standing_local event n now = now

-- an end that comes has an odd number, which is free
abbrev pub ComesFreeTo : HostState → LocalEvent → Type 0
ComesFreeTo host (locals.Came mark sock peer_host) = ComesFree host (events.Came sock peer_host)
ComesFreeTo host (locals.Socket event) = ComesFree host event
ComesFreeTo host event = Unit {0}

-- A cell of a world: its host is naming, and the numbers of the next sockets that it accepts are free.
pub record IsNamingCell (cell : Cell × ℕ) : Type 0 where
  pub naming : IsNaming cell.0.host
  pub free : (k : ℕ) → cell.1 ≤ k → find (is_socket (2 * k + 1)) cell.0.host.sockets ≡ None
