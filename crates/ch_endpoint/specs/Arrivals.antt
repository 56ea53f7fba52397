-- Connections that arrive at an endpoint: their ids on the link, and their numbers.
use Rattle.std.specs.Prelude.{ℕ, ◌+◌, ◌*◌, Bool, not, ◌&&◌, ◌==◌, List, [], ◌∷◌, ◌++◌, length, Option, Some, None, Result, Ok, Err, nat_le, nat_lt, if◌then◌else◌}
use Rattle.ch_light.specs.declared.TheConstants.{FIRST_ID, MOST_IDS}
use Rattle.ch_light.specs.declared.Connection.{Connection}
use Rattle.ch_light.specs.declared.error.LightError.{LightError}
use Rattle.ch_light.specs.Ids.{opened, closed_of}
use Rattle.ch_base.specs.declared.event.Event.TheVariants as events
use Rattle.ch_model.specs.declared.step.Step.TheVariants as steps
use Rattle.ch_model.specs.HostState.{Link, HostState}
use Rattle.ch_model.specs.HostSteps.{Stepped, with_link}
use Rattle.ch_model.specs.HostItems.{most_arrived, with_arrival}
use Rattle.ch_endpoint.specs.Waits.{closed_among}

-- the other end may create this id now: it is the next, and not all were used
abbrev pub may_create : ℕ → List Connection → Bool
may_create id table = not (nat_le MOST_IDS (length table)) && (id == FIRST_ID + length table)

-- the link once the other end has created its next id for this connection
abbrev pub creating : ℕ → Link → Link
creating conn link = record link { created = link.created ++ opened conn ∷ [] }

-- the link once the other end has closed this id
abbrev pub closing_id : ℕ → Link → Link
closing_id id link = record link { created = closed_among (closed_of link.created id) link.created }

-- the connection that an id stands for, where one does
abbrev pub number_of : Result ℕ LightError → Option ℕ
number_of (Ok conn) = Some conn
number_of (Err e) = None

-- the number of the connection that arrives after so many, where one is left
abbrev pub next_number : ℕ → Option ℕ
next_number arrived = if nat_lt arrived most_arrived then Some (2 * arrived + 1) else None

-- a connection of this number has arrived on the link
abbrev pub arrives_as : ℕ → Link → HostState → Stepped
arrives_as conn link host = Ok (steps.Post link.end (events.ConnectionOpened conn link.peer) ∷ [], with_arrival link.end (with_link (creating conn link) host))

-- a connection that had this id on the link is closed
abbrev pub departs_as : ℕ → ℕ → Link → HostState → Stepped
departs_as id conn link host = Ok (steps.Post link.end (events.ConnectionClosed conn) ∷ [], with_link (closing_id id link) host)
