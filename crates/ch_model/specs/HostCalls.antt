-- What an endpoint asks of its host: connections, payloads, and its own end.
use Rattle.std.specs.Prelude.{ℕ, Bool, true, false, not, ◌&&◌, List, [], ◌∷◌, ◌++◌, length, find, is_some, Option, Some, None, Result, Ok, Err, nat_lt, nat_le, ◌==◌, if◌then◌else◌}
use Rattle.std.specs.List.{list_any}
use Rattle.ch_base.specs.declared.address.Address.{Address}
use Rattle.ch_base.specs.declared.event.Event.TheVariants as events
use Rattle.ch_base.specs.declared.event.Room.{Room}
use Rattle.ch_base.specs.declared.memory.Stop.{Stop}
use Rattle.ch_base.specs.declared.memory.Stop.TheVariants as stops
use Rattle.ch_wire.specs.declared.TheConstants.{MOST_PAYLOAD_BYTES}
use Rattle.ch_wire.specs.declared.frame.Frame.{Frame}
use Rattle.ch_wire.specs.declared.frame.Frame.TheVariants as frames
use Rattle.ch_link.specs.Sockets.{timer_runs}
use Rattle.ch_link.specs.declared.LinkIn.TheVariants.{Want, Shut}
use Rattle.ch_light.specs.Ids.{id_of, give_of, close_of}
use Rattle.ch_light.specs.declared.error.LightError.{LightError}
use Rattle.ch_light.specs.declared.error.LightError.TheVariants as lights
use Rattle.ch_model.specs.declared.step.EndError.{EndError}
use Rattle.ch_model.specs.declared.step.EndError.TheVariants.{NoEndPoint, NoConnection, QueueFull, PayloadLong, Spent, OutOfMemory, Worn}
use Rattle.ch_model.specs.declared.step.Step.{Step}
use Rattle.ch_model.specs.declared.step.Weight.{Weight}
use Rattle.ch_model.specs.declared.step.Weight.TheVariants.{Free}
use Rattle.ch_model.specs.HostState.{Endpoint, Link, HostState}
use Rattle.ch_model.specs.HostSteps.{Stepped, still, ◌then◌, is_endpoint, is_open_endpoint, link_with, with_endpoint}
use Rattle.ch_model.specs.HostWrites.{is_up, is_counted, counted_in, puts}
use Rattle.ch_model.specs.HostLinks.{next_dial, hears}
use Rattle.ch_model.specs.HostItems.{posts}

infixl 10 ◌>>=◌
-- what follows a step, where that isn't refused
abbrev pub ◌>>=◌ : {A B : Type 0} → Result A EndError → (A → Result B EndError) → Result B EndError
(Ok x) >>= f = f x
(Err e) >>= f = Err e

-- how a stop is told to the endpoint
abbrev pub end_stop : Stop → EndError
end_stop stops.OutOfMemory = OutOfMemory
end_stop stops.Worn = Worn

abbrev pub stepped : Stepped → Result (List Step × HostState) EndError
stepped (Ok done) = Ok done
stepped (Err stop) = Err (end_stop stop)

-- how a refusal of the ids is told to the endpoint
abbrev pub light_error : LightError → EndError
light_error lights.Spent = Spent
light_error lights.NotNext = NoConnection
light_error lights.NotOpen = NoConnection
light_error lights.OutOfMemory = OutOfMemory

abbrev pub of_ids : {A : Type 0} → Result A LightError → Result A EndError
of_ids (Ok x) = Ok x
of_ids (Err e) = Err (light_error e)

-- ---- endpoints

-- a host that has done nothing
abbrev pub host_new : List ℕ → ℕ → List (List ℕ) → HostState
host_new host port circle = record { host = host; port = port; circle = circle; ends = []; links = []; sockets = []; dials = 0 }

-- an endpoint is opened, once for each number
unfoldable pub host_open : HostState → ℕ → Bool × HostState
host_open host end = if list_any (is_endpoint end) host.ends then (false, host) else (true, record host { ends = host.ends ++ record { number = end; is_open = true; arrived = 0 } ∷ [] })

-- the endpoint was opened and isn't closed
abbrev pub open_endpoint : HostState → ℕ → Result ℕ EndError
open_endpoint host end = if list_any (is_open_endpoint end) host.ends then Ok end else Err NoEndPoint

-- ---- connections

-- the link wants a socket, where it has none
abbrev pub wants : ℕ → Address → HostState → Stepped
wants end peer host = hears (Want (next_dial host)) (link_with host end peer) host

-- an item of a link is put, and the link wants a socket
abbrev pub puts_and_wants : Frame × Weight → Link → HostState → Stepped
puts_and_wants item link host = puts item link host then wants link.end link.peer

-- An endpoint opens a connection to a peer: it gets the next id, and that is written or waits. A link that is idle dials.
unfoldable pub host_connect : HostState → ℕ → Address → ℕ → Result (List Step × HostState) EndError
host_connect host end peer conn = do
  standing ← open_endpoint host end
  given ← of_ids (give_of (link_with host end peer).given conn)
  stepped (puts_and_wants (frames.Created given.0, Free) (record (link_with host end peer) { given = given.1 }) host)

-- the link on which an endpoint has this connection open
abbrev pub carries : ℕ → ℕ → Link → Bool
carries end conn link = (link.end == end) && is_some (id_of link.given conn)

abbrev pub found_or : {A : Type 0} → Option A → Result A EndError
found_or (Some x) = Ok x
found_or None = Err NoConnection

-- a payload is short enough
abbrev pub short_enough : List ℕ → Result (List ℕ) EndError
short_enough payload = if nat_lt MOST_PAYLOAD_BYTES (length payload) then Err PayloadLong else Ok payload

-- the most counted payloads that wait for one link
abbrev pub most_waiting : ℕ
most_waiting = 4096

-- a payload may wait, or needn't
abbrev pub has_room : Link → Weight → Result Link EndError
has_room link weight = if is_counted weight && (not (is_up link.state) && nat_le most_waiting (counted_in link)) then Err QueueFull else Ok link

-- A payload is sent on a connection: it is written where the link is up, and else waits.
unfoldable pub host_send : HostState → ℕ → ℕ → List ℕ → Weight → Result (List Step × HostState) EndError
host_send host end conn payload weight = do
  link ← found_or (find (carries end conn) host.links)
  short ← short_enough payload
  roomy ← has_room link weight
  id ← found_or (id_of link.given conn)
  stepped (puts_and_wants (frames.Data id short, weight) link host)

-- A connection is closed: that is written, or waits behind what the connection has waiting.
unfoldable pub host_close : HostState → ℕ → ℕ → Result (List Step × HostState) EndError
host_close host end conn = do
  link ← found_or (find (carries end conn) host.links)
  closed ← of_ids (close_of link.given conn)
  stepped (puts (frames.Closed closed.0, Free) (record link { given = closed.1 }) host)

-- ---- the end of an endpoint

-- each link of the endpoint is shut, in order of first use
abbrev pub shuts_links : ℕ → List Link → HostState → Stepped
shuts_links end [] host = still host
shuts_links end (link ∷ rest) host = (if link.end == end then hears Shut (link_with host end link.peer) host else still host) then shuts_links end rest

abbrev pub closes_endpoint : Option Endpoint → HostState → HostState
closes_endpoint None host = host
closes_endpoint (Some endpoint) host = with_endpoint (record endpoint { is_open = false }) host

-- An endpoint is closed: its links are shut, and its node is told last.
unfoldable pub host_close_endpoint : HostState → ℕ → Result (List Step × HostState) EndError
host_close_endpoint host end = do
  standing ← open_endpoint host end
  stepped (shuts_links end host.links host then (λ shut. posts end events.EndPointClosed (closes_endpoint (find (is_endpoint end) shut.ends) shut)))

-- ---- reads

-- how the link of an endpoint with a peer stands
unfoldable pub host_room : HostState → ℕ → Address → Room
host_room host end peer =
    let link = link_with host end peer in
    record { up = is_up link.state; waits = counted_in link; given = length link.given }

-- a timer runs for the link of an endpoint with a peer
unfoldable pub host_timer_runs : HostState → ℕ → Address → Bool
host_timer_runs host end peer = timer_runs (link_with host end peer).state
