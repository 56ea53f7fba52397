-- What a node that is up reads there: a probe, an acknowledgement, that the other endpoint closed, or a frame of a connection.
use Rattle.std.specs.Prelude.{◌≡◌, ℕ, Bool, true, List, nat_lt, Ok}
use Rattle.ch_light.specs.declared.Connection.{Connection}
use Rattle.ch_light.specs.Ids.{created_of, conn_of, closed_of}
use Rattle.ch_model.specs.HostItems.{most_arrived, arrived_at, next_arrival}
use Rattle.ch_wire.specs.declared.frame.Frame.TheVariants as frames
use Rattle.ch_reader.specs.declared.item.Item.TheVariants as items
use Rattle.ch_link.specs.declared.LinkState.TheVariants.{Up}
use Rattle.ch_model.specs.declared.name.End.{End}
use Rattle.ch_model.specs.HostState.{Socket}
use Rattle.ch_model.specs.WorldState.{Cell, WorldSocket}
use Rattle.ch_model.specs.WorldSockets as world
use Rattle.ch_model.specs.WorldSockets.{end_of}
use Rattle.ch_race.specs.Pair.{Side}
use Rattle.ch_laws_race.specs.Scene.{Scene, hosts_of, host_of, link_of}
use Rattle.ch_laws_race.specs.Sound.{Acts, TakesItem, first_of}
use Rattle.ch_laws_race.specs.Reading.{Reads, IsUser}

-- A probe is read on the socket that the link is up on, and its acknowledgement may be written there.
pub record ReadsProbe (scene : Scene) (x : Side) (cell : Cell × ℕ) (e : End) (i : ℕ) (socket : WorldSocket) (known : Socket) (probed : Bool) : Type 0 where
  pub acts : Acts scene x cell
  pub reads : Reads scene x e i socket known (items.Frame frames.Probe)
  pub user : IsUser scene x known
  pub up : (link_of scene x).state ≡ Up known.number probed
  pub way : TakesItem (hosts_of scene.world) (first_of (world.other e)) (end_of (world.other e) socket) (items.Frame frames.ProbeAck)

-- That the other's endpoint closed is read there.
pub record ReadsClosed (scene : Scene) (x : Side) (cell : Cell × ℕ) (e : End) (i : ℕ) (socket : WorldSocket) (known : Socket) (probed : Bool) : Type 0 where
  pub acts : Acts scene x cell
  pub reads : Reads scene x e i socket known (items.Frame frames.EndClosed)
  pub user : IsUser scene x known
  pub up : (link_of scene x).state ≡ Up known.number probed

-- An acknowledgement is read there.
pub record ReadsAck (scene : Scene) (x : Side) (cell : Cell × ℕ) (e : End) (i : ℕ) (socket : WorldSocket) (known : Socket) (probed : Bool) : Type 0 where
  pub acts : Acts scene x cell
  pub reads : Reads scene x e i socket known (items.Frame frames.ProbeAck)
  pub user : IsUser scene x known
  pub up : (link_of scene x).state ≡ Up known.number probed

-- A payload is read, on a connection that is open there.
pub record ReadsPayload (scene : Scene) (x : Side) (cell : Cell × ℕ) (e : End) (i : ℕ) (socket : WorldSocket) (known : Socket) (id : ℕ) (payload : List ℕ) (conn : ℕ) : Type 0 where
  pub acts : Acts scene x cell
  pub reads : Reads scene x e i socket known (items.Frame (frames.Data id payload))
  pub user : IsUser scene x known
  pub carried : conn_of (link_of scene x).created id ≡ Ok conn

-- That a connection is closed is read, of one that is open there.
pub record ReadsClose (scene : Scene) (x : Side) (cell : Cell × ℕ) (e : End) (i : ℕ) (socket : WorldSocket) (known : Socket) (id : ℕ) (left : ℕ × List Connection) : Type 0 where
  pub acts : Acts scene x cell
  pub reads : Reads scene x e i socket known (items.Frame (frames.Closed id))
  pub user : IsUser scene x known
  pub closes : closed_of (link_of scene x).created id ≡ Ok left

-- That a connection is opened is read, under the next id, and the endpoint may number one more.
pub record ReadsOpen (scene : Scene) (x : Side) (cell : Cell × ℕ) (e : End) (i : ℕ) (socket : WorldSocket) (known : Socket) (id : ℕ) (created : List Connection) : Type 0 where
  pub acts : Acts scene x cell
  pub reads : Reads scene x e i socket known (items.Frame (frames.Created id))
  pub user : IsUser scene x known
  pub creates : created_of (link_of scene x).created id (next_arrival (host_of scene x) (link_of scene x).end) ≡ Ok created
  pub grows : nat_lt (arrived_at (host_of scene x) (link_of scene x).end) most_arrived ≡ true
