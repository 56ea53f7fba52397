-- What the calls of an endpoint ask of a link.
use Rattle.std.specs.Prelude.{◌≡◌, ℕ, false, List, find, Some, Result, Ok}
use Rattle.ch_wire.specs.declared.frame.Frame.{Frame}
use Rattle.ch_light.specs.Ids.{id_of, give_of, close_of}
use Rattle.ch_light.specs.declared.Connection.{Connection}
use Rattle.ch_model.specs.declared.step.EndError.{EndError}
use Rattle.ch_model.specs.declared.step.Step.{Step}
use Rattle.ch_model.specs.declared.step.Weight.{Weight}
use Rattle.ch_model.specs.HostState.{Link, HostState}
use Rattle.ch_model.specs.HostSteps.{Stepped}
use Rattle.ch_model.specs.HostWrites.{is_up, puts}
use Rattle.ch_model.specs.HostCalls.{stepped, open_endpoint, carries, short_enough, has_room}
use Rattle.ch_model.specs.WorldState.{Cell}
use Rattle.ch_race.specs.Pair.{Side}
use Rattle.ch_laws_race.specs.Scene.{Scene, host_of, link_of}
use Rattle.ch_laws_race.specs.Sound.{Acts}
use Rattle.ch_laws_race.specs.Asks.{IsRenewed}

-- a frame is put, and no socket is wanted
abbrev pub puts_frame : Scene → Side → Frame × Weight → Link → Stepped
puts_frame scene x item link = puts item link (host_of scene x)

-- The link isn't up.
pub record PutsWaiting (scene : Scene) (x : Side) (cell : Cell × ℕ) (link : Link) : Type 0 where
  pub acts : Acts scene x cell
  pub renewed : IsRenewed scene x link
  pub down : is_up (link_of scene x).state ≡ false

-- a call of x's endpoint does what these steps of the link do, with its ids
pub record IsOfLink (scene : Scene) (x : Side) (called : Result (List Step × HostState) EndError) (done : Stepped) (link : Link) : Type 0 where
  pub same : called ≡ stepped done
  pub renewed : IsRenewed scene x link

-- The endpoint is open, and the link has an id for one more connection.
pub record Connects (scene : Scene) (x : Side) (conn : ℕ) (given : ℕ × List Connection) : Type 0 where
  pub opened : open_endpoint (host_of scene x) (scene.party x).address.id ≡ Ok (scene.party x).address.id
  pub gives : give_of (link_of scene x).given conn ≡ Ok given

-- The connection is open on the link, under this id; the payload is short enough, and may wait or needn't.
pub record Sends (scene : Scene) (x : Side) (conn : ℕ) (payload : List ℕ) (weight : Weight) (id : ℕ) : Type 0 where
  pub found : find (carries (scene.party x).address.id conn) (host_of scene x).links ≡ Some (link_of scene x)
  pub short : short_enough payload ≡ Ok payload
  pub room : has_room (link_of scene x) weight ≡ Ok (link_of scene x)
  pub given : id_of (link_of scene x).given conn ≡ Some id

-- The connection is open on the link, and is closed there.
pub record Closes (scene : Scene) (x : Side) (conn : ℕ) (closed : ℕ × List Connection) : Type 0 where
  pub found : find (carries (scene.party x).address.id conn) (host_of scene x).links ≡ Some (link_of scene x)
  pub closes : close_of (link_of scene x).given conn ≡ Ok closed
