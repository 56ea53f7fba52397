-- What a node's connections ask of its link: a frame is put, and the link wants a socket.
use Rattle.std.specs.Prelude.{◌≡◌, ◌⊎◌, ℕ, Bool, true, false, find, nat_lt, Some, None}
use Rattle.std.specs.List.{list_any}
use Rattle.std.specs.Str.{bytes_eq}
use Rattle.ch_wire.specs.declared.frame.Frame.{Frame}
use Rattle.ch_reader.specs.declared.item.Item.TheVariants as items
use Rattle.ch_link.specs.Sockets.{names}
use Rattle.ch_link.specs.declared.LinkState.TheVariants.{Idle, Dialing, AwaitOther, Up}
use Rattle.ch_model.specs.declared.name.End.{End}
use Rattle.ch_model.specs.declared.step.Weight.{Weight}
use Rattle.ch_model.specs.HostState.{Link, Socket}
use Rattle.ch_model.specs.HostSteps.{Stepped, is_socket}
use Rattle.ch_model.specs.HostLinks.{most_dials, next_dial}
use Rattle.ch_model.specs.HostCalls.{puts_and_wants}
use Rattle.ch_model.specs.Naming.{called}
use Rattle.ch_model.specs.WorldState.{Cell, WorldSocket}
use Rattle.ch_model.specs.WorldSockets as world
use Rattle.ch_model.specs.WorldSockets.{end_of, is_socket_named, next_name}
use Rattle.ch_race.specs.Pair as pair
use Rattle.ch_race.specs.Pair.{Side, Lesser, Greater, other}
use Rattle.ch_laws_race.specs.Scene.{Scene, hosts_of, host_of, link_of}
use Rattle.ch_laws_race.specs.View.{frame_kind, has_end, is_shut}
use Rattle.ch_laws_race.specs.Sound.{Acts, HasEnd, TakesItem, first_of}

-- The link with the other node, where only the ids of its connections may be others: one more was given, or one was closed.
pub record IsRenewed (scene : Scene) (x : Side) (link : Link) : Type 0 where
  pub end : link.end ≡ (link_of scene x).end
  pub peer : link.peer ≡ (link_of scene x).peer
  pub state : link.state ≡ (link_of scene x).state

-- what a connection that is opened, or a payload that is sent, asks of the link
abbrev pub asks_link : Scene → Side → Frame × Weight → Link → Stepped
asks_link scene x item link = puts_and_wants item link (host_of scene x)

-- The link is up on the socket, which is the world's i-th, and the frame may be written there.
pub record AsksUp (scene : Scene) (x : Side) (cell : Cell × ℕ) (e : End) (i : ℕ) (socket : WorldSocket) (known : Socket) (item : Frame × Weight) (link : Link) (probed : Bool) : Type 0 where
  pub acts : Acts scene x cell
  pub has : HasEnd scene x e i known.number socket
  pub kept : find (is_socket known.number) (host_of scene x).sockets ≡ Some known
  pub renewed : IsRenewed scene x link
  pub up : (link_of scene x).state ≡ Up known.number probed
  pub payload : frame_kind item.0 ≡ pair.Data
  pub way : TakesItem (hosts_of scene.world) (first_of (world.other e)) (end_of (world.other e) socket) (items.Frame item.0)

-- The link dials, or awaits the other.
pub record AsksWaiting (scene : Scene) (x : Side) (cell : Cell × ℕ) (link : Link) : Type 0 where
  pub acts : Acts scene x cell
  pub renewed : IsRenewed scene x link
  pub busy : ((own : ℕ) × ((link_of scene x).state ≡ Dialing own)) ⊎ ((link_of scene x).state ≡ AwaitOther)

-- The link is idle, of a node that isn't shut; its host may dial once more, under a number that none of its ends has; the names
-- are those of the two; the next socket between them has a new name; and the other's link names a socket that is there.
pub record AsksIdle (scene : Scene) (x : Side) (cell : Cell × ℕ) (link : Link) : Type 0 where
  pub acts : Acts scene x cell
  pub renewed : IsRenewed scene x link
  pub idle : (link_of scene x).state ≡ Idle
  pub stands : is_shut (scene.party x).address.id (host_of scene x) ≡ false
  pub room : nat_lt (host_of scene x).dials most_dials ≡ true
  pub new_number : list_any (has_end (scene.party x).place (next_dial (host_of scene x))) scene.world.sockets ≡ false
  pub called_own : called scene.world.names (scene.party x).address ≡ (scene.party x).name
  pub called_peer : called scene.world.names (scene.party (other x)).address ≡ (scene.party (other x)).name
  pub apart : bytes_eq (scene.party Greater).name (scene.party Lesser).name ≡ false
  pub new_name : find (is_socket_named (next_name scene.world (scene.party x).name (scene.party (other x)).name)) scene.world.sockets ≡ None
  pub other_known : (m : ℕ) → names (link_of scene (other x)).state m ≡ true → list_any (has_end (scene.party (other x)).place m) scene.world.sockets ≡ true
