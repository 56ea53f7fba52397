-- What the target of a socket reads first: a request of the other node.
use Rattle.std.specs.Prelude.{◌≡◌, ◌⊎◌, ℕ, true, false, ◌==◌, List, ◌∷◌, find, Some}
use Rattle.ch_wire.specs.declared.answer.Answer.{Answer}
use Rattle.ch_wire.specs.declared.answer.Answer.TheVariants as answers
use Rattle.ch_wire.specs.declared.frame.Frame.TheVariants as frames
use Rattle.ch_wire.specs.declared.request.Request.{Request}
use Rattle.ch_reader.specs.declared.item.Item.TheVariants as items
use Rattle.ch_link.specs.declared.LinkState.TheVariants.{Idle, Dialing, AwaitOther, Up}
use Rattle.ch_model.specs.declared.name.End.{End}
use Rattle.ch_model.specs.declared.name.End.TheVariants.{O, T}
use Rattle.ch_model.specs.HostState.{Socket}
use Rattle.ch_model.specs.HostSteps.{is_socket}
use Rattle.ch_model.specs.HostItems.{is_mismatch}
use Rattle.ch_model.specs.WorldState.{Cell, WorldSocket}
use Rattle.ch_model.specs.WorldSockets as world
use Rattle.ch_model.specs.WorldSockets.{end_of}
use Rattle.ch_race.specs.Pair.{Side, Lesser, Greater, other}
use Rattle.ch_race.specs.Moves.{Move, Read_t}
use Rattle.ch_laws_race.specs.Scene.{Scene, hosts_of, host_of, link_of}
use Rattle.ch_laws_race.specs.View.{is_shut}
use Rattle.ch_laws_race.specs.Sound.{Acts, HasEnd, AreFrames, TakesItem, first_of}
use Rattle.ch_laws_race.specs.Reading.{Reads}
use Rattle.ch_laws_race.specs.Answers.{AreData, each_said}

-- the request of the other node to x
abbrev pub request_to : Scene → Side → Request
request_to scene x = record { target = (scene.party x).address.id; from = (scene.party (other x)).address }

-- The request is read, on a socket of a host that may ask so, and this answer may be written.
pub record ReadsRequest (scene : Scene) (x : Side) (cell : Cell × ℕ) (i : ℕ) (socket : WorldSocket) (known : Socket) (answer : Answer) : Type 0 where
  pub acts : Acts scene x cell
  pub reads : Reads scene x T i socket known (items.Request (request_to scene x))
  pub matches : is_mismatch (host_of scene x) known.peer_host (scene.party x).address.id (scene.party (other x)).address ≡ false
  pub way : TakesItem (hosts_of scene.world) (first_of O) socket.o (items.Answer answer)

-- The node is shut.
pub record ReadsWhileShut (scene : Scene) (x : Side) (cell : Cell × ℕ) (i : ℕ) (socket : WorldSocket) (known : Socket) : Type 0 where
  pub request : ReadsRequest scene x cell i socket known answers.Invalid
  pub shut : is_shut (scene.party x).address.id (host_of scene x) ≡ true

-- The node is there, dials nothing and isn't up; and what waits may be written.
pub record ReadsWhileFree (scene : Scene) (x : Side) (cell : Cell × ℕ) (i : ℕ) (socket : WorldSocket) (known : Socket) : Type 0 where
  pub request : ReadsRequest scene x cell i socket known answers.Accepted
  pub stands : is_shut (scene.party x).address.id (host_of scene x) ≡ false
  pub free : ((link_of scene x).state ≡ Idle) ⊎ ((link_of scene x).state ≡ AwaitOther)
  pub payloads : AreData (link_of scene x).waits
  pub spelled : AreFrames (link_of scene x).waits

-- The node, of the greater address, dials a socket, which is the world's j-th.
pub record ReadsWhileDialing (scene : Scene) (cell : Cell × ℕ) (i : ℕ) (socket : WorldSocket) (known : Socket) (own : ℕ) : Type 0 where
  pub request : ReadsRequest scene Greater cell i socket known answers.Crossed
  pub stands : is_shut (scene.party Greater).address.id (host_of scene Greater) ≡ false
  pub dials : (link_of scene Greater).state ≡ Dialing own

-- The node, of the lesser address, dials another socket, which is the world's j-th and of which its host has this record.
pub record ReadsWhileLesserDials (scene : Scene) (cell : Cell × ℕ) (i : ℕ) (socket : WorldSocket) (known : Socket) (j : ℕ) (dialed : WorldSocket) (own : Socket) : Type 0 where
  pub request : ReadsRequest scene Lesser cell i socket known answers.Accepted
  pub stands : is_shut (scene.party Lesser).address.id (host_of scene Lesser) ≡ false
  pub dials : (link_of scene Lesser).state ≡ Dialing own.number
  pub dial : HasEnd scene Lesser O j own.number dialed
  pub own_kept : find (is_socket own.number) (host_of scene Lesser).sockets ≡ Some own
  pub payloads : AreData (link_of scene Lesser).waits
  pub spelled : AreFrames (link_of scene Lesser).waits

-- The node is up on another socket, the world's j-th, not probed, where a probe may be written; its host has this record of it.
pub record ReadsWhileUp (scene : Scene) (x : Side) (cell : Cell × ℕ) (i : ℕ) (socket : WorldSocket) (known : Socket) (e : End) (j : ℕ) (standing : WorldSocket) (up : Socket) : Type 0 where
  pub request : ReadsRequest scene x cell i socket known answers.Crossed
  pub stands : is_shut (scene.party x).address.id (host_of scene x) ≡ false
  pub is : (link_of scene x).state ≡ Up up.number false
  pub has : HasEnd scene x e j up.number standing
  pub apart : (known.number == up.number) ≡ false
  pub up_kept : find (is_socket up.number) (host_of scene x).sockets ≡ Some up
  pub probe : TakesItem (hosts_of scene.world) (first_of (world.other e)) (end_of (world.other e) standing) (items.Frame frames.Probe)

-- The node is up on a socket, and probed there.
pub record ReadsWhileProbed (scene : Scene) (x : Side) (cell : Cell × ℕ) (i : ℕ) (socket : WorldSocket) (known : Socket) (up : ℕ) : Type 0 where
  pub request : ReadsRequest scene x cell i socket known answers.Crossed
  pub stands : is_shut (scene.party x).address.id (host_of scene x) ≡ false
  pub is : (link_of scene x).state ≡ Up up true

-- the target reads, and says what waits
abbrev pub accepts_and_says : Scene → Side → ℕ → List Move
accepts_and_says scene x i = Read_t i ∷ each_said x (link_of scene x).waits
