-- An end that hears that its input has ended.
use Rattle.std.specs.Prelude.{◌≡◌, ◌⊎◌, ℕ, Bool, true, false, [], ◌++◌, find, Some, None}
use Rattle.ch_link.specs.Sockets.{names}
use Rattle.ch_link.specs.declared.LinkState.TheVariants.{Dialing, Up}
use Rattle.ch_model.specs.declared.name.End.{End}
use Rattle.ch_model.specs.declared.name.End.TheVariants.{O, T}
use Rattle.ch_model.specs.declared.step.SocketEvent.TheVariants as events
use Rattle.ch_model.specs.Stages.{Open, Ended}
use Rattle.ch_model.specs.HostState.{Socket}
use Rattle.ch_model.specs.HostSteps.{Stepped, is_socket}
use Rattle.ch_model.specs.Host.{host_on}
use Rattle.ch_model.specs.WorldState.{Cell, WorldSocket}
use Rattle.ch_model.specs.WorldSockets as world
use Rattle.ch_model.specs.WorldSockets.{end_of}
use Rattle.ch_race.specs.Pair.{Side}
use Rattle.ch_race.specs.Moves.{Move, End_o, End_t}
use Rattle.ch_laws_race.specs.Scene.{Scene, host_of, link_of}
use Rattle.ch_laws_race.specs.View.{whole_items, view}
use Rattle.ch_laws_race.specs.Sound.{Acts, HasEnd}
use Rattle.ch_laws_race.specs.Reading.{IsUser}

-- x's end of the i-th socket is open, no whole item is unread there, and nothing more comes: it was cut, or the other end has ended.
pub record InputEnds (scene : Scene) (x : Side) (cell : Cell × ℕ) (e : End) (i : ℕ) (socket : WorldSocket) (known : Socket) : Type 0 where
  pub acts : Acts scene x cell
  pub has : HasEnd scene x e i known.number socket
  pub standing : (end_of e socket).stage ≡ Open
  pub stands : known.stage ≡ Open
  pub kept : find (is_socket known.number) (host_of scene x).sockets ≡ Some known
  pub empty : whole_items known.expected (known.since ++ (end_of e socket).unread) ≡ []
  pub over : ((end_of e socket).is_cut ≡ true) ⊎ ((end_of (world.other e) socket).stage ≡ Ended)

-- The link is up on the socket.
pub record InputEndsUp (scene : Scene) (x : Side) (cell : Cell × ℕ) (e : End) (i : ℕ) (socket : WorldSocket) (known : Socket) (probed : Bool) : Type 0 where
  pub input : InputEnds scene x cell e i socket known
  pub user : IsUser scene x known
  pub up : (link_of scene x).state ≡ Up known.number probed

-- The link dials the socket.
pub record InputEndsDialing (scene : Scene) (x : Side) (cell : Cell × ℕ) (e : End) (i : ℕ) (socket : WorldSocket) (known : Socket) : Type 0 where
  pub input : InputEnds scene x cell e i socket known
  pub user : IsUser scene x known
  pub dials : (link_of scene x).state ≡ Dialing known.number

-- The link doesn't name the socket, of which perhaps no request was read.
pub record InputEndsUnnamed (scene : Scene) (x : Side) (cell : Cell × ℕ) (e : End) (i : ℕ) (socket : WorldSocket) (known : Socket) : Type 0 where
  pub input : InputEnds scene x cell e i socket known
  pub user : (known.user ≡ None) ⊎ IsUser scene x known
  pub unnamed : names (link_of scene x).state known.number ≡ false
  pub unseen : names ((view scene).link x) i ≡ false

-- the move in which an end reads the end of its input
abbrev pub end_at : End → ℕ → Move
end_at O i = End_o i
end_at T i = End_t i

-- what x's host does when a socket's input has ended
abbrev pub input_ends : Scene → Side → Socket → Stepped
input_ends scene x known = host_on (host_of scene x) (events.Ended known.number)
