-- A happening of the world at a socket with all that its cell makes of it, where nodes are told nothing and no whole item is
-- left to read: as a line of a journal does it, and a settle.
use Rattle.std.specs.Prelude.{◌≡◌, ℕ, List, [], ◌∷◌, ◌++◌, take, Some, None, Ok}
use Rattle.ch_laws_items.specs.Kept.{Apart}
use Rattle.ch_model.specs.declared.entry.Entry.{Entry}
use Rattle.ch_model.specs.declared.entry.Verdict.{Verdict}
use Rattle.ch_model.specs.declared.local.LocalEntry.{LocalEntry}
use Rattle.ch_model.specs.declared.local.LocalEntry.TheVariants as local
use Rattle.ch_model.specs.declared.local.LocalEvent.{LocalEvent}
use Rattle.ch_model.specs.declared.step.Step.{Step}
use Rattle.ch_model.specs.declared.step.Step.TheVariants as steps
use Rattle.ch_model.specs.declared.name.End.{End}
use Rattle.ch_model.specs.HostState.{Socket, HostState}
use Rattle.ch_model.specs.HostSteps.{Stepped, with_socket}
use Rattle.ch_model.specs.Host.{first_ready, host_next}
use Rattle.ch_model.specs.WorldState.{Cell, WorldSocket, World}
use Rattle.ch_model.specs.WorldSockets.{end_of}
use Rattle.ch_model.specs.Cell.{cell_step}
use Rattle.ch_model.specs.WorldHappenings.{Answered}
use Rattle.ch_race.specs.Pair.{Side}
use Rattle.ch_race.specs.Moves.{Move, AllAllowed, run}
use Rattle.ch_laws_race.specs.Scene.{Scene, host_of, done_by}
use Rattle.ch_laws_race.specs.Reading.{IsSeen, reads_front}
use Rattle.ch_laws_race.specs.Arrivals.{Feeds, fed_in}
use Rattle.ch_laws_race.specs.View.{view}

-- no node is told anything
abbrev pub PostsNothing : List Step → Type 0
PostsNothing [] = Unit {0}
PostsNothing (steps.Post end event ∷ rest) = ⊥
PostsNothing (step ∷ rest) = PostsNothing rest

-- These steps are all that the cell does: no node is told anything, and its host has no whole item to read then.
pub record IsAll (done : Stepped) : Type 0 where
  pub steps : List Step
  pub host : HostState
  pub does : done ≡ Ok (steps, host)
  pub silent : PostsNothing steps
  pub apart : Apart host.sockets
  pub none : host_next host ≡ Ok (None, host)

-- The world answers; and what is seen of the two then is the pair after these moves, each of which may happen.
pub record IsHappening (scene : Scene) (answered : Answered) (moves : List Move) : Type 0 where
  pub verdict : Verdict
  pub entries : List Entry
  pub now : World
  pub does : answered ≡ Ok ((verdict, entries), now)
  pub allowed : AllAllowed moves (view scene)
  pub seen : view (record scene { world = now }) ≡ run moves (view scene)

-- some bytes are handed over, and not the end of input
pub record HandsSome (e : End) (count : ℕ) (socket : WorldSocket) : Type 0 where
  pub first : ℕ
  pub more : List ℕ
  pub is : take count (end_of e socket).unread ≡ first ∷ more

-- ---- bytes that make one item whole

-- x's host with the bytes, and its record of the socket
abbrev pub fed_record : End → ℕ → WorldSocket → Socket → Socket
fed_record e count socket known = record known { since = known.since ++ take count (end_of e socket).unread }

abbrev pub fed_host : Scene → Side → End → ℕ → WorldSocket → Socket → HostState
fed_host scene x e count socket known = with_socket (fed_record e count socket known) (host_of scene x)

-- the cell, and the scene, with them
abbrev pub fed_cell : Scene → Side → Cell × ℕ → End → ℕ → WorldSocket → Socket → Cell × ℕ
fed_cell scene x cell e count socket known = (record (cell.0) { host = fed_host scene x e count socket known }, cell.1)

abbrev pub fed_scene : Scene → Side → Cell × ℕ → End → ℕ → WorldSocket → Socket → Scene
fed_scene scene x cell e count socket known = record scene { world = done_by (scene.party x).place cell [] (fed_host scene x e count socket known) (fed_in scene e count socket) }

-- The bytes make an item whole, which is the first to be read; what its reading does is seen as these moves, and is all that
-- the cell does.
pub record FeedsOne (scene : Scene) (x : Side) (cell : Cell × ℕ) (e : End) (i count : ℕ) (socket : WorldSocket) (known : Socket) (moves : List Move) : Type 0 where
  pub fed : Feeds scene x cell e i socket known
  pub some : HandsSome e count socket
  pub apart : Apart (fed_host scene x e count socket known).sockets
  pub ready : first_ready (fed_host scene x e count socket known).sockets ≡ Some (fed_record e count socket known)
  pub reads : IsSeen (fed_scene scene x cell e count socket known) x (fed_cell scene x cell e count socket known) (reads_front (fed_scene scene x cell e count socket known) x (fed_record e count socket known)) moves
  pub all : IsAll (reads_front (fed_scene scene x cell e count socket known) x (fed_record e count socket known))

-- ---- a line of a node alone

-- all that is told are notes of nodes
abbrev pub AreNotes : List LocalEntry → Type 0
AreNotes [] = Unit {0}
AreNotes (local.Note note ∷ rest) = AreNotes rest
AreNotes (local.Step step ∷ rest) = ⊥

-- What a cell makes of an event asks nothing of its host: that is as it was, and only notes are told.
pub record AsksNothing (cell : Cell) (event : LocalEvent) : Type 0 where
  pub verdict : Verdict
  pub told : List LocalEntry
  pub after : Cell
  pub does : cell_step cell event ≡ Ok ((verdict, told), after)
  pub host : after.host ≡ cell.host
  pub notes : AreNotes told
