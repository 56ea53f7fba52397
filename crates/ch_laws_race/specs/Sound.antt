-- What is asked of a scene, whatever happens next.
use Rattle.std.specs.Prelude.{◌≡◌, ℕ, true, false, ◌||◌, ◌==◌, List, [], ◌∷◌, ◌++◌, Some, is_some, slice_get}
use Rattle.ch_wire.specs.Spelling.{IsFrame}
use Rattle.ch_wire.specs.declared.frame.Frame.{Frame}
use Rattle.ch_model.specs.declared.step.Weight.{Weight}
use Rattle.ch_reader.specs.declared.item.Expected.{Expected}
use Rattle.ch_reader.specs.declared.item.Expected.TheVariants as expected
use Rattle.ch_reader.specs.declared.item.Item.{Item}
use Rattle.ch_reader.specs.Items.{spellings, MayFollow, MayStand, expected_after}
use Rattle.ch_model.specs.declared.name.End.{End}
use Rattle.ch_model.specs.declared.name.End.TheVariants.{O, T}
use Rattle.ch_model.specs.Greater as greater
use Rattle.ch_model.specs.Same.{same_socket, is_between}
use Rattle.ch_model.specs.Stages.{is_ended}
use Rattle.ch_model.specs.HostState.{HostState}
use Rattle.ch_model.specs.HostSteps.{own_address}
use Rattle.ch_model.specs.WorldState.{Cell, WorldEnd, WorldSocket}
use Rattle.ch_model.specs.WorldSockets.{end_of, is_end_of}
use Rattle.ch_race.specs.Pair.{Side, Lesser, Greater, other, is_greater}
use Rattle.ch_laws_race.specs.Scene.{Scene, host_of}
use Rattle.ch_laws_race.specs.View.{opener_of, Reader, reader_at}

-- no two sockets have one name, and no two ends are of one cell under one number
pub record AreApart (sockets : List WorldSocket) : Type 0 where
  pub named : (i j : ℕ) (s t : WorldSocket) → slice_get sockets i ≡ Some s → slice_get sockets j ≡ Some t → same_socket s.name t.name ≡ true → i ≡ j
  pub numbered : (i j : ℕ) (s t : WorldSocket) (e f : End) (cell number : ℕ) → slice_get sockets i ≡ Some s → slice_get sockets j ≡ Some t
      → is_end_of cell number (end_of e s) ≡ true → is_end_of cell number (end_of f t) ≡ true → (i ≡ j) × (e ≡ f)

-- A node acts: its host is there, under its address; the addresses are ordered as the sides say; on one host the two have
-- different endpoints; and the world's sockets are apart.
pub record Acts (scene : Scene) (x : Side) (cell : Cell × ℕ) : Type 0 where
  pub there : slice_get scene.world.cells (scene.party x).place ≡ Some cell
  pub own : own_address (host_of scene x) (scene.party x).address.id ≡ (scene.party x).address
  pub order : greater.is_greater (scene.party x).address (scene.party (other x)).address ≡ is_greater x
  pub differ : (scene.party (other x)).place ≡ (scene.party x).place → ((scene.party x).address.id == (scene.party (other x)).address.id) ≡ false
  pub apart : AreApart scene.world.sockets

-- who opened a socket of which x has this end
abbrev pub opener_by : End → Side → Side
opener_by O x = x
opener_by T x = other x

-- a socket of the two is the world's i-th; x has this end of it, under that number
pub record HasEnd (scene : Scene) (x : Side) (e : End) (i number : ℕ) (socket : WorldSocket) : Type 0 where
  pub at : slice_get scene.world.sockets i ≡ Some socket
  pub end : is_end_of (scene.party x).place number (end_of e socket) ≡ true
  pub between : is_between (scene.party Lesser).name (scene.party Greater).name socket.name ≡ true
  pub opener : opener_of scene.party socket ≡ opener_by e x
  pub target : is_some socket.t.cell ≡ true

-- which item an end reads first
abbrev pub first_of : End → Expected
first_of O = expected.Answer
first_of T = expected.Request

-- what is unread at an end is whole items, and that item may be written behind them
pub record HasPlace (reader : Reader) (end : WorldEnd) (item : Item) : Type 0 where
  pub items : List Item
  pub whole : reader.1 ++ end.unread ≡ spellings items
  pub each : MayFollow reader.0 items
  pub next : MayStand (expected_after reader.0 items) item

-- all that waits for a link may be spelled
abbrev pub AreFrames : List (Frame × Weight) → Type 0
AreFrames [] = Unit {0}
AreFrames (wait ∷ rest) = IsFrame wait.0 × AreFrames rest

-- the same of all that waits for a link
pub record HasPlaces (reader : Reader) (end : WorldEnd) (waits : List (Frame × Weight)) : Type 0 where
  pub items : List Item
  pub whole : reader.1 ++ end.unread ≡ spellings items
  pub each : MayFollow reader.0 items
  pub framed : expected_after reader.0 items ≡ expected.Frame
  pub spelled : AreFrames waits

-- an item may be written towards an end, where that stands and isn't cut
abbrev pub TakesItem : (ℕ → HostState) → Expected → WorldEnd → Item → Type 0
TakesItem hosts first end item = (is_ended end.stage || end.is_cut) ≡ false → HasPlace (reader_at hosts first end) end item

abbrev pub TakesFrames : (ℕ → HostState) → Expected → WorldEnd → List (Frame × Weight) → Type 0
TakesFrames hosts first end waits = (is_ended end.stage || end.is_cut) ≡ false → HasPlaces (reader_at hosts first end) end waits
