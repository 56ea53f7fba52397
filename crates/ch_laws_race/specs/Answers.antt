-- What the opener of a socket reads first: the answer to its request.
use Rattle.std.specs.Prelude.{◌≡◌, ℕ, List, [], ◌∷◌}
use Rattle.ch_wire.specs.declared.answer.Answer.{Answer}
use Rattle.ch_wire.specs.declared.answer.Answer.TheVariants as answers
use Rattle.ch_wire.specs.declared.frame.Frame.{Frame}
use Rattle.ch_reader.specs.declared.item.Item.TheVariants as items
use Rattle.ch_link.specs.declared.LinkState.TheVariants.{Dialing}
use Rattle.ch_model.specs.declared.name.End.TheVariants.{O, T}
use Rattle.ch_model.specs.declared.step.Weight.{Weight}
use Rattle.ch_model.specs.HostState.{Socket}
use Rattle.ch_model.specs.WorldState.{Cell, WorldSocket}
use Rattle.ch_race.specs.Pair as pair
use Rattle.ch_race.specs.Pair.{Side}
use Rattle.ch_race.specs.Moves.{Move, Read_o, Say}
use Rattle.ch_laws_race.specs.Scene.{Scene, hosts_of, link_of}
use Rattle.ch_laws_race.specs.View.{frame_kind}
use Rattle.ch_laws_race.specs.Sound.{Acts, TakesFrames, first_of}
use Rattle.ch_laws_race.specs.Reading.{Reads, IsUser}

-- The answer is read on the socket that the link dials.
pub record ReadsAnswer (scene : Scene) (x : Side) (cell : Cell × ℕ) (i : ℕ) (socket : WorldSocket) (known : Socket) (answer : Answer) : Type 0 where
  pub acts : Acts scene x cell
  pub reads : Reads scene x O i socket known (items.Answer answer)
  pub user : IsUser scene x known
  pub dials : (link_of scene x).state ≡ Dialing known.number

-- all that waits are frames of connections
abbrev pub AreData : List (Frame × Weight) → Type 0
AreData [] = Unit {0}
AreData (wait ∷ rest) = (frame_kind wait.0 ≡ pair.Data) × AreData rest

-- The request was accepted, and what waits may be written.
pub record ReadsAccepted (scene : Scene) (x : Side) (cell : Cell × ℕ) (i : ℕ) (socket : WorldSocket) (known : Socket) : Type 0 where
  pub answer : ReadsAnswer scene x cell i socket known answers.Accepted
  pub payloads : AreData (link_of scene x).waits
  pub way : TakesFrames (hosts_of scene.world) (first_of T) socket.t (link_of scene x).waits

-- the node says each that waits
abbrev pub each_said : Side → List (Frame × Weight) → List Move
each_said x [] = []
each_said x (wait ∷ rest) = Say x ∷ each_said x rest

-- the opener reads, and says what waits
abbrev pub reads_and_says : Side → ℕ → List (Frame × Weight) → List Move
reads_and_says x i waits = Read_o i ∷ each_said x waits
