-- Two nodes of a journal by their names, as a pair.
use Rattle.std.specs.Prelude.{◌≡◌, ℕ, List}
use Rattle.ch_model.specs.declared.line.Line.{Line}
use Rattle.ch_race.specs.Pair.{Side, other}
use Rattle.ch_laws_race.specs.Scene.{Party}
use Rattle.ch_laws_calls.specs.Scenes.{IsPairOf}

-- The nodes of these two names are a pair of the journal: the first is of this side, and the second of the other.
pub record IsPairFor (journal : List Line) (a b : List ℕ) : Type 0 where
  pub party : Side → Party
  pub pair : IsPairOf journal party
  pub side : Side
  pub first : (party side).name ≡ a
  pub second : (party (other side)).name ≡ b
