-- What is given of a log and its world where two nodes are seen as a pair that comes about by moves.
use Rattle.std.specs.Prelude.{List}
use Rattle.ch_model.specs.declared.entry.Entry.{Entry}
use Rattle.ch_model.specs.declared.line.Line.{Line}
use Rattle.ch_model.specs.WorldState.{World}
use Rattle.ch_laws_calls.specs.Fits.{AllFit}
use Rattle.ch_laws_calls.specs.Scenes.{Shown}
use Rattle.ch_laws_calls.specs.Sound.{Sound}
use Rattle.ch_laws_calls.specs.FitsFit.{Fit}
use Rattle.ch_laws_raced.specs.RaceCallsUnshut.{AllUnshut}
use Rattle.ch_laws_calls.specs.ScenesKnocks.{Unknocked}
use Rattle.ch_laws_calls.specs.UsersKept.{AreUsers}

-- Hosts and world agree, scenes are as they should be, no endpoint is closed, and what is unread fits what is open.
pub record Given (journal : List Line) (log : List Entry) (world : World) : Type 0 where
  pub sound : Sound journal log world
  pub shown : Shown journal log world
  pub unshut : AllUnshut journal log world
  pub fit : AllFit journal log world

-- What is so whatever is dialed: hosts and world agree, targets are used as they are called, no endpoint is closed, no stranger
-- knocks, and what is unread leads to the ids that were given.
pub record All (journal : List Line) (log : List Entry) (world : World) : Type 0 where
  pub sound : Sound journal log world
  pub users : AreUsers journal log world
  pub unshut : AllUnshut journal log world
  pub unknocked : Unknocked log
  pub fit : Fit journal log world
