-- What is given of a log and its world where nothing breaks.
use Rattle.std.specs.Prelude.{List}
use Rattle.ch_model.specs.declared.entry.Entry.{Entry}
use Rattle.ch_model.specs.declared.line.Line.{Line}
use Rattle.ch_model.specs.WorldState.{World}
use Rattle.ch_laws_calls.specs.Fits.{AllFit}
use Rattle.ch_laws_calls.specs.Peers.{Peers}
use Rattle.ch_laws_calls.specs.Scenes.{Shown, Raced}
use Rattle.ch_laws_calls.specs.Sound.{Sound}
use Rattle.ch_laws_calls.specs.ScenesKnocks.{Unknocked}

-- Hosts and world agree; each two nodes are a scene as it should be, and are seen as a pair that comes about by moves that may happen;
-- what is unread fits what is open; each dial is between two nodes, and nobody knocks.
pub record Given (journal : List Line) (log : List Entry) (world : World) : Type 0 where
  pub sound : Sound journal log world
  pub shown : Shown journal log world
  pub raced : Raced journal log world
  pub fit : AllFit journal log world
  pub peers : Peers journal log world
  pub unknocked : Unknocked log
