-- What is so of a log and its world whatever happens: hosts and world agree on ends, bytes, links and who asks.
use Rattle.std.specs.Prelude.{◌≡◌, List}
use Rattle.ch_model.specs.declared.entry.Entry.{Entry}
use Rattle.ch_model.specs.declared.line.Line.{Line}
use Rattle.ch_model.specs.World.{names_of, world_new}
use Rattle.ch_model.specs.WorldState.{World}
use Rattle.ch_laws_world.specs.Grows.{homes_of}
use Rattle.ch_laws_ends.proofs.Told.{Sure}
use Rattle.ch_laws_bytes.proofs.Event.{Flowing}
use Rattle.ch_laws_bytes.proofs.Lines.{own_of}
use Rattle.ch_laws_links.proofs.Journals.{Tells}
use Rattle.ch_laws_links.proofs.Worlds.{AllNaming}
use Rattle.ch_laws_many.proofs.Led.{IsSet}
use Rattle.ch_laws_pairs.proofs.Heard.{Asked}

-- The hosts and the world agree on the ends, the world has the journal's names, each socket leads to a host, and streams are as
-- their hosts read and write.
pub record SoundEnds (journal : List Line) (log : List Entry) (world : World) : Type 0 where
  pub sure : Sure journal log world
  pub set : IsSet (names_of journal) world
  pub homes : homes_of world.cells ≡ homes_of (world_new journal).cells
  pub flowing : Flowing (own_of journal) world

-- Links and ends name each other, the log tells how ends stand, and each opener's user is called as its socket.
pub record SoundLinks (journal : List Line) (log : List Entry) (world : World) : Type 0 where
  pub naming : AllNaming world.cells
  pub tells : Tells log world
  pub asked : Asked (own_of journal) world

-- all of that
pub record Sound (journal : List Line) (log : List Entry) (world : World) : Type 0 where
  pub ends : SoundEnds journal log world
  pub links : SoundLinks journal log world
