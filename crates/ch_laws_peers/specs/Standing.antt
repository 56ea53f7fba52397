-- What is so of a log and its world in a journal of many nodes, whatever happens: all that is proved below of hosts, sockets, nodes and the two at each end.
use Rattle.std.specs.Prelude.{List}
use Rattle.ch_model.specs.declared.entry.Entry.{Entry}
use Rattle.ch_model.specs.declared.line.Line.{Line}
use Rattle.ch_model.specs.World.{names_of}
use Rattle.ch_model.specs.WorldState.{World}
use Rattle.ch_laws_bytes.specs.Streams.{AreAddresses}
use Rattle.ch_laws_calls.specs.Peers.{Peers}
use Rattle.ch_laws_calls.specs.Scenes.{Raced}
use Rattle.ch_laws_live.specs.Lives.{IsLively}
use Rattle.ch_laws_many.specs.ManyLines.{AreNamedApart}
use Rattle.ch_laws_many.proofs.Reached.{IsJournal}
use Rattle.ch_laws_plain.specs.Plain.{WorldIsPlain}
use Rattle.ch_laws_plain_logs.specs.Plain.{IsPlain}
use Rattle.ch_laws_plain.specs.MeetsMeets.{AllMeet}
use Rattle.ch_laws_raced.specs.Given.{Given, All}
use Rattle.ch_laws_raced.specs.OnceOnce.{DialsOnce}
use Rattle.ch_laws_raced.specs.UnbrokenBreaks.{NoBreaks}

-- the journal is of many nodes: with different names and addresses that can be spelled
pub record IsOfNodes (journal : List Line) : Type 0 where
  pub is : IsJournal journal
  pub apart : AreNamedApart (names_of journal)
  pub addresses : AreAddresses (names_of journal)

-- Hosts and world agree (`all`, and `given` for each two nodes), each two nodes are a pair of the race, of which at most one socket is live
-- and nothing breaks, who dials a peer does so once, all dials are between two nodes, nodes and hosts agree, streams are plain, and so are all entries.
pub record Standing (journal : List Line) (log : List Entry) (world : World) : Type 0 where
  pub all : All journal log world
  pub each_pair : Given journal log world
  pub raced : Raced journal log world
  pub lively : IsLively log
  pub unbroken : NoBreaks log
  pub once : DialsOnce journal log world
  pub peers : Peers journal log world
  pub meets : AllMeet log world
  pub plain : WorldIsPlain journal world
  pub kinds : IsPlain log
