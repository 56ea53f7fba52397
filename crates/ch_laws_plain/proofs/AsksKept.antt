-- Each turn keeps that each dial is between two nodes of the journal.
use Rattle.std.specs.Prelude.{List}
use Rattle.ch_model.specs.declared.entry.Entry.{Entry}
use Rattle.ch_model.specs.declared.line.Line.{Line}
use Rattle.ch_model.specs.World.{names_of}
use Rattle.ch_model.specs.WorldState.{World}
use Rattle.ch_laws_many.proofs.Reached.{IsJournal}
use Rattle.ch_laws_bytes.specs.Streams.{AreAddresses}
use Rattle.ch_laws_calls.specs.Calls.{Claim}
use Rattle.ch_laws_calls.specs.Peers.{Peers}
use Rattle.ch_laws_calls.specs.Turns.{KeepsTurns}
use Rattle.ch_laws_plain.specs.AsksGiven.{Given, EndsDialNone, ItemsDialNone}
use Rattle.ch_laws_plain.proofs.AsksPeers.{marked_peers, made_peers, asked_peers, joined_peers, came_peers, fed_peers, ended_peers, item_peers}

pub peers_kept : (journal : List Line) (P Q : Claim) → IsJournal journal → AreAddresses (names_of journal) → ((log : List Entry) (world : World) → P log world → Given journal log world) → EndsDialNone P → ItemsDialNone P → KeepsTurns journal P Q (Peers journal)
peers_kept journal P Q j addresses given ends items = record {
  marked = λ log world number what answer found of p peers q. marked_peers journal log world number answer peers;
  made = λ log world place cell end number node acts next told after at there does all p peers q. let g = given log world p in made_peers journal log world place cell end number node acts next told after at there does all g.sound (g.holds place cell at) g.plain peers;
  asked = λ log world what by command place cell number node acts next told after line at there does all p peers q. let g = given log world p in asked_peers journal j addresses log world what by command place cell number node acts next told after line at there does all g.sound (g.holds place cell at) g.plain peers;
  joined = λ log world socket place n cell steps host is can held called read p peers q. joined_peers journal log world socket place n cell steps host called (given log world p).sound peers;
  came = λ log world socket place cell steps host is can at called read p peers q. came_peers journal log world socket place cell steps host called (given log world p).sound peers;
  fed = λ log world socket which count b bytes place n cell steps host is can taken held called read p peers q. fed_peers journal log world socket which count b bytes place n cell steps host called (given log world p).sound peers;
  ended = λ log world socket which place n cell steps host told after is can none held called all read p peers q. ended_peers journal log world socket which place cell told after (ends log world place n cell steps host told after called.at called.does all p) (given log world p).sound peers;
  item = λ log world place cell steps host told after at does all p peers q. item_peers journal log world place cell told after (items log world place cell steps host told after at does all p) (given log world p).sound peers;
}
