-- Nodes note what they hear and ask nothing of their hosts: so links have given an id for each pair, turn by turn.
use Rattle.std.specs.Prelude.{List}
use Rattle.ch_model.specs.declared.entry.Entry.{Entry}
use Rattle.ch_model.specs.declared.line.Line.{Line}
use Rattle.ch_model.specs.WorldState.{World}
use Rattle.ch_laws_calls.specs.Turns.{KeepsTurns}
use Rattle.ch_laws_peers.specs.Standing.{IsOfNodes, Standing}
use Rattle.ch_laws_peers.proofs.Dialed.{Known, item_reads, end_reads}
use Rattle.ch_laws_messages.specs.SendsSends.{AllGive}
use Rattle.ch_laws_messages.specs.SendsTurns.{Told, EndsAskNone, ItemsAskNone}
use Rattle.ch_laws_messages.proofs.SendsKept.{gives_kept}

known_of : (journal : List Line) (log : List Entry) (world : World) → Standing journal log world → Known journal log world
known_of journal log world s = ((s.all, s.meets), (s.peers, s.plain))

pub ends_ask_none : (journal : List Line) → IsOfNodes journal → EndsAskNone (Told journal)
ends_ask_none journal n log world place sock cell steps host told after at does all t = (end_reads journal n.is n.addresses log world place sock cell steps host told after at does all (known_of journal log world t.stands)).same_host

pub items_ask_none : (journal : List Line) → IsOfNodes journal → ItemsAskNone (Told journal)
items_ask_none journal n log world place cell steps host told after at does all t = (item_reads journal n.is n.addresses log world place cell steps host told after at does all (known_of journal log world t.stands)).same_host

pub ids_given : (journal : List Line) → IsOfNodes journal → KeepsTurns journal (Told journal) (Told journal) (AllGive journal)
ids_given journal n = gives_kept journal n (ends_ask_none journal n) (items_ask_none journal n)
