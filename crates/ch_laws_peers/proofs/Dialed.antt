-- Each turn keeps that all dials are between two nodes of the journal, and that the world is plain.
use Rattle.std.proofs.Common.{◌≡◌, ℕ, List, Ok}
use Rattle.std.specs.Prelude.{slice_get, Some}
use Rattle.ch_model.specs.declared.entry.Entry.{Entry}
use Rattle.ch_model.specs.declared.line.Line.{Line}
use Rattle.ch_model.specs.declared.local.LocalEntry.{LocalEntry}
use Rattle.ch_model.specs.declared.step.SocketEvent.TheVariants as sockets
use Rattle.ch_model.specs.declared.step.Step.{Step}
use Rattle.ch_model.specs.CellSteps.{steps_on}
use Rattle.ch_model.specs.Host.{host_on, host_next}
use Rattle.ch_model.specs.HostState.{HostState}
use Rattle.ch_model.specs.World.{names_of}
use Rattle.ch_model.specs.WorldState.{Cell, World}
use Rattle.ch_laws_bytes.specs.Streams.{AreAddresses}
use Rattle.ch_laws_bytes.proofs.Lines.{own_of}
use Rattle.ch_laws_calls.specs.Calls.{Claim, Both, with_host}
use Rattle.ch_laws_calls.specs.Peers.{Peers}
use Rattle.ch_laws_links.specs.Naming.{IsNaming}
use Rattle.ch_laws_links.proofs.Hosts.{next_naming, event_naming}
use Rattle.ch_laws_many.proofs.Reached.{IsJournal}
use Rattle.ch_laws_plain.specs.Plain.{WorldIsPlain}
use Rattle.ch_laws_plain.proofs.Writes.{next_writes}
use Rattle.ch_laws_plain.specs.AsksGiven as asks
use Rattle.ch_laws_plain.proofs.AsksKept.{peers_kept}
use Rattle.ch_laws_plain.proofs.AsksWorlds.{made_plain, asked_plain_world}
use Rattle.ch_laws_plain.specs.HearsTurns.{ReadTurn}
use Rattle.ch_laws_plain.proofs.HearsCells.{turn_carries}
use Rattle.ch_laws_plain.proofs.LinesHanded.{came_plain, fed_plain}
use Rattle.ch_laws_plain.proofs.LinesJoined.{joined_plain}
use Rattle.ch_laws_plain.proofs.LinesTurned.{marked_plain, ended_plain, item_plain}
use Rattle.ch_laws_plain.specs.MeetsMeets.{AllMeet}
use Rattle.ch_laws_plain.proofs.MeetsBegins.{peers_read_plain}
use Rattle.ch_laws_plain.proofs.ReadsAlone.{next_dials_none, ended_dials_none}
use Rattle.ch_laws_plain.proofs.ReadsTurns as reads
use Rattle.ch_laws_raced.specs.Given.{All}
use Rattle.ch_laws_calls.specs.Turns.{KeepsTurns}
use Rattle.ch_laws_calls.proofs.TurnsTogether.{beside}
use Rattle.ch_laws_calls.proofs.UsersKept.{users_used}
use Rattle.ch_laws_writes.specs.Orderly.{IsOrderly}

-- hosts and world agree, and nodes with their hosts
abbrev pub Agreed : List Line → Claim
Agreed journal = Both (All journal) AllMeet

-- all dials are between two nodes, and the world is plain
abbrev pub Dialed : List Line → Claim
Dialed journal = Both (Peers journal) (λ log world. WorldIsPlain journal world)

abbrev pub Known : List Line → Claim
Known journal = Both (Agreed journal) (Dialed journal)

-- ---- a cell that reads

named : (journal : List Line) (log : List Entry) (world : World) (place : ℕ) (cell : Cell × ℕ) → slice_get world.cells place ≡ Some cell → Known journal log world → IsNaming cell.0.host
named journal log world place cell at k = (k.0.0.sound.links.naming place cell at).naming

orderly : (journal : List Line) (log : List Entry) (world : World) (place : ℕ) (cell : Cell × ℕ) → slice_get world.cells place ≡ Some cell → Known journal log world → IsOrderly (own_of journal place) cell.0.host
orderly journal log world place cell at k = k.0.0.sound.ends.flowing.orderly place cell at

-- an item is read
pub item_reads : (journal : List Line) → IsJournal journal → AreAddresses (names_of journal) → (log : List Entry) (world : World) (place : ℕ) (cell : Cell × ℕ) (steps : List Step) (host : HostState) (told : List LocalEntry) (after : Cell) → slice_get world.cells place ≡ Some cell → host_next cell.0.host ≡ Ok (Some steps, host)
    → steps_on steps (with_host cell host) ≡ Ok (told, after) → Known journal log world → ReadTurn (own_of journal place) cell.0 steps host told after
item_reads journal j addresses log world place cell steps host told after at does all k =
    let n = named journal log world place cell at k in
    let o = orderly journal log world place cell at k in
    let p = k.1.1.cells place cell at in
    let w = next_writes (own_of journal place) cell.0.host host steps n o p.host does in
    turn_carries (own_of journal place) cell.0 steps host told after n (next_naming cell.0.host host steps n does).naming p (k.0.1 place cell at).1 w.0
    (peers_read_plain journal j addresses log world k.0.0.sound (users_used journal log world j k.0.0.users) k.0.0.unknocked k.1.0 k.1.1 place cell at) w.1 (reads.next_reads (own_of journal place) cell.0.host host steps n o p.host does) all

-- the input of a socket ends
pub end_reads : (journal : List Line) → IsJournal journal → AreAddresses (names_of journal) → (log : List Entry) (world : World) (place sock : ℕ) (cell : Cell × ℕ) (steps : List Step) (host : HostState) (told : List LocalEntry) (after : Cell) → slice_get world.cells place ≡ Some cell → host_on cell.0.host (sockets.Ended sock) ≡ Ok (steps, host)
    → steps_on steps (with_host cell host) ≡ Ok (told, after) → Known journal log world → ReadTurn (own_of journal place) cell.0 steps host told after
end_reads journal j addresses log world place sock cell steps host told after at does all k =
    let n = named journal log world place cell at k in
    let o = orderly journal log world place cell at k in
    let p = k.1.1.cells place cell at in
    turn_carries (own_of journal place) cell.0 steps host told after n (event_naming cell.0.host host (sockets.Ended sock) steps tt n does).naming p (k.0.1 place cell at).1 (reads.ended_plain cell.0.host host sock steps p.host does)
    (peers_read_plain journal j addresses log world k.0.0.sound (users_used journal log world j k.0.0.users) k.0.0.unknocked k.1.0 k.1.1 place cell at) (reads.ended_writes (own_of journal place) cell.0.host host sock steps does) (reads.ended_reads (own_of journal place) cell.0.host host sock steps n o does) all

-- ---- each turn

as_given : (journal : List Line) (log : List Entry) (world : World) → Known journal log world → asks.Given journal log world
as_given journal log world k = record { sound = k.0.0.sound; holds = λ place cell at. (k.0.1 place cell at).0; plain = k.1.1 }

ends_dial_none : (journal : List Line) → IsJournal journal → AreAddresses (names_of journal) → asks.EndsDialNone (Known journal)
ends_dial_none journal j addresses log world place n cell steps host told after at does all k = (end_reads journal j addresses log world place n cell steps host told after at does all k).dials (ended_dials_none cell.0.host host n steps does)

items_dial_none : (journal : List Line) → IsJournal journal → AreAddresses (names_of journal) → asks.ItemsDialNone (Known journal)
items_dial_none journal j addresses log world place cell steps host told after at does all k = (item_reads journal j addresses log world place cell steps host told after at does all k).dials (next_dials_none cell.0.host host steps does)

plain_kept : (journal : List Line) → IsJournal journal → AreAddresses (names_of journal) → KeepsTurns journal (Known journal) (Agreed journal) (λ log world. WorldIsPlain journal world)
plain_kept journal j addresses = record {
  marked = λ log world number what answer line of k p q. marked_plain journal log world number what answer line of k.0.0.sound p;
  made = λ log world place cell end number node acts next told after at there does all k p q. made_plain journal log world place cell end number node acts next told after at there does all k.0.0.sound (k.0.1 place cell at).0 p;
  asked = λ log world what by command place cell number node acts next told after line at there does all k p q. asked_plain_world journal addresses log world what by command place cell number node acts next told after line at there does all k.0.0.sound (k.0.1 place cell at).0 p;
  joined = λ log world socket place n cell steps host is can held called read k p q. joined_plain journal log world socket place n cell steps host is can held called read k.0.0.sound p;
  came = λ log world socket place cell steps host is can at called read k p q. came_plain journal log world socket place cell steps host is can at called read k.0.0.sound p;
  fed = λ log world socket which count b bytes place n cell steps host is can taken held called read k p q. fed_plain journal log world socket which count b bytes place n cell steps host is can taken held called read k.0.0.sound p;
  ended = λ log world socket which place n cell steps host told after is can none held called all read k p q. let t = end_reads journal j addresses log world place n cell steps host told after called.at called.does all k in
      ended_plain journal log world socket which place n cell steps host told after is can none held called all read k.0.0.sound p t.carries t.plain (t.dials (ended_dials_none cell.0.host host n steps called.does));
  item = λ log world place cell steps host told after at does all k p q. let t = item_reads journal j addresses log world place cell steps host told after at does all k in
      item_plain journal log world place cell steps host told after at does all k.0.0.sound p t.carries t.plain (t.dials (next_dials_none cell.0.host host steps does));
}

pub dialed_kept : (journal : List Line) → IsJournal journal → AreAddresses (names_of journal) → KeepsTurns journal (Known journal) (Agreed journal) (Dialed journal)
dialed_kept journal j addresses = beside (peers_kept journal (Known journal) (Agreed journal) j addresses (as_given journal) (ends_dial_none journal j addresses) (items_dial_none journal j addresses)) (plain_kept journal j addresses)
