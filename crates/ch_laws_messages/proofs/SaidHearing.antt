-- A host that reads an item, or hears that the input of a socket has ended, tells its nodes so, and these only note it.
use Rattle.std.proofs.Common.{◌≡◌, ℕ, List, [], ◌∷◌, Ok, refl, ap, ◌∙◌}
use Rattle.std.specs.Prelude.{slice_get, Some}
use Rattle.ch_model.specs.declared.entry.Entry.{Entry}
use Rattle.ch_model.specs.declared.line.Line.{Line}
use Rattle.ch_model.specs.declared.local.LocalEntry.{LocalEntry}
use Rattle.ch_model.specs.declared.step.SocketEvent.TheVariants as sockets
use Rattle.ch_model.specs.declared.step.Step.{Step}
use Rattle.ch_model.specs.declared.step.Step.TheVariants as steps
use Rattle.ch_model.specs.CellSteps.{steps_on}
use Rattle.ch_model.specs.Host.{host_on, host_next}
use Rattle.ch_model.specs.HostState.{HostState}
use Rattle.ch_model.specs.WorldState.{Cell, World}
use Rattle.ch_laws_bytes.proofs.Lines.{own_of}
use Rattle.ch_laws_calls.specs.Calls.{with_host}
use Rattle.ch_laws_links.specs.Naming.{IsNaming}
use Rattle.ch_laws_links.proofs.Hosts.{next_naming, event_naming}
use Rattle.ch_laws_log.specs.HostEnds.{steps_in}
use Rattle.ch_laws_plain.proofs.Writes.{next_writes}
use Rattle.ch_laws_plain.specs.HearsTurns.{ReadTurn}
use Rattle.ch_laws_plain.specs.HearsTurns as heard
use Rattle.ch_laws_plain.proofs.HearsCells.{turn_carries}
use Rattle.ch_laws_plain.specs.MeetsReads.{ReadsPlain}
use Rattle.ch_laws_plain.proofs.MeetsBegins.{peers_read_plain}
use Rattle.ch_laws_plain.proofs.ReadsTurns as reads
use Rattle.ch_laws_race.specs.Chains.{unposted}
use Rattle.ch_laws_calls.proofs.UsersKept.{users_used}
use Rattle.ch_laws_writes.specs.Orderly.{IsOrderly}
use Rattle.ch_laws_peers.specs.Standing.{IsOfNodes, Standing}

-- ---- a cell that reads

named : (journal : List Line) (log : List Entry) (world : World) (place : ℕ) (cell : Cell × ℕ) → slice_get world.cells place ≡ Some cell → Standing journal log world → IsNaming cell.0.host
named journal log world place cell at st = (st.all.sound.links.naming place cell at).naming

orderly : (journal : List Line) (log : List Entry) (world : World) (place : ℕ) (cell : Cell × ℕ) → slice_get world.cells place ≡ Some cell → Standing journal log world → IsOrderly (own_of journal place) cell.0.host
orderly journal log world place cell at st = st.all.sound.ends.flowing.orderly place cell at

plainly : (journal : List Line) → IsOfNodes journal → (log : List Entry) (world : World) (place : ℕ) (cell : Cell × ℕ) → slice_get world.cells place ≡ Some cell → Standing journal log world → ReadsPlain cell.0
plainly journal nodes log world place cell at st = peers_read_plain journal nodes.is nodes.addresses log world st.all.sound (users_used journal log world nodes.is st.all.users) st.all.unknocked st.peers st.plain place cell at

-- an item is read
pub item_told : (journal : List Line) → IsOfNodes journal → (log : List Entry) (world : World) (place : ℕ) (cell : Cell × ℕ) (steps : List Step) (host : HostState) (told : List LocalEntry) (after : Cell) → slice_get world.cells place ≡ Some cell → host_next cell.0.host ≡ Ok (Some steps, host)
    → steps_on steps (with_host cell host) ≡ Ok (told, after) → Standing journal log world → ReadTurn (own_of journal place) cell.0 steps host told after
item_told journal nodes log world place cell steps host told after at does all st =
    let n = named journal log world place cell at st in
    let o = orderly journal log world place cell at st in
    let p = st.plain.cells place cell at in
    let w = next_writes (own_of journal place) cell.0.host host steps n o p.host does in
    turn_carries (own_of journal place) cell.0 steps host told after n (next_naming cell.0.host host steps n does).naming p (st.meets place cell at).1 w.0
    (plainly journal nodes log world place cell at st) w.1 (reads.next_reads (own_of journal place) cell.0.host host steps n o p.host does) all

-- the input of a socket has ended
pub end_told : (journal : List Line) → IsOfNodes journal → (log : List Entry) (world : World) (place : ℕ) (cell : Cell × ℕ) (sock : ℕ) (steps : List Step) (host : HostState) (told : List LocalEntry) (after : Cell) → slice_get world.cells place ≡ Some cell → host_on cell.0.host (sockets.Ended sock) ≡ Ok (steps, host)
    → steps_on steps (with_host cell host) ≡ Ok (told, after) → Standing journal log world → ReadTurn (own_of journal place) cell.0 steps host told after
end_told journal nodes log world place cell sock steps host told after at does all st =
    let n = named journal log world place cell at st in
    let o = orderly journal log world place cell at st in
    let p = st.plain.cells place cell at in
    turn_carries (own_of journal place) cell.0 steps host told after n (event_naming cell.0.host host (sockets.Ended sock) steps tt n does).naming p (st.meets place cell at).1 (reads.ended_plain cell.0.host host sock steps p.host does)
    (plainly journal nodes log world place cell at st) (reads.ended_writes (own_of journal place) cell.0.host host sock steps does) (reads.ended_reads (own_of journal place) cell.0.host host sock steps n o does) all

-- ---- what is told of it

-- two spellings of one thing: steps without those that post
pub unposted_so : (done : List Step) → heard.unposted done ≡ unposted done
unposted_so [] = refl
unposted_so (steps.Post end event ∷ rest) = unposted_so rest
unposted_so (step ∷ rest) = ap (λ (l : List Step). step ∷ l) (unposted_so rest)

-- all steps that are told are the host's, and it is as they left it
only_so : (journal : List Line) (place : ℕ) (cell : Cell) (done : List Step) (host : HostState) (told : List LocalEntry) (after : Cell) → ReadTurn (own_of journal place) cell done host told after → (steps_in told ≡ unposted done) × (after.host ≡ host)
only_so journal place cell done host told after t = (t.same_steps ∙ unposted_so done, t.same_host)

pub only_item : (journal : List Line) → IsOfNodes journal → (log : List Entry) (world : World) (place : ℕ) (cell : Cell × ℕ) (steps : List Step) (host : HostState) (told : List LocalEntry) (after : Cell) → slice_get world.cells place ≡ Some cell → host_next cell.0.host ≡ Ok (Some steps, host)
    → steps_on steps (with_host cell host) ≡ Ok (told, after) → Standing journal log world → (steps_in told ≡ unposted steps) × (after.host ≡ host)
only_item journal nodes log world place cell steps host told after at does all st = only_so journal place cell.0 steps host told after (item_told journal nodes log world place cell steps host told after at does all st)

pub only_ended : (journal : List Line) → IsOfNodes journal → (log : List Entry) (world : World) (place : ℕ) (cell : Cell × ℕ) (sock : ℕ) (steps : List Step) (host : HostState) (told : List LocalEntry) (after : Cell) → slice_get world.cells place ≡ Some cell → host_on cell.0.host (sockets.Ended sock) ≡ Ok (steps, host)
    → steps_on steps (with_host cell host) ≡ Ok (told, after) → Standing journal log world → (steps_in told ≡ unposted steps) × (after.host ≡ host)
only_ended journal nodes log world place cell sock steps host told after at does all st = only_so journal place cell.0 steps host told after (end_told journal nodes log world place cell sock steps host told after at does all st)
