-- All that is got is got as it should be, after each turn.
use Rattle.std.proofs.Common.{◌≡◌, ◌⊎◌, inl, inr, ℕ, true, List, [], ◌∷◌, ◌++◌, length, Ok, refl, sym, ap, subst}
use Rattle.std.specs.Prelude.{find, slice_get, Some}
use Rattle.ch_static.specs.declared.command.Command.{Command}
use Rattle.ch_model.specs.declared.act.Act.{Act}
use Rattle.ch_model.specs.declared.entry.Entry.{Entry}
use Rattle.ch_model.specs.declared.entry.Entry.TheVariants as entries
use Rattle.ch_model.specs.declared.line.Line.{Line}
use Rattle.ch_model.specs.declared.line.What.{What}
use Rattle.ch_model.specs.declared.local.LocalEntry.{LocalEntry}
use Rattle.ch_model.specs.declared.name.End.{End}
use Rattle.ch_model.specs.declared.name.ProcName.{ProcName}
use Rattle.ch_model.specs.declared.step.SocketEvent.TheVariants as sockets
use Rattle.ch_model.specs.declared.step.Step.{Step}
use Rattle.ch_model.specs.Cell.{room_for}
use Rattle.ch_model.specs.CellSteps.{is_at, with_node, acts_on, steps_on}
use Rattle.ch_model.specs.Host.{host_next}
use Rattle.ch_model.specs.HostState.{HostState}
use Rattle.ch_model.specs.Node.{node_make, node_command, target_node}
use Rattle.ch_model.specs.NodeState.{NodeState}
use Rattle.ch_model.specs.World.{names_of}
use Rattle.ch_model.specs.WorldHappenings.{with_cell}
use Rattle.ch_model.specs.WorldState.{Cell, WorldSocket, World}
use Rattle.ch_model.specs.WorldSteps.{all_told}
use Rattle.ch_laws_bytes.proofs.Lines.{own_of}
use Rattle.ch_laws_plain_logs.specs.Plain.{IsPlain}
use Rattle.ch_laws_plain_nodes.specs.Does.{Makes}
use Rattle.ch_laws_plain_nodes.specs.Plain.{IsPlain as IsPlainNode}
use Rattle.ch_laws_plain_nodes.proofs.Calls.{makes}
use Rattle.ch_laws_plain_nodes.proofs.Steps.{given_so}
use Rattle.ch_laws_calls.specs.Calls.{with_host, IsCalled}
use Rattle.ch_laws_calls.specs.Turns.{told_on, IsAsked, end_in, KeepsTurns}
use Rattle.ch_laws_peers.specs.Reads.{AllGet}
use Rattle.ch_laws_peers.specs.Standing.{IsOfNodes}
use Rattle.ch_laws_messages.specs.WayReadingGoes.{Known, OneRead, ReadingGoes}
use Rattle.ch_laws_messages.specs.GotReadingGoes.{KnownGot}
use Rattle.ch_laws_messages.specs.GotReceipts.{AreGotWell, AllGotWell}
use Rattle.ch_laws_messages.specs.GotSaidWell.{SaidWell}
use Rattle.ch_laws_messages.proofs.GotAsked.{plain_asked}
use Rattle.ch_laws_messages.proofs.GotHosts.{has_broke, Calm, ended_does}
use Rattle.ch_laws_messages.proofs.GotTold.{NoGots, steps_tell, calm_told, none_broke}
use Rattle.ch_laws_messages.proofs.GotTurn.{ItemGot, item_tells}
use Rattle.ch_laws_messages.proofs.GotReceipts.{no_receipts, got_more, got_well}
use Rattle.ch_laws_messages.proofs.GotGots.{ActsGetNone, acts_tell, SaidHome, command_gets, home_well}
use Rattle.ch_laws_messages.proofs.GotWorlds.{follows}

asked_well : (journal : List Line) (log : List Entry) (world : World) (what : What) (by : ProcName) (command : Command) (place : ℕ) (cell : Cell × ℕ) (number : ℕ) (node : NodeState) (done : List Act) (next : NodeState) (told : List LocalEntry) (after : Cell) → IsAsked journal world what by command place → slice_get world.cells place ≡ Some cell → find (is_at (end_in world by)) cell.0.nodes ≡ Some (number, node)
    → node_command node by.counter command (room_for cell.0.host (end_in world by) node.own (target_node node by.counter command)) ≡ Ok (done, next) → acts_on (end_in world by) done (with_node (end_in world by) next cell.0) ≡ Ok (told, after) → Known journal log world
    → IsPlain (log ++ (told_on place cell after told world).0) → SaidWell journal (log ++ (told_on place cell after told world).0) → AreGotWell log (told_on place cell after told world).0
asked_well journal log world what by command place cell number node done next told after asks at found e ran k kinds well = by_gets (command_gets node next by.counter command (room_for cell.0.host (end_in world by) node.own (target_node node by.counter command)) done its_plain (plain_asked (names_of journal) world.names what by command asks.of asks.asks) e) where
  its_plain : IsPlainNode node
  its_plain = ((k.0.plain.cells place cell at).nodes (end_in world by) (number, node) found).plain

  kept : World
  kept = with_cell place (after, cell.1) world

  by_gets : ActsGetNone done ⊎ SaidHome node done → AreGotWell log (told_on place cell after told world).0
  by_gets (inl n) = acts_tell log place (end_in world by) done (with_node (end_in world by) next cell.0) told after after (with_cell place (after, cell.1) world) n ran
  by_gets (inr h) = home_well journal log place (end_in world by) node done (with_node (end_in world by) next cell.0) told after after (with_cell place (after, cell.1) world) h ran kinds well

pub ended_well : (journal : List Line) (log : List Entry) (world : World) (socket : WorldSocket) (which : End) (place n : ℕ) (cell : Cell × ℕ) (steps : List Step) (host : HostState) (told : List LocalEntry) (after : Cell) → IsCalled world place cell (sockets.Ended n) steps host → steps_on steps (with_host cell host) ≡ Ok (told, after) → Known journal log world
    → IsPlain (log ++ entries.Fed socket.name which 0 ∷ (told_on place cell after told world).0) → NoGots (told_on place cell after told world).0
ended_well journal log world socket which place n cell steps host told after is ran k kinds = by_calm (ended_does (own_of journal place) cell.0.host host n steps (k.0.all.sound.links.naming place cell is.at).naming (k.0.all.sound.ends.flowing.orderly place cell is.at) is.does) where
  assoc : (xs ys : List Entry) (z : Entry) → xs ++ z ∷ ys ≡ (xs ++ z ∷ []) ++ ys
  assoc [] ys z = refl
  assoc (w ∷ xs) ys z = ap (λ (l : List Entry). w ∷ l) (assoc xs ys z)

  by_calm : Calm cell.0.host steps host ⊎ (has_broke steps ≡ true) → NoGots (told_on place cell after told world).0
  by_calm (inr broke) = none_broke place steps (with_host cell host) told after after (log ++ entries.Fed socket.name which 0 ∷ []) (with_cell place (after, cell.1) world) broke ran (subst IsPlain (assoc log (told_on place cell after told world).0 (entries.Fed socket.name which 0)) kinds)
  by_calm (inl c) = subst (λ (t : List LocalEntry). NoGots (all_told place after t (with_cell place (after, cell.1) world)).0) (sym (calm_told steps (with_host cell host) told after c.posted ran).1) (steps_tell place after steps (with_cell place (after, cell.1) world))

item_well : (journal : List Line) (nodes : IsOfNodes journal) (log : List Entry) (world : World) (k : Known journal log world) (well : SaidWell journal log) (g : AllGet journal log world) (place : ℕ) (cell : Cell × ℕ) (done : List Step) (host : HostState) (told : List LocalEntry) (after : Cell) (at : slice_get world.cells place ≡ Some cell) (ran : steps_on done (with_host cell host) ≡ Ok (told, after))
    (reading : OneRead journal place cell log world (log ++ (told_on place cell after told world).0) (told_on place cell after told world).1) → host_next cell.0.host ≡ Ok (Some done, host) → IsPlain (log ++ (told_on place cell after told world).0) → AreGotWell log (told_on place cell after told world).0
item_well journal nodes log world k well g place cell done host told after at ran reading e plain = by_told (item_tells journal nodes log world k well g place cell done host told after at ran reading e plain) where
  by_told : NoGots (told_on place cell after told world).0 ⊎ ItemGot journal nodes log world k well g place cell done host told after at ran reading → AreGotWell log (told_on place cell after told world).0
  by_told (inl n) = no_receipts log (told_on place cell after told world).0 n
  by_told (inr i) = subst (AreGotWell log) (sym i.told_is) (got_well journal log world k well i.party i.pair i.x i.id i.payload i.word (follows i.party world i.x log i.id i.payload i.word i.next) i.from i.to i.so.pair i.so.opened i.so.counted, tt)

made_well : (journal : List Line) (log : List Entry) (world : World) (place : ℕ) (cell : Cell × ℕ) (end number : ℕ) (node : NodeState) (done : List Act) (next : NodeState) (told : List LocalEntry) (after : Cell) → slice_get world.cells place ≡ Some cell → find (is_at end) cell.0.nodes ≡ Some (number, node) → node_make node ≡ Ok (done, next) → acts_on end done (with_node end next cell.0) ≡ Ok (told, after) → Known journal log world
    → AreGotWell log (told_on place cell after told world).0
made_well journal log world place cell end number node done next told after at found e ran k = acts_tell log place end done (with_node end next cell.0) told after after (with_cell place (after, cell.1) world) (subst ActsGetNone (sym made.did) tt) ran where
  made : Makes node done next
  made = given_so (Makes node) (node_make node) done next (makes node ((k.0.plain.cells place cell at).nodes end (number, node) found).plain) e

pub gots_kept : (journal : List Line) → IsOfNodes journal → (reading : ReadingGoes journal) → KeepsTurns journal (KnownGot journal) (KnownGot journal) AllGotWell
gots_kept journal nodes reading = record {
  marked = λ log world number what answer line many p w q. got_more [] log (entries.Line number answer ∷ []) w (tt, tt);
  made = λ log world place cell end number node done next told after at found e ran p w q. got_more [] log (told_on place cell after told world).0 w (made_well journal log world place cell end number node done next told after at found e ran p.0.0);
  asked = λ log world what by command place cell number node done next told after asks at found e ran p w q. got_more [] log (told_on place cell after told world).0 w (asked_well journal log world what by command place cell number node done next told after asks at found e ran p.0.0 q.0.0.0.kinds q.0.1);
  joined = λ log world socket place n cell steps host is may held call all p w q. got_more [] log _ w (tt, no_receipts (log ++ entries.Joined socket.name ∷ []) _ (steps_tell place (with_host cell host) steps _));
  came = λ log world socket place cell steps host is may held call all p w q. got_more [] log _ w (tt, no_receipts (log ++ entries.Came socket.name ∷ []) _ (steps_tell place (with_host cell host) steps _));
  fed = λ log world socket which count b bytes place n cell steps host is may taken held call all p w q. got_more [] log _ w (tt, no_receipts (log ++ entries.Fed socket.name which (length (b ∷ bytes)) ∷ []) _ (steps_tell place (with_host cell host) steps _));
  ended = λ log world socket which place n cell steps host told after is may none held call ran all p w q. got_more [] log _ w (tt, no_receipts (log ++ entries.Fed socket.name which 0 ∷ []) _ (ended_well journal log world socket which place n cell steps host told after call ran p.0.0 q.0.0.0.kinds));
  item = λ log world place cell steps host told after at e ran p w q. got_more [] log (told_on place cell after told world).0 w (item_well journal nodes log world p.0.0 p.0.1 p.1 place cell steps host told after at ran (reading.item log world place cell steps host told after at e ran p.0.0 q.0.0) e q.0.0.0.kinds);
}
