-- What a node's call makes of its cell, in a plain world: its streams go on, and one socket is dialed at most.
use Rattle.std.proofs.Common.{◌≡◌, inl, ℕ, Bool, true, false, List, Ok, refl, sym, subst}
use Rattle.std.specs.Prelude.{find, slice_get, Some, Result}
use Rattle.ch_base.specs.Addresses.{IsAddress}
use Rattle.ch_base.specs.declared.address.Address.{Address}
use Rattle.ch_base.specs.declared.event.Room.{Room}
use Rattle.ch_ident.specs.declared.identifier.ProcessId.{ProcessId}
use Rattle.ch_ident.specs.declared.message.Message.{Message}
use Rattle.ch_static.specs.declared.command.Command.{Command}
use Rattle.ch_static.specs.declared.command.Command.TheVariants as commands
use Rattle.ch_static.specs.declared.target.Target.TheVariants as targets
use Rattle.ch_model.specs.declared.act.Act.{Act}
use Rattle.ch_model.specs.declared.command.CommandError.{CommandError}
use Rattle.ch_model.specs.declared.entry.Entry.{Entry}
use Rattle.ch_model.specs.declared.line.Line.{Line}
use Rattle.ch_model.specs.declared.line.What.{What}
use Rattle.ch_model.specs.declared.local.LocalEntry.{LocalEntry}
use Rattle.ch_model.specs.declared.name.ProcName.{ProcName}
use Rattle.ch_model.specs.Cell.{room_for}
use Rattle.ch_model.specs.CellSteps.{is_at, with_node, acts_on}
use Rattle.ch_model.specs.Naming.{Names, address_as}
use Rattle.ch_model.specs.Node.{node_make, node_command, target_node}
use Rattle.ch_model.specs.NodeIds.{is_here}
use Rattle.ch_model.specs.NodePairs.{conns_by}
use Rattle.ch_model.specs.NodeState.{NodeState}
use Rattle.ch_model.specs.World.{names_of}
use Rattle.ch_model.specs.WorldState.{Cell, World}
use Rattle.ch_laws_log.specs.Declared.{is_declared}
use Rattle.ch_laws_log.specs.HostEnds.{steps_in}
use Rattle.ch_laws_log.proofs.Homes.{own_is}
use Rattle.ch_laws_bytes.specs.Streams.{AreAddresses}
use Rattle.ch_laws_bytes.proofs.Lines.{own_of}
use Rattle.ch_laws_links.specs.Naming.{IsNaming}
use Rattle.ch_laws_many.specs.ManyLines.{is_of_many}
use Rattle.ch_laws_writes.specs.Orderly.{IsOrderly}
use Rattle.ch_laws_connections.specs.Senders.{sender_of, Own}
use Rattle.ch_laws_connections.specs.Fits.{FitsAs, CellHolds}
use Rattle.ch_laws_connections.proofs.Cells.{node_fits}
use Rattle.ch_laws_connections.proofs.CellSteps.{room_fits}
use Rattle.ch_laws_connections.proofs.Does as does
use Rattle.ch_laws_connections.proofs.Nodes as agrees
use Rattle.ch_laws_calls.specs.Sound.{Sound}
use Rattle.ch_laws_calls.specs.Turns.{IsAsked, end_in}
use Rattle.ch_laws_plain_nodes.specs.Acts.{OpensTo}
use Rattle.ch_laws_plain_nodes.specs.Does.{Does, Makes}
use Rattle.ch_laws_plain_nodes.specs.Plain.{IsPlain, IsPlainCommand}
use Rattle.ch_laws_plain_nodes.proofs.Calls.{makes, told_does, ends_open_none}
use Rattle.ch_laws_plain_nodes.proofs.Commands as plain
use Rattle.ch_laws_plain_nodes.proofs.Sends.{home_notes}
use Rattle.ch_laws_plain_nodes.proofs.Steps.{given_so}
use Rattle.ch_laws_plain.specs.Acts.{AreShort, AskedTurn}
use Rattle.ch_laws_plain.specs.Plain.{CellIsPlain, WorldIsPlain}
use Rattle.ch_laws_plain.proofs.Asked.{asked_turn}
use Rattle.ch_laws_plain.specs.AsksAsks.{AsksPlainly, goes_to, DialsOnce}
use Rattle.ch_laws_plain.proofs.AsksActs.{AreQuiet, acts_named, acts_quiet, notes_quiet, closes_quiet, sent_asked, asks_once, quiet_once, named_once}
use Rattle.ch_laws_plain.proofs.AsksCommands.{asks_plainly, plain_command, goes_declared}
use Rattle.ch_laws_plain.proofs.AsksPlaces.{housed, address_spelled}
use Rattle.ch_laws_plain.proofs.AsksShort.{opens_none_to, acts_short}

-- the cell after a turn: its streams went on, it is plain, links and ends name each other there, and one socket was dialed at most
pub record TurnIsPlain (at : ℕ → Address) (own : Address) (end : ℕ) (peer : Address) (cell : Cell) (told : List LocalEntry) (after : Cell) : Type 0 where
  pub asked : AskedTurn at cell (steps_in told) after
  pub naming : IsNaming after.host
  pub dials : DialsOnce own end peer (steps_in told) after.host

-- ---- a command

-- the acts that are done of it are those that the host agrees with
command_fits : (cell : Cell) (end number : ℕ) (node : NodeState) (by : ℕ) (command : Command) (done : List Act) (next : NodeState) → CellHolds cell → find (is_at end) cell.nodes ≡ Some (number, node) → IsPlain next → node_command node by command (room_for cell.host end node.own (target_node node by command)) ≡ Ok (done, next) → FitsAs false cell.host end done (sender_of next)
command_fits cell end number node by command done next holds found plain e = subst (λ b. FitsAs b cell.host end done (sender_of next)) plain.unshut
    (node_fits (agrees.RoomFits node (target_node node by command) room) cell.host end done (sender_of node) (sender_of next) did (room_fits cell.host end node (target_node node by command)) (holds.1.nodes end (number, node) found)).1
  where
    room : Room
    room = room_for cell.host end node.own (target_node node by command)

    did : Own (sender_of node) → does.Does (agrees.RoomFits node (target_node node by command) room) (sender_of node) done (sender_of next)
    did = subst (λ (r : Result (List Act × NodeState) CommandError). does.AllDo (agrees.RoomFits node (target_node node by command) room) (sender_of node) r) e (agrees.on_command node by command room)

-- one connection is opened at most, and that to the node where the command goes
command_opens : (node next : NodeState) (by : ℕ) (command : Command) (room : Room) (done : List Act) → IsPlain node → IsPlainCommand command → node_command node by command room ≡ Ok (done, next) → OpensTo node.own (goes_to node.own command) done
command_opens node next by (commands.Send (targets.Process to) said) room done p i e = plain.does_open node next by to said room done e
command_opens node next by (commands.Receive mark) room done p i e = opens_none_to node.own node.own done (plain.takes_open_none node by done next (plain.does_take node next by mark room done p e))
command_opens node next by commands.End room done p i e = opens_none_to node.own node.own done (ends_open_none node by done next (plain.does_end node next by room done p e).0)
command_opens node next by command room done p i e = absurd i

-- one socket is dialed at most, and that for the link with that node
send_dials : (end : ℕ) (node next : NodeState) (by : ℕ) (to : ProcessId) (said : Message) (room : Room) (cell after : Cell) (done : List Act) (told : List LocalEntry) (here : Bool) → is_here node to.node ≡ here → node_command node by (commands.Send (targets.Process to) said) room ≡ Ok (done, next) → CellHolds cell → FitsAs false cell.host end done (sender_of next)
    → acts_on end done (with_node end next cell) ≡ Ok (told, after) → DialsOnce node.own end to.node (steps_in told) after.host
send_dials end node next by to said room cell after done told true h e holds f all = inl (quiet_once told after (acts_on end done (with_node end next cell)) (acts_quiet end done (with_node end next cell) (notes_quiet done (home_notes node by to said done next (plain.does_home node next by to said room done h e)))) all)
send_dials end node next by to said room cell after done told false h e holds f all = asks_once node.own end to.node (with_node end next cell) after told (acts_on end done (with_node end next cell)) h (sent_asked end node next by to said done (with_node end next cell) (plain.does_away node next by to said room done h e) holds.1.links f) all

command_dials : (end : ℕ) (node next : NodeState) (by : ℕ) (command : Command) (room : Room) (cell after : Cell) (done : List Act) (told : List LocalEntry) → IsPlain node → IsPlainCommand command → node_command node by command room ≡ Ok (done, next) → CellHolds cell → FitsAs false cell.host end done (sender_of next)
    → acts_on end done (with_node end next cell) ≡ Ok (told, after) → DialsOnce node.own end (goes_to node.own command) (steps_in told) after.host
command_dials end node next by (commands.Send (targets.Process to) said) room cell after done told p i e holds f all = send_dials end node next by to said room cell after done told (is_here node to.node) refl e holds f all
command_dials end node next by (commands.Receive mark) room cell after done told p i e holds f all = inl (quiet_once told after (acts_on end done (with_node end next cell)) (acts_quiet end done (with_node end next cell) (notes_quiet done (plain.does_take node next by mark room done p e).tells.did)) all)
command_dials end node next by commands.End room cell after done told p i e holds f all = inl (quiet_once told after (acts_on end done (with_node end next cell)) (acts_quiet end done (with_node end next cell) (subst AreQuiet (sym (plain.does_end node next by room done p e).0.did) (closes_quiet (conns_by node.pairs by)))) all)
command_dials end node next by command room cell after done told p i e holds f all = absurd i

-- ---- turns

module _ (journal : List Line) (log : List Entry) (world : World) (sound : Sound journal log world) (plain_world : WorldIsPlain journal world) (place : ℕ) (cell : Cell × ℕ) (at : slice_get world.cells place ≡ Some cell) (holds : CellHolds cell.0) where
  orderly : IsOrderly (own_of journal place) cell.0.host
  orderly = sound.ends.flowing.orderly place cell at

  naming : IsNaming cell.0.host
  naming = (sound.links.naming place cell at).naming

  plain_cell : CellIsPlain cell.0
  plain_cell = plain_world.cells place cell at

  -- what the acts of a plain node make of it
  turned : (own peer : Address) (end number : ℕ) (node next : NodeState) (done : List Act) (told : List LocalEntry) (after : Cell) → find (is_at end) cell.0.nodes ≡ Some (number, node) → Does node done next → AreShort done → FitsAs false cell.0.host end done (sender_of next) → acts_on end done (with_node end next cell.0) ≡ Ok (told, after)
      → DialsOnce own end peer (steps_in told) after.host → TurnIsPlain (own_of journal place) own end peer cell.0 told after
  turned own peer end number node next done told after found d short f all dials = record {
    asked = asked_turn (own_of journal place) node.own end number cell.0 after node next done told found d.arrived d.node d.did short holds.1.links f orderly plain_cell all;
    naming = named_once told after (acts_on end done (with_node end next cell.0)) (acts_named end done (with_node end next cell.0) naming) all;
    dials = dials;
  }

  -- a process is made
  pub made_turn : (end number : ℕ) (node next : NodeState) (done : List Act) (told : List LocalEntry) (after : Cell) → find (is_at end) cell.0.nodes ≡ Some (number, node) → node_make node ≡ Ok (done, next) → acts_on end done (with_node end next cell.0) ≡ Ok (told, after) → TurnIsPlain (own_of journal place) node.own end node.own cell.0 told after
  made_turn end number node next done told after found e all = turned node.own node.own end number node next done told after found (told_does node done next made.tells) (subst AreShort (sym made.did) tt) fits all
      (inl (quiet_once told after (acts_on end done (with_node end next cell.0)) (acts_quiet end done (with_node end next cell.0) (subst AreQuiet (sym made.did) tt)) all))
    where
      made : Makes node done next
      made = given_so (Makes node) (node_make node) done next (makes node (plain_cell.nodes end (number, node) found).plain) e

      did : Own (sender_of node) → does.Does does.Any (sender_of node) done (sender_of next)
      did = subst (λ (r : Result (List Act × NodeState) CommandError). does.AllDo does.Any (sender_of node) r) e (agrees.on_make node)

      fits : FitsAs false cell.0.host end done (sender_of next)
      fits = subst (λ b. FitsAs b cell.0.host end done (sender_of next)) made.tells.node.unshut (node_fits does.Any cell.0.host end done (sender_of node) (sender_of next) did tt (holds.1.nodes end (number, node) found)).1

  -- a process asks something
  module _ (addresses : AreAddresses (names_of journal)) (what : What) (by : ProcName) (command : Command) (asked : IsAsked journal world what by command place) where
    pub asks : AsksPlainly world.names by command
    asks = asks_plainly world.names what by command (subst (λ (k : Names). is_of_many k what ≡ true) (sym sound.ends.set.names) asked.of) asked.asks

    pub own_named : (number : ℕ) (node : NodeState) → find (is_at (end_in world by)) cell.0.nodes ≡ Some (number, node) → node.own ≡ address_as world.names by.node
    own_named number node found = own_is journal world (address_as world.names by.node) place cell (number, node) (housed journal log world sound) asked.cell at found

    spelled : (name : List ℕ) → is_declared world.names name ≡ true → IsAddress (address_as world.names name)
    spelled name declared = address_spelled world.names name (subst AreAddresses (sym sound.ends.set.names) addresses) declared

    pub command_turn : (number : ℕ) (node next : NodeState) (done : List Act) (told : List LocalEntry) (after : Cell) → find (is_at (end_in world by)) cell.0.nodes ≡ Some (number, node) → node_command node by.counter command (room_for cell.0.host (end_in world by) node.own (target_node node by.counter command)) ≡ Ok (done, next)
        → acts_on (end_in world by) done (with_node (end_in world by) next cell.0) ≡ Ok (told, after) → TurnIsPlain (own_of journal place) node.own (end_in world by) (goes_to node.own command) cell.0 told after
    command_turn number node next done told after found e all = turned node.own (goes_to node.own command) end number node next done told after found did (acts_short node.own (goes_to node.own command) done own_spelled peer_spelled did.did (command_opens node next by.counter command room done is_plain plainly e)) fits all
        (command_dials end node next by.counter command room cell.0 after done told is_plain plainly e holds fits all)
      where
        end : ℕ
        end = end_in world by

        room : Room
        room = room_for cell.0.host end node.own (target_node node by.counter command)

        is_plain : IsPlain node
        is_plain = (plain_cell.nodes end (number, node) found).plain

        plainly : IsPlainCommand command
        plainly = plain_command world.names command asks.sends

        did : Does node done next
        did = plain.on_command node next by.counter command room done is_plain plainly e

        fits : FitsAs false cell.0.host end done (sender_of next)
        fits = command_fits cell.0 end number node by.counter command done next holds found did.node e

        own_spelled : IsAddress node.own
        own_spelled = subst IsAddress (sym (own_named number node found)) (spelled by.node asks.declared)

        peer_spelled : IsAddress (goes_to node.own command)
        peer_spelled = let there = goes_declared world.names node.own by command asks (own_named number node found) in subst IsAddress (sym there.2) (spelled there.0 there.1)
