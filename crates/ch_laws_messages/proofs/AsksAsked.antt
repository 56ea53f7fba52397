-- The turn in which a process asks something of its node: the frames that are written have the places of what they carry.
use Rattle.std.proofs.Common.{◌≡◌, ◌≤◌, ℕ, Bool, true, false, List, [], ◌++◌, length, Ok, refl, sym, ap, ◌∙◌, subst}
use Rattle.std.specs.Prelude.{find, slice_get, Some}
use Rattle.ch_base.specs.declared.address.Address.{Address}
use Rattle.ch_ident.specs.declared.identifier.ProcessId.{ProcessId}
use Rattle.ch_ident.specs.declared.message.Message.{Message}
use Rattle.ch_ident.specs.Spelling.{user}
use Rattle.ch_static.specs.declared.command.Command.{Command}
use Rattle.ch_static.specs.declared.command.Command.TheVariants as commands
use Rattle.ch_static.specs.declared.target.Target.{Target}
use Rattle.ch_static.specs.declared.target.Target.TheVariants as targets
use Rattle.ch_wire.specs.declared.TheConstants.{MOST_PAYLOAD_BYTES}
use Rattle.ch_model.specs.declared.act.Act.{Act}
use Rattle.ch_model.specs.declared.entry.Entry.{Entry}
use Rattle.ch_model.specs.declared.line.Line.{Line}
use Rattle.ch_model.specs.declared.line.What.{What}
use Rattle.ch_model.specs.declared.local.LocalEntry.{LocalEntry}
use Rattle.ch_model.specs.declared.name.ProcName.{ProcName}
use Rattle.ch_model.specs.Cell.{room_for}
use Rattle.ch_model.specs.CellSteps.{is_at, with_node, acts_on}
use Rattle.ch_model.specs.Naming.{process_as}
use Rattle.ch_model.specs.Node.{node_command, target_node}
use Rattle.ch_model.specs.NodeIds.{process_id, is_here}
use Rattle.ch_model.specs.NodePairs.{conns_by}
use Rattle.ch_model.specs.NodeState.{NodeState}
use Rattle.ch_model.specs.WorldState.{Cell, World}
use Rattle.ch_laws_bytes.proofs.Lines.{own_of}
use Rattle.ch_laws_connections.specs.Fits.{FitsAs, CellHolds}
use Rattle.ch_laws_connections.specs.Senders.{sender_of}
use Rattle.ch_laws_connections.specs.Tables.{given_so}
use Rattle.ch_laws_log.specs.Declared.{is_declared}
use Rattle.ch_laws_log.specs.HostEnds.{steps_in}
use Rattle.ch_laws_plain.proofs.AsksActs.{AreQuiet, acts_quiet, closes_quiet, quiet_once}
use Rattle.ch_laws_plain_nodes.specs.Does.{SendsHome, SendsAway, Takes, Ends, got_acts}
use Rattle.ch_laws_plain_nodes.specs.Plain.{IsPlain}
use Rattle.ch_laws_plain_nodes.proofs.Commands.{does_away, does_home, does_take, does_end}
use Rattle.ch_laws_calls.specs.Turns.{told_on, IsAsked, end_in}
use Rattle.ch_laws_writes.specs.Orderly.{IsOrderly}
use Rattle.ch_laws_peers.specs.Says.{AllSay}
use Rattle.ch_laws_peers.specs.Standing.{IsOfNodes, Standing}
use Rattle.ch_laws_messages.specs.WayAsked.{AskedTruly, AsksTruly}
use Rattle.ch_laws_messages.proofs.SaidAsks.{Agreed, Acts, SendsToDeclared, sender_acts, command_agreed}
use Rattle.ch_laws_messages.proofs.SaidSender as sender
use Rattle.ch_laws_messages.specs.AsksDoes.{Does}
use Rattle.ch_laws_messages.proofs.AsksActs.{acts_do}
use Rattle.ch_laws_messages.proofs.AsksAway.{away_turn}
use Rattle.ch_laws_messages.proofs.AsksBare.{told_bare}
use Rattle.ch_laws_messages.proofs.AsksSent.{SaysAway, says_so}
use Rattle.ch_laws_messages.proofs.AsksTurn.{bare_turn}

module _ (journal : List Line) (nodes : IsOfNodes journal) (log : List Entry) (world : World) (what : What) (by : ProcName) (place : ℕ) (cell : Cell × ℕ) (number : ℕ) (node : NodeState) (done : List Act) (next : NodeState) (told : List LocalEntry) (after : Cell) (at : slice_get world.cells place ≡ Some cell)
    (found : find (is_at (end_in world by)) cell.0.nodes ≡ Some (number, node)) (all : acts_on (end_in world by) done (with_node (end_in world by) next cell.0) ≡ Ok (told, after)) (st : Standing journal log world) (say : AllSay journal log world)
    (st_now : Standing journal (log ++ (told_on place cell after told world).0) (told_on place cell after told world).1) (say_now : AllSay journal (log ++ (told_on place cell after told world).0) (told_on place cell after told world).1) where
  abbrev end : ℕ
  end = end_in world by

  abbrev stored : Cell
  stored = with_node end next cell.0

  abbrev whole : List Entry × World
  whole = told_on place cell after told world

  abbrev Truly : Type 0
  Truly = AskedTruly journal log world place cell.0.host (steps_in told) after.host (log ++ whole.0) whole.1

  orderly : IsOrderly (own_of journal place) cell.0.host
  orderly = st.all.sound.ends.flowing.orderly place cell at

  plain : IsPlain node
  plain = ((st.plain.cells place cell at).nodes end (number, node) found).plain

  d : Does (own_of journal place) cell.0.host (steps_in told) after.host
  d = acts_do (own_of journal place) end done stored told after orderly all

  -- things are told, and connections are closed
  quiet : AreQuiet done → Truly
  quiet q = bare_turn journal nodes log world place cell after.host whole.0 whole.1 at st say (steps_in told) d (quiet_once told after (acts_on end done stored) (acts_quiet end done stored q) all) (told_bare (own_of journal place) end done stored told after q orderly all)

  -- what a command makes of a node
  abbrev Turn : Command → Type 0
  Turn command = IsAsked journal world what by command place → node_command node by.counter command (room_for cell.0.host end node.own (target_node node by.counter command)) ≡ Ok (done, next) → Truly

  receives : (mark : List ℕ) → Turn (commands.Receive mark)
  receives mark asked does = quiet (subst AreQuiet (sym t.did) tt) where
    t : Takes node by.counter done next
    t = does_take node next by.counter mark (room_for cell.0.host end node.own (target_node node by.counter (commands.Receive mark))) done plain does

  ends : Turn commands.End
  ends asked does = quiet (subst AreQuiet (sym t.did) (closes_quiet (conns_by node.pairs by.counter))) where
    t : Ends node by.counter done next
    t = (does_end node next by.counter (room_for cell.0.host end node.own (target_node node by.counter commands.End)) done plain does).0

  -- to a process of its own node
  home : (to : ProcessId) (said : Message) → is_here node to.node ≡ true → Turn (commands.Send (targets.Process to) said)
  home to said here asked does = quiet (subst AreQuiet (sym t.did) (got t.is_got)) where
    t : SendsHome node by.counter to said done next
    t = does_home node next by.counter to said (room_for cell.0.host end node.own (target_node node by.counter (commands.Send (targets.Process to) said))) done here does

    got : (b : Bool) → AreQuiet (got_acts b (process_id node by.counter) to)
    got true = tt
    got false = tt

  -- to a process of another
  away : (to : ProcName) (said : Message) → is_declared world.names to.node ≡ true → is_here node (process_as world.names to).node ≡ false → Turn (commands.Send (targets.Process (process_as world.names to)) said)
  away to said declared off asked does = away_turn journal nodes log world place cell end node by.counter id said told after at (sender.own_end journal nodes log world st what by command place cell number node asked at found) says d st say st_now say_now where
    id : ProcessId
    id = process_as world.names to

    command : Command
    command = commands.Send (targets.Process id) said

    holds : CellHolds cell.0
    holds = (st.meets place cell at).0

    sends : SendsAway node by.counter id said done next
    sends = does_away node next by.counter id said (room_for cell.0.host end node.own (target_node node by.counter command)) done off does

    agreed : Agreed cell.0 end done next
    agreed = command_agreed cell.0 end number node by.counter command done next holds found (ap (λ (n : NodeState). n.is_shut) sends.same ∙ plain.unshut) does

    acting : Acts node by.counter × (length (user said) ≤ MOST_PAYLOAD_BYTES)
    acting = sender_acts node next by.counter id said (room_for cell.0.host end node.own (target_node node by.counter command)) done does

    one_link : (conn : ℕ) (p q : Address) → 1 ≤ given_so cell.0.host end conn p → 1 ≤ given_so cell.0.host end conn q → p ≡ q
    one_link = (subst (λ b. FitsAs b cell.0.host end [] (sender_of node)) plain.unshut (holds.1.nodes end (number, node) found).1).1.one_link

    says : SaysAway world cell.0 end node by.counter id said told after
    says = says_so world (own_of journal place) cell.0 end node next by.counter id said done told after sends (sender.short_opening journal nodes log world st what by command place cell number node asked at found to declared) acting.1
        (sender.given journal nodes log world st what by command place cell number node asked at found to declared say off) (sender.unbroken journal nodes log world st what by command place cell number node asked at found to declared say off) orderly holds.1.links one_link agreed.fits agreed.taken all

  sends_by : (to : ProcName) (said : Message) → is_declared world.names to.node ≡ true → (b : Bool) → is_here node (process_as world.names to).node ≡ b → Turn (commands.Send (targets.Process (process_as world.names to)) said)
  sends_by to said declared true h = home (process_as world.names to) said h
  sends_by to said declared false h = away to said declared h

  pub asked_turn : (command : Command) → SendsToDeclared world.names command → Turn command
  asked_turn (commands.Send to said) s = subst (λ (t : Target). Turn (commands.Send t said)) (sym s.2) (sends_by s.0 said s.1 (is_here node (process_as world.names s.0).node) refl)
  asked_turn (commands.Receive mark) s = receives mark
  asked_turn commands.End s = ends
  asked_turn command s = absurd s

pub asks_truly : (journal : List Line) → IsOfNodes journal → AsksTruly journal
asks_truly journal nodes = record {
  asked = λ log world what by command place cell number node acts next told after asked at found does all p q. asked_turn journal nodes log world what by place cell number node acts next told after at found all p.0 p.1 q.0 q.1 command (sender.asks journal nodes log world p.0 what by command place cell number node asked at found).sends asked does;
}
