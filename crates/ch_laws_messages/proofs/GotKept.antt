-- What is got is kept, turn by turn; and where nothing has happened nothing was got.
use Rattle.std.proofs.Common.{◌≡◌, ◌⊎◌, inl, inr, ℕ, ◌+◌, ◌*◌, true, false, List, [], ◌∷◌, ◌++◌, length, drop, Ok, refl, sym, ap, ◌∙◌, subst}
use Rattle.std.specs.Prelude.{find, slice_get, slice_set, Some, None, Result}
use Rattle.ch_base.specs.declared.event.Room.{Room}
use Rattle.ch_static.specs.declared.command.Command.{Command}
use Rattle.ch_model.specs.declared.act.Act.{Act}
use Rattle.ch_model.specs.declared.command.CommandError.{CommandError}
use Rattle.ch_model.specs.declared.entry.Entry.{Entry}
use Rattle.ch_model.specs.declared.entry.Entry.TheVariants as entries
use Rattle.ch_model.specs.declared.entry.Verdict.{Verdict}
use Rattle.ch_model.specs.declared.line.Line.{Line}
use Rattle.ch_model.specs.declared.line.What.{What}
use Rattle.ch_model.specs.declared.local.LocalEntry.{LocalEntry}
use Rattle.ch_model.specs.declared.local.LocalEntry.TheVariants as local
use Rattle.ch_model.specs.declared.name.End.{End}
use Rattle.ch_model.specs.declared.name.End.TheVariants.{O, T}
use Rattle.ch_model.specs.declared.name.ProcName.{ProcName}
use Rattle.ch_model.specs.declared.note.Note.TheVariants as notes
use Rattle.ch_model.specs.declared.step.SocketEvent.TheVariants as sockets
use Rattle.ch_model.specs.declared.step.Step.{Step}
use Rattle.ch_model.specs.Cell.{room_for}
use Rattle.ch_model.specs.CellSteps.{is_at, with_node, told_steps, acts_on, steps_on}
use Rattle.ch_model.specs.HostState.{HostState}
use Rattle.ch_model.specs.HostSteps.{link_with}
use Rattle.ch_model.specs.Node.{node_make, node_command, target_node}
use Rattle.ch_model.specs.NodeIds.{process_id}
use Rattle.ch_model.specs.NodeState.{NodeState}
use Rattle.ch_model.specs.World.{names_of}
use Rattle.ch_model.specs.WorldHappenings.{with_cell}
use Rattle.ch_model.specs.WorldSockets.{opened}
use Rattle.ch_model.specs.WorldState.{Cell, WorldEnd, WorldSocket, World}
use Rattle.ch_model.specs.WorldSteps.{all_told}
use Rattle.ch_race.specs.Pair.{Side, other}
use Rattle.ch_laws_bytes.proofs.Lines.{own_of}
use Rattle.ch_laws_bytes.proofs.Told.{end_names, told_names}
use Rattle.ch_laws_connections.specs.Fits.{FitsAs, CellHolds}
use Rattle.ch_laws_connections.specs.Senders.{sender_of, Own}
use Rattle.ch_laws_connections.proofs.Cells.{node_fits}
use Rattle.ch_laws_connections.proofs.CellSteps.{room_fits}
use Rattle.ch_laws_connections.proofs.Does as does
use Rattle.ch_laws_connections.proofs.Nodes as agrees
use Rattle.ch_laws_ends.proofs.Changes.{cells_stay, told_cells}
use Rattle.ch_laws_ends.proofs.Places.{set_twice}
use Rattle.ch_laws_lives.proofs.NodesTold as lives
use Rattle.ch_laws_plain_logs.specs.Plain.{IsPlain}
use Rattle.ch_laws_plain_nodes.specs.Does.{Makes, Does}
use Rattle.ch_laws_plain_nodes.specs.Plain.{IsPlain as IsPlainNode, IsPlainCommand}
use Rattle.ch_laws_plain_nodes.proofs.Calls.{makes}
use Rattle.ch_laws_plain_nodes.proofs.Commands as plain
use Rattle.ch_laws_plain_nodes.proofs.Steps.{given_so}
use Rattle.ch_laws_race.specs.Scene.{Party}
use Rattle.ch_laws_calls.specs.Calls.{with_host, done_at, joined_in, come_in, fed_in, IsCalled}
use Rattle.ch_laws_calls.specs.Scenes.{IsPairOf}
use Rattle.ch_laws_calls.specs.Turns.{told_on, IsAsked, end_in, KeepsTurns}
use Rattle.ch_laws_peers.specs.Says.{node_in}
use Rattle.ch_laws_peers.specs.Reads.{gets_of, read_of, Gets, AllGet}
use Rattle.ch_laws_peers.specs.Standing.{IsOfNodes}
use Rattle.ch_laws_messages.specs.WayReadingGoes.{Known, NoneRead, ReadingGoes}
use Rattle.ch_laws_messages.specs.GotReadingGoes.{KnownWell}
use Rattle.ch_laws_messages.proofs.GotLiving.{all_lead_to}
use Rattle.ch_laws_messages.proofs.GotBounds.{SameGot}
use Rattle.ch_laws_messages.proofs.GotHosts.{has_broke, Calm, ended_does}
use Rattle.ch_laws_messages.proofs.GotTold.{calm_told, none_broke, NoneGot, steps_got, got_both, no_more}
use Rattle.ch_laws_messages.proofs.GotAsked.{ToldHome, Calms, told_same, calm_turn, acts_turn, command_home, plain_asked}
use Rattle.ch_laws_messages.proofs.GotCalls.{links_stand, links_created, host_still}
use Rattle.ch_laws_messages.proofs.GotTurn.{one_done, item_gets}
use Rattle.ch_laws_messages.proofs.GotWorlds.{names_apart, read_same, still_same, cell_still}

-- nothing is read in the turn
quiet_read : (journal : List Line) (log after_log : List Entry) (world after : World) → Known journal log world → NoneRead journal log world after_log after → (party : Side → Party) → IsPairOf journal party → (x : Side) → read_of party after x after_log ≡ read_of party world x log
quiet_read journal log after_log world after k none party pair x = read_same party x log after_log world after (k.1.1 party pair x) (none party pair x).0 (none party pair x).1

-- ---- a line is answered

marked_gets : (journal : List Line) (log : List Entry) (world : World) (number : ℕ) (answer : Verdict) → Known journal log world → NoneRead journal log world (log ++ entries.Line number answer ∷ []) world → AllGet journal log world → AllGet journal (log ++ entries.Line number answer ∷ []) world
marked_gets journal log world number answer k none g party pair x = still_same journal log (log ++ entries.Line number answer ∷ []) world world party x (g party pair x) refl refl (quiet_read journal log (log ++ entries.Line number answer ∷ []) world world k none party pair x) refl
    (λ p q a b. got_both p q log (entries.Line number answer ∷ []) ∙ no_more (gets_of p q log) (gets_of p q (entries.Line number answer ∷ [])) refl)

-- ---- a node makes a process, or does what one asks

made_gets : (journal : List Line) (log : List Entry) (world : World) (place : ℕ) (cell : Cell × ℕ) (end number : ℕ) (node : NodeState) (acts : List Act) (next : NodeState) (told : List LocalEntry) (after : Cell) → slice_get world.cells place ≡ Some cell → find (is_at end) cell.0.nodes ≡ Some (number, node) → node_make node ≡ Ok (acts, next) → acts_on end acts (with_node end next cell.0) ≡ Ok (told, after) → Known journal log world
    → let done = told_on place cell after told world in NoneRead journal log world (log ++ done.0) done.1 → AllGet journal log world → AllGet journal (log ++ done.0) done.1
made_gets journal log world place cell end number node acts next told after at found e ran k none g party pair x = calm_turn journal log world party x place end number cell node next acts told after (names_apart party world (k.0.each_pair.shown party pair) x) (g party pair x) at found calms home (ap (λ (n : NodeState). n.arrived) made.tells.same)
    (λ leads. lives.node_lives node next acts (node_make node) (lives.on_make node) (all_lead_to node.own node.arrived leads) e) (quiet_read journal log (log ++ (told_on place cell after told world).0) world (told_on place cell after told world).1 k none party pair x) where
      made : Makes node acts next
      made = given_so (Makes node) (node_make node) acts next (makes node ((k.0.plain.cells place cell at).nodes end (number, node) found).plain) e

      only : (told ≡ local.Note (notes.Made (process_id node (length node.mail)) None) ∷ []) × (after ≡ with_node end next cell.0)
      only = one_done end (with_node end next cell.0) acts (notes.Made (process_id node (length node.mail)) None) told after made.did ran

      calms : Calms (with_node end next cell.0) after
      calms = subst (Calms (with_node end next cell.0)) (sym only.1) (record { nodes = refl; created = λ a p. refl })

      home : ToldHome told
      home = subst ToldHome (sym only.0) (tt, tt)

-- the acts that are done of a command are those that the host agrees with
command_fits : (cell : Cell) (end number : ℕ) (node : NodeState) (by : ℕ) (command : Command) (done : List Act) (next : NodeState) → CellHolds cell → find (is_at end) cell.nodes ≡ Some (number, node) → IsPlainNode next → node_command node by command (room_for cell.host end node.own (target_node node by command)) ≡ Ok (done, next) → FitsAs false cell.host end done (sender_of next)
command_fits cell end number node by command done next holds found plain e = subst (λ b. FitsAs b cell.host end done (sender_of next)) plain.unshut
    (node_fits (agrees.RoomFits node (target_node node by command) room) cell.host end done (sender_of node) (sender_of next) did (room_fits cell.host end node (target_node node by command)) (holds.1.nodes end (number, node) found)).1
  where
    room : Room
    room = room_for cell.host end node.own (target_node node by command)

    did : Own (sender_of node) → does.Does (agrees.RoomFits node (target_node node by command) room) (sender_of node) done (sender_of next)
    did = subst (λ (r : Result (List Act × NodeState) CommandError). does.AllDo (agrees.RoomFits node (target_node node by command) room) (sender_of node) r) e (agrees.on_command node by command room)

asked_gets : (journal : List Line) (log : List Entry) (world : World) (what : What) (by : ProcName) (command : Command) (place : ℕ) (cell : Cell × ℕ) (number : ℕ) (node : NodeState) (acts : List Act) (next : NodeState) (told : List LocalEntry) (after : Cell) → IsAsked journal world what by command place → slice_get world.cells place ≡ Some cell → find (is_at (end_in world by)) cell.0.nodes ≡ Some (number, node)
    → node_command node by.counter command (room_for cell.0.host (end_in world by) node.own (target_node node by.counter command)) ≡ Ok (acts, next) → acts_on (end_in world by) acts (with_node (end_in world by) next cell.0) ≡ Ok (told, after) → Known journal log world
    → let done = told_on place cell after told world in NoneRead journal log world (log ++ done.0) done.1 → AllGet journal log world → AllGet journal (log ++ done.0) done.1
asked_gets journal log world what by command place cell number node acts next told after asks at found e ran k none g party pair x = acts_turn journal log world party x place (end_in world by) number cell node next acts told after (names_apart party world (k.0.each_pair.shown party pair) x) (g party pair x) at found (k.0.meets place cell at).0.1.links
    (command_fits cell.0 (end_in world by) number node by.counter command acts next (k.0.meets place cell at).0 found did.node e) (command_home node next by.counter command room acts its_plain is e) did.arrived
    (λ leads. lives.node_lives node next acts (node_command node by.counter command room) (lives.on_command node by.counter command room) (all_lead_to node.own node.arrived leads) e) ran (quiet_read journal log (log ++ (told_on place cell after told world).0) world (told_on place cell after told world).1 k none party pair x) where
      room : Room
      room = room_for cell.0.host (end_in world by) node.own (target_node node by.counter command)

      its_plain : IsPlainNode node
      its_plain = ((k.0.plain.cells place cell at).nodes (end_in world by) (number, node) found).plain

      is : IsPlainCommand command
      is = plain_asked (names_of journal) world.names what by command asks.of asks.asks

      did : Does node acts next
      did = plain.on_command node next by.counter command room acts its_plain is e

-- ---- an end is joined, has come, is handed bytes

called_gets : (journal : List Line) (log : List Entry) (entry : Entry) (world mid : World) (place n : ℕ) (cell : Cell × ℕ) (steps : List Step) (host : HostState) → slice_get world.cells place ≡ Some cell → ((p q : ProcName) → gets_of p q (entry ∷ []) ≡ 0) → host.links ≡ cell.0.host.links → (with_cell place (with_host cell host, n) mid).cells ≡ slice_set world.cells place (with_host cell host, n) → mid.names ≡ world.names → Known journal log world
    → let done = done_at place (cell.0, n) steps host mid in NoneRead journal log world (log ++ entry ∷ done.0) done.1 → AllGet journal log world → AllGet journal (log ++ entry ∷ done.0) done.1
called_gets journal log entry world mid place n cell steps host at told links cells names k none g party pair x = host_still journal log entry world mid party x place n cell steps host (g party pair x) at told (links_created cell.0.host host links) cells names
    (quiet_read journal log (log ++ entry ∷ (done_at place (cell.0, n) steps host mid).0) world (done_at place (cell.0, n) steps host mid).1 k none party pair x)

-- ---- an end is handed the end of its input

ended_gets : (journal : List Line) (log : List Entry) (world : World) (socket : WorldSocket) (which : End) (place n : ℕ) (cell : Cell × ℕ) (steps : List Step) (host : HostState) (told : List LocalEntry) (after : Cell) → IsCalled world place cell (sockets.Ended n) steps host → steps_on steps (with_host cell host) ≡ Ok (told, after) → Known journal log world
    → let done = told_on place cell after told world in IsPlain (log ++ entries.Fed socket.name which 0 ∷ done.0) → NoneRead journal log world (log ++ entries.Fed socket.name which 0 ∷ done.0) done.1 → AllGet journal log world → AllGet journal (log ++ entries.Fed socket.name which 0 ∷ done.0) done.1
ended_gets journal log world socket which place n cell steps host told after is ran k kinds none g party pair x = by_calm (ended_does (own_of journal place) cell.0.host host n steps (k.0.all.sound.links.naming place cell is.at).naming (k.0.all.sound.ends.flowing.orderly place cell is.at) is.does) where
  kept : World
  kept = with_cell place (after, cell.1) world

  final : List Entry × World
  final = all_told place after told kept

  entry : Entry
  entry = entries.Fed socket.name which 0

  assoc : (xs ys : List Entry) (z : Entry) → xs ++ z ∷ ys ≡ (xs ++ z ∷ []) ++ ys
  assoc [] ys z = refl
  assoc (w ∷ xs) ys z = ap (λ (l : List Entry). w ∷ l) (assoc xs ys z)

  by_calm : Calm cell.0.host steps host ⊎ (has_broke steps ≡ true) → Gets journal (log ++ entries.Fed socket.name which 0 ∷ (all_told place after told (with_cell place (after, cell.1) world)).0) (all_told place after told (with_cell place (after, cell.1) world)).1 party x
  by_calm (inr broke) = none_broke place steps (with_host cell host) told after after (log ++ entry ∷ []) kept broke ran (subst IsPlain (assoc log final.0 entry) kinds)
  by_calm (inl c) = cell_still journal log (log ++ entry ∷ final.0) world final.1 party x place cell (after, cell.1) (g party pair x) is.at (told_cells place after told kept) (told_names place after told kept)
      (λ p. (ap (λ (a : Cell). (link_with a.host (party (other x)).address.id (party (other (other x))).address).created) same.0 ∙ c.created (party (other x)).address.id (party (other (other x))).address, ap (λ (a : Cell). node_in (Some (a, cell.1)) (party (other x)).address.id) same.0))
      (quiet_read journal log (log ++ entry ∷ final.0) world final.1 k none party pair x) got where
        same : (after ≡ with_host cell host) × (told ≡ told_steps steps)
        same = calm_told steps (with_host cell host) told after c.posted ran

        got : SameGot (party x) (party (other x)) log (log ++ entries.Fed socket.name which 0 ∷ (all_told place after told (with_cell place (after, cell.1) world)).0)
        got p q a b = ap (gets_of p q) (assoc log final.0 entry) ∙ told_same place after told kept (log ++ entry ∷ []) p q (subst (NoneGot world.names p q) (sym same.1) (steps_got world.names p q steps)) ∙ got_both p q log (entry ∷ []) ∙ no_more (gets_of p q log) (gets_of p q (entry ∷ [])) refl

-- ---- in each turn

pub get_kept : (journal : List Line) → IsOfNodes journal → (reading : ReadingGoes journal) → KeepsTurns journal (KnownWell journal) (KnownWell journal) (AllGet journal)
get_kept journal nodes reading = record {
  marked = λ log world number what answer line many p g q. marked_gets journal log world number answer p.0 (reading.marked log world number what answer line many p.0 q.0) g;
  made = λ log world place cell end number node acts next told after at found e ran p g q. made_gets journal log world place cell end number node acts next told after at found e ran p.0 (reading.made log world place cell end number node acts next told after at found e ran p.0 q.0) g;
  asked = λ log world what by command place cell number node acts next told after asks at found e ran p g q. asked_gets journal log world what by command place cell number node acts next told after asks at found e ran p.0 (reading.asked log world what by command place cell number node acts next told after asks at found e ran p.0 q.0) g;
  joined = λ log world socket place n cell steps host is may held call all p g q. called_gets journal log (entries.Joined socket.name) world (joined_in socket world) place cell.1 cell steps host call.at (λ a b. refl) (links_stand (sockets.Joined n) cell.0.host host steps tt call.does)
      (ap (λ (l : List (Cell × ℕ)). slice_set l place (with_host cell host, cell.1)) (cells_stay socket.name O opened world)) (end_names socket.name O opened world) p.0 (reading.joined log world socket place n cell steps host is may held call all p.0 q.0) g;
  came = λ log world socket place cell steps host is may held call all p g q. called_gets journal log (entries.Came socket.name) world (come_in place cell socket world) place (cell.1 + 1) cell steps host call.at (λ a b. refl) (links_stand (sockets.Came (2 * cell.1 + 1) socket.from_host) cell.0.host host steps tt call.does)
      (ap (λ (l : List (Cell × ℕ)). slice_set l place (with_host cell host, cell.1 + 1)) (cells_stay socket.name T (λ (end : WorldEnd). record (opened end) { number = Some (2 * cell.1 + 1) }) (with_cell place (cell.0, cell.1 + 1) world)) ∙ set_twice world.cells place (cell.0, cell.1 + 1) (with_host cell host, cell.1 + 1))
      (end_names socket.name T (λ (end : WorldEnd). record (opened end) { number = Some (2 * cell.1 + 1) }) (with_cell place (cell.0, cell.1 + 1) world)) p.0 (reading.came log world socket place cell steps host is may held call all p.0 q.0) g;
  fed = λ log world socket which count b bytes place n cell steps host is may taken held call all p g q. called_gets journal log (entries.Fed socket.name which (length (b ∷ bytes))) world (fed_in which count socket world) place cell.1 cell steps host call.at (λ v w. refl) (links_stand (sockets.Fed n (b ∷ bytes)) cell.0.host host steps tt call.does)
      (ap (λ (l : List (Cell × ℕ)). slice_set l place (with_host cell host, cell.1)) (cells_stay socket.name which (λ (end : WorldEnd). record end { unread = drop count end.unread }) world)) (end_names socket.name which (λ (end : WorldEnd). record end { unread = drop count end.unread }) world) p.0 (reading.fed log world socket which count b bytes place n cell steps host is may taken held call all p.0 q.0) g;
  ended = λ log world socket which place n cell steps host told after is may none held call ran all p g q. ended_gets journal log world socket which place n cell steps host told after call ran p.0 q.0.0.kinds (reading.ended log world socket which place n cell steps host told after is may none held call ran all p.0 q.0) g;
  item = λ log world place cell steps host told after at e ran p g q. item_gets journal nodes log world p.0 p.1 g place cell steps host told after at ran (reading.item log world place cell steps host told after at e ran p.0 q.0) e q.0.0.kinds;
}
