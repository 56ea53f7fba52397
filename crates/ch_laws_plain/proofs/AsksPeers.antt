-- Each dial is between two nodes of the journal still, after whatever happens.
use Rattle.std.proofs.Common.{◌≡◌, inl, inr, ◌+◌, ◌*◌, ℕ, Bool, true, false, cond, not, ◌&&◌, List, [], ◌∷◌, ◌++◌, length, drop, Ok, refl, sym, ap, ◌∙◌, subst}
use Rattle.std.proofs.lemmas.Slice.Eq.{bytes_eq-Decides}
use Rattle.std.specs.List.{list_all}
use Rattle.std.specs.Prelude.{find, slice_get, Option, Some, None}
use Rattle.std.specs.Str.{bytes_eq}
use Rattle.ch_base.specs.declared.address.Address.{Address}
use Rattle.ch_static.specs.declared.command.Command.{Command}
use Rattle.ch_watch.specs.Same.{same_node}
use Rattle.ch_model.specs.declared.act.Act.{Act}
use Rattle.ch_model.specs.declared.entry.Entry.{Entry}
use Rattle.ch_model.specs.declared.entry.Entry.TheVariants as entries
use Rattle.ch_model.specs.declared.entry.Verdict.{Verdict}
use Rattle.ch_model.specs.declared.line.Line.{Line}
use Rattle.ch_model.specs.declared.line.What.{What}
use Rattle.ch_model.specs.declared.local.LocalEntry.{LocalEntry}
use Rattle.ch_model.specs.declared.name.End.{End}
use Rattle.ch_model.specs.declared.name.End.TheVariants.{O, T}
use Rattle.ch_model.specs.declared.name.ProcName.{ProcName}
use Rattle.ch_model.specs.declared.step.SocketEvent.TheVariants as sockets
use Rattle.ch_model.specs.declared.step.Step.{Step}
use Rattle.ch_model.specs.Cell.{room_for}
use Rattle.ch_model.specs.CellSteps.{is_at, with_node, told_steps, acts_on}
use Rattle.ch_model.specs.Host.{keeps, host_on}
use Rattle.ch_model.specs.HostState.{Socket, HostState}
use Rattle.ch_model.specs.HostSteps.{Stepped, still, own_address, is_socket}
use Rattle.ch_model.specs.Naming.{Names, address_as, called}
use Rattle.ch_model.specs.Node.{node_make, node_command, target_node}
use Rattle.ch_model.specs.NodeState.{NodeState}
use Rattle.ch_model.specs.Stages.{is_open}
use Rattle.ch_model.specs.World.{names_of}
use Rattle.ch_model.specs.WorldHappenings.{with_cell}
use Rattle.ch_model.specs.WorldSockets.{opened}
use Rattle.ch_model.specs.WorldState.{Cell, WorldSocket, World}
use Rattle.ch_laws_log.specs.Declared.{AreApart, is_declared}
use Rattle.ch_laws_log.specs.HostEnds.{steps_in}
use Rattle.ch_laws_log.proofs.Homes.{node_self, called_so}
use Rattle.ch_laws_bytes.specs.Streams.{AreAddresses}
use Rattle.ch_laws_bytes.proofs.Lines.{own_of}
use Rattle.ch_laws_bytes.proofs.Told.{end_names}
use Rattle.ch_laws_links.proofs.Cells.{steps_told}
use Rattle.ch_laws_many.proofs.Reached.{IsJournal}
use Rattle.ch_laws_connections.specs.Fits.{CellHolds}
use Rattle.ch_laws_calls.specs.Calls.{with_host, done_at, IsCalled, joined_in, come_in, fed_in}
use Rattle.ch_laws_calls.specs.Peers.{is_of_peers, Peers}
use Rattle.ch_laws_calls.specs.Sound.{Sound}
use Rattle.ch_laws_calls.specs.FitsTurns.{NoDials}
use Rattle.ch_laws_calls.proofs.FitsEvents.{AllAlone, joined_alone}
use Rattle.ch_laws_calls.specs.Turns.{told_on, IsAsked, end_in}
use Rattle.ch_laws_plain.specs.Plain.{WorldIsPlain}
use Rattle.ch_laws_plain.specs.AsksAsks.{DialsOnce, goes_to}
use Rattle.ch_laws_plain.proofs.AsksCommands.{goes_declared}
use Rattle.ch_laws_plain.proofs.AsksDialed.{are_peers, DialPeers, none_peers, AreOfPeers, both_peers, told_peers}
use Rattle.ch_laws_plain.proofs.AsksPlaces.{own_there}
use Rattle.ch_laws_plain.proofs.AsksTurns.{TurnIsPlain, made_turn, command_turn, asks, own_named}

-- ---- two declared names

-- at different addresses they are two
pub two_peers : (known : Names) (from to : List ℕ) (own peer : Address) → AreApart known → is_declared known from ≡ true → is_declared known to ≡ true → own ≡ address_as known from → peer ≡ address_as known to → same_node peer own ≡ false → are_peers known own peer ≡ true
two_peers known from to own peer apart f t own_is peer_is away = all_true (is_declared known (called known own)) (is_declared known (called known peer)) (bytes_eq (called known own) (called known peer)) (ap (is_declared known) from_is ∙ f) (ap (is_declared known) to_is ∙ t) (differ (bytes_eq (called known own) (called known peer)) refl) where
  all_true : (a b c : Bool) → a ≡ true → b ≡ true → c ≡ false → (a && (b && not c)) ≡ true
  all_true true true false e f g = refl
  all_true true true true e f g = absurd cc
  all_true true false c e f g = absurd cc
  all_true false b c e f g = absurd cc

  from_is : called known own ≡ from
  from_is = ap (called known) own_is ∙ called_so known from apart f

  to_is : called known peer ≡ to
  to_is = ap (called known) peer_is ∙ called_so known to apart t

  differ : (b : Bool) → bytes_eq (called known own) (called known peer) ≡ b → b ≡ false
  differ false e = refl
  differ true e =
      let same_name : from ≡ to = sym from_is ∙ (bytes_eq-Decides (called known own) (called known peer)).0 e ∙ to_is in
      let same : peer ≡ own = peer_is ∙ ap (address_as known) (sym same_name) ∙ sym own_is in
      let clash : true ≡ false = sym (node_self own) ∙ ap (λ (a : Address). same_node a own) (sym same) ∙ away in absurd cc

-- ---- a node's own turn

module _ (journal : List Line) (log : List Entry) (world : World) (place : ℕ) (cell : Cell × ℕ) (told : List LocalEntry) (after : Cell) where
  -- what a turn told was of peers
  turn_peers : world.names ≡ names_of journal → DialPeers (names_of journal) after (steps_in told) → Peers journal log world → Peers journal (log ++ (told_on place cell after told world).0) (told_on place cell after told world).1
  turn_peers is dials peers = both_peers (names_of journal) log (told_on place cell after told world).0 peers (told_peers (names_of journal) place after told (with_cell place (after, cell.1) world) is dials)

  pub none_dialed : Sound journal log world → NoDials (steps_in told) → Peers journal log world → Peers journal (log ++ (told_on place cell after told world).0) (told_on place cell after told world).1
  none_dialed sound none peers = turn_peers sound.ends.set.names (none_peers (names_of journal) after (steps_in told) none) peers

-- a node makes a process
pub made_peers : (journal : List Line) (log : List Entry) (world : World) (place : ℕ) (cell : Cell × ℕ) (end number : ℕ) (node : NodeState) (acts : List Act) (next : NodeState) (told : List LocalEntry) (after : Cell) → slice_get world.cells place ≡ Some cell
    → find (is_at end) cell.0.nodes ≡ Some (number, node) → node_make node ≡ Ok (acts, next) → acts_on end acts (with_node end next cell.0) ≡ Ok (told, after) → Sound journal log world → CellHolds cell.0 → WorldIsPlain journal world → Peers journal log world
    → Peers journal (log ++ (told_on place cell after told world).0) (told_on place cell after told world).1
made_peers journal log world place cell end number node acts next told after at there does all sound holds plain peers = none_dialed journal log world place cell told after sound (by_dials t.dials) peers where
  t : TurnIsPlain (own_of journal place) node.own end node.own cell.0 told after
  t = made_turn journal log world sound plain place cell at holds end number node next acts told after there does all

  -- no node dials itself
  by_dials : DialsOnce node.own end node.own (steps_in told) after.host → NoDials (steps_in told)
  by_dials (inl none) = none
  by_dials (inr d) = let clash : true ≡ false = sym (node_self node.own) ∙ d.away in absurd cc

-- a process asks something of its node
pub asked_peers : (journal : List Line) → IsJournal journal → AreAddresses (names_of journal) → (log : List Entry) (world : World) (what : What) (by : ProcName) (command : Command) (place : ℕ) (cell : Cell × ℕ) (number : ℕ) (node : NodeState) (acts : List Act) (next : NodeState) (told : List LocalEntry) (after : Cell) → IsAsked journal world what by command place
    → slice_get world.cells place ≡ Some cell → find (is_at (end_in world by)) cell.0.nodes ≡ Some (number, node) → node_command node by.counter command (room_for cell.0.host (end_in world by) node.own (target_node node by.counter command)) ≡ Ok (acts, next)
    → acts_on (end_in world by) acts (with_node (end_in world by) next cell.0) ≡ Ok (told, after) → Sound journal log world → CellHolds cell.0 → WorldIsPlain journal world → Peers journal log world
    → Peers journal (log ++ (told_on place cell after told world).0) (told_on place cell after told world).1
asked_peers journal j addresses log world what by command place cell number node acts next told after line at there does all sound holds plain peers = turn_peers journal log world place cell told after names (by_dials t.dials) peers where
  end : ℕ
  end = end_in world by

  names : world.names ≡ names_of journal
  names = sound.ends.set.names

  t : TurnIsPlain (own_of journal place) node.own end (goes_to node.own command) cell.0 told after
  t = command_turn journal log world sound plain place cell at holds addresses what by command line number node next acts told after there does all

  own : Address
  own = address_as world.names by.node

  own_is : node.own ≡ own
  own_is = own_named journal log world sound plain place cell at holds addresses what by command line number node there

  -- the endpoint's address is the same after the turn, and it is the node's
  own_after : own_address after.host end ≡ node.own
  own_after = t.asked.orderly.own_is end ∙ sym ((sound.ends.flowing.orderly place cell at).own_is end) ∙ own_there world own place cell line.cell at ∙ sym own_is

  between : same_node (goes_to node.own command) node.own ≡ false → are_peers world.names (own_address after.host end) (goes_to node.own command) ≡ true
  between away =
      let a = asks journal log world sound plain place cell at holds addresses what by command line in
      let to = goes_declared world.names node.own by command a own_is in
      two_peers world.names by.node to.0 (own_address after.host end) (goes_to node.own command) (subst AreApart (sym names) j.apart) a.declared to.1 (own_after ∙ own_is) to.2 (ap (same_node (goes_to node.own command)) own_after ∙ away)

  by_dials : DialsOnce node.own end (goes_to node.own command) (steps_in told) after.host → DialPeers (names_of journal) after (steps_in told)
  by_dials (inl none) = none_peers (names_of journal) after (steps_in told) none
  by_dials (inr d) = subst (DialPeers (names_of journal) after) (sym d.alone) (subst (λ (k : Names). are_peers k (own_address after.host end) (goes_to node.own command) ≡ true) names (between d.away), tt)

-- ---- what else happens

-- an entry that is no dial
one_more : (journal : List Line) (log : List Entry) (entry : Entry) (done : List Entry) → is_of_peers (names_of journal) entry ≡ true → AreOfPeers (names_of journal) log → AreOfPeers (names_of journal) done → AreOfPeers (names_of journal) (log ++ entry ∷ done)
one_more journal log entry done is a b = both_peers (names_of journal) log (entry ∷ done) a (ap (λ x. x && list_all (is_of_peers (names_of journal)) done) is ∙ b)

pub marked_peers : (journal : List Line) (log : List Entry) (world : World) (number : ℕ) (answer : Verdict) → Peers journal log world → Peers journal (log ++ entries.Line number answer ∷ []) world
marked_peers journal log world number answer peers = one_more journal log (entries.Line number answer) [] refl peers refl

-- what a call of a host told that dials nothing
call_peers : (journal : List Line) (place : ℕ) (cell : Cell × ℕ) (steps : List Step) (host : HostState) (world : World) → world.names ≡ names_of journal → NoDials steps → AreOfPeers (names_of journal) (done_at place cell steps host world).0
call_peers journal place cell steps host world is none = told_peers (names_of journal) place (with_host cell host) (told_steps steps) (with_cell place (with_host cell host, cell.1) world) is (none_peers (names_of journal) (with_host cell host) (steps_in (told_steps steps)) (subst NoDials (sym (steps_told steps)) none))

pub joined_peers : (journal : List Line) (log : List Entry) (world : World) (socket : WorldSocket) (place n : ℕ) (cell : Cell × ℕ) (steps : List Step) (host : HostState) → IsCalled world place cell (sockets.Joined n) steps host → Sound journal log world → Peers journal log world
    → let done = done_at place cell steps host (joined_in socket world) in Peers journal (log ++ entries.Joined socket.name ∷ done.0) done.1
joined_peers journal log world socket place n cell steps host called sound peers = one_more journal log (entries.Joined socket.name) (done_at place cell steps host (joined_in socket world)).0 refl peers
    (call_peers journal place cell steps host (joined_in socket world) (end_names socket.name O opened world ∙ sound.ends.set.names) (subst AllAlone called.does (joined_alone cell.0.host n)))

come_alone : (host : HostState) (n : ℕ) (peer_host : List ℕ) → AllAlone (host_on host (sockets.Came n peer_host))
unfolding host_on
come_alone host n peer_host = tt

pub came_peers : (journal : List Line) (log : List Entry) (world : World) (socket : WorldSocket) (place : ℕ) (cell : Cell × ℕ) (steps : List Step) (host : HostState) → IsCalled world place cell (sockets.Came (2 * cell.1 + 1) socket.from_host) steps host → Sound journal log world → Peers journal log world
    → let done = done_at place (cell.0, cell.1 + 1) steps host (come_in place cell socket world) in Peers journal (log ++ entries.Came socket.name ∷ done.0) done.1
came_peers journal log world socket place cell steps host called sound peers = one_more journal log (entries.Came socket.name) (done_at place (cell.0, cell.1 + 1) steps host (come_in place cell socket world)).0 refl peers
    (call_peers journal place (cell.0, cell.1 + 1) steps host (come_in place cell socket world) (end_names socket.name T (λ end. record (opened end) { number = Some (2 * cell.1 + 1) }) (with_cell place (cell.0, cell.1 + 1) world) ∙ sound.ends.set.names) (subst AllAlone called.does (come_alone cell.0.host (2 * cell.1 + 1) socket.from_host)))

feed_alone : (host : HostState) (n : ℕ) (bytes : List ℕ) → AllAlone (host_on host (sockets.Fed n bytes))
unfolding host_on
feed_alone host n bytes = by_socket (find (is_socket n) host.sockets) where
  by_test : (socket : Socket) (b : Bool) → AllAlone (cond b (keeps bytes socket host) (still host))
  by_test socket true = tt
  by_test socket false = tt

  by_socket : (o : Option Socket) → AllAlone (elim o as (λ o. Stepped) [
    | None ↦ still host
    | Some socket ↦ cond (is_open socket.stage) (keeps bytes socket host) (still host)
  ])
  by_socket None = tt
  by_socket (Some socket) = by_test socket (is_open socket.stage)

pub fed_peers : (journal : List Line) (log : List Entry) (world : World) (socket : WorldSocket) (which : End) (count b : ℕ) (bytes : List ℕ) (place n : ℕ) (cell : Cell × ℕ) (steps : List Step) (host : HostState) → IsCalled world place cell (sockets.Fed n (b ∷ bytes)) steps host → Sound journal log world → Peers journal log world
    → let done = done_at place cell steps host (fed_in which count socket world) in Peers journal (log ++ entries.Fed socket.name which (length (b ∷ bytes)) ∷ done.0) done.1
fed_peers journal log world socket which count b bytes place n cell steps host called sound peers = one_more journal log (entries.Fed socket.name which (length (b ∷ bytes))) (done_at place cell steps host (fed_in which count socket world)).0 refl peers
    (call_peers journal place cell steps host (fed_in which count socket world) (end_names socket.name which (λ end. record end { unread = drop count end.unread }) world ∙ sound.ends.set.names) (subst AllAlone called.does (feed_alone cell.0.host n (b ∷ bytes))))

-- the input of a socket ends, or an item is read, and nothing is dialed
pub ended_peers : (journal : List Line) (log : List Entry) (world : World) (socket : WorldSocket) (which : End) (place : ℕ) (cell : Cell × ℕ) (told : List LocalEntry) (after : Cell) → NoDials (steps_in told) → Sound journal log world → Peers journal log world
    → let done = told_on place cell after told world in Peers journal (log ++ entries.Fed socket.name which 0 ∷ done.0) done.1
ended_peers journal log world socket which place cell told after none sound peers = one_more journal log (entries.Fed socket.name which 0) (told_on place cell after told world).0 refl peers
    (told_peers (names_of journal) place after told (with_cell place (after, cell.1) world) sound.ends.set.names (none_peers (names_of journal) after (steps_in told) none))

pub item_peers : (journal : List Line) (log : List Entry) (world : World) (place : ℕ) (cell : Cell × ℕ) (told : List LocalEntry) (after : Cell) → NoDials (steps_in told) → Sound journal log world → Peers journal log world
    → let done = told_on place cell after told world in Peers journal (log ++ done.0) done.1
item_peers journal log world place cell told after none sound peers = none_dialed journal log world place cell told after sound none peers
