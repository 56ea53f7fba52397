-- Turns of nodes: a connection is opened where the first message of a pair is said, and no other.
use Rattle.std.proofs.Common.{◌≡◌, ◌<◌, ◌^◌, ℕ, ◌==◌, Bool, true, false, cond, not, ◌&&◌, List, [], ◌∷◌, ◌++◌, length, Ok, Err, refl, sym, ap, ◌∙◌, subst}
use Rattle.std.proofs.lemmas.Bool.{and_parts, eqb-true}
use Rattle.std.proofs.lemmas.Slice.Eq.{bytes_eq-Decides}
use Rattle.std.specs.Option.{option_map_or}
use Rattle.std.specs.Prelude.{slice_get, find, Option, Some, None}
use Rattle.std.specs.Str.{bytes_eq}
use Rattle.ch_base.specs.declared.address.Address.{Address}
use Rattle.ch_base.specs.declared.event.Room.{Room}
use Rattle.ch_ident.specs.declared.identifier.ProcessId.{ProcessId}
use Rattle.ch_ident.specs.declared.message.Message.{Message}
use Rattle.ch_mail.specs.declared.life.Life.{Life}
use Rattle.ch_mail.specs.declared.life.Life.TheVariants as stages
use Rattle.ch_mail.specs.Lives.{is_over as is_over_life}
use Rattle.ch_mail.specs.Mail.{life_of}
use Rattle.ch_static.specs.declared.command.Command.{Command}
use Rattle.ch_static.specs.declared.command.Command.TheVariants as commands
use Rattle.ch_static.specs.declared.target.Target.{Target}
use Rattle.ch_static.specs.declared.target.Target.TheVariants as targets
use Rattle.ch_watch.specs.Same.{same_node}
use Rattle.ch_model.specs.declared.act.Act.{Act}
use Rattle.ch_model.specs.declared.act.Act.TheVariants as acts
use Rattle.ch_model.specs.declared.entry.Entry.{Entry}
use Rattle.ch_model.specs.declared.entry.Entry.TheVariants as entries
use Rattle.ch_model.specs.declared.line.Line.{Line}
use Rattle.ch_model.specs.declared.line.What.{What}
use Rattle.ch_model.specs.declared.local.LocalEntry.{LocalEntry}
use Rattle.ch_model.specs.declared.local.LocalEntry.TheVariants as local
use Rattle.ch_model.specs.declared.local.LocalEvent.TheVariants as events
use Rattle.ch_model.specs.declared.name.ProcName.{ProcName}
use Rattle.ch_model.specs.declared.name.TargetName.TheVariants as names
use Rattle.ch_model.specs.declared.note.Note.{Note}
use Rattle.ch_model.specs.declared.note.Note.TheVariants as notes
use Rattle.ch_model.specs.declared.step.Weight.TheVariants.{Counted, Free}
use Rattle.ch_model.specs.Cell.{room_for}
use Rattle.ch_model.specs.CellSteps.{Followed, after_entries, is_at, with_node, acts_on}
use Rattle.ch_model.specs.Epochs.{epoch_of, index_of, is_said_in_epoch, has_next_index}
use Rattle.ch_model.specs.HostSteps.{own_address}
use Rattle.ch_model.specs.Logs.{each_after}
use Rattle.ch_model.specs.Naming.{Names, called, address_as, process_as, process_called}
use Rattle.ch_model.specs.Node.{node_make, node_command, target_node}
use Rattle.ch_model.specs.NodeActs.{◌>>=◌, stopping}
use Rattle.ch_model.specs.NodeCommands.{send_of}
use Rattle.ch_model.specs.NodeIds.{process_id, is_here, is_own, life_here, is_living}
use Rattle.ch_model.specs.NodePairs.{pair_of}
use Rattle.ch_model.specs.NodeRoom.{acting, acting_as, known, fitting, room_to_send}
use Rattle.ch_model.specs.NodeSends.{payload_of, say}
use Rattle.ch_model.specs.NodeState.{NodeState, Mark, Unopened, Opened, Broken}
use Rattle.ch_model.specs.World.{world_new}
use Rattle.ch_model.specs.WorldHappenings.{with_cell}
use Rattle.ch_model.specs.WorldSockets.{cell_of}
use Rattle.ch_model.specs.WorldState.{Cell, World}
use Rattle.ch_model.specs.WorldSteps.{all_told}
use Rattle.ch_laws_world.proofs.Journals.{address_stays}
use Rattle.ch_laws_log.specs.Declared.{is_declared, AreApart}
use Rattle.ch_laws_log.proofs.Homes.{node_self, called_so}
use Rattle.ch_laws_log.proofs.Keys.{node_is}
use Rattle.ch_laws_log.proofs.Stored.{number_same}
use Rattle.ch_laws_ends.proofs.Changes.{told_cells}
use Rattle.ch_laws_connections.specs.Fits.{CellHolds}
use Rattle.ch_laws_connections.specs.Taken.{AtNode, CallTaken, ActsTaken}
use Rattle.ch_laws_connections.proofs.Taken.{event_taken}
use Rattle.ch_laws_epochs.specs.Numbers.{notes_of}
use Rattle.ch_laws_epochs.proofs.Calm.{Calm, on_command}
use Rattle.ch_race.specs.Pair.{Side, other}
use Rattle.ch_laws_race.specs.Scene.{Party}
use Rattle.ch_laws_calls.specs.Scenes.{IsPairOf, SceneFacts}
use Rattle.ch_laws_calls.proofs.ScenesGiven.{addresses_differ}
use Rattle.ch_laws_live.proofs.Logs.{each_at}
use Rattle.ch_laws_calls.specs.Turns.{told_on, IsAsked, end_in}
use Rattle.ch_laws_plain_nodes.specs.Acts.{ArePlain, OpensNone}
use Rattle.ch_laws_plain_nodes.specs.Does.{Makes, pair_between, said_note, sent_acts, got_acts, SendsAway, SendsHome}
use Rattle.ch_laws_plain_nodes.specs.Plain.{IsPlain as IsPlainNode}
use Rattle.ch_laws_plain_nodes.proofs.Calls.{makes, ends_open_none}
use Rattle.ch_laws_plain_nodes.proofs.Commands as plain
use Rattle.ch_laws_plain_nodes.proofs.Steps.{given_so}
use Rattle.ch_laws_plain_logs.specs.Plain.{IsPlain}
use Rattle.ch_laws_plain.specs.AsksAsks.{AsksPlainly, SendsToDeclared}
use Rattle.ch_laws_plain.proofs.AsksCommands.{plain_command}
use Rattle.ch_laws_plain.proofs.AsksPlaces.{own_there}
use Rattle.ch_laws_plain.proofs.AsksTurns.{asks, own_named}
use Rattle.ch_laws_peers.specs.Words.{words_in, sayings}
use Rattle.ch_laws_peers.specs.Says.{all_towards, node_of, node_in, has_said}
use Rattle.ch_laws_peers.specs.Standing.{IsOfNodes}
use Rattle.ch_laws_messages.specs.SendsSends.{IsWeighed, SaysSmall, AllGive}
use Rattle.ch_laws_messages.specs.SendsTurns.{Told}
use Rattle.ch_laws_messages.proofs.SendsActs.{ArePuts, opened_by, acts_give}
use Rattle.ch_laws_messages.proofs.SendsBegun.{begun_from, notes_from, told_begun, AllSilent, silent_from, acts_tell, acts_silent}
use Rattle.ch_laws_messages.proofs.SendsHostActs.{and_one, is_for}
use Rattle.ch_laws_messages.proofs.SendsOpenings.{first_opens, opens_said, index_so}
use Rattle.ch_laws_messages.proofs.SendsRest.{turn_gives}

-- ---- acts

-- plain acts put what is weighed as it is
plain_puts : (own : Address) (done : List Act) → ArePlain own done → ArePuts done
plain_puts own [] p = tt
plain_puts own (acts.Note note ∷ rest) p = plain_puts own rest p.1
plain_puts own (acts.Close conn ∷ rest) p = plain_puts own rest p
plain_puts own (acts.Put conn payload Free ∷ rest) p = absurd p.0
plain_puts own (acts.Put conn payload (Counted None) ∷ rest) p = absurd p.0
plain_puts own (acts.Put conn payload (Counted (Some place)) ∷ rest) p = (refl, plain_puts own rest p.1)
plain_puts own (acts.Open conn peer ∷ acts.Put on payload weight ∷ rest) p = (subst IsWeighed (sym p.0.free) tt, plain_puts own rest p.1)
plain_puts own (acts.Open conn peer ∷ []) p = absurd p
plain_puts own (acts.Open conn peer ∷ acts.Note note ∷ rest) p = absurd p
plain_puts own (acts.Open conn peer ∷ acts.Open on other ∷ rest) p = absurd p
plain_puts own (acts.Open conn peer ∷ acts.Close on ∷ rest) p = absurd p

-- acts that open none give no more
none_opened : (end : ℕ) (done : List Act) (e : ℕ) (p : Address) (n : ℕ) → OpensNone done → opened_by end done e p n ≡ n
none_opened end [] e p n o = refl
none_opened end (acts.Note note ∷ rest) e p n o = none_opened end rest e p n o
none_opened end (acts.Open conn peer ∷ rest) e p n o = absurd o
none_opened end (acts.Put conn payload weight ∷ rest) e p n o = none_opened end rest e p n o
none_opened end (acts.Close conn ∷ rest) e p n o = none_opened end rest e p n o

-- A turn of the cell at a place, in which an endpoint's node does this: of each two nodes, as many connections are opened as first
-- messages are said.
record Matches (journal : List Line) (world : World) (place end : ℕ) (done : List Act) : Type 0 where
  here : (party : Side → Party) → IsPairOf journal party → (x : Side) → (party x).place ≡ place → (n : ℕ) → opened_by end done (party x).address.id (party (other x)).address n ≡ notes_from world.names (party x).name (party (other x)).name n (notes_of done)
  away : (party : Side → Party) → IsPairOf journal party → (x : Side) → ((party x).place ≡ place → ⊥) → (n : ℕ) → notes_from world.names (party x).name (party (other x)).name n (notes_of done) ≡ n

quiet_matches : (journal : List Line) (world : World) (place end : ℕ) (done : List Act) → AllSilent (notes_of done) → OpensNone done → Matches journal world place end done
quiet_matches journal world place end done s o = record {
  here = λ party pair x is n. none_opened end done (party x).address.id (party (other x)).address n o ∙ sym (silent_from world.names (party x).name (party (other x)).name n (notes_of done) s);
  away = λ party pair x not n. silent_from world.names (party x).name (party (other x)).name n (notes_of done) s;
}

-- so links have given an id for each pair after it
acts_turn : (journal : List Line) (log : List Entry) (world : World) (place end : ℕ) (cell : Cell × ℕ) (done : List Act) (next : NodeState) (told : List LocalEntry) (after : Cell) → slice_get world.cells place ≡ Some cell → acts_on end done (with_node end next cell.0) ≡ Ok (told, after) → CellHolds cell.0
    → ArePuts done → ActsTaken end done (with_node end next cell.0) → Matches journal world place end done → IsPlain log → IsPlain (log ++ (told_on place cell after told world).0) → AllGive journal log world → AllGive journal (log ++ (told_on place cell after told world).0) (told_on place cell after told world).1
acts_turn journal log world place end cell done next told after at e holds puts taken m before now g =
    let given = acts_give end done (with_node end next cell.0) after told e puts taken holds.1.links (g.weighed place cell at) in
    turn_gives journal log (told_on place cell after told world).0 world (told_on place cell after told world).1 place cell (after, cell.1) at (told_cells place after told (with_cell place (after, cell.1) world)) before now (record {
      weighed = given.weighed;
      here = λ party pair x is n level. given.level (party x).address.id (party (other x)).address ∙ ap (opened_by end done (party x).address.id (party (other x)).address) level ∙ m.here party pair x is n ∙ sym (as_told (party x).name (party (other x)).name n);
      away = λ party pair x not n. as_told (party x).name (party (other x)).name n ∙ m.away party pair x not n;
    }) g
  where
    as_told : (x y : List ℕ) (n : ℕ) → begun_from x y n (told_on place cell after told world).0 ≡ notes_from world.names x y n (notes_of done)
    as_told x y n = told_begun place after told (with_cell place (after, cell.1) world) x y n ∙ ap (notes_from world.names x y n) (acts_tell end done (with_node end next cell.0) after told e)

-- what is told of acts that tell something first
first_told : (end : ℕ) (note : Note) (rest : List Act) (cell after : Cell) (told : List LocalEntry) → acts_on end (acts.Note note ∷ rest) cell ≡ Ok (told, after) → (more : List LocalEntry) × (told ≡ local.Note note ∷ more)
first_told end note rest cell after told e = by_rest (acts_on end rest cell) e where
  given : (a b : List LocalEntry × Cell) → ◌≡◌ {A = Followed} (Ok a) (Ok b) → a.0 ≡ b.0
  given a b e = let same : a ≡ b = cc in ap (λ (t : List LocalEntry × Cell). t.0) same

  by_rest : (r : Followed) → after_entries (local.Note note ∷ []) r ≡ Ok (told, after) → (more : List LocalEntry) × (told ≡ local.Note note ∷ more)
  by_rest (Ok more) e = (more.0, sym (given (local.Note note ∷ more.0, more.1) (told, after) e))
  by_rest (Err stop) e = absurd cc

-- ---- a process that sends lives

sends_living : (node next : NodeState) (by : ℕ) (to : Target) (said : Message) (room : Room) (done : List Act) → node_command node by (commands.Send to said) room ≡ Ok (done, next) → is_living node (process_id node by) ≡ true
unfolding node_command send_of acting is_living life_here is_own
sends_living node next by to said room done e = ap (λ (b : Bool). option_map_or (λ life. not (is_over_life life)) (cond b (life_of node.mail by) None) false) own_self ∙ by_life (life_of node.mail by) e where
  own_self : (same_node node.own node.own && (node.unique == node.unique)) ≡ true
  own_self = ap (λ (b : Bool). b && (node.unique == node.unique)) (node_self node.own) ∙ number_same node.unique

  by_life : (o : Option Life) → (acting_as o >>= (λ live. known node to >>= (λ there. fitting (payload_of to said) >>= (λ short. room_to_send node (pair_of node.pairs by to) room >>= (λ roomy. stopping (say node (pair_of node.pairs by to) said)))))) ≡ Ok (done, next) → option_map_or (λ life. not (is_over_life life)) o false ≡ true
  by_life None e = absurd cc
  by_life (Some stages.Live) e = refl
  by_life (Some (stages.Doomed text)) e = refl
  by_life (Some (stages.Over reason)) e = absurd cc

-- ---- the turn of a process that asks

command_taken : (cell : Cell) (end number by : ℕ) (node next : NodeState) (command : Command) (done : List Act) → CellHolds cell → find (is_at end) cell.nodes ≡ Some (number, node) → node_command node by command (room_for cell.host end node.own (target_node node by command)) ≡ Ok (done, next) → next.is_shut ≡ false → ActsTaken end done (with_node end next cell)
command_taken cell end number by node next command done holds found e unshut = (subst (CallTaken end cell) e (subst (λ (o : Option (ℕ × NodeState)). AtNode o (λ one. CallTaken end cell (node_command one by command (room_for cell.host end one.own (target_node one by command))))) found (event_taken cell (events.Command end by command) holds))).0 unshut

pub made_gives : (journal : List Line) (log : List Entry) (world : World) (place : ℕ) (cell : Cell × ℕ) (end number : ℕ) (node : NodeState) (done : List Act) (next : NodeState) (told : List LocalEntry) (after : Cell) → slice_get world.cells place ≡ Some cell → find (is_at end) cell.0.nodes ≡ Some (number, node) → node_make node ≡ Ok (done, next)
    → acts_on end done (with_node end next cell.0) ≡ Ok (told, after) → Told journal log world → IsPlain (log ++ (told_on place cell after told world).0) → AllGive journal log world → AllGive journal (log ++ (told_on place cell after told world).0) (told_on place cell after told world).1
made_gives journal log world place cell end number node done next told after at found make e p now g =
    acts_turn journal log world place end cell done next told after at e (p.stands.meets place cell at).0 (subst ArePuts (sym made.did) tt) (subst (λ (l : List Act). ActsTaken end l (with_node end next cell.0)) (sym made.did) (tt, tt))
    (quiet_matches journal world place end done (subst (λ (l : List Act). AllSilent (notes_of l)) (sym made.did) (refl, tt)) (subst OpensNone (sym made.did) tt)) p.stands.kinds now g
  where
    made : Makes node done next
    made = given_so (Makes node) (node_make node) done next (makes node ((p.stands.plain.cells place cell at).nodes end (number, node) found).plain) make

module _ (journal : List Line) (nodes : IsOfNodes journal) (log : List Entry) (world : World) (p : Told journal log world) (what : What) (by : ProcName) (command : Command) (place : ℕ) (cell : Cell × ℕ) (number : ℕ) (node : NodeState) (line : IsAsked journal world what by command place) (at : slice_get world.cells place ≡ Some cell) (found : find (is_at (end_in world by)) cell.0.nodes ≡ Some (number, node)) where
  abbrev end : ℕ
  end = end_in world by

  abbrev own : Address
  own = address_as world.names by.node

  holds : CellHolds cell.0
  holds = (p.stands.meets place cell at).0

  is_plain : IsPlainNode node
  is_plain = ((p.stands.plain.cells place cell at).nodes (end_in world by) (number, node) found).plain

  asked : AsksPlainly world.names by command
  asked = asks journal log world p.stands.all.sound p.stands.plain place cell at (p.stands.meets place cell at).0 nodes.addresses what by command line

  own_so : node.own ≡ address_as world.names by.node
  own_so = own_named journal log world p.stands.all.sound p.stands.plain place cell at (p.stands.meets place cell at).0 nodes.addresses what by command line number node found

  -- ---- a party of the two

  module _ (party : Side → Party) (pair : IsPairOf journal party) (x : Side) where
    shown : SceneFacts party world
    shown = p.stands.each_pair.shown party pair

    cell_at : (z : Side) → cell_of world (party z).address ≡ Some (party z).place
    cell_at z = address_stays (party z).address (world_new journal) world p.stands.all.sound.ends.homes ∙ pair.placed z

    -- a node that is called as it is at its place
    place_so : called world.names node.own ≡ (party x).name → (party x).place ≡ place
    place_so is = given (party x).place place (sym (cell_at x) ∙ ap (cell_of world) (sym (shown.is_called x node.own is) ∙ own_so) ∙ line.cell) where
      given : (a b : ℕ) → ◌≡◌ {A = Option ℕ} (Some a) (Some b) → a ≡ b
      given a b e = cc

    -- and one at its place and endpoint is called so
    own_at : (party x).place ≡ place → (end_in world by == (party x).address.id) ≡ true → node.own ≡ (party x).address
    own_at is e = own_so ∙ sym (own_there world (address_as world.names by.node) place cell line.cell at) ∙ ap (own_address cell.0.host) (eqb-true (end_in world by) (party x).address.id e)
        ∙ own_there world (party x).address place cell (cell_at x ∙ ap Some is) at

  -- ---- a message within the node

  home_matches : (to : ProcessId) (said : Message) (done : List Act) (next : NodeState) → is_here node to.node ≡ true → SendsHome node by.counter to said done next → Matches journal world place (end_in world by) done
  home_matches to said done next is_home s = record {
    here = λ party pair x is n. ap (λ (l : List Act). opened_by (end_in world by) l (party x).address.id (party (other x)).address n) s.did ∙ got_none (party x).address.id (party (other x)).address n s.is_got ∙ sym (none party pair x n);
    away = λ party pair x not n. none party pair x n;
  } where
    got_none : (e : ℕ) (q : Address) (n : ℕ) (b : Bool) → opened_by (end_in world by) (said_note node by.counter to said ∷ got_acts b (process_id node by.counter) to) e q n ≡ n
    got_none e q n true = refl
    got_none e q n false = refl

    got_silent : (known : Names) (x y : List ℕ) (n : ℕ) (b : Bool) → notes_from known x y n (notes_of (got_acts b (process_id node by.counter) to)) ≡ n
    got_silent known x y n true = refl
    got_silent known x y n false = refl

    none : (party : Side → Party) → IsPairOf journal party → (x : Side) (n : ℕ) → notes_from world.names (party x).name (party (other x)).name n (notes_of done) ≡ n
    none party pair x n = ap (λ (l : List Act). notes_from world.names (party x).name (party (other x)).name n (notes_of l)) s.did
        ∙ by_test (bytes_eq (called world.names node.own) (party x).name) (bytes_eq (called world.names to.node) (party (other x)).name) refl refl where
          by_test : (a b : Bool) → bytes_eq (called world.names node.own) (party x).name ≡ a → bytes_eq (called world.names to.node) (party (other x)).name ≡ b
              → notes_from world.names (party x).name (party (other x)).name (and_one (a && b && (pair_between node by.counter to).index == 0) n) (notes_of (got_acts s.is_got (process_id node by.counter) to)) ≡ n
          by_test false b f g = got_silent world.names (party x).name (party (other x)).name n s.is_got
          by_test true false f g = got_silent world.names (party x).name (party (other x)).name n s.is_got
          by_test true true f g = absurd (addresses_differ journal party pair x (sym ((p.stands.each_pair.shown party pair).is_called x node.own ((bytes_eq-Decides (called world.names node.own) (party x).name).0 f))
              ∙ sym (node_is to.node node.own is_home) ∙ (p.stands.each_pair.shown party pair).is_called (other x) to.node ((bytes_eq-Decides (called world.names to.node) (party (other x)).name).0 g)))

  -- ---- a message to another node

  module _ (name : ProcName) (declared : is_declared world.names name.node ≡ true) (said : Message) (done : List Act) (next : NodeState) (told : List LocalEntry) (after : Cell) (away : is_here node (process_as world.names name).node ≡ false) (s : SendsAway node by.counter (process_as world.names name) said done next)
      (lives : is_living node (process_id node by.counter) ≡ true) (e : acts_on (end_in world by) done (with_node (end_in world by) next cell.0) ≡ Ok (told, after)) (later : Told journal (log ++ (told_on place cell after told world).0) (told_on place cell after told world).1) where
    abbrev to : ProcessId
    to = process_as world.names name

    abbrev sender : ProcName
    sender = process_called world.names (process_id node by.counter)

    abbrev goal : ProcName
    goal = process_called world.names to

    abbrev index : ℕ
    index = (pair_between node by.counter to).index

    abbrev entry : Entry
    entry = entries.Said sender (names.Process goal) (pair_between node by.counter to).epoch index said.mark said.body

    goal_so : goal ≡ name
    goal_so = ap (λ (n : List ℕ). record name { node = n }) (called_so world.names name.node (subst AreApart (sym p.stands.all.sound.ends.set.names) nodes.is.apart) declared)

    declared_so : to ≡ process_as world.names goal
    declared_so = ap (process_as world.names) (sym goal_so)

    -- the message is told first
    first : (rest : List Entry) × ((told_on place cell after told world).0 ≡ entry ∷ rest)
    first = let f = first_told (end_in world by) (notes.Said (process_id node by.counter) (targets.Process to) (pair_between node by.counter to).epoch index said) (sent_acts node by.counter to said (pair_between node by.counter to).mark) (with_node (end_in world by) next cell.0) after told
        (ap (λ (l : List Act). acts_on (end_in world by) l (with_node (end_in world by) next cell.0)) (sym s.did) ∙ e) in
        (_, ap (λ (l : List LocalEntry). (all_told place after l (with_cell place (after, cell.1) world)).0) f.1)

    numbered_so : (has_next_index log entry ≡ true) × (is_said_in_epoch log entry ≡ true)
    numbered_so = (
      each_at has_next_index [] log entry first.0 (subst (λ (l : List Entry). each_after has_next_index [] (log ++ l) ≡ true) first.1 later.numbered.indexes),
      each_at is_said_in_epoch [] log entry first.0 (subst (λ (l : List Entry). each_after is_said_in_epoch [] (log ++ l) ≡ true) first.1 later.numbered.epochs),
    )

    small_so : (sender.counter < 2 ^ 32) × (goal.counter < 2 ^ 32)
    small_so = of_entry log (subst (λ (l : List Entry). SaysSmall (log ++ l)) first.1 later.small) where
      of_entry : (front : List Entry) → SaysSmall (front ++ entry ∷ first.0) → (by.counter < 2 ^ 32) × (name.counter < 2 ^ 32)
      of_entry [] m = m.0
      of_entry (known ∷ front) m = of_entry front m.1

    module _ (party : Side → Party) (pair : IsPairOf journal party) (x : Side) where
      -- where it goes from x to the other: its index is 0 where its pair has no connection yet
      begins_so : (at_x : called world.names node.own ≡ (party x).name) (at_y : called world.names to.node ≡ (party (other x)).name) → (m : Mark) → (pair_between node by.counter to).mark ≡ m → (n : ℕ) → opened_by (end_in world by) (said_note node by.counter to said ∷ sent_acts node by.counter to said m) (party x).address.id (party (other x)).address n
          ≡ and_one (index == 0) n
      begins_so at_x at_y m is n = by_mark m is where
        facts : SceneFacts party world
        facts = p.stands.each_pair.shown party pair

        own_is : node.own ≡ (party x).address
        own_is = facts.is_called x node.own at_x

        peer_is : to.node ≡ (party (other x)).address
        peer_is = facts.is_called (other x) to.node at_y

        end_is : end_in world by ≡ (party x).address.id
        end_is = ap (λ (a : Address). a.id) (sym own_so ∙ own_is)

        node_so : node_of party world x ≡ Some node
        node_so = ap (λ (q : ℕ). node_in (slice_get world.cells q) (party x).address.id) (place_so party pair x at_x) ∙ ap (λ (o : Option (Cell × ℕ)). node_in o (party x).address.id) at
            ∙ ap (λ (i : ℕ). node_in (Some cell) i) (sym end_is) ∙ ap (λ (o : Option (ℕ × NodeState)). elim o as (λ o. Option NodeState) [ None ↦ None | Some one ↦ Some one.1 ]) found

        index_is : (index == 0) ≡ not (has_said sender goal (sayings (party x).name (party (other x)).name log))
        index_is = ap (λ (i : ℕ). i == 0) (eqb-true index (index_of log sender (names.Process goal) (pair_between node by.counter to).epoch) numbered_so.0
            ∙ ap (index_of log sender (names.Process goal)) (eqb-true (pair_between node by.counter to).epoch (epoch_of log sender (names.Process goal)) numbered_so.1))
            ∙ index_so journal (party x).name (party (other x)).name sender goal at_x at_y log p.stands.kinds p.numbered.epochs

        for_them : is_for (end_in world by) to.node (party x).address.id (party (other x)).address ≡ true
        for_them = ap (λ (i : ℕ). (i == (party x).address.id) && same_node to.node (party (other x)).address) end_is ∙ ap (λ (b : Bool). b && same_node to.node (party (other x)).address) (number_same (party x).address.id)
            ∙ ap (λ (a : Address). same_node a (party (other x)).address) peer_is ∙ node_self (party (other x)).address

        by_mark : (m : Mark) → (pair_between node by.counter to).mark ≡ m → opened_by (end_in world by) (said_note node by.counter to said ∷ sent_acts node by.counter to said m) (party x).address.id (party (other x)).address n ≡ and_one (index == 0) n
        by_mark Unopened is = ap (λ (b : Bool). and_one b n) (for_them ∙ sym (index_is ∙ ap not ((p.says party pair x).unopened node by.counter to node_so peer_is declared_so is lives)))
        by_mark (Opened conn) is = let o = (p.says party pair x).opened node by.counter to conn node_so peer_is is in
            ap (λ (b : Bool). and_one b n) (sym (index_is ∙ ap not (opens_said journal (party x).name (party (other x)).name sender goal at_x at_y o.opening o.opens small_so.0 small_so.1 log p.stands.kinds p.small
            (first_opens journal (sayings (party x).name (party (other x)).name log) [] 0 (words_in (all_towards party world x log)) (length (sayings (party x).name (party (other x)).name log)) o.id o.opening (p.says party pair x).words refl o.opened))))
        by_mark Broken is = absurd ((p.says party pair x).unbroken node by.counter to node_so peer_is is)

      -- where it doesn't, no connection is opened between the two at this place
      none_for : (bytes_eq (called world.names node.own) (party x).name && bytes_eq (called world.names to.node) (party (other x)).name) ≡ false → (party x).place ≡ place → (m : Mark) (n : ℕ) → opened_by (end_in world by) (said_note node by.counter to said ∷ sent_acts node by.counter to said m) (party x).address.id (party (other x)).address n ≡ n
      none_for not_them is m n = by_mark m where
        facts : SceneFacts party world
        facts = p.stands.each_pair.shown party pair

        not_for : (b : Bool) → is_for (end_in world by) to.node (party x).address.id (party (other x)).address ≡ b → b ≡ false
        not_for false h = refl
        not_for true h =
            let parts = and_parts (end_in world by == (party x).address.id) (same_node to.node (party (other x)).address) h in
            let own_name : called world.names node.own ≡ (party x).name = ap (called world.names) (own_at party pair x is parts.0) ∙ facts.called_as x in
            let peer_name : called world.names to.node ≡ (party (other x)).name = ap (called world.names) (node_is to.node (party (other x)).address parts.1) ∙ facts.called_as (other x) in
            sym (ap (λ (b : Bool). b && bytes_eq (called world.names to.node) (party (other x)).name) ((bytes_eq-Decides (called world.names node.own) (party x).name).1 own_name) ∙ (bytes_eq-Decides (called world.names to.node) (party (other x)).name).1 peer_name) ∙ not_them

        by_mark : (m : Mark) → opened_by (end_in world by) (said_note node by.counter to said ∷ sent_acts node by.counter to said m) (party x).address.id (party (other x)).address n ≡ n
        by_mark Unopened = ap (λ (b : Bool). and_one b n) (not_for (is_for (end_in world by) to.node (party x).address.id (party (other x)).address) refl)
        by_mark (Opened conn) = refl
        by_mark Broken = refl

      notes_so : (m : Mark) (n : ℕ) → notes_from world.names (party x).name (party (other x)).name n (notes_of (said_note node by.counter to said ∷ sent_acts node by.counter to said m))
          ≡ and_one (bytes_eq (called world.names node.own) (party x).name && bytes_eq (called world.names to.node) (party (other x)).name && index == 0) n
      notes_so Unopened n = refl
      notes_so (Opened conn) n = refl
      notes_so Broken n = refl

      here_so : (party x).place ≡ place → (n : ℕ) → opened_by (end_in world by) (said_note node by.counter to said ∷ sent_acts node by.counter to said (pair_between node by.counter to).mark) (party x).address.id (party (other x)).address n
          ≡ and_one (bytes_eq (called world.names node.own) (party x).name && bytes_eq (called world.names to.node) (party (other x)).name && index == 0) n
      here_so is n = by_test (bytes_eq (called world.names node.own) (party x).name && bytes_eq (called world.names to.node) (party (other x)).name) refl where
        by_test : (b : Bool) → (bytes_eq (called world.names node.own) (party x).name && bytes_eq (called world.names to.node) (party (other x)).name) ≡ b → opened_by (end_in world by) (said_note node by.counter to said ∷ sent_acts node by.counter to said (pair_between node by.counter to).mark) (party x).address.id (party (other x)).address n
            ≡ and_one (b && index == 0) n
        by_test true h = let parts = and_parts (bytes_eq (called world.names node.own) (party x).name) (bytes_eq (called world.names to.node) (party (other x)).name) h in
            begins_so ((bytes_eq-Decides (called world.names node.own) (party x).name).0 parts.0) ((bytes_eq-Decides (called world.names to.node) (party (other x)).name).0 parts.1) (pair_between node by.counter to).mark refl n
        by_test false h = none_for h is (pair_between node by.counter to).mark n

      away_so : ((party x).place ≡ place → ⊥) → (n : ℕ) → and_one (bytes_eq (called world.names node.own) (party x).name && bytes_eq (called world.names to.node) (party (other x)).name && index == 0) n ≡ n
      away_so not n = by_test (bytes_eq (called world.names node.own) (party x).name) refl where
        by_test : (b : Bool) → bytes_eq (called world.names node.own) (party x).name ≡ b → and_one (b && bytes_eq (called world.names to.node) (party (other x)).name && index == 0) n ≡ n
        by_test false h = refl
        by_test true h = absurd (not (place_so party pair x ((bytes_eq-Decides (called world.names node.own) (party x).name).0 h)))

    away_matches : Matches journal world place (end_in world by) done
    away_matches = record {
      here = λ party pair x is n. ap (λ (l : List Act). opened_by (end_in world by) l (party x).address.id (party (other x)).address n) s.did ∙ here_so party pair x is n ∙ sym (notes_so party pair x (pair_between node by.counter to).mark n)
          ∙ ap (λ (l : List Act). notes_from world.names (party x).name (party (other x)).name n (notes_of l)) (sym s.did);
      away = λ party pair x not n. ap (λ (l : List Act). notes_from world.names (party x).name (party (other x)).name n (notes_of l)) s.did ∙ notes_so party pair x (pair_between node by.counter to).mark n ∙ away_so party pair x not n;
    }

  -- ---- whatever is asked

  command_matches : (done : List Act) (next : NodeState) (told : List LocalEntry) (after : Cell) (command : Command) → SendsToDeclared world.names command → node_command node by.counter command (room_for cell.0.host (end_in world by) node.own (target_node node by.counter command)) ≡ Ok (done, next)
      → acts_on (end_in world by) done (with_node (end_in world by) next cell.0) ≡ Ok (told, after) → Told journal (log ++ (told_on place cell after told world).0) (told_on place cell after told world).1 → Matches journal world place (end_in world by) done
  command_matches done next told after (commands.Receive mark) s does e later = quiet_matches journal world place (end_in world by) done (acts_silent done (subst (Calm node) does (on_command node by.counter (commands.Receive mark) (room_for cell.0.host (end_in world by) node.own (target_node node by.counter (commands.Receive mark))) refl)).0)
      (plain.takes_open_none node by.counter done next (plain.does_take node next by.counter mark (room_for cell.0.host (end_in world by) node.own (target_node node by.counter (commands.Receive mark))) done is_plain does))
  command_matches done next told after commands.End s does e later = quiet_matches journal world place (end_in world by) done (acts_silent done (subst (Calm node) does (on_command node by.counter commands.End (room_for cell.0.host (end_in world by) node.own (target_node node by.counter commands.End)) refl)).0)
      (ends_open_none node by.counter done next (plain.does_end node next by.counter (room_for cell.0.host (end_in world by) node.own (target_node node by.counter commands.End)) done is_plain does).0)
  command_matches done next told after (commands.Send to said) s does e later = by_target to s.2 does where
    by_target : (t : Target) → t ≡ targets.Process (process_as world.names s.0) → node_command node by.counter (commands.Send t said) (room_for cell.0.host (end_in world by) node.own (target_node node by.counter (commands.Send t said))) ≡ Ok (done, next) → Matches journal world place (end_in world by) done
    by_target t is does = by_place (subst (λ (u : Target). node_command node by.counter (commands.Send u said) (room_for cell.0.host (end_in world by) node.own (target_node node by.counter (commands.Send u said))) ≡ Ok (done, next)) is does) (is_here node (process_as world.names s.0).node) refl where
      by_place : node_command node by.counter (commands.Send (targets.Process (process_as world.names s.0)) said) (room_for cell.0.host (end_in world by) node.own (target_node node by.counter (commands.Send (targets.Process (process_as world.names s.0)) said))) ≡ Ok (done, next)
          → (b : Bool) → is_here node (process_as world.names s.0).node ≡ b → Matches journal world place (end_in world by) done
      by_place sent true h = home_matches (process_as world.names s.0) said done next h (plain.does_home node next by.counter (process_as world.names s.0) said (room_for cell.0.host (end_in world by) node.own (target_node node by.counter (commands.Send (targets.Process (process_as world.names s.0)) said))) done h sent)
      by_place sent false h = away_matches s.0 s.1 said done next told after h (plain.does_away node next by.counter (process_as world.names s.0) said (room_for cell.0.host (end_in world by) node.own (target_node node by.counter (commands.Send (targets.Process (process_as world.names s.0)) said))) done h sent)
          (sends_living node next by.counter (targets.Process (process_as world.names s.0)) said (room_for cell.0.host (end_in world by) node.own (target_node node by.counter (commands.Send (targets.Process (process_as world.names s.0)) said))) done sent) e later
  command_matches done next told after command s does e later = absurd s

  pub asked_gives : (done : List Act) (next : NodeState) (told : List LocalEntry) (after : Cell) → node_command node by.counter command (room_for cell.0.host (end_in world by) node.own (target_node node by.counter command)) ≡ Ok (done, next) → acts_on (end_in world by) done (with_node (end_in world by) next cell.0) ≡ Ok (told, after)
      → Told journal (log ++ (told_on place cell after told world).0) (told_on place cell after told world).1 → AllGive journal log world → AllGive journal (log ++ (told_on place cell after told world).0) (told_on place cell after told world).1
  asked_gives done next told after does e later g =
      let did = plain.on_command node next by.counter command (room_for cell.0.host (end_in world by) node.own (target_node node by.counter command)) done is_plain (plain_command world.names command asked.sends) does in
      acts_turn journal log world place (end_in world by) cell done next told after at e holds (plain_puts node.own done did.did) (command_taken cell.0 (end_in world by) number by.counter node next command done holds found does did.node.unshut)
      (command_matches done next told after command asked.sends does e later) p.stands.kinds later.stands.kinds g
