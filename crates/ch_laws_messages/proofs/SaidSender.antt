-- A process that sends to a process of another node, by a line of the journal: all that its message needs.
use Rattle.std.proofs.Common.{◌≡◌, ◌≤◌, ℕ, Bool, true, false, ◌*◌, List, [], ◌∷◌, ◌++◌, length, Ok, refl, sym, ap, ◌∙◌, subst}
use Rattle.std.proofs.lemmas.Slice.Eq.{bytes_eq-Decides}
use Rattle.std.specs.Option.{option_map}
use Rattle.std.specs.Prelude.{find, slice_get, Option, Some, None}
use Rattle.std.specs.Str.{bytes_eq}
use Rattle.ch_base.specs.Addresses.{IsAddress}
use Rattle.ch_base.specs.declared.address.Address.{Address}
use Rattle.ch_ident.specs.declared.identifier.Identifier.{Identifier}
use Rattle.ch_ident.specs.declared.identifier.Identifier.TheVariants as identifiers
use Rattle.ch_ident.specs.declared.identifier.ProcessId.{ProcessId}
use Rattle.ch_ident.specs.declared.message.Message.{Message}
use Rattle.ch_ident.specs.declared.node_message.NodeMessage.TheVariants.{Opening}
use Rattle.ch_ident.specs.Spelling.{message, user}
use Rattle.ch_light.specs.Ids.{id_of}
use Rattle.ch_static.specs.declared.command.Command.{Command}
use Rattle.ch_static.specs.declared.command.Command.TheVariants as commands
use Rattle.ch_static.specs.declared.target.Target.TheVariants as targets
use Rattle.ch_watch.specs.Same.{same_node}
use Rattle.ch_wire.specs.declared.TheConstants.{MOST_PAYLOAD_BYTES}
use Rattle.ch_model.specs.declared.act.Act.{Act}
use Rattle.ch_model.specs.declared.entry.Entry.{Entry}
use Rattle.ch_model.specs.declared.line.Line.{Line}
use Rattle.ch_model.specs.declared.line.What.{What}
use Rattle.ch_model.specs.declared.local.LocalEntry.{LocalEntry}
use Rattle.ch_model.specs.declared.local.LocalEntry.TheVariants as local
use Rattle.ch_model.specs.declared.name.ProcName.{ProcName}
use Rattle.ch_model.specs.declared.name.TargetName.TheVariants as names
use Rattle.ch_model.specs.declared.note.Note.TheVariants as notes
use Rattle.ch_model.specs.AccountsFrames.{pair_opening}
use Rattle.ch_model.specs.Cell.{room_for}
use Rattle.ch_model.specs.CellSteps.{is_at, with_node, acts_on}
use Rattle.ch_model.specs.Declarations as declarations
use Rattle.ch_model.specs.HostState.{HostState}
use Rattle.ch_model.specs.HostSteps.{own_address, link_with}
use Rattle.ch_model.specs.Naming.{Names, is_named, or_nobody, named_as, address_as, process_as, process_called}
use Rattle.ch_model.specs.Node.{node_command, target_node}
use Rattle.ch_model.specs.NodeIds.{process_id, is_here}
use Rattle.ch_model.specs.NodeState.{NodeState, Pair, Opened, Broken}
use Rattle.ch_model.specs.World.{names_of, world_new}
use Rattle.ch_model.specs.WorldHappenings.{with_cell}
use Rattle.ch_model.specs.WorldSockets.{cell_of}
use Rattle.ch_model.specs.WorldState.{Named, Cell, World}
use Rattle.ch_model.specs.WorldSteps.{all_told}
use Rattle.ch_race.specs.Pair.{Side, other}
use Rattle.ch_laws_bytes.proofs.Lines.{own_of}
use Rattle.ch_laws_bytes.specs.Streams.{AreAddresses}
use Rattle.ch_laws_calls.specs.Scenes.{IsPairOf}
use Rattle.ch_laws_connections.specs.Fits.{FitsAs, CellHolds}
use Rattle.ch_laws_connections.specs.Senders.{sender_of}
use Rattle.ch_laws_connections.specs.Tables.{given_so}
use Rattle.ch_laws_ids.specs.Runs.{AllRun}
use Rattle.ch_laws_log.specs.Declared.{is_declared}
use Rattle.ch_laws_many.specs.ManyLines.{is_of_many}
use Rattle.ch_laws_log.proofs.Homes.{node_self}
use Rattle.ch_laws_plain_nodes.specs.Does.{SendsAway, pair_between, sent_acts, sent_mark}
use Rattle.ch_laws_plain_nodes.specs.Plain.{IsPlain}
use Rattle.ch_laws_plain_nodes.proofs.Commands.{does_away, others_stay}
use Rattle.ch_laws_plain_nodes.proofs.Sends.{away_pair}
use Rattle.ch_laws_race.specs.Scene.{Party, host_in}
use Rattle.ch_laws_calls.specs.ScenesPairs.{IsPairFor}
use Rattle.ch_laws_calls.proofs.ScenesSides.{pairs_of}
use Rattle.ch_laws_calls.specs.Turns.{IsAsked, end_in, told_on}
use Rattle.ch_laws_world.proofs.Journals.{address_stays}
use Rattle.ch_laws_peers.specs.Says.{node_of, Says, AllSay}
use Rattle.ch_laws_peers.specs.Standing.{IsOfNodes, Standing}
use Rattle.ch_laws_messages.specs.SaidGoes.{mark_of, IsDeclared, SaysWell}
use Rattle.ch_laws_messages.proofs.SaidActs.{Noted, noted}
use Rattle.ch_laws_messages.proofs.SaidAsks.{Acts, Agreed, AsksPlainly, asks_plainly, sender_acts, command_agreed, opening_short}
use Rattle.ch_laws_messages.proofs.SaidAskedAway.{MaySend, away_went}
use Rattle.ch_laws_messages.proofs.SaidMakes.{seen_in}
use Rattle.ch_laws_messages.proofs.SaidNamed.{id_as, named_back, address_spelled, own_named, own_there, unique_named}
use Rattle.ch_laws_messages.proofs.SaidSends.{went_say}

-- ---- who asks

-- The process that asks is that of its name, at its own node.
module _ (journal : List Line) (nodes : IsOfNodes journal) (log : List Entry) (world : World) (st : Standing journal log world) (what : What) (by : ProcName) (command : Command) (place : ℕ) (cell : Cell × ℕ) (number : ℕ) (node : NodeState) (asked : IsAsked journal world what by command place)
    (at : slice_get world.cells place ≡ Some cell) (found : find (is_at (end_in world by)) cell.0.nodes ≡ Some (number, node)) where
  abbrev end : ℕ
  end = end_in world by

  known_is : world.names ≡ names_of journal
  known_is = st.all.sound.ends.set.names

  pub asks : AsksPlainly world.names by command
  asks = asks_plainly world.names what by command (subst (λ (k : Names). is_of_many k what ≡ true) (sym known_is) asked.of) asked.asks

  declared_in : (name : List ℕ) → is_declared world.names name ≡ true → is_declared (names_of journal) name ≡ true
  declared_in name d = subst (λ (k : Names). is_declared k name ≡ true) known_is d

  pub own : node.own ≡ address_as world.names by.node
  own = own_named journal log world (address_as world.names by.node) place number cell node st.all.sound asked.cell at found

  pub own_end : node.own ≡ own_address cell.0.host end
  own_end = own ∙ sym (own_there world (address_as world.names by.node) place cell asked.cell at)

  named_in : (p : ProcName) → is_declared world.names p.node ≡ true → process_called world.names (process_as world.names p) ≡ p
  named_in p d = subst (λ (k : Names). process_called k (process_as k p) ≡ p) (sym known_is) (named_back (names_of journal) p nodes.is.apart (declared_in p.node d))

  id_in : (p : ProcName) → is_declared world.names p.node ≡ true → declarations.process_id journal p ≡ Some (process_as world.names p)
  id_in p d = subst (λ (k : Names). declarations.process_id journal p ≡ Some (process_as k p)) (sym known_is) (id_as journal p (declared_in p.node d))

  -- the id of the process is what its name stands for
  pub asker : process_id node by.counter ≡ process_as world.names by
  asker = ap (λ (a : Address). record { node = a; unique = node.unique; counter = by.counter }) own ∙ ap (λ (u : ℕ). record { node = address_as world.names by.node; unique = u; counter = by.counter })
      (sym (unique_named journal log world by.node place number end cell node nodes.is.apart st.all.sound (declared_in by.node asks.declared) at found (own ∙ ap (λ (k : Names). address_as k by.node) known_is)) ∙ ap (λ (k : Names). (named_as k by.node).unique) (sym known_is))

  pub asker_called : process_called world.names (process_id node by.counter) ≡ by
  asker_called = ap (process_called world.names) asker ∙ named_in by asks.declared

  spelled_in : (name : List ℕ) → is_declared world.names name ≡ true → IsAddress (address_as world.names name)
  spelled_in name d = address_spelled world.names name (subst AreAddresses (sym known_is) nodes.addresses) d

  -- ---- the other node

  module _ (to : ProcName) (declared : is_declared world.names to.node ≡ true) where
    abbrev id : ProcessId
    id = process_as world.names to

    pub to_declared : IsDeclared world id
    to_declared = ap (process_as world.names) (sym (named_in to declared))

    opens_for : (p q : ProcName) → declarations.process_id journal p ≡ Some (process_as world.names by) → declarations.process_id journal q ≡ Some id → pair_opening journal p (names.Process q) ≡ Some (message (Opening (identifiers.Process (process_as world.names by)) (identifiers.Process id)))
    opens_for p q e f = by_both (declarations.process_id journal p) (declarations.process_id journal q) e f where
      by_both : (o r : Option ProcessId) → o ≡ Some (process_as world.names by) → r ≡ Some id → elim o as (λ o. Option (List ℕ)) [
        | None ↦ None
        | Some from ↦ option_map (λ (t : Identifier). message (Opening (identifiers.Process from) t)) (option_map identifiers.Process r)
      ] ≡ Some (message (Opening (identifiers.Process (process_as world.names by)) (identifiers.Process id)))
      by_both o r e f = cc

    pub opens : pair_opening journal (process_called world.names (process_id node by.counter)) (names.Process (process_called world.names id)) ≡ Some (message (Opening (identifiers.Process (process_id node by.counter)) (identifiers.Process id)))
    opens = opens_for (process_called world.names (process_id node by.counter)) (process_called world.names id) (ap (declarations.process_id journal) asker_called ∙ id_in by asks.declared) (ap (declarations.process_id journal) (named_in to declared) ∙ id_in to declared)
        ∙ ap (λ (p : ProcessId). Some (message (Opening (identifiers.Process p) (identifiers.Process id)))) (sym asker)

    pub short_opening : length (message (Opening (identifiers.Process (process_id node by.counter)) (identifiers.Process id))) ≤ MOST_PAYLOAD_BYTES
    short_opening = opening_short (process_id node by.counter) id (subst IsAddress (sym own) (spelled_in by.node asks.declared)) (spelled_in to.node declared)

    -- two nodes
    names_differ : is_here node id.node ≡ false → bytes_eq by.node to.node ≡ false
    names_differ away = by_test (bytes_eq by.node to.node) refl where
      by_test : (b : Bool) → bytes_eq by.node to.node ≡ b → b ≡ false
      by_test false h = refl
      by_test true h =
          let same : id.node ≡ node.own = ap (address_as world.names) (sym ((bytes_eq-Decides by.node to.node).0 h)) ∙ sym own in
          let no : true ≡ false = sym (node_self node.own) ∙ ap (λ (a : Address). same_node a node.own) (sym same) ∙ away in absurd cc

    address_of : (party : Side → Party) → IsPairOf journal party → (x : Side) (name : List ℕ) → (party x).name ≡ name → address_as world.names name ≡ (party x).address
    address_of party pair x name is = let d = pair.named x in
        ap (λ (k : Names). address_as k name) known_is ∙ ap (λ (n : List ℕ). (or_nobody (find (is_named n) (names_of journal))).address) (sym is) ∙ ap (λ (o : Option Named). (or_nobody o).address) d.1 ∙ d.3

    -- the two as a pair, and what the node has said to the other
    module _ (say : AllSay journal log world) (away : is_here node id.node ≡ false) where
      for : IsPairFor journal by.node to.node
      for = pairs_of journal nodes.is nodes.addresses by.node to.node (declared_in by.node asks.declared) (declared_in to.node declared) (names_differ away)

      abbrev party : Side → Party
      party = for.party

      abbrev x : Side
      x = for.side

      says : Says journal log world party x
      says = say party for.pair x

      own_at : address_as world.names by.node ≡ (party x).address
      own_at = address_of party for.pair x by.node for.first

      goal_at : id.node ≡ (party (other x)).address
      goal_at = address_of party for.pair (other x) to.node for.second

      here : place ≡ (party x).place
      here = some_is (sym asked.cell ∙ address_stays (address_as world.names by.node) (world_new journal) world st.all.sound.ends.homes ∙ ap (cell_of (world_new journal)) own_at ∙ for.pair.placed x) where
        some_is : {a b : ℕ} → ◌≡◌ {A = Option ℕ} (Some a) (Some b) → a ≡ b
        some_is e = cc

      there : node_of party world x ≡ Some node
      there = seen_in party x world place end number cell node at here (ap (λ (a : Address). a.id) own_at) found

      pub given : (conn : ℕ) → mark_of node by.counter id ≡ Opened conn → (n : ℕ) × (id_of (link_with cell.0.host end id.node).given conn ≡ Some n)
      given conn marked = let o = says.opened node by.counter id conn there goal_at marked in (
        o.id,
        ap (λ (a : Address). id_of (link_with cell.0.host end a).given conn) goal_at ∙ ap (λ (a : Address). id_of (link_with cell.0.host a.id (party (other x)).address).given conn) own_at
            ∙ ap (λ (h : HostState). id_of (link_with h (party x).address.id (party (other x)).address).given conn) (sym (ap (λ (p : ℕ). host_in (slice_get world.cells p)) (sym here) ∙ ap host_in at)) ∙ o.given,
      )

      pub unbroken : mark_of node by.counter id ≡ Broken → ⊥
      unbroken marked = says.unbroken node by.counter id there goal_at marked

-- ---- the turn

-- where all sayings of a log are well, so are those of its beginning, and those behind it
said_well : (journal : List Line) (log more : List Entry) → SaysWell journal (log ++ more) → SaysWell journal log × SaysWell journal more
said_well journal [] more w = (tt, w)
said_well journal (entry ∷ rest) more w = let k = said_well journal rest more w.1 in ((w.0, k.0), k.1)

pub away_say : (journal : List Line) → IsOfNodes journal → (log : List Entry) (world : World) (what : What) (by to : ProcName) (said : Message) (place : ℕ) (cell : Cell × ℕ) (number : ℕ) (node : NodeState) (done : List Act) (next : NodeState) (told : List LocalEntry) (after : Cell)
    → IsAsked journal world what by (commands.Send (targets.Process (process_as world.names to)) said) place → is_declared world.names to.node ≡ true → is_here node (process_as world.names to).node ≡ false
    → slice_get world.cells place ≡ Some cell → find (is_at (end_in world by)) cell.0.nodes ≡ Some (number, node)
    → node_command node by.counter (commands.Send (targets.Process (process_as world.names to)) said) (room_for cell.0.host (end_in world by) node.own (target_node node by.counter (commands.Send (targets.Process (process_as world.names to)) said))) ≡ Ok (done, next)
    → acts_on (end_in world by) done (with_node (end_in world by) next cell.0) ≡ Ok (told, after) → Standing journal log world → AllRun log world → AllSay journal log world
    → let all = told_on place cell after told world in SaysWell journal (log ++ all.0) → AllSay journal (log ++ all.0) all.1
away_say journal nodes log world what by to said place cell number node done next told after asked declared away at found does all st run say well = went_say journal log world place cell end number node next by.counter id (pair_between node by.counter id).epoch (pair_between node by.counter id).index said told after at found
    (away_went journal world (own_of journal place) cell.0 end node next by.counter id said done told after may sends others marked (st.all.sound.ends.flowing.orderly place cell at) holds.1.links one_link agreed.fits agreed.taken all) st run wells.0 say
  where
    end : ℕ
    end = end_in world by

    id : ProcessId
    id = process_as world.names to

    command : Command
    command = commands.Send (targets.Process id) said

    holds : CellHolds cell.0
    holds = (st.meets place cell at).0

    plain : IsPlain node
    plain = ((st.plain.cells place cell at).nodes end (number, node) found).plain

    sends : SendsAway node by.counter id said done next
    sends = does_away node next by.counter id said (room_for cell.0.host end node.own (target_node node by.counter command)) done away does

    unshut : next.is_shut ≡ false
    unshut = ap (λ (n : NodeState). n.is_shut) sends.same ∙ plain.unshut

    agreed : Agreed cell.0 end done next
    agreed = command_agreed cell.0 end number node by.counter command done next holds found unshut does

    acting : Acts node by.counter × (length (user said) ≤ MOST_PAYLOAD_BYTES)
    acting = sender_acts node next by.counter id said (room_for cell.0.host end node.own (target_node node by.counter command)) done does

    marked : mark_of next by.counter id ≡ sent_mark (2 * node.opened) (mark_of node by.counter id)
    marked = ap (λ (p : Pair). p.mark) (away_pair node by.counter id said done next sends)

    others : (b : ℕ) (t : ProcessId) → ((b ≡ by.counter) × (t ≡ id) → ⊥) → mark_of next b t ≡ mark_of node b t
    others b t apart = ap (λ (p : Pair). p.mark) (others_stay node next by.counter b id t said (room_for cell.0.host end node.own (target_node node by.counter command)) done apart does)

    one_link : (conn : ℕ) (p q : Address) → 1 ≤ given_so cell.0.host end conn p → 1 ≤ given_so cell.0.host end conn q → p ≡ q
    one_link = (subst (λ b. FitsAs b cell.0.host end [] (sender_of node)) plain.unshut (holds.1.nodes end (number, node) found).1).1.one_link

    more : Noted (notes.Said (process_id node by.counter) (targets.Process id) (pair_between node by.counter id).epoch (pair_between node by.counter id).index said) (acts_on end (sent_acts node by.counter id said (pair_between node by.counter id).mark) (with_node end next cell.0)) told after
    more = noted (notes.Said (process_id node by.counter) (targets.Process id) (pair_between node by.counter id).epoch (pair_between node by.counter id).index said) (acts_on end (sent_acts node by.counter id said (pair_between node by.counter id).mark) (with_node end next cell.0)) told after
        (subst (λ (l : List Act). acts_on end l (with_node end next cell.0) ≡ Ok (told, after)) sends.did all)

    wells : SaysWell journal log × SaysWell journal (told_on place cell after told world).0
    wells = said_well journal log (told_on place cell after told world).0 well

    well_first : SaysWell journal (all_told place after (local.Note (notes.Said (process_id node by.counter) (targets.Process id) (pair_between node by.counter id).epoch (pair_between node by.counter id).index said) ∷ more.more) (with_cell place (after, cell.1) world)).0
    well_first = subst (λ (l : List LocalEntry). SaysWell journal (all_told place after l (with_cell place (after, cell.1) world)).0) more.told_is wells.1

    may : MaySend journal world cell.0 end node by.counter id said
    may = record {
      own = own_end journal nodes log world st what by command place cell number node asked at found;
      made = acting.0.made;
      lives = acting.0.lives;
      declared = to_declared journal nodes log world st what by command place cell number node asked at found to declared;
      well = record { from = well_first.0.0; at = well_first.0.1 };
      opens = opens journal nodes log world st what by command place cell number node asked at found to declared;
      short_opening = short_opening journal nodes log world st what by command place cell number node asked at found to declared;
      short = acting.1;
      given = given journal nodes log world st what by command place cell number node asked at found to declared say away;
      unbroken = unbroken journal nodes log world st what by command place cell number node asked at found to declared say away;
    }
