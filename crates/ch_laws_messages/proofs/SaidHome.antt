-- A process sends to a process of its own node: nothing is said to another, and nothing goes.
use Rattle.std.proofs.Common.{◌≡◌, ◌⊎◌, inl, inr, ℕ, Bool, true, false, cond, ◌&&◌, List, [], ◌∷◌, ◌++◌, length, Ok, refl, sym, ap, ◌∙◌, subst}
use Rattle.std.proofs.lemmas.Bool.{and_parts}
use Rattle.std.proofs.lemmas.List.{append-nil}
use Rattle.std.proofs.lemmas.List.Elements.{filter_map-append}
use Rattle.std.proofs.lemmas.Slice.Eq.{bytes_eq-Decides}
use Rattle.std.specs.List.{cons_option}
use Rattle.std.specs.Prelude.{filter_map, find, slice_get, Option, Some, None, ◌==◌}
use Rattle.std.specs.Str.{bytes_eq}
use Rattle.ch_base.specs.declared.event.Room.{Room}
use Rattle.ch_ident.specs.declared.identifier.ProcessId.{ProcessId}
use Rattle.ch_ident.specs.declared.message.Message.{Message}
use Rattle.ch_light.specs.Ids.{id_of}
use Rattle.ch_static.specs.declared.command.Command.TheVariants as commands
use Rattle.ch_static.specs.declared.target.Target.TheVariants as targets
use Rattle.ch_model.specs.declared.act.Act.{Act}
use Rattle.ch_model.specs.declared.act.Act.TheVariants as acts
use Rattle.ch_model.specs.declared.entry.Entry.{Entry}
use Rattle.ch_model.specs.declared.line.Line.{Line}
use Rattle.ch_model.specs.declared.local.LocalEntry.{LocalEntry}
use Rattle.ch_model.specs.declared.local.LocalEntry.TheVariants as local
use Rattle.ch_model.specs.declared.note.Note.{Note}
use Rattle.ch_model.specs.declared.note.Note.TheVariants as notes
use Rattle.ch_model.specs.AccountsFrames.{Saying}
use Rattle.ch_model.specs.CellSteps.{is_at, with_node, acts_on}
use Rattle.ch_model.specs.HostState.{Link, HostState}
use Rattle.ch_model.specs.HostSteps.{link_with}
use Rattle.ch_model.specs.Naming.{called}
use Rattle.ch_model.specs.Node.{node_command}
use Rattle.ch_model.specs.NodeIds.{process_id, is_here}
use Rattle.ch_model.specs.NodePairs.{is_pair, same_process}
use Rattle.ch_model.specs.NodeState.{NodeState, Pair}
use Rattle.ch_model.specs.WorldHappenings.{with_cell}
use Rattle.ch_model.specs.WorldState.{Cell, World}
use Rattle.ch_model.specs.WorldSteps.{all_told}
use Rattle.ch_race.specs.Pair.{Side, Lesser, Greater, other}
use Rattle.ch_laws_bytes.proofs.Told.{told_names}
use Rattle.ch_laws_calls.specs.Scenes.{IsPairOf, SceneFacts}
use Rattle.ch_laws_ends.proofs.Changes.{told_cells}
use Rattle.ch_laws_calls.specs.FitsTurns.{NoDials}
use Rattle.ch_laws_ids.specs.Runs.{AllRun, pieces_at}
use Rattle.ch_laws_log.specs.HostEnds.{steps_in}
use Rattle.ch_laws_lives.specs.Rolls.{ends_of}
use Rattle.ch_laws_log.proofs.Keys.{node_is}
use Rattle.ch_laws_writes.proofs.Worlds.{number_is, number_same}
use Rattle.ch_laws_plain_nodes.specs.Does.{SendsHome, pair_between, said_pair, got_acts}
use Rattle.ch_laws_plain_nodes.proofs.Commands.{does_home, others_stay}
use Rattle.ch_laws_plain_nodes.proofs.Sends.{home_pair}
use Rattle.ch_laws_plain_logs.specs.Plain.{said_by}
use Rattle.ch_laws_race.specs.Scene.{Party, host_in, hosts_of}
use Rattle.ch_laws_calls.specs.Turns.{told_on}
use Rattle.ch_laws_peers.specs.Words.{sayings}
use Rattle.ch_laws_peers.specs.Says.{node_in, node_of, Says, AllSay}
use Rattle.ch_laws_peers.specs.Standing.{Standing}
use Rattle.ch_laws_messages.specs.SaidGoes.{said_to, given_to, mark_of, IsDeclared, Streams, NodeStays, Stays, Sent}
use Rattle.ch_laws_messages.specs.SaidPuts.{Utters, DialsOne}
use Rattle.ch_laws_messages.specs.SaidSends.{saying_of}
use Rattle.ch_laws_messages.proofs.SaidActs.{noted}
use Rattle.ch_laws_messages.proofs.SaidAskedAway.{stored_pair, one_process}
use Rattle.ch_laws_messages.proofs.SaidLives.{living_as, ends_long, send_ends}
use Rattle.ch_laws_messages.proofs.SaidSends.{process_self}
use Rattle.ch_laws_messages.proofs.SaidMakes.{one_note, stored_in, seen_in}
use Rattle.ch_laws_messages.proofs.SaidStill.{node_at, node_same}
use Rattle.ch_laws_messages.proofs.SaidTurn.{turn_say}
use Rattle.ch_laws_messages.proofs.SaidTurned.{link_here}
use Rattle.ch_laws_messages.proofs.SaidUtters.{utters_none}

-- ---- what is told: that it was said, and perhaps got

-- nothing but the two
record TellsHome (c : Cell) (said got : Note) (told : List LocalEntry) (after : Cell) : Type 0 where
  cell_is : after ≡ c
  told_is : (told ≡ local.Note said ∷ []) ⊎ (told ≡ local.Note said ∷ local.Note got ∷ [])

tells_home : (end : ℕ) (c : Cell) (said : Note) (from to : ProcessId) (is_got : Bool) (told : List LocalEntry) (after : Cell) → acts_on end (acts.Note said ∷ got_acts is_got from to) c ≡ Ok (told, after) → TellsHome c said (notes.Got from (targets.Process to) (Some to)) told after
tells_home end c said from to false told after e = let one = one_note end said c told after e in record { cell_is = one.1; told_is = inl one.0 }
tells_home end c said from to true told after e =
    let first = noted said (acts_on end (acts.Note (notes.Got from (targets.Process to) (Some to)) ∷ []) c) told after e in
    let one = one_note end (notes.Got from (targets.Process to) (Some to)) c first.more after first.left in
    record { cell_is = one.1; told_is = inr (first.told_is ∙ ap (λ (l : List LocalEntry). local.Note said ∷ l) one.0) }

-- ---- the turn

module _ (journal : List Line) (log : List Entry) (world : World) (place : ℕ) (cell : Cell × ℕ) (end number : ℕ) (node next : NodeState) (by : ℕ) (to : ProcessId) (said : Message) (room : Room) (done : List Act) (told : List LocalEntry) (after : Cell) (at : slice_get world.cells place ≡ Some cell) (found : find (is_at end) cell.0.nodes ≡ Some (number, node))
    (declared : IsDeclared world to) (here : is_here node to.node ≡ true) (does : node_command node by (commands.Send (targets.Process to) said) room ≡ Ok (done, next)) (all : acts_on end done (with_node end next cell.0) ≡ Ok (told, after)) (st : Standing journal log world) (run : AllRun log world) (say : AllSay journal log world) where
  sends : SendsHome node by to said done next
  sends = does_home node next by to said room done here does

  abbrev said_so : Note
  said_so = notes.Said (process_id node by) (targets.Process to) (pair_between node by to).epoch (pair_between node by to).index said

  abbrev got_so : Note
  got_so = notes.Got (process_id node by) (targets.Process to) (Some to)

  tells : TellsHome (with_node end next cell.0) said_so got_so told after
  tells = tells_home end (with_node end next cell.0) said_so (process_id node by) to sends.is_got told after (subst (λ (l : List Act). acts_on end l (with_node end next cell.0) ≡ Ok (told, after)) sends.did all)

  abbrev whole : List Entry × World
  whole = told_on place cell after told world

  -- no step is told
  no_steps : steps_in told ≡ []
  no_steps = by_told tells.told_is where
    by_told : (told ≡ local.Note said_so ∷ []) ⊎ (told ≡ local.Note said_so ∷ local.Note got_so ∷ []) → steps_in told ≡ []
    by_told (inl e) = ap steps_in e
    by_told (inr e) = ap steps_in e

  uttered : Utters cell.0.host (steps_in told) after.host (λ e p. [])
  uttered = utters_none cell.0.host (steps_in told) after.host (λ e p. ap (λ (c : Cell). link_with c.host e p) tells.cell_is) (λ n. ap (pieces_at n) no_steps)

  dialed : DialsOne (steps_in told)
  dialed = inl (subst NoDials (sym no_steps) tt)

  -- ---- nothing is said to another

  home : to.node ≡ node.own
  home = node_is to.node node.own here

  said_now : (x y : List ℕ) → sayings x y (log ++ whole.0) ≡ sayings x y log ++ filter_map (said_by x y) whole.0
  said_now x y = filter_map-append (said_by x y) log whole.0

  module _ (party : Side → Party) (x : Side) (pair : IsPairOf journal party) where
    facts : SceneFacts party world
    facts = st.each_pair.shown party pair

    abbrev mine : Bool
    mine = bytes_eq (called world.names node.own) (party x).name && bytes_eq (called world.names to.node) (party (other x)).name

    two : (y : Side) → (party y).name ≡ (party (other y)).name → ⊥
    two y e = by_side y e where
      no : bytes_eq (party Greater).name (party Lesser).name ≡ true → ⊥
      no h = let clash : true ≡ false = sym h ∙ facts.names_differ in absurd cc

      by_side : (y : Side) → (party y).name ≡ (party (other y)).name → ⊥
      by_side Greater e = no ((bytes_eq-Decides (party Greater).name (party Lesser).name).1 e)
      by_side Lesser e = no ((bytes_eq-Decides (party Greater).name (party Lesser).name).1 (sym e))

    -- the sender's node isn't the other
    not_mine : mine ≡ false
    not_mine = by_test mine refl where
      by_test : (b : Bool) → mine ≡ b → b ≡ false
      by_test false h = refl
      by_test true h =
          let both = and_parts (bytes_eq (called world.names node.own) (party x).name) (bytes_eq (called world.names to.node) (party (other x)).name) h in
          absurd (two x (sym ((bytes_eq-Decides (called world.names node.own) (party x).name).0 both.0) ∙ ap (called world.names) (sym home) ∙ (bytes_eq-Decides (called world.names to.node) (party (other x)).name).0 both.1))

    unsaid : said_to party x (log ++ whole.0) ≡ said_to party x log
    unsaid = said_now (party x).name (party (other x)).name ∙ ap (λ (l : List Saying). said_to party x log ++ l) (by_told tells.told_is) ∙ append-nil (said_to party x log) where
      by_told : (told ≡ local.Note said_so ∷ []) ⊎ (told ≡ local.Note said_so ∷ local.Note got_so ∷ []) → filter_map (said_by (party x).name (party (other x)).name) whole.0 ≡ []
      by_told (inl e) = ap (λ (l : List LocalEntry). filter_map (said_by (party x).name (party (other x)).name) (all_told place after l (with_cell place (after, cell.1) world)).0) e ∙ ap (λ (b : Bool). cons_option (cond b (Some (saying_of world node by to (pair_between node by to).epoch (pair_between node by to).index said)) None) []) not_mine
      by_told (inr e) = ap (λ (l : List LocalEntry). filter_map (said_by (party x).name (party (other x)).name) (all_told place after l (with_cell place (after, cell.1) world)).0) e ∙ ap (λ (b : Bool). cons_option (cond b (Some (saying_of world node by to (pair_between node by to).epoch (pair_between node by to).index said)) None) []) not_mine

  -- ---- nodes

  marks : (b : ℕ) (t : ProcessId) → mark_of next b t ≡ mark_of node b t
  marks b t = by_test ((b == by) && same_process t to) refl where
    by_test : (k : Bool) → ((b == by) && same_process t to) ≡ k → mark_of next b t ≡ mark_of node b t
    by_test true h = let both = and_parts (b == by) (same_process t to) h in
        ap (λ (n : ℕ). mark_of next n t) (number_is b by both.0) ∙ ap (mark_of next by) (one_process t to both.1) ∙ ap (λ (p : Pair). p.mark) (home_pair node by to said done next sends) ∙ sym (ap (mark_of node by) (one_process t to both.1)) ∙ sym (ap (λ (n : ℕ). mark_of node n t) (number_is b by both.0))
    by_test false h = ap (λ (p : Pair). p.mark) (others_stay node next by b to t said room done (λ k. let yes : ((b == by) && same_process t to) ≡ true = ap (λ (n : ℕ). (n == by) && same_process t to) k.0 ∙ ap (λ (z : Bool). z && same_process t to) (number_same by) ∙ ap (λ (i : ProcessId). same_process i to) k.1 ∙ process_self to in let no : true ≡ false = sym yes ∙ h in absurd cc) does)

  own_same : next.own ≡ node.own
  own_same = ap (λ (n : NodeState). n.own) sends.same

  unique_same : next.unique ≡ node.unique
  unique_same = ap (λ (n : NodeState). n.unique) sends.same

  ends_same : ends_of next.mail ≡ ends_of node.mail
  ends_same = send_ends node next by (targets.Process to) said room done does

  next_stays : (party : Side → Party) (x : Side) → Says journal log world party x → node_of party world x ≡ Some node → ((conn id : ℕ) → given_to party world x conn ≡ Some id → given_to party whole.1 x conn ≡ Some id) → NodeStays party x world whole.1 next
  next_stays party x says there kept = record {
    was = node;
    there = there;
    own = own_same;
    made = ends_long node next (ap (λ (l : List Bool). length l) ends_same);
    declared = λ k t is to_is goal. declared_by k t to_is goal (stored_pair by to (said_pair node by to (pair_between node by to).mark) node.pairs k refl refl (subst (λ (n : NodeState). find (is_pair k.by k.to) n.pairs ≡ Some k) sends.same is));
    opened = λ b t conn goal marked. (sym (marks b t) ∙ marked, λ id given. kept conn id given);
    unopened = λ b t goal marked living. inl (sym (marks b t) ∙ marked, sym (living_as node next b own_same unique_same (ap (λ (l : List Bool). slice_get l b) ends_same)) ∙ living);
    unbroken = λ b t goal marked. sym (marks b t) ∙ marked;
  } where
    one_target : {a b : ProcessId} → targets.Process a ≡ targets.Process b → a ≡ b
    one_target e = cc

    declared_by : (k : Pair) (t : ProcessId) → k.to ≡ targets.Process t → t.node ≡ (party (other x)).address → (k.to ≡ targets.Process to) ⊎ (find (is_pair k.by k.to) node.pairs ≡ Some k) → IsDeclared world t
    declared_by k t to_is goal (inl e) = subst (IsDeclared world) (one_target (sym e ∙ to_is)) declared
    declared_by k t to_is goal (inr old) = says.declared node k t there old to_is goal

  carried_here : (party : Side → Party) (x : Side) → IsPairOf journal party → Says journal log world party x → place ≡ (party x).place → Streams party x log world (log ++ whole.0) whole.1 [] → Stays party x log world (log ++ whole.0) whole.1 ⊎ Sent journal party x log world (log ++ whole.0) whole.1
  carried_here party x pair says is_here streams = inl (record {
    named = told_names place after told (with_cell place (after, cell.1) world);
    said = unsaid party x pair;
    new = [];
    silent = refl;
    streams = streams;
    nodes = λ now there. by_at now (node_at world whole.1 place cell (after, cell.1) (party x).place (party x).address.id now at (told_cells place after told (with_cell place (after, cell.1) world)) there);
  }) where
    host_is : hosts_of world (party x).place ≡ cell.0.host
    host_is = ap (λ (k : ℕ). host_in (slice_get world.cells k)) (sym is_here) ∙ ap host_in at

    kept : (conn id : ℕ) → given_to party world x conn ≡ Some id → given_to party whole.1 x conn ≡ Some id
    kept conn id given = ap (λ (l : Link). id_of l.given conn) (link_here journal log log world place cell told after (λ e p. []) st run at uttered dialed party pair x says is_here ∙ ap (λ (c : Cell). link_with c.host (party x).address.id (party (other x)).address) tells.cell_is
        ∙ ap (λ (h : HostState). link_with h (party x).address.id (party (other x)).address) (sym host_is)) ∙ given

    by_stored : (now : NodeState) → ((end ≡ (party x).address.id) × (now ≡ next)) ⊎ (node_in (Some cell) (party x).address.id ≡ Some now) → NodeStays party x world whole.1 now
    by_stored now (inl own) = subst (NodeStays party x world whole.1) (sym own.1) (next_stays party x says (seen_in party x world place end number cell node at is_here own.0 found) kept)
    by_stored now (inr there) = node_same journal log party x world whole.1 now says (ap (λ (p : ℕ). node_in (slice_get world.cells p) (party x).address.id) (sym is_here) ∙ ap (λ (o : Option (Cell × ℕ)). node_in o (party x).address.id) at ∙ there) kept

    by_at : (now : NodeState) → ((place ≡ (party x).place) × (node_in (Some (after, cell.1)) (party x).address.id ≡ Some now)) ⊎ (node_in (slice_get world.cells (party x).place) (party x).address.id ≡ Some now) → NodeStays party x world whole.1 now
    by_at now (inl k) = by_stored now (stored_in end (party x).address.id cell.1 next now cell.0 (subst (λ (c : Cell). node_in (Some (c, cell.1)) (party x).address.id ≡ Some now) tells.cell_is k.1))
    by_at now (inr there) = node_same journal log party x world whole.1 now says there kept

  pub home_say : AllSay journal (log ++ whole.0) whole.1
  home_say = turn_say journal log log world place cell told after (λ e p. []) st run at uttered dialed (λ e p. tt) say (λ party x pair says is_here streams. carried_here party x pair says is_here streams) (λ party x pair away. unsaid party x pair)
