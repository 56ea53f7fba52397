-- The turn in which a process sends to a process of another node: the message is carried.
use Rattle.std.proofs.Common.{◌≡◌, ◌⊎◌, inl, inr, ◌≤◌, ℕ, ◌+◌, Bool, true, false, cond, ◌&&◌, List, [], ◌∷◌, ◌++◌, length, refl, sym, ap, ◌∙◌, subst, arith}
use Rattle.std.proofs.lemmas.Bool.{and_parts}
use Rattle.std.proofs.lemmas.List.{append-nil}
use Rattle.std.proofs.lemmas.List.Elements.{filter_map-append}
use Rattle.std.proofs.lemmas.Slice.Eq.{bytes_eq-Decides}
use Rattle.std.specs.List.{cons_option}
use Rattle.std.specs.Prelude.{filter_map, find, slice_get, slice_set, Option, Some, None, ◌==◌}
use Rattle.std.specs.Str.{bytes_eq}
use Rattle.ch_base.specs.declared.address.Address.{Address}
use Rattle.ch_ident.specs.declared.identifier.ProcessId.{ProcessId}
use Rattle.ch_ident.specs.declared.message.Message.{Message}
use Rattle.ch_light.specs.declared.TheConstants.{FIRST_ID}
use Rattle.ch_light.specs.Ids.{id_of}
use Rattle.ch_static.specs.declared.target.Target.TheVariants as targets
use Rattle.ch_watch.specs.Same.{same_node}
use Rattle.ch_model.specs.declared.entry.Entry.{Entry}
use Rattle.ch_model.specs.declared.entry.Entry.TheVariants as entries
use Rattle.ch_model.specs.declared.line.Line.{Line}
use Rattle.ch_model.specs.declared.local.LocalEntry.{LocalEntry}
use Rattle.ch_model.specs.declared.name.End.{End}
use Rattle.ch_model.specs.declared.name.ProcName.{ProcName}
use Rattle.ch_model.specs.declared.name.SockName.{SockName}
use Rattle.ch_model.specs.declared.step.Step.{Step}
use Rattle.ch_model.specs.declared.step.Step.TheVariants as steps
use Rattle.ch_model.specs.AccountsFrames.{Saying}
use Rattle.ch_model.specs.AccountsItems.{first_payload}
use Rattle.ch_model.specs.CellSteps.{is_at, store_node, told_steps}
use Rattle.ch_model.specs.HostState.{Link, HostState}
use Rattle.ch_model.specs.HostSteps.{own_address, link_with}
use Rattle.ch_model.specs.Naming.{called, process_called}
use Rattle.ch_model.specs.NodeIds.{process_id, is_own, life_here, is_living}
use Rattle.ch_model.specs.NodePairs.{is_pair, same_process}
use Rattle.ch_model.specs.NodeState.{NodeState, Pair, Unopened, Opened}
use Rattle.ch_model.specs.WorldHappenings.{with_cell}
use Rattle.ch_model.specs.WorldSockets as ends
use Rattle.ch_model.specs.WorldSockets.{item_arrives, with_end_of, find_end}
use Rattle.ch_model.specs.World.{world_new}
use Rattle.ch_model.specs.WorldState.{Cell, World}
use Rattle.ch_model.specs.WorldSteps.{on_end, reads_item, end_closes, stepped, all_told}
use Rattle.ch_race.specs.Pair.{Side, other}
use Rattle.ch_laws_bytes.proofs.Told.{told_names}
use Rattle.ch_laws_calls.specs.Scenes.{IsPairOf, scene_of, SceneFacts}
use Rattle.ch_laws_ends.proofs.Changes.{told_cells}
use Rattle.ch_laws_ends.proofs.Places.{got_same}
use Rattle.ch_laws_ids.specs.Runs.{AllRun}
use Rattle.ch_laws_links.specs.Naming.{IsNaming}
use Rattle.ch_laws_log.specs.HostEnds.{steps_in}
use Rattle.ch_laws_log.proofs.Homes.{node_self}
use Rattle.ch_laws_log.proofs.Keys.{node_is}
use Rattle.ch_laws_plain_logs.specs.Plain.{said_by}
use Rattle.ch_laws_race.specs.Scene.{Party, host_in, hosts_of, link_of}
use Rattle.ch_laws_calls.proofs.ScenesPlaces.{is_there, homed_as}
use Rattle.ch_laws_calls.specs.Turns.{told_on}
use Rattle.ch_laws_world.specs.Grows.{Home}
use Rattle.ch_laws_writes.proofs.Ordered.{is_key}
use Rattle.ch_laws_writes.proofs.Worlds.{number_is, number_same}
use Rattle.ch_laws_peers.specs.Words.{Placed, words_in, datas_in, sayings}
use Rattle.ch_laws_peers.specs.Says.{all_towards, node_in, node_of, ArePlaced, has_said, Says, AllSay}
use Rattle.ch_laws_peers.specs.Standing.{Standing}
use Rattle.ch_laws_messages.specs.SaidGoes.{said_to, given_to, mark_of, IsDeclared, SaysWell, Streams, NodeStays, Stays, Sent, sent_next, sent_first}
use Rattle.ch_laws_messages.specs.SaidPuts.{Utters, DialsOne, only_on}
use Rattle.ch_laws_messages.specs.SaidSends.{saying_of, Went}
use Rattle.ch_laws_messages.proofs.SaidMakes.{stored_in, seen_in}
use Rattle.ch_laws_messages.proofs.SaidNewIds.{next_new}
use Rattle.ch_laws_messages.proofs.SaidOnly.{only_one}
use Rattle.ch_laws_messages.proofs.SaidStill.{node_at, node_same}
use Rattle.ch_laws_messages.proofs.SaidTurn.{turn_say}
use Rattle.ch_laws_messages.proofs.SaidTurned.{link_here}
use Rattle.ch_laws_messages.proofs.SaidUtters.{puts_utters, puts_dial}
use Rattle.ch_laws_messages.proofs.SaidAskedAway.{one_process}

-- ---- what is told

on_end_unsaid : (x y : List ℕ) (place sock : ℕ) (f : SockName × End → World → List Entry × World) (world : World) → ((at : SockName × End) → filter_map (said_by x y) (f at world).0 ≡ []) → filter_map (said_by x y) (on_end place sock f world).0 ≡ []
on_end_unsaid x y place sock f world each = by_end (find_end place sock world.sockets) where
  by_end : (o : Option (SockName × End)) → filter_map (said_by x y) (elim o as (λ o. List Entry × World) [
    | None ↦ ([], world)
    | Some at ↦ f at world
  ]).0 ≡ []
  by_end None = refl
  by_end (Some at) = each at

-- a step says nothing
pub step_unsaid : (x y : List ℕ) (place : ℕ) (cell : Cell) (step : Step) (world : World) → filter_map (said_by x y) (stepped place cell step world).0 ≡ []
step_unsaid x y place cell (steps.Dial sock end peer) world = refl
step_unsaid x y place cell (steps.Read sock) world = on_end_unsaid x y place sock reads_item world (λ at. refl)
step_unsaid x y place cell (steps.Write sock bytes said) world = on_end_unsaid x y place sock (λ at now. (entries.Wrote at.0 at.1 bytes ∷ [], with_end_of at.0 (ends.other at.1) (item_arrives bytes said) now)) world (λ at. refl)
step_unsaid x y place cell (steps.Up sock) world = on_end_unsaid x y place sock (λ at now. (entries.Up at.0 at.1 ∷ [], now)) world (λ at. refl)
step_unsaid x y place cell (steps.Down sock) world = on_end_unsaid x y place sock (λ at now. (entries.Down at.0 at.1 ∷ [], end_closes at now)) world (λ at. refl)
step_unsaid x y place cell (steps.Left sock) world = on_end_unsaid x y place sock (λ at now. (entries.Left at.0 at.1 ∷ [], end_closes at now)) world (λ at. refl)
step_unsaid x y place cell (steps.Broke end peer why) world = refl
step_unsaid x y place cell (steps.Post end event) world = refl

pub steps_unsaid : (x y : List ℕ) (place : ℕ) (cell : Cell) (told : List Step) (world : World) → filter_map (said_by x y) (all_told place cell (told_steps told) world).0 ≡ []
steps_unsaid x y place cell [] world = refl
steps_unsaid x y place cell (step ∷ rest) world = filter_map-append (said_by x y) (stepped place cell step world).0 (all_told place cell (told_steps rest) (stepped place cell step world).1).0
    ∙ ap (λ (l : List Saying). l ++ filter_map (said_by x y) (all_told place cell (told_steps rest) (stepped place cell step world).1).0) (step_unsaid x y place cell step world) ∙ steps_unsaid x y place cell rest (stepped place cell step world).1

-- ---- the node after it

living_same : (node next : NodeState) (b : ℕ) → next ≡ record node { pairs = next.pairs; opened = next.opened } → is_living next (process_id next b) ≡ is_living node (process_id node b)
unfolding is_living life_here is_own
living_same node next b same = ap (λ (n : NodeState). is_living n (process_id n b)) same

pub process_self : (a : ProcessId) → same_process a a ≡ true
unfolding same_process
process_self a = ap (λ (b : Bool). b && ((a.unique == a.unique) && (a.counter == a.counter))) (node_self a.node) ∙ ap (λ (b : Bool). b && (a.counter == a.counter)) (number_same a.unique) ∙ number_same a.counter

-- the node that was stored is found
abbrev pub found_node : Option (ℕ × NodeState) → Option NodeState
found_node o = elim o [
  | None ↦ None
  | Some there ↦ Some there.1
]

pub stored_here : (end : ℕ) (next : NodeState) (there : ℕ × NodeState) (nodes : List (ℕ × NodeState)) → find (is_at end) nodes ≡ Some there → find (is_at end) (store_node end next nodes) ≡ Some (end, next)
stored_here end next there [] e = absurd cc
stored_here end next there (known ∷ rest) e = by_test (is_at end known) refl e (stored_here end next there rest) where
  by_test : (b : Bool) → is_at end known ≡ b → cond b (Some known) (find (is_at end) rest) ≡ Some there → (find (is_at end) rest ≡ Some there → find (is_at end) (store_node end next rest) ≡ Some (end, next)) → find (is_at end) (cond b ((end, next) ∷ rest) (known ∷ store_node end next rest)) ≡ Some (end, next)
  by_test true h e more = ap (λ (b : Bool). cond b (Some (end, next)) (find (is_at end) rest)) (number_same end)
  by_test false h e more = ap (λ (b : Bool). cond b (Some known) (find (is_at end) (store_node end next rest))) h ∙ more e

-- ---- the turn

module _ (journal : List Line) (log : List Entry) (world : World) (place : ℕ) (cell : Cell × ℕ) (end number : ℕ) (node next : NodeState) (by : ℕ) (to : ProcessId) (epoch index : ℕ) (said : Message) (told : List LocalEntry) (after : Cell)
    (at : slice_get world.cells place ≡ Some cell) (found : find (is_at end) cell.0.nodes ≡ Some (number, node)) (w : Went journal world cell.0 end node next by to epoch index said told after) (st : Standing journal log world) (run : AllRun log world) (well : SaysWell journal log) (say : AllSay journal log world) where
  abbrev done : List Entry × World
  done = told_on place cell after told world

  naming : IsNaming cell.0.host
  naming = (st.all.sound.links.naming place cell at).naming

  uttered : Utters cell.0.host (steps_in told) after.host (only_on end to.node w.new)
  uttered = puts_utters cell.0.host end to.node w.new (steps_in told) after.host naming w.spelled w.puts

  dialed : DialsOne (steps_in told)
  dialed = puts_dial cell.0.host end to.node w.new (steps_in told) after.host w.puts

  abbrev p : ProcName
  p = process_called world.names (process_id node by)

  abbrev q : ProcName
  q = process_called world.names to

  names_same : done.1.names ≡ world.names
  names_same = told_names place after told (with_cell place (after, cell.1) world)

  -- what two nodes say by it
  said_now : (x y : List ℕ) → sayings x y (log ++ done.0) ≡ sayings x y log ++ cons_option (cond (bytes_eq p.node x && bytes_eq q.node y) (Some (saying_of world node by to epoch index said)) None) []
  said_now x y = filter_map-append (said_by x y) log done.0 ∙ ap (λ (l : List Saying). sayings x y log ++ l) (ap (λ (l : List LocalEntry). filter_map (said_by x y) (all_told place after l (with_cell place (after, cell.1) world)).0) w.told_is
      ∙ ap (λ (l : List Saying). cons_option (cond (bytes_eq p.node x && bytes_eq q.node y) (Some (saying_of world node by to epoch index said)) None) l) (steps_unsaid x y place after w.steps (record (with_cell place (after, cell.1) world) { last = Some (record { epoch = epoch; index = index }) })))

  module _ (party : Side → Party) (x : Side) (pair : IsPairOf journal party) (says : Says journal log world party x) (here : place ≡ (party x).place) where
    facts : SceneFacts party world
    facts = st.each_pair.shown party pair

    abbrev id_x : ℕ
    id_x = (party x).address.id

    abbrev peer : Address
    peer = (party (other x)).address

    host_is : hosts_of world (party x).place ≡ cell.0.host
    host_is = ap (λ (k : ℕ). host_in (slice_get world.cells k)) (sym here) ∙ ap host_in at

    -- a node of the cell at the party's endpoint is at its address
    own_is : end ≡ id_x → node.own ≡ (party x).address
    own_is e = w.own ∙ ap (own_address cell.0.host) e ∙ ap (λ (h : HostState). own_address h id_x) (sym host_is) ∙ (facts.acts x cell (ap (slice_get world.cells) (sym here) ∙ at)).own

    -- it is of another pair of nodes: nothing is said between these
    apart : is_key end to.node id_x peer ≡ false → (bytes_eq p.node (party x).name && bytes_eq q.node (party (other x)).name) ≡ false
    apart off = by_test (bytes_eq p.node (party x).name && bytes_eq q.node (party (other x)).name) refl where
      by_test : (b : Bool) → (bytes_eq p.node (party x).name && bytes_eq q.node (party (other x)).name) ≡ b → b ≡ false
      by_test false h = refl
      by_test true h =
          let both = and_parts (bytes_eq p.node (party x).name) (bytes_eq q.node (party (other x)).name) h in
          let own = facts.is_called x node.own ((bytes_eq-Decides p.node (party x).name).0 both.0) in
          let goal = facts.is_called (other x) to.node ((bytes_eq-Decides q.node (party (other x)).name).0 both.1) in
          let same_end : end ≡ id_x = sym (ap (λ (a : Address). a.id) w.own) ∙ ap (λ (a : Address). a.id) own in
          let yes : is_key end to.node id_x peer ≡ true = ap (λ (k : ℕ). (k == id_x) && same_node to.node peer) same_end ∙ ap (λ (b : Bool). b && same_node to.node peer) (number_same id_x) ∙ ap (λ (a : Address). same_node a peer) goal ∙ node_self peer in
          let no : true ≡ false = sym yes ∙ off in absurd cc

    unsaid : is_key end to.node id_x peer ≡ false → said_to party x (log ++ done.0) ≡ said_to party x log
    unsaid off = said_now (party x).name (party (other x)).name ∙ ap (λ (b : Bool). said_to party x log ++ cons_option (cond b (Some (saying_of world node by to epoch index said)) None) []) (apart off) ∙ append-nil (said_to party x log)

    said_one : end ≡ id_x → to.node ≡ peer → said_to party x (log ++ done.0) ≡ said_to party x log ++ saying_of world node by to epoch index said ∷ []
    said_one e f = said_now (party x).name (party (other x)).name ∙ ap (λ (b : Bool). said_to party x log ++ cons_option (cond b (Some (saying_of world node by to epoch index said)) None) []) (ap (λ (b : Bool). b && bytes_eq q.node (party (other x)).name) ((bytes_eq-Decides p.node (party x).name).1 (ap (called world.names) (own_is e) ∙ facts.called_as x))
        ∙ (bytes_eq-Decides q.node (party (other x)).name).1 (ap (called world.names) f ∙ facts.called_as (other x)))

    -- ---- links

    link_was : link_of (scene_of party world) x ≡ link_with cell.0.host id_x peer
    link_was = ap (λ (h : HostState). link_with h id_x peer) host_is

    link_now : link_of (scene_of party done.1) x ≡ link_with after.host id_x peer
    link_now = link_here journal log log world place cell told after (only_on end to.node w.new) st run at uttered dialed party pair x says here

    kept_away : is_key end to.node id_x peer ≡ false → (c n : ℕ) → given_to party world x c ≡ Some n → given_to party done.1 x c ≡ Some n
    kept_away off c n given = ap (λ (l : Link). id_of l.given c) (link_now ∙ w.puts.others id_x peer off ∙ sym link_was) ∙ given

    -- ---- nodes

    declared_next : (k : Pair) (t : ProcessId) → node_of party world x ≡ Some node → find (is_pair k.by k.to) next.pairs ≡ Some k → k.to ≡ targets.Process t → t.node ≡ peer → IsDeclared world t
    declared_next k t there is to_is goal = by_pair (w.pairs k is) where
      one_target : {a b : ProcessId} → targets.Process a ≡ targets.Process b → a ≡ b
      one_target e = cc

      by_pair : (k.to ≡ targets.Process to) ⊎ (find (is_pair k.by k.to) node.pairs ≡ Some k) → IsDeclared world t
      by_pair (inl e) = subst (IsDeclared world) (one_target (sym e ∙ to_is)) w.declared
      by_pair (inr old) = says.declared node k t there old to_is goal

    self : (n : ℕ) → n ≤ n
    self n = omega arith

    mail_same : length node.mail ≤ length next.mail
    mail_same = subst (λ (n : NodeState). length node.mail ≤ length n.mail) (sym w.same) (self (length node.mail))

    there_of : end ≡ id_x → node_of party world x ≡ Some node
    there_of e = seen_in party x world place end number cell node at here e found

    next_stays : is_key end to.node id_x peer ≡ false → end ≡ id_x → NodeStays party x world done.1 next
    next_stays off e = record {
      was = node;
      there = there_of e;
      own = ap (λ (n : NodeState). n.own) w.same;
      made = mail_same;
      declared = λ k t is to_is goal. declared_next k t (there_of e) is to_is goal;
      opened = λ b t conn goal marked. (sym (mark b t goal) ∙ marked, λ id given. kept_away off conn id given);
      unopened = λ b t goal marked living. inl (sym (mark b t goal) ∙ marked, sym (living_same node next b w.same) ∙ living);
      unbroken = λ b t goal marked. sym (mark b t goal) ∙ marked;
    } where
      other_node : (t : ProcessId) → t.node ≡ peer → t ≡ to → ⊥
      other_node t goal same = let yes : is_key end to.node id_x peer ≡ true = ap (λ (k : ℕ). (k == id_x) && same_node to.node peer) e ∙ ap (λ (b : Bool). b && same_node to.node peer) (number_same id_x) ∙ ap (λ (a : Address). same_node a peer) (ap (λ (i : ProcessId). i.node) (sym same) ∙ goal) ∙ node_self peer in
          let no : true ≡ false = sym yes ∙ off in absurd cc

      mark : (b : ℕ) (t : ProcessId) → t.node ≡ peer → mark_of next b t ≡ mark_of node b t
      mark b t goal = w.others b t (λ k. other_node t goal k.1)

    nodes_stay : is_key end to.node id_x peer ≡ false → (now : NodeState) → node_of party done.1 x ≡ Some now → NodeStays party x world done.1 now
    nodes_stay off now there = by_at (node_at world done.1 place cell (after, cell.1) (party x).place id_x now at (told_cells place after told (with_cell place (after, cell.1) world)) there) where
      by_stored : ((end ≡ id_x) × (now ≡ next)) ⊎ (node_in (Some cell) id_x ≡ Some now) → NodeStays party x world done.1 now
      by_stored (inl k) = subst (NodeStays party x world done.1) (sym k.1) (next_stays off k.0)
      by_stored (inr k) = node_same journal log party x world done.1 now says (ap (λ (p : ℕ). node_in (slice_get world.cells p) id_x) (sym here) ∙ ap (λ (o : Option (Cell × ℕ)). node_in o id_x) at ∙ k) (kept_away off)

      by_at : ((place ≡ (party x).place) × (node_in (Some (after, cell.1)) id_x ≡ Some now)) ⊎ (node_in (slice_get world.cells (party x).place) id_x ≡ Some now) → NodeStays party x world done.1 now
      by_at (inl k) = by_stored (stored_in end id_x cell.1 next now cell.0 (sym (ap (λ (l : List (ℕ × NodeState)). found_node (find (is_at id_x) l)) w.nodes) ∙ k.1))
      by_at (inr k) = node_same journal log party x world done.1 now says k (kept_away off)

    -- ---- the message itself

    module _ (e : end ≡ id_x) (f : to.node ≡ peer) where
      abbrev there : node_of party world x ≡ Some node
      there = there_of e

      there_now : node_of party done.1 x ≡ Some next
      there_now = ap (λ (o : Option (Cell × ℕ)). node_in o id_x) (ap (λ (l : List (Cell × ℕ)). slice_get l (party x).place) (told_cells place after told (with_cell place (after, cell.1) world)) ∙ ap (slice_get (slice_set world.cells place (after, cell.1))) (sym here) ∙ got_same world.cells place cell (after, cell.1) at)
          ∙ ap (λ (l : List (ℕ × NodeState)). found_node (find (is_at id_x) l)) w.nodes ∙ ap (λ (k : ℕ). found_node (find (is_at k) (store_node end next cell.0.nodes))) (sym e) ∙ ap found_node (stored_here end next (number, node) cell.0.nodes found)

      given_was : (c n : ℕ) → given_to party world x c ≡ Some n → id_of (link_with cell.0.host end to.node).given c ≡ Some n
      given_was c n given = ap (λ (a : Address). id_of (link_with cell.0.host end a).given c) f ∙ ap (λ (k : ℕ). id_of (link_with cell.0.host k peer).given c) e ∙ ap (λ (l : Link). id_of l.given c) (sym link_was) ∙ given

      given_now : (c n : ℕ) → id_of (link_with after.host end to.node).given c ≡ Some n → given_to party done.1 x c ≡ Some n
      given_now c n given = ap (λ (l : Link). id_of l.given c) link_now ∙ ap (λ (k : ℕ). id_of (link_with after.host k peer).given c) (sym e) ∙ ap (λ (a : Address). id_of (link_with after.host end a).given c) (sym f) ∙ given

      some_is : {A : Type 0} {a b : A} → ◌≡◌ {A = Option A} (Some a) (Some b) → a ≡ b
      some_is e = cc

      next_goes : mark_of node by to ≡ Opened w.conn → id_of (link_with cell.0.host end to.node).given w.conn ≡ Some w.id → first_payload w.id (datas_in (words_in (all_towards party world x log))) ≡ Some w.opening
      next_goes marked has = let o = says.opened node by to w.conn there f marked in
          ap (λ (n : ℕ). first_payload n (datas_in (words_in (all_towards party world x log)))) (some_is (sym has ∙ given_was w.conn o.id o.given)) ∙ o.opened ∙ sym (sym w.opens ∙ o.opens)

      first_goes : w.id ≡ FIRST_ID + length (link_with cell.0.host end to.node).given → first_payload w.id (datas_in (words_in (all_towards party world x log))) ≡ None
      first_goes is = ap (λ (n : ℕ). first_payload n (datas_in (words_in (all_towards party world x log)))) (is ∙ ap (λ (a : Address). FIRST_ID + length (link_with cell.0.host end a).given) f ∙ ap (λ (k : ℕ). FIRST_ID + length (link_with cell.0.host k peer).given) e ∙ ap (λ (l : Link). FIRST_ID + length l.given) (sym link_was)) ∙ next_new journal log world st run party pair x says

      by_pair : (b : ℕ) (t : ProcessId) → ((b ≡ by) × (t ≡ to)) ⊎ (mark_of next b t ≡ mark_of node b t)
      by_pair b t = by_test ((b == by) && same_process t to) refl where
        by_test : (k : Bool) → ((b == by) && same_process t to) ≡ k → ((b ≡ by) × (t ≡ to)) ⊎ (mark_of next b t ≡ mark_of node b t)
        by_test true h = let both = and_parts (b == by) (same_process t to) h in inl (number_is b by both.0, one_process t to both.1)
        by_test false h = inr (w.others b t (λ k. let yes : ((b == by) && same_process t to) ≡ true = ap (λ (n : ℕ). (n == by) && same_process t to) k.0 ∙ ap (λ (z : Bool). z && same_process t to) (number_same by) ∙ ap (λ (i : ProcessId). same_process i to) k.1 ∙ process_self to in let no : true ≡ false = sym yes ∙ h in absurd cc))

      message : Streams party x log world (log ++ done.0) done.1 w.new → Sent journal party x log world (log ++ done.0) done.1
      message streams = record {
        named = names_same;
        was = node;
        now = next;
        there = there;
        there_now = there_now;
        own = ap (λ (n : NodeState). n.own) w.same;
        made = mail_same;
        living = λ b living. sym (living_same node next b w.same) ∙ living;
        declared = λ k t is to_is goal. declared_next k t there is to_is goal;
        by = by;
        to = to;
        by_made = w.made;
        to_declared = w.declared;
        s = saying_of world node by to epoch index said;
        s_by = refl;
        s_to = refl;
        said = said_one e f;
        opening = w.opening;
        opens = w.opens;
        only = λ h. only_one journal (party x).name (party (other x)).name log p q w.opening st.kinds well (ap (called world.names) (own_is e) ∙ facts.called_as x) (ap (called world.names) f ∙ facts.called_as (other x)) w.well w.opens h;
        conn = w.conn;
        id = w.id;
        given = given_now w.conn w.id w.given;
        kept = λ c n given. given_now c n (w.kept c n (given_was c n given));
        marked = w.marked;
        others = by_pair;
        new = w.new;
        streams = streams;
        goes = by_goes w.goes;
      } where
        by_goes : ((w.new ≡ sent_next w.id (saying_of world node by to epoch index said) (record { epoch = epoch; index = index })) × (mark_of node by to ≡ Opened w.conn) × (id_of (link_with cell.0.host end to.node).given w.conn ≡ Some w.id))
            ⊎ ((w.new ≡ sent_first w.id w.opening (saying_of world node by to epoch index said) (record { epoch = epoch; index = index })) × (mark_of node by to ≡ Unopened) × (w.id ≡ FIRST_ID + length (link_with cell.0.host end to.node).given))
            → ((w.new ≡ sent_next w.id (saying_of world node by to epoch index said) (record { epoch = epoch; index = index })) × (first_payload w.id (datas_in (words_in (all_towards party world x log))) ≡ Some w.opening))
            ⊎ ((w.new ≡ sent_first w.id w.opening (saying_of world node by to epoch index said) (record { epoch = epoch; index = index })) × (first_payload w.id (datas_in (words_in (all_towards party world x log))) ≡ None) × (has_said p q (said_to party x log) ≡ false))
        by_goes (inl k) = inl (k.0, next_goes k.1 k.2)
        by_goes (inr k) = inr (k.0, first_goes k.2, says.unopened node by to there f w.declared k.1 w.lives)

    -- what was said by this node is carried
    carried_here : Streams party x log world (log ++ done.0) done.1 (only_on end to.node w.new id_x peer) → Stays party x log world (log ++ done.0) done.1 ⊎ Sent journal party x log world (log ++ done.0) done.1
    carried_here streams = by_key (is_key end to.node id_x peer) refl where
      by_key : (b : Bool) → is_key end to.node id_x peer ≡ b → Stays party x log world (log ++ done.0) done.1 ⊎ Sent journal party x log world (log ++ done.0) done.1
      by_key true h = let both = and_parts (end == id_x) (same_node to.node peer) h in inr (message (number_is end id_x both.0) (node_is to.node peer both.1) (subst (λ (l : List Placed). Streams party x log world (log ++ done.0) done.1 l) (ap (λ (b : Bool). cond b w.new []) h) streams))
      by_key false h = inl (record {
        named = names_same;
        said = unsaid h;
        new = [];
        silent = refl;
        streams = subst (λ (l : List Placed). Streams party x log world (log ++ done.0) done.1 l) (ap (λ (b : Bool). cond b w.new []) h) streams;
        nodes = nodes_stay h;
      })

  placed_new : ArePlaced w.new
  placed_new = by_goes w.goes where
    by_goes : ((w.new ≡ sent_next w.id (saying_of world node by to epoch index said) (record { epoch = epoch; index = index })) × (mark_of node by to ≡ Opened w.conn) × (id_of (link_with cell.0.host end to.node).given w.conn ≡ Some w.id))
        ⊎ ((w.new ≡ sent_first w.id w.opening (saying_of world node by to epoch index said) (record { epoch = epoch; index = index })) × (mark_of node by to ≡ Unopened) × (w.id ≡ FIRST_ID + length (link_with cell.0.host end to.node).given)) → ArePlaced w.new
    by_goes (inl k) = subst ArePlaced (sym k.0) (tt, tt)
    by_goes (inr k) = subst ArePlaced (sym k.0) (refl, (tt, (tt, tt)))

  placed_on : (e : ℕ) (a : Address) → ArePlaced (only_on end to.node w.new e a)
  placed_on e a = by_test (is_key end to.node e a) where
    by_test : (b : Bool) → ArePlaced (cond b w.new [])
    by_test true = placed_new
    by_test false = tt

  -- the node is where its address is
  place_is : (party : Side → Party) (x : Side) → IsPairOf journal party → node.own ≡ (party x).address → place ≡ (party x).place
  place_is party x pair own =
      let h = homed_as world.cells (world_new journal).cells place cell st.all.sound.ends.homes at in
      let address : (party x).address ≡ own_address cell.0.host end = sym own ∙ w.own in
      some_is (sym (is_there journal place h.other (party x).address h.at (ap (λ (k : Home). k.0) h.home ∙ sym (ap (λ (a : Address). a.host) address)) (ap (λ (k : Home). k.1) h.home ∙ sym (ap (λ (a : Address). a.port) address))) ∙ pair.placed x) where
        some_is : {a b : ℕ} → ◌≡◌ {A = Option ℕ} (Some a) (Some b) → a ≡ b
        some_is e = cc

  -- a node of another cell isn't the one that sends
  elsewhere : (party : Side → Party) (x : Side) → IsPairOf journal party → (place == (party x).place) ≡ false → said_to party x (log ++ done.0) ≡ said_to party x log
  elsewhere party x pair away = said_now (party x).name (party (other x)).name ∙ ap (λ (b : Bool). said_to party x log ++ cons_option (cond b (Some (saying_of world node by to epoch index said)) None) []) (by_test (bytes_eq p.node (party x).name && bytes_eq q.node (party (other x)).name) refl) ∙ append-nil (said_to party x log) where
    by_test : (b : Bool) → (bytes_eq p.node (party x).name && bytes_eq q.node (party (other x)).name) ≡ b → b ≡ false
    by_test false h = refl
    by_test true h =
        let facts = st.each_pair.shown party pair in
        let own = facts.is_called x node.own ((bytes_eq-Decides p.node (party x).name).0 (and_parts (bytes_eq p.node (party x).name) (bytes_eq q.node (party (other x)).name) h).0) in
        let no : true ≡ false = sym (ap (λ (k : ℕ). place == k) (sym (place_is party x pair own)) ∙ number_same place) ∙ away in absurd cc

  pub went_say : AllSay journal (log ++ done.0) done.1
  went_say = turn_say journal log log world place cell told after (only_on end to.node w.new) st run at uttered dialed placed_on say (λ party x pair says here streams. carried_here party x pair says here streams) elsewhere
