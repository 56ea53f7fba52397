-- A process ends: its connections are closed, nothing is said, and no payload goes.
use Rattle.std.proofs.Common.{◌≡◌, ◌⊎◌, inl, inr, ◌≤◌, ℕ, ◌+◌, Bool, true, false, cond, List, [], ◌∷◌, ◌++◌, Ok, refl, sym, ap, ◌∙◌, subst, arith}
use Rattle.std.proofs.lemmas.List.{append-nil}
use Rattle.std.proofs.lemmas.List.Elements.{filter_map-append}
use Rattle.std.specs.Option.{option_map}
use Rattle.std.specs.Prelude.{filter_map, find, map, slice_get, slice_set, unwrap_or, Option, Some, None, ◌==◌}
use Rattle.ch_base.specs.declared.address.Address.{Address}
use Rattle.ch_base.specs.declared.event.Room.{Room}
use Rattle.ch_ident.specs.declared.identifier.ProcessId.{ProcessId}
use Rattle.ch_ident.specs.declared.reason.Reason.TheVariants.{Normal}
use Rattle.ch_light.specs.declared.Connection.{Connection}
use Rattle.ch_light.specs.Ids.{id_of}
use Rattle.ch_static.specs.declared.command.Command.TheVariants as commands
use Rattle.ch_static.specs.declared.target.Target.{Target}
use Rattle.ch_static.specs.declared.target.Target.TheVariants as targets
use Rattle.ch_model.specs.declared.act.Act.{Act}
use Rattle.ch_model.specs.declared.act.Act.TheVariants as acts
use Rattle.ch_model.specs.declared.entry.Entry.{Entry}
use Rattle.ch_model.specs.declared.line.Line.{Line}
use Rattle.ch_model.specs.declared.local.LocalEntry.{LocalEntry}
use Rattle.ch_model.specs.declared.local.LocalEntry.TheVariants as local
use Rattle.ch_model.specs.declared.note.Note.TheVariants as notes
use Rattle.ch_model.specs.declared.step.Step.{Step}
use Rattle.ch_model.specs.AccountsFrames.{Saying}
use Rattle.ch_model.specs.Cell.{room_for}
use Rattle.ch_model.specs.CellSteps.{is_at, with_node, store_node, acts_on}
use Rattle.ch_model.specs.HostState.{Link, HostState}
use Rattle.ch_model.specs.HostSteps.{link_with}
use Rattle.ch_model.specs.Node.{node_command, target_node}
use Rattle.ch_model.specs.NodeIds.{process_id, is_living, target_at}
use Rattle.ch_model.specs.NodePairs.{is_pair, new_pair, pair_of, conns_by, closed_mark, closed_by, closed_pairs}
use Rattle.ch_model.specs.NodeState.{NodeState, Pair, Mark, Unopened, Opened, Broken}
use Rattle.ch_model.specs.WorldHappenings.{with_cell}
use Rattle.ch_model.specs.WorldState.{Cell, World}
use Rattle.ch_model.specs.WorldSteps.{all_told}
use Rattle.ch_model.specs.WorldSteps as world_steps
use Rattle.ch_race.specs.Pair.{Side, other}
use Rattle.ch_laws_bytes.proofs.Lines.{own_of}
use Rattle.ch_laws_bytes.proofs.Told.{told_names}
use Rattle.ch_laws_calls.specs.Scenes.{IsPairOf, scene_of}
use Rattle.ch_laws_connections.specs.Fits.{FitsAs, CellHolds}
use Rattle.ch_laws_connections.specs.Senders.{sender_of, total, pair_has, node_has}
use Rattle.ch_laws_connections.specs.Tables.{given_at, given_so}
use Rattle.ch_laws_connections.specs.Taken.{ActsTaken}
use Rattle.ch_laws_connections.proofs.Acts.{Moves, After, act_fits, acts_fit}
use Rattle.ch_laws_connections.proofs.Pairs.{found_kept, kept_has}
use Rattle.ch_laws_ends.proofs.Changes.{told_cells}
use Rattle.ch_laws_ends.proofs.Places.{got_same}
use Rattle.ch_laws_calls.specs.FitsTurns.{NoDials}
use Rattle.ch_laws_ids.specs.Runs.{AllRun}
use Rattle.ch_laws_lives.specs.Rolls.{ends_of}
use Rattle.ch_laws_log.specs.HostEnds.{steps_in}
use Rattle.ch_laws_log.proofs.Keys.{pair_named}
use Rattle.ch_laws_plain_logs.specs.Plain.{said_by}
use Rattle.ch_laws_plain_nodes.specs.Does.{Ends}
use Rattle.ch_laws_plain_nodes.specs.Plain.{IsPlain}
use Rattle.ch_laws_plain_nodes.proofs.Commands.{does_end}
use Rattle.ch_laws_race.specs.Scene.{Party, host_in, link_of}
use Rattle.ch_laws_calls.specs.Turns.{told_on}
use Rattle.ch_laws_peers.specs.Says.{node_in, node_of, Says, AllSay}
use Rattle.ch_laws_peers.specs.Standing.{Standing}
use Rattle.ch_laws_writes.proofs.Worlds.{number_is, number_same}
use Rattle.ch_laws_messages.specs.SaidGoes.{said_to, given_to, mark_of, IsDeclared, Streams, NodeStays, Stays, Sent}
use Rattle.ch_laws_messages.specs.SaidPuts.{Utters, DialsOne}
use Rattle.ch_laws_messages.proofs.SaidActs.{Noted, noted}
use Rattle.ch_laws_messages.proofs.SaidAsks.{Agreed, command_agreed}
use Rattle.ch_laws_messages.proofs.SaidClosing.{ClosesAll, closes_all}
use Rattle.ch_laws_messages.proofs.SaidLives.{living_as, over_dead, EndsOver, end_over}
use Rattle.ch_laws_messages.proofs.SaidMakes.{stored_in, seen_in}
use Rattle.ch_laws_messages.proofs.SaidSends.{steps_unsaid, found_node, stored_here}
use Rattle.ch_laws_messages.proofs.SaidStill.{node_same}
use Rattle.ch_laws_messages.proofs.SaidTurn.{turn_say}
use Rattle.ch_laws_messages.proofs.SaidTurned.{link_here}

-- ---- pairs whose connections are closed

pub some_is : {A : Type 0} {a b : A} → ◌≡◌ {A = Option A} (Some a) (Some b) → a ≡ b
some_is e = cc

closed_test : (by b : ℕ) (to : Target) (p : Pair) → is_pair b to (closed_by by p) ≡ is_pair b to p
unfolding is_pair
closed_test by b to p = by_test (p.by == by) where
  by_test : (t : Bool) → is_pair b to (cond t (record p { mark = closed_mark p.mark }) p) ≡ is_pair b to p
  by_test true = refl
  by_test false = refl

find_closed : (by b : ℕ) (to : Target) (pairs : List Pair) → find (is_pair b to) (closed_pairs pairs by) ≡ option_map (closed_by by) (find (is_pair b to) pairs)
unfolding closed_pairs
find_closed by b to [] = refl
find_closed by b to (p ∷ rest) = ap (λ (t : Bool). cond t (Some (closed_by by p)) (find (is_pair b to) (map (closed_by by) rest))) (closed_test by b to p) ∙ by_test (is_pair b to p) (find_closed by b to rest) where
  by_test : (t : Bool) → find (is_pair b to) (map (closed_by by) rest) ≡ option_map (closed_by by) (find (is_pair b to) rest) → cond t (Some (closed_by by p)) (find (is_pair b to) (map (closed_by by) rest)) ≡ option_map (closed_by by) (cond t (Some p) (find (is_pair b to) rest))
  by_test true e = refl
  by_test false e = e

-- the mark of a pair after it
mark_closed : (by b : ℕ) (to : Target) (pairs : List Pair) → (pair_of (closed_pairs pairs by) b to).mark ≡ cond (b == by) (closed_mark (pair_of pairs b to).mark) (pair_of pairs b to).mark
unfolding pair_of
mark_closed by b to pairs = ap (λ (p : Pair). p.mark) whole ∙ own (pair_of pairs b to) (pair_named pairs b to).0 where
  own : (p : Pair) → p.by ≡ b → (closed_by by p).mark ≡ cond (b == by) (closed_mark p.mark) p.mark
  own p e = by_test (p.by == by) ∙ ap (λ (n : ℕ). cond (n == by) (closed_mark p.mark) p.mark) e where
    by_test : (t : Bool) → (cond t (record p { mark = closed_mark p.mark }) p).mark ≡ cond t (closed_mark p.mark) p.mark
    by_test true = refl
    by_test false = refl

  whole : pair_of (closed_pairs pairs by) b to ≡ closed_by by (pair_of pairs b to)
  whole = ap (λ (o : Option Pair). unwrap_or o (new_pair b to)) (find_closed by b to pairs) ∙ by_found (find (is_pair b to) pairs) where
    new_same : (t : Bool) → new_pair b to ≡ cond t (record (new_pair b to) { mark = Unopened }) (new_pair b to)
    new_same true = refl
    new_same false = refl

    by_found : (o : Option Pair) → unwrap_or (option_map (closed_by by) o) (new_pair b to) ≡ closed_by by (unwrap_or o (new_pair b to))
    by_found None = new_same (b == by)
    by_found (Some p) = refl

-- ---- the turn

module _ (journal : List Line) (log : List Entry) (world : World) (place : ℕ) (cell : Cell × ℕ) (end number : ℕ) (node next : NodeState) (by : ℕ) (done : List Act) (told : List LocalEntry) (after : Cell) (at : slice_get world.cells place ≡ Some cell) (found : find (is_at end) cell.0.nodes ≡ Some (number, node))
    (does : node_command node by commands.End (room_for cell.0.host end node.own (target_node node by commands.End)) ≡ Ok (done, next)) (all : acts_on end done (with_node end next cell.0) ≡ Ok (told, after)) (st : Standing journal log world) (run : AllRun log world) (say : AllSay journal log world) where
  abbrev room : Room
  room = room_for cell.0.host end node.own (target_node node by commands.End)

  abbrev whole : List Entry × World
  whole = told_on place cell after told world

  abbrev stored : Cell
  stored = with_node end next cell.0

  abbrev closes : List Act
  closes = map (λ conn. acts.Close conn) (conns_by node.pairs by)

  plain : IsPlain node
  plain = ((st.plain.cells place cell at).nodes end (number, node) found).plain

  holds : CellHolds cell.0
  holds = (st.meets place cell at).0

  is : Ends node by done next
  is = (does_end node next by room done plain does).0

  over : EndsOver node next by
  over = end_over node next by room done plain does

  own_same : next.own ≡ node.own
  own_same = ap (λ (n : NodeState). n.own) is.same

  unique_same : next.unique ≡ node.unique
  unique_same = ap (λ (n : NodeState). n.unique) is.same

  pairs_are : next.pairs ≡ closed_pairs node.pairs by
  pairs_are = ap (λ (n : NodeState). n.pairs) is.same

  agreed : Agreed cell.0 end done next
  agreed = command_agreed cell.0 end number node by commands.End done next holds found (ap (λ (n : NodeState). n.is_shut) is.same ∙ plain.unshut) does

  more : Noted (notes.Over (process_id node by) Normal) (acts_on end closes stored) told after
  more = noted (notes.Over (process_id node by) Normal) (acts_on end closes stored) told after (subst (λ (l : List Act). acts_on end l stored ≡ Ok (told, after)) is.did all)

  k : ClosesAll (own_of journal place) stored more.more after
  k = closes_all (own_of journal place) end (conns_by node.pairs by) (sender_of next) stored more.more after (st.all.sound.ends.flowing.orderly place cell at) (st.all.sound.links.naming place cell at).naming holds.1.links
      (act_fits false end (acts.Note (notes.Over (process_id node by) Normal)) closes (sender_of next) stored holds.1.links (subst (λ (l : List Act). FitsAs false cell.0.host end l (sender_of next)) is.did agreed.fits)).2
      (subst (λ (l : List Act). ActsTaken end l stored) is.did agreed.taken).1 more.left

  steps_are : steps_in told ≡ steps_in more.more
  steps_are = ap steps_in more.told_is

  uttered : Utters cell.0.host (steps_in told) after.host k.closing.new
  uttered = subst (λ (l : List Step). Utters cell.0.host l after.host k.closing.new) (sym steps_are) k.closing.utters

  dialed : DialsOne (steps_in told)
  dialed = inl (subst NoDials (sym steps_are) k.closing.quiet)

  -- node and host agree after it
  final : Moves end cell.0.host after.host × FitsAs false after.host end [] (sender_of next)
  final = let f = subst (After end stored false [] (sender_of next)) all (acts_fit false end done (sender_of next) stored holds.1.links agreed.fits) in (f.1, f.2)

  unsaid : (party : Side → Party) (x : Side) → said_to party x (log ++ whole.0) ≡ said_to party x log
  unsaid party x = filter_map-append (said_by (party x).name (party (other x)).name) log whole.0 ∙ ap (λ (l : List Saying). said_to party x log ++ l)
      (ap (λ (l : List LocalEntry). filter_map (said_by (party x).name (party (other x)).name) (all_told place after l (with_cell place (after, cell.1) world)).0) (more.told_is ∙ ap (λ (l : List LocalEntry). local.Note (notes.Over (process_id node by) Normal) ∷ l) k.told_is)
      ∙ steps_unsaid (party x).name (party (other x)).name place after k.steps (world_steps.noted (notes.Over (process_id node by) Normal) (with_cell place (after, cell.1) world)).1) ∙ append-nil (said_to party x log)

  -- ---- the node

  mark_next : (b : ℕ) (t : ProcessId) → mark_of next b t ≡ cond (b == by) (closed_mark (mark_of node b t)) (mark_of node b t)
  mark_next b t = ap (λ (l : List Pair). (pair_of l b (targets.Process t)).mark) pairs_are ∙ mark_closed by b (targets.Process t) node.pairs

  still_open : (b : ℕ) (t : ProcessId) (conn : ℕ) → mark_of next b t ≡ Opened conn → mark_of node b t ≡ Opened conn
  still_open b t conn e = by_test (b == by) (mark_of node b t) (sym (mark_next b t) ∙ e) where
    by_mark : (m : Mark) → closed_mark m ≡ Opened conn → m ≡ Opened conn
    by_mark Unopened e = absurd cc
    by_mark (Opened c) e = absurd cc
    by_mark Broken e = absurd cc

    by_test : (x : Bool) (m : Mark) → cond x (closed_mark m) m ≡ Opened conn → m ≡ Opened conn
    by_test true m e = by_mark m e
    by_test false m e = e

  still_broken : (b : ℕ) (t : ProcessId) → mark_of next b t ≡ Broken → mark_of node b t ≡ Broken
  still_broken b t e = by_test (b == by) (mark_of node b t) (sym (mark_next b t) ∙ e) where
    by_mark : (m : Mark) → closed_mark m ≡ Broken → m ≡ Broken
    by_mark Unopened e = absurd cc
    by_mark (Opened c) e = absurd cc
    by_mark Broken e = refl

    by_test : (x : Bool) (m : Mark) → cond x (closed_mark m) m ≡ Broken → m ≡ Broken
    by_test true m e = by_mark m e
    by_test false m e = e

  still_unopened : (b : ℕ) (t : ProcessId) → mark_of next b t ≡ Unopened → is_living next (process_id next b) ≡ true → (mark_of node b t ≡ Unopened) × (is_living node (process_id node b) ≡ true)
  still_unopened b t e lives = by_test (b == by) refl (sym (mark_next b t) ∙ e) where
    by_test : (x : Bool) → (b == by) ≡ x → cond x (closed_mark (mark_of node b t)) (mark_of node b t) ≡ Unopened → (mark_of node b t ≡ Unopened) × (is_living node (process_id node b) ≡ true)
    by_test true h m = let no : true ≡ false = sym lives ∙ over_dead next b (ap (slice_get (ends_of next.mail)) (number_is b by h) ∙ over.over) in absurd cc
    by_test false h m = (m, sym (living_as node next b own_same unique_same (over.others b (λ s. let yes : true ≡ false = sym (number_same b) ∙ ap (λ (n : ℕ). b == n) (sym s) ∙ h in absurd cc))) ∙ lives)

  -- a connection that a pair has is given still
  given_now : (b : ℕ) (t : ProcessId) (conn : ℕ) → mark_of next b t ≡ Opened conn → 1 ≤ given_so after.host end conn t.node
  given_now b t conn e = subst (λ (n : ℕ). 1 ≤ n) (sym (final.1.1.given conn t.node)) (enough (total (pair_has conn t.node) next.pairs) (total (node_has conn t.node) next.to_nodes)
      (subst (λ (a : Address). 1 ≤ total (pair_has conn a) next.pairs) (ap target_at (pair_named next.pairs b (targets.Process t)).1) (kept_has (pair_of next.pairs b (targets.Process t)) next.pairs conn (found_kept next.pairs b (targets.Process t)) e)))
    where
      enough : (a b : ℕ) → 1 ≤ a → 1 ≤ a + b
      enough a b l = omega arith

  module _ (party : Side → Party) (x : Side) (pair : IsPairOf journal party) (says : Says journal log world party x) (here : place ≡ (party x).place) where
    abbrev id_x : ℕ
    id_x = (party x).address.id

    abbrev peer : Address
    peer = (party (other x)).address

    link_was : link_of (scene_of party world) x ≡ link_with cell.0.host id_x peer
    link_was = ap (λ (h : HostState). link_with h id_x peer) (ap (λ (n : ℕ). host_in (slice_get world.cells n)) (sym here) ∙ ap host_in at)

    link_now : link_of (scene_of party whole.1) x ≡ link_with after.host id_x peer
    link_now = link_here journal log log world place cell told after k.closing.new st run at uttered dialed party pair x says here

    given_as : (conn id : ℕ) → (id_of (given_at cell.0.host id_x peer) conn ≡ Some id → id_of (given_at after.host id_x peer) conn ≡ Some id) → given_to party world x conn ≡ Some id → given_to party whole.1 x conn ≡ Some id
    given_as conn id f g = ap (λ (l : Link). id_of l.given conn) link_now ∙ f (ap (λ (l : Link). id_of l.given conn) (sym link_was) ∙ g)

    next_stays : end ≡ id_x → node_of party world x ≡ Some node → NodeStays party x world whole.1 next
    next_stays same there = record {
      was = node;
      there = there;
      own = own_same;
      made = over.long;
      declared = λ p t is_there to_is goal. declared_by p t to_is goal (find (is_pair p.by p.to) node.pairs) refl (sym (find_closed by p.by p.to node.pairs) ∙ ap (find (is_pair p.by p.to)) (sym pairs_are) ∙ is_there);
      opened = λ b t conn goal marked. (still_open b t conn marked, λ id given. given_as conn id ((k.closing.left id_x peer conn (subst (λ (n : ℕ). 1 ≤ given_so after.host n conn peer) same (subst (λ (a : Address). 1 ≤ given_so after.host end conn a) goal (given_now b t conn marked)))).kept id) given);
      unopened = λ b t goal marked living. inl (still_unopened b t marked living);
      unbroken = λ b t goal marked. still_broken b t marked;
    } where
      fields : (q : Pair) (t : Bool) → ((cond t (record q { mark = closed_mark q.mark }) q).by ≡ q.by) × ((cond t (record q { mark = closed_mark q.mark }) q).to ≡ q.to)
      fields q true = (refl, refl)
      fields q false = (refl, refl)

      declared_by : (p : Pair) (t : ProcessId) → p.to ≡ targets.Process t → t.node ≡ peer → (o : Option Pair) → find (is_pair p.by p.to) node.pairs ≡ o → option_map (closed_by by) o ≡ Some p → IsDeclared world t
      declared_by p t to_is goal None e f = absurd cc
      declared_by p t to_is goal (Some q) e f =
          let both = fields q (q.by == by) in
          let by_is : q.by ≡ p.by = sym both.0 ∙ ap (λ (z : Pair). z.by) (some_is f) in
          let to_same : q.to ≡ p.to = sym both.1 ∙ ap (λ (z : Pair). z.to) (some_is f) in
          says.declared node q t there (ap (λ (n : ℕ). find (is_pair n q.to) node.pairs) by_is ∙ ap (λ (z : Target). find (is_pair p.by z) node.pairs) to_same ∙ e) (to_same ∙ to_is) goal

    -- the node that stands there now
    there_in : (now : NodeState) → node_of party whole.1 x ≡ Some now → node_in (Some (after, cell.1)) id_x ≡ Some now
    there_in now there = sym (ap (λ (o : Option (Cell × ℕ)). node_in o id_x) (ap (λ (l : List (Cell × ℕ)). slice_get l (party x).place) (told_cells place after told (with_cell place (after, cell.1) world)) ∙ ap (slice_get (slice_set world.cells place (after, cell.1))) (sym here) ∙ got_same world.cells place cell (after, cell.1) at)) ∙ there

    nodes_are : (now : NodeState) → node_in (Some (after, cell.1)) id_x ≡ Some now → found_node (find (is_at id_x) (store_node end next cell.0.nodes)) ≡ Some now
    nodes_are now e = ap (λ (l : List (ℕ × NodeState)). found_node (find (is_at id_x) l)) (sym k.nodes) ∙ e

    by_end : (now : NodeState) → node_in (Some (after, cell.1)) id_x ≡ Some now → (b : Bool) → (end == id_x) ≡ b → NodeStays party x world whole.1 now
    by_end now e true h =
        let same = number_is end id_x h in
        let is_next : next ≡ now = some_is (sym (ap found_node (stored_here end next (number, node) cell.0.nodes found)) ∙ ap (λ (n : ℕ). found_node (find (is_at n) (store_node end next cell.0.nodes))) same ∙ nodes_are now e) in
        subst (NodeStays party x world whole.1) is_next (next_stays same (seen_in party x world place end number cell node at here same found))
    by_end now e false h = by_stored (stored_in end id_x cell.1 next now cell.0 (nodes_are now e)) where
      by_stored : ((end ≡ id_x) × (now ≡ next)) ⊎ (node_in (Some cell) id_x ≡ Some now) → NodeStays party x world whole.1 now
      by_stored (inl own) = let no : true ≡ false = sym (number_same id_x) ∙ ap (λ (n : ℕ). n == id_x) (sym own.0) ∙ h in absurd cc
      by_stored (inr there) = node_same journal log party x world whole.1 now says (ap (λ (p : ℕ). node_in (slice_get world.cells p) id_x) (sym here) ∙ ap (λ (o : Option (Cell × ℕ)). node_in o id_x) at ∙ there)
          (λ conn id given. given_as conn id (λ g. ap (λ (t : List Connection). id_of t conn) (final.0.others id_x peer h) ∙ g) given)

    carried_here : Streams party x log world (log ++ whole.0) whole.1 (k.closing.new id_x peer) → Stays party x log world (log ++ whole.0) whole.1 ⊎ Sent journal party x log world (log ++ whole.0) whole.1
    carried_here streams = inl (record {
      named = told_names place after told (with_cell place (after, cell.1) world);
      said = unsaid party x;
      new = k.closing.new id_x peer;
      silent = k.closing.silent id_x peer;
      streams = streams;
      nodes = λ now there. let e = there_in now there in by_end now e (end == id_x) refl;
    })

  pub end_say : AllSay journal (log ++ whole.0) whole.1
  end_say = turn_say journal log log world place cell told after k.closing.new st run at uttered dialed k.closing.placed say (λ party x pair says here streams. carried_here party x pair says here streams) (λ party x pair away. unsaid party x)
