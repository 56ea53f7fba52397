-- What was got of one node at another, as its node and its link there change: whatever changes them so, what holds before holds after.
use Rattle.std.proofs.Common.{◌≡◌, ◌⊎◌, inl, inr, ◌≤◌, ◌<◌, ℕ, ◌+◌, Bool, true, false, cond, ◌&&◌, List, [], ◌∷◌, ◌++◌, length, refl, sym, ap, ◌∙◌, subst, arith}
use Rattle.std.specs.Prelude.{find, Option, Some, None, ◌==◌}
use Rattle.std.proofs.lemmas.List.Folds.{find-append}
use Rattle.std.specs.Option.{option_map, option_or}
use Rattle.ch_base.specs.declared.address.Address.{Address}
use Rattle.ch_ident.specs.declared.identifier.Identifier.{Identifier}
use Rattle.ch_ident.specs.declared.identifier.Identifier.TheVariants as ends
use Rattle.ch_ident.specs.declared.identifier.ProcessId.{ProcessId}
use Rattle.ch_ident.specs.declared.node_message.NodeMessage.TheVariants.{Opening}
use Rattle.ch_ident.specs.Spelling.{message}
use Rattle.ch_light.specs.declared.Connection.{Connection}
use Rattle.ch_light.specs.declared.TheConstants.{FIRST_ID}
use Rattle.ch_light.specs.Ids.{opened, id_of}
use Rattle.ch_static.specs.declared.target.Target.TheVariants as targets
use Rattle.ch_watch.specs.Same.{same_node}
use Rattle.ch_model.specs.declared.entry.Entry.{Entry}
use Rattle.ch_model.specs.declared.line.Line.{Line}
use Rattle.ch_model.specs.declared.name.ProcName.{ProcName}
use Rattle.ch_model.specs.declared.name.TargetName.TheVariants as names
use Rattle.ch_model.specs.AccountsFrames.{pair_opening}
use Rattle.ch_model.specs.AccountsItems.{first_payload}
use Rattle.ch_model.specs.Declarations.{process_id}
use Rattle.ch_model.specs.Naming.{Names, process_called}
use Rattle.ch_model.specs.NodeArrivals.{arrives}
use Rattle.ch_model.specs.NodeIds.{is_own, life_here, is_living}
use Rattle.ch_model.specs.NodeState.{NodeState, Unread, ToTarget, Arrived}
use Rattle.ch_model.specs.WorldState.{World}
use Rattle.ch_race.specs.Pair.{Side, other}
use Rattle.ch_laws_race.specs.Scene.{Party, link_of}
use Rattle.ch_laws_calls.specs.Scenes.{scene_of}
use Rattle.ch_laws_peers.specs.Says.{node_of}
use Rattle.ch_laws_peers.specs.Reads.{IsBoundBy, after_first, gets_of, IsOfPair, AllLeadHere, read_of, Gets}
use Rattle.ch_laws_messages.proofs.GotLists.{none_some, some_is}
use Rattle.ch_laws_messages.proofs.GotTables.{pushed_id, last_given}

abbrev pub has_conn : ℕ → Arrived → Bool
has_conn conn known = known.conn == conn

-- What was got at the second of two nodes, by its node, the connections that its link has created, what it has read, and the log.
pub record GetsAt (journal : List Line) (known : Names) (a b : Party) (n : Option NodeState) (created : List Connection) (read : List (ℕ × List ℕ)) (log : List Entry) : Type 0 where
  pub binds : (node : NodeState) (arrived : Arrived) (id : ℕ) → n ≡ Some node → find (has_conn arrived.conn) node.arrived ≡ Some arrived → same_node arrived.peer a.address ≡ true → id_of created arrived.conn ≡ Some id → IsBoundBy (first_payload id read) arrived.bound
  pub made : (node : NodeState) (arrived : Arrived) (from to : ProcessId) → n ≡ Some node → find (has_conn arrived.conn) node.arrived ≡ Some arrived → same_node arrived.peer a.address ≡ true → arrived.bound ≡ ToTarget from (targets.Process to) → (is_own node to ≡ true) × (to.counter < length node.mail)
  pub most : (p q : ProcName) (id : ℕ) (opening : List ℕ) → p.node ≡ a.name → q.node ≡ b.name → pair_opening journal p (names.Process q) ≡ Some opening → first_payload id read ≡ Some opening → gets_of p q log ≤ after_first id read
  pub none : (p q : ProcName) → p.node ≡ a.name → q.node ≡ b.name → ((id : ℕ) (opening : List ℕ) → pair_opening journal p (names.Process q) ≡ Some opening → first_payload id read ≡ Some opening → ⊥) → gets_of p q log ≡ 0
  pub all : (node : NodeState) (arrived : Arrived) (from to : ProcessId) (id : ℕ) → n ≡ Some node → find (has_conn arrived.conn) node.arrived ≡ Some arrived → same_node arrived.peer a.address ≡ true → arrived.bound ≡ ToTarget from (targets.Process to) → is_living node to ≡ true → id_of created arrived.conn ≡ Some id
      → gets_of (process_called known from) (process_called known to) log ≡ after_first id read
  pub pairs : (node : NodeState) (arrived : Arrived) (from to : ProcessId) → n ≡ Some node → find (has_conn arrived.conn) node.arrived ≡ Some arrived → same_node arrived.peer a.address ≡ true → arrived.bound ≡ ToTarget from (targets.Process to) → IsOfPair journal known a.name b.name from to
  pub reached : (node : NodeState) → n ≡ Some node → AllLeadHere node.own node.arrived
  pub below : (id : ℕ) (opening : List ℕ) → first_payload id read ≡ Some opening → id < FIRST_ID + length created

pub at_party : (journal : List Line) (log : List Entry) (world : World) (party : Side → Party) (x : Side) → Gets journal log world party x → GetsAt journal world.names (party x) (party (other x)) (node_of party world (other x)) (link_of (scene_of party world) (other x)).created (read_of party world x log) log
at_party journal log world party x g = record { binds = g.binds; made = g.made; most = g.gets.most; none = g.gets.none; all = g.gets.all; pairs = g.leads.pairs; reached = g.leads.reached; below = g.leads.below }

pub of_party : (journal : List Line) (log : List Entry) (world : World) (party : Side → Party) (x : Side) → GetsAt journal world.names (party x) (party (other x)) (node_of party world (other x)) (link_of (scene_of party world) (other x)).created (read_of party world x log) log → Gets journal log world party x
of_party journal log world party x g = record { binds = g.binds; made = g.made; gets = record { most = g.most; none = g.none; all = g.all }; leads = record { pairs = g.pairs; reached = g.reached; below = g.below } }

-- ---- what openings say

pub bound_some : (o : Option (List ℕ)) (from to : ProcessId) → IsBoundBy o (ToTarget from (targets.Process to)) → o ≡ Some (message (Opening (ends.Process from) (ends.Process to)))
bound_some None from to b = absurd b
bound_some (Some opening) from to b = ap Some b

pub pair_opens : (journal : List Line) (p q : ProcName) (from to : ProcessId) → process_id journal p ≡ Some from → process_id journal q ≡ Some to → pair_opening journal p (names.Process q) ≡ Some (message (Opening (ends.Process from) (ends.Process to)))
pair_opens journal p q from to e f = by_from (process_id journal p) e (process_id journal q) f where
  by_from : (o : Option ProcessId) → o ≡ Some from → (u : Option ProcessId) → u ≡ Some to → (elim o as (λ o. Option (List ℕ)) [
    | None ↦ None
    | Some from ↦ option_map (λ (to : Identifier). message (Opening (ends.Process from) to)) (option_map ends.Process u)
  ]) ≡ Some (message (Opening (ends.Process from) (ends.Process to)))
  by_from None e u f = absurd cc
  by_from (Some x) e None f = absurd cc
  by_from (Some x) e (Some y) f = cc

pub of_pair_opens : (journal : List Line) (known : Names) (a b : List ℕ) (from to : ProcessId) → IsOfPair journal known a b from to → pair_opening journal (process_called known from) (names.Process (process_called known to)) ≡ Some (message (Opening (ends.Process from) (ends.Process to)))
of_pair_opens journal known a b from to i = pair_opens journal (process_called known from) (process_called known to) from to i.from_is i.to_is

-- ---- a node

-- The processes of a node are those that there were, and perhaps more; who was made before and isn't over wasn't over.
pub record Lives (node next : NodeState) : Type 0 where
  pub own : next.own ≡ node.own
  pub unique : next.unique ≡ node.unique
  pub mail : length node.mail ≤ length next.mail
  pub back : (to : ProcessId) → to.counter < length node.mail → is_living next to ≡ true → is_living node to ≡ true

-- what has arrived from this peer had arrived before
pub record Stays (peer : Address) (node next : NodeState) : Type 0 where
  pub lives : Lives node next
  pub arrived : (a : Arrived) → find (has_conn a.conn) next.arrived ≡ Some a → same_node a.peer peer ≡ true → find (has_conn a.conn) node.arrived ≡ Some a

pub own_so : (node next : NodeState) (to : ProcessId) → next.own ≡ node.own → next.unique ≡ node.unique → is_own next to ≡ is_own node to
unfolding is_own
own_so node next to o u = ap (λ (a : Address). same_node to.node a && (to.unique == next.unique)) o ∙ ap (λ (m : ℕ). same_node to.node node.own && (to.unique == m)) u

-- ---- nothing is read or bound

pub gets_stay : (journal : List Line) (known : Names) (a b : Party) (n m : Option NodeState) (created now : List Connection) (read : List (ℕ × List ℕ)) (log after : List Entry) → GetsAt journal known a b n created read log
    → ((next : NodeState) → m ≡ Some next → (node : NodeState) × (n ≡ Some node) × Stays a.address node next)
    → ((next : NodeState) (arrived : Arrived) (id : ℕ) → m ≡ Some next → find (has_conn arrived.conn) next.arrived ≡ Some arrived → same_node arrived.peer a.address ≡ true → id_of now arrived.conn ≡ Some id → id_of created arrived.conn ≡ Some id)
    → length created ≤ length now → ((p q : ProcName) → p.node ≡ a.name → q.node ≡ b.name → gets_of p q after ≡ gets_of p q log) → ((next : NodeState) → m ≡ Some next → AllLeadHere next.own next.arrived) → GetsAt journal known a b m now read after
gets_stay journal known a b n m created now read log after g nodes ids long got leads = record {
  binds = λ next arrived id at found peer given. let was = nodes next at in g.binds was.0 arrived id was.1 (was.2.arrived arrived found peer) peer (ids next arrived id at found peer given);
  made = λ next arrived from to at found peer bound.
      let was = nodes next at in
      let one = g.made was.0 arrived from to was.1 (was.2.arrived arrived found peer) peer bound in
      let less = one.1 in
      let long = was.2.lives.mail in
      (own_so was.0 next to was.2.lives.own was.2.lives.unique ∙ one.0, omega arith);
  most = λ p q id opening x y o f. subst (λ (k : ℕ). k ≤ after_first id read) (sym (got p q x y)) (g.most p q id opening x y o f);
  none = λ p q x y no. got p q x y ∙ g.none p q x y no;
  all = λ next arrived from to id at found peer bound living given.
      let was = nodes next at in
      let there = was.2.arrived arrived found peer in
      let pair = g.pairs was.0 arrived from to was.1 there peer bound in
      got (process_called known from) (process_called known to) pair.from_node pair.to_node
      ∙ g.all was.0 arrived from to id was.1 there peer bound (was.2.lives.back to (g.made was.0 arrived from to was.1 there peer bound).1 living) (ids next arrived id at found peer given);
  pairs = λ next arrived from to at found peer bound. let was = nodes next at in g.pairs was.0 arrived from to was.1 (was.2.arrived arrived found peer) peer bound;
  reached = leads;
  below = λ id opening f. let less = g.below id opening f in omega arith;
}

-- ---- a connection comes

pub found_in : {A : Type 0} (test : A → Bool) (xs : List A) (x y : A) → find test (xs ++ x ∷ []) ≡ Some y → (find test xs ≡ Some y) ⊎ ((test x ≡ true) × (x ≡ y))
found_in {A = A} test xs x y e = by_found (find test xs) refl (sym (find-append test xs (x ∷ [])) ∙ e) where
  by_test : (b : Bool) → test x ≡ b → cond b (Some x) None ≡ Some y → (find test xs ≡ Some y) ⊎ ((test x ≡ true) × (x ≡ y))
  by_test true h e = inr (h, some_is x y e)
  by_test false h e = absurd cc

  by_found : (o : Option A) → find test xs ≡ o → option_or o (find test (x ∷ [])) ≡ Some y → (find test xs ≡ Some y) ⊎ ((test x ≡ true) × (x ≡ y))
  by_found None f e = by_test (test x) refl e
  by_found (Some z) f e = inl (f ∙ e)

pub gets_open : (journal : List Line) (known : Names) (a b : Party) (node : NodeState) (created : List Connection) (conn : ℕ) (peer : Address) (read : List (ℕ × List ℕ)) (log after : List Entry) → GetsAt journal known a b (Some node) created read log → find (has_conn conn) node.arrived ≡ None → id_of created conn ≡ None
    → ((p q : ProcName) → p.node ≡ a.name → q.node ≡ b.name → gets_of p q after ≡ gets_of p q log) → AllLeadHere node.own (arrives node conn peer).arrived → GetsAt journal known a b (Some (arrives node conn peer)) (created ++ opened conn ∷ []) read after
unfolding arrives is_own is_living life_here
gets_open journal known a b node created conn peer read log after g absent free got leads = record {
  binds = λ next arrived id at found from given. by_found arrived id given (was next arrived at found) (λ old. g.binds node arrived id refl old from (older next arrived id at old given));
  made = λ next arrived by to at found from bound. by_old next arrived at found bound (λ old. subst (λ (o : NodeState). (is_own o to ≡ true) × (to.counter < length o.mail)) (some_is (arrives node conn peer) next at) (g.made node arrived by to refl old from bound));
  most = λ p q id opening x y o f. subst (λ (k : ℕ). k ≤ after_first id read) (sym (got p q x y)) (g.most p q id opening x y o f);
  none = λ p q x y no. got p q x y ∙ g.none p q x y no;
  all = λ next arrived by to id at found from bound living given. by_old next arrived at found bound (λ old.
      let pair = g.pairs node arrived by to refl old from bound in
      got (process_called known by) (process_called known to) pair.from_node pair.to_node ∙ g.all node arrived by to id refl old from bound (subst (λ (o : NodeState). is_living o to ≡ true) (sym (some_is (arrives node conn peer) next at)) living) (older next arrived id at old given));
  pairs = λ next arrived by to at found from bound. by_old next arrived at found bound (λ old. g.pairs node arrived by to refl old from bound);
  reached = λ next at. subst (λ (o : NodeState). AllLeadHere o.own o.arrived) (some_is (arrives node conn peer) next at) leads;
  below = λ id opening f. let less = g.below id opening f in let long = longer created (opened conn) in omega arith;
} where
  new : Arrived
  new = record { conn = conn; peer = peer; bound = Unread }

  longer : {A : Type 0} (xs : List A) (x : A) → length xs ≤ length (xs ++ x ∷ [])
  longer [] x = omega arith
  longer (y ∷ xs) x = let h = longer xs x in omega arith

  was : (next : NodeState) (arrived : Arrived) → ◌≡◌ {A = Option NodeState} (Some (arrives node conn peer)) (Some next) → find (has_conn arrived.conn) next.arrived ≡ Some arrived → (find (has_conn arrived.conn) node.arrived ≡ Some arrived) ⊎ ((has_conn arrived.conn new ≡ true) × (new ≡ arrived))
  was next arrived at found = found_in (has_conn arrived.conn) node.arrived new arrived (ap (λ (o : NodeState). find (has_conn arrived.conn) o.arrived) (some_is (arrives node conn peer) next at) ∙ found)

  older : (next : NodeState) (arrived : Arrived) (id : ℕ) → ◌≡◌ {A = Option NodeState} (Some (arrives node conn peer)) (Some next) → find (has_conn arrived.conn) node.arrived ≡ Some arrived → id_of (created ++ opened conn ∷ []) arrived.conn ≡ Some id → id_of created arrived.conn ≡ Some id
  older next arrived id at old given = sym (pushed_id created conn arrived.conn (λ same. none_some arrived (find (has_conn conn) node.arrived) absent (ap (λ (c : ℕ). find (has_conn c) node.arrived) same ∙ old))) ∙ given

  by_found : (arrived : Arrived) (id : ℕ) → id_of (created ++ opened conn ∷ []) arrived.conn ≡ Some id → (find (has_conn arrived.conn) node.arrived ≡ Some arrived) ⊎ ((has_conn arrived.conn new ≡ true) × (new ≡ arrived)) → (find (has_conn arrived.conn) node.arrived ≡ Some arrived → IsBoundBy (first_payload id read) arrived.bound) → IsBoundBy (first_payload id read) arrived.bound
  by_found arrived id given (inl old) so = so old
  by_found arrived id given (inr is) so = subst (λ (o : Arrived). IsBoundBy (first_payload id read) o.bound) is.1 (by_first (first_payload id read) refl) where
    its : id ≡ FIRST_ID + length created
    its = some_is id (FIRST_ID + length created) (sym given ∙ ap (λ (o : Arrived). id_of (created ++ opened conn ∷ []) o.conn) (sym is.1) ∙ last_given created conn free)

    by_first : (o : Option (List ℕ)) → first_payload id read ≡ o → IsBoundBy o Unread
    by_first None f = tt
    by_first (Some opening) f = let less = g.below id opening f in let so = its in let never : ⊥ = omega arith in absurd never

  by_old : {A : Type 0} {from to : ProcessId} (next : NodeState) (arrived : Arrived) → ◌≡◌ {A = Option NodeState} (Some (arrives node conn peer)) (Some next) → find (has_conn arrived.conn) next.arrived ≡ Some arrived → arrived.bound ≡ ToTarget from (targets.Process to) → (find (has_conn arrived.conn) node.arrived ≡ Some arrived → A) → A
  by_old {A = A} {from = from} {to = to} next arrived at found bound so = by_was (was next arrived at found) where
    by_was : (find (has_conn arrived.conn) node.arrived ≡ Some arrived) ⊎ ((has_conn arrived.conn new ≡ true) × (new ≡ arrived)) → A
    by_was (inl old) = so old
    by_was (inr is) = let never : Unread ≡ ToTarget from (targets.Process to) = ap (λ (o : Arrived). o.bound) is.1 ∙ bound in absurd cc
