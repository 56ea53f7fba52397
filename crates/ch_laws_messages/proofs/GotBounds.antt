-- What was got of one node at another, as a payload is read: the opening of a connection, which binds it, or a message, which is got or not.
use Rattle.std.proofs.Common.{◌≡◌, ◌⊎◌, inl, inr, ◌≤◌, ◌<◌, ℕ, suc, ◌+◌, Bool, true, false, cond, List, [], ◌∷◌, ◌++◌, map, length, refl, sym, ap, ◌∙◌, subst, arith}
use Rattle.std.specs.Prelude.{find, Option, Some, None, ◌==◌}
use Rattle.ch_base.specs.declared.address.Address.{Address}
use Rattle.ch_ident.specs.declared.identifier.Identifier.TheVariants as ends
use Rattle.ch_ident.specs.declared.identifier.ProcessId.{ProcessId}
use Rattle.ch_ident.specs.declared.node_message.NodeMessage.TheVariants.{Opening}
use Rattle.ch_ident.specs.Spelling.{message}
use Rattle.ch_light.specs.declared.Connection.{Connection}
use Rattle.ch_light.specs.declared.TheConstants.{FIRST_ID}
use Rattle.ch_light.specs.Ids.{id_of}
use Rattle.ch_static.specs.declared.target.Target.TheVariants as targets
use Rattle.ch_watch.specs.Same.{same_node}
use Rattle.ch_model.specs.declared.entry.Entry.{Entry}
use Rattle.ch_model.specs.declared.line.Line.{Line}
use Rattle.ch_model.specs.declared.name.ProcName.{ProcName}
use Rattle.ch_model.specs.declared.name.TargetName.TheVariants as names
use Rattle.ch_model.specs.AccountsFrames.{pair_opening}
use Rattle.ch_model.specs.AccountsItems.{first_payload}
use Rattle.ch_model.specs.Naming.{Names, process_called}
use Rattle.ch_model.specs.NodeArrivals.{rebound, bind}
use Rattle.ch_model.specs.NodeIds.{is_own, life_here, is_living}
use Rattle.ch_model.specs.NodeState.{NodeState, Bound, Void, ToTarget, Arrived}
use Rattle.ch_laws_log.proofs.Stored.{number_is, number_same}
use Rattle.ch_laws_race.specs.Scene.{Party}
use Rattle.ch_laws_peers.specs.Reads.{IsBoundBy, after_first, gets_of, IsOfPair, AllLeadHere}
use Rattle.ch_laws_messages.proofs.GotLists.{clash, none_some, some_is, first_stays, first_next, first_else, after_next, after_else, after_new}
use Rattle.ch_laws_messages.proofs.GotTables.{one_id, id_within}
use Rattle.ch_laws_messages.proofs.GotLiving.{living_there}
use Rattle.ch_laws_messages.proofs.GotMoves.{has_conn, GetsAt, bound_some, of_pair_opens, Stays, own_so}

-- no two ids were opened by one message
abbrev pub AreAlone : List (ℕ × List ℕ) → Type 0
AreAlone read = (i j : ℕ) (opening : List ℕ) → first_payload i read ≡ Some opening → first_payload j read ≡ Some opening → i ≡ j

-- the log after has no more of what goes from the one node to the other
abbrev pub SameGot : Party → Party → List Entry → List Entry → Type 0
SameGot a b log after = (p q : ProcName) → p.node ≡ a.name → q.node ≡ b.name → gets_of p q after ≡ gets_of p q log

-- a connection from the first node that is open under this id
pub record IsAt (a : Party) (node : NodeState) (created : List Connection) (one : Arrived) (id : ℕ) : Type 0 where
  pub there : find (has_conn one.conn) node.arrived ≡ Some one
  pub peer : same_node one.peer a.address ≡ true
  pub given : id_of created one.conn ≡ Some id

-- ---- a connection is bound

-- what is found there once a connection is bound: the one that is bound so, or another as it was
pub record IsRebound (conn : ℕ) (bound : Bound) (all : List Arrived) (now : Arrived) : Type 0 where
  pub old : Arrived
  pub there : find (has_conn now.conn) all ≡ Some old
  pub is : now ≡ rebound conn bound old

abbrev bound_so : Bool → Bound → Arrived → Arrived
bound_so b bound arrived = cond b (record arrived { bound = bound }) arrived

same_conn : (b : Bool) (bound : Bound) (arrived : Arrived) → (bound_so b bound arrived).conn ≡ arrived.conn
same_conn true bound arrived = refl
same_conn false bound arrived = refl

same_peer : (b : Bool) (bound : Bound) (arrived : Arrived) → (bound_so b bound arrived).peer ≡ arrived.peer
same_peer true bound arrived = refl
same_peer false bound arrived = refl

pub found_bound : (conn key : ℕ) (bound : Bound) (all : List Arrived) (now : Arrived) → find (has_conn key) (map (rebound conn bound) all) ≡ Some now → (old : Arrived) × (find (has_conn key) all ≡ Some old) × (now ≡ rebound conn bound old)
found_bound conn key bound [] now e = absurd cc
found_bound conn key bound (x ∷ xs) now e = by_test (x.conn == key) refl (ap (λ (c : ℕ). cond (c == key) (Some (rebound conn bound x)) (find (has_conn key) (map (rebound conn bound) xs))) (sym (same_conn (x.conn == conn) bound x)) ∙ e) (found_bound conn key bound xs now) where
  by_test : (b : Bool) → (x.conn == key) ≡ b → cond b (Some (rebound conn bound x)) (find (has_conn key) (map (rebound conn bound) xs)) ≡ Some now → (find (has_conn key) (map (rebound conn bound) xs) ≡ Some now → (old : Arrived) × (find (has_conn key) xs ≡ Some old) × (now ≡ rebound conn bound old))
      → (old : Arrived) × (find (has_conn key) (x ∷ xs) ≡ Some old) × (now ≡ rebound conn bound old)
  by_test true h e more = (x, ap (λ (b : Bool). cond b (Some x) (find (has_conn key) xs)) h, sym (some_is (rebound conn bound x) now e))
  by_test false h e more = let it = more e in (it.0, ap (λ (b : Bool). cond b (Some x) (find (has_conn key) xs)) h ∙ it.1, it.2)

-- what a connection is bound to by the opening of a pair
abbrev pub bound_then : Bool → Bool → ProcessId → ProcessId → Bound
bound_then here living from to = cond here (cond living (ToTarget from (targets.Process to)) Void) Void

bound_is : (here living : Bool) (from to by target : ProcessId) → bound_then here living from to ≡ ToTarget by (targets.Process target) → (living ≡ true) × (from ≡ by) × (to ≡ target)
bound_is true true from to by target e = (refl, cc, cc)
bound_is true false from to by target e = absurd cc
bound_is false living from to by target e = absurd cc

pub gets_bind : (journal : List Line) (known : Names) (a b : Party) (node : NodeState) (created : List Connection) (one : Arrived) (id : ℕ) (here : Bool) (from to : ProcessId) (read : List (ℕ × List ℕ)) (log after : List Entry) → GetsAt journal known a b (Some node) created read log → IsAt a node created one id
    → first_payload id read ≡ None → IsOfPair journal known a.name b.name from to → AreAlone (read ++ (id, message (Opening (ends.Process from) (ends.Process to))) ∷ []) → SameGot a b log after
    → AllLeadHere node.own (bind node one.conn (bound_then here (is_living node to) from to)).arrived
    → GetsAt journal known a b (Some (bind node one.conn (bound_then here (is_living node to) from to))) created (read ++ (id, message (Opening (ends.Process from) (ends.Process to))) ∷ []) after
unfolding bind is_own is_living life_here
gets_bind journal known a b node created one id here from to read log after g at_one unread pair alone got leads = record {
  binds = λ next arrived key at found peer given. let it = was next arrived at found in by_conn_binds arrived key it given (peer_of arrived it peer) (arrived.conn == one.conn) refl;
  made = λ next arrived by target at found peer bound. let it = was next arrived at found in subst (λ (o : NodeState). (is_own o target ≡ true) × (target.counter < length o.mail)) (some_is bound_node next at) (by_conn_made arrived by target it bound (peer_of arrived it peer) (arrived.conn == one.conn) refl);
  most = λ p q key opening x y o f. subst (λ (k : ℕ). k ≤ after_first key more) (sym (got p q x y)) (by_key_most p q key opening x y o f (id == key) refl);
  none = λ p q x y no. got p q x y ∙ g.none p q x y (λ key opening o f. no key opening o (first_stays key read (the_word ∷ []) opening f));
  all = λ next arrived by target key at found peer bound living given.
      let it = was next arrived at found in
      by_conn_all arrived by target key it bound (peer_of arrived it peer) (subst (λ (o : NodeState). is_living o target ≡ true) (sym (some_is bound_node next at)) living) given (arrived.conn == one.conn) refl;
  pairs = λ next arrived by target at found peer bound. let it = was next arrived at found in by_conn_pairs arrived by target it bound (peer_of arrived it peer) (arrived.conn == one.conn) refl;
  reached = λ next at. subst (λ (o : NodeState). AllLeadHere o.own o.arrived) (some_is bound_node next at) leads;
  below = λ key opening f. by_key_below key opening f (id == key) refl;
} where
  opening_of : List ℕ
  opening_of = message (Opening (ends.Process from) (ends.Process to))

  the_word : ℕ × List ℕ
  the_word = (id, opening_of)

  more : List (ℕ × List ℕ)
  more = read ++ the_word ∷ []

  bound_now : Bound
  bound_now = bound_then here (is_living node to) from to

  bound_node : NodeState
  bound_node = record node { arrived = map (rebound one.conn bound_now) node.arrived }

  now_first : first_payload id more ≡ Some opening_of
  now_first = first_next id read the_word unread ∙ ap (λ (t : Bool). elim t as (λ t. Option (List ℕ)) [ true ↦ Some opening_of | false ↦ None ]) (number_same id)

  was : (next : NodeState) (arrived : Arrived) → ◌≡◌ {A = Option NodeState} (Some bound_node) (Some next) → find (has_conn arrived.conn) next.arrived ≡ Some arrived → IsRebound one.conn bound_now node.arrived arrived
  was next arrived at found = let it = found_bound one.conn arrived.conn bound_now node.arrived arrived (ap (λ (o : NodeState). find (has_conn arrived.conn) o.arrived) (some_is bound_node next at) ∙ found) in record { old = it.0; there = it.1; is = it.2 }

  conn_of_old : (arrived : Arrived) (it : IsRebound one.conn bound_now node.arrived arrived) → arrived.conn ≡ it.old.conn
  conn_of_old arrived it = ap (λ (x : Arrived). x.conn) it.is ∙ same_conn (it.old.conn == one.conn) bound_now it.old

  peer_of : (arrived : Arrived) (it : IsRebound one.conn bound_now node.arrived arrived) → same_node arrived.peer a.address ≡ true → same_node it.old.peer a.address ≡ true
  peer_of arrived it peer = ap (λ (x : Address). same_node x a.address) (sym (ap (λ (x : Arrived). x.peer) it.is ∙ same_peer (it.old.conn == one.conn) bound_now it.old)) ∙ peer

  old_there : (arrived : Arrived) (it : IsRebound one.conn bound_now node.arrived arrived) → find (has_conn it.old.conn) node.arrived ≡ Some it.old
  old_there arrived it = ap (λ (c : ℕ). find (has_conn c) node.arrived) (sym (conn_of_old arrived it)) ∙ it.there

  -- the bound of the connection itself, and of another
  bound_here : (arrived : Arrived) (it : IsRebound one.conn bound_now node.arrived arrived) → (arrived.conn == one.conn) ≡ true → arrived.bound ≡ bound_now
  bound_here arrived it h = ap (λ (x : Arrived). x.bound) it.is ∙ ap (λ (t : Bool). (bound_so t bound_now it.old).bound) (ap (λ (c : ℕ). c == one.conn) (sym (conn_of_old arrived it)) ∙ h)

  bound_there : (arrived : Arrived) (it : IsRebound one.conn bound_now node.arrived arrived) → (arrived.conn == one.conn) ≡ false → arrived ≡ it.old
  bound_there arrived it h = it.is ∙ ap (λ (t : Bool). bound_so t bound_now it.old) (ap (λ (c : ℕ). c == one.conn) (sym (conn_of_old arrived it)) ∙ h)

  its_id : (arrived : Arrived) (key : ℕ) → (arrived.conn == one.conn) ≡ true → id_of created arrived.conn ≡ Some key → key ≡ id
  its_id arrived key h given = some_is key id (sym given ∙ ap (id_of created) (number_is arrived.conn one.conn h) ∙ at_one.given)

  other_id : (arrived : Arrived) (key : ℕ) → (arrived.conn == one.conn) ≡ false → id_of created arrived.conn ≡ Some key → (id == key) ≡ false
  other_id arrived key h given = by_test (id == key) refl where
    by_test : (t : Bool) → (id == key) ≡ t → t ≡ false
    by_test false e = refl
    by_test true e = clash (sym (ap (λ (c : ℕ). c == one.conn) (one_id created arrived.conn one.conn id (given ∙ ap (λ (k : ℕ). Some k) (sym (number_is id key e))) at_one.given) ∙ number_same one.conn) ∙ h)

  by_conn_binds : (arrived : Arrived) (key : ℕ) (it : IsRebound one.conn bound_now node.arrived arrived) → id_of created arrived.conn ≡ Some key → same_node it.old.peer a.address ≡ true → (t : Bool) → (arrived.conn == one.conn) ≡ t → IsBoundBy (first_payload key more) arrived.bound
  by_conn_binds arrived key it given peer true h = subst (λ (k : ℕ). IsBoundBy (first_payload k more) arrived.bound) (sym (its_id arrived key h given)) (subst (λ (o : Option (List ℕ)). IsBoundBy o arrived.bound) (sym now_first) (subst (IsBoundBy (Some opening_of)) (sym (bound_here arrived it h)) (by_bound here (is_living node to)))) where
    by_bound : (p q : Bool) → IsBoundBy (Some opening_of) (bound_then p q from to)
    by_bound true true = refl
    by_bound true false = tt
    by_bound false q = tt
  by_conn_binds arrived key it given peer false h = subst (λ (o : Option (List ℕ)). IsBoundBy o arrived.bound) (sym (first_else key read the_word (other_id arrived key h given))) (subst (λ (x : Arrived). IsBoundBy (first_payload key read) x.bound) (sym (bound_there arrived it h)) (g.binds node it.old key refl (old_there arrived it) peer (ap (id_of created) (sym (conn_of_old arrived it)) ∙ given)))

  old_bound : (arrived : Arrived) (by target : ProcessId) (it : IsRebound one.conn bound_now node.arrived arrived) → arrived.bound ≡ ToTarget by (targets.Process target) → (arrived.conn == one.conn) ≡ false → it.old.bound ≡ ToTarget by (targets.Process target)
  old_bound arrived by target it bound h = ap (λ (x : Arrived). x.bound) (sym (bound_there arrived it h)) ∙ bound

  by_conn_made : (arrived : Arrived) (by target : ProcessId) (it : IsRebound one.conn bound_now node.arrived arrived) → arrived.bound ≡ ToTarget by (targets.Process target) → same_node it.old.peer a.address ≡ true → (t : Bool) → (arrived.conn == one.conn) ≡ t → (is_own node target ≡ true) × (target.counter < length node.mail)
  by_conn_made arrived by target it bound peer true h = let w = bound_is here (is_living node to) from to by target (sym (bound_here arrived it h) ∙ bound) in subst (λ (v : ProcessId). (is_own node v ≡ true) × (v.counter < length node.mail)) w.2 (living_there node to w.0)
  by_conn_made arrived by target it bound peer false h = g.made node it.old by target refl (old_there arrived it) peer (old_bound arrived by target it bound h)

  by_conn_pairs : (arrived : Arrived) (by target : ProcessId) (it : IsRebound one.conn bound_now node.arrived arrived) → arrived.bound ≡ ToTarget by (targets.Process target) → same_node it.old.peer a.address ≡ true → (t : Bool) → (arrived.conn == one.conn) ≡ t → IsOfPair journal known a.name b.name by target
  by_conn_pairs arrived by target it bound peer true h = let w = bound_is here (is_living node to) from to by target (sym (bound_here arrived it h) ∙ bound) in subst (λ (v : ProcessId). IsOfPair journal known a.name b.name v target) w.1 (subst (λ (v : ProcessId). IsOfPair journal known a.name b.name from v) w.2 pair)
  by_conn_pairs arrived by target it bound peer false h = g.pairs node it.old by target refl (old_there arrived it) peer (old_bound arrived by target it bound h)

  -- of the pair itself nothing was got before
  none_before : (p q : ProcName) → p.node ≡ a.name → q.node ≡ b.name → pair_opening journal p (names.Process q) ≡ Some opening_of → gets_of p q log ≡ 0
  none_before p q x y o = g.none p q x y (λ key opening e f.
      let is : opening ≡ opening_of = some_is opening opening_of (sym e ∙ o) in
      let same : key ≡ id = alone key id opening_of (first_stays key read (the_word ∷ []) opening_of (f ∙ ap Some is)) now_first in
      none_some opening (first_payload id read) unread (ap (λ (k : ℕ). first_payload k read) (sym same) ∙ f))

  by_conn_all : (arrived : Arrived) (by target : ProcessId) (key : ℕ) (it : IsRebound one.conn bound_now node.arrived arrived) → arrived.bound ≡ ToTarget by (targets.Process target) → same_node it.old.peer a.address ≡ true → is_living node target ≡ true → id_of created arrived.conn ≡ Some key → (t : Bool) → (arrived.conn == one.conn) ≡ t
      → gets_of (process_called known by) (process_called known target) after ≡ after_first key more
  by_conn_all arrived by target key it bound peer living given true h =
      let w = bound_is here (is_living node to) from to by target (sym (bound_here arrived it h) ∙ bound) in
      let mine : gets_of (process_called known from) (process_called known to) after ≡ 0 = got (process_called known from) (process_called known to) pair.from_node pair.to_node ∙ none_before (process_called known from) (process_called known to) pair.from_node pair.to_node (of_pair_opens journal known a.name b.name from to pair) in
      ap (λ (v : ProcessId). gets_of (process_called known v) (process_called known target) after) (sym w.1) ∙ ap (λ (v : ProcessId). gets_of (process_called known from) (process_called known v) after) (sym w.2) ∙ mine
      ∙ sym (ap (λ (k : ℕ). after_first k more) (its_id arrived key h given) ∙ after_new read id the_word unread)
  by_conn_all arrived by target key it bound peer living given false h =
      let pairs = g.pairs node it.old by target refl (old_there arrived it) peer (old_bound arrived by target it bound h) in
      got (process_called known by) (process_called known target) pairs.from_node pairs.to_node
      ∙ g.all node it.old by target key refl (old_there arrived it) peer (old_bound arrived by target it bound h) living (ap (id_of created) (sym (conn_of_old arrived it)) ∙ given)
      ∙ sym (after_else read key the_word (other_id arrived key h given))

  by_key_most : (p q : ProcName) (key : ℕ) (opening : List ℕ) → p.node ≡ a.name → q.node ≡ b.name → pair_opening journal p (names.Process q) ≡ Some opening → first_payload key more ≡ Some opening → (t : Bool) → (id == key) ≡ t → gets_of p q log ≤ after_first key more
  by_key_most p q key opening x y o f true h =
      let is : opening ≡ opening_of = some_is opening opening_of (sym f ∙ ap (λ (k : ℕ). first_payload k more) (sym (number_is id key h)) ∙ now_first) in
      subst (λ (k : ℕ). k ≤ after_first key more) (sym (none_before p q x y (o ∙ ap Some is))) (omega arith)
  by_key_most p q key opening x y o f false h = subst (λ (k : ℕ). gets_of p q log ≤ k) (sym (after_else read key the_word h)) (g.most p q key opening x y o (sym (first_else key read the_word h) ∙ f))

  by_key_below : (key : ℕ) (opening : List ℕ) → first_payload key more ≡ Some opening → (t : Bool) → (id == key) ≡ t → key < FIRST_ID + length created
  by_key_below key opening f true h = subst (λ (k : ℕ). k < FIRST_ID + length created) (number_is id key h) (id_within created one.conn id at_one.given)
  by_key_below key opening f false h = g.below key opening (sym (first_else key read the_word h) ∙ f)

-- ---- a message is read

-- more was got of the pair of this opening, or no more than before
abbrev pub GotMore : List Line → List ℕ → Party → Party → List Entry → List Entry → Type 0
GotMore journal opening a b log after = (p q : ProcName) → p.node ≡ a.name → q.node ≡ b.name → (gets_of p q after ≡ gets_of p q log) ⊎ ((gets_of p q after ≡ suc (gets_of p q log)) × (pair_opening journal p (names.Process q) ≡ Some opening))

pub gets_more : (journal : List Line) (known : Names) (a b : Party) (node next : NodeState) (created : List Connection) (one : Arrived) (id : ℕ) (payload opening : List ℕ) (read : List (ℕ × List ℕ)) (log after : List Entry) → GetsAt journal known a b (Some node) created read log → IsAt a node created one id
    → first_payload id read ≡ Some opening → AreAlone read → Stays a.address node next → GotMore journal opening a b log after
    → ((from to : ProcessId) → one.bound ≡ ToTarget from (targets.Process to) → is_living next to ≡ true → gets_of (process_called known from) (process_called known to) after ≡ suc (gets_of (process_called known from) (process_called known to) log))
    → AllLeadHere next.own next.arrived → GetsAt journal known a b (Some next) created (read ++ (id, payload) ∷ []) after
gets_more journal known a b node next created one id payload opening read log after g at_one opened alone stays more got leads = record {
  binds = λ m arrived key at found peer given. subst (λ (o : Option (List ℕ)). IsBoundBy o arrived.bound) (sym (first_now key)) (g.binds node arrived key refl (older m arrived at found peer) peer given);
  made = λ m arrived from to at found peer bound.
      let it = g.made node arrived from to refl (older m arrived at found peer) peer bound in
      let less = it.1 in
      let long = stays.lives.mail in
      subst (λ (o : NodeState). (is_own o to ≡ true) × (to.counter < length o.mail)) (some_is next m at) (own_so node next to stays.lives.own stays.lives.unique ∙ it.0, omega arith);
  most = λ p q key o x y e f. by_most p q key o x y e (sym (first_now key) ∙ f) (more p q x y);
  none = λ p q x y no. by_none p q x y no (more p q x y);
  all = λ m arrived from to key at found peer bound living given. by_all arrived from to key (older m arrived at found peer) peer bound (subst (λ (o : NodeState). is_living o to ≡ true) (sym (some_is next m at)) living) given (id == key) refl;
  pairs = λ m arrived from to at found peer bound. g.pairs node arrived from to refl (older m arrived at found peer) peer bound;
  reached = λ m at. subst (λ (o : NodeState). AllLeadHere o.own o.arrived) (some_is next m at) leads;
  below = λ key o f. g.below key o (sym (first_now key) ∙ f);
} where
  the_word : ℕ × List ℕ
  the_word = (id, payload)

  first_now : (key : ℕ) → first_payload key (read ++ the_word ∷ []) ≡ first_payload key read
  first_now key = by_test (id == key) refl where
    by_test : (t : Bool) → (id == key) ≡ t → first_payload key (read ++ the_word ∷ []) ≡ first_payload key read
    by_test true h = let its : first_payload key read ≡ Some opening = ap (λ (k : ℕ). first_payload k read) (sym (number_is id key h)) ∙ opened in first_stays key read (the_word ∷ []) opening its ∙ sym its
    by_test false h = first_else key read the_word h

  older : (m : NodeState) (arrived : Arrived) → ◌≡◌ {A = Option NodeState} (Some next) (Some m) → find (has_conn arrived.conn) m.arrived ≡ Some arrived → same_node arrived.peer a.address ≡ true → find (has_conn arrived.conn) node.arrived ≡ Some arrived
  older m arrived at found peer = stays.arrived arrived (ap (λ (o : NodeState). find (has_conn arrived.conn) o.arrived) (some_is next m at) ∙ found) peer

  longer : (key : ℕ) → after_first key read ≤ after_first key (read ++ the_word ∷ [])
  longer key = by_test (id == key) refl where
    by_test : (t : Bool) → (id == key) ≡ t → after_first key read ≤ after_first key (read ++ the_word ∷ [])
    by_test true h = let one_more = after_next read key the_word opening (ap (λ (k : ℕ). first_payload k read) (sym (number_is id key h)) ∙ opened) h in omega arith
    by_test false h = let same = after_else read key the_word h in omega arith

  by_most : (p q : ProcName) (key : ℕ) (o : List ℕ) → p.node ≡ a.name → q.node ≡ b.name → pair_opening journal p (names.Process q) ≡ Some o → first_payload key read ≡ Some o → (gets_of p q after ≡ gets_of p q log) ⊎ ((gets_of p q after ≡ suc (gets_of p q log)) × (pair_opening journal p (names.Process q) ≡ Some opening)) → gets_of p q after ≤ after_first key (read ++ the_word ∷ [])
  by_most p q key o x y e f (inl same) =
      let before = g.most p q key o x y e f in
      let long = longer key in
      omega arith
  by_most p q key o x y e f (inr w) =
      let is : key ≡ id = alone key id opening (f ∙ ap Some (some_is o opening (sym e ∙ w.1))) opened in
      let before = g.most p q key o x y e f in
      let one_more = after_next read key the_word opening (ap (λ (k : ℕ). first_payload k read) is ∙ opened) (ap (λ (k : ℕ). id == k) is ∙ number_same id) in
      let count = w.0 in
      omega arith

  by_none : (p q : ProcName) → p.node ≡ a.name → q.node ≡ b.name → ((key : ℕ) (o : List ℕ) → pair_opening journal p (names.Process q) ≡ Some o → first_payload key (read ++ the_word ∷ []) ≡ Some o → ⊥) → (gets_of p q after ≡ gets_of p q log) ⊎ ((gets_of p q after ≡ suc (gets_of p q log)) × (pair_opening journal p (names.Process q) ≡ Some opening)) → gets_of p q after ≡ 0
  by_none p q x y unopened (inl same) = same ∙ g.none p q x y (λ key o e f. unopened key o e (first_now key ∙ f))
  by_none p q x y unopened (inr w) = absurd (unopened id opening w.1 (first_now id ∙ opened))

  by_all : (arrived : Arrived) (from to : ProcessId) (key : ℕ) → find (has_conn arrived.conn) node.arrived ≡ Some arrived → same_node arrived.peer a.address ≡ true → arrived.bound ≡ ToTarget from (targets.Process to) → is_living next to ≡ true → id_of created arrived.conn ≡ Some key → (t : Bool) → (id == key) ≡ t
      → gets_of (process_called known from) (process_called known to) after ≡ after_first key (read ++ the_word ∷ [])
  by_all arrived from to key found peer bound living given true h =
      let conn : arrived.conn ≡ one.conn = one_id created arrived.conn one.conn id (given ∙ ap (λ (k : ℕ). Some k) (sym (number_is id key h))) at_one.given in
      let is : arrived ≡ one = some_is arrived one (sym found ∙ ap (λ (c : ℕ). find (has_conn c) node.arrived) conn ∙ at_one.there) in
      got from to (ap (λ (x : Arrived). x.bound) (sym is) ∙ bound) living
      ∙ ap suc (g.all node arrived from to key refl found peer bound (stays.lives.back to (g.made node arrived from to refl found peer bound).1 living) given)
      ∙ sym (after_next read key the_word opening (ap (λ (k : ℕ). first_payload k read) (sym (number_is id key h)) ∙ opened) h)
  by_all arrived from to key found peer bound living given false h = by_more (more (process_called known from) (process_called known to) pair.from_node pair.to_node) where
    pair : IsOfPair journal known a.name b.name from to
    pair = g.pairs node arrived from to refl found peer bound

    its : first_payload key read ≡ Some (message (Opening (ends.Process from) (ends.Process to)))
    its = bound_some (first_payload key read) from to (subst (IsBoundBy (first_payload key read)) bound (g.binds node arrived key refl found peer given))

    by_more : (gets_of (process_called known from) (process_called known to) after ≡ gets_of (process_called known from) (process_called known to) log) ⊎ ((gets_of (process_called known from) (process_called known to) after ≡ suc (gets_of (process_called known from) (process_called known to) log)) × (pair_opening journal (process_called known from) (names.Process (process_called known to)) ≡ Some opening))
        → gets_of (process_called known from) (process_called known to) after ≡ after_first key (read ++ the_word ∷ [])
    by_more (inl same) = same ∙ g.all node arrived from to key refl found peer bound (stays.lives.back to (g.made node arrived from to refl found peer bound).1 living) given ∙ sym (after_else read key the_word h)
    by_more (inr w) =
        let is : key ≡ id = alone key id opening (its ∙ sym (of_pair_opens journal known a.name b.name from to pair) ∙ w.1) opened in
        clash (sym (ap (λ (k : ℕ). id == k) is ∙ number_same id) ∙ h)

-- ---- there is no node

-- where there is no node, whatever is read
pub gets_nobody : (journal : List Line) (known : Names) (a b : Party) (created now : List Connection) (read more : List (ℕ × List ℕ)) (log after : List Entry) → GetsAt journal known a b None created read log → AreAlone (read ++ more) → SameGot a b log after → ((id : ℕ) (opening : List ℕ) → first_payload id (read ++ more) ≡ Some opening → id < FIRST_ID + length now)
    → ((id : ℕ) (opening : List ℕ) → first_payload id read ≡ Some opening → after_first id read ≤ after_first id (read ++ more)) → GetsAt journal known a b None now (read ++ more) after
gets_nobody journal known a b created now read more log after g alone got below longer = record {
  binds = λ node arrived id at. absurd cc;
  made = λ node arrived from to at. absurd cc;
  most = λ p q id opening x y o f. subst (λ (k : ℕ). k ≤ after_first id (read ++ more)) (sym (got p q x y)) (by_first p q id opening x y o f (first_payload id read) refl);
  none = λ p q x y unopened. got p q x y ∙ g.none p q x y (λ key opening o f. unopened key opening o (first_stays key read more opening f));
  all = λ node arrived from to id at. absurd cc;
  pairs = λ node arrived from to at. absurd cc;
  reached = λ node at. absurd cc;
  below = below;
} where
  first_only : (p q : ProcName) (id : ℕ) (opening : List ℕ) → p.node ≡ a.name → q.node ≡ b.name → pair_opening journal p (names.Process q) ≡ Some opening → first_payload id (read ++ more) ≡ Some opening → first_payload id read ≡ None → gets_of p q log ≡ 0
  first_only p q id opening x y o f unread = g.none p q x y (λ key other e h.
      let is : other ≡ opening = some_is other opening (sym e ∙ o) in
      let same : key ≡ id = alone key id opening (first_stays key read more opening (h ∙ ap Some is)) f in
      none_some other (first_payload id read) unread (ap (λ (k : ℕ). first_payload k read) (sym same) ∙ h))

  by_first : (p q : ProcName) (id : ℕ) (opening : List ℕ) → p.node ≡ a.name → q.node ≡ b.name → pair_opening journal p (names.Process q) ≡ Some opening → first_payload id (read ++ more) ≡ Some opening → (u : Option (List ℕ)) → first_payload id read ≡ u → gets_of p q log ≤ after_first id (read ++ more)
  by_first p q id opening x y o f None u = subst (λ (k : ℕ). k ≤ after_first id (read ++ more)) (sym (first_only p q id opening x y o f u)) (omega arith)
  by_first p q id opening x y o f (Some other) u =
      let is : other ≡ opening = some_is other opening (sym (first_stays id read more other u) ∙ f) in
      let before = g.most p q id opening x y o (u ∙ ap Some is) in
      let long = longer id other u in
      omega arith
