-- Pairs to processes and plainly bound connections stay so, whatever a node makes of its lists.
use Rattle.std.proofs.Common.{◌≡◌, ℕ, Bool, true, false, cond, ◌&&◌, List, [], ◌∷◌, ◌++◌, map, Ok, Err, refl, sym, ap, ◌∙◌, subst, ◌==◌}
use Rattle.std.specs.Prelude.{find, filter, unwrap_or, Result, Option, Some, None}
use Rattle.std.proofs.lemmas.Bool.{eqb-true}
use Rattle.ch_base.specs.declared.address.Address.{Address}
use Rattle.ch_base.specs.declared.memory.Stop.{Stop}
use Rattle.ch_ident.specs.declared.identifier.ProcessId.{ProcessId}
use Rattle.ch_mail.specs.Process.{Process}
use Rattle.ch_static.specs.declared.target.Target.{Target}
use Rattle.ch_static.specs.declared.target.Target.TheVariants as targets
use Rattle.ch_watch.specs.Same.{same_node}
use Rattle.ch_model.specs.NodeState.{NodeState, Pair, Mark, Unopened, Opened, Broken, Bound, Arrived}
use Rattle.ch_model.specs.NodeActs.{◌>>=◌}
use Rattle.ch_model.specs.NodeArrivals.{rebound}
use Rattle.ch_model.specs.NodeIds.{target_at}
use Rattle.ch_model.specs.NodePairs.{same_process, same_target, is_pair, new_pair, pair_of, with_pair, closed_mark, closed_by, broken, lost_as, lost_pair, lost_pairs}
use Rattle.ch_laws_log.proofs.Homes.{node_self}
use Rattle.ch_laws_log.proofs.Keys.{pair_named}
use Rattle.ch_laws_log.proofs.Stored.{number_same}
use Rattle.ch_laws_plain_nodes.specs.Plain.{IsToProcess, AllToProcesses, IsPlainlyBound, AllPlainlyBound, IsPlain}
use Rattle.ch_laws_plain_nodes.specs.Does.{pair_between}

-- a plain node stays plain, whatever its processes' mail and arguments are
pub mail_plain : (node : NodeState) (mail : List Process) (args : List (List ℕ)) → IsPlain node → IsPlain (record node { mail = mail; args = args })
mail_plain node mail args p = record { unshut = p.unshut; alone = p.alone; waiting = p.waiting; watched = p.watched; names = p.names; pairs = p.pairs; arrived = p.arrived }

-- and with pairs to processes
pub pairs_plain : (node : NodeState) (mail : List Process) (pairs : List Pair) (opened : ℕ) → IsPlain node → AllToProcesses pairs → IsPlain (record node { mail = mail; pairs = pairs; opened = opened })
pairs_plain node mail pairs opened p a = record { unshut = p.unshut; alone = p.alone; waiting = p.waiting; watched = p.watched; names = p.names; pairs = a; arrived = p.arrived }

-- ---- pairs

pub stored_plain : (pair : Pair) (pairs : List Pair) → IsToProcess pair.to → AllToProcesses pairs → AllToProcesses (with_pair pair pairs)
stored_plain pair [] i a = (i, tt)
stored_plain pair (known ∷ rest) i a = by_test (is_pair pair.by pair.to known) (stored_plain pair rest i a.1)
  where
    by_test : (b : Bool) → AllToProcesses (with_pair pair rest) → AllToProcesses (cond b (pair ∷ rest) (known ∷ with_pair pair rest))
    by_test true later = (i, a.1)
    by_test false later = (a.0, later)

pub closed_plain : (by : ℕ) (pairs : List Pair) → AllToProcesses pairs → AllToProcesses (map (closed_by by) pairs)
closed_plain by [] a = tt
closed_plain by (pair ∷ rest) a = (by_test (pair.by == by), closed_plain by rest a.1)
  where
    by_test : (b : Bool) → IsToProcess (cond b (record pair { mark = closed_mark pair.mark }) pair).to
    by_test true = a.0
    by_test false = a.0

-- what is left of the pairs, where a link fails
abbrev pub LostPlain : Result (List Pair) Stop → Type 0
LostPlain (Ok pairs) = AllToProcesses pairs
LostPlain (Err stop) = Unit {0}

abbrev OneLost : Result Pair Stop → Type 0
OneLost (Ok pair) = IsToProcess pair.to
OneLost (Err stop) = Unit {0}

broken_plain : (pair : Pair) (to : Target) → pair.to ≡ to → IsToProcess to → OneLost (broken pair to)
broken_plain pair (targets.Process p) e i = subst (λ (t : Target). IsToProcess t) (sym e) i
broken_plain pair (targets.Port p) e i = absurd i
broken_plain pair (targets.Named at name) e i = absurd i

one_lost : (peer : Address) (pair : Pair) → IsToProcess pair.to → OneLost (lost_pair peer pair)
unfolding lost_pair
one_lost peer pair i = by_test (same_node (target_at pair.to) peer)
  where
    by_mark : (mark : Mark) → OneLost (lost_as pair mark)
    by_mark Unopened = i
    by_mark (Opened conn) = broken_plain pair pair.to refl i
    by_mark Broken = i

    by_test : (b : Bool) → OneLost (cond b (lost_as pair pair.mark) (Ok pair))
    by_test true = by_mark pair.mark
    by_test false = i

pub lost_plain : (peer : Address) (pairs : List Pair) → AllToProcesses pairs → LostPlain (lost_pairs peer pairs)
lost_plain peer [] a = tt
lost_plain peer (pair ∷ rest) a = by_one (lost_pair peer pair) (one_lost peer pair a.0) (lost_plain peer rest a.1)
  where
    by_rest : (one : Pair) → IsToProcess one.to → (r : Result (List Pair) Stop) → LostPlain r → LostPlain (r >>= λ others. Ok (one ∷ others))
    by_rest one i (Ok others) l = (i, l)
    by_rest one i (Err stop) l = tt

    by_one : (r : Result Pair Stop) → OneLost r → LostPlain (lost_pairs peer rest) → LostPlain (r >>= λ one. lost_pairs peer rest >>= λ others. Ok (one ∷ others))
    by_one (Ok one) i later = by_rest one i (lost_pairs peer rest) later
    by_one (Err stop) i later = tt

-- the pair of a process and a process is theirs
abbrev pub theirs : NodeState → ℕ → ProcessId → Pair
theirs node by to = record { by = by; to = targets.Process to; epoch = (pair_between node by to).epoch; index = (pair_between node by to).index; mark = (pair_between node by to).mark }

pub is_theirs : (node : NodeState) (by : ℕ) (to : ProcessId) → pair_between node by to ≡ theirs node by to
is_theirs node by to =
    let pair = pair_between node by to in
    let key = pair_named node.pairs by (targets.Process to) in
    ap (λ (n : ℕ). record pair { by = n }) key.0 ∙ ap (λ (t : Target). record pair { by = by; to = t }) key.1

process_self : (p : ProcessId) → same_process p p ≡ true
unfolding same_process
process_self p = ap (λ b. b && ((p.unique == p.unique) && (p.counter == p.counter))) (node_self p.node) ∙ ap (λ b. b && (p.counter == p.counter)) (number_same p.unique) ∙ number_same p.counter

-- it is the pair of its own process and target, where that is a process
own_test : (by : ℕ) (to : ProcessId) (pair : Pair) → pair.by ≡ by → pair.to ≡ targets.Process to → is_pair by (targets.Process to) pair ≡ true
unfolding is_pair same_target
own_test by to pair e f = ap (λ n. (n == by) && same_target pair.to (targets.Process to)) e ∙ ap (λ (t : Target). (by == by) && same_target t (targets.Process to)) f ∙ ap (λ b. b && same_process to to) (number_same by) ∙ process_self to

pub theirs_test : (node : NodeState) (by : ℕ) (to : ProcessId) (index : ℕ) (mark : Mark) → is_pair by (targets.Process to) (record (theirs node by to) { index = index; mark = mark }) ≡ true
theirs_test node by to index mark = own_test by to (record (theirs node by to) { index = index; mark = mark }) refl refl

-- a pair that is stored with two marks, one after the other, stands with the last
pub stored_twice : (pair : Pair) (mark : Mark) → is_pair pair.by pair.to pair ≡ true → (pairs : List Pair) → with_pair (record pair { mark = mark }) (with_pair pair pairs) ≡ with_pair (record pair { mark = mark }) pairs
stored_twice pair mark own [] = ap (λ b. cond b (record pair { mark = mark } ∷ []) (pair ∷ record pair { mark = mark } ∷ [])) own
stored_twice pair mark own (known ∷ rest) = by_test (is_pair pair.by pair.to known) refl (stored_twice pair mark own rest)
  where
    two : Pair
    two = record pair { mark = mark }

    by_test : (b : Bool) → is_pair pair.by pair.to known ≡ b → with_pair two (with_pair pair rest) ≡ with_pair two rest → with_pair two (cond b (pair ∷ rest) (known ∷ with_pair pair rest)) ≡ cond b (two ∷ rest) (known ∷ with_pair two rest)
    by_test true h e = ap (λ b. cond b (two ∷ rest) (pair ∷ with_pair two rest)) own
    by_test false h e = ap (λ b. cond b (two ∷ with_pair pair rest) (known ∷ with_pair two (with_pair pair rest))) h ∙ ap (λ (l : List Pair). known ∷ l) e

-- a pair that is stored is found
pub stored_found : (pair : Pair) → is_pair pair.by pair.to pair ≡ true → (pairs : List Pair) → pair_of (with_pair pair pairs) pair.by pair.to ≡ pair
unfolding pair_of
stored_found pair own pairs = ap (λ (o : Option Pair). unwrap_or o (new_pair pair.by pair.to)) (found pairs)
  where
    found : (pairs : List Pair) → find (is_pair pair.by pair.to) (with_pair pair pairs) ≡ Some pair
    found [] = ap (λ b. cond b (Some pair) None) own
    found (known ∷ rest) = by_test (is_pair pair.by pair.to known) refl (found rest)
      where
        by_test : (b : Bool) → is_pair pair.by pair.to known ≡ b → find (is_pair pair.by pair.to) (with_pair pair rest) ≡ Some pair → find (is_pair pair.by pair.to) (cond b (pair ∷ rest) (known ∷ with_pair pair rest)) ≡ Some pair
        by_test true h later = ap (λ b. cond b (Some pair) (find (is_pair pair.by pair.to) rest)) own
        by_test false h later = ap (λ b. cond b (Some known) (find (is_pair pair.by pair.to) (with_pair pair rest))) h ∙ later

-- the pair that is of a process and a target has them
pair_key : (by : ℕ) (to : Target) (pair : Pair) → is_pair by to pair ≡ true → (pair.by ≡ by) × (pair.to ≡ to)
unfolding pair_of
pair_key by to pair h = let found : pair_of (pair ∷ []) by to ≡ pair = ap (λ b. unwrap_or (cond b (Some pair) None) (new_pair by to)) h in subst (λ (p : Pair). (p.by ≡ by) × (p.to ≡ to)) found (pair_named (pair ∷ []) by to)

-- a pair that is stored changes no other
pub stored_other : (pair : Pair) (by : ℕ) (to : Target) → ((pair.by ≡ by) × (pair.to ≡ to) → ⊥) → (pairs : List Pair) → pair_of (with_pair pair pairs) by to ≡ pair_of pairs by to
unfolding pair_of
stored_other pair by to apart pairs = ap (λ (o : Option Pair). unwrap_or o (new_pair by to)) (found pairs)
  where
    not_its : (b : Bool) → is_pair by to pair ≡ b → is_pair by to pair ≡ false
    not_its true h = absurd (apart (pair_key by to pair h))
    not_its false h = h

    -- what stands in its place is not the other's either
    in_place : (known : Pair) → is_pair pair.by pair.to known ≡ true → (b : Bool) → is_pair by to known ≡ b → is_pair by to known ≡ false
    in_place known h true k = let its = pair_key pair.by pair.to known h in let others = pair_key by to known k in absurd (apart (sym its.0 ∙ others.0, sym its.1 ∙ others.1))
    in_place known h false k = k

    found : (pairs : List Pair) → find (is_pair by to) (with_pair pair pairs) ≡ find (is_pair by to) pairs
    found [] = ap (λ b. cond b (Some pair) None) (not_its (is_pair by to pair) refl)
    found (known ∷ rest) = by_test (is_pair pair.by pair.to known) refl (found rest)
      where
        by_test : (b : Bool) → is_pair pair.by pair.to known ≡ b → find (is_pair by to) (with_pair pair rest) ≡ find (is_pair by to) rest → find (is_pair by to) (cond b (pair ∷ rest) (known ∷ with_pair pair rest)) ≡ cond (is_pair by to known) (Some known) (find (is_pair by to) rest)
        by_test true h later = ap (λ b. cond b (Some pair) (find (is_pair by to) rest)) (not_its (is_pair by to pair) refl) ∙ ap (λ b. cond b (Some known) (find (is_pair by to) rest)) (sym (in_place known h (is_pair by to known) refl))
        by_test false h later = ap (λ (o : Option Pair). cond (is_pair by to known) (Some known) o) later

-- ---- connections that arrived

pub rebound_plain : (conn : ℕ) (bound : Bound) (arrived : List Arrived) → IsPlainlyBound bound → AllPlainlyBound arrived → AllPlainlyBound (map (rebound conn bound) arrived)
rebound_plain conn bound [] i a = tt
rebound_plain conn bound (known ∷ rest) i a = (by_test (known.conn == conn), rebound_plain conn bound rest i a.1)
  where
    by_test : (b : Bool) → IsPlainlyBound (cond b (record known { bound = bound }) known).bound
    by_test true = i
    by_test false = a.0

pub one_more_plain : (arrived : List Arrived) (one : Arrived) → IsPlainlyBound one.bound → AllPlainlyBound arrived → AllPlainlyBound (arrived ++ one ∷ [])
one_more_plain [] one i a = (i, tt)
one_more_plain (known ∷ rest) one i a = (a.0, one_more_plain rest one i a.1)

pub fewer_plain : (test : Arrived → Bool) (arrived : List Arrived) → AllPlainlyBound arrived → AllPlainlyBound (filter test arrived)
fewer_plain test [] a = tt
fewer_plain test (known ∷ rest) a = by_test (test known) (fewer_plain test rest a.1)
  where
    by_test : (b : Bool) → AllPlainlyBound (filter test rest) → AllPlainlyBound (cond b (known ∷ filter test rest) (filter test rest))
    by_test true later = (a.0, later)
    by_test false later = later

-- the connection that is found under a number has it
pub found_conn : (conn : ℕ) (arrived : List Arrived) (one : Arrived) → find (λ known. known.conn == conn) arrived ≡ Some one → one.conn ≡ conn
found_conn conn [] one e = absurd cc
found_conn conn (known ∷ rest) one e = by_test (known.conn == conn) refl e (found_conn conn rest one)
  where
    by_test : (b : Bool) → (known.conn == conn) ≡ b → cond b (Some known) (find (λ k. k.conn == conn) rest) ≡ Some one → (find (λ k. k.conn == conn) rest ≡ Some one → one.conn ≡ conn) → one.conn ≡ conn
    by_test true h e later = let same : known ≡ one = cc in subst (λ (k : Arrived). k.conn ≡ conn) same (eqb-true known.conn conn h)
    by_test false h e later = later e
