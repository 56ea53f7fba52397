-- The model of one node inside the whole model: its pairs, node, cell and world there.
use Rattle.std.specs.Prelude.{◌≡◌, ℕ, Bool, true, false, ◌&&◌, cond, List, [], ◌∷◌, map, find, filter_map, Option, Some, None, unwrap_or, ◌==◌, if◌then◌else◌}
use Rattle.std.specs.List.{cons_option}
use Rattle.std.proofs.Common.{refl, ap, sym, ◌∙◌, arith}
use Rattle.std.proofs.lemmas.Bool.{eqb-true, and_parts}
use Rattle.std.proofs.lemmas.Bool.Decides.{nat_tests}
use Rattle.ch_base.specs.AddressValues.{AddressValue}
use Rattle.ch_ident.specs.declared.identifier.ProcessId.{ProcessId}
use Rattle.ch_static.specs.declared.target.Target.TheVariants as targets
use Rattle.ch_watch.specs.Same.{same_node}
use Rattle.ch_model.specs.declared.step.Place.{Place}
use Rattle.ch_model.specs.HostState.{HostState}
use Rattle.ch_model.specs.NodeState.{NodeState as WholeNode, Pair, Unopened}
use Rattle.ch_model.specs.WorldState.{Cell, Named, World as WholeWorld}
use Rattle.ch_model.specs.NodePairs.{is_pair, same_target, same_process, new_pair, pair_of, with_pair, conn_by, rising, conns_by, closed_by, closed_pairs}
use Rattle.ch_one_node.specs.States.{NodeState, World}
use Rattle.ch_one_node.specs.Node.{next_index, with_said}
use Rattle.ch_laws_one_node.proofs.Appending.{equal_bytes, equal_numbers}

-- ---- what stands for what

-- the id of a process of the node
abbrev pub id_in : AddressValue → ℕ → ℕ → ProcessId
id_in own unique counter = record { node = own; unique = unique; counter = counter }

-- a pair that has said so many messages: its epoch is 0, and it has no connection
abbrev pub pair_in : AddressValue → ℕ → (ℕ × ℕ) × ℕ → Pair
pair_in own unique said = record { by = said.0.0; to = targets.Process (id_in own unique said.0.1); epoch = 0; index = said.1; mark = Unopened }

abbrev pub pairs_in : AddressValue → ℕ → List ((ℕ × ℕ) × ℕ) → List Pair
pairs_in own unique said = map (pair_in own unique) said

-- the node, whose processes were given these arguments
abbrev pub node_in : NodeState → List (List ℕ) → WholeNode
node_in node args = record { own = node.own; unique = node.unique; labels = []; is_shut = false; mail = node.mail; args = args; watches = record { next = 0; waiting = []; watched = []; names = [] }; pairs = pairs_in node.own node.unique node.pairs; opened = 0; to_nodes = []; arrived = [] }

abbrev pub host_in : AddressValue → HostState
host_in own = record { host = own.host; port = own.port; circle = own.host ∷ []; ends = record { number = own.id; is_open = true; arrived = 0 } ∷ []; links = []; sockets = []; dials = 0 }

abbrev pub cell_in : NodeState → List (List ℕ) → Cell
cell_in node args = record { host = host_in node.own; nodes = (node.own.id, node_in node args) ∷ [] }

abbrev pub names_in : World → List Named
names_in w = record { name = w.name; address = w.node.own; unique = w.node.unique; is_node = true } ∷ []

-- the world, where a message of this place was said last
abbrev pub world_in : World → List (List ℕ) → Option Place → WholeWorld
world_in w args last = record { names = names_in w; strangers = []; cells = (cell_in w.node args, 0) ∷ []; sockets = []; last = last }

-- ---- tests

pub same_own : (a : AddressValue) → same_node a a ≡ true
unfolding same_node
same_own a = ap (λ b. b && ((a.port == a.port) && (a.id == a.id))) (equal_bytes a.host) ∙ ap (λ b. b && (a.id == a.id)) (equal_numbers a.port) ∙ equal_numbers a.id

turned : (i k : ℕ) → (k == i) ≡ (i == k)
turned i k = grind (arith, nat_tests)

pair_test : (own : AddressValue) (unique i j : ℕ) (known : (ℕ × ℕ) × ℕ) → is_pair i (targets.Process (id_in own unique j)) (pair_in own unique known) ≡ (i == known.0.0 && j == known.0.1)
unfolding is_pair same_target same_process
pair_test own unique i j known = ap (λ b. (known.0.0 == i) && (b && ((unique == unique) && (known.0.1 == j)))) (same_own own)
    ∙ ap (λ b. (known.0.0 == i) && (b && (known.0.1 == j))) (equal_numbers unique)
    ∙ ap (λ b. b && (known.0.1 == j)) (turned i known.0.0)
    ∙ ap (λ b. (i == known.0.0) && b) (turned j known.0.1)

-- ---- pairs

renamed : (own : AddressValue) (unique i j v : ℕ) (known : ℕ × ℕ) → (i == known.0 && j == known.1) ≡ true → pair_in own unique (known, v) ≡ pair_in own unique ((i, j), v)
renamed own unique i j v known h = let parts = and_parts (i == known.0) (j == known.1) h in
    ap (λ n. pair_in own unique ((n, known.1), v)) (sym (eqb-true i known.0 parts.0)) ∙ ap (λ n. pair_in own unique ((i, n), v)) (sym (eqb-true j known.1 parts.1))

pub pair_found : (own : AddressValue) (unique i j : ℕ) (pairs : List ((ℕ × ℕ) × ℕ)) → pair_of (pairs_in own unique pairs) i (targets.Process (id_in own unique j)) ≡ pair_in own unique ((i, j), next_index pairs (i, j))
unfolding pair_of
pair_found own unique i j [] = refl
pair_found own unique i j (known ∷ others) = ap (λ b. unwrap_or (cond b (Some (pair_in own unique known)) (find (is_pair i (targets.Process (id_in own unique j))) (pairs_in own unique others))) (new_pair i (targets.Process (id_in own unique j)))) (pair_test own unique i j known)
    ∙ by_test (i == known.0.0 && j == known.0.1) refl (pair_found own unique i j others) where
      by_test : (b : Bool) → (i == known.0.0 && j == known.0.1) ≡ b → unwrap_or (find (is_pair i (targets.Process (id_in own unique j))) (pairs_in own unique others)) (new_pair i (targets.Process (id_in own unique j))) ≡ pair_in own unique ((i, j), next_index others (i, j)) → unwrap_or (cond b (Some (pair_in own unique known)) (find (is_pair i (targets.Process (id_in own unique j))) (pairs_in own unique others))) (new_pair i (targets.Process (id_in own unique j))) ≡ pair_in own unique ((i, j), if b then known.1 else next_index others (i, j))
      by_test true h e = renamed own unique i j known.1 known.0 h
      by_test false h e = e

pub pair_kept : (own : AddressValue) (unique i j v : ℕ) (pairs : List ((ℕ × ℕ) × ℕ)) → with_pair (pair_in own unique ((i, j), v)) (pairs_in own unique pairs) ≡ pairs_in own unique (with_said pairs (i, j) v)
pair_kept own unique i j v [] = refl
pair_kept own unique i j v (known ∷ others) = ap (λ b. if b then pair_in own unique ((i, j), v) ∷ pairs_in own unique others else pair_in own unique known ∷ with_pair (pair_in own unique ((i, j), v)) (pairs_in own unique others)) (pair_test own unique i j known)
    ∙ by_test (i == known.0.0 && j == known.0.1) refl (pair_kept own unique i j v others) where
      by_test : (b : Bool) → (i == known.0.0 && j == known.0.1) ≡ b → with_pair (pair_in own unique ((i, j), v)) (pairs_in own unique others) ≡ pairs_in own unique (with_said others (i, j) v) → (if b then pair_in own unique ((i, j), v) ∷ pairs_in own unique others else pair_in own unique known ∷ with_pair (pair_in own unique ((i, j), v)) (pairs_in own unique others)) ≡ pairs_in own unique (if b then (known.0, v) ∷ others else known ∷ with_said others (i, j) v)
      by_test true h e = ap (λ p. p ∷ pairs_in own unique others) (sym (renamed own unique i j v known.0 h))
      by_test false h e = ap (λ l. pair_in own unique known ∷ l) e

no_conns : (own : AddressValue) (unique n : ℕ) (pairs : List ((ℕ × ℕ) × ℕ)) → filter_map (conn_by n) (pairs_in own unique pairs) ≡ []
no_conns own unique n [] = refl
no_conns own unique n (known ∷ others) = ap (λ o. cons_option o (filter_map (conn_by n) (pairs_in own unique others))) (by_test (known.0.0 == n)) ∙ no_conns own unique n others where
  nothing : Option ℕ
  nothing = None

  by_test : (b : Bool) → (if b then nothing else nothing) ≡ nothing
  by_test true = refl
  by_test false = refl

pub none_open : (own : AddressValue) (unique n : ℕ) (pairs : List ((ℕ × ℕ) × ℕ)) → conns_by (pairs_in own unique pairs) n ≡ []
unfolding conns_by
none_open own unique n pairs = ap rising (no_conns own unique n pairs)

pub none_closed : (own : AddressValue) (unique n : ℕ) (pairs : List ((ℕ × ℕ) × ℕ)) → closed_pairs (pairs_in own unique pairs) n ≡ pairs_in own unique pairs
unfolding closed_pairs
none_closed own unique n [] = refl
none_closed own unique n (known ∷ others) = by_test (known.0.0 == n) (none_closed own unique n others) where
  by_test : (b : Bool) → map (closed_by n) (pairs_in own unique others) ≡ pairs_in own unique others → (if b then pair_in own unique known else pair_in own unique known) ∷ map (closed_by n) (pairs_in own unique others) ≡ pairs_in own unique (known ∷ others)
  by_test true e = ap (λ l. pair_in own unique known ∷ l) e
  by_test false e = ap (λ l. pair_in own unique known ∷ l) e
