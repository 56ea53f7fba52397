-- The pair that is found of a process and a target is theirs.
use Rattle.std.specs.Prelude.{◌≡◌, ℕ, Bool, true, false, cond, ◌&&◌, ◌==◌, List, [], ◌∷◌, find, Some, unwrap_or}
use Rattle.std.specs.Str.{bytes_eq}
use Rattle.std.proofs.Common.{refl, ap, ◌∙◌}
use Rattle.std.proofs.lemmas.Bool.{eqb-true, and_parts}
use Rattle.std.proofs.lemmas.Slice.Eq.{bytes_eq-Decides}
use Rattle.ch_base.specs.declared.address.Address.{Address}
use Rattle.ch_ident.specs.declared.identifier.ProcessId.{ProcessId}
use Rattle.ch_ident.specs.declared.identifier.SendPortId.{SendPortId}
use Rattle.ch_static.specs.declared.target.Target.{Target}
use Rattle.ch_static.specs.declared.target.Target.TheVariants as targets
use Rattle.ch_watch.specs.Same.{same_node}
use Rattle.ch_model.specs.NodeState.{Pair}
use Rattle.ch_model.specs.NodePairs.{same_process, same_port, same_target, is_pair, new_pair, pair_of}

pub node_is : (a b : Address) → same_node a b ≡ true → a ≡ b
unfolding same_node
node_is a b h =
    let parts = and_parts (bytes_eq a.host b.host) ((a.port == b.port) && (a.id == b.id)) h in
    let rest = and_parts (a.port == b.port) (a.id == b.id) parts.1 in
    ap (λ (z : List ℕ). record a { host = z }) ((bytes_eq-Decides a.host b.host).0 parts.0)
    ∙ ap (λ (z : ℕ). record a { host = b.host; port = z }) (eqb-true a.port b.port rest.0)
    ∙ ap (λ (z : ℕ). record b { id = z }) (eqb-true a.id b.id rest.1)

process_is : (a b : ProcessId) → same_process a b ≡ true → a ≡ b
unfolding same_process
process_is a b h =
    let parts = and_parts (same_node a.node b.node) ((a.unique == b.unique) && (a.counter == b.counter)) h in
    let rest = and_parts (a.unique == b.unique) (a.counter == b.counter) parts.1 in
    ap (λ (z : Address). record a { node = z }) (node_is a.node b.node parts.0)
    ∙ ap (λ (z : ℕ). record a { node = b.node; unique = z }) (eqb-true a.unique b.unique rest.0)
    ∙ ap (λ (z : ℕ). record b { counter = z }) (eqb-true a.counter b.counter rest.1)

port_is : (a b : SendPortId) → same_port a b ≡ true → a ≡ b
unfolding same_port
port_is a b h =
    let parts = and_parts (same_process a.process b.process) (a.port == b.port) h in
    ap (λ (z : ProcessId). record a { process = z }) (process_is a.process b.process parts.0) ∙ ap (λ (z : ℕ). record b { port = z }) (eqb-true a.port b.port parts.1)

wrong : {A : Type 0} → false ≡ true → A
wrong h = absurd (clash h) where
  clash : false ≡ true → ⊥
  clash h = cc

target_is : (a b : Target) → same_target a b ≡ true → a ≡ b
unfolding same_target
target_is (targets.Process p) (targets.Process q) h = ap targets.Process (process_is p q h)
target_is (targets.Port p) (targets.Port q) h = ap targets.Port (port_is p q h)
target_is (targets.Named at name) (targets.Named other word) h =
    let parts = and_parts (same_node at other) (bytes_eq name word) h in
    ap (λ (z : Address). targets.Named z name) (node_is at other parts.0) ∙ ap (λ (z : List ℕ). targets.Named other z) ((bytes_eq-Decides name word).0 parts.1)
target_is (targets.Process p) (targets.Port q) h = wrong h
target_is (targets.Process p) (targets.Named at name) h = wrong h
target_is (targets.Port p) (targets.Process q) h = wrong h
target_is (targets.Port p) (targets.Named at name) h = wrong h
target_is (targets.Named at name) (targets.Process q) h = wrong h
target_is (targets.Named at name) (targets.Port q) h = wrong h

pair_key : (by : ℕ) (to : Target) (pair : Pair) → is_pair by to pair ≡ true → (pair.by ≡ by) × (pair.to ≡ to)
unfolding is_pair
pair_key by to pair h = let parts = and_parts (pair.by == by) (same_target pair.to to) h in (eqb-true pair.by by parts.0, target_is pair.to to parts.1)

pub pair_named : (pairs : List Pair) (by : ℕ) (to : Target) → ((pair_of pairs by to).by ≡ by) × ((pair_of pairs by to).to ≡ to)
unfolding pair_of
pair_named [] by to = (refl, refl)
pair_named (known ∷ rest) by to = by_test (is_pair by to known) refl (pair_named rest by to) where
  by_test : (x : Bool) → is_pair by to known ≡ x → ((unwrap_or (find (is_pair by to) rest) (new_pair by to)).by ≡ by) × ((unwrap_or (find (is_pair by to) rest) (new_pair by to)).to ≡ to)
      → ((unwrap_or (cond x (Some known) (find (is_pair by to) rest)) (new_pair by to)).by ≡ by) × ((unwrap_or (cond x (Some known) (find (is_pair by to) rest)) (new_pair by to)).to ≡ to)
  by_test true h later = pair_key by to known h
  by_test false h later = later
