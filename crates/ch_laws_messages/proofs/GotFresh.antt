-- Where nothing has happened nothing has arrived, nothing is read, and nothing was got.
use Rattle.std.proofs.Common.{◌≡◌, ℕ, zero, suc, Bool, true, false, cond, List, [], ◌∷◌, map, take, refl, sym, ap, subst}
use Rattle.std.specs.Prelude.{find, slice_get, Option, Some, None}
use Rattle.ch_base.specs.declared.address.Address.{Address}
use Rattle.ch_model.specs.declared.line.Line.{Line}
use Rattle.ch_model.specs.AccountsItems.{first_payload}
use Rattle.ch_model.specs.CellSteps.{is_at}
use Rattle.ch_model.specs.Node.{node_new}
use Rattle.ch_model.specs.NodeState.{NodeState, Arrived}
use Rattle.ch_model.specs.World.{nodes_of, cell_at, first_of_hosts, world_new}
use Rattle.ch_model.specs.WorldState.{Cell}
use Rattle.ch_race.specs.Pair.{Side, other}
use Rattle.ch_laws_race.specs.Scene.{Party}
use Rattle.ch_laws_peers.specs.Words.{words_in, datas_in}
use Rattle.ch_laws_peers.specs.Says.{node_in, node_of}
use Rattle.ch_laws_peers.specs.Reads.{reads, AllLeadHere, read_of, AllGet}
use Rattle.ch_laws_messages.proofs.GotLists.{none_some}
use Rattle.ch_laws_messages.proofs.GotMoves.{has_conn, of_party}

-- nothing has arrived at a node that is new
HasNone : Cell → Type 0
HasNone cell = (end : ℕ) (there : ℕ × NodeState) → find (is_at end) cell.nodes ≡ Some there → there.1.arrived ≡ []

new_none : (own : Address) (unique : ℕ) (labels : List (List ℕ)) → (node_new own unique labels).arrived ≡ []
unfolding node_new
new_none own unique labels = refl

found_made : {A : Type 0} (make : A → ℕ × NodeState) → ((x : A) → (make x).1.arrived ≡ []) → (xs : List A) (end : ℕ) (there : ℕ × NodeState) → find (is_at end) (map make xs) ≡ Some there → there.1.arrived ≡ []
found_made make each [] end there e = absurd cc
found_made make each (x ∷ xs) end there e = by_test (is_at end (make x)) e (found_made make each xs end there) where
  by_test : (b : Bool) → cond b (Some (make x)) (find (is_at end) (map make xs)) ≡ Some there → (find (is_at end) (map make xs) ≡ Some there → there.1.arrived ≡ []) → there.1.arrived ≡ []
  by_test true e more = let is : make x ≡ there = cc in subst (λ (y : ℕ × NodeState). y.1.arrived ≡ []) is (each x)
  by_test false e more = more e

fresh_cell : (journal : List Line) (address : Address) → HasNone (cell_at journal address)
unfolding HasNone
fresh_cell journal address end there found = found_made _ (λ x. new_none _ _ _) _ end there found

fresh_cells : (journal : List Line) (addresses : List Address) (place : ℕ) (cell : Cell × ℕ) → slice_get (map (λ (address : Address). (cell_at journal address, 0)) addresses) place ≡ Some cell → HasNone cell.0
fresh_cells journal [] place cell e = absurd cc
fresh_cells journal (address ∷ rest) zero cell e = let is : (cell_at journal address, 0) ≡ cell = cc in subst (λ (c : Cell × ℕ). HasNone c.0) is (fresh_cell journal address)
fresh_cells journal (address ∷ rest) (suc place) cell e = fresh_cells journal rest place cell e

fresh_node : (journal : List Line) (party : Side → Party) (y : Side) (node : NodeState) → node_of party (world_new journal) y ≡ Some node → node.arrived ≡ []
unfolding HasNone
fresh_node journal party y node e = by_cell (slice_get (world_new journal).cells (party y).place) refl e where
  by_found : (cell : Cell × ℕ) → slice_get (world_new journal).cells (party y).place ≡ Some cell → (o : Option (ℕ × NodeState)) → find (is_at (party y).address.id) cell.0.nodes ≡ o → (elim o as (λ o. Option NodeState) [
    | None ↦ None
    | Some there ↦ Some there.1
  ]) ≡ Some node → node.arrived ≡ []
  by_found cell at None f e = absurd cc
  by_found cell at (Some there) f e = let is : there.1 ≡ node = cc in subst (λ (n : NodeState). n.arrived ≡ []) is (fresh_cells journal (first_of_hosts [] (nodes_of journal)) (party y).place cell at (party y).address.id there f)

  by_cell : (o : Option (Cell × ℕ)) → slice_get (world_new journal).cells (party y).place ≡ o → node_in o (party y).address.id ≡ Some node → node.arrived ≡ []
  by_cell None at e = absurd cc
  by_cell (Some cell) at e = by_found cell at (find (is_at (party y).address.id) cell.0.nodes) refl e

nothing_read : (journal : List Line) (party : Side → Party) (x : Side) → read_of party (world_new journal) x [] ≡ []
nothing_read journal party x = by_count (reads party (world_new journal) x []) where
  by_count : (n : ℕ) → datas_in (words_in (take n [])) ≡ []
  by_count zero = refl
  by_count (suc n) = refl

pub fresh_get : (journal : List Line) → AllGet journal [] (world_new journal)
fresh_get journal party pair x = of_party journal [] (world_new journal) party x (record {
  binds = λ node arrived id at found peer given. none_there node arrived at found;
  made = λ node arrived from to at found peer bound. none_there node arrived at found;
  most = λ p q id opening a b o f. none_first id opening f;
  none = λ p q a b unopened. refl;
  all = λ node arrived from to id at found peer bound living given. none_there node arrived at found;
  pairs = λ node arrived from to at found peer bound. none_there node arrived at found;
  reached = λ node at. subst (AllLeadHere node.own) (sym (fresh_node journal party (other x) node at)) tt;
  below = λ id opening f. none_first id opening f;
}) where
  none_there : {A : Type 0} (node : NodeState) (arrived : Arrived) → node_of party (world_new journal) (other x) ≡ Some node → find (has_conn arrived.conn) node.arrived ≡ Some arrived → A
  none_there node arrived at found = none_some arrived (find (has_conn arrived.conn) node.arrived) (ap (find (has_conn arrived.conn)) (fresh_node journal party (other x) node at)) found

  none_first : {A : Type 0} (id : ℕ) (opening : List ℕ) → first_payload id (read_of party (world_new journal) x []) ≡ Some opening → A
  none_first id opening f = none_some opening (first_payload id (read_of party (world_new journal) x [])) (ap (first_payload id) (nothing_read journal party x)) f
