-- Where nothing has happened, a world is plain.
use Rattle.std.proofs.Common.{◌≡◌, ◌≤◌, ℕ, zero, suc, Bool, true, false, cond, List, [], ◌∷◌, ◌++◌, map, refl, sym, subst, arith}
use Rattle.std.specs.List.{list_any}
use Rattle.std.specs.Prelude.{find, slice_get, Some}
use Rattle.ch_base.specs.declared.address.Address.{Address}
use Rattle.ch_model.specs.declared.line.Line.{Line}
use Rattle.ch_model.specs.Cell.{opened_for}
use Rattle.ch_model.specs.CellSteps.{is_at}
use Rattle.ch_model.specs.HostCalls.{host_open}
use Rattle.ch_model.specs.HostState.{Link, HostState}
use Rattle.ch_model.specs.HostSteps.{is_endpoint, new_link}
use Rattle.ch_model.specs.Node.{node_new}
use Rattle.ch_model.specs.NodeState.{NodeState}
use Rattle.ch_model.specs.World.{cell_at, world_new, first_of_hosts, nodes_of}
use Rattle.ch_model.specs.WorldState.{Cell}
use Rattle.ch_watch.specs.Watches.{nothing}
use Rattle.ch_laws_writes.specs.Orderly.{link_at}
use Rattle.ch_laws_plain.specs.Plain.{NodeIsPlain, CellIsPlain, WorldIsPlain}
use Rattle.ch_laws_plain.specs.Talks.{LinkIsPlain, HostIsPlain}

-- ---- nodes

new_plain : (own : Address) (unique : ℕ) (labels : List (List ℕ)) → NodeIsPlain (node_new own unique labels)
unfolding node_new nothing
new_plain own unique labels = record { plain = record { unshut = refl; alone = refl; waiting = refl; watched = refl; names = refl; pairs = tt; arrived = tt }; alone = λ peer. none } where
  none : 0 ≤ 1
  none = omega arith

-- what is so of each that is made is so of each that is found
found_made : {A : Type 0} (make : A → ℕ × NodeState) → ((x : A) → NodeIsPlain (make x).1) → (xs : List A) (end : ℕ) (there : ℕ × NodeState) → find (is_at end) (map make xs) ≡ Some there → NodeIsPlain there.1
found_made make each [] end there e = absurd cc
found_made make each (x ∷ xs) end there e = by_test (is_at end (make x)) e (found_made make each xs end there) where
  by_test : (b : Bool) → cond b (Some (make x)) (find (is_at end) (map make xs)) ≡ Some there → (find (is_at end) (map make xs) ≡ Some there → NodeIsPlain there.1) → NodeIsPlain there.1
  by_test true e more = let is : make x ≡ there = cc in subst (λ (y : ℕ × NodeState). NodeIsPlain y.1) is (each x)
  by_test false e more = more e

-- ---- hosts

new_link_plain : (end : ℕ) (peer : Address) → LinkIsPlain (new_link end peer)
new_link_plain end peer = record { up = λ h. refl; waits = λ h. refl; created = λ h. refl }

no_links : (host : HostState) → host.links ≡ [] → HostIsPlain host
no_links host none end peer = subst (λ (l : List Link). LinkIsPlain (link_at l end peer)) (sym none) (new_link_plain end peer)

opened_links : (nodes : List (ℕ × NodeState)) (host : HostState) → host.links ≡ [] → (opened_for nodes host).links ≡ []
unfolding host_open
opened_links [] host e = e
opened_links (node ∷ rest) host e = opened_links rest (host_open host node.0).1 (by_test (list_any (is_endpoint node.0) host.ends)) where
  by_test : (b : Bool) → (cond {A = Bool × HostState} b (false, host) (true, record host { ends = host.ends ++ record { number = node.0; is_open = true; arrived = 0 } ∷ [] })).1.links ≡ []
  by_test true = e
  by_test false = e

-- ---- worlds

fresh_cell : (journal : List Line) (address : Address) → CellIsPlain (cell_at journal address)
fresh_cell journal address = record { host = no_links (cell_at journal address).host (opened_links (cell_at journal address).nodes _ refl); nodes = λ end there found. found_made _ (λ x. new_plain _ _ _) _ end there found }

fresh_cells : (journal : List Line) (addresses : List Address) (place : ℕ) (cell : Cell × ℕ) → slice_get (map (λ (address : Address). (cell_at journal address, 0)) addresses) place ≡ Some cell → CellIsPlain cell.0
fresh_cells journal [] place cell e = absurd cc
fresh_cells journal (address ∷ rest) zero cell e = let is : (cell_at journal address, 0) ≡ cell = cc in subst (λ (c : Cell × ℕ). CellIsPlain c.0) is (fresh_cell journal address)
fresh_cells journal (address ∷ rest) (suc place) cell e = fresh_cells journal rest place cell e

pub fresh_plain : (journal : List Line) → WorldIsPlain journal (world_new journal)
fresh_plain journal = record { cells = λ place cell at. fresh_cells journal (first_of_hosts [] (nodes_of journal)) place cell at; ends = λ s socket e found may. absurd cc }
