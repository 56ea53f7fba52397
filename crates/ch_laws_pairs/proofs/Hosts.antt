-- No two hosts of a world have one text and port, and its names are those of its journal.
use Rattle.std.proofs.Common.{◌≡◌, ℕ, zero, suc, Bool, true, false, cond, ◌&&◌, ◌||◌, List, [], ◌∷◌, map, Ok, refl, sym, ap, ◌∙◌, subst}
use Rattle.std.specs.List.{list_any}
use Rattle.std.specs.Prelude.{filter, slice_get, Some, ◌==◌}
use Rattle.std.specs.Str.{bytes_eq}
use Rattle.ch_base.specs.declared.address.Address.{Address}
use Rattle.ch_model.specs.declared.entry.Entry.{Entry}
use Rattle.ch_model.specs.declared.line.Line.{Line}
use Rattle.ch_model.specs.Cell.{cell_new}
use Rattle.ch_model.specs.HostCalls.{host_new}
use Rattle.ch_model.specs.Node.{node_new}
use Rattle.ch_model.specs.World.{names_of, first_of_hosts, nodes_of, labels_of, same_host, cell_at, world_new, log_from}
use Rattle.ch_model.specs.WorldState.{Cell, Named, World}
use Rattle.ch_laws_world.specs.Grows.{Home, home_of, homes_of, Grows}
use Rattle.ch_laws_world.proofs.Journals.{lines_grow, grown}
use Rattle.ch_laws_log.proofs.Stored.{number_same, bytes_same}
use Rattle.ch_laws_many.proofs.Addresses.{all_opened}

-- ---- one address of each host

or_second : (a b : Bool) → (a || b) ≡ false → b ≡ false
or_second true b e = absurd cc
or_second false b e = e

or_first : (a b : Bool) → (a || b) ≡ false → a ≡ false
or_first true b e = e
or_first false b e = refl

-- each is of another host than those before
others : (known : List Address) (all : List Named) (i : ℕ) (a : Address) → slice_get (first_of_hosts known all) i ≡ Some a → list_any (same_host a) known ≡ false
others known [] i a e = absurd cc
others known (named ∷ rest) i a e = by_test (list_any (same_host named.address) known) refl i e (others known rest) (others (named.address ∷ known) rest) where
  by_test : (b : Bool) → list_any (same_host named.address) known ≡ b → (i : ℕ) → slice_get (cond b (first_of_hosts known rest) (named.address ∷ first_of_hosts (named.address ∷ known) rest)) i ≡ Some a
      → ((i : ℕ) (a : Address) → slice_get (first_of_hosts known rest) i ≡ Some a → list_any (same_host a) known ≡ false)
      → ((i : ℕ) (a : Address) → slice_get (first_of_hosts (named.address ∷ known) rest) i ≡ Some a → list_any (same_host a) (named.address ∷ known) ≡ false) → list_any (same_host a) known ≡ false
  by_test true h i e more later = more i a e
  by_test false h zero e more later = let is : named.address ≡ a = cc in subst (λ (x : Address). list_any (same_host x) known ≡ false) is h
  by_test false h (suc i) e more later = or_second (same_host a named.address) (list_any (same_host a) known) (later i a e)

alike : (a b : Address) → a.host ≡ b.host → a.port ≡ b.port → same_host a b ≡ true
alike a b h p = ap (λ (l : List ℕ). bytes_eq l b.host && (a.port == b.port)) h ∙ ap (λ (k : Bool). k && (a.port == b.port)) (bytes_same b.host) ∙ ap (λ (n : ℕ). n == b.port) p ∙ number_same b.port

hosts_apart : (known : List Address) (all : List Named) (i j : ℕ) (a b : Address) → slice_get (first_of_hosts known all) i ≡ Some a → slice_get (first_of_hosts known all) j ≡ Some b → a.host ≡ b.host → a.port ≡ b.port → i ≡ j
hosts_apart known [] i j a b e f h p = absurd cc
hosts_apart known (named ∷ rest) i j a b e f h p = by_test (list_any (same_host named.address) known) i j e f (hosts_apart known rest) (hosts_apart (named.address ∷ known) rest) where
  never : {A : Type 0} (x y : Address) (k : ℕ) → named.address ≡ x → slice_get (first_of_hosts (named.address ∷ known) rest) k ≡ Some y → y.host ≡ x.host → y.port ≡ x.port → A
  never x y k is e h p =
      let no = or_first (same_host y named.address) (list_any (same_host y) known) (others (named.address ∷ known) rest k y e) in
      let yes : same_host y named.address ≡ true = subst (λ (z : Address). same_host y z ≡ true) (sym is) (alike y x h p) in absurd cc

  Apart : List Address → Type 0
  Apart known = (i j : ℕ) (a b : Address) → slice_get (first_of_hosts known rest) i ≡ Some a → slice_get (first_of_hosts known rest) j ≡ Some b → a.host ≡ b.host → a.port ≡ b.port → i ≡ j

  by_test : (t : Bool) (i j : ℕ) → slice_get (cond t (first_of_hosts known rest) (named.address ∷ first_of_hosts (named.address ∷ known) rest)) i ≡ Some a → slice_get (cond t (first_of_hosts known rest) (named.address ∷ first_of_hosts (named.address ∷ known) rest)) j ≡ Some b → Apart known → Apart (named.address ∷ known) → i ≡ j
  by_test true i j e f more later = more i j a b e f h p
  by_test false zero zero e f more later = refl
  by_test false zero (suc j) e f more later = let is : named.address ≡ a = cc in never a b j is f (sym h) (sym p)
  by_test false (suc i) zero e f more later = let is : named.address ≡ b = cc in never b a i is e h p
  by_test false (suc i) (suc j) e f more later = ap suc (later i j a b e f h p)

-- ---- cells

home_at : (cells : List (Cell × ℕ)) (place : ℕ) (cell : Cell × ℕ) → slice_get cells place ≡ Some cell → slice_get (homes_of cells) place ≡ Some (home_of cell.0)
home_at [] place cell e = absurd cc
home_at (known ∷ rest) zero cell e = let is : known ≡ cell = cc in ap (λ (c : Cell × ℕ). Some (home_of c.0)) is
home_at (known ∷ rest) (suc place) cell e = home_at rest place cell e

new_home : (host : List ℕ) (port : ℕ) (circle : List (List ℕ)) (nodes : List (ℕ × ℕ × List (List ℕ))) → ((cell_new host port circle nodes).host.host ≡ host) × ((cell_new host port circle nodes).host.port ≡ port)
new_home host port circle nodes = all_opened (map (λ (node : ℕ × ℕ × List (List ℕ)). (node.0, node_new (record { host = host; port = port; id = node.0 }) node.1 node.2)) nodes) (host_new host port circle)

at_address : (journal : List Line) (addresses : List Address) (place : ℕ) (home : Home) → slice_get (homes_of (map (λ (address : Address). (cell_at journal address, 0)) addresses)) place ≡ Some home → (a : Address) × (slice_get addresses place ≡ Some a) × (home.0 ≡ a.host) × (home.1 ≡ a.port)
at_address journal [] place home e = absurd cc
at_address journal (address ∷ rest) zero home e =
    let is : home_of (cell_at journal address) ≡ home = cc in
    let new = new_home address.host address.port (map (λ (named : Named). named.address.host) (nodes_of journal))
    (map (λ (named : Named). (named.address.id, named.unique, labels_of journal named.name)) (filter (λ (named : Named). same_host named.address address) (nodes_of journal))) in
    (address, refl, sym (ap (λ (h : Home). h.0) is) ∙ new.0, sym (ap (λ (h : Home). h.1) is) ∙ new.1)
at_address journal (address ∷ rest) (suc place) home e = at_address journal rest place home e

-- ---- worlds

grows : (journal lines : List Line) (log : List Entry) (world : World) → log_from (world_new journal) lines ≡ Ok (log, world) → Grows (world_new journal) world
grows journal lines log world is = grown (world_new journal) world log (log_from (world_new journal) lines) (lines_grow (world_new journal) lines tt) is

pub names_are : (journal lines : List Line) (log : List Entry) (world : World) → log_from (world_new journal) lines ≡ Ok (log, world) → world.names ≡ names_of journal
names_are journal lines log world is = (grows journal lines log world is).names

pub one_place : (journal lines : List Line) (log : List Entry) (world : World) (p q : ℕ) (c d : Cell × ℕ) → log_from (world_new journal) lines ≡ Ok (log, world) → slice_get world.cells p ≡ Some c → slice_get world.cells q ≡ Some d → c.0.host.host ≡ d.0.host.host → c.0.host.port ≡ d.0.host.port → p ≡ q
one_place journal lines log world p q c d is at to h n =
    let homes = (grows journal lines log world is).homes in
    let one = at_address journal (first_of_hosts [] (nodes_of journal)) p (home_of c.0) (subst (λ (l : List Home). slice_get l p ≡ Some (home_of c.0)) homes (home_at world.cells p c at)) in
    let two = at_address journal (first_of_hosts [] (nodes_of journal)) q (home_of d.0) (subst (λ (l : List Home). slice_get l q ≡ Some (home_of d.0)) homes (home_at world.cells q d to)) in
    hosts_apart [] (nodes_of journal) p q one.0 two.0 one.1 two.1 (sym one.2 ∙ h ∙ two.2) (sym one.3 ∙ n ∙ two.3)
