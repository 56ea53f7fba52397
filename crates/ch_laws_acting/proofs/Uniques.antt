-- A new node has the unique number of the one name at its address.
use Rattle.std.proofs.Common.{◌≡◌, ℕ, zero, suc, ◌==◌, Bool, true, false, cond, List, [], ◌∷◌, map, refl, ap, ◌∙◌, subst}
use Rattle.std.proofs.lemmas.Bool.{and_parts}
use Rattle.std.proofs.lemmas.Slice.Eq.{bytes_eq-Decides}
use Rattle.std.specs.Prelude.{find, filter, slice_get, Some, None}
use Rattle.std.specs.Str.{bytes_eq}
use Rattle.ch_base.specs.declared.address.Address.{Address}
use Rattle.ch_watch.specs.Same.{same_node}
use Rattle.ch_model.specs.declared.line.Line.{Line}
use Rattle.ch_model.specs.Naming.{Names}
use Rattle.ch_model.specs.Node.{node_new}
use Rattle.ch_model.specs.NodeState.{NodeState}
use Rattle.ch_model.specs.World.{names_of, nodes_of, labels_of, same_host, first_of_hosts, cell_at, world_new}
use Rattle.ch_model.specs.WorldState.{Cell, Named}
use Rattle.ch_laws_log.specs.Declared.{AreApart}
use Rattle.ch_laws_log.proofs.Homes.{node_self}
use Rattle.ch_laws_log.proofs.Stored.{number_is}
use Rattle.ch_laws_acting.specs.Rolls.{Roll}
use Rattle.ch_laws_acting.specs.Cells.{rolls_of, roll_at}

-- the first name at this address has this unique number
abbrev pub IsOnce : Names → Address → ℕ → Type 0
IsOnce known own unique = (m : Named) × (find (λ (n : Named). same_node n.address own) known ≡ Some m) × (m.unique ≡ unique)

-- each name is the first at its address
abbrev pub AllFirst : Names → List Named → Type 0
AllFirst known [] = Unit {0}
AllFirst known (m ∷ rest) = (find (λ (n : Named). same_node n.address m.address) known ≡ Some m) × AllFirst known rest

later : (n : Named) (known : Names) (some : List Named) → find (λ (o : Named). same_node n.address o.address) some ≡ None → AllFirst known some → AllFirst (n ∷ known) some
later n known [] none f = tt
later n known (m ∷ some) none f = by_test (same_node n.address m.address) none f.0 (λ e. later n known some e f.1) where
  by_test : (b : Bool) → cond b (Some m) (find (λ (o : Named). same_node n.address o.address) some) ≡ None → find (λ (o : Named). same_node o.address m.address) known ≡ Some m → (find (λ (o : Named). same_node n.address o.address) some ≡ None → AllFirst (n ∷ known) some)
      → (cond b (Some n) (find (λ (o : Named). same_node o.address m.address) known) ≡ Some m) × AllFirst (n ∷ known) some
  by_test true none found more = absurd cc
  by_test false none found more = (found, more none)

pub all_first : (known : Names) → AreApart known → AllFirst known known
all_first [] apart = tt
all_first (n ∷ rest) apart = (ap (λ (b : Bool). cond b (Some n) (find (λ (o : Named). same_node o.address n.address) rest)) (node_self n.address), later n rest rest apart.0 (all_first rest apart.1))

first_filtered : (known : Names) (test : Named → Bool) (some : List Named) → AllFirst known some → AllFirst known (filter test some)
first_filtered known test [] f = tt
first_filtered known test (m ∷ some) f = by_test (test m) (first_filtered known test some f.1) where
  by_test : (t : Bool) → AllFirst known (filter test some) → AllFirst known (cond t (m ∷ filter test some) (filter test some))
  by_test true more = (f.0, more)
  by_test false more = more

-- who is found among them is the first at its address
pub found_first : (known : Names) (p : Named → Bool) (some : List Named) (d : Named) → AllFirst known some → find p some ≡ Some d → find (λ (n : Named). same_node n.address d.address) known ≡ Some d
found_first known p [] d f e = absurd cc
found_first known p (m ∷ some) d f e = by_test (p m) e (found_first known p some d f.1) where
  by_test : (t : Bool) → cond t (Some m) (find p some) ≡ Some d → (find p some ≡ Some d → find (λ (n : Named). same_node n.address d.address) known ≡ Some d) → find (λ (n : Named). same_node n.address d.address) known ≡ Some d
  by_test true e more = let is : m ≡ d = cc in subst (λ (x : Named). find (λ (n : Named). same_node n.address x.address) known ≡ Some x) is f.0
  by_test false e more = more e

fresh_rolls : (known : Names) (journal : List Line) (address : Address) (all : List Named) → AllFirst known all → (end : ℕ) (roll : Roll)
    → roll_at end (rolls_of (map (λ (node : ℕ × ℕ × List (List ℕ)). (node.0, node_new (record { host = address.host; port = address.port; id = node.0 }) node.1 node.2)) (map (λ (named : Named). (named.address.id, named.unique, labels_of journal named.name)) (filter (λ named. same_host named.address address) all)))) ≡ Some roll → IsOnce known roll.lives.own roll.lives.unique
unfolding node_new
fresh_rolls known journal address [] f end roll e = absurd cc
fresh_rolls known journal address (m ∷ rest) f end roll e = by_host (same_host m.address address) refl e (fresh_rolls known journal address rest f.1 end roll) where
  tail : List (ℕ × NodeState)
  tail = map (λ (node : ℕ × ℕ × List (List ℕ)). (node.0, node_new (record { host = address.host; port = address.port; id = node.0 }) node.1 node.2)) (map (λ (named : Named). (named.address.id, named.unique, labels_of journal named.name)) (filter (λ named. same_host named.address address) rest))

  here : Roll
  here = record { lives = record { own = record { host = address.host; port = address.port; id = m.address.id }; unique = m.unique; ends = [] }; rests = [] }

  by_end : (t : Bool) → same_host m.address address ≡ true → cond t (Some here) (roll_at end (rolls_of tail)) ≡ Some roll → (roll_at end (rolls_of tail) ≡ Some roll → IsOnce known roll.lives.own roll.lives.unique) → IsOnce known roll.lives.own roll.lives.unique
  by_end true h e more =
      let is : here ≡ roll = cc in
      let parts = and_parts (bytes_eq m.address.host address.host) (m.address.port == address.port) h in
      let at : m.address ≡ here.lives.own = ap (λ (x : List ℕ). record { host = x; port = m.address.port; id = m.address.id }) ((bytes_eq-Decides m.address.host address.host).0 parts.0) ∙ ap (λ (x : ℕ). record { host = address.host; port = x; id = m.address.id }) (number_is m.address.port address.port parts.1) in
      subst (λ (r : Roll). IsOnce known r.lives.own r.lives.unique) is (m, subst (λ (a : Address). find (λ (n : Named). same_node n.address a) known ≡ Some m) at f.0, refl)
  by_end false h e more = more e

  by_host : (t : Bool) → same_host m.address address ≡ t → roll_at end (rolls_of (map (λ (node : ℕ × ℕ × List (List ℕ)). (node.0, node_new (record { host = address.host; port = address.port; id = node.0 }) node.1 node.2)) (map (λ (named : Named). (named.address.id, named.unique, labels_of journal named.name)) (cond t (m ∷ filter (λ named. same_host named.address address) rest) (filter (λ named. same_host named.address address) rest))))) ≡ Some roll
      → (roll_at end (rolls_of tail) ≡ Some roll → IsOnce known roll.lives.own roll.lives.unique) → IsOnce known roll.lives.own roll.lives.unique
  by_host true h e more = by_end (m.address.id == end) h e more
  by_host false h e more = more e

cell_of_place : (journal : List Line) (addresses : List Address) (p : ℕ) (cell : Cell × ℕ) → slice_get (map (λ (address : Address). (cell_at journal address, 0)) addresses) p ≡ Some cell → (address : Address) × (cell_at journal address ≡ cell.0)
cell_of_place journal [] p cell e = absurd cc
cell_of_place journal (a ∷ rest) zero cell e = let is : ◌≡◌ {A = Cell × ℕ} (cell_at journal a, 0) cell = cc in (a, ap (λ (c : Cell × ℕ). c.0) is)
cell_of_place journal (a ∷ rest) (suc p) cell e = cell_of_place journal rest p cell e

pub fresh_once : (journal : List Line) → AreApart (names_of journal) → (p : ℕ) (cell : Cell × ℕ) (end : ℕ) (roll : Roll) → slice_get (world_new journal).cells p ≡ Some cell → roll_at end (rolls_of cell.0.nodes) ≡ Some roll → IsOnce (names_of journal) roll.lives.own roll.lives.unique
fresh_once journal apart p cell end roll e f = let at = cell_of_place journal (first_of_hosts [] (nodes_of journal)) p cell e in
    fresh_rolls (names_of journal) journal at.0 (nodes_of journal) (first_filtered (names_of journal) (λ named. named.is_node) (names_of journal) (all_first (names_of journal) apart)) end roll (ap (λ (c : Cell). roll_at end (rolls_of c.nodes)) at.1 ∙ f)
