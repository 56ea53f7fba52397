-- A new world: its nodes have made nothing, each is called back by its name, and no two nodes are at one address.
use Rattle.std.proofs.Common.{◌≡◌, ℕ, zero, suc, ◌==◌, Bool, true, false, cond, ◌&&◌, ◌||◌, List, [], ◌∷◌, map, refl, sym, ap, ◌∙◌, subst}
use Rattle.std.proofs.lemmas.Bool.{and_parts}
use Rattle.std.proofs.lemmas.Slice.Eq.{bytes_eq-Decides}
use Rattle.std.specs.List.{list_any}
use Rattle.std.specs.Prelude.{find, filter, slice_get, Option, Some, None}
use Rattle.std.specs.Str.{bytes_eq}
use Rattle.ch_base.specs.declared.address.Address.{Address}
use Rattle.ch_watch.specs.Same.{same_node}
use Rattle.ch_model.specs.declared.line.Line.{Line}
use Rattle.ch_model.specs.Naming.{Names, is_named, or_nobody, address_as, called}
use Rattle.ch_model.specs.Node.{node_new}
use Rattle.ch_model.specs.NodeState.{NodeState}
use Rattle.ch_model.specs.World.{names_of, nodes_of, labels_of, same_host, first_of_hosts, cell_at, world_new}
use Rattle.ch_model.specs.WorldState.{Cell, Named}
use Rattle.ch_laws_log.proofs.Homes.{node_self}
use Rattle.ch_laws_log.proofs.Keys.{node_is}
use Rattle.ch_laws_log.proofs.Stored.{number_is, number_same, bytes_same}
use Rattle.ch_laws_many.specs.ManyLines.{AreNamedApart}
use Rattle.ch_laws_lives.specs.Rolls.{Roll}
use Rattle.ch_laws_lives.specs.Cells.{rolls_of, roll_at, AllReached}
use Rattle.ch_laws_lives.proofs.CellLives.{new_reached}

-- ---- names

-- the address is that of a declared name, which leads back to it
abbrev pub IsBack : Names → Address → Type 0
IsBack known a = (d : Named) × (find (λ (n : Named). same_node n.address a) known ≡ Some d) × (address_as known d.name ≡ a)

abbrev AllBack : Names → List Named → Type 0
AllBack known [] = Unit {0}
AllBack known (m ∷ rest) = IsBack known m.address × AllBack known rest

other_name : (p : Named → Bool) (name : List ℕ) (known : Names) (d : Named) → find p known ≡ Some d → find (is_named name) known ≡ None → bytes_eq d.name name ≡ false
other_name p name [] d e none = absurd cc
other_name p name (n ∷ rest) d e none = by_tests (p n) e (bytes_eq n.name name) refl none (other_name p name rest d) where
  by_tests : (a : Bool) → cond a (Some n) (find p rest) ≡ Some d → (b : Bool) → bytes_eq n.name name ≡ b → cond b (Some n) (find (is_named name) rest) ≡ None → (find p rest ≡ Some d → find (is_named name) rest ≡ None → bytes_eq d.name name ≡ false) → bytes_eq d.name name ≡ false
  by_tests a e true h none more = absurd cc
  by_tests true e false h none more = let same : n ≡ d = cc in ap (λ (m : Named). bytes_eq m.name name) (sym same) ∙ h
  by_tests false e false h none more = more e none

flipped : (a b : List ℕ) → bytes_eq a b ≡ false → bytes_eq b a ≡ false
flipped a b h = by_test (bytes_eq b a) refl where
  by_test : (t : Bool) → bytes_eq b a ≡ t → t ≡ false
  by_test true k = sym (ap (λ (x : List ℕ). bytes_eq x b) (sym ((bytes_eq-Decides b a).0 k)) ∙ bytes_same b) ∙ h
  by_test false k = refl

-- one name more, before the others
back_later : (n : Named) (known : Names) (a : Address) → find (is_named n.name) known ≡ None → IsBack known a → IsBack (n ∷ known) a
back_later n known a none back = by_test (same_node n.address a) refl where
  by_test : (b : Bool) → same_node n.address a ≡ b → IsBack (n ∷ known) a
  by_test true h = (n, ap (λ (b : Bool). cond b (Some n) (find (λ (n : Named). same_node n.address a) known)) h, ap (λ (b : Bool). (or_nobody (cond b (Some n) (find (is_named n.name) known))).address) (bytes_same n.name) ∙ node_is n.address a h)
  by_test false h = (
    back.0,
    ap (λ (b : Bool). cond b (Some n) (find (λ (n : Named). same_node n.address a) known)) h ∙ back.1,
    ap (λ (b : Bool). (or_nobody (cond b (Some n) (find (is_named back.0.name) known))).address) (flipped back.0.name n.name (other_name (λ (n : Named). same_node n.address a) n.name known back.0 back.1 none)) ∙ back.2,
  )

all_later : (n : Named) (known : Names) (some : List Named) → find (is_named n.name) known ≡ None → AllBack known some → AllBack (n ∷ known) some
all_later n known [] none b = tt
all_later n known (m ∷ some) none b = (back_later n known m.address none b.0, all_later n known some none b.1)

all_back : (known : Names) → AreNamedApart known → AllBack known known
all_back [] apart = tt
all_back (n ∷ rest) apart = (
  (n, ap (λ (b : Bool). cond b (Some n) (find (λ (m : Named). same_node m.address n.address) rest)) (node_self n.address), ap (λ (b : Bool). (or_nobody (cond b (Some n) (find (is_named n.name) rest))).address) (bytes_same n.name)),
  all_later n rest rest apart.0 (all_back rest apart.1),
)

back_filtered : (known : Names) (test : Named → Bool) (some : List Named) → AllBack known some → AllBack known (filter test some)
back_filtered known test [] b = tt
back_filtered known test (m ∷ some) b = by_test (test m) (back_filtered known test some b.1) where
  by_test : (t : Bool) → AllBack known (filter test some) → AllBack known (cond t (m ∷ filter test some) (filter test some))
  by_test true more = (b.0, more)
  by_test false more = more

pub called_back : (known : Names) (a : Address) → IsBack known a → address_as known (called known a) ≡ a
called_back known a b = ap (λ (o : Option Named). address_as known (or_nobody o).name) b.1 ∙ b.2

-- ---- hosts

unseen : (seen : List Address) (all : List Named) (p : ℕ) (a : Address) → slice_get (first_of_hosts seen all) p ≡ Some a → list_any (same_host a) seen ≡ false
unseen seen [] p a e = absurd cc
unseen seen (named ∷ rest) p a e = by_test (list_any (same_host named.address) seen) refl p e (unseen seen rest) (unseen (named.address ∷ seen) rest) where
  second : (x y : Bool) → (x || y) ≡ false → y ≡ false
  second true y h = absurd cc
  second false y h = h

  by_test : (b : Bool) → list_any (same_host named.address) seen ≡ b → (p : ℕ) → slice_get (cond b (first_of_hosts seen rest) (named.address ∷ first_of_hosts (named.address ∷ seen) rest)) p ≡ Some a
      → ((p : ℕ) (a : Address) → slice_get (first_of_hosts seen rest) p ≡ Some a → list_any (same_host a) seen ≡ false)
      → ((p : ℕ) (a : Address) → slice_get (first_of_hosts (named.address ∷ seen) rest) p ≡ Some a → list_any (same_host a) (named.address ∷ seen) ≡ false) → list_any (same_host a) seen ≡ false
  by_test true h p e more other = more p a e
  by_test false h zero e more other = let same : named.address ≡ a = cc in ap (λ (x : Address). list_any (same_host x) seen) (sym same) ∙ h
  by_test false h (suc p) e more other = second (same_host a named.address) (list_any (same_host a) seen) (other p a e)

hosts_same : (a b : Address) → a.host ≡ b.host → a.port ≡ b.port → same_host a b ≡ true
hosts_same a b h p = ap (λ (t : Bool). t && a.port == b.port) (ap (λ (x : List ℕ). bytes_eq x b.host) h ∙ bytes_same b.host) ∙ ap (λ (n : ℕ). n == b.port) p ∙ number_same b.port

one_host : (seen : List Address) (all : List Named) (p q : ℕ) (a b : Address) → slice_get (first_of_hosts seen all) p ≡ Some a → slice_get (first_of_hosts seen all) q ≡ Some b → a.host ≡ b.host → a.port ≡ b.port → p ≡ q
one_host seen [] p q a b e f h k = absurd cc
one_host seen (named ∷ rest) p q a b e f h k = by_test (list_any (same_host named.address) seen) p q e f (λ i j. one_host seen rest i j a b) (λ i j. one_host (named.address ∷ seen) rest i j a b) where
  first : (x y : Bool) → (x || y) ≡ false → x ≡ false
  first true y n = absurd cc
  first false y n = refl

  clash : (i : ℕ) (c : Address) → slice_get (first_of_hosts (named.address ∷ seen) rest) i ≡ Some c → c.host ≡ named.address.host → c.port ≡ named.address.port → ⊥
  clash i c g s t = let no = first (same_host c named.address) (list_any (same_host c) seen) (unseen (named.address ∷ seen) rest i c g) in let bad : true ≡ false = sym (hosts_same c named.address s t) ∙ no in absurd cc

  by_test : (t : Bool) (p q : ℕ) → slice_get (cond t (first_of_hosts seen rest) (named.address ∷ first_of_hosts (named.address ∷ seen) rest)) p ≡ Some a → slice_get (cond t (first_of_hosts seen rest) (named.address ∷ first_of_hosts (named.address ∷ seen) rest)) q ≡ Some b
      → ((i j : ℕ) → slice_get (first_of_hosts seen rest) i ≡ Some a → slice_get (first_of_hosts seen rest) j ≡ Some b → a.host ≡ b.host → a.port ≡ b.port → i ≡ j)
      → ((i j : ℕ) → slice_get (first_of_hosts (named.address ∷ seen) rest) i ≡ Some a → slice_get (first_of_hosts (named.address ∷ seen) rest) j ≡ Some b → a.host ≡ b.host → a.port ≡ b.port → i ≡ j) → p ≡ q
  by_test true p q e f more other = more p q e f h k
  by_test false zero zero e f more other = refl
  by_test false zero (suc q) e f more other = let same : named.address ≡ a = cc in absurd (clash q b f (sym h ∙ ap (λ (x : Address). x.host) (sym same)) (sym k ∙ ap (λ (x : Address). x.port) (sym same)))
  by_test false (suc p) zero e f more other = let same : named.address ≡ b = cc in absurd (clash p a e (h ∙ ap (λ (x : Address). x.host) (sym same)) (k ∙ ap (λ (x : Address). x.port) (sym same)))
  by_test false (suc p) (suc q) e f more other = ap suc (other p q e f h k)

-- ---- a new cell

-- the node at an endpoint has made nothing, is at its host's address under that number, and is called back
pub record IsFresh (known : Names) (address : Address) (end : ℕ) (roll : Roll) : Type 0 where
  pub made_none : roll.ends ≡ []
  pub host : roll.own.host ≡ address.host
  pub port : roll.own.port ≡ address.port
  pub id : roll.own.id ≡ end
  pub back : address_as known (called known roll.own) ≡ roll.own

fresh_rolls : (known : Names) (journal : List Line) (address : Address) (all : List Named) → AllBack known all → (end : ℕ) (roll : Roll)
    → roll_at end (rolls_of (map (λ (node : ℕ × ℕ × List (List ℕ)). (node.0, node_new (record { host = address.host; port = address.port; id = node.0 }) node.1 node.2)) (map (λ (named : Named). (named.address.id, named.unique, labels_of journal named.name)) (filter (λ named. same_host named.address address) all)))) ≡ Some roll → IsFresh known address end roll
unfolding node_new
fresh_rolls known journal address [] b end roll e = absurd cc
fresh_rolls known journal address (m ∷ rest) b end roll e = by_host (same_host m.address address) refl e (fresh_rolls known journal address rest b.1 end roll) where
  tail : List (ℕ × NodeState)
  tail = map (λ (node : ℕ × ℕ × List (List ℕ)). (node.0, node_new (record { host = address.host; port = address.port; id = node.0 }) node.1 node.2)) (map (λ (named : Named). (named.address.id, named.unique, labels_of journal named.name)) (filter (λ named. same_host named.address address) rest))

  here : Roll
  here = record { own = record { host = address.host; port = address.port; id = m.address.id }; unique = m.unique; ends = [] }

  by_end : (t : Bool) → (m.address.id == end) ≡ t → same_host m.address address ≡ true → cond t (Some here) (roll_at end (rolls_of tail)) ≡ Some roll → (roll_at end (rolls_of tail) ≡ Some roll → IsFresh known address end roll) → IsFresh known address end roll
  by_end true i h e more =
      let is : here ≡ roll = cc in
      let parts = and_parts (bytes_eq m.address.host address.host) (m.address.port == address.port) h in
      let at : m.address ≡ here.own = ap (λ (x : List ℕ). record { host = x; port = m.address.port; id = m.address.id }) ((bytes_eq-Decides m.address.host address.host).0 parts.0) ∙ ap (λ (x : ℕ). record { host = address.host; port = x; id = m.address.id }) (number_is m.address.port address.port parts.1) in
      subst (IsFresh known address end) is (record { made_none = refl; host = refl; port = refl; id = number_is m.address.id end i; back = subst (λ (a : Address). address_as known (called known a) ≡ a) at (called_back known m.address b.0) })
  by_end false i h e more = more e

  by_host : (t : Bool) → same_host m.address address ≡ t → roll_at end (rolls_of (map (λ (node : ℕ × ℕ × List (List ℕ)). (node.0, node_new (record { host = address.host; port = address.port; id = node.0 }) node.1 node.2)) (map (λ (named : Named). (named.address.id, named.unique, labels_of journal named.name)) (cond t (m ∷ filter (λ named. same_host named.address address) rest) (filter (λ named. same_host named.address address) rest))))) ≡ Some roll
      → (roll_at end (rolls_of tail) ≡ Some roll → IsFresh known address end roll) → IsFresh known address end roll
  by_host true h e more = by_end (m.address.id == end) refl h e more
  by_host false h e more = more e

-- ---- a new world

cell_of_place : (journal : List Line) (addresses : List Address) (p : ℕ) (cell : Cell × ℕ) → slice_get (map (λ (address : Address). (cell_at journal address, 0)) addresses) p ≡ Some cell → (address : Address) × (slice_get addresses p ≡ Some address) × (cell_at journal address ≡ cell.0)
cell_of_place journal [] p cell e = absurd cc
cell_of_place journal (a ∷ rest) zero cell e = let is : ◌≡◌ {A = Cell × ℕ} (cell_at journal a, 0) cell = cc in (a, refl, ap (λ (c : Cell × ℕ). c.0) is)
cell_of_place journal (a ∷ rest) (suc p) cell e = cell_of_place journal rest p cell e

pub fresh_at : (journal : List Line) → AreNamedApart (names_of journal) → (p : ℕ) (cell : Cell × ℕ) (end : ℕ) (roll : Roll) → slice_get (world_new journal).cells p ≡ Some cell → roll_at end (rolls_of cell.0.nodes) ≡ Some roll
    → (address : Address) × (slice_get (first_of_hosts [] (nodes_of journal)) p ≡ Some address) × IsFresh (names_of journal) address end roll
fresh_at journal apart p cell end roll e f = let at = cell_of_place journal (first_of_hosts [] (nodes_of journal)) p cell e in
    (at.0, at.1, fresh_rolls (names_of journal) journal at.0 (nodes_of journal) (back_filtered (names_of journal) (λ named. named.is_node) (names_of journal) (all_back (names_of journal) apart)) end roll (ap (λ (c : Cell). roll_at end (rolls_of c.nodes)) at.2 ∙ f))

pub fresh_reached_at : (journal : List Line) (p : ℕ) (cell : Cell × ℕ) → slice_get (world_new journal).cells p ≡ Some cell → AllReached cell.0.nodes
fresh_reached_at journal p cell e = let at = cell_of_place journal (first_of_hosts [] (nodes_of journal)) p cell e in subst (λ (c : Cell). AllReached c.nodes) at.2 (new_reached at.0.host at.0.port (map (λ (named : Named). (named.address.id, named.unique, labels_of journal named.name)) (filter (λ named. same_host named.address at.0) (nodes_of journal))))

-- nodes of one name are one
pub fresh_apart : (journal : List Line) → AreNamedApart (names_of journal) → (p q : ℕ) (c d : Cell × ℕ) (e f : ℕ) (r s : Roll) → slice_get (world_new journal).cells p ≡ Some c → slice_get (world_new journal).cells q ≡ Some d → roll_at e (rolls_of c.0.nodes) ≡ Some r → roll_at f (rolls_of d.0.nodes) ≡ Some s
    → called (names_of journal) r.own ≡ called (names_of journal) s.own → (p ≡ q) × (e ≡ f)
fresh_apart journal apart p q c d e f r s at of g h same =
    let one = fresh_at journal apart p c e r at g in
    let two = fresh_at journal apart q d f s of h in
    let is : r.own ≡ s.own = sym one.2.back ∙ ap (address_as (names_of journal)) same ∙ two.2.back in
    (one_host [] (nodes_of journal) p q one.0 two.0 one.1 two.1 (sym one.2.host ∙ ap (λ (a : Address). a.host) is ∙ two.2.host) (sym one.2.port ∙ ap (λ (a : Address). a.port) is ∙ two.2.port), sym one.2.id ∙ ap (λ (a : Address). a.id) is ∙ two.2.id)
