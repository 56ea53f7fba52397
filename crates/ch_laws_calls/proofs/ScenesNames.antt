-- Names that are declared once, each at an address of its own: what is called by one is at its address.
use Rattle.std.proofs.Common.{◌≡◌, ℕ, Bool, true, false, cond, List, [], ◌∷◌, refl, sym, ap, ◌∙◌, subst}
use Rattle.std.proofs.lemmas.Slice.Eq.{bytes_eq-Decides}
use Rattle.std.specs.List.{list_any}
use Rattle.std.specs.Prelude.{◌||◌, find, map, Some, None}
use Rattle.std.specs.Str.{bytes_eq}
use Rattle.ch_base.specs.declared.address.Address.{Address}
use Rattle.ch_watch.specs.Same.{same_node}
use Rattle.ch_model.specs.Fields.{is_node_name_of}
use Rattle.ch_model.specs.Naming.{Names, is_named, or_nobody, called}
use Rattle.ch_model.specs.WorldState.{Named}
use Rattle.ch_laws_log.proofs.Keys.{node_is}
use Rattle.ch_laws_log.proofs.Stored.{bytes_same}
use Rattle.ch_laws_many.specs.ManyLines.{AreNamedApart}
use Rattle.ch_laws_many.proofs.Addresses.{AllNamed}
use Rattle.ch_laws_calls.proofs.ScenesPlaces.{first_or, second_or}

-- what is found by a name has it
pub name_found : (known : Names) (name : List ℕ) (d : Named) → find (is_named name) known ≡ Some d → d.name ≡ name
name_found [] name d e = absurd cc
name_found (n ∷ rest) name d e = by_test (bytes_eq n.name name) refl e (name_found rest name d) where
  by_test : (b : Bool) → bytes_eq n.name name ≡ b → cond b (Some n) (find (is_named name) rest) ≡ Some d → (find (is_named name) rest ≡ Some d → d.name ≡ name) → d.name ≡ name
  by_test true h e more = let same : n ≡ d = cc in ap (λ (m : Named). m.name) (sym same) ∙ (bytes_eq-Decides n.name name).0 h
  by_test false h e more = more e

-- what is called so has a name that is declared
is_among : (known : Names) (a : Address) (name : List ℕ) → called known a ≡ name → (name ≡ [] → ⊥) → find (is_named name) known ≡ None → ⊥
is_among [] a name e some none = some (sym e)
is_among (n ∷ rest) a name e some none = by_tests (same_node n.address a) e (bytes_eq n.name name) refl none (is_among rest a name) where
  by_tests : (b : Bool) → (or_nobody (cond b (Some n) (find (λ (m : Named). same_node m.address a) rest))).name ≡ name → (c : Bool) → bytes_eq n.name name ≡ c → cond c (Some n) (find (is_named name) rest) ≡ None
      → (called rest a ≡ name → (name ≡ [] → ⊥) → find (is_named name) rest ≡ None → ⊥) → ⊥
  by_tests b e true h none more = absurd cc
  by_tests true e false h none more = let same : bytes_eq n.name name ≡ true = ap (λ (x : List ℕ). bytes_eq x name) e ∙ bytes_same name in absurd cc
  by_tests false e false h none more = more e some none

-- where no name is declared twice, it is the address of that name
pub called_is_at : (known : Names) (a : Address) (name : List ℕ) (d : Named) → AreNamedApart known → (name ≡ [] → ⊥) → find (is_named name) known ≡ Some d → called known a ≡ name → a ≡ d.address
called_is_at [] a name d apart some found e = absurd cc
called_is_at (n ∷ rest) a name d apart some found e = by_tests (same_node n.address a) refl e (bytes_eq n.name name) refl found (called_is_at rest a name d apart.1 some) where
  More : Type 0
  More = find (is_named name) rest ≡ Some d → called rest a ≡ name → a ≡ d.address

  by_tests : (b : Bool) → same_node n.address a ≡ b → (or_nobody (cond b (Some n) (find (λ (m : Named). same_node m.address a) rest))).name ≡ name → (c : Bool) → bytes_eq n.name name ≡ c → cond c (Some n) (find (is_named name) rest) ≡ Some d → More → a ≡ d.address
  by_tests true is e true h found more = let same : n ≡ d = cc in sym (node_is n.address a is) ∙ ap (λ (m : Named). m.address) same
  by_tests true is e false h found more = let same : bytes_eq n.name name ≡ true = ap (λ (x : List ℕ). bytes_eq x name) e ∙ bytes_same name in absurd cc
  by_tests false is e true h found more = absurd (is_among rest a name e some (subst (λ (x : List ℕ). find (is_named x) rest ≡ None) ((bytes_eq-Decides n.name name).0 h) apart.0))
  by_tests false is e false h found more = more found e

-- a declared name isn't empty
pub some_name : (known : Names) (name : List ℕ) (d : Named) → AllNamed known → find (is_named name) known ≡ Some d → d.name ≡ [] → ⊥
some_name [] name d all found empty = absurd cc
some_name (n ∷ rest) name d all found empty = by_test (bytes_eq n.name name) found (some_name rest name d all.2) where
  by_test : (b : Bool) → cond b (Some n) (find (is_named name) rest) ≡ Some d → (find (is_named name) rest ≡ Some d → d.name ≡ [] → ⊥) → ⊥
  by_test true found more =
      let same : n ≡ d = cc in
      let no : is_node_name_of [] ≡ true = ap is_node_name_of (sym empty ∙ ap (λ (m : Named). m.name) (sym same)) ∙ all.0 in
      absurd cc
  by_test false found more = more found empty

-- the host text of a declared name is among those of all
pub text_among : (known : Names) (name : List ℕ) (d : Named) → find (is_named name) known ≡ Some d → list_any (bytes_eq d.address.host) (map (λ (m : Named). m.address.host) known) ≡ true
text_among [] name d found = absurd cc
text_among (n ∷ rest) name d found = by_test (bytes_eq n.name name) found (text_among rest name d) where
  by_test : (b : Bool) → cond b (Some n) (find (is_named name) rest) ≡ Some d → (find (is_named name) rest ≡ Some d → list_any (bytes_eq d.address.host) (map (λ (m : Named). m.address.host) rest) ≡ true)
      → (bytes_eq d.address.host n.address.host || list_any (bytes_eq d.address.host) (map (λ (m : Named). m.address.host) rest)) ≡ true
  by_test true found more = let same : n ≡ d = cc in first_or (bytes_eq d.address.host n.address.host) (list_any (bytes_eq d.address.host) (map (λ (m : Named). m.address.host) rest)) (ap (λ (m : Named). bytes_eq d.address.host m.address.host) same ∙ bytes_same d.address.host)
  by_test false found more = second_or (bytes_eq d.address.host n.address.host) (list_any (bytes_eq d.address.host) (map (λ (m : Named). m.address.host) rest)) (more found)
