-- Tables by key of the declared names: what is looked up is the place at which a walk would find it.
use Rattle.std.specs.Prelude.{◌≡◌, ℕ, suc, Bool, List, [], ◌∷◌, ◌++◌, is_some, option_map, Option, Some, None, if◌then◌else◌}
use Rattle.std.specs.Map.{lookup}
use Rattle.std.specs.Str.{bytes_eq}
use Rattle.ch_base.specs.declared.address.Address.{Address}
use Rattle.ch_watch.specs.Same.{same_node}
use Rattle.ch_model.specs.WorldState.{Named}
use Rattle.ch_model.specs.Naming.{is_named}
use Rattle.ch_names.specs.declared.spot.Spot.{Spot}

-- the address of a key
abbrev pub address_of : Spot → Address
address_of spot = record { host = spot.host.items; port = spot.port; id = spot.id }

-- a name stands for this address
abbrev pub is_at : Address → Named → Bool
is_at address named = same_node named.address address

-- the place of the first that passes a test
abbrev pub first_place : {X : Type 0} → (X → Bool) → List X → Option ℕ
first_place p [] = None
first_place p (x ∷ xs) = if p x then Some 0 else option_map suc (first_place p xs)

-- the entries once a value was put under a key where none stood
abbrev pub first_entry : {K : Type 0} → (K → K → Bool) → List (K × ℕ) → K → ℕ → List (K × ℕ)
first_entry eq entries key place = if is_some (lookup (eq key) entries) then entries else entries ++ (key, place) ∷ []

-- what is looked up is the place of the first that has it
abbrev pub Finds : {K Q : Type 0} → (Q → K → Bool) → (Q → Named → Bool) → List (K × ℕ) → List Named → Type 0
Finds {K} {Q} is has entries rows = (q : Q) → lookup (is q) entries ≡ first_place (has q) rows

-- The tables of these names: by name, whose keys spell it, and by address.
pub record AreTables {K : Type 0} (spelled : K → List ℕ) (names : List (K × ℕ)) (addresses : List (Spot × ℕ)) (rows : List Named) : Type 0 where
  pub by_name : Finds (λ (name : List ℕ) k. bytes_eq name (spelled k)) is_named names rows
  pub by_address : Finds (λ (address : Address) spot. same_node address (address_of spot)) is_at addresses rows
