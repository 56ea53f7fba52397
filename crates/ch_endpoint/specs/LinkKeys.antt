-- How the links of a host are found by their endpoints and peers.
use Rattle.std.specs.Prelude.{◌≡◌, ℕ, List, [], ◌∷◌, position, Some}
use Rattle.std.specs.Str.{bytes_eq}
use Rattle.ch_model.specs.HostState.{Link}

module _ {K : Type 0} (spelled : K → List ℕ) (hosts : List K) where
  -- the place of a host text among those of all peers is this
  abbrev pub IsHostAt : List ℕ → ℕ → Type 0
  IsHostAt host place = position (λ text. bytes_eq host (spelled text)) hosts ≡ Some place

  -- the key of a link: its endpoint, the place of its peer's host text, and its peer's port and number
  abbrev pub IsKey : ℕ × ℕ × ℕ × ℕ → Link → Type 0
  IsKey key link = (key.0 ≡ link.end) × IsHostAt link.peer.host key.1 × (key.2 ≡ link.peer.port) × (key.3 ≡ link.peer.id)

  -- each link's key stands at its place
  abbrev pub AreKeys : List (ℕ × ℕ × ℕ × ℕ) → List Link → Type 0
  AreKeys [] [] = Unit {0}
  AreKeys (key ∷ keys) (link ∷ links) = IsKey key link × AreKeys keys links
  AreKeys keys links = ⊥
