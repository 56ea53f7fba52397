-- How the names of sockets are kept in tables.
use Rattle.std.specs.Prelude.{◌≡◌, ℕ, Bool, ◌&&◌, ◌==◌, List, [], ◌∷◌, map, count_by, position, slice_get, Option, Some, None}
use Rattle.std.specs.Map.{lookup}
use Rattle.std.specs.Str.{bytes_eq}
use Rattle.ch_model.specs.declared.name.SockName.{SockName}

-- the places of the opener's and the target's text, and the number
abbrev pub Key : Type 0
Key = ℕ × ℕ × ℕ

module _ {K : Type 0} (spelled : K → List ℕ) (texts : List K) where
  abbrev pub spelled_or_none : Option K → List ℕ
  spelled_or_none None = []
  spelled_or_none (Some text) = spelled text

  -- the text at a place
  abbrev pub text_at : ℕ → List ℕ
  text_at place = spelled_or_none (slice_get texts place)

  -- the name that a key stands for
  abbrev pub name_at : Key → SockName
  name_at key = record { from = text_at key.0; to = text_at key.1; number = key.2 }

  abbrev pub names_at : List Key → List SockName
  names_at keys = map name_at keys

  -- the place of a text among all is this
  abbrev pub IsTextAt : List ℕ → ℕ → Type 0
  IsTextAt text place = position (λ k. bytes_eq text (spelled k)) texts ≡ Some place

  -- the places of a key are those of its texts
  abbrev pub IsKey : Key → Type 0
  IsKey key = IsTextAt (text_at key.0) key.0 × IsTextAt (text_at key.1) key.1

  abbrev pub AreKeys : List Key → Type 0
  AreKeys [] = Unit {0}
  AreKeys (key ∷ keys) = IsKey key × AreKeys keys

-- ---- counts

abbrev pub or_zero : Option ℕ → ℕ
or_zero None = 0
or_zero (Some n) = n

-- a pair of places is this one
abbrev pub is_pair : ℕ → ℕ → ℕ × ℕ → Bool
is_pair from to pair = (from == pair.0) && (to == pair.1)

-- a key is of these places
abbrev pub has_pair : ℕ → ℕ → Key → Bool
has_pair from to key = (from == key.0) && (to == key.1)

-- each pair of places has as many keys as are counted
abbrev pub AreCounts : List ((ℕ × ℕ) × ℕ) → List Key → Type 0
AreCounts counts keys = (from to : ℕ) → or_zero (lookup (is_pair from to) counts) ≡ count_by (has_pair from to) keys
