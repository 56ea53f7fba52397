-- Labels in order of adding.
use Rattle.std.specs.Prelude.{ℕ, Bool, true, false, List, [], ◌∷◌, ◌++◌, position, is_some, Option, if◌then◌else◌}
use Rattle.std.specs.Str.{bytes_eq}

-- the place of a label in order of adding, where it stands
unfoldable pub place_of : List (List ℕ) → List ℕ → Option ℕ
place_of labels label = position (λ own. bytes_eq own label) labels

-- a label that stands already isn't added again; any other is added at the end
unfoldable pub add_of : List (List ℕ) → List ℕ → Bool × List (List ℕ)
add_of labels label = if is_some (place_of labels label) then (false, labels) else (true, labels ++ label ∷ [])
