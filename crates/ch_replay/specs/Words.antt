-- The words that the program is started with.
use Rattle.std.specs.Prelude.{Bool, false, List, [], ◌∷◌, codes, string_bytes}
use Rattle.std.specs.Str.{bytes_eq}
use Rattle.std.specs.declared.string.String.{String}

-- the one word `run`
abbrev pub are_run_of : {A : Type 0} → List (String A) → Bool
are_run_of [] = false
are_run_of (word ∷ []) = bytes_eq (string_bytes word) (codes "run")
are_run_of (word ∷ other ∷ rest) = false
