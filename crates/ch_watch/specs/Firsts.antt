-- The first element that passes a test, and the others.
use Rattle.std.specs.Prelude.{Bool, List, [], ◌∷◌, Option, Some, None, if◌then◌else◌}

-- what is left where an element stands before the one that is taken out
abbrev pub after_passing : {A : Type 0} → A → Option (A × List A) → Option (A × List A)
after_passing passed None = None
after_passing passed (Some taken) = Some (taken.0, passed ∷ taken.1)

-- the first element that passes a test, and the others in their order
abbrev pub first_that : {A : Type 0} → (A → Bool) → List A → Option (A × List A)
first_that test [] = None
first_that test (x ∷ xs) = if test x then Some (x, xs) else after_passing x (first_that test xs)
