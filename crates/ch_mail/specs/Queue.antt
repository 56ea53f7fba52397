-- Messages in order of arrival, and which is taken.
use Rattle.std.specs.Prelude.{ℕ, Bool, List, [], ◌∷◌, Option, Some, None, if◌then◌else◌}
use Rattle.std.specs.Str.{bytes_eq}
use Rattle.ch_ident.specs.declared.message.Message.{Message}

-- what is left where an element stands before the one that is taken out
abbrev pub after_passing : {A : Type 0} → A → Option (A × List A) → Option (A × List A)
after_passing passed None = None
after_passing passed (Some taken) = Some (taken.0, passed ∷ taken.1)

-- the first element that passes a test, and the others in their order; nothing where none passes
abbrev pub first_that : {A : Type 0} → (A → Bool) → List A → Option (A × List A)
first_that test [] = None
first_that test (x ∷ xs) = if test x then Some (x, xs) else after_passing x (first_that test xs)

-- the first message of a mark, and the others in their order
unfoldable pub first_of_mark : List ℕ → List Message → Option (Message × List Message)
first_of_mark mark messages = first_that (λ message. bytes_eq message.mark mark) messages

-- the first message, and the others in their order
unfoldable pub first_of : List Message → Option (Message × List Message)
first_of [] = None
first_of (message ∷ messages) = Some (message, messages)
