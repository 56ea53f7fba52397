-- What a reading of a journal knows.
use Rattle.std.specs.Prelude.{ℕ, Option, None}
use Rattle.ch_model.specs.declared.refusal.BadKind.{BadKind}
use Rattle.ch_model.specs.LinesTold.{Told, untold}
use Rattle.ch_lines.specs.declared.grammar.Grammar.{Grammar}

-- which lines are known, what the lines so far have told, how many they are, and the number and kind of the line that was refused
pub record ReadingState : Type 0 where
  pub grammar : Grammar
  pub told : Told
  pub number : ℕ
  pub refused : Option (ℕ × BadKind)

-- before the first line
abbrev pub unread : Grammar → ReadingState
unread grammar = record { grammar = grammar; told = untold; number = 0; refused = None }
