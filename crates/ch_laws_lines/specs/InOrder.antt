-- Journals whose declarations stand first, and the grammars that read no others.
use Rattle.std.specs.Prelude.{◌≡◌, ℕ, Bool, true, false, List, ◌++◌, Some, Ok}
use Rattle.std.specs.List.{AllByRecursion}
use Rattle.ch_model.specs.declared.line.Line.{Line}
use Rattle.ch_model.specs.declared.line.What.{What}
use Rattle.ch_model.specs.declared.line.What.TheVariants as lines
use Rattle.ch_model.specs.LinesTold.{Told}
use Rattle.ch_model.specs.Lines.{Built, read_line}
use Rattle.ch_model.specs.World.{is_declaration}

-- a line that declares
abbrev pub Declares : Line → Type 0
Declares line = is_declaration line.what ≡ true

-- an event line
abbrev pub Happens : Line → Type 0
Happens line = is_declaration line.what ≡ false

-- a journal of declarations and then of events
pub record IsInOrder (journal : List Line) : Type 0 where
  pub declared : List Line
  pub events : List Line
  pub lines_are : journal ≡ declared ++ events
  pub declare : AllByRecursion Declares declared
  pub happen : AllByRecursion Happens events

-- a grammar by which a line that declares is refused once an event line came
abbrev pub DeclaresEarly : Built → Type 0
DeclaresEarly built = (told after : Told) (text : List ℕ) (what : What) → read_line built told text ≡ Ok (Some what, after) → is_declaration what ≡ true → told.started ≡ false

-- all is settled by this line
abbrev pub is_settling : What → Bool
is_settling lines.Settle = true
is_settling what = false

-- a line by which nothing is settled
abbrev pub SettlesNot : Line → Type 0
SettlesNot line = is_settling line.what ≡ false
