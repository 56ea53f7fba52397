-- The one line that needs more than what it does itself.
use Rattle.std.specs.Prelude.{Bool, true, false}
use Rattle.ch_model.specs.declared.line.What.{What}
use Rattle.ch_model.specs.declared.line.What.TheVariants as lines

-- all is to settle
abbrev pub is_settle : What → Bool
is_settle lines.Settle = true
is_settle what = false
