-- Which lines a law is about, and journals whose lines have rising numbers.
use Rattle.std.specs.Prelude.{ℕ, ◌+◌, ◌≤◌, ◌≡◌, Bool, true, false, List, [], ◌∷◌, nat_lt}
use Rattle.ch_model.specs.declared.line.Line.{Line}
use Rattle.ch_model.specs.declared.line.What.{What}
use Rattle.ch_model.specs.declared.line.What.TheVariants as lines

-- all lines are such
abbrev pub AllLines : (What → Bool) → List Line → Type 0
AllLines test [] = Unit {0}
AllLines test (line ∷ rest) = (test line.what ≡ true) × AllLines test rest

-- each line has a greater number than the one before it
abbrev pub AreNumbered : ℕ → List Line → Type 0
AreNumbered least [] = Unit {0}
AreNumbered least (line ∷ rest) = (least ≤ line.number) × AreNumbered (line.number + 1) rest

-- what the line does is answered by a node, a timer or the world: all but joining, refusing, feeding and losing, which the end's host answers
abbrev pub is_of_no_end : What → Bool
is_of_no_end (lines.Join sock) = false
is_of_no_end (lines.Refuse sock) = false
is_of_no_end (lines.Feed sock end count) = false
is_of_no_end (lines.Lose sock end) = false
is_of_no_end what = true

-- the line happens to a socket or a timer, or settles, or declares
abbrev pub is_of_network : What → Bool
is_of_network (lines.Node name address unique) = true
is_of_network (lines.Away name address unique) = true
is_of_network (lines.Label node label) = true
is_of_network (lines.Stranger name host) = true
is_of_network (lines.Join sock) = true
is_of_network (lines.Come sock) = true
is_of_network (lines.Refuse sock) = true
is_of_network (lines.Cut sock end) = true
is_of_network (lines.Lose sock end) = true
is_of_network (lines.Late node peer) = true
is_of_network (lines.Poke sock bytes) = true
is_of_network (lines.Quit sock) = true
is_of_network lines.Settle = true
is_of_network what = false

-- a line that feeds asks for a byte at least
abbrev pub feeds_some : What → Bool
feeds_some (lines.Feed sock end count) = nat_lt 0 count
feeds_some what = true

-- no dial is refused by the line: it refuses none, and doesn't settle
abbrev pub is_without_refusal : What → Bool
is_without_refusal (lines.Refuse sock) = false
is_without_refusal lines.Settle = false
is_without_refusal what = true
