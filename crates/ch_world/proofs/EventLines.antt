-- A line that is no declaration and not `settle` does what it does, and no more.
use Rattle.std.proofs.Common.{◌≡◌, ℕ, Bool, true, false, List, Ok, refl, sym, subst}
use Rattle.std.specs.Prelude.{Result, MatchResult}
use Rattle.ch_base.specs.declared.memory.Stop.{Stop}
use Rattle.ch_cell.specs.Stops.{Stops}
use Rattle.ch_model.specs.declared.entry.Entry.{Entry}
use Rattle.ch_model.specs.declared.entry.Verdict.{Verdict}
use Rattle.ch_model.specs.declared.line.What.{What}
use Rattle.ch_model.specs.declared.line.What.TheVariants as lines
use Rattle.ch_model.specs.WorldState.{World}
use Rattle.ch_model.specs.WorldLines.{knocks, other_line, line_done}
use Rattle.ch_model.specs.World.{line_answered, event_step}
use Rattle.ch_world.specs.Lines.{is_settle}

pub event_is : (number : ℕ) (what : What) (world : World) → is_settle what ≡ false → event_step number what world ≡ line_answered number (line_done what world)
event_is number lines.Settle world e = absurd cc
event_is number what world e = refl

-- a stranger's socket, by its line
pub knock_line : (what : What) (stranger node : List ℕ) (world next : World) (result : Result (Verdict × List Entry) Stop) → what ≡ lines.Knock stranger node
    → MatchResult result (λ answer. knocks stranger node world ≡ Ok (answer, next)) (λ e. Stops e (knocks stranger node world))
    → MatchResult result (λ answer. other_line what world ≡ Ok (answer, next)) (λ e. Stops e (other_line what world))
knock_line what stranger node world next result e m = subst (λ (w : What). MatchResult result (λ answer. other_line w world ≡ Ok (answer, next)) (λ e. Stops e (other_line w world))) (sym e) m
