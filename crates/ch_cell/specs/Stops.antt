-- How a step of a cell stops.
use Rattle.std.specs.Prelude.{◌≡◌, Option, Some, None, Result, Ok, Err}
use Rattle.ch_base.specs.declared.memory.Stop.{Stop}
use Rattle.ch_base.specs.declared.memory.Stop.TheVariants as stops
use Rattle.ch_model.specs.declared.step.EndError.{EndError}
use Rattle.ch_model.specs.declared.step.EndError.TheVariants as errors
use Rattle.ch_model.specs.declared.command.CommandError.{CommandError}
use Rattle.ch_model.specs.declared.command.CommandError.TheVariants as commands
use Rattle.ch_model.specs.declared.entry.Verdict.{Verdict}
use Rattle.ch_model.specs.declared.entry.Verdict.TheVariants as verdicts

-- it stops where the model does, but that want of memory may come at any step
abbrev pub Stops : {A : Type 0} → Stop → Result A Stop → Type 0
Stops stops.OutOfMemory given = Unit {0}
Stops e given = given ≡ Err e

-- A host's refusal stops a cell where a count can't grow or memory is wanting. No node asks what is refused for another reason.
unfoldable pub stop_of : EndError → Option Stop
stop_of errors.Worn = Some stops.Worn
stop_of errors.OutOfMemory = Some stops.OutOfMemory
stop_of e = None

-- what a node's refusal is answered as, but for a stop
unfoldable pub answer_of : CommandError → Result Verdict Stop
answer_of commands.Unknown = Ok verdicts.Unknown
answer_of commands.Dead = Ok verdicts.Dead
answer_of commands.Long = Ok verdicts.Long
answer_of commands.Full = Ok verdicts.Full
answer_of commands.Spent = Ok verdicts.Spent
answer_of commands.Taken = Ok verdicts.Taken
answer_of commands.NoName = Ok verdicts.NoName
answer_of commands.NoRef = Ok verdicts.NoRef
answer_of commands.Empty = Ok verdicts.Empty
answer_of commands.Hale = Ok verdicts.Hale
answer_of commands.OutOfMemory = Err stops.OutOfMemory
answer_of commands.Worn = Err stops.Worn
