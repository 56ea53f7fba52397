-- What a node tells of ends: each is asked for by a process's command, or is of a process whose label the node hasn't.
use Rattle.std.specs.Prelude.{◌≡◌, ℕ, List, [], ◌∷◌, Option, Some, None, Ok}
use Rattle.ch_ident.specs.declared.identifier.ProcessId.{ProcessId}
use Rattle.ch_ident.specs.declared.reason.Reason.{Reason}
use Rattle.ch_ident.specs.declared.reason.Reason.TheVariants as reasons
use Rattle.ch_static.specs.declared.command.Command.{Command}
use Rattle.ch_static.specs.declared.command.Command.TheVariants as commands
use Rattle.ch_model.specs.declared.act.Act.{Act}
use Rattle.ch_model.specs.declared.act.Act.TheVariants as acts
use Rattle.ch_model.specs.declared.note.Note.{Note}
use Rattle.ch_model.specs.declared.note.Note.TheVariants as notes
use Rattle.ch_model.specs.LifeRules.{unlabelled}
use Rattle.ch_model.specs.NodeIds.{process_id}
use Rattle.ch_model.specs.NodeRoom.{falling}
use Rattle.ch_model.specs.NodeState.{NodeState}

-- the process that is made for a spawn by the note
abbrev pub spawned_by : Note → Option ProcessId
spawned_by (notes.Made process (Some origin)) = Some process
spawned_by note = None

-- a process is over only if it is the one just made for a spawn, and for the reason of those whose label isn't known
abbrev pub HasCause : Option ProcessId → Note → Type 0
HasCause made (notes.Over process reason) = (made ≡ Some process) × (reason ≡ unlabelled)
HasCause made note = Unit {0}

-- each process that these acts tell over has that cause; directly before them this one was made for a spawn, if any was
abbrev pub AreCaused : Option ProcessId → List Act → Type 0
AreCaused made [] = Unit {0}
AreCaused made (acts.Note note ∷ rest) = HasCause made note × AreCaused (spawned_by note) rest
AreCaused made (act ∷ rest) = AreCaused None rest

-- this process is told over first, for this reason, and each that is told over after it has that cause
abbrev pub EndsFirst : ProcessId → Reason → List Act → Type 0
EndsFirst process reason (acts.Note (notes.Over ended why) ∷ rest) = (ended ≡ process) × (why ≡ reason) × AreCaused None rest
EndsFirst process reason done = ⊥

-- A command by which its process ends, fails or falls tells that first, and no other command does: what else is told over
-- was just made for a spawn.
abbrev pub AreAsked : NodeState → ℕ → Command → List Act → Type 0
AreAsked node by commands.End done = EndsFirst (process_id node by) reasons.Normal done
AreAsked node by (commands.Fail text) done = EndsFirst (process_id node by) (reasons.Exception text) done
AreAsked node by commands.Fall done = (text : List ℕ) × (falling node by ≡ Ok text) × EndsFirst (process_id node by) (reasons.Exception text) done
AreAsked node by command done = AreCaused None done
