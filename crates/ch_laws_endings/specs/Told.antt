-- What is told at a cell of ends that no command asks for.
use Rattle.std.specs.Prelude.{List, [], ◌∷◌, Option, None}
use Rattle.ch_ident.specs.declared.identifier.ProcessId.{ProcessId}
use Rattle.ch_static.specs.declared.command.Command.TheVariants as commands
use Rattle.ch_model.specs.declared.local.LocalEntry.{LocalEntry}
use Rattle.ch_model.specs.declared.local.LocalEntry.TheVariants as local
use Rattle.ch_model.specs.declared.local.LocalEvent.{LocalEvent}
use Rattle.ch_model.specs.declared.local.LocalEvent.TheVariants as events
use Rattle.ch_laws_endings.specs.Causes.{spawned_by, HasCause}

-- each process that is told over was just made for a spawn; directly before them this one was, if any was
abbrev pub AllCaused : Option ProcessId → List LocalEntry → Type 0
AllCaused made [] = Unit {0}
AllCaused made (local.Note note ∷ rest) = HasCause made note × AllCaused (spawned_by note) rest
AllCaused made (local.Step step ∷ rest) = AllCaused None rest

-- the event is no command by which a process ends, fails or falls
abbrev pub EndsNobody : LocalEvent → Type 0
EndsNobody (events.Command end by commands.End) = ⊥
EndsNobody (events.Command end by (commands.Fail text)) = ⊥
EndsNobody (events.Command end by commands.Fall) = ⊥
EndsNobody event = Unit {0}
