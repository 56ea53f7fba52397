-- The log of a journal: what a node makes of the events of its lines, in the journal's names.
use Rattle.std.specs.Prelude.{ℕ, List, [], ◌∷◌, ◌++◌, Option, Some, None, Result, Ok, Err}
use Rattle.ch_base.specs.declared.memory.Stop.{Stop}
use Rattle.ch_base.specs.declared.memory.Stop.TheVariants as stops
use Rattle.ch_ident.specs.declared.identifier.ProcessId.{ProcessId}
use Rattle.ch_ident.specs.declared.message.Message.{Message}
use Rattle.ch_model.specs.declared.name.ProcName.{ProcName}
use Rattle.ch_model.specs.declared.name.TargetName.{TargetName}
use Rattle.ch_model.specs.declared.name.TargetName.TheVariants.{Process}
use Rattle.ch_one_node.specs.declared.note.Note.{Note}
use Rattle.ch_one_node.specs.declared.note.Note.TheVariants as notes
use Rattle.ch_model.specs.declared.entry.Entry.{Entry}
use Rattle.ch_model.specs.declared.entry.Entry.TheVariants as entries
use Rattle.ch_model.specs.declared.entry.Verdict.TheVariants as verdicts
use Rattle.ch_model.specs.declared.line.Line.{Line}
use Rattle.ch_model.specs.declared.line.What.{What}
use Rattle.ch_model.specs.declared.line.What.TheVariants as lines
use Rattle.ch_one_node.specs.declared.command.Command.TheVariants as commands
use Rattle.ch_one_node.specs.declared.command.CommandError.{CommandError}
use Rattle.ch_one_node.specs.declared.command.CommandError.TheVariants as errors
use Rattle.ch_one_node.specs.States.{NodeState, World}
use Rattle.ch_one_node.specs.Node.{command_of, node_make, new_node, process_id}

infixl 10 ◌>>=◌
-- what follows a step, where no count stands at its last value
abbrev pub ◌>>=◌ : {A B : Type 0} → Result A Stop → (A → Result B Stop) → Result B Stop
(Ok x) >>= f = f x
(Err e) >>= f = Err e

-- the journal's name for a process of the node
abbrev pub name_of : World → ProcessId → ProcName
name_of world process = record { node = world.name; counter = process.counter }

-- The entries that notes stand for. The got of a message is told with the epoch and the index of the said before it.
abbrev pub entries_from : World → ℕ → ℕ → List Note → List Entry
entries_from world epoch index [] = []
entries_from world epoch index (notes.Made process ∷ rest) = entries.Made (name_of world process) None None ∷ entries_from world epoch index rest
entries_from world epoch index (notes.Said by to e k message ∷ rest) = entries.Said (name_of world by) (Process (name_of world to)) e k message.mark message.body ∷ entries_from world e k rest
entries_from world epoch index (notes.Got by to receiver ∷ rest) = entries.Got (name_of world by) (Process (name_of world to)) epoch index (Some (name_of world receiver)) ∷ entries_from world epoch index rest
entries_from world epoch index (notes.Took by message ∷ rest) = entries.Took (name_of world by) None message.mark message.body ∷ entries_from world epoch index rest
entries_from world epoch index (notes.Over process reason ∷ rest) = entries.Over (name_of world process) reason ∷ entries_from world epoch index rest

abbrev pub entries_of : World → List Note → List Entry
entries_of world rest = entries_from world 0 0 rest

-- a line's answer and what followed, and the world after it
abbrev pub answered : World → ℕ → Result (List Note × NodeState) CommandError → Result (List Entry × World) Stop
answered world number (Ok done) = Ok (entries.Line number verdicts.Ok ∷ entries_of world done.0, record world { node = done.1 })
answered world number (Err errors.Unknown) = Ok (entries.Line number verdicts.Unknown ∷ [], world)
answered world number (Err errors.Dead) = Ok (entries.Line number verdicts.Dead ∷ [], world)
answered world number (Err errors.Empty) = Ok (entries.Line number verdicts.Empty ∷ [], world)
answered world number (Err errors.OutOfMemory) = Err stops.OutOfMemory
answered world number (Err errors.Worn) = Err stops.Worn

-- what a `send` to this target does: only processes are sent to
abbrev pub sent_to : World → ℕ → ProcName → TargetName → Message → Result (List Entry × World) Stop
sent_to world number by (Process to) message = answered world number (command_of world.node by.counter (commands.Send (process_id world.node to.counter) message))
sent_to world number by to message = Ok ([], world)

-- what an event line does; no other line does anything here
abbrev pub event_of : World → ℕ → What → Result (List Entry × World) Stop
event_of world number (lines.Proc node) = answered world number (node_make world.node)
event_of world number (lines.Send by to mark body) = sent_to world number by to (record { mark = mark; body = body })
event_of world number (lines.Recv by mark) = answered world number (command_of world.node by.counter (commands.Receive mark))
event_of world number (lines.End by) = answered world number (command_of world.node by.counter commands.End)
event_of world number what = Ok ([], world)

abbrev pub some_world : List Entry × World → List Entry × Option World
some_world done = (done.0, Some done.1)

-- the world that a node's declaration makes; any other line makes none
abbrev pub declared_by : What → Option World
declared_by (lines.Node name address unique) = Some (record { name = name; node = new_node address unique })
declared_by what = None

-- one line: the node's declaration makes the world, and each event line is a step of it
abbrev pub world_step : Option World → Line → Result (List Entry × Option World) Stop
world_step None line = Ok ([], declared_by line.what)
world_step (Some world) line = do
  done ← event_of world line.number line.what
  Ok (some_world done)

-- the entries of some lines, from a world on; none where a count stands at its type's last value
abbrev pub log_from : Option World → List Line → Result (List Entry) Stop
log_from world [] = Ok []
log_from world (line ∷ rest) = do
  done ← world_step world line
  more ← log_from done.1 rest
  Ok (done.0 ++ more)

-- the log of a journal
abbrev pub log_of : List Line → Result (List Entry) Stop
log_of journal = log_from None journal
