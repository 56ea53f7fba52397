-- What a node does that another, or one of its own processes, asks for: a process is made, a name is looked up, a
-- process is doomed; and what the asking node makes of the answers.
use Rattle.std.specs.Prelude.{ℕ, Bool, ◌&&◌, List, ◌++◌, length, Option, Some, None, is_some, nat_le, codes, if◌then◌else◌}
use Rattle.std.specs.Option.{option_map}
use Rattle.ch_ident.specs.declared.identifier.ProcessId.{ProcessId}
use Rattle.ch_ident.specs.declared.identifier.Ref.{Ref}
use Rattle.ch_ident.specs.declared.reason.Reason.TheVariants.{Exception}
use Rattle.ch_ident.specs.declared.node_message.NodeMessage.TheVariants as messages
use Rattle.ch_ident.specs.Spelling as spelling
use Rattle.ch_mail.specs.Mail.{make_of}
use Rattle.ch_static.specs.Labels.{place_of}
use Rattle.ch_watch.specs.declared.waiting.Kind.TheVariants.{Spawn, Ask}
use Rattle.ch_watch.specs.declared.waiting.Waiting.{Waiting}
use Rattle.ch_watch.specs.Watches.{find_of}
use Rattle.ch_model.specs.declared.note.Note.TheVariants as notes
use Rattle.ch_model.specs.declared.note.Origin.{Origin}
use Rattle.ch_model.specs.declared.step.Weight.TheVariants.{Free}
use Rattle.ch_model.specs.NodeState.{NodeState}
use Rattle.ch_model.specs.NodeActs.{◌>>=◌, ◌and_then◌, Done, silent, noting}
use Rattle.ch_model.specs.NodeIds.{process_id, is_here, is_own}
use Rattle.ch_model.specs.NodeConnections.{tell_node}
use Rattle.ch_model.specs.NodeLives.{with_process, doom, mail_to}
use Rattle.ch_model.specs.NodeWatches.{closing}
use Rattle.ch_model.specs.NodeEnds.{over}

-- ---- a spawn

-- the process that asked for a spawn gets the new id
abbrev pub spawned_closed : NodeState → Ref → ProcessId → Option (Waiting × NodeState) → Done
spawned_closed node question process None = silent node
spawned_closed node question process (Some closed) = do
  told ← mail_to closed.1 closed.0.owner (codes "$spawned") (spelling.reference question ++ spelling.process process)
  noting (notes.Spawned question process) told

-- the answer to a spawn arrives
unfoldable pub spawned : NodeState → Ref → ProcessId → Done
spawned node question process = spawned_closed node question process (closing node Spawn question)

-- the asking node is told the new id
unfoldable pub tell_spawned : NodeState → Ref → ProcessId → Done
tell_spawned node question process = if is_here node question.node then spawned node question process else tell_node node question.node (messages.DidSpawn question process) Free

-- a new process is over at once where the node's table lacks its label
unfoldable pub fail_unlabelled : NodeState → List ℕ → ℕ → Done
fail_unlabelled node label number = if is_some (place_of node.labels label) then silent node else over node number (Exception (codes "unknown label"))

-- the spawn that makes a process
abbrev pub origin_of : Ref → List ℕ → Origin
origin_of question label = record { spawn = question; label = label }

-- a process is made for a spawn
unfoldable pub spawn_arrives : NodeState → Ref → List ℕ → List ℕ → Done
spawn_arrives node question label args = do
  made ← make_of node.mail
  noting (notes.Made (process_id node made.0) (Some (origin_of question label))) (with_process node made.1 args)
      and_then (λ n. fail_unlabelled n label made.0)
      and_then (λ n. tell_spawned n question (process_id n made.0))

-- ---- a question for a name

-- the process that asked for a name gets what was found
abbrev pub found_closed : NodeState → Ref → Option ProcessId → Option (Waiting × NodeState) → Done
found_closed node question at None = silent node
found_closed node question at (Some closed) = do
  told ← mail_to closed.1 closed.0.owner (codes "$isat") (spelling.reference question ++ spelling.found at)
  noting (notes.IsAt question at) told

-- the answer to a question for a name arrives
unfoldable pub found : NodeState → Ref → Option ProcessId → Done
found node question at = found_closed node question at (closing node Ask question)

-- the asking node is told what was found
unfoldable pub tell_found : NodeState → Ref → Option ProcessId → Done
tell_found node question at = if is_here node question.node then found node question at else tell_node node question.node (messages.IsAt question at) Free

-- the process for which a name of the node stands
unfoldable pub standing : NodeState → List ℕ → Option ProcessId
standing node name = option_map (process_id node) (find_of node.watches name)

-- a name is looked up
unfoldable pub question_arrives : NodeState → Ref → List ℕ → Done
question_arrives node question name = tell_found node question (standing node name)

-- ---- an exit or a kill

-- a text that may doom: 1 to 200 bytes
abbrev pub may_doom : List ℕ → Bool
may_doom text = nat_le 1 (length text) && nat_le (length text) 200

-- a process of this node is doomed, by a text that may
unfoldable pub doom_arrives : NodeState → ProcessId → List ℕ → List ℕ → Done
doom_arrives node target given text = if is_own node target && may_doom given then doom node target.counter text else silent node
