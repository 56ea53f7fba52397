-- What a node makes of a process's commands on other processes and on names, with the refusals in the order in which
-- they are tried.
use Rattle.std.specs.Prelude.{ℕ, List, [], ◌∷◌, Some, None, Ok, ok_or, if◌then◌else◌}
use Rattle.ch_base.specs.declared.address.Address.{Address}
use Rattle.ch_base.specs.declared.event.Room.{Room}
use Rattle.ch_ident.specs.declared.identifier.ProcessId.{ProcessId}
use Rattle.ch_ident.specs.declared.identifier.Ref.{Ref}
use Rattle.ch_ident.specs.declared.identifier.Identifier.TheVariants as ends
use Rattle.ch_ident.specs.declared.node_message.NodeMessage.{NodeMessage}
use Rattle.ch_ident.specs.declared.node_message.NodeMessage.TheVariants as messages
use Rattle.ch_ident.specs.Spelling as spelling
use Rattle.ch_static.specs.declared.closure.Closure.{Closure}
use Rattle.ch_watch.specs.declared.waiting.Kind.{Kind}
use Rattle.ch_watch.specs.declared.waiting.Kind.TheVariants as kinds
use Rattle.ch_watch.specs.Same.{node_of}
use Rattle.ch_watch.specs.Watches.{watch_of, unwatch_of, register_of, unregister_of}
use Rattle.ch_model.specs.declared.note.Note.TheVariants as notes
use Rattle.ch_model.specs.declared.act.Act.{Act}
use Rattle.ch_model.specs.declared.act.Act.TheVariants as acts
use Rattle.ch_model.specs.declared.command.CommandError.TheVariants.{NoRef}
use Rattle.ch_model.specs.NodeState.{NodeState}
use Rattle.ch_model.specs.NodeActs.{◌>>=◌, ◌and_then◌, Done, Answered, doing, noting, stopping, watching}
use Rattle.ch_model.specs.NodeIds.{process_id, reference_to, is_here}
use Rattle.ch_model.specs.NodeWatches.{watch_under}
use Rattle.ch_model.specs.NodeMessages.{ask}
use Rattle.ch_model.specs.NodeRoom.{acting, fitting, not_full}

-- ---- watches

-- what asks a node for a watch of this kind
abbrev pub watch_message : Kind → Ref → ProcessId → NodeMessage
watch_message kinds.Link watch target = messages.Link watch target
watch_message kind watch target = messages.Monitor watch target

-- what takes a watch of this kind back
abbrev pub unwatch_message : Kind → Ref → NodeMessage
unwatch_message kinds.Link watch = messages.Unlink watch
unwatch_message kind watch = messages.Unmonitor watch

-- a watch is opened, and its target's node is asked
unfoldable pub watch : NodeState → ℕ → Kind → ProcessId → Done
watch node by kind target = do
  opened ← watch_of node.watches by kind (ends.Process target)
  noting (notes.Watch (reference_to node opened.0) (process_id node by) target kind) (record node { watches = opened.1 })
      and_then (λ n. ask n target.node (watch_message kind (reference_to node opened.0) target))

-- a process monitors another, or links itself to it
unfoldable pub watch_by : NodeState → ℕ → Kind → ProcessId → Room → Answered
watch_by node by kind target room = do
  live ← acting node by
  roomy ← not_full node target.node room
  stopping (watch node by kind target)

-- a process takes a monitor or a link back
unfoldable pub unwatch_by : NodeState → ℕ → Ref → Room → Answered
unwatch_by node by given room = do
  live ← acting node by
  waiting ← ok_or (watch_under node by given) NoRef
  roomy ← not_full node (node_of waiting.target) room
  closed ← watching (unwatch_of node.watches by given.number)
  stopping (noting (notes.Unwatch given) (record node { watches = closed.1 })
      and_then (λ n. ask n (node_of waiting.target) (unwatch_message waiting.kind given)))

-- ---- exits, spawns and names

-- a process asks for another's doom
unfoldable pub doom_by : NodeState → ℕ → Address → NodeMessage → Room → Answered
doom_by node by at asked room = do
  live ← acting node by
  roomy ← not_full node at room
  stopping (ask node at asked)

-- a question to another node is told
abbrev pub asked_note : NodeState → ℕ → Address → Ref → List Act
asked_note node by at question = if is_here node at then [] else acts.Note (notes.Asked question (process_id node by) at) ∷ []

-- a number is opened for an answer of a node, which is asked
unfoldable pub question : NodeState → ℕ → Kind → Address → (Ref → NodeMessage) → Done
question node by kind at asked = do
  opened ← watch_of node.watches by kind (ends.Node at)
  doing (asked_note node by at (reference_to node opened.0)) (record node { watches = opened.1 })
      and_then (λ n. ask n at (asked (reference_to node opened.0)))

-- a process has another made at a node
unfoldable pub spawn_by : NodeState → ℕ → Address → Closure → Room → Answered
spawn_by node by at closure room = do
  live ← acting node by
  short ← fitting (spelling.message (messages.Spawn (reference_to node node.watches.next) closure.label closure.args))
  roomy ← not_full node at room
  stopping (question node by kinds.Spawn at (λ asked. messages.Spawn asked closure.label closure.args))

-- a process asks a node for which process a name stands
unfoldable pub whereis_by : NodeState → ℕ → Address → List ℕ → Room → Answered
whereis_by node by at name room = do
  live ← acting node by
  roomy ← not_full node at room
  stopping (question node by kinds.Ask at (λ asked. messages.WhereIs asked name))

-- a process registers a name of its node for itself
unfoldable pub register_by : NodeState → ℕ → List ℕ → Answered
register_by node by name = do
  live ← acting node by
  lists ← watching (register_of node.watches name by)
  Ok (acts.Note (notes.Named node.own name (Some (process_id node by))) ∷ [], record node { watches = lists })

-- a process takes a name of its node away
unfoldable pub unregister_by : NodeState → ℕ → List ℕ → Answered
unregister_by node by name = do
  live ← acting node by
  taken ← watching (unregister_of node.watches name)
  Ok (acts.Note (notes.Named node.own name None) ∷ [], record node { watches = taken.1 })
