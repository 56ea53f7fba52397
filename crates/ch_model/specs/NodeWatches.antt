-- Monitors and links: which are open, how they arrive at the target's node, and how they are told.
use Rattle.std.specs.Prelude.{ℕ, Bool, true, false, ◌&&◌, ◌++◌, find, Option, Some, None, Result, Ok, Err, codes, if◌then◌else◌}
use Rattle.std.specs.Option.{option_map_or}
use Rattle.ch_ident.specs.declared.identifier.ProcessId.{ProcessId}
use Rattle.ch_ident.specs.declared.identifier.Ref.{Ref}
use Rattle.ch_ident.specs.declared.reason.Reason.{Reason}
use Rattle.ch_ident.specs.declared.reason.Reason.TheVariants.{UnknownId}
use Rattle.ch_ident.specs.declared.node_message.NodeMessage.TheVariants.{Died}
use Rattle.ch_ident.specs.Spelling as spelling
use Rattle.ch_watch.specs.declared.error.WatchError.{WatchError}
use Rattle.ch_watch.specs.declared.waiting.Kind.{Kind}
use Rattle.ch_watch.specs.declared.waiting.Kind.TheVariants.{Monitor, Link, Spawn, Ask}
use Rattle.ch_watch.specs.declared.waiting.Waiting.{Waiting}
use Rattle.ch_watch.specs.Open.{has_number, is_watch}
use Rattle.ch_watch.specs.Lists.{Lists}
use Rattle.ch_watch.specs.Watches.{told_of, waiting_of, arrive_of, forget_of}
use Rattle.ch_model.specs.declared.note.Note.TheVariants as notes
use Rattle.ch_model.specs.declared.step.Weight.TheVariants.{Free}
use Rattle.ch_model.specs.NodeState.{NodeState}
use Rattle.ch_model.specs.NodeActs.{◌>>=◌, ◌and_then◌, Done, silent, noting}
use Rattle.ch_model.specs.NodeIds.{is_here, is_living}
use Rattle.ch_model.specs.NodeConnections.{tell_node}
use Rattle.ch_model.specs.NodeLives.{doom, mail_to, link_text}

-- the monitor or link of a process that is open under a reference
unfoldable pub watch_under : NodeState → ℕ → Ref → Option Waiting
watch_under node by watch = if is_here node watch.node then waiting_of node.watches by watch.number else None

-- an answer for a number of the first kind is one for the second: an end is told to monitors and links alike
abbrev pub answers : Kind → Kind → Bool
answers Spawn Spawn = true
answers Spawn kind = false
answers Ask Ask = true
answers Ask kind = false
answers watch kind = is_watch kind

-- the number is open, and such an answer is for it
unfoldable pub is_awaited : Lists → Kind → ℕ → Bool
is_awaited lists kind number = option_map_or (λ waiting. answers kind waiting.kind) (find (has_number number) lists.waiting) false

-- what was open, and the node without it
abbrev pub without : NodeState → Result (Waiting × Lists) WatchError → Option (Waiting × NodeState)
without node (Ok closed) = Some (closed.0, record node { watches = closed.1 })
without node (Err e) = None

-- an answer closes the number of this node that it is for, where that is open and of its kind
unfoldable pub closing : NodeState → Kind → Ref → Option (Waiting × NodeState)
closing node kind asked = if is_here node asked.node && is_awaited node.watches kind asked.number then without node (told_of node.watches asked.number) else None

-- ---- a watch is told

-- the owner of a monitor gets a message
unfoldable pub monitor_told : NodeState → Ref → Reason → ℕ → Done
monitor_told node watch reason owner = do
  told ← mail_to node owner (codes "$died") (spelling.reference watch ++ spelling.reason reason)
  noting (notes.Told watch reason) told

-- the owner of a link is doomed
unfoldable pub link_told : NodeState → Ref → Reason → ℕ → Done
link_told node watch reason owner = noting (notes.Told watch reason) node and_then (λ n. doom n owner (link_text reason))

-- a watch that is closed is told, by its kind; a question is told nothing
abbrev pub told_as : Kind → NodeState → Ref → Reason → ℕ → Done
told_as Monitor node watch reason owner = monitor_told node watch reason owner
told_as Link node watch reason owner = link_told node watch reason owner
told_as Spawn node watch reason owner = silent node
told_as Ask node watch reason owner = silent node

-- a watch is told where it was open
abbrev pub told_closed : NodeState → Ref → Reason → Option (Waiting × NodeState) → Done
told_closed node watch reason None = silent node
told_closed node watch reason (Some closed) = told_as closed.0.kind closed.1 watch reason closed.0.owner

-- the end of its target closes a watch of this node and is told to its owner
unfoldable pub told : NodeState → Ref → Reason → Done
told node watch reason = told_closed node watch reason (closing node Monitor watch)

-- the watcher's node is told of an end, be it this one or another
unfoldable pub tell_end : NodeState → Ref → Reason → Done
tell_end node watch reason = if is_here node watch.node then told node watch reason else tell_node node watch.node (Died watch reason) Free

-- ---- a watch on a process of this node

-- the target of a watch isn't there
unfoldable pub absent : NodeState → Ref → Done
absent node watch = noting (notes.Absent watch) node and_then (λ n. tell_end n watch UnknownId)

-- a watch is kept where its target was made and isn't over
unfoldable pub watch_arrives : NodeState → Ref → ProcessId → Done
watch_arrives node watch target = if is_living node target then silent (record node { watches = arrive_of node.watches target.counter watch }) else absent node watch

-- a watch is taken back
unfoldable pub watch_leaves : NodeState → Ref → Done
watch_leaves node watch = silent (record node { watches = (forget_of node.watches watch).1 })
