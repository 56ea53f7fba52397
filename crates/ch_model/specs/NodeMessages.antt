-- What a node makes of a message from node to node, and how a command sends one.
use Rattle.std.specs.Prelude.{Bool, true, None, if◌then◌else◌}
use Rattle.ch_base.specs.declared.address.Address.{Address}
use Rattle.ch_ident.specs.declared.node_message.NodeMessage.{NodeMessage}
use Rattle.ch_ident.specs.declared.node_message.NodeMessage.TheVariants.{Monitor, Unmonitor, Link, Unlink, Spawn, DidSpawn, Died, WhereIs, IsAt, Exit, Kill}
use Rattle.ch_watch.specs.Same.{same_node}
use Rattle.ch_model.specs.declared.step.Weight.TheVariants.{Counted}
use Rattle.ch_model.specs.NodeState.{NodeState}
use Rattle.ch_model.specs.NodeActs.{Done, silent}
use Rattle.ch_model.specs.NodeIds.{is_here}
use Rattle.ch_model.specs.NodeConnections.{tell_node}
use Rattle.ch_model.specs.NodeLives.{exit_text, kill_text}
use Rattle.ch_model.specs.NodeWatches.{watch_arrives, watch_leaves, told}
use Rattle.ch_model.specs.NodeAsks.{spawn_arrives, spawned, question_arrives, found, doom_arrives}

-- A node does what a message asks, or takes the answer that it is. What opens a connection or goes to a name is no
-- message to the node.
unfoldable pub handle : NodeState → NodeMessage → Done
handle node (Monitor watch target) = watch_arrives node watch target
handle node (Unmonitor watch) = watch_leaves node watch
handle node (Link watch target) = watch_arrives node watch target
handle node (Unlink watch) = watch_leaves node watch
handle node (Spawn question label args) = spawn_arrives node question label args
handle node (DidSpawn question process) = spawned node question process
handle node (Died watch reason) = told node watch reason
handle node (WhereIs question name) = question_arrives node question name
handle node (IsAt question at) = found node question at
handle node (Exit target text) = doom_arrives node target text (exit_text text)
handle node (Kill target text) = doom_arrives node target text (kill_text text)
handle node other = silent node

-- A peer asks under references of its own alone. An answer is tried by the number that it closes, and an exit or a
-- kill has no reference.
unfoldable pub is_for_peer : Address → NodeMessage → Bool
is_for_peer peer (Monitor watch target) = same_node watch.node peer
is_for_peer peer (Unmonitor watch) = same_node watch.node peer
is_for_peer peer (Link watch target) = same_node watch.node peer
is_for_peer peer (Unlink watch) = same_node watch.node peer
is_for_peer peer (Spawn question label args) = same_node question.node peer
is_for_peer peer (WhereIs question name) = same_node question.node peer
is_for_peer peer message = true

-- a message of a command goes to another node, or is done at once where it is for this one
unfoldable pub ask : NodeState → Address → NodeMessage → Done
ask node at asked = if is_here node at then handle node asked else tell_node node at asked (Counted None)
