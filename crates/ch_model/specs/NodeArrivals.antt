-- Connections that arrive at a node: what each is bound to by its opening message, and what comes on it; and how a
-- failed link with a peer leaves the node.
use Rattle.std.specs.Prelude.{ℕ, not, ◌&&◌, ◌==◌, List, [], ◌∷◌, ◌++◌, map, filter, find, Option, Some, None, Result, Ok, Err, if◌then◌else◌}
use Rattle.ch_base.specs.declared.address.Address.{Address}
use Rattle.ch_base.specs.declared.event.Why.{Why}
use Rattle.ch_ident.specs.declared.error.IdentError.{IdentError}
use Rattle.ch_ident.specs.declared.identifier.ProcessId.{ProcessId}
use Rattle.ch_ident.specs.declared.identifier.Identifier.{Identifier}
use Rattle.ch_ident.specs.declared.identifier.Identifier.TheVariants as ends
use Rattle.ch_ident.specs.declared.message.Message.{Message}
use Rattle.ch_ident.specs.declared.node_message.NodeMessage.{NodeMessage}
use Rattle.ch_ident.specs.declared.node_message.NodeMessage.TheVariants.{Opening, NamedSend}
use Rattle.ch_ident.specs.Reading.{message_of, user_of}
use Rattle.ch_static.specs.declared.target.Target.{Target}
use Rattle.ch_static.specs.declared.target.Target.TheVariants as targets
use Rattle.ch_watch.specs.declared.waiting.Waiting.{Waiting}
use Rattle.ch_watch.specs.Same.{node_of, same_node}
use Rattle.ch_watch.specs.Watches.{lost_of}
use Rattle.ch_model.specs.NodeState.{NodeState, Bound, Unread, Void, FromNode, ToNames, ToTarget, Arrived}
use Rattle.ch_model.specs.NodeActs.{◌>>=◌, Done, silent, each_in_turn}
use Rattle.ch_model.specs.NodeIds.{reference_to, is_here, is_living, is_port_here}
use Rattle.ch_model.specs.NodePairs.{lost_pairs}
use Rattle.ch_model.specs.NodeLives.{reason_of}
use Rattle.ch_model.specs.NodeWatches.{told_as}
use Rattle.ch_model.specs.NodeMessages.{handle, is_for_peer}
use Rattle.ch_model.specs.NodeSends.{deliver}

-- ---- what a connection is for

-- What goes from the one to the other: from node to node, from a process to names, or from a process to a process
-- or port that was made here and whose process isn't over. Nothing else goes.
unfoldable pub bound_between : NodeState → Identifier → Identifier → Bound
bound_between node (ends.Node from) (ends.Node to) = FromNode
bound_between node (ends.Process from) (ends.Node to) = ToNames from
bound_between node (ends.Process from) (ends.Process to) = if is_living node to then ToTarget from (targets.Process to) else Void
bound_between node (ends.Process from) (ends.Port to) = if is_living node to.process && is_port_here node to then ToTarget from (targets.Port to) else Void
bound_between node from to = Void

-- what a connection of a peer is for by its first payload: an opening message from something of the peer to
-- something of this node
abbrev pub bound_by : NodeState → Address → Result NodeMessage IdentError → Bound
bound_by node peer (Ok (Opening from to)) = if same_node (node_of from) peer && is_here node (node_of to) then bound_between node from to else Void
bound_by node peer read = Void

-- a connection, where it is that one, is bound so
abbrev pub rebound : ℕ → Bound → Arrived → Arrived
rebound conn bound arrived = if arrived.conn == conn then record arrived { bound = bound } else arrived

-- the node, with a connection that is bound so
unfoldable pub bind : NodeState → ℕ → Bound → NodeState
bind node conn bound = record node { arrived = map (rebound conn bound) node.arrived }

-- ---- what comes on it

-- a message of a peer's node
abbrev pub from_node : NodeState → Address → Result NodeMessage IdentError → Done
from_node node peer (Ok asked) = if is_for_peer peer asked then handle node asked else silent node
from_node node peer (Err e) = silent node

-- a message to a name
abbrev pub to_name : NodeState → ProcessId → Result NodeMessage IdentError → Done
to_name node from (Ok (NamedSend name mark body)) = deliver node from (targets.Named node.own name) (record { mark = mark; body = body })
to_name node from read = silent node

-- a message to a process or port
abbrev pub to_target : NodeState → ProcessId → Target → Result Message IdentError → Done
to_target node from to (Ok said) = deliver node from to said
to_target node from to (Err e) = silent node

-- a payload on a connection, by what that is for; what isn't read changes nothing
abbrev pub received_as : NodeState → Arrived → List ℕ → Bound → Done
received_as node arrived payload Unread = silent (bind node arrived.conn (bound_by node arrived.peer (message_of payload)))
received_as node arrived payload Void = silent node
received_as node arrived payload FromNode = from_node node arrived.peer (message_of payload)
received_as node arrived payload (ToNames from) = to_name node from (message_of payload)
received_as node arrived payload (ToTarget from to) = to_target node from to (user_of payload)

-- a payload on the connection that was found
abbrev pub received_on : NodeState → List ℕ → Option Arrived → Done
received_on node payload None = silent node
received_on node payload (Some arrived) = received_as node arrived payload arrived.bound

-- a payload has come on a connection
unfoldable pub received : NodeState → ℕ → List ℕ → Done
received node conn payload = received_on node payload (find (λ arrived. arrived.conn == conn) node.arrived)

-- a peer has opened a connection
unfoldable pub arrives : NodeState → ℕ → Address → NodeState
arrives node conn peer = record node { arrived = node.arrived ++ record { conn = conn; peer = peer; bound = Unread } ∷ [] }

-- a peer has closed a connection
unfoldable pub departs : NodeState → ℕ → NodeState
departs node conn = record node { arrived = filter (λ arrived. not (arrived.conn == conn)) node.arrived }

-- ---- a link fails

-- a number whose target is beyond a failed link is closed; a watch is told
unfoldable pub lost_told : Why → Waiting → NodeState → Done
lost_told why waiting node = told_as waiting.kind node (reference_to node waiting.number) (reason_of why) waiting.owner

-- The link with a peer failed: all connections with it are gone, the pairs that were open to it are broken, what its
-- processes watch here is forgotten, and each watch on something of it is told.
unfoldable pub peer_lost : NodeState → Address → Why → Done
peer_lost node peer why = do
  pairs ← lost_pairs peer node.pairs
  each_in_turn (lost_told why) (lost_of node.watches peer).0 (record node { watches = (lost_of node.watches peer).1; pairs = pairs; to_nodes = filter (λ known. not (same_node known.0 peer)) node.to_nodes; arrived = filter (λ arrived. not (same_node arrived.peer peer)) node.arrived })
