-- The connections that a node opens, and its own connection to another node.
use Rattle.std.specs.Prelude.{ℕ, ◌+◌, ◌*◌, List, [], ◌∷◌, ◌++◌, find, Option, Some, None, Result, Ok, Err, nat_le, if◌then◌else◌}
use Rattle.std.specs.Option.{option_map}
use Rattle.ch_base.specs.declared.address.Address.{Address}
use Rattle.ch_base.specs.declared.memory.Stop.{Stop}
use Rattle.ch_base.specs.declared.memory.Stop.TheVariants as stops
use Rattle.ch_ident.specs.declared.identifier.Identifier.{Identifier}
use Rattle.ch_ident.specs.declared.identifier.Identifier.TheVariants as ends
use Rattle.ch_ident.specs.declared.node_message.NodeMessage.{NodeMessage}
use Rattle.ch_ident.specs.declared.node_message.NodeMessage.TheVariants.{Opening}
use Rattle.ch_ident.specs.Spelling.{message}
use Rattle.ch_mail.specs.Mail.{last_u64}
use Rattle.ch_watch.specs.Same.{same_node}
use Rattle.ch_model.specs.declared.act.Act.{Act}
use Rattle.ch_model.specs.declared.act.Act.TheVariants as acts
use Rattle.ch_model.specs.declared.step.Weight.{Weight}
use Rattle.ch_model.specs.declared.step.Weight.TheVariants.{Free}
use Rattle.ch_model.specs.NodeState.{NodeState}
use Rattle.ch_model.specs.NodeActs.{◌>>=◌, Done, doing}

-- the number of the next connection, while it fits in eight bytes
unfoldable pub drawn : NodeState → Result ℕ Stop
drawn node = if nat_le (2 * node.opened) last_u64 then Ok (2 * node.opened) else Err stops.Worn

-- a connection is opened, and told who sends on it and to whom
unfoldable pub opening : ℕ → Address → Identifier → Identifier → List Act
opening conn peer from to = acts.Open conn peer ∷ acts.Put conn (message (Opening from to)) Free ∷ []

-- the node's own connection to another, where it has one
unfoldable pub conn_to : NodeState → Address → Option ℕ
conn_to node peer = option_map (λ known. known.1) (find (λ known. same_node known.0 peer) node.to_nodes)

-- the node's own connection to another is opened, and a message sent on it
unfoldable pub tell_first : NodeState → Address → NodeMessage → Weight → Done
tell_first node peer said weight = do
  conn ← drawn node
  doing (opening conn peer (ends.Node node.own) (ends.Node peer) ++ acts.Put conn (message said) weight ∷ []) (record node { opened = node.opened + 1; to_nodes = node.to_nodes ++ (peer, conn) ∷ [] })

-- a message is sent on the node's own connection to another
abbrev pub tell_on : NodeState → Address → NodeMessage → Weight → Option ℕ → Done
tell_on node peer said weight None = tell_first node peer said weight
tell_on node peer said weight (Some conn) = doing (acts.Put conn (message said) weight ∷ []) node

-- a node sends a message to another, on a connection that it opens for the first of them
unfoldable pub tell_node : NodeState → Address → NodeMessage → Weight → Done
tell_node node peer said weight = tell_on node peer said weight (conn_to node peer)
