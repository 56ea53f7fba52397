-- What a node makes of a process's commands on its messages and on its own end, with the refusals in the order in which
-- they are tried.
use Rattle.std.specs.Prelude.{ℕ, List, [], ◌∷◌, Some, None, Ok}
use Rattle.ch_base.specs.declared.event.Room.{Room}
use Rattle.ch_ident.specs.declared.message.Message.{Message}
use Rattle.ch_ident.specs.declared.reason.Reason.{Reason}
use Rattle.ch_ident.specs.declared.reason.Reason.TheVariants.{Exception}
use Rattle.ch_mail.specs.Mail.{take_of, take_port_of, open_port_of}
use Rattle.ch_static.specs.declared.target.Target.{Target}
use Rattle.ch_model.specs.declared.note.Note.TheVariants as notes
use Rattle.ch_model.specs.declared.act.Act.TheVariants as acts
use Rattle.ch_model.specs.NodeState.{NodeState}
use Rattle.ch_model.specs.NodeActs.{◌>>=◌, Answered, stopping, mailed}
use Rattle.ch_model.specs.NodeIds.{process_id}
use Rattle.ch_model.specs.NodePairs.{pair_of}
use Rattle.ch_model.specs.NodeEnds.{over}
use Rattle.ch_model.specs.NodeSends.{payload_of, say, reconnect}
use Rattle.ch_model.specs.NodeRoom.{acting, falling, known, fitting, room_to_send}

-- ---- messages

-- a process sends a message
unfoldable pub send_of : NodeState → ℕ → Target → Message → Room → Answered
send_of node by to said room = do
  live ← acting node by
  there ← known node to
  short ← fitting (payload_of to said)
  roomy ← room_to_send node (pair_of node.pairs by to) room
  stopping (say node (pair_of node.pairs by to) said)

-- a process reconnects to a target
unfoldable pub again_of : NodeState → ℕ → Target → Answered
again_of node by to = do
  live ← acting node by
  stopping (reconnect node (pair_of node.pairs by to))

-- a process takes the first message of a mark
unfoldable pub receive_of : NodeState → ℕ → List ℕ → Answered
receive_of node by mark = do
  live ← acting node by
  taken ← mailed (take_of node.mail by mark)
  Ok (acts.Note (notes.Took (process_id node by) None taken.0) ∷ [], record node { mail = taken.1 })

-- a process takes the first message of a port
unfoldable pub take_port : NodeState → ℕ → ℕ → Answered
take_port node by port = do
  live ← acting node by
  taken ← mailed (take_port_of node.mail by port)
  Ok (acts.Note (notes.Took (process_id node by) (Some port) taken.0) ∷ [], record node { mail = taken.1 })

-- a process opens its next port
unfoldable pub open_port : NodeState → ℕ → Answered
open_port node by = do
  live ← acting node by
  opened ← mailed (open_port_of node.mail by)
  Ok (acts.Note (notes.Port (record { process = process_id node by; port = opened.0 })) ∷ [], record node { mail = opened.1 })

-- ---- ends

-- a process is over by itself
unfoldable pub finish_of : NodeState → ℕ → Reason → Answered
finish_of node by reason = do
  live ← acting node by
  stopping (over node by reason)

-- a doomed process is over, by what doomed it
unfoldable pub fall_of : NodeState → ℕ → Answered
fall_of node by = do
  text ← falling node by
  stopping (over node by (Exception text))
