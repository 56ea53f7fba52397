-- How a message is said, how it goes on its way, and how it is got; and how a pair is reconnected.
use Rattle.std.specs.Prelude.{ℕ, ◌+◌, List, [], ◌∷◌, ◌++◌, map, option_to_list, Option, Some, None, Result, Ok, Err, if◌then◌else◌}
use Rattle.ch_base.specs.declared.memory.Stop.TheVariants as stops
use Rattle.ch_ident.specs.declared.identifier.ProcessId.{ProcessId}
use Rattle.ch_ident.specs.declared.identifier.Identifier.TheVariants as ends
use Rattle.ch_ident.specs.declared.message.Message.{Message}
use Rattle.ch_ident.specs.declared.node_message.NodeMessage.TheVariants.{NamedSend}
use Rattle.ch_ident.specs.Spelling as spelling
use Rattle.ch_mail.specs.declared.error.MailError.{MailError}
use Rattle.ch_mail.specs.declared.error.MailError.TheVariants as mails
use Rattle.ch_mail.specs.Process.{Process}
use Rattle.ch_mail.specs.Mail.{put_of}
use Rattle.ch_static.specs.declared.target.Target.{Target}
use Rattle.ch_static.specs.declared.target.Target.TheVariants as targets
use Rattle.ch_model.specs.declared.note.Note.TheVariants as notes
use Rattle.ch_model.specs.declared.act.Act.TheVariants as acts
use Rattle.ch_model.specs.declared.step.Weight.{Weight}
use Rattle.ch_model.specs.declared.step.Weight.TheVariants.{Counted}
use Rattle.ch_model.specs.NodeState.{NodeState, Pair, Mark, Unopened, Opened, Broken}
use Rattle.ch_model.specs.NodeActs.{◌>>=◌, ◌and_then◌, Done, doing, silent, noting, growing}
use Rattle.ch_model.specs.NodeIds.{process_id, is_here, target_at, opened_to}
use Rattle.ch_model.specs.NodePairs.{keeping, next_epoch, conn_of}
use Rattle.ch_model.specs.NodeConnections.{drawn, opening}
use Rattle.ch_model.specs.NodeAsks.{standing}

-- ---- a message is got

-- a message was put by the receiver, or goes nowhere where the receiver gets nothing more
abbrev pub got_put : NodeState → ProcessId → Target → ProcessId → Result (List Process) MailError → Done
got_put node from to receiver (Ok mail) = noting (notes.Got from to (Some receiver)) (record node { mail = mail })
got_put node from to receiver (Err mails.NotLive) = silent node
got_put node from to receiver (Err mails.Empty) = silent node
got_put node from to receiver (Err mails.OutOfMemory) = Err stops.OutOfMemory
got_put node from to receiver (Err mails.Worn) = Err stops.Worn

-- a process of this node gets a message, in its mailbox or in a port
unfoldable pub get : NodeState → ProcessId → Target → ProcessId → Option ℕ → Message → Done
get node from to receiver port said = got_put node from to receiver (put_of node.mail receiver.counter port said)

-- whoever stands for the name gets the message, and else nobody
abbrev pub get_standing : NodeState → ProcessId → Target → Message → Option ProcessId → Done
get_standing node from to said None = noting (notes.Got from to None) node
get_standing node from to said (Some receiver) = get node from to receiver None said

-- a message is got at its target, which is of this node
unfoldable pub deliver : NodeState → ProcessId → Target → Message → Done
deliver node from (targets.Process process) said = get node from (targets.Process process) process None said
deliver node from (targets.Port port) said = get node from (targets.Port port) port.process (Some port.port) said
deliver node from (targets.Named at name) said = get_standing node from (targets.Named at name) said (standing node name)

-- ---- a message is said

-- the payload of a message: with its name, where it goes to one
abbrev pub payload_of : Target → Message → List ℕ
payload_of (targets.Named at name) said = spelling.message (NamedSend name said.mark said.body)
payload_of to said = spelling.user said

-- how a said message waits for its link
abbrev pub weight_of : ℕ → ℕ → Weight
weight_of epoch index = Counted (Some (record { epoch = epoch; index = index }))

-- the first message of a pair's epoch opens its connection
unfoldable pub send_first : NodeState → Pair → Message → Weight → Done
send_first node pair said weight = do
  conn ← drawn node
  doing (opening conn (target_at pair.to) (ends.Process (process_id node pair.by)) (opened_to pair.to) ++ acts.Put conn (payload_of pair.to said) weight ∷ []) (record (keeping node (record pair { mark = Opened conn })) { opened = node.opened + 1 })

-- a message to another node goes on its pair's connection, and nowhere where that broke
abbrev pub send_on : NodeState → Pair → Message → Weight → Mark → Done
send_on node pair said weight Unopened = send_first node pair said weight
send_on node pair said weight (Opened conn) = doing (acts.Put conn (payload_of pair.to said) weight ∷ []) node
send_on node pair said weight Broken = silent node

-- a said message goes on its way: at once to its target where that is of this node
unfoldable pub carry : NodeState → Pair → Message → Weight → Done
carry node pair said weight = if is_here node (target_at pair.to) then deliver node (process_id node pair.by) pair.to said else send_on node pair said weight pair.mark

-- a pair after one message more
abbrev pub with_said : Pair → Pair
with_said pair = record pair { index = pair.index + 1 }

-- a message is said as the next of its pair and epoch, and goes on its way
unfoldable pub say : NodeState → Pair → Message → Done
say node pair said = do
  index ← growing pair.index
  noting (notes.Said (process_id node pair.by) pair.to pair.epoch index said) (keeping node (with_said pair))
      and_then (λ n. carry n (with_said pair) said (weight_of pair.epoch index))

-- ---- a pair is reconnected

-- the pair's next epoch begins, and its connection is closed
unfoldable pub reconnect : NodeState → Pair → Done
reconnect node pair = do
  next ← next_epoch pair
  doing (acts.Note (notes.Again (process_id node pair.by) pair.to next.epoch) ∷ map (λ conn. acts.Close conn) (option_to_list (conn_of pair.mark))) (keeping node next)
