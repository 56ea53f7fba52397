-- Whether a process may act, and whether what its command sends finds room.
use Rattle.std.specs.Prelude.{ℕ, ◌-◌, Bool, true, false, not, ◌&&◌, ◌||◌, List, length, Option, Some, None, Result, Ok, Err, is_some, nat_le, if◌then◌else◌}
use Rattle.ch_base.specs.declared.address.Address.{Address}
use Rattle.ch_base.specs.declared.event.Room.{Room}
use Rattle.ch_wire.specs.declared.TheConstants.{MOST_PAYLOAD_BYTES}
use Rattle.ch_mail.specs.declared.life.Life.{Life}
use Rattle.ch_mail.specs.declared.life.Life.TheVariants as lives
use Rattle.ch_mail.specs.Mail.{life_of}
use Rattle.ch_static.specs.declared.target.Target.{Target}
use Rattle.ch_static.specs.declared.target.Target.TheVariants as targets
use Rattle.ch_model.specs.declared.command.CommandError.{CommandError}
use Rattle.ch_model.specs.declared.command.CommandError.TheVariants.{Unknown, Dead, Hale, Long, Full, Spent}
use Rattle.ch_model.specs.NodeState.{NodeState, Pair, Mark, Unopened, Broken}
use Rattle.ch_model.specs.NodeActs.{◌>>=◌}
use Rattle.ch_model.specs.NodeIds.{is_here, life_here, is_port_here, target_at}
use Rattle.ch_model.specs.HostCalls.{most_waiting}
use Rattle.ch_model.specs.NodeConnections.{conn_to}

-- how many connections may be opened on a socket, besides the one from node to node
abbrev pub most_opened : ℕ
most_opened = 65535

-- a process of that life acts where it is live
abbrev pub acting_as : Option Life → Result (Unit {0}) CommandError
acting_as None = Err Unknown
acting_as (Some lives.Live) = Ok tt
acting_as (Some (lives.Doomed text)) = Err Dead
acting_as (Some (lives.Over reason)) = Err Dead

-- the process was made, and acts
unfoldable pub acting : NodeState → ℕ → Result (Unit {0}) CommandError
acting node by = acting_as (life_of node.mail by)

-- the text that doomed a process of that life
abbrev pub falling_as : Option Life → Result (List ℕ) CommandError
falling_as None = Err Unknown
falling_as (Some lives.Live) = Err Hale
falling_as (Some (lives.Doomed text)) = Ok text
falling_as (Some (lives.Over reason)) = Err Dead

-- the text by which the process may fall
unfoldable pub falling : NodeState → ℕ → Result (List ℕ) CommandError
falling node by = falling_as (life_of node.mail by)

-- a process or port of this node was made; a name needs none, and of another node it isn't known
unfoldable pub is_known : NodeState → Target → Bool
is_known node (targets.Process process) = not (is_here node process.node) || is_some (life_here node process)
is_known node (targets.Port port) = not (is_here node port.process.node) || is_port_here node port
is_known node (targets.Named at name) = true

-- what is sent to may be there
unfoldable pub known : NodeState → Target → Result (Unit {0}) CommandError
known node to = if is_known node to then Ok tt else Err Unknown

-- the most bytes of a payload
abbrev pub longest : ℕ
longest = MOST_PAYLOAD_BYTES

-- a payload fits in one frame
unfoldable pub fitting : List ℕ → Result (Unit {0}) CommandError
fitting payload = if nat_le (length payload) longest then Ok tt else Err Long

-- the link is up, or one more payload may wait for it; to the node itself nothing waits
unfoldable pub not_full : NodeState → Address → Room → Result (Unit {0}) CommandError
not_full node at room = if is_here node at || (room.up || not (nat_le most_waiting room.waits)) then Ok tt else Err Full

-- how many connections were opened on the socket to a peer, besides the node's own
unfoldable pub opened_besides : NodeState → Address → Room → ℕ
opened_besides node peer room = if is_some (conn_to node peer) then room.given - 1 else room.given

-- the mark says that a connection has to be opened
abbrev pub is_unopened : Mark → Bool
is_unopened Unopened = true
is_unopened mark = false

-- the mark says that nothing goes
abbrev pub is_broken : Mark → Bool
is_broken Broken = true
is_broken mark = false

-- a connection that has to be opened can be
unfoldable pub not_spent : NodeState → Pair → Room → Result (Unit {0}) CommandError
not_spent node pair room = if is_unopened pair.mark && nat_le most_opened (opened_besides node (target_at pair.to) room) then Err Spent else Ok tt

-- a message to another node finds room, which it doesn't need where it goes nowhere
unfoldable pub room_to_send : NodeState → Pair → Room → Result (Unit {0}) CommandError
room_to_send node pair room = if is_here node (target_at pair.to) || is_broken pair.mark then Ok tt else (do
  waits ← not_full node (target_at pair.to) room
  not_spent node pair room)
