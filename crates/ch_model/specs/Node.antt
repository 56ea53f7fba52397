-- A node: how it begins, what it makes of each command of its processes and of each event of its endpoint, how it is
-- shut, and what may be read of it.
use Rattle.std.specs.Prelude.{ℕ, true, false, List, [], ◌∷◌, map, Option, Some, None, Ok, Err, unwrap_or, slice_get, if◌then◌else◌}
use Rattle.std.specs.Option.{option_map}
use Rattle.ch_base.specs.declared.address.Address.{Address}
use Rattle.ch_base.specs.declared.event.Event.{Event}
use Rattle.ch_base.specs.declared.event.Event.TheVariants.{ConnectionOpened, Received, ConnectionClosed, EndPointClosed, ConnectionLost}
use Rattle.ch_base.specs.declared.event.Room.{Room}
use Rattle.ch_ident.specs.declared.identifier.Ref.{Ref}
use Rattle.ch_ident.specs.declared.reason.Reason.TheVariants.{Normal, Exception}
use Rattle.ch_ident.specs.declared.node_message.NodeMessage.TheVariants as messages
use Rattle.ch_mail.specs.declared.life.Life.{Life}
use Rattle.ch_mail.specs.Mail.{life_of, waiting_of, downed}
use Rattle.ch_static.specs.declared.command.Command.{Command}
use Rattle.ch_static.specs.declared.command.Command.TheVariants.{Send, Again, Receive, OpenPort, Take, End, Fail, Fall, Monitor, Link, Unwatch, Exit, Kill, Spawn, Register, Unregister, WhereIs}
use Rattle.ch_watch.specs.declared.waiting.Kind.TheVariants as kinds
use Rattle.ch_watch.specs.Same.{node_of}
use Rattle.ch_watch.specs.Watches.{nothing}
use Rattle.ch_model.specs.declared.note.Note.TheVariants.{Shut}
use Rattle.ch_model.specs.declared.act.Act.TheVariants as acts
use Rattle.ch_model.specs.declared.command.CommandError.TheVariants.{Dead}
use Rattle.ch_model.specs.NodeState.{NodeState}
use Rattle.ch_model.specs.NodeActs.{Done, Answered, silent, stopping}
use Rattle.ch_model.specs.NodeIds.{target_at}
use Rattle.ch_model.specs.NodeLives.{make}
use Rattle.ch_model.specs.NodeEnds.{shut_lists}
use Rattle.ch_model.specs.NodeWatches.{watch_under}
use Rattle.ch_model.specs.NodeArrivals.{arrives, departs, received, peer_lost}
use Rattle.ch_model.specs.NodeCommands.{send_of, again_of, receive_of, take_port, open_port, finish_of, fall_of}
use Rattle.ch_model.specs.NodeRequests.{watch_by, unwatch_by, doom_by, spawn_by, whereis_by, register_by, unregister_by}

-- a node with its address, its unique number and its labels, that has made no process
unfoldable pub node_new : Address → ℕ → List (List ℕ) → NodeState
node_new own unique labels = record { own = own; unique = unique; labels = labels; is_shut = false; mail = []; args = []; watches = nothing; pairs = []; opened = 0; to_nodes = []; arrived = [] }

-- a process is made that no spawn asked for, while the node isn't shut
unfoldable pub node_make : NodeState → Answered
node_make node = if node.is_shut then Err Dead else stopping (make node None [])

-- what a node makes of a command of a process, where the link to the node that it is directed to has this room
unfoldable pub node_command : NodeState → ℕ → Command → Room → Answered
node_command node by (Send to said) room = send_of node by to said room
node_command node by (Again to) room = again_of node by to
node_command node by (Receive mark) room = receive_of node by mark
node_command node by OpenPort room = open_port node by
node_command node by (Take port) room = take_port node by port
node_command node by End room = finish_of node by Normal
node_command node by (Fail text) room = finish_of node by (Exception text)
node_command node by Fall room = fall_of node by
node_command node by (Monitor target) room = watch_by node by kinds.Monitor target room
node_command node by (Link target) room = watch_by node by kinds.Link target room
node_command node by (Unwatch watch) room = unwatch_by node by watch room
node_command node by (Exit target text) room = doom_by node by target.node (messages.Exit target text) room
node_command node by (Kill target text) room = doom_by node by target.node (messages.Kill target text) room
node_command node by (Spawn at closure) room = spawn_by node by at closure room
node_command node by (Register name) room = register_by node by name
node_command node by (Unregister name) room = unregister_by node by name
node_command node by (WhereIs at name) room = whereis_by node by at name room

-- what a node makes of an event of its endpoint
unfoldable pub node_event : NodeState → Event → Done
node_event node (ConnectionOpened conn peer) = silent (arrives node conn peer)
node_event node (Received conn payload) = received node conn payload
node_event node (ConnectionClosed conn) = silent (departs node conn)
node_event node EndPointClosed = silent node
node_event node (ConnectionLost peer why) = peer_lost node peer why

-- a node is shut, for good: its processes are over, and nothing is open, kept or named any more
unfoldable pub node_shut : NodeState → Answered
node_shut node = if node.is_shut then Err Dead else Ok (acts.Note (Shut node.own) ∷ [], record node { is_shut = true; mail = map downed node.mail; watches = shut_lists node.watches })

-- ---- what may be read of a node

-- the node of the target of a process's monitor or link, where that is open under a reference
unfoldable pub node_watched : NodeState → ℕ → Ref → Option Address
node_watched node by watch = option_map (λ known. node_of known.target) (watch_under node by watch)

-- The node whose room a command needs: the one that it is directed to. A command that sends to none has none, nor has
-- a reconnect, which finds room always.
unfoldable pub target_node : NodeState → ℕ → Command → Option Address
target_node node by (Send to said) = Some (target_at to)
target_node node by (Monitor target) = Some target.node
target_node node by (Link target) = Some target.node
target_node node by (Unwatch watch) = node_watched node by watch
target_node node by (Exit target text) = Some target.node
target_node node by (Kill target text) = Some target.node
target_node node by (Spawn at closure) = Some at
target_node node by (WhereIs at name) = Some at
target_node node by command = None

-- the life of a process, where it was made
unfoldable pub node_life : NodeState → ℕ → Option Life
node_life node process = life_of node.mail process

-- how many messages wait for a process, none where it wasn't made
unfoldable pub node_waiting : NodeState → ℕ → ℕ
node_waiting node process = waiting_of node.mail process

-- what a process was given when it was spawned; nothing where it wasn't
unfoldable pub node_args : NodeState → ℕ → List ℕ
node_args node process = unwrap_or (slice_get node.args process) []
