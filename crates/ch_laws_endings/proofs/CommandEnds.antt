-- What a node makes of a command: one by which a process ends tells that first.
use Rattle.std.proofs.Common.{◌≡◌, ℕ, Bool, true, false, cond, List, [], ◌∷◌, map, Ok, Err, refl}
use Rattle.std.specs.Prelude.{Result, None, ok_or, option_to_list}
use Rattle.ch_base.specs.declared.address.Address.{Address}
use Rattle.ch_base.specs.declared.event.Room.{Room}
use Rattle.ch_ident.specs.declared.identifier.ProcessId.{ProcessId}
use Rattle.ch_ident.specs.declared.identifier.Identifier.TheVariants as ends
use Rattle.ch_ident.specs.declared.identifier.Ref.{Ref}
use Rattle.ch_ident.specs.declared.message.Message.{Message}
use Rattle.ch_ident.specs.declared.node_message.NodeMessage.{NodeMessage}
use Rattle.ch_ident.specs.declared.node_message.NodeMessage.TheVariants as messages
use Rattle.ch_ident.specs.declared.reason.Reason.{Reason}
use Rattle.ch_ident.specs.declared.reason.Reason.TheVariants as reasons
use Rattle.ch_ident.specs.Spelling as spelling
use Rattle.ch_mail.specs.Mail.{make_of, take_of, take_port_of, open_port_of, downed}
use Rattle.ch_static.specs.declared.closure.Closure.{Closure}
use Rattle.ch_static.specs.declared.command.Command.{Command}
use Rattle.ch_static.specs.declared.command.Command.TheVariants as commands
use Rattle.ch_static.specs.declared.target.Target.{Target}
use Rattle.ch_watch.specs.declared.waiting.Kind.{Kind}
use Rattle.ch_watch.specs.declared.waiting.Kind.TheVariants as kinds
use Rattle.ch_watch.specs.Same.{node_of}
use Rattle.ch_watch.specs.Watches.{watch_of, unwatch_of, register_of, unregister_of}
use Rattle.ch_model.specs.declared.act.Act.{Act}
use Rattle.ch_model.specs.declared.act.Act.TheVariants as acts
use Rattle.ch_model.specs.declared.command.CommandError.{CommandError}
use Rattle.ch_model.specs.declared.command.CommandError.TheVariants as errors
use Rattle.ch_model.specs.declared.note.Note.{Note}
use Rattle.ch_model.specs.declared.note.Note.TheVariants as notes
use Rattle.ch_model.specs.NodeState.{NodeState, Pair}
use Rattle.ch_model.specs.NodeActs.{◌>>=◌, Done, Answered, stopping, mailed, watching, growing, noting, doing, ◌and_then◌}
use Rattle.ch_model.specs.NodeIds.{process_id, reference_to, is_here}
use Rattle.ch_model.specs.NodePairs.{pair_of, keeping, next_epoch, conn_of}
use Rattle.ch_model.specs.NodeLives.{make}
use Rattle.ch_model.specs.NodeWatches.{watch_under}
use Rattle.ch_model.specs.NodeEnds.{over, shut_lists}
use Rattle.ch_model.specs.NodeMessages.{ask}
use Rattle.ch_model.specs.NodeRequests.{watch_message, unwatch_message, watch, watch_by, unwatch_by, doom_by, asked_note, question, spawn_by, whereis_by, register_by, unregister_by}
use Rattle.ch_model.specs.NodeRoom.{acting, falling, known, fitting, not_full, room_to_send}
use Rattle.ch_model.specs.NodeSends.{payload_of, weight_of, carry, with_said, say, reconnect}
use Rattle.ch_model.specs.NodeCommands.{send_of, again_of, receive_of, take_port, open_port, finish_of, fall_of}
use Rattle.ch_model.specs.Node.{node_make, node_command, node_shut}
use Rattle.ch_laws_endings.specs.Causes.{HasCause, AreCaused, EndsFirst, AreAsked}
use Rattle.ch_laws_endings.proofs.NodeEnds.{Caused, Ended, in_turn, bound, stopped, ended_bound, is_ended, asked_for, carried}

-- ---- messages

-- what is told first is no end
noted : (note : Note) (node : NodeState) (f : NodeState → Done) → HasCause None note → ((n : NodeState) → Caused (f n)) → Caused (noting note node and_then f)
noted note node f c k = in_turn (noting note node) f (c, tt) k

is_said : (node : NodeState) (pair : Pair) (said : Message) → Caused (say node pair said)
unfolding say
is_said node pair said = bound (growing pair.index) _ (λ index. noted (notes.Said (process_id node pair.by) pair.to pair.epoch index said) (keeping node (with_said pair)) (λ n. carry n (with_said pair) said (weight_of pair.epoch index)) tt
    (λ n. carried n (with_said pair) said (weight_of pair.epoch index)))

sent : (node : NodeState) (by : ℕ) (to : Target) (said : Message) (room : Room) → Caused (send_of node by to said room)
unfolding send_of
sent node by to said room = bound (acting node by) _ (λ live. bound (known node to) _ (λ there. bound (fitting (payload_of to said)) _ (λ short. bound (room_to_send node (pair_of node.pairs by to) room) _ (λ roomy.
    stopped (say node (pair_of node.pairs by to) said) (is_said node (pair_of node.pairs by to) said)))))

all_close : (conns : List ℕ) → AreCaused None (map (λ conn. acts.Close conn) conns)
all_close [] = tt
all_close (conn ∷ rest) = all_close rest

reconnected : (node : NodeState) (pair : Pair) → Caused (reconnect node pair)
unfolding reconnect
reconnected node pair = bound (next_epoch pair) _ (λ next. (tt, all_close (option_to_list (conn_of pair.mark))))

again : (node : NodeState) (by : ℕ) (to : Target) → Caused (again_of node by to)
unfolding again_of
again node by to = bound (acting node by) _ (λ live. stopped (reconnect node (pair_of node.pairs by to)) (reconnected node (pair_of node.pairs by to)))

taken : (node : NodeState) (by : ℕ) (mark : List ℕ) → Caused (receive_of node by mark)
unfolding receive_of
taken node by mark = bound (acting node by) _ (λ live. bound (mailed (take_of node.mail by mark)) _ (λ taken. (tt, tt)))

taken_of_port : (node : NodeState) (by port : ℕ) → Caused (take_port node by port)
unfolding take_port
taken_of_port node by port = bound (acting node by) _ (λ live. bound (mailed (take_port_of node.mail by port)) _ (λ taken. (tt, tt)))

port_opened : (node : NodeState) (by : ℕ) → Caused (open_port node by)
unfolding open_port
port_opened node by = bound (acting node by) _ (λ live. bound (mailed (open_port_of node.mail by)) _ (λ opened. (tt, tt)))

-- ---- watches, spawns and names

watched : (node : NodeState) (by : ℕ) (kind : Kind) (target : ProcessId) (room : Room) → Caused (watch_by node by kind target room)
unfolding watch_by watch
watched node by kind target room = bound (acting node by) _ (λ live. bound (not_full node target.node room) _ (λ roomy. stopped (watch node by kind target) (bound (watch_of node.watches by kind (ends.Process target)) _ (λ opened.
    noted (notes.Watch (reference_to node opened.0) (process_id node by) target kind) (record node { watches = opened.1 }) (λ n. ask n target.node (watch_message kind (reference_to node opened.0) target)) tt
    (λ n. asked_for n target.node (watch_message kind (reference_to node opened.0) target))))))

unwatched : (node : NodeState) (by : ℕ) (given : Ref) (room : Room) → Caused (unwatch_by node by given room)
unfolding unwatch_by
unwatched node by given room = bound (acting node by) _ (λ live. bound (ok_or (watch_under node by given) errors.NoRef) _ (λ waiting. bound (not_full node (node_of waiting.target) room) _ (λ roomy. bound (watching (unwatch_of node.watches by given.number)) _ (λ closed.
    stopped (noting (notes.Unwatch given) (record node { watches = closed.1 }) and_then (λ n. ask n (node_of waiting.target) (unwatch_message waiting.kind given)))
    (noted (notes.Unwatch given) (record node { watches = closed.1 }) (λ n. ask n (node_of waiting.target) (unwatch_message waiting.kind given)) tt
    (λ n. asked_for n (node_of waiting.target) (unwatch_message waiting.kind given)))))))

doom_asked : (node : NodeState) (by : ℕ) (at : Address) (said : NodeMessage) (room : Room) → Caused (doom_by node by at said room)
unfolding doom_by
doom_asked node by at said room = bound (acting node by) _ (λ live. bound (not_full node at room) _ (λ roomy. stopped (ask node at said) (asked_for node at said)))

questioned : (node : NodeState) (by : ℕ) (kind : Kind) (at : Address) (asked : Ref → NodeMessage) → Caused (question node by kind at asked)
unfolding question
questioned node by kind at asked = bound (watch_of node.watches by kind (ends.Node at)) _ (λ opened.
    in_turn (doing (asked_note node by at (reference_to node opened.0)) (record node { watches = opened.1 })) (λ n. ask n at (asked (reference_to node opened.0))) (by_test opened.0 (is_here node at)) (λ n. asked_for n at (asked (reference_to node opened.0)))) where
      by_test : (number : ℕ) (b : Bool) → AreCaused None (cond b [] (acts.Note (notes.Asked (reference_to node number) (process_id node by) at) ∷ []))
      by_test number true = tt
      by_test number false = (tt, tt)

spawn_asked : (node : NodeState) (by : ℕ) (at : Address) (closure : Closure) (room : Room) → Caused (spawn_by node by at closure room)
unfolding spawn_by
spawn_asked node by at closure room = bound (acting node by) _ (λ live. bound (fitting (spelling.message (messages.Spawn (reference_to node node.watches.next) closure.label closure.args))) _ (λ short. bound (not_full node at room) _ (λ roomy.
    stopped (question node by kinds.Spawn at (λ asked. messages.Spawn asked closure.label closure.args)) (questioned node by kinds.Spawn at (λ asked. messages.Spawn asked closure.label closure.args)))))

name_asked : (node : NodeState) (by : ℕ) (at : Address) (name : List ℕ) (room : Room) → Caused (whereis_by node by at name room)
unfolding whereis_by
name_asked node by at name room = bound (acting node by) _ (λ live. bound (not_full node at room) _ (λ roomy. stopped (question node by kinds.Ask at (λ asked. messages.WhereIs asked name)) (questioned node by kinds.Ask at (λ asked. messages.WhereIs asked name))))

registered : (node : NodeState) (by : ℕ) (name : List ℕ) → Caused (register_by node by name)
unfolding register_by
registered node by name = bound (acting node by) _ (λ live. bound (watching (register_of node.watches name by)) _ (λ lists. (tt, tt)))

unregistered : (node : NodeState) (by : ℕ) (name : List ℕ) → Caused (unregister_by node by name)
unfolding unregister_by
unregistered node by name = bound (acting node by) _ (λ live. bound (watching (unregister_of node.watches name)) _ (λ taken. (tt, tt)))

-- ---- ends

ended_stopped : (process : ProcessId) (reason : Reason) (done : Done) → Ended process reason done → Ended process reason (stopping done)
ended_stopped process reason (Ok done) e = e
ended_stopped process reason (Err stop) e = tt

pub finished : (node : NodeState) (by : ℕ) (reason : Reason) → Ended (process_id node by) reason (finish_of node by reason)
unfolding finish_of
finished node by reason = ended_bound (process_id node by) reason (acting node by) _ (λ live. ended_stopped (process_id node by) reason (over node by reason) (is_ended node by reason))

-- the process was told over first, by the text by which it fell
abbrev Fallen : NodeState → ℕ → Answered → Type 0
Fallen node by (Ok done) = (text : List ℕ) × (falling node by ≡ Ok text) × EndsFirst (process_id node by) (reasons.Exception text) done.0
Fallen node by (Err e) = Unit {0}

fell : (node : NodeState) (by : ℕ) → Fallen node by (fall_of node by)
unfolding fall_of
fell node by = by_text (falling node by) refl where
  by_over : (text : List ℕ) → falling node by ≡ Ok text → (done : Answered) → Ended (process_id node by) (reasons.Exception text) done → Fallen node by done
  by_over text is (Ok done) e = (text, is, e)
  by_over text is (Err stop) e = tt

  by_text : (o : Result (List ℕ) CommandError) → falling node by ≡ o → Fallen node by (o >>= λ text. stopping (over node by (reasons.Exception text)))
  by_text (Err e) is = tt
  by_text (Ok text) is = by_over text is (stopping (over node by (reasons.Exception text))) (ended_stopped (process_id node by) (reasons.Exception text) (over node by (reasons.Exception text)) (is_ended node by (reasons.Exception text)))

-- ---- the calls of a node

-- what was done is as the command asks
abbrev pub Asked : NodeState → ℕ → Command → Answered → Type 0
Asked node by command (Ok done) = AreAsked node by command done.0
Asked node by command (Err e) = Unit {0}

-- a command by which no process ends
as_asked : (node : NodeState) (by : ℕ) (command : Command) → ((done : List Act) → AreCaused None done → AreAsked node by command done) → (done : Answered) → Caused done → Asked node by command done
as_asked node by command same (Ok done) c = same done.0 c
as_asked node by command same (Err e) c = tt

end_asked : (node : NodeState) (by : ℕ) (done : Answered) → Ended (process_id node by) reasons.Normal done → Asked node by commands.End done
end_asked node by (Ok done) e = e
end_asked node by (Err stop) e = tt

fail_asked : (node : NodeState) (by : ℕ) (text : List ℕ) (done : Answered) → Ended (process_id node by) (reasons.Exception text) done → Asked node by (commands.Fail text) done
fail_asked node by text (Ok done) e = e
fail_asked node by text (Err stop) e = tt

fall_asked : (node : NodeState) (by : ℕ) (done : Answered) → Fallen node by done → Asked node by commands.Fall done
fall_asked node by (Ok done) e = e
fall_asked node by (Err stop) e = tt

pub command_asked : (node : NodeState) (by : ℕ) (command : Command) (room : Room) → Asked node by command (node_command node by command room)
unfolding node_command
command_asked node by (commands.Send to said) room = as_asked node by (commands.Send to said) (λ done c. c) (send_of node by to said room) (sent node by to said room)
command_asked node by (commands.Again to) room = as_asked node by (commands.Again to) (λ done c. c) (again_of node by to) (again node by to)
command_asked node by (commands.Receive mark) room = as_asked node by (commands.Receive mark) (λ done c. c) (receive_of node by mark) (taken node by mark)
command_asked node by commands.OpenPort room = as_asked node by commands.OpenPort (λ done c. c) (open_port node by) (port_opened node by)
command_asked node by (commands.Take port) room = as_asked node by (commands.Take port) (λ done c. c) (take_port node by port) (taken_of_port node by port)
command_asked node by commands.End room = end_asked node by (finish_of node by reasons.Normal) (finished node by reasons.Normal)
command_asked node by (commands.Fail text) room = fail_asked node by text (finish_of node by (reasons.Exception text)) (finished node by (reasons.Exception text))
command_asked node by commands.Fall room = fall_asked node by (fall_of node by) (fell node by)
command_asked node by (commands.Monitor target) room = as_asked node by (commands.Monitor target) (λ done c. c) (watch_by node by kinds.Monitor target room) (watched node by kinds.Monitor target room)
command_asked node by (commands.Link target) room = as_asked node by (commands.Link target) (λ done c. c) (watch_by node by kinds.Link target room) (watched node by kinds.Link target room)
command_asked node by (commands.Unwatch watch) room = as_asked node by (commands.Unwatch watch) (λ done c. c) (unwatch_by node by watch room) (unwatched node by watch room)
command_asked node by (commands.Exit target text) room = as_asked node by (commands.Exit target text) (λ done c. c) (doom_by node by target.node (messages.Exit target text) room) (doom_asked node by target.node (messages.Exit target text) room)
command_asked node by (commands.Kill target text) room = as_asked node by (commands.Kill target text) (λ done c. c) (doom_by node by target.node (messages.Kill target text) room) (doom_asked node by target.node (messages.Kill target text) room)
command_asked node by (commands.Spawn at closure) room = as_asked node by (commands.Spawn at closure) (λ done c. c) (spawn_by node by at closure room) (spawn_asked node by at closure room)
command_asked node by (commands.Register name) room = as_asked node by (commands.Register name) (λ done c. c) (register_by node by name) (registered node by name)
command_asked node by (commands.Unregister name) room = as_asked node by (commands.Unregister name) (λ done c. c) (unregister_by node by name) (unregistered node by name)
command_asked node by (commands.WhereIs at name) room = as_asked node by (commands.WhereIs at name) (λ done c. c) (whereis_by node by at name room) (name_asked node by at name room)

pub make_caused : (node : NodeState) → Caused (node_make node)
unfolding node_make make
make_caused node = by_test node.is_shut where
  by_test : (b : Bool) → Caused (cond b (Err errors.Dead) (stopping (make node None [])))
  by_test true = tt
  by_test false = stopped (make node None []) (bound (make_of node.mail) _ (λ made. (tt, tt)))

pub shut_caused : (node : NodeState) → Caused (node_shut node)
unfolding node_shut
shut_caused node = by_test node.is_shut where
  by_test : (b : Bool) → Caused (cond b (Err errors.Dead) (Ok (acts.Note (notes.Shut node.own) ∷ [], record node { is_shut = true; mail = map downed node.mail; watches = shut_lists node.watches })))
  by_test true = tt
  by_test false = (tt, tt)
