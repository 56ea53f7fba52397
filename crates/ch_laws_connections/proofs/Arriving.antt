-- Which connections have arrived at a node changes by what its endpoint tells alone.
use Rattle.std.proofs.Common.{◌≡◌, ℕ, Bool, true, false, cond, not, ◌&&◌, List, [], ◌∷◌, ◌++◌, map, Ok, Err, refl, ap, ◌∙◌, ◌==◌}
use Rattle.std.specs.Prelude.{find, filter, Result, Option, Some, None, is_some, ok_or, codes}
use Rattle.ch_base.specs.declared.address.Address.{Address}
use Rattle.ch_base.specs.declared.event.Room.{Room}
use Rattle.ch_base.specs.declared.event.Why.{Why}
use Rattle.ch_base.specs.declared.memory.Stop.{Stop}
use Rattle.ch_ident.specs.declared.error.IdentError.{IdentError}
use Rattle.ch_ident.specs.declared.identifier.ProcessId.{ProcessId}
use Rattle.ch_ident.specs.declared.identifier.Ref.{Ref}
use Rattle.ch_ident.specs.declared.identifier.Identifier.TheVariants as ends
use Rattle.ch_ident.specs.declared.message.Message.{Message}
use Rattle.ch_ident.specs.declared.node_message.NodeMessage.{NodeMessage}
use Rattle.ch_ident.specs.declared.node_message.NodeMessage.TheVariants as messages
use Rattle.ch_ident.specs.declared.reason.Reason.{Reason}
use Rattle.ch_ident.specs.declared.reason.Reason.TheVariants as reasons
use Rattle.ch_ident.specs.Reading.{message_of, user_of}
use Rattle.ch_ident.specs.Spelling as spelling
use Rattle.ch_mail.specs.declared.error.MailError.{MailError}
use Rattle.ch_mail.specs.declared.error.MailError.TheVariants as mails
use Rattle.ch_mail.specs.Process.{Process}
use Rattle.ch_mail.specs.Mail.{make_of, put_of, end_of, take_of, take_port_of, open_port_of, downed}
use Rattle.ch_static.specs.declared.closure.Closure.{Closure}
use Rattle.ch_static.specs.declared.command.Command.{Command}
use Rattle.ch_static.specs.declared.command.Command.TheVariants as commands
use Rattle.ch_static.specs.declared.target.Target.{Target}
use Rattle.ch_static.specs.declared.target.Target.TheVariants as targets
use Rattle.ch_static.specs.Labels.{place_of}
use Rattle.ch_watch.specs.declared.error.WatchError.{WatchError}
use Rattle.ch_watch.specs.declared.waiting.Kind.{Kind}
use Rattle.ch_watch.specs.declared.waiting.Kind.TheVariants as kinds
use Rattle.ch_watch.specs.declared.waiting.Waiting.{Waiting}
use Rattle.ch_watch.specs.Lists.{Lists}
use Rattle.ch_watch.specs.Same.{node_of, same_node}
use Rattle.ch_watch.specs.Watches.{watch_of, unwatch_of, told_of, arrive_of, lost_of, ended_of, register_of, unregister_of}
use Rattle.ch_model.specs.declared.act.Act.{Act}
use Rattle.ch_model.specs.declared.act.Act.TheVariants as acts
use Rattle.ch_model.specs.declared.command.CommandError.TheVariants as errors
use Rattle.ch_model.specs.declared.note.Note.TheVariants as notes
use Rattle.ch_model.specs.declared.note.Origin.{Origin}
use Rattle.ch_model.specs.declared.step.Weight.{Weight}
use Rattle.ch_model.specs.declared.step.Weight.TheVariants.{Counted, Free}
use Rattle.ch_model.specs.NodeState.{NodeState, Pair, Mark, Unopened, Opened, Broken, Bound, Unread, Void, FromNode, ToNames, ToTarget, Arrived}
use Rattle.ch_model.specs.NodeActs.{◌>>=◌, Done, silent, noting, after, ◌and_then◌, each_in_turn, stopping, mailed, watching, or_unchanged, growing}
use Rattle.ch_model.specs.NodeIds.{process_id, reference_to, is_here, is_own, is_living, target_at}
use Rattle.ch_model.specs.NodePairs.{pair_of, keeping, next_epoch, lost_pairs}
use Rattle.ch_model.specs.NodeConnections.{drawn, conn_to, tell_first, tell_on, tell_node}
use Rattle.ch_model.specs.NodeLives.{make, doom, mail_to, with_process, reason_of, link_text, exit_text, kill_text}
use Rattle.ch_model.specs.NodeWatches.{is_awaited, without, closing, monitor_told, link_told, told_as, told_closed, told, tell_end, absent, watch_arrives, watch_leaves, watch_under}
use Rattle.ch_model.specs.NodeEnds.{over, bereft, farewell, shut_lists}
use Rattle.ch_model.specs.NodeAsks.{spawned_closed, spawned, tell_spawned, fail_unlabelled, spawn_arrives, found_closed, found, tell_found, standing, question_arrives, may_doom, doom_arrives, origin_of}
use Rattle.ch_model.specs.NodeMessages.{handle, is_for_peer, ask}
use Rattle.ch_model.specs.NodeSends.{got_put, get, get_standing, deliver, payload_of, weight_of, send_first, send_on, carry, with_said, say, reconnect}
use Rattle.ch_model.specs.NodeRoom.{acting, falling, known, fitting, not_full, room_to_send}
use Rattle.ch_model.specs.NodeCommands.{send_of, again_of, receive_of, take_port, open_port, finish_of, fall_of}
use Rattle.ch_model.specs.NodeRequests.{watch_message, unwatch_message, watch, watch_by, unwatch_by, doom_by, asked_note, question, spawn_by, whereis_by, register_by, unregister_by}
use Rattle.ch_model.specs.NodeArrivals.{bound_by, rebound, bind, from_node, to_name, to_target, received_as, received_on, received, lost_told, peer_lost}
use Rattle.ch_model.specs.Node.{node_make, node_command, node_shut}

-- the connections that have arrived, with their peers
abbrev pub come_in : List Arrived → List (ℕ × Address)
come_in arrived = map (λ (a : Arrived). (a.conn, a.peer)) arrived

abbrev pub who_is : NodeState → List (ℕ × Address)
who_is node = come_in node.arrived

-- whatever was done, it is who it was
abbrev pub Stays : {S E : Type 0} → NodeState → Result (S × NodeState) E → Type 0
Stays before (Ok done) = who_is done.1 ≡ who_is before
Stays before (Err e) = Unit {0}

-- the same of what gives a node alone
abbrev Kept : NodeState → Result NodeState Stop → Type 0
Kept before (Ok next) = who_is next ≡ who_is before
Kept before (Err stop) = Unit {0}

-- and of what may give one beside something else
abbrev KeptBeside : {A : Type 0} → NodeState → Option (A × NodeState) → Type 0
KeptBeside before (Some next) = who_is next.1 ≡ who_is before
KeptBeside before None = Unit {0}

-- and where the link with a peer has failed
abbrev pub LostStays : Address → NodeState → Done → Type 0
LostStays peer before (Ok done) = who_is done.1 ≡ come_in (filter (λ arrived. not (same_node arrived.peer peer)) before.arrived)
LostStays peer before (Err stop) = Unit {0}

-- ---- one thing and then another

from : (one two : NodeState) (done : Done) → who_is two ≡ who_is one → Stays two done → Stays one done
from one two (Ok done) a b = b ∙ a
from one two (Err e) a b = tt

later : (acts : List Act) (one two : NodeState) (done : Done) → who_is two ≡ who_is one → Stays two done → Stays one (after acts done)
later acts one two (Ok done) a b = b ∙ a
later acts one two (Err stop) a b = tt

chained : (node : NodeState) (done : Done) (f : NodeState → Done) → Stays node done → ((next : NodeState) → Stays next (f next)) → Stays node (done and_then f)
chained node (Ok done) f a g = later done.0 node done.1 (f done.1) a (g done.1)
chained node (Err stop) f a g = tt

bound : {A S E : Type 0} (node : NodeState) (given : Result A E) (f : A → Result (S × NodeState) E) → ((x : A) → Stays node (f x)) → Stays node (given >>= f)
bound node (Ok x) f k = k x
bound node (Err e) f k = tt

bound_kept : (node : NodeState) (given : Result NodeState Stop) (f : NodeState → Done) → Kept node given → ((next : NodeState) → Stays next (f next)) → Stays node (given >>= f)
bound_kept node (Ok next) f k g = from node next (f next) k (g next)
bound_kept node (Err stop) f k g = tt

stopped : (node : NodeState) (done : Done) → Stays node done → Stays node (stopping done)
stopped node (Ok done) k = k
stopped node (Err stop) k = tt

in_turn : {A : Type 0} (f : A → NodeState → Done) (xs : List A) (node : NodeState) → ((x : A) (next : NodeState) → Stays next (f x next)) → Stays node (each_in_turn f xs node)
in_turn f [] node k = refl
in_turn f (x ∷ rest) node k = chained node (f x node) (λ n. each_in_turn f rest n) (k x node) (λ next. in_turn f rest next k)

-- ---- messages to other nodes

told_first : (node : NodeState) (peer : Address) (said : NodeMessage) (weight : Weight) → Stays node (tell_first node peer said weight)
unfolding tell_first
told_first node peer said weight = bound node (drawn node) _ (λ conn. refl)

told_on : (node : NodeState) (peer : Address) (said : NodeMessage) (weight : Weight) (conn : Option ℕ) → Stays node (tell_on node peer said weight conn)
told_on node peer said weight None = told_first node peer said weight
told_on node peer said weight (Some conn) = refl

node_told : (node : NodeState) (peer : Address) (said : NodeMessage) (weight : Weight) → Stays node (tell_node node peer said weight)
unfolding tell_node
node_told node peer said weight = told_on node peer said weight (conn_to node peer)

-- ---- lives

made : (node : NodeState) (origin : Option Origin) (args : List ℕ) → Stays node (make node origin args)
unfolding make
made node origin args = bound node (make_of node.mail) _ (λ made. refl)

doomed : (node : NodeState) (number : ℕ) (text : List ℕ) → Stays node (doom node number text)
unfolding doom
doomed node number text = refl

mailed_to : (node : NodeState) (number : ℕ) (mark body : List ℕ) → Kept node (mail_to node number mark body)
unfolding mail_to
mailed_to node number mark body = by_mail (or_unchanged node.mail (put_of node.mail number None (record { mark = mark; body = body })))
  where
    by_mail : (mail : Result (List Process) Stop) → Kept node (mail >>= (λ mail. Ok (record node { mail = mail })))
    by_mail (Ok mail) = refl
    by_mail (Err stop) = tt

-- ---- watches that are told

closed : (node : NodeState) (kind : Kind) (asked : Ref) → KeptBeside node (closing node kind asked)
unfolding closing
closed node kind asked = by_test (is_here node asked.node && is_awaited node.watches kind asked.number)
  where
    by_result : (given : Result (Waiting × Lists) WatchError) → KeptBeside node (without node given)
    by_result (Ok closed) = refl
    by_result (Err e) = tt

    by_test : (b : Bool) → KeptBeside node (cond b (without node (told_of node.watches asked.number)) None)
    by_test true = by_result (told_of node.watches asked.number)
    by_test false = tt

told_of_monitor : (node : NodeState) (watch : Ref) (reason : Reason) (owner : ℕ) → Stays node (monitor_told node watch reason owner)
unfolding monitor_told
told_of_monitor node watch reason owner = bound_kept node (mail_to node owner (codes "$died") (spelling.reference watch ++ spelling.reason reason)) _ (mailed_to node owner (codes "$died") (spelling.reference watch ++ spelling.reason reason)) (λ next. refl)

told_of_link : (node : NodeState) (watch : Ref) (reason : Reason) (owner : ℕ) → Stays node (link_told node watch reason owner)
unfolding link_told
told_of_link node watch reason owner = later (acts.Note (notes.Told watch reason) ∷ []) node node (doom node owner (link_text reason)) refl (doomed node owner (link_text reason))

told_by_kind : (kind : Kind) (node : NodeState) (watch : Ref) (reason : Reason) (owner : ℕ) → Stays node (told_as kind node watch reason owner)
told_by_kind kinds.Monitor node watch reason owner = told_of_monitor node watch reason owner
told_by_kind kinds.Link node watch reason owner = told_of_link node watch reason owner
told_by_kind kinds.Spawn node watch reason owner = refl
told_by_kind kinds.Ask node watch reason owner = refl

told_where_closed : (node : NodeState) (watch : Ref) (reason : Reason) (o : Option (Waiting × NodeState)) → KeptBeside node o → Stays node (told_closed node watch reason o)
told_where_closed node watch reason None k = refl
told_where_closed node watch reason (Some closed) k = from node closed.1 (told_as closed.0.kind closed.1 watch reason closed.0.owner) k (told_by_kind closed.0.kind closed.1 watch reason closed.0.owner)

told_here : (node : NodeState) (watch : Ref) (reason : Reason) → Stays node (told node watch reason)
unfolding told
told_here node watch reason = told_where_closed node watch reason (closing node kinds.Monitor watch) (closed node kinds.Monitor watch)

end_told : (node : NodeState) (watch : Ref) (reason : Reason) → Stays node (tell_end node watch reason)
unfolding tell_end
end_told node watch reason = by_test (is_here node watch.node)
  where
    by_test : (b : Bool) → Stays node (cond b (told node watch reason) (tell_node node watch.node (messages.Died watch reason) Free))
    by_test true = told_here node watch reason
    by_test false = node_told node watch.node (messages.Died watch reason) Free

-- ---- watches that arrive

found_absent : (node : NodeState) (watch : Ref) → Stays node (absent node watch)
unfolding absent
found_absent node watch = later (acts.Note (notes.Absent watch) ∷ []) node node (tell_end node watch reasons.UnknownId) refl (end_told node watch reasons.UnknownId)

watch_arrived : (node : NodeState) (watch : Ref) (target : ProcessId) → Stays node (watch_arrives node watch target)
unfolding watch_arrives
watch_arrived node watch target = by_test (is_living node target)
  where
    by_test : (b : Bool) → Stays node (cond b (silent (record node { watches = arrive_of node.watches target.counter watch })) (absent node watch))
    by_test true = refl
    by_test false = found_absent node watch

watch_left : (node : NodeState) (watch : Ref) → Stays node (watch_leaves node watch)
unfolding watch_leaves
watch_left node watch = refl

-- ---- ends

is_over : (node : NodeState) (number : ℕ) (reason : Reason) → Stays node (over node number reason)
unfolding over
is_over node number reason = bound node (or_unchanged node.mail (end_of node.mail number reason)) _ (λ mail.
    later (farewell node number reason (ended_of node.watches number).0.names) node (bereft node mail (ended_of node.watches number).1 number) (each_in_turn (λ watch m. tell_end m watch reason) (ended_of node.watches number).0.watches (bereft node mail (ended_of node.watches number).1 number)) refl
    (in_turn (λ watch m. tell_end m watch reason) (ended_of node.watches number).0.watches (bereft node mail (ended_of node.watches number).1 number) (λ watch m. end_told m watch reason)))

-- ---- spawns, questions and dooms

spawned_where_closed : (node : NodeState) (question : Ref) (process : ProcessId) (o : Option (Waiting × NodeState)) → KeptBeside node o → Stays node (spawned_closed node question process o)
spawned_where_closed node question process None k = refl
spawned_where_closed node question process (Some closed) k = from node closed.1 (spawned_closed closed.1 question process (Some closed)) k (bound_kept closed.1 (mail_to closed.1 closed.0.owner (codes "$spawned") (spelling.reference question ++ spelling.process process)) _ (mailed_to closed.1 closed.0.owner (codes "$spawned") (spelling.reference question ++ spelling.process process)) (λ next. refl))

spawned_here : (node : NodeState) (question : Ref) (process : ProcessId) → Stays node (spawned node question process)
unfolding spawned
spawned_here node question process = spawned_where_closed node question process (closing node kinds.Spawn question) (closed node kinds.Spawn question)

spawned_told : (node : NodeState) (question : Ref) (process : ProcessId) → Stays node (tell_spawned node question process)
unfolding tell_spawned
spawned_told node question process = by_test (is_here node question.node)
  where
    by_test : (b : Bool) → Stays node (cond b (spawned node question process) (tell_node node question.node (messages.DidSpawn question process) Free))
    by_test true = spawned_here node question process
    by_test false = node_told node question.node (messages.DidSpawn question process) Free

labelled : (node : NodeState) (label : List ℕ) (number : ℕ) → Stays node (fail_unlabelled node label number)
unfolding fail_unlabelled
labelled node label number = by_test (is_some (place_of node.labels label))
  where
    by_test : (b : Bool) → Stays node (cond b (silent node) (over node number (reasons.Exception (codes "unknown label"))))
    by_test true = refl
    by_test false = is_over node number (reasons.Exception (codes "unknown label"))

spawn_arrived : (node : NodeState) (question : Ref) (label args : List ℕ) → Stays node (spawn_arrives node question label args)
unfolding spawn_arrives
spawn_arrived node question label args = bound node (make_of node.mail) _ (λ made.
    chained node (noting (notes.Made (process_id node made.0) (Some (origin_of question label))) (with_process node made.1 args) and_then (λ n. fail_unlabelled n label made.0)) (λ n. tell_spawned n question (process_id n made.0))
    (chained node (noting (notes.Made (process_id node made.0) (Some (origin_of question label))) (with_process node made.1 args)) (λ n. fail_unlabelled n label made.0) refl (λ next. labelled next label made.0))
    (λ next. spawned_told next question (process_id next made.0)))

found_where_closed : (node : NodeState) (question : Ref) (at : Option ProcessId) (o : Option (Waiting × NodeState)) → KeptBeside node o → Stays node (found_closed node question at o)
found_where_closed node question at None k = refl
found_where_closed node question at (Some closed) k = from node closed.1 (found_closed closed.1 question at (Some closed)) k (bound_kept closed.1 (mail_to closed.1 closed.0.owner (codes "$isat") (spelling.reference question ++ spelling.found at)) _ (mailed_to closed.1 closed.0.owner (codes "$isat") (spelling.reference question ++ spelling.found at)) (λ next. refl))

found_here : (node : NodeState) (question : Ref) (at : Option ProcessId) → Stays node (found node question at)
unfolding found
found_here node question at = found_where_closed node question at (closing node kinds.Ask question) (closed node kinds.Ask question)

found_told : (node : NodeState) (question : Ref) (at : Option ProcessId) → Stays node (tell_found node question at)
unfolding tell_found
found_told node question at = by_test (is_here node question.node)
  where
    by_test : (b : Bool) → Stays node (cond b (found node question at) (tell_node node question.node (messages.IsAt question at) Free))
    by_test true = found_here node question at
    by_test false = node_told node question.node (messages.IsAt question at) Free

question_arrived : (node : NodeState) (question : Ref) (name : List ℕ) → Stays node (question_arrives node question name)
unfolding question_arrives
question_arrived node question name = found_told node question (standing node name)

doom_arrived : (node : NodeState) (target : ProcessId) (given text : List ℕ) → Stays node (doom_arrives node target given text)
unfolding doom_arrives
doom_arrived node target given text = by_test (is_own node target && may_doom given)
  where
    by_test : (b : Bool) → Stays node (cond b (doom node target.counter text) (silent node))
    by_test true = doomed node target.counter text
    by_test false = refl

-- ---- messages from node to node

handled : (node : NodeState) (said : NodeMessage) → Stays node (handle node said)
unfolding handle
handled node (messages.Monitor watch target) = watch_arrived node watch target
handled node (messages.Unmonitor watch) = watch_left node watch
handled node (messages.Link watch target) = watch_arrived node watch target
handled node (messages.Unlink watch) = watch_left node watch
handled node (messages.Spawn question label args) = spawn_arrived node question label args
handled node (messages.DidSpawn question process) = spawned_here node question process
handled node (messages.Died watch reason) = told_here node watch reason
handled node (messages.WhereIs question name) = question_arrived node question name
handled node (messages.IsAt question at) = found_here node question at
handled node (messages.Exit target text) = doom_arrived node target text (exit_text text)
handled node (messages.Kill target text) = doom_arrived node target text (kill_text text)
handled node other = refl

asked : (node : NodeState) (at : Address) (said : NodeMessage) → Stays node (ask node at said)
unfolding ask
asked node at said = by_test (is_here node at)
  where
    by_test : (b : Bool) → Stays node (cond b (handle node said) (tell_node node at said (Counted None)))
    by_test true = handled node said
    by_test false = node_told node at said (Counted None)

-- ---- messages of processes

put_by : (node : NodeState) (sender : ProcessId) (to : Target) (receiver : ProcessId) (given : Result (List Process) MailError) → Stays node (got_put node sender to receiver given)
put_by node sender to receiver (Ok mail) = refl
put_by node sender to receiver (Err mails.NotLive) = refl
put_by node sender to receiver (Err mails.Empty) = refl
put_by node sender to receiver (Err mails.OutOfMemory) = tt
put_by node sender to receiver (Err mails.Worn) = tt

got : (node : NodeState) (sender : ProcessId) (to : Target) (receiver : ProcessId) (port : Option ℕ) (said : Message) → Stays node (get node sender to receiver port said)
unfolding get
got node sender to receiver port said = put_by node sender to receiver (put_of node.mail receiver.counter port said)

got_by_name : (node : NodeState) (sender : ProcessId) (to : Target) (said : Message) (receiver : Option ProcessId) → Stays node (get_standing node sender to said receiver)
got_by_name node sender to said None = refl
got_by_name node sender to said (Some receiver) = got node sender to receiver None said

delivered : (node : NodeState) (sender : ProcessId) (to : Target) (said : Message) → Stays node (deliver node sender to said)
unfolding deliver
delivered node sender (targets.Process process) said = got node sender (targets.Process process) process None said
delivered node sender (targets.Port port) said = got node sender (targets.Port port) port.process (Some port.port) said
delivered node sender (targets.Named at name) said = got_by_name node sender (targets.Named at name) said (standing node name)

sent_first : (node : NodeState) (pair : Pair) (said : Message) (weight : Weight) → Stays node (send_first node pair said weight)
unfolding send_first
sent_first node pair said weight = bound node (drawn node) _ (λ conn. refl)

sent_on : (node : NodeState) (pair : Pair) (said : Message) (weight : Weight) (mark : Mark) → Stays node (send_on node pair said weight mark)
sent_on node pair said weight Unopened = sent_first node pair said weight
sent_on node pair said weight (Opened conn) = refl
sent_on node pair said weight Broken = refl

carried : (node : NodeState) (pair : Pair) (said : Message) (weight : Weight) → Stays node (carry node pair said weight)
unfolding carry
carried node pair said weight = by_test (is_here node (target_at pair.to))
  where
    by_test : (b : Bool) → Stays node (cond b (deliver node (process_id node pair.by) pair.to said) (send_on node pair said weight pair.mark))
    by_test true = delivered node (process_id node pair.by) pair.to said
    by_test false = sent_on node pair said weight pair.mark

is_said : (node : NodeState) (pair : Pair) (said : Message) → Stays node (say node pair said)
unfolding say
is_said node pair said = bound node (growing pair.index) _ (λ index.
    later (acts.Note (notes.Said (process_id node pair.by) pair.to pair.epoch index said) ∷ []) node (keeping node (with_said pair)) (carry (keeping node (with_said pair)) (with_said pair) said (weight_of pair.epoch index)) refl (carried (keeping node (with_said pair)) (with_said pair) said (weight_of pair.epoch index)))

reconnected : (node : NodeState) (pair : Pair) → Stays node (reconnect node pair)
unfolding reconnect
reconnected node pair = bound node (next_epoch pair) _ (λ next. refl)

-- ---- commands on messages and on a process's own end

send_stays : (node : NodeState) (by : ℕ) (to : Target) (said : Message) (room : Room) → Stays node (send_of node by to said room)
unfolding send_of
send_stays node by to said room = bound node (acting node by) _ (λ live. bound node (known node to) _ (λ there. bound node (fitting (payload_of to said)) _ (λ short. bound node (room_to_send node (pair_of node.pairs by to) room) _ (λ roomy. stopped node (say node (pair_of node.pairs by to) said) (is_said node (pair_of node.pairs by to) said)))))

again_stays : (node : NodeState) (by : ℕ) (to : Target) → Stays node (again_of node by to)
unfolding again_of
again_stays node by to = bound node (acting node by) _ (λ live. stopped node (reconnect node (pair_of node.pairs by to)) (reconnected node (pair_of node.pairs by to)))

receive_stays : (node : NodeState) (by : ℕ) (mark : List ℕ) → Stays node (receive_of node by mark)
unfolding receive_of
receive_stays node by mark = bound node (acting node by) _ (λ live. bound node (mailed (take_of node.mail by mark)) _ (λ taken. refl))

take_stays : (node : NodeState) (by port : ℕ) → Stays node (take_port node by port)
unfolding take_port
take_stays node by port = bound node (acting node by) _ (λ live. bound node (mailed (take_port_of node.mail by port)) _ (λ taken. refl))

port_stays : (node : NodeState) (by : ℕ) → Stays node (open_port node by)
unfolding open_port
port_stays node by = bound node (acting node by) _ (λ live. bound node (mailed (open_port_of node.mail by)) _ (λ opened. refl))

finish_stays : (node : NodeState) (by : ℕ) (reason : Reason) → Stays node (finish_of node by reason)
unfolding finish_of
finish_stays node by reason = bound node (acting node by) _ (λ live. stopped node (over node by reason) (is_over node by reason))

fall_stays : (node : NodeState) (by : ℕ) → Stays node (fall_of node by)
unfolding fall_of
fall_stays node by = bound node (falling node by) _ (λ text. stopped node (over node by (reasons.Exception text)) (is_over node by (reasons.Exception text)))

-- ---- commands on other processes and on names

watched : (node : NodeState) (by : ℕ) (kind : Kind) (target : ProcessId) → Stays node (watch node by kind target)
unfolding watch
watched node by kind target = bound node (watch_of node.watches by kind (ends.Process target)) _ (λ opened.
    later (acts.Note (notes.Watch (reference_to node opened.0) (process_id node by) target kind) ∷ []) node (record node { watches = opened.1 }) (ask (record node { watches = opened.1 }) target.node (watch_message kind (reference_to node opened.0) target)) refl (asked (record node { watches = opened.1 }) target.node (watch_message kind (reference_to node opened.0) target)))

watch_stays : (node : NodeState) (by : ℕ) (kind : Kind) (target : ProcessId) (room : Room) → Stays node (watch_by node by kind target room)
unfolding watch_by
watch_stays node by kind target room = bound node (acting node by) _ (λ live. bound node (not_full node target.node room) _ (λ roomy. stopped node (watch node by kind target) (watched node by kind target)))

unwatch_stays : (node : NodeState) (by : ℕ) (given : Ref) (room : Room) → Stays node (unwatch_by node by given room)
unfolding unwatch_by
unwatch_stays node by given room = bound node (acting node by) _ (λ live. bound node (ok_or (watch_under node by given) errors.NoRef) _ (λ waiting. bound node (not_full node (node_of waiting.target) room) _ (λ roomy. bound node (watching (unwatch_of node.watches by given.number)) _ (λ closed.
    stopped node (noting (notes.Unwatch given) (record node { watches = closed.1 }) and_then (λ n. ask n (node_of waiting.target) (unwatch_message waiting.kind given))) (later (acts.Note (notes.Unwatch given) ∷ []) node (record node { watches = closed.1 }) (ask (record node { watches = closed.1 }) (node_of waiting.target) (unwatch_message waiting.kind given)) refl (asked (record node { watches = closed.1 }) (node_of waiting.target) (unwatch_message waiting.kind given)))))))

doom_stays : (node : NodeState) (by : ℕ) (at : Address) (said : NodeMessage) (room : Room) → Stays node (doom_by node by at said room)
unfolding doom_by
doom_stays node by at said room = bound node (acting node by) _ (λ live. bound node (not_full node at room) _ (λ roomy. stopped node (ask node at said) (asked node at said)))

questioned : (node : NodeState) (by : ℕ) (kind : Kind) (at : Address) (said : Ref → NodeMessage) → Stays node (question node by kind at said)
unfolding question
questioned node by kind at said = bound node (watch_of node.watches by kind (ends.Node at)) _ (λ opened.
    later (asked_note node by at (reference_to node opened.0)) node (record node { watches = opened.1 }) (ask (record node { watches = opened.1 }) at (said (reference_to node opened.0))) refl (asked (record node { watches = opened.1 }) at (said (reference_to node opened.0))))

spawn_stays : (node : NodeState) (by : ℕ) (at : Address) (closure : Closure) (room : Room) → Stays node (spawn_by node by at closure room)
unfolding spawn_by
spawn_stays node by at closure room = bound node (acting node by) _ (λ live. bound node (fitting (spelling.message (messages.Spawn (reference_to node node.watches.next) closure.label closure.args))) _ (λ short. bound node (not_full node at room) _ (λ roomy. stopped node (question node by kinds.Spawn at (λ asked. messages.Spawn asked closure.label closure.args)) (questioned node by kinds.Spawn at (λ asked. messages.Spawn asked closure.label closure.args)))))

whereis_stays : (node : NodeState) (by : ℕ) (at : Address) (name : List ℕ) (room : Room) → Stays node (whereis_by node by at name room)
unfolding whereis_by
whereis_stays node by at name room = bound node (acting node by) _ (λ live. bound node (not_full node at room) _ (λ roomy. stopped node (question node by kinds.Ask at (λ asked. messages.WhereIs asked name)) (questioned node by kinds.Ask at (λ asked. messages.WhereIs asked name))))

register_stays : (node : NodeState) (by : ℕ) (name : List ℕ) → Stays node (register_by node by name)
unfolding register_by
register_stays node by name = bound node (acting node by) _ (λ live. bound node (watching (register_of node.watches name by)) _ (λ lists. refl))

unregister_stays : (node : NodeState) (by : ℕ) (name : List ℕ) → Stays node (unregister_by node by name)
unfolding unregister_by
unregister_stays node by name = bound node (acting node by) _ (λ live. bound node (watching (unregister_of node.watches name)) _ (λ taken. refl))

-- ---- the calls of a node

pub on_make : (node : NodeState) → Stays node (node_make node)
unfolding node_make
on_make node = by_test node.is_shut
  where
    by_test : (b : Bool) → Stays node (cond b (Err errors.Dead) (stopping (make node None [])))
    by_test true = tt
    by_test false = stopped node (make node None []) (made node None [])

pub on_command : (node : NodeState) (by : ℕ) (command : Command) (room : Room) → Stays node (node_command node by command room)
unfolding node_command
on_command node by (commands.Send to said) room = send_stays node by to said room
on_command node by (commands.Again to) room = again_stays node by to
on_command node by (commands.Receive mark) room = receive_stays node by mark
on_command node by commands.OpenPort room = port_stays node by
on_command node by (commands.Take port) room = take_stays node by port
on_command node by commands.End room = finish_stays node by reasons.Normal
on_command node by (commands.Fail text) room = finish_stays node by (reasons.Exception text)
on_command node by commands.Fall room = fall_stays node by
on_command node by (commands.Monitor target) room = watch_stays node by kinds.Monitor target room
on_command node by (commands.Link target) room = watch_stays node by kinds.Link target room
on_command node by (commands.Unwatch watch) room = unwatch_stays node by watch room
on_command node by (commands.Exit target text) room = doom_stays node by target.node (messages.Exit target text) room
on_command node by (commands.Kill target text) room = doom_stays node by target.node (messages.Kill target text) room
on_command node by (commands.Spawn at closure) room = spawn_stays node by at closure room
on_command node by (commands.Register name) room = register_stays node by name
on_command node by (commands.Unregister name) room = unregister_stays node by name
on_command node by (commands.WhereIs at name) room = whereis_stays node by at name room

pub on_shut : (node : NodeState) → Stays node (node_shut node)
unfolding node_shut
on_shut node = by_test node.is_shut
  where
    by_test : (b : Bool) → Stays node (cond b (Err errors.Dead) (Ok (acts.Note (notes.Shut node.own) ∷ [], record node { is_shut = true; mail = map downed node.mail; watches = shut_lists node.watches })))
    by_test true = tt
    by_test false = refl

-- ---- what comes on a connection

by_node : (node : NodeState) (peer : Address) (said : Result NodeMessage IdentError) → Stays node (from_node node peer said)
by_node node peer (Ok said) = by_test (is_for_peer peer said)
  where
    by_test : (b : Bool) → Stays node (cond b (handle node said) (silent node))
    by_test true = handled node said
    by_test false = refl
by_node node peer (Err e) = refl

by_name : (node : NodeState) (sender : ProcessId) (said : Result NodeMessage IdentError) → Stays node (to_name node sender said)
by_name node sender (Ok (messages.NamedSend name mark body)) = delivered node sender (targets.Named node.own name) (record { mark = mark; body = body })
by_name node sender said = refl

by_target : (node : NodeState) (sender : ProcessId) (to : Target) (said : Result Message IdentError) → Stays node (to_target node sender to said)
by_target node sender to (Ok said) = delivered node sender to said
by_target node sender to (Err e) = refl

bound_same : (conn : ℕ) (to : Bound) (all : List Arrived) → come_in (map (rebound conn to) all) ≡ come_in all
bound_same conn to [] = refl
bound_same conn to (a ∷ rest) = by_test (a.conn == conn) ∙ ap (λ (l : List (ℕ × Address)). (a.conn, a.peer) ∷ l) (bound_same conn to rest) where
  key : Arrived → ℕ × Address
  key x = (x.conn, x.peer)

  by_test : (b : Bool) → (key (cond b (record a { bound = to }) a) ∷ come_in (map (rebound conn to) rest)) ≡ ((a.conn, a.peer) ∷ come_in (map (rebound conn to) rest))
  by_test true = refl
  by_test false = refl

came_as : (node : NodeState) (arrived : Arrived) (payload : List ℕ) (bound : Bound) → Stays node (received_as node arrived payload bound)
unfolding bind
came_as node arrived payload Unread = bound_same arrived.conn (bound_by node arrived.peer (message_of payload)) node.arrived
came_as node arrived payload Void = refl
came_as node arrived payload FromNode = by_node node arrived.peer (message_of payload)
came_as node arrived payload (ToNames sender) = by_name node sender (message_of payload)
came_as node arrived payload (ToTarget sender to) = by_target node sender to (user_of payload)

came_on : (node : NodeState) (payload : List ℕ) (arrived : Option Arrived) → Stays node (received_on node payload arrived)
came_on node payload None = refl
came_on node payload (Some arrived) = came_as node arrived payload arrived.bound

pub came : (node : NodeState) (conn : ℕ) (payload : List ℕ) → Stays node (received node conn payload)
unfolding received
came node conn payload = came_on node payload (find (λ arrived. arrived.conn == conn) node.arrived)

lost_one : (why : Why) (waiting : Waiting) (node : NodeState) → Stays node (lost_told why waiting node)
unfolding lost_told
lost_one why waiting node = told_by_kind waiting.kind node (reference_to node waiting.number) (reason_of why) waiting.owner

pub lost : (node : NodeState) (peer : Address) (why : Why) → LostStays peer node (peer_lost node peer why)
unfolding peer_lost
lost node peer why = by_pairs (lost_pairs peer node.pairs) where
  now : List Pair → NodeState
  now pairs = record node { watches = (lost_of node.watches peer).1; pairs = pairs; to_nodes = filter (λ known. not (same_node known.0 peer)) node.to_nodes; arrived = filter (λ arrived. not (same_node arrived.peer peer)) node.arrived }

  by_done : (pairs : List Pair) (r : Done) → Stays (now pairs) r → LostStays peer node r
  by_done pairs (Ok done) k = k
  by_done pairs (Err stop) k = tt

  by_pairs : (r : Result (List Pair) Stop) → LostStays peer node (r >>= (λ pairs. each_in_turn (lost_told why) (lost_of node.watches peer).0 (now pairs)))
  by_pairs (Ok pairs) = by_done pairs (each_in_turn (lost_told why) (lost_of node.watches peer).0 (now pairs)) (in_turn (lost_told why) (lost_of node.watches peer).0 (now pairs) (lost_one why))
  by_pairs (Err stop) = tt
