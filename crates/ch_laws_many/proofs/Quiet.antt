-- What a node does of itself tells nothing that only a line does: it says, takes, opens, watches and asks nothing, and isn't shut.
use Rattle.std.proofs.Common.{◌≡◌, ℕ, Bool, true, false, cond, List, [], ◌∷◌, ◌++◌, map, Ok, Err, refl}
use Rattle.std.specs.Prelude.{Result, Option, Some, None, find, is_some, ◌==◌, codes}
use Rattle.ch_base.specs.declared.address.Address.{Address}
use Rattle.ch_base.specs.declared.event.Event.{Event}
use Rattle.ch_base.specs.declared.event.Event.TheVariants.{ConnectionOpened, Received, ConnectionClosed, EndPointClosed, ConnectionLost}
use Rattle.ch_base.specs.declared.event.Room.{Room}
use Rattle.ch_base.specs.declared.event.Why.{Why}
use Rattle.ch_ident.specs.Reading.{message_of, user_of}
use Rattle.ch_ident.specs.declared.error.IdentError.{IdentError}
use Rattle.ch_ident.specs.declared.identifier.ProcessId.{ProcessId}
use Rattle.ch_ident.specs.declared.identifier.Ref.{Ref}
use Rattle.ch_ident.specs.declared.message.Message.{Message}
use Rattle.ch_ident.specs.declared.node_message.NodeMessage.{NodeMessage}
use Rattle.ch_ident.specs.declared.node_message.NodeMessage.TheVariants as messages
use Rattle.ch_ident.specs.declared.reason.Reason.{Reason}
use Rattle.ch_ident.specs.declared.reason.Reason.TheVariants as reasons
use Rattle.ch_mail.specs.Mail.{make_of, end_of, doom_of, put_of, take_of}
use Rattle.ch_mail.specs.Process.{Process}
use Rattle.ch_mail.specs.declared.error.MailError.{MailError}
use Rattle.ch_mail.specs.declared.error.MailError.TheVariants as mails
use Rattle.ch_static.specs.Labels.{place_of}
use Rattle.ch_static.specs.declared.target.Target.{Target}
use Rattle.ch_static.specs.declared.target.Target.TheVariants as targets
use Rattle.ch_watch.specs.Watches.{ended_of, lost_of, arrive_of}
use Rattle.ch_watch.specs.declared.waiting.Kind.{Kind}
use Rattle.ch_watch.specs.declared.waiting.Kind.TheVariants as kinds
use Rattle.ch_watch.specs.declared.waiting.Waiting.{Waiting}
use Rattle.ch_model.specs.declared.act.Act.{Act}
use Rattle.ch_model.specs.declared.act.Act.TheVariants as acts
use Rattle.ch_model.specs.declared.command.CommandError.TheVariants as errors
use Rattle.ch_model.specs.declared.note.Note.{Note}
use Rattle.ch_model.specs.declared.note.Note.TheVariants as notes
use Rattle.ch_model.specs.declared.step.Weight.{Weight}
use Rattle.ch_model.specs.declared.step.Weight.TheVariants.{Free}
use Rattle.ch_model.specs.NodeState.{NodeState, Pair, Mark, Unopened, Opened, Broken, Bound, Unread, Void, FromNode, ToNames, ToTarget, Arrived}
use Rattle.ch_model.specs.NodeActs.{◌>>=◌, Done, after, each_in_turn, stopping, mailed, or_unchanged, growing, noting, doing, silent, ◌and_then◌}
use Rattle.ch_model.specs.NodeIds.{process_id, is_here, is_living, target_at}
use Rattle.ch_model.specs.NodePairs.{pair_of, keeping, lost_pairs, conns_by}
use Rattle.ch_model.specs.NodeConnections.{drawn, tell_first, tell_on, conn_to, tell_node, opening}
use Rattle.ch_model.specs.NodeLives.{make, with_process, doom, mail_to, link_text, exit_text, kill_text}
use Rattle.ch_model.specs.NodeWatches.{closing, monitor_told, link_told, told_as, told_closed, told, tell_end, absent, watch_arrives, watch_leaves}
use Rattle.ch_model.specs.NodeEnds.{fallen, farewell, bereft, over}
use Rattle.ch_model.specs.NodeAsks.{spawned_closed, spawned, tell_spawned, fail_unlabelled, origin_of, spawn_arrives, found_closed, found, tell_found, standing, question_arrives, doom_arrives}
use Rattle.ch_model.specs.NodeMessages.{handle, is_for_peer}
use Rattle.ch_model.specs.NodeSends.{got_put, get, get_standing, deliver, payload_of, weight_of, send_first, send_on, carry, with_said, say}
use Rattle.ch_model.specs.NodeRoom.{acting, known, fitting, room_to_send}
use Rattle.ch_model.specs.NodeCommands.{send_of, receive_of, finish_of}
use Rattle.ch_model.specs.NodeArrivals.{from_node, to_name, to_target, received_as, received_on, received, lost_told, peer_lost}
use Rattle.ch_model.specs.Node.{node_make, node_event}

-- the note is of nothing that only a line does
abbrev pub is_quiet : Note → Bool
is_quiet (notes.Said by to epoch index message) = false
is_quiet (notes.Again by to epoch) = false
is_quiet (notes.Took by port message) = false
is_quiet (notes.Port port) = false
is_quiet (notes.Watch watch by target kind) = false
is_quiet (notes.Unwatch watch) = false
is_quiet (notes.Asked question by at) = false
is_quiet (notes.Shut node) = false
is_quiet note = true

abbrev pub AreQuiet : List Act → Type 0
AreQuiet [] = Unit {0}
AreQuiet (acts.Note note ∷ rest) = (is_quiet note ≡ true) × AreQuiet rest
AreQuiet (act ∷ rest) = AreQuiet rest

-- the node isn't shut
abbrev pub ShutsNot : Note → Type 0
ShutsNot (notes.Shut node) = ⊥
ShutsNot note = Unit {0}

pub quiet_shuts_not : (note : Note) → is_quiet note ≡ true → ShutsNot note
quiet_shuts_not (notes.Shut node) q = absurd cc
quiet_shuts_not note q = tt

-- all but the first are, which doesn't shut the node
abbrev pub RestQuiet : List Act → Type 0
RestQuiet [] = Unit {0}
RestQuiet (acts.Note note ∷ rest) = ShutsNot note × AreQuiet rest
RestQuiet (act ∷ rest) = AreQuiet rest

abbrev pub Quiet : {E : Type 0} → Result (List Act × NodeState) E → Type 0
Quiet (Ok done) = AreQuiet done.0
Quiet (Err e) = Unit {0}

abbrev pub Rest : {E : Type 0} → Result (List Act × NodeState) E → Type 0
Rest (Ok done) = RestQuiet done.0
Rest (Err e) = Unit {0}

rest_of : (all : List Act) → AreQuiet all → RestQuiet all
rest_of [] q = tt
rest_of (acts.Note note ∷ rest) q = (quiet_shuts_not note q.0, q.1)
rest_of (acts.Open conn peer ∷ rest) q = q
rest_of (acts.Put conn payload weight ∷ rest) q = q
rest_of (acts.Close conn ∷ rest) q = q

pub as_rest : {E : Type 0} (done : Result (List Act × NodeState) E) → Quiet done → Rest done
as_rest (Ok done) q = rest_of done.0 q
as_rest (Err e) q = tt

-- ---- one thing and then another

both : (xs ys : List Act) → AreQuiet xs → AreQuiet ys → AreQuiet (xs ++ ys)
both [] ys a b = b
both (acts.Note note ∷ xs) ys a b = (a.0, both xs ys a.1 b)
both (acts.Open conn peer ∷ xs) ys a b = both xs ys a b
both (acts.Put conn payload weight ∷ xs) ys a b = both xs ys a b
both (acts.Close conn ∷ xs) ys a b = both xs ys a b

before : (xs : List Act) (done : Done) → AreQuiet xs → Quiet done → Quiet (after xs done)
before xs (Ok done) a q = both xs done.0 a q
before xs (Err stop) a q = tt

in_turn : (done : Done) (f : NodeState → Done) → Quiet done → ((n : NodeState) → Quiet (f n)) → Quiet (done and_then f)
in_turn (Ok done) f q k = before done.0 (f done.1) q (k done.1)
in_turn (Err stop) f q k = tt

bound : {A E : Type 0} (given : Result A E) (f : A → Result (List Act × NodeState) E) → ((x : A) → Quiet (f x)) → Quiet (given >>= f)
bound (Ok x) f k = k x
bound (Err e) f k = tt

rest_bound : {A E : Type 0} (given : Result A E) (f : A → Result (List Act × NodeState) E) → ((x : A) → Rest (f x)) → Rest (given >>= f)
rest_bound (Ok x) f k = k x
rest_bound (Err e) f k = tt

all_in_turn : {A : Type 0} (f : A → NodeState → Done) (xs : List A) (node : NodeState) → ((x : A) (n : NodeState) → Quiet (f x n)) → Quiet (each_in_turn f xs node)
all_in_turn f [] node k = tt
all_in_turn f (x ∷ rest) node k = in_turn (f x node) (λ n. each_in_turn f rest n) (k x node) (λ n. all_in_turn f rest n k)

stopped : (done : Done) → Quiet done → Quiet (stopping done)
stopped (Ok done) q = q
stopped (Err stop) q = tt

rest_stopped : (done : Done) → Rest done → Rest (stopping done)
rest_stopped (Ok done) q = q
rest_stopped (Err stop) q = tt

-- ---- messages to other nodes

node_told : (node : NodeState) (peer : Address) (said : NodeMessage) (weight : Weight) → Quiet (tell_node node peer said weight)
unfolding tell_node tell_first opening
node_told node peer said weight = by_conn (conn_to node peer) where
  by_conn : (o : Option ℕ) → Quiet (tell_on node peer said weight o)
  by_conn None = bound (drawn node) _ (λ conn. tt)
  by_conn (Some conn) = tt

-- ---- watches are told

doomed : (node : NodeState) (number : ℕ) (text : List ℕ) → Quiet (doom node number text)
unfolding doom
doomed node number text = by_test (doom_of node.mail number text).0 where
  by_test : (b : Bool) → AreQuiet (cond b (acts.Note (notes.Doom (process_id node number) text) ∷ []) [])
  by_test true = (refl, tt)
  by_test false = tt

kind_told : (kind : Kind) (node : NodeState) (watch : Ref) (reason : Reason) (owner : ℕ) → Quiet (told_as kind node watch reason owner)
unfolding monitor_told link_told
kind_told kinds.Monitor node watch reason owner = bound (mail_to node owner _ _) _ (λ m. (refl, tt))
kind_told kinds.Link node watch reason owner = in_turn (noting (notes.Told watch reason) node) (λ n. doom n owner (link_text reason)) (refl, tt) (λ n. doomed n owner (link_text reason))
kind_told kinds.Spawn node watch reason owner = tt
kind_told kinds.Ask node watch reason owner = tt

closed_told : (node : NodeState) (watch : Ref) (reason : Reason) (o : Option (Waiting × NodeState)) → Quiet (told_closed node watch reason o)
closed_told node watch reason None = tt
closed_told node watch reason (Some closed) = kind_told closed.0.kind closed.1 watch reason closed.0.owner

watch_told : (node : NodeState) (watch : Ref) (reason : Reason) → Quiet (told node watch reason)
unfolding told
watch_told node watch reason = closed_told node watch reason (closing node kinds.Monitor watch)

end_told : (node : NodeState) (watch : Ref) (reason : Reason) → Quiet (tell_end node watch reason)
unfolding tell_end
end_told node watch reason = by_test (is_here node watch.node) where
  by_test : (b : Bool) → Quiet (cond b (told node watch reason) (tell_node node watch.node (messages.Died watch reason) Free))
  by_test true = watch_told node watch reason
  by_test false = node_told node watch.node (messages.Died watch reason) Free

-- ---- ends

names_fall : (node : NodeState) (names : List (List ℕ)) → AreQuiet (map (fallen node) names)
names_fall node [] = tt
names_fall node (name ∷ rest) = (refl, names_fall node rest)

all_close : (conns : List ℕ) → AreQuiet (map (λ conn. acts.Close conn) conns)
all_close [] = tt
all_close (conn ∷ rest) = all_close rest

parting : (node : NodeState) (number : ℕ) (reason : Reason) (names : List (List ℕ)) → AreQuiet (farewell node number reason names)
unfolding farewell
parting node number reason names = (refl, both (map (fallen node) names) (map (λ conn. acts.Close conn) (conns_by node.pairs number)) (names_fall node names) (all_close (conns_by node.pairs number)))

ended : (node : NodeState) (number : ℕ) (reason : Reason) → Quiet (over node number reason)
unfolding over
ended node number reason = bound (or_unchanged node.mail (end_of node.mail number reason)) _ (λ mail.
    in_turn (doing (farewell node number reason (ended_of node.watches number).0.names) (bereft node mail (ended_of node.watches number).1 number)) (λ n. each_in_turn (λ watch m. tell_end m watch reason) (ended_of node.watches number).0.watches n)
    (parting node number reason (ended_of node.watches number).0.names)
    (λ n. all_in_turn (λ watch m. tell_end m watch reason) (ended_of node.watches number).0.watches n (λ watch m. end_told m watch reason)))

-- ---- what another node asks

lacking : (node : NodeState) (watch : Ref) → Quiet (absent node watch)
unfolding absent
lacking node watch = in_turn (noting (notes.Absent watch) node) (λ n. tell_end n watch reasons.UnknownId) (refl, tt) (λ n. end_told n watch reasons.UnknownId)

watch_came : (node : NodeState) (watch : Ref) (target : ProcessId) → Quiet (watch_arrives node watch target)
unfolding watch_arrives
watch_came node watch target = by_test (is_living node target) where
  by_test : (b : Bool) → Quiet (cond b (silent (record node { watches = arrive_of node.watches target.counter watch })) (absent node watch))
  by_test true = tt
  by_test false = lacking node watch

watch_left : (node : NodeState) (watch : Ref) → Quiet (watch_leaves node watch)
unfolding watch_leaves
watch_left node watch = tt

spawn_closed : (node : NodeState) (question : Ref) (process : ProcessId) (o : Option (Waiting × NodeState)) → Quiet (spawned_closed node question process o)
spawn_closed node question process None = tt
spawn_closed node question process (Some closed) = bound (mail_to closed.1 closed.0.owner _ _) _ (λ m. (refl, tt))

spawn_answered : (node : NodeState) (question : Ref) (process : ProcessId) → Quiet (spawned node question process)
unfolding spawned
spawn_answered node question process = spawn_closed node question process (closing node kinds.Spawn question)

spawn_told : (node : NodeState) (question : Ref) (process : ProcessId) → Quiet (tell_spawned node question process)
unfolding tell_spawned
spawn_told node question process = by_test (is_here node question.node) where
  by_test : (b : Bool) → Quiet (cond b (spawned node question process) (tell_node node question.node (messages.DidSpawn question process) Free))
  by_test true = spawn_answered node question process
  by_test false = node_told node question.node (messages.DidSpawn question process) Free

unlabelled : (node : NodeState) (label : List ℕ) (number : ℕ) → Quiet (fail_unlabelled node label number)
unfolding fail_unlabelled
unlabelled node label number = by_test (is_some (place_of node.labels label)) where
  by_test : (b : Bool) → Quiet (cond b (silent node) (over node number (reasons.Exception (codes "unknown label"))))
  by_test true = tt
  by_test false = ended node number (reasons.Exception (codes "unknown label"))

spawn_came : (node : NodeState) (question : Ref) (label args : List ℕ) → Quiet (spawn_arrives node question label args)
unfolding spawn_arrives
spawn_came node question label args = bound (make_of node.mail) _ (λ made.
    in_turn (noting (notes.Made (process_id node made.0) (Some (origin_of question label))) (with_process node made.1 args) and_then (λ n. fail_unlabelled n label made.0)) (λ n. tell_spawned n question (process_id n made.0))
    (in_turn (noting (notes.Made (process_id node made.0) (Some (origin_of question label))) (with_process node made.1 args)) (λ n. fail_unlabelled n label made.0) (refl, tt) (λ n. unlabelled n label made.0))
    (λ n. spawn_told n question (process_id n made.0)))

finding_closed : (node : NodeState) (question : Ref) (at : Option ProcessId) (o : Option (Waiting × NodeState)) → Quiet (found_closed node question at o)
finding_closed node question at None = tt
finding_closed node question at (Some closed) = bound (mail_to closed.1 closed.0.owner _ _) _ (λ m. (refl, tt))

found_answered : (node : NodeState) (question : Ref) (at : Option ProcessId) → Quiet (found node question at)
unfolding found
found_answered node question at = finding_closed node question at (closing node kinds.Ask question)

question_came : (node : NodeState) (question : Ref) (name : List ℕ) → Quiet (question_arrives node question name)
unfolding question_arrives tell_found
question_came node question name = by_test (is_here node question.node) where
  by_test : (b : Bool) → Quiet (cond b (found node question (standing node name)) (tell_node node question.node (messages.IsAt question (standing node name)) Free))
  by_test true = found_answered node question (standing node name)
  by_test false = node_told node question.node (messages.IsAt question (standing node name)) Free

doom_came : (node : NodeState) (target : ProcessId) (given text : List ℕ) → Quiet (doom_arrives node target given text)
unfolding doom_arrives
doom_came node target given text = by_test _ where
  by_test : (b : Bool) → Quiet (cond b (doom node target.counter text) (silent node))
  by_test true = doomed node target.counter text
  by_test false = tt

handled : (node : NodeState) (asked : NodeMessage) → Quiet (handle node asked)
unfolding handle
handled node (messages.Monitor watch target) = watch_came node watch target
handled node (messages.Unmonitor watch) = watch_left node watch
handled node (messages.Link watch target) = watch_came node watch target
handled node (messages.Unlink watch) = watch_left node watch
handled node (messages.Spawn question label args) = spawn_came node question label args
handled node (messages.DidSpawn question process) = spawn_answered node question process
handled node (messages.Died watch reason) = watch_told node watch reason
handled node (messages.WhereIs question name) = question_came node question name
handled node (messages.IsAt question at) = found_answered node question at
handled node (messages.Exit target text) = doom_came node target text (exit_text text)
handled node (messages.Kill target text) = doom_came node target text (kill_text text)
handled node other = tt

-- ---- messages

put_got : (node : NodeState) (from : ProcessId) (to : Target) (receiver : ProcessId) (done : Result (List Process) MailError) → Quiet (got_put node from to receiver done)
put_got node from to receiver (Ok mail) = (refl, tt)
put_got node from to receiver (Err mails.NotLive) = tt
put_got node from to receiver (Err mails.Empty) = tt
put_got node from to receiver (Err mails.OutOfMemory) = tt
put_got node from to receiver (Err mails.Worn) = tt

got : (node : NodeState) (from : ProcessId) (to : Target) (receiver : ProcessId) (port : Option ℕ) (said : Message) → Quiet (get node from to receiver port said)
unfolding get
got node from to receiver port said = put_got node from to receiver (put_of node.mail receiver.counter port said)

standing_got : (node : NodeState) (from : ProcessId) (to : Target) (said : Message) (o : Option ProcessId) → Quiet (get_standing node from to said o)
standing_got node from to said None = (refl, tt)
standing_got node from to said (Some receiver) = got node from to receiver None said

delivered : (node : NodeState) (from : ProcessId) (to : Target) (said : Message) → Quiet (deliver node from to said)
unfolding deliver
delivered node from (targets.Process process) said = got node from (targets.Process process) process None said
delivered node from (targets.Port port) said = got node from (targets.Port port) port.process (Some port.port) said
delivered node from (targets.Named at name) said = standing_got node from (targets.Named at name) said (standing node name)

sent_on : (node : NodeState) (pair : Pair) (said : Message) (weight : Weight) (mark : Mark) → Quiet (send_on node pair said weight mark)
unfolding send_first opening
sent_on node pair said weight Unopened = bound (drawn node) _ (λ conn. tt)
sent_on node pair said weight (Opened conn) = tt
sent_on node pair said weight Broken = tt

carried : (node : NodeState) (pair : Pair) (said : Message) (weight : Weight) → Quiet (carry node pair said weight)
unfolding carry
carried node pair said weight = by_test (is_here node (target_at pair.to)) where
  by_test : (b : Bool) → Quiet (cond b (deliver node (process_id node pair.by) pair.to said) (send_on node pair said weight pair.mark))
  by_test true = delivered node (process_id node pair.by) pair.to said
  by_test false = sent_on node pair said weight pair.mark

-- ---- events

asked_by : (node : NodeState) (peer : Address) (read : Result NodeMessage IdentError) → Quiet (from_node node peer read)
asked_by node peer (Err e) = tt
asked_by node peer (Ok asked) = by_test (is_for_peer peer asked) where
  by_test : (b : Bool) → Quiet (cond b (handle node asked) (silent node))
  by_test true = handled node asked
  by_test false = tt

named_by : (node : NodeState) (from : ProcessId) (read : Result NodeMessage IdentError) → Quiet (to_name node from read)
named_by node from (Ok (messages.NamedSend name mark body)) = delivered node from (targets.Named node.own name) (record { mark = mark; body = body })
named_by node from (Ok other) = tt
named_by node from (Err e) = tt

sent_to : (node : NodeState) (from : ProcessId) (to : Target) (read : Result Message IdentError) → Quiet (to_target node from to read)
sent_to node from to (Ok said) = delivered node from to said
sent_to node from to (Err e) = tt

payload_came : (node : NodeState) (arrived : Arrived) (payload : List ℕ) (b : Bound) → Quiet (received_as node arrived payload b)
payload_came node arrived payload Unread = tt
payload_came node arrived payload Void = tt
payload_came node arrived payload FromNode = asked_by node arrived.peer (message_of payload)
payload_came node arrived payload (ToNames from) = named_by node from (message_of payload)
payload_came node arrived payload (ToTarget from to) = sent_to node from to (user_of payload)

came_on : (node : NodeState) (payload : List ℕ) (o : Option Arrived) → Quiet (received_on node payload o)
came_on node payload None = tt
came_on node payload (Some arrived) = payload_came node arrived payload arrived.bound

peer_gone : (node : NodeState) (peer : Address) (why : Why) → Quiet (peer_lost node peer why)
unfolding peer_lost lost_told
peer_gone node peer why = bound (lost_pairs peer node.pairs) _ (λ pairs. all_in_turn (lost_told why) (lost_of node.watches peer).0 _ (λ waiting n. kind_told waiting.kind n _ _ waiting.owner))

pub event_quiet : (node : NodeState) (event : Event) → Quiet (node_event node event)
unfolding node_event received
event_quiet node (ConnectionOpened conn peer) = tt
event_quiet node (Received conn payload) = came_on node payload (find (λ arrived. arrived.conn == conn) node.arrived)
event_quiet node (ConnectionClosed conn) = tt
event_quiet node EndPointClosed = tt
event_quiet node (ConnectionLost peer why) = peer_gone node peer why

-- ---- lines of many nodes

pub make_quiet : (node : NodeState) → Quiet (node_make node)
unfolding node_make make
make_quiet node = by_test node.is_shut where
  by_test : (b : Bool) → Quiet (cond b (Err errors.Dead) (stopping (make node None [])))
  by_test true = tt
  by_test false = stopped (make node None []) (bound (make_of node.mail) _ (λ made. (refl, tt)))

pub finish_quiet : (node : NodeState) (by : ℕ) (reason : Reason) → Quiet (finish_of node by reason)
unfolding finish_of
finish_quiet node by reason = bound (acting node by) _ (λ live. stopped (over node by reason) (ended node by reason))

said_on : (said : Note) (done : Done) → ShutsNot said → Quiet done → Rest (after (acts.Note said ∷ []) done)
said_on said (Ok done) not q = (not, q)
said_on said (Err stop) not q = tt

-- what is said goes on quietly
pub send_rest : (node : NodeState) (by : ℕ) (to : Target) (said : Message) (room : Room) → Rest (send_of node by to said room)
unfolding send_of say
send_rest node by to said room = rest_bound (acting node by) _ (λ live. rest_bound (known node to) _ (λ there. rest_bound (fitting (payload_of to said)) _ (λ short. rest_bound (room_to_send node (pair_of node.pairs by to) room) _ (λ roomy.
    rest_stopped (say node (pair_of node.pairs by to) said) (rest_bound (growing (pair_of node.pairs by to).index) _ (λ index. said_on (notes.Said (process_id node (pair_of node.pairs by to).by) (pair_of node.pairs by to).to (pair_of node.pairs by to).epoch index said) (carry (keeping node (with_said (pair_of node.pairs by to))) (with_said (pair_of node.pairs by to)) said (weight_of (pair_of node.pairs by to).epoch index)) tt
    (carried (keeping node (with_said (pair_of node.pairs by to))) (with_said (pair_of node.pairs by to)) said (weight_of (pair_of node.pairs by to).epoch index))))))))

pub receive_rest : (node : NodeState) (by : ℕ) (mark : List ℕ) → Rest (receive_of node by mark)
unfolding receive_of
receive_rest node by mark = rest_bound (acting node by) _ (λ live. rest_bound (mailed (take_of node.mail by mark)) _ (λ taken. (tt, tt)))
