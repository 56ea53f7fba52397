-- What a node makes of an event tells no end but of a process just made for a spawn.
use Rattle.std.proofs.Common.{◌≡◌, ℕ, Bool, true, false, cond, List, [], ◌∷◌, ◌++◌, map, Ok, Err, refl, sym, ap}
use Rattle.std.specs.Prelude.{Result, Option, Some, None, find, is_some, ◌==◌}
use Rattle.ch_base.specs.declared.address.Address.{Address}
use Rattle.ch_base.specs.declared.event.Event.{Event}
use Rattle.ch_base.specs.declared.event.Event.TheVariants.{ConnectionOpened, Received, ConnectionClosed, EndPointClosed, ConnectionLost}
use Rattle.ch_base.specs.declared.event.Why.{Why}
use Rattle.ch_ident.specs.Reading.{message_of, user_of}
use Rattle.ch_ident.specs.declared.error.IdentError.{IdentError}
use Rattle.ch_ident.specs.declared.identifier.ProcessId.{ProcessId}
use Rattle.ch_ident.specs.declared.identifier.Ref.{Ref}
use Rattle.ch_ident.specs.declared.message.Message.{Message}
use Rattle.ch_ident.specs.declared.node_message.NodeMessage.{NodeMessage}
use Rattle.ch_ident.specs.declared.node_message.NodeMessage.TheVariants as messages
use Rattle.ch_ident.specs.declared.reason.Reason.{Reason}
use Rattle.ch_ident.specs.declared.reason.Reason.TheVariants as reasons
use Rattle.ch_mail.specs.Mail.{make_of, end_of, doom_of, put_of}
use Rattle.ch_mail.specs.Process.{Process}
use Rattle.ch_mail.specs.declared.error.MailError.{MailError}
use Rattle.ch_mail.specs.declared.error.MailError.TheVariants as mails
use Rattle.ch_static.specs.Labels.{place_of}
use Rattle.ch_static.specs.declared.target.Target.{Target}
use Rattle.ch_static.specs.declared.target.Target.TheVariants as targets
use Rattle.ch_watch.specs.Watches.{ended_of, lost_of, arrive_of}
use Rattle.ch_watch.specs.declared.waiting.Kind.{Kind}
use Rattle.ch_watch.specs.declared.waiting.Kind.TheVariants as kinds
use Rattle.ch_watch.specs.declared.waiting.Waiting.{Waiting}
use Rattle.ch_model.specs.declared.act.Act.{Act}
use Rattle.ch_model.specs.declared.act.Act.TheVariants as acts
use Rattle.ch_model.specs.declared.note.Note.{Note}
use Rattle.ch_model.specs.declared.note.Note.TheVariants as notes
use Rattle.ch_model.specs.declared.step.Weight.{Weight}
use Rattle.ch_model.specs.declared.step.Weight.TheVariants.{Counted, Free}
use Rattle.ch_model.specs.LifeRules.{unlabelled}
use Rattle.ch_model.specs.NodeState.{NodeState, Pair, Mark, Unopened, Opened, Broken, Bound, Unread, Void, FromNode, ToNames, ToTarget, Arrived}
use Rattle.ch_model.specs.NodeActs.{◌>>=◌, Done, after, each_in_turn, stopping, or_unchanged, noting, doing, silent, ◌and_then◌}
use Rattle.ch_model.specs.NodeIds.{process_id, is_here, is_living, target_at}
use Rattle.ch_model.specs.NodePairs.{lost_pairs, conns_by}
use Rattle.ch_model.specs.NodeConnections.{drawn, tell_first, tell_on, conn_to, tell_node, opening}
use Rattle.ch_model.specs.NodeLives.{with_process, doom, mail_to, link_text, exit_text, kill_text}
use Rattle.ch_model.specs.NodeWatches.{closing, monitor_told, link_told, told_as, told_closed, told, tell_end, absent, watch_arrives, watch_leaves}
use Rattle.ch_model.specs.NodeEnds.{fallen, farewell, bereft, over}
use Rattle.ch_model.specs.NodeAsks.{spawned_closed, spawned, tell_spawned, fail_unlabelled, origin_of, spawn_arrives, found_closed, found, tell_found, standing, question_arrives, doom_arrives}
use Rattle.ch_model.specs.NodeMessages.{handle, is_for_peer, ask}
use Rattle.ch_model.specs.NodeSends.{got_put, get, get_standing, deliver, send_first, send_on, carry}
use Rattle.ch_model.specs.NodeArrivals.{from_node, to_name, to_target, received_as, received_on, received, lost_told, peer_lost}
use Rattle.ch_model.specs.Node.{node_event}
use Rattle.ch_laws_endings.specs.Causes.{spawned_by, HasCause, AreCaused, EndsFirst}

-- what was done tells no end but of a process just made for a spawn
abbrev pub Caused : {E : Type 0} → Result (List Act × NodeState) E → Type 0
Caused (Ok done) = AreCaused None done.0
Caused (Err e) = Unit {0}

-- what was done tells this end first
abbrev pub Ended : {E : Type 0} → ProcessId → Reason → Result (List Act × NodeState) E → Type 0
Ended process reason (Ok done) = EndsFirst process reason done.0
Ended process reason (Err e) = Unit {0}

-- ---- one thing and then another

pub weaker_note : (made : Option ProcessId) (note : Note) → HasCause None note → HasCause made note
weaker_note made (notes.Over process reason) c = let e : None ≡ Some process = c.0 in absurd cc
weaker_note made note c = tt

weaker : (made : Option ProcessId) (all : List Act) → AreCaused None all → AreCaused made all
weaker made [] c = tt
weaker made (acts.Note note ∷ rest) c = (weaker_note made note c.0, c.1)
weaker made (acts.Open conn peer ∷ rest) c = c
weaker made (acts.Put conn payload weight ∷ rest) c = c
weaker made (acts.Close conn ∷ rest) c = c

both : (made : Option ProcessId) (xs ys : List Act) → AreCaused made xs → AreCaused None ys → AreCaused made (xs ++ ys)
both made [] ys a b = weaker made ys b
both made (acts.Note note ∷ xs) ys a b = (a.0, both (spawned_by note) xs ys a.1 b)
both made (acts.Open conn peer ∷ xs) ys a b = both None xs ys a b
both made (acts.Put conn payload weight ∷ xs) ys a b = both None xs ys a b
both made (acts.Close conn ∷ xs) ys a b = both None xs ys a b

before : (xs : List Act) (done : Done) → AreCaused None xs → Caused done → Caused (after xs done)
before xs (Ok done) a c = both None xs done.0 a c
before xs (Err stop) a c = tt

pub in_turn : (done : Done) (f : NodeState → Done) → Caused done → ((n : NodeState) → Caused (f n)) → Caused (done and_then f)
in_turn (Ok done) f c k = before done.0 (f done.1) c (k done.1)
in_turn (Err stop) f c k = tt

pub bound : {A E : Type 0} (given : Result A E) (f : A → Result (List Act × NodeState) E) → ((x : A) → Caused (f x)) → Caused (given >>= f)
bound (Ok x) f k = k x
bound (Err e) f k = tt

all_in_turn : {A : Type 0} (f : A → NodeState → Done) (xs : List A) (node : NodeState) → ((x : A) (n : NodeState) → Caused (f x n)) → Caused (each_in_turn f xs node)
all_in_turn f [] node k = tt
all_in_turn f (x ∷ rest) node k = in_turn (f x node) (λ n. each_in_turn f rest n) (k x node) (λ n. all_in_turn f rest n k)

pub stopped : (done : Done) → Caused done → Caused (stopping done)
stopped (Ok done) c = c
stopped (Err stop) c = tt

-- ---- messages to other nodes

node_told : (node : NodeState) (peer : Address) (said : NodeMessage) (weight : Weight) → Caused (tell_node node peer said weight)
unfolding tell_node tell_first opening
node_told node peer said weight = by_conn (conn_to node peer) where
  by_conn : (o : Option ℕ) → Caused (tell_on node peer said weight o)
  by_conn None = bound (drawn node) _ (λ conn. tt)
  by_conn (Some conn) = tt

-- ---- watches are told

doomed : (node : NodeState) (number : ℕ) (text : List ℕ) → Caused (doom node number text)
unfolding doom
doomed node number text = by_test (doom_of node.mail number text).0 where
  by_test : (b : Bool) → AreCaused None (cond b (acts.Note (notes.Doom (process_id node number) text) ∷ []) [])
  by_test true = (tt, tt)
  by_test false = tt

kind_told : (kind : Kind) (node : NodeState) (watch : Ref) (reason : Reason) (owner : ℕ) → Caused (told_as kind node watch reason owner)
unfolding monitor_told link_told
kind_told kinds.Monitor node watch reason owner = bound (mail_to node owner _ _) _ (λ m. (tt, tt))
kind_told kinds.Link node watch reason owner = in_turn (noting (notes.Told watch reason) node) (λ n. doom n owner (link_text reason)) (tt, tt) (λ n. doomed n owner (link_text reason))
kind_told kinds.Spawn node watch reason owner = tt
kind_told kinds.Ask node watch reason owner = tt

closed_told : (node : NodeState) (watch : Ref) (reason : Reason) (o : Option (Waiting × NodeState)) → Caused (told_closed node watch reason o)
closed_told node watch reason None = tt
closed_told node watch reason (Some closed) = kind_told closed.0.kind closed.1 watch reason closed.0.owner

watch_told : (node : NodeState) (watch : Ref) (reason : Reason) → Caused (told node watch reason)
unfolding told
watch_told node watch reason = closed_told node watch reason (closing node kinds.Monitor watch)

end_told : (node : NodeState) (watch : Ref) (reason : Reason) → Caused (tell_end node watch reason)
unfolding tell_end
end_told node watch reason = by_test (is_here node watch.node) where
  by_test : (b : Bool) → Caused (cond b (told node watch reason) (tell_node node watch.node (messages.Died watch reason) Free))
  by_test true = watch_told node watch reason
  by_test false = node_told node watch.node (messages.Died watch reason) Free

-- ---- ends

names_fall : (node : NodeState) (names : List (List ℕ)) → AreCaused None (map (fallen node) names)
names_fall node [] = tt
names_fall node (name ∷ rest) = (tt, names_fall node rest)

all_close : (conns : List ℕ) → AreCaused None (map (λ conn. acts.Close conn) conns)
all_close [] = tt
all_close (conn ∷ rest) = all_close rest

parting : (node : NodeState) (number : ℕ) (reason : Reason) (names : List (List ℕ)) → EndsFirst (process_id node number) reason (farewell node number reason names)
unfolding farewell
parting node number reason names = (refl, refl, both None (map (fallen node) names) (map (λ conn. acts.Close conn) (conns_by node.pairs number)) (names_fall node names) (all_close (conns_by node.pairs number)))

first_both : (process : ProcessId) (reason : Reason) (xs ys : List Act) → EndsFirst process reason xs → AreCaused None ys → EndsFirst process reason (xs ++ ys)
first_both process reason (acts.Note (notes.Over ended why) ∷ xs) ys a b = (a.0, a.1, both None xs ys a.2 b)
first_both process reason xs ys a b = absurd a

-- what follows an end that was told first
goes_on : (process : ProcessId) (reason : Reason) (done : List Act) (node : NodeState) (f : NodeState → Done) → EndsFirst process reason done → ((n : NodeState) → Caused (f n)) → Ended process reason (doing done node and_then f)
goes_on process reason done node f e k = by_more (f node) (k node) where
  by_more : (more : Done) → Caused more → Ended process reason (after done more)
  by_more (Ok more) c = first_both process reason done more.0 e c
  by_more (Err stop) c = tt

pub ended_bound : {A E : Type 0} (process : ProcessId) (reason : Reason) (given : Result A E) (f : A → Result (List Act × NodeState) E) → ((x : A) → Ended process reason (f x)) → Ended process reason (given >>= f)
ended_bound process reason (Ok x) f k = k x
ended_bound process reason (Err e) f k = tt

pub is_ended : (node : NodeState) (number : ℕ) (reason : Reason) → Ended (process_id node number) reason (over node number reason)
unfolding over
is_ended node number reason = ended_bound (process_id node number) reason (or_unchanged node.mail (end_of node.mail number reason)) _ (λ mail.
    goes_on (process_id node number) reason (farewell node number reason (ended_of node.watches number).0.names) (bereft node mail (ended_of node.watches number).1 number) (λ n. each_in_turn (λ watch m. tell_end m watch reason) (ended_of node.watches number).0.watches n)
    (parting node number reason (ended_of node.watches number).0.names)
    (λ n. all_in_turn (λ watch m. tell_end m watch reason) (ended_of node.watches number).0.watches n (λ watch m. end_told m watch reason)))

-- ---- what another node asks

lacking : (node : NodeState) (watch : Ref) → Caused (absent node watch)
unfolding absent
lacking node watch = in_turn (noting (notes.Absent watch) node) (λ n. tell_end n watch reasons.UnknownId) (tt, tt) (λ n. end_told n watch reasons.UnknownId)

watch_came : (node : NodeState) (watch : Ref) (target : ProcessId) → Caused (watch_arrives node watch target)
unfolding watch_arrives
watch_came node watch target = by_test (is_living node target) where
  by_test : (b : Bool) → Caused (cond b (silent (record node { watches = arrive_of node.watches target.counter watch })) (absent node watch))
  by_test true = tt
  by_test false = lacking node watch

watch_left : (node : NodeState) (watch : Ref) → Caused (watch_leaves node watch)
unfolding watch_leaves
watch_left node watch = tt

spawn_closed : (node : NodeState) (question : Ref) (process : ProcessId) (o : Option (Waiting × NodeState)) → Caused (spawned_closed node question process o)
spawn_closed node question process None = tt
spawn_closed node question process (Some closed) = bound (mail_to closed.1 closed.0.owner _ _) _ (λ m. (tt, tt))

spawn_answered : (node : NodeState) (question : Ref) (process : ProcessId) → Caused (spawned node question process)
unfolding spawned
spawn_answered node question process = spawn_closed node question process (closing node kinds.Spawn question)

spawn_told : (node : NodeState) (question : Ref) (process : ProcessId) → Caused (tell_spawned node question process)
unfolding tell_spawned
spawn_told node question process = by_test (is_here node question.node) where
  by_test : (b : Bool) → Caused (cond b (spawned node question process) (tell_node node question.node (messages.DidSpawn question process) Free))
  by_test true = spawn_answered node question process
  by_test false = node_told node question.node (messages.DidSpawn question process) Free

-- an end that is told first, of a process that was just made for a spawn
just_made : (process : ProcessId) (all : List Act) → EndsFirst process unlabelled all → AreCaused (Some process) all
just_made process (acts.Note (notes.Over ended why) ∷ rest) e = ((ap (λ (p : ProcessId). Some p) (sym e.0), e.1), e.2)
just_made process all e = absurd e

-- a process is made for a spawn, and is over at once where its label isn't known
made_for : (question : Ref) (label : List ℕ) (made : NodeState) (number : ℕ) → Caused (noting (notes.Made (process_id made number) (Some (origin_of question label))) made and_then (λ n. fail_unlabelled n label number))
unfolding fail_unlabelled
made_for question label made number = by_test (is_some (place_of made.labels label)) where
  by_over : (done : Done) → Ended (process_id made number) unlabelled done → Caused (after (acts.Note (notes.Made (process_id made number) (Some (origin_of question label))) ∷ []) done)
  by_over (Ok done) e = (tt, just_made (process_id made number) done.0 e)
  by_over (Err stop) e = tt

  by_test : (b : Bool) → Caused (after (acts.Note (notes.Made (process_id made number) (Some (origin_of question label))) ∷ []) (cond b (silent made) (over made number unlabelled)))
  by_test true = (tt, tt)
  by_test false = by_over (over made number unlabelled) (is_ended made number unlabelled)

spawn_came : (node : NodeState) (question : Ref) (label args : List ℕ) → Caused (spawn_arrives node question label args)
unfolding spawn_arrives
spawn_came node question label args = bound (make_of node.mail) _ (λ made.
    in_turn (noting (notes.Made (process_id node made.0) (Some (origin_of question label))) (with_process node made.1 args) and_then (λ n. fail_unlabelled n label made.0)) (λ n. tell_spawned n question (process_id n made.0))
    (made_for question label (with_process node made.1 args) made.0)
    (λ n. spawn_told n question (process_id n made.0)))

finding_closed : (node : NodeState) (question : Ref) (at : Option ProcessId) (o : Option (Waiting × NodeState)) → Caused (found_closed node question at o)
finding_closed node question at None = tt
finding_closed node question at (Some closed) = bound (mail_to closed.1 closed.0.owner _ _) _ (λ m. (tt, tt))

found_answered : (node : NodeState) (question : Ref) (at : Option ProcessId) → Caused (found node question at)
unfolding found
found_answered node question at = finding_closed node question at (closing node kinds.Ask question)

question_came : (node : NodeState) (question : Ref) (name : List ℕ) → Caused (question_arrives node question name)
unfolding question_arrives tell_found
question_came node question name = by_test (is_here node question.node) where
  by_test : (b : Bool) → Caused (cond b (found node question (standing node name)) (tell_node node question.node (messages.IsAt question (standing node name)) Free))
  by_test true = found_answered node question (standing node name)
  by_test false = node_told node question.node (messages.IsAt question (standing node name)) Free

doom_came : (node : NodeState) (target : ProcessId) (given text : List ℕ) → Caused (doom_arrives node target given text)
unfolding doom_arrives
doom_came node target given text = by_test _ where
  by_test : (b : Bool) → Caused (cond b (doom node target.counter text) (silent node))
  by_test true = doomed node target.counter text
  by_test false = tt

handled : (node : NodeState) (said : NodeMessage) → Caused (handle node said)
unfolding handle
handled node (messages.Monitor watch target) = watch_came node watch target
handled node (messages.Unmonitor watch) = watch_left node watch
handled node (messages.Link watch target) = watch_came node watch target
handled node (messages.Unlink watch) = watch_left node watch
handled node (messages.Spawn question label args) = spawn_came node question label args
handled node (messages.DidSpawn question process) = spawn_answered node question process
handled node (messages.Died watch reason) = watch_told node watch reason
handled node (messages.WhereIs question name) = question_came node question name
handled node (messages.IsAt question at) = found_answered node question at
handled node (messages.Exit target text) = doom_came node target text (exit_text text)
handled node (messages.Kill target text) = doom_came node target text (kill_text text)
handled node other = tt

pub asked_for : (node : NodeState) (at : Address) (said : NodeMessage) → Caused (ask node at said)
unfolding ask
asked_for node at said = by_test (is_here node at) where
  by_test : (b : Bool) → Caused (cond b (handle node said) (tell_node node at said (Counted None)))
  by_test true = handled node said
  by_test false = node_told node at said (Counted None)

-- ---- messages

put_got : (node : NodeState) (sender : ProcessId) (to : Target) (receiver : ProcessId) (done : Result (List Process) MailError) → Caused (got_put node sender to receiver done)
put_got node sender to receiver (Ok mail) = (tt, tt)
put_got node sender to receiver (Err mails.NotLive) = tt
put_got node sender to receiver (Err mails.Empty) = tt
put_got node sender to receiver (Err mails.OutOfMemory) = tt
put_got node sender to receiver (Err mails.Worn) = tt

got : (node : NodeState) (sender : ProcessId) (to : Target) (receiver : ProcessId) (port : Option ℕ) (said : Message) → Caused (get node sender to receiver port said)
unfolding get
got node sender to receiver port said = put_got node sender to receiver (put_of node.mail receiver.counter port said)

standing_got : (node : NodeState) (sender : ProcessId) (to : Target) (said : Message) (o : Option ProcessId) → Caused (get_standing node sender to said o)
standing_got node sender to said None = (tt, tt)
standing_got node sender to said (Some receiver) = got node sender to receiver None said

delivered : (node : NodeState) (sender : ProcessId) (to : Target) (said : Message) → Caused (deliver node sender to said)
unfolding deliver
delivered node sender (targets.Process process) said = got node sender (targets.Process process) process None said
delivered node sender (targets.Port port) said = got node sender (targets.Port port) port.process (Some port.port) said
delivered node sender (targets.Named at name) said = standing_got node sender (targets.Named at name) said (standing node name)

sent_on : (node : NodeState) (pair : Pair) (said : Message) (weight : Weight) (mark : Mark) → Caused (send_on node pair said weight mark)
unfolding send_first opening
sent_on node pair said weight Unopened = bound (drawn node) _ (λ conn. tt)
sent_on node pair said weight (Opened conn) = tt
sent_on node pair said weight Broken = tt

pub carried : (node : NodeState) (pair : Pair) (said : Message) (weight : Weight) → Caused (carry node pair said weight)
unfolding carry
carried node pair said weight = by_test (is_here node (target_at pair.to)) where
  by_test : (b : Bool) → Caused (cond b (deliver node (process_id node pair.by) pair.to said) (send_on node pair said weight pair.mark))
  by_test true = delivered node (process_id node pair.by) pair.to said
  by_test false = sent_on node pair said weight pair.mark

-- ---- events

asked_by : (node : NodeState) (peer : Address) (read : Result NodeMessage IdentError) → Caused (from_node node peer read)
asked_by node peer (Err e) = tt
asked_by node peer (Ok asked) = by_test (is_for_peer peer asked) where
  by_test : (b : Bool) → Caused (cond b (handle node asked) (silent node))
  by_test true = handled node asked
  by_test false = tt

named_by : (node : NodeState) (sender : ProcessId) (read : Result NodeMessage IdentError) → Caused (to_name node sender read)
named_by node sender (Ok (messages.NamedSend name mark body)) = delivered node sender (targets.Named node.own name) (record { mark = mark; body = body })
named_by node sender (Ok other) = tt
named_by node sender (Err e) = tt

sent_to : (node : NodeState) (sender : ProcessId) (to : Target) (read : Result Message IdentError) → Caused (to_target node sender to read)
sent_to node sender to (Ok said) = delivered node sender to said
sent_to node sender to (Err e) = tt

payload_came : (node : NodeState) (arrived : Arrived) (payload : List ℕ) (b : Bound) → Caused (received_as node arrived payload b)
payload_came node arrived payload Unread = tt
payload_came node arrived payload Void = tt
payload_came node arrived payload FromNode = asked_by node arrived.peer (message_of payload)
payload_came node arrived payload (ToNames sender) = named_by node sender (message_of payload)
payload_came node arrived payload (ToTarget sender to) = sent_to node sender to (user_of payload)

came_on : (node : NodeState) (payload : List ℕ) (o : Option Arrived) → Caused (received_on node payload o)
came_on node payload None = tt
came_on node payload (Some arrived) = payload_came node arrived payload arrived.bound

peer_gone : (node : NodeState) (peer : Address) (why : Why) → Caused (peer_lost node peer why)
unfolding peer_lost lost_told
peer_gone node peer why = bound (lost_pairs peer node.pairs) _ (λ pairs. all_in_turn (lost_told why) (lost_of node.watches peer).0 _ (λ waiting n. kind_told waiting.kind n _ _ waiting.owner))

pub event_caused : (node : NodeState) (event : Event) → Caused (node_event node event)
unfolding node_event received
event_caused node (ConnectionOpened conn peer) = tt
event_caused node (Received conn payload) = came_on node payload (find (λ arrived. arrived.conn == conn) node.arrived)
event_caused node (ConnectionClosed conn) = tt
event_caused node EndPointClosed = tt
event_caused node (ConnectionLost peer why) = peer_gone node peer why
