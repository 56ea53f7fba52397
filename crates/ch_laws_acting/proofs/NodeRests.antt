-- What a node tells is which of its processes act no more.
use Rattle.std.proofs.Common.{◌≡◌, ℕ, Bool, true, false, cond, ◌&&◌, List, [], ◌∷◌, ◌++◌, map, Ok, Err, refl, sym, ap, ◌∙◌, subst, ◌==◌}
use Rattle.std.specs.Option.{option_to_list}
use Rattle.std.specs.Prelude.{find, Result, Option, Some, None, is_some, ok_or, codes}
use Rattle.ch_base.specs.declared.address.Address.{Address}
use Rattle.ch_base.specs.declared.event.Event.{Event}
use Rattle.ch_base.specs.declared.event.Event.TheVariants as events
use Rattle.ch_base.specs.declared.event.Room.{Room}
use Rattle.ch_base.specs.declared.event.Why.{Why}
use Rattle.ch_base.specs.declared.memory.Stop.{Stop}
use Rattle.ch_ident.specs.declared.error.IdentError.{IdentError}
use Rattle.ch_ident.specs.declared.identifier.ProcessId.{ProcessId}
use Rattle.ch_ident.specs.declared.identifier.Ref.{Ref}
use Rattle.ch_ident.specs.declared.identifier.Identifier.TheVariants as ends
use Rattle.ch_ident.specs.declared.message.Message.{Message}
use Rattle.ch_ident.specs.declared.node_message.NodeMessage.{NodeMessage}
use Rattle.ch_ident.specs.declared.node_message.NodeMessage.TheVariants as messages
use Rattle.ch_ident.specs.declared.reason.Reason.{Reason}
use Rattle.ch_ident.specs.declared.reason.Reason.TheVariants as reasons
use Rattle.ch_ident.specs.Reading.{message_of, user_of}
use Rattle.ch_ident.specs.Spelling as spelling
use Rattle.ch_mail.specs.declared.error.MailError.{MailError}
use Rattle.ch_mail.specs.declared.error.MailError.TheVariants as mails
use Rattle.ch_mail.specs.Process.{Process}
use Rattle.ch_mail.specs.Mail.{make_of, put_of, end_of, doom_of, take_of, take_port_of, open_port_of, downed}
use Rattle.ch_static.specs.declared.closure.Closure.{Closure}
use Rattle.ch_static.specs.declared.command.Command.{Command}
use Rattle.ch_static.specs.declared.command.Command.TheVariants as commands
use Rattle.ch_static.specs.declared.target.Target.{Target}
use Rattle.ch_static.specs.declared.target.Target.TheVariants as targets
use Rattle.ch_static.specs.Labels.{place_of}
use Rattle.ch_watch.specs.declared.error.WatchError.{WatchError}
use Rattle.ch_watch.specs.declared.waiting.Kind.{Kind}
use Rattle.ch_watch.specs.declared.waiting.Kind.TheVariants as kinds
use Rattle.ch_watch.specs.declared.waiting.Waiting.{Waiting}
use Rattle.ch_watch.specs.Lists.{Lists}
use Rattle.ch_watch.specs.Same.{node_of}
use Rattle.ch_watch.specs.Watches.{watch_of, unwatch_of, told_of, arrive_of, lost_of, ended_of, register_of, unregister_of}
use Rattle.ch_model.specs.declared.act.Act.{Act}
use Rattle.ch_model.specs.declared.act.Act.TheVariants as acts
use Rattle.ch_model.specs.declared.command.CommandError.TheVariants as errors
use Rattle.ch_model.specs.declared.note.Note.{Note}
use Rattle.ch_model.specs.declared.note.Note.TheVariants as notes
use Rattle.ch_model.specs.declared.note.Origin.{Origin}
use Rattle.ch_model.specs.declared.step.Weight.{Weight}
use Rattle.ch_model.specs.declared.step.Weight.TheVariants.{Counted, Free}
use Rattle.ch_model.specs.NodeState.{NodeState, Pair, Mark, Unopened, Opened, Broken, Bound, Unread, Void, FromNode, ToNames, ToTarget, Arrived}
use Rattle.ch_model.specs.NodeActs.{◌>>=◌, Done, silent, noting, after, ◌and_then◌, each_in_turn, stopping, mailed, watching, or_unchanged, growing}
use Rattle.ch_model.specs.NodeIds.{process_id, reference_to, is_here, is_own, is_living, target_at}
use Rattle.ch_model.specs.NodePairs.{pair_of, conn_of, keeping, next_epoch, lost_pairs, conns_by}
use Rattle.ch_model.specs.NodeConnections.{drawn, opening, conn_to, tell_first, tell_on, tell_node}
use Rattle.ch_model.specs.NodeLives.{make, doom, mail_to, with_process, reason_of, link_text, exit_text, kill_text}
use Rattle.ch_model.specs.NodeWatches.{is_awaited, without, closing, monitor_told, link_told, told_as, told_closed, told, tell_end, absent, watch_arrives, watch_leaves, watch_under}
use Rattle.ch_model.specs.NodeEnds.{over, bereft, farewell, fallen, shut_lists}
use Rattle.ch_model.specs.NodeAsks.{spawned_closed, spawned, tell_spawned, fail_unlabelled, spawn_arrives, found_closed, found, tell_found, standing, question_arrives, may_doom, doom_arrives, origin_of}
use Rattle.ch_model.specs.NodeMessages.{handle, is_for_peer, ask}
use Rattle.ch_model.specs.NodeSends.{got_put, get, get_standing, deliver, payload_of, weight_of, send_first, send_on, carry, with_said, say, reconnect}
use Rattle.ch_model.specs.NodeRoom.{acting, falling, known, fitting, not_full, room_to_send}
use Rattle.ch_model.specs.NodeCommands.{send_of, again_of, receive_of, take_port, open_port, finish_of, fall_of}
use Rattle.ch_model.specs.NodeRequests.{watch_message, unwatch_message, watch, watch_by, unwatch_by, doom_by, asked_note, question, spawn_by, whereis_by, register_by, unregister_by}
use Rattle.ch_model.specs.NodeArrivals.{bind, from_node, to_name, to_target, received_as, received_on, received, arrives, departs, lost_told, peer_lost}
use Rattle.ch_model.specs.Node.{node_make, node_command, node_event, node_shut}
use Rattle.ch_laws_lives.specs.Rolls.{over_at, notes_in, ArePermitted, IsReached, LivesOn}
use Rattle.ch_laws_lives.specs.Rolls as lives_rolls
use Rattle.ch_laws_lives.proofs.NodesTold as lives_told
use Rattle.ch_laws_acting.specs.Rolls.{Roll, rests_of, rests_after, rests_after_all, roll_of, roll_after, roll_after_all, RestsOn}
use Rattle.ch_laws_acting.proofs.Mails.{Keeps, KeepsBeside, put_keeps, take_keeps, take_port_keeps, open_keeps, doom_rests, MakesOne, makes_one, EndsOne, ends_one, all_down}

-- who acts no more at one node, after what was told at another
abbrev Moves : NodeState → List Act → NodeState → Type 0
Moves before done next = rests_of next.mail ≡ rests_after_all (notes_in done) (rests_of before.mail)

-- whatever was done, what was told moves the rests
abbrev pub Rests : {E : Type 0} → NodeState → Result (List Act × NodeState) E → Type 0
Rests before (Ok done) = Moves before done.0 done.1
Rests before (Err e) = Unit {0}

-- the same processes act
abbrev Same : NodeState → NodeState → Type 0
Same one two = rests_of two.mail ≡ rests_of one.mail

abbrev Kept : NodeState → Result NodeState Stop → Type 0
Kept before (Ok next) = Same before next
Kept before (Err stop) = Unit {0}

abbrev KeptBeside : {A : Type 0} → NodeState → Option (A × NodeState) → Type 0
KeptBeside before (Some next) = Same before next.1
KeptBeside before None = Unit {0}

-- ---- what is told in one and in another

after_append : (xs ys : List Note) (rests : List Bool) → rests_after_all (xs ++ ys) rests ≡ rests_after_all ys (rests_after_all xs rests)
after_append [] ys rests = refl
after_append (note ∷ xs) ys rests = after_append xs ys (rests_after note rests)

notes_append : (xs ys : List Act) → notes_in (xs ++ ys) ≡ notes_in xs ++ notes_in ys
notes_append [] ys = refl
notes_append (acts.Note note ∷ xs) ys = ap (λ (l : List Note). note ∷ l) (notes_append xs ys)
notes_append (acts.Open conn peer ∷ xs) ys = notes_append xs ys
notes_append (acts.Put conn payload weight ∷ xs) ys = notes_append xs ys
notes_append (acts.Close conn ∷ xs) ys = notes_append xs ys

moves_onward : (one two three : NodeState) (xs ys : List Act) → Moves one xs two → Moves two ys three → Moves one (xs ++ ys) three
moves_onward one two three xs ys s t = t ∙ ap (rests_after_all (notes_in ys)) s ∙ sym (after_append (notes_in xs) (notes_in ys) (rests_of one.mail)) ∙ ap (λ (l : List Note). rests_after_all l (rests_of one.mail)) (sym (notes_append xs ys))

-- ---- one thing and then another

later : (one two : NodeState) (told : List Act) (done : Done) → Moves one told two → Rests two done → Rests one (after told done)
later one two told (Ok done) a b = moves_onward one two done.1 told done.0 a b
later one two told (Err stop) a b = tt

from : {E : Type 0} (one two : NodeState) (done : Result (List Act × NodeState) E) → Same one two → Rests two done → Rests one done
from one two (Ok done) s b = b ∙ ap (rests_after_all (notes_in done.0)) s
from one two (Err e) s b = tt

chained : (node : NodeState) (done : Done) (f : NodeState → Done) → Rests node done → ((next : NodeState) → Rests next (f next)) → Rests node (done and_then f)
chained node (Ok done) f a g = later node done.1 done.0 (f done.1) a (g done.1)
chained node (Err stop) f a g = tt

bound : {A E : Type 0} (node : NodeState) (given : Result A E) (f : A → Result (List Act × NodeState) E) → ((x : A) → Rests node (f x)) → Rests node (given >>= f)
bound node (Ok x) f k = k x
bound node (Err e) f k = tt

bound_kept : (node : NodeState) (given : Result NodeState Stop) (f : NodeState → Done) → Kept node given → ((next : NodeState) → Rests next (f next)) → Rests node (given >>= f)
bound_kept node (Ok next) f k g = from node next (f next) k (g next)
bound_kept node (Err stop) f k g = tt

stopped : (node : NodeState) (done : Done) → Rests node done → Rests node (stopping done)
stopped node (Ok done) k = k
stopped node (Err stop) k = tt

in_turn : {A : Type 0} (f : A → NodeState → Done) (xs : List A) (node : NodeState) → ((x : A) (next : NodeState) → Rests next (f x next)) → Rests node (each_in_turn f xs node)
in_turn f [] node k = refl
in_turn f (x ∷ xs) node k = chained node (f x node) (λ n. each_in_turn f xs n) (k x node) (λ next. in_turn f xs next k)

-- ---- messages to other nodes

told_first : (node : NodeState) (peer : Address) (said : NodeMessage) (weight : Weight) → Rests node (tell_first node peer said weight)
unfolding tell_first opening
told_first node peer said weight = bound node (drawn node) _ (λ conn. refl)

told_on : (node : NodeState) (peer : Address) (said : NodeMessage) (weight : Weight) (conn : Option ℕ) → Rests node (tell_on node peer said weight conn)
told_on node peer said weight None = told_first node peer said weight
told_on node peer said weight (Some conn) = refl

node_told : (node : NodeState) (peer : Address) (said : NodeMessage) (weight : Weight) → Rests node (tell_node node peer said weight)
unfolding tell_node
node_told node peer said weight = told_on node peer said weight (conn_to node peer)

-- ---- lives

made : (node : NodeState) (origin : Option Origin) (args : List ℕ) → Rests node (make node origin args)
unfolding make
made node origin args = by_result (make_of node.mail) (makes_one node.mail) where
  by_result : (given : Result (ℕ × List Process) Stop) → MakesOne node.mail given → Rests node (given >>= (λ made. noting (notes.Made (process_id node made.0) origin) (with_process node made.1 args)))
  by_result (Ok one) k = k
  by_result (Err stop) k = tt

doomed : (node : NodeState) (number : ℕ) (text : List ℕ) → Rests node (doom node number text)
unfolding doom
doomed node number text = by_test (doom_of node.mail number text).0 (doom_of node.mail number text).1 (doom_rests node.mail number text) where
  by_test : (b : Bool) (mail : List Process) → rests_of mail ≡ cond b (over_at number (rests_of node.mail)) (rests_of node.mail) → Rests {E = Stop} node (Ok (cond b (acts.Note (notes.Doom (process_id node number) text) ∷ []) [], record node { mail = mail }))
  by_test true mail e = e
  by_test false mail e = e

mailed_to : (node : NodeState) (number : ℕ) (mark body : List ℕ) → Kept node (mail_to node number mark body)
unfolding mail_to
mailed_to node number mark body = by_mail (put_of node.mail number None (record { mark = mark; body = body })) (put_keeps node.mail number None (record { mark = mark; body = body })) where
  by_mail : (given : Result (List Process) MailError) → Keeps node.mail given → Kept node (or_unchanged node.mail given >>= (λ mail. Ok (record node { mail = mail })))
  by_mail (Ok mail) k = k
  by_mail (Err mails.NotLive) k = refl
  by_mail (Err mails.Empty) k = refl
  by_mail (Err mails.OutOfMemory) k = tt
  by_mail (Err mails.Worn) k = tt

-- ---- watches that are told

closed : (node : NodeState) (kind : Kind) (asked : Ref) → KeptBeside node (closing node kind asked)
unfolding closing
closed node kind asked = by_test (is_here node asked.node && is_awaited node.watches kind asked.number) where
  by_result : (given : Result (Waiting × Lists) WatchError) → KeptBeside node (without node given)
  by_result (Ok closed) = refl
  by_result (Err e) = tt

  by_test : (b : Bool) → KeptBeside node (cond b (without node (told_of node.watches asked.number)) None)
  by_test true = by_result (told_of node.watches asked.number)
  by_test false = tt

told_of_monitor : (node : NodeState) (watch : Ref) (reason : Reason) (owner : ℕ) → Rests node (monitor_told node watch reason owner)
unfolding monitor_told
told_of_monitor node watch reason owner = bound_kept node (mail_to node owner (codes "$died") (spelling.reference watch ++ spelling.reason reason)) _ (mailed_to node owner (codes "$died") (spelling.reference watch ++ spelling.reason reason)) (λ next. refl)

told_of_link : (node : NodeState) (watch : Ref) (reason : Reason) (owner : ℕ) → Rests node (link_told node watch reason owner)
unfolding link_told
told_of_link node watch reason owner = later node node (acts.Note (notes.Told watch reason) ∷ []) (doom node owner (link_text reason)) refl (doomed node owner (link_text reason))

told_by_kind : (kind : Kind) (node : NodeState) (watch : Ref) (reason : Reason) (owner : ℕ) → Rests node (told_as kind node watch reason owner)
told_by_kind kinds.Monitor node watch reason owner = told_of_monitor node watch reason owner
told_by_kind kinds.Link node watch reason owner = told_of_link node watch reason owner
told_by_kind kinds.Spawn node watch reason owner = refl
told_by_kind kinds.Ask node watch reason owner = refl

told_where_closed : (node : NodeState) (watch : Ref) (reason : Reason) (o : Option (Waiting × NodeState)) → KeptBeside node o → Rests node (told_closed node watch reason o)
told_where_closed node watch reason None k = refl
told_where_closed node watch reason (Some closed) k = from node closed.1 (told_as closed.0.kind closed.1 watch reason closed.0.owner) k (told_by_kind closed.0.kind closed.1 watch reason closed.0.owner)

told_here : (node : NodeState) (watch : Ref) (reason : Reason) → Rests node (told node watch reason)
unfolding told
told_here node watch reason = told_where_closed node watch reason (closing node kinds.Monitor watch) (closed node kinds.Monitor watch)

end_told : (node : NodeState) (watch : Ref) (reason : Reason) → Rests node (tell_end node watch reason)
unfolding tell_end
end_told node watch reason = by_test (is_here node watch.node) where
  by_test : (b : Bool) → Rests node (cond b (told node watch reason) (tell_node node watch.node (messages.Died watch reason) Free))
  by_test true = told_here node watch reason
  by_test false = node_told node watch.node (messages.Died watch reason) Free

-- ---- watches that arrive

found_absent : (node : NodeState) (watch : Ref) → Rests node (absent node watch)
unfolding absent
found_absent node watch = later node node (acts.Note (notes.Absent watch) ∷ []) (tell_end node watch reasons.UnknownId) refl (end_told node watch reasons.UnknownId)

watch_arrived : (node : NodeState) (watch : Ref) (target : ProcessId) → Rests node (watch_arrives node watch target)
unfolding watch_arrives
watch_arrived node watch target = by_test (is_living node target) where
  by_test : (b : Bool) → Rests node (cond b (silent (record node { watches = arrive_of node.watches target.counter watch })) (absent node watch))
  by_test true = refl
  by_test false = found_absent node watch

watch_left : (node : NodeState) (watch : Ref) → Rests node (watch_leaves node watch)
unfolding watch_leaves
watch_left node watch = refl

-- ---- ends

closes_untold : (conns : List ℕ) → notes_in (map (λ conn. acts.Close conn) conns) ≡ []
closes_untold [] = refl
closes_untold (conn ∷ conns) = closes_untold conns

-- names that fall, and connections that are closed, change nothing
fall_told : (node : NodeState) (rests : List Bool) (names : List (List ℕ)) (conns : List ℕ) → rests_after_all (notes_in (map (fallen node) names ++ map (λ conn. acts.Close conn) conns)) rests ≡ rests
fall_told node rests [] conns = ap (λ (l : List Note). rests_after_all l rests) (closes_untold conns)
fall_told node rests (name ∷ names) conns = fall_told node rests names conns

farewell_told : (node : NodeState) (number : ℕ) (reason : Reason) (names : List (List ℕ)) (mail : List Process) (lists : Lists) → rests_of mail ≡ over_at number (rests_of node.mail) → Moves node (farewell node number reason names) (bereft node mail lists number)
unfolding farewell
farewell_told node number reason names mail lists e = e ∙ sym (fall_told node (over_at number (rests_of node.mail)) names (conns_by node.pairs number))

is_over : (node : NodeState) (number : ℕ) (reason : Reason) → Rests node (over node number reason)
unfolding over
is_over node number reason = by_result (end_of node.mail number reason) (ends_one node.mail number reason) where
  by_mail : (mail : List Process) → rests_of mail ≡ over_at number (rests_of node.mail) → Rests node (Ok (farewell node number reason (ended_of node.watches number).0.names, bereft node mail (ended_of node.watches number).1 number) and_then (λ n. each_in_turn (λ watch m. tell_end m watch reason) (ended_of node.watches number).0.watches n))
  by_mail mail k = later node (bereft node mail (ended_of node.watches number).1 number) (farewell node number reason (ended_of node.watches number).0.names) (each_in_turn (λ watch m. tell_end m watch reason) (ended_of node.watches number).0.watches (bereft node mail (ended_of node.watches number).1 number))
      (farewell_told node number reason (ended_of node.watches number).0.names mail (ended_of node.watches number).1 k)
      (in_turn (λ watch m. tell_end m watch reason) (ended_of node.watches number).0.watches (bereft node mail (ended_of node.watches number).1 number) (λ watch m. end_told m watch reason))

  by_result : (given : Result (List Process) MailError) → EndsOne node.mail number given → Rests node (or_unchanged node.mail given >>= (λ mail.
      Ok (farewell node number reason (ended_of node.watches number).0.names, bereft node mail (ended_of node.watches number).1 number) and_then (λ n. each_in_turn (λ watch m. tell_end m watch reason) (ended_of node.watches number).0.watches n)))
  by_result (Ok mail) k = by_mail mail k
  by_result (Err mails.NotLive) k = by_mail node.mail k
  by_result (Err mails.Empty) k = by_mail node.mail k
  by_result (Err mails.OutOfMemory) k = tt
  by_result (Err mails.Worn) k = tt

-- ---- spawns, questions and dooms

spawned_where_closed : (node : NodeState) (question : Ref) (process : ProcessId) (o : Option (Waiting × NodeState)) → KeptBeside node o → Rests node (spawned_closed node question process o)
spawned_where_closed node question process None k = refl
spawned_where_closed node question process (Some closed) k = from node closed.1 (spawned_closed closed.1 question process (Some closed)) k (bound_kept closed.1 (mail_to closed.1 closed.0.owner (codes "$spawned") (spelling.reference question ++ spelling.process process)) _ (mailed_to closed.1 closed.0.owner (codes "$spawned") (spelling.reference question ++ spelling.process process)) (λ next. refl))

spawned_here : (node : NodeState) (question : Ref) (process : ProcessId) → Rests node (spawned node question process)
unfolding spawned
spawned_here node question process = spawned_where_closed node question process (closing node kinds.Spawn question) (closed node kinds.Spawn question)

spawned_told : (node : NodeState) (question : Ref) (process : ProcessId) → Rests node (tell_spawned node question process)
unfolding tell_spawned
spawned_told node question process = by_test (is_here node question.node) where
  by_test : (b : Bool) → Rests node (cond b (spawned node question process) (tell_node node question.node (messages.DidSpawn question process) Free))
  by_test true = spawned_here node question process
  by_test false = node_told node question.node (messages.DidSpawn question process) Free

labelled : (node : NodeState) (label : List ℕ) (number : ℕ) → Rests node (fail_unlabelled node label number)
unfolding fail_unlabelled
labelled node label number = by_test (is_some (place_of node.labels label)) where
  by_test : (b : Bool) → Rests node (cond b (silent node) (over node number (reasons.Exception (codes "unknown label"))))
  by_test true = refl
  by_test false = is_over node number (reasons.Exception (codes "unknown label"))

spawn_arrived : (node : NodeState) (question : Ref) (label args : List ℕ) → Rests node (spawn_arrives node question label args)
unfolding spawn_arrives
spawn_arrived node question label args = by_result (make_of node.mail) (makes_one node.mail) where
  by_result : (given : Result (ℕ × List Process) Stop) → MakesOne node.mail given → Rests node (given >>= (λ made. noting (notes.Made (process_id node made.0) (Some (origin_of question label))) (with_process node made.1 args) and_then (λ n. fail_unlabelled n label made.0) and_then (λ n. tell_spawned n question (process_id n made.0))))
  by_result (Ok one) k = chained node (noting (notes.Made (process_id node one.0) (Some (origin_of question label))) (with_process node one.1 args) and_then (λ n. fail_unlabelled n label one.0)) (λ n. tell_spawned n question (process_id n one.0))
      (later node (with_process node one.1 args) (acts.Note (notes.Made (process_id node one.0) (Some (origin_of question label))) ∷ []) (fail_unlabelled (with_process node one.1 args) label one.0) k (labelled (with_process node one.1 args) label one.0))
      (λ next. spawned_told next question (process_id next one.0))
  by_result (Err stop) k = tt

found_where_closed : (node : NodeState) (question : Ref) (at : Option ProcessId) (o : Option (Waiting × NodeState)) → KeptBeside node o → Rests node (found_closed node question at o)
found_where_closed node question at None k = refl
found_where_closed node question at (Some closed) k = from node closed.1 (found_closed closed.1 question at (Some closed)) k (bound_kept closed.1 (mail_to closed.1 closed.0.owner (codes "$isat") (spelling.reference question ++ spelling.found at)) _ (mailed_to closed.1 closed.0.owner (codes "$isat") (spelling.reference question ++ spelling.found at)) (λ next. refl))

found_here : (node : NodeState) (question : Ref) (at : Option ProcessId) → Rests node (found node question at)
unfolding found
found_here node question at = found_where_closed node question at (closing node kinds.Ask question) (closed node kinds.Ask question)

found_told : (node : NodeState) (question : Ref) (at : Option ProcessId) → Rests node (tell_found node question at)
unfolding tell_found
found_told node question at = by_test (is_here node question.node) where
  by_test : (b : Bool) → Rests node (cond b (found node question at) (tell_node node question.node (messages.IsAt question at) Free))
  by_test true = found_here node question at
  by_test false = node_told node question.node (messages.IsAt question at) Free

question_arrived : (node : NodeState) (question : Ref) (name : List ℕ) → Rests node (question_arrives node question name)
unfolding question_arrives
question_arrived node question name = found_told node question (standing node name)

doom_arrived : (node : NodeState) (target : ProcessId) (given text : List ℕ) → Rests node (doom_arrives node target given text)
unfolding doom_arrives
doom_arrived node target given text = by_test (is_own node target && may_doom given) where
  by_test : (b : Bool) → Rests node (cond b (doom node target.counter text) (silent node))
  by_test true = doomed node target.counter text
  by_test false = refl

-- ---- messages from node to node

handled : (node : NodeState) (said : NodeMessage) → Rests node (handle node said)
unfolding handle
handled node (messages.Monitor watch target) = watch_arrived node watch target
handled node (messages.Unmonitor watch) = watch_left node watch
handled node (messages.Link watch target) = watch_arrived node watch target
handled node (messages.Unlink watch) = watch_left node watch
handled node (messages.Spawn question label args) = spawn_arrived node question label args
handled node (messages.DidSpawn question process) = spawned_here node question process
handled node (messages.Died watch reason) = told_here node watch reason
handled node (messages.WhereIs question name) = question_arrived node question name
handled node (messages.IsAt question at) = found_here node question at
handled node (messages.Exit target text) = doom_arrived node target text (exit_text text)
handled node (messages.Kill target text) = doom_arrived node target text (kill_text text)
handled node other = refl

asked : (node : NodeState) (at : Address) (said : NodeMessage) → Rests node (ask node at said)
unfolding ask
asked node at said = by_test (is_here node at) where
  by_test : (b : Bool) → Rests node (cond b (handle node said) (tell_node node at said (Counted None)))
  by_test true = handled node said
  by_test false = node_told node at said (Counted None)

-- ---- messages of processes

put_by : (node : NodeState) (sender : ProcessId) (to : Target) (receiver : ProcessId) (given : Result (List Process) MailError) → Keeps node.mail given → Rests node (got_put node sender to receiver given)
put_by node sender to receiver (Ok mail) k = k
put_by node sender to receiver (Err mails.NotLive) k = refl
put_by node sender to receiver (Err mails.Empty) k = refl
put_by node sender to receiver (Err mails.OutOfMemory) k = tt
put_by node sender to receiver (Err mails.Worn) k = tt

got : (node : NodeState) (sender : ProcessId) (to : Target) (receiver : ProcessId) (port : Option ℕ) (said : Message) → Rests node (get node sender to receiver port said)
unfolding get
got node sender to receiver port said = put_by node sender to receiver (put_of node.mail receiver.counter port said) (put_keeps node.mail receiver.counter port said)

got_by_name : (node : NodeState) (sender : ProcessId) (to : Target) (said : Message) (o : Option ProcessId) → Rests node (get_standing node sender to said o)
got_by_name node sender to said None = refl
got_by_name node sender to said (Some receiver) = got node sender to receiver None said

delivered : (node : NodeState) (sender : ProcessId) (to : Target) (said : Message) → Rests node (deliver node sender to said)
unfolding deliver
delivered node sender (targets.Process process) said = got node sender (targets.Process process) process None said
delivered node sender (targets.Port port) said = got node sender (targets.Port port) port.process (Some port.port) said
delivered node sender (targets.Named at name) said = got_by_name node sender (targets.Named at name) said (standing node name)

sent_first : (node : NodeState) (pair : Pair) (said : Message) (weight : Weight) → Rests node (send_first node pair said weight)
unfolding send_first opening
sent_first node pair said weight = bound node (drawn node) _ (λ conn. refl)

sent_on : (node : NodeState) (pair : Pair) (said : Message) (weight : Weight) (mark : Mark) → Rests node (send_on node pair said weight mark)
sent_on node pair said weight Unopened = sent_first node pair said weight
sent_on node pair said weight (Opened conn) = refl
sent_on node pair said weight Broken = refl

carried : (node : NodeState) (pair : Pair) (said : Message) (weight : Weight) → Rests node (carry node pair said weight)
unfolding carry
carried node pair said weight = by_test (is_here node (target_at pair.to)) where
  by_test : (b : Bool) → Rests node (cond b (deliver node (process_id node pair.by) pair.to said) (send_on node pair said weight pair.mark))
  by_test true = delivered node (process_id node pair.by) pair.to said
  by_test false = sent_on node pair said weight pair.mark

is_said : (node : NodeState) (pair : Pair) (said : Message) → Rests node (say node pair said)
unfolding say
is_said node pair said = bound node (growing pair.index) _ (λ index.
    later node (keeping node (with_said pair)) (acts.Note (notes.Said (process_id node pair.by) pair.to pair.epoch index said) ∷ []) (carry (keeping node (with_said pair)) (with_said pair) said (weight_of pair.epoch index))
    refl (carried (keeping node (with_said pair)) (with_said pair) said (weight_of pair.epoch index)))

reconnected : (node : NodeState) (pair : Pair) → Rests node (reconnect node pair)
unfolding reconnect
reconnected node pair = bound node (next_epoch pair) _ (λ next. ap (λ (l : List Note). rests_after_all l (rests_of node.mail)) (sym (closes_untold (option_to_list (conn_of pair.mark)))))

-- ---- commands on messages and on a process's own end

send_told : (node : NodeState) (by : ℕ) (to : Target) (said : Message) (room : Room) → Rests node (send_of node by to said room)
unfolding send_of
send_told node by to said room = bound node (acting node by) _ (λ live. bound node (known node to) _ (λ there. bound node (fitting (payload_of to said)) _ (λ short. bound node (room_to_send node (pair_of node.pairs by to) room) _ (λ roomy. stopped node (say node (pair_of node.pairs by to) said) (is_said node (pair_of node.pairs by to) said)))))

again_told : (node : NodeState) (by : ℕ) (to : Target) → Rests node (again_of node by to)
unfolding again_of
again_told node by to = bound node (acting node by) _ (λ live. stopped node (reconnect node (pair_of node.pairs by to)) (reconnected node (pair_of node.pairs by to)))

receive_told : (node : NodeState) (by : ℕ) (mark : List ℕ) → Rests node (receive_of node by mark)
unfolding receive_of
receive_told node by mark = bound node (acting node by) _ (λ live. by_result (take_of node.mail by mark) (take_keeps node.mail by mark)) where
  by_result : (given : Result (Message × List Process) MailError) → KeepsBeside node.mail given → Rests node (mailed given >>= (λ taken. Ok (acts.Note (notes.Took (process_id node by) None taken.0) ∷ [], record node { mail = taken.1 })))
  by_result (Ok taken) k = k
  by_result (Err e) k = tt

take_told : (node : NodeState) (by port : ℕ) → Rests node (take_port node by port)
unfolding take_port
take_told node by port = bound node (acting node by) _ (λ live. by_result (take_port_of node.mail by port) (take_port_keeps node.mail by port)) where
  by_result : (given : Result (Message × List Process) MailError) → KeepsBeside node.mail given → Rests node (mailed given >>= (λ taken. Ok (acts.Note (notes.Took (process_id node by) (Some port) taken.0) ∷ [], record node { mail = taken.1 })))
  by_result (Ok taken) k = k
  by_result (Err e) k = tt

port_told : (node : NodeState) (by : ℕ) → Rests node (open_port node by)
unfolding open_port
port_told node by = bound node (acting node by) _ (λ live. by_result (open_port_of node.mail by) (open_keeps node.mail by)) where
  by_result : (given : Result (ℕ × List Process) MailError) → KeepsBeside node.mail given → Rests node (mailed given >>= (λ opened. Ok (acts.Note (notes.Port (record { process = process_id node by; port = opened.0 })) ∷ [], record node { mail = opened.1 })))
  by_result (Ok opened) k = k
  by_result (Err e) k = tt

finish_told : (node : NodeState) (by : ℕ) (reason : Reason) → Rests node (finish_of node by reason)
unfolding finish_of
finish_told node by reason = bound node (acting node by) _ (λ live. stopped node (over node by reason) (is_over node by reason))

fall_told_of : (node : NodeState) (by : ℕ) → Rests node (fall_of node by)
unfolding fall_of
fall_told_of node by = bound node (falling node by) _ (λ text. stopped node (over node by (reasons.Exception text)) (is_over node by (reasons.Exception text)))

-- ---- commands on other processes and on names

watched : (node : NodeState) (by : ℕ) (kind : Kind) (target : ProcessId) → Rests node (watch node by kind target)
unfolding watch
watched node by kind target = bound node (watch_of node.watches by kind (ends.Process target)) _ (λ opened.
    later node (record node { watches = opened.1 }) (acts.Note (notes.Watch (reference_to node opened.0) (process_id node by) target kind) ∷ []) (ask (record node { watches = opened.1 }) target.node (watch_message kind (reference_to node opened.0) target))
    refl (asked (record node { watches = opened.1 }) target.node (watch_message kind (reference_to node opened.0) target)))

watch_told : (node : NodeState) (by : ℕ) (kind : Kind) (target : ProcessId) (room : Room) → Rests node (watch_by node by kind target room)
unfolding watch_by
watch_told node by kind target room = bound node (acting node by) _ (λ live. bound node (not_full node target.node room) _ (λ roomy. stopped node (watch node by kind target) (watched node by kind target)))

unwatch_told : (node : NodeState) (by : ℕ) (given : Ref) (room : Room) → Rests node (unwatch_by node by given room)
unfolding unwatch_by
unwatch_told node by given room = bound node (acting node by) _ (λ live. bound node (ok_or (watch_under node by given) errors.NoRef) _ (λ waiting. bound node (not_full node (node_of waiting.target) room) _ (λ roomy. bound node (watching (unwatch_of node.watches by given.number)) _ (λ closed.
    stopped node (noting (notes.Unwatch given) (record node { watches = closed.1 }) and_then (λ n. ask n (node_of waiting.target) (unwatch_message waiting.kind given)))
    (later node (record node { watches = closed.1 }) (acts.Note (notes.Unwatch given) ∷ []) (ask (record node { watches = closed.1 }) (node_of waiting.target) (unwatch_message waiting.kind given))
    refl (asked (record node { watches = closed.1 }) (node_of waiting.target) (unwatch_message waiting.kind given)))))))

doom_told : (node : NodeState) (by : ℕ) (at : Address) (said : NodeMessage) (room : Room) → Rests node (doom_by node by at said room)
unfolding doom_by
doom_told node by at said room = bound node (acting node by) _ (λ live. bound node (not_full node at room) _ (λ roomy. stopped node (ask node at said) (asked node at said)))

questioned : (node : NodeState) (by : ℕ) (kind : Kind) (at : Address) (said : Ref → NodeMessage) → Rests node (question node by kind at said)
unfolding question
questioned node by kind at said = bound node (watch_of node.watches by kind (ends.Node at)) _ (λ opened.
    later node (record node { watches = opened.1 }) (asked_note node by at (reference_to node opened.0)) (ask (record node { watches = opened.1 }) at (said (reference_to node opened.0)))
    (by_test opened.1 (reference_to node opened.0) (is_here node at))
    (asked (record node { watches = opened.1 }) at (said (reference_to node opened.0)))) where
      by_test : (lists : Lists) (asked : Ref) (b : Bool) → Moves node (cond b [] (acts.Note (notes.Asked asked (process_id node by) at) ∷ [])) (record node { watches = lists })
      by_test lists asked true = refl
      by_test lists asked false = refl

spawn_told : (node : NodeState) (by : ℕ) (at : Address) (closure : Closure) (room : Room) → Rests node (spawn_by node by at closure room)
unfolding spawn_by
spawn_told node by at closure room = bound node (acting node by) _ (λ live. bound node (fitting (spelling.message (messages.Spawn (reference_to node node.watches.next) closure.label closure.args))) _ (λ short. bound node (not_full node at room) _ (λ roomy. stopped node (question node by kinds.Spawn at (λ asked. messages.Spawn asked closure.label closure.args)) (questioned node by kinds.Spawn at (λ asked. messages.Spawn asked closure.label closure.args)))))

whereis_told : (node : NodeState) (by : ℕ) (at : Address) (name : List ℕ) (room : Room) → Rests node (whereis_by node by at name room)
unfolding whereis_by
whereis_told node by at name room = bound node (acting node by) _ (λ live. bound node (not_full node at room) _ (λ roomy. stopped node (question node by kinds.Ask at (λ asked. messages.WhereIs asked name)) (questioned node by kinds.Ask at (λ asked. messages.WhereIs asked name))))

register_told : (node : NodeState) (by : ℕ) (name : List ℕ) → Rests node (register_by node by name)
unfolding register_by
register_told node by name = bound node (acting node by) _ (λ live. bound node (watching (register_of node.watches name by)) _ (λ lists. refl))

unregister_told : (node : NodeState) (by : ℕ) (name : List ℕ) → Rests node (unregister_by node by name)
unfolding unregister_by
unregister_told node by name = bound node (acting node by) _ (λ live. bound node (watching (unregister_of node.watches name)) _ (λ taken. refl))

-- ---- the calls of a node

rests_make : (node : NodeState) → Rests node (node_make node)
unfolding node_make
rests_make node = by_test node.is_shut where
  by_test : (b : Bool) → Rests node (cond b (Err errors.Dead) (stopping (make node None [])))
  by_test true = tt
  by_test false = stopped node (make node None []) (made node None [])

rests_command : (node : NodeState) (by : ℕ) (command : Command) (room : Room) → Rests node (node_command node by command room)
unfolding node_command
rests_command node by (commands.Send to said) room = send_told node by to said room
rests_command node by (commands.Again to) room = again_told node by to
rests_command node by (commands.Receive mark) room = receive_told node by mark
rests_command node by commands.OpenPort room = port_told node by
rests_command node by (commands.Take port) room = take_told node by port
rests_command node by commands.End room = finish_told node by reasons.Normal
rests_command node by (commands.Fail text) room = finish_told node by (reasons.Exception text)
rests_command node by commands.Fall room = fall_told_of node by
rests_command node by (commands.Monitor target) room = watch_told node by kinds.Monitor target room
rests_command node by (commands.Link target) room = watch_told node by kinds.Link target room
rests_command node by (commands.Unwatch watch) room = unwatch_told node by watch room
rests_command node by (commands.Exit target text) room = doom_told node by target.node (messages.Exit target text) room
rests_command node by (commands.Kill target text) room = doom_told node by target.node (messages.Kill target text) room
rests_command node by (commands.Spawn at closure) room = spawn_told node by at closure room
rests_command node by (commands.Register name) room = register_told node by name
rests_command node by (commands.Unregister name) room = unregister_told node by name
rests_command node by (commands.WhereIs at name) room = whereis_told node by at name room

rests_shut : (node : NodeState) → Rests node (node_shut node)
unfolding node_shut
rests_shut node = by_test node.is_shut where
  by_test : (b : Bool) → Rests node (cond b (Err errors.Dead) (Ok (acts.Note (notes.Shut node.own) ∷ [], record node { is_shut = true; mail = map downed node.mail; watches = shut_lists node.watches })))
  by_test true = tt
  by_test false = all_down node.mail

-- ---- what comes on a connection

by_node : (node : NodeState) (peer : Address) (said : Result NodeMessage IdentError) → Rests node (from_node node peer said)
by_node node peer (Ok said) = by_test (is_for_peer peer said) where
  by_test : (b : Bool) → Rests node (cond b (handle node said) (silent node))
  by_test true = handled node said
  by_test false = refl
by_node node peer (Err e) = refl

by_name : (node : NodeState) (sender : ProcessId) (said : Result NodeMessage IdentError) → Rests node (to_name node sender said)
by_name node sender (Ok (messages.NamedSend name mark body)) = delivered node sender (targets.Named node.own name) (record { mark = mark; body = body })
by_name node sender said = refl

by_target : (node : NodeState) (sender : ProcessId) (to : Target) (said : Result Message IdentError) → Rests node (to_target node sender to said)
by_target node sender to (Ok said) = delivered node sender to said
by_target node sender to (Err e) = refl

came_as : (node : NodeState) (arrived : Arrived) (payload : List ℕ) (bound : Bound) → Rests node (received_as node arrived payload bound)
unfolding bind
came_as node arrived payload Unread = refl
came_as node arrived payload Void = refl
came_as node arrived payload FromNode = by_node node arrived.peer (message_of payload)
came_as node arrived payload (ToNames sender) = by_name node sender (message_of payload)
came_as node arrived payload (ToTarget sender to) = by_target node sender to (user_of payload)

came : (node : NodeState) (conn : ℕ) (payload : List ℕ) → Rests node (received node conn payload)
unfolding received
came node conn payload = by_found (find (λ arrived. arrived.conn == conn) node.arrived) where
  by_found : (o : Option Arrived) → Rests node (received_on node payload o)
  by_found None = refl
  by_found (Some arrived) = came_as node arrived payload arrived.bound

lost_one : (why : Why) (waiting : Waiting) (node : NodeState) → Rests node (lost_told why waiting node)
unfolding lost_told
lost_one why waiting node = told_by_kind waiting.kind node (reference_to node waiting.number) (reason_of why) waiting.owner

lost : (node : NodeState) (peer : Address) (why : Why) → Rests node (peer_lost node peer why)
unfolding peer_lost
lost node peer why = bound node (lost_pairs peer node.pairs) _ (λ pairs. in_turn (lost_told why) (lost_of node.watches peer).0 _ (lost_one why))

rests_event : (node : NodeState) (event : Event) → Rests node (node_event node event)
unfolding node_event arrives departs
rests_event node (events.ConnectionOpened conn peer) = refl
rests_event node (events.Received conn payload) = came node conn payload
rests_event node (events.ConnectionClosed conn) = refl
rests_event node events.EndPointClosed = refl
rests_event node (events.ConnectionLost peer why) = lost node peer why

-- ---- beside what the node's lives permit

-- whatever was done, the node goes on
abbrev pub Told : {E : Type 0} → NodeState → Result (List Act × NodeState) E → Type 0
Told before (Ok done) = IsReached before → RestsOn before done.0 done.1
Told before (Err e) = Unit {0}

both_moved : (told : List Note) (before : Roll) → roll_after_all told before ≡ record { lives = lives_rolls.roll_after_all told before.lives; rests = rests_after_all told before.rests }
both_moved [] before = refl
both_moved (note ∷ rest) before = both_moved rest (roll_after note before)

told_both : {E : Type 0} (node : NodeState) (given : Result (List Act × NodeState) E) → lives_told.Told node given → Rests node given → Told node given
told_both node (Ok done) l m = λ r. let k = l r in record {
  tells = record { permitted = k.tells.permitted; moved = ap (λ (x : lives_rolls.Roll). record { lives = x; rests = rests_of done.1.mail }) k.tells.moved ∙ ap (λ (x : List Bool). record { lives = lives_rolls.roll_after_all (notes_in done.0) (lives_rolls.roll_of node); rests = x }) m ∙ sym (both_moved (notes_in done.0) (roll_of node)) };
  reached = k.reached;
}
told_both node (Err e) l m = tt

pub on_make : (node : NodeState) → Told node (node_make node)
on_make node = told_both node (node_make node) (lives_told.on_make node) (rests_make node)

pub on_command : (node : NodeState) (by : ℕ) (command : Command) (room : Room) → Told node (node_command node by command room)
on_command node by command room = told_both node (node_command node by command room) (lives_told.on_command node by command room) (rests_command node by command room)

pub on_event : (node : NodeState) (event : Event) → Told node (node_event node event)
on_event node event = told_both node (node_event node event) (lives_told.on_event node event) (rests_event node event)

pub on_shut : (node : NodeState) → Told node (node_shut node)
on_shut node = told_both node (node_shut node) (lives_told.on_shut node) (rests_shut node)

-- the same by its parts
pub node_rests : {E : Type 0} (node after : NodeState) (done : List Act) (given : Result (List Act × NodeState) E) → Told node given → IsReached node → given ≡ Ok (done, after) → RestsOn node done after
node_rests {E = E} node after done (Ok one) k r e = subst (λ (o : List Act × NodeState). RestsOn node o.0 o.1) (ap given_of e) (k r) where
  given_of : Result (List Act × NodeState) E → List Act × NodeState
  given_of (Ok given) = given
  given_of (Err e) = one
node_rests node after done (Err e) k r is = absurd cc
