-- What a node does, but for what is said and reconnected, tells of no message and leaves each pair of processes at its epoch and index.
use Rattle.std.proofs.Common.{◌≡◌, ℕ, Bool, true, false, cond, not, ◌&&◌, List, [], ◌∷◌, ◌++◌, map, Ok, Err, refl, sym, ap, ◌∙◌, ◌==◌}
use Rattle.std.specs.Prelude.{◌+◌, find, filter, Result, Option, Some, None, is_some, ok_or, unwrap_or, codes}
use Rattle.ch_base.specs.declared.address.Address.{Address}
use Rattle.ch_base.specs.declared.event.Event.{Event}
use Rattle.ch_base.specs.declared.event.Event.TheVariants as events
use Rattle.ch_base.specs.declared.event.Room.{Room}
use Rattle.ch_base.specs.declared.event.Why.{Why}
use Rattle.ch_base.specs.declared.memory.Stop.{Stop}
use Rattle.ch_ident.specs.declared.error.IdentError.{IdentError}
use Rattle.ch_ident.specs.declared.identifier.ProcessId.{ProcessId}
use Rattle.ch_ident.specs.declared.identifier.Ref.{Ref}
use Rattle.ch_ident.specs.declared.identifier.Identifier.TheVariants as ends
use Rattle.ch_ident.specs.declared.message.Message.{Message}
use Rattle.ch_ident.specs.declared.node_message.NodeMessage.{NodeMessage}
use Rattle.ch_ident.specs.declared.node_message.NodeMessage.TheVariants as messages
use Rattle.ch_ident.specs.declared.reason.Reason.{Reason}
use Rattle.ch_ident.specs.declared.reason.Reason.TheVariants as reasons
use Rattle.ch_ident.specs.Reading.{message_of, user_of}
use Rattle.ch_ident.specs.Spelling as spelling
use Rattle.ch_mail.specs.declared.error.MailError.{MailError}
use Rattle.ch_mail.specs.declared.error.MailError.TheVariants as mails
use Rattle.ch_mail.specs.Process.{Process}
use Rattle.ch_mail.specs.Mail.{make_of, put_of, end_of, take_of, take_port_of, open_port_of, downed}
use Rattle.ch_static.specs.declared.closure.Closure.{Closure}
use Rattle.ch_static.specs.declared.command.Command.{Command}
use Rattle.ch_static.specs.declared.command.Command.TheVariants as commands
use Rattle.ch_static.specs.declared.target.Target.{Target}
use Rattle.ch_static.specs.declared.target.Target.TheVariants as targets
use Rattle.ch_static.specs.Labels.{place_of}
use Rattle.ch_watch.specs.declared.error.WatchError.{WatchError}
use Rattle.ch_watch.specs.declared.waiting.Kind.{Kind}
use Rattle.ch_watch.specs.declared.waiting.Kind.TheVariants as kinds
use Rattle.ch_watch.specs.declared.waiting.Waiting.{Waiting}
use Rattle.ch_watch.specs.Lists.{Lists}
use Rattle.ch_watch.specs.Same.{node_of, same_node}
use Rattle.ch_watch.specs.Watches.{watch_of, unwatch_of, told_of, arrive_of, lost_of, ended_of, register_of, unregister_of}
use Rattle.ch_model.specs.declared.act.Act.{Act}
use Rattle.ch_model.specs.declared.act.Act.TheVariants as acts
use Rattle.ch_model.specs.declared.command.CommandError.TheVariants as errors
use Rattle.ch_model.specs.declared.note.Note.TheVariants as notes
use Rattle.ch_model.specs.declared.note.Origin.{Origin}
use Rattle.ch_model.specs.declared.step.Weight.{Weight}
use Rattle.ch_model.specs.declared.step.Weight.TheVariants.{Counted, Free}
use Rattle.ch_model.specs.NodeState.{NodeState, Pair, Mark, Unopened, Opened, Broken, Bound, Unread, Void, FromNode, ToNames, ToTarget, Arrived}
use Rattle.ch_model.specs.NodeActs.{◌>>=◌, Done, silent, noting, after, ◌and_then◌, each_in_turn, stopping, mailed, watching, or_unchanged, growing}
use Rattle.ch_model.specs.NodeIds.{process_id, reference_to, is_here, is_own, is_living, target_at}
use Rattle.ch_model.specs.NodePairs.{pair_of, with_pair, next_epoch, lost_pairs}
use Rattle.ch_model.specs.NodeConnections.{drawn, conn_to, tell_first, tell_on, tell_node}
use Rattle.ch_model.specs.NodeLives.{make, doom, mail_to, with_process, reason_of, link_text, exit_text, kill_text}
use Rattle.ch_model.specs.NodeWatches.{is_awaited, without, closing, monitor_told, link_told, told_as, told_closed, told, tell_end, absent, watch_arrives, watch_leaves, watch_under}
use Rattle.ch_model.specs.NodeEnds.{over, bereft, farewell, shut_lists}
use Rattle.ch_model.specs.NodeAsks.{spawned_closed, spawned, tell_spawned, fail_unlabelled, spawn_arrives, found_closed, found, tell_found, standing, question_arrives, may_doom, doom_arrives, origin_of}
use Rattle.ch_model.specs.NodeMessages.{handle, is_for_peer, ask}
use Rattle.ch_model.specs.NodeSends.{got_put, get, get_standing, deliver, send_first, send_on, carry}
use Rattle.ch_model.specs.NodeRoom.{acting, falling, fitting, not_full}
use Rattle.ch_model.specs.NodeCommands.{receive_of, take_port, open_port, finish_of, fall_of}
use Rattle.ch_model.specs.NodeRequests.{watch_message, unwatch_message, watch, watch_by, unwatch_by, doom_by, asked_note, question, spawn_by, whereis_by, register_by, unregister_by}
use Rattle.ch_model.specs.NodeArrivals.{bind, from_node, to_name, to_target, received_as, received_on, received, arrives, departs, lost_told, peer_lost}
use Rattle.ch_model.specs.Node.{node_make, node_command, node_event, node_shut}
use Rattle.ch_model.specs.declared.note.Note.{Note}
use Rattle.ch_model.specs.NodePairs.{same_target, is_pair, new_pair, closed_mark, closed_by, closed_pairs, broken, lost_as, lost_pair, conns_by}
use Rattle.ch_model.specs.NodeEnds.{fallen}
use Rattle.ch_model.specs.NodeConnections.{opening}
use Rattle.ch_mail.specs.Mail.{doom_of}
use Rattle.std.proofs.lemmas.Bool.{and_parts}
use Rattle.ch_laws_delivery.proofs.Keys.{pair_key, pair_kept, other_kept}
use Rattle.ch_laws_epochs.specs.Numbers.{numbers_of, pair_stands}

-- the note is of no message and of no reconnect
abbrev pub is_silent : Note → Bool
is_silent (notes.Said by to epoch index message) = false
is_silent (notes.Again by to epoch) = false
is_silent note = true

abbrev pub AreSilent : List Act → Type 0
AreSilent [] = Unit {0}
AreSilent (acts.Note note ∷ rest) = (is_silent note ≡ true) × AreSilent rest
AreSilent (act ∷ rest) = AreSilent rest

-- each pair of processes is at its epoch and index
abbrev pub KeepsNumbers : List Pair → List Pair → Type 0
KeepsNumbers before after = (by : ℕ) (to : ProcessId) → pair_stands after by to ≡ pair_stands before by to

-- whatever was done, no message was told, and the pairs are where they were
abbrev pub Calm : {E : Type 0} → NodeState → Result (List Act × NodeState) E → Type 0
Calm before (Ok done) = AreSilent done.0 × KeepsNumbers before.pairs done.1.pairs
Calm before (Err e) = Unit {0}

-- the same of what gives a node alone
abbrev Kept : NodeState → Result NodeState Stop → Type 0
Kept before (Ok next) = next.pairs ≡ before.pairs
Kept before (Err stop) = Unit {0}

-- and of what may give one beside something else
abbrev KeptBeside : {A : Type 0} → NodeState → Option (A × NodeState) → Type 0
KeptBeside before (Some next) = next.1.pairs ≡ before.pairs
KeptBeside before None = Unit {0}

-- ---- one thing and then another

silent_both : (xs ys : List Act) → AreSilent xs → AreSilent ys → AreSilent (xs ++ ys)
silent_both [] ys a b = b
silent_both (acts.Note note ∷ xs) ys a b = (a.0, silent_both xs ys a.1 b)
silent_both (acts.Open conn peer ∷ xs) ys a b = silent_both xs ys a b
silent_both (acts.Put conn payload weight ∷ xs) ys a b = silent_both xs ys a b
silent_both (acts.Close conn ∷ xs) ys a b = silent_both xs ys a b

from : (one two : NodeState) (done : Done) → two.pairs ≡ one.pairs → Calm two done → Calm one done
from one two (Ok done) a b = (b.0, λ by to. b.1 by to ∙ ap (λ (ps : List Pair). pair_stands ps by to) a)
from one two (Err e) a b = tt

onto : (one two : NodeState) (done : Done) → KeepsNumbers one.pairs two.pairs → Calm two done → Calm one done
onto one two (Ok done) a b = (b.0, λ by to. b.1 by to ∙ a by to)
onto one two (Err e) a b = tt

later : (acts : List Act) (one two : NodeState) (done : Done) → AreSilent acts × KeepsNumbers one.pairs two.pairs → Calm two done → Calm one (after acts done)
later acts one two (Ok done) a b = (silent_both acts done.0 a.0 b.0, λ by to. b.1 by to ∙ a.1 by to)
later acts one two (Err stop) a b = tt

chained : (node : NodeState) (done : Done) (f : NodeState → Done) → Calm node done → ((next : NodeState) → Calm next (f next)) → Calm node (done and_then f)
chained node (Ok done) f a g = later done.0 node done.1 (f done.1) a (g done.1)
chained node (Err stop) f a g = tt

bound : {A E : Type 0} (node : NodeState) (given : Result A E) (f : A → Result (List Act × NodeState) E) → ((x : A) → Calm node (f x)) → Calm node (given >>= f)
bound node (Ok x) f k = k x
bound node (Err e) f k = tt

bound_kept : (node : NodeState) (given : Result NodeState Stop) (f : NodeState → Done) → Kept node given → ((next : NodeState) → Calm next (f next)) → Calm node (given >>= f)
bound_kept node (Ok next) f k g = from node next (f next) k (g next)
bound_kept node (Err stop) f k g = tt

stopped : (node : NodeState) (done : Done) → Calm node done → Calm node (stopping done)
stopped node (Ok done) k = k
stopped node (Err stop) k = tt

in_turn : {A : Type 0} (f : A → NodeState → Done) (xs : List A) (node : NodeState) → ((x : A) (next : NodeState) → Calm next (f x next)) → Calm node (each_in_turn f xs node)
in_turn f [] node k = (tt, λ by to. refl)
in_turn f (x ∷ rest) node k = chained node (f x node) (λ n. each_in_turn f rest n) (k x node) (λ next. in_turn f rest next k)

-- ---- pairs that are where they were

-- a pair in the place of another, of the same process and target where that is a process, has its numbers
abbrev Alike : Pair → Pair → Type 0
Alike p q = (by : ℕ) (to : ProcessId) → (is_pair by (targets.Process to) q ≡ is_pair by (targets.Process to) p) × (is_pair by (targets.Process to) p ≡ true → numbers_of q ≡ numbers_of p)

one_kept : (p q : Pair) (ps qs : List Pair) → Alike p q → KeepsNumbers ps qs → KeepsNumbers (p ∷ ps) (q ∷ qs)
unfolding pair_of
one_kept p q ps qs a k by to = by_test (is_pair by (targets.Process to) p) (is_pair by (targets.Process to) q) (a by to).0 (a by to).1 (k by to)
  where
    by_test : (x y : Bool) → y ≡ x → (x ≡ true → numbers_of q ≡ numbers_of p) → pair_stands qs by to ≡ pair_stands ps by to
        → numbers_of (unwrap_or (cond y (Some q) (find (is_pair by (targets.Process to)) qs)) (new_pair by (targets.Process to))) ≡ numbers_of (unwrap_or (cond x (Some p) (find (is_pair by (targets.Process to)) ps)) (new_pair by (targets.Process to)))
    by_test true true e n k = n refl
    by_test false false e n k = k
    by_test true false e n k = absurd cc
    by_test false true e n k = absurd cc

marked : (pair : Pair) (mark : Mark) → Alike pair (record pair { mark = mark })
unfolding is_pair
marked pair mark = λ by to. (refl, λ e. refl)

closed_one : (n : ℕ) (pair : Pair) → Alike pair (closed_by n pair)
closed_one n pair = by_test (pair.by == n)
  where
    by_test : (b : Bool) → Alike pair (cond b (record pair { mark = closed_mark pair.mark }) pair)
    by_test true = marked pair (closed_mark pair.mark)
    by_test false = λ by to. (refl, λ e. refl)

closed_kept : (pairs : List Pair) (n : ℕ) → KeepsNumbers pairs (closed_pairs pairs n)
unfolding closed_pairs
closed_kept [] n = λ by to. refl
closed_kept (pair ∷ rest) n = one_kept pair (closed_by n pair) rest (closed_pairs rest n) (closed_one n pair) (closed_kept rest n)

-- the same of a pair that may be given, and of pairs
abbrev AlikeTo : Pair → Result Pair Stop → Type 0
AlikeTo pair (Ok next) = Alike pair next
AlikeTo pair (Err stop) = Unit {0}

abbrev KeptIn : List Pair → Result (List Pair) Stop → Type 0
KeptIn pairs (Ok next) = KeepsNumbers pairs next
KeptIn pairs (Err stop) = Unit {0}

-- the pair of a name is of no process
next_alike : (pair : Pair) (at : Address) (name : List ℕ) → pair.to ≡ targets.Named at name → AlikeTo pair (next_epoch pair)
unfolding next_epoch is_pair same_target
next_alike pair at name e = by_count (growing pair.epoch)
  where
    clash : false ≡ true → ⊥
    clash h = cc

    never : (by : ℕ) (to : ProcessId) → ((pair.by == by) && same_target pair.to (targets.Process to)) ≡ true → ⊥
    never by to h = clash (ap (λ (t : Target). same_target t (targets.Process to)) (sym e) ∙ (and_parts (pair.by == by) (same_target pair.to (targets.Process to)) h).1)

    by_count : (given : Result ℕ Stop) → AlikeTo pair (given >>= (λ epoch. Ok (record pair { epoch = epoch + 1; index = 0; mark = Unopened })))
    by_count (Ok epoch) = λ by to. (refl, λ h. absurd (never by to h))
    by_count (Err stop) = tt

broken_alike : (pair : Pair) (to : Target) → pair.to ≡ to → AlikeTo pair (broken pair to)
broken_alike pair (targets.Named at name) e = next_alike pair at name e
broken_alike pair (targets.Process process) e = marked pair Broken
broken_alike pair (targets.Port port) e = marked pair Broken

lost_alike : (peer : Address) (pair : Pair) → AlikeTo pair (lost_pair peer pair)
unfolding lost_pair
lost_alike peer pair = by_test (same_node (target_at pair.to) peer)
  where
    by_mark : (mark : Mark) → AlikeTo pair (lost_as pair mark)
    by_mark (Opened conn) = broken_alike pair pair.to refl
    by_mark Unopened = λ by to. (refl, λ e. refl)
    by_mark Broken = λ by to. (refl, λ e. refl)

    by_test : (b : Bool) → AlikeTo pair (cond b (lost_as pair pair.mark) (Ok pair))
    by_test true = by_mark pair.mark
    by_test false = λ by to. (refl, λ e. refl)

lost_kept : (peer : Address) (pairs : List Pair) → KeptIn pairs (lost_pairs peer pairs)
lost_kept peer [] = λ by to. refl
lost_kept peer (pair ∷ rest) = by_one (lost_pair peer pair) (lost_alike peer pair) (lost_pairs peer rest) (lost_kept peer rest)
  where
    by_one : (one : Result Pair Stop) → AlikeTo pair one → (others : Result (List Pair) Stop) → KeptIn rest others → KeptIn (pair ∷ rest) (one >>= (λ lost. others >>= (λ more. Ok (lost ∷ more))))
    by_one (Ok one) a (Ok others) k = one_kept pair one rest others a k
    by_one (Ok one) a (Err stop) k = tt
    by_one (Err stop) a others k = tt

-- ---- acts that tell of no message

names_fall : (node : NodeState) (names : List (List ℕ)) → AreSilent (map (fallen node) names)
names_fall node [] = tt
names_fall node (name ∷ rest) = (refl, names_fall node rest)

all_close : (conns : List ℕ) → AreSilent (map (λ conn. acts.Close conn) conns)
all_close [] = tt
all_close (conn ∷ rest) = all_close rest

parting : (node : NodeState) (number : ℕ) (reason : Reason) (names : List (List ℕ)) → AreSilent (farewell node number reason names)
unfolding farewell
parting node number reason names = (refl, silent_both (map (fallen node) names) (map (λ conn. acts.Close conn) (conns_by node.pairs number)) (names_fall node names) (all_close (conns_by node.pairs number)))

asked_silent : (node : NodeState) (by : ℕ) (at : Address) (question : Ref) → AreSilent (asked_note node by at question)
asked_silent node by at question = by_test (is_here node at)
  where
    by_test : (b : Bool) → AreSilent (cond b [] (acts.Note (notes.Asked question (process_id node by) at) ∷ []))
    by_test true = tt
    by_test false = (refl, tt)

-- ---- messages to other nodes

told_first : (node : NodeState) (peer : Address) (said : NodeMessage) (weight : Weight) → Calm node (tell_first node peer said weight)
unfolding tell_first opening
told_first node peer said weight = bound node (drawn node) _ (λ conn. (tt, λ by to. refl))

told_on : (node : NodeState) (peer : Address) (said : NodeMessage) (weight : Weight) (conn : Option ℕ) → Calm node (tell_on node peer said weight conn)
told_on node peer said weight None = told_first node peer said weight
told_on node peer said weight (Some conn) = (tt, λ by to. refl)

node_told : (node : NodeState) (peer : Address) (said : NodeMessage) (weight : Weight) → Calm node (tell_node node peer said weight)
unfolding tell_node
node_told node peer said weight = told_on node peer said weight (conn_to node peer)

-- ---- lives

made : (node : NodeState) (origin : Option Origin) (args : List ℕ) → Calm node (make node origin args)
unfolding make
made node origin args = bound node (make_of node.mail) _ (λ made. ((refl, tt), λ by to. refl))

doomed : (node : NodeState) (number : ℕ) (text : List ℕ) → Calm node (doom node number text)
unfolding doom
doomed node number text = (by_test (doom_of node.mail number text).0, λ by to. refl)
  where
    by_test : (b : Bool) → AreSilent (cond b (acts.Note (notes.Doom (process_id node number) text) ∷ []) [])
    by_test true = (refl, tt)
    by_test false = tt

mailed_to : (node : NodeState) (number : ℕ) (mark body : List ℕ) → Kept node (mail_to node number mark body)
unfolding mail_to
mailed_to node number mark body = by_mail (or_unchanged node.mail (put_of node.mail number None (record { mark = mark; body = body })))
  where
    by_mail : (mail : Result (List Process) Stop) → Kept node (mail >>= (λ mail. Ok (record node { mail = mail })))
    by_mail (Ok mail) = refl
    by_mail (Err stop) = tt

-- ---- watches that are told

closed : (node : NodeState) (kind : Kind) (asked : Ref) → KeptBeside node (closing node kind asked)
unfolding closing
closed node kind asked = by_test (is_here node asked.node && is_awaited node.watches kind asked.number)
  where
    by_result : (given : Result (Waiting × Lists) WatchError) → KeptBeside node (without node given)
    by_result (Ok closed) = refl
    by_result (Err e) = tt

    by_test : (b : Bool) → KeptBeside node (cond b (without node (told_of node.watches asked.number)) None)
    by_test true = by_result (told_of node.watches asked.number)
    by_test false = tt

told_of_monitor : (node : NodeState) (watch : Ref) (reason : Reason) (owner : ℕ) → Calm node (monitor_told node watch reason owner)
unfolding monitor_told
told_of_monitor node watch reason owner = bound_kept node (mail_to node owner (codes "$died") (spelling.reference watch ++ spelling.reason reason)) _ (mailed_to node owner (codes "$died") (spelling.reference watch ++ spelling.reason reason)) (λ next. ((refl, tt), λ by to. refl))

told_of_link : (node : NodeState) (watch : Ref) (reason : Reason) (owner : ℕ) → Calm node (link_told node watch reason owner)
unfolding link_told
told_of_link node watch reason owner = later (acts.Note (notes.Told watch reason) ∷ []) node node (doom node owner (link_text reason)) ((refl, tt), λ by to. refl) (doomed node owner (link_text reason))

told_by_kind : (kind : Kind) (node : NodeState) (watch : Ref) (reason : Reason) (owner : ℕ) → Calm node (told_as kind node watch reason owner)
told_by_kind kinds.Monitor node watch reason owner = told_of_monitor node watch reason owner
told_by_kind kinds.Link node watch reason owner = told_of_link node watch reason owner
told_by_kind kinds.Spawn node watch reason owner = (tt, λ by to. refl)
told_by_kind kinds.Ask node watch reason owner = (tt, λ by to. refl)

told_where_closed : (node : NodeState) (watch : Ref) (reason : Reason) (o : Option (Waiting × NodeState)) → KeptBeside node o → Calm node (told_closed node watch reason o)
told_where_closed node watch reason None k = (tt, λ by to. refl)
told_where_closed node watch reason (Some closed) k = from node closed.1 (told_as closed.0.kind closed.1 watch reason closed.0.owner) k (told_by_kind closed.0.kind closed.1 watch reason closed.0.owner)

told_here : (node : NodeState) (watch : Ref) (reason : Reason) → Calm node (told node watch reason)
unfolding told
told_here node watch reason = told_where_closed node watch reason (closing node kinds.Monitor watch) (closed node kinds.Monitor watch)

end_told : (node : NodeState) (watch : Ref) (reason : Reason) → Calm node (tell_end node watch reason)
unfolding tell_end
end_told node watch reason = by_test (is_here node watch.node)
  where
    by_test : (b : Bool) → Calm node (cond b (told node watch reason) (tell_node node watch.node (messages.Died watch reason) Free))
    by_test true = told_here node watch reason
    by_test false = node_told node watch.node (messages.Died watch reason) Free

-- ---- watches that arrive

found_absent : (node : NodeState) (watch : Ref) → Calm node (absent node watch)
unfolding absent
found_absent node watch = later (acts.Note (notes.Absent watch) ∷ []) node node (tell_end node watch reasons.UnknownId) ((refl, tt), λ by to. refl) (end_told node watch reasons.UnknownId)

watch_arrived : (node : NodeState) (watch : Ref) (target : ProcessId) → Calm node (watch_arrives node watch target)
unfolding watch_arrives
watch_arrived node watch target = by_test (is_living node target)
  where
    by_test : (b : Bool) → Calm node (cond b (silent (record node { watches = arrive_of node.watches target.counter watch })) (absent node watch))
    by_test true = (tt, λ by to. refl)
    by_test false = found_absent node watch

watch_left : (node : NodeState) (watch : Ref) → Calm node (watch_leaves node watch)
unfolding watch_leaves
watch_left node watch = (tt, λ by to. refl)

-- ---- ends

is_over : (node : NodeState) (number : ℕ) (reason : Reason) → Calm node (over node number reason)
unfolding over
is_over node number reason = bound node (or_unchanged node.mail (end_of node.mail number reason)) _ (λ mail.
    later (farewell node number reason (ended_of node.watches number).0.names) node (bereft node mail (ended_of node.watches number).1 number) (each_in_turn (λ watch m. tell_end m watch reason) (ended_of node.watches number).0.watches (bereft node mail (ended_of node.watches number).1 number)) (parting node number reason (ended_of node.watches number).0.names, closed_kept node.pairs number)
    (in_turn (λ watch m. tell_end m watch reason) (ended_of node.watches number).0.watches (bereft node mail (ended_of node.watches number).1 number) (λ watch m. end_told m watch reason)))

-- ---- spawns, questions and dooms

spawned_where_closed : (node : NodeState) (question : Ref) (process : ProcessId) (o : Option (Waiting × NodeState)) → KeptBeside node o → Calm node (spawned_closed node question process o)
spawned_where_closed node question process None k = (tt, λ by to. refl)
spawned_where_closed node question process (Some closed) k = from node closed.1 (spawned_closed closed.1 question process (Some closed)) k (bound_kept closed.1 (mail_to closed.1 closed.0.owner (codes "$spawned") (spelling.reference question ++ spelling.process process)) _ (mailed_to closed.1 closed.0.owner (codes "$spawned") (spelling.reference question ++ spelling.process process)) (λ next. ((refl, tt), λ by to. refl)))

spawned_here : (node : NodeState) (question : Ref) (process : ProcessId) → Calm node (spawned node question process)
unfolding spawned
spawned_here node question process = spawned_where_closed node question process (closing node kinds.Spawn question) (closed node kinds.Spawn question)

spawned_told : (node : NodeState) (question : Ref) (process : ProcessId) → Calm node (tell_spawned node question process)
unfolding tell_spawned
spawned_told node question process = by_test (is_here node question.node)
  where
    by_test : (b : Bool) → Calm node (cond b (spawned node question process) (tell_node node question.node (messages.DidSpawn question process) Free))
    by_test true = spawned_here node question process
    by_test false = node_told node question.node (messages.DidSpawn question process) Free

labelled : (node : NodeState) (label : List ℕ) (number : ℕ) → Calm node (fail_unlabelled node label number)
unfolding fail_unlabelled
labelled node label number = by_test (is_some (place_of node.labels label))
  where
    by_test : (b : Bool) → Calm node (cond b (silent node) (over node number (reasons.Exception (codes "unknown label"))))
    by_test true = (tt, λ by to. refl)
    by_test false = is_over node number (reasons.Exception (codes "unknown label"))

spawn_arrived : (node : NodeState) (question : Ref) (label args : List ℕ) → Calm node (spawn_arrives node question label args)
unfolding spawn_arrives
spawn_arrived node question label args = bound node (make_of node.mail) _ (λ made.
    chained node (noting (notes.Made (process_id node made.0) (Some (origin_of question label))) (with_process node made.1 args) and_then (λ n. fail_unlabelled n label made.0)) (λ n. tell_spawned n question (process_id n made.0))
    (chained node (noting (notes.Made (process_id node made.0) (Some (origin_of question label))) (with_process node made.1 args)) (λ n. fail_unlabelled n label made.0) ((refl, tt), λ by to. refl) (λ next. labelled next label made.0))
    (λ next. spawned_told next question (process_id next made.0)))

found_where_closed : (node : NodeState) (question : Ref) (at : Option ProcessId) (o : Option (Waiting × NodeState)) → KeptBeside node o → Calm node (found_closed node question at o)
found_where_closed node question at None k = (tt, λ by to. refl)
found_where_closed node question at (Some closed) k = from node closed.1 (found_closed closed.1 question at (Some closed)) k (bound_kept closed.1 (mail_to closed.1 closed.0.owner (codes "$isat") (spelling.reference question ++ spelling.found at)) _ (mailed_to closed.1 closed.0.owner (codes "$isat") (spelling.reference question ++ spelling.found at)) (λ next. ((refl, tt), λ by to. refl)))

found_here : (node : NodeState) (question : Ref) (at : Option ProcessId) → Calm node (found node question at)
unfolding found
found_here node question at = found_where_closed node question at (closing node kinds.Ask question) (closed node kinds.Ask question)

found_told : (node : NodeState) (question : Ref) (at : Option ProcessId) → Calm node (tell_found node question at)
unfolding tell_found
found_told node question at = by_test (is_here node question.node)
  where
    by_test : (b : Bool) → Calm node (cond b (found node question at) (tell_node node question.node (messages.IsAt question at) Free))
    by_test true = found_here node question at
    by_test false = node_told node question.node (messages.IsAt question at) Free

question_arrived : (node : NodeState) (question : Ref) (name : List ℕ) → Calm node (question_arrives node question name)
unfolding question_arrives
question_arrived node question name = found_told node question (standing node name)

doom_arrived : (node : NodeState) (target : ProcessId) (given text : List ℕ) → Calm node (doom_arrives node target given text)
unfolding doom_arrives
doom_arrived node target given text = by_test (is_own node target && may_doom given)
  where
    by_test : (b : Bool) → Calm node (cond b (doom node target.counter text) (silent node))
    by_test true = doomed node target.counter text
    by_test false = (tt, λ by to. refl)

-- ---- messages from node to node

handled : (node : NodeState) (said : NodeMessage) → Calm node (handle node said)
unfolding handle
handled node (messages.Monitor watch target) = watch_arrived node watch target
handled node (messages.Unmonitor watch) = watch_left node watch
handled node (messages.Link watch target) = watch_arrived node watch target
handled node (messages.Unlink watch) = watch_left node watch
handled node (messages.Spawn question label args) = spawn_arrived node question label args
handled node (messages.DidSpawn question process) = spawned_here node question process
handled node (messages.Died watch reason) = told_here node watch reason
handled node (messages.WhereIs question name) = question_arrived node question name
handled node (messages.IsAt question at) = found_here node question at
handled node (messages.Exit target text) = doom_arrived node target text (exit_text text)
handled node (messages.Kill target text) = doom_arrived node target text (kill_text text)
handled node other = (tt, λ by to. refl)

asked : (node : NodeState) (at : Address) (said : NodeMessage) → Calm node (ask node at said)
unfolding ask
asked node at said = by_test (is_here node at)
  where
    by_test : (b : Bool) → Calm node (cond b (handle node said) (tell_node node at said (Counted None)))
    by_test true = handled node said
    by_test false = node_told node at said (Counted None)

-- ---- messages of processes

put_by : (node : NodeState) (sender : ProcessId) (to : Target) (receiver : ProcessId) (given : Result (List Process) MailError) → Calm node (got_put node sender to receiver given)
put_by node sender to receiver (Ok mail) = ((refl, tt), λ by to. refl)
put_by node sender to receiver (Err mails.NotLive) = (tt, λ by to. refl)
put_by node sender to receiver (Err mails.Empty) = (tt, λ by to. refl)
put_by node sender to receiver (Err mails.OutOfMemory) = tt
put_by node sender to receiver (Err mails.Worn) = tt

got : (node : NodeState) (sender : ProcessId) (to : Target) (receiver : ProcessId) (port : Option ℕ) (said : Message) → Calm node (get node sender to receiver port said)
unfolding get
got node sender to receiver port said = put_by node sender to receiver (put_of node.mail receiver.counter port said)

got_by_name : (node : NodeState) (sender : ProcessId) (to : Target) (said : Message) (receiver : Option ProcessId) → Calm node (get_standing node sender to said receiver)
got_by_name node sender to said None = ((refl, tt), λ by to. refl)
got_by_name node sender to said (Some receiver) = got node sender to receiver None said

delivered : (node : NodeState) (sender : ProcessId) (to : Target) (said : Message) → Calm node (deliver node sender to said)
unfolding deliver
delivered node sender (targets.Process process) said = got node sender (targets.Process process) process None said
delivered node sender (targets.Port port) said = got node sender (targets.Port port) port.process (Some port.port) said
delivered node sender (targets.Named at name) said = got_by_name node sender (targets.Named at name) said (standing node name)

-- ---- a message on its way, of a pair that is kept

sent_first : (node : NodeState) (pair : Pair) (said : Message) (weight : Weight) → pair_of node.pairs pair.by pair.to ≡ pair → Calm node (send_first node pair said weight)
unfolding send_first opening
sent_first node pair said weight there = bound node (drawn node) _ (λ conn. (tt, λ by to. by_test conn by to (is_pair by (targets.Process to) (record pair { mark = Opened conn })) refl))
  where
    by_test : (conn by : ℕ) (to : ProcessId) (b : Bool) → is_pair by (targets.Process to) (record pair { mark = Opened conn }) ≡ b → pair_stands (with_pair (record pair { mark = Opened conn }) node.pairs) by to ≡ pair_stands node.pairs by to
    by_test conn by to true is =
        let key = pair_key by (targets.Process to) (record pair { mark = Opened conn }) is in
        let now = ap numbers_of (pair_kept (record pair { mark = Opened conn }) node.pairs) in
        let then_ = ap numbers_of there in
        ap (λ (n : ℕ). numbers_of (pair_of (with_pair (record pair { mark = Opened conn }) node.pairs) n (targets.Process to))) (sym key.0)
        ∙ ap (λ (t : Target). numbers_of (pair_of (with_pair (record pair { mark = Opened conn }) node.pairs) pair.by t)) (sym key.1)
        ∙ now ∙ sym then_
        ∙ ap (λ (t : Target). numbers_of (pair_of node.pairs pair.by t)) key.1
        ∙ ap (λ (n : ℕ). numbers_of (pair_of node.pairs n (targets.Process to))) key.0
    by_test conn by to false is = ap numbers_of (other_kept (record pair { mark = Opened conn }) by (targets.Process to) is node.pairs)

sent_on : (node : NodeState) (pair : Pair) (said : Message) (weight : Weight) (mark : Mark) → pair_of node.pairs pair.by pair.to ≡ pair → Calm node (send_on node pair said weight mark)
sent_on node pair said weight Unopened there = sent_first node pair said weight there
sent_on node pair said weight (Opened conn) there = (tt, λ by to. refl)
sent_on node pair said weight Broken there = (tt, λ by to. refl)

pub carried : (node : NodeState) (pair : Pair) (said : Message) (weight : Weight) → pair_of node.pairs pair.by pair.to ≡ pair → Calm node (carry node pair said weight)
unfolding carry
carried node pair said weight there = by_test (is_here node (target_at pair.to))
  where
    by_test : (b : Bool) → Calm node (cond b (deliver node (process_id node pair.by) pair.to said) (send_on node pair said weight pair.mark))
    by_test true = delivered node (process_id node pair.by) pair.to said
    by_test false = sent_on node pair said weight pair.mark there

-- ---- commands on messages and on a process's own end

receive_stays : (node : NodeState) (by : ℕ) (mark : List ℕ) → Calm node (receive_of node by mark)
unfolding receive_of
receive_stays node by mark = bound node (acting node by) _ (λ live. bound node (mailed (take_of node.mail by mark)) _ (λ taken. ((refl, tt), λ by to. refl)))

take_stays : (node : NodeState) (by port : ℕ) → Calm node (take_port node by port)
unfolding take_port
take_stays node by port = bound node (acting node by) _ (λ live. bound node (mailed (take_port_of node.mail by port)) _ (λ taken. ((refl, tt), λ by to. refl)))

port_stays : (node : NodeState) (by : ℕ) → Calm node (open_port node by)
unfolding open_port
port_stays node by = bound node (acting node by) _ (λ live. bound node (mailed (open_port_of node.mail by)) _ (λ opened. ((refl, tt), λ by to. refl)))

finish_stays : (node : NodeState) (by : ℕ) (reason : Reason) → Calm node (finish_of node by reason)
unfolding finish_of
finish_stays node by reason = bound node (acting node by) _ (λ live. stopped node (over node by reason) (is_over node by reason))

fall_stays : (node : NodeState) (by : ℕ) → Calm node (fall_of node by)
unfolding fall_of
fall_stays node by = bound node (falling node by) _ (λ text. stopped node (over node by (reasons.Exception text)) (is_over node by (reasons.Exception text)))

-- ---- commands on other processes and on names

watched : (node : NodeState) (by : ℕ) (kind : Kind) (target : ProcessId) → Calm node (watch node by kind target)
unfolding watch
watched node by kind target = bound node (watch_of node.watches by kind (ends.Process target)) _ (λ opened.
    later (acts.Note (notes.Watch (reference_to node opened.0) (process_id node by) target kind) ∷ []) node (record node { watches = opened.1 }) (ask (record node { watches = opened.1 }) target.node (watch_message kind (reference_to node opened.0) target)) ((refl, tt), λ by to. refl) (asked (record node { watches = opened.1 }) target.node (watch_message kind (reference_to node opened.0) target)))

watch_stays : (node : NodeState) (by : ℕ) (kind : Kind) (target : ProcessId) (room : Room) → Calm node (watch_by node by kind target room)
unfolding watch_by
watch_stays node by kind target room = bound node (acting node by) _ (λ live. bound node (not_full node target.node room) _ (λ roomy. stopped node (watch node by kind target) (watched node by kind target)))

unwatch_stays : (node : NodeState) (by : ℕ) (given : Ref) (room : Room) → Calm node (unwatch_by node by given room)
unfolding unwatch_by
unwatch_stays node by given room = bound node (acting node by) _ (λ live. bound node (ok_or (watch_under node by given) errors.NoRef) _ (λ waiting. bound node (not_full node (node_of waiting.target) room) _ (λ roomy. bound node (watching (unwatch_of node.watches by given.number)) _ (λ closed.
    stopped node (noting (notes.Unwatch given) (record node { watches = closed.1 }) and_then (λ n. ask n (node_of waiting.target) (unwatch_message waiting.kind given))) (later (acts.Note (notes.Unwatch given) ∷ []) node (record node { watches = closed.1 }) (ask (record node { watches = closed.1 }) (node_of waiting.target) (unwatch_message waiting.kind given)) ((refl, tt), λ by to. refl) (asked (record node { watches = closed.1 }) (node_of waiting.target) (unwatch_message waiting.kind given)))))))

doom_stays : (node : NodeState) (by : ℕ) (at : Address) (said : NodeMessage) (room : Room) → Calm node (doom_by node by at said room)
unfolding doom_by
doom_stays node by at said room = bound node (acting node by) _ (λ live. bound node (not_full node at room) _ (λ roomy. stopped node (ask node at said) (asked node at said)))

questioned : (node : NodeState) (by : ℕ) (kind : Kind) (at : Address) (said : Ref → NodeMessage) → Calm node (question node by kind at said)
unfolding question
questioned node by kind at said = bound node (watch_of node.watches by kind (ends.Node at)) _ (λ opened.
    later (asked_note node by at (reference_to node opened.0)) node (record node { watches = opened.1 }) (ask (record node { watches = opened.1 }) at (said (reference_to node opened.0))) (asked_silent node by at (reference_to node opened.0), λ by to. refl) (asked (record node { watches = opened.1 }) at (said (reference_to node opened.0))))

spawn_stays : (node : NodeState) (by : ℕ) (at : Address) (closure : Closure) (room : Room) → Calm node (spawn_by node by at closure room)
unfolding spawn_by
spawn_stays node by at closure room = bound node (acting node by) _ (λ live. bound node (fitting (spelling.message (messages.Spawn (reference_to node node.watches.next) closure.label closure.args))) _ (λ short. bound node (not_full node at room) _ (λ roomy. stopped node (question node by kinds.Spawn at (λ asked. messages.Spawn asked closure.label closure.args)) (questioned node by kinds.Spawn at (λ asked. messages.Spawn asked closure.label closure.args)))))

whereis_stays : (node : NodeState) (by : ℕ) (at : Address) (name : List ℕ) (room : Room) → Calm node (whereis_by node by at name room)
unfolding whereis_by
whereis_stays node by at name room = bound node (acting node by) _ (λ live. bound node (not_full node at room) _ (λ roomy. stopped node (question node by kinds.Ask at (λ asked. messages.WhereIs asked name)) (questioned node by kinds.Ask at (λ asked. messages.WhereIs asked name))))

register_stays : (node : NodeState) (by : ℕ) (name : List ℕ) → Calm node (register_by node by name)
unfolding register_by
register_stays node by name = bound node (acting node by) _ (λ live. bound node (watching (register_of node.watches name by)) _ (λ lists. ((refl, tt), λ by to. refl)))

unregister_stays : (node : NodeState) (by : ℕ) (name : List ℕ) → Calm node (unregister_by node by name)
unfolding unregister_by
unregister_stays node by name = bound node (acting node by) _ (λ live. bound node (watching (unregister_of node.watches name)) _ (λ taken. ((refl, tt), λ by to. refl)))

-- ---- the calls of a node

pub on_make : (node : NodeState) → Calm node (node_make node)
unfolding node_make
on_make node = by_test node.is_shut
  where
    by_test : (b : Bool) → Calm node (cond b (Err errors.Dead) (stopping (make node None [])))
    by_test true = tt
    by_test false = stopped node (make node None []) (made node None [])

-- a command that neither says a message nor reconnects
abbrev pub says_none : Command → Bool
says_none (commands.Send to said) = false
says_none (commands.Again to) = false
says_none command = true

pub on_command : (node : NodeState) (by : ℕ) (command : Command) (room : Room) → says_none command ≡ true → Calm node (node_command node by command room)
unfolding node_command
on_command node by (commands.Send to said) room none = absurd cc
on_command node by (commands.Again to) room none = absurd cc
on_command node by (commands.Receive mark) room none = receive_stays node by mark
on_command node by commands.OpenPort room none = port_stays node by
on_command node by (commands.Take port) room none = take_stays node by port
on_command node by commands.End room none = finish_stays node by reasons.Normal
on_command node by (commands.Fail text) room none = finish_stays node by (reasons.Exception text)
on_command node by commands.Fall room none = fall_stays node by
on_command node by (commands.Monitor target) room none = watch_stays node by kinds.Monitor target room
on_command node by (commands.Link target) room none = watch_stays node by kinds.Link target room
on_command node by (commands.Unwatch watch) room none = unwatch_stays node by watch room
on_command node by (commands.Exit target text) room none = doom_stays node by target.node (messages.Exit target text) room
on_command node by (commands.Kill target text) room none = doom_stays node by target.node (messages.Kill target text) room
on_command node by (commands.Spawn at closure) room none = spawn_stays node by at closure room
on_command node by (commands.Register name) room none = register_stays node by name
on_command node by (commands.Unregister name) room none = unregister_stays node by name
on_command node by (commands.WhereIs at name) room none = whereis_stays node by at name room

pub on_shut : (node : NodeState) → Calm node (node_shut node)
unfolding node_shut
on_shut node = by_test node.is_shut
  where
    by_test : (b : Bool) → Calm node (cond b (Err errors.Dead) (Ok (acts.Note (notes.Shut node.own) ∷ [], record node { is_shut = true; mail = map downed node.mail; watches = shut_lists node.watches })))
    by_test true = tt
    by_test false = ((refl, tt), λ by to. refl)

-- ---- what comes on a connection

by_node : (node : NodeState) (peer : Address) (said : Result NodeMessage IdentError) → Calm node (from_node node peer said)
by_node node peer (Ok said) = by_test (is_for_peer peer said)
  where
    by_test : (b : Bool) → Calm node (cond b (handle node said) (silent node))
    by_test true = handled node said
    by_test false = (tt, λ by to. refl)
by_node node peer (Err e) = (tt, λ by to. refl)

by_name : (node : NodeState) (sender : ProcessId) (said : Result NodeMessage IdentError) → Calm node (to_name node sender said)
by_name node sender (Ok (messages.NamedSend name mark body)) = delivered node sender (targets.Named node.own name) (record { mark = mark; body = body })
by_name node sender said = (tt, λ by to. refl)

by_target : (node : NodeState) (sender : ProcessId) (to : Target) (said : Result Message IdentError) → Calm node (to_target node sender to said)
by_target node sender to (Ok said) = delivered node sender to said
by_target node sender to (Err e) = (tt, λ by to. refl)

came_as : (node : NodeState) (arrived : Arrived) (payload : List ℕ) (bound : Bound) → Calm node (received_as node arrived payload bound)
unfolding bind
came_as node arrived payload Unread = (tt, λ by to. refl)
came_as node arrived payload Void = (tt, λ by to. refl)
came_as node arrived payload FromNode = by_node node arrived.peer (message_of payload)
came_as node arrived payload (ToNames sender) = by_name node sender (message_of payload)
came_as node arrived payload (ToTarget sender to) = by_target node sender to (user_of payload)

came_on : (node : NodeState) (payload : List ℕ) (arrived : Option Arrived) → Calm node (received_on node payload arrived)
came_on node payload None = (tt, λ by to. refl)
came_on node payload (Some arrived) = came_as node arrived payload arrived.bound

came : (node : NodeState) (conn : ℕ) (payload : List ℕ) → Calm node (received node conn payload)
unfolding received
came node conn payload = came_on node payload (find (λ arrived. arrived.conn == conn) node.arrived)

lost_one : (why : Why) (waiting : Waiting) (node : NodeState) → Calm node (lost_told why waiting node)
unfolding lost_told
lost_one why waiting node = told_by_kind waiting.kind node (reference_to node waiting.number) (reason_of why) waiting.owner

lost : (node : NodeState) (peer : Address) (why : Why) → Calm node (peer_lost node peer why)
unfolding peer_lost
lost node peer why = by_pairs (lost_pairs peer node.pairs) (lost_kept peer node.pairs)
  where
    without_peer : List Pair → NodeState
    without_peer pairs = record node { watches = (lost_of node.watches peer).1; pairs = pairs; to_nodes = filter (λ known. not (same_node known.0 peer)) node.to_nodes; arrived = filter (λ arrived. not (same_node arrived.peer peer)) node.arrived }

    by_pairs : (given : Result (List Pair) Stop) → KeptIn node.pairs given → Calm node (given >>= (λ pairs. each_in_turn (lost_told why) (lost_of node.watches peer).0 (without_peer pairs)))
    by_pairs (Ok pairs) k = onto node (without_peer pairs) (each_in_turn (lost_told why) (lost_of node.watches peer).0 (without_peer pairs)) k (in_turn (lost_told why) (lost_of node.watches peer).0 (without_peer pairs) (lost_one why))
    by_pairs (Err stop) k = tt

pub on_event : (node : NodeState) (event : Event) → Calm node (node_event node event)
unfolding node_event arrives departs
on_event node (events.ConnectionOpened conn peer) = (tt, λ by to. refl)
on_event node (events.Received conn payload) = came node conn payload
on_event node (events.ConnectionClosed conn) = (tt, λ by to. refl)
on_event node events.EndPointClosed = (tt, λ by to. refl)
on_event node (events.ConnectionLost peer why) = lost node peer why
