-- What a node does is told as its roll permits, and makes the one roll of the other.
use Rattle.std.proofs.Common.{◌≡◌, ℕ, Bool, true, false, cond, not, ◌&&◌, List, [], ◌∷◌, ◌++◌, map, length, Ok, Err, refl, sym, ap, ◌∙◌, subst, ◌==◌}
use Rattle.std.proofs.lemmas.Bool.{and_parts}
use Rattle.std.specs.Option.{option_map, option_to_list}
use Rattle.std.specs.Prelude.{find, filter, slice_get, Result, Option, Some, None, is_some, ok_or, codes}
use Rattle.ch_base.specs.declared.address.Address.{Address}
use Rattle.ch_base.specs.declared.event.Event.{Event}
use Rattle.ch_base.specs.declared.event.Event.TheVariants as events
use Rattle.ch_base.specs.declared.event.Room.{Room}
use Rattle.ch_base.specs.declared.event.Why.{Why}
use Rattle.ch_base.specs.declared.memory.Stop.{Stop}
use Rattle.ch_ident.specs.declared.error.IdentError.{IdentError}
use Rattle.ch_ident.specs.declared.identifier.ProcessId.{ProcessId}
use Rattle.ch_ident.specs.declared.identifier.Ref.{Ref}
use Rattle.ch_ident.specs.declared.identifier.Identifier.{Identifier}
use Rattle.ch_ident.specs.declared.identifier.Identifier.TheVariants as ends
use Rattle.ch_ident.specs.declared.message.Message.{Message}
use Rattle.ch_ident.specs.declared.node_message.NodeMessage.{NodeMessage}
use Rattle.ch_ident.specs.declared.node_message.NodeMessage.TheVariants as messages
use Rattle.ch_ident.specs.declared.reason.Reason.{Reason}
use Rattle.ch_ident.specs.declared.reason.Reason.TheVariants as reasons
use Rattle.ch_ident.specs.Reading.{message_of, user_of}
use Rattle.ch_ident.specs.Spelling as spelling
use Rattle.ch_mail.specs.declared.error.MailError.{MailError}
use Rattle.ch_mail.specs.declared.error.MailError.TheVariants as mails
use Rattle.ch_mail.specs.declared.life.Life.{Life}
use Rattle.ch_mail.specs.declared.life.Life.TheVariants as lives
use Rattle.ch_mail.specs.Lives.{is_over as is_life_over}
use Rattle.ch_mail.specs.Process.{Process}
use Rattle.ch_mail.specs.Mail.{make_of, put_of, end_of, doom_of, life_of, take_of, take_port_of, open_port_of, downed}
use Rattle.ch_static.specs.declared.closure.Closure.{Closure}
use Rattle.ch_static.specs.declared.command.Command.{Command}
use Rattle.ch_static.specs.declared.command.Command.TheVariants as commands
use Rattle.ch_static.specs.declared.target.Target.{Target}
use Rattle.ch_static.specs.declared.target.Target.TheVariants as targets
use Rattle.ch_static.specs.Labels.{place_of}
use Rattle.ch_watch.specs.declared.error.WatchError.{WatchError}
use Rattle.ch_watch.specs.declared.waiting.Kind.{Kind}
use Rattle.ch_watch.specs.declared.waiting.Kind.TheVariants as kinds
use Rattle.ch_watch.specs.declared.waiting.Waiting.{Waiting}
use Rattle.ch_watch.specs.Lists.{Lists}
use Rattle.ch_watch.specs.Same.{node_of, same_node}
use Rattle.ch_watch.specs.Watches.{watch_of, unwatch_of, told_of, arrive_of, lost_of, ended_of, find_of, register_of, unregister_of}
use Rattle.ch_model.specs.declared.act.Act.{Act}
use Rattle.ch_model.specs.declared.act.Act.TheVariants as acts
use Rattle.ch_model.specs.declared.command.CommandError.{CommandError}
use Rattle.ch_model.specs.declared.command.CommandError.TheVariants as errors
use Rattle.ch_model.specs.declared.note.Note.{Note}
use Rattle.ch_model.specs.declared.note.Note.TheVariants as notes
use Rattle.ch_model.specs.declared.note.Origin.{Origin}
use Rattle.ch_model.specs.declared.step.Weight.{Weight}
use Rattle.ch_model.specs.declared.step.Weight.TheVariants.{Counted, Free}
use Rattle.ch_model.specs.NodeState.{NodeState, Pair, Mark, Unopened, Opened, Broken, Bound, Unread, Void, FromNode, ToNames, ToTarget, Arrived}
use Rattle.ch_model.specs.NodeActs.{◌>>=◌, Done, silent, noting, after, ◌and_then◌, each_in_turn, stopping, mailed, watching, or_unchanged, growing}
use Rattle.ch_model.specs.NodeIds.{process_id, reference_to, is_here, is_own, is_living, is_port_here, target_at}
use Rattle.ch_model.specs.NodePairs.{pair_of, conn_of, keeping, next_epoch, lost_pairs, conns_by}
use Rattle.ch_model.specs.NodeConnections.{drawn, opening, conn_to, tell_first, tell_on, tell_node}
use Rattle.ch_model.specs.NodeLives.{make, doom, mail_to, with_process, reason_of, link_text, exit_text, kill_text}
use Rattle.ch_model.specs.NodeWatches.{is_awaited, without, closing, monitor_told, link_told, told_as, told_closed, told, tell_end, absent, watch_arrives, watch_leaves, watch_under}
use Rattle.ch_model.specs.NodeEnds.{over, bereft, farewell, fallen, shut_lists}
use Rattle.ch_model.specs.NodeAsks.{spawned_closed, spawned, tell_spawned, fail_unlabelled, spawn_arrives, found_closed, found, tell_found, standing, question_arrives, may_doom, doom_arrives, origin_of}
use Rattle.ch_model.specs.NodeMessages.{handle, is_for_peer, ask}
use Rattle.ch_model.specs.NodeSends.{got_put, get, get_standing, deliver, payload_of, weight_of, send_first, send_on, carry, with_said, say, reconnect}
use Rattle.ch_model.specs.NodeRoom.{acting_as, acting, falling_as, falling, known, fitting, not_full, room_to_send}
use Rattle.ch_model.specs.NodeCommands.{send_of, again_of, receive_of, take_port, open_port, finish_of, fall_of}
use Rattle.ch_model.specs.NodeRequests.{watch_message, unwatch_message, watch, watch_by, unwatch_by, doom_by, asked_note, question, spawn_by, whereis_by, register_by, unregister_by}
use Rattle.ch_model.specs.NodeArrivals.{bound_between, bound_by, rebound, bind, from_node, to_name, to_target, received_as, received_on, received, arrives, departs, lost_told, peer_lost}
use Rattle.ch_model.specs.Node.{node_make, node_command, node_event, node_shut}
use Rattle.ch_laws_log.proofs.Homes.{node_self}
use Rattle.ch_laws_lives.specs.Rolls.{Roll, ends_of, roll_of, process_on, IsThere, Permits, over_at, roll_after, roll_after_all, ArePermitted, Tells, notes_in, LeadsTo, AllLeadTo, IsReached, LivesOn}
use Rattle.ch_laws_lives.proofs.Mails.{there, Keeps, KeepsBeside, put_keeps, take_keeps, take_port_keeps, open_keeps, doom_keeps, MakesOne, makes_one, last_there, EndsOne, ends_one, all_down}
use Rattle.ch_laws_lives.proofs.PairsBy.{pair_by}

-- whatever was done, the node lives on
abbrev pub Told : {E : Type 0} → NodeState → Result (List Act × NodeState) E → Type 0
Told before (Ok done) = IsReached before → LivesOn before done.0 done.1
Told before (Err e) = Unit {0}

-- the roll is the same, and each connection that arrived leads to the node as before
abbrev Same : NodeState → NodeState → Type 0
Same one two = (roll_of two ≡ roll_of one) × (IsReached one → IsReached two)

-- the same of what gives a node alone
abbrev Kept : NodeState → Result NodeState Stop → Type 0
Kept before (Ok next) = Same before next
Kept before (Err stop) = Unit {0}

-- and of what may give one beside something else
abbrev KeptBeside : {A : Type 0} → NodeState → Option (A × NodeState) → Type 0
KeptBeside before (Some next) = Same before next.1
KeptBeside before None = Unit {0}

-- ---- what is told in one and in another

pub after_append : (xs ys : List Note) (roll : Roll) → roll_after_all (xs ++ ys) roll ≡ roll_after_all ys (roll_after_all xs roll)
after_append [] ys roll = refl
after_append (note ∷ xs) ys roll = after_append xs ys (roll_after note roll)

pub permitted_append : (xs ys : List Note) (roll : Roll) → ArePermitted xs roll → ArePermitted ys (roll_after_all xs roll) → ArePermitted (xs ++ ys) roll
permitted_append [] ys roll a b = b
permitted_append (note ∷ xs) ys roll a b = (a.0, permitted_append xs ys (roll_after note roll) a.1 b)

notes_append : (xs ys : List Act) → notes_in (xs ++ ys) ≡ notes_in xs ++ notes_in ys
notes_append [] ys = refl
notes_append (acts.Note note ∷ xs) ys = ap (λ (l : List Note). note ∷ l) (notes_append xs ys)
notes_append (acts.Open conn peer ∷ xs) ys = notes_append xs ys
notes_append (acts.Put conn payload weight ∷ xs) ys = notes_append xs ys
notes_append (acts.Close conn ∷ xs) ys = notes_append xs ys

onward : (a b c : Roll) (xs ys : List Note) → Tells a xs b → Tells b ys c → Tells a (xs ++ ys) c
onward a b c xs ys s t = record {
  permitted = permitted_append xs ys a s.permitted (subst (ArePermitted ys) s.moved t.permitted);
  moved = t.moved ∙ ap (roll_after_all ys) s.moved ∙ sym (after_append xs ys a);
}

lives_onward : (one two three : NodeState) (xs ys : List Act) → LivesOn one xs two → LivesOn two ys three → LivesOn one (xs ++ ys) three
lives_onward one two three xs ys s t = record {
  tells = subst (λ (l : List Note). Tells (roll_of one) l (roll_of three)) (sym (notes_append xs ys)) (onward (roll_of one) (roll_of two) (roll_of three) (notes_in xs) (notes_in ys) s.tells t.tells);
  reached = t.reached;
}

-- ---- one thing and then another

rest : (node : NodeState) → IsReached node → LivesOn node [] node
rest node r = record { tells = record { permitted = tt; moved = refl }; reached = r }

unseen : (one two : NodeState) → Same one two → IsReached one → LivesOn one [] two
unseen one two s r = record { tells = record { permitted = tt; moved = s.0 }; reached = s.1 r }

plain : (one two : NodeState) (done : List Act) → notes_in done ≡ [] → Same one two → IsReached one → LivesOn one done two
plain one two done e s r = record { tells = subst (λ (l : List Note). Tells (roll_of one) l (roll_of two)) (sym e) (unseen one two s r).tells; reached = s.1 r }

one_note : (node next : NodeState) (note : Note) → Permits (roll_of node) note → roll_of next ≡ roll_after note (roll_of node) → (IsReached node → IsReached next) → IsReached node → LivesOn node (acts.Note note ∷ []) next
one_note node next note p e s r = record { tells = record { permitted = (p, tt); moved = e }; reached = s r }

later : (one two : NodeState) (told : List Act) (done : Done) → (IsReached one → LivesOn one told two) → Told two done → Told one (after told done)
later one two told (Ok done) a b = λ r. let first = a r in lives_onward one two done.1 told done.0 first (b first.reached)
later one two told (Err stop) a b = tt

from : {E : Type 0} (one two : NodeState) (done : Result (List Act × NodeState) E) → Same one two → Told two done → Told one done
from one two (Ok done) s b = λ r. lives_onward one two done.1 [] done.0 (unseen one two s r) (b (s.1 r))
from one two (Err e) s b = tt

chained : (node : NodeState) (done : Done) (f : NodeState → Done) → Told node done → ((next : NodeState) → Told next (f next)) → Told node (done and_then f)
chained node (Ok done) f a g = later node done.1 done.0 (f done.1) a (g done.1)
chained node (Err stop) f a g = tt

bound : {A E : Type 0} (node : NodeState) (given : Result A E) (f : A → Result (List Act × NodeState) E) → ((x : A) → Told node (f x)) → Told node (given >>= f)
bound node (Ok x) f k = k x
bound node (Err e) f k = tt

bound_kept : (node : NodeState) (given : Result NodeState Stop) (f : NodeState → Done) → Kept node given → ((next : NodeState) → Told next (f next)) → Told node (given >>= f)
bound_kept node (Ok next) f k g = from node next (f next) k (g next)
bound_kept node (Err stop) f k g = tt

stopped : (node : NodeState) (done : Done) → Told node done → Told node (stopping done)
stopped node (Ok done) k = k
stopped node (Err stop) k = tt

in_turn : {A : Type 0} (f : A → NodeState → Done) (xs : List A) (node : NodeState) → ((x : A) (next : NodeState) → Told next (f x next)) → Told node (each_in_turn f xs node)
in_turn f [] node k = rest node
in_turn f (x ∷ xs) node k = chained node (f x node) (λ n. each_in_turn f xs n) (k x node) (λ next. in_turn f xs next k)

where_reached : {E : Type 0} (node : NodeState) (done : Result (List Act × NodeState) E) → (IsReached node → Told node done) → Told node done
where_reached node (Ok done) f = λ r. f r r
where_reached node (Err e) f = tt

with_ends : (node : NodeState) (mail : List Process) → ends_of mail ≡ ends_of node.mail → roll_of (record node { mail = mail }) ≡ roll_of node
with_ends node mail e = ap (λ (l : List Bool). record { own = node.own; unique = node.unique; ends = l }) e

-- ---- messages to other nodes

told_first : (node : NodeState) (peer : Address) (said : NodeMessage) (weight : Weight) → Told node (tell_first node peer said weight)
unfolding tell_first opening
told_first node peer said weight = bound node (drawn node) _ (λ conn. plain node _ _ refl (refl, λ r. r))

told_on : (node : NodeState) (peer : Address) (said : NodeMessage) (weight : Weight) (conn : Option ℕ) → Told node (tell_on node peer said weight conn)
told_on node peer said weight None = told_first node peer said weight
told_on node peer said weight (Some conn) = plain node _ _ refl (refl, λ r. r)

node_told : (node : NodeState) (peer : Address) (said : NodeMessage) (weight : Weight) → Told node (tell_node node peer said weight)
unfolding tell_node
node_told node peer said weight = told_on node peer said weight (conn_to node peer)

-- ---- lives

made_told : (node : NodeState) (origin : Option Origin) (args : List ℕ) (n : ℕ) (mail : List Process) → (n ≡ length (ends_of node.mail)) × (ends_of mail ≡ ends_of node.mail ++ false ∷ []) → IsReached node
    → LivesOn node (acts.Note (notes.Made (process_id node n) origin) ∷ []) (with_process node mail args)
made_told node origin args n mail k = one_note node (with_process node mail args) (notes.Made (process_id node n) origin) (ap (process_on (roll_of node)) k.0) (ap (λ (l : List Bool). record { own = node.own; unique = node.unique; ends = l }) k.1) (λ r. r)

made : (node : NodeState) (origin : Option Origin) (args : List ℕ) → Told node (make node origin args)
unfolding make
made node origin args = by_result (make_of node.mail) (makes_one node.mail) where
  by_result : (given : Result (ℕ × List Process) Stop) → MakesOne node.mail given → Told node (given >>= (λ made. noting (notes.Made (process_id node made.0) origin) (with_process node made.1 args)))
  by_result (Ok one) k = made_told node origin args one.0 one.1 k
  by_result (Err stop) k = tt

doomed : (node : NodeState) (number : ℕ) (text : List ℕ) → Told node (doom node number text)
unfolding doom
doomed node number text = let k = doom_keeps node.mail number text in by_test (doom_of node.mail number text).0 (doom_of node.mail number text).1 k.0 k.1 where
  by_test : (b : Bool) (mail : List Process) → ends_of mail ≡ ends_of node.mail → (b ≡ true → IsThere (roll_of node) number) → Told {E = Stop} node (Ok (cond b (acts.Note (notes.Doom (process_id node number) text) ∷ []) [], record node { mail = mail }))
  by_test true mail e t = one_note node (record node { mail = mail }) (notes.Doom (process_id node number) text) (record { own = refl; there = t refl }) (with_ends node mail e) (λ r. r)
  by_test false mail e t = unseen node (record node { mail = mail }) (with_ends node mail e, λ r. r)

mailed_to : (node : NodeState) (number : ℕ) (mark body : List ℕ) → Kept node (mail_to node number mark body)
unfolding mail_to
mailed_to node number mark body = by_mail (put_of node.mail number None (record { mark = mark; body = body })) (put_keeps node.mail number None (record { mark = mark; body = body })) where
  by_mail : (given : Result (List Process) MailError) → Keeps node.mail number given → Kept node (or_unchanged node.mail given >>= (λ mail. Ok (record node { mail = mail })))
  by_mail (Ok mail) k = (with_ends node mail k.0, λ r. r)
  by_mail (Err mails.NotLive) k = (refl, λ r. r)
  by_mail (Err mails.Empty) k = (refl, λ r. r)
  by_mail (Err mails.OutOfMemory) k = tt
  by_mail (Err mails.Worn) k = tt

-- ---- watches that are told

closed : (node : NodeState) (kind : Kind) (asked : Ref) → KeptBeside node (closing node kind asked)
unfolding closing
closed node kind asked = by_test (is_here node asked.node && is_awaited node.watches kind asked.number) where
  by_result : (given : Result (Waiting × Lists) WatchError) → KeptBeside node (without node given)
  by_result (Ok closed) = (refl, λ r. r)
  by_result (Err e) = tt

  by_test : (b : Bool) → KeptBeside node (cond b (without node (told_of node.watches asked.number)) None)
  by_test true = by_result (told_of node.watches asked.number)
  by_test false = tt

told_of_monitor : (node : NodeState) (watch : Ref) (reason : Reason) (owner : ℕ) → Told node (monitor_told node watch reason owner)
unfolding monitor_told
told_of_monitor node watch reason owner = bound_kept node (mail_to node owner (codes "$died") (spelling.reference watch ++ spelling.reason reason)) _ (mailed_to node owner (codes "$died") (spelling.reference watch ++ spelling.reason reason)) (λ next. one_note next next (notes.Told watch reason) tt refl (λ r. r))

told_of_link : (node : NodeState) (watch : Ref) (reason : Reason) (owner : ℕ) → Told node (link_told node watch reason owner)
unfolding link_told
told_of_link node watch reason owner = later node node (acts.Note (notes.Told watch reason) ∷ []) (doom node owner (link_text reason)) (one_note node node (notes.Told watch reason) tt refl (λ r. r)) (doomed node owner (link_text reason))

told_by_kind : (kind : Kind) (node : NodeState) (watch : Ref) (reason : Reason) (owner : ℕ) → Told node (told_as kind node watch reason owner)
told_by_kind kinds.Monitor node watch reason owner = told_of_monitor node watch reason owner
told_by_kind kinds.Link node watch reason owner = told_of_link node watch reason owner
told_by_kind kinds.Spawn node watch reason owner = rest node
told_by_kind kinds.Ask node watch reason owner = rest node

told_where_closed : (node : NodeState) (watch : Ref) (reason : Reason) (o : Option (Waiting × NodeState)) → KeptBeside node o → Told node (told_closed node watch reason o)
told_where_closed node watch reason None k = rest node
told_where_closed node watch reason (Some closed) k = from node closed.1 (told_as closed.0.kind closed.1 watch reason closed.0.owner) k (told_by_kind closed.0.kind closed.1 watch reason closed.0.owner)

told_here : (node : NodeState) (watch : Ref) (reason : Reason) → Told node (told node watch reason)
unfolding told
told_here node watch reason = told_where_closed node watch reason (closing node kinds.Monitor watch) (closed node kinds.Monitor watch)

end_told : (node : NodeState) (watch : Ref) (reason : Reason) → Told node (tell_end node watch reason)
unfolding tell_end
end_told node watch reason = by_test (is_here node watch.node) where
  by_test : (b : Bool) → Told node (cond b (told node watch reason) (tell_node node watch.node (messages.Died watch reason) Free))
  by_test true = told_here node watch reason
  by_test false = node_told node watch.node (messages.Died watch reason) Free

-- ---- watches that arrive

found_absent : (node : NodeState) (watch : Ref) → Told node (absent node watch)
unfolding absent
found_absent node watch = later node node (acts.Note (notes.Absent watch) ∷ []) (tell_end node watch reasons.UnknownId) (one_note node node (notes.Absent watch) tt refl (λ r. r)) (end_told node watch reasons.UnknownId)

watch_arrived : (node : NodeState) (watch : Ref) (target : ProcessId) → Told node (watch_arrives node watch target)
unfolding watch_arrives
watch_arrived node watch target = by_test (is_living node target) where
  by_test : (b : Bool) → Told node (cond b (silent (record node { watches = arrive_of node.watches target.counter watch })) (absent node watch))
  by_test true = unseen node _ (refl, λ r. r)
  by_test false = found_absent node watch

watch_left : (node : NodeState) (watch : Ref) → Told node (watch_leaves node watch)
unfolding watch_leaves
watch_left node watch = unseen node _ (refl, λ r. r)

-- ---- ends

closes_untold : (conns : List ℕ) → notes_in (map (λ conn. acts.Close conn) conns) ≡ []
closes_untold [] = refl
closes_untold (conn ∷ conns) = closes_untold conns

-- names that fall, and connections that are closed, leave a roll as it is
fall_told : (node : NodeState) (roll : Roll) (names : List (List ℕ)) (conns : List ℕ) → node.own ≡ roll.own → Tells roll (notes_in (map (fallen node) names ++ map (λ conn. acts.Close conn) conns)) roll
fall_told node roll [] conns e = subst (λ (l : List Note). Tells roll l roll) (sym (closes_untold conns)) (record { permitted = tt; moved = refl })
fall_told node roll (name ∷ names) conns e = let more = fall_told node roll names conns e in record { permitted = (e, more.permitted); moved = more.moved }

farewell_told : (node : NodeState) (number : ℕ) (reason : Reason) (names : List (List ℕ)) (mail : List Process) (lists : Lists) → IsThere (roll_of node) number → ends_of mail ≡ over_at number (ends_of node.mail) → IsReached node
    → LivesOn node (farewell node number reason names) (bereft node mail lists number)
unfolding farewell
farewell_told node number reason names mail lists t e r = let more = fall_told node (record { own = node.own; unique = node.unique; ends = over_at number (ends_of node.mail) }) names (conns_by node.pairs number) refl in record {
  tells = record { permitted = (record { own = refl; there = t }, more.permitted); moved = ap (λ (l : List Bool). record { own = node.own; unique = node.unique; ends = l }) e ∙ more.moved };
  reached = r;
}

is_over : (node : NodeState) (number : ℕ) (reason : Reason) → IsThere (roll_of node) number → Told node (over node number reason)
unfolding over
is_over node number reason t = by_result (end_of node.mail number reason) (ends_one node.mail number reason t) where
  by_result : (given : Result (List Process) MailError) → EndsOne node.mail number given → Told node (or_unchanged node.mail given >>= (λ mail.
      Ok (farewell node number reason (ended_of node.watches number).0.names, bereft node mail (ended_of node.watches number).1 number) and_then (λ n. each_in_turn (λ watch m. tell_end m watch reason) (ended_of node.watches number).0.watches n)))
  by_result (Ok mail) k = later node (bereft node mail (ended_of node.watches number).1 number) (farewell node number reason (ended_of node.watches number).0.names) (each_in_turn (λ watch m. tell_end m watch reason) (ended_of node.watches number).0.watches (bereft node mail (ended_of node.watches number).1 number))
      (farewell_told node number reason (ended_of node.watches number).0.names mail (ended_of node.watches number).1 t k)
      (in_turn (λ watch m. tell_end m watch reason) (ended_of node.watches number).0.watches (bereft node mail (ended_of node.watches number).1 number) (λ watch m. end_told m watch reason))
  by_result (Err e) k = absurd k

-- ---- spawns, questions and dooms

spawned_where_closed : (node : NodeState) (question : Ref) (process : ProcessId) (o : Option (Waiting × NodeState)) → KeptBeside node o → Told node (spawned_closed node question process o)
spawned_where_closed node question process None k = rest node
spawned_where_closed node question process (Some closed) k = from node closed.1 (spawned_closed closed.1 question process (Some closed)) k (bound_kept closed.1 (mail_to closed.1 closed.0.owner (codes "$spawned") (spelling.reference question ++ spelling.process process)) _ (mailed_to closed.1 closed.0.owner (codes "$spawned") (spelling.reference question ++ spelling.process process)) (λ next. one_note next next (notes.Spawned question process) tt refl (λ r. r)))

spawned_here : (node : NodeState) (question : Ref) (process : ProcessId) → Told node (spawned node question process)
unfolding spawned
spawned_here node question process = spawned_where_closed node question process (closing node kinds.Spawn question) (closed node kinds.Spawn question)

spawned_told : (node : NodeState) (question : Ref) (process : ProcessId) → Told node (tell_spawned node question process)
unfolding tell_spawned
spawned_told node question process = by_test (is_here node question.node) where
  by_test : (b : Bool) → Told node (cond b (spawned node question process) (tell_node node question.node (messages.DidSpawn question process) Free))
  by_test true = spawned_here node question process
  by_test false = node_told node question.node (messages.DidSpawn question process) Free

labelled : (node : NodeState) (label : List ℕ) (number : ℕ) → IsThere (roll_of node) number → Told node (fail_unlabelled node label number)
unfolding fail_unlabelled
labelled node label number t = by_test (is_some (place_of node.labels label)) where
  by_test : (b : Bool) → Told node (cond b (silent node) (over node number (reasons.Exception (codes "unknown label"))))
  by_test true = rest node
  by_test false = is_over node number (reasons.Exception (codes "unknown label")) t

spawn_arrived : (node : NodeState) (question : Ref) (label args : List ℕ) → Told node (spawn_arrives node question label args)
unfolding spawn_arrives
spawn_arrived node question label args = by_result (make_of node.mail) (makes_one node.mail) where
  by_result : (given : Result (ℕ × List Process) Stop) → MakesOne node.mail given → Told node (given >>= (λ made. noting (notes.Made (process_id node made.0) (Some (origin_of question label))) (with_process node made.1 args) and_then (λ n. fail_unlabelled n label made.0) and_then (λ n. tell_spawned n question (process_id n made.0))))
  by_result (Ok one) k = chained node (noting (notes.Made (process_id node one.0) (Some (origin_of question label))) (with_process node one.1 args) and_then (λ n. fail_unlabelled n label one.0)) (λ n. tell_spawned n question (process_id n one.0))
      (later node (with_process node one.1 args) (acts.Note (notes.Made (process_id node one.0) (Some (origin_of question label))) ∷ []) (fail_unlabelled (with_process node one.1 args) label one.0) (made_told node (Some (origin_of question label)) args one.0 one.1 k)
      (labelled (with_process node one.1 args) label one.0 (ap (λ (l : List Bool). slice_get l one.0) k.1 ∙ ap (slice_get (ends_of node.mail ++ false ∷ [])) k.0 ∙ last_there (ends_of node.mail))))
      (λ next. spawned_told next question (process_id next one.0))
  by_result (Err stop) k = tt

found_where_closed : (node : NodeState) (question : Ref) (at : Option ProcessId) (o : Option (Waiting × NodeState)) → KeptBeside node o → Told node (found_closed node question at o)
found_where_closed node question at None k = rest node
found_where_closed node question at (Some closed) k = from node closed.1 (found_closed closed.1 question at (Some closed)) k (bound_kept closed.1 (mail_to closed.1 closed.0.owner (codes "$isat") (spelling.reference question ++ spelling.found at)) _ (mailed_to closed.1 closed.0.owner (codes "$isat") (spelling.reference question ++ spelling.found at)) (λ next. one_note next next (notes.IsAt question at) tt refl (λ r. r)))

found_here : (node : NodeState) (question : Ref) (at : Option ProcessId) → Told node (found node question at)
unfolding found
found_here node question at = found_where_closed node question at (closing node kinds.Ask question) (closed node kinds.Ask question)

found_told : (node : NodeState) (question : Ref) (at : Option ProcessId) → Told node (tell_found node question at)
unfolding tell_found
found_told node question at = by_test (is_here node question.node) where
  by_test : (b : Bool) → Told node (cond b (found node question at) (tell_node node question.node (messages.IsAt question at) Free))
  by_test true = found_here node question at
  by_test false = node_told node question.node (messages.IsAt question at) Free

question_arrived : (node : NodeState) (question : Ref) (name : List ℕ) → Told node (question_arrives node question name)
unfolding question_arrives
question_arrived node question name = found_told node question (standing node name)

doom_arrived : (node : NodeState) (target : ProcessId) (given text : List ℕ) → Told node (doom_arrives node target given text)
unfolding doom_arrives
doom_arrived node target given text = by_test (is_own node target && may_doom given) where
  by_test : (b : Bool) → Told node (cond b (doom node target.counter text) (silent node))
  by_test true = doomed node target.counter text
  by_test false = rest node

-- ---- messages from node to node

handled : (node : NodeState) (said : NodeMessage) → Told node (handle node said)
unfolding handle
handled node (messages.Monitor watch target) = watch_arrived node watch target
handled node (messages.Unmonitor watch) = watch_left node watch
handled node (messages.Link watch target) = watch_arrived node watch target
handled node (messages.Unlink watch) = watch_left node watch
handled node (messages.Spawn question label args) = spawn_arrived node question label args
handled node (messages.DidSpawn question process) = spawned_here node question process
handled node (messages.Died watch reason) = told_here node watch reason
handled node (messages.WhereIs question name) = question_arrived node question name
handled node (messages.IsAt question at) = found_here node question at
handled node (messages.Exit target text) = doom_arrived node target text (exit_text text)
handled node (messages.Kill target text) = doom_arrived node target text (kill_text text)
handled node other = rest node

asked : (node : NodeState) (at : Address) (said : NodeMessage) → Told node (ask node at said)
unfolding ask
asked node at said = by_test (is_here node at) where
  by_test : (b : Bool) → Told node (cond b (handle node said) (tell_node node at said (Counted None)))
  by_test true = handled node said
  by_test false = node_told node at said (Counted None)

-- ---- messages of processes

put_by : (node : NodeState) (sender : ProcessId) (to : Target) (receiver : ProcessId) (given : Result (List Process) MailError) → same_node receiver.node node.own ≡ true → Keeps node.mail receiver.counter given → Told node (got_put node sender to receiver given)
put_by node sender to receiver (Ok mail) h k = one_note node (record node { mail = mail }) (notes.Got sender to (Some receiver)) (record { here = h; there = k.1 }) (with_ends node mail k.0) (λ r. r)
put_by node sender to receiver (Err mails.NotLive) h k = rest node
put_by node sender to receiver (Err mails.Empty) h k = rest node
put_by node sender to receiver (Err mails.OutOfMemory) h k = tt
put_by node sender to receiver (Err mails.Worn) h k = tt

got : (node : NodeState) (sender : ProcessId) (to : Target) (receiver : ProcessId) (port : Option ℕ) (said : Message) → same_node receiver.node node.own ≡ true → Told node (get node sender to receiver port said)
unfolding get
got node sender to receiver port said h = put_by node sender to receiver (put_of node.mail receiver.counter port said) h (put_keeps node.mail receiver.counter port said)

got_by_name : (node : NodeState) (sender : ProcessId) (to : Target) (said : Message) (number : Option ℕ) → Told node (get_standing node sender to said (option_map (process_id node) number))
got_by_name node sender to said None = one_note node node (notes.Got sender to None) tt refl (λ r. r)
got_by_name node sender to said (Some number) = got node sender to (process_id node number) None said (node_self node.own)

delivered : (node : NodeState) (sender : ProcessId) (to : Target) (said : Message) → same_node (target_at to) node.own ≡ true → Told node (deliver node sender to said)
unfolding deliver standing
delivered node sender (targets.Process process) said h = got node sender (targets.Process process) process None said h
delivered node sender (targets.Port port) said h = got node sender (targets.Port port) port.process (Some port.port) said h
delivered node sender (targets.Named at name) said h = got_by_name node sender (targets.Named at name) said (find_of node.watches name)

sent_first : (node : NodeState) (pair : Pair) (said : Message) (weight : Weight) → Told node (send_first node pair said weight)
unfolding send_first opening
sent_first node pair said weight = bound node (drawn node) _ (λ conn. plain node _ _ refl (refl, λ r. r))

sent_on : (node : NodeState) (pair : Pair) (said : Message) (weight : Weight) (mark : Mark) → Told node (send_on node pair said weight mark)
sent_on node pair said weight Unopened = sent_first node pair said weight
sent_on node pair said weight (Opened conn) = plain node _ _ refl (refl, λ r. r)
sent_on node pair said weight Broken = rest node

carried : (node : NodeState) (pair : Pair) (said : Message) (weight : Weight) → Told node (carry node pair said weight)
unfolding carry
carried node pair said weight = by_test (is_here node (target_at pair.to)) refl where
  by_test : (b : Bool) → is_here node (target_at pair.to) ≡ b → Told node (cond b (deliver node (process_id node pair.by) pair.to said) (send_on node pair said weight pair.mark))
  by_test true h = delivered node (process_id node pair.by) pair.to said h
  by_test false h = sent_on node pair said weight pair.mark

is_said : (node : NodeState) (pair : Pair) (said : Message) → IsThere (roll_of node) pair.by → Told node (say node pair said)
unfolding say
is_said node pair said t = bound node (growing pair.index) _ (λ index.
    later node (keeping node (with_said pair)) (acts.Note (notes.Said (process_id node pair.by) pair.to pair.epoch index said) ∷ []) (carry (keeping node (with_said pair)) (with_said pair) said (weight_of pair.epoch index))
    (one_note node (keeping node (with_said pair)) (notes.Said (process_id node pair.by) pair.to pair.epoch index said) (record { own = refl; there = t }) refl (λ r. r))
    (carried (keeping node (with_said pair)) (with_said pair) said (weight_of pair.epoch index)))

reconnected : (node : NodeState) (pair : Pair) → IsThere (roll_of node) pair.by → Told node (reconnect node pair)
unfolding reconnect
reconnected node pair t = bound node (next_epoch pair) _ (λ next r. record {
  tells = subst (λ (l : List Note). Tells (roll_of node) (notes.Again (process_id node pair.by) pair.to next.epoch ∷ l) (roll_of node)) (sym (closes_untold (option_to_list (conn_of pair.mark)))) (record { permitted = (record { own = refl; there = t }, tt); moved = refl });
  reached = r;
})

-- ---- a process that asks is there

acts_there : (node : NodeState) (by : ℕ) (f : Unit {0} → Result (List Act × NodeState) CommandError) → (IsThere (roll_of node) by → (live : Unit {0}) → Told node (f live)) → Told node (acting node by >>= f)
unfolding acting life_of
acts_there node by f k = by_get (slice_get node.mail by) refl where
  by_life : (process : Process) (life : Life) → slice_get node.mail by ≡ Some process → process.life ≡ life → Told node (acting_as (Some life) >>= f)
  by_life process lives.Live e l = k (there node.mail by process e (ap is_life_over l)) tt
  by_life process (lives.Doomed text) e l = tt
  by_life process (lives.Over reason) e l = tt

  by_get : (o : Option Process) → slice_get node.mail by ≡ o → Told node (acting_as (option_map (λ process. process.life) o) >>= f)
  by_get None e = tt
  by_get (Some process) e = by_life process process.life e refl

falls_there : (node : NodeState) (by : ℕ) (f : List ℕ → Result (List Act × NodeState) CommandError) → (IsThere (roll_of node) by → (text : List ℕ) → Told node (f text)) → Told node (falling node by >>= f)
unfolding falling life_of
falls_there node by f k = by_get (slice_get node.mail by) refl where
  by_life : (process : Process) (life : Life) → slice_get node.mail by ≡ Some process → process.life ≡ life → Told node (falling_as (Some life) >>= f)
  by_life process lives.Live e l = tt
  by_life process (lives.Doomed text) e l = k (there node.mail by process e (ap is_life_over l)) text
  by_life process (lives.Over reason) e l = tt

  by_get : (o : Option Process) → slice_get node.mail by ≡ o → Told node (falling_as (option_map (λ process. process.life) o) >>= f)
  by_get None e = tt
  by_get (Some process) e = by_life process process.life e refl

-- the pair of a process that is there is of one that is there
pair_there : (node : NodeState) (by : ℕ) (to : Target) → IsThere (roll_of node) by → IsThere (roll_of node) (pair_of node.pairs by to).by
pair_there node by to t = ap (slice_get (ends_of node.mail)) (pair_by node.pairs by to) ∙ t

-- ---- commands on messages and on a process's own end

send_told : (node : NodeState) (by : ℕ) (to : Target) (said : Message) (room : Room) → Told node (send_of node by to said room)
unfolding send_of
send_told node by to said room = acts_there node by _ (λ t live. bound node (known node to) _ (λ there. bound node (fitting (payload_of to said)) _ (λ short. bound node (room_to_send node (pair_of node.pairs by to) room) _ (λ roomy. stopped node (say node (pair_of node.pairs by to) said) (is_said node (pair_of node.pairs by to) said (pair_there node by to t))))))

again_told : (node : NodeState) (by : ℕ) (to : Target) → Told node (again_of node by to)
unfolding again_of
again_told node by to = acts_there node by _ (λ t live. stopped node (reconnect node (pair_of node.pairs by to)) (reconnected node (pair_of node.pairs by to) (pair_there node by to t)))

receive_told : (node : NodeState) (by : ℕ) (mark : List ℕ) → Told node (receive_of node by mark)
unfolding receive_of
receive_told node by mark = acts_there node by _ (λ t live. by_result (take_of node.mail by mark) (take_keeps node.mail by mark)) where
  by_result : (given : Result (Message × List Process) MailError) → KeepsBeside node.mail by given → Told node (mailed given >>= (λ taken. Ok (acts.Note (notes.Took (process_id node by) None taken.0) ∷ [], record node { mail = taken.1 })))
  by_result (Ok taken) k = one_note node (record node { mail = taken.1 }) (notes.Took (process_id node by) None taken.0) (record { own = refl; there = k.1 }) (with_ends node taken.1 k.0) (λ r. r)
  by_result (Err e) k = tt

take_told : (node : NodeState) (by port : ℕ) → Told node (take_port node by port)
unfolding take_port
take_told node by port = acts_there node by _ (λ t live. by_result (take_port_of node.mail by port) (take_port_keeps node.mail by port)) where
  by_result : (given : Result (Message × List Process) MailError) → KeepsBeside node.mail by given → Told node (mailed given >>= (λ taken. Ok (acts.Note (notes.Took (process_id node by) (Some port) taken.0) ∷ [], record node { mail = taken.1 })))
  by_result (Ok taken) k = one_note node (record node { mail = taken.1 }) (notes.Took (process_id node by) (Some port) taken.0) (record { own = refl; there = k.1 }) (with_ends node taken.1 k.0) (λ r. r)
  by_result (Err e) k = tt

port_told : (node : NodeState) (by : ℕ) → Told node (open_port node by)
unfolding open_port
port_told node by = acts_there node by _ (λ t live. by_result (open_port_of node.mail by) (open_keeps node.mail by)) where
  by_result : (given : Result (ℕ × List Process) MailError) → KeepsBeside node.mail by given → Told node (mailed given >>= (λ opened. Ok (acts.Note (notes.Port (record { process = process_id node by; port = opened.0 })) ∷ [], record node { mail = opened.1 })))
  by_result (Ok opened) k = one_note node (record node { mail = opened.1 }) (notes.Port (record { process = process_id node by; port = opened.0 })) (record { own = refl; there = k.1 }) (with_ends node opened.1 k.0) (λ r. r)
  by_result (Err e) k = tt

finish_told : (node : NodeState) (by : ℕ) (reason : Reason) → Told node (finish_of node by reason)
unfolding finish_of
finish_told node by reason = acts_there node by _ (λ t live. stopped node (over node by reason) (is_over node by reason t))

fall_told_of : (node : NodeState) (by : ℕ) → Told node (fall_of node by)
unfolding fall_of
fall_told_of node by = falls_there node by _ (λ t text. stopped node (over node by (reasons.Exception text)) (is_over node by (reasons.Exception text) t))

-- ---- commands on other processes and on names

watched : (node : NodeState) (by : ℕ) (kind : Kind) (target : ProcessId) → IsThere (roll_of node) by → Told node (watch node by kind target)
unfolding watch
watched node by kind target t = bound node (watch_of node.watches by kind (ends.Process target)) _ (λ opened.
    later node (record node { watches = opened.1 }) (acts.Note (notes.Watch (reference_to node opened.0) (process_id node by) target kind) ∷ []) (ask (record node { watches = opened.1 }) target.node (watch_message kind (reference_to node opened.0) target))
    (one_note node (record node { watches = opened.1 }) (notes.Watch (reference_to node opened.0) (process_id node by) target kind) (record { own = refl; there = t }) refl (λ r. r))
    (asked (record node { watches = opened.1 }) target.node (watch_message kind (reference_to node opened.0) target)))

watch_told : (node : NodeState) (by : ℕ) (kind : Kind) (target : ProcessId) (room : Room) → Told node (watch_by node by kind target room)
unfolding watch_by
watch_told node by kind target room = acts_there node by _ (λ t live. bound node (not_full node target.node room) _ (λ roomy. stopped node (watch node by kind target) (watched node by kind target t)))

unwatch_told : (node : NodeState) (by : ℕ) (given : Ref) (room : Room) → Told node (unwatch_by node by given room)
unfolding unwatch_by
unwatch_told node by given room = acts_there node by _ (λ t live. bound node (ok_or (watch_under node by given) errors.NoRef) _ (λ waiting. bound node (not_full node (node_of waiting.target) room) _ (λ roomy. bound node (watching (unwatch_of node.watches by given.number)) _ (λ closed.
    stopped node (noting (notes.Unwatch given) (record node { watches = closed.1 }) and_then (λ n. ask n (node_of waiting.target) (unwatch_message waiting.kind given)))
    (later node (record node { watches = closed.1 }) (acts.Note (notes.Unwatch given) ∷ []) (ask (record node { watches = closed.1 }) (node_of waiting.target) (unwatch_message waiting.kind given))
    (one_note node (record node { watches = closed.1 }) (notes.Unwatch given) tt refl (λ r. r))
    (asked (record node { watches = closed.1 }) (node_of waiting.target) (unwatch_message waiting.kind given)))))))

doom_told : (node : NodeState) (by : ℕ) (at : Address) (said : NodeMessage) (room : Room) → Told node (doom_by node by at said room)
unfolding doom_by
doom_told node by at said room = acts_there node by _ (λ t live. bound node (not_full node at room) _ (λ roomy. stopped node (ask node at said) (asked node at said)))

questioned : (node : NodeState) (by : ℕ) (kind : Kind) (at : Address) (said : Ref → NodeMessage) → IsThere (roll_of node) by → Told node (question node by kind at said)
unfolding question
questioned node by kind at said t = bound node (watch_of node.watches by kind (ends.Node at)) _ (λ opened.
    later node (record node { watches = opened.1 }) (asked_note node by at (reference_to node opened.0)) (ask (record node { watches = opened.1 }) at (said (reference_to node opened.0)))
    (by_test opened.1 (reference_to node opened.0) (is_here node at))
    (asked (record node { watches = opened.1 }) at (said (reference_to node opened.0)))) where
      by_test : (lists : Lists) (asked : Ref) (b : Bool) → IsReached node → LivesOn node (cond b [] (acts.Note (notes.Asked asked (process_id node by) at) ∷ [])) (record node { watches = lists })
      by_test lists asked true = unseen node (record node { watches = lists }) (refl, λ r. r)
      by_test lists asked false = one_note node (record node { watches = lists }) (notes.Asked asked (process_id node by) at) (record { own = refl; there = t }) refl (λ r. r)

spawn_told : (node : NodeState) (by : ℕ) (at : Address) (closure : Closure) (room : Room) → Told node (spawn_by node by at closure room)
unfolding spawn_by
spawn_told node by at closure room = acts_there node by _ (λ t live. bound node (fitting (spelling.message (messages.Spawn (reference_to node node.watches.next) closure.label closure.args))) _ (λ short. bound node (not_full node at room) _ (λ roomy. stopped node (question node by kinds.Spawn at (λ asked. messages.Spawn asked closure.label closure.args)) (questioned node by kinds.Spawn at (λ asked. messages.Spawn asked closure.label closure.args) t))))

whereis_told : (node : NodeState) (by : ℕ) (at : Address) (name : List ℕ) (room : Room) → Told node (whereis_by node by at name room)
unfolding whereis_by
whereis_told node by at name room = acts_there node by _ (λ t live. bound node (not_full node at room) _ (λ roomy. stopped node (question node by kinds.Ask at (λ asked. messages.WhereIs asked name)) (questioned node by kinds.Ask at (λ asked. messages.WhereIs asked name) t)))

register_told : (node : NodeState) (by : ℕ) (name : List ℕ) → Told node (register_by node by name)
unfolding register_by
register_told node by name = acts_there node by _ (λ t live. bound node (watching (register_of node.watches name by)) _ (λ lists. one_note node _ _ (record { own = refl; there = t }) refl (λ r. r)))

unregister_told : (node : NodeState) (by : ℕ) (name : List ℕ) → Told node (unregister_by node by name)
unfolding unregister_by
unregister_told node by name = acts_there node by _ (λ t live. bound node (watching (unregister_of node.watches name)) _ (λ taken. one_note node _ _ refl refl (λ r. r)))

-- ---- the calls of a node

pub on_make : (node : NodeState) → Told node (node_make node)
unfolding node_make
on_make node = by_test node.is_shut where
  by_test : (b : Bool) → Told node (cond b (Err errors.Dead) (stopping (make node None [])))
  by_test true = tt
  by_test false = stopped node (make node None []) (made node None [])

pub on_command : (node : NodeState) (by : ℕ) (command : Command) (room : Room) → Told node (node_command node by command room)
unfolding node_command
on_command node by (commands.Send to said) room = send_told node by to said room
on_command node by (commands.Again to) room = again_told node by to
on_command node by (commands.Receive mark) room = receive_told node by mark
on_command node by commands.OpenPort room = port_told node by
on_command node by (commands.Take port) room = take_told node by port
on_command node by commands.End room = finish_told node by reasons.Normal
on_command node by (commands.Fail text) room = finish_told node by (reasons.Exception text)
on_command node by commands.Fall room = fall_told_of node by
on_command node by (commands.Monitor target) room = watch_told node by kinds.Monitor target room
on_command node by (commands.Link target) room = watch_told node by kinds.Link target room
on_command node by (commands.Unwatch watch) room = unwatch_told node by watch room
on_command node by (commands.Exit target text) room = doom_told node by target.node (messages.Exit target text) room
on_command node by (commands.Kill target text) room = doom_told node by target.node (messages.Kill target text) room
on_command node by (commands.Spawn at closure) room = spawn_told node by at closure room
on_command node by (commands.Register name) room = register_told node by name
on_command node by (commands.Unregister name) room = unregister_told node by name
on_command node by (commands.WhereIs at name) room = whereis_told node by at name room

pub on_shut : (node : NodeState) → Told node (node_shut node)
unfolding node_shut
on_shut node = by_test node.is_shut where
  by_test : (b : Bool) → Told node (cond b (Err errors.Dead) (Ok (acts.Note (notes.Shut node.own) ∷ [], record node { is_shut = true; mail = map downed node.mail; watches = shut_lists node.watches })))
  by_test true = tt
  by_test false = one_note node (record node { is_shut = true; mail = map downed node.mail; watches = shut_lists node.watches }) (notes.Shut node.own) refl (ap (λ (l : List Bool). record { own = node.own; unique = node.unique; ends = l }) (all_down node.mail)) (λ r. r)

-- ---- what comes on a connection

reach_found : (own : Address) (test : Arrived → Bool) (all : List Arrived) (arrived : Arrived) → AllLeadTo own all → find test all ≡ Some arrived → LeadsTo own arrived.bound
reach_found own test [] arrived r f = absurd cc
reach_found own test (x ∷ xs) arrived r f = by_test (test x) f (reach_found own test xs arrived r.1) where
  by_test : (b : Bool) → cond b (Some x) (find test xs) ≡ Some arrived → (find test xs ≡ Some arrived → LeadsTo own arrived.bound) → LeadsTo own arrived.bound
  by_test true f more = let is : x ≡ arrived = cc in subst (λ (a : Arrived). LeadsTo own a.bound) is r.0
  by_test false f more = more f

reach_more : (own : Address) (all : List Arrived) (arrived : Arrived) → LeadsTo own arrived.bound → AllLeadTo own all → AllLeadTo own (all ++ arrived ∷ [])
reach_more own [] arrived l r = (l, tt)
reach_more own (x ∷ xs) arrived l r = (r.0, reach_more own xs arrived l r.1)

reach_fewer : (own : Address) (test : Arrived → Bool) (all : List Arrived) → AllLeadTo own all → AllLeadTo own (filter test all)
reach_fewer own test [] r = tt
reach_fewer own test (x ∷ xs) r = by_test (test x) (reach_fewer own test xs r.1) where
  by_test : (b : Bool) → AllLeadTo own (filter test xs) → AllLeadTo own (cond b (x ∷ filter test xs) (filter test xs))
  by_test true more = (r.0, more)
  by_test false more = more

reach_bound : (own : Address) (conn : ℕ) (to : Bound) (all : List Arrived) → LeadsTo own to → AllLeadTo own all → AllLeadTo own (map (rebound conn to) all)
reach_bound own conn to [] l r = tt
reach_bound own conn to (x ∷ xs) l r = (by_test (x.conn == conn), reach_bound own conn to xs l r.1) where
  by_test : (b : Bool) → LeadsTo own (cond b (record x { bound = to }) x).bound
  by_test true = l
  by_test false = r.0

leads_between : (node : NodeState) (sender to : Identifier) → same_node (node_of to) node.own ≡ true → LeadsTo node.own (bound_between node sender to)
unfolding bound_between node_of
leads_between node (ends.Node sender) (ends.Node to) h = tt
leads_between node (ends.Process sender) (ends.Node to) h = tt
leads_between node (ends.Process sender) (ends.Process to) h = by_test (is_living node to) where
  by_test : (b : Bool) → LeadsTo node.own (cond b (ToTarget sender (targets.Process to)) Void)
  by_test true = h
  by_test false = tt
leads_between node (ends.Process sender) (ends.Port to) h = by_test (is_living node to.process && is_port_here node to) where
  by_test : (b : Bool) → LeadsTo node.own (cond b (ToTarget sender (targets.Port to)) Void)
  by_test true = h
  by_test false = tt
leads_between node (ends.Node sender) (ends.Process to) h = tt
leads_between node (ends.Node sender) (ends.Port to) h = tt
leads_between node (ends.Port sender) (ends.Node to) h = tt
leads_between node (ends.Port sender) (ends.Process to) h = tt
leads_between node (ends.Port sender) (ends.Port to) h = tt

leads_by : (node : NodeState) (peer : Address) (said : Result NodeMessage IdentError) → LeadsTo node.own (bound_by node peer said)
leads_by node peer (Ok (messages.Opening sender to)) = by_test (same_node (node_of sender) peer && is_here node (node_of to)) refl where
  by_test : (b : Bool) → (same_node (node_of sender) peer && is_here node (node_of to)) ≡ b → LeadsTo node.own (cond b (bound_between node sender to) Void)
  by_test true h = leads_between node sender to (and_parts (same_node (node_of sender) peer) (is_here node (node_of to)) h).1
  by_test false h = tt
leads_by node peer said = tt

by_node : (node : NodeState) (peer : Address) (said : Result NodeMessage IdentError) → Told node (from_node node peer said)
by_node node peer (Ok said) = by_test (is_for_peer peer said) where
  by_test : (b : Bool) → Told node (cond b (handle node said) (silent node))
  by_test true = handled node said
  by_test false = rest node
by_node node peer (Err e) = rest node

by_name : (node : NodeState) (sender : ProcessId) (said : Result NodeMessage IdentError) → Told node (to_name node sender said)
by_name node sender (Ok (messages.NamedSend name mark body)) = delivered node sender (targets.Named node.own name) (record { mark = mark; body = body }) (node_self node.own)
by_name node sender said = rest node

by_target : (node : NodeState) (sender : ProcessId) (to : Target) (said : Result Message IdentError) → same_node (target_at to) node.own ≡ true → Told node (to_target node sender to said)
by_target node sender to (Ok said) h = delivered node sender to said h
by_target node sender to (Err e) h = rest node

came_as : (node : NodeState) (arrived : Arrived) (payload : List ℕ) (bound : Bound) → LeadsTo node.own bound → Told node (received_as node arrived payload bound)
unfolding bind
came_as node arrived payload Unread h = unseen node (bind node arrived.conn (bound_by node arrived.peer (message_of payload))) (refl, reach_bound node.own arrived.conn (bound_by node arrived.peer (message_of payload)) node.arrived (leads_by node arrived.peer (message_of payload)))
came_as node arrived payload Void h = rest node
came_as node arrived payload FromNode h = by_node node arrived.peer (message_of payload)
came_as node arrived payload (ToNames sender) h = by_name node sender (message_of payload)
came_as node arrived payload (ToTarget sender to) h = by_target node sender to (user_of payload) h

came : (node : NodeState) (conn : ℕ) (payload : List ℕ) → Told node (received node conn payload)
unfolding received
came node conn payload = by_found (find (λ arrived. arrived.conn == conn) node.arrived) refl where
  by_found : (o : Option Arrived) → find (λ (arrived : Arrived). arrived.conn == conn) node.arrived ≡ o → Told node (received_on node payload o)
  by_found None f = rest node
  by_found (Some arrived) f = where_reached node (received_as node arrived payload arrived.bound) (λ r. came_as node arrived payload arrived.bound (reach_found node.own (λ (arrived : Arrived). arrived.conn == conn) node.arrived arrived r f))

lost_one : (why : Why) (waiting : Waiting) (node : NodeState) → Told node (lost_told why waiting node)
unfolding lost_told
lost_one why waiting node = told_by_kind waiting.kind node (reference_to node waiting.number) (reason_of why) waiting.owner

lost : (node : NodeState) (peer : Address) (why : Why) → Told node (peer_lost node peer why)
unfolding peer_lost
lost node peer why = bound node (lost_pairs peer node.pairs) _ (λ pairs. from node (record node { watches = (lost_of node.watches peer).1; pairs = pairs; to_nodes = filter (λ known. not (same_node known.0 peer)) node.to_nodes; arrived = filter (λ arrived. not (same_node arrived.peer peer)) node.arrived }) _
    (refl, reach_fewer node.own (λ arrived. not (same_node arrived.peer peer)) node.arrived) (in_turn (lost_told why) (lost_of node.watches peer).0 _ (lost_one why)))

pub on_event : (node : NodeState) (event : Event) → Told node (node_event node event)
unfolding node_event arrives departs
on_event node (events.ConnectionOpened conn peer) = unseen node (arrives node conn peer) (refl, reach_more node.own node.arrived (record { conn = conn; peer = peer; bound = Unread }) tt)
on_event node (events.Received conn payload) = came node conn payload
on_event node (events.ConnectionClosed conn) = unseen node (departs node conn) (refl, reach_fewer node.own (λ arrived. not (arrived.conn == conn)) node.arrived)
on_event node events.EndPointClosed = rest node
on_event node (events.ConnectionLost peer why) = lost node peer why

-- the same by its parts
pub node_lives : {E : Type 0} (node after : NodeState) (done : List Act) (given : Result (List Act × NodeState) E) → Told node given → IsReached node → given ≡ Ok (done, after) → LivesOn node done after
node_lives {E = E} node after done (Ok one) k r e = subst (λ (o : List Act × NodeState). LivesOn node o.0 o.1) (ap given_of e) (k r) where
  given_of : Result (List Act × NodeState) E → List Act × NodeState
  given_of (Ok given) = given
  given_of (Err e) = one
node_lives node after done (Err e) k r is = absurd cc
