-- Whatever a node does, its connections are what its acts leave.
use Rattle.std.proofs.Common.{◌≡◌, ◌≤◌, ℕ, ◌+◌, ◌*◌, ◌-◌, ◌||◌, sym, arith, Bool, true, false, cond, not, ◌&&◌, List, [], ◌∷◌, ◌++◌, map, Ok, Err, refl, ap, ◌∙◌, subst, ◌==◌}
use Rattle.std.proofs.lemmas.Bool.Decides.{nat_tests}
use Rattle.std.specs.List.{list_any}
use Rattle.std.specs.Option.{option_map}
use Rattle.std.specs.Prelude.{find, filter, Result, Option, Some, None, is_some, ok_or, codes, nat_le, option_to_list}
use Rattle.ch_base.specs.declared.address.Address.{Address}
use Rattle.ch_base.specs.declared.event.Event.{Event}
use Rattle.ch_base.specs.declared.event.Event.TheVariants as events
use Rattle.ch_base.specs.declared.event.Room.{Room}
use Rattle.ch_base.specs.declared.event.Why.{Why}
use Rattle.ch_base.specs.declared.memory.Stop.{Stop}
use Rattle.ch_base.specs.declared.memory.Stop.TheVariants as stops
use Rattle.ch_light.specs.declared.TheConstants.{MOST_IDS}
use Rattle.ch_mail.specs.Mail.{last_u64, doom_of}
use Rattle.ch_model.specs.declared.command.CommandError.{CommandError}
use Rattle.ch_model.specs.declared.note.Note.{Note}
use Rattle.ch_ident.specs.declared.error.IdentError.{IdentError}
use Rattle.ch_ident.specs.declared.identifier.ProcessId.{ProcessId}
use Rattle.ch_ident.specs.declared.identifier.Ref.{Ref}
use Rattle.ch_ident.specs.declared.identifier.Identifier.TheVariants as ends
use Rattle.ch_ident.specs.declared.message.Message.{Message}
use Rattle.ch_ident.specs.declared.node_message.NodeMessage.{NodeMessage}
use Rattle.ch_ident.specs.declared.node_message.NodeMessage.TheVariants as messages
use Rattle.ch_ident.specs.declared.reason.Reason.{Reason}
use Rattle.ch_ident.specs.declared.reason.Reason.TheVariants as reasons
use Rattle.ch_ident.specs.Reading.{message_of, user_of}
use Rattle.ch_ident.specs.Spelling as spelling
use Rattle.ch_mail.specs.declared.error.MailError.{MailError}
use Rattle.ch_mail.specs.declared.error.MailError.TheVariants as mails
use Rattle.ch_mail.specs.Process.{Process}
use Rattle.ch_mail.specs.Mail.{make_of, put_of, end_of, take_of, take_port_of, open_port_of}
use Rattle.ch_static.specs.declared.closure.Closure.{Closure}
use Rattle.ch_static.specs.declared.command.Command.{Command}
use Rattle.ch_static.specs.declared.command.Command.TheVariants as commands
use Rattle.ch_static.specs.declared.target.Target.{Target}
use Rattle.ch_static.specs.declared.target.Target.TheVariants as targets
use Rattle.ch_static.specs.Labels.{place_of}
use Rattle.ch_watch.specs.declared.error.WatchError.{WatchError}
use Rattle.ch_watch.specs.declared.waiting.Kind.{Kind}
use Rattle.ch_watch.specs.declared.waiting.Kind.TheVariants as kinds
use Rattle.ch_watch.specs.declared.waiting.Waiting.{Waiting}
use Rattle.ch_watch.specs.Lists.{Lists}
use Rattle.ch_watch.specs.Same.{node_of, same_node}
use Rattle.ch_watch.specs.Watches.{watch_of, unwatch_of, told_of, arrive_of, lost_of, ended_of, register_of, unregister_of}
use Rattle.ch_model.specs.declared.act.Act.{Act}
use Rattle.ch_model.specs.declared.act.Act.TheVariants as acts
use Rattle.ch_model.specs.declared.command.CommandError.TheVariants as errors
use Rattle.ch_model.specs.declared.note.Note.TheVariants as notes
use Rattle.ch_model.specs.declared.note.Origin.{Origin}
use Rattle.ch_model.specs.declared.step.Weight.{Weight}
use Rattle.ch_model.specs.declared.step.Weight.TheVariants.{Counted, Free}
use Rattle.ch_model.specs.NodeState.{NodeState, Pair, Mark, Unopened, Opened, Broken, Bound, Unread, Void, FromNode, ToNames, ToTarget, Arrived}
use Rattle.ch_model.specs.NodeActs.{◌>>=◌, Done, doing, silent, noting, after, ◌and_then◌, each_in_turn, stopping, mailed, watching, or_unchanged, growing}
use Rattle.ch_model.specs.NodeIds.{process_id, reference_to, is_here, is_own, is_living, target_at, opened_to}
use Rattle.ch_model.specs.NodePairs.{pair_of, keeping, next_epoch, lost_pairs, conn_of, conns_by}
use Rattle.ch_model.specs.NodeConnections.{drawn, opening, conn_to, tell_first, tell_on, tell_node}
use Rattle.ch_model.specs.NodeLives.{make, doom, mail_to, with_process, reason_of, link_text, exit_text, kill_text}
use Rattle.ch_model.specs.NodeWatches.{is_awaited, without, closing, monitor_told, link_told, told_as, told_closed, told, tell_end, absent, watch_arrives, watch_leaves, watch_under}
use Rattle.ch_model.specs.NodeEnds.{over, bereft, fallen, farewell}
use Rattle.ch_model.specs.NodeAsks.{spawned_closed, spawned, tell_spawned, fail_unlabelled, spawn_arrives, found_closed, found, tell_found, standing, question_arrives, may_doom, doom_arrives, origin_of}
use Rattle.ch_model.specs.NodeMessages.{handle, is_for_peer, ask}
use Rattle.ch_model.specs.NodeSends.{got_put, get, get_standing, deliver, payload_of, weight_of, send_first, send_on, carry, with_said, say, reconnect}
use Rattle.ch_model.specs.NodeRoom.{acting, falling, known, fitting, not_full, room_to_send, not_spent, opened_besides, most_opened, is_unopened, is_broken}
use Rattle.ch_model.specs.NodeCommands.{send_of, again_of, receive_of, take_port, open_port, finish_of, fall_of}
use Rattle.ch_model.specs.NodeRequests.{watch_message, unwatch_message, watch, watch_by, unwatch_by, doom_by, asked_note, question, spawn_by, whereis_by, register_by, unregister_by}
use Rattle.ch_model.specs.NodeArrivals.{bind, from_node, to_name, to_target, received_as, received_on, received, arrives, departs, lost_told, peer_lost}
use Rattle.ch_model.specs.Node.{node_make, node_command, node_event, node_watched, target_node}
use Rattle.ch_laws_connections.specs.Senders.{Sender, sender_of, Own, kept_free, open_at, open_after, OpensFrom, once, total, pair_has, node_has}
use Rattle.ch_laws_log.proofs.Stored.{number_same}
use Rattle.ch_model.specs.HostCalls.{most_waiting}
use Rattle.ch_model.specs.HostWrites.{is_counted}
use Rattle.ch_laws_connections.proofs.Used.{alike_used}
use Rattle.ch_laws_log.proofs.Keys.{pair_named}
use Rattle.ch_laws_connections.proofs.Pairs.{IsKept, found_kept, stored_kept, kept_has, IsLost, AllLost, all_lost}
use Rattle.ch_laws_connections.proofs.Does.{Does, Any, AllDo, at_rest, noted, puts_first, own_does, PairFits, pair_does, process_does, unmarked_does, unpaired_does, Loses, lost_all}
use Rattle.ch_laws_connections.proofs.Does as does

-- whatever was done, the node's connections are what the acts leave
abbrev Stays : {E : Type 0} → NodeState → Result (List Act × NodeState) E → Type 0
Stays node done = AllDo Any (sender_of node) done

-- what gives a node alone changes no connections
abbrev Kept : NodeState → Result NodeState Stop → Type 0
Kept before (Ok next) = sender_of next ≡ sender_of before
Kept before (Err stop) = Unit {0}

-- and of what may give one beside something else
abbrev KeptBeside : {A : Type 0} → NodeState → Option (A × NodeState) → Type 0
KeptBeside before (Some next) = sender_of next.1 ≡ sender_of before
KeptBeside before None = Unit {0}

-- acts that neither open nor close
abbrev IsPlain : List Act → Type 0
IsPlain [] = Unit {0}
IsPlain (acts.Note note ∷ rest) = IsPlain rest
IsPlain (act ∷ rest) = ⊥

plain : (s : Sender) (done : List Act) → IsPlain done → Own s → Does Any s done s
plain s [] p o = at_rest Any s o
plain s (acts.Note note ∷ rest) p o = noted Any note s s rest (plain s rest p o)
plain s (acts.Put conn payload weight ∷ rest) p o = absurd p
plain s (acts.Open conn peer ∷ rest) p o = absurd p
plain s (acts.Close conn ∷ rest) p o = absurd p

quiet : {s : Sender} {done : List Act} → IsPlain done → Own s → Does Any s done s
quiet {s} {done} p = plain s done p

-- ---- one thing and then another

from : (one two : NodeState) (done : Done) → sender_of two ≡ sender_of one → Stays two done → Stays one done
from one two done a b = subst (λ (s : Sender). AllDo Any s done) a b

later : (done : List Act) (one two : NodeState) (more : Done) → (Own (sender_of one) → Does Any (sender_of one) done (sender_of two)) → Stays two more → Stays one (after done more)
later done one two more a b = does.later Any done (sender_of one) (sender_of two) more a b

chained : (node : NodeState) (done : Done) (f : NodeState → Done) → Stays node done → ((next : NodeState) → Stays next (f next)) → Stays node (done and_then f)
chained node done f a g = does.chained Any (sender_of node) done f a g

bound_fit : {A E : Type 0} (Fit : (Address → ℕ) → (Address → Bool) → Type 0) (node : NodeState) (given : Result A E) (f : A → Result (List Act × NodeState) E) → ((x : A) → AllDo Fit (sender_of node) (f x)) → AllDo Fit (sender_of node) (given >>= f)
bound_fit Fit node (Ok x) f k = k x
bound_fit Fit node (Err e) f k = tt

bound : {A E : Type 0} (node : NodeState) (given : Result A E) (f : A → Result (List Act × NodeState) E) → ((x : A) → Stays node (f x)) → Stays node (given >>= f)
bound node given f k = bound_fit Any node given f k

bound_kept : (node : NodeState) (given : Result NodeState Stop) (f : NodeState → Done) → Kept node given → ((next : NodeState) → Stays next (f next)) → Stays node (given >>= f)
bound_kept node (Ok next) f k g = from node next (f next) k (g next)
bound_kept node (Err stop) f k g = tt

stopped_fit : (Fit : (Address → ℕ) → (Address → Bool) → Type 0) (node : NodeState) (done : Done) → AllDo Fit (sender_of node) done → AllDo Fit (sender_of node) (stopping done)
stopped_fit Fit node (Ok done) k = k
stopped_fit Fit node (Err stop) k = tt

stopped : (node : NodeState) (done : Done) → Stays node done → Stays node (stopping done)
stopped node done k = stopped_fit Any node done k

-- whatever is given, so where it fits
weaken : {E : Type 0} (Fit : (Address → ℕ) → (Address → Bool) → Type 0) (s : Sender) (done : Result (List Act × NodeState) E) → AllDo Any s done → AllDo Fit s done
weaken Fit s (Ok done) d = λ o. let x = d o in record { own = x.own; leaves = x.leaves; opens = x.opens; used = λ given roomy fit. x.used given roomy tt; room = λ given roomy fit r. x.room given roomy tt r; shut = x.shut }
weaken Fit s (Err e) d = tt

-- what fits so, fits so too
refit : {E : Type 0} (Fit Other : (Address → ℕ) → (Address → Bool) → Type 0) (s : Sender) (done : Result (List Act × NodeState) E) → ((given : Address → ℕ) (roomy : Address → Bool) → Other given roomy → Fit given roomy) → AllDo Fit s done → AllDo Other s done
refit Fit Other s (Ok done) f d = λ o. let x = d o in record { own = x.own; leaves = x.leaves; opens = x.opens; used = λ given roomy fit. x.used given roomy (f given roomy fit); room = λ given roomy fit r. x.room given roomy (f given roomy fit) r; shut = x.shut }
refit Fit Other s (Err e) f d = tt

-- what changes no connection comes before
same_before : (Fit : (Address → ℕ) → (Address → Bool) → Type 0) (note : Note) (one two : Sender) (done : Done) → (Own one → Does Any one [] two) → AllDo Fit two done → AllDo Fit one (after (acts.Note note ∷ []) done)
same_before Fit note one two (Ok done) a b = λ o. let x = a o in let y = b x.own in noted Fit note one (sender_of done.1) done.0 (record {
  own = y.own;
  leaves = λ conn p. ap (open_after done.0 conn p) (x.leaves conn p) ∙ y.leaves conn p;
  opens = subst (λ (n : ℕ). OpensFrom n done.0 done.1.opened) (sym x.opens) y.opens;
  used = λ given roomy fit. alike_used done.0 (open_at two) (open_at one) roomy roomy (λ c p. sym (x.leaves c p)) (λ p e. e) (y.used given roomy fit);
  room = λ given roomy fit r p. y.room given roomy fit (λ q. less (given q) (kept_free two q) MOST_IDS (x.room given roomy tt r q)) p;
  shut = y.shut ∙ x.shut;
}) where
  less : (g k m : ℕ) → g + (0 + k) ≤ m → g + k ≤ m
  less g k m l = omega arith
same_before Fit note one two (Err stop) a b = tt

in_turn : {A : Type 0} (f : A → NodeState → Done) (xs : List A) (node : NodeState) → ((x : A) (next : NodeState) → Stays next (f x next)) → Stays node (each_in_turn f xs node)
in_turn f [] node k = quiet tt
in_turn f (x ∷ rest) node k = chained node (f x node) (λ n. each_in_turn f rest n) (k x node) (λ next. in_turn f rest next k)

-- ---- messages to other nodes

pub known_so : (node : NodeState) (peer : Address) → is_some (conn_to node peer) ≡ list_any (λ k. same_node k.0 peer) node.to_nodes
unfolding conn_to
known_so node peer = in_all node.to_nodes where
  in_all : (known : List (Address × ℕ)) → is_some (option_map (λ (k : Address × ℕ). k.1) (find (λ k. same_node k.0 peer) known)) ≡ list_any (λ k. same_node k.0 peer) known
  in_all [] = refl
  in_all (k ∷ rest) = by_test (same_node k.0 peer) (in_all rest) where
    by_test : (b : Bool) → is_some (option_map (λ (k : Address × ℕ). k.1) (find (λ k. same_node k.0 peer) rest)) ≡ list_any (λ k. same_node k.0 peer) rest → is_some (option_map (λ (k : Address × ℕ). k.1) (cond b (Some k) (find (λ k. same_node k.0 peer) rest))) ≡ (b || list_any (λ k. same_node k.0 peer) rest)
    by_test true e = refl
    by_test false e = e

-- a counted message finds room at the peer
abbrev TellFits : Address → Weight → (Address → ℕ) → (Address → Bool) → Type 0
TellFits peer weight given roomy = is_counted weight ≡ true → roomy peer ≡ true

told_first : (node : NodeState) (peer : Address) (said : NodeMessage) (weight : Weight) → conn_to node peer ≡ None → AllDo (TellFits peer weight) (sender_of node) (tell_first node peer said weight)
unfolding tell_first drawn opening
told_first node peer said weight none = by_test (nat_le (2 * node.opened) last_u64) where
  without : list_any (λ k. same_node k.0 peer) node.to_nodes ≡ false
  without = sym (known_so node peer) ∙ ap (λ (o : Option ℕ). is_some o) none

  by_test : (b : Bool) → AllDo (TellFits peer weight) (sender_of node) (cond b (Ok (2 * node.opened)) (Err stops.Worn) >>= (λ conn. doing (acts.Open conn peer ∷ acts.Put conn (spelling.message (messages.Opening (ends.Node node.own) (ends.Node peer))) Free ∷ acts.Put conn (spelling.message said) weight ∷ []) (record node { opened = node.opened + 1; to_nodes = node.to_nodes ++ (peer, conn) ∷ [] })))
  by_test true = λ o. own_does peer (sender_of node) without o (spelling.message (messages.Opening (ends.Node node.own) (ends.Node peer))) (spelling.message said) weight
  by_test false = tt

-- the node's own connection that is found is open to that peer
known_has : (peer : Address) (conn : ℕ) (known : List (Address × ℕ)) → option_map (λ (k : Address × ℕ). k.1) (find (λ k. same_node k.0 peer) known) ≡ Some conn → 1 ≤ total (node_has conn peer) known
known_has peer conn [] e = absurd cc
known_has peer conn (k ∷ rest) e = by_test (same_node k.0 peer) e (known_has peer conn rest) where
  one : (n : ℕ) → 1 ≤ 1 + n
  one n = omega arith

  more : (a b : ℕ) → 1 ≤ b → 1 ≤ a + b
  more a b l = omega arith

  by_test : (b : Bool) → option_map (λ (k : Address × ℕ). k.1) (cond b (Some k) (find (λ k. same_node k.0 peer) rest)) ≡ Some conn → (option_map (λ (k : Address × ℕ). k.1) (find (λ k. same_node k.0 peer) rest) ≡ Some conn → 1 ≤ total (node_has conn peer) rest) → 1 ≤ cond b (once (k.1 == conn)) 0 + total (node_has conn peer) rest
  by_test true e ih = let this : k.1 ≡ conn = cc in subst (λ b. 1 ≤ once b + total (node_has conn peer) rest) (sym (ap (λ (n : ℕ). n == conn) this ∙ number_same conn)) (one (total (node_has conn peer) rest))
  by_test false e ih = more 0 (total (node_has conn peer) rest) (ih e)

known_open : (node : NodeState) (peer : Address) (conn : ℕ) → conn_to node peer ≡ Some conn → 1 ≤ open_at (sender_of node) conn peer
unfolding conn_to
known_open node peer conn e = more (total (pair_has conn peer) node.pairs) (total (node_has conn peer) node.to_nodes) (known_has peer conn node.to_nodes e) where
  more : (a b : ℕ) → 1 ≤ b → 1 ≤ a + b
  more a b l = omega arith

told_on : (node : NodeState) (peer : Address) (said : NodeMessage) (weight : Weight) (conn : Option ℕ) → conn_to node peer ≡ conn → AllDo (TellFits peer weight) (sender_of node) (tell_on node peer said weight conn)
told_on node peer said weight None e = told_first node peer said weight e
told_on node peer said weight (Some conn) e = λ o. puts_first (TellFits peer weight) conn (spelling.message said) weight peer (sender_of node) o (known_open node peer conn e) (λ given roomy fit. fit)

node_told : (node : NodeState) (peer : Address) (said : NodeMessage) (weight : Weight) → AllDo (TellFits peer weight) (sender_of node) (tell_node node peer said weight)
unfolding tell_node
node_told node peer said weight = told_on node peer said weight (conn_to node peer) refl

-- what a node says by itself needs no room
free_told : (node : NodeState) (peer : Address) (said : NodeMessage) → Stays node (tell_node node peer said Free)
free_told node peer said = refit (TellFits peer Free) Any (sender_of node) (tell_node node peer said Free) (λ given roomy fit e. absurd (uncounted e)) (node_told node peer said Free) where
  uncounted : false ≡ true → ⊥
  uncounted e = cc

-- ---- lives

made : (node : NodeState) (origin : Option Origin) (args : List ℕ) → Stays node (make node origin args)
unfolding make
made node origin args = bound node (make_of node.mail) _ (λ made. quiet tt)

doomed : (node : NodeState) (number : ℕ) (text : List ℕ) → Stays node (doom node number text)
unfolding doom
doomed node number text = by_test (doom_of node.mail number text).0 where
  by_test : (b : Bool) → Own (sender_of node) → Does Any (sender_of node) (cond b (acts.Note (notes.Doom (process_id node number) text) ∷ []) []) (sender_of node)
  by_test true = quiet tt
  by_test false = quiet tt

mailed_to : (node : NodeState) (number : ℕ) (mark body : List ℕ) → Kept node (mail_to node number mark body)
unfolding mail_to
mailed_to node number mark body = by_mail (or_unchanged node.mail (put_of node.mail number None (record { mark = mark; body = body })))
  where
    by_mail : (mail : Result (List Process) Stop) → Kept node (mail >>= (λ mail. Ok (record node { mail = mail })))
    by_mail (Ok mail) = refl
    by_mail (Err stop) = tt

-- ---- watches that are told

closed : (node : NodeState) (kind : Kind) (asked : Ref) → KeptBeside node (closing node kind asked)
unfolding closing
closed node kind asked = by_test (is_here node asked.node && is_awaited node.watches kind asked.number)
  where
    by_result : (given : Result (Waiting × Lists) WatchError) → KeptBeside node (without node given)
    by_result (Ok closed) = refl
    by_result (Err e) = tt

    by_test : (b : Bool) → KeptBeside node (cond b (without node (told_of node.watches asked.number)) None)
    by_test true = by_result (told_of node.watches asked.number)
    by_test false = tt

told_of_monitor : (node : NodeState) (watch : Ref) (reason : Reason) (owner : ℕ) → Stays node (monitor_told node watch reason owner)
unfolding monitor_told
told_of_monitor node watch reason owner = bound_kept node (mail_to node owner (codes "$died") (spelling.reference watch ++ spelling.reason reason)) _ (mailed_to node owner (codes "$died") (spelling.reference watch ++ spelling.reason reason)) (λ next. quiet tt)

told_of_link : (node : NodeState) (watch : Ref) (reason : Reason) (owner : ℕ) → Stays node (link_told node watch reason owner)
unfolding link_told
told_of_link node watch reason owner = later (acts.Note (notes.Told watch reason) ∷ []) node node (doom node owner (link_text reason)) (quiet tt) (doomed node owner (link_text reason))

told_by_kind : (kind : Kind) (node : NodeState) (watch : Ref) (reason : Reason) (owner : ℕ) → Stays node (told_as kind node watch reason owner)
told_by_kind kinds.Monitor node watch reason owner = told_of_monitor node watch reason owner
told_by_kind kinds.Link node watch reason owner = told_of_link node watch reason owner
told_by_kind kinds.Spawn node watch reason owner = quiet tt
told_by_kind kinds.Ask node watch reason owner = quiet tt

told_where_closed : (node : NodeState) (watch : Ref) (reason : Reason) (o : Option (Waiting × NodeState)) → KeptBeside node o → Stays node (told_closed node watch reason o)
told_where_closed node watch reason None k = quiet tt
told_where_closed node watch reason (Some closed) k = from node closed.1 (told_as closed.0.kind closed.1 watch reason closed.0.owner) k (told_by_kind closed.0.kind closed.1 watch reason closed.0.owner)

told_here : (node : NodeState) (watch : Ref) (reason : Reason) → Stays node (told node watch reason)
unfolding told
told_here node watch reason = told_where_closed node watch reason (closing node kinds.Monitor watch) (closed node kinds.Monitor watch)

end_told : (node : NodeState) (watch : Ref) (reason : Reason) → Stays node (tell_end node watch reason)
unfolding tell_end
end_told node watch reason = by_test (is_here node watch.node)
  where
    by_test : (b : Bool) → Stays node (cond b (told node watch reason) (tell_node node watch.node (messages.Died watch reason) Free))
    by_test true = told_here node watch reason
    by_test false = free_told node watch.node (messages.Died watch reason)

-- ---- watches that arrive

found_absent : (node : NodeState) (watch : Ref) → Stays node (absent node watch)
unfolding absent
found_absent node watch = later (acts.Note (notes.Absent watch) ∷ []) node node (tell_end node watch reasons.UnknownId) (quiet tt) (end_told node watch reasons.UnknownId)

watch_arrived : (node : NodeState) (watch : Ref) (target : ProcessId) → Stays node (watch_arrives node watch target)
unfolding watch_arrives
watch_arrived node watch target = by_test (is_living node target)
  where
    by_test : (b : Bool) → Stays node (cond b (silent (record node { watches = arrive_of node.watches target.counter watch })) (absent node watch))
    by_test true = quiet tt
    by_test false = found_absent node watch

watch_left : (node : NodeState) (watch : Ref) → Stays node (watch_leaves node watch)
unfolding watch_leaves
watch_left node watch = quiet tt

-- ---- ends

notes_plain : (node : NodeState) (names : List (List ℕ)) (more : List Act) (s t : Sender) → (Own s → Does Any s more t) → Own s → Does Any s (map (fallen node) names ++ more) t
notes_plain node [] more s t d = d
notes_plain node (name ∷ rest) more s t d = λ o. noted Any (notes.Named node.own name None) s t (map (fallen node) rest ++ more) (notes_plain node rest more s t d o)

said_farewell : (node : NodeState) (number : ℕ) (reason : Reason) (names : List (List ℕ)) (mail : List Process) (lists : Lists) → Own (sender_of node) → Does Any (sender_of node) (farewell node number reason names) (sender_of (bereft node mail lists number))
unfolding farewell
said_farewell node number reason names mail lists = λ o. noted Any (notes.Over (process_id node number) reason) (sender_of node) (sender_of (bereft node mail lists number)) (map (fallen node) names ++ map (λ conn. acts.Close conn) (conns_by node.pairs number))
    (notes_plain node names (map (λ conn. acts.Close conn) (conns_by node.pairs number)) (sender_of node) (sender_of (bereft node mail lists number)) (process_does number (sender_of node)) o)

is_over : (node : NodeState) (number : ℕ) (reason : Reason) → Stays node (over node number reason)
unfolding over
is_over node number reason = bound node (or_unchanged node.mail (end_of node.mail number reason)) _ (λ mail.
    later (farewell node number reason (ended_of node.watches number).0.names) node (bereft node mail (ended_of node.watches number).1 number) (each_in_turn (λ watch m. tell_end m watch reason) (ended_of node.watches number).0.watches (bereft node mail (ended_of node.watches number).1 number)) (said_farewell node number reason (ended_of node.watches number).0.names mail (ended_of node.watches number).1)
    (in_turn (λ watch m. tell_end m watch reason) (ended_of node.watches number).0.watches (bereft node mail (ended_of node.watches number).1 number) (λ watch m. end_told m watch reason)))

-- ---- spawns, questions and dooms

spawned_where_closed : (node : NodeState) (question : Ref) (process : ProcessId) (o : Option (Waiting × NodeState)) → KeptBeside node o → Stays node (spawned_closed node question process o)
spawned_where_closed node question process None k = quiet tt
spawned_where_closed node question process (Some closed) k = from node closed.1 (spawned_closed closed.1 question process (Some closed)) k (bound_kept closed.1 (mail_to closed.1 closed.0.owner (codes "$spawned") (spelling.reference question ++ spelling.process process)) _ (mailed_to closed.1 closed.0.owner (codes "$spawned") (spelling.reference question ++ spelling.process process)) (λ next. quiet tt))

spawned_here : (node : NodeState) (question : Ref) (process : ProcessId) → Stays node (spawned node question process)
unfolding spawned
spawned_here node question process = spawned_where_closed node question process (closing node kinds.Spawn question) (closed node kinds.Spawn question)

spawned_told : (node : NodeState) (question : Ref) (process : ProcessId) → Stays node (tell_spawned node question process)
unfolding tell_spawned
spawned_told node question process = by_test (is_here node question.node)
  where
    by_test : (b : Bool) → Stays node (cond b (spawned node question process) (tell_node node question.node (messages.DidSpawn question process) Free))
    by_test true = spawned_here node question process
    by_test false = free_told node question.node (messages.DidSpawn question process)

labelled : (node : NodeState) (label : List ℕ) (number : ℕ) → Stays node (fail_unlabelled node label number)
unfolding fail_unlabelled
labelled node label number = by_test (is_some (place_of node.labels label))
  where
    by_test : (b : Bool) → Stays node (cond b (silent node) (over node number (reasons.Exception (codes "unknown label"))))
    by_test true = quiet tt
    by_test false = is_over node number (reasons.Exception (codes "unknown label"))

spawn_arrived : (node : NodeState) (question : Ref) (label args : List ℕ) → Stays node (spawn_arrives node question label args)
unfolding spawn_arrives
spawn_arrived node question label args = bound node (make_of node.mail) _ (λ made.
    chained node (noting (notes.Made (process_id node made.0) (Some (origin_of question label))) (with_process node made.1 args) and_then (λ n. fail_unlabelled n label made.0)) (λ n. tell_spawned n question (process_id n made.0))
    (chained node (noting (notes.Made (process_id node made.0) (Some (origin_of question label))) (with_process node made.1 args)) (λ n. fail_unlabelled n label made.0) (quiet tt) (λ next. labelled next label made.0))
    (λ next. spawned_told next question (process_id next made.0)))

found_where_closed : (node : NodeState) (question : Ref) (at : Option ProcessId) (o : Option (Waiting × NodeState)) → KeptBeside node o → Stays node (found_closed node question at o)
found_where_closed node question at None k = quiet tt
found_where_closed node question at (Some closed) k = from node closed.1 (found_closed closed.1 question at (Some closed)) k (bound_kept closed.1 (mail_to closed.1 closed.0.owner (codes "$isat") (spelling.reference question ++ spelling.found at)) _ (mailed_to closed.1 closed.0.owner (codes "$isat") (spelling.reference question ++ spelling.found at)) (λ next. quiet tt))

found_here : (node : NodeState) (question : Ref) (at : Option ProcessId) → Stays node (found node question at)
unfolding found
found_here node question at = found_where_closed node question at (closing node kinds.Ask question) (closed node kinds.Ask question)

found_told : (node : NodeState) (question : Ref) (at : Option ProcessId) → Stays node (tell_found node question at)
unfolding tell_found
found_told node question at = by_test (is_here node question.node)
  where
    by_test : (b : Bool) → Stays node (cond b (found node question at) (tell_node node question.node (messages.IsAt question at) Free))
    by_test true = found_here node question at
    by_test false = free_told node question.node (messages.IsAt question at)

question_arrived : (node : NodeState) (question : Ref) (name : List ℕ) → Stays node (question_arrives node question name)
unfolding question_arrives
question_arrived node question name = found_told node question (standing node name)

doom_arrived : (node : NodeState) (target : ProcessId) (given text : List ℕ) → Stays node (doom_arrives node target given text)
unfolding doom_arrives
doom_arrived node target given text = by_test (is_own node target && may_doom given)
  where
    by_test : (b : Bool) → Stays node (cond b (doom node target.counter text) (silent node))
    by_test true = doomed node target.counter text
    by_test false = quiet tt

-- ---- messages from node to node

handled : (node : NodeState) (said : NodeMessage) → Stays node (handle node said)
unfolding handle
handled node (messages.Monitor watch target) = watch_arrived node watch target
handled node (messages.Unmonitor watch) = watch_left node watch
handled node (messages.Link watch target) = watch_arrived node watch target
handled node (messages.Unlink watch) = watch_left node watch
handled node (messages.Spawn question label args) = spawn_arrived node question label args
handled node (messages.DidSpawn question process) = spawned_here node question process
handled node (messages.Died watch reason) = told_here node watch reason
handled node (messages.WhereIs question name) = question_arrived node question name
handled node (messages.IsAt question at) = found_here node question at
handled node (messages.Exit target text) = doom_arrived node target text (exit_text text)
handled node (messages.Kill target text) = doom_arrived node target text (kill_text text)
handled node other = quiet tt

-- ---- messages of processes

put_by : (node : NodeState) (sender : ProcessId) (to : Target) (receiver : ProcessId) (given : Result (List Process) MailError) → Stays node (got_put node sender to receiver given)
put_by node sender to receiver (Ok mail) = quiet tt
put_by node sender to receiver (Err mails.NotLive) = quiet tt
put_by node sender to receiver (Err mails.Empty) = quiet tt
put_by node sender to receiver (Err mails.OutOfMemory) = tt
put_by node sender to receiver (Err mails.Worn) = tt

got : (node : NodeState) (sender : ProcessId) (to : Target) (receiver : ProcessId) (port : Option ℕ) (said : Message) → Stays node (get node sender to receiver port said)
unfolding get
got node sender to receiver port said = put_by node sender to receiver (put_of node.mail receiver.counter port said)

got_by_name : (node : NodeState) (sender : ProcessId) (to : Target) (said : Message) (receiver : Option ProcessId) → Stays node (get_standing node sender to said receiver)
got_by_name node sender to said None = quiet tt
got_by_name node sender to said (Some receiver) = got node sender to receiver None said

delivered : (node : NodeState) (sender : ProcessId) (to : Target) (said : Message) → Stays node (deliver node sender to said)
unfolding deliver
delivered node sender (targets.Process process) said = got node sender (targets.Process process) process None said
delivered node sender (targets.Port port) said = got node sender (targets.Port port) port.process (Some port.port) said
delivered node sender (targets.Named at name) said = got_by_name node sender (targets.Named at name) said (standing node name)

-- the connection of a pair that has none finds an id, and a message to another node room, where it goes there
abbrev FitsPair : NodeState → Pair → (Address → ℕ) → (Address → Bool) → Type 0
FitsPair node pair given roomy = is_here node (target_at pair.to) ≡ false → (pair.mark ≡ Unopened → given (target_at pair.to) + (1 + kept_free (sender_of node) (target_at pair.to)) ≤ MOST_IDS) × (is_broken pair.mark ≡ false → roomy (target_at pair.to) ≡ true)

sent_first : (node : NodeState) (pair : Pair) (said : Message) (weight : Weight) → IsKept pair node.pairs → pair.mark ≡ Unopened → AllDo (PairFits pair (sender_of node) weight) (sender_of node) (send_first node pair said weight)
unfolding send_first drawn opening
sent_first node pair said weight is unopened = by_test (nat_le (2 * node.opened) last_u64) where
  by_test : (b : Bool) → AllDo (PairFits pair (sender_of node) weight) (sender_of node) (cond b (Ok (2 * node.opened)) (Err stops.Worn) >>= (λ conn. doing (acts.Open conn (target_at pair.to) ∷ acts.Put conn (spelling.message (messages.Opening (ends.Process (process_id node pair.by)) (opened_to pair.to))) Free ∷ acts.Put conn (payload_of pair.to said) weight ∷ []) (record (keeping node (record pair { mark = Opened conn })) { opened = node.opened + 1 })))
  by_test true = λ o. pair_does pair (sender_of node) is unopened o (spelling.message (messages.Opening (ends.Process (process_id node pair.by)) (opened_to pair.to))) (payload_of pair.to said) weight
  by_test false = tt

pair_open : (node : NodeState) (pair : Pair) (conn : ℕ) → IsKept pair node.pairs → pair.mark ≡ Opened conn → 1 ≤ open_at (sender_of node) conn (target_at pair.to)
pair_open node pair conn is e = more (total (pair_has conn (target_at pair.to)) node.pairs) (total (node_has conn (target_at pair.to)) node.to_nodes) (kept_has pair node.pairs conn is e) where
  more : (a b : ℕ) → 1 ≤ a → 1 ≤ a + b
  more a b l = omega arith

sent_on : (node : NodeState) (pair : Pair) (said : Message) (weight : Weight) (mark : Mark) → IsKept pair node.pairs → pair.mark ≡ mark → is_here node (target_at pair.to) ≡ false → AllDo (FitsPair node pair) (sender_of node) (send_on node pair said weight mark)
sent_on node pair said weight Unopened is e away = refit (PairFits pair (sender_of node) weight) (FitsPair node pair) (sender_of node) (send_first node pair said weight) (λ given roomy fit. let x = fit away in (x.0 e, λ w. x.1 (ap is_broken e))) (sent_first node pair said weight is e)
sent_on node pair said weight (Opened conn) is e away = λ o. puts_first (FitsPair node pair) conn (payload_of pair.to said) weight (target_at pair.to) (sender_of node) o (pair_open node pair conn is e) (λ given roomy fit w. (fit away).1 (ap is_broken e))
sent_on node pair said weight Broken is e away = weaken (FitsPair node pair) (sender_of node) (send_on node pair said weight Broken) (quiet tt)

carried : (node : NodeState) (pair : Pair) (said : Message) (weight : Weight) → IsKept pair node.pairs → AllDo (FitsPair node pair) (sender_of node) (carry node pair said weight)
unfolding carry
carried node pair said weight is = by_test (is_here node (target_at pair.to)) refl
  where
    by_test : (b : Bool) → is_here node (target_at pair.to) ≡ b → AllDo (FitsPair node pair) (sender_of node) (cond b (deliver node (process_id node pair.by) pair.to said) (send_on node pair said weight pair.mark))
    by_test true away = weaken (FitsPair node pair) (sender_of node) (deliver node (process_id node pair.by) pair.to said) (delivered node (process_id node pair.by) pair.to said)
    by_test false away = sent_on node pair said weight pair.mark is refl away

is_said : (node : NodeState) (pair : Pair) (said : Message) → IsKept pair node.pairs → AllDo (FitsPair node pair) (sender_of node) (say node pair said)
unfolding say
is_said node pair said is = bound_fit (FitsPair node pair) node (growing pair.index) _ (λ index.
    same_before (FitsPair node pair) (notes.Said (process_id node pair.by) pair.to pair.epoch index said) (sender_of node) (sender_of (keeping node (with_said pair))) (carry (keeping node (with_said pair)) (with_said pair) said (weight_of pair.epoch index))
    (unmarked_does (with_said pair) pair (sender_of node) is refl refl) (carried (keeping node (with_said pair)) (with_said pair) said (weight_of pair.epoch index) (stored_kept (with_said pair) node.pairs)))

reconnected : (node : NodeState) (pair : Pair) → IsKept pair node.pairs → Stays node (reconnect node pair)
unfolding reconnect next_epoch
reconnected node pair is = by_epoch (growing pair.epoch)
  where
    next : ℕ → Pair
    next epoch = record pair { epoch = epoch + 1; index = 0; mark = Unopened }

    by_mark : (epoch : ℕ) (mark : Mark) → pair.mark ≡ mark → Own (sender_of node) → Does Any (sender_of node) (map (λ conn. acts.Close conn) (option_to_list (conn_of mark))) (sender_of (keeping node (next epoch)))
    by_mark epoch Unopened e = unmarked_does (next epoch) pair (sender_of node) is (sym e) refl
    by_mark epoch (Opened conn) e = unpaired_does (next epoch) pair (sender_of node) is conn e refl
    by_mark epoch Broken e = does.unbroken_does (next epoch) pair (sender_of node) is e refl

    by_epoch : (r : Result ℕ Stop) → Stays node ((r >>= (λ epoch. Ok (next epoch))) >>= (λ next. doing (acts.Note (notes.Again (process_id node pair.by) pair.to next.epoch) ∷ map (λ conn. acts.Close conn) (option_to_list (conn_of pair.mark))) (keeping node next)))
    by_epoch (Ok epoch) = λ o. noted Any (notes.Again (process_id node pair.by) pair.to (epoch + 1)) (sender_of node) (sender_of (keeping node (next epoch))) (map (λ conn. acts.Close conn) (option_to_list (conn_of pair.mark))) (by_mark epoch pair.mark refl o)
    by_epoch (Err stop) = tt

-- ---- commands on messages and on a process's own end

-- the room that a command is told is that of the link to the node that it is directed to
abbrev pub RoomFits : NodeState → Option Address → Room → (Address → ℕ) → (Address → Bool) → Type 0
RoomFits node None room given roomy = Unit {0}
RoomFits node (Some peer) room given roomy = is_here node peer ≡ false → (room.given ≡ given peer) × ((room.up || not (nat_le most_waiting room.waits)) ≡ roomy peer)

-- a command for another node that isn't full finds room
not_full_so : (node : NodeState) (at : Address) (room : Room) → not_full node at room ≡ Ok tt → is_here node at ≡ false → (room.up || not (nat_le most_waiting room.waits)) ≡ true
unfolding not_full
not_full_so node at room e away = by_test (room.up || not (nat_le most_waiting room.waits)) (sym (ap (λ b. full (b || (room.up || not (nat_le most_waiting room.waits)))) away) ∙ e) where
  full : Bool → Result (Unit {0}) CommandError
  full b = cond b (Ok tt) (Err errors.Full)

  by_test : (b : Bool) → full b ≡ Ok tt → b ≡ true
  by_test true e = refl
  by_test false e = absurd cc

-- a message of a command to another node finds room
abbrev AskFits : NodeState → Address → (Address → ℕ) → (Address → Bool) → Type 0
AskFits node at given roomy = is_here node at ≡ false → roomy at ≡ true

with_room : (node : NodeState) (at : Address) (room : Room) (done : Done) → AllDo (AskFits node at) (sender_of node) done → AllDo (RoomFits node (Some at) room) (sender_of node) (not_full node at room >>= (λ roomy. stopping done))
with_room node at room done d = by_room (not_full node at room) refl where
  by_room : (r : Result (Unit {0}) CommandError) → not_full node at room ≡ r → AllDo (RoomFits node (Some at) room) (sender_of node) (r >>= (λ roomy. stopping done))
  by_room (Ok tt) e = refit (AskFits node at) (RoomFits node (Some at) room) (sender_of node) (stopping done) (λ given roomy fit away. sym (fit away).1 ∙ not_full_so node at room e away) (stopped_fit (AskFits node at) node done d)
  by_room (Err x) e = tt

-- a pair without a connection, for which there is room, finds an id
room_found : (node : NodeState) (pair : Pair) (room : Room) (g : ℕ) → room_to_send node pair room ≡ Ok tt → is_here node (target_at pair.to) ≡ false → pair.mark ≡ Unopened → room.given ≡ g → g + (1 + kept_free (sender_of node) (target_at pair.to)) ≤ MOST_IDS
unfolding room_to_send not_spent opened_besides
room_found node pair room g ok away unopened same = by_known (is_some (conn_to node (target_at pair.to))) refl (unspent (not_full node (target_at pair.to) room) (past ok)) where
  spent : Bool → Result (Unit {0}) CommandError
  spent b = cond b (Err errors.Spent) (Ok tt)

  past : cond (is_here node (target_at pair.to) || is_broken pair.mark) (Ok tt) (not_full node (target_at pair.to) room >>= (λ waits. spent (is_unopened pair.mark && nat_le most_opened (opened_besides node (target_at pair.to) room)))) ≡ Ok tt
      → (not_full node (target_at pair.to) room >>= (λ waits. spent (nat_le most_opened (opened_besides node (target_at pair.to) room)))) ≡ Ok tt
  past e = sym (ap (λ b. cond b (Ok tt) (not_full node (target_at pair.to) room >>= (λ waits. spent (is_unopened pair.mark && nat_le most_opened (opened_besides node (target_at pair.to) room))))) (ap (λ b. b || is_broken pair.mark) away ∙ ap is_broken unopened)
      ∙ ap (λ (m : Mark). not_full node (target_at pair.to) room >>= (λ waits. spent (is_unopened m && nat_le most_opened (opened_besides node (target_at pair.to) room)))) unopened) ∙ e

  by_spent : (b : Bool) → spent b ≡ Ok tt → b ≡ false
  by_spent true e = absurd cc
  by_spent false e = refl

  unspent : (r : Result (Unit {0}) CommandError) → (r >>= (λ waits. spent (nat_le most_opened (opened_besides node (target_at pair.to) room)))) ≡ Ok tt → nat_le most_opened (opened_besides node (target_at pair.to) room) ≡ false
  unspent (Ok x) e = by_spent (nat_le most_opened (opened_besides node (target_at pair.to) room)) e
  unspent (Err x) e = absurd cc

  besides : (n m : ℕ) → n ≡ m → nat_le most_opened (n - 1) ≡ false → m + (1 + 0) ≤ MOST_IDS
  besides n m e h = grind (arith, nat_tests)

  all : (n m : ℕ) → n ≡ m → nat_le most_opened n ≡ false → m + (1 + 1) ≤ MOST_IDS
  all n m e h = grind (arith, nat_tests)

  by_known : (b : Bool) → is_some (conn_to node (target_at pair.to)) ≡ b → nat_le most_opened (cond (is_some (conn_to node (target_at pair.to))) (room.given - 1) room.given) ≡ false → g + (1 + kept_free (sender_of node) (target_at pair.to)) ≤ MOST_IDS
  by_known true h e = subst (λ b. g + (1 + cond b 0 1) ≤ MOST_IDS) (sym h ∙ known_so node (target_at pair.to)) (besides room.given g same (ap (λ b. nat_le most_opened (cond b (room.given - 1) room.given)) (sym h) ∙ e))
  by_known false h e = subst (λ b. g + (1 + cond b 0 1) ≤ MOST_IDS) (sym h ∙ known_so node (target_at pair.to)) (all room.given g same (ap (λ b. nat_le most_opened (cond b (room.given - 1) room.given)) (sym h) ∙ e))

-- a message that goes to another node finds room
space_found : (node : NodeState) (pair : Pair) (room : Room) → room_to_send node pair room ≡ Ok tt → is_here node (target_at pair.to) ≡ false → is_broken pair.mark ≡ false → (room.up || not (nat_le most_waiting room.waits)) ≡ true
unfolding room_to_send
space_found node pair room ok away whole = not_full_so node (target_at pair.to) room (first (not_full node (target_at pair.to) room) (past ok)) away where
  past : cond (is_here node (target_at pair.to) || is_broken pair.mark) (Ok tt) (not_full node (target_at pair.to) room >>= (λ waits. not_spent node pair room)) ≡ Ok tt → (not_full node (target_at pair.to) room >>= (λ waits. not_spent node pair room)) ≡ Ok tt
  past e = sym (ap (λ b. cond b (Ok tt) (not_full node (target_at pair.to) room >>= (λ waits. not_spent node pair room))) (ap (λ b. b || is_broken pair.mark) away ∙ whole)) ∙ e

  first : (r : Result (Unit {0}) CommandError) → (r >>= (λ waits. not_spent node pair room)) ≡ Ok tt → r ≡ Ok tt
  first (Ok tt) e = refl
  first (Err x) e = absurd cc

send_stays : (node : NodeState) (by : ℕ) (to : Target) (said : Message) (room : Room) → AllDo (RoomFits node (Some (target_at to)) room) (sender_of node) (send_of node by to said room)
unfolding send_of
send_stays node by to said room = bound_fit (RoomFits node (Some (target_at to)) room) node (acting node by) _ (λ live. bound_fit (RoomFits node (Some (target_at to)) room) node (known node to) _ (λ there. bound_fit (RoomFits node (Some (target_at to)) room) node (fitting (payload_of to said)) _ (λ short. by_room (room_to_send node pair room) refl)))
  where
    pair : Pair
    pair = pair_of node.pairs by to

    at_target : target_at pair.to ≡ target_at to
    at_target = ap target_at (pair_named node.pairs by to).1

    by_room : (r : Result (Unit {0}) CommandError) → room_to_send node pair room ≡ r → AllDo (RoomFits node (Some (target_at to)) room) (sender_of node) (r >>= (λ roomy. stopping (say node pair said)))
    by_room (Ok tt) e = refit (FitsPair node pair) (RoomFits node (Some (target_at to)) room) (sender_of node) (stopping (say node pair said))
        (λ given roomy fit away. let x = fit (ap (is_here node) (sym at_target) ∙ away) in
        (λ unopened. room_found node pair room (given (target_at pair.to)) e away unopened (x.0 ∙ ap given (sym at_target)), λ whole. ap roomy at_target ∙ sym x.1 ∙ space_found node pair room e away whole))
        (stopped_fit (FitsPair node pair) node (say node pair said) (is_said node pair said (found_kept node.pairs by to)))
    by_room (Err x) e = tt

again_stays : (node : NodeState) (by : ℕ) (to : Target) → Stays node (again_of node by to)
unfolding again_of
again_stays node by to = bound node (acting node by) _ (λ live. stopped node (reconnect node (pair_of node.pairs by to)) (reconnected node (pair_of node.pairs by to) (found_kept node.pairs by to)))

receive_stays : (node : NodeState) (by : ℕ) (mark : List ℕ) → Stays node (receive_of node by mark)
unfolding receive_of
receive_stays node by mark = bound node (acting node by) _ (λ live. bound node (mailed (take_of node.mail by mark)) _ (λ taken. quiet tt))

take_stays : (node : NodeState) (by port : ℕ) → Stays node (take_port node by port)
unfolding take_port
take_stays node by port = bound node (acting node by) _ (λ live. bound node (mailed (take_port_of node.mail by port)) _ (λ taken. quiet tt))

port_stays : (node : NodeState) (by : ℕ) → Stays node (open_port node by)
unfolding open_port
port_stays node by = bound node (acting node by) _ (λ live. bound node (mailed (open_port_of node.mail by)) _ (λ opened. quiet tt))

finish_stays : (node : NodeState) (by : ℕ) (reason : Reason) → Stays node (finish_of node by reason)
unfolding finish_of
finish_stays node by reason = bound node (acting node by) _ (λ live. stopped node (over node by reason) (is_over node by reason))

fall_stays : (node : NodeState) (by : ℕ) → Stays node (fall_of node by)
unfolding fall_of
fall_stays node by = bound node (falling node by) _ (λ text. stopped node (over node by (reasons.Exception text)) (is_over node by (reasons.Exception text)))

-- ---- commands on other processes and on names

asked : (node : NodeState) (at : Address) (said : NodeMessage) → AllDo (AskFits node at) (sender_of node) (ask node at said)
unfolding ask
asked node at said = by_test (is_here node at) refl
  where
    by_test : (b : Bool) → is_here node at ≡ b → AllDo (AskFits node at) (sender_of node) (cond b (handle node said) (tell_node node at said (Counted None)))
    by_test true away = weaken (AskFits node at) (sender_of node) (handle node said) (handled node said)
    by_test false away = refit (TellFits at (Counted None)) (AskFits node at) (sender_of node) (tell_node node at said (Counted None)) (λ given roomy fit w. fit away) (node_told node at said (Counted None))

watched : (node : NodeState) (by : ℕ) (kind : Kind) (target : ProcessId) → AllDo (AskFits node target.node) (sender_of node) (watch node by kind target)
unfolding watch
watched node by kind target = bound_fit (AskFits node target.node) node (watch_of node.watches by kind (ends.Process target)) _ (λ opened.
    same_before (AskFits node target.node) (notes.Watch (reference_to node opened.0) (process_id node by) target kind) (sender_of node) (sender_of node) (ask (record node { watches = opened.1 }) target.node (watch_message kind (reference_to node opened.0) target)) (quiet tt) (asked (record node { watches = opened.1 }) target.node (watch_message kind (reference_to node opened.0) target)))

watch_stays : (node : NodeState) (by : ℕ) (kind : Kind) (target : ProcessId) (room : Room) → AllDo (RoomFits node (Some target.node) room) (sender_of node) (watch_by node by kind target room)
unfolding watch_by
watch_stays node by kind target room = bound_fit (RoomFits node (Some target.node) room) node (acting node by) _ (λ live. with_room node target.node room (watch node by kind target) (watched node by kind target))

unwatch_stays : (node : NodeState) (by : ℕ) (given : Ref) (room : Room) → AllDo (RoomFits node (node_watched node by given) room) (sender_of node) (unwatch_by node by given room)
unfolding unwatch_by node_watched
unwatch_stays node by given room = bound_fit (RoomFits node (option_map (λ known. node_of known.target) (watch_under node by given)) room) node (acting node by) _ (λ live. by_under (watch_under node by given)) where
  by_closed : (waiting : Waiting) (closed : Result (Waiting × Lists) CommandError) → AllDo (AskFits node (node_of waiting.target)) (sender_of node) (closed >>= (λ closed. stopping (noting (notes.Unwatch given) (record node { watches = closed.1 }) and_then (λ n. ask n (node_of waiting.target) (unwatch_message waiting.kind given)))))
  by_closed waiting (Ok closed) = stopped_fit (AskFits node (node_of waiting.target)) node (noting (notes.Unwatch given) (record node { watches = closed.1 }) and_then (λ n. ask n (node_of waiting.target) (unwatch_message waiting.kind given)))
      (same_before (AskFits node (node_of waiting.target)) (notes.Unwatch given) (sender_of node) (sender_of node) (ask (record node { watches = closed.1 }) (node_of waiting.target) (unwatch_message waiting.kind given)) (quiet tt) (asked (record node { watches = closed.1 }) (node_of waiting.target) (unwatch_message waiting.kind given)))
  by_closed waiting (Err e) = tt

  by_room : (waiting : Waiting) (r : Result (Unit {0}) CommandError) → not_full node (node_of waiting.target) room ≡ r → AllDo (RoomFits node (Some (node_of waiting.target)) room) (sender_of node) (r >>= (λ roomy. watching (unwatch_of node.watches by given.number) >>= (λ closed. stopping (noting (notes.Unwatch given) (record node { watches = closed.1 }) and_then (λ n. ask n (node_of waiting.target) (unwatch_message waiting.kind given))))))
  by_room waiting (Ok tt) e = refit (AskFits node (node_of waiting.target)) (RoomFits node (Some (node_of waiting.target)) room) (sender_of node) _ (λ given roomy fit away. sym (fit away).1 ∙ not_full_so node (node_of waiting.target) room e away) (by_closed waiting (watching (unwatch_of node.watches by given.number)))
  by_room waiting (Err x) e = tt

  by_under : (o : Option Waiting) → AllDo (RoomFits node (option_map (λ known. node_of known.target) o) room) (sender_of node) (ok_or o errors.NoRef >>= (λ waiting. not_full node (node_of waiting.target) room >>= (λ roomy. watching (unwatch_of node.watches by given.number) >>= (λ closed. stopping (noting (notes.Unwatch given) (record node { watches = closed.1 }) and_then (λ n. ask n (node_of waiting.target) (unwatch_message waiting.kind given)))))))
  by_under None = tt
  by_under (Some waiting) = by_room waiting (not_full node (node_of waiting.target) room) refl

doom_stays : (node : NodeState) (by : ℕ) (at : Address) (said : NodeMessage) (room : Room) → AllDo (RoomFits node (Some at) room) (sender_of node) (doom_by node by at said room)
unfolding doom_by
doom_stays node by at said room = bound_fit (RoomFits node (Some at) room) node (acting node by) _ (λ live. with_room node at room (ask node at said) (asked node at said))

asked_before : (node : NodeState) (by : ℕ) (at : Address) (question : Ref) (done : Done) → AllDo (AskFits node at) (sender_of node) done → AllDo (AskFits node at) (sender_of node) (after (asked_note node by at question) done)
asked_before node by at question done d = by_test (is_here node at) where
  plainly : (r : Done) → AllDo (AskFits node at) (sender_of node) r → AllDo (AskFits node at) (sender_of node) (after [] r)
  plainly (Ok r) d = d
  plainly (Err stop) d = tt

  by_test : (b : Bool) → AllDo (AskFits node at) (sender_of node) (after (cond b [] (acts.Note (notes.Asked question (process_id node by) at) ∷ [])) done)
  by_test true = plainly done d
  by_test false = same_before (AskFits node at) (notes.Asked question (process_id node by) at) (sender_of node) (sender_of node) done (quiet tt) d

questioned : (node : NodeState) (by : ℕ) (kind : Kind) (at : Address) (said : Ref → NodeMessage) → AllDo (AskFits node at) (sender_of node) (question node by kind at said)
unfolding question
questioned node by kind at said = bound_fit (AskFits node at) node (watch_of node.watches by kind (ends.Node at)) _ (λ opened.
    asked_before node by at (reference_to node opened.0) (ask (record node { watches = opened.1 }) at (said (reference_to node opened.0))) (asked (record node { watches = opened.1 }) at (said (reference_to node opened.0))))

spawn_stays : (node : NodeState) (by : ℕ) (at : Address) (closure : Closure) (room : Room) → AllDo (RoomFits node (Some at) room) (sender_of node) (spawn_by node by at closure room)
unfolding spawn_by
spawn_stays node by at closure room = bound_fit (RoomFits node (Some at) room) node (acting node by) _ (λ live. bound_fit (RoomFits node (Some at) room) node (fitting (spelling.message (messages.Spawn (reference_to node node.watches.next) closure.label closure.args))) _ (λ short.
    with_room node at room (question node by kinds.Spawn at (λ asked. messages.Spawn asked closure.label closure.args)) (questioned node by kinds.Spawn at (λ asked. messages.Spawn asked closure.label closure.args))))

whereis_stays : (node : NodeState) (by : ℕ) (at : Address) (name : List ℕ) (room : Room) → AllDo (RoomFits node (Some at) room) (sender_of node) (whereis_by node by at name room)
unfolding whereis_by
whereis_stays node by at name room = bound_fit (RoomFits node (Some at) room) node (acting node by) _ (λ live. with_room node at room (question node by kinds.Ask at (λ asked. messages.WhereIs asked name)) (questioned node by kinds.Ask at (λ asked. messages.WhereIs asked name)))

register_stays : (node : NodeState) (by : ℕ) (name : List ℕ) → Stays node (register_by node by name)
unfolding register_by
register_stays node by name = bound node (acting node by) _ (λ live. bound node (watching (register_of node.watches name by)) _ (λ lists. quiet tt))

unregister_stays : (node : NodeState) (by : ℕ) (name : List ℕ) → Stays node (unregister_by node by name)
unfolding unregister_by
unregister_stays node by name = bound node (acting node by) _ (λ live. bound node (watching (unregister_of node.watches name)) _ (λ taken. quiet tt))

-- ---- the calls of a node

pub on_make : (node : NodeState) → AllDo Any (sender_of node) (node_make node)
unfolding node_make
on_make node = by_test node.is_shut
  where
    by_test : (b : Bool) → Stays node (cond b (Err errors.Dead) (stopping (make node None [])))
    by_test true = tt
    by_test false = stopped node (make node None []) (made node None [])

pub on_command : (node : NodeState) (by : ℕ) (command : Command) (room : Room) → AllDo (RoomFits node (target_node node by command) room) (sender_of node) (node_command node by command room)
unfolding node_command target_node
on_command node by (commands.Send to said) room = send_stays node by to said room
on_command node by (commands.Again to) room = weaken _ (sender_of node) (again_of node by to) (again_stays node by to)
on_command node by (commands.Receive mark) room = weaken _ (sender_of node) (receive_of node by mark) (receive_stays node by mark)
on_command node by commands.OpenPort room = weaken _ (sender_of node) (open_port node by) (port_stays node by)
on_command node by (commands.Take port) room = weaken _ (sender_of node) (take_port node by port) (take_stays node by port)
on_command node by commands.End room = weaken _ (sender_of node) (finish_of node by reasons.Normal) (finish_stays node by reasons.Normal)
on_command node by (commands.Fail text) room = weaken _ (sender_of node) (finish_of node by (reasons.Exception text)) (finish_stays node by (reasons.Exception text))
on_command node by commands.Fall room = weaken _ (sender_of node) (fall_of node by) (fall_stays node by)
on_command node by (commands.Monitor target) room = watch_stays node by kinds.Monitor target room
on_command node by (commands.Link target) room = watch_stays node by kinds.Link target room
on_command node by (commands.Unwatch watch) room = unwatch_stays node by watch room
on_command node by (commands.Exit target text) room = doom_stays node by target.node (messages.Exit target text) room
on_command node by (commands.Kill target text) room = doom_stays node by target.node (messages.Kill target text) room
on_command node by (commands.Spawn at closure) room = spawn_stays node by at closure room
on_command node by (commands.Register name) room = weaken _ (sender_of node) (register_by node by name) (register_stays node by name)
on_command node by (commands.Unregister name) room = weaken _ (sender_of node) (unregister_by node by name) (unregister_stays node by name)
on_command node by (commands.WhereIs at name) room = whereis_stays node by at name room

-- ---- what comes on a connection

by_node : (node : NodeState) (peer : Address) (said : Result NodeMessage IdentError) → Stays node (from_node node peer said)
by_node node peer (Ok said) = by_test (is_for_peer peer said)
  where
    by_test : (b : Bool) → Stays node (cond b (handle node said) (silent node))
    by_test true = handled node said
    by_test false = quiet tt
by_node node peer (Err e) = quiet tt

by_name : (node : NodeState) (sender : ProcessId) (said : Result NodeMessage IdentError) → Stays node (to_name node sender said)
by_name node sender (Ok (messages.NamedSend name mark body)) = delivered node sender (targets.Named node.own name) (record { mark = mark; body = body })
by_name node sender said = quiet tt

by_target : (node : NodeState) (sender : ProcessId) (to : Target) (said : Result Message IdentError) → Stays node (to_target node sender to said)
by_target node sender to (Ok said) = delivered node sender to said
by_target node sender to (Err e) = quiet tt

came_as : (node : NodeState) (arrived : Arrived) (payload : List ℕ) (bound : Bound) → Stays node (received_as node arrived payload bound)
unfolding bind
came_as node arrived payload Unread = quiet tt
came_as node arrived payload Void = quiet tt
came_as node arrived payload FromNode = by_node node arrived.peer (message_of payload)
came_as node arrived payload (ToNames sender) = by_name node sender (message_of payload)
came_as node arrived payload (ToTarget sender to) = by_target node sender to (user_of payload)

came_on : (node : NodeState) (payload : List ℕ) (arrived : Option Arrived) → Stays node (received_on node payload arrived)
came_on node payload None = quiet tt
came_on node payload (Some arrived) = came_as node arrived payload arrived.bound

came : (node : NodeState) (conn : ℕ) (payload : List ℕ) → Stays node (received node conn payload)
unfolding received
came node conn payload = came_on node payload (find (λ arrived. arrived.conn == conn) node.arrived)

lost_one : (why : Why) (waiting : Waiting) (node : NodeState) → Stays node (lost_told why waiting node)
unfolding lost_told
lost_one why waiting node = told_by_kind waiting.kind node (reference_to node waiting.number) (reason_of why) waiting.owner

-- what a node made of the loss of its link with a peer: nothing is open there any more, and the acts change nothing
pub record IsLeft (peer : Address) (s : Sender) (done : List Act × NodeState) : Type 0 where
  pub mid : Sender
  pub loses : Loses peer s mid
  pub more : Own mid → Does Any mid done.0 (sender_of done.1)

abbrev pub AllLeft : Address → Sender → Done → Type 0
AllLeft peer s (Ok done) = IsLeft peer s done
AllLeft peer s (Err stop) = Unit {0}

pub lost : (node : NodeState) (peer : Address) (why : Why) → AllLeft peer (sender_of node) (peer_lost node peer why)
unfolding peer_lost
lost node peer why = by_pairs (lost_pairs peer node.pairs) (all_lost peer node.pairs)
  where
    now : List Pair → NodeState
    now pairs = record node { watches = (lost_of node.watches peer).1; pairs = pairs; to_nodes = filter (λ known. not (same_node known.0 peer)) node.to_nodes; arrived = filter (λ arrived. not (same_node arrived.peer peer)) node.arrived }

    left_by : (pairs : List Pair) → IsLost peer node.pairs pairs → (done : Done) → Stays (now pairs) done → AllLeft peer (sender_of node) done
    left_by pairs l (Ok done) d = record { mid = sender_of (now pairs); loses = lost_all peer (sender_of node) pairs l; more = d }
    left_by pairs l (Err stop) d = tt

    by_pairs : (r : Result (List Pair) Stop) → AllLost peer node.pairs r → AllLeft peer (sender_of node) (r >>= (λ pairs. each_in_turn (lost_told why) (lost_of node.watches peer).0 (now pairs)))
    by_pairs (Ok pairs) l = left_by pairs l (each_in_turn (lost_told why) (lost_of node.watches peer).0 (now pairs)) (in_turn (lost_told why) (lost_of node.watches peer).0 (now pairs) (lost_one why))
    by_pairs (Err stop) l = tt

-- the event tells of no link that failed
abbrev pub IsNoLoss : Event → Type 0
IsNoLoss (events.ConnectionLost peer why) = ⊥
IsNoLoss event = Unit {0}

pub on_event : (node : NodeState) (event : Event) → IsNoLoss event → AllDo Any (sender_of node) (node_event node event)
unfolding node_event arrives departs
on_event node (events.ConnectionOpened conn peer) n = quiet tt
on_event node (events.Received conn payload) n = came node conn payload
on_event node (events.ConnectionClosed conn) n = quiet tt
on_event node events.EndPointClosed n = quiet tt
on_event node (events.ConnectionLost peer why) n = absurd n
