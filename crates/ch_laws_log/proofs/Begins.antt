-- What a node does where it does what was asked begins with telling it.
use Rattle.std.proofs.Common.{◌≡◌, ℕ, Bool, true, false, cond, List, [], ◌∷◌, ◌++◌, map, Ok, Err, refl, sym, subst}
use Rattle.std.specs.Prelude.{Result, Some, None, ok_or}
use Rattle.std.specs.Str.{bytes_eq}
use Rattle.ch_base.specs.declared.event.Room.{Room}
use Rattle.ch_base.specs.declared.address.Address.{Address}
use Rattle.ch_ident.specs.declared.node_message.NodeMessage.{NodeMessage}
use Rattle.ch_ident.specs.declared.node_message.NodeMessage.TheVariants as messages
use Rattle.ch_ident.specs.Spelling as spelling
use Rattle.ch_static.specs.declared.closure.Closure.{Closure}
use Rattle.ch_watch.specs.declared.waiting.Kind.TheVariants as kinds
use Rattle.ch_watch.specs.Lists.{Lists}
use Rattle.ch_model.specs.declared.step.Weight.TheVariants.{Counted}
use Rattle.ch_model.specs.NodeAsks.{fail_unlabelled, tell_spawned, spawn_arrives, origin_of}
use Rattle.ch_model.specs.NodeConnections.{tell_node}
use Rattle.ch_ident.specs.declared.message.Message.{Message}
use Rattle.ch_ident.specs.declared.reason.Reason.{Reason}
use Rattle.ch_ident.specs.declared.reason.Reason.TheVariants as reasons
use Rattle.ch_mail.specs.declared.error.MailError.{MailError}
use Rattle.ch_mail.specs.Process.{Process}
use Rattle.ch_mail.specs.Mail.{make_of, end_of, take_of, take_port_of, open_port_of, downed}
use Rattle.ch_static.specs.declared.target.Target.{Target}
use Rattle.ch_ident.specs.declared.identifier.Identifier.TheVariants as ends
use Rattle.ch_ident.specs.declared.identifier.ProcessId.{ProcessId}
use Rattle.ch_ident.specs.declared.identifier.Ref.{Ref}
use Rattle.ch_watch.specs.declared.waiting.Kind.{Kind}
use Rattle.ch_watch.specs.Same.{node_of}
use Rattle.ch_watch.specs.Watches.{ended_of, watch_of, unwatch_of, register_of, unregister_of}
use Rattle.ch_model.specs.declared.act.Act.{Act}
use Rattle.ch_model.specs.declared.act.Act.TheVariants as acts
use Rattle.ch_model.specs.declared.command.CommandError.TheVariants as errors
use Rattle.ch_model.specs.declared.note.Note.{Note}
use Rattle.ch_model.specs.declared.note.Note.TheVariants as notes
use Rattle.ch_model.specs.NodeState.{NodeState, Pair}
use Rattle.ch_model.specs.NodeActs.{◌>>=◌, Done, after, each_in_turn, stopping, mailed, watching, or_unchanged, growing, noting, doing, ◌and_then◌}
use Rattle.ch_model.specs.NodeIds.{process_id, reference_to, is_here}
use Rattle.ch_model.specs.NodePairs.{pair_of, keeping, next_epoch}
use Rattle.ch_model.specs.NodeLives.{make, with_process}
use Rattle.ch_model.specs.NodeWatches.{tell_end, watch_under}
use Rattle.ch_model.specs.NodeEnds.{over, bereft, farewell, shut_lists}
use Rattle.ch_model.specs.NodeSends.{carry, payload_of, weight_of, with_said, say, reconnect}
use Rattle.ch_model.specs.NodeRoom.{acting, falling, known, fitting, not_full, room_to_send}
use Rattle.ch_model.specs.NodeMessages.{ask, handle}
use Rattle.ch_model.specs.NodeRequests.{watch_message, unwatch_message, watch, watch_by, unwatch_by, register_by, unregister_by, asked_note, question, spawn_by, whereis_by}
use Rattle.ch_model.specs.NodeCommands.{send_of, again_of, receive_of, take_port, open_port, finish_of, fall_of}
use Rattle.ch_model.specs.Node.{node_make, node_shut}
use Rattle.ch_laws_log.proofs.Takes.{TakenMarked, taken_marked}

-- the first act tells such a note
abbrev pub Begins : (Note → Type 0) → List Act → Type 0
Begins P [] = ⊥
Begins P (acts.Note note ∷ rest) = P note
Begins P (act ∷ rest) = ⊥

-- what was done begins so
abbrev pub Begun : {E : Type 0} → (Note → Type 0) → Result (List Act × NodeState) E → Type 0
Begun P (Ok done) = Begins P done.0
Begun P (Err e) = Unit {0}

-- ---- one thing and then another

more_begins : (P : Note → Type 0) (one more : List Act) → Begins P one → Begins P (one ++ more)
more_begins P [] more b = absurd b
more_begins P (acts.Note note ∷ rest) more b = b
more_begins P (acts.Open conn peer ∷ rest) more b = absurd b
more_begins P (acts.Put conn payload weight ∷ rest) more b = absurd b
more_begins P (acts.Close conn ∷ rest) more b = absurd b

later : (P : Note → Type 0) (one : List Act) (done : Done) → Begins P one → Begun P (after one done)
later P one (Ok done) b = more_begins P one done.0 b
later P one (Err stop) b = tt

bound : {A E : Type 0} (P : Note → Type 0) (given : Result A E) (f : A → Result (List Act × NodeState) E) → ((x : A) → Begun P (f x)) → Begun P (given >>= f)
bound P (Ok x) f k = k x
bound P (Err e) f k = tt

stopped : (P : Note → Type 0) (done : Done) → Begun P done → Begun P (stopping done)
stopped P (Ok done) b = b
stopped P (Err stop) b = tt

in_turn : (P : Note → Type 0) (done : Done) (f : NodeState → Done) → Begun P done → Begun P (done and_then f)
in_turn P (Ok done) f b = later P done.0 (f done.1) b
in_turn P (Err stop) f b = tt

no_more : (P : Note → Type 0) (done : Done) → Begun P done → Begun P (after [] done)
no_more P (Ok done) b = b
no_more P (Err stop) b = tt

-- ---- a process is made, and the node is shut

pub made_first : (P : Note → Type 0) (node : NodeState) → ((n : ℕ) → P (notes.Made (process_id node n) None)) → Begun P (node_make node)
unfolding node_make make
made_first P node p = by_test node.is_shut where
  by_test : (b : Bool) → Begun P (cond b (Err errors.Dead) (stopping (make node None [])))
  by_test true = tt
  by_test false = stopped P (make node None []) (bound P (make_of node.mail) _ (λ made. p made.0))

pub shut_first : (P : Note → Type 0) (node : NodeState) → P (notes.Shut node.own) → Begun P (node_shut node)
unfolding node_shut
shut_first P node p = by_test node.is_shut where
  by_test : (b : Bool) → Begun P (cond b (Err errors.Dead) (Ok (acts.Note (notes.Shut node.own) ∷ [], record node { is_shut = true; mail = map downed node.mail; watches = shut_lists node.watches })))
  by_test true = tt
  by_test false = p

-- ---- messages

said_first : (P : Note → Type 0) (node : NodeState) (pair : Pair) (said : Message) → ((index : ℕ) → P (notes.Said (process_id node pair.by) pair.to pair.epoch index said)) → Begun P (say node pair said)
unfolding say
said_first P node pair said p = bound P (growing pair.index) _ (λ index. later P (acts.Note (notes.Said (process_id node pair.by) pair.to pair.epoch index said) ∷ []) (carry (keeping node (with_said pair)) (with_said pair) said (weight_of pair.epoch index)) (p index))

pub send_first : (P : Note → Type 0) (node : NodeState) (by : ℕ) (to : Target) (said : Message) (room : Room) → ((index : ℕ) → P (notes.Said (process_id node (pair_of node.pairs by to).by) (pair_of node.pairs by to).to (pair_of node.pairs by to).epoch index said)) → Begun P (send_of node by to said room)
unfolding send_of
send_first P node by to said room p = bound P (acting node by) _ (λ live. bound P (known node to) _ (λ there. bound P (fitting (payload_of to said)) _ (λ short. bound P (room_to_send node (pair_of node.pairs by to) room) _ (λ roomy. stopped P (say node (pair_of node.pairs by to) said) (said_first P node (pair_of node.pairs by to) said p)))))

pub again_first : (P : Note → Type 0) (node : NodeState) (by : ℕ) (to : Target) → ((epoch : ℕ) → P (notes.Again (process_id node (pair_of node.pairs by to).by) (pair_of node.pairs by to).to epoch)) → Begun P (again_of node by to)
unfolding again_of reconnect
again_first P node by to p = bound P (acting node by) _ (λ live. stopped P (reconnect node (pair_of node.pairs by to)) (bound P (next_epoch (pair_of node.pairs by to)) _ (λ next. p next.epoch)))

pub receive_first : (P : Note → Type 0) (node : NodeState) (by : ℕ) (mark : List ℕ) → ((said : Message) → bytes_eq said.mark mark ≡ true → P (notes.Took (process_id node by) None said)) → Begun P (receive_of node by mark)
unfolding receive_of
receive_first P node by mark p = bound P (acting node by) _ (λ live. by_taken (take_of node.mail by mark) (taken_marked node.mail by mark)) where
  by_taken : (given : Result (Message × List Process) MailError) → TakenMarked mark given → Begun P (mailed given >>= (λ taken. Ok (acts.Note (notes.Took (process_id node by) None taken.0) ∷ [], record node { mail = taken.1 })))
  by_taken (Ok taken) t = p taken.0 t
  by_taken (Err e) t = tt

pub take_first : (P : Note → Type 0) (node : NodeState) (by port : ℕ) → ((said : Message) → P (notes.Took (process_id node by) (Some port) said)) → Begun P (take_port node by port)
unfolding take_port
take_first P node by port p = bound P (acting node by) _ (λ live. bound P (mailed (take_port_of node.mail by port)) _ (λ taken. p taken.0))

pub port_first : (P : Note → Type 0) (node : NodeState) (by : ℕ) → ((n : ℕ) → P (notes.Port (record { process = process_id node by; port = n }))) → Begun P (open_port node by)
unfolding open_port
port_first P node by p = bound P (acting node by) _ (λ live. bound P (mailed (open_port_of node.mail by)) _ (λ opened. p opened.0))

-- ---- ends

over_first : (P : Note → Type 0) (node : NodeState) (by : ℕ) (reason : Reason) → P (notes.Over (process_id node by) reason) → Begun P (over node by reason)
unfolding over farewell
over_first P node by reason p = bound P (or_unchanged node.mail (end_of node.mail by reason)) _ (λ mail.
    later P (farewell node by reason (ended_of node.watches by).0.names) (each_in_turn (λ watch m. tell_end m watch reason) (ended_of node.watches by).0.watches (bereft node mail (ended_of node.watches by).1 by)) p)

pub finish_first : (P : Note → Type 0) (node : NodeState) (by : ℕ) (reason : Reason) → P (notes.Over (process_id node by) reason) → Begun P (finish_of node by reason)
unfolding finish_of
finish_first P node by reason p = bound P (acting node by) _ (λ live. stopped P (over node by reason) (over_first P node by reason p))

pub fall_first : (P : Note → Type 0) (node : NodeState) (by : ℕ) → ((reason : Reason) → P (notes.Over (process_id node by) reason)) → Begun P (fall_of node by)
unfolding fall_of
fall_first P node by p = bound P (falling node by) _ (λ text. stopped P (over node by (reasons.Exception text)) (over_first P node by (reasons.Exception text) (p (reasons.Exception text))))

-- ---- watches and names

pub watch_first : (P : Note → Type 0) (node : NodeState) (by : ℕ) (kind : Kind) (target : ProcessId) (room : Room) → ((n : ℕ) → P (notes.Watch (reference_to node n) (process_id node by) target kind)) → Begun P (watch_by node by kind target room)
unfolding watch_by watch
watch_first P node by kind target room p = bound P (acting node by) _ (λ live. bound P (not_full node target.node room) _ (λ roomy. stopped P (watch node by kind target) (bound P (watch_of node.watches by kind (ends.Process target)) _ (λ opened.
    later P (acts.Note (notes.Watch (reference_to node opened.0) (process_id node by) target kind) ∷ []) (ask (record node { watches = opened.1 }) target.node (watch_message kind (reference_to node opened.0) target)) (p opened.0)))))

pub unwatch_first : (P : Note → Type 0) (node : NodeState) (by : ℕ) (given : Ref) (room : Room) → P (notes.Unwatch given) → Begun P (unwatch_by node by given room)
unfolding unwatch_by
unwatch_first P node by given room p = bound P (acting node by) _ (λ live. bound P (ok_or (watch_under node by given) errors.NoRef) _ (λ waiting. bound P (not_full node (node_of waiting.target) room) _ (λ roomy. bound P (watching (unwatch_of node.watches by given.number)) _ (λ closed.
    stopped P _ (later P (acts.Note (notes.Unwatch given) ∷ []) (ask (record node { watches = closed.1 }) (node_of waiting.target) (unwatch_message waiting.kind given)) p)))))

pub register_first : (P : Note → Type 0) (node : NodeState) (by : ℕ) (name : List ℕ) → P (notes.Named node.own name (Some (process_id node by))) → Begun P (register_by node by name)
unfolding register_by
register_first P node by name p = bound P (acting node by) _ (λ live. bound P (watching (register_of node.watches name by)) _ (λ lists. p))

pub unregister_first : (P : Note → Type 0) (node : NodeState) (by : ℕ) (name : List ℕ) → P (notes.Named node.own name None) → Begun P (unregister_by node by name)
unfolding unregister_by
unregister_first P node by name p = bound P (acting node by) _ (λ live. bound P (watching (unregister_of node.watches name)) _ (λ taken. p))

-- ---- spawns

-- what a spawn at the own node makes, or the question to another
spawned_first : (P : Note → Type 0) (node : NodeState) (question : Ref) (label args : List ℕ) → ((n : ℕ) → P (notes.Made (process_id node n) (Some (origin_of question label)))) → Begun P (spawn_arrives node question label args)
unfolding spawn_arrives
spawned_first P node question label args p = bound P (make_of node.mail) _ (λ made. in_turn P (noting (notes.Made (process_id node made.0) (Some (origin_of question label))) (with_process node made.1 args) and_then (λ n. fail_unlabelled n label made.0)) (λ n. tell_spawned n question (process_id n made.0))
    (in_turn P (noting (notes.Made (process_id node made.0) (Some (origin_of question label))) (with_process node made.1 args)) (λ n. fail_unlabelled n label made.0) (p made.0)))

asked_first : (P : Note → Type 0) (node : NodeState) (lists : Lists) (by n : ℕ) (at : Address) (closure : Closure)
    → (is_here node at ≡ true → (m : ℕ) → P (notes.Made (process_id node m) (Some (origin_of (reference_to node n) closure.label)))) → (is_here node at ≡ false → P (notes.Asked (reference_to node n) (process_id node by) at))
    → Begun P (doing (asked_note node by at (reference_to node n)) (record node { watches = lists }) and_then (λ m. ask m at (messages.Spawn (reference_to node n) closure.label closure.args)))
unfolding ask handle
asked_first P node lists by n at closure here there = by_test (is_here node at) refl where
  next : NodeState
  next = record node { watches = lists }

  said : NodeMessage
  said = messages.Spawn (reference_to node n) closure.label closure.args

  by_test : (b : Bool) → is_here node at ≡ b → Begun P (after (cond b [] (acts.Note (notes.Asked (reference_to node n) (process_id node by) at) ∷ [])) (cond b (handle next said) (tell_node next at said (Counted None))))
  by_test true e = no_more P (spawn_arrives next (reference_to node n) closure.label closure.args) (spawned_first P next (reference_to node n) closure.label closure.args (here e))
  by_test false e = later P (acts.Note (notes.Asked (reference_to node n) (process_id node by) at) ∷ []) (tell_node next at said (Counted None)) (there e)

pub spawn_first : (P : Note → Type 0) (node : NodeState) (by : ℕ) (at : Address) (closure : Closure) (room : Room)
    → (is_here node at ≡ true → (n m : ℕ) → P (notes.Made (process_id node m) (Some (origin_of (reference_to node n) closure.label)))) → (is_here node at ≡ false → (n : ℕ) → P (notes.Asked (reference_to node n) (process_id node by) at))
    → Begun P (spawn_by node by at closure room)
unfolding spawn_by question
spawn_first P node by at closure room here there = bound P (acting node by) _ (λ live. bound P (fitting (spelling.message (messages.Spawn (reference_to node node.watches.next) closure.label closure.args))) _ (λ short. bound P (not_full node at room) _ (λ roomy. stopped P (question node by kinds.Spawn at (λ asked. messages.Spawn asked closure.label closure.args))
    (bound P (watch_of node.watches by kinds.Spawn (ends.Node at)) _ (λ opened. asked_first P node opened.1 by opened.0 at closure (λ e m. here e opened.0 m) (λ e. there e opened.0))))))

-- a question to another node for a name
pub whereis_first : (P : Note → Type 0) (node : NodeState) (by : ℕ) (at : Address) (name : List ℕ) (room : Room) → is_here node at ≡ false → ((n : ℕ) → P (notes.Asked (reference_to node n) (process_id node by) at)) → Begun P (whereis_by node by at name room)
unfolding whereis_by question
whereis_first P node by at name room away p = bound P (acting node by) _ (λ live. bound P (not_full node at room) _ (λ roomy. stopped P (question node by kinds.Ask at (λ asked. messages.WhereIs asked name)) (bound P (watch_of node.watches by kinds.Ask (ends.Node at)) _ (λ opened.
    later P (asked_note node by at (reference_to node opened.0)) (ask (record node { watches = opened.1 }) at (messages.WhereIs (reference_to node opened.0) name))
    (subst (λ b. Begins P (cond b [] (acts.Note (notes.Asked (reference_to node opened.0) (process_id node by) at) ∷ []))) (sym away) (p opened.0))))))
