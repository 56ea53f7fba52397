-- Whatever a node does, what it tells of a pair of processes carries the pair's numbers, and leads to those after it.
use Rattle.std.proofs.Common.{◌≡◌, ℕ, ◌+◌, Bool, true, false, cond, not, ◌&&◌, ◌||◌, List, [], ◌∷◌, map, Ok, Err, refl, sym, ap, ◌∙◌, subst, ◌==◌}
use Rattle.std.proofs.lemmas.Bool.{eqb-true, and_parts}
use Rattle.std.specs.Prelude.{Result, Option, Some, None, option_to_list, nat_lt}
use Rattle.ch_base.specs.declared.address.Address.{Address}
use Rattle.ch_base.specs.declared.event.Event.{Event}
use Rattle.ch_base.specs.declared.event.Room.{Room}
use Rattle.ch_base.specs.declared.memory.Stop.TheVariants as stops
use Rattle.ch_ident.specs.declared.identifier.ProcessId.{ProcessId}
use Rattle.ch_ident.specs.declared.message.Message.{Message}
use Rattle.ch_mail.specs.Mail.{last_u64}
use Rattle.ch_static.specs.declared.command.Command.{Command}
use Rattle.ch_static.specs.declared.command.Command.TheVariants as commands
use Rattle.ch_static.specs.declared.target.Target.{Target}
use Rattle.ch_static.specs.declared.target.Target.TheVariants as targets
use Rattle.ch_watch.specs.Same.{same_node}
use Rattle.ch_model.specs.declared.act.Act.{Act}
use Rattle.ch_model.specs.declared.act.Act.TheVariants as acts
use Rattle.ch_model.specs.declared.note.Note.{Note}
use Rattle.ch_model.specs.declared.note.Note.TheVariants as notes
use Rattle.ch_model.specs.Node.{node_make, node_command, node_event, node_shut}
use Rattle.ch_model.specs.NodeActs.{◌>>=◌, Done, noting, after, ◌and_then◌, stopping, growing}
use Rattle.ch_model.specs.NodeCommands.{send_of, again_of}
use Rattle.ch_model.specs.NodeIds.{process_id, is_own}
use Rattle.ch_model.specs.NodePairs.{same_process, same_target, is_pair, pair_of, with_pair, keeping, next_epoch, conn_of}
use Rattle.ch_model.specs.NodeRoom.{acting, known, fitting, room_to_send}
use Rattle.ch_model.specs.NodeSends.{payload_of, weight_of, carry, with_said, say, reconnect}
use Rattle.ch_model.specs.NodeState.{NodeState, Pair, Unopened}
use Rattle.ch_laws_items.specs.Stays.{Who, who_is}
use Rattle.ch_laws_items.proofs.Nodes as nodes
use Rattle.ch_laws_log.proofs.Stored.{number_same}
use Rattle.ch_laws_delivery.proofs.Keys.{node_self, node_is, process_self, process_is, target_self, target_is, pair_key, pair_named, pair_kept, other_kept}
use Rattle.ch_laws_epochs.specs.Numbers.{numbers_of, pair_stands, stands, is_between, after_note, is_next, Numbers, notes_of}
use Rattle.ch_laws_epochs.proofs.Calm.{is_silent, AreSilent, KeepsNumbers, Calm, carried, on_make, on_command, on_event, on_shut}

-- ---- a message that is said, and a reconnect

-- the first act tells the note, and after it no message is told
abbrev Starts : Note → List Act → Type 0
Starts note [] = ⊥
Starts note (acts.Note first ∷ rest) = (first ≡ note) × AreSilent rest
Starts note (act ∷ rest) = ⊥

-- so it is of what was done, and the pair was put in its place
abbrev Tells : {E : Type 0} → NodeState → Note → Pair → Result (List Act × NodeState) E → Type 0
Tells node note next (Ok done) = Starts note done.0 × KeepsNumbers (with_pair next node.pairs) done.1.pairs
Tells node note next (Err e) = Unit {0}

bound : {A E : Type 0} (node : NodeState) (note : Note) (next : Pair) (given : Result A E) (f : A → Result (List Act × NodeState) E) → ((x : A) → Tells node note next (f x)) → Tells node note next (given >>= f)
bound node note next (Ok x) f k = k x
bound node note next (Err e) f k = tt

stopped : (node : NodeState) (note : Note) (next : Pair) (done : Done) → Tells node note next done → Tells node note next (stopping done)
stopped node note next (Ok done) k = k
stopped node note next (Err stop) k = tt

first_of : (node : NodeState) (note : Note) (next : Pair) (done : Done) → Calm (keeping node next) done → Tells node note next (after (acts.Note note ∷ []) done)
first_of node note next (Ok done) c = ((refl, c.0), c.1)
first_of node note next (Err stop) c = tt

abbrev said_note : NodeState → Pair → Message → Note
said_note node pair said = notes.Said (process_id node pair.by) pair.to pair.epoch pair.index said

is_said : (node : NodeState) (pair : Pair) (said : Message) → Tells node (said_note node pair said) (with_said pair) (say node pair said)
unfolding say growing
is_said node pair said = by_test (nat_lt pair.index last_u64)
  where
    by_test : (b : Bool) → Tells node (said_note node pair said) (with_said pair) (cond b (Ok pair.index) (Err stops.Worn) >>= (λ index.
        noting (notes.Said (process_id node pair.by) pair.to pair.epoch index said) (keeping node (with_said pair)) and_then (λ n. carry n (with_said pair) said (weight_of pair.epoch index))))
    by_test true = first_of node (said_note node pair said) (with_said pair) (carry (keeping node (with_said pair)) (with_said pair) said (weight_of pair.epoch pair.index)) (carried (keeping node (with_said pair)) (with_said pair) said (weight_of pair.epoch pair.index) (pair_kept (with_said pair) node.pairs))
    by_test false = tt

-- the pair in its next epoch
abbrev begun : Pair → Pair
begun pair = record pair { epoch = pair.epoch + 1; index = 0; mark = Unopened }

abbrev again_note : NodeState → Pair → Note
again_note node pair = notes.Again (process_id node pair.by) pair.to (pair.epoch + 1)

reconnected : (node : NodeState) (pair : Pair) → Tells node (again_note node pair) (begun pair) (reconnect node pair)
unfolding reconnect next_epoch growing
reconnected node pair = by_test (nat_lt pair.epoch last_u64)
  where
    closes : (o : Option ℕ) → AreSilent (map (λ conn. acts.Close conn) (option_to_list o))
    closes None = tt
    closes (Some conn) = tt

    by_test : (b : Bool) → Tells node (again_note node pair) (begun pair) ((cond b (Ok pair.epoch) (Err stops.Worn) >>= (λ epoch. Ok (record pair { epoch = epoch + 1; index = 0; mark = Unopened })))
        >>= (λ next. Ok (acts.Note (notes.Again (process_id node pair.by) pair.to next.epoch) ∷ map (λ conn. acts.Close conn) (option_to_list (conn_of pair.mark)), keeping node next)))
    by_test true = ((refl, closes (conn_of pair.mark)), λ by to. refl)
    by_test false = tt

send_tells : (node : NodeState) (by : ℕ) (to : Target) (said : Message) (room : Room) → Tells node (said_note node (pair_of node.pairs by to) said) (with_said (pair_of node.pairs by to)) (send_of node by to said room)
unfolding send_of
send_tells node by to said room =
    let pair : Pair = pair_of node.pairs by to in
    bound node (said_note node pair said) (with_said pair) (acting node by) _ (λ live. bound node (said_note node pair said) (with_said pair) (known node to) _ (λ there.
    bound node (said_note node pair said) (with_said pair) (fitting (payload_of to said)) _ (λ short. bound node (said_note node pair said) (with_said pair) (room_to_send node pair room) _ (λ roomy.
    stopped node (said_note node pair said) (with_said pair) (say node pair said) (is_said node pair said)))))

again_tells : (node : NodeState) (by : ℕ) (to : Target) → Tells node (again_note node (pair_of node.pairs by to)) (begun (pair_of node.pairs by to)) (again_of node by to)
unfolding again_of
again_tells node by to =
    let pair : Pair = pair_of node.pairs by to in
    bound node (again_note node pair) (begun pair) (acting node by) _ (λ live. stopped node (again_note node pair) (begun pair) (reconnect node pair) (reconnected node pair))

-- ---- the processes of a node

own_same : (node next : NodeState) (by : ProcessId) → who_is next ≡ who_is node → is_own next by ≡ is_own node by
unfolding is_own
own_same node next by w = ap (λ (who : Who). same_node by.node who.0 && (by.unique == who.1)) w

own_self : (node : NodeState) (n : ℕ) → is_own node (process_id node n) ≡ true
unfolding is_own
own_self node n = ap (λ b. b && (node.unique == node.unique)) (node_self node.own) ∙ number_same node.unique

pub own_is : (node : NodeState) (by : ProcessId) → is_own node by ≡ true → process_id node by.counter ≡ by
unfolding is_own
own_is node by h =
    let parts = and_parts (same_node by.node node.own) (by.unique == node.unique) h in
    sym (ap (λ (z : Address). record by { node = z }) (node_is by.node node.own parts.0) ∙ ap (λ (z : ℕ). record by { node = node.own; unique = z }) (eqb-true by.unique node.unique parts.1))

stands_same : (node next : NodeState) (by to : ProcessId) → who_is next ≡ who_is node → pair_stands next.pairs by.counter to ≡ pair_stands node.pairs by.counter to → stands next by to ≡ stands node by to
stands_same node next by to w k = ap (λ b. cond b (pair_stands next.pairs by.counter to) (0, 0)) (own_same node next by w) ∙ ap (λ (x : ℕ × ℕ). cond (is_own node by) x (0, 0)) k

-- where the pair was put in its place: it leads from the one to the other, and each other pair stands as before
abbrev Leads : ℕ × ℕ → ℕ × ℕ → ℕ × ℕ → ℕ × ℕ → Bool → Type 0
Leads one two first last true = (first ≡ one) × (last ≡ two)
Leads one two first last false = last ≡ first

leads : (node next : NodeState) (pair put : Pair) (by to : ProcessId) → put.by ≡ pair.by → put.to ≡ pair.to → pair_of node.pairs pair.by pair.to ≡ pair → who_is next ≡ who_is node → KeepsNumbers (with_pair put node.pairs) next.pairs
    → Leads (numbers_of pair) (numbers_of put) (stands node by to) (stands next by to) (is_between by to (process_id node pair.by) pair.to)
leads node next pair put by to same_by same_to there w k = by_test (is_between by to (process_id node pair.by) pair.to) refl
  where
    clash : true ≡ false → ⊥
    clash h = cc

    by_test : (b : Bool) → is_between by to (process_id node pair.by) pair.to ≡ b → Leads (numbers_of pair) (numbers_of put) (stands node by to) (stands next by to) b
    by_test true h =
        let parts = and_parts (same_process (process_id node pair.by) by) (same_target pair.to (targets.Process to)) h in
        let this = sym (process_is (process_id node pair.by) by parts.0) in
        let target = sym (target_is pair.to (targets.Process to) parts.1) in (
          ap (λ (z : ProcessId). stands node z to) this ∙ ap (λ b. cond b (pair_stands node.pairs pair.by to) (0, 0)) (own_self node pair.by) ∙ ap (λ (t : Target). numbers_of (pair_of node.pairs pair.by t)) target ∙ ap numbers_of there,
          ap (λ (z : ProcessId). stands next z to) this ∙ ap (λ b. cond b (pair_stands next.pairs pair.by to) (0, 0)) (own_same node next (process_id node pair.by) w ∙ own_self node pair.by) ∙ k pair.by to
              ∙ ap (λ (t : Target). numbers_of (pair_of (with_pair put node.pairs) pair.by t)) (target ∙ sym same_to) ∙ ap (λ (n : ℕ). numbers_of (pair_of (with_pair put node.pairs) n put.to)) (sym same_by) ∙ ap numbers_of (pair_kept put node.pairs),
        )
    by_test false h = by_own (is_own node by) refl
      where
        other : is_own node by ≡ true → (b : Bool) → is_pair by.counter (targets.Process to) put ≡ b → is_pair by.counter (targets.Process to) put ≡ false
        other own false e = e
        other own true e =
            let key = pair_key by.counter (targets.Process to) put e in
            absurd (clash (sym (ap (λ (z : ProcessId). same_process z by && same_target pair.to (targets.Process to)) (ap (λ (n : ℕ). process_id node n) (sym same_by ∙ key.0) ∙ own_is node by own)
            ∙ ap (λ b. b && same_target pair.to (targets.Process to)) (process_self by) ∙ ap (λ (t : Target). same_target t (targets.Process to)) (sym same_to ∙ key.1) ∙ target_self (targets.Process to)) ∙ h))

        by_own : (b : Bool) → is_own node by ≡ b → stands next by to ≡ stands node by to
        by_own true own = stands_same node next by to w (k by.counter to ∙ ap numbers_of (other_kept put by.counter (targets.Process to) (other own (is_pair by.counter (targets.Process to) put) refl) node.pairs))
        by_own false own = ap (λ b. cond b (pair_stands next.pairs by.counter to) (0, 0)) (own_same node next by w ∙ own) ∙ sym (ap (λ b. cond b (pair_stands node.pairs by.counter to) (0, 0)) own)

-- ---- what is told carries the numbers

one_silent : (by to : ProcessId) (note : Note) (first : ℕ × ℕ) → is_silent note ≡ true → (is_next by to note first ≡ true) × (after_note by to note first ≡ first)
one_silent by to (notes.Said sender target epoch index message) first s = absurd cc
one_silent by to (notes.Again sender target epoch) first s = absurd cc
one_silent by to note first s = (refl, refl)

silent_numbers : (by to : ProcessId) (done : List Act) (first last : ℕ × ℕ) → AreSilent done → last ≡ first → Numbers by to (notes_of done) first last
silent_numbers by to [] first last s e = e
silent_numbers by to (acts.Note note ∷ rest) first last s e =
    let one = one_silent by to note first s.0 in
    (one.0, silent_numbers by to rest (after_note by to note first) last s.1 (e ∙ sym one.1))
silent_numbers by to (acts.Open conn peer ∷ rest) first last s e = silent_numbers by to rest first last s e
silent_numbers by to (acts.Put conn payload weight ∷ rest) first last s e = silent_numbers by to rest first last s e
silent_numbers by to (acts.Close conn ∷ rest) first last s e = silent_numbers by to rest first last s e

-- so it is of whatever was done
abbrev pub Numbered : {E : Type 0} → NodeState → Result (List Act × NodeState) E → Type 0
Numbered node (Ok done) = (by to : ProcessId) → Numbers by to (notes_of done.0) (stands node by to) (stands done.1 by to)
Numbered node (Err e) = Unit {0}

calm : {E : Type 0} (node : NodeState) (done : Result (List Act × NodeState) E) → nodes.Stays node done → Calm node done → Numbered node done
calm node (Ok done) w c = λ by to. silent_numbers by to done.0 (stands node by to) (stands done.1 by to) c.0 (stands_same node done.1 by to w (c.1 by.counter to))
calm node (Err e) w c = tt

-- the note is the next of the pair that was put in its place
abbrev Carries : NodeState → Pair → Pair → Note → Type 0
Carries node pair put note = (by to : ProcessId) (first last : ℕ × ℕ) → Leads (numbers_of pair) (numbers_of put) first last (is_between by to (process_id node pair.by) pair.to) → (is_next by to note first ≡ true) × (last ≡ after_note by to note first)

said_carries : (node : NodeState) (pair : Pair) (said : Message) → Carries node pair (with_said pair) (said_note node pair said)
said_carries node pair said by to first last l = by_test (is_between by to (process_id node pair.by) pair.to) l
  where
    by_test : (b : Bool) → Leads (numbers_of pair) (numbers_of (with_said pair)) first last b → ((not b || (pair.epoch == first.0 && pair.index == first.1)) ≡ true) × (last ≡ cond b (first.0, first.1 + 1) first)
    by_test true l = (ap (λ (n : ℕ × ℕ). pair.epoch == n.0 && pair.index == n.1) l.0 ∙ ap (λ b. b && pair.index == pair.index) (number_same pair.epoch) ∙ number_same pair.index, l.1 ∙ sym (ap (λ (n : ℕ × ℕ). (n.0, n.1 + 1)) l.0))
    by_test false l = (refl, l)

again_carries : (node : NodeState) (pair : Pair) → Carries node pair (begun pair) (again_note node pair)
again_carries node pair by to first last l = by_test (is_between by to (process_id node pair.by) pair.to) l
  where
    by_test : (b : Bool) → Leads (numbers_of pair) (numbers_of (begun pair)) first last b → ((not b || pair.epoch + 1 == first.0 + 1) ≡ true) × (last ≡ cond b (first.0 + 1, 0) first)
    by_test true l = (ap (λ (n : ℕ × ℕ). pair.epoch + 1 == n.0 + 1) l.0 ∙ number_same (pair.epoch + 1), l.1 ∙ sym (ap (λ (n : ℕ × ℕ). (n.0 + 1, 0)) l.0))
    by_test false l = (refl, l)

told : {E : Type 0} (node : NodeState) (pair put : Pair) (note : Note) (done : Result (List Act × NodeState) E) → put.by ≡ pair.by → put.to ≡ pair.to → pair_of node.pairs pair.by pair.to ≡ pair → Carries node pair put note → nodes.Stays node done → Tells node note put done → Numbered node done
told node pair put note (Ok done) same_by same_to there c w t = λ by to. by_acts by to done.0 t.0
  where
    by_acts : (by to : ProcessId) (told : List Act) → Starts note told → Numbers by to (notes_of told) (stands node by to) (stands done.1 by to)
    by_acts by to [] s = absurd s
    by_acts by to (acts.Note first ∷ rest) s =
        let one = c by to (stands node by to) (stands done.1 by to) (leads node done.1 pair put by to same_by same_to there w t.1) in
        subst (λ (n : Note). Numbers by to (n ∷ notes_of rest) (stands node by to) (stands done.1 by to)) (sym s.0) (one.0, silent_numbers by to rest (after_note by to note (stands node by to)) (stands done.1 by to) s.1 one.1)
    by_acts by to (acts.Open conn peer ∷ rest) s = absurd s
    by_acts by to (acts.Put conn payload weight ∷ rest) s = absurd s
    by_acts by to (acts.Close conn ∷ rest) s = absurd s
told node pair put note (Err e) same_by same_to there c w t = tt

-- the pair that is found is the one in its place
found : (pairs : List Pair) (by : ℕ) (to : Target) → pair_of pairs (pair_of pairs by to).by (pair_of pairs by to).to ≡ pair_of pairs by to
found pairs by to = let is = pair_named pairs by to in ap (λ (n : ℕ). pair_of pairs n (pair_of pairs by to).to) is.0 ∙ ap (λ (t : Target). pair_of pairs by t) is.1

-- ---- the calls of a node

pub make_numbered : (node : NodeState) → Numbered node (node_make node)
make_numbered node = calm node (node_make node) (nodes.on_make node) (on_make node)

pub event_numbered : (node : NodeState) (event : Event) → Numbered node (node_event node event)
event_numbered node event = calm node (node_event node event) (nodes.on_event node event) (on_event node event)

pub shut_numbered : (node : NodeState) → Numbered node (node_shut node)
shut_numbered node = calm node (node_shut node) (nodes.on_shut node) (on_shut node)

send_numbered : (node : NodeState) (by : ℕ) (to : Target) (said : Message) (room : Room) → nodes.Stays node (send_of node by to said room) → Numbered node (send_of node by to said room)
send_numbered node by to said room w =
    let pair : Pair = pair_of node.pairs by to in
    told node pair (with_said pair) (said_note node pair said) (send_of node by to said room) refl refl (found node.pairs by to) (said_carries node pair said) w (send_tells node by to said room)

again_numbered : (node : NodeState) (by : ℕ) (to : Target) → nodes.Stays node (again_of node by to) → Numbered node (again_of node by to)
again_numbered node by to w =
    let pair : Pair = pair_of node.pairs by to in
    told node pair (begun pair) (again_note node pair) (again_of node by to) refl refl (found node.pairs by to) (again_carries node pair) w (again_tells node by to)

pub command_numbered : (node : NodeState) (by : ℕ) (command : Command) (room : Room) → Numbered node (node_command node by command room)
unfolding node_command
command_numbered node by (commands.Send to said) room = send_numbered node by to said room (nodes.on_command node by (commands.Send to said) room)
command_numbered node by (commands.Again to) room = again_numbered node by to (nodes.on_command node by (commands.Again to) room)
command_numbered node by command room = calm node (node_command node by command room) (nodes.on_command node by command room) (on_command node by command room refl)

-- ---- the same of what is given

pub numbered_after : {E : Type 0} (node next : NodeState) (done : List Act) (given : Result (List Act × NodeState) E) → Numbered node given → given ≡ Ok (done, next) → (by to : ProcessId) → Numbers by to (notes_of done) (stands node by to) (stands next by to)
numbered_after {E = E} node next done given k e = subst (λ (g : Result (List Act × NodeState) E). Numbered node g) e k

-- ---- which notes are told

abbrev pub AllNotes : (Note → Type 0) → List Note → Type 0
AllNotes P [] = Unit {0}
AllNotes P (note ∷ rest) = P note × AllNotes P rest

abbrev pub TellsAll : {E : Type 0} → (Note → Type 0) → Result (List Act × NodeState) E → Type 0
TellsAll P (Ok done) = AllNotes P (notes_of done.0)
TellsAll P (Err e) = Unit {0}

-- a note that isn't silent is by a process of the address
abbrev pub IsBy : Address → Note → Type 0
IsBy own (notes.Said sender target epoch index message) = sender.node ≡ own
IsBy own (notes.Again sender target epoch) = sender.node ≡ own
IsBy own note = Unit {0}

pub quiet_by : (own : Address) (note : Note) → is_silent note ≡ true → IsBy own note
quiet_by own (notes.Said sender target epoch index message) s = absurd cc
quiet_by own (notes.Again sender target epoch) s = absurd cc
quiet_by own note s = tt

module _ (P : Note → Type 0) (quiet : (note : Note) → is_silent note ≡ true → P note) where
  all_silent : (done : List Act) → AreSilent done → AllNotes P (notes_of done)
  all_silent [] s = tt
  all_silent (acts.Note note ∷ rest) s = (quiet note s.0, all_silent rest s.1)
  all_silent (acts.Open conn peer ∷ rest) s = all_silent rest s
  all_silent (acts.Put conn payload weight ∷ rest) s = all_silent rest s
  all_silent (acts.Close conn ∷ rest) s = all_silent rest s

  of_calm : {E : Type 0} (node : NodeState) (done : Result (List Act × NodeState) E) → Calm node done → TellsAll P done
  of_calm node (Ok done) c = all_silent done.0 c.0
  of_calm node (Err e) c = tt

  of_told : {E : Type 0} (node : NodeState) (note : Note) (next : Pair) (done : Result (List Act × NodeState) E) → P note → Tells node note next done → TellsAll P done
  of_told node note next (Ok done) p t = by_acts done.0 t.0
    where
      by_acts : (told : List Act) → Starts note told → AllNotes P (notes_of told)
      by_acts [] s = absurd s
      by_acts (acts.Note first ∷ rest) s = (subst P (sym s.0) p, all_silent rest s.1)
      by_acts (acts.Open conn peer ∷ rest) s = absurd s
      by_acts (acts.Put conn payload weight ∷ rest) s = absurd s
      by_acts (acts.Close conn ∷ rest) s = absurd s
  of_told node note next (Err e) p t = tt

  pub make_tells : (node : NodeState) → TellsAll P (node_make node)
  make_tells node = of_calm node (node_make node) (on_make node)

  pub event_tells : (node : NodeState) (event : Event) → TellsAll P (node_event node event)
  event_tells node event = of_calm node (node_event node event) (on_event node event)

  pub shut_tells : (node : NodeState) → TellsAll P (node_shut node)
  shut_tells node = of_calm node (node_shut node) (on_shut node)

  -- what a command tells passes, where that passes which it says or reconnects
  abbrev pub CommandPasses : NodeState → ℕ → Command → Type 0
  CommandPasses node by (commands.Send to said) = P (said_note node (pair_of node.pairs by to) said)
  CommandPasses node by (commands.Again to) = P (again_note node (pair_of node.pairs by to))
  CommandPasses node by command = Unit {0}

  pub command_tells : (node : NodeState) (by : ℕ) (command : Command) (room : Room) → CommandPasses node by command → TellsAll P (node_command node by command room)
  unfolding node_command
  command_tells node by (commands.Send to said) room p = of_told node (said_note node (pair_of node.pairs by to) said) (with_said (pair_of node.pairs by to)) (send_of node by to said room) p (send_tells node by to said room)
  command_tells node by (commands.Again to) room p = of_told node (again_note node (pair_of node.pairs by to)) (begun (pair_of node.pairs by to)) (again_of node by to) p (again_tells node by to)
  command_tells node by command room p = of_calm node (node_command node by command room) (on_command node by command room refl)

pub command_by : (node : NodeState) (by : ℕ) (command : Command) → CommandPasses (IsBy node.own) (quiet_by node.own) node by command
command_by node by (commands.Send to said) = refl
command_by node by (commands.Again to) = refl
command_by node by command = tt
