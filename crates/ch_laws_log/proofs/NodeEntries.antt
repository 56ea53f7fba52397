-- What a line asks of a declared node, where it is done, begins with the line's own entry.
use Rattle.std.proofs.Common.{◌≡◌, ℕ, Bool, true, false, ◌&&◌, List, [], ◌∷◌, ◌++◌, Ok, Err, refl, sym, ap, ◌∙◌, subst, ◌==◌, cond, not, ◌||◌}
use Rattle.std.proofs.lemmas.Slice.Eq.{bytes_eq-Decides}
use Rattle.std.proofs.lemmas.Bool.{and_parts}
use Rattle.std.specs.Prelude.{find, slice_get, Result, Option, Some, None}
use Rattle.std.specs.Str.{bytes_eq}
use Rattle.ch_base.specs.declared.address.Address.{Address}
use Rattle.ch_ident.specs.declared.reason.Reason.TheVariants as reasons
use Rattle.ch_static.specs.declared.command.Command.{Command}
use Rattle.ch_static.specs.declared.command.Command.TheVariants as commands
use Rattle.ch_static.specs.declared.target.Target.{Target}
use Rattle.ch_watch.specs.declared.waiting.Kind.TheVariants as kinds
use Rattle.ch_model.specs.declared.act.Act.{Act}
use Rattle.ch_model.specs.declared.act.Act.TheVariants as acts
use Rattle.ch_model.specs.declared.command.CommandError.{CommandError}
use Rattle.ch_model.specs.declared.command.CommandError.TheVariants as errors
use Rattle.ch_model.specs.declared.entry.Entry.{Entry}
use Rattle.ch_model.specs.declared.entry.Verdict.{Verdict}
use Rattle.ch_model.specs.declared.entry.Verdict.TheVariants as verdicts
use Rattle.ch_model.specs.declared.line.Line.{Line}
use Rattle.ch_model.specs.declared.line.What.{What}
use Rattle.ch_model.specs.declared.line.What.TheVariants as lines
use Rattle.ch_model.specs.declared.local.LocalEntry.{LocalEntry}
use Rattle.ch_model.specs.declared.local.LocalEntry.TheVariants as local
use Rattle.ch_model.specs.declared.local.LocalEvent.{LocalEvent}
use Rattle.ch_model.specs.declared.local.LocalEvent.TheVariants as events
use Rattle.ch_model.specs.declared.name.ProcName.{ProcName}
use Rattle.ch_model.specs.declared.name.RefName.{RefName}
use Rattle.ch_model.specs.declared.name.TargetName.{TargetName}
use Rattle.ch_model.specs.declared.name.TargetName.TheVariants as names
use Rattle.ch_model.specs.declared.note.Note.{Note}
use Rattle.ch_model.specs.declared.note.Note.TheVariants as notes
use Rattle.ch_model.specs.declared.step.Place.{Place}
use Rattle.ch_model.specs.AnswersOwn.{is_own, has_own}
use Rattle.ch_model.specs.Cell.{Celled, answered, refused, refusal, node_did, at_node, commanded, room_for, closes_after, shut_node, cell_step}
use Rattle.ch_model.specs.CellSteps.{Followed, after_entries, ◌then◌, is_at, with_node, acts_on, all_items}
use Rattle.ch_model.specs.HostCalls.{host_close_endpoint}
use Rattle.ch_model.specs.Life.{is_live}
use Rattle.ch_model.specs.Logs.{next_is}
use Rattle.ch_model.specs.Naming.{Names, address_as, called, process_as, target_as, reference_as, process_called, target_called}
use Rattle.ch_model.specs.Node.{node_make, node_command, node_shut, target_node}
use Rattle.ch_model.specs.NodeIds.{process_id, is_here}
use Rattle.ch_static.specs.declared.closure.Closure.{Closure}
use Rattle.ch_watch.specs.Same.{same_node}
use Rattle.ch_model.specs.NodePairs.{pair_of}
use Rattle.ch_model.specs.NodeState.{NodeState, Pair}
use Rattle.ch_model.specs.Reasons.{same_reason}
use Rattle.ch_model.specs.Same.{same_process, same_target, node_of}
use Rattle.ch_model.specs.Settle.{Happened}
use Rattle.ch_model.specs.World.{names_of, world_step}
use Rattle.ch_model.specs.WorldHappenings.{Answered, cell_told, cell_hears, with_cell}
use Rattle.ch_model.specs.WorldLines.{node_hears, line_done}
use Rattle.ch_model.specs.WorldSockets.{cell_of}
use Rattle.ch_model.specs.WorldState.{Cell, World}
use Rattle.ch_model.specs.WorldSteps.{note_entry, all_told, local_told}
use Rattle.ch_laws_log.specs.Declared.{AreApart, is_declared, begins_own}
use Rattle.ch_laws_log.proofs.Agreeing.{Good}
use Rattle.ch_laws_log.proofs.Begins.{Begins, Begun, made_first, shut_first, send_first, again_first, receive_first, take_first, port_first, finish_first, fall_first, watch_first, unwatch_first, register_first, unregister_first, spawn_first, whereis_first}
use Rattle.ch_laws_log.proofs.Blocks.{OwnFirst, AnsweredOwn, AllKeep, good_kept}
use Rattle.ch_laws_log.proofs.Homes.{Housed, housed_kept, own_is, called_so, node_self}
use Rattle.ch_laws_log.proofs.Kept.{LedOn}
use Rattle.ch_laws_log.proofs.Keys.{pair_named, node_is}
use Rattle.ch_laws_log.proofs.OwnEntries.{own_told, line_own}
use Rattle.ch_laws_log.proofs.Stored.{bytes_same, number_same}

-- ---- at a cell

-- the first that is told is such a note
abbrev TellsFirst : (Note → Type 0) → List LocalEntry → Type 0
TellsFirst P [] = ⊥
TellsFirst P (local.Note note ∷ rest) = P note
TellsFirst P (local.Step step ∷ rest) = ⊥

abbrev FollowedFirst : (Note → Type 0) → Followed → Type 0
FollowedFirst P (Ok done) = TellsFirst P done.0
FollowedFirst P (Err stop) = Unit {0}

-- so it is of what is done
abbrev FirstAt : (Note → Type 0) → Verdict → List LocalEntry → Type 0
FirstAt P verdicts.Ok told = TellsFirst P told
FirstAt P answer told = Unit {0}

abbrev CelledFirst : (Note → Type 0) → Celled → Type 0
CelledFirst P (Ok done) = FirstAt P done.0.0 done.0.1
CelledFirst P (Err stop) = Unit {0}

more_told : (P : Note → Type 0) (one more : List LocalEntry) → TellsFirst P one → TellsFirst P (one ++ more)
more_told P [] more t = absurd t
more_told P (local.Note note ∷ rest) more t = t
more_told P (local.Step step ∷ rest) more t = absurd t

later_told : (P : Note → Type 0) (one : List LocalEntry) (done : Followed) → TellsFirst P one → FollowedFirst P (after_entries one done)
later_told P one (Ok done) t = more_told P one done.0 t
later_told P one (Err stop) t = tt

then_told : (P : Note → Type 0) (done : Followed) (f : Cell → Followed) → FollowedFirst P done → FollowedFirst P (done then f)
then_told P (Ok done) f t = later_told P done.0 (f done.1) t
then_told P (Err stop) f t = tt

acts_told : (P : Note → Type 0) (end : ℕ) (done : List Act) (cell : Cell) → Begins P done → FollowedFirst P (acts_on end done cell)
acts_told P end [] cell b = absurd b
acts_told P end (acts.Note note ∷ rest) cell b = later_told P (local.Note note ∷ []) (acts_on end rest cell) b
acts_told P end (acts.Open conn peer ∷ rest) cell b = absurd b
acts_told P end (acts.Put conn payload weight ∷ rest) cell b = absurd b
acts_told P end (acts.Close conn ∷ rest) cell b = absurd b

answered_first : (P : Note → Type 0) (done : Followed) → FollowedFirst P done → CelledFirst P (answered verdicts.Ok done)
answered_first P (Ok done) t = t
answered_first P (Err stop) t = tt

refusal_first : (P : Note → Type 0) (e : CommandError) (cell : Cell) → CelledFirst P (refusal e cell)
refusal_first P errors.OutOfMemory cell = tt
refusal_first P errors.Worn cell = tt
refusal_first P e cell = tt

did_first : (P : Note → Type 0) (end : ℕ) (cell : Cell) (done : Result (List Act × NodeState) CommandError) → Begun P done → CelledFirst P (node_did end cell done)
did_first P end cell (Ok done) b = answered_first P (acts_on end done.0 (with_node end done.1 cell) then all_items) (then_told P (acts_on end done.0 (with_node end done.1 cell)) all_items (acts_told P end done.0 (with_node end done.1 cell) b))
did_first P end cell (Err e) b = refusal_first P e cell

is_shut_first : (P : Note → Type 0) (end : ℕ) (cell : Cell) (done : Result (List Act × NodeState) CommandError) → Begun P done → CelledFirst P (shut_node end cell done)
is_shut_first P end cell (Ok done) b =
    let told : Followed = (acts_on end done.0 (with_node end done.1 cell) then (λ told. closes_after end told (host_close_endpoint told.host end))) in
    answered_first P (told then all_items) (then_told P told all_items (then_told P (acts_on end done.0 (with_node end done.1 cell)) (λ told. closes_after end told (host_close_endpoint told.host end)) (acts_told P end done.0 (with_node end done.1 cell) b)))
is_shut_first P end cell (Err e) b = refusal_first P e cell

-- of each node at this address
abbrev OfNodes : Address → (NodeState → Type 0) → Type 0
OfNodes own G = (node : NodeState) → node.own ≡ own → G node

at_first : (P : Note → Type 0) (own : Address) (end : ℕ) (cell : Cell) (f : NodeState → Celled) → ((there : ℕ × NodeState) → find (is_at end) cell.nodes ≡ Some there → there.1.own ≡ own) → OfNodes own (λ node. CelledFirst P (f node)) → CelledFirst P (at_node end cell f)
at_first P own end cell f here k = by_node (find (is_at end) cell.nodes) refl where
  by_node : (o : Option (ℕ × NodeState)) → find (is_at end) cell.nodes ≡ o → CelledFirst P (elim o as (λ o. Celled) [
    | None ↦ refused verdicts.Nothing cell
    | Some node ↦ f node.1
  ])
  by_node None e = tt
  by_node (Some node) e = k node.1 (here node e)

-- ---- in the world

-- the note's entry is the line's own
abbrev IsOwnNote : List Line → List Entry → What → Names → Note → Type 0
IsOwnNote journal log what known note = (last : Option Place) → is_own journal log what (note_entry known last note) ≡ true

told_own : (journal : List Line) (log : List Entry) (what : What) (place : ℕ) (cell : Cell × ℕ) (world : World) (done : Celled) → CelledFirst (IsOwnNote journal log what world.names) done → AnsweredOwn journal log what (cell_told place cell world done)
told_own journal log what place cell world (Err stop) f = tt
told_own journal log what place cell world (Ok done) f = by_verdict done.0.0 done.0.1 f where
  by_told : (told : List LocalEntry) → TellsFirst (IsOwnNote journal log what world.names) told → OwnFirst journal log what verdicts.Ok (all_told place done.1 told (with_cell place (done.1, cell.1) world)).0
  by_told [] t = absurd t
  by_told (local.Note note ∷ rest) t = own_told journal log what verdicts.Ok (note_entry world.names world.last note) (all_told place done.1 rest (local_told place done.1 (local.Note note) (with_cell place (done.1, cell.1) world)).1).0 (t world.last)
  by_told (local.Step step ∷ rest) t = absurd t

  by_verdict : (v : Verdict) (told : List LocalEntry) → FirstAt (IsOwnNote journal log what world.names) v told → OwnFirst journal log what v (all_told place done.1 told (with_cell place (done.1, cell.1) world)).0
  by_verdict verdicts.Ok told t = by_told told t
  by_verdict verdicts.Unknown told t = tt
  by_verdict v told t = tt

-- the node of a name hears an event, and its cell tells the line's own entry first
hears_own : (journal : List Line) (log : List Entry) (what : What) (name : List ℕ) (event : ℕ → LocalEvent) (world : World) → Housed journal world
    → ((cell : Cell) → ((there : ℕ × NodeState) → find (is_at (address_as world.names name).id) cell.nodes ≡ Some there → there.1.own ≡ address_as world.names name) → CelledFirst (IsOwnNote journal log what world.names) (cell_step cell (event (address_as world.names name).id)))
    → AnsweredOwn journal log what (node_hears name event world)
hears_own journal log what name event world h each = by_place (cell_of world own) refl where
  own : Address
  own = address_as world.names name

  by_cell : (place : ℕ) → cell_of world own ≡ Some place → (o : Option (Cell × ℕ)) → slice_get world.cells place ≡ o → AnsweredOwn journal log what (elim o as (λ o. Answered) [
    | None ↦ Ok ((verdicts.Nothing, []), world)
    | Some cell ↦ cell_told place cell world (cell_step cell.0 (event own.id))
  ])
  by_cell place of None at = tt
  by_cell place of (Some cell) at = told_own journal log what place cell world (cell_step cell.0 (event own.id)) (each cell.0 (λ there is. own_is journal world own place cell there h of at is))

  by_place : (o : Option ℕ) → cell_of world own ≡ o → AnsweredOwn journal log what (elim o as (λ o. Answered) [
    | None ↦ Ok ((verdicts.Nothing, []), world)
    | Some place ↦ cell_hears place (event own.id) world
  ])
  by_place None of = tt
  by_place (Some place) of = by_cell place of (slice_get world.cells place) refl

-- ---- names

process_own : (known : Names) (node : NodeState) (p : ProcName) (n : ℕ) → called known node.own ≡ p.node → n ≡ p.counter → same_process (process_called known (process_id node n)) p ≡ true
process_own known node p n at e = ap (λ (x : List ℕ). bytes_eq x p.node && n == p.counter) at ∙ ap (λ b. b && n == p.counter) (bytes_same p.node) ∙ ap (λ m. m == p.counter) e ∙ number_same p.counter

process_back : (known : Names) (q : ProcName) → called known (address_as known q.node) ≡ q.node → same_process (process_called known (process_as known q)) q ≡ true
process_back known q at = ap (λ (x : List ℕ). bytes_eq x q.node && q.counter == q.counter) at ∙ ap (λ b. b && q.counter == q.counter) (bytes_same q.node) ∙ number_same q.counter

target_back : (known : Names) (d : TargetName) → called known (address_as known (node_of d)) ≡ node_of d → same_target (target_called known (target_as known d)) d ≡ true
target_back known (names.Process q) at = process_back known q at
target_back known (names.Port q port) at = ap (λ b. b && port == port) (process_back known q at) ∙ number_same port
target_back known (names.Named node name) at = ap (λ (x : List ℕ). bytes_eq x node && bytes_eq name name) at ∙ ap (λ b. b && bytes_eq name name) (bytes_same node) ∙ bytes_same name

both : (a b : Bool) → a ≡ true → b ≡ true → (a && b) ≡ true
both true b h g = g
both false b h g = h

-- ---- lines

-- a declared name is what its node's address is called
at_name : (journal : List Line) (world : World) (name : List ℕ) → Housed journal world → AreApart (names_of journal) → is_declared (names_of journal) name ≡ true → called world.names (address_as world.names name) ≡ name
at_name journal world name h apart declared = subst (λ (known : Names). called known (address_as known name) ≡ name) (sym h.names) (called_so (names_of journal) name apart declared)

-- a process of a declared node asks something
asks_at : (journal : List Line) (log : List Entry) (what : What) (by : ProcName) (command : Command) (world : World) → Housed journal world
    → ((node : NodeState) → node.own ≡ address_as world.names by.node → (room : _) → Begun (IsOwnNote journal log what world.names) (node_command node by.counter command room))
    → AnsweredOwn journal log what (node_hears by.node (λ end. events.Command end by.counter command) world)
asks_at journal log what by command world h each = hears_own journal log what by.node (λ end. events.Command end by.counter command) world h (λ cell here.
    at_first (IsOwnNote journal log what world.names) (address_as world.names by.node) (address_as world.names by.node).id cell (commanded (address_as world.names by.node).id by.counter command cell) here (λ node own.
    did_first (IsOwnNote journal log what world.names) (address_as world.names by.node).id cell (node_command node by.counter command (room_for cell.host (address_as world.names by.node).id node.own (target_node node by.counter command)))
    (each node own (room_for cell.host (address_as world.names by.node).id node.own (target_node node by.counter command)))))

asks_own : (journal : List Line) (log : List Entry) (what : What) (by : ProcName) (command : Command) (world : World) → Housed journal world → AreApart (names_of journal) → is_declared (names_of journal) by.node ≡ true
    → ((node : NodeState) → called world.names node.own ≡ by.node → (room : _) → Begun (IsOwnNote journal log what world.names) (node_command node by.counter command room))
    → AnsweredOwn journal log what (node_hears by.node (λ end. events.Command end by.counter command) world)
asks_own journal log what by command world h apart declared each = asks_at journal log what by command world h (λ node own room. each node (ap (called world.names) own ∙ at_name journal world by.node h apart declared) room)

sends_own : (journal : List Line) (log : List Entry) (what : What) (by : ProcName) (to : TargetName) (mark body : List ℕ) (world : World) → Housed journal world → AreApart (names_of journal) → (is_declared (names_of journal) by.node && is_declared (names_of journal) (node_of to)) ≡ true
    → ((entry : Entry) → is_own journal log (lines.Send by to mark body) entry ≡ true → is_own journal log what entry ≡ true)
    → AnsweredOwn journal log what (node_hears by.node (λ end. events.Command end by.counter (commands.Send (target_as world.names to) (record { mark = mark; body = body }))) world)
unfolding node_command
sends_own journal log what by to mark body world h apart declared same = asks_own journal log what by (commands.Send (target_as world.names to) (record { mark = mark; body = body })) world h apart parts.0 (λ node at room.
    send_first (IsOwnNote journal log what world.names) node by.counter (target_as world.names to) (record { mark = mark; body = body }) room (λ index last. same _ (own_entry node at index))) where
      parts : (is_declared (names_of journal) by.node ≡ true) × (is_declared (names_of journal) (node_of to) ≡ true)
      parts = and_parts (is_declared (names_of journal) by.node) (is_declared (names_of journal) (node_of to)) declared

      is_said : (a b c d : Bool) → a ≡ true → b ≡ true → c ≡ true → d ≡ true → (a && b && c && d) ≡ true
      is_said true true true true e f g i = refl
      is_said true true true false e f g i = i
      is_said true true false d e f g i = g
      is_said true false c d e f g i = f
      is_said false b c d e f g i = e

      own_entry : (node : NodeState) → called world.names node.own ≡ by.node → (index : ℕ) → is_own journal log (lines.Send by to mark body) (note_entry world.names None (notes.Said (process_id node (pair_of node.pairs by.counter (target_as world.names to)).by) (pair_of node.pairs by.counter (target_as world.names to)).to (pair_of node.pairs by.counter (target_as world.names to)).epoch index (record { mark = mark; body = body }))) ≡ true
      own_entry node at index =
          let pair : Pair = pair_of node.pairs by.counter (target_as world.names to) in
          let is = pair_named node.pairs by.counter (target_as world.names to) in
          is_said (same_process (process_called world.names (process_id node pair.by)) by) (same_target (target_called world.names pair.to) to) (bytes_eq mark mark) (bytes_eq body body)
          (process_own world.names node by pair.by at is.0) (ap (λ (t : Target). same_target (target_called world.names t) to) is.1 ∙ target_back world.names to (at_name journal world (node_of to) h apart parts.1)) (bytes_same mark) (bytes_same body)

reconnects_own : (journal : List Line) (log : List Entry) (by : ProcName) (to : TargetName) (world : World) → Housed journal world → AreApart (names_of journal) → (is_declared (names_of journal) by.node && is_declared (names_of journal) (node_of to)) ≡ true
    → AnsweredOwn journal log (lines.Again by to) (node_hears by.node (λ end. events.Command end by.counter (commands.Again (target_as world.names to))) world)
unfolding node_command
reconnects_own journal log by to world h apart declared = asks_own journal log (lines.Again by to) by (commands.Again (target_as world.names to)) world h apart parts.0 (λ node at room.
    again_first (IsOwnNote journal log (lines.Again by to) world.names) node by.counter (target_as world.names to) (λ epoch last. own_entry node at epoch)) where
      parts : (is_declared (names_of journal) by.node ≡ true) × (is_declared (names_of journal) (node_of to) ≡ true)
      parts = and_parts (is_declared (names_of journal) by.node) (is_declared (names_of journal) (node_of to)) declared

      own_entry : (node : NodeState) → called world.names node.own ≡ by.node → (epoch : ℕ) → is_own journal log (lines.Again by to) (note_entry world.names None (notes.Again (process_id node (pair_of node.pairs by.counter (target_as world.names to)).by) (pair_of node.pairs by.counter (target_as world.names to)).to epoch)) ≡ true
      own_entry node at epoch =
          let pair : Pair = pair_of node.pairs by.counter (target_as world.names to) in
          let is = pair_named node.pairs by.counter (target_as world.names to) in
          both (same_process (process_called world.names (process_id node pair.by)) by) (same_target (target_called world.names pair.to) to)
          (process_own world.names node by pair.by at is.0) (ap (λ (t : Target). same_target (target_called world.names t) to) is.1 ∙ target_back world.names to (at_name journal world (node_of to) h apart parts.1))

makes_own : (journal : List Line) (log : List Entry) (name : List ℕ) (world : World) → Housed journal world → AreApart (names_of journal) → is_declared (names_of journal) name ≡ true → AnsweredOwn journal log (lines.Proc name) (node_hears name (λ end. events.Make end) world)
makes_own journal log name world h apart declared = hears_own journal log (lines.Proc name) name (λ end. events.Make end) world h (λ cell here.
    at_first (IsOwnNote journal log (lines.Proc name) world.names) own own.id cell (λ node. node_did own.id cell (node_make node)) here (λ node is.
    did_first (IsOwnNote journal log (lines.Proc name) world.names) own.id cell (node_make node) (made_first (IsOwnNote journal log (lines.Proc name) world.names) node (λ n last.
    ap (λ (x : List ℕ). bytes_eq x name) (ap (called world.names) is ∙ at_name journal world name h apart declared) ∙ bytes_same name)))) where
      own : Address
      own = address_as world.names name

shuts_own : (journal : List Line) (log : List Entry) (name : List ℕ) (world : World) → Housed journal world → AreApart (names_of journal) → is_declared (names_of journal) name ≡ true → AnsweredOwn journal log (lines.Shut name) (node_hears name (λ end. events.Shut end) world)
shuts_own journal log name world h apart declared = hears_own journal log (lines.Shut name) name (λ end. events.Shut end) world h (λ cell here.
    at_first (IsOwnNote journal log (lines.Shut name) world.names) own own.id cell (λ node. shut_node own.id cell (node_shut node)) here (λ node is.
    is_shut_first (IsOwnNote journal log (lines.Shut name) world.names) own.id cell (node_shut node) (shut_first (IsOwnNote journal log (lines.Shut name) world.names) node (λ last.
    ap (λ (x : List ℕ). bytes_eq x name) (ap (called world.names) is ∙ at_name journal world name h apart declared) ∙ bytes_same name)))) where
      own : Address
      own = address_as world.names name

receives_own : (journal : List Line) (log : List Entry) (by : ProcName) (mark : List ℕ) (world : World) → Housed journal world → AreApart (names_of journal) → is_declared (names_of journal) by.node ≡ true → AnsweredOwn journal log (lines.Recv by mark) (node_hears by.node (λ end. events.Command end by.counter (commands.Receive mark)) world)
unfolding node_command
receives_own journal log by mark world h apart declared = asks_own journal log (lines.Recv by mark) by (commands.Receive mark) world h apart declared (λ node at room.
    receive_first (IsOwnNote journal log (lines.Recv by mark) world.names) node by.counter mark (λ said marked last. both (same_process (process_called world.names (process_id node by.counter)) by) (bytes_eq said.mark mark) (process_own world.names node by by.counter at refl) marked))

takes_own : (journal : List Line) (log : List Entry) (by : ProcName) (port : ℕ) (world : World) → Housed journal world → AreApart (names_of journal) → is_declared (names_of journal) by.node ≡ true → AnsweredOwn journal log (lines.Take by port) (node_hears by.node (λ end. events.Command end by.counter (commands.Take port)) world)
unfolding node_command
takes_own journal log by port world h apart declared = asks_own journal log (lines.Take by port) by (commands.Take port) world h apart declared (λ node at room.
    take_first (IsOwnNote journal log (lines.Take by port) world.names) node by.counter port (λ said last. both (same_process (process_called world.names (process_id node by.counter)) by) (port == port) (process_own world.names node by by.counter at refl) (number_same port)))

opens_own : (journal : List Line) (log : List Entry) (by : ProcName) (world : World) → Housed journal world → AreApart (names_of journal) → is_declared (names_of journal) by.node ≡ true → AnsweredOwn journal log (lines.Port by) (node_hears by.node (λ end. events.Command end by.counter commands.OpenPort) world)
unfolding node_command
opens_own journal log by world h apart declared = asks_own journal log (lines.Port by) by commands.OpenPort world h apart declared (λ node at room.
    port_first (IsOwnNote journal log (lines.Port by) world.names) node by.counter (λ n last. process_own world.names node by by.counter at refl))

reason_same : (text : List ℕ) → same_reason (reasons.Exception text) (reasons.Exception text) ≡ true
reason_same text = bytes_same text

ends_own : (journal : List Line) (log : List Entry) (by : ProcName) (world : World) → Housed journal world → AreApart (names_of journal) → is_declared (names_of journal) by.node ≡ true → AnsweredOwn journal log (lines.End by) (node_hears by.node (λ end. events.Command end by.counter commands.End) world)
unfolding node_command
ends_own journal log by world h apart declared = asks_own journal log (lines.End by) by commands.End world h apart declared (λ node at room.
    finish_first (IsOwnNote journal log (lines.End by) world.names) node by.counter reasons.Normal (λ last. both (same_process (process_called world.names (process_id node by.counter)) by) (same_reason reasons.Normal reasons.Normal) (process_own world.names node by by.counter at refl) refl))

fails_own : (journal : List Line) (log : List Entry) (by : ProcName) (text : List ℕ) (world : World) → Housed journal world → AreApart (names_of journal) → is_declared (names_of journal) by.node ≡ true → AnsweredOwn journal log (lines.Fail by text) (node_hears by.node (λ end. events.Command end by.counter (commands.Fail text)) world)
unfolding node_command
fails_own journal log by text world h apart declared = asks_own journal log (lines.Fail by text) by (commands.Fail text) world h apart declared (λ node at room.
    finish_first (IsOwnNote journal log (lines.Fail by text) world.names) node by.counter (reasons.Exception text) (λ last. both (same_process (process_called world.names (process_id node by.counter)) by) (same_reason (reasons.Exception text) (reasons.Exception text)) (process_own world.names node by by.counter at refl) (reason_same text)))

falls_own : (journal : List Line) (log : List Entry) (by : ProcName) (world : World) → Housed journal world → AreApart (names_of journal) → is_declared (names_of journal) by.node ≡ true → AnsweredOwn journal log (lines.Fall by) (node_hears by.node (λ end. events.Command end by.counter commands.Fall) world)
unfolding node_command
falls_own journal log by world h apart declared = asks_own journal log (lines.Fall by) by commands.Fall world h apart declared (λ node at room.
    fall_first (IsOwnNote journal log (lines.Fall by) world.names) node by.counter (λ reason last. process_own world.names node by by.counter at refl))

watched : (a b c : Bool) → a ≡ true → b ≡ true → c ≡ true → (a && b && c) ≡ true
watched true true true e f g = refl
watched true true false e f g = g
watched true false c e f g = f
watched false b c e f g = e

name_same : (known : Names) (node : NodeState) (x : List ℕ) → called known node.own ≡ x → bytes_eq (called known node.own) x ≡ true
name_same known node x at = ap (λ (y : List ℕ). bytes_eq y x) at ∙ bytes_same x

monitors_own : (journal : List Line) (log : List Entry) (by target : ProcName) (world : World) → Housed journal world → AreApart (names_of journal) → (is_declared (names_of journal) by.node && is_declared (names_of journal) target.node) ≡ true → AnsweredOwn journal log (lines.Monitor by target) (node_hears by.node (λ end. events.Command end by.counter (commands.Monitor (process_as world.names target))) world)
unfolding node_command
monitors_own journal log by target world h apart declared =
    let parts = and_parts (is_declared (names_of journal) by.node) (is_declared (names_of journal) target.node) declared in
    asks_own journal log (lines.Monitor by target) by (commands.Monitor (process_as world.names target)) world h apart parts.0 (λ node at room.
    watch_first (IsOwnNote journal log (lines.Monitor by target) world.names) node by.counter kinds.Monitor (process_as world.names target) room (λ n last.
    watched (bytes_eq (called world.names node.own) by.node) (same_process (process_called world.names (process_id node by.counter)) by) (same_process (process_called world.names (process_as world.names target)) target)
    (name_same world.names node by.node at) (process_own world.names node by by.counter at refl) (process_back world.names target (at_name journal world target.node h apart parts.1))))

links_own : (journal : List Line) (log : List Entry) (by target : ProcName) (world : World) → Housed journal world → AreApart (names_of journal) → (is_declared (names_of journal) by.node && is_declared (names_of journal) target.node) ≡ true → AnsweredOwn journal log (lines.Link by target) (node_hears by.node (λ end. events.Command end by.counter (commands.Link (process_as world.names target))) world)
unfolding node_command
links_own journal log by target world h apart declared =
    let parts = and_parts (is_declared (names_of journal) by.node) (is_declared (names_of journal) target.node) declared in
    asks_own journal log (lines.Link by target) by (commands.Link (process_as world.names target)) world h apart parts.0 (λ node at room.
    watch_first (IsOwnNote journal log (lines.Link by target) world.names) node by.counter kinds.Link (process_as world.names target) room (λ n last.
    watched (bytes_eq (called world.names node.own) by.node) (same_process (process_called world.names (process_id node by.counter)) by) (same_process (process_called world.names (process_as world.names target)) target)
    (name_same world.names node by.node at) (process_own world.names node by by.counter at refl) (process_back world.names target (at_name journal world target.node h apart parts.1))))

unwatches_own : (journal : List Line) (log : List Entry) (by : ProcName) (watch : RefName) (world : World) → Housed journal world → AreApart (names_of journal) → (is_declared (names_of journal) by.node && is_declared (names_of journal) watch.node) ≡ true → AnsweredOwn journal log (lines.Unwatch by watch) (node_hears by.node (λ end. events.Command end by.counter (commands.Unwatch (reference_as world.names watch))) world)
unfolding node_command
unwatches_own journal log by watch world h apart declared =
    let parts = and_parts (is_declared (names_of journal) by.node) (is_declared (names_of journal) watch.node) declared in
    asks_own journal log (lines.Unwatch by watch) by (commands.Unwatch (reference_as world.names watch)) world h apart parts.0 (λ node at room.
    unwatch_first (IsOwnNote journal log (lines.Unwatch by watch) world.names) node by.counter (reference_as world.names watch) room (λ last.
    both (bytes_eq (called world.names (address_as world.names watch.node)) watch.node) (watch.number == watch.number)
    (ap (λ (y : List ℕ). bytes_eq y watch.node) (at_name journal world watch.node h apart parts.1) ∙ bytes_same watch.node) (number_same watch.number)))

registers_own : (journal : List Line) (log : List Entry) (by : ProcName) (name : List ℕ) (world : World) → Housed journal world → AreApart (names_of journal) → is_declared (names_of journal) by.node ≡ true → AnsweredOwn journal log (lines.Register by name) (node_hears by.node (λ end. events.Command end by.counter (commands.Register name)) world)
unfolding node_command
registers_own journal log by name world h apart declared = asks_own journal log (lines.Register by name) by (commands.Register name) world h apart declared (λ node at room.
    register_first (IsOwnNote journal log (lines.Register by name) world.names) node by.counter name (λ last.
    watched (bytes_eq (called world.names node.own) by.node) (bytes_eq name name) (same_process (process_called world.names (process_id node by.counter)) by)
    (name_same world.names node by.node at) (bytes_same name) (process_own world.names node by by.counter at refl)))

unregisters_own : (journal : List Line) (log : List Entry) (by : ProcName) (name : List ℕ) (world : World) → Housed journal world → AreApart (names_of journal) → is_declared (names_of journal) by.node ≡ true → AnsweredOwn journal log (lines.Unregister by name) (node_hears by.node (λ end. events.Command end by.counter (commands.Unregister name)) world)
unfolding node_command
unregisters_own journal log by name world h apart declared = asks_own journal log (lines.Unregister by name) by (commands.Unregister name) world h apart declared (λ node at room.
    unregister_first (IsOwnNote journal log (lines.Unregister by name) world.names) node by.counter name (λ last.
    watched (bytes_eq (called world.names node.own) by.node) (bytes_eq name name) true (name_same world.names node by.node at) (bytes_same name) refl))

-- a spawn at the own node makes a process, and at another asks it
spawns_own : (journal : List Line) (log : List Entry) (by : ProcName) (at label args : List ℕ) (world : World) → Housed journal world → AreApart (names_of journal) → (is_declared (names_of journal) by.node && is_declared (names_of journal) at) ≡ true → AnsweredOwn journal log (lines.Spawn by at label args) (node_hears by.node (λ end. events.Command end by.counter (commands.Spawn (address_as world.names at) (record { label = label; args = args }))) world)
unfolding node_command
spawns_own journal log by at label args world h apart declared = asks_at journal log (lines.Spawn by at label args) by (commands.Spawn (address_as world.names at) closure) world h (λ node is room.
    let own : called world.names node.own ≡ by.node = ap (called world.names) is ∙ at_name journal world by.node h apart parts.0 in
    spawn_first (IsOwnNote journal log (lines.Spawn by at label args) world.names) node by.counter (address_as world.names at) closure room (λ e n m last. made_here node own n m (bytes_eq by.node at) refl e) (λ e n last. asked_there node is own n (bytes_eq by.node at) refl e)) where
      closure : Closure
      closure = record { label = label; args = args }

      parts : (is_declared (names_of journal) by.node ≡ true) × (is_declared (names_of journal) at ≡ true)
      parts = and_parts (is_declared (names_of journal) by.node) (is_declared (names_of journal) at) declared

      back : called world.names (address_as world.names at) ≡ at
      back = at_name journal world at h apart parts.1

      made_here : (node : NodeState) → called world.names node.own ≡ by.node → (n m : ℕ) → (b : Bool) → bytes_eq by.node at ≡ b → is_here node (address_as world.names at) ≡ true
          → cond b (bytes_eq (called world.names node.own) at && bytes_eq (called world.names node.own) at && bytes_eq label label) false ≡ true
      made_here node own n m true same here = let is : called world.names node.own ≡ at = own ∙ (bytes_eq-Decides by.node at).0 same in
          watched (bytes_eq (called world.names node.own) at) (bytes_eq (called world.names node.own) at) (bytes_eq label label) (name_same world.names node at is) (name_same world.names node at is) (bytes_same label)
      made_here node own n m false same here =
          let one : at ≡ by.node = sym back ∙ ap (called world.names) (node_is (address_as world.names at) node.own here) ∙ own in
          let two : bytes_eq by.node at ≡ true = (bytes_eq-Decides by.node at).1 (sym one) in
          absurd cc

      asked_there : (node : NodeState) → node.own ≡ address_as world.names by.node → called world.names node.own ≡ by.node → (n : ℕ) → (b : Bool) → bytes_eq by.node at ≡ b → is_here node (address_as world.names at) ≡ false
          → cond b false (bytes_eq (called world.names node.own) by.node && same_process (process_called world.names (process_id node by.counter)) by && bytes_eq (called world.names (address_as world.names at)) at) ≡ true
      asked_there node is own n false same there = watched (bytes_eq (called world.names node.own) by.node) (same_process (process_called world.names (process_id node by.counter)) by) (bytes_eq (called world.names (address_as world.names at)) at)
          (name_same world.names node by.node own) (process_own world.names node by by.counter own refl) (ap (λ (y : List ℕ). bytes_eq y at) back ∙ bytes_same at)
      asked_there node is own n true same there =
          let here : is_here node (address_as world.names at) ≡ true = ap (same_node (address_as world.names at)) (is ∙ ap (address_as world.names) ((bytes_eq-Decides by.node at).0 same)) ∙ node_self (address_as world.names at) in
          absurd cc

not_true : (b : Bool) → not b ≡ true → b ≡ false
not_true false e = refl
not_true true e = absurd cc

-- a question for a name at another node
asks_where_own : (journal : List Line) (log : List Entry) (by : ProcName) (at name : List ℕ) (world : World) → Housed journal world → AreApart (names_of journal) → (not (bytes_eq by.node at) && is_declared (names_of journal) by.node && is_declared (names_of journal) at) ≡ true → AnsweredOwn journal log (lines.Whereis by at name) (node_hears by.node (λ end. events.Command end by.counter (commands.WhereIs (address_as world.names at) name)) world)
unfolding node_command
asks_where_own journal log by at name world h apart holds = asks_own journal log (lines.Whereis by at name) by (commands.WhereIs (address_as world.names at) name) world h apart parts.0 (λ node own room.
    whereis_first (IsOwnNote journal log (lines.Whereis by at name) world.names) node by.counter (address_as world.names at) name room (away node own (is_here node (address_as world.names at)) refl) (λ n last. asked_there node own n (bytes_eq by.node at) apart_from)) where
      halves : ((not (bytes_eq by.node at) && is_declared (names_of journal) by.node) ≡ true) × (is_declared (names_of journal) at ≡ true)
      halves = and_parts (not (bytes_eq by.node at) && is_declared (names_of journal) by.node) (is_declared (names_of journal) at) holds

      first : (not (bytes_eq by.node at) ≡ true) × (is_declared (names_of journal) by.node ≡ true)
      first = and_parts (not (bytes_eq by.node at)) (is_declared (names_of journal) by.node) halves.0

      parts : (is_declared (names_of journal) by.node ≡ true) × (is_declared (names_of journal) at ≡ true)
      parts = (first.1, halves.1)

      apart_from : bytes_eq by.node at ≡ false
      apart_from = not_true (bytes_eq by.node at) first.0

      back : called world.names (address_as world.names at) ≡ at
      back = at_name journal world at h apart parts.1

      away : (node : NodeState) → called world.names node.own ≡ by.node → (b : Bool) → is_here node (address_as world.names at) ≡ b → b ≡ false
      away node own false e = refl
      away node own true here =
          let one : at ≡ by.node = sym back ∙ ap (called world.names) (node_is (address_as world.names at) node.own here) ∙ own in
          let two : bytes_eq by.node at ≡ true = (bytes_eq-Decides by.node at).1 (sym one) in
          absurd cc

      asked_there : (node : NodeState) → called world.names node.own ≡ by.node → (n : ℕ) → (b : Bool) → b ≡ false
          → cond b false (bytes_eq (called world.names node.own) by.node && same_process (process_called world.names (process_id node by.counter)) by && bytes_eq (called world.names (address_as world.names at)) at) ≡ true
      asked_there node own n false e = watched (bytes_eq (called world.names node.own) by.node) (same_process (process_called world.names (process_id node by.counter)) by) (bytes_eq (called world.names (address_as world.names at)) at)
          (name_same world.names node by.node own) (process_own world.names node by by.counter own refl) (ap (λ (y : List ℕ). bytes_eq y at) back ∙ bytes_same at)
      asked_there node own n true e = absurd cc

-- a line that has no own entry asks for none
none_of_own : (journal : List Line) (log : List Entry) (what : What) (done : Answered) → has_own log what ≡ false → AnsweredOwn journal log what done
none_of_own journal log what (Err stop) e = tt
none_of_own journal log what (Ok done) e = by_verdict done.0.0 where
  by_verdict : (v : Verdict) → OwnFirst journal log what v done.0.1
  by_verdict verdicts.Ok = ap (λ b. not b || next_is (is_own journal log what) done.0.1) e
  by_verdict verdicts.Unknown = tt
  by_verdict v = tt

no_doom_here : (a b : Bool) → not a ≡ true → (a && b) ≡ false
no_doom_here false b e = refl
no_doom_here true b e = absurd cc

pub node_line_own : (journal : List Line) → AreApart (names_of journal) → (log : List Entry) (what : What) (world : World) → begins_own (names_of journal) what ≡ true → Good journal log world × Housed journal world → AnsweredOwn journal log what (line_done what world)
node_line_own journal apart log (lines.Proc node) world of i = makes_own journal log node world i.1 apart of
node_line_own journal apart log (lines.Shut node) world of i = shuts_own journal log node world i.1 apart of
node_line_own journal apart log (lines.Send by to mark body) world of i = sends_own journal log (lines.Send by to mark body) by to mark body world i.1 apart of (λ entry e. e)
node_line_own journal apart log (lines.Nsend by to mark body) world of i = sends_own journal log (lines.Nsend by to mark body) by to mark body world i.1 apart of (λ entry e. e)
node_line_own journal apart log (lines.Again by to) world of i = reconnects_own journal log by to world i.1 apart of
node_line_own journal apart log (lines.Recv by mark) world of i = receives_own journal log by mark world i.1 apart of
node_line_own journal apart log (lines.Port by) world of i = opens_own journal log by world i.1 apart of
node_line_own journal apart log (lines.Take by port) world of i = takes_own journal log by port world i.1 apart of
node_line_own journal apart log (lines.End by) world of i = ends_own journal log by world i.1 apart of
node_line_own journal apart log (lines.Fail by text) world of i = fails_own journal log by text world i.1 apart of
node_line_own journal apart log (lines.Fall by) world of i = falls_own journal log by world i.1 apart of
node_line_own journal apart log (lines.Monitor by target) world of i = monitors_own journal log by target world i.1 apart of
node_line_own journal apart log (lines.Link by target) world of i = links_own journal log by target world i.1 apart of
node_line_own journal apart log (lines.Unwatch by watch) world of i = unwatches_own journal log by watch world i.1 apart of
node_line_own journal apart log (lines.Register by name) world of i = registers_own journal log by name world i.1 apart of
node_line_own journal apart log (lines.Unregister by name) world of i = unregisters_own journal log by name world i.1 apart of
node_line_own journal apart log (lines.Spawn by at label args) world of i = spawns_own journal log by at label args world i.1 apart of
node_line_own journal apart log (lines.Whereis by at name) world of i = asks_where_own journal log by at name world i.1 apart of
node_line_own journal apart log (lines.Exit by target text) world of i = none_of_own journal log (lines.Exit by target text) (line_done (lines.Exit by target text) world) (no_doom_here (bytes_eq by.node target.node) (is_live log target) of)
node_line_own journal apart log (lines.Kill by target text) world of i = none_of_own journal log (lines.Kill by target text) (line_done (lines.Kill by target text) world) (no_doom_here (bytes_eq by.node target.node) (is_live log target) of)
node_line_own journal apart log what world of i = line_own journal log what world of i.0

pub both_kept : (journal : List Line) → AllKeep (λ l w. Good journal l w × Housed journal w)
both_kept journal log world number what i = by_done (world_step world (record { number = number; what = what })) (good_kept journal log world number what i.0) (housed_kept journal log world number what i.1) where
  by_done : (done : Happened) → LedOn (Good journal) log done → LedOn (λ l w. Housed journal w) log done → LedOn (λ l w. Good journal l w × Housed journal w) log done
  by_done (Ok done) g h = (g, h)
  by_done (Err stop) g h = tt
