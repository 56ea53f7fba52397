-- What follows at a cell numbers the messages of each pair of processes.
use Rattle.std.proofs.Common.{◌≡◌, ℕ, zero, suc, ◌+◌, Bool, true, false, cond, not, ◌&&◌, ◌||◌, List, [], ◌∷◌, ◌++◌, Ok, Err, refl, sym, ap, ◌∙◌, subst, ◌==◌}
use Rattle.std.specs.Prelude.{find, Result, Option, Some, None}
use Rattle.ch_base.specs.declared.event.Event.{Event}
use Rattle.ch_base.specs.declared.memory.Stop.{Stop}
use Rattle.ch_model.specs.declared.act.Act.{Act}
use Rattle.ch_model.specs.declared.act.Act.TheVariants as acts
use Rattle.ch_model.specs.declared.command.CommandError.{CommandError}
use Rattle.ch_model.specs.declared.command.CommandError.TheVariants as commands
use Rattle.ch_model.specs.declared.entry.Verdict.{Verdict}
use Rattle.ch_model.specs.declared.entry.Verdict.TheVariants as verdicts
use Rattle.ch_model.specs.declared.local.LocalEntry.{LocalEntry}
use Rattle.ch_model.specs.declared.local.LocalEvent.{LocalEvent}
use Rattle.ch_model.specs.declared.local.LocalEvent.TheVariants as events
use Rattle.ch_model.specs.declared.step.EndError.{EndError}
use Rattle.ch_model.specs.declared.step.EndError.TheVariants as errors
use Rattle.ch_model.specs.declared.step.SocketEvent.TheVariants as sockets
use Rattle.ch_model.specs.declared.step.Step.{Step}
use Rattle.ch_model.specs.declared.step.Step.TheVariants as steps
use Rattle.ch_model.specs.HostState.{HostState}
use Rattle.ch_model.specs.HostSteps.{Stepped}
use Rattle.ch_model.specs.Host.{host_on, host_next}
use Rattle.ch_model.specs.HostCalls.{host_connect, host_send, host_close, host_close_endpoint}
use Rattle.ch_model.specs.NodeState.{NodeState}
use Rattle.ch_model.specs.Node.{node_make, node_command, node_event, node_shut, target_node}
use Rattle.ch_model.specs.WorldState.{Cell}
use Rattle.ch_model.specs.CellSteps.{Followed, after_entries, ◌then◌, is_at, store_node, with_node, asked, acts_on, node_followed, posted, step_on, steps_on, kept_bytes, items_on, all_items}
use Rattle.ch_model.specs.Cell.{Celled, answered, refused, refusal, node_did, at_node, room_for, commanded, closes_after, shut_node, host_did, heard_as, cell_step}
use Rattle.std.proofs.lemmas.Bool.{eqb-true, and_parts}
use Rattle.ch_base.specs.declared.address.Address.{Address}
use Rattle.ch_ident.specs.declared.identifier.ProcessId.{ProcessId}
use Rattle.ch_static.specs.declared.command.Command.{Command}
use Rattle.ch_static.specs.declared.command.Command.TheVariants as requests
use Rattle.ch_static.specs.declared.target.Target.{Target}
use Rattle.ch_static.specs.declared.target.Target.TheVariants as targets
use Rattle.ch_model.specs.declared.local.LocalEntry.TheVariants as local
use Rattle.ch_model.specs.declared.note.Note.{Note}
use Rattle.ch_model.specs.declared.note.Note.TheVariants as notes
use Rattle.ch_model.specs.CellSteps.{told_steps}
use Rattle.ch_model.specs.NodePairs.{same_process, same_target}
use Rattle.ch_laws_items.specs.Stays.{Who, who_is}
use Rattle.ch_laws_items.proofs.Nodes as nodes
use Rattle.ch_laws_log.proofs.Stored.{number_same}
use Rattle.ch_laws_delivery.proofs.Cells.{found_stored}
use Rattle.ch_laws_delivery.proofs.Keys.{process_is}
use Rattle.ch_laws_epochs.specs.Numbers.{stands, stands_at, AreSeated, is_between, after_note, is_next, Numbers, notes_of, notes_in}
use Rattle.ch_laws_epochs.proofs.Calm.{is_silent}
use Rattle.ch_laws_epochs.proofs.Numbered.{Numbered, AllNotes, TellsAll, IsBy, CommandPasses, make_numbered, event_numbered, command_numbered, shut_numbered, make_tells, event_tells, command_tells, shut_tells, command_by, quiet_by}

-- ---- notes, one after another

numbers_both : (by to : ProcessId) (xs ys : List Note) (one two three : ℕ × ℕ) → Numbers by to xs one two → Numbers by to ys two three → Numbers by to (xs ++ ys) one three
numbers_both by to [] ys one two three a b = subst (λ (n : ℕ × ℕ). Numbers by to ys n three) a b
numbers_both by to (note ∷ xs) ys one two three a b = (a.0, numbers_both by to xs ys (after_note by to note one) two three a.1 b)

notes_append : (xs ys : List LocalEntry) → notes_in (xs ++ ys) ≡ notes_in xs ++ notes_in ys
notes_append [] ys = refl
notes_append (local.Note note ∷ xs) ys = ap (λ l. note ∷ l) (notes_append xs ys)
notes_append (local.Step step ∷ xs) ys = notes_append xs ys

no_notes : (done : List Step) → notes_in (told_steps done) ≡ []
no_notes [] = refl
no_notes (step ∷ rest) = no_notes rest

all_both : (P : Note → Type 0) (xs ys : List Note) → AllNotes P xs → AllNotes P ys → AllNotes P (xs ++ ys)
all_both P [] ys a b = b
all_both P (note ∷ xs) ys a b = (a.0, all_both P xs ys a.1 b)

-- notes by processes of another address leave a pair's numbers
numbers_off : (own : Address) (by to : ProcessId) (told : List Note) (one : ℕ × ℕ) → (by.node.id == own.id) ≡ false → AllNotes (IsBy own) told → Numbers by to told one one
numbers_off own by to [] one off a = refl
numbers_off own by to (note ∷ rest) one off a = by_note note a.0 (numbers_off own by to rest one off a.1)
  where
    clash : true ≡ false → ⊥
    clash h = cc

    apart : (sender : ProcessId) (target : Target) → sender.node ≡ own → (b : Bool) → is_between by to sender target ≡ b → is_between by to sender target ≡ false
    apart sender target e false h = h
    apart sender target e true h =
        let is = process_is sender by (and_parts (same_process sender by) (same_target target (targets.Process to)) h).0 in
        absurd (clash (sym (ap (λ (a : Address). a.id == own.id) (sym (ap (λ (p : ProcessId). p.node) is) ∙ e) ∙ number_same own.id) ∙ off))

    by_note : (note : Note) → IsBy own note → Numbers by to rest one one → (is_next by to note one ≡ true) × Numbers by to rest (after_note by to note one) one
    by_note (notes.Said sender target epoch index message) e more = let other = apart sender target e (is_between by to sender target) refl in
        (ap (λ b. not b || (epoch == one.0 && index == one.1)) other, subst (λ (n : ℕ × ℕ). Numbers by to rest n one) (sym (ap (λ b. cond b (one.0, one.1 + 1) one) other)) more)
    by_note (notes.Again sender target epoch) e more = let other = apart sender target e (is_between by to sender target) refl in
        (ap (λ b. not b || epoch == one.0 + 1) other, subst (λ (n : ℕ × ℕ). Numbers by to rest n one) (sym (ap (λ b. cond b (one.0 + 1, 0) one) other)) more)
    by_note note e more = (refl, more)

-- ---- a node that is kept in its place

stored_other : (m end : ℕ) (node : NodeState) (seats : List (ℕ × NodeState)) → (m == end) ≡ false → find (is_at m) (store_node end node seats) ≡ find (is_at m) seats
stored_other m end node [] off = refl
stored_other m end node (known ∷ rest) off = by_test (known.0 == end) refl (stored_other m end node rest off)
  where
    turned : (b : Bool) → (end == m) ≡ b → (end == m) ≡ false
    turned false h = h
    turned true h = absurd (clash (sym (ap (λ (n : ℕ). m == n) (eqb-true end m h) ∙ number_same m) ∙ off))
      where
        clash : true ≡ false → ⊥
        clash h = cc

    by_test : (b : Bool) → (known.0 == end) ≡ b → find (is_at m) (store_node end node rest) ≡ find (is_at m) rest → find (is_at m) (cond b ((end, node) ∷ rest) (known ∷ store_node end node rest)) ≡ cond (known.0 == m) (Some known) (find (is_at m) rest)
    by_test true is ih = ap (λ b. cond b (Some (end, node)) (find (is_at m) rest)) (turned (end == m) refl) ∙ sym (ap (λ b. cond b (Some known) (find (is_at m) rest)) (ap (λ (n : ℕ). n == m) (eqb-true known.0 end is) ∙ turned (end == m) refl))
    by_test false is ih = ap (λ (o : Option (ℕ × NodeState)). cond (known.0 == m) (Some known) o) ih

-- the numbers of a pair by the node that was found
abbrev stands_by : Option (ℕ × NodeState) → ProcessId → ProcessId → ℕ × ℕ
stands_by o by to = elim o as (λ o. ℕ × ℕ) [
  | None ↦ (0, 0)
  | Some node ↦ stands node.1 by to
]

module _ (P : Note → Type 0) (quiet : (note : Note) → is_silent note ≡ true → P note) where
  -- whatever followed, each pair was numbered, and what was told passes
  abbrev pub Follows : Cell → Followed → Type 0
  Follows before (Ok done) = AreSeated before → AreSeated done.1 × ((by to : ProcessId) → Numbers by to (notes_in done.0) (stands_at before by to) (stands_at done.1 by to)) × AllNotes P (notes_in done.0)
  Follows before (Err stop) = Unit {0}

  -- the node makes this of something
  abbrev Fine : {E : Type 0} → NodeState → Result (List Act × NodeState) E → Type 0
  Fine node done = nodes.Stays node done × Numbered node done × TellsAll (IsBy node.own) done × TellsAll P done

  rested : (cell : Cell) → Follows cell (Ok ([], cell))
  rested cell = λ s. (s, (λ by to. refl), tt)

  onto : (cell : Cell) (host : HostState) (done : Followed) → Follows (record cell { host = host }) done → Follows cell done
  onto cell host (Ok done) k = k
  onto cell host (Err stop) k = tt

  chained : (cell : Cell) (done : Followed) (f : Cell → Followed) → Follows cell done → ((next : Cell) → Follows next (f next)) → Follows cell (done then f)
  chained cell (Ok done) f a g = by_more (f done.1) (g done.1)
    where
      by_more : (more : Followed) → Follows done.1 more → Follows cell (after_entries done.0 more)
      by_more (Ok more) b = λ s. let one = a s in let two = b one.0 in (
        two.0,
        (λ by to. subst (λ (l : List Note). Numbers by to l (stands_at cell by to) (stands_at more.1 by to)) (sym (notes_append done.0 more.0)) (numbers_both by to (notes_in done.0) (notes_in more.0) (stands_at cell by to) (stands_at done.1 by to) (stands_at more.1 by to) (one.1 by to) (two.1 by to))),
        subst (λ (l : List Note). AllNotes P l) (sym (notes_append done.0 more.0)) (all_both P (notes_in done.0) (notes_in more.0) one.2 two.2),
      )
      by_more (Err stop) b = tt
  chained cell (Err stop) f a g = tt

  asked_of : (cell : Cell) (done : Result (List Step × HostState) EndError) → Follows cell (asked cell done)
  asked_of cell (Ok done) = λ s. (s, (λ by to. subst (λ (l : List Note). Numbers by to l (stands_at cell by to) (stands_at cell by to)) (sym (no_notes done.0)) refl), subst (λ (l : List Note). AllNotes P l) (sym (no_notes done.0)) tt)
  asked_of cell (Err errors.Worn) = tt
  asked_of cell (Err errors.OutOfMemory) = tt
  asked_of cell (Err errors.NoEndPoint) = rested cell
  asked_of cell (Err errors.NoConnection) = rested cell
  asked_of cell (Err errors.QueueFull) = rested cell
  asked_of cell (Err errors.PayloadLong) = rested cell
  asked_of cell (Err errors.Spent) = rested cell

  -- ---- a node's acts

  -- what the acts tell is told, and the nodes are as they were
  abbrev ActsTell : List Act → Cell → Followed → Type 0
  ActsTell done cell (Ok next) = (notes_in next.0 ≡ notes_of done) × (next.1.nodes ≡ cell.nodes)
  ActsTell done cell (Err stop) = Unit {0}

  asked_tells : (cell : Cell) (done : Result (List Step × HostState) EndError) → ActsTell [] cell (asked cell done)
  asked_tells cell (Ok done) = (no_notes done.0, refl)
  asked_tells cell (Err errors.Worn) = tt
  asked_tells cell (Err errors.OutOfMemory) = tt
  asked_tells cell (Err errors.NoEndPoint) = (refl, refl)
  asked_tells cell (Err errors.NoConnection) = (refl, refl)
  asked_tells cell (Err errors.QueueFull) = (refl, refl)
  asked_tells cell (Err errors.PayloadLong) = (refl, refl)
  asked_tells cell (Err errors.Spent) = (refl, refl)

  one_more : (act rest : List Act) (cell : Cell) (done : Followed) (f : Cell → Followed) → ActsTell act cell done → ((next : Cell) → ActsTell rest next (f next)) → notes_of (act ++ rest) ≡ notes_of act ++ notes_of rest → ActsTell (act ++ rest) cell (done then f)
  one_more act rest cell (Ok done) f a g e = by_more (f done.1) (g done.1)
    where
      by_more : (more : Followed) → ActsTell rest done.1 more → ActsTell (act ++ rest) cell (after_entries done.0 more)
      by_more (Ok more) b = (notes_append done.0 more.0 ∙ ap (λ l. l ++ notes_in more.0) a.0 ∙ ap (λ l. notes_of act ++ l) b.0 ∙ sym e, b.1 ∙ a.1)
      by_more (Err stop) b = tt
  one_more act rest cell (Err stop) f a g e = tt

  acts_tell : (end : ℕ) (done : List Act) (cell : Cell) → ActsTell done cell (acts_on end done cell)
  acts_tell end [] cell = (refl, refl)
  acts_tell end (acts.Note note ∷ rest) cell = one_more (acts.Note note ∷ []) rest cell (Ok (local.Note note ∷ [], cell)) (acts_on end rest) (refl, refl) (acts_tell end rest) refl
  acts_tell end (acts.Open conn peer ∷ rest) cell = one_more (acts.Open conn peer ∷ []) rest cell (asked cell (host_connect cell.host end peer conn)) (acts_on end rest) (asked_tells cell (host_connect cell.host end peer conn)) (acts_tell end rest) refl
  acts_tell end (acts.Put conn payload weight ∷ rest) cell = one_more (acts.Put conn payload weight ∷ []) rest cell (asked cell (host_send cell.host end conn payload weight)) (acts_on end rest) (asked_tells cell (host_send cell.host end conn payload weight)) (acts_tell end rest) refl
  acts_tell end (acts.Close conn ∷ rest) cell = one_more (acts.Close conn ∷ []) rest cell (asked cell (host_close cell.host end conn)) (acts_on end rest) (asked_tells cell (host_close cell.host end conn)) (acts_tell end rest) refl

  -- a node did something, and is kept in its place
  placed : (end : ℕ) (cell : Cell) (there : ℕ × NodeState) (done : List Act × NodeState) → find (is_at end) cell.nodes ≡ Some there
      → (who_is done.1 ≡ who_is there.1) × ((by to : ProcessId) → Numbers by to (notes_of done.0) (stands there.1 by to) (stands done.1 by to)) × AllNotes (IsBy there.1.own) (notes_of done.0) × AllNotes P (notes_of done.0)
      → Follows cell (acts_on end done.0 (with_node end done.1 cell))
  placed end cell there done found fine = by_acts (acts_on end done.0 (with_node end done.1 cell)) (acts_tell end done.0 (with_node end done.1 cell))
    where
      by_acts : (next : Followed) → ActsTell done.0 (with_node end done.1 cell) next → Follows cell next
      by_acts (Err stop) t = tt
      by_acts (Ok next) t = λ s. (seated s, (λ by to. subst (λ (l : List Note). Numbers by to l (stands_at cell by to) (stands_at next.1 by to)) (sym t.0) (numbered s by to (by.node.id == end) refl)), subst (λ (l : List Note). AllNotes P l) (sym t.0) fine.3)
        where
          stored_at : (m : ℕ) → m ≡ end → find (is_at m) next.1.nodes ≡ Some (end, done.1)
          stored_at m e = ap (find (is_at m)) t.1 ∙ ap (λ (n : ℕ). find (is_at n) (store_node end done.1 cell.nodes)) e ∙ found_stored end done.1 cell.nodes there found

          stays_at : (m : ℕ) → (m == end) ≡ false → find (is_at m) next.1.nodes ≡ find (is_at m) cell.nodes
          stays_at m off = ap (find (is_at m)) t.1 ∙ stored_other m end done.1 cell.nodes off

          seated : AreSeated cell → AreSeated next.1
          seated s m node is = by_test (m == end) refl
            where
              by_test : (b : Bool) → (m == end) ≡ b → node.1.own.id ≡ m
              by_test true e =
                  let this : Some node ≡ Some (end, done.1) = sym is ∙ stored_at m (eqb-true m end e) in
                  let same : node ≡ (end, done.1) = cc in
                  ap (λ (n : ℕ × NodeState). n.1.own.id) same ∙ ap (λ (w : Who). w.0.id) fine.0 ∙ s end there found ∙ sym (eqb-true m end e)
              by_test false e = s m node (sym (stays_at m e) ∙ is)

          numbered : AreSeated cell → (by to : ProcessId) (b : Bool) → (by.node.id == end) ≡ b → Numbers by to (notes_of done.0) (stands_at cell by to) (stands_at next.1 by to)
          numbered s by to true e =
              let before = ap (λ (m : ℕ). stands_by (find (is_at m) cell.nodes) by to) (eqb-true by.node.id end e) ∙ ap (λ (o : Option (ℕ × NodeState)). stands_by o by to) found in
              let now = ap (λ (o : Option (ℕ × NodeState)). stands_by o by to) (stored_at by.node.id (eqb-true by.node.id end e)) in
              subst (λ (n : ℕ × ℕ). Numbers by to (notes_of done.0) n (stands_at next.1 by to)) (sym before) (subst (λ (n : ℕ × ℕ). Numbers by to (notes_of done.0) (stands there.1 by to) n) (sym now) (fine.1 by to))
          numbered s by to false e =
              subst (λ (n : ℕ × ℕ). Numbers by to (notes_of done.0) (stands_at cell by to) n) (sym (ap (λ (o : Option (ℕ × NodeState)). stands_by o by to) (stays_at by.node.id e)))
              (numbers_off there.1.own by to (notes_of done.0) (stands_at cell by to) (ap (λ (n : ℕ). by.node.id == n) (s end there found) ∙ e) fine.2)

  -- ---- what a step of the host tells a node

  followed_of : (end : ℕ) (cell : Cell) (there : ℕ × NodeState) (done : Result (List Act × NodeState) Stop) → find (is_at end) cell.nodes ≡ Some there → Fine there.1 done → Follows cell (node_followed end cell done)
  followed_of end cell there (Ok done) found fine = placed end cell there done found fine
  followed_of end cell there (Err stop) found fine = tt

  posted_of : (end : ℕ) (event : Event) (cell : Cell) → Follows cell (posted end event cell)
  posted_of end event cell = by_node (find (is_at end) cell.nodes) refl
    where
      by_node : (o : Option (ℕ × NodeState)) → find (is_at end) cell.nodes ≡ o → Follows cell (elim o as (λ o. Followed) [
        | None ↦ Ok ([], cell)
        | Some node ↦ node_followed end cell (node_event node.1 event)
      ])
      by_node None found = rested cell
      by_node (Some node) found = followed_of end cell node (node_event node.1 event) found (nodes.on_event node.1 event, event_numbered node.1 event, event_tells (IsBy node.1.own) (quiet_by node.1.own) node.1 event, event_tells P quiet node.1 event)

  step_of : (step : Step) (cell : Cell) → Follows cell (step_on step cell)
  step_of (steps.Post end event) cell = posted_of end event cell
  step_of (steps.Dial sock end peer) cell = rested cell
  step_of (steps.Read sock) cell = rested cell
  step_of (steps.Write sock bytes said) cell = rested cell
  step_of (steps.Up sock) cell = rested cell
  step_of (steps.Down sock) cell = rested cell
  step_of (steps.Left sock) cell = rested cell
  step_of (steps.Broke end peer why) cell = rested cell

  steps_of : (done : List Step) (cell : Cell) → Follows cell (steps_on done cell)
  steps_of [] cell = rested cell
  steps_of (step ∷ rest) cell = chained cell (step_on step cell) (steps_on rest) (step_of step cell) (steps_of rest)

  -- the steps of a host, from the cell before them
  steps_from : (cell : Cell) (host : HostState) (done : List Step) → Follows cell (steps_on done (record cell { host = host }))
  steps_from cell host done = onto cell host (steps_on done (record cell { host = host })) (steps_of done (record cell { host = host }))

  -- ---- items

  items_of : (fuel : ℕ) (cell : Cell) → Follows cell (items_on fuel cell)
  items_of zero cell = rested cell
  items_of (suc fuel) cell = by_next (host_next cell.host) (items_of fuel)
    where
      by_some : (o : Option (List Step)) (host : HostState) → ((next : Cell) → Follows next (items_on fuel next)) → Follows cell (elim o as (λ o. Followed) [
        | None ↦ Ok ([], cell)
        | Some done ↦ (steps_on done (record cell { host = host }) then items_on fuel)
      ])
      by_some None host ih = rested cell
      by_some (Some done) host ih = chained cell (steps_on done (record cell { host = host })) (items_on fuel) (steps_from cell host done) ih

      by_next : (next : Result (Option (List Step) × HostState) Stop) → ((c : Cell) → Follows c (items_on fuel c)) → Follows cell (elim next as (λ next. Followed) [
        | Err stop ↦ Err stop
        | Ok next ↦ elim next.0 as (λ o. Followed) [
          | None ↦ Ok ([], cell)
          | Some done ↦ (steps_on done (record cell { host = next.1 }) then items_on fuel)
        ]
      ])
      by_next (Err stop) ih = tt
      by_next (Ok next) ih = by_some next.0 next.1 ih

  all_of : (cell : Cell) → Follows cell (all_items cell)
  all_of cell = items_of (kept_bytes cell.host) cell

  -- ---- one event

  abbrev pub CellTallied : Cell → Celled → Type 0
  CellTallied before (Ok done) = AreSeated before → AreSeated done.1 × ((by to : ProcessId) → Numbers by to (notes_in done.0.1) (stands_at before by to) (stands_at done.1 by to)) × AllNotes P (notes_in done.0.1)
  CellTallied before (Err stop) = Unit {0}

  at_rest : (verdict : Verdict) (cell : Cell) → CellTallied cell (refused verdict cell)
  at_rest verdict cell = λ s. (s, (λ by to. refl), tt)

  answer_of : (verdict : Verdict) (cell : Cell) (done : Followed) → Follows cell done → CellTallied cell (answered verdict done)
  answer_of verdict cell (Ok done) k = k
  answer_of verdict cell (Err stop) k = tt

  refusal_of : (error : CommandError) (cell : Cell) → CellTallied cell (refusal error cell)
  refusal_of commands.OutOfMemory cell = tt
  refusal_of commands.Worn cell = tt
  refusal_of commands.Unknown cell = at_rest verdicts.Unknown cell
  refusal_of commands.Dead cell = at_rest verdicts.Dead cell
  refusal_of commands.Long cell = at_rest verdicts.Long cell
  refusal_of commands.Full cell = at_rest verdicts.Full cell
  refusal_of commands.Spent cell = at_rest verdicts.Spent cell
  refusal_of commands.Taken cell = at_rest verdicts.Taken cell
  refusal_of commands.NoName cell = at_rest verdicts.NoName cell
  refusal_of commands.NoRef cell = at_rest verdicts.NoRef cell
  refusal_of commands.Empty cell = at_rest verdicts.Empty cell
  refusal_of commands.Hale cell = at_rest verdicts.Hale cell

  at_of : (end : ℕ) (cell : Cell) (f : NodeState → Celled) → ((there : ℕ × NodeState) → find (is_at end) cell.nodes ≡ Some there → CellTallied cell (f there.1)) → CellTallied cell (at_node end cell f)
  at_of end cell f k = by_node (find (is_at end) cell.nodes) refl
    where
      by_node : (o : Option (ℕ × NodeState)) → find (is_at end) cell.nodes ≡ o → CellTallied cell (elim o as (λ o. Celled) [
        | None ↦ refused verdicts.Nothing cell
        | Some node ↦ f node.1
      ])
      by_node None found = at_rest verdicts.Nothing cell
      by_node (Some node) found = k node found

  did_of : (end : ℕ) (cell : Cell) (there : ℕ × NodeState) (done : Result (List Act × NodeState) CommandError) → find (is_at end) cell.nodes ≡ Some there → Fine there.1 done → CellTallied cell (node_did end cell done)
  did_of end cell there (Ok done) found fine = answer_of verdicts.Ok cell (acts_on end done.0 (with_node end done.1 cell) then all_items) (chained cell (acts_on end done.0 (with_node end done.1 cell)) all_items (placed end cell there done found fine) all_of)
  did_of end cell there (Err e) found fine = refusal_of e cell

  closed_after : (end : ℕ) (cell : Cell) (done : Result (List Step × HostState) EndError) → Follows cell (closes_after end cell done)
  closed_after end cell (Ok done) = steps_from cell done.1 done.0
  closed_after end cell (Err e) = asked_of cell (Err e)

  shut_of : (end : ℕ) (cell : Cell) (there : ℕ × NodeState) (done : Result (List Act × NodeState) CommandError) → find (is_at end) cell.nodes ≡ Some there → Fine there.1 done → CellTallied cell (shut_node end cell done)
  shut_of end cell there (Ok done) found fine =
      let told : Followed = (acts_on end done.0 (with_node end done.1 cell) then (λ told. closes_after end told (host_close_endpoint told.host end))) in
      answer_of verdicts.Ok cell (told then all_items) (chained cell told all_items (chained cell (acts_on end done.0 (with_node end done.1 cell)) (λ told. closes_after end told (host_close_endpoint told.host end)) (placed end cell there done found fine) (λ next. closed_after end next (host_close_endpoint next.host end))) all_of)
  shut_of end cell there (Err e) found fine = refusal_of e cell

  host_of : (verdict : Verdict) (cell : Cell) (done : Stepped) → CellTallied cell (host_did verdict cell done)
  host_of verdict cell (Ok done) = answer_of verdict cell (steps_on done.0 (record cell { host = done.1 }) then all_items) (chained cell (steps_on done.0 (record cell { host = done.1 })) all_items (steps_from cell done.1 done.0) all_of)
  host_of verdict cell (Err stop) = tt

  -- what a command says passes
  abbrev pub EventPasses : Cell → LocalEvent → Type 0
  EventPasses cell (events.Command end by command) = (there : ℕ × NodeState) → find (is_at end) cell.nodes ≡ Some there → CommandPasses P quiet there.1 by command
  EventPasses cell event = Unit {0}

  pub event_of : (cell : Cell) (event : LocalEvent) → EventPasses cell event → CellTallied cell (cell_step cell event)
  event_of cell (events.Make end) p = at_of end cell (λ node. node_did end cell (node_make node)) (λ there found. did_of end cell there (node_make there.1) found (nodes.on_make there.1, make_numbered there.1, make_tells (IsBy there.1.own) (quiet_by there.1.own) there.1, make_tells P quiet there.1))
  event_of cell (events.Command end by command) p = at_of end cell (commanded end by command cell) (λ there found.
      let room = room_for cell.host end there.1.own (target_node there.1 by command) in
      did_of end cell there (node_command there.1 by command room) found (nodes.on_command there.1 by command room, command_numbered there.1 by command room, command_tells (IsBy there.1.own) (quiet_by there.1.own) there.1 by command room (command_by there.1 by command), command_tells P quiet there.1 by command room (p there found)))
  event_of cell (events.Shut end) p = at_of end cell (λ node. shut_node end cell (node_shut node)) (λ there found. shut_of end cell there (node_shut there.1) found (nodes.on_shut there.1, shut_numbered there.1, shut_tells (IsBy there.1.own) (quiet_by there.1.own) there.1, shut_tells P quiet there.1))
  event_of cell (events.Came mark sock peer_host) p = host_of verdicts.Ok cell (host_on cell.host (sockets.Came sock peer_host))
  event_of cell (events.Socket event) p = host_of (heard_as cell.host event) cell (host_on cell.host event)

-- ---- the same of what is given

-- any note passes
pub any_passes : (cell : Cell) (event : LocalEvent) → EventPasses (λ note. Unit {0}) (λ note s. tt) cell event
any_passes cell (events.Command end by command) = λ there found. of_command there.1 by command
  where
    of_command : (node : NodeState) (by : ℕ) (command : Command) → CommandPasses (λ note. Unit {0}) (λ note s. tt) node by command
    of_command node by (requests.Send to said) = tt
    of_command node by (requests.Again to) = tt
    of_command node by command = tt
any_passes cell (events.Make end) = tt
any_passes cell (events.Shut end) = tt
any_passes cell (events.Came mark sock peer_host) = tt
any_passes cell (events.Socket event) = tt

pub tallied_after : (P : Note → Type 0) (quiet : (note : Note) → is_silent note ≡ true → P note) (cell after : Cell) (event : LocalEvent) (verdict : Verdict) (told : List LocalEntry) → EventPasses P quiet cell event → AreSeated cell → cell_step cell event ≡ Ok ((verdict, told), after)
    → AreSeated after × ((by to : ProcessId) → Numbers by to (notes_in told) (stands_at cell by to) (stands_at after by to)) × AllNotes P (notes_in told)
tallied_after P quiet cell after event verdict told p s e = subst (λ (d : Celled). CellTallied P quiet cell d) e (event_of P quiet cell event p) s
