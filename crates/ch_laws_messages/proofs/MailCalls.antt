-- A turn in which a node does something for a process keeps what stands in mailboxes.
use Rattle.std.proofs.Common.{◌≡◌, inl, inr, ℕ, Bool, true, false, cond, List, [], ◌∷◌, ◌++◌, Ok, Err, refl, sym, ap, ◌∙◌, subst, append_assoc, ◌==◌}
use Rattle.std.proofs.lemmas.Bool.{and_parts}
use Rattle.std.proofs.lemmas.List.{append-nil}
use Rattle.std.specs.Prelude.{find, slice_get, Some, None}
use Rattle.ch_base.specs.declared.event.Room.{Room}
use Rattle.ch_ident.specs.declared.identifier.ProcessId.{ProcessId}
use Rattle.ch_ident.specs.declared.message.Message.{Message}
use Rattle.ch_mail.specs.Mail.{put_of}
use Rattle.ch_static.specs.declared.command.Command.{Command}
use Rattle.ch_static.specs.declared.command.Command.TheVariants as commands
use Rattle.ch_static.specs.declared.target.Target.TheVariants as targets
use Rattle.ch_model.specs.declared.act.Act.{Act}
use Rattle.ch_model.specs.declared.act.Act.TheVariants as acts
use Rattle.ch_model.specs.declared.entry.Entry.{Entry}
use Rattle.ch_model.specs.declared.entry.Entry.TheVariants as entries
use Rattle.ch_model.specs.declared.line.Line.{Line}
use Rattle.ch_model.specs.declared.local.LocalEntry.{LocalEntry}
use Rattle.ch_model.specs.declared.local.LocalEntry.TheVariants as local
use Rattle.ch_model.specs.declared.name.ProcName.{ProcName}
use Rattle.ch_model.specs.declared.name.TargetName.TheVariants as names
use Rattle.ch_model.specs.declared.note.Note.TheVariants as notes
use Rattle.ch_model.specs.CellSteps.{Followed, is_at, store_node, with_node, acts_on}
use Rattle.ch_model.specs.Epochs.{FollowsEpochs, has_next_index}
use Rattle.ch_model.specs.Logs.{each, each_after}
use Rattle.ch_model.specs.Mailboxes.{message_of}
use Rattle.ch_model.specs.Naming.{called, process_called}
use Rattle.ch_model.specs.Node.{node_make, node_command}
use Rattle.ch_model.specs.NodeIds.{process_id, is_here}
use Rattle.ch_model.specs.NodeState.{NodeState}
use Rattle.ch_model.specs.World.{names_of, world_new}
use Rattle.ch_model.specs.WorldHappenings.{with_cell}
use Rattle.ch_model.specs.WorldState.{Cell, World}
use Rattle.ch_laws_items.proofs.Nodes as stays
use Rattle.ch_laws_lives.specs.Cells.{AllReached}
use Rattle.ch_laws_lives.specs.Rolls.{IsReached}
use Rattle.ch_laws_lives.proofs.NodesTold as lives
use Rattle.ch_laws_log.proofs.Keys.{node_is}
use Rattle.ch_laws_many.specs.ManyLines.{AreNamedApart}
use Rattle.ch_laws_many.proofs.Reached.{IsJournal}
use Rattle.ch_laws_one_node.proofs.Appending.{IsTaken}
use Rattle.ch_laws_world.specs.Grows.{homes_of}
use Rattle.ch_laws_calls.specs.Turns.{told_on}
use Rattle.ch_laws_plain_nodes.specs.Does.{pair_between, said_note}
use Rattle.ch_laws_plain_nodes.specs.Plain.{IsPlain, IsPlainCommand}
use Rattle.ch_laws_messages.specs.MailMail.{AllMail, GoesOn, waiting_for}
use Rattle.ch_laws_messages.proofs.MailLogs.{both_true, said_still, said_alone}
use Rattle.ch_laws_messages.proofs.MailMails.{Changes, keeps_same, AllPut, put_changes, TakesFirst, AllTaken, take_changes}
use Rattle.ch_laws_messages.proofs.MailNodes.{AreQuiet, Rests, does_make, TakesFrom, does_take, does_end, does_away, HomeMail, does_home}
use Rattle.ch_laws_messages.proofs.MailTold.{all_silent, acts_quiet}
use Rattle.ch_laws_messages.proofs.MailTurned.{name_of, Turned}
use Rattle.ch_laws_messages.proofs.MailWorlds.{turn_mail, turn_takes}

-- ---- what goes to a node

pub reached_at : (end : ℕ) (nodes : List (ℕ × NodeState)) (node : ℕ × NodeState) → AllReached nodes → find (is_at end) nodes ≡ Some node → IsReached node.1
reached_at end [] node r f = absurd cc
reached_at end (x ∷ xs) node r f = by_test (x.0 == end) f (reached_at end xs node r.1) where
  by_test : (b : Bool) → cond b (Some x) (find (is_at end) xs) ≡ Some node → (find (is_at end) xs ≡ Some node → IsReached node.1) → IsReached node.1
  by_test true f more = let is : x ≡ node = cc in subst (λ (n : ℕ × NodeState). IsReached n.1) is r.0
  by_test false f more = more f

pub reached_stored : (end : ℕ) (node : NodeState) (nodes : List (ℕ × NodeState)) → IsReached node → AllReached nodes → AllReached (store_node end node nodes)
reached_stored end node [] n r = tt
reached_stored end node (x ∷ xs) n r = by_test (x.0 == end) (reached_stored end node xs n r.1) where
  by_test : (b : Bool) → AllReached (store_node end node xs) → AllReached (cond b ((end, node) ∷ xs) (x ∷ store_node end node xs))
  by_test true more = (n, r.1)
  by_test false more = (r.0, more)

-- ---- a test of each entry

pub test_front : (test : List Entry → Entry → Bool) (before front back : List Entry) → each_after test before (front ++ back) ≡ true → each_after test before front ≡ true
test_front test before [] back e = refl
test_front test before (x ∷ front) back e = let parts = and_parts (test before x) (each_after test (before ++ x ∷ []) (front ++ back)) e in
    both_true (test before x) (each_after test (before ++ x ∷ []) front) parts.0 (test_front test (before ++ x ∷ []) front back parts.1)

pub test_at : (test : List Entry → Entry → Bool) (before front : List Entry) (x : Entry) (back : List Entry) → each_after test before (front ++ x ∷ back) ≡ true → test (before ++ front) x ≡ true
test_at test before [] x back e = subst (λ (l : List Entry). test l x ≡ true) (sym (append-nil before)) (and_parts (test before x) (each_after test (before ++ x ∷ []) back) e).0
test_at test before (y ∷ front) x back e = subst (λ (l : List Entry). test l x ≡ true) (append_assoc before (y ∷ []) front) (test_at test (before ++ y ∷ []) front x back (and_parts (test before y) (each_after test (before ++ y ∷ []) (front ++ x ∷ back)) e).1)

-- a message that was said is the one of its pair, epoch and index, where messages are numbered as they come
pub said_once : (front back : List Entry) (p q : ProcName) (e k : ℕ) (message : Message) → each_after has_next_index [] (front ++ entries.Said p (names.Process q) e k message.mark message.body ∷ back) ≡ true
    → message_of (front ++ entries.Said p (names.Process q) e k message.mark message.body ∷ back) p (names.Process q) e k ≡ Some message
said_once front back p q e k message each = ap (λ (l : List Entry). message_of l p (names.Process q) e k) (sym (append_assoc front (said ∷ []) back))
    ∙ said_still (front ++ said ∷ []) back p (names.Process q) e k message (said_alone front p q e k message (test_front has_next_index [] front (said ∷ back) each) (test_at has_next_index [] front said back each)) where
      said : Entry
      said = entries.Said p (names.Process q) e k message.mark message.body

-- ---- a turn

module _ (journal : List Line) (j : IsJournal journal) (named : AreNamedApart (names_of journal)) (world : World) (known_so : world.names ≡ names_of journal) (homes : homes_of world.cells ≡ homes_of (world_new journal).cells) (place : ℕ) (cell : Cell × ℕ) (at : slice_get world.cells place ≡ Some cell) (log : List Entry) (a : AllMail journal log world)
    (end : ℕ) (there : ℕ × NodeState) (found : find (is_at end) cell.0.nodes ≡ Some there) where
  is_reached : IsReached there.1
  is_reached = reached_at end cell.0.nodes there (a.reached place cell at) found

  -- a turn of the node at an endpoint
  pub goes_on : (next : NodeState) (told : List LocalEntry) (after : Cell) → after.nodes ≡ store_node end next cell.0.nodes → next.own ≡ there.1.own → IsReached next → Turned world.names log (told_on place cell after told world).0 there.1 next
      → let done = told_on place cell after told world in GoesOn journal log done.0 done.1
  goes_on next told after nodes own reached t = (
    turn_mail journal j named world known_so homes place cell at log a end there next found told after nodes own (subst AllReached (sym nodes) (reached_stored end next cell.0.nodes reached (a.reached place cell at))) t,
    turn_takes journal j named world known_so homes place cell at log a end there next found told after t,
  )

  -- acts that tell of no mailbox
  pub rests_on : (next : NodeState) (done : List Act) (told : List LocalEntry) (after : Cell) → acts_on end done (with_node end next cell.0) ≡ Ok (told, after) → next.own ≡ there.1.own → IsReached next → Rests there.1 done next
      → let now = told_on place cell after told world in GoesOn journal log now.0 now.1
  rests_on next done told after all own reached r =
      let q = acts_quiet end done (with_node end next cell.0) told after r.quiet all in
      goes_on next told after q.1 own reached (inl (record { silent = all_silent place after told (with_cell place (after, cell.1) world) q.0; mail = r.mail }))

  -- a process is made
  pub make_goes : (next : NodeState) (done : List Act) (told : List LocalEntry) (after : Cell) → node_make there.1 ≡ Ok (done, next) → acts_on end done (with_node end next cell.0) ≡ Ok (told, after) → let now = told_on place cell after told world in GoesOn journal log now.0 now.1
  make_goes next done told after e all = rests_on next done told after all (stays.node_after there.1 next done (node_make there.1) (stays.on_make there.1) e).own (lives.node_lives there.1 next done (node_make there.1) (lives.on_make there.1) is_reached e).reached (does_make there.1 next done e)

  -- ---- a command

  module _ (by : ℕ) (room : Room) (next : NodeState) (done : List Act) (told : List LocalEntry) (after : Cell) (all : acts_on end done (with_node end next cell.0) ≡ Ok (told, after)) (command : Command) (e : node_command there.1 by command room ≡ Ok (done, next)) where
    own_stays : next.own ≡ there.1.own
    own_stays = (stays.node_after there.1 next done (node_command there.1 by command room) (stays.on_command there.1 by command room) e).own

    still_reached : IsReached next
    still_reached = (lives.node_lives there.1 next done (node_command there.1 by command room) (lives.on_command there.1 by command room) is_reached e).reached

    -- what is told of acts that are such notes
    told_so : (done : List Act) (told : List LocalEntry) (after : Cell) (spelled : List LocalEntry) → acts_on end done (with_node end next cell.0) ≡ Ok (spelled, with_node end next cell.0) → acts_on end done (with_node end next cell.0) ≡ Ok (told, after) → (told ≡ spelled) × (after ≡ with_node end next cell.0)
    told_so done told after spelled is all = by_same (sym is ∙ all) where
      told_in : Followed → List LocalEntry
      told_in (Ok x) = x.0
      told_in (Err stop) = []

      cell_in : Followed → Cell
      cell_in (Ok x) = x.1
      cell_in (Err stop) = cell.0

      by_same : ◌≡◌ {A = Followed} (Ok (spelled, with_node end next cell.0)) (Ok (told, after)) → (told ≡ spelled) × (after ≡ with_node end next cell.0)
      by_same same = (sym (ap told_in same), sym (ap cell_in same))

    -- the first message of a mark is taken
    take_goes : (mark : List ℕ) → TakesFrom there.1 by mark done next → let now = told_on place cell after told world in GoesOn journal log now.0 now.1
    take_goes mark (said, did, is) = goes_on next told after (ap (λ (c : Cell). c.nodes) so.1) own_stays still_reached (inr (inr (record {
      number = by;
      message = said;
      rest = first.0;
      split = ap (λ (l : List LocalEntry). (told_on place cell after l world).0) so.0;
      changes = first.1;
      taken = subst (λ (word : List ℕ). IsTaken word (waiting_for (slice_get there.1.mail by)) said first.0) (sym first.2.of_mark) first.2;
    }))) where
      took : Act
      took = acts.Note (notes.Took (process_id there.1 by) None said)

      so : (told ≡ local.Note (notes.Took (process_id there.1 by) None said) ∷ []) × (after ≡ with_node end next cell.0)
      so = told_so (acts.Note (notes.Took (process_id there.1 by) None said) ∷ []) told after (local.Note (notes.Took (process_id there.1 by) None said) ∷ []) refl (subst (λ (d : List Act). acts_on end d (with_node end next cell.0) ≡ Ok (told, after)) did all)

      first : TakesFirst there.1.mail by mark said next.mail
      first = let all : AllTaken there.1.mail by mark (Ok (said, next.mail)) = subst (AllTaken there.1.mail by mark) is (take_changes there.1.mail by mark) in all

    -- a message to a process of the node is there at once
    module _ (to : ProcessId) (said : Message) (here : is_here there.1 to.node ≡ true) (follows : FollowsEpochs (log ++ (told_on place cell after told world).0)) where
      says : Entry
      says = entries.Said (name_of world.names there.1 by) (names.Process (process_called world.names to)) (pair_between there.1 by to).epoch (pair_between there.1 by to).index said.mark said.body

      gets : Entry
      gets = entries.Got (name_of world.names there.1 by) (names.Process (process_called world.names to)) (pair_between there.1 by to).epoch (pair_between there.1 by to).index (Some (process_called world.names to))

      got_goes : done ≡ said_note there.1 by to said ∷ acts.Note (notes.Got (process_id there.1 by) (targets.Process to) (Some to)) ∷ [] → put_of there.1.mail to.counter None said ≡ Ok next.mail → let now = told_on place cell after told world in GoesOn journal log now.0 now.1
      unfolding says gets
      got_goes did put = goes_on next told after (ap (λ (c : Cell). c.nodes) so.1) own_stays still_reached (inr (inl (record {
        number = to.counter;
        before = says ∷ [];
        behind = [];
        from = name_of world.names there.1 by;
        to = process_called world.names to;
        epoch = (pair_between there.1 by to).epoch;
        index = (pair_between there.1 by to).index;
        message = said;
        split = tells ∙ ap (λ own. says ∷ entries.Got (name_of world.names there.1 by) (names.Process (process_called world.names to)) (pair_between there.1 by to).epoch (pair_between there.1 by to).index (Some (record { node = called world.names own; counter = to.counter })) ∷ []) (node_is to.node there.1.own here);
        still_before = (refl, tt);
        still_behind = tt;
        said = said_alone log (name_of world.names there.1 by) (process_called world.names to) (pair_between there.1 by to).epoch (pair_between there.1 by to).index said
            (test_front has_next_index [] log (told_on place cell after told world).0 follows.indexes)
            (test_at has_next_index [] log says (gets ∷ []) (subst (λ (l : List Entry). each_after has_next_index [] (log ++ l) ≡ true) tells follows.indexes));
        changes = changed;
      }))) where
        so : (told ≡ local.Note (notes.Said (process_id there.1 by) (targets.Process to) (pair_between there.1 by to).epoch (pair_between there.1 by to).index said) ∷ local.Note (notes.Got (process_id there.1 by) (targets.Process to) (Some to)) ∷ []) × (after ≡ with_node end next cell.0)
        so = told_so (said_note there.1 by to said ∷ acts.Note (notes.Got (process_id there.1 by) (targets.Process to) (Some to)) ∷ []) told after
            (local.Note (notes.Said (process_id there.1 by) (targets.Process to) (pair_between there.1 by to).epoch (pair_between there.1 by to).index said) ∷ local.Note (notes.Got (process_id there.1 by) (targets.Process to) (Some to)) ∷ []) refl
            (subst (λ (d : List Act). acts_on end d (with_node end next cell.0) ≡ Ok (told, after)) did all)

        tells : (told_on place cell after told world).0 ≡ says ∷ gets ∷ []
        tells = ap (λ (l : List LocalEntry). (told_on place cell after l world).0) so.0

        changed : Changes there.1.mail next.mail to.counter (waiting_for (slice_get there.1.mail to.counter) ++ said ∷ [])
        changed = let all : AllPut there.1.mail to.counter said (Ok next.mail) = subst (AllPut there.1.mail to.counter said) put (put_changes there.1.mail to.counter said) in all

      home_goes : HomeMail there.1 by to said done next → let now = told_on place cell after told world in GoesOn journal log now.0 now.1
      home_goes (inl none) = rests_on next done told after all own_stays still_reached (record { quiet = subst AreQuiet (sym none.0) (refl, tt); mail = keeps_same there.1.mail next.mail none.1 })
      home_goes (inr got) = got_goes got.0 got.1

  -- what a process asks of a plain node
  pub command_goes : (by : ℕ) (command : Command) (room : Room) (next : NodeState) (done : List Act) (told : List LocalEntry) (after : Cell) → IsPlain there.1 → IsPlainCommand command → node_command there.1 by command room ≡ Ok (done, next) → acts_on end done (with_node end next cell.0) ≡ Ok (told, after)
      → let now = told_on place cell after told world in FollowsEpochs (log ++ now.0) → GoesOn journal log now.0 now.1
  command_goes by (commands.Send (targets.Process to) said) room next done told after p c e all follows = by_here (is_here there.1 to.node) refl where
    by_here : (b : Bool) → is_here there.1 to.node ≡ b → let now = told_on place cell after told world in GoesOn journal log now.0 now.1
    by_here true here = home_goes by room next done told after all (commands.Send (targets.Process to) said) e to said here follows (does_home there.1 by to said next room done here e)
    by_here false away = rests_on next done told after all (own_stays by room next done told after all (commands.Send (targets.Process to) said) e) (still_reached by room next done told after all (commands.Send (targets.Process to) said) e) (does_away there.1 next by to said room done away e)
  command_goes by (commands.Receive mark) room next done told after p c e all follows = take_goes by room next done told after all (commands.Receive mark) e mark (does_take there.1 next by mark room done e)
  command_goes by commands.End room next done told after p c e all follows = rests_on next done told after all (own_stays by room next done told after all commands.End e) (still_reached by room next done told after all commands.End e) (does_end there.1 by p next room done e)
  command_goes by command room next done told after p c e all follows = absurd c
