-- A line by which a process takes a message is answered as the log before it shows.
use Rattle.std.proofs.Common.{◌≡◌, ◌≤◌, ◌<◌, ℕ, zero, suc, ◌+◌, Bool, true, false, cond, not, ◌||◌, ◌&&◌, length, List, [], ◌∷◌, drop, Ok, Err, refl, sym, ap, ◌∙◌, subst, arith}
use Rattle.std.proofs.lemmas.Bool.{lt-ltb, le-ltb}
use Rattle.std.proofs.lemmas.List.Quantifiers.{position-Some}
use Rattle.std.proofs.lemmas.Option.{slice_get-map}
use Rattle.std.specs.Option.{option_map}
use Rattle.std.specs.Prelude.{find, count_by, is_some, slice_get, slice_set, position, Result, Option, Some, None}
use Rattle.std.specs.Str.{bytes_eq}
use Rattle.ch_base.specs.declared.address.Address.{Address}
use Rattle.ch_base.specs.declared.event.Room.{Room}
use Rattle.ch_ident.specs.declared.message.Message.{Message}
use Rattle.ch_mail.specs.declared.error.MailError.{MailError}
use Rattle.ch_mail.specs.declared.error.MailError.TheVariants as mails
use Rattle.ch_mail.specs.declared.life.Life.{Life}
use Rattle.ch_mail.specs.declared.life.Life.TheVariants as stages
use Rattle.ch_mail.specs.Lives.{is_live}
use Rattle.ch_mail.specs.Mail as mail
use Rattle.ch_mail.specs.Process.{Process}
use Rattle.ch_mail.specs.Queue.{first_that, first_of_mark}
use Rattle.ch_static.specs.declared.command.Command.TheVariants as commands
use Rattle.ch_model.specs.declared.act.Act.{Act}
use Rattle.ch_model.specs.declared.act.Act.TheVariants as acts
use Rattle.ch_model.specs.declared.command.CommandError.{CommandError}
use Rattle.ch_model.specs.declared.entry.Entry.{Entry}
use Rattle.ch_model.specs.declared.entry.Verdict.{Verdict}
use Rattle.ch_model.specs.declared.entry.Verdict.TheVariants as verdicts
use Rattle.ch_model.specs.declared.line.Line.{Line}
use Rattle.ch_model.specs.declared.line.What.TheVariants as lines
use Rattle.ch_model.specs.declared.local.LocalEvent.TheVariants as events
use Rattle.ch_model.specs.declared.name.ProcName.{ProcName}
use Rattle.ch_model.specs.declared.note.Note.TheVariants as notes
use Rattle.ch_model.specs.Answers.{answer_to}
use Rattle.ch_model.specs.Cell.{Celled, answered, refused, node_did, room_for, commanded, cell_step}
use Rattle.ch_model.specs.CellSteps.{Followed, ◌then◌, is_at, with_node, acts_on, all_items}
use Rattle.ch_model.specs.Life.{is_made, is_over, is_doomed}
use Rattle.ch_model.specs.Mailboxes.{entered, takes_marked, has_marked}
use Rattle.ch_model.specs.Naming.{Names, is_named, or_nobody, address_as, called, process_called}
use Rattle.ch_model.specs.Node.{node_command, target_node}
use Rattle.ch_model.specs.NodeActs.{◌>>=◌, mailed}
use Rattle.ch_model.specs.NodeCommands.{receive_of}
use Rattle.ch_model.specs.NodeIds.{process_id}
use Rattle.ch_model.specs.NodeRoom.{acting, acting_as}
use Rattle.ch_model.specs.NodeState.{NodeState}
use Rattle.ch_model.specs.World.{names_of, nodes_of, first_of_hosts, world_new}
use Rattle.ch_model.specs.WorldHappenings.{Answered, cell_told, cell_hears}
use Rattle.ch_model.specs.WorldLines.{line_done}
use Rattle.ch_model.specs.WorldSockets.{is_host_of, cell_of}
use Rattle.ch_model.specs.WorldState.{Cell, Named, World}
use Rattle.ch_laws_acting.specs.Rolls.{rests_of, roll_of}
use Rattle.ch_laws_acting.proofs.CellRests.{roll_found}
use Rattle.ch_laws_acting.proofs.Ends.{CelledSo}
use Rattle.ch_laws_acting.proofs.LogRests.{answer_or, or_answer}
use Rattle.ch_laws_acting.proofs.ToldRests.{rests_told}
use Rattle.ch_laws_acting.proofs.WorldRests.{Alive}
use Rattle.ch_laws_items.specs.Stays.{seats_of}
use Rattle.ch_laws_items.proofs.Seats.{node_there}
use Rattle.ch_laws_lives.specs.Logs.{AreAllowed}
use Rattle.ch_laws_lives.proofs.Mails.{live_not_over}
use Rattle.ch_laws_log.specs.Declared.{is_declared}
use Rattle.ch_laws_log.proofs.Agreeing.{some_within}
use Rattle.ch_laws_log.proofs.Homes.{own_is, called_so}
use Rattle.ch_laws_many.proofs.Addresses.{called_homed}
use Rattle.ch_laws_many.proofs.Answering.{AnsweredAs}
use Rattle.ch_laws_many.proofs.Awake.{AwakeAt, fresh_awake}
use Rattle.ch_laws_many.proofs.Reached.{IsJournal, AreOpen, named}
use Rattle.ch_laws_one_node.proofs.Appending.{bodies, HasTaken, has_taken}
use Rattle.ch_laws_plain.proofs.AsksPlaces.{housed}
use Rattle.ch_laws_world.proofs.Journals.{address_stays}
use Rattle.ch_laws_messages.specs.MailGiven.{Given}
use Rattle.ch_laws_messages.specs.MailMail.{MarkStands, AllMail, waiting_for, is_gone}
use Rattle.ch_laws_messages.proofs.MailLogs.{none_below, bodies_are}
use Rattle.ch_laws_messages.proofs.MailPlaces.{seated_as}

-- ---- whether something waits, by the log

none_left : {A : Type 0} (n : ℕ) (xs : List A) → drop n xs ≡ [] → length xs ≤ n
none_left n [] e = least n where
  least : (n : ℕ) → 0 ≤ n
  least n = omega arith
none_left zero (x ∷ xs) e = absurd cc
none_left (suc n) (x ∷ xs) e = up (length xs) n (none_left n xs e) where
  up : (i j : ℕ) → i ≤ j → suc i ≤ suc j
  up i j h = omega arith

waits_so : (journal : List Line) (log : List Entry) (p : ProcName) (word : List ℕ) (messages : List Message) (o : Option (Message × List Message)) → HasTaken word messages o → MarkStands journal log p word messages → has_marked journal log p word ≡ is_some o
waits_so journal log p word messages None none m = le-ltb (count_by (takes_marked p word) log) (length (entered journal log p word)) (none_left (count_by (takes_marked p word) log) (entered journal log p word) (sym m.left ∙ sym (bodies_are word messages) ∙ none))
waits_so journal log p word messages (Some taken) is m = lt-ltb (count_by (takes_marked p word) log) (length (entered journal log p word)) (below (count_by (takes_marked p word) log) (length (entered journal log p word)) there.2) where
  below : (i j : ℕ) → i + 1 ≤ j → i < j
  below i j h = omega arith

  there : (slice_get (entered journal log p word) (count_by (takes_marked p word) log) ≡ Some taken.0.body) × (drop (count_by (takes_marked p word) log + 1) (entered journal log p word) ≡ bodies word taken.1) × (count_by (takes_marked p word) log + 1 ≤ length (entered journal log p word))
  there = none_below (entered journal log p word) (count_by (takes_marked p word) log) taken.0.body (bodies word taken.1) (sym m.left ∙ sym (bodies_are word messages) ∙ is.first)

-- ---- what a node answers

-- the answer of a process that acts, by whether a message of the mark waits
abbrev pub taken_as : Bool → Verdict
taken_as waits = cond waits verdicts.Ok verdicts.Empty

module _ (end : ℕ) (cell : Cell) (node : NodeState) (by : ℕ) (mark : List ℕ) (waits : Bool) where
  followed : (done : Followed) → verdicts.Ok ≡ taken_as waits → CelledSo (λ verdict. verdict ≡ taken_as waits) (answered verdicts.Ok done)
  followed (Ok done) e = e
  followed (Err stop) e = tt

  abbrev took : Process → Message × List Message → Result (Message × Process) MailError
  took process taken = Ok (taken.0, record process { mailbox = taken.1 })

  abbrev set_at : Message × Process → Result (Message × List Process) MailError
  set_at taken = Ok (taken.0, slice_set node.mail by taken.1)

  abbrev tells : Message × List Process → Result (List Act × NodeState) CommandError
  tells taken = Ok (acts.Note (notes.Took (process_id node by) None taken.0) ∷ [], record node { mail = taken.1 })

  abbrev Answers : Option Bool → Result (List Act × NodeState) CommandError → Type 0
  Answers o done = CelledSo (λ verdict. verdict ≡ answer_or (taken_as waits) o) (node_did end cell done)

  by_first : (process : Process) (o : Option (Message × List Message)) → is_some o ≡ waits → Answers (Some false) (mailed (mail.◌>>=◌ (mail.◌>>=◌ (mail.there_or mails.Empty o) (took process)) set_at) >>= tells)
  by_first process None e = ap taken_as e
  by_first process (Some taken) e = followed (acts_on end (acts.Note (notes.Took (process_id node by) None taken.0) ∷ []) (with_node end (record node { mail = slice_set node.mail by (record process { mailbox = taken.1 }) }) cell) then all_items) (ap taken_as e)

  by_life : (process : Process) (life : Life) → (is_live life ≡ true → is_some (first_that (λ message. bytes_eq message.mark mark) process.mailbox) ≡ waits)
      → Answers (Some (not (is_live life))) (acting_as (Some life) >>= (λ live. mailed (mail.◌>>=◌ (cond (is_live life) (mail.◌>>=◌ (mail.there_or mails.Empty (first_that (λ message. bytes_eq message.mark mark) process.mailbox)) (took process)) (Err mails.NotLive)) set_at) >>= tells))
  by_life process stages.Live e = by_first process (first_that (λ message. bytes_eq message.mark mark) process.mailbox) (e refl)
  by_life process (stages.Doomed text) e = refl
  by_life process (stages.Over reason) e = refl

  by_get : (o : Option Process) → ((process : Process) → o ≡ Some process → is_live process.life ≡ true → is_some (first_that (λ message. bytes_eq message.mark mark) process.mailbox) ≡ waits)
      → Answers (option_map (λ (process : Process). not (is_live process.life)) o) (acting_as (option_map (λ (process : Process). process.life) o) >>= (λ live. mailed (mail.◌>>=◌ (mail.there_or mails.NotLive o) (λ process. mail.◌>>=◌ (mail.taken_from process mark) set_at)) >>= tells))
  unfolding mail.taken_from first_of_mark
  by_get None e = refl
  by_get (Some process) e = by_life process process.life (e process refl)

  pub take_answer : (room : Room) → ((process : Process) → slice_get node.mail by ≡ Some process → is_live process.life ≡ true → is_some (first_that (λ message. bytes_eq message.mark mark) process.mailbox) ≡ waits)
      → CelledSo (λ verdict. verdict ≡ answer_or (taken_as waits) (slice_get (rests_of node.mail) by)) (node_did end cell (node_command node by (commands.Receive mark) room))
  unfolding node_command receive_of acting mail.life_of mail.take_of
  take_answer room e = subst (λ (o : Option Bool). Answers o (receive_of node by mark)) (sym (slice_get-map (λ (p : Process). not (is_live p.life)) node.mail by)) (by_get (slice_get node.mail by) e)

-- ---- the node of a declared name

-- it stands somewhere, and is of that address
pub record Stands (world : World) (own : Address) : Type 0 where
  pub place : ℕ
  pub cell : Cell × ℕ
  pub there : ℕ × NodeState
  pub of : cell_of world own ≡ Some place
  pub at : slice_get world.cells place ≡ Some cell
  pub found : find (is_at own.id) cell.0.nodes ≡ Some there

placed_within : {X : Type 0} (p : X → Bool) (xs : List X) (i : ℕ) → position p xs ≡ Some i → i < length xs
placed_within p [] i e = absurd cc
placed_within p (x ∷ xs) i e = (position-Some p (x ∷ xs) i x e).0

module _ (journal : List Line) (j : IsJournal journal) (log : List Entry) (world : World) (g : Given journal log world) where
  names : world.names ≡ names_of journal
  names = g.sound.ends.set.names

  by_cell : (d : Named) (name : List ℕ) (place : ℕ) → find (is_named name) (names_of journal) ≡ Some d → cell_of world d.address ≡ Some place → (o : Option (Cell × ℕ)) → slice_get world.cells place ≡ o → is_some o ≡ true → Stands world d.address
  by_cell d name place found of None at some = absurd cc
  by_cell d name place found of (Some cell) at some = by_node (find (is_at d.address.id) was.0.0.nodes) refl (awake was.0 was.1) where
    was : (now : Cell × ℕ) × (slice_get (world_new journal).cells place ≡ Some now) × (seats_of now.0.nodes ≡ seats_of cell.0.nodes)
    was = seated_as world.cells (world_new journal).cells place cell g.sound.ends.homes at

    awake : AwakeAt (world_new journal).cells place d.address.id
    awake = fresh_awake journal (named journal j) name d place found (sym (address_stays d.address (world_new journal) world g.sound.ends.homes) ∙ of)

    by_node : (o : Option (ℕ × NodeState)) → find (is_at d.address.id) was.0.0.nodes ≡ o → option_map (λ (n : ℕ × NodeState). n.1.is_shut) o ≡ Some false → Stands world d.address
    by_node None f e = absurd cc
    by_node (Some node) f e = let there = node_there d.address.id node was.0.0.nodes cell.0.nodes (sym was.2) f in record { place = place; cell = cell; there = there.0; of = of; at = at; found = there.1 }

  by_place : (d : Named) (name : List ℕ) → find (is_named name) (names_of journal) ≡ Some d → (o : Option ℕ) → cell_of world d.address ≡ o → is_some o ≡ true → Stands world d.address
  by_place d name found None of some = absurd cc
  by_place d name found (Some place) of some = by_cell d name place found of (slice_get world.cells place) refl (some_within world.cells place (placed_within (is_host_of d.address) world.cells place of))

  by_named : (name : List ℕ) (o : Option Named) → find (is_named name) (names_of journal) ≡ o → is_some o ≡ true → Stands world (or_nobody o).address
  by_named name None found some = absurd cc
  by_named name (Some d) found some = by_place d name found (cell_of world d.address) refl (called_homed world (names_of journal) d.address (named journal j) g.sound.ends.set.homed
      (ap (is_declared (names_of journal)) (ap (λ (o : Option Named). called (names_of journal) (or_nobody o).address) (sym found) ∙ called_so (names_of journal) name j.apart (ap is_some found ∙ some)) ∙ ap is_some found ∙ some))

  pub stands_named : (name : List ℕ) → is_declared (names_of journal) name ≡ true → Stands world (address_as (names_of journal) name)
  stands_named name declared = by_named name (find (is_named name) (names_of journal)) refl declared

  -- ---- the answer to a line

  live_answer : (b : Bool) → taken_as b ≡ cond (not b) verdicts.Empty verdicts.Ok
  live_answer true = refl
  live_answer false = refl

  module _ (a : AllMail journal log world) (r : Alive (names_of journal) (first_of_hosts [] (nodes_of journal)) log world) (allowed : AreAllowed [] log) (open_still : AreOpen log) (by : ProcName) (mark : List ℕ) (declared : is_declared (names_of journal) by.node ≡ true) where
    waits : Bool
    waits = has_marked journal log by mark

    so_shown : (verdict : Verdict) → verdict ≡ answer_or (taken_as (has_marked journal log by mark)) (slice_get (rests_told by.node log) by.counter) → verdict ≡ answer_to journal log (lines.Recv by mark)
    so_shown verdict e = e ∙ sym (or_answer log by (taken_as (has_marked journal log by mark)) allowed open_still)
        ∙ ap (λ (v : Verdict). cond (not (is_made log by)) verdicts.Unknown (cond (is_over log by || is_doomed log by && true) verdicts.Dead v)) (live_answer (has_marked journal log by mark))

    told_so : (place : ℕ) (cell : Cell × ℕ) (done : Celled) → CelledSo (λ verdict. verdict ≡ answer_to journal log (lines.Recv by mark)) done → AnsweredAs journal log (lines.Recv by mark) (cell_told place cell world done)
    told_so place cell (Ok done) c = c
    told_so place cell (Err stop) c = tt

    celled_as : (P Q : Verdict → Type 0) (done : Celled) → ((verdict : Verdict) → P verdict → Q verdict) → CelledSo P done → CelledSo Q done
    celled_as P Q (Ok done) f c = f done.0.0 c
    celled_as P Q (Err stop) f c = tt

    abbrev own : Address
    own = address_as (names_of journal) by.node

    module _ (s : Stands world (address_as (names_of journal) by.node)) where
      own_so : s.there.1.own ≡ address_as (names_of journal) by.node
      own_so = own_is journal world own s.place s.cell s.there (housed journal log world g.sound) s.of s.at s.found

      name_so : process_called world.names (process_id s.there.1 by.counter) ≡ by
      name_so = ap (λ (k : Names). process_called k (process_id s.there.1 by.counter)) names ∙ ap (λ (at : Address). record by { node = called (names_of journal) at }) own_so ∙ ap (λ (n : List ℕ). record by { node = n }) (called_so (names_of journal) by.node j.apart declared)

      rests_so : rests_of s.there.1.mail ≡ rests_told by.node log
      rests_so = r.agrees s.place s.cell s.at own.id (roll_of s.there.1) (roll_found own.id s.cell.0.nodes s.there s.found)
          ∙ ap (λ (n : List ℕ). rests_told n log) (ap (called (names_of journal)) own_so ∙ called_so (names_of journal) by.node j.apart declared)

      waiting_so : (process : Process) → slice_get s.there.1.mail by.counter ≡ Some process → is_live process.life ≡ true → is_some (first_that (λ message. bytes_eq message.mark mark) process.mailbox) ≡ has_marked journal log by mark
      waiting_so process there live = sym (waits_so journal log by mark process.mailbox (first_that (λ message. bytes_eq message.mark mark) process.mailbox) (has_taken mark process.mailbox)
          (subst (λ (p : ProcName). MarkStands journal log p mark process.mailbox) name_so (subst (λ (o : Option Process). MarkStands journal log (process_called world.names (process_id s.there.1 by.counter)) mark (waiting_for o)) there
          (a.stands s.place s.cell own.id s.there by.counter s.at s.found (ap is_gone there ∙ live_not_over process.life live) mark))))

      node_answers : CelledSo (λ verdict. verdict ≡ answer_to journal log (lines.Recv by mark)) (commanded own.id by.counter (commands.Receive mark) s.cell.0 s.there.1)
      node_answers = celled_as (λ verdict. verdict ≡ answer_or (taken_as (has_marked journal log by mark)) (slice_get (rests_of s.there.1.mail) by.counter)) (λ verdict. verdict ≡ answer_to journal log (lines.Recv by mark)) (commanded own.id by.counter (commands.Receive mark) s.cell.0 s.there.1)
          (λ verdict e. so_shown verdict (e ∙ ap (λ (l : List Bool). answer_or (taken_as (has_marked journal log by mark)) (slice_get l by.counter)) rests_so))
          (take_answer own.id s.cell.0 s.there.1 by.counter mark (has_marked journal log by mark) (room_for s.cell.0.host own.id s.there.1.own (target_node s.there.1 by.counter (commands.Receive mark))) waiting_so)

      at_node : AnsweredAs journal log (lines.Recv by mark) (cell_told s.place s.cell world (cell_step s.cell.0 (events.Command own.id by.counter (commands.Receive mark))))
      at_node = subst (λ (o : Option (ℕ × NodeState)). AnsweredAs journal log (lines.Recv by mark) (cell_told s.place s.cell world (elim o as (λ o. Celled) [
        | None ↦ refused verdicts.Nothing s.cell.0
        | Some node ↦ commanded own.id by.counter (commands.Receive mark) s.cell.0 node.1
      ]))) (sym s.found) (told_so s.place s.cell (commanded own.id by.counter (commands.Receive mark) s.cell.0 s.there.1) node_answers)

      at_cell : AnsweredAs journal log (lines.Recv by mark) (cell_hears s.place (events.Command own.id by.counter (commands.Receive mark)) world)
      at_cell = subst (λ (o : Option (Cell × ℕ)). AnsweredAs journal log (lines.Recv by mark) (elim o as (λ o. Answered) [
        | None ↦ Ok ((verdicts.Nothing, []), world)
        | Some cell ↦ cell_told s.place cell world (cell_step cell.0 (events.Command own.id by.counter (commands.Receive mark)))
      ])) (sym s.at) at_node

      at_place : AnsweredAs journal log (lines.Recv by mark) (line_done (lines.Recv by mark) world)
      at_place = subst (λ (k : Names). AnsweredAs journal log (lines.Recv by mark) (elim (cell_of world (address_as k by.node)) as (λ o. Answered) [
        | None ↦ Ok ((verdicts.Nothing, []), world)
        | Some place ↦ cell_hears place (events.Command (address_as k by.node).id by.counter (commands.Receive mark)) world
      ])) (sym names) (subst (λ (o : Option ℕ). AnsweredAs journal log (lines.Recv by mark) (elim o as (λ o. Answered) [
        | None ↦ Ok ((verdicts.Nothing, []), world)
        | Some place ↦ cell_hears place (events.Command own.id by.counter (commands.Receive mark)) world
      ])) (sym s.of) at_cell)

    -- a line by which a process takes a message is answered as the log shows
    pub take_answered : AnsweredAs journal log (lines.Recv by mark) (line_done (lines.Recv by mark) world)
    take_answered = at_place (stands_named by.node declared)
