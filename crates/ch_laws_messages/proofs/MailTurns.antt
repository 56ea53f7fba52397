-- Each turn keeps what stands in mailboxes, and what is taken by it is the first that was left.
use Rattle.std.proofs.Common.{◌≡◌, ◌+◌, ◌*◌, ℕ, true, List, [], ◌∷◌, ◌++◌, length, drop, Ok, refl, sym, ap, ◌∙◌, subst, append_assoc}
use Rattle.std.specs.Prelude.{find, slice_get, slice_set, Some}
use Rattle.ch_static.specs.declared.command.Command.{Command}
use Rattle.ch_model.specs.declared.act.Act.{Act}
use Rattle.ch_model.specs.declared.entry.Entry.{Entry}
use Rattle.ch_model.specs.declared.entry.Entry.TheVariants as entries
use Rattle.ch_model.specs.declared.entry.Verdict.{Verdict}
use Rattle.ch_model.specs.declared.line.Line.{Line}
use Rattle.ch_model.specs.declared.line.What.{What}
use Rattle.ch_model.specs.declared.local.LocalEntry.{LocalEntry}
use Rattle.ch_model.specs.declared.name.End.{End}
use Rattle.ch_model.specs.declared.name.End.TheVariants.{O, T}
use Rattle.ch_model.specs.declared.name.ProcName.{ProcName}
use Rattle.ch_model.specs.declared.step.SocketEvent.TheVariants as sockets
use Rattle.ch_model.specs.declared.step.Step.{Step}
use Rattle.ch_model.specs.Cell.{room_for}
use Rattle.ch_model.specs.CellSteps.{is_at, with_node, told_steps, acts_on, steps_on}
use Rattle.ch_model.specs.Epochs.{FollowsEpochs}
use Rattle.ch_model.specs.Host.{host_next}
use Rattle.ch_model.specs.HostState.{HostState}
use Rattle.ch_model.specs.Logs.{each_after}
use Rattle.ch_model.specs.Mailboxes.{takes_the_first}
use Rattle.ch_model.specs.Naming.{Names}
use Rattle.ch_model.specs.Node.{node_make, node_command, target_node}
use Rattle.ch_model.specs.NodeState.{NodeState}
use Rattle.ch_model.specs.World.{names_of}
use Rattle.ch_model.specs.WorldHappenings.{with_cell}
use Rattle.ch_model.specs.WorldSockets.{opened}
use Rattle.ch_model.specs.WorldState.{Cell, WorldSocket, World}
use Rattle.ch_laws_bytes.proofs.Lines.{own_of}
use Rattle.ch_laws_bytes.proofs.Told.{end_names, told_names}
use Rattle.ch_laws_calls.specs.Calls.{IsCalled, with_host, done_at, joined_in, come_in, fed_in}
use Rattle.ch_laws_ends.proofs.Changes.{cells_stay, told_cells}
use Rattle.ch_laws_ends.proofs.Places.{set_twice}
use Rattle.ch_laws_many.specs.ManyLines.{is_of_many, AreNamedApart}
use Rattle.ch_laws_many.proofs.Reached.{IsJournal}
use Rattle.ch_laws_calls.specs.Turns.{told_on, IsAsked, end_in}
use Rattle.ch_laws_plain.proofs.AsksCommands.{asks_plainly, plain_command}
use Rattle.ch_laws_plain.proofs.ReadsTurns.{next_reads}
use Rattle.ch_laws_messages.specs.MailGiven.{Given}
use Rattle.ch_laws_messages.specs.MailMail.{AllMail, GoesOn}
use Rattle.ch_laws_messages.specs.MailSaid.{GotIsSaid}
use Rattle.ch_laws_messages.proofs.MailCalls.{make_goes, command_goes}
use Rattle.ch_laws_messages.proofs.MailHears.{brings_once, ended_lost, lost_once, lost_said, read_goes}
use Rattle.ch_laws_messages.proofs.MailLogs.{AreSilent, both_true, silent_tests}
use Rattle.ch_laws_messages.proofs.MailTold.{all_silent, steps_quiet}
use Rattle.ch_laws_messages.proofs.MailWorlds.{IsLike, set_like, like_mail}

module _ (journal : List Line) (log : List Entry) (world : World) (a : AllMail journal log world) where
  -- entries that touch no mailbox, where each node is as it was
  silent_goes : (more : List Entry) (after : World) → after.names ≡ world.names → IsLike after world → AreSilent more → GoesOn journal log more after
  silent_goes more after names like silent = (like_mail journal log more world after names like silent a, silent_tests journal log more silent)

  pub marked_goes : (number : ℕ) (answer : Verdict) → GoesOn journal log (entries.Line number answer ∷ []) world
  marked_goes number answer = silent_goes (entries.Line number answer ∷ []) world refl (λ q c f. (c, f, refl)) (refl, tt)

  -- a host is called, once an entry was told and the sockets of the world have changed
  called_goes : (entry : Entry) (now : World) (place : ℕ) (old cell : Cell × ℕ) (steps : List Step) (host : HostState) → AreSilent (entry ∷ []) → now.names ≡ world.names → slice_get world.cells place ≡ Some old → cell.0.nodes ≡ old.0.nodes
      → slice_set now.cells place (with_host cell host, cell.1) ≡ slice_set world.cells place (with_host cell host, cell.1) → let done = done_at place cell steps host now in GoesOn journal log (entry ∷ done.0) done.1
  called_goes entry now place old cell steps host silent names at nodes set = silent_goes (entry ∷ (done_at place cell steps host now).0) (done_at place cell steps host now).1
      (told_names place (with_host cell host) (told_steps steps) (with_cell place (with_host cell host, cell.1) now) ∙ names)
      (set_like world (done_at place cell steps host now).1 place old (with_host cell host, cell.1) at nodes (told_cells place (with_host cell host) (told_steps steps) (with_cell place (with_host cell host, cell.1) now) ∙ set))
      (silent.0, all_silent place (with_host cell host) (told_steps steps) (with_cell place (with_host cell host, cell.1) now) (steps_quiet steps))

  pub joined_goes : (socket : WorldSocket) (place n : ℕ) (cell : Cell × ℕ) (steps : List Step) (host : HostState) → IsCalled world place cell (sockets.Joined n) steps host
      → let done = done_at place cell steps host (joined_in socket world) in GoesOn journal log (entries.Joined socket.name ∷ done.0) done.1
  joined_goes socket place n cell steps host called = called_goes (entries.Joined socket.name) (joined_in socket world) place cell cell steps host (refl, tt) (end_names socket.name O opened world) called.at refl
      (ap (λ (l : List (Cell × ℕ)). slice_set l place (with_host cell host, cell.1)) (cells_stay socket.name O opened world))

  pub came_goes : (socket : WorldSocket) (place : ℕ) (cell : Cell × ℕ) (steps : List Step) (host : HostState) → IsCalled world place cell (sockets.Came (2 * cell.1 + 1) socket.from_host) steps host
      → let done = done_at place (cell.0, cell.1 + 1) steps host (come_in place cell socket world) in GoesOn journal log (entries.Came socket.name ∷ done.0) done.1
  came_goes socket place cell steps host called = called_goes (entries.Came socket.name) (come_in place cell socket world) place cell (cell.0, cell.1 + 1) steps host (refl, tt)
      (end_names socket.name T (λ end. record (opened end) { number = Some (2 * cell.1 + 1) }) (with_cell place (cell.0, cell.1 + 1) world)) called.at refl
      (ap (λ (l : List (Cell × ℕ)). slice_set l place (with_host cell host, cell.1 + 1)) (cells_stay socket.name T (λ end. record (opened end) { number = Some (2 * cell.1 + 1) }) (with_cell place (cell.0, cell.1 + 1) world))
      ∙ set_twice world.cells place (cell.0, cell.1 + 1) (with_host cell host, cell.1 + 1))

  pub fed_goes : (socket : WorldSocket) (which : End) (count b : ℕ) (bytes : List ℕ) (place n : ℕ) (cell : Cell × ℕ) (steps : List Step) (host : HostState) → IsCalled world place cell (sockets.Fed n (b ∷ bytes)) steps host
      → let done = done_at place cell steps host (fed_in which count socket world) in GoesOn journal log (entries.Fed socket.name which (length (b ∷ bytes)) ∷ done.0) done.1
  fed_goes socket which count b bytes place n cell steps host called = called_goes (entries.Fed socket.name which (length (b ∷ bytes))) (fed_in which count socket world) place cell cell steps host (refl, tt)
      (end_names socket.name which (λ end. record end { unread = drop count end.unread }) world) called.at refl
      (ap (λ (l : List (Cell × ℕ)). slice_set l place (with_host cell host, cell.1)) (cells_stay socket.name which (λ end. record end { unread = drop count end.unread }) world))

  module _ (j : IsJournal journal) (named : AreNamedApart (names_of journal)) (g : Given journal log world) where
    pub made_goes : (place : ℕ) (cell : Cell × ℕ) (end number : ℕ) (node : NodeState) (acts : List Act) (next : NodeState) (told : List LocalEntry) (after : Cell) → slice_get world.cells place ≡ Some cell → find (is_at end) cell.0.nodes ≡ Some (number, node) → node_make node ≡ Ok (acts, next)
        → acts_on end acts (with_node end next cell.0) ≡ Ok (told, after) → let done = told_on place cell after told world in GoesOn journal log done.0 done.1
    made_goes place cell end number node acts next told after at there does all = make_goes journal j named world g.sound.ends.set.names g.sound.ends.homes place cell at log a end (number, node) there next acts told after does all

    pub asked_goes : (what : What) (by : ProcName) (command : Command) (place : ℕ) (cell : Cell × ℕ) (number : ℕ) (node : NodeState) (acts : List Act) (next : NodeState) (told : List LocalEntry) (after : Cell) → IsAsked journal world what by command place
        → slice_get world.cells place ≡ Some cell → find (is_at (end_in world by)) cell.0.nodes ≡ Some (number, node) → node_command node by.counter command (room_for cell.0.host (end_in world by) node.own (target_node node by.counter command)) ≡ Ok (acts, next)
        → acts_on (end_in world by) acts (with_node (end_in world by) next cell.0) ≡ Ok (told, after) → let done = told_on place cell after told world in FollowsEpochs (log ++ done.0) → GoesOn journal log done.0 done.1
    asked_goes what by command place cell number node acts next told after asked at there does all follows =
        command_goes journal j named world g.sound.ends.set.names g.sound.ends.homes place cell at log a (end_in world by) (number, node) there by.counter command (room_for cell.0.host (end_in world by) node.own (target_node node by.counter command)) next acts told after
        ((g.plain.cells place cell at).nodes (end_in world by) (number, node) there).plain
        (plain_command world.names command (asks_plainly world.names what by command (subst (λ (k : Names). is_of_many k what ≡ true) (sym g.sound.ends.set.names) asked.of) asked.asks).sends) does all follows

    pub item_goes : (place : ℕ) (cell : Cell × ℕ) (steps : List Step) (host : HostState) (told : List LocalEntry) (after : Cell) → slice_get world.cells place ≡ Some cell → host_next cell.0.host ≡ Ok (Some steps, host) → steps_on steps (with_host cell host) ≡ Ok (told, after)
        → let done = told_on place cell after told world in GotIsSaid log world cell steps done.0 → GoesOn journal log done.0 done.1
    item_goes place cell steps host told after at does all so = read_goes journal j named world g.sound.ends.set.names g.sound.ends.homes place cell at log a steps host told after (g.plain.cells place cell at)
        (brings_once cell.0.host host steps (next_reads (own_of journal place) cell.0.host host steps (g.sound.links.naming place cell at).naming (g.sound.ends.flowing.orderly place cell at) (g.plain.cells place cell at).host does).1) all so

    pub ended_goes : (socket : WorldSocket) (which : End) (place n : ℕ) (cell : Cell × ℕ) (steps : List Step) (host : HostState) (told : List LocalEntry) (after : Cell) → IsCalled world place cell (sockets.Ended n) steps host → steps_on steps (with_host cell host) ≡ Ok (told, after)
        → let done = told_on place cell after told world in GoesOn journal log (entries.Fed socket.name which 0 ∷ done.0) done.1
    ended_goes socket which place n cell steps host told after called all = (
      subst (λ (l : List Entry). AllMail journal l (told_on place cell after told world).1) (append_assoc log (entries.Fed socket.name which 0 ∷ []) (told_on place cell after told world).0) goes.0,
      both_true true (each_after (takes_the_first journal) (log ++ entries.Fed socket.name which 0 ∷ []) (told_on place cell after told world).0) refl goes.1,
    ) where
      first : GoesOn journal log (entries.Fed socket.name which 0 ∷ []) world
      first = silent_goes (entries.Fed socket.name which 0 ∷ []) world refl (λ q c f. (c, f, refl)) (refl, tt)

      goes : GoesOn journal (log ++ entries.Fed socket.name which 0 ∷ []) (told_on place cell after told world).0 (told_on place cell after told world).1
      goes = let lost = ended_lost cell.0.host host n steps called.does in
          read_goes journal j named world g.sound.ends.set.names g.sound.ends.homes place cell called.at (log ++ entries.Fed socket.name which 0 ∷ []) first.0 steps host told after (g.plain.cells place cell called.at) (lost_once steps lost) all
          (lost_said (log ++ entries.Fed socket.name which 0 ∷ []) world cell steps (told_on place cell after told world).0 lost)
