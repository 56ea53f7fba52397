-- What happens at a line, turn by turn: a node does something, an end is joined, comes, or is fed. Each keeps the claim.
use Rattle.std.specs.Prelude.{◌≡◌, ℕ, ◌+◌, ◌*◌, Bool, true, false, cond, ◌&&◌, List, [], ◌∷◌, ◌++◌, length, take, drop, find, is_some, slice_get, nat_lt, Option, Some, None, Result, Ok}
use Rattle.std.proofs.Common.{refl, ap, sym, ◌∙◌, subst}
use Rattle.std.proofs.lemmas.Bool.{and_parts}
use Rattle.ch_static.specs.declared.command.Command.{Command}
use Rattle.ch_static.specs.declared.command.Command.TheVariants as commands
use Rattle.ch_model.specs.declared.act.Act.{Act}
use Rattle.ch_model.specs.declared.command.CommandError.{CommandError}
use Rattle.ch_model.specs.declared.entry.Entry.{Entry}
use Rattle.ch_model.specs.declared.entry.Entry.TheVariants as entries
use Rattle.ch_model.specs.declared.entry.Verdict.TheVariants as verdicts
use Rattle.ch_model.specs.declared.line.Line.{Line}
use Rattle.ch_model.specs.declared.line.What.{What}
use Rattle.ch_model.specs.declared.line.What.TheVariants as lines
use Rattle.ch_model.specs.declared.local.LocalEntry.{LocalEntry}
use Rattle.ch_model.specs.declared.local.LocalEvent.{LocalEvent}
use Rattle.ch_model.specs.declared.local.LocalEvent.TheVariants as events
use Rattle.ch_model.specs.declared.name.End.{End}
use Rattle.ch_model.specs.declared.name.End.TheVariants.{O, T}
use Rattle.ch_model.specs.declared.name.ProcName.{ProcName}
use Rattle.ch_model.specs.declared.name.SockName.{SockName}
use Rattle.ch_model.specs.declared.step.SocketEvent.{SocketEvent}
use Rattle.ch_model.specs.declared.step.SocketEvent.TheVariants as sockets
use Rattle.ch_model.specs.declared.step.Step.{Step}
use Rattle.ch_model.specs.Cell.{room_for, commanded, heard_as, node_did, cell_step}
use Rattle.ch_model.specs.CellSteps.{steps_on}
use Rattle.ch_model.specs.Host.{host_on}
use Rattle.ch_model.specs.HostState.{HostState}
use Rattle.ch_model.specs.Naming.{address_as, target_as}
use Rattle.ch_model.specs.Node.{node_make, node_command, target_node}
use Rattle.ch_model.specs.NodeState.{NodeState}
use Rattle.ch_model.specs.Stages.{is_pending}
use Rattle.ch_model.specs.World.{names_of}
use Rattle.ch_model.specs.WorldHappenings.{Answered, after_entry, with_cell, cell_told, cell_hears, end_hears, joins, mark_of, comes_at, comes, hands, feeds}
use Rattle.ch_model.specs.WorldLines.{command_as, node_hears, on_socket, can_join, can_come, is_at_work, can_feed, line_done}
use Rattle.ch_model.specs.WorldSockets.{end_of, opened, has_input, is_socket_named, cell_of}
use Rattle.ch_model.specs.WorldState.{Cell, WorldEnd, WorldSocket, World}
use Rattle.ch_laws_log.specs.Declared.{is_declared}
use Rattle.ch_laws_log.proofs.Agreeing.{some_within}
use Rattle.ch_laws_log.proofs.Kept.{Led}
use Rattle.ch_laws_log.proofs.Stored.{find_name}
use Rattle.ch_laws_ends.proofs.Changes.{cells_stay}
use Rattle.ch_laws_ends.proofs.Places.{got_same}
use Rattle.ch_laws_ends.proofs.Told.{Sure}
use Rattle.ch_laws_many.specs.ManyLines.{is_of_many}
use Rattle.ch_laws_calls.specs.Calls.{Claim, Anything, with_host, done_at, IsIn, AllRead, joined_in, come_in, fed_in}
use Rattle.ch_laws_calls.proofs.Happen.{entry_first, entry_before, nothing_told, IsThere, open_there, pending_there, at_cell, at_end, taken_none, fed_none}
use Rattle.ch_laws_calls.proofs.Runs.{HoldsAfter}
use Rattle.ch_laws_calls.specs.Turns.{told_on, end_in, KeepsTurns}
use Rattle.ch_laws_calls.proofs.TurnsCells.{join_quiet, come_quiet, feed_quiet, quiet_holds, seat_led, node_led, host_led}

-- ---- where it happens

-- the cell of a node, if one is there, hears an event
node_line : (J : Claim) (name : List ℕ) (event : ℕ → LocalEvent) (log : List Entry) (world : World) → J log world
    → ((place : ℕ) (cell : Cell × ℕ) → cell_of world (address_as world.names name) ≡ Some place → slice_get world.cells place ≡ Some cell → Led J log (cell_told place cell world (cell_step cell.0 (event (address_as world.names name).id))))
    → Led J log (node_hears name event world)
node_line J name event log world j each = by_place (cell_of world (address_as world.names name)) refl where
  heard : LocalEvent
  heard = event (address_as world.names name).id

  by_cell : (place : ℕ) → cell_of world (address_as world.names name) ≡ Some place → (o : Option (Cell × ℕ)) → slice_get world.cells place ≡ o → Led J log (elim o as (λ o. Answered) [
    | None ↦ Ok ((verdicts.Nothing, []), world)
    | Some cell ↦ cell_told place cell world (cell_step cell.0 heard)
  ])
  by_cell place of None at = nothing_told J log world j
  by_cell place of (Some cell) at = each place cell of at

  by_place : (o : Option ℕ) → cell_of world (address_as world.names name) ≡ o → Led J log (elim o as (λ o. Answered) [
    | None ↦ Ok ((verdicts.Nothing, []), world)
    | Some place ↦ cell_hears place heard world
  ])
  by_place None of = nothing_told J log world j
  by_place (Some place) of = by_cell place of (slice_get world.cells place) refl

-- a socket that stands as the test asks, if it is there
socket_line : (J : Claim) (sock : SockName) (test : WorldSocket → Bool) (f : WorldSocket → World → Answered) (log : List Entry) (world : World) → J log world
    → ((socket : WorldSocket) → IsIn socket world → test socket ≡ true → Led J log (f socket world)) → Led J log (on_socket sock test f world)
socket_line J sock test f log world j each = by_socket (find (is_socket_named sock) world.sockets) refl where
  by_test : (socket : WorldSocket) → IsIn socket world → (b : Bool) → test socket ≡ b → Led J log (cond b (f socket world) (Ok ((verdicts.Nothing, []), world)))
  by_test socket is true stands = each socket is stands
  by_test socket is false stands = nothing_told J log world j

  by_socket : (o : Option WorldSocket) → find (is_socket_named sock) world.sockets ≡ o → Led J log (elim o as (λ o. Answered) [
    | None ↦ Ok ((verdicts.Nothing, []), world)
    | Some socket ↦ cond (test socket) (f socket world) (Ok ((verdicts.Nothing, []), world))
  ])
  by_socket None found = nothing_told J log world j
  by_socket (Some socket) found = by_test socket (subst (λ (name : SockName). find (is_socket_named name) world.sockets ≡ Some socket) (sym (find_name sock world.sockets socket found)) found) (test socket) refl

-- ---- what happens

module _ (journal : List Line) (J : Claim) (t : KeepsTurns journal Anything Anything J) where
  -- a node makes a process
  make_line : (name : List ℕ) (log : List Entry) (world : World) → J log world → Led J log (node_hears name (λ end. events.Make end) world)
  make_line name log world j = node_line J name (λ end. events.Make end) log world j (λ place cell of at. at_place place cell at (address_as world.names name).id) where
    at_place : (place : ℕ) (cell : Cell × ℕ) → slice_get world.cells place ≡ Some cell → (end : ℕ) → Led J log (cell_told place cell world (cell_step cell.0 (events.Make end)))
    at_place place cell at end = seat_led J place log world cell end (λ node. node_did end cell.0 (node_make node)) at j
        (λ there found. node_led journal J t place log world cell end (node_make there.1) at j (λ acts next told after does is. t.made log world place cell end there.0 there.1 acts next told after at found does is tt j tt))

  -- a process asks something of its node
  command_line : (what : What) (by : ProcName) (command : Command) (log : List Entry) (world : World) → is_of_many (names_of journal) what ≡ true → command_as world.names what ≡ Some (by, command) → J log world
      → Led J log (node_hears by.node (λ end. events.Command end by.counter command) world)
  command_line what by command log world of asks j = node_line J by.node (λ end. events.Command end by.counter command) log world j at_place where
    end : ℕ
    end = end_in world by

    asked : Cell × ℕ → NodeState → Result (List Act × NodeState) CommandError
    asked cell node = node_command node by.counter command (room_for cell.0.host end node.own (target_node node by.counter command))

    at_place : (place : ℕ) (cell : Cell × ℕ) → cell_of world (address_as world.names by.node) ≡ Some place → slice_get world.cells place ≡ Some cell → Led J log (cell_told place cell world (cell_step cell.0 (events.Command end by.counter command)))
    at_place place cell there at = seat_led J place log world cell end (commanded end by.counter command cell.0) at j
        (λ seat found. node_led journal J t place log world cell end (asked cell seat.1) at j
        (λ acts next told after does is. t.asked log world what by command place cell seat.0 seat.1 acts next told after (record { of = of; asks = asks; cell = there }) at found does is tt j tt))

  -- a host of the world hears an event of an end, once an entry was told and the world's sockets have changed
  end_led : (entry : Entry) (end : WorldEnd) (event : ℕ → SocketEvent) (log : List Entry) (world now : World) (there : IsThere world end) → now.cells ≡ world.cells
      → ((done : List Step) (host : HostState) (told : List LocalEntry) (after : Cell) → host_on there.cell.0.host (event there.number) ≡ Ok (done, host) → steps_on done (with_host there.cell host) ≡ Ok (told, after)
      → HoldsAfter J (log ++ entry ∷ []) (told_on there.place there.cell after told now)) → Led J log (after_entry entry (end_hears end event now))
  end_led entry end event log world now there cells each = entry_first J log entry (end_hears end event now) (at_end J log_now now end event there.place there.number there.held
      (at_cell J log_now now there.place (events.Socket (event there.number)) there.cell at_now (host_led journal J t there.place log_now now there.cell (heard_as there.cell.0.host (event there.number)) (event there.number) at_now each))) where
        log_now : List Entry
        log_now = log ++ entry ∷ []

        at_now : slice_get now.cells there.place ≡ Some there.cell
        at_now = ap (λ (l : List (Cell × ℕ)). slice_get l there.place) cells ∙ there.at

module _ (journal : List Line) (J : Claim) (t : KeepsTurns journal Anything Anything J) (before log : List Entry) (world : World) (s : Sure journal before world) (read : AllRead world) (j : J log world) where
  joins_line : (socket : WorldSocket) → IsIn socket world → can_join socket ≡ true → Led J log (joins socket world)
  joins_line socket is can = by_there (pending_there journal before world socket s is (and_parts (is_pending socket.o.stage) (is_some socket.t.cell) can).0) where
    now : World
    now = joined_in socket world

    by_there : IsThere world socket.o → Led J log (joins socket world)
    by_there there = end_led journal J t (entries.Joined socket.name) socket.o (λ sock. sockets.Joined sock) log world now there (cells_stay socket.name O opened world)
        (λ done host told after does all. quiet_holds J (sockets.Joined there.number) there.place there.cell after done host told (log ++ entries.Joined socket.name ∷ []) now (join_quiet there.number) does all
        (entry_before J log (entries.Joined socket.name) (done_at there.place there.cell done host now)
        (t.joined log world socket there.place there.number there.cell done host is can there.held (record { at = there.at; does = does }) read tt j tt)))

  comes_line : (socket : WorldSocket) → IsIn socket world → can_come socket ≡ true → Led J log (comes socket world)
  comes_line socket is can = by_place socket.t.cell refl where
    log_now : List Entry
    log_now = log ++ entries.Came socket.name ∷ []

    there : (place : ℕ) (cell : Cell × ℕ) → socket.t.cell ≡ Some place → slice_get world.cells place ≡ Some cell → Led J log_now (cell_hears place (events.Came (mark_of socket.o) (2 * cell.1 + 1) socket.from_host) (come_in place cell socket world))
    there place cell c at = at_cell J log_now now place (events.Came (mark_of socket.o) (2 * cell.1 + 1) socket.from_host) (cell.0, cell.1 + 1) at_now
        (host_led journal J t place log_now now (cell.0, cell.1 + 1) verdicts.Ok (sockets.Came (2 * cell.1 + 1) socket.from_host) at_now
        (λ done host told after does all. quiet_holds J (sockets.Came (2 * cell.1 + 1) socket.from_host) place (cell.0, cell.1 + 1) after done host told log_now now (come_quiet (2 * cell.1 + 1) socket.from_host) does all
        (entry_before J log (entries.Came socket.name) (done_at place (cell.0, cell.1 + 1) done host now)
        (t.came log world socket place cell done host is can c (record { at = at; does = does }) read tt j tt)))) where
          now : World
          now = come_in place cell socket world

          at_now : slice_get now.cells place ≡ Some (cell.0, cell.1 + 1)
          at_now = ap (λ (l : List (Cell × ℕ)). slice_get l place) (cells_stay socket.name T (λ end. record (opened end) { number = Some (2 * cell.1 + 1) }) (with_cell place (cell.0, cell.1 + 1) world))
              ∙ got_same world.cells place cell (cell.0, cell.1 + 1) at

    by_cell : (place : ℕ) → socket.t.cell ≡ Some place → (o : Option (Cell × ℕ)) → slice_get world.cells place ≡ o → is_some o ≡ true → Led J log_now (elim o as (λ o. Answered) [
      | None ↦ Ok ((verdicts.Nothing, []), world)
      | Some cell ↦ cell_hears place (events.Came (mark_of socket.o) (2 * cell.1 + 1) socket.from_host) (come_in place cell socket world)
    ])
    by_cell place c None at some = absurd cc
    by_cell place c (Some cell) at some = there place cell c at

    by_place : (o : Option ℕ) → socket.t.cell ≡ o → Led J log (elim o as (λ o. Answered) [
      | None ↦ Ok ((verdicts.Nothing, []), world)
      | Some place ↦ after_entry (entries.Came socket.name) (comes_at place socket world)
    ])
    by_place None c = nothing_told J log world j
    by_place (Some place) c = entry_first J log (entries.Came socket.name) (comes_at place socket world)
        (by_cell place c (slice_get world.cells place) refl (some_within world.cells place (s.ends.sorted.0.within socket.name socket place is c)))

  feeds_line : (socket : WorldSocket) (which : End) (count : ℕ) → IsIn socket world → can_feed which socket ≡ true → nat_lt 0 count ≡ true → Led J log (feeds which count socket world)
  feeds_line socket which count is can some = by_there (open_there journal before world socket which s is (and_parts (is_at_work which socket) (has_input which socket) can).0) where
    by_bytes : IsThere world (end_of which socket) → (bytes : List ℕ) → take count (end_of which socket).unread ≡ bytes
        → Led J log (after_entry (entries.Fed socket.name which (length bytes)) (hands bytes (end_of which socket) (fed_in which count socket world)))
    by_bytes there [] e = subst (λ (w : World). Led J log (after_entry (entries.Fed socket.name which 0) (end_hears (end_of which socket) (λ sock. sockets.Ended sock) w))) (sym (fed_none which count socket world is none))
        (end_led journal J t (entries.Fed socket.name which 0) (end_of which socket) (λ sock. sockets.Ended sock) log world world there refl
        (λ done host told after does all. entry_before J log (entries.Fed socket.name which 0) (told_on there.place there.cell after told world)
        (t.ended log world socket which there.place there.number there.cell done host told after is can none there.held (record { at = there.at; does = does }) all read tt j tt))) where
          none : (end_of which socket).unread ≡ []
          none = taken_none count (end_of which socket).unread some e
    by_bytes there (b ∷ bytes) e = end_led journal J t entry (end_of which socket) (λ sock. sockets.Fed sock (b ∷ bytes)) log world now there (cells_stay socket.name which (λ end. record end { unread = drop count end.unread }) world)
        (λ done host told after does all. quiet_holds J (sockets.Fed there.number (b ∷ bytes)) there.place there.cell after done host told (log ++ entry ∷ []) now (feed_quiet there.number (b ∷ bytes)) does all
        (entry_before J log entry (done_at there.place there.cell done host now)
        (t.fed log world socket which count b bytes there.place there.number there.cell done host is can e there.held (record { at = there.at; does = does }) read tt j tt))) where
          entry : Entry
          entry = entries.Fed socket.name which (length (b ∷ bytes))

          now : World
          now = fed_in which count socket world

    by_there : IsThere world (end_of which socket) → Led J log (feeds which count socket world)
    by_there there = by_bytes there (take count (end_of which socket).unread) refl

  -- a line, whose answer is told before
  pub line_led : (what : What) → is_of_many (names_of journal) what ≡ true → Led J log (line_done what world)
  line_led (lines.Node name address unique) of = nothing_told J log world j
  line_led (lines.Proc node) of = make_line journal J t node log world j
  line_led (lines.Send by to mark body) of = command_line journal J t (lines.Send by to mark body) by (commands.Send (target_as world.names to) (record { mark = mark; body = body })) log world of refl j
  line_led (lines.Recv by mark) of = command_line journal J t (lines.Recv by mark) by (commands.Receive mark) log world of refl j
  line_led (lines.End by) of = command_line journal J t (lines.End by) by commands.End log world of refl j
  line_led (lines.Join sock) of = socket_line J sock can_join joins log world j joins_line
  line_led (lines.Come sock) of = socket_line J sock can_come comes log world j comes_line
  line_led (lines.Feed sock end count) of = socket_line J sock (can_feed end) (feeds end count) log world j (λ socket is can. feeds_line socket end count is can some) where
    some : nat_lt 0 count ≡ true
    some = (and_parts (is_declared (names_of journal) sock.from && is_declared (names_of journal) sock.to) (nat_lt 0 count) of).1
  line_led what of = absurd cc
