-- What the network and a line do to a world.
use Rattle.std.proofs.Common.{◌≡◌, ◌≤◌, ℕ, ◌+◌, ◌*◌, Bool, true, false, cond, ◌&&◌, ◌||◌, List, [], ◌∷◌, ◌++◌, length, take, drop, refl, sym, subst, arith}
use Rattle.std.specs.Prelude.{find, Option, Some, None, slice_get, is_some}
use Rattle.ch_model.specs.declared.entry.Entry.TheVariants as entries
use Rattle.ch_model.specs.declared.line.What.{What}
use Rattle.ch_model.specs.declared.line.What.TheVariants as lines
use Rattle.ch_model.specs.declared.local.LocalEvent.{LocalEvent}
use Rattle.ch_model.specs.declared.local.LocalEvent.TheVariants as events
use Rattle.ch_model.specs.declared.name.End.{End}
use Rattle.ch_model.specs.declared.name.End.TheVariants.{O, T}
use Rattle.ch_model.specs.declared.name.ProcName.{ProcName}
use Rattle.ch_model.specs.declared.name.SockName.{SockName}
use Rattle.ch_model.specs.declared.step.SocketEvent.TheVariants as sockets
use Rattle.ch_static.specs.declared.command.Command.{Command}
use Rattle.ch_model.specs.Stages.{Stage, Pending, Open, Ended, is_pending, is_ended}
use Rattle.ch_model.specs.WorldState.{Cell, WorldEnd, WorldSocket, World}
use Rattle.ch_model.specs.Naming.{address_as, named_as}
use Rattle.ch_model.specs.Timers.{timer_runs_for}
use Rattle.ch_model.specs.WorldSockets.{end_of, ended, cut, opened, arrives, is_socket_named, with_end_of, end_of_nobody, cell_of}
use Rattle.ch_model.specs.WorldHappenings.{Answered, nothing, with_cell, cell_hears, end_hears, after_entry, joins, refuses, mark_of, comes_at, comes, hands, feeds, loses, times_out}
use Rattle.ch_model.specs.WorldLines.{command_as, node_hears, on_socket, can_join, can_come, can_refuse, is_at_work, can_feed, can_cut, cuts, is_strangers, stranger_host, pokes, quits, other_line, line_done}
use Rattle.ch_laws_world.specs.Grows.{stage_rank, EndGoes, Numbered, Grows}
use Rattle.ch_laws_world.proofs.Names.{found_name}
use Rattle.ch_laws_world.proofs.Sockets.{end_stays, rests, onward, end_goes, opened_new, AllGrow, after}
use Rattle.ch_laws_world.proofs.Steps.{is_over, as_far, celled, hears_at, heard_by, with_entry}

-- this socket is the one of its name
abbrev pub IsIn : WorldSocket → World → Type 0
IsIn socket world = find (is_socket_named socket.name) world.sockets ≡ Some socket

-- ---- ends

-- a pending end is opened
open_goes : (end now : WorldEnd) → is_pending end.stage ≡ true → now.cell ≡ end.cell → now.stage ≡ Open → EndGoes end now
open_goes end now pending c s = record { cell = c; stage = subst (λ (stage : Stage). stage_rank end.stage ≤ stage_rank stage) (sym s) (by_stage end.stage pending) }
  where
    by_stage : (stage : Stage) → is_pending stage ≡ true → stage_rank stage ≤ 1
    by_stage Pending e = omega arith
    by_stage Open e = absurd cc
    by_stage Ended e = absurd cc

-- the pending end of this socket is opened
end_opened : (which : End) (f : WorldEnd → WorldEnd) (socket : WorldSocket) (world : World) → Numbered world.sockets → IsIn socket world → is_pending (end_of which socket).stage ≡ true → ((end : WorldEnd) → ((f end).cell ≡ end.cell) × ((f end).stage ≡ Open)) → Grows world (with_end_of socket.name which f world)
end_opened which f socket world k is pending g = end_goes socket.name which f world k (λ found e. by_same found (one found e))
  where
    one : (found : WorldSocket) → find (is_socket_named socket.name) world.sockets ≡ Some found → socket ≡ found
    one found e = cc

    by_same : (found : WorldSocket) → socket ≡ found → EndGoes (end_of which found) (f (end_of which found))
    by_same found same = subst (λ (s : WorldSocket). EndGoes (end_of which s) (f (end_of which s))) same (open_goes (end_of which socket) (f (end_of which socket)) pending (g (end_of which socket)).0 (g (end_of which socket)).1)

-- an end whose stage isn't touched
kept : (name : SockName) (which : End) (f : WorldEnd → WorldEnd) (world : World) → Numbered world.sockets → ((end : WorldEnd) → EndGoes end (f end)) → Grows world (with_end_of name which f world)
kept name which f world k g = end_goes name which f world k (λ found e. g (end_of which found))

-- ---- happenings

pub joined : (socket : WorldSocket) (world : World) → Numbered world.sockets → IsIn socket world → is_pending socket.o.stage ≡ true → AllGrow world (joins socket world)
joined socket world k is pending =
    let g : Grows world (with_end_of socket.name O opened world) = end_opened O opened socket world k is pending (λ end. (refl, refl)) in
    with_entry (entries.Joined socket.name) world (end_hears socket.o (λ sock. sockets.Joined sock) (with_end_of socket.name O opened world)) (after world (with_end_of socket.name O opened world) _ g (heard_by socket.o (λ sock. sockets.Joined sock) (with_end_of socket.name O opened world) g.numbered))

pub refused : (socket : WorldSocket) (world : World) → Numbered world.sockets → AllGrow world (refuses socket world)
refused socket world k = with_entry (entries.Refused socket.name) world (end_hears socket.o (λ sock. sockets.Refused sock) world) (heard_by socket.o (λ sock. sockets.Refused sock) world k)

came_at : (place : ℕ) (socket : WorldSocket) (world : World) → Numbered world.sockets → IsIn socket world → is_pending socket.t.stage ≡ true → AllGrow world (comes_at place socket world)
came_at place socket world k is pending = by_cell (slice_get world.cells place) refl
  where
    by_cell : (o : Option (Cell × ℕ)) → slice_get world.cells place ≡ o → AllGrow world (elim o as (λ o. Answered) [
      | None ↦ nothing world
      | Some cell ↦ cell_hears place (events.Came (mark_of socket.o) (2 * cell.1 + 1) socket.from_host) (with_end_of socket.name T (λ end. record (opened end) { number = Some (2 * cell.1 + 1) }) (with_cell place (cell.0, cell.1 + 1) world))
    ])
    by_cell None found = rests world k
    by_cell (Some cell) found =
        let now : World = with_cell place (cell.0, cell.1 + 1) world in
        let next : World = with_end_of socket.name T (λ end. record (opened end) { number = Some (2 * cell.1 + 1) }) now in
        let g : Grows now next = end_opened T (λ end. record (opened end) { number = Some (2 * cell.1 + 1) }) socket now k is pending (λ end. (refl, refl)) in
        after world next _ (onward world now next (celled place cell (cell.0, cell.1 + 1) world k found refl) g) (hears_at place (events.Came (mark_of socket.o) (2 * cell.1 + 1) socket.from_host) next g.numbered)

pub came : (socket : WorldSocket) (world : World) → Numbered world.sockets → IsIn socket world → is_pending socket.t.stage ≡ true → AllGrow world (comes socket world)
came socket world k is pending = by_cell socket.t.cell
  where
    by_cell : (o : Option ℕ) → AllGrow world (elim o as (λ o. Answered) [
      | None ↦ nothing world
      | Some place ↦ after_entry (entries.Came socket.name) (comes_at place socket world)
    ])
    by_cell None = rests world k
    by_cell (Some place) = with_entry (entries.Came socket.name) world (comes_at place socket world) (came_at place socket world k is pending)

handed : (bytes : List ℕ) (end : WorldEnd) (world : World) → Numbered world.sockets → AllGrow world (hands bytes end world)
handed [] end world k = heard_by end (λ sock. sockets.Ended sock) world k
handed (b ∷ bytes) end world k = heard_by end (λ sock. sockets.Fed sock (b ∷ bytes)) world k

pub fed : (which : End) (count : ℕ) (socket : WorldSocket) (world : World) → Numbered world.sockets → AllGrow world (feeds which count socket world)
fed which count socket world k =
    let next : World = with_end_of socket.name which (λ end. record end { unread = drop count end.unread }) world in
    let g : Grows world next = kept socket.name which (λ end. record end { unread = drop count end.unread }) world k (λ end. as_far end _ refl refl) in
    with_entry (entries.Fed socket.name which (length (take count (end_of which socket).unread))) world (hands (take count (end_of which socket).unread) (end_of which socket) next) (after world next _ g (handed (take count (end_of which socket).unread) (end_of which socket) next g.numbered))

lost : (which : End) (socket : WorldSocket) (world : World) → Numbered world.sockets → AllGrow world (loses which socket world)
lost which socket world k = with_entry (entries.Lost socket.name which) world (end_hears (end_of which socket) (λ sock. sockets.Lost sock) world) (heard_by (end_of which socket) (λ sock. sockets.Lost sock) world k)

pub timed_out : (node peer : List ℕ) (world : World) → Numbered world.sockets → AllGrow world (times_out node peer world)
timed_out node peer world k = by_place (cell_of world (named_as world.names node).address)
  where
    by_place : (o : Option ℕ) → AllGrow world (elim o as (λ o. Answered) [
      | None ↦ nothing world
      | Some place ↦ after_entry (entries.Timed node peer) (cell_hears place (events.Socket (sockets.Late (named_as world.names node).address.id (named_as world.names peer).address)) world)
    ])
    by_place None = rests world k
    by_place (Some place) = with_entry (entries.Timed node peer) world _ (hears_at place (events.Socket (sockets.Late (named_as world.names node).address.id (named_as world.names peer).address)) world k)

-- ---- lines

node_heard : (name : List ℕ) (event : ℕ → LocalEvent) (world : World) → Numbered world.sockets → AllGrow world (node_hears name event world)
node_heard name event world k = by_place (cell_of world (address_as world.names name))
  where
    by_place : (o : Option ℕ) → AllGrow world (elim o as (λ o. Answered) [
      | None ↦ nothing world
      | Some place ↦ cell_hears place (event (address_as world.names name).id) world
    ])
    by_place None = rests world k
    by_place (Some place) = hears_at place (event (address_as world.names name).id) world k

on_one : (name : SockName) (test : WorldSocket → Bool) (f : WorldSocket → World → Answered) (world : World) → Numbered world.sockets → ((socket : WorldSocket) → IsIn socket world → test socket ≡ true → AllGrow world (f socket world)) → AllGrow world (on_socket name test f world)
on_one name test f world k g = by_found (find (is_socket_named name) world.sockets) refl
  where
    by_test : (socket : WorldSocket) (b : Bool) → test socket ≡ b → IsIn socket world → AllGrow world (cond b (f socket world) (nothing world))
    by_test socket true e is = g socket is e
    by_test socket false e is = rests world k

    by_found : (o : Option WorldSocket) → find (is_socket_named name) world.sockets ≡ o → AllGrow world (elim o as (λ o. Answered) [
      | None ↦ nothing world
      | Some socket ↦ cond (test socket) (f socket world) (nothing world)
    ])
    by_found None e = rests world k
    by_found (Some socket) e = by_test socket (test socket) refl (subst (λ (n : SockName). find (is_socket_named n) world.sockets ≡ Some socket) (sym (found_name name socket world.sockets e)) e)

left_of : (a b : Bool) → (a && b) ≡ true → a ≡ true
left_of true b e = refl
left_of false b e = absurd cc

poked : (bytes : List ℕ) (end : WorldEnd) → EndGoes end (arrives bytes end)
poked bytes end = by_test (is_ended end.stage || end.is_cut)
  where
    by_test : (b : Bool) → EndGoes end (cond b end (record end { unread = end.unread ++ bytes }))
    by_test true = end_stays end
    by_test false = as_far end _ refl refl

other_grows : (what : What) (world : World) → Numbered world.sockets → AllGrow world (other_line what world)
other_grows (lines.Proc node) world k = node_heard node (λ end. events.Make end) world k
other_grows (lines.Shut node) world k = node_heard node (λ end. events.Shut end) world k
other_grows (lines.Join sock) world k = on_one sock can_join joins world k (λ socket is e. joined socket world k is (left_of (is_pending socket.o.stage) (is_some socket.t.cell) e))
other_grows (lines.Come sock) world k = on_one sock can_come comes world k (λ socket is e. came socket world k is e)
other_grows (lines.Refuse sock) world k = on_one sock can_refuse refuses world k (λ socket is e. refused socket world k)
other_grows (lines.Feed sock end count) world k = on_one sock (can_feed end) (feeds end count) world k (λ socket is e. fed end count socket world k)
other_grows (lines.Cut sock end) world k = on_one sock (can_cut end) (cuts end) world k (λ socket is e. kept socket.name end cut world k (λ which. as_far which _ refl refl))
other_grows (lines.Lose sock end) world k = on_one sock (is_at_work end) (loses end) world k (λ socket is e. lost end socket world k)
other_grows (lines.Late node peer) world k = by_test (timer_runs_for world node peer)
  where
    by_test : (b : Bool) → AllGrow world (cond b (times_out node peer world) (nothing world))
    by_test true = timed_out node peer world k
    by_test false = rests world k
other_grows (lines.Knock stranger node) world k = opened_new world stranger node (stranger_host world stranger) (end_of_nobody None None Open) (address_as world.names node) k
other_grows (lines.Poke sock bytes) world k = on_one sock is_strangers (pokes bytes) world k (λ socket is e. kept socket.name T (arrives bytes) world k (poked bytes))
other_grows (lines.Quit sock) world k = on_one sock is_strangers quits world k (λ socket is e. kept socket.name O ended world k is_over)
other_grows what world k = rests world k

pub line_grows : (what : What) (world : World) → Numbered world.sockets → AllGrow world (line_done what world)
line_grows what world k = by_command (command_as world.names what)
  where
    by_command : (o : Option (ProcName × Command)) → AllGrow world (elim o as (λ o. Answered) [
      | None ↦ other_line what world
      | Some asked ↦ node_hears asked.0.node (λ end. events.Command end asked.0.counter asked.1) world
    ])
    by_command None = other_grows what world k
    by_command (Some asked) = node_heard asked.0.node (λ end. events.Command end asked.0.counter asked.1) world k
