-- What every cell has after whatever it makes of an event, every cell of a world has after any lines.
use Rattle.std.proofs.Common.{◌≡◌, ℕ, zero, suc, ◌+◌, ◌*◌, Bool, true, false, cond, List, [], ◌∷◌, ◌++◌, length, take, drop, Ok, Err, refl, sym, ◌∙◌, subst}
use Rattle.std.specs.Prelude.{find, is_some, slice_get, slice_set, Option, Some, None, Result}
use Rattle.ch_static.specs.declared.command.Command.{Command}
use Rattle.ch_model.specs.declared.entry.Entry.{Entry}
use Rattle.ch_model.specs.declared.entry.Entry.TheVariants as entries
use Rattle.ch_model.specs.declared.entry.Verdict.{Verdict}
use Rattle.ch_model.specs.declared.line.Line.{Line}
use Rattle.ch_model.specs.declared.line.What.{What}
use Rattle.ch_model.specs.declared.line.What.TheVariants as lines
use Rattle.ch_model.specs.declared.local.LocalEntry.{LocalEntry}
use Rattle.ch_model.specs.declared.local.LocalEntry.TheVariants as local
use Rattle.ch_model.specs.declared.local.LocalEvent.{LocalEvent}
use Rattle.ch_model.specs.declared.local.LocalEvent.TheVariants as events
use Rattle.ch_model.specs.declared.name.End.{End}
use Rattle.ch_model.specs.declared.name.End.TheVariants.{O, T}
use Rattle.ch_model.specs.declared.name.ProcName.{ProcName}
use Rattle.ch_model.specs.declared.name.SockName.{SockName}
use Rattle.ch_model.specs.declared.step.SocketEvent.{SocketEvent}
use Rattle.ch_model.specs.declared.step.SocketEvent.TheVariants as sockets
use Rattle.ch_model.specs.declared.step.Step.{Step}
use Rattle.ch_model.specs.declared.step.Step.TheVariants as steps
use Rattle.ch_model.specs.Cell.{Celled, cell_step}
use Rattle.ch_model.specs.Naming.{address_as, named_as}
use Rattle.ch_model.specs.Settle.{Happened, happened, opens, visits, Visit, Pass, from_start, after_visit, after_happened, then_happens, timer_due, timers_due, some_timer_runs, next_visit, see, before_rest, settled_in, weight_of, settles}
use Rattle.ch_model.specs.Stages.{Stage, Pending, Open, Ended}
use Rattle.ch_model.specs.Timers.{timer_runs_for, all_links}
use Rattle.ch_model.specs.World.{◌>>=◌, is_declaration, line_answered, line_settled, event_step, world_step, log_from}
use Rattle.ch_model.specs.WorldHappenings.{Answered, nothing, with_cell, cell_told, cell_hears, end_hears, after_entry, joins, refuses, mark_of, comes_at, comes, hands, feeds, loses, times_out}
use Rattle.ch_model.specs.WorldLines.{command_as, node_hears, on_socket, can_join, can_come, can_refuse, is_at_work, can_feed, can_cut, cuts, is_strangers, pokes, quits, other_line, line_done}
use Rattle.ch_model.specs.WorldSockets.{end_of, other, ended, opened, item_arrives, is_socket_named, with_socket, with_end, with_end_of, find_end, cell_of, cut, arrives}
use Rattle.ch_model.specs.WorldState.{Cell, WorldEnd, WorldSocket, World}
use Rattle.ch_model.specs.WorldSteps.{on_end, item_is_read, reads_item, end_closes, later_places, stepped, local_told, all_told}
use Rattle.ch_laws_connections.specs.Fits.{AllCells}

-- ---- what leaves the cells alone

end_changed : (name : SockName) (which : End) (f : WorldEnd → WorldEnd) (world : World) → (with_end_of name which f world).cells ≡ world.cells
end_changed name which f world = by_found (find (is_socket_named name) world.sockets) where
  by_found : (o : Option WorldSocket) → (elim o as (λ o. World) [
    | None ↦ world
    | Some socket ↦ with_socket (with_end which (f (end_of which socket)) socket) world
  ]).cells ≡ world.cells
  by_found None = refl
  by_found (Some socket) = refl

item_read : (at : SockName × End) (o : Option WorldSocket) (world : World) → (item_is_read at o world).cells ≡ world.cells
item_read at None world = refl
item_read at (Some socket) world = end_changed at.0 at.1 (λ end. record end { places = later_places end.places }) world

at_an_end : (place sock : ℕ) (f : SockName × End → World → List Entry × World) (world : World) → ((at : SockName × End) → (f at world).1.cells ≡ world.cells) → (on_end place sock f world).1.cells ≡ world.cells
at_an_end place sock f world k = by_found (find_end place sock world.sockets) where
  by_found : (o : Option (SockName × End)) → (elim o as (λ o. List Entry × World) [
    | None ↦ ([], world)
    | Some at ↦ f at world
  ]).1.cells ≡ world.cells
  by_found None = refl
  by_found (Some at) = k at

step_told : (place : ℕ) (cell : Cell) (step : Step) (world : World) → (stepped place cell step world).1.cells ≡ world.cells
step_told place cell (steps.Dial sock end peer) world = refl
step_told place cell (steps.Read sock) world = at_an_end place sock reads_item world (λ at. item_read at (find (is_socket_named at.0) world.sockets) world)
step_told place cell (steps.Write sock bytes said) world = at_an_end place sock (λ at now. (entries.Wrote at.0 at.1 bytes ∷ [], with_end_of at.0 (other at.1) (item_arrives bytes said) now)) world (λ at. end_changed at.0 (other at.1) (item_arrives bytes said) world)
step_told place cell (steps.Up sock) world = at_an_end place sock (λ at now. (entries.Up at.0 at.1 ∷ [], now)) world (λ at. refl)
step_told place cell (steps.Down sock) world = at_an_end place sock (λ at now. (entries.Down at.0 at.1 ∷ [], end_closes at now)) world (λ at. end_changed at.0 at.1 ended world)
step_told place cell (steps.Left sock) world = at_an_end place sock (λ at now. (entries.Left at.0 at.1 ∷ [], end_closes at now)) world (λ at. end_changed at.0 at.1 ended world)
step_told place cell (steps.Broke end peer why) world = refl
step_told place cell (steps.Post end event) world = refl

one_told : (place : ℕ) (cell : Cell) (entry : LocalEntry) (world : World) → (local_told place cell entry world).1.cells ≡ world.cells
one_told place cell (local.Step step) world = step_told place cell step world
one_told place cell (local.Note note) world = refl

told_cells : (place : ℕ) (cell : Cell) (told : List LocalEntry) (world : World) → (all_told place cell told world).1.cells ≡ world.cells
told_cells place cell [] world = refl
told_cells place cell (entry ∷ rest) world = told_cells place cell rest (local_told place cell entry world).1 ∙ one_told place cell entry world

-- ---- cells that have it

module _ (P : Cell → Type 0) (kept : (cell after : Cell) (event : LocalEvent) (done : Verdict × List LocalEntry) → P cell → cell_step cell event ≡ Ok (done, after) → P after) where
  AllHave : {S E : Type 0} → Result (S × World) E → Type 0
  AllHave (Ok done) = AllCells P done.1.cells
  AllHave (Err e) = Unit {0}

  -- a world with the same cells
  alike : (one two : World) → two.cells ≡ one.cells → AllCells P one.cells → AllCells P two.cells
  alike one two e a = subst (AllCells P) (sym e) a

  set_one : (cells : List (Cell × ℕ)) (place : ℕ) (next : Cell × ℕ) → P next.0 → AllCells P cells → AllCells P (slice_set cells place next)
  set_one [] place next p a = tt
  set_one (cell ∷ rest) zero next p a = (p, a.1)
  set_one (cell ∷ rest) (suc place) next p a = (a.0, set_one rest place next p a.1)

  get_one : (cells : List (Cell × ℕ)) (place : ℕ) (cell : Cell × ℕ) → AllCells P cells → slice_get cells place ≡ Some cell → P cell.0
  get_one [] place cell a e = absurd cc
  get_one (known ∷ rest) zero cell a e = let this : known ≡ cell = cc in subst (λ (c : Cell × ℕ). P c.0) this a.0
  get_one (known ∷ rest) (suc place) cell a e = get_one rest place cell a.1 e

  hears : (place : ℕ) (event : LocalEvent) (world : World) → AllCells P world.cells → AllHave (cell_hears place event world)
  unfolding AllHave
  hears place event world a = by_cell (slice_get world.cells place) refl where
    by_done : (cell : Cell × ℕ) → P cell.0 → (done : Celled) → cell_step cell.0 event ≡ done → AllHave (cell_told place cell world done)
    by_done cell p (Err stop) e = tt
    by_done cell p (Ok done) e = alike (with_cell place (done.1, cell.1) world) (all_told place done.1 done.0.1 (with_cell place (done.1, cell.1) world)).1 (told_cells place done.1 done.0.1 (with_cell place (done.1, cell.1) world)) (set_one world.cells place (done.1, cell.1) (kept cell.0 done.1 event done.0 p e) a)

    by_cell : (o : Option (Cell × ℕ)) → slice_get world.cells place ≡ o → AllHave (elim o as (λ o. Answered) [
      | None ↦ nothing world
      | Some cell ↦ cell_told place cell world (cell_step cell.0 event)
    ])
    by_cell None e = a
    by_cell (Some cell) e = by_done cell (get_one world.cells place cell a e) (cell_step cell.0 event) refl

  heard_by : (end : WorldEnd) (event : ℕ → SocketEvent) (world : World) → AllCells P world.cells → AllHave (end_hears end event world)
  unfolding AllHave
  heard_by end event world a = by_cell end.cell where
    by_number : (place : ℕ) (o : Option ℕ) → AllHave (elim o as (λ o. Answered) [
      | None ↦ nothing world
      | Some number ↦ cell_hears place (events.Socket (event number)) world
    ])
    by_number place None = a
    by_number place (Some number) = hears place (events.Socket (event number)) world a

    by_cell : (o : Option ℕ) → AllHave (elim o as (λ o. Answered) [
      | None ↦ nothing world
      | Some place ↦ elim end.number as (λ o. Answered) [
        | None ↦ nothing world
        | Some number ↦ cell_hears place (events.Socket (event number)) world
      ]
    ])
    by_cell None = a
    by_cell (Some place) = by_number place end.number

  with_entry : (entry : Entry) (done : Answered) → AllHave done → AllHave (after_entry entry done)
  unfolding AllHave
  with_entry entry (Ok done) a = a
  with_entry entry (Err stop) a = tt

  -- ---- happenings

  joined : (socket : WorldSocket) (world : World) → AllCells P world.cells → AllHave (joins socket world)
  joined socket world a = with_entry (entries.Joined socket.name) (end_hears socket.o (λ sock. sockets.Joined sock) (with_end_of socket.name O opened world)) (heard_by socket.o (λ sock. sockets.Joined sock) (with_end_of socket.name O opened world) (alike world (with_end_of socket.name O opened world) (end_changed socket.name O opened world) a))

  refused : (socket : WorldSocket) (world : World) → AllCells P world.cells → AllHave (refuses socket world)
  refused socket world a = with_entry (entries.Refused socket.name) (end_hears socket.o (λ sock. sockets.Refused sock) world) (heard_by socket.o (λ sock. sockets.Refused sock) world a)

  came_at : (place : ℕ) (socket : WorldSocket) (world : World) → AllCells P world.cells → AllHave (comes_at place socket world)
  unfolding AllHave
  came_at place socket world a = by_cell (slice_get world.cells place) refl where
    by_cell : (o : Option (Cell × ℕ)) → slice_get world.cells place ≡ o → AllHave (elim o as (λ o. Answered) [
      | None ↦ nothing world
      | Some cell ↦ cell_hears place (events.Came (mark_of socket.o) (2 * cell.1 + 1) socket.from_host) (with_end_of socket.name T (λ end. record (opened end) { number = Some (2 * cell.1 + 1) }) (with_cell place (cell.0, cell.1 + 1) world))
    ])
    by_cell None e = a
    by_cell (Some cell) e =
        let now : World = with_cell place (cell.0, cell.1 + 1) world in
        let next : World = with_end_of socket.name T (λ end. record (opened end) { number = Some (2 * cell.1 + 1) }) now in
        hears place (events.Came (mark_of socket.o) (2 * cell.1 + 1) socket.from_host) next (alike now next (end_changed socket.name T (λ end. record (opened end) { number = Some (2 * cell.1 + 1) }) now) (set_one world.cells place (cell.0, cell.1 + 1) (get_one world.cells place cell a e) a))

  came : (socket : WorldSocket) (world : World) → AllCells P world.cells → AllHave (comes socket world)
  unfolding AllHave
  came socket world a = by_cell socket.t.cell where
    by_cell : (o : Option ℕ) → AllHave (elim o as (λ o. Answered) [
      | None ↦ nothing world
      | Some place ↦ after_entry (entries.Came socket.name) (comes_at place socket world)
    ])
    by_cell None = a
    by_cell (Some place) = with_entry (entries.Came socket.name) (comes_at place socket world) (came_at place socket world a)

  handed : (bytes : List ℕ) (end : WorldEnd) (world : World) → AllCells P world.cells → AllHave (hands bytes end world)
  handed [] end world a = heard_by end (λ sock. sockets.Ended sock) world a
  handed (b ∷ bytes) end world a = heard_by end (λ sock. sockets.Fed sock (b ∷ bytes)) world a

  fed : (which : End) (count : ℕ) (socket : WorldSocket) (world : World) → AllCells P world.cells → AllHave (feeds which count socket world)
  fed which count socket world a =
      let next : World = with_end_of socket.name which (λ end. record end { unread = drop count end.unread }) world in
      with_entry (entries.Fed socket.name which (length (take count (end_of which socket).unread))) (hands (take count (end_of which socket).unread) (end_of which socket) next) (handed (take count (end_of which socket).unread) (end_of which socket) next (alike world next (end_changed socket.name which (λ end. record end { unread = drop count end.unread }) world) a))

  lost : (which : End) (socket : WorldSocket) (world : World) → AllCells P world.cells → AllHave (loses which socket world)
  lost which socket world a = with_entry (entries.Lost socket.name which) (end_hears (end_of which socket) (λ sock. sockets.Lost sock) world) (heard_by (end_of which socket) (λ sock. sockets.Lost sock) world a)

  timed_out : (node peer : List ℕ) (world : World) → AllCells P world.cells → AllHave (times_out node peer world)
  unfolding AllHave
  timed_out node peer world a = by_place (cell_of world (named_as world.names node).address) where
    by_place : (o : Option ℕ) → AllHave (elim o as (λ o. Answered) [
      | None ↦ nothing world
      | Some place ↦ after_entry (entries.Timed node peer) (cell_hears place (events.Socket (sockets.Late (named_as world.names node).address.id (named_as world.names peer).address)) world)
    ])
    by_place None = a
    by_place (Some place) = with_entry (entries.Timed node peer) (cell_hears place (events.Socket (sockets.Late (named_as world.names node).address.id (named_as world.names peer).address)) world) (hears place (events.Socket (sockets.Late (named_as world.names node).address.id (named_as world.names peer).address)) world a)

  -- ---- lines

  node_heard : (name : List ℕ) (event : ℕ → LocalEvent) (world : World) → AllCells P world.cells → AllHave (node_hears name event world)
  unfolding AllHave
  node_heard name event world a = by_place (cell_of world (address_as world.names name)) where
    by_place : (o : Option ℕ) → AllHave (elim o as (λ o. Answered) [
      | None ↦ nothing world
      | Some place ↦ cell_hears place (event (address_as world.names name).id) world
    ])
    by_place None = a
    by_place (Some place) = hears place (event (address_as world.names name).id) world a

  on_one : (name : SockName) (test : WorldSocket → Bool) (f : WorldSocket → World → Answered) (world : World) → AllCells P world.cells → ((socket : WorldSocket) → AllHave (f socket world)) → AllHave (on_socket name test f world)
  unfolding AllHave
  on_one name test f world a g = by_found (find (is_socket_named name) world.sockets) where
    by_test : (socket : WorldSocket) (b : Bool) → AllHave (cond b (f socket world) (nothing world))
    by_test socket true = g socket
    by_test socket false = a

    by_found : (o : Option WorldSocket) → AllHave (elim o as (λ o. Answered) [
      | None ↦ nothing world
      | Some socket ↦ cond (test socket) (f socket world) (nothing world)
    ])
    by_found None = a
    by_found (Some socket) = by_test socket (test socket)

  other_has : (what : What) (world : World) → AllCells P world.cells → AllHave (other_line what world)
  unfolding AllHave
  other_has (lines.Proc node) world a = node_heard node (λ end. events.Make end) world a
  other_has (lines.Shut node) world a = node_heard node (λ end. events.Shut end) world a
  other_has (lines.Join sock) world a = on_one sock can_join joins world a (λ socket. joined socket world a)
  other_has (lines.Come sock) world a = on_one sock can_come comes world a (λ socket. came socket world a)
  other_has (lines.Refuse sock) world a = on_one sock can_refuse refuses world a (λ socket. refused socket world a)
  other_has (lines.Feed sock end count) world a = on_one sock (can_feed end) (feeds end count) world a (λ socket. fed end count socket world a)
  other_has (lines.Cut sock end) world a = on_one sock (can_cut end) (cuts end) world a (λ socket. alike world (with_end_of socket.name end cut world) (end_changed socket.name end cut world) a)
  other_has (lines.Lose sock end) world a = on_one sock (is_at_work end) (loses end) world a (λ socket. lost end socket world a)
  other_has (lines.Late node peer) world a = by_test (timer_runs_for world node peer) where
    by_test : (b : Bool) → AllHave (cond b (times_out node peer world) (nothing world))
    by_test true = timed_out node peer world a
    by_test false = a
  other_has (lines.Knock stranger node) world a = a
  other_has (lines.Poke sock bytes) world a = on_one sock is_strangers (pokes bytes) world a (λ socket. alike world (with_end_of socket.name T (arrives bytes) world) (end_changed socket.name T (arrives bytes) world) a)
  other_has (lines.Quit sock) world a = on_one sock is_strangers quits world a (λ socket. alike world (with_end_of socket.name O ended world) (end_changed socket.name O ended world) a)
  other_has what world a = a

  line_has : (what : What) (world : World) → AllCells P world.cells → AllHave (line_done what world)
  unfolding AllHave
  line_has what world a = by_command (command_as world.names what) where
    by_command : (o : Option (ProcName × Command)) → AllHave (elim o as (λ o. Answered) [
      | None ↦ other_line what world
      | Some asked ↦ node_hears asked.0.node (λ end. events.Command end asked.0.counter asked.1) world
    ])
    by_command None = other_has what world a
    by_command (Some asked) = node_heard asked.0.node (λ end. events.Command end asked.0.counter asked.1) world a

  -- ---- settling

  opening : (which : End) (socket : WorldSocket) (world : World) → AllCells P world.cells → AllHave (opens which socket world)
  unfolding AllHave
  opening T socket world a = came socket world a
  opening O socket world a = by_host (is_some socket.t.cell) where
    by_host : (b : Bool) → AllHave (cond b (joins socket world) (refuses socket world))
    by_host true = joined socket world a
    by_host false = refused socket world a

  visited : (which : End) (socket : WorldSocket) (world : World) → AllCells P world.cells → AllHave (visits which socket world)
  unfolding AllHave
  visited which socket world a = by_stage (end_of which socket).stage where
    by_stage : (stage : Stage) → AllHave (elim stage as (λ s. Answered) [
      | Pending ↦ opens which socket world
      | Open ↦ feeds which (length (end_of which socket).unread) socket world
      | Ended ↦ feeds which 0 socket world
    ])
    by_stage Pending = opening which socket world a
    by_stage Open = fed which (length (end_of which socket).unread) socket world a
    by_stage Ended = fed which 0 socket world a

  has_happened : (done : Answered) → AllHave done → AllHave (happened done)
  unfolding AllHave
  has_happened (Ok done) a = a
  has_happened (Err stop) a = tt

  after_both : (before : List Entry) (done : Happened) → AllHave done → AllHave (after_happened before done)
  unfolding AllHave
  after_both before (Ok done) a = a
  after_both before (Err stop) a = tt

  then_one : (done : Happened) (f : World → Happened) → AllHave done → ((next : World) → AllCells P next.cells → AllHave (f next)) → AllHave (then_happens done f)
  unfolding AllHave
  then_one (Ok done) f a g = after_both done.0 (f done.1) (g done.1 a)
  then_one (Err stop) f a g = tt

  timer_has : (link : List ℕ × List ℕ) (world : World) → AllCells P world.cells → AllHave (timer_due link world)
  unfolding AllHave
  timer_has link world a = by_test (timer_runs_for world link.0 link.1) where
    by_test : (b : Bool) → AllHave (cond b (happened (times_out link.0 link.1 world)) (Ok ([], world)))
    by_test true = has_happened (times_out link.0 link.1 world) (timed_out link.0 link.1 world a)
    by_test false = a

  timers_have : (links : List (List ℕ × List ℕ)) (world : World) → AllCells P world.cells → AllHave (timers_due links world)
  unfolding AllHave
  timers_have [] world a = a
  timers_have (link ∷ rest) world a = then_one (timer_due link world) (timers_due rest) (timer_has link world a) (timers_have rest)

  SeenHave : Option (Happened × Pass) → Type 0
  SeenHave None = Unit {0}
  SeenHave (Some seen) = AllHave seen.0

  seen_has : (pass : Pass) (world : World) → AllCells P world.cells → SeenHave (see pass world)
  unfolding AllHave SeenHave
  seen_has pass world a = by_visit (next_visit pass world) where
    by_test : (b : Bool) → SeenHave (cond b (Some (timers_due (all_links world) world, from_start)) None)
    by_test true = timers_have (all_links world) world a
    by_test false = tt

    by_visit : (o : Option Visit) → SeenHave (elim o as (λ o. Option (Happened × Pass)) [
      | Some visit ↦ Some (happened (visits visit.which visit.socket world), after_visit visit)
      | None ↦ cond (some_timer_runs world) (Some (timers_due (all_links world) world, from_start)) None
    ])
    by_visit (Some visit) = has_happened (visits visit.which visit.socket world) (visited visit.which visit.socket world a)
    by_visit None = by_test (some_timer_runs world)

  MayHave : Option Happened → Type 0
  MayHave None = Unit {0}
  MayHave (Some done) = AllHave done

  settled_has : (fuel : ℕ) (pass : Pass) (world : World) → AllCells P world.cells → MayHave (settled_in fuel pass world)
  unfolding AllHave SeenHave MayHave
  settled_has zero pass world a = by_seen (see pass world) where
    by_seen : (o : Option (Happened × Pass)) → MayHave (elim o as (λ o. Option Happened) [
      | None ↦ Some (Ok ([], world))
      | Some done ↦ None
    ])
    by_seen None = a
    by_seen (Some done) = tt
  settled_has (suc fuel) pass world a = by_seen (see pass world) (seen_has pass world a) (settled_has fuel) where
    by_rest : (before : List Entry) (o : Option Happened) → MayHave o → MayHave (before_rest before o)
    by_rest before None m = tt
    by_rest before (Some more) m = after_both before more m

    by_one : (done : Happened) (next : Pass) → AllHave done → ((p : Pass) (w : World) → AllCells P w.cells → MayHave (settled_in fuel p w)) → MayHave (elim done as (λ d. Option Happened) [
      | Err stop ↦ Some (Err stop)
      | Ok one ↦ before_rest one.0 (settled_in fuel next one.1)
    ])
    by_one (Err stop) next g ih = tt
    by_one (Ok one) next g ih = by_rest one.0 (settled_in fuel next one.1) (ih next one.1 g)

    by_seen : (o : Option (Happened × Pass)) → SeenHave o → ((p : Pass) (w : World) → AllCells P w.cells → MayHave (settled_in fuel p w)) → MayHave (elim o as (λ o. Option Happened) [
      | None ↦ Some (Ok ([], world))
      | Some done ↦ elim done.0 as (λ d. Option Happened) [
        | Err stop ↦ Some (Err stop)
        | Ok one ↦ before_rest one.0 (settled_in fuel done.1 one.1)
      ]
    ])
    by_seen None g ih = a
    by_seen (Some done) g ih = by_one done.0 done.1 g ih

  -- ---- whole journals

  answered : (number : ℕ) (done : Answered) → AllHave done → AllHave (line_answered number done)
  unfolding AllHave
  answered number (Ok done) a = a
  answered number (Err stop) a = tt

  settled : (number : ℕ) (world : World) (o : Option Happened) → AllCells P world.cells → MayHave o → AllHave (line_settled number world o)
  unfolding AllHave MayHave
  settled number world None a m = a
  settled number world (Some (Ok done)) a m = m
  settled number world (Some (Err stop)) a m = tt

  event_has : (number : ℕ) (what : What) (world : World) → AllCells P world.cells → AllHave (event_step number what world)
  event_has number lines.Settle world a = settled number world (settles world) a (settled_has (weight_of world) from_start world a)
  event_has number what world a = answered number (line_done what world) (line_has what world a)

  step_has : (world : World) (line : Line) → AllCells P world.cells → AllHave (world_step world line)
  unfolding AllHave
  step_has world line a = by_test (is_declaration line.what) where
    by_test : (b : Bool) → AllHave (cond b (Ok ([], world)) (event_step line.number line.what world))
    by_test true = a
    by_test false = event_has line.number line.what world a

  lines_have : (world : World) (all : List Line) → AllCells P world.cells → AllHave (log_from world all)
  unfolding AllHave
  lines_have world [] a = a
  lines_have world (line ∷ rest) a = by_done (world_step world line) (step_has world line a) (λ next. lines_have next rest) where
    by_more : (before : List Entry) (more : Happened) → AllHave more → AllHave (more >>= (λ more. Ok (before ++ more.0, more.1)))
    by_more before (Ok more) m = m
    by_more before (Err stop) m = tt

    by_done : (done : Happened) → AllHave done → ((next : World) → AllCells P next.cells → AllHave (log_from next rest)) → AllHave (done >>= (λ done. log_from done.1 rest >>= (λ more. Ok (done.0 ++ more.0, more.1))))
    by_done (Ok done) g ih = by_more done.0 (log_from done.1 rest) (ih done.1 g)
    by_done (Err stop) g ih = tt

  -- every cell after any lines
  pub cells_after : (world after : World) (all : List Line) (log : List Entry) → AllCells P world.cells → log_from world all ≡ Ok (log, after) → AllCells P after.cells
  unfolding AllHave
  cells_after world after all log a e = subst (λ (r : Happened). AllHave r) e (lines_have world all a)
