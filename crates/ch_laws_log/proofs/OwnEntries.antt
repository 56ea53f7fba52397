-- What each line does: nothing is told where it isn't done, and its own entry stands first where it is.
use Rattle.std.proofs.Common.{◌≡◌, ℕ, ◌+◌, ◌*◌, ◌<◌, length, Bool, true, false, cond, not, ◌&&◌, ◌||◌, List, [], ◌∷◌, Ok, Err, refl, sym, ap, ◌∙◌, subst}
use Rattle.std.specs.Str.{bytes_eq}
use Rattle.std.specs.Prelude.{find, is_some, slice_get, Result, Option, Some, None}
use Rattle.ch_base.specs.declared.address.Address.{Address}
use Rattle.ch_static.specs.declared.command.Command.{Command}
use Rattle.ch_model.specs.declared.act.Act.{Act}
use Rattle.ch_model.specs.declared.command.CommandError.{CommandError}
use Rattle.ch_model.specs.declared.command.CommandError.TheVariants as errors
use Rattle.ch_model.specs.declared.entry.Entry.{Entry}
use Rattle.ch_model.specs.declared.entry.Entry.TheVariants as entries
use Rattle.ch_model.specs.declared.entry.Verdict.{Verdict}
use Rattle.ch_model.specs.declared.entry.Verdict.TheVariants as verdicts
use Rattle.ch_model.specs.declared.line.Line.{Line}
use Rattle.ch_model.specs.declared.line.What.{What}
use Rattle.ch_model.specs.declared.line.What.TheVariants as lines
use Rattle.ch_model.specs.declared.local.LocalEntry.{LocalEntry}
use Rattle.ch_model.specs.declared.local.LocalEvent.{LocalEvent}
use Rattle.ch_model.specs.declared.local.LocalEvent.TheVariants as events
use Rattle.ch_model.specs.declared.name.End.{End}
use Rattle.ch_model.specs.declared.name.End.TheVariants.{O, T}
use Rattle.ch_model.specs.declared.name.ProcName.{ProcName}
use Rattle.ch_model.specs.declared.name.SockName.{SockName}
use Rattle.ch_model.specs.declared.step.SocketEvent.{SocketEvent}
use Rattle.ch_model.specs.declared.step.SocketEvent.TheVariants as sockets
use Rattle.ch_model.specs.AnswersOwn.{is_own, has_own}
use Rattle.ch_model.specs.Cell.{Celled, answered, refused, refusal, node_did, at_node, commanded, room_for, shut_node, host_did, heard_as, cell_step}
use Rattle.ch_model.specs.CellSteps.{Followed, is_at}
use Rattle.ch_model.specs.Host.{host_on}
use Rattle.ch_model.specs.HostCalls.{host_timer_runs}
use Rattle.ch_model.specs.HostSteps.{Stepped}
use Rattle.ch_model.specs.Naming.{address_as, named_as}
use Rattle.ch_model.specs.Node.{node_make, node_command, node_shut, target_node}
use Rattle.ch_model.specs.NodeState.{NodeState}
use Rattle.ch_model.specs.Same.{same_socket, same_end}
use Rattle.ch_model.specs.Timers.{timer_runs_for}
use Rattle.ch_model.specs.WorldHappenings.{Answered, after_entry, cell_told, cell_hears, joins, refuses, comes_at, comes, loses, times_out, with_cell, mark_of}
use Rattle.ch_model.specs.WorldLines.{command_as, node_hears, on_socket, can_join, can_come, can_refuse, can_cut, is_at_work, cuts, is_strangers, pokes, quits, other_line, line_done}
use Rattle.ch_model.specs.WorldSockets.{end_of, is_socket_named, cell_of, with_end, with_socket, with_end_of, opened}
use Rattle.ch_model.specs.WorldState.{Cell, WorldEnd, WorldSocket, World}
use Rattle.ch_model.specs.WorldSteps.{all_told}
use Rattle.ch_laws_log.specs.Lines.{is_of_no_end, is_of_network}
use Rattle.ch_laws_log.proofs.Agreeing.{Good, length_set, some_within}
use Rattle.ch_laws_log.proofs.Blocks.{RefusedAlone, AnsweredAlone, OwnFirst, AnsweredOwn}
use Rattle.ch_laws_log.proofs.Kept.{IsIn}
use Rattle.ch_laws_log.proofs.Stored.{bytes_same, self_same, find_name}

-- ---- at a cell

abbrev CelledAlone : Celled → Type 0
CelledAlone (Ok done) = RefusedAlone done.0.0 done.0.1
CelledAlone (Err stop) = Unit {0}

-- it is done
abbrev CelledDone : Celled → Type 0
CelledDone (Ok done) = done.0.0 ≡ verdicts.Ok
CelledDone (Err stop) = Unit {0}

abbrev pub IsDone : Answered → Type 0
IsDone (Ok done) = done.0.0 ≡ verdicts.Ok
IsDone (Err stop) = Unit {0}

pub alone_done : (done : Answered) → IsDone done → AnsweredAlone done
alone_done (Ok done) e = subst (λ (v : Verdict). RefusedAlone v done.0.1) (sym e) tt
alone_done (Err stop) e = tt

followed_alone : (done : Followed) → CelledAlone (answered verdicts.Ok done)
followed_alone (Ok done) = tt
followed_alone (Err stop) = tt

followed_done : (verdict : Verdict) (done : Followed) → verdict ≡ verdicts.Ok → CelledDone (answered verdict done)
followed_done verdict (Ok done) e = e
followed_done verdict (Err stop) e = tt

refusal_alone : (e : CommandError) (cell : Cell) → CelledAlone (refusal e cell)
refusal_alone errors.OutOfMemory cell = tt
refusal_alone errors.Worn cell = tt
refusal_alone e cell = refl

node_alone : (end : ℕ) (cell : Cell) (done : Result (List Act × NodeState) CommandError) → CelledAlone (node_did end cell done)
node_alone end cell (Ok done) = followed_alone _
node_alone end cell (Err e) = refusal_alone e cell

shut_alone : (end : ℕ) (cell : Cell) (done : Result (List Act × NodeState) CommandError) → CelledAlone (shut_node end cell done)
shut_alone end cell (Ok done) = followed_alone _
shut_alone end cell (Err e) = refusal_alone e cell

at_node_alone : (end : ℕ) (cell : Cell) (f : NodeState → Celled) → ((node : NodeState) → CelledAlone (f node)) → CelledAlone (at_node end cell f)
at_node_alone end cell f each = by_node (find (is_at end) cell.nodes) where
  by_node : (o : Option (ℕ × NodeState)) → CelledAlone (elim o as (λ o. Celled) [
    | None ↦ refused verdicts.Nothing cell
    | Some node ↦ f node.1
  ])
  by_node None = refl
  by_node (Some node) = each node.1

-- an event of a node
abbrev IsOfNode : LocalEvent → Type 0
IsOfNode (events.Came mark sock peer_host) = ⊥
IsOfNode (events.Socket event) = ⊥
IsOfNode event = Unit {0}

step_alone : (cell : Cell) (event : LocalEvent) → IsOfNode event → CelledAlone (cell_step cell event)
step_alone cell (events.Make end) of = at_node_alone end cell (λ node. node_did end cell (node_make node)) (λ node. node_alone end cell (node_make node))
step_alone cell (events.Command end by command) of = at_node_alone end cell (commanded end by command cell) (λ node. node_alone end cell (node_command node by command (room_for cell.host end node.own (target_node node by command))))
step_alone cell (events.Shut end) of = at_node_alone end cell (λ node. shut_node end cell (node_shut node)) (λ node. shut_alone end cell (node_shut node))
step_alone cell (events.Came mark sock peer_host) of = absurd of
step_alone cell (events.Socket event) of = absurd of

host_done : (verdict : Verdict) (cell : Cell) (done : Stepped) → verdict ≡ verdicts.Ok → CelledDone (host_did verdict cell done)
host_done verdict cell (Ok done) e = followed_done verdict _ e
host_done verdict cell (Err stop) e = tt

told_alone : (place : ℕ) (cell : Cell × ℕ) (world : World) (done : Celled) → CelledAlone done → AnsweredAlone (cell_told place cell world done)
told_alone place cell world (Err stop) a = tt
told_alone place cell world (Ok done) a = by_verdict done.0.0 a where
  none_told : done.0.1 ≡ [] → (all_told place done.1 done.0.1 (with_cell place (done.1, cell.1) world)).0 ≡ []
  none_told e = ap (λ (l : List LocalEntry). (all_told place done.1 l (with_cell place (done.1, cell.1) world)).0) e

  by_verdict : (v : Verdict) → RefusedAlone v done.0.1 → RefusedAlone v (all_told place done.1 done.0.1 (with_cell place (done.1, cell.1) world)).0
  by_verdict verdicts.Ok a = tt
  by_verdict verdicts.Unknown a = none_told a
  by_verdict v a = none_told a

told_done : (place : ℕ) (cell : Cell × ℕ) (world : World) (done : Celled) → CelledDone done → IsDone (cell_told place cell world done)
told_done place cell world (Err stop) a = tt
told_done place cell world (Ok done) a = a

hearing_alone : (place : ℕ) (event : LocalEvent) (world : World) → IsOfNode event → AnsweredAlone (cell_hears place event world)
hearing_alone place event world of = by_cell (slice_get world.cells place) where
  by_cell : (o : Option (Cell × ℕ)) → AnsweredAlone (elim o as (λ o. Answered) [
    | None ↦ Ok ((verdicts.Nothing, []), world)
    | Some cell ↦ cell_told place cell world (cell_step cell.0 event)
  ])
  by_cell None = refl
  by_cell (Some cell) = told_alone place cell world (cell_step cell.0 event) (step_alone cell.0 event of)

node_hearing_alone : (name : List ℕ) (event : ℕ → LocalEvent) (world : World) → ((end : ℕ) → IsOfNode (event end)) → AnsweredAlone (node_hears name event world)
node_hearing_alone name event world of = by_cell (cell_of world (address_as world.names name)) where
  by_cell : (o : Option ℕ) → AnsweredAlone (elim o as (λ o. Answered) [
    | None ↦ Ok ((verdicts.Nothing, []), world)
    | Some place ↦ cell_hears place (event (address_as world.names name).id) world
  ])
  by_cell None = refl
  by_cell (Some place) = hearing_alone place (event (address_as world.names name).id) world (of (address_as world.names name).id)

hearing_done : (place : ℕ) (event : LocalEvent) (world : World) → place < length world.cells → ((cell : Cell) → CelledDone (cell_step cell event)) → IsDone (cell_hears place event world)
hearing_done place event world within each = by_cell (slice_get world.cells place) (some_within world.cells place within) where
  by_cell : (o : Option (Cell × ℕ)) → is_some o ≡ true → IsDone (elim o as (λ o. Answered) [
    | None ↦ Ok ((verdicts.Nothing, []), world)
    | Some cell ↦ cell_told place cell world (cell_step cell.0 event)
  ])
  by_cell None e = absurd cc
  by_cell (Some cell) e = told_done place cell world (cell_step cell.0 event) (each cell.0)

-- ---- what the network does

pub entry_done : (entry : Entry) (done : Answered) → IsDone done → IsDone (after_entry entry done)
entry_done entry (Ok done) e = e
entry_done entry (Err stop) e = tt

cells_stay : (n : SockName) (e : End) (f : WorldEnd → WorldEnd) (world : World) → (with_end_of n e f world).cells ≡ world.cells
cells_stay n e f world = by_socket (find (is_socket_named n) world.sockets) where
  by_socket : (o : Option WorldSocket) → (elim o as (λ o. World) [
    | None ↦ world
    | Some socket ↦ with_socket (with_end e (f (end_of e socket)) socket) world
  ]).cells ≡ world.cells
  by_socket None = refl
  by_socket (Some socket) = refl

comes_there : (journal : List Line) (log : List Entry) (socket : WorldSocket) (world : World) (place : ℕ) → Good journal log world → IsIn socket world → socket.t.cell ≡ Some place → IsDone (after_entry (entries.Came socket.name) (comes_at place socket world))
comes_there journal log socket world place g is e = let within = g.within socket.name socket place is e in entry_done (entries.Came socket.name) (comes_at place socket world) (by_cell within (slice_get world.cells place) (some_within world.cells place within)) where
  came_there : Cell × ℕ → World
  came_there cell = with_end_of socket.name T (λ end. record (opened end) { number = Some (2 * cell.1 + 1) }) (with_cell place (cell.0, cell.1 + 1) world)

  there : (cell : Cell × ℕ) → place < length world.cells → place < length (came_there cell).cells
  there cell within = subst (λ n. place < n) (sym (ap length (cells_stay socket.name T (λ end. record (opened end) { number = Some (2 * cell.1 + 1) }) (with_cell place (cell.0, cell.1 + 1) world)) ∙ length_set world.cells place (cell.0, cell.1 + 1))) within

  by_cell : place < length world.cells → (o : Option (Cell × ℕ)) → is_some o ≡ true → IsDone (elim o as (λ o. Answered) [
    | None ↦ Ok ((verdicts.Nothing, []), world)
    | Some cell ↦ cell_hears place (events.Came (mark_of socket.o) (2 * cell.1 + 1) socket.from_host) (came_there cell)
  ])
  by_cell within None e = absurd cc
  by_cell within (Some cell) e = hearing_done place (events.Came (mark_of socket.o) (2 * cell.1 + 1) socket.from_host) (came_there cell) (there cell within) (λ c. host_done verdicts.Ok c (host_on c.host (sockets.Came (2 * cell.1 + 1) socket.from_host)) refl)

-- a socket whose target's end is of a cell has come
pub comes_verdict : (journal : List Line) (log : List Entry) (socket : WorldSocket) (world : World) (place : ℕ) → Good journal log world → IsIn socket world → socket.t.cell ≡ Some place → IsDone (comes socket world)
comes_verdict journal log socket world place g is e = subst (λ (o : Option ℕ). IsDone (elim o as (λ o. Answered) [
  | None ↦ Ok ((verdicts.Nothing, []), world)
  | Some place ↦ after_entry (entries.Came socket.name) (comes_at place socket world)
])) (sym e) (comes_there journal log socket world place g is e)

pub comes_done : (journal : List Line) (log : List Entry) (socket : WorldSocket) (world : World) → Good journal log world → IsIn socket world → AnsweredAlone (comes socket world)
comes_done journal log socket world g is = by_place socket.t.cell refl where
  by_place : (o : Option ℕ) → socket.t.cell ≡ o → AnsweredAlone (elim o as (λ o. Answered) [
    | None ↦ Ok ((verdicts.Nothing, []), world)
    | Some place ↦ after_entry (entries.Came socket.name) (comes_at place socket world)
  ])
  by_place None e = refl
  by_place (Some place) e = alone_done (after_entry (entries.Came socket.name) (comes_at place socket world)) (comes_there journal log socket world place g is e)

-- a timer that runs is heard
times_done : (node peer : List ℕ) (world : World) → timer_runs_for world node peer ≡ true → AnsweredAlone (times_out node peer world)
times_done node peer world runs = by_place (cell_of world own) runs where
  own : Address
  own = (named_as world.names node).address

  late_event : SocketEvent
  late_event = sockets.Late own.id (named_as world.names peer).address

  runs_at : Option (Cell × ℕ) → Bool
  runs_at o = elim o [
    | None ↦ false
    | Some cell ↦ host_timer_runs cell.0.host own.id (named_as world.names peer).address
  ]

  by_cell : (place : ℕ) (o : Option (Cell × ℕ)) → runs_at o ≡ true → IsDone (elim o as (λ o. Answered) [
    | None ↦ Ok ((verdicts.Nothing, []), world)
    | Some cell ↦ cell_told place cell world (cell_step cell.0 (events.Socket late_event))
  ])
  by_cell place None e = absurd cc
  by_cell place (Some cell) e = told_done place cell world (cell_step cell.0 (events.Socket late_event)) (host_done (heard_as cell.0.host late_event) cell.0 (host_on cell.0.host late_event) (ap (λ b. cond b verdicts.Ok verdicts.Nothing) e))

  by_place : (o : Option ℕ) → (elim o as (λ o. Bool) [
    | None ↦ false
    | Some place ↦ runs_at (slice_get world.cells place)
  ]) ≡ true → AnsweredAlone (elim o as (λ o. Answered) [
    | None ↦ Ok ((verdicts.Nothing, []), world)
    | Some place ↦ after_entry (entries.Timed node peer) (cell_hears place (events.Socket late_event) world)
  ])
  by_place None e = absurd cc
  by_place (Some place) e = alone_done (after_entry (entries.Timed node peer) (cell_hears place (events.Socket late_event) world)) (entry_done (entries.Timed node peer) (cell_hears place (events.Socket late_event) world) (by_cell place (slice_get world.cells place) e))

late_alone : (node peer : List ℕ) (world : World) (b : Bool) → timer_runs_for world node peer ≡ b → AnsweredAlone (cond b (times_out node peer world) (Ok ((verdicts.Nothing, []), world)))
late_alone node peer world true e = times_done node peer world e
late_alone node peer world false e = refl

-- ---- lines

pub on_socket_alone : (sock : SockName) (test : WorldSocket → Bool) (f : WorldSocket → World → Answered) (world : World) → ((s : WorldSocket) → IsIn s world → test s ≡ true → AnsweredAlone (f s world)) → AnsweredAlone (on_socket sock test f world)
on_socket_alone sock test f world each = by_socket (find (is_socket_named sock) world.sockets) refl where
  by_test : (s : WorldSocket) → IsIn s world → (b : Bool) → test s ≡ b → AnsweredAlone (cond b (f s world) (Ok ((verdicts.Nothing, []), world)))
  by_test s is true e = each s is e
  by_test s is false e = refl

  by_socket : (o : Option WorldSocket) → find (is_socket_named sock) world.sockets ≡ o → AnsweredAlone (elim o as (λ o. Answered) [
    | None ↦ Ok ((verdicts.Nothing, []), world)
    | Some socket ↦ cond (test socket) (f socket world) (Ok ((verdicts.Nothing, []), world))
  ])
  by_socket None e = refl
  by_socket (Some s) e = by_test s (subst (λ (n : SockName). find (is_socket_named n) world.sockets ≡ Some s) (sym (find_name sock world.sockets s e)) e) (test s) refl

other_alone : (journal : List Line) (log : List Entry) (what : What) (world : World) → is_of_no_end what ≡ true → Good journal log world → AnsweredAlone (other_line what world)
other_alone journal log (lines.Proc node) world of g = node_hearing_alone node (λ end. events.Make end) world (λ end. tt)
other_alone journal log (lines.Shut node) world of g = node_hearing_alone node (λ end. events.Shut end) world (λ end. tt)
other_alone journal log (lines.Join sock) world of g = absurd cc
other_alone journal log (lines.Come sock) world of g = on_socket_alone sock can_come comes world (λ s is e. comes_done journal log s world g is)
other_alone journal log (lines.Refuse sock) world of g = absurd cc
other_alone journal log (lines.Feed sock end count) world of g = absurd cc
other_alone journal log (lines.Cut sock end) world of g = on_socket_alone sock (can_cut end) (cuts end) world (λ s is e. tt)
other_alone journal log (lines.Lose sock end) world of g = absurd cc
other_alone journal log (lines.Late node peer) world of g = late_alone node peer world (timer_runs_for world node peer) refl
other_alone journal log (lines.Knock stranger node) world of g = tt
other_alone journal log (lines.Poke sock bytes) world of g = on_socket_alone sock is_strangers (pokes bytes) world (λ s is e. tt)
other_alone journal log (lines.Quit sock) world of g = on_socket_alone sock is_strangers quits world (λ s is e. tt)
other_alone journal log what world of g = refl

pub line_alone : (journal : List Line) (log : List Entry) (what : What) (world : World) → is_of_no_end what ≡ true → Good journal log world → AnsweredAlone (line_done what world)
line_alone journal log what world of g = by_command (command_as world.names what) where
  by_command : (o : Option (ProcName × Command)) → AnsweredAlone (elim o as (λ o. Answered) [
    | None ↦ other_line what world
    | Some asked ↦ node_hears asked.0.node (λ end. events.Command end asked.0.counter asked.1) world
  ])
  by_command None = other_alone journal log what world of g
  by_command (Some asked) = node_hearing_alone asked.0.node (λ end. events.Command end asked.0.counter asked.1) world (λ end. tt)

-- ---- own entries

or_always : (b : Bool) → (b || true) ≡ true
or_always true = refl
or_always false = refl

pub own_told : (journal : List Line) (log : List Entry) (what : What) (answer : Verdict) (entry : Entry) (more : List Entry) → is_own journal log what entry ≡ true → OwnFirst journal log what answer (entry ∷ more)
own_told journal log what verdicts.Ok entry more e = ap (λ b. not (has_own log what) || b) e ∙ or_always (not (has_own log what))
own_told journal log what answer entry more e = tt

pub own_entry : (journal : List Line) (log : List Entry) (what : What) (entry : Entry) (done : Answered) → is_own journal log what entry ≡ true → AnsweredOwn journal log what (after_entry entry done)
own_entry journal log what entry (Ok done) e = own_told journal log what done.0.0 entry done.0.1 e
own_entry journal log what entry (Err stop) e = tt

on_socket_own : (journal : List Line) (log : List Entry) (what : What) (sock : SockName) (test : WorldSocket → Bool) (f : WorldSocket → World → Answered) (world : World) → ((s : WorldSocket) → same_socket s.name sock ≡ true → AnsweredOwn journal log what (f s world)) → AnsweredOwn journal log what (on_socket sock test f world)
on_socket_own journal log what sock test f world each = by_socket (find (is_socket_named sock) world.sockets) refl where
  by_test : (s : WorldSocket) → same_socket s.name sock ≡ true → (b : Bool) → AnsweredOwn journal log what (cond b (f s world) (Ok ((verdicts.Nothing, []), world)))
  by_test s is true = each s is
  by_test s is false = tt

  by_socket : (o : Option WorldSocket) → find (is_socket_named sock) world.sockets ≡ o → AnsweredOwn journal log what (elim o as (λ o. Answered) [
    | None ↦ Ok ((verdicts.Nothing, []), world)
    | Some socket ↦ cond (test socket) (f socket world) (Ok ((verdicts.Nothing, []), world))
  ])
  by_socket None e = tt
  by_socket (Some s) e = by_test s (subst (λ (n : SockName). same_socket s.name n ≡ true) (find_name sock world.sockets s e) (self_same s.name)) (test s)

comes_own : (journal : List Line) (log : List Entry) (sock : SockName) (s : WorldSocket) (world : World) → same_socket s.name sock ≡ true → AnsweredOwn journal log (lines.Come sock) (comes s world)
comes_own journal log sock s world e = by_place s.t.cell where
  by_place : (o : Option ℕ) → AnsweredOwn journal log (lines.Come sock) (elim o as (λ o. Answered) [
    | None ↦ Ok ((verdicts.Nothing, []), world)
    | Some place ↦ after_entry (entries.Came s.name) (comes_at place s world)
  ])
  by_place None = tt
  by_place (Some place) = own_entry journal log (lines.Come sock) (entries.Came s.name) (comes_at place s world) e

pub same_end_self : (e : End) → same_end e e ≡ true
same_end_self O = refl
same_end_self T = refl

of_end : (a : Bool) (e : End) → a ≡ true → (a && same_end e e) ≡ true
of_end true e h = same_end_self e
of_end false e h = absurd cc

late_own : (journal : List Line) (log : List Entry) (node peer : List ℕ) (world : World) (b : Bool) → AnsweredOwn journal log (lines.Late node peer) (cond b (times_out node peer world) (Ok ((verdicts.Nothing, []), world)))
late_own journal log node peer world false = tt
late_own journal log node peer world true = by_place (cell_of world (named_as world.names node).address) where
  late_event : LocalEvent
  late_event = events.Socket (sockets.Late (named_as world.names node).address.id (named_as world.names peer).address)

  by_place : (o : Option ℕ) → AnsweredOwn journal log (lines.Late node peer) (elim o as (λ o. Answered) [
    | None ↦ Ok ((verdicts.Nothing, []), world)
    | Some place ↦ after_entry (entries.Timed node peer) (cell_hears place late_event world)
  ])
  by_place None = tt
  by_place (Some place) = own_entry journal log (lines.Late node peer) (entries.Timed node peer) (cell_hears place late_event world) (ap (λ b. b && bytes_eq peer peer) (bytes_same node) ∙ bytes_same peer)

pub line_own : (journal : List Line) (log : List Entry) (what : What) (world : World) → is_of_network what ≡ true → Good journal log world → AnsweredOwn journal log what (line_done what world)
line_own journal log (lines.Join sock) world of g = on_socket_own journal log (lines.Join sock) sock can_join joins world (λ s e. own_entry journal log (lines.Join sock) (entries.Joined s.name) _ e)
line_own journal log (lines.Come sock) world of g = on_socket_own journal log (lines.Come sock) sock can_come comes world (λ s e. comes_own journal log sock s world e)
line_own journal log (lines.Refuse sock) world of g = on_socket_own journal log (lines.Refuse sock) sock can_refuse refuses world (λ s e. own_entry journal log (lines.Refuse sock) (entries.Refused s.name) _ e)
line_own journal log (lines.Cut sock end) world of g = on_socket_own journal log (lines.Cut sock end) sock (can_cut end) (cuts end) world (λ s e. own_told journal log (lines.Cut sock end) verdicts.Ok (entries.Cut s.name end) [] (of_end (same_socket s.name sock) end e))
line_own journal log (lines.Lose sock end) world of g = on_socket_own journal log (lines.Lose sock end) sock (is_at_work end) (loses end) world (λ s e. own_entry journal log (lines.Lose sock end) (entries.Lost s.name end) _ (of_end (same_socket s.name sock) end e))
line_own journal log (lines.Late node peer) world of g = late_own journal log node peer world (timer_runs_for world node peer)
line_own journal log (lines.Poke sock bytes) world of g = on_socket_own journal log (lines.Poke sock bytes) sock is_strangers (pokes bytes) world (λ s e. own_told journal log (lines.Poke sock bytes) verdicts.Ok (entries.Poked s.name bytes) [] (ap (λ b. b && bytes_eq bytes bytes) e ∙ bytes_same bytes))
line_own journal log (lines.Quit sock) world of g = on_socket_own journal log (lines.Quit sock) sock is_strangers quits world (λ s e. own_told journal log (lines.Quit sock) verdicts.Ok (entries.Quitted s.name) [] e)
line_own journal log (lines.Node name address unique) world of g = tt
line_own journal log (lines.Away name address unique) world of g = tt
line_own journal log (lines.Label node label) world of g = tt
line_own journal log (lines.Stranger name host) world of g = tt
line_own journal log lines.Settle world of g = tt
line_own journal log what world of g = absurd cc
