-- What each thing that happens keeps of a log and its world, with all that a cell makes of it, is kept by all lines.
use Rattle.std.proofs.Common.{◌≡◌, ℕ, zero, suc, ◌+◌, ◌*◌, Bool, true, false, cond, ◌&&◌, List, [], ◌∷◌, ◌++◌, length, take, drop, Ok, Err, refl, sym, ap, subst, append_assoc}
use Rattle.std.proofs.lemmas.Bool.{and_parts}
use Rattle.std.proofs.lemmas.List.{append-nil}
use Rattle.std.specs.Prelude.{find, is_some, slice_get, Option, Some, None}
use Rattle.ch_static.specs.declared.command.Command.{Command}
use Rattle.ch_model.specs.declared.entry.Entry.{Entry}
use Rattle.ch_model.specs.declared.entry.Entry.TheVariants as entries
use Rattle.ch_model.specs.declared.entry.Verdict.{Verdict}
use Rattle.ch_model.specs.declared.entry.Verdict.TheVariants as verdicts
use Rattle.ch_model.specs.declared.line.Line.{Line}
use Rattle.ch_model.specs.declared.line.What.{What}
use Rattle.ch_model.specs.declared.line.What.TheVariants as lines
use Rattle.ch_model.specs.declared.local.LocalEntry.{LocalEntry}
use Rattle.ch_model.specs.declared.local.LocalEvent.{LocalEvent}
use Rattle.ch_model.specs.declared.local.LocalEvent.TheVariants as events
use Rattle.ch_model.specs.declared.name.End.{End}
use Rattle.ch_model.specs.declared.name.End.TheVariants.{O, T}
use Rattle.ch_model.specs.declared.name.ProcName.{ProcName}
use Rattle.ch_model.specs.declared.name.SockName.{SockName}
use Rattle.ch_model.specs.declared.step.SocketEvent.{SocketEvent}
use Rattle.ch_model.specs.declared.step.SocketEvent.TheVariants as sockets
use Rattle.ch_model.specs.Cell.{Celled, cell_step}
use Rattle.ch_model.specs.Naming.{address_as, named_as}
use Rattle.ch_model.specs.Settle.{Happened, Visit, Pass, happened, opens, is_due, visits, due_from, due_at, due_in, after_happened, then_happens, timer_due, timers_due, some_timer_runs, next_visit, see, before_rest, settled_in, settles, from_start, weight_of, after_visit}
use Rattle.ch_model.specs.Stages.{Stage, Pending, Open, Ended, is_pending, is_open}
use Rattle.ch_model.specs.Timers.{timer_runs_for, all_links}
use Rattle.ch_model.specs.World.{◌>>=◌, event_step, world_step, line_answered, line_settled, log_from}
use Rattle.ch_model.specs.WorldHappenings.{Answered, after_entry, cell_told, cell_hears, end_hears, with_cell, joins, refuses, comes_at, comes, hands, feeds, loses, times_out, mark_of}
use Rattle.ch_model.specs.WorldLines.{command_as, node_hears, on_socket, can_join, can_come, can_refuse, can_feed, can_cut, is_at_work, cuts, is_strangers, pokes, quits, other_line, line_done}
use Rattle.ch_model.specs.WorldSockets.{end_of, ended, cut, opened, arrives, is_of_host, has_input, is_socket_named, cell_of, with_end_of, with_socket}
use Rattle.ch_model.specs.WorldState.{Cell, WorldEnd, WorldSocket, World}
use Rattle.ch_model.specs.WorldSteps.{all_told}
use Rattle.ch_laws_log.proofs.Kept.{IsIn, stranger_socket, Allowed, AllAllowed, Led, LedOn}
use Rattle.ch_laws_log.proofs.Stored.{Distinct, self_same, find_name, found_before}

-- how things are once a socket has come under this number to the cell at this place, which doesn't know of it yet
abbrev pub Mid : Type 1
Mid = ℕ → ℕ → List Entry → World → Type 0

-- no socket comes by this event
abbrev pub comes_none : LocalEvent → Bool
comes_none (events.Came mark sock peer_host) = false
comes_none (events.Socket (sockets.Came sock peer_host)) = false
comes_none event = true

-- the world after all that followed at a cell, and what was told
abbrev pub after_all : ℕ → Cell → ℕ → List LocalEntry → World → List Entry × World
after_all place cell count told world = all_told place cell told (with_cell place (cell, count) world)

-- Each thing keeps it: all that follows at a cell that hears an event, and what the network and strangers do to a socket; a
-- refusal where R holds, and a feeding of so many of the bytes that are unread where W holds, as it does of all that are.
pub record Keeps (R : Type 0) (W : ℕ → List ℕ → Type 0) (M : Mid) (I : List Entry → World → Type 0) : Type 0 where
  pub whole : (left : List ℕ) → W (length left) left
  pub distinct : (log : List Entry) (world : World) → I log world → Distinct world.sockets
  pub mark : (log : List Entry) (world : World) (number : ℕ) (answer : Verdict) → I log world → I (log ++ entries.Line number answer ∷ []) world
  pub settled : (log : List Entry) (world : World) → I log world → I (log ++ entries.Settled ∷ []) world
  pub heard : (log : List Entry) (world : World) (place : ℕ) (cell : Cell × ℕ) (event : LocalEvent) (verdict : Verdict) (told : List LocalEntry) (after : Cell) → comes_none event ≡ true → slice_get world.cells place ≡ Some cell → cell_step cell.0 event ≡ Ok ((verdict, told), after) → I log world
      → I (log ++ (after_all place after cell.1 told world).0) (after_all place after cell.1 told world).1
  pub heard_come : (log : List Entry) (world : World) (place number mark : ℕ) (host : List ℕ) (cell : Cell × ℕ) (verdict : Verdict) (told : List LocalEntry) (after : Cell) → slice_get world.cells place ≡ Some cell → cell_step cell.0 (events.Came mark number host) ≡ Ok ((verdict, told), after) → M place number log world
      → I (log ++ (after_all place after cell.1 told world).0) (after_all place after cell.1 told world).1
  pub heard_nowhere : (log : List Entry) (world : World) (place number : ℕ) → slice_get world.cells place ≡ None → M place number log world → I log world
  pub joined : (log : List Entry) (world : World) (socket : WorldSocket) → IsIn socket world → is_pending socket.o.stage ≡ true → I log world → I (log ++ entries.Joined socket.name ∷ []) (with_end_of socket.name O opened world)
  pub refused : R → (log : List Entry) (world : World) (socket : WorldSocket) → IsIn socket world → is_pending socket.o.stage ≡ true → I log world → I (log ++ entries.Refused socket.name ∷ []) world
  pub came : (log : List Entry) (world : World) (socket : WorldSocket) (place : ℕ) (cell : Cell × ℕ) → IsIn socket world → is_pending socket.t.stage ≡ true → socket.t.cell ≡ Some place → slice_get world.cells place ≡ Some cell → I log world
      → M place (2 * cell.1 + 1) (log ++ entries.Came socket.name ∷ []) (with_end_of socket.name T (λ end. record (opened end) { number = Some (2 * cell.1 + 1) }) (with_cell place (cell.0, cell.1 + 1) world))
  pub came_nowhere : (log : List Entry) (world : World) (socket : WorldSocket) (place : ℕ) → IsIn socket world → socket.t.cell ≡ Some place → slice_get world.cells place ≡ None → I log world → I (log ++ entries.Came socket.name ∷ []) world
  pub fed : (log : List Entry) (world : World) (socket : WorldSocket) (which : End) (count : ℕ) → IsIn socket world → is_open (end_of which socket).stage ≡ true → has_input which socket ≡ true → W count (end_of which socket).unread → I log world
      → I (log ++ entries.Fed socket.name which (length (take count (end_of which socket).unread)) ∷ []) (with_end_of socket.name which (λ end. record end { unread = drop count end.unread }) world)
  pub lost : (log : List Entry) (world : World) (socket : WorldSocket) (which : End) → I log world → I (log ++ entries.Lost socket.name which ∷ []) world
  pub timed : (log : List Entry) (world : World) (node peer : List ℕ) → I log world → I (log ++ entries.Timed node peer ∷ []) world
  pub was_cut : (log : List Entry) (world : World) (socket : WorldSocket) (which : End) → IsIn socket world → I log world → I (log ++ entries.Cut socket.name which ∷ []) (with_end_of socket.name which cut world)
  pub knocked : (log : List Entry) (world : World) (stranger node : List ℕ) → I log world → I (log ++ entries.Knocked (stranger_socket stranger node world).name ∷ []) (with_socket (stranger_socket stranger node world) world)
  pub poked : (log : List Entry) (world : World) (socket : WorldSocket) (bytes : List ℕ) → IsIn socket world → I log world → I (log ++ entries.Poked socket.name bytes ∷ []) (with_end_of socket.name T (arrives bytes) world)
  pub quitted : (log : List Entry) (world : World) (socket : WorldSocket) → IsIn socket world → I log world → I (log ++ entries.Quitted socket.name ∷ []) (with_end_of socket.name O ended world)

abbrev LedAll : (List Entry → World → Type 0) → List Entry → Option Happened → Type 0
LedAll I log None = Unit {0}
LedAll I log (Some done) = LedOn I log done

at_rest : (I : List Entry → World → Type 0) (log : List Entry) (world : World) → I log world → I (log ++ []) world
at_rest I log world i = subst (λ (l : List Entry). I l world) (sym (append-nil log)) i

onward : (I : List Entry → World → Type 0) (log one two : List Entry) (world : World) → I ((log ++ one) ++ two) world → I (log ++ (one ++ two)) world
onward I log one two world i = subst (λ (l : List Entry). I l world) (append_assoc log one two) i

-- ---- what followed at a cell

hearing_by : (I : List Entry → World → Type 0) (log : List Entry) (place : ℕ) (event : LocalEvent) (world : World) → (slice_get world.cells place ≡ None → I log world)
    → ((cell : Cell × ℕ) (verdict : Verdict) (all : List LocalEntry) (after : Cell) → slice_get world.cells place ≡ Some cell → cell_step cell.0 event ≡ Ok ((verdict, all), after) → I (log ++ (after_all place after cell.1 all world).0) (after_all place after cell.1 all world).1)
    → Led I log (cell_hears place event world)
hearing_by I log place event world nowhere there = by_cell (slice_get world.cells place) refl where
  by_done : (cell : Cell × ℕ) → slice_get world.cells place ≡ Some cell → (done : Celled) → cell_step cell.0 event ≡ done → Led I log (cell_told place cell world done)
  by_done cell at (Err stop) e = tt
  by_done cell at (Ok done) e = there cell done.0.0 done.0.1 done.1 at e

  by_cell : (o : Option (Cell × ℕ)) → slice_get world.cells place ≡ o → Led I log (elim o as (λ o. Answered) [
    | None ↦ Ok ((verdicts.Nothing, []), world)
    | Some cell ↦ cell_told place cell world (cell_step cell.0 event)
  ])
  by_cell None at = at_rest I log world (nowhere at)
  by_cell (Some cell) at = by_done cell at (cell_step cell.0 event) refl

hearing : {R : Type 0} {W : ℕ → List ℕ → Type 0} {M : Mid} (I : List Entry → World → Type 0) → Keeps R W M I → (log : List Entry) (place : ℕ) (event : LocalEvent) (world : World) → comes_none event ≡ true → I log world → Led I log (cell_hears place event world)
hearing I k log place event world none i = hearing_by I log place event world (λ at. i) (λ cell verdict all after at e. k.heard log world place cell event verdict all after none at e i)

end_hearing : {R : Type 0} {W : ℕ → List ℕ → Type 0} {M : Mid} (I : List Entry → World → Type 0) → Keeps R W M I → (log : List Entry) (end : WorldEnd) (event : ℕ → SocketEvent) (world : World) → ((n : ℕ) → comes_none (events.Socket (event n)) ≡ true) → I log world → Led I log (end_hears end event world)
end_hearing I k log end event world none i = by_cell end.cell end.number where
  by_cell : (o n : Option ℕ) → Led I log (elim o as (λ o. Answered) [
    | None ↦ Ok ((verdicts.Nothing, []), world)
    | Some place ↦ elim n [
      | None ↦ Ok ((verdicts.Nothing, []), world)
      | Some number ↦ cell_hears place (events.Socket (event number)) world
    ]
  ])
  by_cell None n = at_rest I log world i
  by_cell (Some place) None = at_rest I log world i
  by_cell (Some place) (Some number) = hearing I k log place (events.Socket (event number)) world (none number) i

-- ---- happenings

entry_first : (I : List Entry → World → Type 0) (log : List Entry) (entry : Entry) (done : Answered) → Led I (log ++ entry ∷ []) done → Led I log (after_entry entry done)
entry_first I log entry (Ok done) l = onward I log (entry ∷ []) done.0.1 done.1 l
entry_first I log entry (Err stop) l = tt

joining : {R : Type 0} {W : ℕ → List ℕ → Type 0} {M : Mid} (I : List Entry → World → Type 0) → Keeps R W M I → (log : List Entry) (socket : WorldSocket) (world : World) → IsIn socket world → is_pending socket.o.stage ≡ true → I log world → Led I log (joins socket world)
joining I k log socket world is pending i = entry_first I log (entries.Joined socket.name) (end_hears socket.o (λ sock. sockets.Joined sock) (with_end_of socket.name O opened world))
    (end_hearing I k (log ++ entries.Joined socket.name ∷ []) socket.o (λ sock. sockets.Joined sock) (with_end_of socket.name O opened world) (λ n. refl) (k.joined log world socket is pending i))

refusing : {R : Type 0} {W : ℕ → List ℕ → Type 0} {M : Mid} (I : List Entry → World → Type 0) → Keeps R W M I → R → (log : List Entry) (socket : WorldSocket) (world : World) → IsIn socket world → is_pending socket.o.stage ≡ true → I log world → Led I log (refuses socket world)
refusing I k r log socket world is pending i = entry_first I log (entries.Refused socket.name) (end_hears socket.o (λ sock. sockets.Refused sock) world)
    (end_hearing I k (log ++ entries.Refused socket.name ∷ []) socket.o (λ sock. sockets.Refused sock) world (λ n. refl) (k.refused r log world socket is pending i))

coming : {R : Type 0} {W : ℕ → List ℕ → Type 0} {M : Mid} (I : List Entry → World → Type 0) → Keeps R W M I → (log : List Entry) (socket : WorldSocket) (world : World) → IsIn socket world → is_pending socket.t.stage ≡ true → I log world → Led I log (comes socket world)
coming I k log socket world is pending i = by_place socket.t.cell refl where
  came_there : ℕ → Cell × ℕ → World
  came_there place cell = with_end_of socket.name T (λ end. record (opened end) { number = Some (2 * cell.1 + 1) }) (with_cell place (cell.0, cell.1 + 1) world)

  by_cell : (place : ℕ) → socket.t.cell ≡ Some place → (o : Option (Cell × ℕ)) → slice_get world.cells place ≡ o → Led I (log ++ entries.Came socket.name ∷ []) (elim o as (λ o. Answered) [
    | None ↦ Ok ((verdicts.Nothing, []), world)
    | Some cell ↦ cell_hears place (events.Came (mark_of socket.o) (2 * cell.1 + 1) socket.from_host) (came_there place cell)
  ])
  by_cell place at None e = at_rest I (log ++ entries.Came socket.name ∷ []) world (k.came_nowhere log world socket place is at e i)
  by_cell place at (Some cell) e = hearing_by I (log ++ entries.Came socket.name ∷ []) place (events.Came (mark_of socket.o) (2 * cell.1 + 1) socket.from_host) (came_there place cell)
      (λ none. k.heard_nowhere (log ++ entries.Came socket.name ∷ []) (came_there place cell) place (2 * cell.1 + 1) none (k.came log world socket place cell is pending at e i))
      (λ there verdict all after f h. k.heard_come (log ++ entries.Came socket.name ∷ []) (came_there place cell) place (2 * cell.1 + 1) (mark_of socket.o) socket.from_host there verdict all after f h (k.came log world socket place cell is pending at e i))

  by_place : (o : Option ℕ) → socket.t.cell ≡ o → Led I log (elim o as (λ o. Answered) [
    | None ↦ Ok ((verdicts.Nothing, []), world)
    | Some place ↦ after_entry (entries.Came socket.name) (comes_at place socket world)
  ])
  by_place None e = at_rest I log world i
  by_place (Some place) e = entry_first I log (entries.Came socket.name) (comes_at place socket world) (by_cell place e (slice_get world.cells place) refl)

handing : {R : Type 0} {W : ℕ → List ℕ → Type 0} {M : Mid} (I : List Entry → World → Type 0) → Keeps R W M I → (log : List Entry) (bytes : List ℕ) (end : WorldEnd) (world : World) → I log world → Led I log (hands bytes end world)
handing I k log [] end world i = end_hearing I k log end (λ sock. sockets.Ended sock) world (λ n. refl) i
handing I k log (b ∷ bytes) end world i = end_hearing I k log end (λ sock. sockets.Fed sock (b ∷ bytes)) world (λ n. refl) i

feeding : {R : Type 0} {W : ℕ → List ℕ → Type 0} {M : Mid} (I : List Entry → World → Type 0) → Keeps R W M I → (log : List Entry) (which : End) (count : ℕ) (socket : WorldSocket) (world : World) → IsIn socket world → is_open (end_of which socket).stage ≡ true → has_input which socket ≡ true → W count (end_of which socket).unread → I log world → Led I log (feeds which count socket world)
feeding I k log which count socket world is stands input w i = entry_first I log (entries.Fed socket.name which (length bytes)) (hands bytes (end_of which socket) rest)
    (handing I k (log ++ entries.Fed socket.name which (length bytes) ∷ []) bytes (end_of which socket) rest (k.fed log world socket which count is stands input w i)) where
      bytes : List ℕ
      bytes = take count (end_of which socket).unread

      rest : World
      rest = with_end_of socket.name which (λ end. record end { unread = drop count end.unread }) world

losing : {R : Type 0} {W : ℕ → List ℕ → Type 0} {M : Mid} (I : List Entry → World → Type 0) → Keeps R W M I → (log : List Entry) (which : End) (socket : WorldSocket) (world : World) → I log world → Led I log (loses which socket world)
losing I k log which socket world i = entry_first I log (entries.Lost socket.name which) (end_hears (end_of which socket) (λ sock. sockets.Lost sock) world)
    (end_hearing I k (log ++ entries.Lost socket.name which ∷ []) (end_of which socket) (λ sock. sockets.Lost sock) world (λ n. refl) (k.lost log world socket which i))

timing : {R : Type 0} {W : ℕ → List ℕ → Type 0} {M : Mid} (I : List Entry → World → Type 0) → Keeps R W M I → (log : List Entry) (node peer : List ℕ) (world : World) → I log world → Led I log (times_out node peer world)
timing I k log node peer world i = by_cell (cell_of world (named_as world.names node).address) where
  late_event : LocalEvent
  late_event = events.Socket (sockets.Late (named_as world.names node).address.id (named_as world.names peer).address)

  by_cell : (o : Option ℕ) → Led I log (elim o as (λ o. Answered) [
    | None ↦ Ok ((verdicts.Nothing, []), world)
    | Some place ↦ after_entry (entries.Timed node peer) (cell_hears place late_event world)
  ])
  by_cell None = at_rest I log world i
  by_cell (Some place) = entry_first I log (entries.Timed node peer) (cell_hears place late_event world) (hearing I k (log ++ entries.Timed node peer ∷ []) place late_event world refl (k.timed log world node peer i))

-- ---- settling

-- the end of a visit is due, and its socket stands at its name
pub record IsVisit (sockets : List WorldSocket) (visit : Visit) : Type 0 where
  pub is : find (is_socket_named visit.socket.name) sockets ≡ Some visit.socket
  pub due : is_due visit.which visit.socket ≡ true

abbrev AreVisits : List WorldSocket → Option Visit → Type 0
AreVisits sockets None = Unit {0}
AreVisits sockets (Some visit) = IsVisit sockets visit

later_visit : (known : WorldSocket) (rest : List WorldSocket) (o : Option Visit) → Distinct (known ∷ rest) → AreVisits rest o → AreVisits (known ∷ rest) o
later_visit known rest None d v = tt
later_visit known rest (Some visit) d v = record { is = found_before visit.socket.name known rest visit.socket d v.is; due = v.due }

at_head : (known : WorldSocket) (rest : List WorldSocket) → find (is_socket_named known.name) (known ∷ rest) ≡ Some known
at_head known rest = ap (λ b. cond b (Some known) (find (is_socket_named known.name) rest)) (self_same known.name)

from_place : (place : ℕ) (sockets : List WorldSocket) → Distinct sockets → AreVisits sockets (due_from place sockets)
from_place place [] d = tt
from_place place (known ∷ rest) d = by_tests (is_due O known) refl (is_due T known) refl (later_visit known rest (due_from (place + 1) rest) d (from_place (place + 1) rest d.1)) where
  by_tests : (a : Bool) → is_due O known ≡ a → (b : Bool) → is_due T known ≡ b → AreVisits (known ∷ rest) (due_from (place + 1) rest)
      → AreVisits (known ∷ rest) (cond a (Some (record { place = place; which = O; socket = known })) (cond b (Some (record { place = place; which = T; socket = known })) (due_from (place + 1) rest)))
  by_tests true h b g more = record { is = at_head known rest; due = h }
  by_tests false h true g more = record { is = at_head known rest; due = g }
  by_tests false h false g more = more

at_pass : (pass : Pass) (sockets : List WorldSocket) → Distinct sockets → AreVisits sockets (due_at pass sockets)
at_pass pass [] d = tt
at_pass pass (known ∷ rest) d = by_tests pass.at_target (is_due T known) refl where
  by_tests : (a b : Bool) → is_due T known ≡ b → AreVisits (known ∷ rest) (cond a (cond b (Some (record { place = pass.place; which = T; socket = known })) (due_from (pass.place + 1) rest)) (due_from pass.place (known ∷ rest)))
  by_tests true true h = record { is = at_head known rest; due = h }
  by_tests true false h = later_visit known rest (due_from (pass.place + 1) rest) d (from_place (pass.place + 1) rest d.1)
  by_tests false b h = from_place pass.place (known ∷ rest) d

in_rest : (pass : Pass) (n : ℕ) (sockets : List WorldSocket) → Distinct sockets → AreVisits sockets (due_at pass (drop n sockets))
in_rest pass zero sockets d = at_pass pass sockets d
in_rest pass (suc n) [] d = tt
in_rest pass (suc n) (known ∷ rest) d = later_visit known rest (due_at pass (drop n rest)) d (in_rest pass n rest d.1)

next_is : (pass : Pass) (world : World) → Distinct world.sockets → AreVisits world.sockets (next_visit pass world)
next_is pass world d = by_due (due_in pass world) (in_rest pass pass.place world.sockets d) where
  by_due : (o : Option Visit) → AreVisits world.sockets o → AreVisits world.sockets (elim o as (λ o. Option Visit) [
    | Some visit ↦ Some visit
    | None ↦ due_in from_start world
  ])
  by_due None v = in_rest from_start 0 world.sockets d
  by_due (Some visit) v = v

opening : {R : Type 0} {W : ℕ → List ℕ → Type 0} {M : Mid} (I : List Entry → World → Type 0) → Keeps R W M I → R → (log : List Entry) (which : End) (socket : WorldSocket) (world : World) → IsIn socket world → is_pending (end_of which socket).stage ≡ true → I log world → Led I log (opens which socket world)
opening I k r log T socket world is pending i = coming I k log socket world is pending i
opening I k r log O socket world is pending i = by_host (is_some socket.t.cell) where
  by_host : (b : Bool) → Led I log (cond b (joins socket world) (refuses socket world))
  by_host true = joining I k log socket world is pending i
  by_host false = refusing I k r log socket world is pending i

visiting : {R : Type 0} {W : ℕ → List ℕ → Type 0} {M : Mid} (I : List Entry → World → Type 0) → Keeps R W M I → R → (log : List Entry) (which : End) (socket : WorldSocket) (world : World) → IsIn socket world → is_due which socket ≡ true → I log world → Led I log (visits which socket world)
visiting I k r log which socket world is due i = by_stage (end_of which socket).stage refl due where
  by_stage : (stage : Stage) → (end_of which socket).stage ≡ stage → (elim stage as (λ s. Bool) [
    | Pending ↦ is_of_host (end_of which socket)
    | Open ↦ (is_of_host (end_of which socket) && has_input which socket)
    | Ended ↦ false
  ]) ≡ true → Led I log (elim stage as (λ s. Answered) [
    | Pending ↦ opens which socket world
    | Open ↦ feeds which (length (end_of which socket).unread) socket world
    | Ended ↦ feeds which 0 socket world
  ])
  by_stage Pending e h = opening I k r log which socket world is (ap is_pending e) i
  by_stage Open e h = feeding I k log which (length (end_of which socket).unread) socket world is (ap is_open e) (and_parts (is_of_host (end_of which socket)) (has_input which socket) h).1 (k.whole (end_of which socket).unread) i
  by_stage Ended e h = absurd cc

told_on : (I : List Entry → World → Type 0) (log : List Entry) (done : Answered) → Led I log done → LedOn I log (happened done)
told_on I log (Ok done) l = l
told_on I log (Err stop) l = tt

after_on : (I : List Entry → World → Type 0) (log told : List Entry) (more : Happened) → LedOn I (log ++ told) more → LedOn I log (after_happened told more)
after_on I log told (Ok more) l = onward I log told more.0 more.1 l
after_on I log told (Err stop) l = tt

then_on : (I : List Entry → World → Type 0) (log : List Entry) (one : Happened) (f : World → Happened) → LedOn I log one → ((l : List Entry) (w : World) → I l w → LedOn I l (f w)) → LedOn I log (then_happens one f)
then_on I log (Ok done) f a more = after_on I log done.0 (f done.1) (more (log ++ done.0) done.1 a)
then_on I log (Err stop) f a more = tt

one_due : {R : Type 0} {W : ℕ → List ℕ → Type 0} {M : Mid} (I : List Entry → World → Type 0) → Keeps R W M I → (log : List Entry) (link : List ℕ × List ℕ) (world : World) → I log world → LedOn I log (timer_due link world)
one_due I k log link world i = by_test (timer_runs_for world link.0 link.1) where
  by_test : (b : Bool) → LedOn I log (cond b (happened (times_out link.0 link.1 world)) (Ok ([], world)))
  by_test true = told_on I log (times_out link.0 link.1 world) (timing I k log link.0 link.1 world i)
  by_test false = at_rest I log world i

all_due : {R : Type 0} {W : ℕ → List ℕ → Type 0} {M : Mid} (I : List Entry → World → Type 0) → Keeps R W M I → (links : List (List ℕ × List ℕ)) (log : List Entry) (world : World) → I log world → LedOn I log (timers_due links world)
all_due I k [] log world i = at_rest I log world i
all_due I k (link ∷ rest) log world i = then_on I log (timer_due link world) (timers_due rest) (one_due I k log link world i) (all_due I k rest)

abbrev LedSeen : (List Entry → World → Type 0) → List Entry → Option (Happened × Pass) → Type 0
LedSeen I log None = Unit {0}
LedSeen I log (Some seen) = LedOn I log seen.0

seeing : {R : Type 0} {W : ℕ → List ℕ → Type 0} {M : Mid} (I : List Entry → World → Type 0) → Keeps R W M I → R → (log : List Entry) (pass : Pass) (world : World) → I log world → LedSeen I log (see pass world)
seeing I k r log pass world i = by_visit (next_visit pass world) (next_is pass world (k.distinct log world i)) where
  by_test : (b : Bool) → LedSeen I log (cond b (Some (timers_due (all_links world) world, from_start)) None)
  by_test true = all_due I k (all_links world) log world i
  by_test false = tt

  by_visit : (o : Option Visit) → AreVisits world.sockets o → LedSeen I log (elim o as (λ o. Option (Happened × Pass)) [
    | Some visit ↦ Some (happened (visits visit.which visit.socket world), after_visit visit)
    | None ↦ cond (some_timer_runs world) (Some (timers_due (all_links world) world, from_start)) None
  ])
  by_visit None v = by_test (some_timer_runs world)
  by_visit (Some visit) v = told_on I log (visits visit.which visit.socket world) (visiting I k r log visit.which visit.socket world v.is v.due i)

rest_on : (I : List Entry → World → Type 0) (log told : List Entry) (more : Option Happened) → LedAll I (log ++ told) more → LedAll I log (before_rest told more)
rest_on I log told None l = tt
rest_on I log told (Some more) l = after_on I log told more l

settling : {R : Type 0} {W : ℕ → List ℕ → Type 0} {M : Mid} (I : List Entry → World → Type 0) → Keeps R W M I → R → (fuel : ℕ) (log : List Entry) (pass : Pass) (world : World) → I log world → LedAll I log (settled_in fuel pass world)
settling I k r zero log pass world i = by_seen (see pass world) where
  by_seen : (o : Option (Happened × Pass)) → LedAll I log (elim o as (λ o. Option Happened) [
    | None ↦ Some (Ok ([], world))
    | Some done ↦ None
  ])
  by_seen None = at_rest I log world i
  by_seen (Some done) = tt
settling I k r (suc fuel) log pass world i = by_seen (see pass world) (seeing I k r log pass world i) (settling I k r fuel) where
  More : Type 0
  More = (l : List Entry) (p : Pass) (w : World) → I l w → LedAll I l (settled_in fuel p w)

  by_done : (p : Pass) (one : Happened) → LedOn I log one → More → LedAll I log (elim one as (λ o. Option Happened) [
    | Err stop ↦ Some (Err stop)
    | Ok one ↦ before_rest one.0 (settled_in fuel p one.1)
  ])
  by_done p (Err stop) a more = tt
  by_done p (Ok one) a more = rest_on I log one.0 (settled_in fuel p one.1) (more (log ++ one.0) p one.1 a)

  by_seen : (o : Option (Happened × Pass)) → LedSeen I log o → More → LedAll I log (elim o as (λ o. Option Happened) [
    | None ↦ Some (Ok ([], world))
    | Some done ↦ elim done.0 [
      | Err stop ↦ Some (Err stop)
      | Ok one ↦ before_rest one.0 (settled_in fuel done.1 one.1)
    ]
  ])
  by_seen None a more = at_rest I log world i
  by_seen (Some done) a more = by_done done.1 done.0 a more

-- ---- lines

node_hearing : {R : Type 0} {W : ℕ → List ℕ → Type 0} {M : Mid} (I : List Entry → World → Type 0) → Keeps R W M I → (log : List Entry) (name : List ℕ) (event : ℕ → LocalEvent) (world : World) → ((n : ℕ) → comes_none (event n) ≡ true) → I log world → Led I log (node_hears name event world)
node_hearing I k log name event world none i = by_cell (cell_of world (address_as world.names name)) where
  by_cell : (o : Option ℕ) → Led I log (elim o as (λ o. Answered) [
    | None ↦ Ok ((verdicts.Nothing, []), world)
    | Some place ↦ cell_hears place (event (address_as world.names name).id) world
  ])
  by_cell None = at_rest I log world i
  by_cell (Some place) = hearing I k log place (event (address_as world.names name).id) world (none (address_as world.names name).id) i

-- what is done to a socket that stands as the test asks
abbrev LeadsWhere : (List Entry → World → Type 0) → List Entry → World → (WorldSocket → Bool) → (WorldSocket → World → Answered) → Type 0
LeadsWhere I log world test f = (socket : WorldSocket) → IsIn socket world → test socket ≡ true → Led I log (f socket world)

at_socket : (I : List Entry → World → Type 0) (log : List Entry) (sock : SockName) (test : WorldSocket → Bool) (f : WorldSocket → World → Answered) (world : World) → I log world → LeadsWhere I log world test f → Led I log (on_socket sock test f world)
at_socket I log sock test f world i each = by_socket (find (is_socket_named sock) world.sockets) refl where
  by_test : (s : WorldSocket) → IsIn s world → (b : Bool) → test s ≡ b → Led I log (cond b (f s world) (Ok ((verdicts.Nothing, []), world)))
  by_test s is true e = each s is e
  by_test s is false e = at_rest I log world i

  by_socket : (o : Option WorldSocket) → find (is_socket_named sock) world.sockets ≡ o → Led I log (elim o as (λ o. Answered) [
    | None ↦ Ok ((verdicts.Nothing, []), world)
    | Some socket ↦ cond (test socket) (f socket world) (Ok ((verdicts.Nothing, []), world))
  ])
  by_socket None e = at_rest I log world i
  by_socket (Some s) e = by_test s (subst (λ (n : SockName). find (is_socket_named n) world.sockets ≡ Some s) (sym (find_name sock world.sockets s e)) e) (test s) refl

late_on : {R : Type 0} {W : ℕ → List ℕ → Type 0} {M : Mid} (I : List Entry → World → Type 0) → Keeps R W M I → (log : List Entry) (node peer : List ℕ) (world : World) (b : Bool) → I log world → Led I log (cond b (times_out node peer world) (Ok ((verdicts.Nothing, []), world)))
late_on I k log node peer world true i = timing I k log node peer world i
late_on I k log node peer world false i = at_rest I log world i

open_at_work : (which : End) (socket : WorldSocket) → is_at_work which socket ≡ true → is_open (end_of which socket).stage ≡ true
open_at_work which socket e = (and_parts (is_open (end_of which socket).stage) (is_of_host (end_of which socket)) e).0

other_led : {R : Type 0} {W : ℕ → List ℕ → Type 0} {M : Mid} (I : List Entry → World → Type 0) → Keeps R W M I → (log : List Entry) (what : What) (world : World) → Allowed R W what → I log world → Led I log (other_line what world)
other_led I k log (lines.Proc node) world a i = node_hearing I k log node (λ end. events.Make end) world (λ n. refl) i
other_led I k log (lines.Shut node) world a i = node_hearing I k log node (λ end. events.Shut end) world (λ n. refl) i
other_led I k log (lines.Join sock) world a i = at_socket I log sock can_join joins world i (λ s is e. joining I k log s world is (and_parts (is_pending s.o.stage) (is_some s.t.cell) e).0 i)
other_led I k log (lines.Come sock) world a i = at_socket I log sock can_come comes world i (λ s is e. coming I k log s world is e i)
other_led I k log (lines.Refuse sock) world a i = at_socket I log sock can_refuse refuses world i (λ s is e. refusing I k a log s world is e i)
other_led I k log (lines.Feed sock end count) world a i = at_socket I log sock (can_feed end) (feeds end count) world i (λ s is e. feeding I k log end count s world is (open_at_work end s (and_parts (is_at_work end s) (has_input end s) e).0) (and_parts (is_at_work end s) (has_input end s) e).1 (a (end_of end s).unread) i)
other_led I k log (lines.Cut sock end) world a i = at_socket I log sock (can_cut end) (cuts end) world i (λ s is e. k.was_cut log world s end is i)
other_led I k log (lines.Lose sock end) world a i = at_socket I log sock (is_at_work end) (loses end) world i (λ s is e. losing I k log end s world i)
other_led I k log (lines.Late node peer) world a i = late_on I k log node peer world (timer_runs_for world node peer) i
other_led I k log (lines.Knock stranger node) world a i = k.knocked log world stranger node i
other_led I k log (lines.Poke sock bytes) world a i = at_socket I log sock is_strangers (pokes bytes) world i (λ s is e. k.poked log world s bytes is i)
other_led I k log (lines.Quit sock) world a i = at_socket I log sock is_strangers quits world i (λ s is e. k.quitted log world s is i)
other_led I k log what world a i = at_rest I log world i

done_led : {R : Type 0} {W : ℕ → List ℕ → Type 0} {M : Mid} (I : List Entry → World → Type 0) → Keeps R W M I → (log : List Entry) (what : What) (world : World) → Allowed R W what → I log world → Led I log (line_done what world)
done_led I k log what world a i = by_command (command_as world.names what) where
  by_command : (o : Option (ProcName × Command)) → Led I log (elim o as (λ o. Answered) [
    | None ↦ other_line what world
    | Some asked ↦ node_hears asked.0.node (λ end. events.Command end asked.0.counter asked.1) world
  ])
  by_command None = other_led I k log what world a i
  by_command (Some asked) = node_hearing I k log asked.0.node (λ end. events.Command end asked.0.counter asked.1) world (λ n. refl) i

-- ---- a line's mark before what it did

marked : (I : List Entry → World → Type 0) (log : List Entry) (number : ℕ) (done : Answered) → ((answer : Verdict) → Led I (log ++ entries.Line number answer ∷ []) done) → LedOn I log (line_answered number done)
marked I log number (Ok done) l = onward I log (entries.Line number done.0.0 ∷ []) done.0.1 done.1 (l done.0.0)
marked I log number (Err stop) l = tt

settled_last : {R : Type 0} {W : ℕ → List ℕ → Type 0} {M : Mid} (I : List Entry → World → Type 0) → Keeps R W M I → (log : List Entry) (number : ℕ) (world : World) (done : Option Happened) → I (log ++ entries.Line number verdicts.Ok ∷ []) world → LedAll I (log ++ entries.Line number verdicts.Ok ∷ []) done → LedOn I log (line_settled number world done)
settled_last I k log number world None i l = i
settled_last I k log number world (Some (Ok done)) i l = onward I log (entries.Line number verdicts.Ok ∷ []) (done.0 ++ entries.Settled ∷ []) done.1
    (onward I (log ++ entries.Line number verdicts.Ok ∷ []) done.0 (entries.Settled ∷ []) done.1 (k.settled ((log ++ entries.Line number verdicts.Ok ∷ []) ++ done.0) done.1 l))
settled_last I k log number world (Some (Err stop)) i l = tt

event_led : {R : Type 0} {W : ℕ → List ℕ → Type 0} {M : Mid} (I : List Entry → World → Type 0) → Keeps R W M I → (log : List Entry) (number : ℕ) (what : What) (world : World) → Allowed R W what → I log world → LedOn I log (event_step number what world)
event_led I k log number lines.Settle world a i = settled_last I k log number world (settles world) (k.mark log world number verdicts.Ok i)
    (settling I k a (weight_of world) (log ++ entries.Line number verdicts.Ok ∷ []) from_start world (k.mark log world number verdicts.Ok i))
event_led I k log number what world a i = marked I log number (line_done what world) (λ answer. done_led I k (log ++ entries.Line number answer ∷ []) what world a (k.mark log world number answer i))

pub step_led : {R : Type 0} {W : ℕ → List ℕ → Type 0} {M : Mid} (I : List Entry → World → Type 0) → Keeps R W M I → (log : List Entry) (world : World) (number : ℕ) (what : What) → Allowed R W what → I log world → LedOn I log (world_step world (record { number = number; what = what }))
step_led I k log world number (lines.Node name address unique) a i = at_rest I log world i
step_led I k log world number (lines.Away name address unique) a i = at_rest I log world i
step_led I k log world number (lines.Label node label) a i = at_rest I log world i
step_led I k log world number (lines.Stranger name host) a i = at_rest I log world i
step_led I k log world number what a i = event_led I k log number what world a i

-- what each thing keeps is kept by all lines
pub all_led : {R : Type 0} {W : ℕ → List ℕ → Type 0} {M : Mid} (I : List Entry → World → Type 0) → Keeps R W M I → (journal : List Line) (log : List Entry) (world : World) → AllAllowed R W journal → I log world → LedOn I log (log_from world journal)
all_led I k [] log world a i = at_rest I log world i
all_led I k (line ∷ rest) log world a i = by_step (world_step world line) (step_led I k log world line.number line.what a.0 i) (λ l w h. all_led I k rest l w a.1 h) where
  by_rest : (told : List Entry) (more : Happened) → LedOn I (log ++ told) more → LedOn I log (more >>= λ more. Ok (told ++ more.0, more.1))
  by_rest told (Ok more) l = onward I log told more.0 more.1 l
  by_rest told (Err stop) l = tt

  by_step : (one : Happened) → LedOn I log one → ((l : List Entry) (w : World) → I l w → LedOn I l (log_from w rest)) → LedOn I log (one >>= λ done. log_from done.1 rest >>= λ more. Ok (done.0 ++ more.0, more.1))
  by_step (Ok done) a more = by_rest done.0 (log_from done.1 rest) (more (log ++ done.0) done.1 a)
  by_step (Err stop) a more = tt
