-- The streams are kept by any lines, settling included.
use Rattle.std.proofs.Common.{◌≡◌, ℕ, zero, suc, Bool, true, false, cond, ◌&&◌, List, [], ◌∷◌, ◌++◌, length, map, Ok, Err, refl, sym, ap, subst, append_assoc}
use Rattle.std.proofs.lemmas.Bool.{and_parts}
use Rattle.std.specs.Prelude.{find, filter, is_some, slice_get, Option, Some, None}
use Rattle.ch_base.specs.declared.address.Address.{Address}
use Rattle.ch_static.specs.declared.command.Command.{Command}
use Rattle.ch_model.specs.declared.entry.Entry.{Entry}
use Rattle.ch_model.specs.declared.entry.Entry.TheVariants as entries
use Rattle.ch_model.specs.declared.entry.Verdict.{Verdict}
use Rattle.ch_model.specs.declared.entry.Verdict.TheVariants as verdicts
use Rattle.ch_model.specs.declared.line.Line.{Line}
use Rattle.ch_model.specs.declared.line.What.{What}
use Rattle.ch_model.specs.declared.line.What.TheVariants as lines
use Rattle.ch_model.specs.declared.local.LocalEvent.{LocalEvent}
use Rattle.ch_model.specs.declared.local.LocalEvent.TheVariants as events
use Rattle.ch_model.specs.declared.name.End.{End}
use Rattle.ch_model.specs.declared.name.End.TheVariants.{O, T}
use Rattle.ch_model.specs.declared.name.ProcName.{ProcName}
use Rattle.ch_model.specs.declared.name.SockName.{SockName}
use Rattle.ch_model.specs.HostState.{HostState}
use Rattle.ch_model.specs.HostSteps.{own_address}
use Rattle.ch_model.specs.Settle.{Happened, Visit, Pass, happened, opens, visits, after_happened, then_happens, timer_due, timers_due, some_timer_runs, next_visit, see, before_rest, settled_in, settles, from_start, weight_of, after_visit, is_due}
use Rattle.ch_model.specs.Stages.{Stage, Pending, Open, Ended, is_pending, is_open}
use Rattle.ch_model.specs.Timers.{timer_runs_for, all_links}
use Rattle.ch_model.specs.World.{◌>>=◌, cell_at, world_new, event_step, world_step, line_answered, line_settled, log_from, first_of_hosts, nodes_of, labels_of, same_host}
use Rattle.ch_model.specs.WorldHappenings.{Answered, joins, refuses, comes, feeds, loses, times_out}
use Rattle.ch_model.specs.WorldLines.{command_as, node_hears, on_socket, can_join, can_come, can_refuse, can_feed, can_cut, is_at_work, cuts, is_strangers, knocks, pokes, quits, other_line, line_done}
use Rattle.ch_model.specs.WorldSockets.{end_of, is_of_host, has_input, is_socket_named}
use Rattle.ch_model.specs.WorldState.{Cell, Named, WorldSocket, World}
use Rattle.ch_laws_log.proofs.Kept.{IsIn, Led, LedOn}
use Rattle.ch_laws_log.proofs.Stored.{find_name}
use Rattle.ch_laws_ends.proofs.Happen.{joins_sure, comes_sure, refuses_sure, feeds_sure, loses_sure, times_sure, cuts_sure, pokes_sure, quits_sure, knocks_sure, node_sure}
use Rattle.ch_laws_ends.proofs.Lines.{fresh_sure, mark_sure, settled_sure}
use Rattle.ch_laws_ends.proofs.Told.{Sure, rests}
use Rattle.ch_laws_ends.proofs.Visits.{AreVisits, next_is}
use Rattle.ch_laws_writes.specs.Orderly.{IsOrderly}
use Rattle.ch_laws_writes.proofs.Cells.{fresh_cell}
use Rattle.ch_laws_bytes.proofs.Event.{Flowing}
use Rattle.ch_laws_bytes.proofs.Feeds.{feeds_flown}
use Rattle.ch_laws_bytes.proofs.Happen.{Flown, IsQuiet, refuses_flown, loses_flown, times_flown, node_flown, cuts_flown, quits_flown, pokes_flown, knocks_flown}
use Rattle.ch_laws_bytes.proofs.Opens.{joins_flown, comes_flown}

-- hosts and world agree on the ends, and the streams are whole
abbrev pub Whole : (ℕ → ℕ → Address) → List Line → List Entry → World → Type 0
Whole own journal log world = Sure journal log world × Flowing own world

onward : (own : ℕ → ℕ → Address) (journal : List Line) (log one two : List Entry) (world : World) → Whole own journal ((log ++ one) ++ two) world → Whole own journal (log ++ (one ++ two)) world
onward own journal log one two world i = (subst (λ (l : List Entry). Sure journal l world) (append_assoc log one two) i.0, i.1)

mark_whole : (own : ℕ → ℕ → Address) (journal : List Line) (log : List Entry) (world : World) (number : ℕ) (answer : Verdict) → Whole own journal log world → Whole own journal (log ++ entries.Line number answer ∷ []) world
mark_whole own journal log world number answer i = (mark_sure journal log world number answer i.0, i.1)

settled_whole : (own : ℕ → ℕ → Address) (journal : List Line) (log : List Entry) (world : World) → Whole own journal log world → Whole own journal (log ++ entries.Settled ∷ []) world
settled_whole own journal log world i = (settled_sure journal log world i.0, i.1)

rest_whole : (own : ℕ → ℕ → Address) (journal : List Line) (log : List Entry) (world : World) → Whole own journal log world → Whole own journal (log ++ []) world
rest_whole own journal log world i = (rests journal log world i.0, i.1)

-- ---- what happens

both : (own : ℕ → ℕ → Address) (journal : List Line) (log : List Entry) (done : Answered) → Led (Sure journal) log done → Flown own done → Led (Whole own journal) log done
both own journal log (Ok done) s f = (s, f)
both own journal log (Err stop) s f = tt

joins_whole : (own : ℕ → ℕ → Address) (journal : List Line) (log : List Entry) (socket : WorldSocket) (world : World) → IsIn socket world → is_pending socket.o.stage ≡ true → Whole own journal log world → Led (Whole own journal) log (joins socket world)
joins_whole own journal log socket world is p i = both own journal log (joins socket world) (joins_sure journal log socket world is p i.0) (joins_flown own journal log socket world is p i.0 i.1)

comes_whole : (own : ℕ → ℕ → Address) (journal : List Line) (log : List Entry) (socket : WorldSocket) (world : World) → IsIn socket world → is_pending socket.t.stage ≡ true → Whole own journal log world → Led (Whole own journal) log (comes socket world)
comes_whole own journal log socket world is p i = both own journal log (comes socket world) (comes_sure journal log socket world is p i.0) (comes_flown own journal log socket world is p i.0 i.1)

refuses_whole : (own : ℕ → ℕ → Address) (journal : List Line) (log : List Entry) (socket : WorldSocket) (world : World) → IsIn socket world → is_pending socket.o.stage ≡ true → Whole own journal log world → Led (Whole own journal) log (refuses socket world)
refuses_whole own journal log socket world is p i = both own journal log (refuses socket world) (refuses_sure journal log socket world is p i.0) (refuses_flown own journal log socket world i.0 i.1)

feeds_whole : (own : ℕ → ℕ → Address) (journal : List Line) (log : List Entry) (which : End) (count : ℕ) (socket : WorldSocket) (world : World) → IsIn socket world → is_open (end_of which socket).stage ≡ true → is_of_host (end_of which socket) ≡ true → has_input which socket ≡ true → Whole own journal log world → Led (Whole own journal) log (feeds which count socket world)
feeds_whole own journal log which count socket world is o h input i = both own journal log (feeds which count socket world) (feeds_sure journal log which count socket world is o input i.0) (feeds_flown own journal log which count socket world is o h input i.0 i.1)

loses_whole : (own : ℕ → ℕ → Address) (journal : List Line) (log : List Entry) (which : End) (socket : WorldSocket) (world : World) → Whole own journal log world → Led (Whole own journal) log (loses which socket world)
loses_whole own journal log which socket world i = both own journal log (loses which socket world) (loses_sure journal log which socket world i.0) (loses_flown own journal log which socket world i.0 i.1)

times_whole : (own : ℕ → ℕ → Address) (journal : List Line) (log : List Entry) (node peer : List ℕ) (world : World) → Whole own journal log world → Led (Whole own journal) log (times_out node peer world)
times_whole own journal log node peer world i = both own journal log (times_out node peer world) (times_sure journal log node peer world i.0) (times_flown own journal log node peer world i.0 i.1)

cuts_whole : (own : ℕ → ℕ → Address) (journal : List Line) (log : List Entry) (which : End) (socket : WorldSocket) (world : World) → IsIn socket world → Whole own journal log world → Led (Whole own journal) log (cuts which socket world)
cuts_whole own journal log which socket world is i = both own journal log (cuts which socket world) (cuts_sure journal log which socket world is i.0) (cuts_flown own which socket world i.1)

pokes_whole : (own : ℕ → ℕ → Address) (journal : List Line) (log : List Entry) (bytes : List ℕ) (socket : WorldSocket) (world : World) → IsIn socket world → is_strangers socket ≡ true → Whole own journal log world → Led (Whole own journal) log (pokes bytes socket world)
pokes_whole own journal log bytes socket world is of i = both own journal log (pokes bytes socket world) (pokes_sure journal log bytes socket world is i.0) (pokes_flown own bytes socket world is of i.1)

quits_whole : (own : ℕ → ℕ → Address) (journal : List Line) (log : List Entry) (socket : WorldSocket) (world : World) → IsIn socket world → is_strangers socket ≡ true → Whole own journal log world → Led (Whole own journal) log (quits socket world)
quits_whole own journal log socket world is of i = both own journal log (quits socket world) (quits_sure journal log socket world is of i.0) (quits_flown own socket world i.1)

knocks_whole : (own : ℕ → ℕ → Address) (journal : List Line) (log : List Entry) (stranger node : List ℕ) (world : World) → Whole own journal log world → Led (Whole own journal) log (knocks stranger node world)
knocks_whole own journal log stranger node world i = both own journal log (knocks stranger node world) (knocks_sure journal log stranger node world i.0) (knocks_flown own stranger node world i.1)

node_whole : (own : ℕ → ℕ → Address) (journal : List Line) (log : List Entry) (name : List ℕ) (event : ℕ → LocalEvent) (world : World) → ((end : ℕ) → IsQuiet (event end)) → Whole own journal log world → Led (Whole own journal) log (node_hears name event world)
node_whole own journal log name event world q i = both own journal log (node_hears name event world) (node_sure journal log name event world (λ end. (q end).opens) i.0) (node_flown own journal log name event world q i.0 i.1)

-- ---- settling

abbrev LedAll : (ℕ → ℕ → Address) → List Line → List Entry → Option Happened → Type 0
LedAll own journal log None = Unit {0}
LedAll own journal log (Some done) = LedOn (Whole own journal) log done

opening : (own : ℕ → ℕ → Address) (journal : List Line) (log : List Entry) (which : End) (socket : WorldSocket) (world : World) → IsIn socket world → is_pending (end_of which socket).stage ≡ true → Whole own journal log world → Led (Whole own journal) log (opens which socket world)
opening own journal log T socket world is pending i = comes_whole own journal log socket world is pending i
opening own journal log O socket world is pending i = by_host (is_some socket.t.cell) where
  by_host : (b : Bool) → Led (Whole own journal) log (cond b (joins socket world) (refuses socket world))
  by_host true = joins_whole own journal log socket world is pending i
  by_host false = refuses_whole own journal log socket world is pending i

visiting : (own : ℕ → ℕ → Address) (journal : List Line) (log : List Entry) (which : End) (socket : WorldSocket) (world : World) → IsIn socket world → is_due which socket ≡ true → Whole own journal log world → Led (Whole own journal) log (visits which socket world)
visiting own journal log which socket world is due i = by_stage (end_of which socket).stage refl due where
  by_stage : (stage : Stage) → (end_of which socket).stage ≡ stage → (elim stage as (λ s. Bool) [
    | Pending ↦ is_of_host (end_of which socket)
    | Open ↦ (is_of_host (end_of which socket) && has_input which socket)
    | Ended ↦ false
  ]) ≡ true → Led (Whole own journal) log (elim stage as (λ s. Answered) [
    | Pending ↦ opens which socket world
    | Open ↦ feeds which (length (end_of which socket).unread) socket world
    | Ended ↦ feeds which 0 socket world
  ])
  by_stage Pending e h = opening own journal log which socket world is (ap is_pending e) i
  by_stage Open e h = feeds_whole own journal log which (length (end_of which socket).unread) socket world is (ap is_open e) (and_parts (is_of_host (end_of which socket)) (has_input which socket) h).0 (and_parts (is_of_host (end_of which socket)) (has_input which socket) h).1 i
  by_stage Ended e h = absurd cc

told_on : (own : ℕ → ℕ → Address) (journal : List Line) (log : List Entry) (done : Answered) → Led (Whole own journal) log done → LedOn (Whole own journal) log (happened done)
told_on own journal log (Ok done) l = l
told_on own journal log (Err stop) l = tt

after_on : (own : ℕ → ℕ → Address) (journal : List Line) (log told : List Entry) (more : Happened) → LedOn (Whole own journal) (log ++ told) more → LedOn (Whole own journal) log (after_happened told more)
after_on own journal log told (Ok more) l = onward own journal log told more.0 more.1 l
after_on own journal log told (Err stop) l = tt

then_on : (own : ℕ → ℕ → Address) (journal : List Line) (log : List Entry) (one : Happened) (f : World → Happened) → LedOn (Whole own journal) log one → ((l : List Entry) (w : World) → Whole own journal l w → LedOn (Whole own journal) l (f w)) → LedOn (Whole own journal) log (then_happens one f)
then_on own journal log (Ok done) f a more = after_on own journal log done.0 (f done.1) (more (log ++ done.0) done.1 a)
then_on own journal log (Err stop) f a more = tt

one_due : (own : ℕ → ℕ → Address) (journal : List Line) (log : List Entry) (link : List ℕ × List ℕ) (world : World) → Whole own journal log world → LedOn (Whole own journal) log (timer_due link world)
one_due own journal log link world i = by_test (timer_runs_for world link.0 link.1) where
  by_test : (b : Bool) → LedOn (Whole own journal) log (cond b (happened (times_out link.0 link.1 world)) (Ok ([], world)))
  by_test true = told_on own journal log (times_out link.0 link.1 world) (times_whole own journal log link.0 link.1 world i)
  by_test false = rest_whole own journal log world i

all_due : (own : ℕ → ℕ → Address) (journal : List Line) (links : List (List ℕ × List ℕ)) (log : List Entry) (world : World) → Whole own journal log world → LedOn (Whole own journal) log (timers_due links world)
all_due own journal [] log world i = rest_whole own journal log world i
all_due own journal (link ∷ rest) log world i = then_on own journal log (timer_due link world) (timers_due rest) (one_due own journal log link world i) (all_due own journal rest)

abbrev LedSeen : (ℕ → ℕ → Address) → List Line → List Entry → Option (Happened × Pass) → Type 0
LedSeen own journal log None = Unit {0}
LedSeen own journal log (Some seen) = LedOn (Whole own journal) log seen.0

seeing : (own : ℕ → ℕ → Address) (journal : List Line) (log : List Entry) (pass : Pass) (world : World) → Whole own journal log world → LedSeen own journal log (see pass world)
seeing own journal log pass world i = by_visit (next_visit pass world) (next_is pass world i.0.ends.sorted.0.apart) where
  by_test : (b : Bool) → LedSeen own journal log (cond b (Some (timers_due (all_links world) world, from_start)) None)
  by_test true = all_due own journal (all_links world) log world i
  by_test false = tt

  by_visit : (o : Option Visit) → AreVisits world.sockets o → LedSeen own journal log (elim o as (λ o. Option (Happened × Pass)) [
    | Some visit ↦ Some (happened (visits visit.which visit.socket world), after_visit visit)
    | None ↦ cond (some_timer_runs world) (Some (timers_due (all_links world) world, from_start)) None
  ])
  by_visit None v = by_test (some_timer_runs world)
  by_visit (Some visit) v = told_on own journal log (visits visit.which visit.socket world) (visiting own journal log visit.which visit.socket world v.is v.due i)

rest_on : (own : ℕ → ℕ → Address) (journal : List Line) (log told : List Entry) (more : Option Happened) → LedAll own journal (log ++ told) more → LedAll own journal log (before_rest told more)
rest_on own journal log told None l = tt
rest_on own journal log told (Some more) l = after_on own journal log told more l

settling : (own : ℕ → ℕ → Address) (journal : List Line) (fuel : ℕ) (log : List Entry) (pass : Pass) (world : World) → Whole own journal log world → LedAll own journal log (settled_in fuel pass world)
settling own journal zero log pass world i = by_seen (see pass world) where
  by_seen : (o : Option (Happened × Pass)) → LedAll own journal log (elim o as (λ o. Option Happened) [
    | None ↦ Some (Ok ([], world))
    | Some done ↦ None
  ])
  by_seen None = rest_whole own journal log world i
  by_seen (Some done) = tt
settling own journal (suc fuel) log pass world i = by_seen (see pass world) (seeing own journal log pass world i) (settling own journal fuel) where
  More : Type 0
  More = (l : List Entry) (p : Pass) (w : World) → Whole own journal l w → LedAll own journal l (settled_in fuel p w)

  by_done : (p : Pass) (one : Happened) → LedOn (Whole own journal) log one → More → LedAll own journal log (elim one as (λ o. Option Happened) [
    | Err stop ↦ Some (Err stop)
    | Ok one ↦ before_rest one.0 (settled_in fuel p one.1)
  ])
  by_done p (Err stop) a more = tt
  by_done p (Ok one) a more = rest_on own journal log one.0 (settled_in fuel p one.1) (more (log ++ one.0) p one.1 a)

  by_seen : (o : Option (Happened × Pass)) → LedSeen own journal log o → More → LedAll own journal log (elim o as (λ o. Option Happened) [
    | None ↦ Some (Ok ([], world))
    | Some done ↦ elim done.0 [
      | Err stop ↦ Some (Err stop)
      | Ok one ↦ before_rest one.0 (settled_in fuel done.1 one.1)
    ]
  ])
  by_seen None a more = rest_whole own journal log world i
  by_seen (Some done) a more = by_done done.1 done.0 a more

-- ---- lines

-- what is done to a socket that stands as the test asks
abbrev WholeWhere : (ℕ → ℕ → Address) → List Line → List Entry → World → (WorldSocket → Bool) → (WorldSocket → World → Answered) → Type 0
WholeWhere own journal log world test f = (socket : WorldSocket) → IsIn socket world → test socket ≡ true → Led (Whole own journal) log (f socket world)

at_socket : (own : ℕ → ℕ → Address) (journal : List Line) (log : List Entry) (sock : SockName) (test : WorldSocket → Bool) (f : WorldSocket → World → Answered) (world : World) → Whole own journal log world → WholeWhere own journal log world test f → Led (Whole own journal) log (on_socket sock test f world)
at_socket own journal log sock test f world i each = by_socket (find (is_socket_named sock) world.sockets) refl where
  by_test : (s : WorldSocket) → IsIn s world → (b : Bool) → test s ≡ b → Led (Whole own journal) log (cond b (f s world) (Ok ((verdicts.Nothing, []), world)))
  by_test s is true e = each s is e
  by_test s is false e = rest_whole own journal log world i

  by_socket : (o : Option WorldSocket) → find (is_socket_named sock) world.sockets ≡ o → Led (Whole own journal) log (elim o as (λ o. Answered) [
    | None ↦ Ok ((verdicts.Nothing, []), world)
    | Some socket ↦ cond (test socket) (f socket world) (Ok ((verdicts.Nothing, []), world))
  ])
  by_socket None e = rest_whole own journal log world i
  by_socket (Some s) e = by_test s (subst (λ (n : SockName). find (is_socket_named n) world.sockets ≡ Some s) (sym (find_name sock world.sockets s e)) e) (test s) refl

late_on : (own : ℕ → ℕ → Address) (journal : List Line) (log : List Entry) (node peer : List ℕ) (world : World) (b : Bool) → Whole own journal log world → Led (Whole own journal) log (cond b (times_out node peer world) (Ok ((verdicts.Nothing, []), world)))
late_on own journal log node peer world true i = times_whole own journal log node peer world i
late_on own journal log node peer world false i = rest_whole own journal log world i

at_work : (which : End) (socket : WorldSocket) → is_at_work which socket ≡ true → (is_open (end_of which socket).stage ≡ true) × (is_of_host (end_of which socket) ≡ true)
at_work which socket e = and_parts (is_open (end_of which socket).stage) (is_of_host (end_of which socket)) e

other_whole : (own : ℕ → ℕ → Address) (journal : List Line) (log : List Entry) (what : What) (world : World) → Whole own journal log world → Led (Whole own journal) log (other_line what world)
other_whole own journal log (lines.Proc node) world i = node_whole own journal log node (λ end. events.Make end) world (λ end. record { hands = λ host. refl; dues = λ n due. refl; comes = λ host. tt; opens = refl }) i
other_whole own journal log (lines.Shut node) world i = node_whole own journal log node (λ end. events.Shut end) world (λ end. record { hands = λ host. refl; dues = λ n due. refl; comes = λ host. tt; opens = refl }) i
other_whole own journal log (lines.Join sock) world i = at_socket own journal log sock can_join joins world i (λ s is e. joins_whole own journal log s world is (and_parts (is_pending s.o.stage) (is_some s.t.cell) e).0 i)
other_whole own journal log (lines.Come sock) world i = at_socket own journal log sock can_come comes world i (λ s is e. comes_whole own journal log s world is e i)
other_whole own journal log (lines.Refuse sock) world i = at_socket own journal log sock can_refuse refuses world i (λ s is e. refuses_whole own journal log s world is e i)
other_whole own journal log (lines.Feed sock end count) world i = at_socket own journal log sock (can_feed end) (feeds end count) world i (λ s is e. feeds_whole own journal log end count s world is (at_work end s (and_parts (is_at_work end s) (has_input end s) e).0).0 (at_work end s (and_parts (is_at_work end s) (has_input end s) e).0).1 (and_parts (is_at_work end s) (has_input end s) e).1 i)
other_whole own journal log (lines.Cut sock end) world i = at_socket own journal log sock (can_cut end) (cuts end) world i (λ s is e. cuts_whole own journal log end s world is i)
other_whole own journal log (lines.Lose sock end) world i = at_socket own journal log sock (is_at_work end) (loses end) world i (λ s is e. loses_whole own journal log end s world i)
other_whole own journal log (lines.Late node peer) world i = late_on own journal log node peer world (timer_runs_for world node peer) i
other_whole own journal log (lines.Knock stranger node) world i = knocks_whole own journal log stranger node world i
other_whole own journal log (lines.Poke sock bytes) world i = at_socket own journal log sock is_strangers (pokes bytes) world i (λ s is e. pokes_whole own journal log bytes s world is e i)
other_whole own journal log (lines.Quit sock) world i = at_socket own journal log sock is_strangers quits world i (λ s is e. quits_whole own journal log s world is e i)
other_whole own journal log what world i = rest_whole own journal log world i

line_whole : (own : ℕ → ℕ → Address) (journal : List Line) (log : List Entry) (what : What) (world : World) → Whole own journal log world → Led (Whole own journal) log (line_done what world)
line_whole own journal log what world i = by_command (command_as world.names what) where
  by_command : (o : Option (ProcName × Command)) → Led (Whole own journal) log (elim o as (λ o. Answered) [
    | None ↦ other_line what world
    | Some asked ↦ node_hears asked.0.node (λ end. events.Command end asked.0.counter asked.1) world
  ])
  by_command None = other_whole own journal log what world i
  by_command (Some asked) = node_whole own journal log asked.0.node (λ end. events.Command end asked.0.counter asked.1) world (λ end. record { hands = λ host. refl; dues = λ n due. refl; comes = λ host. tt; opens = refl }) i

-- ---- a line's mark before what it did

marked : (own : ℕ → ℕ → Address) (journal : List Line) (log : List Entry) (number : ℕ) (done : Answered) → ((answer : Verdict) → Led (Whole own journal) (log ++ entries.Line number answer ∷ []) done) → LedOn (Whole own journal) log (line_answered number done)
marked own journal log number (Ok done) l = onward own journal log (entries.Line number done.0.0 ∷ []) done.0.1 done.1 (l done.0.0)
marked own journal log number (Err stop) l = tt

settled_last : (own : ℕ → ℕ → Address) (journal : List Line) (log : List Entry) (number : ℕ) (world : World) (done : Option Happened) → Whole own journal (log ++ entries.Line number verdicts.Ok ∷ []) world → LedAll own journal (log ++ entries.Line number verdicts.Ok ∷ []) done → LedOn (Whole own journal) log (line_settled number world done)
settled_last own journal log number world None i l = i
settled_last own journal log number world (Some (Ok done)) i l = onward own journal log (entries.Line number verdicts.Ok ∷ []) (done.0 ++ entries.Settled ∷ []) done.1
    (onward own journal (log ++ entries.Line number verdicts.Ok ∷ []) done.0 (entries.Settled ∷ []) done.1 (settled_whole own journal ((log ++ entries.Line number verdicts.Ok ∷ []) ++ done.0) done.1 l))
settled_last own journal log number world (Some (Err stop)) i l = tt

event_whole : (own : ℕ → ℕ → Address) (journal : List Line) (log : List Entry) (number : ℕ) (what : What) (world : World) → Whole own journal log world → LedOn (Whole own journal) log (event_step number what world)
event_whole own journal log number lines.Settle world i = settled_last own journal log number world (settles world) (mark_whole own journal log world number verdicts.Ok i)
    (settling own journal (weight_of world) (log ++ entries.Line number verdicts.Ok ∷ []) from_start world (mark_whole own journal log world number verdicts.Ok i))
event_whole own journal log number what world i = marked own journal log number (line_done what world) (λ answer. line_whole own journal (log ++ entries.Line number answer ∷ []) what world (mark_whole own journal log world number answer i))

pub step_whole : (own : ℕ → ℕ → Address) (journal : List Line) (log : List Entry) (world : World) (number : ℕ) (what : What) → Whole own journal log world → LedOn (Whole own journal) log (world_step world (record { number = number; what = what }))
step_whole own journal log world number (lines.Node name address unique) i = rest_whole own journal log world i
step_whole own journal log world number (lines.Away name address unique) i = rest_whole own journal log world i
step_whole own journal log world number (lines.Label node label) i = rest_whole own journal log world i
step_whole own journal log world number (lines.Stranger name host) i = rest_whole own journal log world i
step_whole own journal log world number what i = event_whole own journal log number what world i

-- after some lines
pub all_whole : (own : ℕ → ℕ → Address) (journal rest : List Line) (log : List Entry) (world : World) → Whole own journal log world → LedOn (Whole own journal) log (log_from world rest)
all_whole own journal [] log world i = rest_whole own journal log world i
all_whole own journal (line ∷ rest) log world i = by_step (world_step world line) (step_whole own journal log world line.number line.what i) (all_whole own journal rest) where
  by_rest : (told : List Entry) (more : Happened) → LedOn (Whole own journal) (log ++ told) more → LedOn (Whole own journal) log (more >>= λ more. Ok (told ++ more.0, more.1))
  by_rest told (Ok more) l = onward own journal log told more.0 more.1 l
  by_rest told (Err stop) l = tt

  by_step : (one : Happened) → LedOn (Whole own journal) log one → ((l : List Entry) (w : World) → Whole own journal l w → LedOn (Whole own journal) l (log_from w rest)) → LedOn (Whole own journal) log (one >>= λ done. log_from done.1 rest >>= λ more. Ok (done.0 ++ more.0, more.1))
  by_step (Ok done) a more = by_rest done.0 (log_from done.1 rest) (more (log ++ done.0) done.1 a)
  by_step (Err stop) a more = tt

-- ---- the start

-- the addresses of each host's endpoints
abbrev own_in : Option (Cell × ℕ) → ℕ → Address
own_in None end = record { host = []; port = 0; id = end }
own_in (Some cell) end = own_address cell.0.host end

abbrev pub own_of : List Line → ℕ → ℕ → Address
own_of journal place end = own_in (slice_get (world_new journal).cells place) end

own_orderly : (own : ℕ → Address) (host : HostState) → IsOrderly own host → IsOrderly (own_address host) host
own_orderly own host o = record { sound = o.sound; own_is = λ end. refl; apart = o.apart; links = o.links; sockets = o.sockets }

new_cells : (journal : List Line) (addresses : List Address) (place : ℕ) (cell : Cell × ℕ) → slice_get (map (λ (address : Address). (cell_at journal address, 0)) addresses) place ≡ Some cell → IsOrderly (own_address cell.0.host) cell.0.host
new_cells journal [] place cell e = absurd cc
new_cells journal (address ∷ rest) zero cell e = let is : (cell_at journal address, 0) ≡ cell = cc in
    subst (λ (c : Cell × ℕ). IsOrderly (own_address c.0.host) c.0.host) is (own_orderly _ (cell_at journal address).host
    (fresh_cell address.host address.port (map (λ (named : Named). named.address.host) (nodes_of journal))
    (map (λ (named : Named). (named.address.id, named.unique, labels_of journal named.name)) (filter (λ (named : Named). same_host named.address address) (nodes_of journal)))))
new_cells journal (address ∷ rest) (suc place) cell e = new_cells journal rest place cell e

fresh_whole : (journal : List Line) → Whole (own_of journal) journal [] (world_new journal)
fresh_whole journal = (
  fresh_sure journal,
  record {
    orderly = λ p c at. subst (λ (o : Option (Cell × ℕ)). IsOrderly (own_in o) c.0.host) (sym at) (new_cells journal (first_of_hosts [] (nodes_of journal)) p c at);
    flow = λ s socket e. absurd cc;
  },
)

pub whole_after : (journal lines : List Line) (log : List Entry) (world : World) → log_from (world_new journal) lines ≡ Ok (log, world) → Whole (own_of journal) journal log world
whole_after journal lines log world is = by_log (log_from (world_new journal) lines) (all_whole (own_of journal) journal lines [] (world_new journal) (fresh_whole journal)) is where
  by_log : (done : Happened) → LedOn (Whole (own_of journal) journal) [] done → done ≡ Ok (log, world) → Whole (own_of journal) journal log world
  by_log done l e = subst (λ (d : Happened). LedOn (Whole (own_of journal) journal) [] d) e l
