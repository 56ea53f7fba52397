-- The hosts and the world agree after any lines, settling included.
use Rattle.std.proofs.Common.{◌≡◌, ℕ, zero, suc, Bool, true, false, cond, ◌&&◌, List, [], ◌∷◌, ◌++◌, length, map, Ok, Err, refl, sym, ap, ◌∙◌, subst, append_assoc}
use Rattle.std.proofs.lemmas.Bool.{and_parts}
use Rattle.std.specs.List.{list_any}
use Rattle.std.specs.Prelude.{find, filter, is_some, slice_get, Option, Some, None}
use Rattle.ch_base.specs.declared.address.Address.{Address}
use Rattle.ch_static.specs.declared.command.Command.{Command}
use Rattle.ch_model.specs.declared.entry.Entry.{Entry}
use Rattle.ch_model.specs.declared.entry.Entry.TheVariants as entries
use Rattle.ch_model.specs.declared.entry.Verdict.{Verdict}
use Rattle.ch_model.specs.declared.entry.Verdict.TheVariants as verdicts
use Rattle.ch_model.specs.declared.line.Line.{Line}
use Rattle.ch_model.specs.declared.line.What.{What}
use Rattle.ch_model.specs.declared.line.What.TheVariants as lines
use Rattle.ch_model.specs.declared.local.LocalEvent.TheVariants as events
use Rattle.ch_model.specs.declared.name.End.{End}
use Rattle.ch_model.specs.declared.name.End.TheVariants.{O, T}
use Rattle.ch_model.specs.declared.name.ProcName.{ProcName}
use Rattle.ch_model.specs.declared.name.SockName.{SockName}
use Rattle.ch_model.specs.Cell.{opened_for, cell_new}
use Rattle.ch_model.specs.HostCalls.{host_new, host_open}
use Rattle.ch_model.specs.HostState.{HostState}
use Rattle.ch_model.specs.HostSteps.{is_endpoint}
use Rattle.ch_model.specs.Node.{node_new}
use Rattle.ch_model.specs.NodeState.{NodeState}
use Rattle.ch_model.specs.Settle.{Happened, Visit, Pass, happened, opens, visits, after_happened, then_happens, timer_due, timers_due, some_timer_runs, next_visit, see, before_rest, settled_in, settles, from_start, weight_of, after_visit, is_due}
use Rattle.ch_model.specs.Stages.{Stage, Pending, Open, Ended, is_pending, is_open}
use Rattle.ch_model.specs.Timers.{timer_runs_for, all_links}
use Rattle.ch_model.specs.World.{◌>>=◌, cell_at, world_new, event_step, world_step, line_answered, line_settled, log_from, first_of_hosts, nodes_of, labels_of, same_host}
use Rattle.ch_model.specs.WorldHappenings.{Answered, joins, refuses, comes, feeds, loses, times_out}
use Rattle.ch_model.specs.WorldLines.{command_as, node_hears, on_socket, can_join, can_come, can_refuse, can_feed, can_cut, is_at_work, cuts, is_strangers, pokes, quits, other_line, line_done}
use Rattle.ch_model.specs.WorldSockets.{end_of, is_of_host, has_input, is_socket_named}
use Rattle.ch_model.specs.WorldState.{Cell, Named, WorldSocket, World}
use Rattle.ch_laws_log.specs.HostEnds.{stage_at, IsSound, Tells}
use Rattle.ch_laws_log.proofs.HostEventsTold.{fresh_sound}
use Rattle.ch_laws_log.proofs.HostTold.{same}
use Rattle.ch_laws_log.proofs.Kept.{IsIn, Led, LedOn}
use Rattle.ch_laws_log.proofs.Stored.{find_name}
use Rattle.ch_laws_log.proofs.Told.{fresh}
use Rattle.ch_laws_ends.proofs.Happen.{noted_sure, joins_sure, comes_sure, refuses_sure, feeds_sure, loses_sure, times_sure, cuts_sure, pokes_sure, quits_sure, knocks_sure, node_sure}
use Rattle.ch_laws_ends.proofs.Known.{keeps_sorted}
use Rattle.ch_laws_ends.proofs.Told.{Sure, rests, agrees_by}
use Rattle.ch_laws_ends.proofs.Visits.{AreVisits, next_is}

onward : (journal : List Line) (log one two : List Entry) (world : World) → Sure journal ((log ++ one) ++ two) world → Sure journal (log ++ (one ++ two)) world
onward journal log one two world s = subst (λ (l : List Entry). Sure journal l world) (append_assoc log one two) s

pub mark_sure : (journal : List Line) (log : List Entry) (world : World) (number : ℕ) (answer : Verdict) → Sure journal log world → Sure journal (log ++ entries.Line number answer ∷ []) world
mark_sure journal log world number answer s = noted_sure journal log (entries.Line number answer) world (λ n. refl) ((keeps_sorted journal).mark log world number answer s.ends.sorted) s

pub settled_sure : (journal : List Line) (log : List Entry) (world : World) → Sure journal log world → Sure journal (log ++ entries.Settled ∷ []) world
settled_sure journal log world s = noted_sure journal log entries.Settled world (λ n. refl) ((keeps_sorted journal).settled log world s.ends.sorted) s

-- ---- settling

abbrev LedAll : List Line → List Entry → Option Happened → Type 0
LedAll journal log None = Unit {0}
LedAll journal log (Some done) = LedOn (Sure journal) log done

opening : (journal : List Line) (log : List Entry) (which : End) (socket : WorldSocket) (world : World) → IsIn socket world → is_pending (end_of which socket).stage ≡ true → Sure journal log world → Led (Sure journal) log (opens which socket world)
opening journal log T socket world is pending i = comes_sure journal log socket world is pending i
opening journal log O socket world is pending i = by_host (is_some socket.t.cell) where
  by_host : (b : Bool) → Led (Sure journal) log (cond b (joins socket world) (refuses socket world))
  by_host true = joins_sure journal log socket world is pending i
  by_host false = refuses_sure journal log socket world is pending i

visiting : (journal : List Line) (log : List Entry) (which : End) (socket : WorldSocket) (world : World) → IsIn socket world → is_due which socket ≡ true → Sure journal log world → Led (Sure journal) log (visits which socket world)
visiting journal log which socket world is due i = by_stage (end_of which socket).stage refl due where
  by_stage : (stage : Stage) → (end_of which socket).stage ≡ stage → (elim stage as (λ s. Bool) [
    | Pending ↦ is_of_host (end_of which socket)
    | Open ↦ (is_of_host (end_of which socket) && has_input which socket)
    | Ended ↦ false
  ]) ≡ true → Led (Sure journal) log (elim stage as (λ s. Answered) [
    | Pending ↦ opens which socket world
    | Open ↦ feeds which (length (end_of which socket).unread) socket world
    | Ended ↦ feeds which 0 socket world
  ])
  by_stage Pending e h = opening journal log which socket world is (ap is_pending e) i
  by_stage Open e h = feeds_sure journal log which (length (end_of which socket).unread) socket world is (ap is_open e) (and_parts (is_of_host (end_of which socket)) (has_input which socket) h).1 i
  by_stage Ended e h = absurd cc

told_on : (journal : List Line) (log : List Entry) (done : Answered) → Led (Sure journal) log done → LedOn (Sure journal) log (happened done)
told_on journal log (Ok done) l = l
told_on journal log (Err stop) l = tt

after_on : (journal : List Line) (log told : List Entry) (more : Happened) → LedOn (Sure journal) (log ++ told) more → LedOn (Sure journal) log (after_happened told more)
after_on journal log told (Ok more) l = onward journal log told more.0 more.1 l
after_on journal log told (Err stop) l = tt

then_on : (journal : List Line) (log : List Entry) (one : Happened) (f : World → Happened) → LedOn (Sure journal) log one → ((l : List Entry) (w : World) → Sure journal l w → LedOn (Sure journal) l (f w)) → LedOn (Sure journal) log (then_happens one f)
then_on journal log (Ok done) f a more = after_on journal log done.0 (f done.1) (more (log ++ done.0) done.1 a)
then_on journal log (Err stop) f a more = tt

one_due : (journal : List Line) (log : List Entry) (link : List ℕ × List ℕ) (world : World) → Sure journal log world → LedOn (Sure journal) log (timer_due link world)
one_due journal log link world i = by_test (timer_runs_for world link.0 link.1) where
  by_test : (b : Bool) → LedOn (Sure journal) log (cond b (happened (times_out link.0 link.1 world)) (Ok ([], world)))
  by_test true = told_on journal log (times_out link.0 link.1 world) (times_sure journal log link.0 link.1 world i)
  by_test false = rests journal log world i

all_due : (journal : List Line) (links : List (List ℕ × List ℕ)) (log : List Entry) (world : World) → Sure journal log world → LedOn (Sure journal) log (timers_due links world)
all_due journal [] log world i = rests journal log world i
all_due journal (link ∷ rest) log world i = then_on journal log (timer_due link world) (timers_due rest) (one_due journal log link world i) (all_due journal rest)

abbrev LedSeen : List Line → List Entry → Option (Happened × Pass) → Type 0
LedSeen journal log None = Unit {0}
LedSeen journal log (Some seen) = LedOn (Sure journal) log seen.0

seeing : (journal : List Line) (log : List Entry) (pass : Pass) (world : World) → Sure journal log world → LedSeen journal log (see pass world)
seeing journal log pass world i = by_visit (next_visit pass world) (next_is pass world i.ends.sorted.0.apart) where
  by_test : (b : Bool) → LedSeen journal log (cond b (Some (timers_due (all_links world) world, from_start)) None)
  by_test true = all_due journal (all_links world) log world i
  by_test false = tt

  by_visit : (o : Option Visit) → AreVisits world.sockets o → LedSeen journal log (elim o as (λ o. Option (Happened × Pass)) [
    | Some visit ↦ Some (happened (visits visit.which visit.socket world), after_visit visit)
    | None ↦ cond (some_timer_runs world) (Some (timers_due (all_links world) world, from_start)) None
  ])
  by_visit None v = by_test (some_timer_runs world)
  by_visit (Some visit) v = told_on journal log (visits visit.which visit.socket world) (visiting journal log visit.which visit.socket world v.is v.due i)

rest_on : (journal : List Line) (log told : List Entry) (more : Option Happened) → LedAll journal (log ++ told) more → LedAll journal log (before_rest told more)
rest_on journal log told None l = tt
rest_on journal log told (Some more) l = after_on journal log told more l

settling : (journal : List Line) (fuel : ℕ) (log : List Entry) (pass : Pass) (world : World) → Sure journal log world → LedAll journal log (settled_in fuel pass world)
settling journal zero log pass world i = by_seen (see pass world) where
  by_seen : (o : Option (Happened × Pass)) → LedAll journal log (elim o as (λ o. Option Happened) [
    | None ↦ Some (Ok ([], world))
    | Some done ↦ None
  ])
  by_seen None = rests journal log world i
  by_seen (Some done) = tt
settling journal (suc fuel) log pass world i = by_seen (see pass world) (seeing journal log pass world i) (settling journal fuel) where
  More : Type 0
  More = (l : List Entry) (p : Pass) (w : World) → Sure journal l w → LedAll journal l (settled_in fuel p w)

  by_done : (p : Pass) (one : Happened) → LedOn (Sure journal) log one → More → LedAll journal log (elim one as (λ o. Option Happened) [
    | Err stop ↦ Some (Err stop)
    | Ok one ↦ before_rest one.0 (settled_in fuel p one.1)
  ])
  by_done p (Err stop) a more = tt
  by_done p (Ok one) a more = rest_on journal log one.0 (settled_in fuel p one.1) (more (log ++ one.0) p one.1 a)

  by_seen : (o : Option (Happened × Pass)) → LedSeen journal log o → More → LedAll journal log (elim o as (λ o. Option Happened) [
    | None ↦ Some (Ok ([], world))
    | Some done ↦ elim done.0 [
      | Err stop ↦ Some (Err stop)
      | Ok one ↦ before_rest one.0 (settled_in fuel done.1 one.1)
    ]
  ])
  by_seen None a more = rests journal log world i
  by_seen (Some done) a more = by_done done.1 done.0 a more

-- ---- lines

-- what is done to a socket that stands as the test asks
abbrev SureWhere : List Line → List Entry → World → (WorldSocket → Bool) → (WorldSocket → World → Answered) → Type 0
SureWhere journal log world test f = (socket : WorldSocket) → IsIn socket world → test socket ≡ true → Led (Sure journal) log (f socket world)

at_socket : (journal : List Line) (log : List Entry) (sock : SockName) (test : WorldSocket → Bool) (f : WorldSocket → World → Answered) (world : World) → Sure journal log world → SureWhere journal log world test f → Led (Sure journal) log (on_socket sock test f world)
at_socket journal log sock test f world i each = by_socket (find (is_socket_named sock) world.sockets) refl where
  by_test : (s : WorldSocket) → IsIn s world → (b : Bool) → test s ≡ b → Led (Sure journal) log (cond b (f s world) (Ok ((verdicts.Nothing, []), world)))
  by_test s is true e = each s is e
  by_test s is false e = rests journal log world i

  by_socket : (o : Option WorldSocket) → find (is_socket_named sock) world.sockets ≡ o → Led (Sure journal) log (elim o as (λ o. Answered) [
    | None ↦ Ok ((verdicts.Nothing, []), world)
    | Some socket ↦ cond (test socket) (f socket world) (Ok ((verdicts.Nothing, []), world))
  ])
  by_socket None e = rests journal log world i
  by_socket (Some s) e = by_test s (subst (λ (n : SockName). find (is_socket_named n) world.sockets ≡ Some s) (sym (find_name sock world.sockets s e)) e) (test s) refl

late_on : (journal : List Line) (log : List Entry) (node peer : List ℕ) (world : World) (b : Bool) → Sure journal log world → Led (Sure journal) log (cond b (times_out node peer world) (Ok ((verdicts.Nothing, []), world)))
late_on journal log node peer world true i = times_sure journal log node peer world i
late_on journal log node peer world false i = rests journal log world i

open_at_work : (which : End) (socket : WorldSocket) → is_at_work which socket ≡ true → is_open (end_of which socket).stage ≡ true
open_at_work which socket e = (and_parts (is_open (end_of which socket).stage) (is_of_host (end_of which socket)) e).0

other_sure : (journal : List Line) (log : List Entry) (what : What) (world : World) → Sure journal log world → Led (Sure journal) log (other_line what world)
other_sure journal log (lines.Proc node) world i = node_sure journal log node (λ end. events.Make end) world (λ end. refl) i
other_sure journal log (lines.Shut node) world i = node_sure journal log node (λ end. events.Shut end) world (λ end. refl) i
other_sure journal log (lines.Join sock) world i = at_socket journal log sock can_join joins world i (λ s is e. joins_sure journal log s world is (and_parts (is_pending s.o.stage) (is_some s.t.cell) e).0 i)
other_sure journal log (lines.Come sock) world i = at_socket journal log sock can_come comes world i (λ s is e. comes_sure journal log s world is e i)
other_sure journal log (lines.Refuse sock) world i = at_socket journal log sock can_refuse refuses world i (λ s is e. refuses_sure journal log s world is e i)
other_sure journal log (lines.Feed sock end count) world i = at_socket journal log sock (can_feed end) (feeds end count) world i (λ s is e. feeds_sure journal log end count s world is (open_at_work end s (and_parts (is_at_work end s) (has_input end s) e).0) (and_parts (is_at_work end s) (has_input end s) e).1 i)
other_sure journal log (lines.Cut sock end) world i = at_socket journal log sock (can_cut end) (cuts end) world i (λ s is e. cuts_sure journal log end s world is i)
other_sure journal log (lines.Lose sock end) world i = at_socket journal log sock (is_at_work end) (loses end) world i (λ s is e. loses_sure journal log end s world i)
other_sure journal log (lines.Late node peer) world i = late_on journal log node peer world (timer_runs_for world node peer) i
other_sure journal log (lines.Knock stranger node) world i = knocks_sure journal log stranger node world i
other_sure journal log (lines.Poke sock bytes) world i = at_socket journal log sock is_strangers (pokes bytes) world i (λ s is e. pokes_sure journal log bytes s world is i)
other_sure journal log (lines.Quit sock) world i = at_socket journal log sock is_strangers quits world i (λ s is e. quits_sure journal log s world is e i)
other_sure journal log what world i = rests journal log world i

pub line_sure : (journal : List Line) (log : List Entry) (what : What) (world : World) → Sure journal log world → Led (Sure journal) log (line_done what world)
line_sure journal log what world i = by_command (command_as world.names what) where
  by_command : (o : Option (ProcName × Command)) → Led (Sure journal) log (elim o as (λ o. Answered) [
    | None ↦ other_line what world
    | Some asked ↦ node_hears asked.0.node (λ end. events.Command end asked.0.counter asked.1) world
  ])
  by_command None = other_sure journal log what world i
  by_command (Some asked) = node_sure journal log asked.0.node (λ end. events.Command end asked.0.counter asked.1) world (λ end. refl) i

-- ---- a line's mark before what it did

marked : (journal : List Line) (log : List Entry) (number : ℕ) (done : Answered) → ((answer : Verdict) → Led (Sure journal) (log ++ entries.Line number answer ∷ []) done) → LedOn (Sure journal) log (line_answered number done)
marked journal log number (Ok done) l = onward journal log (entries.Line number done.0.0 ∷ []) done.0.1 done.1 (l done.0.0)
marked journal log number (Err stop) l = tt

settled_last : (journal : List Line) (log : List Entry) (number : ℕ) (world : World) (done : Option Happened) → Sure journal (log ++ entries.Line number verdicts.Ok ∷ []) world → LedAll journal (log ++ entries.Line number verdicts.Ok ∷ []) done → LedOn (Sure journal) log (line_settled number world done)
settled_last journal log number world None i l = i
settled_last journal log number world (Some (Ok done)) i l = onward journal log (entries.Line number verdicts.Ok ∷ []) (done.0 ++ entries.Settled ∷ []) done.1
    (onward journal (log ++ entries.Line number verdicts.Ok ∷ []) done.0 (entries.Settled ∷ []) done.1 (settled_sure journal ((log ++ entries.Line number verdicts.Ok ∷ []) ++ done.0) done.1 l))
settled_last journal log number world (Some (Err stop)) i l = tt

event_sure : (journal : List Line) (log : List Entry) (number : ℕ) (what : What) (world : World) → Sure journal log world → LedOn (Sure journal) log (event_step number what world)
event_sure journal log number lines.Settle world i = settled_last journal log number world (settles world) (mark_sure journal log world number verdicts.Ok i)
    (settling journal (weight_of world) (log ++ entries.Line number verdicts.Ok ∷ []) from_start world (mark_sure journal log world number verdicts.Ok i))
event_sure journal log number what world i = marked journal log number (line_done what world) (λ answer. line_sure journal (log ++ entries.Line number answer ∷ []) what world (mark_sure journal log world number answer i))

pub step_sure : (journal : List Line) (log : List Entry) (world : World) (number : ℕ) (what : What) → Sure journal log world → LedOn (Sure journal) log (world_step world (record { number = number; what = what }))
step_sure journal log world number (lines.Node name address unique) i = rests journal log world i
step_sure journal log world number (lines.Away name address unique) i = rests journal log world i
step_sure journal log world number (lines.Label node label) i = rests journal log world i
step_sure journal log world number (lines.Stranger name host) i = rests journal log world i
step_sure journal log world number what i = event_sure journal log number what world i

-- after some lines
pub all_sure : (journal rest : List Line) (log : List Entry) (world : World) → Sure journal log world → LedOn (Sure journal) log (log_from world rest)
all_sure journal [] log world i = rests journal log world i
all_sure journal (line ∷ rest) log world i = by_step (world_step world line) (step_sure journal log world line.number line.what i) (all_sure journal rest) where
  by_rest : (told : List Entry) (more : Happened) → LedOn (Sure journal) (log ++ told) more → LedOn (Sure journal) log (more >>= λ more. Ok (told ++ more.0, more.1))
  by_rest told (Ok more) l = onward journal log told more.0 more.1 l
  by_rest told (Err stop) l = tt

  by_step : (one : Happened) → LedOn (Sure journal) log one → ((l : List Entry) (w : World) → Sure journal l w → LedOn (Sure journal) l (log_from w rest)) → LedOn (Sure journal) log (one >>= λ done. log_from done.1 rest >>= λ more. Ok (done.0 ++ more.0, more.1))
  by_step (Ok done) a more = by_rest done.0 (log_from done.1 rest) (more (log ++ done.0) done.1 a)
  by_step (Err stop) a more = tt

-- ---- the start

one_open : (host : HostState) (end : ℕ) → ((host_open host end).1.sockets ≡ host.sockets) × ((host_open host end).1.dials ≡ host.dials)
unfolding host_open
one_open host end = by_test (list_any (is_endpoint end) host.ends) where
  after : Bool → HostState
  after b = (cond {A = Bool × HostState} b (false, host) (true, record host { ends = host.ends ++ record { number = end; is_open = true; arrived = 0 } ∷ [] })).1

  by_test : (b : Bool) → ((after b).sockets ≡ host.sockets) × ((after b).dials ≡ host.dials)
  by_test true = (refl, refl)
  by_test false = (refl, refl)

-- where nothing has happened, hosts have no sockets
nothing_opened : (nodes : List (ℕ × NodeState)) (host : HostState) → ((opened_for nodes host).sockets ≡ host.sockets) × ((opened_for nodes host).dials ≡ host.dials)
nothing_opened [] host = (refl, refl)
nothing_opened (node ∷ rest) host = let more = nothing_opened rest (host_open host node.0).1 in let one = one_open host node.0 in (more.0 ∙ one.0, more.1 ∙ one.1)

-- a new cell's host is as one that has done nothing
new_host : (host : List ℕ) (port : ℕ) (circle : List (List ℕ)) (nodes : List (ℕ × ℕ × List (List ℕ))) → Tells (host_new host port circle) [] (cell_new host port circle nodes).host
new_host host port circle nodes = same (host_new host port circle) (cell_new host port circle nodes).host none.0 none.1 (fresh_sound host port circle) where
  none : ((cell_new host port circle nodes).host.sockets ≡ []) × ((cell_new host port circle nodes).host.dials ≡ 0)
  none = nothing_opened (map (λ (node : ℕ × ℕ × List (List ℕ)). (node.0, node_new (record { host = host; port = port; id = node.0 }) node.1 node.2)) nodes) (host_new host port circle)

new_cells : (journal : List Line) (addresses : List Address) (place : ℕ) (cell : Cell × ℕ) → slice_get (map (λ (address : Address). (cell_at journal address, 0)) addresses) place ≡ Some cell → IsSound cell.0.host × ((n : ℕ) → stage_at cell.0.host n ≡ None)
new_cells journal [] place cell e = absurd cc
new_cells journal (address ∷ rest) zero cell e = let is : (cell_at journal address, 0) ≡ cell = cc in subst (λ (c : Cell × ℕ). IsSound c.0.host × ((n : ℕ) → stage_at c.0.host n ≡ None)) is (it.sound, it.stages) where
  it : Tells (host_new address.host address.port (map (λ (named : Named). named.address.host) (nodes_of journal))) [] (cell_at journal address).host
  it = new_host address.host address.port (map (λ (named : Named). named.address.host) (nodes_of journal))
      (map (λ (named : Named). (named.address.id, named.unique, labels_of journal named.name)) (filter (λ (named : Named). same_host named.address address) (nodes_of journal)))
new_cells journal (address ∷ rest) (suc place) cell e = new_cells journal rest place cell e

pub fresh_sure : (journal : List Line) → Sure journal [] (world_new journal)
fresh_sure journal = record {
  ends = record {
    sorted = (fresh journal, λ s socket e. absurd cc);
    each = λ s socket e p n found of. absurd cc;
    agrees = agrees_by (world_new journal) (λ p c at. (new_cells journal (first_of_hosts [] (nodes_of journal)) p c at).0) (λ p c at n. (new_cells journal (first_of_hosts [] (nodes_of journal)) p c at).1 n) (λ p c at k l. refl) (λ p n at. refl);
  };
  over = record { have_ended = λ s socket p f. absurd cc; are_there = λ s f. refl };
}

pub sure_after : (journal lines : List Line) (log : List Entry) (world : World) → log_from (world_new journal) lines ≡ Ok (log, world) → Sure journal log world
sure_after journal lines log world is = by_log (log_from (world_new journal) lines) (all_sure journal lines [] (world_new journal) (fresh_sure journal)) is where
  by_log : (done : Happened) → LedOn (Sure journal) [] done → done ≡ Ok (log, world) → Sure journal log world
  by_log done l e = subst (λ (d : Happened). LedOn (Sure journal) [] d) e l
