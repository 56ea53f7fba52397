-- The users of the openers' ends stay called as they were after any lines, settling included.
use Rattle.std.proofs.Common.{◌≡◌, ℕ, zero, suc, Bool, true, false, cond, List, [], ◌∷◌, ◌++◌, length, map, Ok, Err, refl, sym, ap, subst}
use Rattle.std.specs.List.{list_any}
use Rattle.std.specs.Prelude.{find, filter, is_some, slice_get, Option, Some, None}
use Rattle.ch_base.specs.declared.address.Address.{Address}
use Rattle.ch_static.specs.declared.command.Command.{Command}
use Rattle.ch_model.specs.declared.entry.Entry.{Entry}
use Rattle.ch_model.specs.declared.entry.Verdict.TheVariants as verdicts
use Rattle.ch_model.specs.declared.line.Line.{Line}
use Rattle.ch_model.specs.declared.line.What.{What}
use Rattle.ch_model.specs.declared.line.What.TheVariants as lines
use Rattle.ch_model.specs.declared.local.LocalEvent.TheVariants as events
use Rattle.ch_model.specs.declared.name.End.{End}
use Rattle.ch_model.specs.declared.name.End.TheVariants.{O, T}
use Rattle.ch_model.specs.declared.name.ProcName.{ProcName}
use Rattle.ch_model.specs.declared.name.SockName.{SockName}
use Rattle.ch_model.specs.HostCalls.{host_new, host_open}
use Rattle.ch_model.specs.HostState.{HostState}
use Rattle.ch_model.specs.HostSteps.{is_endpoint, own_address}
use Rattle.ch_model.specs.Cell.{opened_for, cell_new}
use Rattle.ch_model.specs.Node.{node_new}
use Rattle.ch_model.specs.NodeState.{NodeState}
use Rattle.ch_model.specs.Settle.{Happened, Visit, Pass, happened, opens, visits, after_happened, then_happens, timer_due, timers_due, some_timer_runs, next_visit, see, before_rest, settled_in, settles, from_start, weight_of, after_visit}
use Rattle.ch_model.specs.Stages.{Stage, Pending, Open, Ended}
use Rattle.ch_model.specs.Timers.{timer_runs_for, all_links}
use Rattle.ch_model.specs.World.{◌>>=◌, cell_at, world_new, event_step, world_step, line_answered, line_settled, log_from, first_of_hosts, nodes_of, labels_of, same_host}
use Rattle.ch_model.specs.WorldHappenings.{Answered, joins, refuses, comes, feeds, loses, times_out}
use Rattle.ch_model.specs.WorldLines.{command_as, node_hears, on_socket, can_join, can_come, can_refuse, can_feed, can_cut, is_at_work, cuts, is_strangers, pokes, quits, other_line, line_done}
use Rattle.ch_model.specs.WorldSockets.{end_of, is_socket_named}
use Rattle.ch_model.specs.WorldState.{Cell, Named, WorldSocket, World}
use Rattle.ch_laws_pairs.specs.Askers.{IsAsking}
use Rattle.ch_laws_pairs.proofs.Heard.{Asked, Led, node_asked, joins_asked, refuses_asked, comes_asked, feeds_asked, loses_asked, times_asked, cuts_asked, quits_asked, pokes_asked, knocks_asked}

-- what happened leaves it so, where no count stood at its last value
abbrev LedOn : (ℕ → ℕ → Address) → Happened → Type 0
LedOn own (Ok done) = Asked own done.1
LedOn own (Err stop) = Unit {0}

-- ---- settling

abbrev LedAll : (ℕ → ℕ → Address) → Option Happened → Type 0
LedAll own None = Unit {0}
LedAll own (Some done) = LedOn own done

opening : (own : ℕ → ℕ → Address) (which : End) (socket : WorldSocket) (world : World) → Asked own world → Led own (opens which socket world)
opening own T socket world i = comes_asked own socket world i
opening own O socket world i = by_host (is_some socket.t.cell) where
  by_host : (b : Bool) → Led own (cond b (joins socket world) (refuses socket world))
  by_host true = joins_asked own socket world i
  by_host false = refuses_asked own socket world i

visiting : (own : ℕ → ℕ → Address) (which : End) (socket : WorldSocket) (world : World) → Asked own world → Led own (visits which socket world)
visiting own which socket world i = by_stage (end_of which socket).stage where
  by_stage : (stage : Stage) → Led own (elim stage as (λ s. Answered) [
    | Pending ↦ opens which socket world
    | Open ↦ feeds which (length (end_of which socket).unread) socket world
    | Ended ↦ feeds which 0 socket world
  ])
  by_stage Pending = opening own which socket world i
  by_stage Open = feeds_asked own which (length (end_of which socket).unread) socket world i
  by_stage Ended = feeds_asked own which 0 socket world i

told_on : (own : ℕ → ℕ → Address) (done : Answered) → Led own done → LedOn own (happened done)
told_on own (Ok done) l = l
told_on own (Err stop) l = tt

after_on : (own : ℕ → ℕ → Address) (told : List Entry) (more : Happened) → LedOn own more → LedOn own (after_happened told more)
after_on own told (Ok more) l = l
after_on own told (Err stop) l = tt

then_on : (own : ℕ → ℕ → Address) (one : Happened) (f : World → Happened) → LedOn own one → ((w : World) → Asked own w → LedOn own (f w)) → LedOn own (then_happens one f)
then_on own (Ok done) f a more = after_on own done.0 (f done.1) (more done.1 a)
then_on own (Err stop) f a more = tt

one_due : (own : ℕ → ℕ → Address) (link : List ℕ × List ℕ) (world : World) → Asked own world → LedOn own (timer_due link world)
one_due own link world i = by_test (timer_runs_for world link.0 link.1) where
  by_test : (b : Bool) → LedOn own (cond b (happened (times_out link.0 link.1 world)) (Ok ([], world)))
  by_test true = told_on own (times_out link.0 link.1 world) (times_asked own link.0 link.1 world i)
  by_test false = i

all_due : (own : ℕ → ℕ → Address) (links : List (List ℕ × List ℕ)) (world : World) → Asked own world → LedOn own (timers_due links world)
all_due own [] world i = i
all_due own (link ∷ rest) world i = then_on own (timer_due link world) (timers_due rest) (one_due own link world i) (all_due own rest)

abbrev LedSeen : (ℕ → ℕ → Address) → Option (Happened × Pass) → Type 0
LedSeen own None = Unit {0}
LedSeen own (Some seen) = LedOn own seen.0

seeing : (own : ℕ → ℕ → Address) (pass : Pass) (world : World) → Asked own world → LedSeen own (see pass world)
seeing own pass world i = by_visit (next_visit pass world) where
  by_test : (b : Bool) → LedSeen own (cond b (Some (timers_due (all_links world) world, from_start)) None)
  by_test true = all_due own (all_links world) world i
  by_test false = tt

  by_visit : (o : Option Visit) → LedSeen own (elim o as (λ o. Option (Happened × Pass)) [
    | Some visit ↦ Some (happened (visits visit.which visit.socket world), after_visit visit)
    | None ↦ cond (some_timer_runs world) (Some (timers_due (all_links world) world, from_start)) None
  ])
  by_visit None = by_test (some_timer_runs world)
  by_visit (Some visit) = told_on own (visits visit.which visit.socket world) (visiting own visit.which visit.socket world i)

rest_on : (own : ℕ → ℕ → Address) (told : List Entry) (more : Option Happened) → LedAll own more → LedAll own (before_rest told more)
rest_on own told None l = tt
rest_on own told (Some more) l = after_on own told more l

settling : (own : ℕ → ℕ → Address) (fuel : ℕ) (pass : Pass) (world : World) → Asked own world → LedAll own (settled_in fuel pass world)
settling own zero pass world i = by_seen (see pass world) where
  by_seen : (o : Option (Happened × Pass)) → LedAll own (elim o as (λ o. Option Happened) [
    | None ↦ Some (Ok ([], world))
    | Some done ↦ None
  ])
  by_seen None = i
  by_seen (Some done) = tt
settling own (suc fuel) pass world i = by_seen (see pass world) (seeing own pass world i) (settling own fuel) where
  More : Type 0
  More = (p : Pass) (w : World) → Asked own w → LedAll own (settled_in fuel p w)

  by_done : (p : Pass) (one : Happened) → LedOn own one → More → LedAll own (elim one as (λ o. Option Happened) [
    | Err stop ↦ Some (Err stop)
    | Ok one ↦ before_rest one.0 (settled_in fuel p one.1)
  ])
  by_done p (Err stop) a more = tt
  by_done p (Ok one) a more = rest_on own one.0 (settled_in fuel p one.1) (more p one.1 a)

  by_seen : (o : Option (Happened × Pass)) → LedSeen own o → More → LedAll own (elim o as (λ o. Option Happened) [
    | None ↦ Some (Ok ([], world))
    | Some done ↦ elim done.0 [
      | Err stop ↦ Some (Err stop)
      | Ok one ↦ before_rest one.0 (settled_in fuel done.1 one.1)
    ]
  ])
  by_seen None a more = i
  by_seen (Some done) a more = by_done done.1 done.0 a more

-- ---- lines

at_socket : (own : ℕ → ℕ → Address) (sock : SockName) (test : WorldSocket → Bool) (f : WorldSocket → World → Answered) (world : World) → Asked own world → ((socket : WorldSocket) → Led own (f socket world)) → Led own (on_socket sock test f world)
at_socket own sock test f world i each = by_socket (find (is_socket_named sock) world.sockets) where
  by_test : (s : WorldSocket) (b : Bool) → Led own (cond b (f s world) (Ok ((verdicts.Nothing, []), world)))
  by_test s true = each s
  by_test s false = i

  by_socket : (o : Option WorldSocket) → Led own (elim o as (λ o. Answered) [
    | None ↦ Ok ((verdicts.Nothing, []), world)
    | Some socket ↦ cond (test socket) (f socket world) (Ok ((verdicts.Nothing, []), world))
  ])
  by_socket None = i
  by_socket (Some s) = by_test s (test s)

late_on : (own : ℕ → ℕ → Address) (node peer : List ℕ) (world : World) (b : Bool) → Asked own world → Led own (cond b (times_out node peer world) (Ok ((verdicts.Nothing, []), world)))
late_on own node peer world true i = times_asked own node peer world i
late_on own node peer world false i = i

other_asked : (own : ℕ → ℕ → Address) (what : What) (world : World) → Asked own world → Led own (other_line what world)
other_asked own (lines.Proc node) world i = node_asked own node (λ end. events.Make end) world (λ end. tt) i
other_asked own (lines.Shut node) world i = node_asked own node (λ end. events.Shut end) world (λ end. tt) i
other_asked own (lines.Join sock) world i = at_socket own sock can_join joins world i (λ s. joins_asked own s world i)
other_asked own (lines.Come sock) world i = at_socket own sock can_come comes world i (λ s. comes_asked own s world i)
other_asked own (lines.Refuse sock) world i = at_socket own sock can_refuse refuses world i (λ s. refuses_asked own s world i)
other_asked own (lines.Feed sock end count) world i = at_socket own sock (can_feed end) (feeds end count) world i (λ s. feeds_asked own end count s world i)
other_asked own (lines.Cut sock end) world i = at_socket own sock (can_cut end) (cuts end) world i (λ s. cuts_asked own end s world i)
other_asked own (lines.Lose sock end) world i = at_socket own sock (is_at_work end) (loses end) world i (λ s. loses_asked own end s world i)
other_asked own (lines.Late node peer) world i = late_on own node peer world (timer_runs_for world node peer) i
other_asked own (lines.Knock stranger node) world i = knocks_asked own stranger node world i
other_asked own (lines.Poke sock bytes) world i = at_socket own sock is_strangers (pokes bytes) world i (λ s. pokes_asked own bytes s world i)
other_asked own (lines.Quit sock) world i = at_socket own sock is_strangers quits world i (λ s. quits_asked own s world i)
other_asked own what world i = i

line_asked : (own : ℕ → ℕ → Address) (what : What) (world : World) → Asked own world → Led own (line_done what world)
line_asked own what world i = by_command (command_as world.names what) where
  by_command : (o : Option (ProcName × Command)) → Led own (elim o as (λ o. Answered) [
    | None ↦ other_line what world
    | Some asked ↦ node_hears asked.0.node (λ end. events.Command end asked.0.counter asked.1) world
  ])
  by_command None = other_asked own what world i
  by_command (Some asked) = node_asked own asked.0.node (λ end. events.Command end asked.0.counter asked.1) world (λ end. tt) i

marked : (own : ℕ → ℕ → Address) (number : ℕ) (done : Answered) → Led own done → LedOn own (line_answered number done)
marked own number (Ok done) l = l
marked own number (Err stop) l = tt

settled_last : (own : ℕ → ℕ → Address) (number : ℕ) (world : World) (done : Option Happened) → Asked own world → LedAll own done → LedOn own (line_settled number world done)
settled_last own number world None i l = i
settled_last own number world (Some (Ok done)) i l = l
settled_last own number world (Some (Err stop)) i l = tt

event_asked : (own : ℕ → ℕ → Address) (number : ℕ) (what : What) (world : World) → Asked own world → LedOn own (event_step number what world)
event_asked own number lines.Settle world i = settled_last own number world (settles world) i (settling own (weight_of world) from_start world i)
event_asked own number what world i = marked own number (line_done what world) (line_asked own what world i)

step_asked : (own : ℕ → ℕ → Address) (world : World) (number : ℕ) (what : What) → Asked own world → LedOn own (world_step world (record { number = number; what = what }))
step_asked own world number (lines.Node name address unique) i = i
step_asked own world number (lines.Away name address unique) i = i
step_asked own world number (lines.Label node label) i = i
step_asked own world number (lines.Stranger name host) i = i
step_asked own world number what i = event_asked own number what world i

-- after some lines
all_asked : (own : ℕ → ℕ → Address) (rest : List Line) (world : World) → Asked own world → LedOn own (log_from world rest)
all_asked own [] world i = i
all_asked own (line ∷ rest) world i = by_step (world_step world line) (step_asked own world line.number line.what i) (all_asked own rest) where
  by_rest : (told : List Entry) (more : Happened) → LedOn own more → LedOn own (more >>= λ more. Ok (told ++ more.0, more.1))
  by_rest told (Ok more) l = l
  by_rest told (Err stop) l = tt

  by_step : (one : Happened) → LedOn own one → ((w : World) → Asked own w → LedOn own (log_from w rest)) → LedOn own (one >>= λ done. log_from done.1 rest >>= λ more. Ok (done.0 ++ more.0, more.1))
  by_step (Ok done) a more = by_rest done.0 (log_from done.1 rest) (more done.1 a)
  by_step (Err stop) a more = tt

-- ---- the start

-- the addresses of each host's endpoints
abbrev pub own_in : Option (Cell × ℕ) → ℕ → Address
own_in None end = record { host = []; port = 0; id = end }
own_in (Some cell) end = own_address cell.0.host end

abbrev pub own_of : List Line → ℕ → ℕ → Address
own_of journal place end = own_in (slice_get (world_new journal).cells place) end

one_opened : (host : HostState) (end : ℕ) → IsAsking host → IsAsking (host_open host end).1
unfolding host_open
one_opened host end a = by_test (list_any (is_endpoint end) host.ends) where
  by_test : (b : Bool) → IsAsking (cond {A = Bool × HostState} b (false, host) (true, record host { ends = host.ends ++ record { number = end; is_open = true; arrived = 0 } ∷ [] })).1
  by_test true = a
  by_test false = record { apart = a.apart; free = a.free; odd = a.odd }

all_opened : (nodes : List (ℕ × NodeState)) (host : HostState) → IsAsking host → IsAsking (opened_for nodes host)
all_opened [] host a = a
all_opened (node ∷ rest) host a = all_opened rest (host_open host node.0).1 (one_opened host node.0 a)

new_cell : (host : List ℕ) (port : ℕ) (circle : List (List ℕ)) (nodes : List (ℕ × ℕ × List (List ℕ))) → IsAsking (cell_new host port circle nodes).host
new_cell host port circle nodes = all_opened (map (λ (node : ℕ × ℕ × List (List ℕ)). (node.0, node_new (record { host = host; port = port; id = node.0 }) node.1 node.2)) nodes) (host_new host port circle) (record { apart = tt; free = λ k l. refl; odd = λ k. refl })

new_cells : (journal : List Line) (addresses : List Address) (place : ℕ) (cell : Cell × ℕ) → slice_get (map (λ (address : Address). (cell_at journal address, 0)) addresses) place ≡ Some cell → IsAsking cell.0.host
new_cells journal [] place cell e = absurd cc
new_cells journal (address ∷ rest) zero cell e = let is : (cell_at journal address, 0) ≡ cell = cc in
    subst (λ (c : Cell × ℕ). IsAsking c.0.host) is (new_cell address.host address.port (map (λ (named : Named). named.address.host) (nodes_of journal))
    (map (λ (named : Named). (named.address.id, named.unique, labels_of journal named.name)) (filter (λ (named : Named). same_host named.address address) (nodes_of journal))))
new_cells journal (address ∷ rest) (suc place) cell e = new_cells journal rest place cell e

fresh_asked : (journal : List Line) → Asked (own_of journal) (world_new journal)
fresh_asked journal = record {
  homes = λ p c at. record { asking = new_cells journal (first_of_hosts [] (nodes_of journal)) p c at; own_is = λ end. sym (ap (λ (o : Option (Cell × ℕ)). own_in o end) at) };
  named = λ s socket e. absurd cc;
}

pub asked_after : (journal lines : List Line) (log : List Entry) (world : World) → log_from (world_new journal) lines ≡ Ok (log, world) → Asked (own_of journal) world
asked_after journal lines log world is = by_log (log_from (world_new journal) lines) (all_asked (own_of journal) lines (world_new journal) (fresh_asked journal)) is where
  by_log : (done : Happened) → LedOn (own_of journal) done → done ≡ Ok (log, world) → Asked (own_of journal) world
  by_log done l e = subst (λ (d : Happened). LedOn (own_of journal) d) e l
