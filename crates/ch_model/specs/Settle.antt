-- Settling: all that can happen without loss happens, until nothing is left; then the timers that run are due, once,
-- and what that makes possible happens too. A machine of one happening at a time.
use Rattle.std.specs.Prelude.{ℕ, zero, suc, ◌+◌, ◌*◌, Bool, true, false, ◌&&◌, List, [], ◌∷◌, ◌++◌, length, drop, sum_by, is_some, Option, Some, None, Result, Ok, Err, if◌then◌else◌}
use Rattle.std.specs.List.{list_any}
use Rattle.ch_base.specs.declared.memory.Stop.{Stop}
use Rattle.ch_model.specs.declared.entry.Entry.{Entry}
use Rattle.ch_model.specs.declared.name.End.{End}
use Rattle.ch_model.specs.declared.name.End.TheVariants.{O, T}
use Rattle.ch_model.specs.Stages.{Pending, Open, Ended}
use Rattle.ch_model.specs.HostState.{Link, HostState}
use Rattle.ch_model.specs.WorldState.{WorldEnd, WorldSocket, World}
use Rattle.ch_model.specs.WorldSockets.{end_of, has_input, is_of_host}
use Rattle.ch_model.specs.WorldHappenings.{Answered, joins, refuses, comes, feeds, times_out}
use Rattle.ch_model.specs.Timers.{timer_runs_for, all_links}

-- the entries of what happened, and the world after it; or a count stands at its type's last value
abbrev pub Happened : Type 0
Happened = Result (List Entry × World) Stop

-- what happened, whatever the answer
abbrev pub happened : Answered → Happened
happened (Ok done) = Ok (done.0.1, done.1)
happened (Err stop) = Err stop

-- ---- visits of one end

-- a pending end is opened: the target's has come, the opener's is joined, or refused where the target's host isn't there
abbrev pub opens : End → WorldSocket → World → Answered
opens T socket world = comes socket world
opens O socket world = if is_some socket.t.cell then joins socket world else refuses socket world

-- a visit of the end would do something
abbrev pub is_due : End → WorldSocket → Bool
is_due which socket = elim (end_of which socket).stage [
  | Pending ↦ is_of_host (end_of which socket)
  | Open ↦ (is_of_host (end_of which socket) && has_input which socket)
  | Ended ↦ false
]

-- A visit does one thing: a pending end is opened, and an open one is handed all that is unread, or its end of input.
abbrev pub visits : End → WorldSocket → World → Answered
visits which socket world = elim (end_of which socket).stage [
  | Pending ↦ opens which socket world
  | Open ↦ feeds which (length (end_of which socket).unread) socket world
  | Ended ↦ feeds which 0 socket world
]

-- ---- a pass over all ends

-- an end by its place in a pass: of each socket in order of opening, first the opener's end, then the target's
pub record Visit : Type 0 where
  pub place : ℕ
  pub which : End
  pub socket : WorldSocket

-- the first end that is due among these sockets, of which the first has this place; its target's end alone where the opener's was visited
abbrev pub due_from : ℕ → List WorldSocket → Option Visit
due_from place [] = None
due_from place (socket ∷ rest) =
    if is_due O socket then Some (record { place = place; which = O; socket = socket })
    else if is_due T socket then Some (record { place = place; which = T; socket = socket })
    else due_from (place + 1) rest

-- where a pass goes on: at a socket, and there perhaps at its target's end
pub record Pass : Type 0 where
  pub place : ℕ
  pub at_target : Bool

-- a pass from its beginning
abbrev pub from_start : Pass
from_start = record { place = 0; at_target = false }

-- the first end that is due in the rest of a pass
abbrev pub due_at : Pass → List WorldSocket → Option Visit
due_at pass [] = None
due_at pass (socket ∷ rest) =
    if pass.at_target
    then (if is_due T socket then Some (record { place = pass.place; which = T; socket = socket }) else due_from (pass.place + 1) rest)
    else due_from pass.place (socket ∷ rest)

abbrev pub due_in : Pass → World → Option Visit
due_in pass world = due_at pass (drop pass.place world.sockets)

-- where a pass goes on after a visit
abbrev pub after_visit : Visit → Pass
after_visit visit = elim visit.which [
  | O ↦ record { place = visit.place; at_target = true }
  | T ↦ record { place = visit.place + 1; at_target = false }
]

-- ---- timers

-- entries before those of what follows
abbrev pub after_happened : List Entry → Happened → Happened
after_happened before (Ok more) = Ok (before ++ more.0, more.1)
after_happened before (Err stop) = Err stop

abbrev pub then_happens : Happened → (World → Happened) → Happened
then_happens (Ok done) f = after_happened done.0 (f done.1)
then_happens (Err stop) f = Err stop

-- the timer of one link, where it runs, is due
abbrev pub timer_due : List ℕ × List ℕ → World → Happened
timer_due link world = if timer_runs_for world link.0 link.1 then happened (times_out link.0 link.1 world) else Ok ([], world)

-- each timer that runs is due, in order
abbrev pub timers_due : List (List ℕ × List ℕ) → World → Happened
timers_due [] world = Ok ([], world)
timers_due (link ∷ rest) world = then_happens (timer_due link world) (timers_due rest)

-- some timer runs
abbrev pub some_timer_runs : World → Bool
some_timer_runs world = list_any (λ link. timer_runs_for world link.0 link.1) (all_links world)

-- ---- one happening after another

-- One thing that is left to happen, and where the pass goes on: the next visit of the pass, else the first of a new pass,
-- else the timers. None where nothing is left.
abbrev pub next_visit : Pass → World → Option Visit
next_visit pass world = elim (due_in pass world) [
  | Some visit ↦ Some visit
  | None ↦ due_in from_start world
]

abbrev pub see : Pass → World → Option (Happened × Pass)
see pass world = elim (next_visit pass world) [
  | Some visit ↦ Some (happened (visits visit.which visit.socket world), after_visit visit)
  | None ↦ (if some_timer_runs world then Some (timers_due (all_links world) world, from_start) else None)
]

abbrev pub before_rest : List Entry → Option Happened → Option Happened
before_rest before None = None
before_rest before (Some more) = Some (after_happened before more)

-- Happenings one after another until nothing is left; None where so many don't suffice.
abbrev pub settled_in : ℕ → Pass → World → Option Happened
settled_in zero pass world = elim (see pass world) [
  | None ↦ Some (Ok ([], world))
  | Some done ↦ None
]
settled_in (suc fuel) pass world = elim (see pass world) [
  | None ↦ Some (Ok ([], world))
  | Some done ↦ elim done.0 [
    | Err stop ↦ Some (Err stop)
    | Ok one ↦ before_rest one.0 (settled_in fuel done.1 one.1)
  ]
]

-- ---- how much is left

-- the weight of an end: what has to happen to it at most
abbrev pub weight_of_end : ℕ → WorldEnd → ℕ
weight_of_end pending end = elim end.stage [
  | Pending ↦ pending + length end.unread
  | Open ↦ 1 + length end.unread
  | Ended ↦ 0
]

abbrev pub weight_of_socket : WorldSocket → ℕ
weight_of_socket socket = weight_of_end 6 socket.o + weight_of_end 2 socket.t

-- what waits for a link, and its timer
abbrev pub weight_of_link : Link → ℕ
weight_of_link link = 1 + 4 * length link.waits

abbrev pub weight_of_host : HostState → ℕ
weight_of_host host = sum_by weight_of_link host.links + sum_by (λ socket. length socket.since) host.sockets

-- The weight of the world. Each happening takes at least one from it: an end that is pending counts more than all that
-- its opening brings, a byte at least as much as its share of an item, and what waits as much as it can be read for.
abbrev pub weight_of : World → ℕ
weight_of world = sum_by weight_of_socket world.sockets + sum_by (λ cell. weight_of_host cell.0.host) world.cells

-- all that is left to happen without loss
abbrev pub settles : World → Option Happened
settles world = settled_in (weight_of world) from_start world
