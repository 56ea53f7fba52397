-- Settling, lines and whole journals.
use Rattle.std.proofs.Common.{◌≡◌, ℕ, zero, suc, ◌+◌, Bool, true, false, cond, not, ◌&&◌, ◌==◌, List, [], ◌∷◌, ◌++◌, length, drop, refl, sym, ap, subst}
use Rattle.std.specs.Prelude.{find, Option, Some, None, Ok, Err, is_some, nat_lt}
use Rattle.std.specs.List.{prefix_len}
use Rattle.std.specs.Str.{bytes_eq}
use Rattle.ch_base.specs.declared.address.Address.{Address}
use Rattle.ch_model.specs.declared.entry.Entry.{Entry}
use Rattle.ch_model.specs.declared.line.Line.{Line}
use Rattle.ch_model.specs.declared.line.What.{What}
use Rattle.ch_model.specs.declared.line.What.TheVariants as lines
use Rattle.ch_model.specs.declared.name.End.{End}
use Rattle.ch_model.specs.declared.name.End.TheVariants.{O, T}
use Rattle.ch_model.specs.declared.name.SockName.{SockName}
use Rattle.ch_model.specs.Stages.{Stage, Pending, Open, Ended, is_pending}
use Rattle.ch_model.specs.WorldState.{Cell, WorldSocket, World}
use Rattle.ch_model.specs.WorldSockets.{end_of, is_socket_named, is_host_of, cell_of}
use Rattle.ch_model.specs.Timers.{timer_runs_for, all_links}
use Rattle.ch_model.specs.WorldHappenings.{Answered, joins, refuses, feeds, times_out}
use Rattle.ch_model.specs.WorldLines.{line_done}
use Rattle.ch_model.specs.Settle.{Happened, happened, opens, is_due, visits, Visit, due_from, Pass, from_start, due_at, due_in, after_visit, after_happened, then_happens, timer_due, timers_due, some_timer_runs, next_visit, see, before_rest, settled_in, weight_of, settles}
use Rattle.ch_model.specs.World.{◌>>=◌, is_declaration, line_answered, line_settled, event_step, world_step, log_from}
use Rattle.ch_laws_world.specs.Grows.{SocketGoes, SocketsGo, Home, home_of, homes_of, Numbered, Grows}
use Rattle.ch_laws_world.proofs.Names.{name_self, name_is, NamesApart, names_apart}
use Rattle.ch_laws_world.proofs.Sockets.{rests, onward, AllGrow, after}
use Rattle.ch_laws_world.proofs.Happenings.{IsIn, joined, refused, came, fed, timed_out, line_grows}

-- ---- a socket that is visited is the one of its name

-- a socket in front is found under its name
in_front : (socket : WorldSocket) (rest : List WorldSocket) → find (is_socket_named socket.name) (socket ∷ rest) ≡ Some socket
in_front socket rest = ap (λ (b : Bool). cond b (Some socket) (find (is_socket_named socket.name) rest)) (name_self socket.name)

-- so is one behind others
behind : (known socket : WorldSocket) (rest : List WorldSocket) → find (is_socket_named known.name) rest ≡ None → find (is_socket_named socket.name) rest ≡ Some socket → find (is_socket_named socket.name) (known ∷ rest) ≡ Some socket
behind known socket rest none e = by_test (is_socket_named socket.name known) refl
  where
    by_test : (b : Bool) → is_socket_named socket.name known ≡ b → cond b (Some known) (find (is_socket_named socket.name) rest) ≡ Some socket
    by_test true is =
        let one : find (is_socket_named known.name) rest ≡ Some socket = subst (λ (n : SockName). find (is_socket_named n) rest ≡ Some socket) (sym (name_is known.name socket.name is)) e in
        absurd cc
    by_test false is = e

-- the socket of a visit is the one of its name among these
abbrev Visited : List WorldSocket → Option Visit → Type 0
Visited sockets None = Unit {0}
Visited sockets (Some visit) = find (is_socket_named visit.socket.name) sockets ≡ Some visit.socket

visited_behind : (known : WorldSocket) (rest : List WorldSocket) (o : Option Visit) → find (is_socket_named known.name) rest ≡ None → Visited rest o → Visited (known ∷ rest) o
visited_behind known rest None none v = tt
visited_behind known rest (Some visit) none v = behind known visit.socket rest none v

visited_from : (place : ℕ) (sockets : List WorldSocket) → NamesApart sockets → Visited sockets (due_from place sockets)
visited_from place [] a = tt
visited_from place (socket ∷ rest) a = by_tests (is_due O socket) (is_due T socket) (visited_behind socket rest (due_from (place + 1) rest) a.0 (visited_from (place + 1) rest a.1))
  where
    by_tests : (b c : Bool) → Visited (socket ∷ rest) (due_from (place + 1) rest) → Visited (socket ∷ rest) (cond b (Some (record { place = place; which = O; socket = socket })) (cond c (Some (record { place = place; which = T; socket = socket })) (due_from (place + 1) rest)))
    by_tests true c v = in_front socket rest
    by_tests false true v = in_front socket rest
    by_tests false false v = v

visited_at : (pass : Pass) (sockets : List WorldSocket) → NamesApart sockets → Visited sockets (due_at pass sockets)
visited_at pass [] a = tt
visited_at pass (socket ∷ rest) a = by_tests pass.at_target (is_due T socket)
  where
    by_tests : (b c : Bool) → Visited (socket ∷ rest) (cond b (cond c (Some (record { place = pass.place; which = T; socket = socket })) (due_from (pass.place + 1) rest)) (due_from pass.place (socket ∷ rest)))
    by_tests true true = in_front socket rest
    by_tests true false = visited_behind socket rest (due_from (pass.place + 1) rest) a.0 (visited_from (pass.place + 1) rest a.1)
    by_tests false c = visited_from pass.place (socket ∷ rest) a

apart_on : (n : ℕ) (sockets : List WorldSocket) → NamesApart sockets → NamesApart (drop n sockets)
apart_on zero sockets a = a
apart_on (suc n) [] a = tt
apart_on (suc n) (socket ∷ rest) a = apart_on n rest a.1

visited_on : (n : ℕ) (sockets : List WorldSocket) (o : Option Visit) → NamesApart sockets → Visited (drop n sockets) o → Visited sockets o
visited_on zero sockets o a v = v
visited_on (suc n) [] o a v = v
visited_on (suc n) (socket ∷ rest) o a v = visited_behind socket rest o a.0 (visited_on n rest o a.1 v)

visited_in : (pass : Pass) (world : World) → Numbered world.sockets → Visited world.sockets (due_in pass world)
visited_in pass world k =
    let a : NamesApart world.sockets = names_apart [] world.sockets k in
    visited_on pass.place world.sockets (due_in pass world) a (visited_at pass (drop pass.place world.sockets) (apart_on pass.place world.sockets a))

visited_next : (pass : Pass) (world : World) → Numbered world.sockets → Visited world.sockets (next_visit pass world)
visited_next pass world k = by_due (due_in pass world) (visited_in pass world k)
  where
    by_due : (o : Option Visit) → Visited world.sockets o → Visited world.sockets (elim o as (λ o. Option Visit) [
      | Some visit ↦ Some visit
      | None ↦ due_in from_start world
    ])
    by_due (Some visit) v = v
    by_due None v = visited_in from_start world k

-- ---- visits

opened_up : (which : End) (socket : WorldSocket) (world : World) → Numbered world.sockets → IsIn socket world → is_pending (end_of which socket).stage ≡ true → AllGrow world (opens which socket world)
opened_up T socket world k is pending = came socket world k is pending
opened_up O socket world k is pending = by_test (is_some socket.t.cell)
  where
    by_test : (b : Bool) → AllGrow world (cond b (joins socket world) (refuses socket world))
    by_test true = joined socket world k is pending
    by_test false = refused socket world k

visited : (which : End) (socket : WorldSocket) (world : World) → Numbered world.sockets → IsIn socket world → AllGrow world (visits which socket world)
visited which socket world k is = by_stage (end_of which socket).stage refl
  where
    by_stage : (stage : Stage) → (end_of which socket).stage ≡ stage → AllGrow world (elim stage as (λ s. Answered) [
      | Pending ↦ opens which socket world
      | Open ↦ feeds which (length (end_of which socket).unread) socket world
      | Ended ↦ feeds which 0 socket world
    ])
    by_stage Pending e = opened_up which socket world k is (ap is_pending e)
    by_stage Open e = fed which (length (end_of which socket).unread) socket world k
    by_stage Ended e = fed which 0 socket world k

-- ---- one happening after another

has_happened : (world : World) (done : Answered) → AllGrow world done → AllGrow world (happened done)
has_happened world (Ok done) g = g
has_happened world (Err stop) g = tt

after_entries : (entries : List Entry) (world : World) (done : Happened) → AllGrow world done → AllGrow world (after_happened entries done)
after_entries entries world (Ok done) g = g
after_entries entries world (Err stop) g = tt

then_one : (world : World) (done : Happened) (f : World → Happened) → AllGrow world done → ((next : World) → Numbered next.sockets → AllGrow next (f next)) → AllGrow world (then_happens done f)
then_one world (Ok done) f g h = after_entries done.0 world (f done.1) (after world done.1 (f done.1) g (h done.1 g.numbered))
then_one world (Err stop) f g h = tt

timer_grows : (link : List ℕ × List ℕ) (world : World) → Numbered world.sockets → AllGrow world (timer_due link world)
timer_grows link world k = by_test (timer_runs_for world link.0 link.1)
  where
    by_test : (b : Bool) → AllGrow world (cond b (happened (times_out link.0 link.1 world)) (Ok ([], world)))
    by_test true = has_happened world (times_out link.0 link.1 world) (timed_out link.0 link.1 world k)
    by_test false = rests world k

timers_grow : (links : List (List ℕ × List ℕ)) (world : World) → Numbered world.sockets → AllGrow world (timers_due links world)
timers_grow [] world k = rests world k
timers_grow (link ∷ rest) world k = then_one world (timer_due link world) (timers_due rest) (timer_grows link world k) (timers_grow rest)

-- what may have happened
abbrev SeenGrow : World → Option (Happened × Pass) → Type 0
SeenGrow world None = Unit {0}
SeenGrow world (Some seen) = AllGrow world seen.0

seen_grows : (pass : Pass) (world : World) → Numbered world.sockets → SeenGrow world (see pass world)
seen_grows pass world k = by_visit (next_visit pass world) (visited_next pass world k)
  where
    by_test : (b : Bool) → SeenGrow world (cond b (Some (timers_due (all_links world) world, from_start)) None)
    by_test true = timers_grow (all_links world) world k
    by_test false = tt

    by_visit : (o : Option Visit) → Visited world.sockets o → SeenGrow world (elim o as (λ o. Option (Happened × Pass)) [
      | Some visit ↦ Some (happened (visits visit.which visit.socket world), after_visit visit)
      | None ↦ cond (some_timer_runs world) (Some (timers_due (all_links world) world, from_start)) None
    ])
    by_visit (Some visit) v = has_happened world (visits visit.which visit.socket world) (visited visit.which visit.socket world k v)
    by_visit None v = by_test (some_timer_runs world)

abbrev MayGrow : World → Option Happened → Type 0
MayGrow world None = Unit {0}
MayGrow world (Some done) = AllGrow world done

settled_grows : (fuel : ℕ) (pass : Pass) (world : World) → Numbered world.sockets → MayGrow world (settled_in fuel pass world)
settled_grows zero pass world k = by_seen (see pass world)
  where
    by_seen : (o : Option (Happened × Pass)) → MayGrow world (elim o as (λ o. Option Happened) [
      | None ↦ Some (Ok ([], world))
      | Some done ↦ None
    ])
    by_seen None = rests world k
    by_seen (Some done) = tt
settled_grows (suc fuel) pass world k = by_seen (see pass world) (seen_grows pass world k) (settled_grows fuel)
  where
    by_rest : (entries : List Entry) (next : World) (o : Option Happened) → Grows world next → MayGrow next o → MayGrow world (before_rest entries o)
    by_rest entries next None g m = tt
    by_rest entries next (Some more) g m = after_entries entries world more (after world next more g m)

    by_one : (done : Happened) (then : Pass) → AllGrow world done → ((p : Pass) (next : World) → Numbered next.sockets → MayGrow next (settled_in fuel p next)) → MayGrow world (elim done as (λ d. Option Happened) [
      | Err stop ↦ Some (Err stop)
      | Ok one ↦ before_rest one.0 (settled_in fuel then one.1)
    ])
    by_one (Err stop) then g ih = tt
    by_one (Ok one) then g ih = by_rest one.0 one.1 (settled_in fuel then one.1) g (ih then one.1 g.numbered)

    by_seen : (o : Option (Happened × Pass)) → SeenGrow world o → ((p : Pass) (next : World) → Numbered next.sockets → MayGrow next (settled_in fuel p next)) → MayGrow world (elim o as (λ o. Option Happened) [
      | None ↦ Some (Ok ([], world))
      | Some done ↦ elim done.0 as (λ d. Option Happened) [
        | Err stop ↦ Some (Err stop)
        | Ok one ↦ before_rest one.0 (settled_in fuel done.1 one.1)
      ]
    ])
    by_seen None g ih = rests world k
    by_seen (Some done) g ih = by_one done.0 done.1 g ih

-- ---- lines

answered : (number : ℕ) (world : World) (done : Answered) → AllGrow world done → AllGrow world (line_answered number done)
answered number world (Ok done) g = g
answered number world (Err stop) g = tt

settled : (number : ℕ) (world : World) (o : Option Happened) → Numbered world.sockets → MayGrow world o → AllGrow world (line_settled number world o)
settled number world None k m = rests world k
settled number world (Some (Ok done)) k m = m
settled number world (Some (Err stop)) k m = tt

event_grows : (number : ℕ) (what : What) (world : World) → Numbered world.sockets → AllGrow world (event_step number what world)
event_grows number lines.Settle world k = settled number world (settles world) k (settled_grows (weight_of world) from_start world k)
event_grows number what world k = answered number world (line_done what world) (line_grows what world k)

pub step_grows : (world : World) (line : Line) → Numbered world.sockets → AllGrow world (world_step world line)
step_grows world line k = by_test (is_declaration line.what)
  where
    by_test : (b : Bool) → AllGrow world (cond b (Ok ([], world)) (event_step line.number line.what world))
    by_test true = rests world k
    by_test false = event_grows line.number line.what world k

pub lines_grow : (world : World) (lines : List Line) → Numbered world.sockets → AllGrow world (log_from world lines)
lines_grow world [] k = rests world k
lines_grow world (line ∷ rest) k = by_done (world_step world line) (step_grows world line k) (λ next. lines_grow next rest)
  where
    by_more : (entries : List Entry) (next : World) (more : Happened) → Grows world next → AllGrow next more → AllGrow world (more >>= (λ more. Ok (entries ++ more.0, more.1)))
    by_more entries next (Ok more) g m = onward world next more.1 g m
    by_more entries next (Err stop) g m = tt

    by_done : (done : Happened) → AllGrow world done → ((next : World) → Numbered next.sockets → AllGrow next (log_from next rest)) → AllGrow world (done >>= (λ done. log_from done.1 rest >>= (λ more. Ok (done.0 ++ more.0, more.1))))
    by_done (Ok done) g ih = by_more done.0 done.1 (log_from done.1 rest) g (ih done.1 g.numbered)
    by_done (Err stop) g ih = tt

-- ---- as equations

pub grown : (world after : World) (entries : List Entry) (done : Happened) → AllGrow world done → done ≡ Ok (entries, after) → Grows world after
grown world after entries (Ok done) g e = let same : done.1 ≡ after = ap world_in e in subst (Grows world) same g
  where
    world_in : Happened → World
    world_in (Ok done) = done.1
    world_in (Err stop) = world
grown world after entries (Err stop) g e = absurd cc

-- a socket that has a name keeps it
pub found_still : (name : SockName) (socket : WorldSocket) (before after : List WorldSocket) → SocketsGo before after → find (is_socket_named name) before ≡ Some socket → (next : WorldSocket) × (find (is_socket_named name) after ≡ Some next) × SocketGoes socket next
found_still name socket [] after g e = absurd cc
found_still name socket (known ∷ rest) [] g e = absurd g
found_still name socket (known ∷ rest) (now ∷ more) g e = by_tests (is_socket_named name known) (is_socket_named name now) (ap (λ (n : SockName). is_name n) g.0.name) e (found_still name socket rest more g.1)
  where
    is_name : SockName → Bool
    is_name n = is_socket_named name (record known { name = n })

    by_tests : (b c : Bool) → c ≡ b → cond b (Some known) (find (is_socket_named name) rest) ≡ Some socket → (find (is_socket_named name) rest ≡ Some socket → (next : WorldSocket) × (find (is_socket_named name) more ≡ Some next) × SocketGoes socket next) → (next : WorldSocket) × (cond c (Some now) (find (is_socket_named name) more) ≡ Some next) × SocketGoes socket next
    by_tests true true is e ih = let this : known ≡ socket = cc in (now, refl, subst (λ (s : WorldSocket). SocketGoes s now) this g.0)
    by_tests false false is e ih = ih e
    by_tests true false is e ih = absurd cc
    by_tests false true is e ih = absurd cc

-- ---- where an address is

-- the same homes stand at the same places
place_stays : (address : Address) (before after : List (Cell × ℕ)) → homes_of after ≡ homes_of before → (prefix_len (λ cell. not (is_host_of address cell)) after ≡ prefix_len (λ cell. not (is_host_of address cell)) before) × (length after ≡ length before)
place_stays address [] [] e = (refl, refl)
place_stays address [] (now ∷ more) e = absurd cc
place_stays address (known ∷ rest) [] e = absurd cc
place_stays address (known ∷ rest) (now ∷ more) e =
    let here : home_of now.0 ≡ home_of known.0 = cc in
    let others : homes_of more ≡ homes_of rest = cc in
    let further = place_stays address rest more others in
    (by_tests (is_host_of address known) (is_host_of address now) (ap (λ (h : Home). bytes_eq h.0 address.host && (h.1 == address.port)) here) further.0, ap (λ (n : ℕ). suc n) further.1)
  where
    by_tests : (b c : Bool) → c ≡ b → prefix_len (λ cell. not (is_host_of address cell)) more ≡ prefix_len (λ cell. not (is_host_of address cell)) rest → cond (not c) (1 + prefix_len (λ cell. not (is_host_of address cell)) more) 0 ≡ cond (not b) (1 + prefix_len (λ cell. not (is_host_of address cell)) rest) 0
    by_tests true true is e = refl
    by_tests false false is e = ap (λ (n : ℕ). 1 + n) e
    by_tests true false is e = absurd cc
    by_tests false true is e = absurd cc

pub address_stays : (address : Address) (before after : World) → homes_of after.cells ≡ homes_of before.cells → cell_of after address ≡ cell_of before address
address_stays address before after e =
    let places = place_stays address before.cells after.cells e in
    by_parts (prefix_len (λ cell. not (is_host_of address cell)) after.cells) (prefix_len (λ cell. not (is_host_of address cell)) before.cells) (length after.cells) (length before.cells) places.0 places.1
  where
    by_parts : (m n k l : ℕ) → m ≡ n → k ≡ l → cond (nat_lt m k) (Some m) None ≡ cond (nat_lt n l) (Some n) None
    by_parts m n k l e f = cc
