-- An end's host hears what happens to it exactly where the world's own test of the socket passes.
use Rattle.std.proofs.Common.{◌≡◌, ℕ, Bool, true, false, cond, List, [], ◌∷◌, length, take, drop, Ok, Err, refl, sym, ap, ◌∙◌, subst}
use Rattle.std.proofs.lemmas.Bool.{and_parts}
use Rattle.std.specs.Option.{option_map}
use Rattle.std.specs.Prelude.{find, is_some, slice_get, Option, Some, None}
use Rattle.ch_model.specs.declared.entry.Entry.{Entry}
use Rattle.ch_model.specs.declared.entry.Entry.TheVariants as entries
use Rattle.ch_model.specs.declared.entry.Verdict.{Verdict}
use Rattle.ch_model.specs.declared.entry.Verdict.TheVariants as verdicts
use Rattle.ch_model.specs.declared.line.Line.{Line}
use Rattle.ch_model.specs.declared.local.LocalEvent.TheVariants as events
use Rattle.ch_model.specs.declared.name.End.{End}
use Rattle.ch_model.specs.declared.name.End.TheVariants.{O, T}
use Rattle.ch_model.specs.declared.name.SockName.{SockName}
use Rattle.ch_model.specs.declared.step.SocketEvent.{SocketEvent}
use Rattle.ch_model.specs.declared.step.SocketEvent.TheVariants as sockets
use Rattle.ch_model.specs.Answers.{ok_where}
use Rattle.ch_model.specs.Cell.{answered, stands, is_heard, heard_as, host_did, cell_step}
use Rattle.ch_model.specs.CellSteps.{Followed}
use Rattle.ch_model.specs.Host.{host_on}
use Rattle.ch_model.specs.HostState.{Socket, HostState}
use Rattle.ch_model.specs.HostSteps.{Stepped, is_socket}
use Rattle.ch_model.specs.Logs.{some_and}
use Rattle.ch_model.specs.Stages.{Stage, Pending, Open, Ended, is_pending, is_open}
use Rattle.ch_model.specs.WorldHappenings.{Answered, cell_told, cell_hears, end_hears, joins, refuses, hands, feeds, loses}
use Rattle.ch_model.specs.WorldLines.{on_socket, can_join, can_refuse, can_feed, is_at_work}
use Rattle.ch_model.specs.WorldSockets.{end_of, opened, is_of_host, has_input, is_socket_named, is_end_of, with_end_of}
use Rattle.ch_model.specs.WorldState.{Cell, WorldSocket, World}
use Rattle.ch_laws_log.specs.HostEnds.{stage_at}
use Rattle.ch_laws_log.specs.WorldEnds.{stage_found}
use Rattle.ch_laws_log.proofs.Kept.{IsIn}
use Rattle.ch_laws_log.proofs.OwnEntries.{IsDone, entry_done}
use Rattle.ch_laws_log.proofs.Stored.{find_name}
use Rattle.ch_laws_ends.proofs.Changes.{cells_stay}
use Rattle.ch_laws_ends.proofs.Found.{Stands}
use Rattle.ch_laws_ends.proofs.Happen.{its_stage}
use Rattle.ch_laws_ends.proofs.Known.{OpenerIs, TargetIs, IsKnown, pending_is}
use Rattle.ch_laws_ends.proofs.Told.{Sure}

-- ---- how an end stands at its host

pub stands_as : (test : Stage → Bool) (n : ℕ) (host : HostState) (stage : Stage) → stage_at host n ≡ Some stage → stands test n host ≡ test stage
stands_as test n host stage e = by_socket (find (is_socket n) host.sockets) e where
  by_socket : (o : Option Socket) → option_map (λ (w : Socket). w.stage) o ≡ Some stage → (elim o as (λ o. Bool) [
    | None ↦ false
    | Some socket ↦ test socket.stage
  ]) ≡ test stage
  by_socket None e = absurd cc
  by_socket (Some socket) e = ap test (one socket.stage stage e) where
    one : (a b : Stage) → ◌≡◌ {A = Option Stage} (Some a) (Some b) → a ≡ b
    one a b e = cc

-- the test of an end is the same at its host and in the world
pub tests_same : (journal : List Line) (log : List Entry) (world : World) (s : SockName) (socket : WorldSocket) (e : End) (place number : ℕ) (cell : Cell × ℕ) (test : Stage → Bool) → Sure journal log world → find (is_socket_named s) world.sockets ≡ Some socket → is_end_of place number (end_of e socket) ≡ true → slice_get world.cells place ≡ Some cell
    → stands test number cell.0.host ≡ test (end_of e socket).stage
tests_same journal log world s socket e place number cell test sure is of at = stands_as test number cell.0.host (end_of e socket).stage
    (sure.ends.agrees.ends place cell at number ∙ ap (λ (o : Option (SockName × End)). stage_found o world.sockets) (sure.ends.each s socket e place number is of) ∙ ap (Stands e) is)

-- ---- an event that is heard is done

told_done : (place : ℕ) (cell : Cell × ℕ) (world : World) (event : SocketEvent) → heard_as cell.0.host event ≡ verdicts.Ok → IsDone (cell_told place cell world (cell_step cell.0 (events.Socket event)))
told_done place cell world event heard = by_host (host_on cell.0.host event) where
  by_followed : (done : Followed) → IsDone (cell_told place cell world (answered (heard_as cell.0.host event) done))
  by_followed (Ok done) = heard
  by_followed (Err stop) = tt

  by_host : (done : Stepped) → IsDone (cell_told place cell world (host_did (heard_as cell.0.host event) cell.0 done))
  by_host (Ok done) = by_followed _
  by_host (Err stop) = tt

-- the end's host hears the event where it does so of an end that stands as the world's
end_done : (journal : List Line) (log : List Entry) (world now : World) (socket : WorldSocket) (e : End) (event : ℕ → SocketEvent) → Sure journal log world → IsIn socket world → now.cells ≡ world.cells → (is_some (end_of e socket).cell ≡ true) × (is_some (end_of e socket).number ≡ true)
    → ((host : HostState) (n : ℕ) → stage_at host n ≡ Some (end_of e socket).stage → is_heard host (event n) ≡ true) → IsDone (end_hears (end_of e socket) event now)
end_done journal log world now socket e event s is cells known heard = by_end (end_of e socket).cell (end_of e socket).number refl refl known where
  by_cell : (place number : ℕ) → (end_of e socket).cell ≡ Some place → (end_of e socket).number ≡ Some number → (o : Option (Cell × ℕ)) → slice_get now.cells place ≡ o → IsDone (elim o as (λ o. Answered) [
    | None ↦ Ok ((verdicts.Nothing, []), now)
    | Some cell ↦ cell_told place cell now (cell_step cell.0 (events.Socket (event number)))
  ])
  by_cell place number c m None at =
      let gone = s.ends.agrees.nowhere place number (ap (λ (l : List (Cell × ℕ)). slice_get l place) (sym cells) ∙ at) in
      let there = its_stage journal log world socket e place number s is c m in absurd cc
  by_cell place number c m (Some cell) at = told_done place cell now (event number) (ap (λ b. cond b verdicts.Ok verdicts.Nothing) (heard cell.0.host number
      (s.ends.agrees.ends place cell (ap (λ (l : List (Cell × ℕ)). slice_get l place) (sym cells) ∙ at) number ∙ its_stage journal log world socket e place number s is c m)))

  by_end : (c n : Option ℕ) → (end_of e socket).cell ≡ c → (end_of e socket).number ≡ n → (is_some c ≡ true) × (is_some n ≡ true) → IsDone (elim c as (λ o. Answered) [
    | None ↦ Ok ((verdicts.Nothing, []), now)
    | Some place ↦ elim n [
      | None ↦ Ok ((verdicts.Nothing, []), now)
      | Some number ↦ cell_hears place (events.Socket (event number)) now
    ]
  ])
  by_end None n c m k = let none = k.0 in absurd cc
  by_end (Some place) None c m k = let none = k.1 in absurd cc
  by_end (Some place) (Some number) c m k = by_cell place number c m (slice_get now.cells place) refl

-- ---- what has a host and a number

pending_known : (socket : WorldSocket) → is_pending socket.o.stage ≡ true → IsKnown socket → (is_some socket.o.cell ≡ true) × (is_some socket.o.number ≡ true)
pending_known socket p k = subst (λ (x : Stage). OpenerIs x socket.o.cell socket.o.number) (pending_is socket.o.stage p) k.o

open_is : (stage : Stage) → is_open stage ≡ true → stage ≡ Open
open_is Open e = refl
open_is Pending e = absurd cc
open_is Ended e = absurd cc

pub work_known : (which : End) (socket : WorldSocket) → is_at_work which socket ≡ true → IsKnown socket → (is_some (end_of which socket).cell ≡ true) × (is_some (end_of which socket).number ≡ true)
work_known O socket w k = let both = and_parts (is_open socket.o.stage) (is_of_host socket.o) w in
    let same : is_some socket.o.number ≡ is_some socket.o.cell = subst (λ (x : Stage). OpenerIs x socket.o.cell socket.o.number) (open_is socket.o.stage both.0) k.o in (both.1, same ∙ both.1)
work_known T socket w k = subst (λ (x : Stage). TargetIs x socket.t.cell socket.t.number) (open_is socket.t.stage (and_parts (is_open socket.t.stage) (is_of_host socket.t) w).0) k.t

-- ---- each happening is done

pub joins_done : (journal : List Line) (log : List Entry) (world : World) (socket : WorldSocket) → Sure journal log world → IsIn socket world → can_join socket ≡ true → IsDone (joins socket world)
joins_done journal log world socket s is can = let p = (and_parts (is_pending socket.o.stage) (is_some socket.t.cell) can).0 in
    entry_done (entries.Joined socket.name) (end_hears socket.o (λ sock. sockets.Joined sock) (with_end_of socket.name O opened world))
    (end_done journal log world (with_end_of socket.name O opened world) socket O (λ sock. sockets.Joined sock) s is (cells_stay socket.name O opened world) (pending_known socket p (s.ends.sorted.1 socket.name socket is)) (λ host n at. stands_as is_pending n host socket.o.stage at ∙ p))

pub refuses_done : (journal : List Line) (log : List Entry) (world : World) (socket : WorldSocket) → Sure journal log world → IsIn socket world → can_refuse socket ≡ true → IsDone (refuses socket world)
refuses_done journal log world socket s is can = entry_done (entries.Refused socket.name) (end_hears socket.o (λ sock. sockets.Refused sock) world)
    (end_done journal log world world socket O (λ sock. sockets.Refused sock) s is refl (pending_known socket can (s.ends.sorted.1 socket.name socket is)) (λ host n at. stands_as is_pending n host socket.o.stage at ∙ can))

pub loses_done : (journal : List Line) (log : List Entry) (world : World) (which : End) (socket : WorldSocket) → Sure journal log world → IsIn socket world → is_at_work which socket ≡ true → IsDone (loses which socket world)
loses_done journal log world which socket s is can = entry_done (entries.Lost socket.name which) (end_hears (end_of which socket) (λ sock. sockets.Lost sock) world)
    (end_done journal log world world socket which (λ sock. sockets.Lost sock) s is refl (work_known which socket can (s.ends.sorted.1 socket.name socket is)) (λ host n at. stands_as is_open n host (end_of which socket).stage at ∙ (and_parts (is_open (end_of which socket).stage) (is_of_host (end_of which socket)) can).0))

pub feeds_done : (journal : List Line) (log : List Entry) (world : World) (which : End) (count : ℕ) (socket : WorldSocket) → Sure journal log world → IsIn socket world → can_feed which socket ≡ true → IsDone (feeds which count socket world)
feeds_done journal log world which count socket s is can = entry_done (entries.Fed socket.name which (length (take count (end_of which socket).unread))) (hands (take count (end_of which socket).unread) (end_of which socket) rest) (by_bytes (take count (end_of which socket).unread)) where
  rest : World
  rest = with_end_of socket.name which (λ end. record end { unread = drop count end.unread }) world

  works : is_at_work which socket ≡ true
  works = (and_parts (is_at_work which socket) (has_input which socket) can).0

  stands_open : (host : HostState) (n : ℕ) → stage_at host n ≡ Some (end_of which socket).stage → stands is_open n host ≡ true
  stands_open host n at = stands_as is_open n host (end_of which socket).stage at ∙ (and_parts (is_open (end_of which socket).stage) (is_of_host (end_of which socket)) works).0

  same_cells : rest.cells ≡ world.cells
  same_cells = cells_stay socket.name which (λ end. record end { unread = drop count end.unread }) world

  by_bytes : (bytes : List ℕ) → IsDone (hands bytes (end_of which socket) rest)
  by_bytes [] = end_done journal log world rest socket which (λ sock. sockets.Ended sock) s is same_cells (work_known which socket works (s.ends.sorted.1 socket.name socket is)) stands_open
  by_bytes (b ∷ bytes) = end_done journal log world rest socket which (λ sock. sockets.Fed sock (b ∷ bytes)) s is same_cells (work_known which socket works (s.ends.sorted.1 socket.name socket is)) stands_open

-- ---- the answer to a line

-- it is answered so
abbrev pub IsAnswered : Verdict → Answered → Type 0
IsAnswered verdict (Ok done) = done.0.0 ≡ verdict
IsAnswered verdict (Err stop) = Unit {0}

done_so : (done : Answered) → IsDone done → IsAnswered verdicts.Ok done
done_so (Ok done) d = d
done_so (Err stop) d = tt

pub socket_answered : (s : SockName) (test : WorldSocket → Bool) (f : WorldSocket → World → Answered) (world : World) → ((socket : WorldSocket) → IsIn socket world → test socket ≡ true → IsDone (f socket world)) → IsAnswered (ok_where (some_and test (find (is_socket_named s) world.sockets))) (on_socket s test f world)
socket_answered s test f world each = by_socket (find (is_socket_named s) world.sockets) refl where
  by_test : (socket : WorldSocket) → IsIn socket world → (b : Bool) → test socket ≡ b → IsAnswered (ok_where b) (cond b (f socket world) (Ok ((verdicts.Nothing, []), world)))
  by_test socket is true e = done_so (f socket world) (each socket is e)
  by_test socket is false e = refl

  by_socket : (o : Option WorldSocket) → find (is_socket_named s) world.sockets ≡ o → IsAnswered (ok_where (some_and test o)) (elim o as (λ o. Answered) [
    | None ↦ Ok ((verdicts.Nothing, []), world)
    | Some socket ↦ cond (test socket) (f socket world) (Ok ((verdicts.Nothing, []), world))
  ])
  by_socket None e = refl
  by_socket (Some socket) e = by_test socket (subst (λ (n : SockName). find (is_socket_named n) world.sockets ≡ Some socket) (sym (find_name s world.sockets socket e)) e) (test socket) refl

pub answer_is : (verdict given : Verdict) (told : List Entry) (after : World) (done : Answered) → IsAnswered verdict done → done ≡ Ok ((given, told), after) → given ≡ verdict
answer_is verdict given told after done a e = subst (λ (d : Answered). IsAnswered verdict d) e a
