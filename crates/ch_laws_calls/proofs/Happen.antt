-- What happens at a line: a node does something, an end is joined, comes, or is fed. Each keeps the claim, and leaves no host a whole item to read.
use Rattle.std.specs.Prelude.{◌≡◌, ℕ, zero, suc, ◌+◌, ◌*◌, Bool, true, false, cond, List, [], ◌∷◌, ◌++◌, length, take, drop, find, is_some, slice_get, slice_set, nat_lt, Option, Some, None, Ok, Err}
use Rattle.std.proofs.Common.{refl, ap, sym, ◌∙◌, subst, append_assoc}
use Rattle.std.proofs.lemmas.Bool.{and_parts}
use Rattle.std.proofs.lemmas.List.{append-nil}
use Rattle.ch_model.specs.declared.entry.Entry.{Entry}
use Rattle.ch_model.specs.declared.entry.Entry.TheVariants as entries
use Rattle.ch_model.specs.declared.entry.Verdict.{Verdict}
use Rattle.ch_model.specs.declared.entry.Verdict.TheVariants as verdicts
use Rattle.ch_model.specs.declared.line.Line.{Line}
use Rattle.ch_model.specs.declared.local.LocalEntry.{LocalEntry}
use Rattle.ch_model.specs.declared.local.LocalEvent.{LocalEvent}
use Rattle.ch_model.specs.declared.local.LocalEvent.TheVariants as events
use Rattle.ch_model.specs.declared.name.End.{End}
use Rattle.ch_model.specs.declared.name.End.TheVariants.{O, T}
use Rattle.ch_model.specs.declared.step.SocketEvent.{SocketEvent}
use Rattle.ch_model.specs.declared.step.SocketEvent.TheVariants as sockets
use Rattle.ch_model.specs.declared.step.Step.{Step}
use Rattle.ch_model.specs.Cell.{Celled, answered, host_did, heard_as, cell_step}
use Rattle.ch_model.specs.CellSteps.{◌then◌, told_steps, steps_on, all_items}
use Rattle.ch_model.specs.Host.{first_ready, host_on}
use Rattle.ch_model.specs.HostState.{HostState}
use Rattle.ch_model.specs.HostSteps.{Stepped}
use Rattle.ch_model.specs.Stages.{Stage, Pending, Open, is_pending, is_open}
use Rattle.ch_model.specs.WorldHappenings.{Answered, after_entry, with_cell, cell_told, cell_hears, end_hears, joins, mark_of, comes_at, comes, hands, feeds}
use Rattle.ch_model.specs.WorldLines.{can_join, can_come, is_at_work, can_feed}
use Rattle.ch_model.specs.WorldSockets.{end_of, with_end, opened, is_of_host, has_input, is_socket_named, store_in, with_socket}
use Rattle.ch_model.specs.WorldState.{Cell, WorldEnd, WorldSocket, World}
use Rattle.ch_laws_items.specs.Kept.{Apart}
use Rattle.ch_laws_items.proofs.Events.{stays_apart}
use Rattle.ch_laws_log.proofs.Agreeing.{some_within}
use Rattle.ch_laws_log.proofs.Kept.{Led}
use Rattle.ch_laws_log.proofs.Posts.{AllLast, event_last}
use Rattle.ch_laws_ends.proofs.Changes.{cells_stay, told_cells}
use Rattle.ch_laws_ends.proofs.Happen.{its_stage}
use Rattle.ch_laws_ends.proofs.Known.{OpenerIs, TargetIs, IsKnown, pending_is}
use Rattle.ch_laws_ends.proofs.Places.{got_same, set_split}
use Rattle.ch_laws_ends.proofs.Told.{Sure}
use Rattle.ch_laws_calls.specs.Calls.{Claim, Anything, Both, IsHeldBy, IsIn, AllRead, joined_in, come_in, fed_in, KeepsCalls}
use Rattle.ch_laws_calls.proofs.Cells.{AllDo, AllFollow, tells_hold, host_follows}
use Rattle.ch_laws_calls.proofs.Runs.{told_at, HoldsAfter}

-- ---- what hosts have to read

-- nothing is left to read
abbrev pub NothingLeft : Claim
NothingLeft log world = AllRead world

abbrev pub WithRead : Claim → Claim
WithRead J = Both J NothingLeft

read_still : (one two : World) → two.cells ≡ one.cells → AllRead one → AllRead two
read_still one two same read = λ place cell at. read place cell (ap (λ (l : List (Cell × ℕ)). slice_get l place) (sym same) ∙ at)

read_set : (place : ℕ) (cell now : Cell × ℕ) (one two : World) → slice_get one.cells place ≡ Some cell → two.cells ≡ slice_set one.cells place now → first_ready now.0.host.sockets ≡ None → AllRead one → AllRead two
read_set place cell now one two at same ready read = λ p c there. set_split one.cells place cell now at (λ p c. first_ready c.0.host.sockets ≡ None) ready (λ p c e f. read p c f) p c (ap (λ (l : List (Cell × ℕ)). slice_get l p) (sym same) ∙ there)

read_told : (place : ℕ) (cell : Cell × ℕ) (after : Cell) (told : List LocalEntry) (world : World) → slice_get world.cells place ≡ Some cell → first_ready after.host.sockets ≡ None → AllRead world → AllRead (told_at place cell.1 after told world).1
read_told place cell after told world at ready read = read_set place cell (after, cell.1) world (told_at place cell.1 after told world).1 at (told_cells place after told (with_cell place (after, cell.1) world)) ready read

-- ---- a cell hears something

-- an entry of the world's own comes first
pub entry_first : (J : Claim) (log : List Entry) (entry : Entry) (done : Answered) → Led J (log ++ entry ∷ []) done → Led J log (after_entry entry done)
entry_first J log entry (Ok done) l = subst (λ (all : List Entry). J all done.1) (append_assoc log (entry ∷ []) done.0.1) l
entry_first J log entry (Err stop) l = tt

pub entry_before : (J : Claim) (log : List Entry) (entry : Entry) (done : List Entry × World) → J (log ++ entry ∷ done.0) done.1 → HoldsAfter J (log ++ entry ∷ []) done
entry_before J log entry done j = subst (λ (all : List Entry). J all done.1) (sym (append_assoc log (entry ∷ []) done.0)) j

pub nothing_told : (J : Claim) (log : List Entry) (world : World) → J log world → J (log ++ []) world
nothing_told J log world j = subst (λ (l : List Entry). J l world) (sym (append-nil log)) j

module _ (journal : List Line) (J : Claim) (k : KeepsCalls journal Anything Anything J) where
  -- a node's happening at a cell
  pub node_led : (place : ℕ) (event : LocalEvent) (log : List Entry) (world : World) → ((cell : Cell) → AllDo J place cell (cell_step cell event)) → ((p : ℕ) (cell : Cell × ℕ) → slice_get world.cells p ≡ Some cell → Apart cell.0.host.sockets)
      → WithRead J log world → Led (WithRead J) log (cell_hears place event world)
  node_led place event log world does apart j = by_cell (slice_get world.cells place) refl where
    by_done : (cell : Cell × ℕ) → slice_get world.cells place ≡ Some cell → (done : Celled) → AllDo J place cell.0 done → Led (WithRead J) log (cell_told place cell world done)
    by_done cell at (Ok done) d = (d.runs.keeps log world cell.1 at j.0, read_told place cell done.1 done.0.1 world at (d.read (apart place cell at) (j.1 place cell at)) j.1)
    by_done cell at (Err stop) d = tt

    by_cell : (o : Option (Cell × ℕ)) → slice_get world.cells place ≡ o → Led (WithRead J) log (elim o as (λ o. Answered) [
      | None ↦ Ok ((verdicts.Nothing, []), world)
      | Some cell ↦ cell_told place cell world (cell_step cell.0 event)
    ])
    by_cell None at = nothing_told (WithRead J) log world j
    by_cell (Some cell) at = by_done cell at (cell_step cell.0 event) (does cell.0)

  -- a host hears an event, which keeps the claim, and so does what follows
  host_led : (place : ℕ) (cell : Cell × ℕ) (verdict : Verdict) (event : SocketEvent) (log : List Entry) (world : World) → slice_get world.cells place ≡ Some cell → Apart cell.0.host.sockets → AllRead world
      → ((done : List Step) (host : HostState) → host_on cell.0.host event ≡ Ok (done, host) → HoldsAfter J log (told_at place cell.1 (record (cell.0) { host = host }) (told_steps done) world))
      → Led (WithRead J) log (cell_told place cell world (host_did verdict cell.0 (host_on cell.0.host event)))
  host_led place cell verdict event log world at apart read each = by_done (host_on cell.0.host event) refl (event_last cell.0.host event) where
    by_all : (done : List Step × HostState) → host_on cell.0.host event ≡ Ok done → (all : Celled) → AllFollow J place done.0 (record (cell.0) { host = done.1 }) all → Led (WithRead J) log (cell_told place cell world all)
    by_all done e (Ok all) f = (
      tells_hold J place cell.1 cell done.0 (record (cell.0) { host = done.1 }) all.1 all.0.1 log world at f.tells (each done.0 done.1 e),
      read_told place cell all.1 all.0.1 world at (f.read (stays_apart cell.0.host done.1 event done.0 apart e)) read,
    )
    by_all done e (Err stop) f = tt

    by_done : (done : Stepped) → host_on cell.0.host event ≡ done → AllLast done → Led (WithRead J) log (cell_told place cell world (host_did verdict cell.0 done))
    by_done (Ok done) e last = by_all done e (answered verdict (steps_on done.0 (record (cell.0) { host = done.1 }) then all_items)) (host_follows journal J k place verdict done.0 (record (cell.0) { host = done.1 }) last)
    by_done (Err stop) e last = tt

-- ---- where ends are

-- an end is of a cell of the world
pub record IsThere (world : World) (end : WorldEnd) : Type 0 where
  pub place : ℕ
  pub number : ℕ
  pub cell : Cell × ℕ
  pub held : IsHeldBy place number end
  pub at : slice_get world.cells place ≡ Some cell

there_is : (journal : List Line) (log : List Entry) (world : World) (socket : WorldSocket) (e : End) → Sure journal log world → IsIn socket world → is_some (end_of e socket).cell ≡ true → is_some (end_of e socket).number ≡ true → IsThere world (end_of e socket)
there_is journal log world socket e s is = by_parts (end_of e socket).cell (end_of e socket).number refl refl where
  by_cell : (place n : ℕ) → (end_of e socket).cell ≡ Some place → (end_of e socket).number ≡ Some n → (o : Option (Cell × ℕ)) → slice_get world.cells place ≡ o → IsThere world (end_of e socket)
  by_cell place n c m None at = let none = s.ends.agrees.nowhere place n at in let some = its_stage journal log world socket e place n s is c m in absurd cc
  by_cell place n c m (Some cell) at = record { place = place; number = n; cell = cell; held = record { cell = c; number = m }; at = at }

  by_parts : (c m : Option ℕ) → (end_of e socket).cell ≡ c → (end_of e socket).number ≡ m → is_some c ≡ true → is_some m ≡ true → IsThere world (end_of e socket)
  by_parts None m p q h g = absurd cc
  by_parts (Some place) None p q h g = absurd cc
  by_parts (Some place) (Some n) p q h g = by_cell place n p q (slice_get world.cells place) refl

open_is : (stage : Stage) → is_open stage ≡ true → stage ≡ Open
open_is Open e = refl
open_is stage e = absurd cc

-- an open end of a host has a number
pub open_there : (journal : List Line) (log : List Entry) (world : World) (socket : WorldSocket) (e : End) → Sure journal log world → IsIn socket world → is_at_work e socket ≡ true → IsThere world (end_of e socket)
open_there journal log world socket e s is work = there_is journal log world socket e s is parts.1 (numbered e parts.0 parts.1) where
  parts : (is_open (end_of e socket).stage ≡ true) × (is_of_host (end_of e socket) ≡ true)
  parts = and_parts (is_open (end_of e socket).stage) (is_of_host (end_of e socket)) work

  known : IsKnown socket
  known = s.ends.sorted.1 socket.name socket is

  numbered : (e : End) → is_open (end_of e socket).stage ≡ true → is_of_host (end_of e socket) ≡ true → is_some (end_of e socket).number ≡ true
  numbered O o h = subst (λ (stage : Stage). OpenerIs stage socket.o.cell socket.o.number) (open_is socket.o.stage o) known.o ∙ h
  numbered T o h = (subst (λ (stage : Stage). TargetIs stage socket.t.cell socket.t.number) (open_is socket.t.stage o) known.t).1

pub pending_there : (journal : List Line) (log : List Entry) (world : World) (socket : WorldSocket) → Sure journal log world → IsIn socket world → is_pending socket.o.stage ≡ true → IsThere world socket.o
pending_there journal log world socket s is pending = there_is journal log world socket O s is known.0 known.1 where
  known : OpenerIs Pending socket.o.cell socket.o.number
  known = subst (λ (stage : Stage). OpenerIs stage socket.o.cell socket.o.number) (pending_is socket.o.stage pending) (s.ends.sorted.1 socket.name socket is).o

-- what a cell hears that is there
pub at_cell : (I : Claim) (log : List Entry) (world : World) (place : ℕ) (event : LocalEvent) (cell : Cell × ℕ) → slice_get world.cells place ≡ Some cell → Led I log (cell_told place cell world (cell_step cell.0 event)) → Led I log (cell_hears place event world)
at_cell I log world place event cell at led = subst (λ (o : Option (Cell × ℕ)). Led I log (elim o as (λ o. Answered) [
  | None ↦ Ok ((verdicts.Nothing, []), world)
  | Some now ↦ cell_told place now world (cell_step now.0 event)
])) (sym at) led

-- what the host of an end hears
pub at_end : (I : Claim) (log : List Entry) (world : World) (end : WorldEnd) (event : ℕ → SocketEvent) (place n : ℕ) → IsHeldBy place n end → Led I log (cell_hears place (events.Socket (event n)) world) → Led I log (end_hears end event world)
at_end I log world end event place n held led = subst (λ (o : Option ℕ). Led I log (elim o as (λ o. Answered) [
  | None ↦ Ok ((verdicts.Nothing, []), world)
  | Some place ↦ elim end.number [
    | None ↦ Ok ((verdicts.Nothing, []), world)
    | Some number ↦ cell_hears place (events.Socket (event number)) world
  ]
])) (sym held.cell) (subst (λ (o : Option ℕ). Led I log (elim o as (λ o. Answered) [
  | None ↦ Ok ((verdicts.Nothing, []), world)
  | Some number ↦ cell_hears place (events.Socket (event number)) world
])) (sym held.number) led)

-- ---- an end with nothing unread

pub taken_none : (count : ℕ) (bytes : List ℕ) → nat_lt 0 count ≡ true → take count bytes ≡ [] → bytes ≡ []
taken_none zero bytes some e = absurd cc
taken_none (suc count) [] some e = refl
taken_none (suc count) (b ∷ bytes) some e = absurd cc

dropped_none : (count : ℕ) (bytes : List ℕ) → bytes ≡ [] → drop count bytes ≡ bytes
dropped_none zero bytes e = refl
dropped_none (suc count) [] e = refl
dropped_none (suc count) (b ∷ bytes) e = absurd cc

stored_same : (socket : WorldSocket) (all : List WorldSocket) → find (is_socket_named socket.name) all ≡ Some socket → store_in socket all ≡ all
stored_same socket [] e = absurd cc
stored_same socket (known ∷ rest) e = by_test (is_socket_named socket.name known) e (stored_same socket rest) where
  by_test : (b : Bool) → cond b (Some known) (find (is_socket_named socket.name) rest) ≡ Some socket → (find (is_socket_named socket.name) rest ≡ Some socket → store_in socket rest ≡ rest) → cond b (socket ∷ rest) (known ∷ store_in socket rest) ≡ known ∷ rest
  by_test true e more = let same : known ≡ socket = cc in ap (λ (w : WorldSocket). w ∷ rest) (sym same)
  by_test false e more = ap (λ (l : List WorldSocket). known ∷ l) (more e)

same_end : (which : End) (socket : WorldSocket) → with_end which (end_of which socket) socket ≡ socket
same_end O socket = refl
same_end T socket = refl

-- the world stays as it is
pub fed_none : (which : End) (count : ℕ) (socket : WorldSocket) (world : World) → IsIn socket world → (end_of which socket).unread ≡ [] → fed_in which count socket world ≡ world
fed_none which count socket world is none = ap (λ (o : Option WorldSocket). elim o as (λ o. World) [
  | None ↦ world
  | Some socket ↦ with_socket (with_end which (record (end_of which socket) { unread = drop count (end_of which socket).unread }) socket) world
]) is ∙ ap (λ (l : List ℕ). with_socket (with_end which (record (end_of which socket) { unread = l }) socket) world) (dropped_none count (end_of which socket).unread none)
    ∙ ap (λ (w : WorldSocket). with_socket w world) (same_end which socket) ∙ ap (λ (l : List WorldSocket). record world { sockets = l }) (stored_same socket world.sockets is)

-- ---- sockets

module _ (journal : List Line) (J : Claim) (k : KeepsCalls journal Anything Anything J) (before log : List Entry) (world : World) (s : Sure journal before world) (j : WithRead J log world) where
  -- a host of the world hears an event of an end, once an entry was told and the world's sockets have changed
  end_led : (entry : Entry) (end : WorldEnd) (event : ℕ → SocketEvent) (now : World) (there : IsThere world end) → now.cells ≡ world.cells
      → ((done : List Step) (host : HostState) → host_on there.cell.0.host (event there.number) ≡ Ok (done, host)
      → J (log ++ entry ∷ (told_at there.place there.cell.1 (record (there.cell.0) { host = host }) (told_steps done) now).0) (told_at there.place there.cell.1 (record (there.cell.0) { host = host }) (told_steps done) now).1)
      → Led (WithRead J) log (after_entry entry (end_hears end event now))
  end_led entry end event now there cells each = entry_first (WithRead J) log entry (end_hears end event now) (at_end (WithRead J) log_now now end event there.place there.number there.held
      (at_cell (WithRead J) log_now now there.place (events.Socket (event there.number)) there.cell at_now
      (host_led journal J k there.place there.cell (heard_as there.cell.0.host (event there.number)) (event there.number) log_now now at_now (s.ends.agrees.sound there.place there.cell there.at).apart (read_still world now cells j.1)
      (λ done host does. entry_before J log entry (told_at there.place there.cell.1 (record (there.cell.0) { host = host }) (told_steps done) now) (each done host does))))) where
        log_now : List Entry
        log_now = log ++ entry ∷ []

        at_now : slice_get now.cells there.place ≡ Some there.cell
        at_now = ap (λ (l : List (Cell × ℕ)). slice_get l there.place) cells ∙ there.at

  pub joins_led : (socket : WorldSocket) → IsIn socket world → can_join socket ≡ true → Led (WithRead J) log (joins socket world)
  joins_led socket is can = by_there (pending_there journal before world socket s is (and_parts (is_pending socket.o.stage) (is_some socket.t.cell) can).0) where
    by_there : IsThere world socket.o → Led (WithRead J) log (joins socket world)
    by_there there = end_led (entries.Joined socket.name) socket.o (λ sock. sockets.Joined sock) (joined_in socket world) there (cells_stay socket.name O opened world)
        (λ done host does. k.joined log world socket there.place there.number there.cell done host is can there.held (record { at = there.at; does = does }) j.1 tt j.0 tt)

  pub comes_led : (socket : WorldSocket) → IsIn socket world → can_come socket ≡ true → Led (WithRead J) log (comes socket world)
  comes_led socket is can = by_place socket.t.cell refl where
    log_now : List Entry
    log_now = log ++ entries.Came socket.name ∷ []

    came : ℕ → WorldEnd → WorldEnd
    came number end = record (opened end) { number = Some number }

    there : (place : ℕ) (cell : Cell × ℕ) → socket.t.cell ≡ Some place → slice_get world.cells place ≡ Some cell → Led (WithRead J) log_now (cell_hears place (events.Came (mark_of socket.o) (2 * cell.1 + 1) socket.from_host) (come_in place cell socket world))
    there place cell c at = at_cell (WithRead J) log_now now place (events.Came (mark_of socket.o) (2 * cell.1 + 1) socket.from_host) (cell.0, cell.1 + 1) at_now
        (host_led journal J k place (cell.0, cell.1 + 1) verdicts.Ok (sockets.Came (2 * cell.1 + 1) socket.from_host) log_now now at_now (s.ends.agrees.sound place cell at).apart
        (read_set place cell (cell.0, cell.1 + 1) world now at same_cells (j.1 place cell at) j.1)
        (λ done host does. entry_before J log (entries.Came socket.name) (told_at place (cell.1 + 1) (record (cell.0) { host = host }) (told_steps done) now)
        (k.came log world socket place cell done host is can c (record { at = at; does = does }) j.1 tt j.0 tt))) where
          now : World
          now = come_in place cell socket world

          same_cells : now.cells ≡ slice_set world.cells place (cell.0, cell.1 + 1)
          same_cells = cells_stay socket.name T (came (2 * cell.1 + 1)) (with_cell place (cell.0, cell.1 + 1) world)

          at_now : slice_get now.cells place ≡ Some (cell.0, cell.1 + 1)
          at_now = ap (λ (l : List (Cell × ℕ)). slice_get l place) same_cells ∙ got_same world.cells place cell (cell.0, cell.1 + 1) at

    by_cell : (place : ℕ) → socket.t.cell ≡ Some place → (o : Option (Cell × ℕ)) → slice_get world.cells place ≡ o → is_some o ≡ true → Led (WithRead J) log_now (elim o as (λ o. Answered) [
      | None ↦ Ok ((verdicts.Nothing, []), world)
      | Some cell ↦ cell_hears place (events.Came (mark_of socket.o) (2 * cell.1 + 1) socket.from_host) (come_in place cell socket world)
    ])
    by_cell place c None at some = absurd cc
    by_cell place c (Some cell) at some = there place cell c at

    by_place : (o : Option ℕ) → socket.t.cell ≡ o → Led (WithRead J) log (elim o as (λ o. Answered) [
      | None ↦ Ok ((verdicts.Nothing, []), world)
      | Some place ↦ after_entry (entries.Came socket.name) (comes_at place socket world)
    ])
    by_place None c = nothing_told (WithRead J) log world j
    by_place (Some place) c = entry_first (WithRead J) log (entries.Came socket.name) (comes_at place socket world)
        (by_cell place c (slice_get world.cells place) refl (some_within world.cells place (s.ends.sorted.0.within socket.name socket place is c)))

  pub feeds_led : (socket : WorldSocket) (which : End) (count : ℕ) → IsIn socket world → can_feed which socket ≡ true → nat_lt 0 count ≡ true → Led (WithRead J) log (feeds which count socket world)
  feeds_led socket which count is can some = by_there (open_there journal before world socket which s is (and_parts (is_at_work which socket) (has_input which socket) can).0) where
    by_bytes : IsThere world (end_of which socket) → (bytes : List ℕ) → take count (end_of which socket).unread ≡ bytes → Led (WithRead J) log (after_entry (entries.Fed socket.name which (length bytes)) (hands bytes (end_of which socket) (fed_in which count socket world)))
    by_bytes there [] e = subst (λ (w : World). Led (WithRead J) log (after_entry (entries.Fed socket.name which 0) (end_hears (end_of which socket) (λ sock. sockets.Ended sock) w))) (sym (fed_none which count socket world is none))
        (end_led (entries.Fed socket.name which 0) (end_of which socket) (λ sock. sockets.Ended sock) world there refl
        (λ done host does. k.ended log world socket which there.place there.number there.cell done host is can none there.held (record { at = there.at; does = does }) j.1 tt j.0 tt)) where
          none : (end_of which socket).unread ≡ []
          none = taken_none count (end_of which socket).unread some e
    by_bytes there (b ∷ bytes) e = end_led (entries.Fed socket.name which (length (b ∷ bytes))) (end_of which socket) (λ sock. sockets.Fed sock (b ∷ bytes)) (fed_in which count socket world) there (cells_stay socket.name which (λ end. record end { unread = drop count end.unread }) world)
        (λ done host does. k.fed log world socket which count b bytes there.place there.number there.cell done host is can e there.held (record { at = there.at; does = does }) j.1 tt j.0 tt)

    by_there : IsThere world (end_of which socket) → Led (WithRead J) log (feeds which count socket world)
    by_there there = by_bytes there (take count (end_of which socket).unread) refl
