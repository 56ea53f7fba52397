-- The hosts and the world agree still once a thing has happened: an end joins, comes, is refused, fed or lost, a timer is due, or a node does something.
use Rattle.std.proofs.Common.{◌≡◌, ◌≤◌, ℕ, ◌+◌, ◌*◌, Bool, true, false, cond, ◌&&◌, ◌||◌, not, List, [], ◌∷◌, ◌++◌, length, take, drop, Ok, Err, refl, sym, ap, ◌∙◌, subst, append_assoc, arith}
use Rattle.std.proofs.lemmas.Bool.{ne_eqb}
use Rattle.std.proofs.lemmas.List.Folds.{list_any-append}
use Rattle.std.specs.Prelude.{find, is_some, slice_get, slice_set, Option, Some, None, ◌==◌}
use Rattle.ch_model.specs.declared.entry.Entry.{Entry}
use Rattle.ch_model.specs.declared.entry.Entry.TheVariants as entries
use Rattle.ch_model.specs.declared.entry.Verdict.TheVariants as verdicts
use Rattle.ch_model.specs.declared.line.Line.{Line}
use Rattle.ch_model.specs.declared.local.LocalEntry.{LocalEntry}
use Rattle.ch_model.specs.declared.local.LocalEntry.TheVariants as local
use Rattle.ch_model.specs.declared.local.LocalEvent.{LocalEvent}
use Rattle.ch_model.specs.declared.local.LocalEvent.TheVariants as events
use Rattle.ch_model.specs.declared.name.End.{End}
use Rattle.ch_model.specs.declared.name.End.TheVariants.{O, T}
use Rattle.ch_model.specs.declared.name.SockName.{SockName}
use Rattle.ch_model.specs.declared.step.SocketEvent.{SocketEvent}
use Rattle.ch_model.specs.declared.step.SocketEvent.TheVariants as sockets
use Rattle.ch_model.specs.declared.step.Step.TheVariants as steps
use Rattle.ch_model.specs.AnswersEntries.{refuses as refuses_it}
use Rattle.ch_model.specs.Cell.{Celled, cell_step}
use Rattle.ch_model.specs.HostState.{HostState}
use Rattle.ch_model.specs.Naming.{address_as, named_as}
use Rattle.ch_model.specs.Same.{same_socket}
use Rattle.ch_model.specs.Stages.{Stage, Pending, Open, Ended, is_pending, is_open, is_ended}
use Rattle.ch_model.specs.WorldHappenings.{Answered, after_entry, cell_told, cell_hears, end_hears, with_cell, joins, refuses, mark_of, comes_at, comes, hands, feeds, loses, times_out}
use Rattle.ch_model.specs.WorldLines.{node_hears, cuts, is_strangers, knocks, pokes, quits}
use Rattle.ch_model.specs.WorldSockets.{end_of, with_end, ended, cut, opened, arrives, has_input, is_socket_named, store_in, with_end_of, with_socket, same_number, is_end_of, end_at, find_end, cell_of}
use Rattle.ch_model.specs.WorldState.{Cell, WorldEnd, WorldSocket, World}
use Rattle.ch_model.specs.WorldSteps.{end_closes, local_told, all_told}
use Rattle.ch_laws_log.specs.HostEnds.{opens_no_end, opens_nothing}
use Rattle.ch_laws_log.specs.WorldEnds.{stage_found, stage_held}
use Rattle.ch_laws_log.proofs.Agreeing.{Good, keeps_good}
use Rattle.ch_laws_log.proofs.CellTold as cell_tells
use Rattle.ch_laws_log.proofs.Kept.{IsIn, Led, one_told, stranger_socket}
use Rattle.ch_laws_log.proofs.Stored.{number_is, number_same, same_is, find_stored, found_end, next_is_new}
use Rattle.ch_laws_ends.specs.Agree.{AgreesOnEnds}
use Rattle.ch_laws_ends.proofs.Came.{come_as, come_socket, MayCome, is_new, come_held, come_each, come_sockets}
use Rattle.ch_laws_ends.proofs.Changes.{Changes, cells_stay, cutting, taking, getting, closing}
use Rattle.ch_laws_ends.proofs.Found.{or_end, new_found, none_found, EachFound, Stands, changed_held, quiet_held, each_kept}
use Rattle.ch_laws_ends.proofs.Known.{OpenerIs, TargetIs, Sorted, keeps_sorted, pending_is}
use Rattle.ch_laws_ends.proofs.Opened.{OpensTo, joined_on, came_on}
use Rattle.ch_laws_ends.proofs.LeftFirst.{ToldLeft, CelledLeft, refused_first}
use Rattle.ch_laws_ends.proofs.Over.{Over, refused_in, same_over, new_over, end_over, change_over, told_over, told_unrefused, or_not, refused_still, one_more_over}
use Rattle.ch_laws_ends.proofs.Places.{got_same, set_twice, some_is}
use Rattle.ch_laws_ends.proofs.Told.{Ends, Sure, told_ends, rests, each_new, no_number, agrees_still, hears_sure, opened_agrees, opens_sure}

-- ---- an end hears something

entry_first : (journal : List Line) (log : List Entry) (entry : Entry) (done : Answered) → Led (Sure journal) (log ++ entry ∷ []) done → Led (Sure journal) log (after_entry entry done)
entry_first journal log entry (Ok done) l = subst (λ (all : List Entry). Sure journal all done.1) (append_assoc log (entry ∷ []) done.0.1) l
entry_first journal log entry (Err stop) l = tt

end_hears_sure : (journal : List Line) (log : List Entry) (end : WorldEnd) (event : ℕ → SocketEvent) (world : World) → ((n : ℕ) → opens_nothing (event n) ≡ true) → Sure journal log world → Led (Sure journal) log (end_hears end event world)
end_hears_sure journal log end event world of s = by_end end.cell end.number where
  by_end : (c n : Option ℕ) → Led (Sure journal) log (elim c as (λ o. Answered) [
    | None ↦ Ok ((verdicts.Nothing, []), world)
    | Some place ↦ elim n [
      | None ↦ Ok ((verdicts.Nothing, []), world)
      | Some number ↦ cell_hears place (events.Socket (event number)) world
    ]
  ])
  by_end None n = rests journal log world s
  by_end (Some place) None = rests journal log world s
  by_end (Some place) (Some number) = hears_sure journal log place (events.Socket (event number)) world (of number) s

-- the end is of that cell, under that number
pub its_place : (end : WorldEnd) (place number : ℕ) → end.cell ≡ Some place → end.number ≡ Some number → (p n : ℕ) → is_end_of p n end ≡ is_new place number p n
its_place end place number c m p n = ap (λ (o : Option ℕ). same_number o p && same_number end.number n) c ∙ ap (λ (o : Option ℕ). (place == p) && same_number o n) m

its_own : (end : WorldEnd) (place number : ℕ) → end.cell ≡ Some place → end.number ≡ Some number → is_end_of place number end ≡ true
its_own end place number c m = its_place end place number c m place number ∙ ap (λ b. b && (number == number)) (number_same place) ∙ number_same number

-- the end that a cell has under a number stands in the world as it stands there
pub its_stage : (journal : List Line) (log : List Entry) (world : World) (socket : WorldSocket) (e : End) (place number : ℕ) → Sure journal log world → IsIn socket world → (end_of e socket).cell ≡ Some place → (end_of e socket).number ≡ Some number → stage_held place number world.sockets ≡ Some (end_of e socket).stage
its_stage journal log world socket e place number s is c m = ap (λ (o : Option (SockName × End)). stage_found o world.sockets) (s.ends.each socket.name socket e place number is (its_own (end_of e socket) place number c m)) ∙ ap (Stands e) is

-- an entry that refuses no dial
more_over : (log : List Entry) (entry : Entry) (sockets : List WorldSocket) → ((n : SockName) → refuses_it n entry ≡ false) → Over (refused_in log) sockets → Over (refused_in (log ++ entry ∷ [])) sockets
more_over log entry sockets quiet o = same_over (refused_in log) (refused_in (log ++ entry ∷ [])) sockets (λ n. refused_still log (entry ∷ []) n (ap (λ b. b || false) (quiet n))) o

-- the log tells of an end what doesn't change the world
pub noted_sure : (journal : List Line) (log : List Entry) (entry : Entry) (world : World) → ((n : SockName) → refuses_it n entry ≡ false) → Sorted journal (log ++ entry ∷ []) world → Sure journal log world → Sure journal (log ++ entry ∷ []) world
noted_sure journal log entry world quiet sorted s = record { ends = record { sorted = sorted; each = s.ends.each; agrees = s.ends.agrees }; over = more_over log entry world.sockets quiet s.over }

-- ---- an end is joined

pub joins_sure : (journal : List Line) (log : List Entry) (socket : WorldSocket) (world : World) → IsIn socket world → is_pending socket.o.stage ≡ true → Sure journal log world → Led (Sure journal) log (joins socket world)
joins_sure journal log socket world is p s = entry_first journal log (entries.Joined socket.name) (end_hears socket.o (λ sock. sockets.Joined sock) open_world)
    (by_end socket.o.cell socket.o.number refl refl (subst (λ (x : Stage). OpenerIs x socket.o.cell socket.o.number) (pending_is socket.o.stage p) (s.ends.sorted.1 socket.name socket is).o))
  where
    open_world : World
    open_world = with_end_of socket.name O opened world

    log_now : List Entry
    log_now = log ++ entries.Joined socket.name ∷ []

    same_cells : open_world.cells ≡ world.cells
    same_cells = cells_stay socket.name O opened world

    not_over : (old : WorldSocket) → find (is_socket_named socket.name) world.sockets ≡ Some old → is_ended old.o.stage ≡ true → is_ended (with_end O (opened old.o) old).o.stage ≡ true
    not_over old found e = let same = some_is socket old (sym is ∙ found) in let gone : is_ended Pending ≡ true = subst (λ (x : Stage). is_ended x ≡ true) (ap (λ (w : WorldSocket). w.o.stage) (sym same) ∙ pending_is socket.o.stage p) e in absurd cc

    over : Over (refused_in log_now) open_world.sockets
    over = more_over log (entries.Joined socket.name) open_world.sockets (λ n. refl) (end_over (refused_in log) socket.name O opened world not_over s.over)

    by_cell : (place number : ℕ) → socket.o.cell ≡ Some place → socket.o.number ≡ Some number → stage_held place number world.sockets ≡ Some Pending → (o : Option (Cell × ℕ)) → slice_get open_world.cells place ≡ o → Led (Sure journal) log_now (elim o as (λ o. Answered) [
      | None ↦ Ok ((verdicts.Nothing, []), open_world)
      | Some cell ↦ cell_told place cell open_world (cell_step cell.0 (events.Socket (sockets.Joined number)))
    ])
    by_cell place number c m held None at = let gone = s.ends.agrees.nowhere place number (ap (λ (l : List (Cell × ℕ)). slice_get l place) (sym same_cells) ∙ at) in absurd cc
    by_cell place number c m held (Some cell) at = opens_sure journal log_now place number cell (events.Socket (sockets.Joined number)) open_world ((keeps_sorted journal).joined log world socket is p s.ends.sorted)
        (each_kept socket.name O opened world (λ end. (refl, refl)) s.ends.each) over at agrees (joined_on cell.0 number (s.ends.agrees.sound place cell at_world) (s.ends.agrees.ends place cell at_world number ∙ held)) where
          at_world : slice_get world.cells place ≡ Some cell
          at_world = ap (λ (l : List (Cell × ℕ)). slice_get l place) (sym same_cells) ∙ at

          past : (k : ℕ) → cell.1 ≤ k → (b : Bool) → (number == 2 * k + 1) ≡ b → b ≡ false
          past k l false e = refl
          past k l true e =
              let none : stage_held place number world.sockets ≡ None = subst (λ (j : ℕ). stage_held place j world.sockets ≡ None) (sym (number_is number (2 * k + 1) e)) (s.ends.agrees.accepted place cell at_world k l) in
              absurd cc

          agrees : (now : HostState) → OpensTo cell.0.host now number → AgreesOnEnds (with_cell place (record cell.0 { host = now }, cell.1) open_world)
          agrees now to = opened_agrees world (with_cell place (record cell.0 { host = now }, cell.1) open_world) place cell (record cell.0 { host = now }) cell.1 number s.ends.agrees at_world
              (ap (λ (l : List (Cell × ℕ)). slice_set l place (record cell.0 { host = now }, cell.1)) same_cells) to
              (λ q n. changed_held q n socket.name O opened world socket s.ends.sorted.0.apart s.ends.each is (λ end. (refl, refl)) ∙ ap (λ b. cond b (Some Open) (stage_held q n world.sockets)) (its_place socket.o place number c m q n))
              (λ k l. (past k l (number == 2 * k + 1) refl, l))

    by_end : (c n : Option ℕ) → socket.o.cell ≡ c → socket.o.number ≡ n → (is_some c ≡ true) × (is_some n ≡ true) → Led (Sure journal) log_now (elim c as (λ o. Answered) [
      | None ↦ Ok ((verdicts.Nothing, []), open_world)
      | Some place ↦ elim n [
        | None ↦ Ok ((verdicts.Nothing, []), open_world)
        | Some number ↦ cell_hears place (events.Socket (sockets.Joined number)) open_world
      ]
    ])
    by_end None n c m k = let none = k.0 in absurd cc
    by_end (Some place) None c m k = let none = k.1 in absurd cc
    by_end (Some place) (Some number) c m k = by_cell place number c m (its_stage journal log world socket O place number s is c m ∙ ap Some (pending_is socket.o.stage p)) (slice_get open_world.cells place) refl

-- ---- an end comes

pub comes_sure : (journal : List Line) (log : List Entry) (socket : WorldSocket) (world : World) → IsIn socket world → is_pending socket.t.stage ≡ true → Sure journal log world → Led (Sure journal) log (comes socket world)
comes_sure journal log socket world is p s = by_place socket.t.cell refl where
  log_now : List Entry
  log_now = log ++ entries.Came socket.name ∷ []

  known : TargetIs Pending socket.t.cell socket.t.number
  known = subst (λ (x : Stage). TargetIs x socket.t.cell socket.t.number) (pending_is socket.t.stage p) (s.ends.sorted.1 socket.name socket is).t

  counted : ℕ → Cell × ℕ → World
  counted place cell = with_cell place (cell.0, cell.1 + 1) world

  come_world : ℕ → Cell × ℕ → World
  come_world place cell = with_end_of socket.name T (come_as (2 * cell.1 + 1)) (counted place cell)

  there : (place : ℕ) (cell : Cell × ℕ) → socket.t.cell ≡ Some place → slice_get world.cells place ≡ Some cell → Led (Sure journal) log_now (cell_hears place (events.Came (mark_of socket.o) (2 * cell.1 + 1) socket.from_host) (come_world place cell))
  there place cell c at = subst (λ (o : Option (Cell × ℕ)). Led (Sure journal) log_now (elim o as (λ o. Answered) [
    | None ↦ Ok ((verdicts.Nothing, []), come_world place cell)
    | Some now ↦ cell_told place now (come_world place cell) (cell_step now.0 event)
  ])) (sym at_now) (opens_sure journal log_now place (2 * cell.1 + 1) (cell.0, cell.1 + 1) event (come_world place cell)
      ((keeps_sorted journal).came log (counted place cell) socket (2 * cell.1 + 1) is p ((keeps_sorted journal).cell log world place (cell.0, cell.1 + 1) s.ends.sorted))
      (subst EachFound (sym sockets_now) (come_each place (2 * cell.1 + 1) socket world.sockets may)) over at_now agrees (came_on cell.0 (mark_of socket.o) cell.1 socket.from_host (s.ends.agrees.sound place cell at))) where
        event : LocalEvent
        event = events.Came (mark_of socket.o) (2 * cell.1 + 1) socket.from_host

        same_cells : (come_world place cell).cells ≡ slice_set world.cells place (cell.0, cell.1 + 1)
        same_cells = cells_stay socket.name T (come_as (2 * cell.1 + 1)) (counted place cell)

        at_now : slice_get (come_world place cell).cells place ≡ Some (cell.0, cell.1 + 1)
        at_now = ap (λ (l : List (Cell × ℕ)). slice_get l place) same_cells ∙ got_same world.cells place cell (cell.0, cell.1 + 1) at

        sockets_now : (come_world place cell).sockets ≡ store_in (come_socket (2 * cell.1 + 1) socket) world.sockets
        sockets_now = come_sockets (2 * cell.1 + 1) socket (counted place cell) is

        over : Over (refused_in log_now) (come_world place cell).sockets
        over = more_over log (entries.Came socket.name) (come_world place cell).sockets (λ n. refl) (end_over (refused_in log) socket.name T (come_as (2 * cell.1 + 1)) (counted place cell) (λ old found e. e) s.over)

        same : (k : ℕ) → k ≤ k
        same k = omega arith

        may : MayCome place (2 * cell.1 + 1) socket world.sockets
        may = record { is = is; apart = s.ends.sorted.0.apart; each = s.ends.each; cell = c; unnumbered = known.1; free = none_found place (2 * cell.1 + 1) world.sockets (s.ends.agrees.accepted place cell at cell.1 (same cell.1)) }

        other : (a k : ℕ) → a + 1 ≤ k → 2 * a + 1 ≡ 2 * k + 1 → ⊥
        other a k l e = omega arith

        below : (a k : ℕ) → a + 1 ≤ k → a ≤ k
        below a k l = omega arith

        agrees : (now : HostState) → OpensTo cell.0.host now (2 * cell.1 + 1) → AgreesOnEnds (with_cell place (record cell.0 { host = now }, cell.1 + 1) (come_world place cell))
        agrees now to = opened_agrees world (with_cell place (record cell.0 { host = now }, cell.1 + 1) (come_world place cell)) place cell (record cell.0 { host = now }) (cell.1 + 1) (2 * cell.1 + 1) s.ends.agrees at
            (ap (λ (l : List (Cell × ℕ)). slice_set l place (record cell.0 { host = now }, cell.1 + 1)) same_cells ∙ set_twice world.cells place (cell.0, cell.1 + 1) (record cell.0 { host = now }, cell.1 + 1)) to
            (λ q n. ap (stage_held q n) sockets_now ∙ come_held place (2 * cell.1 + 1) socket world.sockets may q n)
            (λ k l. (ne_eqb (2 * cell.1 + 1) (2 * k + 1) (other cell.1 k l), below cell.1 k l))

  by_cell : (place : ℕ) → socket.t.cell ≡ Some place → (o : Option (Cell × ℕ)) → slice_get world.cells place ≡ o → Led (Sure journal) log_now (elim o as (λ o. Answered) [
    | None ↦ Ok ((verdicts.Nothing, []), world)
    | Some cell ↦ cell_hears place (events.Came (mark_of socket.o) (2 * cell.1 + 1) socket.from_host) (come_world place cell)
  ])
  by_cell place c None at = rests journal log_now world (noted_sure journal log (entries.Came socket.name) world (λ n. refl) ((keeps_sorted journal).came_nowhere log world socket place is c at s.ends.sorted) s)
  by_cell place c (Some cell) at = there place cell c at

  by_place : (o : Option ℕ) → socket.t.cell ≡ o → Led (Sure journal) log (elim o as (λ o. Answered) [
    | None ↦ Ok ((verdicts.Nothing, []), world)
    | Some place ↦ after_entry (entries.Came socket.name) (comes_at place socket world)
  ])
  by_place None c = rests journal log world s
  by_place (Some place) c = entry_first journal log (entries.Came socket.name) (comes_at place socket world) (by_cell place c (slice_get world.cells place) refl)

-- ---- what happens to an end that is there

-- an end is changed, and all ends stand as before
changed_sure : (journal : List Line) (log : List Entry) (entry : Entry) (s : SockName) (e : End) (f : WorldEnd → WorldEnd) (world : World) → ((n : SockName) → refuses_it n entry ≡ false) → Sorted journal (log ++ entry ∷ []) (with_end_of s e f world) → Changes f → ((p n : ℕ) → stage_held p n (with_end_of s e f world).sockets ≡ stage_held p n world.sockets) → Sure journal log world → Sure journal (log ++ entry ∷ []) (with_end_of s e f world)
changed_sure journal log entry s e f world quiet sorted c held sure = record {
  ends = record { sorted = sorted; each = each_kept s e f world c.place sure.ends.each; agrees = agrees_still world (with_end_of s e f world) (cells_stay s e f world) held sure.ends.agrees };
  over = more_over log entry (with_end_of s e f world).sockets quiet (change_over (refused_in log) s e f world c sure.over);
}

-- ---- a dial is refused

-- The host leaves that end first, so once all is told it has ended.
left_over : (journal : List Line) (these : SockName → Bool) (place n : ℕ) (cell : Cell) (told : List LocalEntry) (log : List Entry) (world : World) (socket : WorldSocket) → Good journal log world → Over these world.sockets → IsIn socket world → find_end place n world.sockets ≡ Some (socket.name, O) → ToldLeft n told
    → Over (λ t. these t || same_socket socket.name t) (all_told place cell told world).1.sockets
left_over journal these place n cell (local.Step (steps.Left sock) ∷ rest) log world socket g o is found t =
    let one = local_told place cell (local.Step (steps.Left sock)) world in
    told_over journal (λ t. these t || same_socket socket.name t) place cell rest (log ++ one.0) one.1 (one_told (Good journal) (keeps_good journal) log place cell (local.Step (steps.Left sock)) world g)
    (subst (λ (at : Option (SockName × End)). Over (λ t. these t || same_socket socket.name t) (elim at as (λ o. List Entry × World) [
      | None ↦ ([], world)
      | Some at ↦ (entries.Left at.0 at.1 ∷ [], end_closes at world)
    ]).1.sockets) (sym (ap (λ k. find_end place k world.sockets) t ∙ found)) (one_more_over these socket.name socket world is o))
left_over journal these place n cell (local.Step (steps.Down sock) ∷ rest) log world socket g o is found t =
    let one = local_told place cell (local.Step (steps.Down sock)) world in
    told_over journal (λ t. these t || same_socket socket.name t) place cell rest (log ++ one.0) one.1 (one_told (Good journal) (keeps_good journal) log place cell (local.Step (steps.Down sock)) world g)
    (subst (λ (at : Option (SockName × End)). Over (λ t. these t || same_socket socket.name t) (elim at as (λ o. List Entry × World) [
      | None ↦ ([], world)
      | Some at ↦ (entries.Down at.0 at.1 ∷ [], end_closes at world)
    ]).1.sockets) (sym (ap (λ k. find_end place k world.sockets) t ∙ found)) (one_more_over these socket.name socket world is o))
left_over journal these place n cell told log world socket g o is found t = absurd t

pub refuses_sure : (journal : List Line) (log : List Entry) (socket : WorldSocket) (world : World) → IsIn socket world → is_pending socket.o.stage ≡ true → Sure journal log world → Led (Sure journal) log (refuses socket world)
refuses_sure journal log socket world is p s = entry_first journal log (entries.Refused socket.name) (end_hears socket.o (λ sock. sockets.Refused sock) world)
    (by_end socket.o.cell socket.o.number refl refl (subst (λ (x : Stage). OpenerIs x socket.o.cell socket.o.number) (pending_is socket.o.stage p) (s.ends.sorted.1 socket.name socket is).o))
  where
    log_now : List Entry
    log_now = log ++ entries.Refused socket.name ∷ []

    ends : Ends journal log_now world
    ends = record { sorted = (keeps_sorted journal).refused tt log world socket is p s.ends.sorted; each = s.ends.each; agrees = s.ends.agrees }

    -- the dial that is refused now
    one_more : (t : SockName) → refused_in log_now t ≡ (refused_in log t || same_socket socket.name t)
    one_more t = list_any-append (refuses_it t) log (entries.Refused socket.name ∷ []) ∙ ap (λ b. refused_in log t || b) (or_not (same_socket socket.name t))

    by_done : (place number : ℕ) (cell : Cell × ℕ) → socket.o.cell ≡ Some place → socket.o.number ≡ Some number → slice_get world.cells place ≡ Some cell → (done : Celled) → cell_step cell.0 (events.Socket (sockets.Refused number)) ≡ done → CelledLeft number done → Led (Sure journal) log_now (cell_told place cell world done)
    by_done place number cell c m at (Err stop) e t = tt
    by_done place number cell c m at (Ok done) e t = record {
      ends = told_ends journal log_now world place cell done.1 done.0.1 ends at (cell_tells.cell_told cell.0 done.1 (events.Socket (sockets.Refused number)) done.0.0 done.0.1 refl (s.ends.agrees.sound place cell at) e);
      over = same_over (λ t. refused_in log t || same_socket socket.name t) (refused_in (log_now ++ (all_told place done.1 done.0.1 kept).0)) (all_told place done.1 done.0.1 kept).1.sockets
          (λ t. refused_still log_now (all_told place done.1 done.0.1 kept).0 t (told_unrefused t place done.1 done.0.1 kept) ∙ one_more t)
          (left_over journal (refused_in log) place number done.1 done.0.1 log_now kept socket ((keeps_good journal).cell log_now world place (done.1, cell.1) ends.sorted.0) s.over is (s.ends.each socket.name socket O place number is (its_own socket.o place number c m)) t);
    } where
      kept : World
      kept = with_cell place (done.1, cell.1) world

    by_cell : (place number : ℕ) → socket.o.cell ≡ Some place → socket.o.number ≡ Some number → stage_held place number world.sockets ≡ Some Pending → (o : Option (Cell × ℕ)) → slice_get world.cells place ≡ o → Led (Sure journal) log_now (elim o as (λ o. Answered) [
      | None ↦ Ok ((verdicts.Nothing, []), world)
      | Some cell ↦ cell_told place cell world (cell_step cell.0 (events.Socket (sockets.Refused number)))
    ])
    by_cell place number c m held None at = let gone = s.ends.agrees.nowhere place number at in absurd cc
    by_cell place number c m held (Some cell) at = by_done place number cell c m at (cell_step cell.0 (events.Socket (sockets.Refused number))) refl (refused_first cell.0 number (s.ends.agrees.ends place cell at number ∙ held))

    by_end : (c n : Option ℕ) → socket.o.cell ≡ c → socket.o.number ≡ n → (is_some c ≡ true) × (is_some n ≡ true) → Led (Sure journal) log_now (elim c as (λ o. Answered) [
      | None ↦ Ok ((verdicts.Nothing, []), world)
      | Some place ↦ elim n [
        | None ↦ Ok ((verdicts.Nothing, []), world)
        | Some number ↦ cell_hears place (events.Socket (sockets.Refused number)) world
      ]
    ])
    by_end None n c m k = let none = k.0 in absurd cc
    by_end (Some place) None c m k = let none = k.1 in absurd cc
    by_end (Some place) (Some number) c m k = by_cell place number c m (its_stage journal log world socket O place number s is c m ∙ ap Some (pending_is socket.o.stage p)) (slice_get world.cells place) refl

-- ---- an end is fed, lost and cut, and timers are due

hands_sure : (journal : List Line) (log : List Entry) (bytes : List ℕ) (end : WorldEnd) (world : World) → Sure journal log world → Led (Sure journal) log (hands bytes end world)
hands_sure journal log [] end world s = end_hears_sure journal log end (λ sock. sockets.Ended sock) world (λ n. refl) s
hands_sure journal log (b ∷ bytes) end world s = end_hears_sure journal log end (λ sock. sockets.Fed sock (b ∷ bytes)) world (λ n. refl) s

pub feeds_sure : (journal : List Line) (log : List Entry) (which : End) (count : ℕ) (socket : WorldSocket) (world : World) → IsIn socket world → is_open (end_of which socket).stage ≡ true → has_input which socket ≡ true → Sure journal log world → Led (Sure journal) log (feeds which count socket world)
feeds_sure journal log which count socket world is o input s = entry_first journal log (entries.Fed socket.name which (length bytes)) (hands bytes (end_of which socket) rest) (hands_sure journal more bytes (end_of which socket) rest
    (changed_sure journal log (entries.Fed socket.name which (length bytes)) socket.name which (λ end. record end { unread = drop count end.unread }) world (λ n. refl) ((keeps_sorted journal).fed log world socket which count is o input tt s.ends.sorted) (taking (drop count))
    (λ p n. quiet_held p n socket.name which (λ end. record end { unread = drop count end.unread }) world socket s.ends.sorted.0.apart s.ends.each is (λ end. (refl, refl)) refl) s)) where
      bytes : List ℕ
      bytes = take count (end_of which socket).unread

      more : List Entry
      more = log ++ entries.Fed socket.name which (length bytes) ∷ []

      rest : World
      rest = with_end_of socket.name which (λ end. record end { unread = drop count end.unread }) world

pub loses_sure : (journal : List Line) (log : List Entry) (which : End) (socket : WorldSocket) (world : World) → Sure journal log world → Led (Sure journal) log (loses which socket world)
loses_sure journal log which socket world s = entry_first journal log (entries.Lost socket.name which) (end_hears (end_of which socket) (λ sock. sockets.Lost sock) world)
    (end_hears_sure journal (log ++ entries.Lost socket.name which ∷ []) (end_of which socket) (λ sock. sockets.Lost sock) world (λ n. refl) (noted_sure journal log (entries.Lost socket.name which) world (λ n. refl) ((keeps_sorted journal).lost log world socket which s.ends.sorted) s))

pub times_sure : (journal : List Line) (log : List Entry) (node peer : List ℕ) (world : World) → Sure journal log world → Led (Sure journal) log (times_out node peer world)
times_sure journal log node peer world s = by_cell (cell_of world (named_as world.names node).address) where
  late_event : LocalEvent
  late_event = events.Socket (sockets.Late (named_as world.names node).address.id (named_as world.names peer).address)

  by_cell : (o : Option ℕ) → Led (Sure journal) log (elim o as (λ o. Answered) [
    | None ↦ Ok ((verdicts.Nothing, []), world)
    | Some place ↦ after_entry (entries.Timed node peer) (cell_hears place late_event world)
  ])
  by_cell None = rests journal log world s
  by_cell (Some place) = entry_first journal log (entries.Timed node peer) (cell_hears place late_event world)
      (hears_sure journal (log ++ entries.Timed node peer ∷ []) place late_event world refl (noted_sure journal log (entries.Timed node peer) world (λ n. refl) ((keeps_sorted journal).timed log world node peer s.ends.sorted) s))

pub cuts_sure : (journal : List Line) (log : List Entry) (which : End) (socket : WorldSocket) (world : World) → IsIn socket world → Sure journal log world → Led (Sure journal) log (cuts which socket world)
cuts_sure journal log which socket world is s = changed_sure journal log (entries.Cut socket.name which) socket.name which cut world (λ n. refl) ((keeps_sorted journal).was_cut log world socket which is s.ends.sorted) cutting
    (λ p n. quiet_held p n socket.name which cut world socket s.ends.sorted.0.apart s.ends.each is (λ end. (refl, refl)) refl) s

-- ---- strangers

pub pokes_sure : (journal : List Line) (log : List Entry) (bytes : List ℕ) (socket : WorldSocket) (world : World) → IsIn socket world → Sure journal log world → Led (Sure journal) log (pokes bytes socket world)
pokes_sure journal log bytes socket world is s = changed_sure journal log (entries.Poked socket.name bytes) socket.name T (arrives bytes) world (λ n. refl) ((keeps_sorted journal).poked log world socket bytes is s.ends.sorted) (getting bytes)
    (λ p n. quiet_held p n socket.name T (arrives bytes) world socket s.ends.sorted.0.apart s.ends.each is (getting bytes).place (by_gone (is_ended socket.t.stage || socket.t.is_cut))) s where
      by_gone : (b : Bool) → (cond b socket.t (record socket.t { unread = socket.t.unread ++ bytes })).stage ≡ socket.t.stage
      by_gone true = refl
      by_gone false = refl

pub quits_sure : (journal : List Line) (log : List Entry) (socket : WorldSocket) (world : World) → IsIn socket world → is_strangers socket ≡ true → Sure journal log world → Led (Sure journal) log (quits socket world)
quits_sure journal log socket world is of s = changed_sure journal log (entries.Quitted socket.name) socket.name O ended world (λ n. refl) ((keeps_sorted journal).quitted log world socket is s.ends.sorted) closing.changes
    (λ p n. changed_held p n socket.name O ended world socket s.ends.sorted.0.apart s.ends.each is (λ end. (refl, refl)) ∙ ap (λ b. cond b (Some Ended) (stage_held p n world.sockets)) (nobodys p n socket.o.cell refl)) s where
      nobodys : (p n : ℕ) (c : Option ℕ) → socket.o.cell ≡ c → is_end_of p n socket.o ≡ false
      nobodys p n None e = ap (λ (o : Option ℕ). same_number o p && same_number socket.o.number n) e
      nobodys p n (Some place) e = let host : (not (is_some (Some place)) && not (is_ended socket.o.stage)) ≡ true = subst (λ (o : Option ℕ). (not (is_some o) && not (is_ended socket.o.stage)) ≡ true) e of in absurd cc

pub knocks_sure : (journal : List Line) (log : List Entry) (stranger node : List ℕ) (world : World) → Sure journal log world → Led (Sure journal) log (knocks stranger node world)
knocks_sure journal log stranger node world s = record {
  ends = record {
    sorted = (keeps_sorted journal).knocked log world stranger node s.ends.sorted;
    each = each_new new world.sockets fresh mine s.ends.each;
    agrees = agrees_still world (with_socket new world) refl held s.ends.agrees;
  };
  over = more_over log (entries.Knocked new.name) (with_socket new world).sockets (λ n. refl) (new_over (refused_in log) new world.sockets fresh s.over);
} where
  new : WorldSocket
  new = stranger_socket stranger node world

  fresh : find (is_socket_named new.name) world.sockets ≡ None
  fresh = next_is_new world stranger node s.ends.sorted.0.numbered

  target : (p n : ℕ) → is_end_of p n new.t ≡ false
  target p n = no_number (cell_of world (address_as world.names node)) p n

  mine : (e : End) (p n : ℕ) → is_end_of p n (end_of e new) ≡ true → (find_end p n world.sockets ≡ None) × (end_at p n new ≡ Some e)
  mine O p n of = absurd cc
  mine T p n of = let none = target p n in absurd cc

  by_name : (a : SockName × End) (p n : ℕ) → find_end p n world.sockets ≡ Some a → (b : Bool) → same_socket new.name a.0 ≡ b → Stands a.1 (cond b (Some new) (find (is_socket_named a.0) world.sockets)) ≡ Stands a.1 (find (is_socket_named a.0) world.sockets)
  by_name a p n f true h = let there = (found_end p n world.sockets a f).is in
      let gone : find (is_socket_named a.0) world.sockets ≡ None = subst (λ (m : SockName). find (is_socket_named m) world.sockets ≡ None) (same_is new.name a.0 h) fresh in absurd cc
  by_name a p n f false h = refl

  by_found : (p n : ℕ) (o : Option (SockName × End)) → find_end p n world.sockets ≡ o → stage_found (elim o as (λ o. Option (SockName × End)) [
    | Some at ↦ Some at
    | None ↦ or_end new.name None (end_at p n new)
  ]) (store_in new world.sockets) ≡ stage_found o world.sockets
  by_found p n None f = ap (λ b. stage_found (or_end new.name None (cond b (Some T) None)) (store_in new world.sockets)) (target p n)
  by_found p n (Some a) f = ap (Stands a.1) (find_stored new world.sockets a.0) ∙ by_name a p n f (same_socket new.name a.0) refl

  held : (p n : ℕ) → stage_held p n (store_in new world.sockets) ≡ stage_held p n world.sockets
  held p n = ap (λ (o : Option (SockName × End)). stage_found o (store_in new world.sockets)) (new_found p n new world.sockets fresh) ∙ by_found p n (find_end p n world.sockets) refl

-- ---- a node does something

pub node_sure : (journal : List Line) (log : List Entry) (name : List ℕ) (event : ℕ → LocalEvent) (world : World) → ((end : ℕ) → opens_no_end (event end) ≡ true) → Sure journal log world → Led (Sure journal) log (node_hears name event world)
node_sure journal log name event world of s = by_cell (cell_of world (address_as world.names name)) where
  by_cell : (o : Option ℕ) → Led (Sure journal) log (elim o as (λ o. Answered) [
    | None ↦ Ok ((verdicts.Nothing, []), world)
    | Some place ↦ cell_hears place (event (address_as world.names name).id) world
  ])
  by_cell None = rests journal log world s
  by_cell (Some place) = hears_sure journal log place (event (address_as world.names name).id) world (of (address_as world.names name).id) s
