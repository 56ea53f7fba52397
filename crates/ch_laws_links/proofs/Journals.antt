-- After any lines the log tells how the ends stand at their hosts, and each entry was one that may be told.
use Rattle.std.proofs.Common.{◌≡◌, ◌≤◌, ℕ, zero, suc, ◌+◌, ◌*◌, Bool, true, false, cond, ◌&&◌, List, [], ◌∷◌, ◌++◌, length, take, drop, Ok, Err, refl, sym, ap, ◌∙◌, subst, append_assoc, arith, map, inl}
use Rattle.std.proofs.lemmas.Bool.{and_parts, eqb-true}
use Rattle.std.proofs.lemmas.List.{append-nil}
use Rattle.std.specs.Option.{option_map}
use Rattle.std.specs.Prelude.{◌==◌, ◌||◌, slice_get, slice_set, Option, Some, None, is_some, find}
use Rattle.ch_base.specs.declared.address.Address.{Address}
use Rattle.ch_model.specs.declared.entry.Entry.{Entry}
use Rattle.ch_model.specs.declared.entry.Entry.TheVariants as entries
use Rattle.ch_model.specs.declared.entry.Verdict.{Verdict}
use Rattle.ch_model.specs.declared.entry.Verdict.TheVariants as verdicts
use Rattle.ch_model.specs.declared.line.Line.{Line}
use Rattle.ch_model.specs.declared.local.LocalEntry.{LocalEntry}
use Rattle.ch_model.specs.declared.local.LocalEvent.{LocalEvent}
use Rattle.ch_model.specs.declared.local.LocalEvent.TheVariants as events
use Rattle.ch_model.specs.declared.name.End.{End}
use Rattle.ch_model.specs.declared.name.End.TheVariants.{O, T}
use Rattle.ch_model.specs.declared.name.SockName.{SockName}
use Rattle.ch_model.specs.declared.step.SocketEvent.{SocketEvent}
use Rattle.ch_model.specs.declared.step.SocketEvent.TheVariants as sockets
use Rattle.ch_link.specs.Sockets.{names}
use Rattle.ch_model.specs.Cell.{Celled, cell_step}
use Rattle.ch_model.specs.HostState.{Socket}
use Rattle.ch_model.specs.HostSteps.{is_socket, link_with}
use Rattle.ch_model.specs.Links.{has_risen, is_closed, rises_once, falls_from_up, leaves_unrisen, rests_closed}
use Rattle.ch_model.specs.Logs.{each_after, each}
use Rattle.ch_model.specs.Naming.{address_as}
use Rattle.ch_model.specs.Settle.{Happened}
use Rattle.ch_model.specs.Stages.{Stage, Pending, Open, Ended, is_pending, is_open, is_ended}
use Rattle.ch_model.specs.World.{world_new, cell_at, first_of_hosts, nodes_of, log_from}
use Rattle.ch_model.specs.WorldHappenings.{Answered, after_entry, cell_told, cell_hears, end_hears, with_cell, joins, comes_at, comes, mark_of}
use Rattle.ch_model.specs.WorldSockets.{end_of, ended, cut, opened, arrives, cell_of, with_end_of, same_number, end_at, find_end, store_in}
use Rattle.ch_model.specs.WorldState.{Cell, WorldEnd, WorldSocket, World}
use Rattle.ch_model.specs.WorldSteps.{all_told}
use Rattle.ch_laws_log.specs.HostEnds.{opens_no_end, opens_nothing, steps_in}
use Rattle.ch_laws_log.proofs.Agreeing.{Good, keeps_good}
use Rattle.ch_laws_log.proofs.Kept.{IsIn, stranger_socket, Led, LedOn}
use Rattle.ch_laws_log.proofs.Stored.{next_is_new}
use Rattle.ch_laws_links.specs.Cells.{standing_local, IsNamingCell}
use Rattle.ch_laws_links.specs.Risings.{IsToldAs}
use Rattle.ch_laws_links.specs.Standing.{Standing, IsOpen, standing_of, standing_at, standing_after_all, joined, standing_heard}
use Rattle.ch_laws_links.proofs.Cells.{GoesFrom, IsFreeLocal, cell_naming}
use Rattle.ch_laws_links.proofs.Found.{KeepsPlace}
use Rattle.ch_laws_links.proofs.Goes.{right_as}
use Rattle.ch_laws_links.proofs.Happenings.{Holds, all_led}
use Rattle.ch_laws_links.proofs.Keys.{number_self}
use Rattle.ch_laws_links.proofs.Logs.{came_told, as_stood, told_now, all_agrees, target_unnumbered}
use Rattle.ch_laws_links.proofs.Risen.{Agrees, may_tell, IsQuiet, quietly, restand, rekept, set_at, opened_told, fed_told, joined_told}
use Rattle.ch_laws_links.proofs.Says.{named_there}
use Rattle.ch_laws_links.proofs.Worlds.{fresh_host, AllNaming, set_naming, end_cells, told_cells, set_here, MayHear, own_may, joined_may, came_may, Named, holds_named, named_after}

-- ---- how ends stand at the cells' hosts

abbrev pub now_at : Option (Cell × ℕ) → ℕ → Option Standing
now_at None n = None
now_at (Some cell) n = standing_at cell.0.host n

abbrev pub now_of : List (Cell × ℕ) → ℕ → ℕ → Option Standing
now_of cells p n = now_at (slice_get cells p) n

-- the log tells so
abbrev pub Tells : List Entry → World → Type 0
Tells log world = Agrees (now_of world.cells) log world.sockets

set_found : {X : Type 0} (xs : List X) (k : ℕ) (x y : X) → slice_get xs k ≡ Some x → slice_get (slice_set xs k y) k ≡ Some y
set_found [] k x y e = absurd cc
set_found (first ∷ rest) zero x y e = refl
set_found (first ∷ rest) (suc k) x y e = set_found rest k x y e

set_other : {X : Type 0} (xs : List X) (k j : ℕ) (y : X) → (k ≡ j → ⊥) → slice_get (slice_set xs k y) j ≡ slice_get xs j
set_other [] k j y n = refl
set_other (first ∷ rest) zero zero y n = absurd (n refl)
set_other (first ∷ rest) zero (suc j) y n = refl
set_other (first ∷ rest) (suc k) zero y n = refl
set_other (first ∷ rest) (suc k) (suc j) y n = set_other rest k j y (λ e. n (ap suc e))

differ : (a b : ℕ) → (a == b) ≡ false → a ≡ b → ⊥
differ a b h e = clash (sym (ap (λ (m : ℕ). m == b) e ∙ number_self b) ∙ h) where
  clash : true ≡ false → ⊥
  clash e = cc

-- ---- what a cell hears

-- what a cell makes of an event is told, from how its ends stand once the event's own is open
hears_tell : (journal : List Line) (log : List Entry) (world : World) (place : ℕ) (cell : Cell × ℕ) (event : LocalEvent) (verdict : Verdict) (told : List LocalEntry) (after : Cell) (now : ℕ → ℕ → Option Standing)
    → Named journal log world → slice_get world.cells place ≡ Some cell → MayHear cell event → cell_step cell.0 event ≡ Ok ((verdict, told), after)
    → ((n : ℕ) → now place n ≡ standing_local event n (standing_at cell.0.host n)) → ((p n : ℕ) → (place == p) ≡ false → now p n ≡ now_of world.cells p n) → Agrees now log world.sockets
    → Tells (log ++ (all_told place after told (with_cell place (after, cell.1) world)).0) (all_told place after told (with_cell place (after, cell.1) world)).1
hears_tell journal log world place cell event verdict told after now named at may e here there a = subst (λ (cells : List (Cell × ℕ)). Agrees (now_of cells) (log ++ (all_told place after told next).0) (all_told place after told next).1.sockets) (sym (told_cells place after told next))
    (as_stood (told_now place (steps_in told) now) (now_of (slice_set world.cells place (after, cell.1))) (log ++ (all_told place after told next).0) (all_told place after told next).1.sockets (λ p n. by_place p n (place == p) refl)
    (all_agrees journal log place after told next now ((keeps_good journal).cell log world place (after, cell.1) named.0) (right_as (λ n. standing_local event n (standing_at cell.0.host n)) (now place) (λ n. sym (here n)) (steps_in told) goes.tells.right) a)) where
      next : World
      next = with_cell place (after, cell.1) world

      goes : GoesFrom (λ n. standing_local event n (standing_at cell.0.host n)) (IsFreeLocal event cell.0.host) (steps_in told) after.host
      goes = cell_naming cell.0 after event verdict told may.comes (named.1 place cell at).naming e

      by_place : (p n : ℕ) (b : Bool) → (place == p) ≡ b → cond b (standing_after_all (steps_in told) n (now p n)) (now p n) ≡ now_of (slice_set world.cells place (after, cell.1)) p n
      by_place p n true h = subst (λ (k : ℕ). standing_after_all (steps_in told) n (now k n) ≡ now_of (slice_set world.cells place (after, cell.1)) k n) (eqb-true place p h)
          (ap (standing_after_all (steps_in told) n) (here n) ∙ sym (goes.tells.stands n) ∙ sym (ap (λ (o : Option (Cell × ℕ)). now_at o n) (set_found world.cells place cell (after, cell.1) at)))
      by_place p n false h = there p n h ∙ sym (ap (λ (o : Option (Cell × ℕ)). now_at o n) (set_other world.cells place p (after, cell.1) (differ place p h)))

rested : (log : List Entry) (world : World) → Tells log world → Tells (log ++ []) world
rested log world t = subst (λ (l : List Entry). Tells l world) (sym (append-nil log)) t

cell_tells : (journal : List Line) (log : List Entry) (place : ℕ) (event : LocalEvent) (world : World) (now : ℕ → ℕ → Option Standing) → Named journal log world
    → ((cell : Cell × ℕ) → slice_get world.cells place ≡ Some cell → MayHear cell event × ((n : ℕ) → now place n ≡ standing_local event n (standing_at cell.0.host n))) → ((p n : ℕ) → (place == p) ≡ false → now p n ≡ now_of world.cells p n)
    → (slice_get world.cells place ≡ None → Tells log world) → Agrees now log world.sockets → Led Tells log (cell_hears place event world)
cell_tells journal log place event world now named may there nowhere a = by_cell (slice_get world.cells place) refl where
  by_done : (cell : Cell × ℕ) → slice_get world.cells place ≡ Some cell → (done : Celled) → cell_step cell.0 event ≡ done → Led Tells log (cell_told place cell world done)
  by_done cell at (Err stop) e = tt
  by_done cell at (Ok done) e = hears_tell journal log world place cell event done.0.0 done.0.1 done.1 now named at (may cell at).0 e (may cell at).1 there a

  by_cell : (o : Option (Cell × ℕ)) → slice_get world.cells place ≡ o → Led Tells log (elim o as (λ o. Answered) [
    | None ↦ Ok ((verdicts.Nothing, []), world)
    | Some cell ↦ cell_told place cell world (cell_step cell.0 event)
  ])
  by_cell None at = rested log world (nowhere at)
  by_cell (Some cell) at = by_done cell at (cell_step cell.0 event) refl

-- an event that opens no end leaves ends as they stand
own_stands : (event : LocalEvent) (n : ℕ) (now : Option Standing) → opens_no_end event ≡ true → standing_local event n now ≡ now
own_stands (events.Make end) n now o = refl
own_stands (events.Command end by command) n now o = refl
own_stands (events.Shut end) n now o = refl
own_stands (events.Came mark sock peer_host) n now o = absurd cc
own_stands (events.Socket event) n now o = by_event event o where
  by_event : (event : SocketEvent) → opens_nothing event ≡ true → standing_heard event n now ≡ now
  by_event (sockets.Joined sock) o = absurd cc
  by_event (sockets.Came sock peer_host) o = absurd cc
  by_event (sockets.Refused sock) o = refl
  by_event (sockets.Fed sock bytes) o = refl
  by_event (sockets.Ended sock) o = refl
  by_event (sockets.Lost sock) o = refl
  by_event (sockets.Late end peer) o = refl

-- ---- ends that are joined, or come

entry_first : (log : List Entry) (entry : Entry) (done : Answered) → Led Tells (log ++ entry ∷ []) done → Led Tells log (after_entry entry done)
entry_first log entry (Ok done) l = subst (λ (all : List Entry). Tells all done.1) (append_assoc log (entry ∷ []) done.0.1) l
entry_first log entry (Err stop) l = tt

pub here_set : (place number : ℕ) (g : Option Standing → Option Standing) (now : ℕ → ℕ → Option Standing) (n : ℕ) (x : Option Standing) → now place n ≡ x → set_at place number g now place n ≡ cond (number == n) (g x) x
here_set place number g now n x e = ap (λ (y : Option Standing). cond ((place == place) && (number == n)) (g y) y) e ∙ ap (λ b. cond (b && (number == n)) (g x) x) (number_self place)

pub there_set : (place number p n : ℕ) (g : Option Standing → Option Standing) (now : ℕ → ℕ → Option Standing) → (place == p) ≡ false → set_at place number g now p n ≡ now p n
there_set place number p n g now h = ap (λ b. cond (b && (number == n)) (g (now p n)) (now p n)) h

pub opens_in_place : KeepsPlace opened
opens_in_place end = (refl, refl, λ h. absurd cc)

pub not_both : (stage : Stage) → is_pending stage ≡ true → is_ended stage ≡ true → ⊥
not_both Pending p e = absurd cc
not_both Open p e = absurd cc
not_both Ended p e = absurd cc

joins_tell : (journal : List Line) (log : List Entry) (world : World) (socket : WorldSocket) → IsIn socket world → is_pending socket.o.stage ≡ true → Named journal log world → Tells log world → Led Tells log (joins socket world)
joins_tell journal log world socket is pending named t = entry_first log (entries.Joined socket.name) (end_hears socket.o (λ sock. sockets.Joined sock) open_world) (by_cell socket.o.cell socket.o.number) where
  open_world : World
  open_world = with_end_of socket.name O opened world

  now : List Entry
  now = log ++ entries.Joined socket.name ∷ []

  stays : open_world.cells ≡ world.cells
  stays = end_cells socket.name O opened world

  named_open : Named journal now open_world
  named_open = ((keeps_good journal).joined log world socket is pending named.0, subst AllNaming (sym stays) named.1)

  told : Tells now open_world
  told = subst (λ (cells : List (Cell × ℕ)). Agrees (now_of cells) now open_world.sockets) (sym stays) (quietly (now_of world.cells) log open_world.sockets (entries.Joined socket.name) tt (rekept (now_of world.cells) log world socket.name O opened socket is opens_in_place (λ h. absurd (not_both socket.o.stage pending h)) t))

  then_joined : (place number : ℕ) → Agrees (set_at place number joined (now_of open_world.cells)) now open_world.sockets
  then_joined place number = restand (now_of open_world.cells) (set_at place number joined (now_of open_world.cells)) now open_world.sockets (λ p n r c x. by_both ((place == p) && (number == n)) (now_of open_world.cells p n) r c x) (λ p n h. by_some ((place == p) && (number == n)) (now_of open_world.cells p n) h) told where
    by_some : (b : Bool) (x : Option Standing) → is_some (cond b (joined x) x) ≡ true → is_some x ≡ true
    by_some true None h = h
    by_some true (Some s) h = refl
    by_some false x h = h

    by_both : (b : Bool) (x : Option Standing) (r c : Bool) → IsToldAs x r c → IsToldAs (cond b (joined x) x) r c
    by_both true x r c t = joined_told x r c t
    by_both false x r c t = t

  by_cell : (o n : Option ℕ) → Led Tells now (elim o as (λ o. Answered) [
    | None ↦ Ok ((verdicts.Nothing, []), open_world)
    | Some place ↦ elim n [
      | None ↦ Ok ((verdicts.Nothing, []), open_world)
      | Some number ↦ cell_hears place (events.Socket (sockets.Joined number)) open_world
    ]
  ])
  by_cell None n = rested now open_world told
  by_cell (Some place) None = rested now open_world told
  by_cell (Some place) (Some number) = cell_tells journal now place (events.Socket (sockets.Joined number)) open_world (set_at place number joined (now_of open_world.cells)) named_open
      (λ cell at. (joined_may cell number (named_open.1 place cell at), λ n. here_set place number joined (now_of open_world.cells) n (standing_at cell.0.host n) (ap (λ (o : Option (Cell × ℕ)). now_at o n) at)))
      (λ p n h. there_set place number p n joined (now_of open_world.cells) h) (λ none. told) (then_joined place number)

comes_tell : (journal : List Line) (log : List Entry) (world : World) (socket : WorldSocket) → IsIn socket world → is_pending socket.t.stage ≡ true → Named journal log world → Tells log world → Led Tells log (comes socket world)
comes_tell journal log world socket is pending named t = by_place socket.t.cell refl where
  now : List Entry
  now = log ++ entries.Came socket.name ∷ []

  came_there : ℕ → Cell × ℕ → World
  came_there place cell = with_end_of socket.name T (λ end. record (opened end) { number = Some (2 * cell.1 + 1) }) (with_cell place (cell.0, cell.1 + 1) world)

  came_cells : (place : ℕ) (cell : Cell × ℕ) → (came_there place cell).cells ≡ slice_set world.cells place (cell.0, cell.1 + 1)
  came_cells place cell = end_cells socket.name T (λ end. record (opened end) { number = Some (2 * cell.1 + 1) }) (with_cell place (cell.0, cell.1 + 1) world)

  counted : (cell : Cell × ℕ) → IsNamingCell cell → IsNamingCell (cell.0, cell.1 + 1)
  counted cell s = record { naming = s.naming; free = λ k l. s.free k (below cell.1 k l) } where
    below : (c k : ℕ) → c + 1 ≤ k → c ≤ k
    below c k l = omega arith

  named_there : (place : ℕ) (cell : Cell × ℕ) → slice_get world.cells place ≡ Some cell → Named journal now (came_there place cell)
  named_there place cell at = (
    (keeps_good journal).came log (with_cell place (cell.0, cell.1 + 1) world) socket (2 * cell.1 + 1) is pending ((keeps_good journal).cell log world place (cell.0, cell.1 + 1) named.0),
    subst AllNaming (sym (came_cells place cell)) (set_naming world.cells place (cell.0, cell.1 + 1) named.1 (counted cell (named.1 place cell at))),
  )

  there_now : ℕ → Cell × ℕ → ℕ → ℕ → Option Standing
  there_now place cell = set_at place (2 * cell.1 + 1) (λ x. Some IsOpen) (now_of world.cells)

  told_there : (place : ℕ) (cell : Cell × ℕ) → socket.t.cell ≡ Some place → slice_get world.cells place ≡ Some cell → Agrees (there_now place cell) now (came_there place cell).sockets
  told_there place cell to at = quietly (there_now place cell) log (came_there place cell).sockets (entries.Came socket.name) tt
      (came_told (now_of world.cells) log (with_cell place (cell.0, cell.1 + 1) world) socket.name socket place (2 * cell.1 + 1) is pending to
      (ap (λ (o : Option (Cell × ℕ)). now_at o (2 * cell.1 + 1)) at ∙ ap (option_map standing_of) ((named.1 place cell at).free cell.1 (same_as cell.1))) t) where
        same_as : (n : ℕ) → n ≤ n
        same_as n = omega arith

  hears_there : (place : ℕ) (cell : Cell × ℕ) → slice_get world.cells place ≡ Some cell → (next : Cell × ℕ) → slice_get (came_there place cell).cells place ≡ Some next
      → MayHear next (events.Came (mark_of socket.o) (2 * cell.1 + 1) socket.from_host) × ((n : ℕ) → there_now place cell place n ≡ standing_local (events.Came (mark_of socket.o) (2 * cell.1 + 1) socket.from_host) n (standing_at next.0.host n))
  hears_there place cell at next e = let is_next : next ≡ (cell.0, cell.1 + 1) = set_here world.cells place cell (cell.0, cell.1 + 1) next at (sym (ap (λ cells. slice_get cells place) (came_cells place cell)) ∙ e) in (
    subst (λ (c : Cell × ℕ). MayHear c (events.Came (mark_of socket.o) (2 * cell.1 + 1) socket.from_host)) (sym is_next) (came_may cell (mark_of socket.o) socket.from_host (named.1 place cell at)),
    λ n. here_set place (2 * cell.1 + 1) (λ x. Some IsOpen) (now_of world.cells) n (standing_at next.0.host n) (ap (λ (o : Option (Cell × ℕ)). now_at o n) at ∙ sym (ap (λ (c : Cell × ℕ). standing_at c.0.host n) is_next)),
  )

  others_there : (place : ℕ) (cell : Cell × ℕ) (p n : ℕ) → (place == p) ≡ false → there_now place cell p n ≡ now_of (came_there place cell).cells p n
  others_there place cell p n h = there_set place (2 * cell.1 + 1) p n (λ x. Some IsOpen) (now_of world.cells) h ∙ sym (ap (λ (cells : List (Cell × ℕ)). now_of cells p n) (came_cells place cell) ∙ ap (λ (o : Option (Cell × ℕ)). now_at o n) (set_other world.cells place p (cell.0, cell.1 + 1) (differ place p h)))

  not_nowhere : (place : ℕ) (cell : Cell × ℕ) → slice_get world.cells place ≡ Some cell → slice_get (came_there place cell).cells place ≡ None → ⊥
  not_nowhere place cell at e = clash (sym (set_found world.cells place cell (cell.0, cell.1 + 1) at) ∙ sym (ap (λ cells. slice_get cells place) (came_cells place cell)) ∙ e) where
    clash : ◌≡◌ {A = Option (Cell × ℕ)} (Some (cell.0, cell.1 + 1)) None → ⊥
    clash e = cc

  by_cell : (place : ℕ) → socket.t.cell ≡ Some place → (o : Option (Cell × ℕ)) → slice_get world.cells place ≡ o → Led Tells now (elim o as (λ o. Answered) [
    | None ↦ Ok ((verdicts.Nothing, []), world)
    | Some cell ↦ cell_hears place (events.Came (mark_of socket.o) (2 * cell.1 + 1) socket.from_host) (came_there place cell)
  ])
  by_cell place to None at = rested now world (quietly (now_of world.cells) log world.sockets (entries.Came socket.name) tt t)
  by_cell place to (Some cell) at = cell_tells journal now place (events.Came (mark_of socket.o) (2 * cell.1 + 1) socket.from_host) (came_there place cell) (there_now place cell) (named_there place cell at) (hears_there place cell at) (others_there place cell) (λ e. absurd (not_nowhere place cell at e)) (told_there place cell to at)

  by_place : (o : Option ℕ) → socket.t.cell ≡ o → Led Tells log (elim o as (λ o. Answered) [
    | None ↦ Ok ((verdicts.Nothing, []), world)
    | Some place ↦ after_entry (entries.Came socket.name) (comes_at place socket world)
  ])
  by_place None to = rested log world t
  by_place (Some place) to = entry_first log (entries.Came socket.name) (comes_at place socket world) (by_cell place to (slice_get world.cells place) refl)

-- ---- all that happens

-- a world whose cells are naming, and whose log tells how ends stand
pub record Told (journal : List Line) (log : List Entry) (world : World) : Type 0 where
  pub named : Named journal log world
  pub tells : Tells log world

both_led : (journal : List Line) (log : List Entry) (done : Answered) → Led (Named journal) log done → Led Tells log done → Led (Told journal) log done
both_led journal log (Ok done) n t = record { named = n; tells = t }
both_led journal log (Err stop) n t = tt

-- a socket of which an end is changed, in the same cells
end_tells : (log : List Entry) (world : World) (x : Entry) (socket : WorldSocket) (e : End) (f : WorldEnd → WorldEnd) → IsIn socket world → KeepsPlace f → (is_ended (end_of e socket).stage ≡ true → is_ended (f (end_of e socket)).stage ≡ true) → IsQuiet x → Tells log world → Tells (log ++ x ∷ []) (with_end_of socket.name e f world)
end_tells log world x socket e f is k o q t = subst (λ (cells : List (Cell × ℕ)). Agrees (now_of cells) (log ++ x ∷ []) (with_end_of socket.name e f world).sockets) (sym (end_cells socket.name e f world))
    (quietly (now_of world.cells) log (with_end_of socket.name e f world).sockets x q (rekept (now_of world.cells) log world socket.name e f socket is k o t))

cut_in_place : KeepsPlace cut
cut_in_place end = (refl, refl, λ h. h)

ends_in_place : KeepsPlace ended
ends_in_place end = (refl, refl, λ h. absurd cc)

arrives_in_place : (bytes : List ℕ) → KeepsPlace (arrives bytes)
arrives_in_place bytes end = by_gone (is_ended end.stage || end.is_cut) where
  after : Bool → WorldEnd
  after b = cond b end (record end { unread = end.unread ++ bytes })

  by_gone : (b : Bool) → ((after b).cell ≡ end.cell) × ((after b).number ≡ end.number) × (is_pending (after b).stage ≡ true → is_pending end.stage ≡ true)
  by_gone true = (refl, refl, λ h. h)
  by_gone false = (refl, refl, λ h. h)

arrives_ended : (bytes : List ℕ) (end : WorldEnd) → is_ended end.stage ≡ true → is_ended (arrives bytes end).stage ≡ true
arrives_ended bytes end h = by_gone (is_ended end.stage || end.is_cut) where
  by_gone : (b : Bool) → is_ended (cond b end (record end { unread = end.unread ++ bytes })).stage ≡ true
  by_gone true = h
  by_gone false = h

-- an end that is fed is open, so it isn't closed
pub fed_tells : (log : List Entry) (world : World) (socket : WorldSocket) (which : End) (count : ℕ) → IsIn socket world → is_open (end_of which socket).stage ≡ true → Tells log world
    → Tells (log ++ entries.Fed socket.name which (length (take count (end_of which socket).unread)) ∷ []) (with_end_of socket.name which (λ end. record end { unread = drop count end.unread }) world)
fed_tells log world socket which count is stands t = subst (λ (cells : List (Cell × ℕ)). Agrees (now_of cells) (log ++ entries.Fed socket.name which (length (take count (end_of which socket).unread)) ∷ []) (with_end_of socket.name which f world).sockets) (sym (end_cells socket.name which f world))
    (fed_told (now_of world.cells) log (with_end_of socket.name which f world).sockets socket.name which (length (take count (end_of which socket).unread)) (by_closed (is_closed log socket.name which) refl)
    (rekept (now_of world.cells) log world socket.name which f socket is (λ end. (refl, refl, λ k. k)) (λ k. k) t)) where
      f : WorldEnd → WorldEnd
      f end = record end { unread = drop count end.unread }

      open_ended : (stage : Stage) → is_open stage ≡ true → is_ended stage ≡ true → ⊥
      open_ended Pending o e = absurd cc
      open_ended Open o e = absurd cc
      open_ended Ended o e = absurd cc

      by_closed : (b : Bool) → is_closed log socket.name which ≡ b → b ≡ false
      by_closed false h = refl
      by_closed true h = absurd (open_ended (end_of which socket).stage stands (t.over socket.name which socket is h))

-- a stranger's socket has no number yet
knocked_tells : (journal : List Line) (log : List Entry) (world : World) (stranger node : List ℕ) → Good journal log world → Tells log world → Agrees (now_of world.cells) log (store_in (stranger_socket stranger node world) world.sockets)
knocked_tells journal log world stranger node g t = opened_told (now_of world.cells) (now_of world.cells) log world.sockets new (next_is_new world stranger node g.numbered) (λ p n r c x. x) first (λ p n h. inl h) (target_unnumbered (cell_of world (address_as world.names node))) t where
  new : WorldSocket
  new = stranger_socket stranger node world

  and_false : (b : Bool) → (b && false) ≡ false
  and_false true = refl
  and_false false = refl

  first : (p n : ℕ) (end : End) (r c : Bool) → end_at p n new ≡ Some end → r ≡ false → c ≡ false → IsToldAs (now_of world.cells p n) r c
  first p n end r c h x y = absurd (clash (sym (ap (λ b. cond {A = Option End} b (Some T) None) (ap (λ (o : Option ℕ). same_number new.t.cell p && same_number o n) (target_unnumbered (cell_of world (address_as world.names node))) ∙ and_false (same_number new.t.cell p))) ∙ h)) where
    clash : ◌≡◌ {A = Option End} None (Some end) → ⊥
    clash e = cc

holds_told : (journal : List Line) → Holds (Told journal)
holds_told journal = record {
  distinct = λ log world i. i.named.0.apart;
  mark = λ log world number answer i. record { named = h.mark log world number answer i.named; tells = quietly (now_of world.cells) log world.sockets (entries.Line number answer) tt i.tells };
  settled = λ log world i. record { named = h.settled log world i.named; tells = quietly (now_of world.cells) log world.sockets entries.Settled tt i.tells };
  hears = λ log world place cell event verdict told after i at o e. record {
    named = h.hears log world place cell event verdict told after i.named at o e;
    tells = hears_tell journal log world place cell event verdict told after (now_of world.cells) i.named at (own_may cell event o (i.named.1 place cell at)) e
        (λ n. ap (λ (x : Option (Cell × ℕ)). now_at x n) at ∙ sym (own_stands event n (standing_at cell.0.host n) o)) (λ p n k. refl) i.tells;
  };
  joined = λ log world socket is pending i. both_led journal log (joins socket world) (h.joined log world socket is pending i.named) (joins_tell journal log world socket is pending i.named i.tells);
  came = λ log world socket is pending i. both_led journal log (comes socket world) (h.came log world socket is pending i.named) (comes_tell journal log world socket is pending i.named i.tells);
  refused = λ log world socket is pending i. record { named = h.refused log world socket is pending i.named; tells = quietly (now_of world.cells) log world.sockets (entries.Refused socket.name) tt i.tells };
  fed = λ log world socket which count is stands input i. record {
    named = h.fed log world socket which count is stands input i.named;
    tells = fed_tells log world socket which count is stands i.tells;
  };
  lost = λ log world socket which i. record { named = h.lost log world socket which i.named; tells = quietly (now_of world.cells) log world.sockets (entries.Lost socket.name which) tt i.tells };
  timed = λ log world node peer i. record { named = h.timed log world node peer i.named; tells = quietly (now_of world.cells) log world.sockets (entries.Timed node peer) tt i.tells };
  was_cut = λ log world socket which is i. record { named = h.was_cut log world socket which is i.named; tells = end_tells log world (entries.Cut socket.name which) socket which cut is cut_in_place (λ k. k) tt i.tells };
  knocked = λ log world stranger node i. record {
    named = h.knocked log world stranger node i.named;
    tells = quietly (now_of world.cells) log (store_in (stranger_socket stranger node world) world.sockets) (entries.Knocked (stranger_socket stranger node world).name) tt (knocked_tells journal log world stranger node i.named.0 i.tells);
  };
  poked = λ log world socket bytes is i. record { named = h.poked log world socket bytes is i.named; tells = end_tells log world (entries.Poked socket.name bytes) socket T (arrives bytes) is (arrives_in_place bytes) (arrives_ended bytes socket.t) tt i.tells };
  quitted = λ log world socket is i. record { named = h.quitted log world socket is i.named; tells = end_tells log world (entries.Quitted socket.name) socket O ended is ends_in_place (λ k. refl) tt i.tells };
} where
  h : Holds (Named journal)
  h = holds_named journal

none_some : (x : Option Standing) → x ≡ None → is_some x ≡ true → ⊥
none_some None e h = absurd cc
none_some (Some s) e h = absurd cc

fresh_none : (journal : List Line) (addresses : List Address) (p n : ℕ) → now_of (map (λ address. (cell_at journal address, 0)) addresses) p n ≡ None
fresh_none journal [] p n = refl
fresh_none journal (address ∷ rest) zero n = ap (λ (all : List Socket). option_map standing_of (find (is_socket n) all)) (fresh_host journal address).1
fresh_none journal (address ∷ rest) (suc p) n = fresh_none journal rest p n

fresh_tells : (journal : List Line) → Tells [] (world_new journal)
fresh_tells journal = record { held = λ p n at e. absurd cc; unheld = λ s e socket f u. (refl, refl); unopened = λ s e f. (refl, refl); waiting = λ s socket f p. absurd cc; known = λ p n h. absurd (none_some (now_of (world_new journal).cells p n) (fresh_none journal (first_of_hosts [] (nodes_of journal)) p n) h); over = λ s e socket f c. absurd cc; well = refl }

pub told_after : (journal lines : List Line) (log : List Entry) (world : World) → log_from (world_new journal) lines ≡ Ok (log, world) → Told journal log world
told_after journal lines log world is = by_log (log_from (world_new journal) lines) (all_led (Told journal) (holds_told journal) lines [] (world_new journal) (record { named = named_after journal [] [] (world_new journal) refl; tells = fresh_tells journal })) is where
  by_log : (done : Happened) → LedOn (Told journal) [] done → done ≡ Ok (log, world) → Told journal log world
  by_log done l e = subst (λ (d : Happened). LedOn (Told journal) [] d) e l

-- ---- of each entry

each_of : (test : List Entry → Entry → Bool) → ((log : List Entry) (x : Entry) → may_tell log x ≡ true → test log x ≡ true) → (before log : List Entry) → each_after may_tell before log ≡ true → each_after test before log ≡ true
each_of test k before [] e = refl
each_of test k before (x ∷ rest) e = let parts = and_parts (may_tell before x) (each_after may_tell (before ++ x ∷ []) rest) e in
    ap (λ b. b && each_after test (before ++ x ∷ []) rest) (k before x parts.0) ∙ each_of test k (before ++ x ∷ []) rest parts.1

pub rises_once_in : (journal lines : List Line) (log : List Entry) (world : World) → log_from (world_new journal) lines ≡ Ok (log, world) → each rises_once log ≡ true
rises_once_in journal lines log world is = each_of rises_once (λ l x m. (and_parts (rises_once l x) (falls_from_up l x) (and_parts (rises_once l x && falls_from_up l x) (leaves_unrisen l x && rests_closed l x) m).0).0) [] log (told_after journal lines log world is).tells.well

pub falls_from_up_in : (journal lines : List Line) (log : List Entry) (world : World) → log_from (world_new journal) lines ≡ Ok (log, world) → each falls_from_up log ≡ true
falls_from_up_in journal lines log world is = each_of falls_from_up (λ l x m. (and_parts (rises_once l x) (falls_from_up l x) (and_parts (rises_once l x && falls_from_up l x) (leaves_unrisen l x && rests_closed l x) m).0).1) [] log (told_after journal lines log world is).tells.well

pub leaves_unrisen_in : (journal lines : List Line) (log : List Entry) (world : World) → log_from (world_new journal) lines ≡ Ok (log, world) → each leaves_unrisen log ≡ true
leaves_unrisen_in journal lines log world is = each_of leaves_unrisen (λ l x m. (and_parts (leaves_unrisen l x) (rests_closed l x) (and_parts (rises_once l x && falls_from_up l x) (leaves_unrisen l x && rests_closed l x) m).1).0) [] log (told_after journal lines log world is).tells.well

pub rests_in : (journal lines : List Line) (log : List Entry) (world : World) → log_from (world_new journal) lines ≡ Ok (log, world) → each rests_closed log ≡ true
rests_in journal lines log world is = each_of rests_closed (λ l x m. (and_parts (leaves_unrisen l x) (rests_closed l x) (and_parts (rises_once l x && falls_from_up l x) (leaves_unrisen l x && rests_closed l x) m).1).1) [] log (told_after journal lines log world is).tells.well

-- an end that a cell has under a number stands at its host as the log tells
pub stands_in : (journal lines : List Line) (log : List Entry) (world : World) (place : ℕ) (cell : Cell × ℕ) (n : ℕ) (at : SockName × End) → log_from (world_new journal) lines ≡ Ok (log, world) → slice_get world.cells place ≡ Some cell → find_end place n world.sockets ≡ Some at
    → IsToldAs (standing_at cell.0.host n) (has_risen log at.0 at.1) (is_closed log at.0 at.1)
stands_in journal lines log world place cell n at is there found = subst (λ (o : Option (Cell × ℕ)). IsToldAs (now_at o n) (has_risen log at.0 at.1) (is_closed log at.0 at.1)) there ((told_after journal lines log world is).tells.held place n at found)

-- a cell has an end under a number exactly if its host has a socket of that number
pub numbers_in : (journal lines : List Line) (log : List Entry) (world : World) (place : ℕ) (cell : Cell × ℕ) (n : ℕ) → log_from (world_new journal) lines ≡ Ok (log, world) → slice_get world.cells place ≡ Some cell
    → is_some (find_end place n world.sockets) ≡ is_some (find (is_socket n) cell.0.host.sockets)
numbers_in journal lines log world place cell n is there = by_found (find_end place n world.sockets) refl (find (is_socket n) cell.0.host.sockets) refl where
  tells : Tells log world
  tells = (told_after journal lines log world is).tells

  now_is : now_of world.cells place n ≡ standing_at cell.0.host n
  now_is = ap (λ (o : Option (Cell × ℕ)). now_at o n) there

  untold : (x : Option Standing) (r c : Bool) → x ≡ None → IsToldAs x r c → ⊥
  untold None r c e t = t
  untold (Some s) r c e t = absurd cc

  by_found : (o : Option (SockName × End)) → find_end place n world.sockets ≡ o → (s : Option Socket) → find (is_socket n) cell.0.host.sockets ≡ s → is_some o ≡ is_some s
  by_found None e None f = refl
  by_found (Some at) e (Some socket) f = refl
  by_found (Some at) e None f = absurd (untold (now_of world.cells place n) (has_risen log at.0 at.1) (is_closed log at.0 at.1) (now_is ∙ ap (option_map standing_of) f) (tells.held place n at e))
  by_found None e (Some socket) f = absurd (clash (sym (ap is_some e) ∙ tells.known place n (ap is_some (now_is ∙ ap (option_map standing_of) f)))) where
    clash : false ≡ true → ⊥
    clash e = cc

-- what a link names is an end of the world
pub named_in : (journal lines : List Line) (log : List Entry) (world : World) (place : ℕ) (cell : Cell × ℕ) (end : ℕ) (peer : Address) (n : ℕ) → log_from (world_new journal) lines ≡ Ok (log, world) → slice_get world.cells place ≡ Some cell
    → names (link_with cell.0.host end peer).state n ≡ true → is_some (find_end place n world.sockets) ≡ true
named_in journal lines log world place cell end peer n is there h = numbers_in journal lines log world place cell n is there ∙ named_there cell.0.host end peer n ((named_after journal lines log world is).1 place cell there).naming h
