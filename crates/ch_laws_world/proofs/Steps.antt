-- What follows at a cell, told in a world.
use Rattle.std.proofs.Common.{◌≡◌, ◌≤◌, ℕ, zero, suc, ap, ◌∙◌, Bool, true, false, cond, ◌||◌, List, [], ◌∷◌, ◌++◌, refl, arith}
use Rattle.std.specs.Prelude.{find, Option, Some, None, Ok, Err, slice_get, slice_set}
use Rattle.ch_model.specs.declared.entry.Entry.{Entry}
use Rattle.ch_model.specs.declared.entry.Entry.TheVariants as entries
use Rattle.ch_model.specs.declared.local.LocalEntry.{LocalEntry}
use Rattle.ch_model.specs.declared.local.LocalEntry.TheVariants as local
use Rattle.ch_model.specs.declared.local.LocalEvent.{LocalEvent}
use Rattle.ch_model.specs.declared.local.LocalEvent.TheVariants as events
use Rattle.ch_model.specs.declared.name.End.{End}
use Rattle.ch_model.specs.declared.name.SockName.{SockName}
use Rattle.ch_model.specs.declared.step.Place.{Place}
use Rattle.ch_model.specs.declared.step.SocketEvent.{SocketEvent}
use Rattle.ch_model.specs.declared.step.Step.{Step}
use Rattle.ch_model.specs.declared.step.Step.TheVariants as steps
use Rattle.ch_model.specs.Stages.{Stage, Pending, Open, Ended, is_ended}
use Rattle.ch_model.specs.HostSteps.{own_address}
use Rattle.ch_model.specs.WorldState.{Cell, WorldEnd, WorldSocket, World}
use Rattle.ch_model.specs.Cell.{Celled, cell_step}
use Rattle.ch_model.specs.Naming.{called}
use Rattle.ch_model.specs.WorldSockets.{end_of, other, is_socket_named, ended, item_arrives, end_of_nobody, with_end_of, find_end}
use Rattle.ch_model.specs.WorldSteps.{on_end, first_place, later_places, item_is_read, reads_item, end_closes, stepped, local_told, all_told}
use Rattle.ch_model.specs.WorldHappenings.{Answered, nothing, with_cell, cell_told, cell_hears, end_hears, after_entry}
use Rattle.ch_laws_items.specs.Stays.{Who, CellStays}
use Rattle.ch_laws_items.proofs.Seats.{cell_after}
use Rattle.ch_laws_world.specs.Grows.{stage_rank, EndGoes, Home, home_of, homes_of, Numbered, Grows}
use Rattle.ch_laws_world.proofs.Sockets.{end_stays, rests, onward, end_goes, opened_new, AllGrow}

-- ---- ends

same : (n : ℕ) → n ≤ n
same n = omega arith

pub is_over : (end : WorldEnd) → EndGoes end (ended end)
is_over end = record { cell = refl; stage = by_stage end.stage }
  where
    by_stage : (stage : Stage) → stage_rank stage ≤ 2
    by_stage Pending = omega arith
    by_stage Open = omega arith
    by_stage Ended = omega arith

-- an end whose cell and stage are as before
pub as_far : (before now : WorldEnd) → now.cell ≡ before.cell → now.stage ≡ before.stage → EndGoes before now
as_far before now c s = record { cell = c; stage = equal _ _ (rank before.stage now.stage s) }
  where
    equal : (m n : ℕ) → m ≡ n → m ≤ n
    equal m n e = omega arith

    rank : (a b : Stage) → b ≡ a → stage_rank a ≡ stage_rank b
    rank a b e = cc

pub item_came : (bytes : List ℕ) (said : Option Place) (end : WorldEnd) → EndGoes end (item_arrives bytes said end)
item_came bytes said end = by_test (is_ended end.stage || end.is_cut)
  where
    by_test : (b : Bool) → EndGoes end (cond b end (record end { unread = end.unread ++ bytes; places = end.places ++ said ∷ [] }))
    by_test true = end_stays end
    by_test false = as_far end _ refl refl

-- ---- one thing that followed

on_one : (cell sock : ℕ) (f : SockName × End → World → List Entry × World) (world : World) → Numbered world.sockets → ((at : SockName × End) → Grows world (f at world).1) → Grows world (on_end cell sock f world).1
on_one cell sock f world k g = by_found (find_end cell sock world.sockets)
  where
    by_found : (o : Option (SockName × End)) → Grows world (elim o as (λ o. List Entry × World) [
      | None ↦ ([], world)
      | Some at ↦ f at world
    ]).1
    by_found None = rests world k
    by_found (Some at) = g at

-- only the place of a message changes
placed : (one two : World) (place : Option Place) → Grows one two → Grows one (record two { last = place })
placed one two place g = record { names = g.names; strangers = g.strangers; homes = g.homes; sockets = g.sockets; numbered = g.numbered }

item_read : (at : SockName × End) (world : World) → Numbered world.sockets → Grows world (reads_item at world).1
item_read at world k = by_found (find (is_socket_named at.0) world.sockets)
  where
    by_found : (o : Option WorldSocket) → Grows world (item_is_read at o world)
    by_found None = rests world k
    by_found (Some socket) = placed world (with_end_of at.0 at.1 (λ end. record end { places = later_places end.places }) world) (first_place (end_of at.1 socket).places) (end_goes at.0 at.1 (λ end. record end { places = later_places end.places }) world k (λ socket e. as_far (end_of at.1 socket) _ refl refl))

end_closed : (at : SockName × End) (world : World) → Numbered world.sockets → Grows world (end_closes at world)
end_closed at world k = end_goes at.0 at.1 ended world k (λ socket e. is_over (end_of at.1 socket))

step_told : (place : ℕ) (cell : Cell) (step : Step) (world : World) → Numbered world.sockets → Grows world (stepped place cell step world).1
step_told place cell (steps.Dial sock end peer) world k = opened_new world (called world.names (own_address cell.host end)) (called world.names peer) cell.host.host (end_of_nobody (Some place) (Some sock) Pending) peer k
step_told place cell (steps.Read sock) world k = on_one place sock reads_item world k (λ at. item_read at world k)
step_told place cell (steps.Write sock bytes said) world k = on_one place sock (λ at now. (entries.Wrote at.0 at.1 bytes ∷ [], with_end_of at.0 (other at.1) (item_arrives bytes said) now)) world k (λ at. end_goes at.0 (other at.1) (item_arrives bytes said) world k (λ socket e. item_came bytes said (end_of (other at.1) socket)))
step_told place cell (steps.Up sock) world k = on_one place sock (λ at now. (entries.Up at.0 at.1 ∷ [], now)) world k (λ at. rests world k)
step_told place cell (steps.Down sock) world k = on_one place sock (λ at now. (entries.Down at.0 at.1 ∷ [], end_closes at now)) world k (λ at. end_closed at world k)
step_told place cell (steps.Left sock) world k = on_one place sock (λ at now. (entries.Left at.0 at.1 ∷ [], end_closes at now)) world k (λ at. end_closed at world k)
step_told place cell (steps.Broke end peer why) world k = rests world k
step_told place cell (steps.Post end event) world k = rests world k

one_told : (place : ℕ) (cell : Cell) (entry : LocalEntry) (world : World) → Numbered world.sockets → Grows world (local_told place cell entry world).1
one_told place cell (local.Step step) world k = step_told place cell step world k
one_told place cell (local.Note note) world k = placed world world _ (rests world k)

pub told_all : (place : ℕ) (cell : Cell) (entries : List LocalEntry) (world : World) → Numbered world.sockets → Grows world (all_told place cell entries world).1
told_all place cell [] world k = rests world k
told_all place cell (entry ∷ rest) world k =
    let one : Grows world (local_told place cell entry world).1 = one_told place cell entry world k in
    onward world (local_told place cell entry world).1 (all_told place cell rest (local_told place cell entry world).1).1 one (told_all place cell rest (local_told place cell entry world).1 one.numbered)

-- ---- what a cell makes of an event

same_home : (before now : Cell) → CellStays before now → home_of now ≡ home_of before
same_home before now k = by_parts _ _ _ _ _ _ _ _ k.host.host k.host.port k.host.circle k.nodes
  where
    by_parts : (a e : List ℕ) (b f : ℕ) (c g : List (List ℕ)) (d h : List (ℕ × Who)) → e ≡ a → f ≡ b → g ≡ c → h ≡ d → ◌≡◌ {A = Home} (e, f, g, h) (a, b, c, d)
    by_parts a e b f c g d h k l m n = cc

set_homes : (cells : List (Cell × ℕ)) (place : ℕ) (cell next : Cell × ℕ) → slice_get cells place ≡ Some cell → home_of next.0 ≡ home_of cell.0 → homes_of (slice_set cells place next) ≡ homes_of cells
set_homes [] place cell next e same = absurd cc
set_homes (first ∷ rest) zero cell next e same = let this : cell ≡ first = cc in ap (λ (home : Home). home ∷ homes_of rest) (same ∙ ap (λ (c : Cell × ℕ). home_of c.0) this)
set_homes (first ∷ rest) (suc place) cell next e same = ap (λ (homes : List Home). home_of first.0 ∷ homes) (set_homes rest place cell next e same)

-- only a cell changes, and stays where it is
pub celled : (place : ℕ) (cell next : Cell × ℕ) (world : World) → Numbered world.sockets → slice_get world.cells place ≡ Some cell → home_of next.0 ≡ home_of cell.0 → Grows world (with_cell place next world)
celled place cell next world k found same = record { names = refl; strangers = refl; homes = set_homes world.cells place cell next found same; sockets = (rests world k).sockets; numbered = k }

cell_heard : (place : ℕ) (cell : Cell × ℕ) (event : LocalEvent) (world : World) → Numbered world.sockets → slice_get world.cells place ≡ Some cell → AllGrow world (cell_told place cell world (cell_step cell.0 event))
cell_heard place cell event world k found = by_done (cell_step cell.0 event) refl
  where
    by_done : (done : Celled) → cell_step cell.0 event ≡ done → AllGrow world (cell_told place cell world done)
    by_done (Err stop) is = tt
    by_done (Ok done) is = onward world (with_cell place (done.1, cell.1) world) (all_told place done.1 done.0.1 (with_cell place (done.1, cell.1) world)).1 (celled place cell (done.1, cell.1) world k found (same_home cell.0 done.1 (cell_after cell.0 done.1 event done.0 is))) (told_all place done.1 done.0.1 (with_cell place (done.1, cell.1) world) k)

pub hears_at : (place : ℕ) (event : LocalEvent) (world : World) → Numbered world.sockets → AllGrow world (cell_hears place event world)
hears_at place event world k = by_cell (slice_get world.cells place) refl
  where
    by_cell : (o : Option (Cell × ℕ)) → slice_get world.cells place ≡ o → AllGrow world (elim o as (λ o. Answered) [
      | None ↦ nothing world
      | Some cell ↦ cell_told place cell world (cell_step cell.0 event)
    ])
    by_cell None found = rests world k
    by_cell (Some cell) found = cell_heard place cell event world k found

pub heard_by : (end : WorldEnd) (event : ℕ → SocketEvent) (world : World) → Numbered world.sockets → AllGrow world (end_hears end event world)
heard_by end event world k = by_cell end.cell
  where
    by_number : (place : ℕ) (o : Option ℕ) → AllGrow world (elim o as (λ o. Answered) [
      | None ↦ nothing world
      | Some number ↦ cell_hears place (events.Socket (event number)) world
    ])
    by_number place None = rests world k
    by_number place (Some number) = hears_at place (events.Socket (event number)) world k

    by_cell : (o : Option ℕ) → AllGrow world (elim o as (λ o. Answered) [
      | None ↦ nothing world
      | Some place ↦ elim end.number as (λ o. Answered) [
        | None ↦ nothing world
        | Some number ↦ cell_hears place (events.Socket (event number)) world
      ]
    ])
    by_cell None = rests world k
    by_cell (Some place) = by_number place end.number

-- an entry of the world's own ahead
pub with_entry : (entry : Entry) (world : World) (done : Answered) → AllGrow world done → AllGrow world (after_entry entry done)
with_entry entry world (Ok done) g = g
with_entry entry world (Err stop) g = tt
