-- What followed at a host is told by its place, its host text and its port.
use Rattle.std.proofs.Common.{◌≡◌, ◌<◌, ◌≤◌, ℕ, ◌+◌, ◌*◌, length, get_or, arith, List, [], ◌∷◌, ◌++◌, refl, sym, ap, ◌∙◌, subst, append_assoc}
use Rattle.std.proofs.lemmas.Option.{slice_get-get_or, slice_get_past}
use Rattle.std.proofs.lemmas.List.{get_or-set_same}
use Rattle.std.specs.Prelude.{Option, Some, None, Result, Ok, Err, slice_get, slice_set, set}
use Rattle.ch_base.specs.declared.memory.Stop.{Stop}
use Rattle.ch_base.specs.declared.memory.Stop.TheVariants as stops
use Rattle.ch_model.specs.declared.entry.Entry.{Entry}
use Rattle.ch_model.specs.declared.entry.Verdict.{Verdict}
use Rattle.ch_model.specs.declared.local.LocalEntry.{LocalEntry}
use Rattle.ch_model.specs.declared.local.LocalEntry.TheVariants as local
use Rattle.ch_model.specs.declared.local.LocalEvent.{LocalEvent}
use Rattle.ch_model.specs.declared.step.Step.{Step}
use Rattle.ch_model.specs.declared.step.Step.TheVariants as steps
use Rattle.ch_model.specs.declared.step.Place.{Place}
use Rattle.ch_model.specs.WorldState.{Cell, Named, WorldSocket, World}
use Rattle.ch_model.specs.Cell.{cell_step}
use Rattle.ch_model.specs.WorldSteps.{stepped, local_told, after_told, all_told}
use Rattle.ch_model.specs.WorldHappenings.{Answered, nothing, with_cell, cell_told, cell_hears}
use Rattle.ch_cell.specs.Stops.{Stops}
use Rattle.ch_world.specs.declared.hosted.HostAt.{HostAt}
use Rattle.ch_world.specs.Hosts.{host_at, cell_in}

-- ---- of a host no more is told

stepped_alike : (place : ℕ) (cell : Cell) (step : Step) (world : World) → stepped place cell step world ≡ stepped place (cell_in (host_at place cell)) step world
stepped_alike place cell (steps.Dial sock end peer) world = refl
stepped_alike place cell (steps.Read sock) world = refl
stepped_alike place cell (steps.Write sock bytes said) world = refl
stepped_alike place cell (steps.Up sock) world = refl
stepped_alike place cell (steps.Down sock) world = refl
stepped_alike place cell (steps.Left sock) world = refl
stepped_alike place cell (steps.Broke end peer why) world = refl
stepped_alike place cell (steps.Post end event) world = refl

local_alike : (place : ℕ) (cell : Cell) (entry : LocalEntry) (world : World) → local_told place cell entry world ≡ local_told place (cell_in (host_at place cell)) entry world
local_alike place cell (local.Step step) world = stepped_alike place cell step world
local_alike place cell (local.Note note) world = refl

pub told_alike : (place : ℕ) (cell : Cell) (followed : List LocalEntry) (world : World) → all_told place cell followed world ≡ all_told place (cell_in (host_at place cell)) followed world
told_alike place cell [] world = refl
told_alike place cell (entry ∷ rest) world =
    ap (λ (one : List Entry × World). after_told one.0 (all_told place cell rest one.1)) (local_alike place cell entry world)
    ∙ ap (after_told (local_told place (cell_in (host_at place cell)) entry world).0) (told_alike place cell rest (local_told place (cell_in (host_at place cell)) entry world).1)

-- ---- an event of a host

-- the host at a place hears an event
abbrev pub heard_at : ℕ → LocalEvent → World → Option (Cell × ℕ) → Answered
heard_at place event world o = elim o [
  | None ↦ nothing world
  | Some cell ↦ cell_told place cell world (cell_step cell.0 event)
]

-- what a host made of an event is told
pub heard : (place : ℕ) (event : LocalEvent) (world next : World) (old new : Cell) (count : ℕ) (verdict : Verdict) (followed : List LocalEntry) (entries : List Entry)
    → slice_get world.cells place ≡ Some (old, count) → cell_step old event ≡ Ok ((verdict, followed), new)
    → all_told place (cell_in (host_at place new)) followed (with_cell place (new, count) world) ≡ (entries, next)
    → cell_hears place event world ≡ Ok ((verdict, entries), next)
heard place event world next old new count verdict followed entries here made told =
    ap (heard_at place event world) here ∙ ap (cell_told place (old, count) world) made
    ∙ ap (λ (told : List Entry × World). Ok ((verdict, told.0), told.1)) (told_alike place new followed (with_cell place (new, count) world) ∙ told)

-- a host that stops at an event stops the world
pub heard_stops : (place : ℕ) (event : LocalEvent) (world : World) (old : Cell) (count : ℕ) (stop : Stop) → slice_get world.cells place ≡ Some (old, count) → Stops stop (cell_step old event) → Stops stop (cell_hears place event world)
heard_stops place event world old count stops.OutOfMemory here s = tt
heard_stops place event world old count stops.Worn here s = ap (heard_at place event world) here ∙ ap (cell_told place (old, count) world) s

-- where no host is at a place, nothing happens
pub heard_nowhere : (place : ℕ) (event : LocalEvent) (world : World) → slice_get world.cells place ≡ None → cell_hears place event world ≡ nothing world
heard_nowhere place event world e = ap (heard_at place event world) e

-- ---- the same, as the hosts are kept

-- a world of these parts
abbrev pub world_of : List Named → List (List ℕ × List ℕ) → List (Cell × ℕ) → List WorldSocket → Option Place → World
world_of names strangers cells sockets last = record { names = names; strangers = strangers; cells = cells; sockets = sockets; last = last }

within_of : (place len : ℕ) (cells : List (Cell × ℕ)) (world : World) → world.cells ≡ cells → len ≡ length world.cells → place < len → place < length cells
within_of place len cells world w l h = subst (λ (cs : List (Cell × ℕ)). place < length cs) w (subst (λ (n : ℕ). place < n) l h)

-- the host at a place
seen_at : (place : ℕ) (cells : List (Cell × ℕ)) (world : World) (seen d : Cell × ℕ) (old : Cell) (count : ℕ) → world.cells ≡ cells → place < length cells → seen ≡ get_or cells place d → (old, count) ≡ seen → slice_get world.cells place ≡ Some (old, count)
seen_at place cells world seen d old count w h is seat = ap (λ (cs : List (Cell × ℕ)). slice_get cs place) w ∙ slice_get-get_or cells place d h ∙ ap Some (sym is ∙ sym seat)

pub heard_here : (place len : ℕ) (event : LocalEvent) (names : List Named) (strangers : List (List ℕ × List ℕ)) (cells : List (Cell × ℕ)) (sockets : List WorldSocket) (last : Option Place) (world next : World) (seen d : Cell × ℕ) (old new : Cell) (count : ℕ) (verdict : Verdict) (followed : List LocalEntry) (now e : Cell × ℕ) (at : HostAt) (entries : List Entry)
    → world_of names strangers cells sockets last ≡ world → len ≡ length world.cells → place < len → seen ≡ get_or cells place d → (old, count) ≡ seen
    → cell_step old event ≡ Ok ((verdict, followed), new)
    → now ≡ get_or (slice_set cells place (new, count)) place e → at ≡ host_at place now.0
    → all_told at.place (cell_in at) followed (world_of names strangers (slice_set cells place (new, count)) sockets last) ≡ (entries, next)
    → cell_hears place event world ≡ Ok ((verdict, entries), next)
heard_here place len event names strangers cells sockets last world next seen d old new count verdict followed now e at entries w l h is seat made kept stands told =
    heard place event world next old new count verdict followed entries (seen_at place cells world seen d old count same within is seat) made
    (ap (λ (w : World). all_told place (cell_in (host_at place new)) followed (with_cell place (new, count) w)) (sym w)
    ∙ ap (λ (at : HostAt). all_told at.place (cell_in at) followed (world_of names strangers (slice_set cells place (new, count)) sockets last)) (sym there) ∙ told)
  where
    same : world.cells ≡ cells
    same = ap (λ (w : World). w.cells) (sym w)

    within : place < length cells
    within = within_of place len cells world same l h

    there : at ≡ host_at place new
    there = stands ∙ ap (λ (c : Cell × ℕ). host_at place c.0) (kept ∙ get_or-set_same cells place (new, count) e within)

pub stops_here : (place len : ℕ) (event : LocalEvent) (names : List Named) (strangers : List (List ℕ × List ℕ)) (cells : List (Cell × ℕ)) (sockets : List WorldSocket) (last : Option Place) (world : World) (seen d : Cell × ℕ) (old : Cell) (count : ℕ) (stop : Stop)
    → world_of names strangers cells sockets last ≡ world → len ≡ length world.cells → place < len → seen ≡ get_or cells place d → (old, count) ≡ seen
    → Stops stop (cell_step old event) → Stops stop (cell_hears place event world)
stops_here place len event names strangers cells sockets last world seen d old count stop w l h is seat s =
    let same : world.cells ≡ cells = ap (λ (w : World). w.cells) (sym w) in
    heard_stops place event world old count stop (seen_at place cells world seen d old count same (within_of place len cells world same l h) is seat) s

-- past all hosts nothing happens
pub nothing_here : (place len : ℕ) (event : LocalEvent) (world : World) → len ≡ length world.cells → len ≤ place → cell_hears place event world ≡ nothing world
nothing_here place len event world l h = heard_nowhere place event world (slice_get_past world.cells place (subst (λ (n : ℕ). n ≤ place) l h))
