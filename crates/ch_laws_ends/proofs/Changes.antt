-- What a step that a cell tells does to the world's sockets: a new one is dialed, or an end goes on in its place.
use Rattle.std.proofs.Common.{◌≡◌, ℕ, Bool, true, false, cond, ◌||◌, List, [], ◌∷◌, ◌++◌, refl, ◌∙◌}
use Rattle.std.specs.Prelude.{find, Option, Some, None}
use Rattle.ch_model.specs.declared.entry.Entry.{Entry}
use Rattle.ch_model.specs.declared.entry.Entry.TheVariants as entries
use Rattle.ch_model.specs.declared.local.LocalEntry.{LocalEntry}
use Rattle.ch_model.specs.declared.local.LocalEntry.TheVariants as local
use Rattle.ch_model.specs.declared.name.End.{End}
use Rattle.ch_model.specs.declared.name.SockName.{SockName}
use Rattle.ch_model.specs.declared.step.Place.{Place}
use Rattle.ch_model.specs.declared.step.Step.{Step}
use Rattle.ch_model.specs.declared.step.Step.TheVariants as steps
use Rattle.ch_model.specs.HostSteps.{own_address}
use Rattle.ch_model.specs.Naming.{called}
use Rattle.ch_model.specs.Stages.{Stage, Pending, Open, Ended, is_ended}
use Rattle.ch_model.specs.WorldSockets.{other, with_end, end_of, ended, cut, arrives, item_arrives, end_of_nobody, is_socket_named, with_socket, with_end_of, find_end, new_socket}
use Rattle.ch_model.specs.WorldState.{Cell, WorldEnd, WorldSocket, World}
use Rattle.ch_model.specs.WorldSteps.{on_end, later_places, item_is_read, reads_item, end_closes, stepped, local_told, all_told}
use Rattle.ch_laws_ends.proofs.Found.{KeepsPlace}

-- an end stands as it did, or it has ended
abbrev pub GoesOn : Stage → Stage → Type 0
GoesOn before Ended = Unit {0}
GoesOn Pending Pending = Unit {0}
GoesOn Open Open = Unit {0}
GoesOn before after = ⊥

pub stands_still : (stage : Stage) → GoesOn stage stage
stands_still Pending = tt
stands_still Open = tt
stands_still Ended = tt

-- what changes an end leaves it in its place, and it stands as it did or has ended
pub record Changes (f : WorldEnd → WorldEnd) : Type 0 where
  pub place : KeepsPlace f
  pub stage : (end : WorldEnd) → GoesOn end.stage (f end).stage

pub cutting : Changes cut
cutting = record { place = λ end. (refl, refl); stage = λ end. stands_still end.stage }

pub taking : (f : List ℕ → List ℕ) → Changes (λ end. record end { unread = f end.unread })
taking f = record { place = λ end. (refl, refl); stage = λ end. stands_still end.stage }

pub getting : (bytes : List ℕ) → Changes (arrives bytes)
getting bytes = record { place = λ end. by_place end (is_ended end.stage || end.is_cut); stage = λ end. by_stage end (is_ended end.stage || end.is_cut) } where
  after : WorldEnd → Bool → WorldEnd
  after end b = cond b end (record end { unread = end.unread ++ bytes })

  by_place : (end : WorldEnd) (b : Bool) → ((after end b).cell ≡ end.cell) × ((after end b).number ≡ end.number)
  by_place end true = (refl, refl)
  by_place end false = (refl, refl)

  by_stage : (end : WorldEnd) (b : Bool) → GoesOn end.stage (after end b).stage
  by_stage end true = stands_still end.stage
  by_stage end false = stands_still end.stage

-- where the end has ended, nothing is unread there
abbrev pub IsEmptied : WorldEnd → Type 0
IsEmptied end = is_ended end.stage ≡ true → end.unread ≡ []

-- what a cell's step changes of an end cuts it no more than it was, and leaves nothing unread where it ends
pub record StepChanges (f : WorldEnd → WorldEnd) : Type 0 where
  pub changes : Changes f
  pub cut : (end : WorldEnd) → (f end).is_cut ≡ end.is_cut
  pub emptied : (end : WorldEnd) → IsEmptied end → IsEmptied (f end)

pub closing : StepChanges ended
closing = record { changes = record { place = λ end. (refl, refl); stage = λ end. tt }; cut = λ end. refl; emptied = λ end h e. refl }

passing : StepChanges (λ end. record end { places = later_places end.places })
passing = record { changes = record { place = λ end. (refl, refl); stage = λ end. stands_still end.stage }; cut = λ end. refl; emptied = λ end h. h }

getting_item : (bytes : List ℕ) (said : Option Place) → StepChanges (item_arrives bytes said)
getting_item bytes said = record {
  changes = record { place = λ end. by_place end (is_ended end.stage || end.is_cut); stage = λ end. by_stage end (is_ended end.stage || end.is_cut) };
  cut = λ end. by_cut end (is_ended end.stage || end.is_cut);
  emptied = λ end h. by_gone end h (is_ended end.stage) refl end.is_cut;
} where
  after : WorldEnd → Bool → WorldEnd
  after end b = cond b end (record end { unread = end.unread ++ bytes; places = end.places ++ said ∷ [] })

  by_place : (end : WorldEnd) (b : Bool) → ((after end b).cell ≡ end.cell) × ((after end b).number ≡ end.number)
  by_place end true = (refl, refl)
  by_place end false = (refl, refl)

  by_stage : (end : WorldEnd) (b : Bool) → GoesOn end.stage (after end b).stage
  by_stage end true = stands_still end.stage
  by_stage end false = stands_still end.stage

  by_cut : (end : WorldEnd) (b : Bool) → (after end b).is_cut ≡ end.is_cut
  by_cut end true = refl
  by_cut end false = refl

  by_gone : (end : WorldEnd) → IsEmptied end → (a : Bool) → is_ended end.stage ≡ a → (b : Bool) → IsEmptied (after end (a || b))
  by_gone end h true e b = h
  by_gone end h false e true = h
  by_gone end h false e false = λ over. absurd cc

-- ---- a step

-- what holds where a dial's new socket was stored
abbrev pub OnDial : (World → Type 0) → ℕ → Cell → Step → World → Type 0
OnDial P place cell (steps.Dial sock end peer) world = P (with_socket (new_socket world (called world.names (own_address cell.host end)) (called world.names peer) cell.host.host (end_of_nobody (Some place) (Some sock) Pending) peer) world)
OnDial P place cell step world = Unit {0}

-- what any change of an end keeps
abbrev pub OnChange : (World → Type 0) → World → Type 0
OnChange P world = (s : SockName) (e : End) (f : WorldEnd → WorldEnd) → StepChanges f → P (with_end_of s e f world)

-- the place of the last message says nothing of the sockets
abbrev pub OfSockets : (World → Type 0) → Type 0
OfSockets P = (one two : World) → two.cells ≡ one.cells → two.sockets ≡ one.sockets → P one → P two

at_end : (P : World → Type 0) (place sock : ℕ) (f : SockName × End → World → List Entry × World) (world : World) → ((at : SockName × End) → P (f at world).1) → P world → P (on_end place sock f world).1
at_end P place sock f world each p = by_end (find_end place sock world.sockets) where
  by_end : (o : Option (SockName × End)) → P (elim o as (λ o. List Entry × World) [
    | None ↦ ([], world)
    | Some at ↦ f at world
  ]).1
  by_end None = p
  by_end (Some at) = each at

item_read : (P : World → Type 0) → OfSockets P → (at : SockName × End) (o : Option WorldSocket) (world : World) → OnChange P world → P world → P (item_is_read at o world)
item_read P of at None world change p = p
item_read P of at (Some socket) world change p = of (with_end_of at.0 at.1 (λ end. record end { places = later_places end.places }) world) (item_is_read at (Some socket) world) refl refl (change at.0 at.1 (λ end. record end { places = later_places end.places }) passing)

pub step_as : (P : World → Type 0) → OfSockets P → (place : ℕ) (cell : Cell) (step : Step) (world : World) → OnDial P place cell step world → OnChange P world → P world → P (stepped place cell step world).1
step_as P of place cell (steps.Dial sock end peer) world dial change p = dial
step_as P of place cell (steps.Read sock) world dial change p = at_end P place sock reads_item world (λ at. item_read P of at (find (is_socket_named at.0) world.sockets) world change p) p
step_as P of place cell (steps.Write sock bytes said) world dial change p = at_end P place sock (λ at now. (entries.Wrote at.0 at.1 bytes ∷ [], with_end_of at.0 (other at.1) (item_arrives bytes said) now)) world (λ at. change at.0 (other at.1) (item_arrives bytes said) (getting_item bytes said)) p
step_as P of place cell (steps.Up sock) world dial change p = at_end P place sock (λ at now. (entries.Up at.0 at.1 ∷ [], now)) world (λ at. p) p
step_as P of place cell (steps.Down sock) world dial change p = at_end P place sock (λ at now. (entries.Down at.0 at.1 ∷ [], end_closes at now)) world (λ at. change at.0 at.1 ended closing) p
step_as P of place cell (steps.Left sock) world dial change p = at_end P place sock (λ at now. (entries.Left at.0 at.1 ∷ [], end_closes at now)) world (λ at. change at.0 at.1 ended closing) p
step_as P of place cell (steps.Broke end peer why) world dial change p = p
step_as P of place cell (steps.Post end event) world dial change p = p

-- ---- the cells stay as they are

pub cells_stay : (n : SockName) (e : End) (f : WorldEnd → WorldEnd) (world : World) → (with_end_of n e f world).cells ≡ world.cells
cells_stay n e f world = by_socket (find (is_socket_named n) world.sockets) where
  by_socket : (o : Option WorldSocket) → (elim o as (λ o. World) [
    | None ↦ world
    | Some socket ↦ with_socket (with_end e (f (end_of e socket)) socket) world
  ]).cells ≡ world.cells
  by_socket None = refl
  by_socket (Some socket) = refl

dial_cells : (place : ℕ) (cell : Cell) (step : Step) (world : World) → OnDial (λ w. w.cells ≡ world.cells) place cell step world
dial_cells place cell (steps.Dial sock end peer) world = refl
dial_cells place cell step world = tt

one_cells : (place : ℕ) (cell : Cell) (entry : LocalEntry) (world : World) → (local_told place cell entry world).1.cells ≡ world.cells
one_cells place cell (local.Note note) world = refl
one_cells place cell (local.Step step) world = step_as (λ w. w.cells ≡ world.cells) (λ one two c s p. c ∙ p) place cell step world (dial_cells place cell step world) (λ s e f c. cells_stay s e f world) refl

pub told_cells : (place : ℕ) (cell : Cell) (told : List LocalEntry) (world : World) → (all_told place cell told world).1.cells ≡ world.cells
told_cells place cell [] world = refl
told_cells place cell (entry ∷ rest) world = told_cells place cell rest (local_told place cell entry world).1 ∙ one_cells place cell entry world
