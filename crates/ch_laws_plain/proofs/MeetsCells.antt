-- What is so of each cell of a world is so still once something has happened to one of them.
use Rattle.std.proofs.Common.{◌≡◌, ℕ, ◌+◌, ◌*◌, List, drop, sym, ap, ◌∙◌}
use Rattle.std.specs.Prelude.{slice_get, slice_set, Some}
use Rattle.ch_model.specs.declared.local.LocalEntry.{LocalEntry}
use Rattle.ch_model.specs.declared.name.End.{End}
use Rattle.ch_model.specs.declared.name.End.TheVariants.{O, T}
use Rattle.ch_model.specs.declared.step.Step.{Step}
use Rattle.ch_model.specs.CellSteps.{told_steps}
use Rattle.ch_model.specs.HostState.{HostState}
use Rattle.ch_model.specs.WorldHappenings.{with_cell}
use Rattle.ch_model.specs.WorldSockets.{opened}
use Rattle.ch_model.specs.WorldState.{Cell, WorldSocket, World}
use Rattle.ch_laws_ends.proofs.Changes.{cells_stay, told_cells}
use Rattle.ch_laws_ends.proofs.Places.{set_split, set_twice}
use Rattle.ch_laws_calls.specs.Calls.{with_host, done_at, joined_in, come_in, fed_in}
use Rattle.ch_laws_calls.specs.Turns.{told_on}

-- so it is of each cell
abbrev pub Each : (Cell → Type 0) → World → Type 0
Each P world = (place : ℕ) (cell : Cell × ℕ) → slice_get world.cells place ≡ Some cell → P cell.0

-- where one is another now
pub each_set : (P : Cell → Type 0) (world after : World) (place : ℕ) (cell now : Cell × ℕ) → slice_get world.cells place ≡ Some cell → after.cells ≡ slice_set world.cells place now → P now.0 → Each P world → Each P after
each_set P world after place cell now at cells one all p c found = set_split world.cells place cell now at (λ p c. P c.0) one (λ p c e g. all p c g) p c (ap (λ (l : List (Cell × ℕ)). slice_get l p) (sym cells) ∙ found)

-- after a call of its host, in a world where it stood as another or as itself
pub each_called : (P : Cell → Type 0) (world one : World) (place : ℕ) (cell now : Cell × ℕ) (steps : List Step) (host : HostState) → slice_get world.cells place ≡ Some cell → slice_set one.cells place (with_host now host, now.1) ≡ slice_set world.cells place (with_host now host, now.1) → P (with_host now host) → Each P world
    → Each P (done_at place now steps host one).1
each_called P world one place cell now steps host at same p all = each_set P world (done_at place now steps host one).1 place cell (with_host now host, now.1) at
    (told_cells place (with_host now host) (told_steps steps) (with_cell place (with_host now host, now.1) one) ∙ same) p all

-- after a turn of its own
pub each_told : (P : Cell → Type 0) (world : World) (place : ℕ) (cell : Cell × ℕ) (told : List LocalEntry) (after : Cell) → slice_get world.cells place ≡ Some cell → P after → Each P world → Each P (told_on place cell after told world).1
each_told P world place cell told after at p all = each_set P world (told_on place cell after told world).1 place cell (after, cell.1) at (told_cells place after told (with_cell place (after, cell.1) world)) p all

-- ---- what happens to a socket leaves the cells

pub joined_cells : (place : ℕ) (cell : Cell × ℕ) (socket : WorldSocket) (world : World) → slice_set (joined_in socket world).cells place cell ≡ slice_set world.cells place cell
joined_cells place cell socket world = ap (λ (l : List (Cell × ℕ)). slice_set l place cell) (cells_stay socket.name O opened world)

pub come_cells : (place : ℕ) (cell now : Cell × ℕ) (socket : WorldSocket) (world : World) → slice_set (come_in place cell socket world).cells place now ≡ slice_set world.cells place now
come_cells place cell now socket world = ap (λ (l : List (Cell × ℕ)). slice_set l place now) (cells_stay socket.name T (λ end. record (opened end) { number = Some (2 * cell.1 + 1) }) (with_cell place (cell.0, cell.1 + 1) world)) ∙ set_twice world.cells place (cell.0, cell.1 + 1) now

pub fed_cells : (place : ℕ) (cell : Cell × ℕ) (which : End) (count : ℕ) (socket : WorldSocket) (world : World) → slice_set (fed_in which count socket world).cells place cell ≡ slice_set world.cells place cell
fed_cells place cell which count socket world = ap (λ (l : List (Cell × ℕ)). slice_set l place cell) (cells_stay socket.name which (λ end. record end { unread = drop count end.unread }) world)
