-- What a cell tells of its host's steps leaves links and ends naming each other, the log telling how ends stand, and openers' users called so.
use Rattle.std.proofs.Common.{◌≡◌, ℕ, Bool, true, false, cond, List, ◌∷◌, ◌++◌, [], refl, sym, ap, ◌∙◌, subst, append_assoc}
use Rattle.std.specs.Prelude.{slice_get, slice_set, Option, Some, ◌==◌}
use Rattle.ch_model.specs.declared.entry.Entry.{Entry}
use Rattle.ch_model.specs.declared.line.Line.{Line}
use Rattle.ch_model.specs.declared.local.LocalEntry.{LocalEntry}
use Rattle.ch_model.specs.declared.step.Step.{Step}
use Rattle.ch_model.specs.CellSteps.{told_steps}
use Rattle.ch_model.specs.HostState.{HostState}
use Rattle.ch_model.specs.WorldHappenings.{with_cell}
use Rattle.ch_model.specs.WorldState.{Cell, World}
use Rattle.ch_model.specs.WorldSteps.{all_told}
use Rattle.ch_laws_log.specs.HostEnds.{steps_in}
use Rattle.ch_laws_log.proofs.Agreeing.{Good, keeps_good}
use Rattle.ch_laws_log.proofs.Stored.{number_is}
use Rattle.ch_laws_bytes.proofs.Event as events
use Rattle.ch_laws_bytes.proofs.Lines.{own_of}
use Rattle.ch_laws_links.specs.Standing.{Standing, standing_at, standing_after_all}
use Rattle.ch_laws_links.proofs.Cells.{steps_told}
use Rattle.ch_laws_links.proofs.Journals.{now_at, now_of}
use Rattle.ch_laws_links.proofs.Logs.{told_now, as_stood, all_agrees}
use Rattle.ch_laws_links.proofs.Risen.{Agrees}
use Rattle.ch_laws_links.proofs.Worlds.{AllNaming, set_naming, told_cells}
use Rattle.ch_laws_pairs.proofs.Heard.{Asked, told_asked}
use Rattle.ch_laws_calls.specs.Calls.{with_host, done_at}
use Rattle.ch_laws_calls.specs.Sound.{SoundEnds, SoundLinks}
use Rattle.ch_laws_calls.proofs.StandingMakes.{Makes, makes_from}

-- Before what a cell tells: the sockets are as the log tells; links and ends name each other; the log tells how ends stand, where
-- those of the cells' hosts stand so; and openers' users are called as their sockets.
pub record Ready (journal : List Line) (now : ℕ → ℕ → Option Standing) (log : List Entry) (world : World) : Type 0 where
  pub good : Good journal log world
  pub naming : AllNaming world.cells
  pub agrees : Agrees now log world.sockets
  pub asked : Asked (own_of journal) world

pub ready : (journal : List Line) (log : List Entry) (world : World) → SoundEnds journal log world → SoundLinks journal log world → Ready journal (now_of world.cells) log world
ready journal log world e l = record { good = e.sure.ends.sorted.0; naming = l.naming; agrees = l.tells; asked = l.asked }

-- what is told of the cell at a place, which is another then, where the ends of all other cells stood as they do
pub told_links : (journal : List Line) (log : List Entry) (world : World) (place : ℕ) (cell : Cell × ℕ) (after : Cell) (told : List LocalEntry) (now : ℕ → ℕ → Option Standing) → Ready journal now log world → slice_get world.cells place ≡ Some cell
    → Makes cell (now place) (steps_in told) after.host → ((p n : ℕ) → (place == p) ≡ false → now p n ≡ now_of world.cells p n)
    → let done = all_told place after told (with_cell place (after, cell.1) world) in SoundLinks journal (log ++ done.0) done.1
told_links journal log world place cell after told now r at m there = record {
  naming = subst AllNaming (sym cells_now) (set_naming world.cells place (after, cell.1) r.naming (record { naming = m.naming; free = m.free }));
  tells = subst (λ (all : List (Cell × ℕ)). Agrees (now_of all) (log ++ done.0) done.1.sockets) (sym cells_now)
      (as_stood (told_now place (steps_in told) now) (now_of (slice_set world.cells place (after, cell.1))) (log ++ done.0) done.1.sockets stood
      (all_agrees journal log place after told kept now ((keeps_good journal).cell log world place (after, cell.1) r.good) m.tells.right r.agrees));
  asked = told_asked (own_of journal) world place cell after told at m.asks r.asked;
} where
  kept : World
  kept = with_cell place (after, cell.1) world

  done : List Entry × World
  done = all_told place after told kept

  cells_now : done.1.cells ≡ slice_set world.cells place (after, cell.1)
  cells_now = told_cells place after told kept

  stood : (p n : ℕ) → told_now place (steps_in told) now p n ≡ now_of (slice_set world.cells place (after, cell.1)) p n
  stood p n = by_place (place == p) refl ∙ sym (ap (λ (o : Option (Cell × ℕ)). now_at o n) (events.set_at world.cells place cell (after, cell.1) p at)) where
    by_place : (b : Bool) → (place == p) ≡ b → cond b (standing_after_all (steps_in told) n (now p n)) (now p n) ≡ now_at (cond b (Some (after, cell.1)) (slice_get world.cells p)) n
    by_place true h = ap (λ (k : ℕ). standing_after_all (steps_in told) n (now k n)) (sym (number_is place p h)) ∙ sym (m.tells.stands n)
    by_place false h = there p n h

-- a call of the cell's host
pub call_links : (journal : List Line) (log : List Entry) (world : World) (place : ℕ) (cell : Cell × ℕ) (steps : List Step) (host : HostState) (now : ℕ → ℕ → Option Standing) → Ready journal now log world → slice_get world.cells place ≡ Some cell
    → Makes cell (now place) steps host → ((p n : ℕ) → (place == p) ≡ false → now p n ≡ now_of world.cells p n)
    → let done = done_at place cell steps host world in SoundLinks journal (log ++ done.0) done.1
call_links journal log world place cell steps host now r at m there = told_links journal log world place cell (with_host cell host) (told_steps steps) now r at (subst (λ (l : List Step). Makes cell (now place) l host) (sym (steps_told steps)) m) there

-- the ends of the cell at a place stand as its host has them
pub stands_there : (cells : List (Cell × ℕ)) (place : ℕ) (cell : Cell × ℕ) → slice_get cells place ≡ Some cell → (n : ℕ) → now_of cells place n ≡ standing_at cell.0.host n
stands_there cells place cell at n = ap (λ (o : Option (Cell × ℕ)). now_at o n) at

-- a call that opens no end itself
pub own_call_links : (journal : List Line) (log : List Entry) (world : World) (place : ℕ) (cell : Cell × ℕ) (steps : List Step) (host : HostState) → Ready journal (now_of world.cells) log world → slice_get world.cells place ≡ Some cell
    → Makes cell (standing_at cell.0.host) steps host → let done = done_at place cell steps host world in SoundLinks journal (log ++ done.0) done.1
own_call_links journal log world place cell steps host r at m = call_links journal log world place cell steps host (now_of world.cells) r at
    (makes_from cell (standing_at cell.0.host) (now_of world.cells place) steps host (λ n. sym (stands_there world.cells place cell at n)) m) (λ p n h. refl)

-- an entry of the world's own before what is told
pub after_entry : (journal : List Line) (log : List Entry) (x : Entry) (told : List Entry) (world : World) → SoundLinks journal ((log ++ x ∷ []) ++ told) world → SoundLinks journal (log ++ x ∷ told) world
after_entry journal log x told world l = subst (λ (all : List Entry). SoundLinks journal all world) (append_assoc log (x ∷ []) told) l
