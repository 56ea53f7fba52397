-- A turn of a cell, with all that it told, leaves a plain world where its host dials nothing.
use Rattle.std.proofs.Common.{◌≡◌, ℕ, List, [], ◌∷◌, refl, sym, ap, ◌∙◌}
use Rattle.std.specs.Prelude.{find, slice_get, slice_set, Some}
use Rattle.ch_model.specs.declared.entry.Entry.{Entry}
use Rattle.ch_model.specs.declared.line.Line.{Line}
use Rattle.ch_model.specs.declared.local.LocalEntry.{LocalEntry}
use Rattle.ch_model.specs.declared.local.LocalEntry.TheVariants as local
use Rattle.ch_model.specs.declared.name.SockName.{SockName}
use Rattle.ch_model.specs.declared.step.Step.{Step}
use Rattle.ch_model.specs.CellSteps.{told_steps}
use Rattle.ch_model.specs.WorldHappenings.{with_cell}
use Rattle.ch_model.specs.WorldSockets.{is_socket_named}
use Rattle.ch_model.specs.WorldState.{Cell, WorldSocket, World}
use Rattle.ch_model.specs.WorldSteps.{all_told}
use Rattle.ch_laws_bytes.proofs.Event.{Flowing}
use Rattle.ch_laws_bytes.proofs.Lines.{own_of}
use Rattle.ch_laws_bytes.proofs.Told.{told_names}
use Rattle.ch_laws_ends.proofs.Changes.{told_cells}
use Rattle.ch_laws_ends.proofs.Known.{keeps_sorted}
use Rattle.ch_laws_ends.proofs.Places.{set_split}
use Rattle.ch_laws_ends.proofs.Told.{Sure}
use Rattle.ch_laws_log.specs.HostEnds.{steps_in}
use Rattle.ch_laws_race.specs.Chains.{steps_told}
use Rattle.ch_laws_race.proofs.Same.{Same, all_same}
use Rattle.ch_laws_calls.specs.FitsTurns.{NoDials}
use Rattle.ch_laws_calls.proofs.FitsSockets.{WasThere, told_goes}
use Rattle.ch_laws_calls.specs.Turns.{told_on}
use Rattle.ch_laws_plain.specs.Plain.{CellIsPlain, WorldIsPlain}
use Rattle.ch_laws_plain.specs.Turns.{CellCarries}
use Rattle.ch_laws_plain.proofs.Ends.{there_plain}

-- the steps that were told, by either name
pub steps_same : (told : List LocalEntry) → steps_told told ≡ steps_in told
steps_same [] = refl
steps_same (local.Step step ∷ rest) = ap (λ (l : List Step). step ∷ l) (steps_same rest)
steps_same (local.Note note ∷ rest) = steps_same rest

-- What was told changes the sockets as its steps do, and the streams at their ends are carried on.
pub turn_plain : (journal : List Line) (log : List Entry) (world : World) (place : ℕ) (cell : Cell × ℕ) (told : List LocalEntry) (after : Cell) → Sure journal log world → Flowing (own_of journal) world → WorldIsPlain journal world → slice_get world.cells place ≡ Some cell → NoDials (steps_in told)
    → CellCarries (own_of journal place) cell.0 (steps_in told) after → CellIsPlain after → WorldIsPlain journal (told_on place cell after told world).1
turn_plain journal log world place cell told after sure flowing plain at none carries one = record {
  cells = λ p c f. set_split world.cells place cell now at (λ p c. CellIsPlain c.0) one (λ p c e g. plain.cells p c g) p c (ap (λ (l : List (Cell × ℕ)). slice_get l p) (sym cells) ∙ f);
  ends = λ s socket e found may. there_plain journal log world final place cell now (steps_in told) sure flowing plain at cells names carries s socket e (were s socket found) may;
} where
  now : Cell × ℕ
  now = (after, cell.1)

  kept : World
  kept = with_cell place now world

  final : World
  final = (all_told place after told kept).1

  cells : final.cells ≡ slice_set world.cells place now
  cells = told_cells place after told kept

  names : final.names ≡ world.names
  names = told_names place after told kept

  alike : Same final (all_told place after (told_steps (steps_told told)) kept).1
  alike = all_same place after after told kept kept refl refl (record { names = refl; sockets = refl; places = λ a. refl })

  there : (s : SockName) (socket : WorldSocket) → find (is_socket_named s) final.sockets ≡ Some socket → WasThere place (steps_in told) kept s socket
  there s socket found = told_goes journal place after (steps_in told) log kept ((keeps_sorted journal).cell log world place now sure.ends.sorted) sure.ends.each none s socket
      (ap (λ (l : List Step). find (is_socket_named s) (all_told place after (told_steps l) kept).1.sockets) (sym (steps_same told)) ∙ ap (λ (l : List WorldSocket). find (is_socket_named s) l) (sym alike.sockets) ∙ found)

  were : (s : SockName) (socket : WorldSocket) → find (is_socket_named s) final.sockets ≡ Some socket → WasThere place (steps_in told) world s socket
  were s socket found = let w = there s socket found in record { before = w.before; found = w.found; goes = w.goes }
