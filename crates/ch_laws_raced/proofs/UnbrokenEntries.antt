-- A call that is calm tells of no break.
use Rattle.std.proofs.Common.{◌≡◌, ℕ, true, List, [], ◌∷◌, ◌++◌, refl, ◌∙◌}
use Rattle.std.proofs.lemmas.Bool.{and_parts}
use Rattle.std.proofs.lemmas.List.Folds.{list_all-append}
use Rattle.std.specs.List.{list_all}
use Rattle.std.specs.Prelude.{Option, Some, None}
use Rattle.ch_model.specs.declared.entry.Entry.{Entry}
use Rattle.ch_model.specs.declared.entry.Entry.TheVariants as entries
use Rattle.ch_model.specs.declared.name.End.{End}
use Rattle.ch_model.specs.declared.name.SockName.{SockName}
use Rattle.ch_model.specs.declared.note.Note.{Note}
use Rattle.ch_model.specs.declared.note.Note.TheVariants as notes
use Rattle.ch_model.specs.declared.step.Place.{Place}
use Rattle.ch_model.specs.declared.step.Step.{Step}
use Rattle.ch_model.specs.declared.step.Step.TheVariants as steps
use Rattle.ch_model.specs.CellSteps.{told_steps}
use Rattle.ch_model.specs.Naming.{Names}
use Rattle.ch_model.specs.WorldSockets.{other, item_arrives, with_end_of, find_end}
use Rattle.ch_model.specs.WorldState.{Cell, World}
use Rattle.ch_model.specs.WorldSteps.{note_entry, on_end, reads_item, end_closes, stepped, all_told}
use Rattle.ch_laws_raced.specs.UnbrokenBreaks.{is_no_break, NoBreaks, is_calm, calm}
use Rattle.ch_laws_raced.proofs.UnbrokenSteps.{both}

on_one : (place sock : ℕ) (f : SockName × End → World → List Entry × World) (world : World) → ((at : SockName × End) → NoBreaks (f at world).0) → NoBreaks (on_end place sock f world).0
on_one place sock f world each = by_end (find_end place sock world.sockets) where
  by_end : (o : Option (SockName × End)) → NoBreaks (elim o as (λ o. List Entry × World) [
    | None ↦ ([], world)
    | Some at ↦ f at world
  ]).0
  by_end None = refl
  by_end (Some at) = each at

step_unbroken : (place : ℕ) (cell : Cell) (step : Step) (world : World) → is_calm step ≡ true → NoBreaks (stepped place cell step world).0
step_unbroken place cell (steps.Dial sock end peer) world c = refl
step_unbroken place cell (steps.Read sock) world c = on_one place sock reads_item world (λ at. refl)
step_unbroken place cell (steps.Write sock bytes said) world c = on_one place sock (λ at now. (entries.Wrote at.0 at.1 bytes ∷ [], with_end_of at.0 (other at.1) (item_arrives bytes said) now)) world (λ at. refl)
step_unbroken place cell (steps.Up sock) world c = on_one place sock (λ at now. (entries.Up at.0 at.1 ∷ [], now)) world (λ at. refl)
step_unbroken place cell (steps.Down sock) world c = absurd cc
step_unbroken place cell (steps.Left sock) world c = on_one place sock (λ at now. (entries.Left at.0 at.1 ∷ [], end_closes at now)) world (λ at. refl)
step_unbroken place cell (steps.Broke end peer why) world c = absurd cc
step_unbroken place cell (steps.Post end event) world c = refl

pub unbroken_both : (log more : List Entry) → NoBreaks log → NoBreaks more → NoBreaks (log ++ more)
unbroken_both log more a b = list_all-append is_no_break log more ∙ both (list_all is_no_break log) (list_all is_no_break more) a b

pub told_unbroken : (place : ℕ) (cell : Cell) (told : List Step) (world : World) → calm told ≡ true → NoBreaks (all_told place cell (told_steps told) world).0
told_unbroken place cell [] world c = refl
told_unbroken place cell (step ∷ rest) world c = let parts = and_parts (is_calm step) (calm rest) c in
    unbroken_both (stepped place cell step world).0 (all_told place cell (told_steps rest) (stepped place cell step world).1).0
    (step_unbroken place cell step world parts.0) (told_unbroken place cell rest (stepped place cell step world).1 parts.1)

pub note_unbroken : (known : Names) (last : Option Place) (note : Note) → is_no_break (note_entry known last note) ≡ true
note_unbroken known last (notes.Made process origin) = refl
note_unbroken known last note = refl
