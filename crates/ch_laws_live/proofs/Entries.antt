-- What a call tells: entries in the order of its steps, so that what starts comes last; and no opener's end is ended by another.
use Rattle.std.proofs.Common.{◌≡◌, ◌⊎◌, inl, inr, ℕ, Bool, true, false, cond, not, ◌&&◌, List, [], ◌∷◌, ◌++◌, refl, ap, ◌∙◌}
use Rattle.std.proofs.lemmas.Bool.{and_parts}
use Rattle.std.proofs.lemmas.List.Folds.{list_all-append}
use Rattle.std.specs.List.{list_all}
use Rattle.std.specs.Prelude.{Option, Some, None}
use Rattle.ch_model.specs.declared.entry.Entry.{Entry}
use Rattle.ch_model.specs.declared.entry.Entry.TheVariants as entries
use Rattle.ch_model.specs.declared.name.End.{End}
use Rattle.ch_model.specs.declared.name.SockName.{SockName}
use Rattle.ch_model.specs.declared.note.Note.{Note}
use Rattle.ch_model.specs.declared.note.Note.TheVariants as notes
use Rattle.ch_model.specs.declared.step.Place.{Place}
use Rattle.ch_model.specs.declared.step.Step.{Step}
use Rattle.ch_model.specs.declared.step.Step.TheVariants as steps
use Rattle.ch_model.specs.CellSteps.{told_steps}
use Rattle.ch_model.specs.Naming.{Names}
use Rattle.ch_model.specs.WorldSockets.{other, item_arrives, with_end_of, find_end}
use Rattle.ch_model.specs.WorldState.{Cell, World}
use Rattle.ch_model.specs.WorldSteps.{note_entry, on_end, reads_item, end_closes, stepped, all_told}
use Rattle.ch_laws_live.specs.Turns.{step_starts, step_turns, no_turns, starts_last, is_start, is_turn, turnless, start_last}
use Rattle.ch_laws_live.specs.Lives.{is_unended}

pub both : (a b : Bool) → a ≡ true → b ≡ true → (a && b) ≡ true
both true b g h = h
both false b g h = absurd cc

-- ---- one step

-- a step is told by no entry, or by one of its kind
pub record IsToldBy (step : Step) (x : Entry) : Type 0 where
  pub start : is_start x ≡ step_starts step
  pub turn : is_turn x ≡ step_turns step
  pub unended : is_unended x ≡ true

abbrev pub Telling : Step → List Entry → Type 0
Telling step told = (told ≡ []) ⊎ ((x : Entry) × (told ≡ x ∷ []) × IsToldBy step x)

on_one : (step : Step) (place sock : ℕ) (f : SockName × End → World → List Entry × World) (world : World) → ((at : SockName × End) → Telling step (f at world).0) → Telling step (on_end place sock f world).0
on_one step place sock f world each = by_end (find_end place sock world.sockets) where
  by_end : (o : Option (SockName × End)) → Telling step (elim o as (λ o. List Entry × World) [
    | None ↦ ([], world)
    | Some at ↦ f at world
  ]).0
  by_end None = inl refl
  by_end (Some at) = each at

pub step_tells : (place : ℕ) (cell : Cell) (step : Step) (world : World) → Telling step (stepped place cell step world).0
step_tells place cell (steps.Dial sock end peer) world = inr (_, refl, record { start = refl; turn = refl; unended = refl })
step_tells place cell (steps.Read sock) world = on_one (steps.Read sock) place sock reads_item world (λ at. inl refl)
step_tells place cell (steps.Write sock bytes said) world = on_one (steps.Write sock bytes said) place sock (λ at now. (entries.Wrote at.0 at.1 bytes ∷ [], with_end_of at.0 (other at.1) (item_arrives bytes said) now)) world (λ at. inr (_, refl, record { start = refl; turn = refl; unended = refl }))
step_tells place cell (steps.Up sock) world = on_one (steps.Up sock) place sock (λ at now. (entries.Up at.0 at.1 ∷ [], now)) world (λ at. inr (_, refl, record { start = refl; turn = refl; unended = refl }))
step_tells place cell (steps.Down sock) world = on_one (steps.Down sock) place sock (λ at now. (entries.Down at.0 at.1 ∷ [], end_closes at now)) world (λ at. inr (_, refl, record { start = refl; turn = refl; unended = refl }))
step_tells place cell (steps.Left sock) world = on_one (steps.Left sock) place sock (λ at now. (entries.Left at.0 at.1 ∷ [], end_closes at now)) world (λ at. inr (_, refl, record { start = refl; turn = refl; unended = refl }))
step_tells place cell (steps.Broke end peer why) world = inr (_, refl, record { start = refl; turn = refl; unended = refl })
step_tells place cell (steps.Post end event) world = inl refl

-- ---- all steps

pub turns_told : (place : ℕ) (cell : Cell) (told : List Step) (world : World) → no_turns told ≡ true → turnless (all_told place cell (told_steps told) world).0 ≡ true
turns_told place cell [] world n = refl
turns_told place cell (step ∷ rest) world n = list_all-append (λ x. not (is_turn x)) (stepped place cell step world).0 more ∙ both (turnless (stepped place cell step world).0) (turnless more) (by_one (stepped place cell step world).0 (step_tells place cell step world)) (turns_told place cell rest (stepped place cell step world).1 parts.1) where
  more : List Entry
  more = (all_told place cell (told_steps rest) (stepped place cell step world).1).0

  parts : (not (step_turns step) ≡ true) × (no_turns rest ≡ true)
  parts = and_parts (not (step_turns step)) (no_turns rest) n

  by_one : (one : List Entry) → Telling step one → turnless one ≡ true
  by_one one (inl e) = ap turnless e
  by_one one (inr t) = ap turnless t.1 ∙ ap (λ b. not b && true) t.2.turn ∙ ap (λ b. b && true) parts.0

-- what turns nothing starts nothing
pub last_turnless : (log : List Entry) → turnless log ≡ true → start_last log ≡ true
last_turnless [] t = refl
last_turnless (x ∷ log) t = let parts = and_parts (not (is_turn x)) (turnless log) t in by_test x parts.0 (last_turnless log parts.1) where
  by_test : (x : Entry) → not (is_turn x) ≡ true → start_last log ≡ true → cond (is_start x) (turnless log) (start_last log) ≡ true
  by_test (entries.Dial sock) n more = absurd cc
  by_test (entries.Up sock end) n more = absurd cc
  by_test x n more = more

pub starts_told : (place : ℕ) (cell : Cell) (told : List Step) (world : World) → starts_last told ≡ true → start_last (all_told place cell (told_steps told) world).0 ≡ true
starts_told place cell [] world n = refl
starts_told place cell (step ∷ rest) world n = by_one (stepped place cell step world).0 (step_tells place cell step world) (starts_told place cell rest (stepped place cell step world).1) where
  next : World
  next = (stepped place cell step world).1

  more : List Entry
  more = (all_told place cell (told_steps rest) next).0

  rest_last : (starts_last rest ≡ true → start_last more ≡ true) → (b : Bool) → cond b (no_turns rest) (starts_last rest) ≡ true → start_last more ≡ true
  rest_last later true n = last_turnless more (turns_told place cell rest next n)
  rest_last later false n = later n

  by_start : (starts_last rest ≡ true → start_last more ≡ true) → (b : Bool) → cond b (no_turns rest) (starts_last rest) ≡ true → cond b (turnless more) (start_last more) ≡ true
  by_start later true n = turns_told place cell rest next n
  by_start later false n = later n

  by_one : (one : List Entry) → Telling step one → (starts_last rest ≡ true → start_last more ≡ true) → start_last (one ++ more) ≡ true
  by_one one (inl e) later = ap (λ (l : List Entry). start_last (l ++ more)) e ∙ rest_last later (step_starts step) n
  by_one one (inr t) later = ap (λ (l : List Entry). start_last (l ++ more)) t.1 ∙ ap (λ b. cond b (turnless more) (start_last more)) t.2.start ∙ by_start later (step_starts step) n

pub unended_told : (place : ℕ) (cell : Cell) (told : List Step) (world : World) → list_all is_unended (all_told place cell (told_steps told) world).0 ≡ true
unended_told place cell [] world = refl
unended_told place cell (step ∷ rest) world = list_all-append is_unended (stepped place cell step world).0 more ∙ both (list_all is_unended (stepped place cell step world).0) (list_all is_unended more) (by_one (stepped place cell step world).0 (step_tells place cell step world)) (unended_told place cell rest (stepped place cell step world).1) where
  more : List Entry
  more = (all_told place cell (told_steps rest) (stepped place cell step world).1).0

  by_one : (one : List Entry) → Telling step one → list_all is_unended one ≡ true
  by_one one (inl e) = ap (list_all is_unended) e
  by_one one (inr t) = ap (list_all is_unended) t.1 ∙ ap (λ b. b && true) t.2.unended

-- ---- a note

pub note_plain : (known : Names) (last : Option Place) (note : Note) → (is_turn (note_entry known last note) ≡ false) × (is_unended (note_entry known last note) ≡ true)
note_plain known last (notes.Made process origin) = (refl, refl)
note_plain known last note = (refl, refl)
