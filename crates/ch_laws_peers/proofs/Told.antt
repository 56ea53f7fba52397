-- What is told in a turn of plain nodes are plain entries, where nothing breaks.
use Rattle.std.proofs.Common.{◌≡◌, ℕ, Bool, true, false, ◌&&◌, List, [], ◌∷◌, ◌++◌, Ok, Err, refl, sym, ap, ◌∙◌, subst}
use Rattle.std.proofs.lemmas.Bool.{and_parts}
use Rattle.std.proofs.lemmas.List.Folds.{list_all-append}
use Rattle.std.specs.List.{list_all}
use Rattle.std.specs.Prelude.{Option, Some, None, Result}
use Rattle.ch_base.specs.declared.address.Address.{Address}
use Rattle.ch_static.specs.declared.target.Target.{Target}
use Rattle.ch_static.specs.declared.target.Target.TheVariants as targets
use Rattle.ch_model.specs.declared.act.Act.{Act}
use Rattle.ch_model.specs.declared.act.Act.TheVariants as acts
use Rattle.ch_model.specs.declared.entry.Entry.{Entry}
use Rattle.ch_model.specs.declared.entry.Entry.TheVariants as entries
use Rattle.ch_model.specs.declared.local.LocalEntry.{LocalEntry}
use Rattle.ch_model.specs.declared.local.LocalEntry.TheVariants as local
use Rattle.ch_model.specs.declared.name.End.{End}
use Rattle.ch_model.specs.declared.name.SockName.{SockName}
use Rattle.ch_model.specs.declared.note.Note.{Note}
use Rattle.ch_model.specs.declared.note.Note.TheVariants as notes
use Rattle.ch_model.specs.declared.step.EndError.{EndError}
use Rattle.ch_model.specs.declared.step.EndError.TheVariants as errors
use Rattle.ch_model.specs.declared.step.Place.{Place}
use Rattle.ch_model.specs.declared.step.Step.{Step}
use Rattle.ch_model.specs.declared.step.Step.TheVariants as steps
use Rattle.ch_model.specs.CellSteps.{Followed, ◌then◌, after_entries, told_steps, asked, act_on, acts_on}
use Rattle.ch_model.specs.HostCalls.{host_connect, host_send, host_close}
use Rattle.ch_model.specs.HostState.{HostState}
use Rattle.ch_model.specs.Naming.{Names}
use Rattle.ch_model.specs.WorldSockets.{other, find_end, with_end_of, item_arrives}
use Rattle.ch_model.specs.WorldState.{Cell, World}
use Rattle.ch_model.specs.WorldSteps.{note_entry, reads_item, end_closes, stepped, local_told, all_told}
use Rattle.ch_laws_plain_nodes.specs.Acts.{IsPlainNote, ArePlain}
use Rattle.ch_laws_plain_nodes.specs.Plain.{IsToProcess}
use Rattle.ch_laws_plain_logs.specs.Plain.{is_plain}
use Rattle.ch_laws_plain.specs.HearsTurns.{AllPlainNotes}
use Rattle.ch_laws_raced.specs.UnbrokenBreaks.{is_no_break}

both : (a b : Bool) → a ≡ true → b ≡ true → (a && b) ≡ true
both true b one two = two
both false b one two = absurd cc

-- ---- one entry

note_plain : (known : Names) (last : Option Place) (note : Note) → IsPlainNote note → is_plain (note_entry known last note) ≡ true
note_plain known last (notes.Made process None) p = refl
note_plain known last (notes.Made process (Some origin)) p = absurd p
note_plain known last (notes.Said by to epoch index said) p = by_target to p where
  by_target : (t : Target) → IsToProcess t → is_plain (note_entry known last (notes.Said by t epoch index said)) ≡ true
  by_target (targets.Process process) p = refl
  by_target (targets.Port port) p = absurd p
  by_target (targets.Named at name) p = absurd p
note_plain known last (notes.Again by to epoch) p = absurd p
note_plain known last (notes.Got from to (Some receiver)) p = by_target to p where
  by_target : (t : Target) → IsToProcess t → is_plain (note_entry known last (notes.Got from t (Some receiver))) ≡ true
  by_target (targets.Process process) p = refl
  by_target (targets.Port port) p = absurd p
  by_target (targets.Named at name) p = absurd p
note_plain known last (notes.Got from to None) p = absurd p
note_plain known last (notes.Took by None said) p = refl
note_plain known last (notes.Took by (Some port) said) p = absurd p
note_plain known last (notes.Port port) p = absurd p
note_plain known last (notes.Over process reason) p = refl
note_plain known last (notes.Doom process text) p = absurd p
note_plain known last (notes.Watch watch by target kind) p = absurd p
note_plain known last (notes.Unwatch watch) p = absurd p
note_plain known last (notes.Absent watch) p = absurd p
note_plain known last (notes.Told watch reason) p = absurd p
note_plain known last (notes.Asked question by at) p = absurd p
note_plain known last (notes.Spawned question process) p = absurd p
note_plain known last (notes.IsAt question found) p = absurd p
note_plain known last (notes.Named node name process) p = absurd p
note_plain known last (notes.Shut node) p = absurd p

-- what a step tells is plain, but where something breaks
step_plain : (place : ℕ) (cell : Cell) (step : Step) (world : World) → list_all is_no_break (stepped place cell step world).0 ≡ true → list_all is_plain (stepped place cell step world).0 ≡ true
step_plain place cell (steps.Dial sock end peer) world calm = refl
step_plain place cell (steps.Read sock) world calm = by_end (find_end place sock world.sockets) where
  by_end : (o : Option (SockName × End)) → list_all is_plain (elim o as (λ o. List Entry × World) [
    | None ↦ ([], world)
    | Some at ↦ reads_item at world
  ]).0 ≡ true
  by_end None = refl
  by_end (Some at) = refl
step_plain place cell (steps.Write sock bytes said) world calm = by_end (find_end place sock world.sockets) where
  by_end : (o : Option (SockName × End)) → list_all is_plain (elim o as (λ o. List Entry × World) [
    | None ↦ ([], world)
    | Some at ↦ (entries.Wrote at.0 at.1 bytes ∷ [], with_end_of at.0 (other at.1) (item_arrives bytes said) world)
  ]).0 ≡ true
  by_end None = refl
  by_end (Some at) = refl
step_plain place cell (steps.Up sock) world calm = by_end (find_end place sock world.sockets) where
  by_end : (o : Option (SockName × End)) → list_all is_plain (elim o as (λ o. List Entry × World) [
    | None ↦ ([], world)
    | Some at ↦ (entries.Up at.0 at.1 ∷ [], world)
  ]).0 ≡ true
  by_end None = refl
  by_end (Some at) = refl
step_plain place cell (steps.Down sock) world calm = by_end (find_end place sock world.sockets) calm where
  by_end : (o : Option (SockName × End)) → list_all is_no_break (elim o as (λ o. List Entry × World) [
    | None ↦ ([], world)
    | Some at ↦ (entries.Down at.0 at.1 ∷ [], end_closes at world)
  ]).0 ≡ true → list_all is_plain (elim o as (λ o. List Entry × World) [
    | None ↦ ([], world)
    | Some at ↦ (entries.Down at.0 at.1 ∷ [], end_closes at world)
  ]).0 ≡ true
  by_end None calm = refl
  by_end (Some at) calm = absurd cc
step_plain place cell (steps.Left sock) world calm = by_end (find_end place sock world.sockets) where
  by_end : (o : Option (SockName × End)) → list_all is_plain (elim o as (λ o. List Entry × World) [
    | None ↦ ([], world)
    | Some at ↦ (entries.Left at.0 at.1 ∷ [], end_closes at world)
  ]).0 ≡ true
  by_end None = refl
  by_end (Some at) = refl
step_plain place cell (steps.Broke end peer why) world calm = absurd cc
step_plain place cell (steps.Post end event) world calm = refl

-- ---- all that is told

pub told_plain : (place : ℕ) (cell : Cell) (told : List LocalEntry) (world : World) → AllPlainNotes told → list_all is_no_break (all_told place cell told world).0 ≡ true → list_all is_plain (all_told place cell told world).0 ≡ true
told_plain place cell [] world notes calm = refl
told_plain place cell (local.Note note ∷ rest) world all calm =
    let one = local_told place cell (local.Note note) world in
    let calm_rest = (and_parts (list_all is_no_break one.0) (list_all is_no_break (all_told place cell rest one.1).0) (sym (list_all-append is_no_break one.0 (all_told place cell rest one.1).0) ∙ calm)).1 in
    list_all-append is_plain one.0 (all_told place cell rest one.1).0 ∙ both (list_all is_plain one.0) (list_all is_plain (all_told place cell rest one.1).0) (ap (λ b. b && true) (note_plain world.names world.last note all.0)) (told_plain place cell rest one.1 all.1 calm_rest)
told_plain place cell (local.Step step ∷ rest) world all calm =
    let one = stepped place cell step world in
    let parts = and_parts (list_all is_no_break one.0) (list_all is_no_break (all_told place cell rest one.1).0) (sym (list_all-append is_no_break one.0 (all_told place cell rest one.1).0) ∙ calm) in
    list_all-append is_plain one.0 (all_told place cell rest one.1).0 ∙ both (list_all is_plain one.0) (list_all is_plain (all_told place cell rest one.1).0) (step_plain place cell step world parts.0) (told_plain place cell rest one.1 all parts.1)

-- ---- what acts tell

notes_append : (xs ys : List LocalEntry) → AllPlainNotes xs → AllPlainNotes ys → AllPlainNotes (xs ++ ys)
notes_append [] ys one two = two
notes_append (local.Note note ∷ xs) ys one two = (one.0, notes_append xs ys one.1 two)
notes_append (local.Step step ∷ xs) ys one two = notes_append xs ys one two

pub no_notes : (done : List Step) → AllPlainNotes (told_steps done)
no_notes [] = tt
no_notes (step ∷ rest) = no_notes rest

abbrev AllNoted : Followed → Type 0
AllNoted (Ok done) = AllPlainNotes done.0
AllNoted (Err stop) = Unit {0}

asked_noted : (cell : Cell) (r : Result (List Step × HostState) EndError) → AllNoted (asked cell r)
asked_noted cell (Ok done) = no_notes done.0
asked_noted cell (Err errors.Worn) = tt
asked_noted cell (Err errors.OutOfMemory) = tt
asked_noted cell (Err errors.NoEndPoint) = tt
asked_noted cell (Err errors.NoConnection) = tt
asked_noted cell (Err errors.QueueFull) = tt
asked_noted cell (Err errors.PayloadLong) = tt
asked_noted cell (Err errors.Spent) = tt

noted_then : (one : Followed) (f : Cell → Followed) → AllNoted one → ((next : Cell) → AllNoted (f next)) → AllNoted (one then f)
noted_then (Ok one) f a each = from (f one.1) (each one.1) where
  from : (more : Followed) → AllNoted more → AllNoted (after_entries one.0 more)
  from (Ok more) b = notes_append one.0 more.0 a b
  from (Err stop) b = tt
noted_then (Err stop) f a each = tt

-- of acts of which each note is plain
abbrev TellPlainly : List Act → Type 0
TellPlainly [] = Unit {0}
TellPlainly (acts.Note note ∷ rest) = IsPlainNote note × TellPlainly rest
TellPlainly (act ∷ rest) = TellPlainly rest

tell_plainly : (own : Address) (done : List Act) → ArePlain own done → TellPlainly done
tell_plainly own [] p = tt
tell_plainly own (acts.Note note ∷ rest) p = (p.0, tell_plainly own rest p.1)
tell_plainly own (acts.Open conn peer ∷ []) p = absurd p
tell_plainly own (acts.Open conn peer ∷ acts.Put on payload weight ∷ rest) p = tell_plainly own rest p.1
tell_plainly own (acts.Open conn peer ∷ acts.Note note ∷ rest) p = absurd p
tell_plainly own (acts.Open conn peer ∷ acts.Open c at ∷ rest) p = absurd p
tell_plainly own (acts.Open conn peer ∷ acts.Close c ∷ rest) p = absurd p
tell_plainly own (acts.Put conn payload weight ∷ rest) p = tell_plainly own rest p.1
tell_plainly own (acts.Close conn ∷ rest) p = tell_plainly own rest p

acts_noted : (end : ℕ) (done : List Act) (cell : Cell) → TellPlainly done → AllNoted (acts_on end done cell)
acts_noted end [] cell p = tt
acts_noted end (acts.Note note ∷ rest) cell p = noted_then (act_on end (acts.Note note) cell) (acts_on end rest) (p.0, tt) (λ next. acts_noted end rest next p.1)
acts_noted end (acts.Open conn peer ∷ rest) cell p = noted_then (act_on end (acts.Open conn peer) cell) (acts_on end rest) (asked_noted cell (host_connect cell.host end peer conn)) (λ next. acts_noted end rest next p)
acts_noted end (acts.Put conn payload weight ∷ rest) cell p = noted_then (act_on end (acts.Put conn payload weight) cell) (acts_on end rest) (asked_noted cell (host_send cell.host end conn payload weight)) (λ next. acts_noted end rest next p)
acts_noted end (acts.Close conn ∷ rest) cell p = noted_then (act_on end (acts.Close conn) cell) (acts_on end rest) (asked_noted cell (host_close cell.host end conn)) (λ next. acts_noted end rest next p)

-- what the acts of a plain node tell
pub plain_told : (own : Address) (end : ℕ) (done : List Act) (cell : Cell) (told : List LocalEntry) (after : Cell) → ArePlain own done → acts_on end done cell ≡ Ok (told, after) → AllPlainNotes told
plain_told own end done cell told after p e = by_done (acts_on end done cell) e (acts_noted end done cell (tell_plainly own done p)) where
  by_done : (r : Followed) → r ≡ Ok (told, after) → AllNoted r → AllPlainNotes told
  by_done (Ok done) e a = let is : done.0 ≡ told = cc in subst AllPlainNotes is a
  by_done (Err stop) e a = absurd cc
