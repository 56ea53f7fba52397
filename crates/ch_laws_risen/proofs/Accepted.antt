-- In a log a target's end writes the accepting answer only where it came up.
use Rattle.std.proofs.Common.{◌≡◌, ◌⊎◌, inl, inr, ℕ, ◌+◌, ◌*◌, Bool, true, false, not, ◌||◌, List, [], ◌∷◌, ◌++◌, length, refl, sym, ap, ◌∙◌, subst}
use Rattle.std.proofs.lemmas.List.Folds.{list_any-append}
use Rattle.std.specs.List.{list_any}
use Rattle.std.specs.Prelude.{Option, Some, None}
use Rattle.std.specs.Str.{bytes_eq}
use Rattle.ch_wire.specs.Spelling.{answer_spelling}
use Rattle.ch_wire.specs.declared.answer.Answer.TheVariants as answers
use Rattle.ch_model.specs.declared.entry.Entry.{Entry}
use Rattle.ch_model.specs.declared.entry.Entry.TheVariants as entries
use Rattle.ch_model.specs.declared.line.Line.{Line}
use Rattle.ch_model.specs.declared.name.End.{End}
use Rattle.ch_model.specs.declared.name.End.TheVariants.{O, T}
use Rattle.ch_model.specs.declared.name.SockName.{SockName}
use Rattle.ch_model.specs.declared.note.Note.{Note}
use Rattle.ch_model.specs.declared.note.Note.TheVariants as notes
use Rattle.ch_model.specs.declared.step.Place.{Place}
use Rattle.ch_model.specs.declared.step.SocketEvent.TheVariants as sockets
use Rattle.ch_model.specs.declared.step.Step.{Step}
use Rattle.ch_model.specs.declared.step.Step.TheVariants as steps
use Rattle.ch_model.specs.CellSteps.{told_steps}
use Rattle.ch_model.specs.Links.{rises, has_risen}
use Rattle.ch_model.specs.Logs.{each, each_after}
use Rattle.ch_model.specs.Naming.{Names}
use Rattle.ch_model.specs.WorldHappenings.{with_cell}
use Rattle.ch_model.specs.WorldSockets.{other, item_arrives, with_end_of, find_end}
use Rattle.ch_model.specs.WorldState.{Cell, WorldSocket, World}
use Rattle.ch_model.specs.WorldSteps.{note_entry, reads_item, end_closes, stepped, all_told}
use Rattle.ch_laws_log.proofs.Blocks.{each_append}
use Rattle.ch_laws_log.proofs.Stored.{self_same}
use Rattle.ch_laws_calls.specs.Calls.{Anything, KeepsCalls, with_host}
use Rattle.ch_laws_risen.specs.Risings.{MayWrite, AcceptsAfter, accepted_risen}
use Rattle.ch_laws_risen.proofs.Accepts.{next_accepts, on_accepts, connect_accepts, send_accepts, close_accepts}
use Rattle.ch_laws_risen.proofs.Logs.{both, same_itself}
use Rattle.ch_laws_risen.proofs.Told.{at_end_told}

-- the end under this number, if one is given, came up by the log
abbrev Just : Option ℕ → ℕ → List Entry → List WorldSocket → Type 0
Just last place log sockets = (sock : ℕ) (at : SockName × End) → last ≡ Some sock → find_end place sock sockets ≡ Some at → has_risen log at.0 at.1 ≡ true

-- where a link came up by a step
abbrev risen_by : Step → Option ℕ
risen_by (steps.Up sock) = Some sock
risen_by step = None

or_last : (a : Bool) → (a || true) ≡ true
or_last true = refl
or_last false = refl

accepts_rest : (last : Option ℕ) (step : Step) (rest : List Step) → AcceptsAfter last (step ∷ rest) → AcceptsAfter (risen_by step) rest
accepts_rest last (steps.Up sock) rest a = a
accepts_rest last (steps.Write sock bytes said) rest a = a.1
accepts_rest last (steps.Dial sock end peer) rest a = a
accepts_rest last (steps.Read sock) rest a = a
accepts_rest last (steps.Down sock) rest a = a
accepts_rest last (steps.Left sock) rest a = a
accepts_rest last (steps.Broke end peer why) rest a = a
accepts_rest last (steps.Post end event) rest a = a

wrote_passes : (log : List Entry) (s : SockName) (e : End) (bytes : List ℕ) → (e ≡ T → (bytes_eq bytes (answer_spelling answers.Accepted) ≡ false) ⊎ (has_risen log s e ≡ true)) → accepted_risen log (entries.Wrote s e bytes) ≡ true
wrote_passes log s O bytes may = refl
wrote_passes log s T bytes may = by_case (may refl) where
  by_case : (bytes_eq bytes (answer_spelling answers.Accepted) ≡ false) ⊎ (has_risen log s T ≡ true) → (not (bytes_eq bytes (answer_spelling answers.Accepted)) || has_risen log s T) ≡ true
  by_case (inl e) = ap (λ b. not b || has_risen log s T) e
  by_case (inr r) = ap (λ b. not (bytes_eq bytes (answer_spelling answers.Accepted)) || b) r ∙ or_last (not (bytes_eq bytes (answer_spelling answers.Accepted)))

write_passes : (log : List Entry) (place sock : ℕ) (bytes : List ℕ) (world : World) (last : Option ℕ) (f : SockName × End → World → World) → MayWrite last sock bytes → Just last place log world.sockets → (o : Option (SockName × End)) → find_end place sock world.sockets ≡ o → each_after accepted_risen log (elim o as (λ o. List Entry × World) [
  | None ↦ ([], world)
  | Some at ↦ (entries.Wrote at.0 at.1 bytes ∷ [], f at world)
]).0 ≡ true
write_passes log place sock bytes world last f may just None e = refl
write_passes log place sock bytes world last f may just (Some at) e = both (accepted_risen log (entries.Wrote at.0 at.1 bytes)) true (wrote_passes log at.0 at.1 bytes (λ t. by_case may)) refl where
  by_case : MayWrite last sock bytes → (bytes_eq bytes (answer_spelling answers.Accepted) ≡ false) ⊎ (has_risen log at.0 at.1 ≡ true)
  by_case (inl x) = inl x
  by_case (inr x) = inr (just sock at x e)

step_passes : (log : List Entry) (place : ℕ) (cell : Cell) (step : Step) (world : World) (last : Option ℕ) (rest : List Step) → AcceptsAfter last (step ∷ rest) → Just last place log world.sockets → each_after accepted_risen log (stepped place cell step world).0 ≡ true
step_passes log place cell (steps.Write sock bytes said) world last rest a just = write_passes log place sock bytes world last (λ at now. with_end_of at.0 (other at.1) (item_arrives bytes said) now) a.0 just (find_end place sock world.sockets) refl
step_passes log place cell (steps.Dial sock end peer) world last rest a just = refl
step_passes log place cell (steps.Read sock) world last rest a just = at_end_told (λ l. each_after accepted_risen log l ≡ true) place sock reads_item world (λ at. refl) refl
step_passes log place cell (steps.Up sock) world last rest a just = at_end_told (λ l. each_after accepted_risen log l ≡ true) place sock (λ at now. (entries.Up at.0 at.1 ∷ [], now)) world (λ at. refl) refl
step_passes log place cell (steps.Down sock) world last rest a just = at_end_told (λ l. each_after accepted_risen log l ≡ true) place sock (λ at now. (entries.Down at.0 at.1 ∷ [], end_closes at now)) world (λ at. refl) refl
step_passes log place cell (steps.Left sock) world last rest a just = at_end_told (λ l. each_after accepted_risen log l ≡ true) place sock (λ at now. (entries.Left at.0 at.1 ∷ [], end_closes at now)) world (λ at. refl) refl
step_passes log place cell (steps.Broke end peer why) world last rest a just = refl
step_passes log place cell (steps.Post end event) world last rest a just = refl

-- an end that came up by the last entry
up_just : (log : List Entry) (place sock : ℕ) (world : World) (o : Option (SockName × End)) → find_end place sock world.sockets ≡ o → let one : List Entry × World = (elim o as (λ o. List Entry × World) [
  | None ↦ ([], world)
  | Some at ↦ (entries.Up at.0 at.1 ∷ [], world)
]) in Just (Some sock) place (log ++ one.0) one.1.sockets
up_just log place sock world None e n at is found = let clash : ◌≡◌ {A = Option (SockName × End)} None (Some at) = sym e ∙ subst (λ (k : ℕ). find_end place k world.sockets ≡ Some at) (sym (same_number is)) found in absurd cc where
  same_number : ◌≡◌ {A = Option ℕ} (Some sock) (Some n) → sock ≡ n
  same_number e = cc
up_just log place sock world (Some a) e n at is found = list_any-append (rises at.0 at.1) log (entries.Up a.0 a.1 ∷ []) ∙ ap (λ b. list_any (rises at.0 at.1) log || (b || false)) risen ∙ or_last (list_any (rises at.0 at.1) log) where
  same_number : ◌≡◌ {A = Option ℕ} (Some sock) (Some n) → sock ≡ n
  same_number e = cc

  same_end_of : ◌≡◌ {A = Option (SockName × End)} (Some a) (Some at) → a ≡ at
  same_end_of e = cc

  same : a ≡ at
  same = same_end_of (sym e ∙ subst (λ (k : ℕ). find_end place k world.sockets ≡ Some at) (sym (same_number is)) found)

  risen : rises at.0 at.1 (entries.Up a.0 a.1) ≡ true
  risen = subst (λ (x : SockName × End). rises at.0 at.1 (entries.Up x.0 x.1) ≡ true) (sym same) (both _ _ (self_same at.0) (same_itself at.1))

next_just : (log : List Entry) (place : ℕ) (cell : Cell) (step : Step) (world : World) → Just (risen_by step) place (log ++ (stepped place cell step world).0) (stepped place cell step world).1.sockets
next_just log place cell (steps.Up sock) world n at e found = up_just log place sock world (find_end place sock world.sockets) refl n at e found
next_just log place cell (steps.Write sock bytes said) world n at e found = absurd cc
next_just log place cell (steps.Dial sock end peer) world n at e found = absurd cc
next_just log place cell (steps.Read sock) world n at e found = absurd cc
next_just log place cell (steps.Down sock) world n at e found = absurd cc
next_just log place cell (steps.Left sock) world n at e found = absurd cc
next_just log place cell (steps.Broke end peer why) world n at e found = absurd cc
next_just log place cell (steps.Post end event) world n at e found = absurd cc

told_passes : (log : List Entry) (place : ℕ) (cell : Cell) (told : List Step) (world : World) (last : Option ℕ) → AcceptsAfter last told → Just last place log world.sockets → each_after accepted_risen log (all_told place cell (told_steps told) world).0 ≡ true
told_passes log place cell [] world last a just = refl
told_passes log place cell (step ∷ rest) world last a just = let one = stepped place cell step world in
    each_append accepted_risen log one.0 (all_told place cell (told_steps rest) one.1).0 (step_passes log place cell step world last rest a just)
    (told_passes (log ++ one.0) place cell rest one.1 (risen_by step) (accepts_rest last step rest a) (next_just log place cell step world))

-- ---- all that happens

note_passes : (log : List Entry) (known : Names) (last : Option Place) (note : Note) → each_after accepted_risen log (note_entry known last note ∷ []) ≡ true
note_passes log known last (notes.Made process origin) = refl
note_passes log known last note = refl

called : (log : List Entry) (world : World) (place : ℕ) (cell : Cell × ℕ) (told : List Step) (after : Cell) → AcceptsAfter None told → each_after accepted_risen log (all_told place after (told_steps told) (with_cell place (after, cell.1) world)).0 ≡ true
called log world place cell told after a = told_passes log place after told (with_cell place (after, cell.1) world) None a (λ n at e found. absurd cc)

pub accepts_kept : (journal : List Line) → KeepsCalls journal Anything Anything (λ log world. each accepted_risen log ≡ true)
accepts_kept journal = record {
  marked = λ log world number answer p k q. each_append accepted_risen [] log (entries.Line number answer ∷ []) k refl;
  noted = λ log world note p k q. each_append accepted_risen [] log (note_entry world.names world.last note ∷ []) k (note_passes log world.names world.last note);
  seated = λ log world place cell nodes at seats p k q. k;
  connected = λ log world place cell end peer conn steps host at does p k q. each_append accepted_risen [] log _ k (called log world place cell steps (with_host cell host) (connect_accepts cell.0.host host end peer conn steps does));
  sent = λ log world place cell end conn payload weight steps host at does p k q. each_append accepted_risen [] log _ k (called log world place cell steps (with_host cell host) (send_accepts cell.0.host host end conn payload weight steps does));
  closed = λ log world place cell end conn steps host at does p k q. each_append accepted_risen [] log _ k (called log world place cell steps (with_host cell host) (close_accepts cell.0.host host end conn steps does));
  joined = λ log world socket place n cell steps host is may held c all p k q. each_append accepted_risen [] log _ k (called (log ++ entries.Joined socket.name ∷ []) _ place cell steps (with_host cell host) (on_accepts cell.0.host host (sockets.Joined n) steps c.does));
  came = λ log world socket place cell steps host is may led c all p k q. each_append accepted_risen [] log _ k (called (log ++ entries.Came socket.name ∷ []) _ place (cell.0, cell.1 + 1) steps (with_host cell host) (on_accepts cell.0.host host (sockets.Came (2 * cell.1 + 1) socket.from_host) steps c.does));
  fed = λ log world socket which count b bytes place n cell steps host is may takes held c all p k q. each_append accepted_risen [] log _ k (called (log ++ entries.Fed socket.name which (length (b ∷ bytes)) ∷ []) _ place cell steps (with_host cell host) (on_accepts cell.0.host host (sockets.Fed n (b ∷ bytes)) steps c.does));
  ended = λ log world socket which place n cell steps host is may none held c all p k q. each_append accepted_risen [] log _ k (called (log ++ entries.Fed socket.name which 0 ∷ []) _ place cell steps (with_host cell host) (on_accepts cell.0.host host (sockets.Ended n) steps c.does));
  item = λ log world place cell steps host at does p k q. each_append accepted_risen [] log _ k (called log world place cell steps (with_host cell host) (next_accepts cell.0.host host steps does));
}
