-- What is told at a cell stands in the log with the numbers of its pairs.
use Rattle.std.proofs.Common.{◌≡◌, ℕ, ◌+◌, Bool, true, false, cond, not, ◌&&◌, ◌||◌, List, [], ◌∷◌, ◌++◌, refl, sym, ap, ◌∙◌, subst, ◌==◌, append_assoc}
use Rattle.std.proofs.lemmas.Bool.{eqb-true, and_parts}
use Rattle.std.proofs.lemmas.List.{append-nil}
use Rattle.std.specs.Prelude.{find, count_by, Option, Some, None}
use Rattle.ch_ident.specs.declared.identifier.ProcessId.{ProcessId}
use Rattle.ch_static.specs.declared.target.Target.TheVariants as targets
use Rattle.ch_model.specs.declared.entry.Entry.{Entry}
use Rattle.ch_model.specs.declared.entry.Entry.TheVariants as entries
use Rattle.ch_model.specs.declared.local.LocalEntry.{LocalEntry}
use Rattle.ch_model.specs.declared.local.LocalEntry.TheVariants as local
use Rattle.ch_model.specs.declared.name.End.{End}
use Rattle.ch_model.specs.declared.name.ProcName.{ProcName}
use Rattle.ch_model.specs.declared.name.SockName.{SockName}
use Rattle.ch_model.specs.declared.name.TargetName.{TargetName}
use Rattle.ch_model.specs.declared.name.TargetName.TheVariants as names
use Rattle.ch_model.specs.declared.note.Note.{Note}
use Rattle.ch_model.specs.declared.note.Note.TheVariants as notes
use Rattle.ch_model.specs.declared.step.Place.{Place}
use Rattle.ch_model.specs.declared.step.Step.{Step}
use Rattle.ch_model.specs.declared.step.Step.TheVariants as steps
use Rattle.ch_model.specs.Epochs.{says_in, reconnects, index_of, is_said_in_epoch, has_next_index, begins_next_epoch}
use Rattle.ch_model.specs.Naming.{Names, process_as, process_called}
use Rattle.ch_model.specs.Same.{same_process}
use Rattle.ch_model.specs.WorldSockets.{other, item_arrives, is_socket_named, find_end, with_end_of, ended, with_end, end_of, with_socket}
use Rattle.ch_model.specs.WorldState.{Cell, WorldEnd, WorldSocket, World}
use Rattle.ch_model.specs.WorldSteps.{note_entry, later_places, on_end, item_is_read, reads_item, end_closes, stepped, local_told, all_told}
use Rattle.ch_laws_log.proofs.Stored.{number_same, bytes_same}
use Rattle.ch_laws_one_node.proofs.Appending.{count_same, count_next}
use Rattle.ch_laws_epochs.specs.Numbers.{is_between, after_note, is_next, Numbers, notes_in}
use Rattle.ch_laws_epochs.proofs.Numbered.{AllNotes}

-- ---- entries of no message

abbrev pub is_plain : Entry → Bool
is_plain (entries.Said by to epoch index mark body) = false
is_plain (entries.Again by to epoch) = false
is_plain entry = true

abbrev pub ArePlain : List Entry → Type 0
ArePlain [] = Unit {0}
ArePlain (entry ∷ rest) = (is_plain entry ≡ true) × ArePlain rest

no_reconnect : (p : ProcName) (d : TargetName) (x : Entry) → is_plain x ≡ true → reconnects p d x ≡ false
no_reconnect p d (entries.Again by to epoch) h = absurd cc
no_reconnect p d x h = refl

no_said : (p : ProcName) (d : TargetName) (n : ℕ) (x : Entry) → is_plain x ≡ true → says_in p d n x ≡ false
no_said p d n (entries.Said by to epoch index mark body) h = absurd cc
no_said p d n x h = refl

at_end : (place sock : ℕ) (f : SockName × End → World → List Entry × World) (world : World) → ((at : SockName × End) → ArePlain (f at world).0) → ArePlain (on_end place sock f world).0
at_end place sock f world each = by_end (find_end place sock world.sockets) where
  by_end : (o : Option (SockName × End)) → ArePlain (elim o as (λ o. List Entry × World) [
    | None ↦ ([], world)
    | Some at ↦ f at world
  ]).0
  by_end None = tt
  by_end (Some at) = each at

step_plain : (place : ℕ) (cell : Cell) (step : Step) (world : World) → ArePlain (stepped place cell step world).0
step_plain place cell (steps.Dial sock end peer) world = (refl, tt)
step_plain place cell (steps.Read sock) world = at_end place sock reads_item world (λ at. tt)
step_plain place cell (steps.Write sock bytes said) world = at_end place sock (λ at now. (entries.Wrote at.0 at.1 bytes ∷ [], with_end_of at.0 (other at.1) (item_arrives bytes said) now)) world (λ at. (refl, tt))
step_plain place cell (steps.Up sock) world = at_end place sock (λ at now. (entries.Up at.0 at.1 ∷ [], now)) world (λ at. (refl, tt))
step_plain place cell (steps.Down sock) world = at_end place sock (λ at now. (entries.Down at.0 at.1 ∷ [], end_closes at now)) world (λ at. (refl, tt))
step_plain place cell (steps.Left sock) world = at_end place sock (λ at now. (entries.Left at.0 at.1 ∷ [], end_closes at now)) world (λ at. (refl, tt))
step_plain place cell (steps.Broke end peer why) world = (refl, tt)
step_plain place cell (steps.Post end event) world = tt

-- ---- the names stay

pub end_names : (n : SockName) (e : End) (f : WorldEnd → WorldEnd) (world : World) → (with_end_of n e f world).names ≡ world.names
end_names n e f world = by_socket (find (is_socket_named n) world.sockets) where
  by_socket : (o : Option WorldSocket) → (elim o as (λ o. World) [
    | None ↦ world
    | Some socket ↦ with_socket (with_end e (f (end_of e socket)) socket) world
  ]).names ≡ world.names
  by_socket None = refl
  by_socket (Some socket) = refl

names_at_end : (place sock : ℕ) (f : SockName × End → World → List Entry × World) (world : World) → ((at : SockName × End) → (f at world).1.names ≡ world.names) → (on_end place sock f world).1.names ≡ world.names
names_at_end place sock f world each = by_end (find_end place sock world.sockets) where
  by_end : (o : Option (SockName × End)) → (elim o as (λ o. List Entry × World) [
    | None ↦ ([], world)
    | Some at ↦ f at world
  ]).1.names ≡ world.names
  by_end None = refl
  by_end (Some at) = each at

read_names : (at : SockName × End) (o : Option WorldSocket) (world : World) → (item_is_read at o world).names ≡ world.names
read_names at None world = refl
read_names at (Some socket) world = end_names at.0 at.1 (λ end. record end { places = later_places end.places }) world

step_names : (place : ℕ) (cell : Cell) (step : Step) (world : World) → (stepped place cell step world).1.names ≡ world.names
step_names place cell (steps.Dial sock end peer) world = refl
step_names place cell (steps.Read sock) world = names_at_end place sock reads_item world (λ at. read_names at (find (is_socket_named at.0) world.sockets) world)
step_names place cell (steps.Write sock bytes said) world = names_at_end place sock (λ at now. (entries.Wrote at.0 at.1 bytes ∷ [], with_end_of at.0 (other at.1) (item_arrives bytes said) now)) world (λ at. end_names at.0 (other at.1) (item_arrives bytes said) world)
step_names place cell (steps.Up sock) world = names_at_end place sock (λ at now. (entries.Up at.0 at.1 ∷ [], now)) world (λ at. refl)
step_names place cell (steps.Down sock) world = names_at_end place sock (λ at now. (entries.Down at.0 at.1 ∷ [], end_closes at now)) world (λ at. end_names at.0 at.1 ended world)
step_names place cell (steps.Left sock) world = names_at_end place sock (λ at now. (entries.Left at.0 at.1 ∷ [], end_closes at now)) world (λ at. end_names at.0 at.1 ended world)
step_names place cell (steps.Broke end peer why) world = refl
step_names place cell (steps.Post end event) world = refl

-- ---- the log, an entry at a time

-- the entry is numbered by the log before it
abbrev pub Fits : List Entry → Entry → Type 0
Fits log x = (is_said_in_epoch log x ≡ true) × (has_next_index log x ≡ true) × (begins_next_epoch log x ≡ true)

abbrev pub AllFit : List Entry → List Entry → Type 0
AllFit log [] = Unit {0}
AllFit log (x ∷ rest) = Fits log x × AllFit (log ++ x ∷ []) rest

pub fit_both : (log xs ys : List Entry) → AllFit log xs → AllFit (log ++ xs) ys → AllFit log (xs ++ ys)
fit_both log [] ys a b = subst (λ (l : List Entry). AllFit l ys) (append-nil log) b
fit_both log (x ∷ xs) ys a b = (a.0, fit_both (log ++ x ∷ []) xs ys a.1 (subst (λ (l : List Entry). AllFit l ys) (sym (append_assoc log (x ∷ []) xs)) b))

plain_fits : (log : List Entry) (x : Entry) → is_plain x ≡ true → Fits log x
plain_fits log (entries.Said by to epoch index mark body) h = absurd cc
plain_fits log (entries.Again by to epoch) h = absurd cc
plain_fits log x h = (refl, refl, refl)

-- how many messages of the first epoch the pair has
abbrev pub told_of : List Entry → ProcName → ProcName → ℕ
told_of log p q = index_of log p (names.Process q) 0

abbrev pub NoneAgain : List Entry → Type 0
NoneAgain log = (p : ProcName) (d : TargetName) → count_by (reconnects p d) log ≡ 0

pub plain_none : (log : List Entry) (x : Entry) → is_plain x ≡ true → NoneAgain log → NoneAgain (log ++ x ∷ [])
plain_none log x h n p d = count_same (reconnects p d) log x (no_reconnect p d x h) ∙ n p d

pub plain_told : (log : List Entry) (x : Entry) (p q : ProcName) → is_plain x ≡ true → told_of (log ++ x ∷ []) p q ≡ told_of log p q
plain_told log x p q h = count_same (says_in p (names.Process q) 0) log x (no_said p (names.Process q) 0 x h)

module _ (known : Names) (who : ProcName → ProcessId) (D : ProcName → ProcName → Type 0) (Off : ProcName → Type 0) where
  -- the note is of a pair that is looked at, and of no other
  abbrev pub IsOfThese : Note → Type 0
  IsOfThese (notes.Said sender (targets.Process t) epoch index message) = D (process_called known sender) (process_called known t)
      × ((p q : ProcName) → D p q → is_between (who p) (process_as known q) sender (targets.Process t) ≡ (same_process (process_called known sender) p && same_process (process_called known t) q))
      × ((p : ProcName) → Off p → same_process (process_called known sender) p ≡ false)
  IsOfThese (notes.Said sender target epoch index message) = ⊥
  IsOfThese (notes.Again sender target epoch) = ⊥
  IsOfThese note = Unit {0}

  abbrev pub Stand : List Entry → (ProcName → ProcName → ℕ × ℕ) → Type 0
  Stand log f = NoneAgain log × ((p q : ProcName) → D p q → f p q ≡ (0, told_of log p q))

  abbrev pub Walked : List Entry → List Entry → (ProcName → ProcName → ℕ × ℕ) → Type 0
  Walked log xs g = AllFit log xs × Stand (log ++ xs) g × ((p q : ProcName) → Off p → told_of (log ++ xs) p q ≡ told_of log p q)

  joined : (log xs ys : List Entry) (f g : ProcName → ProcName → ℕ × ℕ) → Walked log xs f → Walked (log ++ xs) ys g → Walked log (xs ++ ys) g
  joined log xs ys f g a b = (fit_both log xs ys a.0 b.0, subst (λ (l : List Entry). Stand l g) (append_assoc log xs ys) b.1, λ p q off. ap (λ (l : List Entry). told_of l p q) (sym (append_assoc log xs ys)) ∙ b.2 p q off ∙ a.2 p q off)

  nothing : (log : List Entry) (f g : ProcName → ProcName → ℕ × ℕ) → Stand log f → ((p q : ProcName) → D p q → g p q ≡ f p q) → Walked log [] g
  nothing log f g s e = (tt, subst (λ (l : List Entry). Stand l g) (sym (append-nil log)) (s.0, λ p q d. e p q d ∙ s.1 p q d), λ p q off. ap (λ (l : List Entry). told_of l p q) (append-nil log))

  plain_one : (log : List Entry) (x : Entry) (f : ProcName → ProcName → ℕ × ℕ) → is_plain x ≡ true → Stand log f → Walked log (x ∷ []) f
  plain_one log x f h s = ((plain_fits log x h, tt), (plain_none log x h s.0, λ p q d. s.1 p q d ∙ ap (λ (n : ℕ). (0, n)) (sym (plain_told log x p q h))), λ p q off. plain_told log x p q h)

  plain_all : (log xs : List Entry) (f : ProcName → ProcName → ℕ × ℕ) → ArePlain xs → Stand log f → Walked log xs f
  plain_all log [] f h s = nothing log f f s (λ p q d. refl)
  plain_all log (x ∷ xs) f h s = let one = plain_one log x f h.0 s in joined log (x ∷ []) xs f f one (plain_all (log ++ x ∷ []) xs f h.1 one.1)

  self : (p : ProcName) → same_process p p ≡ true
  self p = ap (λ b. b && p.counter == p.counter) (bytes_same p.node) ∙ number_same p.counter

  both_true : (a b : Bool) → a ≡ true → b ≡ true → (a && b) ≡ true
  both_true true b h g = g
  both_true false b h g = h

  -- one note
  one_note : (log : List Entry) (last : Option Place) (note : Note) (f : ProcName → ProcName → ℕ × ℕ) → Stand log f → IsOfThese note → ((p q : ProcName) → D p q → is_next (who p) (process_as known q) note (f p q) ≡ true)
      → Walked log (note_entry known last note ∷ []) (λ p q. after_note (who p) (process_as known q) note (f p q))
  one_note log last (notes.Said sender (targets.Port port) epoch index message) f s o n = absurd o
  one_note log last (notes.Said sender (targets.Named at name) epoch index message) f s o n = absurd o
  one_note log last (notes.Again sender target epoch) f s o n = absurd o
  one_note log last (notes.Said sender (targets.Process t) epoch index message) f s o n =
      let sure = by_next (is_between (who b) (process_as known d) sender (targets.Process t)) (f b d) (o.1 b d o.0 ∙ both_true (same_process b b) (same_process d d) (self b) (self d)) (s.1 b d o.0) (n b d o.0) in (
        ((ap (λ (m : ℕ). epoch == m) (s.0 b (names.Process d)) ∙ sure.0, ap (λ (m : ℕ). index == index_of log b (names.Process d) m) (eqb-true epoch 0 sure.0) ∙ sure.1, refl), tt),
        (
          λ p to. count_same (reconnects p to) log (entries.Said b (names.Process d) epoch index message.mark message.body) refl ∙ s.0 p to,
          λ p q dd. by_tests p q sure.0 (same_process b p && same_process d q) refl (is_between (who p) (process_as known q) sender (targets.Process t)) (o.1 p q dd) (s.1 p q dd),
        ),
        λ p q off. count_same (says_in p (names.Process q) 0) log (entries.Said b (names.Process d) epoch index message.mark message.body) (ap (λ x. x && same_process d q && epoch == 0) (o.2 p off)),
      )
    where
      b : ProcName
      b = process_called known sender

      d : ProcName
      d = process_called known t

      by_next : (x : Bool) (m : ℕ × ℕ) → x ≡ true → m ≡ (0, told_of log b d) → (not x || (epoch == m.0 && index == m.1)) ≡ true → ((epoch == 0) ≡ true) × ((index == told_of log b d) ≡ true)
      by_next true m h e g = and_parts (epoch == 0) (index == told_of log b d) (sym (ap (λ (k : ℕ × ℕ). epoch == k.0 && index == k.1) e) ∙ g)
      by_next false m h e g = absurd (clash h)
        where
          clash : false ≡ true → ⊥
          clash h = cc

      by_tests : (p q : ProcName) → (epoch == 0) ≡ true → (w : Bool) → (same_process b p && same_process d q) ≡ w → (x : Bool) → x ≡ (same_process b p && same_process d q) → f p q ≡ (0, told_of log p q)
          → cond x ((f p q).0, (f p q).1 + 1) (f p q) ≡ (0, told_of (log ++ entries.Said b (names.Process d) epoch index message.mark message.body ∷ []) p q)
      by_tests p q zero_is true h x hx e = ap (λ c. cond c ((f p q).0, (f p q).1 + 1) (f p q)) (hx ∙ h) ∙ ap (λ (k : ℕ × ℕ). (k.0, k.1 + 1)) e
          ∙ ap (λ (k : ℕ). (0, k)) (sym (count_next (says_in p (names.Process q) 0) log (entries.Said b (names.Process d) epoch index message.mark message.body) (both_true (same_process b p && same_process d q) (epoch == 0) h zero_is)))
      by_tests p q zero_is false h x hx e = ap (λ c. cond c ((f p q).0, (f p q).1 + 1) (f p q)) (hx ∙ h) ∙ e
          ∙ ap (λ (k : ℕ). (0, k)) (sym (count_same (says_in p (names.Process q) 0) log (entries.Said b (names.Process d) epoch index message.mark message.body) (ap (λ y. y && epoch == 0) h)))
  one_note log last note f s o n = plain_one log (note_entry known last note) f refl s

  -- all that is told
  pub walk : (place : ℕ) (cell : Cell) (told : List LocalEntry) (world : World) (log : List Entry) (f g : ProcName → ProcName → ℕ × ℕ) → world.names ≡ known → Stand log f
      → ((p q : ProcName) → D p q → Numbers (who p) (process_as known q) (notes_in told) (f p q) (g p q)) → AllNotes IsOfThese (notes_in told) → Walked log (all_told place cell told world).0 g
  walk place cell [] world log f g e s n o = nothing log f g s n
  walk place cell (local.Step step ∷ rest) world log f g e s n o =
      let one = plain_all log (stepped place cell step world).0 f (step_plain place cell step world) s in
      joined log (stepped place cell step world).0 (all_told place cell rest (stepped place cell step world).1).0 f g one
      (walk place cell rest (stepped place cell step world).1 (log ++ (stepped place cell step world).0) f g (step_names place cell step world ∙ e) one.1 n o)
  walk place cell (local.Note note ∷ rest) world log f g e s n o =
      let next = (λ (p q : ProcName). after_note (who p) (process_as known q) note (f p q)) in
      let one = subst (λ (ns : Names). Walked log (note_entry ns world.last note ∷ []) next) (sym e) (one_note log world.last note f s o.0 (λ p q d. (n p q d).0)) in
      joined log (note_entry world.names world.last note ∷ []) (all_told place cell rest (local_told place cell (local.Note note) world).1).0 next g one
      (walk place cell rest (local_told place cell (local.Note note) world).1 (log ++ note_entry world.names world.last note ∷ []) next g e one.1 (λ p q d. (n p q d).1) o.1)

pub told_names : (place : ℕ) (cell : Cell) (told : List LocalEntry) (world : World) → (all_told place cell told world).1.names ≡ world.names
told_names place cell [] world = refl
told_names place cell (local.Note note ∷ rest) world = told_names place cell rest (local_told place cell (local.Note note) world).1
told_names place cell (local.Step step ∷ rest) world = told_names place cell rest (local_told place cell (local.Step step) world).1 ∙ step_names place cell step world
