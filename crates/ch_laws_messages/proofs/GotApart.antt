-- What is told that says and gets nothing within a node: as many messages of each pair there are got in it as are said.
use Rattle.std.proofs.Common.{◌≡◌, ℕ, ◌+◌, Bool, true, false, cond, ◌&&◌, List, [], ◌∷◌, ◌++◌, Ok, Err, refl, sym, ap, ◌∙◌, subst}
use Rattle.std.specs.Prelude.{Option, Some, None, Result, ◌==◌}
use Rattle.std.specs.Str.{bytes_eq}
use Rattle.std.proofs.lemmas.Bool.{and_parts}
use Rattle.std.proofs.lemmas.List.Sums.{sum_by-append}
use Rattle.std.proofs.lemmas.Slice.Eq.{bytes_eq-Decides}
use Rattle.ch_ident.specs.declared.identifier.ProcessId.{ProcessId}
use Rattle.ch_static.specs.declared.target.Target.TheVariants as targets
use Rattle.ch_model.specs.declared.act.Act.{Act}
use Rattle.ch_model.specs.declared.act.Act.TheVariants as acts
use Rattle.ch_model.specs.declared.entry.Entry.{Entry}
use Rattle.ch_model.specs.declared.entry.Entry.TheVariants as entries
use Rattle.ch_model.specs.declared.local.LocalEntry.{LocalEntry}
use Rattle.ch_model.specs.declared.local.LocalEntry.TheVariants as local
use Rattle.ch_model.specs.declared.name.End.{End}
use Rattle.ch_model.specs.declared.name.ProcName.{ProcName}
use Rattle.ch_model.specs.declared.name.SockName.{SockName}
use Rattle.ch_model.specs.declared.name.TargetName.TheVariants as names
use Rattle.ch_model.specs.declared.note.Note.{Note}
use Rattle.ch_model.specs.declared.note.Note.TheVariants as notes
use Rattle.ch_model.specs.declared.step.EndError.{EndError}
use Rattle.ch_model.specs.declared.step.EndError.TheVariants as errors
use Rattle.ch_model.specs.declared.step.Place.{Place}
use Rattle.ch_model.specs.declared.step.Step.{Step}
use Rattle.ch_model.specs.declared.step.Step.TheVariants as steps
use Rattle.ch_model.specs.CellSteps.{Followed, after_entries, ◌then◌, told_steps, asked, act_on, acts_on}
use Rattle.ch_model.specs.Epochs.{says_in}
use Rattle.ch_model.specs.HostCalls.{host_connect, host_send, host_close}
use Rattle.ch_model.specs.HostState.{HostState}
use Rattle.ch_model.specs.Naming.{Names, called, process_called}
use Rattle.ch_model.specs.NodeState.{NodeState}
use Rattle.ch_model.specs.Same.{same_process, same_target}
use Rattle.ch_model.specs.WorldSockets.{find_end, with_end_of, other, item_arrives}
use Rattle.ch_model.specs.WorldState.{Cell, World}
use Rattle.ch_model.specs.WorldSteps.{or_first, note_entry, reads_item, end_closes, stepped, local_told, all_told}
use Rattle.ch_laws_bytes.proofs.Told.{told_names}
use Rattle.ch_laws_peers.specs.Reads.{gets_of}
use Rattle.ch_laws_messages.specs.GotReceived.{says_of}
use Rattle.ch_laws_messages.proofs.GotTold.{got_both}

-- ---- as many are got as are said

pub said_both : (p q : ProcName) (one two : List Entry) → says_of p q (one ++ two) ≡ says_of p q one + says_of p q two
said_both p q one two = sum_by-append (λ (x : Entry). cond (says_in p (names.Process q) 0 x) 1 0) one two

abbrev pub IsEven : ProcName → ProcName → List Entry → Type 0
IsEven p q more = gets_of p q more ≡ says_of p q more

pub even_both : (p q : ProcName) (one two : List Entry) → IsEven p q one → IsEven p q two → IsEven p q (one ++ two)
even_both p q one two a b = got_both p q one two ∙ ap (λ (n : ℕ). n + gets_of p q two) a ∙ ap (λ (n : ℕ). says_of p q one + n) b ∙ sym (said_both p q one two)

-- ---- a note

-- a message of a process to a process that is said or got is of two nodes
abbrev pub IsApartNote : Names → Note → Type 0
IsApartNote known (notes.Said from (targets.Process to) epoch index message) = called known from.node ≡ called known to.node → ⊥
IsApartNote known (notes.Got from (targets.Process to) receiver) = called known from.node ≡ called known to.node → ⊥
IsApartNote known note = Unit {0}

apart_test : (known : Names) (from to : ProcessId) (p q : ProcName) → p.node ≡ q.node → (called known from.node ≡ called known to.node → ⊥) → (b : Bool) → (same_process (process_called known from) p && same_target (names.Process (process_called known to)) (names.Process q)) ≡ b → b ≡ false
apart_test known from to p q same apart false h = refl
apart_test known from to p q same apart true h =
    let parts = and_parts (same_process (process_called known from) p) (same_target (names.Process (process_called known to)) (names.Process q)) h in
    let one = and_parts (bytes_eq (called known from.node) p.node) (from.counter == p.counter) parts.0 in
    let two = and_parts (bytes_eq (called known to.node) q.node) (to.counter == q.counter) parts.1 in
    absurd (apart ((bytes_eq-Decides (called known from.node) p.node).0 one.0 ∙ same ∙ sym ((bytes_eq-Decides (called known to.node) q.node).0 two.0)))

none_first : (b c : Bool) → b ≡ false → (0 + cond (b && c) 1 0) ≡ 0
none_first false c e = refl
none_first true c e = absurd cc

none_second : (b c : Bool) → (0 + cond (b && false && c) 1 0) ≡ 0
none_second false c = refl
none_second true c = refl

pub note_even : (known : Names) (last : Option Place) (note : Note) → IsApartNote known note → (p q : ProcName) → p.node ≡ q.node → IsEven p q (note_entry known last note ∷ [])
note_even known last (notes.Said from (targets.Process to) epoch index message) a p q s = sym (none_first (same_process (process_called known from) p && same_target (names.Process (process_called known to)) (names.Process q)) (epoch == 0) (apart_test known from to p q s a (same_process (process_called known from) p && same_target (names.Process (process_called known to)) (names.Process q)) refl))
note_even known last (notes.Said from (targets.Port to) epoch index message) a p q s = sym (none_second (same_process (process_called known from) p) (epoch == 0))
note_even known last (notes.Said from (targets.Named at name) epoch index message) a p q s = sym (none_second (same_process (process_called known from) p) (epoch == 0))
note_even known last (notes.Got from (targets.Process to) receiver) a p q s = none_first (same_process (process_called known from) p && same_target (names.Process (process_called known to)) (names.Process q)) ((or_first last).epoch == 0) (apart_test known from to p q s a (same_process (process_called known from) p && same_target (names.Process (process_called known to)) (names.Process q)) refl)
note_even known last (notes.Got from (targets.Port to) receiver) a p q s = none_second (same_process (process_called known from) p) ((or_first last).epoch == 0)
note_even known last (notes.Got from (targets.Named at name) receiver) a p q s = none_second (same_process (process_called known from) p) ((or_first last).epoch == 0)
note_even known last note a p q s = refl

-- ---- a step

step_even : (p q : ProcName) (place : ℕ) (cell : Cell) (step : Step) (world : World) → IsEven p q (stepped place cell step world).0
step_even p q place cell (steps.Dial sock end peer) world = refl
step_even p q place cell (steps.Post end event) world = refl
step_even p q place cell (steps.Broke end peer why) world = refl
step_even p q place cell (steps.Read sock) world = by_end (find_end place sock world.sockets) where
  by_end : (o : Option (SockName × End)) → IsEven p q (elim o as (λ o. List Entry × World) [
    | None ↦ ([], world)
    | Some at ↦ reads_item at world
  ]).0
  by_end None = refl
  by_end (Some at) = refl
step_even p q place cell (steps.Write sock bytes said) world = by_end (find_end place sock world.sockets) where
  by_end : (o : Option (SockName × End)) → IsEven p q (elim o as (λ o. List Entry × World) [
    | None ↦ ([], world)
    | Some at ↦ (entries.Wrote at.0 at.1 bytes ∷ [], with_end_of at.0 (other at.1) (item_arrives bytes said) world)
  ]).0
  by_end None = refl
  by_end (Some at) = refl
step_even p q place cell (steps.Up sock) world = by_end (find_end place sock world.sockets) where
  by_end : (o : Option (SockName × End)) → IsEven p q (elim o as (λ o. List Entry × World) [
    | None ↦ ([], world)
    | Some at ↦ (entries.Up at.0 at.1 ∷ [], world)
  ]).0
  by_end None = refl
  by_end (Some at) = refl
step_even p q place cell (steps.Down sock) world = by_end (find_end place sock world.sockets) where
  by_end : (o : Option (SockName × End)) → IsEven p q (elim o as (λ o. List Entry × World) [
    | None ↦ ([], world)
    | Some at ↦ (entries.Down at.0 at.1 ∷ [], end_closes at world)
  ]).0
  by_end None = refl
  by_end (Some at) = refl
step_even p q place cell (steps.Left sock) world = by_end (find_end place sock world.sockets) where
  by_end : (o : Option (SockName × End)) → IsEven p q (elim o as (λ o. List Entry × World) [
    | None ↦ ([], world)
    | Some at ↦ (entries.Left at.0 at.1 ∷ [], end_closes at world)
  ]).0
  by_end None = refl
  by_end (Some at) = refl

-- ---- all that is told

abbrev pub ToldApart : Names → List LocalEntry → Type 0
ToldApart known [] = Unit {0}
ToldApart known (local.Note note ∷ rest) = IsApartNote known note × ToldApart known rest
ToldApart known (local.Step step ∷ rest) = ToldApart known rest

pub told_even : (place : ℕ) (cell : Cell) (told : List LocalEntry) (world : World) → ToldApart world.names told → (p q : ProcName) → p.node ≡ q.node → IsEven p q (all_told place cell told world).0
told_even place cell [] world a p q s = refl
told_even place cell (local.Step step ∷ rest) world a p q s = even_both p q (stepped place cell step world).0 (all_told place cell rest (stepped place cell step world).1).0 (step_even p q place cell step world)
    (told_even place cell rest (stepped place cell step world).1 (subst (λ (known : Names). ToldApart known rest) (sym (told_names place cell (local.Step step ∷ []) world)) a) p q s)
told_even place cell (local.Note note ∷ rest) world a p q s = even_both p q (note_entry world.names world.last note ∷ []) (all_told place cell rest (local_told place cell (local.Note note) world).1).0 (note_even world.names world.last note a.0 p q s)
    (told_even place cell rest (local_told place cell (local.Note note) world).1 a.1 p q s)

pub steps_apart : (known : Names) (done : List Step) → ToldApart known (told_steps done)
steps_apart known [] = tt
steps_apart known (step ∷ rest) = steps_apart known rest

told_apart_both : (known : Names) (one two : List LocalEntry) → ToldApart known one → ToldApart known two → ToldApart known (one ++ two)
told_apart_both known [] two h i = i
told_apart_both known (local.Note note ∷ one) two h i = (h.0, told_apart_both known one two h.1 i)
told_apart_both known (local.Step step ∷ one) two h i = told_apart_both known one two h i

-- ---- acts

abbrev pub ActsApart : Names → List Act → Type 0
ActsApart known [] = Unit {0}
ActsApart known (acts.Note note ∷ rest) = IsApartNote known note × ActsApart known rest
ActsApart known (act ∷ rest) = ActsApart known rest

abbrev AllApart : Names → Followed → Type 0
AllApart known (Ok done) = ToldApart known done.0
AllApart known (Err stop) = Unit {0}

asked_apart : (known : Names) (cell : Cell) (r : Result (List Step × HostState) EndError) → AllApart known (asked cell r)
asked_apart known cell (Ok done) = steps_apart known done.0
asked_apart known cell (Err errors.Worn) = tt
asked_apart known cell (Err errors.OutOfMemory) = tt
asked_apart known cell (Err errors.NoEndPoint) = tt
asked_apart known cell (Err errors.NoConnection) = tt
asked_apart known cell (Err errors.QueueFull) = tt
asked_apart known cell (Err errors.PayloadLong) = tt
asked_apart known cell (Err errors.Spent) = tt

then_apart : (known : Names) (end : ℕ) (rest : List Act) (r : Followed) → AllApart known r → ((cell : Cell) → AllApart known (acts_on end rest cell)) → AllApart known (r then acts_on end rest)
then_apart known end rest (Err stop) h more = tt
then_apart known end rest (Ok one) h more = by_rest (acts_on end rest one.1) (more one.1) where
  by_rest : (r : Followed) → AllApart known r → AllApart known (after_entries one.0 r)
  by_rest (Ok two) i = told_apart_both known one.0 two.0 h i
  by_rest (Err stop) i = tt

acts_tell_apart : (known : Names) (end : ℕ) (done : List Act) (cell : Cell) → ActsApart known done → AllApart known (acts_on end done cell)
acts_tell_apart known end [] cell h = tt
acts_tell_apart known end (acts.Note note ∷ rest) cell h = then_apart known end rest (act_on end (acts.Note note) cell) (h.0, tt) (λ c. acts_tell_apart known end rest c h.1)
acts_tell_apart known end (acts.Open conn peer ∷ rest) cell h = then_apart known end rest (act_on end (acts.Open conn peer) cell) (asked_apart known cell (host_connect cell.host end peer conn)) (λ c. acts_tell_apart known end rest c h)
acts_tell_apart known end (acts.Put conn payload weight ∷ rest) cell h = then_apart known end rest (act_on end (acts.Put conn payload weight) cell) (asked_apart known cell (host_send cell.host end conn payload weight)) (λ c. acts_tell_apart known end rest c h)
acts_tell_apart known end (acts.Close conn ∷ rest) cell h = then_apart known end rest (act_on end (acts.Close conn) cell) (asked_apart known cell (host_close cell.host end conn)) (λ c. acts_tell_apart known end rest c h)

pub acts_apart : (known : Names) (end : ℕ) (done : List Act) (cell : Cell) (told : List LocalEntry) (after : Cell) → ActsApart known done → acts_on end done cell ≡ Ok (told, after) → ToldApart known told
acts_apart known end done cell told after h e = subst (AllApart known) e (acts_tell_apart known end done cell h)

-- ---- nodes stay as acts are done

abbrev SameNodes : List (ℕ × NodeState) → Followed → Type 0
SameNodes nodes (Ok done) = done.1.nodes ≡ nodes
SameNodes nodes (Err stop) = Unit {0}

asked_nodes : (cell : Cell) (r : Result (List Step × HostState) EndError) → SameNodes cell.nodes (asked cell r)
asked_nodes cell (Ok done) = refl
asked_nodes cell (Err errors.Worn) = tt
asked_nodes cell (Err errors.OutOfMemory) = tt
asked_nodes cell (Err errors.NoEndPoint) = refl
asked_nodes cell (Err errors.NoConnection) = refl
asked_nodes cell (Err errors.QueueFull) = refl
asked_nodes cell (Err errors.PayloadLong) = refl
asked_nodes cell (Err errors.Spent) = refl

then_nodes : (nodes : List (ℕ × NodeState)) (end : ℕ) (rest : List Act) (r : Followed) → SameNodes nodes r → ((cell : Cell) → SameNodes cell.nodes (acts_on end rest cell)) → SameNodes nodes (r then acts_on end rest)
then_nodes nodes end rest (Err stop) h more = tt
then_nodes nodes end rest (Ok one) h more = by_rest (acts_on end rest one.1) (more one.1) where
  by_rest : (r : Followed) → SameNodes one.1.nodes r → SameNodes nodes (after_entries one.0 r)
  by_rest (Ok two) i = i ∙ h
  by_rest (Err stop) i = tt

acts_keep_nodes : (end : ℕ) (done : List Act) (cell : Cell) → SameNodes cell.nodes (acts_on end done cell)
acts_keep_nodes end [] cell = refl
acts_keep_nodes end (acts.Note note ∷ rest) cell = then_nodes cell.nodes end rest (act_on end (acts.Note note) cell) refl (acts_keep_nodes end rest)
acts_keep_nodes end (acts.Open conn peer ∷ rest) cell = then_nodes cell.nodes end rest (act_on end (acts.Open conn peer) cell) (asked_nodes cell (host_connect cell.host end peer conn)) (acts_keep_nodes end rest)
acts_keep_nodes end (acts.Put conn payload weight ∷ rest) cell = then_nodes cell.nodes end rest (act_on end (acts.Put conn payload weight) cell) (asked_nodes cell (host_send cell.host end conn payload weight)) (acts_keep_nodes end rest)
acts_keep_nodes end (acts.Close conn ∷ rest) cell = then_nodes cell.nodes end rest (act_on end (acts.Close conn) cell) (asked_nodes cell (host_close cell.host end conn)) (acts_keep_nodes end rest)

pub acts_nodes : (end : ℕ) (done : List Act) (cell : Cell) (told : List LocalEntry) (after : Cell) → acts_on end done cell ≡ Ok (told, after) → after.nodes ≡ cell.nodes
acts_nodes end done cell told after e = subst (SameNodes cell.nodes) e (acts_keep_nodes end done cell)
