-- What is told of a host's steps feeds nothing; and links come up in it by what was fed.
use Rattle.std.proofs.Common.{◌≡◌, ◌⊎◌, inl, inr, ℕ, Bool, true, false, cond, ◌&&◌, ◌||◌, List, [], ◌∷◌, ◌++◌, refl, sym, ap, ◌∙◌, subst, append_assoc}
use Rattle.std.proofs.lemmas.List.{append-nil}
use Rattle.std.proofs.lemmas.List.Folds.{list_any-append}
use Rattle.std.specs.List.{list_any}
use Rattle.std.specs.Option.{option_map}
use Rattle.std.specs.Prelude.{find, Option, Some, None, ◌==◌}
use Rattle.std.specs.Str.{bytes_eq}
use Rattle.ch_wire.specs.Spelling.{answer_spelling}
use Rattle.ch_wire.specs.declared.answer.Answer.TheVariants.{Accepted}
use Rattle.ch_model.specs.declared.entry.Entry.{Entry}
use Rattle.ch_model.specs.declared.entry.Entry.TheVariants as entries
use Rattle.ch_model.specs.declared.line.Line.{Line}
use Rattle.ch_model.specs.declared.local.LocalEntry.TheVariants as local
use Rattle.ch_model.specs.declared.name.End.{End}
use Rattle.ch_model.specs.declared.name.End.TheVariants.{O, T}
use Rattle.ch_model.specs.declared.name.SockName.{SockName}
use Rattle.ch_model.specs.declared.step.Step.{Step}
use Rattle.ch_model.specs.declared.step.Step.TheVariants as steps
use Rattle.ch_model.specs.AccountsBytes.{accepts, accepts_next}
use Rattle.ch_model.specs.CellSteps.{told_steps}
use Rattle.ch_model.specs.HostSteps.{own_address}
use Rattle.ch_model.specs.Logs.{each_after, each_between_after, next_is}
use Rattle.ch_model.specs.Naming.{called}
use Rattle.ch_model.specs.Same.{same_socket}
use Rattle.ch_model.specs.Stages.{Pending}
use Rattle.ch_model.specs.WorldSockets.{other, ended, item_arrives, end_of_nobody, is_socket_named, store_in, with_end_of, find_end, cell_of, new_socket}
use Rattle.ch_model.specs.WorldState.{Cell, WorldSocket, World}
use Rattle.ch_model.specs.WorldSteps.{on_end, later_places, item_is_read, reads_item, end_closes, stepped, all_told}
use Rattle.ch_laws_log.proofs.Agreeing.{Good, keeps_good}
use Rattle.ch_laws_log.proofs.Blocks.{each_append}
use Rattle.ch_laws_log.proofs.Kept.{one_told}
use Rattle.ch_laws_log.proofs.Stored.{number_is, number_same, bytes_same, self_same, next_is_new}
use Rattle.ch_laws_ends.proofs.Places.{some_is}
use Rattle.ch_laws_bytes.proofs.Stepped.{at_end_flow}
use Rattle.ch_laws_links.specs.Standing.{Standing, IsPending, IsOpen, IsRisen, IsOver, standing_after, is_there, IsRight, AreRight}
use Rattle.ch_laws_links.proofs.Logs.{target_unnumbered}
use Rattle.ch_laws_writes.proofs.Found.{kept_ends}
use Rattle.ch_laws_writes.proofs.Walks.{ended_keeps, read_keeps, item_keeps, new_same}
use Rattle.ch_laws_accounts.specs.Ups.{AllUps}
use Rattle.ch_laws_risen.specs.Firsts.{IsFed, begins_whole, has_read}
use Rattle.ch_laws_risen.specs.Risings.{EachUp, AcceptsOn}
use Rattle.ch_laws_risen.proofs.Logs.{both, stays, unfed, is_feeding, is_rising, quiet_read, quiet_accepted, accepted_both}

-- ---- what is told

pub at_end_told : (P : List Entry → Type 0) (place sock : ℕ) (f : SockName × End → World → List Entry × World) (world : World) → ((at : SockName × End) → P (f at world).0) → P [] → P (on_end place sock f world).0
at_end_told P place sock f world some none = by_end (find_end place sock world.sockets) where
  by_end : (o : Option (SockName × End)) → P (elim o as (λ o. List Entry × World) [
    | None ↦ ([], world)
    | Some at ↦ f at world
  ]).0
  by_end None = none
  by_end (Some at) = some at

-- it feeds nothing
abbrev Unfed : List Entry → Type 0
Unfed told = list_any is_feeding told ≡ false

pub step_unfed : (place : ℕ) (cell : Cell) (step : Step) (world : World) → Unfed (stepped place cell step world).0
step_unfed place cell (steps.Dial sock end peer) world = refl
step_unfed place cell (steps.Read sock) world = at_end_told Unfed place sock reads_item world (λ at. refl) refl
step_unfed place cell (steps.Write sock bytes said) world = at_end_told Unfed place sock (λ at now. (entries.Wrote at.0 at.1 bytes ∷ [], with_end_of at.0 (other at.1) (item_arrives bytes said) now)) world (λ at. refl) refl
step_unfed place cell (steps.Up sock) world = at_end_told Unfed place sock (λ at now. (entries.Up at.0 at.1 ∷ [], now)) world (λ at. refl) refl
step_unfed place cell (steps.Down sock) world = at_end_told Unfed place sock (λ at now. (entries.Down at.0 at.1 ∷ [], end_closes at now)) world (λ at. refl) refl
step_unfed place cell (steps.Left sock) world = at_end_told Unfed place sock (λ at now. (entries.Left at.0 at.1 ∷ [], end_closes at now)) world (λ at. refl) refl
step_unfed place cell (steps.Broke end peer why) world = refl
step_unfed place cell (steps.Post end event) world = refl

pub told_unfed : (place : ℕ) (cell : Cell) (told : List Step) (world : World) → list_any is_feeding (all_told place cell (told_steps told) world).0 ≡ false
told_unfed place cell [] world = refl
told_unfed place cell (step ∷ rest) world = let one = stepped place cell step world in
    list_any-append is_feeding one.0 (all_told place cell (told_steps rest) one.1).0 ∙ ap (λ b. b || list_any is_feeding (all_told place cell (told_steps rest) one.1).0) (step_unfed place cell step world) ∙ told_unfed place cell rest one.1

-- no link comes up in it
abbrev Unrisen : List Entry → Type 0
Unrisen told = list_any is_rising told ≡ false

-- a step that raises none
abbrev RaisesNone : Step → Type 0
RaisesNone (steps.Up sock) = ⊥
RaisesNone step = Unit {0}

step_unrisen : (place : ℕ) (cell : Cell) (step : Step) (world : World) → RaisesNone step → Unrisen (stepped place cell step world).0
step_unrisen place cell (steps.Dial sock end peer) world n = refl
step_unrisen place cell (steps.Read sock) world n = at_end_told Unrisen place sock reads_item world (λ at. refl) refl
step_unrisen place cell (steps.Write sock bytes said) world n = at_end_told Unrisen place sock (λ at now. (entries.Wrote at.0 at.1 bytes ∷ [], with_end_of at.0 (other at.1) (item_arrives bytes said) now)) world (λ at. refl) refl
step_unrisen place cell (steps.Up sock) world n = absurd n
step_unrisen place cell (steps.Down sock) world n = at_end_told Unrisen place sock (λ at now. (entries.Down at.0 at.1 ∷ [], end_closes at now)) world (λ at. refl) refl
step_unrisen place cell (steps.Left sock) world n = at_end_told Unrisen place sock (λ at now. (entries.Left at.0 at.1 ∷ [], end_closes at now)) world (λ at. refl) refl
step_unrisen place cell (steps.Broke end peer why) world n = refl
step_unrisen place cell (steps.Post end event) world n = refl

ups_first : (step : Step) (rest : List Step) → AllUps (λ n. ⊥) (step ∷ rest) → RaisesNone step × AllUps (λ n. ⊥) rest
ups_first (steps.Dial sock end peer) rest a = (tt, a)
ups_first (steps.Read sock) rest a = (tt, a)
ups_first (steps.Write sock bytes said) rest a = (tt, a)
ups_first (steps.Up sock) rest a = a
ups_first (steps.Down sock) rest a = (tt, a)
ups_first (steps.Left sock) rest a = (tt, a)
ups_first (steps.Broke end peer why) rest a = (tt, a)
ups_first (steps.Post end event) rest a = (tt, a)

pub told_unrisen : (place : ℕ) (cell : Cell) (told : List Step) (world : World) → AllUps (λ n. ⊥) told → list_any is_rising (all_told place cell (told_steps told) world).0 ≡ false
told_unrisen place cell [] world a = refl
told_unrisen place cell (step ∷ rest) world a = let one = stepped place cell step world in let parts = ups_first step rest a in
    list_any-append is_rising one.0 (all_told place cell (told_steps rest) one.1).0 ∙ ap (λ b. b || list_any is_rising (all_told place cell (told_steps rest) one.1).0) (step_unrisen place cell step world parts.0) ∙ told_unrisen place cell rest one.1 parts.1

-- the world stays as the log tells
pub told_good : (journal : List Line) (log : List Entry) (place : ℕ) (cell : Cell) (told : List Step) (world : World) → Good journal log world → Good journal (log ++ (all_told place cell (told_steps told) world).0) (all_told place cell (told_steps told) world).1
told_good journal log place cell [] world g = subst (λ (l : List Entry). Good journal l world) (sym (append-nil log)) g
told_good journal log place cell (step ∷ rest) world g = let one = stepped place cell step world in
    subst (λ (l : List Entry). Good journal l (all_told place cell (told_steps rest) one.1).1) (append_assoc log one.0 (all_told place cell (told_steps rest) one.1).0)
    (told_good journal (log ++ one.0) place cell rest one.1 (one_told (Good journal) (keeps_good journal) log place cell (local.Step step) world g))

-- ---- ends that are open

-- to this end bytes were fed that raise a link
abbrev pub Risen : List Entry → SockName × End → Type 0
Risen log at = (bytes : List ℕ) × IsFed log at.0 at.1 bytes × (begins_whole at.1 bytes ≡ true)

-- so it is of each that the cell at a place has open under a number of which A holds; and where B holds, it is an opener's
abbrev pub Fit : (ℕ → Type 0) → (ℕ → Type 0) → List Entry → (ℕ → Option Standing) → ℕ → List WorldSocket → Type 0
Fit A B log now place sockets = (n : ℕ) (at : SockName × End) → find_end place n sockets ≡ Some at → is_there (now n) ≡ true → (A n → Risen log at) × (B n → at.1 ≡ O)

read_same : (place : ℕ) (at : SockName × End) (world : World) (n : ℕ) → find_end place n (reads_item at world).1.sockets ≡ find_end place n world.sockets
read_same place at world n = by_socket (find (is_socket_named at.0) world.sockets) where
  by_socket : (o : Option WorldSocket) → find_end place n (item_is_read at o world).sockets ≡ find_end place n world.sockets
  by_socket None = refl
  by_socket (Some socket) = kept_ends at.0 at.1 (λ end. record end { places = later_places end.places }) world read_keeps place n

up_less : (now : ℕ → Option Standing) (sock : ℕ) → now sock ≡ Some IsOpen → (n : ℕ) → is_there (standing_after (steps.Up sock) n (now n)) ≡ true → is_there (now n) ≡ true
up_less now sock right n = by_test (sock == n) refl where
  by_test : (b : Bool) → (sock == n) ≡ b → is_there (cond b (option_map (λ (s : Standing). IsRisen) (now n)) (now n)) ≡ true → is_there (now n) ≡ true
  by_test true e h = subst (λ (k : ℕ). is_there (now k) ≡ true) (number_is sock n e) (ap is_there right)
  by_test false e h = h

over_less : (b : Bool) (x : Option Standing) → is_there (cond b (option_map (λ (s : Standing). IsOver) x) x) ≡ true → is_there x ≡ true
over_less true None h = absurd cc
over_less true (Some s) h = absurd cc
over_less false x h = h

-- an end that is open after a step was open before it, and is found where it was
abbrev StaysFound : (ℕ → Option Standing) → ℕ → Step → World → World → ℕ → Type 0
StaysFound now place step before after n = (find_end place n after.sockets ≡ find_end place n before.sockets) × (is_there (now n) ≡ true)

kept_there : (journal : List Line) (log : List Entry) (place : ℕ) (cell : Cell) (step : Step) (world : World) (now : ℕ → Option Standing) → Good journal log world → IsRight now step → (n : ℕ) → is_there (standing_after step n (now n)) ≡ true → StaysFound now place step world (stepped place cell step world).1 n
kept_there journal log place cell (steps.Dial sock end peer) world now g right n there = by_test (sock == n) refl there where
  from : List ℕ
  from = called world.names (own_address cell.host end)

  to : List ℕ
  to = called world.names peer

  new : WorldSocket
  new = new_socket world from to cell.host.host (end_of_nobody (Some place) (Some sock) Pending) peer

  by_test : (b : Bool) → (sock == n) ≡ b → is_there (cond b (Some IsPending) (now n)) ≡ true → (find_end place n (store_in new world.sockets) ≡ find_end place n world.sockets) × (is_there (now n) ≡ true)
  by_test true e there = absurd cc
  by_test false e there = (new_same place n new world.sockets (next_is_new world from to g.numbered) (target_unnumbered (cell_of world peer)) (ap (λ b. b && (sock == n)) (number_same place) ∙ e), there)
kept_there journal log place cell (steps.Read sock) world now g right n there = (at_end_flow (λ w. find_end place n w.sockets ≡ find_end place n world.sockets) place sock reads_item world (λ at e. read_same place at world n) (λ e. refl), there)
kept_there journal log place cell (steps.Write sock bytes said) world now g right n there = (
  at_end_flow (λ w. find_end place n w.sockets ≡ find_end place n world.sockets) place sock (λ at then. (entries.Wrote at.0 at.1 bytes ∷ [], with_end_of at.0 (other at.1) (item_arrives bytes said) then)) world
      (λ at e. kept_ends at.0 (other at.1) (item_arrives bytes said) world (item_keeps bytes said) place n) (λ e. refl),
  there,
)
kept_there journal log place cell (steps.Up sock) world now g right n there = (at_end_flow (λ w. find_end place n w.sockets ≡ find_end place n world.sockets) place sock (λ at then. (entries.Up at.0 at.1 ∷ [], then)) world (λ at e. refl) (λ e. refl), up_less now sock right n there)
kept_there journal log place cell (steps.Down sock) world now g right n there = (at_end_flow (λ w. find_end place n w.sockets ≡ find_end place n world.sockets) place sock (λ at then. (entries.Down at.0 at.1 ∷ [], end_closes at then)) world (λ at e. kept_ends at.0 at.1 ended world ended_keeps place n) (λ e. refl), over_less (sock == n) (now n) there)
kept_there journal log place cell (steps.Left sock) world now g right n there = (at_end_flow (λ w. find_end place n w.sockets ≡ find_end place n world.sockets) place sock (λ at then. (entries.Left at.0 at.1 ∷ [], end_closes at then)) world (λ at e. kept_ends at.0 at.1 ended world ended_keeps place n) (λ e. refl), over_less (sock == n) (now n) there)
kept_there journal log place cell (steps.Broke end peer why) world now g right n there = (refl, there)
kept_there journal log place cell (steps.Post end event) world now g right n there = (refl, there)

fit_on : (A B : ℕ → Type 0) (journal : List Line) (log : List Entry) (place : ℕ) (cell : Cell) (step : Step) (world : World) (now : ℕ → Option Standing) → Good journal log world → IsRight now step → Fit A B log now place world.sockets
    → Fit A B (log ++ (stepped place cell step world).0) (λ n. standing_after step n (now n)) place (stepped place cell step world).1.sockets
fit_on A B journal log place cell step world now g right fit n at found there = (λ a. more (was.0 a), was.1) where
  told : List Entry
  told = (stepped place cell step world).0

  kept : StaysFound now place step world (stepped place cell step world).1 n
  kept = kept_there journal log place cell step world now g right n there

  was : (A n → Risen log at) × (B n → at.1 ≡ O)
  was = fit n at (sym kept.0 ∙ found) kept.1

  more : Risen log at → Risen (log ++ told) at
  more r = (r.0, stays log told at.0 at.1 r.0 (unfed told (step_unfed place cell step world) at.0 at.1) r.1, r.2)

-- ---- all that is told of an item

-- links come up by what was fed, and targets accept next
abbrev pub RisenSo : List Entry → List Entry → Type 0
RisenSo log told = (each_after has_read log told ≡ true) × (each_between_after accepts_next log told ≡ true)

pub onward : (log one more : List Entry) → list_any is_rising one ≡ false → RisenSo (log ++ one) more → RisenSo log (one ++ more)
onward log one more q r = (each_append has_read log one more (quiet_read log one q) r.0, accepted_both log one more (quiet_accepted log one q) r.1)

-- the accepting answer that is written next is told next
next_accepted : (place : ℕ) (cell : Cell) (sock : ℕ) (rest : List Step) (world : World) (s : SockName) → find_end place sock world.sockets ≡ Some (s, T) → AcceptsOn sock rest → next_is (accepts s) (all_told place cell (told_steps rest) world).0 ≡ true
next_accepted place cell sock [] world s f a = absurd a
next_accepted place cell sock (steps.Write m bytes said ∷ rest) world s f a = by_found (find_end place m world.sockets) (ap (λ (k : ℕ). find_end place k world.sockets) a.0 ∙ f) where
  told : Option (SockName × End) → List Entry × World
  told o = elim o as (λ o. List Entry × World) [
    | None ↦ ([], world)
    | Some at ↦ (entries.Wrote at.0 at.1 bytes ∷ [], with_end_of at.0 (other at.1) (item_arrives bytes said) world)
  ]

  spelled : bytes_eq bytes (answer_spelling Accepted) ≡ true
  spelled = ap (λ (l : List ℕ). bytes_eq l (answer_spelling Accepted)) a.1 ∙ bytes_same (answer_spelling Accepted)

  by_found : (o : Option (SockName × End)) → o ≡ Some (s, T) → next_is (accepts s) ((told o).0 ++ (all_told place cell (told_steps rest) (told o).1).0) ≡ true
  by_found None e = absurd cc
  by_found (Some at) e = subst (λ (x : SockName × End). accepts s (entries.Wrote x.0 x.1 bytes) ≡ true) (sym (some_is at (s, T) e)) (both (same_socket s s) (bytes_eq bytes (answer_spelling Accepted)) (self_same s) spelled)
next_accepted place cell sock (steps.Dial m end peer ∷ rest) world s f a = absurd a
next_accepted place cell sock (steps.Read m ∷ rest) world s f a = absurd a
next_accepted place cell sock (steps.Up m ∷ rest) world s f a = absurd a
next_accepted place cell sock (steps.Down m ∷ rest) world s f a = absurd a
next_accepted place cell sock (steps.Left m ∷ rest) world s f a = absurd a
next_accepted place cell sock (steps.Broke end peer why ∷ rest) world s f a = absurd a
next_accepted place cell sock (steps.Post end event ∷ rest) world s f a = absurd a

up_told : (A B : ℕ → Type 0) (log : List Entry) (place : ℕ) (cell : Cell) (sock : ℕ) (rest : List Step) (world : World) (now : ℕ → Option Standing) → now sock ≡ Some IsOpen → A sock → B sock ⊎ AcceptsOn sock rest → Fit A B log now place world.sockets
    → let one = stepped place cell (steps.Up sock) world in RisenSo (log ++ one.0) (all_told place cell (told_steps rest) one.1).0 → RisenSo log (one.0 ++ (all_told place cell (told_steps rest) one.1).0)
up_told A B log place cell sock rest world now stands a b fit r = by_end (find_end place sock world.sockets) refl r where
  told : Option (SockName × End) → List Entry × World
  told o = elim o as (λ o. List Entry × World) [
    | None ↦ ([], world)
    | Some at ↦ (entries.Up at.0 at.1 ∷ [], world)
  ]

  more : World → List Entry
  more w = (all_told place cell (told_steps rest) w).0

  accepted : (s : SockName) (w : End) → find_end place sock world.sockets ≡ Some (s, w) → B sock ⊎ AcceptsOn sock rest → (B sock → w ≡ O) → accepts_next log (entries.Up s w) (more world) ≡ true
  accepted s O f b g = refl
  accepted s T f (inr x) g = next_accepted place cell sock rest world s f x
  accepted s T f (inl x) g = let clash : T ≡ O = g x in absurd cc

  by_end : (o : Option (SockName × End)) → find_end place sock world.sockets ≡ o → RisenSo (log ++ (told o).0) (more (told o).1) → RisenSo log ((told o).0 ++ more (told o).1)
  by_end None e r = onward log [] (more world) refl r
  by_end (Some at) e r =
      let here = fit sock at e (ap is_there stands) in
      let risen = here.0 a in
      let x = entries.Up at.0 at.1 in (
        each_append has_read log (x ∷ []) (more world) (both (has_read log x) true (ap (begins_whole at.1) risen.1.are ∙ risen.2) refl) r.0,
        both (accepts_next log x (more world)) (each_between_after accepts_next (log ++ x ∷ []) (more world)) (accepted at.0 at.1 e b here.1) r.1,
      )

-- the first step, and then the others
first_then : (A B : ℕ → Type 0) (log : List Entry) (place : ℕ) (cell : Cell) (step : Step) (rest : List Step) (world : World) (now : ℕ → Option Standing) → IsRight now step → AllUps A (step ∷ rest) → EachUp (λ n after. B n ⊎ AcceptsOn n after) (step ∷ rest) → Fit A B log now place world.sockets
    → let one = stepped place cell step world in RisenSo (log ++ one.0) (all_told place cell (told_steps rest) one.1).0 → RisenSo log (one.0 ++ (all_told place cell (told_steps rest) one.1).0)
first_then A B log place cell (steps.Up sock) rest world now right a b fit r = up_told A B log place cell sock rest world now right a.0 b.0 fit r
first_then A B log place cell (steps.Dial sock end peer) rest world now right a b fit r = let step = steps.Dial sock end peer in onward log (stepped place cell step world).0 (all_told place cell (told_steps rest) (stepped place cell step world).1).0 (step_unrisen place cell step world tt) r
first_then A B log place cell (steps.Read sock) rest world now right a b fit r = let step = steps.Read sock in onward log (stepped place cell step world).0 (all_told place cell (told_steps rest) (stepped place cell step world).1).0 (step_unrisen place cell step world tt) r
first_then A B log place cell (steps.Write sock bytes said) rest world now right a b fit r = let step = steps.Write sock bytes said in onward log (stepped place cell step world).0 (all_told place cell (told_steps rest) (stepped place cell step world).1).0 (step_unrisen place cell step world tt) r
first_then A B log place cell (steps.Down sock) rest world now right a b fit r = let step = steps.Down sock in onward log (stepped place cell step world).0 (all_told place cell (told_steps rest) (stepped place cell step world).1).0 (step_unrisen place cell step world tt) r
first_then A B log place cell (steps.Left sock) rest world now right a b fit r = let step = steps.Left sock in onward log (stepped place cell step world).0 (all_told place cell (told_steps rest) (stepped place cell step world).1).0 (step_unrisen place cell step world tt) r
first_then A B log place cell (steps.Broke end peer why) rest world now right a b fit r = let step = steps.Broke end peer why in onward log (stepped place cell step world).0 (all_told place cell (told_steps rest) (stepped place cell step world).1).0 (step_unrisen place cell step world tt) r
first_then A B log place cell (steps.Post end event) rest world now right a b fit r = let step = steps.Post end event in onward log (stepped place cell step world).0 (all_told place cell (told_steps rest) (stepped place cell step world).1).0 (step_unrisen place cell step world tt) r

ups_rest : (P : ℕ → Type 0) (step : Step) (rest : List Step) → AllUps P (step ∷ rest) → AllUps P rest
ups_rest P (steps.Up sock) rest a = a.1
ups_rest P (steps.Dial sock end peer) rest a = a
ups_rest P (steps.Read sock) rest a = a
ups_rest P (steps.Write sock bytes said) rest a = a
ups_rest P (steps.Down sock) rest a = a
ups_rest P (steps.Left sock) rest a = a
ups_rest P (steps.Broke end peer why) rest a = a
ups_rest P (steps.Post end event) rest a = a

each_rest : (Q : ℕ → List Step → Type 0) (step : Step) (rest : List Step) → EachUp Q (step ∷ rest) → EachUp Q rest
each_rest Q (steps.Up sock) rest a = a.1
each_rest Q (steps.Dial sock end peer) rest a = a
each_rest Q (steps.Read sock) rest a = a
each_rest Q (steps.Write sock bytes said) rest a = a
each_rest Q (steps.Down sock) rest a = a
each_rest Q (steps.Left sock) rest a = a
each_rest Q (steps.Broke end peer why) rest a = a
each_rest Q (steps.Post end event) rest a = a

pub told_risen : (A B : ℕ → Type 0) (journal : List Line) (log : List Entry) (place : ℕ) (cell : Cell) (told : List Step) (world : World) (now : ℕ → Option Standing) → Good journal log world → AreRight now told → AllUps A told → EachUp (λ n after. B n ⊎ AcceptsOn n after) told → Fit A B log now place world.sockets
    → RisenSo log (all_told place cell (told_steps told) world).0
told_risen A B journal log place cell [] world now g right a b fit = (refl, refl)
told_risen A B journal log place cell (step ∷ rest) world now g right a b fit = first_then A B log place cell step rest world now right.0 a b fit
    (told_risen A B journal (log ++ (stepped place cell step world).0) place cell rest (stepped place cell step world).1 (λ n. standing_after step n (now n)) (one_told (Good journal) (keeps_good journal) log place cell (local.Step step) world g) right.1 (ups_rest A step rest a)
    (each_rest (λ n after. B n ⊎ AcceptsOn n after) step rest b) (fit_on A B journal log place cell step world now g right.0 fit))
