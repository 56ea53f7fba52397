-- Of all that a cell tells, an opener's end writes only where it was open before, and so is of a declared name.
use Rattle.std.proofs.Common.{◌≡◌, ℕ, Bool, true, false, cond, ◌&&◌, List, [], ◌∷◌, ◌++◌, Ok, Err, refl, sym, ap, ◌∙◌, subst}
use Rattle.std.specs.Option.{option_map}
use Rattle.std.specs.Prelude.{find, slice_get, Option, Some, None, ◌==◌}
use Rattle.ch_model.specs.declared.entry.Entry.{Entry}
use Rattle.ch_model.specs.declared.entry.Entry.TheVariants as entries
use Rattle.ch_model.specs.declared.entry.Verdict.TheVariants as verdicts
use Rattle.ch_model.specs.declared.line.Line.{Line}
use Rattle.ch_model.specs.declared.local.LocalEntry.{LocalEntry}
use Rattle.ch_model.specs.declared.local.LocalEntry.TheVariants as local
use Rattle.ch_model.specs.declared.local.LocalEvent.{LocalEvent}
use Rattle.ch_model.specs.declared.name.End.{End}
use Rattle.ch_model.specs.declared.name.End.TheVariants.{O, T}
use Rattle.ch_model.specs.declared.name.SockName.{SockName}
use Rattle.ch_model.specs.declared.note.Note.{Note}
use Rattle.ch_model.specs.declared.note.Note.TheVariants as notes
use Rattle.ch_model.specs.declared.step.Place.{Place}
use Rattle.ch_model.specs.declared.step.Step.{Step}
use Rattle.ch_model.specs.declared.step.Step.TheVariants as steps
use Rattle.ch_model.specs.Cell.{Celled, cell_step}
use Rattle.ch_model.specs.HostSteps.{own_address}
use Rattle.ch_model.specs.Naming.{Names, called}
use Rattle.ch_model.specs.Stages.{Pending}
use Rattle.ch_model.specs.WorldHappenings.{Answered, with_cell, cell_told, cell_hears}
use Rattle.ch_model.specs.WorldSockets.{other, ended, item_arrives, end_of_nobody, is_socket_named, store_in, with_end_of, find_end, cell_of, new_socket}
use Rattle.ch_model.specs.WorldState.{Cell, Named, WorldSocket, World}
use Rattle.ch_model.specs.WorldSteps.{note_entry, on_end, later_places, item_is_read, reads_item, end_closes, stepped, local_told, all_told}
use Rattle.ch_laws_log.specs.Declared.{is_declared}
use Rattle.ch_laws_log.specs.HostEnds.{steps_in}
use Rattle.ch_laws_log.proofs.Agreeing.{Good, keeps_good}
use Rattle.ch_laws_log.proofs.Kept.{one_told}
use Rattle.ch_laws_log.proofs.Stored.{number_is, number_same, next_is_new}
use Rattle.ch_laws_links.specs.Cells.{standing_local, ComesFreeTo}
use Rattle.ch_laws_links.specs.Naming.{IsNaming}
use Rattle.ch_laws_links.specs.Standing.{Standing, IsPending, IsOpen, IsRisen, IsOver, standing_at, standing_after, is_there, IsRight, AreRight}
use Rattle.ch_laws_links.proofs.Cells.{cell_naming}
use Rattle.ch_laws_links.proofs.Logs.{target_unnumbered}
use Rattle.ch_laws_writes.proofs.Found.{kept_ends}
use Rattle.ch_laws_writes.proofs.Walks.{ended_keeps, read_keeps, item_keeps, new_same}
use Rattle.ch_laws_accounts.specs.Openers.{is_of_declared}

-- all of these entries are
abbrev pub AreOf : List Named → List Entry → Type 0
AreOf known [] = Unit {0}
AreOf known (x ∷ rest) = (is_of_declared known x ≡ true) × AreOf known rest

pub of_both : (known : List Named) (xs ys : List Entry) → AreOf known xs → AreOf known ys → AreOf known (xs ++ ys)
of_both known [] ys a b = b
of_both known (x ∷ xs) ys a b = (a.0, of_both known xs ys a.1 b)

-- an opener's end is of a declared name
abbrev pub OfDeclared : List Named → SockName × End → Type 0
OfDeclared known at = at.1 ≡ O → is_declared known at.0.from ≡ true

-- so is each that the cell at a place has open
abbrev pub Fit : List Named → (ℕ → Option Standing) → ℕ → List WorldSocket → Type 0
Fit known now place sockets = (n : ℕ) (at : SockName × End) → find_end place n sockets ≡ Some at → is_there (now n) ≡ true → OfDeclared known at

pub fit_still : (known : List Named) (now next : ℕ → Option Standing) (place : ℕ) (one two : List WorldSocket) → ((n : ℕ) → find_end place n two ≡ find_end place n one) → ((n : ℕ) → is_there (next n) ≡ true → is_there (now n) ≡ true) → Fit known now place one → Fit known next place two
fit_still known now next place one two same less f n at found there = f n at (sym (same n) ∙ found) (less n there)

-- ---- steps

-- what a step tells is so, and the ends that are open after it were before
abbrev StepFits : List Named → (ℕ → Option Standing) → ℕ → List Entry × World → Type 0
StepFits known next place done = AreOf known done.0 × Fit known next place done.1.sockets

end_fits : (known : List Named) (now next : ℕ → Option Standing) (place sock : ℕ) (f : SockName × End → World → List Entry × World) (world : World) → ((n : ℕ) → is_there (next n) ≡ true → is_there (now n) ≡ true) → Fit known now place world.sockets
    → ((at : SockName × End) → find_end place sock world.sockets ≡ Some at → AreOf known (f at world).0 × ((n : ℕ) → find_end place n (f at world).1.sockets ≡ find_end place n world.sockets)) → StepFits known next place (on_end place sock f world)
end_fits known now next place sock f world less fit each = by_end (find_end place sock world.sockets) refl where
  told : Option (SockName × End) → List Entry × World
  told o = elim o as (λ o. List Entry × World) [
    | None ↦ ([], world)
    | Some at ↦ f at world
  ]

  by_end : (o : Option (SockName × End)) → find_end place sock world.sockets ≡ o → StepFits known next place (told o)
  by_end None e = (tt, fit_still known now next place world.sockets world.sockets (λ n. refl) less fit)
  by_end (Some at) e = let one = each at e in (one.0, fit_still known now next place world.sockets (f at world).1.sockets one.1 less fit)

up_less : (now : ℕ → Option Standing) (sock : ℕ) → now sock ≡ Some IsOpen → (n : ℕ) → is_there (standing_after (steps.Up sock) n (now n)) ≡ true → is_there (now n) ≡ true
up_less now sock right n = by_test (sock == n) refl where
  by_test : (b : Bool) → (sock == n) ≡ b → is_there (cond b (option_map (λ (s : Standing). IsRisen) (now n)) (now n)) ≡ true → is_there (now n) ≡ true
  by_test true e h = subst (λ (k : ℕ). is_there (now k) ≡ true) (number_is sock n e) (ap is_there right)
  by_test false e h = h

over_less : (b : Bool) (x : Option Standing) → is_there (cond b (option_map (λ (s : Standing). IsOver) x) x) ≡ true → is_there x ≡ true
over_less true None h = absurd cc
over_less true (Some s) h = absurd cc
over_less false x h = h

wrote_of : (known : List Named) (at : SockName × End) (bytes : List ℕ) → OfDeclared known at → is_of_declared known (entries.Wrote at.0 at.1 bytes) ≡ true
wrote_of known at bytes of = by_end at.1 of where
  by_end : (e : End) → (e ≡ O → is_declared known at.0.from ≡ true) → is_of_declared known (entries.Wrote at.0 e bytes) ≡ true
  by_end O of = of refl
  by_end T of = refl

read_same : (place : ℕ) (at : SockName × End) (world : World) (n : ℕ) → find_end place n (reads_item at world).1.sockets ≡ find_end place n world.sockets
read_same place at world n = by_socket (find_socket) where
  find_socket : Option WorldSocket
  find_socket = find (is_socket_named at.0) world.sockets

  by_socket : (o : Option WorldSocket) → find_end place n (item_is_read at o world).sockets ≡ find_end place n world.sockets
  by_socket None = refl
  by_socket (Some socket) = kept_ends at.0 at.1 (λ end. record end { places = later_places end.places }) world read_keeps place n

step_fits : (known : List Named) (journal : List Line) (log : List Entry) (place : ℕ) (cell : Cell) (step : Step) (world : World) (now : ℕ → Option Standing) → Good journal log world → IsRight now step → Fit known now place world.sockets → StepFits known (λ n. standing_after step n (now n)) place (stepped place cell step world)
step_fits known journal log place cell (steps.Dial sock end peer) world now g right fit = ((refl, tt), λ n at found there. by_test n at (sock == n) refl found there) where
  from : List ℕ
  from = called world.names (own_address cell.host end)

  to : List ℕ
  to = called world.names peer

  new : WorldSocket
  new = new_socket world from to cell.host.host (end_of_nobody (Some place) (Some sock) Pending) peer

  by_test : (n : ℕ) (at : SockName × End) (b : Bool) → (sock == n) ≡ b → find_end place n (store_in new world.sockets) ≡ Some at → is_there (cond b (Some IsPending) (now n)) ≡ true → OfDeclared known at
  by_test n at true e found there = absurd cc
  by_test n at false e found there = fit n at (sym (new_same place n new world.sockets (next_is_new world from to g.numbered) (target_unnumbered (cell_of world peer)) (ap (λ b. b && (sock == n)) (number_same place) ∙ e)) ∙ found) there
step_fits known journal log place cell (steps.Read sock) world now g right fit = end_fits known now now place sock reads_item world (λ n h. h) fit (λ at e. (tt, read_same place at world))
step_fits known journal log place cell (steps.Write sock bytes said) world now g right fit = end_fits known now now place sock (λ at then. (entries.Wrote at.0 at.1 bytes ∷ [], with_end_of at.0 (other at.1) (item_arrives bytes said) then)) world (λ n h. h) fit
    (λ at e. ((wrote_of known at bytes (fit sock at e right), tt), kept_ends at.0 (other at.1) (item_arrives bytes said) world (item_keeps bytes said) place))
step_fits known journal log place cell (steps.Up sock) world now g right fit = end_fits known now (λ n. standing_after (steps.Up sock) n (now n)) place sock (λ at then. (entries.Up at.0 at.1 ∷ [], then)) world (up_less now sock right) fit (λ at e. ((refl, tt), λ n. refl))
step_fits known journal log place cell (steps.Down sock) world now g right fit = end_fits known now (λ n. standing_after (steps.Down sock) n (now n)) place sock (λ at then. (entries.Down at.0 at.1 ∷ [], end_closes at then)) world (λ n. over_less (sock == n) (now n)) fit (λ at e. ((refl, tt), kept_ends at.0 at.1 ended world ended_keeps place))
step_fits known journal log place cell (steps.Left sock) world now g right fit = end_fits known now (λ n. standing_after (steps.Left sock) n (now n)) place sock (λ at then. (entries.Left at.0 at.1 ∷ [], end_closes at then)) world (λ n. over_less (sock == n) (now n)) fit (λ at e. ((refl, tt), kept_ends at.0 at.1 ended world ended_keeps place))
step_fits known journal log place cell (steps.Broke end peer why) world now g right fit = ((refl, tt), fit)
step_fits known journal log place cell (steps.Post end event) world now g right fit = (tt, fit)

-- ---- all that followed

note_of : (known : List Named) (names : Names) (last : Option Place) (note : Note) → is_of_declared known (note_entry names last note) ≡ true
note_of known names last (notes.Made process origin) = refl
note_of known names last note = refl

pub all_of : (known : List Named) (journal : List Line) (log : List Entry) (place : ℕ) (cell : Cell) (told : List LocalEntry) (world : World) (now : ℕ → Option Standing) → Good journal log world → AreRight now (steps_in told) → Fit known now place world.sockets → AreOf known (all_told place cell told world).0
all_of known journal log place cell [] world now g right fit = tt
all_of known journal log place cell (local.Note note ∷ rest) world now g right fit = (note_of known world.names world.last note, all_of known journal (log ++ note_entry world.names world.last note ∷ []) place cell rest (local_told place cell (local.Note note) world).1 now (one_told (Good journal) (keeps_good journal) log place cell (local.Note note) world g) right fit)
all_of known journal log place cell (local.Step step ∷ rest) world now g right fit = let one = step_fits known journal log place cell step world now g right.0 fit in
    of_both known (stepped place cell step world).0 (all_told place cell rest (stepped place cell step world).1).0 one.0
    (all_of known journal (log ++ (stepped place cell step world).0) place cell rest (stepped place cell step world).1 (λ n. standing_after step n (now n)) (one_told (Good journal) (keeps_good journal) log place cell (local.Step step) world g) right.1 one.1)

-- ---- what a cell hears

abbrev pub AnsweredOf : List Named → Answered → Type 0
AnsweredOf known (Ok done) = AreOf known done.0.1
AnsweredOf known (Err stop) = Unit {0}

-- a cell's host is naming, the event may come, and the ends that are open are of declared names
pub record MayTell (known : List Named) (place : ℕ) (cell : Cell) (event : LocalEvent) (sockets : List WorldSocket) : Type 0 where
  pub naming : IsNaming cell.host
  pub comes : ComesFreeTo cell.host event
  pub fit : Fit known (λ n. standing_local event n (standing_at cell.host n)) place sockets

pub hears_of : (known : List Named) (journal : List Line) (log : List Entry) (place : ℕ) (event : LocalEvent) (world : World) → Good journal log world → ((cell : Cell × ℕ) → slice_get world.cells place ≡ Some cell → MayTell known place cell.0 event world.sockets) → AnsweredOf known (cell_hears place event world)
hears_of known journal log place event world g may = by_cell (slice_get world.cells place) refl where
  by_done : (cell : Cell × ℕ) → slice_get world.cells place ≡ Some cell → (done : Celled) → cell_step cell.0 event ≡ done → AnsweredOf known (cell_told place cell world done)
  by_done cell at (Err stop) e = tt
  by_done cell at (Ok done) e = let m = may cell at in
      all_of known journal log place done.1 done.0.1 (with_cell place (done.1, cell.1) world) (λ n. standing_local event n (standing_at cell.0.host n)) ((keeps_good journal).cell log world place (done.1, cell.1) g) (cell_naming cell.0 done.1 event done.0.0 done.0.1 m.comes m.naming e).tells.right m.fit

  by_cell : (o : Option (Cell × ℕ)) → slice_get world.cells place ≡ o → AnsweredOf known (elim o as (λ o. Answered) [
    | None ↦ Ok ((verdicts.Nothing, []), world)
    | Some cell ↦ cell_told place cell world (cell_step cell.0 event)
  ])
  by_cell None e = tt
  by_cell (Some cell) e = by_done cell e (cell_step cell.0 event) refl
