-- The hosts and the world agree still once what a cell told has been done to the world.
use Rattle.std.proofs.Common.{◌≡◌, ◌≤◌, ℕ, ◌+◌, ◌*◌, Bool, true, false, cond, ◌&&◌, List, [], ◌∷◌, ◌++◌, Ok, Err, refl, sym, ap, ◌∙◌, subst, append_assoc}
use Rattle.std.proofs.lemmas.Bool.{and_parts}
use Rattle.std.proofs.lemmas.List.{append-nil}
use Rattle.std.specs.Option.{option_map}
use Rattle.std.specs.Prelude.{find, slice_get, slice_set, Option, Some, None, ◌==◌}
use Rattle.ch_model.specs.declared.entry.Entry.{Entry}
use Rattle.ch_model.specs.declared.entry.Verdict.TheVariants as verdicts
use Rattle.ch_model.specs.declared.line.Line.{Line}
use Rattle.ch_model.specs.declared.local.LocalEntry.{LocalEntry}
use Rattle.ch_model.specs.declared.local.LocalEntry.TheVariants as local
use Rattle.ch_model.specs.declared.local.LocalEvent.{LocalEvent}
use Rattle.ch_model.specs.declared.name.End.{End}
use Rattle.ch_model.specs.declared.name.End.TheVariants.{O, T}
use Rattle.ch_model.specs.declared.name.SockName.{SockName}
use Rattle.ch_model.specs.declared.step.Step.{Step}
use Rattle.ch_model.specs.declared.step.Step.TheVariants as steps
use Rattle.ch_model.specs.Cell.{Celled, cell_step}
use Rattle.ch_model.specs.HostState.{Socket, HostState}
use Rattle.ch_model.specs.HostSteps.{own_address}
use Rattle.ch_model.specs.Naming.{called}
use Rattle.ch_model.specs.Same.{same_socket}
use Rattle.ch_model.specs.Stages.{Stage, Pending, Open}
use Rattle.ch_model.specs.WorldHappenings.{Answered, with_cell, cell_told, cell_hears}
use Rattle.ch_model.specs.WorldSockets.{end_of, end_of_nobody, is_socket_named, store_in, is_end_of, end_at, find_end, cell_of, target_end, new_socket}
use Rattle.ch_model.specs.WorldState.{Cell, WorldSocket, World}
use Rattle.ch_model.specs.WorldSteps.{stepped, local_told, all_told}
use Rattle.ch_laws_log.specs.HostEnds.{stage_at, stage_after, stage_after_all, AreNewTo, IsNewTo, IsSound, Tells, steps_in, opens_no_end}
use Rattle.ch_laws_log.specs.WorldEnds.{stage_held, stage_there}
use Rattle.ch_laws_log.proofs.Agreeing.{Good, keeps_good}
use Rattle.ch_laws_log.proofs.CellTold as cells
use Rattle.ch_laws_log.proofs.Kept.{Led, one_told}
use Rattle.ch_laws_log.proofs.Stored.{number_is, number_same, same_is, find_stored, next_is_new}
use Rattle.ch_laws_log.proofs.WorldEnds.{told_held}
use Rattle.ch_laws_ends.specs.Agree.{AgreesOnEnds}
use Rattle.ch_laws_ends.proofs.Changes.{OnDial, step_as, told_cells}
use Rattle.ch_laws_ends.proofs.Found.{or_end, new_found, none_found, EachFound, each_kept}
use Rattle.ch_laws_ends.proofs.Known.{Sorted, keeps_sorted}
use Rattle.ch_laws_ends.proofs.Opened.{OpensTo, AllOpenedOn}
use Rattle.ch_laws_ends.proofs.Over.{Over, refused_in, same_over, told_over, told_unrefused, refused_still}
use Rattle.ch_laws_ends.proofs.Places.{got_same, set_twice, set_split, set_none}

-- ---- a new socket

-- each end is found still where a new socket comes, none of whose ends another has under its number
pub each_new : (new : WorldSocket) (sockets : List WorldSocket) → find (is_socket_named new.name) sockets ≡ None → ((e : End) (p n : ℕ) → is_end_of p n (end_of e new) ≡ true → (find_end p n sockets ≡ None) × (end_at p n new ≡ Some e)) → EachFound sockets → EachFound (store_in new sockets)
each_new new sockets none mine each t socket a p n found of = new_found p n new sockets none ∙ by_name (same_socket new.name t) refl (sym (find_stored new sockets t) ∙ found) where
  after : Option (SockName × End) → Option End → Option (SockName × End)
  after o at = elim o [
    | Some at ↦ Some at
    | None ↦ or_end new.name None at
  ]

  by_name : (b : Bool) → same_socket new.name t ≡ b → cond b (Some new) (find (is_socket_named t) sockets) ≡ Some socket → after (find_end p n sockets) (end_at p n new) ≡ Some (t, a)
  by_name true h found =
      let same : new ≡ socket = cc in
      let both = mine a p n (subst (λ (w : WorldSocket). is_end_of p n (end_of a w) ≡ true) (sym same) of) in
      ap (λ (o : Option (SockName × End)). after o (end_at p n new)) both.0 ∙ ap (after None) both.1 ∙ ap (λ (s : SockName). Some (s, a)) (same_is new.name t h)
  by_name false h found = ap (λ (o : Option (SockName × End)). after o (end_at p n new)) (each t socket a p n found of)

pub no_number : (c : Option ℕ) (p n : ℕ) → is_end_of p n (target_end c) ≡ false
no_number None p n = refl
no_number (Some m) p n = by_test (m == p) where
  by_test : (b : Bool) → (b && false) ≡ false
  by_test true = refl
  by_test false = refl

-- the socket that is dialed: its opener's end alone has a number, which is new
dial_each : (journal : List Line) (log : List Entry) (place : ℕ) (cell : Cell) (step : Step) (world : World) → Good journal log world → ((m : ℕ) → IsNewTo m step (stage_held place m world.sockets)) → EachFound world.sockets → OnDial (λ w. EachFound w.sockets) place cell step world
dial_each journal log place cell (steps.Dial sock end peer) world g fresh each = each_new new world.sockets (next_is_new world (called world.names (own_address cell.host end)) (called world.names peer) g.numbered) mine each where
  new : WorldSocket
  new = new_socket world (called world.names (own_address cell.host end)) (called world.names peer) cell.host.host (end_of_nobody (Some place) (Some sock) Pending) peer

  free : find_end place sock world.sockets ≡ None
  free = none_found place sock world.sockets (fresh sock (number_same sock))

  mine : (e : End) (p n : ℕ) → is_end_of p n (end_of e new) ≡ true → (find_end p n world.sockets ≡ None) × (end_at p n new ≡ Some e)
  mine O p n of = let both = and_parts (place == p) (sock == n) of in (
    subst (λ (k : ℕ). find_end k n world.sockets ≡ None) (number_is place p both.0) (subst (λ (k : ℕ). find_end place k world.sockets ≡ None) (number_is sock n both.1) free),
    ap (λ b. cond b (Some O) (cond (is_end_of p n new.t) (Some T) None)) of,
  )
  mine T p n of = let none = no_number (cell_of world peer) p n in absurd cc
dial_each journal log place cell step world g fresh each = tt

-- ---- all that was told

abbrev Both : List Line → List Entry → World → Type 0
Both journal log world = Sorted journal log world × EachFound world.sockets

told_kept : (journal : List Line) (place : ℕ) (cell : Cell) (told : List LocalEntry) (log : List Entry) (world : World) → Both journal log world → ((m : ℕ) → AreNewTo m (steps_in told) (stage_held place m world.sockets)) → Both journal (log ++ (all_told place cell told world).0) (all_told place cell told world).1
told_kept journal place cell [] log world b new = (subst (λ (l : List Entry). Sorted journal l world) (sym (append-nil log)) b.0, b.1)
told_kept journal place cell (local.Note note ∷ rest) log world b new =
    let one = local_told place cell (local.Note note) world in
    let more : Both journal ((log ++ one.0) ++ (all_told place cell rest one.1).0) (all_told place cell rest one.1).1 = told_kept journal place cell rest (log ++ one.0) one.1 (one_told (Sorted journal) (keeps_sorted journal) log place cell (local.Note note) world b.0, b.1) new in
    (subst (λ (l : List Entry). Sorted journal l (all_told place cell rest one.1).1) (append_assoc log one.0 (all_told place cell rest one.1).0) more.0, more.1)
told_kept journal place cell (local.Step step ∷ rest) log world b new =
    let one = local_told place cell (local.Step step) world in
    let more : Both journal ((log ++ one.0) ++ (all_told place cell rest one.1).0) (all_told place cell rest one.1).1 = told_kept journal place cell rest (log ++ one.0) one.1 (one_told (Sorted journal) (keeps_sorted journal) log place cell (local.Step step) world b.0, each) later in
    (subst (λ (l : List Entry). Sorted journal l (all_told place cell rest one.1).1) (append_assoc log one.0 (all_told place cell rest one.1).0) more.0, more.1)
  where
    each : EachFound (stepped place cell step world).1.sockets
    each = step_as (λ w. EachFound w.sockets) (λ one two c s k. subst EachFound (sym s) k) place cell step world (dial_each journal log place cell step world b.0.0 (λ m. (new m).0) b.1) (λ s e f c. each_kept s e f world c.changes.place b.1) b.1

    held : (m : ℕ) → stage_held place m (stepped place cell step world).1.sockets ≡ stage_after m step (stage_held place m world.sockets)
    held m = told_held journal log place place m cell (local.Step step ∷ []) world b.0.0 (λ k. ((new k).0, tt))
        ∙ ap (λ b. cond b (stage_after m step (stage_held place m world.sockets)) (stage_held place m world.sockets)) (number_same place)

    later : (m : ℕ) → AreNewTo m (steps_in rest) (stage_held place m (stepped place cell step world).1.sockets)
    later m = subst (λ (s : Option Stage). AreNewTo m (steps_in rest) s) (sym (held m)) (new m).1

-- ---- what is sure of a log and its world

-- The hosts and the world agree on the ends, each end is found under its number, and the sockets are as the log tells.
pub record Ends (journal : List Line) (log : List Entry) (world : World) : Type 0 where
  pub sorted : Sorted journal log world
  pub each : EachFound world.sockets
  pub agrees : AgreesOnEnds world

-- And where a dial was refused, its opener's end has ended.
pub record Sure (journal : List Line) (log : List Entry) (world : World) : Type 0 where
  pub ends : Ends journal log world
  pub over : Over (refused_in log) world.sockets

-- a host's next dials are new to the world, as they are to the host
pub agrees_by : (world : World) → ((place : ℕ) (cell : Cell × ℕ) → slice_get world.cells place ≡ Some cell → IsSound cell.0.host)
    → ((place : ℕ) (cell : Cell × ℕ) → slice_get world.cells place ≡ Some cell → (n : ℕ) → stage_at cell.0.host n ≡ stage_held place n world.sockets)
    → ((place : ℕ) (cell : Cell × ℕ) → slice_get world.cells place ≡ Some cell → (k : ℕ) → cell.1 ≤ k → stage_held place (2 * k + 1) world.sockets ≡ None)
    → ((place n : ℕ) → slice_get world.cells place ≡ None → stage_held place n world.sockets ≡ None) → AgreesOnEnds world
agrees_by world sound ends accepted nowhere = record {
  sound = sound;
  ends = ends;
  accepted = accepted;
  dialed = λ place cell at k l. sym (ends place cell at (2 * k)) ∙ ap (option_map (λ (w : Socket). w.stage)) ((sound place cell at).free k l);
  nowhere = nowhere;
}

-- the ends stand as before, and so do the cells
pub agrees_still : (one two : World) → two.cells ≡ one.cells → ((p n : ℕ) → stage_held p n two.sockets ≡ stage_held p n one.sockets) → AgreesOnEnds one → AgreesOnEnds two
agrees_still one two cells held a = agrees_by two (λ p c at. a.sound p c (there p at)) (λ p c at n. a.ends p c (there p at) n ∙ sym (held p n)) (λ p c at k l. held p (2 * k + 1) ∙ a.accepted p c (there p at) k l) (λ p n at. held p n ∙ a.nowhere p n (there p at)) where
  there : (p : ℕ) {o : Option (Cell × ℕ)} → slice_get two.cells p ≡ o → slice_get one.cells p ≡ o
  there p e = ap (λ (l : List (Cell × ℕ)). slice_get l p) (sym cells) ∙ e

-- what a cell told of its ends is done to the world's
pub told_ends : (journal : List Line) (log : List Entry) (world : World) (place : ℕ) (cell : Cell × ℕ) (after : Cell) (told : List LocalEntry) → Ends journal log world → slice_get world.cells place ≡ Some cell → Tells cell.0.host (steps_in told) after.host
    → Ends journal (log ++ (all_told place after told (with_cell place (after, cell.1) world)).0) (all_told place after told (with_cell place (after, cell.1) world)).1
told_ends journal log world place cell after told s at t = record {
  sorted = both.0;
  each = both.1;
  agrees = agrees_by final
      (λ p c f. split (λ p c. IsSound c.0.host) t.sound (λ p c e f. s.agrees.sound p c f) p c (there p f))
      (λ p c f. split (λ p c. (n : ℕ) → stage_at c.0.host n ≡ stage_held p n final.sockets)
      (λ n. t.stages n ∙ ap (stage_after_all n (steps_in told)) (s.agrees.ends place cell at n) ∙ sym (held_here n))
      (λ p c e f n. s.agrees.ends p c f n ∙ sym (held_elsewhere p n e)) p c (there p f))
      (λ p c f. split (λ p c. (k : ℕ) → c.1 ≤ k → stage_held p (2 * k + 1) final.sockets ≡ None)
      (λ k l. held_here (2 * k + 1) ∙ ap (stage_after_all (2 * k + 1) (steps_in told)) (s.agrees.accepted place cell at k l) ∙ t.even k)
      (λ p c e f k l. held_elsewhere p (2 * k + 1) e ∙ s.agrees.accepted p c f k l) p c (there p f))
      (λ p n f. let none = set_none world.cells place cell (after, cell.1) p at (there p f) in held_elsewhere p n none.0 ∙ s.agrees.nowhere p n none.1);
} where
  kept : World
  kept = with_cell place (after, cell.1) world

  final : World
  final = (all_told place after told kept).1

  new : (m : ℕ) → AreNewTo m (steps_in told) (stage_held place m world.sockets)
  new m = subst (λ (o : Option Stage). AreNewTo m (steps_in told) o) (s.agrees.ends place cell at m) (t.new m)

  sorted : Sorted journal log kept
  sorted = (keeps_sorted journal).cell log world place (after, cell.1) s.sorted

  both : Both journal (log ++ (all_told place after told kept).0) final
  both = told_kept journal place after told log kept (sorted, s.each) new

  held : (p n : ℕ) → stage_held p n final.sockets ≡ stage_there place p (stage_after_all n (steps_in told) (stage_held p n world.sockets)) (stage_held p n world.sockets)
  held p n = told_held journal log place p n after told kept sorted.0 new

  held_here : (n : ℕ) → stage_held place n final.sockets ≡ stage_after_all n (steps_in told) (stage_held place n world.sockets)
  held_here n = held place n ∙ ap (λ b. cond b (stage_after_all n (steps_in told) (stage_held place n world.sockets)) (stage_held place n world.sockets)) (number_same place)

  held_elsewhere : (p n : ℕ) → (place == p) ≡ false → stage_held p n final.sockets ≡ stage_held p n world.sockets
  held_elsewhere p n e = held p n ∙ ap (λ b. cond b (stage_after_all n (steps_in told) (stage_held p n world.sockets)) (stage_held p n world.sockets)) e

  there : (p : ℕ) {o : Option (Cell × ℕ)} → slice_get final.cells p ≡ o → slice_get (slice_set world.cells place (after, cell.1)) p ≡ o
  there p e = ap (λ (l : List (Cell × ℕ)). slice_get l p) (sym (told_cells place after told kept)) ∙ e

  split : (Q : ℕ → Cell × ℕ → Type 0) → Q place (after, cell.1) → ((p : ℕ) (c : Cell × ℕ) → (place == p) ≡ false → slice_get world.cells p ≡ Some c → Q p c) → (p : ℕ) (c : Cell × ℕ) → slice_get (slice_set world.cells place (after, cell.1)) p ≡ Some c → Q p c
  split Q own other p c f = set_split world.cells place cell (after, cell.1) at Q own other p c f

pub told_sure : (journal : List Line) (log : List Entry) (world : World) (place : ℕ) (cell : Cell × ℕ) (after : Cell) (told : List LocalEntry) → Sure journal log world → slice_get world.cells place ≡ Some cell → Tells cell.0.host (steps_in told) after.host
    → Sure journal (log ++ (all_told place after told (with_cell place (after, cell.1) world)).0) (all_told place after told (with_cell place (after, cell.1) world)).1
told_sure journal log world place cell after told s at t = record {
  ends = told_ends journal log world place cell after told s.ends at t;
  over = same_over (refused_in log) (refused_in (log ++ (all_told place after told kept).0)) (all_told place after told kept).1.sockets (λ n. refused_still log (all_told place after told kept).0 n (told_unrefused n place after told kept))
      (told_over journal (refused_in log) place after told log kept ((keeps_good journal).cell log world place (after, cell.1) s.ends.sorted.0) s.over);
} where
  kept : World
  kept = with_cell place (after, cell.1) world

-- ---- a cell hears an event that opens none of its ends

pub rests : (journal : List Line) (log : List Entry) (world : World) → Sure journal log world → Sure journal (log ++ []) world
rests journal log world s = subst (λ (l : List Entry). Sure journal l world) (sym (append-nil log)) s

pub hears_sure : (journal : List Line) (log : List Entry) (place : ℕ) (event : LocalEvent) (world : World) → opens_no_end event ≡ true → Sure journal log world → Led (Sure journal) log (cell_hears place event world)
hears_sure journal log place event world of s = by_cell (slice_get world.cells place) refl where
  by_done : (cell : Cell × ℕ) → slice_get world.cells place ≡ Some cell → (done : Celled) → cell_step cell.0 event ≡ done → Led (Sure journal) log (cell_told place cell world done)
  by_done cell at (Err stop) e = tt
  by_done cell at (Ok done) e = told_sure journal log world place cell done.1 done.0.1 s at (cells.cell_told cell.0 done.1 event done.0.0 done.0.1 of (s.ends.agrees.sound place cell at) e)

  by_cell : (o : Option (Cell × ℕ)) → slice_get world.cells place ≡ o → Led (Sure journal) log (elim o as (λ o. Answered) [
    | None ↦ Ok ((verdicts.Nothing, []), world)
    | Some cell ↦ cell_told place cell world (cell_step cell.0 event)
  ])
  by_cell None at = rests journal log world s
  by_cell (Some cell) at = by_done cell at (cell_step cell.0 event) refl

-- ---- a cell hears that an end of it has opened

-- Where an end has opened in the world and at its host, they agree.
pub opened_agrees : (world after : World) (place : ℕ) (before : Cell × ℕ) (new : Cell) (count sock : ℕ) → AgreesOnEnds world → slice_get world.cells place ≡ Some before → after.cells ≡ slice_set world.cells place (new, count) → OpensTo before.0.host new.host sock
    → ((p n : ℕ) → stage_held p n after.sockets ≡ cond ((place == p) && (sock == n)) (Some Open) (stage_held p n world.sockets))
    → ((k : ℕ) → count ≤ k → ((sock == 2 * k + 1) ≡ false) × (before.1 ≤ k)) → AgreesOnEnds after
opened_agrees world after place before new count sock a at cells to held past = agrees_by after
    (λ p c f. split (λ p c. IsSound c.0.host) to.sound (λ p c e f. a.sound p c f) p c (there p f))
    (λ p c f. split (λ p c. (n : ℕ) → stage_at c.0.host n ≡ stage_held p n after.sockets)
    (λ n. to.stages n ∙ ap (λ (o : Option Stage). cond (sock == n) (Some Open) o) (a.ends place before at n) ∙ sym (held_here n))
    (λ p c e f n. a.ends p c f n ∙ sym (held_elsewhere p n e)) p c (there p f))
    (λ p c f. split (λ p c. (k : ℕ) → c.1 ≤ k → stage_held p (2 * k + 1) after.sockets ≡ None)
    (λ k l. held_here (2 * k + 1) ∙ ap (λ b. cond b (Some Open) (stage_held place (2 * k + 1) world.sockets)) (past k l).0 ∙ a.accepted place before at k (past k l).1)
    (λ p c e f k l. held_elsewhere p (2 * k + 1) e ∙ a.accepted p c f k l) p c (there p f))
    (λ p n f. let none = set_none world.cells place before (new, count) p at (there p f) in held_elsewhere p n none.0 ∙ a.nowhere p n none.1)
  where
    held_here : (n : ℕ) → stage_held place n after.sockets ≡ cond (sock == n) (Some Open) (stage_held place n world.sockets)
    held_here n = held place n ∙ ap (λ b. cond (b && (sock == n)) (Some Open) (stage_held place n world.sockets)) (number_same place)

    held_elsewhere : (p n : ℕ) → (place == p) ≡ false → stage_held p n after.sockets ≡ stage_held p n world.sockets
    held_elsewhere p n e = held p n ∙ ap (λ b. cond (b && (sock == n)) (Some Open) (stage_held p n world.sockets)) e

    there : (p : ℕ) {o : Option (Cell × ℕ)} → slice_get after.cells p ≡ o → slice_get (slice_set world.cells place (new, count)) p ≡ o
    there p e = ap (λ (l : List (Cell × ℕ)). slice_get l p) (sym cells) ∙ e

    split : (Q : ℕ → Cell × ℕ → Type 0) → Q place (new, count) → ((p : ℕ) (c : Cell × ℕ) → (place == p) ≡ false → slice_get world.cells p ≡ Some c → Q p c) → (p : ℕ) (c : Cell × ℕ) → slice_get (slice_set world.cells place (new, count)) p ≡ Some c → Q p c
    split Q own other p c f = set_split world.cells place before (new, count) at Q own other p c f

-- The world's end is open already, and the host opens it as it hears of that.
pub opens_sure : (journal : List Line) (log : List Entry) (place sock : ℕ) (cell : Cell × ℕ) (event : LocalEvent) (world : World) → Sorted journal log world → EachFound world.sockets → Over (refused_in log) world.sockets → slice_get world.cells place ≡ Some cell
    → ((opened : HostState) → OpensTo cell.0.host opened sock → AgreesOnEnds (with_cell place (record cell.0 { host = opened }, cell.1) world))
    → AllOpenedOn cell.0 sock (cell_step cell.0 event) → Led (Sure journal) log (cell_told place cell world (cell_step cell.0 event))
opens_sure journal log place sock cell event world sorted each over at agrees on = by_done (cell_step cell.0 event) on where
  by_done : (done : Celled) → AllOpenedOn cell.0 sock done → Led (Sure journal) log (cell_told place cell world done)
  by_done (Err stop) o = tt
  by_done (Ok done) o = subst (λ (l : List (Cell × ℕ)). Sure journal (log ++ (all_told place done.1 done.0.1 (record world { cells = l })).0) (all_told place done.1 done.0.1 (record world { cells = l })).1) (set_twice world.cells place (opened, cell.1) (done.1, cell.1))
      (told_sure journal log (with_cell place (opened, cell.1) world) place (opened, cell.1) done.1 done.0.1 sure (got_same world.cells place cell (opened, cell.1) at) o.tells) where
        opened : Cell
        opened = record cell.0 { host = o.opened }

        sure : Sure journal log (with_cell place (opened, cell.1) world)
        sure = record { ends = record { sorted = (keeps_sorted journal).cell log world place (opened, cell.1) sorted; each = each; agrees = agrees o.opened o.to }; over = over }
