-- All that a cell told, step by step, keeps the streams of all sockets.
use Rattle.std.proofs.Common.{◌≡◌, ℕ, Bool, true, false, cond, List, [], ◌∷◌, ◌++◌, refl, sym, ap, ◌∙◌, subst}
use Rattle.std.proofs.lemmas.Bool.{and_parts}
use Rattle.std.specs.Prelude.{find, Option, Some, None, ◌==◌}
use Rattle.ch_base.specs.declared.address.Address.{Address}
use Rattle.ch_model.specs.declared.entry.Entry.{Entry}
use Rattle.ch_model.specs.declared.entry.Entry.TheVariants as entries
use Rattle.ch_model.specs.declared.line.Line.{Line}
use Rattle.ch_model.specs.declared.local.LocalEntry.{LocalEntry}
use Rattle.ch_model.specs.declared.local.LocalEntry.TheVariants as local
use Rattle.ch_model.specs.declared.name.End.{End}
use Rattle.ch_model.specs.declared.name.End.TheVariants.{O, T}
use Rattle.ch_model.specs.declared.name.SockName.{SockName}
use Rattle.ch_model.specs.declared.step.Step.{Step}
use Rattle.ch_model.specs.declared.step.Step.TheVariants as steps
use Rattle.ch_model.specs.HostSteps.{own_address}
use Rattle.ch_model.specs.Naming.{Names, called}
use Rattle.ch_model.specs.Stages.{Stage, Pending, Ended}
use Rattle.ch_model.specs.WorldSockets.{end_of, other, with_end, ended, item_arrives, end_of_nobody, is_socket_named, with_socket, with_end_of, is_end_of, end_at, find_end, cell_of, new_socket}
use Rattle.ch_model.specs.WorldState.{Cell, WorldEnd, WorldSocket, World}
use Rattle.ch_model.specs.WorldSteps.{later_places, item_is_read, reads_item, end_closes, stepped, local_told, all_told}
use Rattle.ch_laws_log.specs.HostEnds.{stage_after, AreNewTo, IsNewTo, steps_in}
use Rattle.ch_laws_log.specs.WorldEnds.{stage_held}
use Rattle.ch_laws_log.proofs.Agreeing.{Good}
use Rattle.ch_laws_log.proofs.Kept.{one_told}
use Rattle.ch_laws_log.proofs.Stored.{number_is, number_same, next_is_new}
use Rattle.ch_laws_log.proofs.WorldEnds.{told_held}
use Rattle.ch_laws_ends.proofs.Changes.{OnDial, step_as}
use Rattle.ch_laws_ends.proofs.Found.{none_found, EachFound, each_kept}
use Rattle.ch_laws_ends.proofs.Known.{Sorted, keeps_sorted}
use Rattle.ch_laws_ends.proofs.Told.{each_new, no_number}
use Rattle.ch_laws_writes.specs.Dues.{Due, due_after, due_after_all, AllDue}
use Rattle.ch_laws_bytes.specs.Streams.{Reader, AllFlow, moved, all_moved}
use Rattle.ch_laws_bytes.proofs.Stepped.{ReadsFirst, at_end_flow, step_flow}

-- ---- names stay

pub end_names : (s : SockName) (e : End) (f : WorldEnd → WorldEnd) (world : World) → (with_end_of s e f world).names ≡ world.names
end_names s e f world = by_socket (find (is_socket_named s) world.sockets) where
  by_socket : (o : Option WorldSocket) → (elim o as (λ o. World) [
    | None ↦ world
    | Some socket ↦ with_socket (with_end e (f (end_of e socket)) socket) world
  ]).names ≡ world.names
  by_socket None = refl
  by_socket (Some socket) = refl

step_names : (place : ℕ) (cell : Cell) (step : Step) (world : World) → (stepped place cell step world).1.names ≡ world.names
step_names place cell (steps.Dial sock end peer) world = refl
step_names place cell (steps.Read sock) world = at_end_flow (λ w. w.names ≡ world.names) place sock reads_item world (λ at e. by_socket at (find (is_socket_named at.0) world.sockets)) (λ e. refl) where
  by_socket : (at : SockName × End) (o : Option WorldSocket) → (item_is_read at o world).names ≡ world.names
  by_socket at None = refl
  by_socket at (Some socket) = end_names at.0 at.1 (λ end. record end { places = later_places end.places }) world
step_names place cell (steps.Write sock bytes said) world = at_end_flow (λ w. w.names ≡ world.names) place sock (λ at now. (entries.Wrote at.0 at.1 bytes ∷ [], with_end_of at.0 (other at.1) (item_arrives bytes said) now)) world (λ at e. end_names at.0 (other at.1) (item_arrives bytes said) world) (λ e. refl)
step_names place cell (steps.Up sock) world = at_end_flow (λ w. w.names ≡ world.names) place sock (λ at now. (entries.Up at.0 at.1 ∷ [], now)) world (λ at e. refl) (λ e. refl)
step_names place cell (steps.Down sock) world = at_end_flow (λ w. w.names ≡ world.names) place sock (λ at now. (entries.Down at.0 at.1 ∷ [], end_closes at now)) world (λ at e. end_names at.0 at.1 ended world) (λ e. refl)
step_names place cell (steps.Left sock) world = at_end_flow (λ w. w.names ≡ world.names) place sock (λ at now. (entries.Left at.0 at.1 ∷ [], end_closes at now)) world (λ at e. end_names at.0 at.1 ended world) (λ e. refl)
step_names place cell (steps.Broke end peer why) world = refl
step_names place cell (steps.Post end event) world = refl

pub told_names : (place : ℕ) (cell : Cell) (told : List LocalEntry) (world : World) → (all_told place cell told world).1.names ≡ world.names
told_names place cell [] world = refl
told_names place cell (local.Note note ∷ rest) world = told_names place cell rest (local_told place cell (local.Note note) world).1
told_names place cell (local.Step step ∷ rest) world = told_names place cell rest (local_told place cell (local.Step step) world).1 ∙ step_names place cell step world

-- ---- each end is found still

-- the socket that is dialed: its opener's end alone has a number, which is new
dial_each : (journal : List Line) (log : List Entry) (place : ℕ) (cell : Cell) (step : Step) (world : World) → Good journal log world → ((m : ℕ) → IsNewTo m step (stage_held place m world.sockets)) → EachFound world.sockets → OnDial (λ w. EachFound w.sockets) place cell step world
dial_each journal log place cell (steps.Dial sock end peer) world g fresh each = each_new new world.sockets (next_is_new world (called world.names (own_address cell.host end)) (called world.names peer) g.numbered) mine each where
  new : WorldSocket
  new = new_socket world (called world.names (own_address cell.host end)) (called world.names peer) cell.host.host (end_of_nobody (Some place) (Some sock) Pending) peer

  free : find_end place sock world.sockets ≡ None
  free = none_found place sock world.sockets (fresh sock (number_same sock))

  mine : (e : End) (p n : ℕ) → is_end_of p n (end_of e new) ≡ true → (find_end p n world.sockets ≡ None) × (end_at p n new ≡ Some e)
  mine O p n of = let both = and_parts (place == p) (sock == n) of in (
    subst (λ (k : ℕ). find_end k n world.sockets ≡ None) (number_is place p both.0) (subst (λ (k : ℕ). find_end place k world.sockets ≡ None) (number_is sock n both.1) free),
    ap (λ b. cond b (Some O) (cond (is_end_of p n new.t) (Some T) None)) of,
  )
  mine T p n of = let none = no_number (cell_of world peer) p n in absurd cc
dial_each journal log place cell step world g fresh each = tt

-- ---- all that was told

-- what all steps need: each writes what is due then, and a socket that is dialed is new, and has nothing to read but an answer
pub record MaySayAll (own : ℕ → ℕ → Address) (readers : ℕ → ℕ → Option Reader) (dues : ℕ → ℕ → Option Due) (place : ℕ) (told : List Step) (world : World) : Type 0 where
  pub new : (n : ℕ) → AreNewTo n told (stage_held place n world.sockets)
  pub due : (n : ℕ) → AllDue (own place) n told (dues place n)
  pub first : (n : ℕ) → stage_held place n world.sockets ≡ None → ReadsFirst (readers place n)

none_before : (n : ℕ) (step : Step) (stage : Option Stage) → stage_after n step stage ≡ None → stage ≡ None
none_before n step None e = refl
none_before n (steps.Dial sock end peer) (Some stage) e = by_test (sock == n) e where
  by_test : (b : Bool) → ◌≡◌ {A = Option Stage} (cond b (Some Pending) (Some stage)) None → ◌≡◌ {A = Option Stage} (Some stage) None
  by_test true e = absurd cc
  by_test false e = e
none_before n (steps.Down sock) (Some stage) e = by_test (sock == n) e where
  by_test : (b : Bool) → ◌≡◌ {A = Option Stage} (cond b (Some Ended) (Some stage)) None → ◌≡◌ {A = Option Stage} (Some stage) None
  by_test true e = absurd cc
  by_test false e = e
none_before n (steps.Left sock) (Some stage) e = by_test (sock == n) e where
  by_test : (b : Bool) → ◌≡◌ {A = Option Stage} (cond b (Some Ended) (Some stage)) None → ◌≡◌ {A = Option Stage} (Some stage) None
  by_test true e = absurd cc
  by_test false e = e
none_before n (steps.Read sock) (Some stage) e = e
none_before n (steps.Write sock bytes said) (Some stage) e = e
none_before n (steps.Up sock) (Some stage) e = e
none_before n (steps.Broke end peer why) (Some stage) e = e
none_before n (steps.Post end event) (Some stage) e = e

pub told_flow : (own : ℕ → ℕ → Address) (readers : ℕ → ℕ → Option Reader) (dues : ℕ → ℕ → Option Due) (journal : List Line) (place : ℕ) (cell : Cell) (told : List LocalEntry) (log : List Entry) (world : World) → Sorted journal log world → EachFound world.sockets → ((end : ℕ) → own_address cell.host end ≡ own place end)
    → MaySayAll own readers dues place (steps_in told) world → AllFlow own world.names readers dues world.sockets → AllFlow own world.names readers (all_moved place (steps_in told) dues) (all_told place cell told world).1.sockets
told_flow own readers dues journal place cell [] log world g each own_is may all = all
told_flow own readers dues journal place cell (local.Note note ∷ rest) log world g each own_is may all =
    told_flow own readers dues journal place cell rest (log ++ (local_told place cell (local.Note note) world).0) (local_told place cell (local.Note note) world).1 (one_told (Sorted journal) (keeps_sorted journal) log place cell (local.Note note) world g) each own_is
    (record { new = may.new; due = may.due; first = may.first }) all
told_flow own readers dues journal place cell (local.Step step ∷ rest) log world g each own_is may all = subst (λ (known : Names). AllFlow own known readers (all_moved place (steps_in rest) two) (all_told place cell rest one).1.sockets) (step_names place cell step world)
    (told_flow own readers two journal place cell rest (log ++ (stepped place cell step world).0) one (one_told (Sorted journal) (keeps_sorted journal) log place cell (local.Step step) world g) now own_is later
    (subst (λ (known : Names). AllFlow own known readers two one.sockets) (sym (step_names place cell step world)) done)) where
      one : World
      one = (stepped place cell step world).1

      two : ℕ → ℕ → Option Due
      two = moved place step dues

      now : EachFound one.sockets
      now = step_as (λ w. EachFound w.sockets) (λ one two c s k. subst EachFound (sym s) k) place cell step world (dial_each journal log place cell step world g.0 (λ m. (may.new m).0) each) (λ s e f c. each_kept s e f world c.changes.place each) each

      held : (m : ℕ) → stage_held place m one.sockets ≡ stage_after m step (stage_held place m world.sockets)
      held m = told_held journal log place place m cell (local.Step step ∷ []) world g.0 (λ k. ((may.new k).0, tt))
          ∙ ap (λ b. cond b (stage_after m step (stage_held place m world.sockets)) (stage_held place m world.sockets)) (number_same place)

      later : MaySayAll own readers two place (steps_in rest) one
      later = record {
        new = λ m. subst (λ (s : Option Stage). AreNewTo m (steps_in rest) s) (sym (held m)) (may.new m).1;
        due = λ m. subst (λ (d : Option Due). AllDue (own place) m (steps_in rest) d) (sym (ap (λ b. cond b (due_after m step (dues place m)) (dues place m)) (number_same place))) (may.due m).1;
        first = λ m e. may.first m (none_before m step (stage_held place m world.sockets) (sym (held m) ∙ e));
      }

      done : AllFlow own world.names readers two one.sockets
      done = step_flow own readers dues journal log place cell step world g each own_is (record { new = λ m. (may.new m).0; due = λ m. (may.due m).0; first = may.first }) all

-- what is due after all of it
pub moved_is : (place : ℕ) (told : List Step) (dues : ℕ → ℕ → Option Due) (p n : ℕ) → all_moved place told dues p n ≡ cond (place == p) (due_after_all n told (dues p n)) (dues p n)
moved_is place [] dues p n = sym (either (place == p) (dues p n)) where
  either : (b : Bool) (x : Option Due) → cond b x x ≡ x
  either true x = refl
  either false x = refl
moved_is place (step ∷ rest) dues p n = moved_is place rest (moved place step dues) p n ∙ by_test (place == p) where
  by_test : (b : Bool) → cond b (due_after_all n rest (cond b (due_after n step (dues p n)) (dues p n))) (cond b (due_after n step (dues p n)) (dues p n)) ≡ cond b (due_after_all n rest (due_after n step (dues p n))) (dues p n)
  by_test true = refl
  by_test false = refl
