-- Turns in which nothing is said between nodes and no connection is opened: links have given an id for each pair still.
use Rattle.std.proofs.Common.{◌≡◌, ℕ, zero, suc, Bool, true, false, cond, ◌||◌, List, [], ◌∷◌, ◌++◌, length, Ok, Err, refl, sym, ap, ◌∙◌, subst}
use Rattle.std.proofs.Common.{inl, inr, ◌⊎◌}
use Rattle.std.proofs.lemmas.Bool.{and_parts}
use Rattle.std.proofs.lemmas.List.Folds.{list_all-append, list_any-append}
use Rattle.std.specs.List.{list_all, list_any}
use Rattle.std.specs.Prelude.{slice_get, slice_set, Option, Some}
use Rattle.ch_model.specs.declared.entry.Entry.{Entry}
use Rattle.ch_model.specs.declared.line.Line.{Line}
use Rattle.ch_model.specs.declared.local.LocalEntry.{LocalEntry}
use Rattle.ch_model.specs.declared.local.LocalEntry.TheVariants as local
use Rattle.ch_model.specs.declared.step.SocketEvent.{SocketEvent}
use Rattle.ch_model.specs.declared.step.Step.{Step}
use Rattle.ch_model.specs.declared.step.Step.TheVariants as steps
use Rattle.ch_model.specs.AnswersCounts.{connections}
use Rattle.ch_model.specs.CellSteps.{Followed, after_entries, ◌then◌, told_steps, posted, step_on, steps_on}
use Rattle.ch_model.specs.Host.{host_on, host_next}
use Rattle.ch_model.specs.HostState.{HostState}
use Rattle.ch_model.specs.WorldState.{Cell, World}
use Rattle.ch_model.specs.WorldSteps.{stepped, local_told, all_told}
use Rattle.ch_race.specs.Pair.{Side, other}
use Rattle.ch_laws_log.specs.HostEnds.{steps_in}
use Rattle.ch_laws_race.specs.Scene.{Party, host_in, link_of}
use Rattle.ch_laws_calls.specs.Scenes.{IsPairOf, scene_of}
use Rattle.ch_laws_connections.specs.Tables.{given_at}
use Rattle.ch_laws_connections.proofs.HostItems.{next_goes, event_goes}
use Rattle.ch_laws_connections.proofs.HostLinks.{Goes, AllGo}
use Rattle.ch_laws_plain_logs.specs.Plain.{is_plain, IsPlain}
use Rattle.ch_laws_messages.specs.SendsSends.{LinksWeighed, AllGive}
use Rattle.ch_laws_messages.proofs.SendsBegun.{begun_from, connections_more}
use Rattle.ch_laws_messages.proofs.SendsHosts.{IsHonest, next_well, on_well}
use Rattle.ch_laws_messages.proofs.SendsHostActs.{SameGiven}
use Rattle.ch_laws_messages.proofs.GotHosts.{is_broke}

-- ---- a cell that is set in its place

pub got_set : (cells : List (Cell × ℕ)) (place : ℕ) (new : Cell × ℕ) (q : ℕ) (c : Cell × ℕ) → slice_get (slice_set cells place new) q ≡ Some c → (new ≡ c) ⊎ (slice_get cells q ≡ Some c)
got_set [] place new q c e = absurd cc
got_set (first ∷ rest) zero new zero c e = inl cc
got_set (first ∷ rest) zero new (suc q) c e = inr e
got_set (first ∷ rest) (suc place) new zero c e = inr e
got_set (first ∷ rest) (suc place) new (suc q) c e = got_set rest place new q c e

-- it is there, and all others are as they were
pub set_at : (cells : List (Cell × ℕ)) (place : ℕ) (cell new : Cell × ℕ) → slice_get cells place ≡ Some cell → (q : ℕ) → ((q ≡ place) × (slice_get (slice_set cells place new) q ≡ Some new)) ⊎ ((q ≡ place → ⊥) × (slice_get (slice_set cells place new) q ≡ slice_get cells q))
set_at [] place cell new e q = absurd cc
set_at (first ∷ rest) zero cell new e zero = inl (refl, refl)
set_at (first ∷ rest) zero cell new e (suc q) = inr ((λ h. absurd cc), refl)
set_at (first ∷ rest) (suc place) cell new e zero = inr ((λ h. absurd cc), refl)
set_at (first ∷ rest) (suc place) cell new e (suc q) = by_rest (set_at rest place cell new e q) where
  down : suc q ≡ suc place → q ≡ place
  down h = cc

  by_rest : ((q ≡ place) × (slice_get (slice_set rest place new) q ≡ Some new)) ⊎ ((q ≡ place → ⊥) × (slice_get (slice_set rest place new) q ≡ slice_get rest q))
      → ((suc q ≡ suc place) × (slice_get (slice_set rest place new) q ≡ Some new)) ⊎ ((suc q ≡ suc place → ⊥) × (slice_get (slice_set rest place new) q ≡ slice_get rest q))
  by_rest (inl h) = inl (ap suc h.0, h.1)
  by_rest (inr h) = inr ((λ k. h.0 (down k)), h.1)

-- ---- a turn

-- What is so after a turn of the cell at a place: of each two nodes, the links of that cell and of others.
pub record TurnGives (journal : List Line) (log more : List Entry) (world : World) (place : ℕ) (cell new : Cell × ℕ) : Type 0 where
  pub weighed : LinksWeighed new.0.host.links
  pub here : (party : Side → Party) → IsPairOf journal party → (x : Side) → (party x).place ≡ place → (n : ℕ) → length (given_at cell.0.host (party x).address.id (party (other x)).address) ≡ n
      → length (given_at new.0.host (party x).address.id (party (other x)).address) ≡ begun_from (party x).name (party (other x)).name n more
  pub away : (party : Side → Party) → IsPairOf journal party → (x : Side) → ((party x).place ≡ place → ⊥) → (n : ℕ) → begun_from (party x).name (party (other x)).name n more ≡ n

pub turn_gives : (journal : List Line) (log more : List Entry) (world after : World) (place : ℕ) (cell new : Cell × ℕ) → slice_get world.cells place ≡ Some cell → after.cells ≡ slice_set world.cells place new → IsPlain log → IsPlain (log ++ more) → TurnGives journal log more world place cell new
    → AllGive journal log world → AllGive journal (log ++ more) after
turn_gives journal log more world after place cell new at cells plain now t g = record { weighed = weighs; level = levels } where
  weighs : (q : ℕ) (c : Cell × ℕ) → slice_get after.cells q ≡ Some c → LinksWeighed c.0.host.links
  weighs q c e = by_got (got_set world.cells place new q c (ap (λ (l : List (Cell × ℕ)). slice_get l q) (sym cells) ∙ e)) where
    by_got : (new ≡ c) ⊎ (slice_get world.cells q ≡ Some c) → LinksWeighed c.0.host.links
    by_got (inl is) = subst (λ (d : Cell × ℕ). LinksWeighed d.0.host.links) is t.weighed
    by_got (inr there) = g.weighed q c there

  levels : (party : Side → Party) → IsPairOf journal party → (x : Side) → length (link_of (scene_of party after) x).given ≡ connections (log ++ more) (party x).name (party (other x)).name
  levels party pair x = ap (λ (l : List (Cell × ℕ)). length (given_at (host_in (slice_get l (party x).place)) (party x).address.id (party (other x)).address)) cells
      ∙ by_place (set_at world.cells place cell new at (party x).place) ∙ sym (connections_more (party x).name (party (other x)).name log more plain now) where
        by_place : (((party x).place ≡ place) × (slice_get (slice_set world.cells place new) (party x).place ≡ Some new)) ⊎ (((party x).place ≡ place → ⊥) × (slice_get (slice_set world.cells place new) (party x).place ≡ slice_get world.cells (party x).place))
            → length (given_at (host_in (slice_get (slice_set world.cells place new) (party x).place)) (party x).address.id (party (other x)).address) ≡ begun_from (party x).name (party (other x)).name (connections log (party x).name (party (other x)).name) more
        by_place (inl h) = ap (λ (o : Option (Cell × ℕ)). length (given_at (host_in o) (party x).address.id (party (other x)).address)) h.1
            ∙ t.here party pair x h.0 (connections log (party x).name (party (other x)).name)
            (ap (λ (o : Option (Cell × ℕ)). length (given_at (host_in o) (party x).address.id (party (other x)).address)) (sym at ∙ ap (slice_get world.cells) (sym h.0)) ∙ g.level party pair x)
        by_place (inr h) = ap (λ (o : Option (Cell × ℕ)). length (given_at (host_in o) (party x).address.id (party (other x)).address)) h.1 ∙ g.level party pair x ∙ sym (t.away party pair x h.0 (connections log (party x).name (party (other x)).name))

-- a turn in which nothing is said, and as many ids are given then
pub rest_gives : (journal : List Line) (log more : List Entry) (world after : World) (place : ℕ) (cell new : Cell × ℕ) → slice_get world.cells place ≡ Some cell → after.cells ≡ slice_set world.cells place new → IsPlain log → IsPlain (log ++ more) → LinksWeighed new.0.host.links → SameGiven cell.0.host new.0.host
    → ((x y : List ℕ) (n : ℕ) → begun_from x y n more ≡ n) → AllGive journal log world → AllGive journal (log ++ more) after
rest_gives journal log more world after place cell new at cells plain now weighed same silent g = turn_gives journal log more world after place cell new at cells plain now (record {
  weighed = weighed;
  here = λ party pair x is n level. same (party x).address.id (party (other x)).address ∙ level ∙ sym (silent (party x).name (party (other x)).name n);
  away = λ party pair x not n. silent (party x).name (party (other x)).name n;
}) g

-- ---- no link is broken

plain_parts : (xs ys : List Entry) → IsPlain (xs ++ ys) → IsPlain xs × IsPlain ys
plain_parts xs ys p = and_parts (list_all is_plain xs) (list_all is_plain ys) (sym (list_all-append is_plain xs ys) ∙ p)

pub last_plain : (xs ys : List Entry) → IsPlain (xs ++ ys) → IsPlain ys
last_plain xs ys p = (plain_parts xs ys p).1

-- where what is told is plain, no link is broken
pub none_broke : (place : ℕ) (cell : Cell) (told : List LocalEntry) (world : World) → IsPlain (all_told place cell told world).0 → list_any is_broke (steps_in told) ≡ false
none_broke place cell [] world p = refl
none_broke place cell (local.Note note ∷ rest) world p = none_broke place cell rest (local_told place cell (local.Note note) world).1 (plain_parts (local_told place cell (local.Note note) world).0 (all_told place cell rest (local_told place cell (local.Note note) world).1).0 p).1
none_broke place cell (local.Step step ∷ rest) world p =
    let parts = plain_parts (stepped place cell step world).0 (all_told place cell rest (stepped place cell step world).1).0 p in
    both (is_broke step) (list_any is_broke (steps_in rest)) (by_step step parts.0) (none_broke place cell rest (stepped place cell step world).1 parts.1)
  where
    both : (a b : Bool) → a ≡ false → b ≡ false → (a || b) ≡ false
    both true b e f = absurd cc
    both false b e f = f

    by_step : (step : Step) → IsPlain (stepped place cell step world).0 → is_broke step ≡ false
    by_step (steps.Broke end peer why) p = absurd cc
    by_step (steps.Dial sock end peer) p = refl
    by_step (steps.Read sock) p = refl
    by_step (steps.Write sock bytes said) p = refl
    by_step (steps.Up sock) p = refl
    by_step (steps.Down sock) p = refl
    by_step (steps.Left sock) p = refl
    by_step (steps.Post end event) p = refl

pub steps_back : (done : List Step) → steps_in (told_steps done) ≡ done
steps_back [] = refl
steps_back (step ∷ rest) = ap (λ l. step ∷ l) (steps_back rest)

-- what nodes make of steps tells those that break links
abbrev BreaksToo : Bool → Followed → Type 0
BreaksToo broke (Ok told) = list_any is_broke (steps_in told.0) ≡ false → broke ≡ false
BreaksToo broke (Err stop) = Unit {0}

whatever : (r : Followed) → BreaksToo false r
whatever (Ok told) = λ e. refl
whatever (Err stop) = tt

one_breaks : (step : Step) (cell : Cell) → BreaksToo (is_broke step) (step_on step cell)
one_breaks (steps.Broke end peer why) cell = λ e. e
one_breaks (steps.Post end event) cell = whatever (posted end event cell)
one_breaks (steps.Dial sock end peer) cell = λ e. refl
one_breaks (steps.Read sock) cell = λ e. refl
one_breaks (steps.Write sock bytes said) cell = λ e. refl
one_breaks (steps.Up sock) cell = λ e. refl
one_breaks (steps.Down sock) cell = λ e. refl
one_breaks (steps.Left sock) cell = λ e. refl

neither : (a b : Bool) → (a || b) ≡ false → (a ≡ false) × (b ≡ false)
neither true b e = absurd cc
neither false b e = (refl, e)

both_none : (a b : Bool) → a ≡ false → b ≡ false → (a || b) ≡ false
both_none true b e f = absurd cc
both_none false b e f = f

steps_append : (xs ys : List LocalEntry) → steps_in (xs ++ ys) ≡ steps_in xs ++ steps_in ys
steps_append [] ys = refl
steps_append (local.Step one ∷ xs) ys = ap (λ l. one ∷ l) (steps_append xs ys)
steps_append (local.Note note ∷ xs) ys = steps_append xs ys

all_break : (done : List Step) (cell : Cell) → BreaksToo (list_any is_broke done) (steps_on done cell)
all_break [] cell = λ e. refl
all_break (step ∷ rest) cell = by_one (step_on step cell) (one_breaks step cell) (λ next. all_break rest next) where
  by_more : (told : List LocalEntry) → (list_any is_broke (steps_in told) ≡ false → is_broke step ≡ false) → (more : Followed) → BreaksToo (list_any is_broke rest) more → BreaksToo (is_broke step || list_any is_broke rest) (after_entries told more)
  by_more told o (Ok more) m = λ e. let parts = neither (list_any is_broke (steps_in told)) (list_any is_broke (steps_in more.0)) (sym (list_any-append is_broke (steps_in told) (steps_in more.0)) ∙ ap (list_any is_broke) (sym (steps_append told more.0)) ∙ e) in
      both_none (is_broke step) (list_any is_broke rest) (o parts.0) (m parts.1)
  by_more told o (Err stop) m = tt

  by_one : (one : Followed) → BreaksToo (is_broke step) one → ((next : Cell) → BreaksToo (list_any is_broke rest) (steps_on rest next)) → BreaksToo (is_broke step || list_any is_broke rest) (one then steps_on rest)
  by_one (Ok told) o k = by_more told.0 o (steps_on rest told.1) (k told.1)
  by_one (Err stop) o k = tt

pub posts_break : (done : List Step) (cell after : Cell) (told : List LocalEntry) → steps_on done cell ≡ Ok (told, after) → list_any is_broke (steps_in told) ≡ false → list_any is_broke done ≡ false
posts_break done cell after told e = subst (BreaksToo (list_any is_broke done)) e (all_break done cell)

-- ---- as many ids are given

goes_same : (host after : HostState) (told : List Step) → Goes host told after → IsHonest told → list_any is_broke told ≡ false → SameGiven host after
goes_same host after told g honest none = λ e p. ap length (g.given e p ∙ ap (λ b. cond b [] (given_at host e p)) (honest none e p))

pub next_same : (host after : HostState) (told : List Step) → host_next host ≡ Ok (Some told, after) → LinksWeighed host.links → list_any is_broke told ≡ false → LinksWeighed after.links × SameGiven host after
next_same host after told e l none = let w = next_well host after told e l in (w.0, goes_same host after told (next_goes host after told e) w.1 none)

pub on_same : (host after : HostState) (event : SocketEvent) (told : List Step) → host_on host event ≡ Ok (told, after) → LinksWeighed host.links → list_any is_broke told ≡ false → LinksWeighed after.links × SameGiven host after
on_same host after event told e l none = let w = on_well host after event told e l in (w.0, goes_same host after told (subst (AllGo host) e (event_goes host event)) w.1 none)
