-- Calls of a host in one event, one after another, as moves.
use mathlib.Core.Path.{fun_ext}
use Rattle.std.specs.Prelude.{◌≡◌, ℕ, zero, suc, ◌+◌, Bool, not, cond, nat_eq, nat_lt, ◌&&◌, ◌==◌, List, [], ◌∷◌, ◌++◌, length, slice_get, slice_set, Option, Some, None}
use Rattle.std.specs.List.{position_or_len, position}
use Rattle.std.specs.Str.{bytes_eq}
use Rattle.std.proofs.Common.{refl, ap, sym, ◌∙◌, subst}
use Rattle.std.proofs.lemmas.Option.{slice_get_within}
use Rattle.ch_base.specs.declared.address.Address.{Address}
use Rattle.ch_light.proofs.Lists.{set_here}
use Rattle.ch_model.specs.declared.local.LocalEvent.{LocalEvent}
use Rattle.ch_model.specs.declared.step.Step.{Step}
use Rattle.ch_model.specs.declared.step.Step.TheVariants as steps
use Rattle.ch_model.specs.HostState.{HostState}
use Rattle.ch_model.specs.WorldState.{Cell, WorldSocket, World}
use Rattle.ch_model.specs.WorldSockets.{is_host_of, cell_of}
use Rattle.ch_model.specs.WorldSteps.{stepped, all_told}
use Rattle.ch_model.specs.CellSteps.{told_steps}
use Rattle.ch_model.specs.Cell.{cell_step}
use Rattle.ch_model.specs.WorldHappenings.{Answered, nothing, with_cell, cell_told, cell_hears}
use Rattle.ch_race.specs.Pair.{Side, Pair}
use Rattle.ch_race.specs.Moves.{Move, AllAllowed, run, after}
use Rattle.ch_laws_race.specs.Scene.{Scene, host_in, hosts_of, done_by}
use Rattle.ch_laws_race.specs.View.{seen, view}
use Rattle.ch_laws_race.specs.Happenings.{IsHappening}
use Rattle.ch_laws_race.specs.Chains.{Calls, scene_after, cell_after, AreCalls, moves_of, steps_in, host_in_end, steps_told, unposted, IsOfCalls}
use Rattle.ch_laws_race.proofs.Sockets.{by_test, same_place, given, none}
use Rattle.ch_laws_race.proofs.Views.{at_place, hosts_set}
use Rattle.ch_laws_race.proofs.Two.{placed_twice}
use Rattle.ch_laws_race.proofs.Same.{Same, all_same, told_after, all_cells}

-- ---- places of hosts

first_set : {X : Type 0} (p : X → Bool) (xs : List X) (i : ℕ) (x y : X) → slice_get xs i ≡ Some x → p y ≡ p x → position_or_len p (slice_set xs i y) ≡ position_or_len p xs
first_set p [] i x y at same = none x at
first_set p (z ∷ xs) zero x y at same = ap (λ b. cond (not b) (1 + position_or_len p xs) 0) (same ∙ ap p (sym (given z x at)))
first_set p (z ∷ xs) (suc i) x y at same = ap (λ (n : ℕ). cond (not (p z)) (1 + n) 0) (first_set p xs i x y at same)

length_set : {X : Type 0} (xs : List X) (i : ℕ) (y : X) → length (slice_set xs i y) ≡ length xs
length_set [] i y = refl
length_set (x ∷ xs) zero y = refl
length_set (x ∷ xs) (suc i) y = ap suc (length_set xs i y)

place_set : {X : Type 0} (p : X → Bool) (xs : List X) (i : ℕ) (x y : X) → slice_get xs i ≡ Some x → p y ≡ p x → position p (slice_set xs i y) ≡ position p xs
place_set p xs i x y at same = ap (λ (n : ℕ). cond (nat_lt n (length (slice_set xs i y))) (Some n) None) (first_set p xs i x y at same) ∙ ap (λ (n : ℕ). cond (nat_lt (position_or_len p xs) n) (Some (position_or_len p xs)) None) (length_set xs i y)

host_at : (a : Address) (c d : Cell × ℕ) → c.0.host.host ≡ d.0.host.host → c.0.host.port ≡ d.0.host.port → is_host_of a c ≡ is_host_of a d
host_at a c d text port = ap (λ (z : List ℕ). bytes_eq z a.host && c.0.host.port == a.port) text ∙ ap (λ (z : ℕ). bytes_eq d.0.host.host a.host && z == a.port) port

pub cell_stays : (w : World) (place : ℕ) (cell now : Cell × ℕ) (a : Address) → slice_get w.cells place ≡ Some cell → now.0.host.host ≡ cell.0.host.host → now.0.host.port ≡ cell.0.host.port → cell_of (with_cell place now w) a ≡ cell_of w a
cell_stays w place cell now a there text port = place_set (is_host_of a) w.cells place cell now there (host_at a now cell text port)

-- ---- moves after moves

run_more : (a b : List Move) (v : Pair) → run (a ++ b) v ≡ run b (run a v)
run_more [] b v = refl
run_more (m ∷ a) b v = run_more a b (after m v)

allowed_more : (a b : List Move) (v : Pair) → AllAllowed a v → AllAllowed b (run a v) → AllAllowed (a ++ b) v
allowed_more [] b v h k = k
allowed_more (m ∷ a) b v h k = (h.0, allowed_more a b (after m v) h.1 k)

-- ---- the world after all calls, each in turn

abbrev world_in_end : (scene : Scene) (x : Side) (cell : Cell × ℕ) (calls : Calls) → AreCalls scene x cell calls → World
world_in_end scene x cell [] are = scene.world
world_in_end scene x cell (one ∷ rest) are = world_in_end (scene_after scene x cell one.0 one.1 are.0) x (cell_after scene x cell one.0 one.1 are.0) rest are.1

seen_end : (scene : Scene) (x : Side) (cell : Cell × ℕ) (calls : Calls) (are : AreCalls scene x cell calls) → view (record scene { world = world_in_end scene x cell calls are }) ≡ run (moves_of calls) (view scene)
seen_end scene x cell [] are = refl
seen_end scene x cell (one ∷ rest) are = seen_end (scene_after scene x cell one.0 one.1 are.0) x (cell_after scene x cell one.0 one.1 are.0) rest are.1
    ∙ ap (run (moves_of rest)) are.0.seen.seen ∙ sym (run_more one.1 (moves_of rest) (view scene))

allowed_end : (scene : Scene) (x : Side) (cell : Cell × ℕ) (calls : Calls) → AreCalls scene x cell calls → AllAllowed (moves_of calls) (view scene)
allowed_end scene x cell [] are = tt
allowed_end scene x cell (one ∷ rest) are = allowed_more one.1 (moves_of rest) (view scene) are.0.seen.allowed
    (subst (AllAllowed (moves_of rest)) are.0.seen.seen (allowed_end (scene_after scene x cell one.0 one.1 are.0) x (cell_after scene x cell one.0 one.1 are.0) rest are.1))

text_end : (scene : Scene) (x : Side) (cell : Cell × ℕ) (calls : Calls) (are : AreCalls scene x cell calls) → (host_in_end scene x cell calls are).host ≡ cell.0.host.host
text_end scene x cell [] are = refl
text_end scene x cell (one ∷ rest) are = text_end (scene_after scene x cell one.0 one.1 are.0) x (cell_after scene x cell one.0 one.1 are.0) rest are.1 ∙ are.0.text

port_end : (scene : Scene) (x : Side) (cell : Cell × ℕ) (calls : Calls) (are : AreCalls scene x cell calls) → (host_in_end scene x cell calls are).port ≡ cell.0.host.port
port_end scene x cell [] are = refl
port_end scene x cell (one ∷ rest) are = port_end (scene_after scene x cell one.0 one.1 are.0) x (cell_after scene x cell one.0 one.1 are.0) rest are.1 ∙ are.0.port

-- the hosts of a world whose cells are these
of_cells : (w v : World) → w.cells ≡ v.cells → hosts_of w ≡ hosts_of v
of_cells w v same = ap (λ (z : List (Cell × ℕ)). λ (p : ℕ). host_in (slice_get z p)) same

pub placed_same : (p : ℕ) (hosts : ℕ → HostState) → at_place p (hosts p) hosts ≡ hosts
placed_same p hosts = fun_ext at where
  at : (q : ℕ) → at_place p (hosts p) hosts q ≡ hosts q
  at q = by_test (nat_eq q p) (λ h. ap (λ b. cond b (hosts p) (hosts q)) h ∙ ap hosts (same_place p q h)) (λ h. ap (λ b. cond b (hosts p) (hosts q)) h)

done_cells : (place : ℕ) (cell : Cell × ℕ) (done : List Step) (host : HostState) (w : World) → (done_by place cell done host w).cells ≡ slice_set w.cells place (record (cell.0) { host = host }, cell.1)
done_cells place cell done host w = all_cells place (record (cell.0) { host = host }) (told_steps done) (with_cell place (record (cell.0) { host = host }, cell.1) w)

hosts_end : (scene : Scene) (x : Side) (cell : Cell × ℕ) (calls : Calls) (are : AreCalls scene x cell calls) → slice_get scene.world.cells (scene.party x).place ≡ Some cell
    → hosts_of (world_in_end scene x cell calls are) ≡ at_place (scene.party x).place (host_in_end scene x cell calls are) (hosts_of scene.world)
hosts_end scene x cell [] are there = sym (ap (λ (z : HostState). at_place (scene.party x).place z (hosts_of scene.world)) (sym (ap host_in there)) ∙ placed_same (scene.party x).place (hosts_of scene.world))
hosts_end scene x cell (one ∷ rest) are there =
    hosts_end (scene_after scene x cell one.0 one.1 are.0) x (cell_after scene x cell one.0 one.1 are.0) rest are.1 there_now
    ∙ ap (at_place (scene.party x).place End) hosts_now ∙ placed_twice (scene.party x).place End are.0.seen.host (hosts_of scene.world) where
      Now : Cell × ℕ
      Now = cell_after scene x cell one.0 one.1 are.0

      End : HostState
      End = host_in_end (scene_after scene x cell one.0 one.1 are.0) x (cell_after scene x cell one.0 one.1 are.0) rest are.1

      there_now : slice_get (scene_after scene x cell one.0 one.1 are.0).world.cells (scene.party x).place ≡ Some (cell_after scene x cell one.0 one.1 are.0)
      there_now = ap (λ (z : List (Cell × ℕ)). slice_get z (scene.party x).place) (done_cells (scene.party x).place cell are.0.seen.steps are.0.seen.host scene.world)
          ∙ set_here scene.world.cells (scene.party x).place (cell_after scene x cell one.0 one.1 are.0) (slice_get_within scene.world.cells (scene.party x).place cell there)

      hosts_now : hosts_of (scene_after scene x cell one.0 one.1 are.0).world ≡ at_place (scene.party x).place are.0.seen.host (hosts_of scene.world)
      hosts_now = of_cells (scene_after scene x cell one.0 one.1 are.0).world (with_cell (scene.party x).place (cell_after scene x cell one.0 one.1 are.0) scene.world) (done_cells (scene.party x).place cell are.0.seen.steps are.0.seen.host scene.world)
          ∙ hosts_set scene.world (scene.party x).place cell (record (cell.0) { host = are.0.seen.host }) cell.1 there

-- ---- all calls at once

same_trans : (u v w : World) → Same u v → Same v w → Same u w
same_trans u v w a b = record { names = a.names ∙ b.names; sockets = a.sockets ∙ b.sockets; places = λ z. a.places z ∙ b.places z }

only_steps : (done : List Step) → steps_told (told_steps done) ≡ done
only_steps [] = refl
only_steps (step ∷ rest) = ap (λ (z : List Step). step ∷ z) (only_steps rest)

same_end : (scene : Scene) (x : Side) (cell : Cell × ℕ) (calls : Calls) (are : AreCalls scene x cell calls) (w : World) (c : Cell) → slice_get scene.world.cells (scene.party x).place ≡ Some cell
    → c.host.host ≡ cell.0.host.host → c.host.port ≡ cell.0.host.port → Same w scene.world → Same (all_told (scene.party x).place c (told_steps (steps_in scene x cell calls are)) w).1 (world_in_end scene x cell calls are)
same_end scene x cell [] are w c there text port h = h
same_end scene x cell (one ∷ rest) are w c there text port h =
    subst (λ (z : World). Same z (world_in_end (scene_after scene x cell one.0 one.1 are.0) x (cell_after scene x cell one.0 one.1 are.0) rest are.1))
    (sym (told_after (scene.party x).place c are.0.seen.steps (steps_in (scene_after scene x cell one.0 one.1 are.0) x (cell_after scene x cell one.0 one.1 are.0) rest are.1) w))
    (same_end (scene_after scene x cell one.0 one.1 are.0) x (cell_after scene x cell one.0 one.1 are.0) rest are.1 (all_told (scene.party x).place c (told_steps are.0.seen.steps) w).1 c there_now
    (text ∙ sym are.0.text) (port ∙ sym are.0.port) same_now) where
      there_now : slice_get (scene_after scene x cell one.0 one.1 are.0).world.cells (scene.party x).place ≡ Some (cell_after scene x cell one.0 one.1 are.0)
      there_now = ap (λ (z : List (Cell × ℕ)). slice_get z (scene.party x).place) (done_cells (scene.party x).place cell are.0.seen.steps are.0.seen.host scene.world)
          ∙ set_here scene.world.cells (scene.party x).place (cell_after scene x cell one.0 one.1 are.0) (slice_get_within scene.world.cells (scene.party x).place cell there)

      begins : Same w (with_cell (scene.party x).place (cell_after scene x cell one.0 one.1 are.0) scene.world)
      begins = record { names = h.names; sockets = h.sockets; places = λ a. h.places a ∙ sym (cell_stays scene.world (scene.party x).place cell (cell_after scene x cell one.0 one.1 are.0) a there are.0.text are.0.port) }

      same_now : Same (all_told (scene.party x).place c (told_steps are.0.seen.steps) w).1 (scene_after scene x cell one.0 one.1 are.0).world
      same_now = subst (λ (z : List Step). Same (all_told (scene.party x).place c (told_steps are.0.seen.steps) w).1 (all_told (scene.party x).place (cell_after scene x cell one.0 one.1 are.0).0 (told_steps z) (with_cell (scene.party x).place (cell_after scene x cell one.0 one.1 are.0) scene.world)).1)
          (only_steps are.0.seen.steps)
          (all_same (scene.party x).place c (cell_after scene x cell one.0 one.1 are.0).0 (told_steps are.0.seen.steps) w (with_cell (scene.party x).place (cell_after scene x cell one.0 one.1 are.0) scene.world)
          (text ∙ sym are.0.text) (port ∙ sym are.0.port) begins)

-- what is posted changes nothing of the world
posts_gone : (place : ℕ) (c : Cell) (done : List Step) (w : World) → (all_told place c (told_steps (unposted done)) w).1 ≡ (all_told place c (told_steps done) w).1
posts_gone place c [] w = refl
posts_gone place c (steps.Post end event ∷ rest) w = posts_gone place c rest w
posts_gone place c (steps.Dial sock end peer ∷ rest) w = posts_gone place c rest (stepped place c (steps.Dial sock end peer) w).1
posts_gone place c (steps.Read sock ∷ rest) w = posts_gone place c rest (stepped place c (steps.Read sock) w).1
posts_gone place c (steps.Write sock bytes said ∷ rest) w = posts_gone place c rest (stepped place c (steps.Write sock bytes said) w).1
posts_gone place c (steps.Up sock ∷ rest) w = posts_gone place c rest (stepped place c (steps.Up sock) w).1
posts_gone place c (steps.Down sock ∷ rest) w = posts_gone place c rest (stepped place c (steps.Down sock) w).1
posts_gone place c (steps.Left sock ∷ rest) w = posts_gone place c rest (stepped place c (steps.Left sock) w).1
posts_gone place c (steps.Broke end peer why ∷ rest) w = posts_gone place c rest w

pub in_turn : (scene : Scene) (x : Side) (cell : Cell × ℕ) (event : LocalEvent) (calls : Calls) → IsOfCalls scene x cell event calls → IsHappening scene (cell_hears (scene.party x).place event scene.world) (moves_of calls)
in_turn scene x cell event calls h = record {
  verdict = h.verdict;
  entries = (all_told (scene.party x).place h.after h.told (with_cell (scene.party x).place (h.after, cell.1) scene.world)).0;
  now = (all_told (scene.party x).place h.after h.told (with_cell (scene.party x).place (h.after, cell.1) scene.world)).1;
  does = ap (λ (o : Option (Cell × ℕ)). elim o as (λ o. Answered) [ None ↦ nothing scene.world | Some c ↦ cell_told (scene.party x).place c scene.world (cell_step c.0 event) ]) h.there ∙ ap (cell_told (scene.party x).place cell scene.world) h.does;
  allowed = allowed_end scene x cell calls h.are;
  seen = ap (λ (f : ℕ → HostState). seen scene.party f Actual.sockets scene.quiet) hosts_now ∙ ap (λ (z : List WorldSocket). seen scene.party (hosts_of Last) z scene.quiet) same_now.sockets ∙ seen_end scene x cell calls h.are;
} where
  Actual : World
  Actual = (all_told (scene.party x).place h.after h.told (with_cell (scene.party x).place (h.after, cell.1) scene.world)).1

  Last : World
  Last = world_in_end scene x cell calls h.are

  text : h.after.host.host ≡ cell.0.host.host
  text = ap (λ (z : HostState). z.host) h.host ∙ text_end scene x cell calls h.are

  port : h.after.host.port ≡ cell.0.host.port
  port = ap (λ (z : HostState). z.port) h.host ∙ port_end scene x cell calls h.are

  begins : Same (with_cell (scene.party x).place (h.after, cell.1) scene.world) scene.world
  begins = record { names = refl; sockets = refl; places = λ a. cell_stays scene.world (scene.party x).place cell (h.after, cell.1) a h.there text port }

  same_now : Same Actual Last
  same_now = same_trans Actual (all_told (scene.party x).place h.after (told_steps (steps_told h.told)) (with_cell (scene.party x).place (h.after, cell.1) scene.world)).1 Last
      (all_same (scene.party x).place h.after h.after h.told (with_cell (scene.party x).place (h.after, cell.1) scene.world) (with_cell (scene.party x).place (h.after, cell.1) scene.world) refl refl
      (record { names = refl; sockets = refl; places = λ a. refl }))
      (subst (λ (z : World). Same z Last)
      (sym (ap (λ (z : List Step). (all_told (scene.party x).place h.after (told_steps z) (with_cell (scene.party x).place (h.after, cell.1) scene.world)).1) h.steps
      ∙ posts_gone (scene.party x).place h.after (steps_in scene x cell calls h.are) (with_cell (scene.party x).place (h.after, cell.1) scene.world)))
      (same_end scene x cell calls h.are (with_cell (scene.party x).place (h.after, cell.1) scene.world) h.after h.there text port begins))

  hosts_now : hosts_of Actual ≡ hosts_of Last
  hosts_now = of_cells Actual (with_cell (scene.party x).place (h.after, cell.1) scene.world) (all_cells (scene.party x).place h.after h.told (with_cell (scene.party x).place (h.after, cell.1) scene.world))
      ∙ hosts_set scene.world (scene.party x).place cell h.after cell.1 h.there
      ∙ ap (λ (z : HostState). at_place (scene.party x).place z (hosts_of scene.world)) h.host ∙ sym (hosts_end scene x cell calls h.are h.there)
