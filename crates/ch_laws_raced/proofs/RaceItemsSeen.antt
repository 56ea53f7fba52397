-- From what a host does and how it is seen, to what is seen of the world after it.
use Rattle.std.specs.Prelude.{◌≡◌, ℕ, List, [], Ok}
use Rattle.std.proofs.Common.{ap, sym, ◌∙◌}
use Rattle.ch_model.specs.declared.step.Step.{Step}
use Rattle.ch_model.specs.HostState.{Socket, HostState}
use Rattle.ch_model.specs.HostSteps.{Stepped}
use Rattle.ch_model.specs.WorldState.{Cell, World}
use Rattle.ch_race.specs.Pair.{Side, Pair}
use Rattle.ch_race.specs.Moves.{Move}
use Rattle.ch_laws_race.specs.Others.{IsUnseen}
use Rattle.ch_laws_race.specs.Reading.{IsSeen, reads_front}
use Rattle.ch_laws_race.specs.Scene.{Party, Scene, done_by, after_steps}
use Rattle.ch_laws_race.specs.View.{view}
use Rattle.ch_laws_calls.specs.Calls.{done_at}
use Rattle.ch_laws_calls.specs.Scenes.{scene_of, IsMoved}

-- what a host does with the front of a socket's bytes is seen as some moves
abbrev pub IsShown : Scene → Side → Cell × ℕ → Socket → Type 0
IsShown scene x cell known = (moves : List Move) × IsSeen scene x cell (reads_front scene x known) moves

abbrev steps_in : Stepped → List Step → List Step
steps_in (Ok one) none = one.0
steps_in _ none = none

abbrev host_in : Stepped → HostState → HostState
host_in (Ok one) none = one.1
host_in _ none = none

same_steps : (a b : List Step) (h k : HostState) → ◌≡◌ {A = Stepped} (Ok (a, h)) (Ok (b, k)) → a ≡ b
same_steps a b h k e = ap (λ (s : Stepped). steps_in s a) e

same_host : (a b : List Step) (h k : HostState) → ◌≡◌ {A = Stepped} (Ok (a, h)) (Ok (b, k)) → h ≡ k
same_host a b h k e = ap (λ (s : Stepped). host_in s h) e

pub moved : (party : Side → Party) (world : World) (x : Side) (cell : Cell × ℕ) (done : Stepped) (steps : List Step) (host : HostState) → (moves : List Move) × IsSeen (scene_of party world) x cell done moves → done ≡ Ok (steps, host)
    → IsMoved party world (done_at (party x).place cell steps host world).1
moved party world x cell done steps host shown does = record {
  moves = shown.0;
  allowed = shown.1.allowed;
  seen = sym (ap after (same_steps shown.1.steps steps shown.1.host host same)) ∙ same_after ∙ shown.1.seen;
} where
  same : ◌≡◌ {A = Stepped} (Ok (shown.1.steps, shown.1.host)) (Ok (steps, host))
  same = sym shown.1.does ∙ does

  after : List Step → Pair
  after s = view (after_steps (scene_of party world) x cell s host)

  same_after : view (after_steps (scene_of party world) x cell shown.1.steps host) ≡ view (after_steps (scene_of party world) x cell shown.1.steps shown.1.host)
  same_after = sym (ap (λ (h : HostState). view (after_steps (scene_of party world) x cell shown.1.steps h)) (same_host shown.1.steps steps shown.1.host host same))

pub unmoved : (party : Side → Party) (world : World) (place : ℕ) (cell : Cell × ℕ) (steps : List Step) (host : HostState) → IsUnseen (scene_of party world) place cell (Ok (steps, host)) → IsMoved party world (done_at place cell steps host world).1
unmoved party world place cell steps host unseen = record {
  moves = [];
  allowed = tt;
  seen = ap after (same_steps steps unseen.steps host unseen.host unseen.does) ∙ now_host ∙ unseen.same;
} where
  after : List Step → Pair
  after s = view (record (scene_of party world) { world = done_by place cell s host world })

  now_host : view (record (scene_of party world) { world = done_by place cell unseen.steps host world }) ≡ view (record (scene_of party world) { world = done_by place cell unseen.steps unseen.host world })
  now_host = ap (λ (h : HostState). view (record (scene_of party world) { world = done_by place cell unseen.steps h world })) (same_host steps unseen.steps host unseen.host unseen.does)
