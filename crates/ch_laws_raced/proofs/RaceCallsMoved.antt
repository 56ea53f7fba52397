-- From what a host's call is seen as to moves of two nodes in a world.
use Rattle.std.specs.Prelude.{◌≡◌, ℕ, List, [], Result, Ok, Err}
use Rattle.std.proofs.Common.{ap, sym, ◌∙◌, subst}
use Rattle.ch_model.specs.declared.step.Step.{Step}
use Rattle.ch_model.specs.HostState.{HostState}
use Rattle.ch_model.specs.HostSteps.{Stepped}
use Rattle.ch_model.specs.WorldState.{Cell, World}
use Rattle.ch_race.specs.Moves.{Move}
use Rattle.ch_race.specs.Pair.{Side}
use Rattle.ch_laws_race.specs.Others.{IsUnseen}
use Rattle.ch_laws_race.specs.Reading.{IsSeen}
use Rattle.ch_laws_race.specs.Scene.{Party}
use Rattle.ch_laws_calls.specs.Calls.{done_at}
use Rattle.ch_laws_calls.specs.Scenes.{IsMoved, scene_of}

-- what is done is done once
pub done_once : {A E : Type 0} (a b : A) → ◌≡◌ {A = Result A E} (Ok a) (Ok b) → a ≡ b
done_once {A = A} {E = E} a b h = ap {A = Result A E} {B = A} (λ r. elim r [ Ok z ↦ z | Err e ↦ a ]) h

-- the world after what the host of the cell at a place has done
abbrev pub world_after : ℕ → Cell × ℕ → World → List Step × HostState → World
world_after place cell world d = (done_at place cell d.0 d.1 world).1

module _ (party : Side → Party) (world : World) where
  -- what is seen of x's host
  pub moved_here : (x : Side) (cell : Cell × ℕ) (done : Stepped) (moves : List Move) (d : List Step × HostState) → IsSeen (scene_of party world) x cell done moves → done ≡ Ok d → IsMoved party world (world_after (party x).place cell world d)
  moved_here x cell done moves d s so = subst (λ (z : List Step × HostState). IsMoved party world (world_after (party x).place cell world z)) (done_once (s.steps, s.host) d (sym s.does ∙ so))
      (record { moves = moves; allowed = s.allowed; seen = s.seen })

  -- what is unseen of any host
  pub moved_nowhere : (place : ℕ) (cell : Cell × ℕ) (d : List Step × HostState) → IsUnseen (scene_of party world) place cell (Ok d) → IsMoved party world (world_after place cell world d)
  moved_nowhere place cell d u = subst (λ (z : List Step × HostState). IsMoved party world (world_after place cell world z)) (sym (done_once d (u.steps, u.host) u.does))
      (record { moves = []; allowed = tt; seen = u.same })
