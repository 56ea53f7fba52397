-- Which end of a socket between two nodes is whose, and which is of neither.
use Rattle.std.specs.Prelude.{◌≡◌, ◌==◌, ◌&&◌, ℕ, suc, Bool, true, false, cond, List, [], ◌∷◌, find, is_some, slice_get, Option, Some, Result, Ok, Err}
use Rattle.std.proofs.Common.{ap, sym, ◌∙◌, subst}
use Rattle.ch_model.specs.declared.name.End.{End}
use Rattle.ch_model.specs.declared.name.End.TheVariants.{T}
use Rattle.ch_model.specs.declared.step.Step.{Step}
use Rattle.ch_model.specs.HostState.{HostState}
use Rattle.ch_model.specs.HostSteps.{Stepped}
use Rattle.ch_model.specs.Same.{is_between}
use Rattle.ch_model.specs.WorldSockets.{end_of, same_number, is_end_of}
use Rattle.ch_model.specs.WorldState.{Cell, WorldEnd, WorldSocket, World}
use Rattle.ch_race.specs.Moves.{Move}
use Rattle.ch_race.specs.Pair.{Side, Lesser, Greater}
use Rattle.ch_laws_log.proofs.Stored.{number_same}
use Rattle.ch_laws_race.specs.Arrivals.{IsSeenFrom}
use Rattle.ch_laws_race.specs.Others.{IsOthers, IsFree}
use Rattle.ch_laws_race.specs.Reading.{IsSeen}
use Rattle.ch_laws_race.specs.Scene.{Party}
use Rattle.ch_laws_race.specs.Sound.{HasEnd}
use Rattle.ch_laws_race.proofs.Sockets.{by_test, given}
use Rattle.ch_laws_calls.specs.Calls.{IsHeldBy, done_at}
use Rattle.ch_laws_calls.specs.Scenes.{SceneFacts, IsOfSide, IsMoved, scene_of}

-- the place of what is found first
pub place_found : {X : Type 0} (p : X → Bool) (xs : List X) (x : X) → find p xs ≡ Some x → (i : ℕ) × (slice_get xs i ≡ Some x)
place_found p [] x f = absurd cc
place_found {X = X} p (first ∷ rest) x f = by_test (p first) (place_found p rest x) f where
  by_test : (b : Bool) → (find p rest ≡ Some x → (i : ℕ) × (slice_get rest i ≡ Some x)) → cond b (Some first) (find p rest) ≡ Some x → (i : ℕ) × (slice_get (first ∷ rest) i ≡ Some x)
  by_test true more f = (0, f)
  by_test false more f = let later = more f in (suc later.0, later.1)

-- an end that is held is of that cell and number
pub held_is : (place n : ℕ) (end : WorldEnd) → IsHeldBy place n end → is_end_of place n end ≡ true
held_is place n end h = ap (λ (c : Option ℕ). same_number c place && same_number end.number n) h.cell ∙ ap (λ (m : Option ℕ). (place == place) && same_number m n) h.number
    ∙ ap (λ b. b && (n == n)) (number_same place) ∙ number_same n

-- what is done is done once
pub done_once : {A E : Type 0} (a b : A) → ◌≡◌ {A = Result A E} (Ok a) (Ok b) → a ≡ b
done_once {A = A} {E = E} a b h = ap {A = Result A E} {B = A} (λ r. elim r [ Ok z ↦ z | Err e ↦ a ]) h

-- what x's host does, where the world's part comes first, is seen as these moves
pub moved_from : (party : Side → Party) (world between : World) (x : Side) (cell : Cell × ℕ) (done : Stepped) (moves : List Move) (d : List Step × HostState) → IsSeenFrom (scene_of party world) x cell between done moves → done ≡ Ok d → IsMoved party world (done_at (party x).place cell d.0 d.1 between).1
moved_from party world between x cell done moves d s so = subst (λ (z : List Step × HostState). IsMoved party world (done_at (party x).place cell z.0 z.1 between).1) (done_once (s.steps, s.host) d (sym s.does ∙ so))
    (record { moves = moves; allowed = s.allowed; seen = s.seen })

-- what it does is seen as these moves
pub moved_here : (party : Side → Party) (world : World) (x : Side) (cell : Cell × ℕ) (done : Stepped) (moves : List Move) (d : List Step × HostState) → IsSeen (scene_of party world) x cell done moves → done ≡ Ok d → IsMoved party world (done_at (party x).place cell d.0 d.1 world).1
moved_here party world x cell done moves d s so = subst (λ (z : List Step × HostState). IsMoved party world (done_at (party x).place cell z.0 z.1 world).1) (done_once (s.steps, s.host) d (sym s.does ∙ so))
    (record { moves = moves; allowed = s.allowed; seen = s.seen })

module _ (party : Side → Party) (world : World) (facts : SceneFacts party world) (i : ℕ) (socket : WorldSocket) (at : slice_get world.sockets i ≡ Some socket) where
  -- an end of a socket between the two is its side's
  pub own_end : (e : End) (s : IsOfSide party e socket) (n : ℕ) → is_between (party Lesser).name (party Greater).name socket.name ≡ true → (end_of e socket).number ≡ Some n → HasEnd (scene_of party world) s.side e i n socket
  own_end e s n between number = record {
    at = at;
    end = held_is (party s.side).place n (end_of e socket) (record { cell = s.cell; number = number });
    between = between;
    opener = s.opener;
    target = ap is_some (facts.sides i socket at between T).cell;
  }

  -- an end of another socket is none of theirs
  pub free_end : (e : End) (place n : ℕ) → is_end_of place n (end_of e socket) ≡ true → IsOthers party socket.name → IsFree (scene_of party world) place n
  free_end e place n own off j u got between f = by_test (is_end_of place n (end_of f u))
      (λ h. absurd (no (sym between ∙ ap (λ (w : WorldSocket). is_between (party Lesser).name (party Greater).name w.name) (same j u got (facts.apart.numbered i j socket u e f place n at got own h).0) ∙ off)))
      (λ h. h) where
        no : true ≡ false → ⊥
        no h = cc

        same : (k : ℕ) (v : WorldSocket) → slice_get world.sockets k ≡ Some v → i ≡ k → v ≡ socket
        same k v got is = given v socket (sym got ∙ ap (slice_get world.sockets) (sym is) ∙ at)
