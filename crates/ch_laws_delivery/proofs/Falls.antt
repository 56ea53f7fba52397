-- The receiving node's link that was up and loses its socket forgets all connections, as the passage's move says.
use Rattle.std.specs.Prelude.{◌≡◌, ℕ, Bool, List, slice_get, Option, Some, None, Ok}
use Rattle.std.proofs.Common.{refl, ap, ◌∙◌}
use Rattle.ch_base.specs.declared.event.Why.{Why}
use Rattle.ch_link.specs.declared.LinkIn.{LinkIn}
use Rattle.ch_static.specs.declared.target.Target.{Target}
use Rattle.ch_static.specs.declared.target.Target.TheVariants as targets
use Rattle.ch_watch.specs.Watches.{lost_of, find_of}
use Rattle.ch_model.specs.NodeState.{Pair}
use Rattle.ch_model.specs.NodeIds.{is_own, life_here, is_living, is_port_here}
use Rattle.ch_model.specs.NodeAsks.{standing}
use Rattle.ch_delivery.specs.Moves.{Fall, Stand, after}
use Rattle.ch_laws_delivery.specs.Scene.{Name, Party, Scene}
use Rattle.ch_laws_delivery.specs.Receiving.{stands_for, standing_for}
use Rattle.ch_laws_delivery.specs.View.{view}
use Rattle.ch_laws_delivery.specs.Losses.{Fails, node_after}
use Rattle.ch_laws_delivery.specs.Falls.{fallen_in, IsFallen}
use Rattle.ch_laws_delivery.proofs.Alike.{sending_alike}
use Rattle.ch_laws_delivery.proofs.Breaks.{fails, silent, tells_still}
use Rattle.ch_laws_delivery.proofs.Stands.{is_stood}
use Rattle.ch_laws_delivery.specs.Standings.{standings}
use Rattle.ch_model.specs.NodePairs.{lost_pairs}

-- who stands for a target stays
stands_still : (party : Party) (pairs : List Pair) (to : Target) → stands_for (node_after party pairs) to ≡ stands_for party.node to
unfolding is_living life_here is_own is_port_here standing find_of lost_of
stands_still party pairs (targets.Process p) = refl
stands_still party pairs (targets.Port q) = refl
stands_still party pairs (targets.Named at name) = refl

standing_still : (party : Party) (pairs : List Pair) (o : Option Name) → standing_for (node_after party pairs) o ≡ standing_for party.node o
standing_still party pairs None = refl
standing_still party pairs (Some name) = stands_still party pairs name.to

pub is_fallen : (names : List Name) (scene : Scene) (input : LinkIn) (sock : ℕ) (probed : Bool) (why : Why) (pairs : List Pair) → Fails scene.to input sock probed why → lost_pairs scene.to.peer scene.to.node.pairs ≡ Ok pairs
    → IsFallen names scene input sock why pairs
is_fallen names scene input sock probed why pairs f lost = record {
  host_fails = fails scene.to input sock probed why f;
  silent = silent scene.to why pairs lost;
  seen = first_seen;
  told = λ did now h. is_stood names (fallen_in scene sock (node_after scene.to pairs)) now (λ c e place known arrived used there opens found. none place used) (tells_still scene.to why pairs lost did now h).1 ∙ ap (after (Stand (standings names now))) first_seen;
} where
  none : {A : Type 0} (place : ℕ) → ◌≡◌ {A = Option ℕ} None (Some place) → A
  none place h = absurd (clash h) where
    clash : ◌≡◌ {A = Option ℕ} None (Some place) → ⊥
    clash e = cc

  first_seen : view names (fallen_in scene sock (node_after scene.to pairs)) ≡ after Fall (view names scene)
  first_seen = sending_alike (view names (fallen_in scene sock (node_after scene.to pairs))) (after Fall (view names scene)) refl (λ d. refl) (λ d. refl) (λ d. refl) refl refl refl refl refl refl (λ d e. refl)
      (λ d. standing_still scene.to pairs (slice_get names d)) refl
