-- Whatever the sending node does that changes no pair and ends no process is not seen.
use Rattle.std.specs.Prelude.{◌≡◌, ◌||◌, List, slice_get, Option, Some, None}
use Rattle.std.proofs.Common.{refl, ap, ◌∙◌}
use Rattle.ch_model.specs.NodeState as nodes
use Rattle.ch_model.specs.NodeState.{NodeState}
use Rattle.ch_laws_delivery.specs.Scene.{Name, Scene}
use Rattle.ch_laws_delivery.specs.Sending.{mark_as, mark_of, epoch_of, index_of, is_over_at, has_ended, pair_at}
use Rattle.ch_laws_delivery.specs.View.{view}
use Rattle.ch_laws_delivery.specs.Quiets.{Keeps, kept_in}
use Rattle.ch_laws_delivery.proofs.Alike.{sending_alike}

module _ (scene : Scene) (now : NodeState) (h : Keeps scene.from.node now) where
  abbrev N : NodeState
  N = scene.from.node

  same_pair : (name : Name) → pair_at now name ≡ pair_at N name
  same_pair name = ap (λ pairs. pair_at (record N { pairs = pairs }) name) h.pairs

  same_mark : (o : Option Name) → mark_of now o ≡ mark_of N o
  same_mark None = ap (λ b. mark_as b nodes.Unopened) h.shut
  same_mark (Some name) = ap (λ p. mark_as (has_ended now name.by) p.mark) (same_pair name) ∙ ap (λ b. mark_as (b || is_over_at now name.by) (pair_at N name).mark) h.shut ∙ ap (λ b. mark_as (N.is_shut || b) (pair_at N name).mark) (h.over name.by)

  same_epoch : (o : Option Name) → epoch_of now o ≡ epoch_of N o
  same_epoch None = refl
  same_epoch (Some name) = ap (λ p. p.epoch) (same_pair name)

  same_index : (o : Option Name) → index_of now o ≡ index_of N o
  same_index None = refl
  same_index (Some name) = ap (λ p. p.index) (same_pair name)

  pub is_unseen : (names : List Name) → view names (kept_in scene now) ≡ view names scene
  is_unseen names = sending_alike (view names (kept_in scene now)) (view names scene) refl (λ d. same_mark (slice_get names d)) (λ d. same_epoch (slice_get names d)) (λ d. same_index (slice_get names d))
      refl refl refl refl refl refl (λ d e. refl) (λ d. refl) refl
