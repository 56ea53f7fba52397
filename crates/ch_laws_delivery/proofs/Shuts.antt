-- A node that is shut sends and gets nothing any more, as the passage's moves say.
use Rattle.std.specs.Prelude.{◌≡◌, ℕ, Bool, true, false, List, [], ◌∷◌, slice_get, Option, Some, None, Ok, Err, if◌then◌else◌}
use Rattle.std.proofs.Common.{refl, ap, sym, ◌∙◌}
use Rattle.ch_base.specs.AddressValues.{AddressValue}
use Rattle.ch_link.specs.Table.{step_of}
use Rattle.ch_link.specs.declared.LinkState.{LinkState}
use Rattle.ch_link.specs.declared.LinkState.TheVariants.{Idle, Dialing, AwaitOther, Up}
use Rattle.ch_link.specs.declared.LinkIn.TheVariants.{Shut}
use Rattle.ch_light.specs.declared.Connection.{Connection}
use Rattle.ch_wire.specs.declared.frame.Frame.{Frame}
use Rattle.ch_model.specs.declared.act.Act.TheVariants as acts
use Rattle.ch_model.specs.declared.command.CommandError.TheVariants.{Dead}
use Rattle.ch_model.specs.declared.note.Note.TheVariants as notes
use Rattle.ch_model.specs.declared.step.Weight.{Weight}
use Rattle.ch_model.specs.HostState.{Link, HostState}
use Rattle.ch_model.specs.HostSteps.{link_with, with_link}
use Rattle.ch_model.specs.HostWrites.{is_up, forgotten}
use Rattle.ch_model.specs.HostLinks.{hears}
use Rattle.ch_model.specs.NodeState.{NodeState}
use Rattle.ch_model.specs.Node.{node_shut}
use Rattle.ch_delivery.specs.Passage.{Unknown, Ended, is_there}
use Rattle.ch_delivery.specs.Moves as moves
use Rattle.ch_delivery.specs.Moves.{Stand, Fall, kept_bound, after, run}
use Rattle.ch_laws_delivery.specs.Scene.{Name, Use, Party, Scene, link_of}
use Rattle.ch_laws_delivery.specs.Sending.{mark_of, items_of}
use Rattle.ch_laws_delivery.specs.Receiving.{place_for, at_place}
use Rattle.ch_laws_delivery.specs.Standings.{standings}
use Rattle.ch_laws_delivery.specs.View.{view}
use Rattle.ch_laws_delivery.specs.Shuts.{node_after, shut_steps, left_socket, host_after, Shuts, shut_in, IsShut, shut_there_in, IsShutThere, shut_off_in, IsShutOff}
use Rattle.ch_laws_delivery.proofs.Keys.{link_kept, link_named}
use Rattle.ch_laws_delivery.proofs.Alike.{sending_alike}

-- ---- the host

module _ (end : ℕ) (peer : AddressValue) (waits : List (Frame × Weight)) (given created : List Connection) (host : HostState) where
  abbrev In : LinkState → Link
  In state = record { end = end; peer = peer; state = state; waits = waits; given = given; created = created }

  by_state : (state : LinkState) → hears Shut (In state) host ≡ Ok (shut_steps state, host_after host (In state))
  unfolding step_of
  by_state Idle = refl
  by_state (Dialing sock) = refl
  by_state AwaitOther = refl
  by_state (Up sock probed) = refl

shuts : (party : Party) → party.node.is_shut ≡ false → Shuts party
unfolding node_shut
shuts party lives = record {
  node_shuts = ap (λ b. if b then Err Dead else Ok (acts.Note (notes.Shut party.node.own) ∷ [], node_after party.node)) lives;
  host_shuts = let l = link_of party in by_state l.end l.peer l.waits l.given l.created party.host l.state;
}

module _ (party : Party) where
  abbrev Own : Link
  Own = link_of party

  link_now : link_with (host_after party.host Own) party.end party.peer ≡ forgotten Own Idle
  link_now = let key = link_named party.host party.end party.peer in
      ap (λ (z : ℕ). link_with (host_after party.host Own) z party.peer) (sym key.0) ∙ ap (λ (z : AddressValue). link_with (host_after party.host Own) Own.end z) (sym key.1)
      ∙ link_kept (forgotten Own Idle) (left_socket Own.state (with_link (record Own { state = Idle }) party.host))

-- ---- the sending node

all_ended : (n : NodeState) (o : Option Name) → mark_of (node_after n) o ≡ Ended
all_ended n None = refl
all_ended n (Some name) = refl

pub is_shut : (names : List Name) (scene : Scene) → scene.from.node.is_shut ≡ false → IsShut names scene
is_shut names scene lives = record {
  shuts = shuts scene.from lives;
  seen = sending_alike (view names (shut_in scene)) (after moves.Shut (view names scene)) refl (λ d. all_ended scene.from.node (slice_get names d)) (λ d. refl) (λ d. refl)
      (ap (λ (l : Link). items_of [] l.waits) (link_now scene.from)) (ap (λ (l : Link). is_up l.state) (link_now scene.from)) refl refl refl refl (λ d e. refl) (λ d. refl) refl;
}

-- ---- the receiving node

pub is_shut_there : (names : List Name) (scene : Scene) → scene.to.node.is_shut ≡ false → IsShutThere names scene
is_shut_there names scene lives = record {
  shuts = shuts scene.to lives;
  seen = sending_alike (view names (shut_there_in names scene)) (run (Stand (standings names (node_after scene.to.node)) ∷ Fall ∷ []) (view names scene)) refl (λ d. refl) (λ d. refl) (λ d. refl) refl refl refl refl refl refl
      (λ d e. refl) (λ d. refl) refl;
}

pub is_shut_off : (names : List Name) (scene : Scene) → scene.to.node.is_shut ≡ false → scene.created ≡ [] → IsShutOff names scene
is_shut_off names scene lives none = record {
  shuts = shuts scene.to lives;
  seen = sending_alike (view names (shut_off_in names scene)) (after (Stand (standings names (node_after scene.to.node))) (view names scene)) refl (λ d. refl) (λ d. refl) (λ d. refl) refl refl refl refl refl refl
      (λ d e. ap (λ (uses : List (Option Use)). at_place (node_after scene.to.node) (link_with (host_after scene.to.host (link_of scene.to)) scene.to.end scene.to.peer).created (place_for d e uses)) none
      ∙ unknown_stays (is_there ((view names scene).named d) (standings names (node_after scene.to.node) d))
      ∙ sym (ap (λ (uses : List (Option Use)). kept_bound (is_there ((view names scene).named d) (standings names (node_after scene.to.node) d)) (at_place scene.to.node (link_of scene.to).created (place_for d e uses))) none)) (λ d. refl) refl;
} where
  unknown_stays : (b : Bool) → Unknown ≡ kept_bound b Unknown
  unknown_stays true = refl
  unknown_stays false = refl
