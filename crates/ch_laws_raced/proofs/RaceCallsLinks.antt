-- A frame that is put on any link of a host is seen of two nodes as moves that may happen.
use Rattle.std.specs.Prelude.{◌≡◌, ℕ, Bool, true, false, ◌&&◌, ◌==◌, nat_eq, List, slice_get, Some, Ok}
use Rattle.std.proofs.Common.{ap, sym, ◌∙◌, subst}
use Rattle.std.proofs.lemmas.Bool.{and_parts}
use Rattle.ch_base.specs.declared.address.Address.{Address}
use Rattle.ch_watch.specs.Same.{same_node}
use Rattle.ch_wire.specs.Spelling.{IsFrame}
use Rattle.ch_wire.specs.declared.frame.Frame.{Frame}
use Rattle.ch_model.specs.declared.step.Step.{Step}
use Rattle.ch_model.specs.declared.step.Weight.{Weight}
use Rattle.ch_model.specs.HostCalls.{puts_and_wants}
use Rattle.ch_model.specs.HostState.{Link, HostState}
use Rattle.ch_model.specs.HostSteps.{link_with}
use Rattle.ch_model.specs.HostWrites.{puts}
use Rattle.ch_model.specs.WorldState.{Cell, World}
use Rattle.ch_race.specs.Pair as pair
use Rattle.ch_race.specs.Pair.{Side, Lesser, Greater, other}
use Rattle.ch_laws_writes.specs.Orderly.{IsOrderly}
use Rattle.ch_laws_writes.proofs.Ordered.{end_is, peer_is}
use Rattle.ch_laws_race.specs.Scene.{Party, host_of}
use Rattle.ch_laws_race.specs.View.{frame_kind, is_shut}
use Rattle.ch_laws_race.proofs.Sockets.{by_test, same_place}
use Rattle.ch_laws_race.proofs.Views.{self_number}
use Rattle.ch_laws_calls.specs.Scenes.{SceneFacts, IsOthersLink, IsMoved, scene_of}
use Rattle.ch_laws_raced.proofs.RaceCallsMoved.{world_after, moved_nowhere}
use Rattle.ch_laws_raced.proofs.RaceCallsOtherLink.{asks_unseen, puts_unseen}
use Rattle.ch_laws_raced.proofs.RaceCallsOwnLink.{asks_moved, puts_moved}

-- the link of this endpoint with this peer, but for its ids and what waits
pub record IsLinkOf (host : HostState) (number : ℕ) (address : Address) (link : Link) : Type 0 where
  pub end : link.end ≡ number
  pub peer : link.peer ≡ address
  pub state : link.state ≡ (link_with host number address).state

-- the endpoint with the peer is x with the other, at this place
abbrev pub IsSides : (Side → Party) → ℕ → ℕ → Address → Side → Type 0
IsSides party place end peer x = (place ≡ (party x).place) × (end ≡ (party x).address.id) × (peer ≡ (party (other x)).address)

-- if it is a link of the two, then of one of them
pub data Whose (party : Side → Party) (place end : ℕ) (peer : Address) : Type 0 where
  OfSide : (x : Side) → IsSides party place end peer x → Whose party place end peer
  OfOthers : IsOthersLink party place end peer → Whose party place end peer

module _ (party : Side → Party) (place end : ℕ) (peer : Address) where
  abbrev is_key_of : Side → Bool
  is_key_of x = (end == (party x).address.id) && same_node peer (party (other x)).address

  abbrev is_of : Side → Bool
  is_of x = nat_eq (party x).place place && is_key_of x

  of_side : (x : Side) → is_of x ≡ true → IsSides party place end peer x
  of_side x h = let parts = and_parts (nat_eq (party x).place place) (is_key_of x) h in
      (same_place place (party x).place parts.0, end_is end peer (party x).address.id (party (other x)).address parts.1, peer_is end peer (party x).address.id (party (other x)).address parts.1)

  not_key : (x : Side) → is_of x ≡ false → (party x).place ≡ place → is_key_of x ≡ false
  not_key x h q = sym (ap (λ b. b && is_key_of x) (ap (λ (p : ℕ). nat_eq p place) q ∙ self_number place)) ∙ h

  of_others : is_of Lesser ≡ false → is_of Greater ≡ false → IsOthersLink party place end peer
  of_others l g Lesser q = not_key Lesser l q
  of_others l g Greater q = not_key Greater g q

  pub whose : Whose party place end peer
  whose = by_test (is_of Lesser) (λ h. OfSide Lesser (of_side Lesser h)) (λ l. by_test (is_of Greater) (λ h. OfSide Greater (of_side Greater h)) (λ g. OfOthers (of_others l g)))

module _ (party : Side → Party) (world : World) (facts : SceneFacts party world) (place : ℕ) (cell : Cell × ℕ) (there : slice_get world.cells place ≡ Some cell) (own : ℕ → Address) (orderly : IsOrderly own cell.0.host)
    (end : ℕ) (peer : Address) (item : Frame × Weight) (link : Link) (is : IsLinkOf cell.0.host end peer link) (kinded : frame_kind item.0 ≡ pair.Data) (spelled : IsFrame item.0) (d : List Step × HostState) where
  abbrev Moved : Type 0
  Moved = IsMoved party world (world_after place cell world d)

  module _ (x : Side) (same : IsSides party place end peer x) where
    there_too : slice_get world.cells (party x).place ≡ Some cell
    there_too = subst (λ (p : ℕ). slice_get world.cells p ≡ Some cell) same.0 there

    at_place : IsMoved party world (world_after (party x).place cell world d) → Moved
    at_place m = subst (λ (p : ℕ). IsMoved party world (world_after p cell world d)) (sym same.0) m

    states : link.state ≡ (link_with cell.0.host (party x).address.id (party (other x)).address).state
    states = is.state ∙ ap (λ (n : ℕ). (link_with cell.0.host n peer).state) same.1 ∙ ap (λ (a : Address). (link_with cell.0.host (party x).address.id a).state) same.2

    asks_side : is_shut (party x).address.id (host_of (scene_of party world) x) ≡ false → puts_and_wants item link cell.0.host ≡ Ok d → Moved
    asks_side stands so = at_place (asks_moved party world facts x cell there_too own orderly item link (is.end ∙ same.1) (is.peer ∙ same.2) states kinded spelled d (λ idle. stands) so)

    puts_side : puts item link cell.0.host ≡ Ok d → Moved
    puts_side so = at_place (puts_moved party world facts x cell there_too own orderly item link (is.end ∙ same.1) (is.peer ∙ same.2) states kinded spelled d so)

  -- a frame is put, and the link wants a socket
  pub asks_any : ((x : Side) → IsSides party place end peer x → is_shut (party x).address.id (host_of (scene_of party world) x) ≡ false) → puts_and_wants item link cell.0.host ≡ Ok d → Moved
  asks_any stands so = by_whose (whose party place end peer) where
    by_whose : Whose party place end peer → Moved
    by_whose (OfSide x same) = asks_side x same (stands x same) so
    by_whose (OfOthers off) = moved_nowhere party world place cell d (asks_unseen party world facts place cell there own orderly end peer off item link is.end is.peer is.state d so)

  -- a frame is put alone
  pub puts_any : puts item link cell.0.host ≡ Ok d → Moved
  puts_any so = by_whose (whose party place end peer) where
    by_whose : Whose party place end peer → Moved
    by_whose (OfSide x same) = puts_side x same so
    by_whose (OfOthers off) = moved_nowhere party world place cell d (puts_unseen party world facts place cell there own orderly end peer off item link is.end is.peer is.state d so)
