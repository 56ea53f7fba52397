-- A link that comes up on a socket writes what waited, as the passage's moves say.
use Rattle.std.specs.Prelude.{◌≡◌, ◌<◌, ℕ, Bool, true, false, List, ◌++◌, map, Ok}
use Rattle.std.proofs.Common.{refl, ap, sym, ◌∙◌, subst}
use Rattle.ch_base.specs.AddressValues.{AddressValue}
use Rattle.ch_light.specs.declared.Connection.{Connection}
use Rattle.ch_link.specs.Table.{step_of}
use Rattle.ch_link.specs.declared.LinkState.{LinkState}
use Rattle.ch_link.specs.declared.LinkState.TheVariants.{Idle, Dialing, AwaitOther, Up}
use Rattle.ch_link.specs.declared.LinkIn.{LinkIn}
use Rattle.ch_link.specs.declared.LinkIn.TheVariants.{Want, Asked, Answered, Gone, EndClosed, Probe, Ack, Late, Shut}
use Rattle.ch_link.specs.declared.LinkAnswer.TheVariants.{Accepted, Invalid, Crossed, Mismatch}
use Rattle.ch_link.specs.declared.LinkAct.{LinkAct}
use Rattle.ch_wire.specs.declared.frame.Frame.{Frame}
use Rattle.ch_model.specs.declared.step.Weight.{Weight}
use Rattle.ch_model.specs.Greater.{is_greater}
use Rattle.ch_model.specs.HostState.{Link, HostState}
use Rattle.ch_model.specs.HostSteps.{Stepped, own_address, link_with, with_link}
use Rattle.ch_model.specs.HostWrites.{frame_step, is_up}
use Rattle.ch_model.specs.HostLinks.{does_act}
use Rattle.ch_delivery.specs.Moves.{Rise, Come, after}
use Rattle.ch_laws_delivery.specs.Scene.{Name, Party, Scene, link_of}
use Rattle.ch_laws_delivery.specs.Sending.{items_of}
use Rattle.ch_laws_delivery.specs.View.{view}
use Rattle.ch_laws_delivery.specs.Rises.{ComesUp, first_steps, left_dial, link_up, host_up, Raises, risen_in, IsRisen, come_in, IsCome}
use Rattle.ch_laws_delivery.proofs.Keys.{link_named, link_kept}
use Rattle.ch_laws_delivery.proofs.Alike.{sending_alike}

-- ---- the host

-- what a host does of what the table told
abbrev pub does_told : LinkState × LinkAct → LinkIn → Link → HostState → Stepped
does_told told input link host = does_act told.1 link.state input (record link { state = told.0 }) (with_link (record link { state = told.0 }) host)

module _ (end : ℕ) (peer : AddressValue) (waits : List (Frame × Weight)) (given created : List Connection) (host : HostState) where
  abbrev In : LinkState → Link
  In state = record { end = end; peer = peer; state = state; waits = waits; given = given; created = created }

  abbrev Goal : ℕ → LinkState → LinkIn → Bool → Type 0
  Goal sock state input greater = does_told (step_of state input greater) input (In state) host ≡ Ok (first_steps state input sock ++ map (frame_step sock) waits, host_up host (In state) input sock)

  socket_of : (a b : ℕ) → Up a false ≡ Up b false → a ≡ b
  socket_of a b h = ap (λ (s : LinkState). elim s [ Up z probed ↦ z | _ ↦ a ]) h

  not_up : {A : Type 0} (state : LinkState) (sock : ℕ) → is_up state ≡ false → state ≡ Up sock false → A
  not_up state sock down h = absurd (clash (sym down ∙ ap is_up h)) where
    clash : false ≡ true → ⊥
    clash q = cc

  by_input : (state : LinkState) (input : LinkIn) (greater : Bool) (sock : ℕ) → is_up state ≡ false → (step_of state input greater).0 ≡ Up sock false → Goal sock state input greater
  unfolding step_of
  by_input Idle (Asked s) greater sock down up = subst (λ (z : ℕ). Goal z Idle (Asked s) greater) (socket_of s sock up) refl
  by_input Idle (Want n) greater sock down up = not_up (Dialing n) sock refl up
  by_input Idle (Answered Accepted) greater sock down up = not_up Idle sock refl up
  by_input Idle (Answered Invalid) greater sock down up = not_up Idle sock refl up
  by_input Idle (Answered Crossed) greater sock down up = not_up Idle sock refl up
  by_input Idle (Answered Mismatch) greater sock down up = not_up Idle sock refl up
  by_input Idle Gone greater sock down up = not_up Idle sock refl up
  by_input Idle EndClosed greater sock down up = not_up Idle sock refl up
  by_input Idle Probe greater sock down up = not_up Idle sock refl up
  by_input Idle Ack greater sock down up = not_up Idle sock refl up
  by_input Idle Late greater sock down up = not_up Idle sock refl up
  by_input Idle Shut greater sock down up = not_up Idle sock refl up
  by_input (Dialing d) (Asked s) true sock down up = not_up (Dialing d) sock refl up
  by_input (Dialing d) (Asked s) false sock down up = subst (λ (z : ℕ). Goal z (Dialing d) (Asked s) false) (socket_of s sock up) refl
  by_input (Dialing d) (Want n) greater sock down up = not_up (Dialing d) sock refl up
  by_input (Dialing d) (Answered Accepted) greater sock down up = subst (λ (z : ℕ). Goal z (Dialing d) (Answered Accepted) greater) (socket_of d sock up) refl
  by_input (Dialing d) (Answered Invalid) greater sock down up = not_up Idle sock refl up
  by_input (Dialing d) (Answered Crossed) greater sock down up = not_up AwaitOther sock refl up
  by_input (Dialing d) (Answered Mismatch) greater sock down up = not_up Idle sock refl up
  by_input (Dialing d) Gone greater sock down up = not_up Idle sock refl up
  by_input (Dialing d) EndClosed greater sock down up = not_up (Dialing d) sock refl up
  by_input (Dialing d) Probe greater sock down up = not_up (Dialing d) sock refl up
  by_input (Dialing d) Ack greater sock down up = not_up (Dialing d) sock refl up
  by_input (Dialing d) Late greater sock down up = not_up Idle sock refl up
  by_input (Dialing d) Shut greater sock down up = not_up Idle sock refl up
  by_input AwaitOther (Asked s) greater sock down up = subst (λ (z : ℕ). Goal z AwaitOther (Asked s) greater) (socket_of s sock up) refl
  by_input AwaitOther (Want n) greater sock down up = not_up AwaitOther sock refl up
  by_input AwaitOther (Answered Accepted) greater sock down up = not_up AwaitOther sock refl up
  by_input AwaitOther (Answered Invalid) greater sock down up = not_up AwaitOther sock refl up
  by_input AwaitOther (Answered Crossed) greater sock down up = not_up AwaitOther sock refl up
  by_input AwaitOther (Answered Mismatch) greater sock down up = not_up AwaitOther sock refl up
  by_input AwaitOther Gone greater sock down up = not_up AwaitOther sock refl up
  by_input AwaitOther EndClosed greater sock down up = not_up AwaitOther sock refl up
  by_input AwaitOther Probe greater sock down up = not_up AwaitOther sock refl up
  by_input AwaitOther Ack greater sock down up = not_up AwaitOther sock refl up
  by_input AwaitOther Late greater sock down up = not_up Idle sock refl up
  by_input AwaitOther Shut greater sock down up = not_up Idle sock refl up
  by_input (Up u probed) input greater sock down up = absurd (clash down) where
    clash : true ≡ false → ⊥
    clash q = cc

pub raises : (party : Party) (input : LinkIn) (sock : ℕ) → ComesUp party input sock → Raises party input sock
raises party input sock h = let l = link_of party in by_input l.end l.peer l.waits l.given l.created party.host l.state input (is_greater (own_address party.host l.end) l.peer) sock h.down h.up

-- ---- the link

module _ (party : Party) (input : LinkIn) (sock : ℕ) where
  abbrev Own : Link
  Own = link_of party

  pub link_now : link_with (host_up party.host Own input sock) party.end party.peer ≡ link_up Own sock
  link_now = let key = link_named party.host party.end party.peer in
      ap (λ (z : ℕ). link_with (host_up party.host Own input sock) z party.peer) (sym key.0) ∙ ap (λ (z : AddressValue). link_with (host_up party.host Own input sock) Own.end z) (sym key.1)
      ∙ link_kept (link_up Own sock) (left_dial Own.state input (with_link (record Own { state = Up sock false }) party.host))

-- ---- the passage

pub is_risen : (names : List Name) (scene : Scene) (input : LinkIn) (sock i : ℕ) → ComesUp scene.from input sock → scene.way.on < i → IsRisen names scene input sock i
is_risen names scene input sock i h later = record {
  host_raises = raises scene.from input sock h;
  allowed = (h.down, later);
  seen = sending_alike (view names (risen_in scene input sock i)) (after (Rise i) (view names scene)) refl (λ d. refl) (λ d. refl) (λ d. refl)
      (ap (λ (l : Link). items_of scene.given l.waits) (link_now scene.from input sock)) (ap (λ (l : Link). is_up l.state) (link_now scene.from input sock)) refl refl refl refl (λ d e. refl) (λ d. refl) refl;
}

pub is_come : (names : List Name) (scene : Scene) (input : LinkIn) (sock i : ℕ) → ComesUp scene.to input sock → scene.way.at < i → IsCome names scene input sock i
is_come names scene input sock i h later = record {
  host_raises = raises scene.to input sock h;
  allowed = later;
  table = ap (λ (l : Link). l.created) (link_now scene.to input sock);
  seen = sending_alike (view names (come_in scene input sock i)) (after (Come i) (view names scene)) refl (λ d. refl) (λ d. refl) (λ d. refl) refl refl refl refl refl refl (λ d e. refl) (λ d. refl) refl;
}
