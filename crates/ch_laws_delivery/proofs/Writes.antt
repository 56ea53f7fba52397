-- What a host does with an item of a link that is up.
use Rattle.std.specs.Prelude.{◌≡◌, ℕ, Bool, List, [], ◌∷◌, Ok}
use Rattle.std.proofs.Common.{refl, ap, sym, subst}
use Rattle.ch_base.specs.AddressValues.{AddressValue}
use Rattle.ch_light.specs.declared.Connection.{Connection}
use Rattle.ch_link.specs.Table.{step_of}
use Rattle.ch_link.specs.declared.LinkState.{LinkState}
use Rattle.ch_link.specs.declared.LinkState.TheVariants.{Up}
use Rattle.ch_link.specs.declared.LinkIn.TheVariants.{Want}
use Rattle.ch_wire.specs.declared.frame.Frame.{Frame}
use Rattle.ch_model.specs.declared.step.Weight.{Weight}
use Rattle.ch_model.specs.HostState.{Link, HostState}
use Rattle.ch_model.specs.HostSteps.{after_steps, link_with, with_link, store_link}
use Rattle.ch_model.specs.HostWrites.{frame_step}
use Rattle.ch_model.specs.HostLinks.{next_dial, hears}
use Rattle.ch_model.specs.HostCalls.{stepped, puts_and_wants}
use Rattle.ch_laws_delivery.specs.Sends.{IsSettled}
use Rattle.ch_laws_delivery.proofs.Keys.{link_kept}

-- The host writes the item and nothing more, and the link is as it was. It was kept twice.
pub record Writes (sock : ℕ) (item : Frame × Weight) (link : Link) (host : HostState) : Type 0 where
  pub now : HostState
  pub did : stepped (puts_and_wants item link host) ≡ Ok (frame_step sock item ∷ [], now)
  pub kept : link_with now link.end link.peer ≡ link
  pub settled : IsSettled host → IsSettled now
  pub links : now.links ≡ store_link link (store_link link host.links)

module _ (end : ℕ) (peer : AddressValue) (waits : List (Frame × Weight)) (given created : List Connection) (sock : ℕ) (probed : Bool) (item : Frame × Weight) (host : HostState) where
  abbrev In : Link
  In = record { end = end; peer = peer; state = Up sock probed; waits = waits; given = given; created = created }

  writes_in : Writes sock item In host
  unfolding step_of
  writes_in = record {
    now = with_link In (with_link In host);
    did = ap (λ (l : Link). stepped (after_steps (frame_step sock item ∷ []) (hears (Want (next_dial host)) l (with_link In host)))) (link_kept In host);
    kept = link_kept In (with_link In host);
    settled = λ h. h;
    links = refl;
  }

pub writes : (item : Frame × Weight) (link : Link) (host : HostState) (sock : ℕ) (probed : Bool) → link.state ≡ Up sock probed → Writes sock item link host
writes item link host sock probed up = subst (λ (s : LinkState). Writes sock item (record link { state = s }) host) (sym up) (writes_in link.end link.peer link.waits link.given link.created sock probed item host)
