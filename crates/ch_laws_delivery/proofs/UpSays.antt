-- A message that is said on an open connection while the link is up is written, as the passage's move says.
use Rattle.std.specs.Prelude.{◌≡◌, ℕ, Bool, true, not, ◌&&◌, List, nat_le, Ok, Err, if◌then◌else◌}
use Rattle.std.proofs.Common.{refl, ap, sym, ◌∙◌}
use Rattle.ch_base.specs.AddressValues.{AddressValue}
use Rattle.ch_ident.specs.declared.message.Message.{Message}
use Rattle.ch_link.specs.declared.LinkState.{LinkState}
use Rattle.ch_static.specs.declared.target.Target.{Target}
use Rattle.ch_model.specs.declared.step.EndError.TheVariants.{QueueFull}
use Rattle.ch_model.specs.HostState.{Link}
use Rattle.ch_model.specs.HostSteps.{link_with}
use Rattle.ch_model.specs.HostWrites.{is_up, counted_in}
use Rattle.ch_model.specs.HostCalls.{most_waiting, has_room}
use Rattle.ch_model.specs.NodeState as nodes
use Rattle.ch_model.specs.NodeState.{NodeState, Pair}
use Rattle.ch_model.specs.NodeIds.{is_here, target_at}
use Rattle.ch_model.specs.NodeSends.{payload_of}
use Rattle.ch_delivery.specs.Passage.{Item, Passage}
use Rattle.ch_delivery.specs.Moves.{Say, put, onto, written, after}
use Rattle.ch_laws_delivery.specs.Scene.{Name, Scene, link_of}
use Rattle.ch_laws_delivery.specs.Sending.{pair_at, items_of}
use Rattle.ch_laws_delivery.specs.View.{view, AreApart}
use Rattle.ch_laws_delivery.specs.Sends.{weight_at}
use Rattle.ch_laws_delivery.specs.UpSends.{SaysUp, frame_of, written_in, IsWritten}
use Rattle.ch_laws_delivery.proofs.Keys.{link_named}
use Rattle.ch_laws_delivery.proofs.Hosts.{sends}
use Rattle.ch_laws_delivery.proofs.Writes.{Writes, writes}
use Rattle.ch_laws_delivery.proofs.Saying.{says_it, Items, Told, moved, to_is, marks, epochs, indexes, entry_is, one_item}
use Rattle.ch_laws_delivery.proofs.Alike.{sending_alike}

module _ (names : List Name) (apart : AreApart names) (scene : Scene) (c : ℕ) (name : Name) (conn id sock : ℕ) (probed : Bool) (said : Message) (h : SaysUp names scene c name conn id sock probed said) where
  abbrev N : NodeState
  N = scene.from.node

  abbrev P : Pair
  P = pair_at N name

  abbrev V : Passage
  V = view names scene

  abbrev L : Link
  L = link_of scene.from

  wrote : Writes sock (frame_of id P said) L scene.from.host
  wrote = writes (frame_of id P said) L scene.from.host sock probed h.up

  -- the link is as it was
  link_now : link_with wrote.now scene.from.end scene.from.peer ≡ L
  link_now = let key = link_named scene.from.host scene.from.end scene.from.peer in
      ap (λ (z : ℕ). link_with wrote.now z scene.from.peer) (sym key.0) ∙ ap (λ (z : AddressValue). link_with wrote.now L.end z) (sym key.1) ∙ wrote.kept

  roomy : has_room L (weight_at P) ≡ Ok L
  roomy = ap (λ (s : LinkState). if not (is_up s) && nat_le most_waiting (counted_in L) then Err QueueFull else Ok L) h.up

  abbrev Word : List Item
  Word = Items names apart scene c name (nodes.Opened conn) h.known h.lives h.opened

  abbrev Then : Passage
  Then = Told names apart scene c name (nodes.Opened conn) h.known h.lives h.opened

  seen_now : view names (written_in scene c P id said wrote.now) ≡ after (Say c) V
  seen_now = sending_alike (view names (written_in scene c P id said wrote.now)) (written true Word Then) refl (marks names apart scene c name (nodes.Opened conn) h.known h.lives h.opened)
      (epochs names apart scene c name (nodes.Opened conn) h.known h.lives h.opened) (indexes names apart scene c name (nodes.Opened conn) h.known h.lives h.opened)
      (ap (λ (l : Link). items_of scene.given l.waits) link_now) (ap (λ (l : Link). is_up l.state) link_now) refl
      (ap (λ (z : List Item). put scene.way.on (onto (scene.way.cut scene.way.on) (scene.way.flight scene.way.on) z) scene.way.flight) (one_item names apart scene c name (nodes.Opened conn) h.known h.lives h.opened id said h.used))
      refl refl (λ d e. refl) (λ d. refl) (entry_is names apart scene c name (nodes.Opened conn) h.known h.lives h.opened)
      ∙ sym (moved names apart scene c name (nodes.Opened conn) h.known h.lives h.opened ∙ ap (λ (s : LinkState). written (is_up s) Word Then) h.up)

  pub is_written : IsWritten names scene c name conn id sock said
  is_written = record {
    host = wrote.now;
    node_says = says_it N P said conn h.grows h.opened (ap (λ (z : Target). is_here N (target_at z)) (to_is names apart scene c name (nodes.Opened conn) h.known h.lives h.opened) ∙ h.away);
    host_writes = sends scene.from.host scene.from.end conn (payload_of P.to said) (weight_at P) L id h.carried h.short roomy h.given ∙ wrote.did;
    settled = wrote.settled;
    link = link_now;
    seen = seen_now;
  }
