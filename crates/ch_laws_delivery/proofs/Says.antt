-- A message that is said on an open connection while the link isn't up waits, as the passage's move says.
use Rattle.std.specs.Prelude.{◌≡◌, ℕ, false, List, [], ◌∷◌, ◌++◌, Ok}
use Rattle.std.proofs.Common.{refl, ap, sym, ◌∙◌}
use Rattle.std.proofs.lemmas.Grind.{flat_map-append}
use Rattle.ch_ident.specs.declared.message.Message.{Message}
use Rattle.ch_static.specs.declared.target.Target.{Target}
use Rattle.ch_wire.specs.declared.frame.Frame.TheVariants as frames
use Rattle.ch_model.specs.declared.step.Step.{Step}
use Rattle.ch_model.specs.HostState.{Link}
use Rattle.ch_model.specs.HostSteps.{link_with}
use Rattle.ch_model.specs.HostWrites.{is_up, said_of}
use Rattle.ch_model.specs.NodeState as nodes
use Rattle.ch_model.specs.NodeState.{NodeState, Pair}
use Rattle.ch_model.specs.NodeIds.{is_here, target_at}
use Rattle.ch_model.specs.NodeSends.{payload_of}
use Rattle.ch_delivery.specs.Passage.{Item, Passage}
use Rattle.ch_delivery.specs.Moves.{Say, written, after}
use Rattle.ch_laws_delivery.specs.Scene.{Name, Scene, link_of}
use Rattle.ch_laws_delivery.specs.Sending.{pair_at, items_in, items_of}
use Rattle.ch_laws_delivery.specs.View.{view, AreApart}
use Rattle.ch_laws_delivery.specs.Sends.{weight_at, SaysOnOpen, said_in, IsSaid}
use Rattle.ch_laws_delivery.proofs.Keys.{link_named}
use Rattle.ch_laws_delivery.proofs.Hosts.{Takes, takes, sends}
use Rattle.ch_laws_delivery.proofs.Saying.{says_it, Items, Told, moved, to_is, marks, epochs, indexes, entry_is, one_item}
use Rattle.ch_laws_delivery.proofs.Alike.{sending_alike}

module _ (names : List Name) (apart : AreApart names) (scene : Scene) (c : ℕ) (name : Name) (conn id : ℕ) (said : Message) (h : SaysOnOpen names scene c name conn id said) where
  abbrev N : NodeState
  N = scene.from.node

  abbrev P : Pair
  P = pair_at N name

  abbrev V : Passage
  V = view names scene

  taken : Takes (frames.Data id (payload_of P.to said), weight_at P) (link_of scene.from) scene.from.host
  taken = takes (frames.Data id (payload_of P.to said), weight_at P) (link_of scene.from) scene.from.host h.down (λ t. h.dials)

  -- the link after it
  link_now : link_with taken.now scene.from.end scene.from.peer ≡ link_with taken.now (link_of scene.from).end (link_of scene.from).peer
  link_now = let key = link_named scene.from.host scene.from.end scene.from.peer in
      ap (λ (z : ℕ). link_with taken.now z scene.from.peer) (sym key.0) ∙ ap (λ z. link_with taken.now (link_of scene.from).end z) (sym key.1)

  abbrev Word : List Item
  Word = Items names apart scene c name (nodes.Opened conn) h.known h.lives h.opened

  abbrev Then : Passage
  Then = Told names apart scene c name (nodes.Opened conn) h.known h.lives h.opened

  waiting : items_of scene.given (link_with taken.now scene.from.end scene.from.peer).waits ≡ V.waits ++ Word
  waiting = ap (λ (l : Link). items_of scene.given l.waits) link_now ∙ ap (λ (l : Link). items_of scene.given l.waits) taken.kept
      ∙ flat_map-append (λ item. items_in scene.given item.0 (said_of item.1)) (link_of scene.from).waits ((frames.Data id (payload_of P.to said), weight_at P) ∷ [])
      ∙ ap (λ (z : List Item). V.waits ++ z) (one_item names apart scene c name (nodes.Opened conn) h.known h.lives h.opened id said h.used)

  seen_now : view names (said_in scene c P taken.now) ≡ after (Say c) V
  seen_now = sending_alike (view names (said_in scene c P taken.now)) (written false Word Then) refl (marks names apart scene c name (nodes.Opened conn) h.known h.lives h.opened) (epochs names apart scene c name (nodes.Opened conn) h.known h.lives h.opened)
      (indexes names apart scene c name (nodes.Opened conn) h.known h.lives h.opened) waiting
      (ap (λ (l : Link). is_up l.state) (link_now ∙ taken.kept) ∙ taken.down ∙ sym h.down) refl refl refl refl (λ d e. refl) (λ d. refl) (entry_is names apart scene c name (nodes.Opened conn) h.known h.lives h.opened)
      ∙ sym (moved names apart scene c name (nodes.Opened conn) h.known h.lives h.opened ∙ ap (λ b. written b Word Then) h.down)

  pub is_said : IsSaid names scene c name conn said
  is_said = record {
    host = taken.now;
    node_says = says_it N P said conn h.grows h.opened (ap (λ (z : Target). is_here N (target_at z)) (to_is names apart scene c name (nodes.Opened conn) h.known h.lives h.opened) ∙ h.away);
    host_takes = sends scene.from.host scene.from.end conn (payload_of P.to said) (weight_at P) (link_of scene.from) id h.carried h.short h.room h.given ∙ taken.did ∙ ap (λ (done : List Step). Ok (done, taken.now)) taken.does;
    settled = taken.settled;
    down = ap (λ (l : Link). is_up l.state) (link_now ∙ taken.kept) ∙ taken.down;
    seen = seen_now;
  }
