-- A pair that is reconnected closes its connection, behind what waits or on the socket, as the passage's move says.
use Rattle.std.specs.Prelude.{◌≡◌, ℕ, Bool, true, false, List, [], ◌∷◌, ◌++◌, find, Option, Some, Result, Ok}
use Rattle.std.proofs.Common.{refl, ap, sym, ◌∙◌}
use Rattle.std.proofs.lemmas.Grind.{flat_map-append}
use Rattle.ch_base.specs.AddressValues.{AddressValue}
use Rattle.ch_light.specs.declared.Connection.{Connection}
use Rattle.ch_light.specs.declared.error.LightError.{LightError}
use Rattle.ch_light.specs.Ids.{close_of}
use Rattle.ch_link.specs.declared.LinkState.{LinkState}
use Rattle.ch_link.specs.declared.LinkState.TheVariants.{Idle, Dialing, AwaitOther, Up}
use Rattle.ch_wire.specs.declared.frame.Frame.{Frame}
use Rattle.ch_wire.specs.declared.frame.Frame.TheVariants as frames
use Rattle.ch_model.specs.declared.step.Step.{Step}
use Rattle.ch_model.specs.declared.step.Weight.{Weight}
use Rattle.ch_model.specs.declared.step.Weight.TheVariants.{Free}
use Rattle.ch_model.specs.HostState.{Link, HostState}
use Rattle.ch_model.specs.HostSteps.{Stepped, link_with, with_link}
use Rattle.ch_model.specs.HostWrites.{is_up, said_of, frame_step, puts}
use Rattle.ch_model.specs.HostCalls as calls
use Rattle.ch_model.specs.HostCalls.{of_ids, stepped, found_or, host_close}
use Rattle.ch_model.specs.NodeState as nodes
use Rattle.ch_model.specs.NodeState.{NodeState, Pair}
use Rattle.ch_delivery.specs.Passage.{Item, Passage}
use Rattle.ch_delivery.specs.Moves.{Reconnect, put, onto, written, after}
use Rattle.ch_laws_delivery.specs.Scene.{Name, Scene, link_of}
use Rattle.ch_laws_delivery.specs.Sending.{pair_at, items_in, items_of}
use Rattle.ch_laws_delivery.specs.View.{view, AreApart}
use Rattle.ch_laws_delivery.specs.Reconnects.{ReconnectsOpen, closed_host, reconnected_in, IsReconnected}
use Rattle.ch_laws_delivery.specs.UpReconnects.{ReconnectsUp, close_frame, host_without, closed_in, IsClosed}
use Rattle.ch_laws_delivery.proofs.Keys.{link_named, link_kept}
use Rattle.ch_laws_delivery.proofs.Reconnecting.{reconnects_as, Items, Told, moved, marks, epochs, indexes, entry_is, one_item}
use Rattle.ch_laws_delivery.proofs.Alike.{sending_alike}

-- ---- the host

puts_down : (end : ℕ) (peer : AddressValue) (state : LinkState) (waits : List (Frame × Weight)) (given created : List Connection) (item : Frame × Weight) (host : HostState) → is_up state ≡ false
    → ◌≡◌ {A = Stepped} (puts item (record { end = end; peer = peer; state = state; waits = waits; given = given; created = created }) host)
    (Ok ([], with_link (record { end = end; peer = peer; state = state; waits = waits ++ item ∷ []; given = given; created = created }) host))
puts_down end peer Idle waits given created item host h = refl
puts_down end peer (Dialing sock) waits given created item host h = refl
puts_down end peer AwaitOther waits given created item host h = refl
puts_down end peer (Up sock probed) waits given created item host h = absurd (clash h) where
  clash : true ≡ false → ⊥
  clash h = cc

-- what closing makes of the link that carries the connection
closes_on : (host : HostState) (end conn id : ℕ) (link : Link) (table : List Connection) → find (calls.carries end conn) host.links ≡ Some link → close_of link.given conn ≡ Ok (id, table)
    → host_close host end conn ≡ stepped (puts (frames.Closed id, Free) (record link { given = table }) host)
unfolding host_close
closes_on host end conn id link table found closed =
    ap (λ (o : Option Link). calls.◌>>=◌ (found_or o) (λ l. calls.◌>>=◌ (of_ids (close_of l.given conn)) (λ x. stepped (puts (frames.Closed x.0, Free) (record l { given = x.1 }) host)))) found
    ∙ ap (λ (r : Result (ℕ × List Connection) LightError). calls.◌>>=◌ {A = ℕ × List Connection} {B = List Step × HostState} (of_ids r) (λ x. stepped (puts (frames.Closed x.0, Free) (record link { given = x.1 }) host))) closed

pub closes_it : (host : HostState) (end conn id : ℕ) (link : Link) (table : List Connection) → find (calls.carries end conn) host.links ≡ Some link → close_of link.given conn ≡ Ok (id, table) → is_up link.state ≡ false
    → host_close host end conn ≡ Ok ([], closed_host host link id table)
closes_it host end conn id link table found closed down =
    closes_on host end conn id link table found closed ∙ ap stepped (puts_down link.end link.peer link.state link.waits table link.created (frames.Closed id, Free) host down)

pub closes_up : (host : HostState) (end conn id sock : ℕ) (probed : Bool) (link : Link) (table : List Connection) → find (calls.carries end conn) host.links ≡ Some link → close_of link.given conn ≡ Ok (id, table)
    → link.state ≡ Up sock probed → host_close host end conn ≡ Ok (frame_step sock (close_frame id) ∷ [], host_without host link table)
closes_up host end conn id sock probed link table found closed up =
    closes_on host end conn id link table found closed
    ∙ ap (λ (s : LinkState). stepped (puts (close_frame id) (record link { state = s; given = table }) host)) up
    ∙ ap (λ (s : LinkState). stepped (Ok (frame_step sock (close_frame id) ∷ [], with_link (record link { state = s; given = table }) host))) (sym up)

-- ---- while the link isn't up

module _ (names : List Name) (apart : AreApart names) (scene : Scene) (c : ℕ) (name : Name) (conn id : ℕ) (table : List Connection) (h : ReconnectsOpen names scene c name conn id table) where
  abbrev N : NodeState
  N = scene.from.node

  abbrev P : Pair
  P = pair_at N name

  abbrev V : Passage
  V = view names scene

  abbrev L : Link
  L = link_of scene.from

  abbrev After : HostState
  After = closed_host scene.from.host L id table

  pub link_now : link_with After scene.from.end scene.from.peer ≡ record L { given = table; waits = L.waits ++ (frames.Closed id, Free) ∷ [] }
  link_now = let key = link_named scene.from.host scene.from.end scene.from.peer in
      ap (λ (z : ℕ). link_with After z scene.from.peer) (sym key.0) ∙ ap (λ (z : AddressValue). link_with After L.end z) (sym key.1)
      ∙ link_kept (record L { given = table; waits = L.waits ++ (frames.Closed id, Free) ∷ [] }) scene.from.host

  abbrev Word : List Item
  Word = Items names apart scene c name (nodes.Opened conn) h.known h.lives h.opened

  abbrev Then : Passage
  Then = Told names apart scene c name (nodes.Opened conn) h.known h.lives h.opened

  waiting : items_of scene.given (link_with After scene.from.end scene.from.peer).waits ≡ V.waits ++ Word
  waiting = ap (λ (l : Link). items_of scene.given l.waits) link_now
      ∙ flat_map-append (λ item. items_in scene.given item.0 (said_of item.1)) L.waits ((frames.Closed id, Free) ∷ [])
      ∙ ap (λ (z : List Item). V.waits ++ z) (one_item names apart scene c name (nodes.Opened conn) h.known h.lives h.opened id h.used)

  seen_now : view names (reconnected_in scene c P id table) ≡ after (Reconnect c) V
  seen_now = sending_alike (view names (reconnected_in scene c P id table)) (written false Word Then) refl (marks names apart scene c name (nodes.Opened conn) h.known h.lives h.opened)
      (epochs names apart scene c name (nodes.Opened conn) h.known h.lives h.opened) (indexes names apart scene c name (nodes.Opened conn) h.known h.lives h.opened) waiting
      (ap (λ (l : Link). is_up l.state) link_now) refl refl refl refl (λ d e. refl) (λ d. refl) (entry_is names apart scene c name (nodes.Opened conn) h.known h.lives h.opened)
      ∙ sym (moved names apart scene c name (nodes.Opened conn) h.known h.lives h.opened ∙ ap (λ b. written b Word Then) h.down)

  pub is_reconnected : IsReconnected names scene c name conn id table
  is_reconnected = record {
    node_reconnects = reconnects_as N P (nodes.Opened conn) h.grows h.opened;
    host_closes = closes_it scene.from.host scene.from.end conn id L table h.carried h.closes h.down;
    seen = seen_now;
  }

-- ---- while it is

module _ (names : List Name) (apart : AreApart names) (scene : Scene) (c : ℕ) (name : Name) (conn id sock : ℕ) (probed : Bool) (table : List Connection) (h : ReconnectsUp names scene c name conn id sock probed table) where
  abbrev UpL : Link
  UpL = link_of scene.from

  abbrev UpNow : HostState
  UpNow = host_without scene.from.host UpL table

  pub link_up : link_with UpNow scene.from.end scene.from.peer ≡ record UpL { given = table }
  link_up = let key = link_named scene.from.host scene.from.end scene.from.peer in
      ap (λ (z : ℕ). link_with UpNow z scene.from.peer) (sym key.0) ∙ ap (λ (z : AddressValue). link_with UpNow UpL.end z) (sym key.1) ∙ link_kept (record UpL { given = table }) scene.from.host

  abbrev UpWord : List Item
  UpWord = Items names apart scene c name (nodes.Opened conn) h.known h.lives h.opened

  abbrev UpThen : Passage
  UpThen = Told names apart scene c name (nodes.Opened conn) h.known h.lives h.opened

  seen_up : view names (closed_in scene c (pair_at scene.from.node name) id table) ≡ after (Reconnect c) (view names scene)
  seen_up = sending_alike (view names (closed_in scene c (pair_at scene.from.node name) id table)) (written true UpWord UpThen) refl (marks names apart scene c name (nodes.Opened conn) h.known h.lives h.opened)
      (epochs names apart scene c name (nodes.Opened conn) h.known h.lives h.opened) (indexes names apart scene c name (nodes.Opened conn) h.known h.lives h.opened)
      (ap (λ (l : Link). items_of scene.given l.waits) link_up) (ap (λ (l : Link). is_up l.state) link_up) refl
      (ap (λ (z : List Item). put scene.way.on (onto (scene.way.cut scene.way.on) (scene.way.flight scene.way.on) z) scene.way.flight) (one_item names apart scene c name (nodes.Opened conn) h.known h.lives h.opened id h.used))
      refl refl (λ d e. refl) (λ d. refl) (entry_is names apart scene c name (nodes.Opened conn) h.known h.lives h.opened)
      ∙ sym (moved names apart scene c name (nodes.Opened conn) h.known h.lives h.opened ∙ ap (λ (s : LinkState). written (is_up s) UpWord UpThen) h.up)

  pub is_closed : IsClosed names scene c name conn id sock table
  is_closed = record {
    node_reconnects = reconnects_as scene.from.node (pair_at scene.from.node name) (nodes.Opened conn) h.grows h.opened;
    host_closes = closes_up scene.from.host scene.from.end conn id sock probed UpL table h.carried h.closes h.up;
    seen = seen_up;
  }
