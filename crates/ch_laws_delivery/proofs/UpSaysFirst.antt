-- The first message of an epoch while the link is up: three frames are written, as the passage's move says.
use Rattle.std.specs.Prelude.{◌≡◌, ℕ, Bool, true, not, ◌&&◌, List, [], ◌∷◌, ◌++◌, length, find, nat_le, Option, Some, Ok, Err, if◌then◌else◌}
use Rattle.std.proofs.Common.{refl, ap, sym, ◌∙◌, subst}
use Rattle.ch_base.specs.AddressValues.{AddressValue}
use Rattle.ch_ident.specs.declared.message.Message.{Message}
use Rattle.ch_link.specs.declared.LinkState.{LinkState}
use Rattle.ch_static.specs.declared.target.Target.{Target}
use Rattle.ch_model.specs.declared.step.EndError.TheVariants.{QueueFull}
use Rattle.ch_model.specs.declared.step.Weight.TheVariants.{Free}
use Rattle.ch_model.specs.HostState.{Link, HostState}
use Rattle.ch_model.specs.HostSteps.{link_with, store_link}
use Rattle.ch_model.specs.HostWrites.{frame_step, is_up, counted_in}
use Rattle.ch_model.specs.HostCalls.{carries, most_waiting, has_room, host_connect, host_send}
use Rattle.ch_model.specs.NodeState.{NodeState, Pair}
use Rattle.ch_model.specs.NodeIds.{is_here, target_at}
use Rattle.ch_model.specs.NodeSends.{payload_of}
use Rattle.ch_delivery.specs.Passage.{Item, Passage}
use Rattle.ch_delivery.specs.Moves.{Say, put, onto, written, after}
use Rattle.ch_laws_delivery.specs.Scene.{Name, Use, Scene, link_of}
use Rattle.ch_laws_delivery.specs.Sending.{pair_at, use_at, items_of}
use Rattle.ch_laws_delivery.specs.Sends.{weight_at}
use Rattle.ch_laws_delivery.specs.View.{view, AreApart}
use Rattle.ch_laws_delivery.specs.FirstSends.{opening_of, next_id}
use Rattle.ch_laws_delivery.specs.UpSends.{frame_of}
use Rattle.ch_laws_delivery.specs.UpFirstSends.{SaysFirstUp, created_frame, opening_frame, opened_up_in, IsWrittenFirst}
use Rattle.ch_laws_delivery.proofs.Keys.{link_named}
use Rattle.ch_laws_delivery.proofs.Hosts.{sends, Alone, none_alone, kept_alone, alone_found}
use Rattle.ch_laws_delivery.proofs.Writes.{Writes, writes}
use Rattle.ch_laws_delivery.proofs.Connects.{with_given, connects_on, carries_own}
use Rattle.ch_laws_delivery.proofs.SayingFirst.{says_first, next_use, Items, Told, moved, to_is, marks, epochs, indexes, entry_is, two_items}
use Rattle.ch_laws_delivery.proofs.Alike.{sending_alike}

module _ (names : List Name) (apart : AreApart names) (scene : Scene) (c : ℕ) (name : Name) (conn sock : ℕ) (probed : Bool) (said : Message) (h : SaysFirstUp names scene c name conn sock probed said) where
  abbrev N : NodeState
  N = scene.from.node

  abbrev P : Pair
  P = pair_at N name

  abbrev V : Passage
  V = view names scene

  abbrev H : HostState
  H = scene.from.host

  abbrev L : Link
  L = link_of scene.from

  -- ---- the host

  -- the link with the connection
  abbrev Given : Link
  Given = with_given L conn

  key : (L.end ≡ scene.from.end) × (L.peer ≡ scene.from.peer)
  key = link_named H scene.from.end scene.from.peer

  first : Writes sock (created_frame L) Given H
  first = writes (created_frame L) Given H sock probed h.up

  connects : host_connect H scene.from.end (target_at P.to) conn ≡ Ok (frame_step sock (created_frame L) ∷ [], first.now)
  connects = connects_on H scene.from.end scene.from.peer (target_at P.to) conn h.at_peer h.endpoint h.unspent ∙ first.did

  own : carries scene.from.end conn Given ≡ true
  own = carries_own scene.from.end conn (next_id L) Given key.0 h.given

  -- a link that is kept twice is found, and is alone with the connection still
  module _ (host : HostState) (links : List Link) (alone : Alone scene.from.end conn L.end L.peer links) (kept : host.links ≡ store_link Given (store_link Given links)) where
    found_in : find (carries scene.from.end conn) host.links ≡ Some Given
    found_in = ap (find (carries scene.from.end conn)) kept ∙ alone_found scene.from.end conn Given own (store_link Given links) (kept_alone scene.from.end conn Given links alone)

    alone_in : Alone scene.from.end conn L.end L.peer host.links
    alone_in = subst (Alone scene.from.end conn L.end L.peer) (sym kept) (kept_alone scene.from.end conn Given (store_link Given links) (kept_alone scene.from.end conn Given links alone))

  at_first : Alone scene.from.end conn L.end L.peer H.links
  at_first = none_alone scene.from.end conn L H.links h.uncarried

  second : Writes sock (opening_frame N L P) Given first.now
  second = writes (opening_frame N L P) Given first.now sock probed h.up

  tells : host_send first.now scene.from.end conn (opening_of N P) Free ≡ Ok (frame_step sock (opening_frame N L P) ∷ [], second.now)
  tells = sends first.now scene.from.end conn (opening_of N P) Free Given (next_id L) (found_in first.now H.links at_first first.links) h.short_opening refl h.given ∙ second.did

  roomy : has_room Given (weight_at P) ≡ Ok Given
  roomy = ap (λ (s : LinkState). if not (is_up s) && nat_le most_waiting (counted_in Given) then Err QueueFull else Ok Given) h.up

  third : Writes sock (frame_of (next_id L) P said) Given second.now
  third = writes (frame_of (next_id L) P said) Given second.now sock probed h.up

  puts : host_send second.now scene.from.end conn (payload_of P.to said) (weight_at P) ≡ Ok (frame_step sock (frame_of (next_id L) P said) ∷ [], third.now)
  puts = sends second.now scene.from.end conn (payload_of P.to said) (weight_at P) Given (next_id L) (found_in second.now first.now.links (alone_in first.now H.links at_first first.links) second.links) h.short roomy h.given ∙ third.did

  -- the link after all
  link_now : link_with third.now scene.from.end scene.from.peer ≡ Given
  link_now = ap (λ (z : ℕ). link_with third.now z scene.from.peer) (sym key.0) ∙ ap (λ (z : AddressValue). link_with third.now L.end z) (sym key.1) ∙ third.kept

  -- ---- the passage

  abbrev Word : List Item
  Word = Items names apart scene c name conn h.known h.lives h.fresh

  abbrev Then : Passage
  Then = Told names apart scene c name conn h.known h.lives h.fresh

  abbrev Uses : List (Option Use)
  Uses = scene.given ++ Some (record { pair = c; epoch = P.epoch }) ∷ []

  used : use_at Uses (next_id L) ≡ Some (record { pair = c; epoch = P.epoch })
  used = next_use scene.given (record { pair = c; epoch = P.epoch }) (length L.given) h.level

  -- nothing waits, before and after
  waiting : items_of Uses (link_with third.now scene.from.end scene.from.peer).waits ≡ V.waits
  waiting = ap (λ (l : Link). items_of Uses l.waits) link_now ∙ ap (items_of Uses) h.flushed ∙ sym (ap (items_of scene.given) h.flushed)

  seen_now : view names (opened_up_in scene c P conn said third.now) ≡ after (Say c) V
  seen_now = sending_alike (view names (opened_up_in scene c P conn said third.now)) (written true Word Then) refl (marks names apart scene c name conn h.known h.lives h.fresh)
      (epochs names apart scene c name conn h.known h.lives h.fresh) (indexes names apart scene c name conn h.known h.lives h.fresh) waiting
      (ap (λ (l : Link). is_up l.state) link_now) refl
      (ap (λ (z : List Item). put scene.way.on (onto (scene.way.cut scene.way.on) (scene.way.flight scene.way.on) z) scene.way.flight) (two_items names apart scene c name conn h.known h.lives h.fresh Uses (next_id L) said used))
      refl refl (λ d e. refl) (λ d. refl) (entry_is names apart scene c name conn h.known h.lives h.fresh)
      ∙ sym (moved names apart scene c name conn h.known h.lives h.fresh ∙ ap (λ (s : LinkState). written (is_up s) Word Then) h.up)

  pub is_written_first : IsWrittenFirst names scene c name conn sock said
  is_written_first = record {
    connected = first.now;
    told = second.now;
    host = third.now;
    node_says = says_first N P said conn h.grows h.fresh (ap (λ (z : Target). is_here N (target_at z)) (to_is names apart scene c name conn h.known h.lives h.fresh) ∙ h.away) h.draws;
    host_connects = connects;
    host_tells = tells;
    host_writes = puts;
    settled = λ q. third.settled (second.settled (first.settled q));
    link = link_now;
    seen = seen_now;
  }
