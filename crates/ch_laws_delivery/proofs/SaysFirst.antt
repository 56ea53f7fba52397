-- The first message of an epoch opens a connection and waits on it, as the passage's move says.
use Rattle.std.specs.Prelude.{◌≡◌, ◌<◌, ℕ, ◌+◌, ◌-◌, Bool, true, false, not, ◌&&◌, List, [], ◌∷◌, ◌++◌, length, find, filter, slice_get, nat_lt, nat_le, Option, Some, None, Ok, Err, if◌then◌else◌}
use Rattle.std.proofs.Common.{refl, ap, sym, ◌∙◌, subst, arith}
use Rattle.std.proofs.lemmas.Bool.Decides.{nat_tests}
use Rattle.std.proofs.lemmas.Grind.{flat_map-append}
use Rattle.std.proofs.lemmas.List.{append-nil, append_assoc}
use Rattle.std.proofs.lemmas.List.Elements.{filter-append}
use Rattle.ch_base.specs.AddressValues.{AddressValue}
use Rattle.ch_ident.specs.declared.message.Message.{Message}
use Rattle.ch_light.proofs.Lists.{push_other}
use Rattle.ch_light.specs.declared.TheConstants.{FIRST_ID}
use Rattle.ch_light.specs.Ids.{id_of, opened}
use Rattle.ch_link.specs.declared.LinkState.{LinkState}
use Rattle.ch_link.specs.declared.LinkState.TheVariants.{Idle, Dialing, AwaitOther, Up}
use Rattle.ch_static.specs.declared.target.Target.{Target}
use Rattle.ch_wire.specs.declared.frame.Frame.{Frame}
use Rattle.ch_wire.specs.declared.frame.Frame.TheVariants as frames
use Rattle.ch_model.specs.declared.step.EndError.TheVariants.{QueueFull}
use Rattle.ch_model.specs.declared.step.Place.{Place}
use Rattle.ch_model.specs.declared.step.Step.{Step}
use Rattle.ch_model.specs.declared.step.Weight.{Weight}
use Rattle.ch_model.specs.declared.step.Weight.TheVariants.{Free}
use Rattle.ch_model.specs.HostState.{Link, HostState}
use Rattle.ch_model.specs.HostSteps.{link_with, store_link}
use Rattle.ch_model.specs.HostWrites.{is_up, said_of, is_counted, counted_in}
use Rattle.ch_model.specs.HostCalls.{carries, most_waiting, has_room, host_connect, host_send}
use Rattle.ch_model.specs.NodeState.{NodeState, Pair}
use Rattle.ch_model.specs.NodeIds.{is_here, target_at}
use Rattle.ch_model.specs.NodeSends.{payload_of}
use Rattle.ch_delivery.specs.Passage.{Item, Passage}
use Rattle.ch_delivery.specs.Moves.{Say, written, after}
use Rattle.ch_laws_delivery.specs.Scene.{Name, Use, Scene, link_of}
use Rattle.ch_laws_delivery.specs.Sending.{pair_at, flat, use_at, carried, closing, items_in, items_of}
use Rattle.ch_laws_delivery.specs.Sends.{weight_at, dial_steps}
use Rattle.ch_laws_delivery.specs.View.{view, AreApart}
use Rattle.ch_laws_delivery.specs.FirstSends.{IsGiven, AreGiven, opening_of, next_id, SaysFirst, first_in, IsSaidFirst}
use Rattle.ch_laws_delivery.proofs.Keys.{link_named}
use Rattle.ch_laws_delivery.proofs.Hosts.{Takes, takes, sends, Alone, none_alone, kept_alone, alone_found, none_dialed}
use Rattle.ch_laws_delivery.proofs.Connects.{connects_on, carries_own}
use Rattle.ch_laws_delivery.proofs.SayingFirst.{says_first, next_use, Items, Told, moved, to_is, marks, epochs, indexes, entry_is, two_items}
use Rattle.ch_laws_delivery.proofs.Alike.{sending_alike}

-- ---- what waits already

-- ids that were given before
old_use : (uses : List (Option Use)) (u : Option Use) (id : ℕ) → id < FIRST_ID + length uses → use_at (uses ++ u ∷ []) id ≡ use_at uses id
old_use uses u id h = by_test (nat_lt id FIRST_ID) refl where
  away : (a n id : ℕ) → id < a + n → nat_lt id a ≡ false → id - a ≡ n → ⊥
  away a n id h off e = grind (arith, nat_tests)

  by_test : (x : Bool) → nat_lt id FIRST_ID ≡ x → (if x then None else flat (slice_get (uses ++ u ∷ []) (id - FIRST_ID))) ≡ (if x then None else flat (slice_get uses (id - FIRST_ID)))
  by_test true off = refl
  by_test false off = ap flat (push_other uses u (id - FIRST_ID) (λ e. away FIRST_ID (length uses) id h off e))

old_items : (uses : List (Option Use)) (u : Option Use) (frame : Frame) (said : Option Place) → IsGiven uses frame → items_in (uses ++ u ∷ []) frame said ≡ items_in uses frame said
old_items uses u (frames.Created id) said h = refl
old_items uses u (frames.Closed id) said h = ap closing (old_use uses u id h)
old_items uses u (frames.Data id payload) said h = ap (λ (x : Option Use). carried x said) (old_use uses u id h)
old_items uses u frames.EndClosed said h = refl
old_items uses u frames.Probe said h = refl
old_items uses u frames.ProbeAck said h = refl

pub old_waits : (uses : List (Option Use)) (u : Option Use) (waits : List (Frame × Weight)) → AreGiven uses waits → items_of (uses ++ u ∷ []) waits ≡ items_of uses waits
old_waits uses u [] h = refl
old_waits uses u (item ∷ rest) h = ap (λ (z : List Item). z ++ items_of (uses ++ u ∷ []) rest) (old_items uses u item.0 (said_of item.1) h.0) ∙ ap (λ (z : List Item). items_in uses item.0 (said_of item.1) ++ z) (old_waits uses u rest h.1)

-- free payloads aren't counted
free_more : (waits : List (Frame × Weight)) (frame : Frame) → filter (λ item. is_counted item.1) (waits ++ (frame, Free) ∷ []) ≡ filter (λ item. is_counted item.1) waits
free_more waits frame = filter-append (λ item. is_counted item.1) waits ((frame, Free) ∷ []) ∙ append-nil (filter (λ item. is_counted item.1) waits)

-- ---- the host

module _ (names : List Name) (apart : AreApart names) (scene : Scene) (c : ℕ) (name : Name) (conn : ℕ) (said : Message) (h : SaysFirst names scene c name conn said) where
  abbrev N : NodeState
  N = scene.from.node

  abbrev P : Pair
  P = pair_at N name

  abbrev V : Passage
  V = view names scene

  abbrev H : HostState
  H = scene.from.host

  abbrev L : Link
  L = link_of scene.from

  -- the link with the connection
  abbrev Given : Link
  Given = record L { given = L.given ++ opened conn ∷ [] }

  first_takes : Takes (frames.Created (next_id L), Free) Given H
  first_takes = takes (frames.Created (next_id L), Free) Given H h.down h.dials

  abbrev One : Link
  One = record Given { state = first_takes.next; waits = L.waits ++ (frames.Created (next_id L), Free) ∷ [] }

  key : (L.end ≡ scene.from.end) × (L.peer ≡ scene.from.peer)
  key = link_named H scene.from.end scene.from.peer

  -- the link dials the same socket with the connection and without
  same_dial : (state : LinkState) → dial_steps state Given H ≡ dial_steps state L H
  same_dial Idle = refl
  same_dial (Dialing sock) = refl
  same_dial AwaitOther = refl
  same_dial (Up sock probed) = refl

  connects : host_connect H scene.from.end (target_at P.to) conn ≡ Ok (dial_steps L.state L H, first_takes.now)
  connects = connects_on H scene.from.end scene.from.peer (target_at P.to) conn h.at_peer h.endpoint h.unspent ∙ first_takes.did ∙ ap (λ (done : List Step). Ok (done, first_takes.now)) (first_takes.does ∙ same_dial L.state)

  -- a link with this key and these ids carries the connection
  own : (link : Link) → link.end ≡ L.end → link.given ≡ L.given ++ opened conn ∷ [] → carries scene.from.end conn link ≡ true
  own link e g = carries_own scene.from.end conn (next_id L) link (e ∙ key.0) (ap (λ z. id_of z conn) g ∙ h.given)

  first_alone : Alone scene.from.end conn L.end L.peer (store_link (record Given { waits = L.waits ++ (frames.Created (next_id L), Free) ∷ [] }) H.links)
  first_alone = kept_alone scene.from.end conn (record Given { waits = L.waits ++ (frames.Created (next_id L), Free) ∷ [] }) H.links (none_alone scene.from.end conn L H.links h.uncarried)

  first_found : find (carries scene.from.end conn) first_takes.now.links ≡ Some One
  first_found = ap (find (carries scene.from.end conn)) first_takes.links
      ∙ alone_found scene.from.end conn One (own One refl refl) (store_link (record Given { waits = L.waits ++ (frames.Created (next_id L), Free) ∷ [] }) H.links) first_alone

  after_first : Alone scene.from.end conn L.end L.peer first_takes.now.links
  after_first = subst (Alone scene.from.end conn L.end L.peer) (sym first_takes.links)
      (kept_alone scene.from.end conn One (store_link (record Given { waits = L.waits ++ (frames.Created (next_id L), Free) ∷ [] }) H.links) first_alone)

  abbrev Opener : Frame × Weight
  Opener = (frames.Data (next_id L) (opening_of N P), Free)

  second_takes : Takes Opener One first_takes.now
  second_takes = takes Opener One first_takes.now first_takes.down (λ q. absurd (first_takes.busy q))

  abbrev Two : Link
  Two = record One { state = second_takes.next; waits = One.waits ++ Opener ∷ [] }

  tells : host_send first_takes.now scene.from.end conn (opening_of N P) Free ≡ Ok ([], second_takes.now)
  tells = sends first_takes.now scene.from.end conn (opening_of N P) Free One (next_id L) first_found h.short_opening refl h.given ∙ second_takes.did
      ∙ ap (λ (done : List Step). Ok (done, second_takes.now)) (second_takes.does ∙ none_dialed first_takes.next One first_takes.now first_takes.busy)

  second_found : find (carries scene.from.end conn) second_takes.now.links ≡ Some Two
  second_found = ap (find (carries scene.from.end conn)) second_takes.links
      ∙ alone_found scene.from.end conn Two (own Two refl refl) (store_link (record One { waits = One.waits ++ Opener ∷ [] }) first_takes.now.links)
      (kept_alone scene.from.end conn (record One { waits = One.waits ++ Opener ∷ [] }) first_takes.now.links after_first)

  roomy : nat_le most_waiting (counted_in Two) ≡ false
  roomy = ap (λ (z : List (Frame × Weight)). nat_le most_waiting (length z)) (free_more One.waits (frames.Data (next_id L) (opening_of N P)) ∙ free_more L.waits (frames.Created (next_id L))) ∙ h.room

  has_it : has_room Two (weight_at P) ≡ Ok Two
  has_it = ap (λ b. if not b && nat_le most_waiting (counted_in Two) then Err QueueFull else Ok Two) second_takes.down ∙ ap (λ b. if b then Err QueueFull else Ok Two) roomy

  abbrev Carrier : Frame × Weight
  Carrier = (frames.Data (next_id L) (payload_of P.to said), weight_at P)

  third_takes : Takes Carrier Two second_takes.now
  third_takes = takes Carrier Two second_takes.now second_takes.down (λ q. absurd (second_takes.busy q))

  puts : host_send second_takes.now scene.from.end conn (payload_of P.to said) (weight_at P) ≡ Ok ([], third_takes.now)
  puts = sends second_takes.now scene.from.end conn (payload_of P.to said) (weight_at P) Two (next_id L) second_found h.short has_it h.given ∙ third_takes.did
      ∙ ap (λ (done : List Step). Ok (done, third_takes.now)) (third_takes.does ∙ none_dialed second_takes.next Two second_takes.now second_takes.busy)

  -- the link after all
  link_now : link_with third_takes.now scene.from.end scene.from.peer ≡ record Two { state = third_takes.next; waits = Two.waits ++ Carrier ∷ [] }
  link_now = ap (λ (z : ℕ). link_with third_takes.now z scene.from.peer) (sym key.0) ∙ ap (λ (z : AddressValue). link_with third_takes.now L.end z) (sym key.1) ∙ third_takes.kept

  -- ---- the passage

  abbrev Word : List Item
  Word = Items names apart scene c name conn h.known h.lives h.fresh

  abbrev Then : Passage
  Then = Told names apart scene c name conn h.known h.lives h.fresh

  abbrev Uses : List (Option Use)
  Uses = scene.given ++ Some (record { pair = c; epoch = P.epoch }) ∷ []

  used : use_at Uses (next_id L) ≡ Some (record { pair = c; epoch = P.epoch })
  used = next_use scene.given (record { pair = c; epoch = P.epoch }) (length L.given) h.level

  abbrev More : List (Frame × Weight)
  More = (frames.Created (next_id L), Free) ∷ Opener ∷ Carrier ∷ []

  all_waiting : Two.waits ++ Carrier ∷ [] ≡ L.waits ++ More
  all_waiting = append_assoc (L.waits ++ (frames.Created (next_id L), Free) ∷ []) (Opener ∷ []) (Carrier ∷ []) ∙ append_assoc L.waits ((frames.Created (next_id L), Free) ∷ []) (Opener ∷ Carrier ∷ [])

  waiting : items_of Uses (link_with third_takes.now scene.from.end scene.from.peer).waits ≡ V.waits ++ Word
  waiting = ap (λ (l : Link). items_of Uses l.waits) link_now ∙ ap (items_of Uses) all_waiting
      ∙ flat_map-append (λ item. items_in Uses item.0 (said_of item.1)) L.waits More
      ∙ ap (λ (z : List Item). z ++ items_of Uses More) (old_waits scene.given (Some (record { pair = c; epoch = P.epoch })) L.waits h.old)
      ∙ ap (λ (z : List Item). V.waits ++ z) (two_items names apart scene c name conn h.known h.lives h.fresh Uses (next_id L) said used)

  seen_now : view names (first_in scene c P conn third_takes.now) ≡ after (Say c) V
  seen_now = sending_alike (view names (first_in scene c P conn third_takes.now)) (written false Word Then) refl (marks names apart scene c name conn h.known h.lives h.fresh)
      (epochs names apart scene c name conn h.known h.lives h.fresh) (indexes names apart scene c name conn h.known h.lives h.fresh) waiting
      (ap (λ (l : Link). is_up l.state) link_now ∙ third_takes.down ∙ sym h.down) refl refl refl refl (λ d e. refl) (λ d. refl) (entry_is names apart scene c name conn h.known h.lives h.fresh)
      ∙ sym (moved names apart scene c name conn h.known h.lives h.fresh ∙ ap (λ b. written b Word Then) h.down)

  pub is_said_first : IsSaidFirst names scene c name conn said
  is_said_first = record {
    connected = first_takes.now;
    told = second_takes.now;
    host = third_takes.now;
    node_says = says_first N P said conn h.grows h.fresh (ap (λ (z : Target). is_here N (target_at z)) (to_is names apart scene c name conn h.known h.lives h.fresh) ∙ h.away) h.draws;
    host_connects = connects;
    host_tells = tells;
    host_takes = puts;
    settled = λ q. third_takes.settled (second_takes.settled (first_takes.settled q));
    down = ap (λ (l : Link). is_up l.state) link_now ∙ third_takes.down;
    seen = seen_now;
  }
