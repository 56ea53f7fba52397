-- A link that was up and loses its socket breaks its pairs, as the passage's move says.
use Rattle.std.specs.Prelude.{◌≡◌, ℕ, suc, ◌+◌, Bool, true, false, not, cond, ◌&&◌, ◌==◌, List, [], ◌∷◌, find, nat_lt, unwrap_or, slice_get, Option, Some, None, Result, Ok, Err, if◌then◌else◌}
use Rattle.std.proofs.Common.{refl, ap, sym, ◌∙◌, subst, arith}
use Rattle.ch_base.specs.AddressValues.{AddressValue}
use Rattle.ch_base.specs.declared.event.Event.TheVariants as events
use Rattle.ch_base.specs.declared.event.Why.{Why}
use Rattle.ch_base.specs.declared.memory.Stop.{Stop}
use Rattle.ch_base.specs.declared.memory.Stop.TheVariants as stops
use Rattle.ch_light.specs.declared.Connection.{Connection}
use Rattle.ch_link.specs.Table.{step_of}
use Rattle.ch_link.specs.declared.LinkState.{LinkState}
use Rattle.ch_link.specs.declared.LinkState.TheVariants.{Idle, Up}
use Rattle.ch_link.specs.declared.LinkIn.{LinkIn}
use Rattle.ch_link.specs.declared.LinkAct.{LinkAct}
use Rattle.ch_link.specs.declared.LinkAct.TheVariants.{Fail}
use Rattle.ch_model.specs.declared.act.Act.{Act}
use Rattle.ch_model.specs.Greater.{is_greater}
use Rattle.ch_model.specs.NodeLives.{reason_of}
use Rattle.ch_static.specs.declared.target.Target.{Target}
use Rattle.ch_static.specs.declared.target.Target.TheVariants as targets
use Rattle.ch_watch.specs.declared.waiting.Waiting.{Waiting}
use Rattle.ch_watch.specs.Same.{same_node}
use Rattle.ch_watch.specs.Watches.{lost_of}
use Rattle.ch_wire.specs.declared.frame.Frame.{Frame}
use Rattle.ch_model.specs.declared.step.Step.TheVariants as steps
use Rattle.ch_model.specs.declared.step.Weight.{Weight}
use Rattle.ch_model.specs.HostState.{Link, HostState}
use Rattle.ch_model.specs.HostSteps.{own_address, link_with, with_link}
use Rattle.ch_model.specs.HostWrites.{is_up, end_socket, forgotten}
use Rattle.ch_model.specs.HostLinks.{hears}
use Rattle.ch_model.specs.NodeState as nodes
use Rattle.ch_model.specs.NodeState.{NodeState, Pair}
use Rattle.ch_model.specs.NodeActs.{◌>>=◌, each_in_turn, growing}
use Rattle.ch_model.specs.NodeIds.{reference_to, target_at}
use Rattle.ch_model.specs.NodePairs.{same_target, is_pair, new_pair, pair_of, next_epoch, broken, lost_as, lost_pair, lost_pairs}
use Rattle.ch_model.specs.NodeArrivals.{lost_told, peer_lost}
use Rattle.ch_model.specs.Node.{node_event}
use Rattle.ch_delivery.specs.Passage.{Mark, Passage, Broke}
use Rattle.ch_delivery.specs.Passage as marks
use Rattle.ch_delivery.specs.Moves.{Break, mark_lost, epoch_lost, index_lost, after}
use Rattle.ch_laws_delivery.specs.Scene.{Name, Party, Scene, link_of}
use Rattle.ch_laws_delivery.specs.Sending.{is_named, named, bare, mark_as, has_ended, pair_at, mark_of, epoch_of, index_of, items_of}
use Rattle.ch_laws_delivery.specs.View.{view}
use Rattle.ch_laws_delivery.specs.Losses.{Fails, LosesSocket, host_after, node_after, HostFails, IsSilent, broken_in, IsBroken}
use Rattle.ch_laws_delivery.proofs.Rises.{does_told}
use Rattle.ch_laws_delivery.proofs.Quiets.{is_unseen}
use Rattle.ch_laws_delivery.proofs.OwnMail.{Still}
use Rattle.ch_laws_delivery.proofs.Tells.{each_still, watch_still}
use Rattle.ch_laws_delivery.proofs.Keys.{link_kept, link_named, pair_key, pair_named}
use Rattle.ch_laws_delivery.proofs.Alike.{sending_alike}

gives : {X : Type 0} (x y : X) → ◌≡◌ {A = Result X Stop} (Ok x) (Ok y) → x ≡ y
gives {X = X} x y h = ap {A = Result X Stop} {B = X} (λ r. elim r [ Ok z ↦ z | Err e ↦ x ]) h

refuses : {X A : Type 0} (e : Stop) (x : X) → ◌≡◌ {A = Result X Stop} (Err e) (Ok x) → A
refuses {X = X} e x h = absurd (clash h) where
  clash : ◌≡◌ {A = Result X Stop} (Err e) (Ok x) → ⊥
  clash h = cc

-- ---- the host

fails_up : (end : ℕ) (peer : AddressValue) (waits : List (Frame × Weight)) (given created : List Connection) (input : LinkIn) (sock : ℕ) (probed : Bool) (why : Why) (host : HostState) → step_of (Up sock probed) input (is_greater (own_address host end) peer) ≡ (Idle, Fail why)
    → hears input (record { end = end; peer = peer; state = Up sock probed; waits = waits; given = given; created = created }) host
    ≡ Ok (steps.Down sock ∷ steps.Broke end peer why ∷ steps.Post end (events.ConnectionLost peer why) ∷ [], host_after host (record { end = end; peer = peer; state = Up sock probed; waits = waits; given = given; created = created }) sock)
fails_up end peer waits given created input sock probed why host h = ap (λ (told : LinkState × LinkAct). does_told told input (record { end = end; peer = peer; state = Up sock probed; waits = waits; given = given; created = created }) host) h

-- ---- a pair

-- a pair and what is left of it, when its link fails
pub record Lost (p q : Pair) : Type 0 where
  pub mark : bare q.mark ≡ mark_lost (is_named p.to) (bare p.mark)
  pub epoch : q.epoch ≡ epoch_lost (is_named p.to) (bare p.mark) p.epoch
  pub index : q.index ≡ index_lost (is_named p.to) (bare p.mark) p.index
  pub by : q.by ≡ p.by
  pub to : q.to ≡ p.to

next_lost : (p q : Pair) → next_epoch p ≡ Ok q → (is_named p.to ≡ true) → (conn : ℕ) → p.mark ≡ nodes.Opened conn → Lost p q
unfolding next_epoch growing
next_lost p q h name conn is = by_room (nat_lt p.epoch 18446744073709551615) h where
  after_it : Lost p (record p { epoch = p.epoch + 1; index = 0; mark = nodes.Unopened })
  after_it = record {
    mark = sym (ap (λ m. mark_lost (is_named p.to) (bare m)) is ∙ ap (λ b. mark_lost b marks.Opened) name);
    epoch = one_more p.epoch ∙ sym (ap (λ m. epoch_lost (is_named p.to) (bare m) p.epoch) is ∙ ap (λ b. epoch_lost b marks.Opened p.epoch) name);
    index = sym (ap (λ m. index_lost (is_named p.to) (bare m) p.index) is ∙ ap (λ b. index_lost b marks.Opened p.index) name);
    by = refl;
    to = refl;
  } where
    one_more : (n : ℕ) → n + 1 ≡ suc n
    one_more n = omega arith

  by_room : (b : Bool) → (if b then Ok p.epoch else Err stops.Worn) >>= (λ epoch. Ok (record p { epoch = epoch + 1; index = 0; mark = nodes.Unopened })) ≡ Ok q → Lost p q
  by_room true h = subst (Lost p) (gives (record p { epoch = p.epoch + 1; index = 0; mark = nodes.Unopened }) q h) after_it
  by_room false h = refuses stops.Worn q h

marked_lost : (p q : Pair) → ◌≡◌ {A = Result Pair Stop} (Ok (record p { mark = nodes.Broken })) (Ok q) → (is_named p.to ≡ false) → (conn : ℕ) → p.mark ≡ nodes.Opened conn → Lost p q
marked_lost p q h name conn is = subst (Lost p) (gives (record p { mark = nodes.Broken }) q h) (record {
  mark = sym (ap (λ m. mark_lost (is_named p.to) (bare m)) is ∙ ap (λ b. mark_lost b marks.Opened) name);
  epoch = sym (ap (λ m. epoch_lost (is_named p.to) (bare m) p.epoch) is ∙ ap (λ b. epoch_lost b marks.Opened p.epoch) name);
  index = sym (ap (λ m. index_lost (is_named p.to) (bare m) p.index) is ∙ ap (λ b. index_lost b marks.Opened p.index) name);
  by = refl;
  to = refl;
})

-- an open pair is broken, or goes on in its next epoch
open_lost : (p q : Pair) (to : Target) → p.to ≡ to → broken p to ≡ Ok q → (conn : ℕ) → p.mark ≡ nodes.Opened conn → Lost p q
open_lost p q (targets.Named at name) to h conn is = next_lost p q h (ap is_named to) conn is
open_lost p q (targets.Process process) to h conn is = marked_lost p q h (ap is_named to) conn is
open_lost p q (targets.Port port) to h conn is = marked_lost p q h (ap is_named to) conn is

-- any other stays
still_lost : (p q : Pair) → ◌≡◌ {A = Result Pair Stop} (Ok p) (Ok q) → (m : nodes.Mark) → p.mark ≡ m → ((conn : ℕ) → m ≡ nodes.Opened conn → ⊥) → Lost p q
still_lost p q h m is not = subst (Lost p) (gives p q h) (by_mark m is not) where
  by_mark : (m : nodes.Mark) → p.mark ≡ m → ((conn : ℕ) → m ≡ nodes.Opened conn → ⊥) → Lost p p
  by_mark nodes.Unopened is not = record {
    mark = ap bare is ∙ sym (ap (λ m. mark_lost (is_named p.to) (bare m)) is);
    epoch = sym (ap (λ m. epoch_lost (is_named p.to) (bare m) p.epoch) is);
    index = sym (ap (λ m. index_lost (is_named p.to) (bare m) p.index) is);
    by = refl;
    to = refl;
  }
  by_mark nodes.Broken is not = record {
    mark = ap bare is ∙ sym (ap (λ m. mark_lost (is_named p.to) (bare m)) is);
    epoch = sym (ap (λ m. epoch_lost (is_named p.to) (bare m) p.epoch) is);
    index = sym (ap (λ m. index_lost (is_named p.to) (bare m) p.index) is);
    by = refl;
    to = refl;
  }
  by_mark (nodes.Opened conn) is not = absurd (not conn refl)

as_lost : (p q : Pair) (m : nodes.Mark) → p.mark ≡ m → lost_as p m ≡ Ok q → Lost p q
as_lost p q (nodes.Opened conn) is h = open_lost p q p.to refl h conn is
as_lost p q nodes.Unopened is h = still_lost p q h nodes.Unopened is (λ conn e. clash conn e) where
  clash : (conn : ℕ) → nodes.Unopened ≡ nodes.Opened conn → ⊥
  clash conn e = cc
as_lost p q nodes.Broken is h = still_lost p q h nodes.Broken is (λ conn e. clash conn e) where
  clash : (conn : ℕ) → nodes.Broken ≡ nodes.Opened conn → ⊥
  clash conn e = cc

pair_lost : (peer : AddressValue) (p q : Pair) → same_node (target_at p.to) peer ≡ true → lost_pair peer p ≡ Ok q → Lost p q
unfolding lost_pair
pair_lost peer p q at h = as_lost p q p.mark refl (sym (ap (λ b. if b then lost_as p p.mark else Ok p) at) ∙ h)

-- a pair keeps its key, wherever it goes to
key_kept : (peer : AddressValue) (p q : Pair) → lost_pair peer p ≡ Ok q → (q.by ≡ p.by) × (q.to ≡ p.to)
unfolding lost_pair
key_kept peer p q h = by_test (same_node (target_at p.to) peer) h where
  by_test : (b : Bool) → (if b then lost_as p p.mark else Ok p) ≡ Ok q → (q.by ≡ p.by) × (q.to ≡ p.to)
  by_test true h = let l = as_lost p q p.mark refl h in (l.by, l.to)
  by_test false h = let e = gives p q h in (ap (λ (z : Pair). z.by) (sym e), ap (λ (z : Pair). z.to) (sym e))

-- ---- all pairs

same_key : (p q : Pair) (by : ℕ) (to : Target) → p.by ≡ q.by → p.to ≡ q.to → is_pair by to p ≡ is_pair by to q
unfolding is_pair
same_key p q by to a b = ap (λ (z : ℕ). (z == by) && same_target p.to to) a ∙ ap (λ (z : Target). (q.by == by) && same_target z to) b

-- the pair that is found, and what is found after
found_lost : (peer : AddressValue) (by : ℕ) (to : Target) → same_node (target_at to) peer ≡ true → (pairs now : List Pair) → lost_pairs peer pairs ≡ Ok now → Lost (pair_of pairs by to) (pair_of now by to)
unfolding pair_of
found_lost peer by to at [] now h = subst (λ (z : List Pair). Lost (new_pair by to) (unwrap_or (find (is_pair by to) z) (new_pair by to))) (gives [] now h)
    (record { mark = refl; epoch = refl; index = refl; by = refl; to = refl })
found_lost peer by to at (known ∷ others) now h = by_known (lost_pair peer known) refl h (λ rest q. found_lost peer by to at others rest q) where
  head_lost : (lost : Pair) (rest : List Pair) → lost_pair peer known ≡ Ok lost → Lost (unwrap_or (find (is_pair by to) others) (new_pair by to)) (unwrap_or (find (is_pair by to) rest) (new_pair by to))
      → (x : Bool) → is_pair by to known ≡ x → (y : Bool) → is_pair by to lost ≡ y → x ≡ y
      → Lost (unwrap_or (cond x (Some known) (find (is_pair by to) others)) (new_pair by to)) (unwrap_or (cond y (Some lost) (find (is_pair by to) rest)) (new_pair by to))
  head_lost lost rest is later true xs true ys e = pair_lost peer known lost (ap (λ (z : Target). same_node (target_at z) peer) (pair_key by to known xs).1 ∙ at) is
  head_lost lost rest is later false xs false ys e = later
  head_lost lost rest is later true xs false ys e = absurd (clash e) where
    clash : true ≡ false → ⊥
    clash h = cc
  head_lost lost rest is later false xs true ys e = absurd (clash e) where
    clash : false ≡ true → ⊥
    clash h = cc

  same_test : (lost : Pair) → lost_pair peer known ≡ Ok lost → is_pair by to known ≡ is_pair by to lost
  same_test lost is = let k = key_kept peer known lost is in same_key known lost by to (sym k.0) (sym k.1)

  by_rest : (lost : Pair) → lost_pair peer known ≡ Ok lost → (r : Result (List Pair) Stop) → lost_pairs peer others ≡ r → r >>= (λ rest. Ok (lost ∷ rest)) ≡ Ok now
      → ((rest : List Pair) → lost_pairs peer others ≡ Ok rest → Lost (unwrap_or (find (is_pair by to) others) (new_pair by to)) (unwrap_or (find (is_pair by to) rest) (new_pair by to)))
      → Lost (unwrap_or (find (is_pair by to) (known ∷ others)) (new_pair by to)) (unwrap_or (find (is_pair by to) now) (new_pair by to))
  by_rest lost is (Err e) ls h f = refuses e now h
  by_rest lost is (Ok rest) ls h f = subst (λ (z : List Pair). Lost (unwrap_or (find (is_pair by to) (known ∷ others)) (new_pair by to)) (unwrap_or (find (is_pair by to) z) (new_pair by to))) (gives (lost ∷ rest) now h)
      (head_lost lost rest is (f rest ls) (is_pair by to known) refl (is_pair by to lost) refl (same_test lost is))

  by_known : (r : Result Pair Stop) → lost_pair peer known ≡ r → r >>= (λ lost. lost_pairs peer others >>= (λ rest. Ok (lost ∷ rest))) ≡ Ok now
      → ((rest : List Pair) → lost_pairs peer others ≡ Ok rest → Lost (unwrap_or (find (is_pair by to) others) (new_pair by to)) (unwrap_or (find (is_pair by to) rest) (new_pair by to)))
      → Lost (unwrap_or (find (is_pair by to) (known ∷ others)) (new_pair by to)) (unwrap_or (find (is_pair by to) now) (new_pair by to))
  by_known (Err e) is h f = refuses e now h
  by_known (Ok lost) is h f = by_rest lost is (lost_pairs peer others) refl h f

-- ---- the passage

epoch_stays : (name : Bool) (m : nodes.Mark) (e : ℕ) → ((conn : ℕ) → m ≡ nodes.Opened conn → ⊥) → epoch_lost name (bare m) e ≡ e
epoch_stays name nodes.Unopened e not = refl
epoch_stays name nodes.Broken e not = refl
epoch_stays name (nodes.Opened conn) e not = absurd (not conn refl)

index_stays : (name : Bool) (m : nodes.Mark) (k : ℕ) → ((conn : ℕ) → m ≡ nodes.Opened conn → ⊥) → index_lost name (bare m) k ≡ k
index_stays name nodes.Unopened k not = refl
index_stays name nodes.Broken k not = refl
index_stays name (nodes.Opened conn) k not = absurd (not conn refl)

-- a party whose link was up and failed
pub fails : (party : Party) (input : LinkIn) (sock : ℕ) (probed : Bool) (why : Why) → Fails party input sock probed why → HostFails party input sock why
fails party input sock probed why h = let l = link_of party in
    ap (λ (s : LinkState). hears input (record l { state = s }) party.host) h.up ∙ fails_up l.end l.peer l.waits l.given l.created input sock probed why party.host h.fails

module _ (party : Party) (sock : ℕ) where
  abbrev Own : Link
  Own = link_of party

  pub link_now : link_with (host_after party.host Own sock) party.end party.peer ≡ forgotten Own Idle
  link_now = let key = link_named party.host party.end party.peer in
      ap (λ (z : ℕ). link_with (host_after party.host Own sock) z party.peer) (sym key.0) ∙ ap (λ (z : AddressValue). link_with (host_after party.host Own sock) Own.end z) (sym key.1)
      ∙ link_kept (forgotten Own Idle) (end_socket sock (with_link (record Own { state = Idle }) party.host))

module _ (party : Party) (why : Why) (pairs : List Pair) (pairs_lost : lost_pairs party.peer party.node.pairs ≡ Ok pairs) where
  abbrev Told : Result (List Act × NodeState) Stop
  Told = each_in_turn (lost_told why) (lost_of party.node.watches party.peer).0 (node_after party pairs)

  hears_it : node_event party.node (events.ConnectionLost party.peer why) ≡ Told
  unfolding node_event peer_lost
  hears_it = ap (λ (r : Result (List Pair) Stop). r >>= (λ now. each_in_turn (lost_told why) (lost_of party.node.watches party.peer).0 (node_after party now))) pairs_lost

  pub silent : IsSilent party why pairs
  silent unwatched = hears_it ∙ ap (λ (waiting : List Waiting). each_in_turn (lost_told why) waiting (node_after party pairs)) unwatched

  -- its processes are told, and it is as before otherwise
  pub tells_still : (did : List Act) (now : NodeState) → node_event party.node (events.ConnectionLost party.peer why) ≡ Ok (did, now) → Still (node_after party pairs) now
  unfolding lost_told
  tells_still did now h = each_still (lost_told why) (λ waiting m. watch_still waiting.kind m (reference_to m waiting.number) (reason_of why) waiting.owner) (lost_of party.node.watches party.peer).0 (node_after party pairs) did now (sym hears_it ∙ h)

module _ (names : List Name) (scene : Scene) (input : LinkIn) (sock : ℕ) (probed : Bool) (why : Why) (pairs : List Pair) (f : Fails scene.from input sock probed why) (h : LosesSocket names scene pairs) where
  abbrev N : NodeState
  N = scene.from.node

  abbrev V : Passage
  V = view names scene

  abbrev Now : NodeState
  Now = node_after scene.from pairs

  forgets : link_with (host_after scene.from.host (link_of scene.from) sock) scene.from.end scene.from.peer ≡ forgotten (link_of scene.from) Idle
  forgets = link_now scene.from sock

  module _ (d : ℕ) (name : Name) (is : slice_get names d ≡ Some name) where
    abbrev P : Pair
    P = pair_at N name

    abbrev Q : Pair
    Q = pair_at Now name

    lost : Lost P Q
    lost = found_lost scene.from.peer name.by name.to (h.at_peer d name is) N.pairs pairs h.pairs_lost

    to_is : P.to ≡ name.to
    to_is = (pair_named N.pairs name.by name.to).1

    mark_by : (ended : Bool) → mark_as ended Q.mark ≡ mark_lost (is_named name.to) (mark_as ended P.mark)
    mark_by true = refl
    mark_by false = lost.mark ∙ ap (λ (t : Target). mark_lost (is_named t) (bare P.mark)) to_is

    epoch_by : (ended : Bool) → has_ended N name.by ≡ ended → Q.epoch ≡ epoch_lost (is_named name.to) (mark_as ended P.mark) P.epoch
    epoch_by true over = lost.epoch ∙ epoch_stays (is_named P.to) P.mark P.epoch (h.closed d name is over)
    epoch_by false over = lost.epoch ∙ ap (λ (t : Target). epoch_lost (is_named t) (bare P.mark) P.epoch) to_is

    index_by : (ended : Bool) → has_ended N name.by ≡ ended → Q.index ≡ index_lost (is_named name.to) (mark_as ended P.mark) P.index
    index_by true over = lost.index ∙ index_stays (is_named P.to) P.mark P.index (h.closed d name is over)
    index_by false over = lost.index ∙ ap (λ (t : Target). index_lost (is_named t) (bare P.mark) P.index) to_is

  mark_now : (d : ℕ) (o : Option Name) → slice_get names d ≡ o → mark_of Now o ≡ mark_lost (named o) (mark_of N o)
  mark_now d None is = by_shut N.is_shut where
    by_shut : (b : Bool) → mark_as b nodes.Unopened ≡ mark_lost false (mark_as b nodes.Unopened)
    by_shut true = refl
    by_shut false = refl
  mark_now d (Some name) is = mark_by d name is (has_ended N name.by)

  epoch_now : (d : ℕ) (o : Option Name) → slice_get names d ≡ o → epoch_of Now o ≡ epoch_lost (named o) (mark_of N o) (epoch_of N o)
  epoch_now d None is = by_shut N.is_shut where
    by_shut : (b : Bool) → 0 ≡ epoch_lost false (mark_as b nodes.Unopened) 0
    by_shut true = refl
    by_shut false = refl
  epoch_now d (Some name) is = epoch_by d name is (has_ended N name.by) refl

  index_now : (d : ℕ) (o : Option Name) → slice_get names d ≡ o → index_of Now o ≡ index_lost (named o) (mark_of N o) (index_of N o)
  index_now d None is = by_shut N.is_shut where
    by_shut : (b : Bool) → 0 ≡ index_lost false (mark_as b nodes.Unopened) 0
    by_shut true = refl
    by_shut false = refl
  index_now d (Some name) is = index_by d name is (has_ended N name.by) refl

  seen_now : view names (broken_in scene sock Now) ≡ after Break V
  seen_now = sending_alike (view names (broken_in scene sock Now)) (after Break V) refl (λ d. mark_now d (slice_get names d) refl) (λ d. epoch_now d (slice_get names d) refl) (λ d. index_now d (slice_get names d) refl)
      (ap (λ (l : Link). items_of [] l.waits) forgets) (ap (λ (l : Link). is_up l.state) forgets) refl refl refl refl (λ d e. refl) (λ d. refl) refl

  pub is_broken : IsBroken names scene input sock why pairs
  is_broken = record {
    host_fails = fails scene.from input sock probed why f;
    silent = silent scene.from why pairs h.pairs_lost;
    seen = λ did now heard. is_unseen (broken_in scene sock Now) now (tells_still scene.from why pairs h.pairs_lost did now heard).0 names ∙ seen_now;
  }
