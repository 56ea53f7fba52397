-- A process of the sending node that is over closes its connections, one after another, as the passage's moves say.
use Rattle.std.specs.Prelude.{◌≡◌, ℕ, Bool, true, false, cond, ◌==◌, ◌||◌, nat_eq, List, [], ◌∷◌, ◌++◌, map, find, slice_get, unwrap_or, Option, Some, None, Ok, if◌then◌else◌}
use Rattle.std.specs.Option.{option_map}
use Rattle.std.proofs.Common.{refl, ap, sym, ◌∙◌, arith}
use Rattle.std.proofs.lemmas.Bool.Decides.{nat_tests}
use Rattle.std.proofs.lemmas.Grind.{flat_map-append}
use Rattle.ch_base.specs.AddressValues.{AddressValue}
use Rattle.ch_link.specs.declared.LinkState.{LinkState}
use Rattle.ch_link.specs.declared.LinkState.TheVariants.{Idle, Dialing, AwaitOther, Up}
use Rattle.ch_static.specs.declared.target.Target.{Target}
use Rattle.ch_model.specs.HostState.{Link, HostState}
use Rattle.ch_model.specs.HostSteps.{link_with}
use Rattle.ch_model.specs.HostWrites.{is_up, said_of}
use Rattle.ch_model.specs.HostCalls.{host_close}
use Rattle.ch_model.specs.NodeState as nodes
use Rattle.ch_model.specs.NodeState.{NodeState, Pair}
use Rattle.ch_model.specs.NodePairs.{is_pair, new_pair, pair_of, closed_mark, closed_by, closed_pairs}
use Rattle.ch_delivery.specs.Passage.{Mark, Opened, Ended, Item, Closed, Passage}
use Rattle.ch_delivery.specs.Passage as marks
use Rattle.ch_delivery.specs.Moves as moves
use Rattle.ch_delivery.specs.Moves.{Finish, put, onto, marked, written, write, after, run}
use Rattle.ch_laws_delivery.specs.Scene.{Name, Use, Scene, link_of}
use Rattle.ch_laws_delivery.specs.Sending.{mark_as, is_over_at, has_ended, pair_at, mark_of, epoch_of, index_of, closing, items_in, items_of}
use Rattle.ch_laws_delivery.specs.View.{view}
use Rattle.ch_laws_delivery.specs.Reconnects.{closed_host}
use Rattle.ch_laws_delivery.specs.UpReconnects.{close_frame, host_without}
use Rattle.ch_laws_delivery.specs.Endings.{Parting, Parts, parting_steps, parted_as, parted, IsParted, all_parted, AllPart, AllClosed, has, AreDistinct, is_by, AllOpen, NoneOpen, pairs_of, EndsWith, IsOver}
use Rattle.ch_laws_delivery.proofs.Keys.{link_kept, link_named, pair_named}
use Rattle.ch_laws_delivery.proofs.Reconnects.{closes_it, closes_up}
use Rattle.ch_laws_delivery.proofs.Alike.{sending_alike}

-- ---- one connection

module _ (names : List Name) (scene : Scene) (p : Parting) (h : Parts scene p) where
  abbrev V : Passage
  V = view names scene

  abbrev L : Link
  L = link_of scene.from

  abbrev Word : List Item
  Word = Closed p.pair p.epoch ∷ []

  one_item : items_of scene.given (close_frame p.id ∷ []) ≡ Word
  one_item = ap (λ (u : Option Use). closing u ++ []) h.used

  -- while the link isn't up
  abbrev Kept : HostState
  Kept = closed_host scene.from.host L p.id p.table

  pub kept_now : link_with Kept scene.from.end scene.from.peer ≡ record L { given = p.table; waits = L.waits ++ close_frame p.id ∷ [] }
  kept_now = let key = link_named scene.from.host scene.from.end scene.from.peer in
      ap (λ (z : ℕ). link_with Kept z scene.from.peer) (sym key.0) ∙ ap (λ (z : AddressValue). link_with Kept L.end z) (sym key.1)
      ∙ link_kept (record L { given = p.table; waits = L.waits ++ close_frame p.id ∷ [] }) scene.from.host

  waiting : items_of scene.given (link_with Kept scene.from.end scene.from.peer).waits ≡ V.waits ++ Word
  waiting = ap (λ (l : Link). items_of scene.given l.waits) kept_now
      ∙ flat_map-append (λ item. items_in scene.given item.0 (said_of item.1)) L.waits (close_frame p.id ∷ []) ∙ ap (λ (z : List Item). V.waits ++ z) one_item

  seen_kept : view names (record scene { from = record (scene.from) { host = Kept } }) ≡ written false Word V
  seen_kept = sending_alike (view names (record scene { from = record (scene.from) { host = Kept } })) (written false Word V) refl (λ d. refl) (λ d. refl) (λ d. refl) waiting
      (ap (λ (l : Link). is_up l.state) kept_now) refl refl refl refl (λ d e. refl) (λ d. refl) refl

  -- while it is
  abbrev Without : HostState
  Without = host_without scene.from.host L p.table

  pub without_now : link_with Without scene.from.end scene.from.peer ≡ record L { given = p.table }
  without_now = let key = link_named scene.from.host scene.from.end scene.from.peer in
      ap (λ (z : ℕ). link_with Without z scene.from.peer) (sym key.0) ∙ ap (λ (z : AddressValue). link_with Without L.end z) (sym key.1) ∙ link_kept (record L { given = p.table }) scene.from.host

  seen_written : (sock : ℕ) (probed : Bool) → view names (parted_as (Up sock probed) scene p) ≡ written true Word V
  seen_written sock probed = sending_alike (view names (parted_as (Up sock probed) scene p)) (written true Word V) refl (λ d. refl) (λ d. refl) (λ d. refl)
      (ap (λ (l : Link). items_of scene.given l.waits) without_now) (ap (λ (l : Link). is_up l.state) without_now) refl
      (ap (λ (z : List Item). put scene.way.on (onto (scene.way.cut scene.way.on) (scene.way.flight scene.way.on) z) scene.way.flight) one_item) refl refl (λ d e. refl) (λ d. refl) refl

  abbrev Claim : LinkState → Type 0
  Claim s = (host_close scene.from.host scene.from.end p.conn ≡ Ok (parting_steps s p.id, (parted_as s scene p).from.host)) × (view names (parted_as s scene p) ≡ written (is_up s) Word V)

  by_state : (s : LinkState) → L.state ≡ s → Claim s
  by_state Idle is = (closes_it scene.from.host scene.from.end p.conn p.id L p.table h.carried h.closes (ap is_up is), seen_kept)
  by_state (Dialing sock) is = (closes_it scene.from.host scene.from.end p.conn p.id L p.table h.carried h.closes (ap is_up is), seen_kept)
  by_state AwaitOther is = (closes_it scene.from.host scene.from.end p.conn p.id L p.table h.carried h.closes (ap is_up is), seen_kept)
  by_state (Up sock probed) is = (closes_up scene.from.host scene.from.end p.conn p.id sock probed L p.table h.carried h.closes is, seen_written sock probed)

  pub is_parted : IsParted names scene p
  is_parted = let claim = by_state L.state refl in record { host_closes = claim.0; seen = claim.1 }

-- ---- the machine

-- the passage where these pairs are finished already, but nothing of it is written
abbrev finished : List ℕ → Passage → Passage
finished cs p = record p { mark = λ d. cond (has cs d) Ended (p.mark d) }

same_number : (d c : ℕ) → nat_eq d c ≡ true → d ≡ c
same_number d c h = grind (arith, nat_tests)

-- one of them is finished on its own
module _ (c : ℕ) (rest : List ℕ) (p : Passage) where
  abbrev One : Passage
  One = marked c Ended (p.epoch c) (p.index c) p

  mark_one : (d : ℕ) → cond (has (c ∷ rest) d) Ended (p.mark d) ≡ cond (has rest d) Ended (One.mark d)
  mark_one d = by_test (nat_eq d c) (has rest d) where
    by_test : (x y : Bool) → cond (x || y) Ended (p.mark d) ≡ cond y Ended (cond x Ended (p.mark d))
    by_test true true = refl
    by_test true false = refl
    by_test false true = refl
    by_test false false = refl

  same_at : (f : ℕ → ℕ) (d : ℕ) → f d ≡ put c (f c) f d
  same_at f d = by_test (nat_eq d c) refl where
    by_test : (x : Bool) → nat_eq d c ≡ x → f d ≡ cond x (f c) (f d)
    by_test true is = ap f (same_number d c is)
    by_test false is = refl

  one_written : (b : Bool) (word : List Item) → written b word (finished (c ∷ rest) p) ≡ finished rest (written b word One)
  one_written true word = sending_alike (written true word (finished (c ∷ rest) p)) (finished rest (written true word One)) refl mark_one (same_at p.epoch) (same_at p.index) refl refl refl refl refl refl (λ d e. refl) (λ d. refl) refl
  one_written false word = sending_alike (written false word (finished (c ∷ rest) p)) (finished rest (written false word One)) refl mark_one (same_at p.epoch) (same_at p.index) refl refl refl refl refl refl (λ d e. refl) (λ d. refl) refl

  one_open : p.mark c ≡ Opened → write (Closed c (p.epoch c) ∷ []) (finished (c ∷ rest) p) ≡ finished rest (after (Finish c) p)
  one_open is = one_written p.up (Closed c (p.epoch c) ∷ []) ∙ sym (ap (λ (m : Mark). finished rest (moves.finish m c p)) is)

  -- one that isn't open changes its mark alone
  bare_is : (m : Mark) → (m ≡ Opened → ⊥) → moves.finish m c p ≡ One
  bare_is marks.Unopened not = refl
  bare_is marks.Broken not = refl
  bare_is marks.Ended not = refl
  bare_is marks.Opened not = absurd (not refl)

  one_bare : (p.mark c ≡ Opened → ⊥) → finished (c ∷ rest) p ≡ finished rest (after (Finish c) p)
  one_bare not = sending_alike (finished (c ∷ rest) p) (finished rest One) refl mark_one (same_at p.epoch) (same_at p.index) refl refl refl refl refl refl (λ d e. refl) (λ d. refl) refl
      ∙ sym (ap (finished rest) (bare_is (p.mark c) not))

-- finishing one leaves every other pair as it is
other_after : (c d : ℕ) (p : Passage) → nat_eq d c ≡ false → ((after (Finish c) p).mark d ≡ p.mark d) × ((after (Finish c) p).epoch d ≡ p.epoch d)
other_after c d p off = by_mark (p.mark c) where
  stays : {X : Type 0} (x : X) (f : ℕ → X) → put c x f d ≡ f d
  stays x f = ap (λ b. cond b x (f d)) off

  by_up : (b : Bool) (word : List Item) → ((written b word (marked c Ended (p.epoch c) (p.index c) p)).mark d ≡ p.mark d) × ((written b word (marked c Ended (p.epoch c) (p.index c) p)).epoch d ≡ p.epoch d)
  by_up true word = (stays Ended p.mark, stays (p.epoch c) p.epoch)
  by_up false word = (stays Ended p.mark, stays (p.epoch c) p.epoch)

  by_mark : (m : Mark) → ((moves.finish m c p).mark d ≡ p.mark d) × ((moves.finish m c p).epoch d ≡ p.epoch d)
  by_mark marks.Opened = by_up p.up (Closed c (p.epoch c) ∷ [])
  by_mark marks.Unopened = (stays Ended p.mark, stays (p.epoch c) p.epoch)
  by_mark marks.Broken = (stays Ended p.mark, stays (p.epoch c) p.epoch)
  by_mark marks.Ended = (stays Ended p.mark, stays (p.epoch c) p.epoch)

-- and the pair itself is over
own_after : (c : ℕ) (p : Passage) → (after (Finish c) p).mark c ≡ Ended
own_after c p = by_mark (p.mark c) where
  self : (c : ℕ) → nat_eq c c ≡ true
  self c = grind (arith, nat_tests)

  here : put c Ended p.mark c ≡ Ended
  here = ap (λ b. cond b Ended (p.mark c)) (self c)

  by_up : (b : Bool) (word : List Item) → (written b word (marked c Ended (p.epoch c) (p.index c) p)).mark c ≡ Ended
  by_up true word = here
  by_up false word = here

  by_mark : (m : Mark) → (moves.finish m c p).mark c ≡ Ended
  by_mark marks.Opened = by_up p.up (Closed c (p.epoch c) ∷ [])
  by_mark marks.Unopened = here
  by_mark marks.Broken = here
  by_mark marks.Ended = here

still_open : (c : ℕ) (p : Passage) (ps : List Parting) → has (pairs_of ps) c ≡ false → AllOpen p ps → AllOpen (after (Finish c) p) ps
still_open c p [] off h = tt
still_open c p (q ∷ rest) off h = let parts = either (nat_eq c q.pair) (has (pairs_of rest) c) off in
    let other = other_after c q.pair p (turned c q.pair parts.0) in
    ((other.0 ∙ h.0.0, other.1 ∙ h.0.1), still_open c p rest parts.1 h.1) where
      either : (x y : Bool) → (x || y) ≡ false → (x ≡ false) × (y ≡ false)
      either false false q = (refl, refl)
      either true y q = absurd (clash q) where
        clash : true ≡ false → ⊥
        clash e = cc
      either false true q = absurd (clash q) where
        clash : true ≡ false → ⊥
        clash e = cc

      turned : (c d : ℕ) → nat_eq c d ≡ false → nat_eq d c ≡ false
      turned c d h = grind (arith, nat_tests)

still_bare : (c : ℕ) (p : Passage) (cs : List ℕ) → NoneOpen p cs → NoneOpen (after (Finish c) p) cs
still_bare c p [] h = tt
still_bare c p (d ∷ rest) h = ((λ q. by_test (nat_eq d c) refl q), still_bare c p rest h.1) where
  clash : Ended ≡ Opened → ⊥
  clash e = cc

  by_test : (b : Bool) → nat_eq d c ≡ b → (after (Finish c) p).mark d ≡ Opened → ⊥
  by_test true is q = clash (sym (own_after c p) ∙ ap (after (Finish c) p).mark (sym (same_number d c is)) ∙ q)
  by_test false is q = h.0 (sym (other_after c d p is).0 ∙ q)

all_bare : (cs : List ℕ) (p : Passage) → NoneOpen p cs → finished cs p ≡ run (map (λ c. Finish c) cs) p
all_bare [] p h = refl
all_bare (c ∷ rest) p h = one_bare c rest p h.0 ∙ all_bare rest (after (Finish c) p) (still_bare c p rest h.1)

-- ---- all connections

closed_all : (names : List Name) (scene : Scene) (ps : List Parting) → AllPart scene ps → AllClosed scene ps
closed_all names scene [] h = tt
closed_all names scene (p ∷ rest) h = ((is_parted names scene p h.0).host_closes, closed_all names (parted scene p) rest h.1)

run_all : (names : List Name) (others : List ℕ) (ps : List Parting) (scene : Scene) (p : Passage) → AllPart scene ps → AreDistinct (pairs_of ps) → AllOpen p ps → NoneOpen p others → view names scene ≡ finished (pairs_of ps ++ others) p
    → view names (all_parted scene ps) ≡ run (map (λ c. Finish c) (pairs_of ps ++ others)) p
run_all names others [] scene p part distinct opens bare seen = seen ∙ all_bare others p bare
run_all names others (q ∷ rest) scene p part distinct opens bare seen =
    run_all names others rest (parted scene q) (after (Finish q.pair) p) part.1 distinct.1 (still_open q.pair p rest distinct.0 opens.1) (still_bare q.pair p others bare)
    ((is_parted names scene q part.0).seen ∙ ap (write (Closed q.pair q.epoch ∷ [])) seen
    ∙ ap (λ (e : ℕ). write (Closed q.pair e ∷ []) (finished (q.pair ∷ pairs_of rest ++ others) p)) (sym opens.0.1)
    ∙ one_open q.pair (pairs_of rest ++ others) p opens.0.0)

-- ---- the pairs of the process

module _ (number : ℕ) where
  kept_key : (by : ℕ) (to : Target) (pair : Pair) → is_pair by to (closed_by number pair) ≡ is_pair by to pair
  unfolding is_pair
  kept_key by to pair = by_test (pair.by == number) where
    by_test : (b : Bool) → is_pair by to (if b then record pair { mark = closed_mark pair.mark } else pair) ≡ is_pair by to pair
    by_test true = refl
    by_test false = refl

  -- a pair is found as it is after all were closed
  found_closed : (by : ℕ) (to : Target) (pairs : List Pair) → find (is_pair by to) (map (closed_by number) pairs) ≡ option_map (closed_by number) (find (is_pair by to) pairs)
  found_closed by to [] = refl
  found_closed by to (known ∷ rest) = ap (λ b. cond b (Some (closed_by number known)) (find (is_pair by to) (map (closed_by number) rest))) (kept_key by to known)
      ∙ ap (cond (is_pair by to known) (Some (closed_by number known))) (found_closed by to rest) ∙ by_test (is_pair by to known) where
        by_test : (b : Bool) → cond b (Some (closed_by number known)) (option_map (closed_by number) (find (is_pair by to) rest)) ≡ option_map (closed_by number) (cond b (Some known) (find (is_pair by to) rest))
        by_test true = refl
        by_test false = refl

  new_closed : (by : ℕ) (to : Target) → closed_by number (new_pair by to) ≡ new_pair by to
  new_closed by to = by_test (by == number) where
    by_test : (b : Bool) → (if b then record (new_pair by to) { mark = closed_mark (new_pair by to).mark } else new_pair by to) ≡ new_pair by to
    by_test true = refl
    by_test false = refl

  pair_closed : (pairs : List Pair) (by : ℕ) (to : Target) → pair_of (closed_pairs pairs number) by to ≡ closed_by number (pair_of pairs by to)
  unfolding pair_of closed_pairs
  pair_closed pairs by to = ap (λ (o : Option Pair). unwrap_or o (new_pair by to)) (found_closed by to pairs) ∙ by_found (find (is_pair by to) pairs) where
    by_found : (o : Option Pair) → unwrap_or (option_map (closed_by number) o) (new_pair by to) ≡ closed_by number (unwrap_or o (new_pair by to))
    by_found None = sym (new_closed by to)
    by_found (Some pair) = refl

  epoch_closed : (pair : Pair) → (closed_by number pair).epoch ≡ pair.epoch
  epoch_closed pair = by_test (pair.by == number) where
    by_test : (b : Bool) → (if b then record pair { mark = closed_mark pair.mark } else pair).epoch ≡ pair.epoch
    by_test true = refl
    by_test false = refl

  index_closed : (pair : Pair) → (closed_by number pair).index ≡ pair.index
  index_closed pair = by_test (pair.by == number) where
    by_test : (b : Bool) → (if b then record pair { mark = closed_mark pair.mark } else pair).index ≡ pair.index
    by_test true = refl
    by_test false = refl

  other_mark : (pair : Pair) → (pair.by == number) ≡ false → (closed_by number pair).mark ≡ pair.mark
  other_mark pair off = ap (λ b. (if◌then◌else◌ {A = Pair} b (record pair { mark = closed_mark pair.mark }) pair).mark) off

-- ---- the end

module _ (names : List Name) (scene : Scene) (number : ℕ) (now : NodeState) (ps : List Parting) (others : List ℕ) (h : EndsWith names scene number now ps others) where
  abbrev N : NodeState
  N = scene.from.node

  abbrev Cs : List ℕ
  Cs = pairs_of ps ++ others

  now_pair : (name : Name) → pair_at now name ≡ closed_by number (pair_at N name)
  now_pair name = ap (λ pairs. pair_of pairs name.by name.to) h.ends.pairs ∙ pair_closed number N.pairs name.by name.to

  mark_now : (o : Option Name) → mark_of now o ≡ cond (is_by number o) Ended (mark_of N o)
  mark_now None = ap (λ b. mark_as b nodes.Unopened) h.ends.shut
  mark_now (Some name) = ap (λ b. mark_as (b || is_over_at now name.by) (pair_at now name).mark) h.ends.shut ∙ ap (λ b. mark_as (N.is_shut || b) (pair_at now name).mark) (h.ends.over name.by) ∙ by_test (name.by == number) refl where
    either : (b : Bool) (m : nodes.Mark) → mark_as (b || true) m ≡ Ended
    either true m = refl
    either false m = refl

    by_test : (b : Bool) → (name.by == number) ≡ b → mark_as (N.is_shut || (if b then true else is_over_at N name.by)) (pair_at now name).mark ≡ cond b Ended (mark_as (has_ended N name.by) (pair_at N name).mark)
    by_test true is = either N.is_shut (pair_at now name).mark
    by_test false is = ap (λ (q : Pair). mark_as (has_ended N name.by) q.mark) (now_pair name)
        ∙ ap (mark_as (has_ended N name.by)) (other_mark number (pair_at N name) (ap (λ (z : ℕ). z == number) (pair_named N.pairs name.by name.to).0 ∙ is))

  epoch_now : (o : Option Name) → epoch_of now o ≡ epoch_of N o
  epoch_now None = refl
  epoch_now (Some name) = ap (λ (q : Pair). q.epoch) (now_pair name) ∙ epoch_closed number (pair_at N name)

  index_now : (o : Option Name) → index_of now o ≡ index_of N o
  index_now None = refl
  index_now (Some name) = ap (λ (q : Pair). q.index) (now_pair name) ∙ index_closed number (pair_at N name)

  first_seen : view names (record scene { from = record (scene.from) { node = now } }) ≡ finished Cs (view names scene)
  first_seen = sending_alike (view names (record scene { from = record (scene.from) { node = now } })) (finished Cs (view names scene)) refl
      (λ d. mark_now (slice_get names d) ∙ ap (λ b. cond b Ended (mark_of N (slice_get names d))) (sym (h.all d)))
      (λ d. epoch_now (slice_get names d)) (λ d. index_now (slice_get names d)) refl refl refl refl refl refl (λ d e. refl) (λ d. refl) refl

  pub is_finished : IsOver names scene now ps others
  is_finished = record {
    host_closes = closed_all names (record scene { from = record (scene.from) { node = now } }) ps h.part;
    seen = run_all names others ps (record scene { from = record (scene.from) { node = now } }) (view names scene) h.part h.distinct h.opens h.bare first_seen;
  }
