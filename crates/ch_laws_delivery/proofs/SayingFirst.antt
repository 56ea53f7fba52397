-- What a node does that says the first message of an epoch, and what is seen of its pair then; and the ids of connections.
use Rattle.std.specs.Prelude.{◌≡◌, ℕ, suc, ◌+◌, ◌-◌, nat_eq, Bool, true, false, cond, List, [], ◌∷◌, ◌++◌, length, slice_get, nat_lt, Option, Some, None, Result, Ok, if◌then◌else◌}
use Rattle.std.proofs.Common.{refl, ap, sym, ◌∙◌, arith}
use Rattle.std.proofs.lemmas.Bool.Decides.{nat_tests}
use Rattle.ch_base.specs.declared.memory.Stop.{Stop}
use Rattle.ch_ident.specs.declared.identifier.Identifier.TheVariants as ends
use Rattle.ch_ident.specs.declared.message.Message.{Message}
use Rattle.ch_light.proofs.Lists.{push_here}
use Rattle.ch_light.specs.declared.TheConstants.{FIRST_ID}
use Rattle.ch_wire.specs.declared.frame.Frame.TheVariants as frames
use Rattle.ch_model.specs.declared.act.Act.TheVariants as acts
use Rattle.ch_model.specs.declared.note.Note.TheVariants as notes
use Rattle.ch_model.specs.declared.step.Weight.TheVariants.{Free}
use Rattle.ch_model.specs.NodeState as nodes
use Rattle.ch_model.specs.NodeState.{NodeState, Pair}
use Rattle.ch_model.specs.NodeIds.{process_id, is_here, target_at, opened_to}
use Rattle.ch_model.specs.NodeActs as node
use Rattle.ch_model.specs.NodeActs.{◌and_then◌, noting, doing, growing}
use Rattle.ch_model.specs.NodePairs.{keeping}
use Rattle.ch_model.specs.NodeConnections.{drawn, opening}
use Rattle.ch_model.specs.NodeSends.{payload_of, weight_of, with_said, send_first, send_on, deliver, carry, say}
use Rattle.ch_delivery.specs.Passage.{Mark, Opened, Unopened, Item, Entry, Said, Passage}
use Rattle.ch_delivery.specs.Passage as items
use Rattle.ch_delivery.specs.Moves as moves
use Rattle.ch_delivery.specs.Moves.{Say, put, noted, marked, written, after}
use Rattle.ch_laws_delivery.specs.Scene.{Name, Use, Scene}
use Rattle.ch_laws_delivery.specs.Sending.{bare, mark_as, has_ended, pair_at, mark_of, epoch_of, index_of, flat, use_at, carried, items_of}
use Rattle.ch_laws_delivery.specs.Sends.{weight_at}
use Rattle.ch_laws_delivery.specs.View.{view, AreApart}
use Rattle.ch_laws_delivery.specs.FirstSends.{opening_of, first_acts, with_conn, first_after}
use Rattle.ch_laws_delivery.proofs.Pairs.{one_by, one_to, own_pair, read_at}

-- ---- the node

pub says_first : (n : NodeState) (pair : Pair) (said : Message) (conn : ℕ) → growing pair.index ≡ Ok pair.index → pair.mark ≡ nodes.Unopened → is_here n (target_at pair.to) ≡ false → drawn n ≡ Ok conn
    → say n pair said ≡ Ok (first_acts n pair conn said, first_after n pair conn)
unfolding say carry send_first drawn opening
says_first n pair said conn grows fresh away draws =
    ap (λ (r : Result ℕ Stop). node.◌>>=◌ r (λ index. noting (notes.Said (process_id n pair.by) pair.to pair.epoch index said) (keeping n (with_said pair)) and_then (λ m. carry m (with_said pair) said (weight_of pair.epoch index)))) grows
    ∙ ap (λ b. node.after (acts.Note (notes.Said (process_id n pair.by) pair.to pair.epoch pair.index said) ∷ [])
    (if b then deliver (keeping n (with_said pair)) (process_id n pair.by) pair.to said else send_on (keeping n (with_said pair)) (with_said pair) said (weight_at pair) pair.mark)) away
    ∙ ap (λ (m : nodes.Mark). node.after (acts.Note (notes.Said (process_id n pair.by) pair.to pair.epoch pair.index said) ∷ []) (send_on (keeping n (with_said pair)) (with_said pair) said (weight_at pair) m)) fresh
    ∙ ap (λ (r : Result ℕ Stop). node.after (acts.Note (notes.Said (process_id n pair.by) pair.to pair.epoch pair.index said) ∷ [])
    (node.◌>>=◌ r (λ k. doing (opening k (target_at pair.to) (ends.Process (process_id n pair.by)) (opened_to pair.to) ++ acts.Put k (payload_of pair.to said) (weight_at pair) ∷ [])
    (record (keeping (keeping n (with_said pair)) (record (with_said pair) { mark = nodes.Opened k })) { opened = n.opened + 1 })))) draws

-- ---- ids

not_below : (a b : ℕ) → nat_lt (a + b) a ≡ false
not_below a b = grind (arith, nat_tests)

less_first : (a b : ℕ) → (a + b) - a ≡ b
less_first a b = omega arith

-- the id that is given next
pub next_use : (uses : List (Option Use)) (u : Use) (n : ℕ) → length uses ≡ n → use_at (uses ++ Some u ∷ []) (FIRST_ID + n) ≡ Some u
next_use uses u n h = ap (λ b. if b then None else flat (slice_get (uses ++ Some u ∷ []) ((FIRST_ID + n) - FIRST_ID))) (not_below FIRST_ID n)
    ∙ ap (λ (i : ℕ). flat (slice_get (uses ++ Some u ∷ []) i)) (less_first FIRST_ID n ∙ sym h)
    ∙ ap flat (push_here uses (Some u))

-- ---- the pair

module _ (names : List Name) (apart : AreApart names) (scene : Scene) (c : ℕ) (name : Name) (conn : ℕ) (known : slice_get names c ≡ Some name) (lives : has_ended scene.from.node name.by ≡ false)
    (fresh : (pair_at scene.from.node name).mark ≡ nodes.Unopened) where
  abbrev N : NodeState
  N = scene.from.node

  abbrev P : Pair
  P = pair_at N name

  abbrev V : Passage
  V = view names scene

  pub epoch_is : V.epoch c ≡ P.epoch
  epoch_is = ap (epoch_of N) known

  pub index_is : V.index c ≡ P.index
  index_is = ap (index_of N) known

  mark_is : V.mark c ≡ Unopened
  mark_is = ap (mark_of N) known ∙ ap (λ b. mark_as b P.mark) lives ∙ ap bare fresh

  -- what is said
  abbrev pub Items : List Item
  Items = items.Created c (V.epoch c) ∷ items.Message c (V.epoch c) (V.index c) ∷ []

  -- the passage that tells it, and hasn't written it
  abbrev pub Told : Passage
  Told = noted (Said c (V.epoch c) (V.index c)) (marked c Opened (V.epoch c) (suc (V.index c)) V)

  -- the passage's move, by its mark
  pub moved : after (Say c) V ≡ written V.up Items Told
  moved = ap (λ (m : Mark). moves.say m c V) mark_is

  by_is : (with_said P).by ≡ name.by
  by_is = one_by names apart N c name known

  pub to_is : (with_said P).to ≡ name.to
  to_is = one_to names apart N c name known

  abbrev Mid : NodeState
  Mid = keeping N (with_said P)

  now_own : pair_at (keeping Mid (with_conn P conn)) name ≡ with_conn P conn
  now_own = own_pair names apart Mid c name known (with_conn P conn) by_is to_is

  -- a reading of pairs by their names, after both
  module _ {X : Type 0} (f : NodeState → Option Name → X) (x y : X) (mine : f (keeping Mid (with_conn P conn)) (Some name) ≡ x) (half : f Mid (Some name) ≡ y)
      (none : (q : Pair) (n : NodeState) → f (keeping n q) None ≡ f n None) (others : (q : Pair) (n : NodeState) (other : Name) → pair_at (keeping n q) other ≡ pair_at n other → f (keeping n q) (Some other) ≡ f n (Some other))
      (counted : (o : Option Name) → f (first_after N P conn) o ≡ f (keeping Mid (with_conn P conn)) o) where
    read_twice : (d : ℕ) → f (first_after N P conn) (slice_get names d) ≡ put c x (λ e. f N (slice_get names e)) d
    read_twice d = counted (slice_get names d)
        ∙ read_at names apart Mid c name known (with_conn P conn) by_is to_is f x mine (none (with_conn P conn) Mid) (λ other same. others (with_conn P conn) Mid other same) d
        ∙ ap (cond (nat_eq d c) x) (read_at names apart N c name known (with_said P) by_is to_is f y half (none (with_said P) N) (λ other same. others (with_said P) N other same) d)
        ∙ twice (nat_eq d c) where
          twice : (b : Bool) → cond b x (cond b y (f N (slice_get names d))) ≡ cond b x (f N (slice_get names d))
          twice true = refl
          twice false = refl

  one_more : (n : ℕ) → n + 1 ≡ suc n
  one_more n = omega arith

  mark_counted : (o : Option Name) → mark_of (first_after N P conn) o ≡ mark_of (keeping Mid (with_conn P conn)) o
  mark_counted None = refl
  mark_counted (Some other) = refl

  epoch_counted : (o : Option Name) → epoch_of (first_after N P conn) o ≡ epoch_of (keeping Mid (with_conn P conn)) o
  epoch_counted None = refl
  epoch_counted (Some other) = refl

  index_counted : (o : Option Name) → index_of (first_after N P conn) o ≡ index_of (keeping Mid (with_conn P conn)) o
  index_counted None = refl
  index_counted (Some other) = refl

  pub marks : (d : ℕ) → mark_of (first_after N P conn) (slice_get names d) ≡ put c Opened V.mark d
  marks = read_twice mark_of Opened (mark_of Mid (Some name)) (ap (λ (z : Pair). mark_as (has_ended N name.by) z.mark) now_own ∙ ap (λ b. mark_as b (nodes.Opened conn)) lives) refl (λ q n. refl)
      (λ q n other same. ap (λ (z : Pair). mark_as (has_ended n other.by) z.mark) same) mark_counted

  pub epochs : (d : ℕ) → epoch_of (first_after N P conn) (slice_get names d) ≡ put c (V.epoch c) V.epoch d
  epochs = read_twice epoch_of (V.epoch c) (epoch_of Mid (Some name)) (ap (λ (z : Pair). z.epoch) now_own ∙ sym epoch_is) refl (λ q n. refl) (λ q n other same. ap (λ (z : Pair). z.epoch) same) epoch_counted

  pub indexes : (d : ℕ) → index_of (first_after N P conn) (slice_get names d) ≡ put c (suc (V.index c)) V.index d
  indexes = read_twice index_of (suc (V.index c)) (index_of Mid (Some name)) (ap (λ (z : Pair). z.index) now_own ∙ one_more P.index ∙ ap suc (sym index_is)) refl (λ q n. refl)
      (λ q n other same. ap (λ (z : Pair). z.index) same) index_counted

  pub entry_is : ◌≡◌ {A = List Entry} (Said c P.epoch P.index ∷ scene.log) (Said c (V.epoch c) (V.index c) ∷ scene.log)
  entry_is = ap (λ (z : ℕ). Said c z P.index ∷ scene.log) (sym epoch_is) ∙ ap (λ (z : ℕ). Said c (V.epoch c) z ∷ scene.log) (sym index_is)

  -- its frames say just that, one after another
  pub two_items : (uses : List (Option Use)) (id : ℕ) (said : Message) → use_at uses id ≡ Some (record { pair = c; epoch = P.epoch })
      → items_of uses ((frames.Created id, Free) ∷ (frames.Data id (opening_of N P), Free) ∷ (frames.Data id (payload_of P.to said), weight_at P) ∷ []) ≡ Items
  two_items uses id said used = ap (λ (u : Option Use). carried u None ++ (carried u (Some (record { epoch = P.epoch; index = P.index })) ++ [])) used
      ∙ ap (λ (z : ℕ). items.Created c z ∷ items.Message c z P.index ∷ []) (sym epoch_is)
      ∙ ap (λ (z : ℕ). items.Created c (V.epoch c) ∷ items.Message c (V.epoch c) z ∷ []) (sym index_is)
