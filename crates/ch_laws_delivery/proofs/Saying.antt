-- What a node does that says one message more of an epoch, and what is seen of its pair then.
use Rattle.std.specs.Prelude.{◌≡◌, ℕ, suc, ◌+◌, false, List, [], ◌∷◌, ◌++◌, slice_get, Option, Some, Result, Ok, if◌then◌else◌}
use Rattle.std.proofs.Common.{refl, ap, sym, ◌∙◌, arith}
use Rattle.ch_base.specs.declared.memory.Stop.{Stop}
use Rattle.ch_ident.specs.declared.message.Message.{Message}
use Rattle.ch_wire.specs.declared.frame.Frame.TheVariants as frames
use Rattle.ch_model.specs.declared.act.Act.TheVariants as acts
use Rattle.ch_model.specs.declared.note.Note.TheVariants as notes
use Rattle.ch_model.specs.NodeState as nodes
use Rattle.ch_model.specs.NodeState.{NodeState, Pair}
use Rattle.ch_model.specs.NodeIds.{process_id, is_here, target_at}
use Rattle.ch_model.specs.NodeActs as node
use Rattle.ch_model.specs.NodeActs.{◌>>=◌, ◌and_then◌, noting, growing}
use Rattle.ch_model.specs.NodePairs.{keeping}
use Rattle.ch_model.specs.NodeSends.{payload_of, weight_of, with_said, send_on, deliver, carry, say}
use Rattle.ch_delivery.specs.Passage.{Mark, Opened, Item, Entry, Said, Passage}
use Rattle.ch_delivery.specs.Passage as items
use Rattle.ch_delivery.specs.Moves as moves
use Rattle.ch_delivery.specs.Moves.{Say, put, noted, marked, written, after}
use Rattle.ch_laws_delivery.specs.Scene.{Name, Use, Scene}
use Rattle.ch_laws_delivery.specs.Sending.{bare, mark_as, has_ended, pair_at, mark_of, epoch_of, index_of, use_at, carried, items_of}
use Rattle.ch_laws_delivery.specs.View.{view, AreApart}
use Rattle.ch_laws_delivery.specs.Sends.{weight_at, acts_of}
use Rattle.ch_laws_delivery.proofs.Pairs.{one_by, one_to, own_pair, read_at}

-- ---- the node

pub says_it : (n : NodeState) (pair : Pair) (said : Message) (conn : ℕ) → growing pair.index ≡ Ok pair.index → pair.mark ≡ nodes.Opened conn → is_here n (target_at pair.to) ≡ false
    → say n pair said ≡ Ok (acts_of n pair conn said, keeping n (with_said pair))
unfolding say carry
says_it n pair said conn grows opened away =
    ap (λ (r : Result ℕ Stop). r >>= (λ index. noting (notes.Said (process_id n pair.by) pair.to pair.epoch index said) (keeping n (with_said pair)) and_then (λ m. carry m (with_said pair) said (weight_of pair.epoch index)))) grows
    ∙ ap (λ b. node.after (acts.Note (notes.Said (process_id n pair.by) pair.to pair.epoch pair.index said) ∷ [])
    (if b then deliver (keeping n (with_said pair)) (process_id n pair.by) pair.to said else send_on (keeping n (with_said pair)) (with_said pair) said (weight_at pair) pair.mark)) away
    ∙ ap (λ (m : nodes.Mark). node.after (acts.Note (notes.Said (process_id n pair.by) pair.to pair.epoch pair.index said) ∷ []) (send_on (keeping n (with_said pair)) (with_said pair) said (weight_at pair) m)) opened

-- ---- the pair

module _ (names : List Name) (apart : AreApart names) (scene : Scene) (c : ℕ) (name : Name) (mark : nodes.Mark) (known : slice_get names c ≡ Some name) (lives : has_ended scene.from.node name.by ≡ false)
    (is : (pair_at scene.from.node name).mark ≡ mark) where
  abbrev N : NodeState
  N = scene.from.node

  abbrev P : Pair
  P = pair_at N name

  abbrev V : Passage
  V = view names scene

  pub epoch_is : V.epoch c ≡ P.epoch
  epoch_is = ap (epoch_of N) known

  pub index_is : V.index c ≡ P.index
  index_is = ap (index_of N) known

  mark_is : V.mark c ≡ bare mark
  mark_is = ap (mark_of N) known ∙ ap (λ b. mark_as b P.mark) lives ∙ ap bare is

  -- what is said
  abbrev pub Items : List Item
  Items = items.Message c (V.epoch c) (V.index c) ∷ []

  -- the passage that tells it, and hasn't written it
  abbrev pub Told : Passage
  Told = noted (Said c (V.epoch c) (V.index c)) (marked c (bare mark) (V.epoch c) (suc (V.index c)) V)

  -- the passage's move, by its mark
  pub moved : after (Say c) V ≡ moves.say (bare mark) c V
  moved = ap (λ (m : Mark). moves.say m c V) mark_is

  by_is : (with_said P).by ≡ name.by
  by_is = one_by names apart N c name known

  pub to_is : (with_said P).to ≡ name.to
  to_is = one_to names apart N c name known

  now_own : pair_at (keeping N (with_said P)) name ≡ with_said P
  now_own = own_pair names apart N c name known (with_said P) by_is to_is

  pub marks : (d : ℕ) → mark_of (keeping N (with_said P)) (slice_get names d) ≡ put c (bare mark) V.mark d
  marks = read_at names apart N c name known (with_said P) by_is to_is mark_of (bare mark)
      (ap (λ (z : Pair). mark_as (has_ended N name.by) z.mark) now_own ∙ ap (λ b. mark_as b P.mark) lives ∙ ap bare is) refl
      (λ other same. ap (λ (z : Pair). mark_as (has_ended N other.by) z.mark) same)

  pub epochs : (d : ℕ) → epoch_of (keeping N (with_said P)) (slice_get names d) ≡ put c (V.epoch c) V.epoch d
  epochs = read_at names apart N c name known (with_said P) by_is to_is epoch_of (V.epoch c)
      (ap (λ (z : Pair). z.epoch) now_own ∙ sym epoch_is) refl (λ other same. ap (λ (z : Pair). z.epoch) same)

  pub indexes : (d : ℕ) → index_of (keeping N (with_said P)) (slice_get names d) ≡ put c (suc (V.index c)) V.index d
  indexes = read_at names apart N c name known (with_said P) by_is to_is index_of (suc (V.index c))
      (ap (λ (z : Pair). z.index) now_own ∙ one_more P.index ∙ ap suc (sym index_is)) refl (λ other same. ap (λ (z : Pair). z.index) same) where
        one_more : (n : ℕ) → n + 1 ≡ suc n
        one_more n = omega arith

  pub entry_is : ◌≡◌ {A = List Entry} (Said c P.epoch P.index ∷ scene.log) (Said c (V.epoch c) (V.index c) ∷ scene.log)
  entry_is = ap (λ (z : ℕ). Said c z P.index ∷ scene.log) (sym epoch_is) ∙ ap (λ (z : ℕ). Said c (V.epoch c) z ∷ scene.log) (sym index_is)

  -- its frame says just that
  pub one_item : (id : ℕ) (said : Message) → use_at scene.given id ≡ Some (record { pair = c; epoch = P.epoch }) → items_of scene.given ((frames.Data id (payload_of P.to said), weight_at P) ∷ []) ≡ Items
  one_item id said used = ap (λ (u : Option Use). carried u (Some (record { epoch = P.epoch; index = P.index })) ++ []) used
      ∙ ap (λ (z : ℕ). items.Message c z P.index ∷ []) (sym epoch_is) ∙ ap (λ (z : ℕ). items.Message c (V.epoch c) z ∷ []) (sym index_is)
