-- What a node does that reconnects a pair, and what is seen of the pair then.
use Rattle.std.specs.Prelude.{◌≡◌, ℕ, suc, ◌+◌, false, List, [], ◌∷◌, ◌++◌, map, slice_get, option_to_list, Option, Some, Result, Ok}
use Rattle.std.proofs.Common.{refl, ap, sym, ◌∙◌, arith}
use Rattle.ch_base.specs.declared.memory.Stop.{Stop}
use Rattle.ch_wire.specs.declared.frame.Frame.TheVariants as frames
use Rattle.ch_model.specs.declared.act.Act.TheVariants as acts
use Rattle.ch_model.specs.declared.note.Note.TheVariants as notes
use Rattle.ch_model.specs.declared.step.Weight.TheVariants.{Free}
use Rattle.ch_model.specs.NodeState as nodes
use Rattle.ch_model.specs.NodeState.{NodeState, Pair}
use Rattle.ch_model.specs.NodeActs.{◌>>=◌, doing, growing}
use Rattle.ch_model.specs.NodeIds.{process_id}
use Rattle.ch_model.specs.NodePairs.{next_epoch, conn_of, keeping}
use Rattle.ch_model.specs.NodeSends.{reconnect}
use Rattle.ch_delivery.specs.Passage.{Mark, Unopened, Item, Entry, Closed, Again, Passage}
use Rattle.ch_delivery.specs.Moves as moves
use Rattle.ch_delivery.specs.Moves.{Reconnect, put, noted, marked, written, after}
use Rattle.ch_laws_delivery.specs.Scene.{Name, Use, Scene}
use Rattle.ch_laws_delivery.specs.Sending.{bare, mark_as, has_ended, pair_at, mark_of, epoch_of, index_of, use_at, closing, items_of}
use Rattle.ch_laws_delivery.specs.View.{view, AreApart}
use Rattle.ch_laws_delivery.specs.Reconnects.{next_of}
use Rattle.ch_laws_delivery.proofs.Pairs.{one_by, one_to, own_pair, read_at}

-- ---- the node

pub reconnects_it : (n : NodeState) (pair : Pair) → growing pair.epoch ≡ Ok pair.epoch
    → reconnect n pair ≡ Ok (acts.Note (notes.Again (process_id n pair.by) pair.to (pair.epoch + 1)) ∷ map (λ conn. acts.Close conn) (option_to_list (conn_of pair.mark)), keeping n (next_of pair))
unfolding reconnect next_epoch
reconnects_it n pair grows = ap (λ (r : Result ℕ Stop). (r >>= (λ epoch. Ok (record pair { epoch = epoch + 1; index = 0; mark = nodes.Unopened })))
    >>= (λ next. doing (acts.Note (notes.Again (process_id n pair.by) pair.to next.epoch) ∷ map (λ conn. acts.Close conn) (option_to_list (conn_of pair.mark))) (keeping n next))) grows

-- by its mark
pub reconnects_as : (n : NodeState) (pair : Pair) (mark : nodes.Mark) → growing pair.epoch ≡ Ok pair.epoch → pair.mark ≡ mark
    → reconnect n pair ≡ Ok (acts.Note (notes.Again (process_id n pair.by) pair.to (pair.epoch + 1)) ∷ map (λ conn. acts.Close conn) (option_to_list (conn_of mark)), keeping n (next_of pair))
reconnects_as n pair mark grows is = reconnects_it n pair grows
    ∙ ap (λ (m : nodes.Mark). Ok (acts.Note (notes.Again (process_id n pair.by) pair.to (pair.epoch + 1)) ∷ map (λ conn. acts.Close conn) (option_to_list (conn_of m)), keeping n (next_of pair))) is

-- ---- the pair

module _ (names : List Name) (apart : AreApart names) (scene : Scene) (c : ℕ) (name : Name) (mark : nodes.Mark) (known : slice_get names c ≡ Some name) (lives : has_ended scene.from.node name.by ≡ false)
    (is : (pair_at scene.from.node name).mark ≡ mark) where
  abbrev N : NodeState
  N = scene.from.node

  abbrev P : Pair
  P = pair_at N name

  abbrev V : Passage
  V = view names scene

  pub epoch_is : V.epoch c ≡ P.epoch
  epoch_is = ap (epoch_of N) known

  one_more : (n : ℕ) → n + 1 ≡ suc n
  one_more n = omega arith

  next_is : P.epoch + 1 ≡ suc (V.epoch c)
  next_is = one_more P.epoch ∙ ap suc (sym epoch_is)

  -- what is said
  abbrev pub Items : List Item
  Items = Closed c (V.epoch c) ∷ []

  -- the passage that tells it, and hasn't written it
  abbrev pub Told : Passage
  Told = noted (Again c (suc (V.epoch c))) (marked c Unopened (suc (V.epoch c)) 0 V)

  -- the passage's move, by its mark
  pub moved : after (Reconnect c) V ≡ moves.reconnect (bare mark) c V
  moved = ap (λ (m : Mark). moves.reconnect m c V) (ap (mark_of N) known ∙ ap (λ b. mark_as b P.mark) lives ∙ ap bare is)

  by_is : (next_of P).by ≡ name.by
  by_is = one_by names apart N c name known

  to_is : (next_of P).to ≡ name.to
  to_is = one_to names apart N c name known

  now_own : pair_at (keeping N (next_of P)) name ≡ next_of P
  now_own = own_pair names apart N c name known (next_of P) by_is to_is

  pub marks : (d : ℕ) → mark_of (keeping N (next_of P)) (slice_get names d) ≡ put c Unopened V.mark d
  marks = read_at names apart N c name known (next_of P) by_is to_is mark_of Unopened
      (ap (λ (z : Pair). mark_as (has_ended N name.by) z.mark) now_own ∙ ap (λ b. mark_as b nodes.Unopened) lives) refl
      (λ other same. ap (λ (z : Pair). mark_as (has_ended N other.by) z.mark) same)

  pub epochs : (d : ℕ) → epoch_of (keeping N (next_of P)) (slice_get names d) ≡ put c (suc (V.epoch c)) V.epoch d
  epochs = read_at names apart N c name known (next_of P) by_is to_is epoch_of (suc (V.epoch c))
      (ap (λ (z : Pair). z.epoch) now_own ∙ next_is) refl (λ other same. ap (λ (z : Pair). z.epoch) same)

  pub indexes : (d : ℕ) → index_of (keeping N (next_of P)) (slice_get names d) ≡ put c 0 V.index d
  indexes = read_at names apart N c name known (next_of P) by_is to_is index_of 0 (ap (λ (z : Pair). z.index) now_own) refl (λ other same. ap (λ (z : Pair). z.index) same)

  pub entry_is : ◌≡◌ {A = List Entry} (Again c (P.epoch + 1) ∷ scene.log) (Again c (suc (V.epoch c)) ∷ scene.log)
  entry_is = ap (λ (z : ℕ). Again c z ∷ scene.log) next_is

  -- its frame says just that
  pub one_item : (id : ℕ) → use_at scene.given id ≡ Some (record { pair = c; epoch = P.epoch }) → items_of scene.given ((frames.Closed id, Free) ∷ []) ≡ Items
  one_item id used = ap (λ (u : Option Use). closing u ++ []) used ∙ ap (λ (z : ℕ). Closed c z ∷ []) (sym epoch_is)
