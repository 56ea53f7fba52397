-- What a process does with a pair that has no open connection changes its mark, epoch and index, as the passage's moves say.
use Rattle.std.specs.Prelude.{◌≡◌, ℕ, false, List, [], ◌∷◌, Option, Some, None, Result, Ok, if◌then◌else◌}
use Rattle.std.proofs.Common.{refl, ap, sym, ◌∙◌}
use Rattle.ch_base.specs.declared.memory.Stop.{Stop}
use Rattle.ch_ident.specs.declared.message.Message.{Message}
use Rattle.ch_static.specs.declared.target.Target.{Target}
use Rattle.ch_model.specs.declared.act.Act.TheVariants as acts
use Rattle.ch_model.specs.declared.note.Note.TheVariants as notes
use Rattle.ch_model.specs.NodeState as nodes
use Rattle.ch_model.specs.NodeState.{NodeState, Pair}
use Rattle.ch_model.specs.NodeIds.{process_id, is_here, target_at}
use Rattle.ch_model.specs.NodeActs as node
use Rattle.ch_model.specs.NodeActs.{◌>>=◌, ◌and_then◌, noting, growing}
use Rattle.ch_model.specs.NodePairs.{conn_of, keeping}
use Rattle.ch_model.specs.NodeSends.{weight_of, with_said, send_on, deliver, carry, say}
use Rattle.ch_laws_delivery.specs.Scene.{Name, Scene}
use Rattle.ch_laws_delivery.specs.Sending.{bare, pair_at}
use Rattle.ch_laws_delivery.specs.View.{view, AreApart}
use Rattle.ch_laws_delivery.specs.Sends.{weight_at}
use Rattle.ch_laws_delivery.specs.Bares.{SaysBroken, wasted_in, IsWasted, ReconnectsBare, renewed_in, IsRenewed}
use Rattle.ch_laws_delivery.proofs.Saying as saying
use Rattle.ch_laws_delivery.proofs.Reconnecting as reconnecting
use Rattle.ch_laws_delivery.proofs.Reconnecting.{reconnects_as}
use Rattle.ch_laws_delivery.proofs.Alike.{sending_alike}

-- ---- a message of a broken pair

wastes : (n : NodeState) (pair : Pair) (said : Message) → growing pair.index ≡ Ok pair.index → pair.mark ≡ nodes.Broken → is_here n (target_at pair.to) ≡ false
    → say n pair said ≡ Ok (acts.Note (notes.Said (process_id n pair.by) pair.to pair.epoch pair.index said) ∷ [], keeping n (with_said pair))
unfolding say carry
wastes n pair said grows broke away =
    ap (λ (r : Result ℕ Stop). r >>= (λ index. noting (notes.Said (process_id n pair.by) pair.to pair.epoch index said) (keeping n (with_said pair)) and_then (λ m. carry m (with_said pair) said (weight_of pair.epoch index)))) grows
    ∙ ap (λ b. node.after (acts.Note (notes.Said (process_id n pair.by) pair.to pair.epoch pair.index said) ∷ [])
    (if b then deliver (keeping n (with_said pair)) (process_id n pair.by) pair.to said else send_on (keeping n (with_said pair)) (with_said pair) said (weight_at pair) pair.mark)) away
    ∙ ap (λ (m : nodes.Mark). node.after (acts.Note (notes.Said (process_id n pair.by) pair.to pair.epoch pair.index said) ∷ []) (send_on (keeping n (with_said pair)) (with_said pair) said (weight_at pair) m)) broke

pub is_wasted : (names : List Name) → AreApart names → (scene : Scene) (c : ℕ) (name : Name) (said : Message) → SaysBroken names scene c name → IsWasted names scene c name said
is_wasted names apart scene c name said h = let n = scene.from.node in let pair = pair_at n name in record {
  node_says = wastes n pair said h.grows h.broke (ap (λ (z : Target). is_here n (target_at z)) (saying.to_is names apart scene c name nodes.Broken h.known h.lives h.broke) ∙ h.away);
  seen = sending_alike (view names (wasted_in scene c pair)) (saying.Told names apart scene c name nodes.Broken h.known h.lives h.broke) refl (saying.marks names apart scene c name nodes.Broken h.known h.lives h.broke)
      (saying.epochs names apart scene c name nodes.Broken h.known h.lives h.broke) (saying.indexes names apart scene c name nodes.Broken h.known h.lives h.broke) refl refl refl refl refl refl (λ d e. refl) (λ d. refl)
      (saying.entry_is names apart scene c name nodes.Broken h.known h.lives h.broke)
      ∙ sym (saying.moved names apart scene c name nodes.Broken h.known h.lives h.broke);
}

-- ---- a reconnect

pub is_renewed : (names : List Name) → AreApart names → (scene : Scene) (c : ℕ) (name : Name) → ReconnectsBare names scene c name → IsRenewed names scene c name
is_renewed names apart scene c name h = by_mark (pair_at scene.from.node name).mark refl h.bare where
  by_mark : (m : nodes.Mark) → (pair_at scene.from.node name).mark ≡ m → conn_of m ≡ None → IsRenewed names scene c name
  by_mark (nodes.Opened conn) is bare = absurd (clash bare) where
    clash : ◌≡◌ {A = Option ℕ} (Some conn) None → ⊥
    clash e = cc
  by_mark nodes.Unopened is bare = record {
    node_reconnects = reconnects_as scene.from.node (pair_at scene.from.node name) nodes.Unopened h.grows is;
    seen = sending_alike (view names (renewed_in scene c (pair_at scene.from.node name))) (reconnecting.Told names apart scene c name nodes.Unopened h.known h.lives is) refl
        (reconnecting.marks names apart scene c name nodes.Unopened h.known h.lives is) (reconnecting.epochs names apart scene c name nodes.Unopened h.known h.lives is)
        (reconnecting.indexes names apart scene c name nodes.Unopened h.known h.lives is) refl refl refl refl refl refl (λ d e. refl) (λ d. refl) (reconnecting.entry_is names apart scene c name nodes.Unopened h.known h.lives is)
        ∙ sym (reconnecting.moved names apart scene c name nodes.Unopened h.known h.lives is);
  }
  by_mark nodes.Broken is bare = record {
    node_reconnects = reconnects_as scene.from.node (pair_at scene.from.node name) nodes.Broken h.grows is;
    seen = sending_alike (view names (renewed_in scene c (pair_at scene.from.node name))) (reconnecting.Told names apart scene c name nodes.Broken h.known h.lives is) refl
        (reconnecting.marks names apart scene c name nodes.Broken h.known h.lives is) (reconnecting.epochs names apart scene c name nodes.Broken h.known h.lives is)
        (reconnecting.indexes names apart scene c name nodes.Broken h.known h.lives is) refl refl refl refl refl refl (λ d e. refl) (λ d. refl) (reconnecting.entry_is names apart scene c name nodes.Broken h.known h.lives is)
        ∙ sym (reconnecting.moved names apart scene c name nodes.Broken h.known h.lives is);
  }
