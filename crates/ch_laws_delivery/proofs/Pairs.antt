-- The pair of a name, and every other, after one pair of the node was changed.
use Rattle.std.specs.Prelude.{◌≡◌, ℕ, nat_eq, Bool, true, false, cond, List, slice_get, Option, Some, None}
use Rattle.std.proofs.Common.{refl, ap, sym, ◌∙◌, arith}
use Rattle.std.proofs.lemmas.Bool.Decides.{nat_tests}
use Rattle.ch_static.specs.declared.target.Target.{Target}
use Rattle.ch_model.specs.NodeState.{NodeState, Pair}
use Rattle.ch_model.specs.NodePairs.{is_pair, pair_of, with_pair, keeping}
use Rattle.ch_delivery.specs.Moves.{put}
use Rattle.ch_laws_delivery.specs.Scene.{Name}
use Rattle.ch_laws_delivery.specs.Sending.{pair_at}
use Rattle.ch_laws_delivery.specs.View.{AreApart}
use Rattle.ch_laws_delivery.proofs.Keys.{pair_key, pair_named, pair_kept, other_kept}

same_place : (i j : ℕ) → nat_eq j i ≡ true → j ≡ i
same_place i j h = grind (arith, nat_tests)

module _ (names : List Name) (apart : AreApart names) (n : NodeState) (c : ℕ) (name : Name) (known : slice_get names c ≡ Some name) where
  abbrev pub One : Pair
  One = pair_at n name

  pub one_by : One.by ≡ name.by
  one_by = (pair_named n.pairs name.by name.to).0

  pub one_to : One.to ≡ name.to
  one_to = (pair_named n.pairs name.by name.to).1

  module _ (q : Pair) (by : q.by ≡ name.by) (to : q.to ≡ name.to) where
    -- the pair that is kept is the one of its number
    pub own_pair : pair_at (keeping n q) name ≡ q
    own_pair = ap (λ (z : ℕ). pair_of (with_pair q n.pairs) z name.to) (sym by) ∙ ap (λ (z : Target). pair_of (with_pair q n.pairs) q.by z) (sym to) ∙ pair_kept q n.pairs

    -- every other number has its pair still
    other_pair : (d : ℕ) (other : Name) → slice_get names d ≡ Some other → nat_eq d c ≡ false → pair_at (keeping n q) other ≡ pair_at n other
    other_pair d other is off = other_kept q other.by other.to (by_test (is_pair other.by other.to q) refl) n.pairs where
      clash : true ≡ false → ⊥
      clash h = cc

      differ : (i j : ℕ) → i ≡ j → nat_eq j i ≡ false → ⊥
      differ i j e h = grind (arith, nat_tests)

      by_test : (x : Bool) → is_pair other.by other.to q ≡ x → x ≡ false
      by_test false h = refl
      by_test true h = absurd (differ c d (apart c d name other known is (sym by ∙ (pair_key other.by other.to q h).0) (sym to ∙ (pair_key other.by other.to q h).1)) off)

    -- a reading of a pair by its name, which is x for this one
    module _ {X : Type 0} (f : NodeState → Option Name → X) (x : X) (mine : f (keeping n q) (Some name) ≡ x) (none : f (keeping n q) None ≡ f n None)
        (others : (other : Name) → pair_at (keeping n q) other ≡ pair_at n other → f (keeping n q) (Some other) ≡ f n (Some other)) where
      pub read_at : (d : ℕ) → f (keeping n q) (slice_get names d) ≡ put c x (λ e. f n (slice_get names e)) d
      read_at d = by_place (nat_eq d c) refl where
        by_name : (o : Option Name) → slice_get names d ≡ o → nat_eq d c ≡ false → f (keeping n q) o ≡ f n o
        by_name None is off = none
        by_name (Some other) is off = others other (other_pair d other is off)

        by_place : (b : Bool) → nat_eq d c ≡ b → f (keeping n q) (slice_get names d) ≡ cond b x (f n (slice_get names d))
        by_place true h = ap (f (keeping n q)) (ap (slice_get names) (same_place c d h) ∙ known) ∙ mine
        by_place false h = by_name (slice_get names d) refl h
