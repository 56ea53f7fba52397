-- What is known of connections, by what the ids are for: one place changes, and every other stays.
use Rattle.std.specs.Prelude.{◌≡◌, ℕ, suc, Bool, true, false, cond, ◌&&◌, ◌==◌, nat_eq, List, [], ◌∷◌, slice_get, Option, Some, None, if◌then◌else◌}
use Rattle.std.specs.Option.{option_map}
use Rattle.std.proofs.Common.{refl, ap, sym, ◌∙◌, arith}
use Rattle.std.proofs.lemmas.Bool.{eqb-true, and_parts}
use Rattle.std.proofs.lemmas.Bool.Decides.{nat_tests}
use Rattle.ch_light.specs.declared.Connection.{Connection}
use Rattle.ch_static.specs.declared.target.Target.{Target}
use Rattle.ch_static.specs.declared.target.Target.TheVariants as targets
use Rattle.ch_model.specs.NodeState as nodes
use Rattle.ch_model.specs.NodeState.{NodeState, Arrived}
use Rattle.ch_model.specs.NodeIds.{is_own, life_here, is_living, is_port_here}
use Rattle.ch_model.specs.NodeAsks.{standing}
use Rattle.ch_delivery.specs.Passage.{Binding, Void, Bound, Unknown, is_some}
use Rattle.ch_laws_delivery.specs.Scene.{Name, Use}
use Rattle.ch_laws_delivery.specs.Receiving.{stands_for, standing_for, binding_of, of_arrived, of_conn, of_created, is_for, place_for, at_place, bound_of}

pub some_is : {X : Type 0} (x y : X) → Some x ≡ Some y → x ≡ y
some_is {X = X} x y h = ap {A = Option X} {B = X} (λ o. elim o [ Some z ↦ z | None ↦ x ]) h

pub nothing_is : {X A : Type 0} (x : X) → ◌≡◌ {A = Option X} None (Some x) → A
nothing_is {X = X} x h = absurd (clash h) where
  clash : ◌≡◌ {A = Option X} None (Some x) → ⊥
  clash h = cc

wrong : {A : Type 0} → false ≡ true → A
wrong h = absurd (clash h) where
  clash : false ≡ true → ⊥
  clash h = cc

-- ---- places of ids

use_is : (c e : ℕ) (u : Option Use) → is_for c e u ≡ true → u ≡ Some (record { pair = c; epoch = e })
use_is c e None h = wrong h
use_is c e (Some u) h = let parts = and_parts (u.pair == c) (u.epoch == e) h in
    ap (λ (z : ℕ). Some (record { pair = z; epoch = u.epoch })) (eqb-true u.pair c parts.0) ∙ ap (λ (z : ℕ). Some (record { pair = c; epoch = z })) (eqb-true u.epoch e parts.1)

-- the id at the place is for the pair and epoch
pub place_is : (c e : ℕ) (uses : List (Option Use)) (i : ℕ) → place_for c e uses ≡ Some i → slice_get uses i ≡ Some (Some (record { pair = c; epoch = e }))
place_is c e [] i h = nothing_is i h
place_is c e (u ∷ rest) i h = by_test (is_for c e u) refl h (λ j. place_is c e rest j) where
  later : (o : Option ℕ) → option_map suc o ≡ Some i → ((j : ℕ) → o ≡ Some j → slice_get rest j ≡ Some (Some (record { pair = c; epoch = e }))) → slice_get (u ∷ rest) i ≡ Some (Some (record { pair = c; epoch = e }))
  later None q f = nothing_is i q
  later (Some j) q f = ap (slice_get (u ∷ rest)) (sym (some_is (suc j) i q)) ∙ f j refl

  by_test : (x : Bool) → is_for c e u ≡ x → (if x then Some 0 else option_map suc (place_for c e rest)) ≡ Some i → ((j : ℕ) → place_for c e rest ≡ Some j → slice_get rest j ≡ Some (Some (record { pair = c; epoch = e })))
      → slice_get (u ∷ rest) i ≡ Some (Some (record { pair = c; epoch = e }))
  by_test true is q f = ap (slice_get (u ∷ rest)) (sym (some_is 0 i q)) ∙ ap (λ (z : Option Use). Some z) (use_is c e u is)
  by_test false is q f = later (place_for c e rest) q f

-- ---- one place

-- The place of a pair and epoch is known as B then, and every other place as it was.
module _ (n m : NodeState) (t u : List Connection) (uses : List (Option Use)) (c e place : ℕ) (used : place_for c e uses ≡ Some place) (b : Binding) (mine : of_created m (slice_get u place) ≡ b)
    (others : (i : ℕ) → (i ≡ place → ⊥) → of_created m (slice_get u i) ≡ of_created n (slice_get t i)) where
  elsewhere : (d f i : ℕ) → (nat_eq d c && nat_eq f e) ≡ false → place_for d f uses ≡ Some i → i ≡ place → ⊥
  elsewhere d f i off is at = both d f c e (ap (λ (z : Use). z.pair) one) (ap (λ (z : Use). z.epoch) one) off where
    both : (d f c e : ℕ) → d ≡ c → f ≡ e → (nat_eq d c && nat_eq f e) ≡ false → ⊥
    both d f c e p q h = grind (arith, nat_tests)

    same_use : (x y : Use) → Some (Some x) ≡ Some (Some y) → x ≡ y
    same_use x y h = some_is x y (some_is (Some x) (Some y) h)

    one : ◌≡◌ {A = Use} (record { pair = d; epoch = f }) (record { pair = c; epoch = e })
    one = same_use (record { pair = d; epoch = f }) (record { pair = c; epoch = e }) (sym (place_is d f uses i is) ∙ ap (slice_get uses) at ∙ place_is c e uses place used)

  other_now : (d f : ℕ) → (nat_eq d c && nat_eq f e) ≡ false → bound_of m u uses d f ≡ bound_of n t uses d f
  other_now d f off = by_place (place_for d f uses) refl where
    by_place : (x : Option ℕ) → place_for d f uses ≡ x → at_place m u x ≡ at_place n t x
    by_place None is = refl
    by_place (Some i) is = others i (λ at. elsewhere d f i off is at)

  pub bound_now : (d f : ℕ) → bound_of m u uses d f ≡ cond (nat_eq d c && nat_eq f e) b (bound_of n t uses d f)
  bound_now d f = by_test (nat_eq d c && nat_eq f e) refl (one d f c e) (two d f c e) where
    one : (d f c e : ℕ) → (nat_eq d c && nat_eq f e) ≡ true → d ≡ c
    one d f c e h = grind (arith, nat_tests)

    two : (d f c e : ℕ) → (nat_eq d c && nat_eq f e) ≡ true → f ≡ e
    two d f c e h = grind (arith, nat_tests)

    by_test : (x : Bool) → (nat_eq d c && nat_eq f e) ≡ x → (x ≡ true → d ≡ c) → (x ≡ true → f ≡ e) → bound_of m u uses d f ≡ cond x b (bound_of n t uses d f)
    by_test true is p q = ap (λ (z : ℕ). bound_of m u uses z f) (p refl) ∙ ap (λ (z : ℕ). bound_of m u uses c z) (q refl) ∙ ap (at_place m u) used ∙ mine
    by_test false is p q = other_now d f is

-- ---- other connections have arrived

module _ (n : NodeState) (arrived : List Arrived) where
  abbrev pub With : NodeState
  With = record n { arrived = arrived }

  stands_with : (to : Target) → stands_for With to ≡ stands_for n to
  unfolding is_living life_here is_own is_port_here standing
  stands_with (targets.Process p) = refl
  stands_with (targets.Port q) = refl
  stands_with (targets.Named at name) = refl

  -- who stands for a target is as before
  pub standing_with : (o : Option Name) → standing_for With o ≡ standing_for n o
  standing_with None = refl
  standing_with (Some name) = stands_with name.to

  -- and so is what a connection is for
  pub binding_with : (x : nodes.Bound) → binding_of With x ≡ binding_of n x
  binding_with nodes.Unread = refl
  binding_with nodes.Void = refl
  binding_with nodes.FromNode = refl
  binding_with (nodes.ToNames from) = refl
  binding_with (nodes.ToTarget from to) = ap (λ (o : Option ℕ). if is_some o then Bound else Void) (stands_with to)

  pub arrived_with : (o : Option Arrived) → of_arrived With o ≡ of_arrived n o
  arrived_with None = refl
  arrived_with (Some known) = binding_with known.bound

-- ---- a connection is told by its number

module _ (conn : ℕ) (t u : List Connection) (place : ℕ) (alone : (i : ℕ) (known : Connection) → slice_get t i ≡ Some known → known.is_open ≡ true → known.number ≡ conn → i ≡ place)
    (table : (i : ℕ) → (i ≡ place → ⊥) → slice_get u i ≡ slice_get t i) (n m : NodeState) (others : (number : ℕ) → (number ≡ conn → ⊥) → of_conn m number ≡ of_conn n number) where
  -- where no other open connection has the number of one, what is known of every other place is as before
  pub others_stay : (i : ℕ) → (i ≡ place → ⊥) → of_created m (slice_get u i) ≡ of_created n (slice_get t i)
  others_stay i off = ap (of_created m) (table i off) ∙ by_known (slice_get t i) refl where
    by_open : (known : Connection) → slice_get t i ≡ Some known → (x : Bool) → known.is_open ≡ x → (if x then of_conn m known.number else Unknown) ≡ (if x then of_conn n known.number else Unknown)
    by_open known there false opens = refl
    by_open known there true opens = others known.number (λ q. off (alone i known there opens q))

    by_known : (x : Option Connection) → slice_get t i ≡ x → of_created m x ≡ of_created n x
    by_known None there = refl
    by_known (Some known) there = by_open known there known.is_open refl
