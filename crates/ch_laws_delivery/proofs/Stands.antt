-- What becomes of the receiving node's processes, ports and names changes who stands for a target, and a connection whose
-- target is there no more leads nowhere, as the passage's move says.
use Rattle.std.specs.Prelude.{◌≡◌, ℕ, Bool, true, false, not, ◌&&◌, ◌==◌, List, [], ◌∷◌, find, slice_get, Option, Some, None, if◌then◌else◌}
use Rattle.std.specs.Prelude as std
use Rattle.std.specs.Option.{option_map_or}
use Rattle.std.proofs.Common.{refl, ap, sym, ◌∙◌}
use Rattle.ch_base.specs.AddressValues.{AddressValue}
use Rattle.ch_ident.specs.declared.identifier.ProcessId.{ProcessId}
use Rattle.ch_light.specs.declared.Connection.{Connection}
use Rattle.ch_mail.specs.declared.life.Life.{Life}
use Rattle.ch_mail.specs.Lives.{is_over}
use Rattle.ch_mail.specs.Mail.{life_of}
use Rattle.ch_static.specs.declared.target.Target.{Target}
use Rattle.ch_static.specs.declared.target.Target.TheVariants as targets
use Rattle.ch_watch.specs.Same.{same_node}
use Rattle.ch_model.specs.NodeState as nodes
use Rattle.ch_model.specs.NodeState.{NodeState, Arrived}
use Rattle.ch_model.specs.NodeIds.{is_own, life_here, is_living, is_port_here}
use Rattle.ch_delivery.specs.Passage.{Void, Bound, Unknown, is_some, is_there}
use Rattle.ch_delivery.specs.Moves.{Stand, kept_bound, after}
use Rattle.ch_laws_delivery.specs.Scene.{Name, Scene, link_of}
use Rattle.ch_laws_delivery.specs.Sending.{is_named, named, is_over_at}
use Rattle.ch_laws_delivery.specs.Receiving.{if_living, stands_for, standing_for, binding_of, of_arrived, of_conn, of_created, place_for, at_place, bound_of}
use Rattle.ch_laws_delivery.specs.View.{view}
use Rattle.ch_laws_delivery.specs.Standings.{WasThere, IsTo, LeadsTo, Faithful, Ages, standings, stood_in, IsStood}
use Rattle.ch_laws_delivery.proofs.Alike.{sending_alike}

module _ (n m : NodeState) (h : Ages n m) where
  own_still : (p : ProcessId) → is_own m p ≡ is_own n p
  unfolding is_own
  own_still p = ap (λ (a : AddressValue). same_node p.node a && (p.unique == m.unique)) h.own ∙ ap (λ (u : ℕ). same_node p.node n.own && (p.unique == u)) h.unique

  -- a process of the node that was made and doesn't live is over
  is_ended : (p : ProcessId) → is_own n p ≡ true → std.is_some (life_of n.mail p.counter) ≡ true → is_living n p ≡ false → is_over_at n p.counter ≡ true
  unfolding is_living life_here
  is_ended p own made gone = by_life (life_of n.mail p.counter) made (sym (ap (λ b. option_map_or (λ life. not (is_over life)) (if b then life_of n.mail p.counter else None) false) own) ∙ gone) where
    turned : (b : Bool) → not b ≡ false → b ≡ true
    turned true q = refl
    turned false q = absurd (clash q) where
      clash : true ≡ false → ⊥
      clash e = cc

    by_life : (o : Option Life) → std.is_some o ≡ true → option_map_or (λ life. not (is_over life)) o false ≡ false → option_map_or is_over o false ≡ true
    by_life (Some life) q r = turned (is_over life) r
    by_life None q r = absurd (clash q) where
      clash : false ≡ true → ⊥
      clash e = cc

  -- one that is over doesn't live
  not_living : (p : ProcessId) → is_over_at m p.counter ≡ true → is_living m p ≡ false
  unfolding is_living life_here
  not_living p over = by_own (is_own m p) (life_of m.mail p.counter) over where
    by_own : (b : Bool) (o : Option Life) → option_map_or is_over o false ≡ true → option_map_or (λ life. not (is_over life)) (if b then o else None) false ≡ false
    by_own false o q = refl
    by_own true (Some ending) q = ap not q
    by_own true None q = refl

  dead_still : (p : ProcessId) → is_own n p ≡ true → std.is_some (life_of n.mail p.counter) ≡ true → is_living n p ≡ false → is_living m p ≡ false
  dead_still p own made gone = not_living p (h.over p.counter (is_ended p own made gone))

  -- somebody who stood for a target that was there, and doesn't, never does again
  none_back : (to : Target) → WasThere n to → is_some (stands_for n to) ≡ false → is_some (stands_for m to) ≡ false
  none_back (targets.Process p) there gone = ap (λ b. is_some (if b then Some p.counter else None)) (dead_still p there.0 there.1 (by_living (is_living n p) gone)) where
    by_living : (b : Bool) → is_some (if b then Some p.counter else None) ≡ false → b ≡ false
    by_living false q = refl
    by_living true q = absurd (clash q) where
      clash : true ≡ false → ⊥
      clash e = cc
  none_back (targets.Port q) there gone = ap (λ b. is_some (if is_port_here m q then (if b then Some q.process.counter else None) else None))
      (dead_still q.process there.0 there.1.0 (by_living (is_living n q.process) (sym (ap (λ b. is_some (if b then if_living n q.process else None)) there.1.1) ∙ gone))) ∙ by_here (is_port_here m q) where
        by_living : (b : Bool) → is_some (if b then Some q.process.counter else None) ≡ false → b ≡ false
        by_living false r = refl
        by_living true r = absurd (clash r) where
          clash : true ≡ false → ⊥
          clash e = cc

        by_here : (b : Bool) → is_some (if b then (if false then Some q.process.counter else None) else None) ≡ false
        by_here true = refl
        by_here false = refl
  none_back (targets.Named at name) there gone = absurd there

  unknown_stays : (b : Bool) → Unknown ≡ kept_bound b Unknown
  unknown_stays true = refl
  unknown_stays false = refl

  void_stays : (b : Bool) → Void ≡ kept_bound b Void
  void_stays true = refl
  void_stays false = refl

  to_target : (o : Option Name) (from : ProcessId) (to : Target) → IsTo n o to → binding_of m (nodes.ToTarget from to) ≡ kept_bound (is_there (named o) (standing_for m o)) (binding_of n (nodes.ToTarget from to))
  to_target None from to at = absurd at
  to_target (Some name) from to at = by_both (is_some (stands_for m to)) (is_some (stands_for n to)) refl (λ q. none_back to at.1 q)
      ∙ ap (λ (b : Bool). kept_bound b (if is_some (stands_for n to) then Bound else Void)) (unnamed to at.1) ∙ ap (λ (z : Target). kept_bound (is_there (is_named z) (stands_for m z)) (binding_of n (nodes.ToTarget from to))) (sym at.0) where
        unnamed : (z : Target) → WasThere n z → is_some (stands_for m z) ≡ is_there (is_named z) (stands_for m z)
        unnamed (targets.Process p) there = refl
        unnamed (targets.Port q) there = refl
        unnamed (targets.Named at name) there = absurd there

        by_both : (now before : Bool) → is_some (stands_for m to) ≡ now → (before ≡ false → is_some (stands_for m to) ≡ false) → (if now then Bound else Void) ≡ kept_bound now (if before then Bound else Void)
        by_both true true is f = refl
        by_both true false is f = absurd (clash (sym (f refl) ∙ is)) where
          clash : false ≡ true → ⊥
          clash e = cc
        by_both false true is f = refl
        by_both false false is f = refl

  -- what a connection is for, then
  binding_then : (o : Option Name) (bound : nodes.Bound) → LeadsTo n o bound → binding_of m bound ≡ kept_bound (is_there (named o) (standing_for m o)) (binding_of n bound)
  binding_then o nodes.Unread at = unknown_stays (is_there (named o) (standing_for m o))
  binding_then o nodes.Void at = void_stays (is_there (named o) (standing_for m o))
  binding_then o nodes.FromNode at = void_stays (is_there (named o) (standing_for m o))
  binding_then o (nodes.ToNames from) at = sym (ap (λ b. kept_bound (is_there b (standing_for m o)) Bound) at)
  binding_then o (nodes.ToTarget from to) at = to_target o from to at

module _ (names : List Name) (scene : Scene) (now : NodeState) (faithful : Faithful names scene) (h : Ages scene.to.node now) where
  abbrev N : NodeState
  N = scene.to.node

  abbrev Table : List Connection
  Table = (link_of scene.to).created

  abbrev There : ℕ → Bool
  There c = is_there (named (slice_get names c)) (standing_for now (slice_get names c))

  bounds : (c e : ℕ) → bound_of now Table scene.created c e ≡ kept_bound (There c) (bound_of N Table scene.created c e)
  bounds c e = by_place (place_for c e scene.created) refl where
    by_arrived : (place : ℕ) (known : Connection) (o : Option Arrived) → place_for c e scene.created ≡ Some place → slice_get Table place ≡ Some known → known.is_open ≡ true → find (λ arrived. arrived.conn == known.number) N.arrived ≡ o
        → of_arrived now o ≡ kept_bound (There c) (of_arrived N o)
    by_arrived place known None used there opens is = unknown_stays N now h (There c)
    by_arrived place known (Some arrived) used there opens is = binding_then N now h (slice_get names c) arrived.bound (faithful c e place known arrived used there opens is)

    by_open : (place : ℕ) (known : Connection) (b : Bool) → place_for c e scene.created ≡ Some place → slice_get Table place ≡ Some known → known.is_open ≡ b
        → (if b then of_conn now known.number else Unknown) ≡ kept_bound (There c) (if b then of_conn N known.number else Unknown)
    by_open place known false used there opens = unknown_stays N now h (There c)
    by_open place known true used there opens = ap (λ (xs : List Arrived). of_arrived now (find (λ arrived. arrived.conn == known.number) xs)) h.arrived
        ∙ by_arrived place known (find (λ arrived. arrived.conn == known.number) N.arrived) used there opens refl

    by_known : (place : ℕ) (o : Option Connection) → place_for c e scene.created ≡ Some place → slice_get Table place ≡ o → of_created now o ≡ kept_bound (There c) (of_created N o)
    by_known place None used there = unknown_stays N now h (There c)
    by_known place (Some known) used there = by_open place known known.is_open used there refl

    by_place : (o : Option ℕ) → place_for c e scene.created ≡ o → at_place now Table o ≡ kept_bound (There c) (at_place N Table o)
    by_place None used = unknown_stays N now h (There c)
    by_place (Some place) used = by_known place (slice_get Table place) used refl

  pub is_stood : IsStood names scene now
  is_stood = sending_alike (view names (stood_in names scene now)) (after (Stand (standings names now)) (view names scene)) refl (λ d. refl) (λ d. refl) (λ d. refl) refl refl refl refl refl refl bounds (λ d. refl) refl
