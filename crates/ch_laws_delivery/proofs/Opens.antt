-- An opening message that is read binds its connection, as the passage's move says.
use Rattle.std.specs.Prelude.{◌≡◌, ℕ, Bool, true, false, cond, ◌&&◌, ◌==◌, nat_eq, List, [], ◌∷◌, map, find, slice_get, Option, Some, None, Ok, if◌then◌else◌}
use Rattle.std.proofs.Common.{refl, ap, sym, ◌∙◌}
use Rattle.std.proofs.lemmas.Bool.{eqb-true}
use Rattle.ch_base.specs.declared.event.Event.TheVariants as events
use Rattle.ch_ident.specs.declared.identifier.Identifier.TheVariants as ends
use Rattle.ch_ident.specs.declared.identifier.ProcessId.{ProcessId}
use Rattle.ch_ident.specs.Reading.{message_of}
use Rattle.ch_light.specs.declared.Connection.{Connection}
use Rattle.ch_static.specs.declared.target.Target.{Target}
use Rattle.ch_static.specs.declared.target.Target.TheVariants as targets
use Rattle.ch_watch.specs.Same.{node_of}
use Rattle.ch_model.specs.NodeState as nodes
use Rattle.ch_model.specs.NodeState.{NodeState, Arrived}
use Rattle.ch_model.specs.NodeActs.{silent}
use Rattle.ch_model.specs.NodeIds.{is_here, is_living, is_port_here, opened_to, target_at}
use Rattle.ch_model.specs.NodeArrivals.{bound_between, bound_by, rebound, bind, received_as, received_on, received}
use Rattle.ch_model.specs.Node.{node_event}
use Rattle.ch_delivery.specs.Passage.{Item, Binding, Void, Bound, Passage, is_some, is_there}
use Rattle.ch_delivery.specs.Moves as moves
use Rattle.ch_delivery.specs.Moves.{Read, put, bound_to, after}
use Rattle.ch_laws_delivery.specs.Scene.{Name, Scene, link_of}
use Rattle.ch_laws_delivery.specs.Sending.{named, is_named}
use Rattle.ch_laws_delivery.specs.Receiving.{if_living, stands_for, standing_for, binding_of, of_arrived, of_conn, of_created, bound_of}
use Rattle.ch_laws_delivery.specs.View.{view}
use Rattle.ch_laws_delivery.specs.Openings.{Opening, OpensFirst, bound_for, node_after, opened_in, IsOpened}
use Rattle.ch_laws_delivery.proofs.Places.{some_is, nothing_is, bound_now, standing_with, binding_with, arrived_with, others_stay}
use Rattle.ch_laws_delivery.proofs.Alike.{sending_alike}

-- ---- connections that are bound anew

conn_is : (conn : ℕ) (xs : List Arrived) (x : Arrived) → find (λ arrived. arrived.conn == conn) xs ≡ Some x → x.conn ≡ conn
conn_is conn [] x h = nothing_is x h
conn_is conn (y ∷ ys) x h = by_test (y.conn == conn) refl h (λ q. conn_is conn ys x q) where
  by_test : (b : Bool) → (y.conn == conn) ≡ b → cond b (Some y) (find (λ arrived. arrived.conn == conn) ys) ≡ Some x → (find (λ arrived. arrived.conn == conn) ys ≡ Some x → x.conn ≡ conn) → x.conn ≡ conn
  by_test true is q f = ap (λ (z : Arrived). z.conn) (sym (some_is y x q)) ∙ eqb-true y.conn conn is
  by_test false is q f = f q

module _ (conn : ℕ) (bound : nodes.Bound) where
  -- a connection keeps its number
  number_kept : (y : Arrived) → (rebound conn bound y).conn ≡ y.conn
  number_kept y = by_test (y.conn == conn) where
    by_test : (b : Bool) → (if b then record y { bound = bound } else y).conn ≡ y.conn
    by_test true = refl
    by_test false = refl

  -- this one is found, bound so
  found_bound : (xs : List Arrived) (x : Arrived) → find (λ arrived. arrived.conn == conn) xs ≡ Some x → find (λ arrived. arrived.conn == conn) (map (rebound conn bound) xs) ≡ Some (record x { bound = bound })
  found_bound [] x h = nothing_is x h
  found_bound (y ∷ ys) x h = ap (λ (n : ℕ). cond (n == conn) (Some (rebound conn bound y)) (find (λ arrived. arrived.conn == conn) (map (rebound conn bound) ys))) (number_kept y)
      ∙ by_test (y.conn == conn) h (λ q. found_bound ys x q) where
        by_test : (b : Bool) → cond b (Some y) (find (λ arrived. arrived.conn == conn) ys) ≡ Some x
            → (find (λ arrived. arrived.conn == conn) ys ≡ Some x → find (λ arrived. arrived.conn == conn) (map (rebound conn bound) ys) ≡ Some (record x { bound = bound }))
            → cond b (Some (if b then record y { bound = bound } else y)) (find (λ arrived. arrived.conn == conn) (map (rebound conn bound) ys)) ≡ Some (record x { bound = bound })
        by_test true q f = ap (λ (z : Arrived). Some (record z { bound = bound })) (some_is y x q)
        by_test false q f = f q

  -- every other is found as it was
  other_found : (m : ℕ) → (m == conn) ≡ false → (xs : List Arrived) → find (λ arrived. arrived.conn == m) (map (rebound conn bound) xs) ≡ find (λ arrived. arrived.conn == m) xs
  other_found m off [] = refl
  other_found m off (y ∷ ys) = ap (λ (n : ℕ). cond (n == m) (Some (rebound conn bound y)) (find (λ arrived. arrived.conn == m) (map (rebound conn bound) ys))) (number_kept y)
      ∙ ap (cond (y.conn == m) (Some (rebound conn bound y))) (other_found m off ys) ∙ by_test (y.conn == m) refl where
        by_test : (b : Bool) → (y.conn == m) ≡ b → cond b (Some (rebound conn bound y)) (find (λ arrived. arrived.conn == m) ys) ≡ cond b (Some y) (find (λ arrived. arrived.conn == m) ys)
        by_test false is = refl
        by_test true is = ap (λ b. Some (if b then record y { bound = bound } else y)) (ap (λ (z : ℕ). z == conn) (eqb-true y.conn m is) ∙ off)

-- ---- the node

module _ (n : NodeState) (conn : ℕ) (b : nodes.Bound) where
  abbrev Rebound : List Arrived
  Rebound = map (rebound conn b) n.arrived

  standing_now : (o : Option Name) → standing_for (bind n conn b) o ≡ standing_for n o
  unfolding bind
  standing_now o = standing_with n Rebound o

  -- the connection that is bound
  conn_bound : (arrived : Arrived) → find (λ arrived. arrived.conn == conn) n.arrived ≡ Some arrived → of_conn (bind n conn b) conn ≡ binding_of n b
  unfolding bind
  conn_bound arrived h = ap (of_arrived (bind n conn b)) (found_bound conn b n.arrived arrived h) ∙ binding_with n Rebound b

  -- every other
  conn_other : (m : ℕ) → (m == conn) ≡ false → of_conn (bind n conn b) m ≡ of_conn n m
  unfolding bind
  conn_other m off = ap (of_arrived (bind n conn b)) (other_found conn b m off n.arrived) ∙ arrived_with n Rebound (find (λ arrived. arrived.conn == m) n.arrived)

-- ---- what an opening binds to

-- the node of what a connection is opened to is the target's
opened_at : (to : Target) → node_of (opened_to to) ≡ target_at to
unfolding node_of
opened_at (targets.Process p) = refl
opened_at (targets.Port q) = refl
opened_at (targets.Named at name) = refl

between : (n : NodeState) (from : ProcessId) (to : Target) → bound_between n (ends.Process from) (opened_to to) ≡ bound_for n from to
unfolding bound_between
between n from (targets.Process p) = refl
between n from (targets.Port q) = refl
between n from (targets.Named at name) = refl

-- and that is bound, as the passage has it, where the target is there
binding_is : (n : NodeState) (from : ProcessId) (to : Target) → binding_of n (bound_for n from to) ≡ bound_to (is_there (is_named to) (stands_for n to))
binding_is n from (targets.Named at name) = refl
binding_is n from (targets.Process p) = by_living (is_living n p) refl where
  by_living : (x : Bool) → is_living n p ≡ x → binding_of n (if x then nodes.ToTarget from (targets.Process p) else nodes.Void) ≡ bound_to (is_there false (if x then Some p.counter else None))
  by_living true is = ap (λ x. if is_some (if x then Some p.counter else None) then Bound else Void) is
  by_living false is = refl
binding_is n from (targets.Port q) = by_both (is_living n q.process) refl (is_port_here n q) refl where
  by_both : (x : Bool) → is_living n q.process ≡ x → (y : Bool) → is_port_here n q ≡ y
      → binding_of n (if x && y then nodes.ToTarget from (targets.Port q) else nodes.Void) ≡ bound_to (is_there false (if y then (if x then Some q.process.counter else None) else None))
  by_both true is true here = ap (λ y. if is_some (if y then if_living n q.process else None) then Bound else Void) here ∙ ap (λ x. if is_some (if x then Some q.process.counter else None) then Bound else Void) is
  by_both true is false here = refl
  by_both false is true here = refl
  by_both false is false here = refl

-- ---- the opening

module _ (names : List Name) (scene : Scene) (name : Name) (rest : List Item) (o : Opening) (h : OpensFirst names scene name rest o) where
  abbrev N : NodeState
  N = scene.to.node

  abbrev V : Passage
  V = view names scene

  abbrev Table : List Connection
  Table = (link_of scene.to).created

  abbrev B : Binding
  B = bound_to (is_there (V.named o.pair) (V.stands o.pair))

  by_message : bound_by N o.arrived.peer (message_of o.payload) ≡ bound_for N o.from o.to
  unfolding node_of
  by_message = ap (bound_by N o.arrived.peer) h.read
      ∙ ap (λ x. if x && is_here N (node_of (opened_to o.to)) then bound_between N (ends.Process o.from) (opened_to o.to) else nodes.Void) h.of_peer
      ∙ ap (λ x. if x then bound_between N (ends.Process o.from) (opened_to o.to) else nodes.Void) (ap (is_here N) (opened_at o.to) ∙ h.to_here)
      ∙ between N o.from o.to

  binds : node_event N (events.Received o.conn o.payload) ≡ Ok ([], node_after N o)
  unfolding node_event received
  binds = ap (received_on N o.payload) h.arrival ∙ ap (received_as N o.arrived o.payload) h.unread ∙ ap (λ (x : nodes.Bound). silent (bind N o.arrived.conn x)) by_message

  number : o.arrived.conn ≡ o.conn
  number = conn_is o.conn N.arrived o.arrived h.arrival

  -- what the connection is for, as the passage has it
  is_b : binding_of N (bound_for N o.from o.to) ≡ B
  is_b = binding_is N o.from o.to ∙ sym (ap (λ (x : Option Name). bound_to (is_there (named x) (standing_for N x))) h.known ∙ ap (λ (to : Target). bound_to (is_there (is_named to) (stands_for N to))) h.target)

  mine : of_created (node_after N o) (slice_get Table o.place) ≡ B
  mine = ap (of_created (node_after N o)) h.created
      ∙ ap (of_conn (node_after N o)) (sym number)
      ∙ conn_bound N o.arrived.conn (bound_for N o.from o.to) o.arrived (ap (λ (m : ℕ). find (λ arrived. arrived.conn == m) N.arrived) number ∙ h.arrival)
      ∙ is_b

  other_conns : (m : ℕ) → (m ≡ o.conn → ⊥) → of_conn (node_after N o) m ≡ of_conn N m
  other_conns m off = conn_other N o.arrived.conn (bound_for N o.from o.to) m (apart (m == o.arrived.conn) refl) where
    apart : (x : Bool) → (m == o.arrived.conn) ≡ x → x ≡ false
    apart false is = refl
    apart true is = absurd (off (eqb-true m o.arrived.conn is ∙ number))

  bounds : (d f : ℕ) → bound_of (node_after N o) Table scene.created d f ≡ cond (nat_eq d o.pair && nat_eq f o.epoch) B (V.bound d f)
  bounds = bound_now N (node_after N o) Table Table scene.created o.pair o.epoch o.place h.used B mine (others_stay o.conn Table Table o.place h.alone (λ i off. refl) N (node_after N o) other_conns)

  abbrev Rest : Passage
  Rest = record V { flight = put scene.way.at rest scene.way.flight }

  moved : after Read V ≡ moves.bind o.pair o.epoch B Rest
  moved = ap (λ (w : List Item). moves.read w V) h.first

  seen_now : view names (opened_in scene rest o) ≡ after Read V
  seen_now = sending_alike (view names (opened_in scene rest o)) (moves.bind o.pair o.epoch B Rest) refl (λ d. refl) (λ d. refl) (λ d. refl) refl refl refl refl refl refl bounds
      (λ d. standing_now N o.arrived.conn (bound_for N o.from o.to) (slice_get names d)) refl
      ∙ sym moved

  pub is_opened : IsOpened names scene rest o
  is_opened = record { node_binds = binds; seen = seen_now }
