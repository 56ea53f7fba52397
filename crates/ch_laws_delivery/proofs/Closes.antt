-- A close that is read forgets its connection, as the passage's move says.
use Rattle.std.specs.Prelude.{◌≡◌, ℕ, ◌+◌, ◌-◌, Bool, true, false, not, cond, ◌&&◌, ◌==◌, nat_eq, List, [], ◌∷◌, find, filter, nat_lt, slice_get, slice_set, Option, Some, Result, Ok, Err, if◌then◌else◌}
use Rattle.std.proofs.Common.{refl, ap, sym, ◌∙◌, arith}
use Rattle.std.proofs.lemmas.Bool.{eqb-true}
use Rattle.std.proofs.lemmas.Bool.Decides.{nat_tests}
use Rattle.std.proofs.lemmas.Option.{slice_get_within}
use Rattle.ch_base.specs.AddressValues.{AddressValue}
use Rattle.ch_base.specs.declared.event.Event.TheVariants as events
use Rattle.ch_light.proofs.Lists.{set_here, set_other}
use Rattle.ch_light.specs.declared.TheConstants.{FIRST_ID}
use Rattle.ch_light.specs.declared.Connection.{Connection}
use Rattle.ch_light.specs.declared.error.LightError.{LightError}
use Rattle.ch_light.specs.declared.error.LightError.TheVariants.{NotOpen}
use Rattle.ch_light.specs.Ids.{opened, closed, open_number, conn_of, closed_by, closed_of}
use Rattle.ch_wire.specs.declared.frame.Frame.TheVariants as frames
use Rattle.ch_model.specs.declared.step.Step.TheVariants as steps
use Rattle.ch_model.specs.HostState.{Link, Socket, HostState}
use Rattle.ch_model.specs.HostSteps.{link_with}
use Rattle.ch_model.specs.HostItems.{reads_frame, closes}
use Rattle.ch_model.specs.NodeState.{NodeState, Arrived}
use Rattle.ch_model.specs.NodeArrivals.{departs}
use Rattle.ch_model.specs.Node.{node_event}
use Rattle.ch_delivery.specs.Passage.{Item, Unknown, Passage}
use Rattle.ch_delivery.specs.Moves as moves
use Rattle.ch_delivery.specs.Moves.{Read, put, after}
use Rattle.ch_laws_delivery.specs.Scene.{Name, Scene, link_of}
use Rattle.ch_laws_delivery.specs.Receiving.{standing_for, of_arrived, of_conn, of_created, bound_of}
use Rattle.ch_laws_delivery.specs.View.{view}
use Rattle.ch_laws_delivery.specs.Closings.{Closing, ClosesFirst, host_after, departed_in, IsDeparted}
use Rattle.ch_laws_delivery.proofs.Keys.{link_kept, link_named}
use Rattle.ch_laws_delivery.proofs.Places.{bound_now, standing_with, arrived_with, others_stay}
use Rattle.ch_laws_delivery.proofs.Alike.{sending_alike}

-- ---- the host

not_below : (a b : ℕ) → nat_lt (a + b) a ≡ false
not_below a b = grind (arith, nat_tests)

less_first : (a b : ℕ) → (a + b) - a ≡ b
less_first a b = omega arith

closes_place : (table : List Connection) (place conn : ℕ) → slice_get table place ≡ Some (opened conn) → closed_of table (FIRST_ID + place) ≡ Ok (conn, slice_set table place (closed conn))
unfolding closed_of conn_of
closes_place table place conn there =
    ap (λ b. closed_by table (FIRST_ID + place) (if b then Err NotOpen else open_number (slice_get table ((FIRST_ID + place) - FIRST_ID)))) (not_below FIRST_ID place)
    ∙ ap (λ (i : ℕ). closed_by table (FIRST_ID + place) (open_number (slice_get table i))) (less_first FIRST_ID place)
    ∙ ap (λ (o : Option Connection). closed_by table (FIRST_ID + place) (open_number o)) there
    ∙ ap (λ (i : ℕ). Ok (conn, slice_set table i (closed conn))) (less_first FIRST_ID place)

-- ---- the node

-- every other connection is found as it was
still_found : (conn m : ℕ) → (m ≡ conn → ⊥) → (xs : List Arrived) → find (λ arrived. arrived.conn == m) (filter (λ arrived. not (arrived.conn == conn)) xs) ≡ find (λ arrived. arrived.conn == m) xs
still_found conn m off [] = refl
still_found conn m off (x ∷ xs) = by_test (x.conn == conn) refl (still_found conn m off xs) where
  by_other : (b : Bool) → (x.conn == m) ≡ b → (x.conn == conn) ≡ true → find (λ arrived. arrived.conn == m) xs ≡ cond b (Some x) (find (λ arrived. arrived.conn == m) xs)
  by_other false is at = refl
  by_other true is at = absurd (off (sym (eqb-true x.conn m is) ∙ eqb-true x.conn conn at))

  by_test : (b : Bool) → (x.conn == conn) ≡ b → find (λ arrived. arrived.conn == m) (filter (λ arrived. not (arrived.conn == conn)) xs) ≡ find (λ arrived. arrived.conn == m) xs
      → find (λ arrived. arrived.conn == m) (cond (not b) (x ∷ filter (λ arrived. not (arrived.conn == conn)) xs) (filter (λ arrived. not (arrived.conn == conn)) xs)) ≡ find (λ arrived. arrived.conn == m) (x ∷ xs)
  by_test true is later = later ∙ by_other (x.conn == m) refl is
  by_test false is later = ap (λ (o : Option Arrived). cond (x.conn == m) (Some x) o) later

module _ (n : NodeState) (conn : ℕ) where
  abbrev Left : List Arrived
  Left = filter (λ arrived. not (arrived.conn == conn)) n.arrived

  standing_now : (o : Option Name) → standing_for (departs n conn) o ≡ standing_for n o
  unfolding departs
  standing_now o = standing_with n Left o

  other_conns : (m : ℕ) → (m ≡ conn → ⊥) → of_conn (departs n conn) m ≡ of_conn n m
  unfolding departs
  other_conns m off = ap (of_arrived (departs n conn)) (still_found conn m off n.arrived) ∙ arrived_with n Left (find (λ arrived. arrived.conn == m) n.arrived)

-- ---- the close

module _ (names : List Name) (scene : Scene) (rest : List Item) (k : Closing) (h : ClosesFirst scene rest k) where
  abbrev N : NodeState
  N = scene.to.node

  abbrev V : Passage
  V = view names scene

  abbrev L : Link
  L = link_of scene.to

  abbrev Table : List Connection
  Table = slice_set L.created k.place (closed k.conn)

  abbrev Now : HostState
  Now = host_after scene.to.host L k

  tells : (socket : Socket) → reads_frame socket L (frames.Closed (FIRST_ID + k.place)) scene.to.host ≡ Ok (steps.Post L.end (events.ConnectionClosed k.conn) ∷ [], Now)
  tells socket = ap (λ (r : Result (ℕ × List Connection) LightError). closes socket L r scene.to.host) (closes_place L.created k.place k.conn h.created)

  forgets : node_event N (events.ConnectionClosed k.conn) ≡ Ok ([], departs N k.conn)
  unfolding node_event
  forgets = refl

  link_now : link_with Now scene.to.end scene.to.peer ≡ record L { created = Table }
  link_now = let key = link_named scene.to.host scene.to.end scene.to.peer in
      ap (λ (z : ℕ). link_with Now z scene.to.peer) (sym key.0) ∙ ap (λ (z : AddressValue). link_with Now L.end z) (sym key.1) ∙ link_kept (record L { created = Table }) scene.to.host

  mine : of_created (departs N k.conn) (slice_get Table k.place) ≡ Unknown
  mine = ap (of_created (departs N k.conn)) (set_here L.created k.place (closed k.conn) (slice_get_within L.created k.place (opened k.conn) h.created))

  bounds : (d f : ℕ) → bound_of (departs N k.conn) Table scene.created d f ≡ cond (nat_eq d k.pair && nat_eq f k.epoch) Unknown (V.bound d f)
  bounds = bound_now N (departs N k.conn) L.created Table scene.created k.pair k.epoch k.place h.used Unknown mine
      (others_stay k.conn L.created Table k.place h.alone (λ i off. set_other L.created k.place (closed k.conn) i off) N (departs N k.conn) (other_conns N k.conn))

  abbrev Rest : Passage
  Rest = record V { flight = put scene.way.at rest scene.way.flight }

  moved : after Read V ≡ moves.bind k.pair k.epoch Unknown Rest
  moved = ap (λ (w : List Item). moves.read w V) h.first

  seen_now : view names (departed_in scene rest k) ≡ after Read V
  seen_now = sending_alike (view names (departed_in scene rest k)) (moves.bind k.pair k.epoch Unknown Rest) refl (λ d. refl) (λ d. refl) (λ d. refl) refl refl refl refl refl refl
      (λ d f. ap (λ (l : Link). bound_of (departs N k.conn) l.created scene.created d f) link_now ∙ bounds d f)
      (λ d. standing_now N k.conn (slice_get names d)) refl
      ∙ sym moved

  pub is_departed : IsDeparted names scene rest k
  is_departed = record { host_tells = tells; node_forgets = forgets; seen = seen_now }
