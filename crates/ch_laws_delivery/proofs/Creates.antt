-- That a connection is created changes nothing of what is seen.
use Rattle.std.specs.Prelude.{◌≡◌, ◌<◌, ℕ, suc, ◌+◌, Bool, true, false, cond, ◌==◌, List, [], ◌∷◌, ◌++◌, length, find, nat_le, slice_get, Option, Some, None, Result, Ok, Err, if◌then◌else◌}
use Rattle.std.specs.Option.{option_map}
use Rattle.std.proofs.Common.{refl, ap, sym, ◌∙◌, ◌⊎◌, inl, inr, arith}
use Rattle.std.proofs.lemmas.Bool.{eq-eqb}
use Rattle.std.proofs.lemmas.Option.{slice_get_within}
use Rattle.std.proofs.lemmas.List.{length-append}
use Rattle.ch_base.specs.AddressValues.{AddressValue}
use Rattle.ch_base.specs.declared.event.Event.TheVariants as events
use Rattle.ch_base.specs.declared.memory.Stop.TheVariants as stops
use Rattle.ch_light.proofs.Lists.{push_here, push_other}
use Rattle.ch_light.specs.declared.TheConstants.{FIRST_ID, MOST_IDS}
use Rattle.ch_light.specs.declared.Connection.{Connection}
use Rattle.ch_light.specs.declared.error.LightError.{LightError}
use Rattle.ch_light.specs.declared.error.LightError.TheVariants.{Spent, NotNext}
use Rattle.ch_light.specs.Ids.{opened, created_of}
use Rattle.ch_wire.specs.declared.frame.Frame.TheVariants as frames
use Rattle.ch_model.specs.declared.step.Step.TheVariants as steps
use Rattle.ch_model.specs.HostState.{Endpoint, Link, Socket, HostState}
use Rattle.ch_model.specs.HostSteps.{is_endpoint, link_with, with_link, with_endpoint}
use Rattle.ch_model.specs.HostItems as reading
use Rattle.ch_model.specs.HostItems.{most_arrived, arrived_at, with_arrival, next_arrival, posts, reads_frame}
use Rattle.ch_model.specs.NodeState as nodes
use Rattle.ch_model.specs.NodeState.{NodeState, Arrived}
use Rattle.ch_model.specs.NodeArrivals.{arrives}
use Rattle.ch_model.specs.Node.{node_event}
use Rattle.ch_delivery.specs.Passage.{Unknown}
use Rattle.ch_laws_delivery.specs.Scene.{Name, Use, Scene, link_of}
use Rattle.ch_laws_delivery.specs.Receiving.{standing_for, of_arrived, of_conn, of_created, is_for, place_for, at_place, bound_of}
use Rattle.ch_laws_delivery.specs.View.{view}
use Rattle.ch_laws_delivery.specs.Arrivals.{number_in, CreatesNext, host_after, created_in, IsCreated}
use Rattle.ch_laws_delivery.proofs.Keys.{link_kept, link_named}
use Rattle.ch_laws_delivery.proofs.Places.{place_is, standing_with, arrived_with}
use Rattle.ch_laws_delivery.proofs.Alike.{sending_alike}

-- ---- the host

gives_next : (table : List Connection) (number : ℕ) → nat_le MOST_IDS (length table) ≡ false → created_of table (FIRST_ID + length table) number ≡ Ok (table ++ opened number ∷ [])
unfolding created_of
gives_next table number unspent =
    ap (λ b. if b then Err Spent else (if (FIRST_ID + length table) == FIRST_ID + length table then Ok (table ++ opened number ∷ []) else Err NotNext)) unspent
    ∙ ap (λ b. if b then Ok (table ++ opened number ∷ []) else Err NotNext) (eq-eqb (FIRST_ID + length table) (FIRST_ID + length table) refl)

-- counting an arrival changes no link
links_stay : (end : ℕ) (host : HostState) → (with_arrival end host).links ≡ host.links
links_stay end host = by_endpoint (find (is_endpoint end) host.ends) where
  by_endpoint : (o : Option Endpoint) → (elim o as (λ x. HostState) [ None ↦ host | Some endpoint ↦ with_endpoint (record endpoint { arrived = endpoint.arrived + 1 }) host ]).links ≡ host.links
  by_endpoint None = refl
  by_endpoint (Some endpoint) = refl

-- ---- the node

module _ (n : NodeState) (number : ℕ) (peer : AddressValue) where
  abbrev More : List Arrived
  More = n.arrived ++ record { conn = number; peer = peer; bound = nodes.Unread } ∷ []

  standing_now : (o : Option Name) → standing_for (arrives n number peer) o ≡ standing_for n o
  unfolding arrives
  standing_now o = standing_with n More o

  found_more : (m : ℕ) (xs : List Arrived) → of_arrived (arrives n number peer) (find (λ arrived. arrived.conn == m) (xs ++ record { conn = number; peer = peer; bound = nodes.Unread } ∷ [])) ≡ of_arrived n (find (λ arrived. arrived.conn == m) xs)
  unfolding arrives
  found_more m [] = by_test (number == m) where
    by_test : (b : Bool) → of_arrived (arrives n number peer) (cond b (Some (record { conn = number; peer = peer; bound = nodes.Unread })) None) ≡ Unknown
    by_test true = refl
    by_test false = refl
  found_more m (x ∷ xs) = by_test (x.conn == m) (found_more m xs) where
    by_test : (b : Bool) → of_arrived (arrives n number peer) (find (λ arrived. arrived.conn == m) (xs ++ record { conn = number; peer = peer; bound = nodes.Unread } ∷ [])) ≡ of_arrived n (find (λ arrived. arrived.conn == m) xs)
        → of_arrived (arrives n number peer) (cond b (Some x) (find (λ arrived. arrived.conn == m) (xs ++ record { conn = number; peer = peer; bound = nodes.Unread } ∷ []))) ≡ of_arrived n (cond b (Some x) (find (λ arrived. arrived.conn == m) xs))
    by_test true later = arrived_with n More (Some x)
    by_test false later = later

  -- of each connection the same is known as before
  conns_now : (m : ℕ) → of_conn (arrives n number peer) m ≡ of_conn n m
  unfolding arrives
  conns_now m = found_more m n.arrived

-- ---- the places of ids

-- what a pair and epoch have, they have still; and what has nothing may have the place that is new
abbrev Placed : ℕ → ℕ → List (Option Use) → Option Use → Type 0
Placed c e uses what = (place_for c e (uses ++ what ∷ []) ≡ place_for c e uses) ⊎ ((place_for c e (uses ++ what ∷ []) ≡ Some (length uses)) × (place_for c e uses ≡ None))

placed : (c e : ℕ) (uses : List (Option Use)) (what : Option Use) → Placed c e uses what
placed c e [] what = by_test (is_for c e what) refl where
  by_test : (b : Bool) → is_for c e what ≡ b → Placed c e [] what
  by_test true is = inr (ap (λ b. if b then Some 0 else None) is, refl)
  by_test false is = inl (ap (λ b. if b then Some 0 else None) is)
placed c e (u ∷ uses) what = by_test (is_for c e u) refl (placed c e uses what) where
  by_test : (b : Bool) → is_for c e u ≡ b → Placed c e uses what → Placed c e (u ∷ uses) what
  by_test true is later = inl (ap (λ b. if b then Some 0 else option_map suc (place_for c e (uses ++ what ∷ []))) is ∙ sym (ap (λ b. if b then Some 0 else option_map suc (place_for c e uses)) is))
  by_test false is (inl q) = inl (ap (λ b. if b then Some 0 else option_map suc (place_for c e (uses ++ what ∷ []))) is ∙ ap (option_map suc) q ∙ sym (ap (λ b. if b then Some 0 else option_map suc (place_for c e uses)) is))
  by_test false is (inr q) = inr (ap (λ b. if b then Some 0 else option_map suc (place_for c e (uses ++ what ∷ []))) is ∙ ap (option_map suc) q.0, ap (λ b. if b then Some 0 else option_map suc (place_for c e uses)) is ∙ ap (option_map suc) q.1)

-- a place is one of them
place_within : (c e : ℕ) (uses : List (Option Use)) (i : ℕ) → place_for c e uses ≡ Some i → i < length uses
place_within c e uses i h = slice_get_within uses i (Some (record { pair = c; epoch = e })) (place_is c e uses i h)

-- ---- the passage

module _ (names : List Name) (scene : Scene) (what : Option Use) (h : CreatesNext scene) where
  abbrev N : NodeState
  N = scene.to.node

  abbrev L : Link
  L = link_of scene.to

  abbrev Number : ℕ
  Number = number_in scene

  abbrev Then : NodeState
  Then = arrives N Number L.peer

  abbrev Table : List Connection
  Table = L.created ++ opened Number ∷ []

  abbrev Now : HostState
  Now = host_after scene.to.host L

  tells : (socket : Socket) → reads_frame socket L (frames.Created (FIRST_ID + length L.created)) scene.to.host ≡ Ok (steps.Post L.end (events.ConnectionOpened Number L.peer) ∷ [], Now)
  tells socket = ap (λ (r : Result (List Connection) LightError). reading.arrives socket L r scene.to.host) (gives_next L.created Number h.unspent)
      ∙ ap (λ b. if b then posts L.end (events.ConnectionOpened Number L.peer) Now else Err stops.Worn) h.grows

  knows : node_event N (events.ConnectionOpened Number L.peer) ≡ Ok ([], Then)
  unfolding node_event
  knows = refl

  link_now : link_with Now scene.to.end scene.to.peer ≡ record L { created = Table }
  link_now = let key = link_named scene.to.host scene.to.end scene.to.peer in
      ap (λ (links : List Link). link_with (record Now { links = links }) scene.to.end scene.to.peer) (links_stay L.end (with_link (record L { created = Table }) scene.to.host))
      ∙ ap (λ (z : ℕ). link_with (with_link (record L { created = Table }) scene.to.host) z scene.to.peer) (sym key.0)
      ∙ ap (λ (z : AddressValue). link_with (with_link (record L { created = Table }) scene.to.host) L.end z) (sym key.1)
      ∙ link_kept (record L { created = Table }) scene.to.host

  created_now : (o : Option Connection) → of_created Then o ≡ of_created N o
  created_now None = refl
  created_now (Some known) = ap (λ b. if known.is_open then b else Unknown) (conns_now N Number L.peer known.number)

  bounds : (c e : ℕ) → bound_of Then Table (scene.created ++ what ∷ []) c e ≡ bound_of N L.created scene.created c e
  bounds c e = by_place (placed c e scene.created what) where
    apart : (i n : ℕ) → i < n → i ≡ n → ⊥
    apart i n h e = absurd (omega arith)

    old : (x : Option ℕ) → place_for c e scene.created ≡ x → at_place Then Table x ≡ at_place N L.created x
    old None is = refl
    old (Some i) is = ap (of_created Then) (push_other L.created (opened Number) i (λ at. apart i (length scene.created) (place_within c e scene.created i is) (at ∙ sym h.level))) ∙ created_now (slice_get L.created i)

    new : at_place Then Table (Some (length scene.created)) ≡ Unknown
    new = ap (λ (i : ℕ). of_created Then (slice_get Table i)) h.level ∙ ap (of_created Then) (push_here L.created (opened Number)) ∙ conns_now N Number L.peer Number ∙ ap (of_arrived N) h.fresh

    by_place : Placed c e scene.created what → bound_of Then Table (scene.created ++ what ∷ []) c e ≡ bound_of N L.created scene.created c e
    by_place (inl q) = ap (at_place Then Table) q ∙ old (place_for c e scene.created) refl
    by_place (inr q) = ap (at_place Then Table) q.0 ∙ new ∙ sym (ap (at_place N L.created) q.1)

  longer : length (scene.created ++ what ∷ []) ≡ length (link_with Now scene.to.end scene.to.peer).created
  longer = length-append scene.created (what ∷ []) ∙ ap (λ (i : ℕ). i + 1) h.level ∙ sym (length-append L.created (opened Number ∷ [])) ∙ sym (ap (λ (l : Link). length l.created) link_now)

  pub is_created : IsCreated names scene what
  is_created = record {
    host_tells = tells;
    node_knows = knows;
    level = longer;
    seen = sending_alike (view names (created_in scene what)) (view names scene) refl (λ d. refl) (λ d. refl) (λ d. refl) refl refl refl refl refl refl
        (λ c e. ap (λ (l : Link). bound_of Then l.created (scene.created ++ what ∷ []) c e) link_now ∙ bounds c e)
        (λ d. standing_now N Number L.peer (slice_get names d)) refl;
  }
