-- What a plain node makes of a frame that its host has read of a plain stream.
use Rattle.std.proofs.Common.{◌≡◌, ◌≤◌, ◌<◌, ℕ, zero, suc, ◌+◌, ◌*◌, Bool, true, false, not, ◌&&◌, List, [], ◌∷◌, ◌++◌, map, filter, Ok, inl, inr, refl, sym, ap, ◌∙◌, subst, arith, ◌==◌}
use Rattle.std.specs.Prelude.{find, is_some, Option, Some, None}
use Rattle.ch_base.specs.declared.address.Address.{Address}
use Rattle.ch_base.specs.declared.event.Event.TheVariants as events
use Rattle.ch_base.specs.declared.event.Why.{Why}
use Rattle.ch_ident.specs.Reading.{message_of}
use Rattle.ch_wire.specs.declared.frame.Frame.{Frame}
use Rattle.ch_wire.specs.declared.frame.Frame.TheVariants as frames
use Rattle.ch_light.specs.Ids.{id_of, created_of, closed_of, conn_of}
use Rattle.ch_light.specs.declared.Connection.{Connection}
use Rattle.ch_watch.specs.Same.{same_node}
use Rattle.ch_model.specs.declared.act.Act.{Act}
use Rattle.ch_model.specs.HostItems.{arrived_at, next_arrival}
use Rattle.ch_model.specs.HostState.{HostState}
use Rattle.ch_model.specs.Node.{node_event}
use Rattle.ch_model.specs.NodeArrivals.{rebound, bound_by, bind, arrives, departs}
use Rattle.ch_model.specs.NodeState.{NodeState, Bound, Unread, Arrived}
use Rattle.ch_laws_log.proofs.Homes.{node_self}
use Rattle.ch_laws_connections.specs.Tables.{open_in}
use Rattle.ch_laws_connections.specs.Senders.{total}
use Rattle.ch_laws_connections.specs.Arrivals.{made_at, made_so, has_come, IsOfArrived, Meets}
use Rattle.ch_laws_connections.proofs.GivenIn.{without_id}
use Rattle.ch_laws_plain_nodes.specs.Plain.{IsPlain, IsPlainOpening, IsRead}
use Rattle.ch_laws_plain_nodes.specs.Acts.{AreNotes}
use Rattle.ch_laws_plain_nodes.specs.Does.{Tells, Hears}
use Rattle.ch_laws_plain_nodes.proofs.Events.{hears_opened, hears_closed, reads_opening, hears_payload, loses, Loses, bound_read}
use Rattle.ch_laws_plain_nodes.proofs.Lists.{found_conn}
use Rattle.ch_laws_plain_nodes.proofs.Steps.{given_so}
use Rattle.ch_laws_plain.specs.Plain.{is_unread, is_unread_of, unread_from, id_for, NodeIsPlain}
use Rattle.ch_laws_plain.specs.Streams.{PlainStep}
use Rattle.ch_laws_plain.proofs.Alone.{alone_as_it_comes, bound_fewer, kept_fewer, none_kept, none_of_lost, others_left}
use Rattle.ch_laws_plain.proofs.Pending.{comes_unread, others_as_they_were, one_number, bound_then, is_read}
use Rattle.ch_laws_plain.specs.HearsTurns.{IsAfter, HearsPlainly}
use Rattle.ch_laws_plain.proofs.HearsLists.{fails, unread_is, has_come_there, not_come, stay_unread, bound_unread, one_found, found_plain, bound_so, found_open, closed_open}
use Rattle.ch_laws_plain.proofs.HearsMoves.{none_created, none_closed}

below : (a b c : ℕ) → a ≤ b → b ≤ c → a ≤ c
below a b c l m = omega arith

one_not_zero : (n : ℕ) → 1 ≤ n → n ≡ 0 → ⊥
one_not_zero n l e = omega arith

nothing : (n : ℕ) → (1 ≤ n → ⊥) → n ≡ 0
nothing zero f = refl
nothing (suc n) f = absurd (f (one n)) where
  one : (n : ℕ) → 1 ≤ suc n
  one n = omega arith

-- what is heard, by what has arrived then
heard_so : (peer : Address) (created : List Connection) (read : List Frame) (node : NodeState) (done : List Act) (next : NodeState) (arrived : List Arrived) → AreNotes done → IsPlain next → next.arrived ≡ arrived → ((q : Address) → unread_from q arrived ≤ 1)
    → IsAfter read (id_for created (find (is_unread_of peer) arrived)) → ((q : Address) → same_node peer q ≡ false → find (is_unread_of q) arrived ≡ find (is_unread_of q) node.arrived) → HearsPlainly peer created read node done next
heard_so peer created read node done next arrived did one is alone here others = record {
  did = did;
  plain = record { plain = one; alone = λ q. subst (λ (l : List Arrived). unread_from q l ≤ 1) (sym is) (alone q) };
  here = subst (λ (l : List Arrived). IsAfter read (id_for created (find (is_unread_of peer) l))) (sym is) here;
  others = λ q apart. ap (λ (l : List Arrived). find (is_unread_of q) l) is ∙ others q apart;
}

-- where none is unread, none has yet to be opened
after_none : (read : List Frame) (created : List Connection) (o : Option Arrived) → o ≡ None → IsAfter read (id_for created o)
after_none read created o e = inl (ap (id_for created) e)

-- ---- a link fails

pub hears_lost : (peer : Address) (why : Why) (created : List Connection) (read : List Frame) (node : NodeState) (done : List Act) (next : NodeState) → NodeIsPlain node → node_event node (events.ConnectionLost peer why) ≡ Ok (done, next) → HearsPlainly peer created read node done next
hears_lost peer why created read node done next p e =
    let heard = (given_so (Loses node p.plain peer why) (node_event node (events.ConnectionLost peer why)) done next (loses node p.plain peer why) e).0 in
    heard_so peer created read node done next left (subst AreNotes (sym heard.did) tt) heard.node (ap (λ (n : NodeState). n.arrived) heard.same)
    (λ q. below (unread_from q left) (unread_from q node.arrived) 1 (kept_fewer (λ (one : Arrived). not (same_node one.peer peer)) q node.arrived) (p.alone q))
    (after_none read created (find (is_unread_of peer) left) (none_of_lost peer node.arrived))
    (λ q apart. others_left peer q node.arrived apart)
  where
    left : List Arrived
    left = filter (λ (one : Arrived). not (same_node one.peer peer)) node.arrived

module _ (host : HostState) (end : ℕ) (peer : Address) (node : NodeState) (p : NodeIsPlain node) (m : Meets host end node.arrived) where
  -- how often a connection has come is how often it was created
  come_made : (conn : ℕ) (q : Address) → 1 ≤ total (has_come conn q) node.arrived → 1 ≤ made_so host end conn q
  come_made conn q l = subst (λ (n : ℕ). 1 ≤ n) (sym (m.1 conn q)) l

  -- an opening that is unread is that of a connection that has an id
  none_unread : id_for (made_at host end peer) (find (is_unread_of peer) node.arrived) ≡ None → find (is_unread_of peer) node.arrived ≡ None
  none_unread e = by_found (find (is_unread_of peer) node.arrived) refl e where
    by_found : (o : Option Arrived) → find (is_unread_of peer) node.arrived ≡ o → id_for (made_at host end peer) o ≡ None → o ≡ None
    by_found None f e = refl
    by_found (Some a) f e =
        let come = subst (λ (q : Address). 1 ≤ total (has_come a.conn q) node.arrived) (unread_is peer node.arrived a f).1 (has_come_there (is_unread_of peer) node.arrived a f) in
        absurd (one_not_zero (made_so host end a.conn peer) (come_made a.conn peer come) (without_id (made_at host end peer) a.conn (ap is_some e)))

  -- a connection of the peer came from it
  from_peer : (conn : ℕ) (one : Arrived) → 1 ≤ made_so host end conn peer → find (λ (known : Arrived). known.conn == conn) node.arrived ≡ Some one → one.peer ≡ peer
  from_peer conn one l f = m.0.one_link conn one.peer peer (come_made conn one.peer (subst (λ (n : ℕ). 1 ≤ total (has_come n one.peer) node.arrived) (found_conn conn node.arrived one f) (has_come_there (λ (known : Arrived). known.conn == conn) node.arrived one f))) l

  -- and from no other
  from_none : (conn : ℕ) (q : Address) → 1 ≤ made_so host end conn peer → same_node peer q ≡ false → total (has_come conn q) node.arrived ≡ 0
  from_none conn q l apart = nothing (total (has_come conn q) node.arrived) (λ c. never (m.0.one_link conn peer q l (come_made conn q c))) where
    never : peer ≡ q → ⊥
    never e = let self : same_node peer q ≡ true = ap (same_node peer) (sym e) ∙ node_self peer in absurd cc

  -- ---- a connection comes

  free : open_in (made_at host end peer) (next_arrival host end) ≡ 0
  free = nothing (open_in (made_at host end peer) (next_arrival host end)) (λ l. of_drawn (m.0.drawn (next_arrival host end) peer l)) where
    not_drawn : (n k : ℕ) → k < n → 2 * n + 1 ≡ 2 * k + 1 → ⊥
    not_drawn n k l e = omega arith

    of_drawn : IsOfArrived (arrived_at host end) (next_arrival host end) → ⊥
    of_drawn d = not_drawn (arrived_at host end) d.0 d.1 d.2

  pub hears_comes : (id : ℕ) (created : List Connection) (next_id : Option ℕ) (done : List Act) (next : NodeState) → created_of (made_at host end peer) id (next_arrival host end) ≡ Ok created → PlainStep (id_for (made_at host end peer) (find (is_unread_of peer) node.arrived)) (frames.Created id) next_id
      → node_event node (events.ConnectionOpened (next_arrival host end) peer) ≡ Ok (done, next) → HearsPlainly peer created (frames.Created id ∷ []) node done next
  unfolding arrives
  hears_comes id created next_id done next c s e =
      let heard = given_so (Hears (arrives node (next_arrival host end) peer)) (node_event node (events.ConnectionOpened (next_arrival host end) peer)) done next (hears_opened node p.plain (next_arrival host end) peer) e in
      heard_so peer created (frames.Created id ∷ []) node done next more (subst AreNotes (sym heard.did) tt) heard.node (ap (λ (n : NodeState). n.arrived) heard.same)
      (λ q. alone_as_it_comes (next_arrival host end) peer q node.arrived none (p.alone q))
      (inr (id, comes_unread (made_at host end peer) created id (next_arrival host end) peer node.arrived c free none, refl))
      (λ q apart. others_as_they_were (next_arrival host end) peer q node.arrived apart)
    where
      none : find (is_unread_of peer) node.arrived ≡ None
      none = none_unread (none_created (id_for (made_at host end peer) (find (is_unread_of peer) node.arrived)) next_id id s)

      more : List Arrived
      more = node.arrived ++ record { conn = next_arrival host end; peer = peer; bound = Unread } ∷ []

  -- ---- one goes

  pub hears_goes : (id conn : ℕ) (created : List Connection) (next_id : Option ℕ) (done : List Act) (next : NodeState) → closed_of (made_at host end peer) id ≡ Ok (conn, created) → PlainStep (id_for (made_at host end peer) (find (is_unread_of peer) node.arrived)) (frames.Closed id) next_id
      → node_event node (events.ConnectionClosed conn) ≡ Ok (done, next) → HearsPlainly peer created (frames.Closed id ∷ []) node done next
  unfolding departs
  hears_goes id conn created next_id done next c s e =
      let heard = given_so (Hears (departs node conn)) (node_event node (events.ConnectionClosed conn)) done next (hears_closed node p.plain conn) e in
      heard_so peer created (frames.Closed id ∷ []) node done next left (subst AreNotes (sym heard.did) tt) heard.node (ap (λ (n : NodeState). n.arrived) heard.same)
      (λ q. below (unread_from q left) (unread_from q node.arrived) 1 (kept_fewer (λ (one : Arrived). not (one.conn == conn)) q node.arrived) (p.alone q))
      (after_none (frames.Closed id ∷ []) created (find (is_unread_of peer) left) (none_kept (λ (one : Arrived). not (one.conn == conn)) peer node.arrived none))
      (λ q apart. stay_unread conn q node.arrived (from_none conn q (closed_open (made_at host end peer) id conn created c) apart))
    where
      none : find (is_unread_of peer) node.arrived ≡ None
      none = none_unread (none_closed (id_for (made_at host end peer) (find (is_unread_of peer) node.arrived)) next_id id s)

      left : List Arrived
      left = filter (λ (one : Arrived). not (one.conn == conn)) node.arrived

  -- ---- a payload comes

  module _ (id conn : ℕ) (payload : List ℕ) (found : conn_of (made_at host end peer) id ≡ Ok conn) (done : List Act) (next : NodeState) (e : node_event node (events.Received conn payload) ≡ Ok (done, next)) where
    made : 1 ≤ made_so host end conn peer
    made = found_open (made_at host end peer) id conn found

    -- on a connection whose opening was read, or on none
    on_read : find (is_unread_of peer) node.arrived ≡ None → IsRead (find (λ (known : Arrived). known.conn == conn) node.arrived)
    on_read none = by_found (find (λ (known : Arrived). known.conn == conn) node.arrived) refl where
      by_found : (o : Option Arrived) → find (λ (known : Arrived). known.conn == conn) node.arrived ≡ o → IsRead o
      by_found None f = tt
      by_found (Some one) f = bound_so one.bound (found_plain (λ (known : Arrived). known.conn == conn) node.arrived one p.plain.arrived f) (by_bound (is_unread one.bound) refl) where
        unread : is_unread one.bound ≡ true → is_unread_of peer one ≡ true
        unread h = ap (λ b. b && same_node one.peer peer) h ∙ ap (λ (q : Address). same_node q peer) (from_peer conn one made f) ∙ node_self peer

        by_bound : (b : Bool) → is_unread one.bound ≡ b → b ≡ false
        by_bound true h = let was = unread h in let no = fails (is_unread_of peer) (λ (known : Arrived). known.conn == conn) node.arrived one none f in absurd cc
        by_bound false h = refl

    more_comes : find (is_unread_of peer) node.arrived ≡ None → HearsPlainly peer (made_at host end peer) (frames.Data id payload ∷ []) node done next
    more_comes none =
        let told = given_so (Tells node) (node_event node (events.Received conn payload)) done next (hears_payload node p.plain conn payload (on_read none)) e in
        heard_so peer (made_at host end peer) (frames.Data id payload ∷ []) node done next node.arrived told.did told.node (ap (λ (n : NodeState). n.arrived) told.same) p.alone
        (after_none (frames.Data id payload ∷ []) (made_at host end peer) (find (is_unread_of peer) node.arrived) none) (λ q apart. refl)

    -- on the one whose opening is unread
    opening_comes : (one : Arrived) → find (is_unread_of peer) node.arrived ≡ Some one → id_of (made_at host end peer) one.conn ≡ Some id → IsPlainOpening payload → HearsPlainly peer (made_at host end peer) (frames.Data id payload ∷ []) node done next
    unfolding bind
    opening_comes one f has o =
        let heard = given_so (Hears (bind node conn bound)) (node_event node (events.Received conn payload)) done next (reads_opening node p.plain conn payload one there (unread_is peer node.arrived one f).0 o) e in
        heard_so peer (made_at host end peer) (frames.Data id payload ∷ []) node done next now (subst AreNotes (sym heard.did) tt) heard.node (ap (λ (n : NodeState). n.arrived) heard.same)
        (λ q. below (unread_from q now) (unread_from q node.arrived) 1 (bound_fewer conn bound q node.arrived read) (p.alone q))
        (after_none (frames.Data id payload ∷ []) (made_at host end peer) (find (is_unread_of peer) now) (bound_then conn bound peer node.arrived one read f is (p.alone peer)))
        (λ q apart. bound_unread conn bound q node.arrived (from_none conn q made apart))
      where
        bound : Bound
        bound = bound_by node one.peer (message_of payload)

        read : is_unread bound ≡ false
        read = is_read bound (bound_read node one.peer payload o)

        now : List Arrived
        now = map (rebound conn bound) node.arrived

        is : one.conn ≡ conn
        is = sym (one_number (made_at host end peer) one.conn conn id has found)

        there : find (λ (known : Arrived). known.conn == conn) node.arrived ≡ Some one
        there = by_found (find (λ (known : Arrived). known.conn == conn) node.arrived) refl where
          by_found : (o : Option Arrived) → find (λ (known : Arrived). known.conn == conn) node.arrived ≡ o → o ≡ Some one
          by_found None g = absurd (one_not_zero (made_so host end conn peer) made (m.1 conn peer ∙ not_come conn peer node.arrived g))
          by_found (Some other) g = ap (λ (a : Arrived). Some a) (one_found conn peer node.arrived one other f is g (from_peer conn other made g) (subst (λ (n : ℕ). n ≤ 1) (m.1 conn peer) (m.0.alone conn peer)))

    pub hears_payload_so : (next_id : Option ℕ) → PlainStep (id_for (made_at host end peer) (find (is_unread_of peer) node.arrived)) (frames.Data id payload) next_id → HearsPlainly peer (made_at host end peer) (frames.Data id payload ∷ []) node done next
    hears_payload_so next_id s = by_found (find (is_unread_of peer) node.arrived) refl s where
      by_pending : (one : Arrived) → find (is_unread_of peer) node.arrived ≡ Some one → (o : Option ℕ) → id_of (made_at host end peer) one.conn ≡ o → PlainStep o (frames.Data id payload) next_id → HearsPlainly peer (made_at host end peer) (frames.Data id payload ∷ []) node done next
      by_pending one f None h s = let none = none_unread (ap (id_for (made_at host end peer)) f ∙ h) in absurd cc
      by_pending one f (Some on) h s = opening_comes one f (h ∙ ap (λ (n : ℕ). Some n) (sym s.0)) s.1

      by_found : (o : Option Arrived) → find (is_unread_of peer) node.arrived ≡ o → PlainStep (id_for (made_at host end peer) o) (frames.Data id payload) next_id → HearsPlainly peer (made_at host end peer) (frames.Data id payload ∷ []) node done next
      by_found None f s = more_comes f
      by_found (Some one) f s = by_pending one f (id_of (made_at host end peer) one.conn) refl s
