-- A node and its host on the connections that have arrived: the number of the next is new, and the one that has an id is the node's.
use Rattle.std.proofs.Common.{◌≡◌, ◌≤◌, ◌<◌, ℕ, zero, suc, ◌+◌, ◌-◌, nat_lt, nat_le, Bool, true, false, cond, ◌&&◌, ◌==◌, List, [], ◌∷◌, ◌++◌, length, Ok, Err, refl, sym, ap, ◌∙◌, subst, arith}
use Rattle.std.specs.Prelude.{find, option_map, position, slice_get, slice_set, Option, Some, None, Result}
use Rattle.std.proofs.lemmas.Bool.{and_parts}
use Rattle.std.proofs.lemmas.Bool.Decides.{nat_tests}
use Rattle.ch_base.specs.declared.address.Address.{Address}
use Rattle.ch_light.specs.declared.TheConstants.{FIRST_ID, MOST_IDS}
use Rattle.ch_light.specs.declared.Connection.{Connection}
use Rattle.ch_light.specs.declared.error.LightError.{LightError}
use Rattle.ch_light.specs.declared.error.LightError.TheVariants as lights
use Rattle.ch_light.specs.Ids.{opened, closed, is_open_as, place_of, id_of, created_of, open_number, conn_of, closed_by, closed_of}
use Rattle.ch_light.proofs.OpenIds.{found, absent}
use Rattle.ch_watch.specs.Same.{same_node}
use Rattle.ch_model.specs.HostItems.{arrived_at, next_arrival}
use Rattle.ch_model.specs.HostState.{HostState}
use Rattle.ch_model.specs.NodeState.{Arrived}
use Rattle.ch_laws_log.proofs.Homes.{node_self}
use Rattle.ch_laws_log.proofs.Keys.{node_is}
use Rattle.ch_laws_log.proofs.Stored.{number_is, number_same}
use Rattle.ch_laws_connections.specs.Tables.{open_in}
use Rattle.ch_laws_connections.specs.Senders.{once, total}
use Rattle.ch_laws_connections.specs.Arrivals.{made_at, made_so, has_come, IsOfArrived, Meets}
use Rattle.ch_laws_messages.proofs.GotTables.{given, got_within, position_cons}
use Rattle.ch_laws_messages.proofs.GotMoves.{has_conn}

-- ---- how often

counts_one : (table : List Connection) (conn place : ℕ) (one : Connection) → slice_get table place ≡ Some one → is_open_as conn one ≡ true → 1 ≤ open_in table conn
counts_one [] conn place one e h = absurd cc
counts_one (c ∷ rest) conn zero one e h = let is : c ≡ one = cc in subst (λ (b : Bool). 1 ≤ cond b 1 0 + open_in rest conn) (sym (ap (is_open_as conn) is ∙ h)) (omega arith)
counts_one (c ∷ rest) conn (suc place) one e h = more (cond (is_open_as conn c) 1 0) (open_in rest conn) (counts_one rest conn place one e h) where
  more : (n m : ℕ) → 1 ≤ m → 1 ≤ n + m
  more n m h = omega arith

-- two places of one that is open once are one
counts_two : (table : List Connection) (conn i j : ℕ) (one two : Connection) → open_in table conn ≤ 1 → slice_get table i ≡ Some one → is_open_as conn one ≡ true → slice_get table j ≡ Some two → is_open_as conn two ≡ true → i ≡ j
counts_two [] conn i j one two m e g f h = absurd cc
counts_two (c ∷ rest) conn zero zero one two m e g f h = refl
counts_two (c ∷ rest) conn zero (suc j) one two m e g f h =
    let is : c ≡ one = cc in
    absurd (never (open_in rest conn) (subst (λ (b : Bool). cond b 1 0 + open_in rest conn ≤ 1) (ap (is_open_as conn) is ∙ g) m) (counts_one rest conn j two f h)) where
      never : (n : ℕ) → 1 + n ≤ 1 → 1 ≤ n → ⊥
      never n a b = omega arith
counts_two (c ∷ rest) conn (suc i) zero one two m e g f h =
    let is : c ≡ two = cc in
    absurd (never (open_in rest conn) (subst (λ (b : Bool). cond b 1 0 + open_in rest conn ≤ 1) (ap (is_open_as conn) is ∙ h) m) (counts_one rest conn i one e g)) where
      never : (n : ℕ) → 1 + n ≤ 1 → 1 ≤ n → ⊥
      never n a b = omega arith
counts_two (c ∷ rest) conn (suc i) (suc j) one two m e g f h = ap suc (counts_two rest conn i j one two (fewer (cond (is_open_as conn c) 1 0) (open_in rest conn) m) e g f h) where
  fewer : (n m : ℕ) → n + m ≤ 1 → m ≤ 1
  fewer n m h = omega arith

come_one : (conn : ℕ) (all : List Arrived) (one : Arrived) → find (has_conn conn) all ≡ Some one → 1 ≤ total (has_come conn one.peer) all
come_one conn [] one e = absurd cc
come_one conn (x ∷ all) one e = by_test (x.conn == conn) refl e (come_one conn all one) where
  more : (n m : ℕ) → 1 ≤ m → 1 ≤ n + m
  more n m h = omega arith

  by_test : (b : Bool) → (x.conn == conn) ≡ b → cond b (Some x) (find (has_conn conn) all) ≡ Some one → (find (has_conn conn) all ≡ Some one → 1 ≤ total (has_come conn one.peer) all) → 1 ≤ has_come conn one.peer x + total (has_come conn one.peer) all
  by_test true h e rest =
      let is : x ≡ one = cc in
      subst (λ (b : Bool). 1 ≤ cond b (once (x.conn == conn)) 0 + total (has_come conn one.peer) all) (sym (ap (λ (o : Arrived). same_node x.peer o.peer) (sym is) ∙ node_self x.peer)) (subst (λ (b : Bool). 1 ≤ cond b 1 0 + total (has_come conn one.peer) all) (sym h) (omega arith))
  by_test false h e rest = more (has_come conn one.peer x) (total (has_come conn one.peer) all) (rest e)

some_come : (conn : ℕ) (peer : Address) (all : List Arrived) → 1 ≤ total (has_come conn peer) all → (one : Arrived) × (find (has_conn conn) all ≡ Some one)
some_come conn peer [] h = absurd (omega arith)
some_come conn peer (x ∷ all) h = by_test (x.conn == conn) refl h (some_come conn peer all) where
  none : (b : Bool) (m : ℕ) → 1 ≤ cond b 0 0 + m → 1 ≤ m
  none true m h = omega arith
  none false m h = omega arith

  by_test : (b : Bool) → (x.conn == conn) ≡ b → 1 ≤ cond (same_node x.peer peer) (once b) 0 + total (has_come conn peer) all → (1 ≤ total (has_come conn peer) all → (one : Arrived) × (find (has_conn conn) all ≡ Some one)) → (one : Arrived) × (cond b (Some x) (find (has_conn conn) all) ≡ Some one)
  by_test true e h more = (x, refl)
  by_test false e h more = more (none (same_node x.peer peer) (total (has_come conn peer) all) h)

-- ---- where node and host agree

module _ (host : HostState) (end : ℕ) (all : List Arrived) (m : Meets host end all) where
  -- a connection that has arrived was drawn before
  pub drawn_before : (conn : ℕ) (one : Arrived) → find (has_conn conn) all ≡ Some one → IsOfArrived (arrived_at host end) conn
  drawn_before conn one e = m.0.drawn conn one.peer (subst (λ (n : ℕ). 1 ≤ n) (sym (m.1 conn one.peer)) (come_one conn all one e))

  not_drawn : IsOfArrived (arrived_at host end) (next_arrival host end) → ⊥
  not_drawn d = let less = d.1 in let is = d.2 in omega arith

  -- the next isn't there
  pub next_absent : find (has_conn (next_arrival host end)) all ≡ None
  next_absent = by_found (find (has_conn (next_arrival host end)) all) refl where
    by_found : (o : Option Arrived) → find (has_conn (next_arrival host end)) all ≡ o → o ≡ None
    by_found None e = refl
    by_found (Some one) e = absurd (not_drawn (drawn_before (next_arrival host end) one e))

  pub next_free : (peer : Address) → id_of (made_at host end peer) (next_arrival host end) ≡ None
  next_free peer = by_id (id_of (made_at host end peer) (next_arrival host end)) refl where
    by_id : (o : Option ℕ) → id_of (made_at host end peer) (next_arrival host end) ≡ o → o ≡ None
    by_id None e = refl
    by_id (Some id) e =
        let g = given (made_at host end peer) (next_arrival host end) id e in
        absurd (not_drawn (m.0.drawn (next_arrival host end) peer (counts_one (made_at host end peer) (next_arrival host end) g.place g.one g.at (ap (λ (b : Bool). b && (g.one.number == next_arrival host end)) g.opens ∙ ap (λ (n : ℕ). n == next_arrival host end) g.number ∙ number_same (next_arrival host end)))))

  -- one that arrived from two peers arrived from one
  pub one_peer : (conn : ℕ) (peer other : Address) (one two : Arrived) → find (has_conn conn) all ≡ Some one → one.peer ≡ peer → 1 ≤ made_so host end conn other → peer ≡ other
  one_peer conn peer other one two e is h = sym is ∙ m.0.one_link conn one.peer other (subst (λ (n : ℕ). 1 ≤ n) (sym (m.1 conn one.peer)) (come_one conn all one e)) h

-- the place of an id, and its connection
record IsAtId (table : List Connection) (id conn : ℕ) : Type 0 where
  place : ℕ
  is : id ≡ FIRST_ID + place
  one : Connection
  at : slice_get table place ≡ Some one
  opens : is_open_as conn one ≡ true

at_id : (table : List Connection) (id conn : ℕ) → conn_of table id ≡ Ok conn → IsAtId table id conn
unfolding conn_of
at_id table id conn e = by_low (nat_lt id FIRST_ID) refl e where
  by_open : (one : Connection) (b : Bool) → one.is_open ≡ b → ◌≡◌ {A = Result ℕ LightError} (cond b (Ok one.number) (Err lights.NotOpen)) (Ok conn) → is_open_as conn one ≡ true
  by_open one true o e = let is : one.number ≡ conn = cc in ap (λ (b : Bool). b && (one.number == conn)) o ∙ ap (λ (n : ℕ). n == conn) is ∙ number_same conn
  by_open one false o e = absurd cc

  back : nat_lt id FIRST_ID ≡ false → id ≡ FIRST_ID + (id - FIRST_ID)
  back h = grind (arith, nat_tests)

  by_found : (o : Option Connection) → slice_get table (id - FIRST_ID) ≡ o → open_number o ≡ Ok conn → nat_lt id FIRST_ID ≡ false → IsAtId table id conn
  by_found None f e low = absurd cc
  by_found (Some one) f e low = record { place = id - FIRST_ID; is = back low; one = one; at = f; opens = by_open one one.is_open refl e }

  by_low : (b : Bool) → nat_lt id FIRST_ID ≡ b → cond b (Err lights.NotOpen) (open_number (slice_get table (id - FIRST_ID))) ≡ Ok conn → IsAtId table id conn
  by_low true h e = absurd cc
  by_low false h e = by_found (slice_get table (id - FIRST_ID)) refl e h

pub conn_within : (table : List Connection) (id conn : ℕ) → conn_of table id ≡ Ok conn → id < FIRST_ID + length table
conn_within table id conn e =
    let a = at_id table id conn e in
    let less = got_within table a.place a.one a.at in
    let is = a.is in
    omega arith

-- the connection that an id has is open under that id, where it is open once
pub id_again : (table : List Connection) (id conn : ℕ) → open_in table conn ≤ 1 → conn_of table id ≡ Ok conn → id_of table conn ≡ Some id
id_again table id conn once_at e = by_id (id_of table conn) refl where
  a : IsAtId table id conn
  a = at_id table id conn e

  by_id : (o : Option ℕ) → id_of table conn ≡ o → id_of table conn ≡ Some id
  by_id None f = absurd (absent table conn id f e)
  by_id (Some other) f =
      let b = at_id table other conn (found table conn other f) in
      let same : b.place ≡ a.place = counts_two table conn b.place a.place b.one a.one once_at b.at b.opens a.at a.opens in
      f ∙ ap (λ (k : ℕ). Some k) (b.is ∙ ap (λ (k : ℕ). FIRST_ID + k) same ∙ sym a.is)

-- a payload came on a connection that the node keeps, from that peer
pub record IsKept (host : HostState) (end : ℕ) (peer : Address) (all : List Arrived) (id conn : ℕ) : Type 0 where
  pub one : Arrived
  pub there : find (has_conn conn) all ≡ Some one
  pub conn_is : one.conn ≡ conn
  pub peer_is : one.peer ≡ peer
  pub given : id_of (made_at host end peer) conn ≡ Some id

found_conn : (conn : ℕ) (all : List Arrived) (one : Arrived) → find (has_conn conn) all ≡ Some one → one.conn ≡ conn
found_conn conn [] one e = absurd cc
found_conn conn (x ∷ all) one e = by_test (x.conn == conn) refl e (found_conn conn all one) where
  by_test : (b : Bool) → (x.conn == conn) ≡ b → cond b (Some x) (find (has_conn conn) all) ≡ Some one → (find (has_conn conn) all ≡ Some one → one.conn ≡ conn) → one.conn ≡ conn
  by_test true h e more = let is : x ≡ one = cc in ap (λ (o : Arrived). o.conn) (sym is) ∙ number_is x.conn conn h
  by_test false h e more = more e

pub kept_there : (host : HostState) (end : ℕ) (peer : Address) (all : List Arrived) (id conn : ℕ) → Meets host end all → conn_of (made_at host end peer) id ≡ Ok conn → IsKept host end peer all id conn
kept_there host end peer all id conn m e = record { one = it.0; there = it.1; conn_is = found_conn conn all it.0 it.1; peer_is = m.0.one_link conn it.0.peer peer (subst (λ (n : ℕ). 1 ≤ n) (sym (m.1 conn it.0.peer)) (come_one conn all it.0 it.1)) open_once; given = id_again (made_at host end peer) id conn (m.0.alone conn peer) e } where
  a : IsAtId (made_at host end peer) id conn
  a = at_id (made_at host end peer) id conn e

  open_once : 1 ≤ made_so host end conn peer
  open_once = counts_one (made_at host end peer) conn a.place a.one a.at a.opens

  it : (one : Arrived) × (find (has_conn conn) all ≡ Some one)
  it = some_come conn peer all (subst (λ (n : ℕ). 1 ≤ n) (m.1 conn peer) open_once)

-- one that is there from a peer has the host's link with that peer
pub peer_there : (host : HostState) (end : ℕ) (peer : Address) (all : List Arrived) (conn : ℕ) (one : Arrived) → Meets host end all → find (has_conn conn) all ≡ Some one → same_node one.peer peer ≡ true → 1 ≤ made_so host end conn peer
peer_there host end peer all conn one m e h = subst (λ (p : Address). 1 ≤ made_so host end conn p) (node_is one.peer peer h) (subst (λ (n : ℕ). 1 ≤ n) (sym (m.1 conn one.peer)) (come_one conn all one e))

-- ---- a connection is created, and closed

pub created_is : (table new : List Connection) (id number : ℕ) → created_of table id number ≡ Ok new → new ≡ table ++ opened number ∷ []
unfolding created_of
created_is table new id number e = by_tests (nat_le MOST_IDS (length table)) (id == FIRST_ID + length table) e where
  by_tests : (a b : Bool) → ◌≡◌ {A = Result (List Connection) LightError} (cond a (Err lights.Spent) (cond b (Ok (table ++ opened number ∷ [])) (Err lights.NotNext))) (Ok new) → new ≡ table ++ opened number ∷ []
  by_tests true b e = absurd cc
  by_tests false false e = absurd cc
  by_tests false true e = let is : table ++ opened number ∷ [] ≡ new = cc in sym is

position_set : {A : Type 0} (test : A → Bool) (xs : List A) (k : ℕ) (old new : A) → slice_get xs k ≡ Some old → test old ≡ false → test new ≡ false → position test (slice_set xs k new) ≡ position test xs
position_set test [] k old new e f g = absurd cc
position_set {A = A} test (x ∷ xs) zero old new e f g =
    let is : x ≡ old = cc in
    position_cons test new xs ∙ ap (λ (b : Bool). cond b (Some 0) (option_map suc (position test xs))) (g ∙ sym (ap test is ∙ f)) ∙ sym (position_cons test x xs)
position_set test (x ∷ xs) (suc k) old new e f g = position_cons test x (slice_set xs k new) ∙ ap (λ (o : Option ℕ). cond (test x) (Some 0) (option_map suc o)) (position_set test xs k old new e f g) ∙ sym (position_cons test x xs)

set_long : {A : Type 0} (xs : List A) (k : ℕ) (new : A) → length (slice_set xs k new) ≡ length xs
set_long [] k new = refl
set_long (x ∷ xs) zero new = refl
set_long (x ∷ xs) (suc k) new = ap suc (set_long xs k new)

-- the others stand as they did
pub record IsClosed (table new : List Connection) (conn : ℕ) : Type 0 where
  pub others : (other : ℕ) → (other ≡ conn → ⊥) → id_of new other ≡ id_of table other
  pub long : length new ≡ length table

pub closed_is : (table new : List Connection) (id conn : ℕ) → closed_of table id ≡ Ok (conn, new) → IsClosed table new conn
unfolding closed_of id_of
closed_is table new id conn e = by_conn (conn_of table id) refl e where
  by_conn : (r : Result ℕ LightError) → conn_of table id ≡ r → closed_by table id r ≡ Ok (conn, new) → IsClosed table new conn
  by_conn (Err x) f e = absurd cc
  by_conn (Ok number) f e = subst (λ (x : ℕ × List Connection). IsClosed table x.1 x.0) same (record { others = others; long = set_long table (id - FIRST_ID) (closed number) }) where
    same : ◌≡◌ {A = ℕ × List Connection} (number, slice_set table (id - FIRST_ID) (closed number)) (conn, new)
    same = cc

    a : IsAtId table id number
    a = at_id table id number f

    place : id - FIRST_ID ≡ a.place
    place = let is = a.is in omega arith

    differs : (other : ℕ) → (other ≡ number → ⊥) → is_open_as other a.one ≡ false
    differs other d = by_test (a.one.number == other) refl where
      parts : (a.one.is_open ≡ true) × ((a.one.number == number) ≡ true)
      parts = and_parts a.one.is_open (a.one.number == number) a.opens

      by_test : (b : Bool) → (a.one.number == other) ≡ b → (a.one.is_open && b) ≡ false
      by_test false h = ap (λ (o : Bool). o && false) parts.0
      by_test true h = absurd (d (sym (number_is a.one.number other h) ∙ number_is a.one.number number parts.1))

    others : (other : ℕ) → (other ≡ number → ⊥) → option_map (λ place. FIRST_ID + place) (place_of (slice_set table (id - FIRST_ID) (closed number)) other) ≡ option_map (λ place. FIRST_ID + place) (place_of table other)
    others other d = ap (option_map (λ place. FIRST_ID + place)) (position_set (is_open_as other) table (id - FIRST_ID) a.one (closed number) (ap (slice_get table) place ∙ a.at) (differs other d) refl)
