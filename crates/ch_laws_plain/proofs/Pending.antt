-- A connection of a peer whose opening isn't read yet: how it comes, and how it is bound.
use Rattle.std.proofs.Common.{◌≡◌, ◌≤◌, ℕ, ◌+◌, ◌-◌, nat_lt, Bool, true, false, cond, ◌&&◌, List, [], ◌∷◌, ◌++◌, length, map, Ok, Err, refl, sym, ap, ◌∙◌, arith, ◌==◌}
use Rattle.std.proofs.lemmas.Bool.{and_parts}
use Rattle.std.proofs.lemmas.Bool.Decides.{nat_tests}
use Rattle.std.proofs.lemmas.List.Quantifiers.{position-Some}
use Rattle.std.proofs.lemmas.Option.{slice_get-get_or}
use Rattle.std.specs.Prelude.{get_or, nat_le, option_map, find, slice_get, Option, Some, None, Result}
use Rattle.ch_base.specs.declared.address.Address.{Address}
use Rattle.ch_light.specs.declared.TheConstants.{FIRST_ID, MOST_IDS}
use Rattle.ch_light.specs.declared.Connection.{Connection}
use Rattle.ch_light.specs.declared.error.LightError.{LightError}
use Rattle.ch_light.specs.declared.error.LightError.TheVariants as lights
use Rattle.ch_light.specs.Ids.{opened, closed, is_open_as, place_of, id_of, created_of, open_number, conn_of}
use Rattle.ch_watch.specs.Same.{same_node}
use Rattle.ch_model.specs.NodeArrivals.{rebound}
use Rattle.ch_model.specs.NodeState.{Bound, Unread, Void, FromNode, ToNames, ToTarget, Arrived}
use Rattle.ch_laws_log.proofs.Homes.{node_self}
use Rattle.ch_laws_log.proofs.Stored.{number_is}
use Rattle.ch_laws_connections.specs.Tables.{open_in}
use Rattle.ch_laws_plain_nodes.specs.Plain.{IsBound}
use Rattle.ch_laws_plain.specs.Plain.{is_unread, is_unread_of, unread_from, id_for}
use Rattle.ch_laws_plain.proofs.Opens.{last_id}

-- ---- it comes

-- what is found in none of the first is the last
found_last : {A : Type 0} (test : A → Bool) (xs : List A) (x : A) → find test xs ≡ None → test x ≡ true → find test (xs ++ x ∷ []) ≡ Some x
found_last test [] x none e = ap (λ b. cond b (Some x) None) e
found_last test (y ∷ xs) x none e = by_test (test y) none (λ n. found_last test xs x n e) where
  by_test : (b : Bool) → cond b (Some y) (find test xs) ≡ None → (find test xs ≡ None → find test (xs ++ x ∷ []) ≡ Some x) → cond b (Some y) (find test (xs ++ x ∷ [])) ≡ Some x
  by_test true none more = absurd cc
  by_test false none more = more none

created_is : (table new : List Connection) (id number : ℕ) → created_of table id number ≡ Ok new → (id ≡ FIRST_ID + length table) × (new ≡ table ++ opened number ∷ [])
unfolding created_of
created_is table new id number e = by_tests (nat_le MOST_IDS (length table)) (id == FIRST_ID + length table) refl e where
  by_tests : (a b : Bool) → (id == FIRST_ID + length table) ≡ b → ◌≡◌ {A = Result (List Connection) LightError} (cond a (Err lights.Spent) (cond b (Ok (table ++ opened number ∷ [])) (Err lights.NotNext))) (Ok new) → (id ≡ FIRST_ID + length table) × (new ≡ table ++ opened number ∷ [])
  by_tests true b g e = absurd cc
  by_tests false false g e = absurd cc
  by_tests false true g e = let is : table ++ opened number ∷ [] ≡ new = cc in (number_is id (FIRST_ID + length table) g, sym is)

-- where no opening of the peer is unread, that of a connection that comes is, and its id is the one that was created
pub comes_unread : (table new : List Connection) (id number : ℕ) (peer : Address) (arrived : List Arrived) → created_of table id number ≡ Ok new → open_in table number ≡ 0 → find (is_unread_of peer) arrived ≡ None
    → id_for new (find (is_unread_of peer) (arrived ++ record { conn = number; peer = peer; bound = Unread } ∷ [])) ≡ Some id
comes_unread table new id number peer arrived e free none =
    let is = created_is table new id number e in
    ap (id_for new) (found_last (is_unread_of peer) arrived (record { conn = number; peer = peer; bound = Unread }) none (node_self peer)) ∙ ap (λ (t : List Connection). id_of t number) is.1 ∙ last_id table number free ∙ ap (λ (n : ℕ). Some n) (sym is.0)

-- another peer's is as it was
found_before : {A : Type 0} (test : A → Bool) (xs : List A) (x : A) → test x ≡ false → find test (xs ++ x ∷ []) ≡ find test xs
found_before test [] x e = ap (λ b. cond b (Some x) None) e
found_before test (y ∷ xs) x e = ap (λ o. cond (test y) (Some y) o) (found_before test xs x e)

pub others_as_they_were : (number : ℕ) (peer other : Address) (arrived : List Arrived) → same_node peer other ≡ false → find (is_unread_of other) (arrived ++ record { conn = number; peer = peer; bound = Unread } ∷ []) ≡ find (is_unread_of other) arrived
others_as_they_were number peer other arrived e = found_before (is_unread_of other) arrived (record { conn = number; peer = peer; bound = Unread }) e

-- ---- its number and its id

-- the connection that has the id is the one that is open under it
pub one_number : (table : List Connection) (conn number id : ℕ) → id_of table conn ≡ Some id → conn_of table id ≡ Ok number → number ≡ conn
unfolding id_of conn_of
one_number table conn number id e f = by_place (place_of table conn) refl e where
  back : (place : ℕ) → (FIRST_ID + place) - FIRST_ID ≡ place
  back place = omega arith

  not_below : (place : ℕ) → nat_lt (FIRST_ID + place) FIRST_ID ≡ false
  not_below place = grind (arith, nat_tests)

  by_open : (c : Connection) (b : Bool) → ◌≡◌ {A = Result ℕ LightError} (cond b (Ok c.number) (Err lights.NotOpen)) (Ok number) → c.number ≡ number
  by_open c true h = cc
  by_open c false h = absurd cc

  by_place : (o : Option ℕ) → place_of table conn ≡ o → option_map (λ place. FIRST_ID + place) o ≡ Some id → number ≡ conn
  by_place None h g = absurd cc
  by_place (Some place) h g =
      let is : FIRST_ID + place ≡ id = cc in
      let found = position-Some (is_open_as conn) table place (closed conn) h in
      let there : Connection = get_or table place (closed conn) in
      let at : slice_get table (id - FIRST_ID) ≡ Some there = ap (λ (n : ℕ). slice_get table (n - FIRST_ID)) (sym is) ∙ ap (slice_get table) (back place) ∙ slice_get-get_or table place (closed conn) found.0 in
      let low : nat_lt id FIRST_ID ≡ false = ap (λ (n : ℕ). nat_lt n FIRST_ID) (sym is) ∙ not_below place in
      sym (by_open there there.is_open (sym (ap (λ b. cond b (Err lights.NotOpen) (open_number (slice_get table (id - FIRST_ID)))) low ∙ ap open_number at) ∙ f)) ∙ number_is there.number conn (and_parts there.is_open (there.number == conn) found.1).1

-- ---- it is bound

none_of : (peer : Address) (xs : List Arrived) → unread_from peer xs ≡ 0 → find (is_unread_of peer) xs ≡ None
none_of peer [] e = refl
none_of peer (x ∷ xs) e = by_test (is_unread_of peer x) e (none_of peer xs) where
  never : (n : ℕ) → 1 + n ≡ 0 → ⊥
  never n e = omega arith

  less : (n : ℕ) → 0 + n ≡ 0 → n ≡ 0
  less n e = omega arith

  by_test : (b : Bool) → cond b 1 0 + unread_from peer xs ≡ 0 → (unread_from peer xs ≡ 0 → find (is_unread_of peer) xs ≡ None) → cond b (Some x) (find (is_unread_of peer) xs) ≡ None
  by_test true e more = absurd (never (unread_from peer xs) e)
  by_test false e more = more (less (unread_from peer xs) e)

-- a connection that is bound isn't unread, and one that is bound anew was there before
rebound_none : (conn : ℕ) (bound : Bound) (peer : Address) (xs : List Arrived) → is_unread bound ≡ false → find (is_unread_of peer) xs ≡ None → find (is_unread_of peer) (map (rebound conn bound) xs) ≡ None
rebound_none conn bound peer [] read none = refl
rebound_none conn bound peer (x ∷ xs) read none = by_found (is_unread_of peer x) refl none (rebound_none conn bound peer xs read) where
  head : (b : Bool) → (x.conn == conn) ≡ b → is_unread_of peer x ≡ false → is_unread_of peer (cond b (record x { bound = bound }) x) ≡ false
  head true h e = ap (λ b. b && same_node x.peer peer) read
  head false h e = e

  by_found : (b : Bool) → is_unread_of peer x ≡ b → cond b (Some x) (find (is_unread_of peer) xs) ≡ None → (find (is_unread_of peer) xs ≡ None → find (is_unread_of peer) (map (rebound conn bound) xs) ≡ None) → cond (is_unread_of peer (rebound conn bound x)) (Some (rebound conn bound x)) (find (is_unread_of peer) (map (rebound conn bound) xs)) ≡ None
  by_found true e none more = absurd cc
  by_found false e none more = ap (λ b. cond b (Some (rebound conn bound x)) (find (is_unread_of peer) (map (rebound conn bound) xs))) (head (x.conn == conn) refl e) ∙ more none

-- the one connection of the peer whose opening was unread is bound: none is unread then
pub bound_then : (conn : ℕ) (bound : Bound) (peer : Address) (xs : List Arrived) (arrived : Arrived) → is_unread bound ≡ false → find (is_unread_of peer) xs ≡ Some arrived → arrived.conn ≡ conn → unread_from peer xs ≤ 1 → find (is_unread_of peer) (map (rebound conn bound) xs) ≡ None
bound_then conn bound peer [] arrived read found is one = absurd cc
bound_then conn bound peer (x ∷ xs) arrived read found is one = by_found (is_unread_of peer x) refl found one (λ f o. bound_then conn bound peer xs arrived read f is o) where
  number : (n : ℕ) → (n == n) ≡ true
  number n = grind (arith, nat_tests)

  fewer : (n : ℕ) → 1 + n ≤ 1 → n ≡ 0
  fewer n l = omega arith

  less : (n : ℕ) → 0 + n ≤ 1 → n ≤ 1
  less n l = omega arith

  -- the first is the one
  here : x ≡ arrived → is_unread_of peer (rebound conn bound x) ≡ false
  here e = ap (λ b. is_unread_of peer (cond b (record x { bound = bound }) x)) (ap (λ (n : ℕ). n == conn) (ap (λ (a : Arrived). a.conn) e ∙ is) ∙ number conn) ∙ ap (λ b. b && same_node x.peer peer) read

  later : (b : Bool) → (x.conn == conn) ≡ b → is_unread_of peer x ≡ false → is_unread_of peer (cond b (record x { bound = bound }) x) ≡ false
  later true h e = ap (λ b. b && same_node x.peer peer) read
  later false h e = e

  by_found : (b : Bool) → is_unread_of peer x ≡ b → cond b (Some x) (find (is_unread_of peer) xs) ≡ Some arrived → cond b 1 0 + unread_from peer xs ≤ 1 → (find (is_unread_of peer) xs ≡ Some arrived → unread_from peer xs ≤ 1 → find (is_unread_of peer) (map (rebound conn bound) xs) ≡ None) → cond (is_unread_of peer (rebound conn bound x)) (Some (rebound conn bound x)) (find (is_unread_of peer) (map (rebound conn bound) xs)) ≡ None
  by_found true e found one more = let same : x ≡ arrived = cc in
      ap (λ b. cond b (Some (rebound conn bound x)) (find (is_unread_of peer) (map (rebound conn bound) xs))) (here same) ∙ rebound_none conn bound peer xs read (none_of peer xs (fewer (unread_from peer xs) one))
  by_found false e found one more = ap (λ b. cond b (Some (rebound conn bound x)) (find (is_unread_of peer) (map (rebound conn bound) xs))) (later (x.conn == conn) refl e) ∙ more found (less (unread_from peer xs) one)

-- what a connection is bound to by its opening isn't unread
pub is_read : (bound : Bound) → IsBound bound → is_unread bound ≡ false
is_read Void b = refl
is_read (ToTarget from to) b = refl
is_read Unread b = absurd b
is_read FromNode b = refl
is_read (ToNames from) b = refl
