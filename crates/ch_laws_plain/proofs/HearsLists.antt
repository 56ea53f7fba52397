-- The connections that have arrived at a node, as they are heard of and bound: which of a peer has an opening that isn't read yet.
use Rattle.std.proofs.Common.{◌≡◌, ◌≤◌, ℕ, zero, suc, ◌+◌, ◌-◌, nat_lt, Bool, true, false, cond, not, ◌&&◌, List, [], ◌∷◌, map, filter, Ok, Err, refl, sym, ap, ◌∙◌, subst, arith, ◌==◌}
use Rattle.std.proofs.lemmas.Bool.{and_parts}
use Rattle.std.specs.Prelude.{find, slice_get, slice_set, Some, None, Result}
use Rattle.ch_base.specs.declared.address.Address.{Address}
use Rattle.ch_light.specs.declared.Connection.{Connection}
use Rattle.ch_light.specs.declared.TheConstants.{FIRST_ID}
use Rattle.ch_light.specs.declared.error.LightError.{LightError}
use Rattle.ch_light.specs.declared.error.LightError.TheVariants as lights
use Rattle.ch_light.specs.Ids.{closed, is_open_as, open_number, conn_of, closed_by, closed_of}
use Rattle.ch_watch.specs.Same.{same_node}
use Rattle.ch_model.specs.CellSteps.{is_at, store_node}
use Rattle.ch_model.specs.NodeArrivals.{rebound}
use Rattle.ch_model.specs.NodeState.{NodeState, Bound, Unread, Void, FromNode, ToNames, ToTarget, Arrived}
use Rattle.ch_laws_log.proofs.Homes.{node_self}
use Rattle.ch_laws_log.proofs.Keys.{node_is}
use Rattle.ch_laws_log.proofs.Stored.{number_is, number_same}
use Rattle.ch_laws_connections.specs.Tables.{open_in}
use Rattle.ch_laws_connections.specs.Senders.{once, total}
use Rattle.ch_laws_connections.specs.Arrivals.{has_come}
use Rattle.ch_laws_plain_nodes.specs.Plain.{IsBound, IsPlainlyBound, AllPlainlyBound}
use Rattle.ch_laws_plain.specs.Plain.{is_unread, is_unread_of}

-- ---- what is found

pub passes : {A : Type 0} (test : A → Bool) (xs : List A) (x : A) → find test xs ≡ Some x → test x ≡ true
passes test [] x e = absurd cc
passes test (y ∷ xs) x e = by_test (test y) refl e (passes test xs x) where
  by_test : (b : Bool) → test y ≡ b → cond b (Some y) (find test xs) ≡ Some x → (find test xs ≡ Some x → test x ≡ true) → test x ≡ true
  by_test true h e more = let same : y ≡ x = cc in ap test (sym same) ∙ h
  by_test false h e more = more e

-- where none passes one test, what passes another doesn't pass the first
pub fails : {A : Type 0} (one two : A → Bool) (xs : List A) (x : A) → find one xs ≡ None → find two xs ≡ Some x → one x ≡ false
fails one two [] x none e = absurd cc
fails one two (y ∷ xs) x none e = by_tests (one y) refl (two y) none e (fails one two xs x) where
  by_tests : (a : Bool) → one y ≡ a → (b : Bool) → cond a (Some y) (find one xs) ≡ None → cond b (Some y) (find two xs) ≡ Some x → (find one xs ≡ None → find two xs ≡ Some x → one x ≡ false) → one x ≡ false
  by_tests true h b none e more = absurd cc
  by_tests false h true none e more = let same : y ≡ x = cc in ap one (sym same) ∙ h
  by_tests false h false none e more = more none e

unread_bound : (bound : Bound) → is_unread bound ≡ true → bound ≡ Unread
unread_bound Unread e = refl
unread_bound Void e = absurd cc
unread_bound FromNode e = absurd cc
unread_bound (ToNames from) e = absurd cc
unread_bound (ToTarget from to) e = absurd cc

pub unread_is : (peer : Address) (xs : List Arrived) (a : Arrived) → find (is_unread_of peer) xs ≡ Some a → (a.bound ≡ Unread) × (a.peer ≡ peer)
unread_is peer xs a e = let parts = and_parts (is_unread a.bound) (same_node a.peer peer) (passes (is_unread_of peer) xs a e) in (unread_bound a.bound parts.0, node_is a.peer peer parts.1)

-- ---- how often a connection has come

one_more : (a b : ℕ) → a ≡ 1 → 1 ≤ a + b
one_more a b e = omega arith

still_one : (a b : ℕ) → 1 ≤ b → 1 ≤ a + b
still_one a b l = omega arith

-- what is found has come, where it counts as one
found_counts : (test : Arrived → Bool) (f : Arrived → ℕ) (xs : List Arrived) (a : Arrived) → find test xs ≡ Some a → f a ≡ 1 → 1 ≤ total f xs
found_counts test f [] a e one = absurd cc
found_counts test f (x ∷ xs) a e one = by_test (test x) e (λ g. found_counts test f xs a g one) where
  by_test : (b : Bool) → cond b (Some x) (find test xs) ≡ Some a → (find test xs ≡ Some a → 1 ≤ total f xs) → 1 ≤ f x + total f xs
  by_test true e more = let same : x ≡ a = cc in one_more (f x) (total f xs) (ap f same ∙ one)
  by_test false e more = still_one (f x) (total f xs) (more e)

come_self : (a : Arrived) → has_come a.conn a.peer a ≡ 1
come_self a = ap (λ b. cond b (once (a.conn == a.conn)) 0) (node_self a.peer) ∙ ap once (number_same a.conn)

pub has_come_there : (test : Arrived → Bool) (xs : List Arrived) (a : Arrived) → find test xs ≡ Some a → 1 ≤ total (has_come a.conn a.peer) xs
has_come_there test xs a e = found_counts test (has_come a.conn a.peer) xs a e (come_self a)

no_has : (b : Bool) → cond {A = ℕ} b 0 0 ≡ 0
no_has true = refl
no_has false = refl

-- another connection isn't that one
other_conn : (conn : ℕ) (peer : Address) (x : Arrived) → (x.conn == conn) ≡ false → has_come conn peer x ≡ 0
other_conn conn peer x h = ap (λ b. cond (same_node x.peer peer) (once b) 0) h ∙ no_has (same_node x.peer peer)

-- where none of the number is found none has come
pub not_come : (conn : ℕ) (peer : Address) (xs : List Arrived) → find (λ (known : Arrived). known.conn == conn) xs ≡ None → total (has_come conn peer) xs ≡ 0
not_come conn peer [] e = refl
not_come conn peer (x ∷ xs) e = by_test (x.conn == conn) refl e (not_come conn peer xs) where
  both : (a b : ℕ) → a ≡ 0 → b ≡ 0 → a + b ≡ 0
  both a b e f = omega arith

  by_test : (b : Bool) → (x.conn == conn) ≡ b → cond b (Some x) (find (λ (known : Arrived). known.conn == conn) xs) ≡ None → (find (λ (known : Arrived). known.conn == conn) xs ≡ None → total (has_come conn peer) xs ≡ 0) → has_come conn peer x + total (has_come conn peer) xs ≡ 0
  by_test true h e more = absurd cc
  by_test false h e more = both (has_come conn peer x) (total (has_come conn peer) xs) (other_conn conn peer x h) (more e)

-- ---- one connection of a number

first_zero : (a b : ℕ) → a + b ≡ 0 → a ≡ 0
first_zero a b e = omega arith

second_zero : (a b : ℕ) → a + b ≡ 0 → b ≡ 0
second_zero a b e = omega arith

-- a connection of the number that hasn't come from the peer is another's
of_another : (conn : ℕ) (peer : Address) (x : Arrived) → (x.conn == conn) ≡ true → has_come conn peer x ≡ 0 → same_node x.peer peer ≡ false
of_another conn peer x h e = by_test (same_node x.peer peer) refl (ap (λ b. cond (same_node x.peer peer) (once b) 0) (sym h) ∙ e) where
  by_test : (b : Bool) → same_node x.peer peer ≡ b → cond b (once true) 0 ≡ 0 → b ≡ false
  by_test true g e = absurd cc
  by_test false g e = refl

unread_nowhere : (b : Bool) → (b && false) ≡ false
unread_nowhere true = refl
unread_nowhere false = refl

not_unread : (peer : Address) (x : Arrived) → same_node x.peer peer ≡ false → is_unread_of peer x ≡ false
not_unread peer x e = ap (λ b. is_unread x.bound && b) e ∙ unread_nowhere (is_unread x.bound)

-- where none of the number came from a peer, its openings are as they were as that connection goes
pub stay_unread : (conn : ℕ) (peer : Address) (xs : List Arrived) → total (has_come conn peer) xs ≡ 0 → find (is_unread_of peer) (filter (λ (one : Arrived). not (one.conn == conn)) xs) ≡ find (is_unread_of peer) xs
stay_unread conn peer [] e = refl
stay_unread conn peer (x ∷ xs) e = by_test (x.conn == conn) refl (stay_unread conn peer xs (second_zero (has_come conn peer x) (total (has_come conn peer) xs) e)) where
  left : List Arrived
  left = filter (λ (one : Arrived). not (one.conn == conn)) xs

  by_test : (b : Bool) → (x.conn == conn) ≡ b → find (is_unread_of peer) left ≡ find (is_unread_of peer) xs → find (is_unread_of peer) (cond (not b) (x ∷ left) left) ≡ cond (is_unread_of peer x) (Some x) (find (is_unread_of peer) xs)
  by_test true h more = more ∙ sym (ap (λ b. cond b (Some x) (find (is_unread_of peer) xs)) (not_unread peer x (of_another conn peer x h (first_zero (has_come conn peer x) (total (has_come conn peer) xs) e))))
  by_test false h more = ap (λ o. cond (is_unread_of peer x) (Some x) o) more

-- and as it is bound
pub bound_unread : (conn : ℕ) (bound : Bound) (peer : Address) (xs : List Arrived) → total (has_come conn peer) xs ≡ 0 → find (is_unread_of peer) (map (rebound conn bound) xs) ≡ find (is_unread_of peer) xs
bound_unread conn bound peer [] e = refl
bound_unread conn bound peer (x ∷ xs) e = by_test (x.conn == conn) refl (bound_unread conn bound peer xs (second_zero (has_come conn peer x) (total (has_come conn peer) xs) e)) where
  next : List Arrived
  next = map (rebound conn bound) xs

  by_test : (b : Bool) → (x.conn == conn) ≡ b → find (is_unread_of peer) next ≡ find (is_unread_of peer) xs → find (is_unread_of peer) (cond b (record x { bound = bound }) x ∷ next) ≡ cond (is_unread_of peer x) (Some x) (find (is_unread_of peer) xs)
  by_test true h more =
      let apart = of_another conn peer x h (first_zero (has_come conn peer x) (total (has_come conn peer) xs) e) in
      ap (λ b. cond b (Some (record x { bound = bound })) (find (is_unread_of peer) next)) (not_unread peer (record x { bound = bound }) apart) ∙ more ∙ sym (ap (λ b. cond b (Some x) (find (is_unread_of peer) xs)) (not_unread peer x apart))
  by_test false h more = ap (λ o. cond (is_unread_of peer x) (Some x) o) more

-- the one of the number that came from the peer once is the one whose opening is unread
pub one_found : (conn : ℕ) (peer : Address) (xs : List Arrived) (a b : Arrived) → find (is_unread_of peer) xs ≡ Some a → a.conn ≡ conn → find (λ (known : Arrived). known.conn == conn) xs ≡ Some b → b.peer ≡ peer → total (has_come conn peer) xs ≤ 1 → b ≡ a
one_found conn peer [] a b e is f of once_there = absurd cc
one_found conn peer (x ∷ xs) a b e is f of once_there = by_tests (is_unread_of peer x) (x.conn == conn) refl e f (λ e f. one_found conn peer xs a b e is f of (less (has_come conn peer x) (total (has_come conn peer) xs) once_there)) where
  less : (a b : ℕ) → a + b ≤ 1 → b ≤ 1
  less a b l = omega arith

  twice : (a b : ℕ) → a + b ≤ 1 → 1 ≤ a → 1 ≤ b → ⊥
  twice a b l m n = omega arith

  one_is : (n : ℕ) → n ≡ 1 → 1 ≤ n
  one_is n e = omega arith

  here : x ≡ b → has_come conn peer x ≡ 1
  here same = ap (λ (y : Arrived). has_come conn peer y) same ∙ ap (λ (q : Address). has_come conn q b) (sym of) ∙ ap (λ (n : ℕ). has_come n b.peer b) (sym (number_is b.conn conn (passes (λ (known : Arrived). known.conn == conn) (x ∷ xs) b f))) ∙ come_self b

  there : find (is_unread_of peer) xs ≡ Some a → 1 ≤ total (has_come conn peer) xs
  there g = subst (λ (q : Address). 1 ≤ total (has_come conn q) xs) (unread_is peer xs a g).1 (subst (λ (n : ℕ). 1 ≤ total (has_come n a.peer) xs) is (has_come_there (is_unread_of peer) xs a g))

  by_tests : (p q : Bool) → (x.conn == conn) ≡ q → cond p (Some x) (find (is_unread_of peer) xs) ≡ Some a → cond q (Some x) (find (λ (known : Arrived). known.conn == conn) xs) ≡ Some b
      → (find (is_unread_of peer) xs ≡ Some a → find (λ (known : Arrived). known.conn == conn) xs ≡ Some b → b ≡ a) → b ≡ a
  by_tests true true h e f more = cc
  by_tests true false h e f more = let same : x ≡ a = cc in let no : (x.conn == conn) ≡ true = ap (λ (n : ℕ). n == conn) (ap (λ (y : Arrived). y.conn) same ∙ is) ∙ number_same conn in absurd cc
  by_tests false true h e f more = let same : x ≡ b = cc in absurd (twice (has_come conn peer x) (total (has_come conn peer) xs) once_there (one_is (has_come conn peer x) (here same)) (there e))
  by_tests false false h e f more = more e f

-- what is found is plainly bound
pub found_plain : (test : Arrived → Bool) (xs : List Arrived) (a : Arrived) → AllPlainlyBound xs → find test xs ≡ Some a → IsPlainlyBound a.bound
found_plain test [] a p e = absurd cc
found_plain test (x ∷ xs) a p e = by_test (test x) e (found_plain test xs a p.1) where
  by_test : (b : Bool) → cond b (Some x) (find test xs) ≡ Some a → (find test xs ≡ Some a → IsPlainlyBound a.bound) → IsPlainlyBound a.bound
  by_test true e more = let same : x ≡ a = cc in subst (λ (y : Arrived). IsPlainlyBound y.bound) same p.0
  by_test false e more = more e

pub bound_so : (bound : Bound) → IsPlainlyBound bound → is_unread bound ≡ false → IsBound bound
bound_so Unread p e = absurd cc
bound_so Void p e = p
bound_so FromNode p e = p
bound_so (ToNames from) p e = p
bound_so (ToTarget from to) p e = p

-- ---- tables

open_there : (table : List Connection) (k n : ℕ) → open_number (slice_get table k) ≡ Ok n → 1 ≤ open_in table n
open_there [] k n e = absurd cc
open_there (c ∷ rest) zero n e = by_open c.is_open refl e where
  by_open : (b : Bool) → c.is_open ≡ b → ◌≡◌ {A = Result ℕ LightError} (cond b (Ok c.number) (Err lights.NotOpen)) (Ok n) → 1 ≤ cond (is_open_as n c) 1 0 + open_in rest n
  by_open true h e = let same : c.number ≡ n = cc in
      one_more (cond (is_open_as n c) 1 0) (open_in rest n) (ap (λ b. once (b && (c.number == n))) h ∙ ap (λ (m : ℕ). once (m == n)) same ∙ ap once (number_same n))
  by_open false h e = absurd cc
open_there (c ∷ rest) (suc k) n e = still_one (once (is_open_as n c)) (open_in rest n) (open_there rest k n e)

-- a connection that is found under an id is open
pub found_open : (table : List Connection) (id n : ℕ) → conn_of table id ≡ Ok n → 1 ≤ open_in table n
unfolding conn_of
found_open table id n e = by_low (nat_lt id FIRST_ID) e where
  by_low : (b : Bool) → cond b (Err lights.NotOpen) (open_number (slice_get table (id - FIRST_ID))) ≡ Ok n → 1 ≤ open_in table n
  by_low true e = absurd cc
  by_low false e = open_there table (id - FIRST_ID) n e

-- and so was one that is closed
pub closed_open : (table : List Connection) (id n : ℕ) (new : List Connection) → closed_of table id ≡ Ok (n, new) → 1 ≤ open_in table n
unfolding closed_of
closed_open table id n new e = by_number (conn_of table id) refl e where
  by_number : (r : Result ℕ LightError) → conn_of table id ≡ r → closed_by table id r ≡ Ok (n, new) → 1 ≤ open_in table n
  by_number (Err x) h e = absurd cc
  by_number (Ok m) h e = let same : (m, slice_set table (id - FIRST_ID) (closed m)) ≡ (n, new) = cc in found_open table id n (h ∙ ap (λ (d : ℕ × List Connection). Ok d.0) same)

-- ---- nodes by the number of their endpoint

-- a node that is stored in place of one is found there
pub found_stored : (end : ℕ) (next : NodeState) (known : ℕ × NodeState) (nodes : List (ℕ × NodeState)) → find (is_at end) nodes ≡ Some known → find (is_at end) (store_node end next nodes) ≡ Some (end, next)
found_stored end next known [] e = absurd cc
found_stored end next known (x ∷ nodes) e = by_test (is_at end x) refl e (found_stored end next known nodes) where
  by_test : (b : Bool) → is_at end x ≡ b → cond b (Some x) (find (is_at end) nodes) ≡ Some known → (find (is_at end) nodes ≡ Some known → find (is_at end) (store_node end next nodes) ≡ Some (end, next)) → find (is_at end) (cond b ((end, next) ∷ nodes) (x ∷ store_node end next nodes)) ≡ Some (end, next)
  by_test true h e more = ap (λ b. cond b (Some (end, next)) (find (is_at end) nodes)) (number_same end)
  by_test false h e more = ap (λ b. cond b (Some x) (find (is_at end) (store_node end next nodes))) h ∙ more e

-- and the others as before
pub others_stored : (end e : ℕ) (next : NodeState) (nodes : List (ℕ × NodeState)) → (end == e) ≡ false → find (is_at e) (store_node end next nodes) ≡ find (is_at e) nodes
others_stored end e next [] h = refl
others_stored end e next (x ∷ nodes) h = by_test (is_at end x) refl (others_stored end e next nodes h) where
  by_test : (b : Bool) → is_at end x ≡ b → find (is_at e) (store_node end next nodes) ≡ find (is_at e) nodes → find (is_at e) (cond b ((end, next) ∷ nodes) (x ∷ store_node end next nodes)) ≡ cond (is_at e x) (Some x) (find (is_at e) nodes)
  by_test true g more = ap (λ b. cond b (Some (end, next)) (find (is_at e) nodes)) h ∙ sym (ap (λ b. cond b (Some x) (find (is_at e) nodes)) (ap (λ (n : ℕ). n == e) (number_is x.0 end g) ∙ h))
  by_test false g more = ap (λ o. cond (is_at e x) (Some x) o) more
