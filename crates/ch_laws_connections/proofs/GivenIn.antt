-- How often a connection is open among those that got an id, after one more got one and after one is closed.
use Rattle.std.proofs.Common.{◌≡◌, ◌≤◌, ◌<◌, ℕ, zero, suc, ◌+◌, Bool, true, false, cond, ◌&&◌, not, List, [], ◌∷◌, ◌++◌, length, refl, sym, ap, ◌∙◌, arith}
use Rattle.std.proofs.lemmas.Bool.{and_parts}
use Rattle.std.proofs.lemmas.Bool.Decides.{nat_tests}
use Rattle.std.specs.List.{position_or_len}
use Rattle.std.specs.Prelude.{◌==◌, nat_lt, slice_set, is_some, option_map, Some, None}
use Rattle.ch_light.specs.declared.TheConstants.{FIRST_ID}
use Rattle.ch_light.specs.declared.Connection.{Connection}
use Rattle.ch_light.specs.Ids.{opened, closed, is_open_as, place_of, id_of}
use Rattle.ch_laws_log.proofs.Stored.{number_is}
use Rattle.ch_laws_connections.specs.Tables.{open_in}
use Rattle.ch_laws_connections.specs.Senders.{once}

abbrev pub place : List Connection → ℕ → ℕ
place table conn = position_or_len (is_open_as conn) table

pub zero_more : (n : ℕ) → 0 + n ≡ n
zero_more n = omega arith

one_more : (n : ℕ) → 1 + n ≡ suc n
one_more n = omega arith

nothing_below : (n : ℕ) → suc n ≤ 0 → ⊥
nothing_below n l = omega arith

pub none_open : (table : List Connection) (conn : ℕ) → length table ≤ place table conn → open_in table conn ≡ 0
none_open [] conn l = refl
none_open (c ∷ rest) conn l = by_test (is_open_as conn c) l (none_open rest conn) where
  less : (a b : ℕ) → suc a ≤ 1 + b → a ≤ b
  less a b l = omega arith

  by_test : (b : Bool) → suc (length rest) ≤ cond (not b) (1 + place rest conn) 0 → (length rest ≤ place rest conn → open_in rest conn ≡ 0) → cond b 1 0 + open_in rest conn ≡ 0
  by_test true l more = absurd (nothing_below (length rest) l)
  by_test false l more = zero_more (open_in rest conn) ∙ more (less (length rest) (place rest conn) l)

pub some_open : (table : List Connection) (conn : ℕ) → place table conn < length table → 1 ≤ open_in table conn
some_open [] conn l = absurd (nothing_below (place [] conn) l)
some_open (c ∷ rest) conn l = by_test (is_open_as conn c) l (some_open rest conn) where
  less : (a b : ℕ) → 1 + a < suc b → a < b
  less a b l = omega arith

  one : (n : ℕ) → 1 ≤ 1 + n
  one n = omega arith

  still_one : (n : ℕ) → 1 ≤ n → 1 ≤ 0 + n
  still_one n l = omega arith

  by_test : (b : Bool) → cond (not b) (1 + place rest conn) 0 < suc (length rest) → (place rest conn < length rest → 1 ≤ open_in rest conn) → 1 ≤ cond b 1 0 + open_in rest conn
  by_test true l more = one (open_in rest conn)
  by_test false l more = still_one (open_in rest conn) (more (less (place rest conn) (length rest) l))

-- an open one that is closed is open once less
pub closed_once : (table : List Connection) (conn other : ℕ) → place table conn < length table → open_in (slice_set table (place table conn) (closed conn)) other + once (conn == other) ≡ open_in table other
closed_once [] conn other l = absurd (nothing_below (place [] conn) l)
closed_once (c ∷ rest) conn other l = by_test (is_open_as conn c) refl l (closed_once rest conn other) where
  less : (a b : ℕ) → 1 + a < suc b → a < b
  less a b l = omega arith

  turned : (a b : ℕ) → (0 + a) + b ≡ b + a
  turned a b = omega arith

  onto : (k a b n : ℕ) → a + b ≡ n → (k + a) + b ≡ k + n
  onto k a b n e = omega arith

  here : is_open_as conn c ≡ true → is_open_as other c ≡ (conn == other)
  here h = let parts = and_parts c.is_open (c.number == conn) h in ap (λ b. b && (c.number == other)) parts.0 ∙ ap (λ (n : ℕ). n == other) (number_is c.number conn parts.1)

  by_test : (b : Bool) → is_open_as conn c ≡ b → cond (not b) (1 + place rest conn) 0 < suc (length rest)
      → (place rest conn < length rest → open_in (slice_set rest (place rest conn) (closed conn)) other + once (conn == other) ≡ open_in rest other)
      → open_in (slice_set (c ∷ rest) (cond (not b) (1 + place rest conn) 0) (closed conn)) other + once (conn == other) ≡ cond (is_open_as other c) 1 0 + open_in rest other
  by_test true h l more = turned (open_in rest other) (once (conn == other)) ∙ ap (λ b. cond b 1 0 + open_in rest other) (sym (here h))
  by_test false h l more = ap (λ (k : ℕ). open_in (slice_set (c ∷ rest) k (closed conn)) other + once (conn == other)) (one_more (place rest conn)) ∙ onto (once (is_open_as other c)) (open_in (slice_set rest (place rest conn) (closed conn)) other) (once (conn == other)) (open_in rest other) (more (less (place rest conn) (length rest) l))

pub closed_length : (table : List Connection) (k : ℕ) (c : Connection) → length (slice_set table k c) ≡ length table
closed_length [] k c = refl
closed_length (x ∷ rest) zero c = refl
closed_length (x ∷ rest) (suc k) c = ap suc (closed_length rest k c)

-- one that gets an id is open once more
pub opened_once : (table : List Connection) (conn other : ℕ) → open_in (table ++ opened conn ∷ []) other ≡ once (conn == other) + open_in table other
opened_once [] conn other = refl
opened_once (c ∷ rest) conn other = ap (λ n. once (is_open_as other c) + n) (opened_once rest conn other) ∙ turned (once (is_open_as other c)) (once (conn == other)) (open_in rest other) where
  turned : (k a n : ℕ) → k + (a + n) ≡ a + (k + n)
  turned k a n = omega arith

pub opened_length : (table : List Connection) (c : Connection) → length (table ++ c ∷ []) ≡ 1 + length table
opened_length [] c = refl
opened_length (x ∷ rest) c = ap suc (opened_length rest c) ∙ more (length rest) where
  more : (n : ℕ) → suc (1 + n) ≡ 1 + suc n
  more n = omega arith

not_below : (a b : ℕ) → nat_lt a b ≡ false → b ≤ a
not_below a b h = grind (arith, nat_tests)

below : (a b : ℕ) → nat_lt a b ≡ true → a < b
below a b h = grind (arith, nat_tests)

-- a connection has an id exactly where it is open
pub without_id : (table : List Connection) (conn : ℕ) → is_some (id_of table conn) ≡ false → open_in table conn ≡ 0
unfolding id_of
without_id table conn e = by_test (nat_lt (place table conn) (length table)) refl e where
  by_test : (b : Bool) → nat_lt (place table conn) (length table) ≡ b → is_some (option_map (λ place. FIRST_ID + place) (cond b (Some (place table conn)) None)) ≡ false → open_in table conn ≡ 0
  by_test true h e = absurd cc
  by_test false h e = none_open table conn (not_below (place table conn) (length table) h)

pub with_id : (table : List Connection) (conn : ℕ) → is_some (id_of table conn) ≡ true → place table conn < length table
unfolding id_of
with_id table conn e = by_test (nat_lt (place table conn) (length table)) refl e where
  by_test : (b : Bool) → nat_lt (place table conn) (length table) ≡ b → is_some (option_map (λ place. FIRST_ID + place) (cond b (Some (place table conn)) None)) ≡ true → place table conn < length table
  by_test true h e = below (place table conn) (length table) h
  by_test false h e = absurd cc

pub is_placed : (table : List Connection) (conn : ℕ) → place table conn < length table → place_of table conn ≡ Some (place table conn)
is_placed table conn l = by_test (nat_lt (place table conn) (length table)) refl where
  never : (a b : ℕ) → a < b → nat_lt a b ≡ false → ⊥
  never a b l h = grind (arith, nat_tests)

  by_test : (b : Bool) → nat_lt (place table conn) (length table) ≡ b → cond b (Some (place table conn)) None ≡ Some (place table conn)
  by_test true h = refl
  by_test false h = absurd (never (place table conn) (length table) l h)
