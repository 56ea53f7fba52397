-- Where frames lead to a table of ids, no payload among them goes under an id that isn't given yet.
use Rattle.std.proofs.Common.{◌≡◌, ◌≤◌, ◌<◌, ℕ, zero, suc, ◌+◌, ◌-◌, Bool, true, false, cond, not, ◌&&◌, List, [], ◌∷◌, ◌++◌, length, refl, ap, ◌∙◌, subst, arith}
use Rattle.std.proofs.lemmas.Bool.{and_parts}
use Rattle.std.proofs.lemmas.Bool.Decides.{nat_tests}
use Rattle.std.specs.Option.{option_map}
use Rattle.std.specs.Prelude.{find, slice_get, slice_set, Option, Some, None, nat_le, nat_lt, ◌==◌}
use Rattle.ch_light.specs.declared.TheConstants.{FIRST_ID, MOST_IDS}
use Rattle.ch_wire.specs.declared.frame.Frame.{Frame}
use Rattle.ch_wire.specs.declared.frame.Frame.TheVariants as frames
use Rattle.ch_model.specs.AccountsItems.{first_payload}
use Rattle.ch_laws_calls.specs.Tables.{Table, is_open_at, has_open, frame_on, frames_on}
use Rattle.ch_laws_peers.specs.Words.{Placed, words_in, datas_in}
use Rattle.ch_laws_messages.specs.SaidGoes.{bare}
use Rattle.ch_laws_messages.proofs.SaidAway.{some_is}

longer : (table : Table) (x : Bool) → length table ≤ length (table ++ x ∷ [])
longer [] x = omega arith
longer (y ∷ table) x = more (length table) (length (table ++ x ∷ [])) (longer table x) where
  more : (a b : ℕ) → a ≤ b → suc a ≤ suc b
  more a b l = omega arith

set_long : (table : Table) (n : ℕ) (x : Bool) → length table ≤ length (slice_set table n x)
set_long [] n x = omega arith
set_long (y ∷ table) zero x = self (length (y ∷ table)) where
  self : (n : ℕ) → n ≤ n
  self n = omega arith
set_long (y ∷ table) (suc n) x = more (length table) (length (slice_set table n x)) (set_long table n x) where
  more : (a b : ℕ) → a ≤ b → suc a ≤ suc b
  more a b l = omega arith

-- a table never gets shorter
step_long : (frame : Frame) (table next : Table) → frame_on frame table ≡ Some next → length table ≤ length next
step_long (frames.Created id) table next e = by_test (not (nat_le MOST_IDS (length table)) && (id == FIRST_ID + length table)) e where
  by_test : (b : Bool) → cond b (Some (table ++ true ∷ [])) None ≡ Some next → length table ≤ length next
  by_test true e = subst (λ (t : Table). length table ≤ length t) (some_is e) (longer table true)
  by_test false e = absurd cc
step_long (frames.Closed id) table next e = by_test (has_open table id) e where
  by_test : (b : Bool) → cond b (Some (slice_set table (id - FIRST_ID) false)) None ≡ Some next → length table ≤ length next
  by_test true e = subst (λ (t : Table). length table ≤ length t) (some_is e) (set_long table (id - FIRST_ID) false)
  by_test false e = absurd cc
step_long (frames.Data id payload) table next e = by_test (has_open table id) e where
  self : (n : ℕ) → n ≤ n
  self n = omega arith

  by_test : (b : Bool) → cond b (Some table) None ≡ Some next → length table ≤ length next
  by_test true e = subst (λ (t : Table). length table ≤ length t) (some_is e) (self (length table))
  by_test false e = absurd cc
step_long frame table next e = subst (λ (t : Table). length table ≤ length t) (some_is e) (self (length table)) where
  self : (n : ℕ) → n ≤ n
  self n = omega arith

all_long : (all : List Frame) (table last : Table) → frames_on all table ≡ Some last → length table ≤ length last
all_long [] table last e = subst (λ (t : Table). length table ≤ length t) (some_is e) (self (length table)) where
  self : (n : ℕ) → n ≤ n
  self n = omega arith
all_long (frame ∷ rest) table last e = by_next (frame_on frame table) refl e (λ next. all_long rest next last) where
  less : (a b c : ℕ) → a ≤ b → b ≤ c → a ≤ c
  less a b c e f = omega arith

  by_next : (o : Option Table) → frame_on frame table ≡ o → (elim o as (λ o. Option Table) [
    | None ↦ None
    | Some next ↦ frames_on rest next
  ]) ≡ Some last → ((next : Table) → frames_on rest next ≡ Some last → length next ≤ length last) → length table ≤ length last
  by_next None h e more = absurd cc
  by_next (Some next) h e more = less (length table) (length next) (length last) (step_long frame table next h) (more next e)

within : (table : Table) (n : ℕ) → is_open_at (slice_get table n) ≡ true → n < length table
within [] n e = absurd cc
within (x ∷ table) zero e = first (length table) where
  first : (n : ℕ) → 0 < suc n
  first n = omega arith
within (x ∷ table) (suc n) e = more n (length table) (within table n e) where
  more : (a b : ℕ) → a < b → suc a < suc b
  more a b l = omega arith

-- an id that is open is one that was given
open_below : (table : Table) (id : ℕ) → has_open table id ≡ true → id < FIRST_ID + length table
open_below table id e = let both = and_parts (not (nat_lt id FIRST_ID)) (is_open_at (slice_get table (id - FIRST_ID))) e in below id (length table) (within table (id - FIRST_ID) both.1) where
  below : (i n : ℕ) → (i - FIRST_ID) < n → i < FIRST_ID + n
  below i n l = omega arith

-- no payload goes under an id from the next on
pub none_under : (all : List Placed) (table last : Table) (id : ℕ) → frames_on (bare all) table ≡ Some last → FIRST_ID + length last ≤ id → first_payload id (datas_in (words_in all)) ≡ None
none_under [] table last id e l = refl
none_under ((frames.Data i payload, place) ∷ rest) table last id e l = by_open (has_open table i) refl e (none_under rest table last id) where
  apart : (i n m id : ℕ) → i < FIRST_ID + n → n ≤ m → FIRST_ID + m ≤ id → (i == id) ≡ false
  apart i n m id a b c = grind (arith, nat_tests)

  by_open : (b : Bool) → has_open table i ≡ b → (elim (cond b (Some table) None) as (λ o. Option Table) [
    | None ↦ None
    | Some next ↦ frames_on (bare rest) next
  ]) ≡ Some last → (frames_on (bare rest) table ≡ Some last → FIRST_ID + length last ≤ id → first_payload id (datas_in (words_in rest)) ≡ None) → option_map (λ (d : ℕ × List ℕ). d.1) (cond (i == id) (Some (i, payload)) (find (λ (d : ℕ × List ℕ). d.0 == id) (datas_in (words_in rest)))) ≡ None
  by_open false h e more = absurd cc
  by_open true h e more = ap (λ (b : Bool). option_map (λ (d : ℕ × List ℕ). d.1) (cond b (Some (i, payload)) (find (λ (d : ℕ × List ℕ). d.0 == id) (datas_in (words_in rest))))) (apart i (length table) (length last) id (open_below table i h) (all_long (bare rest) table last e) l) ∙ more e l
none_under ((frame, place) ∷ rest) table last id e l = by_next (frame_on frame table) e (λ next. none_under rest next last id) where
  by_next : (o : Option Table) → (elim o as (λ o. Option Table) [
    | None ↦ None
    | Some next ↦ frames_on (bare rest) next
  ]) ≡ Some last → ((next : Table) → frames_on (bare rest) next ≡ Some last → FIRST_ID + length last ≤ id → first_payload id (datas_in (words_in rest)) ≡ None) → first_payload id (datas_in (words_in rest)) ≡ None
  by_next None e more = absurd cc
  by_next (Some next) e more = more next e l
