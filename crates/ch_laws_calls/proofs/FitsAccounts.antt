-- Frames that are fit for a table, one after another, have the ids that the accounts of a log allow.
use Rattle.std.proofs.Common.{◌≡◌, ◌≢◌, ◌⊎◌, inl, inr, ◌<◌, ◌≤◌, ℕ, zero, suc, ◌+◌, ◌-◌, nat_lt, Bool, true, false, cond, not, ◌&&◌, ◌||◌, List, [], ◌∷◌, ◌++◌, length, refl, sym, ap, ◌∙◌, subst, arith, ◌==◌, append_assoc}
use Rattle.std.proofs.lemmas.Bool.{and_parts}
use Rattle.std.proofs.lemmas.Bool.Decides.{nat_tests}
use Rattle.std.proofs.lemmas.List.{length-append}
use Rattle.std.proofs.lemmas.List.Elements.{filter_map-append}
use Rattle.std.proofs.lemmas.Option.{slice_get_within}
use Rattle.std.specs.List.{list_any, filter_map}
use Rattle.std.specs.Prelude.{nat_le, slice_get, slice_set, drop, Option, Some, None, is_some}
use Rattle.ch_light.specs.declared.TheConstants.{FIRST_ID, MOST_IDS}
use Rattle.ch_light.proofs.Lists.{push_other, set_here, set_other}
use Rattle.ch_wire.specs.declared.frame.Frame.{Frame}
use Rattle.ch_wire.specs.declared.frame.Frame.TheVariants as frames
use Rattle.ch_model.specs.AccountsBytes.{has_fit_id, writes_fit_ids}
use Rattle.ch_model.specs.AccountsItems.{frame_of, frames_of, created_by, creates, closes_id, is_open_id}
use Rattle.ch_model.specs.Logs.{each, each_after, none_or}
use Rattle.ch_model.specs.Same.{same_socket, same_end}
use Rattle.ch_model.specs.Sockets.{writing, writings}
use Rattle.ch_model.specs.declared.entry.Entry.{Entry}
use Rattle.ch_model.specs.declared.entry.Entry.TheVariants as entries
use Rattle.ch_model.specs.declared.name.End.{End}
use Rattle.ch_model.specs.declared.name.End.TheVariants.{O, T}
use Rattle.ch_model.specs.declared.name.SockName.{SockName}
use Rattle.ch_laws_calls.specs.Tables.{Table, is_open_at, has_open, frame_on, frames_on}
use Rattle.ch_laws_links.proofs.Keys.{number_self}
use Rattle.ch_laws_log.proofs.Stored.{self_same}
use Rattle.ch_laws_calls.specs.FitsFit.{AllWriteFit}
use Rattle.ch_laws_calls.proofs.FitsFrames.{frames_after, frames_append}

-- ---- numbers

below : (a b : ℕ) → a < b → (b == a) ≡ false
below a b l = grind (arith, nat_tests)

same_number : (a b : ℕ) → (a == b) ≡ true → a ≡ b
same_number a b h = grind (arith, nat_tests)

not_same : (a b : ℕ) → (a == b) ≡ false → a ≢ b
not_same a b h e = let yes : (a == b) ≡ true = subst (λ (k : ℕ). (a == k) ≡ true) e (number_self a) in absurd cc

at_least : (id : ℕ) → not (nat_lt id FIRST_ID) ≡ true → FIRST_ID ≤ id
at_least id h = by_low (nat_lt id FIRST_ID) refl h where
  by_low : (b : Bool) → nat_lt id FIRST_ID ≡ b → not b ≡ true → FIRST_ID ≤ id
  by_low true e h = absurd cc
  by_low false e h = grind (arith, nat_tests)

-- ---- what a frame does to a table

record OnCreated (id : ℕ) (table next : Table) : Type 0 where
  id_is : id ≡ FIRST_ID + length table
  next_is : next ≡ table ++ true ∷ []

on_created : (id : ℕ) (table next : Table) → frame_on (frames.Created id) table ≡ Some next → OnCreated id table next
on_created id table next e = by_test (not (nat_le MOST_IDS (length table)) && (id == FIRST_ID + length table)) refl e where
  by_test : (b : Bool) → (not (nat_le MOST_IDS (length table)) && (id == FIRST_ID + length table)) ≡ b → cond b (Some (table ++ true ∷ [])) None ≡ Some next → OnCreated id table next
  by_test true h e = let is : table ++ true ∷ [] ≡ next = cc in record { id_is = same_number id (FIRST_ID + length table) (and_parts (not (nat_le MOST_IDS (length table))) (id == FIRST_ID + length table) h).1; next_is = sym is }
  by_test false h e = absurd cc

record OnOpen (id : ℕ) (table next after : Table) : Type 0 where
  is_open : has_open table id ≡ true
  next_is : next ≡ after

on_open : (id : ℕ) (table next after : Table) → cond (has_open table id) (Some after) None ≡ Some next → OnOpen id table next after
on_open id table next after e = by_test (has_open table id) refl e where
  by_test : (b : Bool) → has_open table id ≡ b → cond b (Some after) None ≡ Some next → OnOpen id table next after
  by_test true h e = let is : after ≡ next = cc in record { is_open = h; next_is = sym is }
  by_test false h e = absurd cc

-- ---- ids

open_parts : (table : Table) (id : ℕ) → has_open table id ≡ true → (FIRST_ID ≤ id) × (is_open_at (slice_get table (id - FIRST_ID)) ≡ true)
open_parts table id h = let both = and_parts (not (nat_lt id FIRST_ID)) (is_open_at (slice_get table (id - FIRST_ID))) h in (at_least id both.0, both.1)

open_from : (table : Table) (id : ℕ) → FIRST_ID ≤ id → is_open_at (slice_get table (id - FIRST_ID)) ≡ true → has_open table id ≡ true
open_from table id l h = ap (λ b. not b && is_open_at (slice_get table (id - FIRST_ID))) (low id l) ∙ h where
  low : (id : ℕ) → FIRST_ID ≤ id → nat_lt id FIRST_ID ≡ false
  low id l = grind (arith, nat_tests)

-- what is open has a place
open_within : (table : Table) (k : ℕ) → is_open_at (slice_get table k) ≡ true → k < length table
open_within table k h = by_place (slice_get table k) refl h where
  by_place : (o : Option Bool) → slice_get table k ≡ o → is_open_at o ≡ true → k < length table
  by_place None e h = absurd cc
  by_place (Some b) e h = slice_get_within table k b e

push_open : (table : Table) (id : ℕ) → has_open (table ++ true ∷ []) id ≡ true → (has_open table id ≡ true) ⊎ (id ≡ FIRST_ID + length table)
push_open table id h = by_test (id - FIRST_ID == length table) refl where
  parts : (FIRST_ID ≤ id) × (is_open_at (slice_get (table ++ true ∷ []) (id - FIRST_ID)) ≡ true)
  parts = open_parts (table ++ true ∷ []) id h

  back : (n : ℕ) → FIRST_ID ≤ id → id - FIRST_ID ≡ n → id ≡ FIRST_ID + n
  back n l e = omega arith

  by_test : (b : Bool) → (id - FIRST_ID == length table) ≡ b → (has_open table id ≡ true) ⊎ (id ≡ FIRST_ID + length table)
  by_test true e = inr (back (length table) parts.0 (same_number (id - FIRST_ID) (length table) e))
  by_test false e = inl (open_from table id parts.0 (ap is_open_at (sym (push_other table true (id - FIRST_ID) (not_same (id - FIRST_ID) (length table) e))) ∙ parts.1))

-- what is closed isn't open, and all else is as it was
set_closed : (table : Table) (k id : ℕ) → has_open table k ≡ true → has_open (slice_set table (k - FIRST_ID) false) id ≡ true → (has_open table id ≡ true) × ((k == id) ≡ false)
set_closed table k id was h = by_test (id - FIRST_ID == k - FIRST_ID) refl where
  parts : (FIRST_ID ≤ id) × (is_open_at (slice_get (slice_set table (k - FIRST_ID) false) (id - FIRST_ID)) ≡ true)
  parts = open_parts (slice_set table (k - FIRST_ID) false) id h

  before : (FIRST_ID ≤ k) × (is_open_at (slice_get table (k - FIRST_ID)) ≡ true)
  before = open_parts table k was

  apart : (id - FIRST_ID == k - FIRST_ID) ≡ false → (k == id) ≡ false
  apart e = by_same (k == id) refl where
    by_same : (b : Bool) → (k == id) ≡ b → b ≡ false
    by_same false s = refl
    by_same true s = let yes : (id - FIRST_ID == k - FIRST_ID) ≡ true = subst (λ (n : ℕ). (n - FIRST_ID == k - FIRST_ID) ≡ true) (same_number k id s) (number_self (k - FIRST_ID)) in absurd cc

  by_test : (b : Bool) → (id - FIRST_ID == k - FIRST_ID) ≡ b → (has_open table id ≡ true) × ((k == id) ≡ false)
  by_test true e =
      let here : slice_get (slice_set table (k - FIRST_ID) false) (id - FIRST_ID) ≡ Some false = ap (slice_get (slice_set table (k - FIRST_ID) false)) (same_number (id - FIRST_ID) (k - FIRST_ID) e) ∙ set_here table (k - FIRST_ID) false (open_within table (k - FIRST_ID) before.1) in
      let no : false ≡ true = sym (ap is_open_at here) ∙ parts.1 in absurd cc
  by_test false e = (open_from table id parts.0 (ap is_open_at (sym (set_other table (k - FIRST_ID) false (id - FIRST_ID) (not_same (id - FIRST_ID) (k - FIRST_ID) e))) ∙ parts.1), apart e)

set_long : (table : Table) (k : ℕ) (b : Bool) → length (slice_set table k b) ≡ length table
set_long [] k b = refl
set_long (x ∷ table) zero b = refl
set_long (x ∷ table) (suc k) b = ap suc (set_long table k b)

open_low : (table : Table) (id : ℕ) → has_open table id ≡ true → id < FIRST_ID + length table
open_low table id h = let parts = open_parts table id h in let within : id - FIRST_ID < length table = open_within table (id - FIRST_ID) parts.1 in omega (arith, within, parts.0)

-- ---- frames one after another

next_of : (frame : Frame) (rest : List Frame) (start table : Table) → frames_on (frame ∷ rest) start ≡ Some table → (next : Table) × (frame_on frame start ≡ Some next) × (frames_on rest next ≡ Some table)
next_of frame rest start table e = by_one (frame_on frame start) refl e where
  by_one : (o : Option Table) → frame_on frame start ≡ o → (elim o as (λ o. Option Table) [
    | None ↦ None
    | Some next ↦ frames_on rest next
  ]) ≡ Some table → (next : Table) × (frame_on frame start ≡ Some next) × (frames_on rest next ≡ Some table)
  by_one None h e = absurd cc
  by_one (Some next) h e = (next, h, e)

-- a table grows by each connection that is created
long_after : (fs : List Frame) (start table : Table) → frames_on fs start ≡ Some table → length table ≡ length start + length (filter_map created_by fs)
long_after [] start table e = let is : start ≡ table = cc in ap length (sym is) ∙ plus_none (length start) where
  plus_none : (n : ℕ) → n ≡ n + 0
  plus_none n = omega arith
long_after (frames.Created id ∷ rest) start table e =
    let n = next_of (frames.Created id) rest start table e in
    long_after rest n.0 table n.2 ∙ ap (λ (t : Table). length t + length (filter_map created_by rest)) (on_created id start n.0 n.1).next_is ∙ ap (λ (k : ℕ). k + length (filter_map created_by rest)) (length-append start (true ∷ [])) ∙ one_more (length start) (length (filter_map created_by rest))
  where
    one_more : (a b : ℕ) → (a + 1) + b ≡ a + suc b
    one_more a b = omega arith
long_after (frames.Closed id ∷ rest) start table e =
    let n = next_of (frames.Closed id) rest start table e in
    long_after rest n.0 table n.2 ∙ ap (λ (t : Table). length t + length (filter_map created_by rest)) (on_open id start n.0 (slice_set start (id - FIRST_ID) false) n.1).next_is ∙ ap (λ (k : ℕ). k + length (filter_map created_by rest)) (set_long start (id - FIRST_ID) false)
long_after (frames.Data id payload ∷ rest) start table e =
    let n = next_of (frames.Data id payload) rest start table e in
    long_after rest n.0 table n.2 ∙ ap (λ (t : Table). length t + length (filter_map created_by rest)) (on_open id start n.0 start n.1).next_is
long_after (frames.EndClosed ∷ rest) start table e = long_after rest start table e
long_after (frames.Probe ∷ rest) start table e = long_after rest start table e
long_after (frames.ProbeAck ∷ rest) start table e = long_after rest start table e

-- no id is created again
none_again : (fs : List Frame) (start table : Table) (id : ℕ) → frames_on fs start ≡ Some table → id < FIRST_ID + length start → list_any (creates id) fs ≡ false
none_again [] start table id e l = refl
none_again (frames.Created k ∷ rest) start table id e l =
    let n = next_of (frames.Created k) rest start table e in
    let on = on_created k start n.0 n.1 in
    ap (λ b. b || list_any (creates id) rest) (below id k (subst (λ (m : ℕ). id < m) (sym on.id_is) l)) ∙ none_again rest n.0 table id n.2 (subst (λ (t : Table). id < FIRST_ID + length t) (sym on.next_is) (subst (λ (m : ℕ). id < FIRST_ID + m) (sym (length-append start (true ∷ []))) (more id (length start) l)))
  where
    more : (a b : ℕ) → a < FIRST_ID + b → a < FIRST_ID + (b + 1)
    more a b l = omega (arith, l)
none_again (frames.Closed k ∷ rest) start table id e l =
    let n = next_of (frames.Closed k) rest start table e in
    none_again rest n.0 table id n.2 (subst (λ (t : Table). id < FIRST_ID + length t) (sym (on_open k start n.0 (slice_set start (k - FIRST_ID) false) n.1).next_is) (subst (λ (m : ℕ). id < FIRST_ID + m) (sym (set_long start (k - FIRST_ID) false)) l))
none_again (frames.Data k payload ∷ rest) start table id e l =
    let n = next_of (frames.Data k payload) rest start table e in
    none_again rest n.0 table id n.2 (subst (λ (t : Table). id < FIRST_ID + length t) (sym (on_open k start n.0 start n.1).next_is) l)
none_again (frames.EndClosed ∷ rest) start table id e l = none_again rest start table id e l
none_again (frames.Probe ∷ rest) start table id e l = none_again rest start table id e l
none_again (frames.ProbeAck ∷ rest) start table id e l = none_again rest start table id e l

-- what is open after was open or created, and wasn't closed
record IsOpened (fs : List Frame) (start : Table) (id : ℕ) : Type 0 where
  from : (has_open start id ≡ true) ⊎ (list_any (creates id) fs ≡ true)
  kept : list_any (closes_id id) fs ≡ false

or_later : (a b : Bool) → b ≡ true → (a || b) ≡ true
or_later true b e = refl
or_later false b e = e

after_created : (k : ℕ) (rest : List Frame) (start next : Table) (id : ℕ) → OnCreated k start next → IsOpened rest next id → IsOpened (frames.Created k ∷ rest) start id
after_created k rest start next id on later = record { from = by_from later.from; kept = later.kept } where
  by_push : (has_open start id ≡ true) ⊎ (id ≡ FIRST_ID + length start) → (has_open start id ≡ true) ⊎ ((k == id || list_any (creates id) rest) ≡ true)
  by_push (inl was) = inl was
  by_push (inr is) = inr (ap (λ b. b || list_any (creates id) rest) (subst (λ (m : ℕ). (k == m) ≡ true) (on.id_is ∙ sym is) (number_self k)))

  by_from : (has_open next id ≡ true) ⊎ (list_any (creates id) rest ≡ true) → (has_open start id ≡ true) ⊎ ((k == id || list_any (creates id) rest) ≡ true)
  by_from (inl was) = by_push (push_open start id (subst (λ (t : Table). has_open t id ≡ true) on.next_is was))
  by_from (inr new) = inr (or_later (k == id) (list_any (creates id) rest) new)

after_closed : (k : ℕ) (rest : List Frame) (start next table : Table) (id : ℕ) → OnOpen k start next (slice_set start (k - FIRST_ID) false) → frames_on rest next ≡ Some table → IsOpened rest next id → IsOpened (frames.Closed k ∷ rest) start id
after_closed k rest start next table id on e later = record { from = by_from later.from; kept = ap (λ b. b || list_any (closes_id id) rest) (off later.from) ∙ later.kept } where
  by_from : (has_open next id ≡ true) ⊎ (list_any (creates id) rest ≡ true) → (has_open start id ≡ true) ⊎ (list_any (creates id) rest ≡ true)
  by_from (inl was) = inl (set_closed start k id on.is_open (subst (λ (t : Table). has_open t id ≡ true) on.next_is was)).0
  by_from (inr new) = inr new

  off : (has_open next id ≡ true) ⊎ (list_any (creates id) rest ≡ true) → (k == id) ≡ false
  off (inl was) = (set_closed start k id on.is_open (subst (λ (t : Table). has_open t id ≡ true) on.next_is was)).1
  off (inr new) = by_same (k == id) refl where
    by_same : (b : Bool) → (k == id) ≡ b → b ≡ false
    by_same false s = refl
    by_same true s =
        let low : k < FIRST_ID + length next = subst (λ (t : Table). k < FIRST_ID + length t) (sym on.next_is) (subst (λ (m : ℕ). k < FIRST_ID + m) (sym (set_long start (k - FIRST_ID) false)) (open_low start k on.is_open)) in
        let none : list_any (creates id) rest ≡ false = none_again rest next table id e (subst (λ (m : ℕ). m < FIRST_ID + length next) (same_number k id s) low) in absurd cc

after_data : (k : ℕ) (payload : List ℕ) (rest : List Frame) (start next : Table) (id : ℕ) → OnOpen k start next start → IsOpened rest next id → IsOpened (frames.Data k payload ∷ rest) start id
after_data k payload rest start next id on later = record { from = by_from later.from; kept = later.kept } where
  by_from : (has_open next id ≡ true) ⊎ (list_any (creates id) rest ≡ true) → (has_open start id ≡ true) ⊎ (list_any (creates id) rest ≡ true)
  by_from (inl was) = inl (subst (λ (t : Table). has_open t id ≡ true) on.next_is was)
  by_from (inr new) = inr new

opened_so : (fs : List Frame) (start table : Table) (id : ℕ) → frames_on fs start ≡ Some table → has_open table id ≡ true → IsOpened fs start id
opened_so [] start table id e h = let is : start ≡ table = cc in record { from = inl (subst (λ (t : Table). has_open t id ≡ true) (sym is) h); kept = refl }
opened_so (frames.Created k ∷ rest) start table id e h = let n = next_of (frames.Created k) rest start table e in after_created k rest start n.0 id (on_created k start n.0 n.1) (opened_so rest n.0 table id n.2 h)
opened_so (frames.Closed k ∷ rest) start table id e h = let n = next_of (frames.Closed k) rest start table e in after_closed k rest start n.0 table id (on_open k start n.0 (slice_set start (k - FIRST_ID) false) n.1) n.2 (opened_so rest n.0 table id n.2 h)
opened_so (frames.Data k payload ∷ rest) start table id e h = let n = next_of (frames.Data k payload) rest start table e in after_data k payload rest start n.0 id (on_open k start n.0 start n.1) (opened_so rest n.0 table id n.2 h)
opened_so (frames.EndClosed ∷ rest) start table id e h = let later = opened_so rest start table id e h in record { from = later.from; kept = later.kept }
opened_so (frames.Probe ∷ rest) start table id e h = let later = opened_so rest start table id e h in record { from = later.from; kept = later.kept }
opened_so (frames.ProbeAck ∷ rest) start table id e h = let later = opened_so rest start table id e h in record { from = later.from; kept = later.kept }

-- ---- a log

-- where all that an end wrote so far is fit, so is the id of the next frame that is
open_id : (log : List Entry) (s : SockName) (e : End) (table : Table) (id : ℕ) → frames_on (frames_of log s e) [] ≡ Some table → has_open table id ≡ true → is_open_id log s e id ≡ true
open_id log s e table id on h = by_from o.from where
  o : IsOpened (frames_of log s e) [] id
  o = opened_so (frames_of log s e) [] table id on h

  by_from : (has_open [] id ≡ true) ⊎ (list_any (creates id) (frames_of log s e) ≡ true) → is_open_id log s e id ≡ true
  by_from (inl was) = absurd (nothing (id - FIRST_ID) (open_parts [] id was).1) where
    nothing : (k : ℕ) → is_open_at (slice_get {X = Bool} [] k) ≡ true → ⊥
    nothing zero h = absurd cc
    nothing (suc k) h = absurd cc
  by_from (inr new) = ap (λ b. b && not (list_any (closes_id id) (frames_of log s e))) new ∙ ap not o.kept

none_more : (n : ℕ) → 0 + n ≡ n
none_more n = omega arith

next_id : (log : List Entry) (s : SockName) (e : End) (table next : Table) (frame : Frame) → frames_on (frames_of log s e) [] ≡ Some table → frame_on frame table ≡ Some next → has_fit_id log s e frame ≡ true
next_id log s e table next (frames.Created id) on f =
    let is : id ≡ FIRST_ID + length (filter_map created_by (frames_of log s e)) = (on_created id table next f).id_is ∙ ap (λ (k : ℕ). FIRST_ID + k) (long_after (frames_of log s e) [] table on ∙ none_more (length (filter_map created_by (frames_of log s e)))) in
    subst (λ (k : ℕ). (id == k) ≡ true) is (number_self id)
next_id log s e table next (frames.Closed id) on f = open_id log s e table id on (on_open id table next (slice_set table (id - FIRST_ID) false) f).is_open
next_id log s e table next (frames.Data id payload) on f = open_id log s e table id on (on_open id table next table f).is_open
next_id log s e table next frames.EndClosed on f = refl
next_id log s e table next frames.Probe on f = refl
next_id log s e table next frames.ProbeAck on f = refl

-- the frame after others, where more follow
fit_between : (fs more : List Frame) (frame : Frame) → is_some (frames_on (fs ++ frame ∷ more) []) ≡ true → (table : Table) × (next : Table) × (frames_on fs [] ≡ Some table) × (frame_on frame table ≡ Some next)
fit_between fs more frame h = by_table (frames_on fs []) refl (sym (ap is_some (frames_append fs (frame ∷ more) [])) ∙ h) where
  by_next : (table : Table) → frames_on fs [] ≡ Some table → (o : Option Table) → frame_on frame table ≡ o → is_some (elim o as (λ o. Option Table) [
    | None ↦ None
    | Some next ↦ frames_on more next
  ]) ≡ true → (table : Table) × (next : Table) × (frames_on fs [] ≡ Some table) × (frame_on frame table ≡ Some next)
  by_next table on None e h = absurd cc
  by_next table on (Some next) e h = (table, next, on, e)

  by_table : (o : Option Table) → frames_on fs [] ≡ o → is_some (frames_after (frame ∷ more) o) ≡ true → (table : Table) × (next : Table) × (frames_on fs [] ≡ Some table) × (frame_on frame table ≡ Some next)
  by_table None on h = absurd cc
  by_table (Some table) on h = by_next table on (frame_on frame table) refl h

wrote_fit : (before rest : List Entry) (s : SockName) (e : End) (bytes : List ℕ) → is_some (frames_on (frames_of (before ++ entries.Wrote s e bytes ∷ rest) s e) []) ≡ true → writes_fit_ids before (entries.Wrote s e bytes) ≡ true
wrote_fit before rest s e bytes h = by_first (writings before s e) refl where
  mine : (same_socket s s && same_end e e) ≡ true
  mine = ap (λ b. b && same_end e e) (self_same s) ∙ own e where
    own : (e : End) → same_end e e ≡ true
    own O = refl
    own T = refl

  all : writings (before ++ entries.Wrote s e bytes ∷ rest) s e ≡ writings before s e ++ bytes ∷ writings rest s e
  all = filter_map-append (writing s e) before (entries.Wrote s e bytes ∷ rest) ∙ ap (λ (l : List (List ℕ)). writings before s e ++ l) (here mine) where
    here : (same_socket s s && same_end e e) ≡ true → filter_map (writing s e) (entries.Wrote s e bytes ∷ rest) ≡ bytes ∷ writings rest s e
    here m = rw m refl

  by_frame : (piece : List ℕ) (pieces : List (List ℕ)) → writings before s e ≡ piece ∷ pieces → (o : Option Frame) → frame_of bytes ≡ o → none_or (has_fit_id before s e) o ≡ true
  by_frame piece pieces w None f = refl
  by_frame piece pieces w (Some frame) f =
      let wrote : frames_of (before ++ entries.Wrote s e bytes ∷ rest) s e ≡ frames_of before s e ++ frame ∷ filter_map frame_of (writings rest s e) =
      ap (λ (l : List (List ℕ)). filter_map frame_of (drop 1 l)) (all ∙ ap (λ (l : List (List ℕ)). l ++ bytes ∷ writings rest s e) w) ∙ filter_map-append frame_of pieces (bytes ∷ writings rest s e)
      ∙ ap (λ (l : List Frame). filter_map frame_of pieces ++ l) (heads f) ∙ ap (λ (l : List (List ℕ)). filter_map frame_of (drop 1 l) ++ frame ∷ filter_map frame_of (writings rest s e)) (sym w) in
      let both = fit_between (frames_of before s e) (filter_map frame_of (writings rest s e)) frame (sym (ap (λ (l : List Frame). is_some (frames_on l [])) wrote) ∙ h) in
      next_id before s e both.0 both.1 frame both.2 both.3
    where
      heads : frame_of bytes ≡ Some frame → filter_map frame_of (bytes ∷ writings rest s e) ≡ frame ∷ filter_map frame_of (writings rest s e)
      heads f = rw f refl

  by_first : (w : List (List ℕ)) → writings before s e ≡ w → (length (writings before s e) == 0 || none_or (has_fit_id before s e) (frame_of bytes)) ≡ true
  by_first [] w = ap (λ (l : List (List ℕ)). length l == 0 || none_or (has_fit_id before s e) (frame_of bytes)) w
  by_first (piece ∷ pieces) w = or_later (length (writings before s e) == 0) (none_or (has_fit_id before s e) (frame_of bytes)) (by_frame piece pieces w (frame_of bytes) refl)

one_fit : (before rest : List Entry) (entry : Entry) → AllWriteFit (before ++ entry ∷ rest) → writes_fit_ids before entry ≡ true
one_fit before rest (entries.Wrote s e bytes) all = wrote_fit before rest s e bytes (all s e)
one_fit before rest entry all = refl

each_fit : (before rest : List Entry) → AllWriteFit (before ++ rest) → each_after writes_fit_ids before rest ≡ true
each_fit before [] all = refl
each_fit before (entry ∷ rest) all = ap (λ b. b && each_after writes_fit_ids (before ++ entry ∷ []) rest) (one_fit before rest entry all) ∙ each_fit (before ++ entry ∷ []) rest (λ s e. ap (λ (l : List Entry). is_some (frames_on (frames_of l s e) [])) (append_assoc before (entry ∷ []) rest) ∙ all s e)

pub ids_fit : (log : List Entry) → AllWriteFit log → each writes_fit_ids log ≡ true
ids_fit log all = each_fit [] log all
