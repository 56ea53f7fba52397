-- A frame of a link's own ids is fit for the table of them, and so is one that the link takes.
use Rattle.std.proofs.Common.{◌≡◌, ℕ, zero, suc, ◌+◌, ◌-◌, nat_lt, Bool, true, false, cond, not, ◌&&◌, List, [], ◌∷◌, ◌++◌, length, get_or, Ok, Err, refl, sym, ap, ◌∙◌, subst, arith, ◌==◌}
use Rattle.std.proofs.lemmas.Bool.{and_parts}
use Rattle.std.proofs.lemmas.Bool.Decides.{nat_tests}
use Rattle.std.proofs.lemmas.List.{length-map, map-append}
use Rattle.std.proofs.lemmas.List.Quantifiers.{position-Some}
use Rattle.std.proofs.lemmas.Option.{slice_get-map, slice_get-get_or}
use Rattle.std.specs.Option.{option_map}
use Rattle.std.specs.Prelude.{nat_le, slice_get, slice_set, Option, Some, None, Result}
use Rattle.ch_light.specs.declared.TheConstants.{FIRST_ID, MOST_IDS}
use Rattle.ch_light.specs.declared.Connection.{Connection}
use Rattle.ch_light.specs.declared.error.LightError.{LightError}
use Rattle.ch_light.specs.declared.error.LightError.TheVariants as lights
use Rattle.ch_light.specs.Ids.{opened, closed, is_open_as, place_of, id_of, give_of, close_at, close_of, created_of, open_number, conn_of, closed_by, closed_of}
use Rattle.ch_wire.specs.declared.frame.Frame.TheVariants as frames
use Rattle.ch_model.specs.HostCalls.{of_ids, found_or}
use Rattle.ch_laws_calls.specs.Tables.{Table, table_of, is_open_at, has_open, frame_on}
use Rattle.ch_laws_links.proofs.Keys.{number_self}

is_open : Connection → Bool
is_open c = c.is_open

set_map : (xs : List Connection) (k : ℕ) (y : Connection) → table_of (slice_set xs k y) ≡ slice_set (table_of xs) k y.is_open
set_map [] k y = refl
set_map (x ∷ xs) zero y = refl
set_map (x ∷ xs) (suc k) y = ap (λ (l : Table). x.is_open ∷ l) (set_map xs k y)

not_below : (place : ℕ) → nat_lt (FIRST_ID + place) FIRST_ID ≡ false
not_below place = grind (arith, nat_tests)

back : (place : ℕ) → (FIRST_ID + place) - FIRST_ID ≡ place
back place = omega arith

-- ---- the next id

next_fits : (table : List Connection) (number : ℕ) → nat_le MOST_IDS (length table) ≡ false → frame_on (frames.Created (FIRST_ID + length table)) (table_of table) ≡ Some (table_of (table ++ opened number ∷ []))
next_fits table number h =
    ap (λ (n : ℕ). cond (not (nat_le MOST_IDS n) && ((FIRST_ID + length table) == (FIRST_ID + n))) (Some (table_of table ++ true ∷ [])) None) (length-map table (λ (c : Connection). c.is_open))
    ∙ ap (λ b. cond (not b && ((FIRST_ID + length table) == (FIRST_ID + length table))) (Some (table_of table ++ true ∷ [])) None) h
    ∙ ap (λ b. cond b (Some (table_of table ++ true ∷ [])) None) (number_self (FIRST_ID + length table))
    ∙ ap Some (sym (map-append (λ (c : Connection). c.is_open) table (opened number ∷ [])))

pub given_fits : (table : List Connection) (conn : ℕ) (given : ℕ × List Connection) → of_ids (give_of table conn) ≡ Ok given → frame_on (frames.Created given.0) (table_of table) ≡ Some (table_of given.1)
unfolding give_of
given_fits table conn given e = by_test (nat_le MOST_IDS (length table)) refl e where
  by_test : (b : Bool) → nat_le MOST_IDS (length table) ≡ b → of_ids (cond b (Err lights.Spent) (Ok (FIRST_ID + length table, table ++ opened conn ∷ []))) ≡ Ok given → frame_on (frames.Created given.0) (table_of table) ≡ Some (table_of given.1)
  by_test true h e = absurd cc
  by_test false h e = let is : (FIRST_ID + length table, table ++ opened conn ∷ []) ≡ given = cc in subst (λ (g : ℕ × List Connection). frame_on (frames.Created g.0) (table_of table) ≡ Some (table_of g.1)) is (next_fits table conn h)

pub created_fits : (table new : List Connection) (id number : ℕ) → created_of table id number ≡ Ok new → frame_on (frames.Created id) (table_of table) ≡ Some (table_of new)
unfolding created_of
created_fits table new id number e = by_tests (nat_le MOST_IDS (length table)) refl (id == FIRST_ID + length table) refl e where
  same_number : (a b : ℕ) → (a == b) ≡ true → a ≡ b
  same_number a b h = grind (arith, nat_tests)

  by_tests : (a : Bool) → nat_le MOST_IDS (length table) ≡ a → (b : Bool) → (id == FIRST_ID + length table) ≡ b → ◌≡◌ {A = Result (List Connection) LightError} (cond a (Err lights.Spent) (cond b (Ok (table ++ opened number ∷ [])) (Err lights.NotNext))) (Ok new)
      → frame_on (frames.Created id) (table_of table) ≡ Some (table_of new)
  by_tests true h b g e = absurd cc
  by_tests false h false g e = absurd cc
  by_tests false h true g e = let is : table ++ opened number ∷ [] ≡ new = cc in
      ap (λ (n : ℕ). frame_on (frames.Created n) (table_of table)) (same_number id (FIRST_ID + length table) g) ∙ next_fits table number h ∙ ap (λ (l : List Connection). Some (table_of l)) is

-- ---- an open id

open_at : (table : List Connection) (place : ℕ) (c : Connection) → slice_get table place ≡ Some c → c.is_open ≡ true → is_open_at (slice_get (table_of table) place) ≡ true
open_at table place c at stands = ap is_open_at (slice_get-map (λ (c : Connection). c.is_open) table place ∙ ap (option_map (λ (c : Connection). c.is_open)) at) ∙ stands

open_place : (table : List Connection) (place : ℕ) (c : Connection) → slice_get table place ≡ Some c → c.is_open ≡ true → has_open (table_of table) (FIRST_ID + place) ≡ true
open_place table place c at stands =
    ap (λ b. not b && is_open_at (slice_get (table_of table) ((FIRST_ID + place) - FIRST_ID))) (not_below place)
    ∙ ap (λ (k : ℕ). is_open_at (slice_get (table_of table) k)) (back place)
    ∙ open_at table place c at stands

-- the place that is found for a number has an open connection
record IsOpenAt (table : List Connection) (place : ℕ) : Type 0 where
  there : Connection
  at : slice_get table place ≡ Some there
  stands : there.is_open ≡ true

found_open : (table : List Connection) (conn place : ℕ) → place_of table conn ≡ Some place → IsOpenAt table place
found_open table conn place h =
    let found = position-Some (is_open_as conn) table place (closed conn) h in
    record { there = get_or table place (closed conn); at = slice_get-get_or table place (closed conn) found.0; stands = (and_parts (get_or table place (closed conn)).is_open ((get_or table place (closed conn)).number == conn) found.1).0 }

pub closing_fits : (table : List Connection) (conn : ℕ) (given : ℕ × List Connection) → of_ids (close_of table conn) ≡ Ok given → frame_on (frames.Closed given.0) (table_of table) ≡ Some (table_of given.1)
unfolding close_of
closing_fits table conn given e = by_place (place_of table conn) refl e where
  by_place : (o : Option ℕ) → place_of table conn ≡ o → of_ids (close_at table conn o) ≡ Ok given → frame_on (frames.Closed given.0) (table_of table) ≡ Some (table_of given.1)
  by_place None h e = absurd cc
  by_place (Some place) h e =
      let is : (FIRST_ID + place, slice_set table place (closed conn)) ≡ given = cc in
      let found = found_open table conn place h in
      subst (λ (g : ℕ × List Connection). frame_on (frames.Closed g.0) (table_of table) ≡ Some (table_of g.1)) is
      (ap (λ b. cond b (Some (slice_set (table_of table) ((FIRST_ID + place) - FIRST_ID) false)) None) (open_place table place found.there found.at found.stands)
      ∙ ap (λ (k : ℕ). Some (slice_set (table_of table) k false)) (back place) ∙ ap Some (sym (set_map table place (closed conn))))

pub sending_fits : (table : List Connection) (conn id : ℕ) (payload : List ℕ) → found_or (id_of table conn) ≡ Ok id → frame_on (frames.Data id payload) (table_of table) ≡ Some (table_of table)
unfolding id_of
sending_fits table conn id payload e = by_place (place_of table conn) refl e where
  by_place : (o : Option ℕ) → place_of table conn ≡ o → found_or (option_map (λ place. FIRST_ID + place) o) ≡ Ok id → frame_on (frames.Data id payload) (table_of table) ≡ Some (table_of table)
  by_place None h e = absurd cc
  by_place (Some place) h e =
      let is : FIRST_ID + place ≡ id = cc in
      let found = found_open table conn place h in
      subst (λ (n : ℕ). frame_on (frames.Data n payload) (table_of table) ≡ Some (table_of table)) is (ap (λ b. cond b (Some (table_of table)) None) (open_place table place found.there found.at found.stands))

-- the id that is found to be open is so in the table
conn_open : (table : List Connection) (id number : ℕ) → conn_of table id ≡ Ok number → has_open (table_of table) id ≡ true
unfolding conn_of
conn_open table id number e = by_low (nat_lt id FIRST_ID) refl e where
  by_open : (c : Connection) → slice_get table (id - FIRST_ID) ≡ Some c → (b : Bool) → c.is_open ≡ b → ◌≡◌ {A = Result ℕ LightError} (cond b (Ok c.number) (Err lights.NotOpen)) (Ok number) → is_open_at (slice_get (table_of table) (id - FIRST_ID)) ≡ true
  by_open c at true h e = open_at table (id - FIRST_ID) c at h
  by_open c at false h e = absurd cc

  by_place : (o : Option Connection) → slice_get table (id - FIRST_ID) ≡ o → open_number o ≡ Ok number → is_open_at (slice_get (table_of table) (id - FIRST_ID)) ≡ true
  by_place None at e = absurd cc
  by_place (Some c) at e = by_open c at c.is_open refl e

  by_low : (b : Bool) → nat_lt id FIRST_ID ≡ b → ◌≡◌ {A = Result ℕ LightError} (cond b (Err lights.NotOpen) (open_number (slice_get table (id - FIRST_ID)))) (Ok number) → has_open (table_of table) id ≡ true
  by_low true h e = absurd cc
  by_low false h e = ap (λ b. not b && is_open_at (slice_get (table_of table) (id - FIRST_ID))) h ∙ by_place (slice_get table (id - FIRST_ID)) refl e

pub payload_fits : (table : List Connection) (id number : ℕ) (payload : List ℕ) → conn_of table id ≡ Ok number → frame_on (frames.Data id payload) (table_of table) ≡ Some (table_of table)
payload_fits table id number payload e = ap (λ b. cond b (Some (table_of table)) None) (conn_open table id number e)

pub closed_fits : (table : List Connection) (id : ℕ) (done : ℕ × List Connection) → closed_of table id ≡ Ok done → frame_on (frames.Closed id) (table_of table) ≡ Some (table_of done.1)
unfolding closed_of
closed_fits table id done e = by_conn (conn_of table id) refl e where
  by_conn : (r : Result ℕ LightError) → conn_of table id ≡ r → closed_by table id r ≡ Ok done → frame_on (frames.Closed id) (table_of table) ≡ Some (table_of done.1)
  by_conn (Err x) h e = absurd cc
  by_conn (Ok number) h e =
      let is : (number, slice_set table (id - FIRST_ID) (closed number)) ≡ done = cc in
      subst (λ (d : ℕ × List Connection). frame_on (frames.Closed id) (table_of table) ≡ Some (table_of d.1)) is
      (ap (λ b. cond b (Some (slice_set (table_of table) (id - FIRST_ID) false)) None) (conn_open table id number h) ∙ ap Some (sym (set_map table (id - FIRST_ID) (closed number))))
