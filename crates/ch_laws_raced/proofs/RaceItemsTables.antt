-- A frame that fits the open connections is read so by the table of ids.
use Rattle.std.specs.Prelude.{◌≡◌, ℕ, ◌+◌, ◌-◌, Bool, true, false, not, cond, ◌&&◌, ◌==◌, nat_lt, nat_le, List, [], ◌∷◌, ◌++◌, length, is_some, slice_get, slice_set, Option, Some, None, Result, Ok, Err, if◌then◌else◌}
use Rattle.std.specs.Option.{option_map}
use Rattle.std.proofs.Common.{refl, ap, sym, ◌∙◌}
use Rattle.std.proofs.lemmas.Bool.{and_parts}
use Rattle.std.proofs.lemmas.List.{length-map}
use Rattle.std.proofs.lemmas.Option.{slice_get-map}
use Rattle.ch_light.specs.declared.TheConstants.{FIRST_ID, MOST_IDS}
use Rattle.ch_light.specs.declared.Connection.{Connection}
use Rattle.ch_light.specs.declared.error.LightError.{LightError}
use Rattle.ch_light.specs.declared.error.LightError.TheVariants.{Spent, NotNext, NotOpen}
use Rattle.ch_light.specs.Ids.{opened, closed, created_of, open_number, conn_of, closed_by, closed_of}
use Rattle.ch_wire.specs.declared.frame.Frame.{Frame}
use Rattle.ch_wire.specs.declared.frame.Frame.TheVariants as frames
use Rattle.ch_laws_calls.specs.Tables.{Table, table_of, is_open_at, has_open, frame_on, frames_on}

-- the first of frames that fit
pub first_fits : (f : Frame) (rest : List Frame) (table : Table) → is_some (frames_on (f ∷ rest) table) ≡ true → is_some (frame_on f table) ≡ true
first_fits f rest table h = by_next (frame_on f table) h where
  by_next : (o : Option Table) → is_some (elim o as (λ o. Option Table) [
    | None ↦ None
    | Some next ↦ frames_on rest next
  ]) ≡ true → is_some o ≡ true
  by_next None h = absurd cc
  by_next (Some next) h = refl

if_some : {X : Type 0} (b : Bool) (x : X) → is_some (if b then Some x else None) ≡ true → b ≡ true
if_some true x h = refl
if_some false x h = absurd cc

not_is : (b : Bool) → not b ≡ true → b ≡ false
not_is true h = absurd cc
not_is false h = refl

-- an id that is open in the table is that of an open connection
pub open_connection : (cs : List Connection) (id : ℕ) → has_open (table_of cs) id ≡ true → (conn : ℕ) × (conn_of cs id ≡ Ok conn)
unfolding conn_of
open_connection cs id h = let parts = and_parts (not (nat_lt id FIRST_ID)) (is_open_at (slice_get (table_of cs) (id - FIRST_ID))) h in by_found (slice_get cs (id - FIRST_ID)) refl
    (sym (ap is_open_at (slice_get-map (λ (c : Connection). c.is_open) cs (id - FIRST_ID))) ∙ parts.1) (not_is (nat_lt id FIRST_ID) parts.0) where
      by_open : (c : Connection) (b : Bool) → c.is_open ≡ b → b ≡ true → open_number (Some c) ≡ Ok c.number
      by_open c true is h = ap (λ b. cond b (Ok c.number) (Err NotOpen)) is
      by_open c false is h = absurd cc

      by_found : (o : Option Connection) → slice_get cs (id - FIRST_ID) ≡ o → is_open_at (option_map (λ (c : Connection). c.is_open) o) ≡ true → nat_lt id FIRST_ID ≡ false
          → (conn : ℕ) × ((if nat_lt id FIRST_ID then Err NotOpen else open_number (slice_get cs (id - FIRST_ID))) ≡ Ok conn)
      by_found None is h low = absurd cc
      by_found (Some c) is h low = (c.number, ap (λ b. cond b (Err NotOpen) (open_number (slice_get cs (id - FIRST_ID)))) low ∙ ap open_number is ∙ by_open c c.is_open refl h)

pub data_fits : (cs : List Connection) (id : ℕ) (payload : List ℕ) → is_some (frame_on (frames.Data id payload) (table_of cs)) ≡ true → (conn : ℕ) × (conn_of cs id ≡ Ok conn)
data_fits cs id payload h = open_connection cs id (if_some (has_open (table_of cs) id) (table_of cs) h)

pub close_fits : (cs : List Connection) (id : ℕ) → is_some (frame_on (frames.Closed id) (table_of cs)) ≡ true → (left : ℕ × List Connection) × (closed_of cs id ≡ Ok left)
unfolding closed_of
close_fits cs id h = let it = open_connection cs id (if_some (has_open (table_of cs) id) (slice_set (table_of cs) (id - FIRST_ID) false) h) in
    ((it.0, slice_set cs (id - FIRST_ID) (closed it.0)), ap (closed_by cs id) it.1)

pub open_fits : (cs : List Connection) (id number : ℕ) → is_some (frame_on (frames.Created id) (table_of cs)) ≡ true → (created : List Connection) × (created_of cs id number ≡ Ok created)
unfolding created_of
open_fits cs id number h = (
  cs ++ opened number ∷ [],
  ap (λ b. if b then Err Spent else after (id == FIRST_ID + length cs)) (sym (ap (nat_le MOST_IDS) many) ∙ not_is (nat_le MOST_IDS (length (table_of cs))) parts.0)
      ∙ ap after (sym (ap (λ (n : ℕ). id == FIRST_ID + n) many) ∙ parts.1),
) where
  many : length (table_of cs) ≡ length cs
  many = length-map cs (λ (c : Connection). c.is_open)

  parts : (not (nat_le MOST_IDS (length (table_of cs))) ≡ true) × ((id == FIRST_ID + length (table_of cs)) ≡ true)
  parts = and_parts (not (nat_le MOST_IDS (length (table_of cs)))) (id == FIRST_ID + length (table_of cs))
      (if_some (not (nat_le MOST_IDS (length (table_of cs))) && (id == FIRST_ID + length (table_of cs))) (table_of cs ++ true ∷ []) h)

  after : Bool → Result (List Connection) LightError
  after b = if b then Ok (cs ++ opened number ∷ []) else Err NotNext
