-- Ids that the other end of a link creates, and the connections that they stand for.
use Rattle.std.proofs.Common.{◌≡◌, ℕ, ◌+◌, ◌-◌, arith, Bool, true, false, not, cond, ◌&&◌, ◌==◌, nat_le, nat_lt, List, [], ◌∷◌, ◌++◌, length, None, Result, Ok, Err, refl, ap, sym, ◌∙◌}
use Rattle.std.specs.Prelude.{slice_set}
use Rattle.std.proofs.lemmas.List.{length-append, length-set}
use Rattle.ch_light.specs.declared.TheConstants.{FIRST_ID, MOST_IDS}
use Rattle.ch_light.specs.declared.Connection.{Connection}
use Rattle.ch_light.specs.declared.error.LightError.{LightError}
use Rattle.ch_light.specs.declared.error.LightError.TheVariants.{Spent, NotNext}
use Rattle.ch_light.specs.Ids.{opened, closed, closed_by, created_of, conn_of, closed_of}
use Rattle.ch_endpoint.specs.Arrivals.{may_create, number_of}

-- what the other end may create, it creates
pub created_so : (id number : ℕ) (table : List Connection) → may_create id table ≡ true → created_of table id number ≡ Ok (table ++ opened number ∷ [])
unfolding created_of
created_so id number table may = by_tests (nat_le MOST_IDS (length table)) (id == FIRST_ID + length table) may
  where
    by_tests : (a b : Bool) → (not a && b) ≡ true → Path (Result (List Connection) LightError) (cond a (Err Spent) (cond b (Ok (table ++ opened number ∷ [])) (Err NotNext))) (Ok (table ++ opened number ∷ []))
    by_tests true b m = absurd cc
    by_tests false false m = absurd cc
    by_tests false true m = refl

pub created_next : (id number : ℕ) (table new : List Connection) → may_create id table ≡ true → created_of table id number ≡ Ok new → new ≡ table ++ opened number ∷ []
created_next id number table new may made = let same : Path (Result (List Connection) LightError) (Ok new) (Ok (table ++ opened number ∷ [])) = sym made ∙ created_so id number table may in cc

-- on a link that wasn't used no id stands for a connection
pub none_stands : (id : ℕ) → number_of (conn_of [] id) ≡ None
unfolding conn_of
none_stands id = by_test (nat_lt id FIRST_ID)
  where
    by_test : (b : Bool) → number_of (cond b (Err LightError.NotOpen) (Err LightError.NotOpen)) ≡ None
    by_test true = refl
    by_test false = refl

pub created_more : (id number count : ℕ) (table new : List Connection) → may_create id table ≡ true → created_of table id number ≡ Ok new → count ≡ length table → count + 1 ≡ length new
created_more id number count table new may made is =
    let grown : new ≡ table ++ opened number ∷ [] = created_next id number table new may made in
    let size : length new ≡ length (table ++ opened number ∷ []) = ap length grown in
    omega (arith, size, is, length-append table (opened number ∷ []))

-- an id that is closed leaves as many
pub closed_as_many : (id number : ℕ) (table new : List Connection) → closed_of table id ≡ Ok (number, new) → length new ≡ length table
unfolding closed_of
closed_as_many id number table new e = by_case (conn_of table id) e
  where
    by_case : (r : Result ℕ LightError) → Path (Result (ℕ × List Connection) LightError) (closed_by table id r) (Ok (number, new)) → length new ≡ length table
    by_case (Err x) e = absurd cc
    by_case (Ok n) e = let same : slice_set table (id - FIRST_ID) (closed n) ≡ new = ap tables e in sym (ap length same) ∙ length-set table (id - FIRST_ID) (closed n)
      where
        tables : Result (ℕ × List Connection) LightError → List Connection
        tables (Ok x) = x.1
        tables (Err y) = []
