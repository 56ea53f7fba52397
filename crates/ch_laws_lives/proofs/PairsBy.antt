-- The pair of a process and a target is the process's.
use Rattle.std.proofs.Common.{◌≡◌, ℕ, Bool, true, false, cond, ◌==◌, ◌&&◌, List, [], ◌∷◌, refl}
use Rattle.std.proofs.lemmas.Bool.{and_parts}
use Rattle.std.specs.Prelude.{find, Some, unwrap_or}
use Rattle.ch_static.specs.declared.target.Target.{Target}
use Rattle.ch_model.specs.NodeState.{Pair}
use Rattle.ch_model.specs.NodePairs.{is_pair, new_pair, pair_of, same_target}
use Rattle.ch_laws_log.proofs.Stored.{number_is}

pub pair_by : (pairs : List Pair) (by : ℕ) (to : Target) → (pair_of pairs by to).by ≡ by
unfolding pair_of is_pair
pair_by [] by to = refl
pair_by (known ∷ rest) by to = by_test ((known.by == by) && same_target known.to to) refl (pair_by rest by to) where
  by_test : (x : Bool) → ((known.by == by) && same_target known.to to) ≡ x → (unwrap_or (find (is_pair by to) rest) (new_pair by to)).by ≡ by
      → (unwrap_or (cond x (Some known) (find (is_pair by to) rest)) (new_pair by to)).by ≡ by
  by_test true h more = number_is known.by by (and_parts (known.by == by) (same_target known.to to) h).0
  by_test false h more = more
