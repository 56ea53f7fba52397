use Rattle.std.specs.Prelude.{◌≡◌, ℕ, zero, suc, Bool, true, false, ◌==◌, ◌||◌, nat_eq, [], ◌∷◌, slice_get, if◌then◌else◌}
use Rattle.std.proofs.Common.{refl, ap, sym, arith}
use Rattle.std.proofs.lemmas.Bool.{eqb-true}
use Rattle.std.proofs.lemmas.Bool.Decides.{nat_tests}
use Rattle.ch_light.specs.Ids.{id_of, close_of}
use Rattle.ch_mail.specs.Mail.{life_of}
use Rattle.ch_watch.specs.Same.{same_node}
use Rattle.ch_model.specs.NodeActs.{growing}
use Rattle.ch_model.specs.NodePairs.{pair_of, is_pair, same_target, same_process, closed_pairs}
use Rattle.ch_link.specs.declared.LinkState.TheVariants.{Up}
use Rattle.ch_laws_delivery.specs.Sending.{is_over_at}
use Rattle.ch_laws_delivery.specs.Endings.{has, is_by}
use Rattle.ch_laws_delivery.specs.Rows.{the_names, said_once}
use Rattle.ch_laws_delivery.specs.EndingRows.{over_here}
use Rattle.ch_laws_delivery.proofs.endings.Goals as goal

pub returns-clause-broken : goal.returns-clause-broken
unfolding life_of pair_of is_pair same_target same_process growing id_of same_node close_of closed_pairs
returns-clause-broken z = record { known = refl; lives = refl; broke = refl; away = refl; grows = refl }

pub returns-clause-bare : goal.returns-clause-bare
unfolding life_of pair_of is_pair same_target same_process growing id_of same_node close_of closed_pairs
returns-clause-bare z = record { known = refl; lives = refl; bare = refl; grows = refl }

pub returns-clause-parting : goal.returns-clause-parting
unfolding life_of pair_of is_pair same_target same_process growing id_of same_node close_of closed_pairs
returns-clause-parting z = record { carried = refl; closes = refl; used = refl }

pub returns-clause-ending : goal.returns-clause-ending
unfolding life_of pair_of is_pair same_target same_process growing id_of same_node close_of closed_pairs
returns-clause-ending z = record {
  ends = record { pairs = refl; shut = refl; over = λ by. over_as by };
  all = λ d. all_as d;
  distinct = (refl, tt);
  opens = ((refl, refl), tt);
  bare = tt;
  part = (record { carried = refl; closes = refl; used = refl }, tt);
} where
  later : (i : ℕ) → (suc i == 0) ≡ false
  later i = by_test (suc i == 0) refl where
    differ : (i : ℕ) → suc i ≡ 0 → ⊥
    differ i h = cc

    by_test : (b : Bool) → (suc i == 0) ≡ b → b ≡ false
    by_test false is = refl
    by_test true is = absurd (differ i (eqb-true (suc i) 0 is))

  apart : (i : ℕ) → nat_eq (suc i) 0 ≡ false
  apart i = grind (arith, nat_tests)

  over_as : (by : ℕ) → is_over_at over_here by ≡ (if by == 0 then true else is_over_at (said_once (Up 0 false)).from.node by)
  over_as zero = refl
  over_as (suc by) = sym (ap (λ b. if b then true else is_over_at (said_once (Up 0 false)).from.node (suc by)) (later by))

  all_as : (d : ℕ) → has (0 ∷ []) d ≡ is_by 0 (slice_get the_names d)
  all_as zero = refl
  all_as (suc d) = ap (λ b. b || false) (apart d)
