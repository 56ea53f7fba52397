-- What each move keeps, all moves keep.
use Rattle.std.proofs.Common.{◌≡◌, List, [], ◌∷◌, ◌++◌, refl, ap, sym, ◌∙◌, subst}
use Rattle.ch_race.specs.Pair.{Pair, start}
use Rattle.ch_race.specs.Moves.{Move, Allowed, after, run, AllAllowed}
use Rattle.ch_race.specs.Invariant.{Invariant, IsReached}
use Rattle.ch_race.proofs.Opens.{opens}
use Rattle.ch_race.proofs.QuietMoves.{invariant_kept, invariant_start}

pub invariant_after : (m : Move) (p : Pair) → Allowed m p → Invariant p → Invariant (after m p)
invariant_after m p is v = subst Invariant (sym (opens m p is v.named)) (invariant_kept m p is v)

pub invariant_run : (ms : List Move) (p : Pair) → AllAllowed ms p → Invariant p → Invariant (run ms p)
invariant_run [] p are v = v
invariant_run (m ∷ ms) p (is, are) v = invariant_run ms (after m p) are (invariant_after m p is v)

pub invariant_reached : (p : Pair) → IsReached p → Invariant p
invariant_reached p r = subst Invariant r.3 (invariant_run r.1 (start r.0) r.2 (invariant_start r.0))

pub run_append : (ms ns : List Move) (p : Pair) → run (ms ++ ns) p ≡ run ns (run ms p)
run_append [] ns p = refl
run_append (m ∷ ms) ns p = run_append ms ns (after m p)

pub allowed_append : (ms ns : List Move) (p : Pair) → AllAllowed ms p → AllAllowed ns (run ms p) → AllAllowed (ms ++ ns) p
allowed_append [] ns p are more = more
allowed_append (m ∷ ms) ns p (is, are) more = (is, allowed_append ms ns (after m p) are more)

-- what is reached goes on
pub reached_more : (ms : List Move) (p : Pair) → IsReached p → AllAllowed ms p → IsReached (run ms p)
reached_more ms p r are =
    let more : AllAllowed ms (run r.1 (start r.0)) = subst (AllAllowed ms) (sym r.3) are in
    (r.0, r.1 ++ ms, allowed_append r.1 ms (start r.0) r.2 more, run_append r.1 ms (start r.0) ∙ ap (run ms) r.3)
