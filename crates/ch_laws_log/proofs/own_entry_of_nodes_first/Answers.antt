use Rattle.std.proofs.Common.{refl, arith}
use Rattle.ch_watch.specs.Same.{same_node}
use Rattle.ch_model.specs.World.{names_of}
use Rattle.ch_laws_log.specs.Declared.{begins_own}
use Rattle.ch_laws_log.proofs.Agreeing.{Good}
use Rattle.ch_laws_log.proofs.Blocks.{all_own}
use Rattle.ch_laws_log.proofs.Homes.{Housed, fresh_housed}
use Rattle.ch_laws_log.proofs.NodeEntries.{node_line_own, both_kept}
use Rattle.ch_laws_log.proofs.Told.{fresh}
use Rattle.ch_laws_log.proofs.own_entry_of_nodes_first.Goals as goal

pub returns-clause-law : goal.returns-clause-law
returns-clause-law c = λ least journal log numbered apart of is. all_own least journal (λ l w. Good journal l w × Housed journal w) (begins_own (names_of journal)) log (node_line_own journal apart) (both_kept journal) (fresh journal, fresh_housed journal) numbered of is

pub returns-clause-such : goal.returns-clause-such
unfolding same_node
returns-clause-such c = (
  (omega arith, (omega arith, (omega arith, (omega arith, (omega arith, (omega arith, (omega arith, (omega arith, (omega arith, (omega arith, (omega arith, tt))))))))))),
  (refl, (refl, tt)),
  (refl, (refl, (refl, (refl, (refl, (refl, (refl, (refl, (refl, (refl, (refl, tt))))))))))),
)
