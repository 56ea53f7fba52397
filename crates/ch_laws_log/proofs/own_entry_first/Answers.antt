use Rattle.ch_laws_log.specs.Lines.{is_of_network}
use Rattle.ch_laws_log.proofs.Agreeing.{Good}
use Rattle.ch_laws_log.proofs.Blocks.{all_own, good_kept}
use Rattle.ch_laws_log.proofs.OwnEntries.{line_own}
use Rattle.ch_laws_log.proofs.Told.{fresh}
use Rattle.ch_laws_log.proofs.own_entry_first.Goals as goal

pub returns : goal.returns
returns c = λ least journal log numbered of is. all_own least journal (Good journal) is_of_network log (line_own journal) (good_kept journal) (fresh journal) numbered of is
