use Rattle.ch_laws_log.proofs.FedOwn.{fed_first}
use Rattle.ch_laws_log.proofs.Told.{good_after}
use Rattle.ch_laws_log.proofs.fed_entry_first.Goals as goal

pub returns : goal.returns
returns c = λ journal lines log world s e count told after is placed not_refused done. fed_first journal log world s e count told after (good_after journal lines log world is) placed not_refused done
