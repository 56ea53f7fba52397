use Rattle.ch_laws_writes.proofs.Asked.{log_asks_by_name}
use Rattle.ch_laws_writes.proofs.ReadBack.{log_items, log_reads_back, log_writes_items, log_accepting, target_items, opener_frames}
use Rattle.ch_laws_writes.proofs.Scenes.{scene_meets_all}
use Rattle.ch_laws_writes.proofs.logs_write_items.Goals as goal

pub returns-clause-items : goal.returns-clause-items
returns-clause-items c = log_items

pub returns-clause-read_back : goal.returns-clause-read_back
returns-clause-read_back c = log_reads_back

pub returns-clause-after_accepting : goal.returns-clause-after_accepting
returns-clause-after_accepting c = log_accepting

pub returns-clause-targets : goal.returns-clause-targets
returns-clause-targets c = target_items

pub returns-clause-openers : goal.returns-clause-openers
returns-clause-openers c = opener_frames

pub returns-clause-as_accounted : goal.returns-clause-as_accounted
returns-clause-as_accounted c = log_writes_items

pub returns-clause-such : goal.returns-clause-such
returns-clause-such c = scene_meets_all

pub returns-clause-by_name : goal.returns-clause-by_name
returns-clause-by_name c = log_asks_by_name
