use Rattle.ch_laws_bytes.proofs.Items.{opener_has, target_has, named_has}
use Rattle.ch_laws_bytes.proofs.ends_have_items.Goals as goal

pub returns-clause-opener : goal.returns-clause-opener
returns-clause-opener c = opener_has

pub returns-clause-target : goal.returns-clause-target
returns-clause-target c = target_has

pub returns-clause-named : goal.returns-clause-named
returns-clause-named c = named_has
