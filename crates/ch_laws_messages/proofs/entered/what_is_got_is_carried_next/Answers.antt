use Rattle.ch_laws_messages.proofs.EnteredBelowKept.{reads_enter, below_kept}
use Rattle.ch_laws_messages.proofs.entered.what_is_got_is_carried_next.Goals as goal

pub returns-clause-next : goal.returns-clause-next
returns-clause-next c = reads_enter

pub returns-clause-fresh : goal.returns-clause-fresh
returns-clause-fresh c = λ journal party pair x. tt

pub returns-clause-kept : goal.returns-clause-kept
returns-clause-kept c = below_kept
