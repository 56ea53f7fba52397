use Rattle.ch_laws_messages.proofs.SendsFresh.{fresh_give}
use Rattle.ch_laws_messages.proofs.SendsKept.{gives_kept}
use Rattle.ch_laws_messages.proofs.sends.ids_are_given_to_pairs.Goals as goal

pub returns-clause-kept : goal.returns-clause-kept
returns-clause-kept c = gives_kept

pub returns-clause-fresh : goal.returns-clause-fresh
returns-clause-fresh c = fresh_give
