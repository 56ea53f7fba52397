use Rattle.ch_laws_log.proofs.Told.{good_after, sockets_opened, opener_as_told, target_as_told}
use Rattle.ch_laws_log.proofs.sockets_as_told.Goals as goal

pub returns-clause-sockets : goal.returns-clause-sockets
returns-clause-sockets c = λ journal lines log world s is. sockets_opened journal lines log world s is

pub returns-clause-openers : goal.returns-clause-openers
returns-clause-openers c = λ journal lines log world s socket is found not_refused. opener_as_told journal log world s socket (good_after journal lines log world is) found not_refused

pub returns-clause-targets : goal.returns-clause-targets
returns-clause-targets c = λ journal lines log world s socket is found placed. target_as_told journal log world s socket (good_after journal lines log world is) found placed
