use Rattle.ch_laws_plain_logs.proofs.Absent.{none_breaks, no_pair_broken, first_epoch, none_watched, none_stands, none_named, none_shut, none_doomed}
use Rattle.ch_laws_plain_logs.proofs.plain_logs_have_no_more.Goals as goal

pub returns-clause-breaks : goal.returns-clause-breaks
returns-clause-breaks c = none_breaks

pub returns-clause-waits : goal.returns-clause-waits
returns-clause-waits c = no_pair_broken

pub returns-clause-epochs : goal.returns-clause-epochs
returns-clause-epochs c = first_epoch

pub returns-clause-watches : goal.returns-clause-watches
returns-clause-watches c = none_watched

pub returns-clause-names : goal.returns-clause-names
returns-clause-names c = none_stands

pub returns-clause-named : goal.returns-clause-named
returns-clause-named c = none_named

pub returns-clause-shut : goal.returns-clause-shut
returns-clause-shut c = none_shut

pub returns-clause-doomed : goal.returns-clause-doomed
returns-clause-doomed c = none_doomed
