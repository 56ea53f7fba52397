use Rattle.ch_laws_plain_logs.proofs.Absent.{all_unbroken, over_by_end, lives_until_end, ever_dialed}
use Rattle.ch_laws_plain_logs.proofs.Simply.{up_since_risen, said_between_plainly, carried_next}
use Rattle.ch_laws_plain_logs.proofs.plain_logs_read_simply.Goals as goal

pub returns-clause-unbroken : goal.returns-clause-unbroken
returns-clause-unbroken c = all_unbroken

pub returns-clause-over : goal.returns-clause-over
returns-clause-over c = over_by_end

pub returns-clause-lives : goal.returns-clause-lives
returns-clause-lives c = lives_until_end

pub returns-clause-dialed : goal.returns-clause-dialed
returns-clause-dialed c = ever_dialed

pub returns-clause-up : goal.returns-clause-up
returns-clause-up c = up_since_risen

pub returns-clause-said : goal.returns-clause-said
returns-clause-said c = said_between_plainly

pub returns-clause-carried : goal.returns-clause-carried
returns-clause-carried c = carried_next
