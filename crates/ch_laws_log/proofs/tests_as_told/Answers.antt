use Rattle.ch_laws_log.proofs.Happens.{join_told, come_told, come_answered, feed_told}
use Rattle.ch_laws_log.proofs.Told.{good_after}
use Rattle.ch_laws_log.proofs.tests_as_told.Goals as goal

pub returns-clause-join : goal.returns-clause-join
returns-clause-join c = λ journal lines log world s is placed not_refused. join_told journal log world s (good_after journal lines log world is) placed not_refused

pub returns-clause-come : goal.returns-clause-come
returns-clause-come c = λ journal lines log world s is placed. come_told journal log world s (good_after journal lines log world is) placed

pub returns-clause-feed : goal.returns-clause-feed
returns-clause-feed c = λ journal lines log world s e count is placed owned not_refused. feed_told journal log world s e count (good_after journal lines log world is) placed owned not_refused

pub returns-clause-came : goal.returns-clause-came
returns-clause-came c = λ journal lines log world s verdict told after is placed done. come_answered journal log world s verdict told after (good_after journal lines log world is) placed done
