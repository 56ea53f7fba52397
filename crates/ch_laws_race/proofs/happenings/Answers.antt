use Rattle.ch_laws_race.proofs.Happens.{join_happens, come_happens, feed_happens, item_happens}
use Rattle.ch_laws_race.proofs.happenings.Goals as goal

pub returns-clause-join : goal.returns-clause-join
returns-clause-join z = λ scene x cell i s known h all. join_happens scene x cell i s known h all

pub returns-clause-come : goal.returns-clause-come
returns-clause-come z = λ scene x cell i s h all. come_happens scene x cell i s h all

pub returns-clause-feed : goal.returns-clause-feed
returns-clause-feed z = λ scene x cell e i count s known h some all. feed_happens scene x cell e i count s known h some all

pub returns-clause-item : goal.returns-clause-item
returns-clause-item z = λ scene x cell e i count s known moves h. item_happens scene x cell e i count s known moves h
