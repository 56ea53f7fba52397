use Rattle.ch_laws_plain_logs.specs.Plain.{IsPlain}
use Rattle.ch_laws_raced.specs.UnbrokenBreaks.{NoBreaks}
use Rattle.ch_laws_peers.proofs.Logs.{many_stand, by_log}
use Rattle.ch_laws_peers.proofs.all_dials_are_of_peers.Goals as goal

pub returns-clause-peers : goal.returns-clause-peers
returns-clause-peers z = λ bytes front rest whole log world is. (many_stand bytes front rest whole log world is).peers

pub returns-clause-unbroken : goal.returns-clause-unbroken
returns-clause-unbroken z = λ bytes. by_log bytes NoBreaks (λ log world s. s.unbroken)

pub returns-clause-plain : goal.returns-clause-plain
returns-clause-plain z = λ bytes. by_log bytes IsPlain (λ log world s. s.kinds)
