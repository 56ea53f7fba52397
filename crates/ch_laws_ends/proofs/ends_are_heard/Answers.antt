use Rattle.ch_model.specs.WorldHappenings.{joins, refuses, feeds, loses}
use Rattle.ch_model.specs.WorldLines.{can_join, can_refuse, can_feed, is_at_work}
use Rattle.ch_laws_ends.proofs.Heard.{tests_same, joins_done, refuses_done, feeds_done, loses_done, socket_answered, answer_is}
use Rattle.ch_laws_ends.proofs.Lines.{sure_after}
use Rattle.ch_laws_ends.proofs.ends_are_heard.Goals as goal

pub returns-clause-stands : goal.returns-clause-stands
returns-clause-stands c = λ journal lines log world s socket e place number cell test is found of at. tests_same journal log world s socket e place number cell test (sure_after journal lines log world is) found of at

pub returns-clause-join : goal.returns-clause-join
returns-clause-join c = λ journal lines log world s verdict told after is done. answer_is _ verdict told after _ (socket_answered s can_join joins world (λ socket there can. joins_done journal log world socket (sure_after journal lines log world is) there can)) done

pub returns-clause-refuse : goal.returns-clause-refuse
returns-clause-refuse c = λ journal lines log world s verdict told after is done. answer_is _ verdict told after _ (socket_answered s can_refuse refuses world (λ socket there can. refuses_done journal log world socket (sure_after journal lines log world is) there can)) done

pub returns-clause-feed : goal.returns-clause-feed
returns-clause-feed c = λ journal lines log world s e count verdict told after is done. answer_is _ verdict told after _ (socket_answered s (can_feed e) (feeds e count) world (λ socket there can. feeds_done journal log world e count socket (sure_after journal lines log world is) there can)) done

pub returns-clause-lose : goal.returns-clause-lose
returns-clause-lose c = λ journal lines log world s e verdict told after is done. answer_is _ verdict told after _ (socket_answered s (is_at_work e) (loses e) world (λ socket there can. loses_done journal log world e socket (sure_after journal lines log world is) there can)) done
