use Rattle.std.proofs.Common.{sym, ◌∙◌}
use Rattle.ch_model.specs.WorldHappenings.{joins, refuses, feeds, loses}
use Rattle.ch_model.specs.WorldLines.{can_join, can_refuse, can_feed, is_at_work}
use Rattle.ch_laws_log.proofs.Happens.{come_answered}
use Rattle.ch_laws_ends.proofs.Answered.{join_told, refuse_told, feed_told, lose_told}
use Rattle.ch_laws_ends.proofs.Mirrored.{opener_told}
use Rattle.ch_laws_ends.proofs.Heard.{joins_done, refuses_done, feeds_done, loses_done, socket_answered, answer_is}
use Rattle.ch_laws_ends.proofs.Lines.{sure_after}
use Rattle.ch_laws_ends.proofs.answers_as_told.Goals as goal

pub returns-clause-join : goal.returns-clause-join
returns-clause-join c = λ journal lines log world s verdict told after is placed done. let sure = sure_after journal lines log world is in
    answer_is _ verdict told after _ (socket_answered s can_join joins world (λ socket there can. joins_done journal log world socket sure there can)) done ∙ sym (join_told journal log world s sure.ends.sorted.0 placed (λ socket found. opener_told journal lines log world s socket is sure found))

pub returns-clause-come : goal.returns-clause-come
returns-clause-come c = λ journal lines log world s verdict told after is placed done. come_answered journal log world s verdict told after (sure_after journal lines log world is).ends.sorted.0 placed done

pub returns-clause-refuse : goal.returns-clause-refuse
returns-clause-refuse c = λ journal lines log world s verdict told after is done. let sure = sure_after journal lines log world is in
    answer_is _ verdict told after _ (socket_answered s can_refuse refuses world (λ socket there can. refuses_done journal log world socket sure there can)) done ∙ sym (refuse_told journal log world s sure.ends.sorted.0 (λ socket found. opener_told journal lines log world s socket is sure found))

pub returns-clause-feed : goal.returns-clause-feed
returns-clause-feed c = λ journal lines log world s e count verdict told after is placed owned done. let sure = sure_after journal lines log world is in
    answer_is _ verdict told after _ (socket_answered s (can_feed e) (feeds e count) world (λ socket there can. feeds_done journal log world e count socket sure there can)) done ∙ sym (feed_told journal log world s e count sure placed owned (λ socket found. opener_told journal lines log world s socket is sure found))

pub returns-clause-lose : goal.returns-clause-lose
returns-clause-lose c = λ journal lines log world s e verdict told after is placed owned done. let sure = sure_after journal lines log world is in
    answer_is _ verdict told after _ (socket_answered s (is_at_work e) (loses e) world (λ socket there can. loses_done journal log world e socket sure there can)) done ∙ sym (lose_told journal log world s e sure placed owned (λ socket found. opener_told journal lines log world s socket is sure found))
