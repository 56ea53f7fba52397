-- Each turn keeps it that links have given an id for each pair of processes that has said something.
use Rattle.std.proofs.Common.{List, ◌∷◌, length}
use Rattle.ch_model.specs.declared.line.Line.{Line}
use Rattle.ch_laws_calls.specs.Turns.{KeepsTurns}
use Rattle.ch_laws_peers.specs.Standing.{IsOfNodes}
use Rattle.ch_laws_messages.specs.SendsSends.{AllGive}
use Rattle.ch_laws_messages.specs.SendsTurns.{Told, EndsAskNone, ItemsAskNone}
use Rattle.ch_laws_messages.proofs.SendsAsked.{made_gives, asked_gives}
use Rattle.ch_laws_messages.proofs.SendsQuiet.{marked_gives, joined_gives, came_gives, fed_gives, ended_gives, item_gives}

pub gives_kept : (journal : List Line) → IsOfNodes journal → EndsAskNone (Told journal) → ItemsAskNone (Told journal) → KeepsTurns journal (Told journal) (Told journal) (AllGive journal)
gives_kept journal nodes ends items = record {
  marked = λ log world number what answer found of p g q. marked_gives journal log world number answer p.stands.kinds q.stands.kinds g;
  made = λ log world place cell end number node acts next told after at found make e p g q. made_gives journal log world place cell end number node acts next told after at found make e p q.stands.kinds g;
  asked = λ log world what by command place cell number node acts next told after line at found does e p g q. asked_gives journal nodes log world p what by command place cell number node line at found acts next told after does e q g;
  joined = λ log world socket place n cell steps host is can held called read p g q. joined_gives journal log world socket place n cell steps host called p.stands.kinds q.stands.kinds g;
  came = λ log world socket place cell steps host is can of called read p g q. came_gives journal log world socket place cell steps host called p.stands.kinds q.stands.kinds g;
  fed = λ log world socket which count b bytes place n cell steps host is can took held called read p g q. fed_gives journal log world socket which count (length (b ∷ bytes)) b bytes place n cell steps host called p.stands.kinds q.stands.kinds g;
  ended = λ log world socket which place n cell steps host told after is can none held called e read p g q. ended_gives journal ends log world socket which place n cell steps host told after called e p q.stands.kinds g;
  item = λ log world place cell steps host told after at next e p g q. item_gives journal items log world place cell steps host told after at next e p q.stands.kinds g;
}
