-- Each thing that happens keeps each two nodes a pair that comes about by moves.
use Rattle.std.specs.Prelude.{◌+◌, ◌∷◌, List}
use Rattle.ch_model.specs.declared.line.Line.{Line}
use Rattle.ch_laws_calls.specs.Calls.{KeepsCalls, Anything, done_at, joined_in, come_in, fed_in}
use Rattle.ch_laws_calls.specs.Scenes.{Raced}
use Rattle.ch_laws_raced.proofs.RaceCallsRaced.{reached_on, marked_raced, noted_raced, seated_raced, connected_raced, sent_raced, closed_raced}
use Rattle.ch_laws_raced.proofs.RaceItemsItems.{keeps_raced}
use Rattle.ch_laws_raced.proofs.RaceLinesComes.{comes_moved}
use Rattle.ch_laws_raced.proofs.RaceLinesFeeds.{feeds_moved}
use Rattle.ch_laws_raced.proofs.RaceLinesJoins.{joins_moved}
use Rattle.ch_laws_raced.proofs.RaceLinesOvers.{overs_moved}
use Rattle.ch_laws_raced.specs.Given.{Given}

pub raced_kept : (journal : List Line) → KeepsCalls journal (Given journal) Anything (Raced journal)
raced_kept journal = record {
  marked = λ log world number answer g r q. marked_raced journal log world r number answer;
  noted = λ log world note g r q. noted_raced journal log world r note;
  seated = λ log world place cell nodes at same g r q. seated_raced journal log world r place cell at nodes;
  connected = λ log world place cell end peer conn steps host at so g r q. connected_raced journal log world r place cell at g.sound g.shown steps host end peer conn so;
  sent = λ log world place cell end conn payload weight steps host at so g r q. sent_raced journal log world r place cell at g.sound g.shown steps host end conn payload weight g.unshut so;
  closed = λ log world place cell end conn steps host at so g r q. closed_raced journal log world r place cell at g.sound g.shown steps host end conn so;
  joined = λ log world socket place n cell steps host is can held called read g r q party pair. reached_on party world (done_at place cell steps host (joined_in socket world)).1 (r party pair)
      (joins_moved journal log world g.sound party (g.shown party pair) socket place n cell steps host is can held called);
  came = λ log world socket place cell steps host is can at called read g r q party pair. reached_on party world (done_at place (cell.0, cell.1 + 1) steps host (come_in place cell socket world)).1 (r party pair)
      (comes_moved journal log world g.sound party (g.shown party pair) socket place cell steps host is can at called);
  fed = λ log world socket which count b bytes place n cell steps host is can handed held called read g r q party pair. reached_on party world (done_at place cell steps host (fed_in which count socket world)).1 (r party pair)
      (feeds_moved world party (g.shown party pair) socket which count (b ∷ bytes) place n cell steps host is can handed held called);
  ended = λ log world socket which place n cell steps host is can none held called read g r q party pair. reached_on party world (done_at place cell steps host world).1 (r party pair)
      (overs_moved journal log world g.sound party (g.shown party pair) socket which place n cell steps host is can none held called read);
  item = λ log world place cell steps host at next g r q. keeps_raced journal log world place cell steps host at next g.sound g.shown g.fit r;
}
