-- What is so after any first lines of each journal of many nodes: all that was said is carried, under way and got, links have given
-- ids to pairs, and mailboxes stand by the log.
use Rattle.std.proofs.Common.{◌≡◌, ℕ, List, [], ◌++◌, Ok, refl}
use Rattle.ch_model.specs.declared.entry.Entry.{Entry}
use Rattle.ch_model.specs.declared.line.Line.{Line}
use Rattle.ch_model.specs.Journal.{journal_of}
use Rattle.ch_model.specs.LinesBuilt.{many_nodes}
use Rattle.ch_model.specs.World.{world_new, log_from}
use Rattle.ch_model.specs.WorldState.{World}
use Rattle.ch_laws_calls.specs.Calls.{Claim, Both}
use Rattle.ch_laws_calls.specs.Turns.{KeepsTurns}
use Rattle.ch_laws_calls.proofs.TurnsLines.{all_turns}
use Rattle.ch_laws_calls.proofs.TurnsTogether.{weaker, beside, given_with, while_given}
use Rattle.ch_laws_peers.specs.Says.{AllSay}
use Rattle.ch_laws_peers.specs.Standing.{IsOfNodes, Standing}
use Rattle.ch_laws_peers.proofs.Logs.{of_nodes}
use Rattle.ch_laws_messages.specs.CarriedInTime.{AllInTime}
use Rattle.ch_laws_messages.specs.CarriedNexts.{GotsBelow}
use Rattle.ch_laws_messages.proofs.CarriedKept as carried
use Rattle.ch_laws_messages.proofs.CarriedWritten.{all_written}
use Rattle.ch_laws_messages.specs.PayloadsOpens.{AllOpenInTime}
use Rattle.ch_laws_messages.proofs.PayloadsTurns.{openings_fresh, openings_kept}
use Rattle.ch_laws_messages.specs.GotReceived.{AllReceived}
use Rattle.ch_laws_messages.specs.GotReceipts.{AllGotWell}
use Rattle.ch_laws_messages.proofs.GotGotsKept.{gots_kept}
use Rattle.ch_laws_messages.proofs.GotReceivedKept.{fresh_received, received_kept}
use Rattle.ch_laws_messages.proofs.EnteredBelowKept.{below_kept}
use Rattle.ch_laws_messages.proofs.EnteredMailboxes.{mails_kept, firsts_kept}
use Rattle.ch_laws_messages.specs.ArrivedFed.{LastFed}
use Rattle.ch_laws_messages.specs.ArrivedGets.{Arrives, AreGotSo}
use Rattle.ch_laws_messages.proofs.ArrivedFed.{fresh_last, last_turns}
use Rattle.ch_laws_messages.proofs.ArrivedTurns.{fresh_so, got_so_kept}
use Rattle.ch_laws_messages.specs.SendsSends.{AllGive}
use Rattle.ch_laws_messages.specs.SendsTurns.{Told}
use Rattle.ch_laws_messages.proofs.SendsFresh.{fresh_give}
use Rattle.ch_laws_messages.specs.MailMail.{AllMail, TakesFirst}
use Rattle.ch_laws_messages.proofs.MailKept.{fresh_mail}
use Rattle.ch_laws_messages.proofs.AnswersAsks.{ids_given}
use Rattle.ch_laws_messages.proofs.AnswersSpellings.{says_small}
use Rattle.ch_laws_messages.specs.PromisedSpelt.{IsSpelt}
use Rattle.ch_laws_messages.specs.PromisedStands.{Stands}
use Rattle.ch_laws_messages.proofs.PromisedChain.{Spelt, Getting, getting_kept, fresh_getting, to_known_got, reading}
use Rattle.ch_laws_messages.proofs.PromisedNexts.{gets_nexts}
use Rattle.ch_laws_messages.proofs.PromisedSpelt.{first_spelt, front_spelt}

-- what is known, and what was said is spelled and numbered
abbrev Known : List Line → Claim
Known journal = Both (Getting journal) (Spelt journal)

to_told : (journal : List Line) (log : List Entry) (world : World) → Known journal log world → Told journal log world
to_told journal log world b = record { stands = b.0.0.0.0.0; says = b.0.0.0.1; numbered = b.1.numbered; small = says_small journal log b.1.well }

to_said : (journal : List Line) (log : List Entry) (world : World) → Known journal log world → Both (Standing journal) (AllSay journal) log world
to_said journal log world b = (b.0.0.0.0.0, b.0.0.0.1)

-- mailboxes, and what is taken from them
abbrev Mailed : List Line → Claim
Mailed journal = Both (AllMail journal) (TakesFirst journal)

-- what is got
abbrev Got : List Line → Claim
Got journal = Both AllGotWell (Both AllReceived (GotsBelow journal))

-- what is written, in time
abbrev InTime : List Line → Claim
InTime journal = Both (Both (AllInTime journal) (AllOpenInTime journal)) LastFed

abbrev Most : List Line → Claim
Most journal = Both (Getting journal) (Both (Both (Got journal) (InTime journal)) (Both (AllGive journal) (Mailed journal)))

abbrev All : List Line → Claim
All journal = Both (Most journal) (AreGotSo journal)

to_arrives : (journal : List Line) (log : List Entry) (world : World) → Both (Most journal) (Spelt journal) log world → Arrives journal log world
to_arrives journal log world b = record {
  known = to_known_got journal log world (b.0.0, b.1);
  last = b.0.1.0.1.1;
  written = all_written journal log world b.0.0.0.0.0.0 b.0.0.0.0.1 b.0.1.0.1.0.0;
  below = b.0.1.0.0.1.1;
}

module _ (journal : List Line) (n : IsOfNodes journal) where
  mailed_kept : KeepsTurns journal (Known journal) (Known journal) (Mailed journal)
  mailed_kept = given_with (weaker (to_known_got journal) (to_known_got journal) (mails_kept journal n (reading journal n))) (weaker (λ log world b. (to_known_got journal log world b.1, b.0)) (λ log world b. to_known_got journal log world b.1) (firsts_kept journal n (reading journal n)))

  got_kept : KeepsTurns journal (Known journal) (Known journal) (Got journal)
  got_kept = weaker (to_known_got journal) (to_known_got journal) (beside (gots_kept journal n (reading journal n)) (beside (received_kept journal n (reading journal n)) (below_kept journal n (reading journal n))))

  in_time_kept : KeepsTurns journal (Known journal) (Known journal) (InTime journal)
  in_time_kept = beside (weaker (to_said journal) (to_said journal) (beside (carried.in_time_kept journal) (openings_kept journal))) (weaker (λ log world b. b.0.0.0.0.0) (λ log world b. b.0.0.0.0.0) (last_turns journal n))

  most_kept : KeepsTurns journal (Spelt journal) (Spelt journal) (Most journal)
  most_kept = given_with (getting_kept journal n) (beside (beside got_kept in_time_kept) (beside (weaker (to_told journal) (to_told journal) (ids_given journal n)) mailed_kept))

  all_kept : KeepsTurns journal (Spelt journal) (Spelt journal) (All journal)
  all_kept = given_with most_kept (weaker (to_arrives journal) (λ log world b. to_known_got journal log world (b.0.0, b.1)) (got_so_kept journal n (reading journal n) (gets_nexts journal n (reading journal n))))

fresh_all : (journal : List Line) → IsOfNodes journal → All journal [] (world_new journal)
fresh_all journal n = ((fresh_getting journal n, (((tt, (fresh_received journal, λ party pair x. tt)), ((carried.fresh journal, openings_fresh journal), fresh_last journal)), (fresh_give journal, (fresh_mail journal n.is n.apart, refl)))), fresh_so journal)

as_stands : (journal : List Line) (log : List Entry) (world : World) → All journal log world → Stands journal log world
as_stands journal log world a = record {
  standing = a.0.0.0.0.0.0;
  runs = a.0.0.0.0.0.1;
  says = a.0.0.0.0.1;
  comes = a.0.0.0.1;
  gets = a.0.0.1;
  got_well = a.0.1.0.0.0;
  received = a.0.1.0.0.1.0;
  got_below = a.0.1.0.0.1.1;
  in_time = a.0.1.0.1.0.0;
  opens = a.0.1.0.1.0.1;
  last_fed = a.0.1.0.1.1;
  gives = a.0.1.1.0;
  mail = a.0.1.1.1.0;
  takes = a.0.1.1.1.1;
  got_so = a.1;
}

-- after any first lines
pub all_stand : (bytes : List ℕ) (front rest : List Line) → front ++ rest ≡ journal_of many_nodes bytes → (log : List Entry) (world : World) → log_from (world_new (journal_of many_nodes bytes)) front ≡ Ok (log, world) → Stands (journal_of many_nodes bytes) log world
all_stand bytes front rest whole log world is =
    let journal = journal_of many_nodes bytes in
    let n = of_nodes bytes in
    as_stands journal log world (all_turns journal n.is (λ log world. IsSpelt journal log → All journal log world) (while_given (first_spelt journal) (all_kept journal n)) (λ s. fresh_all journal n) front rest whole log world is (front_spelt bytes front rest whole log world is))
