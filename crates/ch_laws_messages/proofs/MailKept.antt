-- What stands in mailboxes by the log is kept turn by turn, and what is taken is the first that is left.
use Rattle.std.proofs.Common.{◌≡◌, ◌≤◌, ℕ, List, [], ◌∷◌, ◌++◌, refl, arith}
use Rattle.std.specs.Prelude.{slice_get}
use Rattle.ch_mail.specs.Process.{Process}
use Rattle.ch_model.specs.declared.entry.Entry.{Entry}
use Rattle.ch_model.specs.declared.line.Line.{Line}
use Rattle.ch_model.specs.declared.name.ProcName.{ProcName}
use Rattle.ch_model.specs.Epochs.{FollowsEpochs}
use Rattle.ch_model.specs.Mailboxes.{takes_the_first}
use Rattle.ch_model.specs.World.{names_of, nodes_of, first_of_hosts, world_new}
use Rattle.ch_model.specs.WorldState.{World}
use Rattle.ch_laws_acting.specs.Rolls.{rests_of, roll_of}
use Rattle.ch_laws_acting.proofs.CellRests.{roll_found}
use Rattle.ch_laws_acting.proofs.WorldRests.{Alive, fresh_alive}
use Rattle.ch_laws_calls.specs.Calls.{Claim, Both}
use Rattle.ch_laws_log.proofs.Blocks.{each_append}
use Rattle.ch_laws_many.specs.ManyLines.{AreNamedApart}
use Rattle.ch_laws_many.proofs.Reached.{IsJournal}
use Rattle.ch_laws_calls.specs.Turns.{KeepsTurns}
use Rattle.ch_laws_messages.specs.MailGiven.{Given}
use Rattle.ch_laws_messages.specs.MailMail.{MailStands, AllMail, TakesFirst, GoesOn, waiting_for}
use Rattle.ch_laws_messages.specs.MailSaid.{GotsAreSaid}
use Rattle.ch_laws_messages.proofs.MailTurns.{marked_goes, made_goes, asked_goes, joined_goes, came_goes, fed_goes, ended_goes, item_goes}

-- ---- where nothing has happened

none_there : (journal : List Line) (p : ProcName) (mail : List Process) (n : ℕ) → rests_of mail ≡ [] → MailStands journal [] p (waiting_for (slice_get mail n))
none_there journal p [] n e = λ word. record { within = nothing; left = refl } where
  nothing : 0 ≤ 0
  nothing = omega arith
none_there journal p (x ∷ mail) n e = absurd cc

pub fresh_mail : (journal : List Line) → IsJournal journal → AreNamedApart (names_of journal) → AllMail journal [] (world_new journal)
fresh_mail journal j named = record {
  stands = λ place cell end there number at found alive. none_there journal _ there.1.mail number (fresh.agrees place cell at end (roll_of there.1) (roll_found end cell.0.nodes there found));
  reached = fresh.reached;
} where
  fresh : Alive (names_of journal) (first_of_hosts [] (nodes_of journal)) [] (world_new journal)
  fresh = fresh_alive journal j.apart named

-- ---- turn by turn

module _ (journal : List Line) (P Q : Claim) (j : IsJournal journal) (named : AreNamedApart (names_of journal)) (given : (log : List Entry) (world : World) → P log world → Given journal log world) (follows : (log : List Entry) (world : World) → Q log world → FollowsEpochs log) (gots : GotsAreSaid P Q) where
  pub mail_kept : KeepsTurns journal P Q (AllMail journal)
  mail_kept = record {
    marked = λ log world number what answer found of p a q. (marked_goes journal log world a number answer).0;
    made = λ log world place cell end number node acts next told after at there does all p a q. (made_goes journal log world a j named (given log world p) place cell end number node acts next told after at there does all).0;
    asked = λ log world what by command place cell number node acts next told after line at there does all p a q. (asked_goes journal log world a j named (given log world p) what by command place cell number node acts next told after line at there does all (follows _ _ q)).0;
    joined = λ log world socket place n cell steps host is can held called read p a q. (joined_goes journal log world a socket place n cell steps host called).0;
    came = λ log world socket place cell steps host is can at called read p a q. (came_goes journal log world a socket place cell steps host called).0;
    fed = λ log world socket which count b bytes place n cell steps host is can taken held called read p a q. (fed_goes journal log world a socket which count b bytes place n cell steps host called).0;
    ended = λ log world socket which place n cell steps host told after is can none held called all read p a q. (ended_goes journal log world a j named (given log world p) socket which place n cell steps host told after called all).0;
    item = λ log world place cell steps host told after at does all p a q. (item_goes journal log world a j named (given log world p) place cell steps host told after at does all (gots.item log world place cell steps host told after at does all p q)).0;
  }

  -- the log goes on so
  more : (log more : List Entry) (after : World) → TakesFirst journal log after → GoesOn journal log more after → TakesFirst journal (log ++ more) after
  more log told after t g = each_append (takes_the_first journal) [] log told t g.1

  pub takes_kept : KeepsTurns journal (Both P (AllMail journal)) Q (TakesFirst journal)
  takes_kept = record {
    marked = λ log world number what answer found of p t q. more log _ world t (marked_goes journal log world p.1 number answer);
    made = λ log world place cell end number node acts next told after at there does all p t q. more log _ _ t (made_goes journal log world p.1 j named (given log world p.0) place cell end number node acts next told after at there does all);
    asked = λ log world what by command place cell number node acts next told after line at there does all p t q. more log _ _ t (asked_goes journal log world p.1 j named (given log world p.0) what by command place cell number node acts next told after line at there does all (follows _ _ q));
    joined = λ log world socket place n cell steps host is can held called read p t q. more log _ _ t (joined_goes journal log world p.1 socket place n cell steps host called);
    came = λ log world socket place cell steps host is can at called read p t q. more log _ _ t (came_goes journal log world p.1 socket place cell steps host called);
    fed = λ log world socket which count b bytes place n cell steps host is can taken held called read p t q. more log _ _ t (fed_goes journal log world p.1 socket which count b bytes place n cell steps host called);
    ended = λ log world socket which place n cell steps host told after is can none held called all read p t q. more log _ _ t (ended_goes journal log world p.1 j named (given log world p.0) socket which place n cell steps host told after called all);
    item = λ log world place cell steps host told after at does all p t q. more log _ _ t (item_goes journal log world p.1 j named (given log world p.0) place cell steps host told after at does all (gots.item log world place cell steps host told after at does all p.0 q));
  }
