-- What stands in mailboxes stands by the log, as what is got from another node was said there.
use Rattle.std.specs.Prelude.{List}
use Rattle.ch_model.specs.declared.entry.Entry.{Entry}
use Rattle.ch_model.specs.declared.line.Line.{Line}
use Rattle.ch_model.specs.Epochs.{FollowsEpochs}
use Rattle.ch_model.specs.WorldState.{World}
use Rattle.ch_laws_calls.specs.Calls.{Both}
use Rattle.ch_laws_calls.specs.Turns.{KeepsTurns}
use Rattle.ch_laws_peers.specs.Standing.{IsOfNodes}
use Rattle.ch_laws_messages.specs.WayReadingGoes.{ReadingGoes}
use Rattle.ch_laws_messages.specs.GotReadingGoes.{KnownGot}
use Rattle.ch_laws_messages.specs.MailGiven.{Given}
use Rattle.ch_laws_messages.specs.MailMail.{AllMail, TakesFirst}
use Rattle.ch_laws_messages.proofs.MailKept.{mail_kept, takes_kept}
use Rattle.ch_laws_messages.proofs.EnteredSaid.{gots_said}

-- what is known gives what mailboxes ask
its_given : (journal : List Line) (log : List Entry) (world : World) → KnownGot journal log world → Given journal log world
its_given journal log world k = record { sound = k.0.0.0.all.sound; plain = k.0.0.0.plain }

its_numbers : (journal : List Line) (log : List Entry) (world : World) → KnownGot journal log world → FollowsEpochs log
its_numbers journal log world k = k.0.1.numbered

pub mails_kept : (journal : List Line) → IsOfNodes journal → ReadingGoes journal → KeepsTurns journal (KnownGot journal) (KnownGot journal) (AllMail journal)
mails_kept journal nodes reading = mail_kept journal (KnownGot journal) (KnownGot journal) nodes.is nodes.apart (its_given journal) (its_numbers journal) (gots_said journal nodes reading)

pub firsts_kept : (journal : List Line) → IsOfNodes journal → ReadingGoes journal → KeepsTurns journal (Both (KnownGot journal) (AllMail journal)) (KnownGot journal) (TakesFirst journal)
firsts_kept journal nodes reading = takes_kept journal (KnownGot journal) (KnownGot journal) nodes.is nodes.apart (its_given journal) (its_numbers journal) (gots_said journal nodes reading)
