use Rattle.ch_laws_messages.specs.MailGiven.{Given, Follows}
use Rattle.ch_laws_messages.proofs.MailKept.{fresh_mail, mail_kept, takes_kept}
use Rattle.ch_laws_messages.proofs.mailboxes.mailboxes_stand_by_the_log.Goals as goal

pub returns-clause-fresh : goal.returns-clause-fresh
returns-clause-fresh c = fresh_mail

pub returns-clause-kept : goal.returns-clause-kept
returns-clause-kept c journal j named gots = mail_kept journal (Given journal) Follows j named (λ log world given. given) (λ log world follows. follows) gots

pub returns-clause-takes : goal.returns-clause-takes
returns-clause-takes c journal j named gots = takes_kept journal (Given journal) Follows j named (λ log world given. given) (λ log world follows. follows) gots
