use Rattle.ch_laws_messages.proofs.PromisedPromises.{mailboxes, receipts, answers, accounted}
use Rattle.ch_laws_messages.proofs.PromisedRules.{links, lives}
use Rattle.ch_laws_messages.proofs.promised.logs_follow_the_rules.Goals as goal

pub returns-clause-links : goal.returns-clause-links
returns-clause-links c = links

pub returns-clause-lives : goal.returns-clause-lives
returns-clause-lives c = lives

pub returns-clause-mailboxes : goal.returns-clause-mailboxes
returns-clause-mailboxes c = mailboxes

pub returns-clause-receipts : goal.returns-clause-receipts
returns-clause-receipts c = receipts

pub returns-clause-answers : goal.returns-clause-answers
returns-clause-answers c = answers

pub returns-clause-bytes : goal.returns-clause-bytes
returns-clause-bytes c = accounted
