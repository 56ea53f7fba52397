use Rattle.ch_laws_delivery.proofs.OwnMail.{receives_still, takes_still, opens_still, makes_still, makes_own}
use Rattle.ch_laws_delivery.proofs.own_mail.Goals as goal

pub returns-clause-received : goal.returns-clause-received
returns-clause-received z = λ n by mark room did now h. receives_still n by mark room did now h

pub returns-clause-taken : goal.returns-clause-taken
returns-clause-taken z = λ n by port room did now h. takes_still n by port room did now h

pub returns-clause-opened : goal.returns-clause-opened
returns-clause-opened z = λ n by room did now h. opens_still n by room did now h

pub returns-clause-made : goal.returns-clause-made
returns-clause-made z = λ n origin args did now h. makes_still n origin args did now h

pub returns-clause-proc : goal.returns-clause-proc
returns-clause-proc z = λ n did now h. makes_own n did now h
