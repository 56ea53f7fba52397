use Rattle.ch_laws_messages.proofs.AnswersJournals.{fronts_alike}
use Rattle.ch_laws_messages.proofs.AnswersSpellings.{says_small, said_well, says_well}
use Rattle.ch_laws_messages.proofs.answers.sayings_are_spelled_alike.Goals as goal

pub returns-clause-small : goal.returns-clause-small
returns-clause-small c = says_small

pub returns-clause-got : goal.returns-clause-got
returns-clause-got c = said_well

pub returns-clause-said : goal.returns-clause-said
returns-clause-said c = says_well

pub returns-clause-fronts : goal.returns-clause-fronts
returns-clause-fronts c = fronts_alike
