use Rattle.ch_model.specs.Journal.{journal_of}
use Rattle.ch_model.specs.LinesBuilt.{many_nodes}
use Rattle.ch_laws_many.proofs.Journals.{is_journal}
use Rattle.ch_laws_calls.proofs.UsersKept.{fresh_used, users_used}
use Rattle.ch_laws_calls.proofs.UsersScene.{one_target}
use Rattle.ch_laws_calls.proofs.users.sockets_are_used.Goals as goal

pub returns-clause-law : goal.returns-clause-law
returns-clause-law c = λ bytes log world. users_used (journal_of many_nodes bytes) log world (is_journal bytes)

pub returns-clause-start : goal.returns-clause-start
returns-clause-start c = λ bytes. fresh_used (journal_of many_nodes bytes)

pub returns-clause-such : goal.returns-clause-such
returns-clause-such c = one_target
