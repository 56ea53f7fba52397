use Rattle.ch_model.specs.Journal.{journal_of}
use Rattle.ch_model.specs.LinesBuilt.{many_nodes}
use Rattle.ch_laws_many.proofs.Journals.{is_journal}
use Rattle.ch_laws_risen.proofs.Kept.{read_requests, read_answers, accepted_next}
use Rattle.ch_laws_risen.proofs.links_rise_by_bytes.Goals as goal

pub returns-clause-read_requests : goal.returns-clause-read_requests
returns-clause-read_requests c = λ bytes log is. read_requests (journal_of many_nodes bytes) (is_journal bytes) log is

pub returns-clause-read_answers : goal.returns-clause-read_answers
returns-clause-read_answers c = λ bytes log is. read_answers (journal_of many_nodes bytes) (is_journal bytes) log is

pub returns-clause-accepted_next : goal.returns-clause-accepted_next
returns-clause-accepted_next c = λ bytes log is. accepted_next (journal_of many_nodes bytes) (is_journal bytes) log is
