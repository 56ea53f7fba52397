use Rattle.ch_model.specs.Journal.{journal_of}
use Rattle.ch_model.specs.LinesBuilt.{many_nodes}
use Rattle.ch_laws_many.proofs.Journals.{is_journal}
use Rattle.ch_laws_calls.proofs.Lines.{all_read}
use Rattle.ch_laws_calls.proofs.Scene.{part_kept, whole_read}
use Rattle.ch_laws_calls.proofs.all_is_read.Goals as goal

pub returns-clause-law : goal.returns-clause-law
returns-clause-law c = λ bytes. all_read (journal_of many_nodes bytes) (is_journal bytes)

pub returns-clause-part : goal.returns-clause-part
returns-clause-part c = part_kept

pub returns-clause-whole : goal.returns-clause-whole
returns-clause-whole c = whole_read
