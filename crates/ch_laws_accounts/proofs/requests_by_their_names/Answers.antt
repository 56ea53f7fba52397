use Rattle.std.specs.Prelude.{◌+◌, take}
use Rattle.ch_model.specs.Journal.{raw_lines, longest_journal, journal_of}
use Rattle.ch_model.specs.LinesBuilt.{many_nodes}
use Rattle.ch_laws_many.proofs.Declared.{names_apart}
use Rattle.ch_laws_many.proofs.Journals.{is_journal}
use Rattle.ch_laws_accounts.proofs.Requests.{all_by_name}
use Rattle.ch_laws_accounts.proofs.requests_by_their_names.Goals as goal

pub returns : goal.returns
returns c = λ bytes log is. all_by_name (journal_of many_nodes bytes) (is_journal bytes) (names_apart (raw_lines (take (longest_journal + 1) bytes))) log is
