use Rattle.std.specs.Prelude.{◌+◌, take}
use Rattle.ch_model.specs.Journal.{raw_lines, longest_journal, journal_of}
use Rattle.ch_model.specs.LinesBuilt.{many_nodes}
use Rattle.ch_laws_many.proofs.Journals.{is_journal}
use Rattle.ch_laws_accounts.proofs.ReadAddresses.{all_addresses}
use Rattle.ch_laws_risen.proofs.Kept.{target_first}
use Rattle.ch_laws_risen.proofs.targets_rise_first.Goals as goal

pub returns : goal.returns
returns c = λ bytes log is. target_first (journal_of many_nodes bytes) (is_journal bytes) (all_addresses (raw_lines (take (longest_journal + 1) bytes))) log is
