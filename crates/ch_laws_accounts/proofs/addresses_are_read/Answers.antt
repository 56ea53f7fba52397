use Rattle.std.specs.Prelude.{◌+◌, take}
use Rattle.ch_model.specs.Journal.{raw_lines, longest_journal}
use Rattle.ch_laws_accounts.proofs.ReadAddresses.{all_addresses}
use Rattle.ch_laws_accounts.proofs.addresses_are_read.Goals as goal

pub returns : goal.returns
returns c = λ bytes. all_addresses (raw_lines (take (longest_journal + 1) bytes))
