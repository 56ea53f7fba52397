use Rattle.std.specs.Prelude.{◌+◌, take}
use Rattle.ch_model.specs.Journal.{raw_lines, longest_journal, journal_of}
use Rattle.ch_model.specs.LinesBuilt.{many_nodes}
use Rattle.ch_laws_accounts.proofs.ReadAddresses.{all_addresses}
use Rattle.ch_laws_calls.proofs.UsersKept.{used_kept, fresh_users}
use Rattle.ch_laws_calls.proofs.users.users_are_kept.Goals as goal

pub returns-clause-kept : goal.returns-clause-kept
returns-clause-kept c = λ bytes. used_kept (journal_of many_nodes bytes) (all_addresses (raw_lines (take (longest_journal + 1) bytes)))

pub returns-clause-start : goal.returns-clause-start
returns-clause-start c = λ bytes. fresh_users (journal_of many_nodes bytes)
