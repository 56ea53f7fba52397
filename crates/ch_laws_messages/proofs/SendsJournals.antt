-- The journals that the grammar of many nodes reads: what is asked of them here is so.
use Rattle.std.specs.Prelude.{◌≡◌, ℕ, ◌+◌, List, true, take, Ok}
use Rattle.ch_model.specs.declared.entry.Entry.{Entry}
use Rattle.ch_model.specs.Journal.{raw_lines, longest_journal, journal_of}
use Rattle.ch_model.specs.LinesBuilt.{many_nodes}
use Rattle.ch_model.specs.Logs.{each}
use Rattle.ch_model.specs.World.{log_of}
use Rattle.ch_laws_many.proofs.Declared.{names_apart}
use Rattle.ch_laws_many.proofs.Journals.{is_journal}
use Rattle.ch_laws_accounts.proofs.ReadAddresses.{all_addresses}
use Rattle.ch_laws_epochs.proofs.Worlds.{follows}
use Rattle.ch_laws_peers.specs.Standing.{IsOfNodes}
use Rattle.ch_laws_messages.specs.SendsSends.{is_answered_send, AreSmall, FrontsStand}
use Rattle.ch_laws_messages.proofs.SendsReadSmall.{all_small}
use Rattle.ch_laws_messages.proofs.SendsLines.{sends_answered}

pub is_of_nodes : (bytes : List ℕ) → IsOfNodes (journal_of many_nodes bytes)
is_of_nodes bytes = record { is = is_journal bytes; apart = names_apart (raw_lines (take (longest_journal + 1) bytes)); addresses = all_addresses (raw_lines (take (longest_journal + 1) bytes)) }

pub are_small : (bytes : List ℕ) → AreSmall (journal_of many_nodes bytes)
are_small bytes = all_small (raw_lines (take (longest_journal + 1) bytes))

pub many_answered : (bytes : List ℕ) → FrontsStand (journal_of many_nodes bytes) → (log : List Entry) → log_of (journal_of many_nodes bytes) ≡ Ok log → each (is_answered_send (journal_of many_nodes bytes)) log ≡ true
many_answered bytes fronts log is = sends_answered (journal_of many_nodes bytes) (is_of_nodes bytes) (are_small bytes) fronts log is (follows (journal_of many_nodes bytes) (is_journal bytes) log is)
