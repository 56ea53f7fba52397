-- The same of each journal that the grammar of many nodes reads.
use Rattle.std.specs.Prelude.{◌≡◌, ℕ, ◌+◌, true, false, List, take}
use Rattle.std.specs.Str.{bytes_eq}
use Rattle.ch_model.specs.declared.entry.Entry.{Entry}
use Rattle.ch_model.specs.declared.line.Line.{Line}
use Rattle.ch_model.specs.Journal.{raw_lines, longest_journal, journal_of}
use Rattle.ch_model.specs.LinesBuilt.{many_nodes}
use Rattle.ch_model.specs.World.{names_of}
use Rattle.ch_model.specs.WorldState.{World}
use Rattle.ch_laws_log.specs.Declared.{is_declared}
use Rattle.ch_laws_many.specs.ManyLines.{AreNamedApart}
use Rattle.ch_laws_many.proofs.Declared.{names_apart}
use Rattle.ch_laws_many.proofs.Journals.{is_journal}
use Rattle.ch_laws_many.proofs.Reached.{IsJournal}
use Rattle.ch_laws_bytes.specs.Streams.{AreAddresses}
use Rattle.ch_laws_accounts.proofs.ReadAddresses.{all_addresses}
use Rattle.ch_laws_calls.specs.Peers.{Peers}
use Rattle.ch_laws_calls.specs.Scenes.{Shown}
use Rattle.ch_laws_calls.specs.Sound.{Sound}
use Rattle.ch_laws_calls.specs.Users.{AllUsed}
use Rattle.ch_laws_calls.specs.ScenesKnocks.{Unknocked}
use Rattle.ch_laws_calls.specs.ScenesPairs.{IsPairFor}
use Rattle.ch_laws_calls.proofs.ScenesAll.{all_facts}
use Rattle.ch_laws_calls.proofs.ScenesSides.{pairs_of}

pub facts : (journal : List Line) → IsJournal journal → AreNamedApart (names_of journal) → AreAddresses (names_of journal) → (log : List Entry) (world : World) → Sound journal log world → AllUsed journal log world → Peers journal log world → Unknocked log → Shown journal log world
facts journal j names addresses log world sound used peers unknocked party pair = all_facts journal log world party (record { many = j; names = names; addresses = addresses; sound = sound; used = used; peers = peers; unknocked = unknocked; pair = pair })

pub many_facts : (bytes : List ℕ) (log : List Entry) (world : World) → Sound (journal_of many_nodes bytes) log world → AllUsed (journal_of many_nodes bytes) log world → Peers (journal_of many_nodes bytes) log world → Unknocked log → Shown (journal_of many_nodes bytes) log world
many_facts bytes log world = facts (journal_of many_nodes bytes) (is_journal bytes) (names_apart (raw_lines (take (longest_journal + 1) bytes))) (all_addresses (raw_lines (take (longest_journal + 1) bytes))) log world

pub many_pairs : (bytes : List ℕ) (a b : List ℕ) → is_declared (names_of (journal_of many_nodes bytes)) a ≡ true → is_declared (names_of (journal_of many_nodes bytes)) b ≡ true → bytes_eq a b ≡ false → IsPairFor (journal_of many_nodes bytes) a b
many_pairs bytes = pairs_of (journal_of many_nodes bytes) (is_journal bytes) (all_addresses (raw_lines (take (longest_journal + 1) bytes)))
