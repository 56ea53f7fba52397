-- Each node dials a peer once, after any lines, while all dials are of peers.
use Rattle.std.specs.Prelude.{◌≡◌, ◌++◌, ℕ, ◌+◌, true, List, take, Ok, IsTrue}
use Rattle.std.specs.List.{list_all}
use Rattle.ch_model.specs.declared.entry.Entry.{Entry}
use Rattle.ch_model.specs.declared.line.Line.{Line}
use Rattle.ch_model.specs.Journal.{raw_lines, longest_journal, journal_of}
use Rattle.ch_model.specs.LinesBuilt.{many_nodes}
use Rattle.ch_model.specs.Links.{dials_once}
use Rattle.ch_model.specs.Logs.{each}
use Rattle.ch_model.specs.World.{names_of, world_new, log_from}
use Rattle.ch_model.specs.WorldState.{World}
use Rattle.ch_laws_many.specs.ManyLines.{AreNamedApart}
use Rattle.ch_laws_many.proofs.Declared.{names_apart}
use Rattle.ch_laws_many.proofs.Journals.{is_journal}
use Rattle.ch_laws_many.proofs.Reached.{IsJournal}
use Rattle.ch_laws_bytes.specs.Streams.{AreAddresses}
use Rattle.ch_laws_accounts.proofs.ReadAddresses.{all_addresses}
use Rattle.ch_laws_calls.specs.Calls.{Claim, KeepsCalls, Both}
use Rattle.ch_laws_calls.specs.Peers.{is_of_peers, Peers}
use Rattle.ch_laws_calls.specs.Scenes.{Raced}
use Rattle.ch_laws_calls.proofs.Lines.{all_kept_given}
use Rattle.ch_laws_calls.proofs.Together.{weaker, given_with, passed_before}
use Rattle.ch_laws_calls.proofs.ScenesStart.{raced_at_start}
use Rattle.ch_laws_raced.specs.Given as raced
use Rattle.ch_laws_raced.specs.Given.{All}
use Rattle.ch_laws_raced.proofs.Together.{fresh_all, given_then}
use Rattle.ch_laws_raced.specs.UnbrokenBreaks.{NoBreaks}
use Rattle.ch_laws_raced.proofs.UnbrokenKept.{nothing_broken}
use Rattle.ch_laws_raced.proofs.UnbrokenTogether.{unbroken_kept_too}
use Rattle.ch_laws_raced.specs.OnceOnce.{Unbroken, DialsOnce}
use Rattle.ch_laws_raced.proofs.OnceKept.{none_dialed, once_kept}

-- all that is so whatever is dialed, that pairs come about by moves, and that nothing broke
abbrev pub Quiet : List Line → Claim
Quiet journal = Both (Both (All journal) (Raced journal)) (λ log world. NoBreaks log)

pub to_unbroken : (journal : List Line) → IsJournal journal → AreNamedApart (names_of journal) → AreAddresses (names_of journal) → (log : List Entry) (world : World) → Both (Quiet journal) (Peers journal) log world → Unbroken journal log world
to_unbroken journal j names addresses log world b =
    let so : raced.Given journal log world = given_then journal j names addresses log world b.0.0.0 b.1 in
    (record { sound = so.sound; shown = so.shown; raced = b.0.0.1; fit = so.fit; peers = b.1; unknocked = b.0.0.0.unknocked }, b.0.1)

pub once_kept_too : (journal : List Line) → IsJournal journal → AreNamedApart (names_of journal) → AreAddresses (names_of journal) → KeepsCalls journal (Peers journal) (Peers journal) (Both (Quiet journal) (DialsOnce journal))
once_kept_too journal j names addresses = given_with (unbroken_kept_too journal j names addresses)
    (weaker (λ log world b. to_unbroken journal j names addresses log world b) (λ log world b. to_unbroken journal j names addresses log world b) (once_kept journal j addresses))

pub many_kept : (bytes : List ℕ) → KeepsCalls (journal_of many_nodes bytes) (Unbroken (journal_of many_nodes bytes)) (Unbroken (journal_of many_nodes bytes)) (DialsOnce (journal_of many_nodes bytes))
many_kept bytes = once_kept (journal_of many_nodes bytes) (is_journal bytes) (all_addresses (raw_lines (take (longest_journal + 1) bytes)))

pub all_once : (journal : List Line) → IsJournal journal → AreNamedApart (names_of journal) → AreAddresses (names_of journal) → (front rest : List Line) → front ++ rest ≡ journal → (log : List Entry) (world : World) → log_from (world_new journal) front ≡ Ok (log, world) → Peers journal log world → DialsOnce journal log world
all_once journal j names addresses front rest whole log world e peers = (all_kept_given journal j (λ log. list_all (is_of_peers (names_of journal)) log ≡ true) (passed_before (is_of_peers (names_of journal))) (Both (Quiet journal) (DialsOnce journal)) (once_kept_too journal j names addresses)
    (((fresh_all journal j, raced_at_start journal j), nothing_broken), none_dialed journal) front rest whole log world e peers).1

pub many_once : (bytes : List ℕ) (front rest : List Line) → front ++ rest ≡ journal_of many_nodes bytes → (log : List Entry) (world : World) → log_from (world_new (journal_of many_nodes bytes)) front ≡ Ok (log, world) → Peers (journal_of many_nodes bytes) log world → IsTrue (each dials_once log)
many_once bytes front rest whole log world e peers = (all_once (journal_of many_nodes bytes) (is_journal bytes) (names_apart (raw_lines (take (longest_journal + 1) bytes))) (all_addresses (raw_lines (take (longest_journal + 1) bytes))) front rest whole log world e peers).once
