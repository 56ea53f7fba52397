-- All claims together: each two nodes are seen as a pair that comes about by moves, after any lines.
use Rattle.std.specs.Prelude.{◌≡◌, ◌++◌, ℕ, ◌+◌, true, List, [], take, Ok}
use Rattle.std.specs.List.{list_all}
use Rattle.std.proofs.Common.{refl}
use Rattle.ch_model.specs.declared.entry.Entry.{Entry}
use Rattle.ch_model.specs.declared.line.Line.{Line}
use Rattle.ch_model.specs.Journal.{raw_lines, longest_journal, journal_of}
use Rattle.ch_model.specs.LinesBuilt.{many_nodes}
use Rattle.ch_model.specs.World.{names_of, world_new, log_from}
use Rattle.ch_model.specs.WorldState.{World}
use Rattle.ch_laws_many.specs.ManyLines.{AreNamedApart}
use Rattle.ch_laws_many.proofs.Declared.{names_apart}
use Rattle.ch_laws_many.proofs.Journals.{is_journal}
use Rattle.ch_laws_many.proofs.Reached.{IsJournal}
use Rattle.ch_laws_bytes.specs.Streams.{AreAddresses}
use Rattle.ch_laws_accounts.proofs.ReadAddresses.{all_addresses}
use Rattle.ch_laws_calls.specs.Calls.{KeepsCalls, Claim, Anything, Both}
use Rattle.ch_laws_calls.specs.Peers.{is_of_peers, Peers}
use Rattle.ch_laws_calls.specs.Scenes.{Raced, Shown}
use Rattle.ch_laws_calls.specs.Sound.{Sound}
use Rattle.ch_laws_calls.specs.Users.{AllUsed}
use Rattle.ch_laws_calls.proofs.Lines.{all_kept_given}
use Rattle.ch_laws_calls.proofs.Together.{weaker, alike, beside, given_first, given_with, passed_before}
use Rattle.ch_laws_calls.specs.FitsFit.{Fit}
use Rattle.ch_laws_calls.proofs.FitsGives.{fit_gives}
use Rattle.ch_laws_calls.proofs.FitsKept.{fit_kept, fresh_fit}
use Rattle.ch_laws_live.specs.Lives as lives
use Rattle.ch_laws_live.specs.Lives.{IsLively}
use Rattle.ch_laws_live.proofs.Kept.{lively_kept, nothing_lives}
use Rattle.ch_laws_raced.specs.RaceCallsUnshut.{AllUnshut}
use Rattle.ch_laws_raced.proofs.RaceCallsUnshut.{unshut_kept, fresh_unshut}
use Rattle.ch_laws_calls.specs.ScenesKnocks.{Unknocked}
use Rattle.ch_laws_calls.proofs.ScenesJournals.{facts}
use Rattle.ch_laws_calls.proofs.ScenesStart.{raced_at_start}
use Rattle.ch_laws_calls.proofs.ScenesUnknocked.{unknocked_kept}
use Rattle.ch_laws_calls.proofs.SoundKept.{ends_kept, fresh_ends}
use Rattle.ch_laws_calls.proofs.StandingKept.{calls_kept, fresh_links}
use Rattle.ch_laws_calls.specs.UsersKept.{AreUsers}
use Rattle.ch_laws_calls.proofs.UsersKept.{used_kept, fresh_users, users_used}
use Rattle.ch_laws_raced.specs.Given.{Given, All}
use Rattle.ch_laws_raced.proofs.Raced.{raced_kept}

-- nobody knocks
abbrev NoneKnocks : Claim
NoneKnocks log world = Unknocked log

-- ---- what needs no word on dials

sound_kept : (journal : List Line) → IsJournal journal → KeepsCalls journal Anything Anything (Sound journal)
sound_kept journal j = alike (λ log world s. (s.ends, s.links)) (λ log world b. record { ends = b.0; links = b.1 }) (given_first (ends_kept journal j) (calls_kept journal))

abbrev Rest : List Line → Claim
Rest journal = Both (AreUsers journal) (Both (AllUnshut journal) (Both NoneKnocks (Fit journal)))

rest_kept : (journal : List Line) → AreAddresses (names_of journal) → KeepsCalls journal (Sound journal) (Sound journal) (Rest journal)
rest_kept journal a = beside (used_kept journal a) (beside (weaker (λ log world s. tt) (λ log world s. tt) (unshut_kept journal)) (beside (weaker (λ log world s. tt) (λ log world s. tt) (unknocked_kept journal)) (fit_kept journal)))

as_all : (journal : List Line) (log : List Entry) (world : World) → Both (Sound journal) (Rest journal) log world → All journal log world
as_all journal log world b = record { sound = b.0; users = b.1.0; unshut = b.1.1.0; unknocked = b.1.1.1.0; fit = b.1.1.1.1 }

all_as : (journal : List Line) (log : List Entry) (world : World) → All journal log world → Both (Sound journal) (Rest journal) log world
all_as journal log world a = (a.sound, (a.users, (a.unshut, (a.unknocked, a.fit))))

pub all_is_kept : (journal : List Line) → IsJournal journal → AreAddresses (names_of journal) → KeepsCalls journal Anything Anything (All journal)
all_is_kept journal j a = alike (all_as journal) (as_all journal) (given_first (sound_kept journal j) (rest_kept journal a))

pub fresh_all : (journal : List Line) → IsJournal journal → All journal [] (world_new journal)
fresh_all journal j = record { sound = record { ends = fresh_ends journal j; links = fresh_links journal }; users = fresh_users journal; unshut = fresh_unshut journal j; unknocked = refl; fit = fresh_fit journal }

-- ---- while all dials are of peers

all_used : (journal : List Line) → IsJournal journal → (log : List Entry) (world : World) → All journal log world → AllUsed journal log world
all_used journal j log world a = users_used journal log world j a.users

shown_then : (journal : List Line) → IsJournal journal → AreNamedApart (names_of journal) → AreAddresses (names_of journal) → (log : List Entry) (world : World) → All journal log world → Peers journal log world → Shown journal log world
shown_then journal j names addresses log world a peers = facts journal j names addresses log world a.sound (all_used journal j log world a) peers a.unknocked

pub given_then : (journal : List Line) → IsJournal journal → AreNamedApart (names_of journal) → AreAddresses (names_of journal) → (log : List Entry) (world : World) → All journal log world → Peers journal log world → Given journal log world
given_then journal j names addresses log world a peers = let shown = shown_then journal j names addresses log world a peers in
    record { sound = a.sound; shown = shown; unshut = a.unshut; fit = fit_gives journal addresses log world a.sound (all_used journal j log world a) shown a.fit }

pub races_kept : (journal : List Line) → IsJournal journal → AreNamedApart (names_of journal) → AreAddresses (names_of journal) → KeepsCalls journal (Peers journal) (Peers journal) (Both (All journal) (Raced journal))
races_kept journal j names addresses = given_with (weaker (λ log world p. tt) (λ log world p. tt) (all_is_kept journal j addresses))
    (weaker (λ log world b. given_then journal j names addresses log world b.0 b.1) (λ log world b. tt) (raced_kept journal))

-- what is so after any lines, where all dials before were of peers
pub all_raced : (journal : List Line) → IsJournal journal → AreNamedApart (names_of journal) → AreAddresses (names_of journal) → (front rest : List Line) → front ++ rest ≡ journal → (log : List Entry) (world : World) → log_from (world_new journal) front ≡ Ok (log, world) → Peers journal log world → Both (All journal) (Raced journal) log world
all_raced journal j names addresses front rest whole log world e peers = all_kept_given journal j (λ log. list_all (is_of_peers (names_of journal)) log ≡ true) (passed_before (is_of_peers (names_of journal))) (Both (All journal) (Raced journal)) (races_kept journal j names addresses)
    (fresh_all journal j, raced_at_start journal j) front rest whole log world e peers

-- of each journal that the grammar of many nodes reads
pub many_raced : (bytes : List ℕ) (front rest : List Line) → front ++ rest ≡ journal_of many_nodes bytes → (log : List Entry) (world : World) → log_from (world_new (journal_of many_nodes bytes)) front ≡ Ok (log, world) → Peers (journal_of many_nodes bytes) log world → Both (All (journal_of many_nodes bytes)) (Raced (journal_of many_nodes bytes)) log world
many_raced bytes = all_raced (journal_of many_nodes bytes) (is_journal bytes) (names_apart (raw_lines (take (longest_journal + 1) bytes))) (all_addresses (raw_lines (take (longest_journal + 1) bytes)))

-- ---- the log

to_live : (journal : List Line) → IsJournal journal → AreNamedApart (names_of journal) → AreAddresses (names_of journal) → (log : List Entry) (world : World) → Both (Both (All journal) (Raced journal)) (Peers journal) log world → lives.Given journal log world
to_live journal j names addresses log world b = record { sound = b.0.0.sound; shown = shown_then journal j names addresses log world b.0.0 b.1; raced = b.0.1; peers = b.1; unknocked = b.0.0.unknocked }

pub lively_kept_too : (journal : List Line) → IsJournal journal → AreNamedApart (names_of journal) → AreAddresses (names_of journal) → KeepsCalls journal (Peers journal) (Peers journal) (Both (Both (All journal) (Raced journal)) (λ log world. IsLively log))
lively_kept_too journal j names addresses = given_with (races_kept journal j names addresses)
    (weaker (λ log world b. to_live journal j names addresses log world b) (λ log world b. to_live journal j names addresses log world b) (lively_kept journal j addresses))

pub all_lively : (journal : List Line) → IsJournal journal → AreNamedApart (names_of journal) → AreAddresses (names_of journal) → (front rest : List Line) → front ++ rest ≡ journal → (log : List Entry) (world : World) → log_from (world_new journal) front ≡ Ok (log, world) → Peers journal log world → IsLively log
all_lively journal j names addresses front rest whole log world e peers = (all_kept_given journal j (λ log. list_all (is_of_peers (names_of journal)) log ≡ true) (passed_before (is_of_peers (names_of journal))) (Both (Both (All journal) (Raced journal)) (λ log world. IsLively log)) (lively_kept_too journal j names addresses)
    ((fresh_all journal j, raced_at_start journal j), nothing_lives) front rest whole log world e peers).1

pub many_lively : (bytes : List ℕ) (front rest : List Line) → front ++ rest ≡ journal_of many_nodes bytes → (log : List Entry) (world : World) → log_from (world_new (journal_of many_nodes bytes)) front ≡ Ok (log, world) → Peers (journal_of many_nodes bytes) log world → IsLively log
many_lively bytes = all_lively (journal_of many_nodes bytes) (is_journal bytes) (names_apart (raw_lines (take (longest_journal + 1) bytes))) (all_addresses (raw_lines (take (longest_journal + 1) bytes)))
