-- Each thing that happens in a journal of many nodes keeps that one socket of each pair is live.
use Rattle.std.proofs.Common.{◌≡◌, ℕ, ◌+◌, ◌*◌, true, false, not, ◌&&◌, List, [], ◌∷◌, ◌++◌, length, drop, take, refl, ap, ◌∙◌}
use Rattle.std.proofs.lemmas.Bool.{and_parts}
use Rattle.std.proofs.lemmas.List.Folds.{list_all-append}
use Rattle.std.specs.List.{list_all}
use Rattle.std.specs.Prelude.{is_some, Some}
use Rattle.ch_model.specs.declared.entry.Entry.{Entry}
use Rattle.ch_model.specs.declared.entry.Entry.TheVariants as entries
use Rattle.ch_model.specs.declared.line.Line.{Line}
use Rattle.ch_model.specs.declared.name.End.TheVariants.{O, T}
use Rattle.ch_model.specs.declared.step.SocketEvent.TheVariants as sockets
use Rattle.ch_model.specs.declared.step.Step.{Step}
use Rattle.ch_model.specs.HostState.{HostState}
use Rattle.ch_model.specs.Journal.{raw_lines, longest_journal, journal_of}
use Rattle.ch_model.specs.LinesBuilt.{many_nodes}
use Rattle.ch_model.specs.AccountsBytes.{accepts_next}
use Rattle.ch_model.specs.Logs.{each_after, each_between_after}
use Rattle.ch_model.specs.Stages.{is_pending, is_open}
use Rattle.ch_model.specs.World.{names_of}
use Rattle.ch_model.specs.WorldHappenings.{with_cell}
use Rattle.ch_model.specs.WorldLines.{is_at_work}
use Rattle.ch_model.specs.WorldSockets.{end_of, opened, is_of_host, has_input}
use Rattle.ch_model.specs.WorldState.{Cell, WorldEnd, World}
use Rattle.ch_model.specs.WorldSteps.{note_entry}
use Rattle.ch_laws_log.proofs.Agreeing.{Good, keeps_good}
use Rattle.ch_laws_many.proofs.Journals.{is_journal}
use Rattle.ch_laws_many.proofs.Reached.{IsJournal}
use Rattle.ch_laws_bytes.specs.Streams.{AreAddresses}
use Rattle.ch_laws_accounts.proofs.ReadAddresses.{all_addresses}
use Rattle.ch_laws_calls.specs.Calls.{with_host, done_at, joined_in, come_in, fed_in, KeepsCalls}
use Rattle.ch_laws_live.specs.Accepts.{AllAccept, IsAnswered}
use Rattle.ch_laws_live.specs.Lives.{Given, is_unended, dials_new, IsLively}
use Rattle.ch_laws_live.specs.Turns.{starts_last, is_turn, start_last}
use Rattle.ch_laws_live.proofs.Entries.{both, last_turnless, starts_told, unended_told, note_plain}
use Rattle.ch_laws_live.proofs.Accepts.{next_accept, on_accepts, connect_accepts, send_accepts, close_accepts}
use Rattle.ch_laws_live.proofs.Facts.{no_target, facts_hold}
use Rattle.ch_laws_live.proofs.Fresh.{Untold, still_untold, end_none, call_new}
use Rattle.ch_laws_live.proofs.Moments.{lively_more}
use Rattle.ch_laws_live.proofs.Nexts.{NoTarget, plain_next, call_next}
use Rattle.ch_laws_live.proofs.Steps.{next_starts, on_starts_last, connect_starts_last, send_starts_last, close_starts_last}

plain_new : (log : List Entry) (x : Entry) → is_turn x ≡ false → dials_new log x ≡ true
plain_new log (entries.Dial sock) n = absurd cc
plain_new log x n = refl

-- no end is closed or comes up by a log of nothing
pub nothing_lives : IsLively []
nothing_lives = record { unended = refl; new = refl; follows = λ s r. absurd cc; accepts = refl; has = record { one = refl; bundle = refl; alone = refl; down = refl } }

module _ (journal : List Line) (j : IsJournal journal) (addresses : AreAddresses (names_of journal)) where
  -- entries in which what starts comes last
  more_lively : (log more : List Entry) (world now : World) → start_last more ≡ true → list_all is_unended more ≡ true → each_after dials_new log more ≡ true → each_between_after accepts_next log more ≡ true → Given journal log world → IsLively log → Given journal (log ++ more) now → IsLively (log ++ more)
  more_lively log more world now last unended new nexts p l q =
      let all : list_all is_unended (log ++ more) ≡ true = list_all-append is_unended log more ∙ both (list_all is_unended log) (list_all is_unended more) l.unended unended in
      lively_more log more last (facts_hold journal j addresses log world p l.unended) (facts_hold journal j addresses (log ++ more) now q all) l new nexts unended

  good_in : (log : List Entry) (world : World) → Given journal log world → Good journal log world
  good_in log world p = p.sound.ends.sure.ends.sorted.0

  untold_in : (log : List Entry) (world : World) → Given journal log world → Untold log world
  untold_in log world p = p.sound.links.tells.unopened

  -- a call of a host
  call_lively : (P : ℕ → Type 0) (log : List Entry) (world : World) (place : ℕ) (cell : Cell × ℕ) (told : List Step) (host : HostState) → starts_last told ≡ true → AllAccept P told → NoTarget P place world.sockets → Given journal log world → IsLively log
      → let done = done_at place cell told host world in Given journal (log ++ done.0) done.1 → IsLively (log ++ done.0)
  call_lively P log world place cell told host last accepting none p l q = more_lively log (done_at place cell told host world).0 world (done_at place cell told host world).1
      (starts_told place (with_host cell host) told (with_cell place (with_host cell host, cell.1) world) last) (unended_told place (with_host cell host) told (with_cell place (with_host cell host, cell.1) world))
      (call_new journal log log place cell told host world (good_in log world p) (untold_in log world p)) (call_next P log place cell told host world last accepting none) p l q

  -- a call after an entry of its own
  first_lively : (log seen : List Entry) (x : Entry) (world start : World) (place : ℕ) (cell : Cell × ℕ) (told : List Step) (host : HostState) → is_turn x ≡ false → is_unended x ≡ true → starts_last told ≡ true → AllAccept (λ n. ⊥) told → Good journal seen start → Untold (log ++ x ∷ []) start → Given journal log world → IsLively log
      → let done = done_at place cell told host start in Given journal (log ++ x ∷ done.0) done.1 → IsLively (log ++ x ∷ done.0)
  first_lively log seen x world start place cell told host plain unended last accepting good untold p l q = more_lively log (x ∷ done.0) world done.1
      (starts x plain) (both (is_unended x) (list_all is_unended done.0) unended (unended_told place (with_host cell host) told (with_cell place (with_host cell host, cell.1) start)))
      (both (dials_new log x) (each_after dials_new (log ++ x ∷ []) done.0) (plain_new log x plain) (call_new journal seen (log ++ x ∷ []) place cell told host start good untold))
      (both (accepts_next log x done.0) (each_between_after accepts_next (log ++ x ∷ []) done.0) (plain_next log x done.0 plain) (call_next (λ n. ⊥) (log ++ x ∷ []) place cell told host start last accepting (λ n at never. absurd never))) p l q where
        done : List Entry × World
        done = done_at place cell told host start

        later : start_last done.0 ≡ true
        later = starts_told place (with_host cell host) told (with_cell place (with_host cell host, cell.1) start) last

        starts : (y : Entry) → is_turn y ≡ false → start_last (y ∷ done.0) ≡ true
        starts (entries.Dial sock) n = absurd cc
        starts (entries.Up sock end) n = absurd cc
        starts y n = later

  pub lively_kept : KeepsCalls journal (Given journal) (Given journal) (λ log world. IsLively log)
  lively_kept = record {
    marked = λ log world number answer p l q. more_lively log (entries.Line number answer ∷ []) world world refl refl refl refl p l q;
    noted = λ log world note p l q. let x : Entry = note_entry world.names world.last note in let plain = note_plain world.names world.last note in
        more_lively log (x ∷ []) world _ (last_turnless (x ∷ []) (ap (λ b. not b && true) plain.0)) (ap (λ b. b && true) plain.1) (ap (λ b. b && true) (plain_new log x plain.0)) (ap (λ b. b && true) (plain_next log x [] plain.0)) p l q;
    seated = λ log world place cell nodes at seats p l q. l;
    connected = λ log world place cell end peer conn told host at does p l q. call_lively (λ n. ⊥) log world place cell told host (connect_starts_last cell.0.host host end peer conn told does) (connect_accepts cell.0.host host end peer conn told does) (λ n at never. absurd never) p l q;
    sent = λ log world place cell end conn payload weight told host at does p l q. call_lively (λ n. ⊥) log world place cell told host (send_starts_last cell.0.host host end conn payload weight told does) (send_accepts cell.0.host host end conn payload weight told does) (λ n at never. absurd never) p l q;
    closed = λ log world place cell end conn told host at does p l q. call_lively (λ n. ⊥) log world place cell told host (close_starts_last cell.0.host host end conn told does) (close_accepts cell.0.host host end conn told does) (λ n at never. absurd never) p l q;
    joined = λ log world socket place n cell told host is can held called read p l q.
        first_lively log (log ++ entries.Joined socket.name ∷ []) (entries.Joined socket.name) world (joined_in socket world) place cell told host refl refl (on_starts_last cell.0.host host (sockets.Joined n) told called.does) (on_accepts cell.0.host host (sockets.Joined n) told called.does)
        ((keeps_good journal).joined log world socket is (and_parts (is_pending socket.o.stage) (is_some socket.t.cell) can).0 (good_in log world p))
        (λ s e none. still_untold log (entries.Joined socket.name) s e refl refl (untold_in log world p s e (end_none socket.name O opened world s none))) p l q;
    came = λ log world socket place cell told host is can to called read p l q.
        first_lively log (log ++ entries.Came socket.name ∷ []) (entries.Came socket.name) world (come_in place cell socket world) place (cell.0, cell.1 + 1) told host refl refl (on_starts_last cell.0.host host (sockets.Came (2 * cell.1 + 1) socket.from_host) told called.does) (on_accepts cell.0.host host (sockets.Came (2 * cell.1 + 1) socket.from_host) told called.does)
        ((keeps_good journal).came log (with_cell place (cell.0, cell.1 + 1) world) socket (2 * cell.1 + 1) is can ((keeps_good journal).cell log world place (cell.0, cell.1 + 1) (good_in log world p)))
        (λ s e none. still_untold log (entries.Came socket.name) s e refl refl (untold_in log world p s e (end_none socket.name T (λ (end : WorldEnd). record (opened end) { number = Some (2 * cell.1 + 1) }) (with_cell place (cell.0, cell.1 + 1) world) s none))) p l q;
    fed = λ log world socket which count b bytes place n cell told host is can some held called read p l q.
        let parts = and_parts (is_at_work which socket) (has_input which socket) can in
        first_lively log (log ++ entries.Fed socket.name which (length (take count (end_of which socket).unread)) ∷ []) (entries.Fed socket.name which (length (b ∷ bytes))) world (fed_in which count socket world) place cell told host refl refl (on_starts_last cell.0.host host (sockets.Fed n (b ∷ bytes)) told called.does) (on_accepts cell.0.host host (sockets.Fed n (b ∷ bytes)) told called.does)
        ((keeps_good journal).fed log world socket which count is (and_parts (is_open (end_of which socket).stage) (is_of_host (end_of which socket)) parts.0).0 parts.1 tt (good_in log world p))
        (λ s e none. still_untold log (entries.Fed socket.name which (length (b ∷ bytes))) s e refl refl (untold_in log world p s e (end_none socket.name which (λ (end : WorldEnd). record end { unread = drop count end.unread }) world s none))) p l q;
    ended = λ log world socket which place n cell told host is can none held called read p l q.
        first_lively log log (entries.Fed socket.name which 0) world world place cell told host refl refl (on_starts_last cell.0.host host (sockets.Ended n) told called.does) (on_accepts cell.0.host host (sockets.Ended n) told called.does) (good_in log world p)
        (λ s e none. still_untold log (entries.Fed socket.name which 0) s e refl refl (untold_in log world p s e none)) p l q;
    item = λ log world place cell told host at does p l q. call_lively (IsAnswered cell.0.host) log world place cell told host (next_starts cell.0.host host told does) (next_accept cell.0.host host told (p.sound.links.naming place cell at).naming does) (no_target journal j addresses log world p l.unended place cell at) p l q;
  }

pub many_kept : (bytes : List ℕ) → KeepsCalls (journal_of many_nodes bytes) (Given (journal_of many_nodes bytes)) (Given (journal_of many_nodes bytes)) (λ log world. IsLively log)
many_kept bytes = lively_kept (journal_of many_nodes bytes) (is_journal bytes) (all_addresses (raw_lines (take (longest_journal + 1) bytes)))
