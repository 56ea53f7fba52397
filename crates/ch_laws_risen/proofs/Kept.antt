-- Links come up by what was fed, in each journal of many nodes.
use Rattle.std.proofs.Common.{◌≡◌, true, List, [], ◌∷◌, ◌++◌, Ok, refl}
use Rattle.std.proofs.lemmas.Bool.{and_parts}
use Rattle.std.proofs.lemmas.List.{append-nil}
use Rattle.std.specs.Prelude.{is_some}
use Rattle.ch_model.specs.declared.entry.Entry.{Entry}
use Rattle.ch_model.specs.declared.entry.Entry.TheVariants as entries
use Rattle.ch_model.specs.declared.line.Line.{Line}
use Rattle.ch_model.specs.declared.step.SocketEvent.TheVariants as sockets
use Rattle.ch_model.specs.AccountsBytes.{target_has_read, opener_has_read, accepts_next}
use Rattle.ch_model.specs.Host.{host_on}
use Rattle.ch_model.specs.HostCalls.{host_connect, host_send, host_close}
use Rattle.ch_model.specs.Links.{target_rises_first}
use Rattle.ch_model.specs.Logs.{each, each_between}
use Rattle.ch_model.specs.Stages.{is_pending}
use Rattle.ch_model.specs.World.{names_of, world_new, log_of}
use Rattle.ch_model.specs.WorldState.{World}
use Rattle.ch_laws_log.proofs.HostEventsTold.{event_told}
use Rattle.ch_laws_log.proofs.HostItemsTold as told
use Rattle.ch_laws_reads.proofs.HostEventsRead.{event_read}
use Rattle.ch_laws_reads.proofs.HostItemsRead as read
use Rattle.ch_laws_many.proofs.Reached.{IsJournal}
use Rattle.ch_laws_bytes.specs.Streams.{AreAddresses}
use Rattle.ch_laws_accounts.proofs.Items.{all_items}
use Rattle.ch_laws_accounts.proofs.Openers.{journal_ends}
use Rattle.ch_laws_accounts.proofs.Ups.{on_raises_none, connect_raises_none, send_raises_none, close_raises_none}
use Rattle.ch_laws_calls.specs.Calls.{Anything, Both, KeepsCalls, done_at}
use Rattle.ch_laws_calls.specs.Sound.{SoundEnds, SoundLinks, Sound}
use Rattle.ch_laws_calls.proofs.Lines.{all_kept}
use Rattle.ch_laws_calls.proofs.Together.{alike, given_first}
use Rattle.ch_laws_calls.proofs.SoundKept.{ends_kept, fresh_ends}
use Rattle.ch_laws_calls.proofs.StandingKept.{links_kept, fresh_links}
use Rattle.ch_laws_risen.specs.Firsts.{AreRisen}
use Rattle.ch_laws_risen.specs.Risings.{accepted_risen}
use Rattle.ch_laws_risen.proofs.Accepted.{accepts_kept}
use Rattle.ch_laws_risen.proofs.Calls.{marked_risen, noted_risen, seated_risen, asked_risen, none_fed_risen, item_risen, joined_risen, after_own}
use Rattle.ch_laws_risen.proofs.Fed.{fed_risen}
use Rattle.ch_laws_risen.proofs.Logs.{targets_read, openers_read}
use Rattle.ch_laws_risen.proofs.Opened.{came_risen}
use Rattle.ch_laws_risen.proofs.TargetFirst.{rises_first}

pub risen_kept : (journal : List Line) → KeepsCalls journal (Sound journal) (Sound journal) AreRisen
risen_kept journal = record {
  marked = λ log world number answer p r q. marked_risen log world number answer r;
  noted = λ log world note p r q. noted_risen log world note r;
  seated = λ log world place cell nodes at seats p r q. seated_risen log world place cell nodes at r;
  connected = λ log world place cell end peer conn steps host at does p r q. asked_risen journal log log world place cell steps host (host_connect cell.0.host end peer conn) does p.ends at
      (told.connected cell.0.host end peer conn) (read.connected cell.0.host end peer conn) (connect_raises_none cell.0.host host end peer conn steps does) r;
  sent = λ log world place cell end conn payload weight steps host at does p r q. asked_risen journal log log world place cell steps host (host_send cell.0.host end conn payload weight) does p.ends at
      (told.sent cell.0.host end conn payload weight) (read.sent cell.0.host end conn payload weight) (send_raises_none cell.0.host host end conn payload weight steps does) r;
  closed = λ log world place cell end conn steps host at does p r q. asked_risen journal log log world place cell steps host (host_close cell.0.host end conn) does p.ends at
      (told.closed_conn cell.0.host end conn) (read.closed_conn cell.0.host end conn) (close_raises_none cell.0.host host end conn steps does) r;
  joined = λ log world socket place n cell steps host is may held c all p r q. joined_risen journal log world socket place n cell steps host is (and_parts (is_pending socket.o.stage) (is_some socket.t.cell) may).0 held c p.ends r;
  came = λ log world socket place cell steps host is may led c all p r q. came_risen journal log world socket place cell steps host is may led c p.ends r;
  fed = λ log world socket which count b bytes place n cell steps host is may takes held c all p r q. fed_risen journal log world socket which count b bytes place n cell steps host is may takes held c p.ends r;
  ended = λ log world socket which place n cell steps host is may none held c all p r q. after_own log (entries.Fed socket.name which 0) (done_at place cell steps host world).0 (done_at place cell steps host world).1
      (asked_risen journal log (log ++ entries.Fed socket.name which 0 ∷ []) world place cell steps host (host_on cell.0.host (sockets.Ended n)) c.does p.ends c.at (event_told cell.0.host (sockets.Ended n) refl) (event_read cell.0.host (sockets.Ended n))
      (on_raises_none cell.0.host host (sockets.Ended n) steps c.does) (none_fed_risen log world socket.name which r));
  item = λ log world place cell steps host at does p r q. item_risen journal log world place cell steps host at does p.ends (p.links.naming place cell at).naming
      (told.next_told cell.0.host host steps (p.ends.sure.ends.agrees.sound place cell at) does) (read.next_told cell.0.host host steps (p.ends.sure.ends.agrees.sound place cell at) does) r;
}

pub fresh_risen : (journal : List Line) → AreRisen [] (world_new journal)
fresh_risen journal = record {
  good = λ other. record { apart = tt; numbered = λ s socket e. absurd cc; within = λ s socket place e at. absurd cc; agrees = λ s. refl };
  have = λ s socket e. absurd cc;
  read = refl;
  accepted = refl;
}

-- ---- whole journals

-- the hosts and the world agree, and links and ends name each other
pub sound_kept : (journal : List Line) → IsJournal journal → KeepsCalls journal Anything Anything (Sound journal)
sound_kept journal j = alike {J = Both (SoundEnds journal) (SoundLinks journal)} (λ log world s. (s.ends, s.links)) (λ log world s. record { ends = s.0; links = s.1 }) (given_first (ends_kept journal j) (links_kept journal j))

pub fresh_sound : (journal : List Line) → IsJournal journal → Sound journal [] (world_new journal)
fresh_sound journal j = record { ends = fresh_ends journal j; links = fresh_links journal }

pub risen_after : (journal : List Line) → IsJournal journal → (log : List Entry) → log_of journal ≡ Ok log → (world : World) × AreRisen log world
risen_after journal j log is = let ends = journal_ends journal j log is in
    (ends.world, (all_kept journal j (Both (Sound journal) AreRisen) (given_first (sound_kept journal j) (risen_kept journal)) (fresh_sound journal j, fresh_risen journal) journal [] (append-nil journal) log ends.world ends.is).1)

pub read_requests : (journal : List Line) → IsJournal journal → (log : List Entry) → log_of journal ≡ Ok log → each target_has_read log ≡ true
read_requests journal j log is = targets_read [] log (risen_after journal j log is).1.read

pub read_answers : (journal : List Line) → IsJournal journal → (log : List Entry) → log_of journal ≡ Ok log → each opener_has_read log ≡ true
read_answers journal j log is = openers_read [] log (risen_after journal j log is).1.read

pub accepted_next : (journal : List Line) → IsJournal journal → (log : List Entry) → log_of journal ≡ Ok log → each_between accepts_next log ≡ true
accepted_next journal j log is = (risen_after journal j log is).1.accepted

-- a target's end accepts only where it came up
pub accepted_after : (journal : List Line) → IsJournal journal → (log : List Entry) → log_of journal ≡ Ok log → each accepted_risen log ≡ true
accepted_after journal j log is = let ends = journal_ends journal j log is in all_kept journal j (λ log world. each accepted_risen log ≡ true) (accepts_kept journal) refl journal [] (append-nil journal) log ends.world ends.is

-- so an opener's comes up after its target's
pub target_first : (journal : List Line) → IsJournal journal → AreAddresses (names_of journal) → (log : List Entry) → log_of journal ≡ Ok log → each target_rises_first log ≡ true
target_first journal j all log is = rises_first journal [] log refl refl (all_items journal j all log is) (accepted_after journal j log is) (read_answers journal j log is)
