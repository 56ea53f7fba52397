-- Each thing that happens in a journal of many nodes keeps it that nothing broke.
use Rattle.std.proofs.Common.{◌≡◌, ℕ, ◌+◌, ◌*◌, true, List, [], ◌∷◌, length, take, refl, ap}
use Rattle.std.specs.Prelude.{◌&&◌}
use Rattle.ch_model.specs.declared.entry.Entry.TheVariants as entries
use Rattle.ch_model.specs.declared.line.Line.{Line}
use Rattle.ch_model.specs.declared.step.Step.{Step}
use Rattle.ch_model.specs.HostState.{HostState}
use Rattle.ch_model.specs.Journal.{raw_lines, longest_journal, journal_of}
use Rattle.ch_model.specs.LinesBuilt.{many_nodes}
use Rattle.ch_model.specs.World.{names_of}
use Rattle.ch_model.specs.WorldHappenings.{with_cell}
use Rattle.ch_model.specs.WorldState.{Cell, World}
use Rattle.ch_model.specs.WorldSteps.{note_entry}
use Rattle.ch_laws_many.proofs.Journals.{is_journal}
use Rattle.ch_laws_many.proofs.Reached.{IsJournal}
use Rattle.ch_laws_bytes.specs.Streams.{AreAddresses}
use Rattle.ch_laws_accounts.proofs.ReadAddresses.{all_addresses}
use Rattle.ch_laws_calls.specs.Calls.{KeepsCalls, Anything, with_host, done_at, joined_in, come_in, fed_in}
use Rattle.ch_laws_raced.specs.UnbrokenBreaks.{NoBreaks, calm}
use Rattle.ch_laws_raced.specs.UnbrokenGiven.{Given}
use Rattle.ch_laws_raced.proofs.UnbrokenEntries.{unbroken_both, told_unbroken, note_unbroken}
use Rattle.ch_laws_raced.proofs.UnbrokenItems.{calm_next}
use Rattle.ch_laws_raced.proofs.UnbrokenOvers.{calm_over}
use Rattle.ch_laws_raced.proofs.UnbrokenSteps.{calm_connect, calm_send, calm_close, calm_joined, calm_came, calm_fed}

pub nothing_broken : NoBreaks []
nothing_broken = refl

-- what a calm call tells
calls : (place : ℕ) (cell : Cell × ℕ) (told : List Step) (host : HostState) (world : World) → calm told ≡ true → NoBreaks (done_at place cell told host world).0
calls place cell told host world c = told_unbroken place (with_host cell host) told (with_cell place (with_host cell host, cell.1) world) c

pub unbroken_kept : (journal : List Line) → IsJournal journal → AreAddresses (names_of journal) → KeepsCalls journal (Given journal) Anything (λ log world. NoBreaks log)
unbroken_kept journal j addresses = record {
  marked = λ log world number answer g b q. unbroken_both log (entries.Line number answer ∷ []) b refl;
  noted = λ log world note g b q. unbroken_both log (note_entry world.names world.last note ∷ []) b (ap (λ t. t && true) (note_unbroken world.names world.last note));
  seated = λ log world place cell nodes at same g b q. b;
  connected = λ log world place cell end peer conn told host at does g b q. unbroken_both log (done_at place cell told host world).0 b (calls place cell told host world (calm_connect cell.0.host host end peer conn told does));
  sent = λ log world place cell end conn payload weight told host at does g b q. unbroken_both log (done_at place cell told host world).0 b (calls place cell told host world (calm_send cell.0.host host end conn payload weight told does));
  closed = λ log world place cell end conn told host at does g b q. unbroken_both log (done_at place cell told host world).0 b (calls place cell told host world (calm_close cell.0.host host end conn told does));
  joined = λ log world socket place n cell told host is can held called read g b q. let done = done_at place cell told host (joined_in socket world) in
      unbroken_both log (entries.Joined socket.name ∷ done.0) b (calls place cell told host (joined_in socket world) (calm_joined cell.0.host host n told called.does));
  came = λ log world socket place cell told host is can at called read g b q. let done = done_at place (cell.0, cell.1 + 1) told host (come_in place cell socket world) in
      unbroken_both log (entries.Came socket.name ∷ done.0) b (calls place (cell.0, cell.1 + 1) told host (come_in place cell socket world) (calm_came cell.0.host host (2 * cell.1 + 1) socket.from_host told called.does));
  fed = λ log world socket which count first bytes place n cell told host is can some held called read g b q. let done = done_at place cell told host (fed_in which count socket world) in
      unbroken_both log (entries.Fed socket.name which (length (first ∷ bytes)) ∷ done.0) b (calls place cell told host (fed_in which count socket world) (calm_fed cell.0.host host n (first ∷ bytes) told called.does));
  ended = λ log world socket which place n cell told host is can none held called read g b q. let done = done_at place cell told host world in
      unbroken_both log (entries.Fed socket.name which 0 ∷ done.0) b (calls place cell told host world (calm_over journal j addresses log world g socket which place n cell told host is can none held called read));
  item = λ log world place cell told host at does g b q. unbroken_both log (done_at place cell told host world).0 b (calls place cell told host world (calm_next journal j addresses log world g place cell told host at does));
}

pub many_kept : (bytes : List ℕ) → KeepsCalls (journal_of many_nodes bytes) (Given (journal_of many_nodes bytes)) Anything (λ log world. NoBreaks log)
many_kept bytes = unbroken_kept (journal_of many_nodes bytes) (is_journal bytes) (all_addresses (raw_lines (take (longest_journal + 1) bytes)))
