-- What is sure of the ends, of names and of streams is kept by all that happens in a journal of many nodes, and holds at its start.
use Rattle.std.proofs.Common.{ℕ, List, [], ◌∷◌, refl}
use Rattle.std.proofs.lemmas.Bool.{and_parts}
use Rattle.std.specs.Prelude.{is_some}
use Rattle.ch_model.specs.declared.line.Line.{Line}
use Rattle.ch_model.specs.Journal.{journal_of}
use Rattle.ch_model.specs.LinesBuilt.{many_nodes}
use Rattle.ch_model.specs.Stages.{is_pending}
use Rattle.ch_model.specs.World.{world_new}
use Rattle.ch_laws_bytes.proofs.Lines.{whole_after}
use Rattle.ch_laws_many.proofs.Journals.{is_journal}
use Rattle.ch_laws_many.proofs.Reached.{IsJournal, named, fresh_reached}
use Rattle.ch_laws_calls.specs.Calls.{Anything, KeepsCalls}
use Rattle.ch_laws_calls.specs.Sound.{SoundEnds}
use Rattle.ch_laws_calls.proofs.SoundCame.{came_sound}
use Rattle.ch_laws_calls.proofs.SoundFed.{fed_sound}
use Rattle.ch_laws_calls.proofs.SoundJoined.{joined_sound}
use Rattle.ch_laws_calls.proofs.SoundQuiet.{marked_sound, noted_sound, seated_sound, connected_sound, sent_sound, closed_sound, item_sound, ended_sound}

pub ends_kept : (journal : List Line) → IsJournal journal → KeepsCalls journal Anything Anything (SoundEnds journal)
ends_kept journal j = record {
  marked = λ log world number answer p s q. marked_sound journal log world number answer s;
  noted = λ log world note p s q. noted_sound journal log world note s;
  seated = λ log world place cell nodes at seats p s q. seated_sound journal (named journal j) log world place cell nodes at seats s;
  connected = λ log world place cell end peer conn steps host at is p s q. connected_sound journal (named journal j) log world place cell end peer conn steps host at is s;
  sent = λ log world place cell end conn payload weight steps host at is p s q. sent_sound journal (named journal j) log world place cell end conn payload weight steps host at is s;
  closed = λ log world place cell end conn steps host at is p s q. closed_sound journal (named journal j) log world place cell end conn steps host at is s;
  joined = λ log world socket place n cell steps host is may held c read p s q. joined_sound journal (named journal j) log world socket place n cell steps host is (and_parts (is_pending socket.o.stage) (is_some socket.t.cell) may).0 held c s;
  came = λ log world socket place cell steps host is may led c read p s q. came_sound journal (named journal j) log world socket place cell steps host is may led c s;
  fed = λ log world socket which count b bytes place n cell steps host is may takes held c read p s q. fed_sound journal (named journal j) log world socket which count (b ∷ bytes) place n cell steps host is may takes held c s;
  ended = λ log world socket which place n cell steps host is may none held c read p s q. ended_sound journal (named journal j) log world socket which place n cell steps host is may c s;
  item = λ log world place cell steps host at is p s q. item_sound journal (named journal j) log world place cell steps host at is s;
}

pub fresh_ends : (journal : List Line) → IsJournal journal → SoundEnds journal [] (world_new journal)
fresh_ends journal j = record {
  sure = (fresh_reached journal j).sure;
  set = (fresh_reached journal j).set;
  homes = refl;
  flowing = (whole_after journal [] [] (world_new journal) refl).1;
}

-- ---- any bytes

pub many_kept : (bytes : List ℕ) → KeepsCalls (journal_of many_nodes bytes) Anything Anything (SoundEnds (journal_of many_nodes bytes))
many_kept bytes = ends_kept (journal_of many_nodes bytes) (is_journal bytes)

pub many_fresh : (bytes : List ℕ) → SoundEnds (journal_of many_nodes bytes) [] (world_new (journal_of many_nodes bytes))
many_fresh bytes = fresh_ends (journal_of many_nodes bytes) (is_journal bytes)
