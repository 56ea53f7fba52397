-- In a journal of many nodes each opener's end is of a host, and names are apart: so one dial of a pair stands.
use Rattle.std.proofs.Common.{◌≡◌, ℕ, ◌+◌, false, List, [], ◌∷◌, ◌++◌, Ok, Err, subst}
use Rattle.std.specs.Prelude.{find, take, Some}
use Rattle.ch_model.specs.declared.entry.Entry.{Entry}
use Rattle.ch_model.specs.declared.line.Line.{Line}
use Rattle.ch_model.specs.declared.name.End.TheVariants.{O}
use Rattle.ch_model.specs.declared.name.SockName.{SockName}
use Rattle.ch_model.specs.Journal.{raw_lines, longest_journal, journal_of}
use Rattle.ch_model.specs.LinesBuilt.{many_nodes}
use Rattle.ch_model.specs.Links.{is_closed}
use Rattle.ch_model.specs.Settle.{Happened}
use Rattle.ch_model.specs.World.{◌>>=◌, names_of, world_new, world_step, log_from}
use Rattle.ch_model.specs.WorldSockets.{is_socket_named}
use Rattle.ch_model.specs.WorldState.{Named, WorldSocket, World}
use Rattle.ch_laws_log.specs.Lines.{AllLines}
use Rattle.ch_laws_many.specs.ManyLines.{is_of_many}
use Rattle.ch_laws_many.proofs.Addresses.{AllNamed}
use Rattle.ch_laws_many.proofs.Declared.{names_apart}
use Rattle.ch_laws_many.proofs.Journals.{is_journal}
use Rattle.ch_laws_many.proofs.Led.{IsSet, GoesOn, step_goes}
use Rattle.ch_laws_many.proofs.Reached.{IsJournal, named, fresh_reached}
use Rattle.ch_laws_pairs.specs.Dials.{IsBetweenNames}
use Rattle.ch_laws_pairs.proofs.Dials.{one_dial}

abbrev SetOn : List Named → Happened → Type 0
SetOn known (Ok done) = IsSet known done.1
SetOn known (Err stop) = Unit {0}

set_on : (known : List Named) → AllNamed known → (rest : List Line) (world : World) → AllLines (is_of_many known) rest → IsSet known world → SetOn known (log_from world rest)
set_on known n [] world of s = s
set_on known n (line ∷ rest) world of s = by_step (world_step world line) (step_goes known n line.number line.what world of.0 s) (λ w h. set_on known n rest w of.1 h) where
  by_rest : (told : List Entry) (more : Happened) → SetOn known more → SetOn known (more >>= λ more. Ok (told ++ more.0, more.1))
  by_rest told (Ok more) l = l
  by_rest told (Err stop) l = tt

  by_step : (one : Happened) → GoesOn known one → ((w : World) → IsSet known w → SetOn known (log_from w rest)) → SetOn known (one >>= λ done. log_from done.1 rest >>= λ more. Ok (done.0 ++ more.0, more.1))
  by_step (Ok done) g more = by_rest done.0 (log_from done.1 rest) (more done.1 g.1)
  by_step (Err stop) g more = tt

set_after : (journal : List Line) → IsJournal journal → (log : List Entry) (world : World) → log_from (world_new journal) journal ≡ Ok (log, world) → IsSet (names_of journal) world
set_after journal j log world is = subst (λ (d : Happened). SetOn (names_of journal) d) is (set_on (names_of journal) (named journal j) journal (world_new journal) j.lines ((fresh_reached journal j).set))

pub many_dials : (bytes : List ℕ) (log : List Entry) (world : World) (s t : SockName) (a b : WorldSocket) → log_from (world_new (journal_of many_nodes bytes)) (journal_of many_nodes bytes) ≡ Ok (log, world) → IsBetweenNames s → t.from ≡ s.from → t.to ≡ s.to
    → find (is_socket_named s) world.sockets ≡ Some a → find (is_socket_named t) world.sockets ≡ Some b → is_closed log s O ≡ false → is_closed log t O ≡ false → s ≡ t
many_dials bytes log world s t a b is some from to found other open_s open_t =
    let set = set_after (journal_of many_nodes bytes) (is_journal bytes) log world is in
    one_dial (journal_of many_nodes bytes) (journal_of many_nodes bytes) log world s t a b is (names_apart (raw_lines (take (longest_journal + 1) bytes))) some from to found other ((set.led s a found).o) ((set.led t b other).o) open_s open_t
