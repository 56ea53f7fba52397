-- In each log of a journal of many nodes connections are created in the order of their ids, and what is sent on or closed is open.
use Rattle.std.proofs.Common.{◌≡◌, ℕ, true, List, [], ◌++◌, Ok, Err, refl, ap, subst}
use Rattle.std.proofs.lemmas.List.{append-nil}
use Rattle.std.specs.Prelude.{find, is_some, slice_get, Option, Some, None}
use Rattle.ch_model.specs.declared.entry.Entry.{Entry}
use Rattle.ch_model.specs.declared.line.Line.{Line}
use Rattle.ch_model.specs.declared.name.End.{End}
use Rattle.ch_model.specs.AccountsBytes.{writes_fit_ids}
use Rattle.ch_model.specs.AccountsItems.{frames_of}
use Rattle.ch_model.specs.Logs.{each}
use Rattle.ch_model.specs.Sockets.{writings}
use Rattle.ch_model.specs.Settle.{Happened}
use Rattle.ch_model.specs.World.{◌>>=◌, world_new, log_from, log_of}
use Rattle.ch_model.specs.WorldSockets.{end_of, is_socket_named}
use Rattle.ch_model.specs.WorldState.{Cell, WorldSocket, World}
use Rattle.ch_laws_calls.specs.Calls.{Anything, Both, KeepsCalls}
use Rattle.ch_laws_calls.specs.Sound.{SoundEnds, SoundLinks}
use Rattle.ch_laws_calls.specs.Tables.{Table, frames_on}
use Rattle.ch_laws_calls.proofs.Lines.{all_kept}
use Rattle.ch_laws_calls.proofs.Together.{given_first, weaker}
use Rattle.ch_laws_calls.specs.FitsFit.{AllWriteFit, final_at, Leads}
use Rattle.ch_laws_calls.proofs.FitsAccounts.{ids_fit}
use Rattle.ch_laws_calls.proofs.FitsKept.{fresh_fit}
use Rattle.ch_laws_many.proofs.Reached.{IsJournal}
use Rattle.ch_laws_calls.proofs.SoundKept.{ends_kept, fresh_ends}
use Rattle.ch_laws_calls.proofs.StandingKept.{calls_kept, fresh_links}
use Rattle.ch_laws_ids.specs.Runs.{frames_from, RunsThere, RunsFor, AllRun}
use Rattle.ch_laws_ids.proofs.Kept.{runs_kept}

-- ---- where nothing has happened

pub fresh_runs : (journal : List Line) → AllRun [] (world_new journal)
fresh_runs journal = record { hosts = (fresh_fit journal).hosts; unopened = λ s e none. refl; ends = λ s socket e found. absurd cc }

-- ---- what each end wrote

led : (after : Option Table) (now : Option Table) → Leads after now → is_some now ≡ true
led None now l = l
led (Some table) now l = ap is_some l

runs_for : (cells : List (Cell × ℕ)) (c m : Option ℕ) (which : End) (pieces : List (List ℕ)) → RunsFor cells c m which pieces → is_some (frames_on (frames_from pieces) []) ≡ true
runs_for cells None m which pieces r = ap (λ (l : List (List ℕ)). is_some (frames_on (frames_from l) [])) r
runs_for cells (Some p) None which pieces r = ap (λ (l : List (List ℕ)). is_some (frames_on (frames_from l) [])) r
runs_for cells (Some p) (Some n) which pieces r = by_cell (slice_get cells p) r where
  by_cell : (o : Option (Cell × ℕ)) → RunsThere o n which pieces → is_some (frames_on (frames_from pieces) []) ≡ true
  by_cell None r = ap (λ (l : List (List ℕ)). is_some (frames_on (frames_from l) [])) r
  by_cell (Some cell) r = led (final_at cell.0.host n) (frames_on (frames_from pieces) []) r.leads

-- the frames that an end wrote lead from no ids to some
each_leads : (log : List Entry) (world : World) → AllRun log world → AllWriteFit log
each_leads log world r s e = by_socket (find (is_socket_named s) world.sockets) refl where
  by_socket : (o : Option WorldSocket) → find (is_socket_named s) world.sockets ≡ o → is_some (frames_on (frames_of log s e) []) ≡ true
  by_socket None h = ap (λ (l : List (List ℕ)). is_some (frames_on (frames_from l) [])) (r.unopened s e h)
  by_socket (Some socket) h = runs_for world.cells (end_of e socket).cell (end_of e socket).number e (writings log s e) (r.ends s socket e h)

pub runs_fit : (log : List Entry) (world : World) → AllRun log world → each writes_fit_ids log ≡ true
runs_fit log world r = ids_fit log (each_leads log world r)

-- ---- all lines

-- what is kept with the sound world
pub sound_runs_kept : (journal : List Line) → IsJournal journal → KeepsCalls journal Anything Anything (Both (Both (SoundEnds journal) (SoundLinks journal)) AllRun)
sound_runs_kept journal j = given_first (given_first (ends_kept journal j) (calls_kept journal)) (weaker (λ log world b. record { ends = b.0; links = b.1 }) (λ log world b. record { ends = b.0; links = b.1 }) (runs_kept journal))

pub runs_after : (journal : List Line) → IsJournal journal → (front rest : List Line) → front ++ rest ≡ journal → (log : List Entry) (world : World) → log_from (world_new journal) front ≡ Ok (log, world) → AllRun log world
runs_after journal j front rest whole log world is = (all_kept journal j (Both (Both (SoundEnds journal) (SoundLinks journal)) AllRun) (sound_runs_kept journal j) ((fresh_ends journal j, fresh_links journal), fresh_runs journal) front rest whole log world is).1

pub fit_after : (journal : List Line) → IsJournal journal → (log : List Entry) (world : World) → log_from (world_new journal) journal ≡ Ok (log, world) → each writes_fit_ids log ≡ true
fit_after journal j log world is = runs_fit log world (runs_after journal j journal [] (append-nil journal) log world is)

pub fit_in : (journal : List Line) → IsJournal journal → (log : List Entry) → log_of journal ≡ Ok log → each writes_fit_ids log ≡ true
fit_in journal j log is = by_log (log_from (world_new journal) journal) refl is where
  by_log : (done : Happened) → log_from (world_new journal) journal ≡ done → (done >>= λ done. Ok done.0) ≡ Ok log → each writes_fit_ids log ≡ true
  by_log (Ok done) f h = let same : done.0 ≡ log = cc in subst (λ (l : List Entry). each writes_fit_ids l ≡ true) same (fit_after journal j done.0 done.1 f)
  by_log (Err stop) f h = absurd cc
