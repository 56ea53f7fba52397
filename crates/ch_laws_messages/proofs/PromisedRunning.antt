-- That hosts and nodes stand, and frames lead to tables of ids, turn by turn.
use Rattle.std.proofs.Common.{List, []}
use Rattle.ch_model.specs.declared.line.Line.{Line}
use Rattle.ch_model.specs.World.{world_new}
use Rattle.ch_laws_calls.specs.Calls.{Claim, Anything, Both}
use Rattle.ch_laws_calls.specs.Sound.{SoundEnds, SoundLinks}
use Rattle.ch_laws_ids.specs.Runs.{AllRun}
use Rattle.ch_laws_ids.proofs.Logs.{fresh_runs, sound_runs_kept}
use Rattle.ch_laws_calls.specs.Turns.{KeepsTurns}
use Rattle.ch_laws_calls.proofs.TurnsOfCalls.{by_calls}
use Rattle.ch_laws_calls.proofs.TurnsTogether.{alike, beside}
use Rattle.ch_laws_peers.specs.Standing.{IsOfNodes, Standing}
use Rattle.ch_laws_peers.proofs.Together.{standing_kept, fresh_standing}

-- ends and links that agree, and frames that lead to tables
abbrev Sure : List Line → Claim
Sure journal = Both (Both (SoundEnds journal) (SoundLinks journal)) AllRun

pub runs_kept : (journal : List Line) → IsOfNodes journal → KeepsTurns journal Anything Anything (Both (Standing journal) AllRun)
runs_kept journal n = alike {journal = journal} {J = Both (Standing journal) (Sure journal)} (λ log world p b. (b.0, ((b.0.all.sound.ends, b.0.all.sound.links), b.1))) (λ log world p b. (b.0, b.1.1)) (beside (standing_kept journal n) (by_calls journal (Sure journal) (sound_runs_kept journal n.is)))

pub fresh_run : (journal : List Line) → IsOfNodes journal → Both (Standing journal) AllRun [] (world_new journal)
fresh_run journal n = (fresh_standing journal n, fresh_runs journal)
