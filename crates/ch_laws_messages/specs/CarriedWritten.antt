-- What the log's own definitions of carried messages say of what a node has written for another.
use Rattle.std.specs.Prelude.{◌≡◌, ℕ, true, List, [], take}
use Rattle.ch_model.specs.declared.entry.Entry.{Entry}
use Rattle.ch_model.specs.declared.line.Line.{Line}
use Rattle.ch_model.specs.declared.name.End.{End}
use Rattle.ch_model.specs.declared.name.SockName.{SockName}
use Rattle.ch_model.specs.AccountsFrames.{said_between, written_sayings, arriving_by}
use Rattle.ch_model.specs.Logs.{collected, never}
use Rattle.ch_model.specs.Same.{across, is_end_of}
use Rattle.ch_model.specs.Sockets.{writings}
use Rattle.ch_model.specs.WorldState.{World}
use Rattle.ch_race.specs.Pair.{Side, other}
use Rattle.ch_laws_race.specs.Scene.{Party}
use Rattle.ch_laws_calls.specs.Scenes.{IsPairOf}
use Rattle.ch_laws_peers.specs.Words.{words_in, datas_in, sayings}
use Rattle.ch_laws_peers.specs.Says.{towards}
use Rattle.ch_laws_messages.specs.CarriedCounts.{carried_in, arriving_of}

-- What was written carries the first of the sayings, in order, as many as its payloads that are no openings; and the items that were
-- written towards each end of the other node carry them one after another.
pub record IsWritten (journal : List Line) (x y : List ℕ) (log : List Entry) : Type 0 where
  pub said : said_between log x y ≡ sayings x y log
  pub wrote : written_sayings journal log x y ≡ take (carried_in [] (datas_in (words_in (towards x y log)))) (sayings x y log)
  pub arriving : (s : SockName) (e : End) → is_end_of x y s e ≡ true → collected never (arriving_by journal s (across e)) log ≡ arriving_of (sayings x y log) (writings log s e)

-- so it is of each two nodes, both ways
abbrev pub AllWritten : List Line → List Entry → World → Type 0
AllWritten journal log world = (party : Side → Party) → IsPairOf journal party → (x : Side) → IsWritten journal (party x).name (party (other x)).name log
