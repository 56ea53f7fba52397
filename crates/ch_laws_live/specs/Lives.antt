-- What is so of the log of a journal of many nodes: at most one socket of a pair is live, and nodes come up and dial as they should.
use Rattle.std.specs.Prelude.{◌≡◌, Bool, true, false, not, ◌&&◌, ◌||◌, List, IsTrue}
use Rattle.std.specs.List.{list_all}
use Rattle.ch_model.specs.declared.entry.Entry.{Entry}
use Rattle.ch_model.specs.declared.entry.Entry.TheVariants as entries
use Rattle.ch_model.specs.declared.line.Line.{Line}
use Rattle.ch_model.specs.declared.name.End.TheVariants.{O, T}
use Rattle.ch_model.specs.declared.name.SockName.{SockName}
use Rattle.ch_model.specs.Links.{has_risen, is_closed, rises_alone, dials_while_down}
use Rattle.ch_model.specs.LiveSockets.{OneLiveSocket, Bundle}
use Rattle.ch_model.specs.AccountsBytes.{accepts_next}
use Rattle.ch_model.specs.Logs.{each, each_between}
use Rattle.ch_model.specs.WorldState.{World}
use Rattle.ch_laws_calls.specs.Peers.{Peers}
use Rattle.ch_laws_calls.specs.Scenes.{Shown, Raced}
use Rattle.ch_laws_calls.specs.Sound.{Sound}
use Rattle.ch_laws_calls.specs.ScenesKnocks.{Unknocked}

-- Of a log and its world: hosts and world agree; each two nodes are a scene as the laws of the race ask for, and are seen as a pair that
-- comes about by moves that may happen; each dial is between two nodes, and nobody knocks.
pub record Given (journal : List Line) (log : List Entry) (world : World) : Type 0 where
  pub sound : Sound journal log world
  pub shown : Shown journal log world
  pub raced : Raced journal log world
  pub peers : Peers journal log world
  pub unknocked : Unknocked log

-- no dial was refused, and no stranger quits
abbrev pub is_unended : Entry → Bool
is_unended (entries.Refused sock) = false
is_unended (entries.Quitted sock) = false
is_unended entry = true

-- a socket that is dialed is none on which an end came up before, or whose opener's end was closed
abbrev pub dials_new : List Entry → Entry → Bool
dials_new log (entries.Dial sock) = not (is_closed log sock O) && (not (has_risen log sock O) && not (has_risen log sock T))
dials_new log entry = true

-- one socket of a pair is live, and none is accepted over a link that is up; nodes come up and dial where they are down
pub record HasOneLive (log : List Entry) : Type 0 where
  pub one : OneLiveSocket log
  pub bundle : Bundle log
  pub alone : IsTrue (each rises_alone log)
  pub down : IsTrue (each dials_while_down log)

-- No dial was refused; each was of a new socket; an opener that came up has a target that did, or is closed; a target that comes up
-- accepts next; and one socket is live.
pub record IsLively (log : List Entry) : Type 0 where
  pub unended : list_all is_unended log ≡ true
  pub new : IsTrue (each dials_new log)
  pub follows : (s : SockName) → has_risen log s O ≡ true → (has_risen log s T || is_closed log s T) ≡ true
  pub accepts : IsTrue (each_between accepts_next log)
  pub has : HasOneLive log
