-- What is given of a log and its world before a turn.
use Rattle.std.specs.Prelude.{◌≡◌, List, ◌++◌, Ok}
use Rattle.ch_model.specs.declared.entry.Entry.{Entry}
use Rattle.ch_model.specs.declared.line.Line.{Line}
use Rattle.ch_model.specs.Epochs.{FollowsEpochs}
use Rattle.ch_model.specs.World.{world_new, log_from}
use Rattle.ch_model.specs.WorldState.{World}
use Rattle.ch_laws_calls.specs.Sound.{Sound}
use Rattle.ch_laws_plain.specs.Plain.{WorldIsPlain}
use Rattle.ch_laws_plain_logs.specs.Plain.{IsPlain}
use Rattle.ch_laws_messages.specs.MailMail.{AllMail}

-- hosts and world agree, and the world is plain
pub record Given (journal : List Line) (log : List Entry) (world : World) : Type 0 where
  pub sound : Sound journal log world
  pub plain : WorldIsPlain journal world

-- messages are numbered as they come
abbrev pub Follows : List Entry → World → Type 0
Follows log world = FollowsEpochs log

-- what is given of them where a line begins: that too, that the log is plain, and what stands in mailboxes
pub record AtLine (journal : List Line) (log : List Entry) (world : World) : Type 0 where
  pub given : Given journal log world
  pub kinds : IsPlain log
  pub mail : AllMail journal log world

-- so it is after any first lines of the journal
abbrev pub AtEachLine : List Line → Type 0
AtEachLine journal = (front rest : List Line) → front ++ rest ≡ journal → (log : List Entry) (world : World) → log_from (world_new journal) front ≡ Ok (log, world) → AtLine journal log world
