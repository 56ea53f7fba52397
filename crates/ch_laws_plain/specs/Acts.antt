-- Acts of a plain node whose opening messages fit in frames, and what their host makes of them.
use Rattle.std.specs.Prelude.{◌≤◌, ℕ, List, [], ◌∷◌, length, Ok, Err}
use Rattle.ch_base.specs.declared.address.Address.{Address}
use Rattle.ch_wire.specs.declared.TheConstants.{MOST_PAYLOAD_BYTES}
use Rattle.ch_model.specs.declared.act.Act.{Act}
use Rattle.ch_model.specs.declared.act.Act.TheVariants as acts
use Rattle.ch_model.specs.declared.step.Step.{Step}
use Rattle.ch_model.specs.CellSteps.{Followed}
use Rattle.ch_model.specs.WorldState.{Cell}
use Rattle.ch_laws_log.specs.HostEnds.{steps_in}
use Rattle.ch_laws_writes.specs.Orderly.{IsOrderly}
use Rattle.ch_laws_plain.specs.Plain.{CellIsPlain}
use Rattle.ch_laws_plain.specs.Talks.{Speaks}
use Rattle.ch_laws_plain.specs.Turns.{CellCarries}

-- the first payload on each connection that is opened fits in a frame
abbrev pub AreShort : List Act → Type 0
AreShort [] = Unit {0}
AreShort (acts.Open conn peer ∷ acts.Put on payload weight ∷ rest) = (length payload ≤ MOST_PAYLOAD_BYTES) × AreShort rest
AreShort (act ∷ rest) = AreShort rest

-- what followed at a cell: its host has spoken plainly, and is orderly still
abbrev pub AllSpeak : (ℕ → Address) → Cell → Followed → Type 0
AllSpeak own cell (Ok done) = Speaks cell.host (steps_in done.0) done.1.host × IsOrderly own done.1.host
AllSpeak own cell (Err stop) = Unit {0}

-- The acts of a plain node are done, one after another: the cell stays plain and its host orderly, and the streams at its ends are carried
-- on.
pub record AskedTurn (own : ℕ → Address) (cell : Cell) (told : List Step) (after : Cell) : Type 0 where
  pub carries : CellCarries own cell told after
  pub plain : CellIsPlain after
  pub orderly : IsOrderly own after.host
