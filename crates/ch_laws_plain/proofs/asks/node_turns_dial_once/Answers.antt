use Rattle.ch_laws_plain.proofs.AsksWorlds.{asked_dials}
use Rattle.ch_laws_plain.proofs.asks.node_turns_dial_once.Goals as goal

pub returns : goal.returns
returns c = asked_dials
