use Rattle.ch_laws_plain.proofs.AsksWorlds.{made_plain, asked_plain_world}
use Rattle.ch_laws_plain.proofs.asks.node_turns_stay_plain.Goals as goal

pub returns-clause-made : goal.returns-clause-made
returns-clause-made c = made_plain

pub returns-clause-asked : goal.returns-clause-asked
returns-clause-asked c = asked_plain_world
