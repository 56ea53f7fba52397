use Rattle.ch_laws_calls.proofs.ScenesJournals.{many_pairs}
use Rattle.ch_laws_calls.proofs.scenes.nodes_are_pairs.Goals as goal

pub returns : goal.returns
returns c = many_pairs
