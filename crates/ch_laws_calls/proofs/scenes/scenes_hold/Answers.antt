use Rattle.ch_laws_calls.proofs.ScenesJournals.{many_facts}
use Rattle.ch_laws_calls.proofs.scenes.scenes_hold.Goals as goal

pub returns : goal.returns
returns c = many_facts
