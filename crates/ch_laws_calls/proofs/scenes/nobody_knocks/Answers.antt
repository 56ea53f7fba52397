use Rattle.ch_laws_calls.proofs.ScenesUnknocked.{unknocked_kept}
use Rattle.ch_laws_calls.proofs.scenes.nobody_knocks.Goals as goal

pub returns : goal.returns
returns c = unknocked_kept
