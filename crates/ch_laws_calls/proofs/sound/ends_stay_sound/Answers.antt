use Rattle.ch_laws_calls.proofs.SoundKept.{many_kept, many_fresh}
use Rattle.ch_laws_calls.proofs.sound.ends_stay_sound.Goals as goal

pub returns-clause-kept : goal.returns-clause-kept
returns-clause-kept c = many_kept

pub returns-clause-fresh : goal.returns-clause-fresh
returns-clause-fresh c = many_fresh
