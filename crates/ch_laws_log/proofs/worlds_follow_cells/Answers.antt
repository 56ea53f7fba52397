use Rattle.ch_laws_log.proofs.Told.{good_after}
use Rattle.ch_laws_log.proofs.WorldEnds.{told_held}
use Rattle.ch_laws_log.proofs.worlds_follow_cells.Goals as goal

pub returns : goal.returns
returns c = λ journal lines log world place cell told is new p n. told_held journal log place p n cell told world (good_after journal lines log world is) new
