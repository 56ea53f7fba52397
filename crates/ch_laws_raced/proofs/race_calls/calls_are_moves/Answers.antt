use Rattle.ch_laws_raced.proofs.RaceCallsCalls.{connects_moved, sends_moved, closes_moved}
use Rattle.ch_laws_raced.proofs.race_calls.calls_are_moves.Goals as goal

pub returns-clause-connect : goal.returns-clause-connect
returns-clause-connect z = λ journal log world sound party facts place cell end peer conn steps host there does. connects_moved journal log world sound party facts place cell there (steps, host) end peer conn does

pub returns-clause-send : goal.returns-clause-send
returns-clause-send z = λ journal log world sound party facts unshut place cell end conn payload weight steps host there does. sends_moved journal log world sound party facts place cell there (steps, host) end conn payload weight unshut does

pub returns-clause-close : goal.returns-clause-close
returns-clause-close z = λ journal log world sound party facts place cell end conn steps host there does. closes_moved journal log world sound party facts place cell there (steps, host) end conn does
