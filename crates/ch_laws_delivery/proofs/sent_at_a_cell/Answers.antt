use Rattle.ch_laws_delivery.proofs.Cells.{is_sent_at, is_sent_first_at}
use Rattle.ch_laws_delivery.proofs.UpCells.{is_written_at}
use Rattle.ch_laws_delivery.proofs.UpFirstCells.{is_written_first_at}
use Rattle.ch_laws_delivery.proofs.sent_at_a_cell.Goals as goal

pub returns-clause-later : goal.returns-clause-later
returns-clause-later z = λ names apart scene c name conn id said h cell s. is_sent_at names apart scene c name conn id said h cell s

pub returns-clause-first : goal.returns-clause-first
returns-clause-first z = λ names apart scene c name conn said h cell s. is_sent_first_at names apart scene c name conn said h cell s

pub returns-clause-up : goal.returns-clause-up
returns-clause-up z = λ names apart scene c name conn id sock probed said h cell s. is_written_at names apart scene c name conn id sock probed said h cell s

pub returns-clause-first_up : goal.returns-clause-first_up
returns-clause-first_up z = λ names apart scene c name conn sock probed said h cell s. is_written_first_at names apart scene c name conn sock probed said h cell s
