use Rattle.ch_laws_connections.proofs.Taken.{event_taken}
use Rattle.ch_laws_connections.proofs.OpenGiven.{worlds_hold, every_cell}
use Rattle.ch_laws_connections.specs.Fits.{CellHolds}
use Rattle.ch_laws_connections.specs.Taken.{EventTaken}
use Rattle.ch_laws_connections.proofs.nothing_refused.Goals as goal

pub returns-clause-event : goal.returns-clause-event
returns-clause-event c = event_taken

pub returns-clause-worlds : goal.returns-clause-worlds
returns-clause-worlds c journal lines log world e = every_cell CellHolds (λ cell. (event : Rattle.ch_model.specs.declared.local.LocalEvent.LocalEvent) → EventTaken cell event) (λ cell h event. event_taken cell event h) world.cells (worlds_hold journal lines log world e)
