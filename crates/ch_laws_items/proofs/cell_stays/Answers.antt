use Rattle.ch_laws_items.proofs.Seats.{cell_after, node_there}
use Rattle.ch_laws_items.proofs.cell_stays.Goals as goal

pub returns-clause-step : goal.returns-clause-step
returns-clause-step c = cell_after

pub returns-clause-node : goal.returns-clause-node
returns-clause-node c = λ cell after event done end node e found. node_there end node cell.nodes after.nodes (cell_after cell after event done e).nodes found
