use Rattle.ch_laws_plain.proofs.LinesHanded.{came_plain, fed_plain}
use Rattle.ch_laws_plain.proofs.LinesJoined.{joined_plain}
use Rattle.ch_laws_plain.proofs.lines.lines_keep_plain.Goals as goal

pub returns-clause-joined : goal.returns-clause-joined
returns-clause-joined c = joined_plain

pub returns-clause-came : goal.returns-clause-came
returns-clause-came c = came_plain

pub returns-clause-fed : goal.returns-clause-fed
returns-clause-fed c = fed_plain
