use Rattle.ch_laws_connections.proofs.Found.{endpoint_open, is_carried, not_carried, id_is_left}
use Rattle.ch_laws_connections.proofs.found_by_the_host.Goals as goal

pub returns-clause-endpoint : goal.returns-clause-endpoint
returns-clause-endpoint c = endpoint_open

pub returns-clause-carried : goal.returns-clause-carried
returns-clause-carried c = is_carried

pub returns-clause-uncarried : goal.returns-clause-uncarried
returns-clause-uncarried c = not_carried

pub returns-clause-id_left : goal.returns-clause-id_left
returns-clause-id_left c = id_is_left
