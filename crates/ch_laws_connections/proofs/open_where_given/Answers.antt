use Rattle.ch_laws_connections.proofs.OpenGiven.{is_given, is_open, at_one}
use Rattle.ch_laws_connections.proofs.open_where_given.Goals as goal

pub returns-clause-given : goal.returns-clause-given
returns-clause-given c = is_given

pub returns-clause-opened : goal.returns-clause-opened
returns-clause-opened c = is_open

pub returns-clause-one_peer : goal.returns-clause-one_peer
returns-clause-one_peer c = at_one
