use Rattle.ch_laws_connections.proofs.Long.{acts_are, is_refused}
use Rattle.ch_laws_connections.proofs.long_text_is_refused.Goals as goal

pub returns-clause-acts : goal.returns-clause-acts
returns-clause-acts c = acts_are

pub returns-clause-refused : goal.returns-clause-refused
returns-clause-refused c = is_refused
