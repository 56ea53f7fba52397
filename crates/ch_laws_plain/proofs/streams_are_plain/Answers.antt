use Rattle.ch_laws_plain.proofs.Streams.{plain_behind, opening_plain}
use Rattle.ch_laws_plain.proofs.streams_are_plain.Goals as goal

pub returns-clause-behind : goal.returns-clause-behind
returns-clause-behind c = plain_behind

pub returns-clause-opened : goal.returns-clause-opened
returns-clause-opened c = opening_plain
