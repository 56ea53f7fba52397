use Rattle.ch_laws_messages.proofs.PayloadsPayloads.{no_nodes_written, brought_about}
use Rattle.ch_laws_messages.proofs.payloads.nothing_is_written_of_nodes.Goals as goal

pub returns-clause-written : goal.returns-clause-written
returns-clause-written c = no_nodes_written

pub returns-clause-brought : goal.returns-clause-brought
returns-clause-brought c = brought_about
