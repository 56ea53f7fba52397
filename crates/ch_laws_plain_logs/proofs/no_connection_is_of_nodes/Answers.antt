use Rattle.ch_laws_plain_logs.proofs.Openings.{no_node_payloads}
use Rattle.ch_laws_plain_logs.proofs.Simply.{user_after_first}
use Rattle.ch_laws_plain_logs.proofs.no_connection_is_of_nodes.Goals as goal

pub returns-clause-opened : goal.returns-clause-opened
returns-clause-opened c = no_node_payloads

pub returns-clause-users : goal.returns-clause-users
returns-clause-users c = λ journal log sock end d written. user_after_first journal log sock end d (no_node_payloads journal log written)
