use Rattle.ch_laws_delivery.proofs.Shuts.{is_shut, is_shut_there, is_shut_off}
use Rattle.ch_laws_delivery.proofs.shut_at_a_node.Goals as goal

pub returns-clause-sender : goal.returns-clause-sender
returns-clause-sender z = λ names scene lives. is_shut names scene lives

pub returns-clause-receiver : goal.returns-clause-receiver
returns-clause-receiver z = λ names scene lives. is_shut_there names scene lives

pub returns-clause-off : goal.returns-clause-off
returns-clause-off z = λ names scene lives none. is_shut_off names scene lives none
