use Rattle.ch_base.specs.declared.event.Event.TheVariants.{ConnectionOpened, Received, ConnectionClosed, EndPointClosed, ConnectionLost}
use Rattle.ch_ident.specs.Reading.{message_of}
use Rattle.ch_model.specs.Node.{node_event}
use Rattle.ch_model.specs.NodeArrivals.{bound_by, bind, arrives, departs}
use Rattle.ch_laws_plain_nodes.specs.Does.{Tells, Hears}
use Rattle.ch_laws_plain_nodes.proofs.Steps.{given_so}
use Rattle.ch_laws_plain_nodes.proofs.Events.{hears_opened, hears_closed, hears_shut, reads_opening, hears_payload, loses, Loses}
use Rattle.ch_laws_plain_nodes.proofs.plain_nodes_hear.Goals as goal

pub returns-clause-opened : goal.returns-clause-opened
returns-clause-opened c = λ node after conn peer done p e. given_so (Hears (arrives node conn peer)) (node_event node (ConnectionOpened conn peer)) done after (hears_opened node p conn peer) e

pub returns-clause-opening : goal.returns-clause-opening
returns-clause-opening c = λ node after conn payload arrived done p f u o e. given_so (Hears (bind node conn (bound_by node arrived.peer (message_of payload)))) (node_event node (Received conn payload)) done after (reads_opening node p conn payload arrived f u o) e

pub returns-clause-payload : goal.returns-clause-payload
returns-clause-payload c = λ node after conn payload done p i e. given_so (Tells node) (node_event node (Received conn payload)) done after (hears_payload node p conn payload i) e

pub returns-clause-closed : goal.returns-clause-closed
returns-clause-closed c = λ node after conn done p e. given_so (Hears (departs node conn)) (node_event node (ConnectionClosed conn)) done after (hears_closed node p conn) e

pub returns-clause-shut : goal.returns-clause-shut
returns-clause-shut c = λ node after done p e. given_so (Hears node) (node_event node EndPointClosed) done after (hears_shut node p) e

pub returns-clause-lost : goal.returns-clause-lost
returns-clause-lost c = λ node after peer why done p e. given_so (Loses node p peer why) (node_event node (ConnectionLost peer why)) done after (loses node p peer why) e
