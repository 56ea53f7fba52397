use Rattle.ch_model.specs.HostCalls.{host_connect, host_send, host_close, host_close_endpoint}
use Rattle.ch_laws_items.proofs.Calls.{connected, sent, closed, endpoint_closed}
use Rattle.ch_laws_items.proofs.Next.{next_fine}
use Rattle.ch_laws_items.proofs.Events.{stays_apart, asking_stays}
use Rattle.ch_laws_items.proofs.numbers_differ.Goals as goal

pub returns-clause-fresh : goal.returns-clause-fresh
returns-clause-fresh c = λ host port circle. tt

pub returns-clause-on : goal.returns-clause-on
returns-clause-on c = stays_apart

pub returns-clause-next : goal.returns-clause-next
returns-clause-next c = λ host after steps apart e. (next_fine host after steps apart e).apart apart

pub returns-clause-connect : goal.returns-clause-connect
returns-clause-connect c = λ host after end peer conn steps apart e. asking_stays host after steps (host_connect host end peer conn) (connected host end peer conn) apart e

pub returns-clause-send : goal.returns-clause-send
returns-clause-send c = λ host after end conn payload weight steps apart e. asking_stays host after steps (host_send host end conn payload weight) (sent host end conn payload weight) apart e

pub returns-clause-close : goal.returns-clause-close
returns-clause-close c = λ host after end conn steps apart e. asking_stays host after steps (host_close host end conn) (closed host end conn) apart e

pub returns-clause-close_endpoint : goal.returns-clause-close_endpoint
returns-clause-close_endpoint c = λ host after end steps apart e. asking_stays host after steps (host_close_endpoint host end) (endpoint_closed host end) apart e
