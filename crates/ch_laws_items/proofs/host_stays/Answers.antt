use Rattle.ch_model.specs.Host.{host_on, host_next}
use Rattle.ch_model.specs.HostCalls.{host_connect, host_send, host_close, host_close_endpoint}
use Rattle.ch_laws_items.proofs.Hosts.{host_after, on_event, next_item, connected, sent, closed, endpoint_closed}
use Rattle.ch_laws_items.proofs.host_stays.Goals as goal

pub returns-clause-on : goal.returns-clause-on
returns-clause-on c = λ host after event steps e. host_after host after steps (host_on host event) (on_event host event) e

pub returns-clause-next : goal.returns-clause-next
returns-clause-next c = λ host after steps e. host_after host after steps (host_next host) (next_item host) e

pub returns-clause-connect : goal.returns-clause-connect
returns-clause-connect c = λ host after end peer conn steps e. host_after host after steps (host_connect host end peer conn) (connected host end peer conn) e

pub returns-clause-send : goal.returns-clause-send
returns-clause-send c = λ host after end conn payload weight steps e. host_after host after steps (host_send host end conn payload weight) (sent host end conn payload weight) e

pub returns-clause-close : goal.returns-clause-close
returns-clause-close c = λ host after end conn steps e. host_after host after steps (host_close host end conn) (closed host end conn) e

pub returns-clause-close_endpoint : goal.returns-clause-close_endpoint
returns-clause-close_endpoint c = λ host after end steps e. host_after host after steps (host_close_endpoint host end) (endpoint_closed host end) e
