use Rattle.ch_model.specs.HostCalls.{host_connect, host_send, host_close, host_close_endpoint}
use Rattle.ch_laws_links.proofs.Hosts.{event_naming, next_naming, connect_naming, send_naming, close_naming, close_endpoint_naming, done_so}
use Rattle.ch_laws_links.proofs.Scenes.{rises}
use Rattle.ch_laws_links.proofs.steps_tell_ends.Goals as goal

pub returns-clause-on : goal.returns-clause-on
returns-clause-on c = λ host after event told f s e. (event_naming host after event told f s e).tells

pub returns-clause-next : goal.returns-clause-next
returns-clause-next c = λ host after told s e. (next_naming host after told s e).tells

pub returns-clause-connect : goal.returns-clause-connect
returns-clause-connect c = λ host after end peer conn told s e. (done_so host after told (host_connect host end peer conn) (connect_naming host end peer conn) s e).tells

pub returns-clause-send : goal.returns-clause-send
returns-clause-send c = λ host after end conn payload weight told s e. (done_so host after told (host_send host end conn payload weight) (send_naming host end conn payload weight) s e).tells

pub returns-clause-close : goal.returns-clause-close
returns-clause-close c = λ host after end conn told s e. (done_so host after told (host_close host end conn) (close_naming host end conn) s e).tells

pub returns-clause-close_endpoint : goal.returns-clause-close_endpoint
returns-clause-close_endpoint c = λ host after end told s e. (done_so host after told (host_close_endpoint host end) (close_endpoint_naming host end) s e).tells

pub returns-clause-such : goal.returns-clause-such
returns-clause-such c = rises
