-- A host that dials, is joined, and reads that it was accepted.
use Rattle.std.specs.Prelude.{[], ◌∷◌, Result, Ok, Err}
use Rattle.ch_base.specs.declared.address.Address.{Address}
use Rattle.ch_wire.specs.Spelling.{answer_spelling}
use Rattle.ch_wire.specs.declared.answer.Answer.TheVariants as answers
use Rattle.ch_model.specs.declared.step.SocketEvent.TheVariants as events
use Rattle.ch_model.specs.Host.{host_on, host_next}
use Rattle.ch_model.specs.HostCalls.{host_new, host_open, host_connect}
use Rattle.ch_model.specs.HostState.{HostState}

-- the host that a call left, or the one before where it was refused
abbrev pub after : {S E : Type 0} → HostState → Result (S × HostState) E → HostState
after host (Ok done) = done.1
after host (Err e) = host

-- the peer that it dials
abbrev pub the_peer : Address
the_peer = record { host = 98 ∷ []; port = 1; id = 0 }

-- a host with an endpoint, which has opened a connection to the peer
abbrev pub dialing_host : HostState
dialing_host =
    let fresh = (host_open (host_new (97 ∷ []) 1 ((98 ∷ []) ∷ [])) 0).1 in
    after fresh (host_connect fresh 0 the_peer 1)

-- the host once its dial has succeeded, and the peer's answer is there
abbrev pub answered_host : HostState
answered_host =
    let joined = after dialing_host (host_on dialing_host (events.Joined 0)) in
    after joined (host_on joined (events.Fed 0 (answer_spelling answers.Accepted)))

-- the host once it has read that it was accepted
abbrev pub accepted_host : HostState
accepted_host = after answered_host (host_next answered_host)
