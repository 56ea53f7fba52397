use Rattle.std.proofs.Common.{◌≡◌, List, find, None, subst}
use Rattle.ch_model.specs.HostState.{Socket}
use Rattle.ch_model.specs.HostSteps.{is_socket}
use Rattle.ch_model.specs.Host.{first_ready}
use Rattle.ch_endpoint.proofs.SocketTables.{first_is, none_is, no_keys, not_above}
use Rattle.ch_endpoint.proofs.sockets.Sockets.first_ready.Goals as goal

pub returns-in-None-clause-first : goal.returns-in-None-clause-first
returns-in-None-clause-first c = subst (λ (xs : List Socket). first_ready xs ≡ None) c.self.view_is (none_is _ c.self.inside.ready c.self.invariant.apart c.self.invariant.set (no_keys _ c.in-None.ensures.variant.1))

pub returns-in-Some-clause-first : goal.returns-in-Some-clause-first
returns-in-Some-clause-first c = subst (λ (xs : List Socket). first_ready xs ≡ find (is_socket c.in-Some.number.now) xs) c.self.view_is (first_is _ c.self.inside.ready c.in-Some.number.now c.self.invariant.apart c.self.invariant.set c.in-Some.ensures.member (λ q there. not_above c.in-Some.number.now q (c.in-Some.ensures.least q there)))
