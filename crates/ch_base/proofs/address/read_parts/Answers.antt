use Rattle.std.proofs.Common.{rules, arith}
use Rattle.ch_base.proofs.Addresses.{address_found}
use Rattle.ch_base.proofs.address.read_parts.Goals as goal

pub invariant_of-result : goal.invariant_of-result
invariant_of-result c = rw c.in_ok-of.ensures (address_found c.args.text.now (c.in_ok-host.host.now, c.in_ok-host.rest.now) (c.in_ok-port.port, c.in_ok-port.rest.now) c.in_ok-id.id (omega arith) (search rules) (search rules) (search rules)).0
