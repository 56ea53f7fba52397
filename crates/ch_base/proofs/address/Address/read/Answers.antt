use Rattle.ch_base.proofs.Addresses.{found_by, only_by}
use Rattle.ch_base.proofs.address.Address.read.Goals as goal

pub returns-clause-found : goal.returns-clause-found
returns-clause-found c = found_by c.args.text.now c.read_parts.result c.read_parts.ensures

pub returns-clause-only : goal.returns-clause-only
returns-clause-only c = only_by c.args.text.now c.read_parts.result c.read_parts.ensures
