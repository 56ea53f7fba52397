use Rattle.std.proofs.Common.{◌≡◌, take}
use Rattle.ch_world.specs.Declaring.{cells_among}
use Rattle.ch_world.proofs.declare.cells.Given as goal

abbrev pub invariant-loop-address : goal.invariant-loop-address
invariant-loop-address l = l.cells.items ≡ cells_among l.lines l.circle l.nodes (take l.address-index l.addresses)
