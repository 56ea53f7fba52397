use Rattle.std.proofs.Common.{◌≡◌, take, map}
use Rattle.ch_cell.specs.New.{AreOf, named}
use Rattle.ch_world.specs.Declaring.{openings_at}
use Rattle.ch_world.proofs.declare.openings.Given as goal

abbrev pub invariant-loop-node : goal.invariant-loop-node
invariant-loop-node l = record {
  own : AreOf l.address.host l.address.port l.openings.items;
  told : map named l.openings.items ≡ openings_at l.lines (take l.node-index l.nodes) l.address;
}
