use Rattle.std.proofs.Common.{◌≡◌, ◌≤◌, [], length, ap, ◌∙◌, arith}
use Rattle.std.proofs.lemmas.List.{take_all}
use Rattle.std.specs.Prelude.{List, fold}
use Rattle.ch_model.specs.WorldState.{Named}
use Rattle.ch_world.specs.Declaring.{first_added}
use Rattle.ch_world.proofs.Declares.{firsts_are}
use Rattle.ch_world.proofs.declare.firsts.Goals as goal

pub returns : goal.returns
returns c =
    let past : length c.args.nodes.now ≤ c.loop-node.node-index = omega arith in
    c.loop-node.invariant ∙ ap (λ (ns : List Named). fold (λ found node. first_added found node.address) [] ns) (take_all c.loop-node.node-index c.args.nodes.now past) ∙ firsts_are c.args.nodes.now
