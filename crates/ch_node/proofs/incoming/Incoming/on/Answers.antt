use Rattle.std.proofs.Common.{◌==◌, Bool, Some, get_or, sym, ap, ◌∙◌}
use Rattle.ch_model.specs.NodeState.{Arrived}
use Rattle.ch_node.proofs.Found.{found_there, none_there}
use Rattle.ch_node.proofs.incoming.Incoming.on.Goals as goal

pub returns-in-None : goal.returns-in-None
returns-in-None c =
    let test : Arrived → Bool = λ arrived. arrived.conn == c.args.conn in
    sym (none_there test c.args.self.now (sym c.in-None.ensures.place))

pub returns-in-Some : goal.returns-in-Some
returns-in-Some c =
    let test : Arrived → Bool = λ arrived. arrived.conn == c.args.conn in
    let d : Arrived = c.index.result.now in
    ap Some (c.index.ensures ∙ ap (λ rows. get_or rows c.in-Some.place d) c.self.view_is) ∙ sym (found_there test d c.args.self.now c.in-Some.place (sym c.in-Some.ensures.place))
