use Rattle.std.proofs.Common.{rules, List}
use Rattle.ch_model.specs.declared.act.Act.{Act}
use Rattle.ch_model.specs.NodeActs.{Done, after, each_in_turn}
use Rattle.ch_model.specs.NodePairs.{closed_pairs}
use Rattle.ch_model.specs.NodeEnds.{farewell}
use Rattle.ch_model.specs.NodeWatches.{tell_end}
use Rattle.ch_node.specs.Calls.{Halts}
use Rattle.ch_node.proofs.Steps.{over_stops}
use Rattle.ch_node.proofs.state.State.end_told.Goals as goal

pub returns-in_err-told : goal.returns-in_err-told
returns-in_err-told c =
    let front : List Act = farewell c.args.self.now c.args.number c.args.reason.now c.args.ending.now.names in
    let whole : Done = after front (each_in_turn (λ watch m. tell_end m watch c.args.reason.now) c.args.ending.now.watches (record c.args.self.now { pairs = closed_pairs c.args.self.now.pairs c.args.number })) in
    let stopped : Halts c.in_err-told.field-0.0 whole = over_stops c.in_err-told.field-0.0 front _ _ (search rules) c.in_err-told.ensures in
    search rules
