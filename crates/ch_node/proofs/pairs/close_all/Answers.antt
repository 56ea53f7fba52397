use Rattle.std.proofs.Common.{rules}
use Rattle.std.proofs.lemmas.List.Edits.{map_over_more}
use Rattle.std.proofs.lemmas.List.{take_all, drop_all}
use Rattle.ch_model.specs.NodePairs.{closed_by}
use Rattle.ch_node.proofs.pairs.close_all.Goals as goal

pub loop-pair-preserved : goal.loop-pair-preserved
loop-pair-preserved c = search (rules, map_over_more (closed_by c.args.by))

pub returns : goal.returns
returns c = search (rules, take_all, drop_all)
