-- How the code's marks and bindings are seen.
use Rattle.ch_model.specs.NodeState as kept
use Rattle.ch_node.specs.declared.kept.Stage.{Stage}
use Rattle.ch_node.specs.declared.kept.Stage.TheVariants as stages

-- a pair's mark
abbrev pub mark_of : Stage → kept.Mark
mark_of stages.Unopened = kept.Unopened
mark_of (stages.Opened conn) = kept.Opened conn
mark_of stages.Broken = kept.Broken
