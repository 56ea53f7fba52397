-- How the code's stage of an end is the model's.
use Rattle.ch_model.specs.Stages.{Stage, Pending, Open, Ended}
use Rattle.ch_sockets.specs.declared.stage.Stage.{Stage as Standing}
use Rattle.ch_sockets.specs.declared.stage.Stage.TheVariants as standings

-- how an end stands
abbrev pub stage_of : Standing → Stage
stage_of standings.Pending = Pending
stage_of standings.Open = Open
stage_of standings.Ended = Ended
