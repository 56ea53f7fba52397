-- How the code's stage of a socket's end is the model's.
use Rattle.ch_model.specs.Stages.{Stage, Pending, Open, Ended}
use Rattle.ch_endpoint.specs.declared.socket.Standing.{Standing}
use Rattle.ch_endpoint.specs.declared.socket.Standing.TheVariants as standings

-- how an end stands
abbrev pub stage_of : Standing → Stage
stage_of standings.Pending = Pending
stage_of standings.Open = Open
stage_of standings.Ended = Ended
