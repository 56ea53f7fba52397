use Rattle.std.proofs.Common.{◌≡◌, take, map}
use Rattle.ch_model.specs.HostWrites.{frame_step}
use Rattle.ch_endpoint.proofs.link.frame_steps.Given as goal

abbrev pub invariant-loop-item : goal.invariant-loop-item
invariant-loop-item l = l.steps.items ≡ map (frame_step l.sock) (take l.item-index l.items)
