use Rattle.std.proofs.Common.{◌≡◌, drop}
use Rattle.ch_model.specs.HostSteps.{after_steps}
use Rattle.ch_endpoint.specs.Shuts.{shuts_peers}
use Rattle.ch_endpoint.proofs.state.State.shuts_peers.Given as goal

abbrev pub invariant-loop-peer : goal.invariant-loop-peer
invariant-loop-peer l = after_steps l.steps.items (shuts_peers l.end (drop l.peer-index l.peers) l.self) ≡ shuts_peers l.end l.peers l.fn.self
