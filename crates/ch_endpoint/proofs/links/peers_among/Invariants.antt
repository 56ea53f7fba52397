use Rattle.std.proofs.Common.{◌≡◌, take}
use Rattle.ch_endpoint.specs.Shuts.{peers_of}
use Rattle.ch_endpoint.proofs.links.peers_among.Given as goal

abbrev pub invariant-loop-link : goal.invariant-loop-link
invariant-loop-link l = l.peers.items ≡ peers_of l.end (take l.link-index l.links)
