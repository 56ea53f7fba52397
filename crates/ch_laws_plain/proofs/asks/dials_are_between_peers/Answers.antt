use Rattle.ch_laws_calls.specs.Calls.{Anything}
use Rattle.ch_laws_plain.specs.AsksGiven.{Given}
use Rattle.ch_laws_plain.proofs.AsksKept.{peers_kept}
use Rattle.ch_laws_plain.proofs.AsksPeers.{made_peers, asked_peers}
use Rattle.ch_laws_plain.proofs.asks.dials_are_between_peers.Goals as goal

pub returns-clause-made : goal.returns-clause-made
returns-clause-made c = made_peers

pub returns-clause-asked : goal.returns-clause-asked
returns-clause-asked c = asked_peers

pub returns-clause-kept : goal.returns-clause-kept
returns-clause-kept c = λ journal j addresses ends items. peers_kept journal (Given journal) Anything j addresses (λ log world g. g) ends items
