-- The end of an endpoint: the links that are shut, by their peers.
use Rattle.std.specs.Prelude.{ℕ, ◌==◌, List, [], ◌∷◌, map, filter, find}
use Rattle.ch_base.specs.declared.address.Address.{Address}
use Rattle.ch_link.specs.declared.LinkIn.TheVariants.{Shut}
use Rattle.ch_model.specs.HostState.{Link, HostState}
use Rattle.ch_model.specs.HostSteps.{Stepped, still, ◌then◌, link_with, is_endpoint}
use Rattle.ch_model.specs.HostLinks.{hears}
use Rattle.ch_model.specs.HostItems.{posts}
use Rattle.ch_model.specs.HostCalls.{shuts_links, closes_endpoint}
use Rattle.ch_base.specs.declared.event.Event.TheVariants as events

-- the peers of an endpoint's links, in order of first use
abbrev pub peers_of : ℕ → List Link → List Address
peers_of end links = map (λ link. link.peer) (filter (λ link. link.end == end) links)

-- the link of the endpoint with each of these peers is shut, in order
abbrev pub shuts_peers : ℕ → List Address → HostState → Stepped
shuts_peers end [] host = still host
shuts_peers end (peer ∷ rest) host = hears Shut (link_with host end peer) host then shuts_peers end rest

-- the links of an endpoint are shut, it is closed, and its node is told last
abbrev pub closes_all : ℕ → HostState → Stepped
closes_all end host = shuts_links end host.links host then (λ shut. posts end events.EndPointClosed (closes_endpoint (find (is_endpoint end) shut.ends) shut))
