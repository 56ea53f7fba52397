-- Which connections a host has given ids to, on the links of its endpoints.
use Rattle.std.specs.Prelude.{◌≡◌, ℕ, ◌+◌, Bool, false, not, ◌&&◌, ◌||◌, ◌==◌, nat_le, List, [], ◌∷◌, find, None, if◌then◌else◌}
use Rattle.std.specs.List.{list_any}
use Rattle.ch_base.specs.declared.address.Address.{Address}
use Rattle.ch_base.specs.declared.event.Event.TheVariants.{ConnectionLost}
use Rattle.ch_light.specs.declared.Connection.{Connection}
use Rattle.ch_light.specs.Ids.{is_open_as}
use Rattle.ch_watch.specs.Same.{same_node}
use Rattle.ch_model.specs.HostState.{Link, HostState}
use Rattle.ch_model.specs.HostCalls.{most_waiting}
use Rattle.ch_model.specs.HostSteps.{is_link, is_open_endpoint, link_with}
use Rattle.ch_model.specs.HostWrites.{is_up, counted_in}
use Rattle.ch_model.specs.declared.step.Step.{Step}
use Rattle.ch_model.specs.declared.step.Step.TheVariants.{Post}

-- the connections that got an id on the link of an endpoint with a peer, on the socket that is up or awaited
abbrev pub given_at : HostState → ℕ → Address → List Connection
given_at host end peer = (link_with host end peer).given

-- how often a connection is open among those
abbrev pub open_in : List Connection → ℕ → ℕ
open_in [] conn = 0
open_in (c ∷ rest) conn = (if is_open_as conn c then 1 else 0) + open_in rest conn

-- how often it is open on the link of an endpoint with a peer
abbrev pub given_so : HostState → ℕ → ℕ → Address → ℕ
given_so host end conn peer = open_in (given_at host end peer) conn

-- no two links are of one endpoint and one peer
abbrev pub LinksApart : List Link → Type 0
LinksApart [] = Unit {0}
LinksApart (link ∷ rest) = (find (is_link link.end link.peer) rest ≡ None) × LinksApart rest

-- the endpoint is open
abbrev pub is_standing : HostState → ℕ → Bool
is_standing host end = list_any (is_open_endpoint end) host.ends

-- the step tells an endpoint that its link with a peer has failed
abbrev pub loses_at : ℕ → Address → Step → Bool
loses_at end peer (Post at (ConnectionLost other why)) = (at == end) && same_node other peer
loses_at end peer step = false

-- the link is up, or one more counted payload may wait for it
abbrev pub has_space : Link → Bool
has_space link = is_up link.state || not (nat_le most_waiting (counted_in link))

-- so is the link of an endpoint with a peer
abbrev pub roomy_at : HostState → ℕ → Address → Bool
roomy_at host end peer = has_space (link_with host end peer)
