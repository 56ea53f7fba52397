-- What a host keeps: its endpoints, their links, and its sockets.
use Rattle.std.specs.Prelude.{ℕ, Bool, List, Option}
use Rattle.ch_base.specs.declared.address.Address.{Address}
use Rattle.ch_wire.specs.declared.frame.Frame.{Frame}
use Rattle.ch_reader.specs.declared.item.Expected.{Expected}
use Rattle.ch_link.specs.declared.LinkState.{LinkState}
use Rattle.ch_light.specs.declared.Connection.{Connection}
use Rattle.ch_model.specs.declared.step.Weight.{Weight}
use Rattle.ch_model.specs.Stages.{Stage}

-- an endpoint: its number, whether it is open, and how many connections have arrived at it
pub record Endpoint : Type 0 where
  pub number : ℕ
  pub is_open : Bool
  pub arrived : ℕ

-- A link of an endpoint with a peer: its state, what waits for a socket to be up, in order, and the ids of the
-- connections that the endpoint opened and of those that arrived, on the socket that is up or awaited.
pub record Link : Type 0 where
  pub end : ℕ
  pub peer : Address
  pub state : LinkState
  pub waits : List (Frame × Weight)
  pub given : List Connection
  pub created : List Connection

-- A host's end of a socket: its number; the host text of the peer, where the socket was accepted; how the end
-- stands; the endpoint and the peer whose link dialed it or was asked on it; which item is read next; and the
-- bytes that are read, since the last item.
pub record Socket : Type 0 where
  pub number : ℕ
  pub peer_host : Option (List ℕ)
  pub stage : Stage
  pub user : Option (ℕ × Address)
  pub expected : Expected
  pub since : List ℕ

-- A host: its text and port, the host texts of the peers that it takes, its endpoints in order of opening, its
-- links in order of first use, its sockets in order of appearance, and how often it has dialed.
pub record HostState : Type 0 where
  pub host : List ℕ
  pub port : ℕ
  pub circle : List (List ℕ)
  pub ends : List Endpoint
  pub links : List Link
  pub sockets : List Socket
  pub dials : ℕ
