-- What the world of a journal is: names, hosts with their nodes, and sockets as two lists of bytes.
use Rattle.std.specs.Prelude.{ℕ, Bool, List, Option}
use Rattle.ch_base.specs.declared.address.Address.{Address}
use Rattle.ch_model.specs.declared.name.SockName.{SockName}
use Rattle.ch_model.specs.declared.step.Place.{Place}
use Rattle.ch_model.specs.Stages.{Stage}
use Rattle.ch_model.specs.HostState.{HostState}
use Rattle.ch_model.specs.NodeState.{NodeState}

-- a host and its nodes, each by the number of its endpoint
pub record Cell : Type 0 where
  pub host : HostState
  pub nodes : List (ℕ × NodeState)

-- what a journal's name of a node, or of an address that is no node, stands for
pub record Named : Type 0 where
  pub name : List ℕ
  pub address : Address
  pub unique : ℕ
  pub is_node : Bool

-- One end of a socket: the place of its host among the cells and the host's number for the socket, where it is of
-- a host and has one; how the end stands; the bytes towards it that are unread; for each item written towards it
-- and not read, the place of the message that it carries; and whether nothing more arrives.
pub record WorldEnd : Type 0 where
  pub cell : Option ℕ
  pub number : Option ℕ
  pub stage : Stage
  pub unread : List ℕ
  pub places : List (Option Place)
  pub is_cut : Bool

-- a socket by its name, the host text of its opener, and its two ends
pub record WorldSocket : Type 0 where
  pub name : SockName
  pub from_host : List ℕ
  pub o : WorldEnd
  pub t : WorldEnd

-- The world: its names in order of declaration, the strangers' names and host texts, its cells in order of
-- declaration with the number of sockets that each has accepted, its sockets in order of opening, and the place of
-- the message that was last said or read.
pub record World : Type 0 where
  pub names : List Named
  pub strangers : List (List ℕ × List ℕ)
  pub cells : List (Cell × ℕ)
  pub sockets : List WorldSocket
  pub last : Option Place
