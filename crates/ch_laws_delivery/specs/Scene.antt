-- What a passage sees of the world: the node that sends and its link, the node that receives and its link, and the way
-- between.
use Rattle.std.specs.Prelude.{ℕ, Bool, List, Option}
use Rattle.ch_base.specs.declared.address.Address.{Address}
use Rattle.ch_static.specs.declared.target.Target.{Target}
use Rattle.ch_model.specs.HostState.{Link, HostState}
use Rattle.ch_model.specs.HostSteps.{link_with}
use Rattle.ch_model.specs.NodeState.{NodeState}
use Rattle.ch_delivery.specs.Passage.{Item, Entry}

-- a pair: a process of the sending node, by number, and a target at the receiving node
pub record Name : Type 0 where
  pub by : ℕ
  pub to : Target

-- what a connection is for: a pair, by its place among the names, and its epoch
pub record Use : Type 0 where
  pub pair : ℕ
  pub epoch : ℕ

-- A node on its host: the host, the number of its endpoint there, the node, and the address of the other node.
pub record Party : Type 0 where
  pub host : HostState
  pub end : ℕ
  pub node : NodeState
  pub peer : Address

-- The sockets between the two, by numbers in the order in which they came up: the last that the sending node came up on,
-- the last that the receiving node did, what is written on each and unread, and which are cut.
pub record Way : Type 0 where
  pub on : ℕ
  pub at : ℕ
  pub flight : ℕ → List Item
  pub cut : ℕ → Bool

-- The two nodes, the way, and the log so far; and what no state tells: what the ids of connections are for, of those that
-- the sender's link has given since it was last idle, and of those on the socket that the receiver reads.
pub record Scene : Type 0 where
  pub from : Party
  pub to : Party
  pub way : Way
  pub given : List (Option Use)
  pub created : List (Option Use)
  pub log : List Entry

-- the link of a party with the other
abbrev pub link_of : Party → Link
link_of party = link_with party.host party.end party.peer
