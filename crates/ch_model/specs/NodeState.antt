-- What a node keeps: its processes, what they watch and are named, whom they have sent to, and what has arrived.
use Rattle.std.specs.Prelude.{ℕ, Bool, List}
use Rattle.ch_base.specs.declared.address.Address.{Address}
use Rattle.ch_ident.specs.declared.identifier.ProcessId.{ProcessId}
use Rattle.ch_mail.specs.Process.{Process}
use Rattle.ch_static.specs.declared.target.Target.{Target}
use Rattle.ch_watch.specs.Lists.{Lists}

-- A pair's mark: no connection is opened, this one is, or the link broke and nothing goes until the pair reconnects.
pub data Mark : Type 0 where
  Unopened : Mark
  Opened : (conn : ℕ) → Mark
  Broken : Mark

-- a sending process and a target, the pair's epoch, the index of its next message there, and its mark
pub record Pair : Type 0 where
  pub by : ℕ
  pub to : Target
  pub epoch : ℕ
  pub index : ℕ
  pub mark : Mark

-- What a connection that arrived is for, by its opening message: not told yet; nothing, and all on it is dropped;
-- messages of the peer's node; messages of a process to names; or its messages to a process or port.
pub data Bound : Type 0 where
  Unread : Bound
  Void : Bound
  FromNode : Bound
  ToNames : (from : ProcessId) → Bound
  ToTarget : (from : ProcessId) (to : Target) → Bound

-- a connection that arrived, from this peer
pub record Arrived : Type 0 where
  pub conn : ℕ
  pub peer : Address
  pub bound : Bound

-- A node: its address and unique number; its labels in order of adding; whether it is shut; its processes by number
-- and the arguments of each; its watches and names; its pairs in order of first use; how many connections it has
-- opened; its own connection to each node that it has one with; and the connections that arrived, in order.
pub record NodeState : Type 0 where
  pub own : Address
  pub unique : ℕ
  pub labels : List (List ℕ)
  pub is_shut : Bool
  pub mail : List Process
  pub args : List (List ℕ)
  pub watches : Lists
  pub pairs : List Pair
  pub opened : ℕ
  pub to_nodes : List (Address × ℕ)
  pub arrived : List Arrived
