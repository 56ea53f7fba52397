-- What a node and the world of one node hold.
use Rattle.std.specs.Prelude.{ℕ, List}
use Rattle.ch_base.specs.AddressValues.{AddressValue}
use Rattle.ch_mail.specs.Process.{Process}

-- A node: its address and unique number, its processes, and for each pair of a sender and a receiver that
-- has said something how many messages it has said, in order of the first.
pub record NodeState : Type 0 where
  pub own : AddressValue
  pub unique : ℕ
  pub mail : List Process
  pub pairs : List ((ℕ × ℕ) × ℕ)

-- the journal's name for the node, and the node
pub record World : Type 0 where
  pub name : List ℕ
  pub node : NodeState
