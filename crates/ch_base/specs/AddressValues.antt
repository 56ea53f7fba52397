-- What an address is to a contract.
use Rattle.std.specs.Prelude.{ℕ, List}

-- a host's text, a port, and the number of an endpoint on that host
pub record AddressValue : Type 0 where
  pub host : List ℕ
  pub port : ℕ
  pub id : ℕ
