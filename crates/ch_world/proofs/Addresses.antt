-- Addresses of which all parts are alike.
use Rattle.std.proofs.Common.{◌≡◌, ℕ, Bool, true, false, ◌&&◌, ◌==◌, List}
use Rattle.std.specs.Str.{bytes_eq}
use Rattle.ch_base.specs.declared.address.Address.{Address}
use Rattle.ch_watch.specs.Same.{same_node}
use Rattle.ch_world.proofs.Found.{both, number_is, text_is}

pub node_alike : (a b : Address) → same_node a b ≡ true → a ≡ b
unfolding same_node
node_alike a b e = λ i. record { host = text_is a.host b.host parts.0 i; port = number_is a.port b.port numbers.0 i; id = number_is a.id b.id numbers.1 i }
  where
    parts : (bytes_eq a.host b.host ≡ true) × (((a.port == b.port) && (a.id == b.id)) ≡ true)
    parts = both (bytes_eq a.host b.host) ((a.port == b.port) && (a.id == b.id)) e

    numbers : ((a.port == b.port) ≡ true) × ((a.id == b.id) ≡ true)
    numbers = both (a.port == b.port) (a.id == b.id) parts.1
