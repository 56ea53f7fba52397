-- Where the links are looked for on which endpoints have connections open.
use Rattle.std.specs.Prelude.{◌≡◌, ℕ, ◌≤◌, ◌==◌, ◌&&◌, Bool, List, length, take, find, Option, Some, None, nat_lt, if◌then◌else◌}
use Rattle.std.specs.Map.{lookup}
use Rattle.ch_model.specs.HostState.{Link}
use Rattle.ch_model.specs.HostCalls.{carries}

-- of a place that may be known, and another, the lower one
abbrev pub lower : Option ℕ → ℕ → ℕ
lower None place = place
lower (Some first) place = if nat_lt first place then first else place

-- no link before the place has the connection open; and none at all, where no place is known
abbrev pub IsCarrierFrom : ℕ → ℕ → Option ℕ → List Link → Type 0
IsCarrierFrom end conn None links = find (carries end conn) links ≡ None
IsCarrierFrom end conn (Some first) links = (first ≤ length links) × (find (carries end conn) (take first links) ≡ None)

-- the test for an endpoint and a connection
abbrev pub has_conn : ℕ → ℕ → ℕ × ℕ → Bool
has_conn end conn key = (end == key.0) && (conn == key.1)

-- each connection that is open is found from the place that is known for it
abbrev pub AreCarriers : List ((ℕ × ℕ) × ℕ) → List Link → Type 0
AreCarriers entries links = (end conn : ℕ) → IsCarrierFrom end conn (lookup (has_conn end conn) entries) links
