-- How the sockets of an opener and a target are numbered.
use Rattle.std.specs.Prelude.{◌≡◌, ℕ, ◌≤◌, List, map, find, count_by, None}
use Rattle.ch_model.specs.declared.name.SockName.{SockName}
use Rattle.ch_model.specs.Same.{same_socket}
use Rattle.ch_model.specs.WorldState.{WorldSocket}
use Rattle.ch_model.specs.Naming.{same_ends}

abbrev pub names_of : List WorldSocket → List SockName
names_of sockets = map (λ (socket : WorldSocket). socket.name) sockets

-- no socket of these two has a number that isn't below the count of them
abbrev pub Numbered : List SockName → Type 0
Numbered names = (from to : List ℕ) (n : ℕ) → count_by (same_ends from to) names ≤ n → find (λ name. same_socket name (record { from = from; to = to; number = n })) names ≡ None
