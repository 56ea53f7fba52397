-- How a host's sockets are kept: each under its number, with the numbers of those that have something to handle.
use Rattle.std.specs.Prelude.{◌≡◌, ℕ, Bool, false, List, [], ◌∷◌, find, Option, Some, None}
use Rattle.std.specs.Ordering.{nat_cmp}
use Rattle.std.specs.Map.{values_of}
use Rattle.std.specs.BTreeSet.{BTreeSet, contains}
use Rattle.ch_model.specs.HostState.{Socket}
use Rattle.ch_model.specs.HostSteps.{is_socket}
use Rattle.ch_model.specs.Host.{is_ready}

-- the socket that was found has something to handle
abbrev pub ready_in : Option Socket → Bool
ready_in None = false
ready_in (Some socket) = is_ready socket

-- each socket stands under its number
abbrev pub UnderNumbers : List (ℕ × Socket) → Type 0
UnderNumbers [] = Unit {0}
UnderNumbers (e ∷ es) = (e.1.number ≡ e.0) × UnderNumbers es

-- no two sockets have one number
abbrev pub NumbersApart : List Socket → Type 0
NumbersApart [] = Unit {0}
NumbersApart (socket ∷ rest) = (find (is_socket socket.number) rest ≡ None) × NumbersApart rest

-- the set has the numbers of the sockets that have something to handle, and no other
abbrev pub IsReadySet : BTreeSet ℕ → List Socket → Type 0
IsReadySet ready sockets = (number : ℕ) → contains nat_cmp ready number ≡ ready_in (find (is_socket number) sockets)

-- the table of sockets, and the set of those that have something to handle
pub record KeepsSockets (entries : List (ℕ × Socket)) (ready : BTreeSet ℕ) : Type 0 where
  pub under : UnderNumbers entries
  pub apart : NumbersApart (values_of entries)
  pub set : IsReadySet ready (values_of entries)
