-- What a host keeps unread, socket by socket.
use Rattle.std.specs.Prelude.{◌≡◌, ◌≤◌, ℕ, ◌+◌, List, [], ◌∷◌, length, find, None, Result, Ok, Err, if◌then◌else◌}
use Rattle.ch_model.specs.HostState.{Socket, HostState}
use Rattle.ch_model.specs.HostSteps.{Stepped, is_socket}

-- how many bytes are unread of all sockets
abbrev pub kept_of : List Socket → ℕ
kept_of [] = 0
kept_of (socket ∷ rest) = length socket.since + kept_of rest

-- how many are unread of the socket of this number
abbrev pub kept_at : ℕ → List Socket → ℕ
kept_at number [] = 0
kept_at number (socket ∷ rest) = if is_socket number socket then length socket.since else kept_at number rest

-- no two sockets have one number
abbrev pub Apart : List Socket → Type 0
Apart [] = Unit {0}
Apart (socket ∷ rest) = (find (is_socket socket.number) rest ≡ None) × Apart rest

-- no more is unread than before, and the sockets' numbers still differ
pub record KeepsNoMore (before after : HostState) : Type 0 where
  pub apart : Apart before.sockets → Apart after.sockets
  pub kept : kept_of after.sockets ≤ kept_of before.sockets

-- whatever was done
abbrev pub AllKeepNoMore : {S E : Type 0} → HostState → Result (S × HostState) E → Type 0
AllKeepNoMore before (Ok done) = KeepsNoMore before done.1
AllKeepNoMore before (Err e) = Unit {0}

-- the same of steps of a host
abbrev pub Fine : HostState → Stepped → Type 0
Fine before (Ok done) = KeepsNoMore before done.1
Fine before (Err stop) = Unit {0}
