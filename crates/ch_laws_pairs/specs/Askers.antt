-- Who asked on an opener's end: the endpoint and the peer whose link dialed it, as the steps of its host tell.
use Rattle.std.specs.Prelude.{◌≡◌, ℕ, ◌+◌, ◌*◌, ◌≤◌, true, cond, ◌==◌, List, [], ◌∷◌, find, Option, Some, None, Result, Ok, Err}
use Rattle.ch_base.specs.declared.address.Address.{Address}
use Rattle.ch_model.specs.declared.local.LocalEvent.{LocalEvent}
use Rattle.ch_model.specs.declared.local.LocalEvent.TheVariants as locals
use Rattle.ch_model.specs.declared.step.SocketEvent.{SocketEvent}
use Rattle.ch_model.specs.declared.step.SocketEvent.TheVariants as events
use Rattle.ch_model.specs.declared.step.Step.{Step}
use Rattle.ch_model.specs.declared.step.Step.TheVariants as steps
use Rattle.ch_model.specs.HostState.{Socket, HostState}
use Rattle.ch_model.specs.HostSteps.{is_socket, own_address}
use Rattle.ch_laws_items.specs.Kept.{Apart}

-- the endpoint and the peer whose link dialed the socket; none of a socket that was accepted, whose peer's host is known
abbrev pub Asker : Type 0
Asker = Option (ℕ × Address)

abbrev pub asker_with : Option (List ℕ) → Asker → Asker
asker_with None user = user
asker_with (Some host) user = None

abbrev pub asker_of : Option Socket → Asker
asker_of None = None
asker_of (Some socket) = asker_with socket.peer_host socket.user

-- who asked on the host's end of the socket of this number
abbrev pub asker_at : HostState → ℕ → Asker
asker_at host n = asker_of (find (is_socket n) host.sockets)

-- what a step tells of it: whose link dials
abbrev pub asker_after : ℕ → Step → Asker → Asker
asker_after n (steps.Dial sock end peer) asker = cond (sock == n) (Some (end, peer)) asker
asker_after n step asker = asker

abbrev pub asker_after_all : ℕ → List Step → Asker → Asker
asker_after_all n [] asker = asker
asker_after_all n (step ∷ rest) asker = asker_after_all n rest (asker_after n step asker)

-- nobody asked yet on a socket that is dialed
abbrev pub IsFresh : ℕ → Step → Asker → Type 0
IsFresh n (steps.Dial sock end peer) asker = (sock == n) ≡ true → asker ≡ None
IsFresh n step asker = Unit {0}

abbrev pub AreFresh : ℕ → List Step → Asker → Type 0
AreFresh n [] asker = Unit {0}
AreFresh n (step ∷ rest) asker = IsFresh n step asker × AreFresh n rest (asker_after n step asker)

-- The numbers of a host's sockets differ, and nobody asked on the numbers of its next dials, nor on odd ones.
pub record IsAsking (host : HostState) : Type 0 where
  pub apart : Apart host.sockets
  pub free : (k : ℕ) → host.dials ≤ k → asker_at host (2 * k) ≡ None
  pub odd : (k : ℕ) → asker_at host (2 * k + 1) ≡ None

-- The steps tell who asks on a host's ends after them: it stays so, its endpoints keep their addresses, who asked before still
-- does, and they dial sockets on which nobody asked.
pub record Asks (before : HostState) (told : List Step) (after : HostState) : Type 0 where
  pub asking : IsAsking after
  pub home : (end : ℕ) → own_address after end ≡ own_address before end
  pub askers : (n : ℕ) → asker_at after n ≡ asker_after_all n told (asker_at before n)
  pub fresh : (n : ℕ) → AreFresh n told (asker_at before n)

-- what such a host does is told so
abbrev pub AllAsk : {E : Type 0} → HostState → Result (List Step × HostState) E → Type 0
AllAsk before (Ok done) = IsAsking before → Asks before done.0 done.1
AllAsk before (Err e) = Unit {0}

-- a socket that comes has an odd number
abbrev pub ComesOdd : SocketEvent → Type 0
ComesOdd (events.Came sock peer_host) = (k : ℕ) × (sock ≡ 2 * k + 1)
ComesOdd event = Unit {0}

abbrev pub ComesOddTo : LocalEvent → Type 0
ComesOddTo (locals.Came mark sock peer_host) = (k : ℕ) × (sock ≡ 2 * k + 1)
ComesOddTo (locals.Socket event) = ComesOdd event
ComesOddTo event = Unit {0}
