-- What a host's records of its ends keep: the peer's host text, and for whose link an end is.
use Rattle.std.specs.Prelude.{◌≡◌, ◌≤◌, ◌⊎◌, ℕ, ◌*◌, true, cond, ◌==◌, List, [], ◌∷◌, find, Option, Some, None, Result, Ok, Err}
use Rattle.ch_base.specs.declared.address.Address.{Address}
use Rattle.ch_wire.specs.Spelling.{answer_spelling}
use Rattle.ch_wire.specs.declared.answer.Answer.TheVariants.{Mismatch}
use Rattle.ch_wire.specs.declared.request.Request.{Request}
use Rattle.ch_reader.specs.Reading.{reading}
use Rattle.ch_reader.specs.declared.item.Front.TheVariants.{Whole}
use Rattle.ch_reader.specs.declared.item.Item.TheVariants as items
use Rattle.ch_model.specs.declared.step.Step.{Step}
use Rattle.ch_model.specs.declared.step.Step.TheVariants as steps
use Rattle.ch_model.specs.HostState.{Socket, HostState}
use Rattle.ch_model.specs.HostSteps.{is_socket}
use Rattle.ch_model.specs.Stages.{is_open}

-- who may be named a user under a number
abbrev pub Users : Type 1
Users = ℕ → ℕ × Address → Type 0

-- nobody
abbrev pub Nobody : Users
Nobody n user = ⊥

-- an end is for the link that it was for, or for one that it may be for
abbrev pub IsUser : (ℕ × Address → Type 0) → Option (ℕ × Address) → Option (ℕ × Address) → Type 0
IsUser may before after = (after ≡ before) ⊎ ((user : ℕ × Address) × (after ≡ Some user) × may user)

-- the record of an end keeps the peer's host text, and its user
pub record IsKept (may : ℕ × Address → Type 0) (before after : Socket) : Type 0 where
  pub peer_host : after.peer_host ≡ before.peer_host
  pub user : IsUser may before.user after.user

-- the record is there, and keeps that
abbrev pub IsStill : (ℕ × Address → Type 0) → Socket → Option Socket → Type 0
IsStill may before None = ⊥
IsStill may before (Some after) = IsKept may before after

-- the numbers of the next dials are free
abbrev pub IsFree : HostState → Type 0
IsFree host = (k : ℕ) → host.dials ≤ k → find (is_socket (2 * k)) host.sockets ≡ None

-- the host's records keep that, and the numbers of its next dials are free
pub record Holds (may : Users) (before after : HostState) : Type 0 where
  pub free : IsFree after
  pub same : (n : ℕ) (socket : Socket) → find (is_socket n) before.sockets ≡ Some socket → IsStill (may n) socket (find (is_socket n) after.sockets)

-- so they do, whatever was done
abbrev pub AllHold : {E : Type 0} → Users → HostState → Result (List Step × HostState) E → Type 0
AllHold may before (Ok done) = IsFree before → Holds may before done.1
AllHold may before (Err e) = Unit {0}

-- ---- what is read and written

-- a request stands whole at the front of what is read under this number
pub record IsReadAs (host : HostState) (n : ℕ) (request : Request) : Type 0 where
  pub socket : Socket
  pub found : find (is_socket n) host.sockets ≡ Some socket
  pub stands : is_open socket.stage ≡ true
  pub front : (reading socket.expected socket.since).0 ≡ Whole (items.Request request)

-- a user that a request names, which is read under this number
abbrev pub Asks : HostState → Users
Asks host n user = (request : Request) × IsReadAs host n request × (user ≡ (request.target, request.from))

-- what the steps first write under a number
abbrev pub first_written : ℕ → List Step → Option (List ℕ)
first_written n [] = None
first_written n (steps.Write sock bytes said ∷ rest) = cond (sock == n) (Some bytes) (first_written n rest)
first_written n (step ∷ rest) = first_written n rest

-- they first write there that the host text is false
abbrev pub Refuses : ℕ → List Step → Type 0
Refuses n told = first_written n told ≡ Some (answer_spelling Mismatch)

-- ---- what an endpoint asks

-- each record that the host had it has still, and the numbers of its next dials are free
pub record Grows (before after : HostState) : Type 0 where
  pub free : IsFree after
  pub same : (n : ℕ) (socket : Socket) → find (is_socket n) before.sockets ≡ Some socket → find (is_socket n) after.sockets ≡ Some socket

-- so it has, whatever was done
abbrev pub AllGrow : {E : Type 0} → HostState → Result (List Step × HostState) E → Type 0
AllGrow before (Ok done) = IsFree before → Grows before done.1
AllGrow before (Err e) = Unit {0}
