-- By which item a link comes up, and what a host does directly after it.
use Rattle.std.specs.Prelude.{◌≡◌, ◌⊎◌, ℕ, Bool, true, false, not, ◌||◌, List, [], ◌∷◌, find, Option, Some, None}
use Rattle.std.specs.Str.{bytes_eq}
use Rattle.ch_wire.specs.Spelling.{answer_spelling}
use Rattle.ch_wire.specs.declared.answer.Answer.TheVariants.{Accepted}
use Rattle.ch_reader.specs.declared.item.Front.TheVariants.{Whole}
use Rattle.ch_reader.specs.declared.item.Item.TheVariants as items
use Rattle.ch_model.specs.declared.entry.Entry.{Entry}
use Rattle.ch_model.specs.declared.entry.Entry.TheVariants as entries
use Rattle.ch_model.specs.declared.name.End.TheVariants.{T}
use Rattle.ch_model.specs.declared.step.Step.{Step}
use Rattle.ch_model.specs.declared.step.Step.TheVariants as steps
use Rattle.ch_model.specs.Host.{front_of}
use Rattle.ch_model.specs.HostState.{Socket, HostState}
use Rattle.ch_model.specs.HostSteps.{is_socket}
use Rattle.ch_model.specs.Links.{has_risen}

-- of each step by which a link comes up this holds of its socket's number and the steps after it
abbrev pub EachUp : (ℕ → List Step → Type 0) → List Step → Type 0
EachUp Q [] = Unit {0}
EachUp Q (steps.Up sock ∷ rest) = Q sock rest × EachUp Q rest
EachUp Q (step ∷ rest) = EachUp Q rest

-- the accepting answer is written on this socket next
abbrev pub AcceptsOn : ℕ → List Step → Type 0
AcceptsOn n (steps.Write sock bytes said ∷ rest) = (sock ≡ n) × (bytes ≡ answer_spelling Accepted)
AcceptsOn n told = ⊥

-- the host has a socket of this number, and at the front of its bytes stands the accepting answer
abbrev pub IsAnswered : HostState → ℕ → Type 0
IsAnswered host n = (socket : Socket) × (find (is_socket n) host.sockets ≡ Some socket) × ((front_of socket).0 ≡ Whole (items.Answer Accepted))

-- a link comes up by the accepting answer, or else that is written next
abbrev pub RisesSo : HostState → ℕ → List Step → Type 0
RisesSo host n rest = IsAnswered host n ⊎ AcceptsOn n rest

-- ---- what is written after a link came up

-- anything may be written but the accepting answer, and that too where a link came up on the socket just before
abbrev pub MayWrite : Option ℕ → ℕ → List ℕ → Type 0
MayWrite last sock bytes = (bytes_eq bytes (answer_spelling Accepted) ≡ false) ⊎ (last ≡ Some sock)

-- so it is of all that these steps write, of which a link may have come up just before the first
abbrev pub AcceptsAfter : Option ℕ → List Step → Type 0
AcceptsAfter last [] = Unit {0}
AcceptsAfter last (steps.Up sock ∷ rest) = AcceptsAfter (Some sock) rest
AcceptsAfter last (steps.Write sock bytes said ∷ rest) = MayWrite last sock bytes × AcceptsAfter None rest
AcceptsAfter last (step ∷ rest) = AcceptsAfter None rest

-- a target's end that writes the accepting answer came up
abbrev pub accepted_risen : List Entry → Entry → Bool
accepted_risen log (entries.Wrote sock T bytes) = not (bytes_eq bytes (answer_spelling Accepted)) || has_risen log sock T
accepted_risen log entry = true
