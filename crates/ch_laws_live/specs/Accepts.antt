-- What a host tells as a link comes up where it was asked: it accepts next.
use Rattle.std.specs.Prelude.{◌≡◌, ◌⊎◌, ℕ, List, [], ◌∷◌, find, Some}
use Rattle.ch_wire.specs.Spelling.{answer_spelling}
use Rattle.ch_wire.specs.declared.answer.Answer.TheVariants.{Accepted}
use Rattle.ch_reader.specs.declared.item.Expected.TheVariants as expected
use Rattle.ch_model.specs.declared.step.Step.{Step}
use Rattle.ch_model.specs.declared.step.Step.TheVariants as steps
use Rattle.ch_model.specs.HostState.{Socket, HostState}
use Rattle.ch_model.specs.HostSteps.{is_socket}
use Rattle.ch_model.specs.Stages.{Open}

-- the first of these steps writes the accepting answer on the socket of this number
abbrev pub NextAccepts : ℕ → List Step → Type 0
NextAccepts sock (steps.Write n bytes said ∷ rest) = (n ≡ sock) × (bytes ≡ answer_spelling Accepted)
NextAccepts sock told = ⊥

-- after each step by which a link comes up that is so, or this holds of its socket's number
abbrev pub AllAccept : (ℕ → Type 0) → List Step → Type 0
AllAccept P [] = Unit {0}
AllAccept P (steps.Up sock ∷ rest) = (P sock ⊎ NextAccepts sock rest) × AllAccept P rest
AllAccept P (step ∷ rest) = AllAccept P rest

-- the host has an open socket of this number, and expects its answer
abbrev pub IsAnswered : HostState → ℕ → Type 0
IsAnswered host n = (socket : Socket) × (find (is_socket n) host.sockets ≡ Some socket) × (socket.stage ≡ Open) × (socket.expected ≡ expected.Answer)
