-- What a host has read of a socket when a link comes up on it.
use Rattle.std.specs.Prelude.{◌≡◌, ℕ, Bool, true, false, List, [], ◌∷◌, find, Some}
use Rattle.ch_reader.specs.declared.item.Front.{Front}
use Rattle.ch_reader.specs.declared.item.Front.TheVariants.{Whole}
use Rattle.ch_reader.specs.declared.item.Item.TheVariants as items
use Rattle.ch_wire.specs.declared.answer.Answer.TheVariants.{Accepted}
use Rattle.ch_model.specs.declared.step.Step.{Step}
use Rattle.ch_model.specs.declared.step.Step.TheVariants as steps
use Rattle.ch_model.specs.Host.{front_of}
use Rattle.ch_model.specs.HostState.{Socket, HostState}
use Rattle.ch_model.specs.HostSteps.{is_socket}

-- of each step by which a link comes up this holds of its socket's number
abbrev pub AllUps : (ℕ → Type 0) → List Step → Type 0
AllUps P [] = Unit {0}
AllUps P (steps.Up sock ∷ rest) = P sock × AllUps P rest
AllUps P (step ∷ rest) = AllUps P rest

-- a request, or the accepting answer
abbrev pub raises_by : Front → Bool
raises_by (Whole (items.Request request)) = true
raises_by (Whole (items.Answer Accepted)) = true
raises_by front = false

-- the host has a socket of this number, and at the front of its bytes stands what raises a link
abbrev pub IsRaised : HostState → ℕ → Type 0
IsRaised host n = (socket : Socket) × (find (is_socket n) host.sockets ≡ Some socket) × (raises_by (front_of socket).0 ≡ true)
