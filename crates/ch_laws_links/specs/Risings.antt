-- What a log tells of how an end stands at its host.
use Rattle.std.specs.Prelude.{◌≡◌, Bool, true, false, Option, Some, None}
use Rattle.ch_laws_links.specs.Standing.{Standing, IsPending, IsOpen, IsRisen, IsOver}

-- an end that stands so came up by the log, or didn't, and is closed there, or isn't
abbrev pub IsToldAs : Option Standing → Bool → Bool → Type 0
IsToldAs None risen closed = ⊥
IsToldAs (Some IsPending) risen closed = (risen ≡ false) × (closed ≡ false)
IsToldAs (Some IsOpen) risen closed = (risen ≡ false) × (closed ≡ false)
IsToldAs (Some IsRisen) risen closed = (risen ≡ true) × (closed ≡ false)
IsToldAs (Some IsOver) risen closed = closed ≡ true
