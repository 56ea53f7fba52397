-- What the acts of a node make of its host.
use Rattle.std.specs.Prelude.{ℕ, List, [], ◌∷◌}
use Rattle.ch_base.specs.declared.address.Address.{Address}
use Rattle.ch_model.specs.declared.step.Step.{Step}
use Rattle.ch_model.specs.declared.step.Step.TheVariants as steps
use Rattle.ch_model.specs.HostState.{HostState}
use Rattle.ch_laws_log.specs.HostEnds.{Tells}
use Rattle.ch_laws_reads.specs.Reads.{Reads}
use Rattle.ch_laws_writes.specs.Dues.{Writes, due_at}
use Rattle.ch_laws_writes.specs.Orderly.{IsOrderly}
use Rattle.ch_laws_messages.specs.WayNatures.{IsBarePiece}

-- The host stays in order; its steps tell how its ends stand, what it read, and that it writes what is due.
pub record Does (own : ℕ → Address) (host : HostState) (told : List Step) (after : HostState) : Type 0 where
  pub orderly : IsOrderly own after
  pub tells : Tells host told after
  pub reads : Reads host told after
  pub writes : Writes own (due_at host) told (due_at after)

-- a step that reads nothing, and writes no payload
abbrev pub IsBareStep : Step → Type 0
IsBareStep (steps.Write sock bytes place) = IsBarePiece (bytes, place)
IsBareStep (steps.Read sock) = ⊥
IsBareStep step = Unit {0}

abbrev pub AreBareSteps : List Step → Type 0
AreBareSteps [] = Unit {0}
AreBareSteps (step ∷ rest) = IsBareStep step × AreBareSteps rest
