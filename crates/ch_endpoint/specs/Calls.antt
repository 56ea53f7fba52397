-- How a host's calls are refused, and what they leave then.
use Rattle.std.specs.Prelude.{◌≡◌, Bool, true, false, Result, Ok, Err}
use Rattle.ch_base.specs.declared.memory.Stop.{Stop}
use Rattle.ch_base.specs.declared.memory.Stop.TheVariants as stops
use Rattle.ch_model.specs.declared.step.EndError.{EndError}
use Rattle.ch_model.specs.declared.step.EndError.TheVariants.{OutOfMemory}
use Rattle.ch_endpoint.specs.Kept.{Kept}

-- want of memory may come at any call
abbrev pub Fails : {A : Type 0} → EndError → Result A EndError → Type 0
Fails OutOfMemory given = Unit {0}
Fails e given = given ≡ Err e

-- the same of a call that stops
abbrev pub Stops : {A : Type 0} → Stop → Result A Stop → Type 0
Stops stops.OutOfMemory given = Unit {0}
Stops e given = given ≡ Err e

-- a refusal other than want of memory leaves all as it was
abbrev pub KeepsBut : {A : Type 0} → A → A → EndError → Type 0
KeepsBut old new OutOfMemory = Unit {0}
KeepsBut old new e = new ≡ old

-- After want of memory the host answers that for good. Each other refusal leaves it unchanged.
abbrev pub Leaves : Kept → Kept → EndError → Type 0
Leaves old new OutOfMemory = new.failed ≡ true
Leaves old new e = new ≡ old

-- the call was refused for want of memory
abbrev pub is_want_of : {A : Type 0} → Result A EndError → Bool
is_want_of (Ok x) = false
is_want_of (Err OutOfMemory) = true
is_want_of (Err e) = false
