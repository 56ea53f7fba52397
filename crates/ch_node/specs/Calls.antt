-- How a node's steps stop, how its calls are refused, and what they leave then.
use Rattle.std.specs.Prelude.{◌≡◌, Bool, true, false, Result, Ok, Err}
use Rattle.ch_base.specs.declared.memory.Stop.{Stop}
use Rattle.ch_base.specs.declared.memory.Stop.TheVariants as stops
use Rattle.ch_model.specs.declared.command.CommandError.{CommandError}
use Rattle.ch_model.specs.declared.command.CommandError.TheVariants as errors
use Rattle.ch_node.specs.declared.halt.Halt.{Halt}
use Rattle.ch_node.specs.declared.halt.Halt.TheVariants as halts
use Rattle.ch_node.specs.Kept.{Kept}

-- how a stop of a step is named within the node
abbrev pub of_stop : Stop → Halt
of_stop stops.OutOfMemory = halts.OutOfMemory
of_stop stops.Worn = halts.Worn

-- how it is told to the process that asked
abbrev pub of_halt : Halt → CommandError
of_halt halts.OutOfMemory = errors.OutOfMemory
of_halt halts.Worn = errors.Worn

-- a step stops where the model's does, but that want of memory may come at any step
abbrev pub Halts : {A : Type 0} → Halt → Result A Stop → Type 0
Halts halts.OutOfMemory given = Unit {0}
Halts halts.Worn given = given ≡ Err stops.Worn

-- a refusal is the model's, but that want of memory may come at any call
abbrev pub Fails : {A : Type 0} → CommandError → Result A CommandError → Type 0
Fails errors.OutOfMemory given = Unit {0}
Fails e given = given ≡ Err e

-- what a call answered, seen by view, is what the model gives, unless memory ran out
abbrev pub Gives : {X Y : Type 0} → (X → Y) → Result X CommandError → Result Y CommandError → Type 0
Gives view (Ok x) given = given ≡ Ok (view x)
Gives view (Err e) given = Fails e given

-- a refusal that is no stop leaves all as it was
abbrev pub KeepsBut : {A : Type 0} → A → A → CommandError → Type 0
KeepsBut old new errors.OutOfMemory = Unit {0}
KeepsBut old new errors.Worn = Unit {0}
KeepsBut old new e = new ≡ old

-- After a stop the node answers want of memory for good. Each other refusal leaves it unchanged.
abbrev pub Leaves : Kept → Kept → CommandError → Type 0
Leaves old new errors.OutOfMemory = new.failed ≡ true
Leaves old new errors.Worn = new.failed ≡ true
Leaves old new e = new ≡ old

-- the call was stopped
abbrev pub is_stop_of : {X : Type 0} → Result X CommandError → Bool
is_stop_of (Ok x) = false
is_stop_of (Err errors.OutOfMemory) = true
is_stop_of (Err errors.Worn) = true
is_stop_of (Err e) = false
