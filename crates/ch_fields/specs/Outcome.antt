-- What a reader of a line answers: what reading gives, or want of memory.
use Rattle.std.specs.Prelude.{◌≡◌, Result, Ok, Err}
use Rattle.hex.specs.declared.error.FromHexError.{FromHexError}
use Rattle.hex.specs.declared.error.FromHexError.TheVariants as hexes
use Rattle.ch_base.specs.declared.address.AddressError.{AddressError}
use Rattle.ch_base.specs.declared.address.AddressError.TheVariants as addresses
use Rattle.ch_ident.specs.declared.error.IdentError.{IdentError}
use Rattle.ch_ident.specs.declared.error.IdentError.TheVariants as idents
use Rattle.ch_model.specs.declared.refusal.BadKind.{BadKind}
use Rattle.ch_model.specs.declared.refusal.BadKind.TheVariants.{Form}
use Rattle.ch_fields.specs.declared.fault.Fault.{Fault}
use Rattle.ch_fields.specs.declared.fault.Fault.TheVariants.{Bad, OutOfMemory}

-- want of memory may come at any call; every refusal is the one that reading meets
abbrev pub Fails : {A : Type 0} → Fault → Result A BadKind → Type 0
Fails OutOfMemory read = Unit {0}
Fails (Bad kind) read = read ≡ Err kind

-- an answer, seen by a view, is what reading gives, or want of memory
abbrev pub Gives : {A B : Type 0} → (A → B) → Result A Fault → Result B BadKind → Type 0
Gives view (Ok x) read = read ≡ Ok (view x)
Gives view (Err e) read = Fails e read

-- a field that isn't of its class is of the wrong form, whatever is wrong in it
abbrev pub of_address_error : AddressError → Fault
of_address_error addresses.OutOfMemory = OutOfMemory
of_address_error e = Bad Form

abbrev pub of_ident_error : IdentError → Fault
of_ident_error idents.OutOfMemory = OutOfMemory
of_ident_error e = Bad Form

abbrev pub of_hex_error : FromHexError → Fault
of_hex_error hexes.OutOfMemory = OutOfMemory
of_hex_error e = Bad Form
