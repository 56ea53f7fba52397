-- What calls on values answer.
use Rattle.std.specs.Prelude.{◌≡◌, ◌⊎◌, Option, Some, None, Result, Ok, Err}
use Rattle.ch_mail.specs.declared.error.MailError.{MailError}
use Rattle.ch_mail.specs.declared.error.MailError.TheVariants as mail
use Rattle.ch_typed.specs.declared.error.TypedError.{TypedError}
use Rattle.ch_typed.specs.declared.error.TypedError.TheVariants.{BadBody, Empty, NotLive, OutOfMemory, Worn}

-- a refusal of a mailbox
abbrev pub of_mail : MailError → TypedError
of_mail mail.NotLive = NotLive
of_mail mail.Empty = Empty
of_mail mail.OutOfMemory = OutOfMemory
of_mail mail.Worn = Worn

-- a refusal is the one that is defined, but that want of memory may come at any call
abbrev pub Fails : {A : Type 0} → TypedError → Result A TypedError → Type 0
Fails OutOfMemory given = Unit {0}
Fails e given = given ≡ Err e

-- an answer is the one that is defined, or want of memory
abbrev pub Gives : {A : Type 0} → Result A TypedError → Result A TypedError → Type 0
Gives (Ok x) given = given ≡ Ok x
Gives (Err e) given = Fails e given

-- the value of a body, where it is some value's spelling
abbrev pub body_of : {A : Type 0} → Option A → Result A TypedError
body_of None = Err BadBody
body_of (Some x) = Ok x

-- an answer and what a call leaves are those that are defined; where memory was wanting, the call may have left all as it was
abbrev pub Comes : {A S : Type 0} → Result A TypedError → S → S → Result A TypedError × S → Type 0
Comes (Ok x) old new given = given ≡ (Ok x, new)
Comes (Err OutOfMemory) old new given = (new ≡ old) ⊎ (new ≡ given.1)
Comes (Err e) old new given = given ≡ (Err e, new)
