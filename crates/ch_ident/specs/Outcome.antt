-- What a reader answers: what reading gives, or want of memory.
use Rattle.std.specs.Prelude.{◌≡◌, Result, Ok, Err}
use Rattle.ch_ident.specs.declared.error.IdentError.{IdentError}
use Rattle.ch_ident.specs.declared.error.IdentError.TheVariants.{OutOfMemory}

-- one step, and where it didn't fail, the next
infixl 10 ◌>>=◌
abbrev pub ◌>>=◌ : {A B : Type 0} → Result A IdentError → (A → Result B IdentError) → Result B IdentError
(Ok x) >>= f = f x
(Err e) >>= f = Err e

-- want of memory may come at any call; every other fault is the one that reading meets first
abbrev pub Fails : {A : Type 0} → IdentError → Result A IdentError → Type 0
Fails OutOfMemory read = Unit {0}
Fails e read = read ≡ Err e

-- an answer is what reading gives, or want of memory
abbrev pub Gives : {A : Type 0} → Result A IdentError → Result A IdentError → Type 0
Gives (Ok x) read = read ≡ Ok x
Gives (Err e) read = Fails e read

-- the same, where the answer is seen by a view
abbrev pub GivesBy : {A B : Type 0} → (A → B) → Result A IdentError → Result B IdentError → Type 0
GivesBy view (Ok x) read = read ≡ Ok (view x)
GivesBy view (Err e) read = Fails e read
