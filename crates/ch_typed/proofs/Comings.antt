-- From what a reader answers to what a call that took a message first comes to.
use Rattle.std.specs.Prelude.{IfOk}
use Rattle.std.specs.Str.{bytes_eq}
use Rattle.std.proofs.lemmas.Slice.Eq.{bytes_eq-Decides}
use Rattle.ch_typed.specs.Reading.{AreBytes, unpacked}
use Rattle.std.proofs.Common.{ℕ, List, true, ◌≡◌, Option, Some, None, Result, Ok, Err, refl, ap, inr}
use Rattle.ch_typed.specs.declared.error.TypedError.{TypedError}
use Rattle.ch_typed.specs.declared.error.TypedError.TheVariants.{WrongMark, BadBody, Empty, NotLive, OutOfMemory, Worn}
use Rattle.ch_typed.specs.Outcomes.{Gives, Comes, body_of}

-- a message of the type's mark and a value's spelling is unpacked as the value
pub packed : {A : Type 0} (mark : List ℕ) (read : List ℕ → Option A) (value : A) (body : List ℕ) → read body ≡ Some value → unpacked mark read (record { mark = mark; body = body }) ≡ Ok value
packed mark read value body e =
    let same : bytes_eq mark mark ≡ true = (bytes_eq-Decides mark mark).1 refl in
    rw (same, e) refl

-- a body that is a value
value_of : {A : Type 0} (o : Option A) (value : A) → body_of o ≡ Ok value → o ≡ Some value
value_of None value e = absurd cc
value_of (Some x) value e = cc

-- what was read of a body was spelled so
pub found : {A : Type 0} (fits : A → Type 0) (spelling : A → List ℕ) (read : List ℕ → Option A) → ((bytes : List ℕ) (value : A) → AreBytes bytes → read bytes ≡ Some value → fits value × (spelling value ≡ bytes))
    → (r : Result A TypedError) (bytes : List ℕ) → AreBytes bytes → Gives r (body_of (read bytes)) → IfOk r (λ value. fits value × (spelling value ≡ bytes))
found fits spelling read exact (Ok value) bytes are gives = exact bytes value are (value_of (read bytes) value gives)
found fits spelling read exact (Err e) bytes are gives = tt

-- a message was taken, and its reading answers
pub comes : {A S : Type 0} (r : Result A TypedError) (old new : S) (given : Result A TypedError) → Gives r given → Comes r old new (given, new)
comes (Ok x) old new given e = ap (λ g. (g, new)) e
comes (Err OutOfMemory) old new given e = inr refl
comes (Err BadBody) old new given e = ap (λ g. (g, new)) e
comes (Err Empty) old new given e = ap (λ g. (g, new)) e
comes (Err NotLive) old new given e = ap (λ g. (g, new)) e
comes (Err Worn) old new given e = ap (λ g. (g, new)) e
comes (Err (WrongMark wanted found)) old new given e = ap (λ g. (g, new)) e
