-- What the whole bytes of a stream decode to, and how a piece adds to it.
use Rattle.std.specs.Prelude.{◌≡◌, ℕ, List, ◌++◌, take, Option, Some, None, Result, Ok, Err}
use Rattle.ch_reader.specs.declared.item.Item.{Item}
use Rattle.ch_reader.specs.declared.item.Front.TheVariants.{Unfinished}
use Rattle.ch_reader.specs.declared.item.ReaderError.{ReaderError}
use Rattle.ch_reader.specs.declared.item.Role.{Role}
use Rattle.ch_reader.specs.Streams.{IsStream, IsMalformed}
use Rattle.ch_reader.specs.Reading.{reading}
use Rattle.ch_reader.specs.States.{State, Waits, Holds, Refuses}
use Rattle.ch_reader.specs.Runs.{IsBytes, Accounts}

-- The bytes are a stream of these items; or a front of them is malformed, and these are the items before the refusal.
abbrev pub Decodes : Role → List ℕ → List Item → Option ReaderError → Type 0
Decodes role bytes items None = (rest : List ℕ) × IsStream role bytes items rest
Decodes role bytes items (Some error) =
    (front : List ℕ) × (more : List ℕ) × (bytes ≡ front ++ more) × (malformed : IsMalformed role front error) × (malformed.items ≡ items)

-- the refusal that a take answers
abbrev pub refusal_of : Result (Option Item) ReaderError → Option ReaderError
refusal_of (Ok item) = None
refusal_of (Err error) = Some error

-- a reader that waits for more bytes
abbrev pub IsReady : State → Type 0
IsReady (Waits e since) = ((reading e since).0 ≡ Unfinished) × IsBytes since
IsReady (Holds item) = ⊥
IsReady (Refuses error) = ⊥

-- a reader is ready again, where nothing was refused
abbrev pub IsReadyUnless : Option ReaderError → State → Type 0
IsReadyUnless None state = IsReady state
IsReadyUnless (Some error) state = Unit {0}

-- The account after a piece: of all its bytes, or of those up to the refusal.
abbrev pub AccountsAll : Role → List ℕ → List ℕ → List Item → State → Option ReaderError → Type 0
AccountsAll role bytes piece items state None = Accounts role (bytes ++ piece) items state
AccountsAll role bytes piece items state (Some error) = (count : ℕ) × Accounts role (bytes ++ take count piece) items (Refuses error)
