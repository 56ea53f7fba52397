-- What waits on a link, and a link that goes on.
use Rattle.std.specs.Prelude.{ℕ, List, [], ◌∷◌, ◌++◌, length, filter, Result, Ok, Err}
use Rattle.ch_wire.specs.declared.frame.Frame.{Frame}
use Rattle.ch_light.specs.Ids.{opened, close_of}
use Rattle.ch_light.specs.declared.Connection.{Connection}
use Rattle.ch_light.specs.declared.error.LightError.{LightError}
use Rattle.ch_model.specs.declared.step.Weight.{Weight}
use Rattle.ch_model.specs.HostState.{Link}
use Rattle.ch_model.specs.HostWrites.{is_counted, forgotten}

-- how many counted payloads are among these
abbrev pub counted_of : List (Frame × Weight) → ℕ
counted_of items = length (filter (λ item. is_counted item.1) items)

-- the link once this connection has got its next id
abbrev pub giving : ℕ → Link → Link
giving conn link = record link { given = link.given ++ opened conn ∷ [] }

-- the link once this item waits on it
abbrev pub waiting : Frame × Weight → Link → Link
waiting item link = record link { waits = link.waits ++ item ∷ [] }

-- the link once all that waits on it and its connections are forgotten, and its state stands
abbrev pub forgetting : Link → Link
forgetting link = forgotten link link.state

-- the connections once one is closed, where it was open
abbrev pub closed_among : Result (ℕ × List Connection) LightError → List Connection → List Connection
closed_among (Ok closed) table = closed.1
closed_among (Err e) table = table

-- the link once this connection is closed
abbrev pub closing : ℕ → Link → Link
closing conn link = record link { given = closed_among (close_of link.given conn) link.given }
