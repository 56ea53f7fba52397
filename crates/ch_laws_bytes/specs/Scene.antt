-- A journal where a request is on its way: two nodes, and what one sends the other.
use Rattle.std.specs.Prelude.{ℕ, Bool, List, [], ◌∷◌, map, codes, Option, Result, Ok, Err}
use Rattle.ch_base.specs.declared.address.Address.{Address}
use Rattle.ch_base.specs.declared.memory.Stop.{Stop}
use Rattle.ch_model.specs.declared.entry.Entry.{Entry}
use Rattle.ch_model.specs.declared.line.Line.{Line}
use Rattle.ch_model.specs.declared.line.What.TheVariants as lines
use Rattle.ch_model.specs.declared.name.End.TheVariants.{T}
use Rattle.ch_model.specs.declared.name.TargetName.TheVariants as targets
use Rattle.ch_model.specs.WorldState.{WorldSocket, World}
use Rattle.ch_laws_bytes.specs.Streams.{Reader, is_over, reader_of}

abbrev pub address_a : Address
address_a = record { host = codes "h"; port = 1; id = 0 }

abbrev pub address_b : Address
address_b = record { host = codes "i"; port = 1; id = 0 }

-- a process of one node sends to one of the other, whose host is dialed; and the opener's end is joined
abbrev pub scene : List Line
scene =
    record { number = 2; what = lines.Node (codes "a") address_a 7 }
    ∷ record { number = 3; what = lines.Node (codes "b") address_b 9 }
    ∷ record { number = 4; what = lines.Proc (codes "a") }
    ∷ record { number = 5; what = lines.Send (record { node = codes "a"; counter = 0 }) (targets.Process (record { node = codes "b"; counter = 0 })) (codes "t") (1 ∷ []) }
    ∷ record { number = 6; what = lines.Join (record { from = codes "a"; to = codes "b"; number = 0 }) }
    ∷ []

-- of each socket, what reads at its target's end, whether that is over, and what is unread there
abbrev pub at_targets : Result (List Entry × World) Stop → List (Option Reader × Bool × List ℕ)
at_targets (Ok done) = map (λ (socket : WorldSocket). (reader_of done.1 socket T, is_over socket.t, socket.t.unread)) done.1.sockets
at_targets (Err stop) = []
