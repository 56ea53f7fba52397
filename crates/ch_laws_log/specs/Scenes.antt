-- A journal of which the laws of lines speak.
use Rattle.std.specs.Prelude.{ℕ, List, [], ◌∷◌, codes}
use Rattle.ch_model.specs.declared.line.Line.{Line}
use Rattle.ch_model.specs.declared.line.What.{What}
use Rattle.ch_model.specs.declared.line.What.TheVariants as lines
use Rattle.ch_model.specs.declared.name.SockName.{SockName}
use Rattle.ch_model.specs.declared.name.TargetName.TheVariants as names

abbrev numbered : ℕ → What → Line
numbered number what = record { number = number; what = what }

abbrev first_socket : SockName
first_socket = record { from = codes "a"; to = codes "b"; number = 0 }

-- two nodes, of which one sends to the other
abbrev pub sends_to_another : List Line
sends_to_another =
    numbered 2 (lines.Node (codes "a") (record { host = codes "h"; port = 1; id = 0 }) 7)
    ∷ numbered 3 (lines.Node (codes "b") (record { host = codes "i"; port = 1; id = 0 }) 8)
    ∷ numbered 4 (lines.Proc (codes "a"))
    ∷ numbered 5 (lines.Proc (codes "b"))
    ∷ numbered 6 (lines.Send (record { node = codes "a"; counter = 0 }) (names.Process (record { node = codes "b"; counter = 0 })) (codes "t") (1 ∷ []))
    ∷ numbered 7 (lines.Join first_socket)
    ∷ numbered 8 (lines.Come first_socket)
    ∷ numbered 9 lines.Settle
    ∷ numbered 10 (lines.Recv (record { node = codes "b"; counter = 0 }) (codes "t"))
    ∷ numbered 11 (lines.End (record { node = codes "a"; counter = 0 }))
    ∷ numbered 12 (lines.Shut (codes "b"))
    ∷ []
