-- A journal of which the laws of lines at sockets speak.
use Rattle.std.specs.Prelude.{◌≡◌, ℕ, List, [], ◌∷◌, codes, length, Ok, Err}
use Rattle.ch_model.specs.declared.line.Line.{Line}
use Rattle.ch_model.specs.declared.line.What.{What}
use Rattle.ch_model.specs.declared.line.What.TheVariants as lines
use Rattle.ch_model.specs.declared.name.End.TheVariants.{T}
use Rattle.ch_model.specs.declared.name.SockName.{SockName}
use Rattle.ch_model.specs.declared.name.TargetName.TheVariants as names
use Rattle.ch_model.specs.Settle.{Happened}
use Rattle.ch_laws_log.specs.Agrees.{AllPlaced}
use Rattle.ch_laws_ends.specs.Lines.{AllOwned}

abbrev numbered : ℕ → What → Line
numbered number what = record { number = number; what = what }

abbrev dialed_socket : SockName
dialed_socket = record { from = codes "a"; to = codes "b"; number = 0 }

abbrev knocked_socket : SockName
knocked_socket = record { from = codes "x"; to = codes "b"; number = 0 }

-- a dial of one node to another is refused, and a stranger's socket comes and is fed
abbrev pub refuses_and_knocks : List Line
refuses_and_knocks =
    numbered 2 (lines.Node (codes "a") (record { host = codes "h"; port = 1; id = 0 }) 7)
    ∷ numbered 3 (lines.Node (codes "b") (record { host = codes "i"; port = 1; id = 0 }) 8)
    ∷ numbered 4 (lines.Stranger (codes "x") (codes "j"))
    ∷ numbered 5 (lines.Proc (codes "a"))
    ∷ numbered 6 (lines.Proc (codes "b"))
    ∷ numbered 7 (lines.Send (record { node = codes "a"; counter = 0 }) (names.Process (record { node = codes "b"; counter = 0 })) (codes "t") (1 ∷ []))
    ∷ numbered 8 (lines.Refuse dialed_socket)
    ∷ numbered 9 (lines.Knock (codes "x") (codes "b"))
    ∷ numbered 10 (lines.Poke knocked_socket (1 ∷ 2 ∷ []))
    ∷ numbered 11 (lines.Come knocked_socket)
    ∷ numbered 12 (lines.Feed knocked_socket T 1)
    ∷ numbered 13 lines.Settle
    ∷ []

-- the world has two sockets, whose ends are placed and owned
abbrev pub IsMet : List Line → Happened → Type 0
IsMet journal (Ok done) = AllPlaced journal done.1 × AllOwned journal done.1 × (length done.1.sockets ≡ 2)
IsMet journal (Err stop) = ⊥
