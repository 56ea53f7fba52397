-- A scene in which a request is handed to its target's host: first a part of it, then all.
use Rattle.std.specs.Prelude.{ℕ, List, [], ◌∷◌, ◌++◌, map, codes, Result, Ok, Err}
use Rattle.ch_base.specs.declared.memory.Stop.{Stop}
use Rattle.ch_model.specs.declared.entry.Entry.{Entry}
use Rattle.ch_model.specs.declared.line.Line.{Line}
use Rattle.ch_model.specs.declared.line.What.TheVariants as lines
use Rattle.ch_model.specs.declared.name.End.TheVariants.{T}
use Rattle.ch_model.specs.CellSteps.{kept_bytes}
use Rattle.ch_model.specs.WorldState.{Cell, World}
use Rattle.ch_laws_bytes.specs.Scene.{scene}

-- the target's end comes, and five bytes are handed to it
abbrev pub in_part : List Line
in_part = scene ++ record { number = 7; what = lines.Come (record { from = codes "a"; to = codes "b"; number = 0 }) } ∷ record { number = 8; what = lines.Feed (record { from = codes "a"; to = codes "b"; number = 0 }) T 5 } ∷ []

-- and the others too
abbrev pub as_whole : List Line
as_whole = in_part ++ record { number = 9; what = lines.Feed (record { from = codes "a"; to = codes "b"; number = 0 }) T 100 } ∷ []

-- how many bytes each host keeps unread
abbrev pub kept_in : Result (List Entry × World) Stop → List ℕ
kept_in (Ok done) = map (λ (cell : Cell × ℕ). kept_bytes cell.0.host) done.1.cells
kept_in (Err stop) = []
