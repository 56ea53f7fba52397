-- Logs of what one end wrote: its request, and then frames.
use Rattle.std.specs.Prelude.{ℕ, List, [], ◌∷◌, map, codes}
use Rattle.ch_wire.specs.Spelling.{frame_spelling}
use Rattle.ch_wire.specs.declared.frame.Frame.{Frame}
use Rattle.ch_wire.specs.declared.frame.Frame.TheVariants as frames
use Rattle.ch_model.specs.declared.entry.Entry.{Entry}
use Rattle.ch_model.specs.declared.entry.Entry.TheVariants as entries
use Rattle.ch_model.specs.declared.name.End.TheVariants.{O}
use Rattle.ch_model.specs.declared.name.SockName.{SockName}

abbrev pub sock : SockName
sock = record { from = codes "a"; to = codes "b"; number = 0 }

abbrev pub wrote : List ℕ → Entry
wrote bytes = entries.Wrote sock O bytes

-- something first, of whatever bytes, and then these frames
abbrev pub after_request : List Frame → List Entry
after_request all = wrote [] ∷ map (λ (frame : Frame). wrote (frame_spelling frame)) all

abbrev pub in_order : List Entry
in_order = after_request (frames.Created 1024 ∷ frames.Created 1025 ∷ frames.Data 1024 (codes "x") ∷ frames.Closed 1024 ∷ frames.Data 1025 (codes "y") ∷ [])

abbrev pub out_of_order : List Entry
out_of_order = after_request (frames.Created 1025 ∷ [])

abbrev pub closed_first : List Entry
closed_first = after_request (frames.Created 1024 ∷ frames.Closed 1024 ∷ frames.Data 1024 (codes "x") ∷ [])

abbrev pub closed_twice : List Entry
closed_twice = after_request (frames.Created 1024 ∷ frames.Closed 1024 ∷ frames.Closed 1024 ∷ [])
