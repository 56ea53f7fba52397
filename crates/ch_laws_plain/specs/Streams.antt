-- Plain streams of frames: a connection that is created is told at once to go from a process to a process.
use Rattle.std.specs.Prelude.{◌≡◌, ℕ, List, [], ◌∷◌, Option, Some, None}
use Rattle.ch_wire.specs.declared.frame.Frame.{Frame}
use Rattle.ch_wire.specs.declared.frame.Frame.TheVariants as frames
use Rattle.ch_laws_plain_nodes.specs.Plain.{IsPlainOpening}

-- What one frame makes of the id of the connection that was created and has yet to be opened, or of none: one that was created
-- is opened next, from a process to a process.
abbrev pub PlainStep : Option ℕ → Frame → Option ℕ → Type 0
PlainStep None (frames.Created id) next = next ≡ Some id
PlainStep None frame next = next ≡ None
PlainStep (Some id) (frames.Data on payload) next = (on ≡ id) × IsPlainOpening payload × (next ≡ None)
PlainStep (Some id) frame next = ⊥

-- the same of frames, one after another
abbrev pub PlainOn : Option ℕ → List Frame → Option ℕ → Type 0
PlainOn before [] after = before ≡ after
PlainOn before (frame ∷ rest) after = (next : Option ℕ) × PlainStep before frame next × PlainOn next rest after

-- each connection that is created is opened
abbrev pub IsPlainStream : List Frame → Type 0
IsPlainStream frames = PlainOn None frames None
