-- What is plain behind frames that were read.
use Rattle.std.proofs.Common.{◌≡◌, ℕ, List, [], ◌∷◌, ◌++◌, inl, inr, refl, sym, subst}
use Rattle.std.specs.Prelude.{Option, Some, None}
use Rattle.ch_wire.specs.declared.frame.Frame.{Frame}
use Rattle.ch_wire.specs.declared.frame.Frame.TheVariants as frames
use Rattle.ch_laws_plain.specs.Streams.{PlainStep, PlainOn}
use Rattle.ch_laws_plain.proofs.Streams.{plain_split}
use Rattle.ch_laws_plain.specs.ReadsReading.{IsOfNone, AreOfNone}
use Rattle.ch_laws_plain.specs.HearsTurns.{Moves, IsAfter}

-- what is plain behind a connection that has yet to be opened is plain behind none
unopened : (more : List Frame) (before : Option ℕ) → PlainOn before more None → PlainOn None more None
unopened more None p = p
unopened [] (Some id) p = absurd cc
unopened (frames.Data on payload ∷ rest) (Some id) p = (None, refl, subst (λ (o : Option ℕ). PlainOn o rest None) p.1.2 p.2)
unopened (frames.Created on ∷ rest) (Some id) p = absurd p.1
unopened (frames.Closed on ∷ rest) (Some id) p = absurd p.1
unopened (frames.EndClosed ∷ rest) (Some id) p = absurd p.1
unopened (frames.Probe ∷ rest) (Some id) p = absurd p.1
unopened (frames.ProbeAck ∷ rest) (Some id) p = absurd p.1

-- whatever was read, what is plain behind it is plain behind none
pub to_none : (before : Option ℕ) (read : List Frame) → Moves before read None
to_none before read more p = let parts = plain_split read more before None p in unopened more parts.0 parts.2

-- frames of no connection change nothing
none_next : (frame : Frame) (next : Option ℕ) → IsOfNone frame → PlainStep None frame next → next ≡ None
none_next (frames.Created id) next n p = absurd n
none_next (frames.Closed id) next n p = p
none_next (frames.Data id payload) next n p = p
none_next frames.EndClosed next n p = p
none_next frames.Probe next n p = p
none_next frames.ProbeAck next n p = p

none_behind : (frame : Frame) (id : ℕ) (next : Option ℕ) → IsOfNone frame → PlainStep (Some id) frame next → ⊥
none_behind (frames.Created on) id next n p = p
none_behind (frames.Closed on) id next n p = p
none_behind (frames.Data on payload) id next n p = n
none_behind frames.EndClosed id next n p = p
none_behind frames.Probe id next n p = p
none_behind frames.ProbeAck id next n p = p

pub by_none : (before : Option ℕ) (read : List Frame) → AreOfNone read → Moves before read before
by_none before [] n more p = p
by_none None (frame ∷ read) n more p = by_none None read n.1 more (subst (λ (o : Option ℕ). PlainOn o (read ++ more) None) (none_next frame p.0 n.0 p.1) p.2)
by_none (Some id) (frame ∷ read) n more p = absurd (none_behind frame id p.0 n.0 p.1)

-- behind the frame that creates a connection that is to be opened
created : (before : Option ℕ) (id : ℕ) → Moves before (frames.Created id ∷ []) (Some id)
created None id more p = subst (λ (o : Option ℕ). PlainOn o more None) p.1 p.2
created (Some on) id more p = absurd p.1

pub moves : (before next : Option ℕ) (read : List Frame) → IsAfter read next → Moves before read next
moves before next read (inl e) = subst (Moves before read) (sym e) (to_none before read)
moves before next read (inr e) = subst (Moves before read) (sym e.1) (subst (λ (l : List Frame). Moves before l (Some e.0)) (sym e.2) (created before e.0))

-- one is created only where none has yet to be opened, and so is one closed
pub none_created : (before next : Option ℕ) (id : ℕ) → PlainStep before (frames.Created id) next → before ≡ None
none_created None next id p = refl
none_created (Some on) next id p = absurd p

pub none_closed : (before next : Option ℕ) (id : ℕ) → PlainStep before (frames.Closed id) next → before ≡ None
none_closed None next id p = refl
none_closed (Some on) next id p = absurd p
