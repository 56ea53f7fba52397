-- What a host writes as it reads: answers, probes and acknowledgements alone, or all that waited for a link that comes up.
use Rattle.std.specs.Prelude.{◌≡◌, ◌⊎◌, ℕ, false, List, [], ◌∷◌, map, Option, Some, None, Ok, Err}
use Rattle.ch_base.specs.declared.address.Address.{Address}
use Rattle.ch_wire.specs.Spelling.{IsFrame, answer_spelling, frame_spelling}
use Rattle.ch_wire.specs.declared.answer.Answer.{Answer}
use Rattle.ch_wire.specs.declared.answer.Answer.TheVariants as answers
use Rattle.ch_wire.specs.declared.frame.Frame.{Frame}
use Rattle.ch_wire.specs.declared.frame.Frame.TheVariants as frames
use Rattle.ch_link.specs.declared.LinkState.TheVariants.{Up}
use Rattle.ch_model.specs.declared.step.Step.{Step}
use Rattle.ch_model.specs.declared.step.Weight.{Weight}
use Rattle.ch_model.specs.HostState.{Link}
use Rattle.ch_model.specs.HostSteps.{Stepped}
use Rattle.ch_model.specs.HostWrites.{said_of, is_up}
use Rattle.ch_laws_writes.specs.Dues.{Due, Answering, Framing}
use Rattle.ch_laws_writes.specs.Orderly.{link_at}
use Rattle.ch_laws_places.specs.Said.{Piece, said_at}

-- a frame that carries no payload
abbrev pub CarriesNone : Frame → Type 0
CarriesNone (frames.Data id payload) = ⊥
CarriesNone frame = Unit {0}

-- an answer, or such a frame, without a place
abbrev pub IsBarePiece : Piece → Type 0
IsBarePiece piece = (piece.1 ≡ None) × (((answer : Answer) × (piece.0 ≡ answer_spelling answer)) ⊎ ((frame : Frame) × IsFrame frame × CarriesNone frame × (piece.0 ≡ frame_spelling frame)))

abbrev pub AreBarePieces : List Piece → Type 0
AreBarePieces [] = Unit {0}
AreBarePieces (piece ∷ rest) = IsBarePiece piece × AreBarePieces rest

-- what waits for a link, as it is written
abbrev pub flushed : List (Frame × Weight) → List Piece
flushed waits = map (λ (wait : Frame × Weight). (frame_spelling wait.0, said_of wait.1)) waits

-- A link wasn't up, and is up on the socket of this number then; all that waited for it is written there, behind the acceptance of its request
-- if it was asked there.
pub record Rises (due : ℕ → Option Due) (links : List Link) (after : List Link) (n : ℕ) (pieces : List Piece) : Type 0 where
  pub end : ℕ
  pub peer : Address
  pub down : is_up (link_at links end peer).state ≡ false
  pub up : (link_at after end peer).state ≡ Up n false
  pub is : ((due n ≡ Some Framing) × (pieces ≡ flushed (link_at links end peer).waits)) ⊎ ((due n ≡ Some Answering) × (pieces ≡ (answer_spelling answers.Accepted, None) ∷ flushed (link_at links end peer).waits))

abbrev pub Nature : (ℕ → Option Due) → List Link → List Link → ℕ → List Piece → Type 0
Nature due links after n pieces = AreBarePieces pieces ⊎ Rises due links after n pieces

-- so it is under each number
abbrev pub Natures : (ℕ → Option Due) → List Link → List Step → List Link → Type 0
Natures due links told after = (n : ℕ) → Nature due links after n (said_at n told)

abbrev pub AllNatures : (ℕ → Option Due) → List Link → Stepped → Type 0
AllNatures due links (Ok done) = Natures due links done.0 done.1.links
AllNatures due links (Err stop) = Unit {0}
