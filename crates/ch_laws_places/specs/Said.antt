-- What the steps of a host write, with the places of the messages that it carries.
use Rattle.std.specs.Prelude.{◌≡◌, ℕ, cond, ◌==◌, List, [], ◌∷◌, map, Option, Some, None, Result, Ok, Err}
use Rattle.std.specs.List.{flat_map}
use Rattle.ch_base.specs.declared.address.Address.{Address}
use Rattle.ch_wire.specs.Spelling.{IsFrame, frame_spelling}
use Rattle.ch_wire.specs.declared.frame.Frame.TheVariants as frames
use Rattle.ch_reader.specs.Items.{spellings}
use Rattle.ch_reader.specs.declared.item.Item.{Item}
use Rattle.ch_model.specs.declared.step.Place.{Place}
use Rattle.ch_model.specs.declared.step.Step.{Step}
use Rattle.ch_model.specs.declared.step.Step.TheVariants as steps
use Rattle.ch_model.specs.HostState.{HostState}
use Rattle.ch_laws_bytes.specs.Streams.{AsksNothing}
use Rattle.ch_laws_writes.specs.Dues.{Due}
use Rattle.ch_laws_calls.specs.FitsTurns.{DialsAlone, IsKind}
use Rattle.ch_laws_places.specs.Places.{AllStand, HostPlaced}

-- bytes that are written, and the place of the message that they carry
abbrev pub Piece : Type 0
Piece = List ℕ × Option Place

-- the pieces that steps write on the socket of this number
abbrev pub said_at : ℕ → List Step → List Piece
said_at n [] = []
said_at n (steps.Write sock bytes said ∷ rest) = cond (sock == n) ((bytes, said) ∷ said_at n rest) (said_at n rest)
said_at n (step ∷ rest) = said_at n rest

abbrev pub bytes_in : List Piece → List ℕ
bytes_in pieces = flat_map (λ (piece : Piece). piece.0) pieces

abbrev pub places_in : List Piece → List (Option Place)
places_in pieces = map (λ (piece : Piece). piece.1) pieces

-- ---- a call

-- the bytes spell a frame of data that may be read
pub record SpellsData (bytes : List ℕ) : Type 0 where
  pub id : ℕ
  pub payload : List ℕ
  pub framed : IsFrame (frames.Data id payload)
  pub spelled : bytes ≡ frame_spelling (frames.Data id payload)

-- with a place only a frame of data is written, and on no socket where a request is due
abbrev pub IsSaid : Option Due → List ℕ → Option Place → Type 0
IsSaid due bytes None = Unit {0}
IsSaid due bytes (Some place) = AsksNothing due × SpellsData bytes

abbrev pub AllSaid : (ℕ → Option Due) → List Step → Type 0
AllSaid due [] = Unit {0}
AllSaid due (steps.Write sock bytes said ∷ rest) = IsSaid (due sock) bytes said × AllSaid due rest
AllSaid due (step ∷ rest) = AllSaid due rest

-- what a call leaves at its host, and what it writes where that was due; and what dials does nothing else
pub record Says (due : ℕ → Option Due) (told : List Step) (after : HostState) : Type 0 where
  pub placed : HostPlaced after
  pub said : AllSaid due told
  pub alone : DialsAlone told

-- whatever was done
abbrev pub AllSay : {E : Type 0} → (ℕ → Option Due) → Result (List Step × HostState) E → Type 0
AllSay due (Ok done) = Says due done.0 done.1
AllSay due (Err e) = Unit {0}

-- ---- an end

-- pieces that are written at an end are items that may be written there, each with the place that stands by it
pub record Written (own : ℕ → Address) (due : Option Due) (pieces : List Piece) : Type 0 where
  pub said : List Item
  pub spelled : bytes_in pieces ≡ spellings said
  pub kind : IsKind own due said
  pub stand : AllStand said (places_in pieces)
