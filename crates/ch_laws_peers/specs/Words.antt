-- What a node's payloads towards another carry: the first under each id opens the connection of a pair, and the others carry what was said, in order.
use Rattle.std.specs.Prelude.{◌≡◌, ℕ, suc, Bool, true, List, [], ◌∷◌, ◌++◌, filter_map, map, slice_get, Option, Some, None}
use Rattle.std.specs.List.{list_any}
use Rattle.std.specs.Str.{bytes_eq}
use Rattle.ch_wire.specs.declared.frame.Frame.{Frame}
use Rattle.ch_wire.specs.declared.frame.Frame.TheVariants as frames
use Rattle.ch_model.specs.declared.entry.Entry.{Entry}
use Rattle.ch_model.specs.declared.line.Line.{Line}
use Rattle.ch_model.specs.declared.step.Place.{Place}
use Rattle.ch_model.specs.declared.step.Weight.{Weight}
use Rattle.ch_model.specs.AccountsFrames.{Saying, pair_opening, payload_of}
use Rattle.ch_model.specs.AccountsItems.{data_of, first_payload}
use Rattle.ch_model.specs.HostWrites.{said_of}
use Rattle.ch_model.specs.Logs.{some_and}
use Rattle.ch_laws_plain_logs.specs.Plain.{said_by}

-- a frame, and the place of the message that it carries, if any
abbrev pub Placed : Type 0
Placed = Frame × Option Place

-- a payload with the id that it goes under, and its place
abbrev pub Word : Type 0
Word = (ℕ × List ℕ) × Option Place

abbrev pub word_with : Option Place → Option (ℕ × List ℕ) → Option Word
word_with place None = None
word_with place (Some d) = Some (d, place)

abbrev pub word_of : Placed → Option Word
word_of placed = word_with placed.1 (data_of placed.0)

-- the payloads among frames
abbrev pub words_in : List Placed → List Word
words_in frames = filter_map word_of frames

-- the same without places
abbrev pub datas_in : List Word → List (ℕ × List ℕ)
datas_in words = map (λ (w : Word). w.0) words

-- how many sayings are carried after a payload, where so many were before it, by the first payload under its id
abbrev pub carried_after : Option (List ℕ) → ℕ → ℕ
carried_after None n = n
carried_after (Some opening) n = suc n

-- the place of a saying
abbrev pub place_of : Option Saying → Option Place
place_of None = None
place_of (Some s) = Some (record { epoch = s.epoch; index = s.index })

-- the place of a payload behind these, where so many sayings were carried before: an opening has none, and another has that of what is said
-- next
abbrev pub place_next : List Saying → ℕ → Option (List ℕ) → Option Place
place_next said n None = None
place_next said n (Some opening) = place_of (slice_get said n)

-- Frames with the places of their messages, behind these payloads, where so many of these sayings were carried before.
abbrev pub placing : List Saying → List (ℕ × List ℕ) → ℕ → List Frame → List Placed
placing said before n [] = []
placing said before n (frames.Data id payload ∷ rest) = (frames.Data id payload, place_next said n (first_payload id before)) ∷ placing said (before ++ (id, payload) ∷ []) (carried_after (first_payload id before) n) rest
placing said before n (frame ∷ rest) = (frame, None) ∷ placing said before n rest

-- frames that wait for a link
abbrev pub waiting_as : List (Frame × Weight) → List Placed
waiting_as waits = map (λ (wait : Frame × Weight). (wait.0, said_of wait.1)) waits

-- what the node x has said to the node y, in order
abbrev pub sayings : List ℕ → List ℕ → List Entry → List Saying
sayings x y log = filter_map (said_by x y) log

-- some pair of these has this opening message
abbrev pub opens_one : List Line → List Saying → List ℕ → Bool
opens_one journal said payload = list_any (λ (s : Saying). some_and (bytes_eq payload) (pair_opening journal s.by s.to)) said

-- the payload is the message of this saying, on a connection that was opened for its pair
pub record Carries (journal : List Line) (opening : List ℕ) (word : Word) (s : Saying) : Type 0 where
  pub payload : word.0.1 ≡ payload_of s
  pub pair : pair_opening journal s.by s.to ≡ Some opening
  pub place : word.1 ≡ Some (record { epoch = s.epoch; index = s.index })

-- A payload that is the first under its id is an opening of a pair that has said something; another carries what is said next.
abbrev pub TrueWord : List Line → List Saying → ℕ → Word → Option (List ℕ) → Type 0
TrueWord journal said n word None = (opens_one journal said word.0.1 ≡ true) × (word.1 ≡ None)
TrueWord journal said n word (Some opening) = (s : Saying) × (slice_get said n ≡ Some s) × Carries journal opening word s

-- so are payloads, one after another, behind these, where so many sayings were carried before and so many are in the end
abbrev pub TrueWords : List Line → List Saying → List (ℕ × List ℕ) → ℕ → List Word → ℕ → Type 0
TrueWords journal said before n [] end = n ≡ end
TrueWords journal said before n (word ∷ rest) end = TrueWord journal said n word (first_payload word.0.0 before) × TrueWords journal said (before ++ word.0 ∷ []) (carried_after (first_payload word.0.0 before) n) rest end
