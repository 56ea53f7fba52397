-- That no spelling begins another that may stand in its place.
use Rattle.std.specs.Prelude.{◌≡◌, List, ℕ, ◌++◌}
use Rattle.ch_wire.specs.Spelling.{IsRequest, IsFrame, request_spelling, answer_spelling, frame_spelling}
use Rattle.ch_wire.specs.declared.answer.Answer.{Answer}
use Rattle.ch_wire.specs.declared.frame.Frame.{Frame}
use Rattle.ch_wire.specs.declared.request.Request.{Request}

-- Where two spelled requests begin the same bytes they are one request, and what follows is the same.
abbrev pub RequestsStandApart : Type 0
RequestsStandApart = (r s : Request) (x y : List ℕ) → IsRequest r → IsRequest s → request_spelling r ++ x ≡ request_spelling s ++ y → (r ≡ s) × (x ≡ y)

-- the same of answers
abbrev pub AnswersStandApart : Type 0
AnswersStandApart = (a b : Answer) (x y : List ℕ) → answer_spelling a ++ x ≡ answer_spelling b ++ y → (a ≡ b) × (x ≡ y)

-- the same of frames
abbrev pub FramesStandApart : Type 0
FramesStandApart = (f g : Frame) (x y : List ℕ) → IsFrame f → IsFrame g → frame_spelling f ++ x ≡ frame_spelling g ++ y → (f ≡ g) × (x ≡ y)
