-- Journals of one node: its declaration, and then event lines that name it alone.
use Rattle.std.specs.Prelude.{◌≡◌, ℕ, ◌≤◌, List, [], ◌∷◌, length}
use Rattle.ch_ident.specs.Spelling as spelling
use Rattle.ch_model.specs.declared.name.TargetName.TheVariants.{Process}
use Rattle.ch_model.specs.declared.line.Line.{Line}
use Rattle.ch_model.specs.declared.line.What.{What}
use Rattle.ch_model.specs.declared.line.What.TheVariants as lines
use Rattle.ch_model.specs.NodeRoom.{longest}

-- the line has a process of this node made, or has one send to a process of it, take a message, or end
abbrev pub IsOfNode : List ℕ → What → Type 0
IsOfNode node (lines.Proc name) = name ≡ node
IsOfNode node (lines.Send by (Process to) mark body) = (by.node ≡ node) × (to.node ≡ node)
IsOfNode node (lines.Recv by mark) = by.node ≡ node
IsOfNode node (lines.End by) = by.node ≡ node
IsOfNode node what = ⊥

-- each of the lines does so
abbrev pub AreOfNode : List ℕ → List Line → Type 0
AreOfNode node [] = Unit {0}
AreOfNode node (line ∷ rest) = IsOfNode node line.what × AreOfNode node rest

-- the lines after the first, which declares the node
abbrev pub AreAfter : What → List Line → Type 0
AreAfter (lines.Node name address unique) rest = AreOfNode name rest
AreAfter what rest = ⊥

-- a journal of one node: no line, or its declaration, and then event lines that name it alone
abbrev pub IsOfOneNode : List Line → Type 0
IsOfOneNode [] = Unit {0}
IsOfOneNode (line ∷ rest) = AreAfter line.what rest

-- a message that the line sends fits in one frame
abbrev pub FitsFrame : What → Type 0
FitsFrame (lines.Send by to mark body) = length (spelling.user (record { mark = mark; body = body })) ≤ longest
FitsFrame what = Unit {0}

-- each message that a line sends fits in one frame
abbrev pub FitFrames : List Line → Type 0
FitFrames [] = Unit {0}
FitFrames (line ∷ rest) = FitsFrame line.what × FitFrames rest
