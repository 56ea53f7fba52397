-- What a lawful log of one node is: each entry is lawful after those before it, and each event line is answered.
use Rattle.std.specs.Prelude.{List, [], ◌∷◌, ◌++◌, None, Some}
use Rattle.ch_model.specs.declared.name.TargetName.TheVariants.{Process}
use Rattle.ch_model.specs.declared.entry.Entry.{Entry}
use Rattle.ch_model.specs.declared.entry.Entry.TheVariants.{Line, Made, Said, Got, Took, Over}
use Rattle.ch_model.specs.declared.line.Line.{Line as JournalLine}
use Rattle.ch_laws_one_node.specs.Life.{Lives, IsNextProcess}
use Rattle.ch_laws_one_node.specs.Delivery.{IsLawfulSaid, IsLawfulReceipt}
use Rattle.ch_laws_one_node.specs.Mailboxes.{IsLawfulTake}
use Rattle.ch_laws_one_node.specs.Answers.{HasAnswers}

-- An entry is lawful after the log before it. No other entry stands in a log of one node.
abbrev pub IsLawfulEntry : List Entry → Entry → Type 0
IsLawfulEntry log (Line number answer) = Unit {0}
IsLawfulEntry log (Made process None None) = IsNextProcess log process
IsLawfulEntry log (Said by (Process to) epoch index mark body) = IsLawfulSaid log by to epoch index
IsLawfulEntry log (Got by (Process to) epoch index (Some receiver)) = IsLawfulReceipt log by to epoch index receiver
IsLawfulEntry log (Took by None mark body) = IsLawfulTake log by mark body
IsLawfulEntry log (Over process reason) = Lives log process
IsLawfulEntry log entry = ⊥

-- each entry of the rest is lawful after those before it
abbrev pub AreLawfulAfter : List Entry → List Entry → Type 0
AreLawfulAfter log [] = Unit {0}
AreLawfulAfter log (entry ∷ rest) = IsLawfulEntry log entry × AreLawfulAfter (log ++ entry ∷ []) rest

-- a lawful log of a journal
pub record IsLawful (journal : List JournalLine) (log : List Entry) : Type 0 where
  pub entries : AreLawfulAfter [] log
  pub answers : HasAnswers journal log
