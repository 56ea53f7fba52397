-- Where reading a journal stops, and the numbers of its lines, whatever the grammar.
use Rattle.std.specs.Prelude.{◌≡◌, ℕ, ◌+◌, ◌-◌, ◌≤◌, Bool, true, false, List, [], ◌∷◌, ◌++◌, length, Option, Some, None, Ok, Err}
use Rattle.ch_model.specs.declared.refusal.LineFault.{LineFault}
use Rattle.ch_model.specs.declared.refusal.LineFault.TheVariants.{Bad, TooLong}
use Rattle.ch_model.specs.declared.line.Line.{Line}
use Rattle.ch_model.specs.LinesTold.{Told, untold}
use Rattle.ch_model.specs.Lines.{Built, read_line}
use Rattle.ch_model.specs.Journal.{longest_journal, size_of, is_too_long, scan_from}

-- The lines have numbers from this on, each greater than the one before it, and less than that of the fault.
abbrev pub AreNumbered : ℕ → List Line → Option (ℕ × LineFault) → Type 0
AreNumbered least [] None = Unit {0}
AreNumbered least [] (Some fault) = least ≤ fault.0
AreNumbered least (line ∷ rest) fault = (least ≤ line.number) × AreNumbered (line.number + 1) rest fault

-- what some accepted lines have told
abbrev pub told_by : Built → Told → List (List ℕ × Bool) → Told
told_by built told [] = told
told_by built told (line ∷ rest) = elim (read_line built told line.0) [
  | Err kind ↦ told
  | Ok read ↦ told_by built read.1 rest
]

-- how many bytes some lines take
abbrev pub bytes_in : List (List ℕ × Bool) → ℕ
bytes_in [] = 0
bytes_in (line ∷ rest) = size_of line + bytes_in rest

-- the line has this fault, after what was told and with room for so many bytes of the journal
abbrev pub HasFault : Built → Told → ℕ → List ℕ × Bool → LineFault → Type 0
HasFault built told room line TooLong = is_too_long room line ≡ true
HasFault built told room line (Bad kind) = (is_too_long room line ≡ false) × (read_line built told line.0 ≡ Err kind)

-- The line of this number is the first with a fault, and it has this one: those before it are read without a
-- fault, as the journal.
pub record IsFirstFault (built : Built) (raw : List (List ℕ × Bool)) (journal : List Line) (number : ℕ) (fault : LineFault) : Type 0 where
  pub front : List (List ℕ × Bool)
  pub line : List ℕ × Bool
  pub rest : List (List ℕ × Bool)
  pub lines_are : raw ≡ front ++ line ∷ rest
  pub place : number ≡ length front + 1
  pub before : scan_from built untold 1 longest_journal front ≡ record { lines = journal; fault = None }
  pub fault_is : HasFault built (told_by built untold front) (longest_journal - bytes_in front) line fault
