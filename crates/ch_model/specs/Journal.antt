-- A journal's text, line by line, up to the first line that is refused or too long.
use Rattle.std.specs.Prelude.{ℕ, ◌+◌, ◌-◌, Bool, true, false, ◌||◌, List, [], ◌∷◌, length, take, Option, Some, None, Ok, Err, nat_lt, ◌==◌, cond, if◌then◌else◌}
use Rattle.ch_model.specs.declared.refusal.BadKind.TheVariants.{Form}
use Rattle.ch_model.specs.declared.refusal.LineFault.{LineFault}
use Rattle.ch_model.specs.declared.refusal.LineFault.TheVariants.{Bad, TooLong}
use Rattle.ch_model.specs.declared.line.Line.{Line}
use Rattle.ch_model.specs.declared.line.What.{What}
use Rattle.ch_model.specs.LinesTold.{Told, untold}
use Rattle.ch_model.specs.Lines.{Built, read_line}

-- the most bytes of a line, without its newline
abbrev pub longest_line : ℕ
longest_line = 8192

-- the most bytes of a journal
abbrev pub longest_journal : ℕ
longest_journal = 16777216

-- a byte before the first line of what follows
abbrev pub onto_first : ℕ → List (List ℕ × Bool) → List (List ℕ × Bool)
onto_first b [] = (b ∷ [], false) ∷ []
onto_first b (line ∷ lines) = (b ∷ line.0, line.1) ∷ lines

-- the lines of a text, each without its newline, and whether it has one; the last may lack it
abbrev pub raw_lines : List ℕ → List (List ℕ × Bool)
raw_lines [] = []
raw_lines (b ∷ bs) = cond (b == 10) (([], true) ∷ raw_lines bs) (onto_first b (raw_lines bs))

-- how many bytes a line takes, with its newline
abbrev pub size_of : List ℕ × Bool → ℕ
size_of line = length line.0 + cond line.1 1 0

-- the line has too many bytes, or the journal has up to its end, of which there is room for so many
abbrev pub is_too_long : ℕ → List ℕ × Bool → Bool
is_too_long room line = nat_lt longest_line (length line.0) || nat_lt room (size_of line)

-- the lines that were read, and where and why reading stopped
pub record Scan : Type 0 where
  pub lines : List Line
  pub fault : Option (ℕ × LineFault)

-- no line, and reading stopped at this one
abbrev pub stopped : ℕ → LineFault → Scan
stopped number fault = record { lines = []; fault = Some (number, fault) }

-- what a line says, where it says something, before the lines that follow
abbrev pub line_before : ℕ → Option What → Scan → Scan
line_before number None scan = scan
line_before number (Some what) scan = record scan { lines = record { number = number; what = what } ∷ scan.lines }

-- the lines from this number on, where so many bytes of the journal are to come
abbrev pub scan_from : Built → Told → ℕ → ℕ → List (List ℕ × Bool) → Scan
scan_from built told number room [] = record { lines = []; fault = None }
scan_from built told number room (line ∷ rest) =
    if is_too_long room line then stopped number TooLong else (
    elim (read_line built told line.0) [
      | Err kind ↦ stopped number (Bad kind)
      | Ok read ↦ line_before number read.0 (scan_from built read.1 (number + 1) (room - size_of line) rest)
    ])

-- the lines of a journal, of which there is at least one
abbrev pub scan_lines : Built → List (List ℕ × Bool) → Scan
scan_lines built [] = stopped 1 (Bad Form)
scan_lines built (line ∷ rest) = scan_from built untold 1 longest_journal (line ∷ rest)

-- Reading a journal, where these lines are built. No byte after the first that is too many is looked at: its line
-- is too long. A journal without a line lacks its header.
abbrev pub scan_of : Built → List ℕ → Scan
scan_of built bytes = scan_lines built (raw_lines (take (longest_journal + 1) bytes))

-- the lines of a journal before the first that is refused, with their numbers
abbrev pub journal_of : Built → List ℕ → List Line
journal_of built bytes = (scan_of built bytes).lines

-- the first line that is refused or too long, and why
abbrev pub first_fault : Built → List ℕ → Option (ℕ × LineFault)
first_fault built bytes = (scan_of built bytes).fault
