-- The scan of a line and what follows it, by its cases, whatever the grammar.
use Rattle.std.specs.Prelude.{◌≡◌, ℕ, ◌+◌, ◌-◌, Bool, List, ◌∷◌, Option, Result, Ok, Err, if◌then◌else◌}
use Rattle.std.proofs.Common.{refl}
use Rattle.ch_model.specs.declared.refusal.BadKind.{BadKind}
use Rattle.ch_model.specs.declared.refusal.LineFault.TheVariants.{Bad, TooLong}
use Rattle.ch_model.specs.declared.line.What.{What}
use Rattle.ch_model.specs.LinesTold.{Told}
use Rattle.ch_model.specs.Lines.{Built, read_line}
use Rattle.ch_model.specs.Journal.{Scan, stopped, line_before, is_too_long, size_of, scan_from}

-- what comes of a line that isn't too long
abbrev pub after_read : Built → ℕ → ℕ → List (List ℕ × Bool) → Result (Option What × Told) BadKind → Scan
after_read built number room rest (Err kind) = stopped number (Bad kind)
after_read built number room rest (Ok read) = line_before number read.0 (scan_from built read.1 (number + 1) room rest)

pub scan_is : (built : Built) (told : Told) (number room : ℕ) (line : List ℕ × Bool) (rest : List (List ℕ × Bool)) → scan_from built told number room (line ∷ rest) ≡ (if is_too_long room line then stopped number TooLong else after_read built number (room - size_of line) rest (read_line built told line.0))
scan_is built told number room line rest = by_read (is_too_long room line) (read_line built told line.0) where
  by_read : (b : Bool) (r : Result (Option What × Told) BadKind) → (if b then stopped number TooLong else (elim r as (λ x. Scan) [ Err kind ↦ stopped number (Bad kind) | Ok read ↦ line_before number read.0 (scan_from built read.1 (number + 1) (room - size_of line) rest) ])) ≡ (if b then stopped number TooLong else after_read built number (room - size_of line) rest r)
  by_read b (Err kind) = refl
  by_read b (Ok read) = refl
