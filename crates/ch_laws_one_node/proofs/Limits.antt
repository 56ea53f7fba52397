-- What is read without a fault is within the limits, whatever the grammar.
use Rattle.std.specs.Prelude.{◌≡◌, ℕ, suc, ◌+◌, ◌-◌, ◌≤◌, Bool, true, false, List, [], ◌∷◌, length, take, Option, Some, None, Result, Ok, Err, nat_lt, ◌==◌, cond, if◌then◌else◌}
use Rattle.std.proofs.Common.{refl, ap, sym, ◌∙◌, arith}
use Rattle.std.proofs.lemmas.List.{length-take}
use Rattle.std.proofs.lemmas.Bool.{ltb-false, or_parts}
use Rattle.ch_model.specs.declared.refusal.BadKind.{BadKind}
use Rattle.ch_model.specs.declared.refusal.LineFault.TheVariants.{TooLong}
use Rattle.ch_model.specs.declared.line.What.{What}
use Rattle.ch_model.specs.LinesTold.{Told, untold}
use Rattle.ch_model.specs.Lines.{Built, read_line}
use Rattle.ch_model.specs.Journal.{Scan, stopped, line_before, is_too_long, size_of, scan_from, scan_lines, raw_lines, onto_first, longest_journal, longest_line}
use Rattle.ch_laws_one_node.specs.Places.{bytes_in}
use Rattle.ch_laws_one_node.proofs.Scans.{after_read, scan_is}

all_bytes : (bytes : List ℕ) → bytes_in (raw_lines bytes) ≡ length bytes
all_bytes [] = refl
all_bytes (b ∷ bs) = by_test (b == 10) (all_bytes bs) where
  onto : (lines : List (List ℕ × Bool)) → bytes_in (onto_first b lines) ≡ bytes_in lines + 1
  onto [] = refl
  onto (line ∷ lines) = longer (length line.0) (cond line.1 1 0) (bytes_in lines) where
    longer : (n m k : ℕ) → (suc n + m) + k ≡ ((n + m) + k) + 1
    longer n m k = omega arith

  by_test : (x : Bool) → bytes_in (raw_lines bs) ≡ length bs → bytes_in (cond x (([], true) ∷ raw_lines bs) (onto_first b (raw_lines bs))) ≡ length (b ∷ bs)
  by_test true e = omega arith
  by_test false e = omega (arith, onto (raw_lines bs))

fault_of_line_before : (number : ℕ) (what : Option What) (scan : Scan) → (line_before number what scan).fault ≡ scan.fault
fault_of_line_before number None scan = refl
fault_of_line_before number (Some what) scan = refl

within_sum : (n room k : ℕ) → n ≤ room → k ≤ room - n → n + k ≤ room
within_sum n room k h g = omega arith

pub within_room : (built : Built) (told : Told) (number room : ℕ) (raw : List (List ℕ × Bool)) → (scan_from built told number room raw).fault ≡ None → bytes_in raw ≤ room
within_room built told number room [] h = omega arith
within_room built told number room (line ∷ raw) h = by_long (is_too_long room line) refl (read_line built told line.0) (λ after. within_room built after (number + 1) (room - size_of line) raw) (ap (λ s. s.fault) (sym (scan_is built told number room line raw)) ∙ h) where
  after : Told → Scan
  after told = scan_from built told (number + 1) (room - size_of line) raw

  by_long : (b : Bool) → is_too_long room line ≡ b → (r : Result (Option What × Told) BadKind) → ((t : Told) → (after t).fault ≡ None → bytes_in raw ≤ room - size_of line) → (if b then stopped number TooLong else after_read built number (room - size_of line) raw r).fault ≡ None → bytes_in (line ∷ raw) ≤ room
  by_long true long r rest h = cc
  by_long false fits (Err kind) rest h = cc
  by_long false fits (Ok read) rest h =
      let more : bytes_in raw ≤ room - size_of line = rest read.1 (sym (fault_of_line_before number read.0 (after read.1)) ∙ h) in
      let size : size_of line ≤ room = ltb-false room (size_of line) (or_parts (nat_lt longest_line (length line.0)) (nat_lt room (size_of line)) fits).1 in
      within_sum (size_of line) room (bytes_in raw) size more

lines_within : (built : Built) (raw : List (List ℕ × Bool)) → (scan_lines built raw).fault ≡ None → bytes_in raw ≤ longest_journal
lines_within built [] h = omega arith
lines_within built (line ∷ raw) h = within_room built untold 1 longest_journal (line ∷ raw) h

-- with a variable in place of the most bytes, of which a numeral would be unfolded
within : (most : ℕ) (bytes : List ℕ) → bytes_in (raw_lines (take (most + 1) bytes)) ≤ most → length bytes ≤ most
within most bytes h = let e = all_bytes (take (most + 1) bytes) in grind (arith, length-take)

pub all_within : (built : Built) (bytes : List ℕ) → (scan_lines built (raw_lines (take (longest_journal + 1) bytes))).fault ≡ None → length bytes ≤ longest_journal
all_within built bytes h = within longest_journal bytes (lines_within built (raw_lines (take (longest_journal + 1) bytes)) h)
