-- Where reading stops, whatever the grammar: at the first line with a fault, after the lines before it.
use Rattle.std.specs.Prelude.{◌≡◌, ℕ, zero, suc, ◌+◌, ◌-◌, ◌≤◌, Bool, true, false, cond, List, [], ◌∷◌, ◌++◌, length, take, Option, Some, None, Result, Ok, Err, ◌==◌, if◌then◌else◌}
use Rattle.std.proofs.Common.{refl, ap, sym, ◌∙◌, subst, arith}
use Rattle.ch_model.specs.declared.refusal.BadKind.{BadKind}
use Rattle.ch_model.specs.declared.refusal.LineFault.{LineFault}
use Rattle.ch_model.specs.declared.refusal.LineFault.TheVariants.{Bad, TooLong}
use Rattle.ch_model.specs.declared.line.Line.{Line}
use Rattle.ch_model.specs.declared.line.What.{What}
use Rattle.ch_model.specs.LinesTold.{Told, untold}
use Rattle.ch_model.specs.Lines.{Built, read_line}
use Rattle.ch_model.specs.Journal.{Scan, stopped, line_before, is_too_long, size_of, scan_from, scan_lines, scan_of, raw_lines, onto_first, longest_journal}
use Rattle.ch_laws_one_node.specs.Places.{AreNumbered, told_by, bytes_in, HasFault, IsFirstFault}
use Rattle.ch_laws_one_node.proofs.Scans.{after_read, scan_is}

-- ---- the journal's limit

take_twice : (n : ℕ) (xs : List ℕ) → take n (take n xs) ≡ take n xs
take_twice zero [] = refl
take_twice zero (x ∷ xs) = refl
take_twice (suc n) [] = refl
take_twice (suc n) (x ∷ xs) = ap (λ l. x ∷ l) (take_twice n xs)

pub looked_at : (built : Built) (bytes : List ℕ) → scan_of built (take (longest_journal + 1) bytes) ≡ scan_of built bytes
looked_at built bytes = any_limit (longest_journal + 1) bytes where
  any_limit : (n : ℕ) (bytes : List ℕ) → scan_lines built (raw_lines (take n (take n bytes))) ≡ scan_lines built (raw_lines (take n bytes))
  any_limit n bytes = ap (λ l. scan_lines built (raw_lines l)) (take_twice n bytes)

-- ---- the numbers of lines

numbers_from : (least more : ℕ) (lines : List Line) (fault : Option (ℕ × LineFault)) → least ≤ more → AreNumbered more lines fault → AreNumbered least lines fault
numbers_from least more [] None h a = tt
numbers_from least more [] (Some fault) h a = omega arith
numbers_from least more (line ∷ lines) fault h a = (above least more line.number h a.0, a.1) where
  above : (l m n : ℕ) → l ≤ m → m ≤ n → l ≤ n
  above l m n h e = omega arith

abbrev Numbered : ℕ → Scan → Type 0
Numbered number scan = AreNumbered number scan.lines scan.fault

pub are_numbered : (built : Built) (told : Told) (number room : ℕ) (raw : List (List ℕ × Bool)) → Numbered number (scan_from built told number room raw)
are_numbered built told number room [] = tt
are_numbered built told number room (line ∷ raw) = subst (λ s. Numbered number s) (sym (scan_is built told number room line raw)) (by_long (is_too_long room line) (read_line built told line.0) (λ after. are_numbered built after (number + 1) (room - size_of line) raw)) where
  same : (n : ℕ) → n ≤ n
  same n = omega arith

  later : (n : ℕ) → n ≤ n + 1
  later n = omega arith

  onto : (what : Option What) (scan : Scan) → Numbered (number + 1) scan → Numbered number (line_before number what scan)
  onto None scan a = numbers_from number (number + 1) scan.lines scan.fault (later number) a
  onto (Some what) scan a = (same number, a)

  by_long : (b : Bool) (r : Result (Option What × Told) BadKind) → ((after : Told) → Numbered (number + 1) (scan_from built after (number + 1) (room - size_of line) raw)) → Numbered number (if b then stopped number TooLong else after_read built number (room - size_of line) raw r)
  by_long true r rest = same number
  by_long false (Err kind) rest = same number
  by_long false (Ok read) rest = onto read.0 (scan_from built read.1 (number + 1) (room - size_of line) raw) (rest read.1)

pub all_numbered : (built : Built) (raw : List (List ℕ × Bool)) → Numbered 1 (scan_lines built raw)
all_numbered built [] = omega arith
all_numbered built (line ∷ raw) = are_numbered built untold 1 longest_journal (line ∷ raw)

-- ---- the place of the first fault

pub record Stops (built : Built) (told : Told) (number room : ℕ) (raw : List (List ℕ × Bool)) (lines : List Line) (at : ℕ) (fault : LineFault) : Type 0 where
  pub front : List (List ℕ × Bool)
  pub line : List ℕ × Bool
  pub rest : List (List ℕ × Bool)
  pub lines_are : raw ≡ front ++ line ∷ rest
  pub place : at ≡ number + length front
  pub before : scan_from built told number room front ≡ record { lines = lines; fault = None }
  pub fault_is : HasFault built (told_by built told front) (room - bytes_in front) line fault

abbrev StopsIn : Built → Told → ℕ → ℕ → List (List ℕ × Bool) → Scan → Option (ℕ × LineFault) → Type 0
StopsIn built told number room raw scan None = Unit {0}
StopsIn built told number room raw scan (Some fault) = Stops built told number room raw scan.lines fault.0 fault.1

stops_in : (built : Built) (told : Told) (number room : ℕ) (raw : List (List ℕ × Bool)) → StopsIn built told number room raw (scan_from built told number room raw) (scan_from built told number room raw).fault
stops_in built told number room [] = tt
stops_in built told number room (line ∷ raw) = subst (λ s. StopsIn built told number room (line ∷ raw) s s.fault) (sym (scan_is built told number room line raw)) (by_long (is_too_long room line) refl (read_line built told line.0) refl (λ after. stops_in built after (number + 1) (room - size_of line) raw)) where
  here : (n : ℕ) → n ≡ n + 0
  here n = omega arith

  all : (n : ℕ) → n ≡ n - 0
  all n = omega arith

  at_once : (fault : LineFault) → HasFault built told room line fault → Stops built told number room (line ∷ raw) [] number fault
  at_once fault has = record {
    front = [];
    line = line;
    rest = raw;
    lines_are = refl;
    place = here number;
    before = refl;
    fault_is = subst (λ n. HasFault built told n line fault) (all room) has;
  }

  onto : is_too_long room line ≡ false → (read : Option What × Told) → read_line built told line.0 ≡ Ok read → (scan : Scan) (fault : ℕ × LineFault) → Stops built read.1 (number + 1) (room - size_of line) raw scan.lines fault.0 fault.1 → Stops built told number room (line ∷ raw) (line_before number read.0 scan).lines fault.0 fault.1
  onto fits read is scan fault s = record {
    front = line ∷ s.front;
    line = s.line;
    rest = s.rest;
    lines_are = ap (λ l. line ∷ l) s.lines_are;
    place = s.place ∙ next number (length s.front);
    before = scan_is built told number room line s.front
        ∙ ap (λ b. if b then stopped number TooLong else after_read built number (room - size_of line) s.front (read_line built told line.0)) fits
        ∙ ap (after_read built number (room - size_of line) s.front) is
        ∙ ap (line_before number read.0) s.before
        ∙ with_line read.0;
    fault_is = subst (λ t. HasFault built t (room - (size_of line + bytes_in s.front)) s.line fault.1) (ap (λ r. told_after r) (sym is) ∙ tells (read_line built told line.0)) (subst (λ n. HasFault built (told_by built read.1 s.front) n s.line fault.1) (less room (size_of line) (bytes_in s.front)) s.fault_is);
  } where
    next : (n k : ℕ) → (n + 1) + k ≡ n + suc k
    next n k = omega arith

    less : (r a b : ℕ) → (r - a) - b ≡ r - (a + b)
    less r a b = omega arith

    with_line : (what : Option What) → line_before number what (record { lines = scan.lines; fault = None }) ≡ record { lines = (line_before number what scan).lines; fault = None }
    with_line None = refl
    with_line (Some what) = refl

    told_after : Result (Option What × Told) BadKind → Told
    told_after (Err kind) = told
    told_after (Ok read) = told_by built read.1 s.front

    tells : (r : Result (Option What × Told) BadKind) → told_after r ≡ (elim r as (λ x. Told) [ Err kind ↦ told | Ok read ↦ told_by built read.1 s.front ])
    tells (Err kind) = refl
    tells (Ok read) = refl

  later : is_too_long room line ≡ false → (read : Option What × Told) → read_line built told line.0 ≡ Ok read → (scan : Scan) (fault : Option (ℕ × LineFault)) → StopsIn built read.1 (number + 1) (room - size_of line) raw scan fault → StopsIn built told number room (line ∷ raw) (line_before number read.0 scan) fault
  later fits read is scan None s = tt
  later fits read is scan (Some fault) s = onto fits read is scan fault s

  same_fault : (what : Option What) (scan : Scan) → scan.fault ≡ (line_before number what scan).fault
  same_fault None scan = refl
  same_fault (Some what) scan = refl

  by_long : (b : Bool) → is_too_long room line ≡ b → (r : Result (Option What × Told) BadKind) → read_line built told line.0 ≡ r → ((after : Told) → StopsIn built after (number + 1) (room - size_of line) raw (scan_from built after (number + 1) (room - size_of line) raw) (scan_from built after (number + 1) (room - size_of line) raw).fault) → StopsIn built told number room (line ∷ raw) (if b then stopped number TooLong else after_read built number (room - size_of line) raw r) (if b then stopped number TooLong else after_read built number (room - size_of line) raw r).fault
  by_long true long r is rest = at_once TooLong long
  by_long false fits (Err kind) is rest = at_once (Bad kind) (fits, is)
  by_long false fits (Ok read) is rest = subst (λ f. StopsIn built told number room (line ∷ raw) (line_before number read.0 (scan_from built read.1 (number + 1) (room - size_of line) raw)) f) (same_fault read.0 (scan_from built read.1 (number + 1) (room - size_of line) raw))
      (later fits read is (scan_from built read.1 (number + 1) (room - size_of line) raw) (scan_from built read.1 (number + 1) (room - size_of line) raw).fault (rest read.1))

first_of : (built : Built) (raw : List (List ℕ × Bool)) (scan : Scan) (fault : Option (ℕ × LineFault)) (number : ℕ) (wrong : LineFault) → StopsIn built untold 1 longest_journal raw scan fault → fault ≡ Some (number, wrong) → IsFirstFault built raw scan.lines number wrong
first_of built raw scan None number wrong s h = absurd (cc)
first_of built raw scan (Some fault) number wrong s h = subst (λ (f : ℕ × LineFault). IsFirstFault built raw scan.lines f.0 f.1) (some_is fault (number, wrong) h) (record {
  front = s.front;
  line = s.line;
  rest = s.rest;
  lines_are = s.lines_are;
  place = s.place ∙ swapped (length s.front);
  before = s.before;
  fault_is = s.fault_is;
}) where
  swapped : (n : ℕ) → 1 + n ≡ n + 1
  swapped n = omega arith

  some_is : (x y : ℕ × LineFault) → ◌≡◌ {A = Option (ℕ × LineFault)} (Some x) (Some y) → x ≡ y
  some_is x y h = cc

some_line : (b : ℕ) (bytes : List ℕ) (n : ℕ) → raw_lines (take (suc n) (b ∷ bytes)) ≡ [] → ⊥
some_line b bytes n = by_test (b == 10) (raw_lines (take n bytes)) where
  by_test : (x : Bool) (raw : List (List ℕ × Bool)) → cond x (([], true) ∷ raw) (onto_first b raw) ≡ [] → ⊥
  by_test true raw h = cc
  by_test false [] h = cc
  by_test false (line ∷ raw) h = cc

pub first_fault_place : (built : Built) (b : ℕ) (bytes : List ℕ) (number : ℕ) (fault : LineFault) → (scan_of built (b ∷ bytes)).fault ≡ Some (number, fault) → IsFirstFault built (raw_lines (take (longest_journal + 1) (b ∷ bytes))) (scan_of built (b ∷ bytes)).lines number fault
first_fault_place built b bytes number fault h = by_raw (raw_lines (take (longest_journal + 1) (b ∷ bytes))) (at_limit longest_journal) h where
  next : (n : ℕ) → n + 1 ≡ suc n
  next n = omega arith

  at_limit : (n : ℕ) → raw_lines (take (n + 1) (b ∷ bytes)) ≡ [] → ⊥
  at_limit n e = some_line b bytes n (ap (λ k. raw_lines (take k (b ∷ bytes))) (sym (next n)) ∙ e)

  by_raw : (raw : List (List ℕ × Bool)) → (raw ≡ [] → ⊥) → (scan_lines built raw).fault ≡ Some (number, fault) → IsFirstFault built raw (scan_lines built raw).lines number fault
  by_raw [] some h = absurd (some refl)
  by_raw (line ∷ raw) some h = first_of built (line ∷ raw) (scan_from built untold 1 longest_journal (line ∷ raw)) (scan_from built untold 1 longest_journal (line ∷ raw)).fault number fault (stops_in built untold 1 longest_journal (line ∷ raw)) h
