-- Declarations stand before events, by each grammar whose declarations ask that no event line came.
use Rattle.std.specs.Prelude.{◌≡◌, ℕ, ◌+◌, ◌-◌, Bool, true, false, ◌&&◌, List, [], ◌∷◌, ◌++◌, Option, Some, None, Result, Ok, Err, if◌then◌else◌}
use Rattle.std.specs.List.{AllByRecursion}
use Rattle.std.specs.Str.{bytes_eq}
use Rattle.std.proofs.Common.{refl, ap, sym, ◌∙◌, subst}
use Rattle.ch_model.specs.declared.refusal.BadKind.{BadKind}
use Rattle.ch_model.specs.declared.refusal.BadKind.TheVariants.{Form}
use Rattle.ch_model.specs.declared.refusal.LineFault.TheVariants.{TooLong}
use Rattle.ch_model.specs.declared.line.What.{What}
use Rattle.ch_model.specs.declared.line.What.TheVariants as lines
use Rattle.ch_model.specs.LinesTold.{Told, untold, told_after, is_declaration as is_declaration_told}
use Rattle.ch_model.specs.Lines.{Built, says_nothing, header, line_said, said_and_told, read_line}
use Rattle.ch_model.specs.Journal.{Scan, stopped, is_too_long, size_of, scan_from, scan_lines, longest_journal}
use Rattle.ch_model.specs.World.{is_declaration}
use Rattle.ch_laws_one_node.proofs.Scans.{after_read, scan_is}
use Rattle.ch_laws_one_node.proofs.Reading.{Gives, if_gives}
use Rattle.ch_laws_lines.specs.InOrder.{Happens, IsInOrder, DeclaresEarly}

-- what is told of declarations is of the same lines
same_declaration : (what : What) → is_declaration_told what ≡ is_declaration what
same_declaration (lines.Node name address unique) = refl
same_declaration (lines.Away name address unique) = refl
same_declaration (lines.Label node label) = refl
same_declaration (lines.Stranger name host) = refl
same_declaration what = refl

-- after an event line, one came
pub starts : (told : Told) (what : What) → is_declaration what ≡ false → (told_after told what).started ≡ true
starts told what h = by_test (is_declaration_told what) (same_declaration what ∙ h) where
  by_test : (b : Bool) → b ≡ false → (if b then record told { declarations = told.declarations ++ what ∷ [] } else record told { started = true }).started ≡ true
  by_test true e = cc
  by_test false e = refl

-- what reading a line tells, whatever the grammar
abbrev pub Tells : Told → Option What × Told → Type 0
Tells told (None, after) = after.started ≡ told.started
Tells told (Some what, after) = after ≡ told_after told what

pub reads_tell : (built : Built) (told : Told) (text : List ℕ) → Gives (Tells told) (read_line built told text)
reads_tell built told text = by_header told.header where
  by_said : (r : Result What BadKind) → Gives (Tells told) (said_and_told told r)
  by_said (Ok what) = record { given = refl }
  by_said (Err kind) = record { given = tt }

  by_header : (b : Bool) → Gives (Tells told) (if b then (if built.skips && says_nothing text then Ok (None, told) else said_and_told told (line_said built told text)) else (if bytes_eq text header then Ok (None, record told { header = true }) else Err Form))
  by_header true = if_gives (Tells told) (built.skips && says_nothing text) (Ok (None, told)) (said_and_told told (line_said built told text)) (record { given = refl }) (by_said (line_said built told text))
  by_header false = if_gives (Tells told) (bytes_eq text header) (Ok (None, record told { header = true })) (Err Form) (record { given = refl }) (record { given = tt })

-- once an event line came, each line is one
pub events_only : (built : Built) → DeclaresEarly built → (told : Told) → told.started ≡ true → (number room : ℕ) (raw : List (List ℕ × Bool)) → AllByRecursion Happens (scan_from built told number room raw).lines
events_only built early told started number room [] = tt
events_only built early told started number room (line ∷ raw) =
    subst (λ s. AllByRecursion Happens s.lines) (sym (scan_is built told number room line raw)) (by_long (is_too_long room line) (read_line built told line.0) refl (reads_tell built told line.0) (λ after is. events_only built early after is (number + 1) (room - size_of line) raw)) where
      after : Told → Scan
      after t = scan_from built t (number + 1) (room - size_of line) raw

      by_kind : (what : What) (t : Told) (b : Bool) → is_declaration what ≡ b → read_line built told line.0 ≡ Ok (Some what, t) → t ≡ told_after told what → ((t : Told) → t.started ≡ true → AllByRecursion Happens (after t).lines) → (is_declaration what ≡ false) × AllByRecursion Happens (after t).lines
      by_kind what t true h is tells rest = let early_is : told.started ≡ false = early told t line.0 what is h in absurd cc
      by_kind what t false h is tells rest = (h, rest t (ap (λ (x : Told). x.started) tells ∙ starts told what h))

      by_long : (b : Bool) (r : Result (Option What × Told) BadKind) → read_line built told line.0 ≡ r → Gives (Tells told) r → ((t : Told) → t.started ≡ true → AllByRecursion Happens (after t).lines) → AllByRecursion Happens (if b then stopped number TooLong else after_read built number (room - size_of line) raw r).lines
      by_long true r is tells rest = tt
      by_long false (Err kind) is tells rest = tt
      by_long false (Ok (None, t)) is tells rest = rest t (tells.given ∙ started)
      by_long false (Ok (Some what, t)) is tells rest = by_kind what t (is_declaration what) refl is tells.given rest

-- what is read after some line
pub lines_in_order : (built : Built) → DeclaresEarly built → (told : Told) (number room : ℕ) (raw : List (List ℕ × Bool)) → IsInOrder (scan_from built told number room raw).lines
lines_in_order built early told number room [] = record { declared = []; events = []; lines_are = refl; declare = tt; happen = tt }
lines_in_order built early told number room (line ∷ raw) =
    subst (λ s. IsInOrder s.lines) (sym (scan_is built told number room line raw)) (by_long (is_too_long room line) (read_line built told line.0) (reads_tell built told line.0) (λ after. lines_in_order built early after (number + 1) (room - size_of line) raw)) where
      after : Told → Scan
      after t = scan_from built t (number + 1) (room - size_of line) raw

      nothing : IsInOrder []
      nothing = record { declared = []; events = []; lines_are = refl; declare = tt; happen = tt }

      by_kind : (what : What) (t : Told) (b : Bool) → is_declaration what ≡ b → t ≡ told_after told what → IsInOrder (after t).lines → IsInOrder (record { number = number; what = what } ∷ (after t).lines)
      by_kind what t true h tells rest = record {
        declared = record { number = number; what = what } ∷ rest.declared;
        events = rest.events;
        lines_are = ap (λ lines. record { number = number; what = what } ∷ lines) rest.lines_are;
        declare = (h, rest.declare);
        happen = rest.happen;
      }
      by_kind what t false h tells rest = record {
        declared = [];
        events = record { number = number; what = what } ∷ (after t).lines;
        lines_are = refl;
        declare = tt;
        happen = (h, events_only built early t (ap (λ (x : Told). x.started) tells ∙ starts told what h) (number + 1) (room - size_of line) raw);
      }

      by_long : (b : Bool) (r : Result (Option What × Told) BadKind) → Gives (Tells told) r → ((t : Told) → IsInOrder (after t).lines) → IsInOrder (if b then stopped number TooLong else after_read built number (room - size_of line) raw r).lines
      by_long true r tells rest = nothing
      by_long false (Err kind) tells rest = nothing
      by_long false (Ok (None, t)) tells rest = rest t
      by_long false (Ok (Some what, t)) tells rest = by_kind what t (is_declaration what) refl tells.given (rest t)

pub all_in_order : (built : Built) → DeclaresEarly built → (raw : List (List ℕ × Bool)) → IsInOrder (scan_lines built raw).lines
all_in_order built early [] = record { declared = []; events = []; lines_are = refl; declare = tt; happen = tt }
all_in_order built early (line ∷ raw) = lines_in_order built early untold 1 longest_journal (line ∷ raw)
