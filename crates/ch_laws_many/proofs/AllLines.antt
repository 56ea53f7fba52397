-- All lines that the grammar of many nodes reads name what is declared, and declare each name and each address once.
use Rattle.std.specs.Prelude.{◌≡◌, ℕ, ◌+◌, ◌-◌, Bool, true, false, ◌&&◌, ◌||◌, List, [], ◌∷◌, ◌++◌, find, is_some, Option, Some, None, Result, Ok, Err, nat_lt, if◌then◌else◌, cond}
use Rattle.std.specs.List.{list_any, flat_map}
use Rattle.std.specs.Str.{bytes_eq}
use Rattle.std.proofs.Common.{refl, sym, ap, ◌∙◌, subst}
use Rattle.std.proofs.lemmas.Slice.Eq.{bytes_eq-Decides}
use Rattle.ch_base.specs.declared.address.Address.{Address}
use Rattle.ch_model.specs.declared.refusal.BadKind.{BadKind}
use Rattle.ch_model.specs.declared.refusal.LineFault.TheVariants.{TooLong}
use Rattle.ch_model.specs.declared.line.Line.{Line}
use Rattle.ch_model.specs.declared.line.What.{What}
use Rattle.ch_model.specs.declared.line.What.TheVariants as lines
use Rattle.ch_model.specs.declared.name.SockName.{SockName}
use Rattle.ch_model.specs.declared.name.TargetName.TheVariants as targets
use Rattle.ch_model.specs.LinesTold.{Told, untold, told_after, declares_node, declares_away, declares_stranger}
use Rattle.ch_model.specs.declared.refusal.BadKind.TheVariants.{Form}
use Rattle.ch_model.specs.Lines.{line_said, said_and_told, read_line, header}
use Rattle.ch_model.specs.LinesBuilt.{many_nodes}
use Rattle.ch_model.specs.Journal.{Scan, stopped, is_too_long, size_of, scan_from, scan_lines, longest_journal}
use Rattle.ch_model.specs.Naming.{is_named}
use Rattle.ch_model.specs.World.{name_in, names_of}
use Rattle.ch_model.specs.WorldState.{Named}
use Rattle.ch_laws_one_node.proofs.Reading.{Gives}
use Rattle.ch_laws_one_node.proofs.Scans.{after_read, scan_is}
use Rattle.ch_laws_lines.proofs.Order.{Tells, reads_tell}
use Rattle.ch_laws_log.specs.Declared.{is_declared}
use Rattle.ch_laws_log.specs.Lines.{AllLines}
use Rattle.ch_laws_many.specs.ManyLines.{is_of_many}
use Rattle.ch_laws_many.proofs.ReadLines.{MayBe, Fits, ReadsFit, reads_fit}

-- ---- what was declared

-- the names that these declarations declare
abbrev pub known_of : List What → List Named
known_of whats = flat_map name_in whats

append_assoc : {A : Type 0} (xs ys zs : List A) → (xs ++ ys) ++ zs ≡ xs ++ (ys ++ zs)
append_assoc [] ys zs = refl
append_assoc (x ∷ xs) ys zs = ap (λ l. x ∷ l) (append_assoc xs ys zs)

pub append_nil : {A : Type 0} (xs : List A) → xs ++ [] ≡ xs
append_nil [] = refl
append_nil (x ∷ xs) = ap (λ l. x ∷ l) (append_nil xs)

known_append : (xs ys : List What) → known_of (xs ++ ys) ≡ known_of xs ++ known_of ys
known_append [] ys = refl
known_append (x ∷ xs) ys = ap (λ l. name_in x ++ l) (known_append xs ys) ∙ sym (append_assoc (name_in x) (known_of xs) (known_of ys))

-- one declaration more, before those of the lines that follow
known_more : (whats : List What) (what : What) (more : List Named) → known_of (whats ++ what ∷ []) ++ more ≡ known_of whats ++ (name_in what ++ more)
known_more whats what more =
    ap (λ l. l ++ more) (known_append whats (what ∷ []) ∙ ap (λ l. known_of whats ++ l) (append_nil (name_in what))) ∙ append_assoc (known_of whats) (name_in what) more

same_text : (a b : List ℕ) → bytes_eq a b ≡ true → bytes_eq b a ≡ true
same_text a b h = (bytes_eq-Decides b a).1 (sym ((bytes_eq-Decides a b).0 h))

-- a node that was declared is found among the names, whatever follows
found_or : (b : Bool) (named : Named) (o : Option Named) → is_some o ≡ true → is_some (cond b (Some named) o) ≡ true
found_or true named o h = refl
found_or false named o h = h

found_first : (b : Bool) (named : Named) (o : Option Named) → b ≡ true → is_some (cond b (Some named) o) ≡ true
found_first true named o h = refl
found_first false named o h = cc

declared_front : (name : List ℕ) (whats : List What) (more : List Named) → list_any (declares_node name) whats ≡ true → is_declared (known_of whats ++ more) name ≡ true
declared_front name [] more h = cc
declared_front name (lines.Node own address unique ∷ whats) more h = by_test (bytes_eq name own) refl h (declared_front name whats more) where
  named : Named
  named = record { name = own; address = address; unique = unique; is_node = true }

  by_test : (b : Bool) → bytes_eq name own ≡ b → (b || list_any (declares_node name) whats) ≡ true → (list_any (declares_node name) whats ≡ true → is_declared (known_of whats ++ more) name ≡ true)
      → is_some (cond (bytes_eq own name) (Some named) (find (is_named name) (known_of whats ++ more))) ≡ true
  by_test true e h rest = found_first (bytes_eq own name) named (find (is_named name) (known_of whats ++ more)) (same_text name own e)
  by_test false e h rest = found_or (bytes_eq own name) named (find (is_named name) (known_of whats ++ more)) (rest h)
declared_front name (lines.Away own address unique ∷ whats) more h = found_or (bytes_eq own name) (record { name = own; address = address; unique = unique; is_node = false }) (find (is_named name) (known_of whats ++ more)) (declared_front name whats more h)
declared_front name (what ∷ whats) more h = declared_front name whats more h

-- ---- the lines that are read

-- a line that says nothing declares nothing
pub header_alone : (told after : Told) (text : List ℕ) → read_line many_nodes told text ≡ Ok (None, after) → after.declarations ≡ told.declarations
header_alone told after text e = by_header told.header refl e where
  by_said : (r : Result What BadKind) → said_and_told told r ≡ Ok (None, after) → after.declarations ≡ told.declarations
  by_said (Ok what) e = let k : ◌≡◌ {A = Option What × Told} (Some what, told_after told what) (None, after) = cc in let n : ◌≡◌ {A = Option What} (Some what) None = ap (λ (p : Option What × Told). p.0) k in absurd cc
  by_said (Err kind) e = absurd cc

  by_first : (b : Bool) → ◌≡◌ {A = Result (Option What × Told) BadKind} (if b then Ok (None, record told { header = true }) else Err Form) (Ok (None, after)) → after.declarations ≡ told.declarations
  by_first true e = let k : ◌≡◌ {A = Option What × Told} (None, record told { header = true }) (None, after) = cc in ap (λ (p : Option What × Told). p.1.declarations) (sym k)
  by_first false e = absurd cc

  by_header : (b : Bool) → told.header ≡ b → (if b then said_and_told told (line_said many_nodes told text) else (if bytes_eq text header then Ok (None, record told { header = true }) else Err Form)) ≡ Ok (None, after) → after.declarations ≡ told.declarations
  by_header true h e = by_said (line_said many_nodes told text) e
  by_header false h e = by_first (bytes_eq text header) e

-- nodes alone were declared
abbrev pub AreNodes : List What → Type 0
AreNodes [] = Unit {0}
AreNodes (lines.Node name address unique ∷ whats) = AreNodes whats
AreNodes (what ∷ whats) = ⊥

opens_as_node : (name : List ℕ) (whats : List What) → AreNodes whats → list_any (λ what. declares_node name what || declares_stranger name what) whats ≡ list_any (declares_node name) whats
opens_as_node name [] nodes = refl
opens_as_node name (lines.Node own address unique ∷ whats) nodes = by_test (bytes_eq name own) (opens_as_node name whats nodes) where
  by_test : (b : Bool) → list_any (λ what. declares_node name what || declares_stranger name what) whats ≡ list_any (declares_node name) whats → ((b || false) || list_any (λ what. declares_node name what || declares_stranger name what) whats) ≡ (b || list_any (declares_node name) whats)
  by_test true h = refl
  by_test false h = h
opens_as_node name (what ∷ whats) nodes = absurd nodes

heard_as_node : (name : List ℕ) (whats : List What) → AreNodes whats → list_any (λ what. declares_node name what || declares_away name what) whats ≡ list_any (declares_node name) whats
heard_as_node name [] nodes = refl
heard_as_node name (lines.Node own address unique ∷ whats) nodes = by_test (bytes_eq name own) (heard_as_node name whats nodes) where
  by_test : (b : Bool) → list_any (λ what. declares_node name what || declares_away name what) whats ≡ list_any (declares_node name) whats → ((b || false) || list_any (λ what. declares_node name what || declares_away name what) whats) ≡ (b || list_any (declares_node name) whats)
  by_test true h = refl
  by_test false h = h
heard_as_node name (what ∷ whats) nodes = absurd nodes

nodes_more : (whats : List What) (name : List ℕ) (address : Address) (unique : ℕ) → AreNodes whats → AreNodes (whats ++ lines.Node name address unique ∷ [])
nodes_more [] name address unique nodes = tt
nodes_more (lines.Node own at number ∷ whats) name address unique nodes = nodes_more whats name address unique nodes
nodes_more (what ∷ whats) name address unique nodes = absurd nodes

-- what fits declares nodes alone
nodes_on : (told : Told) (what : What) → Fits told what → AreNodes told.declarations → AreNodes (told_after told what).declarations
nodes_on told (lines.Node name address unique) f nodes = nodes_more told.declarations name address unique nodes
nodes_on told (lines.Proc node) f nodes = nodes
nodes_on told (lines.Send by to mark body) f nodes = nodes
nodes_on told (lines.Recv by mark) f nodes = nodes
nodes_on told (lines.End by) f nodes = nodes
nodes_on told (lines.Join sock) f nodes = nodes
nodes_on told (lines.Come sock) f nodes = nodes
nodes_on told (lines.Feed sock end count) f nodes = nodes
nodes_on told what f nodes = absurd f

both : (a b : Bool) → a ≡ true → b ≡ true → (a && b) ≡ true
both true true p q = refl
both true false p q = q
both false b p q = p

-- a socket's names are declared
socket_known : (told : Told) (sock : SockName) (more : List Named) → AreNodes told.declarations → MayBe told sock → (is_declared (known_of told.declarations ++ more) sock.from && is_declared (known_of told.declarations ++ more) sock.to) ≡ true
socket_known told sock more nodes f = both (is_declared (known_of told.declarations ++ more) sock.from) (is_declared (known_of told.declarations ++ more) sock.to)
    (declared_front sock.from told.declarations more (sym (opens_as_node sock.from told.declarations nodes) ∙ f.0))
    (declared_front sock.to told.declarations more (sym (heard_as_node sock.to told.declarations nodes) ∙ f.1))

-- what fits names what is declared, whatever is declared later
fits_known : (told : Told) (what : What) (more : List Named) → AreNodes told.declarations → Fits told what → is_of_many (known_of told.declarations ++ more) what ≡ true
fits_known told (lines.Node name address unique) more nodes f = f.2
fits_known told (lines.Proc node) more nodes f = declared_front node told.declarations more f
fits_known told (lines.Send by (targets.Process to) mark body) more nodes f = both (is_declared (known_of told.declarations ++ more) by.node) (is_declared (known_of told.declarations ++ more) to.node) (declared_front by.node told.declarations more f.0) (declared_front to.node told.declarations more f.1)
fits_known told (lines.Recv by mark) more nodes f = declared_front by.node told.declarations more f
fits_known told (lines.End by) more nodes f = declared_front by.node told.declarations more f
fits_known told (lines.Join sock) more nodes f = socket_known told sock more nodes f
fits_known told (lines.Come sock) more nodes f = socket_known told sock more nodes f
fits_known told (lines.Feed sock end count) more nodes f = both (is_declared (known_of told.declarations ++ more) sock.from && is_declared (known_of told.declarations ++ more) sock.to) (nat_lt 0 count) (socket_known told sock more nodes f.0) f.1
fits_known told what more nodes f = absurd f

-- what is known after a line, before what follows, is what was known before it with what the line declares
pub known_on : (told : Told) (what : What) (more : List Named) → Fits told what → known_of (told_after told what).declarations ++ more ≡ known_of told.declarations ++ (name_in what ++ more)
known_on told (lines.Node name address unique) more f = known_more told.declarations (lines.Node name address unique) more
known_on told (lines.Proc node) more f = refl
known_on told (lines.Send by to mark body) more f = refl
known_on told (lines.Recv by mark) more f = refl
known_on told (lines.End by) more f = refl
known_on told (lines.Join sock) more f = refl
known_on told (lines.Come sock) more f = refl
known_on told (lines.Feed sock end count) more f = refl
known_on told what more f = absurd f

-- Each line fits what is declared before it and among the lines.
abbrev AllKnown : Told → List Line → Type 0
AllKnown told lines = AllLines (is_of_many (known_of told.declarations ++ names_of lines)) lines

lines_known : (told : Told) → AreNodes told.declarations → (number room : ℕ) (raw : List (List ℕ × Bool)) → AllKnown told (scan_from many_nodes told number room raw).lines
lines_known told nodes number room [] = tt
lines_known told nodes number room (line ∷ raw) =
    subst (λ s. AllKnown told s.lines) (sym (scan_is many_nodes told number room line raw)) (by_long (is_too_long room line) (read_line many_nodes told line.0) refl (reads_tell many_nodes told line.0) (reads_fit told line.0) (λ t n. lines_known t n (number + 1) (room - size_of line) raw)) where
      after : Told → Scan
      after t = scan_from many_nodes t (number + 1) (room - size_of line) raw

      one : (what : What) (t : Told) → Fits told what → t ≡ told_after told what → (AreNodes t.declarations → AllKnown t (after t).lines) → AllKnown told (record { number = number; what = what } ∷ (after t).lines)
      one what t f e rest = (fits_known told what (name_in what ++ names_of (after t).lines) nodes f, subst (λ (known : List Named). AllLines (is_of_many known) (after t).lines) (ap (λ (x : Told). known_of x.declarations ++ names_of (after t).lines) e ∙ known_on told what (names_of (after t).lines) f) (rest (subst (λ (x : Told). AreNodes x.declarations) (sym e) (nodes_on told what f nodes))))

      none : (t : Told) → t.declarations ≡ told.declarations → (AreNodes t.declarations → AllKnown t (after t).lines) → AllKnown told (after t).lines
      none t e rest = subst (λ (whats : List What). AllLines (is_of_many (known_of whats ++ names_of (after t).lines)) (after t).lines) e (rest (subst AreNodes (sym e) nodes))

      by_long : (b : Bool) (r : Result (Option What × Told) BadKind) → read_line many_nodes told line.0 ≡ r → Gives (Tells told) r → Gives (ReadsFit told) r → ((t : Told) → AreNodes t.declarations → AllKnown t (after t).lines) → AllKnown told (if b then stopped number TooLong else after_read many_nodes number (room - size_of line) raw r).lines
      by_long true r is tells fits rest = tt
      by_long false (Err kind) is tells fits rest = tt
      by_long false (Ok (None, t)) is tells fits rest = none t (header_alone told t line.0 is) (rest t)
      by_long false (Ok (Some what, t)) is tells fits rest = one what t fits.given tells.given (rest t)

pub all_known : (raw : List (List ℕ × Bool)) → AllLines (is_of_many (names_of (scan_lines many_nodes raw).lines)) (scan_lines many_nodes raw).lines
all_known [] = tt
all_known (line ∷ raw) = lines_known untold tt 1 longest_journal (line ∷ raw)
