-- The grammar of many nodes declares each name and each address once.
use Rattle.std.specs.Prelude.{◌≡◌, ℕ, ◌+◌, ◌-◌, Bool, true, false, ◌||◌, List, [], ◌∷◌, ◌++◌, find, Option, Some, None, Result, Ok, Err, if◌then◌else◌, cond}
use Rattle.std.specs.List.{list_any}
use Rattle.std.specs.Str.{bytes_eq}
use Rattle.std.proofs.Common.{refl, sym, ap, ◌∙◌, subst}
use Rattle.ch_base.specs.declared.address.Address.{Address}
use Rattle.ch_watch.specs.Same.{same_node}
use Rattle.ch_model.specs.declared.refusal.BadKind.{BadKind}
use Rattle.ch_model.specs.declared.refusal.LineFault.{LineFault}
use Rattle.ch_model.specs.declared.refusal.LineFault.TheVariants.{TooLong}
use Rattle.ch_model.specs.declared.line.Line.{Line}
use Rattle.ch_model.specs.declared.line.What.{What}
use Rattle.ch_model.specs.declared.line.What.TheVariants as lines
use Rattle.ch_model.specs.LinesTold.{Told, untold, told_after, declares_name, takes_address}
use Rattle.ch_model.specs.Lines.{read_line}
use Rattle.ch_model.specs.LinesBuilt.{many_nodes}
use Rattle.ch_model.specs.Journal.{Scan, stopped, is_too_long, size_of, scan_from, scan_lines, longest_journal}
use Rattle.ch_model.specs.Naming.{is_named}
use Rattle.ch_model.specs.World.{names_of}
use Rattle.ch_model.specs.WorldState.{Named}
use Rattle.ch_laws_one_node.specs.Places.{AreNumbered as AreNumberedBelow}
use Rattle.ch_laws_one_node.proofs.Reading.{Gives}
use Rattle.ch_laws_one_node.proofs.Scans.{after_read, scan_is}
use Rattle.ch_laws_lines.proofs.Order.{Tells, reads_tell}
use Rattle.ch_laws_log.specs.Declared.{AreApart}
use Rattle.ch_laws_log.specs.Lines.{AreNumbered}
use Rattle.ch_laws_log.proofs.Homes.{node_self}
use Rattle.ch_laws_log.proofs.Keys.{node_is}
use Rattle.ch_laws_many.specs.ManyLines.{AreNamedApart}
use Rattle.ch_laws_many.proofs.ReadLines.{Fits, ReadsFit, reads_fit}
use Rattle.ch_laws_many.proofs.AllLines.{known_of, append_nil, known_on, header_alone}

-- ---- one name more

-- no name has this one's address, or is this one
abbrev FarFrom : List Named → Named → Type 0
FarFrom [] new = Unit {0}
FarFrom (named ∷ rest) new = (same_node named.address new.address ≡ false) × (bytes_eq new.name named.name ≡ false) × FarFrom rest new

not_found : (p : Named → Bool) (xs : List Named) (new : Named) → find p xs ≡ None → p new ≡ false → find p (xs ++ new ∷ []) ≡ None
not_found p [] new e h = ap (λ b. cond b (Some new) None) h
not_found p (x ∷ xs) new e h = by_test (p x) e (λ f. not_found p xs new f h) where
  by_test : (b : Bool) → cond b (Some x) (find p xs) ≡ None → (find p xs ≡ None → find p (xs ++ new ∷ []) ≡ None) → cond b (Some x) (find p (xs ++ new ∷ [])) ≡ None
  by_test true e more = absurd cc
  by_test false e more = more e

apart_more : (xs : List Named) (new : Named) → AreApart xs → FarFrom xs new → AreApart (xs ++ new ∷ [])
apart_more [] new a f = (refl, tt)
apart_more (x ∷ xs) new a f = (not_found (λ (other : Named). same_node x.address other.address) xs new a.0 f.0, apart_more xs new a.1 f.2)

named_more : (xs : List Named) (new : Named) → AreNamedApart xs → FarFrom xs new → AreNamedApart (xs ++ new ∷ [])
named_more [] new a f = (refl, tt)
named_more (x ∷ xs) new a f = (not_found (is_named x.name) xs new a.0 f.1, named_more xs new a.1 f.2)

or_parts : (a b : Bool) → (a || b) ≡ false → (a ≡ false) × (b ≡ false)
or_parts true b h = absurd cc
or_parts false b h = (refl, h)

-- an address that is another's is not this one, the other way round
not_same : (a b : Address) → same_node b a ≡ false → same_node a b ≡ false
not_same a b h = by_test (same_node a b) refl where
  by_test : (x : Bool) → same_node a b ≡ x → x ≡ false
  by_test true e = let same : same_node b a ≡ true = subst (λ (c : Address). same_node c a ≡ true) (node_is a b e) (node_self a) in sym same ∙ h
  by_test false e = refl

far_of : (whats : List What) (name : List ℕ) (address : Address) (unique : ℕ) → list_any (declares_name name) whats ≡ false → list_any (takes_address address) whats ≡ false → FarFrom (known_of whats) (record { name = name; address = address; unique = unique; is_node = true })
far_of [] name address unique n a = tt
far_of (lines.Node own at number ∷ whats) name address unique n a =
    let names = or_parts (declares_name name (lines.Node own at number)) (list_any (declares_name name) whats) n in
    let places = or_parts (same_node address at) (list_any (takes_address address) whats) a in
    let node = or_parts (bytes_eq name own) false (or_parts (bytes_eq name own || false) false names.0).0 in
    (not_same at address places.0, node.0, far_of whats name address unique names.1 places.1)
far_of (lines.Away own at number ∷ whats) name address unique n a =
    let names = or_parts (bytes_eq name own || false) (list_any (declares_name name) whats) n in
    let places = or_parts (same_node address at) (list_any (takes_address address) whats) a in
    let node = or_parts (bytes_eq name own) false names.0 in
    (not_same at address places.0, node.0, far_of whats name address unique names.1 places.1)
far_of (lines.Stranger own host ∷ whats) name address unique n a =
    far_of whats name address unique (or_parts (bytes_eq name own) (list_any (declares_name name) whats) n).1 (or_parts (bytes_eq address.host host) (list_any (takes_address address) whats) a).1
far_of (what ∷ whats) name address unique n a = far_of whats name address unique n a

-- ---- the lines that are read

-- all names are apart
record AllApart (known : List Named) : Type 0 where
  places : AreApart known
  names : AreNamedApart known

apart_on : (told : Told) (what : What) → Fits told what → AllApart (known_of told.declarations) → AllApart (known_of (told_after told what).declarations)
apart_on told (lines.Node name address unique) f a = subst (λ (known : List Named). AllApart known) (sym is) (record { places = apart_more (known_of told.declarations) new a.places far; names = named_more (known_of told.declarations) new a.names far }) where
  new : Named
  new = record { name = name; address = address; unique = unique; is_node = true }

  far : FarFrom (known_of told.declarations) new
  far = far_of told.declarations name address unique f.0 f.1

  is : known_of (told.declarations ++ lines.Node name address unique ∷ []) ≡ known_of told.declarations ++ new ∷ []
  is = sym (append_nil (known_of (told.declarations ++ lines.Node name address unique ∷ []))) ∙ known_on told (lines.Node name address unique) [] f
apart_on told (lines.Proc node) f a = a
apart_on told (lines.Send by to mark body) f a = a
apart_on told (lines.Recv by mark) f a = a
apart_on told (lines.End by) f a = a
apart_on told (lines.Join sock) f a = a
apart_on told (lines.Come sock) f a = a
apart_on told (lines.Feed sock end count) f a = a
apart_on told what f a = absurd f

abbrev ApartAfter : Told → List Line → Type 0
ApartAfter told lines = AllApart (known_of told.declarations) → AllApart (known_of told.declarations ++ names_of lines)

lines_apart : (told : Told) (number room : ℕ) (raw : List (List ℕ × Bool)) → ApartAfter told (scan_from many_nodes told number room raw).lines
lines_apart told number room [] = λ a. subst (λ (known : List Named). AllApart known) (sym (append_nil (known_of told.declarations))) a
lines_apart told number room (line ∷ raw) =
    subst (λ s. ApartAfter told s.lines) (sym (scan_is many_nodes told number room line raw)) (by_long (is_too_long room line) (read_line many_nodes told line.0) refl (reads_tell many_nodes told line.0) (reads_fit told line.0) (λ t. lines_apart t (number + 1) (room - size_of line) raw)) where
      after : Told → Scan
      after t = scan_from many_nodes t (number + 1) (room - size_of line) raw

      nothing : ApartAfter told []
      nothing = λ a. subst (λ (known : List Named). AllApart known) (sym (append_nil (known_of told.declarations))) a

      one : (what : What) (t : Told) → Fits told what → t ≡ told_after told what → ApartAfter t (after t).lines → ApartAfter told (record { number = number; what = what } ∷ (after t).lines)
      one what t f e rest = λ a. subst (λ (known : List Named). AllApart known) (ap (λ (x : Told). known_of x.declarations ++ names_of (after t).lines) e ∙ known_on told what (names_of (after t).lines) f)
          (rest (subst (λ (x : Told). AllApart (known_of x.declarations)) (sym e) (apart_on told what f a)))

      none : (t : Told) → t.declarations ≡ told.declarations → ApartAfter t (after t).lines → ApartAfter told (after t).lines
      none t e rest = subst (λ (whats : List What). AllApart (known_of whats) → AllApart (known_of whats ++ names_of (after t).lines)) e rest

      by_long : (b : Bool) (r : Result (Option What × Told) BadKind) → read_line many_nodes told line.0 ≡ r → Gives (Tells told) r → Gives (ReadsFit told) r → ((t : Told) → ApartAfter t (after t).lines) → ApartAfter told (if b then stopped number TooLong else after_read many_nodes number (room - size_of line) raw r).lines
      by_long true r is tells fits rest = nothing
      by_long false (Err kind) is tells fits rest = nothing
      by_long false (Ok (None, t)) is tells fits rest = none t (header_alone told t line.0 is) (rest t)
      by_long false (Ok (Some what, t)) is tells fits rest = one what t fits.given tells.given (rest t)

nothing_known : AllApart []
nothing_known = record { places = tt; names = tt }

all_apart : (raw : List (List ℕ × Bool)) → AllApart (names_of (scan_lines many_nodes raw).lines)
all_apart [] = nothing_known
all_apart (line ∷ raw) = lines_apart untold 1 longest_journal (line ∷ raw) nothing_known

pub places_apart : (raw : List (List ℕ × Bool)) → AreApart (names_of (scan_lines many_nodes raw).lines)
places_apart raw = (all_apart raw).places

pub names_apart : (raw : List (List ℕ × Bool)) → AreNamedApart (names_of (scan_lines many_nodes raw).lines)
names_apart raw = (all_apart raw).names

-- numbers that end below a fault's rise
pub numbers_rise : (least : ℕ) (all : List Line) (fault : Option (ℕ × LineFault)) → AreNumberedBelow least all fault → AreNumbered least all
numbers_rise least [] fault a = tt
numbers_rise least (line ∷ rest) fault a = (a.0, numbers_rise (line.number + 1) rest fault a.1)
