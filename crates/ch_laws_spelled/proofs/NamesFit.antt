-- What a journal's names stand for: ids that may be spelled, and those that its declarations give.
use Rattle.std.specs.Prelude.{◌≡◌, ℕ, ◌<◌, ◌^◌, Bool, true, false, cond, List, [], ◌∷◌, find, is_some, Option, Some, None}
use Rattle.std.specs.Option.{option_map}
use Rattle.std.specs.List.{AllByRecursion}
use Rattle.std.specs.Str.{bytes_eq}
use Rattle.std.proofs.Common.{refl, ◌∙◌}
use Rattle.ch_base.specs.Addresses.{IsAddress}
use Rattle.ch_base.specs.declared.address.Address.{Address}
use Rattle.ch_ident.specs.declared.identifier.ProcessId.{ProcessId}
use Rattle.ch_model.specs.declared.line.Line.{Line}
use Rattle.ch_model.specs.declared.line.What.{What}
use Rattle.ch_model.specs.declared.line.What.TheVariants as lines
use Rattle.ch_model.specs.declared.name.ProcName.{ProcName}
use Rattle.ch_model.specs.Declarations.{Peer, peer, process_id}
use Rattle.ch_model.specs.Logs.{or_else}
use Rattle.ch_model.specs.Naming.{is_named, or_nobody, process_as}
use Rattle.ch_model.specs.World.{names_of}
use Rattle.ch_model.specs.WorldState.{Named}
use Rattle.ch_laws_log.specs.Declared.{is_declared}
use Rattle.ch_laws_spelled.specs.Spelled.{IsSpelled}
use Rattle.ch_laws_spelled.specs.Sayings.{HasId}
use Rattle.ch_laws_spelled.proofs.ReadLines.{Has, AllHave}

-- the name stands for an address that may be spelled and a number of four bytes
abbrev pub Fits : Named → Type 0
Fits named = IsAddress named.address × (named.unique < 2 ^ 32)

pub names_fit : (journal : List Line) → AllHave journal → AllByRecursion Fits (names_of journal)
names_fit [] have = tt
names_fit (line ∷ rest) have = by_line line.what have.0 (names_fit rest have.1) where
  by_line : (what : What) → Has what → AllByRecursion Fits (names_of rest) → AllByRecursion Fits (names_of (record { number = line.number; what = what } ∷ rest))
  by_line (lines.Node name address unique) has more = (has, more)
  by_line (lines.Away name address unique) has more = (has, more)
  by_line what has more = more

named_fits : (known : List Named) (name : List ℕ) → AllByRecursion Fits known → is_declared known name ≡ true → Fits (or_nobody (find (is_named name) known))
named_fits [] name all declared = absurd cc
named_fits (named ∷ rest) name all declared = by_test (bytes_eq named.name name) declared (named_fits rest name all.1) where
  by_test : (b : Bool) → is_some (cond b (Some named) (find (is_named name) rest)) ≡ true → (is_some (find (is_named name) rest) ≡ true → Fits (or_nobody (find (is_named name) rest))) → Fits (or_nobody (cond b (Some named) (find (is_named name) rest)))
  by_test true declared more = all.0
  by_test false declared more = more declared

-- a process of a declared node, under a number of four bytes
pub is_spelled : (known : List Named) (p : ProcName) → AllByRecursion Fits known → is_declared known p.node ≡ true → p.counter < 2 ^ 32 → IsSpelled known p
is_spelled known p all declared small = let fits = named_fits known p.node all declared in record {
  declared = declared;
  fits = (fits.0, fits.1, small);
}

-- ---- the id that the declarations give

abbrev by_peer : ℕ → Peer → ProcessId
by_peer counter at = record { node = at.address; unique = at.unique; counter = counter }

abbrev by_name : ℕ → Named → ProcessId
by_name counter named = record { node = named.address; unique = named.unique; counter = counter }

id_found : (journal : List Line) (name : List ℕ) (counter : ℕ) → option_map (by_peer counter) (peer journal name) ≡ option_map (by_name counter) (find (is_named name) (names_of journal))
id_found [] name counter = refl
id_found (line ∷ rest) name counter = by_line line.what (id_found rest name counter) where
  More : Type 0
  More = option_map (by_peer counter) (peer rest name) ≡ option_map (by_name counter) (find (is_named name) (names_of rest))

  by_test : (own : List ℕ) (address : Address) (unique : ℕ) (node : Bool) → More → (b : Bool)
      → option_map (by_peer counter) (or_else (cond {A = Option Peer} b (Some (record { address = address; unique = unique; is_node = node })) None) (peer rest name)) ≡ option_map (by_name counter) (cond {A = Option Named} b (Some (record { name = own; address = address; unique = unique; is_node = node })) (find (is_named name) (names_of rest)))
  by_test own address unique node more true = refl
  by_test own address unique node more false = more

  by_line : (what : What) → More → option_map (by_peer counter) (peer (record { number = line.number; what = what } ∷ rest) name) ≡ option_map (by_name counter) (find (is_named name) (names_of (record { number = line.number; what = what } ∷ rest)))
  by_line (lines.Node own address unique) more = by_test own address unique true more (bytes_eq own name)
  by_line (lines.Away own address unique) more = by_test own address unique false more (bytes_eq own name)
  by_line what more = more

-- of a declared node it is the one that the name stands for
pub id_named : (journal : List Line) (p : ProcName) → is_declared (names_of journal) p.node ≡ true → process_id journal p ≡ Some (process_as (names_of journal) p)
id_named journal p declared = id_found journal p.node p.counter ∙ by_found (find (is_named p.node) (names_of journal)) declared where
  by_found : (o : Option Named) → is_some o ≡ true → option_map (by_name p.counter) o ≡ Some (by_name p.counter (or_nobody o))
  by_found None declared = absurd cc
  by_found (Some named) declared = refl

pub has_id : (journal : List Line) (p : ProcName) → IsSpelled (names_of journal) p → HasId journal p
has_id journal p is = record {
  id = process_as (names_of journal) p;
  is = id_named journal p is.declared;
  named = refl;
  fits = is.fits;
}
