-- A plain journal settles nowhere, takes no reference, and declares nodes alone.
use Rattle.std.proofs.Common.{◌≡◌, ℕ, Bool, true, false, cond, not, ◌||◌, List, [], ◌∷◌, refl, ap, ◌∙◌, ◌==◌}
use Rattle.std.proofs.lemmas.Bool.{and_parts}
use Rattle.std.specs.List.{list_all, list_any, filter_map, cons_option}
use Rattle.std.specs.Option.{option_map}
use Rattle.std.specs.Prelude.{find, Option, Some, None, is_some, slice_get, if◌then◌else◌}
use Rattle.std.specs.Str.{bytes_eq}
use Rattle.ch_model.specs.declared.entry.Entry.{Entry}
use Rattle.ch_model.specs.declared.entry.Entry.TheVariants as entries
use Rattle.ch_model.specs.declared.entry.Verdict.TheVariants as verdicts
use Rattle.ch_model.specs.declared.line.Line.{Line}
use Rattle.ch_model.specs.declared.line.What.{What}
use Rattle.ch_model.specs.declared.line.What.TheVariants as lines
use Rattle.ch_model.specs.declared.name.RefName.{RefName}
use Rattle.ch_model.specs.declared.name.SockName.{SockName}
use Rattle.ch_model.specs.declared.name.End.{End}
use Rattle.ch_model.specs.declared.name.End.TheVariants.{O, T}
use Rattle.ch_model.specs.AccountsBytes.{is_node_end}
use Rattle.ch_model.specs.Declarations.{Peer, declared_by, peer, is_node, declares_stranger, is_stranger}
use Rattle.ch_model.specs.Logs.{or_else, last_of, some_and}
use Rattle.ch_model.specs.Marks.{line_numbered, done_by, does, mark_of, is_settle, in_settle, takes_of_node, taking, line_of_reference}
use Rattle.ch_laws_plain_logs.specs.Plain.{is_plain_line, HasPlainLines}

-- no plain line passes the test
abbrev pub NoLinePasses : (What → Bool) → Type 0
NoLinePasses test = (what : What) → is_plain_line what ≡ true → test what ≡ false

-- no line of the journal, of whichever number, passes what no plain line does
pub none_numbered : (test : What → Bool) → NoLinePasses test → (journal : List Line) → HasPlainLines journal → (number : ℕ) → some_and test (line_numbered journal number) ≡ false
none_numbered test fails [] plain number = refl
none_numbered test fails (line ∷ rest) plain number =
    let parts = and_parts (is_plain_line line.what) (list_all (λ (l : Line). is_plain_line l.what) rest) plain in
    by_test (line.number == number) (fails line.what parts.0) (none_numbered test fails rest parts.1 number)
  where
    by_test : (b : Bool) → test line.what ≡ false → some_and test (line_numbered rest number) ≡ false → some_and test (option_map (λ (l : Line). l.what) (cond b (Some line) (find (λ (l : Line). l.number == number) rest))) ≡ false
    by_test true here more = here
    by_test false here more = more

-- no line that is done does
pub none_does : (test : What → Bool) → NoLinePasses test → (journal : List Line) → HasPlainLines journal → (entry : Entry) → does journal test entry ≡ false
none_does test fails journal plain (entries.Line number verdicts.Ok) = none_numbered test fails journal plain number
none_does test fails journal plain (entries.Line number verdicts.Unknown) = refl
none_does test fails journal plain (entries.Line number answer) = refl
none_does test fails journal plain (entries.Fed sock end count) = refl
none_does test fails journal plain entry = refl

-- no plain line settles
pub no_settles : NoLinePasses is_settle
no_settles lines.Settle e = absurd cc
no_settles what e = refl

-- nothing stands in a settle
pub never_in_settle : (journal : List Line) (log : List Entry) → HasPlainLines journal → in_settle journal log ≡ false
never_in_settle journal log plain = by_mark (last_of mark_of log) where
  by_mark : (o : Option Entry) → some_and is_settle (elim o as (λ o. Option What) [
    | None ↦ None
    | Some mark ↦ done_by journal mark
  ]) ≡ false
  by_mark None = refl
  by_mark (Some mark) = none_does is_settle no_settles journal plain mark

-- ---- what is declared

-- no line of the journal passes what no plain line does
pub none_declares : (test : What → Bool) → NoLinePasses test → (journal : List Line) → HasPlainLines journal → list_any (λ (line : Line). test line.what) journal ≡ false
none_declares test fails [] plain = refl
none_declares test fails (line ∷ rest) plain =
    let parts = and_parts (is_plain_line line.what) (list_all (λ (l : Line). is_plain_line l.what) rest) plain in
    ap (λ b. b || list_any (λ (l : Line). test l.what) rest) (fails line.what parts.0) ∙ none_declares test fails rest parts.1

no_strangers : (x : List ℕ) → NoLinePasses (declares_stranger x)
no_strangers x (lines.Stranger name host) e = absurd cc
no_strangers x what e = refl

-- there is no stranger
pub none_strange : (journal : List Line) (x : List ℕ) → HasPlainLines journal → is_stranger journal x ≡ false
none_strange journal x plain = none_declares (declares_stranger x) (no_strangers x) journal plain

-- each end is a node's
pub ends_of_nodes : (journal : List Line) (sock : SockName) (end : End) → HasPlainLines journal → is_node_end journal sock end ≡ true
ends_of_nodes journal sock O plain = ap not (none_strange journal sock.from plain)
ends_of_nodes journal sock T plain = refl

-- each name that is declared is a node's
pub names_are_nodes : (journal : List Line) (x : List ℕ) → HasPlainLines journal → is_node journal x ≡ is_some (peer journal x)
names_are_nodes [] x plain = refl
names_are_nodes (line ∷ rest) x plain =
    let parts = and_parts (is_plain_line line.what) (list_all (λ (l : Line). is_plain_line l.what) rest) plain in
    one line.what parts.0 (names_are_nodes rest x parts.1)
  where
    Alike : Option Peer → Type 0
    Alike o = some_and (λ (p : Peer). p.is_node) o ≡ is_some o

    one : (what : What) → is_plain_line what ≡ true → Alike (peer rest x) → Alike (or_else (declared_by x what) (peer rest x))
    one (lines.Node name address unique) e more = by_test (bytes_eq name x) more where
      by_test : (b : Bool) → Alike (peer rest x) → Alike (or_else (if b then Some (record { address = address; unique = unique; is_node = true }) else None) (peer rest x))
      by_test true more = refl
      by_test false more = more
    one (lines.Away name address unique) e more = absurd cc
    one what e more = more

-- ---- references

no_takes : (x : List ℕ) → NoLinePasses (takes_of_node x)
no_takes x (lines.Monitor by target) e = absurd cc
no_takes x (lines.Link by target) e = absurd cc
no_takes x (lines.Spawn by at label args) e = absurd cc
no_takes x (lines.Whereis by at name) e = absurd cc
no_takes x what e = refl

-- no line takes a reference
pub none_taken : (journal : List Line) (log : List Entry) (m : RefName) → HasPlainLines journal → line_of_reference journal log m ≡ None
none_taken journal log m plain = ap (λ (whats : List What). slice_get whats m.number) (none_taking log) where
  by_done : (o : Option What) → some_and (takes_of_node m.node) o ≡ false → elim o as (λ o. Option What) [
    | None ↦ None
    | Some what ↦ if takes_of_node m.node what then Some what else None
  ] ≡ None
  by_done None e = refl
  by_done (Some what) e = ap (λ b. if b then Some what else None) e

  none_taking : (log : List Entry) → filter_map (taking journal m.node) log ≡ []
  none_taking [] = refl
  none_taking (entry ∷ log) = ap (λ o. cons_option o (filter_map (taking journal m.node) log)) (by_done (done_by journal entry) (none_does (takes_of_node m.node) (no_takes m.node) journal plain entry)) ∙ none_taking log
