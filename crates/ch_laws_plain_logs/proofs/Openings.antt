-- Where no payload that is written opens a connection from node to node, none is there, and no message from node to node.
use Rattle.std.proofs.Common.{◌≡◌, ℕ, Bool, true, false, cond, not, ◌&&◌, ◌||◌, List, [], ◌∷◌, ◌++◌, length, refl, sym, ap, ◌∙◌, subst, append_assoc, ◌==◌}
use Rattle.std.proofs.lemmas.Bool.{and_parts, eqb-true}
use Rattle.std.proofs.Math.Dec.{eqb-suc-zero}
use Rattle.std.proofs.lemmas.List.{append-nil}
use Rattle.std.proofs.lemmas.List.Elements.{filter_map-append}
use Rattle.std.proofs.lemmas.List.Folds.{find-append}
use Rattle.std.proofs.lemmas.Slice.Eq.{bytes_eq-Decides}
use Rattle.std.specs.List.{cons_option}
use Rattle.std.specs.Option.{option_map, option_or}
use Rattle.std.specs.Prelude.{drop, filter_map, find, Option, Some, None, is_some, if◌then◌else◌}
use Rattle.std.specs.Str.{bytes_eq}
use Rattle.ch_wire.specs.declared.frame.Frame.{Frame}
use Rattle.ch_model.specs.declared.entry.Entry.{Entry}
use Rattle.ch_model.specs.declared.entry.Entry.TheVariants as entries
use Rattle.ch_model.specs.declared.line.Line.{Line}
use Rattle.ch_model.specs.declared.name.SockName.{SockName}
use Rattle.ch_model.specs.declared.name.End.{End}
use Rattle.ch_model.specs.declared.name.End.TheVariants.{O, T}
use Rattle.ch_model.specs.AccountsCauses.{is_caused, is_caused_data, writes_caused}
use Rattle.ch_model.specs.AccountsFrames.{data_written}
use Rattle.ch_model.specs.AccountsItems.{frame_of, data_of, first_payload, opens_nodes}
use Rattle.ch_model.specs.Logs.{each, each_after, some_and, none_or}
use Rattle.ch_model.specs.Same.{same_socket, same_end, owner, across}
use Rattle.ch_model.specs.Sockets.{writing, writings}
use Rattle.ch_laws_plain_logs.specs.Plain.{writes_no_nodes, WritesNoNodes, HasNoNodePayloads}
use Rattle.ch_laws_plain_logs.proofs.Plain.{both_true}

-- ---- names and ends that are one

same_is : (s t : SockName) → same_socket s t ≡ true → s ≡ t
same_is s t e =
    let one = and_parts (bytes_eq s.from t.from && bytes_eq s.to t.to) (s.number == t.number) e in
    let two = and_parts (bytes_eq s.from t.from) (bytes_eq s.to t.to) one.0 in
    ap (λ (f : List ℕ). made f s.to s.number) ((bytes_eq-Decides s.from t.from).0 two.0)
    ∙ ap (λ (f : List ℕ). made t.from f s.number) ((bytes_eq-Decides s.to t.to).0 two.1)
    ∙ ap (λ n. made t.from t.to n) (eqb-true s.number t.number one.1)
  where
    made : List ℕ → List ℕ → ℕ → SockName
    made from to number = record { from = from; to = to; number = number }

end_is : (a b : End) → same_end a b ≡ true → a ≡ b
end_is O O e = refl
end_is T T e = refl
end_is O T e = absurd cc
end_is T O e = absurd cc

-- ---- one more payload

abbrev Data : Type 0
Data = ℕ × List ℕ

abbrev payload : Data → List ℕ
payload d = d.1

is_false : (a b : Bool) → a ≡ false → (a || not b) ≡ true → b ≡ false
is_false true b h o = absurd cc
is_false false true h o = absurd cc
is_false false false h o = refl

second : (a b : Bool) → a ≡ false → (a || b) ≡ true → b ≡ true
second true b h o = absurd cc
second false b h o = o

-- where no first payload passes the test, and one more doesn't, if it is the first under its id, none passes
first_more : (test : List ℕ → Bool) (id : ℕ) (ds : List Data) (o : Option Data) → some_and test (first_payload id ds) ≡ false → none_or (λ (d : Data). is_some (first_payload d.0 ds) || not (test d.1)) o ≡ true → some_and test (first_payload id (ds ++ cons_option o [])) ≡ false
first_more test id ds None clean ok = subst (λ (l : List Data). some_and test (first_payload id l) ≡ false) (sym (append-nil ds)) clean
first_more test id ds (Some d) clean ok = ap (λ (o : Option Data). some_and test (option_map payload o)) (find-append (λ (c : Data). c.0 == id) ds (d ∷ [])) ∙ by_found (find (λ (c : Data). c.0 == id) ds) refl clean
  where
    by_found : (f : Option Data) → find (λ (c : Data). c.0 == id) ds ≡ f → some_and test (option_map payload f) ≡ false → some_and test (option_map payload (option_or f (find (λ (c : Data). c.0 == id) (d ∷ [])))) ≡ false
    by_found (Some c) is clean = clean
    by_found None is clean = by_same (d.0 == id) refl
      where
        by_same : (b : Bool) → (d.0 == id) ≡ b → some_and test (option_map payload (cond b (Some d) None)) ≡ false
        by_same false s = refl
        by_same true s = is_false (is_some (first_payload d.0 ds)) (test d.1) (ap (λ (n : ℕ). is_some (first_payload n ds)) (eqb-true d.0 id s) ∙ ap (λ (o : Option Data). is_some (option_map payload o)) is) ok

-- ---- one more writing

-- the payloads of all but the first of these writings
abbrev payloads : List (List ℕ) → List Data
payloads pieces = filter_map data_of (filter_map frame_of (drop 1 pieces))

one_payload : (log : List Entry) (sock : SockName) (end : End) (bytes : List ℕ) → filter_map data_of (filter_map frame_of (bytes ∷ [])) ≡ cons_option (data_written log sock end bytes) []
one_payload log sock end bytes = by_frame (frame_of bytes) where
  by_frame : (o : Option Frame) → filter_map data_of (cons_option o []) ≡ cons_option (elim o as (λ o. Option Data) [
    | None ↦ None
    | Some frame ↦ data_of frame
  ]) []
  by_frame None = refl
  by_frame (Some frame) = refl

more_payloads : (log : List Entry) (sock : SockName) (end : End) (pieces : List (List ℕ)) (bytes : List ℕ) → filter_map data_of (filter_map frame_of (pieces ++ bytes ∷ [])) ≡ filter_map data_of (filter_map frame_of pieces) ++ cons_option (data_written log sock end bytes) []
more_payloads log sock end pieces bytes =
    ap (filter_map data_of) (filter_map-append frame_of pieces (bytes ∷ []))
    ∙ filter_map-append data_of (filter_map frame_of pieces) (filter_map frame_of (bytes ∷ []))
    ∙ ap (λ (l : List Data). filter_map data_of (filter_map frame_of pieces) ++ l) (one_payload log sock end bytes)

writing_more : (test : List ℕ → Bool) (id : ℕ) (log : List Entry) (sock : SockName) (end : End) (bytes : List ℕ) (pieces : List (List ℕ)) → some_and test (first_payload id (payloads pieces)) ≡ false
    → (length pieces == 0 || none_or (λ (d : Data). is_some (first_payload d.0 (payloads pieces)) || not (test d.1)) (data_written log sock end bytes)) ≡ true → some_and test (first_payload id (payloads (pieces ++ bytes ∷ []))) ≡ false
writing_more test id log sock end bytes [] clean ok = refl
writing_more test id log sock end bytes (piece ∷ pieces) clean ok =
    subst (λ (l : List Data). some_and test (first_payload id l) ≡ false) (sym (more_payloads log sock end pieces bytes))
    (first_more test id (filter_map data_of (filter_map frame_of pieces)) (data_written log sock end bytes) clean
    (second (length (piece ∷ pieces) == 0) (none_or (λ (d : Data). is_some (first_payload d.0 (payloads (piece ∷ pieces))) || not (test d.1)) (data_written log sock end bytes)) (eqb-suc-zero (length pieces)) ok))

-- ---- one more entry

entry_more : (journal : List Line) (before : List Entry) (x : Entry) → HasNoNodePayloads journal before → writes_no_nodes journal before x ≡ true → HasNoNodePayloads journal (before ++ x ∷ [])
entry_more journal before x clean ok s e id = ap (λ (pieces : List (List ℕ)). some_and test (first_payload id (payloads pieces))) (filter_map-append (writing s e) before (x ∷ [])) ∙ by_entry x ok
  where
    test : List ℕ → Bool
    test = opens_nodes journal (owner s e) (owner s (across e))

    none_more : some_and test (first_payload id (payloads (writings before s e ++ []))) ≡ false
    none_more = subst (λ (pieces : List (List ℕ)). some_and test (first_payload id (payloads pieces)) ≡ false) (sym (append-nil (writings before s e))) (clean s e id)

    by_test : (sock : SockName) (end : End) (bytes : List ℕ) → writes_no_nodes journal before (entries.Wrote sock end bytes) ≡ true → (b : Bool) → (same_socket sock s && same_end end e) ≡ b
        → some_and test (first_payload id (payloads (writings before s e ++ cons_option (if b then Some bytes else None) []))) ≡ false
    by_test sock end bytes ok false h = none_more
    by_test sock end bytes ok true h =
        let parts = and_parts (same_socket sock s) (same_end end e) h in
        writing_more test id before s e bytes (writings before s e) (clean s e id)
        (subst (λ (f : End). writes_no_nodes journal before (entries.Wrote s f bytes) ≡ true) (end_is end e parts.1)
        (subst (λ (t : SockName). writes_no_nodes journal before (entries.Wrote t end bytes) ≡ true) (same_is sock s parts.0) ok))

    by_entry : (x : Entry) → writes_no_nodes journal before x ≡ true → some_and test (first_payload id (payloads (writings before s e ++ cons_option (writing s e x) []))) ≡ false
    by_entry (entries.Wrote sock end bytes) ok = by_test sock end bytes ok (same_socket sock s && same_end end e) refl
    by_entry x ok = none_more

-- ---- whole logs

-- nothing is there at the start
none_at_first : (journal : List Line) → HasNoNodePayloads journal []
none_at_first journal s e id = refl

payloads_from : (journal : List Line) (before log : List Entry) → HasNoNodePayloads journal before → each_after (writes_no_nodes journal) before log ≡ true → HasNoNodePayloads journal (before ++ log)
payloads_from journal before [] clean ok = subst (HasNoNodePayloads journal) (sym (append-nil before)) clean
payloads_from journal before (x ∷ log) clean ok =
    let parts = and_parts (writes_no_nodes journal before x) (each_after (writes_no_nodes journal) (before ++ x ∷ []) log) ok in
    subst (HasNoNodePayloads journal) (append_assoc before (x ∷ []) log) (payloads_from journal (before ++ x ∷ []) log (entry_more journal before x clean parts.0) parts.1)

-- no first payload opens a connection from node to node, where none that is written does
pub no_node_payloads : (journal : List Line) (log : List Entry) → WritesNoNodes journal log → HasNoNodePayloads journal log
no_node_payloads journal log ok = payloads_from journal [] log (none_at_first journal) ok

-- what is written needs no cause
caused_one : (journal : List Line) (before : List Entry) (x : Entry) → HasNoNodePayloads journal before → writes_caused journal before x ≡ true
caused_one journal before (entries.Wrote sock end bytes) clean = either (length (writings before sock end) == 0) (none_or (is_caused_data journal before sock end) (data_written before sock end bytes)) (by_data (data_written before sock end bytes))
  where
    either : (a b : Bool) → b ≡ true → (a || b) ≡ true
    either true b h = refl
    either false b h = h

    by_data : (o : Option Data) → none_or (is_caused_data journal before sock end) o ≡ true
    by_data None = refl
    by_data (Some d) = ap (λ b. not b || is_caused journal before (owner sock end) (owner sock (across end)) d.1) (clean sock end d.0)
caused_one journal before x clean = refl

caused_from : (journal : List Line) (before log : List Entry) → HasNoNodePayloads journal before → each_after (writes_no_nodes journal) before log ≡ true → each_after (writes_caused journal) before log ≡ true
caused_from journal before [] clean ok = refl
caused_from journal before (x ∷ log) clean ok =
    let parts = and_parts (writes_no_nodes journal before x) (each_after (writes_no_nodes journal) (before ++ x ∷ []) log) ok in
    both_true (writes_caused journal before x) (each_after (writes_caused journal) (before ++ x ∷ []) log) (caused_one journal before x clean)
    (caused_from journal (before ++ x ∷ []) log (entry_more journal before x clean parts.0) parts.1)

pub all_caused : (journal : List Line) (log : List Entry) → WritesNoNodes journal log → each (writes_caused journal) log ≡ true
all_caused journal log ok = caused_from journal [] log (none_at_first journal) ok
