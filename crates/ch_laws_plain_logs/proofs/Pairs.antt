-- What opens a pair's connection opens none from node to node: its second byte says a process.
use Rattle.std.proofs.Common.{◌≡◌, ℕ, Bool, true, false, not, ◌||◌, List, [], ◌∷◌, ◌++◌, length, refl, sym, ap, ◌∙◌, ◌==◌}
use Rattle.std.proofs.lemmas.Bool.{and_parts}
use Rattle.std.proofs.lemmas.Slice.Eq.{bytes_eq-Decides}
use Rattle.std.specs.List.{list_any}
use Rattle.std.specs.Option.{option_map}
use Rattle.std.specs.Prelude.{Option, Some, None, is_some, slice_get}
use Rattle.std.specs.Str.{bytes_eq}
use Rattle.ch_base.specs.declared.address.Address.{Address}
use Rattle.ch_ident.specs.Spelling.{message}
use Rattle.ch_ident.specs.declared.identifier.Identifier.{Identifier}
use Rattle.ch_ident.specs.declared.identifier.Identifier.TheVariants as identifiers
use Rattle.ch_ident.specs.declared.identifier.ProcessId.{ProcessId}
use Rattle.ch_ident.specs.declared.node_message.NodeMessage.TheVariants.{Opening}
use Rattle.ch_model.specs.declared.entry.Entry.{Entry}
use Rattle.ch_model.specs.declared.entry.Entry.TheVariants as entries
use Rattle.ch_model.specs.declared.line.Line.{Line}
use Rattle.ch_model.specs.declared.name.ProcName.{ProcName}
use Rattle.ch_model.specs.declared.name.SockName.{SockName}
use Rattle.ch_model.specs.declared.name.TargetName.{TargetName}
use Rattle.ch_model.specs.declared.name.End.{End}
use Rattle.ch_model.specs.AccountsFrames.{Saying, said_between, data_written, datas, target_id, pair_opening}
use Rattle.ch_model.specs.AccountsItems.{first_payload, opens_nodes}
use Rattle.ch_model.specs.AccountsMessages.{opens_a_pair}
use Rattle.ch_model.specs.Declarations.{address_of, process_id}
use Rattle.ch_model.specs.Logs.{each, each_after, some_and, none_or}
use Rattle.ch_model.specs.Same.{owner, across}
use Rattle.ch_model.specs.Sockets.{writings}
use Rattle.ch_laws_plain_logs.specs.Plain.{opens_no_nodes, writes_no_nodes, WritesNoNodes, opens_pairs, writes_pairs}
use Rattle.ch_laws_plain_logs.proofs.Plain.{both_true}

-- ---- the second byte

pair_byte : (journal : List Line) (p : ProcName) (d : TargetName) (payload : List ℕ) → some_and (bytes_eq payload) (pair_opening journal p d) ≡ true → slice_get payload 1 ≡ Some 1
pair_byte journal p d payload opens = by_from (process_id journal p) opens where
  by_to : (from : ProcessId) (o : Option Identifier) → some_and (bytes_eq payload) (option_map (λ (to : Identifier). message (Opening (identifiers.Process from) to)) o) ≡ true → slice_get payload 1 ≡ Some 1
  by_to from None e = absurd cc
  by_to from (Some to) e = ap (λ (bytes : List ℕ). slice_get bytes 1) ((bytes_eq-Decides payload (message (Opening (identifiers.Process from) to))).0 e)

  by_from : (o : Option ProcessId) → some_and (bytes_eq payload) (elim o as (λ o. Option (List ℕ)) [
    | None ↦ None
    | Some from ↦ option_map (λ (to : Identifier). message (Opening (identifiers.Process from) to)) (target_id journal d)
  ]) ≡ true → slice_get payload 1 ≡ Some 1
  by_from None e = absurd cc
  by_from (Some from) e = by_to from (target_id journal d) e

node_byte : (journal : List Line) (x y payload : List ℕ) → opens_nodes journal x y payload ≡ true → slice_get payload 1 ≡ Some 0
node_byte journal x y payload opens = by_from (address_of journal x) opens where
  by_to : (from : Address) (o : Option Address) → some_and (bytes_eq payload) (option_map (λ (to : Address). message (Opening (identifiers.Node from) (identifiers.Node to))) o) ≡ true → slice_get payload 1 ≡ Some 0
  by_to from None e = absurd cc
  by_to from (Some to) e = ap (λ (bytes : List ℕ). slice_get bytes 1) ((bytes_eq-Decides payload (message (Opening (identifiers.Node from) (identifiers.Node to)))).0 e)

  by_from : (o : Option Address) → some_and (bytes_eq payload) (elim o as (λ o. Option (List ℕ)) [
    | None ↦ None
    | Some from ↦ option_map (λ (to : Address). message (Opening (identifiers.Node from) (identifiers.Node to))) (address_of journal y)
  ]) ≡ true → slice_get payload 1 ≡ Some 0
  by_from None e = absurd cc
  by_from (Some from) e = by_to from (address_of journal y) e

-- a payload whose second byte says a process opens no connection from node to node
of_byte : (journal : List Line) (x y payload : List ℕ) → slice_get payload 1 ≡ Some 1 → opens_nodes journal x y payload ≡ false
of_byte journal x y payload one = by_test (opens_nodes journal x y payload) refl where
  by_test : (b : Bool) → opens_nodes journal x y payload ≡ b → b ≡ false
  by_test false e = refl
  by_test true e = let clash : ◌≡◌ {A = Option ℕ} (Some 1) (Some 0) = sym one ∙ node_byte journal x y payload e in absurd cc

-- the opening of a process's connection opens none from node to node
pub of_process : (journal : List Line) (x y payload : List ℕ) (from : ProcessId) (to : Identifier) → payload ≡ message (Opening (identifiers.Process from) to) → opens_nodes journal x y payload ≡ false
of_process journal x y payload from to is = of_byte journal x y payload (ap (λ (bytes : List ℕ). slice_get bytes 1) is)

-- so what opens a pair's does
pub of_pair : (journal : List Line) (log : List Entry) (x y u v payload : List ℕ) → opens_a_pair journal log u v payload ≡ true → opens_nodes journal x y payload ≡ false
of_pair journal log x y u v payload opens = of_byte journal x y payload (by_sayings (said_between log u v) opens) where
  by_sayings : (sayings : List Saying) → list_any (λ (s : Saying). some_and (bytes_eq payload) (pair_opening journal s.by s.to)) sayings ≡ true → slice_get payload 1 ≡ Some 1
  by_sayings [] e = absurd cc
  by_sayings (s ∷ sayings) e = by_test (some_and (bytes_eq payload) (pair_opening journal s.by s.to)) refl (by_sayings sayings) e where
    by_test : (b : Bool) → some_and (bytes_eq payload) (pair_opening journal s.by s.to) ≡ b → (list_any (λ (t : Saying). some_and (bytes_eq payload) (pair_opening journal t.by t.to)) sayings ≡ true → slice_get payload 1 ≡ Some 1)
        → (b || list_any (λ (t : Saying). some_and (bytes_eq payload) (pair_opening journal t.by t.to)) sayings) ≡ true → slice_get payload 1 ≡ Some 1
    by_test true this more e = pair_byte journal s.by s.to payload this
    by_test false this more e = more e

-- ---- entries

either : (a b c : Bool) → (b ≡ true → c ≡ true) → (a || b) ≡ true → (a || c) ≡ true
either true b c f e = refl
either false b c f e = f e

one_data : (journal : List Line) (log : List Entry) (sock : SockName) (end : End) (d : ℕ × List ℕ) → opens_pairs journal log sock end d ≡ true → opens_no_nodes journal log sock end d ≡ true
one_data journal log sock end d = either (is_some (first_payload d.0 (datas log sock end))) (opens_a_pair journal log (owner sock end) (owner sock (across end)) d.1) (not (opens_nodes journal (owner sock end) (owner sock (across end)) d.1))
    (λ opens. ap not (of_pair journal log (owner sock end) (owner sock (across end)) (owner sock end) (owner sock (across end)) d.1 opens))

one_entry : (journal : List Line) (log : List Entry) (x : Entry) → writes_pairs journal log x ≡ true → writes_no_nodes journal log x ≡ true
one_entry journal log (entries.Wrote sock end bytes) =
    either (length (writings log sock end) == 0) (none_or (opens_pairs journal log sock end) (data_written log sock end bytes)) (none_or (opens_no_nodes journal log sock end) (data_written log sock end bytes)) (by_data (data_written log sock end bytes))
  where
    by_data : (o : Option (ℕ × List ℕ)) → none_or (opens_pairs journal log sock end) o ≡ true → none_or (opens_no_nodes journal log sock end) o ≡ true
    by_data None e = refl
    by_data (Some d) e = one_data journal log sock end d e
one_entry journal log x = λ e. refl

from_here : (journal : List Line) (before log : List Entry) → each_after (writes_pairs journal) before log ≡ true → each_after (writes_no_nodes journal) before log ≡ true
from_here journal before [] written = refl
from_here journal before (x ∷ log) written =
    let parts = and_parts (writes_pairs journal before x) (each_after (writes_pairs journal) (before ++ x ∷ []) log) written in
    both_true (writes_no_nodes journal before x) (each_after (writes_no_nodes journal) (before ++ x ∷ []) log) (one_entry journal before x parts.0) (from_here journal (before ++ x ∷ []) log parts.1)

-- where each first payload opens a pair's connection, none opens one from node to node
pub written_pairs : (journal : List Line) (log : List Entry) → each (writes_pairs journal) log ≡ true → WritesNoNodes journal log
written_pairs journal log written = from_here journal [] log written
