-- What opens the connection of one pair of two nodes opens that of no other, where the ids of their processes are in their rule.
use Rattle.std.proofs.Common.{◌≡◌, ℕ, Bool, true, false, cond, ◌&&◌, ◌||◌, List, [], ◌∷◌, ◌++◌, Ok, refl, sym, ap, ◌∙◌}
use Rattle.std.proofs.lemmas.Bool.{and_parts}
use Rattle.std.proofs.lemmas.Slice.Eq.{bytes_eq-Decides}
use Rattle.std.specs.List.{list_all, cons_option}
use Rattle.std.specs.Option.{option_map}
use Rattle.std.specs.Prelude.{Option, Some, None, Result, ◌==◌}
use Rattle.std.specs.Str.{bytes_eq}
use Rattle.ch_ident.specs.declared.error.IdentError.{IdentError}
use Rattle.ch_ident.specs.declared.identifier.Identifier.{Identifier}
use Rattle.ch_ident.specs.declared.identifier.Identifier.TheVariants as identifiers
use Rattle.ch_ident.specs.declared.identifier.ProcessId.{ProcessId}
use Rattle.ch_ident.specs.declared.node_message.NodeMessage.{NodeMessage}
use Rattle.ch_ident.specs.declared.node_message.NodeMessage.TheVariants as messages
use Rattle.ch_ident.specs.Fits.{IsMessage}
use Rattle.ch_ident.specs.Reading.{message_at}
use Rattle.ch_ident.specs.Spelling.{message}
use Rattle.ch_ident.proofs.Messages.{message_reads}
use Rattle.ch_model.specs.declared.entry.Entry.{Entry}
use Rattle.ch_model.specs.declared.entry.Entry.TheVariants as entries
use Rattle.ch_model.specs.declared.line.Line.{Line}
use Rattle.ch_model.specs.declared.name.ProcName.{ProcName}
use Rattle.ch_model.specs.declared.name.TargetName.{TargetName}
use Rattle.ch_model.specs.declared.name.TargetName.TheVariants as names
use Rattle.ch_model.specs.AccountsFrames.{Saying, pair_opening}
use Rattle.ch_model.specs.Declarations.{Peer, peer, process_id}
use Rattle.ch_model.specs.Logs.{some_and}
use Rattle.ch_model.specs.Same.{same_process, same_target}
use Rattle.ch_laws_plain_logs.specs.Plain.{is_plain, IsPlain}
use Rattle.ch_laws_writes.proofs.Worlds.{number_same}
use Rattle.ch_laws_peers.specs.Words.{sayings, opens_one}
use Rattle.ch_laws_peers.specs.Says.{has_said}
use Rattle.ch_laws_messages.specs.SaidGoes.{SaysWell, AreWell}

-- ---- openings

ok_is : {x y : NodeMessage × List ℕ} → ◌≡◌ {A = Result (NodeMessage × List ℕ) IdentError} (Ok x) (Ok y) → x ≡ y
ok_is e = cc

message_one : (a b : NodeMessage) → IsMessage a → IsMessage b → message a ≡ message b → a ≡ b
message_one a b x y e = ap (λ (p : NodeMessage × List ℕ). p.0) (ok_is (sym (message_reads.again a [] x) ∙ ap (λ (l : List ℕ). message_at (l ++ [])) e ∙ message_reads.again b [] y))

opening_one : (from at from_too at_too : ProcessId) → messages.Opening (identifiers.Process from) (identifiers.Process at) ≡ messages.Opening (identifiers.Process from_too) (identifiers.Process at_too) → (from ≡ from_too) × (at ≡ at_too)
opening_one from at from_too at_too e = (cc, cc)

-- the two processes of an opening
record Parts (a b : Option ProcessId) (opening : List ℕ) : Type 0 where
  from : ProcessId
  at : ProcessId
  from_is : a ≡ Some from
  at_is : b ≡ Some at
  spelled : message (messages.Opening (identifiers.Process from) (identifiers.Process at)) ≡ opening

parts : (a b : Option ProcessId) (opening : List ℕ) → (elim a as (λ o. Option (List ℕ)) [
  | None ↦ None
  | Some from ↦ option_map (λ (to : Identifier). message (messages.Opening (identifiers.Process from) to)) (option_map identifiers.Process b)
]) ≡ Some opening → Parts a b opening
parts None b opening e = absurd cc
parts (Some from) None opening e = absurd cc
parts (Some from) (Some at) opening e = record { from = from; at = at; from_is = refl; at_is = refl; spelled = some_is e } where
  some_is : {x y : List ℕ} → ◌≡◌ {A = Option (List ℕ)} (Some x) (Some y) → x ≡ y
  some_is e = cc

counter_is : (journal : List Line) (p : ProcName) (id : ProcessId) → process_id journal p ≡ Some id → id.counter ≡ p.counter
counter_is journal p id e = by_peer (peer journal p.node) e where
  by_peer : (o : Option Peer) → option_map (λ (at : Peer). record { node = at.address; unique = at.unique; counter = p.counter }) o ≡ Some id → id.counter ≡ p.counter
  by_peer None e = absurd cc
  by_peer (Some at) e = let is : record { node = at.address; unique = at.unique; counter = p.counter } ≡ id = cc in sym (ap (λ (i : ProcessId). i.counter) is)

-- two pairs with one opening have the same counters
one_pair : (journal : List Line) (p q r s : ProcName) (opening : List ℕ) → AreWell journal p q → AreWell journal r s → pair_opening journal p (names.Process q) ≡ Some opening → pair_opening journal r (names.Process s) ≡ Some opening → (p.counter ≡ r.counter) × (q.counter ≡ s.counter)
one_pair journal p q r s opening w v e f =
    let one = parts (process_id journal p) (process_id journal q) opening e in
    let two = parts (process_id journal r) (process_id journal s) opening f in
    let same = opening_one one.from one.at two.from two.at (message_one (messages.Opening (identifiers.Process one.from) (identifiers.Process one.at)) (messages.Opening (identifiers.Process two.from) (identifiers.Process two.at))
    (w.from one.from one.from_is, w.at one.at one.at_is) (v.from two.from two.from_is, v.at two.at two.at_is) (one.spelled ∙ sym two.spelled)) in
    (sym (counter_is journal p one.from one.from_is) ∙ ap (λ (i : ProcessId). i.counter) same.0 ∙ counter_is journal r two.from two.from_is, sym (counter_is journal q one.at one.at_is) ∙ ap (λ (i : ProcessId). i.counter) same.1 ∙ counter_is journal s two.at two.at_is)

-- ---- sayings of two nodes

record IsTheirs (journal : List Line) (x y : List ℕ) (s : Saying) : Type 0 where
  to : ProcName
  is : s.to ≡ names.Process to
  by_node : s.by.node ≡ x
  to_node : to.node ≡ y
  well : AreWell journal s.by to

abbrev AllTheirs : List Line → List ℕ → List ℕ → List Saying → Type 0
AllTheirs journal x y [] = Unit {0}
AllTheirs journal x y (s ∷ rest) = IsTheirs journal x y s × AllTheirs journal x y rest

theirs : (journal : List Line) (x y : List ℕ) (log : List Entry) → IsPlain log → SaysWell journal log → AllTheirs journal x y (sayings x y log)
theirs journal x y [] plain well = tt
theirs journal x y (entries.Said by (names.Process to) epoch index mark body ∷ rest) plain well = by_test (bytes_eq by.node x && bytes_eq to.node y) refl (theirs journal x y rest (and_parts true (list_all is_plain rest) plain).1 well.1) where
  by_test : (b : Bool) → (bytes_eq by.node x && bytes_eq to.node y) ≡ b → AllTheirs journal x y (sayings x y rest) → AllTheirs journal x y (cons_option (cond b (Some (record { by = by; to = names.Process to; epoch = epoch; index = index; mark = mark; body = body })) None) (sayings x y rest))
  by_test true h more = let both = and_parts (bytes_eq by.node x) (bytes_eq to.node y) h in (record { to = to; is = refl; by_node = (bytes_eq-Decides by.node x).0 both.0; to_node = (bytes_eq-Decides to.node y).0 both.1; well = record { from = well.0.0; at = well.0.1 } }, more)
  by_test false h more = more
theirs journal x y (entries.Said by (names.Port process port) epoch index mark body ∷ rest) plain well = absurd cc
theirs journal x y (entries.Said by (names.Named node name) epoch index mark body ∷ rest) plain well = absurd cc
theirs journal x y (entry ∷ rest) plain well = theirs journal x y rest (and_parts (is_plain entry) (list_all is_plain rest) plain).1 well.1

made_same : (p q : ProcName) → p.node ≡ q.node → p.counter ≡ q.counter → same_process p q ≡ true
made_same p q e f = ap (λ (b : Bool). b && (p.counter == q.counter)) ((bytes_eq-Decides p.node q.node).1 e) ∙ ap (λ (n : ℕ). p.counter == n) (sym f) ∙ number_same p.counter

-- what opens the pair's connection is of a pair that has said something: of this one
only_said : (journal : List Line) (x y : List ℕ) (said : List Saying) (p q : ProcName) (opening : List ℕ) → AllTheirs journal x y said → p.node ≡ x → q.node ≡ y → AreWell journal p q → pair_opening journal p (names.Process q) ≡ Some opening → opens_one journal said opening ≡ true → has_said p q said ≡ true
only_said journal x y [] p q opening all px qy well opens e = absurd cc
only_said journal x y (s ∷ rest) p q opening all px qy well opens e = by_test (some_and (bytes_eq opening) (pair_opening journal s.by s.to)) refl e (only_said journal x y rest p q opening all.1 px qy well opens) where
  head : IsTheirs journal x y s
  head = all.0

  by_opening : (o : Option (List ℕ)) → pair_opening journal s.by s.to ≡ o → some_and (bytes_eq opening) o ≡ true → pair_opening journal s.by s.to ≡ Some opening
  by_opening None h k = absurd cc
  by_opening (Some other) h k = h ∙ ap (λ (l : List ℕ). Some l) (sym ((bytes_eq-Decides opening other).0 k))

  this : pair_opening journal s.by s.to ≡ Some opening → (same_process s.by p && same_target s.to (names.Process q)) ≡ true
  this k = let same = one_pair journal s.by head.to p q opening head.well well (ap (pair_opening journal s.by) (sym head.is) ∙ k) opens in
      ap (λ (b : Bool). b && same_target s.to (names.Process q)) (made_same s.by p (head.by_node ∙ sym px) same.0) ∙ ap (λ (t : TargetName). same_target t (names.Process q)) head.is ∙ made_same head.to q (head.to_node ∙ sym qy) same.1

  first : (a b : Bool) → a ≡ true → (a || b) ≡ true
  first true b h = refl
  first false b h = absurd cc

  second : (a b : Bool) → b ≡ true → (a || b) ≡ true
  second true b h = refl
  second false b h = h

  by_test : (b : Bool) → some_and (bytes_eq opening) (pair_opening journal s.by s.to) ≡ b → (b || opens_one journal rest opening) ≡ true → (opens_one journal rest opening ≡ true → has_said p q rest ≡ true) → has_said p q (s ∷ rest) ≡ true
  by_test true h e more = first (same_process s.by p && same_target s.to (names.Process q)) (has_said p q rest) (this (by_opening (pair_opening journal s.by s.to) refl h))
  by_test false h e more = second (same_process s.by p && same_target s.to (names.Process q)) (has_said p q rest) (more e)

-- of a plain log of such sayings
pub only_one : (journal : List Line) (x y : List ℕ) (log : List Entry) (p q : ProcName) (opening : List ℕ) → IsPlain log → SaysWell journal log → p.node ≡ x → q.node ≡ y → AreWell journal p q → pair_opening journal p (names.Process q) ≡ Some opening → opens_one journal (sayings x y log) opening ≡ true → has_said p q (sayings x y log) ≡ true
only_one journal x y log p q opening plain well px qy w opens e = only_said journal x y (sayings x y log) p q opening (theirs journal x y log plain well) px qy w opens e
