-- What ends wrote by a log, and what is due at them.
use Rattle.std.proofs.Common.{◌≡◌, ℕ, Bool, true, false, cond, ◌&&◌, ◌||◌, List, [], ◌∷◌, ◌++◌, length, refl, sym, ap, ◌∙◌, subst, append_assoc, arith}
use Rattle.std.proofs.lemmas.Bool.Decides.{nat_tests}
use Rattle.std.proofs.lemmas.List.{append-nil}
use Rattle.std.proofs.lemmas.List.Elements.{filter_map-append}
use Rattle.std.proofs.lemmas.Slice.Eq.{bytes_eq-Decides}
use Rattle.std.specs.Prelude.{Option, Some, None, ◌==◌}
use Rattle.std.specs.List.{cons_option}
use Rattle.std.specs.Str.{bytes_eq}
use Rattle.ch_base.specs.declared.address.Address.{Address}
use Rattle.ch_wire.specs.Spelling.{answer_spelling}
use Rattle.ch_wire.specs.declared.answer.Answer.TheVariants.{Accepted}
use Rattle.ch_reader.specs.declared.item.Expected.TheVariants as expected
use Rattle.ch_model.specs.declared.entry.Entry.{Entry}
use Rattle.ch_model.specs.declared.entry.Entry.TheVariants as entries
use Rattle.ch_model.specs.declared.name.End.{End}
use Rattle.ch_model.specs.declared.name.End.TheVariants.{O, T}
use Rattle.ch_model.specs.declared.name.SockName.{SockName}
use Rattle.ch_model.specs.AccountsBytes.{has_accepted, writes_after_accepting}
use Rattle.ch_model.specs.AccountsItems.{expected_first}
use Rattle.ch_model.specs.Logs.{each}
use Rattle.ch_model.specs.Same.{same_socket, same_end}
use Rattle.ch_model.specs.Sockets.{writing, writings}
use Rattle.ch_laws_log.proofs.Blocks.{each_append}
use Rattle.ch_laws_log.proofs.Stored.{self_same}
use Rattle.ch_laws_writes.specs.Dues.{Due, Asking, Answering, Framing, due_past, IsDue}
use Rattle.ch_laws_writes.specs.Writings.{IsOne, WritesOne, EachWritesOne}
use Rattle.ch_laws_writes.proofs.Found.{same_end_self}

-- ---- what is due, by what was written

-- an end has written its first item: a target's, the answer that accepts
abbrev pub Begun : End → List (List ℕ) → Type 0
Begun which [] = ⊥
Begun O (piece ∷ rest) = Unit {0}
Begun T (piece ∷ rest) = bytes_eq (answer_spelling Accepted) piece ≡ true

-- what is due fits what was written
abbrev pub FitsDue : Due → End → List (List ℕ) → Type 0
FitsDue (Asking end peer) which pieces = (which ≡ O) × (pieces ≡ [])
FitsDue Answering which pieces = (which ≡ T) × (pieces ≡ [])
FitsDue Framing which pieces = Begun which pieces

begun_more : (which : End) (pieces : List (List ℕ)) (piece : List ℕ) → Begun which pieces → Begun which (pieces ++ piece ∷ [])
begun_more which [] piece b = absurd b
begun_more O (first ∷ rest) piece b = tt
begun_more T (first ∷ rest) piece b = b

-- what is due next fits
pub next_fits : (due : Due) (which : End) (pieces : List (List ℕ)) (bytes : List ℕ) (next : Due) → FitsDue due which pieces → due_past bytes (Some due) ≡ Some next → FitsDue next which (pieces ++ bytes ∷ [])
next_fits (Asking end peer) which pieces bytes next f e =
    let is : Framing ≡ next = cc in
    subst (λ (d : Due). FitsDue d which (pieces ++ bytes ∷ [])) is (subst (λ (l : List (List ℕ)). Begun which (l ++ bytes ∷ [])) (sym f.1) (subst (λ (x : End). Begun x (bytes ∷ [])) (sym f.0) tt))
next_fits Answering which pieces bytes next f e = by_test (bytes_eq bytes (answer_spelling Accepted)) refl e where
  turned : bytes_eq bytes (answer_spelling Accepted) ≡ true → bytes_eq (answer_spelling Accepted) bytes ≡ true
  turned h = (bytes_eq-Decides (answer_spelling Accepted) bytes).1 (sym ((bytes_eq-Decides bytes (answer_spelling Accepted)).0 h))

  by_test : (b : Bool) → bytes_eq bytes (answer_spelling Accepted) ≡ b → ◌≡◌ {A = Option Due} (cond b (Some Framing) None) (Some next) → FitsDue next which (pieces ++ bytes ∷ [])
  by_test true h e =
      let is : Framing ≡ next = cc in
      subst (λ (d : Due). FitsDue d which (pieces ++ bytes ∷ [])) is (subst (λ (l : List (List ℕ)). Begun which (l ++ bytes ∷ [])) (sym f.1) (subst (λ (x : End). Begun x (bytes ∷ [])) (sym f.0) (turned h)))
  by_test false h e = absurd cc
next_fits Framing which pieces bytes next f e = let is : Framing ≡ next = cc in subst (λ (d : Due). FitsDue d which (pieces ++ bytes ∷ [])) is (begun_more which pieces bytes f)

not_empty : (piece : List ℕ) (rest : List (List ℕ)) → (length (piece ∷ rest) == 0) ≡ false
not_empty piece rest = grind (arith, nat_tests)

-- what is due is one item of the kind that comes next
pub is_one : (own : ℕ → Address) (due : Due) (which : End) (pieces : List (List ℕ)) (bytes : List ℕ) → FitsDue due which pieces → IsDue own (Some due) bytes → IsOne (cond (length pieces == 0) (expected_first which) expected.Frame) bytes
is_one own (Asking end peer) which pieces bytes f d = subst (λ (l : List (List ℕ)). IsOne (cond (length l == 0) (expected_first which) expected.Frame) bytes) (sym f.1) (subst (λ (x : End). IsOne (expected_first x) bytes) (sym f.0) (record { target = peer.id; from = own end }, d))
is_one own Answering which pieces bytes f d = subst (λ (l : List (List ℕ)). IsOne (cond (length l == 0) (expected_first which) expected.Frame) bytes) (sym f.1) (subst (λ (x : End). IsOne (expected_first x) bytes) (sym f.0) d)
is_one own Framing which [] bytes f d = absurd f
is_one own Framing which (piece ∷ rest) bytes f d = subst (λ (b : Bool). IsOne (cond b (expected_first which) expected.Frame) bytes) (sym (not_empty piece rest)) d

or_true : (a : Bool) → (a || true) ≡ true
or_true true = refl
or_true false = refl

or_false : (a : Bool) → a ≡ true → (a || false) ≡ true
or_false true e = refl
or_false false e = e

-- a target's end that writes more has accepted
pub has_begun : (due : Due) (pieces : List (List ℕ)) → FitsDue due T pieces → (length pieces == 0 || has_accepted pieces) ≡ true
has_begun (Asking end peer) pieces f = let no : T ≡ O = f.0 in absurd cc
has_begun Answering pieces f = ap (λ (l : List (List ℕ)). length l == 0 || has_accepted l) f.1
has_begun Framing [] f = absurd f
has_begun Framing (piece ∷ rest) f = ap (λ b. length (piece ∷ rest) == 0 || b) (or_false (bytes_eq (answer_spelling Accepted) piece) f) ∙ or_true (length (piece ∷ rest) == 0)

-- ---- one more entry

pub wrote_more : (log : List Entry) (x : Entry) (s : SockName) (e : End) → writing s e x ≡ None → writings (log ++ x ∷ []) s e ≡ writings log s e
wrote_more log x s e none = filter_map-append (writing s e) log (x ∷ []) ∙ ap (λ l. writings log s e ++ l) (by_writing (writing s e x) none) ∙ append-nil (writings log s e) where
  by_writing : (o : Option (List ℕ)) → o ≡ None → cons_option o [] ≡ []
  by_writing None e = refl
  by_writing (Some y) e = absurd cc

pub wrote_other : (log : List Entry) (s : SockName) (e : End) (bytes : List ℕ) (t : SockName) (f : End) → (same_socket s t && same_end e f) ≡ false → writings (log ++ entries.Wrote s e bytes ∷ []) t f ≡ writings log t f
wrote_other log s e bytes t f off = wrote_more log (entries.Wrote s e bytes) t f (ap (λ b. cond b (Some bytes) None) off)

pub wrote_here : (log : List Entry) (s : SockName) (e : End) (bytes : List ℕ) → writings (log ++ entries.Wrote s e bytes ∷ []) s e ≡ writings log s e ++ bytes ∷ []
wrote_here log s e bytes = filter_map-append (writing s e) log (entries.Wrote s e bytes ∷ []) ∙ ap (λ b. writings log s e ++ cons_option (cond b (Some bytes) None) []) (ap (λ b. b && same_end e e) (self_same s) ∙ same_end_self e)

pub each_more : (before log : List Entry) (x : Entry) → EachWritesOne before log → WritesOne (before ++ log) x → EachWritesOne before (log ++ x ∷ [])
each_more before [] x a w = (subst (λ (l : List Entry). WritesOne l x) (append-nil before) w, tt)
each_more before (first ∷ rest) x a w = (a.0, each_more (before ++ first ∷ []) rest x a.1 (subst (λ (l : List Entry). WritesOne l x) (sym (append_assoc before (first ∷ []) rest)) w))

pub accepting_more : (log : List Entry) (x : Entry) → each writes_after_accepting log ≡ true → writes_after_accepting log x ≡ true → each writes_after_accepting (log ++ x ∷ []) ≡ true
accepting_more log x a w = each_append writes_after_accepting [] log (x ∷ []) a (ap (λ b. b && true) w)
