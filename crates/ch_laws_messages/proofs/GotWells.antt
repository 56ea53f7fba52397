-- What is given of the messages of a log is given of each log before it.
use Rattle.std.proofs.Common.{◌≡◌, ℕ, zero, suc, Bool, true, ◌&&◌, List, [], ◌∷◌, ◌++◌, refl, ap, ◌∙◌}
use Rattle.std.specs.Prelude.{slice_get, Some}
use Rattle.std.proofs.lemmas.Bool.{and_parts}
use Rattle.ch_model.specs.declared.entry.Entry.{Entry}
use Rattle.ch_model.specs.declared.line.Line.{Line}
use Rattle.ch_model.specs.Epochs.{is_said_in_epoch, has_next_index, begins_next_epoch}
use Rattle.ch_model.specs.Logs.{each_after}
use Rattle.ch_laws_messages.specs.GotSaidWell.{SaidWell}

each_before : (test : List Entry → Entry → Bool) (log one two : List Entry) → each_after test log (one ++ two) ≡ true → each_after test log one ≡ true
each_before test log [] two e = refl
each_before test log (x ∷ one) two e = let parts = and_parts (test log x) (each_after test (log ++ x ∷ []) (one ++ two)) e in ap (λ (b : Bool). b && each_after test (log ++ x ∷ []) one) parts.0 ∙ each_before test (log ++ x ∷ []) one two parts.1

there_still : (one two : List Entry) (i : ℕ) (x : Entry) → slice_get one i ≡ Some x → slice_get (one ++ two) i ≡ Some x
there_still [] two i x e = absurd cc
there_still (y ∷ one) two zero x e = e
there_still (y ∷ one) two (suc i) x e = there_still one two i x e

pub well_before : (journal : List Line) (one two : List Entry) → SaidWell journal (one ++ two) → SaidWell journal one
well_before journal one two w = record {
  each = λ i by to epoch index mark body at. w.each i by to epoch index mark body (there_still one two i _ at);
  numbered = record {
    epochs = each_before is_said_in_epoch [] one two w.numbered.epochs;
    indexes = each_before has_next_index [] one two w.numbered.indexes;
    next_epochs = each_before begins_next_epoch [] one two w.numbered.next_epochs;
  };
}
