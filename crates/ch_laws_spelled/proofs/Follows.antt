-- Messages are numbered as they come, after any first lines too, and at each earlier moment.
use Rattle.std.specs.Prelude.{◌≡◌, Bool, true, false, ◌&&◌, List, [], ◌∷◌, ◌++◌, Ok}
use Rattle.std.proofs.Common.{refl, sym, subst, inl, inr, ◌⊎◌}
use Rattle.std.proofs.lemmas.Bool.{and_parts}
use Rattle.ch_model.specs.declared.entry.Entry.{Entry}
use Rattle.ch_model.specs.declared.line.Line.{Line}
use Rattle.ch_model.specs.Epochs.{FollowsEpochs, is_said_in_epoch, has_next_index, begins_next_epoch}
use Rattle.ch_model.specs.Logs.{each_after}
use Rattle.ch_model.specs.World.{world_new, log_from}
use Rattle.ch_model.specs.WorldState.{World}
use Rattle.ch_laws_lines.specs.InOrder.{IsInOrder}
use Rattle.ch_laws_many.proofs.Reached.{IsJournal}
use Rattle.ch_laws_epochs.proofs.Worlds.{follows}
use Rattle.ch_laws_spelled.proofs.Fronts.{IsFront, of_front}

pub front_follows : (journal : List Line) → IsInOrder journal → IsJournal journal → (front rest : List Line) → front ++ rest ≡ journal → (log : List Entry) (world : World) → log_from (world_new journal) front ≡ Ok (log, world) → FollowsEpochs log
front_follows journal o j front rest cut log world is = by_front (of_front journal o j front rest cut log world is) where
  by_front : (log ≡ []) ⊎ IsFront journal front log → FollowsEpochs log
  by_front (inl none) = subst FollowsEpochs (sym none) (record { epochs = refl; indexes = refl; next_epochs = refl })
  by_front (inr f) = follows front f.is_journal log f.log

both_hold : (a b : Bool) → a ≡ true → b ≡ true → (a && b) ≡ true
both_hold true b h g = g
both_hold false b h g = h

first_each : (test : List Entry → Entry → Bool) (one two log : List Entry) → each_after test log (one ++ two) ≡ true → each_after test log one ≡ true
first_each test [] two log h = refl
first_each test (entry ∷ one) two log h =
    let parts = and_parts (test log entry) (each_after test (log ++ entry ∷ []) (one ++ two)) h in
    both_hold (test log entry) (each_after test (log ++ entry ∷ []) one) parts.0 (first_each test one two (log ++ entry ∷ []) parts.1)

-- the first entries of such a log are such a log
pub first_follows : (one two : List Entry) → FollowsEpochs (one ++ two) → FollowsEpochs one
first_follows one two f = record {
  epochs = first_each is_said_in_epoch one two [] f.epochs;
  indexes = first_each has_next_index one two [] f.indexes;
  next_epochs = first_each begins_next_epoch one two [] f.next_epochs;
}
