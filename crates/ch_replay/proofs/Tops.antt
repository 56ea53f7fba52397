-- What a status tells follows from what was taken, what was logged, and what was written.
use Rattle.std.proofs.Common.{◌≡◌, ℕ, ◌+◌, ◌<◌, ◌≤◌, min, List, [], length, take, Option, Some, None, Result, Ok, Err, refl, sym, ◌∙◌, ap, subst, arith}
use Rattle.std.proofs.lemmas.List.{length-take}
use Rattle.ch_base.specs.declared.memory.Stop.{Stop}
use Rattle.ch_base.specs.declared.memory.Stop.TheVariants as stops
use Rattle.ch_model.specs.LinesBuilt.{many_nodes}
use Rattle.ch_model.specs.declared.entry.Entry.{Entry}
use Rattle.ch_model.specs.declared.refusal.LineFault.{LineFault}
use Rattle.ch_model.specs.declared.refusal.LineFault.TheVariants as faults
use Rattle.ch_model.specs.World.{◌>>=◌, log_of}
use Rattle.ch_model.specs.Journal.{longest_journal, journal_of, first_fault}
use Rattle.ch_model.specs.Spelling.{log_text}
use Rattle.ch_laws_one_node.proofs.Limits.{all_within}
use Rattle.ch_laws_lines.proofs.OneOfMany.{one_lawful}
use Rattle.ch_laws_messages.proofs.PromisedPromises.{promised}
use Rattle.ch_journal.specs.declared.status.Status.TheVariants.{WriteFault, Worn}
use Rattle.ch_replay.specs.Outside.{IsIntake, Appended, AppendedSome}
use Rattle.ch_replay.specs.Replayed.{replay_of}
use Rattle.ch_replay.specs.Ends.{Ends, IsLogged, status_of_fault}
use Rattle.ch_replay.proofs.Replays.{told_of, replays}

-- the log whose text was told, and the fault
record Logs (bytes text : List ℕ) (fault : Option (ℕ × LineFault)) : Type 0 where
  log : List Entry
  is_log : log_of (journal_of many_nodes bytes) ≡ Ok log
  text_is : log_text log ≡ text
  fault_is : first_fault many_nodes bytes ≡ fault

logs_by : (bytes text : List ℕ) (fault : Option (ℕ × LineFault)) (r : Result (List Entry) Stop) → log_of (journal_of many_nodes bytes) ≡ r → (r >>= told_of (first_fault many_nodes bytes)) ≡ Ok (text, fault) → Logs bytes text fault
logs_by bytes text fault (Ok log) e f = let k : (log_text log, first_fault many_nodes bytes) ≡ (text, fault) = cc in record { log = log; is_log = e; text_is = ap (λ (p : List ℕ × Option (ℕ × LineFault)). p.0) k; fault_is = ap (λ (p : List ℕ × Option (ℕ × LineFault)). p.1) k }
logs_by bytes text fault (Err stop) e f = cc

logs : (bytes journal text : List ℕ) (fault : Option (ℕ × LineFault)) → journal ≡ take (longest_journal + 1) bytes → replay_of journal ≡ Ok (text, fault) → Logs bytes text fault
logs bytes journal text fault is done = logs_by bytes text fault (log_of (journal_of many_nodes bytes)) refl (sym (replays journal bytes is) ∙ done)

worn_by : (bytes : List ℕ) (r : Result (List Entry) Stop) → log_of (journal_of many_nodes bytes) ≡ r → (r >>= told_of (first_fault many_nodes bytes)) ≡ Err stops.Worn → log_of (journal_of many_nodes bytes) ≡ Err stops.Worn
worn_by bytes (Ok log) e f = cc
worn_by bytes (Err stop) e f = e ∙ (let k : stop ≡ stops.Worn = cc in ap (λ (s : Stop). Err s) k)

logged : (bytes text : List ℕ) (fault : Option (ℕ × LineFault)) (held0 held1 : Option (List ℕ)) → Logs bytes text fault → Appended text held0 held1 → IsLogged bytes held0 held1
logged bytes text fault held0 held1 l a = record { log = l.log; is_log = l.is_log; promised = promised bytes l.log l.is_log; lawful = λ of. one_lawful bytes l.log of l.is_log; appended = subst (λ (t : List ℕ). Appended t held0 held1) (sym l.text_is) a }

-- a journal without a fault was taken whole, and nothing is left
nothing_left : (bytes journal : List ℕ) (left : Option (List ℕ)) → journal ≡ take (longest_journal + 1) bytes → (length journal < longest_journal + 1 → left ≡ Some []) → first_fault many_nodes bytes ≡ None → left ≡ Some []
nothing_left bytes journal left is ends none =
    let within : length bytes ≤ longest_journal = all_within many_nodes bytes none in
    let len : length journal ≡ min (longest_journal + 1) (length bytes) = ap length is ∙ length-take (longest_journal + 1) bytes in
    ends (omega arith)

-- the log was written
pub ends_written : (left0 left1 held0 held1 : Option (List ℕ)) (journal text : List ℕ) (fault : Option (ℕ × LineFault)) → IsIntake left0 left1 journal → replay_of journal ≡ Ok (text, fault) → Appended text held0 held1 → Ends (status_of_fault fault) left0 left1 held0 held1
ends_written None left1 held0 held1 journal text None i d a = tt
ends_written None left1 held0 held1 journal text (Some (n, faults.Bad kind)) i d a = tt
ends_written None left1 held0 held1 journal text (Some (n, faults.TooLong)) i d a = tt
ends_written (Some bytes) left1 held0 held1 journal text None i d a =
    let l = logs bytes journal text None i.0 d in (nothing_left bytes journal left1 i.0 i.1 l.fault_is, l.fault_is, logged bytes text None held0 held1 l a)
ends_written (Some bytes) left1 held0 held1 journal text (Some (n, faults.Bad kind)) i d a =
    let l = logs bytes journal text (Some (n, faults.Bad kind)) i.0 d in (l.fault_is, logged bytes text (Some (n, faults.Bad kind)) held0 held1 l a)
ends_written (Some bytes) left1 held0 held1 journal text (Some (n, faults.TooLong)) i d a =
    let l = logs bytes journal text (Some (n, faults.TooLong)) i.0 d in (l.fault_is, logged bytes text (Some (n, faults.TooLong)) held0 held1 l a)

-- a front of the log was written
pub ends_in_part : (left0 left1 held0 held1 : Option (List ℕ)) (journal text : List ℕ) (fault : Option (ℕ × LineFault)) → IsIntake left0 left1 journal → replay_of journal ≡ Ok (text, fault) → AppendedSome text held0 held1 → Ends WriteFault left0 left1 held0 held1
ends_in_part None left1 held0 held1 journal text fault i d a = tt
ends_in_part (Some bytes) left1 held0 held1 journal text fault i d a =
    let l = logs bytes journal text fault i.0 d in record { log = l.log; is_log = l.is_log; promised = promised bytes l.log l.is_log; lawful = λ of. one_lawful bytes l.log of l.is_log; appended = subst (λ (t : List ℕ). AppendedSome t held0 held1) (sym l.text_is) a }

-- a count of the model stands at its last value
pub ends_worn : (left0 left1 held : Option (List ℕ)) (journal : List ℕ) → IsIntake left0 left1 journal → replay_of journal ≡ Err stops.Worn → Ends Worn left0 left1 held held
ends_worn None left1 held journal i d = tt
ends_worn (Some bytes) left1 held journal i d = (worn_by bytes (log_of (journal_of many_nodes bytes)) refl (sym (replays journal bytes i.0) ∙ d), refl)
