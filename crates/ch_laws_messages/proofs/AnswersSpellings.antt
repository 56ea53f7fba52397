-- A log whose messages are spelled as its journal's grammar allows: what the laws of sends, of what is got and of what is said ask of it.
use Rattle.std.proofs.Common.{◌≡◌, ℕ, List, [], ◌∷◌, sym, ◌∙◌, subst}
use Rattle.std.specs.Prelude.{Option, Some, slice_get}
use Rattle.ch_ident.specs.declared.identifier.ProcessId.{ProcessId}
use Rattle.ch_ident.specs.Fits.{IsProcess}
use Rattle.ch_model.specs.declared.entry.Entry.{Entry}
use Rattle.ch_model.specs.declared.entry.Entry.TheVariants as entries
use Rattle.ch_model.specs.declared.line.Line.{Line}
use Rattle.ch_model.specs.declared.name.ProcName.{ProcName}
use Rattle.ch_model.specs.declared.name.TargetName.{TargetName}
use Rattle.ch_model.specs.declared.name.TargetName.TheVariants as targets
use Rattle.ch_model.specs.Declarations.{process_id}
use Rattle.ch_model.specs.Epochs.{FollowsEpochs}
use Rattle.ch_laws_spelled.specs.Sayings.{HasId, IsCounted}
use Rattle.ch_laws_spelled.specs.Spelled as spelled
use Rattle.ch_laws_spelled.proofs.NamesFit.{has_id}
use Rattle.ch_laws_spelled.proofs.Sayings.{entry_well, is_counted}
use Rattle.ch_laws_messages.specs.GotSaidWell as got
use Rattle.ch_laws_messages.specs.SaidGoes as said
use Rattle.ch_laws_messages.specs.SendsSends.{SaidSmall, SaysSmall}

-- ---- counters

counted_small : (entry : Entry) → IsCounted entry → SaidSmall entry
counted_small (entries.Said by (targets.Process to) epoch index mark body) c = c
counted_small entry c = tt

-- what is said is said by and to processes of small counters
pub says_small : (journal : List Line) (log : List Entry) → spelled.SaysWell journal log → SaysSmall log
says_small journal [] well = tt
says_small journal (entry ∷ log) well = (counted_small entry (is_counted journal entry well.0), says_small journal log well.1)

-- ---- what may be got

spelled_so : (journal : List Line) (p : ProcName) → HasId journal p → got.IsSpelled journal p
spelled_so journal p h = record { id = h.id; is = h.is; fits = h.fits }

-- each message is of two declared processes and under a name, and is numbered as it comes
pub said_well : (journal : List Line) (log : List Entry) → spelled.SaysWell journal log → FollowsEpochs log → got.SaidWell journal log
said_well journal log well numbered = record { each = one; numbered = numbered } where
  one : (i : ℕ) (by : ProcName) (to : TargetName) (epoch index : ℕ) (mark body : List ℕ) → slice_get log i ≡ Some (entries.Said by to epoch index mark body) → got.IsSaidWell journal by to mark
  one i by to epoch index mark body e = let w = entry_well journal log well i by to epoch index mark body e in record {
    from = spelled_so journal by w.from;
    receiver = w.receiver;
    is = w.is;
    goes = spelled_so journal w.receiver w.goes;
    marked = w.marked;
  }

-- ---- what may be said

-- the one id of a process is in its rule
id_fits : (journal : List Line) (p : ProcName) → HasId journal p → (id : ProcessId) → process_id journal p ≡ Some id → IsProcess id
id_fits journal p h id e = subst IsProcess (same h.id id (sym h.is ∙ e)) h.fits where
  same : (a b : ProcessId) → ◌≡◌ {A = Option ProcessId} (Some a) (Some b) → a ≡ b
  same a b e = cc

entry_says : (journal : List Line) (entry : Entry) → spelled.IsWell journal entry → said.IsWell journal entry
entry_says journal (entries.Said by (targets.Process to) epoch index mark body) w = (id_fits journal by (has_id journal by w.from), id_fits journal to (by_receiver w.receiver w.is (has_id journal w.receiver w.goes))) where
  by_receiver : (p : ProcName) → targets.Process to ≡ targets.Process p → HasId journal p → HasId journal to
  by_receiver p e h = let same : p ≡ to = cc in subst (HasId journal) same h
entry_says journal entry w = tt

-- each message is by and to processes with ids in their rule
pub says_well : (journal : List Line) (log : List Entry) → spelled.SaysWell journal log → said.SaysWell journal log
says_well journal [] well = tt
says_well journal (entry ∷ log) well = (entry_says journal entry well.0, says_well journal log well.1)
