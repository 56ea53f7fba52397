-- Where all sayings of a log are spelled as the grammar allows, they are of processes with ids in their rule.
use Rattle.std.proofs.Common.{◌≡◌, List, [], ◌∷◌, sym, ◌∙◌, subst}
use Rattle.std.specs.Prelude.{Option, Some}
use Rattle.ch_ident.specs.declared.identifier.ProcessId.{ProcessId}
use Rattle.ch_ident.specs.Fits.{IsProcess}
use Rattle.ch_model.specs.declared.entry.Entry.{Entry}
use Rattle.ch_model.specs.declared.entry.Entry.TheVariants as entries
use Rattle.ch_model.specs.declared.line.Line.{Line}
use Rattle.ch_model.specs.declared.name.ProcName.{ProcName}
use Rattle.ch_model.specs.declared.name.TargetName.TheVariants as names
use Rattle.ch_model.specs.Declarations as declarations
use Rattle.ch_model.specs.World.{names_of}
use Rattle.ch_laws_spelled.specs.Sayings.{HasId}
use Rattle.ch_laws_spelled.specs.Spelled as spelled
use Rattle.ch_laws_spelled.proofs.NamesFit.{has_id}
use Rattle.ch_laws_messages.specs.SaidGoes.{IsWell, SaysWell}

-- the one id that the journal gives the process is in its rule
id_fits : (journal : List Line) (p : ProcName) → HasId journal p → (id : ProcessId) → declarations.process_id journal p ≡ Some id → IsProcess id
id_fits journal p has id e = let same : ◌≡◌ {A = Option ProcessId} (Some has.id) (Some id) = sym has.is ∙ e in
    let is : has.id ≡ id = cc in subst IsProcess is has.fits

entry_well : (journal : List Line) (entry : Entry) → spelled.IsWell journal entry → IsWell journal entry
entry_well journal (entries.Said by (names.Process to) epoch index mark body) w = (id_fits journal by (has_id journal by w.from), by_receiver w.receiver w.is w.goes) where
  by_receiver : (p : ProcName) → names.Process to ≡ names.Process p → spelled.IsSpelled (names_of journal) p → (at : ProcessId) → declarations.process_id journal to ≡ Some at → IsProcess at
  by_receiver p e is = let same : p ≡ to = cc in subst (λ (q : ProcName). (at : ProcessId) → declarations.process_id journal q ≡ Some at → IsProcess at) same (id_fits journal p (has_id journal p is))
entry_well journal entry w = tt

pub spelled_well : (journal : List Line) (log : List Entry) → spelled.SaysWell journal log → SaysWell journal log
spelled_well journal [] w = tt
spelled_well journal (entry ∷ rest) w = (entry_well journal entry w.0, spelled_well journal rest w.1)
