-- What is given of the messages that a log says: they are numbered as they come, and what they name and carry can be spelled.
use Rattle.std.specs.Prelude.{◌≡◌, ℕ, true, List, slice_get, Some}
use Rattle.ch_ident.specs.declared.identifier.ProcessId.{ProcessId}
use Rattle.ch_ident.specs.Fits.{IsProcess}
use Rattle.ch_ident.specs.Names.{is_name}
use Rattle.ch_model.specs.declared.entry.Entry.{Entry}
use Rattle.ch_model.specs.declared.entry.Entry.TheVariants as entries
use Rattle.ch_model.specs.declared.line.Line.{Line}
use Rattle.ch_model.specs.declared.name.ProcName.{ProcName}
use Rattle.ch_model.specs.declared.name.TargetName.{TargetName}
use Rattle.ch_model.specs.declared.name.TargetName.TheVariants as names
use Rattle.ch_model.specs.Declarations.{process_id}
use Rattle.ch_model.specs.Epochs.{FollowsEpochs}

-- a declared process, with numbers of four bytes
pub record IsSpelled (journal : List Line) (p : ProcName) : Type 0 where
  pub id : ProcessId
  pub is : process_id journal p ≡ Some id
  pub fits : IsProcess id

-- a message from a process to a process, both such, under a mark that is a name
pub record IsSaidWell (journal : List Line) (by : ProcName) (to : TargetName) (mark : List ℕ) : Type 0 where
  pub from : IsSpelled journal by
  pub receiver : ProcName
  pub is : to ≡ names.Process receiver
  pub goes : IsSpelled journal receiver
  pub marked : is_name mark ≡ true

-- each message of the log is such, and they are numbered as they come
pub record SaidWell (journal : List Line) (log : List Entry) : Type 0 where
  pub each : (i : ℕ) (by : ProcName) (to : TargetName) (epoch index : ℕ) (mark body : List ℕ) → slice_get log i ≡ Some (entries.Said by to epoch index mark body) → IsSaidWell journal by to mark
  pub numbered : FollowsEpochs log
