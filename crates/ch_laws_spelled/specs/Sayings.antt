-- What is known of a saying that is spelled as a journal's grammar allows.
use Rattle.std.specs.Prelude.{◌≡◌, ◌<◌, ◌^◌, true, List, Some, Ok}
use Rattle.ch_ident.specs.Fits.{IsProcess}
use Rattle.ch_ident.specs.Names.{is_name}
use Rattle.ch_ident.specs.Reading.{user_of}
use Rattle.ch_ident.specs.declared.identifier.ProcessId.{ProcessId}
use Rattle.ch_model.specs.declared.entry.Entry.{Entry}
use Rattle.ch_model.specs.declared.entry.Entry.TheVariants as entries
use Rattle.ch_model.specs.declared.line.Line.{Line}
use Rattle.ch_model.specs.declared.name.ProcName.{ProcName}
use Rattle.ch_model.specs.declared.name.TargetName.TheVariants as targets
use Rattle.ch_model.specs.AccountsFrames.{Saying, payload_of}
use Rattle.ch_model.specs.Declarations.{process_id}
use Rattle.ch_model.specs.Naming.{process_as}
use Rattle.ch_model.specs.World.{names_of}

-- the journal gives the process an id, which is in its rule
pub record HasId (journal : List Line) (p : ProcName) : Type 0 where
  pub id : ProcessId
  pub is : process_id journal p ≡ Some id
  pub named : process_as (names_of journal) p ≡ id
  pub fits : IsProcess id

-- a saying is from a process to a process, each with such an id, under a mark that is a name: its payload is read back as its mark
-- and its body
pub record IsWellSaid (journal : List Line) (s : Saying) : Type 0 where
  pub marked : is_name s.mark ≡ true
  pub from : HasId journal s.by
  pub receiver : ProcName
  pub is : s.to ≡ targets.Process receiver
  pub goes : HasId journal receiver
  pub read : user_of (payload_of s) ≡ Ok (record { mark = s.mark; body = s.body })

-- what the entry says is from and to a process of a counter of four bytes
abbrev pub IsCounted : Entry → Type 0
IsCounted (entries.Said by (targets.Process to) epoch index mark body) = (by.counter < 2 ^ 32) × (to.counter < 2 ^ 32)
IsCounted entry = Unit {0}
