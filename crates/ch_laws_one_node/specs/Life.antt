-- The rules of life: a process is made once, acts and gets messages until it is over, and is over once.
use Rattle.std.specs.Prelude.{◌≡◌, true, false, List}
use Rattle.ch_model.specs.declared.name.ProcName.{ProcName}
use Rattle.ch_model.specs.declared.entry.Entry.{Entry}
use Rattle.ch_laws_one_node.specs.Counts.{is_made_in, is_over_in, made_in}

-- the process was made and isn't over
pub record Lives (log : List Entry) (p : ProcName) : Type 0 where
  pub made : is_made_in log p ≡ true
  pub not_over : is_over_in log p ≡ false

-- the process that is made has the number of those of its node that were made before
abbrev pub IsNextProcess : List Entry → ProcName → Type 0
IsNextProcess log p = p.counter ≡ made_in log p.node
