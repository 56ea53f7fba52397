-- What a log of one node shows of processes and pairs, by looking through its entries.
use Rattle.std.specs.Prelude.{ℕ, Bool, false, ◌&&◌, List, count_by, None, ◌==◌}
use Rattle.std.specs.List.{list_any}
use Rattle.std.specs.Str.{bytes_eq}
use Rattle.ch_model.specs.declared.name.ProcName.{ProcName}
use Rattle.ch_model.specs.declared.name.TargetName.TheVariants.{Process}
use Rattle.ch_model.specs.declared.entry.Entry.{Entry}
use Rattle.ch_model.specs.declared.entry.Entry.TheVariants.{Made, Said, Got, Took, Over}

-- the names are of one process
abbrev pub same_process : ProcName → ProcName → Bool
same_process p q = bytes_eq p.node q.node && p.counter == q.counter

-- the entry makes this process
abbrev pub makes : ProcName → Entry → Bool
makes p (Made process spawn label) = same_process p process
makes p entry = false

-- the entry makes a process of this node
abbrev pub makes_on : List ℕ → Entry → Bool
makes_on node (Made process spawn label) = bytes_eq node process.node
makes_on node entry = false

-- the entry ends this process
abbrev pub ends : ProcName → Entry → Bool
ends p (Over process reason) = same_process p process
ends p entry = false

-- the entry says a message of this pair and epoch
abbrev pub says : ProcName → ProcName → ℕ → Entry → Bool
says p q e (Said by (Process to) epoch index mark body) = same_process p by && same_process q to && e == epoch
says p q e entry = false

-- the entry gets a message of this pair and epoch
abbrev pub gets : ProcName → ProcName → ℕ → Entry → Bool
gets p q e (Got by (Process to) epoch index receiver) = same_process p by && same_process q to && e == epoch
gets p q e entry = false

-- the entry takes a message of this mark from this process's mailbox
abbrev pub takes : ProcName → List ℕ → Entry → Bool
takes p word (Took by None mark body) = same_process p by && bytes_eq word mark
takes p word entry = false

-- the process was made
abbrev pub is_made_in : List Entry → ProcName → Bool
is_made_in log p = list_any (makes p) log

-- the process is over
abbrev pub is_over_in : List Entry → ProcName → Bool
is_over_in log p = list_any (ends p) log

-- how many processes of the node were made
abbrev pub made_in : List Entry → List ℕ → ℕ
made_in log node = count_by (makes_on node) log

-- The epoch of a pair of processes: how often the sender has reconnected. No line of one node reconnects.
abbrev pub epoch_of : List Entry → ProcName → ProcName → ℕ
epoch_of log p q = 0

-- how many messages of the pair's epoch were said, which is the index of its next
abbrev pub index_of : List Entry → ProcName → ProcName → ℕ → ℕ
index_of log p q e = count_by (says p q e) log

-- how many messages of the pair's epoch were got
abbrev pub got_in : List Entry → ProcName → ProcName → ℕ → ℕ
got_in log p q e = count_by (gets p q e) log

-- how many messages of the mark the process has taken
abbrev pub taken_in : List Entry → ProcName → List ℕ → ℕ
taken_in log p word = count_by (takes p word) log
