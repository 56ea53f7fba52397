-- Who was made, is over, doomed or live, and which node is shut.
use Rattle.std.specs.Prelude.{ℕ, Bool, false, not, ◌&&◌, ◌||◌, List}
use Rattle.std.specs.List.{list_any}
use Rattle.std.specs.Str.{bytes_eq}
use Rattle.ch_model.specs.declared.name.ProcName.{ProcName}
use Rattle.ch_model.specs.declared.entry.Entry.{Entry}
use Rattle.ch_model.specs.declared.entry.Entry.TheVariants as entries
use Rattle.ch_model.specs.Same.{same_process}

-- the entry makes this process
abbrev pub makes : ProcName → Entry → Bool
makes p (entries.Made process spawn label) = same_process process p
makes p entry = false

-- the entry makes a process of this node
abbrev pub makes_on : List ℕ → Entry → Bool
makes_on node (entries.Made process spawn label) = bytes_eq process.node node
makes_on node entry = false

-- the entry ends this process
abbrev pub ends : ProcName → Entry → Bool
ends p (entries.Over process reason) = same_process process p
ends p entry = false

-- the entry shuts this node
abbrev pub shuts : List ℕ → Entry → Bool
shuts x (entries.Shut node) = bytes_eq node x
shuts x entry = false

-- the entry dooms this process
abbrev pub dooms : ProcName → Entry → Bool
dooms p (entries.Doom process text) = same_process process p
dooms p entry = false

-- the process was made
abbrev pub is_made : List Entry → ProcName → Bool
is_made log p = list_any (makes p) log

-- the node is shut
abbrev pub is_shut : List Entry → List ℕ → Bool
is_shut log x = list_any (shuts x) log

-- the process has ended, or its node is shut
abbrev pub is_over : List Entry → ProcName → Bool
is_over log p = list_any (ends p) log || is_shut log p.node

-- the process was doomed
abbrev pub is_doomed : List Entry → ProcName → Bool
is_doomed log p = list_any (dooms p) log

-- the process was made, and is neither over nor doomed
abbrev pub is_live : List Entry → ProcName → Bool
is_live log p = is_made log p && not (is_over log p) && not (is_doomed log p)
