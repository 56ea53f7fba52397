-- Names of a node: each stands for at most one process, and falls away when that process is over.
use Rattle.std.specs.Prelude.{ℕ, Bool, true, false, not, ◌&&◌, List, [], ◌∷◌, Option, Some, None, IsTrue, cond, is_some, is_none}
use Rattle.std.specs.List.{list_any}
use Rattle.std.specs.Str.{bytes_eq}
use Rattle.ch_model.specs.declared.name.ProcName.{ProcName}
use Rattle.ch_model.specs.declared.entry.Entry.{Entry}
use Rattle.ch_model.specs.declared.entry.Entry.TheVariants as entries
use Rattle.ch_model.specs.Same.{same_process}
use Rattle.ch_model.specs.Logs.{each, each_between, last_of}
use Rattle.ch_model.specs.Life.{is_live}

-- the entry gives this name, or takes it away
abbrev pub is_of_name : List ℕ → List ℕ → Entry → Bool
is_of_name x w (entries.Named node name process) = bytes_eq node x && bytes_eq name w
is_of_name x w entry = false

-- for which process the name stands by this entry, if it is of the name
abbrev pub names_as : List ℕ → List ℕ → Entry → Option (Option ProcName)
names_as x w (entries.Named node name process) = elim (bytes_eq node x && bytes_eq name w) [ true ↦ Some process | false ↦ None ]
names_as x w entry = None

-- nothing for a name that no entry is of
abbrev pub flat : Option (Option ProcName) → Option ProcName
flat None = None
flat (Some found) = found

-- the process for which the name stands
abbrev pub stands : List Entry → List ℕ → List ℕ → Option ProcName
stands log x w = flat (last_of (names_as x w) log)

-- the names that stand for this process, in order of registering
abbrev pub names_of : ProcName → List Entry → List (List ℕ)
names_of p [] = []
names_of p (entries.Named node name (Some process) ∷ rest) =
    cond (same_process process p && not (list_any (is_of_name node name) rest)) (name ∷ names_of p rest) (names_of p rest)
names_of p (entry ∷ rest) = names_of p rest

-- these names of the node fall away first in what stands after
abbrev pub fall_first : List ℕ → List (List ℕ) → List Entry → Bool
fall_first x [] rest = true
fall_first x (w ∷ ws) [] = false
fall_first x (w ∷ ws) (entries.Named node name None ∷ rest) = bytes_eq node x && bytes_eq name w && fall_first x ws rest
fall_first x (w ∷ ws) (entry ∷ rest) = false

-- a name is given to a live process of its node, where it doesn't stand
abbrev pub is_given_free : List Entry → Entry → Bool
is_given_free log (entries.Named node name (Some process)) = is_none (stands log node name) && bytes_eq process.node node && is_live log process
is_given_free log entry = true

-- a name that falls away stands
abbrev pub falls_standing : List Entry → Entry → Bool
falls_standing log (entries.Named node name None) = is_some (stands log node name)
falls_standing log entry = true

-- where a process is over its names fall away at once, in order of registering
abbrev pub loses_names : List Entry → Entry → List Entry → Bool
loses_names log (entries.Over process reason) rest = fall_first process.node (names_of process log) rest
loses_names log entry rest = true

-- names are given and fall away as they should
pub record FollowsNames (log : List Entry) : Type 0 where
  pub free : IsTrue (each is_given_free log)
  pub standing : IsTrue (each falls_standing log)
  pub falls : IsTrue (each_between loses_names log)
