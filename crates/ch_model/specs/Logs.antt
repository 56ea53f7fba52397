-- How a log is looked through: an entry at a time, with the log before it. A moment is a log as it stood between two entries.
use Rattle.std.specs.Prelude.{Bool, true, false, ◌&&◌, ◌||◌, cond, List, [], ◌∷◌, ◌++◌, fold, Option, Some, None}
use Rattle.ch_model.specs.declared.entry.Entry.{Entry}

-- the rest of a log passes a test of each entry and the log before it
abbrev pub each_after : (List Entry → Entry → Bool) → List Entry → List Entry → Bool
each_after test before [] = true
each_after test before (entry ∷ rest) = test before entry && each_after test (before ++ entry ∷ []) rest

-- each entry passes a test, after the log before it
abbrev pub each : (List Entry → Entry → Bool) → List Entry → Bool
each test log = each_after test [] log

-- the rest of a log passes a test of each entry, the log before it and what stands after it
abbrev pub each_between_after : (List Entry → Entry → List Entry → Bool) → List Entry → List Entry → Bool
each_between_after test before [] = true
each_between_after test before (entry ∷ rest) = test before entry rest && each_between_after test (before ++ entry ∷ []) rest

-- each entry passes a test, between the log before it and what stands after it
abbrev pub each_between : (List Entry → Entry → List Entry → Bool) → List Entry → Bool
each_between test log = each_between_after test [] log

-- the test passes at this moment and at each later one
abbrev pub always_after : (List Entry → Bool) → List Entry → List Entry → Bool
always_after test before [] = test before
always_after test before (entry ∷ rest) = test before && always_after test (before ++ entry ∷ []) rest

-- the test passes at each moment of the log
abbrev pub always : (List Entry → Bool) → List Entry → Bool
always test log = always_after test [] log

-- the test passes at this moment or at a later one
abbrev pub once_after : (List Entry → Bool) → List Entry → List Entry → Bool
once_after test before [] = test before
once_after test before (entry ∷ rest) = test before || once_after test (before ++ entry ∷ []) rest

-- the test passes at some moment of the log, its end included
abbrev pub once : (List Entry → Bool) → List Entry → Bool
once test log = once_after test [] log

-- what stands after the last entry that passes the test; all, where none does
abbrev pub since : (Entry → Bool) → List Entry → List Entry
since test log = fold (λ kept entry. cond (test entry) [] (kept ++ entry ∷ [])) [] log

-- what stands before the first entry that passes the test; all, where none does
abbrev pub until : (Entry → Bool) → List Entry → List Entry
until test [] = []
until test (entry ∷ rest) = cond (test entry) [] (entry ∷ until test rest)

-- the first entry that passes the test and all after it; nothing, where none does
abbrev pub from_first : (Entry → Bool) → List Entry → List Entry
from_first test [] = []
from_first test (entry ∷ rest) = cond (test entry) (entry ∷ rest) (from_first test rest)

-- the first that is there
abbrev pub or_else : {A : Type 0} → Option A → Option A → Option A
or_else None other = other
or_else (Some x) other = Some x

-- the first thing that is found in a list
abbrev pub first_of : {A B : Type 0} → (A → Option B) → List A → Option B
first_of look [] = None
first_of look (x ∷ xs) = or_else (look x) (first_of look xs)

-- the last thing that is found in a log
abbrev pub last_of : {B : Type 0} → (Entry → Option B) → List Entry → Option B
last_of look log = fold (λ found entry. or_else (look entry) found) None log

-- the last entry
abbrev pub last_entry : List Entry → Option Entry
last_entry log = last_of Some log

-- something is there, and it passes the test
abbrev pub some_and : {A : Type 0} → (A → Bool) → Option A → Bool
some_and test None = false
some_and test (Some x) = test x

-- nothing is there, or it passes the test
abbrev pub none_or : {A : Type 0} → (A → Bool) → Option A → Bool
none_or test None = true
none_or test (Some x) = test x

-- the first entry of what stands after passes the test
abbrev pub next_is : (Entry → Bool) → List Entry → Bool
next_is test [] = false
next_is test (entry ∷ rest) = test entry

-- the last entry before passes the test
abbrev pub last_is : (Entry → Bool) → List Entry → Bool
last_is test log = some_and test (last_entry log)

-- what is found, if anything, after what was kept
abbrev pub kept_with : {B : Type 0} → Option B → List B → List B
kept_with None kept = kept
kept_with (Some x) kept = kept ++ x ∷ []

-- what is found in the rest of a log, each after the log before it; what resets begins anew
abbrev pub collected_after : {B : Type 0} → (Entry → Bool) → (List Entry → Entry → Option B) → List Entry → List B → List Entry → List B
collected_after reset look before kept [] = kept
collected_after reset look before kept (entry ∷ rest) = collected_after reset look (before ++ entry ∷ []) (cond (reset entry) [] (kept_with (look before entry) kept)) rest

-- what is found of each entry after the log before it, in order, since the last entry that resets
abbrev pub collected : {B : Type 0} → (Entry → Bool) → (List Entry → Entry → Option B) → List Entry → List B
collected reset look log = collected_after reset look [] [] log

-- no entry resets
abbrev pub never : Entry → Bool
never entry = false
