-- What is so of each message that a process gets, by the log before it.
use Rattle.std.specs.Prelude.{◌≡◌, ℕ, ◌==◌, Bool, true, false, not, ◌||◌, List, [], ◌∷◌, ◌++◌, count_by, Some}
use Rattle.std.specs.List.{list_any}
use Rattle.std.specs.Str.{bytes_eq}
use Rattle.ch_model.specs.declared.entry.Entry.{Entry}
use Rattle.ch_model.specs.declared.entry.Entry.TheVariants as entries
use Rattle.ch_model.specs.declared.name.ProcName.{ProcName}
use Rattle.ch_model.specs.declared.name.TargetName.TheVariants as names
use Rattle.ch_model.specs.Delivery.{gets_in}
use Rattle.ch_model.specs.Epochs.{says_in, says_it}
use Rattle.ch_model.specs.Logs.{from_first, last_is}
use Rattle.ch_model.specs.Same.{node_of}
use Rattle.ch_laws_calls.specs.Calls.{Claim}

-- A process gets what it was sent: that was said before, in the first epoch; directly before, where both are of one node; and where they
-- aren't as many messages of the pair were got before as its index says.
pub record IsGotWell (log : List Entry) (by q : ProcName) (epoch index : ℕ) (receiver : ProcName) : Type 0 where
  pub receives : receiver ≡ q
  pub first : epoch ≡ 0
  pub said : list_any (says_it by (names.Process q) epoch index) (from_first (says_in by (names.Process q) epoch) log) ≡ true
  pub at_once : (not (bytes_eq by.node q.node) || last_is (says_it by (names.Process q) epoch index) log) ≡ true
  pub next : bytes_eq by.node q.node ≡ false → count_by (gets_in by (names.Process q) epoch) log ≡ index

abbrev pub GotWell : List Entry → Entry → Type 0
GotWell log (entries.Got by (names.Process q) epoch index (Some receiver)) = IsGotWell log by q epoch index receiver
GotWell log (entries.Got by to epoch index receiver) = ⊥
GotWell log entry = Unit {0}

-- so it is of each entry, after the log before it
abbrev pub AreGotWell : List Entry → List Entry → Type 0
AreGotWell log [] = Unit {0}
AreGotWell log (entry ∷ rest) = GotWell log entry × AreGotWell (log ++ entry ∷ []) rest

-- so it is of all that are got
abbrev pub AllGotWell : Claim
AllGotWell log world = AreGotWell [] log

-- between two nodes, the messages of its pair and epoch that were got before are those with lower indexes: as many as its index
abbrev pub gets_the_next_between : List Entry → Entry → Bool
gets_the_next_between log (entries.Got by to epoch index receiver) = bytes_eq by.node (node_of to) || (count_by (gets_in by to epoch) log == index)
gets_the_next_between log entry = true
