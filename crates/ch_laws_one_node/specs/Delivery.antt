-- The one promise: a message is got only if it was said, in order and once, by a receiver that lives.
use Rattle.std.specs.Prelude.{◌≡◌, ℕ, Bool, true, false, ◌&&◌, List, [], ◌∷◌, count_by, ◌==◌, nat_lt}
use Rattle.std.specs.List.{list_any}
use Rattle.ch_model.specs.declared.name.ProcName.{ProcName}
use Rattle.ch_model.specs.declared.name.TargetName.TheVariants.{Process}
use Rattle.ch_model.specs.declared.entry.Entry.{Entry}
use Rattle.ch_model.specs.declared.entry.Entry.TheVariants.{Said, Got}
use Rattle.ch_laws_one_node.specs.Counts.{same_process, epoch_of, index_of, got_in}
use Rattle.ch_laws_one_node.specs.Life.{Lives}

-- a message that is said: a living sender, the pair's epoch, and the next index in it
pub record IsLawfulSaid (log : List Entry) (by to : ProcName) (epoch index : ℕ) : Type 0 where
  pub living : Lives log by
  pub epoch_is : epoch ≡ epoch_of log by to
  pub index_is : index ≡ index_of log by to epoch

-- the entry says the message of this pair, epoch and index
abbrev pub is_the_said : ProcName → ProcName → ℕ → ℕ → Entry → Bool
is_the_said p q e k (Said by (Process to) epoch index mark body) = same_process p by && same_process q to && e == epoch && k == index
is_the_said p q e k entry = false

-- the entry gets a message of this pair and a later epoch
abbrev pub gets_later : ProcName → ProcName → ℕ → Entry → Bool
gets_later p q e (Got by (Process to) epoch index receiver) = same_process p by && same_process q to && nat_lt e epoch
gets_later p q e entry = false

-- the last entry passes the test
abbrev pub last_is : (Entry → Bool) → List Entry → Bool
last_is test [] = false
last_is test (entry ∷ []) = test entry
last_is test (entry ∷ next ∷ rest) = last_is test (next ∷ rest)

-- A lawful receipt. On one node a message is got at once, directly after it was said.
pub record IsLawfulReceipt (log : List Entry) (by to : ProcName) (epoch index : ℕ) (receiver : ProcName) : Type 0 where
  pub said_first : list_any (is_the_said by to epoch index) log ≡ true
  pub in_order_and_once : got_in log by to epoch ≡ index
  pub epochs_in_order : count_by (gets_later by to epoch) log ≡ 0
  pub receiver_is : receiver ≡ to
  pub living : Lives log to
  pub at_once : last_is (is_the_said by to epoch index) log ≡ true
