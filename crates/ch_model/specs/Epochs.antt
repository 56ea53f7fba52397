-- Epochs and indexes. A pair is a sending process and a target. Its messages are numbered by an epoch and an index in it.
use Rattle.std.specs.Prelude.{ℕ, suc, Bool, true, false, not, ◌&&◌, List, count_by, Option, Some, None, ◌==◌, IsTrue, if◌then◌else◌}
use Rattle.std.specs.List.{list_any}
use Rattle.std.specs.Str.{bytes_eq}
use Rattle.ch_model.specs.declared.name.ProcName.{ProcName}
use Rattle.ch_model.specs.declared.name.TargetName.{TargetName}
use Rattle.ch_model.specs.declared.name.TargetName.TheVariants as targets
use Rattle.ch_model.specs.declared.entry.Entry.{Entry}
use Rattle.ch_model.specs.declared.entry.Entry.TheVariants as entries
use Rattle.ch_model.specs.Same.{same_process, same_target, node_of}
use Rattle.ch_model.specs.Logs.{each, since, until, from_first, last_of}

-- the entry says a message of this pair
abbrev pub says : ProcName → TargetName → Entry → Bool
says p d (entries.Said by to epoch index mark body) = same_process by p && same_target to d
says p d entry = false

-- the entry says a message of this pair and epoch
abbrev pub says_in : ProcName → TargetName → ℕ → Entry → Bool
says_in p d e (entries.Said by to epoch index mark body) = same_process by p && same_target to d && epoch == e
says_in p d e entry = false

-- the entry says the message of this pair, epoch and index
abbrev pub says_it : ProcName → TargetName → ℕ → ℕ → Entry → Bool
says_it p d e k (entries.Said by to epoch index mark body) = same_process by p && same_target to d && epoch == e && index == k
says_it p d e k entry = false

-- the entry reconnects this pair
abbrev pub reconnects : ProcName → TargetName → Entry → Bool
reconnects p d (entries.Again by to epoch) = same_process by p && same_target to d
reconnects p d entry = false

-- the entry breaks the first node's link with the second
abbrev pub breaks : List ℕ → List ℕ → Entry → Bool
breaks x y (entries.Broke node peer why) = bytes_eq node x && bytes_eq peer y
breaks x y entry = false

-- the entry breaks the link that the pair's messages go by; within a node nothing does
abbrev pub breaks_pair : ProcName → TargetName → Entry → Bool
breaks_pair p d entry = not (bytes_eq p.node (node_of d)) && breaks p.node (node_of d) entry

-- the target is a name
abbrev pub is_named : TargetName → Bool
is_named (targets.Named node name) = true
is_named to = false

-- the epoch of a message of this pair
abbrev pub epoch_said : ProcName → TargetName → Entry → Option ℕ
epoch_said p d (entries.Said by to epoch index mark body) = if says p d (entries.Said by to epoch index mark body) then Some epoch else None
epoch_said p d entry = None

-- The epoch that a pair with a name goes on in: that of its last message, or the next, where a break came since.
abbrev pub epoch_after : Bool → Option ℕ → ℕ
epoch_after broke None = 0
epoch_after true (Some epoch) = suc epoch
epoch_after false (Some epoch) = epoch

-- The pair's epoch: how often it was reconnected; with a name, how many breaks lie between its messages.
abbrev pub epoch_of : List Entry → ProcName → TargetName → ℕ
epoch_of log p (targets.Process process) = count_by (reconnects p (targets.Process process)) log
epoch_of log p (targets.Port process port) = count_by (reconnects p (targets.Port process port)) log
epoch_of log p (targets.Named node name) =
    epoch_after (list_any (breaks p.node node) (since (says p (targets.Named node name)) log)) (last_of (epoch_said p (targets.Named node name)) log)

-- the index of the epoch's next message: how many it has
abbrev pub index_of : List Entry → ProcName → TargetName → ℕ → ℕ
index_of log p d e = count_by (says_in p d e) log

-- the epoch has broken: a break of the link stands after its first message
abbrev pub has_broken : List Entry → ProcName → TargetName → ℕ → Bool
has_broken log p d e = list_any (breaks_pair p d) (from_first (says_in p d e) log)

-- what stands between the epoch's first message and its break
abbrev pub unbroken : List Entry → ProcName → TargetName → ℕ → List Entry
unbroken log p d e = until (breaks_pair p d) (from_first (says_in p d e) log)

-- the pair waits to be reconnected: its epoch has broken, and its target is no name
abbrev pub is_broken : List Entry → ProcName → TargetName → Bool
is_broken log p d = not (is_named d) && has_broken log p d (epoch_of log p d)

-- a message is said in its pair's epoch
abbrev pub is_said_in_epoch : List Entry → Entry → Bool
is_said_in_epoch log (entries.Said by to epoch index mark body) = epoch == epoch_of log by to
is_said_in_epoch log entry = true

-- a message has the epoch's next index
abbrev pub has_next_index : List Entry → Entry → Bool
has_next_index log (entries.Said by to epoch index mark body) = index == index_of log by to epoch
has_next_index log entry = true

-- a reconnect has the number of those before it, and one more
abbrev pub begins_next_epoch : List Entry → Entry → Bool
begins_next_epoch log (entries.Again by to epoch) = epoch == suc (count_by (reconnects by to) log)
begins_next_epoch log entry = true

-- messages and reconnects are numbered as they come
pub record FollowsEpochs (log : List Entry) : Type 0 where
  pub epochs : IsTrue (each is_said_in_epoch log)
  pub indexes : IsTrue (each has_next_index log)
  pub next_epochs : IsTrue (each begins_next_epoch log)
