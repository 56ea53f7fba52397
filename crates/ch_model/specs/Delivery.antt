-- The one promise: a message is got only if it was said before its epoch broke, in order and once, by a receiver that lives.
use Rattle.std.specs.Prelude.{ℕ, Bool, true, false, not, ◌&&◌, ◌||◌, List, count_by, Option, Some, IsTrue, ◌==◌, nat_lt}
use Rattle.std.specs.List.{list_any}
use Rattle.std.specs.Str.{bytes_eq}
use Rattle.ch_model.specs.declared.name.ProcName.{ProcName}
use Rattle.ch_model.specs.declared.name.SockName.{SockName}
use Rattle.ch_model.specs.declared.name.TargetName.{TargetName}
use Rattle.ch_model.specs.declared.name.TargetName.TheVariants as targets
use Rattle.ch_model.specs.declared.entry.Entry.{Entry}
use Rattle.ch_model.specs.declared.entry.Entry.TheVariants as entries
use Rattle.ch_model.specs.Same.{same_process, same_target, same_finding, node_of, end_of}
use Rattle.ch_model.specs.Logs.{each, last_is}
use Rattle.ch_model.specs.Epochs.{says_it, unbroken}
use Rattle.ch_model.specs.Life.{is_made, is_over}
use Rattle.ch_model.specs.Names.{stands}
use Rattle.ch_model.specs.Links.{up_sockets, has_risen}

-- the entry gets a message of this pair and epoch
abbrev pub gets_in : ProcName → TargetName → ℕ → Entry → Bool
gets_in p d e (entries.Got by to epoch index receiver) = same_process by p && same_target to d && epoch == e
gets_in p d e entry = false

-- the entry gets the message of this pair, epoch and index
abbrev pub gets_it : ProcName → TargetName → ℕ → ℕ → Entry → Bool
gets_it p d e k (entries.Got by to epoch index receiver) = same_process by p && same_target to d && epoch == e && index == k
gets_it p d e k entry = false

-- the entry gets a message of this pair and a later epoch
abbrev pub gets_later : ProcName → TargetName → ℕ → Entry → Bool
gets_later p d e (entries.Got by to epoch index receiver) = same_process by p && same_target to d && nat_lt e epoch
gets_later p d e entry = false

-- the entry opens this port
abbrev pub opens_port : ProcName → ℕ → Entry → Bool
opens_port p n (entries.Port process port) = same_process process p && port == n
opens_port p n entry = false

-- the target was made: the process, or the port of a process; a name is always there to send to
abbrev pub is_there : List Entry → TargetName → Bool
is_there log (targets.Process process) = is_made log process
is_there log (targets.Port process port) = list_any (opens_port process port) log
is_there log (targets.Named node name) = true

-- the process was made and isn't over
abbrev pub may_receive : List Entry → ProcName → Bool
may_receive log p = is_made log p && not (is_over log p)

-- who receives what is sent to the target: its process, where that may; for a name the process that it stands for then, or nobody
abbrev pub is_receiver : List Entry → TargetName → Option ProcName → Bool
is_receiver log (targets.Process process) receiver = same_finding receiver (Some process) && may_receive log process
is_receiver log (targets.Port process port) receiver = same_finding receiver (Some process) && may_receive log process && list_any (opens_port process port) log
is_receiver log (targets.Named node name) receiver = same_finding receiver (stands log node name)

-- y is up on a socket of the pair on which x has come up
abbrev pub hears_from : List Entry → List ℕ → List ℕ → Bool
hears_from log y x = list_any (λ (sock : SockName). has_risen log sock (end_of x sock)) (up_sockets log y x)

-- a message that is got was said before, and before its epoch broke
abbrev pub gets_the_said : List Entry → Entry → Bool
gets_the_said log (entries.Got by to epoch index receiver) = list_any (says_it by to epoch index) (unbroken log by to epoch)
gets_the_said log entry = true

-- the messages of its epoch that were got before are those with lower indexes: as many as its index
abbrev pub gets_the_next : List Entry → Entry → Bool
gets_the_next log (entries.Got by to epoch index receiver) = count_by (gets_in by to epoch) log == index
gets_the_next log entry = true

-- no message of a later epoch of its pair was got before
abbrev pub gets_no_earlier : List Entry → Entry → Bool
gets_no_earlier log (entries.Got by to epoch index receiver) = not (list_any (gets_later by to epoch) log)
gets_no_earlier log entry = true

-- who receives is whom the target stands for, and lives
abbrev pub gets_by_receiver : List Entry → Entry → Bool
gets_by_receiver log (entries.Got by to epoch index receiver) = is_receiver log to receiver
gets_by_receiver log entry = true

-- between two nodes the link is up
abbrev pub gets_over_link : List Entry → Entry → Bool
gets_over_link log (entries.Got by to epoch index receiver) = bytes_eq by.node (node_of to) || hears_from log (node_of to) by.node
gets_over_link log entry = true

-- within a node it was said directly before
abbrev pub gets_at_once : List Entry → Entry → Bool
gets_at_once log (entries.Got by to epoch index receiver) = not (bytes_eq by.node (node_of to)) || last_is (says_it by to epoch index) log
gets_at_once log entry = true

-- each receipt is lawful after the log before it
pub record HasLawfulReceipts (log : List Entry) : Type 0 where
  pub said_first : IsTrue (each gets_the_said log)
  pub in_order_and_once : IsTrue (each gets_the_next log)
  pub epochs_in_order : IsTrue (each gets_no_earlier log)
  pub living_receiver : IsTrue (each gets_by_receiver log)
  pub over_a_link : IsTrue (each gets_over_link log)
  pub at_once : IsTrue (each gets_at_once log)
